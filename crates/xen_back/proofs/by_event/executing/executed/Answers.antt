use Rattle.std.proofs.Common.{◌≡◌, ◌%◌, ◌^◌, ℕ, List, ap, sym, ◌∙◌}
use Rattle.bpf_vm.specs.Course.{Course, Exiting}
use Rattle.xen_steps.specs.Steps.{bind, next_by}
use Rattle.xen_turns.specs.Tree.{after_run, program}
use Rattle.xen_back.specs.declared.by_event.stage.Executing.{Executing}
use Rattle.xen_turns.specs.declared.state.State.{State}
use Rattle.xen_turns.specs.declared.wiring.Wiring.{Wiring}
use Rattle.xen_back.proofs.by_event.executing.executed.Goals as goal

-- an exit's instruction leaves what follows a run that ended so
exited : (w : Wiring) (s : State) (r : Executing) (word counter number r0 : ℕ) (packet bytes : List ℕ) (c : Course) →
    packet ≡ bytes → c ≡ Exiting r0 bytes → number ≡ r0 % 2 ^ 32 →
    after_run w s r.chain (record { number = number; packet = packet; ops = r.ops }) ≡ next_by (bind (program c r.ops) (after_run w s r.chain)) word counter
exited w s r word counter number r0 packet bytes c of course value =
    ap (λ b. after_run w s r.chain (record { number = number; packet = b; ops = r.ops })) of
    ∙ ap (λ n. after_run w s r.chain (record { number = n; packet = bytes; ops = r.ops })) value
    ∙ sym (ap (λ cs. next_by (bind (program cs r.ops) (after_run w s r.chain)) word counter) course)

pub returns-then-number-eq-XDP_TX : goal.returns-then-number-eq-XDP_TX
returns-then-number-eq-XDP_TX c w word =
    let s = c.args.state.now in
    let r = c.args.run in
    let f = c.finish-number.ensures.course in
    c.begin_send.ensures w s c.of-packet.result
    ∙ ap (λ n. after_run w s r.chain (record { number = n; packet = c.of-packet.result; ops = r.ops })) (sym c.if-number-eq-XDP_TX.true)
    ∙ exited w s r word c.args.counter c.finish-number.result.0 f.0 c.of-packet.result c.finish-number.result.1.bytes _ c.of-packet.ensures f.1 f.2

pub returns-else-number-eq-XDP_TX : goal.returns-else-number-eq-XDP_TX
returns-else-number-eq-XDP_TX c w word =
    let s = c.args.state.now in
    let r = c.args.run in
    let f = c.finish-number.ensures.course in
    c.answer_run.ensures w c.of-packet.result
    ∙ exited w s r word c.args.counter c.finish-number.result.0 f.0 c.of-packet.result c.finish-number.result.1.bytes _ c.of-packet.ensures f.1 f.2
