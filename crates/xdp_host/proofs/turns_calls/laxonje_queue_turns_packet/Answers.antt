use Rattle.std.proofs.Common.{◌≡◌, ◌++◌, Option, drop, length, subst, take}
use Rattle.std.specs.Prelude.{IfNone, IfSome, slice_get}
use Rattle.xen_host.specs.Severals.{packets_of}
use Rattle.xen_host.specs.declared.queue.Queue.{Queue}
use Rattle.xdp_host.proofs.TurnsLemmas.{copies}
use Rattle.xdp_host.proofs.turns_calls.laxonje_queue_turns_packet.Goals as goal

pub returns-in-Some-clause-there : goal.returns-in-Some-clause-there
returns-in-Some-clause-there c =
    let out = c.args.out.now in
    let after = c.copied.new.out in
    let n = c.copied.result in
    let both = copies (slice_get (packets_of c.in-Some.held.now) c.args.number) c.packet_of_turn.result.now out after n c.packet_of_turn.ensures.same c.copied.ensures.count c.copied.ensures.copied in
    subst (λ (o : Option Queue). IfSome o (λ q. IfSome (slice_get (packets_of q) c.args.number) (λ p. (n ≡ length p) × (after ≡ take (length out) p ++ drop (length p) out)))) c.in-Some.ensures.value both.0

pub returns-in-Some-clause-none : goal.returns-in-Some-clause-none
returns-in-Some-clause-none c =
    let out = c.args.out.now in
    let after = c.copied.new.out in
    let n = c.copied.result in
    let both = copies (slice_get (packets_of c.in-Some.held.now) c.args.number) c.packet_of_turn.result.now out after n c.packet_of_turn.ensures.same c.copied.ensures.count c.copied.ensures.copied in
    subst (λ (o : Option Queue). IfSome o (λ q. IfNone (slice_get (packets_of q) c.args.number) ((n ≡ 0) × (after ≡ out)))) c.in-Some.ensures.value both.1
