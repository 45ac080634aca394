use Rattle.std.proofs.Common.{◌≡◌, ◌<◌, ℕ, Some, false, length, get_or, slice_get, sym, ◌∙◌, ap, subst, arith}
use Rattle.std.proofs.lemmas.List.{get_or_read}
use Rattle.std.proofs.lemmas.Option.{slice_get_within}
use Rattle.xen_steps.specs.Drive.{IsPageWant}
use Rattle.xen_rx_fill.specs.declared.vif.Vif.{Vif}
use Rattle.xen_steps.specs.Steps.{want_of}
use Rattle.xen_back.specs.Queues.{rest, wiring_of}
use Rattle.xen_turns.specs.Within.{may_want}
use Rattle.xen_back.specs.declared.queue.Queue.{Queue}
use Rattle.xdp_world.specs.Doings.{Fits, is_call, want_at}
use Rattle.xdp_world.specs.declared.doing.Doing.{Doing}
use Rattle.xdp_world.specs.declared.doing.Doing.TheVariants as doing
use Rattle.xdp_world.proofs.Fitting.{free_want, not_call, page_within}
use Rattle.xdp_world.proofs.Worlds.{get_some}
use Rattle.xdp_world.proofs.world.World.want.Goals as goal

pub returns-in-Delivery-clause-within : goal.returns-in-Delivery-clause-within
returns-in-Delivery-clause-within c = λ d n.
    let w = c.args.self.now in
    let i = c.args.queue in
    let x = c.in-Delivery.delivering in
    let at = c.index.result.now in
    let l : i < length w.queues.items = omega (arith, c.requires, w.queues.ok.0) in
    let q = get_or w.queues.items i d in
    let fits : Fits (doing.Delivery x) q = subst (λ (y : Doing). Fits y q) (sym c.index.ensures ∙ c.in-Delivery.is) (w.fits i at d l) in
    let frames : length x.vif.owners.now ≡ length (wiring_of q).vif.owners.now = ap (λ (v : Vif). length v.owners.now) fits.1 in
    page_within (length (wiring_of q).vif.owners.now) (wiring_of q).program.now.shapes c.want.result (subst (λ (m : ℕ). IsPageWant m c.want.result) frames (c.want.ensures.within n))

pub returns-in-Delivery-clause-want : goal.returns-in-Delivery-clause-want
returns-in-Delivery-clause-want c = λ d.
    let w = c.args.self.now in
    let i = c.args.queue in
    let at = c.index.result.now in
    let l : i < length w.doing.items = omega (arith, c.requires, w.all_doing, w.doing.ok.0) in
    let there : slice_get w.doing.items i ≡ Some (doing.Delivery c.in-Delivery.delivering) =
    get_some w.doing.items i at l (λ e. sym (get_or_read w.doing.items i at l c.index.ensures e)) ∙ ap Some c.in-Delivery.is in
    c.want.ensures.want ∙ ap (want_at (get_or w.queues.items i d)) (sym there)

pub returns-in-Wait-clause-within : goal.returns-in-Wait-clause-within
returns-in-Wait-clause-within c = λ d n.
    let w = c.args.self.now in
    let i = c.args.queue in
    let x = c.in-Wait.awaiting in
    let at = c.index.result.now in
    let l : i < length w.queues.items = omega (arith, c.requires, w.queues.ok.0) in
    let q = get_or w.queues.items i d in
    let frames = length (wiring_of q).vif.owners.now in
    let fits : Fits (doing.Wait x) q = subst (λ (y : Doing). Fits y q) (sym c.index.ensures ∙ c.in-Wait.is) (w.fits i at d l) in
    let within : (wiring_of q).vif.rx < frames = slice_get_within (wiring_of q).vif.owners.now (wiring_of q).vif.rx (wiring_of q).vif.granter q.wired.rx in
    page_within frames (wiring_of q).program.now.shapes c.want-in-Wait.result (c.want-in-Wait.ensures.within frames (subst (λ (m : ℕ). m < frames) (sym fits.1) within) n)

pub returns-in-Wait-clause-want : goal.returns-in-Wait-clause-want
returns-in-Wait-clause-want c = λ d.
    let w = c.args.self.now in
    let i = c.args.queue in
    let at = c.index.result.now in
    let l : i < length w.doing.items = omega (arith, c.requires, w.all_doing, w.doing.ok.0) in
    let there : slice_get w.doing.items i ≡ Some (doing.Wait c.in-Wait.awaiting) =
    get_some w.doing.items i at l (λ e. sym (get_or_read w.doing.items i at l c.index.ensures e)) ∙ ap Some c.in-Wait.is in
    c.want-in-Wait.ensures.want ∙ ap (want_at (get_or w.queues.items i d)) (sym there)

pub returns-in_default : goal.returns-in_default
returns-in_default c =
    let w = c.args.self.now in
    let i = c.args.queue in
    let at = c.index.result.now in
    let q = c.index-in_default.result.now in
    let l : i < length w.doing.items = omega (arith, c.requires, w.all_doing, w.doing.ok.0) in
    let lq : i < length w.queues.items = omega (arith, c.requires, w.queues.ok.0) in
    let there : slice_get w.doing.items i ≡ Some at = get_some w.doing.items i at l (λ e. sym (get_or_read w.doing.items i at l c.index.ensures e)) in
    let is : (d : Queue) → q ≡ get_or w.queues.items i d = λ d. get_or_read w.queues.items i q lq c.index-in_default.ensures d in
    let free : is_call (Some at) ≡ false = not_call at c.in_default.not-Delivery c.in_default.not-Wait in
    record {
      within = λ d n. subst (λ (x : Queue). may_want (wiring_of x) c.want-in_default.result) (is d) (c.want-in_default.ensures.within n);
      want = λ d.
          c.want-in_default.ensures.want ∙ ap (λ (x : Queue). want_of (rest x)) (is d)
          ∙ sym (free_want (get_or w.queues.items i d) (slice_get w.doing.items i) (ap is_call there ∙ free));
    }
