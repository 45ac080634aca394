use Rattle.std.proofs.Common.{◌≡◌, ◌<◌, ℕ, ◌++◌, List, Option, Some, true, length, get_or, set, slice_get, refl, sym, subst, ◌∙◌, ap, arith, get_or-set_same, length-set}
use Rattle.std.proofs.lemmas.List.{get_or_read}
use Rattle.std.specs.Global.{Vec}
use Rattle.xen_back.specs.Queues.{wiring_of}
use Rattle.xen_back.specs.declared.queue.Queue.{Queue}
use Rattle.xen_turns.specs.declared.wiring.Wiring.{Wiring}
use Rattle.xdp_world.specs.Carries.{delivered_list}
use Rattle.xdp_world.specs.Doings.{Fits, is_between}
use Rattle.xdp_world.specs.Stands.{delivered_in, delivered_of, kept_in, kept_of, waited_in}
use Rattle.xdp_world.specs.declared.doing.Doing.{Doing}
use Rattle.xdp_world.specs.declared.doing.Doing.TheVariants as doing
use Rattle.xdp_world.specs.declared.kept.Kept.{Kept}
use Rattle.xdp_world.specs.declared.report.Delivered.{Delivered}
use Rattle.xdp_world.specs.declared.report.Waited.{Waited}
use Rattle.xdp_world.proofs.Delivers.{deliver_of}
use Rattle.xdp_world.proofs.Fitting.{between_is, fit_set, shapes_set, true_ready}
use Rattle.xdp_world.proofs.Worlds.{After, get_set, get_set_other, get_some, stands_given}
use Rattle.xdp_world.proofs.world.World.deliver.Goals as goal

pub begun-after-requires : goal.begun-after-requires
begun-after-requires c =
    let w = c.args.self.now in
    let i = c.args.queue in
    let q = c.index_mut-2.result.now in
    let at = c.index.result.now in
    let l : i < length w.queues.items = omega (arith, c.requires, w.queues.ok.0) in
    let la : i < length w.doing.items = omega (arith, c.requires, w.doing.ok.0, w.all_doing) in
    let is : get_or w.queues.items i q ≡ q = sym (get_or_read w.queues.items i q l c.index_mut-2.ensures.value q) in
    let does : get_or w.doing.items i at ≡ at = sym (get_or_read w.doing.items i at la c.index.ensures at) in
    let between : at ≡ doing.Between = between_is at (sym c.is_between.ensures ∙ c.if-not-is_between.false) in
    true_ready q (subst (λ (x : Doing). Fits x q) (does ∙ between) (subst (λ (x : Queue). Fits (get_or w.doing.items i at) x) is (w.fits i at q l)))

pub invariant_of-self-2 : goal.invariant_of-self-2
invariant_of-self-2 c =
    let w = c.args.self.now in
    let i = c.args.queue in
    let q = c.index_mut-2.result.now in
    let s = c.begun-after in
    let qs : List Queue = w.queues.items in
    let ats : List Doing = w.doing.items in
    let l : i < length qs = omega (arith, c.requires, w.queues.ok.0) in
    let la : i < length ats = omega (arith, c.requires, w.doing.ok.0, w.all_doing) in
    let is : get_or qs i q ≡ q = sym (get_or_read qs i q l c.index_mut-2.ensures.value q) in
    let mine : (wiring_of s.new.queue).program.now.shapes ≡ w.counters.shapes =
    ap (λ (x : Wiring). x.program.now.shapes) s.ensures.same ∙ ap (λ (x : Queue). (wiring_of x).program.now.shapes) (sym is) ∙ w.shapes i q l in
    record {
      size = w.size;
      all_doing = w.all_doing;
      all_delivered = w.all_delivered;
      all_waited = w.all_waited;
      empty = w.empty;
      shapes = shapes_set qs i s.new.queue w.counters.shapes w.counters.shapes l w.shapes refl mine;
      fits = fit_set ats qs i s.result.0 s.new.queue la l w.fits s.ensures.fits;
    }

pub returns-clause-ok : goal.returns-clause-ok
returns-clause-ok c =
    let w = c.args.self.now in
    let i = c.args.queue in
    let p = c.args.packet.now in
    let q = c.index_mut-2.result.now in
    let at = c.index.result.now in
    let s = c.begun-after in
    let q' = s.new.queue in
    let at' = s.result.0 in
    let o = s.result.1 in
    let qs : List Queue = w.queues.items in
    let ats : List Doing = w.doing.items in
    let ls : List (Vec Delivered) = w.deliveries.items in
    let l : i < length qs = omega (arith, c.requires, w.queues.ok.0) in
    let la : i < length ats = omega (arith, c.requires, w.doing.ok.0, w.all_doing) in
    let lt : i < length w.turns.items = omega (arith, c.requires, w.turns.ok.0, w.size) in
    let ll : i < length ls = omega (arith, c.requires, w.deliveries.ok.0, w.all_delivered) in
    let v = c.index_mut.result.now in
    let r = c.reserve.new.self in
    let n = c.note_delivery.new.delivered in
    let u = c.index_mut-4.result.now in
    let t = c.index-2.result.now in
    let ls' : List (Vec Delivered) = set ls i r in
    let ll' : i < length ls' = omega (arith, ll, length-set ls i r) in
    let is : (d : Queue) → get_or qs i d ≡ q = λ d. sym (get_or_read qs i q l c.index_mut-2.ensures.value d) in
    let does : (d : Doing) → get_or ats i d ≡ at = λ d. sym (get_or_read ats i at la c.index.ensures d) in
    let now : slice_get ats i ≡ Some at = get_some ats i at la does in
    let there : slice_get ls i ≡ Some v = get_some ls i v ll (λ d. sym (get_or_read ls i v ll c.index_mut.ensures.value d)) in
    let there' : slice_get w.turns.items i ≡ Some t = get_some w.turns.items i t lt (λ d. sym (get_or_read w.turns.items i t lt c.index-2.ensures d)) in
    let kept : ℕ → List Kept = kept_in w.turns.items in
    let waits : ℕ → List Waited = waited_in w.waits.items in
    let dels : ℕ → List Delivered = delivered_in ls in
    let dels' : ℕ → List Delivered = delivered_in (set ls' i n) in
    let room : u ≡ r = get_or_read ls' i u ll' c.index_mut-4.ensures.value u ∙ get_or-set_same ls i r u ll in
    let count : c.len-turns.result ≡ length (kept i) = omega (arith, c.len-turns.ensures, t.ok.0, ap (λ (x : Option (Vec Kept)). length (kept_of x)) there') in
    let items : u.items ≡ dels i = ap (λ (x : Vec Delivered). x.items) room ∙ c.reserve.ensures.items ∙ ap delivered_of (sym there) in
    let mine : dels' i ≡ dels i ++ delivered_list (length (kept i)) o =
    ap delivered_of (get_set ls' i n ll') ∙ c.note_delivery.ensures ∙ (λ j. items j ++ delivered_list (count j) o) in
    let others : (j : ℕ) → (j ≡ i → ⊥) → dels' j ≡ dels j = λ j x. ap delivered_of (get_set_other ls' i j n x) ∙ ap delivered_of (get_set_other ls i j r x) in
    let between : is_between (Some at) ≡ true = sym c.is_between.ensures ∙ c.if-not-is_between.false in
    deliver_of w _ i p o c.begun_by.result c.begun_by.ensures.under_way c.begun_by.ensures.over (record {
      between = ap is_between now ∙ between;
      lands = λ d e.
          rw (is d, get_or-set_same qs i q' d l, get_or-set_same ats i at' e la) s.ensures.lands;
      wired = λ d. rw (is d, get_or-set_same qs i q' d l) s.ensures.same;
      turns = refl;
      deliveries = mine;
      waits = refl;
      stands_for = λ wirings start begin cs h.
          let came : After wirings start begin qs ats kept dels waits w.history.items w.counters cs = record { each = h.each; come = h.come; serve = h.serve; joined = h.past; legal = h.legal; leaves = h.leaves } in
          let x = stands_given wirings start begin i 0 qs ats kept kept dels dels' waits waits w.history.items w.counters cs q q' at at' l la is does came (λ j y. refl) others (λ j y. refl) s.ensures.same
          p o (between_is at between) s.ensures.lands refl mine refl in
          record { each = x.each; come = x.come; serve = x.serve; past = x.joined; legal = x.legal; leaves = x.leaves };
    })
