use Rattle.bpf_maps.specs.Beginning.{Beginning}
use Rattle.std.proofs.Common.{◌≡◌, ◌<◌, ℕ, ◌++◌, vec_len, List, [], ◌∷◌, Option, Some, false, length, get_or, set, slice_get, sym, subst, ◌∙◌, ap, arith, get_or-set_same}
use Rattle.std.proofs.lemmas.List.{get_or_read}
use Rattle.std.specs.Global.{Vec}
use Rattle.xen_steps.specs.Event.{Event}
use Rattle.xen_back.specs.Queues.{wiring_of}
use Rattle.xen_back.specs.declared.queue.Queue.{Queue}
use Rattle.xen_turns.specs.declared.wiring.Wiring.{Wiring}
use Rattle.xdp_world.specs.Calls.{Call, Stepped, all_stepped}
use Rattle.xdp_world.specs.Carries.{Moves, delivered_list, doing_after, waited_list}
use Rattle.xdp_world.specs.Doings.{is_call}
use Rattle.xdp_world.specs.Happens.{Moved, MovedBy, kept_list}
use Rattle.xdp_world.specs.Stands.{StandsFor, delivered_in, delivered_of, kept_in, kept_of, waited_in, waited_of}
use Rattle.xdp_world.specs.declared.doing.Doing.{Doing}
use Rattle.xdp_world.specs.declared.doing.Doing.TheVariants as doing
use Rattle.xdp_world.specs.declared.kept.Kept.{Kept}
use Rattle.xdp_world.specs.declared.report.Delivered.{Delivered}
use Rattle.xdp_world.specs.declared.report.Waited.{Waited}
use Rattle.xdp_world.proofs.Fitting.{fit_set, free_set, shapes_set}
use Rattle.xdp_world.proofs.Plainly.{stepped_append}
use Rattle.xdp_world.proofs.Stepped.{carried_of, doing_of, free_of, looked_of, moved_by_of, moved_of, unwaited_of}
use Rattle.xdp_world.proofs.Worlds.{After, get_set, get_set_other, get_some, stands_step}
use Rattle.xdp_world.proofs.world.World.step.Goals as goal

pub returns-clause-ok : goal.returns-clause-ok
returns-clause-ok c =
    let w = c.args.self.now in
    let b = c.make_room.new.self in
    let same = c.make_room.ensures.same in
    let i = c.args.queue in
    let a = c.args.answer in
    let q = c.index_mut.result.now in
    let at = c.index_mut-2.result.now in
    let s = c.serve-served in
    let q' = s.new.queue in
    let at' = s.new.doing in
    let k = s.result.kept in
    let o = s.result.op in
    let what = s.result.delivery in
    let r = s.result.awaited in
    let qs : List Queue = b.queues.items in
    let ats : List Doing = b.doing.items in
    let ts : List (Vec Kept) = b.turns.items in
    let ls : List (Vec Delivered) = b.deliveries.items in
    let ws : List (Vec Waited) = b.waits.items in
    let l : i < length qs = omega (arith, c.requires, b.queues.ok.0, w.queues.ok.0, ap (λ (x : List Queue). length x) same.queues) in
    let la : i < length ats = omega (arith, l, b.queues.ok.0, b.doing.ok.0, b.all_doing) in
    let lt : i < length ts = omega (arith, l, b.queues.ok.0, b.turns.ok.0, b.size) in
    let ll : i < length ls = omega (arith, l, b.queues.ok.0, b.deliveries.ok.0, b.all_delivered) in
    let lw : i < length ws = omega (arith, l, b.queues.ok.0, b.waits.ok.0, b.all_waited) in
    let is : (d : Queue) → get_or qs i d ≡ q = λ d. sym (get_or_read qs i q l c.index_mut.ensures.value d) in
    let does : (d : Doing) → get_or ats i d ≡ at = λ d. sym (get_or_read ats i at la c.index_mut-2.ensures.value d) in
    let v = c.index_mut-3.result.now in
    let u = c.index_mut-4.result.now in
    let z = c.index_mut-5.result.now in
    let there : slice_get ts i ≡ Some v = get_some ts i v lt (λ d. sym (get_or_read ts i v lt c.index_mut-3.ensures.value d)) in
    let there' : slice_get ls i ≡ Some u = get_some ls i u ll (λ d. sym (get_or_read ls i u ll c.index_mut-4.ensures.value d)) in
    let there'' : slice_get ws i ≡ Some z = get_some ws i z lw (λ d. sym (get_or_read ws i z lw c.index_mut-5.ensures.value d)) in
    let kept : ℕ → List Kept = kept_in ts in
    let kept' : ℕ → List Kept = kept_in (set ts i c.note.new.kept) in
    let dels : ℕ → List Delivered = delivered_in ls in
    let dels' : ℕ → List Delivered = delivered_in (set ls i c.note.new.delivered) in
    let waits : ℕ → List Waited = waited_in ws in
    let waits' : ℕ → List Waited = waited_in (set ws i c.note.new.waited) in
    let mine : kept' i ≡ kept i ++ kept_list k =
    ap kept_of (get_set ts i c.note.new.kept lt) ∙ c.note.ensures.kept ∙ ap (λ (x : Option (Vec Kept)). kept_of x ++ kept_list k) (sym there) in
    let count : vec_len v ≡ length (kept i) = omega (arith, v.ok.0, ap (λ (x : Option (Vec Kept)). length (kept_of x)) there) in
    let mine' : dels' i ≡ dels i ++ delivered_list (length (kept i)) what =
    ap delivered_of (get_set ls i c.note.new.delivered ll) ∙ c.note.ensures.delivered
    ∙ (λ j. delivered_of (sym there' j) ++ delivered_list (count j) what) in
    let delivered : vec_len u ≡ length (dels i) = omega (arith, u.ok.0, ap (λ (x : Option (Vec Delivered)). length (delivered_of x)) there') in
    let mine'' : waits' i ≡ waits i ++ waited_list (length (kept i)) (length (dels i)) r =
    ap waited_of (get_set ws i c.note.new.waited lw) ∙ c.note.ensures.waited
    ∙ (λ j. waited_of (sym there'' j) ++ waited_list (count j) (delivered j) r) in
    let e : Option Event = s.ensures.moves.0 in
    let m : Moves q q' at at' b.counters s.new.counters a e o k what r = s.ensures.moves.1 in
    let before : (d : Queue) → get_or w.queues.items i d ≡ q = λ d. ap (λ (x : List Queue). get_or x i d) (sym same.queues) ∙ is d in
    let after : (d : Queue) → get_or (set qs i q') i d ≡ q' = λ d. get_or-set_same qs i q' d l in
    let now : slice_get ats i ≡ Some at = get_some ats i at la does in
    let was : slice_get w.doing.items i ≡ Some at = ap (λ (x : List Doing). slice_get x i) (sym same.doing) ∙ now in
    let is_free : is_call (slice_get w.doing.items i) ≡ false → is_call (Some at) ≡ false = λ f. ap is_call (sym was) ∙ f in
    let stands_for : (wirings : ℕ → Wiring) (start : ℕ) (begin : Beginning) (cs : List Call) → StandsFor w wirings start begin cs →
    After wirings start begin (set qs i q') (set ats i at') kept' dels' waits' c.note.new.history.items s.new.counters (cs ++ Stepped (record { queue = i; answer = a; event = e }) ∷ []) = λ wirings start begin cs h.
    let came : After wirings start begin qs ats kept dels waits b.history.items b.counters cs = record {
      each = λ j d x n. rw (same.queues, same.doing, same.turns j, same.deliveries j, same.waits j) (h.each j d x (omega (arith, n, ap (λ (y : List Queue). length y) same.queues)));
      come = h.come;
      serve = h.serve;
      joined = same.history ∙ h.past;
      legal = h.legal;
      leaves = rw same.counters h.leaves;
    } in
    let x = stands_step wirings start begin i a qs ats kept kept' dels dels' waits waits' b.history.items b.counters cs q q' at at' l la is does came
    (λ j n. ap kept_of (get_set_other ts i j c.note.new.kept n)) (λ j n. ap delivered_of (get_set_other ls i j c.note.new.delivered n))
    (λ j n. ap waited_of (get_set_other ws i j c.note.new.waited n)) s.ensures.same
    s.new.counters e o k what r m s.ensures.shapes mine mine' mine'' in
    record { each = x.each; come = x.come; serve = x.serve; joined = c.note.ensures.history ∙ x.joined; legal = x.legal; leaves = x.leaves } in
    record {
      event = e;
      moved = λ f d.
          subst (λ (x : Queue). Moved a x e (get_or (set qs i q') i d)) (sym (before d))
          (subst (λ (x : Queue). Moved a q e x) (sym (after d)) (moved_of q q' at at' b.counters s.new.counters a e o k what r s.ensures.same m (is_free f)));
      kept = k;
      moved_by = λ f d.
          subst (λ (x : Queue). MovedBy a x e k (get_or (set qs i q') i d)) (sym (before d))
          (subst (λ (x : Queue). MovedBy a q e k x) (sym (after d)) (moved_by_of q q' at at' b.counters s.new.counters a e o k what r s.ensures.same m (is_free f)));
      wired = λ d. ap (λ (x : Queue). wiring_of x) (after d) ∙ s.ensures.same ∙ ap (λ (x : Queue). wiring_of x) (sym (before d));
      doing_by = λ f d. get_or-set_same ats i at' d la ∙ doing_of q q' at at' b.counters s.new.counters a e o k what r m (is_free f)
          ∙ ap (λ (x : Doing). doing_after x e k) (sym (does d) ∙ ap (λ (x : List Doing). get_or x i d) same.doing);
      turns = mine ∙ ap (λ (x : List Kept). x ++ kept_list k) (same.turns i);
      delivery = what;
      carried = λ x under d y.
          let its : at ≡ doing.Delivery x = some_same at (doing.Delivery x) (sym was ∙ under) in
          rw (before d, after d, get_or-set_same ats i at' y la) (carried_of q q' at at' b.counters s.new.counters a e o k what r x m its);
      deliveries = mine' ∙ (λ j. same.deliveries i j ++ delivered_list (length (same.turns i j)) what);
      none = λ f. (free_of q q' at at' b.counters s.new.counters a e o k what r m (is_free f)).1;
      awaited = r;
      looked = λ x under d y.
          let its : at ≡ doing.Wait x = some_same at (doing.Wait x) (sym was ∙ under) in
          rw (before d, after d, get_or-set_same ats i at' y la) (looked_of q q' at at' b.counters s.new.counters a e o k what r x m its);
      waits = mine'' ∙ (λ j. same.waits i j ++ waited_list (length (same.turns i j)) (length (same.deliveries i j)) r);
      no_wait = λ f. unwaited_of q q' at at' b.counters s.new.counters a e o k what r m (λ x its. f x (was ∙ ap Some its));
      stands = λ wirings start begin es h.
          let done = stands_for wirings start begin (all_stepped es) h in
          let to : all_stepped es ++ Stepped (record { queue = i; answer = a; event = e }) ∷ [] ≡ all_stepped (es ++ record { queue = i; answer = a; event = e } ∷ []) =
          sym (stepped_append es (record { queue = i; answer = a; event = e } ∷ [])) in
          let x = subst (λ (cs : List Call). After wirings start begin (set qs i q') (set ats i at') kept' dels' waits' c.note.new.history.items s.new.counters cs) to done in
          record { each = x.each; come = x.come; serve = x.serve; past = x.joined; legal = x.legal; leaves = x.leaves };
      stands_for = λ wirings start begin cs h.
          let x = stands_for wirings start begin cs h in
          record { each = x.each; come = x.come; serve = x.serve; past = x.joined; legal = x.legal; leaves = x.leaves };
    }
  where
    some_same : (x y : Doing) → Some x ≡ Some y → x ≡ y
    some_same x y e = cc

pub invariant_of-self : goal.invariant_of-self
invariant_of-self c =
    let b = c.make_room.new.self in
    let w = c.args.self.now in
    let i = c.args.queue in
    let q = c.index_mut.result.now in
    let s = c.serve-served in
    let qs : List Queue = b.queues.items in
    let ats : List Doing = b.doing.items in
    let l : i < length qs = omega (arith, c.requires, b.queues.ok.0, w.queues.ok.0, ap (λ (x : List Queue). length x) c.make_room.ensures.same.queues) in
    let la : i < length ats = omega (arith, l, b.queues.ok.0, b.doing.ok.0, b.all_doing) in
    let is : get_or qs i q ≡ q = sym (get_or_read qs i q l c.index_mut.ensures.value q) in
    let mine : (wiring_of s.new.queue).program.now.shapes ≡ b.counters.shapes =
    ap (λ (x : Wiring). x.program.now.shapes) s.ensures.same ∙ ap (λ (x : Queue). (wiring_of x).program.now.shapes) (sym is) ∙ b.shapes i q l in
    record {
      size = b.size;
      all_doing = b.all_doing;
      all_delivered = b.all_delivered;
      all_waited = b.all_waited;
      empty = s.ensures.empty;
      shapes = shapes_set qs i s.new.queue b.counters.shapes s.new.counters.shapes l b.shapes s.ensures.shapes mine;
      fits = fit_set ats qs i s.new.doing s.new.queue la l b.fits s.ensures.fits;
    }

pub returns-clause-free : goal.returns-clause-free
returns-clause-free c = λ j f.
    let b = c.make_room.new.self in
    let w = c.args.self.now in
    let i = c.args.queue in
    let q = c.index_mut.result.now in
    let at = c.index_mut-2.result.now in
    let s = c.serve-served in
    let same = c.make_room.ensures.same in
    let ats : List Doing = b.doing.items in
    let l : i < length b.queues.items = omega (arith, c.requires, b.queues.ok.0, w.queues.ok.0, ap (λ (x : List Queue). length x) same.queues) in
    let la : i < length ats = omega (arith, l, b.queues.ok.0, b.doing.ok.0, b.all_doing) in
    let there : slice_get ats i ≡ Some at = get_some ats i at la (λ d. sym (get_or_read ats i at la c.index_mut-2.ensures.value d)) in
    free_set ats i at s.new.doing la there
    (λ n. (free_of q s.new.queue at s.new.doing b.counters s.new.counters c.args.answer s.ensures.moves.0 s.result.op s.result.kept s.result.delivery s.result.awaited s.ensures.moves.1 n).0) j
    (ap (λ (x : List Doing). is_call (slice_get x j)) same.doing ∙ f)
