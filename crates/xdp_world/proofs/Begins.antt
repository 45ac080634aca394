-- A world that begins.
use Rattle.std.proofs.Common.{◌≡◌, ℕ, zero, suc, ◌+◌, ◌%◌, ◌^◌, ◌<◌, false, List, [], ◌∷◌, ◌++◌, Some, length, get_or, slice_get, refl, sym, ◌∙◌, ap, subst, arith}
use Rattle.std.specs.Global.{Vec}
use Rattle.std.specs.Prelude.{Option}
use Rattle.bpf_lists.specs.declared.list.MapList.{MapList}
use Rattle.bpf_maps.specs.Beginning.{given}
use Rattle.bpf_maps.specs.Seats.{TotalsView, total_at}
use Rattle.bpf_note.specs.Shape.{IsCounter, Shape}
use Rattle.bpf_verify.specs.Consistent.{Accepted}
use Rattle.xen_back.specs.Queues.{wiring_of}
use Rattle.xen_back.specs.declared.queue.Queue.{Queue}
use Rattle.xen_turns.specs.declared.wiring.Wiring.{Wiring}
use Rattle.xdp_world.specs.Begin.{Begins, IsFresh}
use Rattle.xdp_world.specs.Activities.{none_over}
use Rattle.xdp_world.specs.Core.{started_at}
use Rattle.xdp_world.specs.Doings.{is_call}
use Rattle.xdp_world.specs.Stands.{HasCome, delivered_in, kept_in, waited_in}
use Rattle.xdp_world.specs.declared.doing.Doing.{Doing}
use Rattle.xdp_world.specs.declared.doing.Doing.TheVariants as doing
use Rattle.xdp_world.specs.declared.kept.Kept.{Kept}
use Rattle.xdp_world.specs.declared.report.Delivered.{Delivered}
use Rattle.xdp_world.specs.declared.report.Waited.{Waited}
use Rattle.xdp_world.specs.declared.world.World.{World}
use Rattle.xdp_world.proofs.Comes.{fresh_turn}

-- the i-th of a list, which is there
pub queue_at : {A : Type 0} (l : List A) (i : ℕ) → i < length l → A
queue_at [] i h = absurd (omega (arith, h))
queue_at (x ∷ xs) zero h = x
queue_at (x ∷ xs) (suc i) h = queue_at xs i (omega (arith, h))

pub any_or : {A : Type 0} (l : List A) (i : ℕ) (d e : A) → i < length l → get_or l i d ≡ get_or l i e
any_or [] i d e h = absurd (omega (arith, h))
any_or (x ∷ xs) zero d e h = refl
any_or (x ∷ xs) (suc i) d e h = any_or xs i d e (omega (arith, h))

pub none_kept : (ts : List (Vec Kept)) (v : Vec Kept) → v.items ≡ [] → ((i : ℕ) → kept_in ts i ≡ []) → (i : ℕ) → kept_in (ts ++ v ∷ []) i ≡ []
none_kept [] v e h zero = e
none_kept [] v e h (suc i) = refl
none_kept (t ∷ ts) v e h zero = h 0
none_kept (t ∷ ts) v e h (suc i) = none_kept ts v e (λ j. h (suc j)) i

fresh_come : (accepted : Accepted) (lists : List (Option MapList)) (queues index start i : ℕ) (w : Wiring) (q : Queue) (at : Doing) (kept : List Kept) (dl : List Delivered) (wl : List Waited) → IsFresh accepted lists queues index start i q → wiring_of q ≡ w →
    at ≡ doing.Between → kept ≡ [] → dl ≡ [] → wl ≡ [] → HasCome w start [] kept dl wl q at
fresh_come accepted lists queues index start i w q at kept dl wl f wired is none nothing unwaited =
    subst (λ (x : Doing). HasCome w start [] kept dl wl q x) (sym is) (record {
      wired = wired;
      deeds = [];
      front = [];
      joined = rw f.state (none_over (started_at start) []);
      turns = none;
      deliveries = nothing;
      waits = unwaited;
      stands_at = (refl, fresh_turn w q wired f.ready);
    })

-- the numbers that the counters of a program's maps begin with
pub first : (p : Accepted) (t : TotalsView) (shapes : List Shape) (values : List (List ℕ)) → t.shapes ≡ shapes → shapes ≡ p.shapes →
    ((m k j : ℕ) → IsCounter shapes m k j → total_at t m k j ≡ given shapes values m k j) → (m k j : ℕ) → IsCounter t.shapes m k j → total_at t m k j ≡ given p.shapes values m k j
first p t shapes values same known h m k j is = h m k j (subst (λ ss. IsCounter ss m k j) same is) ∙ ap (λ ss. given ss values m k j) known

-- a word of 64 bits to which nothing is added
whole : (x y : ℕ) → x < 2 ^ 64 → x ≡ y → x ≡ (y + 0) % 2 ^ 64
whole x y h e = omega arith

pub begins : (accepted : Accepted) (lists : List (Option MapList)) (values : List (List ℕ)) (queues index start : ℕ) (w : World) → 0 < length w.queues.items → length w.queues.items ≡ queues →
    ((i : ℕ) (d : Queue) → i < queues → IsFresh accepted lists queues index start i (get_or w.queues.items i d)) → ((i : ℕ) → kept_in w.turns.items i ≡ []) → ((i : ℕ) → delivered_in w.deliveries.items i ≡ []) →
    ((i : ℕ) → waited_in w.waits.items i ≡ []) → ((i : ℕ) (e : Doing) → i < queues → get_or w.doing.items i e ≡ doing.Between) → w.history.items ≡ [] →
    ((m k j : ℕ) → IsCounter w.counters.shapes m k j → total_at w.counters m k j ≡ given accepted.shapes values m k j) → ((m k j : ℕ) → total_at w.counters m k j < 2 ^ 64) → Begins accepted lists values queues index start w
begins accepted lists values queues index start w some count fresh none nothing unwaited between past first small =
    let qs = w.queues.items in
    let q0 : Queue = queue_at qs 0 some in
    record {
      wirings = λ i. wiring_of (get_or qs i q0);
      wired = λ i l. (fresh i q0 l).wired;
      stands = record {
        each = λ i d e l. let m : i < queues = omega (arith, l, count) in
            fresh_come accepted lists queues index start i (wiring_of (get_or qs i q0)) (get_or qs i d) (get_or w.doing.items i e) (kept_in w.turns.items i) (delivered_in w.deliveries.items i) (waited_in w.waits.items i) (fresh i d m)
            (ap (λ (q : Queue). wiring_of q) (any_or qs i d q0 l)) (between i e m) (none i) (nothing i) (unwaited i);
        come = λ i e at n. absurd (cc);
        serve = tt;
        past = past;
        legal = λ i e at. absurd (cc);
        leaves = λ m k j is. whole (total_at w.counters m k j) (given accepted.shapes values m k j) (small m k j) (first m k j is);
      };
    }

pub none_delivered : (ts : List (Vec Delivered)) (v : Vec Delivered) → v.items ≡ [] → ((i : ℕ) → delivered_in ts i ≡ []) → (i : ℕ) → delivered_in (ts ++ v ∷ []) i ≡ []
none_delivered [] v e h zero = e
none_delivered [] v e h (suc i) = refl
none_delivered (t ∷ ts) v e h zero = h 0
none_delivered (t ∷ ts) v e h (suc i) = none_delivered ts v e (λ j. h (suc j)) i

pub none_waited : (ts : List (Vec Waited)) (v : Vec Waited) → v.items ≡ [] → ((i : ℕ) → waited_in ts i ≡ []) → (i : ℕ) → waited_in (ts ++ v ∷ []) i ≡ []
none_waited [] v e h zero = e
none_waited [] v e h (suc i) = refl
none_waited (t ∷ ts) v e h zero = h 0
none_waited (t ∷ ts) v e h (suc i) = none_waited ts v e (λ j. h (suc j)) i

pub all_more : {A : Type 0} (P : ℕ → A → Type 0) (l : List A) (x : A) → ((i : ℕ) (d : A) → i < length l → P i (get_or l i d)) → P (length l) x → (i : ℕ) (d : A) → i < length l + 1 → P i (get_or (l ++ x ∷ []) i d)
all_more P [] x h p zero d l = p
all_more P [] x h p (suc i) d l = absurd (omega (arith, l))
all_more P (y ∷ ys) x h p zero d l = h 0 d (omega arith)
all_more P (y ∷ ys) x h p (suc i) d l = all_more (λ j. P (suc j)) ys x (λ j e m. h (suc j) e (omega (arith, m))) p i d (omega (arith, l))

-- where all are between turns, no call of the host is under way
pub all_free : (l : List Doing) → ((i : ℕ) (d : Doing) → i < length l → get_or l i d ≡ doing.Between) → (i : ℕ) → is_call (slice_get l i) ≡ false
all_free [] h i = refl
all_free (x ∷ l) h zero = ap (λ (y : Doing). is_call (Some y)) (h 0 x (omega arith))
all_free (x ∷ l) h (suc i) = all_free l (λ j d m. h (suc j) d (omega (arith, m))) i
