-- One of several turns begins: what the loop over them wants of it.
use Rattle.std.proofs.Common.{◌≡◌, ◌≢◌, ℕ, ◌<◌, ◌≤◌, ◌+◌, ◌-◌, ◌^◌, ◌⊎◌, true, false, List, [], ◌∷◌, ◌++◌, length, refl, sym, ap, ◌∙◌, subst, arith}
use Rattle.std.specs.Prelude.{Bool, Option, None, Some, nat_le, if◌then◌else◌}
use Rattle.std.proofs.lemmas.Bool.Decides.{nat_tests}
use mathlib.Core.Logic.{inl, inr, ⊎_elim}
use Rattle.bpf_note.specs.declared.op.Op.{Op as Operation}
use Rattle.xdp_program.specs.Tallies.{Went}
use Rattle.xen_ring.specs.Index.{distance}
use Rattle.xen_steps.specs.Drive.{Any}
use Rattle.xen_steps.specs.Event.{Event}
use Rattle.xen_steps.specs.Finish.{Ends}
use Rattle.xen_steps.specs.Places.{add32, available}
use Rattle.xen_steps.specs.Steps.{Steps}
use Rattle.xen_turns.specs.Tree.{whole_turn}
use Rattle.xen_turns.specs.Turned.{Ending}
use Rattle.xen_turns.specs.Woven.{by_turn}
use Rattle.xen_turns.specs.declared.state.State.{State}
use Rattle.xen_turns.specs.declared.wiring.Wiring.{Wiring}
use Rattle.xen_host.specs.Early.{engine_at_rx}
use Rattle.xen_host.specs.EngineAt.{EngineAt}
use Rattle.xen_host.specs.LaneSteps.{AnswersSome, LaneBegins, lane_at, slot_reads}
use Rattle.xen_host.specs.Lanes.{AreLanes, EndsAt, EndsEach, EndsPast, own, rest_of}
use Rattle.xen_host.specs.Severals.{Group, ahead_of, look_of, shown_to}
use Rattle.xen_host.specs.declared.op.HostOp.{HostOp}
use Rattle.xen_host.proofs.BegunTogetherLemmas.{lanes_also}
use Rattle.xen_host.proofs.LanesBegunLemmas.{lane_begins}
use Rattle.xen_host.proofs.SweepBeginLemmas.{BeginsOnward, CursorEnds}
use Rattle.xen_host.proofs.SweepLemmas.{events_by}

-- ---- indices

sum32 : (t i n : ℕ) → add32 (add32 t i) n ≡ add32 t (i + n)
sum32 t i n = omega arith

none32 : (t : ℕ) → t < 2 ^ 32 → add32 t 0 ≡ t
none32 t h = omega (arith, h)

behind32 : (t i p : ℕ) → t < 2 ^ 32 → p < 2 ^ 32 → i ≤ distance t p → distance (add32 t i) p ≡ distance t p - i
behind32 t i p h g l = omega (arith, h, g, l)

far32 : (t i m : ℕ) → t < 2 ^ 32 → i ≤ 16 → m ≤ 256 → distance t (add32 (add32 t i) m) ≡ i + m
far32 t i m h g l = omega (arith, h, g, l)

shown_still : (t p n : ℕ) → distance t p ≡ n → n ≤ 256 → available t p ≡ Some n
shown_still t p n is few = by (nat_le (distance t p) 256) refl
  where
    by : (b : Bool) → nat_le (distance t p) 256 ≡ b → (if b then Some (distance t p) else None) ≡ Some n
    by true e = ap Some is
    by false e = let f : distance t p ≤ 256 = omega (arith, is, few) in absurd (grind (arith, nat_tests, e, f))

-- ---- how it ends

past_all : (t i m : ℕ) (s : Steps Ending) → t < 2 ^ 32 → i ≤ 16 → AnswersSome (add32 t i) m s → EndsPast t (i + m) s
past_all t i m s small few some trace r runs live =
    let a = some trace r runs live in
    let far = far32 t i a.0 small few a.2 in
    let is : distance t r.0.tx_index ≡ i + a.0 = ap (λ k. distance t k) a.3 ∙ far in
    omega (arith, a.1, is)

at_cursor : (t i n ahead : ℕ) (s : Steps Ending) → (i + n ≡ ahead) ⊎ EndsAt (add32 (add32 t i) n) s → i + n < ahead → EndsAt (add32 t (i + n)) s
at_cursor t i n ahead s (inl e) less = absurd (omega (arith, e, less))
at_cursor t i n ahead s (inr h) less = subst (λ k. EndsAt k s) (sum32 t i n) h

module _ {C : Type 0} (did : Operation → C → C → Type 0) (w : Wiring) (g : Group) (completes : (s : State) → Ends Any (whole_turn w s)) (apart : w.vif.tx ≢ w.vif.rx)
    (small : g.producer < 2 ^ 32) (index : g.state.tx_index < 2 ^ 32) (shown : shown_to g ≤ 256) (sixteen : ahead_of g ≤ 16) where
  ended : (went : List (Option Operation) → Type 0) (rx i taken place limit : ℕ) (new : EngineAt) (ops ops_after : List HostOp) (count count_after : ℕ) (lent lent_after : List ℕ) → i < ahead_of g →
      LaneBegins went (record { tx_index = add32 g.state.tx_index i; rx_index = rx; halt = None }) (distance g.state.tx_index g.producer - i) i (ahead_of g) taken place limit new ops ops_after count count_after lent lent_after →
      (events : List Event) → EndsEach w (CursorEnds did w g taken) events new
  ended went rx i taken place limit new ops ops_after count count_after lent lent_after more d events =
      let t = g.state.tx_index in
      let few : i ≤ 16 = omega (arith, more, sixteen) in
      let cursor : (s : Steps Ending) → (taken ≡ ahead_of g) ⊎ EndsAt (add32 (add32 t i) d.slots) s → AnswersSome (add32 t i) d.slots s → CursorEnds did w g taken s = λ s ends past.
      subst (λ n. EndsPast t n s × (n < ahead_of g → EndsAt (add32 t n) s)) (sym d.taken_is)
      (past_all t i d.slots s index few past, at_cursor t i d.slots (ahead_of g) s (subst (λ n. (n ≡ ahead_of g) ⊎ EndsAt (add32 (add32 t i) d.slots) s) d.taken_is ends)) in
      (cursor (rest_of new) d.ends d.past, λ early calm x. let e = d.each early x in cursor (rest_of (engine_at_rx x new)) e.0 e.1)

  pub begins_onward : BeginsOnward did w g
  begins_onward k rx i taken count count_after lanes made old new lane_after ops ops_after lent lent_after many more first is are stands d =
      let t = g.state.tx_index in
      let b : State = record { tx_index = add32 t i; rx_index = rx; halt = None } in
      let went : List (Option Operation) → Type 0 = λ labels. Went did old new labels in
      let left = distance t g.producer - i in
      let some : 0 < left = omega (arith, more) in
      let there : available (add32 t i) g.producer ≡ Some left = shown_still (add32 t i) g.producer left (behind32 t i g.producer index small (omega (arith, more))) (omega (arith, shown)) in
      let from = lanes_also w g.state g.producer (look_of w g) (CursorEnds did w g i) (EndsAt (add32 t i)) lanes rx made (λ x e. e.1 more) are in
      let o = lane_begins w completes apart g.producer small (CursorEnds did w g taken) g.state b lanes rx made went left i (ahead_of g) taken (own k) (count + 1) (lane_at w lane_after) ops ops_after count count_after lent lent_after
      refl refl some there stands.fits d from (λ none. let z : i ≡ 0 = first (sym many ∙ ap length none) in ap (λ n. add32 t n) z ∙ none32 t index)
      (ended went rx i taken (own k) (count + 1) (lane_at w lane_after) ops ops_after count count_after lent lent_after more d) in (
        o.0,
        o.1,
        o.2,
        subst (λ n. AreLanes w g.state g.producer (look_of w g) (CursorEnds did w g taken) (lanes ++ o.0 ∷ []) rx (made ++ by_turn n
            (events_by did w g k (slot_reads w (add32 t i) lent i d.slots) d.labels d.first d.last lent_after))) many o.3,
      )
