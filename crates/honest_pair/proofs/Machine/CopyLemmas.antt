-- The parts of a first half that ends in a run.
use Rattle.std.proofs.Common.{◌≡◌, ℕ, zero, suc, ◌<◌, ◌^◌, refl, sym, ◌∙◌, ap, subst, arith, List, [], ◌∷◌, ◌++◌, Option, Some, None, Result, Ok, Err, take}
use Rattle.std.proofs.lemmas.List.{append-nil}
use Rattle.xen_netif.specs.Chain.{Slot}
use Rattle.xen_netif.specs.Segments.{offered_fragments}
use Rattle.xen_netif.specs.Standing.{standing}
use Rattle.xen_netif.specs.declared.chain.ChainState.TheVariants as wanted
use Rattle.xen_netif.specs.declared.fault.SizeFault.{SizeFault}
use Rattle.xen_netif.specs.declared.fragment.Fragment.{Fragment}
use Rattle.xen_steps.specs.Event.{Event, Read}
use Rattle.xen_steps.specs.Steps.{Runs, Steps, done}
use Rattle.xen_steps.proofs.StepsLemmas.{split}
use Rattle.xen_steps.specs.Places.{available}
use Rattle.xen_rx_fill.specs.Places.{tx_word}
use Rattle.xen_turns.specs.declared.turn.Halt.TheVariants as halt
use Rattle.xen_turns.proofs.TurnParts.{regroup, run_parts}
use Rattle.xen_turns.specs.Turns.{HasRun as Ran}
use Rattle.xen_turns.specs.Parts.{HasRead, IsCopy, IsLook, once, twice}
use Rattle.xen_turns.specs.Tree.{Left, Scan, after_chain, after_copy, after_look, after_scan, copy, look, program, read_slots, run_of, seen, unless_halted}
use Rattle.xen_turns.specs.Turned.{Ending}
use Rattle.xen_turns.specs.declared.state.State.{State}
use Rattle.xen_turns.specs.declared.turn.Halt.{Halt}
use Rattle.xen_turns.specs.declared.wiring.Wiring.{Wiring}
use Rattle.xen_turns.proofs.ChainLemmas.{beginning_by}
use Rattle.xen_turns.proofs.CopyParts.{copy_parts}
use Rattle.xen_turns.proofs.TurnParts.{ScanEnds, is_faulty, is_whole, none_left, slots_parts}
use Rattle.honest_pair.specs.Machine.Halves.{Half, Over, HasRun, half_chain, half_copy, half_look, half_scan, half_turn, half_unless, over}

seen_parts : (w : Wiring) (t p : ℕ) (tr : List Event) (o x : Option ℕ) → p < 2 ^ 32 → available t p ≡ x → Runs (seen w t x) tr o → IsLook w t (Read (tx_word w.vif 0) p ∷ tr) o
seen_parts w t p [] o None l e h = rw (← (e ∙ h)) (once p l (λ z. cc))
seen_parts w t p (y ∷ tr) o None l e h = absurd h
seen_parts w t p [] o (Some zero) l e h = absurd h
seen_parts w t p (x ∷ []) o (Some zero) l e h = absurd h.2
seen_parts w t p (x ∷ y ∷ []) o (Some zero) l e h = rw (h.1.1, h.2.1.1, ← h.2.2) (twice p h.2.0 l h.2.1.0 e)
seen_parts w t p (x ∷ y ∷ z ∷ tr) o (Some zero) l e h = absurd h.2.2
seen_parts w t p [] o (Some (suc n)) l e h = rw (← (e ∙ h)) (once p l (λ z. cc))
seen_parts w t p (x ∷ tr) o (Some (suc n)) l e h = absurd h

looked : (w : Wiring) (t : ℕ) (p : List Event) (o : Option ℕ) → Runs (look w t) p o → IsLook w t p o
looked w t [] o h = absurd h
looked w t (e ∷ p) o h = rw h.1.1 (seen_parts w t h.0 p o (available t h.0) h.1.0 refl h.2)

never_runs : (t : Steps Ending) (p : List Event) (slots : List Slot) (packet : List ℕ) (left : Left) → Runs (over t) p (HasRun slots packet left) → ⊥
never_runs t p slots packet left h = let i = split t (λ e. done (Over e)) p (HasRun slots packet left) h in by i.mid i.back i.later
  where
    by : (e : Ending) (q : List Event) → Runs {A = Half} (done (Over e)) q (HasRun slots packet left) → ⊥
    by e [] x = cc
    by e (y ∷ q) x = absurd x

-- what a half that is done gives
abbrev slots_in : Half → List Slot → List Slot
slots_in (Over e) d = d
slots_in (HasRun slots packet left) d = slots

abbrev packet_in : Half → List ℕ → List ℕ
packet_in (Over e) d = d
packet_in (HasRun slots packet left) d = packet

abbrev left_in : Half → Left → Left
left_in (Over e) d = d
left_in (HasRun slots packet left) d = left

module _ (w : Wiring) (s : State) (slots : List Slot) (packet : List ℕ) (left : Left) where
  abbrev Has : List Event → Type 0
  Has t = (r : Ran w s t slots left) × (r.packet ≡ packet)

  gives : (ss : List Slot) (c : List ℕ) (l : Left) (q t : List Event) (r : Ran w s t ss l) → r.packet ≡ c → Runs {A = Half} (done (HasRun ss c l)) q (HasRun slots packet left) → Has (t ++ q)
  gives ss c l (y ∷ q) t r e h = absurd h
  gives ss c l [] t r e h =
      let a : ss ≡ slots = ap (λ x. slots_in x slots) h in
      let b : c ≡ packet = ap (λ x. packet_in x packet) h in
      let d : l ≡ left = ap (λ x. left_in x left) h in
      rw append-nil (subst (λ (l : Left). (r : Ran w s t slots l) × (r.packet ≡ packet)) d (subst (λ (ss : List Slot). (r : Ran w s t ss l) × (r.packet ≡ packet)) a (r, e ∙ b)))

  copied : (p1 p2 p3 p : List Event) (n : ℕ) (ss : List Slot) (fragments : List Fragment) (a : HasRead w s n p1 p2 ss) → standing ss ≡ Some (Ok wanted.Complete) → offered_fragments w.offers ss ≡ Ok fragments →
      (o : Option (List ℕ)) → IsCopy w fragments p3 o → Runs (half_copy w s ss o) p (HasRun slots packet left) → Has (p1 ++ (p2 ++ (p3 ++ p)))
  copied p1 p2 p3 p n ss fragments a v f None c h = absurd (never_runs (after_copy w s ss None) p slots packet left h)
  copied p1 p2 p3 p n ss fragments a v f (Some bytes) c h =
      let i = split (program (run_of w bytes) 0) (λ l. done (HasRun ss bytes l)) p (HasRun slots packet left) h in
      let run = run_parts w s p1 p2 p3 i.front n ss fragments bytes i.mid a v f c i.first in
      subst Has (sym (ap (λ q. p1 ++ (p2 ++ (p3 ++ q))) i.joined ∙ regroup p1 p2 p3 i.front i.back)) (gives ss bytes i.mid i.back (p1 ++ (p2 ++ (p3 ++ i.front))) run refl i.later)

  chain_has : (p1 p2 p : List Event) (n : ℕ) (ss : List Slot) → HasRead w s n p1 p2 ss → standing ss ≡ Some (Ok wanted.Complete) → (o : Result (List Fragment) SizeFault) → offered_fragments w.offers ss ≡ o →
      Runs (half_chain w s ss o) p (HasRun slots packet left) → Has (p1 ++ (p2 ++ p))
  chain_has p1 p2 p n ss a v (Err fault) f h = absurd (never_runs (after_chain w s ss (Err fault)) p slots packet left h)
  chain_has p1 p2 p n ss a v (Ok fragments) f h =
      let i = split (copy w fragments []) (half_copy w s ss) p (HasRun slots packet left) h in
      rw i.joined (copied p1 p2 i.front i.back n ss fragments a v f i.mid (copy_parts w fragments i.front i.mid i.first) i.later)

  scan_has : (p1 p2 p : List Event) (n : ℕ) (ss : List Slot) (x : Scan) → HasRead w s n p1 p2 ss → ScanEnds n [] ss x → Runs (half_scan w s x) p (HasRun slots packet left) → Has (p1 ++ (p2 ++ p))
  scan_has p1 p2 p n ss _ a (is_whole v) h = chain_has p1 p2 p n ss a v (offered_fragments w.offers ss) refl h
  scan_has p1 p2 p n ss _ a (is_faulty fault v) h = absurd (never_runs (after_scan w s (Err (halt.Chain fault))) p slots packet left h)
  scan_has p1 p2 p n ss _ a (none_left e v) h = absurd (never_runs (after_scan w s (Err halt.ShortChain)) p slots packet left h)

  look_has : s.halt ≡ None → (p1 p : List Event) (o : Option ℕ) → IsLook w s.tx_index p1 o → Runs (half_look w s o) p (HasRun slots packet left) → Has (p1 ++ p)
  look_has running p1 p None l h = absurd (never_runs (after_look w s None) p slots packet left h)
  look_has running p1 p (Some zero) l h = absurd (never_runs (after_look w s (Some zero)) p slots packet left h)
  look_has running p1 p (Some (suc n)) l h =
      let i = split (read_slots w s.tx_index (suc n) []) (half_scan w s) p (HasRun slots packet left) h in
      let c = slots_parts w s.tx_index (suc n) [] i.front i.mid refl i.first in
      rw i.joined (scan_has p1 i.front i.back (suc n) c.more i.mid
      (record { running = running; look = l; some = omega arith; read = record { reads = c.reads; words = c.words; wanted = λ k l. beginning_by (take k c.more) (c.wanted k l); within = c.within } }) c.ends i.later)

  unless_has : (o : Option Halt) (p : List Event) → s.halt ≡ o → Runs (half_unless w s o) p (HasRun slots packet left) → Has p
  unless_has (Some cause) p e h = absurd (never_runs (unless_halted w s (Some cause)) p slots packet left h)
  unless_has None p e h =
      let i = split (look w s.tx_index) (half_look w s) p (HasRun slots packet left) h in
      rw i.joined (look_has e i.front i.back i.mid (looked w s.tx_index i.front i.mid i.first) i.later)

  pub has_copy : (p : List Event) → Runs (half_turn w s) p (HasRun slots packet left) → Has p
  has_copy p h = unless_has s.halt p refl h
