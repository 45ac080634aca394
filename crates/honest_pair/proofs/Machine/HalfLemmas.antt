-- The two halves of a turn are the turn.
use Rattle.std.proofs.Common.{◌≡◌, ℕ, zero, suc, refl, ◌∙◌, ap, List, [], Option, Some, None, Result, Ok, Err}
use mathlib.Core.Path.{fun_ext}
use Rattle.xen_netif.specs.Chain.{Slot}
use Rattle.xen_netif.specs.Segments.{offered_fragments}
use Rattle.xen_netif.specs.declared.fault.SizeFault.{SizeFault}
use Rattle.xen_netif.specs.declared.fragment.Fragment.{Fragment}
use Rattle.xen_steps.specs.Steps.{Steps, done, ask, never, bind}
use Rattle.xen_turns.specs.Tree.{Scan, after_chain, after_copy, after_look, after_scan, copy, look, program, read_slots, run_of, unless_halted, whole_turn}
use Rattle.xen_turns.specs.Turned.{Ending}
use Rattle.xen_turns.specs.declared.state.State.{State}
use Rattle.xen_turns.specs.declared.turn.Halt.{Halt}
use Rattle.xen_turns.specs.declared.wiring.Wiring.{Wiring}
use Rattle.honest_pair.specs.Machine.Halves.{Over, HasRun, over, half_copy, half_chain, half_scan, half_look, half_unless, half_turn, second_half}

pub bind_assoc : {A B C : Type 0} (s : Steps A) (f : A → Steps B) (g : B → Steps C) → bind (bind s f) g ≡ bind s (λ x. bind (f x) g)
bind_assoc (done x) f g = refl
bind_assoc (ask w k) f g = ap (ask w) (fun_ext (λ a. bind_assoc (k a) f g))
bind_assoc never f g = refl

pub bind_same : {A B : Type 0} (s : Steps A) (f g : A → Steps B) → ((x : A) → f x ≡ g x) → bind s f ≡ bind s g
bind_same (done x) f g h = h x
bind_same (ask w k) f g h = ap (ask w) (fun_ext (λ a. bind_same (k a) f g h))
bind_same never f g h = refl

pub bind_done : {A : Type 0} (s : Steps A) → bind s (λ x. done x) ≡ s
bind_done (done x) = refl
bind_done (ask w k) = ap (ask w) (fun_ext (λ a. bind_done (k a)))
bind_done never = refl

module _ (w : Wiring) (s : State) where
  over_whole : (t : Steps Ending) → bind (over t) (second_half w s) ≡ t
  over_whole t = bind_assoc t (λ e. done (Over e)) (second_half w s) ∙ bind_done t

  copy_whole : (slots : List Slot) (c : Option (List ℕ)) → bind (half_copy w s slots c) (second_half w s) ≡ after_copy w s slots c
  copy_whole slots None = over_whole (after_copy w s slots None)
  copy_whole slots (Some packet) = bind_assoc (program (run_of w packet) 0) (λ l. done (HasRun slots packet l)) (second_half w s)

  chain_whole : (slots : List Slot) (r : Result (List Fragment) SizeFault) → bind (half_chain w s slots r) (second_half w s) ≡ after_chain w s slots r
  chain_whole slots (Err fault) = over_whole (after_chain w s slots (Err fault))
  chain_whole slots (Ok fragments) = bind_assoc (copy w fragments []) (half_copy w s slots) (second_half w s)
      ∙ bind_same (copy w fragments []) (λ c. bind (half_copy w s slots c) (second_half w s)) (after_copy w s slots) (copy_whole slots)

  scan_whole : (x : Scan) → bind (half_scan w s x) (second_half w s) ≡ after_scan w s x
  scan_whole (Err cause) = over_whole (after_scan w s (Err cause))
  scan_whole (Ok slots) = chain_whole slots (offered_fragments w.offers slots)

  look_whole : (o : Option ℕ) → bind (half_look w s o) (second_half w s) ≡ after_look w s o
  look_whole None = over_whole (after_look w s None)
  look_whole (Some zero) = over_whole (after_look w s (Some zero))
  look_whole (Some (suc n)) = bind_assoc (read_slots w s.tx_index (suc n) []) (half_scan w s) (second_half w s)
      ∙ bind_same (read_slots w s.tx_index (suc n) []) (λ x. bind (half_scan w s x) (second_half w s)) (after_scan w s) scan_whole

  unless_whole : (o : Option Halt) → bind (half_unless w s o) (second_half w s) ≡ unless_halted w s o
  unless_whole (Some cause) = over_whole (unless_halted w s (Some cause))
  unless_whole None = bind_assoc (look w s.tx_index) (half_look w s) (second_half w s)
      ∙ bind_same (look w s.tx_index) (λ o. bind (half_look w s o) (second_half w s)) (after_look w s) look_whole

  pub halves : bind (half_turn w s) (second_half w s) ≡ whole_turn w s
  halves = unless_whole s.halt
