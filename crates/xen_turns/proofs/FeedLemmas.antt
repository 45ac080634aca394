-- Taking an answer, and coming to the end of a turn.
use Rattle.std.proofs.Common.{◌≡◌, ℕ, List, [], ◌∷◌, subst}
use Rattle.bpf_vm.specs.Course.{Course, Begins}
use Rattle.bpf_vm.specs.declared.want.VmWant.{VmWant}
use Rattle.bpf_vm.specs.declared.want.VmWant.TheVariants as vm_want
use Rattle.xen_steps.specs.Steps.{Steps, bind, want_of}
use Rattle.xen_turns.specs.Tree.{Left, answer, program}
use Rattle.xen_turns.specs.Turned.{Ending}
use Rattle.xen_steps.specs.declared.want.Want.TheVariants as want
use Rattle.xen_turns.specs.declared.wiring.Wiring.{Wiring}

-- a program that begins wants something
pub program_asks : (v : VmWant) (c : Course) (ops : ℕ) (f : Left → Steps Ending) → Begins v c → want_of (bind (program c ops) f) ≡ want.Done → ⊥
program_asks vm_want.Step c ops f b e = let g = subst (λ c. want_of (bind (program c ops) f) ≡ want.Done) b.1 e in cc
program_asks (vm_want.Load m k j) c ops f b e = let g = subst (λ c. want_of (bind (program c ops) f) ≡ want.Done) b.1 e in cc
program_asks (vm_want.Add m k j d) c ops f b e = let g = subst (λ c. want_of (bind (program c ops) f) ≡ want.Done) b.1 e in cc
program_asks (vm_want.Exit r0) c ops f b e = let g = subst (λ c. want_of (bind (program c ops) f) ≡ want.Done) b.1 e in cc

pub answer_asks : (w : Wiring) (t n i : ℕ) (rs : List ℕ) (e : Ending) → want_of (answer w t n i rs e) ≡ want.Done → ⊥
answer_asks w t n i [] e h = cc
answer_asks w t n i (r ∷ rs) e h = cc
