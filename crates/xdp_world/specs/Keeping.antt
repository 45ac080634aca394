-- Stated: claims rest on this file.
-- A turn that is kept.
use Rattle.std.specs.Prelude.{◌≡◌}
use Rattle.bpf_vm.specs.Actions.{action_of}
use Rattle.xen_turns.specs.Turned.{Turned, Idle, Ran, Refused, Halted}
use Rattle.xdp_world.specs.declared.kept.Kept.{Kept}
use Rattle.xdp_world.specs.declared.kept.Kept.TheVariants as kept

abbrev pub Keeps : Turned → Kept → Type 0
Keeps Idle kept.Idle = Unit {0}
Keeps (Ran number packet ops slots) (kept.Ran action n bytes o k) = (action ≡ action_of number) × (n ≡ number) ×
    (bytes.items ≡ packet) × (o ≡ ops) × (k ≡ slots)
Keeps (Refused cause ops slots) (kept.Refused c o k) = (c ≡ cause) × (o ≡ ops) × (k ≡ slots)
Keeps (Halted cause) (kept.Halted c) = c ≡ cause
Keeps u k = ⊥
