-- Stated: claims rest on this file.
-- A computation of either end that keeps the pair's invariant.
use Rattle.std.specs.Prelude.{ℕ, ◌≡◌, List}
use Rattle.xen_buffers.specs.declared.wiring.FrontWiring.{FrontWiring}
use Rattle.xen_steps.specs.Steps.{Steps}
use Rattle.honest_pair.specs.Invariant.Ghosts.{Back, Sent}
use Rattle.honest_pair.specs.Invariant.Inv.{Inv}
use Rattle.honest_pair.specs.Machine.Safe.{Safe}

abbrev pub BackSafe : FrontWiring → ℕ → {A : Type 0} → (Back → Type 0) → (Back → A → Type 0) → Back → Steps A → Type 0
BackSafe w start K P b t = Safe (λ m b f. Inv w start m f b) K P b t

-- what is given all along
abbrev pub HasGiven : List Sent → Back → Type 0
HasGiven g b = b.given ≡ g
