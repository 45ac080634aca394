-- Stated: claims rest on this file.
-- A computation of one end is safe if each of its events, on whatever the other end has done by then, keeps an invariant.
use Rattle.std.specs.Prelude.{ℕ, ◌<◌, ◌^◌}
use Rattle.xen_steps.specs.Steps.{Steps, done, ask, never}
use Rattle.honest_pair.specs.Machine.Memory.{Memory, after, answer}

-- `Inv m mine other`: the records of what this end and the other have done. K holds of this end's record all along, P at the end.
-- A load or an add of a counter is answered by any n.
abbrev pub Safe : {Mine Other A : Type 0} → (Memory → Mine → Other → Type 0) → (Mine → Type 0) → (Mine → A → Type 0) → Mine →
    Steps A → Type 0
Safe Inv K P f (done x) = P f x
Safe {Mine = Mine} {Other = Other} Inv K P f (ask w k) =
    (m : Memory) (b : Other) → Inv m f b → (f' : Mine) × Inv (after w m) f' b × K f' ×
    ((n : ℕ) → n < 2 ^ 64 → Safe Inv K P f' (k (answer w m n)))
Safe Inv K P f never = ⊥
