-- A world goes on by steps.
use Rattle.std.proofs.Common.{ℕ, List, [], ◌∷◌, ◌++◌, refl, ◌∙◌, ap, append_assoc}
use Rattle.std.proofs.lemmas.List.{append-nil}
use Rattle.xdp_world.specs.Entries.{Entry}
use Rattle.xdp_world.specs.Stands.{GoesOn, IsStep}
use Rattle.xdp_world.specs.declared.world.World.{World}
use Rattle.xdp_world.proofs.Worlds.{steps_more}

pub goes_none : (a : World) → GoesOn a a []
goes_none a wirings start begin es h = ([], refl, rw append-nil h)

pub goes_more : (a b c : World) (steps : List (ℕ × ℕ)) (q n : ℕ) → GoesOn a b steps →
    IsStep b c q n → GoesOn a c (steps ++ (q, n) ∷ [])
goes_more a b c steps q n g f wirings start begin es h =
    let m = g wirings start begin es h in
    let r = f.stands wirings start begin (es ++ m.0) m.2 in
    let entry : Entry = record { queue = q; answer = n; event = f.event } in
    (m.0 ++ entry ∷ [], steps_more m.0 entry ∙ ap (λ l. l ++ (q, n) ∷ []) m.1, rw (← append_assoc es m.0 (entry ∷ [])) r)
