use Rattle.std.proofs.Common.{rules, ◌≡◌, Some, length, refl}
use Rattle.std.specs.Prelude.{slice_get}
use Rattle.std.proofs.lemmas.Option.{slice_get_read}
use Rattle.bpf_same.proofs.simulation.Simulation.is_entailed.Goals as goal

pub returns-then-slot-self : goal.returns-then-slot-self
returns-then-slot-self c = λ t s d.
    let found = c.is_covered.ensures t s d in
    let list = c.index-self-slot.result in
    let here : slice_get c.args.self.now.notes.now c.args.slot ≡ Some list = slice_get_read c.args.self.now.notes.now (length c.args.self.now.notes.now) c.args.slot list refl c.if-slot-self.true c.index-self-slot.is in
    let at : slice_get list.items found.0 ≡ Some found.1 = search rules in
    record { list = list; here = here; k = found.0; note = found.1; at = at; describes = found.3 }
