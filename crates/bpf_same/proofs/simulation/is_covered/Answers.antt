use Rattle.std.proofs.Common.{◌≡◌, Some, refl, subst, arith}
use Rattle.std.specs.Prelude.{slice_get}
use Rattle.std.proofs.lemmas.Option.{slice_get_read}
use Rattle.bpf_note.specs.Describes.{Describes}
use Rattle.bpf_note.specs.Parts.{Noted, facts}
use Rattle.bpf_same.proofs.SilentLemmas.{false_true}
use Rattle.bpf_same.proofs.simulation.is_covered.Goals as goal

pub returns-then-covers : goal.returns-then-covers
returns-then-covers c = λ t s d.
    let there : slice_get c.args.notes.now c.loop-k.k ≡ Some c.index-notes-k.result = slice_get_read c.args.notes.now _ c.loop-k.k _ refl (omega arith) c.index-notes-k.is in
    (c.loop-k.k, c.index-notes-k.result, there, subst (λ (n : Noted). Describes (facts n) s) c.deref.ensures (c.covers.ensures.describes c.if-covers.true s d))

pub returns : goal.returns
returns c = λ t. false_true t
