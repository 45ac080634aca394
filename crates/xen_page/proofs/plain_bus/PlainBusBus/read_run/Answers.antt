use Rattle.std.proofs.Common.{◌/◌, ◌+◌, ◌≤◌, List, ℕ, arith, length, refl, sym, subst}
use Rattle.xen_page.proofs.PlainLemmas.{passes_taken}
use Rattle.xen_page.specs.Access.{Passes}
use Rattle.xen_page.specs.Numbered.{index_of}
use Rattle.xen_page.specs.Plain.{Holds}
use Rattle.xen_page.specs.Run.{reads_of}
use Rattle.xen_page.proofs.plain_bus.PlainBusBus.read_run.Goals as goal

pub returns-clause-read : goal.returns-clause-read
returns-clause-read c =
    let at = c.args.at in
    let old = c.args.self.now in
    let count = length c.args.room.now / 4 in
    let inside : index_of at + count ≤ length old = omega (arith, c.requires.frame, c.requires.within) in
    let given = passes_taken at old (index_of at) count refl inside in
    record {
      words = c.words_from.result.now;
      below = c.put_bytes.ensures.below;
      performed = record { told = tt; given = subst (λ (l : List ℕ). Passes Holds old (reads_of at l) old) (sym c.words_from.ensures) given };
      told = c.put_bytes.ensures.bytes;
    }
