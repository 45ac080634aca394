use Rattle.std.proofs.Common.{◌<◌, [], ◌∷◌, sym, ◌∙◌}
use Rattle.std.proofs.lemmas.Result.{err_from_is_err_and}
use Rattle.xen_page.specs.Mapping.{outside, refused, changed, mapped, marking, reads_of}
use Rattle.xen_page.proofs.AccessLemmas.{performs_none}
use Rattle.xen_page.proofs.MappingLemmas.{performs_marking, performs_reads}
use Rattle.xen_page.proofs.TableLemmas.{entry_frame_in}
use Rattle.xen_page.proofs.mapping.map.Goals as goal

pub returns-in_default-clause-mapped : goal.returns-in_default-clause-mapped
returns-in_default-clause-mapped g c = ([], outside (sym c.place.ensures.place ∙ c.in_default.is), performs_none g.B.Bus.log g.B.Bus.access_gives c.args.bus.now)

pub read-word-requires-clause-frame : goal.read-word-requires-clause-frame
read-word-requires-clause-frame g c =
    entry_frame_in (λ f. f < g.B.Bus.size c.args.bus.now) c.args.table.now c.args.gref c.in-Some.at (sym c.place.ensures.place ∙ c.in-Some.is) c.requires.within

pub read-frame-requires-clause-frame : goal.read-frame-requires-clause-frame
read-frame-requires-clause-frame g c =
    rw (c.next.ensures, c.read-word.ensures.size)
    (entry_frame_in (λ f. f < g.B.Bus.size c.args.bus.now) c.args.table.now c.args.gref c.in-Some.at (sym c.place.ensures.place ∙ c.in-Some.is) c.requires.within)

pub cas-found-requires-clause-frame : goal.cas-found-requires-clause-frame
cas-found-requires-clause-frame g c =
    rw (c.read-frame.ensures.size, c.read-word.ensures.size)
    (entry_frame_in (λ f. f < g.B.Bus.size c.args.bus.now) c.args.table.now c.args.gref c.in-Some.at (sym c.place.ensures.place ∙ c.in-Some.is) c.requires.within)

pub returns-in_err-frame-clause-mapped : goal.returns-in_err-frame-clause-mapped
returns-in_err-frame-clause-mapped g c =
    let p = err_from_is_err_and c.from_residual.result c.from_residual.ensures.1 in
    let a = c.read-word.result in
    let b = c.read-frame.result in
    rw (p.1, p.2) (
      reads_of c.in-Some.at a b [],
      refused c.in-Some.at a b c.in_err-frame.field-0.0 (sym c.place.ensures.place ∙ c.in-Some.is)
          (sym (rw c.of_words-entry.ensures.entry at c.check_unmarked.ensures.mappable) ∙ c.in_err-frame.was),
      performs_reads g.B.Bus.log g.B.Bus.access_gives c.args.bus.now c.read-word.new.self c.read-frame.new.self
          c.in-Some.at c.next.result a b c.next.ensures
          c.read-word.ensures.told c.read-word.ensures.given c.read-frame.ensures.told c.read-frame.ensures.given,
    )

pub returns-then-found-word-clause-mapped : goal.returns-then-found-word-clause-mapped
returns-then-found-word-clause-mapped g c =
    let a = c.read-word.result in
    let b = c.read-frame.result in
    let found = c.cas-found.result in (
      reads_of c.in-Some.at a b (marking c.in-Some.at a found c.args.rights ∷ []),
      changed c.in-Some.at a b c.in_ok-frame.frame found (sym c.place.ensures.place ∙ c.in-Some.is)
          (sym (rw c.of_words-entry.ensures.entry at c.check_unmarked.ensures.mappable) ∙ c.in_ok-frame.was) c.if-found-word.true,
      performs_marking g.B.Bus.log g.B.Bus.access_gives c.args.bus.now c.read-frame.new.self c.cas-found.new.self
          c.in-Some.at a b found c.marks_for.result c.args.rights c.marks_for.ensures
          (performs_reads g.B.Bus.log g.B.Bus.access_gives c.args.bus.now c.read-word.new.self c.read-frame.new.self
          c.in-Some.at c.next.result a b c.next.ensures
          c.read-word.ensures.told c.read-word.ensures.given c.read-frame.ensures.told c.read-frame.ensures.given)
          c.cas-found.ensures.told c.cas-found.ensures.given,
    )

pub returns-clause-mapped : goal.returns-clause-mapped
returns-clause-mapped g c =
    let a = c.read-word.result in
    let b = c.read-frame.result in (
      reads_of c.in-Some.at a b (marking c.in-Some.at a a c.args.rights ∷ []),
      mapped c.in-Some.at a b c.in_ok-frame.frame (sym c.place.ensures.place ∙ c.in-Some.is)
          (sym (rw c.of_words-entry.ensures.entry at c.check_unmarked.ensures.mappable) ∙ c.in_ok-frame.was),
      performs_marking g.B.Bus.log g.B.Bus.access_gives c.args.bus.now c.read-frame.new.self c.cas-found.new.self
          c.in-Some.at a b a c.marks_for.result c.args.rights c.marks_for.ensures
          (performs_reads g.B.Bus.log g.B.Bus.access_gives c.args.bus.now c.read-word.new.self c.read-frame.new.self
          c.in-Some.at c.next.result a b c.next.ensures
          c.read-word.ensures.told c.read-word.ensures.given c.read-frame.ensures.told c.read-frame.ensures.given)
          (rw c.if-found-word.false at c.cas-found.ensures.told) (rw c.if-found-word.false at c.cas-found.ensures.given),
    )
