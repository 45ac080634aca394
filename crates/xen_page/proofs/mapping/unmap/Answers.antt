use Rattle.std.proofs.Common.{◌≡◌, ◌≢◌, [], ◌∷◌, bit_or, ap, ◌∙◌, sym}
use Rattle.xen_page.specs.Mapping.{Mapping, kept, marks, unmapped, unmarking}
use Rattle.xen_page.proofs.MappingLemmas.{performs_unmarking}
use Rattle.xen_page.proofs.mapping.unmap.Goals as goal

pub returns-then-found-marked-clause-unmapped : goal.returns-then-found-marked-clause-unmapped
returns-then-found-marked-clause-unmapped g c =
    let i = c.mapped.inside in
    let m : Mapping = record { granter = i.granter; frame = i.frame; rights = i.rights; at = i.at; word = i.word } in
    let marked = bit_or i.word (marks i.rights) in
    let is : c.cas-found.result ≡ marked = c.if-found-marked.true ∙ ap (λ k. bit_or i.word k) c.marks_for.ensures in
    rw (← c.mapped.view_is) (
      unmarking m marked ∷ [],
      unmapped,
      performs_unmarking g.B.Bus.log g.B.Bus.access_gives c.args.bus.now c.cas-found.new.self m marked c.marks_for.result c.marks_for.ensures
          (rw is at c.cas-found.ensures.told) (rw is at c.cas-found.ensures.given),
    )

pub returns-else-found-marked-clause-unmapped : goal.returns-else-found-marked-clause-unmapped
returns-else-found-marked-clause-unmapped g c =
    let i = c.mapped.inside in
    let m : Mapping = record { granter = i.granter; frame = i.frame; rights = i.rights; at = i.at; word = i.word } in
    let found = c.cas-found.result in
    let not : found ≢ bit_or i.word (marks i.rights) = λ is. c.if-found-marked.false (is ∙ sym (ap (λ k. bit_or i.word k) c.marks_for.ensures)) in
    rw (← c.mapped.view_is) (
      unmarking m found ∷ [],
      kept found not,
      performs_unmarking g.B.Bus.log g.B.Bus.access_gives c.args.bus.now c.cas-found.new.self m found c.marks_for.result c.marks_for.ensures
          c.cas-found.ensures.told c.cas-found.ensures.given,
    )
