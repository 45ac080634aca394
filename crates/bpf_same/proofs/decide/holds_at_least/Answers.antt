use Rattle.std.proofs.Common.{arith}
use Rattle.std.proofs.lemmas.Bool.Decides.{nat_tests}
use Rattle.bpf_note.specs.Parts.{facts}
use Rattle.bpf_same.proofs.DifferenceLemmas.{at_least_by}
use Rattle.bpf_same.proofs.decide.holds_at_least.Goals as goal

pub returns : goal.returns
returns c = λ t.
    at_least_by (facts c.args.note.now) c.args.relation.now c.args.one c.args.other _ c.new_form.result c.new_form-2.result c.in-Some.rest c.moved-before.result c.new_form-3.result c.in-Some-span.there.low c.in-Some-span.there.high c.in-Some-range_by.range.low c.in-Some-range_by.range.high
    c.in-Some-span-2.most.low c.in-Some-span-2.most.high c.requires.small c.requires.other (grind (arith, nat_tests, c.if-register-from.false, c.from.ensures)) c.new_form.ensures c.new_form-2.ensures c.in-Some.ensures c.moved-before.ensures c.in-Some-span.ensures c.new_form-3.ensures c.in-Some-range_by.ensures
    c.in-Some-span-2.ensures (grind (arith, nat_tests, t))
