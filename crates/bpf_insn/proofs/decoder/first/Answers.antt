use Rattle.std.proofs.Common.{◌++◌, drop, ◌∙◌, subst, ap, sym, List, ℕ}
use Rattle.bpf_insn.specs.Spelling.{ContinuesNone}
use Rattle.bpf_insn.specs.Fields.{slot_bytes}
use Rattle.bpf_insn.proofs.ClassLemmas.{then_none, then_both_some}
use Rattle.bpf_insn.proofs.SpellingLemmas.{begins_one, none_begin, none_begin_two, take_eight}
use Rattle.bpf_insn.proofs.decoder.first.Goals as goal

pub returns-then-fields-ne-WIDE_LOAD-clause-spelled : goal.returns-then-fields-ne-WIDE_LOAD-clause-spelled
returns-then-fields-ne-WIDE_LOAD-clause-spelled c =
    then_both_some _ (λ i one fits. (begins_one c.args.bytes.now c.fields_of-fields.result i c.fields_of-fields.ensures.bytes one fits).0) c.narrow.ensures.some c.narrow.ensures.fits

pub returns-then-fields-ne-WIDE_LOAD-clause-front : goal.returns-then-fields-ne-WIDE_LOAD-clause-front
returns-then-fields-ne-WIDE_LOAD-clause-front c =
    then_both_some _ (λ i one fits. (begins_one c.args.bytes.now c.fields_of-fields.result i c.fields_of-fields.ensures.bytes one fits).1) c.narrow.ensures.some c.narrow.ensures.fits

pub returns-then-fields-ne-WIDE_LOAD-clause-none : goal.returns-then-fields-ne-WIDE_LOAD-clause-none
returns-then-fields-ne-WIDE_LOAD-clause-none c =
    then_none _ (λ none. subst ContinuesNone (sym (take_eight c.args.bytes.now c.fields_of-fields.result c.fields_of-fields.ensures.bytes))
    (none_begin c.fields_of-fields.result (drop 8 c.args.bytes.now) c.fields_of-fields.ensures.fits c.if-fields-ne-WIDE_LOAD.true none)) c.narrow.ensures.none

pub returns-clause-none : goal.returns-clause-none
returns-clause-none c =
    let first = take_eight c.args.bytes.now c.fields_of-fields.result c.fields_of-fields.ensures.bytes in
    let second = take_eight (drop 8 c.args.bytes.now) c.fields_of.result c.fields_of.ensures.bytes in
    then_none _ (λ none. subst ContinuesNone (sym (first ∙ ap (λ (x : List ℕ). slot_bytes c.fields_of-fields.result ++ x) second))
    (none_begin_two c.fields_of-fields.result c.fields_of.result (drop 8 (drop 8 c.args.bytes.now)) c.fields_of-fields.ensures.fits c.fields_of.ensures.fits c.if-fields-ne-WIDE_LOAD.false none)) c.wide.ensures.none
