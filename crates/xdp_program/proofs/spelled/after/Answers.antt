use Rattle.std.proofs.Common.{◌∙◌, ap, sym, take, List, ℕ}
use Rattle.std.proofs.lemmas.Bool.Decides.{Decides-eqb}
use Rattle.std.proofs.lemmas.List.{take_at}
use Rattle.std.proofs.lemmas.Slice.Eq.{strip_prefix_is}
use Rattle.bpf_insn.specs.Spelling.{spelling}
use Rattle.xdp_program.proofs.SpelledLemmas.{stripped}
use Rattle.xdp_program.proofs.spelled.after.Goals as goal

pub returns : goal.returns
returns c =
    let made = c.encode-length in
    let whole = ap (λ (xs : List ℕ). take made.result.1 xs) made.ensures.bytes ∙ take_at (spelling c.args.insn.now) _ made.result.1 (sym made.ensures.len) in
    let both = stripped c.args.bytes.now (take made.result.1 made.result.0) (spelling c.args.insn.now) c.strip_prefix.result whole
    (strip_prefix_is Decides-eqb c.args.bytes.now _ c.strip_prefix.result c.strip_prefix.ensures.cases) in
    record { some = both.0; none = both.1 }
