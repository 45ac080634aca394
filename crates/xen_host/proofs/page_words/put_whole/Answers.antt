use Rattle.std.proofs.Common.{◌≡◌, ◌+◌, ◌-◌, ◌/◌, length, take, drop, ap, ◌∙◌, arith}
use Rattle.std.proofs.lemmas.List.{length-take}
use Rattle.xen_host.specs.LentWords.{lent_words}
use Rattle.xen_host.proofs.LentWordLemmas.{part_words, put_behind, put_front}
use Rattle.xen_host.proofs.page_words.put_whole.Goals as goal

pub returns-clause-rest : goal.returns-clause-rest
returns-clause-rest c = put_behind c.args.count c.copy_from_slice.new.self c.args.words.now (omega (arith, c.copy_from_slice.ensures.len, length-take c.args.count c.args.words.now, c.requires.enough))

pub returns-clause-wrote : goal.returns-clause-wrote
returns-clause-wrote c =
    let bytes = c.args.bytes.now in
    let k = c.args.from in
    let n = c.args.count in
    let same : k + n - k ≡ n = omega arith in
    put_front n c.copy_from_slice.new.self c.args.words.now (omega (arith, c.copy_from_slice.ensures.len, length-take c.args.count c.args.words.now, c.requires.enough))
    ∙ ap lent_words (c.copy_from_slice.ensures.after ∙ ap (λ m. take m (drop k c.as_chunks.result.0.now)) same ∙ ap (λ l. take n (drop k l)) c.as_chunks.ensures.front)
    ∙ part_words bytes k n (length bytes / 4) c.requires.inside (omega (arith, c.requires.inside))
