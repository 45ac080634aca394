use Rattle.std.proofs.Common.{◌≡◌, ◌+◌, ◌<◌, ◌++◌, ◌∷◌, [], List, ℕ, length, set, take, drop, ap, sym, ◌∙◌, arith}
use Rattle.std.proofs.lemmas.List.{drop-drop}
use Rattle.xen_host.specs.Filling.{packet_words}
use Rattle.xen_host.specs.LentWords.{lent_words}
use Rattle.xen_host.proofs.LentWordLemmas.{next_behind, next_front}
use Rattle.xen_host.proofs.AskLemmas.{packet_words_more}
use Rattle.xen_host.proofs.page_words.put_words.Goals as goal

pub returns-then-whole-count-clause-wrote : goal.returns-then-whole-count-clause-wrote
returns-then-whole-count-clause-wrote c =
    let n = c.min-whole.result in
    let lent = c.put_whole.new.words in
    let v = c.packet_word.result in
    let bytes = c.args.bytes.now in
    let from = c.args.from in
    let more : c.args.count ≡ n + 1 = omega (arith, c.if-whole-count.true, c.min-whole.ensures, c.requires.inside, c.requires.short, c.requires.some) in
    let inside : n < length lent = omega (arith, c.put_whole.ensures.width, c.requires.enough, more) in
    ap (λ m. take m (lent_words (set lent n c.to_le_bytes.result))) more
    ∙ ap (λ (b : List ℕ). take (n + 1) (lent_words (set lent n b))) c.to_le_bytes.ensures
    ∙ next_front n v lent inside c.packet_word.type_inv
    ∙ ap (λ l. l ++ v ∷ []) c.put_whole.ensures.wrote
    ∙ ap (λ x. packet_words bytes from n ++ x ∷ []) c.packet_word.ensures
    ∙ sym (packet_words_more bytes from n)
    ∙ sym (ap (λ m. packet_words bytes from m) more)

pub returns-then-whole-count-clause-rest : goal.returns-then-whole-count-clause-rest
returns-then-whole-count-clause-rest c =
    let n = c.min-whole.result in
    let lent = c.put_whole.new.words in
    let old = lent_words c.args.words.now in
    let more : c.args.count ≡ n + 1 = omega (arith, c.if-whole-count.true, c.min-whole.ensures, c.requires.inside, c.requires.short, c.requires.some) in
    next_behind n c.args.count c.to_le_bytes.result lent c.if-whole-count.true
    ∙ ap (λ m. drop m (lent_words lent)) more
    ∙ sym (drop-drop 1 n (lent_words lent))
    ∙ ap (λ l. drop 1 l) c.put_whole.ensures.rest
    ∙ drop-drop 1 n old
    ∙ sym (ap (λ m. drop m old) more)
