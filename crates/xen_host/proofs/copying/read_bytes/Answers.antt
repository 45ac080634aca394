use Rattle.std.proofs.Common.{◌≡◌, ◌+◌, ◌-◌, ◌%◌, ◌<◌, take, drop, get_or, sym, ap, ◌∙◌, subst, arith}
use Rattle.xen_netif.specs.Copy.{bytes_of}
use Rattle.xen_host.specs.LentWords.{lent_words}
use Rattle.xen_host.proofs.LentWordLemmas.{lent_below, lent_bytes}
use Rattle.xen_host.proofs.copying.read_bytes.Goals as goal

pub returns-clause-below : goal.returns-clause-below
returns-clause-below c = lent_below c.args.words.now c.told-words (λ i. subst (λ l. get_or l i 0 < 256) c.as_flattened-bytes.ensures.value (c.are_bytes.ensures i))

pub returns-clause-read : goal.returns-clause-read
returns-clause-read c =
    let bytes = c.as_flattened-bytes.result.now in
    let same : bytes ≡ bytes_of (lent_words c.args.words.now) =
    c.as_flattened-bytes.ensures.value
    ∙ sym (lent_bytes c.args.words.now c.told-words (λ i. subst (λ l. get_or l i 0 < 256) c.as_flattened-bytes.ensures.value (c.are_bytes.ensures i))) in
    let from : c.from-from.result ≡ c.args.fragment.now.offset % 4 = c.from-from.ensures in
    let size : c.from-from.result + c.from-size.result - c.from-from.result ≡ c.args.fragment.now.size = omega (arith, c.from-size.ensures) in
    ap (λ n. take n (drop c.from-from.result bytes)) size ∙ ap (λ n. take c.args.fragment.now.size (drop n bytes)) from ∙ ap (λ l. take c.args.fragment.now.size (drop (c.args.fragment.now.offset % 4) l)) same
