use Rattle.std.proofs.Common.{◌≡◌, ℕ, ◌≤◌, ◌-◌, ◌/◌, ◌++◌, List, length, take, refl, sym, ap, ◌∙◌, subst, arith}
use Rattle.std.proofs.lemmas.List.{length-take, take-map}
use Rattle.std.specs.Int.{w32, from_le_bytes}
use Rattle.xen_netif.specs.Copy.{copy_of}
use Rattle.xen_netif.proofs.CopyLemmas.{bytes_from-covered}
use Rattle.xen_steps.specs.Pages.{AreWords, covered}
use Rattle.xen_host.specs.LentWords.{lent_words}
use Rattle.xen_host.proofs.AskLemmas.{page_short}
use Rattle.xen_host.proofs.LentWordLemmas.{lent_length}
use Rattle.xen_host.proofs.host.OpsHost.page.Goals as goal

pub returns-clause-given : goal.returns-clause-given
returns-clause-given g c =
    let f = c.args.fragment.now in
    let held = (g.R.Room.held c.args.packet.now) in
    let lent = c.args.self.now.words.now in
    let r = c.covered_words-covered.result in
    let k = r.end - r.start in
    let n : k ≡ covered f = omega (arith, c.covered_words-covered.ensures.count) in
    let few : k ≤ length lent = omega (arith, page_short f c.requires.in_page, n, c.requires.fresh.2) in
    let words = lent_words (take k lent) in
    let all : length words ≡ k = omega (arith, lent_length (take k lent), length-take k lent, few) in
    let same : words ≡ take k (lent_words lent) = sym (take-map (λ bytes. from_le_bytes w32 bytes) k lent) in
    record {
      words = words;
      all = all ∙ n;
      below = subst (λ (l : List (List ℕ)). AreWords (lent_words l)) c.front.ensures c.read_bytes.ensures.below;
      read = c.push_all.ensures
          ∙ ap (λ (l : List ℕ). held ++ l) c.read_bytes.ensures.read
          ∙ ap (λ (l : List (List ℕ)). held ++ copy_of f (lent_words l)) c.front.ensures
          ∙ ap (λ (l : List ℕ). held ++ l) (sym (bytes_from-covered f (f.offset / 4) words refl));
      given = (same ∙ sym (ap (λ m. take m (lent_words lent)) all), refl);
    }
