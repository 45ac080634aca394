use Rattle.std.proofs.Common.{◌≡◌, ℕ, ◌+◌, ◌-◌, ◌/◌, ◌++◌, List, length, take, drop, refl, sym, ap, ◌∙◌, subst, arith}
use Rattle.std.proofs.lemmas.List.{drop-map, length-drop, length-take, take-map}
use Rattle.std.specs.Int.{w32, from_le_bytes}
use Rattle.xen_netif.specs.Copy.{copy_of}
use Rattle.xen_netif.proofs.CopyLemmas.{bytes_from-covered}
use Rattle.xen_steps.specs.Pages.{AreWords, covered}
use Rattle.xen_host.specs.LentWords.{lent_words}
use Rattle.xen_host.proofs.AskLemmas.{page_short}
use Rattle.xen_host.proofs.LentWordLemmas.{lent_length}
use Rattle.xen_host.proofs.lane_host.LaneHostHost.page.Goals as goal

pub read_bytes-requires : goal.read_bytes-requires
read_bytes-requires g c =
    let r = c.covered_words-covered.result in
    let k = r.end - r.start in
    let own = c.args.self.now.own in
    let lent = c.args.self.now.words.now in
    record {
      all = omega (arith, ap (λ (l : List (List ℕ)). length l) c.front.ensures, length-take k (drop own lent), length-drop own lent, c.requires.fresh.2, page_short c.args.fragment.now c.requires.in_page, c.covered_words-covered.ensures.count);
    }

pub returns-clause-given : goal.returns-clause-given
returns-clause-given g c =
    let f = c.args.fragment.now in
    let held = g.R.Room.held c.args.packet.now in
    let r = c.covered_words-covered.result in
    let k = r.end - r.start in
    let own = c.args.self.now.own in
    let lent = c.args.self.now.words.now in
    let n : k ≡ covered f = omega (arith, c.covered_words-covered.ensures.count) in
    let cut = take k (drop own lent) in
    let words = lent_words cut in
    let all : length words ≡ k = omega (arith, lent_length cut, length-take k (drop own lent), length-drop own lent, c.requires.fresh.2, page_short c.args.fragment.now c.requires.in_page, c.covered_words-covered.ensures.count) in
    let same : words ≡ take k (drop own (lent_words lent)) =
    sym (ap (λ (l : List ℕ). take k l) (drop-map (λ bytes. from_le_bytes w32 bytes) own lent) ∙ take-map (λ bytes. from_le_bytes w32 bytes) k (drop own lent)) in
    record {
      words = words;
      all = all ∙ n;
      below = subst (λ (l : List (List ℕ)). AreWords (lent_words l)) c.front.ensures c.read_bytes.ensures.below;
      read = c.push_all.ensures
          ∙ ap (λ (l : List ℕ). held ++ l) c.read_bytes.ensures.read
          ∙ ap (λ (l : List (List ℕ)). held ++ copy_of f (lent_words l)) c.front.ensures
          ∙ ap (λ (l : List ℕ). held ++ l) (sym (bytes_from-covered f (f.offset / 4) words refl));
      given = (same ∙ ap (λ (m : ℕ). take m (drop own (lent_words lent))) (sym all), refl);
    }
