use Rattle.std.proofs.Common.{◌≡◌, ◌/◌, ◌+◌, ◌-◌, ◌≤◌, ◌*◌, List, ℕ, ap, arith, length, sym, ◌∙◌, subst}
use Rattle.xen_page.proofs.PlainLemmas.{passes_put}
use Rattle.xen_page.proofs.RunLemmas.{length-bytes}
use borrow.Rule.Slice.PartMut.{put_mid}
use Rattle.xen_page.specs.Access.{Passes}
use Rattle.xen_page.specs.Numbered.{index_of}
use Rattle.xen_page.specs.Plain.{Holds}
use Rattle.xen_page.specs.Run.{writes_of}
use Rattle.xen_page.proofs.plain_bus.PlainBusBus.write_run.Goals as goal

pub returns-clause-written : goal.returns-clause-written
returns-clause-written c =
    let at = c.args.at in
    let words = c.put_words.new.words in
    let first = c.place_of-first.result in
    let count = length c.args.bytes.now / 4 in
    let many : 4 * length words ≡ length c.args.bytes.now = sym (length-bytes words) ∙ ap length c.put_words.ensures.words in
    let old = c.self.inside.words.now in
    let room : index_of at + length words ≤ length old = omega (arith, many, c.requires.frame, c.requires.within, ap length c.self.view_is) in
    let given : Passes Holds old (writes_of at words) (put_mid first (first + count - first) old words) =
    passes_put at words old first (first + count - first) c.place_of-first.ensures (omega (arith, many)) room in
    record {
      words = words;
      below = c.put_words.ensures.below;
      told = sym c.put_words.ensures.words;
      performed = record { told = tt; given = subst (λ (l : List ℕ). Passes Holds l (writes_of at words) (put_mid first (first + count - first) old words)) c.self.view_is given };
    }
