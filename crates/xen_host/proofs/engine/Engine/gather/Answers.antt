use Rattle.std.proofs.Common.{◌≡◌, ℕ, suc, ◌+◌, ◌*◌, ◌≤◌, ◌++◌, List, [], ◌∷◌, length, drop, refl, sym, ap, ◌∙◌, subst, arith}
use Rattle.std.proofs.lemmas.List.{length-append, length-drop, length-take}
use Rattle.std.specs.Prelude.{IsTrue, Ok, Option, Some, Result, false}
use Rattle.xen_netif.specs.Chain.{Slot}
use Rattle.xen_netif.specs.Standing.{standing}
use Rattle.xen_netif.specs.declared.chain.ChainState.{ChainState}
use Rattle.xen_netif.specs.declared.chain.ChainState.TheVariants as wanted
use Rattle.xen_netif.specs.declared.fault.ChainFault.{ChainFault}
use Rattle.xen_host.specs.Early.{at_rx}
use Rattle.xen_host.specs.LaneSteps.{HasGathered, ScansTo, slot_at}
use Rattle.xen_host.specs.LentWords.{lent_words}
use Rattle.xen_host.specs.declared.gathering.Gathered.TheVariants as gathered
use Rattle.xen_host.proofs.FedLemmas.{words_below}
use Rattle.xen_host.proofs.LaneBeginLemmas.{scan_begins, scan_broken, scan_more, scan_wants, scan_whole, wanting}
use Rattle.xen_host.proofs.LentWordLemmas.{lent_length}
use Rattle.xen_host.proofs.engine.Engine.gather.Goals as goal

never : IsTrue false → ⊥
never h = cc h

-- What is wanted next is one thing.
ok_same : (x : ChainState) (o : Option (Result ChainState ChainFault)) → o ≡ Some (Ok x) → o ≡ Some (Ok wanted.Complete) → x ≡ wanted.Complete
ok_same x o e f = cc (e, f)

three : (words : List (List ℕ)) (slot : List ℕ) (i : ℕ) → slot ≡ slot_at (lent_words words) i → 3 * i + 3 ≤ length words → length slot ≡ 3
three words slot i is inside =
    let l = lent_words words in
    ap (λ (x : List ℕ). length x) is ∙ omega (arith, length-take 3 (drop (3 * i) l), length-drop (3 * i) l, lent_length words, inside)

pub loop-i-init : goal.loop-i-init
loop-i-init c =
    let s = λ (x : ℕ). scan_begins (at_rx x c.args.self.now.state) (lent_words c.args.words.now) c.args.from c.clear.new.self c.clear.ensures in
    record { state = refl; slots = (s 0).0; wants = (s 0).1; scanned = λ x. (s x).2 }

pub loop-i-preserved : goal.loop-i-preserved
loop-i-preserved c =
    let s = λ (x : ℕ). at_rx x c.args.self.now.state in
    let lent = lent_words c.args.words.now in
    let from = c.args.from in
    let v = c.loop-i.invariant in
    let i = c.loop-i.i in
    let chain = c.loop-i.self.work.chain in
    let n = length chain in
    let slot = c.slot_ahead-slot.result in
    let more = chain ++ slot ∷ [] in
    let is = c.slot_ahead-slot.ensures in
    let inside : 3 * i + 3 ≤ length c.args.words.now = omega (arith, c.loop-i-test.true, c.requires.few, c.requires.inside) in
    let one = λ (x : ℕ). scan_more (s x) lent from n chain slot (three c.args.words.now slot i is inside) refl (ap (λ k. slot_at lent k) v.slots ∙ sym is) (words_below slot c.are_words.ensures) (v.scanned x) in
    let stands : standing more ≡ Some (Ok c.in-Ok.state) = c.take_slot.ensures.standing ∙ ap (λ (r : Result ChainState ChainFault). Some r) c.in-Ok.is in
    let wants = λ (x : ℕ). scan_wants (s x) lent from (suc n) more c.in-Ok.state (λ k. never (c.if-is_whole.ensures.1 k)) stands (one x) in
    let all : length more ≡ suc n = length-append chain (slot ∷ []) ∙ omega arith in
    let ok : c.take_slot.new.self.work.chain ≡ more = c.in-Ok.ensures.ok in
    let count = ap (λ (l : List Slot). length l) ok ∙ all in
    record {
      state = c.take_slot.ensures.state ∙ v.state;
      slots = omega (arith, count, v.slots);
      wants = λ e. never (c.if-is_whole.ensures.1 (ok_same c.in-Ok.state (standing more) stands (ap standing (sym ok) ∙ e)));
      scanned = λ x. subst (λ (l : List Slot). ScansTo (s x) lent from (length l) (wanting (s x) l)) (sym ok) (subst (λ k. ScansTo (s x) lent from k (wanting (s x) more)) (sym all) (wants x));
    }

pub returns-in-Err-clause-gathered : goal.returns-in-Err-clause-gathered
returns-in-Err-clause-gathered c =
    let s = λ (x : ℕ). at_rx x c.args.self.now.state in
    let lent = lent_words c.args.words.now in
    let from = c.args.from in
    let v = c.loop-i.invariant in
    let i = c.loop-i.i in
    let chain = c.loop-i.self.work.chain in
    let n = length chain in
    let slot = c.slot_ahead-slot.result in
    let more = chain ++ slot ∷ [] in
    let is = c.slot_ahead-slot.ensures in
    let inside : 3 * i + 3 ≤ length c.args.words.now = omega (arith, c.loop-i-test.true, c.requires.few, c.requires.inside) in
    let one = λ (x : ℕ). scan_more (s x) lent from n chain slot (three c.args.words.now slot i is inside) refl (ap (λ k. slot_at lent k) v.slots ∙ sym is) (words_below slot c.are_words.ensures) (v.scanned x) in
    let stands = c.take_slot.ensures.standing ∙ ap (λ (r : Result ChainState ChainFault). Some r) c.in-Err.is in
    λ x. (suc n, omega arith, omega (arith, v.slots), omega (arith, c.loop-i-test.true), scan_broken (s x) lent from (suc n) more c.in-Err.fault stands (one x))

pub returns-then-is_whole-clause-gathered : goal.returns-then-is_whole-clause-gathered
returns-then-is_whole-clause-gathered c =
    let s = λ (x : ℕ). at_rx x c.args.self.now.state in
    let lent = lent_words c.args.words.now in
    let from = c.args.from in
    let v = c.loop-i.invariant in
    let i = c.loop-i.i in
    let chain = c.loop-i.self.work.chain in
    let n = length chain in
    let slot = c.slot_ahead-slot.result in
    let more = chain ++ slot ∷ [] in
    let is = c.slot_ahead-slot.ensures in
    let inside : 3 * i + 3 ≤ length c.args.words.now = omega (arith, c.loop-i-test.true, c.requires.few, c.requires.inside) in
    let one = λ (x : ℕ). scan_more (s x) lent from n chain slot (three c.args.words.now slot i is inside) refl (ap (λ k. slot_at lent k) v.slots ∙ sym is) (words_below slot c.are_words.ensures) (v.scanned x) in
    let stands = c.take_slot.ensures.standing ∙ ap (λ (r : Result ChainState ChainFault). Some r) (c.in-Ok.is ∙ ap (λ (x : ChainState). Ok x) (c.if-is_whole.ensures.0 refl)) in
    let all : length more ≡ suc n = length-append chain (slot ∷ []) ∙ omega arith in
    λ x. subst (λ (l : List Slot). HasGathered (s x) lent from c.args.to l (gathered.Whole (i + 1))) (sym c.in-Ok.ensures.ok)
    (suc n, omega arith, omega (arith, v.slots), omega (arith, c.loop-i-test.true), all, stands, scan_whole (s x) lent from (suc n) more stands (one x))

pub returns-clause-gathered : goal.returns-clause-gathered
returns-clause-gathered c =
    let v = c.loop-i.invariant in
    let n = length c.loop-i.self.work.chain in
    λ x. (n, omega (arith, v.slots, c.requires.some, c.loop-i-test.false), omega (arith, v.slots, c.loop-i-test.false, c.requires.some), refl, v.wants, v.scanned x)
