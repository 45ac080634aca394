use Rattle.std.proofs.Common.{◌≡◌, ◌≤◌, ◌<◌, [], ◌∷◌, List, ℕ, Bool, true, false, zero, suc, length, take, Option, None, refl, sym, ◌∙◌, ap, arith, nat_lt, le-ltb}
use Rattle.std.proofs.lemmas.Bool.{lt-ltb}
use Rattle.xen_steps.specs.Pages.{write_all}
use Rattle.xen_front.specs.Fronts.{all_free, busy, send_tests}
use Rattle.xen_front.specs.Slots.{pieces_of, send_writes}
use Rattle.xen_front.specs.Tree.{flown, publish, send}
use Rattle.xen_steps.specs.Places.{add32}
use Rattle.xen_front.specs.declared.turn.FrontHalt.{FrontHalt}
use Rattle.xen_front.specs.declared.state.Ring.{Ring}
use Rattle.xen_front.proofs.BoundLemmas.{bounded_send}
use Rattle.xen_front.proofs.IdLemmas.{chosen_few, chosen_ids}
use Rattle.xen_front.proofs.ShortLemmas.{short_begun}
use Rattle.xen_front.proofs.front.Front.send.Goals as goal

says : (o : Option FrontHalt) (b s l f v : Bool) → o ≡ None → b ≡ false → s ≡ false → l ≡ false → f ≡ v → send_tests None false false false v ≡ send_tests o b s l f
says o b s l f v e1 e2 e3 e4 e5 = cc

few : (l : List ℕ) (n : ℕ) → length (take n l) < n → length l < n
few l zero h = absurd (omega arith)
few [] (suc n) h = h
few (x ∷ l) (suc n) h = let k = few l n (omega arith) in omega arith

many : (l : List ℕ) (n : ℕ) → n ≤ length (take n l) → n ≤ length l
many l zero h = omega arith
many [] (suc n) h = h
many (x ∷ l) (suc n) h = let k = many l n (omega arith) in omega arith

pub returns-then-len-n-clause-answer : goal.returns-then-len-n-clause-answer
returns-then-len-n-clause-answer c =
    let f = c.args.self.now in
    let n = pieces_of (length c.args.bytes.now) in
    let free = all_free f.state.tx.out in
    let taken : c.len.result ≡ length (take n free) = c.len.ensures.value ∙ ap length c.choose-ids.ensures ∙ ap (λ m. length (take m free)) c.pieces_of-n.ensures.value in
    let less : length (take n free) < n = rw (sym taken) (rw (sym c.pieces_of-n.ensures.value) c.if-len-n.true) in
    says f.state.halt (busy f) (nat_lt (length c.args.bytes.now) 14) (nat_lt 65535 (length c.args.bytes.now)) (nat_lt (length free) n) true
    c.in-None.is (sym c.is_busy.ensures ∙ c.if-is_busy.false) (le-ltb (length c.args.bytes.now) 14 c.if-bytes-lt-MIN_PACKET.false) (le-ltb 65535 (length c.args.bytes.now) c.if-bytes-gt-MAX_PACKET.false)
    (lt-ltb (length free) n (few free n less))

pub returns-clause-answer : goal.returns-clause-answer
returns-clause-answer c =
    let f = c.args.self.now in
    let n = pieces_of (length c.args.bytes.now) in
    let free = all_free f.state.tx.out in
    let taken : c.len.result ≡ length (take n free) = c.len.ensures.value ∙ ap length c.choose-ids.ensures ∙ ap (λ m. length (take m free)) c.pieces_of-n.ensures.value in
    let enough : n ≤ length (take n free) = rw (sym taken) (rw (sym c.pieces_of-n.ensures.value) c.if-len-n.false) in
    says f.state.halt (busy f) (nat_lt (length c.args.bytes.now) 14) (nat_lt 65535 (length c.args.bytes.now)) (nat_lt (length free) n) false
    c.in-None.is (sym c.is_busy.ensures ∙ c.if-is_busy.false) (le-ltb (length c.args.bytes.now) 14 c.if-bytes-lt-MIN_PACKET.false) (le-ltb 65535 (length c.args.bytes.now) c.if-bytes-gt-MAX_PACKET.false)
    (le-ltb (length free) n (many free n enough))

positive : (m : ℕ) → 14 ≤ m → 0 < pieces_of m
positive m h = omega arith

pub returns-clause-ok : goal.returns-clause-ok
returns-clause-ok c =
    let f = c.args.self.now in
    let w = f.wiring in
    let s = f.state in
    let n = pieces_of (length c.args.bytes.now) in
    let free = all_free s.tx.out in
    let ids : c.choose-ids.result.items ≡ take n free = c.choose-ids.ensures ∙ ap (λ m. take m free) c.pieces_of-n.ensures.value in
    let taken : c.len.result ≡ length (take n free) = c.len.ensures.value ∙ ap length ids in
    let enough : n ≤ length (take n free) = rw (sym taken) (rw (sym c.pieces_of-n.ensures.value) c.if-len-n.false) in
    let state : c.fly.new.ring ≡ flown s.tx (take n free) = c.fly.ensures ∙ ap (flown s.tx) (c.as_slice.ensures.value ∙ ids) in
    record {
      rest = c.first_piece-self.ensures.rest w (record s { tx = c.fly.new.ring }) c.fill.new.self f.received
          ∙ ap (λ (p : List ℕ). write_all (send_writes w s.tx.prod p (length c.choose-ids.result.items) 0 c.choose-ids.result.items) (publish w w.tx_frame s.tx.prod (add32 s.tx.prod (length c.choose-ids.result.items)) (record s { tx = c.fly.new.ring }))) c.fill.ensures
          ∙ ap (λ (l : List ℕ). write_all (send_writes w s.tx.prod c.args.bytes.now (length l) 0 l) (publish w w.tx_frame s.tx.prod (add32 s.tx.prod (length l)) (record s { tx = c.fly.new.ring }))) ids
          ∙ ap (λ (r : Ring). write_all (send_writes w s.tx.prod c.args.bytes.now (length (take n free)) 0 (take n free)) (publish w w.tx_frame s.tx.prod (add32 s.tx.prod (length (take n free))) (record s { tx = r }))) state;
      wiring = refl;
    }

pub invariant_of-self-clause-short : goal.invariant_of-self-clause-short
invariant_of-self-clause-short c =
    let f = c.args.self.now in
    let w = f.wiring in
    let s = f.state in
    let n = pieces_of (length c.args.bytes.now) in
    let free = all_free s.tx.out in
    let ids : c.choose-ids.result.items ≡ take n free = c.choose-ids.ensures ∙ ap (λ m. take m free) c.pieces_of-n.ensures.value in
    let taken : c.len.result ≡ length (take n free) = c.len.ensures.value ∙ ap length ids in
    let enough : n ≤ length (take n free) = rw (sym taken) (rw (sym c.pieces_of-n.ensures.value) c.if-len-n.false) in
    let state : c.fly.new.ring ≡ flown s.tx (take n free) = c.fly.ensures ∙ ap (flown s.tx) (c.as_slice.ensures.value ∙ ids) in
    let few : n ≤ 16 = rw (sym c.pieces_of-n.ensures.value) c.pieces_of-n.ensures.few in
    short_begun w (record s { tx = c.fly.new.ring }) c.fill.new.self f.received c.first_piece-self.result (send w s c.args.bytes.now (take n free)) 16467 f.wired (omega arith)
    (bounded_send w f.wired s c.args.bytes.now (take n free) (chosen_few n s.tx.out few) (chosen_ids n s.tx.out))
    (c.first_piece-self.ensures.rest w (record s { tx = c.fly.new.ring }) c.fill.new.self f.received
    ∙ ap (λ (p : List ℕ). write_all (send_writes w s.tx.prod p (length c.choose-ids.result.items) 0 c.choose-ids.result.items) (publish w w.tx_frame s.tx.prod (add32 s.tx.prod (length c.choose-ids.result.items)) (record s { tx = c.fly.new.ring }))) c.fill.ensures
    ∙ ap (λ (l : List ℕ). write_all (send_writes w s.tx.prod c.args.bytes.now (length l) 0 l) (publish w w.tx_frame s.tx.prod (add32 s.tx.prod (length l)) (record s { tx = c.fly.new.ring }))) ids
    ∙ ap (λ (r : Ring). write_all (send_writes w s.tx.prod c.args.bytes.now (length (take n free)) 0 (take n free)) (publish w w.tx_frame s.tx.prod (add32 s.tx.prod (length (take n free))) (record s { tx = r }))) state)

pub first_piece-self-requires : goal.first_piece-self-requires
first_piece-self-requires c =
    let s = c.args.self.now.state in
    let n = pieces_of (length c.args.bytes.now) in
    let free = all_free s.tx.out in
    let ids : c.choose-ids.result.items ≡ take n free = c.choose-ids.ensures ∙ ap (λ m. take m free) c.pieces_of-n.ensures.value in
    let more : 0 < n = (let k = c.if-bytes-lt-MIN_PACKET.false in positive (length c.args.bytes.now) k) in
    omega (arith, more, c.if-len-n.false, c.pieces_of-n.ensures.value, c.len.ensures.value)
