-- Asks that follow one another: the responses of a chain and of rx slots, and a page's words.
use Rattle.std.proofs.Common.{◌≡◌, ℕ, zero, suc, ◌+◌, ◌-◌, ◌*◌, ◌/◌, ◌%◌, ◌<◌, ◌≤◌, Bool, true, false, List, [], ◌∷◌, ◌++◌, length, take, drop, refl, sym, ap, ◌∙◌, subst, arith}
use Rattle.std.specs.Prelude.{Option, Some, slice_get, slice_index, min, nat_le}
use Rattle.std.specs.Option.{option_map}
use Rattle.std.proofs.lemmas.Bool.Decides.{nat_tests}
use Rattle.std.proofs.lemmas.List.{drop_more}
use Rattle.std.proofs.lemmas.Option.{get_or_from_slice_get, slice_get-map}
use Rattle.xen_page.specs.Mapping.{frame_place}
use Rattle.xen_netif.specs.Chain.{Slot, requests_of}
use Rattle.xen_netif.specs.Slots.{tx_req_of}
use Rattle.xen_netif.specs.declared.offload.RxOffload.{RxOffload}
use Rattle.xen_netif.specs.declared.status.Status.{Status}
use Rattle.xen_netif.specs.declared.tx.TxReq.{TxReq}
use Rattle.xen_page.specs.declared.place.Place.{Place}
use Rattle.xen_steps.specs.Drive.{LedBy}
use Rattle.xen_steps.specs.Event.{Event, Write}
use Rattle.xen_steps.specs.Places.{add32, page_word}
use Rattle.xen_steps.specs.Steps.{Steps, ask as asking, bind}
use Rattle.xen_steps.specs.declared.want.Want.TheVariants as want
use Rattle.xen_rx_fill.specs.Packets.{buffer_word, frame_in, response_word, slot_of, target_at, word_of, words}
use Rattle.xen_rx_fill.specs.Places.{rx_slot, tx_slot}
use Rattle.xen_rx_fill.specs.Transmit.{fill, fill_from, rx_answer, rx_respond}
use Rattle.xen_rx_fill.specs.declared.by_event.phase.TransmitOutcome.{TransmitOutcome}
use Rattle.xen_rx_fill.specs.declared.target.Grants.{Grants}
use Rattle.xen_rx_fill.specs.declared.target.Grants.TheVariants.{Passed}
use Rattle.xen_rx_fill.specs.declared.target.Target.{Target}
use Rattle.xen_rx_fill.specs.declared.vif.Vif.{Vif}
use Rattle.xen_rx_fill.proofs.SendLemmas.{rx_answer_at}
use Rattle.xen_turns.specs.Tree.{answer, response, responses}
use Rattle.xen_turns.specs.Turned.{Ending}
use Rattle.xen_turns.specs.declared.wiring.Wiring.{Wiring}
use Rattle.xen_host.specs.Asks.{Ask, did_all, writes_at}
use Rattle.xen_host.specs.Asks as ask
use Rattle.xen_host.specs.Chained.{replies, reply, stores}
use Rattle.xen_host.specs.Filling.{packet_words}
use Rattle.xen_host.proofs.AskLemmas.{next_rx_word}
use Rattle.xen_host.specs.Hosts.{WasAskedAll, plain_all}
use Rattle.xen_host.proofs.HostLedLemmas.{asked_more}
use Rattle.xen_host.proofs.LedLemmas.{AreChained}

-- ---- the request in one slot, and the response to it

-- a slot that is the whole chain
pub request_alone : (slot : Slot) (n : ℕ) → n < 1 → slice_get (requests_of (slot ∷ [])) n ≡ Some (Some (tx_req_of slot))
request_alone slot zero h = refl
request_alone slot (suc n) h = absurd (omega (arith, h))

pub response_at : (st : Status) (slots : List Slot) (i : ℕ) (request : Option TxReq) → slice_get (requests_of slots) i ≡ Some request →
    response st request ≡ slice_index (responses st slots) i
response_at st slots i request h =
    let there : slice_get (responses st slots) i ≡ Some (response st request) =
    slice_get-map (response st) (requests_of slots) i ∙ ap (option_map (response st)) h in
    sym (get_or_from_slice_get (responses st slots) i (response st request) 0 there)

-- ---- the responses of a chain, from the i-th on

pub stores_chained : (w : Vif) (t : ℕ) (words : List ℕ) (i n : ℕ) → AreChained (stores w t words i n)
stores_chained w t words i zero = tt
stores_chained w t words i (suc n) = (refl, refl, tt, stores_chained w t words (i + 1) n)

pub stores_suc : (w : Vif) (t : ℕ) (words : List ℕ) (i n : ℕ) → stores w t words i (suc n) ≡ stores w t words i n ++ ask.Store (tx_slot w (add32 t (i + n)) 0) (slice_index words (i + n)) ∷ []
stores_suc w t words i zero =
    let e : i ≡ i + 0 = omega arith in
    ap (λ k. ask.Store (tx_slot w (add32 t k) 0) (slice_index words k) ∷ []) e
stores_suc w t words i (suc n) =
    let e : i + 1 + n ≡ i + suc n = omega arith in
    ap (λ (l : List Ask). ask.Store (tx_slot w (add32 t i) 0) (slice_index words i) ∷ l)
    (stores_suc w t words (i + 1) n ∙ ap (λ k. stores w t words (i + 1) n ++ ask.Store (tx_slot w (add32 t k) 0) (slice_index words k) ∷ []) e)

answer_more : (w : Wiring) (t n i : ℕ) (words : List ℕ) (e : Ending) → i < length words →
    answer w t n i (drop i words) e ≡ asking (want.Write (tx_slot w.vif (add32 t i) 0) (slice_index words i)) (λ _. answer w t n (i + 1) (drop (i + 1) words) e)
answer_more w t n i words e h = ap (λ l. answer w t n i l e) (drop_more words i 0 h)

pub stores_gone : (w : Wiring) (t m : ℕ) (words : List ℕ) (e : Ending) (i n : ℕ) (lent : List ℕ) → i + n ≤ length words →
    LedBy (answer w t m i (drop i words) e) (did_all (stores w.vif t words i n) lent) (answer w t m (i + n) (drop (i + n) words) e)
stores_gone w t m words e i zero lent h =
    let z : i ≡ i + 0 = omega arith in
    ap (λ k. answer w t m k (drop k words) e) z
stores_gone w t m words e i (suc n) lent h =
    let z : i + 1 + n ≡ i + suc n = omega arith in
    let goal : Steps Ending → Type 0 = λ s. LedBy s (did_all (stores w.vif t words i (suc n)) lent) (answer w t m (i + suc n) (drop (i + suc n) words) e) in
    let later = subst (λ k. LedBy (answer w t m (i + 1) (drop (i + 1) words) e) (did_all (stores w.vif t words (i + 1) n) lent) (answer w t m k (drop k words) e)) z (stores_gone w t m words e (i + 1) n lent (omega (arith, h))) in
    subst goal (sym (answer_more w t m i words e (omega (arith, h)))) (answer w t m (i + 1) (drop (i + 1) words) e, (0, (refl, refl), refl), later)

-- ---- the responses of rx slots, from the i-th on

pub replies_chained : (w : Vif) (x : ℕ) (o : RxOffload) (packet : List ℕ) (grants : Grants) (ts : List Target) (i n : ℕ) → AreChained (replies w x o packet grants ts i n)
replies_chained w x o packet grants ts i zero = tt
replies_chained w x o packet grants ts i (suc n) = (refl, refl, tt, replies_chained w x o packet grants ts (i + 1) n)

pub replies_suc : (w : Vif) (x : ℕ) (o : RxOffload) (packet : List ℕ) (grants : Grants) (ts : List Target) (i n : ℕ) → replies w x o packet grants ts i (suc n) ≡ replies w x o packet grants ts i n ++ reply w x o packet grants ts (i + n) ∷ []
replies_suc w x o packet grants ts i zero = let e : i ≡ i + 0 = omega arith in ap (λ k. reply w x o packet grants ts k ∷ []) e
replies_suc w x o packet grants ts i (suc n) =
    let e : i + 1 + n ≡ i + suc n = omega arith in
    ap (λ (l : List Ask). reply w x o packet grants ts i ∷ l) (replies_suc w x o packet grants ts (i + 1) n ∙ ap (λ k. replies w x o packet grants ts (i + 1) n ++ reply w x o packet grants ts k ∷ []) e)

pub replies_gone : (w : Vif) (x : ℕ) (o : RxOffload) (packet : List ℕ) (grants : Grants) (ts : List Target) (i n : ℕ) (lent : List ℕ) → i + n ≤ length ts →
    LedBy (rx_answer w x o packet grants (length ts) i (drop i ts)) (did_all (replies w x o packet grants ts i n) lent) (rx_answer w x o packet grants (length ts) (i + n) (drop (i + n) ts))
replies_gone w x o packet grants ts i zero lent h =
    let z : i ≡ i + 0 = omega arith in
    ap (λ k. rx_answer w x o packet grants (length ts) k (drop k ts)) z
replies_gone w x o packet grants ts i (suc n) lent h =
    let z : i + 1 + n ≡ i + suc n = omega arith in
    let m = length ts in
    let first = response_word o grants packet m i (target_at ts i).id 0 in
    let second = response_word o grants packet m i (target_at ts i).id 1 in
    let at = rx_slot w (add32 x i) 0 in
    let more = did_all (replies w x o packet grants ts (i + 1) n) lent in
    let after = rx_answer w x o packet grants m (i + 1) (drop (i + 1) ts) in
    let goal : Steps TransmitOutcome → Type 0 = λ s. LedBy s (did_all (replies w x o packet grants ts i (suc n)) lent) (rx_answer w x o packet grants m (i + suc n) (drop (i + suc n) ts)) in
    let later = subst (λ k. LedBy after more (rx_answer w x o packet grants m k (drop k ts))) z (replies_gone w x o packet grants ts (i + 1) n lent (omega (arith, h))) in
    let wrote : ◌≡◌ {A = Event} (Write (frame_place at) second) (Write (rx_slot w (add32 x i) 1) second) = ap (λ (p : Place). Write p second) (sym (next_rx_word w (add32 x i))) in
    subst goal (sym (rx_answer_at w x o packet grants m i ts (omega (arith, h))))
    (asking (want.Write (rx_slot w (add32 x i) 1) second) (λ _. after), (0, (refl, refl), refl), (after, (0, (refl, wrote), refl), later))

-- ---- one more was asked for

pub stores_asked : {H : Type 0} (was : H → Ask → List ℕ → H → Type 0) (w : Vif) (t : ℕ) (words : List ℕ) (from n i : ℕ) (host mid new : H) → from + n ≡ i →
    WasAskedAll was host (plain_all (stores w t words from n)) mid → was mid (ask.Store (tx_slot w (add32 t i) 0) (slice_index words i)) [] new → WasAskedAll was host (plain_all (stores w t words from (suc n))) new
stores_asked was w t words from n i host mid new e all one =
    let last = subst (λ k. was mid (ask.Store (tx_slot w (add32 t k) 0) (slice_index words k)) [] new) (sym e) one in
    subst (λ (l : List Ask). WasAskedAll was host (plain_all l) new) (sym (stores_suc w t words from n)) (asked_more was (stores w t words from n) _ host mid new all last)

pub replies_asked : {H : Type 0} (was : H → Ask → List ℕ → H → Type 0) (w : Vif) (x : ℕ) (o : RxOffload) (packet : List ℕ) (grants : Grants) (ts : List Target) (from n i : ℕ) (host mid new : H) → from + n ≡ i →
    WasAskedAll was host (plain_all (replies w x o packet grants ts from n)) mid → was mid (reply w x o packet grants ts i) [] new → WasAskedAll was host (plain_all (replies w x o packet grants ts from (suc n))) new
replies_asked was w x o packet grants ts from n i host mid new e all one =
    let last = subst (λ k. was mid (reply w x o packet grants ts k) [] new) (sym e) one in
    subst (λ (l : List Ask). WasAskedAll was host (plain_all l) new) (sym (replies_suc w x o packet grants ts from n)) (asked_more was (replies w x o packet grants ts from n) _ host mid new all last)

-- ---- words of a packet that go into a page

pub fill_gone : {A : Type 0} (o : RxOffload) (ts : List Target) (packet : List ℕ) (i j k m n : ℕ) (r : Unit {0} → Steps A) → k ≡ 1024 * i + j → j + m ≤ 1024 → m ≤ n →
    LedBy (bind (fill o ts packet n k) r) (writes_at (page_word (frame_in (target_at ts (slot_of o i)).frame) j) (packet_words packet k m)) (bind (fill o ts packet (n - m) (k + m)) r)
fill_gone o ts packet i j k zero n r e h l =
    let a : n ≡ n - 0 = omega arith in
    let b : k ≡ k + 0 = omega arith in
    ap (λ x. bind (fill o ts packet x k) r) a ∙ ap (λ x. bind (fill o ts packet (n - 0) x) r) b
fill_gone o ts packet i j k (suc m) zero r e h l = absurd (omega arith)
fill_gone {A = A} o ts packet i j k (suc m) (suc n) r e h l =
    let page : k / 1024 ≡ i = omega (arith, h, e) in
    let word : k % 1024 ≡ j = omega (arith, h, e) in
    let place : page_word (frame_in (target_at ts (slot_of o i)).frame) j ≡ buffer_word o ts k =
    sym (ap (λ p. page_word (frame_in (target_at ts (slot_of o p)).frame) (k % 1024)) page ∙ ap (λ x. page_word (frame_in (target_at ts (slot_of o i)).frame) x) word) in
    let a : n - m ≡ suc n - suc m = omega arith in
    let b : k + 1 + m ≡ k + suc m = omega arith in
    let next = page_word (frame_in (target_at ts (slot_of o i)).frame) (j + 1) in
    let later = fill_gone o ts packet i (j + 1) (k + 1) m n r (omega (arith, e)) (omega (arith, h)) (omega (arith, l)) in
    let left = subst (λ x. LedBy (bind (fill o ts packet n (k + 1)) r) (writes_at next (packet_words packet (k + 1) m)) (bind (fill o ts packet x (k + suc m)) r)) a
    (subst (λ x. LedBy (bind (fill o ts packet n (k + 1)) r) (writes_at next (packet_words packet (k + 1) m)) (bind (fill o ts packet (n - m) x) r)) b later) in
    (bind (fill o ts packet n (k + 1)) r, (0, (refl, ap (λ (p : Place). Write p (word_of packet k)) place), refl), left)

-- they are as many
pub taken_words : (packet : List ℕ) (k n : ℕ) → take n (packet_words packet k n) ≡ packet_words packet k n
taken_words packet k zero = refl
taken_words packet k (suc n) = ap (λ l. word_of packet k ∷ l) (taken_words packet (k + 1) n)

pub words_length : (packet : List ℕ) (k n : ℕ) → length (packet_words packet k n) ≡ n
words_length packet k zero = refl
words_length packet k (suc n) = ap suc (words_length packet (k + 1) n)

-- A page of them, and what is left then: the next page, or the responses.
pub page_gone : (w : Vif) (x : ℕ) (o : RxOffload) (packet : List ℕ) (ts : List Target) (i to : ℕ) → 1024 * i < words packet → to ≡ min (words packet) (1024 * i + 1024) →
    LedBy (fill_from w x o packet ts (1024 * i)) (writes_at (page_word (frame_in (target_at ts (slot_of o i)).frame) 0) (packet_words packet (1024 * i) (to - 1024 * i))) (fill_from w x o packet ts (1024 * (i + 1)))
page_gone w x o packet ts i to h e = by (nat_le (words packet) (1024 * i + 1024)) refl
  where
    r : Unit {0} → Steps TransmitOutcome
    r = λ _. rx_respond w x o packet Passed ts

    n : ℕ
    n = words packet - 1024 * i

    gone : (m : ℕ) → m ≤ n → m ≤ 1024 → LedBy (fill_from w x o packet ts (1024 * i)) (writes_at (page_word (frame_in (target_at ts (slot_of o i)).frame) 0) (packet_words packet (1024 * i) m)) (bind (fill o ts packet (n - m) (1024 * i + m)) r)
    gone m a b = fill_gone o ts packet i 0 (1024 * i) m n r (omega arith) (omega (arith, b)) a

    by : (b : Bool) → nat_le (words packet) (1024 * i + 1024) ≡ b →
        LedBy (fill_from w x o packet ts (1024 * i)) (writes_at (page_word (frame_in (target_at ts (slot_of o i)).frame) 0) (packet_words packet (1024 * i) (to - 1024 * i))) (fill_from w x o packet ts (1024 * (i + 1)))
    by true t =
        let le : words packet ≤ 1024 * i + 1024 = grind (arith, nat_tests) in
        let m : to - 1024 * i ≡ n = omega (arith, le, e) in
        let none : n - (to - 1024 * i) ≡ 0 = omega (arith, m) in
        let later : words packet - 1024 * (i + 1) ≡ 0 = omega (arith, le) in
        let left : bind (fill o ts packet (n - (to - 1024 * i)) (1024 * i + (to - 1024 * i))) r ≡ fill_from w x o packet ts (1024 * (i + 1)) =
        ap (λ k. bind (fill o ts packet k (1024 * i + (to - 1024 * i))) r) none ∙ sym (ap (λ k. bind (fill o ts packet k (1024 * (i + 1))) r) later) in
        subst (λ (s : Steps TransmitOutcome). LedBy (fill_from w x o packet ts (1024 * i)) (writes_at (page_word (frame_in (target_at ts (slot_of o i)).frame) 0) (packet_words packet (1024 * i) (to - 1024 * i))) s) left
        (gone (to - 1024 * i) (omega (arith, m)) (omega (arith, m, le)))
    by false t =
        let lt : 1024 * i + 1024 < words packet = grind (arith, nat_tests) in
        let m : to - 1024 * i ≡ 1024 = omega (arith, lt, e) in
        let next : 1024 * i + (to - 1024 * i) ≡ 1024 * (i + 1) = omega (arith, m) in
        let rest : n - (to - 1024 * i) ≡ words packet - 1024 * (i + 1) = omega (arith, lt, m) in
        let left : bind (fill o ts packet (n - (to - 1024 * i)) (1024 * i + (to - 1024 * i))) r ≡ fill_from w x o packet ts (1024 * (i + 1)) =
        ap (λ k. bind (fill o ts packet k (1024 * i + (to - 1024 * i))) r) rest ∙ ap (λ k. bind (fill o ts packet (words packet - 1024 * (i + 1)) k) r) next in
        subst (λ (s : Steps TransmitOutcome). LedBy (fill_from w x o packet ts (1024 * i)) (writes_at (page_word (frame_in (target_at ts (slot_of o i)).frame) 0) (packet_words packet (1024 * i) (to - 1024 * i))) s) left
        (gone (to - 1024 * i) (omega (arith, m, lt)) (omega (arith, m)))

-- No word is left.
pub fill_over : (w : Vif) (x : ℕ) (o : RxOffload) (packet : List ℕ) (ts : List Target) (k : ℕ) → words packet ≤ k → fill_from w x o packet ts k ≡ rx_respond w x o packet Passed ts
fill_over w x o packet ts k h =
    let none : words packet - k ≡ 0 = omega (arith, h) in
    ap (λ n. bind (fill o ts packet n k) (λ _. rx_respond w x o packet Passed ts)) none
