-- Laws of the computations of a transmit, and of a transmit before what follows it.
use Rattle.std.proofs.Common.{◌≡◌, ℕ, zero, suc, ◌+◌, ◌-◌, ◌<◌, IsTrue, List, [], ◌∷◌, length, drop, refl, arith, sym, ◌∙◌, ap, None}
use Rattle.std.proofs.lemmas.List.{drop_more}
use Rattle.xen_netif.specs.declared.offload.RxOffload.{RxOffload}
use Rattle.xen_rx_fill.specs.Going.{is_going}
use Rattle.xen_rx_fill.specs.Packets.{buffer_word, response_word, target_at, word_of, words}
use Rattle.xen_steps.specs.Places.{add32}
use Rattle.xen_rx_fill.specs.Places.{rx_slot}
use Rattle.xen_rx_fill.specs.Rest.{rest_of}
use Rattle.xen_steps.specs.Steps.{asks, ask, bind, next_by}
use Rattle.xen_rx_fill.specs.Transmit.{fill, fill_from, rx_answer, rx_respond}
use Rattle.xen_rx_fill.specs.declared.by_event.phase.Phase.{Phase}
use Rattle.xen_rx_fill.specs.declared.by_event.phase.Phase.TheVariants as phase
use Rattle.xen_rx_fill.specs.declared.target.Grants.{Grants}
use Rattle.xen_rx_fill.specs.declared.target.Grants.TheVariants.{Passed}
use Rattle.xen_rx_fill.specs.declared.target.Target.{Target}
use Rattle.xen_steps.specs.declared.want.Want.TheVariants as want
use Rattle.xen_rx_fill.specs.declared.vif.Vif.{Vif}

-- what is left of the responses at a slot
pub rx_answer_at : (w : Vif) (x : ℕ) (o : RxOffload) (packet : List ℕ) (grants : Grants) (n i : ℕ) (ts : List Target) → i < length ts →
    rx_answer w x o packet grants n i (drop i ts) ≡ ask (want.Write (rx_slot w (add32 x i) 0) (response_word o grants packet n i (target_at ts i).id 0))
    (λ _. ask (want.Write (rx_slot w (add32 x i) 1) (response_word o grants packet n i (target_at ts i).id 1)) (λ _. rx_answer w x o packet grants n (i + 1) (drop (i + 1) ts)))
rx_answer_at w x o packet grants n i ts h = ap (λ l. rx_answer w x o packet grants n i l) (drop_more ts i (record { id = 0; frame = None }) h)

-- after a write nothing is looked at
pub rx_answer_by : (w : Vif) (x : ℕ) (o : RxOffload) (packet : List ℕ) (grants : Grants) (n i : ℕ) (ts : List Target) (a b : ℕ) → next_by (rx_answer w x o packet grants n i ts) 0 0 ≡ next_by (rx_answer w x o packet grants n i ts) a b
rx_answer_by w x o packet grants n i [] a b = refl
rx_answer_by w x o packet grants n i (t ∷ ts) a b = refl

-- what is left of the words at a word
pub fill_at : (w : Vif) (x : ℕ) (o : RxOffload) (packet : List ℕ) (ts : List Target) (k : ℕ) → k < words packet →
    fill_from w x o packet ts k ≡ ask (want.Write (buffer_word o ts k) (word_of packet k)) (λ _. fill_from w x o packet ts (k + 1))
fill_at w x o packet ts k h =
    let e : words packet - k ≡ suc (words packet - (k + 1)) = omega arith in
    ap (λ n. bind (fill o ts packet n k) (λ _. rx_respond w x o packet Passed ts)) e

fill_some : (w : Vif) (x : ℕ) (o : RxOffload) (packet : List ℕ) (ts : List Target) (n k a b : ℕ) →
    next_by (bind (fill o ts packet n k) (λ _. rx_respond w x o packet Passed ts)) 0 0 ≡ next_by (bind (fill o ts packet n k) (λ _. rx_respond w x o packet Passed ts)) a b
fill_some w x o packet ts zero k a b = rx_answer_by w x o packet Passed (length ts) 0 ts a b
fill_some w x o packet ts (suc n) k a b = refl

pub fill_by : (w : Vif) (x : ℕ) (o : RxOffload) (packet : List ℕ) (ts : List Target) (k a b : ℕ) → next_by (fill_from w x o packet ts k) 0 0 ≡ next_by (fill_from w x o packet ts k) a b
fill_by w x o packet ts k a b = fill_some w x o packet ts (words packet - k) k a b

rx_answer_asks : (w : Vif) (x : ℕ) (o : RxOffload) (packet : List ℕ) (grants : Grants) (n i : ℕ) (ts : List Target) → IsTrue (asks (rx_answer w x o packet grants n i ts))
rx_answer_asks w x o packet grants n i [] = refl
rx_answer_asks w x o packet grants n i (t ∷ ts) = refl

fill_asks : (w : Vif) (x : ℕ) (o : RxOffload) (packet : List ℕ) (ts : List Target) (n k : ℕ) → IsTrue (asks (bind (fill o ts packet n k) (λ _. rx_respond w x o packet Passed ts)))
fill_asks w x o packet ts zero k = rx_answer_asks w x o packet Passed (length ts) 0 ts
fill_asks w x o packet ts (suc n) k = refl

pub going_asks : (w : Vif) (x : ℕ) (o : RxOffload) (packet : List ℕ) (s : Phase) → IsTrue (is_going s) → IsTrue (asks (rest_of w x o packet s))
going_asks w x o packet phase.Look h = refl
going_asks w x o packet (phase.First r) h = refl
going_asks w x o packet (phase.Second r a) h = refl
going_asks w x o packet (phase.EntryFlags g) h = refl
going_asks w x o packet (phase.EntryFrame g a) h = refl
going_asks w x o packet (phase.Filling ts k) h = fill_asks w x o packet ts (words packet - k) k
going_asks w x o packet (phase.Response grants ts i) h = rx_answer_asks w x o packet grants (length ts) i (drop i ts)
going_asks w x o packet (phase.HalfResponse r) h = refl
going_asks w x o packet (phase.ReadEvent grants n) h = refl
going_asks w x o packet (phase.Notice grants n) h = refl
going_asks w x o packet (phase.Over out) h = cc

-- no counter's number is looked at
pub no_number : (w : Vif) (x : ℕ) (o : RxOffload) (packet : List ℕ) (s : Phase) (a b : ℕ) → next_by (rest_of w x o packet s) a 0 ≡ next_by (rest_of w x o packet s) a b
no_number w x o packet phase.Look a b = refl
no_number w x o packet (phase.First r) a b = refl
no_number w x o packet (phase.Second r v) a b = refl
no_number w x o packet (phase.EntryFlags g) a b = refl
no_number w x o packet (phase.EntryFrame g v) a b = refl
no_number w x o packet (phase.Filling ts k) a b = sym (fill_by w x o packet ts k a 0) ∙ fill_by w x o packet ts k a b
no_number w x o packet (phase.Response grants ts i) a b =
    sym (rx_answer_by w x o packet grants (length ts) i (drop i ts) a 0) ∙ rx_answer_by w x o packet grants (length ts) i (drop i ts) a b
no_number w x o packet (phase.HalfResponse r) a b = refl
no_number w x o packet (phase.ReadEvent grants n) a b = refl
no_number w x o packet (phase.Notice grants n) a b = refl
no_number w x o packet (phase.Over out) a b = refl
