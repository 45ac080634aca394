-- Writes one after another, and their accesses.
use Rattle.std.proofs.Common.{◌≡◌, ℕ, zero, suc, ◌+◌, ◌-◌, ◌*◌, List, [], ◌∷◌, ◌++◌, Option, get_or, length, refl, ◌∙◌, ap, arith, subst}
use Rattle.xen_netif.specs.Slots.{tx_req_words}
use Rattle.xen_netif.specs.declared.tx.TxReq.{TxReq}
use Rattle.xen_page.specs.Access.{Performs}
use Rattle.xen_page.specs.declared.access.Access.{Access}
use Rattle.xen_page.specs.declared.access.Access.TheVariants as access
use Rattle.xen_page.specs.declared.place.Place.{Place}
use Rattle.xen_page.proofs.AccessLemmas.{performs_then}
use Rattle.xen_steps.specs.Drive.{Any, Bounded, Driven, LedBy, IsPageWant}
use Rattle.xen_steps.specs.Event.{Event}
use Rattle.xen_steps.specs.Pages.{PageWrite, write_all, writes}
use Rattle.xen_steps.specs.Places.{page_word, tx_entry}
use Rattle.xen_steps.specs.Steps.{Steps}
use Rattle.xen_steps.specs.declared.want.Want.TheVariants as want
use Rattle.xen_steps.proofs.DriveLemmas.{bounded_gone, bounded_le, occurs_write}
use Rattle.xen_front.specs.Slots.{page_writes, tx_writes, word_at}
use Rattle.xen_front.specs.Rest.{rest_at}
use Rattle.xen_front.specs.Short.{IsShort}
use Rattle.xen_front.specs.Straight.{AreOnBus, touched}
use Rattle.xen_front.specs.declared.by_event.phase.Phase.{Phase}
use Rattle.xen_front.specs.declared.state.FrontState.{FrontState}
use Rattle.xen_buffers.specs.declared.wiring.FrontWiring.{FrontWiring}

-- a word of a packet's page
abbrev pub page_write : List ℕ → (frame k j : ℕ) → PageWrite
page_write p frame k j = record { at = page_word frame j; value = word_at p (4096 * k + 4 * j) }

-- one word more
more_from : (p : List ℕ) (frame k n j : ℕ) → page_writes p frame k (suc n) j ≡ page_writes p frame k n j ++ page_write p frame k (j + n) ∷ []
more_from p frame k zero j = let e : j ≡ j + 0 = omega arith in ap (λ i. page_write p frame k i ∷ []) e
more_from p frame k (suc n) j =
    let e : j + 1 + n ≡ j + suc n = omega arith in
    ap (λ ns. page_write p frame k j ∷ ns) (more_from p frame k n (j + 1) ∙ ap (λ i. page_writes p frame k n (j + 1) ++ page_write p frame k i ∷ []) e)

pub page_writes_more : (p : List ℕ) (frame k n : ℕ) → page_writes p frame k (n + 1) 0 ≡ page_writes p frame k n 0 ++ page_write p frame k n ∷ []
page_writes_more p frame k n =
    let e : n + 1 ≡ suc n = omega arith in
    let z : 0 + n ≡ n = omega arith in
    ap (λ m. page_writes p frame k m 0) e ∙ more_from p frame k n 0 ∙ ap (λ i. page_writes p frame k n 0 ++ page_write p frame k i ∷ []) z

pub touched-append : (ns ms : List PageWrite) → touched (ns ++ ms) ≡ touched ns ++ touched ms
touched-append [] ms = refl
touched-append (n ∷ ns) ms = ap (λ l. access.Write n.at n.value ∷ l) (touched-append ns ms)

-- the first of two runs of writes, and the second
pub first_on_bus : (frames : ℕ) (ns ms : List PageWrite) → AreOnBus frames (ns ++ ms) → AreOnBus frames ns
first_on_bus frames [] ms on = tt
first_on_bus frames (n ∷ ns) ms on = (on.0, on.1, first_on_bus frames ns ms on.2)

pub second_on_bus : (frames : ℕ) (ns ms : List PageWrite) → AreOnBus frames (ns ++ ms) → AreOnBus frames ms
second_on_bus frames [] ms on = on
second_on_bus frames (n ∷ ns) ms on = second_on_bus frames ns ms on.2

-- the writes that a computation asks for lie on its bus
pub bounded_writes : {A : Type 0} (frames : ℕ) (ns : List PageWrite) (rest : Steps A) (n : ℕ) → Bounded (IsPageWant frames) Any (write_all ns rest) n → AreOnBus frames ns
bounded_writes frames [] rest n b = tt
bounded_writes frames (x ∷ ns) rest n b = (b.1.0, b.1.1, bounded_writes frames ns rest (n - 1) (b.2 0))

gone_writes : {A : Type 0} (ns : List PageWrite) (rest : Steps A) → LedBy (write_all ns rest) (writes ns) rest
gone_writes [] rest = refl
gone_writes (n ∷ ns) rest = (write_all ns rest, (0, occurs_write (want.Write n.at n.value) n.at n.value refl, refl), gone_writes ns rest)

-- what is written in one go is what is asked for, write by write
pub driven_writes : {A S : Type 0} (log : S → Option (List Access)) (gives : S → Access → S → Type 0) (ns : List PageWrite) (rest : Steps A) (a b : S) →
    Performs log gives a (touched ns) b → Driven log gives (write_all ns rest) rest a b (writes ns)
driven_writes log gives ns rest a b h = record { gone = gone_writes ns rest; performed = h }

pub write_all-append : {A : Type 0} (ns ms : List PageWrite) (rest : Steps A) → write_all (ns ++ ms) rest ≡ write_all ns (write_all ms rest)
write_all-append [] ms rest = refl
write_all-append (n ∷ ns) ms rest = ap (λ s. Steps.ask (want.Write n.at n.value) (λ _. s)) (write_all-append ns ms rest)

-- what is left stays short
pub short_gone : (w : FrontWiring) (s : FrontState) (p q : List ℕ) (x y : Phase) (t : List Event) → IsShort w s p q x → LedBy (rest_at w s p q x) t (rest_at w s p q y) → IsShort w s p q y
unfolding IsShort
short_gone w s p q x y t h g =
    bounded_le (IsPageWant w.frames) Any (rest_at w s p q y) (17000 - length t) 17000
    (bounded_gone (IsPageWant w.frames) Any (rest_at w s p q x) (rest_at w s p q y) t 17000 h g) (omega arith)

-- the three words of a list, written at three places
three_words : Place → Place → Place → List ℕ → List Access
three_words p q r ws = access.Write p (get_or ws 0 0) ∷ access.Write q (get_or ws 1 0) ∷ access.Write r (get_or ws 2 0) ∷ []

-- a request's words, written one after another into its entry
pub performs_request : {S : Type 0} (log : S → Option (List Access)) (gives : S → Access → S → Type 0) (a b c d : S)
    (p q r : Place) (frame i : ℕ) (ws : List ℕ) (t u : TxReq) →
    p ≡ tx_entry frame i 0 → q ≡ tx_entry frame i 1 → r ≡ tx_entry frame i 2 → ws ≡ tx_req_words t → t ≡ u →
    Performs log gives a (access.Write p (get_or ws 0 0) ∷ []) b → Performs log gives b (access.Write q (get_or ws 1 0) ∷ []) c →
    Performs log gives c (access.Write r (get_or ws 2 0) ∷ []) d → Performs log gives a (touched (tx_writes frame i 0 (tx_req_words u))) d
unfolding three_words
performs_request log gives a b c d p q r frame i ws t u first second third words same one two three =
    let x = tx_entry frame i 0 in
    let y = tx_entry frame i 1 in
    let z = tx_entry frame i 2 in
    let said : three_words p q r ws ≡ three_words x y z (tx_req_words u) =
    ap (λ n. three_words n q r ws) first ∙ ap (λ n. three_words x n r ws) second ∙ ap (λ n. three_words x y n ws) third ∙ ap (three_words x y z) (words ∙ ap tx_req_words same) in
    let rest = performs_then log gives b c d (access.Write q (get_or ws 1 0) ∷ []) (access.Write r (get_or ws 2 0) ∷ []) two three in
    let all = performs_then log gives a b d (access.Write p (get_or ws 0 0) ∷ []) (access.Write q (get_or ws 1 0) ∷ access.Write r (get_or ws 2 0) ∷ []) one rest in
    subst (λ (l : List Access). Performs log gives a l d) said all
