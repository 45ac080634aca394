-- What a front's computation is at a phase that waits on a number.
use Rattle.std.proofs.Common.{◌≡◌, ℕ, zero, suc, ◌+◌, ◌-◌, ◌*◌, ◌<◌, ◌≤◌, Bool, true, false, not, List, [], ◌∷◌, ◌++◌, length, drop, Some, None, refl, arith, sym, ◌∙◌, ap, get_or}
use Rattle.std.specs.Prelude.{◌&&◌, ◌||◌, ◌==◌, nat_lt, if◌then◌else◌}
use Rattle.std.proofs.lemmas.Bool.Decides.{nat_tests}
use Rattle.std.proofs.lemmas.List.{drop_more}
use Rattle.xen_netif.specs.declared.offload.Accepts.{Accepts}
use Rattle.xen_netif.specs.declared.rx.RxRsp.{RxRsp}
use Rattle.xen_netif.specs.Slots.{tx_rsp_of}
use Rattle.xen_steps.specs.Pages.{PageWrite, write_all}
use Rattle.xen_steps.specs.Places.{page_word}
use Rattle.xen_steps.specs.Steps.{Steps, done, next_by, want_of}
use Rattle.xen_steps.specs.declared.want.Want.TheVariants as want
use Rattle.xen_front.specs.Rest.{id_of, rest_at}
use Rattle.xen_front.specs.Slots.{buffer, covered_bytes, fault_of, in_flight, may_have_extra, page_writes, passes_page, piece_words, piece_writes, send_writes, took, word_at}
use Rattle.xen_front.specs.Given.{Ending}
use Rattle.xen_front.specs.Tree.{Gathered, after_rx_look, receive, first_word, judged, next_entry, nothing_gathered, seen, take_all}
use Rattle.xen_front.specs.declared.by_event.phase.Phase.{Phase}
use Rattle.xen_front.specs.declared.by_event.phase.Phase.TheVariants as phase
use Rattle.xen_front.specs.declared.state.Ring.{Ring}
use Rattle.xen_front.specs.declared.state.FrontState.{FrontState}
use Rattle.xen_front.specs.declared.turn.FrontHalt.TheVariants as halt
use Rattle.xen_front.specs.declared.turn.Outcome.{Outcome}
use Rattle.xen_buffers.specs.declared.wiring.FrontWiring.{FrontWiring}

-- a page at a word
pub page_at : (p : List ℕ) (frame k n j : ℕ) → j < n →
    page_writes p frame k (n - j) j ≡ record { at = page_word frame j; value = word_at p (4096 * k + 4 * j) } ∷ page_writes p frame k (n - (j + 1)) (j + 1)
page_at p frame k n j h = let e : n - j ≡ suc (n - (j + 1)) = omega arith in ap (λ m. page_writes p frame k m j) e

-- the pieces at one, and at their end
pub pieces_at : (w : FrontWiring) (i : ℕ) (p : List ℕ) (n k : ℕ) (ids : List ℕ) → k < length ids →
    send_writes w i p n k (drop k ids) ≡ piece_writes w i p n k (get_or ids k 0) ++ send_writes w i p n (k + 1) (drop (k + 1) ids)
pieces_at w i p n k ids h = ap (λ l. send_writes w i p n k l) (drop_more ids k 0 h)

pub seen_some : (frame : ℕ) (r : Ring) (n : ℕ) → 0 < n → seen frame r (Some n) ≡ done (Some n)
seen_some frame r zero h = absurd (omega arith)
seen_some frame r (suc n) h = refl

pub receive_more : (w : FrontWiring) (n : ℕ) (s : FrontState) (g : Gathered) → 0 < n → receive w n s g ≡ next_entry w g.next s g (receive w (n - 1))
receive_more w zero s g h = absurd (omega arith)
receive_more w (suc n) s g h = let e : n ≡ suc n - 1 = omega arith in ap (λ m. next_entry w g.next s g (receive w m)) e

pub rx_some : (w : FrontWiring) (s : FrontState) (n : ℕ) → 0 < n → after_rx_look w s (Some n) ≡ first_word w s nothing_gathered (receive w (n - 1))
rx_some w s zero h = absurd (omega arith)
rx_some w s (suc n) h = let e : n ≡ suc n - 1 = omega arith in ap (λ m. first_word w s nothing_gathered (receive w m)) e

-- a response that passes the checks
pub record IsSound (accepts : Accepts) (r : Ring) (slots bytes : ℕ) (x : RxRsp) : Type 0 where
  pub known : in_flight r x.id ≡ true
  pub inside : passes_page x.offset x.status ≡ false
  pub few : x.flags.more_data ≡ true → slots ≤ 15 → slots ≤ 14
  pub room : bytes + covered_bytes x.status ≤ 65535
  pub extra : x.flags.extra_info ≡ true → slots ≡ 0

-- of the tests of its id and its flags
known_of : (a b c d : Bool) → (not a || (b && not c) || d) ≡ false → a ≡ true
known_of true b c d h = refl
known_of false b c d h = cc

extra_of : (a b c d : Bool) → (not a || (b && not c) || d) ≡ false → b ≡ true → c ≡ true
extra_of true true true d h e = refl
extra_of true true false d h e = cc
extra_of true false c d h e = cc
extra_of false b c d h e = cc

at_first : (accepts : Accepts) (slots : ℕ) → may_have_extra accepts slots ≡ true → slots ≡ 0
at_first accepts slots h = by (slots == 0) refl h
  where
    by : (t : Bool) → (slots == 0) ≡ t → (t && (accepts.segments.gso_tcpv4 || accepts.segments.gso_tcpv6)) ≡ true → slots ≡ 0
    by true e h = grind (arith, nat_tests)
    by false e h = cc

pub sound : (accepts : Accepts) (r : Ring) (slots bytes : ℕ) (x : RxRsp) → fault_of accepts r slots bytes x ≡ None → IsSound accepts r slots bytes x
sound accepts r slots bytes x h =
    by (not (in_flight r x.id) || (x.flags.extra_info && not (may_have_extra accepts slots)) || x.flags.gso_prefix) refl (passes_page x.offset x.status) refl (slots == 15) refl x.flags.more_data refl (nat_lt 65535 (bytes + covered_bytes x.status)) refl h
  where
    by : (a : Bool) → (not (in_flight r x.id) || (x.flags.extra_info && not (may_have_extra accepts slots)) || x.flags.gso_prefix) ≡ a → (d : Bool) → passes_page x.offset x.status ≡ d → (e : Bool) → (slots == 15) ≡ e → (f : Bool) → x.flags.more_data ≡ f →
        (g : Bool) → nat_lt 65535 (bytes + covered_bytes x.status) ≡ g →
        (if a then Some halt.RxSlot else if d then Some halt.RxSize else if (e && f) || g then Some halt.LongChain else None) ≡ None → IsSound accepts r slots bytes x
    by true i d j e k f l g m h = cc
    by false i true j e k f l g m h = cc
    by false i false j true k true l g m h = cc
    by false i false j e k f l true m h = by_last e f h
      where
        by_last : (e f : Bool) → (if (e && f) || true then Some halt.LongChain else None) ≡ None → IsSound accepts r slots bytes x
        by_last true true h = cc
        by_last true false h = cc
        by_last false f h = cc
    by false i false j true k false l false m h = record {
      known = known_of (in_flight r x.id) x.flags.extra_info (may_have_extra accepts slots) x.flags.gso_prefix i;
      inside = j;
      few = λ t n. absurd (let q : true ≡ false = sym t ∙ l in cc);
      room = grind (arith, nat_tests);
      extra = λ t. at_first accepts slots (extra_of (in_flight r x.id) x.flags.extra_info (may_have_extra accepts slots) x.flags.gso_prefix i t);
    }
    by false i false j false k f l false m h = record {
      known = known_of (in_flight r x.id) x.flags.extra_info (may_have_extra accepts slots) x.flags.gso_prefix i;
      inside = j;
      few = λ t n. grind (arith, nat_tests);
      room = grind (arith, nat_tests);
      extra = λ t. at_first accepts slots (extra_of (in_flight r x.id) x.flags.extra_info (may_have_extra accepts slots) x.flags.gso_prefix i t);
    }

pub take_next : (w : FrontWiring) (n : ℕ) (s : FrontState) (a b : ℕ) → 0 < n →
    next_by (take_all w n s) a b ≡ judged w s (tx_rsp_of (a ∷ [])) (in_flight s.tx (tx_rsp_of (a ∷ [])).id) (take_all w (n - 1) (took s (tx_rsp_of (a ∷ []))))
take_next w zero s a b h = absurd (omega arith)
take_next w (suc n) s a b h =
    let e : n ≡ suc n - 1 = omega arith in
    ap (λ m. judged w s (tx_rsp_of (a ∷ [])) (in_flight s.tx (tx_rsp_of (a ∷ [])).id) (take_all w m (took s (tx_rsp_of (a ∷ []))))) e

page_asks : (ps : List PageWrite) (a : PageWrite) (more later : List PageWrite) (t : Steps Ending) → want_of (write_all ((ps ++ (a ∷ more)) ++ later) t) ≡ want.Done → ⊥
page_asks [] a more later t h = cc
page_asks (p ∷ ps) a more later t h = cc

take_asks : (w : FrontWiring) (n : ℕ) (s : FrontState) → want_of (take_all w n s) ≡ want.Done → ⊥
take_asks w zero s h = cc
take_asks w (suc n) s h = cc

-- a phase that wants nothing is between activities, or at the end of one
pub asks_nothing : (w : FrontWiring) (s : FrontState) (p q : List ℕ) (x : Phase) → (x ≡ phase.Ready → ⊥) → ((k : Outcome) → x ≡ phase.Ended k → ⊥) → want_of (rest_at w s p q x) ≡ want.Done → ⊥
asks_nothing w s p q phase.Ready a b h = a refl
asks_nothing w s p q (phase.GrantFrame r) a b h = cc
asks_nothing w s p q (phase.GrantFlags r) a b h = cc
asks_nothing w s p q (phase.Fill f) a b h = page_asks (page_writes p (buffer w.tx.now (id_of f.piece)).frame f.piece.index (piece_words (length p) f.piece.index - f.written) f.written) _ _ _ _ h
asks_nothing w s p q (phase.Second r) a b h = cc
asks_nothing w s p q (phase.Third r) a b h = cc
asks_nothing w s p q (phase.PostFrame id start) a b h = cc
asks_nothing w s p q (phase.PostFlags id start) a b h = cc
asks_nothing w s p q (phase.PostFirst id start) a b h = cc
asks_nothing w s p q (phase.PostSecond id start) a b h = cc
asks_nothing w s p q (phase.Publish x) a b h = cc
asks_nothing w s p q (phase.ReadEvent x) a b h = cc
asks_nothing w s p q phase.Notice a b h = cc
asks_nothing w s p q phase.TxLook a b h = cc
asks_nothing w s p q phase.TxAnnounce a b h = cc
asks_nothing w s p q phase.TxLookAgain a b h = cc
asks_nothing w s p q (phase.Take n) a b h = take_asks w n s h
asks_nothing w s p q (phase.TxEnd id n) a b h = cc
asks_nothing w s p q phase.RxAnnounce a b h = cc
asks_nothing w s p q phase.RxLookAgain a b h = cc
asks_nothing w s p q (phase.RxFirst c) a b h = cc
asks_nothing w s p q (phase.RxSecond c v) a b h = cc
asks_nothing w s p q (phase.RxEnd x) a b h = cc
asks_nothing w s p q (phase.RxPage g) a b h = cc
asks_nothing w s p q (phase.ExtraFirst x) a b h = cc
asks_nothing w s p q (phase.ExtraSecond x v) a b h = cc
asks_nothing w s p q (phase.ExtraEnd x id) a b h = cc
asks_nothing w s p q (phase.Ended k) a b h = b k refl
