-- The pages and responses of a packet that leaves a front something, as the front reads them.
use Rattle.std.proofs.Common.{◌≡◌, ℕ, zero, suc, ◌+◌, ◌-◌, ◌*◌, ◌/◌, ◌%◌, ◌^◌, ◌<◌, ◌≤◌, Bool, true, false, not, List, [], ◌∷◌, ◌++◌, length, length-take, take, get_or, refl, sym, ◌∙◌, ap, subst, arith, Option, Some, None}
use Rattle.std.specs.Prelude.{pos, nat_lt, ◌&&◌, ◌==◌, if◌then◌else◌, slice_index}
use Rattle.std.specs.Int.{w16, cast_unsigned}
use Rattle.std.proofs.lemmas.Bool.{lt-ltb}
use Rattle.std.proofs.lemmas.Bool.Decides.{nat_tests}
use Rattle.std.proofs.lemmas.List.{get_or-set_other}
use Rattle.xen_buffers.specs.Grants.{buffer}
use Rattle.xen_buffers.specs.declared.wiring.FrontWiring.{FrontWiring}
use Rattle.xen_front.specs.Given.{Ending, Packet}
use Rattle.xen_front.specs.Slots.{fault_of, gave, in_flight, may_have_extra, part_of, pieces_of}
use Rattle.xen_front.specs.Tree.{Slot, Gathered, chained, checked, continues, first_word, grown, receive}
use Rattle.xen_front.specs.declared.state.FrontState.{FrontState}
use Rattle.xen_front.specs.declared.turn.FrontHalt.{FrontHalt}
use Rattle.xen_netif.specs.Copy.{bytes_in, covered}
use Rattle.xen_netif.specs.Offloads.{data_flags, has_extra, said_at}
use Rattle.xen_netif.specs.Slots.{rx_flag_bits, rx_flags_of, rx_rsp_of, rx_rsp_words}
use Rattle.xen_netif.specs.declared.fragment.Fragment.{Fragment}
use Rattle.xen_netif.specs.declared.offload.RxOffload.{RxOffload}
use Rattle.xen_netif.specs.declared.offload.RxOffload.TheVariants.{Whole, Validated, Blank, Segmented}
use Rattle.xen_netif.specs.declared.rx.RxRsp.{RxRsp}
use Rattle.xen_netif.proofs.SlotLemmas.{rx_rsp_of-joined}
use Rattle.xen_page.specs.declared.place.Place.{Place}
use Rattle.xen_rx_fill.specs.Packets.{extra_at, page_in, response_word, rx_response, size_at, slot_of, slots, slots_for, word_of, words, words_or}
use Rattle.xen_rx_fill.specs.declared.target.Grants.TheVariants.{Passed}
use Rattle.xen_steps.specs.Pages.{copy_words}
use Rattle.xen_steps.specs.Places.{add32, page_word, rx_entry}
use Rattle.xen_steps.specs.Steps.{Steps, done, ask, never, bind}
use Rattle.xen_steps.specs.declared.want.Want.TheVariants as want
use Rattle.honest_pair.specs.Offloaded.{answered, ArePosted, IsWritten}
use Rattle.honest_pair.proofs.Invariant.FrontChains.{sized, take_whole, whole_page, last_page}
use Rattle.honest_pair.proofs.Invariant.FrontReceives.{gathered}
use Rattle.honest_pair.proofs.Invariant.FrontValues.{covered_is, gather_is, status_back}
use Rattle.honest_pair.proofs.Invariant.Puts.{add_add}

abbrev got : {A : Type 0} → A → Option A → A
got d None = d
got d (Some x) = x

answered_bind : {A B : Type 0} (word : Place → ℕ) (s : Steps A) (f : A → Steps B) (x : A) → answered word s ≡ Some x → answered word (bind s f) ≡ answered word (f x)
answered_bind word (done y) f x e = ap (λ z. answered word (f (got y z))) e
answered_bind word (ask (want.Read at) k) f x e = answered_bind word (k (word at)) f x e
answered_bind word (ask (want.Write at v) k) f x e = answered_bind word (k 0) f x e
answered_bind word (ask (want.Notify port) k) f x e = answered_bind word (k 0) f x e
answered_bind word (ask want.Instr k) f x e = absurd (cc)
answered_bind word (ask (want.Load map key at) k) f x e = absurd (cc)
answered_bind word (ask (want.Add map key at delta) k) f x e = absurd (cc)
answered_bind word (ask want.Done k) f x e = absurd (cc)
answered_bind word never f x e = absurd (cc)

-- the words of a page
copied : (word : Place → ℕ) (fr : Fragment) (frame : ℕ) (p : List ℕ) (k n j : ℕ) (acc : List ℕ) → ((i : ℕ) → j ≤ i → i < j + n → word (page_word frame i) ≡ word_of p (1024 * k + i)) →
    answered word (copy_words fr frame j n acc) ≡ Some (gathered fr p k j n acc)
copied word fr frame p k zero j acc h = refl
copied word fr frame p k (suc n) j acc h =
    ap (λ v. answered word (copy_words fr frame (j + 1) n (acc ++ bytes_in fr j v))) (h j (omega arith) (omega arith))
    ∙ copied word fr frame p k n (j + 1) (acc ++ bytes_in fr j (word_of p (1024 * k + j))) (λ i a b. h i (omega arith) (omega arith))

flags_fit : (o : RxOffload) (m : Bool) → rx_flag_bits (data_flags o m) < 2 ^ 16
flags_fit Whole true = omega arith
flags_fit Whole false = omega arith
flags_fit Validated true = omega arith
flags_fit Validated false = omega arith
flags_fit Blank true = omega arith
flags_fit Blank false = omega arith
flags_fit (Segmented x) true = omega arith
flags_fit (Segmented x) false = omega arith

flags_back : (o : RxOffload) (m : Bool) → rx_flags_of (rx_flag_bits (data_flags o m)) ≡ data_flags o m
flags_back Whole true = refl
flags_back Whole false = refl
flags_back Validated true = refl
flags_back Validated false = refl
flags_back Blank true = refl
flags_back Blank false = refl
flags_back (Segmented x) true = refl
flags_back (Segmented x) false = refl

-- the response to a page's slot
abbrev pub its_response : RxOffload → List ℕ → (k id : ℕ) → Bool → RxRsp
its_response o p k id more = record { id = id; offset = 0; flags = data_flags o more; status = pos (size_at p k) }

response_back : (o : RxOffload) (p : List ℕ) (n i k id : ℕ) → extra_at o i ≡ None → page_in o i ≡ k → id < 2 ^ 16 → size_at p k < 2 ^ 15 →
    rx_rsp_of (response_word o Passed p n i id 0 ∷ response_word o Passed p n i id 1 ∷ []) ≡ its_response (said_at k o) p k id (nat_lt (slots_for o (k + 1)) n)
response_back o p n i k id plain page small few =
    let more = nat_lt (slots_for o (k + 1)) n in
    let r = its_response (said_at k o) p k id more in
    let words = rx_rsp_words r in
    let are : words_or (extra_at o i) (rx_rsp_words (rx_response o Passed p n (page_in o i) id)) ≡ words =
    ap (λ e. words_or e (rx_rsp_words (rx_response o Passed p n (page_in o i) id))) plain ∙ ap (λ m. rx_rsp_words (rx_response o Passed p n m id)) page in
    ap (λ l. rx_rsp_of (slice_index l 0 ∷ slice_index l 1 ∷ [])) are
    ∙ rx_rsp_of-joined r (slice_index words 0) (slice_index words 1) (rx_flag_bits (data_flags (said_at k o) more)) (cast_unsigned w16 (pos (size_at p k)))
    refl refl small (flags_fit (said_at k o) more) (flags_back (said_at k o) more) (status_back (size_at p k) few)

not_lt : (a b : ℕ) → b ≤ a → nat_lt a b ≡ false
not_lt a b h = grind (arith, nat_tests)

-- A response to a posted buffer halts nothing, if its extra may come there, and it says that there is more only before the sixteenth.
pub no_fault : (s : FrontState) (o : RxOffload) (p : List ℕ) (k id len : ℕ) (more : Bool) → in_flight s.rx id ≡ true → (has_extra o && not (may_have_extra s.accepts k)) ≡ false → ((k == 15) && more) ≡ false →
    size_at p k ≤ 4096 → len + size_at p k ≤ 65535 → fault_of s.accepts s.rx k len (its_response o p k id more) ≡ None
no_fault s o p k id len more flight extra last size room = rw (flight, extra, not_lt 4096 (0 + size_at p k) (omega arith), last, not_lt 65535 (len + size_at p k) room) refl

-- what is gathered of the first k pages, and of k pages with these bytes
abbrev pub of_pages : RxOffload → (k : ℕ) → List ℕ → Gathered
of_pages o k bytes = record { slots = k; bad = false; bytes = bytes; offload = o; next = Slot }

abbrev pub so : List ℕ → RxOffload → ℕ → Gathered
so p o k = of_pages o k (take (4096 * k) p)

-- a state in which i of the packet's responses were taken
pub record Stands (s0 : FrontState) (ids : List ℕ) (i : ℕ) (s : FrontState) : Type 0 where
  pub cons : s.rx.cons ≡ add32 s0.rx.cons i
  pub flies : (j : ℕ) → i ≤ j → j < length ids → in_flight s.rx (get_or ids j 0) ≡ true
  pub accepts : s.accepts ≡ s0.accepts
  pub posts : s.posts ≡ s0.posts

pub stands_on : (s0 : FrontState) (ids : List ℕ) (i id : ℕ) (s : FrontState) → ArePosted s0 ids → Stands s0 ids i s → i < length ids → id ≡ get_or ids i 0 → Stands s0 ids (i + 1) (gave s id)
stands_on s0 ids i id s posted h lt e = record {
  cons = ap (λ x. add32 x 1) h.cons ∙ add_add s0.rx.cons i 1;
  flies = λ j a b. get_or-set_other s.rx.out id (get_or ids j 0) false false (λ q. posted.differ i j (omega arith) b (sym e ∙ sym q)) ∙ h.flies j (omega arith) b;
  accepts = h.accepts;
  posts = h.posts;
}

-- whether a packet's page is followed by another of its slots
abbrev pub is_more : RxOffload → (n k : ℕ) → Bool
is_more o n k = nat_lt (slots_for o (k + 1)) n

module _ (w : FrontWiring) (word : Place → ℕ) (p : List ℕ) (most : length p ≤ 65535) (bytes : (i : ℕ) → get_or p i 0 < 256) (n : ℕ) (count : n ≡ pieces_of (length p)) where
  abbrev Page : (k id : ℕ) → Type 0
  Page k id = (j : ℕ) → j < 1024 → 1024 * k + j < words p → word (page_word (buffer w.rx.now id).frame j) ≡ word_of p (1024 * k + j)

  abbrev up_to : ℕ → List ℕ
  up_to k = take (4096 * k + size_at p k) p

  -- a response and its page
  pub page_step : (s : FrontState) (o og : RxOffload) (k id : ℕ) (more : Bool) (rest : FrontState → Gathered → Steps Ending) → k < n →
      rx_rsp_of (word (rx_entry w.rx_frame s.rx.cons 0) ∷ word (rx_entry w.rx_frame s.rx.cons 1) ∷ []) ≡ its_response o p k id more →
      fault_of s.accepts s.rx k (length (take (4096 * k) p)) (its_response o p k id more) ≡ None → Page k id →
      answered word (first_word w s (so p og k) rest) ≡
      answered word (chained (continues (data_flags o more)) (gave s id) (grown (so p og k) (its_response o p k id more) (up_to k)) rest)
  page_step s o og k id more rest lt is none at =
      let r = its_response o p k id more in
      let b = buffer w.rx.now id in
      let fr = part_of b r in
      let z = sized p k n most count lt in
      let size = size_at p k in
      let some = z.some in let much = z.most in let page = z.page in
      let all = suc ((size - 1) / 4) in
      let full : gathered fr p k 0 all (take (4096 * k) p) ≡ up_to k =
      (let e : 4096 * k + 4 * 0 ≡ 4096 * k = omega arith in ap (λ x. gathered fr p k 0 all (take x p)) (sym e) ∙ gather_is fr p k size refl refl z.inside bytes ((size - 1) / 4) 0 (omega (arith, some)) (omega (arith, some))) in
      let read : answered word (copy_words fr b.frame 0 (covered fr) (take (4096 * k) p)) ≡ Some (up_to k) =
      ap (λ c. answered word (copy_words fr b.frame 0 c (take (4096 * k) p))) (covered_is fr p k size refl refl z.inside bytes some)
      ∙ copied word fr b.frame p k all 0 (take (4096 * k) p) (λ i u v. at i (omega (arith, v, much, some)) (omega (arith, v, page)))
      ∙ ap (λ (l : List ℕ). Some l) full in
      ap (λ (x : RxRsp). answered word (checked w s (so p og k) x (fault_of s.accepts s.rx k (length (take (4096 * k) p)) x) rest)) is
      ∙ ap (λ (x : Option FrontHalt). answered word (checked w s (so p og k) r x rest)) none
      ∙ answered_bind word (copy_words fr b.frame 0 (covered fr) (take (4096 * k) p)) (λ x. chained (continues r.flags) (gave s id) (grown (so p og k) r x) rest) (up_to k) read

  module _ (s0 : FrontState) (o : RxOffload) (ids : List ℕ) (posted : ArePosted s0 ids) (written : IsWritten w s0 o p ids word) where
    abbrev At : ℕ → ℕ
    At i = get_or ids i 0

    -- the words of the response at a slot
    pub at_slot : (i j : ℕ) (s : FrontState) → Stands s0 ids i s → i < length ids → j < 2 → word (rx_entry w.rx_frame s.rx.cons j) ≡ response_word o Passed p (length ids) i (At i) j
    at_slot i j s h lt l = ap (λ x. word (rx_entry w.rx_frame x j)) h.cons ∙ written.responses i j lt l

    -- a page's buffer
    pub its_page : (k i : ℕ) → slot_of o k ≡ i → Page k (At i)
    its_page k i e j small below =
        let q : (1024 * k + j) / 1024 ≡ k = omega (arith, small) in
        let r : (1024 * k + j) % 1024 ≡ j = omega (arith, small) in
        ap (λ x. word (page_word (buffer w.rx.now (At x)).frame j)) (sym e)
        ∙ ap (λ x. word (page_word (buffer w.rx.now (At (slot_of o x))).frame j)) (sym q)
        ∙ ap (λ x. word (page_word (buffer w.rx.now (At (slot_of o ((1024 * k + j) / 1024)))).frame x)) (sym r)
        ∙ written.pages (1024 * k + j) below

    -- the response to the k-th page, at the i-th slot
    pub at_page : (k i : ℕ) (s : FrontState) → Stands s0 ids i s → i < length ids → k < n → extra_at o i ≡ None → page_in o i ≡ k →
        rx_rsp_of (word (rx_entry w.rx_frame s.rx.cons 0) ∷ word (rx_entry w.rx_frame s.rx.cons 1) ∷ []) ≡ its_response (said_at k o) p k (At i) (is_more o (length ids) k)
    at_page k i s h lt l plain page =
        let small = posted.small i lt in
        let z = sized p k n most count l in let much = z.most in
        ap (λ a. rx_rsp_of (a ∷ word (rx_entry w.rx_frame s.rx.cons 1) ∷ [])) (at_slot i 0 s h lt (omega arith))
        ∙ ap (λ b. rx_rsp_of (response_word o Passed p (length ids) i (At i) 0 ∷ b ∷ [])) (at_slot i 1 s h lt (omega arith))
        ∙ response_back o p (length ids) i k (At i) plain page (omega (arith, small)) (omega (arith, much))

    pub room_at : (k : ℕ) → k < n → length (take (4096 * k) p) + size_at p k ≤ 65535
    room_at k lt = let z = sized p k n most count lt in let inside = z.inside in let len = length-take (4096 * k) p in omega (arith, len, inside, most)

    ends_sixteenth : (k : ℕ) (more : Bool) → k < n → (more ≡ true → k + 1 < n) → ((k == 15) && more) ≡ false
    ends_sixteenth k more lt h = by (k == 15) refl more h
      where
        by : (t : Bool) → (k == 15) ≡ t → (m : Bool) → (m ≡ true → k + 1 < n) → (t && m) ≡ false
        by false e m h = refl
        by true e false h = refl
        by true e true h = let q : k ≡ 15 = grind (arith, nat_tests) in let l = h refl in absurd (omega (arith, q, l, count, most))

    -- All pages from the k-th on, which isn't the first: `d` slots before them take no page.
    module _ (d : ℕ) (og : RxOffload) (slots_are : length ids ≡ n + d) (slot : (k : ℕ) → 1 ≤ k → slot_of o k ≡ k + d) (plain : (k : ℕ) → 1 ≤ k → extra_at o (k + d) ≡ None) (page : (k : ℕ) → 1 ≤ k → page_in o (k + d) ≡ k)
        (before : (k : ℕ) → slots_for o (k + 1) ≡ k + 1 + d) where
      pub more_is : (k : ℕ) → k + 1 < n → is_more o (length ids) k ≡ true
      more_is k lt = ap (λ x. nat_lt x (length ids)) (before k) ∙ lt-ltb (k + 1 + d) (length ids) (omega (arith, slots_are, lt))

      pub none_left : (k : ℕ) → k + 1 ≡ n → is_more o (length ids) k ≡ false
      none_left k e = ap (λ x. nat_lt x (length ids)) (before k) ∙ not_lt (k + 1 + d) (length ids) (omega (arith, slots_are, e))

      -- such a page
      later_step : (k : ℕ) (s : FrontState) (rest : FrontState → Gathered → Steps Ending) → 1 ≤ k → k < n → Stands s0 ids (k + d) s →
          answered word (first_word w s (so p og k) rest) ≡ answered word (chained (is_more o (length ids) k) (gave s (At (k + d))) (of_pages og (k + 1) (up_to k)) rest)
      later_step k s rest some lt h =
          let i = k + d in
          let inside : i < length ids = omega (arith, slots_are, lt) in
          let not_first : (k == 0) ≡ false = grind (arith, nat_tests) in
          let more = is_more o (length ids) k in
          let z = sized p k n most count lt in
          let is = at_page k i s h inside lt (plain k some) (page k some) ∙ ap (λ (t : Bool). its_response (if t then o else Whole) p k (At i) more) not_first in
          page_step s Whole og k (At i) more rest lt is
          (no_fault s Whole p k (At i) (length (take (4096 * k) p)) more (h.flies i (omega arith) inside) refl (ends_sixteenth k more lt (goes_on k)) z.most (room_at k lt))
          (its_page k i (slot k some))
        where
          goes_on : (k : ℕ) → is_more o (length ids) k ≡ true → k + 1 < n
          goes_on k e = let q : nat_lt (k + 1 + d) (length ids) ≡ true = ap (λ x. nat_lt x (length ids)) (sym (before k)) ∙ e in let l : k + 1 + d < length ids = grind (arith, nat_tests) in omega (arith, l, slots_are)

      pub later : (r k : ℕ) (s : FrontState) → 1 ≤ k → k + suc r ≡ n → Stands s0 ids (k + d) s → (s' : FrontState) × (answered word (receive w (suc r) s (so p og k)) ≡ Some (s', Packet og p))
      later zero k s some e h =
          let lt : k < n = omega (arith, e) in
          let whole : up_to k ≡ p = ap (λ x. take x p) (last_page p k n count (omega (arith, e))) ∙ take_whole p in (
            gave s (At (k + d)),
            later_step k s (receive w 0) some lt h
                ∙ ap (λ (m : Bool). answered word (chained m (gave s (At (k + d))) (of_pages og (k + 1) (up_to k)) (receive w 0))) (none_left k (omega (arith, e)))
                ∙ ap (λ x. Some (gave s (At (k + d)), Packet og x)) whole,
          )
      later (suc r) k s some e h =
          let lt : k < n = omega (arith, e) in
          let i = k + d in
          let inside : i < length ids = omega (arith, slots_are, lt) in
          let on : Stands s0 ids (k + 1 + d) (gave s (At i)) = (let q : i + 1 ≡ k + 1 + d = omega arith in subst (λ x. Stands s0 ids x (gave s (At i))) q (stands_on s0 ids i (At i) s posted h inside refl)) in
          let next = later r (k + 1) (gave s (At i)) (omega arith) (omega (arith, e)) on in (
            next.0,
            later_step k s (receive w (suc r)) some lt h
                ∙ ap (λ (m : Bool). answered word (chained m (gave s (At i)) (of_pages og (k + 1) (up_to k)) (receive w (suc r)))) (more_is k (omega (arith, e)))
                ∙ ap (λ x. answered word (receive w (suc r) (gave s (At i)) (of_pages og (k + 1) (take x p)))) (whole_page p k n count (omega (arith, e)))
                ∙ next.1,
          )
