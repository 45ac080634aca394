-- What a front makes of a packet that leaves it something.
use Rattle.std.proofs.Common.{◌≡◌, ℕ, zero, suc, ◌+◌, ◌-◌, ◌*◌, ◌/◌, ◌%◌, ◌^◌, ◌<◌, ◌≤◌, Bool, true, false, not, List, length, take, get_or, refl, sym, ◌∙◌, ap, subst, arith, All, Option, Some, None}
use Rattle.std.specs.Prelude.{nat_lt, nat_le, ◌&&◌, ◌||◌, ◌==◌, if◌then◌else◌, slice_index}
use Rattle.std.proofs.lemmas.Bool.{lt-ltb}
use Rattle.std.proofs.lemmas.Bool.Decides.{nat_tests}
use Rattle.std.proofs.lemmas.List.{get_or_past}
use Rattle.xen_buffers.specs.declared.wiring.FrontWiring.{FrontWiring}
use Rattle.xen_front.specs.Given.{Packet}
use Rattle.xen_front.specs.Slots.{extra_of, extra_taken, gave, in_flight, may_have_extra, pieces_of, posted_at, segments_in}
use Rattle.xen_front.specs.Tree.{Slot, Extra, Gathered, chained, extra_checked, grown, nothing_gathered, receive}
use Rattle.xen_front.specs.declared.state.FrontState.{FrontState}
use Rattle.xen_netif.specs.Offloads.{gso_extra_for, has_extra, is_rx_segment_size, is_taken, rx_extra}
use Rattle.xen_netif.specs.Segments.{gso_extra_words, gso_type_number, gso_type_of, if_offered, is_offered}
use Rattle.xen_netif.specs.declared.offload.Accepts.{Accepts}
use Rattle.xen_netif.specs.declared.offload.RxOffload.{RxOffload}
use Rattle.xen_netif.specs.declared.offload.RxOffload.TheVariants.{Whole, Validated, Blank, Segmented}
use Rattle.xen_netif.specs.Words.{joined}
use Rattle.xen_netif.specs.declared.segments.GsoType.{GsoType}
use Rattle.xen_netif.specs.declared.segments.GsoType.TheVariants.{TcpV4, TcpV6}
use Rattle.xen_netif.specs.declared.segments.Segments.{Segments}
use Rattle.xen_page.specs.declared.place.Place.{Place}
use Rattle.xen_rx_fill.specs.Packets.{extra_at, page_in, response_word, size_at, slot_of, slots, slots_for}
use Rattle.xen_rx_fill.specs.declared.target.Grants.TheVariants.{Passed}
use Rattle.xen_steps.specs.Places.{rx_entry}
use Rattle.xen_turns.specs.Delivered.{is_frame}
use Rattle.honest_pair.specs.Machine.Law.{IsByte}
use Rattle.honest_pair.specs.Offloaded.{answered, ArePosted, IsWritten, OffloadsAreReceived}
use Rattle.honest_pair.proofs.Invariant.FrontChains.{sized, take_whole, whole_page, last_page}
use Rattle.honest_pair.proofs.PageLemmas.{Stands, at_page, at_slot, is_more, its_page, its_response, later, more_is, no_fault, none_left, of_pages, page_step, room_at, so, stands_on}

-- what the first response says, and what it makes of the next entry
abbrev first_says : RxOffload → RxOffload
first_says Whole = Whole
first_says Validated = Validated
first_says Blank = Blank
first_says (Segmented x) = Blank

abbrev after_first : RxOffload → Bool → List ℕ → Gathered
after_first o more bytes = record { slots = 1; bad = false; bytes = bytes; offload = first_says o; next = if has_extra o then Extra more else Slot }

grown_first : (p : List ℕ) (o : RxOffload) (id : ℕ) (more : Bool) (bytes : List ℕ) → grown (so p Whole 0) (its_response o p 0 id more) bytes ≡ after_first o more bytes
grown_first p Whole id more bytes = refl
grown_first p Validated id more bytes = refl
grown_first p Blank id more bytes = refl
grown_first p (Segmented x) id more bytes = refl

and_left : (a b : Bool) → (a && b) ≡ true → a ≡ true
and_left true b h = refl
and_left false b h = cc

and_right : (a b : Bool) → (a && b) ≡ true → b ≡ true
and_right true b h = h
and_right false b h = cc

-- a front that accepts such a packet lets its extra come
extra_may : (accepts : Accepts) (len : ℕ) (o : RxOffload) → is_taken accepts len o ≡ true → (has_extra o && not (may_have_extra accepts 0)) ≡ false
extra_may accepts len Whole h = refl
extra_may accepts len Validated h = refl
extra_may accepts len Blank h = refl
extra_may accepts len (Segmented x) h = by x.kind accepts.segments.gso_tcpv4 refl accepts.segments.gso_tcpv6 refl (and_left (is_offered accepts.segments x.kind) (is_rx_segment_size len x.size) h)
  where
    by : (k : GsoType) (a : Bool) → accepts.segments.gso_tcpv4 ≡ a → (b : Bool) → accepts.segments.gso_tcpv6 ≡ b → is_offered accepts.segments k ≡ true → not (accepts.segments.gso_tcpv4 || accepts.segments.gso_tcpv6) ≡ false
    by k true e b f g = ap (λ t. not (t || accepts.segments.gso_tcpv6)) e
    by TcpV4 false e b f g = absurd (let z : true ≡ false = sym g ∙ e in cc)
    by TcpV6 false e b f g = ap (λ t. not (accepts.segments.gso_tcpv4 || t)) g ∙ both accepts.segments.gso_tcpv4
      where
        both : (t : Bool) → not (t || true) ≡ false
        both true = refl
        both false = refl

-- what the extra says, as its two words do
says : (accepts : Accepts) (len : ℕ) (x : Segments) → is_taken accepts len (Segmented x) ≡ true →
    segments_in accepts (extra_of (slice_index (take 2 (gso_extra_words (gso_extra_for x))) 0) (slice_index (take 2 (gso_extra_words (gso_extra_for x))) 1)) ≡ Some x
says accepts len x h =
    let a = joined (1 + 2 ^ 8 * 0) x.size in
    let offered = and_left (is_offered accepts.segments x.kind) (is_rx_segment_size len x.size) h in
    let sized = and_left (nat_lt 0 x.size) (nat_le x.size len) (and_right (is_offered accepts.segments x.kind) (is_rx_segment_size len x.size) h) in
    let gso : (a % 2 ^ 8 == 1) ≡ true = (let e : a % 2 ^ 8 ≡ 1 = omega arith in grind (arith, nat_tests)) in
    let last : (a / 2 ^ 8 % 2 == 1) ≡ false = (let e : a / 2 ^ 8 % 2 ≡ 0 = omega arith in grind (arith, nat_tests)) in
    let size : a / 2 ^ 16 ≡ x.size = omega arith in
    rw (gso, last, size, sized) (by x.kind offered)
  where
    by : (k : GsoType) → is_offered accepts.segments k ≡ true → if_offered accepts.segments x.size (gso_type_of (joined (gso_type_number k) 0 % 2 ^ 8)) ≡ Some (record { kind = k; size = x.size })
    by TcpV4 e = ap (λ t. if t then Some (record { kind = TcpV4; size = x.size }) else None) e
    by TcpV6 e = ap (λ t. if t then Some (record { kind = TcpV6; size = x.size }) else None) e

page_first : (o : RxOffload) → page_in o 0 ≡ 0
page_first Whole = refl
page_first Validated = refl
page_first Blank = refl
page_first (Segmented x) = refl

slot_first : (o : RxOffload) → slot_of o 0 ≡ 0
slot_first Whole = refl
slot_first Validated = refl
slot_first Blank = refl
slot_first (Segmented x) = refl

says_all : (o : RxOffload) → has_extra o ≡ false → first_says o ≡ o
says_all Whole e = refl
says_all Validated e = refl
says_all Blank e = refl
says_all (Segmented x) e = absurd (let z : true ≡ false = e in cc)

no_extra : (o : RxOffload) (i : ℕ) → has_extra o ≡ false → extra_at o i ≡ None
no_extra o i e = by o e (i == 1)
  where
    by : (o : RxOffload) → has_extra o ≡ false → (t : Bool) → (if t then rx_extra o else None) ≡ None
    by Whole e true = refl
    by Validated e true = refl
    by Blank e true = refl
    by (Segmented x) e true = absurd (let z : true ≡ false = e in cc)
    by o e false = refl

module _ (w : FrontWiring) (word : Place → ℕ) (p : List ℕ) (most : length p ≤ 65535) (bytes : (i : ℕ) → get_or p i 0 < 256) (n : ℕ) (count : n ≡ pieces_of (length p)) (s0 : FrontState) (ids : List ℕ) (posted : ArePosted s0 ids) where
  abbrev first_id : ℕ
  first_id = get_or ids 0 0

  abbrev up : List ℕ
  up = take (4096 * 0 + size_at p 0) p

  abbrev more : RxOffload → Bool
  more o = is_more o (length ids) 0

  abbrev s1 : FrontState
  s1 = gave s0 first_id

  abbrev s2 : FrontState
  s2 = gave s1 (posted_at s1)

  begun : Stands s0 ids 0 s0
  begun = let low = posted.cons in record { cons = omega arith; flies = λ j a b. posted.flying j b; accepts = refl; posts = refl }

  -- the first response and its page
  first_step : (o : RxOffload) (l : ℕ) → IsWritten w s0 o p ids word → is_taken s0.accepts (length p) o ≡ true → 0 < n → 0 < length ids →
      answered word (receive w (suc l) s0 nothing_gathered) ≡ answered word (chained (has_extra o || more o) s1 (after_first o (more o) up) (receive w l))
  first_step o l written taken lt inside =
      let z = sized p 0 n most count lt in
      let is = at_page w word p most bytes n count s0 o ids posted written 0 0 s0 begun inside lt refl (page_first o) in
      page_step w word p most bytes n count s0 o Whole 0 first_id (more o) (receive w l) lt is
      (no_fault s0 o p 0 first_id (length (take (4096 * 0) p)) (more o) (posted.flying 0 inside) (extra_may s0.accepts (length p) o taken) refl z.most (room_at w word p most bytes n count s0 o ids posted written 0 lt))
      (its_page w word p most bytes n count s0 o ids posted written 0 0 (slot_first o))
      ∙ ap (λ (g : Gathered). answered word (chained (has_extra o || more o) s1 g (receive w l))) (grown_first p o first_id (more o) up)

  -- a packet without an extra
  module _ (o : RxOffload) (e : has_extra o ≡ false) (all : length ids ≡ n) (written : IsWritten w s0 o p ids word) (taken : is_taken s0.accepts (length p) o ≡ true) where
    plain_slot : (k : ℕ) → 1 ≤ k → slot_of o k ≡ k + 0
    plain_slot k h = ap (λ b. if b && nat_lt 0 k then k + 1 else k) e ∙ omega arith

    plain_extra : (k : ℕ) → 1 ≤ k → extra_at o (k + 0) ≡ None
    plain_extra k h = no_extra o (k + 0) e

    plain_page : (k : ℕ) → 1 ≤ k → page_in o (k + 0) ≡ k
    plain_page k h = ap (λ b. if b then k + 0 - 1 else (k + 0)) e ∙ omega arith

    plain_before : (k : ℕ) → slots_for o (k + 1) ≡ k + 1 + 0
    plain_before k = ap (λ b. if b then k + 1 + 1 else (k + 1)) e ∙ omega arith

    plain_slots : length ids ≡ n + 0
    plain_slots = omega (arith, all)

    plain_first : (l : ℕ) → n ≡ suc l → answered word (receive w (suc l) s0 nothing_gathered) ≡ answered word (chained (more o) s1 (of_pages o 1 up) (receive w l))
    plain_first l some =
        first_step o l written taken (omega (arith, some)) (omega (arith, some, all))
        ∙ ap (λ b. answered word (chained (b || more o) s1 (record { slots = 1; bad = false; bytes = up; offload = first_says o; next = if b then Extra (more o) else Slot }) (receive w l))) e
        ∙ ap (λ (x : RxOffload). answered word (chained (more o) s1 (of_pages x 1 up) (receive w l))) (says_all o e)

    plainly : (l : ℕ) → n ≡ suc l → (s' : FrontState) × (answered word (receive w (suc l) s0 nothing_gathered) ≡ Some (s', Packet o p))
    plainly zero some =
        let whole : up ≡ p = ap (λ x. take x p) (last_page p 0 n count (sym some)) ∙ take_whole p in (
          s1,
          plain_first zero some
              ∙ ap (λ (m : Bool). answered word (chained m s1 (of_pages o 1 up) (receive w 0)))
              (none_left w word p most bytes n count s0 o ids posted written 0 o plain_slots plain_slot plain_extra plain_page plain_before 0 (sym some))
              ∙ ap (λ x. Some (s1, Packet o x)) whole,
        )
    plainly (suc r) some =
        let next = later w word p most bytes n count s0 o ids posted written 0 o plain_slots plain_slot plain_extra plain_page plain_before r 1 s1 (omega arith) (omega (arith, some))
        (stands_on s0 ids 0 first_id s0 posted begun (omega (arith, some, all)) refl) in (
          next.0,
          plain_first (suc r) some
              ∙ ap (λ (m : Bool). answered word (chained m s1 (of_pages o 1 up) (receive w (suc r))))
              (more_is w word p most bytes n count s0 o ids posted written 0 o plain_slots plain_slot plain_extra plain_page plain_before 0 (omega (arith, some)))
              ∙ ap (λ x. answered word (receive w (suc r) s1 (of_pages o 1 (take x p)))) (whole_page p 0 n count (omega (arith, some)))
              ∙ next.1,
        )

  -- one with an extra
  module _ (x : Segments) (all : length ids ≡ n + 1) (least : 1 ≤ n) (written : IsWritten w s0 (Segmented x) p ids word) (taken : is_taken s0.accepts (length p) (Segmented x) ≡ true) where
    on1 : Stands s0 ids 1 s1
    on1 = stands_on s0 ids 0 first_id s0 posted begun (omega (arith, all)) refl

    second : 1 < length ids
    second = omega (arith, least, all)

    named : posted_at s1 ≡ get_or ids 1 0
    named = ap (λ (l : List ℕ). get_or l (s1.rx.cons % 256) 0) on1.posts ∙ ap (λ c. get_or s0.posts (c % 256) 0) on1.cons ∙ posted.entries 1 second

    takes : extra_taken s1 (word (rx_entry w.rx_frame s1.rx.cons 0)) (word (rx_entry w.rx_frame s1.rx.cons 1)) ≡ Some x
    takes =
        let a = response_word (Segmented x) Passed p (length ids) 1 (get_or ids 1 0) 0 in
        let b = response_word (Segmented x) Passed p (length ids) 1 (get_or ids 1 0) 1 in
        let flight : in_flight s1.rx (posted_at s1) ≡ true = ap (in_flight s1.rx) named ∙ on1.flies 1 (omega arith) second in
        ap (λ v. extra_taken s1 v (word (rx_entry w.rx_frame s1.rx.cons 1))) (at_slot w word p most bytes n count s0 (Segmented x) ids posted written 1 0 s1 on1 second (omega arith))
        ∙ ap (λ v. extra_taken s1 a v) (at_slot w word p most bytes n count s0 (Segmented x) ids posted written 1 1 s1 on1 second (omega arith))
        ∙ ap (λ t. if t then segments_in s1.accepts (extra_of a b) else None) flight
        ∙ ap (λ (c : Accepts). segments_in c (extra_of a b)) on1.accepts
        ∙ says s0.accepts (length p) x taken

    on2 : Stands s0 ids 2 s2
    on2 = stands_on s0 ids 1 (posted_at s1) s1 posted on1 second named

    far_slot : (k : ℕ) → 1 ≤ k → slot_of (Segmented x) k ≡ k + 1
    far_slot k h = ap (λ t. if t then k + 1 else k) (lt-ltb 0 k (omega (arith, h)))

    far_extra : (k : ℕ) → 1 ≤ k → extra_at (Segmented x) (k + 1) ≡ None
    far_extra k h = let t : (k + 1 == 1) ≡ false = grind (arith, nat_tests) in ap (λ t. if t then rx_extra (Segmented x) else None) t

    far_page : (k : ℕ) → 1 ≤ k → page_in (Segmented x) (k + 1) ≡ k
    far_page k h = omega arith

    far_before : (k : ℕ) → slots_for (Segmented x) (k + 1) ≡ k + 1 + 1
    far_before k = refl

    far_first : (m : ℕ) → n ≡ suc m → answered word (receive w (suc (suc m)) s0 nothing_gathered) ≡ answered word (chained (more (Segmented x)) s2 (of_pages (Segmented x) 1 up) (receive w m))
    far_first m some =
        first_step (Segmented x) (suc m) written taken (omega (arith, some)) (omega (arith, some, all))
        ∙ ap (λ (q : Option Segments). answered word (extra_checked w (more (Segmented x)) s1 (after_first (Segmented x) (more (Segmented x)) up) q (receive w m))) takes

    segmented_so : (m : ℕ) → n ≡ suc m → (s' : FrontState) × (answered word (receive w (suc (suc m)) s0 nothing_gathered) ≡ Some (s', Packet (Segmented x) p))
    segmented_so zero some =
        let whole : up ≡ p = ap (λ x. take x p) (last_page p 0 n count (sym some)) ∙ take_whole p in (
          s2,
          far_first zero some
              ∙ ap (λ (t : Bool). answered word (chained t s2 (of_pages (Segmented x) 1 up) (receive w 0)))
              (none_left w word p most bytes n count s0 (Segmented x) ids posted written 1 (Segmented x) all far_slot far_extra far_page far_before 0 (sym some))
              ∙ ap (λ q. Some (s2, Packet (Segmented x) q)) whole,
        )
    segmented_so (suc r) some =
        let next = later w word p most bytes n count s0 (Segmented x) ids posted written 1 (Segmented x) all far_slot far_extra far_page far_before r 1 s2 (omega arith) (omega (arith, some)) on2 in (
          next.0,
          far_first (suc r) some
              ∙ ap (λ (t : Bool). answered word (chained t s2 (of_pages (Segmented x) 1 up) (receive w (suc r))))
              (more_is w word p most bytes n count s0 (Segmented x) ids posted written 1 (Segmented x) all far_slot far_extra far_page far_before 0 (omega (arith, some)))
              ∙ ap (λ q. answered word (receive w (suc r) s2 (of_pages (Segmented x) 1 (take q p)))) (whole_page p 0 n count (omega (arith, some)))
              ∙ next.1,
        )

-- a frame's length
frame_size : (p : List ℕ) → is_frame p ≡ true → (14 ≤ length p) × (length p ≤ 65535)
frame_size p h = by (nat_lt (length p) 14) refl (nat_lt 65535 (length p)) refl h
  where
    by : (a : Bool) → nat_lt (length p) 14 ≡ a → (b : Bool) → nat_lt 65535 (length p) ≡ b → (if a then false else if b then false else true) ≡ true → (14 ≤ length p) × (length p ≤ 65535)
    by true e b f g = absurd (cc)
    by false e true f g = absurd (cc)
    by false e false f g = (grind (arith, nat_tests), grind (arith, nat_tests))

all_bytes : (p : List ℕ) → All IsByte p → (i : ℕ) → get_or p i 0 < 256
all_bytes p h i = by (nat_lt i (length p)) refl
  where
    by : (t : Bool) → nat_lt i (length p) ≡ t → get_or p i 0 < 256
    by true e = let lt : i < length p = grind (arith, nat_tests) in h i 0 lt
    by false e = let le : length p ≤ i = grind (arith, nat_tests) in subst (λ x. x < 256) (sym (get_or_past p i 0 le)) (omega arith)

module _ (w : FrontWiring) (s : FrontState) (p ids : List ℕ) (word : Place → ℕ) (size : (14 ≤ length p) × (length p ≤ 65535)) (b : All IsByte p) (posted : ArePosted s ids) where
  abbrev n : ℕ
  n = pieces_of (length p)

  abbrev Received : RxOffload → ℕ → Type 0
  Received o k = (s' : FrontState) × (answered word (receive w k s nothing_gathered) ≡ Some (s', Packet o p))

  some_pages : (m : ℕ) × (n ≡ suc m)
  some_pages = let least = size.0 in (n - 1, omega arith)

  plain : (o : RxOffload) → has_extra o ≡ false → slots o p ≡ n → is_taken s.accepts (length p) o ≡ true → IsWritten w s o p ids word → Received o (length ids)
  plain o e all taken written =
      let k : length ids ≡ suc some_pages.0 = written.count ∙ all ∙ some_pages.1 in
      subst (Received o) (sym k) (plainly w word p size.1 (all_bytes p b) n refl s ids posted o e (written.count ∙ all) written taken some_pages.0 some_pages.1)

  extra : (x : Segments) → is_taken s.accepts (length p) (Segmented x) ≡ true → IsWritten w s (Segmented x) p ids word → Received (Segmented x) (length ids)
  extra x taken written =
      let k : length ids ≡ suc (suc some_pages.0) = (let c = written.count in let e = some_pages.1 in omega arith) in
      subst (Received (Segmented x)) (sym k)
      (segmented_so w word p size.1 (all_bytes p b) n refl s ids posted x written.count (let e = some_pages.1 in omega arith) written taken some_pages.0 some_pages.1)

  by_offload : (o : RxOffload) → is_taken s.accepts (length p) o ≡ true → IsWritten w s o p ids word → Received o (length ids)
  by_offload Whole taken written = plain Whole refl refl taken written
  by_offload Validated taken written = plain Validated refl refl taken written
  by_offload Blank taken written = plain Blank refl refl taken written
  by_offload (Segmented x) taken written = extra x taken written

pub received : OffloadsAreReceived
received w s o p ids word d b posted written = by_offload w s p ids word (frame_size p d.0) b posted o d.1 written
