-- A packet's responses are received whole.
use Rattle.std.proofs.Common.{◌≡◌, ℕ, zero, suc, ◌+◌, ◌-◌, ◌*◌, ◌/◌, ◌<◌, ◌≤◌, Bool, true, false, List, [], ◌∷◌, ◌++◌, length, length-take, take, get_or, refl, sym, ◌∙◌, ap, arith, subst, Option, Some, None}
use Rattle.std.specs.Prelude.{nat_lt, if◌then◌else◌}
use Rattle.std.proofs.lemmas.Bool.{lt-ltb}
use Rattle.std.proofs.lemmas.Bool.Decides.{nat_tests}
use Rattle.xen_buffers.specs.Grants.{buffer}
use Rattle.xen_buffers.specs.declared.wiring.FrontWiring.{FrontWiring}
use Rattle.xen_front.specs.Given.{Ending, Packet}
use Rattle.xen_front.specs.Slots.{fault_of, gave, in_flight, part_of, pieces_of}
use Rattle.xen_front.specs.Tree.{Gathered, Slot, chained, checked, continues, grown, read_page, receive, second_word}
use Rattle.xen_front.specs.declared.state.Ring.{Ring}
use Rattle.xen_front.specs.declared.state.FrontState.{FrontState}
use Rattle.xen_netif.specs.Copy.{covered}
use Rattle.xen_netif.specs.Slots.{rx_rsp_of}
use Rattle.xen_steps.specs.Pages.{copy_words}
use Rattle.xen_steps.specs.Places.{add32, rx_entry}
use Rattle.xen_steps.specs.Steps.{Steps}
use Rattle.xen_netif.specs.declared.offload.RxOffload.TheVariants.{Whole}
use Rattle.xen_rx_fill.specs.Packets.{response_word, size_at, words}
use Rattle.xen_rx_fill.specs.Whole.{plain_response}
use Rattle.xen_rx_fill.specs.declared.target.Grants.TheVariants.{Passed}
use Rattle.honest_pair.specs.Invariant.Ghosts.{Sent, Piece, Front, Back, slots, piece, pieces_from, id_at}
use Rattle.honest_pair.specs.Invariant.Inv.{Inv}
use Rattle.honest_pair.specs.Machine.Memory.{Memory}
use Rattle.honest_pair.specs.Invariant.Rest.{Ringed}
use Rattle.honest_pair.specs.Machine.Safe.{Safe}
use Rattle.honest_pair.specs.Invariant.Numbers.{Numbers}
use Rattle.honest_pair.proofs.Invariant.FrontPolls.{ringed_taken}
use Rattle.honest_pair.proofs.Invariant.FrontReceives.{rxing, is_posted, rx_word, rx_named, rx_small, rx_ends, rx_read, copy_safe, gathered}
use Rattle.honest_pair.proofs.Machine.SafeLemmas.{safe_bind}
use Rattle.honest_pair.proofs.Invariant.FrontValues.{response_back, no_fault, gather_is, covered_is}

pub take_whole : (l : List ℕ) → take (length l) l ≡ l
take_whole [] = refl
take_whole (x ∷ l) = ap (λ m. x ∷ m) (take_whole l)

-- one piece of a packet
pub record Sized (p : List ℕ) (k n : ℕ) : Type 0 where
  pub some : 0 < size_at p k
  pub most : size_at p k ≤ 4096
  pub inside : 4096 * k + size_at p k ≤ length p
  pub few : n ≤ 16
  pub page : 1024 * k + (0 + suc ((size_at p k - 1) / 4)) ≤ words p

pub sized : (p : List ℕ) (k n : ℕ) → length p ≤ 65535 → n ≡ pieces_of (length p) → k < n → Sized p k n
sized p k n most count lt = by (nat_lt (length p) (4096 * k + 4096)) refl
  where
    by : (t : Bool) → nat_lt (length p) (4096 * k + 4096) ≡ t → Sized p k n
    by true e =
        let u : length p < 4096 * k + 4096 = grind (arith, nat_tests) in
        let s : size_at p k ≡ length p - 4096 * k = ap (λ t. if t then length p - 4096 * k else 4096) e in
        record { some = omega (arith, s, count, lt); most = omega (arith, s, u); inside = omega (arith, s, count, lt); few = omega (arith, count, most); page = omega (arith, s, count, lt, u) }
    by false e =
        let u : 4096 * k + 4096 ≤ length p = grind (arith, nat_tests) in
        let s : size_at p k ≡ 4096 = ap (λ t. if t then length p - 4096 * k else 4096) e in
        record { some = omega (arith, s); most = omega (arith, s); inside = omega (arith, s, u); few = omega (arith, count, most); page = omega (arith, s, u) }

-- all but the last piece are whole pages, and the last ends the packet
pub whole_page : (p : List ℕ) (k n : ℕ) → n ≡ pieces_of (length p) → k + 1 < n → 4096 * k + size_at p k ≡ 4096 * (k + 1)
whole_page p k n count lt =
    let u : nat_lt (length p) (4096 * k + 4096) ≡ false = (let le : 4096 * k + 4096 ≤ length p = omega arith in grind (arith, nat_tests)) in
    let s : size_at p k ≡ 4096 = ap (λ t. if t then length p - 4096 * k else 4096) u in
    omega (arith, s)

pub last_page : (p : List ℕ) (k n : ℕ) → n ≡ pieces_of (length p) → k + 1 ≡ n → 4096 * k + size_at p k ≡ length p
last_page p k n count lt = by (nat_lt (length p) (4096 * k + 4096)) refl
  where
    by : (t : Bool) → nat_lt (length p) (4096 * k + 4096) ≡ t → 4096 * k + size_at p k ≡ length p
    by true e = let s : size_at p k ≡ length p - 4096 * k = ap (λ t. if t then length p - 4096 * k else 4096) e in omega (arith, s, count, lt)
    by false e =
        let u : 4096 * k + 4096 ≤ length p = grind (arith, nat_tests) in
        let s : size_at p k ≡ 4096 = ap (λ t. if t then length p - 4096 * k else 4096) e in
        omega (arith, s, count, lt, u)

abbrev pub its : List ℕ → (n k id : ℕ) → Piece
its p n k id = record { bytes = p; n = n; k = k; id = id }

pub piece_at : (p : List ℕ) (n d : ℕ) (ids : List ℕ) (k : ℕ) → k < length ids → piece (pieces_from p n d ids) k ≡ its p n (d + k) (get_or ids k 0)
piece_at p n d [] k h = absurd (omega arith)
piece_at p n d (i ∷ ids) zero h = ap (λ x. its p n x i) (omega arith)
piece_at p n d (i ∷ ids) (suc k) h = piece_at p n (d + 1) ids k (omega arith) ∙ ap (λ x. its p n x (get_or ids k 0)) (omega arith)

-- what is gathered of k pieces with these bytes, which leave the front nothing
abbrev pub gathered_of : ℕ → List ℕ → Gathered
gathered_of k bytes = record { slots = k; bad = false; bytes = bytes; offload = Whole; next = Slot }

-- what is gathered of the first k pieces
abbrev pub so_far : List ℕ → ℕ → Gathered
so_far p k = gathered_of k (take (4096 * k) p)

-- A packet that is known to be given, from position `base` of the ring on.
module _ (w : FrontWiring) (laid : Numbers w) (start : ℕ) (K : Front → Type 0) (P : Front → Ending → Type 0) (f : Front) (t : List Sent) (p ids : List ℕ) (base : ℕ) (rcv : List (List ℕ)) (tx0 : Ring)
    (most : length p ≤ 65535) (bytes : (i : ℕ) → get_or p i 0 < 256) (count : length ids ≡ pieces_of (length p)) (inside : base + length ids ≤ length (slots t))
    (at : (k : ℕ) → k < length ids → piece (slots t) (base + k) ≡ its p (length ids) k (get_or ids k 0))
    (during : (c : ℕ) (rd : Option Piece) → K (rxing f c t rd rcv)) (finally : K (rxing f (base + length ids) t None (rcv ++ p ∷ [])))
    (over : (s : FrontState) → s.halt ≡ None → s.tx ≡ tx0 → Ringed start s.rx (id_at f.posts) (base + length ids) (length f.posts) → P (rxing f (base + length ids) t None (rcv ++ p ∷ [])) (s, Packet Whole p)) where
  -- a response's page is read
  pub page_safe : (k : ℕ) (s : FrontState) (rest : FrontState → Gathered → Steps Ending) (last_front : Front) → k < length ids → K last_front →
      ((m : Memory) (b : Back) → Inv w start m (rxing f (base + k + 1) t (Some (piece (slots t) (base + k))) rcv) b → Inv w start m last_front b) →
      Safe (Inv w start) K P last_front (chained (nat_lt (k + 1) (length ids)) s (gathered_of (k + 1) (take (4096 * k + size_at p k) p)) rest) →
      Safe (Inv w start) K P (rxing f (base + k + 1) t (Some (piece (slots t) (base + k))) rcv)
      (read_page w s (so_far p k) (plain_response Passed p (length ids) k (get_or ids k 0)) rest)
  page_safe k s rest last_front lt kl last next =
      let r = plain_response Passed p (length ids) k (get_or ids k 0) in
      let b = buffer w.rx.now (get_or ids k 0) in
      let fr = part_of b r in
      let z = sized p k (length ids) most count lt in
      let size = size_at p k in
      let some = z.some in let much = z.most in let page = z.page in
      let pc = its p (length ids) k (get_or ids k 0) in
      let copied = copy_safe w laid start K f (base + k + 1) t pc rcv last_front fr b.frame (during (base + k + 1) (Some pc)) kl refl (subst (λ x. (m : Memory) (b : Back) → Inv w start m (rxing f (base + k + 1) t (Some x) rcv) b → Inv w start m last_front b) (at k lt) last)
      ((size - 1) / 4) 0 (take (4096 * k) p) (omega (arith, much, some)) page in
      let full : gathered fr p k 0 (suc ((size - 1) / 4)) (take (4096 * k) p) ≡ take (4096 * k + size) p =
      (let e : 4096 * k + 4 * 0 ≡ 4096 * k = omega arith in ap (λ x. gathered fr p k 0 (suc ((size - 1) / 4)) (take x p)) (sym e) ∙ gather_is fr p k size refl refl z.inside bytes ((size - 1) / 4) 0 (omega (arith, some)) (omega (arith, some))) in
      subst (λ x. Safe (Inv w start) K P (rxing f (base + k + 1) t (Some x) rcv) (read_page w s (so_far p k) r rest)) (sym (at k lt))
      (safe_bind (Inv w start) K (λ g x. (g ≡ last_front) × (x ≡ gathered fr p k 0 (suc ((size - 1) / 4)) (take (4096 * k) p))) P (rxing f (base + k + 1) t (Some pc) rcv)
      (copy_words fr b.frame (r.offset / 4) (covered fr) (take (4096 * k) p)) (λ x. chained (continues r.flags) s (grown (so_far p k) r x) rest)
      (subst (λ c. Safe (Inv w start) K (λ g x. (g ≡ last_front) × (x ≡ gathered fr p k 0 (suc ((size - 1) / 4)) (take (4096 * k) p))) (rxing f (base + k + 1) t (Some pc) rcv) (copy_words fr b.frame 0 c (take (4096 * k) p)))
      (sym (covered_is fr p k size refl refl z.inside bytes some)) copied)
      (λ g x e. subst (λ y. Safe (Inv w start) K P y (chained (nat_lt (k + 1) (length ids)) s (grown (so_far p k) r x) rest)) (sym e.0)
      (subst (λ y. Safe (Inv w start) K P last_front (chained (nat_lt (k + 1) (length ids)) s (grown (so_far p k) r y) rest)) (sym (e.1 ∙ full)) next)))

  abbrev At : ℕ → ℕ
  At k = get_or ids k 0

  -- where the response stands
  read_at : (k : ℕ) (s : FrontState) (rd : Option Piece) (j : ℕ) (m : Memory) (b : Back) → k < length ids → j < 2 → s.rx.cons ≡ add32 start (base + k) → Inv w start m (rxing f (base + k) t rd rcv) b →
      m.word (rx_entry w.rx_frame s.rx.cons j) ≡ response_word Whole Passed p (length ids) k (At k) j
  read_at k s rd j m b lt l e h =
      ap (λ x. m.word (rx_entry w.rx_frame x j)) e ∙ rx_word w laid start f (base + k) t rd rcv m b h (base + k) j (omega arith) (omega (arith, inside, lt)) l
      ∙ ap (λ x. response_word Whole Passed x.bytes x.n x.k x.id j) (at k lt)

  -- a piece: its two words, the end of its grant, its page
  piece_safe : (k l : ℕ) (s : FrontState) (rd : Option Piece) (last_front : Front) → k < length ids → Ringed start s.rx (id_at f.posts) (base + k) (length f.posts) → K last_front →
      ((m : Memory) (b : Back) → Inv w start m (rxing f (base + k + 1) t (Some (piece (slots t) (base + k))) rcv) b → Inv w start m last_front b) →
      (Ringed start (gave s (At k)).rx (id_at f.posts) (base + k + 1) (length f.posts) →
      Safe (Inv w start) K P last_front (chained (nat_lt (k + 1) (length ids)) (gave s (At k)) (gathered_of (k + 1) (take (4096 * k + size_at p k) p)) (receive w l))) →
      Safe (Inv w start) K P (rxing f (base + k) t rd rcv) (receive w (suc l) s (so_far p k))
  piece_safe k l s rd last_front lt r kl last next =
      let z = sized p k (length ids) most count lt in
      let much = z.most in let z_in = z.inside in
      let below : base + k < length (slots t) = omega (arith, inside, lt) in
      let R = plain_response Passed p (length ids) k (At k) in
      let rest = receive w l in
      let A = response_word Whole Passed p (length ids) k (At k) 0 in
      let B = response_word Whole Passed p (length ids) k (At k) 1 in
      let here = rxing f (base + k) t rd rcv in
      let len = length-take (4096 * k) p in
      λ m b h. (
        here,
        h,
        during (base + k) rd,
        λ x y.
            subst (λ a. Safe (Inv w start) K P here (second_word w s (so_far p k) a rest)) (sym (read_at k s rd 0 m b lt (omega arith) r.cons h))
            (λ m1 b1 h1. (
              here,
              h1,
              during (base + k) rd,
              λ x1 y1.
                  let e : At k ≡ (piece (slots t) (base + k)).id = ap (λ q. q.id) (sym (at k lt)) in
                  let named : At k ≡ id_at f.posts (base + k) = e ∙ rx_named w laid start f (base + k) t rd rcv m1 b1 h1 (base + k) below in
                  let posted = is_posted w laid start f (base + k) t rd rcv m1 b1 h1 (base + k) below in
                  let less : At k < 256 = rw e (rx_small w laid start f (base + k) t rd rcv m1 b1 h1 (base + k) below) in
                  let flight : in_flight s.rx (At k) ≡ true = ap (in_flight s.rx) named ∙ r.busy (base + k) (omega arith) posted in
                  subst (λ v. Safe (Inv w start) K P here (checked w s (so_far p k) (rx_rsp_of (A ∷ v ∷ [])) (fault_of s.accepts s.rx k (length (take (4096 * k) p)) (rx_rsp_of (A ∷ v ∷ []))) rest)) (sym (read_at k s rd 1 m1 b1 lt (omega arith) r.cons h1))
                  (subst (λ v. Safe (Inv w start) K P here (checked w s (so_far p k) v (fault_of s.accepts s.rx k (length (take (4096 * k) p)) v) rest)) (sym (response_back p (length ids) k (At k) (omega (arith, less)) (omega (arith, much))))
                  (subst (λ o. Safe (Inv w start) K P here (checked w s (so_far p k) R o rest)) (sym (no_fault s.accepts s.rx p (length ids) k (At k) (length (take (4096 * k) p)) flight much z.few (omega (arith, len, z_in, most))))
                  (λ m2 b2 h2. (
                    rxing f (base + k + 1) t (Some (piece (slots t) (base + k))) rcv,
                    rx_ends w laid start f (base + k) t rd rcv m2 b2 h2 (At k) below e,
                    during (base + k + 1) (Some (piece (slots t) (base + k))),
                    λ x2 y2.
                        let small : id_at f.posts (base + k) < 256 = rw (sym named) less in
                        page_safe k (gave s (At k)) rest last_front lt kl last
                        (next (ringed_taken start s.rx (id_at f.posts) (base + k) (length f.posts) (At k) r posted named small (λ i u v. h2.rx.unique (base + k) i (omega arith) u v))),
                  )))),
            )),
      )

  -- all pieces from the k-th on
  pub receive_safe : (r k l : ℕ) (s : FrontState) (rd : Option Piece) → k + suc r ≡ length ids → r ≤ l → s.halt ≡ None → s.tx ≡ tx0 → Ringed start s.rx (id_at f.posts) (base + k) (length f.posts) →
      Safe (Inv w start) K P (rxing f (base + k) t rd rcv) (receive w (suc l) s (so_far p k))
  receive_safe zero k l s rd e left halt same ring =
      let all : base + k + 1 ≡ base + length ids = omega (arith, e) in
      let fin = rxing f (base + length ids) t None (rcv ++ p ∷ []) in
      let none_left : nat_lt (k + 1) (length ids) ≡ false = (let le : length ids ≤ k + 1 = omega (arith, e) in grind (arith, nat_tests)) in
      let whole : take (4096 * k + size_at p k) p ≡ p = ap (λ x. take x p) (last_page p k (length ids) count (omega (arith, e))) ∙ take_whole p in
      piece_safe k l s rd fin (omega (arith, e)) ring finally
      (λ m b h. subst (λ c. Inv w start m (rxing f c t None (rcv ++ p ∷ [])) b) all (rx_read w laid start f (base + k + 1) t (Some (piece (slots t) (base + k))) rcv m b h (rcv ++ p ∷ [])))
      (λ after. subst (λ x. Safe (Inv w start) K P fin (chained x (gave s (At k)) (gathered_of (k + 1) (take (4096 * k + size_at p k) p)) (receive w l))) (sym none_left)
      (subst (λ x. P fin (gave s (At k), Packet Whole x)) (sym whole) (over (gave s (At k)) halt same (subst (λ c. Ringed start (gave s (At k)).rx (id_at f.posts) c (length f.posts)) all after))))
  receive_safe (suc r) k zero s rd e left halt same ring = absurd (omega (arith, left))
  receive_safe (suc r) k (suc l) s rd e left halt same ring =
      let on : base + k + 1 ≡ base + (k + 1) = omega arith in
      let pc = piece (slots t) (base + k) in
      let more_left : nat_lt (k + 1) (length ids) ≡ true = lt-ltb (k + 1) (length ids) (omega (arith, e)) in
      let page : take (4096 * k + size_at p k) p ≡ take (4096 * (k + 1)) p = ap (λ x. take x p) (whole_page p k (length ids) count (omega (arith, e))) in
      piece_safe k (suc l) s rd (rxing f (base + k + 1) t (Some pc) rcv) (omega (arith, e)) ring (during (base + k + 1) (Some pc)) (λ m b h. h)
      (λ after. subst (λ x. Safe (Inv w start) K P (rxing f (base + k + 1) t (Some pc) rcv) (chained x (gave s (At k)) (gathered_of (k + 1) (take (4096 * k + size_at p k) p)) (receive w (suc l)))) (sym more_left)
      (subst (λ x. Safe (Inv w start) K P (rxing f (base + k + 1) t (Some pc) rcv) (receive w (suc l) (gave s (At k)) (gathered_of (k + 1) x))) (sym page)
      (subst (λ c. Safe (Inv w start) K P (rxing f c t (Some pc) rcv) (receive w (suc l) (gave s (At k)) (so_far p (k + 1)))) (sym on)
      (receive_safe r (k + 1) l (gave s (At k)) (Some pc) (omega (arith, e)) (omega (arith, left)) halt same (subst (λ c. Ringed start (gave s (At k)).rx (id_at f.posts) c (length f.posts)) on after)))))
