-- A whole poll is safe.
use Rattle.std.proofs.Common.{◌≡◌, ℕ, zero, suc, ◌+◌, ◌-◌, ◌^◌, ◌<◌, List, [], ◌∷◌, ◌++◌, length, length-append, get_or, sym, ◌∙◌, ap, arith, subst, Option, Some, None, append_assoc}
use Rattle.xen_buffers.specs.declared.wiring.FrontWiring.{FrontWiring}
use Rattle.xen_front.specs.Given.{Ending, Idle, Packet}
use Rattle.xen_front.specs.Tree.{after_rx_look, look, nothing_gathered, poll_rx, receive}
use Rattle.xen_front.specs.declared.state.Ring.{Ring}
use Rattle.xen_front.specs.declared.state.FrontState.{FrontState}
use Rattle.xen_netif.specs.declared.offload.RxOffload.TheVariants.{Whole}
use Rattle.xen_steps.specs.Places.{add32}
use Rattle.honest_pair.specs.Invariant.Ghosts.{Sent, Piece, Front, Back, slots, piece, pieces_in, id_at, IsSent, AllOf}
use Rattle.honest_pair.specs.Invariant.Inv.{Inv}
use Rattle.honest_pair.specs.Machine.Memory.{Memory}
use Rattle.honest_pair.specs.Invariant.Rest.{Ringed}
use Rattle.honest_pair.specs.Machine.Safe.{Safe}
use Rattle.honest_pair.proofs.Invariant.FrontChains.{its, piece_at, receive_safe}
use Rattle.honest_pair.proofs.Invariant.FrontGroups.{rx_span}
use Rattle.honest_pair.proofs.Invariant.Lists.{slots_append, slots_count, pieces_count, all_right}
use Rattle.honest_pair.proofs.Invariant.FrontLooks.{Told, Looked, look_safe}
use Rattle.honest_pair.specs.Invariant.Numbers.{Numbers}
use Rattle.honest_pair.proofs.Invariant.FrontPieces.{all_left}
use Rattle.honest_pair.proofs.Invariant.FrontPublishes.{newer, older}
use Rattle.honest_pair.proofs.Invariant.FrontReceives.{rxing, rx_tells, rx_asks_more}
use Rattle.honest_pair.proofs.Machine.SafeLemmas.{safe_bind}

-- the pieces of a packet behind others
pub piece_of_next : (a : List Sent) (q : Sent) (x : List Sent) (k : ℕ) → k < length q.ids → piece (slots (a ++ q ∷ x)) (length (slots a) + k) ≡ its q.bytes (length q.ids) k (get_or q.ids k 0)
piece_of_next a q x k h =
    let len = pieces_count q.bytes (length q.ids) 0 q.ids in
    ap (λ l. piece l (length (slots a) + k)) (slots_append a (q ∷ x)) ∙ newer (slots a) (pieces_in q ++ slots x) k
    ∙ older (pieces_in q) (slots x) k (omega (arith, len, h)) ∙ piece_at q.bytes (length q.ids) 0 q.ids k h ∙ ap (λ i. its q.bytes (length q.ids) i (get_or q.ids k 0)) (omega arith)

module _ (w : FrontWiring) (laid : Numbers w) (start : ℕ) (small : start < 2 ^ 32) (K : Front → Type 0) (P : Front → Ending → Type 0) (f : Front) (before : List Sent) (rcv : List (List ℕ)) (tx0 : Ring)
    (during : (c : ℕ) (x : List Sent) (rd : Option Piece) → K (rxing f c (before ++ x) rd rcv))
    (finally : (q : Sent) (x : List Sent) → K (rxing f (length (slots before) + length q.ids) (before ++ q ∷ x) None (rcv ++ q.bytes ∷ [])))
    (idle : (x : List Sent) (s : FrontState) → s.halt ≡ None → s.tx ≡ tx0 → Ringed start s.rx (id_at f.posts) (length (slots before)) (length f.posts) → P (rxing f (length (slots before)) (before ++ x) None rcv) (s, Idle))
    (packet : (q : Sent) (x : List Sent) (s : FrontState) → s.halt ≡ None → s.tx ≡ tx0 → Ringed start s.rx (id_at f.posts) (length (slots before) + length q.ids) (length f.posts) →
    P (rxing f (length (slots before) + length q.ids) (before ++ q ∷ x) None (rcv ++ q.bytes ∷ [])) (s, Packet Whole q.bytes)) where
  base : ℕ
  base = length (slots before)

  tell : List Sent → Front
  tell x = rxing f (length (slots before)) (before ++ x) None rcv

  size : List Sent → ℕ
  size x = length (slots (before ++ x))

  rx_reads : (x : List Sent) (m : Memory) (b : Back) → Inv w start m (rxing f (length (slots before)) (before ++ x) None rcv) b →
      Told w start small (λ x. rxing f (length (slots before)) (before ++ x) None rcv) (λ x. length (slots (before ++ x))) (AllOf IsSent) w.rx_frame (length (slots before)) (length f.posts) m b
  rx_reads x m b h =
      let span = rx_span w start (rxing f (length (slots before)) (before ++ x) None rcv) b.given b.giving b.rx_used b.rx_seen h.rx in
      let high = span.read in
      let room = h.rx.room in
      let y = x ++ h.rx.told.0 in
      let e : b.given ≡ before ++ y = h.rx.told.1 ∙ append_assoc before x h.rx.told.0 in
      let n = ap (λ l. length (slots l)) e in
      let good : AllOf IsSent (before ++ y) = subst (AllOf IsSent) e (all_left IsSent b.given b.giving h.rx.good) in
      let low = slots_count before y in
      record {
        what = y;
        word = h.rx_head.rsp_prod ∙ ap (add32 start) n;
        low = omega (arith, low);
        high = omega (arith, n, high);
        room = room;
        inv = subst (λ t. Inv w start m (rxing f (length (slots before)) t None rcv) b) e (rx_tells w laid start f (length (slots before)) (before ++ x) rcv m b h);
        good = all_right IsSent before y good;
      }

  -- n responses are there
  after_safe : (x : List Sent) (s : FrontState) (n : ℕ) → AllOf IsSent x → length (slots x) ≡ n → s.halt ≡ None → s.tx ≡ tx0 → Ringed start s.rx (id_at f.posts) (length (slots before)) (length f.posts) →
      Safe (Inv w start) K P (rxing f (length (slots before)) (before ++ x) None rcv) (after_rx_look w s (Some n))
  after_safe x s zero good e halt same r = idle x s halt same r
  after_safe [] s (suc n) good e halt same r = absurd (omega (arith, e))
  after_safe (q ∷ x) s (suc n) good e halt same r =
      let g = good.0 in
      let count = g.count in let least = g.least in
      let some : 0 < length q.ids = omega (arith, count, least) in
      let len = slots_count before (q ∷ x) in
      let len2 = slots_count (q ∷ []) x in
      let len3 : length (slots (q ∷ x)) ≡ length (pieces_in q) + length (slots x) = length-append (pieces_in q) (slots x) in
      let len4 = pieces_count q.bytes (length q.ids) 0 q.ids in
      let zero_at : length (slots before) + 0 ≡ length (slots before) = omega arith in
      let j = length q.ids - 1 in
      let go = receive_safe w laid start K P f (before ++ q ∷ x) q.bytes q.ids (length (slots before)) rcv tx0 g.most g.bytes count (omega (arith, len, len3, len4)) (piece_of_next before q x)
      (λ c rd. during c (q ∷ x) rd) (finally q x) (λ s' h t u. packet q x s' h t u) j 0 n s None (omega (arith, some)) (omega (arith, e, len3, len4, some)) halt same
      (subst (λ c. Ringed start s.rx (id_at f.posts) c (length f.posts)) (sym zero_at) r) in
      subst (λ c. Safe (Inv w start) K P (rxing f c (before ++ q ∷ x) None rcv) (receive w (suc n) s nothing_gathered)) zero_at go

  pub poll_rx_safe : (x : List Sent) (s : FrontState) → s.halt ≡ None → s.tx ≡ tx0 → Ringed start s.rx (id_at f.posts) (length (slots before)) (length f.posts) →
      Safe (Inv w start) K P (rxing f (length (slots before)) (before ++ x) None rcv) (poll_rx w s)
  poll_rx_safe x s halt same r =
      safe_bind (Inv w start) K (Looked w start small (λ x. rxing f (length (slots before)) (before ++ x) None rcv) (λ x. length (slots (before ++ x))) (AllOf IsSent) w.rx_frame (length (slots before)) (length f.posts)) P
      (rxing f (length (slots before)) (before ++ x) None rcv) (look w.rx_frame s.rx) (after_rx_look w s)
      (look_safe w start small (λ x. rxing f (length (slots before)) (before ++ x) None rcv) (λ x. length (slots (before ++ x))) (AllOf IsSent) w.rx_frame (length (slots before)) (length f.posts) K (λ y. during (length (slots before)) y None) s.rx r.cons r.prod
      rx_reads (λ y v m b. rx_asks_more w laid start f (length (slots before)) v (before ++ y) rcv m b) x)
      (λ g o q. subst (λ y. Safe (Inv w start) K P y (after_rx_look w s o)) (sym q.ghost)
      (let len = slots_count before q.what in
      subst (λ y. Safe (Inv w start) K P (rxing f (length (slots before)) (before ++ q.what) None rcv) (after_rx_look w s y)) (sym q.shown)
      (after_safe q.what s (length (slots (before ++ q.what)) - length (slots before)) q.good (omega (arith, len)) halt same r)))
