-- A send is safe.
use Rattle.honest_pair.proofs.Invariant.Puts.{add_add}
use Rattle.std.proofs.Common.{◌≡◌, ℕ, ◌+◌, ◌^◌, ◌<◌, ◌≤◌, Bool, true, false, List, [], length, refl, sym, arith, subst, Option, Some, None}
use Rattle.xen_buffers.specs.declared.wiring.FrontWiring.{FrontWiring}
use Rattle.xen_front.specs.Given.{Ending, Idle}
use Rattle.xen_front.specs.Slots.{send_writes}
use Rattle.xen_front.specs.Tree.{flown, notice, publish, send}
use Rattle.xen_front.specs.declared.state.FrontState.{FrontState}
use Rattle.xen_ring.specs.Index.{is_due}
use Rattle.xen_steps.specs.Pages.{PageWrite, write_all}
use Rattle.xen_steps.specs.Places.{add32, page_word}
use Rattle.honest_pair.specs.Invariant.Ghosts.{Sent, Front, Back, tx_sent}
use Rattle.honest_pair.specs.Invariant.Inv.{Inv}
use Rattle.honest_pair.specs.Machine.Memory.{Memory}
use Rattle.honest_pair.specs.Machine.Safe.{Safe}
use Rattle.honest_pair.specs.Invariant.Numbers.{Numbers}
use Rattle.honest_pair.proofs.Invariant.FrontPieces.{send_own, send_spread}
use Rattle.honest_pair.proofs.Invariant.FrontPublishes.{pushed, Sendable}
use Rattle.honest_pair.proofs.Invariant.FrontPushes.{publishes, closes, wakes}
use Rattle.honest_pair.proofs.Invariant.FrontWrites.{with_notes, noted_all, cross_none, write_all_safe}

module _ (w : FrontWiring) (laid : Numbers w) (start : ℕ) (small : start < 2 ^ 32) (K : Front → Type 0) (P : Front → Ending → Type 0) where
  -- what is left of a send's push, with the event index read
  notice_safe : (f : Front) (s : Sent) (e : FrontState) (o n : ℕ) (m : Memory) (b : Back) (due : Bool) → 0 < n → n ≤ 256 → ((win : Option ℕ) → K (pushed f s win)) → P (pushed f s None) (e, Idle) →
      is_due (add32 start o) (add32 start (o + n)) (m.word (page_word w.tx_frame 1)) ≡ due → Inv w start m (pushed f s (Some o)) b →
      (f' : Front) × Inv w start m f' b × K f' × Safe (Inv w start) K P f' (notice w due e)
  notice_safe f s e o n m b false p q k r d h = (pushed f s None, closes w laid start small f s o n m b p q d h, k None, r)
  notice_safe f s e o n m b true p q k r d h =
      (pushed f s (Some o), h, k (Some o), λ m1 b1 h1. (pushed f s None, wakes w laid start small f s (Some o) m1 b1 h1, k None, λ a l. r))

  -- a push from here on
  publish_safe : (f : Front) (s : Sent) (e : FrontState) → Sendable w start f s → 0 < length s.ids → length s.ids ≤ 256 → f.window ≡ None → ((win : Option ℕ) → K (pushed f s win)) → P (pushed f s None) (e, Idle) →
      Safe (Inv w start) K P (with_notes f (noted_all [] (send_writes w (add32 start (tx_sent f)) s.bytes (length s.ids) 0 s.ids)))
      (publish w w.tx_frame (add32 start (tx_sent f)) (add32 start (tx_sent f + length s.ids)) e)
  publish_safe f s e ok some few quiet k r = λ m b h. (
    pushed f s (Some (tx_sent f)),
    publishes w laid start small f s ok quiet m b h,
    k (Some (tx_sent f)),
    λ a l. λ m1 b1 h1.
        let i = notice_safe f s e (tx_sent f) (length s.ids) m1 b1 (is_due (add32 start (tx_sent f)) (add32 start (tx_sent f + length s.ids)) (m1.word (page_word w.tx_frame 1))) some few k r refl h1 in
        (i.0, i.1, i.2, λ c d. i.3),
  )

  -- a whole send's writes and its push
  writes_safe : (f : Front) (s : Sent) (e : FrontState) → Sendable w start f s → 0 < length s.ids → length s.ids ≤ 256 → f.window ≡ None → ((l : List PageWrite) → K (with_notes f l)) → ((win : Option ℕ) → K (pushed f s win)) → P (pushed f s None) (e, Idle) →
      Safe (Inv w start) K P (with_notes f [])
      (write_all (send_writes w (add32 start (tx_sent f)) s.bytes (length s.ids) 0 s.ids) (publish w w.tx_frame (add32 start (tx_sent f)) (add32 start (tx_sent f + length s.ids)) e))
  writes_safe f s e ok some few quiet kn k r =
      let ns = send_writes w (add32 start (tx_sent f)) s.bytes (length s.ids) 0 s.ids in
      let room = ok.room in
      write_all_safe w start laid K P f [] ns (publish w w.tx_frame (add32 start (tx_sent f)) (add32 start (tx_sent f + length s.ids)) e) kn
      (send_own w start f s.bytes (length s.ids) 0 s.ids ok.good.ids ok.free (omega arith))
      (send_spread w laid start (tx_sent f) s.bytes (length s.ids) 0 s.ids ok.differ ok.good.ids few) (cross_none ns)
      (publish_safe f s e ok some few quiet k r)

  -- Whatever the back does between its events, a send keeps the invariant, and never halts.
  pub send_tree_safe : (f : Front) (s : FrontState) (p ids : List ℕ) → s.tx.prod ≡ add32 start (tx_sent f) → Sendable w start f (record { bytes = p; ids = ids }) → 0 < length ids → length ids ≤ 256 → f.window ≡ None →
      ((l : List PageWrite) → K (with_notes f l)) → ((win : Option ℕ) → K (pushed f (record { bytes = p; ids = ids }) win)) → P (pushed f (record { bytes = p; ids = ids }) None) (record s { tx = flown s.tx ids }, Idle) →
      Safe (Inv w start) K P (with_notes f []) (send w s p ids)
  send_tree_safe f s p ids at ok some few quiet kn k r =
      let e : FrontState = record s { tx = flown s.tx ids } in
      let q : Sent = record { bytes = p; ids = ids } in
      let T : ℕ → Type 0 = λ i. Safe (Inv w start) K P (with_notes f []) (write_all (send_writes w i p (length ids) 0 ids) (publish w w.tx_frame i (add32 i (length ids)) e)) in
      let new = add_add start (tx_sent f) (length ids) in
      subst T (sym at) (subst (λ j. Safe (Inv w start) K P (with_notes f []) (write_all (send_writes w (add32 start (tx_sent f)) p (length ids) 0 ids) (publish w w.tx_frame (add32 start (tx_sent f)) j e))) (sym new)
      (writes_safe f q e ok some few quiet kn k r))
