-- A turn of the back is safe, if sending a packet back is.
use Rattle.std.proofs.Common.{◌≡◌, ℕ, zero, suc, ◌+◌, ◌^◌, ◌<◌, ◌≤◌, inl, Bool, true, false, List, [], ◌∷◌, ◌++◌, length, length-append, map, Option, Some, None, Ok, refl, sym, ◌∙◌, ap, arith, subst}
use Rattle.std.specs.Prelude.{◌==◌, if◌then◌else◌}
use Rattle.std.proofs.lemmas.Bool.Decides.{nat_tests}
use Rattle.xen_turns.specs.Tree.{Left, Scan, after_run, answered, copy, look, program, read_slots, respond, run_of, send, status_of}
use Rattle.xen_turns.specs.Turned.{Ran}
use Rattle.xen_turns.specs.declared.state.State.{State}
use Rattle.xen_turns.specs.declared.wiring.Wiring.{Wiring as BackWiring}
use Rattle.xen_buffers.specs.declared.wiring.FrontWiring.{FrontWiring}
use Rattle.xen_netif.specs.Chain.{Slot}
use Rattle.xen_netif.specs.Segments.{offered_fragments}
use Rattle.xen_netif.specs.declared.segments.Offers.{Offers}
use Rattle.xen_steps.specs.Places.{add32}
use Rattle.xen_steps.specs.Steps.{done, bind}
use Rattle.honest_pair.specs.Machine.Halves.{Half, HasRun, half_chain, half_copy, half_look, half_scan, half_turn, half_unless}
use Rattle.honest_pair.specs.Invariant.Ended.{Between, EndedTurn, Fits, GivesLeft, HalfEnd, Programmed, Ready, working, resting}
use Rattle.honest_pair.specs.Invariant.Ends.{BackSafe, HasGiven}
use Rattle.honest_pair.specs.Invariant.Ghosts.{AllOf, IsSent, Sent, pieces_from, pieces_in, slots, Back, bytes_in}
use Rattle.honest_pair.specs.Invariant.Inv.{tx_words}
use Rattle.honest_pair.specs.Invariant.Joined.{Joined}
use Rattle.honest_pair.specs.Invariant.Laid.{Laid}
use Rattle.honest_pair.proofs.Invariant.Puts.{add_add}
use Rattle.honest_pair.proofs.Invariant.Lists.{pieces_count, slots_count}
use Rattle.honest_pair.proofs.Invariant.BackLooks.{Looked, look_safe, over, safe_bind, safe_less}
use Rattle.honest_pair.proofs.Invariant.BackChains.{Scanned, onto, scan_safe}
use Rattle.honest_pair.proofs.Invariant.BackParts.{fragments_sent, part}
use Rattle.honest_pair.proofs.Invariant.BackCopies.{Copied, copy_safe}
use Rattle.honest_pair.proofs.Invariant.BackAnswers.{Answered, HasLeft, program_safe, respond_safe}

-- no refusal of a sent packet's sizes
fragments_there : (offers : Offers) (w : FrontWiring) (start : ℕ) (s : Sent) → IsSent s → offered_fragments offers (map (tx_words w start) (pieces_in s)) ≡ Ok (map (part w start) (pieces_in s))
fragments_there offers w start s h = by s.ids refl
  where
    by : (ids : List ℕ) → s.ids ≡ ids → offered_fragments offers (map (tx_words w start) (pieces_in s)) ≡ Ok (map (part w start) (pieces_in s))
    by [] e = let a = h.count in let b = h.least in let c : length s.ids ≡ 0 = ap length e in absurd (omega (arith, a, b, c))
    by (id ∷ ids) e =
        let all : AllOf (λ i. i < 256) (id ∷ ids) = subst (AllOf (λ i. i < 256)) e h.ids in
        let n : length s.ids ≡ suc (length ids) = ap length e in
        let a = h.count in
        subst (λ o. offered_fragments offers (map (tx_words w start) (pieces_from s.bytes (length s.ids) 0 o)) ≡ Ok (map (part w start) (pieces_from s.bytes (length s.ids) 0 o))) (sym e)
        (fragments_sent w start offers s.bytes (length s.ids) id ids h.least all.0 all.1 (omega (arith, a, n)))

pub done_count : (start : ℕ) (d : List Sent) (s : Sent) → add32 (add32 start (length (slots d))) (length s.ids) ≡ add32 start (length (slots (d ++ s ∷ [])))
done_count start d s =
    let n = slots_count d (s ∷ []) in
    let n2 = length-append (pieces_in s) [] in
    let c = pieces_count s.bytes (length s.ids) 0 s.ids in
    let total : length (slots (d ++ s ∷ [])) ≡ length (slots d) + length s.ids = omega (arith, n, n2, c) in
    add_add start (length (slots d)) (length s.ids) ∙ ap (add32 start) (sym total)

-- a packet more is done
pub next_between : (start : ℕ) (d g : List Sent) (s : Sent) (state : State) → Between start d g state → Between start (d ++ s ∷ []) g (answered state (length s.ids))
next_between start d g s state h = record { tx = ap (λ t. add32 t (length s.ids)) h.tx ∙ done_count start d s; rx = h.rx; running = h.running }

pub bytes_more : (d : List Sent) (s : Sent) → bytes_in (d ++ s ∷ []) ≡ bytes_in d ++ s.bytes ∷ []
bytes_more [] s = refl
bytes_more (x ∷ d) s = ap (λ l. x.bytes ∷ l) (bytes_more d s)

-- what follows a run is safe: responses, or the packet is sent back
abbrev pub AfterRun : FrontWiring → ℕ → BackWiring → List Sent → Sent → List Sent → List Sent → List ℕ → ℕ → State → Left → Type 0
AfterRun w start v d s l g rs e state r =
    BackSafe w start (GivesLeft (bytes_in g) r) (EndedTurn start (bytes_in d ++ s.bytes ∷ []) (bytes_in g)) (working d (s ∷ l) (length s.ids) 0 g rs e)
    (after_run (over w v) state (map (tx_words w start) (pieces_in s)) r)

-- sending a packet back is safe
abbrev pub SendSafe : FrontWiring → ℕ → BackWiring → Type 0
SendSafe w start v =
    (d : List Sent) (s : Sent) (l g : List Sent) (rs : List ℕ) (e : ℕ) (state : State) (r : Left) → IsSent s → Fits s.bytes r.packet → Between start d g state → r.number ≡ 3 →
    BackSafe w start (GivesLeft (bytes_in g) r) (EndedTurn start (bytes_in d ++ s.bytes ∷ []) (bytes_in g)) (working d (s ∷ l) (length s.ids) 0 g rs e)
    (send (over w v) state (map (tx_words w start) (pieces_in s)) r.packet r.ops)

module _ (w : FrontWiring) (start : ℕ) (y : Laid w) (small : start < 2 ^ 32) (v : BackWiring) (j : Joined w v) (runs : Programmed v) (sends : SendSafe w start v) where
  abbrev wiring : BackWiring
  wiring = over w v

  -- a turn that answers its packet and gives nothing
  answered_end : (d : List Sent) (s : Sent) (l g : List Sent) (rs : List ℕ) (e : ℕ) (state : State) → Between start d g state →
      Ready start (answered state (length s.ids)) (bytes_in d ++ s.bytes ∷ []) (bytes_in g) (resting (d ++ s ∷ []) l g rs e)
  answered_end d s l g rs e state at =
      record { answered = d ++ s ∷ []; ahead = l; sent = g; posts = rs; event = e; back = refl; copied = bytes_more d s; gave = refl; between = next_between start d g s state at }

  run_safe : (d : List Sent) (s : Sent) (l g : List Sent) (rs : List ℕ) (e : ℕ) (state : State) (r : Left) → IsSent s → Fits s.bytes r.packet → Between start d g state → AfterRun w start v d s l g rs e state r
  run_safe d s l g rs e state r good h at = by (r.number == 3) refl
    where
      by : (b : Bool) → (r.number == 3) ≡ b →
          BackSafe w start (GivesLeft (bytes_in g) r) (EndedTurn start (bytes_in d ++ s.bytes ∷ []) (bytes_in g)) (working d (s ∷ l) (length s.ids) 0 g rs e)
          (if b then send wiring state (map (tx_words w start) (pieces_in s)) r.packet r.ops else respond wiring state (map (tx_words w start) (pieces_in s)) (status_of r.number) (Ran r.number r.packet r.ops (length (map (tx_words w start) (pieces_in s)))))
      by true q = let three : r.number ≡ 3 = grind (arith, nat_tests) in sends d s l g rs e state r good h at three
      by false q =
          let u = Ran r.number r.packet r.ops (length (map (tx_words w start) (pieces_in s))) in
          safe_less w start (HasGiven g) (GivesLeft (bytes_in g) r) (Answered w start y v d s l g rs e good (answered state (length s.ids), u)) (EndedTurn start (bytes_in d ++ s.bytes ∷ []) (bytes_in g))
          (working d (s ∷ l) (length s.ids) 0 g rs e) (respond wiring state (map (tx_words w start) (pieces_in s)) (status_of r.number) u)
          (λ b k. inl (ap bytes_in k))
          (λ b x z. onto (EndedTurn start (bytes_in d ++ s.bytes ∷ []) (bytes_in g)) (resting (d ++ s ∷ []) l g rs e) b (answered state (length s.ids), u) x z.0 z.1
          (subst (λ t. Ready start (answered state (length s.ids)) (bytes_in d ++ s.bytes ∷ []) (if t then bytes_in g ++ r.packet ∷ [] else bytes_in g) (resting (d ++ s ∷ []) l g rs e)) (sym q)
          (answered_end d s l g rs e state at)))
          (respond_safe w start y v d s l g rs e good state (status_of r.number) u at.tx)

  module _ (d : List Sent) (s : Sent) (l g : List Sent) (rs : List ℕ) (e : ℕ) (state : State) (good : IsSent s) (at : Between start d g state) where
    abbrev Ends : Back → Half → Type 0
    Ends = HalfEnd w start wiring state (bytes_in d) (bytes_in g)

    abbrev read : Back
    read = working d (s ∷ l) (length s.ids) 0 g rs e

    abbrev all : List Slot
    all = map (tx_words w start) (pieces_in s)

    copied_safe : (b : Back) (o : Option (List ℕ)) → Copied w start v j d s l g rs e good b o → BackSafe w start (HasGiven g) Ends b (half_copy wiring state all o)
    copied_safe b o h =
        onto (λ b2 o2. BackSafe w start (HasGiven g) Ends b2 (half_copy wiring state all o2)) read b (Some s.bytes) o h.0 h.1
        (safe_bind w start (HasGiven g) (HasLeft (Fits s.bytes) read) Ends read (program (run_of wiring s.bytes) 0) (λ r. done (HasRun all s.bytes r))
        (program_safe w start (Fits s.bytes) read (run_of wiring s.bytes) 0 (runs s good))
        (λ b2 r k. subst (λ c. Ends c (HasRun all s.bytes r)) (sym k.0) (run_safe d s l g rs e state r good k.1 at)))

    scanned_safe : (b : Back) (o : Scan) → Scanned w start v d s l g rs e (length s.ids) all b o → BackSafe w start (HasGiven g) Ends b (half_scan wiring state o)
    scanned_safe b o h =
        onto (λ b2 o2. BackSafe w start (HasGiven g) Ends b2 (half_scan wiring state o2)) read b (Ok all) o h.0 h.1
        (subst (λ f. BackSafe w start (HasGiven g) Ends read (half_chain wiring state all f)) (sym (fragments_there wiring.offers w start s good))
        (safe_bind w start (HasGiven g) (Copied w start v j d s l g rs e good) Ends read (copy wiring (map (part w start) (pieces_in s)) []) (half_copy wiring state all)
        (copy_safe w start v j d s l g rs e good) copied_safe))

    slots_safe : (left : ℕ) → length (pieces_in s) ≤ left → BackSafe w start (HasGiven g) Ends (resting d (s ∷ l) g rs e) (bind (read_slots wiring state.tx_index left []) (half_scan wiring state))
    slots_safe left p =
        subst (λ t. BackSafe w start (HasGiven g) Ends (resting d (s ∷ l) g rs e) (bind (read_slots wiring t left []) (half_scan wiring state))) (sym at.tx)
        (safe_bind w start (HasGiven g) (Scanned w start v d s l g rs e (length s.ids) all) Ends (resting d (s ∷ l) g rs e) (read_slots wiring (add32 start (length (slots d))) left []) (half_scan wiring state)
        (scan_safe w start v d s l g rs e left good p) scanned_safe)

  looked_safe : (d g : List Sent) (state : State) → Between start d g state → (b : Back) (o : Option ℕ) → Looked d g b o →
      BackSafe w start (HasGiven g) (HalfEnd w start wiring state (bytes_in d) (bytes_in g)) b (half_look wiring state o)
  looked_safe d g state at b None h = absurd h
  looked_safe d g state at b (Some zero) h =
      (refl, record { answered = d; sent = g; posts = h.0; back = h.1; copied = refl; gave = refl; between = at })
  looked_safe d g state at b (Some (suc n)) h = by h.0 h.4 h.5 h.3
    where
      by : (x : List Sent) → length (slots x) ≡ suc n → AllOf IsSent x → b ≡ resting d x g h.1 h.2 →
          BackSafe w start (HasGiven g) (HalfEnd w start wiring state (bytes_in d) (bytes_in g)) b (bind (read_slots wiring state.tx_index (suc n) []) (half_scan wiring state))
      by [] c a q = absurd (omega (arith, c))
      by (s ∷ l) c a q =
          let k = length-append (pieces_in s) (slots l) in
          subst (λ o. BackSafe w start (HasGiven g) (HalfEnd w start wiring state (bytes_in d) (bytes_in g)) o (bind (read_slots wiring state.tx_index (suc n) []) (half_scan wiring state))) (sym q)
          (slots_safe d s l g h.1 h.2 state a.0 at (suc n) (omega (arith, c, k)))

  -- The first half of a turn, whatever the front does between its events.
  pub half_rests : (d a g : List Sent) (rs : List ℕ) (e : ℕ) (state : State) → Between start d g state →
      BackSafe w start (HasGiven g) (HalfEnd w start wiring state (bytes_in d) (bytes_in g)) (resting d a g rs e) (half_turn wiring state)
  half_rests d a g rs e state at =
      subst (λ h. BackSafe w start (HasGiven g) (HalfEnd w start wiring state (bytes_in d) (bytes_in g)) (resting d a g rs e) (half_unless wiring state h)) (sym at.running)
      (subst (λ t. BackSafe w start (HasGiven g) (HalfEnd w start wiring state (bytes_in d) (bytes_in g)) (resting d a g rs e) (bind (look wiring t) (half_look wiring state))) (sym at.tx)
      (safe_bind w start (HasGiven g) (Looked d g) (HalfEnd w start wiring state (bytes_in d) (bytes_in g)) (resting d a g rs e) (look wiring (add32 start (length (slots d)))) (half_look wiring state)
      (look_safe w start y small v d g rs a e) (looked_safe d g state at)))
