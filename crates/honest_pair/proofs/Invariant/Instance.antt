-- The two ends keep to what the pair's assembly asks of them, and so the law of the pair holds.
use Rattle.honest_pair.proofs.Invariant.Lists.{bytes_append, nil_right}
use Rattle.std.proofs.Common.{◌≡◌, ℕ, zero, suc, ◌+◌, ◌*◌, ◌/◌, ◌%◌, ◌^◌, ◌<◌, inl, inr, Bool, true, false, List, [], ◌∷◌, ◌++◌, length, append_assoc, Some, None, refl, sym, ◌∙◌, ap, arith, subst}
use Rattle.honest_pair.specs.Machine.Halves.{half_turn}
use Rattle.std.specs.Prelude.{All, get_or, nat_lt, if◌then◌else◌}
use Rattle.std.proofs.lemmas.List.Elements.{All-head, All-tail}
use Rattle.bpf_verify.specs.Consistent.{Accepted, IsConsistent}
use Rattle.xen_netif.specs.declared.offload.RxOffload.TheVariants.{Whole}
use Rattle.xen_turns.specs.Turned.{Turned, Idle, Ran, Refused, Halted}
use Rattle.xen_turns.specs.declared.delivery.delivering.Delivery.{Delivery}
use Rattle.xen_turns.specs.declared.delivery.delivering.Delivery.TheVariants as delivery
use Rattle.xen_turns.specs.declared.state.State.{State as BackState}
use Rattle.xen_turns.specs.declared.turn.PacketRefusal.TheVariants as refusal
use Rattle.xen_turns.specs.Deliveries.{whole_delivery}
use Rattle.xen_turns.specs.Tree.{after_run}
use Rattle.xen_turns.specs.declared.wiring.Wiring.{Wiring as BackWiring}
use Rattle.xen_buffers.specs.Grants.{buffer}
use Rattle.xen_buffers.specs.declared.wiring.FrontWiring.{FrontWiring}
use Rattle.xen_front.specs.Fronts.{all_free, free_in}
use Rattle.xen_front.specs.Given.{Ending as FrontEnding}
use Rattle.xen_front.specs.Making.{IsNew}
use Rattle.xen_front.specs.Tree.{poll}
use Rattle.xen_front.specs.declared.state.Ring.{Ring}
use Rattle.xen_front.specs.declared.state.FrontState.{FrontState}
use Rattle.xen_ring.specs.Index.{distance}
use Rattle.xen_steps.specs.Places.{add32, available, page_word}
use Rattle.xen_steps.specs.declared.want.Want.TheVariants as want
use Rattle.honest_pair.specs.Machine.Halves.{Half, Over, HasRun}
use Rattle.honest_pair.specs.Machine.Law.{AreFit, Honest, IsByte, IsBytes, IsNewFront, PairLaw}
use Rattle.honest_pair.specs.Machine.Law as law
use Rattle.honest_pair.specs.Machine.Layout.{IsBack, IsFront}
use Rattle.honest_pair.specs.Machine.Memory.{after, header_word, opening_memory, opening_word}
use Rattle.honest_pair.specs.declared.awaits.Awaits.TheVariants as awaits
use Rattle.honest_pair.specs.Machine.Pair as pair
use Rattle.honest_pair.specs.Machine.Pair.{PairEvent, opening, run}
use Rattle.honest_pair.proofs.Machine.EndLaws as ends
use Rattle.honest_pair.proofs.Machine.Pairs as pairs
use Rattle.honest_pair.proofs.Machine.SafeLemmas.{safe_less}
use Rattle.honest_pair.specs.Invariant.Ended as ended
use Rattle.honest_pair.specs.Invariant.Ended.{Between, Ready, Slept, slept}
use Rattle.honest_pair.specs.Invariant.Backs.{woken}
use Rattle.honest_pair.specs.Invariant.Ghosts.{Front, Back, slots, bytes_in}
use Rattle.honest_pair.specs.Invariant.Inv.{Inv}
use Rattle.honest_pair.specs.Invariant.Numbers.{Numbers}
use Rattle.honest_pair.specs.Invariant.Rest as rests
use Rattle.honest_pair.specs.Invariant.Rest.{Chained, Keeps, Polls, Posts, Rest, Ringed, Sends, began}
use Rattle.honest_pair.proofs.Invariant.BackDelivers.{delivery_safe}
use Rattle.honest_pair.proofs.Invariant.BackWaits.{asks, forgets, looks, tells}
use Rattle.honest_pair.proofs.Invariant.BackLaws.{all_heard, copies_begin, half_safe, told_begins, wakes}
use Rattle.honest_pair.proofs.Invariant.Layouts.{ends_joined, laid, place_of, rx_is, tx_is}
use Rattle.honest_pair.proofs.Invariant.BackPrograms.{programmed}
use Rattle.honest_pair.proofs.Invariant.FrontActivities as front
use Rattle.honest_pair.proofs.Invariant.FrontRests.{begins, sends_ok}

bytes_small : (p : List ℕ) → All IsByte p → (i : ℕ) → get_or p i 0 < 256
bytes_small [] h zero = omega arith
bytes_small [] h (suc i) = omega arith
bytes_small (b ∷ p) h zero = All-head IsByte b p h
bytes_small (b ∷ p) h (suc i) = bytes_small p (All-tail IsByte b p h) i

numbers : (w : FrontWiring) → IsFront w → Numbers w
numbers w h = record {
  tx_ring = h.tx_ring;
  rx_ring = h.rx_ring;
  port = h.port;
  tx_page = λ i p. ap (λ b. b.frame) (tx_is w h i p);
  rx_page = λ i p. ap (λ b. b.frame) (rx_is w h i p);
  tx_frame = λ i p. (let g : (buffer w.tx.now i).gref ≡ 2 + i = ap (λ b. b.gref) (tx_is w h i p) in let f = ap (λ q. q.frame) (place_of w h (buffer w.tx.now i) (omega (arith, g, p))) in omega (arith, f, g, p));
  tx_word = λ i p. (let g : (buffer w.tx.now i).gref ≡ 2 + i = ap (λ b. b.gref) (tx_is w h i p) in let f = ap (λ q. q.word) (place_of w h (buffer w.tx.now i) (omega (arith, g, p))) in omega (arith, f, g, p));
  rx_frame = λ i p. (let g : (buffer w.rx.now i).gref ≡ 258 + i = ap (λ b. b.gref) (rx_is w h i p) in let f = ap (λ q. q.frame) (place_of w h (buffer w.rx.now i) (omega (arith, g, p))) in f ∙ ap (λ q. 1 + q / 512) g);
  rx_word = λ i p. (let g : (buffer w.rx.now i).gref ≡ 258 + i = ap (λ b. b.gref) (rx_is w h i p) in let f = ap (λ q. q.word) (place_of w h (buffer w.rx.now i) (omega (arith, g, p))) in f ∙ ap (λ q. 2 * (q % 512)) g);
}

-- a front before its first activity
abbrev nothing_done : Front
nothing_done = record { sent = []; unsent = []; taken = 0; told = 0; posts = []; got = 0; rx_told = []; reading = None; received = []; notes = []; window = None; posting = false }

all_clear : (out : List Bool) → ((i : ℕ) → get_or out i false ≡ false) → (n i : ℕ) → length (free_in out n i) ≡ n
all_clear out h zero i = refl
all_clear out h (suc n) i = ap (λ b. length (if b then free_in out n (i + 1) else (i ∷ free_in out n (i + 1)))) (h i) ∙ ap (λ k. suc k) (all_clear out h n (i + 1))

all_free_new : (out : List Bool) → ((i : ℕ) → get_or out i false ≡ false) → length (all_free out) ≡ 256
unfolding all_free
all_free_new out h = all_clear out h 256 0

new_ring : (start : ℕ) (r : Ring) (ids : ℕ → ℕ) → start < 2 ^ 32 → IsNew r start → length r.out ≡ 256 → Ringed start r ids 0 0
new_ring start r ids small h size =
    let z : start ≡ add32 start 0 = omega (arith, small) in
    record { prod = h.prod ∙ z; cons = h.cons ∙ z; busy = λ n p q. absurd (omega (arith, q)); count = (let d = all_free_new r.out h.out in omega (arith, d)); size = size }

opened : (w : FrontWiring) (start : ℕ) → start < 2 ^ 32 → w.tx_frame ≡ 17 → w.rx_frame ≡ 18 → Inv w start (opening_memory start) nothing_done (slept [] [] [])
opened w start small t r =
    let z : start ≡ add32 start 0 = omega (arith, small) in
    let tx : (k : ℕ) → opening_word start (page_word w.tx_frame k) ≡ header_word start k = λ k. ap (λ f. opening_word start (page_word f k)) t in
    let rx : (k : ℕ) → opening_word start (page_word w.rx_frame k) ≡ header_word start k = λ k. ap (λ f. opening_word start (page_word f k)) r in
    record {
      tx = record { took = omega arith; told = omega arith; wrote = omega arith; used = omega arith; known = ([], refl); room = omega arith; unique = λ i j p q s e. omega (arith, s); good = tt };
      tx_head = record { req_prod = tx 0 ∙ z; event = tx 1; rsp_prod = tx 2 ∙ z };
      tx_slots = record { requests = λ n j p q. absurd (omega (arith, q)); grants = λ n p q. absurd (omega (arith, q)); pages = λ n j p q. absurd (omega (arith, q)); responses = λ n p q. absurd (omega (arith, q)) };
      rx = record { took = omega arith; told = ([], refl); used = omega arith; known = ([], refl); room = omega arith; unique = λ i j p q s e. omega (arith, s); ids = λ n p. absurd (omega (arith, p)); giving = omega arith; named = λ n p. absurd (omega (arith, p)); good = tt };
      rx_head = record { req_prod = rx 0 ∙ z; event = tt; rsp_prod = rx 2 ∙ z };
      rx_slots = record { requests = λ n j p q. absurd (omega (arith, q)); grants = λ n p q. absurd (omega (arith, q)); responses = λ n j p q. absurd (omega (arith, q)); pages = λ n j p q. absurd (omega (arith, q)) };
      reading = λ s e. absurd (cc);
      front_notes = tt;
      heard = λ a. (refl, inr (inl refl));
      awaited = tt;
    }

module _ (accepted : Accepted) (bw : BackWiring) (fw : FrontWiring) (start : ℕ) (cons : IsConsistent accepted) (ib : IsBack accepted bw) (isf : IsFront fw) (small : start < 2 ^ 32) where
  abbrev givens : Back → List (List ℕ)
  givens b = bytes_in b.given

  abbrev Windowless : Front → Type 0
  Windowless f = f.window ≡ None

  abbrev Postless : Front → Type 0
  Postless f = f.posting ≡ false

  abbrev Ends : Type 0
  Ends = ends.EndLaws bw fw (Inv fw start) (Rest start) Sends Posts Polls Keeps Windowless Postless (Ready start) (Slept start) givens

  abbrev TheEnd : List (List ℕ) → List (List ℕ) → Front → FrontEnding → Type 0
  TheEnd w r f e = ends.FrontEnd bw fw (Inv fw start) (Rest start) Sends Posts Polls Keeps Windowless Postless (Ready start) (Slept start) givens w r f e

  chain_of : (r : List (List ℕ)) (f : Front) (u : List (List ℕ)) → Chained r f → Chained r (began f u)
  chain_of r f u c = record { before = c.before; more = c.more; told = c.told; bytes = c.bytes }

  polls_now : (s : FrontState) (w r : List (List ℕ)) (f : Front) → Rest start s w r f → Polls w r f
  polls_now s w r f h = record { packets = ap (λ u. bytes_in f.sent ++ u) h.unsent ∙ nil_right (bytes_in f.sent) ∙ h.packets; chain = h.chain; window = h.window; posting = h.posting }

  turn_end : (c g : List (List ℕ)) (b : Back) (s : BackState) (u : Turned) → ended.TurnEnd start c g b s u →
      ends.TurnEnd bw fw (Inv fw start) (Rest start) Sends Posts Polls Keeps Windowless Postless (Ready start) (Slept start) givens c g b s u
  turn_end c g b s Idle h = absurd h
  turn_end c g b s (Ran number packet ops k) h = h
  turn_end c g b s (Refused (refusal.Size fault) ops k) h = absurd h
  turn_end c g b s (Refused refusal.Grant ops k) h = absurd h
  turn_end c g b s (Refused refusal.FewSlots ops k) h = h
  turn_end c g b s (Refused refusal.RxGrant ops k) h = absurd h
  turn_end c g b s (Halted cause) h = absurd h

  over_end : (s : BackState) (c g : List (List ℕ)) (b : Back) (t : BackState) (u : Turned) → ended.OverAs start s c g b t u →
      ends.OverAs bw fw (Inv fw start) (Rest start) Sends Posts Polls Keeps Windowless Postless (Ready start) (Slept start) givens s c g b t u
  over_end s c g b t Idle h = h
  over_end s c g b t (Ran number packet ops k) h = absurd h
  over_end s c g b t (Refused cause ops k) h = absurd h
  over_end s c g b t (Halted cause) h = absurd h

  resting_as : (asleep : Bool) (s : BackState) (c g : List (List ℕ)) (b : Back) →
      ends.Resting bw fw (Inv fw start) (Rest start) Sends Posts Polls Keeps Windowless Postless (Ready start) (Slept start) givens asleep s c g b → ended.Resting asleep start s c g b
  resting_as true s c g b h = h
  resting_as false s c g b h = h

  rests_as : (asleep : Bool) (s : BackState) (c g : List (List ℕ)) (b : Back) → ended.Resting asleep start s c g b →
      ends.Resting bw fw (Inv fw start) (Rest start) Sends Posts Polls Keeps Windowless Postless (Ready start) (Slept start) givens asleep s c g b
  rests_as true s c g b h = h
  rests_as false s c g b h = h

  landed_end : (asleep : Bool) (c g : List (List ℕ)) (packet : List ℕ) (b : Back) (s : BackState) (what : Delivery) → ended.Landed asleep start c g packet b s what →
      ends.Landed bw fw (Inv fw start) (Rest start) Sends Posts Polls Keeps Windowless Postless (Ready start) (Slept start) givens asleep c g packet b s what
  landed_end asleep c g packet b s (delivery.Sent slots) h = rests_as asleep s c (g ++ packet ∷ []) b h
  landed_end asleep c g packet b s delivery.FewSlots h = rests_as asleep s c g b h
  landed_end asleep c g packet b s (delivery.Refused slots) h = absurd h
  landed_end asleep c g packet b s (delivery.Halted cause) h = absurd h
  landed_end asleep c g packet b s delivery.NoFrame h = rests_as asleep s c g b h
  landed_end asleep c g packet b s delivery.NotAccepted h = absurd h

  half_end : (s : BackState) (c g : List (List ℕ)) (b : Back) (x : Half) → ended.HalfEnd fw start bw s c g b x →
      ends.HalfEnd bw fw (Inv fw start) (Rest start) Sends Posts Polls Keeps Windowless Postless (Ready start) (Slept start) givens s c g b x
  half_end s c g b (Over e) h = over_end s c g b e.0 e.1 h
  half_end s c g b (HasRun slots packet l) h =
      safe_less (λ m b2 f. Inv fw start m f b2) (ended.GivesLeft g l) (ended.GivesLeft g l) (ended.EndedTurn start (c ++ packet ∷ []) g)
      (λ b2 e. ends.TurnEnd bw fw (Inv fw start) (Rest start) Sends Posts Polls Keeps Windowless Postless (Ready start) (Slept start) givens (c ++ packet ∷ []) g b2 e.0 e.1) b (after_run bw s slots l)
      (λ b2 k. k) (λ b2 e k. turn_end (c ++ packet ∷ []) g b2 e.0 e.1 k) h

  end_laws : Ends
  end_laws =
      let n = numbers fw isf in
      record {
        begin_send = λ s w r p f h ok bytes m b i. (
          began f (p ∷ []),
          begins fw start f (p ∷ []) m b h.window h.posting i,
          record { packets = ap (λ t. t ++ p ∷ []) h.packets; chain = chain_of r f (p ∷ []) h.chain; posting = refl },
          safe_less (Inv fw start) (Sends (w ++ p ∷ []) r) (Sends (w ++ p ∷ []) r) (rests.Over start (w ++ p ∷ []) r) (TheEnd (w ++ p ∷ []) r) (began f (p ∷ [])) (pair.send_tree fw s p)
              (λ f2 k. k) (λ f2 e k. k) (front.send_safe fw n start small s w r f h p (sends_ok s p ok) (bytes_small p bytes)),
        );
        begin_post = λ s w r f h ok. (
          (let q = polls_now s w r f h in record { packets = q.packets; chain = q.chain; window = q.window }),
          λ m b i.
              (safe_less (Inv fw start) (Posts w r) (Posts w r) (rests.Over start w r) (TheEnd w r) (began f []) (pair.post_tree fw s)
              (λ f2 k. k) (λ f2 e k. k) (front.post_safe fw n start small s w r f h (front.posts_ok s ok))) m b (begins fw start f [] m b h.window h.posting i),
        );
        begin_poll = λ s w r f h ok. (
          polls_now s w r f h,
          λ m b i.
              (safe_less (Inv fw start) (Polls w r) (Polls w r) (rests.Over start w r) (TheEnd w r) (began f []) (poll fw s)
              (λ f2 k. k) (λ f2 e k. k) (front.poll_safe fw n start small s w r f h)) m b (begins fw start f [] m b h.window h.posting i),
        );
        running = λ s w r f h. h.running;
        rest_says = λ s w r f h. (let q = polls_now s w r f h in (record { packets = q.packets; chain = q.chain }, h.window, h.posting));
        sending_says = λ w r f h. (record { packets = h.packets; chain = h.chain }, h.posting);
        post_says = λ w r f h. (record { packets = h.packets; chain = h.chain }, h.window);
        poll_says = λ w r f h. (record { packets = h.packets; chain = h.chain }, h.window, h.posting);
        wakes = λ s c g b m f h i. (let z = wakes fw start s c g b m f h i in (woken b, z.0, z.1));
        half_safe = λ s c g b h.
            safe_less (λ m b2 f. Inv fw start m f b2) (ended.GivenAll g) (ended.GivenAll g) (ended.HalfEnd fw start bw s c g)
            (ends.HalfEnd bw fw (Inv fw start) (Rest start) Sends Posts Polls Keeps Windowless Postless (Ready start) (Slept start) givens s c g) b (half_turn bw s)
            (λ b2 k. k) (λ b2 x k. half_end s c g b2 x k) (half_safe fw start small (laid fw isf) bw (ends_joined fw isf accepted bw ib) (programmed accepted bw cons ib) s c g b h);
        delivery_safe = λ asleep s c g b packet h bytes.
            safe_less (λ m b2 f. Inv fw start m f b2) (ended.GivesPacket g packet) (ended.GivesPacket g packet) (λ b2 e. ended.Landed asleep start c g packet b2 e.0 e.1)
            (λ b2 e. ends.EndedDelivery bw fw (Inv fw start) (Rest start) Sends Posts Polls Keeps Windowless Postless (Ready start) (Slept start) givens asleep c g packet b2 e) b (whole_delivery bw.vif bw.accepts s Whole packet)
            (λ b2 k. k) (λ b2 e k. landed_end asleep c g packet b2 e.0 e.1 k)
            (delivery_safe fw start small (laid fw isf) bw (ends_joined fw isf accepted bw ib) asleep s c g b (resting_as asleep s c g b h) packet (bytes_small packet bytes));
        wait_asks = λ asleep s c g b pages m f h i.
            subst (λ x. Inv fw start (record (after (want.Write (page_word x 1) (add32 s.rx_index pages)) m) { awaits = awaits.Asked s.rx_index pages }) f b) (sym (ends_joined fw isf accepted bw ib).rx)
            (asks fw start (laid fw isf) asleep s c g b (resting_as asleep s c g b h) pages m f i);
        wait_looks = λ asleep s c g b pages m f h i e.
            subst (λ x. (k : ℕ) × (available s.rx_index (m.word (page_word x 0)) ≡ Some k) × (nat_lt k pages ≡ true → Inv fw start (record m { awaits = awaits.Fewer s.rx_index pages }) f b)) (sym (ends_joined fw isf accepted bw ib).rx)
            (looks fw start small asleep s c g b (resting_as asleep s c g b h) pages m f i e);
        forgets = λ m f b i. forgets fw start m f b i;
        tells = λ m f b index pages i closed a quiet.
            subst (λ x. distance index (m.word (page_word x 0)) < pages) isf.rx_ring (tells fw start m f b index pages i closed a quiet);
        ready_runs = λ s c g b h. (ap (λ x. bytes_in x.given) h.back ∙ h.gave, h.between.running);
        slept_runs = λ s c g b h. (ap (λ x. bytes_in x.given) h.back ∙ h.gave, h.between.running);
        copied = λ s w r c g m f b k i h.
            (let z = copies_begin fw start m f b i in
            let done : bytes_in b.done ≡ c = ap (λ x. bytes_in x.done) h.back ∙ h.copied in
            (z.0 ++ f.unsent, sym k.packets ∙ ap (λ x. x ++ f.unsent) (z.1 ∙ ap (λ x. x ++ z.0) done) ∙ append_assoc c z.0 f.unsent));
        got = λ w r m f b k i.
            (let z = told_begins fw start m f b i in
            let c = k.chain in
            (bytes_in c.more ++ z.0, z.1 ∙ ap (λ x. x ++ z.0) (ap bytes_in c.told ∙ bytes_append c.before c.more ∙ ap (λ x. x ++ bytes_in c.more) c.bytes) ∙ append_assoc r (bytes_in c.more) z.0));
        hears = λ s c g m f b i h closed quiet. ap (λ x. m.word (page_word x 0)) (sym isf.tx_ring) ∙ all_heard fw start m f b s c g h i quiet closed;
      }

  fit_of : (es : List (PairEvent × ℕ)) → AreFit es → ends.Fit bw fw (Inv fw start) (Rest start) Sends Posts Polls Keeps Windowless Postless (Ready start) (Slept start) givens es
  fit_of [] h = tt
  fit_of (e ∷ es) h = (All-head (λ (x : PairEvent × ℕ). IsBytes x.0 × (x.1 < 2 ^ 64)) e es h, fit_of es (All-tail (λ (x : PairEvent × ℕ). IsBytes x.0 × (x.1 < 2 ^ 64)) e es h))

  opening_good : (s : FrontState) → IsNewFront s start → ends.Good bw fw (Inv fw start) (Rest start) Sends Posts Polls Keeps Windowless Postless (Ready start) (Slept start) givens (opening s start)
  opening_good s h =
      let z : start ≡ add32 start 0 = omega (arith, small) in (
        [],
        nothing_done,
        slept [] [] [],
        record {
          inv = opened fw start small isf.tx_ring isf.rx_ring;
          front = record {
            running = h.halt;
            tx = new_ring start s.tx (rests.id_of nothing_done) small h.tx h.tx_size;
            rx = new_ring start s.rx (λ n. 0) small h.rx h.rx_size;
            unsent = refl;
            window = refl;
            posting = refl;
            reading = refl;
            notes = refl;
            packets = refl;
            chain = record { before = []; more = []; told = refl; bytes = refl };
            got = refl;
          };
          back = record { answered = []; sent = []; posts = []; back = refl; copied = refl; gave = refl; between = record { tx = z; rx = z; running = refl } };
          running = refl;
          copies = (law.none, tt);
          sent = ([], refl);
        },
      )

  holds : (s : FrontState) → IsNewFront s start → (es : List (PairEvent × ℕ)) → AreFit es → Honest (run bw fw (opening s start) es)
  holds s h es fit =
      pairs.honest bw fw (Inv fw start) (Rest start) Sends Posts Polls Keeps Windowless Postless (Ready start) (Slept start) givens end_laws (run bw fw (opening s start) es)
      (pairs.run_stands bw fw (Inv fw start) (Rest start) Sends Posts Polls Keeps Windowless Postless (Ready start) (Slept start) givens end_laws (opening s start) es (fit_of es fit) (opening_good s h))

-- What holds of every list of events.
pub whole_law : PairLaw
whole_law accepted bw fw s start cons ib isf new small es fit = holds accepted bw fw start cons ib isf small s new es fit
