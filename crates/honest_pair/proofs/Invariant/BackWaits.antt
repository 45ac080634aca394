-- A wait for rx slots keeps the invariant, and no notice of posts is lost.
use Rattle.std.proofs.Common.{◌≡◌, ℕ, ◌+◌, ◌-◌, ◌*◌, ◌^◌, ◌<◌, ◌≤◌, inl, inr, Bool, true, false, List, [], ◌++◌, length, Some, refl, sym, ◌∙◌, ap, arith, subst}
use Rattle.std.specs.Prelude.{nat_lt}
use Rattle.std.proofs.lemmas.Bool.{ltb-true}
use Rattle.xen_turns.specs.declared.state.State.{State}
use Rattle.xen_buffers.specs.declared.wiring.FrontWiring.{FrontWiring}
use Rattle.xen_ring.specs.Index.{distance}
use Rattle.xen_steps.specs.Places.{add32, available, page_word}
use Rattle.honest_pair.specs.Invariant.Backs.{AskLaw, ForgetLaw, LookLaw, ToldLaw}
use Rattle.honest_pair.specs.Invariant.Ended.{Between, Resting, resting, slept}
use Rattle.honest_pair.specs.Invariant.Ghosts.{Sent, Front, Back, slots, piece, rx_given, tx_answered, tx_sent}
use Rattle.honest_pair.specs.Invariant.Inv.{Inv, IsAsked, IsShort, RxHead, Told}
use Rattle.honest_pair.specs.Machine.Memory.{Memory, put}
use Rattle.honest_pair.specs.declared.awaits.Awaits.{Awaits}
use Rattle.honest_pair.specs.declared.awaits.Awaits.TheVariants as awaits
use Rattle.honest_pair.proofs.Invariant.BackGroups.{tx_put, rx_put, tx_head_put, reading_put, notes_put, fronts_rx}
use Rattle.honest_pair.proofs.Invariant.BackRings.{given_bound, given_small, got_bound, sent_bound}
use Rattle.honest_pair.proofs.Invariant.Lists.{nil_right, small_ids}
use Rattle.honest_pair.proofs.Invariant.Puts.{available_of, put_apart, put_same}

-- the store of the event index
pub asks : AskLaw
asks w start y asleep s c g b r pages m f h =
    let v = add32 s.rx_index pages in
    let sb = sent_bound w start m f b h in
    let gb = given_bound w start m f b h in
    let ob = got_bound w start m f b h in
    let c1 = h.tx.took in let t = h.tx.told in let e = h.tx.wrote in let u = h.tx.used in
    record {
      tx = h.tx;
      tx_head = tx_head_put w start m.word w.rx_frame 1 v (tx_sent f) (tx_answered b) b.event (λ n q1 q2. absurd (y.rings q2)) h.tx_head;
      tx_slots = tx_put w start m.word w.rx_frame 1 v (slots f.sent) f.taken (tx_answered b) (tx_answered b + b.wrote) (tx_answered b + b.used) y.rx_ring (small_ids f.sent h.tx.good)
          (omega (arith, c1, t)) (omega (arith, c1, t)) (omega (arith, sb, e, u)) (λ n o2 q1 q2 q3 q4 q5. absurd (y.rings q5)) h.tx_slots;
      rx = h.rx;
      rx_head = record {
        req_prod = put_apart m.word (page_word w.rx_frame 1) v (page_word w.rx_frame 0) (λ q1 q2. omega (arith, q2)) ∙ h.rx_head.req_prod;
        event = put_same m.word (page_word w.rx_frame 1) v;
        rsp_prod = put_apart m.word (page_word w.rx_frame 1) v (page_word w.rx_frame 2) (λ q1 q2. omega (arith, q2)) ∙ h.rx_head.rsp_prod;
      };
      rx_slots = rx_put w start m.word w.rx_frame 1 v f.posts (slots (b.given ++ b.giving)) f.got (rx_given b) (rx_given b + b.rx_used) (2 * rx_given b + b.rx_wrote) b.filled y.rx_ring h.rx.ids
          (omega (arith, ob)) gb (λ n o2 q1 q2 q3 q4 q5 q6. omega (arith, q6))
          (λ n o2 q1 q2 q3 q4 q5 q6. y.rx_ring_rx (piece (slots (b.given ++ b.giving)) n).id (given_small w start m f b h n q2) q5) h.rx_slots;
      reading = λ x q. reading_put w start m.word w.rx_frame 1 v f x (y.rx_ring_rx x.id (h.reading x q).id) (h.reading x q);
      front_notes = notes_put w start m.word w.rx_frame 1 v f (fronts_rx w start y f 1 (λ n o2 q1 q2 q3 q4. omega (arith, q4))) h.front_notes;
      heard = h.heard;
      awaited = tt;
    }

-- where a back between turns is on the rx ring
rx_at : (start : ℕ) (asleep : Bool) (s : State) (c g : List (List ℕ)) (b : Back) → Resting asleep start s c g b → s.rx_index ≡ add32 start (rx_given b)
rx_at start true s c g b r = r.between.rx ∙ ap (λ x. add32 start (length (slots x.given))) (sym r.back)
rx_at start false s c g b r = r.between.rx ∙ ap (λ x. add32 start (length (slots x.given))) (sym r.back)

rx_room : (w : FrontWiring) (start : ℕ) (m : Memory) (f : Front) (b : Back) → Inv w start m f b → (rx_given b ≤ length f.posts) × (length f.posts ≤ rx_given b + 256)
rx_room w start m f b h =
    let o = got_bound w start m f b h in
    let room = h.rx.room in
    let used = h.rx.used in
    let known = Rattle.honest_pair.proofs.Invariant.BackRings.posts_bound w start m f b h in
    (omega (arith, used, known), omega (arith, o, room))

-- behind the event index fewer are posted
fewer : (w : FrontWiring) (start : ℕ) (m : Memory) (f : Front) (b : Back) (index pages : ℕ) → Inv w start m f b → m.awaits ≡ awaits.Asked index pages → IsShort w start m.pending (length f.posts) f.posting index pages →
    Inv w start (record m { awaits = awaits.Fewer index pages }) f b
fewer w start m f b index pages h e short =
    let word : m.word (page_word w.rx_frame 1) ≡ add32 index pages = subst (IsAsked w start m.word) e h.rx_head.event in
    record {
      tx = h.tx;
      tx_head = h.tx_head;
      tx_slots = h.tx_slots;
      rx = h.rx;
      rx_head = record { req_prod = h.rx_head.req_prod; event = word; rsp_prod = h.rx_head.rsp_prod };
      rx_slots = h.rx_slots;
      reading = h.reading;
      front_notes = h.front_notes;
      heard = h.heard;
      awaited = short;
    }

-- the read of the producer
pub looks : LookLaw
looks w start small asleep s c g b r pages m f h e =
    let x = rx_given b in
    let room = rx_room w start m f b h in
    let low = room.0 in let high = room.1 in
    let at = rx_at start asleep s c g b r in
    let seen : available s.rx_index (m.word (page_word w.rx_frame 0)) ≡ Some (length f.posts - x) =
    ap (λ i. available i (m.word (page_word w.rx_frame 0))) at ∙ ap (available (add32 start x)) h.rx_head.req_prod ∙ available_of start x (length f.posts) small low high in (
      length f.posts - x,
      seen,
      λ less. (let few = ltb-true (length f.posts - x) pages less in
          fewer w start m f b s.rx_index pages h e (record { at = x; is = at; past = low; told = inr (inl (omega (arith, few, low))) })),
    )

pub forgets : ForgetLaw
forgets w start m f b h = record {
  tx = h.tx;
  tx_head = h.tx_head;
  tx_slots = h.tx_slots;
  rx = h.rx;
  rx_head = record { req_prod = h.rx_head.req_prod; event = tt; rsp_prod = h.rx_head.rsp_prod };
  rx_slots = h.rx_slots;
  reading = h.reading;
  front_notes = h.front_notes;
  heard = h.heard;
  awaited = tt;
}

pub tells : ToldLaw
tells w start m f b index pages h closed e quiet =
    let short : IsShort w start m.pending (length f.posts) f.posting index pages = subst (Told w start m.pending (length f.posts) f.posting) e h.awaited in
    let past = short.past in
    let few : length f.posts < short.at + pages = elim short.told [
      | inl p ↦ (let bad : true ≡ false = sym p ∙ quiet in absurd (cc))
      | inr q ↦ elim q [ inl less ↦ less | inr opened ↦ (let bad : true ≡ false = sym opened.0 ∙ closed in absurd (cc)) ]
    ] in
    let gap : distance index (m.word (page_word w.rx_frame 0)) ≤ length f.posts - short.at = apart start short.at (length f.posts) index (m.word (page_word w.rx_frame 0)) short.is h.rx_head.req_prod past in
    omega (arith, gap, few, past)
  where
    apart : (st i j index word : ℕ) → index ≡ add32 st i → word ≡ add32 st j → i ≤ j → distance index word ≤ j - i
    apart st i j index word p q le = omega (arith, p, q, le)
