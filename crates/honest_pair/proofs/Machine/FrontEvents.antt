-- The front's events keep what stands.
use Rattle.std.proofs.Common.{◌≡◌, ℕ, ◌<◌, ◌^◌, refl, sym, ◌∙◌, ap, subst, List, [], ◌∷◌, ◌++◌, All, None, Result, Ok, Err}
use Rattle.std.specs.Prelude.{flat_map}
use Rattle.std.proofs.lemmas.List.{append_assoc}
use Rattle.xen_steps.specs.Steps.{Steps, done, ask, never}
use Rattle.xen_steps.specs.declared.want.Want.{Want}
use Rattle.xen_steps.specs.declared.want.Want.TheVariants as want
use Rattle.xen_turns.specs.declared.state.State.{State as BackState}
use Rattle.xen_turns.specs.declared.wiring.Wiring.{Wiring as BackWiring}
use Rattle.xen_buffers.specs.declared.wiring.FrontWiring.{FrontWiring}
use Rattle.xen_front.specs.Given.{Ending as FrontEnding}
use Rattle.xen_front.specs.Tree.{poll}
use Rattle.xen_front.specs.declared.state.FrontState.{FrontState}
use Rattle.xen_front.specs.declared.turn.PollRefusal.{PollRefusal}
use Rattle.xen_front.specs.declared.turn.PostRefusal.{PostRefusal}
use Rattle.xen_front.specs.declared.turn.SendRefusal.{SendRefusal}
use Rattle.honest_pair.specs.Machine.Law.{IsByte, IsPosting, IsSending, given_by}
use Rattle.honest_pair.specs.Machine.Memory.{Memory, after, answer}
use Rattle.honest_pair.specs.Machine.Pair.{Activity, Free, Sending, Posting, Polling, BackAt, Pair, sending, posting, polling, send_result, post_result, poll_result, send_tree, post_tree, begin_send, begin_post, begin_poll, on_send, on_post, on_poll, on_front}
use Rattle.honest_pair.specs.Machine.Safe.{Safe}
use Rattle.honest_pair.specs.declared.awaits.Awaits.{Awaits}
use Rattle.honest_pair.proofs.Machine.Deeds.{Done, Packets}
use Rattle.honest_pair.proofs.Machine.EndLaws as ends

-- an event of the front asks for nothing
after_awaits : (v : Want) (m : Memory) → (after v m).awaits ≡ m.awaits
after_awaits (want.Read at) m = refl
after_awaits (want.Write at x) m = refl
after_awaits want.Instr m = refl
after_awaits (want.Load i k j) m = refl
after_awaits (want.Add i k j delta) m = refl
after_awaits (want.Notify port) m = refl
after_awaits want.Done m = refl

-- The names are those of the ends' laws.
module _ (bw : BackWiring) (fw : FrontWiring) {Front Back : Type 0} (Inv : Memory → Front → Back → Type 0)
    (Rest : FrontState → Packets → Packets → Front → Type 0) (Sendings Posts Polls Says : Packets → Packets → Front → Type 0) (Windowless Postless : Front → Type 0)
    (Ready Slept : BackState → Packets → Packets → Back → Type 0) (givens : Back → Packets) where
  abbrev FrontEnd : Packets → Packets → Front → FrontEnding → Type 0
  FrontEnd = ends.FrontEnd bw fw Inv Rest Sendings Posts Polls Says Windowless Postless Ready Slept givens

  abbrev FrontStands : Activity → FrontState → Packets → Packets → Front → Type 0
  FrontStands = ends.FrontStands bw fw Inv Rest Sendings Posts Polls Says Windowless Postless Ready Slept givens

  abbrev BackStands : BackAt → BackState → Packets → Packets → Back → Awaits → Type 0
  BackStands = ends.BackStands bw fw Inv Rest Sendings Posts Polls Says Windowless Postless Ready Slept givens

  abbrev Good : Pair → Type 0
  Good = ends.Good bw fw Inv Rest Sendings Posts Polls Says Windowless Postless Ready Slept givens

  abbrev EndLaws : Type 0
  EndLaws = ends.EndLaws bw fw Inv Rest Sendings Posts Polls Says Windowless Postless Ready Slept givens

  abbrev Stands : Pair → Packets → Front → Back → Type 0
  Stands = ends.Stands bw fw Inv Rest Sendings Posts Polls Says Windowless Postless Ready Slept givens

  module _ (l : EndLaws) where
    pub says : (a : Activity) (s : FrontState) (w r : Packets) (f : Front) → FrontStands a s w r f → Says w r f
    says Free s w r f h = (l.rest_says s w r f h).0
    says (Sending t) s w r f h = (l.sending_says w r f h.0).0
    says (Posting t) s w r f h = (l.post_says w r f h.0).0
    says (Polling t) s w r f h = (l.poll_says w r f h.0).0

    pub no_window : (a : Activity) (s : FrontState) (w r : Packets) (f : Front) → (IsSending a → ⊥) → FrontStands a s w r f → Windowless f
    no_window Free s w r f n h = (l.rest_says s w r f h).1
    no_window (Sending t) s w r f n h = absurd (n (t, refl))
    no_window (Posting t) s w r f n h = (l.post_says w r f h.0).1
    no_window (Polling t) s w r f n h = (l.poll_says w r f h.0).1

    pub no_post : (a : Activity) (s : FrontState) (w r : Packets) (f : Front) → (IsPosting a → ⊥) → FrontStands a s w r f → Postless f
    no_post Free s w r f n h = (l.rest_says s w r f h).2
    no_post (Sending t) s w r f n h = (l.sending_says w r f h.0).1
    no_post (Posting t) s w r f n h = absurd (n (t, refl))
    no_post (Polling t) s w r f n h = (l.poll_says w r f h.0).2

    pub no_halt : (a : Activity) (s : FrontState) (w r : Packets) (f : Front) → FrontStands a s w r f → s.halt ≡ None
    no_halt Free s w r f h = l.running s w r f h
    no_halt (Sending t) s w r f h = h.2
    no_halt (Posting t) s w r f h = h.2
    no_halt (Polling t) s w r f h = h.2

    -- the front's activities
    sent_stands : (p : Pair) (c : Packets) (f : Front) (b : Back) (t : Steps FrontEnding) → Inv p.memory f b → Sendings p.sent p.received f →
        Safe Inv (Sendings p.sent p.received) (FrontEnd p.sent p.received) f t → p.front.halt ≡ None → BackStands p.at p.back c (flat_map given_by p.deeds) b p.memory.awaits → p.back.halt ≡ None →
        Done p.deeds c → ((more : Packets) × (p.sent ≡ c ++ more)) → Good (sending p t)
    sent_stands p c f b (done e) i k h n r q v u = (c, f, b, record { inv = i; front = h; back = r; running = q; copies = v; sent = u })
    sent_stands p c f b (ask w g) i k h n r q v u = (c, f, b, record { inv = i; front = (k, h, n); back = r; running = q; copies = v; sent = u })
    sent_stands p c f b never i k h n r q v u = absurd h

    posted_stands : (p : Pair) (c : Packets) (f : Front) (b : Back) (t : Steps FrontEnding) → Inv p.memory f b → Posts p.sent p.received f →
        Safe Inv (Posts p.sent p.received) (FrontEnd p.sent p.received) f t → p.front.halt ≡ None → BackStands p.at p.back c (flat_map given_by p.deeds) b p.memory.awaits → p.back.halt ≡ None →
        Done p.deeds c → ((more : Packets) × (p.sent ≡ c ++ more)) → Good (posting p t)
    posted_stands p c f b (done e) i k h n r q v u = (c, f, b, record { inv = i; front = h; back = r; running = q; copies = v; sent = u })
    posted_stands p c f b (ask w g) i k h n r q v u = (c, f, b, record { inv = i; front = (k, h, n); back = r; running = q; copies = v; sent = u })
    posted_stands p c f b never i k h n r q v u = absurd h

    polled_stands : (p : Pair) (c : Packets) (f : Front) (b : Back) (t : Steps FrontEnding) → Inv p.memory f b → Polls p.sent p.received f →
        Safe Inv (Polls p.sent p.received) (FrontEnd p.sent p.received) f t → p.front.halt ≡ None → BackStands p.at p.back c (flat_map given_by p.deeds) b p.memory.awaits → p.back.halt ≡ None →
        Done p.deeds c → ((more : Packets) × (p.sent ≡ c ++ more)) → Good (polling p t)
    polled_stands p c f b (done e) i k h n r q v u = (c, f, b, record { inv = i; front = h; back = r; running = q; copies = v; sent = u })
    polled_stands p c f b (ask w g) i k h n r q v u = (c, f, b, record { inv = i; front = (k, h, n); back = r; running = q; copies = v; sent = u })
    polled_stands p c f b never i k h n r q v u = absurd h

    free : (p : Pair) (f : Front) → p.activity ≡ Free → FrontStands p.activity p.front p.sent p.received f → Rest p.front p.sent p.received f
    free p f a h = subst (λ x. FrontStands x p.front p.sent p.received f) a h

    begun_send : (p : Pair) (bytes : List ℕ) (c : Packets) (f : Front) (b : Back) (r : Result (Unit {0}) SendRefusal) → send_result p.front bytes ≡ r → All IsByte bytes → p.activity ≡ Free →
        Stands p c f b → Good (begin_send fw r p bytes)
    begun_send p bytes c f b (Ok u) e q a g =
        let rest = free p f a g.front in
        let z = l.begin_send p.front p.sent p.received bytes f rest e q p.memory b g.inv in
        sent_stands (record p { sent = p.sent ++ bytes ∷ [] }) c z.0 b (send_tree fw p.front bytes) z.1 z.2 z.3 (l.running p.front p.sent p.received f rest) g.back g.running g.copies
        (g.sent.0 ++ bytes ∷ [], ap (λ x. x ++ bytes ∷ []) g.sent.1 ∙ append_assoc c g.sent.0 (bytes ∷ []))
    begun_send p bytes c f b (Err x) e q a g = (c, f, b, g)

    begun_post : (p : Pair) (c : Packets) (f : Front) (b : Back) (r : Result (Unit {0}) PostRefusal) → post_result p.front ≡ r → p.activity ≡ Free → Stands p c f b → Good (begin_post fw r p)
    begun_post p c f b (Ok u) e a g =
        let rest = free p f a g.front in
        let z = l.begin_post p.front p.sent p.received f rest e in
        posted_stands p c f b (post_tree fw p.front) g.inv z.0 z.1 (l.running p.front p.sent p.received f rest) g.back g.running g.copies g.sent
    begun_post p c f b (Err x) e a g = (c, f, b, g)

    begun_poll : (p : Pair) (c : Packets) (f : Front) (b : Back) (r : Result (Unit {0}) PollRefusal) → poll_result p.front ≡ r → p.activity ≡ Free → Stands p c f b → Good (begin_poll fw r p)
    begun_poll p c f b (Ok u) e a g =
        let rest = free p f a g.front in
        let z = l.begin_poll p.front p.sent p.received f rest e in
        polled_stands p c f b (poll fw p.front) g.inv z.0 z.1 (l.running p.front p.sent p.received f rest) g.back g.running g.copies g.sent
    begun_poll p c f b (Err x) e a g = (c, f, b, g)

    pub send_stands : (p : Pair) (bytes : List ℕ) (c : Packets) (f : Front) (b : Back) (a : Activity) → p.activity ≡ a → All IsByte bytes → Stands p c f b → Good (on_send fw a p bytes)
    send_stands p bytes c f b Free a q g = begun_send p bytes c f b (send_result p.front bytes) refl q a g
    send_stands p bytes c f b (Sending t) a q g = (c, f, b, g)
    send_stands p bytes c f b (Posting t) a q g = (c, f, b, g)
    send_stands p bytes c f b (Polling t) a q g = (c, f, b, g)

    pub post_stands : (p : Pair) (c : Packets) (f : Front) (b : Back) (a : Activity) → p.activity ≡ a → Stands p c f b → Good (on_post fw a p)
    post_stands p c f b Free a g = begun_post p c f b (post_result p.front) refl a g
    post_stands p c f b (Sending t) a g = (c, f, b, g)
    post_stands p c f b (Posting t) a g = (c, f, b, g)
    post_stands p c f b (Polling t) a g = (c, f, b, g)

    pub poll_stands : (p : Pair) (c : Packets) (f : Front) (b : Back) (a : Activity) → p.activity ≡ a → Stands p c f b → Good (on_poll fw a p)
    poll_stands p c f b Free a g = begun_poll p c f b (poll_result p.front) refl a g
    poll_stands p c f b (Sending t) a g = (c, f, b, g)
    poll_stands p c f b (Posting t) a g = (c, f, b, g)
    poll_stands p c f b (Polling t) a g = (c, f, b, g)

    back_kept : (p : Pair) (c : Packets) (b : Back) (v : Want) → BackStands p.at p.back c (flat_map given_by p.deeds) b p.memory.awaits →
        BackStands p.at p.back c (flat_map given_by p.deeds) b (after v p.memory).awaits
    back_kept p c b v h = subst (BackStands p.at p.back c (flat_map given_by p.deeds) b) (sym (after_awaits v p.memory)) h

    pub front_stands : (p : Pair) (n : ℕ) (c : Packets) (f : Front) (b : Back) (a : Activity) → p.activity ≡ a → n < 2 ^ 64 → Stands p c f b → Good (on_front a p n)
    front_stands p n c f b Free a s g = (c, f, b, g)
    front_stands p n c f b (Sending (done e)) a s g = (c, f, b, g)
    front_stands p n c f b (Sending never) a s g = (c, f, b, g)
    front_stands p n c f b (Sending (ask w k)) a s g =
        let h : FrontStands (Sending (ask w k)) p.front p.sent p.received f = subst (λ x. FrontStands x p.front p.sent p.received f) a g.front in
        let r = h.1 p.memory b g.inv in
        sent_stands (record p { memory = after w p.memory }) c r.0 b (k (answer w p.memory n)) r.1 r.2 (r.3 n s) h.2 (back_kept p c b w g.back) g.running g.copies g.sent
    front_stands p n c f b (Posting (done e)) a s g = (c, f, b, g)
    front_stands p n c f b (Posting never) a s g = (c, f, b, g)
    front_stands p n c f b (Posting (ask w k)) a s g =
        let h : FrontStands (Posting (ask w k)) p.front p.sent p.received f = subst (λ x. FrontStands x p.front p.sent p.received f) a g.front in
        let r = h.1 p.memory b g.inv in
        posted_stands (record p { memory = after w p.memory }) c r.0 b (k (answer w p.memory n)) r.1 r.2 (r.3 n s) h.2 (back_kept p c b w g.back) g.running g.copies g.sent
    front_stands p n c f b (Polling (done e)) a s g = (c, f, b, g)
    front_stands p n c f b (Polling never) a s g = (c, f, b, g)
    front_stands p n c f b (Polling (ask w k)) a s g =
        let h : FrontStands (Polling (ask w k)) p.front p.sent p.received f = subst (λ x. FrontStands x p.front p.sent p.received f) a g.front in
        let r = h.1 p.memory b g.inv in
        polled_stands (record p { memory = after w p.memory }) c r.0 b (k (answer w p.memory n)) r.1 r.2 (r.3 n s) h.2 (back_kept p c b w g.back) g.running g.copies g.sent
