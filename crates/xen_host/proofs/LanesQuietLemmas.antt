-- What one of several turns makes before its program's run, or behind it, is reads, responses and their push.
use Rattle.std.proofs.Common.{◌≡◌, ◌≢◌, ℕ, zero, suc, ◌+◌, ◌-◌, ◌≤◌, ◌<◌, ◌/◌, ◌⊎◌, Bool, true, false, List, [], ◌∷◌, ◌++◌, length, drop, map, refl, sym, ap, ◌∙◌, subst, arith}
use Rattle.std.specs.Prelude.{not, nat_lt, Option, None, Some, Result, Ok, Err, if◌then◌else◌, sum_by}
use Rattle.std.specs.List.{list_all}
use mathlib.Core.Logic.{inl, inr, ⊎_elim}
use Rattle.std.proofs.lemmas.Bool.{and_from}
use Rattle.std.proofs.lemmas.Bool.Decides.{nat_tests}
use Rattle.xen_netif.specs.Chain.{Slot, extra_info}
use Rattle.xen_netif.specs.Fragments.{fragment_of, is_in_page, later_fragment, slot_size, split}
use Rattle.xen_netif.specs.Segments.{data_behind, offered_fragments, sized_if}
use Rattle.xen_netif.specs.Standing.{standing}
use Rattle.xen_netif.specs.declared.chain.ChainState.{ChainState}
use Rattle.xen_netif.specs.declared.chain.ChainState.TheVariants as wanted
use Rattle.xen_netif.specs.declared.fault.ChainFault.{ChainFault}
use Rattle.xen_netif.specs.declared.fault.SizeFault.TheVariants.{ShortPacket, LaterSizes, PastPage}
use Rattle.xen_netif.specs.declared.fragment.Fragment.{Fragment}
use Rattle.xen_netif.specs.Copy.{bytes_in}
use Rattle.xen_page.specs.Entry.{entry_of}
use Rattle.xen_page.specs.Grant.{checked}
use Rattle.xen_page.specs.Table.{entry_place}
use Rattle.xen_page.specs.declared.entry.Rights.TheVariants.{ReadOnly}
use Rattle.xen_page.specs.declared.fault.GrantFault.{GrantFault}
use Rattle.xen_page.specs.declared.place.Place.{Place}
use Rattle.xen_steps.specs.Drive.{Goes, LedBy}
use Rattle.xen_steps.specs.Event.{Event, Read, Write, Instr, Load, Add, Notify}
use Rattle.xen_steps.specs.Pages.{copy_words, covered}
use Rattle.xen_steps.specs.Places.{add32}
use Rattle.xen_steps.specs.Steps.{Steps, ask, bind, done, never}
use Rattle.xen_steps.specs.declared.want.Want.TheVariants as want
use Rattle.xen_rx_fill.specs.Entries.{entry_at}
use Rattle.xen_rx_fill.specs.Places.{tx_slot, tx_word}
use Rattle.xen_turns.specs.Rest.{fragment_at}
use Rattle.xen_turns.specs.Tree.{after_chain, after_copy, after_scan, answer, copy, entered, judged, read_event, read_slots}
use Rattle.xen_turns.specs.Turned.{Ending}
use Rattle.xen_turns.specs.Woven.{is_in_order, is_in_slot}
use Rattle.xen_turns.specs.declared.state.State.{State}
use Rattle.xen_turns.specs.declared.wiring.Wiring.{Wiring}
use Rattle.xen_host.specs.EngineAt.{WorkAt}
use Rattle.xen_host.specs.Lanes.{is_calm}
use Rattle.xen_host.specs.Quiet.{Calm, IsEventRead}
use Rattle.xen_host.specs.Rest.{reads_in, rest_in}
use Rattle.xen_host.specs.declared.stage.Stage.{Stage}
use Rattle.xen_host.specs.declared.stage.Stage.TheVariants as stage
use Rattle.xen_host.proofs.LanesHaltLemmas.{event_reads, reads_of}

-- ---- reads, responses, and their push

-- What came is calm; or it is but for the push at its end, and the event index is to be read.
abbrev pub IsCalmOrPushed : Wiring → List Event → Steps Ending → Type 0
IsCalmOrPushed w u s = (is_calm w u ≡ true) ⊎ ((t : List Event) × (v : ℕ) × (u ≡ t ++ Write (tx_word w.vif 2) v ∷ []) × (is_calm w t ≡ true) × IsEventRead w s)

-- one calm event more
more_calm : (w : Wiring) (e x : Event) (u : List Event) (s : Steps Ending) → e ≡ x → not (is_in_order w x) ≡ true → IsCalmOrPushed w u s → IsCalmOrPushed w (e ∷ u) s
more_calm w e x u s same free (inl c) = inl (ap (λ y. is_calm w (y ∷ u)) same ∙ and_from (not (is_in_order w x)) (is_calm w u) free c)
more_calm w e x u s same free (inr p) = inr (e ∷ p.0, p.1, ap (λ l. e ∷ l) p.2, ap (λ y. is_calm w (y ∷ p.0)) same ∙ and_from (not (is_in_order w x)) (is_calm w p.0) free p.3, p.4)

-- behind the push nothing comes without a read
event_read_stays : (w : Wiring) (s m : Steps Ending) (u : List Event) → IsEventRead w s → LedBy s u m → reads_of u ≤ 0 → (u ≡ []) × IsEventRead w m
event_read_stays w s m [] e g few = (refl, subst (λ q. IsEventRead w q) g e)
event_read_stays w s m (x ∷ u) e g few =
    let first : Goes (read_event w e.0 e.1 e.2) x g.0 = subst (λ q. Goes q x g.0) e.3 g.1 in
    let f = event_reads x (Read (tx_word w.vif 3) first.0) u first.1.1 in
    absurd (omega (arith, few, f))

in_slot : (b : Bool) → b ≡ true → not (not b) ≡ true
in_slot true h = refl
in_slot false h = cc h

pub calm_led : (w : Wiring) (n : ℕ) (s m : Steps Ending) (u : List Event) → Calm w n s → LedBy s u m → reads_of u ≤ n → IsCalmOrPushed w u m
calm_led w n s m [] c g few = inl refl
calm_led w n (done r) m (e ∷ u) c g few = absurd g.1.1
calm_led w zero (ask (want.Read at) k) m (e ∷ u) c g few = let f = event_reads e (Read at g.1.0) u g.1.1.1 in absurd (omega (arith, few, f))
calm_led w (suc n) (ask (want.Read at) k) m (e ∷ u) c g few =
    let f = event_reads e (Read at g.1.0) u g.1.1.1 in
    more_calm w e (Read at g.1.0) u m g.1.1.1 refl (calm_led w n (k g.1.0) m u (c g.1.0) (subst (λ q. LedBy q u m) g.1.2 g.2) (omega (arith, few, f)))
calm_led w n (ask (want.Write at v) k) m (e ∷ u) c g few =
    let f = event_reads e (Write at v) u g.1.1.1 in
    let rest = subst (λ q. LedBy q u m) g.1.2 g.2 in
    ⊎_elim (λ h. more_calm w e (Write at v) u m g.1.1.1 (in_slot (is_in_slot w at) h.0) (calm_led w n (k g.1.0) m u (h.1 g.1.0) rest (omega (arith, few, f))))
    (λ h.
    let left = event_read_stays w (k g.1.0) m u (h.2 g.1.0) rest (omega (arith, few, f, h.1)) in
    inr ([], v, ap (λ l. e ∷ l) left.0 ∙ ap (λ y. y ∷ []) (g.1.1.1 ∙ ap (λ p. Write p v) h.0), refl, left.1)) c
calm_led w n (ask want.Instr k) m (e ∷ u) c g few = absurd c
calm_led w n (ask (want.Load i j l) k) m (e ∷ u) c g few = absurd c
calm_led w n (ask (want.Add i j l delta) k) m (e ∷ u) c g few = absurd c
calm_led w n (ask (want.Notify port) k) m (e ∷ u) c g few = absurd c
calm_led w n (ask want.Done k) m (e ∷ u) c g few = absurd g.1.1
calm_led w n never m (e ∷ u) c g few = absurd g.1.1

-- ---- the stages

-- A slot's first word lies behind the header, in the tx ring's page.
slot_there : (w : Wiring) (i : ℕ) → is_in_slot w (tx_slot w.vif i 0) ≡ true
slot_there w i = grind (arith, nat_tests)

pub answer_calm : (w : Wiring) (t n i : ℕ) (rs : List ℕ) (e : Ending) → Calm w 0 (answer w t n i rs e)
answer_calm w t n i [] e = inr (refl, refl, λ a. (t, add32 t n, e, refl))
answer_calm w t n i (r ∷ rs) e = inl (slot_there w (add32 t i), λ a. answer_calm w t n (i + 1) rs e)

some_calm : (w : Wiring) (s : State) (chain : List Slot) (f : Fragment) (fs : List Fragment) (bytes : List ℕ) → Calm w 0 (bind (copy w (f ∷ fs) bytes) (after_copy w s chain))
some_calm w s chain f fs bytes = by (entry_place w.vif.table.now f.gref)
  where
    by : (o : Option Place) → Calm w 0 (bind (bind (entry_at w.vif ReadOnly o) (entered f (copy w fs) bytes)) (after_copy w s chain))
    by None = answer_calm w _ _ _ _ _
    by (Some at) = tt

sized_calm : (w : Wiring) (s : State) (chain : List Slot) (first : Slot) (o : Option (List Slot)) → Calm w 0 (after_chain w s chain (sized_if first o))
sized_calm w s chain first None = answer_calm w _ _ _ _ _
sized_calm w s chain first (Some later) = by (nat_lt (slot_size first) 14) (nat_lt (slot_size first) (sum_by slot_size later)) (list_all is_in_page (split first later))
  where
    by : (a b c : Bool) → Calm w 0 (after_chain w s chain (if a then Err ShortPacket else (if b then Err LaterSizes else (if c then Ok (split first later) else Err PastPage))))
    by true b c = answer_calm w _ _ _ _ _
    by false true c = answer_calm w _ _ _ _ _
    by false false true = some_calm w s chain (fragment_of first (slot_size first - sum_by slot_size later)) (map later_fragment later) []
    by false false false = answer_calm w _ _ _ _ _

pub chain_calm : (w : Wiring) (s : State) (first : Slot) (later : List Slot) → Calm w 0 (after_chain w s (first ∷ later) (offered_fragments w.offers (first ∷ later)))
chain_calm w s first later = sized_calm w s (first ∷ later) first (data_behind w.offers (extra_info first) first later)

pub slots_calm : (w : Wiring) (s : State) (left : ℕ) (chain : List Slot) → Calm w 0 (bind (read_slots w s.tx_index left chain) (after_scan w s))
slots_calm w s zero chain = tt
slots_calm w s (suc left) chain = tt

judged_calm : (w : Wiring) (s : State) (left : ℕ) (first : Slot) (later : List Slot) (o : Option (Result ChainState ChainFault)) →
    Calm w 0 (bind (judged (first ∷ later) o (read_slots w s.tx_index left (first ∷ later))) (after_scan w s))
judged_calm w s left first later (Some (Ok wanted.Complete)) = chain_calm w s first later
judged_calm w s left first later (Some (Ok wanted.Data)) = slots_calm w s left (first ∷ later)
judged_calm w s left first later (Some (Ok wanted.Extra)) = slots_calm w s left (first ∷ later)
judged_calm w s left first later (Some (Err fault)) = tt
judged_calm w s left first later None = tt

behind_calm : (w : Wiring) (s : State) (left : ℕ) (chain : List Slot) (slot : Slot) →
    Calm w 0 (bind (judged (chain ++ slot ∷ []) (standing (chain ++ slot ∷ [])) (read_slots w s.tx_index left (chain ++ slot ∷ []))) (after_scan w s))
behind_calm w s left [] slot = judged_calm w s left slot [] (standing (slot ∷ []))
behind_calm w s left (c ∷ chain) slot = judged_calm w s left c (chain ++ slot ∷ []) (standing (c ∷ (chain ++ slot ∷ [])))

-- a fragment with bytes
frame_calm : (w : Wiring) (s : State) (chain : List Slot) (fs : List Fragment) (f : Fragment) (bytes : List ℕ) (r : Result ℕ GrantFault) → covered f ≢ 0 →
    Calm w 0 (bind (entered f (copy w fs) bytes r) (after_copy w s chain))
frame_calm w s chain fs f bytes (Err fault) some = answer_calm w _ _ _ _ _
frame_calm w s chain fs f bytes (Ok frame) some = by (covered f) some
  where
    by : (n : ℕ) → n ≢ 0 → Calm w 0 (bind (bind (copy_words f frame (f.offset / 4) n bytes) (copy w fs)) (after_copy w s chain))
    by zero h = absurd (h refl)
    by (suc n) h = tt

words_calm : (w : Wiring) (s : State) (chain : List Slot) (f : Fragment) (g : Fragment) (fs : List Fragment) (frame place n : ℕ) (bytes : List ℕ) →
    Calm w n (bind (bind (copy_words f frame place n bytes) (copy w (g ∷ fs))) (after_copy w s chain))
words_calm w s chain f g fs frame place zero bytes = some_calm w s chain g fs bytes
words_calm w s chain f g fs frame place (suc n) bytes = λ v. words_calm w s chain f g fs frame (place + 1) n (bytes ++ bytes_in f place v)

pub drop_some : (i : ℕ) (l : List Fragment) → i < length l → (f : Fragment) × (r : List Fragment) × (drop i l ≡ f ∷ r)
drop_some i [] h = absurd (omega (arith, h))
drop_some zero (f ∷ l) h = (f, l, refl)
drop_some (suc i) (f ∷ l) h = drop_some i l (omega (arith, h))

-- A step from such a stage runs no program: it reads a slot, an entry of a fragment with bytes, or a page that isn't the last; or it responds.
abbrev pub RunsNone : Stage → WorkAt → Type 0
RunsNone (stage.Slot left) b = Unit {0}
RunsNone (stage.Entry i at) b = covered (fragment_at b.fragments i) ≢ 0
RunsNone (stage.Page i f frame) b = i < length b.fragments
RunsNone (stage.Respond i) b = Unit {0}
RunsNone g b = ⊥

pub rest_calm : (w : Wiring) (s : State) (g : Stage) (b : WorkAt) → RunsNone g b → Calm w (reads_in g) (rest_in w s g b)
rest_calm w s (stage.Slot left) b h = λ x y z. behind_calm w s left b.chain (x ∷ y ∷ z ∷ [])
rest_calm w s (stage.Entry i at) b h = λ x y. frame_calm w s b.chain (drop (i + 1) b.fragments) (fragment_at b.fragments i) b.packet (checked w.vif.owners.now w.vif.granter w.vif.user (entry_of x y) ReadOnly) h
rest_calm w s (stage.Page i f frame) b h =
    let d = drop_some i b.fragments h in
    subst (λ fs. Calm w (covered f) (bind (bind (copy_words f frame (f.offset / 4) (covered f) b.packet) (copy w fs)) (after_copy w s b.chain))) (sym d.2)
    (words_calm w s b.chain f d.0 d.1 frame (f.offset / 4) (covered f) b.packet)
rest_calm w s (stage.Respond i) b h = answer_calm w _ _ _ _ _
rest_calm w s stage.Ready b h = absurd h
rest_calm w s stage.Announce b h = absurd h
rest_calm w s (stage.Fill f p) b h = absurd h
rest_calm w s stage.Push b h = absurd h
rest_calm w s stage.Notice b h = absurd h
rest_calm w s (stage.Deliver producer) b h = absurd h
rest_calm w s (stage.Wait pages) b h = absurd h
rest_calm w s (stage.WaitLook pages) b h = absurd h
rest_calm w s stage.Several b h = absurd h
