-- Histories of counters by the operations among events, and what a host of ops is asked.
use Rattle.std.proofs.Common.{◌≡◌, ℕ, zero, suc, ◌≤◌, List, [], ◌∷◌, ◌++◌, false, Option, Some, None, refl, sym, ap, ◌∙◌, subst, map, take, length, arith, append-nil}
use Rattle.bpf_note.specs.Shape.{Shape}
use Rattle.bpf_note.specs.declared.op.Op.{Op as Operation}
use Rattle.bpf_note.specs.declared.op.Op.TheVariants as operation
use Rattle.xdp_program.specs.Ran.{IsHistory}
use Rattle.xdp_program.specs.Tallies.{DidInWords, HasWords, Went}
use Rattle.xdp_program.specs.declared.tallies.CounterWords.{CounterWords}
use Rattle.xdp_program.proofs.TallyLemmas.{history_length, history_of as history_in_words}
use Rattle.xen_steps.specs.Event.{Event}
use Rattle.xen_turns.specs.Drive.{labels}
use Rattle.xen_turns.specs.Program.{event_of}
use Rattle.xen_host.specs.Asks.{Ask, IsSized, Read, Entry, Write, Store, StoreTwo, Push, Notify, TurnOver, DeliveryOver, WaitOver, did_all, did_by, is_over, read_by, writes_at}
use Rattle.xen_host.proofs.TraceLemmas.{did_none, effects, labels_append, map_append, read_all, write_all}

pub history_of : (shapes : List Shape) (ls : List (Option Operation)) (before after : List ℕ) → IsHistory shapes ls before after → IsHistory shapes (map Some (labels (map event_of ls))) before after
history_of shapes [] before after h = h
history_of shapes (None ∷ ls) before after h = history_of shapes ls before after h
history_of shapes (Some (operation.Load m k j v) ∷ ls) before after h = (h.0, h.1, history_of shapes ls before after h.2)
history_of shapes (Some (operation.Add m k j delta old) ∷ ls) before after h = (h.0, h.1, history_of shapes ls _ after h.2)

history_then : (shapes : List Shape) (one more : List (Option Operation)) (a b c : List ℕ) → IsHistory shapes one a b → IsHistory shapes more b c → IsHistory shapes (one ++ more) a c
history_then shapes [] more a b c g h = subst (λ x. IsHistory shapes more x c) (sym g) h
history_then shapes (None ∷ one) more a b c g h = history_then shapes one more a b c g h
history_then shapes (Some (operation.Load m k j v) ∷ one) more a b c g h = (g.0, g.1, history_then shapes one more a b c g.2 h)
history_then shapes (Some (operation.Add m k j delta old) ∷ one) more a b c g h = (g.0, g.1, history_then shapes one more _ b c g.2 h)

pub history_append : (shapes : List Shape) (t u : List Event) (a b c : List ℕ) → IsHistory shapes (map Some (labels t)) a b → IsHistory shapes (map Some (labels u)) b c →
    IsHistory shapes (map Some (labels (t ++ u))) a c
history_append shapes t u a b c g h =
    subst (λ l. IsHistory shapes l a c) (sym (ap (λ l. map Some l) (labels_append t u) ∙ map_append (labels t) (labels u))) (history_then shapes (map Some (labels t)) (map Some (labels u)) a b c g h)

-- events with no operation leave the counters as they are
pub history_none : (shapes : List Shape) (t : List Event) (a : List ℕ) → labels t ≡ [] → IsHistory shapes (map Some (labels t)) a a
history_none shapes t a e = subst (λ l. IsHistory shapes (map Some l) a a) (sym e) refl

-- words that were enough are enough
pub words_enough : (shapes : List Shape) (labels : List (Option Operation)) (before after : CounterWords) → HasWords shapes before → Went (DidInWords shapes) before after labels → HasWords shapes after
words_enough shapes labels before after enough went =
    let same = history_length shapes labels before.words.now after.words.now (history_in_words shapes labels before after went) in
    omega (arith, enough, same)

-- ---- what a host of ops is asked

pub all_none : (first : List Ask) (lent : List ℕ) → labels (did_all first lent) ≡ []
all_none [] lent = refl
all_none (a ∷ more) lent = labels_append (did_by a lent) (did_all more lent) ∙ ap (λ l. l ++ labels (did_all more lent)) (did_none a lent) ∙ all_none more lent

pub labels_none : (t u : List Event) → labels t ≡ [] → labels u ≡ [] → labels (t ++ u) ≡ []
labels_none t u e f = labels_append t u ∙ ap (λ l. l ++ labels u) e ∙ f

some_taken : (n : ℕ) (words : List ℕ) → 1 ≤ n → 1024 ≤ length words → 1 ≤ length (take n words)
some_taken zero words h k = absurd (omega (arith, h))
some_taken (suc n) [] h k = absurd (omega (arith, k))
some_taken (suc n) (w ∷ words) h k = omega arith

-- what a host is asked is something
pub some_effect : (a : Ask) (lent read : List ℕ) → is_over a ≡ false → IsSized a → 1024 ≤ length lent → 1024 ≤ length read → 1 ≤ effects (did_by a lent ++ read_by a read)
some_effect (Read at count) lent read o s l r =
    let e = read_all at (take count read) in
    let k = some_taken count read s.0 r in
    omega (arith, e, k)
some_effect (Entry at reference rights) lent read o s l r =
    let e = read_all at (take 2 read) in
    let k = some_taken 2 read (omega arith) r in
    omega (arith, e, k)
some_effect (Write at count) lent read o s l r =
    let e = write_all at (take count lent) in
    let k = some_taken count lent s.0 l in
    let a = ap effects (append-nil (writes_at at (take count lent))) in
    omega (arith, e, k, a)
some_effect (Store at word) lent read o s l r = omega arith
some_effect (StoreTwo at first second) lent read o s l r = omega arith
some_effect (Push at word read) lent words o s l r = omega arith
some_effect (Notify port) lent read o s l r = omega arith
some_effect (TurnOver x) lent read o s l r = absurd (cc o)
some_effect (DeliveryOver x) lent read o s l r = absurd (cc o)
some_effect (WaitOver x) lent read o s l r = absurd (cc o)
