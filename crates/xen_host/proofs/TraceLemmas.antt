-- Events one after another: their accesses, the operations among them, and how many they are.
use Rattle.std.proofs.Common.{◌≡◌, ℕ, zero, suc, ◌+◌, ◌≤◌, List, [], ◌∷◌, ◌++◌, false, Option, Some, None, refl, sym, ap, ◌∙◌, subst, map, take, length, arith, append-nil, append_assoc, length-append}
use Rattle.bpf_note.specs.declared.op.Op.{Op as Operation}
use Rattle.bpf_note.specs.declared.op.Op.TheVariants as operation
use Rattle.xdp_program.specs.Tallies.{Went}
use Rattle.xen_page.specs.Mapping.{frame_place}
use Rattle.xen_page.specs.declared.place.Place.{Place}
use Rattle.xen_steps.specs.Drive.{accesses, notices_in}
use Rattle.xen_steps.specs.Event.{Event}
use Rattle.xen_steps.specs.Event as event
use Rattle.xen_steps.specs.Places.{page_word}
use Rattle.xen_steps.proofs.DriveLemmas.{accesses-append}
use Rattle.xen_turns.specs.Drive.{label_of, labels}
use Rattle.xen_turns.specs.Program.{event_of}
use Rattle.xen_host.specs.Asks.{Ask, IsSized, Read, Entry, Write, Store, StoreTwo, Push, Notify, TurnOver, DeliveryOver, WaitOver, did_all, did_by, read_by, reads_at, writes_at}
use Rattle.xen_host.specs.Asks.{is_over}
use Rattle.xen_host.specs.Going.{Counted}

pub labels_append : (t u : List Event) → labels (t ++ u) ≡ labels t ++ labels u
labels_append [] u = refl
labels_append (x ∷ t) u = ap (λ l. label_of x ++ l) (labels_append t u) ∙ sym (append_assoc (label_of x) (labels t) (labels u))

-- ---- a host does no operation of a counter

read_none : (at : Place) (words : List ℕ) → labels (reads_at at words) ≡ []
read_none at [] = refl
read_none at (v ∷ vs) = read_none (frame_place at) vs

write_none : (at : Place) (words : List ℕ) → labels (writes_at at words) ≡ []
write_none at [] = refl
write_none at (v ∷ vs) = write_none (frame_place at) vs

pub did_none : (a : Ask) (lent : List ℕ) → labels (did_by a lent) ≡ []
did_none (Read at count) lent = refl
did_none (Entry at reference rights) lent = refl
did_none (Write at count) lent = write_none at (take count lent)
did_none (Store at word) lent = refl
did_none (StoreTwo at first second) lent = refl
did_none (Push at word read) lent = refl
did_none (Notify port) lent = refl
did_none (TurnOver x) lent = refl
did_none (DeliveryOver x) lent = refl
did_none (WaitOver x) lent = refl

pub all_none : (first : List Ask) (lent : List ℕ) → labels (did_all first lent) ≡ []
all_none [] lent = refl
all_none (a ∷ more) lent = labels_append (did_by a lent) (did_all more lent) ∙ ap (λ l. l ++ labels (did_all more lent)) (did_none a lent) ∙ all_none more lent

pub read_by_none : (a : Ask) (lent : List ℕ) → labels (read_by a lent) ≡ []
read_by_none (Read at count) lent = read_none at (take count lent)
read_by_none (Entry at reference rights) lent = read_none at (take 2 lent)
read_by_none (Write at count) lent = refl
read_by_none (Store at word) lent = refl
read_by_none (StoreTwo at first second) lent = refl
read_by_none (Push at word read) lent = read_none (page_word at.frame read) (take 1 lent)
read_by_none (Notify port) lent = refl
read_by_none (TurnOver x) lent = refl
read_by_none (DeliveryOver x) lent = refl
read_by_none (WaitOver x) lent = refl

pub labels_none : (t u : List Event) → labels t ≡ [] → labels u ≡ [] → labels (t ++ u) ≡ []
labels_none t u e f = labels_append t u ∙ ap (λ l. l ++ labels u) e ∙ f

-- ---- a program's events

-- a program touches no page
pub program_none : (ls : List (Option Operation)) → accesses (map event_of ls) ≡ []
program_none [] = refl
program_none (None ∷ ls) = program_none ls
program_none (Some (operation.Load m k j v) ∷ ls) = program_none ls
program_none (Some (operation.Add m k j delta old) ∷ ls) = program_none ls

pub counted_of : {C : Type 0} (did : Operation → C → C → Type 0) (ls : List (Option Operation)) (before after : C) → Went did before after ls → Counted did (map event_of ls) before after
counted_of did [] before after h = h
counted_of did (None ∷ ls) before after h = counted_of did ls before after h
counted_of did (Some (operation.Load m k j v) ∷ ls) before after h = (h.0, h.1, counted_of did ls h.0 after h.2)
counted_of did (Some (operation.Add m k j delta old) ∷ ls) before after h = (h.0, h.1, counted_of did ls h.0 after h.2)

pub map_append : (a b : List Operation) → map Some (a ++ b) ≡ map Some a ++ map Some b
map_append [] b = refl
map_append (x ∷ a) b = ap (λ l. Some x ∷ l) (map_append a b)

went_then : {C : Type 0} (did : Operation → C → C → Type 0) (one more : List (Option Operation)) (a b c : C) → Went did a b one → Went did b c more → Went did a c (one ++ more)
went_then did [] more a b c g h = subst (λ x. Went did x c more) (sym g) h
went_then did (None ∷ one) more a b c g h = went_then did one more a b c g h
went_then did (Some x ∷ one) more a b c g h = (g.0, g.1, went_then did one more g.0 b c g.2 h)

pub counted_append : {C : Type 0} (did : Operation → C → C → Type 0) (t u : List Event) (a b c : C) → Counted did t a b → Counted did u b c → Counted did (t ++ u) a c
counted_append did t u a b c g h =
    subst (λ l. Went did a c l) (sym (ap (λ l. map Some l) (labels_append t u) ∙ map_append (labels t) (labels u))) (went_then did (map Some (labels t)) (map Some (labels u)) a b c g h)

-- events with no operation leave the counters as they are
pub counted_none : {C : Type 0} (did : Operation → C → C → Type 0) (t : List Event) (a : C) → labels t ≡ [] → Counted did t a a
counted_none did t a e = subst (λ l. Went did a a (map Some l)) (sym e) refl

-- ---- how many accesses and notices

abbrev pub effects : List Event → ℕ
effects t = length (accesses t) + notices_in t

notices_append : (t u : List Event) → notices_in (t ++ u) ≡ notices_in t + notices_in u
notices_append [] u = omega arith
notices_append (event.Read at a ∷ t) u = notices_append t u
notices_append (event.Write at v ∷ t) u = notices_append t u
notices_append (event.Instr ∷ t) u = notices_append t u
notices_append (event.Load m k j v ∷ t) u = notices_append t u
notices_append (event.Add m k j delta old ∷ t) u = notices_append t u
notices_append (event.Notify port ∷ t) u = let e = notices_append t u in omega (arith, e)

pub effects_append : (t u : List Event) → effects (t ++ u) ≡ effects t + effects u
effects_append t u =
    let a : length (accesses (t ++ u)) ≡ length (accesses t) + length (accesses u) = ap (λ l. length l) (accesses-append t u) ∙ length-append (accesses t) (accesses u) in
    let n = notices_append t u in
    omega (arith, a, n)

pub read_all : (at : Place) (words : List ℕ) → effects (reads_at at words) ≡ length words + notices_in (reads_at at words)
read_all at [] = omega arith
read_all at (v ∷ vs) = let e = read_all (frame_place at) vs in omega (arith, e)

pub write_all : (at : Place) (words : List ℕ) → effects (writes_at at words) ≡ length words + notices_in (writes_at at words)
write_all at [] = omega arith
write_all at (v ∷ vs) = let e = write_all (frame_place at) vs in omega (arith, e)

some_taken : (n : ℕ) (words : List ℕ) → 1 ≤ n → 1024 ≤ length words → 1 ≤ length (take n words)
some_taken zero words h k = absurd (omega (arith, h))
some_taken (suc n) [] h k = absurd (omega (arith, k))
some_taken (suc n) (w ∷ words) h k = omega arith

-- what a host is asked is something
pub some_effect : (a : Ask) (lent read : List ℕ) → is_over a ≡ false → IsSized a → 1024 ≤ length lent → 1024 ≤ length read → 1 ≤ effects (did_by a lent ++ read_by a read)
some_effect (Read at count) lent read o s l r =
    let e = read_all at (take count read) in
    let k = some_taken count read s.0 r in
    omega (arith, e, k)
some_effect (Entry at reference rights) lent read o s l r =
    let e = read_all at (take 2 read) in
    let k = some_taken 2 read (omega arith) r in
    omega (arith, e, k)
some_effect (Write at count) lent read o s l r =
    let e = write_all at (take count lent) in
    let k = some_taken count lent s.0 l in
    let a = ap effects (append-nil (writes_at at (take count lent))) in
    omega (arith, e, k, a)
some_effect (Store at word) lent read o s l r = omega arith
some_effect (StoreTwo at first second) lent read o s l r = omega arith
some_effect (Push at word read) lent words o s l r = omega arith
some_effect (Notify port) lent read o s l r = omega arith
some_effect (TurnOver x) lent read o s l r = absurd (cc o)
some_effect (DeliveryOver x) lent read o s l r = absurd (cc o)
some_effect (WaitOver x) lent read o s l r = absurd (cc o)
