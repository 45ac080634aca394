-- Deeds, one more at the end: the copies of turns, and what is given.
use Rattle.std.proofs.Common.{◌≡◌, ℕ, refl, sym, ◌∙◌, ap, subst, Bool, true, false, List, [], ◌∷◌, ◌++◌, Option, Some}
use Rattle.std.specs.Prelude.{if◌then◌else◌, flat_map}
use Rattle.std.proofs.lemmas.List.{append-nil, append_assoc}
use Rattle.xen_turns.specs.Turned.{Idle, Ran, Refused}
use Rattle.xen_turns.specs.declared.delivery.wait.Awaited.{Awaited}
use Rattle.xen_turns.specs.declared.delivery.delivering.Delivery.{Delivery}
use Rattle.xen_turns.specs.declared.turn.PacketRefusal.TheVariants as refusal
use Rattle.honest_pair.specs.Machine.Law.{AllArrived, HasArrived, HasLooked, HaveCopies, none, idle, ran, few, given_by}
use Rattle.honest_pair.specs.Machine.Pair.{Deed, OfTurn, OfDelivery, OfWait, Past, turns_of}

abbrev pub Packets : Type 0
Packets = List (List ℕ)

-- what is over: the copies of the turns, each delivery with its packet in posted buffers or with nothing done, and the waits
abbrev pub Done : List Deed → Packets → Type 0
Done ds c = HaveCopies (turns_of ds) c × AllArrived ds

pub turns_turn : (ds : List Deed) (x : Past) → turns_of (ds ++ OfTurn x ∷ []) ≡ turns_of ds ++ x ∷ []
turns_turn [] x = refl
turns_turn (OfTurn y ∷ ds) x = ap (λ l. y ∷ l) (turns_turn ds x)
turns_turn (OfDelivery packet what ∷ ds) x = turns_turn ds x
turns_turn (OfWait pages answer ∷ ds) x = turns_turn ds x

pub turns_delivery : (ds : List Deed) (packet : List ℕ) (what : Delivery) → turns_of (ds ++ OfDelivery packet what ∷ []) ≡ turns_of ds
turns_delivery [] packet what = refl
turns_delivery (OfTurn y ∷ ds) packet what = ap (λ l. y ∷ l) (turns_delivery ds packet what)
turns_delivery (OfDelivery p w ∷ ds) packet what = turns_delivery ds packet what
turns_delivery (OfWait pages answer ∷ ds) packet what = turns_delivery ds packet what

pub turns_wait : (ds : List Deed) (pages : ℕ) (answer : Awaited) → turns_of (ds ++ OfWait pages answer ∷ []) ≡ turns_of ds
turns_wait [] pages answer = refl
turns_wait (OfTurn y ∷ ds) pages answer = ap (λ l. y ∷ l) (turns_wait ds pages answer)
turns_wait (OfDelivery p w ∷ ds) pages answer = turns_wait ds pages answer
turns_wait (OfWait n a ∷ ds) pages answer = turns_wait ds pages answer

arrived_turn : (ds : List Deed) (x : Past) → AllArrived ds → AllArrived (ds ++ OfTurn x ∷ [])
arrived_turn [] x h = tt
arrived_turn (OfTurn y ∷ ds) x h = arrived_turn ds x h
arrived_turn (OfDelivery packet what ∷ ds) x h = (h.0, arrived_turn ds x h.1)
arrived_turn (OfWait pages answer ∷ ds) x h = (h.0, arrived_turn ds x h.1)

arrived_delivery : (ds : List Deed) (packet : List ℕ) (what : Delivery) → AllArrived ds → HasArrived what → AllArrived (ds ++ OfDelivery packet what ∷ [])
arrived_delivery [] packet what h a = (a, tt)
arrived_delivery (OfTurn y ∷ ds) packet what h a = arrived_delivery ds packet what h a
arrived_delivery (OfDelivery p w ∷ ds) packet what h a = (h.0, arrived_delivery ds packet what h.1 a)
arrived_delivery (OfWait pages answer ∷ ds) packet what h a = (h.0, arrived_delivery ds packet what h.1 a)

arrived_wait : (ds : List Deed) (pages : ℕ) (answer : Awaited) → AllArrived ds → HasLooked answer → AllArrived (ds ++ OfWait pages answer ∷ [])
arrived_wait [] pages answer h a = (a, tt)
arrived_wait (OfTurn y ∷ ds) pages answer h a = arrived_wait ds pages answer h a
arrived_wait (OfDelivery p w ∷ ds) pages answer h a = (h.0, arrived_wait ds pages answer h.1 a)
arrived_wait (OfWait n b ∷ ds) pages answer h a = (h.0, arrived_wait ds pages answer h.1 a)

pub done_turn : (ds : List Deed) (x : Past) (c c' : Packets) → ((ps : List Past) → HaveCopies ps c → HaveCopies (ps ++ x ∷ []) c') → Done ds c → Done (ds ++ OfTurn x ∷ []) c'
done_turn ds x c c' f h = (subst (λ l. HaveCopies l c') (sym (turns_turn ds x)) (f (turns_of ds) h.0), arrived_turn ds x h.1)

pub done_delivery : (ds : List Deed) (packet : List ℕ) (what : Delivery) (c : Packets) → HasArrived what → Done ds c → Done (ds ++ OfDelivery packet what ∷ []) c
done_delivery ds packet what c a h = (subst (λ l. HaveCopies l c) (sym (turns_delivery ds packet what)) h.0, arrived_delivery ds packet what h.1 a)

pub done_wait : (ds : List Deed) (pages : ℕ) (answer : Awaited) (c : Packets) → HasLooked answer → Done ds c → Done (ds ++ OfWait pages answer ∷ []) c
done_wait ds pages answer c a h = (subst (λ l. HaveCopies l c) (sym (turns_wait ds pages answer)) h.0, arrived_wait ds pages answer h.1 a)

pub given_more : (ds : List Deed) (x : Deed) → flat_map given_by (ds ++ x ∷ []) ≡ flat_map given_by ds ++ given_by x
given_more [] x = append-nil (given_by x)
given_more (y ∷ ds) x = ap (λ z. given_by y ++ z) (given_more ds x) ∙ sym (append_assoc (given_by y) (flat_map given_by ds) (given_by x))

pub ran_given : (b : Bool) (g : Packets) (packet : List ℕ) → (if b then g ++ packet ∷ [] else g) ≡ g ++ (if b then packet ∷ [] else [])
ran_given true g packet = refl
ran_given false g packet = sym (append-nil g)

pub copies_idle : (ps : List Past) (c : Packets) (o : Option (List ℕ)) → HaveCopies ps c → HaveCopies (ps ++ record { turn = Idle; copy = o } ∷ []) c
copies_idle _ _ o none = idle o [] [] none
copies_idle _ _ o (idle x ps c h) = idle x (ps ++ record { turn = Idle; copy = o } ∷ []) c (copies_idle ps c o h)
copies_idle _ _ o (ran n packet copy ops k ps c h) = ran n packet copy ops k (ps ++ record { turn = Idle; copy = o } ∷ []) c (copies_idle ps c o h)
copies_idle _ _ o (few copy ops k ps c h) = few copy ops k (ps ++ record { turn = Idle; copy = o } ∷ []) c (copies_idle ps c o h)

pub copies_ran : (ps : List Past) (c : Packets) (n : ℕ) (packet copy : List ℕ) (ops k : ℕ) → HaveCopies ps c →
    HaveCopies (ps ++ record { turn = Ran n packet ops k; copy = Some copy } ∷ []) (c ++ copy ∷ [])
copies_ran _ _ n packet copy ops k none = ran n packet copy ops k [] [] none
copies_ran _ _ n packet copy ops k (idle x ps c h) = idle x (ps ++ record { turn = Ran n packet ops k; copy = Some copy } ∷ []) (c ++ copy ∷ []) (copies_ran ps c n packet copy ops k h)
copies_ran _ _ n packet copy ops k (ran n' packet' copy' ops' k' ps c h) =
    ran n' packet' copy' ops' k' (ps ++ record { turn = Ran n packet ops k; copy = Some copy } ∷ []) (c ++ copy ∷ []) (copies_ran ps c n packet copy ops k h)
copies_ran _ _ n packet copy ops k (few copy' ops' k' ps c h) =
    few copy' ops' k' (ps ++ record { turn = Ran n packet ops k; copy = Some copy } ∷ []) (c ++ copy ∷ []) (copies_ran ps c n packet copy ops k h)

pub copies_few : (ps : List Past) (c : Packets) (copy : List ℕ) (ops k : ℕ) → HaveCopies ps c →
    HaveCopies (ps ++ record { turn = Refused refusal.FewSlots ops k; copy = Some copy } ∷ []) (c ++ copy ∷ [])
copies_few _ _ copy ops k none = few copy ops k [] [] none
copies_few _ _ copy ops k (idle x ps c h) = idle x (ps ++ record { turn = Refused refusal.FewSlots ops k; copy = Some copy } ∷ []) (c ++ copy ∷ []) (copies_few ps c copy ops k h)
copies_few _ _ copy ops k (ran n' packet' copy' ops' k' ps c h) =
    ran n' packet' copy' ops' k' (ps ++ record { turn = Refused refusal.FewSlots ops k; copy = Some copy } ∷ []) (c ++ copy ∷ []) (copies_few ps c copy ops k h)
copies_few _ _ copy ops k (few copy' ops' k' ps c h) =
    few copy' ops' k' (ps ++ record { turn = Refused refusal.FewSlots ops k; copy = Some copy } ∷ []) (c ++ copy ∷ []) (copies_few ps c copy ops k h)
