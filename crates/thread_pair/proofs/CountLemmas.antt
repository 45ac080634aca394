-- What a row counts of one turn more, and of its answer.
use Rattle.std.proofs.Common.{◌≡◌, ◌∙◌, ◌+◌, ◌≤◌, List, ◌∷◌, None, Some, length, ap, sym, refl, arith}
use Rattle.std.specs.Prelude.{Bool, true, false, cond, count_by}
use Rattle.std.proofs.lemmas.List.Sums.{count_by-le-length, sum_by-cons}
use Rattle.xen_turns.specs.Turned.{Turned, Idle, Ran, Refused, Halted, Shows}
use Rattle.xen_turns.specs.declared.delivery.delivering.Delivery.{Delivery}
use Rattle.xen_turns.specs.declared.delivery.delivering.Delivery.TheVariants as delivery
use Rattle.xen_turns.specs.declared.turn.Halt.{Halt}
use Rattle.xen_turns.specs.declared.turn.Turn.{Turn}
use Rattle.xen_turns.specs.declared.turn.Turn.TheVariants as shown
use Rattle.thread_pair.specs.Answering.{reply, shown_reply, answer_to}
use Rattle.thread_pair.specs.Rounds.{IsRest, Round, counted, delivered, halt_in, is_few, is_lost, is_refusal, is_run, is_sent, next_after, next_of, slots_by, slots_in, with_delivery, with_turn}
use Rattle.thread_pair.specs.declared.host.OnPass.{OnPass}
use Rattle.thread_pair.specs.declared.host.OnPass.TheVariants as host
use Rattle.thread_pair.specs.declared.next.Next.{Next}
use Rattle.thread_pair.specs.declared.next.Next.TheVariants as next
use Rattle.thread_pair.specs.declared.report.BackRow.{BackRow}
use Rattle.thread_pair.specs.declared.report.Deliveries.{Deliveries}

count_cons : (p : Round → Bool) (r : Round) (rs : List Round) → count_by p (r ∷ rs) ≡ cond (p r) 1 0 + count_by p rs
count_cons p r rs = sum_by-cons (λ (x : Round). cond (p x) 1 0) r rs

-- a round that isn't counted, one that is, and two that count alike
none_more : (p : Round → Bool) (r : Round) (rs : List Round) → p r ≡ false → count_by p rs ≡ count_by p (r ∷ rs)
none_more p r rs e =
    let c = count_cons p r rs in
    let f : cond (p r) 1 0 + count_by p rs ≡ 0 + count_by p rs = ap (λ (b : Bool). cond b 1 0 + count_by p rs) e in
    omega (arith, c, f)

one_more : (p : Round → Bool) (r : Round) (rs : List Round) → p r ≡ true → count_by p rs + 1 ≡ count_by p (r ∷ rs)
one_more p r rs e =
    let c = count_cons p r rs in
    let f : cond (p r) 1 0 + count_by p rs ≡ 1 + count_by p rs = ap (λ (b : Bool). cond b 1 0 + count_by p rs) e in
    omega (arith, c, f)

as_many : (p : Round → Bool) (r s : Round) (rs : List Round) → p r ≡ p s → count_by p (r ∷ rs) ≡ count_by p (s ∷ rs)
as_many p r s rs e = count_cons p r rs ∙ (ap (λ (b : Bool). cond b 1 0 + count_by p rs) e ∙ sym (count_cons p s rs))

abbrev runs : Round → Bool
runs r = is_run r.0

abbrev refusals : Round → Bool
refusals r = is_refusal r.0

abbrev sends : Round → Bool
sends r = is_sent r.1

abbrev fews : Round → Bool
fews r = is_few r.1

abbrev losses : Round → Bool
losses r = is_lost r.1

same_deliveries : (a b : Deliveries) → a.sent ≡ b.sent → a.few ≡ b.few → a.refused ≡ b.refused → a ≡ b
same_deliveries a b p q r = (λ i. record { sent = p i; few = q i; refused = r i })

same_row : (a b : BackRow) → a.copied ≡ b.copied → a.refused ≡ b.refused → a.halted ≡ b.halted → a.deliveries ≡ b.deliveries → a ≡ b
same_row a b p q r s = (λ i. record { copied = p i; refused = q i; halted = r i; deliveries = s i })

-- a turn without an answer delivers nothing
no_more : (u : Turned) (rs : List Round) → delivered rs ≡ delivered ((u, None) ∷ rs)
no_more u rs = same_deliveries (delivered rs) (delivered ((u, None) ∷ rs)) (none_more sends (u, None) rs refl) (none_more fews (u, None) rs refl) (none_more losses (u, None) rs refl)

-- the row of one turn more
pub counts_more : (u : Turned) (rs : List Round) (s : Turn) (row : BackRow) → Shows u s → row ≡ counted rs → with_turn s row ≡ counted ((u, None) ∷ rs)
counts_more Idle rs shown.Idle row h is =
    same_row row (counted ((Idle, None) ∷ rs)) (ap (λ (r : BackRow). r.copied) is ∙ none_more runs (Idle, None) rs refl) (ap (λ (r : BackRow). r.refused) is ∙ none_more refusals (Idle, None) rs refl)
    (ap (λ (r : BackRow). r.halted) is) (ap (λ (r : BackRow). r.deliveries) is ∙ no_more Idle rs)
counts_more (Ran number packet ops slots) rs (shown.Ran a n b o k) row h is =
    let u = Ran number packet ops slots in
    same_row (record row { copied = row.copied + 1 }) (counted ((u, None) ∷ rs)) (ap (λ (r : BackRow). r.copied + 1) is ∙ one_more runs (u, None) rs refl)
    (ap (λ (r : BackRow). r.refused) is ∙ none_more refusals (u, None) rs refl) (ap (λ (r : BackRow). r.halted) is) (ap (λ (r : BackRow). r.deliveries) is ∙ no_more u rs)
counts_more (Refused cause ops slots) rs (shown.Refused c o k) row h is =
    let u = Refused cause ops slots in
    same_row (record row { refused = row.refused + 1 }) (counted ((u, None) ∷ rs)) (ap (λ (r : BackRow). r.copied) is ∙ none_more runs (u, None) rs refl)
    (ap (λ (r : BackRow). r.refused + 1) is ∙ one_more refusals (u, None) rs refl) (ap (λ (r : BackRow). r.halted) is) (ap (λ (r : BackRow). r.deliveries) is ∙ no_more u rs)
counts_more (Halted cause) rs (shown.Halted c) row h is =
    let u = Halted cause in
    same_row (record row { halted = Some c }) (counted ((u, None) ∷ rs)) (ap (λ (r : BackRow). r.copied) is ∙ none_more runs (u, None) rs refl)
    (ap (λ (r : BackRow). r.refused) is ∙ none_more refusals (u, None) rs refl) (ap (λ (x : Halt). Some x) h) (ap (λ (r : BackRow). r.deliveries) is ∙ no_more u rs)
counts_more Idle rs (shown.Ran a n b o k) row h is = absurd h
counts_more Idle rs (shown.Refused c o k) row h is = absurd h
counts_more Idle rs (shown.Halted c) row h is = absurd h
counts_more (Ran number packet ops slots) rs shown.Idle row h is = absurd h
counts_more (Ran number packet ops slots) rs (shown.Refused c o k) row h is = absurd h
counts_more (Ran number packet ops slots) rs (shown.Halted c) row h is = absurd h
counts_more (Refused cause ops slots) rs shown.Idle row h is = absurd h
counts_more (Refused cause ops slots) rs (shown.Ran a n b o k) row h is = absurd h
counts_more (Refused cause ops slots) rs (shown.Halted c) row h is = absurd h
counts_more (Halted cause) rs shown.Idle row h is = absurd h
counts_more (Halted cause) rs (shown.Ran a n b o k) row h is = absurd h
counts_more (Halted cause) rs (shown.Refused c o k) row h is = absurd h

-- a row is that of these rounds, but for what became of the last answer
as_before : (u : Turned) (d : Delivery) (rs : List Round) (row new : BackRow) → row ≡ counted ((u, None) ∷ rs) → new.copied ≡ row.copied → new.refused ≡ row.refused →
    new.halted ≡ halt_in ((u, Some d) ∷ rs) → new.deliveries ≡ delivered ((u, Some d) ∷ rs) → new ≡ counted ((u, Some d) ∷ rs)
as_before u d rs row new is c f h s =
    same_row new (counted ((u, Some d) ∷ rs)) (c ∙ (ap (λ (r : BackRow). r.copied) is ∙ as_many runs (u, None) (u, Some d) rs refl))
    (f ∙ (ap (λ (r : BackRow). r.refused) is ∙ as_many refusals (u, None) (u, Some d) rs refl)) h s

-- what a row counts no delivery of, it leaves
untold : (u : Turned) (d : Delivery) (rs : List Round) (row : BackRow) → row ≡ counted ((u, None) ∷ rs) → is_sent (Some d) ≡ false → is_few (Some d) ≡ false → is_lost (Some d) ≡ false →
    row.deliveries ≡ delivered ((u, Some d) ∷ rs)
untold u d rs row is s f l =
    ap (λ (r : BackRow). r.deliveries) is ∙ (sym (no_more u rs)
    ∙ same_deliveries (delivered rs) (delivered ((u, Some d) ∷ rs)) (none_more sends (u, Some d) rs s) (none_more fews (u, Some d) rs f) (none_more losses (u, Some d) rs l))

-- the row of the answer to the last turn
pub counts_answer : (u : Turned) (d : Delivery) (rs : List Round) (row : BackRow) → row ≡ counted ((u, None) ∷ rs) → with_delivery d row ≡ counted ((u, Some d) ∷ rs)
counts_answer u (delivery.Sent slots) rs row is =
    let d = delivery.Sent slots in
    let s : row.deliveries ≡ delivered rs = ap (λ (r : BackRow). r.deliveries) is ∙ sym (no_more u rs) in
    as_before u d rs row (record row { deliveries = record row.deliveries { sent = row.deliveries.sent + 1 } }) is refl refl (ap (λ (r : BackRow). r.halted) is)
    (same_deliveries (record row.deliveries { sent = row.deliveries.sent + 1 }) (delivered ((u, Some d) ∷ rs)) (ap (λ (x : Deliveries). x.sent + 1) s ∙ one_more sends (u, Some d) rs refl)
    (ap (λ (x : Deliveries). x.few) s ∙ none_more fews (u, Some d) rs refl) (ap (λ (x : Deliveries). x.refused) s ∙ none_more losses (u, Some d) rs refl))
counts_answer u delivery.FewSlots rs row is =
    let d = delivery.FewSlots in
    let s : row.deliveries ≡ delivered rs = ap (λ (r : BackRow). r.deliveries) is ∙ sym (no_more u rs) in
    as_before u d rs row (record row { deliveries = record row.deliveries { few = row.deliveries.few + 1 } }) is refl refl (ap (λ (r : BackRow). r.halted) is)
    (same_deliveries (record row.deliveries { few = row.deliveries.few + 1 }) (delivered ((u, Some d) ∷ rs)) (ap (λ (x : Deliveries). x.sent) s ∙ none_more sends (u, Some d) rs refl)
    (ap (λ (x : Deliveries). x.few + 1) s ∙ one_more fews (u, Some d) rs refl) (ap (λ (x : Deliveries). x.refused) s ∙ none_more losses (u, Some d) rs refl))
counts_answer u (delivery.Refused slots) rs row is =
    let d = delivery.Refused slots in
    let s : row.deliveries ≡ delivered rs = ap (λ (r : BackRow). r.deliveries) is ∙ sym (no_more u rs) in
    as_before u d rs row (record row { deliveries = record row.deliveries { refused = row.deliveries.refused + 1 } }) is refl refl (ap (λ (r : BackRow). r.halted) is)
    (same_deliveries (record row.deliveries { refused = row.deliveries.refused + 1 }) (delivered ((u, Some d) ∷ rs)) (ap (λ (x : Deliveries). x.sent) s ∙ none_more sends (u, Some d) rs refl)
    (ap (λ (x : Deliveries). x.few) s ∙ none_more fews (u, Some d) rs refl) (ap (λ (x : Deliveries). x.refused + 1) s ∙ one_more losses (u, Some d) rs refl))
counts_answer u (delivery.Halted cause) rs row is =
    let d = delivery.Halted cause in
    as_before u d rs row (record row { halted = Some cause }) is refl refl refl (untold u d rs row is refl refl refl)
counts_answer u delivery.NoFrame rs row is =
    let d = delivery.NoFrame in
    as_before u d rs row row is refl refl (ap (λ (r : BackRow). r.halted) is) (untold u d rs row is refl refl refl)
counts_answer u delivery.NotAccepted rs row is =
    let d = delivery.NotAccepted in
    as_before u d rs row row is refl refl (ap (λ (r : BackRow). r.halted) is) (untold u d rs row is refl refl refl)

-- a row counts no more than there are rounds
pub counts_few : (rs : List Round) (row : BackRow) → row ≡ counted rs →
    (row.copied ≤ length rs) × (row.refused ≤ length rs) × (row.deliveries.sent ≤ length rs) × (row.deliveries.few ≤ length rs) × (row.deliveries.refused ≤ length rs)
counts_few rs row is =
    let c : row.copied ≡ count_by runs rs = ap (λ (r : BackRow). r.copied) is in
    let f : row.refused ≡ count_by refusals rs = ap (λ (r : BackRow). r.refused) is in
    let s : row.deliveries.sent ≡ count_by sends rs = ap (λ (r : BackRow). r.deliveries.sent) is in
    let n : row.deliveries.few ≡ count_by fews rs = ap (λ (r : BackRow). r.deliveries.few) is in
    let l : row.deliveries.refused ≡ count_by losses rs = ap (λ (r : BackRow). r.deliveries.refused) is in
    let c' = count_by-le-length runs rs in
    let f' = count_by-le-length refusals rs in
    let s' = count_by-le-length sends rs in
    let n' = count_by-le-length fews rs in
    let l' = count_by-le-length losses rs in
    (omega (arith, c, c'), omega (arith, f, f'), omega (arith, s, s'), omega (arith, n, n'), omega (arith, l, l'))

-- what is sent because of a turn is what the host that sees it sends
pub reply_shown : (h : OnPass) (u : Turned) (s : Turn) → Shows u s → shown_reply h s ≡ reply h u
reply_shown host.Takes u s h = refl
reply_shown host.Answers Idle shown.Idle h = refl
reply_shown host.Answers (Ran number packet ops slots) (shown.Ran a n b o k) h = ap (λ x. answer_to x b.now) h.0 ∙ ap (answer_to _) h.2
reply_shown host.Answers (Refused cause ops slots) (shown.Refused c o k) h = refl
reply_shown host.Answers (Halted cause) (shown.Halted c) h = refl
reply_shown host.Answers Idle (shown.Ran a n b o k) h = absurd h
reply_shown host.Answers Idle (shown.Refused c o k) h = absurd h
reply_shown host.Answers Idle (shown.Halted c) h = absurd h
reply_shown host.Answers (Ran number packet ops slots) shown.Idle h = absurd h
reply_shown host.Answers (Ran number packet ops slots) (shown.Refused c o k) h = absurd h
reply_shown host.Answers (Ran number packet ops slots) (shown.Halted c) h = absurd h
reply_shown host.Answers (Refused cause ops slots) shown.Idle h = absurd h
reply_shown host.Answers (Refused cause ops slots) (shown.Ran a n b o k) h = absurd h
reply_shown host.Answers (Refused cause ops slots) (shown.Halted c) h = absurd h
reply_shown host.Answers (Halted cause) shown.Idle h = absurd h
reply_shown host.Answers (Halted cause) (shown.Ran a n b o k) h = absurd h
reply_shown host.Answers (Halted cause) (shown.Refused c o k) h = absurd h

-- what a host that sees a turn does next, and how many slots it has seen answered
pub next_shown : (u : Turned) (s : Turn) → Shows u s → next_of s ≡ next_after u
next_shown Idle shown.Idle h = refl
next_shown (Ran number packet ops slots) (shown.Ran a n b o k) h = refl
next_shown (Refused cause ops slots) (shown.Refused c o k) h = refl
next_shown (Halted cause) (shown.Halted c) h = refl
next_shown Idle (shown.Ran a n b o k) h = absurd h
next_shown Idle (shown.Refused c o k) h = absurd h
next_shown Idle (shown.Halted c) h = absurd h
next_shown (Ran number packet ops slots) shown.Idle h = absurd h
next_shown (Ran number packet ops slots) (shown.Refused c o k) h = absurd h
next_shown (Ran number packet ops slots) (shown.Halted c) h = absurd h
next_shown (Refused cause ops slots) shown.Idle h = absurd h
next_shown (Refused cause ops slots) (shown.Ran a n b o k) h = absurd h
next_shown (Refused cause ops slots) (shown.Halted c) h = absurd h
next_shown (Halted cause) shown.Idle h = absurd h
next_shown (Halted cause) (shown.Ran a n b o k) h = absurd h
next_shown (Halted cause) (shown.Refused c o k) h = absurd h

pub slots_shown : (u : Turned) (s : Turn) → Shows u s → slots_in s ≡ slots_by u
slots_shown Idle shown.Idle h = refl
slots_shown (Ran number packet ops slots) (shown.Ran a n b o k) h = h.4
slots_shown (Refused cause ops slots) (shown.Refused c o k) h = h.2
slots_shown (Halted cause) (shown.Halted c) h = refl
slots_shown Idle (shown.Ran a n b o k) h = absurd h
slots_shown Idle (shown.Refused c o k) h = absurd h
slots_shown Idle (shown.Halted c) h = absurd h
slots_shown (Ran number packet ops slots) shown.Idle h = absurd h
slots_shown (Ran number packet ops slots) (shown.Refused c o k) h = absurd h
slots_shown (Ran number packet ops slots) (shown.Halted c) h = absurd h
slots_shown (Refused cause ops slots) shown.Idle h = absurd h
slots_shown (Refused cause ops slots) (shown.Ran a n b o k) h = absurd h
slots_shown (Refused cause ops slots) (shown.Halted c) h = absurd h
slots_shown (Halted cause) shown.Idle h = absurd h
slots_shown (Halted cause) (shown.Ran a n b o k) h = absurd h
slots_shown (Halted cause) (shown.Refused c o k) h = absurd h

-- a turn after which the queue rests, or ends
pub rest_after : (u : Turned) (n : Next) → n ≡ next_after u → n ≡ next.Rests → IsRest u
rest_after Idle n after is = tt
rest_after (Halted cause) n after is = tt
rest_after (Ran number packet ops slots) n after is = let e : next.Goes ≡ next.Rests = sym after ∙ is in absurd (cc)
rest_after (Refused cause ops slots) n after is = let e : next.Goes ≡ next.Rests = sym after ∙ is in absurd (cc)

pub end_after : (u : Turned) (n : Next) → n ≡ next_after u → n ≡ next.Ends → IsRest u
end_after Idle n after is = tt
end_after (Halted cause) n after is = tt
end_after (Ran number packet ops slots) n after is = let e : next.Goes ≡ next.Ends = sym after ∙ is in absurd (cc)
end_after (Refused cause ops slots) n after is = let e : next.Goes ≡ next.Ends = sym after ∙ is in absurd (cc)
