-- What operations make of words, and of a seat.
use Rattle.std.proofs.Common.{◌≡◌, ◌∙◌, ◌<◌, ◌≤◌, ◌+◌, ◌%◌, ◌^◌, ℕ, List, [], ◌∷◌, ◌++◌, None, Some, length, length-set, set, sym, ap, subst, arith}
use Rattle.std.proofs.lemmas.List.{append_assoc, append-nil}
use Rattle.std.specs.Prelude.{Option}
use Rattle.bpf_note.specs.Shape.{Shape, IsCounter}
use Rattle.bpf_note.specs.declared.op.Op.{Op}
use Rattle.bpf_note.specs.declared.op.Op.TheVariants.{Load, Add}
use Rattle.bpf_maps.specs.Layout.{place_of, total}
use Rattle.bpf_maps.specs.Seats.{SeatView}
use Rattle.bpf_maps.proofs.PlaceLemmas.{place_within}
use Rattle.xdp_program.specs.Ran.{IsHistory}
use Rattle.xdp_program.specs.Tallies.{DidAtSeat, DidInWords, HasGrown, TakesWords, Went, operations_of}
use Rattle.xdp_program.specs.declared.tallies.Seated.{Seated}
use Rattle.xdp_program.specs.declared.tallies.CounterWords.{CounterWords}

-- ---- words

-- a counter's word lies among enough
pub word_inside : (shapes : List Shape) (words : List ℕ) (m k j at : ℕ) → IsCounter shapes m k j → at ≡ place_of shapes m k j → total shapes ≤ length words → at < length words
word_inside shapes words m k j at h e enough = let within = place_within shapes m k j h in omega (arith, within, e, enough)

-- one operation, before others
took : (shapes : List Shape) (op : Op) (labels : List (Option Op)) (before mid after : List ℕ) → TakesWords shapes op before mid → IsHistory shapes labels mid after → IsHistory shapes (Some op ∷ labels) before after
took shapes (Load m k j v) labels before mid after t h = (t.0, t.1, subst (λ (l : List ℕ). IsHistory shapes labels l after) t.2 h)
took shapes (Add m k j delta old) labels before mid after t h = (t.0, t.1, subst (λ (l : List ℕ). IsHistory shapes labels l after) t.2 h)

pub history_of : (shapes : List Shape) (labels : List (Option Op)) (before after : CounterWords) → Went (DidInWords shapes) before after labels → IsHistory shapes labels before.words.now after.words.now
history_of shapes [] before after h = ap (λ (c : CounterWords). c.words.now) h
history_of shapes (None ∷ labels) before after h = history_of shapes labels before after h
history_of shapes (Some op ∷ labels) before after h = took shapes op labels before.words.now h.0.words.now after.words.now h.1.0 (history_of shapes labels h.0 after h.2)

-- the loan stays
pub loan_of : (shapes : List Shape) (labels : List (Option Op)) (before after : CounterWords) → Went (DidInWords shapes) before after labels → after.words.ghost_name ≡ before.words.ghost_name
loan_of shapes [] before after h = ap (λ (c : CounterWords). c.words.ghost_name) (sym h)
loan_of shapes (None ∷ labels) before after h = loan_of shapes labels before after h
loan_of shapes (Some op ∷ labels) before after h = loan_of shapes labels h.0 after h.2 ∙ h.1.1

-- a history leaves the number of words
pub history_length : (shapes : List Shape) (labels : List (Option Op)) (before after : List ℕ) → IsHistory shapes labels before after → length after ≡ length before
history_length shapes [] before after h = ap (λ (l : List ℕ). length l) (sym h)
history_length shapes (None ∷ labels) before after h = history_length shapes labels before after h
history_length shapes (Some (Load m k j v) ∷ labels) before after h = history_length shapes labels before after h.2
history_length shapes (Some (Add m k j delta old) ∷ labels) before after h =
    history_length shapes labels (set before (place_of shapes m k j) ((old + delta) % 2 ^ 64)) after h.2 ∙ length-set before (place_of shapes m k j) ((old + delta) % 2 ^ 64)

-- ---- a seat

one_more : (op : Op) (labels : List (Option Op)) (s t : SeatView) → HasGrown (record s { ops = s.ops ++ op ∷ [] }) t labels → HasGrown s t (Some op ∷ labels)
one_more op labels s t h = h ∙ ap (λ (l : List Op). record s { ops = l }) (append_assoc s.ops (op ∷ []) (operations_of labels))

pub grown_of : (shapes : List Shape) (labels : List (Option Op)) (before after : Seated) → Went (DidAtSeat shapes) before after labels → HasGrown before.seat.now after.seat.now labels
grown_of shapes [] before after h = ap (λ (c : Seated). c.seat.now) (sym h) ∙ ap (λ (l : List Op). record before.seat.now { ops = l }) (sym (append-nil before.seat.now.ops))
grown_of shapes (None ∷ labels) before after h = grown_of shapes labels before after h
grown_of shapes (Some op ∷ labels) before after h =
    one_more op labels before.seat.now after.seat.now (subst (λ (s : SeatView). HasGrown s after.seat.now labels) h.1.0 (grown_of shapes labels h.0 after h.2))

-- the loan stays
pub seat_of : (shapes : List Shape) (labels : List (Option Op)) (before after : Seated) → Went (DidAtSeat shapes) before after labels → after.seat.ghost_name ≡ before.seat.ghost_name
seat_of shapes [] before after h = ap (λ (c : Seated). c.seat.ghost_name) (sym h)
seat_of shapes (None ∷ labels) before after h = seat_of shapes labels before after h
seat_of shapes (Some op ∷ labels) before after h = seat_of shapes labels h.0 after h.2 ∙ h.1.1
