-- Runs on some packets and then on others are runs on all of them.
use Rattle.std.proofs.Common.{◌≡◌, ◌∙◌, ℕ, suc, ◌+◌, ◌-◌, ◌<◌, ◌++◌, List, [], ◌∷◌, length, map, get_or, take, drop, zero, refl, ap, append_assoc, arith, subst, sym}
use Rattle.std.specs.Prelude.{replicate, Option}
use Rattle.std.specs.List.{AllByRecursion}
use Rattle.std.proofs.lemmas.List.{append-nil}
use Rattle.std.proofs.Math.Seq.{drop-cons, take-append_seam}
use Rattle.bpf_lists.specs.declared.list.MapList.{MapList}
use Rattle.bpf_verify.specs.Consistent.{Accepted as Program}
use Rattle.xdp_load.specs.Setup.{Packet}
use Rattle.xdp_load.specs.SetupSeen.{packet_view}
use Rattle.xdp_load.specs.Sound.{IsPacket}
use Rattle.xdp_load.specs.declared.packets.SentPacket.{SentPacket as CodePacket}
use Rattle.xdp_program.specs.Ran.{Ran}
use Rattle.xdp_commands.specs.Filtering.{AreRuns, HasFiltered, Passed, inputs_of, passed_lines, passed_text}

runs_append : (program : Program) (lists : List (Option MapList)) (ifindex : ℕ) (ps qs : List Packet) (before between after : List ℕ) (rs ss : List Passed)
    → AreRuns program lists ifindex ps before rs between → AreRuns program lists ifindex qs between ss after → AreRuns program lists ifindex (ps ++ qs) before (rs ++ ss) after
runs_append program lists ifindex [] qs before between after [] ss h k = subst (λ (words : List ℕ). AreRuns program lists ifindex qs words ss after) (sym h) k
runs_append program lists ifindex [] qs before between after (r ∷ rs) ss h k = absurd h
runs_append program lists ifindex (p ∷ ps) qs before between after [] ss h k = absurd h
runs_append program lists ifindex (p ∷ ps) qs before between after (r ∷ rs) ss h k =
    (h.0, h.1, h.2, runs_append program lists ifindex ps qs h.1 between after rs ss h.3 k)

lines_append : (rs ss : List Passed) → passed_lines (rs ++ ss) ≡ passed_lines rs ++ passed_lines ss
lines_append [] ss = refl
lines_append (r ∷ rs) ss =
    ap (λ (xs : List ℕ). passed_text r ++ xs) (lines_append rs ss) ∙ sym (append_assoc (passed_text r) (passed_lines rs) (passed_lines ss))

pub goes_on : (program : Program) (lists : List (Option MapList)) (ifindex : ℕ) (ps qs : List Packet) (before lines between more after all : List ℕ)
    → HasFiltered program lists ifindex ps before lines between more → HasFiltered program lists ifindex qs between more after all → HasFiltered program lists ifindex (ps ++ qs) before lines after all
goes_on program lists ifindex ps qs before lines between more after all g h = record {
  runs = g.runs ++ h.runs;
  ran = runs_append program lists ifindex ps qs before between after g.runs h.runs g.ran h.ran;
  printed = h.printed ∙ ap (λ (xs : List ℕ). xs ++ passed_lines h.runs) g.printed ∙ append_assoc lines (passed_lines g.runs) (passed_lines h.runs)
      ∙ ap (λ (xs : List ℕ). lines ++ xs) (sym (lines_append g.runs h.runs));
}

pub goes_nowhere : (program : Program) (lists : List (Option MapList)) (ifindex : ℕ) (words lines : List ℕ) → HasFiltered program lists ifindex [] words lines words lines
goes_nowhere program lists ifindex words lines = record { runs = []; ran = refl; printed = sym (append-nil lines) }

-- one run, with its line
pub goes_once : (program : Program) (lists : List (Option MapList)) (ifindex : ℕ) (p : Packet) (before lines after more bytes line : List ℕ) (number count : ℕ)
    → Ran program lists p.bytes ifindex p.queue before number bytes after count → line ≡ passed_text (record { number = number; bytes = bytes }) → more ≡ lines ++ line
    → HasFiltered program lists ifindex (p ∷ []) before lines after more
goes_once program lists ifindex p before lines after more bytes line number count ran is printed = record {
  runs = record { number = number; bytes = bytes } ∷ [];
  ran = (count, after, ran, refl);
  printed = printed ∙ ap (λ (xs : List ℕ). lines ++ xs) (is ∙ sym (append-nil (passed_text (record { number = number; bytes = bytes }))));
}

-- words that are all written anew
pub all_written : (xs rest : List ℕ) (n : ℕ) → length xs ≡ n → take n (xs ++ rest) ≡ xs
all_written xs rest n e = rw (← e) (take-append_seam xs rest)

pub replicate_more : (p : Packet) (i n : ℕ) → i < n → replicate (n - i) p ≡ p ∷ replicate (n - (i + 1)) p
replicate_more p i n h =
    let one : n - i ≡ suc (n - (i + 1)) = omega (arith, h) in
    rw one refl

pub inputs_more : (xs : List CodePacket) (i : ℕ) (p : CodePacket) → i < length xs → p ≡ get_or xs i p
    → inputs_of (map packet_view (drop i xs)) ≡ replicate p.times (packet_view p) ++ inputs_of (map packet_view (drop (i + 1) xs))
inputs_more xs i p h is =
    let next = drop-cons xs i p h ∙ ap (λ (q : CodePacket). q ∷ drop (suc i) xs) (sym is) in
    let one : i + 1 ≡ suc i = omega arith in
    rw (one, next) refl

pub sound_at : (queues : ℕ) (xs : List CodePacket) (i : ℕ) (p : CodePacket) → i < length xs → p ≡ get_or xs i p → AllByRecursion (IsPacket queues) (map packet_view xs)
    → IsPacket queues (packet_view p)
sound_at queues [] i p h is all = absurd (omega (arith, h))
sound_at queues (x ∷ xs) zero p h is all = subst (λ (q : CodePacket). IsPacket queues (packet_view q)) (sym is) all.0
sound_at queues (x ∷ xs) (suc i) p h is all = sound_at queues xs i p (omega (arith, h)) is all.1
