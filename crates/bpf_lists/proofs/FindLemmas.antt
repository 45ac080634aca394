-- What a lookup answers.
use Rattle.std.proofs.Common.{◌≡◌, ℕ, ◌-◌, ◌*◌, ◌<◌, ◌≤◌, inl, inr, List, length, slice_index, None, arith, sym, subst}
use Rattle.bpf_note.specs.declared.key.KeyKind.{KeyKind}
use Rattle.bpf_note.specs.Keys.{size, width, bits_of, data_of}
use Rattle.bpf_lists.specs.Keys.{row, count, value, Holds, IsLongest, IsFound}
use Rattle.bpf_lists.specs.Order.{Ordered, IsOrdered, HasPlace, at, Covers, Reaches}
use Rattle.bpf_lists.proofs.ValueLemmas.{AreBytes}
use Rattle.bpf_lists.proofs.NestLemmas.{le_or_lt}
use Rattle.bpf_lists.proofs.KeyLemmas.{row_bytes, holds_covers, covers_holds, holds_within}
use Rattle.bpf_lists.proofs.OrderLemmas.{at_long, cover_not_above, place_counts}

-- what stands at or past the first place above a key
abbrev pub IsAbove : Ordered → ℕ → List ℕ → Type 0
IsAbove o from key = (i : ℕ) → from ≤ i → i < length o.rows → value (data_of o.kind key) < value (data_of o.kind (at o i))

-- a row that holds stands before the first place above the key, and covers it
record Standing (o : Ordered) (from : ℕ) (key : List ℕ) (s : ℕ) : Type 0 where
  spot : HasPlace o.rows s
  before : spot.place < from
  covers : Covers o.kind (at o spot.place) key

standing : (o : Ordered) → IsOrdered o → (from : ℕ) (key : List ℕ) → length key ≡ size o.kind → IsAbove o from key → (s : ℕ) → s < count o.kind o.keys →
    Holds o.kind (row o.kind o.keys s) key → Standing o from key s
standing o is from key long high s s_in holds =
    let spot : HasPlace o.rows s = is.every s (subst (λ n. s < n) (sym is.long) s_in) in
    let here : Holds o.kind (at o spot.place) key = subst (λ (n : ℕ). Holds o.kind (row o.kind o.keys n) key) (sym spot.is) holds in
    let covers = holds_covers o.kind (at o spot.place) key here in
    record {
      spot = spot;
      before = elim (le_or_lt from spot.place) as (λ c. spot.place < from) [
        | inl past ↦ (let a = high spot.place past spot.within in let b = cover_not_above o is spot.place key spot.within long covers in absurd (omega arith))
        | inr before ↦ before
      ];
      covers = covers;
    }

pub found_none : (o : Ordered) → IsOrdered o → (from : ℕ) (key : List ℕ) → length key ≡ size o.kind → IsAbove o from key → Reaches o from key 0 →
    IsFound o.kind o.keys key None
found_none o is from key long high reaches s s_in holds =
    let at_s = standing o is from key long high s s_in holds in
    let r = reaches at_s.spot.place at_s.before at_s.covers in
    absurd (omega (arith, r.0))

pub found_some : (o : Ordered) → IsOrdered o → (from above : ℕ) (key : List ℕ) → length key ≡ size o.kind → AreBytes key → IsAbove o from key →
    from ≤ length o.rows → 0 < above → above ≤ from → Reaches o from key above → Covers o.kind (at o (above - 1)) key →
    bits_of o.kind key ≤ 8 * width o.kind → IsLongest o.kind o.keys key (slice_index o.rows (above - 1))
found_some o is from above key long bytes high within some most reaches covers short =
    let place_in : above - 1 < length o.rows = omega arith in
    record {
      within = place_counts o is (above - 1) place_in;
      holds = covers_holds o.kind (at o (above - 1)) key (at_long o is (above - 1) place_in) long
          (row_bytes o.kind o.keys (slice_index o.rows (above - 1)) is.bytes) bytes short covers;
      longest = λ s s_in holds.
          let at_s = standing o is from key long high s s_in holds in
          let r = reaches at_s.spot.place at_s.before at_s.covers in
          subst (λ (n : ℕ). bits_of o.kind (row o.kind o.keys n) ≤ bits_of o.kind (at o (above - 1))) at_s.spot.is r.1.0;
    }

pub found_long : (kind : KeyKind) (keys key : List ℕ) → 8 * width kind < bits_of kind key → IsFound kind keys key None
found_long kind keys key more s s_in holds =
    let short = holds_within kind (row kind keys s) key holds in
    absurd (omega arith)
