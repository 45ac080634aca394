-- The pages of a queue's front are apart, and its references are in the table.
use Rattle.std.proofs.Common.{◌≡◌, ℕ, zero, suc, ◌+◌, ◌-◌, ◌*◌, ◌/◌, ◌<◌, ◌≤◌, Bool, true, false, None, List, [], ◌∷◌, ◌++◌, map, length, length-append, get_or, All, refl, sym, ◌∙◌, ap, subst, ◌⊎◌, inl, inr, arith}
use Rattle.std.specs.Prelude.{nat_lt, replicate}
use Rattle.std.specs.List.{range_with_len}
use Rattle.std.proofs.lemmas.Bool.Decides.{nat_tests}
use Rattle.std.proofs.lemmas.List.{get_or_append_left, get_or-append_right}
use Rattle.std.proofs.lemmas.List.FromFn.{length-map-range_with_len, get_or-map-range_with_len, get_or-range_with_len}
use Rattle.xen_buffers.specs.Wired.{AreDistinct, AreInTable, IsWired, frame_of, gref_of, frames_of, references_of}
use Rattle.xen_buffers.specs.declared.wiring.GrantedPage.{GrantedPage}
use Rattle.xen_buffers.specs.declared.wiring.FrontWiring.{FrontWiring}
use Rattle.xen_page.specs.Table.{entry_place}
use Rattle.xdp_world.specs.Frames.{owners_of, table_frames}
use Rattle.xdp_world.proofs.FrameLemmas.{outside_not}
use Rattle.xdp_world.specs.Buffers.{granted, granted_from}

-- two runs of 256 numbers, the second behind the first
run_at : (f : ℕ → ℕ) (s i d : ℕ) → i < 512 → get_or (map f (range_with_len s 256) ++ map f (range_with_len (s + 256) 256)) i d ≡ f (s + i)
run_at f s i d h = by (nat_lt i 256) refl
  where
    by : (t : Bool) → nat_lt i 256 ≡ t → get_or (map f (range_with_len s 256) ++ map f (range_with_len (s + 256) 256)) i d ≡ f (s + i)
    by true t =
        let below : i < 256 = grind (arith, nat_tests) in
        get_or_append_left (map f (range_with_len s 256)) (map f (range_with_len (s + 256) 256)) d i (omega (arith, length-map-range_with_len f s 256, below))
        ∙ get_or-map-range_with_len f s 256 i (s + i) d below refl
    by false t =
        let above : 256 ≤ i = grind (arith, nat_tests) in
        get_or-append_right (map f (range_with_len s 256)) (map f (range_with_len (s + 256) 256)) 256 i d (length-map-range_with_len f s 256) above
        ∙ get_or-map-range_with_len f (s + 256) 256 (i - 256) (s + i) d (omega (arith, above, h)) (omega (arith, above))

frames_granted : (l : List ℕ) → map frame_of (map granted l) ≡ map (λ g. 17 + g) l
frames_granted [] = refl
frames_granted (x ∷ xs) = ap (λ (l : List ℕ). (17 + x) ∷ l) (frames_granted xs)

references_granted : (l : List ℕ) → map gref_of (map granted l) ≡ map (λ g. g) l
references_granted [] = refl
references_granted (x ∷ xs) = ap (λ (l : List ℕ). x ∷ l) (references_granted xs)

abbrev both : (f : ℕ → ℕ) → ℕ → List ℕ
both f s = map f (range_with_len s 256) ++ map f (range_with_len (s + 256) 256)

length_both : (f : ℕ → ℕ) (s : ℕ) → length (both f s) ≡ 512
length_both f s =
    let all = length-append (map f (range_with_len s 256)) (map f (range_with_len (s + 256) 256)) in
    omega (arith, all, length-map-range_with_len f s 256, length-map-range_with_len f (s + 256) 256)

apart_references : (s : ℕ) → AreDistinct (both (λ g. g) s)
apart_references s i j d ij h e =
    let n = length_both (λ g. g) s in
    let x = run_at (λ g. g) s i d (omega (arith, ij, h, n)) in
    let y = run_at (λ g. g) s j d (omega (arith, h, n)) in
    absurd (omega (arith, x, y, e, ij))

abbrev frames_from : (a : ℕ) → List ℕ
frames_from a = (17 + a) ∷ (18 + a) ∷ (table_frames ++ both (λ g. 17 + g) (a + 2))

-- the rings' frames, the table's, and the buffers'
abbrev IsAt : (a i x : ℕ) → Type 0
IsAt a i x = ((i < 2) × (x ≡ 17 + a + i)) ⊎ (((2 ≤ i) × (i < 18) × (x + 1 ≡ i)) ⊎ ((18 ≤ i) × (x ≡ a + i + 1)))

late_at : (a k d : ℕ) → k < 528 → IsAt a (suc (suc k)) (get_or (table_frames ++ both (λ g. 17 + g) (a + 2)) k d)
late_at a k d h = by (nat_lt k 16) refl
  where
    by : (t : Bool) → nat_lt k 16 ≡ t → IsAt a (suc (suc k)) (get_or (table_frames ++ both (λ g. 17 + g) (a + 2)) k d)
    by true t =
        let below : k < 16 = grind (arith, nat_tests) in
        let is = get_or_append_left table_frames (both (λ g. 17 + g) (a + 2)) d k below ∙ get_or-range_with_len 1 16 k d below in
        inr (inl (omega arith, omega (arith, below), omega (arith, is)))
    by false t =
        let above : 16 ≤ k = grind (arith, nat_tests) in
        let is = get_or-append_right table_frames (both (λ g. 17 + g) (a + 2)) 16 k d refl above ∙ run_at (λ g. 17 + g) (a + 2) (k - 16) d (omega (arith, above, h)) in
        inr (inr (omega (arith, above), omega (arith, is, above)))

frame_at : (a i d : ℕ) → i < 530 → IsAt a i (get_or (frames_from a) i d)
frame_at a zero d h = inl (omega arith, omega arith)
frame_at a (suc zero) d h = inl (omega arith, omega arith)
frame_at a (suc (suc k)) d h = late_at a k d (omega (arith, h))

length_frames : (a : ℕ) → length (frames_from a) ≡ 530
length_frames a =
    let all = length-append table_frames (both (λ g. 17 + g) (a + 2)) in
    omega (arith, all, length_both (λ g. 17 + g) (a + 2))

differ : (a i j x y : ℕ) → i < j → IsAt a i x → IsAt a j y → x ≡ y → ⊥
differ a i j x y ij (inl p) (inl q) e = absurd (omega (arith, p.1, q.1, e, ij))
differ a i j x y ij (inl p) (inr (inl q)) e = absurd (omega (arith, p.1, q.1, q.1, q.2, e, ij))
differ a i j x y ij (inl p) (inr (inr q)) e = absurd (omega (arith, p.0, p.1, q.0, q.1, e, ij))
differ a i j x y ij (inr (inl p)) (inl q) e = absurd (omega (arith, p.0, q.0, ij))
differ a i j x y ij (inr (inl p)) (inr (inl q)) e = absurd (omega (arith, p.2, q.2, e, ij))
differ a i j x y ij (inr (inl p)) (inr (inr q)) e = absurd (omega (arith, p.1, p.2, q.0, q.1, e, ij))
differ a i j x y ij (inr (inr p)) (inl q) e = absurd (omega (arith, p.0, q.0, ij))
differ a i j x y ij (inr (inr p)) (inr (inl q)) e = absurd (omega (arith, p.0, q.1, ij))
differ a i j x y ij (inr (inr p)) (inr (inr q)) e = absurd (omega (arith, p.1, q.1, e, ij))

apart_frames : (a : ℕ) → AreDistinct (frames_from a)
apart_frames a i j d ij h e =
    let n = length_frames a in
    differ a i j _ _ ij (frame_at a i d (omega (arith, ij, h, n))) (frame_at a j d (omega (arith, h, n))) e

below : (a i n x : ℕ) → i < 530 → a + 531 ≤ n → IsAt a i x → x < n
below a i n x h few (inl p) = omega (arith, p.0, p.1, few)
below a i n x h few (inr (inl p)) = omega (arith, p.1, p.1, p.2, few)
below a i n x h few (inr (inr p)) = omega (arith, p.1, few, h)

in_table : (s : ℕ) → s + 256 ≤ 8192 → AreInTable table_frames (granted_from s)
in_table s few i d h none =
    let n = length-map-range_with_len granted s 256 in
    let lt : i < 256 = omega (arith, n, h) in
    let is = get_or-map-range_with_len granted s 256 i (s + i) d lt refl in
    outside_not table_frames ((s + i) / 512) (s + i) (omega (arith, lt, few)) (subst (λ (b : GrantedPage). entry_place table_frames b.gref ≡ None) is none)

length_ones : (n : ℕ) → length {A = ℕ} (replicate n 1) ≡ n
length_ones zero = refl
length_ones (suc n) = let h = length_ones n in omega (arith, h)

-- the wiring of queue q, of up to eight
pub is_wired : (queues q : ℕ) (w : FrontWiring) → q < queues → queues ≤ 8 → w.frames ≡ length (owners_of queues) → w.tx_frame ≡ 17 + 514 * q → w.rx_frame ≡ 17 + 514 * q + 1 → w.table.now ≡ table_frames →
    w.tx.now ≡ granted_from (514 * q + 2) → w.rx.now ≡ granted_from (514 * q + 258) → IsWired w
is_wired queues q w lt few frames tx_frame rx_frame table tx rx =
    let a : ℕ = 514 * q in
    let ones = length_ones (16 + 514 * queues) in
    let bound : a + 531 ≤ w.frames = omega (arith, lt, frames, ones) in
    let shift : a + 258 ≡ a + 2 + 256 = omega arith in
    let rx' : w.rx.now ≡ granted_from (a + 2 + 256) = rx ∙ ap granted_from shift in
    let rx_frame' : w.rx_frame ≡ 18 + a = omega (arith, rx_frame) in
    let tx_frames = ap (map frame_of) tx ∙ frames_granted (range_with_len (a + 2) 256) in
    let rx_frames = ap (map frame_of) rx' ∙ frames_granted (range_with_len (a + 2 + 256) 256) in
    let tx_references = ap (map gref_of) tx ∙ references_granted (range_with_len (a + 2) 256) in
    let rx_references = ap (map gref_of) rx' ∙ references_granted (range_with_len (a + 2 + 256) 256) in
    let fr : frames_of w ≡ frames_from a = (λ i. tx_frame i ∷ rx_frame' i ∷ (table i ++ (tx_frames i ++ rx_frames i))) in
    let re : references_of w ≡ both (λ g. g) (a + 2) = (λ i. tx_references i ++ rx_references i) in
    record {
      tx_count = ap length tx ∙ length-map-range_with_len granted (a + 2) 256;
      rx_count = ap length rx ∙ length-map-range_with_len granted (a + 258) 256;
      tx_granted = subst (λ (l : List GrantedPage). AreInTable w.table.now l) (sym tx) (subst (λ (t : List ℕ). AreInTable t (granted_from (a + 2))) (sym table) (in_table (a + 2) (omega (arith, lt, few))));
      rx_granted = subst (λ (l : List GrantedPage). AreInTable w.table.now l) (sym rx) (subst (λ (t : List ℕ). AreInTable t (granted_from (a + 258))) (sym table) (in_table (a + 258) (omega (arith, lt, few))));
      on_bus = subst (All (λ (frame : ℕ). frame < w.frames)) (sym fr) (λ i d h. let n = length_frames a in let l : i < 530 = omega (arith, h, n) in below a i w.frames _ l bound (frame_at a i d l));
      frames_apart = subst AreDistinct (sym fr) (apart_frames a);
      references_apart = subst AreDistinct (sym re) (apart_references (a + 2));
    }
