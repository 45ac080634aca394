-- Packets with an extra.
use Rattle.std.proofs.Common.{◌≡◌, ℕ, suc, ◌+◌, ◌-◌, ◌≤◌, Bool, true, false, cond, List, [], ◌∷◌, drop, get_or, length, take, Option, Some, None, Result, Ok, Err, MatchResult, IfOk, refl, arith, sym, ◌∙◌, ap, subst}
use Rattle.std.proofs.lemmas.Bool.{eqb-true, le-leb, leb-true}
use Rattle.std.proofs.lemmas.List.{length-map, take_all}
use Rattle.std.specs.List.{list_all}
use Rattle.std.specs.Prelude.{nat_le, nat_lt, not, sum_by, ◌&&◌, ◌==◌, if◌then◌else◌}
use Rattle.xen_netif.specs.Slots.{asks_extra}
use Rattle.xen_netif.specs.Chain.{Slot, extra_info}
use Rattle.xen_netif.specs.Fragments.{fragments_of, is_in_page, sized_fragments, slot_size, split}
use Rattle.xen_netif.specs.Segments.{AreSegments, data_behind, gso_extra_of, gso_type_number, gso_type_of, if_offered, is_gso, is_offered, is_segment_size, no_offers, offered_fragments, segments_behind, segments_of, segments_said, sized_if, without_extra}
use Rattle.xen_netif.specs.Standing.{standing}
use Rattle.xen_netif.specs.declared.chain.ChainState.TheVariants as wanted
use Rattle.xen_netif.specs.declared.fault.SizeFault.{SizeFault}
use Rattle.xen_netif.specs.declared.fault.SizeFault.TheVariants.{ShortPacket, LaterSizes, PastPage, ExtraInfo}
use Rattle.xen_netif.specs.declared.fragment.Fragment.{Fragment}
use Rattle.xen_netif.specs.declared.segments.GsoType.{GsoType}
use Rattle.xen_netif.specs.declared.segments.GsoType.TheVariants.{TcpV4, TcpV6}
use Rattle.xen_netif.specs.declared.segments.Offers.{Offers}
use Rattle.xen_netif.specs.declared.segments.Segments.{Segments}
use Rattle.xen_netif.proofs.FragmentLemmas.{few_later, few_behind_extra}

-- the tests that are made of what is said
record Tests (offers : Offers) (size : ℕ) (kind : Option GsoType) (gso last fits : Bool) (s : Segments) : Type 0 where
  pub gso_is : gso ≡ true
  pub last_is : last ≡ false
  pub fits_is : fits ≡ true
  pub kind_is : kind ≡ Some s.kind
  pub offered_is : is_offered offers s.kind ≡ true
  pub size_is : s.size ≡ size

kind_in : GsoType → Option Segments → GsoType
kind_in d None = d
kind_in d (Some s) = s.kind

size_in : ℕ → Option Segments → ℕ
size_in d None = d
size_in d (Some s) = s.size

of_kind : (offers : Offers) (size : ℕ) (k : GsoType) (s : Segments) (has : Bool) → is_offered offers k ≡ has →
    (if has then Some (record { kind = k; size = size }) else None) ≡ Some s → Tests offers size (Some k) true false true s
unfolding kind_in size_in
of_kind offers size k s false h e = cc
of_kind offers size k s true h e =
    let is_kind : k ≡ s.kind = ap (kind_in k) e in
    let is_size : s.size ≡ size = sym (ap (size_in size) e) in
    record { gso_is = refl; last_is = refl; fits_is = refl; kind_is = ap (λ (x : GsoType). Some x) is_kind; offered_is = subst (λ x. is_offered offers x ≡ true) is_kind h; size_is = is_size }

tests_made : (offers : Offers) (size : ℕ) (kind : Option GsoType) (gso last fits : Bool) (s : Segments) →
    (if gso && not last && fits then if_offered offers size kind else None) ≡ Some s → Tests offers size kind gso last fits s
tests_made offers size kind false last fits s e = cc
tests_made offers size kind true true fits s e = cc
tests_made offers size kind true false false s e = cc
tests_made offers size None true false true s e = cc
tests_made offers size (Some k) true false true s e = of_kind offers size k s (is_offered offers k) refl e

made_of : (offers : Offers) (size : ℕ) (kind : Option GsoType) (gso last fits : Bool) (s : Segments) → Tests offers size kind gso last fits s →
    (if gso && not last && fits then if_offered offers size kind else None) ≡ Some s
made_of offers size kind gso last fits s t =
    let g = t.gso_is in
    let l = t.last_is in
    let f = t.fits_is in
    let k = t.kind_is in
    let n = sym t.size_is in
    let tests : (if gso && not last && fits then if_offered offers size kind else None) ≡ if_offered offers s.size (Some s.kind) =
    λ i. if g i && not (l i) && f i then if_offered offers (n i) (k i) else None in
    tests ∙ ap (λ (b : Bool). if b then Some s else None) t.offered_is

number_named : (n : ℕ) (k : GsoType) → gso_type_of n ≡ Some k → gso_type_number k ≡ n
number_named n k e = by (n == 1) (n == 2) refl refl e
  where
    by : (a b : Bool) → (n == 1) ≡ a → (n == 2) ≡ b → (if a then Some TcpV4 else (if b then Some TcpV6 else None)) ≡ Some k → gso_type_number k ≡ n
    by true b x y e =
        let same : TcpV4 ≡ k = cc in
        ap gso_type_number (sym same) ∙ sym (eqb-true n 1 x)
    by false true x y e =
        let same : TcpV6 ≡ k = cc in
        ap gso_type_number (sym same) ∙ sym (eqb-true n 2 y)
    by false false x y e = cc

named_number : (k : GsoType) → gso_type_of (gso_type_number k) ≡ Some k
named_number TcpV4 = refl
named_number TcpV6 = refl

size_fits : (packet size : ℕ) → 536 ≤ size → size ≤ packet → is_segment_size packet size ≡ true
size_fits packet size a b = ap (λ p. p && nat_le size packet) (le-leb 536 size a) ∙ le-leb size packet b

fits_size : (packet size : ℕ) → is_segment_size packet size ≡ true → (536 ≤ size) × (size ≤ packet)
fits_size packet size e = by (nat_le 536 size) (nat_le size packet) refl refl e
  where
    by : (p q : Bool) → nat_le 536 size ≡ p → nat_le size packet ≡ q → (p && q) ≡ true → (536 ≤ size) × (size ≤ packet)
    by true true x y e = (leb-true 536 size x, leb-true size packet y)
    by true false x y e = cc
    by false q x y e = cc

-- What is said is what the two slots say, and nothing else.
pub said_are : (offers : Offers) (first extra : Slot) (s : Segments) → segments_said offers first extra ≡ Some s → AreSegments offers first extra s
said_are offers first extra s e =
    let t = tests_made offers (gso_extra_of extra).size (gso_type_of (gso_extra_of extra).kind) (is_gso extra) (asks_extra extra) (is_segment_size (slot_size first) (gso_extra_of extra).size) s e in
    let f = fits_size (slot_size first) (gso_extra_of extra).size t.fits_is in
    record {
      gso = t.gso_is;
      last = t.last_is;
      kind = number_named (gso_extra_of extra).kind s.kind t.kind_is;
      offered = t.offered_is;
      size = t.size_is;
      least = subst (λ n. 536 ≤ n) (sym t.size_is) f.0;
      most = subst (λ n. n ≤ slot_size first) (sym t.size_is) f.1;
    }

pub are_said : (offers : Offers) (first extra : Slot) (s : Segments) → AreSegments offers first extra s → segments_said offers first extra ≡ Some s
are_said offers first extra s a =
    let fits = size_fits (slot_size first) s.size a.least a.most in
    made_of offers (gso_extra_of extra).size (gso_type_of (gso_extra_of extra).kind) (is_gso extra) (asks_extra extra) (is_segment_size (slot_size first) (gso_extra_of extra).size) s
    (record {
      gso_is = a.gso;
      last_is = a.last;
      fits_is = subst (λ n. is_segment_size (slot_size first) n ≡ true) a.size fits;
      kind_is = ap gso_type_of (sym a.kind) ∙ named_number s.kind;
      offered_is = a.offered;
      size_is = a.size;
    })

-- with nothing offered no extra is taken
offered_none : (k : GsoType) → is_offered no_offers k ≡ false
offered_none TcpV4 = refl
offered_none TcpV6 = refl

none_said : (first extra : Slot) (o : Option Segments) → segments_said no_offers first extra ≡ o → o ≡ None
none_said first extra None e = refl
none_said first extra (Some s) e = let a = said_are no_offers first extra s e in let n = offered_none s.kind in cc

behind_none : (asked : Bool) (first : Slot) (later : List Slot) → sized_if first (data_behind no_offers asked first later) ≡ cond asked (Err ExtraInfo) (sized_fragments first later)
behind_none false first later = refl
behind_none true first [] = refl
behind_none true first (extra ∷ later) = ap (λ o. sized_if first (without_extra later o)) (none_said first extra (segments_said no_offers first extra) refl)

pub nothing_offered : (ss : List Slot) → offered_fragments no_offers ss ≡ fragments_of ss
nothing_offered [] = refl
nothing_offered (first ∷ later) = behind_none (extra_info first) first later

pub nothing_segmented : (ss : List Slot) → segments_of no_offers ss ≡ None
nothing_segmented [] = refl
nothing_segmented (first ∷ later) = by (extra_info first) later
  where
    by : (asked : Bool) (later : List Slot) → segments_behind no_offers asked first later ≡ None
    by false later = refl
    by true [] = refl
    by true (extra ∷ later) = none_said first extra (segments_said no_offers first extra) refl

-- the data slots behind a whole chain's first are at most seventeen
pub few_behind : (offers : Offers) (first : Slot) (later rest : List Slot) → standing (first ∷ later) ≡ Some (Ok wanted.Complete) →
    data_behind offers (extra_info first) first later ≡ Some rest → length rest ≤ 17
few_behind offers first later rest whole e = by (extra_info first) later refl whole e
  where
    said : (extra : Slot) (later : List Slot) (o : Option Segments) → segments_said offers first extra ≡ o → standing (first ∷ extra ∷ later) ≡ Some (Ok wanted.Complete) →
        extra_info first ≡ true → without_extra later o ≡ Some rest → length rest ≤ 17
    said extra later None is whole some e = cc
    said extra later (Some s) is whole some e =
        let n = few_behind_extra first extra later whole some (said_are offers first extra s is).last in
        let same : later ≡ rest = cc in
        subst (λ l. length l ≤ 17) same n

    by : (asked : Bool) (later : List Slot) → extra_info first ≡ asked → standing (first ∷ later) ≡ Some (Ok wanted.Complete) → data_behind offers asked first later ≡ Some rest → length rest ≤ 17
    by false later none whole e =
        let same : later ≡ rest = cc in
        subst (λ l. length l ≤ 17) same (few_later first later whole none)
    by true [] some whole e = cc
    by true (extra ∷ later) some whole e = said extra later (segments_said offers first extra) refl whole some e

-- the same of a list's first slot and the rest
pub few_in : (offers : Offers) (ss : List Slot) (d : Slot) (n : ℕ) (rest : List Slot) → standing ss ≡ Some (Ok wanted.Complete) → n ≡ length ss - 1 →
    data_behind offers (extra_info (get_or ss 0 d)) (get_or ss 0 d) (take n (drop 1 ss)) ≡ Some rest → length rest ≤ 17
few_in offers [] d n rest whole long e = cc
few_in offers (first ∷ later) d n rest whole long e =
    let all : take n later ≡ later = take_all n later (omega (arith, long)) in
    few_behind offers first later rest whole (ap (λ l. data_behind offers (extra_info first) first l) (sym all) ∙ e)

-- a packet of a queue that offers nothing has a fragment a slot
pub fragment_each : (ss : List Slot) (fs : List Fragment) → fragments_of ss ≡ Ok fs → length fs ≡ length ss
fragment_each [] fs e = let same : [] ≡ fs = cc in ap length (sym same)
fragment_each (first ∷ later) fs e =
    by (extra_info first) (nat_lt (slot_size first) 14) (nat_lt (slot_size first) (sum_by slot_size later)) (list_all is_in_page (split first later)) e
  where
    by : (a b c d : Bool) → (if a then Err ExtraInfo else (if b then Err ShortPacket else (if c then Err LaterSizes else (if d then Ok (split first later) else Err PastPage)))) ≡ Ok fs →
        length fs ≡ length (first ∷ later)
    by true b c d e = cc
    by false true c d e = cc
    by false false true d e = cc
    by false false false false e = cc
    by false false false true e =
        let same : split first later ≡ fs = cc in
        ap length (sym same) ∙ ap suc (length-map later _)

pub each_counted : {V : Type 0} (r : Result V SizeFault) (items : V → List Fragment) (ss : List Slot) →
    MatchResult r (λ v. fragments_of ss ≡ Ok (items v)) (λ fault. fragments_of ss ≡ Err fault) → IfOk r (λ v. length (items v) ≡ length ss)
each_counted (Ok v) items ss e = fragment_each ss (items v) e
each_counted (Err fault) items ss e = tt

-- an extra that isn't taken is why its packet is refused
refused_by : (offers : Offers) (first : Slot) (later : List Slot) → segments_behind offers true first later ≡ None → sized_if first (data_behind offers true first later) ≡ Err ExtraInfo
refused_by offers first [] e = refl
refused_by offers first (extra ∷ later) e = ap (λ o. sized_if first (without_extra later o)) e

pub extra_refused : (offers : Offers) (first : Slot) (later : List Slot) → extra_info first ≡ true → segments_of offers (first ∷ later) ≡ None →
    offered_fragments offers (first ∷ later) ≡ Err ExtraInfo
extra_refused offers first later x e =
    ap (λ b. sized_if first (data_behind offers b first later)) x ∙ refused_by offers first later (ap (λ b. segments_behind offers b first later) (sym x) ∙ e)

-- a packet without extra is taken as if nothing is offered
pub plain_offered : (offers : Offers) (first : Slot) (later : List Slot) → extra_info first ≡ false → offered_fragments offers (first ∷ later) ≡ fragments_of (first ∷ later)
plain_offered offers first later x =
    ap (λ b. sized_if first (data_behind offers b first later)) x ∙ sym (ap (λ b. cond b (Err ExtraInfo) (sized_fragments first later)) x)

-- the data slots of a packet that is taken
pub record Taken (offers : Offers) (first : Slot) (later : List Slot) (fs : List Fragment) : Type 0 where
  pub rest : List Slot
  pub behind : data_behind offers (extra_info first) first later ≡ Some rest
  pub sized : sized_fragments first rest ≡ Ok fs
  pub least : length rest ≤ length later
  pub most : length later ≤ length rest + 1

pub taken_of : (offers : Offers) (first : Slot) (later : List Slot) (fs : List Fragment) → offered_fragments offers (first ∷ later) ≡ Ok fs → Taken offers first later fs
taken_of offers first later fs e = by (extra_info first) later refl e
  where
    said : (extra : Slot) (later : List Slot) (o : Option Segments) → segments_said offers first extra ≡ o → extra_info first ≡ true → sized_if first (without_extra later o) ≡ Ok fs →
        Taken offers first (extra ∷ later) fs
    said extra later None is x e = cc
    said extra later (Some s) is x e =
        record {
          rest = later;
          behind = ap (λ b. data_behind offers b first (extra ∷ later)) x ∙ ap (without_extra later) is;
          sized = e;
          least = omega arith;
          most = omega arith;
        }

    by : (asked : Bool) (later : List Slot) → extra_info first ≡ asked → sized_if first (data_behind offers asked first later) ≡ Ok fs → Taken offers first later fs
    by false later x e =
        record { rest = later; behind = ap (λ b. data_behind offers b first later) x; sized = e; least = omega arith; most = omega arith }
    by true [] x e = cc
    by true (extra ∷ later) x e = said extra later (segments_said offers first extra) refl x e

-- with nothing offered it has no extra
pub plain_taken : (first : Slot) (later : List Slot) (fs : List Fragment) → offered_fragments no_offers (first ∷ later) ≡ Ok fs → extra_info first ≡ false
plain_taken first later fs e = by (extra_info first) refl
  where
    by : (asked : Bool) → extra_info first ≡ asked → extra_info first ≡ false
    by false x = x
    by true x = let r = extra_refused no_offers first later x (nothing_segmented (first ∷ later)) in cc
