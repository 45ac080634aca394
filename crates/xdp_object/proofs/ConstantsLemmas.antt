-- Maps of constants behind a program's other maps.
use Rattle.std.proofs.Common.{ℕ, ◌≡◌, ◌+◌, ◌<◌, inr, List, [], ◌∷◌, ◌++◌, None, Option, length, replicate, take, sym, subst, ap, ◌∙◌, arith}
use Rattle.std.specs.Prelude.{map, slice_index, string_bytes}
use Rattle.std.proofs.lemmas.List.{take_more, length-append}
use Rattle.bpf_lists.specs.declared.list.MapList.{MapList}
use Rattle.bpf_object.specs.Object.{Parts}
use Rattle.xdp_object.specs.Constants.{MapsView, AreBehind, AreConstants, AreUnlisted, constants_shape, more, none, with_constants}
use Rattle.xdp_object.specs.Link.{Links}
use Rattle.xdp_object.specs.Maps.{AreMaps}
use Rattle.xdp_object.specs.MapsSeen.{IsUnplacedFrom, unlisted}
use Rattle.xdp_object.specs.Setup.{IsLinked, IsNoSetupIn}
use Rattle.xdp_object.specs.declared.fault.SetupFault.{SetupFault}
use Rattle.xdp_object.specs.declared.fault.SetupFault.TheVariants.{Object, Program, Maps, Types, Map, Memory}
use Rattle.xdp_object.specs.declared.maps.Maps.{Maps as MadeMaps}

-- nothing is behind maps without lists
pub nothing_behind : (o : Parts) (m : MadeMaps) (lists : List (Option MapList)) → lists ≡ replicate (length m.shapes.items) None →
    AreBehind o (unlisted m) [] (record { names = map string_bytes m.names.items; shapes = m.shapes.items; lists = lists })
nothing_behind o m lists e =
    subst
    (λ (ls : List (Option MapList)). AreBehind o (unlisted m) [] (record { names = map string_bytes m.names.items; shapes = m.shapes.items; lists = ls }))
    (sym e) none

-- one more is behind them
pub one_behind : (o : Parts) (m n new : MapsView) (sections : List ℕ) (k : ℕ) (name bytes : List ℕ) → k < length sections →
    AreBehind o m (take k sections) n → AreConstants o (slice_index sections k) name bytes → new ≡ with_constants n name bytes →
    AreBehind o m (take (k + 1) sections) new
one_behind o m n new sections k name bytes lt before here e =
    subst (λ (ss : List ℕ). AreBehind o m ss new) (sym (take_more sections k 0 lt))
    (subst (λ (v : MapsView). AreBehind o m (take k sections ++ slice_index sections k ∷ []) v) (sym e)
    (more (take k sections) n (slice_index sections k) name bytes before here))

pub one_counted : (n new : MapsView) (first k : ℕ) (name bytes : List ℕ) → new ≡ with_constants n name bytes → length n.shapes ≡ first + k →
    length new.shapes ≡ first + (k + 1)
one_counted n new first k name bytes e before =
    let added : length new.shapes ≡ length n.shapes + 1 =
    ap (λ (v : MapsView). length v.shapes) e ∙ length-append n.shapes (constants_shape (length bytes) ∷ []) in
    omega (arith, added, before)

-- maps that are made have no lists
pub are_unlisted : (o : Parts) (symbols : List ℕ) (m : MadeMaps) → AreMaps o symbols (map string_bytes m.names.items) m.shapes.items →
    AreUnlisted o symbols (unlisted m)
are_unlisted o symbols m are = record { maps = are; lists = ap (λ (n : ℕ). replicate n None) are.shapes_counted }

-- a program with a section of constants that can be no map
pub no_constants : (o : Parts) (name : List ℕ) (l : Links) (m : MapsView) (first : ℕ) (fault : SetupFault) → IsLinked o name l →
    AreUnlisted o l.maps m → first ≡ length l.maps → IsUnplacedFrom o m first l.sections fault → IsNoSetupIn o name fault
no_constants o name l m first (Map n cause) linked are e h =
    inr (record {
      links = l;
      link = linked;
      first = m;
      maps = are;
      without = (h.0, (h.1.0 ∙ ap (λ (x : ℕ). x + h.0) e, h.1.1));
    })
no_constants o name l m first Memory linked are e h = tt
no_constants o name l m first (Types fault) linked are e h = absurd h
no_constants o name l m first (Object fault) linked are e h = h
no_constants o name l m first (Program fault) linked are e h = absurd h
no_constants o name l m first Maps linked are e h = absurd h
