-- Asks that follow one another: their ops, and their events.
use Rattle.std.proofs.Common.{◌≡◌, ℕ, suc, ◌+◌, Bool, true, false, List, [], ◌∷◌, ◌++◌, length, take, drop, map, refl, sym, ap, ◌∙◌, append_assoc, append-nil}
use Rattle.std.proofs.Math.Seq.{drop-append-add, take-append_seam}
use Rattle.std.proofs.lemmas.List.{drop-drop}
use Rattle.xen_host.specs.Asks.{Ask, IsSized, WordsStay, did_all, did_by, op_of, takes_none}
use Rattle.xen_host.specs.Asks as ask
use Rattle.xen_host.specs.declared.op.HostOp.{HostOp}

-- it keeps the lent words
abbrev pub keeps : Ask → Bool
keeps (ask.Write at count) = false
keeps a = true

pub stay_kept : (a : Ask) (more : List Ask) (lent lent_after : List ℕ) → keeps a ≡ true → WordsStay more lent lent_after → WordsStay (a ∷ more) lent lent_after
stay_kept (ask.Read at count) more lent lent_after k h = h
stay_kept (ask.Entry at reference rights) more lent lent_after k h = h
stay_kept (ask.Write at count) more lent lent_after k h = cc k
stay_kept (ask.Store at word) more lent lent_after k h = h
stay_kept (ask.StoreTwo at x y) more lent lent_after k h = h
stay_kept (ask.Push at word read) more lent lent_after k h = h
stay_kept (ask.Notify port) more lent lent_after k h = h
stay_kept (ask.TurnOver kind) more lent lent_after k h = h
stay_kept (ask.DeliveryOver what) more lent lent_after k h = h
stay_kept (ask.WaitOver what) more lent lent_after k h = h

-- ---- several asks that take no answer, and keep the lent words

abbrev pub AreChained : List Ask → Type 0
AreChained [] = Unit {0}
AreChained (a ∷ more) = (takes_none a ≡ true) × (keeps a ≡ true) × IsSized a × AreChained more

-- the events of several, and of one more
pub did_more : (all : List Ask) (a : Ask) (lent : List ℕ) → did_all (all ++ a ∷ []) lent ≡ did_all all lent ++ did_by a lent
did_more [] a lent = append-nil (did_by a lent)
did_more (x ∷ all) a lent = ap (λ l. did_by x lent ++ l) (did_more all a lent) ∙ sym (append_assoc (did_by x lent) (did_all all lent) (did_by a lent))

pub ops_more : (all : List Ask) (a : Ask) → map op_of (all ++ a ∷ []) ≡ map op_of all ++ op_of a ∷ []
ops_more [] a = refl
ops_more (x ∷ all) a = ap (λ l. op_of x ∷ l) (ops_more all a)

pub length_more : (all : List Ask) (a : Ask) → length (all ++ a ∷ []) ≡ suc (length all)
length_more [] a = refl
length_more (x ∷ all) a = ap suc (length_more all a)

ops_length : (all : List Ask) → length (map op_of all) ≡ length all
ops_length [] = refl
ops_length (x ∷ all) = ap suc (ops_length all)

-- An op is put behind those that are said.
pub put_behind : (all : List Ask) (ops first : List HostOp) (count : ℕ) (o : HostOp) → ops ≡ map op_of all ++ drop count first → count ≡ length all → take count ops ++ o ∷ drop (count + 1) ops ≡ map op_of all ++ o ∷ drop (count + 1) first
put_behind all ops first count o e n =
    let m : count ≡ length (map op_of all) = n ∙ sym (ops_length all) in
    let front : take count ops ≡ map op_of all = ap (λ l. take count l) e ∙ ap (λ k. take k (map op_of all ++ drop count first)) m ∙ take-append_seam (map op_of all) (drop count first) in
    let back : drop (count + 1) ops ≡ drop (count + 1) first =
    ap (λ l. drop (count + 1) l) e ∙ ap (λ k. drop (k + 1) (map op_of all ++ drop count first)) m ∙ drop-append-add (map op_of all) (drop count first) 1
    ∙ drop-drop 1 count first in
    ap (λ l. l ++ o ∷ drop (count + 1) ops) front ∙ ap (λ l. map op_of all ++ o ∷ l) back

pub put_ask : (all : List Ask) (a : Ask) (ops first : List HostOp) (count : ℕ) (o : HostOp) → ops ≡ map op_of all ++ drop count first → count ≡ length all → o ≡ op_of a →
    take count ops ++ o ∷ drop (count + 1) ops ≡ map op_of (all ++ a ∷ []) ++ drop (count + 1) first
put_ask all a ops first count o e n is =
    put_behind all ops first count o e n ∙ ap (λ (x : HostOp). map op_of all ++ x ∷ drop (count + 1) first) is
    ∙ sym (append_assoc (map op_of all) (op_of a ∷ []) (drop (count + 1) first)) ∙ ap (λ l. l ++ drop (count + 1) first) (sym (ops_more all a))
