-- `lend` hands out what the box holds, where it lies, and the slot follows it.
use mathlib.Core.Path.{◌≡◌, refl, subst}
use mathlib.Core.List.{List, [], ◌∷◌}
use Prim.Native.Nat.{ℕ}
use seplogic.Ra.Ura.{Ura}
use base.Fraction.{full_share}
use mir.Raw.{raw as bare}
use mir.Syntax.{Body, named, seq, assign, return, place, copy, rv_opd}
use mir.Val.{Val, vptr}
use base.Logic.{SProp, ent, sep}
use base.Fml.{GName, Fml, ftrue, fsep, flft}
use prog.Memory.{Memory}
use prog.Routine.{Routine}
use prog.Wp.{Env, WpFn, Tables}
use types.Logic.{Logic, sem}
use contract.Monad.{Fun, fact}
use contract.Running.{tables, tables_of}
use sound.WpLaws.{WpFn-mono}
use types.Kit.{‵, raw, ◌⊛◌, some, later, at_ret, ◌$◌, ◌∵◌, !, qed, by, move, keep, drop, use1, join, split, group, pick, rewrite, fsplit, fsplit3, fjoin, fpack, suffices, frame, await, done}
use types.Part.{whole, sub, look_in}
use types.Run.{stop, fld, addr, load, of_opd, first, blocks, exec, returns, enter}
use types.ByLocal.{alloc_all, pass_all, free_all, look_at, get, through, sets, sets_last, env}
use denote.Exit.{no}
use denote.Follow.{follows, Part, lends_Part}
use denote.Memory.{part_at, part_of, mem, cell_at}
use denote.RattleType.{owns}
use denote.RawPtr.{block_ptr}
use denote.Ref.{MutRef, mut_vals, mut_Tells}
use denote.Signature.{plain, mut_ref_to}
use denote.Steps.{heard, nothing, opens}
use denote.Triple.Clauses.{Clauses}
use denote.Triple.Spec.{triple_of}
use denote.Triple.Table.{entered}
use denote.Triple.Walked.{says, Stays, stay_dropped, walk_of, ends_at, walked, walk_Meets, Goes-spent_ref}
use Rattle.std.proofs.Common.{Bool, true, false, Option, Some, None, IsSome}
use Rattle.std.proofs.alloc.Calls.{token}
use Rattle.std_alloc.proofs.BoxSteps.Form.{D, R, τ, word, handle}
use Rattle.std_alloc.proofs.BoxSteps.Steps.{box_out, box_in}
use Rattle.xdp_host.specs.CountersLoan.{slot_with}
use Rattle.xen_host.specs.declared.sharing.SharedCounters.{SharedCounters}
use Rattle.xdp_host.specs.declared.counters_handle.Slot.{Slot}
use Rattle.xen_host.specs.contracts.sharing.SharedCounters.{the_row as Home}
use Rattle.xdp_host.specs.contracts.counters_handle.Slot.{the_row as Handle}
use Rattle.xdp_host.specs.contracts.counters_handle.Slot.lend as F
use Rattle.xdp_host.specs.contracts.counters_handle.Slot.lend.Key.{name as #self}
use Rattle.xdp_host.proofs.AsCountersBox.{E}
use Rattle.xdp_host.proofs.counters_handle.Slot.lend.Statement as stated
use Rattle.xdp_host.proofs.counters_handle.Slot.lend.Code as code

abbrev stayed : Stays (F.ended).signature.params (F.ended).kept
stayed = (stay_dropped (mut_ref_to (0 ∷ []) tt (plain (λ _. Handle))) no, tt)

abbrev rest : Body
rest = seq (assign (place 0 []) (rv_opd (copy (place 2 [])))) return

abbrev not_true : Bool → Type 0
not_true true = ⊥
not_true false = Unit {0}

-- a value that is there
of_some : (o : Option SharedCounters) → IsSome o → (h : SharedCounters) × (o ≡ Some h)
of_some None s = absurd (subst not_true s tt)
of_some (Some h) s = (h, refl)

module _ {M : Type 1} {𝓤 : Ura M} (𝓛 : Logic 𝓤) (at_mem : Memory → SProp 𝓤) (run : Routine → Fun 𝓤) (𝓣 : Tables 𝓤 𝓛.H) where
  open 𝓛 use {H}

  abbrev held : Clauses 𝓤 F.ended
  held = F.clauses 𝓛 at_mem run

  module _ (d : Slot) (rb ro b o : ℕ) (hv : Val) where
    -- all of the slot but what its box holds
    abbrev Rest : Fml
    Rest = fsep (fsep (token E.al d.alloc (bare (τ E)) (block_ptr b o)) (handle E d.alloc hv)) (cell_at full_share Handle.mir (word E hv b o ∷ []) rb ro)

    back : d.at ≡ block_ptr b o → (w : SharedCounters) → ent 𝓤 (sep 𝓤 (sem 𝓛 ((mem Home).own_at w b o)) (sem 𝓛 Rest)) (sem 𝓛 ((mem Handle).own_at (slot_with d w) rb ro))
    unfolding part_of
    back e w =
        let v : D E = record { ptr = d.at; alloc = d.alloc; value = w } in
        qed 𝓛 (‵ (part_at (R E) full_share w b o) ∷ ‵ Rest ∷ []) ∵ move ! (1 ∷ []) $ fsplit ! $ fsplit ! $ move ! (3 ∷ []) $
        box_in E ! v b o w e refl $ move ! (1 ∷ 0 ∷ []) $ fjoin ! $
        fpack ! (List Val) (λ us. fsep (cell_at full_share Handle.mir us rb ro) (Handle.own_val (slot_with d w) us)) (word E hv b o ∷ []) $ done !

  abbrev at : (walk_of 𝓛 F.ended stayed held).Ghost → (walk_of 𝓛 F.ended stayed held).Ghost
  at z = ((z.0.0, z.0.1, z.0.2, z.0.3, (mut_vals z.0.3.0, tt)), z.1)

  walk : (z : (walk_of 𝓛 F.ended stayed held).Ghost)
      → ent 𝓤 ((walk_of 𝓛 F.ended stayed held).pre (at z)) (WpFn 𝓤 H 𝓣.C 𝓣.Λ code.function (mut_vals z.0.3.0) ((walk_of 𝓛 F.ended stayed held).post (at z)))
  walk z =
      let κ = z.0.0.0 in let q = z.0.1.0 in let self = z.0.3.0 in let d = self.now in let rb = self.ref_ptr.0 in let ro = self.ref_ptr.1 in let γ = self.ghost_name in
      let Post = (walk_of 𝓛 F.ended stayed held).post (at z) in let coded = Handle.coded.code d in
      qed 𝓛 (((‵ (flft κ q) ⊛ ‵ ftrue) ⊛ ‵ (owns (MutRef (named 0) κ Handle ∷ []) (self, tt) (vptr rb ro ∷ [], tt))) ∷ raw (fact 𝓤 (IsSome d.held)) ∷ []) ∵
      move ! (1 ∷ []) $ heard ! (IsSome d.held) (λ is. let got = of_some d.held is in let x = got.0 in let v : D E = record { ptr = d.at; alloc = d.alloc; value = x } in
      enter ! 𝓣.C 𝓣.Λ code.function (vptr rb ro ∷ []) _ $ alloc_all ! (λ ls. pass_all ! refl ((tt, tt), tt) $ let En : Env 𝓤 H = env (code.function).locals ls in
      split ! $ split ! $ move ! (2 ∷ []) $ fsplit ! $ fsplit3 ! $ drop ! $ move ! (0 ∷ 1 ∷ 3 ∷ []) $
      opens ! tt Handle {h = d} rb ro (λ vs. move ! (1 ∷ []) $
      rewrite ! 0 (λ (h : Option SharedCounters). ‵ (Handle.own_val (record { at = d.at; alloc = d.alloc; held = h }) vs)) got.1 refl $
      box_out E ! v vs (λ b o hv e ws fa. move ! (1 ∷ 2 ∷ []) $ fjoin ! $ move ! (1 ∷ []) $ rewrite ! 2 (λ (us : List Val). ‵ (cell_at full_share Handle.mir us rb ro)) ws refl $
      -- [the value; the token with the handle; the word; the open borrow; obs; auth]
      first ! $ blocks ! $ sets ! (of_opd ! (load ! (through ! refl (fld ! refl (stop !))) (look_in ! 2 (sub ! 0 refl (whole !))))) refl (tt, tt) $ sets ! (of_opd ! (get ! refl)) refl (tt, tt) $
      sets_last ! (addr ! (through ! refl (stop !))) refl (tt, tt) $ exec ! 𝓣.C 𝓣.Λ En rest (at_ret En Post) $ sets ! (of_opd ! (get ! refl)) refl (tt, tt) $
      move ! (1 ∷ 2 ∷ []) $ fjoin ! $ move ! (2 ∷ 3 ∷ 4 ∷ 1 ∷ 0 ∷ []) $ group ! 5 $
      use1 𝓛 (later (some (λ (δ : GName). raw (Part 𝓛 Handle Home (slot_with d) (named 0) κ q rb ro b o γ (sem 𝓛 (Rest d rb ro b o hv)) (back d rb ro b o hv e) x δ))))
      (lends_Part 𝓛 Handle Home (slot_with d) (named 0) κ q rb ro b o γ (sem 𝓛 (Rest d rb ro b o hv)) (back d rb ro b o hv e) coded coded x) $ await ! tt $ pick ! (λ δ.
      returns ! (look_at ! 0 refl) $ free_all ! refl $ keep ! (0 ∷ []) $
      by ! (qed 𝓛 (‵ ((MutRef (named 0) κ Home).own_val (record { ref_ptr = (b, o); ghost_name = δ; now = x }) (vptr b o ∷ [])) ∷ ‵ (flft κ q) ∷ ‵ (follows Handle Home γ δ (slot_with d)) ∷ []) ∵
      suffices ! _ (ends_at 𝓛 F.ended stayed held (at z) (vptr b o) (record { ref_ptr = (b, o); ghost_name = δ; now = x }) (tt, tt) (tt, tt)) $
      nothing ! $ nothing ! $ fjoin ! $ join ! $ nothing ! $ move ! (2 ∷ 0 ∷ []) $ join ! $ join ! $ frame ! $ says ! got.1 $ done !))))))

pub lend_spec : {M : Type 1} → stated.statement M
unfolding tables_of
lend_spec 𝓤 𝓛 𝓜 𝓡 wired =
    let 𝓣 : Tables 𝓤 𝓛.H = tables_of 𝓤 𝓛.H 𝓜 (tables 𝓤 𝓛.H 𝓜 𝓡 𝓡.env) in
    let held' = held 𝓛 𝓜.mem 𝓡.returns 𝓣 in
    entered 𝓤 𝓛.H (triple_of 𝓛 F.signature (F.spec 𝓛 𝓜.mem 𝓡.returns)) 𝓣.C 𝓣.Λ #self code.function (code.unfolded 𝓤 𝓛.H 𝓜 𝓡 wired)
    (walk_Meets 𝓛 F.ended stayed (Goes-spent_ref 𝓛 1 (0 ∷ []) tt (plain (λ _. Handle)), tt) held' (WpFn 𝓤 𝓛.H 𝓣.C 𝓣.Λ code.function) (WpFn-mono 𝓤 𝓛.H 𝓛.laws 𝓣 code.function)
    (walked 𝓛 F.ended stayed held' (WpFn 𝓤 𝓛.H 𝓣.C 𝓣.Λ code.function) (λ κs. (mut_vals, tt)) (λ κs. (mut_Tells (named 0) κs.0 Handle, tt))
    (λ κs qs bounds a g are. walk 𝓛 𝓜.mem 𝓡.returns 𝓣 ((κs, qs, bounds, a, (mut_vals a.0, tt)), g))))
