use Rattle.std.proofs.Common.{ℕ, List, length, map, sym, subst}
use Rattle.std.specs.Prelude.{IfNone}
use Rattle.std.specs.Global.{Box}
use Rattle.bpf_insn.specs.Register.{number}
use Rattle.bpf_insn.specs.declared.insn.Insn.{Insn}
use Rattle.bpf_note.specs.Facts.{Facts}
use Rattle.bpf_note.specs.Parts.{Noted, facts}
use Rattle.bpf_verify.specs.FirstRefusal.{IsStructured}
use Rattle.bpf_verify.specs.Joined.{IsJoinedIn}
use Rattle.bpf_verify.specs.Lost.{ComesWith}
use Rattle.bpf_verify.proofs.ComeLemmas.{comes_once}
use Rattle.bpf_verify.proofs.JoinedLemmas.{none_from}
use Rattle.bpf_verify.proofs.joined.joined_at.Goals as goal

pub notes_at-requires-clause-structured : goal.notes_at-requires-clause-structured
notes_at-requires-clause-structured c = subst (λ (code : List Insn). IsStructured code (length c.args.shapes.now)) (sym c.insns.ensures.same) c.requires.structured

pub returns-in-None-clause-none : goal.returns-in-None-clause-none
returns-in-None-clause-none c = λ addresses h.
    (rw c.in-None.is at c.in_ok-notes_at.ensures.none) h.list (subst (λ (code : List Insn). ComesWith code c.args.shapes.now c.args.pc h.list) (sym c.insns.ensures.same) h.comes)

pub returns-in-Some-clause-none : goal.returns-in-Some-clause-none
returns-in-Some-clause-none c =
    let code = c.args.code.now in
    let shapes = c.args.shapes.now in
    let k = number c.args.register in
    let list = map (λ b. facts b.value) c.in-Some.list.items in
    let here = subst (λ (code : List Insn). ComesWith code shapes c.args.pc list) c.insns.ensures.same (rw c.in-Some.is at c.in_ok-notes_at.ensures.some) in
    let none = subst (λ (ns : List (Box Noted)). IfNone c.joined_in.result ((addresses : ℕ) → IsJoinedIn (map (λ b. facts b.value) ns) k addresses → ⊥)) c.deref.ensures.value c.joined_in.ensures.none in
    none_from c.joined_in.result none
    (λ no addresses h. no addresses (subst (λ (ns : List Facts). IsJoinedIn ns k addresses) (comes_once code shapes c.insns.ensures.code c.requires.structured c.args.pc h.list list h.comes here) h.joined))
