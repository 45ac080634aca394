use Rattle.std.proofs.Common.{◌≡◌, ℕ, List, length, map, sym, subst}
use Rattle.std.specs.Prelude.{slice_get, Contains}
use Rattle.bpf_insn.specs.Register.{number}
use Rattle.bpf_insn.specs.declared.insn.Insn.{Insn}
use Rattle.bpf_note.specs.Facts.{Facts}
use Rattle.bpf_note.specs.Parts.{facts}
use Rattle.bpf_verify.specs.FirstRefusal.{IsStructured}
use Rattle.bpf_verify.specs.Lost.{IsLastWrite, ComesWith, Loses}
use Rattle.bpf_verify.proofs.ComeLemmas.{comes_once}
use Rattle.bpf_verify.proofs.LostLemmas.{writes_begins, one_write}
use Rattle.bpf_verify.proofs.PassingLemmas.{begun_inside}
use Rattle.bpf_verify.proofs.lost.lost_at.Goals as goal

pub notes_at-requires-clause-structured : goal.notes_at-requires-clause-structured
notes_at-requires-clause-structured c = subst (λ (code : List Insn). IsStructured code (length c.args.shapes.now)) (sym c.insns-insns.ensures.same) c.requires.structured

pub first_lost-requires-clause-structured : goal.first_lost-requires-clause-structured
first_lost-requires-clause-structured c = subst (λ (code : List Insn). IsStructured code (length c.args.shapes.now)) (sym c.insns-insns.ensures.same) c.requires.structured

pub first_lost-requires-clause-there : goal.first_lost-requires-clause-there
first_lost-requires-clause-there c =
    let insns = c.insns-insns.result.now in
    begun_inside insns c.in-Some.at (writes_begins (slice_get insns c.in-Some.at) (number c.args.register) c.in-Some.ensures.some.writes)

pub returns-in_default-2-clause-none : goal.returns-in_default-2-clause-none
returns-in_default-2-clause-none c = λ p n h.
    let code = c.args.code.now in
    let same : c.insns-insns.result.now ≡ code = c.insns-insns.ensures.same in
    let k = number c.args.register in
    let write = subst (λ (code : List Insn). IsLastWrite code k c.args.pc c.in-Some.at) same c.in-Some.ensures.some in
    let slot : p ≡ c.in-Some.at = one_write code k c.args.pc p c.in-Some.at h.write write in
    let comes = subst (λ (q : ℕ). ComesWith code c.args.shapes.now q h.list) slot h.comes in
    (rw c.in_default-2.is at c.in_ok-list.ensures.none) h.list (subst (λ (code : List Insn). ComesWith code c.args.shapes.now c.in-Some.at h.list) (sym same) comes)

pub returns-in-None-clause-none : goal.returns-in-None-clause-none
returns-in-None-clause-none c = λ p n h.
    let code = c.args.code.now in
    let shapes = c.args.shapes.now in
    let same : c.insns-insns.result.now ≡ code = c.insns-insns.ensures.same in
    let k = number c.args.register in
    let at = c.in-Some.at in
    let list = map (λ b. facts b.value) c.in-Some-2.list.items in
    let write = subst (λ (code : List Insn). IsLastWrite code k c.args.pc at) same c.in-Some.ensures.some in
    let slot : p ≡ at = one_write code k c.args.pc p at h.write write in
    let here = subst (λ (code : List Insn). ComesWith code shapes at list) same (rw c.in-Some-2.is at c.in_ok-list.ensures.some) in
    let listed : h.list ≡ list = comes_once code shapes c.insns-insns.ensures.code c.requires.structured at h.list list (subst (λ (q : ℕ). ComesWith code shapes q h.list) slot h.comes) here in
    let loses = subst (λ (q : ℕ). Loses code shapes q k n) slot h.loses in
    (rw c.in-None.is at c.in_ok-first_lost.ensures.none) n (subst (λ (ns : List Facts). Contains ns n) listed h.there) (subst (λ (code : List Insn). Loses code shapes at k n) (sym same) loses)
