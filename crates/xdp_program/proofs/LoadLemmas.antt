-- What loading answers, by the decoder's and the verifier's laws.
use Rattle.std.proofs.Common.{◌≡◌, ◌≤◌, ◌⊎◌, ℕ, List, Result, Ok, Err, length, refl, subst, inl, inr, arith}
use Rattle.std.specs.Prelude.{MatchResult, IfOk, IfErr}
use Rattle.bpf_insn.specs.Code.{Spells, IsCode}
use Rattle.bpf_insn.specs.Refusal.{IsNoCode}
use Rattle.bpf_insn.specs.declared.insn.Insn.{Insn}
use Rattle.bpf_insn.specs.declared.refusal.Cause.{Cause}
use Rattle.bpf_insn.specs.declared.refusal.Cause.TheVariants as cause
use Rattle.bpf_insn.specs.declared.refusal.Refusal.{Refusal}
use Rattle.bpf_insn.proofs.UniqueLemmas.{one_code, code_or_none}
use Rattle.bpf_note.specs.Shape.{Shape, most_maps}
use Rattle.bpf_verify.specs.Consistent.{Accepted}
use Rattle.bpf_verify.specs.FirstRefusal.{IsFaultless, IsRefusal, at_start}
use Rattle.xdp_program.specs.Refused.{IsRefused, out_of_memory}
use Rattle.xdp_program.specs.Refused.{IsOutOfMemory as IsMemoryFault}
use Rattle.xdp_program.specs.declared.fault.LoadFault.{LoadFault}
use Rattle.xdp_program.specs.declared.fault.LoadFault.TheVariants.{Maps, Refused}

-- memory may run out once the bytes are known to spell a code
pub out_of_memory_refused : (code : List Insn) (bytes : List ℕ) (shapes : List Shape) → Spells code bytes → IsRefused bytes shapes out_of_memory
out_of_memory_refused code bytes shapes s = inr (code, s, at_start refl)

-- the verifier's law
abbrev pub AloneMemory : Type 0
AloneMemory = (code : List Insn) (shapes : List Shape) (c : Cause) (pc : ℕ) → IsCode code → IsFaultless code shapes → IsRefusal code shapes c pc → c ≡ cause.Memory

-- bytes that spell a faultless code are refused only where memory ran out
no_code_out_of_memory : (bytes : List ℕ) (code : List Insn) (r : Refusal) → Spells code bytes → IsNoCode bytes r → r.cause ≡ cause.Memory
no_code_out_of_memory bytes code r s (inl said) = absurd (code_or_none code bytes r.cause r.pc s said)
no_code_out_of_memory bytes code r s (inr out) = out.0

pub either_out_of_memory : AloneMemory → (bytes : List ℕ) (shapes : List Shape) (code : List Insn) (r : Refusal) → IsNoCode bytes r ⊎ ((other : List Insn) × Spells other bytes × IsRefusal other shapes r.cause r.pc) → Spells code bytes → IsFaultless code shapes → r.cause ≡ cause.Memory
either_out_of_memory law bytes shapes code r (inl said) s fine = no_code_out_of_memory bytes code r s said
either_out_of_memory law bytes shapes code r (inr o) s fine = law code shapes r.cause r.pc s.laid_out fine (subst (λ (is : List Insn). IsRefusal is shapes r.cause r.pc) (one_code o.0 code bytes o.1 s) o.2)

pub refused_out_of_memory : AloneMemory → (bytes : List ℕ) (shapes : List Shape) (code : List Insn) (f : LoadFault) → IsRefused bytes shapes f → Spells code bytes → IsFaultless code shapes → length shapes ≤ most_maps → IsMemoryFault f
refused_out_of_memory law bytes shapes code Maps many s fine few = absurd (omega (arith, many, few))
refused_out_of_memory law bytes shapes code (Refused r) h s fine few = either_out_of_memory law bytes shapes code r h s fine

-- so what is answered for a faultless program is that program, or that memory ran out
pub load_accepted : AloneMemory → (r : Result Accepted LoadFault) (bytes : List ℕ) (shapes : List Shape) → IfOk r (λ p. Spells p.code bytes) → IfErr r (IsRefused bytes shapes) →
    (code : List Insn) → Spells code bytes → IsFaultless code shapes → length shapes ≤ most_maps → MatchResult r (λ p. p.code ≡ code) IsMemoryFault
load_accepted law (Ok p) bytes shapes spelled refused code s fine few = one_code p.code code bytes spelled s
load_accepted law (Err f) bytes shapes spelled refused code s fine few = refused_out_of_memory law bytes shapes code f refused s fine few
