-- An answer that is the rule's accounts for what the instruction does, and a refusal that is the rule's isn't out of memory.
use Rattle.std.proofs.Common.{◌≡◌, ℕ, ◌<◌, List, length, refl, subst, sym, ap, ◌∙◌}
use Rattle.std.specs.Prelude.{Ok, Err}
use Rattle.bpf_insn.specs.declared.insn.Insn.{Insn}
use Rattle.bpf_insn.specs.declared.refusal.Cause.{Cause}
use Rattle.bpf_insn.specs.declared.refusal.Cause.TheVariants.{Memory, Length, Opcode, Register, Target, BackJump, End, Unset, FramePointer, NoPointer, Packet, Stack, Context, MayBeNull, MapAccess, Helper, MapNumber, Argument, Unsupported}
use Rattle.bpf_note.specs.Shape.{Shape}
use Rattle.bpf_note.specs.State.{State}
use Rattle.bpf_note.specs.Facts.{Facts}
use Rattle.bpf_note.specs.Describes.{Describes}
use Rattle.bpf_flow.specs.Edges.{Edges, Answer}
use Rattle.bpf_flow.specs.Gives.{Fails}
use Rattle.bpf_flow.specs.Step.{exec}
use Rattle.bpf_flow.specs.Rule.{after_of, IsRuled}
use Rattle.bpf_flow.specs.Sound.{Accounts, HasWords}
use Rattle.bpf_flow.proofs.CauseLemmas.{rule_causes}
use Rattle.bpf_flow.proofs.SoundLemmas.{after_sound}

pub edges_sound : (es : Edges) (i : Insn) (pc : ℕ) (n : Facts) (shapes : List Shape) → HasWords i → pc < 4096 → IsRuled i pc (length shapes) → after_of i pc n shapes ≡ Ok es →
    (s : State) → Describes n s → s.pc ≡ pc → s.shapes ≡ shapes → Accounts es (exec i s)
edges_sound es i pc n shapes words small ruled g = λ s d p m.
    after_sound n s d i es words (subst (λ (q : ℕ). q < 4096) (sym p) small)
    (subst (λ (q : ℕ). IsRuled i q (length s.shapes)) (sym p) (subst (λ (ms : List Shape). IsRuled i pc (length ms)) (sym m) ruled))
    (ap (λ (q : ℕ). after_of i q n s.shapes) p ∙ (ap (λ (ms : List Shape). after_of i pc n ms) m ∙ g))

-- the rule itself never answers out of memory
pub never_memory : (i : Insn) (pc : ℕ) (n : Facts) (shapes : List Shape) → IsRuled i pc (length shapes) → after_of i pc n shapes ≡ Err Memory → ⊥
never_memory i pc n shapes ruled h = rule_causes i pc n shapes Memory ruled h

-- what the rule refuses fails, where the cause isn't out of memory
pub refused_fails : (c : Cause) (a : Answer) → (c ≡ Memory → ⊥) → a ≡ Err c → Fails c a
refused_fails Memory a other h = absurd (other refl)
refused_fails Length a other h = h
refused_fails Opcode a other h = h
refused_fails Register a other h = h
refused_fails Target a other h = h
refused_fails BackJump a other h = h
refused_fails End a other h = h
refused_fails Unset a other h = h
refused_fails FramePointer a other h = h
refused_fails NoPointer a other h = h
refused_fails Packet a other h = h
refused_fails Stack a other h = h
refused_fails Context a other h = h
refused_fails MayBeNull a other h = h
refused_fails MapAccess a other h = h
refused_fails Helper a other h = h
refused_fails MapNumber a other h = h
refused_fails Argument a other h = h
refused_fails Unsupported a other h = h

pub refused_by : (i : Insn) (pc : ℕ) (n : Facts) (shapes : List Shape) (c : Cause) → IsRuled i pc (length shapes) → after_of i pc n shapes ≡ Err c → Fails c (after_of i pc n shapes)
refused_by i pc n shapes c ruled h =
    refused_fails c (after_of i pc n shapes) (λ (m : c ≡ Memory). never_memory i pc n shapes ruled (subst (λ (k : Cause). after_of i pc n shapes ≡ Err k) m h)) h
