-- What holds where a refusal's register is asked about.
use Rattle.std.proofs.Common.{◌≡◌, Option, None, Some, IfSome, ap}
use Rattle.std.specs.Prelude.{is_some}
use Rattle.std.proofs.lemmas.Bool.{false≢true}
use Rattle.bpf_insn.specs.declared.register.Register.{Register}
use Rattle.bpf_note.specs.Parts.{Noted}
use Rattle.bpf_verify.specs.declared.verifier.Explained.{Explained}
use Rattle.xdp_commands.specs.Explaining.{lost_register}

pub asked_has : (o : Option Noted) (e : Explained) (r : Register) (P : Type 0) → lost_register o e ≡ Some r → IfSome o (λ _. P) → P
asked_has None e r P h held = absurd (false≢true (ap is_some h))
asked_has (Some n) e r P h held = held
