use Rattle.std.proofs.Common.{◌≡◌, ◌∙◌, ℕ, sym, ap, arith, true, nat_eq}
use Rattle.std.proofs.lemmas.Bool.Decides.{nat_tests}
use Rattle.bpf_note.specs.Fingerprint.{fingerprint_of}
use Rattle.bpf_note.proofs.PartLemmas.{parts_same}
use Rattle.bpf_note.proofs.shared.SharedBounds.look_alike.Goals as goal

equal : (m n : ℕ) → m ≡ n → nat_eq m n ≡ true
equal m n e = grind (arith, nat_tests)

pub returns-then-fingerprint : goal.returns-then-fingerprint
returns-then-fingerprint c =
    rw (← c.self.view_is, ← c.other.view_is) (λ e. c.look_alike.ensures.1 (λ k inside there. ap fingerprint_of
    ((parts_same c.self.inside.low c.other.inside.low c.self.inside.high c.other.inside.high c.self.invariant c.other.invariant e).0 k)))

pub returns-else-fingerprint : goal.returns-else-fingerprint
returns-else-fingerprint c =
    rw (← c.self.view_is, ← c.other.view_is) (λ e. equal c.fingerprint.result c.fingerprint-2.result (c.fingerprint.ensures
    ∙ (ap fingerprint_of (parts_same c.self.inside.low c.other.inside.low c.self.inside.high c.other.inside.high c.self.invariant c.other.invariant e).1 ∙ sym c.fingerprint-2.ensures)))
