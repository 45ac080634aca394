use Rattle.std.proofs.Common.{ℕ, Option, sym, subst}
use Rattle.bpf_same.specs.LinearForms.{IsAddress}
use Rattle.bpf_same.proofs.decide.is_in_packet.Goals as goal

pub returns : goal.returns
returns c = λ t f g h.
    subst (λ (k : ℕ). IsAddress f (f k)) c.number.ensures.number (subst (λ (o : Option ℕ). IsAddress f o) (sym (c.new_form.ensures f g h)) (c.has_room_of.ensures t f g h))
