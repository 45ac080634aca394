use Rattle.std.proofs.Common.{ℕ, zero, suc, ◌≡◌, ◌≤◌, ◌==◌, false, sym, ◌∙◌, arith}
use Rattle.xdp_object.proofs.maps.right_name.Goals as goal

not_empty : (n : ℕ) → (n == 0) ≡ false → 1 ≤ n
not_empty zero h = absurd (cc)
not_empty (suc n) h = omega arith

pub returns-in-Ok-clause-right : goal.returns-in-Ok-clause-right
returns-in-Ok-clause-right c = record {
  some = not_empty _ (sym c.is_empty.ensures ∙ c.if-is_empty.false);
  short = c.if-name-gt-MOST_NAME_BYTES.false;
  text = c.in-Ok.ensures.cases.1;
}

pub returns-in-Err-clause-none : goal.returns-in-Err-clause-none
returns-in-Err-clause-none c = λ h. c.in-Err.ensures.cases.0 h.text
