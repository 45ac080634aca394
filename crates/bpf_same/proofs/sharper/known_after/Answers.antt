use Rattle.std.proofs.Common.{Some, None, ◌≡◌}
use Rattle.bpf_same.proofs.sharper.known_after.Goals as goal

not_none : {A P : Type 0} {x : A} → Some x ≡ None → P
not_none e = cc

pub returns-in_ok-with_result-in-Ok-One-clause-refused : goal.returns-in_ok-with_result-in-Ok-One-clause-refused
returns-in_ok-with_result-in-Ok-One-clause-refused c = λ e. not_none e

pub returns-in-Ok-Two-clause-refused : goal.returns-in-Ok-Two-clause-refused
returns-in-Ok-Two-clause-refused c = λ e. not_none e

pub returns-in-Ok-clause-refused : goal.returns-in-Ok-clause-refused
returns-in-Ok-clause-refused c = λ e. not_none e
