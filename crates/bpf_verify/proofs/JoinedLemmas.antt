-- Where the ways that meet are too many.
use Rattle.std.proofs.Common.{Option, Some, None}
use Rattle.std.specs.Prelude.{IfNone}

-- what holds where there is nothing follows from what holds there
pub none_from : {A : Type 0} (o : Option A) {P Q : Type 0} → IfNone o P → (P → Q) → IfNone o Q
none_from None h f = f h
none_from (Some a) h f = h
