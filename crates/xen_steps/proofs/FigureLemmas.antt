-- How many instructions and notices a trace has at most.
use Rattle.std.proofs.Common.{◌≡◌, ℕ, suc, ◌+◌, ◌≤◌, List, [], ◌∷◌, ◌++◌, refl, arith}
use Rattle.xen_steps.specs.Drive.{notices_in, program_events}
use Rattle.xen_steps.specs.Event.{Event, Read, Write, Instr, Load, Add, Notify}

pub record HasAtMost (t : List Event) (instructions notices : ℕ) : Type 0 where
  pub steps : program_events t ≤ instructions
  pub told : notices_in t ≤ notices

events-append : (t u : List Event) → program_events (t ++ u) ≡ program_events t + program_events u
events-append [] u = omega arith
events-append (Read at v ∷ t) u = events-append t u
events-append (Write at v ∷ t) u = events-append t u
events-append (Instr ∷ t) u = omega (arith, events-append t u)
events-append (Load m k j v ∷ t) u = omega (arith, events-append t u)
events-append (Add m k j d v ∷ t) u = omega (arith, events-append t u)
events-append (Notify p ∷ t) u = events-append t u

notices-append : (t u : List Event) → notices_in (t ++ u) ≡ notices_in t + notices_in u
notices-append [] u = omega arith
notices-append (Read at v ∷ t) u = notices-append t u
notices-append (Write at v ∷ t) u = notices-append t u
notices-append (Instr ∷ t) u = notices-append t u
notices-append (Load m k j v ∷ t) u = notices-append t u
notices-append (Add m k j d v ∷ t) u = notices-append t u
notices-append (Notify p ∷ t) u = omega (arith, notices-append t u)

pub most_append : (t u : List Event) (a b c d : ℕ) → HasAtMost t a b → HasAtMost u c d → HasAtMost (t ++ u) (a + c) (b + d)
most_append t u a b c d h g = record { steps = omega (arith, events-append t u, h.steps, g.steps); told = omega (arith, notices-append t u, h.told, g.told) }

pub most_more : (t : List Event) (a b c d : ℕ) → HasAtMost t a b → a ≤ c → b ≤ d → HasAtMost t c d
most_more t a b c d h l m = record { steps = omega (arith, h.steps); told = omega (arith, h.told) }
