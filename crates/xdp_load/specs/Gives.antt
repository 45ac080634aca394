-- Stated: claims rest on this file.
-- What a call that may run out of memory answers, and how a fault gets its spot.
use Rattle.std.specs.Prelude.{ℕ, suc, ◌≡◌, List, [], ◌∷◌, Option, Some, None, Result, Ok, Err}
use Rattle.xdp_load.specs.declared.fault.Fault.{Fault}
use Rattle.xdp_load.specs.declared.fault.LoadError.{LoadError}
use Rattle.xdp_load.specs.declared.fault.LoadError.TheVariants as error
use Rattle.xdp_load.specs.declared.fault.TextFault.{TextFault}
use Rattle.xdp_load.specs.declared.fault.TextFault.TheVariants as fault
use Rattle.xdp_load.specs.declared.fault.Part.TheVariants.{Original}
use Rattle.xdp_load.specs.declared.key.Key.{Key}
use Rattle.xdp_load.specs.Spot.{Refused, Spot, at, refused, row}
use Rattle.xdp_load.specs.SpotSeen.{refused_seen}

-- the fault and its spot are those that reading gives, or memory ran out
abbrev pub Fails : {Y : Type 0} → LoadError → Result Y Refused → Type 0
Fails error.Memory read = Unit {0}
Fails (error.Refused r) read = read ≡ Err (refused_seen r)

-- what was returned, seen by `view`, is what reading gives, unless memory ran out
abbrev pub Gives : {X Y : Type 0} → (X → Y) → Result X LoadError → Result Y Refused → Type 0
Gives view (Ok x) read = read ≡ Ok (view x)
Gives view (Err e) read = Fails e read

-- the error is this fault at this spot
abbrev pub IsError : Refused → LoadError → Type 0
IsError f error.Memory = ⊥
IsError f (error.Refused r) = refused_seen r ≡ f

-- the fault alone
abbrev pub fault_of : LoadError → TextFault
fault_of error.Memory = fault.Memory
fault_of (error.Refused r) = fault.Refused r.fault

-- reading gives this fault, at some spot, or memory ran out
abbrev pub HasFault : {Y : Type 0} → TextFault → Result Y Refused → Type 0
HasFault fault.Memory read = Unit {0}
HasFault (fault.Refused f) read = (r : Refused) × (read ≡ Err r) × (r.fault ≡ f)

infixl 10 ◌>>=◌
abbrev pub ◌>>=◌ : {A B E : Type 0} → Result A E → (A → Result B E) → Result B E
(Ok x) >>= f = f x
(Err e) >>= f = Err e

-- what reading gives, seen by f
abbrev pub seen_by : {A B E : Type 0} → (A → B) → Result A E → Result B E
seen_by f (Ok x) = Ok (f x)
seen_by f (Err e) = Err e

abbrev pub or_else : {A E : Type 0} → E → Option A → Result A E
or_else e (Some x) = Ok x
or_else e None = Err e

abbrev pub or_refused : {A : Type 0} → Fault → Spot → Option A → Result A Refused
or_refused f s = or_else (refused f s)

-- what a key of the document gives: its fault is at that key
abbrev pub in_key : {A : Type 0} → Fault → Result A Key → Result A Refused
in_key f (Ok x) = Ok x
in_key f (Err k) = Err (refused f (at k))

-- what the row with that number gives: its fault is at that row
abbrev pub in_row : {A : Type 0} → Fault → ℕ → Result A Key → Result A Refused
in_row f n (Ok x) = Ok x
in_row f n (Err k) = Err (refused f (row k n))

-- what the original's table gives
abbrev pub in_original : {A : Type 0} → Result A Refused → Result A Refused
in_original (Ok x) = Ok x
in_original (Err r) = Err (record { fault = r.fault; part = Original; spot = r.spot })

-- the same of an error of the code
abbrev pub original_error : LoadError → LoadError
original_error error.Memory = error.Memory
original_error (error.Refused r) = error.Refused (record { fault = r.fault; part = Original; spot = r.spot })

-- each row by f, numbered from n on: the first that f refuses is the fault
abbrev pub each : {A B : Type 0} → Fault → (A → Result B Key) → ℕ → List A → Result (List B) Refused
each f read n [] = Ok []
each f read n (x ∷ xs) = in_row f n (read x) >>= (λ y. each f read (suc n) xs >>= (λ ys. Ok (y ∷ ys)))
