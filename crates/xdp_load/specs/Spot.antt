-- Stated: claims rest on this file.
-- Why and where settings are refused.
use Rattle.std.specs.Prelude.{ℕ, List}
use Rattle.xdp_load.specs.declared.fault.Fault.{Fault}
use Rattle.xdp_load.specs.declared.fault.Part.{Part}
use Rattle.xdp_load.specs.declared.fault.Part.TheVariants.{Settings}
use Rattle.xdp_load.specs.declared.key.Key.{Key}

-- the text as a whole; the place at which TOML's reader stopped; a key of a table; a row of a list, by its number from 0, and which
-- of its keys; a key that settings don't have
pub data Spot : Type 0 where
  whole : Spot
  stopped : Spot
  at : Key → Spot
  row : Key → ℕ → Spot
  unknown : List ℕ → Spot

-- a fault, and where it is: in the settings' own keys or in the original's, and at which spot
pub record Refused : Type 0 where
  pub fault : Fault
  pub part : Part
  pub spot : Spot

-- a fault of the settings' own keys
abbrev pub refused : Fault → Spot → Refused
refused f s = record { fault = f; part = Settings; spot = s }
