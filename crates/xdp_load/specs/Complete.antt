-- Stated: claims rest on this file.
-- That a setup is one of some document: what its fields hold fits them.
use Rattle.std.specs.Prelude.{◌<◌, ◌^◌, ◌≡◌, Ok}
use Rattle.std.specs.List.{AllByRecursion}
use Rattle.hex.specs.Hex.{IsBytes}
use Rattle.toml.specs.Data.{Members}
use Rattle.xdp_load.specs.Setup.{SetupView, setup_of_table}

-- bytes below 256, and words below 2 ^ 32
pub record HasFields (s : SetupView) : Type 0 where
  pub program : IsBytes s.program
  pub ifindex : s.ifindex < 2 ^ 32
  pub start : s.start < 2 ^ 32
  pub answers : AllByRecursion (λ p. p.1 < 2 ^ 32) s.script
  pub packets : AllByRecursion (λ p. IsBytes p.bytes) s.packets

-- some document has this setup
abbrev pub IsWritten : SetupView → Type 0
IsWritten s = (document : Members) × (setup_of_table document ≡ Ok s)
