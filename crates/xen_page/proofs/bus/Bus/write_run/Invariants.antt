use Rattle.std.proofs.Common.{◌≡◌, ◌<◌, ◌*◌, ◌^◌, List, ℕ, length, take}
use Rattle.std.specs.Prelude.{All}
use Rattle.std.specs.Int.{w32, to_le_bytes}
use Rattle.std.specs.List.{flat_map}
use Rattle.xen_page.specs.Access.{Performs}
use Rattle.xen_page.specs.Run.{writes_of}
use Rattle.xen_page.proofs.bus.Bus.write_run.Given as goal

abbrev pub invariant-loop-number : goal.invariant-loop-number
invariant-loop-number g l =
    record {
      size : g.Self.Bus.size l.self ≡ g.Self.Bus.size l.fn.self;
      written : (words : List ℕ) × (length words ≡ l.number) × All (λ word. word < 2 ^ 32) words
          × (take (4 * l.number) l.bytes ≡ flat_map (to_le_bytes w32) words)
          × Performs g.Self.Bus.log g.Self.Bus.access_gives l.fn.self (writes_of l.at words) l.self;
    }
