use Rattle.std.proofs.Common.{◌≡◌, ◌<◌, ◌*◌, ◌^◌, take}
use Rattle.std.specs.Prelude.{All}
use Rattle.std.specs.Int.{w32, to_le_bytes}
use Rattle.std.specs.List.{flat_map}
use Rattle.xen_page.proofs.plain_bus.put_words.Given as goal

abbrev pub invariant-loop-number : goal.invariant-loop-number
invariant-loop-number l =
    record {
      words : take (4 * l.number) l.bytes ≡ flat_map (to_le_bytes w32) (take l.number l.words);
      below : All (λ word. word < 2 ^ 32) (take l.number l.words);
    }
