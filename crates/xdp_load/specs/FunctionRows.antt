-- For proofs: no claim rests on this file.
-- What a function as it is written stands for.
use Rattle.std.specs.Prelude.{map, string_bytes}
use Rattle.xdp_load.specs.declared.function.Function.{Function}
use Rattle.xdp_load.specs.declared.function.UnsortedBeside.{UnsortedBeside}
use Rattle.xdp_load.specs.declared.function.UnsortedBeside.TheVariants as unsorted
use Rattle.xdp_load.specs.declared.function.UnsortedFunction.{UnsortedFunction}
use Rattle.xdp_load.specs.Function.{BesideView, FunctionText, FunctionView, of_function, of_program}
use Rattle.xdp_load.specs.ListedSeen.{lists_seen}
use Rattle.xdp_load.specs.OriginalRows.{rewritten_seen}
use Rattle.xdp_load.specs.OriginalSeen.{place_view}
use Rattle.xdp_load.specs.SetupSeen.{setup_view}
use Rattle.xdp_load.specs.Seen.{place_seen}

abbrev pub function_seen : Function → FunctionText
function_seen f = record { object = f.object.now; function = f.function.now; places = map place_seen f.places.items }

abbrev pub unsorted_function_seen : UnsortedFunction → FunctionView
unsorted_function_seen x = record {
  setup = setup_view x.setup;
  lists = lists_seen x.lists.items;
  object = x.object.items;
  function = string_bytes x.function;
  places = map place_view x.places.items;
}

abbrev pub unsorted_seen : UnsortedBeside → BesideView
unsorted_seen (unsorted.Program r) = of_program (rewritten_seen r)
unsorted_seen (unsorted.Function x) = of_function (unsorted_function_seen x)
