-- Stated: claims rest on this file.
-- What settings beside a program or a function stand for.
use Rattle.std.specs.Prelude.{map, string_bytes, List, ℕ}
use Rattle.xdp_load.specs.declared.function.Beside.{Beside}
use Rattle.xdp_load.specs.declared.function.Beside.TheVariants.{Program, Function}
use Rattle.xdp_load.specs.declared.function.OfFunction.{OfFunction}
use Rattle.xdp_load.specs.declared.fault.LoadError.{LoadError}
use Rattle.xdp_load.specs.declared.fault.LoadError.TheVariants as error
use Rattle.xdp_load.specs.Function.{BesideView, FunctionView, IsBesideFault, listed_in_beside, of_function, of_program}
use Rattle.xdp_load.specs.Listed.{ListedView}
use Rattle.xdp_load.specs.OriginalSeen.{place_view, rewritten_view}
use Rattle.xdp_load.specs.SetupSeen.{setup_view}
use Rattle.xdp_load.specs.SpotSeen.{refused_seen}

abbrev pub function_view : OfFunction → FunctionView
function_view x = record {
  setup = setup_view x.listed.setup;
  lists = x.listed.lists.items;
  object = x.object.items;
  function = string_bytes x.function;
  places = map place_view x.places.items;
}

abbrev pub beside_view : Beside → BesideView
beside_view (Program r) = of_program (rewritten_view r)
beside_view (Function x) = of_function (function_view x)

abbrev pub beside_listed : Beside → ListedView
beside_listed b = listed_in_beside (beside_view b)

-- memory ran out, or this is the text's first fault and its spot
abbrev pub IsBesideError : List ℕ → LoadError → Type 0
IsBesideError text error.Memory = Unit {0}
IsBesideError text (error.Refused r) = IsBesideFault text (refused_seen r)
