use Rattle.std.proofs.Common.{ℕ, ◌≡◌, ◌<◌, [], length, get_or, map}
use Rattle.std.specs.Prelude.{slice_index, string_bytes}
use Rattle.xdp_object.specs.Maps.{HasName, HasShape, no_shape}
use Rattle.xdp_object.proofs.maps.maps_by.Given as goal

abbrev pub invariant-loop-number : goal.invariant-loop-number
invariant-loop-number l = record {
  names_counted : length (map string_bytes l.names.items) ≡ l.number;
  shapes_counted : length l.shapes.items ≡ l.number;
  named : (k : ℕ) → k < l.number → HasName l.object (slice_index l.symbols k) (get_or (map string_bytes l.names.items) k []);
  shaped : (k : ℕ) → k < l.number → HasShape l.object (slice_index l.symbols k) (get_or l.shapes.items k no_shape);
}
