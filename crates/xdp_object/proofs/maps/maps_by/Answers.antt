use Rattle.std.proofs.Common.{ℕ, ◌≡◌, ◌+◌, ◌<◌, List, [], ◌∷◌, ◌++◌, length, get_or, map, ap, subst, sym, ◌∙◌}
use Rattle.std.specs.Prelude.{slice_index, string_bytes}
use Rattle.std.proofs.lemmas.List.{map-append}
use Rattle.std.proofs.lemmas.Result.{err_from_is_err_and}
use Rattle.bpf_note.specs.Shape.{Shape}
use Rattle.xdp_object.specs.Maps.{HasName, HasShape, no_shape}
use Rattle.xdp_object.proofs.MapLemmas.{counted_more, named_more, shaped_more, have_maps, none_at}
use Rattle.xdp_object.proofs.maps.maps_by.Goals as goal

pub returns-in_err-map-clause-err : goal.returns-in_err-map-clause-err
returns-in_err-map-clause-err c =
    let i = c.loop-number.invariant in
    let p = err_from_is_err_and c.from_residual.result c.from_residual.ensures.1 in
    rw (p.1, p.2)
    (none_at c.args.object.now c.args.symbols.now c.loop-number.number c.in_err-map.field-0.0 c.loop-number-test.true
    (have_maps c.args.object.now c.args.symbols.now (map string_bytes c.loop-number.names.items) c.loop-number.shapes.items c.loop-number.number i.named
    i.shaped)
    c.in_err-map.ensures.err)

pub loop-number-preserved : goal.loop-number-preserved
loop-number-preserved c =
    let i = c.loop-number.invariant in
    let o = c.args.object.now in
    let symbols = c.args.symbols.now in
    let n = c.loop-number.number in
    let names = map string_bytes c.loop-number.names.items in
    let name = string_bytes c.in_ok-map.map.name in
    let shapes = c.loop-number.shapes.items in
    let shape = c.in_ok-map.map.shape in
    let pushed : map string_bytes c.push.new.self.items ≡ names ++ name ∷ [] =
    ap (map string_bytes) c.in_ok-push.ensures.items ∙ map-append string_bytes c.loop-number.names.items (c.in_ok-map.map.name ∷ []) in
    let shaped : c.push-in-loop-number.new.self.items ≡ shapes ++ shape ∷ [] = c.in_ok-push-2.ensures.items in
    record {
      names_counted = ap length pushed ∙ counted_more names name n i.names_counted;
      shapes_counted = ap length shaped ∙ counted_more shapes shape n i.shapes_counted;
      named =
          subst (λ (xs : List (List ℕ)). (k : ℕ) → k < n + 1 → HasName o (slice_index symbols k) (get_or xs k [])) (sym pushed)
          (named_more o symbols names name n i.names_counted i.named c.in_ok-map.ensures.name);
      shaped =
          subst (λ (xs : List Shape). (k : ℕ) → k < n + 1 → HasShape o (slice_index symbols k) (get_or xs k no_shape)) (sym shaped)
          (shaped_more o symbols shapes shape n i.shapes_counted i.shaped c.in_ok-map.ensures.shape);
    }
