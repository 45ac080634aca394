use Rattle.std.proofs.Common.{◌≡◌, List, ℕ, Some, length, subst, sym, refl, rules}
use Rattle.std.specs.Prelude.{map, string_bytes, vec_len}
use Rattle.std.proofs.lemmas.Result.{err_from_is_err_and}
use Rattle.bpf_object.specs.Object.{Parts}
use Rattle.bpf_object.specs.Program.{IsProgram}
use Rattle.bpf_object.specs.declared.reference.ConstantReference.{ConstantReference}
use Rattle.bpf_object.specs.declared.reference.MapReference.{MapReference}
use Rattle.xdp_object.specs.Constants.{AreBehind}
use Rattle.xdp_object.specs.Link.{Links, links_of}
use Rattle.xdp_object.specs.LinkSeen.{links_seen}
use Rattle.xdp_object.specs.Maps.{AreMaps, IsNoMaps}
use Rattle.xdp_object.specs.MapsSeen.{IsUnplacedFrom, maps_seen, unlisted}
use Rattle.xdp_object.specs.Setup.{IsLinked}
use Rattle.xdp_object.proofs.ConstantsLemmas.{are_unlisted, no_constants}
use Rattle.xdp_object.proofs.MapLemmas.{no_maps}
use Rattle.xdp_object.proofs.setup.setup_in.Goals as goal

is_linked : (o : Parts) (name code : List ℕ) (ms ns : List MapReference) (cs ds : List ConstantReference) (l : Links) →
    IsProgram o name code ms cs → ns ≡ ms → ds ≡ cs → links_of code ns ds ≡ Some l → IsLinked o name l
is_linked o name code ms ns cs ds l is m c link = record {
  code = code;
  maps = ns;
  constants = ds;
  is =
      subst (λ (xs : List MapReference). IsProgram o name code xs ds) (sym m)
      (subst (λ (xs : List ConstantReference). IsProgram o name code ms xs) (sym c) is);
  link = link;
}

pub returns-in_err-maps-clause-err : goal.returns-in_err-maps-clause-err
returns-in_err-maps-clause-err c =
    let o = c.args.object.now in
    let l = links_seen c.in_ok-linked.linked in
    let linked : IsLinked o c.args.name.now l =
    is_linked o c.args.name.now c.in-Ok.program.code.now _ _ _ _ l c.in-Ok.ensures.ok c.as_slice.ensures.value c.as_slice-2.ensures.value
    c.in_ok-linked.ensures.ok in
    let p = err_from_is_err_and c.from_residual-in_err-maps.result c.from_residual-in_err-maps.ensures.1 in
    rw (p.1, p.2)
    (no_maps o c.args.name.now l c.in_err-maps.field-0.0 linked
    (subst (λ (symbols : List ℕ). IsNoMaps o symbols c.in_err-maps.field-0.0) c.as_slice-3.ensures.value c.in_err-maps.ensures.err))

pub returns-in_err-maps-2-clause-err : goal.returns-in_err-maps-2-clause-err
returns-in_err-maps-2-clause-err c =
    let o = c.args.object.now in
    let l = links_seen c.in_ok-linked.linked in
    let linked : IsLinked o c.args.name.now l =
    is_linked o c.args.name.now c.in-Ok.program.code.now _ _ _ _ l c.in-Ok.ensures.ok c.as_slice.ensures.value c.as_slice-2.ensures.value
    c.in_ok-linked.ensures.ok in
    let m = c.in_ok-maps.maps in
    let are : AreMaps o l.maps (map string_bytes m.names.items) m.shapes.items =
    subst (λ (symbols : List ℕ). AreMaps o symbols (map string_bytes m.names.items) m.shapes.items) c.as_slice-3.ensures.value
    c.in_ok-maps.ensures.ok in
    let counted : vec_len m.shapes ≡ length l.maps = search (rules, are.shapes_counted) in
    let p = err_from_is_err_and c.from_residual-in_err-maps-2.result c.from_residual-in_err-maps-2.ensures.1 in
    rw (p.1, p.2)
    (no_constants o c.args.name.now l (unlisted m) (vec_len m.shapes) c.in_err-maps-2.field-0.0 linked (are_unlisted o l.maps m are) counted
    (subst (λ (ss : List ℕ). IsUnplacedFrom o (unlisted m) (vec_len m.shapes) ss c.in_err-maps-2.field-0.0) c.as_slice-4.ensures.value
    c.in_err-maps-2.ensures.err))

pub returns-clause-ok : goal.returns-clause-ok
returns-clause-ok c =
    let o = c.args.object.now in
    let l = links_seen c.in_ok-linked.linked in
    let m = c.in_ok-maps.maps in
    let are : AreMaps o l.maps (map string_bytes m.names.items) m.shapes.items =
    subst (λ (symbols : List ℕ). AreMaps o symbols (map string_bytes m.names.items) m.shapes.items) c.as_slice-3.ensures.value
    c.in_ok-maps.ensures.ok in
    record {
      links = l;
      link =
          is_linked o c.args.name.now c.in-Ok.program.code.now _ _ _ _ l c.in-Ok.ensures.ok c.as_slice.ensures.value c.as_slice-2.ensures.value
          c.in_ok-linked.ensures.ok;
      program = refl;
      first = unlisted m;
      maps = are_unlisted o l.maps m are;
      constants =
          subst (λ (ss : List ℕ). AreBehind o (unlisted m) ss (maps_seen c.in_ok-maps-2.maps)) c.as_slice-4.ensures.value
          c.in_ok-maps-2.ensures.ok;
    }
