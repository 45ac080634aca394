use Rattle.std.proofs.Common.{◌≡◌, ℕ, List, ◌∷◌, ◌++◌, [], ◌+◌, map, sym, ap, ◌∙◌, refl, arith}
use Rattle.std.specs.List.{range_with_len}
use Rattle.std.proofs.lemmas.List.FromFn.{map-range_with_len_more}
use Rattle.xen_buffers.specs.declared.wiring.GrantedPage.{GrantedPage}
use Rattle.xdp_world.specs.Buffers.{granted}
use Rattle.xdp_world.proofs.buffers.buffers_from.Goals as goal

pub loop-id-preserved : goal.loop-id-preserved
loop-id-preserved c =
    c.in_ok-push.ensures.items
    ∙ (ap (λ (l : List GrantedPage). l ++ granted (c.args.first + c.loop-id.id) ∷ []) c.loop-id.invariant ∙ sym (map-range_with_len_more granted c.args.first c.loop-id.id (c.args.first + c.loop-id.id) refl))

pub returns : goal.returns
returns c =
    let e = c.loop-id.auto.id-end in
    let f = c.loop-id-test.false in
    let all : c.loop-id.id ≡ 256 = omega arith in
    c.loop-id.invariant ∙ ap (λ (n : ℕ). map granted (range_with_len c.args.first n)) all
