use Rattle.std.proofs.Common.{◌≡◌, None, length, replicate, rules}
use Rattle.xdp_object.specs.MapsSeen.{maps_seen, unlisted}
use Rattle.xdp_object.proofs.ConstantsLemmas.{nothing_behind, one_behind, one_counted}
use Rattle.xdp_object.proofs.constants.with_constants.Goals as goal

pub loop-number-init : goal.loop-number-init
loop-number-init c =
    let lists : c.in_ok-no_lists.field-0.items ≡ replicate (length c.args.maps.shapes.items) None =
    search (rules, c.no_lists.ensures, c.len-first.ensures) in
    record { behind = nothing_behind c.args.object.now c.args.maps c.in_ok-no_lists.field-0.items lists; counted = search rules }

pub loop-number-preserved : goal.loop-number-preserved
loop-number-preserved c =
    let i = c.loop-number.invariant in
    let added = c.in_ok-add-in-Ok.ensures.ok in
    record {
      behind =
          one_behind c.args.object.now (unlisted c.args.maps) (maps_seen c.loop-number.all) (maps_seen c.add.new.self) c.args.sections.now
          c.loop-number.number c.in-Ok.constants.name.now c.in-Ok.constants.bytes.now c.loop-number-test.true i.behind c.in-Ok.ensures.ok added;
      counted =
          one_counted (maps_seen c.loop-number.all) (maps_seen c.add.new.self) (length c.args.maps.shapes.items) c.loop-number.number
          c.in-Ok.constants.name.now c.in-Ok.constants.bytes.now added i.counted;
    }
