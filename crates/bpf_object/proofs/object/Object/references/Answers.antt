use Rattle.std.proofs.Common.{◌≡◌, true, false, subst, rules}
use Rattle.bpf_object.specs.Program.{relocation, is_within, IsWrong, outside}
use Rattle.bpf_object.specs.References.{IsTarget}
use Rattle.bpf_object.specs.declared.relocation.Relocation.{Relocation}
use Rattle.bpf_object.proofs.ReferenceLemmas.{nothing_yet, one_more, maps_inside, constants_inside}
use Rattle.bpf_object.proofs.object.Object.references.Goals as goal

pub loop-row-init : goal.loop-row-init
loop-row-init c =
    nothing_yet c.args.self.now c.args.function c.args.rows.now _ _ c.none-references.ensures.maps c.none-references.ensures.constants

pub loop-row-preserved-then-not-is_within : goal.loop-row-preserved-then-not-is_within
loop-row-preserved-then-not-is_within c =
    let out : is_within c.args.function (relocation c.args.rows.now c.loop-row.row) ≡ false =
    search (rules, c.at-relocation.ensures, c.is_within.ensures) in
    outside c.loop-row.row _ _ c.loop-row.invariant out

pub returns-in-Err-clause-err : goal.returns-in-Err-clause-err
returns-in-Err-clause-err c =
    let o = c.args.self.now in
    let f = c.args.function in
    let inside : is_within f (relocation c.args.rows.now c.loop-row.row) ≡ true = search (rules, c.at-relocation.ensures, c.is_within.ensures) in
    record {
      below = search rules;
      inside = search (rules, inside);
      wrong = subst (λ (r : Relocation). IsWrong o f r c.in-Err.cause) c.at-relocation.ensures c.in-Err.ensures.err;
      maps = c.loop-row.references.maps.items;
      constants = c.loop-row.references.constants.items;
      before = c.loop-row.invariant;
    }

pub loop-row-preserved : goal.loop-row-preserved
loop-row-preserved c =
    let o = c.args.self.now in
    let f = c.args.function in
    let inside : is_within f (relocation c.args.rows.now c.loop-row.row) ≡ true = search (rules, c.at-relocation.ensures, c.is_within.ensures) in
    one_more o f c.args.rows.now c.loop-row.row c.loop-row.references c.add.new.self c.in-Ok.target c.loop-row.invariant inside
    (subst (λ (r : Relocation). IsTarget o f r c.in-Ok.target) c.at-relocation.ensures c.in-Ok.ensures.ok) c.in_ok-add-in-Ok.ensures

pub returns-clause-maps : goal.returns-clause-maps
returns-clause-maps c =
    rw c.requires.len
    (maps_inside c.args.self.now c.args.function c.args.rows.now c.loop-row.row _ c.loop-row.references.constants.items c.loop-row.invariant)

pub returns-clause-constants : goal.returns-clause-constants
returns-clause-constants c =
    rw c.requires.len
    (constants_inside c.args.self.now c.args.function c.args.rows.now c.loop-row.row c.loop-row.references.maps.items _ c.loop-row.invariant)
