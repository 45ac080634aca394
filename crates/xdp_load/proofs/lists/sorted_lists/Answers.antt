use Rattle.std.proofs.Common.{◌∙◌, ◌++◌, List, [], ◌∷◌, Option, ap, arith, get_or, option_map, sym, subst}
use Rattle.bpf_lists.specs.declared.list.MapList.{MapList}
use Rattle.xdp_load.specs.ListedFault.{IsListed}
use Rattle.xdp_load.specs.ListedSeen.{list_seen}
use Rattle.xdp_load.proofs.ListedLemmas.{all_listed, below_more, lists_taken}
use Rattle.xdp_load.proofs.lists.sorted_lists.Goals as goal

pub loop-i-preserved : goal.loop-i-preserved
loop-i-preserved c =
    let (made, below) = c.loop-i.invariant in
    let item = c.index-lists-i.result in
    let seen : Option MapList = option_map list_seen (get_or c.args.lists.now c.loop-i.i item) in
    let at = ap (option_map list_seen) c.index-lists-i.is in
    let rows = c.in_ok-given.ensures.list ∙ at in
    let listed = subst IsListed at c.in_ok-given.ensures.listed in (
      c.in_ok-push.ensures.items ∙ ap (λ (x : Option MapList). c.loop-i.sorted.items ++ (x ∷ [])) rows ∙ ap (λ (xs : List (Option MapList)). xs ++ (seen ∷ [])) made
          ∙ sym (lists_taken c.args.lists.now c.loop-i.i item c.loop-i-test.true),
      below_more c.args.lists.now c.loop-i.i item c.loop-i-test.true below listed,
    )

pub returns-clause-listed : goal.returns-clause-listed
returns-clause-listed c =
    let (made, below) = c.loop-i.invariant in
    all_listed c.args.lists.now c.loop-i.i _ (omega (arith, c.loop-i-test.false)) made below
