use Rattle.std.proofs.Common.{◌∙◌, ap, sym, subst, List, Option}
use Rattle.bpf_lists.specs.declared.list.MapList.{MapList}
use Rattle.xdp_load.specs.ListedSeen.{lists_seen}
use Rattle.xdp_load.specs.ListedSound.{IsListedSound}
use Rattle.xdp_load.specs.SetupSeen.{setup_view}
use Rattle.xdp_load.proofs.ListedSoundLemmas.{listed_sound}
use Rattle.xdp_load.proofs.listed.load_listed.Goals as goal

pub returns-clause-sound : goal.returns-clause-sound
returns-clause-sound c =
    let sound = listed_sound c.args.bytes.now _ c.in_ok-unsorted.ensures.gives in
    subst (λ (ls : List (Option MapList)). IsListedSound (record { setup = setup_view c.in_ok-unsorted.unsorted.setup; lists = ls })) (sym (c.in_ok-lists.ensures.rows ∙ ap lists_seen c.as_slice.ensures.value)) sound
