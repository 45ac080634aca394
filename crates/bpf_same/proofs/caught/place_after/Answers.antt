use Rattle.std.proofs.Common.{sym, ◌∙◌}
use Rattle.bpf_note.specs.Parts.{facts}
use Rattle.bpf_same.proofs.CaughtLemmas.{led_if}
use Rattle.bpf_same.proofs.caught.place_after.Goals as goal

pub returns-in-Some : goal.returns-in-Some
returns-in-Some c = led_if c.args.old.now (facts c.args.note.now) c.args.here.now c.in-Some.insn c.next_place.result (sym c.insn_at.ensures ∙ c.in-Some.is) c.next_place.ensures
