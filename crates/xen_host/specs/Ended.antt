-- For proofs: no claim rests on this file.
-- A turn that has halted.
use Rattle.std.specs.Prelude.{Option, None, Some}
use Rattle.xen_turns.specs.declared.turn.Halt.{Halt}
use Rattle.xen_turns.specs.declared.turn.Kind.{Kind}
use Rattle.xen_turns.specs.declared.turn.Kind.TheVariants as kind
use Rattle.xen_host.specs.declared.lane.Lane.{Lane}

-- What became of its packet, if it has.
abbrev pub kind_behind : Option Halt → Kind → Kind
kind_behind None k = k
kind_behind (Some cause) k = kind.Halted cause

abbrev pub halted_lane : Lane → Lane
halted_lane l =
    record l {
      engine = record l.engine {
        work = record l.engine.work {
          answer = record l.engine.work.answer { kind = kind_behind l.engine.state.halt l.engine.work.answer.kind };
        };
      };
    }
