-- Stated: claims rest on this file.
-- What C gets of a turn of several packets that is over, in the numbers of include/laxonje.h.
use Rattle.std.specs.Prelude.{ℕ, Bool, true, false}
use Rattle.xen_netif.specs.Slots.{tx_flag_bits}
use Rattle.xen_turns.specs.Causes.{halt_number, refusal_number}
use Rattle.xen_turns.specs.declared.turn.Kind.{Kind}
use Rattle.xen_turns.specs.declared.turn.Kind.TheVariants as kind
use Rattle.xen_host.specs.Offload.{Offload, segment_size, segment_type}
use Rattle.xen_host.specs.Ops.{over}
use Rattle.xen_host.specs.declared.op.HostOp.{HostOp}
use Rattle.xen_host.specs.declared.turn_result.TurnResult.{TurnResult}

abbrev pub no_result : TurnResult
no_result =
    record { outcome = 0; ops = 0; number = 0; slots = 0; cause = 0; length = 0; flags = 0; segment_type = 0; segment_size = 0 }

-- What became of a packet of so many bytes, and what its guest leaves undone of it.
abbrev pub result_of : Kind → ℕ → Offload → TurnResult
result_of kind.Idle n o = no_result
result_of (kind.Ran ops number slots) n o =
    record {
      outcome = 1;
      ops = ops;
      number = number;
      slots = slots;
      cause = 0;
      length = n;
      flags = tx_flag_bits o.flags;
      segment_type = segment_type o.segments;
      segment_size = segment_size o.segments;
    }
result_of (kind.Refused cause ops slots) n o = record no_result { outcome = 2; ops = ops; slots = slots; cause = refusal_number cause }
result_of (kind.Halted cause) n o = record no_result { outcome = 3; cause = halt_number cause }

abbrev pub has_run : Kind → Bool
has_run (kind.Ran ops number slots) = true
has_run k = false

-- So many packets' turns are over.
abbrev pub several_op : ℕ → HostOp
several_op n = over 13 0 n
