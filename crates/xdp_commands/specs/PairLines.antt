-- Stated: claims rest on this file.
-- The lines of queues that ran on threads.
use Rattle.std.specs.Prelude.{ℕ, ◌+◌, List, [], ◌∷◌, ◌++◌, codes, decimal, Option, None, Some}
use Rattle.xen_turns.specs.Causes.{halt_number}
use Rattle.xen_turns.specs.declared.turn.Halt.{Halt}
use Rattle.thread_pair.specs.declared.host.OnPass.{OnPass}
use Rattle.thread_pair.specs.declared.host.OnPass.TheVariants as host
use Rattle.thread_pair.specs.declared.report.Deliveries.{Deliveries}
use Rattle.thread_pair.specs.declared.report.PairReport.{PairReport}
use Rattle.thread_pair.specs.declared.report.PairRow.{PairRow}
use Rattle.xdp_commands.specs.CounterLines.{totals_text}
use Rattle.xdp_commands.specs.Lines.{refused_text}
use Rattle.xdp_commands.specs.declared.pairing.Paired.{Paired}
use Rattle.xdp_commands.specs.declared.pairing.Paired.TheVariants as paired

-- the cause's number, 0 if the queue wasn't halted
abbrev pub halted_number : Option Halt → ℕ
halted_number None = 0
halted_number (Some h) = halt_number h

-- packets that the back refused, its halt, and packets that came to the front
abbrev pub ends_text : PairRow → List ℕ
ends_text r =
    codes " refused " ++ (decimal r.refused ++ (codes " halted "
    ++ (decimal (halted_number r.halted) ++ (codes " received " ++ (decimal r.received ++ codes "\n")))))

-- packets that the front sent, that the back copied, and the rest
abbrev pub row_text : ℕ → PairRow → List ℕ
row_text queue r = codes "queue " ++ (decimal queue
    ++ (codes " sent " ++ (decimal r.sent ++ (codes " copied " ++ (decimal r.copied ++ ends_text r)))))

-- what became of the answers of a host that answers: sent, too few slots, a grant that failed
abbrev pub delivered_text : OnPass → ℕ → Deliveries → List ℕ
delivered_text host.Takes queue d = []
delivered_text host.Answers queue d =
    codes "queue " ++ (decimal queue ++ (codes " delivered "
    ++ (decimal d.sent ++ (codes " few " ++ (decimal d.few ++ (codes " refused " ++ (decimal d.refused ++ codes "\n")))))))

abbrev pub queue_text : OnPass → ℕ → PairRow → List ℕ
queue_text h queue r = row_text queue r ++ delivered_text h queue r.deliveries

-- the lines of queues, the first of which is this one
abbrev pub rows_text : OnPass → ℕ → List PairRow → List ℕ
rows_text h queue [] = []
rows_text h queue (r ∷ rs) = queue_text h queue r ++ rows_text h (queue + 1) rs

-- the lines of the queues, then the counters of maps with these names
abbrev pub pair_text : OnPass → List (List ℕ) → PairReport → List ℕ
pair_text h names r = rows_text h 0 r.rows.items ++ totals_text names r.totals

abbrev pub paired_text : OnPass → List (List ℕ) → Paired → List ℕ
paired_text h names (paired.Ran report) = pair_text h names report
paired_text h names (paired.Refused r) = refused_text r
paired_text h names paired.NotMapped = codes "mapping refused\n"
paired_text h names paired.NotStarted = codes "threads refused\n"

-- the status: done, a refused program, or a mapping or a thread that failed
abbrev pub paired_status : Paired → ℕ
paired_status (paired.Ran report) = 0
paired_status (paired.Refused r) = 1
paired_status paired.NotMapped = 4
paired_status paired.NotStarted = 4
