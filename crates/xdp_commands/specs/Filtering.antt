-- Stated: claims rest on this file.
-- What a program makes of a setup's packets, one after another, with the setup's lists, and the lines of it.
use Rattle.std.specs.Prelude.{ℕ, ◌≡◌, List, [], ◌∷◌, ◌++◌, codes, decimal, length, replicate, string_bytes, vec_len, Option, Result, Ok, Err}
use Rattle.hex.specs.Hex.{encode_lower}
use Rattle.bpf_insn.specs.declared.refusal.Refusal.{Refusal}
use Rattle.bpf_lists.specs.declared.list.MapList.{MapList}
use Rattle.bpf_maps.specs.Beginning.{began, given}
use Rattle.bpf_maps.specs.Layout.{total}
use Rattle.bpf_note.specs.Shape.{IsCounter, Shape}
use Rattle.bpf_verify.specs.Consistent.{Accepted as Program}
use Rattle.bpf_vm.specs.Actions.{action_name, action_of}
use Rattle.xdp_load.specs.Listed.{ListedView}
use Rattle.xdp_load.specs.Setup.{Packet}
use Rattle.xdp_program.specs.Ran.{Ran}
use Rattle.xdp_commands.specs.CounterLines.{totals_text}
use Rattle.xdp_commands.specs.Executing.{IsProgramOfBytes, IsRefusalOfBytes}
use Rattle.xdp_commands.specs.Lines.{refused_text}
use Rattle.xdp_commands.specs.declared.filtering.Filtered.{Filtered}

-- the packets in order, each as many times as it says
abbrev pub inputs_of : List Packet → List Packet
inputs_of [] = []
inputs_of (p ∷ ps) = replicate p.times p ++ inputs_of ps

-- what a run left: the action's number, and the packet
pub record Passed : Type 0 where
  pub number : ℕ
  pub bytes : List ℕ

-- runs on these packets in turn with these lists, each with the packet's queue and the words that the last left of the counters
abbrev pub AreRuns : Program → List (Option MapList) → ℕ → List Packet → List ℕ → List Passed → List ℕ → Type 0
AreRuns program lists ifindex [] before [] after = before ≡ after
AreRuns program lists ifindex [] before (r ∷ rs) after = ⊥
AreRuns program lists ifindex (p ∷ ps) before [] after = ⊥
AreRuns program lists ifindex (p ∷ ps) before (r ∷ rs) after =
    (count : ℕ) × (between : List ℕ) × Ran program lists p.bytes ifindex p.queue before r.number r.bytes between count ×
    AreRuns program lists ifindex ps between rs after

-- the action, the packet's length and its bytes in lower-case hex
abbrev pub passed_text : Passed → List ℕ
passed_text r = action_name (action_of r.number) ++ (codes " "
    ++ (decimal (length r.bytes) ++ (codes " " ++ (encode_lower r.bytes ++ codes "\n"))))

abbrev pub passed_lines : List Passed → List ℕ
passed_lines [] = []
passed_lines (r ∷ rs) = passed_text r ++ passed_lines rs

-- runs of the program with these lists, with their lines, from these words and lines to those
pub record HasFiltered (program : Program) (lists : List (Option MapList)) (ifindex : ℕ) (packets : List Packet) (before lines after more : List ℕ) : Type 0 where
  pub runs : List Passed
  pub ran : AreRuns program lists ifindex packets before runs after
  pub printed : more ≡ lines ++ passed_lines runs

-- these words are the counters of maps that begin with the numbers of these lists
pub record AreFirst (shapes : List Shape) (values : List (List ℕ)) (words : List ℕ) : Type 0 where
  pub count : length words ≡ total shapes
  pub begin : (m k j : ℕ) → IsCounter shapes m k j → began shapes words m k j ≡ given shapes values m k j

-- the runs of a setup's accepted program on its packets, from counters that begin with its numbers
pub record IsFilterOfSetup (x : ListedView) (f : Filtered) : Type 0 where
  pub program : Program
  pub accepted : IsProgramOfBytes x.setup.program x.setup.shapes program
  pub width : vec_len f.words ≡ total x.setup.shapes
  pub words : List ℕ
  pub first : AreFirst x.setup.shapes x.setup.values words
  pub goes : HasFiltered program x.lists x.setup.ifindex (inputs_of x.setup.packets) words [] f.words.items
      (string_bytes f.lines)

-- the runs of a setup's packets, or a refusal of its program
abbrev pub Filters : ListedView → Result Filtered Refusal → Type 0
Filters x (Ok f) = IsFilterOfSetup x f
Filters x (Err refusal) = IsRefusalOfBytes x.setup.program x.setup.shapes refusal

-- the lines of the runs, then those of the counters of maps with these names
abbrev pub filtered_text : List (List ℕ) → List Shape → Result Filtered Refusal → List ℕ
filtered_text names shapes (Ok f) = string_bytes f.lines ++ totals_text names (record { shapes = shapes; values = f.words.items })
filtered_text names shapes (Err refusal) = refused_text refusal
