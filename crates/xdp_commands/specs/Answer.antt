-- Stated: claims rest on this file.
-- What a call prints, and its exit status.
use Rattle.std.specs.Prelude.{ℕ, ◌≡◌, ◌≢◌, ◌<◌, ◌≤◌, ◌⊎◌, List, ◌++◌, length, take, codes, Option, Some, None, IfSome, Result, Ok, Err}
use Rattle.std.specs.Result.{result_ok}
use Rattle.std.specs.Io.KnownBytes.{Appends, Consumes, IsAtEnd, Keeps}
use Rattle.hex.specs.Hex.{decode_of}
use Rattle.bpf_insn.specs.declared.refusal.Refusal.{Refusal}
use Rattle.bpf_vm.specs.declared.ended.Ended.{Ended}
use Rattle.xdp_load.specs.Function.{BesideView, FunctionView, IsBesideFault, IsBesideOf, of_function, of_program}
use Rattle.xdp_load.specs.Listed.{ListedView}
use Rattle.xdp_load.specs.Spot.{Refused as RefusedAt}
use Rattle.xdp_load.specs.Spots.{IsSpotText}
use Rattle.xdp_load.specs.Original.{RewrittenView}
use Rattle.xdp_load.specs.Setup.{SetupView, text_of}
use Rattle.xdp_load.specs.declared.fault.TextFault.{TextFault}
use Rattle.xdp_load.specs.declared.fault.TextFault.TheVariants.{Memory, Refused}
use Rattle.xdp_program.specs.Settings.{IsFirstFault, IsSetupOf}
use Rattle.xdp_world.specs.declared.report.Report.{Report}
use Rattle.xdp_commands.specs.declared.answer.Question.{Question}
use Rattle.xdp_commands.specs.declared.answer.Question.TheVariants as question
use Rattle.xdp_commands.specs.Comparing.{Compares, compared_status, compared_text}
use Rattle.xdp_commands.specs.ComparingFunctions.{ComparesFunction, function_status, function_text}
use Rattle.xdp_commands.specs.declared.comparing.Compared.{Compared}
use Rattle.xdp_commands.specs.declared.comparing_functions.FunctionCompared.{FunctionCompared}
use Rattle.xdp_commands.specs.declared.executing.Accepted.{Accepted}
use Rattle.xdp_commands.specs.Executing.{Checks, Executes, RunsSetup}
use Rattle.xdp_commands.specs.Explaining.{IsOutcome, outcome_status, outcome_text}
use Rattle.xdp_commands.specs.declared.explaining.Outcome.{Outcome}
use Rattle.xdp_commands.specs.Filtering.{Filters, filtered_text}
use Rattle.xdp_commands.specs.declared.filtering.Filtered.{Filtered}
use Rattle.xdp_commands.specs.Help.{help_lines, version_line}
use Rattle.xdp_commands.specs.Lines.{checked_text, executed_text, ran_text, settings_text}
use Rattle.xdp_commands.specs.PairLines.{paired_status, paired_text}
use Rattle.xdp_commands.specs.Pairing.{IsPaired}
use Rattle.xdp_commands.specs.declared.pairing.Paired.{Paired}
use Rattle.thread_pair.specs.declared.host.OnPass.{OnPass}
use Rattle.xdp_commands.specs.Words.{Wanted, exec, check, explain, same, run, filter, pair, help, version}

-- a text, and an exit status
abbrev pub Said : Type 0
Said = List ℕ × ℕ

abbrev pub words_refused : Said
words_refused = (codes "words refused\n", 2)

abbrev pub memory_wanted : Said
memory_wanted = (codes "memory\n", 3)

-- the status of a program that is accepted, or refused
abbrev pub program_status : {A : Type 0} → Result A Refusal → ℕ
program_status (Ok a) = 0
program_status (Err r) = 1

abbrev pub executed_answer : Result Ended Refusal → Said
executed_answer e = (executed_text e, program_status e)

-- the bytes of a hex word, in either case
abbrev pub hex_bytes : List ℕ → Option (List ℕ)
hex_bytes word = result_ok (decode_of word)

-- a packet of at most 65,535 bytes is run on, a longer one is refused words
abbrev pub PacketAnswer : List ℕ → List ℕ → Said → Type 0
PacketAnswer program packet said =
    ((65535 < length packet) × (said ≡ words_refused))
    ⊎ ((length packet ≤ 65535) × ((e : Result Ended Refusal) × Executes program packet e × (said ≡ executed_answer e)))

-- the answer to two words, by the bytes that they stand for
abbrev pub BytesAnswer : Option (List ℕ) → Option (List ℕ) → Said → Type 0
BytesAnswer None packet said = said ≡ words_refused
BytesAnswer (Some program) None said = said ≡ words_refused
BytesAnswer (Some program) (Some packet) said = PacketAnswer program packet said

-- the answer of `exec`
abbrev pub ExecAnswer : List ℕ → List ℕ → Said → Type 0
ExecAnswer program packet said = BytesAnswer (hex_bytes program) (hex_bytes packet) said

abbrev pub settings_refused : TextFault → Said
settings_refused f = (settings_text f, 2)

abbrev pub checked_answer : Result Accepted Refusal → Said
checked_answer c = (checked_text c, program_status c)

-- the answer to a setup: by a check of its program with its maps
abbrev pub SetupAnswer : SetupView → Said → Type 0
SetupAnswer s said = (c : Result Accepted Refusal) × Checks s.program s.shapes c × (said ≡ checked_answer c)

abbrev pub outcome_answer : SetupView → Outcome → Said
outcome_answer s o = (outcome_text s.program s.names s.shapes o, outcome_status o)

-- the answer to a setup: by an explanation of what becomes of its program with its maps
abbrev pub ExplainAnswer : SetupView → Said → Type 0
ExplainAnswer s said = (o : Outcome) × IsOutcome s.program s.shapes o × (said ≡ outcome_answer s o)

abbrev pub compared_answer : Compared → Said
compared_answer c = (compared_text c, compared_status c)

-- the answer to a setup and the program that its own was made of: by a comparison of the two with the setup's maps
abbrev pub SameAnswer : RewrittenView → Said → Type 0
SameAnswer r said = (c : Compared) × Compares r c × (said ≡ compared_answer c)

abbrev pub function_answer : FunctionCompared → Said
function_answer c = (function_text c, function_status c)

-- the answer to a setup and the function of an object that its program was made of: by a comparison of the two with the setup's maps
abbrev pub FunctionAnswer : FunctionView → Said → Type 0
FunctionAnswer x said = (c : FunctionCompared) × ComparesFunction x c × (said ≡ function_answer c)

-- the answer to a setup and what its program was made of
abbrev pub BesideAnswer : BesideView → Said → Type 0
BesideAnswer (of_program r) = SameAnswer r
BesideAnswer (of_function x) = FunctionAnswer x

abbrev pub ran_answer : List (List ℕ) → Result Report Refusal → Said
ran_answer names c = (ran_text names c, program_status c)

-- the answer to a setup: by a run of its queues through its script, with its lists
abbrev pub RunAnswer : ListedView → Said → Type 0
RunAnswer x said = (c : Result Report Refusal) × RunsSetup x c × (said ≡ ran_answer x.setup.names c)

abbrev pub filtered_answer : SetupView → Result Filtered Refusal → Said
filtered_answer s c = (filtered_text s.names s.shapes c, program_status c)

-- the answer to a setup: by runs of its program on its packets, with its lists
abbrev pub FilterAnswer : ListedView → Said → Type 0
FilterAnswer x said = (c : Result Filtered Refusal) × Filters x c × (said ≡ filtered_answer x.setup c)

abbrev pub paired_answer : OnPass → List (List ℕ) → Paired → Said
paired_answer h names p = (paired_text h names p, paired_status p)

-- the answer to a setup: by a run of its queues on threads, with its lists and at most `turns` turns each, beside host h
abbrev pub PairAnswer : ℕ → OnPass → ListedView → Said → Type 0
PairAnswer turns h x said = (p : Paired) × IsPaired x turns h p × (said ≡ paired_answer h x.setup.names p)

-- the answer to a setup of which this is asked
abbrev pub AnswerTo : Question → ListedView → Said → Type 0
AnswerTo question.Check x = SetupAnswer x.setup
AnswerTo question.Explain x = ExplainAnswer x.setup
AnswerTo question.Run x = RunAnswer x
AnswerTo question.Filter x = FilterAnswer x

-- the line of the first fault of settings
abbrev pub RefusedAnswer : List ℕ → RefusedAt → Said → Type 0
RefusedAnswer settings r said = said ≡ settings_refused (Refused r.fault)

-- the line of the first fault of settings, and the line that says where its first spot is and what is allowed there
abbrev pub PlacedAnswer : List ℕ → RefusedAt → Said → Type 0
PlacedAnswer settings r said = (line : List ℕ) × IsSpotText r.spot settings line × (said ≡ (settings_text (Refused r.fault) ++ line, 2))

-- the answer to settings with this fault, of which this is asked
abbrev pub RefusedTo : Question → List ℕ → RefusedAt → Said → Type 0
RefusedTo question.Explain = PlacedAnswer
RefusedTo _ = RefusedAnswer

-- L0 if memory ran out while the settings, which are a text, were loaded
abbrev pub MemoryAnswer : List ℕ → Said → Type 0
MemoryAnswer settings said = (text_of settings ≢ None) × (said ≡ settings_refused Memory)

-- the answer to settings: to their setup, or to their first fault
abbrev pub SettingsAnswer : (ListedView → Said → Type 0) → (List ℕ → RefusedAt → Said → Type 0) → List ℕ → Said → Type 0
SettingsAnswer answer refused settings said =
    ((x : ListedView) × IsSetupOf settings x × answer x said)
    ⊎ (((r : RefusedAt) × IsFirstFault settings r × refused settings r said)
    ⊎ MemoryAnswer settings said)

-- the answer to settings with an original: to both programs, or to their first fault
abbrev pub RewrittenAnswer : List ℕ → Said → Type 0
RewrittenAnswer settings said =
    ((b : BesideView) × IsBesideOf settings b × BesideAnswer b said)
    ⊎ (((f : RefusedAt) × IsBesideFault settings f × RefusedAnswer settings f said)
    ⊎ MemoryAnswer settings said)

-- the settings are what the reader gave, up to its end or 1,048,577 bytes
pub record IsSettings (old new : Option (List ℕ)) (settings : List ℕ) : Type 0 where
  pub took : Consumes old new settings
  pub few : length settings ≤ 1048577
  pub all : length settings < 1048577 → IsAtEnd new
  pub known : IfSome old (λ xs. settings ≡ take 1048577 xs)

-- the answer to the settings with an original that a reader gives
abbrev pub InputSame : Option (List ℕ) → Option (List ℕ) → Said → Type 0
InputSame old new said = (settings : List ℕ) × IsSettings old new settings × RewrittenAnswer settings said

-- the answer to the settings that a reader gives, of which this is asked
abbrev pub InputAnswer : Question → Option (List ℕ) → Option (List ℕ) → Said → Type 0
InputAnswer q old new said = (settings : List ℕ) × IsSettings old new settings × SettingsAnswer (AnswerTo q) (RefusedTo q) settings said

-- the answer to the settings that a reader gives: by a run of their queues on threads
abbrev pub InputPair : ℕ → OnPass → Option (List ℕ) → Option (List ℕ) → Said → Type 0
InputPair turns h old new said = (settings : List ℕ) × IsSettings old new settings × SettingsAnswer (PairAnswer turns h) RefusedAnswer settings said

-- the answer to what the words ask for, over a reader before and after
abbrev pub IsAnswer : Option Wanted → Option (List ℕ) → Option (List ℕ) → Said → Type 0
IsAnswer None old new said = said ≡ words_refused
IsAnswer (Some (exec program packet)) old new said = ExecAnswer program packet said
IsAnswer (Some check) old new said = InputAnswer question.Check old new said
IsAnswer (Some explain) old new said = InputAnswer question.Explain old new said
IsAnswer (Some same) old new said = InputSame old new said
IsAnswer (Some run) old new said = InputAnswer question.Run old new said
IsAnswer (Some filter) old new said = InputAnswer question.Filter old new said
IsAnswer (Some (pair turns h)) old new said = InputPair turns h old new said
IsAnswer (Some (help t)) old new said = said ≡ (help_lines t, 0)
IsAnswer (Some version) old new said = said ≡ (version_line, 0)

-- at most n bytes are taken
abbrev pub TakesAtMost : ℕ → Option (List ℕ) → Option (List ℕ) → Type 0
TakesAtMost n old new = (taken : List ℕ) × Consumes old new taken × (length taken ≤ n)

-- what a call does to its reader, whatever it answers: `exec`, `help` and `version` read nothing
abbrev pub TakesInput : Option Wanted → Option (List ℕ) → Option (List ℕ) → Type 0
TakesInput None old new = Keeps old new
TakesInput (Some (exec program packet)) old new = Keeps old new
TakesInput (Some check) old new = TakesAtMost 1048577 old new
TakesInput (Some explain) old new = TakesAtMost 1048577 old new
TakesInput (Some same) old new = TakesAtMost 1048577 old new
TakesInput (Some run) old new = TakesAtMost 1048577 old new
TakesInput (Some filter) old new = TakesAtMost 1048577 old new
TakesInput (Some (pair turns h)) old new = TakesAtMost 1048577 old new
TakesInput (Some (help t)) old new = Keeps old new
TakesInput (Some version) old new = Keeps old new

-- a call that may end as a read failed, when nothing is printed
abbrev pub MayFailToRead : Option Wanted → Type 0
MayFailToRead None = ⊥
MayFailToRead (Some (exec program packet)) = ⊥
MayFailToRead (Some check) = Unit {0}
MayFailToRead (Some explain) = Unit {0}
MayFailToRead (Some same) = Unit {0}
MayFailToRead (Some run) = Unit {0}
MayFailToRead (Some filter) = Unit {0}
MayFailToRead (Some (pair turns h)) = Unit {0}
MayFailToRead (Some (help t)) = ⊥
MayFailToRead (Some version) = ⊥

-- the text is printed and the status given; or a write failed, the status is 4, and a prefix of the text is printed
abbrev pub Prints : Option (List ℕ) → Option (List ℕ) → Said → ℕ → Type 0
Prints held written said status =
    ((status ≡ said.1) × Appends held written said.0) ⊎
    ((status ≡ 4) × ((n : ℕ) × (n < length said.0) × Appends held written (take n said.0)))

-- a call ends with its answer, out of memory, or as a read failed
abbrev pub EndsCall : Option Wanted → Option (List ℕ) → Option (List ℕ) → Option (List ℕ) → Option (List ℕ) → ℕ → Type 0
EndsCall wanted old new held written status =
    ((said : Said) × IsAnswer wanted old new said × Prints held written said status)
    ⊎ (Prints held written memory_wanted status
    ⊎ (MayFailToRead wanted × (status ≡ 4) × Keeps held written))
