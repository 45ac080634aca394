-- Stated: claims rest on this file.
-- The program's command line, as data of `clap`, and what its words ask for.
use Rattle.std.specs.Prelude.{ℕ, ◌&&◌, codes, length, nat_lt, pos, true, List, [], ◌∷◌, Option, Some, None, option_map}
use Rattle.std.specs.Prelude.{option_and_then, Bool, false, if◌then◌else◌}
use Rattle.std.specs.Char.{digit_value}
use Rattle.std.specs.List.{list_all}
use Rattle.std.specs.Str.{bytes_eq}
use Rattle.std.specs.Str.Parse.{digits_value, without_leading_plus}
use Rattle.clap.specs.Simple.{on_top}
use Rattle.clap.specs.Words.{App, Kinds, Row, Rule, Text, fault_of, first_of, one_of, subcommand_of, new_app, new_rule, with_rule}
use Rattle.clap.specs.Words.{with_subcommand}
use Rattle.clap.specs.declared.builder.action.ArgAction.TheVariants.{SetTrue}
use Rattle.clap.specs.declared.builder.value_parser.ValueParser.TheVariants.{Signed}
use Rattle.xdp_commands.specs.declared.help.Topic.{Topic}
use Rattle.xdp_commands.specs.declared.help.Topic.TheVariants as topic
use Rattle.thread_pair.specs.declared.host.OnPass.{OnPass}
use Rattle.thread_pair.specs.declared.host.OnPass.TheVariants as host

-- a word that has to be there
abbrev pub wanted : List ℕ → Rule
wanted id = record (new_rule id) { required = true }

-- `exec PROGRAM PACKET`
abbrev pub exec_app : App
exec_app = with_rule (with_rule (new_app (codes "exec")) (wanted (codes "program"))) (wanted (codes "packet"))

-- `check`
abbrev pub check_app : App
check_app = new_app (codes "check")

-- `explain`
abbrev pub explain_app : App
explain_app = new_app (codes "explain")

-- `same`
abbrev pub same_app : App
same_app = new_app (codes "same")

-- `run`
abbrev pub run_app : App
run_app = new_app (codes "run")

-- `--turns N`: a number from 1 to 1000000, which is 100000 if no word says it
abbrev pub turns_rule : Rule
turns_rule = record (new_rule (codes "turns")) {
  long = Some (codes "turns");
  defaults = codes "100000"
      ∷ [];
  parser = Some (Signed (pos 1) (pos 1000000));
}

-- `--answer`: a flag
abbrev pub answer_rule : Rule
answer_rule = record (new_rule (codes "answer")) { long = Some (codes "answer"); action = Some SetTrue }

-- `pair --turns N --answer`
abbrev pub pair_app : App
pair_app = with_rule (with_rule (new_app (codes "pair")) turns_rule) answer_rule

-- `filter`
abbrev pub filter_app : App
filter_app = new_app (codes "filter")

-- `help COMMAND`, the word left out or not
abbrev pub help_app : App
help_app = with_rule (new_app (codes "help")) (new_rule (codes "command"))

-- `version`
abbrev pub version_app : App
version_app = new_app (codes "version")

-- the program's own command: `help` is a subcommand of its own
abbrev pub bare_app : App
bare_app = on_top (λ s. record s { disable_help_subcommand = true }) (new_app (codes "xdpbox"))

-- the commands that pass no packets of settings to a program
unfoldable pub single_app : App
single_app =
    with_subcommand (with_subcommand (with_subcommand (with_subcommand bare_app exec_app.top) check_app.top)
    explain_app.top) same_app.top

-- these, and those that pass packets to it on one thread
unfoldable pub settings_app : App
settings_app = with_subcommand (with_subcommand single_app run_app.top) filter_app.top

unfoldable pub program_app : App
program_app = with_subcommand (with_subcommand (with_subcommand settings_app pair_app.top) help_app.top) version_app.top

-- what a call asks for
pub data Wanted : Type 0 where
  exec : Text → Text → Wanted
  check : Wanted
  explain : Wanted
  same : Wanted
  run : Wanted
  filter : Wanted
  -- at most that many turns of each queue, and what the host does
  pair : ℕ → OnPass → Wanted
  help : Topic → Wanted
  version : Wanted

-- `exec`, by what was found for its words
abbrev pub exec_of : List Row → Option Wanted
exec_of rows = option_and_then (λ program. option_map (λ packet. exec program packet) (first_of (codes "packet") rows))
    (first_of (codes "program") rows)

-- the text is one decimal digit or more
abbrev pub is_decimal : Text → Bool
is_decimal digits = nat_lt 0 (length digits) && list_all (λ d. nat_lt (digit_value d) 10) digits

-- the number of 32 bits that a text writes, a plus in front or not
abbrev pub turns_number : Text → Option ℕ
turns_number text =
    let digits = without_leading_plus text in
    if is_decimal digits && nat_lt (digits_value 10 digits) 4294967296 then Some (digits_value 10 digits) else None

-- the host answers if the flag was found
abbrev pub host_of_word : Option Text → OnPass
host_of_word None = host.Takes
host_of_word (Some word) = if bytes_eq word (codes "true") then host.Answers else host.Takes

abbrev pub host_of : List Row → OnPass
host_of rows = host_of_word (first_of (codes "answer") rows)

-- `pair`, by what was found for its options
abbrev pub pair_of : List Row → Option Wanted
pair_of rows = option_map (λ turns. pair turns (host_of rows)) (option_and_then turns_number (one_of (codes "turns") rows))

-- what help is about, by a command's name
abbrev pub topic_of : Text → Option Topic
topic_of name =
    if bytes_eq name (codes "exec") then Some topic.Exec
    else if bytes_eq name (codes "check") then Some topic.Check
    else if bytes_eq name (codes "explain") then Some topic.Explain
    else if bytes_eq name (codes "same") then Some topic.Same
    else if bytes_eq name (codes "filter") then Some topic.Filter
    else if bytes_eq name (codes "run") then Some topic.Run
    else if bytes_eq name (codes "pair") then Some topic.Pair
    else if bytes_eq name (codes "help") then Some topic.Help
    else if bytes_eq name (codes "version") then Some topic.Version
    else None

-- `help`, by the command that was found, or on all commands
abbrev pub help_of_word : Option Text → Option Wanted
help_of_word None = Some (help topic.Commands)
help_of_word (Some name) = option_map (λ t. help t) (topic_of name)

abbrev pub help_of : List Row → Option Wanted
help_of rows = help_of_word (first_of (codes "command") rows)

-- the subcommand that the words name, with what was found for its own words
abbrev pub wanted_by : Text × List Row → Option Wanted
wanted_by p =
    if bytes_eq p.0 (codes "exec") then exec_of p.1
    else if bytes_eq p.0 (codes "check") then Some check
    else if bytes_eq p.0 (codes "explain") then Some explain
    else if bytes_eq p.0 (codes "same") then Some same
    else if bytes_eq p.0 (codes "run") then Some run
    else if bytes_eq p.0 (codes "filter") then Some filter
    else if bytes_eq p.0 (codes "pair") then pair_of p.1
    else if bytes_eq p.0 (codes "help") then help_of p.1
    else if bytes_eq p.0 (codes "version") then Some version
    else None

-- the command line takes the words
abbrev pub is_taken : Kinds → Bool
is_taken [] = true
is_taken (k ∷ ks) = false

-- what the words ask for, by the meaning of the command line; nothing if it refuses them, as it does the flag `--help`
unfoldable pub wanted_of_words : List Text → Option Wanted
wanted_of_words words = if is_taken (fault_of program_app words) then option_and_then wanted_by (subcommand_of program_app words) else None
