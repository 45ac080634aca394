-- The program's command is one whose matches and faults are exact.
use Rattle.std.proofs.Common.{◌≡◌, ◌∙◌, true, false, List, [], ◌∷◌, Option, None, option_and_then, refl, inl, inr, ap, subst}
use Rattle.clap.specs.Words.{App, HasKind, HasMatchesOf, Kinds, Text, fault_of, is_simple, is_simple_and_free, kind_of, subcommand_of, subcommand_rows_of}
use Rattle.clap.specs.declared.error.Error.{Error}
use Rattle.clap.specs.declared.error.kind.ErrorKind.TheVariants.{OutOfMemory}
use Rattle.clap.specs.declared.parser.matches.ArgMatches.{ArgMatches}
use Rattle.clap.proofs.OnLiterals.{clap_on_literals}
use Rattle.xdp_commands.specs.Words.{Wanted, wanted_by, wanted_of_words, is_taken, program_app, settings_app, single_app}

is_exact : is_simple_and_free program_app ≡ true
unfolding clap_on_literals program_app settings_app single_app
is_exact = refl

is_known : is_simple program_app ≡ true
unfolding clap_on_literals program_app settings_app single_app
is_known = refl

-- an error that isn't for memory comes only where there is a fault
has_fault : (kinds : Kinds) (e : Error) → HasKind kinds e → (kind_of e ≡ OutOfMemory → ⊥) → is_taken kinds ≡ false
has_fault [] e (inl h) n = absurd (n h)
has_fault [] e (inr h) n = absurd h
has_fault (k ∷ ks) e h n = refl

pub wanted_taken : (a : App) (words : List Text) (m : ArgMatches) (x : Option Wanted) → a ≡ program_app → (is_simple_and_free a ≡ true → fault_of a words ≡ [])
    → HasMatchesOf a words m → x ≡ option_and_then wanted_by (subcommand_rows_of m) → x ≡ wanted_of_words words
unfolding wanted_of_words
wanted_taken a words m x is kinds matches answer =
    let none : fault_of program_app words ≡ [] = subst (λ (b : App). fault_of b words ≡ []) is (kinds (ap is_simple_and_free is ∙ is_exact)) in
    let met : subcommand_rows_of m ≡ subcommand_of program_app words = subst (λ (b : App). subcommand_rows_of m ≡ subcommand_of b words) is (matches (ap is_simple is ∙ is_known)).1 in
    rw none (answer ∙ ap (option_and_then wanted_by) met)

pub wanted_refused : (a : App) (words : List Text) (e : Error) → a ≡ program_app → (is_simple_and_free a ≡ true → HasKind (fault_of a words) e) → (kind_of e ≡ OutOfMemory → ⊥)
    → wanted_of_words words ≡ None
unfolding wanted_of_words
wanted_refused a words e is kinds other =
    let some = has_fault (fault_of program_app words) e (subst (λ (b : App). HasKind (fault_of b words) e) is (kinds (ap is_simple_and_free is ∙ is_exact))) other in
    rw some
