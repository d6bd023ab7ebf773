-- For proofs: the result of `clap` for the words after a command, and the answer by it.
use Rattle.std.specs.Prelude.{◌≡◌, ◌≢◌, ◌&&◌, Bool, true, false, List, [], ◌∷◌, map, length, Option, Some}
use Rattle.std.specs.Prelude.{None, Result, Err, if◌then◌else◌}
use Rattle.std.specs.List.{list_all}
use Rattle.clap.specs.declared.parser.matches.ArgMatches.{ArgMatches}
use Rattle.clap.specs.Words.{App, HasMatchesOf, Text, fault_of, first_value, found_of, is_simple_and_free}
use Rattle.command_words.specs.declared.usage.UsageFault.{UsageFault}
use Rattle.command_words.specs.declared.usage.UsageFault.TheVariants as fault
use Rattle.command_words.specs.Roles.{Role, anything, is_whole, names_in, options_in, roles}
use Rattle.command_words.specs.Given.{Word, contains, has_text, value_given}
use Rattle.command_words.specs.WhyWords.{WhyAsked, why_with}
use Rattle.command_words.specs.Words.{Answer, Names, demo_with, flows_with, plan_with, run_with}

-- the words after this command have no fault, and these are their matches
pub record IsMatched (a : App) (words : List Text) (m : ArgMatches) : Type 0 where
  pub faultless : is_simple_and_free a ≡ true → fault_of a words ≡ []
  pub matches : HasMatchesOf a words m

-- the words have a fault
abbrev pub IsFaulty : App → List Text → Type 0
IsFaulty a words = is_simple_and_free a ≡ true → fault_of a words ≢ []

-- the names that the words give, in order
abbrev pub GivesNames : List Text → List Role → ArgMatches → Type 0
GivesNames names rs m = map (first_value (found_of m)) names ≡ map Some (names_in rs)

-- and the value of each option
abbrev pub GivesOptions : List Text → List Role → ArgMatches → Type 0
GivesOptions options rs m =
    (x : Text) → contains x options ≡ true → first_value (found_of m) x ≡ value_given x (options_in rs)

-- the matches of words whose roles make up a command with these names and options
pub record Matches (names options words : List Text) (m : ArgMatches) : Type 0 where
  pub whole : is_whole (length names) (roles options anything words) ≡ true
  pub gives_names : GivesNames names (roles options anything words) m
  pub gives_options : GivesOptions options (roles options anything words) m

-- the roles of the words do not make up a command
abbrev pub IsUnfit : List Text → List Text → List Text → Type 0
IsUnfit names options words = is_whole (length names) (roles options anything words) ≡ false

-- ---- from the words that were matched

abbrev pub names_of : Names → List Word
names_of n = n.policy ∷ n.capture ∷ n.out ∷ n.report ∷ []

-- if all four are present
abbrev pub four_names : Option Word → Option Word → Option Word → Option Word → Option Word → Option Names
four_names (Some p) (Some c) (Some o) (Some r) graph =
    Some (record { policy = p; capture = c; out = o; report = r; graph = graph })
four_names p c o r graph = None

-- a value that is given has text
abbrev pub given_has_text : Option Word → Bool
given_has_text None = true
given_has_text (Some word) = has_text word

abbrev pub options_have_text : Option Word → Option Word → Option Word → Bool
options_have_text mergers burst way =
    given_has_text mergers && (given_has_text burst && given_has_text way)

-- the same for the options of `run`
abbrev pub run_options_have_text : Option Word → Option Word → Option Word → Option Word → Bool
run_options_have_text mergers burst way graph =
    given_has_text mergers && (given_has_text burst && (given_has_text way && given_has_text graph))

abbrev pub run_read : Option Names → Option Word → Option Word → Option Word → Answer
run_read None mergers burst way = Err fault.Words
run_read (Some names) mergers burst way =
    if list_all has_text (names_of names) && run_options_have_text mergers burst way names.graph
    then run_with names mergers burst way else Err fault.Words

abbrev pub plan_read : Option Word → Option Word → Answer
plan_read None graph = Err fault.Words
plan_read (Some policy) graph =
    if has_text policy && given_has_text graph then plan_with (record { policy = policy; graph = graph }) else Err fault.Words

abbrev pub demo_read : Option Word → Option Word → Option Word → Option Word → Option Word → Answer
demo_read (Some seed) (Some count) mergers burst way =
    if (has_text seed && has_text count) && options_have_text mergers burst way
    then demo_with seed count mergers burst way else Err fault.Words
demo_read seed count mergers burst way = Err fault.Words

abbrev pub flow_options_have_text : Option Word → Option Word → Bool
flow_options_have_text workers burst = given_has_text workers && given_has_text burst

abbrev pub flows_read : Option Word → Option Word → Option Word → Option Word → Answer
flows_read (Some capture) (Some out) workers burst =
    if (has_text capture && has_text out) && flow_options_have_text workers burst
    then flows_with (record { capture = capture; out = out }) burst workers else Err fault.Words
flows_read capture out workers burst = Err fault.Words

abbrev pub why_read : Option Word → Option Word → Option Word → Option Word → Result WhyAsked UsageFault
why_read (Some policy) (Some capture) (Some report) number =
    if (has_text policy && (has_text capture && has_text report)) && given_has_text number
    then why_with (record { policy = policy; capture = capture; report = report }) number else Err fault.Words
why_read policy capture report number = Err fault.Words
