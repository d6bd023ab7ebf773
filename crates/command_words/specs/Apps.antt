-- For proofs: how `clap` is configured for the commands.
use Rattle.std.specs.Prelude.{List, [], ◌∷◌, ◌++◌, map, Some, true, codes}
use Rattle.clap.specs.declared.builder.action.ArgAction.TheVariants.{Set}
use Rattle.clap.specs.Simple.{App, new_rule, new_shape, on_top}
use Rattle.clap.specs.Walk.{Rule, Text}
use Rattle.command_words.specs.declared.commands.Argument.{Argument}
use Rattle.command_words.specs.declared.commands.Argument.TheVariants as argument
use Rattle.command_words.specs.WhyWords.{why_options}
use Rattle.command_words.specs.Words.{demo_options, flows_options, plan_options, run_options}

-- a name that is required
abbrev pub name_rule : Text → Rule
name_rule id = record (new_rule id) { required = true; action = Some Set }

-- an option with a value
abbrev pub option_rule : Text → Rule
option_rule id = record (new_rule id) { long = Some id; action = Some Set }

abbrev pub rule_for : Argument → Rule
rule_for (argument.Name id) = name_rule id.now
rule_for (argument.Option id) = option_rule id.now

-- a command with these names and options, and with none of `clap`'s own flags
abbrev pub app : Text → List Text → List Text → App
app name names options = record {
  top = record (new_shape name) {
    rules = map name_rule names ++ map option_rule options;
    no_binary_name = true;
    disable_help_flag = true;
    disable_version_flag = true;
  };
  subs = [];
}

-- a command with these rules after its own
abbrev pub with_rules : App → List Rule → App
with_rules a rules = on_top (λ s. record s { rules = s.rules ++ rules }) a

abbrev pub run_names : List Text
run_names = codes "policy" ∷ codes "capture" ∷ codes "out" ∷ codes "report" ∷ []

abbrev pub plan_names : List Text
plan_names = codes "policy" ∷ []

abbrev pub demo_names : List Text
demo_names = codes "seed" ∷ codes "count" ∷ []

abbrev pub flows_names : List Text
flows_names = codes "capture" ∷ codes "out" ∷ []

abbrev pub why_names : List Text
why_names = codes "policy" ∷ codes "capture" ∷ codes "report" ∷ []

abbrev pub run_app : App
run_app = app (codes "run") run_names run_options

abbrev pub plan_app : App
plan_app = app (codes "plan") plan_names plan_options

abbrev pub demo_app : App
demo_app = app (codes "demo") demo_names demo_options

abbrev pub flows_app : App
flows_app = app (codes "flows") flows_names flows_options

abbrev pub why_app : App
why_app = app (codes "why") why_names why_options
