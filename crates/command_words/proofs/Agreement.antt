-- The result of `clap` for the words of each command, in the words of the definitions.
use Rattle.std.proofs.Common.{◌≡◌, ◌∙◌, ◌==◌, ◌&&◌, Bool, true, false, not, refl, sym, ap, subst, List, [], ◌∷◌, map, length, Option, Some, None}
use Rattle.std.specs.List.{list_all}
use Rattle.clap.specs.Kinds.{Kinds}
use Rattle.clap.specs.Faults.{built_fault, entered_fault, fault_of}
use Rattle.clap.specs.Simple.{entered, is_simple, matches_of}
use Rattle.clap.specs.Faults.{is_simple_and_free}
use Rattle.clap.specs.Walk.{Row, Rule, Text, first_of, idle, nothing_held, rows_after, walk}
use Rattle.command_words.specs.Apps.{run_app, plan_app, demo_app, flows_app, why_app, run_names, plan_names, demo_names, flows_names, why_names}
use Rattle.command_words.specs.WhyWords.{why_options}
use Rattle.command_words.specs.Given.{all_differ, contains, value_given}
use Rattle.command_words.specs.Words.{demo_options, flows_options, plan_options, run_options}
use Rattle.command_words.specs.Roles.{Role, anything, is_fit, is_whole, names_in, option_names, options_in, roles}
use Rattle.command_words.proofs.Table.{Indexed, HasIds, app_with, by_long, by_short, demo_ids, demo_indexed, flows_ids, flows_indexed, id_found, no_default_fault, no_defaults, plan_ids, plan_indexed, required_names, run_ids, run_indexed, table, why_ids, why_indexed}
use Rattle.command_words.proofs.Walking.{Agrees, AllUtf8, Rests, Serves, Use, agrees, fails, placed, rows_for}
use Rattle.command_words.proofs.Placing.{AllDiffer, Before, Fits, NoneHas, NoneIsOption, fits, is_whole_from, roles_give, value_is}

-- there is no fault, and the rows have the names and the options; or there is a fault
abbrev pub Reads : List Text → List Text → Kinds → List Row → List Role → Bool → Type 0
Reads names options k rows rs true = (k ≡ []) × (map (λ n. first_of n rows) names ≡ map Some (names_in rs))
    × ((x : Text) → contains x options ≡ true → first_of x rows ≡ value_given x (options_in rs))
Reads names options k rows rs false = fails k ≡ true

serves_table : (names options : List Text) → HasIds (table names options) options → Serves (table names options) names options
serves_table names options ids = record {
  by_long = by_long 1 names options;
  by_short = by_short 1 names options;
  by_id = λ x e. id_found (table names options) options x ids e;
  no_default_fault = no_default_fault 1 names options;
  no_defaults = no_defaults 1 names options;
  required = required_names 1 names options;
}

none_before : (names options : List Text) → AllDiffer names → NoneIsOption options names → Before names options [] [] names
none_before names options d a = record { split = refl; given = refl; free = none names; differ = d; apart = a }
  where
    none : (xs : List Text) → NoneHas [] xs
    none [] = tt
    none (x ∷ xs) = (refl, none xs)

and_true : (b : Bool) → (b && true) ≡ b
and_true true = refl
and_true false = refl

none_of_none : (xs : List Text) → list_all (λ x. not false) xs ≡ true
none_of_none [] = refl
none_of_none (x ∷ xs) = none_of_none xs

whole_is : (names : List Text) (rs : List Role) → is_whole_from [] names rs ≡ is_whole (length names) rs
whole_is names rs = ap (λ b. list_all is_fit rs && (length (names_in rs) == length names && b))
    (rw (none_of_none (option_names (options_in rs))) (and_true (all_differ (option_names (options_in rs)))))

values_are : (xs : List Text) (us : List Use) → map (λ n. first_of n (rows_for us)) xs ≡ map (λ n. value_given n us) xs
values_are [] us = refl
values_are (x ∷ xs) us = λ i. value_is x us i ∷ values_are xs us i

joined : (names options : List Text) (k : Kinds) (rows : List Row) (rs : List Role) (o : Option (List Use)) → Agrees k rows o → Fits options [] names rs o
    → Reads names options k rows rs (is_whole (length names) rs)
joined names options k rows rs None a f = subst (Reads names options k rows rs) (sym (sym (whole_is names rs) ∙ f)) a
joined names options k rows rs (Some us) a f = subst (Reads names options k rows rs) (sym (sym (whole_is names rs) ∙ f.0)) (
  a.0,
  ap (λ (r : List Row). map (λ n. first_of n r) names) a.1 ∙ values_are names us ∙ f.1,
  λ x e. ap (first_of x) a.1 ∙ value_is x us ∙ f.2 x e refl,
)

-- nothing is entered if there are no subcommands
never_entered : (title : Text) (rules : List Rule) (stop : Option (Text × List Text)) → entered (app_with title rules) stop ≡ None
never_entered title rules None = refl
never_entered title rules (Some p) = refl

no_entered_fault : (title : Text) (rules : List Rule) (stop : Option (Text × List Text)) → entered_fault (app_with title rules) stop ≡ []
no_entered_fault title rules None = refl
no_entered_fault title rules (Some p) = refl

reads_table : (title : Text) (names options : List Text) → HasIds (table names options) options → Indexed (table names options) 1 names → AllDiffer names → NoneIsOption options names
    → (words : List Text) → AllUtf8 words
    → Reads names options (built_fault (app_with title (table names options)) nothing_held words) (rows_after (table names options) [] words)
    (roles options anything words) (is_whole (length names) (roles options anything words))
reads_table title names options ids places differ apart words u =
    let rules = table names options in
    let stop = (walk rules [] nothing_held words).stopped in
    let serves = serves_table names options ids in
    let rs = roles options anything words in
    let start : Rests title rules names options serves nothing_held [] = record { rows_are = λ _. refl; no_skip = refl } in
    let agreed = agrees title rules names options serves words u anything nothing_held 1 idle [] names places start in
    let placed_fit = fits names options [] [] names rs (none_before names options differ apart) (roles_give options anything words tt) in
    rw (never_entered title rules stop, no_entered_fault title rules stop) (joined names options _ _ rs (placed names [] names rs) agreed placed_fit)

pub run_reads : (words : List Text) → AllUtf8 words
    → Reads run_names run_options (fault_of run_app words) (matches_of run_app words) (roles run_options anything words) (is_whole 4 (roles run_options anything words))
run_reads words u = reads_table run_app.top.name run_names run_options run_ids run_indexed
    ((refl, (refl, (refl, tt))), ((refl, (refl, tt)), ((refl, tt), (tt, tt)))) (refl, (refl, (refl, (refl, tt)))) words u

pub plan_reads : (words : List Text) → AllUtf8 words
    → Reads plan_names plan_options (fault_of plan_app words) (matches_of plan_app words) (roles plan_options anything words) (is_whole 1 (roles plan_options anything words))
plan_reads words u = reads_table plan_app.top.name plan_names plan_options plan_ids plan_indexed (tt, tt) (refl, tt) words u

pub demo_reads : (words : List Text) → AllUtf8 words
    → Reads demo_names demo_options (fault_of demo_app words) (matches_of demo_app words) (roles demo_options anything words) (is_whole 2 (roles demo_options anything words))
demo_reads words u = reads_table demo_app.top.name demo_names demo_options demo_ids demo_indexed
    ((refl, tt), (tt, tt)) (refl, (refl, tt)) words u

pub flows_reads : (words : List Text) → AllUtf8 words
    → Reads flows_names flows_options (fault_of flows_app words) (matches_of flows_app words) (roles flows_options anything words) (is_whole 2 (roles flows_options anything words))
flows_reads words u = reads_table flows_app.top.name flows_names flows_options flows_ids flows_indexed
    ((refl, tt), (tt, tt)) (refl, (refl, tt)) words u

pub why_reads : (words : List Text) → AllUtf8 words
    → Reads why_names why_options (fault_of why_app words) (matches_of why_app words) (roles why_options anything words) (is_whole 3 (roles why_options anything words))
why_reads words u = reads_table why_app.top.name why_names why_options why_ids why_indexed
    ((refl, (refl, tt)), ((refl, tt), (tt, tt))) (refl, (refl, (refl, tt))) words u

pub run_is_simple : (is_simple run_app ≡ true) × (is_simple_and_free run_app ≡ true)
run_is_simple = (refl, refl)

pub plan_is_simple : (is_simple plan_app ≡ true) × (is_simple_and_free plan_app ≡ true)
plan_is_simple = (refl, refl)

pub demo_is_simple : (is_simple demo_app ≡ true) × (is_simple_and_free demo_app ≡ true)
demo_is_simple = (refl, refl)

pub flows_is_simple : (is_simple flows_app ≡ true) × (is_simple_and_free flows_app ≡ true)
flows_is_simple = (refl, refl)

pub why_is_simple : (is_simple why_app ≡ true) × (is_simple_and_free why_app ≡ true)
why_is_simple = (refl, refl)
