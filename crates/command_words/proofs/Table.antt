-- The arguments of a command as they are built, and how they are found.
use Rattle.std.proofs.Common.{◌≡◌, ◌∙◌, ◌+◌, ◌&&◌, ◌||◌, ℕ, Bool, cond, true, false, not, refl, sym, ap, subst, List, [], ◌∷◌, ◌++◌, map, min, Some, None, true≢false}
use Rattle.std.specs.Prelude.{⊤, fold}
use Rattle.std.specs.List.{list_all, list_any}
use Rattle.std.specs.Str.{bytes_eq}
use Rattle.std.proofs.lemmas.Slice.Eq.{bytes_eq-Decides}
use Rattle.clap.specs.Lexer.{usize_max}
use Rattle.clap.specs.Walk.{Row, Rule, Text, arg_by_id, arg_by_index, arg_by_long, arg_by_short, has_row, with_default}
use Rattle.clap.specs.Simple.{App, Shape, new_rule, new_shape}
use Rattle.clap.specs.Faults.{defaults_fault}
use Rattle.clap.specs.Takes.{is_given}
use Rattle.clap.specs.declared.builder.action.ArgAction.TheVariants.{Set}
use Rattle.clap.specs.declared.builder.range.ValueRange.{ValueRange}
use Rattle.clap.specs.declared.builder.value_parser.ValueParser.TheVariants as vp
use Rattle.command_words.specs.Apps.{run_names, plan_names, demo_names, flows_names, why_names}
use Rattle.command_words.specs.WhyWords.{why_options}
use Rattle.command_words.specs.Given.{contains}
use Rattle.command_words.specs.Words.{demo_options, flows_options, plan_options, run_options}

abbrev pub one_value : ValueRange
one_value = record { start_inclusive = 1; end_inclusive = 1 }

abbrev pub built_name : ℕ → Text → Rule
built_name i id = record (new_rule id) { required = true; action = Some Set; parser = Some vp.String; range = Some one_value; index = Some i }

abbrev pub built_option : Text → Rule
built_option id = record (new_rule id) { long = Some id; action = Some Set; parser = Some vp.String; range = Some one_value }

abbrev pub next : ℕ → ℕ
next i = min (i + 1) usize_max

abbrev pub names_from : ℕ → List Text → List Rule
names_from i [] = []
names_from i (n ∷ ns) = built_name i n ∷ names_from (next i) ns

abbrev pub table : List Text → List Text → List Rule
table names options = names_from 1 names ++ map built_option options

abbrev pub shape : Text → List Rule → Shape
shape name rules = record (new_shape name) {
  rules = rules;
  no_binary_name = true;
  disable_help_flag = true;
  disable_version_flag = true;
  disable_help_subcommand = true;
  is_built = true;
}

abbrev pub app_with : Text → List Rule → App
app_with name rules = record { top = shape name rules; subs = [] }

-- ---- the searches

-- each argument of these names is found by its place and by its id
abbrev pub Indexed : List Rule → ℕ → List Text → Type 0
Indexed rules i [] = arg_by_index rules i ≡ None
Indexed rules i (n ∷ ns) = (arg_by_index rules i ≡ Some (built_name i n))
    × ((arg_by_id rules n ≡ Some (built_name i n)) × Indexed rules (next i) ns)

-- each option is found by its id
abbrev pub HasIds : List Rule → List Text → Type 0
HasIds rules [] = ⊤
HasIds rules (o ∷ os) = (arg_by_id rules o ≡ Some (built_option o)) × HasIds rules os

pub run_indexed : Indexed (table run_names run_options) 1 run_names
run_indexed = (refl, (refl, (refl, (refl, (refl, (refl, (refl, (refl, refl))))))))

pub plan_indexed : Indexed (table plan_names plan_options) 1 plan_names
plan_indexed = (refl, (refl, refl))

pub demo_indexed : Indexed (table demo_names demo_options) 1 demo_names
demo_indexed = (refl, (refl, (refl, (refl, refl))))

pub flows_indexed : Indexed (table flows_names flows_options) 1 flows_names
flows_indexed = (refl, (refl, (refl, (refl, refl))))

pub run_ids : HasIds (table run_names run_options) run_options
run_ids = (refl, (refl, (refl, (refl, tt))))

pub plan_ids : HasIds (table plan_names plan_options) plan_options
plan_ids = (refl, tt)

pub demo_ids : HasIds (table demo_names demo_options) demo_options
demo_ids = (refl, (refl, (refl, tt)))

pub flows_ids : HasIds (table flows_names flows_options) flows_options
flows_ids = (refl, (refl, tt))

pub why_indexed : Indexed (table why_names why_options) 1 why_names
why_indexed = (refl, (refl, (refl, (refl, (refl, (refl, refl))))))

pub why_ids : HasIds (table why_names why_options) why_options
why_ids = (refl, tt)

pub same_text : (a b : Text) → bytes_eq a b ≡ true → a ≡ b
same_text a b e = (bytes_eq-Decides a b).0 e

pub text_same : (a : Text) → bytes_eq a a ≡ true
text_same a = (bytes_eq-Decides a a).1 refl

pub id_found : (rules : List Rule) (options : List Text) (x : Text) → HasIds rules options → contains x options ≡ true
    → arg_by_id rules x ≡ Some (built_option x)
id_found rules [] x h e = absurd (true≢false (sym e))
id_found rules (o ∷ os) x h e = go (bytes_eq o x) refl (λ f. id_found rules os x h.1 f)
  where
    go : (b : Bool) → bytes_eq o x ≡ b → (contains x os ≡ true → arg_by_id rules x ≡ Some (built_option x)) → arg_by_id rules x ≡ Some (built_option x)
    go true t more = subst (λ y. arg_by_id rules y ≡ Some (built_option y)) (same_text o x t) h.0
    go false t more = more (rw t at e)

-- an option by its long name
pub by_long : (i : ℕ) (names options : List Text) (x : Text)
    → arg_by_long (names_from i names ++ map built_option options) x ≡ cond (contains x options) (Some (built_option x)) None
by_long i [] [] x = refl
by_long i [] (o ∷ os) x = go (bytes_eq o x) refl (by_long i [] os x)
  where
    go : (b : Bool) → bytes_eq o x ≡ b → arg_by_long (map built_option os) x ≡ cond (contains x os) (Some (built_option x)) None
        → arg_by_long (map built_option (o ∷ os)) x ≡ cond (contains x (o ∷ os)) (Some (built_option x)) None
    go true t more = rw t (ap (λ y. Some (built_option y)) (same_text o x t))
    go false t more = rw t more
by_long i (n ∷ ns) options x = by_long (next i) ns options x

-- nothing has a short name
pub by_short : (i : ℕ) (names options : List Text) (c : ℕ) → arg_by_short (names_from i names ++ map built_option options) c ≡ None
by_short i [] [] c = refl
by_short i [] (o ∷ os) c = by_short i [] os c
by_short i (n ∷ ns) options c = by_short (next i) ns options c

-- ---- the end of a walk

or_true : (b : Bool) → (b || true) ≡ true
or_true true = refl
or_true false = refl

same_or : {X : Type 0} (b : Bool) (x : X) → cond b x x ≡ x
same_or true x = refl
same_or false x = refl

-- no argument has a default
pub no_default_fault : (i : ℕ) (names options : List Text) (rows : List Row) → defaults_fault rows (names_from i names ++ map built_option options) ≡ []
unfolding defaults_fault
no_default_fault i [] [] rows = refl
no_default_fault i [] (o ∷ os) rows =
    rw (or_true (has_row o rows), same_or (has_row o rows) rows) (no_default_fault i [] os rows)
no_default_fault i (n ∷ ns) options rows =
    rw (or_true (has_row n rows), same_or (has_row n rows) rows) (no_default_fault (next i) ns options rows)

pub no_defaults : (i : ℕ) (names options : List Text) (rows : List Row) → fold with_default rows (names_from i names ++ map built_option options) ≡ rows
no_defaults i [] [] rows = refl
no_defaults i [] (o ∷ os) rows = ap (λ r. fold with_default r (map built_option os)) (same_or (has_row o rows) rows) ∙ no_defaults i [] os rows
no_defaults i (n ∷ ns) options rows =
    ap (λ r. fold with_default r (names_from (next i) ns ++ map built_option options)) (same_or (has_row n rows) rows) ∙ no_defaults (next i) ns options rows

-- the names are required
pub required_names : (i : ℕ) (names options : List Text) (rows : List Row)
    → list_any (λ a. a.required && not (is_given a.id rows)) (names_from i names ++ map built_option options) ≡ not (list_all (λ n. is_given n rows) names)
required_names i [] [] rows = refl
required_names i [] (o ∷ os) rows = required_names i [] os rows
required_names i (n ∷ ns) options rows = go (is_given n rows) (required_names (next i) ns options rows)
  where
    go : (b : Bool) → list_any (λ a. a.required && not (is_given a.id rows)) (names_from (next i) ns ++ map built_option options) ≡ not (list_all (λ m. is_given m rows) ns)
        → (not b || list_any (λ a. a.required && not (is_given a.id rows)) (names_from (next i) ns ++ map built_option options)) ≡ not (b && list_all (λ m. is_given m rows) ns)
    go true e = e
    go false e = refl
