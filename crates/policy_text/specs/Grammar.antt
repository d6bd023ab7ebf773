-- Believed: the policy language: what each line adds to the policy so far, or its first fault.
use Rattle.std.specs.Prelude.{ℕ, List, [], ◌∷◌, ◌++◌, length, map, drop, count_by, position, sum_by, Bool, false, if◌then◌else◌, ◌==◌, ◌&&◌, not, nat_lt, slice_index_or, is_some, Option, Result, Ok, Err, codes}
use Rattle.std.specs.Option.{option_map, option_map_or}
use Rattle.std.specs.List.{list_any}
use Rattle.std.specs.Str.{bytes_eq}
use Rattle.std.specs.Str.Lossy.{utf8_valid_len}
use Rattle.action_profile.specs.Kinds.{kind_named}
use Rattle.policy_text.specs.declared.clause.Clause.{Clause}
use Rattle.policy_text.specs.declared.fault.TextFault.{TextFault}
use Rattle.policy_text.specs.declared.fault.TextFault.TheVariants.{NotUtf8, Syntax, UnknownKind, DuplicateName, UnknownName, TooManyFunctions, TooManyChains, TooManyRules, BadVersionLine}
use Rattle.policy_text.specs.declared.form.WordForm.{WordForm}
use Rattle.policy_text.specs.declared.form.WordForm.TheVariants as word_forms
use Rattle.policy_text.specs.declared.policy.ChainPolicy.{ChainPolicy}
use Rattle.policy_text.specs.declared.policy.FunctionDecl.{FunctionDecl}
use Rattle.policy_text.specs.declared.policy.Policy.{Policy}
use Rattle.policy_text.specs.declared.policy.Setting.{Setting}
use Rattle.policy_text.specs.declared.policy.Statement.{Statement}
use Rattle.policy_text.specs.declared.policy.Statement.TheVariants.{Order, Priority, First, Last}
use Rattle.policy_text.specs.Clauses.{clauses_from}
use Rattle.policy_text.specs.Forms.{misfit_from}
pub use Rattle.policy_text.specs.Latest.{latest, change_latest}
use Rattle.policy_text.specs.Lines.{PlacedWord, Line, lines_of, word_at, column_of}
use Rattle.policy_text.specs.Steps.{◌>>=◌, demand, some_or, unless}
use Rattle.policy_text.specs.Values.{is_name}

-- the word at this place doesn't fit
abbrev pub syntax_at : Line → ℕ → TextFault
syntax_at line place = Syntax line.number (column_of line place)

-- the words after the first are of this form
abbrev pub fit_form : List WordForm → Line → Result (Unit {0}) TextFault
fit_form form line = unless (option_map (syntax_at line) (misfit_from 1 form (drop 1 line.words)))

-- the functions of the current chain, which is the latest
abbrev pub functions_here : List ChainPolicy → List FunctionDecl
functions_here chains = option_map_or (λ c. c.functions) (latest chains) []

abbrev pub is_function : List ℕ → FunctionDecl → Bool
is_function name f = bytes_eq f.name name

-- the function of the current chain with this name, counted from 0
abbrev pub function_named : List ℕ → List ChainPolicy → Option ℕ
function_named name chains = position (is_function name) (functions_here chains)

abbrev pub is_rule : Setting → Bool
is_rule s = bytes_eq (slice_index_or s.words 0 []) (codes "rule")

-- the rules of the current function, which is the latest of the current chain
abbrev pub rules_here : List ChainPolicy → ℕ
rules_here chains = option_map_or (λ f. count_by is_rule f.settings) (latest (functions_here chains)) 0

abbrev pub has_function : List ChainPolicy → List ℕ → Bool
has_function chains name = list_any (λ c. list_any (is_function name) c.functions) chains

abbrev pub count_functions : List ChainPolicy → ℕ
count_functions chains = sum_by (λ c. length c.functions) chains

abbrev pub has_chain : List ChainPolicy → List ℕ → Bool
has_chain chains name = list_any (λ c. bytes_eq c.name name) chains

abbrev pub add_function : List ChainPolicy → FunctionDecl → List ChainPolicy
add_function chains f = change_latest (λ c. record c { functions = c.functions ++ f ∷ [] }) chains

abbrev pub set_up_latest : List FunctionDecl → Setting → List FunctionDecl
set_up_latest functions s = change_latest (λ f. record f { settings = f.settings ++ s ∷ [] }) functions

abbrev pub add_setting : List ChainPolicy → Setting → List ChainPolicy
add_setting chains s = change_latest (λ c. record c { functions = set_up_latest c.functions s }) chains

abbrev pub add_statement : List ChainPolicy → Statement → List ChainPolicy
add_statement chains s = change_latest (λ c. record c { statements = c.statements ++ s ∷ [] }) chains

-- what the words of a `chain` line say, or the place of the first that doesn't fit: a name, and then nothing or
-- `match` and at least one clause
abbrev pub chain_clauses : List (List ℕ) → Result (List Clause) ℕ
chain_clauses (chain ∷ name ∷ []) = if is_name name then Ok [] else Err 1
chain_clauses (chain ∷ name ∷ keyword ∷ []) = if is_name name then (if bytes_eq keyword (codes "match") then Err 3 else Err 2) else Err 1
chain_clauses (chain ∷ name ∷ keyword ∷ word ∷ words) =
    if is_name name then (if bytes_eq keyword (codes "match") then clauses_from [] 3 (word ∷ words) else Err 2) else Err 1
chain_clauses words = Err 1

abbrev pub fail_at : {A : Type 0} → Line → Result A ℕ → Result A TextFault
fail_at line (Ok x) = Ok x
fail_at line (Err place) = Err (syntax_at line place)

abbrev pub texts : Line → List (List ℕ)
texts line = map (λ w. w.text) line.words

-- `chain NAME` and `chain NAME match CLAUSE ..`
abbrev pub chain_line : List ChainPolicy → Line → Result (List ChainPolicy) TextFault
chain_line chains line = do
  clauses ← fail_at line (chain_clauses (texts line))
  _ ← demand (nat_lt (length chains) 16) (TooManyChains line.number)
  _ ← demand (not (has_chain chains (word_at line 1))) (DuplicateName line.number)
  Ok (chains ++ (record { name = word_at line 1; line = line.number; fit = record { clauses = clauses }; functions = []; statements = [] }) ∷ [])

-- a line of this kind is in a chain
abbrev pub in_chain : List ChainPolicy → Line → Result (Unit {0}) TextFault
in_chain chains line = demand (is_some (latest chains)) (syntax_at line 0)

-- `fn NAME KIND`
abbrev pub function_line : List ChainPolicy → Line → Result (List ChainPolicy) TextFault
function_line chains line = do
  _ ← in_chain chains line
  _ ← fit_form (word_forms.Name ∷ word_forms.Name ∷ []) line
  _ ← demand (nat_lt (count_functions chains) 64) (TooManyFunctions line.number)
  _ ← demand (not (has_function chains (word_at line 1))) (DuplicateName line.number)
  kind ← some_or (UnknownKind line.number) (kind_named (word_at line 2))
  Ok (add_function chains (record { name = word_at line 1; line = line.number; kind = kind; settings = [] }))

-- a line of this kind follows a function of the current chain, and has at least one more word
abbrev pub of_function : List ChainPolicy → Line → Result (Unit {0}) TextFault
of_function chains line = do
  _ ← demand (is_some (latest (functions_here chains))) (syntax_at line 0)
  demand (nat_lt 1 (length line.words)) (syntax_at line 1)

abbrev pub setting_of : Line → Setting
setting_of line = record { line = line.number; words = texts line }

-- `set WORD ..`
abbrev pub set_line : List ChainPolicy → Line → Result (List ChainPolicy) TextFault
set_line chains line = do
  _ ← of_function chains line
  Ok (add_setting chains (setting_of line))

-- `rule WORD ..`
abbrev pub rule_line : List ChainPolicy → Line → Result (List ChainPolicy) TextFault
rule_line chains line = do
  _ ← of_function chains line
  _ ← demand (nat_lt (rules_here chains) 256) (TooManyRules line.number)
  Ok (add_setting chains (setting_of line))

-- a function of the current chain by its name
abbrev pub named_at : List ChainPolicy → Line → ℕ → Result ℕ TextFault
named_at chains line place = some_or (UnknownName line.number) (function_named (word_at line place) chains)

-- `order A before B`
abbrev pub order_line : List ChainPolicy → Line → Result (List ChainPolicy) TextFault
order_line chains line = do
  _ ← in_chain chains line
  _ ← fit_form (word_forms.Name ∷ word_forms.Before ∷ word_forms.Name ∷ []) line
  a ← named_at chains line 1
  b ← named_at chains line 3
  Ok (add_statement chains (Order a b line.number))

-- `priority A > B`
abbrev pub priority_line : List ChainPolicy → Line → Result (List ChainPolicy) TextFault
priority_line chains line = do
  _ ← in_chain chains line
  _ ← fit_form (word_forms.Name ∷ word_forms.Above ∷ word_forms.Name ∷ []) line
  high ← named_at chains line 1
  low ← named_at chains line 3
  Ok (add_statement chains (Priority high low line.number))

abbrev pub end_statement : ℕ → ℕ → List ℕ → Statement
end_statement x line end = if bytes_eq end (codes "first") then First x line else Last x line

-- `position A first` and `position A last`
abbrev pub position_line : List ChainPolicy → Line → Result (List ChainPolicy) TextFault
position_line chains line = do
  _ ← in_chain chains line
  _ ← fit_form (word_forms.Name ∷ word_forms.End ∷ []) line
  x ← named_at chains line 1
  Ok (add_statement chains (end_statement x line.number (word_at line 2)))

-- the policy so far with one more line, or the line's first fault
unfoldable pub after_line : List ChainPolicy → Line → Result (List ChainPolicy) TextFault
after_line chains line =
    if bytes_eq (word_at line 0) (codes "chain") then chain_line chains line else
    if bytes_eq (word_at line 0) (codes "fn") then function_line chains line else
    if bytes_eq (word_at line 0) (codes "set") then set_line chains line else
    if bytes_eq (word_at line 0) (codes "rule") then rule_line chains line else
    if bytes_eq (word_at line 0) (codes "order") then order_line chains line else
    if bytes_eq (word_at line 0) (codes "priority") then priority_line chains line else
    if bytes_eq (word_at line 0) (codes "position") then position_line chains line else Err (syntax_at line 0)

-- the policy so far with more lines, or their first fault
abbrev pub after_lines : List ChainPolicy → List Line → Result (List ChainPolicy) TextFault
after_lines chains [] = Ok chains
after_lines chains (line ∷ lines) = do
  more ← after_line chains line
  after_lines more lines

-- `nfp 1`
abbrev pub is_version : List PlacedWord → Bool
is_version (name ∷ number ∷ []) = bytes_eq name.text (codes "nfp") && bytes_eq number.text (codes "1")
is_version words = false

-- the first line that isn't blank is the version
abbrev pub chains_of : List Line → Result (List ChainPolicy) TextFault
chains_of [] = Err BadVersionLine
chains_of (first ∷ lines) = do
  _ ← demand (is_version first.words) BadVersionLine
  after_lines [] lines

-- the policy that a text writes in UTF-8, or its first fault
unfoldable pub policy_of_utf8 : List ℕ → Result Policy TextFault
policy_of_utf8 text = do
  chains ← chains_of (lines_of text)
  Ok (record { chains = chains })

-- the same for any bytes: they have to be UTF-8 (RFC 3629); if not, the first place that isn't is reported first
unfoldable pub policy_of : List ℕ → Result Policy TextFault
policy_of text = if utf8_valid_len text == length text then policy_of_utf8 text else Err (NotUtf8 (utf8_valid_len text))
