-- Each line keeps a policy sound.
use Rattle.std.proofs.Common.{◌≡◌, ◌≢◌, ◌<◌, ◌≤◌, ◌+◌, ◌∙◌, ℕ, List, ◌∷◌, ◌++◌, [], length, get_or, true, false, Bool, Some, sym, ap, refl, arith, cond, map, subst, length-append}
use Rattle.std.specs.Prelude.{Ok, Err, Result, IfOk, ⊤, All, AllPairs, count_by, is_some, nat_lt, ◌==◌, not, ◌||◌, slice_index_or, codes}
use Rattle.std.specs.List.{list_any, AllByRecursion}
use Rattle.std.specs.Option.{option_map, option_map_or}
use Rattle.std.specs.Str.{bytes_eq}
use Rattle.std.proofs.lemmas.List.{length-map, map_push, append-nil, append_assoc}
use Rattle.std.proofs.lemmas.List.Elements.{All-push, All-from_recursion}
use Rattle.std.proofs.lemmas.Grind.{flat_map-append}
use Rattle.std.proofs.lemmas.List.Quantifiers.{all_pairs_push}
use Rattle.std.proofs.lemmas.List.Sums.{sum_by_push, sum_by-cons}
use Rattle.std.proofs.lemmas.Slice.Eq.{bytes_eq-Decides}
use Rattle.std.proofs.lemmas.Bool.{ltb-true}
use Rattle.policy_text.specs.declared.clause.Clause.{Clause}
use Rattle.policy_text.specs.declared.fault.TextFault.TheVariants.{NotUtf8, BadVersionLine, TooManyRules, TooManyChains, TooManyFunctions, DuplicateName, UnknownKind}
use Rattle.policy_text.specs.declared.form.WordForm.{WordForm}
use Rattle.policy_text.specs.declared.form.WordForm.TheVariants as word_forms
use Rattle.policy_text.specs.declared.policy.ChainPolicy.{ChainPolicy}
use Rattle.policy_text.specs.declared.policy.FunctionDecl.{FunctionDecl}
use Rattle.policy_text.specs.declared.policy.Setting.{Setting}
use Rattle.policy_text.specs.declared.policy.Statement.{Statement}
use Rattle.policy_text.specs.declared.policy.Statement.TheVariants.{Order, Priority, First, Last}
use Rattle.policy_text.specs.Forms.{misfit_from}
use Rattle.std.proofs.lemmas.Option.{cond_some}
use Rattle.policy_text.specs.Clauses.{clauses_from}
use Rattle.std.specs.Str.Lossy.{utf8_valid_len}
use Rattle.policy_text.specs.declared.policy.Policy.{Policy}
use Rattle.action_profile.specs.Kinds.{kind_named}
use Rattle.policy_text.specs.Grammar.{is_version, chains_of, policy_of, policy_of_utf8, syntax_at, latest, change_latest, fit_form, chain_clauses, texts, fail_at, functions_here, function_named, named_at, add_statement, add_function, add_setting, set_up_latest, rules_here, is_rule, setting_of, of_function, in_chain, is_function, has_chain, has_function, count_functions, end_statement, chain_line, function_line, set_line, rule_line, order_line, priority_line, position_line, after_line, after_lines}
use Rattle.policy_text.specs.Lines.{lines_of, Line, PlacedWord, word_at, no_word}
use Rattle.policy_text.specs.Soundness.{SpeaksOf, IsSoundSetting, IsSoundFunction, IsSoundChain, IsSound, chain_names, function_names}
use Rattle.policy_text.specs.Steps.{◌>>=◌, demand, some_or, unless}
use Rattle.policy_text.specs.Values.{is_name}
use Rattle.policy_text.proofs.Keeping.{latest_cons, one_step, two_steps, one_value, two_values, value_first, value_last, cond_keeps, demand_ok, some_or_ok, all_latest, length-change_latest, map-change_latest}

-- the functions of a chain are those of the current one
here_is : (chains : List ChainPolicy) (c : ChainPolicy) → latest chains ≡ Some c → functions_here chains ≡ c.functions
here_is chains c is = ap (λ o. option_map_or (λ (c : ChainPolicy). c.functions) o []) is

-- a change of the current chain that keeps its functions' names
function_names-latest : (f : ChainPolicy → ChainPolicy) (chains : List ChainPolicy) → ((c : ChainPolicy) → map (λ g. g.name) (f c).functions ≡ map (λ g. g.name) c.functions) →
    function_names (change_latest f chains) ≡ function_names chains
function_names-latest f [] same = refl
function_names-latest f (c ∷ []) same = ap (λ ns. ns ++ []) (same c)
function_names-latest f (c ∷ d ∷ ds) same = ap (λ ns. map (λ g. g.name) c.functions ++ ns) (function_names-latest f (d ∷ ds) same)

-- a statement
statement_keeps : (chains : List ChainPolicy) (s : Statement) → IsSound chains → SpeaksOf (length (functions_here chains)) s → IsSound (add_statement chains s)
statement_keeps chains s sound speaks = record {
  each = all_latest IsSoundChain (λ c. record c { statements = c.statements ++ s ∷ [] }) chains sound.each (λ c is h.
      record { name = h.name; functions = h.functions; statements = All-push (SpeaksOf (length c.functions)) c.statements s h.statements (subst (λ (fs : List FunctionDecl). SpeaksOf (length fs) s) (here_is chains c is) speaks) });
  few_chains = rw length-change_latest sound.few_chains;
  few_functions = rw (function_names-latest (λ c. record c { statements = c.statements ++ s ∷ [] }) chains (λ c. refl)) sound.few_functions;
  chain_names_differ = rw (map-change_latest (λ c. c.name) (λ c. record c { statements = c.statements ++ s ∷ [] }) chains (λ c. refl)) sound.chain_names_differ;
  function_names_differ = rw (function_names-latest (λ c. record c { statements = c.statements ++ s ∷ [] }) chains (λ c. refl)) sound.function_names_differ;
}

named_ok : (chains : List ChainPolicy) (line : Line) (place k : ℕ) → named_at chains line place ≡ Ok k → k < length (functions_here chains)
named_ok chains line place k e =
    let found = cond_some _ _ _ (some_or_ok _ (function_named (word_at line place) chains) k e) in
    omega (arith, ltb-true _ _ found.0, found.1)

-- the orders
order_keeps : (chains : List ChainPolicy) (line : Line) → IsSound chains → IfOk (order_line chains line) IsSound
order_keeps chains line sound =
    two_values IsSound (in_chain chains line) (fit_form (word_forms.Name ∷ word_forms.Before ∷ word_forms.Name ∷ []) line) (named_at chains line 1) (named_at chains line 3)
    (λ a b. add_statement chains (Order a b line.number))
    (λ a b ea eb. statement_keeps chains (Order a b line.number) sound (named_ok chains line 1 a ea, named_ok chains line 3 b eb))

priority_keeps : (chains : List ChainPolicy) (line : Line) → IsSound chains → IfOk (priority_line chains line) IsSound
priority_keeps chains line sound =
    two_values IsSound (in_chain chains line) (fit_form (word_forms.Name ∷ word_forms.Above ∷ word_forms.Name ∷ []) line) (named_at chains line 1) (named_at chains line 3)
    (λ a b. add_statement chains (Priority a b line.number))
    (λ a b ea eb. statement_keeps chains (Priority a b line.number) sound (named_ok chains line 1 a ea, named_ok chains line 3 b eb))

speaks_end : (n x number : ℕ) (end : List ℕ) → x < n → SpeaksOf n (end_statement x number end)
speaks_end n x number end inside = elim (bytes_eq end (codes "first")) as (λ b. SpeaksOf n (cond b (First x number) (Last x number))) [ true ↦ inside | false ↦ inside ]

position_keeps : (chains : List ChainPolicy) (line : Line) → IsSound chains → IfOk (position_line chains line) IsSound
position_keeps chains line sound =
    one_value IsSound (in_chain chains line) (fit_form (word_forms.Name ∷ word_forms.End ∷ []) line) (named_at chains line 1)
    (λ x. add_statement chains (end_statement x line.number (word_at line 2)))
    (λ x e. statement_keeps chains (end_statement x line.number (word_at line 2)) sound (speaks_end _ x line.number (word_at line 2) (named_ok chains line 1 x e)))

-- a setting
rules_more : (n : ℕ) (b : Bool) → (b ≡ true → n < 256) → n ≤ 256 → n + cond b 1 0 ≤ 256
rules_more n true room few = omega (arith, room refl)
rules_more n false room few = omega arith

abbrev with_setting : Setting → FunctionDecl → FunctionDecl
with_setting s f = record f { settings = f.settings ++ s ∷ [] }

abbrev with_set_up : Setting → ChainPolicy → ChainPolicy
with_set_up s c = record c { functions = set_up_latest c.functions s }

rules_are : (chains : List ChainPolicy) (c : ChainPolicy) (f : FunctionDecl) → latest chains ≡ Some c → latest c.functions ≡ Some f → rules_here chains ≡ count_by is_rule f.settings
rules_are chains c f here last =
    ap (λ fs. option_map_or (λ (f : FunctionDecl). count_by is_rule f.settings) (latest fs) 0) (here_is chains c here) ∙ ap (λ o. option_map_or (λ (f : FunctionDecl). count_by is_rule f.settings) o 0) last

setting_keeps : (chains : List ChainPolicy) (s : Setting) → IsSound chains → IsSoundSetting s → (is_rule s ≡ true → rules_here chains < 256) → IsSound (add_setting chains s)
setting_keeps chains s sound good room = record {
  each = all_latest IsSoundChain (with_set_up s) chains sound.each (λ c here h. record {
    name = h.name;
    functions = all_latest IsSoundFunction (with_setting s) c.functions h.functions (λ f last hf. record {
      name = hf.name;
      settings = All-push IsSoundSetting f.settings s hf.settings good;
      rules = rw (sum_by_push (λ s. cond (is_rule s) 1 0) f.settings s) (rules_more (count_by is_rule f.settings) (is_rule s) (λ rule. subst (λ n. n < 256) (rules_are chains c f here last) (room rule)) hf.rules);
    });
    statements = subst (λ n. All (SpeaksOf n) c.statements) (sym (length-change_latest (with_setting s) c.functions)) h.statements;
  });
  few_chains = rw length-change_latest sound.few_chains;
  few_functions = rw (names_stay s chains) sound.few_functions;
  chain_names_differ = rw (map-change_latest (λ c. c.name) (with_set_up s) chains (λ c. refl)) sound.chain_names_differ;
  function_names_differ = rw (names_stay s chains) sound.function_names_differ;
}
  where
    names_stay : (s : Setting) (chains : List ChainPolicy) → function_names (change_latest (with_set_up s) chains) ≡ function_names chains
    names_stay s chains = function_names-latest (with_set_up s) chains (λ c. map-change_latest (λ g. g.name) (with_setting s) c.functions (λ f. refl))

first_text : (words : List PlacedWord) → slice_index_or (map (λ w. w.text) words) 0 [] ≡ (slice_index_or words 0 no_word).text
first_text [] = refl
first_text (w ∷ ws) = refl

set_is_no_rule : (word : List ℕ) → bytes_eq word (codes "set") ≡ true → bytes_eq word (codes "rule") ≡ false
set_is_no_rule word is = ap (λ w. bytes_eq w (codes "rule")) ((bytes_eq-Decides word (codes "set")).0 is)

or_left : (a b : Bool) → a ≡ true → (a || b) ≡ true
or_left true b h = refl
or_left false b h = cc

or_right : (a b : Bool) → b ≡ true → (a || b) ≡ true
or_right true b h = refl
or_right false b h = h

of_function_ok : (chains : List ChainPolicy) (line : Line) (u : ⊤) → of_function chains line ≡ Ok u → 2 ≤ length line.words
of_function_ok chains line u e = elim (is_some (latest (functions_here chains))) as (λ b. (demand b (syntax_at line 0) >>= (λ _. demand (nat_lt 1 (length line.words)) (syntax_at line 1))) ≡ Ok u → 2 ≤ length line.words) [
  | true ↦ λ h. ltb-true _ _ (demand_ok _ _ u h)
  | false ↦ λ h. absurd (failed h)
] e
  where
    failed : {E : Type 0} {e : E} {u : ⊤} → Err e ≡ Ok u → ⊥
    failed h = cc

true_false : true ≡ false → ⊥
true_false h = cc

set_keeps : (chains : List ChainPolicy) (line : Line) → IsSound chains → bytes_eq (word_at line 0) (codes "set") ≡ true → IfOk (set_line chains line) IsSound
set_keeps chains line sound set =
    one_step IsSound (of_function chains line) (add_setting chains (setting_of line)) (λ u e.
    let lead : bytes_eq (slice_index_or (texts line) 0 []) (codes "set") ≡ true = ap (λ w. bytes_eq w (codes "set")) (first_text line.words) ∙ set in
    setting_keeps chains (setting_of line) sound
    (record { lead = or_left _ _ lead; more = rw length-map (of_function_ok chains line u e) })
    (λ rule. absurd (true_false (sym rule ∙ set_is_no_rule (slice_index_or (texts line) 0 []) lead))))

rule_keeps : (chains : List ChainPolicy) (line : Line) → IsSound chains → bytes_eq (word_at line 0) (codes "rule") ≡ true → IfOk (rule_line chains line) IsSound
rule_keeps chains line sound rule =
    two_steps IsSound (of_function chains line) (demand (nat_lt (rules_here chains) 256) (TooManyRules line.number)) (add_setting chains (setting_of line)) (λ u v e few.
    let lead : bytes_eq (slice_index_or (texts line) 0 []) (codes "rule") ≡ true = ap (λ w. bytes_eq w (codes "rule")) (first_text line.words) ∙ rule in
    setting_keeps chains (setting_of line) sound
    (record { lead = or_right _ _ lead; more = rw length-map (of_function_ok chains line u e) })
    (λ _. ltb-true _ _ (demand_ok _ _ v few)))

-- names that differ
or_false : (a b : Bool) → (a || b) ≡ false → (a ≡ false) × (b ≡ false)
or_false true b h = cc
or_false false b h = (refl, h)

differ : (a b : List ℕ) → bytes_eq a b ≡ false → a ≢ b
differ a b h same = true_false (sym ((bytes_eq-Decides a b).1 same) ∙ h)

no_chain : (chains : List ChainPolicy) (name : List ℕ) → has_chain chains name ≡ false → AllByRecursion (λ n. n ≢ name) (chain_names chains)
no_chain [] name h = tt
no_chain (c ∷ cs) name h = let both = or_false _ (has_chain cs name) h in (differ c.name name both.0, no_chain cs name both.1)

recursion_append : {A : Type 0} (P : A → Type 0) (xs ys : List A) → AllByRecursion P xs → AllByRecursion P ys → AllByRecursion P (xs ++ ys)
recursion_append P [] ys h k = k
recursion_append P (x ∷ xs) ys h k = (h.0, recursion_append P xs ys h.1 k)

no_function_in : (functions : List FunctionDecl) (name : List ℕ) → list_any (is_function name) functions ≡ false → AllByRecursion (λ n. n ≢ name) (map (λ f. f.name) functions)
no_function_in [] name h = tt
no_function_in (f ∷ fs) name h = let both = or_false _ (list_any (is_function name) fs) h in (differ f.name name both.0, no_function_in fs name both.1)

no_function : (chains : List ChainPolicy) (name : List ℕ) → has_function chains name ≡ false → AllByRecursion (λ n. n ≢ name) (function_names chains)
no_function [] name h = tt
no_function (c ∷ cs) name h =
    let both = or_false (list_any (is_function name) c.functions) (has_function cs name) h in
    recursion_append (λ n. n ≢ name) (map (λ f. f.name) c.functions) (function_names cs) (no_function_in c.functions name both.0) (no_function cs name both.1)

names_push : (names : List (List ℕ)) (name : List ℕ) → AllPairs (λ a b. a ≢ b) names → AllByRecursion (λ n. n ≢ name) names → AllPairs (λ a b. a ≢ b) (names ++ name ∷ [])
names_push names name pairs new = all_pairs_push (λ a b. a ≢ b) names name pairs (λ k d inside. All-from_recursion (λ n. n ≢ name) names new k d inside)

count_names : (chains : List ChainPolicy) → count_functions chains ≡ length (function_names chains)
count_names [] = refl
count_names (c ∷ cs) =
    omega (arith, sum_by-cons (λ c. length c.functions) c cs, count_names cs, length-append (map (λ f. f.name) c.functions) (function_names cs), length-map c.functions (λ f. f.name))

-- a chain
chain_keeps : (chains : List ChainPolicy) (c : ChainPolicy) → IsSound chains → is_name c.name ≡ true → c.functions ≡ [] → c.statements ≡ [] → length chains < 16 → has_chain chains c.name ≡ false → IsSound (chains ++ c ∷ [])
chain_keeps chains c sound name no_functions no_statements few new = record {
  each = All-push IsSoundChain chains c sound.each (record {
    name = name;
    functions = subst (All IsSoundFunction) (sym no_functions) (λ k d inside. absurd (omega arith));
    statements = subst (All (SpeaksOf (length c.functions))) (sym no_statements) (λ k d inside. absurd (omega arith));
  });
  few_chains = omega (arith, length-append chains (c ∷ []));
  few_functions = rw same sound.few_functions;
  chain_names_differ = rw (map_push (λ c. c.name) chains c) (names_push (chain_names chains) c.name sound.chain_names_differ (no_chain chains c.name new));
  function_names_differ = rw same sound.function_names_differ;
}
  where
    same : function_names (chains ++ c ∷ []) ≡ function_names chains
    same = flat_map-append (λ c. map (λ f. f.name) c.functions) chains (c ∷ []) ∙ ap (λ fs. function_names chains ++ (map (λ f. f.name) fs ++ [])) no_functions ∙ append-nil (function_names chains)

-- a function
abbrev with_function : FunctionDecl → ChainPolicy → ChainPolicy
with_function f c = record c { functions = c.functions ++ f ∷ [] }

function_names-push : (chains : List ChainPolicy) (f : FunctionDecl) → is_some (latest chains) ≡ true → function_names (add_function chains f) ≡ function_names chains ++ f.name ∷ []
function_names-push [] f some = absurd (true_false (sym some))
function_names-push (c ∷ []) f some =
    append-nil (map (λ g. g.name) (c.functions ++ f ∷ [])) ∙ map_push (λ g. g.name) c.functions f ∙ ap (λ ns. ns ++ f.name ∷ []) (sym (append-nil (map (λ g. g.name) c.functions)))
function_names-push (c ∷ d ∷ ds) f some =
    ap (λ ns. map (λ g. g.name) c.functions ++ ns) (function_names-push (d ∷ ds) f (ap is_some (sym (latest_cons c d ds)) ∙ some)) ∙ sym (append_assoc (map (λ g. g.name) c.functions) (function_names (d ∷ ds)) (f.name ∷ []))

speaks_more : (n : ℕ) (s : Statement) → SpeaksOf n s → SpeaksOf (n + 1) s
speaks_more n (Order a b line) h = (omega (arith, h.0), omega (arith, h.1))
speaks_more n (Priority a b line) h = (omega (arith, h.0), omega (arith, h.1))
speaks_more n (First x line) h = omega (arith, h)
speaks_more n (Last x line) h = omega (arith, h)

function_keeps : (chains : List ChainPolicy) (f : FunctionDecl) → IsSound chains → IsSoundFunction f → is_some (latest chains) ≡ true → count_functions chains < 64 → has_function chains f.name ≡ false → IsSound (add_function chains f)
function_keeps chains f sound good some few new = record {
  each = all_latest IsSoundChain (with_function f) chains sound.each (λ c here h. record {
    name = h.name;
    functions = All-push IsSoundFunction c.functions f h.functions good;
    statements = subst (λ n. All (SpeaksOf n) c.statements) (sym (length-append c.functions (f ∷ []))) (λ k d inside. speaks_more (length c.functions) (get_or c.statements k d) (h.statements k d inside));
  });
  few_chains = rw length-change_latest sound.few_chains;
  few_functions = rw (function_names-push chains f some) (omega (arith, length-append (function_names chains) (f.name ∷ []), count_names chains));
  chain_names_differ = rw (map-change_latest (λ c. c.name) (with_function f) chains (λ c. refl)) sound.chain_names_differ;
  function_names_differ = rw (function_names-push chains f some) (names_push (function_names chains) f.name sound.function_names_differ (no_function chains f.name new));
}

not_true : (b : Bool) → not b ≡ true → b ≡ false
not_true true h = cc
not_true false h = refl

-- a form that begins with a name
failed : {A E : Type 0} {e : E} {x : A} → Err e ≡ Ok x → ⊥
failed h = cc

fit_name : (form : List WordForm) (number : ℕ) (words : List PlacedWord) (u : ⊤) → fit_form (word_forms.Name ∷ form) (record { number = number; words = words }) ≡ Ok u → is_name (word_at (record { number = number; words = words }) 1) ≡ true
fit_name form number [] u h = absurd (failed h)
fit_name form number (w ∷ []) u h = absurd (failed h)
fit_name form number (w ∷ v ∷ ws) u h = elim (is_name v.text) as (λ b. unless (option_map (syntax_at (record { number = number; words = w ∷ v ∷ ws })) (cond b (misfit_from 2 form ws) (Some 1))) ≡ Ok u → b ≡ true) [
  | true ↦ λ _. refl
  | false ↦ λ e. absurd (failed e)
] h

function_line_keeps : (chains : List ChainPolicy) (line : Line) → IsSound chains → IfOk (function_line chains line) IsSound
function_line_keeps chains line sound =
    value_last IsSound (in_chain chains line) (fit_form (word_forms.Name ∷ word_forms.Name ∷ []) line) (demand (nat_lt (count_functions chains) 64) (TooManyFunctions line.number))
    (demand (not (has_function chains (word_at line 1))) (DuplicateName line.number)) (some_or (UnknownKind line.number) (kind_named (word_at line 2)))
    (λ kind. add_function chains (record { name = word_at line 1; line = line.number; kind = kind; settings = [] }))
    (λ u v w z kind eu ev ew ez.
    function_keeps chains (record { name = word_at line 1; line = line.number; kind = kind; settings = [] }) sound
    (record { name = fit_name (word_forms.Name ∷ []) line.number line.words v ev; settings = λ k d inside. absurd (omega arith); rules = omega arith })
    (demand_ok _ _ u eu) (ltb-true _ _ (demand_ok _ _ w ew)) (not_true _ (demand_ok _ _ z ez)))

-- a chain whose words fit has a name
chain_name : (number : ℕ) (words : List PlacedWord) (cs : List Clause) → fail_at (record { number = number; words = words }) (chain_clauses (map (λ w. w.text) words)) ≡ Ok cs →
    is_name (word_at (record { number = number; words = words }) 1) ≡ true
chain_name number [] cs h = absurd (failed h)
chain_name number (w ∷ []) cs h = absurd (failed h)
chain_name number (w ∷ v ∷ []) cs h = elim (is_name v.text) as (λ b. fail_at (record { number = number; words = w ∷ v ∷ [] }) (cond b (Ok []) (Err 1)) ≡ Ok cs → b ≡ true) [ true ↦ λ _. refl | false ↦ λ e. absurd (failed e) ] h
chain_name number (w ∷ v ∷ k ∷ []) cs h =
    elim (is_name v.text) as (λ b. fail_at (record { number = number; words = w ∷ v ∷ k ∷ [] }) (cond b (cond (bytes_eq k.text (codes "match")) (Err 3) (Err 2)) (Err 1)) ≡ Ok cs → b ≡ true) [ true ↦ λ _. refl | false ↦ λ e. absurd (failed e) ] h
chain_name number (w ∷ v ∷ k ∷ x ∷ xs) cs h =
    elim (is_name v.text) as (λ b. fail_at (record { number = number; words = w ∷ v ∷ k ∷ x ∷ xs }) (cond b (cond (bytes_eq k.text (codes "match")) (clauses_from [] 3 (x.text ∷ map (λ w. w.text) xs)) (Err 2)) (Err 1)) ≡ Ok cs → b ≡ true) [ true ↦ λ _. refl | false ↦ λ e. absurd (failed e) ] h

chain_line_keeps : (chains : List ChainPolicy) (line : Line) → IsSound chains → IfOk (chain_line chains line) IsSound
chain_line_keeps chains line sound =
    value_first IsSound (fail_at line (chain_clauses (texts line))) (demand (nat_lt (length chains) 16) (TooManyChains line.number)) (demand (not (has_chain chains (word_at line 1))) (DuplicateName line.number))
    (λ cs. chains ++ (record { name = word_at line 1; line = line.number; fit = record { clauses = cs }; functions = []; statements = [] }) ∷ [])
    (λ cs u v ec eu ev.
    chain_keeps chains (record { name = word_at line 1; line = line.number; fit = record { clauses = cs }; functions = []; statements = [] }) sound
    (chain_name line.number line.words cs ec) refl refl (ltb-true _ _ (demand_ok _ _ u eu)) (not_true _ (demand_ok _ _ v ev)))

-- a line
line_keeps : (chains : List ChainPolicy) (line : Line) → IsSound chains → IfOk (after_line chains line) IsSound
unfolding after_line
line_keeps chains line sound =
    cond_keeps IsSound (bytes_eq (word_at line 0) (codes "chain")) _ _ (λ _. chain_line_keeps chains line sound)
    (cond_keeps IsSound (bytes_eq (word_at line 0) (codes "fn")) _ _ (λ _. function_line_keeps chains line sound)
    (cond_keeps IsSound (bytes_eq (word_at line 0) (codes "set")) _ _ (set_keeps chains line sound)
    (cond_keeps IsSound (bytes_eq (word_at line 0) (codes "rule")) _ _ (rule_keeps chains line sound)
    (cond_keeps IsSound (bytes_eq (word_at line 0) (codes "order")) _ _ (λ _. order_keeps chains line sound)
    (cond_keeps IsSound (bytes_eq (word_at line 0) (codes "priority")) _ _ (λ _. priority_keeps chains line sound)
    (cond_keeps IsSound (bytes_eq (word_at line 0) (codes "position")) _ _ (λ _. position_keeps chains line sound) tt))))))

lines_keep : (chains : List ChainPolicy) (lines : List Line) → IsSound chains → IfOk (after_lines chains lines) IsSound
lines_keep chains [] sound = sound
lines_keep chains (line ∷ lines) sound =
    elim (after_line chains line) as (λ r. IfOk r IsSound → IfOk (r >>= (λ more. after_lines more lines)) IsSound) [
      | Ok more ↦ λ h. lines_keep more lines h
      | Err e ↦ λ _. tt
    ] (line_keeps chains line sound)

none_sound : IsSound []
none_sound = record {
  each = λ k d inside. absurd (omega arith);
  few_chains = omega arith;
  few_functions = omega arith;
  chain_names_differ = λ i j d below inside. absurd (omega arith);
  function_names_differ = λ i j d below inside. absurd (omega arith);
}

chains_keep : (lines : List Line) → IfOk (chains_of lines) IsSound
chains_keep [] = tt
chains_keep (first ∷ lines) =
    elim (is_version first.words) as (λ b. IfOk (demand b BadVersionLine >>= (λ _. after_lines [] lines)) IsSound) [
      | true ↦ lines_keep [] lines none_sound
      | false ↦ tt
    ]

same_ok : {A E : Type 0} (r : Result A E) (x y : A) → r ≡ Ok x → r ≡ Ok y → x ≡ y
same_ok r x y h k = cc

-- every policy that a text writes is sound
pub policy_sound : (text : List ℕ) (p : Policy) → policy_of text ≡ Ok p → IsSound p.chains
unfolding policy_of policy_of_utf8
policy_sound text p e =
    elim (utf8_valid_len text == length text) as (λ b. cond b (chains_of (lines_of text) >>= (λ chains. Ok (record { chains = chains }))) (Err (NotUtf8 (utf8_valid_len text))) ≡ Ok p → IsSound p.chains) [
      | true ↦ elim (chains_of (lines_of text)) as (λ r. IfOk r IsSound → (r >>= (λ chains. Ok (record { chains = chains }))) ≡ Ok p → IsSound p.chains) [
        | Ok chains ↦ λ sound is. subst (λ (q : Policy). IsSound q.chains) (same_ok _ _ _ refl is) sound
        | Err fault ↦ λ _ is. absurd (failed is)
      ] (chains_keep (lines_of text))
      | false ↦ λ is. absurd (failed is)
    ] e
