-- One more way, in the accounts of functions and chains.
use Rattle.std.proofs.Common.{◌≡◌, ◌+◌, ◌∙◌, ℕ, List, [], ◌∷◌, ◌++◌, length, map, refl, ap, sym, subst, Bool, true, false, arith}
use Rattle.std.specs.Prelude.{count_by, cond, ◌==◌, Option, Some, None, if◌then◌else◌, slice_get, filter_map, is_none}
use Rattle.std.specs.List.{cons_option, enumerate_from}
use Rattle.std.specs.Option.{option_map, option_map_or, unwrap_or}
use Rattle.std.proofs.lemmas.Bool.{eq-eqb, eqb-true}
use Rattle.std.proofs.lemmas.List.{append-nil, length_push}
use Rattle.std.proofs.lemmas.List.Elements.{filter_map-append}
use Rattle.std.proofs.lemmas.Option.{slice_get-map}
use Rattle.declared_lines.specs.LinesOf.{lines_of}
use Rattle.policy_text.specs.declared.policy.FunctionDecl.{FunctionDecl}
use Rattle.traced_run.specs.Telling.{told}
use Rattle.traced_run.specs.declared.acts.TracedAct.{TracedAct}
use Rattle.traced_walk.specs.Traced.{Act}
use Rattle.traced_walk.specs.Ways.{Way}
use Rattle.why_report.specs.Report.{OrderedChain, acts_at, counted, is_gone, is_in, place_in}
use Rattle.why_report.specs.Uses.{NotesAct, raised, use_of}
use Rattle.why_report.specs.declared.uses.FunctionUse.{FunctionUse}
use Rattle.why_account.specs.Accounts.{NotesFunctions, account_of, chain_account, chain_accounts, function_account}
use Rattle.why_account.specs.declared.account.Account.{Account}
use Rattle.why_account.specs.declared.chain.ChainAccount.{ChainAccount}
use Rattle.why_account.specs.declared.function.FunctionAccount.{FunctionAccount}
use Rattle.why_account.proofs.Counts.{count_push, counted_more}

map_same : {A B : Type 0} (f g : A → B) (xs : List A) → ((x : A) → f x ≡ g x) → map f xs ≡ map g xs
map_same f g [] same = refl
map_same f g (x ∷ xs) same = λ i. same x i ∷ map_same f g xs same i

-- the acts of the function at a place, with those of one more way
acts_and : (number place : ℕ) (ways : List Way) (way : Way) → acts_at number place (ways ++ way ∷ []) ≡ acts_at number place ways ++ cons_option (if is_in number way then slice_get way.acts place else None) []
acts_and number place ways way = filter_map-append (λ (w : Way). if is_in number w then slice_get w.acts place else None) ways (way ∷ [])

is_in_it : (number : ℕ) (way : Way) → way.class ≡ Some number → is_in number way ≡ true
is_in_it number way class = ap (λ c. option_map_or (λ n. n == number) c false) class ∙ eq-eqb number number refl

acts_more : (number place : ℕ) (ways : List Way) (way : Way) (found : Option Act) → way.class ≡ Some number → slice_get way.acts place ≡ found
    → acts_at number place (ways ++ way ∷ []) ≡ acts_at number place ways ++ cons_option found []
acts_more number place ways way found class got =
    acts_and number place ways way
    ∙ ap (λ b. acts_at number place ways ++ cons_option (if b then slice_get way.acts place else None) []) (is_in_it number way class)
    ∙ ap (λ o. acts_at number place ways ++ cons_option o []) got

acts_same : (number place : ℕ) (ways : List Way) (way : Way) → is_in number way ≡ false → acts_at number place (ways ++ way ∷ []) ≡ acts_at number place ways
acts_same number place ways way aside =
    acts_and number place ways way
    ∙ ap (λ b. acts_at number place ways ++ cons_option (if b then slice_get way.acts place else None) []) aside
    ∙ append-nil (acts_at number place ways)

-- ---- a function

-- the account of a function, by its acts
abbrev account_by : ℕ → FunctionDecl → List Act → FunctionAccount
account_by place decl acts = record { place = place; lines = lines_of decl; used = use_of decl acts }

module _ (number : ℕ) (order : List FunctionDecl) (decl : FunctionDecl) (ways : List Way) (way : Way) (keeps : Bool) (acts : List TracedAct) (class : way.class ≡ Some number) (are : acts ≡ map (told keeps) way.acts) where
  found_in : (old : FunctionAccount) (got : Option TracedAct) → old ≡ function_account number order ways decl → slice_get acts old.place ≡ got → option_map (told keeps) (slice_get way.acts (place_in order decl.name)) ≡ got
  found_in old got was is =
      sym (slice_get-map (told keeps) way.acts (place_in order decl.name)) ∙ ap (λ l. slice_get l (place_in order decl.name)) (sym are)
      ∙ ap (λ f. slice_get acts f.place) (sym was) ∙ is

  pub function_unmoved : (old : FunctionAccount) → old ≡ function_account number order ways decl → slice_get acts old.place ≡ None → old ≡ function_account number order (ways ++ way ∷ []) decl
  function_unmoved old was is = go (slice_get way.acts (place_in order decl.name)) refl (found_in old None was is)
    where
      go : (o : Option Act) → slice_get way.acts (place_in order decl.name) ≡ o → option_map (told keeps) o ≡ None → old ≡ function_account number order (ways ++ way ∷ []) decl
      go None e none = was ∙ ap (account_by (place_in order decl.name) decl) (sym (append-nil _) ∙ sym (acts_more number (place_in order decl.name) ways way None class e))
      go (Some a) e none = absurd cc

  pub function_noted : (old : FunctionAccount) (act : TracedAct) (used : FunctionUse) → old ≡ function_account number order ways decl → slice_get acts old.place ≡ Some act
      → NotesAct old.lines act.lines act.dropped act.changed old.used used → record { place = old.place; lines = old.lines; used = used } ≡ function_account number order (ways ++ way ∷ []) decl
  function_noted old act used was is notes = go (slice_get way.acts (place_in order decl.name)) refl (found_in old (Some act) was is)
    where
      go : (o : Option Act) → slice_get way.acts (place_in order decl.name) ≡ o → option_map (told keeps) o ≡ Some act → record { place = old.place; lines = old.lines; used = used } ≡ function_account number order (ways ++ way ∷ []) decl
      go None e one = absurd cc
      go (Some a) e one =
          let same : told keeps a ≡ act = ap (λ o. unwrap_or o act) one in
          let more : used ≡ use_of decl (acts_at number (place_in order decl.name) ways ++ a ∷ []) =
          notes decl (acts_at number (place_in order decl.name) ways) a (ap (λ f. f.lines) was) (ap (λ t. t.lines) same) (ap (λ t. t.dropped) same) (ap (λ t. t.changed) same) (ap (λ f. f.used) was) in
          let after : used ≡ use_of decl (acts_at number (place_in order decl.name) (ways ++ way ∷ [])) = more ∙ ap (use_of decl) (sym (acts_more number (place_in order decl.name) ways way (Some a) class e)) in
          λ i. record { place = (was i).place; lines = (was i).lines; used = after i }

-- ---- a chain

class_of_in : (number : ℕ) (class : Option ℕ) → option_map_or (λ n. n == number) class false ≡ true → class ≡ Some number
class_of_in number None is = absurd cc
class_of_in number (Some n) is = ap (λ m. Some m) (eqb-true n number is)

module _ (number : ℕ) (chain : OrderedChain) (ways : List Way) (way : Way) (keeps : Bool) (class : Option ℕ) (acts : List TracedAct) (old : ChainAccount) (is_class : class ≡ way.class) (was : old ≡ chain_account number chain ways) where
  in_it : (b : Bool) → b ≡ option_map_or (λ n. n == old.number) class false → is_in number way ≡ b
  in_it b is = ap (λ c. option_map_or (λ n. n == number) c false) (sym is_class) ∙ ap (λ c. option_map_or (λ n. n == c.number) class false) (sym was) ∙ sym is

  -- another chain took the packet
  pub chain_unmoved : false ≡ option_map_or (λ n. n == old.number) class false → old ≡ chain_account number chain (ways ++ way ∷ [])
  chain_unmoved aside =
      let out : is_in number way ≡ false = in_it false aside in
      was ∙ (λ i. record {
        number = number;
        took = counted (sym (count_push (is_in number) ways way false out ∙ plus_none _) i);
        names = map (λ decl. decl.name) chain.order;
        lines = map lines_of chain.order;
        functions = map_same (function_account number chain.order ways) (function_account number chain.order (ways ++ way ∷ [])) chain.declared.functions
            (λ decl. ap (account_by (place_in chain.order decl.name) decl) (sym (acts_same number (place_in chain.order decl.name) ways way out))) i;
      })
    where
      plus_none : (n : ℕ) → n + 0 ≡ n
      plus_none n = omega arith

  -- this one did
  pub chain_noted : (took : ℕ) (functions : List FunctionAccount) → acts ≡ map (told keeps) way.acts → true ≡ option_map_or (λ n. n == old.number) class false → took ≡ raised old.took true
      → NotesFunctions acts old.functions functions → record { number = old.number; took = took; names = old.names; lines = old.lines; functions = functions } ≡ chain_account number chain (ways ++ way ∷ [])
  chain_noted took functions are inside raises notes =
      let holds : is_in number way ≡ true = in_it true inside in
      let counts : took ≡ counted (count_by (is_in number) (ways ++ way ∷ [])) = raises ∙ ap (λ c. raised c.took true) was ∙ counted_more (is_in number) ways way true holds in
      let all : functions ≡ map (function_account number chain.order (ways ++ way ∷ [])) chain.declared.functions =
      notes number chain.order chain.declared.functions ways way keeps (class_of_in number way.class holds) are (ap (λ c. c.functions) was) in
      λ i. record { number = (was i).number; took = counts i; names = (was i).names; lines = (was i).lines; functions = all i }

-- ---- all of it

pub all_noted : (chains : List OrderedChain) (ways : List Way) (way : Way) (gone : Bool) (none : Bool) (old : Account) (records dropped untaken : ℕ) (accounts : List ChainAccount) → old ≡ account_of chains ways
    → is_gone way.fate ≡ gone → is_none way.class ≡ none → records ≡ old.totals.records + 1 → dropped ≡ old.totals.dropped + cond gone 1 0 → untaken ≡ raised old.untaken none
    → accounts ≡ chain_accounts 0 chains (ways ++ way ∷ []) → record { totals = record { records = records; dropped = dropped }; untaken = untaken; chains = accounts } ≡ account_of chains (ways ++ way ∷ [])
all_noted chains ways way gone none old records dropped untaken accounts was is_gone_so is_none_so one more raises noted =
    let read : records ≡ length (ways ++ way ∷ []) = one ∙ ap (λ a. a.totals.records + 1) was ∙ sym (length_push ways way) in
    let drops : dropped ≡ count_by (λ w. is_gone w.fate) (ways ++ way ∷ []) = more ∙ ap (λ a. a.totals.dropped + cond gone 1 0) was ∙ sym (count_push (λ w. is_gone w.fate) ways way gone is_gone_so) in
    let aside : untaken ≡ counted (count_by (λ w. is_none w.class) (ways ++ way ∷ [])) = raises ∙ ap (λ a. raised a.untaken none) was ∙ counted_more (λ w. is_none w.class) ways way none is_none_so in
    λ i. record { totals = record { records = read i; dropped = drops i }; untaken = aside i; chains = noted i }
