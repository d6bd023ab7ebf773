-- The lines of a function and of a drop, by the account of their chain.
use Rattle.std.proofs.Common.{◌≡◌, ◌<◌, ◌+◌, ◌∙◌, ℕ, List, [], ◌∷◌, ◌++◌, length, map, take, get_or, refl, ap, sym, subst, append_assoc, Bool}
use Rattle.std.specs.Prelude.{Option, Some, None, OnOk, Result, Ok, Err, slice_get}
use Rattle.std.specs.List.{flat_map}
use Rattle.std.specs.Option.{option_map, unwrap_or}
use Rattle.std.proofs.lemmas.List.{append-nil, take_more}
use Rattle.std.proofs.lemmas.List.Concat.{flat_map-append}
use Rattle.std.proofs.lemmas.Option.{slice_get-get_or, slice_get-map}
use Rattle.declared_lines.specs.DeclaredLines.{number_of}
use Rattle.declared_lines.specs.LinesOf.{lines_of}
use Rattle.declared_lines.specs.declared.lines.DeclaredLines.{DeclaredLines}
use Rattle.packet_function.specs.declared.deciding.DecidingLine.{DecidingLine}
use Rattle.policy_text.specs.declared.policy.FunctionDecl.{FunctionDecl}
use Rattle.traced_run.specs.Telling.{told}
use Rattle.traced_run.specs.declared.acts.TracedAct.{TracedAct}
use Rattle.traced_walk.specs.Traced.{Act}
use Rattle.traced_walk.specs.Ways.{Way}
use Rattle.why_report.specs.Report.{OrderedChain, acts_at, drop_by, drop_text, function_lines, place_in}
use Rattle.why_report.specs.Uses.{AddsFunction}
use Rattle.why_account.specs.Accounts.{AddsDropAt, AddsDropBy, AddsFunctionAt, chain_account, function_account, function_lines_of}
use Rattle.why_account.specs.declared.chain.ChainAccount.{ChainAccount}
use Rattle.why_account.specs.declared.function.FunctionAccount.{FunctionAccount}

pub on_ok : {T E : Type 0} (r : Result T E) (P Q : Type 0) → (P → Q) → OnOk r P → OnOk r Q
on_ok (Ok x) P Q f p = f p
on_ok (Err e) P Q f p = tt

-- ---- functions

-- the account at a place is that of the function there
account_there : (number : ℕ) (order decls : List FunctionDecl) (ways : List Way) (accounts : List FunctionAccount) (place : ℕ) (decl : FunctionDecl) (found : Option FunctionAccount) →
    accounts ≡ map (function_account number order ways) decls → slice_get decls place ≡ Some decl → slice_get accounts place ≡ found → Some (function_account number order ways decl) ≡ found
account_there number order decls ways accounts place decl found are is got =
    ap (option_map (function_account number order ways)) (sym is) ∙ sym (slice_get-map (function_account number order ways) decls place) ∙ ap (λ l. slice_get l place) (sym are) ∙ got

pub function_added : (chain : List ℕ) (decl : FunctionDecl) (accounts : List FunctionAccount) (place : ℕ) (account : FunctionAccount) (old new : List ℕ) → slice_get accounts place ≡ Some account
    → AddsFunction chain decl account.lines account.used old new → AddsFunctionAt chain decl accounts place old new
function_added chain decl accounts place account old new got adds = λ number order ways decls are is.
    let same : function_account number order ways decl ≡ account = ap (λ o. unwrap_or o account) (account_there number order decls ways accounts place decl (Some account) are is got) in
    adds (acts_at number (place_in order decl.name) ways) (ap (λ a. a.lines) (sym same)) (ap (λ a. a.used) (sym same))

pub function_missing : (chain : List ℕ) (decl : FunctionDecl) (accounts : List FunctionAccount) (place : ℕ) (old : List ℕ) → slice_get accounts place ≡ None → AddsFunctionAt chain decl accounts place old old
function_missing chain decl accounts place old got = λ number order ways decls are is.
    absurd (let wrong : Some (function_account number order ways decl) ≡ None = account_there number order decls ways accounts place decl None are is got in cc)

-- one more function's lines
pub functions_more : (text : FunctionDecl → List ℕ) (decls : List FunctionDecl) (place : ℕ) (decl : FunctionDecl) (first old new : List ℕ) → place < length decls → decl ≡ get_or decls place decl
    → old ≡ first ++ flat_map text (take place decls) → new ≡ old ++ text decl → new ≡ first ++ flat_map text (take (place + 1) decls)
functions_more text decls place decl first old new inside is before added =
    added ∙ ap (λ l. l ++ text decl) before ∙ append_assoc first (flat_map text (take place decls)) (text decl)
    ∙ ap (λ l. first ++ l) (sym (
    ap (flat_map text) (take_more decls place decl inside)
    ∙ flat_map-append text (take place decls) (get_or decls place decl ∷ [])
    ∙ ap (λ l. flat_map text (take place decls) ++ l) (append-nil (text (get_or decls place decl)) ∙ ap text (sym is))))

-- ---- drops

-- what is at a place of the names and the lines is of the function there
named_there : (order : List FunctionDecl) (names : List (List ℕ)) (place : ℕ) (found : Option (List ℕ)) → names ≡ map (λ (d : FunctionDecl). d.name) order → slice_get names place ≡ found
    → option_map (λ (d : FunctionDecl). d.name) (slice_get order place) ≡ found
named_there order names place found are got = sym (slice_get-map (λ (d : FunctionDecl). d.name) order place) ∙ ap (λ l. slice_get l place) (sym are) ∙ got

lines_there : (order : List FunctionDecl) (lines : List DeclaredLines) (place : ℕ) (found : Option DeclaredLines) → lines ≡ map lines_of order → slice_get lines place ≡ found
    → option_map lines_of (slice_get order place) ≡ found
lines_there order lines place found are got = sym (slice_get-map lines_of order place) ∙ ap (λ l. slice_get l place) (sym are) ∙ got

pub dropped_by : (number : ℕ) (name : List ℕ) (account : ChainAccount) (deciding : List DecidingLine) (at : ℕ) (function : List ℕ) (lines : DeclaredLines) (old new : List ℕ) → slice_get account.names at ≡ Some function → slice_get account.lines at ≡ Some lines
    → ((decl : FunctionDecl) → lines ≡ lines_of decl → new ≡ old ++ flat_map (drop_text number name function) (map (number_of decl) deciding)) → AddsDropBy number name account deciding at old new
dropped_by number name account deciding at function lines old new named lined adds = λ place chain ways act is deciding_is.
    go chain act deciding_is (slice_get chain.order at) refl (named_there chain.order account.names at (Some function) (ap (λ a. a.names) is) named) (lines_there chain.order account.lines at (Some lines) (ap (λ a. a.lines) is) lined)
  where
    go : (chain : OrderedChain) (act : Act) → act.lines ≡ deciding → (o : Option FunctionDecl) → slice_get chain.order at ≡ o → option_map (λ (d : FunctionDecl). d.name) o ≡ Some function → option_map lines_of o ≡ Some lines
        → new ≡ old ++ drop_by number name (slice_get chain.order at) (Some act)
    go chain act deciding_is None e n l = absurd cc
    go chain act deciding_is (Some decl) e n l =
        adds decl (sym (ap (λ o. unwrap_or o lines) l))
        ∙ ap (λ f. old ++ flat_map (drop_text number name f) (map (number_of decl) deciding)) (sym (ap (λ o. unwrap_or o function) n))
        ∙ ap (λ ls. old ++ flat_map (drop_text number name decl.name) (map (number_of decl) ls)) (sym deciding_is)
        ∙ ap (λ o. old ++ drop_by number name o (Some act)) (sym e)

drop_of_none : (number : ℕ) (name : List ℕ) (o : Option FunctionDecl) (act : Option Act) (text : List ℕ) → o ≡ None → text ≡ text ++ drop_by number name o act
drop_of_none number name None act text is = sym (append-nil text)
drop_of_none number name (Some d) act text is = absurd cc

none_in : {A B : Type 0} (f : A → B) (o : Option A) → option_map f o ≡ None → o ≡ None
none_in f None is = refl
none_in f (Some a) is = absurd cc

pub unnamed : (number : ℕ) (name : List ℕ) (account : ChainAccount) (deciding : List DecidingLine) (at : ℕ) (old : List ℕ) → slice_get account.names at ≡ None → AddsDropBy number name account deciding at old old
unnamed number name account deciding at old named = λ place chain ways act is deciding_is.
    drop_of_none number name (slice_get chain.order at) (Some act) old (none_in (λ (d : FunctionDecl). d.name) (slice_get chain.order at) (named_there chain.order account.names at None (ap (λ a. a.names) is) named))

pub unlined : (number : ℕ) (name : List ℕ) (account : ChainAccount) (deciding : List DecidingLine) (at : ℕ) (old : List ℕ) → slice_get account.lines at ≡ None → AddsDropBy number name account deciding at old old
unlined number name account deciding at old lined = λ place chain ways act is deciding_is.
    drop_of_none number name (slice_get chain.order at) (Some act) old (none_in lines_of (slice_get chain.order at) (lines_there chain.order account.lines at None (ap (λ a. a.lines) is) lined))

act_there : (keeps : Bool) (way_acts : List Act) (acts : List TracedAct) (at : ℕ) (found : Option TracedAct) → acts ≡ map (told keeps) way_acts → slice_get acts at ≡ found → option_map (told keeps) (slice_get way_acts at) ≡ found
act_there keeps way_acts acts at found are got = sym (slice_get-map (told keeps) way_acts at) ∙ ap (λ l. slice_get l at) (sym are) ∙ got

pub dropped_at : (number : ℕ) (name : List ℕ) (account : ChainAccount) (acts : List TracedAct) (at : ℕ) (act : TracedAct) (old new : List ℕ) → slice_get acts at ≡ Some act
    → AddsDropBy number name account act.lines at old new → AddsDropAt number name account acts at old new
dropped_at number name account acts at act old new got adds = λ place chain ways way_acts keeps named is are.
    go place chain ways way_acts keeps named is (slice_get way_acts at) refl (act_there keeps way_acts acts at (Some act) are got)
  where
    go : (place : ℕ) (chain : OrderedChain) (ways : List Way) (way_acts : List Act) (keeps : Bool) → name ≡ chain.declared.name → account ≡ chain_account place chain ways → (o : Option Act) → slice_get way_acts at ≡ o → option_map (told keeps) o ≡ Some act
        → new ≡ old ++ drop_by number chain.declared.name (slice_get chain.order at) (slice_get way_acts at)
    go place chain ways way_acts keeps named is None e t = absurd cc
    go place chain ways way_acts keeps named is (Some a) e t =
        adds place chain ways a is (ap (λ o. (unwrap_or o act).lines) t)
        ∙ ap (λ n. old ++ drop_by number n (slice_get chain.order at) (Some a)) named
        ∙ ap (λ o. old ++ drop_by number chain.declared.name (slice_get chain.order at) o) (sym e)

no_act : (number : ℕ) (name : List ℕ) (o : Option FunctionDecl) (act : Option Act) (text : List ℕ) → act ≡ None → text ≡ text ++ drop_by number name o act
no_act number name None act text is = sym (append-nil text)
no_act number name (Some d) None text is = sym (append-nil text)
no_act number name (Some d) (Some a) text is = absurd cc

pub unacted : (number : ℕ) (name : List ℕ) (account : ChainAccount) (acts : List TracedAct) (at : ℕ) (old : List ℕ) → slice_get acts at ≡ None → AddsDropAt number name account acts at old old
unacted number name account acts at old got = λ place chain ways way_acts keeps named is are.
    no_act number chain.declared.name (slice_get chain.order at) (slice_get way_acts at) old (none_in (told keeps) (slice_get way_acts at) (act_there keeps way_acts acts at None are got))
