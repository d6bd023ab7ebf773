-- For proofs: what is kept of the ways of packets, and how one more way changes it.
use Rattle.std.specs.Prelude.{◌≡◌, ℕ, ◌+◌, ◌++◌, List, [], ◌∷◌, length, map, count_by, Bool, Option, Some, is_none, slice_get}
use Rattle.std.specs.List.{enumerate_from, flat_map}
use Rattle.capture_items.specs.declared.fault.FormatFault.{FormatFault}
use Rattle.chain_walk.specs.declared.walk.Fate.{Fate}
use Rattle.declared_lines.specs.LinesOf.{lines_of}
use Rattle.packet_function.specs.declared.deciding.DecidingLine.{DecidingLine}
use Rattle.policy_text.specs.declared.policy.ChainPolicy.{ChainPolicy}
use Rattle.policy_text.specs.declared.policy.FunctionDecl.{FunctionDecl}
use Rattle.traced_run.specs.Telling.{told}
use Rattle.traced_run.specs.declared.acts.TracedAct.{TracedAct}
use Rattle.traced_walk.specs.Traced.{Act}
use Rattle.traced_walk.specs.Ways.{Way}
use Rattle.why_report.specs.Report.{OrderedChain, acts_at, chain_lines, counted, drop_by, drop_in, function_lines, is_gone, is_in, place_in, summary}
use Rattle.why_report.specs.Uses.{use_of}
use Rattle.why_account.specs.declared.account.Account.{Account}
use Rattle.why_account.specs.declared.chain.ChainAccount.{ChainAccount}
use Rattle.why_account.specs.declared.function.FunctionAccount.{FunctionAccount}

-- ---- the account of these ways

abbrev pub function_account : ℕ → List FunctionDecl → List Way → FunctionDecl → FunctionAccount
function_account number order ways decl = record {
  place = place_in order decl.name;
  lines = lines_of decl;
  used = use_of decl (acts_at number (place_in order decl.name) ways);
}

abbrev pub chain_account : ℕ → OrderedChain → List Way → ChainAccount
chain_account number chain ways = record {
  number = number;
  took = counted (count_by (is_in number) ways);
  names = map (λ decl. decl.name) chain.order;
  lines = map lines_of chain.order;
  functions = map (function_account number chain.order ways) chain.declared.functions;
}

-- those of chains in a row, the first with this number
abbrev pub chain_accounts : ℕ → List OrderedChain → List Way → List ChainAccount
chain_accounts first chains ways = map (λ x. chain_account x.0 x.1 ways) (enumerate_from first chains)

abbrev pub account_of : List OrderedChain → List Way → Account
account_of chains ways = record {
  totals = record { records = length ways; dropped = count_by (λ way. is_gone way.fate) ways };
  untaken = counted (count_by (λ way. is_none way.class) ways);
  chains = chain_accounts 0 chains ways;
}

-- ---- one more way

-- the acts of one more packet, which this chain took
abbrev pub NotesFunction : List TracedAct → FunctionAccount → FunctionAccount → Type 0
NotesFunction acts old new =
    (number : ℕ) → (order : List FunctionDecl) → (decl : FunctionDecl) → (ways : List Way) → (way : Way) → (keeps : Bool) → way.class ≡ Some number → acts ≡ map (told keeps) way.acts
    → old ≡ function_account number order ways decl → new ≡ function_account number order (ways ++ way ∷ []) decl

abbrev pub NotesFunctions : List TracedAct → List FunctionAccount → List FunctionAccount → Type 0
NotesFunctions acts old new =
    (number : ℕ) → (order decls : List FunctionDecl) → (ways : List Way) → (way : Way) → (keeps : Bool) → way.class ≡ Some number → acts ≡ map (told keeps) way.acts
    → old ≡ map (function_account number order ways) decls → new ≡ map (function_account number order (ways ++ way ∷ [])) decls

-- one more packet, which the chain with this number took, if one did
abbrev pub NotesChain : Option ℕ → List TracedAct → ChainAccount → ChainAccount → Type 0
NotesChain class acts old new =
    (number : ℕ) → (chain : OrderedChain) → (ways : List Way) → (way : Way) → (keeps : Bool) → class ≡ way.class → acts ≡ map (told keeps) way.acts
    → old ≡ chain_account number chain ways → new ≡ chain_account number chain (ways ++ way ∷ [])

abbrev pub NotesChains : Option ℕ → List TracedAct → List ChainAccount → List ChainAccount → Type 0
NotesChains class acts old new =
    (first : ℕ) → (chains : List OrderedChain) → (ways : List Way) → (way : Way) → (keeps : Bool) → class ≡ way.class → acts ≡ map (told keeps) way.acts
    → old ≡ chain_accounts first chains ways → new ≡ chain_accounts first chains (ways ++ way ∷ [])

-- one more packet: the account of all ways becomes that of these and this one
abbrev pub NotesWay : Option ℕ → Fate → List TracedAct → Account → Account → Type 0
NotesWay class fate acts old new =
    (chains : List OrderedChain) → (ways : List Way) → (way : Way) → (keeps : Bool) → class ≡ way.class → fate ≡ way.fate → acts ≡ map (told keeps) way.acts
    → old ≡ account_of chains ways → new ≡ account_of chains (ways ++ way ∷ [])

-- ---- the lines

-- behind a text stands the line of a packet that ended so in this chain, if it was dropped
abbrev pub AddsDrop : ℕ → List ℕ → ChainAccount → List TracedAct → Fate → List ℕ → List ℕ → Type 0
AddsDrop number name account acts fate old new =
    (place : ℕ) → (chain : OrderedChain) → (ways : List Way) → (way_acts : List Act) → (keeps : Bool) → name ≡ chain.declared.name → account ≡ chain_account place chain ways
    → acts ≡ map (told keeps) way_acts → new ≡ old ++ drop_in number chain way_acts fate

-- the same of the drop by the function at this place of the chain
abbrev pub AddsDropAt : ℕ → List ℕ → ChainAccount → List TracedAct → ℕ → List ℕ → List ℕ → Type 0
AddsDropAt number name account acts at old new =
    (place : ℕ) → (chain : OrderedChain) → (ways : List Way) → (way_acts : List Act) → (keeps : Bool) → name ≡ chain.declared.name → account ≡ chain_account place chain ways
    → acts ≡ map (told keeps) way_acts → new ≡ old ++ drop_by number chain.declared.name (slice_get chain.order at) (slice_get way_acts at)

-- the same by these deciding lines
abbrev pub AddsDropBy : ℕ → List ℕ → ChainAccount → List DecidingLine → ℕ → List ℕ → List ℕ → Type 0
AddsDropBy number name account deciding at old new =
    (place : ℕ) → (chain : OrderedChain) → (ways : List Way) → (act : Act) → account ≡ chain_account place chain ways → act.lines ≡ deciding
    → new ≡ old ++ drop_by number name (slice_get chain.order at) (Some act)

-- the lines of a function of a chain
abbrev pub function_lines_of : List ℕ → ℕ → List FunctionDecl → List Way → FunctionDecl → List ℕ
function_lines_of chain number order ways decl = function_lines chain decl (acts_at number (place_in order decl.name) ways)

-- behind a text stand the lines of these functions of a chain
abbrev pub AddsFunctions : List ℕ → List FunctionDecl → List FunctionAccount → List ℕ → List ℕ → Type 0
AddsFunctions chain decls accounts old new =
    (number : ℕ) → (order : List FunctionDecl) → (ways : List Way) → accounts ≡ map (function_account number order ways) decls
    → new ≡ old ++ flat_map (function_lines_of chain number order ways) decls

-- those of the function whose account is at this place
abbrev pub AddsFunctionAt : List ℕ → FunctionDecl → List FunctionAccount → ℕ → List ℕ → List ℕ → Type 0
AddsFunctionAt chain decl accounts place old new =
    (number : ℕ) → (order : List FunctionDecl) → (ways : List Way) → (decls : List FunctionDecl) → accounts ≡ map (function_account number order ways) decls
    → slice_get decls place ≡ Some decl → new ≡ old ++ function_lines_of chain number order ways decl

-- behind a text stand the lines of a chain and its functions
abbrev pub AddsChain : ChainPolicy → ChainAccount → List ℕ → List ℕ → Type 0
AddsChain declared account old new =
    (number : ℕ) → (chain : OrderedChain) → (ways : List Way) → chain.declared ≡ declared → account ≡ chain_account number chain ways → new ≡ old ++ chain_lines number chain ways
