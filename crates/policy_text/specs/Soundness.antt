-- For proofs: what holds for every policy that a text writes.
use Rattle.std.specs.Prelude.{◌≡◌, ◌≢◌, ◌<◌, ◌≤◌, ℕ, List, [], length, map, count_by, All, AllPairs, Bool, true, ◌||◌, slice_index_or, codes}
use Rattle.std.specs.List.{flat_map}
use Rattle.std.specs.Str.{bytes_eq}
use Rattle.policy_text.specs.declared.policy.ChainPolicy.{ChainPolicy}
use Rattle.policy_text.specs.declared.policy.FunctionDecl.{FunctionDecl}
use Rattle.policy_text.specs.declared.policy.Setting.{Setting}
use Rattle.policy_text.specs.declared.policy.Statement.{Statement}
use Rattle.policy_text.specs.declared.policy.Statement.TheVariants.{Order, Priority, First, Last}
use Rattle.policy_text.specs.Grammar.{is_rule}
use Rattle.policy_text.specs.Values.{is_name}

-- a statement names functions below this number, counted from 0
abbrev pub SpeaksOf : ℕ → Statement → Type 0
SpeaksOf count (Order a b line) = (a < count) × (b < count)
SpeaksOf count (Priority high low line) = (high < count) × (low < count)
SpeaksOf count (First x line) = x < count
SpeaksOf count (Last x line) = x < count

-- `set` or `rule`, and at least one more word
abbrev pub leads_setting : Setting → Bool
leads_setting s = bytes_eq (slice_index_or s.words 0 []) (codes "set") || is_rule s

pub record IsSoundSetting (s : Setting) : Type 0 where
  pub lead : leads_setting s ≡ true
  pub more : 2 ≤ length s.words

pub record IsSoundFunction (f : FunctionDecl) : Type 0 where
  pub name : is_name f.name ≡ true
  pub settings : All IsSoundSetting f.settings
  pub rules : count_by is_rule f.settings ≤ 256

pub record IsSoundChain (c : ChainPolicy) : Type 0 where
  pub name : is_name c.name ≡ true
  pub functions : All IsSoundFunction c.functions
  pub statements : All (SpeaksOf (length c.functions)) c.statements

abbrev pub chain_names : List ChainPolicy → List (List ℕ)
chain_names chains = map (λ c. c.name) chains

abbrev pub function_names : List ChainPolicy → List (List ℕ)
function_names chains = flat_map (λ c. map (λ f. f.name) c.functions) chains

-- names differ, and the limits are kept
pub record IsSound (chains : List ChainPolicy) : Type 0 where
  pub each : All IsSoundChain chains
  pub few_chains : length chains ≤ 16
  pub few_functions : length (function_names chains) ≤ 64
  pub chain_names_differ : AllPairs (λ a b. a ≢ b) (chain_names chains)
  pub function_names_differ : AllPairs (λ a b. a ≢ b) (function_names chains)
