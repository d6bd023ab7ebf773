-- For proofs: what findings mean for packets, in the words of the functions that are made of the declarations.
use Rattle.std.specs.Prelude.{ℕ, ◌≡◌, List, ◌∷◌, ◌++◌, length, true, false, slice_get, Some, None, All}
use Rattle.policy_text.specs.declared.policy.ChainPolicy.{ChainPolicy}
use Rattle.policy_text.specs.declared.policy.FunctionDecl.{FunctionDecl}
use Rattle.policy_text.specs.declared.policy.Setting.{Setting}
use Rattle.policy_check.specs.declared.fault.Order.{Order}
use Rattle.chain_walk.specs.Packets.{Packet}
use Rattle.net_functions.specs.Builds.{function_of, refused_line}
use Rattle.net_functions.specs.declared.net_function.NetFunction.{NetFunction}
use Rattle.policy_lint.specs.declared.finding.Finding.{Finding}
use Rattle.policy_lint.specs.declared.finding.Finding.TheVariants.{RuleCovered, NeverReached, DropsNone, DropsEach}
use Rattle.policy_lint.specs.Findings.{order_at}
use Rattle.policy_lint.specs.Meaning.{IsFunction, StandsBehind}
use Rattle.lint_laws.specs.Alike.{AreMadeAlike, IsMadeToDrop}
use Rattle.lint_laws.specs.Walks.{AreInOrder, StaysBehind}

-- each line of each function is accepted, as in a policy without fault
abbrev pub AreAccepted : List ChainPolicy → Type 0
AreAccepted chains = All (λ (chain : ChainPolicy). All (λ (decl : FunctionDecl). refused_line decl ≡ None) chain.functions) chains

-- A rule that may go: without its line, which is this, the function that is made does the same with every packet.
pub record IsNeedless (line : ℕ) (decl : FunctionDecl) : Type 0 where
  pub front : List Setting
  pub rule : Setting
  pub back : List Setting
  pub of_settings : decl.settings ≡ front ++ rule ∷ back
  pub at_line : rule.line ≡ line
  pub same : AreMadeAlike (function_of decl) (function_of (record decl { settings = front ++ back }))

-- the function of this line drops every packet, or passes every packet
abbrev pub IsDropping : ℕ → FunctionDecl → Type 0
IsDropping line decl = (decl.line ≡ line) × IsMadeToDrop true (function_of decl)

abbrev pub IsPassing : ℕ → FunctionDecl → Type 0
IsPassing line decl = (decl.line ≡ line) × IsMadeToDrop false (function_of decl)

-- The function on this line stands, in the order of its chain, behind that on the other line, which drops every packet. So no
-- packet comes out, and it stays as it is made, as all functions from the other on.
pub record IsShutOff (chains : List ChainPolicy) (orders : List Order) (line other : ℕ) : Type 0 where
  pub behind : StandsBehind chains orders line other
  pub dropper : FunctionDecl
  pub is_there : slice_get behind.chain.functions behind.earlier ≡ Some dropper
  pub drops : IsMadeToDrop true (function_of dropper)
  pub stays : (functions : List NetFunction) → AreInOrder behind.chain.functions (order_at orders (length behind.before)) functions → (packets : List Packet) → StaysBehind (length behind.follows.among.front) functions packets

abbrev pub IsSoOfPackets : List ChainPolicy → List Order → Finding → Type 0
IsSoOfPackets chains orders (RuleCovered line by) = IsFunction (IsNeedless line) chains
IsSoOfPackets chains orders (NeverReached line by) = IsShutOff chains orders line by
IsSoOfPackets chains orders (DropsNone line) = IsFunction (IsPassing line) chains
IsSoOfPackets chains orders (DropsEach line) = IsFunction (IsDropping line) chains
IsSoOfPackets chains orders finding = Unit {0}
