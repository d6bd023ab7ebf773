-- Believed: the least line of a policy that a function refuses.
use Rattle.std.specs.Prelude.{◌≡◌, ℕ, min, List, All, Option, Some, None, fold}
use Rattle.policy_text.specs.declared.policy.ChainPolicy.{ChainPolicy}
use Rattle.policy_text.specs.declared.policy.FunctionDecl.{FunctionDecl}
use Rattle.net_functions.specs.Builds.{refused_line}

-- the lesser of two lines, if there are two
abbrev pub lesser_of : Option ℕ → Option ℕ → Option ℕ
lesser_of None line = line
lesser_of (Some least) None = Some least
lesser_of (Some least) (Some line) = Some (min least line)

-- the least of a line and those that these functions refuse
abbrev pub least_among : Option ℕ → List FunctionDecl → Option ℕ
least_among least functions = fold (λ line f. lesser_of line (refused_line f)) least functions

-- the least line that a function refuses, over all functions of these chains
abbrev pub least_refused : List ChainPolicy → Option ℕ
least_refused chains = fold (λ line c. least_among line c.functions) None chains

-- no function of the chain refuses a line
abbrev pub IsSettled : ChainPolicy → Type 0
IsSettled chain = All (λ f. refused_line f ≡ None) chain.functions
