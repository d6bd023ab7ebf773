-- For proofs: what is kept of functions while the least refused line is searched.
use Rattle.std.specs.Prelude.{◌≡◌, ℕ, List, map, Option, Some, None, Result, Ok, Err}
use Rattle.net_functions.specs.Builds.{refused_line, function_of}
use Rattle.net_functions.specs.declared.making.Made.{Made}
use Rattle.policy_text.specs.declared.fault.BuildFault.{BuildFault}
use Rattle.policy_text.specs.declared.fault.BuildFault.TheVariants.{BadSetting, OutOfMemory}
use Rattle.policy_text.specs.declared.policy.ChainPolicy.{ChainPolicy}
use Rattle.policy_text.specs.declared.policy.FunctionDecl.{FunctionDecl}
use Rattle.policy_judge.specs.Making.{functions_made}
use Rattle.policy_judge.specs.Settings.{least_refused}

-- the function, if it refuses no line
abbrev pub kept_where : Option ℕ → Made → Option Made
kept_where None function = Some function
kept_where (Some line) function = None

abbrev pub kept_of : FunctionDecl → Option Made
kept_of decl = kept_where (refused_line decl) (function_of decl)

abbrev pub kept_each : List FunctionDecl → List (Option Made)
kept_each decls = map kept_of decls

-- the functions of each chain, if no line is refused, or the least refused line; it may run out of memory
abbrev pub MakesAll : List ChainPolicy → Result (List (List (Option Made))) BuildFault → Type 0
MakesAll chains (Ok functions) = (least_refused chains ≡ None) × (functions ≡ functions_made chains)
MakesAll chains (Err (BadSetting line)) = least_refused chains ≡ Some line
MakesAll chains (Err OutOfMemory) = Unit {0}
