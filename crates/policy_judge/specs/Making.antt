-- Believed: the functions that a policy declares.
use Rattle.std.specs.Prelude.{List, map, Option, Some}
use Rattle.net_functions.specs.Builds.{function_of}
use Rattle.net_functions.specs.declared.making.Made.{Made}
use Rattle.policy_text.specs.declared.policy.ChainPolicy.{ChainPolicy}
use Rattle.policy_text.specs.declared.policy.FunctionDecl.{FunctionDecl}

-- the place of a declared function, which holds it until it is taken out
abbrev pub place_of : FunctionDecl → Option Made
place_of decl = Some (function_of decl)

-- the functions of each chain as they are declared
abbrev pub functions_made : List ChainPolicy → List (List (Option Made))
functions_made chains = map (λ c. map place_of c.functions) chains
