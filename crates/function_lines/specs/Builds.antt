-- For proofs: what reading the lines of a declaration returns, and making a function of them.
use Rattle.std.specs.Prelude.{◌≡◌, List, Some, None, Result, Ok, Err}
use Rattle.policy_text.specs.declared.fault.BuildFault.{BuildFault}
use Rattle.policy_text.specs.declared.fault.BuildFault.TheVariants.{BadSetting, OutOfMemory}
use Rattle.policy_text.specs.declared.policy.FunctionDecl.{FunctionDecl}
use Rattle.function_lines.specs.KindLines.{KindLines, said_by, refused_line}

-- What is made of the lines, if no line is refused, or the least refused line; it may run out of memory.
abbrev pub Builds : {L F : Type 0} → KindLines L → (List L → F) → FunctionDecl → Result F BuildFault → Type 0
Builds lines made_by decl (Ok f) = (refused_line lines decl ≡ None) × (f ≡ made_by (said_by lines decl.settings))
Builds lines made_by decl (Err (BadSetting line)) = refused_line lines decl ≡ Some line
Builds lines made_by decl (Err OutOfMemory) = Unit {0}
