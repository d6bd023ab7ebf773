-- For proofs: when a line of a declaration is refused, as a relation beside the list of refused lines.
use Rattle.std.specs.Prelude.{◌≡◌, ℕ, List, ◌∷◌, ◌++◌, true}
use Rattle.policy_text.specs.declared.policy.FunctionDecl.{FunctionDecl}
use Rattle.policy_text.specs.declared.policy.Setting.{Setting}
use Rattle.function_lines.specs.KindLines.{KindLines, said_by, lacks_one, is_refused, is_clashing}

-- The line of this number is refused: it is no line of its kind or sets a key that occurred before, it can't be beside
-- what the lines of its declaration say, or it is the `fn` line and a line is missing that has to be there.
pub data IsRefused {L : Type 0} (lines : KindLines L) (decl : FunctionDecl) : ℕ → Type 0 where
  setting : (before : List Setting) (s : Setting) (later : List Setting) → decl.settings ≡ before ++ s ∷ later → is_refused lines before s ≡ true → IsRefused lines decl s.line
  clash : (before : List Setting) (s : Setting) (later : List Setting) → decl.settings ≡ before ++ s ∷ later → is_clashing lines (said_by lines decl.settings) s ≡ true → IsRefused lines decl s.line
  missing : lacks_one lines (said_by lines decl.settings) ≡ true → IsRefused lines decl decl.line
