-- Believed: a line with a pattern: `rule text` with a word, or `rule hex` with digits.
use Rattle.std.specs.Prelude.{ℕ, List, [], ◌∷◌, if◌then◌else◌, Option, None, codes}
use Rattle.std.specs.Str.{bytes_eq}
use Rattle.policy_text.specs.Bytes.{pattern_of}
use Rattle.function_lines.specs.KindLines.{KindLines, never_clash}

-- the pattern of a line, none if it has none
unfoldable pub line_of : List (List ℕ) → Option (List ℕ)
line_of (lead ∷ form ∷ word ∷ []) = if bytes_eq lead (codes "rule") then pattern_of form word else None
line_of words = None

-- the lines of a kind that only takes patterns, none of which is required
abbrev pub pattern_lines : KindLines (List ℕ)
pattern_lines = record { line_of = line_of; required = []; clashes = never_clash }
