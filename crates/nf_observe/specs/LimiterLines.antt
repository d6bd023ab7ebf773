-- Believed: the lines of a limiter, both required: `set rate N`, in bytes a second, and `set burst N`, in bytes.
use Rattle.std.specs.Prelude.{ℕ, List, [], ◌∷◌, Bool, true, false, ◌==◌, if◌then◌else◌, Option, Some, None, codes}
use Rattle.std.specs.Option.{option_map}
use Rattle.std.specs.Str.{bytes_eq}
use Rattle.policy_text.specs.Values.{number_of}
use Rattle.function_lines.specs.KindLines.{KindLines, never_clash}
use Rattle.nf_observe.specs.declared.limiter.lines.LimiterLine.{LimiterLine}
use Rattle.nf_observe.specs.declared.limiter.lines.LimiterLine.TheVariants as lines

-- a number that isn't 0
abbrev pub positive : Option ℕ → Option ℕ
positive None = None
positive (Some n) = if n == 0 then None else Some n

-- a number from 1 to the largest of 32 bits
abbrev pub amount_of : List ℕ → Option ℕ
amount_of word = positive (number_of 20 4294967295 word)

abbrev pub setting_of : List ℕ → Option ℕ → Option LimiterLine
setting_of key amount =
    if bytes_eq key (codes "rate") then option_map (λ n. lines.Rate n) amount else
    if bytes_eq key (codes "burst") then option_map (λ n. lines.Burst n) amount else None

-- what a line says, none if it is no line of a limiter
unfoldable pub line_of : List (List ℕ) → Option LimiterLine
line_of (lead ∷ key ∷ word ∷ []) = if bytes_eq lead (codes "set") then setting_of key (amount_of word) else None
line_of words = None

abbrev pub is_rate : LimiterLine → Bool
is_rate (lines.Rate n) = true
is_rate (lines.Burst n) = false

abbrev pub is_burst : LimiterLine → Bool
is_burst (lines.Rate n) = false
is_burst (lines.Burst n) = true

-- the lines of a limiter, both of which are required
abbrev pub limiter_lines : KindLines LimiterLine
limiter_lines = record { line_of = line_of; required = is_rate ∷ is_burst ∷ []; clashes = never_clash }
