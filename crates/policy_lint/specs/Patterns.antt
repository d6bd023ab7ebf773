-- For proofs: patterns that are hardly spelled as they are meant.
use Rattle.std.specs.Prelude.{ℕ, ◌+◌, ◌-◌, List, [], ◌∷◌, ◌++◌, map, length, position, slice_index_or, Bool, true, false, not, ◌&&◌, ◌||◌, ◌==◌, nat_lt, if◌then◌else◌, codes}
use Rattle.std.specs.List.{slice_split, list_any}
use Rattle.std.specs.Option.{option_map_or}
use Rattle.std.specs.Str.{bytes_eq}
use Rattle.action_profile.specs.declared.kind.Kind.{Kind}
use Rattle.action_profile.specs.declared.kind.Kind.TheVariants.{Signature, Redactor}
use Rattle.policy_text.specs.Lines.{is_line_feed, is_blank, is_comment_sign}
use Rattle.policy_text.specs.declared.policy.FunctionDecl.{FunctionDecl}
use Rattle.policy_text.specs.declared.policy.Setting.{Setting}
use Rattle.policy_lint.specs.declared.finding.Finding.{Finding}
use Rattle.policy_lint.specs.declared.finding.Finding.TheVariants.{QuotedPattern, CommaPattern, CutPattern, GlobPattern, RegexPattern}
use Rattle.policy_lint.specs.Gathering.{told_if, gathered}
use Rattle.policy_lint.specs.Rules.{word_of}

-- a byte of a word, 0 past its end
abbrev pub byte_at : List ℕ → ℕ → ℕ
byte_at word place = slice_index_or word place 0

-- the last byte but this number of bytes
abbrev pub from_end : List ℕ → ℕ → ℕ
from_end word count = byte_at word (length word - (count + 1))

-- in quotes, double or single
abbrev pub is_quote : ℕ → Bool
is_quote b = (b == 34) || (b == 39)

abbrev pub is_quoted : List ℕ → Bool
is_quoted word = nat_lt 1 (length word) && (is_quote (byte_at word 0) && (from_end word 0 == byte_at word 0))

-- with a comma at the end
abbrev pub ends_in_comma : List ℕ → Bool
ends_in_comma word = nat_lt 1 (length word) && (from_end word 0 == 44)

-- with `*` at an end
abbrev pub is_glob : List ℕ → Bool
is_glob word = nat_lt 1 (length word) && ((byte_at word 0 == 42) || (from_end word 0 == 42))

-- what a regular expression has and words hardly have: one of `\ ^ $ [ ( | * +`
abbrev pub is_sign : ℕ → Bool
is_sign b = (b == 92) || ((b == 94) || ((b == 36) || ((b == 91) || ((b == 40) || ((b == 124) || ((b == 42) || (b == 43)))))))

-- it ends with a slash and `i`, or has such a sign and ends with a slash
abbrev pub ends_as_regex : List ℕ → Bool
ends_as_regex word = ((from_end word 0 == 105) && (from_end word 1 == 47)) || ((from_end word 0 == 47) && list_any is_sign word)

-- and begins with a slash
abbrev pub is_regex : List ℕ → Bool
is_regex word = nat_lt 2 (length word) && ((byte_at word 0 == 47) && ends_as_regex word)

-- the kinds whose rules are patterns
abbrev pub has_patterns : Kind → Bool
has_patterns Signature = true
has_patterns Redactor = true
has_patterns kind = false

-- a rule of such a kind
abbrev pub is_pattern_line : Kind → Setting → Bool
is_pattern_line kind s = has_patterns kind && bytes_eq (word_of s.words 0) (codes "rule")

-- the word behind `rule text`, none where there is none
abbrev pub text_of : Kind → Setting → List ℕ
text_of kind s = if is_pattern_line kind s && bytes_eq (word_of s.words 1) (codes "text") then word_of s.words 2 else []

-- a place right after a word
abbrev pub is_after_word : List ℕ → ℕ → Bool
is_after_word line place = nat_lt 0 place && not (is_blank (byte_at line (place - 1)))

-- a line has a comment that begins right after a word
abbrev pub is_cut : List ℕ → Bool
is_cut line = option_map_or (is_after_word line) (position is_comment_sign line) false

-- whether they have, line by line
abbrev pub cut_lines : List ℕ → List Bool
cut_lines text = map is_cut (slice_split is_line_feed text)

-- whether the line of this number has
abbrev pub is_cut_at : List Bool → ℕ → Bool
is_cut_at cuts line = slice_index_or cuts (line - 1) false

-- what is odd in a line of a function of this kind
abbrev pub told_pattern : List Bool → Kind → Setting → List Finding
told_pattern cuts kind s =
    told_if (is_quoted (text_of kind s)) (QuotedPattern s.line)
    ++ (told_if (ends_in_comma (text_of kind s)) (CommaPattern s.line)
    ++ (told_if (is_pattern_line kind s && is_cut_at cuts s.line) (CutPattern s.line)
    ++ (told_if (is_glob (text_of kind s)) (GlobPattern s.line)
    ++ told_if (is_regex (text_of kind s)) (RegexPattern s.line))))

abbrev pub told_patterns : List Bool → FunctionDecl → List Finding
told_patterns cuts decl = gathered (λ before s. told_pattern cuts decl.kind s) [] decl.settings
