-- Believed: a policy text as numbered lines of words. Lines and columns count from 1, and a column counts bytes.
use Rattle.std.specs.Prelude.{◌≡◌, ◌<◌, ◌≤◌, ◌⊎◌, ℕ, ◌+◌, ◌-◌, List, [], ◌∷◌, length, Bool, ◌==◌, ◌||◌, filter, if◌then◌else◌, nat_lt, slice_index_or}
use Rattle.std.specs.List.{slice_split, before_first}
use Rattle.std.specs.Str.Lines.{strip_carriage_return}

-- a word, and the column at which it begins
pub record PlacedWord : Type 0 where
  pub column : ℕ
  pub text : List ℕ

-- a line's number and its words
pub record Line : Type 0 where
  pub number : ℕ
  pub words : List PlacedWord

-- A text is its first piece and the rest after the byte that separates them, or it is one piece.
abbrev pub IsCut : (ℕ → Bool) → List ℕ → List ℕ → List ℕ → Type 0
IsCut parts text piece rest = (slice_split parts text ≡ piece ∷ slice_split parts rest) ⊎ ((slice_split parts text ≡ piece ∷ []) × (rest ≡ []))

-- the piece and the rest have at most the bytes of the text, and fewer if a byte separates them
pub record IsShared (text piece rest : List ℕ) : Type 0 where
  pub piece_fits : length piece ≤ length text
  pub rest_fits : 0 < length rest → length piece + 1 + length rest ≡ length text
  pub progress : 0 < length text → length rest < length text

-- a line feed ends a line
abbrev pub is_line_feed : ℕ → Bool
is_line_feed b = b == 10

-- spaces and tabs separate words
abbrev pub is_blank : ℕ → Bool
is_blank b = (b == 32) || (b == 9)

-- a number sign begins a comment
abbrev pub is_comment_sign : ℕ → Bool
is_comment_sign b = b == 35

-- what a line says: without the carriage return at its end, and without a comment
abbrev pub content : List ℕ → List ℕ
content line = before_first is_comment_sign (strip_carriage_return line)

-- the pieces of a line, separated by one blank each, each with the column at which it begins
abbrev pub placed : ℕ → List (List ℕ) → List PlacedWord
placed column [] = []
placed column (piece ∷ pieces) = (record { column = column; text = piece }) ∷ placed (column + length piece + 1) pieces

-- the pieces that have a byte
abbrev pub spoken : List PlacedWord → List PlacedWord
spoken words = filter (λ w. nat_lt 0 (length w.text)) words

-- the words of a text that begins in this column: its pieces between blanks, without the empty ones
abbrev pub words_from : ℕ → List ℕ → List PlacedWord
words_from column text = spoken (placed column (slice_split is_blank text))

abbrev pub words_of : List ℕ → List PlacedWord
words_of line = words_from 1 (content line)

-- the lines, numbered from this number on
abbrev pub numbered : ℕ → List (List ℕ) → List Line
numbered number [] = []
numbered number (line ∷ lines) = (record { number = number; words = words_of line }) ∷ numbered (number + 1) lines

-- the lines that have a word
abbrev pub telling : List Line → List Line
telling lines = filter (λ l. nat_lt 0 (length l.words)) lines

-- the lines of a text whose first line has this number, without the blank ones
abbrev pub lines_from : ℕ → List ℕ → List Line
lines_from number text = telling (numbered number (slice_split is_line_feed text))

abbrev pub lines_of : List ℕ → List Line
lines_of text = lines_from 1 text

abbrev pub no_word : PlacedWord
no_word = record { column = 0; text = [] }

-- the word at a place, counted from 0
abbrev pub word_at : Line → ℕ → List ℕ
word_at line k = (slice_index_or line.words k no_word).text

-- one past the last byte of a word
abbrev pub end_of : PlacedWord → ℕ
end_of w = w.column + length w.text

-- the column of the word at a place, or, if it is missing, one past the last word
abbrev pub column_of : Line → ℕ → ℕ
column_of line k = if nat_lt k (length line.words) then (slice_index_or line.words k no_word).column else end_of (slice_index_or line.words (length line.words - 1) no_word)
