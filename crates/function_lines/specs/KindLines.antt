-- Believed: the lines of a declaration, which of them are refused, and the least of these, for a function of any kind.
use Rattle.std.specs.Prelude.{ℕ, min, List, [], ◌∷◌, ◌++◌, map, filter, Bool, false, not, ◌&&◌, ◌||◌, if◌then◌else◌, Option, Some, None, is_none, slice_index_or, filter_map, fold, codes}
use Rattle.std.specs.List.{list_any}
use Rattle.std.specs.Option.{option_map_or}
use Rattle.std.specs.Str.{bytes_eq}
use Rattle.policy_text.specs.declared.policy.FunctionDecl.{FunctionDecl}
use Rattle.policy_text.specs.declared.policy.Setting.{Setting}

-- The lines of a kind: what the words of a line say, None if they are no line of it; the lines that each
-- declaration has to have, each as the test that it passes; and which lines can't be beside these.
pub record KindLines (L : Type 0) : Type 0 where
  pub line_of : List (List ℕ) → Option L
  pub required : List (L → Bool)
  pub clashes : List L → L → Bool

-- each line of the kind can be beside any others
abbrev pub never_clash : {L : Type 0} → List L → L → Bool
never_clash said line = false

-- what the lines of the kind say, in order
abbrev pub said_by : {L : Type 0} → KindLines L → List Setting → List L
said_by lines settings = filter_map (λ s. lines.line_of s.words) settings

-- one of the lines that have to be there is missing
abbrev pub lacks_one : {L : Type 0} → KindLines L → List L → Bool
lacks_one lines said = list_any (λ is. not (list_any is said)) lines.required

-- a word of the line, none past its end
abbrev pub word_of : Setting → ℕ → List ℕ
word_of s place = slice_index_or s.words place []

-- two `set` lines of one key
abbrev pub has_same_key : Setting → Setting → Bool
has_same_key s t = bytes_eq (word_of s 0) (codes "set") && (bytes_eq (word_of t 0) (codes "set") && bytes_eq (word_of s 1) (word_of t 1))

-- a `set` line whose key occurred in a line before
abbrev pub repeats : List Setting → Setting → Bool
repeats before s = list_any (has_same_key s) before

-- a line is refused if it is no line of the kind, or sets a key that occurred before
abbrev pub is_refused : {L : Type 0} → KindLines L → List Setting → Setting → Bool
is_refused lines before s = is_none (lines.line_of s.words) || repeats before s

-- the refused lines among those that follow these
abbrev pub refused_behind : {L : Type 0} → KindLines L → List Setting → List Setting → List ℕ
refused_behind lines before [] = []
refused_behind lines before (s ∷ later) = (if is_refused lines before s then s.line ∷ [] else []) ++ refused_behind lines (before ++ s ∷ []) later

-- a line of the kind that can't be beside what these say
abbrev pub is_clashing : {L : Type 0} → KindLines L → List L → Setting → Bool
is_clashing lines said s = option_map_or (lines.clashes said) (lines.line_of s.words) false

abbrev pub clashing : {L : Type 0} → KindLines L → List L → List Setting → List ℕ
clashing lines said settings = map (λ s. s.line) (filter (is_clashing lines said) settings)

-- all refused lines of a declaration: those that can't be beside what its lines say, and also the `fn` line if a line
-- is missing that has to be there
abbrev pub refused_lines : {L : Type 0} → KindLines L → FunctionDecl → List ℕ
refused_lines lines decl =
    let said = said_by lines decl.settings in
    refused_behind lines [] decl.settings ++ (clashing lines said decl.settings ++ (if lacks_one lines said then decl.line ∷ [] else []))

-- the lesser of two lines
abbrev pub lesser : Option ℕ → ℕ → Option ℕ
lesser None line = Some line
lesser (Some least) line = Some (min least line)

-- the least of these lines, none if there are none
abbrev pub least : List ℕ → Option ℕ
least lines = fold lesser None lines

-- the least refused line of a declaration, none if each line is accepted
abbrev pub refused_line : {L : Type 0} → KindLines L → FunctionDecl → Option ℕ
refused_line lines decl = least (refused_lines lines decl)
