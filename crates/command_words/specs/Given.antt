-- Believed: the parts of the words after a command: its names, and its options with their values.
use Rattle.std.specs.Prelude.{ℕ, List, [], ◌∷◌, drop, map, Bool, false, true, if◌then◌else◌, ◌==◌, ◌&&◌, not, Option, Some, None, option_map, codes}
use Rattle.std.specs.List.{list_all, list_any, before_first, after_first}
use Rattle.std.specs.Str.{bytes_eq}

abbrev pub Word : Type 0
Word = List ℕ

-- it begins with a dash
abbrev pub has_dash : Word → Bool
has_dash [] = false
has_dash (c ∷ cs) = c == 45

-- it begins with two dashes, as an option does: `--x`, or `--x=v` with its value
abbrev pub has_dashes : Word → Bool
has_dashes word = has_dash word && has_dash (drop 1 word)

abbrev pub is_equals : ℕ → Bool
is_equals c = c == 61

abbrev pub option_in : Word → Word
option_in word = before_first is_equals (drop 2 word)

abbrev pub value_in : Word → Word
value_in word = after_first is_equals (drop 2 word)

-- neither empty nor a single dash
abbrev pub has_text : Word → Bool
has_text word = not (bytes_eq word []) && not (bytes_eq word (codes "-"))

abbrev pub contains : Word → List Word → Bool
contains word words = list_any (λ w. bytes_eq w word) words

-- no two of the words are equal
abbrev pub all_differ : List Word → Bool
all_differ [] = true
all_differ (w ∷ ws) = not (contains w ws) && all_differ ws

-- The names in their order, and the options that are given, each with its value.
pub record Given : Type 0 where
  pub names : List Word
  pub options : List (Word × Word)

abbrev pub with_name : Word → Given → Given
with_name word given = record { names = word ∷ given.names; options = given.options }

abbrev pub with_option : Word → Word → Given → Given
with_option x value given = record { names = given.names; options = (x, value) ∷ given.options }

-- The parts of the words, with these known options, one of which may wait for its value. A word without a dash is a
-- name, or the awaited value. A known option has its value attached, or waits for the next word. After `--` each word
-- is a name. There are no parts if a word isn't allowed at its place, or if an option still waits at the end.
unfoldable pub given_by : List Word → Option Word → List Word → Option Given
given_by known None [] = Some (record { names = []; options = [] })
given_by known (Some x) [] = None
given_by known (Some x) (word ∷ words) = if has_dash word then None else option_map (with_option x word) (given_by known None words)
given_by known None (word ∷ words) =
    if not (has_dash word) then option_map (with_name word) (given_by known None words) else
    if bytes_eq word (codes "--") then Some (record { names = words; options = [] }) else
    if not (has_dashes word && contains (option_in word) known) then None else
    if list_any is_equals word then option_map (with_option (option_in word) (value_in word)) (given_by known None words)
    else given_by known (Some (option_in word)) words

-- each name and each value has text, and no option is given twice
abbrev pub is_sound : Given → Bool
is_sound given = (list_all has_text given.names && list_all (λ o. has_text o.1) given.options) && all_differ (map (λ o. o.0) given.options)

-- the value of an option, if it is given
abbrev pub value_given : Word → List (Word × Word) → Option Word
value_given x [] = None
value_given x (o ∷ os) = if bytes_eq o.0 x then Some o.1 else value_given x os
