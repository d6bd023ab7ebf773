-- For proofs: the role of each word after a command for `clap`: a name, an option, or an option's value. A single dash
-- is a name here.
use Rattle.std.specs.Prelude.{ℕ, ◌==◌, ◌&&◌, Bool, true, false, List, [], ◌∷◌, map}
use Rattle.std.specs.Prelude.{length, Option, Some, None, if◌then◌else◌}
use Rattle.std.specs.List.{list_all, list_any, before_first, after_first}
use Rattle.command_words.specs.Given.{Word, all_differ, contains, is_equals}

-- ---- the form of a word

-- no dash first, or the dash alone; a dash and more; `--`; `--x`, or `--x=v` with the value v
pub data Look : Type 0 where
  plain : Look
  short : Look
  dashes : Look
  long : Word → Option Word → Look

-- what follows a first dash
abbrev pub after_dash : Word → Option Word
after_dash [] = None
after_dash (c ∷ cs) = if c == 45 then Some cs else None

-- what follows the first `=`
abbrev pub attached : Word → Option Word
attached text = if list_any is_equals text then Some (after_first is_equals text) else None

abbrev pub look_of_long : Word → Look
look_of_long [] = dashes
look_of_long (c ∷ cs) = long (before_first is_equals (c ∷ cs)) (attached (c ∷ cs))

abbrev pub look_of_second : Option Word → Look
look_of_second None = short
look_of_second (Some rest) = look_of_long rest

abbrev pub look_of_dashed : Word → Look
look_of_dashed [] = plain
look_of_dashed (c ∷ cs) = look_of_second (after_dash (c ∷ cs))

abbrev pub look_of_first : Option Word → Look
look_of_first None = plain
look_of_first (Some rest) = look_of_dashed rest

abbrev pub look_of : Word → Look
look_of word = look_of_first (after_dash word)

-- ---- the role of a word

-- what is allowed at a word: a name or an option; the value of this option; a name alone
pub data Due : Type 0 where
  anything : Due
  value_of : Word → Due
  names_only : Due

-- the role of a word: a name; `--`; an option whose value is the next word; a value with its option;
-- or a word that isn't allowed there
pub data Role : Type 0 where
  name : Word → Role
  separator : Role
  opens : Word → Role
  gives : Word → Word → Role
  unfit : Role

abbrev pub option_role : Bool → Word → Option Word → Role
option_role false x value = unfit
option_role true x (Some v) = gives x v
option_role true x None = opens x

abbrev pub role_by : List Word → Due → Look → Word → Role
role_by options names_only look word = name word
role_by options (value_of x) plain word = gives x word
role_by options (value_of x) look word = unfit
role_by options anything plain word = name word
role_by options anything short word = unfit
role_by options anything dashes word = separator
role_by options anything (long x value) word = option_role (contains x options) x value

abbrev pub role_of : List Word → Due → Word → Role
role_of options due word = role_by options due (look_of word) word

-- what is allowed after it
abbrev pub due_after : Due → Role → Due
due_after due separator = names_only
due_after due (opens x) = value_of x
due_after due (gives x v) = anything
due_after due _ = due

-- if the words end before an option has its value, that is one more fault
abbrev pub role_of_end : Due → List Role
role_of_end (value_of x) = unfit ∷ []
role_of_end _ = []

unfoldable pub roles : List Word → Due → List Word → List Role
roles options due [] = role_of_end due
roles options due (word ∷ words) =
    let role = role_of options due word in
    role ∷ roles options (due_after due role) words

-- ---- the parts of the words

abbrev pub is_fit : Role → Bool
is_fit unfit = false
is_fit _ = true

abbrev pub add_name : Role → List Word → List Word
add_name (name word) rest = word ∷ rest
add_name _ rest = rest

abbrev pub names_in : List Role → List Word
names_in [] = []
names_in (role ∷ rest) = add_name role (names_in rest)

abbrev pub add_option : Role → List (Word × Word) → List (Word × Word)
add_option (gives x v) rest = (x, v) ∷ rest
add_option _ rest = rest

abbrev pub options_in : List Role → List (Word × Word)
options_in [] = []
options_in (role ∷ rest) = add_option role (options_in rest)

abbrev pub option_names : List (Word × Word) → List Word
option_names = map (λ o. o.0)

-- each word is allowed at its place, there are `n` names, and no option is given twice
abbrev pub is_whole : ℕ → List Role → Bool
is_whole n rs = list_all is_fit rs
    && (length (names_in rs) == n && all_differ (option_names (options_in rs)))
