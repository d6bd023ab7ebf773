-- The parts of the words by the definition are those by their roles, if each name and each value has text.
use Rattle.std.proofs.Common.{◌≡◌, ◌∙◌, ◌⊎◌, ◌==◌, ◌&&◌, ℕ, Bool, cond, true, false, not, refl, sym, ap, subst, inl, inr, ⊎_elim, List, [], ◌∷◌, Option, Some, None, option_map, codes, drop, arith}
use Rattle.std.specs.List.{list_all, list_any}
use Rattle.std.specs.Str.{bytes_eq}
use Rattle.command_words.specs.Roles.{Due, Look, Role, anything, dashes, due_after, gives, is_fit, long, look_of, name, names_in, names_only, option_role, options_in, plain, role_by, roles, short, value_of}
use Rattle.command_words.specs.Given.{Given, Word, contains, given_by, has_dash, has_text, is_equals, option_in, value_in, with_name, with_option}

-- ---- a word's form, by the tests of the definition

abbrev pub value_attached : Word → Option Word
value_attached w = cond (list_any is_equals w) (Some (value_in w)) None

abbrev pub Seen : Look → Word → Type 0
Seen plain w = (has_dash w ≡ false) ⊎ ((has_text w ≡ false) × (has_dash w ≡ true) × (bytes_eq w (codes "--") ≡ false) × (has_dash (drop 1 w) ≡ false))
Seen short w = (has_dash w ≡ true) × (bytes_eq w (codes "--") ≡ false) × (has_dash (drop 1 w) ≡ false)
Seen dashes w = (has_dash w ≡ true) × (bytes_eq w (codes "--") ≡ true)
Seen (long x v) w = (has_dash w ≡ true) × (bytes_eq w (codes "--") ≡ false) × (has_dash (drop 1 w) ≡ true) × (option_in w ≡ x) × (value_attached w ≡ v)

is_dash : (c : ℕ) → (c == 45) ≡ true → c ≡ 45
is_dash c e = grind (arith, e)

seen_second : (d : ℕ) (ds : Word) → Seen (look_of (45 ∷ d ∷ ds)) (45 ∷ d ∷ ds)
seen_second d ds = go (d == 45) refl
  where
    at_dash : (es : Word) → Seen (look_of (45 ∷ 45 ∷ es)) (45 ∷ 45 ∷ es)
    at_dash [] = (refl, refl)
    at_dash (x ∷ xs) = (refl, refl, refl, refl, refl)

    go : (b : Bool) → (d == 45) ≡ b → Seen (look_of (45 ∷ d ∷ ds)) (45 ∷ d ∷ ds)
    go true e = subst (λ y. Seen (look_of (45 ∷ y ∷ ds)) (45 ∷ y ∷ ds)) (sym (is_dash d e)) (at_dash ds)
    go false e = rw e (refl, rw e refl, rw e refl)

seen_dashed : (cs : Word) → Seen (look_of (45 ∷ cs)) (45 ∷ cs)
seen_dashed [] = inr (refl, refl, refl, refl)
seen_dashed (d ∷ ds) = seen_second d ds

seen : (w : Word) → Seen (look_of w) w
seen [] = inl refl
seen (c ∷ cs) = go (c == 45) refl
  where
    go : (b : Bool) → (c == 45) ≡ b → Seen (look_of (c ∷ cs)) (c ∷ cs)
    go true e = subst (λ y. Seen (look_of (y ∷ cs)) (y ∷ cs)) (sym (is_dash c e)) (seen_dashed cs)
    go false e = rw e (inl (rw e refl))

-- ---- what has text

abbrev pub texts : Given → Bool
texts g = list_all has_text g.names && list_all (λ o. has_text o.1) g.options

abbrev pub nothing : Option Given
nothing = None

-- nothing if a name or a value has no text
abbrev pub sieved : Option Given → Option Given
sieved None = None
sieved (Some g) = cond (texts g) (Some g) None

sieved_name : (w : Word) (o : Option Given) → sieved (option_map (with_name w) o) ≡ cond (has_text w) (option_map (with_name w) (sieved o)) None
sieved_name w None = go (has_text w)
  where
    go : (b : Bool) → nothing ≡ cond b nothing nothing
    go true = refl
    go false = refl
sieved_name w (Some g) = go (has_text w) (list_all has_text g.names) (list_all (λ o. has_text o.1) g.options)
  where
    go : (b n v : Bool) → cond ((b && n) && v) (Some (with_name w g)) None ≡ cond b (option_map (with_name w) (cond (n && v) (Some g) None)) None
    go false n v = refl
    go true false v = refl
    go true true false = refl
    go true true true = refl

sieved_option : (x w : Word) (o : Option Given) → sieved (option_map (with_option x w) o) ≡ cond (has_text w) (option_map (with_option x w) (sieved o)) None
sieved_option x w None = go (has_text w)
  where
    go : (b : Bool) → nothing ≡ cond b nothing nothing
    go true = refl
    go false = refl
sieved_option x w (Some g) = go (has_text w) (list_all has_text g.names) (list_all (λ o. has_text o.1) g.options)
  where
    go : (b n v : Bool) → cond (n && (b && v)) (Some (with_option x w g)) None ≡ cond b (option_map (with_option x w) (cond (n && v) (Some g) None)) None
    go false false v = refl
    go false true v = refl
    go true false v = refl
    go true true false = refl
    go true true true = refl

name_same : (w : Word) (a b : Option Given) → sieved a ≡ sieved b → sieved (option_map (with_name w) a) ≡ sieved (option_map (with_name w) b)
name_same w a b e = sieved_name w a ∙ ap (λ o. cond (has_text w) (option_map (with_name w) o) None) e ∙ sym (sieved_name w b)

option_same : (x w : Word) (a b : Option Given) → sieved a ≡ sieved b → sieved (option_map (with_option x w) a) ≡ sieved (option_map (with_option x w) b)
option_same x w a b e = sieved_option x w a ∙ ap (λ o. cond (has_text w) (option_map (with_option x w) o) None) e ∙ sym (sieved_option x w b)

-- ---- the parts by the roles

abbrev pub given_of : List Role → Given
given_of rs = record { names = names_in rs; options = options_in rs }

abbrev pub fit_given : List Role → Option Given
fit_given rs = cond (list_all is_fit rs) (Some (given_of rs)) None

fit_name : (w : Word) (rs : List Role) → fit_given (name w ∷ rs) ≡ option_map (with_name w) (fit_given rs)
fit_name w rs = go (list_all is_fit rs)
  where
    go : (b : Bool) → cond b (Some (given_of (name w ∷ rs))) None ≡ option_map (with_name w) (cond b (Some (given_of rs)) None)
    go true = refl
    go false = refl

fit_option : (x w : Word) (rs : List Role) → fit_given (gives x w ∷ rs) ≡ option_map (with_option x w) (fit_given rs)
fit_option x w rs = go (list_all is_fit rs)
  where
    go : (b : Bool) → cond b (Some (given_of (gives x w ∷ rs))) None ≡ option_map (with_option x w) (cond b (Some (given_of rs)) None)
    go true = refl
    go false = refl

-- a name or a value without text
blank_name : (w : Word) (rs : List Role) → has_text w ≡ false → None ≡ sieved (fit_given (name w ∷ rs))
blank_name w rs e = sym (ap sieved (fit_name w rs) ∙ sieved_name w (fit_given rs) ∙ ap (λ b. cond b (option_map (with_name w) (sieved (fit_given rs))) None) e)

blank_option : (x w : Word) (rs : List Role) → has_text w ≡ false → None ≡ sieved (fit_given (gives x w ∷ rs))
blank_option x w rs e = sym (ap sieved (fit_option x w rs) ∙ sieved_option x w (fit_given rs) ∙ ap (λ b. cond b (option_map (with_option x w) (sieved (fit_given rs))) None) e)

-- after `--` each word is a name
names_follow : (known words : List Word) → fit_given (roles known names_only words) ≡ Some (record { names = words; options = [] })
unfolding roles
names_follow known [] = refl
names_follow known (w ∷ ws) = fit_name w (roles known names_only ws) ∙ ap (option_map (with_name w)) (names_follow known ws)

-- ---- word by word

abbrev pub due_for : Option Word → Due
due_for None = anything
due_for (Some x) = value_of x

abbrev pub Same : List Word → Option Word → List Word → Type 0
Same known wait words = sieved (given_by known wait words) ≡ sieved (fit_given (roles known (due_for wait) words))

-- a word where a value is due
value_stands : (known : List Word) (x word : Word) (words : List Word) (l : Look) → Seen l word → Same known None words
    → sieved (given_by known (Some x) (word ∷ words)) ≡ sieved (fit_given (role_by known (value_of x) l word ∷ roles known (due_after (value_of x) (role_by known (value_of x) l word)) words))
unfolding given_by
value_stands known x word words plain s same = ⊎_elim (λ no_dash. rw no_dash (option_same x word (given_by known None words) (fit_given (roles known anything words)) same ∙ ap sieved (sym (fit_option x word (roles known anything words)))))
    (λ lone. rw lone.1 (blank_option x word (roles known anything words) lone.0)) s
value_stands known x word words short s same = rw s.0 refl
value_stands known x word words dashes s same = rw s.0 refl
value_stands known x word words (long y v) s same = rw s.0 refl

-- a word where a name or an option is allowed
word_stands : (known : List Word) (word : Word) (words : List Word) (l : Look) → Seen l word → Same known None words → ((x : Word) → Same known (Some x) words)
    → sieved (given_by known None (word ∷ words)) ≡ sieved (fit_given (role_by known anything l word ∷ roles known (due_after anything (role_by known anything l word)) words))
unfolding given_by
word_stands known word words plain s same waits = ⊎_elim (λ no_dash. rw no_dash (name_same word (given_by known None words) (fit_given (roles known anything words)) same ∙ ap sieved (sym (fit_name word (roles known anything words)))))
    (λ lone. rw (lone.1, lone.2, lone.3) (blank_name word (roles known anything words) lone.0)) s
word_stands known word words short s same waits = rw (s.0, s.1, s.2) refl
word_stands known word words dashes s same waits = rw (s.0, s.1) (ap sieved (sym (names_follow known words)))
word_stands known word words (long x v) s same waits = rw (s.0, s.1, s.2, s.3) (go (contains x known) (list_any is_equals word) v s.4)
  where
    go : (known_one has_value : Bool) (v : Option Word) → cond has_value (Some (value_in word)) None ≡ v
        → sieved (cond (not known_one) None (cond has_value (option_map (with_option x (value_in word)) (given_by known None words)) (given_by known (Some x) words)))
        ≡ sieved (fit_given (option_role known_one x v ∷ roles known (due_after anything (option_role known_one x v)) words))
    go false has_value v e = refl
    go true true v e = subst (λ t. sieved (option_map (with_option x (value_in word)) (given_by known None words))
        ≡ sieved (fit_given (option_role true x t ∷ roles known (due_after anything (option_role true x t)) words))) e
        (option_same x (value_in word) (given_by known None words) (fit_given (roles known anything words)) same ∙ ap sieved (sym (fit_option x (value_in word) (roles known anything words))))
    go true false v e = subst (λ t. sieved (given_by known (Some x) words)
        ≡ sieved (fit_given (option_role true x t ∷ roles known (due_after anything (option_role true x t)) words))) e (waits x)

pub same_given : (known : List Word) (wait : Option Word) (words : List Word) → Same known wait words
unfolding given_by roles
same_given known None [] = refl
same_given known (Some x) [] = refl
same_given known None (word ∷ words) = word_stands known word words (look_of word) (seen word) (same_given known None words) (λ x. same_given known (Some x) words)
same_given known (Some x) (word ∷ words) = value_stands known x word words (look_of word) (seen word) (same_given known None words)
