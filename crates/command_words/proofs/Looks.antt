-- How `clap` takes a word, by its form.
use Rattle.std.proofs.Common.{◌≡◌, ◌∙◌, ◌==◌, ℕ, Bool, true, false, suc, refl, sym, ap, subst, arith, List, [], ◌∷◌, length, Some, None}
use Rattle.std.specs.Prelude.{slice_get}
use Rattle.std.specs.Str.{bytes_eq, chars, IsUtf8, encode_utf8_all}
use Rattle.std.proofs.lemmas.Str.{IsUtf8-drop, IsCharBoundary-after_ascii, encodes-chars}
use Rattle.clap.specs.Lexer.{long_of, short_of}
use Rattle.command_words.specs.Roles.{Look, plain, short, dashes, long, look_of}
use Rattle.command_words.specs.Given.{Word}

abbrev pub two_dashes : Word
two_dashes = 45 ∷ 45 ∷ []

-- the first character of the flags after a dash
abbrev pub HasFirst : Word → Type 0
HasFirst flags = (x : ℕ) × (k : ℕ) × (slice_get (chars flags) 0 ≡ Some x) × (length flags ≡ suc k)

abbrev pub Facts : Look → Word → Type 0
Facts plain w = (bytes_eq w two_dashes ≡ false) × (long_of w ≡ None) × (short_of w ≡ None)
Facts short w = (bytes_eq w two_dashes ≡ false) × (long_of w ≡ None) × ((flags : Word) × (short_of w ≡ Some flags) × (IsUtf8 w → HasFirst flags))
Facts dashes w = bytes_eq w two_dashes ≡ true
Facts (long x v) w = (bytes_eq w two_dashes ≡ false) × (long_of w ≡ Some (x, v))

is_45 : (c : ℕ) → (c == 45) ≡ true → c ≡ 45
is_45 c e = grind (arith, e)

first_char : (d : ℕ) (ds : Word) → IsUtf8 (d ∷ ds) → HasFirst (d ∷ ds)
first_char d ds u = go (chars (d ∷ ds)) refl
  where
    go : (cs : List ℕ) → chars (d ∷ ds) ≡ cs → HasFirst (d ∷ ds)
    go [] e =
        let none : 0 ≡ length (d ∷ ds) = ap (λ ys. length (encode_utf8_all ys)) (sym e) ∙ ap length (encodes-chars (d ∷ ds) u) in
        absurd (omega arith)
    go (x ∷ xs) e = (x, length ds, ap (λ ys. slice_get ys 0) e, refl)

after_a_dash : (d : ℕ) (ds : Word) → IsUtf8 (45 ∷ d ∷ ds) → IsUtf8 (d ∷ ds)
after_a_dash d ds u = IsUtf8-drop (45 ∷ d ∷ ds) 1 u (IsCharBoundary-after_ascii (45 ∷ d ∷ ds) 0 u (omega arith) (omega arith))

looks_second : (d : ℕ) (ds : Word) → Facts (look_of (45 ∷ d ∷ ds)) (45 ∷ d ∷ ds)
looks_second d ds = go (d == 45) refl
  where
    at_dash : (es : Word) → Facts (look_of (45 ∷ 45 ∷ es)) (45 ∷ 45 ∷ es)
    at_dash [] = refl
    at_dash (x ∷ xs) = (refl, refl)

    go : (b : Bool) → (d == 45) ≡ b → Facts (look_of (45 ∷ d ∷ ds)) (45 ∷ d ∷ ds)
    go true f = subst (λ y. Facts (look_of (45 ∷ y ∷ ds)) (45 ∷ y ∷ ds)) (sym (is_45 d f)) (at_dash ds)
    go false f = rw f (rw f refl, rw f refl, (d ∷ ds, rw f refl, λ u. first_char d ds (after_a_dash d ds u)))

looks_dashed : (cs : Word) → Facts (look_of (45 ∷ cs)) (45 ∷ cs)
looks_dashed [] = (refl, refl, refl)
looks_dashed (d ∷ ds) = looks_second d ds

pub looks : (w : Word) → Facts (look_of w) w
looks [] = (refl, refl, refl)
looks (c ∷ cs) = go (c == 45) refl
  where
    go : (b : Bool) → (c == 45) ≡ b → Facts (look_of (c ∷ cs)) (c ∷ cs)
    go true e = subst (λ y. Facts (look_of (y ∷ cs)) (y ∷ cs)) (sym (is_45 c e)) (looks_dashed cs)
    go false e = rw e (rw e refl, rw e refl, rw e refl)
