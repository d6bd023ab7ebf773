-- A list is cut at the first element that passes a test.
use Rattle.std.proofs.Common.{◌≡◌, ◌<◌, ◌≤◌, ◌+◌, ◌-◌, ◌∙◌, ℕ, List, ◌∷◌, [], length, take, drop, true, false, Bool, Some, None, sym, ap, refl, arith, cond, ltb, inl, inr, ◌++◌}
use Rattle.std.specs.Prelude.{position}
use Rattle.std.specs.List.{slice_split, position_or_len, before_first}
use borrow.Author.Tests.{ltb-true, ltb-false, lt-ltb}
use Rattle.std.proofs.lemmas.List.{take_rest, take_all, append-nil, append_assoc, nil_from_length}
use Rattle.std.proofs.lemmas.List.Splits.{slice_split_first, slice_split_none, length-slice_split}
use Rattle.std.proofs.lemmas.List.Elements.{filter-append}
use Rattle.policy_text.specs.Lines.{Line, telling, numbered, is_line_feed, lines_from, words_of, PlacedWord, IsCut, IsShared, is_blank, words_from, spoken, placed}
use Rattle.policy_text.specs.Addresses6.{prefix6_of_parts}
use Rattle.policy_text.specs.Bytes.{mac_of_parts}
use Rattle.policy_text.specs.Values.{address_of_parts, prefix_of_parts, range_of_parts}
use Rattle.std.proofs.lemmas.List.Sums.{fails_before_first}
use Rattle.std.proofs.lemmas.Option.{cond_some}

-- if there is such an element
pub cut_some : (p : ℕ → Bool) (xs : List ℕ) (k : ℕ) → position p xs ≡ Some k → (k < length xs) × (slice_split p xs ≡ take k xs ∷ slice_split p (take (length xs - (k + 1)) (drop (k + 1) xs)))
cut_some p xs k e =
    let h = cond_some _ _ _ e in
    let inside : position_or_len p xs < length xs = ltb-true _ _ h.0 in
    let first = slice_split_first p xs 0 inside in
    let same : position_or_len p xs ≡ k = h.1 in
    (omega (arith, inside, same), rw take_rest (rw same at first))

outside : (b : Bool) (m n x : ℕ) → b ≡ ltb m n → cond b (Some x) None ≡ None → n ≤ m
outside true m n x is e = absurd (cc)
outside false m n x is e = ltb-false _ _ (sym is)

-- if there is none
pub cut_none : (p : ℕ → Bool) (xs : List ℕ) → position p xs ≡ None → slice_split p xs ≡ xs ∷ []
cut_none p xs e =
    slice_split_none p xs (λ i d inside. fails_before_first p xs i d (omega (arith, inside, outside (ltb (position_or_len p xs) (length xs)) _ _ _ refl e)))

spoken_cons : (w : PlacedWord) (ws : List PlacedWord) → spoken (w ∷ ws) ≡ spoken (w ∷ []) ++ spoken ws
spoken_cons w ws = filter-append (λ w. ltb 0 (length w.text)) (w ∷ []) ws

pub is_cut_some : (p : ℕ → Bool) (xs : List ℕ) (k : ℕ) → position p xs ≡ Some k → IsCut p xs (take k xs) (take (length xs - (k + 1)) (drop (k + 1) xs))
is_cut_some p xs k e = inl (cut_some p xs k e).1

pub is_cut_none : (p : ℕ → Bool) (xs : List ℕ) → position p xs ≡ None → IsCut p xs xs []
is_cut_none p xs e = inr (cut_none p xs e, refl)

pub before_some : (p : ℕ → Bool) (xs : List ℕ) (k : ℕ) → position p xs ≡ Some k → take k xs ≡ before_first p xs
before_some p xs k e = ap (λ n. take n xs) (sym (cond_some _ _ _ e).1)

pub before_none : (p : ℕ → Bool) (xs : List ℕ) → position p xs ≡ None → xs ≡ before_first p xs
before_none p xs e = sym (take_all (position_or_len p xs) xs (outside (ltb (position_or_len p xs) (length xs)) _ _ _ refl e))

-- the words of a text that is cut at a blank
pub words_cut : (text piece rest : List ℕ) (column next : ℕ) → IsCut is_blank text piece rest → next ≡ column + length piece + 1 →
    words_from column text ≡ spoken ((record { column = column; text = piece }) ∷ []) ++ words_from next rest
words_cut text piece rest column next cut e =
    elim cut as (λ _. words_from column text ≡ spoken ((record { column = column; text = piece }) ∷ []) ++ words_from next rest) [
      | inl parts ↦ ap (λ ps. spoken (placed column ps)) parts ∙ spoken_cons _ (placed (column + length piece + 1) (slice_split is_blank rest)) ∙ ap (λ n. spoken ((record { column = column; text = piece }) ∷ []) ++ words_from n rest) (sym e)
      | inr whole ↦ ap (λ ps. spoken (placed column ps)) whole.0 ∙ sym (append-nil _) ∙ ap (λ r. spoken ((record { column = column; text = piece }) ∷ []) ++ words_from next r) (sym whole.1)
    ]

-- the words so far and those of the rest, which begins in this column, are all of them
pub record HasWords (text : List ℕ) (words : List PlacedWord) (column : ℕ) (rest : List ℕ) : Type 0 where
  pub all : words ++ words_from column rest ≡ words_from 1 text
  pub column_fits : column ≤ length text + 2
  pub rest_fits : 0 < length rest → column + length rest ≤ length text + 1

-- one piece more
pub more_words : (text piece rest after : List ℕ) (words more : List PlacedWord) (column next : ℕ) → HasWords text words column rest → 0 < length rest →
    IsCut is_blank rest piece after → IsShared rest piece after → more ≡ words ++ spoken ((record { column = column; text = piece }) ∷ []) → next ≡ column + (length piece + 1) → HasWords text more next after
more_words text piece rest after words more column next h some cut shared is e = record {
  all = ap (λ ws. ws ++ words_from next after) is ∙ append_assoc words _ (words_from next after) ∙ ap (λ ws. words ++ ws) (sym (words_cut rest piece after column next cut (omega arith))) ∙ h.all;
  column_fits = omega (arith, h.rest_fits some, shared.piece_fits);
  rest_fits = λ left. omega (arith, h.rest_fits some, shared.rest_fits left);
}

-- the end
pub all_words : (text rest : List ℕ) (words : List PlacedWord) (column : ℕ) → HasWords text words column rest → length rest ≡ 0 → words ≡ words_from 1 text
all_words text rest words column h none = sym (append-nil words) ∙ ap (λ r. words ++ words_from column r) (sym (nil_from_length rest none)) ∙ h.all

told : (number : ℕ) (words : List PlacedWord) → 0 < length words → telling ((record { number = number; words = words }) ∷ []) ≡ (record { number = number; words = words }) ∷ []
told number words some = ap (λ b. cond b ((record { number = number; words = words }) ∷ []) []) (lt-ltb 0 (length words) some)

telling_cons : (l : Line) (ls : List Line) → telling (l ∷ ls) ≡ telling (l ∷ []) ++ telling ls
telling_cons l ls = filter-append (λ l. ltb 0 (length l.words)) (l ∷ []) ls

-- the lines of a text that is cut at a line feed
pub lines_cut : (text piece rest : List ℕ) (number : ℕ) → IsCut is_line_feed text piece rest →
    lines_from number text ≡ telling ((record { number = number; words = words_of piece }) ∷ []) ++ lines_from (number + 1) rest
lines_cut text piece rest number cut =
    elim cut as (λ _. lines_from number text ≡ telling ((record { number = number; words = words_of piece }) ∷ []) ++ lines_from (number + 1) rest) [
      | inl parts ↦ ap (λ ps. telling (numbered number ps)) parts ∙ telling_cons _ (numbered (number + 1) (slice_split is_line_feed rest))
      | inr whole ↦ ap (λ ps. telling (numbered number ps)) whole.0 ∙ sym (append-nil _) ∙ ap (λ r. telling ((record { number = number; words = words_of piece }) ∷ []) ++ lines_from (number + 1) r) (sym whole.1)
    ]

-- a blank line is no line
pub after_blank : (text piece rest : List ℕ) (number : ℕ) (words : List PlacedWord) → IsCut is_line_feed text piece rest → words ≡ words_of piece → length words ≡ 0 →
    lines_from number text ≡ lines_from (number + 1) rest
after_blank text piece rest number words cut is none =
    lines_cut text piece rest number cut ∙ ap (λ ws. telling ((record { number = number; words = ws }) ∷ []) ++ lines_from (number + 1) rest) (sym is ∙ nil_from_length words none)

-- a line that isn't blank
pub after_telling : (text piece rest : List ℕ) (number : ℕ) (words : List PlacedWord) → IsCut is_line_feed text piece rest → words ≡ words_of piece → 0 < length words →
    lines_from number text ≡ (record { number = number; words = words }) ∷ lines_from (number + 1) rest
after_telling text piece rest number words cut is some =
    lines_cut text piece rest number cut ∙ ap (λ ws. telling ((record { number = number; words = ws }) ∷ []) ++ lines_from (number + 1) rest) (sym is) ∙ ap (λ ls. ls ++ lines_from (number + 1) rest) (told number words some)

-- a list has a part
pub some_part : (p : ℕ → Bool) (xs : List ℕ) → 0 < length (slice_split p xs)
some_part p xs = omega (arith, length-slice_split p xs)

-- with more parts than a value has, there is no value
pub address_none : (a b c d : List ℕ) (parts : List (List ℕ)) → 0 < length parts → address_of_parts (a ∷ b ∷ c ∷ d ∷ parts) ≡ None
address_none a b c d [] some = absurd (omega arith)
address_none a b c d (e ∷ parts) some = refl

pub prefix_none : (a b : List ℕ) (parts : List (List ℕ)) → 0 < length parts → prefix_of_parts (a ∷ b ∷ parts) ≡ None
prefix_none a b [] some = absurd (omega arith)
prefix_none a b (e ∷ parts) some = refl

pub prefix6_none : (a b : List ℕ) (parts : List (List ℕ)) → 0 < length parts → prefix6_of_parts (a ∷ b ∷ parts) ≡ None
prefix6_none a b [] some = absurd (omega arith)
prefix6_none a b (e ∷ parts) some = refl

pub range_none : (a b : List ℕ) (parts : List (List ℕ)) → 0 < length parts → range_of_parts (a ∷ b ∷ parts) ≡ None
range_none a b [] some = absurd (omega arith)
range_none a b (e ∷ parts) some = refl

pub mac_none : (a b c d e f : List ℕ) (parts : List (List ℕ)) → 0 < length parts → mac_of_parts (a ∷ b ∷ c ∷ d ∷ e ∷ f ∷ parts) ≡ None
mac_none a b c d e f [] some = absurd (omega arith)
mac_none a b c d e f (g ∷ parts) some = refl
