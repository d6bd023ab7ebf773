-- Lists of which the first elements, this number of them, have changed.
use Rattle.std.proofs.Common.{◌≡◌, ◌<◌, ◌≤◌, ◌+◌, ◌∙◌, ℕ, zero, suc, List, [], ◌∷◌, length, map, refl, arith, ap, sym, subst, slice_index_or, slice_set, All}
use Rattle.std.proofs.lemmas.List.Elements.{All-get_or}
use Rattle.packet_messages.specs.Messages.{PlainMessage, first, front, plain}
use Rattle.packet_messages.specs.declared.message.Message.{Message}

-- the first elements, this number of them, changed by `f`
unfoldable pub swept : {A : Type 0} → (A → A) → ℕ → List A → List A
swept f zero ls = ls
swept f (suc n) [] = []
swept f (suc n) (l ∷ ls) = f l ∷ swept f n ls

pub swept_none : {A : Type 0} (f : A → A) (ls : List A) → swept f 0 ls ≡ ls
unfolding swept
swept_none f ls = refl

pub swept_all : {A : Type 0} (f : A → A) (n : ℕ) (ls : List A) → length ls ≤ n → swept f n ls ≡ map f ls
unfolding swept
swept_all f zero [] le = refl
swept_all f zero (l ∷ ls) le = absurd (omega arith)
swept_all f (suc n) [] le = refl
swept_all f (suc n) (l ∷ ls) le = ap (λ x. f l ∷ x) (swept_all f n ls (omega arith))

pub swept_length : {A : Type 0} (f : A → A) (n : ℕ) (ls : List A) → length (swept f n ls) ≡ length ls
unfolding swept
swept_length f zero ls = refl
swept_length f (suc n) [] = refl
swept_length f (suc n) (l ∷ ls) = ap suc (swept_length f n ls)

pub swept_at : {A : Type 0} (f : A → A) (n : ℕ) (ls : List A) (d : A) → slice_index_or (swept f n ls) n d ≡ slice_index_or ls n d
unfolding swept
swept_at f zero ls d = refl
swept_at f (suc n) [] d = refl
swept_at f (suc n) (l ∷ ls) d = swept_at f n ls d

swept_suc : {A : Type 0} (f : A → A) (n : ℕ) (ls : List A) (d : A) → n < length ls → slice_set (swept f n ls) n (f (slice_index_or ls n d)) ≡ swept f (suc n) ls
unfolding swept
swept_suc f zero [] d lt = absurd (omega arith)
swept_suc f zero (l ∷ ls) d lt = refl
swept_suc f (suc n) [] d lt = absurd (omega arith)
swept_suc f (suc n) (l ∷ ls) d lt = ap (λ x. f l ∷ x) (swept_suc f n ls d (omega arith))

-- one more element has changed
pub swept_more : {A : Type 0} (f : A → A) (d : A) (n : ℕ) (ls now new : List A) → now ≡ swept f n ls → new ≡ slice_set now n (f (slice_index_or now n d)) → n < length now → new ≡ swept f (n + 1) ls
swept_more f d n ls now new is set lt =
    set ∙ ap (λ y. slice_set y n (f (slice_index_or y n d))) is
    ∙ ap (λ y. slice_set (swept f n ls) n (f y)) (swept_at f n ls d)
    ∙ swept_suc f n ls d (omega (arith, lt, ap length is, swept_length f n ls))
    ∙ ap (λ k. swept f k ls) (omega arith)

-- a fact about each element holds for the next one
pub next_holds : {A : Type 0} (f : A → A) (d : A) (R : A → Type 0) (n : ℕ) (ls now : List A) → All R ls → now ≡ swept f n ls → n < length now → R (slice_index_or now n d)
next_holds f d R n ls now all is lt =
    let here : R (slice_index_or ls n d) = All-get_or R ls n d (omega (arith, lt, ap length is, swept_length f n ls)) all in
    subst R (sym (ap (λ y. slice_index_or y n d) is ∙ swept_at f n ls d)) here

-- the rest of a row of messages, in which `h` gives the message for each element
unfoldable pub due_from : {A : Type 0} {P : Type 0} → (A → PlainMessage P) → ℕ → List A → List (PlainMessage P)
due_from h zero ls = map h ls
due_from h (suc n) [] = []
due_from h (suc n) (l ∷ ls) = due_from h n ls

pub due_whole : {A : Type 0} {P : Type 0} (h : A → PlainMessage P) (ls : List A) → due_from h 0 ls ≡ map h ls
unfolding due_from
due_whole h ls = refl

due_at : {A : Type 0} {P : Type 0} (h : A → PlainMessage P) (d : A) (n : ℕ) (ls : List A) (m : PlainMessage P) (ms : List (PlainMessage P)) → m ∷ ms ≡ due_from h n ls
    → (n < length ls) × (m ≡ h (slice_index_or ls n d)) × (ms ≡ due_from h (suc n) ls)
unfolding due_from
due_at h d zero [] m ms e = absurd (cc)
due_at h d zero (l ∷ ls) m ms e = (omega arith, cc, cc)
due_at h d (suc n) [] m ms e = absurd (cc)
due_at h d (suc n) (l ∷ ls) m ms e = let r = due_at h d n ls m ms e in (omega (arith, r.0), r.1, r.2)

-- messages without their boxes
abbrev pub plains : {P : Type 0} → List (Message P) → List (PlainMessage P)
plains ms = map plain ms

module _ {A : Type 0} {P : Type 0} (f : A → A) (d : A) (h : A → PlainMessage P) where
  pub record Turn (n : ℕ) (ls now : List A) (p : Message P) (ps : List (Message P)) : Type 0 where
    pub inside : n < length now
    pub next : plain p ≡ h (slice_index_or now n d)
    pub after : plains ps ≡ due_from h (n + 1) ls

  -- the next part of a row
  pub row_turn : (n : ℕ) (ls now : List A) (p : Message P) (ps row : List (Message P)) → now ≡ swept f n ls → plains row ≡ due_from h n ls → row ≡ p ∷ ps → Turn n ls now p ps
  row_turn n ls now p ps row is due e =
      let r = due_at h d n ls (plain p) (plains ps) (sym (ap (λ y. plains y) e) ∙ due) in record {
        inside = omega (arith, r.0, ap length is, swept_length f n ls);
        next = r.1 ∙ sym (ap (λ y. h (slice_index_or y n d)) is ∙ ap h (swept_at f n ls d));
        after = r.2 ∙ ap (λ k. due_from h k ls) (omega arith);
      }

none_due : {A : Type 0} {P : Type 0} (h : A → PlainMessage P) (n : ℕ) (ls : List A) → [] ≡ due_from h n ls → length ls ≤ n
unfolding due_from
none_due h zero [] e = omega arith
none_due h zero (l ∷ ls) e = absurd (cc)
none_due h (suc n) [] e = omega arith
none_due h (suc n) (l ∷ ls) e = omega (arith, none_due h n ls e)

pub row_over : {A : Type 0} {P : Type 0} (f : A → A) (h : A → PlainMessage P) (n : ℕ) (ls now : List A) (row : List (Message P)) → now ≡ swept f n ls → plains row ≡ due_from h n ls → row ≡ [] → now ≡ map f ls
row_over f h n ls now row is due e = is ∙ swept_all f n ls (none_due h n ls (sym (ap (λ y. plains y) e) ∙ due))

pub none_left : {A : Type 0} (n : ℕ) (xs : List A) → n ≡ 0 → length xs ≡ n → xs ≡ []
none_left n [] z e = refl
none_left n (x ∷ xs) z e = absurd (omega arith)

-- the next message that is due on a stream
abbrev pub next_of : {P : Type 0} → List (List (PlainMessage P)) → PlainMessage P
next_of fan = first (front fan)

has_front : {A : Type 0} (fan : List (List A)) → 0 < length (front fan) → 0 < length fan
has_front [] owing = absurd (omega arith)
has_front (l ∷ ls) owing = omega arith

-- if something is due on the next outlet of a stream, there is one
pub has_next : {A : Type 0} (fans : List (List (List A))) (n : ℕ) (d e : List (List A)) → n < length fans → 0 < length (front (slice_index_or fans n d)) → 0 < length (slice_index_or fans n e)
has_next [] n d e lt owing = absurd (omega arith)
has_next (fan ∷ fans) zero d e lt owing = has_front fan owing
has_next (fan ∷ fans) (suc n) d e lt owing = has_next fans n d e (omega arith) owing
