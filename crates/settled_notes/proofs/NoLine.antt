-- Notes that add no line to a state, one after another.
use Rattle.std.proofs.Common.{◌≡◌, ◌∙◌, ◌<◌, ◌+◌, ℕ, zero, suc, List, [], ◌∷◌, length, map, drop, set, get_or, sym, ap, refl, subst, arith}
use Rattle.std.specs.Prelude.{Bool, false, Ok, slice_index_or}
use Rattle.std.proofs.lemmas.List.{drop_more}
use Rattle.chain_walk.specs.Notes.{Notes}
use Rattle.burst_law.specs.Bursts.{Message, Message.Lost}
use Rattle.burst_law.specs.Noting.{OwnNote, lost_before, settled_one}
use Rattle.settled_notes.specs.Settling.{line_counts, AddsNoLine}
use Rattle.settled_notes.proofs.InOrder.{settles_one}

first_is : {A : Type 0} (x y : A) (xs ys : List A) → x ∷ xs ≡ y ∷ ys → x ≡ y
first_is x y xs ys same = cc

rest_is : {A : Type 0} (x y : A) (xs ys : List A) → x ∷ xs ≡ y ∷ ys → xs ≡ ys
rest_is x y xs ys same = cc

-- if the counts of lines are as before with another function at this place, its count is that of the one before
own_count : {F : Type 0} (rows : F → List (List ℕ)) (fs : List F) (i : ℕ) (f d : F) → i < length fs → line_counts rows (set fs i f) ≡ line_counts rows fs → length (rows f) ≡ length (rows (get_or fs i d))
own_count rows [] i f d inside as_many = absurd (omega arith)
own_count rows (g ∷ fs) zero f d inside as_many = first_is _ _ _ _ as_many
own_count rows (g ∷ fs) (suc i) f d inside as_many = own_count rows fs i f d (omega arith) (rest_is _ _ _ _ as_many)

-- a note that is settled and adds no line to any state adds none to its function's
pub one_adds_none : {F N : Type 0} (rows : F → List (List ℕ)) (notes : Notes F N) (positions : List ℕ) (ends : List Message) (fs : List F) (inside o : OwnNote N) (position : ℕ) (dropped : Bool) (d : F) → inside ≡ o → position ≡ slice_index_or positions inside.index 0 → dropped ≡ lost_before (slice_index_or ends inside.packet (Lost 0)) position → dropped ≡ false →
    inside.index < length fs → line_counts rows (settled_one notes positions ends fs o) ≡ line_counts rows fs → length (rows (notes.settle (get_or fs inside.index d) inside.note)) ≡ length (rows (get_or fs inside.index d))
one_adds_none rows notes positions ends fs inside o position dropped d same at is not there as_many =
    own_count rows fs inside.index _ d there
    (ap (line_counts rows) (settles_one {E = Unit {0}} notes positions ends fs inside o position dropped (notes.settle (get_or fs inside.index d) inside.note) d (Ok tt) same at is not there refl) ∙ as_many)

-- the next of the notes that are left, and those after it
module _ {F N : Type 0} (rows : F → List (List ℕ)) (notes : Notes F N) (positions : List ℕ) (ends : List Message) where
  next : (now : List F) (listed : List (OwnNote N)) (i : ℕ) (o : OwnNote N) → i < length listed → o ≡ get_or listed i o → AddsNoLine rows notes positions ends now (drop i listed) → AddsNoLine rows notes positions ends now (o ∷ drop (i + 1) listed)
  next now listed i o inside is none = subst (AddsNoLine rows notes positions ends now) (drop_more listed i o inside ∙ ap (λ x. x ∷ drop (i + 1) listed) (sym is)) none

  pub first_adds_none : (now : List F) (listed : List (OwnNote N)) (i : ℕ) (o : OwnNote N) → i < length listed → o ≡ get_or listed i o → AddsNoLine rows notes positions ends now (drop i listed) →
      line_counts rows (settled_one notes positions ends now o) ≡ line_counts rows now
  unfolding AddsNoLine
  first_adds_none now listed i o inside is none = (next now listed i o inside is none).0

  pub rest_adds_none : (now after : List F) (listed : List (OwnNote N)) (i : ℕ) (o : OwnNote N) → i < length listed → o ≡ get_or listed i o → after ≡ settled_one notes positions ends now o → AddsNoLine rows notes positions ends now (drop i listed) →
      AddsNoLine rows notes positions ends after (drop (i + 1) listed)
  unfolding AddsNoLine
  rest_adds_none now after listed i o inside is one none = subst (λ fs. AddsNoLine rows notes positions ends fs (drop (i + 1) listed)) (sym one) (next now listed i o inside is none).1
