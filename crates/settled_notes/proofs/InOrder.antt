-- Notes that are settled, one after another.
use Rattle.std.proofs.Common.{◌≡◌, ◌≢◌, ◌∙◌, ◌<◌, ◌≤◌, ◌+◌, ℕ, zero, suc, List, [], ◌∷◌, ◌++◌, length, drop, set, get_or, sym, ap, refl, arith}
use Rattle.std.specs.Prelude.{Bool, true, false, Option, Some, None, Result, Ok, Err, OnOk, slice_get, slice_index_or, if◌then◌else◌}
use Rattle.std.proofs.lemmas.List.{append-nil, drop_more, drop_all}
use Rattle.chain_walk.specs.Notes.{Notes}
use Rattle.burst_law.specs.Bursts.{Message, Message.Lost}
use Rattle.burst_law.specs.Noting.{OwnNote, lost_before, row_listed, settled_at, settled_listed, settled_one}

-- one more is settled, and the rest gives what all give
pub settled_more : {F N : Type 0} (notes : Notes F N) (positions : List ℕ) (ends : List Message) (all now after : List F) (listed : List (OwnNote N)) (i : ℕ) (o : OwnNote N) → settled_listed notes positions ends now (drop i listed) ≡ all → i < length listed →
    o ≡ get_or listed i o → after ≡ settled_one notes positions ends now o → settled_listed notes positions ends after (drop (i + 1) listed) ≡ all
unfolding settled_listed
settled_more notes positions ends all now after listed i o so_far inside is one =
    ap (λ fs. settled_listed notes positions ends fs (drop (i + 1) listed)) one
    ∙ ap (λ x. settled_listed notes positions ends now (x ∷ drop (i + 1) listed)) is
    ∙ ap (settled_listed notes positions ends now) (sym (drop_more listed i o inside))
    ∙ so_far

pub settled_over : {F N : Type 0} (notes : Notes F N) (positions : List ℕ) (ends : List Message) (all now : List F) (listed : List (OwnNote N)) (i : ℕ) → settled_listed notes positions ends now (drop i listed) ≡ all → length listed ≤ i → now ≡ all
unfolding settled_listed
settled_over notes positions ends all now listed i so_far past = ap (settled_listed notes positions ends now) (sym (drop_all i listed past)) ∙ so_far

-- a row of one note, and of none
pub row_of_one : {N : Type 0} (packet index : ℕ) (note : Option N) (n : N) → note ≡ Some n → row_listed packet index (note ∷ []) ≡ record { packet = packet; index = index; note = n } ∷ []
unfolding row_listed
row_of_one packet index None n is = absurd cc
row_of_one packet index (Some m) n is = ap (λ o. row_listed packet index (o ∷ [])) is

pub row_of_none : {N : Type 0} (packet index : ℕ) (note : Option N) (listed : List (OwnNote N)) → ((n : N) → note ≢ Some n) → listed ≡ listed ++ row_listed packet index (note ∷ [])
unfolding row_listed
row_of_none packet index None listed never = sym (append-nil listed)
row_of_none packet index (Some n) listed never = absurd (never n refl)

-- a function at its place, and none
got : {F : Type 0} (fs : List F) (i : ℕ) (d : F) → i < length fs → slice_get fs i ≡ Some (get_or fs i d)
got [] i d inside = absurd (omega arith)
got (f ∷ fs) zero d inside = refl
got (f ∷ fs) (suc i) d inside = got fs i d (omega arith)

none_got : {F : Type 0} (fs : List F) (i : ℕ) → length fs ≤ i → slice_get fs i ≡ None
none_got [] i past = refl
none_got (f ∷ fs) zero past = absurd (omega arith)
none_got (f ∷ fs) (suc i) past = none_got fs i (omega arith)

-- a note that isn't skipped is settled at its function's place
not_left : {F N : Type 0} (notes : Notes F N) (positions : List ℕ) (ends : List Message) (fs : List F) (o : OwnNote N) (position : ℕ) (dropped : Bool) → position ≡ slice_index_or positions o.index 0 → dropped ≡ lost_before (slice_index_or ends o.packet (Lost 0)) position → dropped ≡ false →
    settled_one notes positions ends fs o ≡ settled_at notes o (slice_get fs o.index) fs
not_left notes positions ends fs o position dropped at is not = ap (λ t. if t then fs else settled_at notes o (slice_get fs o.index) fs) (sym (sym not ∙ is ∙ ap (lost_before (slice_index_or ends o.packet (Lost 0))) at))

pub settles_none : {F N : Type 0} (notes : Notes F N) (positions : List ℕ) (ends : List Message) (fs : List F) (inside o : OwnNote N) (position : ℕ) (dropped : Bool) → inside ≡ o → position ≡ slice_index_or positions inside.index 0 → dropped ≡ lost_before (slice_index_or ends inside.packet (Lost 0)) position → dropped ≡ false →
    length fs ≤ inside.index → fs ≡ settled_one notes positions ends fs o
unfolding settled_at
settles_none notes positions ends fs inside o position dropped same at is not past =
    sym (not_left notes positions ends fs inside position dropped at is not ∙ ap (λ f. settled_at notes inside f fs) (none_got fs inside.index past)) ∙ ap (settled_one notes positions ends fs) same

pub settles_one : {F N E : Type 0} (notes : Notes F N) (positions : List ℕ) (ends : List Message) (fs : List F) (inside o : OwnNote N) (position : ℕ) (dropped : Bool) (f d : F) (r : Result (Unit {0}) E) → inside ≡ o → position ≡ slice_index_or positions inside.index 0 → dropped ≡ lost_before (slice_index_or ends inside.packet (Lost 0)) position → dropped ≡ false →
    inside.index < length fs → OnOk r (f ≡ notes.settle (get_or fs inside.index d) inside.note) → OnOk r (set fs inside.index f ≡ settled_one notes positions ends fs o)
unfolding settled_at
settles_one notes positions ends fs inside o position dropped f d (Ok value) same at is not there settled =
    ap (set fs inside.index) settled
    ∙ sym (not_left notes positions ends fs inside position dropped at is not ∙ ap (λ g. settled_at notes inside g fs) (got fs inside.index d there))
    ∙ ap (settled_one notes positions ends fs) same
settles_one notes positions ends fs inside o position dropped f d (Err e) same at is not there settled = settled
