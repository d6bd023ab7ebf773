-- The first chain that takes a packet.
use Rattle.std.proofs.Common.{◌≡◌, ◌∙◌, ℕ, ◌<◌, Bool, true, false, cond, List, [], ◌∷◌, Option, Some, None, length, get_or, refl, sym, ap, arith}
use Rattle.std.specs.Prelude.{◌↔◌, All}
use Rattle.std.specs.List.{position, position_or_len}
use Rattle.std.proofs.lemmas.Bool.{le-ltb, ltb-false}
use Rattle.std.proofs.lemmas.List.Quantifiers.{position-Some}
use Rattle.std.proofs.lemmas.List.Sums.{fails_before_first, position_or_len_is}
use Rattle.std.proofs.lemmas.Option.{none-some}
use Rattle.frame_seen.specs.Seeing.{seen_of}
use Rattle.policy_text.specs.Meeting.{is_fitting}
use Rattle.policy_text.specs.declared.clause.Match.{Match}
use Rattle.policy_text.specs.declared.seen.Seen.{Seen}
use Rattle.classifier.specs.Classes.{class_of}

-- whether a frame meets these clauses
abbrev meets : List ℕ → Match → Bool
meets frame fit = is_fitting fit (seen_of frame)

pub stands_within : (fits : List Match) (frame : List ℕ) (c : ℕ) → class_of fits frame ≡ Some c → c < length fits
stands_within [] frame c e = absurd (none-some c e)
stands_within (fit ∷ fits) frame c e = (position-Some (meets frame) (fit ∷ fits) c fit e).0

pub first_fits : (fits : List Match) (frame : List ℕ) (c : ℕ) (d : Match) → class_of fits frame ≡ Some c → is_fitting (get_or fits c d) (seen_of frame) ≡ true
first_fits fits frame c d e = (position-Some (meets frame) fits c d e).1

pub none_before : (fits : List Match) (frame : List ℕ) (c k : ℕ) (d : Match) → class_of fits frame ≡ Some c → k < c → is_fitting (get_or fits k d) (seen_of frame) ≡ false
none_before fits frame c k d e less = (position-Some (meets frame) fits c d e).2 k less

no_value : (b : Bool) (n : ℕ) → cond b (Some n) None ≡ None → b ≡ false
no_value true n e = absurd (none-some n (sym e))
no_value false n e = refl

-- a search without an answer has passed all
all_fail : {A : Type 0} (p : A → Bool) (xs : List A) → position p xs ≡ None → All (λ x. p x ≡ false) xs
all_fail p xs e k d less =
    fails_before_first p xs k d (omega (arith, less, ltb-false (position_or_len p xs) (length xs) (no_value _ (position_or_len p xs) e)))

-- and if all fail there is no answer
no_answer : {A : Type 0} (p : A → Bool) (xs : List A) → All (λ x. p x ≡ false) xs → position p xs ≡ None
no_answer p [] all = refl
no_answer p (x ∷ xs) all =
    let past : position_or_len p (x ∷ xs) ≡ length (x ∷ xs) =
    position_or_len_is p (x ∷ xs) (length (x ∷ xs)) x (omega arith) (λ k less. all k x less) (λ less. absurd (omega (arith, less))) in
    ap (λ b. cond b (Some (position_or_len p (x ∷ xs))) None) (le-ltb (position_or_len p (x ∷ xs)) (length (x ∷ xs)) (omega (arith, past)))

pub none_fits : (fits : List Match) (frame : List ℕ) → (class_of fits frame ≡ None) ↔ All (λ fit. is_fitting fit (seen_of frame) ≡ false) fits
none_fits fits frame = (all_fail (meets frame) fits, no_answer (meets frame) fits)

-- the first that fits what is seen of a frame is the class of the frame
pub class_by_seen : (place : Option ℕ) (seen : Seen) (held shown fits : List Match) (frame : List ℕ) → place ≡ position (λ fit. is_fitting fit seen) held → held ≡ shown → shown ≡ fits → seen ≡ seen_of frame → place ≡ class_of fits frame
class_by_seen place seen held shown fits frame found holds shows sees = found ∙ (λ i. position (λ fit. is_fitting fit (sees i)) ((holds ∙ shows) i))
