-- What remains of a list from some place on.
use Rattle.std.proofs.Common.{◌≡◌, ◌<◌, ◌∙◌, ℕ, zero, suc, List, [], ◌∷◌, ◌++◌, length, drop, refl, arith, ap, subst, length-append, length-drop}
use mathlib.Core.Option.{some}
use lib.ListN.{get_elem?}
use Rattle.ruled_links.specs.Ends.{PutEnd, TakeEnd}
use Rattle.packet_messages.specs.Messages.{PlainMessage, first, rest, Fits}

first_is : {P : Type 0} (due : List (PlainMessage P)) (n : ℕ) → 0 < length (drop n due) → get_elem? due n ≡ some (first (drop n due))
first_is [] zero lt = absurd (omega arith)
first_is [] (suc n) lt = absurd (omega arith)
first_is (x ∷ xs) zero lt = refl
first_is (x ∷ xs) (suc n) lt = first_is xs n lt

first_of : {P : Type 0} (due : List (PlainMessage P)) (n : ℕ) (d : PlainMessage P) → get_elem? due n ≡ some d → d ≡ first (drop n due)
first_of [] zero d e = absurd (cc)
first_of [] (suc n) d e = absurd (cc)
first_of (x ∷ xs) zero d e = cc
first_of (x ∷ xs) (suc n) d e = first_of xs n d e

rest_suc : {A : Type 0} (due : List A) (n : ℕ) → drop (suc n) due ≡ rest (drop n due)
rest_suc [] zero = refl
rest_suc [] (suc n) = refl
rest_suc (x ∷ xs) zero = refl
rest_suc (x ∷ xs) (suc n) = rest_suc xs n

rest_is : {A : Type 0} (due put : List A) (m : A) → drop (length (put ++ m ∷ [])) due ≡ rest (drop (length put) due)
rest_is due put m =
    let n : length (put ++ m ∷ []) ≡ suc (length put) = omega (arith, length-append put (m ∷ [])) in
    ap (λ k. drop k due) n ∙ rest_suc due (length put)

-- room for one more message, if something is due
pub room_is : {A : Type 0} (due put now : List A) (capacity : ℕ) → drop (length put) due ≡ now → 0 < length now → length due < capacity → length put < capacity
room_is due put now capacity e owing few = omega (arith, owing, few, ap length e, length-drop (length put) due)

-- a message that fits the next due one
pub next_fits : {P : Type 0} (due put now : List (PlainMessage P)) (m : PlainMessage P) → drop (length put) due ≡ now → 0 < length now → Fits (first now) m
    → (d : PlainMessage P) × (get_elem? due (length put) ≡ some d) × Fits d m
next_fits due put now m e owing fit =
    (first now, first_is due (length put) (omega (arith, owing, ap length e)) ∙ ap (λ l. some (first l)) e, fit)

-- what is due after a message was put
pub put_on : {A : Type 0} (end new : PutEnd A) (now : List A) (m : A) → new ≡ record end { put = end.put ++ m ∷ [] } → drop (length end.put) end.due ≡ now → drop (length new.put) new.due ≡ rest now
put_on end new now m is e = ap (λ x. drop (length x.put) x.due) is ∙ rest_is end.due end.put m ∙ ap rest e

-- what is due after a message was taken
pub taken_on : {A : Type 0} (end new : TakeEnd A) (now : List A) (m : A) → new ≡ record end { taken = end.taken ++ m ∷ [] } → drop (length end.taken) end.due ≡ now → drop (length new.taken) new.due ≡ rest now
taken_on end new now m is e = ap (λ x. drop (length x.taken) x.due) is ∙ rest_is end.due end.taken m ∙ ap rest e

-- a message that was taken
pub was_due : {P : Type 0} (due taken now : List (PlainMessage P)) (m : PlainMessage P) → drop (length taken) due ≡ now → (d : PlainMessage P) × (get_elem? due (length taken) ≡ some d) × Fits d m
    → Fits (first now) m
was_due due taken now m e f =
    subst (λ d. Fits d m) (first_of due (length taken) f.0 f.1 ∙ ap first e) f.2
