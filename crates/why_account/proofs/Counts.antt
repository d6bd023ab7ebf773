-- A count of one more item.
use Rattle.std.proofs.Common.{◌≡◌, ◌+◌, ◌∙◌, ℕ, List, [], ◌∷◌, ◌++◌, ap, sym, Bool, true, false, arith}
use Rattle.std.specs.Prelude.{count_by, cond}
use Rattle.std.proofs.lemmas.List.Sums.{sum_by_push}
use Rattle.why_report.specs.Report.{counted}
use Rattle.why_report.specs.Uses.{raised}

raised_once : (n : ℕ) (holds : Bool) → raised (counted n) holds ≡ counted (n + cond holds 1 0)
raised_once n true = omega arith
raised_once n false = omega arith

-- one more item is counted where it has the property
pub count_push : {A : Type 0} (p : A → Bool) (xs : List A) (x : A) (holds : Bool) → p x ≡ holds → count_by p (xs ++ x ∷ []) ≡ count_by p xs + cond holds 1 0
count_push p xs x holds is = sum_by_push (λ a. cond (p a) 1 0) xs x ∙ ap (λ b. count_by p xs + cond b 1 0) is

pub counted_more : {A : Type 0} (p : A → Bool) (xs : List A) (x : A) (holds : Bool) → p x ≡ holds → raised (counted (count_by p xs)) holds ≡ counted (count_by p (xs ++ x ∷ []))
counted_more p xs x holds is = raised_once (count_by p xs) holds ∙ ap counted (sym (count_push p xs x holds is))
