-- Clauses are read from the front, clause by clause and flag by flag.
use Rattle.std.proofs.Common.{◌≡◌, ◌<◌, ◌≤◌, ◌+◌, ◌∙◌, ℕ, List, ◌∷◌, ◌++◌, [], ◌-◌, length, take, drop, get_or, true, false, Some, sym, ap, subst, refl, arith, map, Bor}
use Rattle.std.specs.Prelude.{Result, Ok, Err, IfOk, IsErr, IsErrAnd}
use Rattle.std.proofs.lemmas.List.{length-map, length-drop, drop_all, drop-drop, drop-map, take_rest}
use Rattle.policy_text.specs.declared.clause.Clause.{Clause}
use Rattle.policy_text.specs.declared.clause.Match.{Match}
use Rattle.policy_text.specs.declared.fault.MatchFault.{MatchFault}
use Rattle.policy_text.specs.declared.fault.MatchFault.TheVariants.{BadWord, OutOfMemory}
use Rattle.policy_text.specs.Clauses.{clauses_from, clause_of, may_lead, more_flags, ReadsMatch}
use Rattle.policy_text.specs.ReadingOn.{ReadsOn, GivesMore}

-- the words of borrowed texts
abbrev pub seen : List (Bor (List ℕ)) → List (List ℕ)
seen words = map (λ w. w.now) words

-- the end of the words
pub read_all : (words : List (Bor (List ℕ))) (before : List Clause) (place at : ℕ) → at ≤ length words → length words ≤ at → clauses_from before place (drop at (seen words)) ≡ Ok before
read_all words before place at inside end = ap (clauses_from before place) (drop_all at (seen words) (rw length-map end))

-- one more flag, or a word that is none
pub read_flag : (words : List (Bor (List ℕ))) (d : Bor (List ℕ)) (before after : List Clause) (place : ℕ) (result : Result ℕ MatchFault) → 0 < length words → may_lead before (get_or words 0 d).now ≡ false →
    IfOk result (λ n. n ≡ 1) → GivesMore after place (more_flags before (get_or words 0 d).now) result → ReadsOn before after place (seen words) result
read_flag [] d before after place result some miss one more = absurd (omega arith)
read_flag (w ∷ []) d before after place (Ok n) some miss one more = rw (miss, more, one) refl
read_flag (w ∷ v ∷ words) d before after place (Ok n) some miss one more = rw (miss, more, one) refl
read_flag (w ∷ []) d before after place (Err (BadWord k)) some miss one more = rw (miss, more.0, more.1) refl
read_flag (w ∷ v ∷ words) d before after place (Err (BadWord k)) some miss one more = rw (miss, more.0, more.1) refl
read_flag (w ∷ words) d before after place (Err OutOfMemory) some miss one more = tt

-- a clause
pub read_clause : (words : List (Bor (List ℕ))) (d e : Bor (List ℕ)) (before after : List Clause) (c : Clause) (place : ℕ) → 1 < length words → may_lead before (get_or words 0 d).now ≡ true →
    clause_of (get_or words 0 d).now (get_or words 1 e).now ≡ Some c → after ≡ before ++ c ∷ [] →
    clauses_from before place (seen words) ≡ clauses_from after (place + 2) (drop 2 (seen words))
read_clause [] d e before after c place some lead is more = absurd (omega arith)
read_clause (w ∷ []) d e before after c place some lead is more = absurd (omega arith)
read_clause (w ∷ v ∷ words) d e before after c place some lead is more = rw (lead, is) (ap (λ cs. clauses_from cs (place + 2) (seen words)) (sym more))

-- the words from a place on
rest_seen : (words : List (Bor (List ℕ))) (at : ℕ) → seen (take (length words - at) (drop at words)) ≡ drop at (seen words)
rest_seen words at = ap seen (take_rest words at) ∙ sym (drop-map (λ w. w.now) at words)

pub fits_in : (words : List (Bor (List ℕ))) (at n : ℕ) → at ≤ length words → n ≤ length (take (length words - at) (drop at words)) → at + n ≤ length words
fits_in words at n inside within =
    let same : length (take (length words - at) (drop at words)) ≡ length words - at = ap length (take_rest words at) ∙ length-drop at words in
    omega (arith, same)

-- what is read on is read of all words
pub read_more : (words : List (Bor (List ℕ))) (before after : List Clause) (place at n : ℕ) (all : Result (List Clause) ℕ) → clauses_from before (place + at) (drop at (seen words)) ≡ all →
    ReadsOn before after (place + at) (seen (take (length words - at) (drop at words))) (Ok n) → clauses_from after (place + (at + n)) (drop (at + n) (seen words)) ≡ all
read_more words before after place at n all so read =
    ap (λ p. clauses_from after p (drop (at + n) (seen words))) (omega arith) ∙ ap (clauses_from after (place + at + n)) (sym (drop-drop n at (seen words)))
    ∙ ap (λ ws. clauses_from after (place + at + n) (drop n ws)) (sym (rest_seen words at))
    ∙ sym read ∙ ap (clauses_from before (place + at)) (rest_seen words at) ∙ so

fault_of_all : (words : List (Bor (List ℕ))) (before after : List Clause) (place at : ℕ) (fault : MatchFault) (all : Result (List Clause) ℕ) → clauses_from before (place + at) (drop at (seen words)) ≡ all →
    ReadsOn before after (place + at) (seen (take (length words - at) (drop at words))) (Err fault) → ReadsMatch (Err fault) all
fault_of_all words before after place at (BadWord k) all so read = sym so ∙ ap (clauses_from before (place + at)) (sym (rest_seen words at)) ∙ read
fault_of_all words before after place at OutOfMemory all so read = tt

-- and so is a fault
pub read_fault : (words : List (Bor (List ℕ))) (before after : List Clause) (place at : ℕ) (fault : MatchFault) (all : Result (List Clause) ℕ) (r : Result Match MatchFault) →
    clauses_from before (place + at) (drop at (seen words)) ≡ all → IsErr r → IsErrAnd r (λ e. e ≡ fault) → ReadsOn before after (place + at) (seen (take (length words - at) (drop at words))) (Err fault) → ReadsMatch r all
read_fault words before after place at fault all (Ok m) so gone is read = absurd cc
read_fault words before after place at fault all (Err e) so gone is read = subst (λ f. ReadsMatch (Err f) all) (sym is) (fault_of_all words before after place at fault all so read)
