-- The place of a key: that of one that wasn't seen, and that of one that was.
use Rattle.std.proofs.Common.{◌≡◌, ◌≤◌, ◌<◌, ◌∙◌, ℕ, suc, List, [], ◌∷◌, length, position, Bool, true, false, cond, nat_lt, Some, None, refl, ap, arith}
use Rattle.std.specs.List.{position_or_len}
use Rattle.std.specs.Map.{keys_of}
use Rattle.std.proofs.lemmas.List.Sums.{prefix_len-le-length}

outside : (b : Bool) (place len : ℕ) → nat_lt place len ≡ b → cond b (Some place) None ≡ None → place ≤ len → len ≡ place
outside true place len is none within = absurd cc
outside false place len is none within = grind arith

as_many : {K V : Type 0} (seen : List (K × V)) → length seen ≡ length (keys_of seen)
as_many [] = refl
as_many (e ∷ seen) = ap suc (as_many seen)

pub behind_all : {K V : Type 0} (test : K → Bool) (seen : List (K × V)) → position test (keys_of seen) ≡ None → length seen ≡ position_or_len test (keys_of seen)
behind_all test seen none =
    as_many seen
    ∙ outside (nat_lt (position_or_len test (keys_of seen)) (length (keys_of seen))) (position_or_len test (keys_of seen)) (length (keys_of seen)) refl none (prefix_len-le-length _ (keys_of seen))

at_place : (b : Bool) (place other len : ℕ) → nat_lt place len ≡ b → cond b (Some place) None ≡ Some other → (place ≡ other) × (other < len)
at_place true place other len is found = (same, grind arith)
  where
    same : place ≡ other
    same = cc
at_place false place other len is found = absurd cc

pub place_found : {K : Type 0} (test : K → Bool) (keys : List K) (place : ℕ) → position test keys ≡ Some place → (position_or_len test keys ≡ place) × (place < length keys)
place_found test keys place found = at_place (nat_lt (position_or_len test keys) (length keys)) (position_or_len test keys) place (length keys) refl found

pub inside : {K V : Type 0} (test : K → Bool) (seen : List (K × V)) (place : ℕ) → position test (keys_of seen) ≡ Some place → place < length seen
inside test seen place found = let within = (place_found test (keys_of seen) place found).1 in let many = as_many seen in omega arith
