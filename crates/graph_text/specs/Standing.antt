-- Believed: where the functions of a chain are in stages of branches.
use Rattle.std.specs.Prelude.{ℕ, ◌-◌, List, [], ◌∷◌, Bool, false, ◌==◌, ◌&&◌, ◌||◌, nat_lt, is_some, find, Option, option_and_then}
use Rattle.std.specs.List.{list_any, range_with_len}
use Rattle.std.specs.Option.{option_map}
use Rattle.graph_compile.specs.declared.graph.Branch.{Branch}
use Rattle.graph_compile.specs.Positions.{holds}

-- a position is in a stage of these branches, and in some stage
abbrev pub is_in : ℕ → List Branch → Bool
is_in p branches = list_any (holds p) branches

abbrev pub is_placed : ℕ → List (List Branch) → Bool
is_placed p stages = list_any (is_in p) stages

-- a number occurs twice
abbrev pub repeats : List ℕ → Bool
repeats [] = false
repeats (p ∷ ps) = list_any (λ q. q == p) ps || repeats ps

-- one of these positions is there already, or occurs twice
abbrev pub stands_twice : List (List Branch) → List ℕ → Bool
stands_twice stages positions = list_any (λ p. is_placed p stages) positions || repeats positions

-- an item that passes one test comes before one that passes another
abbrev pub leads : {A : Type 0} → (A → Bool) → (A → Bool) → List A → Bool
leads f g [] = false
leads f g (x ∷ xs) = (f x && list_any g xs) || leads f g xs

-- a position comes before another in a branch
abbrev pub leads_in : ℕ → ℕ → Branch → Bool
leads_in p q branch = leads (λ x. x == p) (λ x. x == q) branch.positions

-- a position is in an earlier stage than another, or before it in one branch
abbrev pub comes_before : ℕ → ℕ → List (List Branch) → Bool
comes_before p q stages = leads (is_in p) (is_in q) stages || list_any (list_any (leads_in p q)) stages

-- two positions are in different branches of a stage, and of some stage
abbrev pub are_beside_in : ℕ → ℕ → List Branch → Bool
are_beside_in p q branches = leads (holds p) (holds q) branches || leads (holds q) (holds p) branches

abbrev pub are_beside : ℕ → ℕ → List (List Branch) → Bool
are_beside p q stages = list_any (are_beside_in p q) stages

-- the least position below this end that passes a test
abbrev pub least : (ℕ → Bool) → ℕ → Option ℕ
least test end = find test (range_with_len 1 (end - 1))

-- the least after a position that passes a test with it
abbrev pub least_behind : (ℕ → ℕ → Bool) → ℕ → ℕ → Option ℕ
least_behind test end p = least (λ q. nat_lt p q && test p q) end

abbrev pub has_behind : (ℕ → ℕ → Bool) → ℕ → ℕ → Bool
has_behind test end p = is_some (least_behind test end p)

-- the least position that passes a test with one after it, and the least of those
abbrev pub least_pair : (ℕ → ℕ → Bool) → ℕ → Option (ℕ × ℕ)
least_pair test end = option_and_then (λ p. option_map (λ q. (p, q)) (least_behind test end p)) (least (has_behind test end) end)
