-- Lines of all shards, sorted by their first packets, are the one list.
use Rattle.std.proofs.Common.{◌≡◌, ◌≢◌, ◌≤◌, ◌<◌, ◌∙◌, ℕ, zero, suc, List, [], ◌∷◌, length, get_or, Bool, true, false, inl, inr, refl, sym, ap, subst, arith}
use Rattle.std.specs.Prelude.{◌==◌, ◌⊎◌, nat_le, if◌then◌else◌}
use Rattle.std.specs.List.{AllByRecursion, IsDistinct, Contains}
use Rattle.std.specs.List.Sorted.{IsPermutation, IsNonDecreasingBy}
use Rattle.std.specs.Map.{values_of}
use Rattle.std.proofs.lemmas.Bool.{true≢false}
use Rattle.std.proofs.lemmas.Bool.Decides.{eqb_tells}
use Rattle.std.proofs.lemmas.List.Sorted.{IsPermutation-refl, IsPermutation-sym, IsPermutation-trans, IsPermutation-cons, IsPermutation-middle, IsPermutation-map, Contains-permutation}
use Rattle.std.proofs.lemmas.Map.Keys.{IsDistinct-IsPermutation}
use Rattle.flow_line.specs.declared.line.FlowLine.{FlowLine}
use Rattle.packet_function.specs.declared.flow.FiveTuple.{FiveTuple}
use Rattle.flow_shards.specs.Flows.{Lines}
use Rattle.flow_shards.specs.Sharding.{placed, in_order, IsRising}
use Rattle.flow_shards.proofs.Ordering.{unequal}

-- each was first seen before those after it
abbrev Above : FlowLine → List FlowLine → Type 0
Above x ys = AllByRecursion (λ y. x.first < y.first) ys

abbrev Climbs : List FlowLine → Type 0
Climbs [] = Unit
Climbs (x ∷ xs) = Above x xs × Climbs xs

abbrev Among : FlowLine → List FlowLine → Type 0
Among z [] = ⊥
Among z (x ∷ xs) = (z ≡ x) ⊎ Among z xs

among_at : (xs : List FlowLine) (z : FlowLine) (k : ℕ) → k < length xs → get_or xs k z ≡ z → Among z xs
among_at [] z k inside is = absurd (omega (arith, inside))
among_at (x ∷ xs) z zero inside is = inl (sym is)
among_at (x ∷ xs) z (suc k) inside is = inr (among_at xs z k (omega (arith, inside)) is)

contains : (xs : List FlowLine) (z : FlowLine) → Among z xs → Contains xs z
contains [] z m = absurd m
contains (x ∷ xs) z (inl is) = (0, omega arith, sym is)
contains (x ∷ xs) z (inr m) = let c = contains xs z m in (suc c.0, omega (arith, c.1), c.2)

moved : (xs ys : List FlowLine) → IsPermutation xs ys → (z : FlowLine) → Among z xs → Among z ys
moved xs ys same z m = let c = Contains-permutation xs ys z same (contains xs z m) in among_at ys z c.0 c.1 c.2

above_all : (x z : FlowLine) (xs : List FlowLine) → Above x xs → Among z xs → x.first < z.first
above_all x z [] above m = absurd m
above_all x z (y ∷ ys) above (inl is) = subst (λ (w : FlowLine). x.first < w.first) (sym is) above.0
above_all x z (y ∷ ys) above (inr m) = above_all x z ys above.1 m

head_is : (x y : FlowLine) (xs ys : List FlowLine) → Above x xs → Above y ys → (x ≡ y) ⊎ Among x ys → (y ≡ x) ⊎ Among y xs → x ≡ y
head_is x y xs ys a b (inl is) n = is
head_is x y xs ys a b (inr m) (inl is) = sym is
head_is x y xs ys a b (inr m) (inr n) = absurd (omega (arith, above_all x y xs a n, above_all y x ys b m))

rest_is : (x y : FlowLine) (xs ys : List FlowLine) → x ≡ y → Above x xs → ((z : FlowLine) → Among z (x ∷ xs) → Among z (y ∷ ys)) → (z : FlowLine) → Among z xs → Among z ys
rest_is x y xs ys same above there z m = by (there z (inr m))
  where
    by : (z ≡ y) ⊎ Among z ys → Among z ys
    by (inl is) = absurd (omega (arith, above_all x z xs above m, ap (λ (w : FlowLine). w.first) (is ∙ sym same)))
    by (inr n) = n

same_lines : (xs ys : List FlowLine) → Climbs xs → Climbs ys → ((z : FlowLine) → Among z xs → Among z ys) → ((z : FlowLine) → Among z ys → Among z xs) → xs ≡ ys
same_lines [] [] a b there back = refl
same_lines [] (y ∷ ys) a b there back = absurd (back y (inl refl))
same_lines (x ∷ xs) [] a b there back = absurd (there x (inl refl))
same_lines (x ∷ xs) (y ∷ ys) a b there back =
    let head : x ≡ y = head_is x y xs ys a.0 b.0 (there x (inl refl)) (back y (inl refl)) in
    λ i. head i ∷ same_lines xs ys a.1 b.1 (rest_is x y xs ys head a.0 there) (rest_is y x ys xs (sym head) b.0 back) i

-- two lines with one first packet
abbrev same_first : FlowLine → FlowLine → Bool
same_first a b = a.first == b.first

apart : (x : FlowLine) (xs : List FlowLine) → Above x xs → AllByRecursion (λ y. same_first x y ≡ false) xs
apart x [] above = tt
apart x (y ∷ ys) above = (unequal x.first y.first above.0, apart x ys above.1)

distinct : (xs : List FlowLine) → Climbs xs → IsDistinct same_first xs
unfolding IsDistinct
distinct [] climbs = tt
distinct (x ∷ xs) climbs = (apart x xs climbs.0, distinct xs climbs.1)

flips : (a b : FlowLine) → same_first a b ≡ same_first b a
flips a b = by (eqb_tells a.first b.first) (eqb_tells b.first a.first)
  where
    by : (same_first a b ≡ true) × (a.first ≡ b.first) ⊎ (same_first a b ≡ false) × (a.first ≢ b.first) → (same_first b a ≡ true) × (b.first ≡ a.first) ⊎ (same_first b a ≡ false) × (b.first ≢ a.first) → same_first a b ≡ same_first b a
    by (inl p) (inl q) = p.0 ∙ sym q.0
    by (inl p) (inr q) = absurd (q.1 (sym p.1))
    by (inr p) (inl q) = absurd (p.1 (sym q.1))
    by (inr p) (inr q) = p.0 ∙ sym q.0

less : (a b : ℕ) → (a == b) ≡ false → a ≤ b → a < b
less a b other up = by (eqb_tells a b)
  where
    by : ((a == b) ≡ true) × (a ≡ b) ⊎ ((a == b) ≡ false) × (a ≢ b) → a < b
    by (inl p) = absurd (true≢false (sym p.0 ∙ other))
    by (inr p) = omega (arith, p.1, up)

strictly : (x : FlowLine) (ys : List FlowLine) → AllByRecursion (λ y. same_first x y ≡ false) ys → ((j : ℕ) (d : FlowLine) → j < length ys → x.first ≤ (get_or ys j d).first) → Above x ys
strictly x [] other up = tt
strictly x (y ∷ ys) other up = (less x.first y.first other.0 (up 0 x (omega arith)), strictly x ys other.1 (λ j d inside. up (suc j) d (omega (arith, inside))))

climbs : (ys : List FlowLine) → IsDistinct same_first ys → ((i j : ℕ) (d : FlowLine) → i ≤ j → j < length ys → (get_or ys i d).first ≤ (get_or ys j d).first) → Climbs ys
unfolding IsDistinct
climbs [] other up = tt
climbs (y ∷ ys) other up =
    (strictly y ys other.0 (λ j d inside. up 0 (suc j) d (omega arith) (omega (arith, inside))), climbs ys other.1 (λ i j d h inside. up (suc i) (suc j) d (omega (arith, h)) (omega (arith, inside))))

-- putting lines in order only moves them
placed_moves : (line : FiveTuple × FlowLine) (lines : Lines) → IsPermutation (line ∷ lines) (placed line lines)
placed_moves line [] = IsPermutation-refl (line ∷ [])
placed_moves line (next ∷ lines) = by (nat_le line.1.first next.1.first) (placed_moves line lines)
  where
    by : (b : Bool) → IsPermutation (line ∷ lines) (placed line lines) → IsPermutation (line ∷ next ∷ lines) (if b then line ∷ next ∷ lines else next ∷ placed line lines)
    by true rest = IsPermutation-refl (line ∷ next ∷ lines)
    by false rest =
        IsPermutation-trans (line ∷ next ∷ lines) (next ∷ line ∷ lines) (next ∷ placed line lines)
        (IsPermutation-middle (line ∷ []) next lines)
        (IsPermutation-cons next (line ∷ lines) (placed line lines) rest)

in_order_moves : (lines : Lines) → IsPermutation lines (in_order lines)
in_order_moves [] = IsPermutation-refl []
in_order_moves (line ∷ lines) =
    IsPermutation-trans (line ∷ lines) (line ∷ in_order lines) (placed line (in_order lines)) (IsPermutation-cons line lines (in_order lines) (in_order_moves lines)) (placed_moves line (in_order lines))

above_values : (line : FiveTuple × FlowLine) (lines : Lines) → AllByRecursion (λ next. line.1.first < next.1.first) lines → Above line.1 (values_of lines)
above_values line [] above = tt
above_values line (next ∷ lines) above = (above.0, above_values line lines above.1)

climbing : (lines : Lines) → IsRising lines → Climbs (values_of lines)
climbing [] rising = tt
climbing (line ∷ lines) rising = (above_values line lines rising.0, climbing lines rising.1)

-- the lines of all shards, sorted by their first packets
pub gathered : (lines : Lines) (sorted : List FlowLine) → IsRising (in_order lines) → IsPermutation (values_of lines) sorted → IsNonDecreasingBy (λ (line : FlowLine). line.first) sorted → sorted ≡ values_of (in_order lines)
gathered lines sorted rising same up =
    let all = values_of (in_order lines) in
    let high : Climbs all = climbing (in_order lines) rising in
    let moves : IsPermutation all sorted =
    IsPermutation-trans all (values_of lines) sorted (IsPermutation-sym (values_of lines) all (IsPermutation-map (λ line. line.1) lines (in_order lines) (in_order_moves lines))) same in
    let ordered : Climbs sorted = climbs sorted (IsDistinct-IsPermutation same_first flips all sorted moves (distinct all high)) up in
    same_lines sorted all ordered high (moved sorted all (IsPermutation-sym all sorted moves)) (moved all sorted moves)
