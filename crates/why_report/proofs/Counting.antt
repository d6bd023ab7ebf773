-- Hits add up to what was seen, and a line without hits decided nothing.
use Rattle.std.proofs.Common.{◌≡◌, ◌<◌, ◌≤◌, ◌+◌, ◌*◌, ◌^◌, ◌∙◌, ℕ, zero, suc, List, [], ◌∷◌, length, get_or, refl, ap, sym, subst, Bool, true, false, arith}
use Rattle.std.specs.Prelude.{All, AllPairs, count_by, sum, sum_by, cond, ◌==◌, ◌||◌}
use Rattle.std.specs.List.{Contains, list_any}
use Rattle.std.proofs.lemmas.Bool.{eq-eqb, ne_eqb}
use Rattle.std.proofs.lemmas.List.{get_or_default}
use Rattle.std.proofs.lemmas.List.Folds.{list_any_at, list_any_none}
use Rattle.std.proofs.lemmas.List.Sums.{count_by-le-length, get_or-le-sum_by, sum-map, sum_by-cons, sum_by-le}
use Rattle.policy_text.specs.declared.policy.FunctionDecl.{FunctionDecl}
use Rattle.declared_lines.specs.DeclaredLines.{deciders}
use Rattle.traced_walk.specs.Traced.{Act}
use Rattle.why_report.specs.Report.{counted, decided_lines, hits}
use Rattle.why_report.specs.Uses.{DecidedByOne, DecidedNone, use_of}

abbrev one_if : Bool → ℕ
one_if b = cond b 1 0

-- the act was decided by this line
abbrev decided_by : FunctionDecl → ℕ → Act → Bool
decided_by decl line act = list_any (λ n. n == line) (decided_lines decl act)

-- ---- sums

sum-zero : {A : Type 0} (f : A → ℕ) (xs : List A) → ((x : A) → f x ≡ 0) → sum_by f xs ≡ 0
sum-zero f [] each = refl
sum-zero f (x ∷ xs) each = let here = each x in let later = sum-zero f xs each in omega (arith, sum_by-cons f x xs)

sum-both : {A : Type 0} (f g h : A → ℕ) (xs : List A) → ((x : A) → h x ≡ f x + g x) → sum_by h xs ≡ sum_by f xs + sum_by g xs
sum-both f g h [] each = refl
sum-both f g h (x ∷ xs) each =
    let here = each x in
    let later = sum-both f g h xs each in
    omega (arith, sum_by-cons f x xs, sum_by-cons g x xs, sum_by-cons h x xs)

sum-same : {A : Type 0} (f g : A → ℕ) (xs : List A) → ((x : A) → f x ≡ g x) → sum_by f xs ≡ sum_by g xs
sum-same f g [] each = refl
sum-same f g (x ∷ xs) each = let here = each x in let later = sum-same f g xs each in omega (arith, sum_by-cons f x xs, sum_by-cons g x xs)

-- ---- a number in a list that rises

later_rise : (x : ℕ) (xs : List ℕ) → AllPairs (λ a b. a < b) (x ∷ xs) → AllPairs (λ a b. a < b) xs
later_rise x xs rise = λ i j d below inside. rise (suc i) (suc j) d (omega arith) (omega arith)

first_below : (x : ℕ) (xs : List ℕ) → AllPairs (λ a b. a < b) (x ∷ xs) → All (λ y. x < y) xs
first_below x xs rise = λ k d inside. rise zero (suc k) d (omega arith) (omega arith)

none_equal : (x : ℕ) (xs : List ℕ) → All (λ y. x < y) xs → count_by (λ y. x == y) xs ≡ 0
none_equal x [] above = refl
none_equal x (y ∷ ys) above =
    let more : x < y = above zero y (omega arith) in
    let no_here : (x == y) ≡ false = ne_eqb x y (λ same. absurd (omega (arith, same))) in
    sum_by-cons (λ z. one_if (x == z)) y ys
    ∙ ap (λ b. one_if b + count_by (λ z. x == z) ys) no_here
    ∙ (let later = none_equal x ys (λ k d inside. above (suc k) d (omega arith)) in omega arith)

found_once : (x : ℕ) (xs : List ℕ) → AllPairs (λ a b. a < b) xs → (k : ℕ) → k < length xs → get_or xs k x ≡ x → count_by (λ y. x == y) xs ≡ 1
found_once x [] rise k inside is = absurd (omega arith)
found_once x (y ∷ ys) rise zero inside is =
    let below : All (λ z. x < z) ys = subst (λ (n : ℕ). All (λ z. n < z) ys) is (first_below y ys rise) in
    sum_by-cons (λ z. one_if (x == z)) y ys
    ∙ ap (λ b. one_if b + count_by (λ z. x == z) ys) (eq-eqb x y (sym is))
    ∙ (let later = none_equal x ys below in omega arith)
found_once x (y ∷ ys) rise (suc k) inside is =
    let less : y < x = subst (λ (n : ℕ). y < n) is (first_below y ys rise k x (omega arith)) in
    let no_here : (x == y) ≡ false = ne_eqb x y (λ same. absurd (omega (arith, same))) in
    sum_by-cons (λ z. one_if (x == z)) y ys
    ∙ ap (λ b. one_if b + count_by (λ z. x == z) ys) no_here
    ∙ (let later = found_once x ys (later_rise y ys rise) k (omega arith) is in omega arith)

-- ---- hits add up

or_false : (b : Bool) → (b || false) ≡ b
or_false true = refl
or_false false = refl

-- the one line that decided an act is hit once
one_hit : (decl : FunctionDecl) (act : Act) → AllPairs (λ a b. a < b) (deciders decl) → DecidedByOne decl act
    → sum_by (λ line. one_if (decided_by decl line act)) (deciders decl) ≡ 1
one_hit decl act rise one =
    sum-same (λ line. one_if (decided_by decl line act)) (λ line. one_if (one.line == line)) (deciders decl)
    (λ line. ap (λ ls. one_if (list_any (λ n. n == line) ls)) one.alone ∙ ap one_if (or_false (one.line == line)))
    ∙ found_once one.line (deciders decl) rise one.listed.0 one.listed.1 one.listed.2

counts_add_up : (decl : FunctionDecl) (acts : List Act) → AllPairs (λ a b. a < b) (deciders decl) → All (DecidedByOne decl) acts
    → sum_by (λ line. count_by (decided_by decl line) acts) (deciders decl) ≡ length acts
counts_add_up decl [] rise each = sum-zero (λ line. count_by (decided_by decl line) []) (deciders decl) (λ line. refl)
counts_add_up decl (act ∷ acts) rise each =
    let here = one_hit decl act rise (each zero act (omega arith)) in
    let later = counts_add_up decl acts rise (λ k d inside. each (suc k) d (omega arith)) in
    let both =
    sum-both (λ line. one_if (decided_by decl line act)) (λ line. count_by (decided_by decl line) acts) (λ line. count_by (decided_by decl line) (act ∷ acts)) (deciders decl)
    (λ line. sum_by-cons (λ a. one_if (decided_by decl line a)) act acts) in
    omega arith

pub hits_add_up : (decl : FunctionDecl) (acts : List Act) → AllPairs (λ a b. a < b) (deciders decl) → All (DecidedByOne decl) acts → length acts < 2 ^ 64
    → sum (use_of decl acts).hits ≡ (use_of decl acts).saw
hits_add_up decl acts rise each few =
    sum-map (λ line. hits decl line acts) (deciders decl)
    ∙ sum-same (λ line. hits decl line acts) (λ line. count_by (decided_by decl line) acts) (deciders decl)
    (λ line. let most = count_by-le-length (decided_by decl line) acts in omega arith)
    ∙ counts_add_up decl acts rise each
    ∙ (let saw : length acts ≡ counted (length acts) = omega arith in saw)

-- ---- a line without hits

none_of : (b : Bool) → one_if b ≤ 0 → b ≡ false
none_of true few = absurd (omega arith)
none_of false few = refl

uncounted : (p : Act → Bool) (acts : List Act) → count_by p acts ≡ 0 → All (λ act. p act ≡ false) acts
uncounted p acts none = λ k d inside. none_of (p (get_or acts k d)) (let most = get_or-le-sum_by (λ a. one_if (p a)) acts k d inside in omega arith)

not_counted : (p : Act → Bool) (acts : List Act) → All (λ act. p act ≡ false) acts → count_by p acts ≡ 0
not_counted p acts none =
    let most : count_by p acts ≤ length acts * 0 =
    sum_by-le (λ a. one_if (p a)) 0 acts (λ k d inside. let zero_here : one_if (p (get_or acts k d)) ≡ 0 = ap one_if (none k d inside) in omega arith) in
    omega arith

not_among : (line : ℕ) (lines : List ℕ) → list_any (λ n. n == line) lines ≡ false → ¬ (Contains lines line)
not_among line lines none = λ found.
    let there : list_any (λ n. n == line) lines ≡ true = list_any_at (λ n. n == line) lines found.0 line found.1 (eq-eqb (get_or lines found.0 line) line found.2) in
    let wrong : true ≡ false = sym there ∙ none in
    absurd cc

among_not : (line : ℕ) (lines : List ℕ) → ¬ (Contains lines line) → list_any (λ n. n == line) lines ≡ false
among_not line lines none =
    list_any_none (λ n. n == line) lines
    (λ k d inside. ne_eqb (get_or lines k d) line (λ same. none (k, inside, get_or_default lines k line d inside ∙ same)))

pub unmet : (decl : FunctionDecl) (line : ℕ) (acts : List Act) → hits decl line acts ≡ 0 → DecidedNone decl line acts
unmet decl line acts none = λ k d inside.
    not_among line (decided_lines decl (get_or acts k d)) (uncounted (decided_by decl line) acts (omega arith) k d inside)

pub without_hits : (decl : FunctionDecl) (line : ℕ) (acts : List Act) → DecidedNone decl line acts → hits decl line acts ≡ 0
without_hits decl line acts none =
    let zero_count = not_counted (decided_by decl line) acts (λ k d inside. among_not line (decided_lines decl (get_or acts k d)) (none k d inside)) in
    omega arith
