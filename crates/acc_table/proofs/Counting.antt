-- The number of taken rows, in all and in a bucket, when one row changes.
use Rattle.std.proofs.Common.{◌≡◌, ◌≢◌, ℕ, ◌+◌, ◌%◌, ◌<◌, ◌≤◌, zero, suc, cond, List, [], ◌∷◌, length, get_or, set, replicate, Option, Some, None, refl, ap, ◌∙◌, arith, eqb}
use Rattle.std.proofs.lemmas.List.Sums.{sum_by-set, sum_by-cons}
use Rattle.std.specs.List.{sum_by}
use Rattle.acc_table.specs.Links.{one_in, one_taken, owners}
use Rattle.acc_table.specs.Rows.{Place, entered, opened}
use Rattle.acc_table.proofs.Linking.{at_bucket}

pub hit : (c b : ℕ) → c ≡ b → ◌≡◌ {A = ℕ} (cond (eqb c b) 1 0) 1
hit c b e = at_bucket (λ n. n ≡ 1) c b 1 0 (λ _. refl) (λ n. absurd (n e))

pub miss : (c b : ℕ) → c ≢ b → ◌≡◌ {A = ℕ} (cond (eqb c b) 1 0) 0
miss c b n = at_bucket (λ k. k ≡ 0) c b 1 0 (λ e. absurd (n e)) (λ _. refl)

-- a free row becomes a packet's
pub one_more_in : (m c p i : ℕ) (os : List (Option ℕ)) → i < length os → get_or os i None ≡ None → sum_by (one_in m c) (set os i (Some p)) ≡ sum_by (one_in m c) os + cond (eqb (p % m) c) 1 0
one_more_in m c p i os lt e = omega (arith, sum_by-set (one_in m c) os i (Some p) None lt, ap (one_in m c) e)

pub one_more_taken : (p i : ℕ) (os : List (Option ℕ)) → i < length os → get_or os i None ≡ None → sum_by one_taken (set os i (Some p)) ≡ sum_by one_taken os + 1
one_more_taken p i os lt e = omega (arith, sum_by-set one_taken os i (Some p) None lt, ap one_taken e)

-- a packet's row becomes free
pub one_less_in : (m c p i : ℕ) (os : List (Option ℕ)) → i < length os → get_or os i None ≡ Some p → sum_by (one_in m c) (set os i None) + cond (eqb (p % m) c) 1 0 ≡ sum_by (one_in m c) os
one_less_in m c p i os lt e = omega (arith, sum_by-set (one_in m c) os i None None lt, ap (one_in m c) e)

pub one_less_taken : (p i : ℕ) (os : List (Option ℕ)) → i < length os → get_or os i None ≡ Some p → sum_by one_taken (set os i None) + 1 ≡ sum_by one_taken os
one_less_taken p i os lt e = omega (arith, sum_by-set one_taken os i None None lt, ap one_taken e)

-- no more than all
pub sum_within : (f : Option ℕ → ℕ) (os : List (Option ℕ)) → ((o : Option ℕ) → f o ≤ 1) → sum_by f os ≤ length os
sum_within f [] h = omega arith
sum_within f (o ∷ os) h = omega (arith, sum_by-cons f o os, h o, sum_within f os h)

pub one_in_le : (m c : ℕ) (o : Option ℕ) → one_in m c o ≤ 1
one_in_le m c None = omega arith
one_in_le m c (Some p) = at_bucket (λ n. n ≤ 1) (p % m) c 1 0 (λ _. omega arith) (λ _. omega arith)

-- if all rows are free, none is taken
pub none_in : (f : Option ℕ → ℕ) (n : ℕ) → f None ≡ 0 → sum_by f (replicate n None) ≡ 0
none_in f zero e = refl
none_in f (suc n) e = sum_by-cons f None (replicate n None) ∙ omega (arith, e, none_in f n e)

length_entered : {T : Type 0} (o : Option ℕ) (a : List (Option T)) (es : List (ℕ × List (Option T))) → length (entered o a es) ≡ one_taken o + length es
length_entered None a es = omega arith
length_entered (Some p) a es = omega arith

-- the taken rows are those of open packets
pub taken-opened : {T : Type 0} (rows : List (Place T)) → sum_by one_taken (owners rows) ≡ length (opened rows)
taken-opened [] = refl
taken-opened (r ∷ rs) = sum_by-cons one_taken r.pid (owners rs) ∙ omega (arith, taken-opened rs, length_entered r.pid r.arrived (opened rs))
