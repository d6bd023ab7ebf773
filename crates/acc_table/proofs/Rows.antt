-- Rows worked by hand: a table for two packets of two branches.
use Rattle.std.proofs.Common.{◌≡◌, ℕ, List, [], ◌∷◌, Option, Some, None, ap, ◌∙◌, set, unwrap_or, refl}
use Rattle.std.specs.Ordering.{nat_cmp}
use Rattle.std.specs.Cmp.{nat_cmp_total}
use Rattle.std.specs.FinMap.{empty, insert, get-empty, get-insert, get-remove}
use Rattle.acc_table.specs.Arrivals.{Table, arrivals, with_arrival, keeping, forgetting, doubled_to, heads_for}

abbrev two_by_two : Table ℕ
two_by_two = record { entries = 2; branches = 2; waiting = empty }

-- for packet 7 the first branch's value has arrived
abbrev one_came : Table ℕ
one_came = keeping two_by_two 7 (Some 10 ∷ None ∷ [])

abbrev or_nothing : Option (List (Option ℕ)) → List (Option ℕ)
or_nothing o = unwrap_or o (None ∷ None ∷ [])

first_arrival : with_arrival two_by_two 7 0 10 ≡ Some 10 ∷ None ∷ []
first_arrival = ap (λ o. set (or_nothing o) 0 (Some 10)) (get-empty nat_cmp 7)

second_arrival : with_arrival one_came 7 1 20 ≡ Some 10 ∷ Some 20 ∷ []
second_arrival = ap (λ o. set (or_nothing o) 1 (Some 20)) (get-insert nat_cmp_total empty 7 (Some 10 ∷ None ∷ []) 7)

another_packet : arrivals one_came 9 ≡ None ∷ None ∷ []
another_packet = ap or_nothing (get-insert nat_cmp_total empty 7 (Some 10 ∷ None ∷ []) 9 ∙ get-empty nat_cmp 9)

forgotten : arrivals (forgetting one_came 7) 7 ≡ None ∷ None ∷ []
forgotten = ap or_nothing (get-remove nat_cmp_total (insert empty 7 (Some 10 ∷ None ∷ [])) 7 7)

-- as many buckets as the least power of two that is at least the number of entries
four_buckets : heads_for 4 ≡ 4
unfolding heads_for doubled_to
four_buckets = refl

eight_buckets : heads_for 5 ≡ 8
unfolding heads_for doubled_to
eight_buckets = refl

most_buckets : heads_for 65536 ≡ 65536
unfolding heads_for doubled_to
most_buckets = refl
