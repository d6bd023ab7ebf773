-- A bucket has as many open packets as rows.
use Rattle.std.proofs.Common.{◌≡◌, ℕ, ◌+◌, ◌%◌, zero, suc, cond, List, [], ◌∷◌, map, Option, Some, None, refl, sym, ap, ◌∙◌, arith, eqb}
use Rattle.std.proofs.lemmas.List.{nil_from_length}
use Rattle.std.proofs.lemmas.List.Sums.{sum_by-cons}
use Rattle.std.specs.List.{sum_by}
use Rattle.std.proofs.Common.{Less, Equal, Greater}
use Rattle.std.specs.Ordering.{nat_cmp, is_eq}
use Rattle.std.specs.Cmp.{nat_cmp_total}
use Rattle.std.specs.FinMap.{empty, len-empty, len-entries, put, find, from_entries, entries, keys, entries-insert, get-entries, get-from_entries}
use Rattle.std.specs.FinMap.Entries.{by_order}
use Rattle.acc_table.specs.Links.{one_in, owners}
use Rattle.acc_table.specs.Rows.{Place, Once, entered, opened}
use Rattle.acc_table.proofs.Finding.{Entries, not_None, found-absent}

abbrev key_of : {X : Type 0} → ℕ × X → ℕ
key_of e = e.0

-- a new key adds what it counts
put_new : {X : Type 0} (g : ℕ → ℕ) (k : ℕ) (v : X) (es : List (ℕ × X)) → find nat_cmp k es ≡ None → sum_by g (map key_of (put nat_cmp k v es)) ≡ g k + sum_by g (map key_of es)
put_new g k v [] none = sum_by-cons g k []
put_new {X} g k v (e ∷ es) none =
    elim (nat_cmp k e.0) as (λ r. cond (is_eq r) (Some e.1) (find nat_cmp k es) ≡ None → sum_by g (map key_of (by_order r ((k, v) ∷ e ∷ es) ((e.0, v) ∷ es) (e ∷ put nat_cmp k v es))) ≡ g k + sum_by g (map key_of (e ∷ es))) [
      | Less ↦ λ n. sum_by-cons g k (map key_of (e ∷ es))
      | Equal ↦ λ n. absurd (not_None e.1 n)
      | Greater ↦ λ n.
          sum_by-cons g e.0 (map key_of (put nat_cmp k v es))
          ∙ omega (arith, put_new g k v es n, sum_by-cons g e.0 (map key_of es))
    ] none

abbrev counted : ℕ → ℕ → ℕ → ℕ
counted m b p = cond (eqb (p % m) b) 1 0

entered_counts : {T : Type 0} (m b : ℕ) (o : Option ℕ) (a : List (Option T)) (es : Entries T) → ((p : ℕ) → o ≡ Some p → find nat_cmp p es ≡ None) → sum_by (counted m b) (keys (from_entries {R = nat_cmp} (entered o a es))) ≡ one_in m b o + sum_by (counted m b) (keys (from_entries {R = nat_cmp} es))
entered_counts m b None a es none = omega arith
entered_counts m b (Some p) a es none =
    ap (λ fs. sum_by (counted m b) (map key_of fs)) (entries-insert nat_cmp_total (from_entries es) p a)
    ∙ put_new (counted m b) p a (entries (from_entries {R = nat_cmp} es)) (sym (get-entries (from_entries {R = nat_cmp} es) p) ∙ (get-from_entries nat_cmp_total es p ∙ none p refl))

nothing_counts : (X : Type 0) (m b : ℕ) → sum_by (counted m b) (keys (empty {X = X} {R = nat_cmp})) ≡ 0
nothing_counts X m b = ap (λ es. sum_by (counted m b) (map key_of es)) (nil_from_length (entries (empty {X = X} {R = nat_cmp})) (sym (len-entries (empty {X = X} {R = nat_cmp})) ∙ len-empty nat_cmp X))

pub bucket_counts : {T : Type 0} (m b : ℕ) (rows : List (Place T)) → Once rows → sum_by (counted m b) (keys (from_entries {R = nat_cmp} (opened rows))) ≡ sum_by (one_in m b) (owners rows)
bucket_counts {T} m b [] once = nothing_counts (List (Option T)) m b
bucket_counts m b (r ∷ rs) once =
    entered_counts m b r.pid r.arrived (opened rs) (λ p own. found-absent p rs (λ k d l. once zero (suc k) d (omega arith) (omega (arith, l)) p own))
    ∙ (ap (λ n. one_in m b r.pid + n) (bucket_counts m b rs (λ j k d below l. once (suc j) (suc k) d (omega (arith, below)) (omega (arith, l))))
    ∙ sym (sum_by-cons (one_in m b) r.pid (owners rs)))
