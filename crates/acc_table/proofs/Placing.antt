-- How a table's rows are linked while a packet has a row, finds one, or leaves its own.
use Rattle.std.proofs.Common.{◌≡◌, ℕ, ◌%◌, ◌<◌, ◌≤◌, zero, suc, inr, List, [], ◌∷◌, length, get_or, set, replicate, Option, Some, None, refl, sym, ap, ◌∙◌, subst, arith}
use Rattle.std.proofs.lemmas.List.{get_or-replicate, get_or-set_same, length-map, length-replicate, length-set, map-set, set-get_or, set-set}
use Rattle.std.proofs.lemmas.List.Elements.{All-replicate}
use Rattle.std.specs.List.{HoldsAt}
use Rattle.acc_table.specs.Arrivals.{heads_for, nothing}
use Rattle.acc_table.specs.Rows.{Place, Absent, AreKept, IsKept, IsPlaceFor, opened}
use Rattle.acc_table.specs.Links.{AreLinked, PlainLinks, IsBefore, IsIn, owners, taking}
use Rattle.acc_table.proofs.Counting.{taken-opened}
use Rattle.acc_table.proofs.Finding.{not_None}
use Rattle.acc_table.proofs.Freeing.{IsTaken, freed, is_in, some_taken, is_freed}
use Rattle.acc_table.proofs.Taking.{FirstFree, first_free, taken}
use Rattle.acc_table.proofs.Walking.{owner_at}

pub has_free : {T : Type 0} (m : ℕ) (rows : List (Place T)) (l : PlainLinks) (k : AreLinked m (owners rows) l) → length (opened rows) < length rows → FirstFree (owners rows) l k.spare
has_free m rows l k lt = first_free m (owners rows) l k (omega (arith, k.all, taken-opened rows, lt, length-map rows (λ r. r.pid)))

pub free_in_nexts : {T : Type 0} (m : ℕ) (rows : List (Place T)) (l : PlainLinks) → AreLinked m (owners rows) l → length (opened rows) < length rows → l.free < length l.nexts
free_in_nexts m rows l k lt = omega (arith, (has_free m rows l k lt).within, k.places)

pub few_taken : {T : Type 0} (m : ℕ) (rows : List (Place T)) (l : PlainLinks) → AreLinked m (owners rows) l → length (opened rows) < length rows → l.taken < 65536
few_taken m rows l k lt = omega (arith, k.all, k.few, taken-opened rows, lt, length-map rows (λ r. r.pid))

pub place_free : {T : Type 0} (m p : ℕ) (rows : List (Place T)) (l : PlainLinks) (i : ℕ) → AreLinked m (owners rows) l → length (opened rows) < length rows → i ≡ l.free → Absent p rows → IsPlaceFor p rows i
place_free m p rows l i k lt e absent =
    let f = has_free m rows l k lt in
    let within : i < length rows = omega (arith, e, f.within, length-map rows (λ r. r.pid)) in
    record {
      within = within;
      either = inr (λ d. sym (owner_at rows i d within) ∙ (ap (λ j. get_or (owners rows) j None) e ∙ f.free), absent);
    }

-- the packet has its row
pub linked_as_is : {T : Type 0} (m p : ℕ) (rows : List (Place T)) (l : PlainLinks) (i : ℕ) → AreLinked m (owners rows) l → i < length rows → HoldsAt (λ r. r.pid ≡ Some p) rows i → AreLinked m (set (owners rows) i (Some p)) l
linked_as_is m p rows l i k lt own =
    let is : get_or (owners rows) i None ≡ Some p = owner_at rows i (record { pid = None; arrived = [] }) lt ∙ own (record { pid = None; arrived = [] }) in
    subst (λ os. AreLinked m os l) (sym (ap (set (owners rows) i) (sym is) ∙ set-get_or (owners rows) i None)) k

-- it takes the first free row
pub linked_taking : {T : Type 0} (m p : ℕ) (rows : List (Place T)) (l n : PlainLinks) (i : ℕ) → AreLinked m (owners rows) l → length (opened rows) < length rows → i ≡ l.free → n ≡ taking l (p % length l.heads) → AreLinked m (set (owners rows) i (Some p)) n
linked_taking m p rows l n i k lt e is =
    let in_heads : p % m < length l.heads = omega (arith, k.some_buckets, k.width) in
    subst (λ a. AreLinked m (set (owners rows) i (Some p)) a) (sym is)
    (subst (λ j. AreLinked m (set (owners rows) j (Some p)) (taking l (p % length l.heads))) (sym e)
    (subst (λ w. AreLinked m (set (owners rows) l.free (Some p)) (taking l (p % w))) (sym k.width) (taken m (owners rows) l k p (has_free m rows l k lt) in_heads)))

owners-set : {T : Type 0} (rows : List (Place T)) (i : ℕ) (s : Place T) (o : Option ℕ) → s.pid ≡ o → owners (set rows i s) ≡ set (owners rows) i o
owners-set rows i s o e = map-set (λ r. r.pid) rows i s ∙ ap (set (owners rows) i) e

-- the row at this place is this packet's now, or free
pub linked_set : {T : Type 0} (rows : List (Place T)) (n : PlainLinks) (i : ℕ) (s : Place T) (o : Option ℕ) → s.pid ≡ o → AreLinked (heads_for (length rows)) (set (owners rows) i o) n → AreLinked (heads_for (length (set rows i s))) (owners (set rows i s)) n
linked_set rows n i s o e k =
    subst (λ os. AreLinked (heads_for (length (set rows i s))) os n) (sym (owners-set rows i s o e))
    (subst (λ c. AreLinked (heads_for c) (set (owners rows) i o) n) (sym (length-set rows i s)) k)

pub is_taken : (m p i : ℕ) (os : List (Option ℕ)) (l : PlainLinks) → AreLinked m (set os i (Some p)) l → i < length os → IsTaken m (set os i (Some p)) l p i
is_taken m p i os l k lt = record {
  within = omega (arith, lt, length-set os i (Some p));
  own = get_or-set_same os i (Some p) None lt;
  in_heads = omega (arith, k.some_buckets, k.width);
}

pub in_bucket : (m p i : ℕ) (os : List (Option ℕ)) (l : PlainLinks) → AreLinked m (set os i (Some p)) l → i < length os → IsIn l (p % length l.heads) i
in_bucket m p i os l k lt = subst (λ w. IsIn l (p % w) i) (sym k.width) (is_in m (set os i (Some p)) l k p i (is_taken m p i os l k lt))

pub not_none_taken : (m p i : ℕ) (os : List (Option ℕ)) (l : PlainLinks) → AreLinked m (set os i (Some p)) l → i < length os → 0 < l.taken
not_none_taken m p i os l k lt = some_taken m (set os i (Some p)) l k p i (is_taken m p i os l k lt)

-- it leaves its row
pub linked_freed : (m p i : ℕ) (os : List (Option ℕ)) (l n : PlainLinks) → AreLinked m (set os i (Some p)) l → i < length os → (before : Option ℕ) × IsBefore l (p % length l.heads) i before × (n ≡ freed l (p % length l.heads) i before) → AreLinked m (set os i None) n
linked_freed m p i os l n k lt b =
    let is : IsBefore l (p % m) i b.0 = subst (λ w. IsBefore l (p % w) i b.0) k.width b.1 in
    subst (λ a. AreLinked m (set os i None) a) (sym (b.2 ∙ ap (λ w. freed l (p % w) i b.0) k.width))
    (subst (λ xs. AreLinked m xs (freed l (p % m) i b.0)) (set-set os i (Some p) None) (is_freed m (set os i (Some p)) l k p i (is_taken m p i os l k lt) b.0 is))

owners-replicate : {T : Type 0} (n : ℕ) (a : List (Option T)) → owners (replicate n (record { pid = None; arrived = a })) ≡ replicate n None
owners-replicate zero a = refl
owners-replicate (suc n) a = ap (λ os. None ∷ os) (owners-replicate n a)

-- no row is any packet's
pub linked_begun : {T : Type 0} (n : ℕ) (a : List (Option T)) (rows : List (Place T)) (l : PlainLinks) → rows ≡ replicate n (record { pid = None; arrived = a }) → AreLinked (heads_for n) (replicate n None) l → AreLinked (heads_for (length rows)) (owners rows) l
linked_begun n a rows l e k =
    subst (λ os. AreLinked (heads_for (length rows)) os l) (sym (ap owners e ∙ owners-replicate n a))
    (subst (λ c. AreLinked (heads_for c) (replicate n None) l) (sym (ap length e ∙ length-replicate n (record { pid = None; arrived = a }))) k)

pub kept_begun : {T : Type 0} (n branches : ℕ) (rows : List (Place T)) → n ≤ 65536 → rows ≡ replicate n (record { pid = None; arrived = nothing branches }) → AreKept branches rows
kept_begun {T} n branches rows few e =
    let r : Place T = record { pid = None; arrived = nothing branches } in
    subst (λ rs. AreKept branches rs) (sym e) (record {
      few = omega (arith, few, length-replicate n r);
      each = All-replicate (IsKept branches) n r (length-replicate branches None, λ _. refl);
      once = λ j k d below lt p own. absurd (not_None p (sym own ∙ ap (λ x. x.pid) (get_or-replicate n j r d (omega (arith, below, lt, length-replicate n r)))));
    })
