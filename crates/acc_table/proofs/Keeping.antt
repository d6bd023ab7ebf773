-- What a table shows when one row changes.
use Rattle.std.proofs.Common.{◌≡◌, ◌≢◌, ◌↔◌, ℕ, ◌<◌, inl, inr, cond, List, length, get_or, set, replicate, Option, Some, None, IsSome, refl, sym, ap, ◌∙◌, arith, is_some, unwrap_or}
use Rattle.std.proofs.lemmas.Bool.{false≢true}
use Rattle.std.proofs.lemmas.List.{length-replicate, length-set}
use Rattle.std.proofs.lemmas.List.Elements.{All-get_or, All-set}
use Rattle.std.specs.Ordering.{nat_cmp, eq_by_cmp}
use Rattle.std.specs.Cmp.{nat_cmp_total}
use Rattle.std.specs.FinMap.{FinMap, empty, from_entries, get, get-from_entries, get-insert, get-remove, get-empty, same_map, nat_cmp-IsAntisymmetric}
use Rattle.acc_table.specs.Arrivals.{HasRoomFor, IsOpen, Table, arrivals, forgetting, keeping, nothing, open_count, with_arrival}
use Rattle.acc_table.specs.Rows.{Place, Absent, AreKept, IsKept, IsPlaceFor, opened}
use Rattle.acc_table.proofs.Finding.{IsFor, OnlyAt, found-absent, found-at, found-set, held, len-opened, not_None, once-set, opened-free, tied_itself, only_at-from_once, tied_or_apart}

abbrev pub shown : {T : Type 0} → ℕ → List (Place T) → Table T
shown branches rows = record { entries = length rows; branches = branches; waiting = from_entries (opened rows) }

-- the row `r` at the place `i`, at which a packet's values are kept
pub record At {T : Type 0} (branches p : ℕ) (rows : List (Place T)) (i : ℕ) (r : Place T) : Type 0 where
  pub within : i < length rows
  pub is : r ≡ get_or rows i r
  pub only : OnlyAt p rows i
  pub own : IsFor p r.pid
  pub kept : IsKept branches r

pub at_place : {T : Type 0} (branches p : ℕ) (xs rows : List (Place T)) (i : ℕ) (r : Place T) → AreKept branches rows → xs ≡ rows → IsPlaceFor p xs i → r ≡ get_or rows i r → At branches p rows i r
at_place branches p xs rows i r kept e place is =
    let lt : i < length rows = omega (arith, place.within, ap length e) in
    let k : IsKept branches r = rw is (All-get_or (IsKept branches) rows i r lt kept.each) in
    elim place.either [
      | inl mine ↦ record { within = lt; is = is; only = only_at-from_once p rows i kept.once lt (rw e at mine); own = inr (ap (λ s. s.pid) is ∙ (rw e at mine) r); kept = k }
      | inr free ↦ record { within = lt; is = is; only = λ j d l n. (rw e at free.1) j d l; own = inl (ap (λ s. s.pid) is ∙ (rw e at free.0) r); kept = k }
    ]

pub kept-set : {T : Type 0} (branches p : ℕ) (rows : List (Place T)) (i : ℕ) (r s : Place T) → AreKept branches rows → At branches p rows i r → IsFor p s.pid → IsKept branches s → AreKept branches (set rows i s)
kept-set branches p rows i r s kept at own k = record {
  few = rw (length-set rows i s) kept.few;
  each = All-set (IsKept branches) rows i s k kept.each;
  once = once-set p rows i s at.within kept.once at.only own;
}

held_or : {T : Type 0} (branches : ℕ) (o : Option ℕ) (a : List (Option T)) → (o ≡ None → a ≡ nothing branches) → unwrap_or (held o a) (nothing branches) ≡ a
held_or branches None a k = sym (k refl)
held_or branches (Some p) a k = refl

-- what the row has is what has arrived for the packet
pub arrivals_at : {T : Type 0} (branches p : ℕ) (rows : List (Place T)) (i : ℕ) (r : Place T) → At branches p rows i r → arrivals (shown branches rows) p ≡ r.arrived
arrivals_at branches p rows i r at =
    ap (λ o. unwrap_or o (nothing branches)) (get-from_entries nat_cmp_total (opened rows) p ∙ found-at p rows i r at.within at.is at.only at.own)
    ∙ held_or branches r.pid r.arrived at.kept.1

same_table : {T : Type 0} (n m branches : ℕ) (w v : FinMap nat_cmp (List (Option T))) → n ≡ m → w ≡ v → ◌≡◌ {A = Table T} (record { entries = n; branches = branches; waiting = w }) (record { entries = m; branches = branches; waiting = v })
same_table n m branches w v e f i = record { entries = e i; branches = branches; waiting = f i }

get-set : {T : Type 0} (branches q p : ℕ) (rows : List (Place T)) (i : ℕ) (r s : Place T) → At branches p rows i r → IsFor p s.pid → get (from_entries {R = nat_cmp} (opened (set rows i s))) q ≡ cond (eq_by_cmp nat_cmp q p) (held s.pid s.arrived) (get (from_entries {R = nat_cmp} (opened rows)) q)
get-set branches q p rows i r s at own =
    get-from_entries nat_cmp_total (opened (set rows i s)) q
    ∙ (found-set q p rows i r s at.within at.is at.only at.own own
    ∙ ap (cond (eq_by_cmp nat_cmp q p) (held s.pid s.arrived)) (sym (get-from_entries nat_cmp_total (opened rows) q)))

-- the packet's row with other values
pub shown-keeping : {T : Type 0} (branches p : ℕ) (rows : List (Place T)) (i : ℕ) (r s : Place T) → At branches p rows i r → s.pid ≡ Some p → shown branches (set rows i s) ≡ keeping (shown branches rows) p s.arrived
shown-keeping branches p rows i r s at own =
    same_table _ _ branches _ _ (length-set rows i s)
    (same_map nat_cmp_total nat_cmp-IsAntisymmetric _ _ (λ q.
    get-set branches q p rows i r s at (inr own)
    ∙ (ap (λ o. cond (eq_by_cmp nat_cmp q p) (held o s.arrived) (get (from_entries {R = nat_cmp} (opened rows)) q)) own
    ∙ sym (get-insert nat_cmp_total (from_entries (opened rows)) p s.arrived q))))

-- its row is freed
pub shown-forgetting : {T : Type 0} (branches p : ℕ) (rows : List (Place T)) (i : ℕ) (r s : Place T) → At branches p rows i r → s.pid ≡ None → shown branches (set rows i s) ≡ forgetting (shown branches rows) p
shown-forgetting branches p rows i r s at own =
    same_table _ _ branches _ _ (length-set rows i s)
    (same_map nat_cmp_total nat_cmp-IsAntisymmetric _ _ (λ q.
    get-set branches q p rows i r s at (inl own)
    ∙ (ap (λ o. cond (eq_by_cmp nat_cmp q p) (held o s.arrived) (get (from_entries {R = nat_cmp} (opened rows)) q)) own
    ∙ sym (get-remove nat_cmp_total (from_entries (opened rows)) p q))))

same_get : {T : Type 0} (branches q p : ℕ) (rows : List (Place T)) (i : ℕ) (r s : Place T) → At branches p rows i r → IsFor p s.pid → q ≢ p → get (from_entries {R = nat_cmp} (opened (set rows i s))) q ≡ get (from_entries {R = nat_cmp} (opened rows)) q
same_get branches q p rows i r s at own n = elim (tied_or_apart q p) [
  | inl t ↦ absurd (n t.1)
  | inr t ↦ get-set branches q p rows i r s at own ∙ ap (λ b. cond b (held s.pid s.arrived) (get (from_entries {R = nat_cmp} (opened rows)) q)) t.0
]

-- every other packet stays
pub arrivals_other : {T : Type 0} (branches p : ℕ) (rows : List (Place T)) (i : ℕ) (r s : Place T) (t : Table T) → shown branches rows ≡ t → At branches p rows i r → IsFor p s.pid → (q : ℕ) → q ≢ p → arrivals (shown branches (set rows i s)) q ≡ arrivals t q
arrivals_other branches p rows i r s t view at own q n =
    ap (λ o. unwrap_or o (nothing branches)) (same_get branches q p rows i r s at own n) ∙ ap (λ u. arrivals u q) view

-- one more value, put into the packet's row
pub record Puts {T : Type 0} (p branch : ℕ) (value : T) (r s : Place T) : Type 0 where
  pub own : s.pid ≡ Some p
  pub arrived : s.arrived ≡ set r.arrived branch (Some value)

pub puts_from : {T : Type 0} (p branch : ℕ) (value : T) (r s : Place T) → s ≡ record { pid = Some p; arrived = set r.arrived branch (Some value) } → Puts p branch value r s
puts_from p branch value r s e = record { own = ap (λ x. x.pid) e; arrived = ap (λ x. x.arrived) e }

-- it holds what has arrived for the packet now
pub arrived_is : {T : Type 0} (branches p branch : ℕ) (value : T) (rows : List (Place T)) (i : ℕ) (r s : Place T) (t : Table T) → shown branches rows ≡ t → At branches p rows i r → Puts p branch value r s → s.arrived ≡ with_arrival t p branch value
arrived_is branches p branch value rows i r s t view at puts =
    puts.arrived ∙ ap (λ a. set a branch (Some value)) (sym (arrivals_at branches p rows i r at) ∙ ap (λ u. arrivals u p) view)

pub keeps : {T : Type 0} (branches p branch : ℕ) (value : T) (rows : List (Place T)) (i : ℕ) (r s : Place T) (t : Table T) → shown branches rows ≡ t → At branches p rows i r → Puts p branch value r s → shown branches (set rows i s) ≡ keeping t p (with_arrival t p branch value)
keeps branches p branch value rows i r s t view at puts =
    shown-keeping branches p rows i r s at puts.own
    ∙ (ap (λ u. keeping u p s.arrived) view ∙ ap (keeping t p) (arrived_is branches p branch value rows i r s t view at puts))

pub length-puts : {T : Type 0} (branches p branch : ℕ) (value : T) (rows : List (Place T)) (i : ℕ) (r s : Place T) → At branches p rows i r → Puts p branch value r s → length s.arrived ≡ branches
length-puts branches p branch value rows i r s at puts = ap length puts.arrived ∙ (length-set r.arrived branch (Some value) ∙ at.kept.0)

pub kept-puts : {T : Type 0} (branches p branch : ℕ) (value : T) (rows : List (Place T)) (i : ℕ) (r s : Place T) → AreKept branches rows → At branches p rows i r → Puts p branch value r s → AreKept branches (set rows i s)
kept-puts branches p branch value rows i r s kept at puts =
    kept-set branches p rows i r s kept at (inr puts.own)
    (length-puts branches p branch value rows i r s at puts, λ none. absurd (not_None p (sym puts.own ∙ none)))

pub forgets : {T : Type 0} (branches p : ℕ) (rows : List (Place T)) (i : ℕ) (r s : Place T) (t : Table T) → shown branches rows ≡ t → At branches p rows i r → s.pid ≡ None → shown branches (set rows i s) ≡ forgetting t p
forgets branches p rows i r s t view at free = shown-forgetting branches p rows i r s at free ∙ ap (λ u. forgetting u p) view

pub kept-free : {T : Type 0} (branches p n : ℕ) (rows : List (Place T)) (i : ℕ) (r s : Place T) → AreKept branches rows → At branches p rows i r → n ≡ branches → s ≡ record { pid = None; arrived = nothing n } → AreKept branches (set rows i s)
kept-free branches p n rows i r s kept at e free =
    kept-set branches p rows i r s kept at (inl (ap (λ x. x.pid) free))
    (ap (λ x. length x.arrived) free ∙ (length-replicate n None ∙ e), λ none. ap (λ x. x.arrived) free ∙ ap nothing e)

open_or_none : {A : Type 0} (o : Option A) → IsSome o → o ≡ None → ⊥
open_or_none None is e = false≢true is
open_or_none (Some x) is e = not_None x e

-- if no row is this packet's, some row is free
pub has_free_row : {T : Type 0} (branches p : ℕ) (rows : List (Place T)) (t : Table T) → shown branches rows ≡ t → AreKept branches rows → HasRoomFor t p → Absent p rows → length (opened rows) < length rows
has_free_row branches p rows t view kept room absent =
    let none : get t.waiting p ≡ None = ap (λ u. get u.waiting p) (sym view) ∙ (get-from_entries nat_cmp_total (opened rows) p ∙ found-absent p rows absent) in
    elim room [
      | inl is ↦ absurd (open_or_none (get t.waiting p) is none)
      | inr few ↦ omega (arith, len-opened rows kept.once, few, ap open_count view, ap (λ u. u.entries) view)
    ]

pub shown-free : {T : Type 0} (branches n : ℕ) (a : List (Option T)) → shown branches (replicate n (record { pid = None; arrived = a })) ≡ record { entries = n; branches = branches; waiting = empty }
shown-free branches n a = same_table _ _ branches _ _ (length-replicate n _) (ap (λ es. from_entries {R = nat_cmp} es) (opened-free n a))

-- every other packet is open as before
pub others_open : {T : Type 0} (branches p : ℕ) (rows : List (Place T)) (i : ℕ) (r s : Place T) (t : Table T) → shown branches rows ≡ t → At branches p rows i r → IsFor p s.pid → (q : ℕ) → q ≢ p → IsOpen (shown branches (set rows i s)) q ↔ IsOpen t q
others_open branches p rows i r s t view at own q n =
    let e = ap is_some (same_get branches q p rows i r s at own n ∙ ap (λ u. get u.waiting q) view) in
    (λ is. sym e ∙ is, λ is. e ∙ is)

own_get : {T : Type 0} (branches p : ℕ) (rows : List (Place T)) (i : ℕ) (r s : Place T) → At branches p rows i r → IsFor p s.pid → get (from_entries {R = nat_cmp} (opened (set rows i s))) p ≡ held s.pid s.arrived
own_get branches p rows i r s at own =
    get-set branches p p rows i r s at own ∙ ap (λ b. cond b (held s.pid s.arrived) (get (from_entries {R = nat_cmp} (opened rows)) p)) (tied_itself p)

pub arrivals-puts : {T : Type 0} (branches p branch : ℕ) (value : T) (rows : List (Place T)) (i : ℕ) (r s : Place T) (t : Table T) → shown branches rows ≡ t → At branches p rows i r → Puts p branch value r s → arrivals (shown branches (set rows i s)) p ≡ with_arrival t p branch value
arrivals-puts branches p branch value rows i r s t view at puts =
    ap (λ o. unwrap_or o (nothing branches)) (own_get branches p rows i r s at (inr puts.own) ∙ ap (λ o. held o s.arrived) puts.own)
    ∙ arrived_is branches p branch value rows i r s t view at puts

pub open-puts : {T : Type 0} (branches p branch : ℕ) (value : T) (rows : List (Place T)) (i : ℕ) (r s : Place T) → At branches p rows i r → Puts p branch value r s → IsOpen (shown branches (set rows i s)) p
open-puts branches p branch value rows i r s at puts = ap is_some (own_get branches p rows i r s at (inr puts.own) ∙ ap (λ o. held o s.arrived) puts.own)

pub open-forgets : {T : Type 0} (branches p : ℕ) (rows : List (Place T)) (i : ℕ) (r s : Place T) → At branches p rows i r → s.pid ≡ None → IsOpen (shown branches (set rows i s)) p → ⊥
open-forgets branches p rows i r s at free is = false≢true (sym (ap is_some (own_get branches p rows i r s at (inl free) ∙ ap (λ o. held o s.arrived) free)) ∙ is)

pub arrivals-forgets : {T : Type 0} (branches p : ℕ) (rows : List (Place T)) (i : ℕ) (r s : Place T) (t : Table T) → shown branches rows ≡ t → At branches p rows i r → s.pid ≡ None → arrivals (shown branches (set rows i s)) p ≡ nothing t.branches
arrivals-forgets branches p rows i r s t view at free =
    ap (λ o. unwrap_or o (nothing branches)) (own_get branches p rows i r s at (inl free) ∙ ap (λ o. held o s.arrived) free)
    ∙ ap (λ u. nothing u.branches) view

-- nothing has arrived for any packet of an empty table
pub none_waits : {T : Type 0} (branches : ℕ) (rows : List (Place T)) (n : ℕ) (a : List (Option T)) → rows ≡ replicate n (record { pid = None; arrived = a }) → (q : ℕ) → get (shown branches rows).waiting q ≡ None
none_waits branches rows n a e q = ap (λ t. get t.waiting q) (ap (shown branches) e ∙ shown-free branches n a) ∙ get-empty nat_cmp q
