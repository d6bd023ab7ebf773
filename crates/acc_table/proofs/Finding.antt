-- Where a packet is found among the rows, and how a row that changes leaves the others.
use Rattle.std.proofs.Common.{◌≡◌, ◌≢◌, ℕ, ◌+◌, ◌<◌, zero, suc, ◌⊎◌, inl, inr, Bool, true, false, cond, List, [], ◌∷◌, length, get_or, set, Option, Some, None, refl, sym, ap, ◌∙◌, subst, arith, is_some, replicate}
use Rattle.std.proofs.lemmas.Bool.{false≢true, eqb-true, eqb-false, cases_eq, cases_order}
use Rattle.std.proofs.lemmas.Option.{same_Some}
use Rattle.std.proofs.lemmas.List.{get_or-set_same, get_or-set_other, length-set, set-get_or}
use Rattle.std.proofs.lemmas.List.Elements.{All-head, All-tail}
use Rattle.std.specs.List.{HoldsAt}
use Rattle.std.specs.Ordering.{nat_cmp, eq_by_cmp}
use Rattle.std.specs.Cmp.{nat_cmp_total, unsigned_tied}
use Rattle.std.specs.FinMap.{find, from_entries, len, get-from_entries, len-insert, len-empty}
use Rattle.acc_table.specs.Rows.{Place, Absent, Once, entered, opened}

abbrev same : ℕ → ℕ → Bool
same q p = eq_by_cmp nat_cmp q p

keys : (q p : ℕ) (b : Bool) → same q p ≡ b → ((same q p ≡ true) × (q ≡ p)) ⊎ ((same q p ≡ false) × (q ≢ p))
keys q p true e = inl (e, eqb-true q p (sym (unsigned_tied q p) ∙ e))
keys q p false e = inr (e, eqb-false q p (sym (unsigned_tied q p) ∙ e))

-- the test of two numbers holds exactly when they are equal
pub tied_or_apart : (q p : ℕ) → ((same q p ≡ true) × (q ≡ p)) ⊎ ((same q p ≡ false) × (q ≢ p))
tied_or_apart q p = keys q p (same q p) refl

apart_is_false : (q p : ℕ) → q ≢ p → same q p ≡ false
apart_is_false q p n = elim (tied_or_apart q p) [ inl t ↦ absurd (n t.1) | inr t ↦ t.0 ]

pub tied_itself : (p : ℕ) → same p p ≡ true
tied_itself p = elim (tied_or_apart p p) [ inl t ↦ t.0 | inr t ↦ absurd (t.1 refl) ]

pub not_None : {A : Type 0} (x : A) → Some x ≢ None
not_None x e = false≢true (sym (ap is_some e))

abbrev pub Entries : Type 0 → Type 0
Entries T = List (ℕ × List (Option T))

abbrev pub found : {T : Type 0} → ℕ → List (Place T) → Option (List (Option T))
found q rows = find nat_cmp q (opened rows)

-- what a row of this owner holds for it
abbrev pub held : {T : Type 0} → Option ℕ → List (Option T) → Option (List (Option T))
held None arrived = None
held (Some p) arrived = Some arrived

abbrev pub IsFor : ℕ → Option ℕ → Type 0
IsFor p owner = (owner ≡ None) ⊎ (owner ≡ Some p)

-- no other row is this packet's
abbrev pub OnlyAt : {T : Type 0} → ℕ → List (Place T) → ℕ → Type 0
OnlyAt {T} p rows i = (k : ℕ) (d : Place T) → k < length rows → k ≢ i → (get_or rows k d).pid ≢ Some p

absent_entered : {T : Type 0} (p : ℕ) (owner : Option ℕ) (arrived : List (Option T)) (es : Entries T) → owner ≢ Some p → find nat_cmp p es ≡ None → find nat_cmp p (entered owner arrived es) ≡ None
absent_entered p None arrived es n e = e
absent_entered p (Some o) arrived es n e = ap (λ b. cond b (Some arrived) (find nat_cmp p es)) (apart_is_false p o (λ s. n (ap Some (sym s)))) ∙ e

-- a packet that has no row isn't found
pub found-absent : {T : Type 0} (p : ℕ) (rows : List (Place T)) → Absent p rows → found p rows ≡ None
found-absent p [] h = refl
found-absent p (r ∷ rs) h = absent_entered p r.pid r.arrived (opened rs) (All-head (λ s. s.pid ≢ Some p) r rs h) (found-absent p rs (All-tail (λ s. s.pid ≢ Some p) r rs h))

skipped : {T : Type 0} (q p : ℕ) (o : Option ℕ) (a : List (Option T)) (es : Entries T) → same q p ≡ false → IsFor p o → find nat_cmp q (entered o a es) ≡ find nat_cmp q es
skipped q p None a es e h = refl
skipped q p (Some x) a es e h = elim h [
  | inl n ↦ absurd (not_None x n)
  | inr s ↦ ap (λ b. cond b (Some a) (find nat_cmp q es)) (ap (same q) (same_Some x p s) ∙ e)
]

met : {T : Type 0} (q p : ℕ) (o : Option ℕ) (a : List (Option T)) (es : Entries T) → same q p ≡ true → IsFor p o → find nat_cmp q es ≡ None → find nat_cmp q (entered o a es) ≡ held o a
met q p None a es e h n = n
met q p (Some x) a es e h n = elim h [
  | inl m ↦ absurd (not_None x m)
  | inr s ↦ ap (λ b. cond b (Some a) (find nat_cmp q es)) (ap (same q) (same_Some x p s) ∙ e)
]

changed_here : {T : Type 0} (q p : ℕ) (o u : Option ℕ) (a c : List (Option T)) (es : Entries T) → IsFor p o → IsFor p u → find nat_cmp p es ≡ None → find nat_cmp q (entered u c es) ≡ cond (same q p) (held u c) (find nat_cmp q (entered o a es))
changed_here q p o u a c es old new none = elim (tied_or_apart q p) [
  | inl t ↦ met q p u c es t.0 new (ap (λ n. find nat_cmp n es) t.1 ∙ none) ∙ sym (ap (λ b. cond b (held u c) (find nat_cmp q (entered o a es))) t.0)
  | inr t ↦ skipped q p u c es t.0 new ∙ (sym (skipped q p o a es t.0 old) ∙ sym (ap (λ b. cond b (held u c) (find nat_cmp q (entered o a es))) t.0))
]

passed : {T : Type 0} (q p : ℕ) (o : Option ℕ) (a : List (Option T)) (es fs : Entries T) (x : Option (List (Option T))) → o ≢ Some p → find nat_cmp q fs ≡ cond (same q p) x (find nat_cmp q es) → find nat_cmp q (entered o a fs) ≡ cond (same q p) x (find nat_cmp q (entered o a es))
passed q p None a es fs x n e = e
passed q p (Some o) a es fs x n e = elim (tied_or_apart q p) [
  | inl t ↦
      (ap (λ b. cond b (Some a) (find nat_cmp q fs)) (apart_is_false q o (λ s. n (ap Some (sym s ∙ t.1)))) ∙ (e ∙ ap (λ b. cond b x (find nat_cmp q es)) t.0))
      ∙ sym (ap (λ b. cond b x (find nat_cmp q (entered (Some o) a es))) t.0)
  | inr t ↦
      ap (cond (same q o) (Some a)) (e ∙ ap (λ b. cond b x (find nat_cmp q es)) t.0)
      ∙ sym (ap (λ b. cond b x (find nat_cmp q (entered (Some o) a es))) t.0)
]

-- A row that was this packet's or free, and still is: the packet's entry is what this row has now, and every other stays.
pub found-set : {T : Type 0} (q p : ℕ) (rows : List (Place T)) (i : ℕ) (r s : Place T) → i < length rows → r ≡ get_or rows i r → OnlyAt p rows i → IsFor p r.pid → IsFor p s.pid → found q (set rows i s) ≡ cond (same q p) (held s.pid s.arrived) (found q rows)
found-set q p [] i r s lt is only old new = absurd (omega (arith, lt))
found-set q p (x ∷ xs) zero r s lt is only old new =
    changed_here q p x.pid s.pid x.arrived s.arrived (opened xs) (subst (λ y. IsFor p y.pid) is old) new (found-absent p xs (λ k d l. only (suc k) d (omega (arith, l)) (λ e. omega (arith, e))))
found-set q p (x ∷ xs) (suc i) r s lt is only old new =
    passed q p x.pid x.arrived (opened xs) (opened (set xs i s)) (held s.pid s.arrived) (only zero x (omega arith) (λ e. omega (arith, e)))
    (found-set q p xs i r s (omega (arith, lt)) is (λ k d l n. only (suc k) d (omega (arith, l)) (λ e. n (omega (arith, e)))) old new)

-- the packet's entry is what its row has
pub found-at : {T : Type 0} (p : ℕ) (rows : List (Place T)) (i : ℕ) (r : Place T) → i < length rows → r ≡ get_or rows i r → OnlyAt p rows i → IsFor p r.pid → found p rows ≡ held r.pid r.arrived
found-at p rows i r lt is only own =
    ap (found p) (sym (ap (set rows i) is ∙ set-get_or rows i r))
    ∙ (found-set p p rows i r r lt is only own own
    ∙ ap (λ b. cond b (held r.pid r.arrived) (found p rows)) (tied_itself p))

-- if rows are each a packet's own, the one at this place is the only one of its packet
pub only_at-from_once : {T : Type 0} (p : ℕ) (rows : List (Place T)) (i : ℕ) → Once rows → i < length rows → HoldsAt (λ r. r.pid ≡ Some p) rows i → OnlyAt p rows i
only_at-from_once p rows i once lt mine k d l n = elim (cases_order k i) [
  | inl e ↦ absurd (n e)
  | inr o ↦ elim o [
    | inl below ↦ λ other. once k i d below lt p other (mine d)
    | inr above ↦ λ other. once i k d above l p (mine d) other
  ]
]

owner : (p q : ℕ) (o : Option ℕ) → IsFor p o → o ≡ Some q → q ≡ p
owner p q o h e = elim h [
  | inl n ↦ absurd (not_None q (sym e ∙ n))
  | inr s ↦ same_Some q p (sym e ∙ s)
]

pub once-set : {T : Type 0} (p : ℕ) (rows : List (Place T)) (i : ℕ) (s : Place T) → i < length rows → Once rows → OnlyAt p rows i → IsFor p s.pid → Once (set rows i s)
once-set p rows i s lt once only new j k d below l q =
    let m : k < length rows = subst (λ n. k < n) (length-set rows i s) l in
    elim (cases_eq j i) [
      | inl e ↦ rw (e, get_or-set_same rows i s d lt, get_or-set_other rows i k s d (λ f. omega (arith, e, f, below))) (λ own. rw (owner p q s.pid new own) (only k d m (λ f. omega (arith, e, f, below))))
      | inr n ↦ elim (cases_eq k i) [
        | inl e ↦ rw (e, get_or-set_same rows i s d lt, get_or-set_other rows i j s d n) (λ other own. only j d (omega (arith, below, m)) n (other ∙ ap Some (owner p q s.pid new own)))
        | inr o ↦ rw (get_or-set_other rows i j s d n, get_or-set_other rows i k s d o) (once j k d below m q)
      ]
    ]

len_entered : {T : Type 0} (o : Option ℕ) (a : List (Option T)) (es : Entries T) → ((p : ℕ) → o ≡ Some p → find nat_cmp p es ≡ None) → len (from_entries {R = nat_cmp} es) ≡ length es → len (from_entries {R = nat_cmp} (entered o a es)) ≡ length (entered o a es)
len_entered None a es none e = e
len_entered (Some p) a es none e =
    len-insert nat_cmp_total (from_entries es) p a
    ∙ (ap (λ v. cond (is_some v) (len (from_entries {R = nat_cmp} es)) (len (from_entries {R = nat_cmp} es) + 1)) (get-from_entries nat_cmp_total es p ∙ none p refl)
    ∙ (ap (λ n. n + 1) e ∙ omega arith))

-- as many packets as rows that aren't free
pub len-opened : {T : Type 0} (rows : List (Place T)) → Once rows → len (from_entries {R = nat_cmp} (opened rows)) ≡ length (opened rows)
len-opened [] once = len-empty nat_cmp _
len-opened (r ∷ rs) once =
    len_entered r.pid r.arrived (opened rs)
    (λ p own. found-absent p rs (λ k d l. once zero (suc k) d (omega arith) (omega (arith, l)) p own))
    (len-opened rs (λ j k d below l. once (suc j) (suc k) d (omega (arith, below)) (omega (arith, l))))

length_entered : {T : Type 0} (o : Option ℕ) (a : List (Option T)) (es : Entries T) → o ≢ None → length (entered o a es) ≡ length es + 1
length_entered None a es n = absurd (n refl)
length_entered (Some p) a es n = omega arith

-- rows that are all free have no owner
pub opened-free : {T : Type 0} (n : ℕ) (a : List (Option T)) → opened (replicate n (record { pid = None; arrived = a })) ≡ []
opened-free zero a = refl
opened-free (suc n) a = opened-free n a
