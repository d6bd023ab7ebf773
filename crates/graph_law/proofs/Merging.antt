-- The merge of arrivals that fit the end of a walk is that end.
use Rattle.std.proofs.Common.{◌≡◌, ◌≢◌, ◌<◌, ◌≤◌, ◌+◌, ◌∙◌, ℕ, List, ◌∷◌, [], length, sym, ap, refl, arith, Bool, true, false, Some, None, inl, inr, min, ltb-true, ltb-false}
use Rattle.std.specs.Prelude.{Option, ◌⊎◌, nat_lt}
use Rattle.packet_fields.specs.declared.field.Field.{Field}
use Rattle.chain_walk.specs.FieldWalk.{End, End.Out, End.Gone}
use Rattle.chain_walk.specs.Shown.{Values}
use Rattle.graph_law.specs.Branches.{Version, BranchEnd, BranchEnd.Live, BranchEnd.Nil}
use Rattle.graph_law.specs.Merging.{least_nil, lesser, later, latest, unwritten, gone_or, merged}
use Rattle.graph_law.proofs.Meets.{Meets}
use Rattle.graph_law.proofs.Near.{Same}
use Rattle.graph_law.proofs.Sides.{is_or_not}

-- the arrivals of the branches from c on
unfoldable pub AllMeet : (ℕ → ℕ) → ℕ → End → (Field → ℕ) → List BranchEnd → Type 0
AllMeet side c end last [] = Unit {0}
AllMeet side c end last (a ∷ rest) = Meets side c end last a × AllMeet side (c + 1) end last rest

none_nil : (side : ℕ → ℕ) (c : ℕ) (values : Values) (last : Field → ℕ) (rest : List BranchEnd) → AllMeet side c (Out values) last rest → least_nil rest ≡ None
unfolding AllMeet least_nil
none_nil side c values last [] h = refl
none_nil side c values last (Live v ∷ rest) h = none_nil side (c + 1) values last rest h.1
none_nil side c values last (Nil q ∷ rest) h = absurd h.0

-- no drop before `p`
data NotBefore (p : ℕ) : Option ℕ → Type 0 where
  nobody : NotBefore p None
  somebody : (q : ℕ) → p ≤ q → NotBefore p (Some q)

not_before : (side : ℕ → ℕ) (c p : ℕ) (last : Field → ℕ) (rest : List BranchEnd) → AllMeet side c (Gone p) last rest → NotBefore p (least_nil rest)
unfolding AllMeet least_nil
not_before side c p last [] h = nobody
not_before side c p last (Live v ∷ rest) h = not_before side (c + 1) p last rest h.1
not_before side c p last (Nil q ∷ rest) h = go (least_nil rest) (not_before side (c + 1) p last rest h.1)
  where
    go : (o : Option ℕ) → NotBefore p o → NotBefore p (lesser q o)
    go None nobody = somebody q h.0.0
    go (Some r) (somebody _ l) = somebody (min q r) (let k = h.0.0 in omega arith)

least_here : (p : ℕ) (o : Option ℕ) → NotBefore p o → lesser p o ≡ Some p
least_here p None nobody = refl
least_here p (Some r) (somebody _ l) = ap Some (omega arith)

least_more : (p q : ℕ) (o : Option ℕ) → p ≤ q → o ≡ Some p → lesser q o ≡ Some p
least_more p q None l e = absurd cc
least_more p q (Some r) l e = ap Some (let x : r ≡ p = grind arith in omega arith)

the_nil : (side : ℕ → ℕ) (c p : ℕ) (last : Field → ℕ) (rest : List BranchEnd) → AllMeet side c (Gone p) last rest → c ≤ side p → side p < c + length rest → least_nil rest ≡ Some p
unfolding AllMeet least_nil
the_nil side c p last [] h low high = absurd (omega arith)
the_nil side c p last (a ∷ rest) h low high = go a h.0 (is_or_not (side p) c) (not_before side (c + 1) p last rest h.1) (λ l. the_nil side (c + 1) p last rest h.1 l (omega arith))
  where
    go : (a : BranchEnd) → Meets side c (Gone p) last a → (side p ≡ c) ⊎ (side p ≢ c) → NotBefore p (least_nil rest) → (c + 1 ≤ side p → least_nil rest ≡ Some p) → least_nil (a ∷ rest) ≡ Some p
    go (Live v) meet (inl e) nb ih = absurd (meet e)
    go (Live v) meet (inr ne) nb ih = ih (omega arith)
    go (Nil q) meet (inl e) nb ih = ap (λ y. lesser y (least_nil rest)) (meet.1 e) ∙ least_here p (least_nil rest) nb
    go (Nil q) meet (inr ne) nb ih = least_more p q (least_nil rest) meet.0 (ih (omega arith))

-- What was merged so far, and the walk's value of x, while the arrivals of n branches from c on are to come.
record Best (side : ℕ → ℕ) (c n : ℕ) (values : Values) (last : Field → ℕ) (x : Field) (best : Version) : Type 0 where
  below : best.writers x ≤ last x
  same : best.writers x ≡ last x → best.values x ≡ values x
  comes : (best.writers x ≡ last x) ⊎ ((0 < last x) × (c ≤ side (last x)) × (side (last x) < c + n))

best_more : (side : ℕ → ℕ) (c n : ℕ) (values : Values) (last : Field → ℕ) (x : Field) (best v : Version) → Best side c (n + 1) values last x best → Same side c values last v → Best side (c + 1) n values last x (later best v)
best_more side c n values last x best v h s = go (nat_lt (best.writers x) (v.writers x)) refl
  where
    go : (d : Bool) → nat_lt (best.writers x) (v.writers x) ≡ d → Best side (c + 1) n values last x (later best v)
    go true is =
        let lt : best.writers x < v.writers x = ltb-true _ _ is in
        let under : v.writers x ≤ last x = s.below x in
        record {
          below = rw is under;
          same = rw is (λ e. s.same x e (omega arith));
          comes = rw is (elim (is_or_not (side (last x)) c) [ inl e ↦ inl (s.mine x (omega arith) e) | inr ne ↦ elim h.comes [ inl e ↦ absurd (omega arith) | inr w ↦ inr (w.0, let l = w.1 in omega arith, let l = w.2 in omega arith) ] ]);
        }
    go false is =
        let le : v.writers x ≤ best.writers x = ltb-false _ _ is in
        let under : best.writers x ≤ last x = h.below in
        record {
          below = rw is under;
          same = rw is h.same;
          comes = rw is (elim h.comes [ inl e ↦ inl e | inr w ↦ elim (is_or_not (side (last x)) c) [ inl e ↦ inl (let y : v.writers x ≡ last x = s.mine x w.0 e in omega arith) | inr ne ↦ inr (w.0, let l = w.1 in omega arith, let l = w.2 in omega arith) ] ]);
        }

best_at_end : (side : ℕ → ℕ) (c : ℕ) (values : Values) (last : Field → ℕ) (x : Field) (best : Version) (rest : List BranchEnd) → Best side c (length rest) values last x best → AllMeet side c (Out values) last rest → (latest best rest).values x ≡ values x
unfolding AllMeet latest
best_at_end side c values last x best [] h all = h.same (elim h.comes [ inl e ↦ e | inr w ↦ absurd (let a = w.1 in let k = w.2 in omega arith) ])
best_at_end side c values last x best (Live v ∷ rest) h all = best_at_end side (c + 1) values last x (later best v) rest (best_more side c (length rest) values last x best v (rw (← one_more) h) all.0) all.1
  where
    one_more : length (Live v ∷ rest) ≡ length rest + 1
    one_more = omega arith
best_at_end side c values last x best (Nil q ∷ rest) h all = absurd all.0

-- all arrivals fit the end of the walk, and a field that no function wrote is unchanged
pub merged_fits : (side : ℕ → ℕ) (values : Values) (end : End) (last : Field → ℕ) (rest : List BranchEnd) → ((p : ℕ) → end ≡ Gone p → side p < length rest) → ((x : Field) → 0 < last x → side (last x) < length rest) →
    AllMeet side 0 end last rest → ((after : Values) → end ≡ Out after → (x : Field) → last x ≡ 0 → after x ≡ values x) → merged values rest ≡ end
unfolding merged gone_or
merged_fits side values (Gone p) last rest dropped wrote all kept = rw (the_nil side 0 p last rest all (omega arith) (let l = dropped p refl in omega arith)) refl
merged_fits side values (Out after) last rest dropped wrote all kept = rw (none_nil side 0 after last rest all) (λ i. Out (λ x. best_at_end side 0 after last x (unwritten values) rest (begins x) all i))
  where
    begins : (x : Field) → Best side 0 (length rest) after last x (unwritten values)
    begins x = record {
      below = omega arith;
      same = λ e. sym (kept after refl x (sym e));
      comes = elim (is_or_not (last x) 0) [ inl e ↦ inl (sym e) | inr ne ↦ inr (omega arith, omega arith, let l = wrote x (omega arith) in omega arith) ];
    }
