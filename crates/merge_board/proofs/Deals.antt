-- A board begins empty, and its seats are given out one after another.
use Rattle.std.proofs.Common.{◌≡◌, ◌≢◌, ◌⊎◌, ℕ, zero, suc, ◌+◌, ◌*◌, ◌%◌, ◌<◌, true, true≢false, List, [], ◌∷◌, ◌++◌, length, get_or, set, replicate, Option, Some, None, refl, sym, ap, ◌∙◌, subst, inl, inr, ⊎_elim, arith, length-set, length-append}
use Rattle.std.proofs.lemmas.List.{get_or-replicate, length-replicate, length-map}
use Rattle.std.proofs.lemmas.Nat.Bits.{bit_at-zero}
use Rattle.std.specs.Int.{bit_at}
use mathlib.Core.Option.{none, some, some-ne-none, some-injective}
use mathlib.Core.Option as maybe
use lib.ListN.{get_elem?}
use Rattle.atomic_table.specs.Table.{State, Splits, opening}
use Rattle.atomic_table.proofs.Lists.{at_set, set_else, at_longer}
use Rattle.merge_board.proofs.Lists.{at_within, at_end, lies_within, nones_home}
use Rattle.merge_board.specs.declared.rule.Sizes.{Sizes}
use Rattle.merge_board.specs.declared.rule.View.{View}
use Rattle.merge_board.specs.Rule.{has, maker, seated, HasDealt, Cell, Stands, IsBoard}

module _ {T : Type 0} (fits : T → T → Type 0) (k : Sizes) where
  -- before the first seat is given out, it is open what is due
  rechosen : (s : State (Option T) (View T)) (r : IsBoard fits k s) (id : ℕ) (v : View T) (due : List (List T))
      → get_elem? s.views id ≡ some v → v.makes ≡ true → (v.role ≡ 0) ⊎ (v.due ≡ due)
      → (t : IsBoard fits k s) × (t.due ≡ due)
  rechosen s r id v due at deal one =
      let m = (r.seats id v at).makes deal in
      ⊎_elim
      (λ (none_given : v.role ≡ 0). fresh none_given m.0 m.1)
      (λ (same : v.due ≡ due). ⊎_elim (λ (none_given : v.role ≡ 0). fresh none_given m.0 m.1) (λ (is : v.due ≡ r.due). (r, sym is ∙ same)) m.2)
      one
    where
      fresh : v.role ≡ 0 → id ≡ 0 → length s.views ≡ suc v.role → (t : IsBoard fits k s) × (t.due ≡ due)
      fresh none_given first count = (
        record {
          due = due;
          wide = r.wide;
          slots = r.slots;
          ungiven = r.ungiven;
          cells = λ b p few near. let off : bit_at (get_or s.words p 0) b ≡ 0 = r.ungiven b p few near (omega arith) in empty b p off (r.cells b p few near);
          seats = λ j u e. let o = r.seats j u e in let here = at_within s.views j u e in record {
            sized = o.sized;
            makes = λ y. let q = o.makes y in (q.0, q.1, inl (omega (arith, q.1)));
            plays = λ n. absurd (omega (arith, (o.plays n).0));
            branch = o.branch;
            merger = o.merger;
          };
        },
        refl,
      )
        where
          empty : (b p : ℕ) → bit_at (get_or s.words p 0) b ≡ 0 → Cell fits k r.due s.words s.homes s.views b p
              → Cell fits k due s.words s.homes s.views b p
          empty b p off (inl x) = inl x
          empty b p off (inr (inl x)) = inr (inl x)
          empty b p off (inr (inr (inl x))) = absurd (omega (arith, x.0))
          empty b p off (inr (inr (inr x))) = absurd (omega (arith, x.0))

  later : (views : List (View T)) (id j : ℕ) (left right : View T) (P : View T → Type 0) → j ≢ id
      → ((u : View T) × (get_elem? views j ≡ some u) × P u)
      → (u : View T) × (get_elem? (set views id left ++ right ∷ []) j ≡ some u) × P u
  later views id j left right P ne x = (x.0, at_longer (set views id left) (right ∷ []) j x.0 (set_else views id j left ne ∙ x.1), x.2)

  cell_lasts : (s : State (Option T) (View T)) (due : List (List T)) (left right : View T) (b p : ℕ)
      → Cell fits k due s.words s.homes s.views b p
      → Cell fits k due s.words s.homes (set s.views 0 left ++ right ∷ []) b p
  cell_lasts s due left right b p (inl x) = inl x
  cell_lasts s due left right b p (inr (inl x)) = inr (inl (x.0, later s.views 0 (suc b) left right (λ u. u.hand ≡ Some p) (λ e. omega arith) x.1))
  cell_lasts s due left right b p (inr (inr (inl x))) = inr (inr (inl x))
  cell_lasts s due left right b p (inr (inr (inr x))) = inr (inr (inr (x.0, later s.views 0 (suc (k.branches + p % k.mergers)) left right (λ u. has u.pids p ≡ true) (λ e. omega arith) x.1)))

  pub deals : (id branches given : ℕ) (v : View T) (due : List (List T)) → HasDealt branches given due v
      → Splits (IsBoard fits k) id v (maker v.branches (v.role + 1) due) (seated v.branches v.role due)
  deals id branches given v due dealt s was at =
      let found = rechosen s was id v due at dealt.makes (⊎_elim (λ (e : given ≡ 0). inl (dealt.count ∙ e)) (λ (e : v.due ≡ due). inr e) dealt.chosen) in
      let r = found.0 in
      let mine = r.seats id v at in
      let m = mine.makes dealt.makes in
      let left : View T = maker v.branches (v.role + 1) due in
      let right : View T = seated v.branches v.role due in
      let views : List (View T) = set s.views id left in
      let count : length (views ++ right ∷ []) ≡ suc (length s.views) = omega (arith, length-append views (right ∷ []), length-set s.views id left) in
      record {
        due = r.due;
        wide = r.wide;
        slots = r.slots;
        ungiven = λ b p few near long. r.ungiven b p few near (omega arith);
        cells = λ b p few near. subst (λ z. Cell fits k r.due s.words s.homes (set s.views z left ++ right ∷ []) b p) (sym m.0) (cell_lasts s r.due left right b p (r.cells b p few near));
        seats = λ j u e. subst (λ c. Stands fits k r.due s.words c j u) (sym count) (⊎_elim
            (λ (x : get_elem? views j ≡ some u). ⊎_elim
            (λ (y : (j ≡ id) × (left ≡ u)). subst (λ (z : ℕ × View T). Stands fits k r.due s.words (suc (length s.views)) z.0 z.1) (λ i. (sym y.0 i, y.1 i)) record {
              sized = mine.sized;
              makes = λ _. (m.0, omega (arith, m.1), inr (sym found.1));
              plays = λ n. absurd (true≢false n);
              branch = λ n. absurd (true≢false n);
              merger = λ n. absurd (true≢false n);
            })
            (λ (y : (j ≢ id) × (get_elem? s.views j ≡ some u)). let o = r.seats j u y.1 in record {
              sized = o.sized;
              makes = λ f. absurd (y.0 ((o.makes f).0 ∙ sym m.0));
              plays = o.plays;
              branch = o.branch;
              merger = o.merger;
            })
            (at_set s.views id j left u x))
            (λ (x : (j ≡ length views) × (right ≡ u)). subst (λ (z : ℕ × View T). Stands fits k r.due s.words (suc (length s.views)) z.0 z.1) (λ i. (sym x.0 i, x.1 i)) record {
              sized = mine.sized;
              makes = λ y. absurd (true≢false (sym y));
              plays = λ _. (length-set s.views id left ∙ m.1, sym found.1);
              branch = λ _ few p near. r.ungiven v.role p few near (omega (arith, m.1));
              merger = λ _ _ p near has_it. absurd (true≢false (sym has_it));
            })
            (at_end views right u j e));
      }

  pub opens : IsBoard fits k (opening (replicate k.pids 0) (replicate (k.pids * k.branches) None) (maker k.branches 0 []))
  opens = record {
    due = [];
    wide = length-replicate k.pids 0;
    slots = (let home : Option T → maybe.Option (Option T) = λ x. some x in length-map (replicate (k.pids * k.branches) None) home) ∙ length-replicate (k.pids * k.branches) None;
    ungiven = λ b p few near _. clear b p near;
    cells = λ b p few near. inl (clear b p near, nones_home (k.pids * k.branches) (p * k.branches + b) (lies_within p b k.pids k.branches near few));
    seats = one;
  }
    where
      clear : (b p : ℕ) → p < k.pids → bit_at (get_or (replicate k.pids 0) p 0) b ≡ 0
      clear b p near = ap (λ z. bit_at z b) (get_or-replicate k.pids p 0 0 near) ∙ bit_at-zero b

      one : (j : ℕ) (v : View T) → get_elem? (maker k.branches 0 [] ∷ []) j ≡ some v
          → Stands fits k [] (replicate k.pids 0) 1 j v
      one zero v e = subst (Stands fits k [] (replicate k.pids 0) 1 0) (some-injective _ _ e) record {
        sized = refl;
        makes = λ _. (refl, refl, inl refl);
        plays = λ n. absurd (true≢false n);
        branch = λ n. absurd (true≢false n);
        merger = λ n. absurd (true≢false n);
      }
      one (suc j) v e = absurd (some-ne-none v (sym e))
