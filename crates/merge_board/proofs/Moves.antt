-- Each step keeps the rule of a board.
use Rattle.std.proofs.Common.{◌≡◌, ◌≢◌, ℕ, zero, suc, ◌+◌, ◌*◌, ◌%◌, ◌^◌, ◌<◌, ◌≤◌, true, false, true≢false, List, [], ◌∷◌, ◌++◌, length, get_or, set, Option, Some, None, refl, sym, ap, ◌∙◌, subst, inl, inr, ⊎_elim, arith, length-set, get_or-set_other, get_or-set_same}
use Rattle.std.proofs.lemmas.List.{set-get_or}
use Rattle.std.proofs.lemmas.Nat.{same_from_place}
use Rattle.std.proofs.lemmas.Nat.Bits.{bit_at_set_same, bit_at_set_other}
use Rattle.std.specs.Int.{bit_at, w64}
use Rattle.std.specs.Int.RustNames.{bit_or}
use mathlib.Core.Option.{none, some, some-ne-none, some-injective}
use mathlib.Core.Option as maybe
use mathlib.Core.Logic.{dite}
use native.Mathlib.Decide.{ℕ_discrete}
use lib.ListN.{get_elem?}
use Rattle.atomic_table.specs.Table.{State, Me, step, rest, Act, keeps, takes, gives, chain, Allows, Valid, homes_after, carried_after, put_back}
use Rattle.atomic_table.proofs.Lists.{at_set, set_here, set_else}
use Rattle.merge_board.proofs.Lists.{at_within, has_here, has_more, has_else, lies_within, all_set?}
use Rattle.merge_board.specs.declared.rule.Sizes.{Sizes}
use Rattle.merge_board.specs.declared.rule.View.{View}
use Rattle.merge_board.specs.Rule.{has, bit, AllSet, IsFit, Cell, Stands, IsBoard}
use Rattle.merge_board.specs.Steps.{shelf, took, announced, AreDue, seen, completed, looked}

-- the word of `q`, if that of `p` became `n`
word_at : (ws : List ℕ) (p n q : ℕ) (F : ℕ → Type 0) → p < length ws → (q ≡ p → F n) → (q ≢ p → F (get_or ws q 0))
    → F (get_or (set ws p n) q 0)
word_at ws p n q F near here there = dite (ℕ_discrete q p)
    (λ e. subst (λ z. F (get_or (set ws p n) z 0)) (sym e) (subst F (sym (get_or-set_same ws p n 0 near)) (here e)))
    (λ e. subst F (sym (get_or-set_other ws p q n 0 e)) (there e))

module _ {T : Type 0} where
  -- a fact about the view at `j` lasts when the view at `id` becomes `w`
  sees : (views : List (View T)) (id j : ℕ) (v w : View T) (P : View T → Type 0) → get_elem? views id ≡ some v
      → (j ≡ id → P v → P w)
      → ((u : View T) × (get_elem? views j ≡ some u) × P u)
      → (u : View T) × (get_elem? (set views id w) j ≡ some u) × P u
  sees views id j v w P at next was = dite (ℕ_discrete j id)
      (λ e. let same : was.0 ≡ v = some-injective was.0 v (sym was.1 ∙ ap (λ z. get_elem? views z) e ∙ at) in
      (w, ap (λ z. get_elem? (set views id w) z) e ∙ set_here views id w (at_within views id v at), next e (subst P same was.2)))
      (λ e. (was.0, set_else views id j w e ∙ was.1, was.2))

module _ {T : Type 0} (fits : T → T → Type 0) (k : Sizes) where
  abbrev St : Type 0
  St = State (Option T) (View T)

  abbrev Homes : Type 0
  Homes = List (maybe.Option (Option T))

  abbrev At : List (View T) → List ℕ → Homes → List (List T) → ℕ → ℕ → Type 0
  At views words homes due b q = Cell fits k due words homes views b q

  -- a cell whose bit and slot stay
  stays : (s : St) (due : List (List T)) (id : ℕ) (v w : View T) (words : List ℕ) (homes : Homes) (b q : ℕ)
      → get_elem? s.views id ≡ some v
      → bit_at (get_or words q 0) b ≡ bit_at (get_or s.words q 0) b
      → get_elem? homes (q * k.branches + b) ≡ get_elem? s.homes (q * k.branches + b)
      → (suc b ≡ id → v.hand ≡ Some q → w.hand ≡ Some q) → (has v.pids q ≡ true → has w.pids q ≡ true)
      → At s.views s.words s.homes due b q → At (set s.views id w) words homes due b q
  stays s due id v w words homes b q at same home hand more (inl x) = inl (same ∙ x.0, home ∙ x.1)
  stays s due id v w words homes b q at same home hand more (inr (inl x)) = inr (inl (same ∙ x.0, sees s.views id (suc b) v w (λ u. u.hand ≡ Some q) at hand x.1))
  stays s due id v w words homes b q at same home hand more (inr (inr (inl x))) = inr (inr (inl (same ∙ x.0, (x.1.0, home ∙ x.1.1, x.1.2))))
  stays s due id v w words homes b q at same home hand more (inr (inr (inr x))) =
      inr (inr (inr (same ∙ x.0, sees s.views id (suc (k.branches + q % k.mergers)) v w (λ u. has u.pids q ≡ true) at (λ _. more) x.1)))

  -- one seat's view and one word change
  moved : (s : St) (r : IsBoard fits k s) (id p n : ℕ) (v w : View T) (homes : Homes) → p < k.pids
      → get_elem? s.views id ≡ some v
      → v.makes ≡ false → w.makes ≡ false → w.role ≡ v.role → w.branches ≡ v.branches → w.due ≡ v.due
      → length homes ≡ length s.homes
      → ((b : ℕ) → b ≢ v.role → bit_at n b ≡ bit_at (get_or s.words p 0) b)
      → ((b : ℕ) → bit_at (get_or s.words p 0) b ≡ 1 → bit_at n b ≡ 1)
      → (v.role < k.branches → (q : ℕ) → q < k.pids → bit_at (get_or (set s.words p n) q 0) v.role ≡ bit (has w.pids q))
      → (k.branches ≤ v.role → (q : ℕ) → q < k.pids → has w.pids q ≡ true → (v.role ≡ k.branches + q % k.mergers) × AllSet k.branches (get_or (set s.words p n) q 0))
      → ((b q : ℕ) → b < k.branches → q < k.pids → At (set s.views id w) (set s.words p n) homes r.due b q)
      → IsBoard fits k record { words = set s.words p n; homes = homes; views = set s.views id w }
  moved s r id p n v w homes near at off idle role sized due long others grow branch merger cells =
      let mine = r.seats id v at in
      let place = mine.plays off in
      let within : p < length s.words = omega (arith, r.wide) in
      let count : length (set s.views id w) ≡ length s.views = length-set s.views id w in
      let here : id < length s.views = at_within s.views id v at in
      record {
        due = r.due;
        wide = length-set s.words p n ∙ r.wide;
        slots = long ∙ r.slots;
        ungiven = λ b q few below left. word_at s.words p n q (λ z. bit_at z b ≡ 0) within
            (λ e. others b (omega (arith, place.0)) ∙ r.ungiven b p few near (omega arith))
            (λ _. r.ungiven b q few below (omega arith));
        cells = cells;
        seats = λ j u e. subst (λ c. Stands fits k r.due (set s.words p n) c j u) (sym count) (⊎_elim
            (λ (x : (j ≡ id) × (w ≡ u)). subst (λ (y : ℕ × View T). Stands fits k r.due (set s.words p n) (length s.views) y.0 y.1) (λ i. (sym x.0 i, x.1 i)) record {
              sized = sized ∙ mine.sized;
              makes = λ yes. absurd (true≢false (sym yes ∙ idle));
              plays = λ _. (place.0 ∙ ap suc (sym role), due ∙ place.1);
              branch = λ _ few q below. ap (λ z. bit_at (get_or (set s.words p n) q 0) z) role ∙ branch (subst (λ z. z < k.branches) role few) q below;
              merger = λ _ many q below got. let g = merger (subst (λ z. k.branches ≤ z) role many) q below got in (role ∙ g.0, g.1);
            })
            (λ (x : (j ≢ id) × (get_elem? s.views j ≡ some u)). let o = r.seats j u x.1 in record {
              sized = o.sized;
              makes = o.makes;
              plays = o.plays;
              branch = λ plays few q below. word_at s.words p n q (λ z. bit_at z u.role ≡ bit (has u.pids q)) within
                  (λ e. others u.role (λ f. x.0 ((o.plays plays).0 ∙ ap suc f ∙ sym place.0)) ∙ ap (λ z. bit_at (get_or s.words z 0) u.role) (sym e) ∙ o.branch plays few q below)
                  (λ _. o.branch plays few q below);
              merger = λ plays many q below got. let g = o.merger plays many q below got in (
                g.0,
                λ b few. word_at s.words p n q (λ z. bit_at z b ≡ 1) within
                    (λ e. grow b (ap (λ z. bit_at (get_or s.words z 0) b) (sym e) ∙ g.1 b few))
                    (λ _. g.1 b few),
              );
            })
            (at_set s.views id j w u e));
      }

  -- the place of a branch that has not put the packet and has nothing in hand
  vacant : (s : St) (r : IsBoard fits k s) (id p : ℕ) (v : View T) → p < k.pids → get_elem? s.views id ≡ some v
      → v.makes ≡ false → v.role < k.branches → v.hand ≡ None → has v.pids p ≡ false
      → At s.views s.words s.homes r.due v.role p → get_elem? s.homes (p * k.branches + v.role) ≡ some (some None)
  vacant s r id p v near at off few free new (inl x) = x.1
  vacant s r id p v near at off few free new (inr (inl x)) =
      let mine = r.seats id v at in
      let same : x.1.0 ≡ v = some-injective x.1.0 v (sym x.1.1 ∙ ap (λ z. get_elem? s.views z) (sym (mine.plays off).0) ∙ at) in
      absurd (cc (x.1.2, ap (λ (u : View T). u.hand) same, free))
  vacant s r id p v near at off few free new (inr (inr (inl x))) = let e = (r.seats id v at).branch off few p near ∙ ap bit new in absurd (omega (arith, x.0, e))
  vacant s r id p v near at off few free new (inr (inr (inr x))) = let e = (r.seats id v at).branch off few p near ∙ ap bit new in absurd (omega (arith, x.0, e))

  pub takes_slot : (n id p : ℕ) (me : Me (Option T) (View T)) → p < k.pids → me.0.makes ≡ false
      → me.0.role < k.branches → me.0.hand ≡ None → has me.0.pids p ≡ false
      → Allows (IsBoard fits k) n id me p (λ x. x) (λ _ m. took (step n p 0 0 none) me m)
  takes_slot n id p me near off few free new s r wide at _ =
      let v : View T = me.0 in
      let b : ℕ = v.role in
      let w : View T = record v { hand = Some p } in
      let i : ℕ = p * k.branches + b in
      let mine = r.seats id v at in
      let home = vacant s r id p v near at off few free new (r.cells b p few near) in
      let none_set : bit_at (get_or s.words p 0) b ≡ 0 = mine.branch off few p near ∙ ap bit new in
      let same : (q : ℕ) → get_or (set s.words p (get_or s.words p 0)) q 0 ≡ get_or s.words q 0 = λ q. ap (λ ws. get_or ws q 0) (set-get_or s.words p 0) in (
        w,
        takes i None,
        home,
        moved s r id p (get_or s.words p 0) v w (set s.homes i none) near at off off refl refl refl (length-set s.homes i none) (λ _ _. refl) (λ _ e. e)
            (λ _ q below. ap (λ z. bit_at z b) (same q) ∙ mine.branch off few q below)
            (λ many q below got. absurd (omega arith))
            (λ a q less below. dite (ℕ_discrete (q * k.branches + a) i)
            (λ e. let pl = same_from_place q a p b k.branches less few e in
            inr (inl (
              ap (λ (y : ℕ × ℕ). bit_at (get_or (set s.words p (get_or s.words p 0)) y.0 0) y.1) (λ j. (pl.0 j, pl.1 j)) ∙ ap (λ z. bit_at z b) (same p) ∙ none_set,
              (w, ap (λ z. get_elem? (set s.views id w) (suc z)) pl.1 ∙ ap (λ z. get_elem? (set s.views id w) z) (sym (mine.plays off).0) ∙ set_here s.views id w (at_within s.views id v at), ap Some (sym pl.0)),
            )))
            (λ e. stays s r.due id v w (set s.words p (get_or s.words p 0)) (set s.homes i none) a q at (ap (λ z. bit_at z a) (same q)) (set_else s.homes i (q * k.branches + a) none e)
            (λ _ h. absurd (cc (h, free))) (λ h. h) (r.cells a q less below))),
        (refl, ap (λ z. (p * z + b, None) ∷ me.1) (sym mine.sized)),
      )

  pub announces_slot : (n id p m : ℕ) (me : Me (Option T) (View T)) (x : T) → p < k.pids → me.0.makes ≡ false
      → me.0.role < k.branches → me.0.role < 64 → me.0.hand ≡ Some p
      → m ≡ 1 * 2 ^ me.0.role % 2 ^ 64 → me.1 ≡ (p * k.branches + me.0.role, Some x) ∷ rest me.1
      → IsFit fits me.0.due me.0.role p x
      → Allows (IsBoard fits k) n id me p (λ y. bit_or y m) (λ _ o. announced (step n p m 0 none) me o)
  announces_slot n id p m me x near off few small holding is has_it fit s r wide at _ =
      let v : View T = me.0 in
      let b : ℕ = v.role in
      let w : View T = record v { pids = p ∷ v.pids; hand = None } in
      let i : ℕ = p * k.branches + b in
      let y : ℕ = get_or s.words p 0 in
      let y' : ℕ = bit_or y m in
      let homes : Homes = put_back s.homes me.1 in
      let back : homes ≡ set s.homes i (some (Some x)) = ap (put_back s.homes) has_it in
      let mine = r.seats id v at in
      let within : p < length s.words = omega (arith, r.wide) in
      let set_bit : bit_at y' b ≡ 1 = ap (λ z. bit_at (bit_or y z) b) is ∙ bit_at_set_same w64 y b small in
      let others : (a : ℕ) → a ≢ b → bit_at y' a ≡ bit_at y a = λ a ne. ap (λ z. bit_at (bit_or y z) a) is ∙ bit_at_set_other w64 y b small a ne in (
        w,
        gives,
        tt,
        moved s r id p y' v w homes near at off off refl refl refl (ap length back ∙ length-set s.homes i (some (Some x))) others
            (λ a e. dite (ℕ_discrete a b) (λ f. ap (bit_at y') f ∙ set_bit) (λ ne. others a ne ∙ e))
            (λ _ q below. word_at s.words p y' q (λ z. bit_at z b ≡ bit (has w.pids q)) within
            (λ e. set_bit ∙ ap bit (sym (ap (has w.pids) e ∙ has_here p v.pids)))
            (λ ne. mine.branch off few q below ∙ ap bit (sym (has_else p q v.pids ne))))
            (λ many q below got. absurd (omega arith))
            (λ a q less below. dite (ℕ_discrete (q * k.branches + a) i)
            (λ e. let pl = same_from_place q a p b k.branches less few e in
            inr (inr (inl (
              ap (λ (z : ℕ × ℕ). bit_at (get_or (set s.words p y') z.0 0) z.1) (λ j. (pl.0 j, pl.1 j)) ∙ ap (λ z. bit_at z b) (get_or-set_same s.words p y' 0 within) ∙ set_bit,
              (
                x,
                ap (get_elem? homes) e ∙ ap (λ h. get_elem? h i) back ∙ set_here s.homes i (some (Some x)) (let h = lies_within p b k.pids k.branches near few in omega (arith, r.slots)),
                subst (λ (z : List (List T) × ℕ × ℕ). IsFit fits z.0 z.1 z.2 x) (λ j. ((mine.plays off).1 j, sym pl.1 j, sym pl.0 j)) fit,
              ),
            ))))
            (λ e. stays s r.due id v w (set s.words p y') homes a q at
            (word_at s.words p y' q (λ z. bit_at z a ≡ bit_at (get_or s.words q 0) a) within
            (λ f. others a (λ g. e (ap (λ (z : ℕ × ℕ). z.0 * k.branches + z.1) (λ j. (f j, g j)))) ∙ ap (λ z. bit_at (get_or s.words z 0) a) (sym f))
            (λ _. refl))
            (ap (λ h. get_elem? h (q * k.branches + a)) back ∙ set_else s.homes i (q * k.branches + a) (some (Some x)) e)
            (λ f h. let g : a ≡ b = omega (arith, f, (mine.plays off).0) in let same : q ≡ p = cc (h, holding) in absurd (e (ap (λ (z : ℕ × ℕ). z.0 * k.branches + z.1) (λ j. (same j, g j)))))
            (has_more p q v.pids)
            (r.cells a q less below))),
        (refl, refl),
      )

  -- the slots of packet `p` from branch `b` on have these values, each of which fits
  abbrev Lies : Homes → List (List T) → ℕ → ℕ → List T → Type 0
  Lies homes due p b [] = Unit {0}
  Lies homes due p b (x ∷ xs) = (get_elem? homes (p * k.branches + b) ≡ some (some (Some x))) × IsFit fits due b p x × Lies homes due p (b + 1) xs

  abbrev grab : ℕ → ℕ → List T → Act (Option T)
  grab base b [] = keeps
  grab base b (x ∷ xs) = chain (grab base (b + 1) xs) (takes (base + b) (Some x))

  grab_else : (homes : Homes) (c : List (ℕ × Option T)) (base b : ℕ) (xs : List T) (j : ℕ)
      → ((a : ℕ) → b ≤ a → a < b + length xs → j ≢ base + a)
      → get_elem? (homes_after homes c (grab base b xs)) j ≡ get_elem? homes j
  grab_else homes c base b [] j apart = refl
  grab_else homes c base b (x ∷ xs) j apart =
      set_else (homes_after homes c (grab base (b + 1) xs)) (base + b) j none (apart b (omega arith) (omega arith))
      ∙ grab_else homes c base (b + 1) xs j (λ a above below. apart a (omega arith) (omega arith))

  length-grab : (homes : Homes) (c : List (ℕ × Option T)) (base b : ℕ) (xs : List T)
      → length (homes_after homes c (grab base b xs)) ≡ length homes
  length-grab homes c base b [] = refl
  length-grab homes c base b (x ∷ xs) = length-set (homes_after homes c (grab base (b + 1) xs)) (base + b) none ∙ length-grab homes c base (b + 1) xs

  grab_carries : (c : List (ℕ × Option T)) (base b : ℕ) (xs : List T)
      → carried_after c (grab base b xs) ≡ shelf base b xs ++ c
  grab_carries c base b [] = refl
  grab_carries c base b (x ∷ xs) = ap (λ l. (base + b, Some x) ∷ l) (grab_carries c base (b + 1) xs)

  grab_valid : (homes : Homes) (due : List (List T)) (c : List (ℕ × Option T)) (p b : ℕ) (xs : List T)
      → Lies homes due p b xs → Valid homes c (grab (p * k.branches) b xs)
  grab_valid homes due c p b [] lies = tt
  grab_valid homes due c p b (x ∷ xs) lies = (
    grab_valid homes due c p (b + 1) xs lies.2,
    grab_else homes c (p * k.branches) (b + 1) xs (p * k.branches + b) (λ a above below e. omega arith) ∙ lies.0,
  )

  lies_due : (homes : Homes) (due : List (List T)) (p b : ℕ) (xs : List T) → Lies homes due p b xs
      → AreDue fits due p b xs
  lies_due homes due p b [] lies = tt
  lies_due homes due p b (x ∷ xs) lies = (lies.1, lies_due homes due p (b + 1) xs lies.2)

  -- what is in the slots of a packet from branch `b` on, if all bits are set
  collect : (homes : Homes) (due : List (List T)) (p m b : ℕ)
      → ((a : ℕ) → a < k.branches → (x : T) × (get_elem? homes (p * k.branches + a) ≡ some (some (Some x))) × IsFit fits due a p x)
      → b + m ≡ k.branches → (xs : List T) × (length xs ≡ m) × Lies homes due p b xs
  collect homes due p zero b filled e = ([], refl, tt)
  collect homes due p (suc m) b filled e =
      let f = filled b (omega arith) in
      let more = collect homes due p m (b + 1) filled (omega arith) in
      (f.0 ∷ more.0, ap suc more.1, (f.1, f.2, more.2))

  -- a cell whose bit is set, of a packet that its merger has not completed
  filled_cell : (s : St) (r : IsBoard fits k s) (id p b : ℕ) (v : View T) → get_elem? s.views id ≡ some v
      → id ≡ suc (k.branches + p % k.mergers) → has v.pids p ≡ false → bit_at (get_or s.words p 0) b ≡ 1
      → At s.views s.words s.homes r.due b p
      → (x : T) × (get_elem? s.homes (p * k.branches + b) ≡ some (some (Some x))) × IsFit fits r.due b p x
  filled_cell s r id p b v at seat new on (inl x) = absurd (omega (arith, x.0, on))
  filled_cell s r id p b v at seat new on (inr (inl x)) = absurd (omega (arith, x.0, on))
  filled_cell s r id p b v at seat new on (inr (inr (inl x))) = x.1
  filled_cell s r id p b v at seat new on (inr (inr (inr x))) =
      let same : x.1.0 ≡ v = some-injective x.1.0 v (sym x.1.1 ∙ ap (λ z. get_elem? s.views z) (sym seat) ∙ at) in
      absurd (true≢false (sym x.1.2 ∙ ap (λ (u : View T). has u.pids p) same ∙ new))

  pub looks_at : (n id p : ℕ) (me : Me (Option T) (View T)) → p < k.pids → me.0.makes ≡ false
      → me.0.role ≡ k.branches + p % k.mergers → has me.0.pids p ≡ false
      → Allows (IsBoard fits k) n id me p (λ x. x) (looked fits (step n p 0 0 none) me)
  looks_at n id p me near off role new s r wide at _ =
      let v : View T = me.0 in
      let y : ℕ = get_or s.words p 0 in
      let mine = r.seats id v at in
      let seat : id ≡ suc (k.branches + p % k.mergers) = (mine.plays off).0 ∙ ap suc role in
      let same : (q : ℕ) → get_or (set s.words p y) q 0 ≡ get_or s.words q 0 = λ q. ap (λ ws. get_or ws q 0) (set-get_or s.words p 0) in
      elim (all_set? k.branches y) [
        | yes all ↦
            let got = collect s.homes r.due p k.branches 0 (λ a few. filled_cell s r id p a v at seat new (all a few) (r.cells a p few near)) (omega arith) in
            let xs : List T = got.0 in
            let base : ℕ = p * k.branches in
            let w : View T = completed v p y xs in
            let homes : Homes = homes_after s.homes me.1 (grab base 0 xs) in (
              w,
              grab base 0 xs,
              grab_valid s.homes r.due me.1 p 0 xs got.2,
              moved s r id p y v w homes near at off off refl refl refl (length-grab s.homes me.1 base 0 xs) (λ _ _. refl) (λ _ e. e)
                  (λ few q below. absurd (omega arith))
                  (λ many q below has_it. dite (ℕ_discrete q p)
                  (λ e. (role ∙ ap (λ z. k.branches + z % k.mergers) (sym e), λ a few. ap (λ z. bit_at z a) (same q ∙ ap (λ z. get_or s.words z 0) e) ∙ all a few))
                  (λ ne. let g = mine.merger off many q below (sym (has_else p q v.pids ne) ∙ has_it) in (g.0, λ a few. ap (λ z. bit_at z a) (same q) ∙ g.1 a few)))
                  (λ a q less below. dite (ℕ_discrete q p)
                  (λ e. inr (inr (inr (
                    ap (λ z. bit_at z a) (same q ∙ ap (λ z. get_or s.words z 0) e) ∙ all a less,
                    (
                      w,
                      ap (λ z. get_elem? (set s.views id w) (suc (k.branches + z % k.mergers))) e ∙ ap (get_elem? (set s.views id w)) (sym seat) ∙ set_here s.views id w (at_within s.views id v at),
                      ap (has w.pids) e ∙ has_here p v.pids,
                    ),
                  ))))
                  (λ ne. stays s r.due id v w (set s.words p y) homes a q at (ap (λ z. bit_at z a) (same q))
                  (grab_else s.homes me.1 base 0 xs (q * k.branches + a) (λ c _ few e. ne (same_from_place q a p c k.branches less (omega (arith, got.1)) e).0))
                  (λ _ h. h) (has_more p q v.pids) (r.cells a q less below))),
              (
                (λ _. record {
                  view = refl;
                  slots = grab_carries me.1 base 0 xs ∙ ap (λ z. shelf (p * z) 0 xs ++ me.1) (sym mine.sized);
                  count = got.1 ∙ sym mine.sized;
                  due = subst (λ d. AreDue fits d p 0 xs) (sym (mine.plays off).1) (lies_due s.homes r.due p 0 xs got.2);
                }),
                (λ out. absurd (out (subst (λ z. AllSet z y) (sym mine.sized) all))),
              ),
            )
        | no lacks ↦
            let w : View T = seen v p y in (
              w,
              keeps,
              tt,
              moved s r id p y v w s.homes near at off off refl refl refl refl (λ _ _. refl) (λ _ e. e)
                  (λ few q below. absurd (omega arith))
                  (λ many q below has_it. let g = mine.merger off many q below has_it in (g.0, λ a few. ap (λ z. bit_at z a) (same q) ∙ g.1 a few))
                  (λ a q less below. stays s r.due id v w (set s.words p y) s.homes a q at (ap (λ z. bit_at z a) (same q)) refl (λ _ h. h) (λ h. h) (r.cells a q less below)),
              ((λ all. absurd (lacks (subst (λ z. AllSet z y) mine.sized all))), (λ _. (refl, refl))),
            )
      ]
