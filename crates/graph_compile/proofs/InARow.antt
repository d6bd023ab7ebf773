-- The graph of one branch is lawful and full, and copies nothing.
use Rattle.std.proofs.Common.{◌≡◌, ◌∙◌, ℕ, zero, suc, ◌+◌, ◌<◌, ◌≤◌, Bool, true, false, ◌&&◌, ◌||◌, not, List, [], ◌∷◌, length, refl, sym, ap, subst, arith}
use Rattle.std.specs.Prelude.{◌==◌, ◌++◌, Some, nat_le, count_by, slice_get}
use Rattle.std.specs.List.{list_any, list_all, range_with_len}
use Rattle.std.proofs.lemmas.Bool.Decides.{nat_tests}
use Rattle.std.proofs.lemmas.List.FromFn.{length-range_with_len}
use Rattle.packet_fields.specs.declared.field.Field.{Field}
use Rattle.action_profile.specs.FieldSets.{all_fields}
use Rattle.action_profile.specs.Modes.{copies}
use Rattle.action_profile.specs.declared.rights.Profile.{Profile}
use Rattle.graph_compile.specs.declared.graph.Branch.{Branch}
use Rattle.graph_compile.specs.declared.graph.Stage.{Stage}
use Rattle.graph_compile.specs.Facts.{rises, IsLawful, IsFull}
use Rattle.graph_compile.specs.InARow.{row_of, graph_in_a_row, copies_nothing, stage_copies_nothing}
use Rattle.graph_compile.specs.Lawful.{Stands, IsStaged}
use Rattle.graph_compile.specs.Parts.{branch_reads, branch_writes, stage_parts}
use Rattle.graph_compile.specs.Positions.{holds}
use Rattle.graph_compile.specs.Stages.{stage_of}
use Rattle.graph_compile.proofs.Counting.{one_if, count-cons}
use Rattle.graph_compile.proofs.FiveFacts.{lawful-from_staged}
use Rattle.graph_compile.proofs.Making.{IsStaged-finished}
use Rattle.graph_compile.proofs.Touches.{no-copy-spared, unwritten-uncopied}

-- the numbers of a range
pub range-more : (a n : ℕ) → range_with_len a (suc n) ≡ range_with_len a n ++ (a + n) ∷ []
range-more a zero = ap (λ (k : ℕ). k ∷ []) (let same : a ≡ a + 0 = omega arith in same)
range-more a (suc n) = ap (λ (l : List ℕ). a ∷ l) (range-more (a + 1) n ∙ ap (λ (k : ℕ). range_with_len (a + 1) n ++ k ∷ []) (let same : a + 1 + n ≡ a + suc n = omega arith in same))

in-range : (q low n : ℕ) → low ≤ q → q < low + n → list_any (λ x. x == q) (range_with_len low n) ≡ true
in-range q low zero l h = absurd (omega arith)
in-range q low (suc n) l h =
    elim (low == q) as (λ b. (low == q) ≡ b → list_any (λ x. x == q) (range_with_len low (suc n)) ≡ true) [
      | true ↦ λ e. grind arith
      | false ↦ λ e.
          let more : low + 1 ≤ q = grind (arith, nat_tests) in
          let rest = in-range q (low + 1) n more (omega arith) in
          grind arith
    ] refl

range-below : (q low n : ℕ) → list_any (λ x. x == q) (range_with_len low n) ≡ true → q < low + n
range-below q low zero i = cc
range-below q low (suc n) i =
    elim (low == q) as (λ b. (low == q) ≡ b → q < low + suc n) [
      | true ↦ λ e. let same : low ≡ q = grind (arith, nat_tests) in omega arith
      | false ↦ λ e. let rest = range-below q (low + 1) n (grind arith) in omega (arith, rest)
    ] refl

range-rises : (low n : ℕ) → rises low (range_with_len low n) ≡ true
range-rises low zero = refl
range-rises low (suc n) =
    let here : nat_le low low ≡ true = grind (arith, nat_tests) in
    let P : ℕ → Type 0 = λ k. rises k (range_with_len (low + 1) n) ≡ true in
    let rest : rises (suc low) (range_with_len (low + 1) n) ≡ true = subst P (omega arith) (range-rises (low + 1) n) in
    grind arith

-- the row has the positions from the first on
row-stands : (chain : List Profile) (n : ℕ) → Stands chain 1 (1 + n) (row_of n)
row-stands chain zero = record { count = refl; rise = tt; end = tt; once = λ q l h. absurd (omega arith); join = tt }
row-stands chain (suc n) = record {
  count = let many = length-range_with_len 1 (suc n) in omega (arith, many);
  rise = (record { rises = range-rises 1 (suc n) }, tt);
  end = (record { below = λ q i. range-below q 1 (suc n) i }, tt);
  once = λ q l h.
      let held : holds q row ≡ true = in-range q 1 (suc n) l h in
      count-cons (holds q) row [] ∙ ap (λ b. one_if b + 0) held;
  join = (record { joins = λ q r i l h f. in-range q 1 (suc n) l (let below = range-below r 1 (suc n) i in omega (arith, below, h)) }, tt);
}
  where
    row : Branch
    row = record { positions = range_with_len 1 (suc n) }

row-staged : (chain : List Profile) → IsStaged chain 1 (graph_in_a_row chain).stages (suc (length chain))
unfolding IsStaged
row-staged chain =
    let P : ℕ → Type 0 = λ n. IsStaged chain 1 (graph_in_a_row chain).stages n in
    let end : 1 + length chain ≡ suc (length chain) = omega arith in
    subst P end (IsStaged-finished chain [] 1 (1 + length chain) (row_of (length chain)) refl (row-stands chain (length chain)))

pub row-lawful : (chain : List Profile) → IsLawful (graph_in_a_row chain) chain
row-lawful chain = lawful-from_staged (graph_in_a_row chain) chain (row-staged chain)

pub row-full : (chain : List Profile) → IsFull (graph_in_a_row chain)
row-full [] = record { branches = λ i s e. cc; functions = λ i j s b e f. cc }
row-full (p ∷ ps) = record { branches = λ i s e. some i s e; functions = λ i j s b e f. filled i j s b e f }
  where
    row : Branch
    row = record { positions = range_with_len 1 (length (p ∷ ps)) }

    stage : Stage
    stage = stage_of (p ∷ ps) (row ∷ [])

    some : (i : ℕ) (s : Stage) → slice_get (stage ∷ []) i ≡ Some s → 0 < length s.branches
    some zero s e = let same : stage ≡ s = cc in subst (λ (x : Stage). 0 < length x.branches) same (omega arith)
    some (suc i) s e = cc

    filled : (i j : ℕ) (s : Stage) (b : Branch) → slice_get (stage ∷ []) i ≡ Some s → slice_get s.branches j ≡ Some b → 0 < length b.positions
    filled zero zero s b e f =
        let same : stage ≡ s = cc in
        let first : slice_get stage.branches 0 ≡ Some b = subst (λ (x : Stage). slice_get x.branches 0 ≡ Some b) (sym same) f in
        let one : row ≡ b = cc in
        subst (λ (x : Branch). 0 < length x.positions) one (let many = length-range_with_len 1 (suc (length ps)) in omega (arith, many))
    filled zero (suc j) s b e f =
        let same : stage ≡ s = cc in
        let none : slice_get stage.branches (suc j) ≡ Some b = subst (λ (x : Stage). slice_get x.branches (suc j) ≡ Some b) (sym same) f in
        cc
    filled (suc i) j s b e f = cc

-- one branch copies nothing
one-uncopied : (chain : List Profile) (b : Branch) (f : Field) → copies (stage_parts chain (b ∷ [])) f ≡ 0
one-uncopied chain b f =
    elim (branch_writes chain b f) as (λ t. branch_writes chain b f ≡ t → copies (stage_parts chain (b ∷ [])) f ≡ 0) [
      | true ↦ λ e.
          let some : list_any (λ b. branch_writes chain b f) (b ∷ []) ≡ true = grind arith in
          let all = no-copy-spared chain (b ∷ []) f some in
          let one : count_by (λ b. branch_writes chain b f) (b ∷ []) ≡ 1 = count-cons (λ b. branch_writes chain b f) b [] ∙ ap (λ t. one_if t + 0) e in
          let none : list_any (λ b. branch_reads chain b f && not (branch_writes chain b f)) (b ∷ []) ≡ false = rw e (only (branch_reads chain b f)) in
          let no_more = ap one_if none in
          omega (arith, all, one, no_more)
      | false ↦ λ e. unwritten-uncopied chain (b ∷ []) f (let none : list_any (λ b. branch_writes chain b f) (b ∷ []) ≡ false = rw e refl in none)
    ] refl
  where
    only : (a : Bool) → ((a && false) || false) ≡ false
    only true = refl
    only false = refl

all-fields : (p : Field → Bool) → ((f : Field) → p f ≡ true) → (fs : List Field) → list_all p fs ≡ true
all-fields p h [] = refl
all-fields p h (f ∷ fs) = let here = h f in let rest = all-fields p h fs in grind arith

stage-uncopied : (chain : List Profile) (b : Branch) → stage_copies_nothing (stage_of chain (b ∷ [])) ≡ true
stage-uncopied chain b =
    all-fields (λ f. copies (stage_parts chain (b ∷ [])) f == 0) (λ f. let none = one-uncopied chain b f in grind (arith, nat_tests)) all_fields

pub row-uncopied : (chain : List Profile) → copies_nothing (graph_in_a_row chain).stages ≡ true
row-uncopied [] = refl
row-uncopied (p ∷ ps) = let here = stage-uncopied (p ∷ ps) (record { positions = range_with_len 1 (length (p ∷ ps)) }) in rw here refl
