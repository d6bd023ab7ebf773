-- The links of a table without packets: each row is free, the last one first.
use Rattle.std.proofs.Common.{◌≡◌, ℕ, ◌+◌, ◌<◌, ◌≤◌, zero, suc, List, [], ◌∷◌, ◌++◌, length, get_or, replicate, Option, Some, None, refl, sym, ap, ◌∙◌, subst, arith, add-one}
use Rattle.std.proofs.lemmas.List.{get_or_push, length-replicate, length_push}
use Rattle.acc_table.specs.Arrivals.{heads_for}
use Rattle.acc_table.specs.Links.{none, IsChain, AreLinked, one_in, one_taken}
use Rattle.acc_table.proofs.Linking.{frame_push}
use Rattle.acc_table.proofs.Counting.{none_in}
use Rattle.acc_table.proofs.Finding.{not_None}

abbrev pub down : ℕ → List ℕ
down zero = []
down (suc n) = n ∷ down n

length-down : (n : ℕ) → length (down n) ≡ n
length-down zero = refl
length-down (suc n) = ap suc (length-down n)

-- this number of places is linked
pub record Linked (nexts : List ℕ) (free n : ℕ) : Type 0 where
  pub chain : IsChain nexts free (down n)
  pub length : length nexts ≡ n

pub linked_more : (nexts more : List ℕ) (free n : ℕ) → Linked nexts free n → more ≡ nexts ++ free ∷ [] → Linked more n (n + 1)
linked_more nexts more free n k e =
    let chain : IsChain (nexts ++ free ∷ []) n (n ∷ down n) = (
      refl,
      omega (arith, k.length, length_push nexts free),
      subst (λ y. IsChain (nexts ++ free ∷ []) y (down n)) (sym (get_or_push nexts free none n k.length)) (frame_push nexts free (down n) free k.chain),
    ) in
    record {
      chain = subst (λ xs. IsChain more n xs) (ap down (sym (add-one n))) (subst (λ ns. IsChain ns n (n ∷ down n)) (sym e) chain);
      length = ap length e ∙ (length_push nexts free ∙ ap (λ m. m + 1) k.length);
    }

free_at : (n i : ℕ) → get_or {A = Option ℕ} (replicate n None) i None ≡ None
free_at zero i = refl
free_at (suc n) zero = refl
free_at (suc n) (suc i) = free_at n i

none_owned : (n i p : ℕ) → get_or (replicate n None) i None ≡ Some p → ⊥
none_owned n i p e = not_None p (sym e ∙ free_at n i)

no_head : (n b : ℕ) → get_or (replicate n none) b none ≡ none
no_head zero b = refl
no_head (suc n) zero = refl
no_head (suc n) (suc b) = no_head n b

pub begun : (n heads free : ℕ) (nexts : List ℕ) → n ≤ 65536 → 0 < heads → heads ≡ heads_for n → Linked nexts free n → AreLinked (heads_for n) (replicate n None) (record { nexts = nexts; heads = replicate heads none; free = free; taken = 0 })
begun n heads free nexts few some e k = record {
  chain = λ _. [];
  spare = down n;
  some_buckets = subst (λ m. 0 < m) e some;
  few = omega (arith, few, length-replicate {A = Option ℕ} n None);
  places = k.length ∙ sym (length-replicate n None);
  width = length-replicate heads none ∙ e;
  chains = λ b. no_head heads b;
  frees = k.chain;
  owned = λ b i a. absurd a;
  kept = λ i p own. absurd (none_owned n i p own);
  unowned = λ i a. free_at n i;
  counts = λ b. sym (none_in (one_in (heads_for n) b) n refl);
  spares = omega (arith, length-down n, length-replicate {A = Option ℕ} n None);
  all = sym (none_in one_taken n refl);
}
