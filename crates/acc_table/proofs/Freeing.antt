-- A row is taken out of its packet's bucket, and put first into the free list.
use Rattle.std.proofs.Common.{◌≡◌, ◌≢◌, ℕ, ◌-◌, ◌%◌, ◌<◌, ◌≤◌, inl, inr, cond, List, ◌∷◌, length, get_or, set, Option, Some, None, refl, sym, ap, ◌∙◌, subst, arith, eqb}
use Rattle.std.proofs.lemmas.Bool.{cases_eq}
use Rattle.std.proofs.lemmas.Option.{same_Some}
use Rattle.std.proofs.lemmas.List.{get_or-set_same, get_or-set_other, length-set}
use Rattle.std.specs.List.{sum_by}
use Rattle.acc_table.specs.Links.{none, IsChain, Among, AreLinked, PlainLinks, IsBefore, IsIn, freeing, unlinking, one_in}
use Rattle.acc_table.proofs.Linking.{at_bucket, frame, gone, without, among_without, without_among, length-without, unlinked_first, unlinked_behind}
use Rattle.acc_table.proofs.Counting.{hit, miss, one_less_in, one_less_taken, sum_within, one_in_le}
use Rattle.acc_table.proofs.Finding.{not_None}

-- this row is the packet's
pub record IsTaken (m : ℕ) (os : List (Option ℕ)) (l : PlainLinks) (p i : ℕ) : Type 0 where
  pub within : i < length os
  pub own : get_or os i None ≡ Some p
  pub in_heads : p % m < length l.heads

abbrev pub freed : PlainLinks → ℕ → ℕ → Option ℕ → PlainLinks
freed l b i before = record (freeing (unlinking l b i before) i) { taken = l.taken - 1 }

pub length-unlinking : (l : PlainLinks) (b i : ℕ) (before : Option ℕ) → length (unlinking l b i before).nexts ≡ length l.nexts
length-unlinking l b i None = refl
length-unlinking l b i (Some before) = length-set l.nexts before (get_or l.nexts i none)

abbrev chain_freeing : (ℕ → List ℕ) → ℕ → ℕ → ℕ → List ℕ
chain_freeing chain b i c = cond (eqb c b) (without i (chain b)) (chain c)

module _ (m : ℕ) (os : List (Option ℕ)) (l : PlainLinks) (k : AreLinked m os l) (p i : ℕ) (t : IsTaken m os l p i) where
  few : length l.nexts ≤ 65536
  few = omega (arith, k.few, k.places)

  in_nexts : i < length l.nexts
  in_nexts = omega (arith, t.within, k.places)

  in_chain : Among i (k.chain (p % m))
  in_chain = k.kept i p t.own

  pub is_in : IsIn l (p % m) i
  is_in = record {
    chain = k.chain (p % m);
    is = k.chains (p % m);
    short = omega (arith, k.counts (p % m), sum_within (one_in m (p % m)) os (one_in_le m (p % m)), k.places);
    few = few;
    among = in_chain;
  }

  pub some_taken : 0 < l.taken
  some_taken = omega (arith, k.all, one_less_taken p i os t.within t.own)

  one_bucket : (j c d : ℕ) → Among j (k.chain c) → Among j (k.chain d) → c ≡ d
  one_bucket j c d a e =
      let o = k.owned c j a in
      let q = k.owned d j e in
      sym o.2 ∙ (ap (λ z. z % m) (same_Some o.0 q.0 (sym o.1 ∙ q.1)) ∙ q.2)

  not_spare : (j c : ℕ) → Among j (k.chain c) → Among j k.spare → ⊥
  not_spare j c a e = let o = k.owned c j a in not_None o.0 (sym o.1 ∙ k.unowned j e)

  unlinked : (before : Option ℕ) → IsBefore l (p % m) i before → (c : ℕ) → IsChain (unlinking l (p % m) i before).nexts (get_or (unlinking l (p % m) i before).heads c none) (chain_freeing k.chain (p % m) i c)
  unlinked None is c =
      let b : ℕ = p % m in
      let v : ℕ = get_or l.nexts i none in
      at_bucket (λ xs. IsChain l.nexts (get_or (set l.heads b v) c none) xs) c b (without i (k.chain b)) (k.chain c)
      (λ e. subst (λ y. IsChain l.nexts y (without i (k.chain b))) (sym (ap (λ z. get_or (set l.heads b v) z none) e ∙ get_or-set_same l.heads b v none t.in_heads))
      (unlinked_first l.nexts (get_or l.heads b none) (k.chain b) i few (k.chains b) in_chain is))
      (λ n. subst (λ y. IsChain l.nexts y (k.chain c)) (sym (get_or-set_other l.heads b c v none n)) (k.chains c))
  unlinked (Some before) is c =
      let b : ℕ = p % m in
      let v : ℕ = get_or l.nexts i none in
      let a : Among before (k.chain b) = is.2 (k.chain b) (k.chains b) in
      at_bucket (λ xs. IsChain (set l.nexts before v) (get_or l.heads c none) xs) c b (without i (k.chain b)) (k.chain c)
      (λ e. subst (λ y. IsChain (set l.nexts before v) y (without i (k.chain b))) (ap (λ z. get_or l.heads z none) (sym e))
      (unlinked_behind l.nexts (get_or l.heads b none) (k.chain b) i before few (k.chains b) a is.1 in_nexts))
      (λ n. frame l.nexts (get_or l.heads c none) (k.chain c) before v (k.chains c) (λ r. n (one_bucket before c b r a)))

  spare_stays : (before : Option ℕ) → IsBefore l (p % m) i before → IsChain (unlinking l (p % m) i before).nexts l.free k.spare
  spare_stays None is = k.frees
  spare_stays (Some before) is = frame l.nexts l.free k.spare before (get_or l.nexts i none) k.frees (λ r. not_spare before (p % m) (is.2 (k.chain (p % m)) (k.chains (p % m))) r)

  width-unlinked : (before : Option ℕ) → length (unlinking l (p % m) i before).heads ≡ length l.heads
  width-unlinked None = length-set l.heads (p % m) (get_or l.nexts i none)
  width-unlinked (Some before) = refl

  free-unlinked : (before : Option ℕ) → (unlinking l (p % m) i before).free ≡ l.free
  free-unlinked None = refl
  free-unlinked (Some before) = refl

  left : (c j : ℕ) → Among j (chain_freeing k.chain (p % m) i c) → Among j (k.chain c) × (j ≢ i)
  left c j a =
      at_bucket (λ xs. Among j xs → Among j (k.chain c) × (j ≢ i)) c (p % m) (without i (k.chain (p % m))) (k.chain c)
      (λ e r. (
        subst (λ d. Among j (k.chain d)) (sym e) (among_without i j (k.chain (p % m)) r),
        λ f. gone l.nexts (get_or l.heads (p % m) none) (k.chain (p % m)) i few (k.chains (p % m)) (subst (λ z. Among z (without i (k.chain (p % m)))) f r),
      ))
      (λ n r. (r, λ f. n (one_bucket i c (p % m) (subst (λ z. Among z (k.chain c)) f r) in_chain)))
      a

  module _ (before : Option ℕ) (is : IsBefore l (p % m) i before) where
    chains : (c : ℕ) → IsChain (freed l (p % m) i before).nexts (get_or (freed l (p % m) i before).heads c none) (chain_freeing k.chain (p % m) i c)
    chains c =
        frame (unlinking l (p % m) i before).nexts (get_or (unlinking l (p % m) i before).heads c none) (chain_freeing k.chain (p % m) i c) i (unlinking l (p % m) i before).free (unlinked before is c) (λ a. (left c i a).1 refl)

    frees : IsChain (freed l (p % m) i before).nexts i (i ∷ k.spare)
    frees =
        let nexts : List ℕ = (unlinking l (p % m) i before).nexts in
        let free : ℕ = (unlinking l (p % m) i before).free in
        let lt : i < length nexts = omega (arith, in_nexts, length-unlinking l (p % m) i before) in (
          refl,
          omega (arith, lt, length-set nexts i free),
          subst (λ y. IsChain (set nexts i free) y k.spare) (sym (get_or-set_same nexts i free none lt ∙ free-unlinked before))
              (frame nexts l.free k.spare i free (spare_stays before is) (λ a. not_spare i (p % m) in_chain a)),
        )

    owned : (c j : ℕ) → Among j (chain_freeing k.chain (p % m) i c) → (q : ℕ) × (get_or (set os i None) j None ≡ Some q) × (q % m ≡ c)
    owned c j a =
        let r = left c j a in
        let o = k.owned c j r.0 in
        (o.0, get_or-set_other os i j None None r.1 ∙ o.1, o.2)

    kept : (j q : ℕ) → get_or (set os i None) j None ≡ Some q → Among j (chain_freeing k.chain (p % m) i (q % m))
    kept j q e = elim (cases_eq j i) [
      | inl here ↦ absurd (not_None q (sym e ∙ (ap (λ z. get_or (set os i None) z None) here ∙ get_or-set_same os i None None t.within)))
      | inr there ↦
          let old : Among j (k.chain (q % m)) = k.kept j q (sym (get_or-set_other os i j None None there) ∙ e) in
          at_bucket (Among j) (q % m) (p % m) (without i (k.chain (p % m))) (k.chain (q % m))
          (λ g. without_among i j (k.chain (p % m)) (subst (λ c. Among j (k.chain c)) g old) there)
          (λ _. old)
    ]

    unowned : (j : ℕ) → Among j (i ∷ k.spare) → get_or (set os i None) j None ≡ None
    unowned j a = elim (cases_eq j i) [
      | inl here ↦ ap (λ z. get_or (set os i None) z None) here ∙ get_or-set_same os i None None t.within
      | inr there ↦ get_or-set_other os i j None None there ∙ elim a [ inl e ↦ absurd (there e) | inr r ↦ k.unowned j r ]
    ]

    counts : (c : ℕ) → length (chain_freeing k.chain (p % m) i c) ≡ sum_by (one_in m c) (set os i None)
    counts c =
        let less = one_less_in m c p i os t.within t.own in
        at_bucket (λ xs. length xs ≡ sum_by (one_in m c) (set os i None)) c (p % m) (without i (k.chain (p % m))) (k.chain c)
        (λ e. omega (arith, ap (λ d. length (k.chain d)) e, k.counts c, less, hit (p % m) c (sym e), length-without i (k.chain (p % m)) in_chain))
        (λ n. omega (arith, k.counts c, less, miss (p % m) c (λ e. n (sym e))))

    -- so the rows are linked as before, with this one among the free rows
    pub is_freed : AreLinked m (set os i None) (freed l (p % m) i before)
    is_freed = record {
      chain = chain_freeing k.chain (p % m) i;
      spare = i ∷ k.spare;
      some_buckets = k.some_buckets;
      few = omega (arith, k.few, length-set os i None);
      places = length-set (unlinking l (p % m) i before).nexts i (unlinking l (p % m) i before).free ∙ (length-unlinking l (p % m) i before ∙ (k.places ∙ sym (length-set os i None)));
      width = width-unlinked before ∙ k.width;
      chains = chains;
      frees = frees;
      owned = owned;
      kept = kept;
      unowned = unowned;
      counts = counts;
      spares = omega (arith, k.spares, some_taken, length-set os i None);
      all = omega (arith, k.all, some_taken, one_less_taken p i os t.within t.own);
    }
