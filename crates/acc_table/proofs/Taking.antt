-- The first free row is taken for a packet, and put first into its bucket.
use Rattle.std.proofs.Common.{◌≡◌, ℕ, ◌%◌, ◌<◌, ◌≤◌, inl, inr, cond, List, ◌∷◌, length, get_or, set, Option, Some, None, refl, sym, ap, ◌∙◌, subst, arith, eqb}
use Rattle.std.proofs.lemmas.Bool.{cases_eq}
use Rattle.std.proofs.lemmas.Option.{same_Some}
use Rattle.std.proofs.lemmas.List.{get_or-set_same, get_or-set_other, length-set}
use Rattle.std.specs.List.{sum_by}
use Rattle.acc_table.specs.Links.{none, IsChain, Among, AreLinked, PlainLinks, taking, one_in}
use Rattle.acc_table.proofs.Linking.{Opened, opened_some, at_bucket, apart, frame}
use Rattle.acc_table.proofs.Counting.{hit, miss, one_more_in, one_more_taken}
use Rattle.acc_table.proofs.Finding.{not_None}

-- the free list has a first row, which is free
pub record FirstFree (os : List (Option ℕ)) (l : PlainLinks) (spare : List ℕ) : Type 0 where
  pub opened : Opened l.nexts l.free spare
  pub within : l.free < length os
  pub free : get_or os l.free None ≡ None

pub first_free : (m : ℕ) (os : List (Option ℕ)) (l : PlainLinks) (k : AreLinked m os l) → l.taken < length os → FirstFree os l k.spare
first_free m os l k lt =
    let o = opened_some l.nexts l.free k.spare k.frees (omega (arith, k.spares, lt)) in
    record {
      opened = o;
      within = omega (arith, o.within, k.places);
      free = k.unowned l.free (subst (λ xs. Among l.free xs) (sym o.is) (inl refl));
    }

abbrev chain_taking : (ℕ → List ℕ) → ℕ → ℕ → ℕ → List ℕ
chain_taking chain b i c = cond (eqb c b) (i ∷ chain b) (chain c)

not_in : (m : ℕ) (os : List (Option ℕ)) (l : PlainLinks) (k : AreLinked m os l) (i c : ℕ) → get_or os i None ≡ None → Among i (k.chain c) → ⊥
not_in m os l k i c e a = let o = k.owned c i a in not_None o.0 (sym o.1 ∙ e)

module _ (m : ℕ) (os : List (Option ℕ)) (l : PlainLinks) (k : AreLinked m os l) (p : ℕ) (f : FirstFree os l k.spare) (in_heads : p % m < length l.heads) where
  few : length l.nexts ≤ 65536
  few = omega (arith, k.few, k.places)

  chains : (c : ℕ) → IsChain (taking l (p % m)).nexts (get_or (taking l (p % m)).heads c none) (chain_taking k.chain (p % m) l.free c)
  chains c =
      let b : ℕ = p % m in
      let i : ℕ = l.free in
      let v : ℕ = get_or l.heads b none in
      at_bucket (λ xs. IsChain (set l.nexts i v) (get_or (set l.heads b i) c none) xs) c b (i ∷ k.chain b) (k.chain c)
      (λ e. (
        ap (λ z. get_or (set l.heads b i) z none) e ∙ get_or-set_same l.heads b i none in_heads,
        omega (arith, f.opened.within, length-set l.nexts i v),
        subst (λ y. IsChain (set l.nexts i v) y (k.chain b)) (sym (get_or-set_same l.nexts i v none f.opened.within))
            (frame l.nexts v (k.chain b) i v (k.chains b) (not_in m os l k i b f.free)),
      ))
      (λ n. subst (λ y. IsChain (set l.nexts i v) y (k.chain c)) (sym (get_or-set_other l.heads b c i none n))
      (frame l.nexts (get_or l.heads c none) (k.chain c) i v (k.chains c) (not_in m os l k i c f.free)))

  not_behind : Among l.free f.opened.rest → ⊥
  not_behind a = apart l.nexts l.free f.opened.rest few f.opened.within f.opened.chain a

  was : (j d : ℕ) → Among j (k.chain d) → (q : ℕ) × (get_or (set os l.free (Some p)) j None ≡ Some q) × (q % m ≡ d)
  was j d r =
      let o = k.owned d j r in
      (o.0, get_or-set_other os l.free j (Some p) None (λ e. not_in m os l k l.free d f.free (subst (λ z. Among z (k.chain d)) e r)) ∙ o.1, o.2)

  owned : (c j : ℕ) → Among j (chain_taking k.chain (p % m) l.free c) → (q : ℕ) × (get_or (set os l.free (Some p)) j None ≡ Some q) × (q % m ≡ c)
  owned c j a =
      at_bucket (λ xs. Among j xs → (q : ℕ) × (get_or (set os l.free (Some p)) j None ≡ Some q) × (q % m ≡ c)) c (p % m) (l.free ∷ k.chain (p % m)) (k.chain c)
      (λ e r. elim r [
        | inl here ↦ (p, ap (λ z. get_or (set os l.free (Some p)) z None) here ∙ get_or-set_same os l.free (Some p) None f.within, sym e)
        | inr more ↦ let o = was j (p % m) more in (o.0, o.1, o.2 ∙ sym e)
      ])
      (λ n r. was j c r)
      a

  kept : (j q : ℕ) → get_or (set os l.free (Some p)) j None ≡ Some q → Among j (chain_taking k.chain (p % m) l.free (q % m))
  kept j q e = elim (cases_eq j l.free) [
    | inl here ↦
        let same : p ≡ q = same_Some p q (sym (get_or-set_same os l.free (Some p) None f.within) ∙ (ap (λ z. get_or (set os l.free (Some p)) z None) (sym here) ∙ e)) in
        at_bucket (Among j) (q % m) (p % m) (l.free ∷ k.chain (p % m)) (k.chain (q % m)) (λ _. inl here) (λ n. absurd (n (ap (λ r. r % m) (sym same))))
    | inr there ↦
        let old : Among j (k.chain (q % m)) = k.kept j q (sym (get_or-set_other os l.free j (Some p) None there) ∙ e) in
        at_bucket (Among j) (q % m) (p % m) (l.free ∷ k.chain (p % m)) (k.chain (q % m)) (λ g. inr (subst (λ c. Among j (k.chain c)) g old)) (λ _. old)
  ]

  unowned : (j : ℕ) → Among j f.opened.rest → get_or (set os l.free (Some p)) j None ≡ None
  unowned j a =
      get_or-set_other os l.free j (Some p) None (λ e. not_behind (subst (λ z. Among z f.opened.rest) e a))
      ∙ k.unowned j (subst (λ xs. Among j xs) (sym f.opened.is) (inr a))

  counts : (c : ℕ) → length (chain_taking k.chain (p % m) l.free c) ≡ sum_by (one_in m c) (set os l.free (Some p))
  counts c =
      let more = one_more_in m c p l.free os f.within f.free in
      at_bucket (λ xs. length xs ≡ sum_by (one_in m c) (set os l.free (Some p))) c (p % m) (l.free ∷ k.chain (p % m)) (k.chain c)
      (λ e. omega (arith, ap (λ d. length (k.chain d)) e, k.counts c, more, hit (p % m) c (sym e)))
      (λ n. omega (arith, k.counts c, more, miss (p % m) c (λ e. n (sym e))))

  -- so the rows are linked as before, with this one among them
  pub taken : AreLinked m (set os l.free (Some p)) (taking l (p % m))
  taken = record {
    chain = chain_taking k.chain (p % m) l.free;
    spare = f.opened.rest;
    some_buckets = k.some_buckets;
    few = omega (arith, k.few, length-set os l.free (Some p));
    places = length-set l.nexts l.free (get_or l.heads (p % m) none) ∙ (k.places ∙ sym (length-set os l.free (Some p)));
    width = length-set l.heads (p % m) l.free ∙ k.width;
    chains = chains;
    frees = frame l.nexts (get_or l.nexts l.free none) f.opened.rest l.free (get_or l.heads (p % m) none) f.opened.chain not_behind;
    owned = owned;
    kept = kept;
    unowned = unowned;
    counts = counts;
    spares = omega (arith, ap length f.opened.is, k.spares, length-set os l.free (Some p));
    all = omega (arith, k.all, one_more_taken p l.free os f.within f.free);
  }
