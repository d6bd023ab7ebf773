-- Each step keeps the rule of a link.
use Rattle.std.proofs.Common.{◌≡◌, ◌≢◌, ℕ, zero, suc, true, false, true≢false, List, [], ◌∷◌, ◌++◌, ◌<◌, ◌≤◌, ◌^◌, length, set, sym, refl, ap, ◌∙◌, subst, inl, inr, ⊎_elim, append_assoc, length-append, arith}
use mathlib.Core.Option.{some, some-ne-none, some-injective}
use lib.ListN.{get_elem?}
use Rattle.crossbeam_queue.specs.Fifo.{Pushes, Pops, Forks, Merges, Learns}
use Rattle.ruled_links.specs.declared.rule.Knowledge.{Knowledge}
use Rattle.ruled_links.specs.Fitting.{FitsAt, EachFits}
use Rattle.ruled_links.specs.Rule.{knowledge, closed, spent, Knows, IsOpen, IsLink}
use Rattle.ruled_links.proofs.Places.{at_set, at_end, at_first, at_only}

module _ {T : Type 0} where
  -- for the pass of each number
  abbrev Each : (ℕ → Knowledge T → Type 0) → List (Knowledge T) → Type 0
  Each F views = (pass : ℕ) (v : Knowledge T) → get_elem? views pass ≡ some v → F pass v

  each_set : (F : ℕ → Knowledge T → Type 0) (views : List (Knowledge T)) (pass : ℕ) (w : Knowledge T) → F pass w → ((j : ℕ) (u : Knowledge T) → j ≢ pass → get_elem? views j ≡ some u → F j u) → Each F (set views pass w)
  each_set F views pass w mine others j u e = ⊎_elim (λ (x : (j ≡ pass) × (w ≡ u)). subst (λ (y : ℕ × Knowledge T). F y.0 y.1) (λ i. (sym x.0 i, x.1 i)) mine)
      (λ (x : (j ≢ pass) × (get_elem? views j ≡ some u)). others j u x.0 x.1) (at_set views pass j w u e)

  -- nothing is due from an end that was dropped
  spent_knows : (putter taker : ℕ) (due put taken : List T) (pass : ℕ) → Knows putter taker due put taken pass spent
  spent_knows putter taker due put taken pass = record { opened = refl; puts = λ p. absurd (true≢false (sym p)); takes = λ p. absurd (true≢false (sym p)) }

  module _ (fits : T → T → Type 0) where
    is_open : (items : List T) (views : List (Knowledge T)) (pass : ℕ) (v : Knowledge T) → v.opened ≡ true → IsLink fits items views → get_elem? views pass ≡ some v → IsOpen fits items views
    is_open items views pass v o (inl f) at = absurd (true≢false (sym o ∙ ap (λ (y : Knowledge T). y.opened) (sym (at_only views closed v pass f.1 at).1)))
    is_open items views pass v o (inr h) at = h

    one_more_fits : (due put : List T) (x : T) → EachFits fits due put → FitsAt fits due (length put) x → EachFits fits due (put ++ x ∷ [])
    one_more_fits due put x all f k m e = ⊎_elim (λ old. all k m old)
        (λ (is : (k ≡ length put) × (x ≡ m)). subst (λ (y : ℕ × T). FitsAt fits due y.0 y.1) (λ i. (sym is.0 i, is.1 i)) f)
        (at_end put x m k e)

    pub begins : IsLink fits [] (closed ∷ [])
    begins = inl (refl, refl)

    -- the ends of a new link
    ends : (due : List T) → Each (Knows 0 1 due [] []) (knowledge true true false due [] [] ∷ knowledge true false true due [] [] ∷ [])
    ends due zero u e = subst (Knows 0 1 due [] [] 0) (some-injective (knowledge true true false due [] []) u e)
        (record { opened = refl; puts = λ _. (refl, refl, refl); takes = λ p. absurd (true≢false (sym p)) })
    ends due (suc zero) u e = subst (Knows 0 1 due [] [] 1) (some-injective (knowledge true false true due [] []) u e)
        (record { opened = refl; puts = λ p. absurd (true≢false (sym p)); takes = λ _. (refl, refl, refl) })
    ends due (suc (suc j)) u e = absurd (some-ne-none u (sym e))

    pub opens : (pass : ℕ) (v : Knowledge T) (due : List T) → v.opened ≡ false → Forks (IsLink fits) pass v (knowledge true true false due [] []) (knowledge true false true due [] [])
    opens pass v due shut items views (inr r) at = absurd (true≢false (sym (r.knows pass v at).opened ∙ shut))
    opens pass v due shut items views (inl f) at =
        let l : Knowledge T = knowledge true true false due [] [] in
        let r : Knowledge T = knowledge true false true due [] [] in
        let where_is : pass ≡ 0 = (at_only views closed v pass f.1 at).0 in
        let now : set views pass l ≡ l ∷ [] = ap (λ (y : List (Knowledge T) × ℕ). set y.0 y.1 l) (λ i. (f.1 i, where_is i)) in
        subst (λ vs. IsLink fits items (vs ++ r ∷ [])) (sym now) (inr (record {
          putter = 0;
          taker = 1;
          due = due;
          put = [];
          taken = [];
          whole = sym f.0;
          few = omega arith;
          fit = λ k m e. absurd (some-ne-none m (sym e));
          knows = ends due;
        }))

    pub puts : (n pass : ℕ) (v : Knowledge T) (x : T) → v.opened ≡ true → v.puts ≡ true → length v.put < 2 ^ 32 → FitsAt fits v.due (length v.put) x
        → Pushes (IsLink fits) n pass v x (λ w. w ≡ record v { put = v.put ++ x ∷ [] })
    puts n pass v x o may few fit items views _ h at =
        let r = is_open items views pass v o h at in
        let w : Knowledge T = record v { put = v.put ++ x ∷ [] } in
        let mine = r.knows pass v at in
        let m = mine.puts may in
        let same : v.put ≡ r.put = m.2 in
        let owed : v.due ≡ r.due = m.1 in
        let put = r.put ++ x ∷ [] in (
          w,
          (inr (record {
            putter = r.putter;
            taker = r.taker;
            due = r.due;
            put = put;
            taken = r.taken;
            whole = ap (λ l. l ++ x ∷ []) r.whole ∙ append_assoc r.taken items (x ∷ []);
            few = omega (arith, ap length same, few, length-append r.put (x ∷ []));
            fit = one_more_fits r.due r.put x r.fit (subst (λ (y : List T × List T). FitsAt fits y.0 (length y.1) x) (λ i. (owed i, same i)) fit);
            knows = each_set (Knows r.putter r.taker r.due put r.taken) views pass w
                (record { opened = o; puts = λ _. (m.0, owed, ap (λ l. l ++ x ∷ []) same); takes = mine.takes })
                (λ j u other e. let k = r.knows j u e in record { opened = k.opened; puts = λ p. absurd (other ((k.puts p).0 ∙ sym m.0)); takes = k.takes });
          })),
          refl,
        )

    pub holds_some : (pass : ℕ) (v : Knowledge T) → v.opened ≡ true → v.puts ≡ true → Learns (IsLink fits) pass v (λ items. length items ≤ length v.put)
    holds_some pass v o may items views h at =
        let r = is_open items views pass v o h at in
        let same : v.put ≡ r.put = ((r.knows pass v at).puts may).2 in
        omega (arith, ap length (same ∙ r.whole), length-append r.taken items)

    pub takes : (pass : ℕ) (v : Knowledge T) → v.opened ≡ true → v.takes ≡ true
        → Pops (IsLink fits) pass v (λ x w. (w ≡ record v { taken = v.taken ++ x ∷ [] }) × (length w.taken ≤ 2 ^ 32) × FitsAt fits v.due (length v.taken) x)
    takes pass v o may x items views h at =
        let r = is_open (x ∷ items) views pass v o h at in
        let w : Knowledge T = record v { taken = v.taken ++ x ∷ [] } in
        let mine = r.knows pass v at in
        let m = mine.takes may in
        let same : v.taken ≡ r.taken = m.2 in
        let owed : v.due ≡ r.due = m.1 in
        let taken = r.taken ++ x ∷ [] in
        let fit = r.fit (length r.taken) x (ap (λ l. get_elem? l (length r.taken)) r.whole ∙ at_first r.taken x items) in (
          w,
          (inr (record {
            putter = r.putter;
            taker = r.taker;
            due = r.due;
            put = r.put;
            taken = taken;
            whole = r.whole ∙ sym (append_assoc r.taken (x ∷ []) items);
            few = r.few;
            fit = r.fit;
            knows = each_set (Knows r.putter r.taker r.due r.put taken) views pass w
                (record { opened = o; puts = mine.puts; takes = λ _. (m.0, owed, ap (λ l. l ++ x ∷ []) same) })
                (λ j u other e. let k = r.knows j u e in record { opened = k.opened; puts = k.puts; takes = λ p. absurd (other ((k.takes p).0 ∙ sym m.0)) });
          })),
          (
            refl,
            omega (arith, r.few, ap length r.whole, ap length same, length-append r.taken (x ∷ items), length-append v.taken (x ∷ [])),
            subst (λ (y : List T × List T). FitsAt fits y.0 (length y.1) x) (λ i. (sym owed i, sym same i)) fit,
          ),
        )

    -- both ends have one owner
    pub joins : (pass : ℕ) (v : Knowledge T) (other : ℕ) (u : Knowledge T) → v.opened ≡ true → v.puts ≡ true → u.takes ≡ true
        → Merges (IsLink fits) pass v other u (knowledge true true true v.due v.put u.taken) spent
    joins pass v other u o a b items views h at two at' =
        let both : Knowledge T = knowledge true true true v.due v.put u.taken in
        let r = is_open items views pass v o h at in
        let m = (r.knows pass v at).puts a in
        let vs : List (Knowledge T) = set views pass both in
        let was : get_elem? views other ≡ some u = ⊎_elim (λ x. absurd (two x.0)) (λ x. x.1) (at_set views pass other both u at') in
        let t = (r.knows other u was).takes b in
        let Now : ℕ → Knowledge T → Type 0 = λ j y. j ≢ other → Knows r.putter pass r.due r.put r.taken j y in
        let now : Each Now vs = each_set Now views pass both (λ _. record { opened = refl; puts = λ _. m; takes = λ _. (refl, m.1, t.2) })
        (λ j y _ e apart. let k = r.knows j y e in record { opened = k.opened; puts = k.puts; takes = λ p. absurd (apart ((k.takes p).0 ∙ sym t.0)) }) in
        inr (record {
          putter = r.putter;
          taker = pass;
          due = r.due;
          put = r.put;
          taken = r.taken;
          whole = r.whole;
          few = r.few;
          fit = r.fit;
          knows = each_set (Knows r.putter pass r.due r.put r.taken) vs other spent (spent_knows r.putter pass r.due r.put r.taken other) (λ j y apart e. now j y e apart);
        })

    pub whole : (pass : ℕ) (v : Knowledge T) → v.opened ≡ true → v.puts ≡ true → v.takes ≡ true → Learns (IsLink fits) pass v (λ items. (v.put ≡ v.taken ++ items) × EachFits fits v.due v.put)
    whole pass v o a b items views h at =
        let r = is_open items views pass v o h at in
        let mine = r.knows pass v at in
        let m = mine.puts a in (
          m.2 ∙ r.whole ∙ ap (λ l. l ++ items) (sym (mine.takes b).2),
          subst (λ (y : List T × List T). EachFits fits y.0 y.1) (λ i. (sym m.1 i, sym m.2 i)) r.fit,
        )
