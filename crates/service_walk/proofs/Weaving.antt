-- The fates of each chain, taken in the packets' order, are the fates of all.
use Rattle.std.proofs.Common.{◌≡◌, ◌∙◌, ◌<◌, ◌==◌, ℕ, Bool, true, false, List, [], ◌∷◌, length, map, drop, slice_get, Option, Some, None, ap, refl, sym, subst, arith, length-set, get_or-set_same, get_or-set_other, ⊎_elim, eq-eqb, eqb-true}
use Rattle.std.proofs.lemmas.Bool.{eqb-false}
use Rattle.std.proofs.lemmas.List.{get_or_past}
use Rattle.std.proofs.lemmas.Bool.{cases_lt}
use Rattle.chain_walk.specs.Packets.{Packet}
use Rattle.piece_walk.specs.PiecePackets.{long_fates}
use Rattle.chain_walk.specs.Step.{Behaviour}
use Rattle.piece_walk.specs.Pieces.{Piece, Went, long}
use Rattle.chain_walk.specs.declared.walk.Fate.{Fate}
use Rattle.service_walk.specs.Service.{Classed, at_chain, served, fates_among, packets_in}
use Rattle.service_walk.specs.Weaving.{each_fates, next_fate, fates_left, woven, fate_of, fates_seen}
use Rattle.service_walk.proofs.Each.{length_each_fates, fates_at}
use Rattle.service_walk.proofs.Nowhere.{went_nowhere}
use Rattle.service_walk.proofs.Taken.{packets_taken, packets_passed, length_served}

-- For each of this number of chains the fates that are left are those of the packets to come.
record AreLeft {F : Type 0} (b : Behaviour F) (many : ℕ) (chains : List (List (Piece F))) (xs : List Classed) (rows : List (List Fate)) : Type 0 where
  as_many_chains : length chains ≡ many
  as_many_rows : length rows ≡ many
  each : (chain : ℕ) → chain < many → at_chain rows chain ≡ long_fates b (at_chain chains chain) (packets_in chain xs)

-- a packet with this class
abbrev of_class : Option ℕ → Packet → Classed
of_class class p = record { class = class; packet = p }

module _ {F : Type 0} (b : Behaviour F) (many : ℕ) (chains : List (List (Piece F))) (xs : List Classed) (rows : List (List Fate)) where
  -- the packet's walk through the chain that takes it
  abbrev walked : ℕ → Packet → Went F
  walked chain p = long b p.time 1 (at_chain chains chain) p.frame

  front : (chain : ℕ) (p : Packet) → chain < many → AreLeft b many chains (of_class (Some chain) p ∷ xs) rows →
      at_chain rows chain ≡ (walked chain p).fate ∷ long_fates b (walked chain p).pieces (packets_in chain xs)
  unfolding long_fates
  front chain p lt h = h.each chain lt ∙ ap (long_fates b (at_chain chains chain)) (packets_taken chain (of_class (Some chain) p) xs (eq-eqb chain chain refl))

  -- the packet's fate is first in its chain's
  next : (class : Option ℕ) (p : Packet) → AreLeft b many chains (of_class class p ∷ xs) rows →
      fate_of (of_class class p) (next_fate rows class) ≡ (served b chains class p).fate
  next None p h = refl
  next (Some chain) p h = ⊎_elim
      (λ lt. ap (λ (row : List Fate). fate_of (of_class (Some chain) p) (slice_get row 0)) (front chain p lt h))
      (λ le. ap (λ (row : List Fate). fate_of (of_class (Some chain) p) (slice_get row 0)) (get_or_past rows chain [] (omega arith)) ∙ sym (ap (λ (w : Went F). w.fate) (went_nowhere b chains chain p (omega arith))))
      (cases_lt chain many)

  -- what is left of its chain's fates is what is to come
  here : (chain : ℕ) (p : Packet) → chain < many → AreLeft b many chains (of_class (Some chain) p ∷ xs) rows →
      at_chain (fates_left rows (Some chain)) chain ≡ long_fates b (at_chain (served b chains (Some chain) p).chains chain) (packets_in chain xs)
  here chain p lt h =
      get_or-set_same rows chain (drop 1 (at_chain rows chain)) [] (omega arith)
      ∙ ap (drop 1) (front chain p lt h)
      ∙ sym (ap (λ (functions : List (Piece F)). long_fates b functions (packets_in chain xs)) (get_or-set_same chains chain (walked chain p).pieces [] (omega arith)))

  -- and nothing is taken from another chain's
  other : (chain : ℕ) (p : Packet) (c : ℕ) → c < many → (chain == c) ≡ false → AreLeft b many chains (of_class (Some chain) p ∷ xs) rows →
      at_chain (fates_left rows (Some chain)) c ≡ long_fates b (at_chain (served b chains (Some chain) p).chains c) (packets_in c xs)
  other chain p c lt e h =
      get_or-set_other rows chain c _ [] (λ same. eqb-false chain c e (sym same))
      ∙ h.each c lt
      ∙ ap (long_fates b (at_chain chains c)) (packets_passed c (of_class (Some chain) p) xs e)
      ∙ sym (ap (λ (functions : List (Piece F)). long_fates b functions (packets_in c xs)) (get_or-set_other chains chain c (walked chain p).pieces [] (λ same. eqb-false chain c e (sym same))))

  left : (class : Option ℕ) (p : Packet) → AreLeft b many chains (of_class class p ∷ xs) rows → AreLeft b many (served b chains class p).chains xs (fates_left rows class)
  left None p h = record { as_many_chains = h.as_many_chains; as_many_rows = h.as_many_rows; each = h.each }
  left (Some chain) p h = record {
    as_many_chains = length_served b chains (Some chain) p ∙ h.as_many_chains;
    as_many_rows = simp length-set h.as_many_rows;
    each = λ c within. by_test c within (chain == c) refl;
  }
    where
      by_test : (c : ℕ) → c < many → (same : Bool) → (chain == c) ≡ same →
          at_chain (fates_left rows (Some chain)) c ≡ long_fates b (at_chain (served b chains (Some chain) p).chains c) (packets_in c xs)
      by_test c within true e =
          subst (λ (c : ℕ). at_chain (fates_left rows (Some chain)) c ≡ long_fates b (at_chain (served b chains (Some chain) p).chains c) (packets_in c xs)) (eqb-true chain c e) (here chain p (subst (λ (n : ℕ). n < many) (sym (eqb-true chain c e)) within) h)
      by_test c within false e = other chain p c within e h

module _ {F : Type 0} (b : Behaviour F) where
  woven_of_left : (many : ℕ) (chains : List (List (Piece F))) (xs : List Classed) (rows : List (List Fate)) → AreLeft b many chains xs rows →
      fates_seen xs (woven (map (λ (x : Classed). x.class) xs) rows) ≡ fates_among b chains xs
  unfolding fates_seen woven fates_among
  woven_of_left many chains [] rows h = refl
  woven_of_left many chains (x ∷ xs) rows h =
      let fate = next b many chains xs rows x.class x.packet h in
      let later = woven_of_left many (served b chains x.class x.packet).chains xs (fates_left rows x.class) (left b many chains xs rows x.class x.packet h) in
      λ i. fate i ∷ later i

  pub fates_woven : (chains : List (List (Piece F))) (xs : List Classed) →
      fates_seen xs (woven (map (λ (x : Classed). x.class) xs) (each_fates b xs 0 chains)) ≡ fates_among b chains xs
  fates_woven chains xs =
      woven_of_left (length chains) chains xs (each_fates b xs 0 chains) (record { as_many_chains = refl; as_many_rows = length_each_fates b xs 0 chains; each = fates_at b xs chains })
