-- The packets of a chain end as if there were no other chain.
use Rattle.std.proofs.Common.{◌≡◌, ◌∙◌, ℕ, Bool, true, false, List, [], ◌∷◌, ap, refl, sym}
use Rattle.piece_walk.specs.PiecePackets.{long_fates, pieces_after}
use Rattle.piece_walk.specs.Pieces.{Piece}
use Rattle.chain_walk.specs.Step.{Behaviour}
use Rattle.service_walk.specs.Service.{Classed, at_chain, served, fates_among, chains_after, is_of, packets_in, fates_in}
use Rattle.service_walk.proofs.Taken.{packets_taken, packets_passed, fates_taken, fates_passed, fate_taken, pieces_taken, pieces_passed}

module _ {F : Type 0} (b : Behaviour F) where
  pub fates_apart : (chains : List (List (Piece F))) (xs : List Classed) (chain : ℕ) → fates_in chain xs (fates_among b chains xs) ≡ long_fates b (at_chain chains chain) (packets_in chain xs)
  unfolding long_fates fates_among
  fates_apart chains [] chain = refl
  fates_apart chains (x ∷ xs) chain =
      by_test (is_of chain x) refl (fates_apart (served b chains x.class x.packet).chains xs chain)
    where
      by_test : (taken : Bool) → is_of chain x ≡ taken →
          fates_in chain xs (fates_among b (served b chains x.class x.packet).chains xs) ≡ long_fates b (at_chain (served b chains x.class x.packet).chains chain) (packets_in chain xs) →
          fates_in chain (x ∷ xs) (fates_among b chains (x ∷ xs)) ≡ long_fates b (at_chain chains chain) (packets_in chain (x ∷ xs))
      by_test true e later =
          fates_taken chain x xs (served b chains x.class x.packet).fate (fates_among b (served b chains x.class x.packet).chains xs) e
          ∙ (λ i. fate_taken b chains chain x e i ∷ (later ∙ ap (λ functions. long_fates b functions (packets_in chain xs)) (pieces_taken b chains chain x e)) i)
          ∙ sym (ap (long_fates b (at_chain chains chain)) (packets_taken chain x xs e))
      by_test false e later =
          fates_passed chain x xs (served b chains x.class x.packet).fate (fates_among b (served b chains x.class x.packet).chains xs) e
          ∙ later ∙ ap (λ functions. long_fates b functions (packets_in chain xs)) (pieces_passed b chains chain x e)
          ∙ sym (ap (long_fates b (at_chain chains chain)) (packets_passed chain x xs e))

  pub pieces_apart : (chains : List (List (Piece F))) (xs : List Classed) (chain : ℕ) → at_chain (chains_after b chains xs) chain ≡ pieces_after b (at_chain chains chain) (packets_in chain xs)
  unfolding pieces_after chains_after
  pieces_apart chains [] chain = refl
  pieces_apart chains (x ∷ xs) chain =
      pieces_apart (served b chains x.class x.packet).chains xs chain ∙ by_test (is_of chain x) refl
    where
      by_test : (taken : Bool) → is_of chain x ≡ taken → pieces_after b (at_chain (served b chains x.class x.packet).chains chain) (packets_in chain xs) ≡ pieces_after b (at_chain chains chain) (packets_in chain (x ∷ xs))
      by_test true e =
          ap (λ functions. pieces_after b functions (packets_in chain xs)) (pieces_taken b chains chain x e)
          ∙ sym (ap (pieces_after b (at_chain chains chain)) (packets_taken chain x xs e))
      by_test false e =
          ap (λ functions. pieces_after b functions (packets_in chain xs)) (pieces_passed b chains chain x e)
          ∙ sym (ap (pieces_after b (at_chain chains chain)) (packets_passed chain x xs e))
