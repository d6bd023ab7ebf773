-- What is at a chain's place among the results of the chains.
use Rattle.std.proofs.Common.{◌≡◌, ◌∙◌, ◌<◌, ◌+◌, ℕ, zero, suc, List, [], ◌∷◌, length, ap, refl, sym, arith, ext_get_or}
use Rattle.piece_walk.specs.PiecePackets.{long_fates, pieces_after}
use Rattle.piece_walk.specs.Pieces.{Piece}
use Rattle.chain_walk.specs.Step.{Behaviour}
use Rattle.service_walk.specs.Service.{Classed, at_chain, chains_after, packets_in}
use Rattle.service_walk.specs.Weaving.{each_fates, each_after}
use Rattle.service_walk.proofs.Apart.{pieces_apart}
use Rattle.service_walk.proofs.Counting.{as_many_chains}

module _ {F : Type 0} (b : Behaviour F) (xs : List Classed) where
  pub length_each_fates : (first : ℕ) (chains : List (List (Piece F))) → length (each_fates b xs first chains) ≡ length chains
  unfolding each_fates
  length_each_fates first [] = refl
  length_each_fates first (functions ∷ later) = ap suc (length_each_fates (suc first) later)

  fates_from : (first : ℕ) (chains : List (List (Piece F))) (chain : ℕ) → chain < length chains → at_chain (each_fates b xs first chains) chain ≡ long_fates b (at_chain chains chain) (packets_in (first + chain) xs)
  unfolding each_fates
  fates_from first [] chain lt = absurd (omega arith)
  fates_from first (functions ∷ later) zero lt =
      let here : first ≡ first + zero = omega arith in ap (λ (number : ℕ). long_fates b functions (packets_in number xs)) here
  fates_from first (functions ∷ later) (suc chain) lt =
      let here : suc first + chain ≡ first + suc chain = omega arith in
      fates_from (suc first) later chain (omega arith) ∙ ap (λ (number : ℕ). long_fates b (at_chain later chain) (packets_in number xs)) here

  -- the chains count from 0
  pub fates_at : (chains : List (List (Piece F))) (chain : ℕ) → chain < length chains → at_chain (each_fates b xs 0 chains) chain ≡ long_fates b (at_chain chains chain) (packets_in chain xs)
  fates_at chains chain lt =
      let here : 0 + chain ≡ chain = omega arith in fates_from 0 chains chain lt ∙ ap (λ (number : ℕ). long_fates b (at_chain chains chain) (packets_in number xs)) here

  length_each_after : (first : ℕ) (chains : List (List (Piece F))) → length (each_after b xs first chains) ≡ length chains
  unfolding each_after
  length_each_after first [] = refl
  length_each_after first (functions ∷ later) = ap suc (length_each_after (suc first) later)

  after_from : (first : ℕ) (chains : List (List (Piece F))) (chain : ℕ) → chain < length chains → at_chain (each_after b xs first chains) chain ≡ pieces_after b (at_chain chains chain) (packets_in (first + chain) xs)
  unfolding each_after
  after_from first [] chain lt = absurd (omega arith)
  after_from first (functions ∷ later) zero lt =
      let here : first ≡ first + zero = omega arith in ap (λ (number : ℕ). pieces_after b functions (packets_in number xs)) here
  after_from first (functions ∷ later) (suc chain) lt =
      let here : suc first + chain ≡ first + suc chain = omega arith in
      after_from (suc first) later chain (omega arith) ∙ ap (λ (number : ℕ). pieces_after b (at_chain later chain) (packets_in number xs)) here

  after_at : (chains : List (List (Piece F))) (chain : ℕ) → chain < length chains → at_chain (each_after b xs 0 chains) chain ≡ pieces_after b (at_chain chains chain) (packets_in chain xs)
  after_at chains chain lt =
      let here : 0 + chain ≡ chain = omega arith in after_from 0 chains chain lt ∙ ap (λ (number : ℕ). pieces_after b (at_chain chains chain) (packets_in number xs)) here

  -- packets, chain after chain, leave the chains as packets in their order do
  pub each_apart : (chains : List (List (Piece F))) → each_after b xs 0 chains ≡ chains_after b chains xs
  each_apart chains =
      let many = length_each_after 0 chains in
      ext_get_or [] (each_after b xs 0 chains) (chains_after b chains xs) (many ∙ sym (as_many_chains b chains xs))
      (λ chain lt. let within : chain < length chains = omega arith in after_at chains chain within ∙ sym (pieces_apart b chains xs chain))
