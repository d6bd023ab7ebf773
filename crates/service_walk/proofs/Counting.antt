-- Each packet has a fate, and no chain is lost or new.
use Rattle.std.proofs.Common.{◌≡◌, ◌∙◌, suc, List, [], ◌∷◌, length, ap, refl}
use Rattle.chain_walk.specs.Step.{Behaviour}
use Rattle.piece_walk.specs.Pieces.{Piece}
use Rattle.service_walk.specs.Service.{Classed, served, fates_among, chains_after}
use Rattle.service_walk.proofs.Taken.{length_served}

module _ {F : Type 0} (b : Behaviour F) where
  pub count_of_fates : (chains : List (List (Piece F))) (xs : List Classed) → length (fates_among b chains xs) ≡ length xs
  unfolding fates_among
  count_of_fates chains [] = refl
  count_of_fates chains (x ∷ xs) = ap suc (count_of_fates (served b chains x.class x.packet).chains xs)

  pub as_many_chains : (chains : List (List (Piece F))) (xs : List Classed) → length (chains_after b chains xs) ≡ length chains
  unfolding chains_after
  as_many_chains chains [] = refl
  as_many_chains chains (x ∷ xs) = as_many_chains (served b chains x.class x.packet).chains xs ∙ length_served b chains x.class x.packet
