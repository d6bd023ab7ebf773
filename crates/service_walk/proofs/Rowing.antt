-- Packets in a row: the later ones find the state that the first leave.
use Rattle.std.proofs.Common.{◌≡◌, ◌∙◌, List, [], ◌∷◌, ◌++◌, None, ap, refl}
use Rattle.chain_walk.specs.Step.{Behaviour}
use Rattle.piece_walk.specs.Pieces.{Piece}
use Rattle.service_walk.specs.Service.{Classed, served, fates_among, chains_after}
use Rattle.service_walk.specs.Weaving.{fate_of}

module _ {F : Type 0} (b : Behaviour F) where
  pub fates_in_a_row : (chains : List (List (Piece F))) (first later : List Classed) → fates_among b chains (first ++ later) ≡ fates_among b chains first ++ fates_among b (chains_after b chains first) later
  unfolding fates_among chains_after
  fates_in_a_row chains [] later = refl
  fates_in_a_row chains (x ∷ first) later = ap (λ l. (served b chains x.class x.packet).fate ∷ l) (fates_in_a_row (served b chains x.class x.packet).chains first later)

  pub chains_in_a_row : (chains : List (List (Piece F))) (first later : List Classed) → chains_after b chains (first ++ later) ≡ chains_after b (chains_after b chains first) later
  unfolding chains_after
  chains_in_a_row chains [] later = refl
  chains_in_a_row chains (x ∷ first) later = chains_in_a_row (served b chains x.class x.packet).chains first later

  -- a packet that no chain takes changes nothing
  untaken_first : (chains : List (List (Piece F))) (x : Classed) (later : List Classed) → x.class ≡ None → fates_among b chains (x ∷ later) ≡ fate_of x None ∷ fates_among b chains later
  unfolding fates_among
  untaken_first chains x later e = rw e

  pub untaken_passes : (chains : List (List (Piece F))) (first : List Classed) (x : Classed) (later : List Classed) → x.class ≡ None →
      fates_among b chains (first ++ x ∷ later) ≡ fates_among b chains first ++ fate_of x None ∷ fates_among b (chains_after b chains first) later
  untaken_passes chains first x later e = fates_in_a_row chains first (x ∷ later) ∙ ap (λ l. fates_among b chains first ++ l) (untaken_first (chains_after b chains first) x later e)
