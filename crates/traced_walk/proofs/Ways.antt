-- The ways of packets, without their acts.
use Rattle.std.proofs.Common.{◌≡◌, ◌∙◌, ℕ, List, [], ◌∷◌, Option, Some, None, ap, refl}
use Rattle.std.specs.Prelude.{map}
use Rattle.chain_walk.specs.Step.{Behaviour}
use Rattle.packet_function.specs.Deciding.{Deciding}
use Rattle.piece_walk.specs.Pieces.{Piece}
use Rattle.service_walk.specs.Service.{Classed, at_chain, served, fates_among}
use Rattle.traced_walk.specs.Ways.{way_of, ways}
use Rattle.traced_walk.proofs.AsWalked.{same_long_fate}

module _ {F : Type 0} (b : Behaviour F) (d : Deciding F) where
  fate_of_way : (chains : List (List (Piece F))) (class : Option ℕ) (x : Classed) → (way_of b d chains class x).fate ≡ (served b chains class x.packet).fate
  fate_of_way chains None x = refl
  fate_of_way chains (Some chain) x = same_long_fate b d x.packet.time 1 (at_chain chains chain) x.packet.frame

  class_of_way : (chains : List (List (Piece F))) (class : Option ℕ) (x : Classed) → (way_of b d chains class x).class ≡ class
  class_of_way chains None x = refl
  class_of_way chains (Some chain) x = refl

  pub same_fates : (chains : List (List (Piece F))) (xs : List Classed) → map (λ way. way.fate) (ways b d chains xs) ≡ fates_among b chains xs
  unfolding ways fates_among
  same_fates chains [] = refl
  same_fates chains (x ∷ xs) =
      ap (λ fate. fate ∷ map (λ way. way.fate) (ways b d (served b chains x.class x.packet).chains xs)) (fate_of_way chains x.class x)
      ∙ ap (λ fates. (served b chains x.class x.packet).fate ∷ fates) (same_fates (served b chains x.class x.packet).chains xs)

  pub same_classes : (chains : List (List (Piece F))) (xs : List Classed) → map (λ way. way.class) (ways b d chains xs) ≡ map (λ x. x.class) xs
  unfolding ways
  same_classes chains [] = refl
  same_classes chains (x ∷ xs) =
      ap (λ class. class ∷ map (λ way. way.class) (ways b d (served b chains x.class x.packet).chains xs)) (class_of_way chains x.class x)
      ∙ ap (λ classes. x.class ∷ classes) (same_classes (served b chains x.class x.packet).chains xs)
