-- For proofs: what is written for what a capture gives, and the packets of a burst.
use Rattle.std.specs.Prelude.{List, [], ◌∷◌, ◌++◌, ℕ}
use Rattle.chain_walk.specs.declared.walk.Fate.{Fate}
use Rattle.classifier.specs.declared.burst.Item.{Item}
use Rattle.capture_items.specs.Streams.{spelled_with}
use Rattle.capture_items.specs.declared.given.Given.{Given}
use Rattle.capture_items.specs.declared.given.Given.TheVariants.{Packet, Block}
use Rattle.capture_run.specs.Emitted.{emitted}

-- the packets of a burst, each with what is beside its record
abbrev pub held_in : {X B : Type 0} → List Item → List X → List (Given X B)
held_in [] xs = []
held_in (i ∷ items) [] = []
held_in (i ∷ items) (x ∷ xs) = Packet i.packet x ∷ held_in items xs

-- what is written for all that was given, in its order: each block, and for each packet its result
unfoldable pub emitted_among : {X B : Type 0} → (Given X B → List ℕ) → List (Given X B) → List Fate → List ℕ
emitted_among spelled [] fates = []
emitted_among spelled (Block b ∷ more) fates = spelled (Block b) ++ emitted_among spelled more fates
emitted_among spelled (Packet r x ∷ more) [] = []
emitted_among spelled (Packet r x ∷ more) (fate ∷ fates) = emitted (spelled_with spelled x) r fate ++ emitted_among spelled more fates
