-- What is given in a row, and what is written for it, is that of each part.
use Rattle.std.proofs.Common.{◌≡◌, ◌+◌, ◌∙◌, ℕ, List, [], ◌∷◌, ◌++◌, length, refl, ap, sym, append_assoc, arith}
use Rattle.chain_walk.specs.declared.walk.Fate.{Fate}
use Rattle.classifier.specs.declared.burst.Item.{Item}
use Rattle.capture_report.specs.BurstWalkProofs.{records_of}
use Rattle.capture_run.specs.Emitted.{emitted}
use Rattle.capture_items.specs.Streams.{records_in, spelled_with}
use Rattle.capture_run.specs.Streams.{emitted_among, held_in}
use Rattle.capture_items.specs.declared.given.Given.{Given}
use Rattle.capture_items.specs.declared.given.Given.TheVariants.{Packet, Block}

pub records-append : {X B : Type 0} (xs ys : List (Given X B)) → records_in (xs ++ ys) ≡ records_in xs ++ records_in ys
records-append [] ys = refl
records-append (Packet r x ∷ xs) ys = ap (λ l. r ∷ l) (records-append xs ys)
records-append (Block b ∷ xs) ys = records-append xs ys

-- the records of a burst's packets
pub records_held : {X : Type 0} (B : Type 0) (items : List Item) (beside : List X) → length beside ≡ length items → records_in {X = X} {B = B} (held_in items beside) ≡ records_of items
records_held B [] beside many = refl
records_held B (i ∷ items) [] many = absurd (omega arith)
records_held B (i ∷ items) (x ∷ xs) many = ap (λ l. i.packet ∷ l) (records_held B items xs (omega arith))

-- a packet that is held after others
pub held_more : {X B : Type 0} (items : List Item) (beside : List X) (i : Item) (x : X) → length beside ≡ length items →
    held_in {X = X} {B = B} (items ++ i ∷ []) (beside ++ x ∷ []) ≡ held_in items beside ++ Packet i.packet x ∷ []
held_more [] [] i x many = refl
held_more [] (y ∷ beside) i x many = absurd (omega arith)
held_more (j ∷ items) [] i x many = absurd (omega arith)
held_more (j ∷ items) (y ∷ beside) i x many = ap (λ l. Packet j.packet y ∷ l) (held_more items beside i x (omega arith))

pub among-append : {X B : Type 0} (spelled : Given X B → List ℕ) (xs ys : List (Given X B)) (fs gs : List Fate) → length fs ≡ length (records_in xs) →
    emitted_among spelled (xs ++ ys) (fs ++ gs) ≡ emitted_among spelled xs fs ++ emitted_among spelled ys gs
unfolding emitted_among
among-append spelled [] ys [] gs many = refl
among-append spelled [] ys (f ∷ fs) gs many = absurd (omega arith)
among-append spelled (Block b ∷ xs) ys fs gs many =
    ap (λ l. spelled (Block b) ++ l) (among-append spelled xs ys fs gs many) ∙ sym (append_assoc (spelled (Block b)) (emitted_among spelled xs fs) (emitted_among spelled ys gs))
among-append spelled (Packet r x ∷ xs) ys [] gs many = absurd (omega arith)
among-append spelled (Packet r x ∷ xs) ys (f ∷ fs) gs many =
    ap (λ l. emitted (spelled_with spelled x) r f ++ l) (among-append spelled xs ys fs gs (omega arith)) ∙ sym (append_assoc (emitted (spelled_with spelled x) r f) (emitted_among spelled xs fs) (emitted_among spelled ys gs))

-- nothing is written for nothing
pub none_among : {X B : Type 0} (spelled : Given X B → List ℕ) (fs : List Fate) → emitted_among spelled [] fs ≡ []
unfolding emitted_among
none_among spelled fs = refl
