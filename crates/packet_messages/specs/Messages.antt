-- For proofs: messages without their boxes, and what is still due on a link.
use Rattle.std.specs.Prelude.{◌≡◌, ◌<◌, ◌++◌, ℕ, List, [], ◌∷◌, ◌⊎◌, length, Option, Some, None, Bool, true, false, ⊤}
use Rattle.packet_messages.specs.declared.message.Message.{Message}
use Rattle.packet_messages.specs.declared.message.Message.TheVariants as made

-- a packet's part, the chain position of the function that dropped it, or out of memory
pub data PlainMessage (P : Type 0) : Type 0 where
  Live : (part : P) → PlainMessage P
  Nil : (position : ℕ) → PlainMessage P
  Short : PlainMessage P

-- a message without its box
abbrev pub plain : {P : Type 0} → Message P → PlainMessage P
plain (made.Live b) = Live b.value
plain (made.Nil q) = Nil q
plain made.Short = Short

-- a message fits what is due if it is that message or is short
abbrev pub Fits : {P : Type 0} → PlainMessage P → PlainMessage P → Type 0
Fits due message = (message ≡ due) ⊎ (message ≡ Short)

-- as many messages as are due, and each fits the due one of its place
unfoldable pub AllFit : {P : Type 0} → List (PlainMessage P) → List (PlainMessage P) → Type 0
AllFit [] [] = ⊤
AllFit [] (m ∷ ms) = ⊥
AllFit (d ∷ ds) [] = ⊥
AllFit (d ∷ ds) (m ∷ ms) = Fits d m × AllFit ds ms

-- the next due message
abbrev pub first : {P : Type 0} → List (PlainMessage P) → PlainMessage P
first [] = Short
first (m ∷ ms) = m

-- what is due after it
abbrev pub rest : {A : Type 0} → List A → List A
rest [] = []
rest (m ∷ ms) = ms

-- the first element of some lists
abbrev pub front : {A : Type 0} → List (List A) → List A
front [] = []
front (l ∷ ls) = l

-- the lists after the first gave its next message, and went to the back
abbrev pub turned : {A : Type 0} → List (List A) → List (List A)
turned [] = []
turned (l ∷ ls) = ls ++ rest l ∷ []

-- something is due
abbrev pub Owing : {A : Type 0} → List A → Type 0
Owing l = 0 < length l

-- a message without a packet's part
abbrev pub word : {P : Type 0} → Option ℕ → PlainMessage P
word (Some position) = Nil position
word None = Short

-- the node ran out of memory
abbrev pub is_short : {P : Type 0} → PlainMessage P → Bool
is_short (Live part) = false
is_short (Nil position) = false
is_short Short = true
