-- For proofs: how the acts of functions on a packet follow each other, and which of them dropped it.
use Rattle.std.specs.Prelude.{◌≡◌, ℕ, ◌+◌, List, [], ◌∷◌, ◌++◌, length, All, true, false}
use Rattle.chain_walk.specs.declared.walk.Fate.{Fate}
use Rattle.chain_walk.specs.declared.walk.Fate.TheVariants.{Out, Gone}
use Rattle.traced_walk.specs.Traced.{Act}

abbrev pub Passes : Act → Type 0
Passes act = act.dropped ≡ false

-- The last act dropped the packet and none before it; the first is that of the function at position `first`.
pub record LastDrops (first place : ℕ) (acts : List Act) : Type 0 where
  pub front : List Act
  pub last : Act
  pub parts : acts ≡ front ++ last ∷ []
  pub passes : All Passes front
  pub drops : last.dropped ≡ true
  pub position : place ≡ first + length front

-- Of the functions from position `first` on, `count` in number, these acts led to this fate: either each function
-- passed the packet on, or the last that acted dropped it, and it is the one that is named.
abbrev pub LedTo : ℕ → ℕ → List Act → Fate → Type 0
LedTo first count acts (Out frame) = All Passes acts × (length acts ≡ count)
LedTo first count acts (Gone place) = LastDrops first place acts

-- each act begins with the frame that the one before left, the first with this frame
abbrev pub Follow : List ℕ → List Act → Type 0
Follow frame [] = Unit {0}
Follow frame (act ∷ later) = (act.before ≡ frame) × Follow act.after later

-- the frame that the last act left
abbrev pub left_by : List ℕ → List Act → List ℕ
left_by frame [] = frame
left_by frame (act ∷ later) = left_by act.after later

-- a frame that goes out is this one
abbrev pub IfOut : List ℕ → Fate → Type 0
IfOut frame (Out out) = out ≡ frame
IfOut frame (Gone position) = Unit {0}

-- an act that dropped a packet has exactly one line
abbrev pub HasCause : Act → Type 0
HasCause act = act.dropped ≡ true → length act.lines ≡ 1
