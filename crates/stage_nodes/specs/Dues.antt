-- For proofs: how the links of a node fit each other.
use Rattle.std.specs.Prelude.{◌≡◌, ◌<◌, ◌≤◌, ◌+◌, ◌*◌, ℕ, List, [], ◌∷◌, length, map, All, Bool, false}
use Rattle.action_profile.specs.Modes.{modes_of}
use Rattle.action_profile.specs.declared.parts.StageParts.{StageParts}
use Rattle.action_profile.specs.declared.parts.Touch.{Touch}
use Rattle.packet_version.specs.Splitting.{PlainApart}
use Rattle.packet_version.specs.Versions.{PlainVersion}
use Rattle.packet_messages.specs.Messages.{PlainMessage}
use Rattle.packet_messages.specs.Turns.{shares}
use Rattle.stage_nodes.specs.Streams.{Kit, parted, base_of, ran, left, merged_rows}
use Rattle.stage_nodes.specs.Flows.{MayTakeEach, AllBelong}

-- these messages are shared in turn among some links
abbrev pub AreShared : {A : Type 0} → List (List A) → List A → Type 0
AreShared links xs = (m : ℕ) × (0 < m) × (links ≡ shares m xs)

-- these come from the mergers of a stage, in turn
abbrev pub ComesFrom : List (List (PlainMessage PlainApart)) → List (PlainMessage PlainApart) → Type 0
ComesFrom inlets xs = AreShared inlets xs

-- for each branch of these touches, its versions of these packets are shared in turn among the links of its nodes
unfoldable pub AreFanned : List Touch → List (PlainMessage PlainApart) → List (List (List (PlainMessage PlainVersion))) → Type 0
AreFanned [] xs [] = Unit {0}
AreFanned [] xs (fan ∷ fans) = ⊥
AreFanned (t ∷ touches) xs [] = ⊥
AreFanned (t ∷ touches) xs (fan ∷ fans) = AreShared fan (map (parted t) xs) × AreFanned touches xs fans

-- nothing more is due on any of these links
abbrev pub NothingOwed : {A : Type 0} → List (List A) → Type 0
NothingOwed links = All (λ due. due ≡ []) links

-- `n` packets, which are these, are still to come to a dealer from its supply, and its links fit
pub record DealerDue {S : Type 0} (comes : S → List (PlainMessage PlainApart) → Type 0) (parts : StageParts) (n : ℕ) (xs : List (PlainMessage PlainApart)) (source : S) (versions : List (List (List (PlainMessage PlainVersion)))) (bases : List (List (PlainMessage PlainApart))) : Type 0 where
  pub mergers : ℕ
  pub some : 0 < mergers
  pub modes : parts.modes ≡ modes_of parts.touches
  pub branches : 0 < length parts.touches
  pub few : length parts.touches ≤ 64
  pub many : length xs ≡ n
  pub takes : comes source xs
  pub gives : AreFanned parts.touches xs versions
  pub gives_bases : bases ≡ shares mergers (map (base_of parts.touches) xs)

-- `n` versions are still to come to a node of a branch, of the packets with the numbers `p`, `p` + `step` and so on;
-- its links fit, and its functions are the due ones unless it is short
pub record BranchDue {F : Type 0} (k : Kit F) (may : F → ℕ → PlainVersion → Type 0) (step p n : ℕ) (end : F) (short : Bool) (f : F) (inlet : List (PlainMessage PlainVersion)) (outlets : List (List (PlainMessage PlainVersion))) : Type 0 where
  pub mergers : ℕ
  pub now : F
  pub some : 0 < mergers
  pub many : length inlet ≡ n
  pub few : p + n * step ≤ 4294967295
  pub take : MayTakeEach k may step now p inlet
  pub gives : outlets ≡ shares mergers (ran k now inlet)
  pub same : short ≡ false → f ≡ now
  pub ends : left k now inlet ≡ end

-- `n` bases are still to come to a merger, and its links fit
pub record MergerDue (n : ℕ) (bases : List (PlainMessage PlainApart)) (columns : List (List (PlainMessage PlainVersion))) (outlet : List (PlainMessage PlainApart)) : Type 0 where
  pub many : length bases ≡ n
  pub some : 0 < length columns
  pub few : length columns ≤ 64
  pub even : All (λ c. length c ≡ n) columns
  pub belong : AllBelong bases columns
  pub gives : outlet ≡ merged_rows bases columns
