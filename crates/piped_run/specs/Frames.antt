-- For proofs: the frames of a burst, split into parts.
use Rattle.std.specs.Prelude.{◌≡◌, ℕ, List, map}
use Rattle.chain_walk.specs.Packets.{Packet}
use Rattle.chain_walk.specs.Step.{Behaviour}
use Rattle.chain_walk.specs.declared.walk.Fate.{Fate}
use Rattle.merge_ops.specs.Fates.{fate_behind}
use Rattle.merge_ops.specs.declared.merging.Merged.{Merged}
use Rattle.burst_law.specs.Bursts.{chain_burst}
use Rattle.stream_law.specs.Rests.{KeepsRests}
use Rattle.stream_law.specs.Apart.{all_apart}
use Rattle.stream_law.specs.Messages.{as_message}

-- Packets that are still to be split, each with room for this number of tags more.
pub record PlainFrames : Type 0 where
  pub taggers : ℕ
  pub packets : List Packet

-- all of them in parts
abbrev pub apart_from : PlainFrames → List Merged
apart_from frames = all_apart frames.taggers frames.packets

-- Packets in parts end as those of a burst that walks through the chain, and these are their fates. What is left of a
-- frame without its fields stays.
pub record EndsAs {F : Type 0} (b : Behaviour F) (functions : List F) (apart : List Merged) (fates : List Fate) : Type 0 where
  pub behind : List Merged
  pub fated : fates ≡ map fate_behind behind
  pub packets_are : map as_message behind ≡ (chain_burst b functions (map as_message apart)).gives
  pub rests : KeepsRests apart behind
