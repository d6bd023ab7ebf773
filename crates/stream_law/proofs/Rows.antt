-- A burst after the mergers of a stage, packet by packet.
use Rattle.std.proofs.Common.{◌≡◌, ◌∙◌, ◌≤◌, ℕ, zero, suc, List, [], ◌∷◌, length, map, ap, refl, sym, subst}
use Rattle.std.specs.Prelude.{All, Some, slice_get}
use Rattle.std.specs.List.{cons_option}
use Rattle.std.proofs.lemmas.List.Elements.{All-nil, All-cons}
use Rattle.action_profile.specs.declared.parts.Touch.{Touch}
use Rattle.action_profile.specs.declared.rights.Profile.{Profile}
use Rattle.graph_law.specs.Branches.{BranchEnd}
use Rattle.graph_law.specs.Merging.{merged as merged_by_law}
use Rattle.packet_version.specs.Splitting.{PlainApart, IsWhole, packet_parts}
use Rattle.packet_version.specs.Versions.{PlainVersion}
use Rattle.packet_version.specs.Dealing.{based}
use Rattle.merge_ops.specs.Behind.{AreFrom}
use Rattle.merge_ops.specs.Taking.{merged}
use Rattle.merge_ops.specs.declared.arrival.Arrival.{Arrival}
use Rattle.merge_ops.specs.declared.merging.Merged.{Merged}
use Rattle.merge_ops.specs.declared.merging.Merged.TheVariants as ends
use Rattle.burst_law.specs.Bursts.{Message, Message.Here, ended, behind as behind_by_law, merged_from}
use Rattle.burst_law.specs.Stations.{across}
use Rattle.graph_run.specs.Carrying.{as_branch_end, as_end, values_in}
use Rattle.graph_run.specs.Stages.{AllCarried, GoesFrom, LeavesStage}
use Rattle.packet_messages.specs.Messages.{PlainMessage, PlainMessage.Live, PlainMessage.Nil, PlainMessage.Short, first, rest}
use Rattle.stage_nodes.specs.Streams.{base_of, as_arrival, of_merged, as_merged, joined, merged_rows}
use Rattle.stage_nodes.specs.Flows.{Belongs, AllBelong}
use Rattle.stream_law.specs.Messages.{as_message}
use Rattle.stream_law.specs.Ready.{Fits}
use Rattle.stream_law.proofs.Taken.{as_ends}
use Rattle.stream_law.proofs.Whole.{ValuesBehind, LastWrote, ShapeFits, merged_fits}

-- the laws of merging, as they are cited
abbrev pub RowIsFrom : Type 0
RowIsFrom = (chain : List Profile) (whole base : PlainApart) (high : ℕ) (touches : List Touch) (arrivals : List Arrival) →
    AllCarried chain whole high touches arrivals → base ≡ based touches whole → IsWhole (packet_parts whole) whole.rest → AreFrom whole touches base arrivals

abbrev pub RowEnds : Type 0
RowEnds = (chain : List Profile) (whole base : PlainApart) (low high : ℕ) (touches : List Touch) (arrivals : List Arrival) →
    AllCarried chain whole high touches arrivals → AreFrom whole touches base arrivals → GoesFrom chain low whole → low ≤ high →
    as_end (merged base arrivals) ≡ merged_by_law (values_in whole) (map as_branch_end arrivals)

abbrev pub RowLeaves : Type 0
RowLeaves = (chain : List Profile) (whole base : PlainApart) (low high : ℕ) (touches : List Touch) (arrivals : List Arrival) →
    AllCarried chain whole high touches arrivals → AreFrom whole touches base arrivals → GoesFrom chain low whole → low ≤ high →
    LeavesStage chain high whole (merged base arrivals)

pub record MergingLaws : Type 0 where
  pub from : RowIsFrom
  pub end : RowEnds
  pub leaves : RowLeaves
  pub values : ValuesBehind
  pub wrote : LastWrote
  pub shape : ShapeFits

-- there and back
pub as_of : (m : Merged) → as_merged (of_merged m) ≡ m
as_of (ends.Whole whole) = refl
as_of (ends.Gone p) = refl
as_of ends.Short = refl

pub of_as : (x : PlainMessage PlainApart) → of_merged (as_merged x) ≡ x
of_as (Live whole) = refl
of_as (Nil p) = refl
of_as Short = refl

pub all_as_of : (packets : List Merged) → map as_merged (map of_merged packets) ≡ packets
all_as_of [] = refl
all_as_of (m ∷ packets) = λ i. as_of m i ∷ all_as_of packets i

pub all_of_as : (xs : List (PlainMessage PlainApart)) → map of_merged (map as_merged xs) ≡ xs
all_of_as [] = refl
all_of_as (x ∷ xs) = λ i. of_as x i ∷ all_of_as xs i

-- what becomes of a packet: a dropped packet stays dropped
abbrev pub Follows : List Profile → ℕ → Merged → Merged → Type 0
Follows chain next (ends.Whole whole) after = LeavesStage chain next whole after
Follows chain next (ends.Gone p) after = after ≡ ends.Gone p
Follows chain next ends.Short after = ⊥

-- After a stage there is one packet for each, in their order, and it may go on from this position, or was dropped.
pub record LeavesBurst (chain : List Profile) (next : ℕ) (packets after : List Merged) : Type 0 where
  pub count : length after ≡ length packets
  pub each : (k : ℕ) (m n : Merged) → slice_get packets k ≡ Some m → slice_get after k ≡ Some n → Follows chain next m n

pub same_some : {A : Type 0} (x y : A) → Some x ≡ Some y → x ≡ y
same_some x y e = cc

leaves_none : (chain : List Profile) (next : ℕ) → LeavesBurst chain next [] []
leaves_none chain next = record { count = refl; each = λ k m n a e. absurd cc }

leaves_more : (chain : List Profile) (next : ℕ) (m n : Merged) (packets after : List Merged) → Follows chain next m n → LeavesBurst chain next packets after → LeavesBurst chain next (m ∷ packets) (n ∷ after)
leaves_more chain next m n packets after here later = record { count = ap suc later.count; each = at }
  where
    at : (k : ℕ) (x y : Merged) → slice_get (m ∷ packets) k ≡ Some x → slice_get (n ∷ after) k ≡ Some y → Follows chain next x y
    at zero x y a e = subst (λ z. Follows chain next z y) (same_some m x a) (subst (Follows chain next m) (same_some n y e) here)
    at (suc k) x y a e = later.each k x y a e

-- a merger's result for a packet for which the branches gave this
abbrev pub joined_of : List Touch → Merged → List (PlainMessage PlainVersion) → Merged
joined_of touches m row = as_merged (joined (base_of touches (of_merged m)) row)

-- It belongs to the packet, ends as the law of bursts says, follows the packet, and is whole again.
pub record PacketPasses (chain : List Profile) (high : ℕ) (touches : List Touch) (m : Merged) (row : List (PlainMessage PlainVersion)) : Type 0 where
  pub belongs : Belongs (base_of touches (of_merged m)) row
  pub message : as_message (joined_of touches m row) ≡ behind_by_law (as_message m) (as_ends row)
  pub follows : Follows chain high m (joined_of touches m row)
  pub fits : Fits (joined_of touches m row)

message_of_end : (chain : List Profile) (high : ℕ) (whole : PlainApart) (m : Merged) → LeavesStage chain high whole m → as_message m ≡ ended whole.fixed (as_end m)
message_of_end chain high whole (ends.Whole after) leaves = ap (λ f. Here f (values_in after)) leaves.fixed
message_of_end chain high whole (ends.Gone p) leaves = refl
message_of_end chain high whole ends.Short leaves = absurd leaves

pub whole_passes : (chain : List Profile) (low high : ℕ) (touches : List Touch) (whole : PlainApart) (row : List (PlainMessage PlainVersion)) → MergingLaws → GoesFrom chain low whole → IsWhole (packet_parts whole) whole.rest → low ≤ high →
    AllCarried chain whole high touches (map as_arrival row) → PacketPasses chain high touches (ends.Whole whole) row
whole_passes chain low high touches whole row laws goes fits rises carried =
    let base : PlainApart = based touches whole in
    let came : List Arrival = map as_arrival row in
    let end : Merged = merged base came in
    let from = laws.from chain whole base high touches came carried refl fits in
    let leaves = laws.leaves chain whole base low high touches came carried from goes rises in
    record {
      belongs = record { whole = whole; touches = touches; from = from };
      message = ap as_message (as_of end) ∙ message_of_end chain high whole end leaves ∙ ap (ended whole.fixed) (laws.end chain whole base low high touches came carried from goes rises);
      follows = subst (LeavesStage chain high whole) (sym (as_of end)) leaves;
      fits = subst Fits (sym (as_of end)) (merged_fits chain high whole touches came laws.values laws.wrote laws.shape from leaves);
    }

pub gone_passes : (chain : List Profile) (high : ℕ) (touches : List Touch) (p : ℕ) (row : List (PlainMessage PlainVersion)) → PacketPasses chain high touches (ends.Gone p) row
gone_passes chain high touches p row = record { belongs = tt; message = refl; follows = refl; fits = tt }

-- the mergers' results for packets for which each branch gave a column
abbrev pub joined_all : List Touch → List Merged → List (List (PlainMessage PlainVersion)) → List Merged
joined_all touches packets columns = map as_merged (merged_rows (map (base_of touches) (map of_merged packets)) columns)

pub record RowsPass (chain : List Profile) (high : ℕ) (touches : List Touch) (packets : List Merged) (columns : List (List (PlainMessage PlainVersion))) : Type 0 where
  pub belong : AllBelong (map (base_of touches) (map of_merged packets)) columns
  pub messages : map as_message (joined_all touches packets columns) ≡ merged_from 0 (map as_message packets) (map as_ends columns)
  pub leaves : LeavesBurst chain high packets (joined_all touches packets columns)
  pub fits : All Fits (joined_all touches packets columns)

pub none_pass : (chain : List Profile) (high : ℕ) (touches : List Touch) (columns : List (List (PlainMessage PlainVersion))) → RowsPass chain high touches [] columns
unfolding AllBelong merged_rows
none_pass chain high touches columns = record { belong = tt; messages = refl; leaves = leaves_none chain high; fits = All-nil Fits }

-- the rows after the first
across_more : (k : ℕ) (columns : List (List (PlainMessage PlainVersion))) → across (suc k) (map as_ends columns) ≡ across k (map as_ends (map rest columns))
across_more k [] = refl
across_more k ([] ∷ columns) = across_more k columns
across_more k ((x ∷ c) ∷ columns) = ap (cons_option (slice_get (as_ends c) k)) (across_more k columns)

merged_more : (k : ℕ) (ms : List Message) (columns : List (List (PlainMessage PlainVersion))) → merged_from (suc k) ms (map as_ends columns) ≡ merged_from k ms (map as_ends (map rest columns))
merged_more k [] columns = refl
merged_more k (m ∷ ms) columns = λ i. behind_by_law m (across_more k columns i) ∷ merged_more (suc k) ms columns i

-- one more packet before them
pub more_pass : (chain : List Profile) (high : ℕ) (touches : List Touch) (m : Merged) (packets : List Merged) (columns : List (List (PlainMessage PlainVersion))) → across 0 (map as_ends columns) ≡ as_ends (map first columns) →
    PacketPasses chain high touches m (map first columns) → RowsPass chain high touches packets (map rest columns) → RowsPass chain high touches (m ∷ packets) columns
unfolding AllBelong merged_rows
more_pass chain high touches m packets columns front here later = record {
  belong = (here.belongs, later.belong);
  messages = λ i. (here.message ∙ ap (λ (r : List BranchEnd). behind_by_law (as_message m) r) (sym front)) i ∷ (later.messages ∙ sym (merged_more 0 (map as_message packets) columns)) i;
  leaves = leaves_more chain high m (joined_of touches m (map first columns)) packets (joined_all touches packets (map rest columns)) here.follows later.leaves;
  fits = All-cons Fits (joined_of touches m (map first columns)) (joined_all touches packets (map rest columns)) here.fits later.fits;
}
