-- For proofs: which packets every node of a stage takes, and what is due on every end of every link and board of the
-- stage, to which some packets come: for each edge its `stream`, or one merger's share of it.
use Rattle.std.specs.Prelude.{◌≡◌, ◌++◌, ℕ, zero, suc, pred, Bool, false, true, List, [], ◌∷◌, length, map}
use Rattle.action_profile.specs.declared.parts.Touch.{Touch}
use Rattle.packet_version.specs.Splitting.{PlainApart}
use Rattle.packet_version.specs.Versions.{PlainVersion}
use Rattle.packet_messages.specs.Messages.{PlainMessage}
use Rattle.packet_messages.specs.Turns.{share, share_len, shares}
use Rattle.stage_nodes.specs.Streams.{Kit, PlainStage, Edge.Behind, Edge.FromBranch, Edge.ToBranch, Edge.ToMergers, came_from, stream}
use Rattle.stage_nodes.specs.Turns.{places}
use Rattle.stage_nodes.specs.declared.branch.Branch as branches
use Rattle.node_run.specs.declared.node.Node.{Node}
use Rattle.node_run.specs.declared.node.Node.TheVariants.{Dealer, Branch, Replica, Merger}
use Rattle.node_run.specs.declared.wire.WiredStage.{WiredStage}

-- the numbers of these packets in the burst, counted from 0
abbrev pub numbers : List (PlainMessage PlainApart) → List ℕ
numbers xs = places 0 1 (length xs)

-- The packets that a node takes, by their numbers and in its order, and what is due on its ends: for a dealer, which
-- takes all packets, on those of the links from its supply, to the nodes of each branch and to the mergers; for a branch
-- or a replica, on those from the dealer and to each of its mergers; for a merger, on those from the dealer, from each
-- branch, and onwards.
pub data NodeEnds : Type 0 where
  DealerEnds : (source : List (List (PlainMessage PlainApart))) (versions : List (List (List (PlainMessage PlainVersion)))) (bases : List (List (PlainMessage PlainApart))) → NodeEnds
  BranchEnds : (own : List ℕ) (inlet : List (PlainMessage PlainVersion)) (outlets : List (List (PlainMessage PlainVersion))) → NodeEnds
  ReplicaEnds : (own : List ℕ) (inlet : List (PlainMessage PlainVersion)) (outlets : List (List (PlainMessage PlainVersion))) → NodeEnds
  MergerEnds : (own : List ℕ) (base : List (PlainMessage PlainApart)) (inlets : List (List (PlainMessage PlainVersion))) (outlet : List (PlainMessage PlainApart)) → NodeEnds

abbrev pub ends_at : {F : Type 0} → Node F → NodeEnds
ends_at (Dealer d) = DealerEnds d.source d.to.ends.versions d.to.ends.bases
ends_at (Branch b) = BranchEnds (places b.first b.step b.count) b.inlet b.to.ends
ends_at (Replica b) = ReplicaEnds (places b.first b.step b.count) b.inlet b.to.ends
ends_at (Merger m) = MergerEnds (places m.first m.step m.count) m.base m.inlets m.to.ends

-- This number of replicas of a branch with this touch and these functions, for the mergers from `i` on, of `m`: each
-- takes its merger's packets, and has its merger's share of what is due to the branch, and of what is due from it.
unfoldable pub replica_ends : {F : Type 0} → Kit F → ℕ → List (PlainMessage PlainApart) → Touch → F → ℕ → ℕ → List NodeEnds
replica_ends k m xs t f i zero = []
replica_ends k m xs t f i (suc c) =
    ReplicaEnds (share m i (numbers xs)) (share m i (stream k xs (ToBranch t))) (share m i (stream k xs (FromBranch t f)) ∷ [])
    ∷ replica_ends k m xs t f (suc i) c

-- the nodes of a branch: one for all mergers, or, if it is split, one for the first and replicas for the others
abbrev pub branch_ends : {F : Type 0} → Kit F → ℕ → List (PlainMessage PlainApart) → Bool → Touch → F → List NodeEnds
branch_ends k m xs false t f = BranchEnds (numbers xs) (stream k xs (ToBranch t)) (shares m (stream k xs (FromBranch t f))) ∷ []
branch_ends k m xs true t f =
    BranchEnds (share m 0 (numbers xs)) (share m 0 (stream k xs (ToBranch t))) (share m 0 (stream k xs (FromBranch t f)) ∷ [])
    ∷ replica_ends k m xs t f 1 (pred m)

-- and of all branches of a stage, in branch order
unfoldable pub branches_ends : {F : Type 0} → Kit F → ℕ → List (PlainMessage PlainApart) → List Bool → List Touch → List F → List NodeEnds
branches_ends k m xs [] touches fs = []
branches_ends k m xs (split ∷ splits) [] fs = []
branches_ends k m xs (split ∷ splits) (t ∷ touches) [] = []
branches_ends k m xs (split ∷ splits) (t ∷ touches) (f ∷ fs) = branch_ends k m xs split t f ++ branches_ends k m xs splits touches fs

-- the dealer's ends of the links to the nodes of a branch
abbrev pub version_ends : {F : Type 0} → Kit F → ℕ → List (PlainMessage PlainApart) → Bool → Touch → List (List (PlainMessage PlainVersion))
version_ends k m xs false t = stream k xs (ToBranch t) ∷ []
version_ends k m xs true t = shares m (stream k xs (ToBranch t))

unfoldable pub versions_ends : {F : Type 0} → Kit F → ℕ → List (PlainMessage PlainApart) → List Bool → List Touch → List (List (List (PlainMessage PlainVersion)))
versions_ends k m xs [] touches = []
versions_ends k m xs (split ∷ splits) [] = []
versions_ends k m xs (split ∷ splits) (t ∷ touches) = version_ends k m xs split t ∷ versions_ends k m xs splits touches

-- this number of a stage's mergers, from `i` on, of `m`: each takes its share of the packets, and has its share from
-- the dealer and each branch, and onwards
unfoldable pub merger_ends : {F : Type 0} → Kit F → ℕ → PlainStage F → List (PlainMessage PlainApart) → ℕ → ℕ → List NodeEnds
merger_ends k m s xs i zero = []
merger_ends k m s xs i (suc c) =
    MergerEnds (share m i (numbers xs)) (share m i (stream k xs (ToMergers s.parts.touches))) (map (share m i) (came_from k s.parts.touches s.branches xs)) (share m i (stream k xs (Behind s)))
    ∷ merger_ends k m s xs (suc i) c

-- the replicas follow the others
abbrev pub as_lead : NodeEnds → List NodeEnds
as_lead (DealerEnds source versions bases) = DealerEnds source versions bases ∷ []
as_lead (BranchEnds own inlet outlets) = BranchEnds own inlet outlets ∷ []
as_lead (ReplicaEnds own inlet outlets) = []
as_lead (MergerEnds own base inlets outlet) = MergerEnds own base inlets outlet ∷ []

abbrev pub as_replica : NodeEnds → List NodeEnds
as_replica (DealerEnds source versions bases) = []
as_replica (BranchEnds own inlet outlets) = []
as_replica (ReplicaEnds own inlet outlets) = ReplicaEnds own inlet outlets ∷ []
as_replica (MergerEnds own base inlets outlet) = []

unfoldable pub leads : List NodeEnds → List NodeEnds
leads [] = []
leads (n ∷ ns) = as_lead n ++ leads ns

unfoldable pub replicas : List NodeEnds → List NodeEnds
replicas [] = []
replicas (n ∷ ns) = as_replica n ++ replicas ns

abbrev pub replicas_behind : List NodeEnds → List NodeEnds
replicas_behind nodes = leads nodes ++ replicas nodes

-- A stage with `m` mergers, to which these packets come, has these nodes and no others. Each takes these packets, and on
-- each of its ends this is due; so it is on the dealer's, and on those from which packets come after the stage. For each
-- branch it says if it is split.
pub record IsOnEdges {F S : Type 0} (k : Kit F) (m : ℕ) (s : PlainStage F) (xs : List (PlainMessage PlainApart)) (w : WiredStage F S) : Type 0 where
  pub split : List Bool
  pub each : length split ≡ length s.parts.touches
  pub versions : w.dealer.to.ends.versions ≡ versions_ends k m xs split s.parts.touches
  pub bases : w.dealer.to.ends.bases ≡ shares m (stream k xs (ToMergers s.parts.touches))
  pub nodes : map ends_at w.nodes.items ≡ replicas_behind (branches_ends k m xs split s.parts.touches s.branches) ++ merger_ends k m s xs 0 m
  pub next : w.next ≡ shares m (stream k xs (Behind s))

-- How these nodes come about, for this number of packets: ends are given out one after another.

-- to the mergers from `i` on, of `m`, each of which takes the first of each kind that are left
unfoldable pub to_mergers : (m i count : ℕ) → List (List (PlainMessage PlainApart)) → List (List (List (PlainMessage PlainVersion))) → List (List (PlainMessage PlainApart)) → List NodeEnds
to_mergers m i count [] inlets outlets = []
to_mergers m i count (b ∷ bases) [] outlets = []
to_mergers m i count (b ∷ bases) (x ∷ inlets) [] = []
to_mergers m i count (b ∷ bases) (x ∷ inlets) (o ∷ outlets) =
    MergerEnds (places i m (share_len m i count)) b x o ∷ to_mergers m (suc i) count bases inlets outlets

-- to replicas, for the mergers from `i` on, each of which takes the first of both kinds
unfoldable pub to_replicas : (m i count : ℕ) → List (List (PlainMessage PlainVersion)) → List (List (PlainMessage PlainVersion)) → List NodeEnds
to_replicas m i count [] ends = []
to_replicas m i count (x ∷ inlets) [] = []
to_replicas m i count (x ∷ inlets) (e ∷ ends) =
    ReplicaEnds (places i m (share_len m i count)) x (e ∷ []) ∷ to_replicas m (suc i) count inlets ends

-- and to the node of a branch that is split, and to its replicas
unfoldable pub to_split : (m count : ℕ) → List (List (PlainMessage PlainVersion)) → List (List (PlainMessage PlainVersion)) → List NodeEnds
to_split m count [] ends = []
to_split m count (x ∷ inlets) [] = []
to_split m count (x ∷ inlets) (e ∷ ends) = BranchEnds (places 0 m (share_len m 0 count)) x (e ∷ []) ∷ to_replicas m 1 count inlets ends

-- some nodes with these ends have joined others
pub record HaveJoined {F : Type 0} (more : List NodeEnds) (old new : List (Node F)) : Type 0 where
  pub all : map ends_at new ≡ map ends_at old ++ more

-- the replicas were appended after the others
pub record AreBehind {F : Type 0} (old new : List (Node F)) : Type 0 where
  pub all : map ends_at new ≡ replicas_behind (map ends_at old)

-- The node for merger `i` of `m`, of a branch that is split, takes the merger's packets, of this number in all, and has
-- the first of these ends.
pub record HasFirst {F : Type 0} (m i count : ℕ) (b : branches.Branch F) (inlets inlets' ends ends' : List (List (PlainMessage PlainVersion))) : Type 0 where
  pub own : places b.first b.step b.count ≡ places i m (share_len m i count)
  pub takes : inlets ≡ b.inlet ∷ inlets'
  pub end : List (PlainMessage PlainVersion)
  pub first : ends ≡ end ∷ ends'
  pub gives : b.to.ends ≡ end ∷ []
