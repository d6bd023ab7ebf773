-- What is due on every end of every link and board of a stage.
use Rattle.std.proofs.Common.{◌≡◌, ◌≢◌, ◌<◌, ◌≤◌, ◌+◌, ◌-◌, ◌∙◌, ℕ, zero, suc, List, [], ◌∷◌, ◌++◌, false, true, length, map, refl, arith, ap, sym, subst, append_assoc}
use Rattle.std.proofs.lemmas.List.{append-nil, map-append}
use Rattle.action_profile.specs.declared.parts.Touch.{Touch}
use Rattle.packet_version.specs.Splitting.{PlainApart}
use Rattle.packet_version.specs.Versions.{PlainVersion}
use Rattle.packet_messages.specs.Messages.{PlainMessage}
use Rattle.packet_messages.specs.Turns.{share, share_len, shares_from, shares, columns_from, columns}
use Rattle.packet_messages.proofs.Turning.{one_share}
use Rattle.stage_nodes.specs.Streams.{Kit, PlainStage, Edge.Behind, Edge.FromBranch, Edge.ToBranch, Edge.ToMergers, came_from, stream}
use Rattle.stage_nodes.specs.Turns.{places}
use Rattle.stage_nodes.specs.declared.branch.Branch.{Branch}
use Rattle.node_run.specs.declared.branches.Branches.{Branches}
use Rattle.node_run.specs.declared.node.Node.{Node}
use Rattle.node_run.specs.declared.node.Node.TheVariants as node
use Rattle.node_run.specs.declared.wire.WiredStage.{WiredStage}
use Rattle.node_run.specs.Edges.{NodeEnds, NodeEnds.BranchEnds, NodeEnds.MergerEnds, NodeEnds.ReplicaEnds, AreBehind, HasFirst, HaveJoined, IsOnEdges, as_lead, as_replica, branch_ends, branches_ends, ends_at, leads, merger_ends, numbers, replica_ends, replicas, replicas_behind, to_mergers, to_replicas, to_split}
use Rattle.node_run.specs.Wired.{AreWired, MergersFit}
use Rattle.node_run.proofs.Shares.{own_share}
use Rattle.node_run.proofs.Wiring.{tail_is}
use Rattle.node_run.proofs.Replicating.{AreComing}

pub one_joined : {F : Type 0} (old new : List (Node F)) (n : Node F) → new ≡ old ++ n ∷ [] → HaveJoined (ends_at n ∷ []) old new
one_joined old new n e = record { all = ap (map ends_at) e ∙ map-append ends_at old (n ∷ []) }

-- these are still to join some nodes, and then all are there
pub record WillJoin {F : Type 0} (all : List NodeEnds) (nodes : List (Node F)) (more : List NodeEnds) : Type 0 where
  pub so_far : map ends_at nodes ++ more ≡ all

-- the replicas after the others

no_replica : {F : Type 0} (n : Node F) → ((b : Branch F) → n ≢ node.Replica b) → (as_lead (ends_at n) ≡ ends_at n ∷ []) × (as_replica (ends_at n) ≡ [])
no_replica (node.Dealer d) never = (refl, refl)
no_replica (node.Branch b) never = (refl, refl)
no_replica (node.Replica b) never = absurd (never b refl)
no_replica (node.Merger m) never = (refl, refl)

pub lead_joined : {F : Type 0} (old new : List (Node F)) (n : Node F) → ((b : Branch F) → n ≢ node.Replica b) → new ≡ old ++ n ∷ [] → HaveJoined (as_lead (ends_at n)) old new
lead_joined old new n never e = record { all = (one_joined old new n e).all ∙ ap (λ y. map ends_at old ++ y) (sym (no_replica n never).0) }

pub lead_elsewhere : {F : Type 0} (old new : List (Node F)) (n : Node F) → ((b : Branch F) → n ≢ node.Replica b) → new ≡ old → HaveJoined (as_replica (ends_at n)) old new
lead_elsewhere old new n never e = record { all = ap (map ends_at) e ∙ sym (append-nil (map ends_at old)) ∙ ap (λ y. map ends_at old ++ y) (sym (no_replica n never).1) }

pub replica_joined : {F : Type 0} (old new : List (Node F)) (n : Node F) (b : Branch F) → n ≡ node.Replica b → new ≡ old ++ node.Replica b ∷ [] → HaveJoined (as_replica (ends_at n)) old new
replica_joined old new n b is e = record { all = (one_joined old new (node.Replica b) e).all ∙ ap (λ (y : Node _). map ends_at old ++ as_replica (ends_at y)) (sym is) }

pub replica_elsewhere : {F : Type 0} (old new : List (Node F)) (n : Node F) (b : Branch F) → n ≡ node.Replica b → new ≡ old → HaveJoined (as_lead (ends_at n)) old new
replica_elsewhere old new n b is e = record { all = ap (map ends_at) e ∙ sym (append-nil (map ends_at old)) ∙ ap (λ (y : Node _). map ends_at old ++ as_lead (ends_at y)) (sym is) }

-- some are in order, except for these
pub record AreOrdered {F : Type 0} (all front behind todo : List (Node F)) : Type 0 where
  pub leads_are : map ends_at front ++ leads (map ends_at todo) ≡ leads (map ends_at all)
  pub replicas_are : map ends_at behind ++ replicas (map ends_at todo) ≡ replicas (map ends_at all)

pub none_ordered : {F : Type 0} (all front behind todo : List (Node F)) → todo ≡ all → front ≡ [] → behind ≡ [] → AreOrdered all front behind todo
none_ordered {F} all front behind todo t a b = record {
  leads_are = ap (λ (y : List (Node F)). map ends_at y ++ leads (map ends_at todo)) a ∙ ap (λ (y : List (Node F)). leads (map ends_at y)) t;
  replicas_are = ap (λ (y : List (Node F)). map ends_at y ++ replicas (map ends_at todo)) b ∙ ap (λ (y : List (Node F)). replicas (map ends_at y)) t;
}

pub one_ordered : {F : Type 0} (all front front' behind behind' was todo : List (Node F)) (n : Node F)
    → was ≡ n ∷ todo → HaveJoined (as_lead (ends_at n)) front front' → HaveJoined (as_replica (ends_at n)) behind behind' → AreOrdered all front behind was → AreOrdered all front' behind' todo
unfolding leads replicas
one_ordered {F} all front front' behind behind' was todo n t a b h = record {
  leads_are = ap (λ y. y ++ leads (map ends_at todo)) a.all ∙ append_assoc (map ends_at front) (as_lead (ends_at n)) (leads (map ends_at todo))
      ∙ ap (λ (y : List (Node F)). map ends_at front ++ leads (map ends_at y)) (sym t) ∙ h.leads_are;
  replicas_are = ap (λ y. y ++ replicas (map ends_at todo)) b.all ∙ append_assoc (map ends_at behind) (as_replica (ends_at n)) (replicas (map ends_at todo))
      ∙ ap (λ (y : List (Node F)). map ends_at behind ++ replicas (map ends_at y)) (sym t) ∙ h.replicas_are;
}

pub all_ordered : {F : Type 0} (all front behind todo new : List (Node F)) → AreOrdered all front behind todo → todo ≡ [] → new ≡ front ++ behind → AreBehind all new
unfolding leads replicas
all_ordered {F} all front behind todo new h t e =
    let first : map ends_at front ≡ leads (map ends_at all) = sym (append-nil (map ends_at front)) ∙ ap (λ (y : List (Node F)). map ends_at front ++ leads (map ends_at y)) (sym t) ∙ h.leads_are in
    let last : map ends_at behind ≡ replicas (map ends_at all) = sym (append-nil (map ends_at behind)) ∙ ap (λ (y : List (Node F)). map ends_at behind ++ replicas (map ends_at y)) (sym t) ∙ h.replicas_are in
    record { all = ap (map ends_at) e ∙ map-append ends_at front behind ∙ ap (λ y. y ++ map ends_at behind) first ∙ ap (λ y. leads (map ends_at all) ++ y) last }

-- a branch of one node

pub fan_alone : (versions : List (PlainMessage PlainVersion)) (fan : List (List (PlainMessage PlainVersion))) (old new : List (List (List (PlainMessage PlainVersion))))
    → fan ≡ shares 1 versions → new ≡ old ++ fan ∷ [] → new ≡ old ++ (versions ∷ []) ∷ []
fan_alone versions fan old new e n = n ∙ ap (λ y. old ++ y ∷ []) (e ∙ one_share versions)

pub alone_joined : {F : Type 0} (k : Kit F) (m : ℕ) (xs : List (PlainMessage PlainApart)) (t : Touch) (f : F) (b : Branch F) (inlets inlets' : List (List (PlainMessage PlainVersion))) (old new : List (Node F))
    → inlets ≡ shares 1 (stream k xs (ToBranch t)) → inlets ≡ b.inlet ∷ inlets' → b.to.ends ≡ shares m (stream k xs (FromBranch t f)) → new ≡ old ++ node.Branch b ∷ []
    → places b.first b.step b.count ≡ numbers xs → HaveJoined (branch_ends k m xs false t f) old new
alone_joined k m xs t f b inlets inlets' old new i is o n own =
    let inlet : b.inlet ≡ stream k xs (ToBranch t) = (tail_is (sym is ∙ i ∙ one_share (stream k xs (ToBranch t)))).0 in
    record { all = (one_joined old new (node.Branch b) n).all ∙ (λ j. map ends_at old ++ (BranchEnds (own j) (inlet j) (o j) ∷ [])) }

-- a branch that is split

pub split_first : {F : Type 0} (m count : ℕ) (b : Branch F) (inlets inlets' ends ends' : List (List (PlainMessage PlainVersion))) (old new : List (Node F))
    → new ≡ old ++ node.Branch b ∷ [] → HasFirst m 0 count b inlets inlets' ends ends' → WillJoin (map ends_at old ++ to_split m count inlets ends) new (to_replicas m 1 count inlets' ends')
unfolding to_split
split_first m count b inlets inlets' ends ends' old new n h =
    let later = to_replicas m 1 count inlets' ends' in record {
      so_far = ap (λ y. y ++ later) (one_joined old new (node.Branch b) n).all
          ∙ append_assoc (map ends_at old) (BranchEnds (places b.first b.step b.count) b.inlet b.to.ends ∷ []) later
          ∙ (λ j. map ends_at old ++ (BranchEnds (h.own j) b.inlet (h.gives j) ∷ later))
          ∙ ap (λ y. map ends_at old ++ to_split m count y (h.end ∷ ends')) (sym h.takes)
          ∙ ap (λ y. map ends_at old ++ to_split m count inlets y) (sym h.first);
    }

pub split_more : {F : Type 0} (all : List NodeEnds) (m i count : ℕ) (b : Branch F) (inlets inlets' ends ends' : List (List (PlainMessage PlainVersion))) (old new : List (Node F))
    → new ≡ old ++ node.Replica b ∷ [] → HasFirst m i count b inlets inlets' ends ends'
    → WillJoin all old (to_replicas m i count inlets ends) → WillJoin all new (to_replicas m (i + 1) count inlets' ends')
unfolding to_replicas
split_more all m i count b inlets inlets' ends ends' old new n h was =
    let up : i + 1 ≡ suc i = omega arith in
    let later = to_replicas m (i + 1) count inlets' ends' in record {
      so_far = ap (λ y. y ++ later) (one_joined old new (node.Replica b) n).all
          ∙ append_assoc (map ends_at old) (ReplicaEnds (places b.first b.step b.count) b.inlet b.to.ends ∷ []) later
          ∙ (λ j. map ends_at old ++ (ReplicaEnds (h.own j) b.inlet (h.gives j) ∷ to_replicas m (up j) count inlets' ends'))
          ∙ ap (λ y. map ends_at old ++ to_replicas m i count y (h.end ∷ ends')) (sym h.takes)
          ∙ ap (λ y. map ends_at old ++ to_replicas m i count inlets y) (sym h.first)
          ∙ was.so_far;
    }

pub split_done : {F : Type 0} (k : Kit F) (may : F → ℕ → PlainVersion → Type 0) (f : F) (m i count : ℕ) (todo : List F) (inlets ends : List (List (PlainMessage PlainVersion))) (more : List NodeEnds) (old new : List (Node F))
    → AreComing k may f m i count todo inlets ends → todo ≡ [] → WillJoin (map ends_at old ++ more) new (to_replicas m i count inlets ends) → HaveJoined more old new
unfolding to_replicas shares_from
split_done {F} k may f m i count todo inlets ends more old new h t e =
    let none : inlets ≡ [] = h.fits.takes ∙ ap (λ (y : List F). shares_from m i (length y) h.versions) t in
    record { all = sym (append-nil (map ends_at new)) ∙ ap (λ y. map ends_at new ++ to_replicas m i count y ends) (sym none) ∙ e.so_far }

replicas_share : {F : Type 0} (k : Kit F) (m : ℕ) (xs : List (PlainMessage PlainApart)) (t : Touch) (f : F) (count : ℕ) → 0 < m → length xs ≡ count → (i c : ℕ)
    → to_replicas m i count (shares_from m i c (stream k xs (ToBranch t))) (shares_from m i c (stream k xs (FromBranch t f))) ≡ replica_ends k m xs t f i c
unfolding to_replicas replica_ends shares_from
replicas_share k m xs t f count lt many i zero = refl
replicas_share k m xs t f count lt many i (suc c) = λ j.
    ReplicaEnds (own_share m i count xs lt many j) (share m i (stream k xs (ToBranch t))) (share m i (stream k xs (FromBranch t f)) ∷ [])
    ∷ replicas_share k m xs t f count lt many (suc i) c j

split_share : {F : Type 0} (k : Kit F) (m : ℕ) (xs : List (PlainMessage PlainApart)) (t : Touch) (f : F) (count : ℕ)
    → 0 < m → length xs ≡ count → to_split m count (shares m (stream k xs (ToBranch t))) (shares m (stream k xs (FromBranch t f))) ≡ branch_ends k m xs true t f
unfolding to_split shares_from
split_share k zero xs t f count lt many = absurd (omega (arith, lt))
split_share k (suc c) xs t f count lt many = λ j.
    BranchEnds (own_share (suc c) 0 count xs lt many j) (share (suc c) 0 (stream k xs (ToBranch t))) (share (suc c) 0 (stream k xs (FromBranch t f)) ∷ [])
    ∷ replicas_share k (suc c) xs t f count lt many 1 c j

pub split_joined : {F : Type 0} (k : Kit F) (m : ℕ) (xs : List (PlainMessage PlainApart)) (t : Touch) (f : F) (count : ℕ) (inlets ends : List (List (PlainMessage PlainVersion))) (old new : List (Node F))
    → 0 < m → length xs ≡ count → inlets ≡ shares m (stream k xs (ToBranch t)) → ends ≡ shares m (stream k xs (FromBranch t f))
    → HaveJoined (to_split m count inlets ends) old new → HaveJoined (branch_ends k m xs true t f) old new
split_joined k m xs t f count inlets ends old new lt many i e joined =
    record { all = joined.all ∙ (λ j. map ends_at old ++ to_split m count (i j) (e j)) ∙ ap (λ y. map ends_at old ++ y) (split_share k m xs t f count lt many) }

-- the mergers

pub mergers_first : (m count : ℕ) (bases outlets : List (List (PlainMessage PlainApart))) (inlets : List (List (List (PlainMessage PlainVersion)))) → MergersFit m 0 m count bases inlets outlets → MergersFit m 0 (m - 0) count bases inlets outlets
mergers_first m count bases outlets inlets h =
    let all : m ≡ m - 0 = omega arith in
    subst (λ c. MergersFit m 0 c count bases inlets outlets) all h

pub mergers_on : {F : Type 0} (all : List NodeEnds) (m i count own : ℕ) (base outlet : List (PlainMessage PlainApart)) (inlet : List (List (PlainMessage PlainVersion))) (bases bases' outlets outlets' : List (List (PlainMessage PlainApart))) (inlets inlets' : List (List (List (PlainMessage PlainVersion)))) (old new : List (Node F))
    → bases ≡ base ∷ bases' → inlets ≡ inlet ∷ inlets' → outlets ≡ outlet ∷ outlets' → own ≡ share_len m i count → HaveJoined (MergerEnds (places i m own) base inlet outlet ∷ []) old new
    → WillJoin all old (to_mergers m i count bases inlets outlets) → WillJoin all new (to_mergers m (i + 1) count bases' inlets' outlets')
unfolding to_mergers
mergers_on all m i count own base outlet inlet bases bases' outlets outlets' inlets inlets' old new b x o w joined h =
    let up : i + 1 ≡ suc i = omega arith in
    let later = to_mergers m (i + 1) count bases' inlets' outlets' in record {
      so_far = ap (λ y. y ++ later) joined.all
          ∙ append_assoc (map ends_at old) (MergerEnds (places i m own) base inlet outlet ∷ []) later
          ∙ (λ j. map ends_at old ++ (MergerEnds (places i m (w j)) base inlet outlet ∷ to_mergers m (up j) count bases' inlets' outlets'))
          ∙ (λ j. map ends_at old ++ to_mergers m i count (sym b j) (sym x j) (sym o j))
          ∙ h.so_far;
    }

pub mergers_done : {F : Type 0} (more : List NodeEnds) (m i count : ℕ) (bases outlets : List (List (PlainMessage PlainApart))) (inlets : List (List (List (PlainMessage PlainVersion)))) (old new : List (Node F))
    → m ≤ i → MergersFit m i (m - i) count bases inlets outlets → WillJoin (map ends_at old ++ more) new (to_mergers m i count bases inlets outlets) → HaveJoined more old new
unfolding to_mergers shares_from
mergers_done more m i count bases outlets inlets old new le h e =
    let had : m - i ≡ 0 = omega (arith, le) in
    let none : bases ≡ [] = h.takes ∙ ap (λ n. shares_from m i n h.coming) had in
    record { all = sym (append-nil (map ends_at new)) ∙ ap (λ y. map ends_at new ++ to_mergers m i count y inlets outlets) (sym none) ∙ e.so_far }

mergers_share : {F : Type 0} (k : Kit F) (m : ℕ) (s : PlainStage F) (xs : List (PlainMessage PlainApart)) (count : ℕ) → 0 < m → length xs ≡ count → (i c : ℕ)
    → to_mergers m i count (shares_from m i c (stream k xs (ToMergers s.parts.touches))) (columns_from m i c (came_from k s.parts.touches s.branches xs)) (shares_from m i c (stream k xs (Behind s))) ≡ merger_ends k m s xs i c
unfolding to_mergers merger_ends shares_from columns_from
mergers_share k m s xs count lt many i zero = refl
mergers_share k m s xs count lt many i (suc c) = λ j.
    MergerEnds (own_share m i count xs lt many j) (share m i (stream k xs (ToMergers s.parts.touches))) (map (share m i) (came_from k s.parts.touches s.branches xs)) (share m i (stream k xs (Behind s)))
    ∷ mergers_share k m s xs count lt many (suc i) c j

-- the whole stage

pub on_edges : {F S : Type 0} (k : Kit F) (may : F → ℕ → PlainVersion → Type 0) (m count : ℕ) (s : PlainStage F) (xs : List (PlainMessage PlainApart)) (b : Branches F) (w : WiredStage F S) (bases outlets : List (List (PlainMessage PlainApart))) (inlets : List (List (List (PlainMessage PlainVersion)))) (ordered : List (Node F))
    → 0 < m → length xs ≡ count → AreWired k may s.parts.touches s.branches m xs b
    → w.dealer.to.ends.versions ≡ b.versions → w.dealer.to.ends.bases ≡ shares m (stream k xs (ToMergers s.parts.touches)) → w.next ≡ shares m (stream k xs (Behind s))
    → AreBehind b.nodes.items ordered → HaveJoined (to_mergers m 0 count bases inlets outlets) ordered w.nodes.items
    → bases ≡ shares m (stream k xs (ToMergers s.parts.touches)) → inlets ≡ columns m (came_from k s.parts.touches s.branches xs) → outlets ≡ shares m (stream k xs (Behind s))
    → IsOnEdges k m s xs w
on_edges k may m count s xs b w bases outlets inlets ordered lt many h v own next order joined base come gives = record {
  split = h.split;
  each = h.each;
  versions = v ∙ h.fans;
  bases = own;
  nodes = joined.all
      ∙ ap (λ y. y ++ to_mergers m 0 count bases inlets outlets) (order.all ∙ ap replicas_behind h.on)
      ∙ (λ j. replicas_behind (branches_ends k m xs h.split s.parts.touches s.branches) ++ to_mergers m 0 count (base j) (come j) (gives j))
      ∙ ap (λ y. replicas_behind (branches_ends k m xs h.split s.parts.touches s.branches) ++ y) (mergers_share k m s xs count lt many 0 m);
  next = next;
}
