-- For proofs: what a node needs, and what it gives back.
use Rattle.std.specs.Prelude.{◌≡◌, ◌≤◌, ◌+◌, ◌*◌, ◌==◌, ℕ, Bool, true, zero, suc, List, [], ◌∷◌, All, Option, Some, None, false}
use Rattle.packet_fields.specs.declared.field.Field.{Field}
use Rattle.packet_version.specs.Tallies.{count_of, raised}
use Rattle.packet_version.specs.Splitting.{PlainApart}
use Rattle.packet_version.specs.Versions.{PlainVersion}
use Rattle.packet_messages.specs.Messages.{PlainMessage, first, front, turned}
use Rattle.stage_nodes.specs.Streams.{Kit, left, dealer_copies}
use Rattle.stage_nodes.specs.Dues.{ComesFrom, DealerDue, BranchDue, MergerDue}
use Rattle.stage_nodes.specs.Turns.{BranchOwes, MergerOwes}
use Rattle.stage_nodes.specs.declared.branch.Branch as branches
use Rattle.stage_nodes.specs.declared.dealer.Dealer as dealers
use Rattle.stage_nodes.specs.declared.merger.Merger as mergers
use Rattle.node_run.specs.declared.node.Node.{Node}
use Rattle.node_run.specs.declared.node.Node.TheVariants.{Dealer, Branch, Replica, Merger}
use Rattle.node_run.specs.declared.node.Done.{Done}

-- this number of messages that come from some links, which are asked in turn
unfoldable pub in_turn : {P : Type 0} → ℕ → List (List (PlainMessage P)) → List (PlainMessage P)
in_turn zero inlets = []
in_turn (suc n) inlets = first (front inlets) ∷ in_turn n (turned inlets)

-- the links of a node fit each other, and none of its turns is over
abbrev pub dealer_ready : dealers.Dealer (List (List (PlainMessage PlainApart))) → Type 0
dealer_ready d = (d.to.short ≡ false) × ((f : Field) → count_of d.tally f ≡ 0) × DealerDue ComesFrom d.parts d.count (in_turn d.count d.source) d.source d.to.ends.versions d.to.ends.bases

abbrev pub branch_ready : {F : Type 0} → Kit F → (F → ℕ → PlainVersion → Type 0) → branches.Branch F → Type 0
branch_ready k may b = (b.to.short ≡ false) × BranchDue k may b.step b.first b.count (left k b.work b.inlet) false b.work b.inlet b.to.ends

abbrev pub merger_ready : mergers.Merger → Type 0
merger_ready m = (m.to.short ≡ false) × (m.row.items ≡ []) × MergerDue m.count m.base m.inlets m.to.ends × (m.first + m.count * m.step ≤ 4294967295)

abbrev pub is_ready : {F : Type 0} → Kit F → (F → ℕ → PlainVersion → Type 0) → Node F → Type 0
is_ready k may (Dealer d) = dealer_ready d
is_ready k may (Branch b) = branch_ready k may b
is_ready k may (Replica b) = branch_ready k may b
is_ready k may (Merger m) = merger_ready m

-- they fit, whether or not some of its turns are over
abbrev pub is_going : {F : Type 0} → Kit F → (F → ℕ → PlainVersion → Type 0) → Node F → Type 0
is_going k may (Dealer d) = DealerDue ComesFrom d.parts d.count (in_turn d.count d.source) d.source d.to.ends.versions d.to.ends.bases
is_going {F} k may (Branch b) = (end : F) × BranchOwes k may end b
is_going {F} k may (Replica b) = (end : F) × BranchOwes k may end b
is_going k may (Merger m) = MergerOwes m

-- the next packet of a node has this number in the burst; a dealer takes all packets
abbrev pub has_next : {F : Type 0} → Node F → ℕ → Bool
has_next (Dealer d) packet = true
has_next (Branch b) packet = b.first == packet
has_next (Replica b) packet = b.first == packet
has_next (Merger m) packet = m.first == packet

-- a node whose turns show that it hasn't run out of memory so far
abbrev pub is_ample : {F : Type 0} → Node F → Type 0
is_ample (Dealer d) = d.to.short ≡ false
is_ample (Branch b) = b.to.short ≡ false
is_ample (Replica b) = b.to.short ≡ false
is_ample (Merger m) = Unit {0}

-- the functions that a node gives back, and the copies of a field that it is still to make
abbrev pub left_by : {F : Type 0} → Kit F → Node F → Option F
left_by k (Dealer d) = None
left_by k (Branch b) = Some (left k b.work b.inlet)
left_by k (Replica b) = None
left_by k (Merger m) = None

abbrev pub copies_by : {F : Type 0} → Field → Node F → ℕ
copies_by f (Dealer d) = dealer_copies d.parts.touches (in_turn d.count d.source) f
copies_by f (Branch b) = 0
copies_by f (Replica b) = 0
copies_by f (Merger m) = 0

-- with those that it made so far
abbrev pub made_by : {F : Type 0} → Field → Node F → ℕ
made_by f (Dealer d) = raised (count_of d.tally f) (dealer_copies d.parts.touches (in_turn d.count d.source) f)
made_by f (Branch b) = 0
made_by f (Replica b) = 0
made_by f (Merger m) = 0

-- a node gave back what is due
pub record GivesBack {F : Type 0} (k : Kit F) (node : Node F) (done : Done F) : Type 0 where
  pub ample : is_ample node
  pub functions : done.function ≡ left_by k node
  pub copies : (f : Field) → count_of done.tally f ≡ made_by f node

-- and does so unless it ran out of memory
abbrev pub Keeps : {F : Type 0} → Kit F → Node F → Done F → Type 0
Keeps k node done = done.short ≡ false → GivesBack k node done

-- After some turns the same is due from a node as before, if it hasn't run out of memory.
pub record OwesSame {F : Type 0} (k : Kit F) (old new : Node F) : Type 0 where
  pub ample : is_ample old
  pub functions : left_by k new ≡ left_by k old
  pub copies : (f : Field) → made_by f new ≡ made_by f old

pub record HasTurned {F : Type 0} (k : Kit F) (may : F → ℕ → PlainVersion → Type 0) (old new : Node F) : Type 0 where
  pub going : is_going k may new
  pub owes : is_ample new → OwesSame k old new

abbrev pub added : {F : Type 0} → Option F → List F → List F
added None fs = fs
added (Some f) fs = f ∷ fs

-- what some nodes give back, in order, and the copies of a field that they make
unfoldable pub gather : {F : Type 0} → Kit F → List (Node F) → List F
gather k [] = []
gather k (n ∷ ns) = added (left_by k n) (gather k ns)

unfoldable pub copies_by_all : {F : Type 0} → Field → List (Node F) → ℕ
copies_by_all f [] = 0
copies_by_all f (n ∷ ns) = copies_by f n + copies_by_all f ns

abbrev pub no_copies : Field → ℕ
no_copies f = 0

-- nodes that may be started, with what they give back
pub record AreNodes {F : Type 0} (k : Kit F) (may : F → ℕ → PlainVersion → Type 0) (nodes : List (Node F)) (functions : List F) (copies : Field → ℕ) : Type 0 where
  pub ready : All (is_ready k may) nodes
  pub gives : gather k nodes ≡ functions
  pub makes : (f : Field) → copies_by_all f nodes ≡ copies f
