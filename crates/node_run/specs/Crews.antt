-- For proofs: what the nodes of a crew give back.
use Rattle.std.specs.Prelude.{◌≡◌, ◌+◌, ◌++◌, ℕ, List, [], ◌∷◌, All, Bool, false}
use Rattle.packet_fields.specs.declared.field.Field.{Field}
use Rattle.packet_version.specs.Tallies.{count_of, raised}
use Rattle.packet_version.specs.Versions.{PlainVersion}
use Rattle.stage_nodes.specs.Streams.{Kit}
use Rattle.node_run.specs.Nodes.{added, copies_by_all, gather, is_ample, is_going, is_ready, made_by}
use Rattle.node_run.specs.declared.crew.CrewDone.{CrewDone}
use Rattle.node_run.specs.declared.node.Done.{Done}
use Rattle.node_run.specs.declared.node.Node.{Node}

-- the copies of a field that some nodes made so far, with those that they are still to make
unfoldable pub made_by_all : {F : Type 0} → Field → List (Node F) → ℕ
made_by_all f [] = 0
made_by_all f (n ∷ ns) = made_by f n + made_by_all f ns

-- After some turns the same is due from nodes as before, if none ran out of memory.
pub record OweSame {F : Type 0} (k : Kit F) (old new : List (Node F)) : Type 0 where
  pub ample : All is_ample old
  pub functions : gather k new ≡ gather k old
  pub copies : (f : Field) → made_by_all f new ≡ made_by_all f old

pub record HaveTurned {F : Type 0} (k : Kit F) (may : F → ℕ → PlainVersion → Type 0) (old new : List (Node F)) : Type 0 where
  pub going : All (is_going k may) new
  pub owe : All is_ample new → OweSame k old new

-- what a node gave back was kept beside the rest
pub record KeepsMore {F : Type 0} (done : Done F) (functions functions' : List F) (tally tally' : List ℕ) : Type 0 where
  pub short : done.short ≡ false
  pub gives : functions' ≡ functions ++ added done.function []
  pub counted : (f : Field) → count_of tally' f ≡ raised (count_of tally f) (count_of done.tally f)

-- nodes gave back what is due
pub record GiveAll {F : Type 0} (k : Kit F) (nodes : List (Node F)) (functions : List F) (tally : List ℕ) : Type 0 where
  pub ample : All is_ample nodes
  pub gives : functions ≡ gather k nodes
  pub counted : (f : Field) → count_of tally f ≡ raised 0 (made_by_all f nodes)

abbrev pub KeepsAll : {F : Type 0} → Kit F → List (Node F) → List F → List ℕ → Bool → Type 0
KeepsAll k nodes functions tally short = short ≡ false → GiveAll k nodes functions tally

-- a crew, none of whose turns was over at first, gave back what is due
pub record CrewGives {F : Type 0} (k : Kit F) (nodes : List (Node F)) (done : CrewDone F) : Type 0 where
  pub functions : done.functions.items ≡ gather k nodes
  pub copies : (f : Field) → count_of done.tally f ≡ raised 0 (copies_by_all f nodes)

-- and does so unless it ran out of memory
abbrev pub CrewKeeps : {F : Type 0} → Kit F → List (Node F) → CrewDone F → Type 0
CrewKeeps k nodes done = done.short ≡ false → CrewGives k nodes done

-- what nodes gave back together: the functions, in order, and the copies of a field that they report
unfoldable pub given_by : {F : Type 0} → List (Done F) → List F
given_by [] = []
given_by (d ∷ ds) = added d.function (given_by ds)

unfoldable pub told_by : {F : Type 0} → Field → List (Done F) → ℕ
told_by f [] = 0
told_by f (d ∷ ds) = count_of d.tally f + told_by f ds

-- Nodes gave back all this together, and none was short.
pub record GivesTogether {F : Type 0} (dones : List (Done F)) (crew : CrewDone F) : Type 0 where
  pub found : All (λ d. d.short ≡ false) dones
  pub gives : crew.functions.items ≡ given_by dones
  pub counted : (f : Field) → count_of crew.tally f ≡ raised 0 (told_by f dones)

-- Nodes are sorted, those that give functions back before the others, except for these. Of all these functions are
-- given back, and this number of copies is made.
pub record AreSorted {F : Type 0} (k : Kit F) (may : F → ℕ → PlainVersion → Type 0) (functions : List F) (copies : Field → ℕ) (first others todo : List (Node F)) : Type 0 where
  pub ready_first : All (is_ready k may) first
  pub ready_others : All (is_ready k may) others
  pub ready_rest : All (is_ready k may) todo
  pub gives : gather k first ++ gather k todo ≡ functions
  pub none : gather k others ≡ []
  pub makes : (f : Field) → copies_by_all f first + (copies_by_all f others + copies_by_all f todo) ≡ copies f
