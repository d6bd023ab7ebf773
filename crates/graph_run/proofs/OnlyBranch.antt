-- The only branch of a stage, which has the whole packet: it leaves what it would leave of a version beside others.
use Rattle.std.proofs.Common.{◌≡◌, ◌∙◌, ◌+◌, ℕ, List, [], ◌∷◌, map, length, get_or, sym, ap, refl, subst, arith}
use Rattle.action_profile.specs.declared.parts.Touch.{Touch}
use Rattle.action_profile.specs.declared.rights.Profile.{Profile}
use Rattle.chain_walk.specs.Step.{Behaviour}
use Rattle.chain_walk.specs.Laws.{KeepsProfile}
use Rattle.graph_compile.specs.declared.graph.Branch.{Branch}
use Rattle.graph_compile.specs.declared.graph.Stage.{Stage}
use Rattle.graph_law.specs.Branches.{BranchEnd.Live, in_turn}
use Rattle.packet_version.specs.Splitting.{PlainApart}
use Rattle.packet_version.specs.Versions.{PlainVersion}
use Rattle.packet_version.specs.Dealing.{dealt, dealt_whole, based}
use Rattle.merge_ops.specs.Behind.{KeepsBase}
use Rattle.merge_ops.specs.declared.arrival.Arrival.{Arrival}
use Rattle.merge_ops.specs.declared.arrival.Arrival.TheVariants as came
use Rattle.graph_run.specs.Carrying.{as_version, as_branch_end}
use Rattle.graph_run.specs.Staging.{Holds, IsReady, IsCarried, IsCarriedBy, KeepsPacket}
use Rattle.graph_run.proofs.Branching.{Owned, DealtIsMade, StaysInBranch, HasRun, ReadySomewhere, branches_begin, branch_ready_at, branch_taken}
use Rattle.graph_run.proofs.Staged.{AllRan, branches_over}

-- a stage of one branch has one touch
pub only_touch : {F : Type 0} (b : Behaviour F) (stage : Stage) (whole : PlainApart) (first : List F) (d : Touch) → Owned → ReadySomewhere b first stage whole → length stage.branches ≡ 1 → stage.parts.touches ≡ get_or stage.parts.touches 0 d ∷ []
only_touch b stage whole first d owned ready one = single stage.parts.touches (let same = (owned (map b.profile first) ready.0 stage ready.1.lawful).touches in omega arith)
  where
    single : (ts : List Touch) → length ts ≡ 1 → ts ≡ get_or ts 0 d ∷ []
    single [] is = absurd (omega arith)
    single (t ∷ []) is = refl
    single (t ∷ u ∷ ts) is = absurd (omega arith)

-- what a version needs to go on, it needs whatever else it has of the packet
carried_whole : (chain : List Profile) (packet whole : PlainApart) (touch t : Touch) (at : ℕ) → IsCarried chain packet touch at (dealt whole t) → IsCarried chain packet touch at (dealt_whole whole t)
carried_whole chain packet whole touch t at c = record {
  made = record { touched = c.made.touched; there = c.made.there; own = c.made.own; lengths = c.made.lengths };
  fixed = c.fixed;
  formed = c.formed;
  room = c.room;
}

-- what the branch gets, beside others
begun : {F : Type 0} (b : Behaviour F) (stage : Stage) (whole : PlainApart) (first : List F) (t : Touch) → stage.parts.touches ≡ t ∷ [] → HasRun b stage whole first first 0 [] (dealt whole t ∷ [])
begun b stage whole first t touches = branches_begin b stage whole first [] (dealt whole t ∷ []) (dealt whole t ∷ []) refl refl (ap (map (dealt whole)) (sym touches))

pub only_ready : {F : Type 0} (b : Behaviour F) (stage : Stage) (whole : PlainApart) (first : List F) (t : Touch) (v : PlainVersion) (d : Branch) (positions : List ℕ) → Owned → DealtIsMade →
    stage.parts.touches ≡ t ∷ [] → v ≡ dealt_whole whole t → ReadySomewhere b first stage whole → positions ≡ (get_or stage.branches 0 d).positions → IsReady (map b.profile first) positions v
only_ready b stage whole first t v d positions owned made touches is ready at =
    let r = branch_ready_at b stage whole first first 0 [] (dealt whole t ∷ []) [] (dealt whole t) d positions owned made (begun b stage whole first t touches) refl ready at in
    subst (IsReady (map b.profile first) positions) (sym is)
    (record { whole = r.whole; low = r.low; high = r.high; holds = r.holds; carried = carried_whole (map b.profile first) r.whole whole t t r.low r.carried })

-- it has run, as one of several would
pub only_ran : {F : Type 0} (b : Behaviour F) (stage : Stage) (whole : PlainApart) (first after : List F) (t : Touch) (v : PlainVersion) (a : Arrival) (d : Branch) (positions : List ℕ) → Owned → DealtIsMade → StaysInBranch F → KeepsProfile b →
    stage.parts.touches ≡ t ∷ [] → v ≡ dealt_whole whole t → ReadySomewhere b first stage whole → positions ≡ (get_or stage.branches 0 d).positions →
    after ≡ (in_turn b v.fixed positions first (Live (as_version v))).functions →
    as_branch_end a ≡ (in_turn b v.fixed positions first (Live (as_version v))).arrival →
    ((packet : PlainApart) (low high : ℕ) → Holds (map b.profile first) v.touch low high positions → IsCarried (map b.profile first) packet v.touch low v → IsCarriedBy (map b.profile first) packet v.touch high a) →
    AllRan b stage whole first after (a ∷ [])
only_ran b stage whole first after t v a d positions owned made stays keeps touches is ready at fs came carried =
    let chain = map b.profile first in
    let here = subst (λ (x : PlainVersion). (packet : PlainApart) (low high : ℕ) → Holds chain x.touch low high positions → IsCarried chain packet x.touch low x → IsCarriedBy chain packet x.touch high a) is carried in
    branches_over b stage whole first after (0 + 1) (a ∷ []) [] owned
    (branch_taken b stage whole first first after 0 [] (a ∷ []) (dealt whole t ∷ []) [] (dealt whole t) a d positions owned made stays keeps (begun b stage whole first t touches) refl ready at
    (fs ∙ ap (λ (x : PlainVersion). (in_turn b x.fixed positions first (Live (as_version x))).functions) is)
    (came ∙ ap (λ (x : PlainVersion). (in_turn b x.fixed positions first (Live (as_version x))).arrival) is)
    (λ packet low high holds c. here packet low high holds (carried_whole chain packet whole t t low c))
    refl)
    refl ready

-- the base of the stage, which the branch had
pub only_base : (stage : Stage) (whole : PlainApart) (t : Touch) → stage.parts.touches ≡ t ∷ [] → based (t ∷ []) whole ≡ based stage.parts.touches whole
only_base stage whole t touches = ap (λ (ts : List Touch). based ts whole) (sym touches)

pub only_keeps : (whole : PlainApart) (t : Touch) (v : PlainVersion) (a : Arrival) → v ≡ dealt_whole whole t → KeepsPacket v a → KeepsBase (based (t ∷ []) whole) a
only_keeps whole t v (came.Version w) is kept = kept ∙ ap (λ (x : PlainVersion). x.kept) is
only_keeps whole t v (came.Nil p) is kept = tt
only_keeps whole t v came.Short is kept = tt
