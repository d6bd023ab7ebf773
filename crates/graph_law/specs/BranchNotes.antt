-- For proofs: what the functions of branches note about a packet in a graph, and which of these notes are settled.
use Rattle.std.specs.Prelude.{ℕ, ◌-◌, nat_lt, List, [], ◌∷◌, Bool, false, map, filter_map, slice_get, if◌then◌else◌, Option, Some, None}
use Rattle.action_profile.specs.declared.parts.Touch.{Touch}
use Rattle.chain_walk.specs.FieldWalk.{End, End.Out, End.Gone}
use Rattle.chain_walk.specs.Notes.{Notes, noted}
use Rattle.chain_walk.specs.Shown.{Values}
use Rattle.chain_walk.specs.Step.{Behaviour}
use Rattle.chain_walk.specs.declared.fixed.Fixed.{Fixed}
use Rattle.graph_compile.specs.declared.graph.Branch.{Branch}
use Rattle.graph_compile.specs.declared.graph.Stage.{Stage}
use Rattle.graph_law.specs.Branches.{BranchEnd, BranchEnd.Live, BranchEnd.Nil, met, in_turn, dealt}
use Rattle.graph_law.specs.Flow.{staged}

-- what a function notes about what arrives at it: nothing if the packet was dropped
unfoldable pub noted_of : {F N : Type 0} → Behaviour F → Notes F N → Fixed → F → BranchEnd → Option N
noted_of b notes fixed f (Live v) = noted b notes fixed f v.values
noted_of b notes fixed f (Nil q) = None

-- the function at a position, if there is one
unfoldable pub noted_at : {F N : Type 0} → Behaviour F → Notes F N → Fixed → Option F → BranchEnd → Option N
noted_at b notes fixed None a = None
noted_at b notes fixed (Some f) a = noted_of b notes fixed f a

-- the functions at these positions, in turn
unfoldable pub in_turn_notes : {F N : Type 0} → Behaviour F → Notes F N → Fixed → List ℕ → List F → BranchEnd → List (Option N)
in_turn_notes b notes fixed [] fs a = []
in_turn_notes b notes fixed (q ∷ qs) fs a =
    noted_at b notes fixed (slice_get fs (q - 1)) a ∷
    in_turn_notes b notes fixed qs (met b fixed q (slice_get fs (q - 1)) fs a).functions (met b fixed q (slice_get fs (q - 1)) fs a).arrival

-- the branches of a stage
unfoldable pub branched_notes : {F N : Type 0} → Behaviour F → Notes F N → Fixed → List Branch → List Touch → Values → List F → List (List (Option N))
branched_notes b notes fixed (x ∷ branches) (t ∷ touches) values fs =
    in_turn_notes b notes fixed x.positions fs (dealt t values) ∷
    branched_notes b notes fixed branches touches values (in_turn b fixed x.positions fs (dealt t values)).functions
branched_notes b notes fixed [] touches values fs = []
branched_notes b notes fixed (x ∷ branches) [] values fs = []

-- no function in these stages notes anything
abbrev pub no_notes : {N : Type 0} → List Stage → List (List (List (Option N)))
no_notes stages = map (λ s. map (λ x. map (λ q. None) x.positions) s.branches) stages

-- what follows a stage, if the packet is still there
unfoldable pub then_notes : {F N : Type 0} → List Stage → List F → End → (Values → List F → List (List (List (Option N)))) → List (List (List (Option N)))
then_notes stages fs (Gone p) on = no_notes stages
then_notes stages fs (Out values) on = on values fs

-- the stages from some stage on
unfoldable pub flow_notes : {F N : Type 0} → Behaviour F → Notes F N → Fixed → List Stage → Values → List F → List (List (List (Option N)))
flow_notes b notes fixed [] values fs = []
flow_notes b notes fixed (s ∷ stages) values fs =
    branched_notes b notes fixed s.branches s.parts.touches values fs ∷
    then_notes stages (staged b fixed s values fs).functions (staged b fixed s values fs).end (flow_notes b notes fixed stages)

-- a packet that ended so was dropped before this position
abbrev pub gone_before : End → ℕ → Bool
gone_before (Out values) q = false
gone_before (Gone p) q = nat_lt p q

-- the settled ones of the notes of functions at these positions; `gone` says before which the packet was dropped
unfoldable pub kept : {N : Type 0} → (ℕ → Bool) → List ℕ → List (Option N) → List (Option N)
kept gone [] made = []
kept gone (q ∷ qs) [] = []
kept gone (q ∷ qs) (note ∷ made) = (if gone q then None else note) ∷ kept gone qs made

-- branch by branch
unfoldable pub kept_in : {N : Type 0} → (ℕ → Bool) → List Branch → List (List (Option N)) → List (List (Option N))
kept_in gone [] rows = []
kept_in gone (x ∷ branches) [] = []
kept_in gone (x ∷ branches) (row ∷ rows) = kept gone x.positions row ∷ kept_in gone branches rows

-- stage by stage
unfoldable pub kept_by : {N : Type 0} → (ℕ → Bool) → List Stage → List (List (List (Option N))) → List (List (List (Option N)))
kept_by gone [] rows = []
kept_by gone (s ∷ stages) [] = []
kept_by gone (s ∷ stages) (row ∷ rows) = kept_in gone s.branches row ∷ kept_by gone stages rows

-- the items at these positions, which count from 1
abbrev pub taken : {A : Type 0} → List ℕ → List A → List A
taken positions xs = filter_map (λ q. slice_get xs (q - 1)) positions

-- at those of each branch
abbrev pub taken_in : {A : Type 0} → List Branch → List A → List (List A)
taken_in branches xs = map (λ x. taken x.positions xs) branches

-- stage by stage
abbrev pub taken_by : {A : Type 0} → List Stage → List A → List (List (List A))
taken_by stages xs = map (λ s. taken_in s.branches xs) stages
