-- A burst through the nodes of one stage.
use Rattle.std.proofs.Common.{◌≡◌, ◌∙◌, ◌<◌, ◌≤◌, ◌+◌, ℕ, zero, suc, List, [], ◌∷◌, ◌++◌, length, map, ap, refl, sym, subst, arith}
use Rattle.std.specs.Prelude.{All, Option, Some, None, is_some, option_map, slice_get, if◌then◌else◌, zip}
use Rattle.std.proofs.lemmas.List.Sums.{sum_by-cons}
use Rattle.std.proofs.lemmas.List.Elements.{All-head, All-tail}
use Rattle.std.proofs.lemmas.Option.{slice_get_within}
use Rattle.packet_fields.specs.declared.field.Field.{Field}
use Rattle.action_profile.specs.Modes.{copies}
use Rattle.action_profile.specs.declared.parts.Touch.{Touch}
use Rattle.action_profile.specs.declared.rights.Profile.{Profile}
use Rattle.chain_walk.specs.Notes.{Notes}
use Rattle.chain_walk.specs.Step.{Behaviour}
use Rattle.graph_compile.specs.Lawful.{IsLawfulStage}
use Rattle.graph_compile.specs.Parts.{profile_at}
use Rattle.graph_compile.specs.declared.graph.Branch.{Branch}
use Rattle.graph_compile.specs.declared.graph.Stage.{Stage}
use Rattle.graph_law.specs.Branches.{BranchEnd}
use Rattle.packet_version.specs.Parts.{PlainPart}
use Rattle.packet_version.specs.Splitting.{PlainApart, packet_parts}
use Rattle.packet_version.specs.Versions.{PlainVersion}
use Rattle.packet_version.specs.Dealing.{dealt}
use Rattle.merge_ops.specs.declared.merging.Merged.{Merged}
use Rattle.merge_ops.specs.declared.merging.Merged.TheVariants as ends
use Rattle.burst_law.specs.Bursts.{branch_stream, stage_burst, merged_from}
use Rattle.burst_law.specs.Copies.{due_in}
use Rattle.burst_law.specs.Stations.{Turn, across, beside, then_both}
use Rattle.graph_run.specs.Staging.{Holds}
use Rattle.graph_run.specs.Stages.{AllCarried, GoesFrom, end_of}
use Rattle.packet_messages.specs.Messages.{PlainMessage, PlainMessage.Live, first, rest}
use Rattle.stage_nodes.specs.Streams.{PlainStage, parted, gave, moved, ran, as_arrival, of_merged, came_from, stayed, passed, due_of, dealer_copies}
use Rattle.stage_nodes.specs.Flows.{AllMayTake, MayPass}
use Rattle.stream_law.specs.Messages.{as_message, burst_copies}
use Rattle.stream_law.specs.Listed.{stage_listed}
use Rattle.stream_law.specs.Owned.{PlainOwned, any_counts, owned_kit, owned_may}
use Rattle.stream_law.specs.Ready.{MayEnter, AllEnter, Fits}
use Rattle.stream_law.specs.Works.{works_in}
use Rattle.stream_law.proofs.Turned.{ran_carried}
use Rattle.stream_law.proofs.Taken.{as_ends, may_take_all, moved_packets, moved_positions, moved_profiles, left_positions, stream_listed, stream_same}
use Rattle.stream_law.proofs.Rows.{Follows, LeavesBurst, PacketPasses, RowsPass, all_of_as, gone_passes, joined_all, more_pass, none_pass, whole_passes}
use Rattle.stream_law.proofs.Cited.{AreLaws}

-- each branch owns functions with the profiles of its positions
unfoldable pub AllOwn : {F : Type 0} → Behaviour F → List Profile → List Branch → List (List F) → Type 0
AllOwn b chain [] [] = Unit {0}
AllOwn b chain (x ∷ branches) (own ∷ owns) = (map (profile_at chain) x.positions ≡ map (λ p. Some p) (map b.profile own)) × AllOwn b chain branches owns
AllOwn b chain branches owns = ⊥

-- A stage is ready for packets that may enter it at this position.
pub record IsReadyStage {F : Type 0} (b : Behaviour F) (chain : List Profile) (at : ℕ) (stage : Stage) (owns : List (List F)) : Type 0 where
  pub lawful : IsLawfulStage chain at stage
  pub position : 1 ≤ at
  pub within : end_of at stage ≤ suc (length chain)
  pub some : 0 < length stage.branches
  pub few : length stage.branches ≤ 64
  pub owners : AllOwn b chain stage.branches owns

-- A branch with its touch: it holds what its functions name, and the burst has at least this number of packets.
record IsFitted {F N : Type 0} (b : Behaviour F) (chain : List Profile) (low high n : ℕ) (t : Touch) (o : PlainOwned F N) : Type 0 where
  at : map (profile_at chain) o.positions ≡ map (λ p. Some p) (map b.profile o.functions)
  holds : Holds chain t low high o.positions
  enough : n ≤ o.packets

unfoldable AllFitted : {F N : Type 0} → Behaviour F → List Profile → ℕ → ℕ → ℕ → List Touch → List (PlainOwned F N) → Type 0
AllFitted b chain low high n [] [] = Unit {0}
AllFitted b chain low high n (t ∷ touches) (o ∷ works) = IsFitted b chain low high n t o × AllFitted b chain low high n touches works
AllFitted b chain low high n touches works = ⊥

all_fitted : {F : Type 0} (N : Type 0) (b : Behaviour F) (chain : List Profile) (low high n : ℕ) (branches : List Branch) (touches : List Touch) (owns : List (List F)) → length touches ≡ length branches → AllOwn b chain branches owns →
    ((j : ℕ) (x : Branch) (t : Touch) → slice_get branches j ≡ Some x → slice_get touches j ≡ Some t → Holds chain t low high x.positions) → AllFitted b chain low high n touches (works_in {N = N} b branches owns n)
unfolding AllFitted AllOwn works_in
all_fitted N b chain low high n [] [] [] same own each = tt
all_fitted N b chain low high n [] [] (o ∷ owns) same own each = absurd own
all_fitted N b chain low high n [] (t ∷ touches) owns same own each = absurd (omega arith)
all_fitted N b chain low high n (x ∷ branches) [] owns same own each = absurd (omega arith)
all_fitted N b chain low high n (x ∷ branches) (t ∷ touches) [] same own each = absurd own
all_fitted N b chain low high n (x ∷ branches) (t ∷ touches) (o ∷ owns) same own each = (
  record { at = own.0; holds = each 0 x t refl refl; enough = omega arith },
  all_fitted N b chain low high n branches touches owns (omega arith) own.1 (λ j y u a b. each (suc j) y u a b),
)

as_many_own : {F : Type 0} (b : Behaviour F) (chain : List Profile) (branches : List Branch) (owns : List (List F)) → AllOwn b chain branches owns → length owns ≡ length branches
unfolding AllOwn
as_many_own b chain [] [] all = refl
as_many_own b chain [] (o ∷ owns) all = absurd all
as_many_own b chain (x ∷ branches) [] all = absurd all
as_many_own b chain (x ∷ branches) (o ∷ owns) all = ap suc (as_many_own b chain branches owns all.1)

works_many : {F : Type 0} (N : Type 0) (b : Behaviour F) (branches : List Branch) (owns : List (List F)) (n : ℕ) → length owns ≡ length branches → length (works_in {N = N} b branches owns n) ≡ length branches
unfolding works_in
works_many N b [] owns n same = refl
works_many N b (x ∷ branches) [] n same = absurd (omega arith)
works_many N b (x ∷ branches) (own ∷ owns) n same = ap suc (works_many N b branches owns n (omega arith))

-- the branches' results for a packet, and the branches after it
unfoldable gave_all : {F N : Type 0} → Behaviour F → Notes F N → List Touch → List (PlainOwned F N) → PlainMessage PlainApart → List (PlainMessage PlainVersion)
gave_all b notes [] works x = []
gave_all b notes (t ∷ touches) [] x = []
gave_all b notes (t ∷ touches) (o ∷ works) x = gave (owned_kit b notes) o (parted t x) ∷ gave_all b notes touches works x

unfoldable moved_all : {F N : Type 0} → Behaviour F → Notes F N → List Touch → List (PlainOwned F N) → PlainMessage PlainApart → List (PlainOwned F N)
moved_all b notes [] works x = []
moved_all b notes (t ∷ touches) [] x = []
moved_all b notes (t ∷ touches) (o ∷ works) x = moved (owned_kit b notes) o (parted t x) ∷ moved_all b notes touches works x

came_first : {F N : Type 0} (b : Behaviour F) (notes : Notes F N) (touches : List Touch) (works : List (PlainOwned F N)) (x : PlainMessage PlainApart) (xs : List (PlainMessage PlainApart)) → map first (came_from (owned_kit b notes) touches works (x ∷ xs)) ≡ gave_all b notes touches works x
unfolding came_from ran gave_all
came_first b notes [] works x xs = refl
came_first b notes (t ∷ touches) [] x xs = refl
came_first b notes (t ∷ touches) (o ∷ works) x xs = ap (λ l. gave (owned_kit b notes) o (parted t x) ∷ l) (came_first b notes touches works x xs)

came_rest : {F N : Type 0} (b : Behaviour F) (notes : Notes F N) (touches : List Touch) (works : List (PlainOwned F N)) (x : PlainMessage PlainApart) (xs : List (PlainMessage PlainApart)) → map rest (came_from (owned_kit b notes) touches works (x ∷ xs)) ≡ came_from (owned_kit b notes) touches (moved_all b notes touches works x) xs
unfolding came_from ran moved_all
came_rest b notes [] works x xs = refl
came_rest b notes (t ∷ touches) [] x xs = refl
came_rest b notes (t ∷ touches) (o ∷ works) x xs = ap (λ l. ran (owned_kit b notes) (moved (owned_kit b notes) o (parted t x)) (map (parted t) xs) ∷ l) (came_rest b notes touches works x xs)

came_front : {F N : Type 0} (b : Behaviour F) (notes : Notes F N) (touches : List Touch) (works : List (PlainOwned F N)) (x : PlainMessage PlainApart) (xs : List (PlainMessage PlainApart)) → across 0 (map as_ends (came_from (owned_kit b notes) touches works (x ∷ xs))) ≡ as_ends (map first (came_from (owned_kit b notes) touches works (x ∷ xs)))
unfolding came_from ran
came_front b notes [] works x xs = refl
came_front b notes (t ∷ touches) [] x xs = refl
came_front b notes (t ∷ touches) (o ∷ works) x xs = ap (λ l. as_ends (gave (owned_kit b notes) o (parted t x) ∷ []) ++ l) (came_front b notes touches works x xs)

fitted_after : {F N : Type 0} (b : Behaviour F) (notes : Notes F N) (chain : List Profile) (low high n : ℕ) (touches : List Touch) (works : List (PlainOwned F N)) (x : PlainMessage PlainApart) → AreLaws b → AllFitted b chain low high n touches works → AllFitted b chain low high n touches (moved_all b notes touches works x)
unfolding AllFitted moved_all
fitted_after b notes chain low high n [] [] x laws fitted = tt
fitted_after b notes chain low high n [] (o ∷ works) x laws fitted = absurd fitted
fitted_after b notes chain low high n (t ∷ touches) [] x laws fitted = absurd fitted
fitted_after b notes chain low high n (t ∷ touches) (o ∷ works) x laws fitted = (
  record {
    at = ap (map (profile_at chain)) (moved_positions b notes o (parted t x)) ∙ fitted.0.at ∙ ap (map (λ p. Some p)) (sym (moved_profiles b notes o (parted t x) laws.keeps));
    holds = subst (Holds chain t low high) (sym (moved_positions b notes o (parted t x))) fitted.0.holds;
    enough = subst (λ m. n ≤ m) (sym (moved_packets b notes o (parted t x))) fitted.0.enough;
  },
  fitted_after b notes chain low high n touches works x laws fitted.1,
)

-- their results for a packet may be merged
row_carried : {F N : Type 0} (b : Behaviour F) (notes : Notes F N) (chain : List Profile) (low high n : ℕ) (touches : List Touch) (works : List (PlainOwned F N)) (whole : PlainApart) → AreLaws b → AllFitted b chain low high n touches works → GoesFrom chain low whole →
    AllCarried chain whole high touches (map as_arrival (gave_all b notes touches works (Live whole)))
unfolding AllFitted AllCarried gave_all
row_carried b notes chain low high n [] [] whole laws fitted goes = tt
row_carried b notes chain low high n [] (o ∷ works) whole laws fitted goes = absurd fitted
row_carried b notes chain low high n (t ∷ touches) [] whole laws fitted goes = absurd fitted
row_carried b notes chain low high n (t ∷ touches) (o ∷ works) whole laws fitted goes = (
  ran_carried b chain whole t low high o.positions o.functions (Live (dealt whole t)) laws.behind laws.later laws.keeps fitted.0.at fitted.0.holds (laws.dealt chain whole t low goes),
  row_carried b notes chain low high n touches works whole laws fitted.1 goes,
)

packet_passes : {F N : Type 0} (b : Behaviour F) (notes : Notes F N) (chain : List Profile) (low high n : ℕ) (touches : List Touch) (works : List (PlainOwned F N)) (m : Merged) → AreLaws b → AllFitted b chain low high n touches works → low ≤ high → MayEnter chain low m → Fits m →
    PacketPasses chain high touches m (gave_all b notes touches works (of_merged m))
packet_passes b notes chain low high n touches works (ends.Whole whole) laws fitted rises enter fits =
    whole_passes chain low high touches whole (gave_all b notes touches works (Live whole)) laws.merging enter fits rises (row_carried b notes chain low high n touches works whole laws fitted enter)
packet_passes b notes chain low high n touches works (ends.Gone p) laws fitted rises enter fits = gone_passes chain high touches p (gave_all b notes touches works (of_merged (ends.Gone p)))
packet_passes b notes chain low high n touches works ends.Short laws fitted rises enter fits = absurd enter

-- the packets, one after another
rows_pass : {F N : Type 0} (b : Behaviour F) (notes : Notes F N) (chain : List Profile) (low high n : ℕ) (touches : List Touch) (works : List (PlainOwned F N)) (packets : List Merged) → AreLaws b → AllFitted b chain low high n touches works → low ≤ high → AllEnter chain low packets → All Fits packets →
    RowsPass chain high touches packets (came_from (owned_kit b notes) touches works (map of_merged packets))
rows_pass b notes chain low high n touches works [] laws fitted rises enter fits = none_pass chain high touches (came_from (owned_kit b notes) touches works [])
rows_pass {F} {N} b notes chain low high n touches works (m ∷ packets) laws fitted rises enter fits =
    let x : PlainMessage PlainApart = of_merged m in
    let xs : List (PlainMessage PlainApart) = map of_merged packets in
    more_pass chain high touches m packets (came_from (owned_kit b notes) touches works (x ∷ xs)) (came_front b notes touches works x xs)
    (subst (PacketPasses chain high touches m) (sym (came_first b notes touches works x xs)) (packet_passes b notes chain low high n touches works m laws fitted rises (enter 0 m refl) (All-head Fits m packets fits)))
    (subst (RowsPass chain high touches packets) (sym (came_rest b notes touches works x xs))
    (rows_pass b notes chain low high n touches (moved_all b notes touches works x) packets laws (fitted_after b notes chain low high n touches works x laws fitted) rises (λ k p e. enter (suc k) p e) (All-tail Fits m packets fits)))

-- a branch before all packets
abbrev begun : {F N : Type 0} → Behaviour F → ℕ → Branch → List F → PlainOwned F N
begun b n x own = record { functions = own; positions = x.positions; packets = n; counts = any_counts b own; seen = 0; listed = [] }

-- the branches, each with all packets
streams_same : {F N : Type 0} (b : Behaviour F) (notes : Notes F N) (n : ℕ) (branches : List Branch) (touches : List Touch) (owns : List (List F)) (packets : List Merged) → AreLaws b → length touches ≡ length branches → length owns ≡ length branches →
    ◌≡◌ {A = Turn (List (List F)) (List (List BranchEnd))} (beside (branch_stream b) (zip branches touches) owns (map as_message packets))
    (record { state = map (λ o. o.functions) (stayed (owned_kit b notes) touches (works_in b branches owns n) (map of_merged packets)); gives = map as_ends (came_from (owned_kit b notes) touches (works_in b branches owns n) (map of_merged packets)) })
unfolding beside works_in stayed came_from
streams_same b notes n [] [] [] packets laws ts os = refl
streams_same b notes n [] [] (own ∷ owns) packets laws ts os = absurd (omega arith)
streams_same b notes n [] (t ∷ touches) owns packets laws ts os = absurd (omega arith)
streams_same b notes n (x ∷ branches) [] owns packets laws ts os = absurd (omega arith)
streams_same b notes n (x ∷ branches) (t ∷ touches) [] packets laws ts os = absurd (omega arith)
streams_same {F} {N} b notes n (x ∷ branches) (t ∷ touches) (own ∷ owns) packets laws ts os =
    let o : PlainOwned F N = begun b n x own in
    λ i. then_both (stream_same b notes o x t packets laws.keeps laws.same refl i) (streams_same b notes n branches touches owns packets laws (omega arith) (omega arith) i)

positions_same : {F N : Type 0} (b : Behaviour F) (notes : Notes F N) (n : ℕ) (branches : List Branch) (touches : List Touch) (owns : List (List F)) (xs : List (PlainMessage PlainApart)) → length touches ≡ length branches → length owns ≡ length branches →
    map (λ o. o.positions) (stayed (owned_kit b notes) touches (works_in b branches owns n) xs) ≡ map (λ x. x.positions) branches
unfolding works_in stayed
positions_same b notes n [] [] [] xs ts os = refl
positions_same b notes n [] [] (own ∷ owns) xs ts os = absurd (omega arith)
positions_same b notes n [] (t ∷ touches) owns xs ts os = absurd (omega arith)
positions_same b notes n (x ∷ branches) [] owns xs ts os = absurd (omega arith)
positions_same b notes n (x ∷ branches) (t ∷ touches) [] xs ts os = absurd (omega arith)
positions_same {F} {N} b notes n (x ∷ branches) (t ∷ touches) (own ∷ owns) xs ts os =
    let o : PlainOwned F N = begun b n x own in
    λ i. left_positions b notes o (map (parted t) xs) i ∷ positions_same b notes n branches touches owns xs (omega arith) (omega arith) i

-- what each lists for all packets
streams_listed : {F N : Type 0} (b : Behaviour F) (notes : Notes F N) (chain : List Profile) (low n : ℕ) (branches : List Branch) (touches : List Touch) (owns : List (List F)) (packets : List Merged) → AreLaws b → length touches ≡ length branches → length owns ≡ length branches → AllEnter chain low packets →
    map (λ o. o.listed) (stayed (owned_kit b notes) touches (works_in b branches owns n) (map of_merged packets)) ≡ stage_listed b notes (zip branches touches) owns (map as_message packets)
unfolding works_in stayed stage_listed
streams_listed b notes chain low n [] [] [] packets laws ts os enter = refl
streams_listed b notes chain low n [] [] (own ∷ owns) packets laws ts os enter = absurd (omega arith)
streams_listed b notes chain low n [] (t ∷ touches) owns packets laws ts os enter = absurd (omega arith)
streams_listed b notes chain low n (x ∷ branches) [] owns packets laws ts os enter = absurd (omega arith)
streams_listed b notes chain low n (x ∷ branches) (t ∷ touches) [] packets laws ts os enter = absurd (omega arith)
streams_listed {F} {N} b notes chain low n (x ∷ branches) (t ∷ touches) (own ∷ owns) packets laws ts os enter =
    let o : PlainOwned F N = begun b n x own in
    λ i. stream_listed b notes chain low o x t packets laws.keeps laws.same refl refl enter i ∷ streams_listed b notes chain low n branches touches owns packets laws (omega arith) (omega arith) enter i

all_may_take : {F N : Type 0} (b : Behaviour F) (notes : Notes F N) (chain : List Profile) (low high n : ℕ) (touches : List Touch) (works : List (PlainOwned F N)) (packets : List Merged) → AreLaws b → AllFitted b chain low high n touches works → AllEnter chain low packets → length packets ≤ n →
    AllMayTake (owned_kit b notes) (owned_may b) touches works (map of_merged packets)
unfolding AllMayTake AllFitted
all_may_take b notes chain low high n [] [] packets laws fitted enter many = tt
all_may_take b notes chain low high n [] (o ∷ works) packets laws fitted enter many = absurd fitted
all_may_take b notes chain low high n (t ∷ touches) [] packets laws fitted enter many = absurd fitted
all_may_take b notes chain low high n (t ∷ touches) (o ∷ works) packets laws fitted enter many = (
  (let enough = fitted.0.enough in may_take_all b notes chain low high t o 0 packets laws.dealt laws.keeps fitted.0.at fitted.0.holds enter (omega arith)),
  all_may_take b notes chain low high n touches works packets laws fitted.1 enter many,
)

-- the copies that its dealer makes
due_same : {F : Type 0} (b : Behaviour F) (chain : List Profile) (low : ℕ) (stage : Stage) (f : Field) (m : Merged) → AreLaws b → IsLawfulStage chain low stage → MayEnter chain low m → due_of stage.parts.touches f (of_merged m) ≡ due_in f stage (as_message m)
due_same b chain low stage f (ends.Whole whole) laws lawful enter = laws.copies chain low stage whole f lawful ∙ by_part (packet_parts whole f)
  where
    by_part : (o : Option PlainPart) → (if is_some o then copies stage.parts f else 0) ≡ (if is_some (option_map (λ p. p.bytes) o) then copies stage.parts f else 0)
    by_part None = refl
    by_part (Some p) = refl
due_same b chain low stage f (ends.Gone p) laws lawful enter = refl
due_same b chain low stage f ends.Short laws lawful enter = refl

copies_same : {F : Type 0} (b : Behaviour F) (chain : List Profile) (low : ℕ) (stage : Stage) (f : Field) (packets : List Merged) → AreLaws b → IsLawfulStage chain low stage → AllEnter chain low packets →
    dealer_copies stage.parts.touches (map of_merged packets) f ≡ burst_copies stage (map as_message packets) f
copies_same b chain low stage f [] laws lawful enter = refl
copies_same b chain low stage f (m ∷ packets) laws lawful enter =
    sum_by-cons (due_of stage.parts.touches f) (of_merged m) (map of_merged packets)
    ∙ (λ i. due_same b chain low stage f m laws lawful (enter 0 m refl) i + copies_same b chain low stage f packets laws lawful (λ k n e. enter (suc k) n e) i)
    ∙ sym (sum_by-cons (due_in f stage) (as_message m) (map as_message packets))

-- the packets after a stage may enter the next
pub some_at : {A : Type 0} (xs : List A) (k : ℕ) → k < length xs → (x : A) × (slice_get xs k ≡ Some x)
some_at [] k less = absurd (omega arith)
some_at (x ∷ xs) zero less = (x, refl)
some_at (x ∷ xs) (suc k) less = some_at xs k (omega arith)

follows_enters : (chain : List Profile) (next : ℕ) (m n : Merged) → Follows chain next m n → MayEnter chain next n
follows_enters chain next (ends.Whole w) (ends.Whole after) h = h.goes
follows_enters chain next (ends.Whole w) (ends.Gone p) h = tt
follows_enters chain next (ends.Whole w) ends.Short h = h
follows_enters chain next (ends.Gone p) n h = subst (MayEnter chain next) (sym h) tt
follows_enters chain next ends.Short n h = absurd h

pub next_enter : (chain : List Profile) (next : ℕ) (packets after : List Merged) → LeavesBurst chain next packets after → AllEnter chain next after
next_enter chain next packets after leaves = λ k n e.
    let inside = slice_get_within after k n e in let count = leaves.count in
    let m = some_at packets k (omega arith) in
    follows_enters chain next m.0 n (leaves.each k m.0 n m.1 e)

-- a stage whose branches own these functions, for a burst of this number of packets
abbrev pub owned_stage : {F N : Type 0} → Behaviour F → Stage → List (List F) → ℕ → PlainStage (PlainOwned F N)
owned_stage b stage owns n = record { parts = stage.parts; branches = works_in b stage.branches owns n }

-- the packets after it
abbrev pub passed_by : {F N : Type 0} → Behaviour F → Notes F N → Stage → List (List F) → ℕ → List Merged → List Merged
passed_by b notes stage owns n packets = joined_all stage.parts.touches packets (came_from (owned_kit b notes) stage.parts.touches (works_in b stage.branches owns n) (map of_merged packets))

-- What is known about a burst after the nodes of a stage.
pub record HasPassed {F N : Type 0} (b : Behaviour F) (notes : Notes F N) (chain : List Profile) (at : ℕ) (stage : Stage) (owns : List (List F)) (n : ℕ) (packets : List Merged) : Type 0 where
  pub may : MayPass (owned_kit b notes) (owned_may b) (owned_stage b stage owns n) (map of_merged packets)
  pub functions : map (λ o. o.functions) (stayed (owned_kit b notes) stage.parts.touches (works_in b stage.branches owns n) (map of_merged packets)) ≡ (stage_burst b stage owns (map as_message packets)).state
  pub positions : map (λ o. o.positions) (stayed (owned_kit b notes) stage.parts.touches (works_in b stage.branches owns n) (map of_merged packets)) ≡ map (λ x. x.positions) stage.branches
  pub listed : map (λ o. o.listed) (stayed (owned_kit b notes) stage.parts.touches (works_in b stage.branches owns n) (map of_merged packets)) ≡ stage_listed b notes (zip stage.branches stage.parts.touches) owns (map as_message packets)
  pub packets_are : map as_message (passed_by b notes stage owns n packets) ≡ (stage_burst b stage owns (map as_message packets)).gives
  pub leaves : LeavesBurst chain (end_of at stage) packets (passed_by b notes stage owns n packets)
  pub fits : All Fits (passed_by b notes stage owns n packets)
  pub same : map of_merged (passed_by b notes stage owns n packets) ≡ passed (owned_kit b notes) (owned_stage b stage owns n) (map of_merged packets)
  pub counted : (f : Field) → dealer_copies stage.parts.touches (map of_merged packets) f ≡ burst_copies stage (map as_message packets) f

pub stage_passed : {F N : Type 0} (b : Behaviour F) (notes : Notes F N) (chain : List Profile) (at : ℕ) (stage : Stage) (owns : List (List F)) (n : ℕ) (packets : List Merged) → AreLaws b → IsReadyStage b chain at stage owns → AllEnter chain at packets → All Fits packets → length packets ≤ n →
    HasPassed b notes chain at stage owns n packets
unfolding stage_burst
stage_passed {F} {N} b notes chain at stage owns n packets laws ready enter fits many =
    let touches : List Touch = stage.parts.touches in
    let works : List (PlainOwned F N) = works_in b stage.branches owns n in
    let ts = (laws.owners chain at stage ready.lawful).touches in
    let os = as_many_own b chain stage.branches owns ready.owners in
    let ws = works_many N b stage.branches owns n os in
    let some = ready.some in
    let few = ready.few in
    let fitted = all_fitted N b chain at (end_of at stage) n stage.branches touches owns ts ready.owners (λ j x t a e. laws.holds chain at j stage x t ready.lawful ready.position ready.within a e) in
    let rows = rows_pass b notes chain at (end_of at stage) n touches works packets laws fitted (omega arith) enter fits in
    let streams = streams_same b notes n stage.branches touches owns packets laws ts os in
    record {
      may = record {
        modes = laws.modes chain at stage ready.lawful;
        some = omega arith;
        few = omega arith;
        owners = ws ∙ sym ts;
        take = all_may_take b notes chain at (end_of at stage) n touches works packets laws fitted enter many;
        belong = rows.belong;
      };
      functions = sym (ap (λ (r : Turn (List (List F)) (List (List BranchEnd))). r.state) streams);
      positions = positions_same b notes n stage.branches touches owns (map of_merged packets) ts os;
      listed = streams_listed b notes chain at n stage.branches touches owns packets laws ts os enter;
      packets_are = rows.messages ∙ sym (ap (λ (r : Turn (List (List F)) (List (List BranchEnd))). merged_from 0 (map as_message packets) r.gives) streams);
      leaves = rows.leaves;
      fits = rows.fits;
      same = all_of_as (passed (owned_kit b notes) (owned_stage b stage owns n) (map of_merged packets));
      counted = λ f. copies_same b chain at stage f packets laws ready.lawful enter;
    }
