-- A burst in parts that went through the nodes of a graph's stages.
use Rattle.std.proofs.Common.{◌≡◌, ◌∙◌, ◌≤◌, ℕ, List, [], ◌∷◌, map, length, sym, ap, refl, subst, arith}
use Rattle.std.proofs.lemmas.List.{length-map}
use Rattle.std.specs.Prelude.{zip}
use Rattle.std.specs.List.{sum_by}
use Rattle.packet_fields.specs.declared.field.Field.{Field}
use Rattle.action_profile.specs.declared.rights.Profile.{Profile}
use Rattle.chain_walk.specs.Counting.{quiet, IsQuiet}
use Rattle.chain_walk.specs.Laws.{KeepsProfile}
use Rattle.chain_walk.specs.Notes.{Notes, CountsByNotes}
use Rattle.chain_walk.specs.Step.{Behaviour}
use Rattle.graph_compile.specs.Facts.{IsLawful}
use Rattle.graph_compile.specs.declared.graph.Graph.{Graph}
use Rattle.graph_compile.specs.declared.graph.Stage.{Stage}
use Rattle.graph_law.proofs.Walking.{walk_keeps}
use Rattle.packet_version.specs.Tallies.{count_of, raised}
use Rattle.chain_walk.specs.declared.walk.Fate.{Fate}
use Rattle.merge_ops.specs.Fates.{fate_behind}
use Rattle.merge_ops.specs.declared.merging.Merged.{Merged}
use Rattle.burst_law.specs.Stations.{Turn, one_by_one}
use Rattle.burst_law.specs.Owned.{owned, owned_by}
use Rattle.burst_law.specs.Bursts.{Message, Message.Here, Message.Lost, chain_turn, chain_burst}
use Rattle.burst_law.specs.Copies.{copies_for, chain_copies}
use Rattle.piped_run.specs.Standing.{EachStands}
use Rattle.graph_run.specs.Counting.{RaisesAll, RaisesUpTo}
use Rattle.graph_run.specs.Running.{IsRunning}
use Rattle.stream_law.specs.Rests.{KeepsRests}
use Rattle.stream_law.specs.Messages.{as_message}
use Rattle.stage_nodes.specs.Streams.{Kit, PlainStage, of_merged, as_merged, through, ends_of}
use Rattle.node_run.specs.Runs.{fates_behind, flat}
use Rattle.stream_law.specs.Owned.{PlainOwned, owned_kit}
use Rattle.stream_law.specs.Works.{works_of}
use Rattle.piped_run.specs.Frames.{EndsAs}
use Rattle.settled_notes.specs.Settling.{SameDrops}
use Rattle.piped_run.specs.Settling.{settled_own}
use Rattle.piped_run.proofs.Settled.{AreNoteLaws, EndsAlike, LeftWith, drops_told, settled_back}

-- the works of a graph for a burst of this number of packets
abbrev pub works_for : {F N : Type 0} → Behaviour F → Graph → List F → ℕ → List (PlainStage (PlainOwned F N))
works_for b graph functions n = works_of b graph.stages (owned_by graph.stages functions) n

-- the functions that the walks leave
abbrev pub left_by : {F : Type 0} → Behaviour F → List F → List Merged → List F
left_by b functions packets = (chain_burst b functions (map as_message packets)).state

pub same_length : {F : Type 0} (b : Behaviour F) (xs ys : List F) → map b.profile xs ≡ map b.profile ys → length xs ≡ length ys
same_length b xs ys e = sym (length-map xs b.profile) ∙ ap length e ∙ length-map ys b.profile

-- each position of a lawful graph occurs once
pub each_stands : {F : Type 0} (b : Behaviour F) (graph : Graph) (functions : List F) (stages : List Stage) (count : ℕ) → IsRunning b functions graph → stages ≡ graph.stages → count ≡ length functions → EachStands stages count
each_stands b graph functions stages count running are many =
    let stands : EachStands graph.stages (length (map b.profile functions)) = record { each_once = running.lawful.each_once; no_other = running.lawful.no_other } in
    subst (λ (l : List Stage). EachStands l count) (sym are) (subst (EachStands graph.stages) (length-map functions b.profile ∙ sym many) stands)

-- the functions after the walk run in the same graph
pub runs_on : {F : Type 0} (b : Behaviour F) (graph : Graph) (first now : List F) → IsRunning b first graph → map b.profile now ≡ map b.profile first → IsRunning b now graph
runs_on b graph first now running same = record {
  few = let few = running.few in let count = same_length b now first same in omega arith;
  lawful = subst (λ (ps : List Profile). IsLawful graph ps) (sym same) running.lawful;
  full = running.full;
}

-- functions that are split by stage and branch have a list for each branch
pub owned_many : {F : Type 0} (stages : List Stage) (functions : List F) → map (λ own. length own) (owned_by stages functions) ≡ map (λ s. length s.branches) stages
owned_many [] functions = refl
owned_many (s ∷ stages) functions = λ i. length-map s.branches (λ x. owned x.positions functions) i ∷ owned_many stages functions i

-- the works that were begun are those of the graph
pub begun_works : {F N : Type 0} (b : Behaviour F) (graph : Graph) (stages : List Stage) (functions : List F) (works : List (PlainStage (PlainOwned F N))) (n many : ℕ) → stages ≡ graph.stages → n ≡ many → works ≡ works_of b stages (owned_by stages functions) n → works ≡ works_for b graph functions many
begun_works b graph stages functions works n many are same is = is ∙ (λ k. works_of b (are k) (owned_by (are k) functions) (same k))

-- the number of works at the end of each stage
pub ends_fit : {F N : Type 0} (stages : List Stage) (ends : List (List (PlainOwned F N))) (functions : List F) → map (λ l. map (λ o. o.functions) l) ends ≡ owned_by stages functions → map (λ l. length l) ends ≡ map (λ s. length s.branches) stages
ends_fit {F} {N} stages ends functions is = counted ends ∙ ap (map (λ own. length own)) is ∙ owned_many stages functions
  where
    counted : (ends : List (List (PlainOwned F N))) → map (λ l. length l) ends ≡ map (λ own. length own) (map (λ l. map (λ o. o.functions) l) ends)
    counted [] = refl
    counted (l ∷ ends) = λ i. sym (length-map l (λ o. o.functions)) i ∷ counted ends i

-- the packets after the last stage
pub ended_as : {F N : Type 0} (b : Behaviour F) (notes : Notes F N) (works was : List (PlainStage (PlainOwned F N))) (functions : List F) (packets : List Merged) (fates : List Fate) → EndsAlike F N → KeepsProfile b → CountsByNotes b notes → works ≡ was →
    fates ≡ fates_behind (through (owned_kit (quiet b) notes) works (map of_merged packets)) →
    map as_message (map as_merged (through (owned_kit (quiet b) notes) was (map of_merged packets))) ≡ (chain_burst (quiet b) functions (map as_message packets)).gives →
    KeepsRests packets (map as_merged (through (owned_kit (quiet b) notes) was (map of_merged packets))) → EndsAs b functions packets fates
ended_as {F} {N} b notes works was functions packets fates alike keeps counts is told ended rests = record {
  behind = map as_merged (through (owned_kit (quiet b) notes) was (map of_merged packets));
  fated = told ∙ ap (λ (l : List (PlainStage (PlainOwned F N))). fates_behind (through (owned_kit (quiet b) notes) l (map of_merged packets))) is;
  packets_are = ended ∙ sym (alike b notes functions (map as_message packets) keeps counts);
  rests = rests;
}

-- counts that rise by what was counted from zero
raised_twice : (old made new n : ℕ) → made ≡ raised 0 n → new ≡ raised old made → new ≡ raised old n
raised_twice old made new n is up = omega arith

pub counts_rise : (old made new : List ℕ) (copies by : Field → ℕ) → ((f : Field) → count_of made f ≡ raised 0 (copies f)) → ((f : Field) → count_of new f ≡ raised (count_of old f) (count_of made f)) → ((f : Field) → copies f ≡ by f) → RaisesAll by old new
counts_rise old made new copies by is up same f = raised_twice (count_of old f) (count_of made f) (count_of new f) (copies f) (is f) (up f) ∙ ap (raised (count_of old f)) (same f)

-- if nothing was counted
stays_low : (c n : ℕ) → (c ≤ c) × (c ≤ raised c n)
stays_low c n = (omega arith, omega arith)

pub none_counted : (by : Field → ℕ) (tally : List ℕ) → RaisesUpTo by tally tally
none_counted by tally f = stays_low (count_of tally f) (by f)

-- the result of the nodes of all stages
pub record Passed {F : Type 0} (b : Behaviour F) (graph : Graph) (functions left : List F) (apart after : List Merged) (old new : List ℕ) : Type 0 where
  pub functions_are : left ≡ left_by b functions apart
  pub packets_are : map as_message after ≡ (chain_burst b functions (map as_message apart)).gives
  pub rests : KeepsRests apart after
  pub counted : RaisesAll (λ f. chain_copies b graph.stages f functions (map as_message apart)) old new

none_walk : {F : Type 0} (b : Behaviour F) (functions : List F) → ◌≡◌ {A = Turn (List F) (List Message)} (chain_burst b functions []) (record { state = functions; gives = [] })
unfolding one_by_one
none_walk b functions = refl

nothing : (c : ℕ) → c ≡ raised c 0
nothing c = omega arith

no_copies : {F : Type 0} (b : Behaviour F) (graph : Graph) (functions : List F) (f : Field) → chain_copies b graph.stages f functions [] ≡ 0
no_copies b graph functions f = refl

-- no packet at all
pub none_passed : {F : Type 0} (b : Behaviour F) (graph : Graph) (functions : List F) (apart : List Merged) (tally : List ℕ) → length apart ≡ 0 → Passed b graph functions functions apart apart tally tally
none_passed b graph functions [] tally none = record {
  functions_are = ap (λ t. t.state) (sym (none_walk b functions));
  packets_are = ap (λ t. t.gives) (sym (none_walk b functions));
  rests = record { count = refl; each = λ k m n a e. absurd cc };
  counted = λ f. nothing (count_of tally f) ∙ ap (raised (count_of tally f)) (sym (no_copies b graph functions f));
}
none_passed b graph functions (m ∷ apart) tally none = absurd (omega arith)

no_fates : (apart : List Merged) → length apart ≡ 0 → ◌≡◌ {A = List Fate} [] (map fate_behind apart)
no_fates [] none = refl
no_fates (m ∷ apart) none = absurd (omega arith)

pub none_ends : {F : Type 0} (b : Behaviour F) (graph : Graph) (functions : List F) (apart : List Merged) (tally : List ℕ) (fates : List Fate) → length apart ≡ 0 → fates ≡ [] → EndsAs b functions apart fates
none_ends b graph functions apart tally fates none is =
    let passed = none_passed b graph functions apart tally none in
    record { behind = apart; fated = is ∙ no_fates apart none; packets_are = passed.packets_are; rests = passed.rests }

-- the copies that are due are those of the walks, whether functions count or not
pub copies_alike : {F N : Type 0} (b : Behaviour F) (notes : Notes F N) (graph : Graph) (functions : List F) (ms : List Message) (f : Field) → EndsAlike F N → KeepsProfile b → CountsByNotes b notes → chain_copies (quiet b) graph.stages f functions ms ≡ chain_copies b graph.stages f functions ms
copies_alike b notes graph functions ms f alike keeps counts = ap (λ (ends : List Message). sum_by (λ x. copies_for graph.stages f x.0 x.1) (zip ms ends)) (sym (alike b notes functions ms keeps counts))

-- as many packets end as arrive
as_many_end : {F : Type 0} (b : Behaviour F) (functions : List F) (packets : List Merged) (fates : List Fate) → EndsAs b functions packets fates → length (chain_burst b functions (map as_message packets)).gives ≡ length (map as_message packets)
as_many_end b functions packets fates ended = ap length (sym ended.packets_are) ∙ length-map ended.behind as_message ∙ ended.rests.count ∙ sym (length-map packets as_message)

-- and their fates show where they were dropped
ends_told : {F : Type 0} (b : Behaviour F) (functions : List F) (packets : List Merged) (fates : List Fate) → EndsAs b functions packets fates → SameDrops fates (chain_burst b functions (map as_message packets)).gives
ends_told b functions packets fates ended = subst (λ l. SameDrops l (chain_burst b functions (map as_message packets)).gives) (sym ended.fated) (subst (SameDrops (map fate_behind ended.behind)) ended.packets_are (drops_told ended.behind))

-- the functions after the last stage, by stage and branch again, after all notes are settled
pub gone_back : {F N V : Type 0} (items : V → List (List F)) (b : Behaviour F) (notes : Notes F N) (graph : Graph) (stages : List Stage) (functions : List F) (packets : List Merged) (works was : List (PlainStage (PlainOwned F N))) (done : List (PlainOwned F N)) (fates shown : List Fate) (owned : List V) →
    AreNoteLaws F N → KeepsProfile b → KeepsProfile (quiet b) → IsQuiet (quiet b) → CountsByNotes b notes → IsRunning b functions graph → stages ≡ graph.stages → works ≡ was → EndsAs b functions packets fates →
    LeftWith b notes graph functions (map as_message packets) (ends_of (owned_kit (quiet b) notes) was (map of_merged packets)) →
    done ≡ flat (ends_of (owned_kit (quiet b) notes) works (map of_merged packets)) →
    shown ≡ fates → ((ends : List Message) (left : List (List (PlainOwned F N))) → SameDrops shown ends → map (λ l. length l) left ≡ map (λ s. length s.branches) stages → done ≡ flat left → map items owned ≡ map (λ l. map (settled_own notes ends) l) left) →
    map items owned ≡ owned_by stages (left_by b functions packets)
gone_back {F} {N} {V} items b notes graph stages functions packets works was done fates shown owned laws keeps quietly calm counts running are is ended left ran same back =
    let kit : Kit (PlainOwned F N) = owned_kit (quiet b) notes in
    let ms : List Message = map as_message packets in
    let at_end : List (List (PlainOwned F N)) = ends_of kit was (map of_merged packets) in
    let fit : map (λ l. length l) at_end ≡ map (λ s. length s.branches) stages =
    ends_fit graph.stages at_end (chain_burst (quiet b) functions ms).state left.functions_are ∙ ap (map (λ s. length s.branches)) (sym are) in
    let done_is : done ≡ flat at_end = ran ∙ ap (λ (l : List (PlainStage (PlainOwned F N))). flat (ends_of kit l (map of_merged packets))) is in
    back (chain_burst b functions ms).gives at_end (subst (λ l. SameDrops l (chain_burst b functions ms).gives) (sym same) (ends_told b functions packets fates ended)) fit done_is
    ∙ settled_back b notes graph functions ms at_end laws keeps quietly calm counts running.lawful running.full (as_many_end b functions packets fates ended) left
    ∙ ap (λ (l : List Stage). owned_by l (left_by b functions packets)) (sym are)

-- a turn keeps profiles
turn_keeps : {F : Type 0} (b : Behaviour F) (functions : List F) (m : Message) → KeepsProfile b → map b.profile (chain_turn b 1 functions m).state ≡ map b.profile functions
turn_keeps b functions (Here fixed values) keeps = walk_keeps b fixed 1 functions values keeps
turn_keeps b functions (Lost p) keeps = refl

-- and so does a burst
pub burst_keeps : {F : Type 0} (b : Behaviour F) (functions : List F) (ms : List Message) → KeepsProfile b → map b.profile (chain_burst b functions ms).state ≡ map b.profile functions
unfolding one_by_one
burst_keeps b functions [] keeps = refl
burst_keeps b functions (m ∷ ms) keeps = burst_keeps b (chain_turn b 1 functions m).state ms keeps ∙ turn_keeps b functions m keeps
