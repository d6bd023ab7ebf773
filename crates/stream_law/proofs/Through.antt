-- A burst through the nodes of all stages, one after another.
use Rattle.std.proofs.Common.{◌≡◌, ◌∙◌, ◌≤◌, ◌+◌, ℕ, List, [], ◌∷◌, length, map, ap, refl, sym, subst, arith}
use Rattle.std.specs.Prelude.{All}
use Rattle.std.proofs.lemmas.Option.{slice_get_within}
use Rattle.packet_fields.specs.declared.field.Field.{Field}
use Rattle.action_profile.specs.declared.rights.Profile.{Profile}
use Rattle.chain_walk.specs.Notes.{Notes}
use Rattle.chain_walk.specs.Step.{Behaviour}
use Rattle.graph_compile.specs.declared.graph.Stage.{Stage}
use Rattle.packet_version.specs.Splitting.{PlainApart}
use Rattle.merge_ops.specs.declared.merging.Merged.{Merged}
use Rattle.merge_ops.specs.declared.merging.Merged.TheVariants as ends
use Rattle.burst_law.specs.Stations.{along, weight_along}
use Rattle.burst_law.specs.Bursts.{Message, stage_burst}
use Rattle.burst_law.specs.Copies.{due_in}
use Rattle.graph_run.specs.Stages.{end_of}
use Rattle.packet_messages.specs.Messages.{PlainMessage}
use Rattle.stage_nodes.specs.Streams.{of_merged, as_merged, passed, through, ends_of, copies_along}
use Rattle.stage_nodes.specs.Flows.{MayPassAll}
use Rattle.stream_law.specs.Rests.{KeepsRest, KeepsRests}
use Rattle.stream_law.specs.Messages.{as_message}
use Rattle.stream_law.specs.Listed.{graph_listed}
use Rattle.stream_law.specs.Owned.{owned_kit, owned_may}
use Rattle.stream_law.specs.Ready.{MayEnter, AllEnter, Fits}
use Rattle.stream_law.specs.Works.{works_of}
use Rattle.stream_law.proofs.Rows.{Follows, LeavesBurst, all_as_of, same_some}
use Rattle.stream_law.proofs.Cited.{AreLaws}
use Rattle.stream_law.proofs.Staged.{HasPassed, IsReadyStage, owned_stage, passed_by, stage_passed, next_enter, some_at}

-- stages one after another, the first from this position on
unfoldable pub AllReady : {F : Type 0} → Behaviour F → List Profile → ℕ → List Stage → List (List (List F)) → Type 0
AllReady b chain at [] [] = Unit {0}
AllReady b chain at (s ∷ stages) (owns ∷ owned) = IsReadyStage b chain at s owns × AllReady b chain (end_of at s) stages owned
AllReady b chain at stages owned = ⊥

-- the rests of packets stay
keeps_itself : (chain : List Profile) (position : ℕ) (m : Merged) → MayEnter chain position m → KeepsRest m m
keeps_itself chain position (ends.Whole w) may = refl
keeps_itself chain position (ends.Gone p) may = refl
keeps_itself chain position ends.Short may = may

pub rests_first : (chain : List Profile) (position : ℕ) (packets : List Merged) → AllEnter chain position packets → KeepsRests packets packets
rests_first chain position packets enter = record {
  count = refl;
  each = λ k m n a e. subst (KeepsRest m) (same_some m n (sym a ∙ e)) (keeps_itself chain position m (enter k m a));
}

follows_rest : (chain : List Profile) (next : ℕ) (s m n : Merged) → KeepsRest s m → Follows chain next m n → KeepsRest s n
follows_rest chain next (ends.Whole v) (ends.Whole w) (ends.Whole after) k h = h.rest ∙ k
follows_rest chain next (ends.Whole v) (ends.Whole w) (ends.Gone p) k h = tt
follows_rest chain next (ends.Whole v) (ends.Whole w) ends.Short k h = h
follows_rest chain next (ends.Whole v) (ends.Gone p) n k h = subst (KeepsRest (ends.Whole v)) (sym h) tt
follows_rest chain next (ends.Whole v) ends.Short n k h = absurd k
follows_rest chain next (ends.Gone p) m n k h = subst (λ (x : Merged). Follows chain next x n) k h
follows_rest chain next ends.Short m n k h = absurd k

rests_on : (chain : List Profile) (next : ℕ) (start packets after : List Merged) → KeepsRests start packets → LeavesBurst chain next packets after → KeepsRests start after
rests_on chain next start packets after keeps leaves = record {
  count = leaves.count ∙ keeps.count;
  each = λ k s n a e.
      let inside = slice_get_within after k n e in let count = leaves.count in
      let m = some_at packets k (omega arith) in
      follows_rest chain next s m.0 n (keeps.each k s m.0 a m.1) (leaves.each k m.0 n m.1 e);
}

-- What is known about a burst after the nodes of all stages: these messages arrived, which are those packets to the law
-- of bursts.
pub record HasGone {F N : Type 0} (b : Behaviour F) (notes : Notes F N) (stages : List Stage) (owned : List (List (List F))) (n : ℕ) (start : List Merged) (xs : List (PlainMessage PlainApart)) (ms : List Message) : Type 0 where
  pub may : MayPassAll (owned_kit b notes) (owned_may b) (works_of b stages owned n) xs
  pub functions : map (λ l. map (λ o. o.functions) l) (ends_of (owned_kit b notes) (works_of b stages owned n) xs) ≡ (along (stage_burst b) stages owned ms).state
  pub positions : map (λ l. map (λ o. o.positions) l) (ends_of (owned_kit b notes) (works_of b stages owned n) xs) ≡ map (λ s. map (λ x. x.positions) s.branches) stages
  pub listed : map (λ l. map (λ o. o.listed) l) (ends_of (owned_kit b notes) (works_of b stages owned n) xs) ≡ graph_listed b notes stages owned ms
  pub packets_are : map as_message (map as_merged (through (owned_kit b notes) (works_of b stages owned n) xs)) ≡ (along (stage_burst b) stages owned ms).gives
  pub rests : KeepsRests start (map as_merged (through (owned_kit b notes) (works_of b stages owned n) xs))
  pub counted : (f : Field) → copies_along (owned_kit b notes) (works_of b stages owned n) xs f ≡ weight_along (stage_burst b) (due_in f) stages owned ms

none_gone : {F N : Type 0} (b : Behaviour F) (notes : Notes F N) (n : ℕ) (start packets : List Merged) → KeepsRests start packets → HasGone b notes [] [] n start (map of_merged packets) (map as_message packets)
unfolding works_of MayPassAll through ends_of copies_along along weight_along graph_listed
none_gone b notes n start packets rests = record {
  may = tt;
  functions = refl;
  positions = refl;
  listed = refl;
  packets_are = ap (map as_message) (all_as_of packets);
  rests = subst (KeepsRests start) (sym (all_as_of packets)) rests;
  counted = λ f. refl;
}

one_gone : {F N : Type 0} (b : Behaviour F) (notes : Notes F N) (chain : List Profile) (at : ℕ) (s : Stage) (stages : List Stage) (owns : List (List F)) (owned : List (List (List F))) (n : ℕ) (start packets : List Merged) → HasPassed b notes chain at s owns n packets →
    HasGone b notes stages owned n start (passed (owned_kit b notes) (owned_stage b s owns n) (map of_merged packets)) (stage_burst b s owns (map as_message packets)).gives →
    HasGone b notes (s ∷ stages) (owns ∷ owned) n start (map of_merged packets) (map as_message packets)
unfolding works_of MayPassAll through ends_of copies_along along weight_along graph_listed
one_gone b notes chain at s stages owns owned n start packets here later = record {
  may = (here.may, later.may);
  functions = λ i. here.functions i ∷ later.functions i;
  positions = λ i. here.positions i ∷ later.positions i;
  listed = λ i. here.listed i ∷ later.listed i;
  packets_are = later.packets_are;
  rests = later.rests;
  counted = λ f i. here.counted f i + later.counted f i;
}

pub all_gone : {F N : Type 0} (b : Behaviour F) (notes : Notes F N) (chain : List Profile) (at : ℕ) (stages : List Stage) (owned : List (List (List F))) (n : ℕ) (start packets : List Merged) → AreLaws b → AllReady b chain at stages owned → AllEnter chain at packets → All Fits packets → length packets ≤ n → KeepsRests start packets →
    HasGone b notes stages owned n start (map of_merged packets) (map as_message packets)
unfolding AllReady
all_gone b notes chain at [] [] n start packets laws ready enter fits many rests = none_gone b notes n start packets rests
all_gone {F} {N} b notes chain at (s ∷ stages) (owns ∷ owned) n start packets laws ready enter fits many rests =
    let stage = ready.0 in
    let here = stage_passed b notes chain at s owns n packets laws stage enter fits many in
    let after : List Merged = passed_by b notes s owns n packets in
    let count = here.leaves.count in
    let later = all_gone b notes chain (end_of at s) stages owned n start after laws ready.1 (next_enter chain (end_of at s) packets after here.leaves) here.fits (omega arith) (rests_on chain (end_of at s) start packets after rests here.leaves) in
    one_gone b notes chain at s stages owns owned n start packets here
    (subst (λ (xs : List (PlainMessage PlainApart)). HasGone b notes stages owned n start xs (stage_burst b s owns (map as_message packets)).gives) here.same
    (subst (λ (ms : List Message). HasGone b notes stages owned n start (map of_merged after) ms) here.packets_are later))
all_gone b notes chain at [] (owns ∷ owned) n start packets laws ready enter fits many rests = absurd ready
all_gone b notes chain at (s ∷ stages) [] n start packets laws ready enter fits many rests = absurd ready
