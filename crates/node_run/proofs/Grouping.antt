-- The nodes of a group, which run side by side, and groups one after another.
use Rattle.std.proofs.Common.{◌≡◌, ◌<◌, ◌∙◌, ℕ, suc, List, [], ◌∷◌, ◌++◌, length, ap, refl, sym, subst, arith, false, All, append_assoc}
use Rattle.std.specs.Prelude.{slice_index_or}
use Rattle.std.proofs.lemmas.List.{append-nil}
use Rattle.std.proofs.lemmas.List.Elements.{All-nil, All-cons, All-head, All-tail}
use Rattle.packet_fields.specs.declared.field.Field.{Field}
use Rattle.packet_version.specs.Tallies.{count_of, raised}
use Rattle.packet_version.specs.Versions.{PlainVersion}
use Rattle.stage_nodes.specs.Streams.{Kit}
use Rattle.node_run.specs.declared.crew.CrewDone.{CrewDone}
use Rattle.node_run.specs.declared.node.Done.{Done}
use Rattle.node_run.specs.declared.node.Node.{Node}
use Rattle.node_run.specs.Crews.{CrewKeeps, GivesTogether, KeepsMore, given_by, told_by}
use Rattle.node_run.specs.Nodes.{Keeps, added, copies_by, copies_by_all, gather, is_ready}
use Rattle.node_run.proofs.Crewing.{added_before, raised_both, raised_none, raised_on}
use Rattle.node_run.proofs.Turning.{made_first}

-- a node that gave back what is due
abbrev pub is_ample_done : {F : Type 0} → Done F → Type 0
is_ample_done d = d.short ≡ false

-- this number was kept
pub record AreKept {F : Type 0} (all rest : List (Done F)) (functions : List F) (tally : List ℕ) : Type 0 where
  pub found : All is_ample_done rest → All is_ample_done all
  pub gives : functions ++ given_by rest ≡ given_by all
  pub counted : (f : Field) → raised (count_of tally f) (told_by f rest) ≡ raised 0 (told_by f all)

pub none_kept : {F : Type 0} (all rest : List (Done F)) (functions : List F) (tally : List ℕ) → rest ≡ all → functions ≡ [] → ((f : Field) → count_of tally f ≡ 0) → AreKept all rest functions tally
none_kept all rest functions tally is none zeros = record {
  found = λ h. subst (All is_ample_done) is h;
  gives = ap (λ y. y ++ given_by rest) none ∙ ap given_by is;
  counted = λ f. ap (λ y. raised y (told_by f rest)) (zeros f) ∙ ap (λ y. raised 0 (told_by f y)) is;
}

pub one_kept : {F : Type 0} (all was rest : List (Done F)) (done : Done F) (functions more : List F) (tally new : List ℕ) → AreKept all was functions tally → was ≡ done ∷ rest → KeepsMore done functions more tally new → AreKept all rest more new
unfolding given_by told_by
one_kept all was rest done functions more tally new kept is keeps = record {
  found = λ h. kept.found (subst (All is_ample_done) (sym is) (All-cons is_ample_done done rest keeps.short h));
  gives = ap (λ y. y ++ given_by rest) keeps.gives ∙ append_assoc functions (added done.function []) (given_by rest) ∙ ap (λ y. functions ++ y) (added_before done.function (given_by rest))
      ∙ ap (λ y. functions ++ given_by y) (sym is) ∙ kept.gives;
  counted = λ f. ap (λ y. raised y (told_by f rest)) (keeps.counted f) ∙ raised_on (count_of tally f) (count_of done.tally f) (told_by f rest)
      ∙ ap (λ y. raised (count_of tally f) (told_by f y)) (sym is) ∙ kept.counted f;
}

pub all_kept : {F : Type 0} (all rest : List (Done F)) (crew : CrewDone F) → AreKept all rest crew.functions.items crew.tally → rest ≡ [] → GivesTogether all crew
unfolding given_by told_by
all_kept all rest crew kept none = record {
  found = kept.found (subst (All is_ample_done) (sym none) (All-nil is_ample_done));
  gives = sym (append-nil crew.functions.items) ∙ ap (λ y. crew.functions.items ++ given_by y) (sym none) ∙ kept.gives;
  counted = λ f. sym (raised_none (count_of crew.tally f)) ∙ ap (λ y. raised (count_of crew.tally f) (told_by f y)) (sym none) ∙ kept.counted f;
}

-- each node of a group gave back what is due
abbrev pub EachKeeps : {F : Type 0} → Kit F → List (Node F) → List (Done F) → Type 0
EachKeeps {F} k nodes dones = (i : ℕ) (n : Node F) (d : Done F) → i < length nodes → Keeps k (slice_index_or nodes i n) (slice_index_or dones i d)

later_keep : {F : Type 0} (k : Kit F) (n : Node F) (d : Done F) (nodes : List (Node F)) (dones : List (Done F)) → EachKeeps k (n ∷ nodes) (d ∷ dones) → EachKeeps k nodes dones
later_keep k n d nodes dones each i m e less = each (suc i) m e (omega arith)

given_same : {F : Type 0} (k : Kit F) (nodes : List (Node F)) (dones : List (Done F)) → length dones ≡ length nodes → EachKeeps k nodes dones → All is_ample_done dones → given_by dones ≡ gather k nodes
unfolding given_by gather
given_same k [] [] count each found = refl
given_same k [] (d ∷ dones) count each found = absurd (omega arith)
given_same k (n ∷ nodes) [] count each found = absurd (omega arith)
given_same k (n ∷ nodes) (d ∷ dones) count each found =
    let here = each 0 n d (omega arith) (All-head is_ample_done d dones found) in
    λ i. added (here.functions i) (given_same k nodes dones (omega arith) (later_keep k n d nodes dones each) (All-tail is_ample_done d dones found) i)

told_same : {F : Type 0} (k : Kit F) (may : F → ℕ → PlainVersion → Type 0) (f : Field) (nodes : List (Node F)) (dones : List (Done F)) → length dones ≡ length nodes → All (is_ready k may) nodes → EachKeeps k nodes dones → All is_ample_done dones →
    raised 0 (told_by f dones) ≡ raised 0 (copies_by_all f nodes)
unfolding told_by copies_by_all
told_same k may f [] [] count ready each found = refl
told_same k may f [] (d ∷ dones) count ready each found = absurd (omega arith)
told_same k may f (n ∷ nodes) [] count ready each found = absurd (omega arith)
told_same k may f (n ∷ nodes) (d ∷ dones) count ready each found =
    let here = each 0 n d (omega arith) (All-head is_ample_done d dones found) in
    raised_both (count_of d.tally f) (copies_by f n) (told_by f dones) (copies_by_all f nodes) (here.copies f ∙ made_first k may f n (All-head (is_ready k may) n nodes ready))
    (told_same k may f nodes dones (omega arith) (All-tail (is_ready k may) n nodes ready) (later_keep k n d nodes dones each) (All-tail is_ample_done d dones found))

pub group_keeps : {F : Type 0} (k : Kit F) (may : F → ℕ → PlainVersion → Type 0) (group nodes : List (Node F)) (dones : List (Done F)) (done : CrewDone F) → nodes ≡ group → All (is_ready k may) group → length dones ≡ length nodes → EachKeeps k nodes dones → GivesTogether dones done → CrewKeeps k group done
group_keeps k may group nodes dones done is ready count each together w = record {
  functions = together.gives ∙ given_same k nodes dones count each together.found ∙ ap (gather k) is;
  copies = λ f. together.counted f ∙ told_same k may f nodes dones count (subst (All (is_ready k may)) (sym is) ready) each together.found ∙ ap (λ y. raised 0 (copies_by_all f y)) is;
}
