-- A stage whose branches have all run, and the copies that it made.
use Rattle.std.proofs.Common.{◌≡◌, ◌∙◌, ◌<◌, ◌≤◌, ℕ, zero, suc, List, [], ◌∷◌, map, length, drop, sym, ap, refl, subst, arith}
use Rattle.std.specs.Prelude.{◌^◌, Option, Some, None, is_some, if◌then◌else◌, slice_index_or}
use Rattle.std.proofs.lemmas.List.{drop_all, take_all, append-nil}
use Rattle.packet_fields.specs.Fields.{number_of}
use Rattle.packet_fields.specs.declared.field.Field.{Field}
use Rattle.packet_fields.specs.declared.field.Field.TheVariants.{LinkDst, LinkSrc, Tag, Tos, Ttl, SrcIp, DstIp, SrcPort, DstPort, Payload}
use Rattle.action_profile.specs.Modes.{mode_of, modes_of, copies_by_mode, copies}
use Rattle.action_profile.specs.declared.parts.Mode.TheVariants.{Shared}
use Rattle.action_profile.specs.declared.parts.Touch.{Touch}
use Rattle.action_profile.specs.declared.rights.Profile.{Profile}
use Rattle.chain_walk.specs.Step.{Behaviour}
use Rattle.graph_compile.specs.Lawful.{IsLawfulStage}
use Rattle.graph_compile.specs.Parts.{stage_parts}
use Rattle.graph_compile.specs.declared.graph.Branch.{Branch}
use Rattle.graph_compile.specs.declared.graph.Stage.{Stage}
use Rattle.graph_law.specs.Flow.{Branched, branched, staged}
use Rattle.graph_law.specs.Merging.{merged as merged_by_law}
use Rattle.packet_version.specs.Parts.{PlainPart}
use Rattle.packet_version.specs.Splitting.{PlainApart, IsWhole, packet_parts}
use Rattle.packet_version.specs.Tallies.{count_of, raised}
use Rattle.packet_version.specs.Versions.{PlainVersion}
use Rattle.packet_version.specs.Dealing.{dealt, based, copies_due, RaisesByDue, RaisesWithinDue}
use Rattle.merge_ops.specs.Behind.{AreFrom, AreArrivals}
use Rattle.merge_ops.specs.Taking.{merged}
use Rattle.merge_ops.specs.declared.arrival.Arrival.{Arrival}
use Rattle.merge_ops.specs.declared.merging.Merged.{Merged}
use Rattle.graph_run.specs.Carrying.{as_branch_end, values_in, as_end}
use Rattle.graph_run.specs.Counting.{RaisesAll, RaisesUpTo}
use Rattle.graph_run.specs.Stages.{end_of, IsStageReady, AllCarried, LeavesStage, stage_copies}
use Rattle.graph_run.proofs.Latest.{Unwritten}
use Rattle.graph_run.proofs.Behind.{LastValues, behind, each_from, same_count}
use Rattle.graph_run.proofs.Branching.{Owned, HasRun, before, ReadySomewhere}

map_none : {A B : Type 0} (f : A → B) (l : List A) → [] ≡ map f l → l ≡ []
map_none f [] e = refl
map_none f (x ∷ l) e = absurd cc

none_left : {A : Type 0} (xs : List A) (j : ℕ) → drop j xs ≡ [] → length xs ≤ j
none_left [] j e = omega arith
none_left (x ∷ xs) zero e = absurd cc
none_left (x ∷ xs) (suc j) e = let rest = none_left xs j e in omega arith

branched_none : {F : Type 0} (b : Behaviour F) (stage : Stage) (whole : PlainApart) (touches : List Touch) (fs : List F) → branched b whole.fixed [] touches (values_in whole) fs ≡ record { functions = fs; arrivals = [] }
unfolding branched
branched_none b stage whole touches fs = refl

-- every branch has run, and their results may be merged
pub record AllRan {F : Type 0} (b : Behaviour F) (stage : Stage) (whole : PlainApart) (first now : List F) (done : List Arrival) : Type 0 where
  pub same : ◌≡◌ {A = Branched F} (record { functions = now; arrivals = map as_branch_end done }) (branched b whole.fixed stage.branches stage.parts.touches (values_in whole) first)
  pub came : (at : ℕ) → IsStageReady (map b.profile first) at stage whole → AllCarried (map b.profile first) whole (end_of at stage) stage.parts.touches done

pub branches_over : {F : Type 0} (b : Behaviour F) (stage : Stage) (whole : PlainApart) (first now : List F) (j : ℕ) (done : List Arrival) (rest : List PlainVersion) → Owned → HasRun b stage whole first now j done rest → rest ≡ [] → ReadySomewhere b first stage whole → AllRan b stage whole first now done
branches_over b stage whole first now j done rest owned run none ready =
    let past : length stage.parts.touches ≤ j = none_left stage.parts.touches j (map_none (dealt whole) (drop j stage.parts.touches) (sym none ∙ run.left)) in
    let count = (owned (map b.profile first) ready.0 stage ready.1.lawful).touches in
    record {
      same = ap (λ l. record { functions = now; arrivals = l }) (sym (append-nil (map as_branch_end done)))
          ∙ ap (before (map as_branch_end done)) (sym (branched_none b stage whole (drop j stage.parts.touches) now))
          ∙ ap (λ (bs : List Branch). before (map as_branch_end done) (branched b whole.fixed bs (drop j stage.parts.touches) (values_in whole) now)) (sym (drop_all j stage.branches (omega arith)))
          ∙ run.same;
      came = λ at is_ready. subst (λ (ts : List Touch). AllCarried (map b.profile first) whole (end_of at stage) ts done) (take_all j stage.parts.touches past) (run.came at is_ready);
    }

-- so these are the arrivals of a base
pub came_from : {F : Type 0} (b : Behaviour F) (stage : Stage) (whole base : PlainApart) (first now : List F) (done : List Arrival) → AllRan b stage whole first now done → base ≡ based stage.parts.touches whole → IsWhole (packet_parts whole) whole.rest →
    ReadySomewhere b first stage whole → AreFrom whole stage.parts.touches base done
came_from b stage whole base first now done ran is fits ready =
    let all = ran.came ready.0 ready.1 in
    record {
      fits = fits;
      behind = is;
      count = same_count (map b.profile first) whole (end_of ready.0 stage) stage.parts.touches done all;
      each = each_from (map b.profile first) whole (end_of ready.0 stage) stage.parts.touches done all;
    }

pub are_arrivals : {F : Type 0} (b : Behaviour F) (stage : Stage) (whole base : PlainApart) (first now : List F) (done : List Arrival) → AllRan b stage whole first now done → base ≡ based stage.parts.touches whole → IsWhole (packet_parts whole) whole.rest →
    ReadySomewhere b first stage whole → AreArrivals base done
are_arrivals b stage whole base first now done ran is fits ready = record { whole = whole; touches = stage.parts.touches; from = came_from b stage whole base first now done ran is fits ready }

pub few_arrivals : {F : Type 0} (b : Behaviour F) (stage : Stage) (whole : PlainApart) (first now : List F) (done : List Arrival) → Owned → AllRan b stage whole first now done → ReadySomewhere b first stage whole → length done < 2 ^ 32
few_arrivals b stage whole first now done owned ran ready =
    let count = (owned (map b.profile first) ready.0 stage ready.1.lawful).touches in
    let same = same_count (map b.profile first) whole (end_of ready.0 stage) stage.parts.touches done (ran.came ready.0 ready.1) in
    let few = ready.1.few in
    omega arith

-- what leaves the stage
pub stage_ends : {F : Type 0} (b : Behaviour F) (stage : Stage) (whole base : PlainApart) (first now : List F) (done : List Arrival) (result : Merged) → Unwritten → LastValues → AllRan b stage whole first now done → base ≡ based stage.parts.touches whole →
    IsWhole (packet_parts whole) whole.rest → ReadySomewhere b first stage whole → result ≡ merged base done → as_end result ≡ (staged b whole.fixed stage (values_in whole) first).end
stage_ends b stage whole base first now done result unwritten last ran is fits ready merges =
    ap as_end merges
    ∙ (behind (map b.profile first) whole base ready.0 (end_of ready.0 stage) stage.parts.touches done unwritten last (ran.came ready.0 ready.1) (came_from b stage whole base first now done ran is fits ready) ready.1.goes (omega arith)).end
    ∙ ap (λ r. merged_by_law (values_in whole) r.arrivals) ran.same

pub stage_leaves : {F : Type 0} (b : Behaviour F) (stage : Stage) (whole base : PlainApart) (first now : List F) (done : List Arrival) (result : Merged) → Unwritten → LastValues → AllRan b stage whole first now done → base ≡ based stage.parts.touches whole →
    IsWhole (packet_parts whole) whole.rest → result ≡ merged base done → (at : ℕ) → IsStageReady (map b.profile first) at stage whole → LeavesStage (map b.profile first) (end_of at stage) whole result
stage_leaves b stage whole base first now done result unwritten last ran is fits merges at ready =
    subst (LeavesStage (map b.profile first) (end_of at stage) whole) (sym merges)
    (behind (map b.profile first) whole base at (end_of at stage) stage.parts.touches done unwritten last (ran.came at ready) (came_from b stage whole base first now done ran is fits (at, ready)) ready.goes (omega arith)).leaves

-- the modes of a lawful stage are those of its touches
pub stage_modes : (chain : List Profile) (first : ℕ) (stage : Stage) → IsLawfulStage chain first stage → stage.parts.modes ≡ modes_of stage.parts.touches
unfolding stage_parts
stage_modes chain first stage lawful = ap (λ p. p.modes) lawful.parts ∙ ap (λ p. modes_of p.touches) (sym lawful.parts)

mode_at : (touches : List Touch) (f : Field) → slice_index_or (modes_of touches) (number_of f) Shared ≡ mode_of touches f
mode_at touches LinkDst = refl
mode_at touches LinkSrc = refl
mode_at touches Tag = refl
mode_at touches Tos = refl
mode_at touches Ttl = refl
mode_at touches SrcIp = refl
mode_at touches DstIp = refl
mode_at touches SrcPort = refl
mode_at touches DstPort = refl
mode_at touches Payload = refl

copies_are : (stage : Stage) (f : Field) → stage.parts.modes ≡ modes_of stage.parts.touches → copies_by_mode (mode_of stage.parts.touches f) stage.parts.touches f ≡ copies stage.parts f
unfolding copies
copies_are stage f modes = ap (λ m. copies_by_mode m stage.parts.touches f) (sym (ap (λ ms. slice_index_or ms (number_of f) Shared) modes ∙ mode_at stage.parts.touches f))

pub due_is : (stage : Stage) (whole : PlainApart) (f : Field) → stage.parts.modes ≡ modes_of stage.parts.touches → copies_due stage.parts.touches f (packet_parts whole f) ≡ stage_copies stage whole f
due_is stage whole f modes = by_part (packet_parts whole f)
  where
    by_part : (o : Option PlainPart) → copies_due stage.parts.touches f o ≡ (if is_some o then copies stage.parts f else 0)
    by_part None = refl
    by_part (Some p) = copies_are stage f modes

pub stage_counted : (stage : Stage) (whole : PlainApart) (old new : List ℕ) → stage.parts.modes ≡ modes_of stage.parts.touches → RaisesByDue stage.parts.touches (packet_parts whole) old new → RaisesAll (stage_copies stage whole) old new
stage_counted stage whole old new modes due = λ f. due f ∙ ap (raised (count_of old f)) (due_is stage whole f modes)

pub stage_counted_up : (stage : Stage) (whole : PlainApart) (old new : List ℕ) → stage.parts.modes ≡ modes_of stage.parts.touches → RaisesByDue stage.parts.touches (packet_parts whole) old new → RaisesUpTo (stage_copies stage whole) old new
stage_counted_up stage whole old new modes due = λ f. let is = stage_counted stage whole old new modes due f in (omega arith, omega arith)

pub stage_refused : (stage : Stage) (whole : PlainApart) (old new : List ℕ) → stage.parts.modes ≡ modes_of stage.parts.touches → RaisesWithinDue stage.parts.touches (packet_parts whole) old new → RaisesUpTo (stage_copies stage whole) old new
stage_refused stage whole old new modes due = λ f. ((due f).0, subst (λ n. count_of new f ≤ raised (count_of old f) n) (due_is stage whole f modes) (due f).1)

-- nothing remains of a list without length
pub nothing_left : {A : Type 0} (xs : List A) (n : ℕ) → n ≡ 0 → length xs ≡ n → xs ≡ []
nothing_left [] n none e = refl
nothing_left (x ∷ xs) n none e = absurd (omega arith)
