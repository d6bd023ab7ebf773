-- The branches of a stage, one after another: the state so far.
use Rattle.std.proofs.Common.{◌≡◌, ◌∙◌, ◌<◌, ◌≤◌, ◌+◌, ◌*◌, ℕ, zero, suc, Bool, true, false, List, [], ◌∷◌, ◌++◌, map, length, take, drop, get_or, sym, ap, refl, subst, arith, add-one}
use mathlib.Core.Path.{fun_ext}
use Rattle.std.specs.Prelude.{if◌then◌else◌, Option, Some, None, option_map, IfSome, slice_get}
use Rattle.std.proofs.Math.Seq.{drop-nil}
use Rattle.std.proofs.lemmas.List.{drop_more}
use Rattle.packet_fields.specs.Frames.{is_tag_list}
use Rattle.packet_fields.specs.Fields.{IsLengthOf}
use Rattle.packet_fields.specs.declared.field.Field.TheVariants.{Tag}
use Rattle.action_profile.specs.Modes.{has_touch}
use Rattle.action_profile.specs.declared.parts.Touch.{Touch}
use Rattle.action_profile.specs.declared.rights.Profile.{Profile}
use Rattle.chain_walk.specs.Shown.{Values, AreWellFormed}
use Rattle.chain_walk.specs.Step.{Behaviour}
use Rattle.chain_walk.specs.Laws.{KeepsProfile}
use Rattle.chain_walk.specs.declared.fixed.Fixed.{Fixed}
use Rattle.graph_compile.specs.Lawful.{IsLawfulStage}
use Rattle.graph_compile.specs.Owners.{HasOwners}
use Rattle.graph_compile.specs.declared.graph.Branch.{Branch}
use Rattle.graph_compile.specs.declared.graph.Stage.{Stage}
use Rattle.graph_law.specs.Branches.{BranchEnd, BranchEnd.Live, Ran, in_turn, dealt as dealt_by_law}
use Rattle.graph_law.specs.Flow.{Branched, then_branched, branched}
use Rattle.packet_version.specs.Parts.{PlainPart, Parts, values_of, writers_of, writer_in, unwritten}
use Rattle.packet_version.specs.Splitting.{PlainApart, packet_parts}
use Rattle.packet_version.specs.Versions.{PlainVersion, version_parts}
use Rattle.packet_version.specs.Dealing.{dealt, dealt_parts}
use Rattle.merge_ops.specs.Behind.{IsMadeOf}
use Rattle.merge_ops.specs.declared.arrival.Arrival.{Arrival}
use Rattle.graph_run.specs.Carrying.{as_version, as_branch_end, values_in}
use Rattle.graph_run.specs.Rooms.{adders_from}
use Rattle.graph_run.specs.Staging.{Holds, IsCarried, IsCarriedBy, IsReady}
use Rattle.graph_run.specs.Stages.{end_of, GoesFrom, IsStageReady, AllCarried}
use Rattle.graph_run.proofs.Listed.{map_of_list}
use Rattle.graph_run.proofs.Writing.{bytes_in}
use Rattle.graph_run.proofs.Owning.{branch_holds}

abbrev pub Owned : Type 0
Owned = (chain : List Profile) (first : ℕ) (stage : Stage) → IsLawfulStage chain first stage → HasOwners chain first stage

abbrev pub DealtIsMade : Type 0
DealtIsMade = (whole : PlainApart) (touch : Touch) → IsMadeOf whole touch (dealt whole touch)

bytes_dealt : (t : Bool) (o : Option PlainPart) → bytes_in (if t then option_map unwritten o else None) ≡ (if t then bytes_in o else None)
bytes_dealt true None = refl
bytes_dealt true (Some p) = refl
bytes_dealt false o = refl

nobody : (t : Bool) (o : Option PlainPart) → writer_in (if t then option_map unwritten o else None) ≡ 0
nobody true None = refl
nobody true (Some p) = refl
nobody false o = refl

-- a branch gets what the law says
pub dealt_is : (whole : PlainApart) (touch : Touch) → Live (as_version (dealt whole touch)) ≡ dealt_by_law touch (values_in whole)
dealt_is whole touch =
    let read = map_of_list (dealt_parts touch (packet_parts whole)) in
    λ i. Live (record {
      values = (ap values_of read ∙ fun_ext (λ f. bytes_dealt (has_touch f touch) (packet_parts whole f))) i;
      writers = (ap writers_of read ∙ fun_ext (λ f. nobody (has_touch f touch) (packet_parts whole f))) i;
    })

length_dealt : (t : Bool) (o : Option (List ℕ)) (P : List ℕ → Type 0) → IfSome o P → IfSome (if t then o else None) P
length_dealt true o P h = h
length_dealt false o P h = tt

room_dealt : (t : Bool) (o : Option PlainPart) (n : ℕ) → IfSome o (λ p. length p.bytes + n ≤ p.room) → IfSome (if t then option_map unwritten o else None) (λ p. length p.bytes + n ≤ p.room)
room_dealt true None n h = tt
room_dealt true (Some p) n h = h
room_dealt false o n h = tt

-- what a branch gets may go on from the stage's first position
pub dealt_carried : (chain : List Profile) (whole : PlainApart) (touch : Touch) (first : ℕ) → DealtIsMade → GoesFrom chain first whole → IsCarried chain whole touch first (dealt whole touch)
dealt_carried chain whole touch first made goes =
    let read = map_of_list (dealt_parts touch (packet_parts whole)) in
    let values : values_of (version_parts (dealt whole touch)) ≡ (λ f. if has_touch f touch then values_in whole f else None) = ap values_of read ∙ fun_ext (λ f. bytes_dealt (has_touch f touch) (packet_parts whole f)) in
    record {
      made = made whole touch;
      fixed = refl;
      formed = subst AreWellFormed (sym values) (record {
        lengths = λ f. length_dealt (has_touch f touch) (values_in whole f) (λ bytes. IsLengthOf f (length bytes)) (goes.formed.lengths f);
        tags = length_dealt (has_touch Tag touch) (values_in whole Tag) (λ tags. is_tag_list tags ≡ true) goes.formed.tags;
      });
      room = subst (λ (m : Parts). IfSome (m Tag) (λ p. length p.bytes + 4 * adders_from chain first ≤ p.room)) (sym read) (room_dealt (has_touch Tag touch) (packet_parts whole Tag) (4 * adders_from chain first) goes.room);
    }

-- the results of the branches before, and those of the others
abbrev pub before : {F : Type 0} → List BranchEnd → Branched F → Branched F
before done rest = record { functions = rest.functions; arrivals = done ++ rest.arrivals }

-- this number of branches have run, and the rest of them gives what all give
pub record HasRun {F : Type 0} (b : Behaviour F) (stage : Stage) (whole : PlainApart) (first now : List F) (j : ℕ) (done : List Arrival) (rest : List PlainVersion) : Type 0 where
  pub same : before (map as_branch_end done) (branched b whole.fixed (drop j stage.branches) (drop j stage.parts.touches) (values_in whole) now) ≡ branched b whole.fixed stage.branches stage.parts.touches (values_in whole) first
  pub left : rest ≡ map (dealt whole) (drop j stage.parts.touches)
  pub profiles : map b.profile now ≡ map b.profile first
  pub came : (at : ℕ) → IsStageReady (map b.profile first) at stage whole → AllCarried (map b.profile first) whole (end_of at stage) (take j stage.parts.touches) done

pub branches_begin : {F : Type 0} (b : Behaviour F) (stage : Stage) (whole : PlainApart) (first : List F) (done : List Arrival) (rest versions : List PlainVersion) → done ≡ [] → rest ≡ versions → versions ≡ map (dealt whole) stage.parts.touches →
    HasRun b stage whole first first 0 done rest
unfolding AllCarried
branches_begin b stage whole first done rest versions none all is = record {
  same = ap (λ (l : List Arrival). before (map as_branch_end l) (branched b whole.fixed stage.branches stage.parts.touches (values_in whole) first)) none;
  left = all ∙ is;
  profiles = refl;
  came = λ at ready. subst (λ (l : List Arrival). AllCarried (map b.profile first) whole (end_of at stage) [] l) (sym none) tt;
}

-- what is known about the touch of the next branch
pub record NextTouch (whole : PlainApart) (touches : List Touch) (j next : ℕ) (version : PlainVersion) (rest : List PlainVersion) : Type 0 where
  pub touch : Touch
  pub cut : drop j touches ≡ touch ∷ drop next touches
  pub is : slice_get touches j ≡ Some touch
  pub front : take next touches ≡ take j touches ++ touch ∷ []
  pub dealt_so : version ≡ dealt whole touch
  pub others : rest ≡ map (dealt whole) (drop next touches)
  pub inside : j < length touches

first_same : {A : Type 0} (x y : A) (xs ys : List A) → ◌≡◌ {A = List A} (x ∷ xs) (y ∷ ys) → (x ≡ y) × (xs ≡ ys)
first_same x y xs ys e = (ap (λ l. get_or l 0 x) e, ap (λ l. drop 1 l) e)

next_after : (whole : PlainApart) (touches : List Touch) (j : ℕ) (version : PlainVersion) (rest : List PlainVersion) → version ∷ rest ≡ map (dealt whole) (drop j touches) → NextTouch whole touches j (suc j) version rest
next_after whole [] j version rest e = absurd (nothing_left (drop j []) (drop-nil j) e)
  where
    nothing_left : (l : List Touch) → l ≡ [] → version ∷ rest ≡ map (dealt whole) l → ⊥
    nothing_left l none e = let f : version ∷ rest ≡ [] = e ∙ ap (map (dealt whole)) none in cc
next_after whole (t ∷ touches) zero version rest e =
    let same = first_same version (dealt whole t) rest (map (dealt whole) touches) e in
    record { touch = t; cut = refl; is = refl; front = refl; dealt_so = same.0; others = same.1; inside = omega arith }
next_after whole (t ∷ touches) (suc j) version rest e =
    let next = next_after whole touches j version rest e in
    record { touch = next.touch; cut = next.cut; is = next.is; front = ap (λ l. t ∷ l) next.front; dealt_so = next.dealt_so; others = next.others; inside = let i = next.inside in omega arith }

pub next_touch : (whole : PlainApart) (touches : List Touch) (j : ℕ) (version : PlainVersion) (rest : List PlainVersion) → version ∷ rest ≡ map (dealt whole) (drop j touches) → NextTouch whole touches j (j + 1) version rest
next_touch whole touches j version rest e = subst (λ n. NextTouch whole touches j n version rest) (sym (add-one j)) (next_after whole touches j version rest e)

got_at : {A : Type 0} (xs : List A) (j : ℕ) (d : A) → j < length xs → slice_get xs j ≡ Some (get_or xs j d)
got_at [] j d less = absurd (omega arith)
got_at (x ∷ xs) zero d less = refl
got_at (x ∷ xs) (suc j) d less = got_at xs j d (omega arith)

abbrev pub ReadySomewhere : {F : Type 0} → Behaviour F → List F → Stage → PlainApart → Type 0
ReadySomewhere b first stage whole = (at : ℕ) × IsStageReady (map b.profile first) at stage whole

-- there is a branch for each version
pub branch_inside : {F : Type 0} (b : Behaviour F) (stage : Stage) (whole : PlainApart) (first now : List F) (j : ℕ) (done : List Arrival) (was rest : List PlainVersion) (version : PlainVersion) → Owned → HasRun b stage whole first now j done was →
    was ≡ version ∷ rest → ReadySomewhere b first stage whole → j < length stage.branches
branch_inside b stage whole first now j done was rest version owned run takes ready =
    let next = next_touch whole stage.parts.touches j version rest (sym takes ∙ run.left) in
    let count = (owned (map b.profile first) ready.0 stage ready.1.lawful).touches in
    let inside = next.inside in
    omega arith

pub branch_ready : {F : Type 0} (b : Behaviour F) (stage : Stage) (whole : PlainApart) (first now : List F) (j : ℕ) (done : List Arrival) (was rest : List PlainVersion) (version : PlainVersion) (d : Branch) → Owned → DealtIsMade →
    HasRun b stage whole first now j done was → was ≡ version ∷ rest → ReadySomewhere b first stage whole → IsReady (map b.profile now) (get_or stage.branches j d).positions version
branch_ready b stage whole first now j done was rest version d owned made run takes ready =
    let next = next_touch whole stage.parts.touches j version rest (sym takes ∙ run.left) in
    let chain = map b.profile first in
    let owners = owned chain ready.0 stage ready.1.lawful in
    let inside = branch_inside b stage whole first now j done was rest version owned run takes ready in
    subst (λ (v : PlainVersion). IsReady (map b.profile now) (get_or stage.branches j d).positions v) (sym next.dealt_so)
    (subst (λ (ps : List Profile). IsReady ps (get_or stage.branches j d).positions (dealt whole next.touch)) (sym run.profiles) (record {
      whole = whole;
      low = ready.0;
      high = end_of ready.0 stage;
      holds = branch_holds chain ready.0 stage j (get_or stage.branches j d) next.touch owners (got_at stage.branches j d inside) next.is ready.1.position ready.1.within;
      carried = dealt_carried chain whole next.touch ready.0 made ready.1.goes;
    }))

all_more : (chain : List Profile) (whole : PlainApart) (high : ℕ) (touches : List Touch) (done : List Arrival) (t : Touch) (a : Arrival) → AllCarried chain whole high touches done → IsCarriedBy chain whole t high a → AllCarried chain whole high (touches ++ t ∷ []) (done ++ a ∷ [])
unfolding AllCarried
all_more chain whole high [] [] t a all here = (here, tt)
all_more chain whole high (u ∷ touches) (c ∷ done) t a all here = (all.0, all_more chain whole high touches done t a all.1 here)
all_more chain whole high [] (c ∷ done) t a all here = absurd all
all_more chain whole high (u ∷ touches) [] t a all here = absurd all

abbrev pub StaysInBranch : Type 0 → Type 0
StaysInBranch F = (b : Behaviour F) (fixed : Fixed) (positions : List ℕ) (functions : List F) (arrival : BranchEnd) → KeepsProfile b → map b.profile (in_turn b fixed positions functions arrival).functions ≡ map b.profile functions

arrivals_more : (done : List Arrival) (a : Arrival) (rest : List BranchEnd) → map as_branch_end (done ++ a ∷ []) ++ rest ≡ map as_branch_end done ++ as_branch_end a ∷ rest
arrivals_more [] a rest = refl
arrivals_more (c ∷ done) a rest = ap (λ l. as_branch_end c ∷ l) (arrivals_more done a rest)

branched_more : {F : Type 0} (b : Behaviour F) (fixed : Fixed) (x : Branch) (branches : List Branch) (t : Touch) (touches : List Touch) (values : Values) (fs : List F) →
    branched b fixed (x ∷ branches) (t ∷ touches) values fs ≡ then_branched (in_turn b fixed x.positions fs (dealt_by_law t values)).arrival (branched b fixed branches touches values (in_turn b fixed x.positions fs (dealt_by_law t values)).functions)
unfolding branched
branched_more b fixed x branches t touches values fs = refl

pub branch_more : {F : Type 0} (b : Behaviour F) (stage : Stage) (whole : PlainApart) (first now after : List F) (j : ℕ) (done more : List Arrival) (was rest : List PlainVersion) (version : PlainVersion) (a : Arrival) (d : Branch) →
    Owned → DealtIsMade → StaysInBranch F → KeepsProfile b → HasRun b stage whole first now j done was → was ≡ version ∷ rest → ReadySomewhere b first stage whole →
    after ≡ (in_turn b version.fixed (get_or stage.branches j d).positions now (Live (as_version version))).functions →
    as_branch_end a ≡ (in_turn b version.fixed (get_or stage.branches j d).positions now (Live (as_version version))).arrival →
    ((whole : PlainApart) (low high : ℕ) → Holds (map b.profile now) version.touch low high (get_or stage.branches j d).positions → IsCarried (map b.profile now) whole version.touch low version → IsCarriedBy (map b.profile now) whole version.touch high a) →
    more ≡ done ++ a ∷ [] → HasRun b stage whole first after (j + 1) more rest
branch_more {F} b stage whole first now after j done more was rest version a d owned made stays keeps run takes ready fs came carried push =
    let next = next_touch whole stage.parts.touches j version rest (sym takes ∙ run.left) in
    let chain = map b.profile first in
    let inside = branch_inside b stage whole first now j done was rest version owned run takes ready in
    let x : Branch = get_or stage.branches j d in
    let r : Ran F = in_turn b whole.fixed x.positions now (dealt_by_law next.touch (values_in whole)) in
    let ran : ◌≡◌ {A = Ran F} (in_turn b version.fixed x.positions now (Live (as_version version))) r =
    ap (λ (v : PlainVersion). in_turn b v.fixed x.positions now (Live (as_version v))) next.dealt_so ∙ ap (in_turn b whole.fixed x.positions now) (dealt_is whole next.touch) in
    let later : List F → Branched F = branched b whole.fixed (drop (j + 1) stage.branches) (drop (j + 1) stage.parts.touches) (values_in whole) in
    record {
      same = ap (λ (l : List Arrival). before (map as_branch_end l) (later after)) push
          ∙ ap (λ l. before (map as_branch_end (done ++ a ∷ [])) (later l)) (fs ∙ ap (λ r. r.functions) ran)
          ∙ ap (λ l. record { functions = (later r.functions).functions; arrivals = l }) (arrivals_more done a (later r.functions).arrivals ∙ ap (λ y. map as_branch_end done ++ y ∷ (later r.functions).arrivals) (came ∙ ap (λ r. r.arrival) ran))
          ∙ ap (before (map as_branch_end done)) (sym (branched_more b whole.fixed x (drop (j + 1) stage.branches) next.touch (drop (j + 1) stage.parts.touches) (values_in whole) now))
          ∙ (λ i. before (map as_branch_end done) (branched b whole.fixed (sym (drop_more stage.branches j d inside) i) (sym next.cut i) (values_in whole) now))
          ∙ run.same;
      left = next.others;
      profiles = ap (map b.profile) fs ∙ stays b version.fixed x.positions now (Live (as_version version)) keeps ∙ run.profiles;
      came = λ at is_ready.
          let holds = branch_holds chain at stage j x next.touch (owned chain at stage is_ready.lawful) (got_at stage.branches j d inside) next.is is_ready.position is_ready.within in
          let here : IsCarriedBy chain whole next.touch (end_of at stage) a =
          subst (λ (ps : List Profile). IsCarriedBy ps whole next.touch (end_of at stage) a) run.profiles
          (subst (λ (v : PlainVersion). (whole : PlainApart) (low high : ℕ) → Holds (map b.profile now) v.touch low high x.positions → IsCarried (map b.profile now) whole v.touch low v → IsCarriedBy (map b.profile now) whole v.touch high a) next.dealt_so carried
          whole at (end_of at stage)
          (subst (λ (ps : List Profile). Holds ps next.touch at (end_of at stage) x.positions) (sym run.profiles) holds)
          (subst (λ (ps : List Profile). IsCarried ps whole next.touch at (dealt whole next.touch)) (sym run.profiles) (dealt_carried chain whole next.touch at made is_ready.goes))) in
          subst (λ (ts : List Touch). AllCarried chain whole (end_of at stage) ts more) (sym next.front) (subst (λ (l : List Arrival). AllCarried chain whole (end_of at stage) (take j stage.parts.touches ++ next.touch ∷ []) l) (sym push) (all_more chain whole (end_of at stage) (take j stage.parts.touches) done next.touch a (run.came at is_ready) here));
    }

-- the same, if the branch's positions are known by an equation
pub branch_taken : {F : Type 0} (b : Behaviour F) (stage : Stage) (whole : PlainApart) (first now after : List F) (j : ℕ) (done more : List Arrival) (was rest : List PlainVersion) (version : PlainVersion) (a : Arrival) (d : Branch) (positions : List ℕ) →
    Owned → DealtIsMade → StaysInBranch F → KeepsProfile b → HasRun b stage whole first now j done was → was ≡ version ∷ rest → ReadySomewhere b first stage whole → positions ≡ (get_or stage.branches j d).positions →
    after ≡ (in_turn b version.fixed positions now (Live (as_version version))).functions →
    as_branch_end a ≡ (in_turn b version.fixed positions now (Live (as_version version))).arrival →
    ((whole : PlainApart) (low high : ℕ) → Holds (map b.profile now) version.touch low high positions → IsCarried (map b.profile now) whole version.touch low version → IsCarriedBy (map b.profile now) whole version.touch high a) →
    more ≡ done ++ a ∷ [] → HasRun b stage whole first after (j + 1) more rest
branch_taken b stage whole first now after j done more was rest version a d positions owned made stays keeps run takes ready at fs came carried push =
    branch_more b stage whole first now after j done more was rest version a d owned made stays keeps run takes ready
    (fs ∙ ap (λ l. (in_turn b version.fixed l now (Live (as_version version))).functions) at)
    (came ∙ ap (λ l. (in_turn b version.fixed l now (Live (as_version version))).arrival) at)
    (subst (λ l. (whole : PlainApart) (low high : ℕ) → Holds (map b.profile now) version.touch low high l → IsCarried (map b.profile now) whole version.touch low version → IsCarriedBy (map b.profile now) whole version.touch high a) at carried)
    push

pub branch_ready_at : {F : Type 0} (b : Behaviour F) (stage : Stage) (whole : PlainApart) (first now : List F) (j : ℕ) (done : List Arrival) (was rest : List PlainVersion) (version : PlainVersion) (d : Branch) (positions : List ℕ) → Owned → DealtIsMade →
    HasRun b stage whole first now j done was → was ≡ version ∷ rest → ReadySomewhere b first stage whole → positions ≡ (get_or stage.branches j d).positions → IsReady (map b.profile now) positions version
branch_ready_at b stage whole first now j done was rest version d positions owned made run takes ready at =
    subst (λ l. IsReady (map b.profile now) l version) (sym at) (branch_ready b stage whole first now j done was rest version d owned made run takes ready)
