-- The stages of a lawful graph, one after another, are the walk.
use Rattle.std.proofs.Common.{◌≡◌, ◌≤◌, ◌+◌, ◌∙◌, ℕ, suc, List, ◌∷◌, [], ◌++◌, length, take, drop, map, sym, ap, refl, arith, Bool, true, false, take-append-drop, append_assoc, length-append}
use Rattle.std.proofs.lemmas.List.{length-map, map-append, length-take-le}
use Rattle.packet_fields.specs.Writing.{over}
use Rattle.action_profile.specs.declared.rights.Profile.{Profile}
use Rattle.chain_walk.specs.FieldWalk.{End, End.Out, End.Gone, Ended, walk_fields, then_ended}
use Rattle.chain_walk.specs.Counting.{IsQuiet}
use Rattle.chain_walk.specs.Laws.{KeepsProfile}
use Rattle.chain_walk.specs.Shown.{Values}
use Rattle.chain_walk.specs.Step.{Behaviour, Step, stepped, is_drop}
use Rattle.chain_walk.specs.declared.fixed.Fixed.{Fixed}
use Rattle.graph_compile.specs.Lawful.{size, IsLawfulStage, IsStaged}
use Rattle.graph_compile.specs.Owners.{owner, HasOwners}
use Rattle.graph_compile.specs.declared.graph.Graph.{Graph}
use Rattle.graph_compile.specs.declared.graph.Stage.{Stage}
use Rattle.graph_law.specs.Flow.{Branched, branched, staged, then_flow, flow}
use Rattle.graph_law.specs.Merging.{merged}
use Rattle.graph_law.proofs.Owned.{Independent, owned_all_touched, owned_apart}
use Rattle.graph_law.proofs.Seams.{places, branched_is, listed_from}
use Rattle.graph_law.proofs.Sides.{sides}
use Rattle.graph_law.proofs.Staging.{sides_fit}
use Rattle.graph_law.proofs.Walking.{then_walk, length_walk, walk_keeps}

-- what the lower crates say about lawful stages, and about functions side by side
pub record Lower : Type 0 where
  pub independent : Independent
  pub owners : (chain : List Profile) (first : ℕ) (stage : Stage) → IsLawfulStage chain first stage → HasOwners chain first stage
  pub rises : (chain : List Profile) (first : ℕ) (stages : List Stage) (next : ℕ) → IsStaged chain first stages next → first ≤ next

-- a walk with the functions before it
abbrev led : {F : Type 0} → List F → Ended F → Ended F
led pre w = record { functions = pre ++ w.functions; end = w.end }

-- a walk with the functions before it and after it
abbrev pub between : {F : Type 0} → List F → Ended F → List F → Ended F
between pre w post = record { functions = pre ++ (w.functions ++ post); end = w.end }

-- a lawful stage walks its functions
pub stage_fits : {F : Type 0} (b : Behaviour F) (fixed : Fixed) (chain : List Profile) (stage : Stage) (p : ℕ) (pre mid post : List F) (values : Values) →
    KeepsProfile b → IsQuiet b → Independent → HasOwners chain p stage → chain ≡ map b.profile (pre ++ (mid ++ post)) → suc (length pre) ≡ p → length mid ≡ size stage.branches →
    staged b fixed stage values (pre ++ (mid ++ post)) ≡ between pre (walk_fields b fixed p mid values) post
stage_fits {F} b fixed chain stage p pre mid post values law calm free owners is_chain at_p count =
    let parted : chain ≡ map b.profile pre ++ (map b.profile mid ++ map b.profile post) = is_chain ∙ map-append b.profile pre (mid ++ post) ∙ ap (λ r. map b.profile pre ++ r) (map-append b.profile mid post) in
    let first : suc (length (map b.profile pre)) ≡ p = ap suc (length-map pre b.profile) ∙ at_p in
    let many : length (map b.profile mid) ≡ size stage.branches = length-map mid b.profile ∙ count in
    let side : ℕ → ℕ = owner stage.branches in
    let run : Branched F = sides b fixed side 0 p stage.parts.touches values mid in
    let is : branched b fixed stage.branches stage.parts.touches values (pre ++ (mid ++ post)) ≡ record { functions = pre ++ (run.functions ++ post); arrivals = run.arrivals } =
    branched_is b fixed side 0 p (size stage.branches) stage.branches stage.parts.touches values pre mid post at_p count owners.touches
    (listed_from side 0 p (size stage.branches) stage.branches (λ j x e. owners.listed j x e ∙ ap (λ d. places side d p (size stage.branches)) (omega arith))) in
    let fits : ◌≡◌ {A = Ended F} (record { functions = run.functions; end = merged values run.arrivals }) (walk_fields b fixed p mid values) =
    sides_fit b fixed side p stage.parts.touches mid values law calm
    (owned_apart chain p stage (map b.profile pre) (map b.profile mid) (map b.profile post) free owners parted first many)
    (owned_all_touched chain p stage (map b.profile pre) (map b.profile mid) (map b.profile post) owners parted first many)
    (omega arith) (λ q low high. let l = owners.owned q low (omega arith) in let m = owners.touches in omega arith) in
    (λ i. record { functions = (is i).functions; end = merged values (is i).arrivals }) ∙ ap (λ w. between pre w post) fits

-- the walk after some functions that have walked, if the packet is still there
unfoldable pub then_rest : {F : Type 0} → List F → End → List F → (Values → Ended F) → Ended F
then_rest done (Gone q) later on = record { functions = done ++ later; end = Gone q }
then_rest done (Out values) later on = record { functions = done ++ (on values).functions; end = (on values).end }

rest_more : {F : Type 0} (f : F) (done : List F) (end : End) (later : List F) (on : Values → Ended F) → then_ended f (then_rest done end later on) ≡ then_rest (f ∷ done) end later on
unfolding then_rest
rest_more f done (Out values) later on = refl
rest_more f done (Gone q) later on = refl

pub walk_append : {F : Type 0} (b : Behaviour F) (fixed : Fixed) (p : ℕ) (xs ys : List F) (values : Values) →
    walk_fields b fixed p (xs ++ ys) values ≡ then_rest (walk_fields b fixed p xs values).functions (walk_fields b fixed p xs values).end ys (walk_fields b fixed (p + length xs) ys)
unfolding walk_fields then_rest
walk_append b fixed p [] ys values = ap (λ q. walk_fields b fixed q ys values) (omega arith)
walk_append {F} b fixed p (x ∷ xs) ys values = go (is_drop t.verdict) (walk_append b fixed (p + 1) xs ys (over t.written values))
  where
    t : Step F
    t = stepped b fixed x values

    go : (d : Bool) →
        walk_fields b fixed (p + 1) (xs ++ ys) (over t.written values) ≡ then_rest (walk_fields b fixed (p + 1) xs (over t.written values)).functions (walk_fields b fixed (p + 1) xs (over t.written values)).end ys (walk_fields b fixed (p + 1 + length xs) ys) →
        then_walk b fixed p t (xs ++ ys) values d ≡ then_rest (then_walk b fixed p t xs values d).functions (then_walk b fixed p t xs values d).end ys (walk_fields b fixed (p + length (x ∷ xs)) ys)
    go true ih = refl
    go false ih = ap (then_ended t.after) ih ∙ rest_more t.after (walk_fields b fixed (p + 1) xs (over t.written values)).functions (walk_fields b fixed (p + 1) xs (over t.written values)).end ys (walk_fields b fixed (p + 1 + length xs) ys)
        ∙ ap (λ q. then_rest (t.after ∷ (walk_fields b fixed (p + 1) xs (over t.written values)).functions) (walk_fields b fixed (p + 1) xs (over t.written values)).end ys (walk_fields b fixed q ys)) (omega arith)

-- one more stage
flow_more : {F : Type 0} (b : Behaviour F) (fixed : Fixed) (s : Stage) (stages : List Stage) (p : ℕ) (pre mid post : List F) (values : Values) →
    KeepsProfile b → suc (length pre) ≡ p → staged b fixed s values (pre ++ (mid ++ post)) ≡ between pre (walk_fields b fixed p mid values) post →
    ((done : List F) (after : Values) → suc (length done) ≡ p + length mid → map b.profile (done ++ post) ≡ map b.profile (pre ++ (mid ++ post)) → flow b fixed stages after (done ++ post) ≡ led done (walk_fields b fixed (p + length mid) post after)) →
    flow b fixed (s ∷ stages) values (pre ++ (mid ++ post)) ≡ led pre (walk_fields b fixed p (mid ++ post) values)
unfolding flow then_flow then_rest
flow_more {F} b fixed s stages p pre mid post values law at_p is on =
    ap (λ r. then_flow r.functions r.end (flow b fixed stages)) is ∙ go w.end ∙ ap (led pre) (sym (walk_append b fixed p mid post values))
  where
    w : Ended F
    w = walk_fields b fixed p mid values

    size_kept : suc (length (pre ++ w.functions)) ≡ p + length mid
    size_kept = let k = length-append pre w.functions in let n = length_walk b fixed p mid values in omega arith

    profiles_kept : map b.profile ((pre ++ w.functions) ++ post) ≡ map b.profile (pre ++ (mid ++ post))
    profiles_kept = ap (map b.profile) (append_assoc pre w.functions post)
        ∙ map-append b.profile pre (w.functions ++ post)
        ∙ ap (λ l. map b.profile pre ++ l) (map-append b.profile w.functions post ∙ ap (λ l. l ++ map b.profile post) (walk_keeps b fixed p mid values law) ∙ sym (map-append b.profile mid post))
        ∙ sym (map-append b.profile pre (mid ++ post))

    go : (end : End) → then_flow (pre ++ (w.functions ++ post)) end (flow b fixed stages) ≡ led pre (then_rest w.functions end post (walk_fields b fixed (p + length mid) post))
    go (Gone q) = refl
    go (Out after) = ap (flow b fixed stages after) (sym (append_assoc pre w.functions post)) ∙ on (pre ++ w.functions) after size_kept profiles_kept
        ∙ (λ i. record { functions = append_assoc pre w.functions (walk_fields b fixed (p + length mid) post after).functions i; end = (walk_fields b fixed (p + length mid) post after).end })

-- the stages from the one that begins at position `p` on, with the functions before it
flow_fits : {F : Type 0} (b : Behaviour F) (fixed : Fixed) (chain : List Profile) (stages : List Stage) (p : ℕ) (pre rest : List F) (values : Values) →
    KeepsProfile b → IsQuiet b → Lower → chain ≡ map b.profile (pre ++ rest) → suc (length pre) ≡ p → IsStaged chain p stages (suc (length chain)) →
    flow b fixed stages values (pre ++ rest) ≡ led pre (walk_fields b fixed p rest values)
unfolding flow IsStaged walk_fields
flow_fits b fixed chain [] p pre [] values law calm lower is at_p staged = refl
flow_fits b fixed chain [] p pre (f ∷ rest) values law calm lower is at_p staged =
    absurd (let n = ap length is in let m = length-map (pre ++ (f ∷ rest)) b.profile in let k = length-append pre (f ∷ rest) in let s = staged in omega arith)
flow_fits {F} b fixed chain (s ∷ stages) p pre rest values law calm lower is at_p staged =
    ap (λ l. flow b fixed (s ∷ stages) values (pre ++ l)) (sym parts)
    ∙ flow_more b fixed s stages p pre mid post values law at_p
    (stage_fits b fixed chain s p pre mid post values law calm lower.independent (lower.owners chain p s staged.0) is_parted at_p many)
    (λ done after size_kept profiles_kept. flow_fits b fixed chain stages (p + length mid) done post after law calm lower (is_parted ∙ sym profiles_kept) size_kept later)
    ∙ ap (λ l. led pre (walk_fields b fixed p l values)) parts
  where
    mid : List F
    mid = take (size s.branches) rest

    post : List F
    post = drop (size s.branches) rest

    parts : mid ++ post ≡ rest
    parts = take-append-drop (size s.branches) rest

    is_parted : chain ≡ map b.profile (pre ++ (mid ++ post))
    is_parted = is ∙ ap (λ l. map b.profile (pre ++ l)) (sym parts)

    long : size s.branches ≤ length rest
    long = let l = lower.rises chain (p + size s.branches) stages (suc (length chain)) staged.1 in let n = ap length is in let m = length-map (pre ++ rest) b.profile in let k = length-append pre rest in omega arith

    many : length mid ≡ size s.branches
    many = length-take-le (size s.branches) rest long

    later : IsStaged chain (p + length mid) stages (suc (length chain))
    later = rw many staged.1

-- a lawful graph
pub graph_fits : {F : Type 0} (b : Behaviour F) (fixed : Fixed) (graph : Graph) (functions : List F) (values : Values) →
    KeepsProfile b → IsQuiet b → Lower → IsStaged (map b.profile functions) 1 graph.stages (suc (length (map b.profile functions))) →
    flow b fixed graph.stages values functions ≡ walk_fields b fixed 1 functions values
graph_fits b fixed graph functions values law calm lower staged = flow_fits b fixed (map b.profile functions) graph.stages 1 [] functions values law calm lower refl refl staged
