-- The notes that branches make on the way through a lawful graph, as far as they are settled, are those of the walk.
use Rattle.std.proofs.Common.{◌≡◌, ◌≢◌, ◌<◌, ◌≤◌, ◌+◌, ◌-◌, ◌∙◌, ℕ, suc, List, ◌∷◌, [], ◌++◌, length, take, drop, map, sym, ap, refl, arith, Bool, true, false, Some, None, inl, inr, if◌then◌else◌, take-append-drop, append_assoc, length-append}
use Rattle.std.specs.Prelude.{Option, ◌⊎◌, slice_get}
use Rattle.std.specs.List.{cons_option}
use Rattle.std.proofs.lemmas.List.{length-map, map-append, length-take-le}
use Rattle.packet_fields.specs.Writing.{over}
use Rattle.action_profile.specs.declared.parts.Touch.{Touch}
use Rattle.action_profile.specs.declared.rights.Profile.{Profile}
use Rattle.chain_walk.specs.Counting.{IsQuiet}
use Rattle.chain_walk.specs.FieldWalk.{End, End.Out, End.Gone, Ended, walk_fields}
use Rattle.chain_walk.specs.Laws.{KeepsProfile}
use Rattle.chain_walk.specs.Notes.{Notes, noted}
use Rattle.chain_walk.specs.Shown.{Values}
use Rattle.chain_walk.specs.Step.{Behaviour, Step, stepped, is_drop}
use Rattle.chain_walk.specs.declared.fixed.Fixed.{Fixed}
use Rattle.graph_compile.specs.Lawful.{size, IsStaged}
use Rattle.graph_compile.specs.Owners.{owner, HasOwners}
use Rattle.graph_compile.specs.declared.graph.Branch.{Branch}
use Rattle.graph_compile.specs.declared.graph.Graph.{Graph}
use Rattle.graph_compile.specs.declared.graph.Stage.{Stage}
use Rattle.graph_law.specs.Branches.{BranchEnd, Ran, in_turn, dealt, moved_function, moved_end}
use Rattle.graph_law.specs.BranchNotes.{noted_of, noted_at, in_turn_notes, branched_notes, then_notes, flow_notes, gone_before, kept, kept_in, kept_by, taken, taken_in, taken_by}
use Rattle.graph_law.specs.Flow.{staged}
use Rattle.graph_law.specs.NotedWalk.{walk_notes}
use Rattle.graph_law.proofs.FlowIsWalk.{Lower, between, then_rest, walk_append, stage_fits}
use Rattle.graph_law.proofs.Owned.{Independent, owned_all_touched, owned_apart}
use Rattle.graph_law.proofs.Seams.{places, places_here, places_elsewhere, get_seam, met_seam, in_turn_ran, Listed, listed_from}
use Rattle.graph_law.proofs.SideNotes.{side_notes, side_here, side_elsewhere, picked, picked_here, picked_elsewhere, sides_notes, kept_sides, all_picked, all_notes_meet, begun}
use Rattle.graph_law.proofs.Sides.{ran, is_or_not, length_ran, agree_refl}
use Rattle.graph_law.proofs.Walking.{then_walk, length_walk, walk_keeps}

-- a branch by its positions among all functions notes what it notes among those of its stage
in_turn_side : {F N : Type 0} (b : Behaviour F) (notes : Notes F N) (fixed : Fixed) (side : ℕ → ℕ) (c p : ℕ) (pre mid post : List F) (a : BranchEnd) → suc (length pre) ≡ p →
    in_turn_notes b notes fixed (places side c p (length mid)) (pre ++ (mid ++ post)) a ≡ side_notes b notes fixed side c p mid a
unfolding in_turn_notes side_notes noted_at
in_turn_side b notes fixed side c p pre [] post a e = refl
in_turn_side {F} {N} b notes fixed side c p pre (f ∷ mid) post a e =
    go (is_or_not (side p) c) (λ y a. in_turn_side b notes fixed side c (p + 1) (pre ++ y ∷ []) mid post a (simp length-append (omega arith)))
  where
    whole : List F
    whole = pre ++ (f ∷ (mid ++ post))

    shift : (y : F) → (pre ++ y ∷ []) ++ (mid ++ post) ≡ pre ++ (y ∷ (mid ++ post))
    shift y = append_assoc pre (y ∷ []) (mid ++ post)

    at_seam : p - 1 ≡ length pre
    at_seam = omega arith

    got : slice_get whole (p - 1) ≡ Some f
    got = ap (slice_get whole) at_seam ∙ get_seam pre f (mid ++ post)

    later : List ℕ
    later = places side c (p + 1) (length mid)

    go : (side p ≡ c) ⊎ (side p ≢ c) →
        ((y : F) (a : BranchEnd) → in_turn_notes b notes fixed later ((pre ++ y ∷ []) ++ (mid ++ post)) a ≡ side_notes b notes fixed side c (p + 1) mid a) →
        in_turn_notes b notes fixed (places side c p (suc (length mid))) whole a ≡ side_notes b notes fixed side c p (f ∷ mid) a
    go (inl here) ih =
        ap (λ qs. in_turn_notes b notes fixed qs whole a) (places_here side c p (length mid) here)
        ∙ (λ i. noted_at b notes fixed (got i) a ∷ in_turn_notes b notes fixed later (met_seam b fixed p pre f (mid ++ post) a e i).functions (met_seam b fixed p pre f (mid ++ post) a e i).arrival)
        ∙ ap (λ l. noted_of b notes fixed f a ∷ l)
        (ap (λ w. in_turn_notes b notes fixed later w (moved_end b fixed p f a)) (sym (shift (moved_function b fixed f a))) ∙ ih (moved_function b fixed f a) (moved_end b fixed p f a))
        ∙ sym (side_here b notes fixed side c p f mid a here)
    go (inr ne) ih =
        ap (λ qs. in_turn_notes b notes fixed qs whole a) (places_elsewhere side c p (length mid) ne)
        ∙ ap (λ w. in_turn_notes b notes fixed later w a) (sym (shift f)) ∙ ih f a
        ∙ sym (side_elsewhere b notes fixed side c p f mid a ne)

branched_sides : {F N : Type 0} (b : Behaviour F) (notes : Notes F N) (fixed : Fixed) (side : ℕ → ℕ) (c p n : ℕ) (branches : List Branch) (touches : List Touch) (values : Values) (pre mid post : List F) →
    suc (length pre) ≡ p → length mid ≡ n → length touches ≡ length branches → Listed side c p n branches →
    branched_notes b notes fixed branches touches values (pre ++ (mid ++ post)) ≡ sides_notes b notes fixed side c p touches values mid
unfolding branched_notes sides_notes Listed
branched_sides b notes fixed side c p n [] [] values pre mid post at_p count same h = refl
branched_sides b notes fixed side c p n [] (t ∷ touches) values pre mid post at_p count same h = absurd (omega arith)
branched_sides b notes fixed side c p n (x ∷ branches) [] values pre mid post at_p count same h = absurd (omega arith)
branched_sides {F} b notes fixed side c p n (x ∷ branches) (t ∷ touches) values pre mid post at_p count same h =
    let r : Ran F = ran b fixed side c p mid (dealt t values) in
    let is : x.positions ≡ places side c p (length mid) = h.0 ∙ ap (places side c p) (sym count) in
    (λ i. in_turn_notes b notes fixed (is i) (pre ++ (mid ++ post)) (dealt t values) ∷ branched_notes b notes fixed branches touches values (in_turn b fixed (is i) (pre ++ (mid ++ post)) (dealt t values)).functions)
    ∙ (λ i. in_turn_side b notes fixed side c p pre mid post (dealt t values) at_p i ∷ branched_notes b notes fixed branches touches values (in_turn_ran b fixed side c p pre mid post (dealt t values) at_p i).functions)
    ∙ ap (λ l. side_notes b notes fixed side c p mid (dealt t values) ∷ l)
    (branched_sides b notes fixed side (c + 1) p n branches touches values pre r.functions post at_p (length_ran b fixed side c p mid (dealt t values) ∙ count) (omega arith) h.1)

length_sides_notes : {F N : Type 0} (b : Behaviour F) (notes : Notes F N) (fixed : Fixed) (side : ℕ → ℕ) (c p : ℕ) (touches : List Touch) (values : Values) (fs : List F) → length (sides_notes b notes fixed side c p touches values fs) ≡ length touches
unfolding sides_notes
length_sides_notes b notes fixed side c p [] values fs = refl
length_sides_notes b notes fixed side c p (t ∷ touches) values fs = ap suc (length_sides_notes b notes fixed side (c + 1) p touches values (ran b fixed side c p fs (dealt t values)).functions)

kept_listed : {N : Type 0} (gone : ℕ → Bool) (side : ℕ → ℕ) (c p n : ℕ) (branches : List Branch) (rows : List (List (Option N))) → Listed side c p n branches → length rows ≡ length branches →
    kept_in gone branches rows ≡ kept_sides gone side c p n rows
unfolding kept_in kept_sides Listed
kept_listed gone side c p n [] [] h same = refl
kept_listed gone side c p n [] (row ∷ rows) h same = absurd (omega arith)
kept_listed gone side c p n (x ∷ branches) [] h same = absurd (omega arith)
kept_listed gone side c p n (x ∷ branches) (row ∷ rows) h same = λ i. kept gone (h.0 i) row ∷ kept_listed gone side (c + 1) p n branches rows h.1 (omega arith) i

-- what is at a branch's positions among all functions is on its side among those of its stage
taken_side : {A : Type 0} (side : ℕ → ℕ) (c p : ℕ) (before ws behind : List A) → suc (length before) ≡ p → taken (places side c p (length ws)) (before ++ (ws ++ behind)) ≡ picked side c p ws
unfolding picked
taken_side side c p before [] behind e = refl
taken_side {A} side c p before (w ∷ ws) behind e = go (is_or_not (side p) c) (taken_side side c (p + 1) (before ++ w ∷ []) ws behind (simp length-append (omega arith)))
  where
    whole : List A
    whole = before ++ (w ∷ (ws ++ behind))

    shift : (before ++ w ∷ []) ++ (ws ++ behind) ≡ whole
    shift = append_assoc before (w ∷ []) (ws ++ behind)

    at_seam : p - 1 ≡ length before
    at_seam = omega arith

    got : slice_get whole (p - 1) ≡ Some w
    got = ap (slice_get whole) at_seam ∙ get_seam before w (ws ++ behind)

    later : List ℕ
    later = places side c (p + 1) (length ws)

    go : (side p ≡ c) ⊎ (side p ≢ c) → taken later ((before ++ w ∷ []) ++ (ws ++ behind)) ≡ picked side c (p + 1) ws → taken (places side c p (suc (length ws))) whole ≡ picked side c p (w ∷ ws)
    go (inl here) ih = ap (λ qs. taken qs whole) (places_here side c p (length ws) here) ∙ (λ i. cons_option (got i) (taken later whole)) ∙ ap (λ l. w ∷ l) (ap (taken later) (sym shift) ∙ ih) ∙ sym (picked_here side c p w ws here)
    go (inr ne) ih = ap (λ qs. taken qs whole) (places_elsewhere side c p (length ws) ne) ∙ ap (taken later) (sym shift) ∙ ih ∙ sym (picked_elsewhere side c p w ws ne)

taken_listed : {A : Type 0} (side : ℕ → ℕ) (c p n : ℕ) (branches : List Branch) (touches : List Touch) (before ws behind : List A) → suc (length before) ≡ p → length ws ≡ n → length touches ≡ length branches → Listed side c p n branches →
    taken_in branches (before ++ (ws ++ behind)) ≡ all_picked side c p touches ws
unfolding all_picked Listed
taken_listed side c p n [] [] before ws behind at_p count same h = refl
taken_listed side c p n [] (t ∷ touches) before ws behind at_p count same h = absurd (omega arith)
taken_listed side c p n (x ∷ branches) [] before ws behind at_p count same h = absurd (omega arith)
taken_listed side c p n (x ∷ branches) (t ∷ touches) before ws behind at_p count same h =
    let here : taken x.positions (before ++ (ws ++ behind)) ≡ picked side c p ws = ap (λ qs. taken qs (before ++ (ws ++ behind))) (h.0 ∙ ap (places side c p) (sym count)) ∙ taken_side side c p before ws behind at_p in
    λ i. here i ∷ taken_listed side (c + 1) p n branches touches before ws behind at_p count (omega arith) h.1 i

pub length_notes : {F N : Type 0} (b : Behaviour F) (notes : Notes F N) (fixed : Fixed) (fs : List F) (values : Values) → length (walk_notes b notes fixed fs values) ≡ length fs
unfolding walk_notes
length_notes b notes fixed [] values = refl
length_notes {F} {N} b notes fixed (f ∷ fs) values = go (is_drop t.verdict) (length_notes b notes fixed fs (over t.written values))
  where
    t : Step F
    t = stepped b fixed f values

    rest : List (Option N)
    rest = walk_notes b notes fixed fs (over t.written values)

    go : (d : Bool) → length rest ≡ length fs → suc (length (if d then map (λ h. None) fs else rest)) ≡ suc (length fs)
    go true ih = ap suc (length-map fs (λ h. None))
    go false ih = ap suc ih

-- a lawful stage at which the packet arrives
stage_notes_fit : {F N : Type 0} (b : Behaviour F) (notes : Notes F N) (fixed : Fixed) (chain : List Profile) (stage : Stage) (p : ℕ) (gone : ℕ → Bool) (pre mid post : List F) (before behind : List (Option N)) (values : Values) →
    KeepsProfile b → Independent → HasOwners chain p stage → chain ≡ map b.profile (pre ++ (mid ++ post)) → suc (length pre) ≡ p → suc (length before) ≡ p → length mid ≡ size stage.branches →
    ((q : ℕ) → p ≤ q → q < p + length mid → gone q ≡ gone_before (walk_fields b fixed p mid values).end q) →
    kept_in gone stage.branches (branched_notes b notes fixed stage.branches stage.parts.touches values (pre ++ (mid ++ post))) ≡ taken_in stage.branches (before ++ (walk_notes b notes fixed mid values ++ behind))
stage_notes_fit {F} {N} b notes fixed chain stage p gone pre mid post before behind values law free owners is_chain at_p at_before count all =
    let parted : chain ≡ map b.profile pre ++ (map b.profile mid ++ map b.profile post) = is_chain ∙ map-append b.profile pre (mid ++ post) ∙ ap (λ r. map b.profile pre ++ r) (map-append b.profile mid post) in
    let first : suc (length (map b.profile pre)) ≡ p = ap suc (length-map pre b.profile) ∙ at_p in
    let many : length (map b.profile mid) ≡ size stage.branches = length-map mid b.profile ∙ count in
    let side : ℕ → ℕ = owner stage.branches in
    let touches : List Touch = stage.parts.touches in
    let rows : List (List (Option N)) = sides_notes b notes fixed side 0 p touches values mid in
    let listed : Listed side 0 p (size stage.branches) stage.branches = listed_from side 0 p (size stage.branches) stage.branches (λ j x e. owners.listed j x e ∙ ap (λ d. places side d p (size stage.branches)) (omega arith)) in
    ap (kept_in gone stage.branches) (branched_sides b notes fixed side 0 p (size stage.branches) stage.branches touches values pre mid post at_p count owners.touches listed)
    ∙ kept_listed gone side 0 p (size stage.branches) stage.branches rows listed (length_sides_notes b notes fixed side 0 p touches values mid ∙ owners.touches)
    ∙ ap (λ n. kept_sides gone side 0 p n rows) (sym count)
    ∙ all_notes_meet b notes fixed side 0 p gone touches mid mid values law
    (owned_apart chain p stage (map b.profile pre) (map b.profile mid) (map b.profile post) free owners parted first many)
    (owned_all_touched chain p stage (map b.profile pre) (map b.profile mid) (map b.profile post) owners parted first many)
    (omega arith) (λ d l. agree_refl side d p mid) all
    ∙ sym (taken_listed side 0 p (size stage.branches) stage.branches touches before (walk_notes b notes fixed mid values) behind at_before (length_notes b notes fixed mid values ∙ count) owners.touches listed)

none_chosen : {N : Type 0} (c : Bool) → ◌≡◌ {A = Option N} (if c then None else None) None
none_chosen true = refl
none_chosen false = refl

kept_none : {N : Type 0} (gone : ℕ → Bool) (qs : List ℕ) → ◌≡◌ {A = List (Option N)} (kept gone qs (map (λ q. None) qs)) (map (λ q. None) qs)
unfolding kept
kept_none gone [] = refl
kept_none gone (q ∷ qs) = λ i. none_chosen (gone q) i ∷ kept_none gone qs i

picked_none : {F N : Type 0} (side : ℕ → ℕ) (c p : ℕ) (fs : List F) → ◌≡◌ {A = List (Option N)} (map (λ q. None) (places side c p (length fs))) (picked side c p (map (λ f. None) fs))
unfolding picked
picked_none side c p [] = refl
picked_none {F} {N} side c p (f ∷ fs) = go (is_or_not (side p) c) (picked_none side c (p + 1) fs)
  where
    nothing : {A : Type 0} → List A → List (Option N)
    nothing xs = map (λ x. None) xs

    go : (side p ≡ c) ⊎ (side p ≢ c) → nothing (places side c (p + 1) (length fs)) ≡ picked side c (p + 1) (nothing fs) → nothing (places side c p (suc (length fs))) ≡ picked side c p (None ∷ nothing fs)
    go (inl here) ih = ap nothing (places_here side c p (length fs) here) ∙ ap (λ l. None ∷ l) ih ∙ sym (picked_here side c p None (nothing fs) here)
    go (inr ne) ih = ap nothing (places_elsewhere side c p (length fs) ne) ∙ ih ∙ sym (picked_elsewhere side c p None (nothing fs) ne)

none_listed : {F N : Type 0} (gone : ℕ → Bool) (side : ℕ → ℕ) (c p n : ℕ) (branches : List Branch) (touches : List Touch) (mid : List F) → length mid ≡ n → length touches ≡ length branches → Listed side c p n branches →
    ◌≡◌ {A = List (List (Option N))} (kept_in gone branches (map (λ x. map (λ q. None) x.positions) branches)) (all_picked side c p touches (map (λ f. None) mid))
unfolding kept_in all_picked Listed
none_listed gone side c p n [] [] mid count same h = refl
none_listed gone side c p n [] (t ∷ touches) mid count same h = absurd (omega arith)
none_listed gone side c p n (x ∷ branches) [] mid count same h = absurd (omega arith)
none_listed {F} {N} gone side c p n (x ∷ branches) (t ∷ touches) mid count same h =
    let here : ◌≡◌ {A = List (Option N)} (kept gone x.positions (map (λ q. None) x.positions)) (picked side c p (map (λ f. None) mid)) =
    kept_none gone x.positions ∙ ap (λ qs. map (λ q. None) qs) (h.0 ∙ ap (places side c p) (sym count)) ∙ picked_none side c p mid in
    λ i. here i ∷ none_listed gone side (c + 1) p n branches touches mid count (omega arith) h.1 i

-- a stage after the one in which the packet was dropped
stage_none_fit : {F N : Type 0} (chain : List Profile) (stage : Stage) (p : ℕ) (gone : ℕ → Bool) (mid : List F) (before behind : List (Option N)) → HasOwners chain p stage → suc (length before) ≡ p → length mid ≡ size stage.branches →
    kept_in gone stage.branches (map (λ x. map (λ q. None) x.positions) stage.branches) ≡ taken_in stage.branches (before ++ (map (λ f. None) mid ++ behind))
stage_none_fit chain stage p gone mid before behind owners at_before count =
    let side : ℕ → ℕ = owner stage.branches in
    let listed : Listed side 0 p (size stage.branches) stage.branches = listed_from side 0 p (size stage.branches) stage.branches (λ j x e. owners.listed j x e ∙ ap (λ d. places side d p (size stage.branches)) (omega arith)) in
    none_listed gone side 0 p (size stage.branches) stage.branches stage.parts.touches mid count owners.touches listed
    ∙ sym (taken_listed side 0 p (size stage.branches) stage.branches stage.parts.touches before (map (λ f. None) mid) behind at_before (length-map mid (λ f. None) ∙ count) owners.touches listed)

-- the notes of functions at which a packet arrives in this state
unfoldable notes_behind : {F N : Type 0} → Behaviour F → Notes F N → Fixed → List F → End → List (Option N)
notes_behind b notes fixed rest (Out values) = walk_notes b notes fixed rest values
notes_behind b notes fixed rest (Gone d) = map (λ f. None) rest

-- and where it ends
unfoldable end_behind : {F : Type 0} → Behaviour F → Fixed → ℕ → List F → End → End
end_behind b fixed p rest (Out values) = (walk_fields b fixed p rest values).end
end_behind b fixed p rest (Gone d) = Gone d

notes_append : {F N : Type 0} (b : Behaviour F) (notes : Notes F N) (fixed : Fixed) (p : ℕ) (xs ys : List F) (values : Values) →
    walk_notes b notes fixed (xs ++ ys) values ≡ walk_notes b notes fixed xs values ++ notes_behind b notes fixed ys (walk_fields b fixed p xs values).end
unfolding walk_notes walk_fields notes_behind
notes_append b notes fixed p [] ys values = refl
notes_append {F} {N} b notes fixed p (x ∷ xs) ys values = go (is_drop t.verdict) (notes_append b notes fixed (p + 1) xs ys (over t.written values))
  where
    t : Step F
    t = stepped b fixed x values

    note : Option N
    note = noted b notes fixed x values

    go : (d : Bool) →
        walk_notes b notes fixed (xs ++ ys) (over t.written values) ≡ walk_notes b notes fixed xs (over t.written values) ++ notes_behind b notes fixed ys (walk_fields b fixed (p + 1) xs (over t.written values)).end →
        note ∷ (if d then map (λ h. None) (xs ++ ys) else walk_notes b notes fixed (xs ++ ys) (over t.written values))
        ≡ (note ∷ (if d then map (λ h. None) xs else walk_notes b notes fixed xs (over t.written values))) ++ notes_behind b notes fixed ys (then_walk b fixed p t xs values d).end
    go true ih = ap (λ l. note ∷ l) (map-append (λ h. None) xs ys)
    go false ih = ap (λ l. note ∷ l) ih

end_append : {F : Type 0} (b : Behaviour F) (fixed : Fixed) (p : ℕ) (xs ys : List F) (values : Values) →
    (walk_fields b fixed p (xs ++ ys) values).end ≡ end_behind b fixed (p + length xs) ys (walk_fields b fixed p xs values).end
unfolding then_rest end_behind
end_append {F} b fixed p xs ys values = ap (λ w. w.end) (walk_append b fixed p xs ys values) ∙ go (walk_fields b fixed p xs values).end
  where
    go : (end : End) → (then_rest (walk_fields b fixed p xs values).functions end ys (walk_fields b fixed (p + length xs) ys)).end ≡ end_behind b fixed (p + length xs) ys end
    go (Out after) = refl
    go (Gone d) = refl

-- what is dropped before a position of the front is also dropped before it after the front
front_gone : {F : Type 0} (b : Behaviour F) (fixed : Fixed) (p : ℕ) (ys : List F) (end : End) (q : ℕ) → q ≤ p → gone_before (end_behind b fixed p ys end) q ≡ gone_before end q
unfolding end_behind
front_gone b fixed p ys (Out after) q low = begun b fixed p ys after q low
front_gone b fixed p ys (Gone d) q low = refl

-- The functions from position `p` on, which are those of one stage and those after it.
record Parted {F : Type 0} (b : Behaviour F) (chain : List Profile) (s : Stage) (stages : List Stage) (p : ℕ) (pre rest : List F) : Type 0 where
  mid : List F
  post : List F
  parts : mid ++ post ≡ rest
  is : chain ≡ map b.profile (pre ++ (mid ++ post))
  many : length mid ≡ size s.branches
  later : IsStaged chain (p + length mid) stages (suc (length chain))

parted_at : {F : Type 0} (b : Behaviour F) (chain : List Profile) (s : Stage) (stages : List Stage) (p : ℕ) (pre rest : List F) →
    Lower → chain ≡ map b.profile (pre ++ rest) → suc (length pre) ≡ p → IsStaged chain (p + size s.branches) stages (suc (length chain)) → Parted b chain s stages p pre rest
parted_at {F} b chain s stages p pre rest lower is at_p staged = record {
  mid = take (size s.branches) rest;
  post = drop (size s.branches) rest;
  parts = parts;
  is = is ∙ ap (λ l. map b.profile (pre ++ l)) (sym parts);
  many = many;
  later = rw many staged;
}
  where
    parts : take (size s.branches) rest ++ drop (size s.branches) rest ≡ rest
    parts = take-append-drop (size s.branches) rest

    long : size s.branches ≤ length rest
    long = let l = lower.rises chain (p + size s.branches) stages (suc (length chain)) staged in let n = ap length is in let m = length-map (pre ++ rest) b.profile in let k = length-append pre rest in omega arith

    many : length (take (size s.branches) rest) ≡ size s.branches
    many = length-take-le (size s.branches) rest long

-- the stages from the one that begins at position `p` on, at which the packet arrives in this state
flow_notes_fit : {F N : Type 0} (b : Behaviour F) (notes : Notes F N) (fixed : Fixed) (chain : List Profile) (gone : ℕ → Bool) (stages : List Stage) (p : ℕ) (pre rest : List F) (before : List (Option N)) (end : End) →
    KeepsProfile b → IsQuiet b → Lower → chain ≡ map b.profile (pre ++ rest) → suc (length pre) ≡ p → suc (length before) ≡ p → IsStaged chain p stages (suc (length chain)) →
    ((q : ℕ) → p ≤ q → q < p + length rest → gone q ≡ gone_before (end_behind b fixed p rest end) q) →
    kept_by gone stages (then_notes stages (pre ++ rest) end (flow_notes b notes fixed stages)) ≡ taken_by stages (before ++ notes_behind b notes fixed rest end)
unfolding kept_by then_notes flow_notes IsStaged notes_behind end_behind
flow_notes_fit b notes fixed chain gone [] p pre rest before end law calm lower is at_p at_before lined all = refl
flow_notes_fit {F} {N} b notes fixed chain gone (s ∷ stages) p pre rest before (Gone d) law calm lower is at_p at_before lined all =
    let r : Parted b chain s stages p pre rest = parted_at b chain s stages p pre rest lower is at_p lined.1 in
    let nothing : (fs : List F) → List (Option N) = λ fs. map (λ f. None) fs in
    let split : before ++ nothing rest ≡ before ++ (nothing r.mid ++ nothing r.post) = ap (λ l. before ++ nothing l) (sym r.parts) ∙ ap (λ l. before ++ l) (map-append (λ f. None) r.mid r.post) in
    let here = stage_none_fit chain s p gone r.mid before (nothing r.post) (lower.owners chain p s lined.0) at_before r.many in
    let ih = flow_notes_fit b notes fixed chain gone stages (p + length r.mid) (pre ++ r.mid) r.post (before ++ nothing r.mid) (Gone d) law calm lower
    (r.is ∙ ap (map b.profile) (sym (append_assoc pre r.mid r.post))) (let k = length-append pre r.mid in omega arith) (let k = length-append before (nothing r.mid) in let n : length (nothing r.mid) ≡ length r.mid = length-map r.mid (λ f. None) in omega arith) r.later
    (λ q low high. all q (omega arith) (let k = length-append r.mid r.post in let n = ap length r.parts in omega arith)) in
    (λ i. here i ∷ (ih ∙ ap (taken_by stages) (append_assoc before (nothing r.mid) (nothing r.post))) i)
    ∙ ap (taken_by (s ∷ stages)) (sym split)
flow_notes_fit {F} {N} b notes fixed chain gone (s ∷ stages) p pre rest before (Out values) law calm lower is at_p at_before lined all =
    let ih = flow_notes_fit b notes fixed chain gone stages (p + length r.mid) (pre ++ w.functions) r.post (before ++ made) w.end law calm lower
    (r.is ∙ sym profiles_kept) (let k = length-append pre w.functions in let n = length_walk b fixed p r.mid values in omega arith) (let k = length-append before made in let n = length_notes b notes fixed r.mid values in omega arith) r.later
    (λ q low high. gone_so q (omega arith) (let l = long in omega arith)) in
    ap (λ l. kept_by gone (s ∷ stages) (flow_notes b notes fixed (s ∷ stages) values (pre ++ l))) (sym r.parts)
    ∙ ap (λ e. kept_in gone s.branches (branched_notes b notes fixed s.branches s.parts.touches values (pre ++ (r.mid ++ r.post))) ∷ kept_by gone stages (then_notes stages e.functions e.end (flow_notes b notes fixed stages))) fits
    ∙ (λ i. here i ∷ (ap (λ l. kept_by gone stages (then_notes stages l w.end (flow_notes b notes fixed stages))) (sym (append_assoc pre w.functions r.post)) ∙ ih ∙ ap (taken_by stages) (append_assoc before made (notes_behind b notes fixed r.post w.end))) i)
    ∙ ap (λ l. taken_by (s ∷ stages) (before ++ l)) (sym (ap (λ l. walk_notes b notes fixed l values) (sym r.parts) ∙ notes_append b notes fixed p r.mid r.post values))
  where
    r : Parted b chain s stages p pre rest
    r = parted_at b chain s stages p pre rest lower is at_p lined.1

    w : Ended F
    w = walk_fields b fixed p r.mid values

    made : List (Option N)
    made = walk_notes b notes fixed r.mid values

    fits : staged b fixed s values (pre ++ (r.mid ++ r.post)) ≡ between pre w r.post
    fits = stage_fits b fixed chain s p pre r.mid r.post values law calm lower.independent (lower.owners chain p s lined.0) r.is at_p r.many

    long : length r.mid + length r.post ≡ length rest
    long = sym (length-append r.mid r.post) ∙ ap length r.parts

    ends : (walk_fields b fixed p rest values).end ≡ end_behind b fixed (p + length r.mid) r.post w.end
    ends = ap (λ l. (walk_fields b fixed p l values).end) (sym r.parts) ∙ end_append b fixed p r.mid r.post values

    gone_so : (q : ℕ) → p ≤ q → q < p + length rest → gone q ≡ gone_before (end_behind b fixed (p + length r.mid) r.post w.end) q
    gone_so q low high = all q low high ∙ ap (λ e. gone_before e q) ends

    here : kept_in gone s.branches (branched_notes b notes fixed s.branches s.parts.touches values (pre ++ (r.mid ++ r.post))) ≡ taken_in s.branches (before ++ (made ++ notes_behind b notes fixed r.post w.end))
    here = stage_notes_fit b notes fixed chain s p gone pre r.mid r.post before (notes_behind b notes fixed r.post w.end) values law lower.independent (lower.owners chain p s lined.0) r.is at_p at_before r.many
        (λ q low high. gone_so q low (let l = long in omega arith) ∙ front_gone b fixed (p + length r.mid) r.post w.end q (omega arith))

    profiles_kept : map b.profile ((pre ++ w.functions) ++ r.post) ≡ map b.profile (pre ++ (r.mid ++ r.post))
    profiles_kept = ap (map b.profile) (append_assoc pre w.functions r.post)
        ∙ map-append b.profile pre (w.functions ++ r.post)
        ∙ ap (λ l. map b.profile pre ++ l) (map-append b.profile w.functions r.post ∙ ap (λ l. l ++ map b.profile r.post) (walk_keeps b fixed p r.mid values law) ∙ sym (map-append b.profile r.mid r.post))
        ∙ sym (map-append b.profile pre (r.mid ++ r.post))

-- a lawful graph
pub graph_notes_fit : {F N : Type 0} (b : Behaviour F) (notes : Notes F N) (fixed : Fixed) (graph : Graph) (functions : List F) (values : Values) →
    KeepsProfile b → IsQuiet b → Lower → IsStaged (map b.profile functions) 1 graph.stages (suc (length (map b.profile functions))) →
    kept_by (gone_before (walk_fields b fixed 1 functions values).end) graph.stages (flow_notes b notes fixed graph.stages values functions) ≡ taken_by graph.stages (walk_notes b notes fixed functions values)
unfolding then_notes notes_behind end_behind
graph_notes_fit b notes fixed graph functions values law calm lower staged =
    flow_notes_fit b notes fixed (map b.profile functions) (gone_before (walk_fields b fixed 1 functions values).end) graph.stages 1 [] functions [] (Out values) law calm lower refl refl refl staged (λ q low high. refl)
