-- The packets of a burst, one after another: the state so far.
use Rattle.std.proofs.Common.{◌≡◌, ◌∙◌, ◌<◌, ◌≤◌, ◌+◌, ℕ, zero, suc, Bool, true, false, List, [], ◌∷◌, ◌++◌, map, length, take, drop, get_or, sym, ap, refl, subst, arith, take-append-drop}
use Rattle.std.specs.Prelude.{if◌then◌else◌, filter, All, count_by}
use Rattle.std.specs.List.{sum_by, zip}
use Rattle.std.proofs.lemmas.List.{drop_more, take_more, length-map, map-append}
use Rattle.std.proofs.lemmas.List.Sums.{sum_by-cons}
use Rattle.packet_fields.specs.declared.field.Field.{Field}
use Rattle.action_profile.specs.declared.rights.Profile.{Profile}
use Rattle.capture_bytes.specs.declared.packet.Unit.{Unit as TimeUnit}
use Rattle.chain_walk.specs.Step.{Behaviour, is_drop}
use Rattle.chain_walk.specs.Laws.{KeepsProfile}
use Rattle.chain_walk.specs.Packets.{Packet, fates, functions_after}
use Rattle.chain_walk.specs.Walk.{walk, applied, frame_after, dropped_at, then_walked, EndsWithin}
use Rattle.chain_walk.specs.declared.walk.Fate.{Fate}
use Rattle.classifier.specs.declared.burst.Item.{Item}
use Rattle.graph_compile.specs.Facts.{IsLawful}
use Rattle.graph_compile.specs.declared.graph.Graph.{Graph}
use Rattle.graph_compile.specs.declared.graph.Stage.{Stage}
use Rattle.packet_version.specs.Tallies.{count_of, raised}
use Rattle.graph_run.specs.Counting.{copies_of, copies_made, RaisesAll, RaisesUpTo}
use Rattle.graph_run.specs.Packets.{is_of, packet_of, packets_taken}
use Rattle.graph_run.specs.Running.{IsRunning}

-- packets that walk in a row
abbrev pub FatesInARow : Type 0 → Type 0
FatesInARow F = (b : Behaviour F) (functions : List F) (first later : List Packet) → fates b functions (first ++ later) ≡ fates b functions first ++ fates b (functions_after b functions first) later

abbrev pub FunctionsInARow : Type 0 → Type 0
FunctionsInARow F = (b : Behaviour F) (functions : List F) (first later : List Packet) → functions_after b functions (first ++ later) ≡ functions_after b (functions_after b functions first) later

abbrev pub AsManyFates : Type 0 → Type 0
AsManyFates F = (b : Behaviour F) (functions : List F) (packets : List Packet) → length (fates b functions packets) ≡ length packets

filter_append : {A : Type 0} (p : A → Bool) (xs ys : List A) → filter p (xs ++ ys) ≡ filter p xs ++ filter p ys
filter_append p [] ys = refl
filter_append p (x ∷ xs) ys = by_test (p x) (filter_append p xs ys)
  where
    by_test : (t : Bool) → filter p (xs ++ ys) ≡ filter p xs ++ filter p ys → (if t then x ∷ filter p (xs ++ ys) else filter p (xs ++ ys)) ≡ (if t then x ∷ filter p xs else filter p xs) ++ filter p ys
    by_test true e = ap (λ l. x ∷ l) e
    by_test false e = e

pub packets_append : (unit : TimeUnit) (chain : ℕ) (xs ys : List Item) → packets_taken unit chain (xs ++ ys) ≡ packets_taken unit chain xs ++ packets_taken unit chain ys
packets_append unit chain xs ys = ap (map (packet_of unit)) (filter_append (is_of chain) xs ys) ∙ map-append (packet_of unit) (filter (is_of chain) xs) (filter (is_of chain) ys)

zip_append : {A B : Type 0} (xs ys : List A) (us vs : List B) → length us ≡ length xs → zip (xs ++ ys) (us ++ vs) ≡ zip xs us ++ zip ys vs
zip_append [] ys [] vs e = refl
zip_append [] ys (u ∷ us) vs e = absurd (omega arith)
zip_append (x ∷ xs) ys [] vs e = absurd (omega arith)
zip_append (x ∷ xs) ys (u ∷ us) vs e = ap (λ l. (x, u) ∷ l) (zip_append xs ys us vs (omega arith))

sum_append : {A : Type 0} (f : A → ℕ) (xs ys : List A) → sum_by f (xs ++ ys) ≡ sum_by f xs + sum_by f ys
sum_append f [] ys = omega arith
sum_append f (x ∷ xs) ys = plus _ _ _ _ _ _ (sum_by-cons f x (xs ++ ys)) (sum_by-cons f x xs) (sum_append f xs ys)
  where
    plus : (all here rest front tail both : ℕ) → all ≡ here + rest → front ≡ here + tail → rest ≡ tail + both → all ≡ front + both
    plus all here rest front tail both a b c = omega arith

-- the copies of packets that end as they walk
abbrev pub walked_copies : {F : Type 0} → Behaviour F → List Stage → List F → List Packet → Field → ℕ
walked_copies b stages functions packets f = copies_made stages packets (fates b functions packets) f

pub copies_in_a_row : {F : Type 0} (b : Behaviour F) (stages : List Stage) (functions : List F) (first later : List Packet) (f : Field) → FatesInARow F → AsManyFates F →
    walked_copies b stages functions (first ++ later) f ≡ walked_copies b stages functions first f + walked_copies b stages (functions_after b functions first) later f
unfolding copies_made
copies_in_a_row b stages functions first later f rows many =
    ap (λ l. sum_by (λ x. copies_of stages x.0.frame x.1 f) (zip (first ++ later) l)) (rows b functions first later)
    ∙ ap (sum_by (λ x. copies_of stages x.0.frame x.1 f)) (zip_append first later (fates b functions first) (fates b (functions_after b functions first) later) (many b functions first))
    ∙ sum_append (λ x. copies_of stages x.0.frame x.1 f) (zip first (fates b functions first)) (zip later (fates b (functions_after b functions first) later))

-- this number of items have run, and the functions, fates and counts are those of their packets
pub record HasRunItems {F : Type 0} (b : Behaviour F) (graph : Graph) (unit : TimeUnit) (chain : ℕ) (items : List Item) (first now : List F) (i : ℕ) (done : List Fate) (old new : List ℕ) : Type 0 where
  pub functions : now ≡ functions_after b first (packets_taken unit chain (take i items))
  pub fates_are : done ≡ fates b first (packets_taken unit chain (take i items))
  pub profiles : map b.profile now ≡ map b.profile first
  pub counted : RaisesAll (walked_copies b graph.stages first (packets_taken unit chain (take i items))) old new

pub nothing_yet : {F : Type 0} (b : Behaviour F) (stages : List Stage) (functions : List F) (f : Field) → walked_copies b stages functions [] f ≡ 0
unfolding copies_made fates
nothing_yet b stages functions f = refl

pub items_begin : {F : Type 0} (b : Behaviour F) (graph : Graph) (unit : TimeUnit) (chain : ℕ) (items : List Item) (first : List F) (done : List Fate) (tally : List ℕ) → done ≡ [] → HasRunItems b graph unit chain items first first 0 done tally tally
unfolding functions_after fates
items_begin b graph unit chain items first done tally none = record {
  functions = refl;
  fates_are = none;
  profiles = refl;
  counted = λ f. let zero_made = nothing_yet b graph.stages first f in omega (arith, zero_made);
}

pub raised_more : (c a m all now new : ℕ) → now ≡ raised c a → new ≡ raised now m → all ≡ a + m → new ≡ raised c all
raised_more c a m all now new x y e = omega arith

pub item_more : {F : Type 0} (b : Behaviour F) (graph : Graph) (unit : TimeUnit) (chain : ℕ) (items : List Item) (first now after : List F) (i : ℕ) (done more : List Fate) (old new newer : List ℕ) (d : Item) → FatesInARow F → FunctionsInARow F → AsManyFates F →
    HasRunItems b graph unit chain items first now i done old new → i < length items → map b.profile after ≡ map b.profile now →
    after ≡ functions_after b now (packets_taken unit chain (get_or items i d ∷ [])) → more ≡ done ++ fates b now (packets_taken unit chain (get_or items i d ∷ [])) →
    RaisesAll (walked_copies b graph.stages now (packets_taken unit chain (get_or items i d ∷ []))) new newer → HasRunItems b graph unit chain items first after (i + 1) more old newer
item_more {F} b graph unit chain items first now after i done more old new newer d rows functions_rows many run inside profiles fs came counted =
    let before : List Packet = packets_taken unit chain (take i items) in
    let here : List Packet = packets_taken unit chain (get_or items i d ∷ []) in
    let row : packets_taken unit chain (take (i + 1) items) ≡ before ++ here = ap (packets_taken unit chain) (take_more items i d inside) ∙ packets_append unit chain (take i items) (get_or items i d ∷ []) in
    record {
      functions = fs ∙ ap (λ (l : List F). functions_after b l here) run.functions ∙ sym (functions_rows b first before here) ∙ ap (functions_after b first) (sym row);
      fates_are = came ∙ (λ j. run.fates_are j ++ fates b (run.functions j) here) ∙ sym (rows b first before here) ∙ ap (fates b first) (sym row);
      profiles = profiles ∙ run.profiles;
      counted = λ f. raised_more (count_of old f) (walked_copies b graph.stages first before f) (walked_copies b graph.stages now here f) (walked_copies b graph.stages first (packets_taken unit chain (take (i + 1) items)) f) (count_of new f) (count_of newer f) (run.counted f) (counted f)
          (ap (λ (l : List Packet). walked_copies b graph.stages first l f) row ∙ copies_in_a_row b graph.stages first before here f rows many
          ∙ ap (λ (l : List F). walked_copies b graph.stages first before f + walked_copies b graph.stages l here f) (sym run.functions));
    }

-- all that a whole list makes is at least what its front and the item after it make
pub bounded : (c a m n all now new : ℕ) → now ≡ raised c a → now ≤ new → new ≤ raised now m → all ≡ a + (m + n) → (c ≤ new) × (new ≤ raised c all)
bounded c a m n all now new x low high e = (omega arith, omega arith)

pub item_fails : {F : Type 0} (b : Behaviour F) (graph : Graph) (unit : TimeUnit) (chain : ℕ) (items : List Item) (first now : List F) (i : ℕ) (done : List Fate) (old new newer : List ℕ) (d : Item) → FatesInARow F → FunctionsInARow F → AsManyFates F →
    HasRunItems b graph unit chain items first now i done old new → i < length items → RaisesUpTo (walked_copies b graph.stages now (packets_taken unit chain (get_or items i d ∷ []))) new newer → RaisesUpTo (walked_copies b graph.stages first (packets_taken unit chain items)) old newer
item_fails {F} b graph unit chain items first now i done old new newer d rows functions_rows many run inside within = λ f.
    let before : List Packet = packets_taken unit chain (take i items) in
    let here : List Packet = packets_taken unit chain (get_or items i d ∷ []) in
    let later : List Packet = packets_taken unit chain (drop (i + 1) items) in
    let row : packets_taken unit chain items ≡ before ++ (here ++ later) =
    ap (packets_taken unit chain) (sym (take-append-drop i items) ∙ ap (λ l. take i items ++ l) (drop_more items i d inside))
    ∙ packets_append unit chain (take i items) (get_or items i d ∷ drop (i + 1) items)
    ∙ ap (λ l. before ++ l) (packets_append unit chain (get_or items i d ∷ []) (drop (i + 1) items)) in
    let all : walked_copies b graph.stages first (packets_taken unit chain items) f ≡ walked_copies b graph.stages first before f + (walked_copies b graph.stages now here f + walked_copies b graph.stages (functions_after b now here) later f) =
    ap (λ (l : List Packet). walked_copies b graph.stages first l f) row
    ∙ copies_in_a_row b graph.stages first before (here ++ later) f rows many
    ∙ ap (λ (l : List F). walked_copies b graph.stages first before f + walked_copies b graph.stages l (here ++ later) f) (sym run.functions)
    ∙ ap (λ n. walked_copies b graph.stages first before f + n) (copies_in_a_row b graph.stages now here later f rows many) in
    bounded (count_of old f) (walked_copies b graph.stages first before f) (walked_copies b graph.stages now here f) (walked_copies b graph.stages (functions_after b now here) later f) (walked_copies b graph.stages first (packets_taken unit chain items) f)
    (count_of new f) (count_of newer f) (run.counted f) (within f).0 (within f).1 all

-- a walk leaves as many functions, each with its profile
pub walk_profiles : {F : Type 0} (b : Behaviour F) (time position : ℕ) (fs : List F) (frame : List ℕ) → KeepsProfile b → map b.profile (walk b time position fs frame).functions ≡ map b.profile fs
unfolding walk
walk_profiles b time position [] frame keeps = refl
walk_profiles b time position (f ∷ fs) frame keeps = by_test (is_drop (applied b time f frame).verdict) (walk_profiles b time (position + 1) fs (frame_after b time f frame) keeps)
  where
    kept : b.profile (applied b time f frame).after ≡ b.profile f
    kept = keeps.stays _ f _

    by_test : (t : Bool) → map b.profile (walk b time (position + 1) fs (frame_after b time f frame)).functions ≡ map b.profile fs →
        map b.profile (if t then dropped_at position (applied b time f frame).after fs else then_walked (applied b time f frame).after (walk b time (position + 1) fs (frame_after b time f frame))).functions ≡ b.profile f ∷ map b.profile fs
    by_test true e = ap (λ (p : Profile). p ∷ map b.profile fs) kept
    by_test false e = λ i. kept i ∷ e i

pub after_profiles : {F : Type 0} (b : Behaviour F) (fs : List F) (packets : List Packet) → KeepsProfile b → map b.profile (functions_after b fs packets) ≡ map b.profile fs
unfolding functions_after
after_profiles b fs [] keeps = refl
after_profiles b fs (p ∷ packets) keeps = after_profiles b (walk b p.time 1 fs p.frame).functions packets keeps ∙ walk_profiles b p.time 1 fs p.frame keeps

same_length : {F : Type 0} (b : Behaviour F) (xs ys : List F) → map b.profile xs ≡ map b.profile ys → length xs ≡ length ys
same_length b xs ys e = sym (length-map xs b.profile) ∙ ap length e ∙ length-map ys b.profile

all_cons : (P : Fate → Type 0) (x : Fate) (xs : List Fate) → P x → All P xs → All P (x ∷ xs)
all_cons P x xs here rest zero d less = here
all_cons P x xs here rest (suc k) d less = rest k d (omega arith)

-- every packet that is gone was dropped within the chain
pub all_within : {F : Type 0} (b : Behaviour F) (fs : List F) (packets : List Packet) → KeepsProfile b → ((b : Behaviour F) (time : ℕ) (functions : List F) (frame : List ℕ) → EndsWithin (length functions) (walk b time 1 functions frame).fate) → All (EndsWithin (length fs)) (fates b fs packets)
unfolding fates
all_within b fs [] keeps law = λ k d less. absurd (omega arith)
all_within b fs (p ∷ packets) keeps law =
    all_cons (EndsWithin (length fs)) (walk b p.time 1 fs p.frame).fate (fates b (walk b p.time 1 fs p.frame).functions packets) (law b p.time fs p.frame)
    (subst (λ n. All (EndsWithin n) (fates b (walk b p.time 1 fs p.frame).functions packets)) (same_length b (walk b p.time 1 fs p.frame).functions fs (walk_profiles b p.time 1 fs p.frame keeps)) (all_within b (walk b p.time 1 fs p.frame).functions packets keeps law))

-- the functions after the walk run in the same graph
pub runs_on : {F : Type 0} (b : Behaviour F) (graph : Graph) (first now : List F) → IsRunning b first graph → map b.profile now ≡ map b.profile first → IsRunning b now graph
runs_on b graph first now running same = record {
  few = let few = running.few in let count = same_length b now first same in omega arith;
  lawful = subst (λ (ps : List Profile). IsLawful graph ps) (sym same) running.lawful;
  full = running.full;
}

-- the number of the first functions that add a tag
abbrev pub adders_among : {F : Type 0} → Behaviour F → List F → ℕ → ℕ
adders_among b fs i = count_by (λ p. p.adds) (map b.profile (take i fs))
