-- The stages of a graph whose functions run are ready, one after another.
use Rattle.std.proofs.Common.{◌≡◌, ◌∙◌, ◌-◌, ◌<◌, ◌≤◌, ◌+◌, ℕ, zero, suc, List, [], ◌∷◌, length, map, ap, refl, sym, arith}
use Rattle.std.specs.Prelude.{Some, option_map, slice_get}
use Rattle.std.proofs.lemmas.List.{length-map}
use Rattle.std.proofs.lemmas.List.Sums.{sum_by-cons}
use Rattle.action_profile.specs.declared.rights.Profile.{Profile}
use Rattle.chain_walk.specs.Step.{Behaviour}
use Rattle.graph_compile.specs.Facts.{IsLawful, IsFull}
use Rattle.graph_compile.specs.Lawful.{size, IsLawfulStage, IsStaged}
use Rattle.graph_compile.specs.Parts.{profile_at}
use Rattle.graph_compile.specs.declared.graph.Branch.{Branch}
use Rattle.graph_compile.specs.declared.graph.Graph.{Graph}
use Rattle.graph_compile.specs.declared.graph.Stage.{Stage}
use Rattle.burst_law.specs.Owned.{owned, owned_in, owned_by}
use Rattle.graph_run.specs.Running.{IsRunning}
use Rattle.graph_run.specs.Stages.{end_of}
use Rattle.stream_law.proofs.Staged.{AllOwn}
use Rattle.stream_law.proofs.Through.{AllReady}

-- the laws of graphs, as they are cited
abbrev pub LawfulIsStaged : Type 0
LawfulIsStaged = (graph : Graph) (chain : List Profile) → IsFull graph → IsLawful graph chain → IsStaged chain 1 graph.stages (suc (length chain))

abbrev pub Rising : Type 0
Rising = (chain : List Profile) (first : ℕ) (stages : List Stage) (next : ℕ) → IsStaged chain first stages next → first ≤ next

abbrev pub OwnsAsMany : Type 0 → Type 0
OwnsAsMany F = (b : Behaviour F) (graph : Graph) (functions : List F) (i j : ℕ) (s : Stage) (x : Branch) → IsLawful graph (map b.profile functions) → slice_get graph.stages i ≡ Some s → slice_get s.branches j ≡ Some x → length (owned x.positions functions) ≡ length x.positions

abbrev pub OwnsEach : Type 0 → Type 0
OwnsEach F = (b : Behaviour F) (graph : Graph) (functions : List F) (i j k q : ℕ) (s : Stage) (x : Branch) → IsLawful graph (map b.profile functions) → slice_get graph.stages i ≡ Some s → slice_get s.branches j ≡ Some x → slice_get x.positions k ≡ Some q →
    slice_get (owned x.positions functions) k ≡ slice_get functions (q - 1)

-- the functions of a branch have the profiles of their positions
got_map : {A B : Type 0} (f : A → B) (xs : List A) (k : ℕ) → slice_get (map f xs) k ≡ option_map f (slice_get xs k)
got_map f [] k = refl
got_map f (x ∷ xs) zero = refl
got_map f (x ∷ xs) (suc k) = got_map f xs k

own_profiles : {F : Type 0} (b : Behaviour F) (functions : List F) (positions : List ℕ) (own : List F) → length own ≡ length positions → ((k q : ℕ) → slice_get positions k ≡ Some q → slice_get own k ≡ slice_get functions (q - 1)) →
    map (profile_at (map b.profile functions)) positions ≡ map (λ p. Some p) (map b.profile own)
own_profiles b functions [] [] same each = refl
own_profiles b functions [] (f ∷ own) same each = absurd (omega arith)
own_profiles b functions (q ∷ positions) [] same each = absurd (omega arith)
own_profiles {F} b functions (q ∷ positions) (f ∷ own) same each =
    λ i. (got_map b.profile functions (q - 1) ∙ ap (option_map b.profile) (sym (each 0 q refl))) i ∷ own_profiles b functions positions own (omega arith) (λ k r e. each (suc k) r e) i

all_own : {F : Type 0} (b : Behaviour F) (functions : List F) (branches : List Branch) → ((j : ℕ) (x : Branch) → slice_get branches j ≡ Some x → length (owned x.positions functions) ≡ length x.positions) →
    ((j k q : ℕ) (x : Branch) → slice_get branches j ≡ Some x → slice_get x.positions k ≡ Some q → slice_get (owned x.positions functions) k ≡ slice_get functions (q - 1)) →
    AllOwn b (map b.profile functions) branches (owned_in branches functions)
unfolding AllOwn
all_own b functions [] count each = tt
all_own b functions (x ∷ branches) count each =
    (own_profiles b functions x.positions (owned x.positions functions) (count 0 x refl) (λ k q e. each 0 k q x refl e), all_own b functions branches (λ j y e. count (suc j) y e) (λ j k q y e h. each (suc j) k q y e h))

-- a stage whose branches have a function each has at least as many functions as branches
enough : (bs : List Branch) → ((j : ℕ) (b : Branch) → slice_get bs j ≡ Some b → 0 < length b.positions) → length bs ≤ size bs
enough [] each = omega arith
enough (b ∷ bs) each = let here = each 0 b refl in let rest = enough bs (λ j c is. each (suc j) c is) in let all = sum_by-cons (λ (x : Branch). length x.positions) b bs in more _ _ _ _ here rest all
  where
    more : (n m k all : ℕ) → 0 < n → m ≤ k → all ≡ n + k → suc m ≤ all
    more n m k all pos le e = omega arith

staged_head : (chain : List Profile) (first : ℕ) (s : Stage) (stages : List Stage) (next : ℕ) → IsStaged chain first (s ∷ stages) next → IsLawfulStage chain first s × IsStaged chain (end_of first s) stages next
unfolding IsStaged
staged_head chain first s stages next h = h

-- from some stage on
record AreFull (stages : List Stage) : Type 0 where
  branches : (i : ℕ) (s : Stage) → slice_get stages i ≡ Some s → 0 < length s.branches
  functions : (i j : ℕ) (s : Stage) (b : Branch) → slice_get stages i ≡ Some s → slice_get s.branches j ≡ Some b → 0 < length b.positions

all_ready : {F : Type 0} (b : Behaviour F) (functions : List F) (at : ℕ) (stages : List Stage) → Rising → 1 ≤ at → length functions ≤ 64 → IsStaged (map b.profile functions) at stages (suc (length (map b.profile functions))) → AreFull stages →
    ((i : ℕ) (s : Stage) → slice_get stages i ≡ Some s → AllOwn b (map b.profile functions) s.branches (owned_in s.branches functions)) → AllReady b (map b.profile functions) at stages (owned_by stages functions)
unfolding AllReady
all_ready b functions at [] rising position few staged full own = tt
all_ready {F} b functions at (s ∷ stages) rising position few staged full own =
    let chain : List Profile = map b.profile functions in
    let head = staged_head chain at s stages (suc (length chain)) staged in
    let le = rising chain (end_of at s) stages (suc (length chain)) head.1 in
    let sizes = enough s.branches (λ j x e. full.functions 0 j s x refl e) in
    let count : length chain ≡ length functions = length-map functions b.profile in (
      record { lawful = head.0; position = position; within = le; some = full.branches 0 s refl; few = omega arith; owners = own 0 s refl },
      all_ready b functions (end_of at s) stages rising (omega arith) few head.1 (record { branches = λ i t e. full.branches (suc i) t e; functions = λ i j t x e h. full.functions (suc i) j t x e h }) (λ i t e. own (suc i) t e),
    )

pub graph_ready : {F : Type 0} (b : Behaviour F) (graph : Graph) (functions : List F) → LawfulIsStaged → Rising → OwnsAsMany F → OwnsEach F → IsRunning b functions graph → AllReady b (map b.profile functions) 1 graph.stages (owned_by graph.stages functions)
graph_ready b graph functions law rising many each running =
    all_ready b functions 1 graph.stages rising (omega arith) running.few (law graph (map b.profile functions) running.full running.lawful) (record { branches = running.full.branches; functions = running.full.functions })
    (λ i s at. all_own b functions s.branches (λ j x e. many b graph functions i j s x running.lawful at e) (λ j k q x e h. each b graph functions i j k q s x running.lawful at e h))
