-- The rule makes no other graph than one with causes.
use Rattle.std.proofs.Common.{◌≡◌, ◌∙◌, ℕ, zero, suc, ◌+◌, ◌-◌, ◌<◌, ◌≤◌, List, [], ◌∷◌, ◌++◌, length, fold, refl, sym, ap, subst, arith, append_assoc}
use Rattle.std.specs.Prelude.{count_by}
use Rattle.std.specs.List.{range_with_len, AllByRecursion}
use Rattle.std.proofs.lemmas.List.Sums.{sum_by-cons}
use Rattle.action_profile.specs.declared.rights.Profile.{Profile}
use Rattle.graph_compile.specs.Causes.{opener, IsJoinedForCause, IsClosedForCause}
use Rattle.graph_compile.specs.Facts.{IsFull}
use Rattle.graph_compile.specs.Lawful.{size, IsStaged}
use Rattle.graph_compile.specs.Stages.{holds_back, alone, stage_of, placed, placed_by, nothing_placed, all_stages, finished, graph_of}
use Rattle.graph_compile.specs.declared.graph.Branch.{Branch}
use Rattle.graph_compile.specs.declared.graph.Graph.{Graph}
use Rattle.graph_compile.specs.declared.graph.Stage.{Stage}
use Rattle.graph_compile.proofs.FiveFacts.{each-from, staged-from_lawful}
use Rattle.graph_causes.specs.Causes.{AreListed, IsPlacedForCause}
use Rattle.graph_causes.proofs.Before.{up_to, HasSome}
use Rattle.graph_causes.proofs.Drafts.{Draft}
use Rattle.graph_causes.proofs.Staging.{IsCausedStage, IsFilled, IsFilled-caused}

-- stages that the rule fills one after another
abbrev AreFilled : List Profile → ℕ → List Stage → ℕ → Type 0
AreFilled chain first [] next = first ≡ next
AreFilled chain first (s ∷ stages) next = IsFilled chain first s × AreFilled chain (first + size s.branches) stages next

filled-le : (chain : List Profile) (first : ℕ) (stages : List Stage) (next : ℕ) → AreFilled chain first stages next → first ≤ next
filled-le chain first [] next h = omega (arith, h)
filled-le chain first (s ∷ stages) next h = omega (arith, filled-le chain (first + size s.branches) stages next h.1)

fold-split : (chain : List Profile) (d : Draft) (p a b : ℕ) → fold (placed chain) d (range_with_len p (a + b)) ≡ fold (placed chain) (fold (placed chain) d (range_with_len p a)) (range_with_len (p + a) b)
fold-split chain d p zero b =
    let all : 0 + b ≡ b = omega arith in
    let same : p + 0 ≡ p = omega arith in
    rw (all, same) refl
fold-split chain d p (suc a) b =
    let rest = fold-split chain (placed chain d p) (p + 1) a b in
    let all : suc a + b ≡ suc (a + b) = omega arith in
    let same : p + 1 + a ≡ p + suc a = omega arith in
    ap (λ (n : ℕ). fold (placed chain) d (range_with_len p n)) all ∙ rest ∙ ap (λ (q : ℕ). fold (placed chain) (fold (placed chain) (placed chain d p) (range_with_len (p + 1) a)) (range_with_len q b)) same

closed_by : (n : ℕ) (chain : List Profile) (stages : List Stage) (bs : List Branch) (p : ℕ) → 2 ≤ n → placed_by n chain (record { stages = stages; branches = bs }) p ≡ record { stages = stages ++ stage_of chain bs ∷ []; branches = alone p ∷ [] }
closed_by zero chain stages bs p l = absurd (omega arith)
closed_by (suc zero) chain stages bs p l = absurd (omega arith)
closed_by (suc (suc n)) chain stages bs p l = refl

-- the function that opens a stage closes the one before
placed-opener : (chain : List Profile) (stages : List Stage) (first p : ℕ) (s t : Stage) → IsFilled chain first s → IsFilled chain p t → 2 ≤ count_by (holds_back chain (opener t.branches)) s.branches →
    placed chain (record { stages = stages; branches = s.branches }) p ≡ record { stages = stages ++ s ∷ []; branches = up_to (p + 1) t.branches }
unfolding placed
placed-opener chain stages first p s t f g l =
    let P : ℕ → Type 0 = λ n. 2 ≤ count_by (holds_back chain n) s.branches in
    let two = subst P g.opens l in
    closed_by (count_by (holds_back chain p) s.branches) chain stages s.branches p two
    ∙ ap (λ (x : Stage). record { stages = stages ++ x ∷ []; branches = alone p ∷ [] }) (sym f.is)
    ∙ ap (λ (bs : List Branch). record { stages = stages ++ s ∷ []; branches = bs }) (sym g.begun)

all_stages-some : (chain : List Profile) (stages : List Stage) (bs : List Branch) → 0 < length bs → all_stages chain stages bs ≡ stages ++ stage_of chain bs ∷ []
all_stages-some chain stages [] l = absurd (omega arith)
all_stages-some chain stages (b ∷ bs) l = refl

-- the rule goes through the rest of a stage, and through those that follow
follow : (chain : List Profile) (closed : List Stage) (s : Stage) (stages : List Stage) (first next n : ℕ) → IsFilled chain first s → AreFilled chain (first + size s.branches) stages next → IsClosedForCause chain (s ∷ stages) → first + 1 + n ≡ next →
    finished chain (fold (placed chain) (record { stages = closed; branches = up_to (first + 1) s.branches }) (range_with_len (first + 1) n)) ≡ record { stages = closed ++ s ∷ stages }
follow chain closed s [] first next n f a c e =
    let count = f.count in
    let same : n ≡ f.more = omega (arith, e, a, count) in
    let draft : Draft = record { stages = closed; branches = up_to (first + 1) s.branches } in
    ap (λ (m : ℕ). finished chain (fold (placed chain) draft (range_with_len (first + 1) m))) same
    ∙ ap (finished chain) (f.filled closed)
    ∙ ap (λ (ss : List Stage). record { stages = ss }) (all_stages-some chain closed s.branches f.some ∙ ap (λ (x : Stage). closed ++ x ∷ []) (sym f.is))
follow chain closed s (t ∷ stages) first next n f a c e =
    let count = f.count in
    let mid = first + size s.branches in
    let later = filled-le chain (mid + size t.branches) stages next a.1 in
    let some = a.0.count in
    let k = next - (mid + 1) in
    let draft : Draft = record { stages = closed; branches = up_to (first + 1) s.branches } in
    let parts : n ≡ f.more + suc k = omega (arith, e, count, later, some) in
    let at : first + 1 + f.more ≡ mid = omega (arith, count) in
    let left : mid + 1 + k ≡ next = omega (arith, later, some) in
    ap (λ (m : ℕ). finished chain (fold (placed chain) draft (range_with_len (first + 1) m))) parts
    ∙ ap (finished chain) (fold-split chain draft (first + 1) f.more (suc k))
    ∙ ap (λ (d : Draft). finished chain (fold (placed chain) d (range_with_len (first + 1 + f.more) (suc k)))) (f.filled closed)
    ∙ ap (λ (q : ℕ). finished chain (fold (placed chain) (record { stages = closed; branches = s.branches }) (range_with_len q (suc k)))) at
    ∙ ap (λ (d : Draft). finished chain (fold (placed chain) d (range_with_len (mid + 1) k))) (placed-opener chain closed first mid s t f a.0 (c 0 s t refl refl))
    ∙ follow chain (closed ++ s ∷ []) t stages mid next k a.0 a.1 (λ i. c (suc i)) left
    ∙ ap (λ (ss : List Stage). record { stages = ss }) (append_assoc closed (s ∷ []) (t ∷ stages))

whole : (chain : List Profile) (stages : List Stage) → AreFilled chain 1 stages (suc (length chain)) → IsClosedForCause chain stages → record { stages = stages } ≡ graph_of chain
unfolding graph_of placed
whole chain [] a c =
    let none : 0 ≡ length chain = omega (arith, a) in
    ap (λ (n : ℕ). finished chain (fold (placed chain) nothing_placed (range_with_len 1 n))) none
whole chain (s ∷ stages) a c =
    let count = a.0.count in
    let later = filled-le chain (1 + size s.branches) stages (suc (length chain)) a.1 in
    let n = length chain - 1 in
    let all : suc n ≡ length chain = omega (arith, count, later) in
    sym (follow chain [] s stages 1 (suc (length chain)) n a.0 a.1 c (omega (arith, all)))
    ∙ ap (λ (bs : List Branch). finished chain (fold (placed chain) (record { stages = []; branches = bs }) (range_with_len 2 n))) a.0.begun
    ∙ ap (λ (m : ℕ). finished chain (fold (placed chain) nothing_placed (range_with_len 1 m))) all

-- a lawful graph with causes is filled

size-some : (bs : List Branch) → 0 < length bs → AllByRecursion HasSome bs → 0 < size bs
size-some [] l h = absurd (omega arith)
size-some (b ∷ bs) l h = let some = h.0.some in omega (arith, sum_by-cons (λ (c : Branch). length c.positions) b bs, some)

fill-all : (chain : List Profile) (first : ℕ) (stages : List Stage) (next : ℕ) → IsStaged chain first stages next → IsFull (record { stages = stages }) → IsJoinedForCause chain stages → AreListed stages → AreFilled chain first stages next
unfolding IsStaged
fill-all chain first [] next h f j l = h
fill-all chain first (s ∷ stages) next h f j l =
    let functions = each-from HasSome s.branches (λ k b e. record { some = f.functions 0 k s b refl e }) in
    let branches = f.branches 0 s refl in
    let some = size-some s.branches branches functions in
    let count : size s.branches ≡ suc (size s.branches - 1) = omega (arith, some) in
    let caused : IsCausedStage chain s = record { joined = λ i k b r e g. j 0 i k s b r refl e g; listed = l 0 s refl; functions = functions } in (
      IsFilled-caused chain first (size s.branches - 1) s h.0 caused count branches,
      fill-all chain (first + size s.branches) stages next h.1 (record { branches = λ i. f.branches (suc i); functions = λ i. f.functions (suc i) }) (λ i. j (suc i)) (λ i. l (suc i)),
    )

pub only-caused : (graph : Graph) (chain : List Profile) → IsPlacedForCause graph chain → graph ≡ graph_of chain
only-caused graph chain c =
    whole chain graph.stages (fill-all chain 1 graph.stages (suc (length chain)) (staged-from_lawful graph chain c.full c.lawful) c.full c.joined c.listed) c.closed
