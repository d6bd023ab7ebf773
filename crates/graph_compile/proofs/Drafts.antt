-- Functions are placed one after another.
use Rattle.std.proofs.Common.{◌≡◌, ℕ, zero, suc, ◌+◌, ◌-◌, ◌<◌, ◌≤◌, List, length, refl, ap, arith, length-append, fold, sym, ◌∙◌}
use Rattle.std.specs.Prelude.{count_by}
use Rattle.std.specs.List.{range_with_len}
use Rattle.std.proofs.lemmas.List.{length-map}
use Rattle.action_profile.specs.declared.rights.Profile.{Profile}
use Rattle.graph_compile.specs.declared.draft.Draft.{Draft}
use Rattle.graph_compile.specs.Stages.{holds_back, placed, placed_by, nothing_placed, finished, graph_of}

-- a draft, and then the functions from a place on, counted from 0
unfoldable pub rest_placed : List Profile → Draft → ℕ → Draft
rest_placed chain draft index = fold (placed chain) draft (range_with_len (index + 1) (length chain - index))

pub rest_placed-next : (chain : List Profile) (draft : Draft) (index : ℕ) → index < length chain → rest_placed chain draft index ≡ rest_placed chain (placed chain draft (index + 1)) (index + 1)
unfolding rest_placed
rest_placed-next chain draft index inside =
    let one : length chain - index ≡ suc (length chain - (index + 1)) = omega arith in
    rw one refl

pub rest_placed-end : (chain : List Profile) (draft : Draft) (index : ℕ) → length chain ≤ index → rest_placed chain draft index ≡ draft
unfolding rest_placed
rest_placed-end chain draft index all =
    let none : length chain - index ≡ 0 = omega arith in
    rw none refl

few_placed_by : (n : ℕ) (chain : List Profile) (draft : Draft) (position : ℕ) → length (placed_by n chain draft position).branches ≤ length draft.branches + 1
few_placed_by zero chain draft position = simp (length-append) (omega arith)
few_placed_by (suc zero) chain draft position = simp (length-map) (omega arith)
few_placed_by (suc (suc n)) chain draft position = omega arith

-- a function opens at most one branch
pub few_placed : (chain : List Profile) (draft : Draft) (position : ℕ) → length (placed chain draft position).branches ≤ length draft.branches + 1
unfolding placed
few_placed chain draft position = few_placed_by (count_by (holds_back chain position) draft.branches) chain draft position

-- the graph is what the rest makes of the stages so far
pub finished_rest : (chain : List Profile) (draft : Draft) (index : ℕ) → length chain ≤ index → rest_placed chain draft index ≡ rest_placed chain nothing_placed 0 → finished chain draft ≡ graph_of chain
unfolding rest_placed graph_of
finished_rest chain draft index all rest =
    let whole : length chain - 0 ≡ length chain = omega arith in
    ap (finished chain) (sym (rest_placed-end chain draft index all) ∙ rest ∙ ap (λ (n : ℕ). fold (placed chain) nothing_placed (range_with_len 1 n)) whole)
