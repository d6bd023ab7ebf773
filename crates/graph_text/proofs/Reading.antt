-- Each line keeps what is listed sound.
use Rattle.std.proofs.Common.{◌≡◌, ◌<◌, ◌≤◌, ◌+◌, ◌∙◌, ℕ, suc, Bool, true, false, ◌&&◌, ◌||◌, not, cond, List, [], ◌∷◌, ◌++◌, length, Some, None, sym, ap, refl, arith, subst, append_assoc, length-append}
use Rattle.std.specs.Prelude.{Option, Result, Ok, Err, IfOk, ⊤, nat_lt, ◌==◌, position, option_and_then}
use Rattle.std.specs.List.{list_any, AllByRecursion}
use Rattle.std.specs.Option.{option_map}
use Rattle.std.proofs.lemmas.Grind.{flat_map-append}
use Rattle.std.proofs.lemmas.List.{append-nil}
use Rattle.std.proofs.lemmas.List.Quantifiers.{position-Some}
use Rattle.graph_compile.specs.Facts.{positions_of}
use Rattle.graph_compile.specs.declared.graph.Branch.{Branch}
use Rattle.policy_check.specs.declared.fault.Order.{Order}
use Rattle.policy_text.specs.Grammar.{latest, change_latest, is_function}
use Rattle.policy_text.specs.Lines.{Line, PlacedWord, word_at}
use Rattle.policy_text.specs.Steps.{◌>>=◌, demand, some_or}
use Rattle.policy_text.specs.declared.policy.ChainPolicy.{ChainPolicy}
use Rattle.policy_text.specs.declared.policy.FunctionDecl.{FunctionDecl}
use Rattle.graph_text.specs.Chains.{chain_named, functions_at, order_at, has_whole, position_of, position_named, positions_named}
use Rattle.graph_text.specs.Forms.{is_version, is_chain, is_stage, is_branch, names_of, has_branch}
use Rattle.graph_text.specs.Listing.{is_listed, no_stage, chain_line, with_stage, stage_line, with_branch_in, stages_with, with_branch, branch_in, branch_of, with_positions, branch_line, after_line, after_lines, listed_by}
use Rattle.graph_text.specs.Soundness.{HasFunction, HasBranch, AreSound, IsSound, standing}
use Rattle.graph_text.specs.Standing.{is_placed, repeats, stands_twice}
use Rattle.graph_text.specs.declared.fault.GraphFault.{GraphFault}
use Rattle.graph_text.specs.declared.fault.GraphFault.TheVariants.{BadVersionLine, Syntax, UnknownName, Twice, WholeChain}
use Rattle.graph_text.specs.declared.listed.Listed.{Listed}
use Rattle.graph_text.proofs.Latest.{all_latest}
use Rattle.graph_text.proofs.Leading.{any_standing}
use Rattle.graph_text.proofs.Repeats.{joined_once}
use Rattle.graph_text.proofs.Tests.{or_false, not_true, any_same, all_append}

-- what holds for the value of steps
pub then_keeps : {A B E : Type 0} (P : B → Type 0) (r : Result A E) (f : A → Result B E) → ((x : A) → r ≡ Ok x → IfOk (f x) P) → IfOk (r >>= f) P
then_keeps P (Ok x) f h = h x refl
then_keeps P (Err e) f h = tt

pub cond_keeps : {B E : Type 0} (P : B → Type 0) (b : Bool) (x y : Result B E) → (b ≡ true → IfOk x P) → IfOk y P → IfOk (cond b x y) P
cond_keeps P true x y h k = h refl
cond_keeps P false x y h k = k

demand_ok : {E : Type 0} (b : Bool) (e : E) (u : ⊤) → demand b e ≡ Ok u → b ≡ true
demand_ok true e u h = refl
demand_ok false e u h = cc

some_or_ok : {A E : Type 0} (e : E) (o : Option A) (x : A) → some_or e o ≡ Ok x → o ≡ Some x
some_or_ok e None x h = cc
some_or_ok e (Some y) x h = cc

-- the positions that a name and that names have
record IsWithin (count p : ℕ) : Type 0 where
  above : 1 ≤ p
  inside : p ≤ count

one_more : (order : List ℕ) (place p : ℕ) (o : Option ℕ) → position (λ f. f == place) order ≡ o → option_map (λ k. k + 1) o ≡ Some p → IsWithin (length order) p
one_more order place p None is e = absurd (cc)
one_more order place p (Some k) is e =
    let found = position-Some (λ f. f == place) order k 0 is in
    let same : k + 1 ≡ p = cc in
    record { above = omega (arith, same); inside = omega (arith, found.0, same) }

of_place : (order : List ℕ) (p : ℕ) (o : Option ℕ) → option_and_then (position_of order) o ≡ Some p → IsWithin (length order) p
of_place order p None e = absurd (cc)
of_place order p (Some place) e = one_more order place p _ refl e

record AreWithin (count : ℕ) (words : List PlacedWord) (positions : List ℕ) : Type 0 where
  above : AllByRecursion (λ p. 1 ≤ p) positions
  inside : AllByRecursion (λ p. p ≤ count) positions
  many : length positions ≡ length words

word_more : (count : ℕ) (word : PlacedWord) (words : List PlacedWord) (positions : List ℕ) (o : Option ℕ) (r : Option (List ℕ)) → ((p : ℕ) → o ≡ Some p → IsWithin count p) →
    ((ps : List ℕ) → r ≡ Some ps → AreWithin count words ps) → option_and_then (λ p. option_map (λ ps. p ∷ ps) r) o ≡ Some positions → AreWithin count (word ∷ words) positions
word_more count word words positions None r first behind e = absurd (cc)
word_more count word words positions (Some p) None first behind e = absurd (cc)
word_more count word words positions (Some p) (Some ps) first behind e =
    let same : p ∷ ps ≡ positions = cc in
    let one = first p refl in
    let rest = behind ps refl in
    subst (AreWithin count (word ∷ words)) same (record { above = (one.above, rest.above); inside = (one.inside, rest.inside); many = ap suc rest.many })

of_words : (functions : List FunctionDecl) (order : List ℕ) (words : List PlacedWord) (positions : List ℕ) → positions_named functions order words ≡ Some positions → AreWithin (length order) words positions
of_words functions order [] positions e =
    let none : [] ≡ positions = cc in
    subst (AreWithin (length order) []) none (record { above = tt; inside = tt; many = refl })
of_words functions order (word ∷ words) positions e =
    word_more (length order) word words positions (position_named functions order word.text) (positions_named functions order words)
    (λ p is. of_place order p (position (is_function word.text) functions) is) (λ ps is. of_words functions order words ps is) e

-- one more branch
standing_push : (stages : List (List Branch)) (b : Branch) → standing (stages ++ (b ∷ []) ∷ []) ≡ standing stages ++ b.positions
standing_push stages b =
    flat_map-append positions_of stages ((b ∷ []) ∷ []) ∙ ap (λ xs. standing stages ++ xs) (append-nil (b.positions ++ []) ∙ append-nil b.positions)

positions_push : (branches : List Branch) (b : Branch) → positions_of (branches ++ b ∷ []) ≡ positions_of branches ++ b.positions
positions_push branches b = flat_map-append (λ (c : Branch). c.positions) branches (b ∷ []) ∙ ap (λ xs. positions_of branches ++ xs) (append-nil b.positions)

standing_latest : (stages : List (List Branch)) (b : Branch) → 0 < length stages → standing (change_latest (with_branch_in b) stages) ≡ standing stages ++ b.positions
standing_latest [] b some = absurd (omega arith)
standing_latest (s ∷ []) b some = append-nil (positions_of (s ++ b ∷ [])) ∙ positions_push s b ∙ ap (λ xs. xs ++ b.positions) (sym (append-nil (positions_of s)))
standing_latest (s ∷ t ∷ ss) b some =
    ap (λ xs. positions_of s ++ xs) (standing_latest (t ∷ ss) b (omega arith)) ∙ sym (append_assoc (positions_of s) (standing (t ∷ ss)) b.positions)

full_push : (bs : List Branch) (b : Branch) → HasBranch bs → HasFunction b → HasBranch (with_branch_in b bs)
full_push bs b h k = record { some = omega (arith, length-append bs (b ∷ [])); each = all_append HasFunction bs (b ∷ []) h.each (k, tt) }

-- positions that are in no branch yet
apart : (stages : List (List Branch)) (positions : List ℕ) → list_any (λ p. is_placed p stages) positions ≡ false → list_any (λ p. list_any (λ q. q == p) (standing stages)) positions ≡ false
apart stages positions e = any_same (λ p. list_any (λ q. q == p) (standing stages)) (λ p. is_placed p stages) positions (λ p. any_standing p stages) ∙ e

grown_sound : (count : ℕ) (stages more : List (List Branch)) (b : Branch) → AreSound count stages → repeats b.positions ≡ false → list_any (λ p. is_placed p stages) b.positions ≡ false →
    AllByRecursion (λ p. 1 ≤ p) b.positions → AllByRecursion (λ p. p ≤ count) b.positions → standing more ≡ standing stages ++ b.positions → AllByRecursion HasBranch more → AreSound count more
grown_sound count stages more b sound once new above inside is full = record {
  once = rw is (joined_once (standing stages) b.positions sound.once once (apart stages b.positions new));
  above = rw is (all_append (λ p. 1 ≤ p) (standing stages) b.positions sound.above above);
  inside = rw is (all_append (λ p. p ≤ count) (standing stages) b.positions sound.inside inside);
  full = full;
}

with_sound : (count : ℕ) (opened : Bool) (stages : List (List Branch)) (b : Branch) → AreSound count stages → (opened || nat_lt 0 (length stages)) ≡ true → stands_twice stages b.positions ≡ false →
    0 < length b.positions → AllByRecursion (λ p. 1 ≤ p) b.positions → AllByRecursion (λ p. p ≤ count) b.positions → AreSound count (stages_with opened stages b)
with_sound count true stages b sound stage twice some above inside =
    let new = or_false (list_any (λ p. is_placed p stages) b.positions) (repeats b.positions) twice in
    let one : HasFunction b = record { some = some } in
    grown_sound count stages (stages ++ (b ∷ []) ∷ []) b sound new.1 new.0 above inside (standing_push stages b)
    (all_append HasBranch stages ((b ∷ []) ∷ []) sound.full (record { some = omega arith; each = (one, tt) }, tt))
with_sound count false [] b sound stage twice some above inside = sound
with_sound count false (s ∷ ss) b sound stage twice some above inside =
    let new = or_false (list_any (λ p. is_placed p (s ∷ ss)) b.positions) (repeats b.positions) twice in
    let one : HasFunction b = record { some = some } in
    grown_sound count (s ∷ ss) (change_latest (with_branch_in b) (s ∷ ss)) b sound new.1 new.0 above inside (standing_latest (s ∷ ss) b (omega arith))
    (all_latest HasBranch (with_branch_in b) (s ∷ ss) sound.full (λ bs is h. full_push bs b h one))

-- `branch NAME ..`
named_some : (words : List PlacedWord) → is_branch words ≡ true → 0 < length (names_of words)
named_some [] e = absurd (cc)
named_some (word ∷ []) e = absurd (cc)
named_some (word ∷ name ∷ names) e = omega arith

of_branch : (chains : List ChainPolicy) (orders : List Order) (here : Listed) (line : Line) → is_branch line.words ≡ true → IsSound orders here →
    IfOk (branch_in chains orders here line) (λ positions. IsSound orders (with_branch (record { positions = positions }) here))
of_branch chains orders here line form sound =
    let P : List ℕ → Type 0 = λ positions. IsSound orders (with_branch (record { positions = positions }) here) in
    then_keeps P (demand (here.opened || nat_lt 0 (length here.stages)) (Syntax line.number)) _ (λ u eu.
    then_keeps P (some_or (UnknownName line.number) (positions_named (functions_at chains here.chain) (order_at orders here.chain) (names_of line.words))) _ (λ positions ep.
    then_keeps P (demand (not (stands_twice here.stages positions)) (Twice line.number)) _ (λ v ev.
    let within = of_words (functions_at chains here.chain) (order_at orders here.chain) (names_of line.words) positions (some_or_ok _ _ positions ep) in
    record {
      stages = with_sound (length (order_at orders here.chain)) here.opened here.stages (record { positions = positions }) sound.stages (demand_ok _ _ u eu)
          (not_true (stands_twice here.stages positions) (demand_ok _ _ v ev)) (omega (arith, within.many, named_some line.words form)) within.above within.inside;
    })))

in_latest : (chains : List ChainPolicy) (orders : List Order) (listed : List Listed) (line : Line) (o : Option Listed) → latest listed ≡ o → is_branch line.words ≡ true → AllByRecursion (IsSound orders) listed →
    IfOk (some_or (Syntax line.number) o >>= (λ here. branch_in chains orders here line)) (λ positions. AllByRecursion (IsSound orders) (with_positions listed positions))
in_latest chains orders listed line None is form sound = tt
in_latest chains orders listed line (Some here) is form sound =
    each_ok (branch_in chains orders here line) (λ s. of_branch chains orders here line form s)
  where
    each_ok : (r : Result (List ℕ) GraphFault) → (IsSound orders here → IfOk r (λ positions. IsSound orders (with_branch (record { positions = positions }) here))) →
        IfOk r (λ positions. AllByRecursion (IsSound orders) (with_positions listed positions))
    each_ok (Err e) h = tt
    each_ok (Ok positions) h = all_latest (IsSound orders) (with_branch (record { positions = positions })) listed sound (λ l at s.
        let same : here ≡ l = cc in
        let P : Listed → Type 0 = λ x. IsSound orders x → IsSound orders (with_branch (record { positions = positions }) x) in
        subst P same h s)

branch_keeps : (chains : List ChainPolicy) (orders : List Order) (listed : List Listed) (line : Line) → is_branch line.words ≡ true → AllByRecursion (IsSound orders) listed →
    IfOk (branch_line chains orders listed line) (AllByRecursion (IsSound orders))
branch_keeps chains orders listed line form sound =
    by_positions (branch_of chains orders listed line) (in_latest chains orders listed line (latest listed) refl form sound)
  where
    by_positions : (r : Result (List ℕ) GraphFault) → IfOk r (λ positions. AllByRecursion (IsSound orders) (with_positions listed positions)) →
        IfOk (r >>= (λ positions. Ok (with_positions listed positions))) (AllByRecursion (IsSound orders))
    by_positions (Ok positions) h = h
    by_positions (Err e) h = tt

-- `chain NAME` and `stage`
chain_keeps : (chains : List ChainPolicy) (orders : List Order) (listed : List Listed) (line : Line) → AllByRecursion (IsSound orders) listed → IfOk (chain_line chains listed line) (AllByRecursion (IsSound orders))
chain_keeps chains orders listed line sound =
    let P : List Listed → Type 0 = AllByRecursion (IsSound orders) in
    then_keeps P (some_or (UnknownName line.number) (chain_named chains (word_at line 1))) _ (λ chain ec.
    then_keeps P (demand (not (is_listed listed chain)) (Twice line.number)) _ (λ u eu.
    then_keeps P (demand (not (has_whole (functions_at chains chain))) (WholeChain line.number)) _ (λ v ev.
    all_append (IsSound orders) listed (no_stage chain ∷ []) sound (record { stages = record { once = refl; above = tt; inside = tt; full = tt } }, tt))))

stage_keeps : (orders : List Order) (listed : List Listed) (line : Line) (later : List Line) → AllByRecursion (IsSound orders) listed → IfOk (stage_line listed line later) (AllByRecursion (IsSound orders))
stage_keeps orders listed line later sound =
    let P : List Listed → Type 0 = AllByRecursion (IsSound orders) in
    then_keeps P (demand (nat_lt 0 (length listed) && has_branch later) (Syntax line.number)) _ (λ u eu.
    all_latest (IsSound orders) with_stage listed sound (λ l is h. record { stages = h.stages }))

-- a line, and all of them
line_keeps : (chains : List ChainPolicy) (orders : List Order) (listed : List Listed) (line : Line) (later : List Line) → AllByRecursion (IsSound orders) listed →
    IfOk (after_line chains orders listed line later) (AllByRecursion (IsSound orders))
unfolding after_line
line_keeps chains orders listed line later sound =
    cond_keeps (AllByRecursion (IsSound orders)) (is_chain line.words) _ _ (λ _. chain_keeps chains orders listed line sound)
    (cond_keeps (AllByRecursion (IsSound orders)) (is_stage line.words) _ _ (λ _. stage_keeps orders listed line later sound)
    (cond_keeps (AllByRecursion (IsSound orders)) (is_branch line.words) _ _ (λ form. branch_keeps chains orders listed line form sound) tt))

lines_keep : (chains : List ChainPolicy) (orders : List Order) (listed : List Listed) (lines : List Line) → AllByRecursion (IsSound orders) listed →
    IfOk (after_lines chains orders listed lines) (AllByRecursion (IsSound orders))
lines_keep chains orders listed [] sound = sound
lines_keep chains orders listed (line ∷ lines) sound =
    elim (after_line chains orders listed line lines) as (λ r. IfOk r (AllByRecursion (IsSound orders)) → IfOk (r >>= (λ more. after_lines chains orders more lines)) (AllByRecursion (IsSound orders))) [
      | Ok more ↦ λ h. lines_keep chains orders more lines h
      | Err e ↦ λ _. tt
    ] (line_keeps chains orders listed line lines sound)

text_keeps : (chains : List ChainPolicy) (orders : List Order) (lines : List Line) → IfOk (listed_by chains orders lines) (AllByRecursion (IsSound orders))
unfolding listed_by
text_keeps chains orders [] = tt
text_keeps chains orders (first ∷ lines) =
    then_keeps (AllByRecursion (IsSound orders)) (demand (is_version first.words) BadVersionLine) _ (λ u eu. lines_keep chains orders [] lines tt)

-- all that a text lists is sound
pub all_sound : (chains : List ChainPolicy) (orders : List Order) (lines : List Line) (listed : List Listed) → listed_by chains orders lines ≡ Ok listed → AllByRecursion (IsSound orders) listed
all_sound chains orders lines listed e =
    let P : Result (List Listed) GraphFault → Type 0 = λ r. IfOk r (AllByRecursion (IsSound orders)) in
    subst P e (text_keeps chains orders lines)
