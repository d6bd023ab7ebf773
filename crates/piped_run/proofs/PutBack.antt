-- Functions that are put back in their places.
use Rattle.std.proofs.Common.{◌≡◌, ◌≢◌, ◌∙◌, ◌<◌, ◌≤◌, ◌+◌, ◌-◌, ℕ, zero, suc, List, [], ◌∷◌, ◌++◌, map, length, drop, get_or, set, replicate, sym, ap, refl, subst, arith, inl, inr}
use Rattle.std.specs.Prelude.{◌⊎◌, Option, Some, None, slice_get}
use Rattle.std.specs.List.{filter_map, cons_option}
use Rattle.std.proofs.lemmas.List.{drop_more, drop_all, get_or-set_other, get_or-set_same, length-set, length-map}
use Rattle.graph_compile.specs.Facts.{positions_of, all_positions, times}
use Rattle.graph_compile.specs.declared.graph.Branch.{Branch}
use Rattle.graph_compile.specs.declared.graph.Stage.{Stage}
use Rattle.burst_law.specs.Owned.{owned, owned_in, owned_by}
use Rattle.piped_run.specs.Places.{AreBack, at_place}
use Rattle.piped_run.specs.Standing.{EachStands}
use Rattle.piped_run.proofs.Taking.{times_other, times_there, stands_within, branches_left, stages_left}

same_or_not : (a b : ℕ) → (a ≡ b) ⊎ (a ≢ b)
same_or_not zero zero = inl refl
same_or_not zero (suc b) = inr (λ e. omega arith)
same_or_not (suc a) zero = inr (λ e. omega arith)
same_or_not (suc a) (suc b) = elim (same_or_not a b) [ inl e ↦ inl (ap suc e) | inr ne ↦ inr (λ e. ne (omega arith)) ]

-- one is put back in its place
pub back_one : {F : Type 0} (functions : List F) (places : List (Option F)) (q : ℕ) (rest : List ℕ) (f : F) → AreBack functions places (q ∷ rest) → slice_get functions (q - 1) ≡ Some f → AreBack functions (set places (q - 1) (Some f)) rest
back_one {F} functions places q rest f was is = record {
  count = length-set places (q - 1) (Some f) ∙ was.count;
  within = λ j x e. was.within (suc j) x e;
  there = λ k less. by_place k less (same_or_not k (q - 1)) (was.there k less);
}
  where
    by_place : (k : ℕ) → k < length functions → (k ≡ q - 1) ⊎ (k ≢ q - 1) → (at_place places k ≡ slice_get functions k) ⊎ (1 ≤ times (suc k) (q ∷ rest)) →
        (at_place (set places (q - 1) (Some f)) k ≡ slice_get functions k) ⊎ (1 ≤ times (suc k) rest)
    by_place k less (inl e) old =
        let count = was.count in
        inl (ap (at_place (set places (q - 1) (Some f))) e ∙ get_or-set_same places (q - 1) (Some f) None (omega arith) ∙ sym is ∙ ap (slice_get functions) (sym e))
    by_place k less (inr ne) (inl same) = inl (get_or-set_other places (q - 1) k (Some f) None ne ∙ same)
    by_place k less (inr ne) (inr some) = let low = (was.within 0 q refl).0 in let other = times_other (suc k) q rest (λ e. ne (omega arith)) in inr (omega arith)

-- a position within the chain has a function
pub one_at : {F : Type 0} (functions : List F) (k : ℕ) → k < length functions → (f : F) × (slice_get functions k ≡ Some f)
one_at [] k less = absurd (omega arith)
one_at (f ∷ functions) zero less = (f, refl)
one_at (f ∷ functions) (suc k) less = one_at functions k (omega arith)

got_front : {A : Type 0} (xs ys : List A) (j : ℕ) (x : A) → slice_get xs j ≡ Some x → slice_get (xs ++ ys) j ≡ Some x
got_front [] ys j x e = absurd cc
got_front (y ∷ xs) ys zero x e = e
got_front (y ∷ xs) ys (suc j) x e = got_front xs ys j x e

-- as many functions as positions
owned_count : {F : Type 0} (positions : List ℕ) (functions : List F) → ((j q : ℕ) → slice_get positions j ≡ Some q → (1 ≤ q) × (q ≤ length functions)) → length (owned positions functions) ≡ length positions
owned_count [] functions within = refl
owned_count {F} (q ∷ positions) functions within =
    let w = within 0 q refl in
    let f = one_at functions (q - 1) (let low = w.0 in let high = w.1 in omega arith) in
    ap (λ (o : Option F). length (cons_option o (owned positions functions))) f.1 ∙ ap suc (owned_count positions functions (λ j x e. within (suc j) x e))

-- this number of functions of a branch are put back
pub record Put {F : Type 0} (first now : List (Option F)) (positions : List ℕ) (own rest : List F) (i : ℕ) : Type 0 where
  pub count : i + length rest ≡ length positions
  pub left : (functions : List F) (later : List ℕ) → AreBack functions first (positions ++ later) → own ≡ owned positions functions → (rest ≡ owned (drop i positions) functions) × AreBack functions now (drop i positions ++ later)

abbrev pub SomeOwned : {F : Type 0} → List (Option F) → List ℕ → List F → Type 0
SomeOwned {F} places positions own = (functions : List F) × (later : List ℕ) × AreBack functions places (positions ++ later) × (own ≡ owned positions functions)

pub put_none : {F : Type 0} (places : List (Option F)) (positions : List ℕ) (own rest : List F) → rest ≡ own → SomeOwned places positions own → Put places places positions own rest 0
put_none places positions own rest all some = record {
  count = let n = owned_count positions some.0 (λ j q e. some.2.within j q (got_front positions some.1 j q e)) in let a = ap length some.3 in let b = ap length all in omega arith;
  left = λ functions later back is. (all ∙ is, back);
}

next_back : {F : Type 0} (first now : List (Option F)) (positions : List ℕ) (own rest : List F) (i : ℕ) (functions : List F) (later : List ℕ) → Put first now positions own rest i → AreBack functions first (positions ++ later) → own ≡ owned positions functions → i < length positions →
    AreBack functions now (get_or positions i 0 ∷ (drop (i + 1) positions ++ later))
next_back first now positions own rest i functions later put back is inside = subst (λ l. AreBack functions now (l ++ later)) (drop_more positions i 0 inside) (put.left functions later back is).1

pub put_inside : {F : Type 0} (first now : List (Option F)) (positions : List ℕ) (own was rest : List F) (f : F) (i : ℕ) → Put first now positions own was i → was ≡ f ∷ rest → i < length positions
put_inside first now positions own was rest f i put is = let n = put.count in let l = ap length is in omega arith

pub put_within : {F : Type 0} (first now : List (Option F)) (positions : List ℕ) (own was rest : List F) (f : F) (i : ℕ) → Put first now positions own was i → was ≡ f ∷ rest → SomeOwned first positions own →
    (1 ≤ get_or positions i 0) × (get_or positions i 0 ≤ length now)
put_within first now positions own was rest f i put is some =
    let next = next_back first now positions own was i some.0 some.1 put some.2 some.3 (put_inside first now positions own was rest f i put is) in
    let w = next.within 0 (get_or positions i 0) refl in let n = next.count in
    (w.0, omega arith)

heads : {A : Type 0} (x y : A) (xs ys : List A) → ◌≡◌ {A = List A} (x ∷ xs) (y ∷ ys) → (x ≡ y) × (xs ≡ ys)
heads x y xs ys e = (ap (λ l. get_or l 0 x) e, ap (λ l. drop 1 l) e)

pub put_more : {F : Type 0} (first now : List (Option F)) (positions : List ℕ) (own was rest : List F) (f : F) (i : ℕ) → Put first now positions own was i → was ≡ f ∷ rest →
    Put first (set now (get_or positions i 0 - 1) (Some f)) positions own rest (i + 1)
put_more {F} first now positions own was rest f i put is = record {
  count = let n = put.count in let l = ap length is in omega arith;
  left = λ functions later back owns.
      let inside = put_inside first now positions own was rest f i put is in
      let next = next_back first now positions own was i functions later put back owns inside in
      let w = next.within 0 (get_or positions i 0) refl in
      let g = one_at functions (get_or positions i 0 - 1) (let low = w.0 in let high = w.1 in omega arith) in
      let row : ◌≡◌ {A = List F} (f ∷ rest) (g.0 ∷ owned (drop (i + 1) positions) functions) =
      sym is ∙ (put.left functions later back owns).0 ∙ ap (λ l. owned l functions) (drop_more positions i 0 inside) ∙ ap (λ (o : Option F). cons_option o (owned (drop (i + 1) positions) functions)) g.1 in
      let same = heads f g.0 rest (owned (drop (i + 1) positions) functions) row in (
        same.1,
        back_one functions now (get_or positions i 0) (drop (i + 1) positions ++ later) f next (g.1 ∙ ap (λ x. Some x) (sym same.0)),
      );
}

pub put_all : {F : Type 0} (first now : List (Option F)) (positions : List ℕ) (own rest : List F) (i : ℕ) (functions : List F) (later : List ℕ) → Put first now positions own rest i → rest ≡ [] → AreBack functions first (positions ++ later) → own ≡ owned positions functions → AreBack functions now later
put_all first now positions own rest i functions later put none back is =
    let past : length positions ≤ i = let n = put.count in let l = ap length none in omega arith in
    subst (λ l. AreBack functions now (l ++ later)) (drop_all i positions past) (put.left functions later back is).1

-- this number of branches of a stage are put back
pub record PutStage {F V : Type 0} (items : V → List F) (first now : List (Option F)) (branches : List Branch) (own rest : List V) (i : ℕ) : Type 0 where
  pub count : i + length rest ≡ length branches
  pub left : (functions : List F) (later : List ℕ) → AreBack functions first (positions_of branches ++ later) → map items own ≡ owned_in branches functions → (map items rest ≡ owned_in (drop i branches) functions) × AreBack functions now (positions_of (drop i branches) ++ later)

abbrev pub SomeOwnedIn : {F V : Type 0} → (V → List F) → List (Option F) → List Branch → List V → Type 0
SomeOwnedIn {F} items places branches own = (functions : List F) × (later : List ℕ) × AreBack functions places (positions_of branches ++ later) × (map items own ≡ owned_in branches functions)

pub stage_none : {F V : Type 0} (items : V → List F) (places : List (Option F)) (branches : List Branch) (own rest : List V) → rest ≡ own → SomeOwnedIn items places branches own → PutStage items places places branches own rest 0
stage_none {F} items places branches own rest all some = record {
  count = let a = ap length some.3 in let b = length-map own items in let d = length-map branches (λ (x : Branch). owned x.positions some.0) in let e = ap length all in omega arith;
  left = λ functions later back is. (ap (map items) all ∙ is, back);
}

pub stage_inside : {F V : Type 0} (items : V → List F) (first now : List (Option F)) (branches : List Branch) (own was rest : List V) (v : V) (i : ℕ) → PutStage items first now branches own was i → was ≡ v ∷ rest → i < length branches
stage_inside items first now branches own was rest v i put is = let n = put.count in let l = ap length is in omega arith

-- the next branch, and what it owns
pub record NextBranch {F : Type 0} (now : List (Option F)) (positions later : List ℕ) (functions own : List F) : Type 0 where
  pub back : AreBack functions now (positions ++ later)
  pub owns : own ≡ owned positions functions

row_of : {F V : Type 0} (items : V → List F) (branches : List Branch) (was rest : List V) (v : V) (i : ℕ) (d : Branch) (functions : List F) → was ≡ v ∷ rest → i < length branches → map items was ≡ owned_in (drop i branches) functions →
    (items v ≡ owned (get_or branches i d).positions functions) × (map items rest ≡ owned_in (drop (i + 1) branches) functions)
row_of {F} items branches was rest v i d functions is inside all =
    let row : ◌≡◌ {A = List (List F)} (items v ∷ map items rest) (owned (get_or branches i d).positions functions ∷ owned_in (drop (i + 1) branches) functions) =
    ap (map items) (sym is) ∙ all ∙ ap (λ l. owned_in l functions) (drop_more branches i d inside) in
    (ap (λ l. get_or l 0 (items v)) row, ap (λ l. drop 1 l) row)

pub next_branch : {F V : Type 0} (items : V → List F) (first now : List (Option F)) (branches : List Branch) (own was rest : List V) (v : V) (i : ℕ) (d : Branch) (functions : List F) (later : List ℕ) → PutStage items first now branches own was i → was ≡ v ∷ rest →
    AreBack functions first (positions_of branches ++ later) → map items own ≡ owned_in branches functions → NextBranch now (get_or branches i d).positions (positions_of (drop (i + 1) branches) ++ later) functions (items v)
next_branch items first now branches own was rest v i d functions later put is back owns =
    let inside = stage_inside items first now branches own was rest v i put is in
    let left = put.left functions later back owns in
    record {
      back = subst (AreBack functions now) (branches_left branches i d later inside) left.1;
      owns = (row_of items branches was rest v i d functions is inside left.0).0;
    }

pub stage_more : {F V : Type 0} (items : V → List F) (first now after : List (Option F)) (branches : List Branch) (own was rest : List V) (v : V) (i : ℕ) (d : Branch) → PutStage items first now branches own was i → was ≡ v ∷ rest →
    ((functions : List F) (later : List ℕ) → AreBack functions now ((get_or branches i d).positions ++ later) → items v ≡ owned (get_or branches i d).positions functions → AreBack functions after later) → PutStage items first after branches own rest (i + 1)
stage_more items first now after branches own was rest v i d put is puts = record {
  count = let n = put.count in let l = ap length is in omega arith;
  left = λ functions later back owns.
      let inside = stage_inside items first now branches own was rest v i put is in
      let next = next_branch items first now branches own was rest v i d functions later put is back owns in (
        (row_of items branches was rest v i d functions is inside (put.left functions later back owns).0).1,
        puts functions (positions_of (drop (i + 1) branches) ++ later) next.back next.owns,
      );
}

pub stage_all : {F V : Type 0} (items : V → List F) (first now : List (Option F)) (branches : List Branch) (own rest : List V) (i : ℕ) (functions : List F) (later : List ℕ) → PutStage items first now branches own rest i → rest ≡ [] →
    AreBack functions first (positions_of branches ++ later) → map items own ≡ owned_in branches functions → AreBack functions now later
stage_all items first now branches own rest i functions later put none back is =
    let past : length branches ≤ i = let n = put.count in let l = ap length none in omega arith in
    subst (λ l. AreBack functions now (positions_of l ++ later)) (drop_all i branches past) (put.left functions later back is).1

-- this number of stages are put back
pub record PutAll {F V : Type 0} (items : V → List (List F)) (now : List (Option F)) (stages : List Stage) (count : ℕ) (owned rest : List V) (i : ℕ) : Type 0 where
  pub stages_left : i + length rest ≡ length stages
  pub left : (functions : List F) → length functions ≡ count → map items owned ≡ owned_by stages functions → (map items rest ≡ owned_by (drop i stages) functions) × AreBack functions now (all_positions (drop i stages))

abbrev pub SomeOwnedBy : {F V : Type 0} → (V → List (List F)) → List Stage → ℕ → List V → Type 0
SomeOwnedBy {F} items stages count owned = (functions : List F) × (length functions ≡ count) × (map items owned ≡ owned_by stages functions)

length_replicate : {A : Type 0} (n : ℕ) (x : A) → length (replicate n x) ≡ n
length_replicate zero x = refl
length_replicate (suc n) x = ap suc (length_replicate n x)

all_to_come : {F : Type 0} (functions : List F) (stages : List Stage) → EachStands stages (length functions) → AreBack functions (replicate (length functions) None) (all_positions stages)
all_to_come functions stages each = record {
  count = length_replicate (length functions) None;
  within = λ j q e. stands_within stages (length functions) each q (times_there (all_positions stages) j q e);
  there = λ k less. inr (let one = each.each_once (suc k) (omega arith) (omega arith) in omega arith);
}

pub all_none : {F V : Type 0} (items : V → List (List F)) (places : List (Option F)) (stages : List Stage) (count : ℕ) (owned rest : List V) → rest ≡ owned → places ≡ replicate count None → EachStands stages count → SomeOwnedBy items stages count owned → PutAll items places stages count owned rest 0
all_none {F} items places stages count owned rest all empty each some = record {
  stages_left = let a = ap length some.2 in let b = length-map owned items in let d = length-map stages (λ (s : Stage). owned_in s.branches some.0) in let e = ap length all in omega arith;
  left = λ functions many is. (
    ap (map items) all ∙ is,
    subst (λ l. AreBack functions l (all_positions stages)) (ap (λ n. replicate n None) many ∙ sym empty) (all_to_come functions stages (subst (EachStands stages) (sym many) each)),
  );
}

pub all_inside : {F V : Type 0} (items : V → List (List F)) (now : List (Option F)) (stages : List Stage) (count : ℕ) (owned was rest : List V) (v : V) (i : ℕ) → PutAll items now stages count owned was i → was ≡ v ∷ rest → i < length stages
all_inside items now stages count owned was rest v i put is = let n = put.stages_left in let l = ap length is in omega arith

stage_row : {F V : Type 0} (items : V → List (List F)) (stages : List Stage) (was rest : List V) (v : V) (i : ℕ) (d : Stage) (functions : List F) → was ≡ v ∷ rest → i < length stages → map items was ≡ owned_by (drop i stages) functions →
    (items v ≡ owned_in (get_or stages i d).branches functions) × (map items rest ≡ owned_by (drop (i + 1) stages) functions)
stage_row {F} items stages was rest v i d functions is inside all =
    let row : ◌≡◌ {A = List (List (List F))} (items v ∷ map items rest) (owned_in (get_or stages i d).branches functions ∷ owned_by (drop (i + 1) stages) functions) =
    ap (map items) (sym is) ∙ all ∙ ap (λ l. owned_by l functions) (drop_more stages i d inside) in
    (ap (λ l. get_or l 0 (items v)) row, ap (λ l. drop 1 l) row)

-- the next stage, and what its branches own
pub record NextStage {F : Type 0} (now : List (Option F)) (branches : List Branch) (later : List ℕ) (functions : List F) (own : List (List F)) : Type 0 where
  pub back : AreBack functions now (positions_of branches ++ later)
  pub owns : own ≡ owned_in branches functions

pub next_stage : {F V : Type 0} (items : V → List (List F)) (now : List (Option F)) (stages : List Stage) (count : ℕ) (owned was rest : List V) (v : V) (i : ℕ) (d : Stage) (functions : List F) → PutAll items now stages count owned was i → was ≡ v ∷ rest →
    length functions ≡ count → map items owned ≡ owned_by stages functions → NextStage now (get_or stages i d).branches (all_positions (drop (i + 1) stages)) functions (items v)
next_stage items now stages count owned was rest v i d functions put is many owns =
    let inside = all_inside items now stages count owned was rest v i put is in
    let left = put.left functions many owns in
    record {
      back = subst (AreBack functions now) (stages_left stages i d inside) left.1;
      owns = (stage_row items stages was rest v i d functions is inside left.0).0;
    }

pub all_more : {F V : Type 0} (items : V → List (List F)) (now after : List (Option F)) (stages : List Stage) (count : ℕ) (owned was rest : List V) (v : V) (i : ℕ) (d : Stage) → PutAll items now stages count owned was i → was ≡ v ∷ rest →
    ((functions : List F) (later : List ℕ) → AreBack functions now (positions_of (get_or stages i d).branches ++ later) → items v ≡ owned_in (get_or stages i d).branches functions → AreBack functions after later) → PutAll items after stages count owned rest (i + 1)
all_more items now after stages count owned was rest v i d put is puts = record {
  stages_left = let n = put.stages_left in let l = ap length is in omega arith;
  left = λ functions many owns.
      let inside = all_inside items now stages count owned was rest v i put is in
      let next = next_stage items now stages count owned was rest v i d functions put is many owns in (
        (stage_row items stages was rest v i d functions is inside (put.left functions many owns).0).1,
        puts functions (all_positions (drop (i + 1) stages)) next.back next.owns,
      );
}

-- all places are full
full_places : {F : Type 0} (functions : List F) (places : List (Option F)) → length places ≡ length functions → ((k : ℕ) → k < length functions → at_place places k ≡ slice_get functions k) → filter_map (λ p. p) places ≡ functions
full_places [] [] same each = refl
full_places [] (p ∷ places) same each = absurd (omega arith)
full_places (f ∷ functions) [] same each = absurd (omega arith)
full_places {F} (f ∷ functions) (p ∷ places) same each =
    ap (λ (o : Option F). cons_option o (filter_map (λ p. p) places)) (each 0 (omega arith)) ∙ ap (λ l. f ∷ l) (full_places functions places (omega arith) (λ k less. each (suc k) (omega arith)))

pub all_back : {F V : Type 0} (items : V → List (List F)) (now : List (Option F)) (stages : List Stage) (count : ℕ) (owned rest : List V) (i : ℕ) (functions : List F) → PutAll items now stages count owned rest i → rest ≡ [] → length functions ≡ count → map items owned ≡ owned_by stages functions →
    filter_map (λ p. p) now ≡ functions
all_back items now stages count owned rest i functions put none many is =
    let past : length stages ≤ i = let n = put.stages_left in let l = ap length none in omega arith in
    let back : AreBack functions now [] = subst (λ l. AreBack functions now (all_positions l)) (drop_all i stages past) (put.left functions many is).1 in
    full_places functions now back.count (λ k less. only back k less (back.there k less))
  where
    only : AreBack functions now [] → (k : ℕ) → k < length functions → (at_place now k ≡ slice_get functions k) ⊎ (1 ≤ times (suc k) []) → at_place now k ≡ slice_get functions k
    only back k less (inl same) = same
    only back k less (inr some) = absurd (omega arith)

pub nothing_left : {A : Type 0} (xs : List A) (n : ℕ) → n ≡ 0 → length xs ≡ n → xs ≡ []
nothing_left [] n none e = refl
nothing_left (x ∷ xs) n none e = absurd (omega arith)

-- the same places, lent, and the same branches
pub back_in : {F : Type 0} (functions : List F) (places lent : List (Option F)) (branches own : List Branch) (later : List ℕ) → lent ≡ places → branches ≡ own → AreBack functions places (positions_of own ++ later) → AreBack functions lent (positions_of branches ++ later)
back_in functions places lent branches own later lends same back = subst (λ l. AreBack functions l (positions_of branches ++ later)) (sym lends) (subst (λ l. AreBack functions places (positions_of l ++ later)) (sym same) back)
