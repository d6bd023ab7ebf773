-- Stages follow each other exactly when the five facts hold.
use Rattle.std.proofs.Common.{◌≡◌, ◌≢◌, ℕ, zero, suc, ◌+◌, ◌-◌, ◌<◌, ◌≤◌, Bool, true, false, ◌||◌, List, [], ◌∷◌, length, refl, sym, ap, ◌∙◌, subst, arith, Some, inl, inr}
use Rattle.std.specs.Prelude.{◌==◌, nat_le, nat_lt, count_by, flat_map, slice_get}
use Rattle.std.specs.List.{list_any, AllByRecursion}
use Rattle.std.proofs.lemmas.Bool.Decides.{nat_tests}
use Rattle.std.proofs.lemmas.List.Concat.{length-flat_map, flat_map-append}
use Rattle.action_profile.specs.declared.rights.Profile.{Profile}
use Rattle.graph_compile.specs.declared.graph.Branch.{Branch}
use Rattle.graph_compile.specs.declared.graph.Graph.{Graph}
use Rattle.graph_compile.specs.declared.graph.Stage.{Stage}
use Rattle.graph_compile.specs.Facts.{positions_of, all_positions, times, rises, AreRising, AreApart, IsBelow, IsLawful, IsFull}
use Rattle.graph_compile.specs.Lawful.{size, Rises, EndsBelow, Joins, Stands, IsLawfulStage, IsStaged}
use Rattle.graph_compile.specs.Parts.{stage_parts}
use Rattle.graph_compile.specs.Positions.{holds, stands}
use Rattle.graph_compile.specs.Stages.{is_forbidden}
use Rattle.graph_compile.proofs.Counting.{AllByRecursion-weaker, one_if, count-cons, count-none}
use Rattle.graph_compile.proofs.Following.{IsStaged-le}
use Rattle.graph_compile.proofs.Times.{inside, inside-yes, inside-low, inside-high, inside-cases, inside-both, times-append, times-stage, RisesFrom, IsParted, front-of}

-- a fact of each item, and of the item at a place
pub each-at : {X : Type 0} (P : X → Type 0) (xs : List X) → AllByRecursion P xs → (i : ℕ) (x : X) → slice_get xs i ≡ Some x → P x
each-at P [] h i x e = cc
each-at P (y ∷ ys) h zero x e = let same : y ≡ x = cc in subst P same h.0
each-at P (y ∷ ys) h (suc i) x e = each-at P ys h.1 i x e

pub each-from : {X : Type 0} (P : X → Type 0) (xs : List X) → ((i : ℕ) (x : X) → slice_get xs i ≡ Some x → P x) → AllByRecursion P xs
each-from P [] h = tt
each-from P (x ∷ xs) h = (h 0 x refl, each-from P xs (λ i y e. h (suc i) y e))

-- what passes at a place is counted, and what is counted passes at a place
pub count-at : {X : Type 0} (p : X → Bool) (xs : List X) (i : ℕ) (x : X) → slice_get xs i ≡ Some x → p x ≡ true → 1 ≤ count_by p xs
count-at p [] i x e h = cc
count-at p (y ∷ ys) zero x e h =
    let same : x ≡ y = cc in
    let here : one_if (p y) ≡ 1 = ap one_if (ap p (sym same) ∙ h) in
    omega (arith, count-cons p y ys, here)
count-at p (y ∷ ys) (suc i) x e h = let rest = count-at p ys i x e h in omega (arith, count-cons p y ys, rest)

pub count-two : {X : Type 0} (p : X → Bool) (xs : List X) (i j : ℕ) (x y : X) → i ≢ j → slice_get xs i ≡ Some x → slice_get xs j ≡ Some y → p x ≡ true → p y ≡ true → 2 ≤ count_by p xs
count-two p [] i j x y n e f h g = cc
count-two p (z ∷ zs) zero zero x y n e f h g = absurd (n refl)
count-two p (z ∷ zs) zero (suc j) x y n e f h g =
    let same : x ≡ z = cc in
    let here : one_if (p z) ≡ 1 = ap one_if (ap p (sym same) ∙ h) in
    let rest = count-at p zs j y f g in
    omega (arith, count-cons p z zs, here, rest)
count-two p (z ∷ zs) (suc i) zero x y n e f h g =
    let same : y ≡ z = cc in
    let here : one_if (p z) ≡ 1 = ap one_if (ap p (sym same) ∙ g) in
    let rest = count-at p zs i x e h in
    omega (arith, count-cons p z zs, here, rest)
count-two p (z ∷ zs) (suc i) (suc j) x y n e f h g =
    let rest = count-two p zs i j x y (λ q. n (ap suc q)) e f h g in
    omega (arith, count-cons p z zs, rest)

pub record PassesSomewhere {X : Type 0} (p : X → Bool) (xs : List X) : Type 0 where
  pub at : ℕ
  pub it : X
  pub there : slice_get xs at ≡ Some it
  pub passes : p it ≡ true

pub count-find : {X : Type 0} (p : X → Bool) (xs : List X) → 1 ≤ count_by p xs → PassesSomewhere p xs
count-find p [] h = absurd (omega arith)
count-find p (x ∷ xs) h =
    elim (p x) as (λ b. p x ≡ b → PassesSomewhere p (x ∷ xs)) [
      | true ↦ λ e. record { at = 0; it = x; there = refl; passes = e }
      | false ↦ λ e.
          let none : one_if (p x) ≡ 0 = ap one_if e in
          let rest = count-find p xs (omega (arith, h, count-cons p x xs, none)) in
          record { at = suc rest.at; it = rest.it; there = rest.there; passes = rest.passes }
    ] refl

pub any-count : {X : Type 0} (p : X → Bool) (xs : List X) → list_any p xs ≡ true → 1 ≤ count_by p xs
any-count p [] h = cc
any-count p (x ∷ xs) h =
    elim (p x) as (λ b. p x ≡ b → (b || list_any p xs) ≡ true → 1 ≤ count_by p (x ∷ xs)) [
      | true ↦ λ e i. let here : one_if (p x) ≡ 1 = ap one_if e in omega (arith, count-cons p x xs, here)
      | false ↦ λ e i. let rest = any-count p xs i in omega (arith, count-cons p x xs, rest)
    ] refl h

pub any-from_count : {X : Type 0} (p : X → Bool) (xs : List X) → 1 ≤ count_by p xs → list_any p xs ≡ true
any-from_count p [] h = absurd (omega arith)
any-from_count p (x ∷ xs) h =
    elim (p x) as (λ b. p x ≡ b → (b || list_any p xs) ≡ true) [
      | true ↦ λ e. refl
      | false ↦ λ e. let none : one_if (p x) ≡ 0 = ap one_if e in any-from_count p xs (omega (arith, h, count-cons p x xs, none))
    ] refl

-- from a stage's place in the chain

rises-lower : (low high : ℕ) (xs : List ℕ) → low ≤ high → rises high xs ≡ true → rises low xs ≡ true
rises-lower low high [] l h = refl
rises-lower low high (x ∷ xs) l h = grind (arith, nat_tests)

stage-rises : (chain : List Profile) (first next : ℕ) (bs : List Branch) → Stands chain first next bs → AllByRecursion RisesFrom bs
stage-rises chain first next bs s = AllByRecursion-weaker (Rises first) RisesFrom (λ b r. record { low = first; rise = r.rises }) bs s.rise

-- a stage has each position of its range once, and no other
stage-times : (chain : List Profile) (first next : ℕ) (bs : List Branch) → Stands chain first next bs → (q : ℕ) → times q (positions_of bs) ≡ inside first next q
stage-times chain first next bs s q =
    let counted = times-stage q bs (stage-rises chain first next bs s) in
    elim (nat_lt q first) as (λ a. nat_lt q first ≡ a → times q (positions_of bs) ≡ inside first next q) [
      | true ↦ λ e.
          let less : q < first = grind (arith, nat_tests) in
          let none = count-none (holds q) bs (AllByRecursion-weaker (Rises first) (λ b. holds q b ≡ false) (λ b r. not_low first q b less r) bs s.rise) in
          counted ∙ none ∙ sym (inside-low first next q less)
      | false ↦ λ e.
          let more : first ≤ q = grind (arith, nat_tests) in
          elim (nat_lt q next) as (λ a. nat_lt q next ≡ a → times q (positions_of bs) ≡ inside first next q) [
            | true ↦ λ f. let less : q < next = grind (arith, nat_tests) in counted ∙ s.once q more less ∙ sym (inside-yes first next q more less)
            | false ↦ λ f.
                let above : next ≤ q = grind (arith, nat_tests) in
                let none = count-none (holds q) bs (AllByRecursion-weaker (EndsBelow next) (λ b. holds q b ≡ false) (λ b x. not_high q b above x) bs s.end) in
                counted ∙ none ∙ sym (inside-high first next q above)
          ] refl
    ] refl
  where
    not_high : (q : ℕ) (b : Branch) → next ≤ q → EndsBelow next b → holds q b ≡ false
    not_high q b a x = elim (holds q b) as (λ t. holds q b ≡ t → t ≡ false) [ true ↦ λ i. let l = x.below q i in absurd (omega (arith, l, a)) | false ↦ λ i. refl ] refl

    low_out : (low q : ℕ) (xs : List ℕ) → q < low → rises low xs ≡ true → list_any (λ x. x == q) xs ≡ false
    low_out low q [] l h = refl
    low_out low q (x ∷ xs) l h =
        let more : low ≤ x = grind (arith, nat_tests) in
        let other : (x == q) ≡ false = grind (arith, nat_tests) in
        let rest = low_out (suc x) q xs (omega arith) (grind arith) in
        grind arith

    not_low : (first q : ℕ) (b : Branch) → q < first → Rises first b → holds q b ≡ false
    not_low first q b l r = low_out first q b.positions l r.rises

pub stage-apart : (chain : List Profile) (first next : ℕ) (bs : List Branch) → Stands chain first next bs → AreApart chain bs
stage-apart chain first next bs s j k b c n e f q r i h less =
    elim (is_forbidden chain q r) as (λ t. is_forbidden chain q r ≡ t → t ≡ false) [
      | true ↦ λ t.
          let counted = times-stage q bs (stage-rises chain first next bs s) in
          let some = count-at (holds q) bs j b e i in
          let range = stage-times chain first next bs s q in
          let bounds = inside-cases first next q (let z : inside first next q ≢ 0 = omega (arith, range, counted, some) in z) in
          let joined = each-at (Joins chain first) bs s.join k c f in
          let both : holds q c ≡ true = joined.joins q r h bounds.0 less t in
          let two = count-two (holds q) bs j k b c n e f i both in
          let one = s.once q bounds.0 bounds.1 in
          absurd (omega (arith, two, one))
      | false ↦ λ t. refl
    ] refl

-- from the stages' places in the chain

pub times-stages : (q : ℕ) (s : Stage) (stages : List Stage) → times q (all_positions (s ∷ stages)) ≡ times q (positions_of s.branches) + times q (all_positions stages)
times-stages q s stages =
    ap (times q) (flat_map-append (λ (b : Branch). b.positions) s.branches (flat_map (λ (t : Stage). t.branches) stages))
    ∙ times-append q (positions_of s.branches) (all_positions stages)

all-times : (chain : List Profile) (first : ℕ) (stages : List Stage) (next : ℕ) → IsStaged chain first stages next → (q : ℕ) → times q (all_positions stages) ≡ inside first next q
unfolding IsStaged
all-times chain first [] next h q =
    elim (nat_lt q first) as (λ a. nat_lt q first ≡ a → 0 ≡ inside first next q) [
      | true ↦ λ e. sym (inside-low first next q (grind (arith, nat_tests)))
      | false ↦ λ e. let more : first ≤ q = grind (arith, nat_tests) in sym (inside-high first next q (omega (arith, h, more)))
    ] refl
all-times chain first (s ∷ stages) next h q =
    let mid = first + size s.branches in
    let here = stage-times chain first mid s.branches h.0.stands q in
    let rest = all-times chain mid stages next h.1 q in
    let last = IsStaged-le chain mid stages next h.1 in
    let both = inside-both first mid next q (omega arith) last in
    omega (arith, times-stages q s stages, here, rest, both)

-- the place of the stage in the chain
record IsPlaced (chain : List Profile) (low high : ℕ) (s : Stage) : Type 0 where
  pub first : ℕ
  pub from : low ≤ first
  pub to : first + size s.branches ≤ high
  pub lawful : IsLawfulStage chain first s

place-of : (chain : List Profile) (first : ℕ) (stages : List Stage) (next : ℕ) → IsStaged chain first stages next → (i : ℕ) (s : Stage) → slice_get stages i ≡ Some s → IsPlaced chain first next s
unfolding IsStaged
place-of chain first [] next h i s e = cc
place-of chain first (t ∷ stages) next h zero s e =
    let same : t ≡ s = cc in
    subst (IsPlaced chain first next) same (record { first = first; from = omega arith; to = IsStaged-le chain (first + size t.branches) stages next h.1; lawful = h.0 })
place-of chain first (t ∷ stages) next h (suc i) s e =
    let p = place-of chain (first + size t.branches) stages next h.1 i s e in
    let low = p.from in
    record { first = p.first; from = omega (arith, low); to = p.to; lawful = p.lawful }

-- a position that is in a stage is within the stage's range
stands-inside : (chain : List Profile) (first : ℕ) (s : Stage) → IsLawfulStage chain first s → (q : ℕ) → stands q s ≡ true → (first ≤ q) × (q < first + size s.branches)
stands-inside chain first s l q i =
    let st = l.stands in
    let next = first + size s.branches in
    let some = any-count (holds q) s.branches i in
    let counted = times-stage q s.branches (stage-rises chain first next s.branches st) in
    let range = stage-times chain first next s.branches st q in
    inside-cases first next q (let z : inside first next q ≢ 0 = omega (arith, range, counted, some) in z)

all-below : (chain : List Profile) (first : ℕ) (stages : List Stage) (next : ℕ) → IsStaged chain first stages next → (i j : ℕ) (s t : Stage) → i < j → slice_get stages i ≡ Some s → slice_get stages j ≡ Some t → (q r : ℕ) → stands q s ≡ true → stands r t ≡ true → q < r
unfolding IsStaged
all-below chain first [] next h i j s t l e f q r a b = cc
all-below chain first (u ∷ stages) next h i zero s t l e f q r a b = absurd (omega arith)
all-below chain first (u ∷ stages) next h zero (suc j) s t l e f q r a b =
    let same : u ≡ s = cc in
    let P : Stage → Type 0 = λ v. stands q v ≡ true in
    let here = stands-inside chain first u h.0 q (subst P (sym same) a) in
    let p = place-of chain (first + size u.branches) stages next h.1 j t f in
    let there = stands-inside chain p.first t p.lawful r b in
    let low = p.from in
    omega (arith, here.1, there.0, low)
all-below chain first (u ∷ stages) next h (suc i) (suc j) s t l e f q r a b = all-below chain (first + size u.branches) stages next h.1 i j s t (omega arith) e f q r a b

pub lawful-from_staged : (graph : Graph) (chain : List Profile) → IsStaged chain 1 graph.stages (suc (length chain)) → IsLawful graph chain
lawful-from_staged graph chain h = record {
  each_once = λ q l u. all-times chain 1 graph.stages (suc (length chain)) h q ∙ inside-yes 1 (suc (length chain)) q l (omega arith);
  no_other = λ q out. all-times chain 1 graph.stages (suc (length chain)) h q ∙ (elim out [ inl l ↦ inside-low 1 (suc (length chain)) q l | inr u ↦ inside-high 1 (suc (length chain)) q (omega arith) ]);
  rising = λ i s e j b f.
      let p = place-of chain 1 graph.stages (suc (length chain)) h i s e in
      let st = p.lawful.stands in
      let r = each-at (Rises p.first) s.branches st.rise j b f in
      rises-lower 0 p.first b.positions (omega arith) r.rises;
  below = λ i s t e f q r a b. all-below chain 1 graph.stages (suc (length chain)) h i (suc i) s t (omega arith) e f q r a b;
  apart = λ i s e.
      let p = place-of chain 1 graph.stages (suc (length chain)) h i s e in
      stage-apart chain p.first (p.first + size s.branches) s.branches p.lawful.stands;
  parts = λ i s e. (place-of chain 1 graph.stages (suc (length chain)) h i s e).lawful.parts;
}

-- from the five facts

-- the facts, of stages from one position up to another
record HasFacts (chain : List Profile) (first last : ℕ) (stages : List Stage) : Type 0 where
  pub order : first ≤ last
  pub each : (q : ℕ) → times q (all_positions stages) ≡ inside first last q
  pub rising : (i : ℕ) (s : Stage) → slice_get stages i ≡ Some s → AreRising s.branches
  pub below : (i j : ℕ) (s t : Stage) → i < j → slice_get stages i ≡ Some s → slice_get stages j ≡ Some t → (q r : ℕ) → stands q s ≡ true → stands r t ≡ true → q < r
  pub apart : (i : ℕ) (s : Stage) → slice_get stages i ≡ Some s → AreApart chain s.branches
  pub parts : (i : ℕ) (s : Stage) → slice_get stages i ≡ Some s → s.parts ≡ stage_parts chain s.branches

pub rising-each : (bs : List Branch) → AreRising bs → AllByRecursion RisesFrom bs
rising-each bs r = each-from RisesFrom bs (λ j b e. record { low = 0; rise = r j b e })

-- a position that is counted is in some stage
stands-counted : (q : ℕ) (s : Stage) → AreRising s.branches → times q (positions_of s.branches) ≢ 0 → stands q s ≡ true
stands-counted q s r n =
    let counted = times-stage q s.branches (rising-each s.branches r) in
    any-from_count (holds q) s.branches (omega (arith, counted, n))

all-find : (q : ℕ) (stages : List Stage) → ((i : ℕ) (s : Stage) → slice_get stages i ≡ Some s → AreRising s.branches) → times q (all_positions stages) ≢ 0 → PassesSomewhere (stands q) stages
all-find q [] r n = absurd (n refl)
all-find q (s ∷ stages) r n =
    elim (times q (positions_of s.branches) == 0) as (λ b. (times q (positions_of s.branches) == 0) ≡ b → PassesSomewhere (stands q) (s ∷ stages)) [
      | true ↦ λ e.
          let none : times q (positions_of s.branches) ≡ 0 = grind (arith, nat_tests) in
          let sum = times-stages q s stages in
          let some : times q (all_positions stages) ≢ 0 = λ z. n (omega (arith, sum, none, z)) in
          let rest = all-find q stages (λ i t e. r (suc i) t e) some in
          record { at = suc rest.at; it = rest.it; there = rest.there; passes = rest.passes }
      | false ↦ λ e.
          let some : times q (positions_of s.branches) ≢ 0 = grind (arith, nat_tests) in
          record { at = 0; it = s; there = refl; passes = stands-counted q s (r 0 s refl) some }
    ] refl

facts-parted : (chain : List Profile) (first last : ℕ) (s : Stage) (stages : List Stage) → HasFacts chain first last (s ∷ stages) → IsParted first last (positions_of s.branches) (all_positions stages)
facts-parted chain first last s stages h = record {
  order = h.order;
  each = λ q. sym (times-stages q s stages) ∙ h.each q;
  below = λ q r n m.
      let there = all-find r stages (λ i t e. h.rising (suc i) t e) m in
      h.below 0 (suc there.at) s there.it (omega arith) refl there.there q r (stands-counted q s (h.rising 0 s refl) n) there.passes;
}

rises-higher : (low : ℕ) (xs : List ℕ) → rises 0 xs ≡ true → ((q : ℕ) → list_any (λ x. x == q) xs ≡ true → low ≤ q) → rises low xs ≡ true
rises-higher low [] h f = refl
rises-higher low (x ∷ xs) h f =
    let here : (x == x) ≡ true = grind (arith, nat_tests) in
    let least : low ≤ x = f x (grind arith) in
    grind (arith, nat_tests)

-- a stage in which each position of a range occurs once, and no other
facts-stand : (chain : List Profile) (first : ℕ) (bs : List Branch) → ((q : ℕ) → times q (positions_of bs) ≡ inside first (first + size bs) q) → AreRising bs → AreApart chain bs → Stands chain first (first + size bs) bs
facts-stand chain first bs t r a = record {
  count = refl;
  rise = each-from (Rises first) bs (λ j b e. record { rises = rises-higher first b.positions (r j b e) (λ q i. (bounds q j b e i).0) });
  end = each-from (EndsBelow (first + size bs)) bs (λ j b e. record { below = λ q i. (bounds q j b e i).1 });
  once = λ q l u. let c = counted q in let n = t q in let one = inside-yes first (first + size bs) q l u in omega (arith, c, n, one);
  join = each-from (Joins chain first) bs (λ j b e. record { joins = λ q s i l u f. joined j b e q s i l u f });
}
  where
    counted : (q : ℕ) → times q (positions_of bs) ≡ count_by (holds q) bs
    counted q = times-stage q bs (rising-each bs r)

    bounds : (q j : ℕ) (b : Branch) → slice_get bs j ≡ Some b → holds q b ≡ true → (first ≤ q) × (q < first + size bs)
    bounds q j b e i =
        let some = count-at (holds q) bs j b e i in
        let c = counted q in
        let n = t q in
        inside-cases first (first + size bs) q (let z : inside first (first + size bs) q ≢ 0 = omega (arith, c, n, some) in z)

    joined : (j : ℕ) (b : Branch) → slice_get bs j ≡ Some b → (q s : ℕ) → holds s b ≡ true → first ≤ q → q < s → is_forbidden chain q s ≡ true → holds q b ≡ true
    joined j b e q s i l u f =
        let above = (bounds s j b e i).1 in
        let one = inside-yes first (first + size bs) q l (omega (arith, u, above)) in
        let c = counted q in
        let n = t q in
        let there = count-find (holds q) bs (omega (arith, c, n, one)) in
        elim (there.at == j) as (λ x. (there.at == j) ≡ x → holds q b ≡ true) [
          | true ↦ λ w.
              let same : there.at ≡ j = grind (arith, nat_tests) in
              let P : ℕ → Type 0 = λ k. slice_get bs k ≡ Some there.it in
              let got : slice_get bs j ≡ Some there.it = subst P same there.there in
              let one_branch : there.it ≡ b = cc in
              let Q : Branch → Type 0 = λ y. holds q y ≡ true in
              subst Q one_branch there.passes
          | false ↦ λ w.
              let other : there.at ≢ j = grind (arith, nat_tests) in
              let not_so = a there.at j there.it b other there.there e q s there.passes i u in
              absurd (grind (arith, f, not_so))
        ] refl

facts-staged : (chain : List Profile) (first last : ℕ) (stages : List Stage) → HasFacts chain first last stages → IsStaged chain first stages last
unfolding IsStaged
facts-staged chain first last [] h =
    let o = h.order in
    elim (nat_lt first last) as (λ b. nat_lt first last ≡ b → first ≡ last) [
      | true ↦ λ e. let less : first < last = grind (arith, nat_tests) in let none = h.each first in let one = inside-yes first last first (omega arith) less in absurd (omega (arith, none, one))
      | false ↦ λ e. let more : last ≤ first = grind (arith, nat_tests) in omega (arith, o, more)
    ] refl
facts-staged chain first last (s ∷ stages) h =
    let long : length (positions_of s.branches) ≡ size s.branches = length-flat_map (λ (b : Branch). b.positions) s.branches in
    let o = h.order in
    let n : ℕ = last - first in
    let front = front-of n first last (positions_of s.branches) (all_positions stages) (omega (arith, o)) (facts-parted chain first last s stages h) in
    let P : ℕ → Type 0 = λ k. (q : ℕ) → times q (positions_of s.branches) ≡ inside first (first + k) q in
    let R : ℕ → Type 0 = λ k. (q : ℕ) → times q (all_positions stages) ≡ inside (first + k) last q in
    let O : ℕ → Type 0 = λ k. first + k ≤ last in
    let st = facts-stand chain first s.branches (subst P long front.front) (h.rising 0 s refl) (h.apart 0 s refl) in (
      record { stands = st; parts = h.parts 0 s refl },
      facts-staged chain (first + size s.branches) last stages (record {
        order = subst O long front.room;
        each = subst R long front.rest;
        rising = λ i t e. h.rising (suc i) t e;
        below = λ i j t u l e f q r a b. h.below (suc i) (suc j) t u (omega arith) e f q r a b;
        apart = λ i t e. h.apart (suc i) t e;
        parts = λ i t e. h.parts (suc i) t e;
      }),
    )

-- if each stage is below the next and each has a function, each is below all that follow
record HasFunction (s : Stage) : Type 0 where
  pub at : ℕ
  pub here : stands at s ≡ true

rise-through : (stages : List Stage) → ((i : ℕ) (s : Stage) → slice_get stages i ≡ Some s → HasFunction s) →
    ((i : ℕ) (s t : Stage) → slice_get stages i ≡ Some s → slice_get stages (suc i) ≡ Some t → IsBelow s t) →
    (i j : ℕ) (s t : Stage) → i < j → slice_get stages i ≡ Some s → slice_get stages j ≡ Some t → IsBelow s t
rise-through [] full next i j s t l e f q r a b = cc
rise-through (u ∷ []) full next i zero s t l e f q r a b = absurd (omega arith)
rise-through (u ∷ []) full next i (suc j) s t l e f q r a b = cc
rise-through (u ∷ v ∷ stages) full next i zero s t l e f q r a b = absurd (omega arith)
rise-through (u ∷ v ∷ stages) full next (suc i) (suc j) s t l e f q r a b =
    rise-through (v ∷ stages) (λ k. full (suc k)) (λ k. next (suc k)) i j s t (omega arith) e f q r a b
rise-through (u ∷ v ∷ stages) full next zero (suc zero) s t l e f q r a b = next zero s t e f q r a b
rise-through (u ∷ v ∷ stages) full next zero (suc (suc j)) s t l e f q r a b =
    let some = full 1 v refl in
    let first = next zero s v e refl q some.at a some.here in
    let later = rise-through (v ∷ stages) (λ k. full (suc k)) (λ k. next (suc k)) zero (suc j) v t (omega arith) refl f some.at r some.here b in
    omega (arith, first, later)

first-stands : (s : Stage) → 0 < length s.branches → ((j : ℕ) (b : Branch) → slice_get s.branches j ≡ Some b → 0 < length b.positions) → HasFunction s
first-stands s l f = opened s.branches l (λ b e. f 0 b e)
  where
    in_first : (b : Branch) → 0 < length b.positions → (x : ℕ) × (holds x b ≡ true)
    in_first b l = in_list b.positions l
      where
        in_list : (xs : List ℕ) → 0 < length xs → (x : ℕ) × (list_any (λ y. y == x) xs ≡ true)
        in_list [] l = absurd (omega arith)
        in_list (x ∷ xs) l = (x, let same : (x == x) ≡ true = grind (arith, nat_tests) in grind arith)

    opened : (bs : List Branch) → 0 < length bs → ((b : Branch) → slice_get bs 0 ≡ Some b → 0 < length b.positions) → HasFunction (record s { branches = bs })
    opened [] l f = absurd (omega arith)
    opened (b ∷ bs) l f =
        let one = in_first b (f b refl) in
        let here : holds one.0 b ≡ true = one.1 in
        record { at = one.0; here = grind (arith, here) }

-- so every position of a stage is below those of all stages that follow
pub lawful-rises : (graph : Graph) (chain : List Profile) → IsFull graph → IsLawful graph chain → (i j : ℕ) (s t : Stage) → i < j → slice_get graph.stages i ≡ Some s → slice_get graph.stages j ≡ Some t → IsBelow s t
lawful-rises graph chain full lawful = rise-through graph.stages (λ i s e. first-stands s (full.branches i s e) (λ j b g. full.functions i j s b e g)) lawful.below

pub staged-from_lawful : (graph : Graph) (chain : List Profile) → IsFull graph → IsLawful graph chain → IsStaged chain 1 graph.stages (suc (length chain))
staged-from_lawful graph chain full h = facts-staged chain 1 (suc (length chain)) graph.stages (record {
  order = omega arith;
  each = λ q. elim (nat_lt q 1) as (λ b. nat_lt q 1 ≡ b → times q (all_positions graph.stages) ≡ inside 1 (suc (length chain)) q) [
    | true ↦ λ e. let less : q < 1 = grind (arith, nat_tests) in h.no_other q (inl less) ∙ sym (inside-low 1 (suc (length chain)) q less)
    | false ↦ λ e.
        let more : 1 ≤ q = grind (arith, nat_tests) in
        elim (nat_le q (length chain)) as (λ b. nat_le q (length chain) ≡ b → times q (all_positions graph.stages) ≡ inside 1 (suc (length chain)) q) [
          | true ↦ λ f. let within : q ≤ length chain = grind (arith, nat_tests) in h.each_once q more within ∙ sym (inside-yes 1 (suc (length chain)) q more (omega arith))
          | false ↦ λ f. let out : length chain < q = grind (arith, nat_tests) in h.no_other q (inr out) ∙ sym (inside-high 1 (suc (length chain)) q (omega arith))
        ] refl
  ] refl;
  rising = h.rising;
  below = lawful-rises graph chain full h;
  apart = h.apart;
  parts = h.parts;
})
