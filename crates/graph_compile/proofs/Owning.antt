-- Which branch owns a position of a stage.
use Rattle.std.proofs.Common.{◌≡◌, ℕ, zero, suc, ◌+◌, ◌<◌, ◌≤◌, Bool, true, false, ◌||◌, not, cond, List, [], ◌∷◌, length, map, refl, sym, ap, ◌∙◌, subst, arith, Some}
use Rattle.std.specs.Prelude.{◌==◌, Option, filter, count_by, slice_get}
use Rattle.std.specs.Option.{option_map_or}
use Rattle.std.specs.List.{list_any, range_with_len, position_or_len}
use Rattle.std.proofs.lemmas.Bool.Decides.{nat_tests}
use Rattle.std.proofs.lemmas.List.{length-map}
use Rattle.std.proofs.lemmas.Option.{slice_get_within}
use Rattle.packet_fields.specs.declared.field.Field.{Field}
use Rattle.action_profile.specs.FieldSets.{has}
use Rattle.action_profile.specs.Profiles.{reads_of, writes_of}
use Rattle.action_profile.specs.declared.parts.Touch.{Touch}
use Rattle.action_profile.specs.declared.parts.StageParts.{StageParts}
use Rattle.action_profile.specs.declared.rights.Profile.{Profile}
use Rattle.dependency_table.specs.Table.{pair_of, is_allowed}
use Rattle.graph_compile.specs.declared.graph.Branch.{Branch}
use Rattle.graph_compile.specs.declared.graph.Stage.{Stage}
use Rattle.graph_compile.specs.Facts.{rises}
use Rattle.graph_compile.specs.Lawful.{size, Rises, EndsBelow, Stands, IsLawfulStage}
use Rattle.graph_compile.specs.Owners.{owner, HasOwners}
use Rattle.graph_compile.specs.Parts.{profile_at, reads_at, writes_at, branch_reads, branch_writes, touch_of, touches_of, stage_parts}
use Rattle.graph_compile.specs.Positions.{holds}
use Rattle.graph_compile.specs.Stages.{is_forbidden, is_forbidden_pair}
use Rattle.graph_compile.proofs.Counting.{one_if, count-cons, any-at}
use Rattle.graph_compile.proofs.FiveFacts.{each-at, count-at, stage-apart}
use Rattle.graph_compile.proofs.Touches.{touch-reads, touch-writes}

get-map : {X Y : Type 0} (f : X → Y) (xs : List X) (i : ℕ) (x : X) → slice_get xs i ≡ Some x → slice_get (map f xs) i ≡ Some (f x)
get-map f [] i x e = cc
get-map f (y ∷ ys) zero x e = let same : y ≡ x = cc in ap (λ z. Some (f z)) same
get-map f (y ∷ ys) (suc i) x e = get-map f ys i x e

-- if exactly one passes, it is the first
first-at : (p : Branch → Bool) (xs : List Branch) (i : ℕ) (x : Branch) → slice_get xs i ≡ Some x → p x ≡ true → count_by p xs ≡ 1 → position_or_len p xs ≡ i
first-at p [] i x e h o = cc
first-at p (y ∷ ys) zero x e h o =
    let same : x ≡ y = cc in
    let here : p y ≡ true = ap p (sym same) ∙ h in
    rw here refl
first-at p (y ∷ ys) (suc i) x e h o =
    elim (p y) as (λ b. p y ≡ b → cond (not b) (1 + position_or_len p ys) 0 ≡ suc i) [
      | true ↦ λ t.
          let more = count-at p ys i x e h in
          let one : one_if (p y) ≡ 1 = ap one_if t in
          absurd (omega (arith, count-cons p y ys, more, one, o))
      | false ↦ λ t.
          let none : one_if (p y) ≡ 0 = ap one_if t in
          let rest = first-at p ys i x e h (omega (arith, count-cons p y ys, none, o)) in
          omega (arith, rest)
    ] refl

record PassesFirst (p : Branch → Bool) (xs : List Branch) : Type 0 where
  pub it : Branch
  pub there : slice_get xs (position_or_len p xs) ≡ Some it
  pub passes : p it ≡ true

first-next : (p : Branch → Bool) (x : Branch) (xs : List Branch) → p x ≡ false → PassesFirst p xs → PassesFirst p (x ∷ xs)
first-next p x xs t rest =
    let next : position_or_len p (x ∷ xs) ≡ suc (position_or_len p xs) = ap (λ (b : Bool). cond (not b) (1 + position_or_len p xs) 0) t ∙ one_more in
    let P : ℕ → Type 0 = λ k. slice_get (x ∷ xs) k ≡ Some rest.it in
    record { it = rest.it; there = subst P (sym next) rest.there; passes = rest.passes }
  where
    one_more : 1 + position_or_len p xs ≡ suc (position_or_len p xs)
    one_more = omega arith

first-here : (p : Branch → Bool) (x : Branch) (xs : List Branch) → p x ≡ true → PassesFirst p (x ∷ xs)
first-here p x xs t =
    let none : position_or_len p (x ∷ xs) ≡ 0 = ap (λ (b : Bool). cond (not b) (1 + position_or_len p xs) 0) t in
    let P : ℕ → Type 0 = λ k. slice_get (x ∷ xs) k ≡ Some x in
    record { it = x; there = subst P (sym none) refl; passes = t }

first-of : (p : Branch → Bool) (xs : List Branch) → 1 ≤ count_by p xs → PassesFirst p xs
first-of p [] h = absurd (omega arith)
first-of p (x ∷ xs) h =
    elim (p x) as (λ b. p x ≡ b → PassesFirst p (x ∷ xs)) [
      | true ↦ λ t. first-here p x xs t
      | false ↦ λ t.
          let none : one_if (p x) ≡ 0 = ap one_if t in
          first-next p x xs t (first-of p xs (omega (arith, count-cons p x xs, none, h)))
    ] refl

-- numbers that rise are those of their range that are among them

below-out : (low q : ℕ) (xs : List ℕ) → q < low → rises low xs ≡ true → list_any (λ x. x == q) xs ≡ false
below-out low q [] l h = refl
below-out low q (x ∷ xs) l h =
    let more : low ≤ x = grind (arith, nat_tests) in
    let other : (x == q) ≡ false = grind (arith, nat_tests) in
    let rest = below-out (suc x) q xs (omega arith) (grind arith) in
    grind arith

rising-filter : (p : ℕ → Bool) (n low : ℕ) (xs : List ℕ) → rises low xs ≡ true → ((q : ℕ) → list_any (λ x. x == q) xs ≡ true → q < low + n) →
    ((q : ℕ) → low ≤ q → q < low + n → p q ≡ list_any (λ x. x == q) xs) → xs ≡ filter p (range_with_len low n)
rising-filter p zero low [] h b a = refl
rising-filter p zero low (x ∷ xs) h b a =
    let here : (x == x) ≡ true = grind (arith, nat_tests) in
    let less = b x (grind arith) in
    let more : low ≤ x = grind (arith, nat_tests) in
    absurd (omega (arith, less, more))
rising-filter p (suc n) low [] h b a =
    let none : p low ≡ false = a low (omega arith) (omega arith) in
    rw none (rising-filter p n (low + 1) [] refl (λ q i. cc) (λ q l u. a q (omega arith) (omega arith)))
rising-filter p (suc n) low (x ∷ xs) h b a =
    let more : low ≤ x = grind (arith, nat_tests) in
    let after : rises (suc x) xs ≡ true = grind arith in
    elim (x == low) as (λ t. (x == low) ≡ t → x ∷ xs ≡ filter p (range_with_len low (suc n))) [
      | true ↦ λ t.
          let same : x ≡ low = grind (arith, nat_tests) in
          let here : p low ≡ true = a low (omega arith) (omega arith) ∙ ap (λ (s : Bool). s || list_any (λ x. x == low) xs) t in
          let next : suc x ≡ low + 1 = omega (arith, same) in
          let P : ℕ → Type 0 = λ k. rises k xs ≡ true in
          let rest = rising-filter p n (low + 1) xs (subst P next after)
          (λ q i. let l = b q (grind arith) in omega (arith, l))
          (λ q l u. let other : (x == q) ≡ false = grind (arith, nat_tests) in a q (omega arith) (omega arith) ∙ ap (λ (s : Bool). s || list_any (λ x. x == q) xs) other) in
          rw here (ap (λ (k : ℕ). k ∷ xs) same ∙ ap (λ (ys : List ℕ). low ∷ ys) rest)
      | false ↦ λ t.
          let higher : low + 1 ≤ x = grind (arith, nat_tests) in
          let rest_out = below-out (suc x) low xs (omega arith) after in
          let none : p low ≡ false = a low (omega arith) (omega arith) ∙ (grind arith) in
          let up : rises (low + 1) (x ∷ xs) ≡ true = grind (arith, nat_tests) in
          rw none (rising-filter p n (low + 1) (x ∷ xs) up (λ q i. let l = b q i in omega (arith, l)) (λ q l u. a q (omega arith) (omega arith)))
    ] refl

stage-listed : (chain : List Profile) (first : ℕ) (bs : List Branch) → Stands chain first (first + size bs) bs → (j : ℕ) (b : Branch) → slice_get bs j ≡ Some b → b.positions ≡ filter (λ q. owner bs q == j) (range_with_len first (size bs))
stage-listed chain first bs s j b e =
    rising-filter (λ q. owner bs q == j) (size bs) first b.positions (each-at (Rises first) bs s.rise j b e).rises (λ q i. (each-at (EndsBelow (first + size bs)) bs s.end j b e).below q i) (λ q l u. owns q l u)
  where
    owns : (q : ℕ) → first ≤ q → q < first + size bs → (owner bs q == j) ≡ holds q b
    owns q l u =
        let one = s.once q l u in
        elim (holds q b) as (λ t. holds q b ≡ t → (owner bs q == j) ≡ t) [
          | true ↦ λ t. let same = first-at (holds q) bs j b e t one in grind (arith, nat_tests, same)
          | false ↦ λ t.
              elim (owner bs q == j) as (λ w. (owner bs q == j) ≡ w → w ≡ false) [
                | true ↦ λ w.
                    let same : owner bs q ≡ j = grind (arith, nat_tests) in
                    let f = first-of (holds q) bs (omega (arith, one)) in
                    let P : ℕ → Type 0 = λ k. slice_get bs k ≡ Some f.it in
                    let got : slice_get bs j ≡ Some f.it = subst P same f.there in
                    let it : f.it ≡ b = cc in
                    let held : holds q b ≡ true = ap (holds q) (sym it) ∙ f.passes in
                    absurd (grind (arith, held, t))
                | false ↦ λ w. refl
              ] refl
        ] refl

allowed : (chain : List Profile) (q r : ℕ) (x y : Profile) → profile_at chain q ≡ Some x → profile_at chain r ≡ Some y → is_forbidden chain q r ≡ false → is_allowed (pair_of x y) ≡ true
unfolding is_forbidden
allowed chain q r x y e f h =
    let P : Option Profile → Option Profile → Type 0 = λ a b. is_forbidden_pair a b ≡ false in
    let one : is_forbidden_pair (Some x) (profile_at chain r) ≡ false = subst (λ a. P a (profile_at chain r)) e h in
    let both : not (is_allowed (pair_of x y)) ≡ false = subst (λ b. P (Some x) b) f one in
    not_no (is_allowed (pair_of x y)) both
  where
    not_no : (a : Bool) → not a ≡ false → a ≡ true
    not_no true h = refl
    not_no false h = cc

-- a function of a branch reads what its branch reads
branch-reads : (chain : List Profile) (b : Branch) (q : ℕ) (x : Profile) (f : Field) → holds q b ≡ true → profile_at chain q ≡ Some x → reads_of x f ≡ true → has (touch_of chain b).reads f ≡ true
unfolding branch_reads
branch-reads chain b q x f i e r =
    touch-reads chain b f ∙ any-at (reads_at chain f) b.positions q i (ap (λ o. option_map_or (λ p. reads_of p f) o false) e ∙ r)

branch-writes : (chain : List Profile) (b : Branch) (q : ℕ) (x : Profile) (f : Field) → holds q b ≡ true → profile_at chain q ≡ Some x → writes_of x f ≡ true → has (touch_of chain b).writes f ≡ true
unfolding branch_writes
branch-writes chain b q x f i e w =
    touch-writes chain b f ∙ any-at (writes_at chain f) b.positions q i (ap (λ o. option_map_or (λ p. writes_of p f) o false) e ∙ w)

parts-touches : (chain : List Profile) (bs : List Branch) (parts : StageParts) → parts ≡ stage_parts chain bs → parts.touches ≡ touches_of chain bs
unfolding stage_parts
parts-touches chain bs parts e = ap (λ (p : StageParts). p.touches) e

touch-at : (chain : List Profile) (bs : List Branch) (parts : StageParts) → parts ≡ stage_parts chain bs → (i : ℕ) (b : Branch) (t : Touch) → slice_get bs i ≡ Some b → slice_get parts.touches i ≡ Some t → touch_of chain b ≡ t
touch-at chain bs parts e i b t f g =
    let made = parts-touches chain bs parts e in
    let P : List Touch → Type 0 = λ ts. slice_get ts i ≡ Some t in
    let got : slice_get (map (touch_of chain) bs) i ≡ Some t = subst P made g in
    let mapped = get-map (touch_of chain) bs i b f in
    cc

same_length : (chain : List Profile) (bs : List Branch) → length (touches_of chain bs) ≡ length bs
same_length chain bs = simp length-map

pub stage-owners : (chain : List Profile) (first : ℕ) (stage : Stage) → IsLawfulStage chain first stage → HasOwners chain first stage
stage-owners chain first stage l =
    let bs = stage.branches in
    let s = l.stands in
    record {
      owned = λ q low high. let f = first-of (holds q) stage.branches (let one = s.once q low high in omega (arith, one)) in slice_get_within stage.branches (owner stage.branches q) f.it f.there;
      listed = λ j b e. stage-listed chain first stage.branches s j b e;
      beside = λ q r x y low less high other e f.
          let a = first-of (holds q) stage.branches (let one = s.once q low (omega arith) in omega (arith, one)) in
          let b = first-of (holds r) stage.branches (let one = s.once r (omega arith) high in omega (arith, one)) in
          allowed chain q r x y e f (stage-apart chain first (first + size stage.branches) stage.branches s (owner stage.branches q) (owner stage.branches r) a.it b.it other a.there b.there q r a.passes b.passes less);
      touches = ap length (parts-touches chain stage.branches stage.parts l.parts) ∙ same_length chain stage.branches;
      reads = λ q x t f low high e g r.
          let a = first-of (holds q) stage.branches (let one = s.once q low high in omega (arith, one)) in
          let same = touch-at chain stage.branches stage.parts l.parts (owner stage.branches q) a.it t a.there g in
          ap (λ (u : Touch). has u.reads f) (sym same) ∙ branch-reads chain a.it q x f a.passes e r;
      writes = λ q x t f low high e g w.
          let a = first-of (holds q) stage.branches (let one = s.once q low high in omega (arith, one)) in
          let same = touch-at chain stage.branches stage.parts l.parts (owner stage.branches q) a.it t a.there g in
          ap (λ (u : Touch). has u.writes f) (sym same) ∙ branch-writes chain a.it q x f a.passes e w;
    }
