-- What was written last, by the merge of arrivals and by the law of graphs.
use Rattle.std.proofs.Common.{◌≡◌, ◌≢◌, ◌∙◌, ◌<◌, ◌≤◌, ℕ, zero, suc, Bool, true, false, List, [], ◌∷◌, map, length, max, sym, ap, refl, arith, ltb-true, ltb-false, eq-eqb, ne_eqb}
use Rattle.std.proofs.lemmas.Bool.{lt-ltb, le-ltb}
use Rattle.std.specs.Prelude.{◌==◌, nat_lt, if◌then◌else◌, Option, Some, None, position}
use Rattle.std.proofs.lemmas.List.Quantifiers.{position-Some}
use Rattle.std.proofs.lemmas.Bool.Decides.{Decides-eqb}
use Rattle.packet_fields.specs.declared.field.Field.{Field}
use Rattle.graph_law.specs.Branches.{Version}
use Rattle.graph_law.specs.Merging.{later, latest, unwritten}
use Rattle.packet_version.specs.Parts.{PlainPart, writers_of, values_of}
use Rattle.packet_version.specs.Splitting.{PlainApart}
use Rattle.packet_version.specs.Versions.{version_parts}
use Rattle.merge_ops.specs.Behind.{value_by, value_behind}
use Rattle.merge_ops.specs.Merging.{part_of, writer_of, greatest_writer, last_writer}
use Rattle.merge_ops.specs.Taking.{arrival_at}
use Rattle.merge_ops.specs.declared.arrival.Arrival.{Arrival}
use Rattle.merge_ops.specs.declared.arrival.Arrival.TheVariants as cames
use Rattle.graph_run.specs.Carrying.{as_version, as_branch_end, values_in}
use Rattle.graph_run.proofs.Writing.{bytes_in}

-- nothing but versions
unfoldable pub AreVersions : List Arrival → Type 0
AreVersions [] = Unit {0}
AreVersions (cames.Version v ∷ others) = AreVersions others
AreVersions (cames.Nil p ∷ others) = ⊥
AreVersions (cames.Short ∷ others) = ⊥

-- the part of the first arrival with this writer
first_by : ℕ → List Arrival → Field → Option PlainPart
first_by g [] f = None
first_by g (a ∷ others) f = if writer_of f a == g then part_of f a else first_by g others f

first_here : (g : ℕ) (a : Arrival) (others : List Arrival) (f : Field) → writer_of f a ≡ g → first_by g (a ∷ others) f ≡ part_of f a
unfolding first_by
first_here g a others f e = ap (λ (t : Bool). if t then part_of f a else first_by g others f) (eq-eqb (writer_of f a) g e)

first_else : (g : ℕ) (a : Arrival) (others : List Arrival) (f : Field) → writer_of f a ≢ g → first_by g (a ∷ others) f ≡ first_by g others f
unfolding first_by
first_else g a others f e = ap (λ (t : Bool). if t then part_of f a else first_by g others f) (ne_eqb (writer_of f a) g e)

-- the value that is written last, with a best one from before
abbrev pick : Option (List ℕ) → ℕ → ℕ → List Arrival → Field → Option (List ℕ)
pick value writer g arrivals f = if nat_lt writer g then bytes_in (first_by g arrivals f) else value

picked : (value : Option (List ℕ)) (writer g : ℕ) (arrivals : List Arrival) (f : Field) → writer < g → pick value writer g arrivals f ≡ bytes_in (first_by g arrivals f)
picked value writer g arrivals f less = ap (λ (t : Bool). if t then bytes_in (first_by g arrivals f) else value) (lt-ltb writer g less)

stayed : (value : Option (List ℕ)) (writer g : ℕ) (arrivals : List Arrival) (f : Field) → g ≤ writer → pick value writer g arrivals f ≡ value
stayed value writer g arrivals f le = ap (λ (t : Bool). if t then bytes_in (first_by g arrivals f) else value) (le-ltb writer g le)

latest_is : (best : Version) (arrivals : List Arrival) (f : Field) → AreVersions arrivals →
    (latest best (map as_branch_end arrivals)).values f ≡ pick (best.values f) (best.writers f) (greatest_writer arrivals f) arrivals f
unfolding AreVersions latest
latest_is best [] f versions = sym (stayed (best.values f) (best.writers f) 0 [] f (omega arith))
latest_is best (cames.Nil p ∷ others) f versions = absurd versions
latest_is best (cames.Short ∷ others) f versions = absurd versions
latest_is best (cames.Version v ∷ others) f versions =
    latest_is (later best (as_version v)) others f versions ∙ by_tests (nat_lt (best.writers f) w) refl (nat_lt w g) refl (nat_lt (best.writers f) g) refl
  where
    w : ℕ
    w = writers_of (version_parts v) f

    g : ℕ
    g = greatest_writer others f

    all : List Arrival
    all = cames.Version v ∷ others

    by_tests : (t : Bool) → nat_lt (best.writers f) w ≡ t → (s : Bool) → nat_lt w g ≡ s → (r : Bool) → nat_lt (best.writers f) g ≡ r →
        pick (if t then values_of (version_parts v) f else best.values f) (if t then w else best.writers f) g others f ≡ pick (best.values f) (best.writers f) (max w g) all f
    by_tests true t true s r e = let below = ltb-true (best.writers f) w t in let less = ltb-true w g s in
        picked _ w g others f (omega arith)
        ∙ sym (picked (best.values f) (best.writers f) (max w g) all f (omega arith)
        ∙ (ap (λ n. bytes_in (first_by n all f)) (let m : max w g ≡ g = omega arith in m) ∙ ap bytes_in (first_else g (cames.Version v) others f (λ same. absurd (omega arith)))))
    by_tests true t false s r e = let below = ltb-true (best.writers f) w t in let le = ltb-false w g s in
        stayed _ w g others f (omega arith)
        ∙ sym (picked (best.values f) (best.writers f) (max w g) all f (omega arith)
        ∙ (ap (λ n. bytes_in (first_by n all f)) (let m : max w g ≡ w = omega arith in m) ∙ ap bytes_in (first_here w (cames.Version v) others f refl)))
    by_tests false t s e true r = let above = ltb-false (best.writers f) w t in let less = ltb-true (best.writers f) g r in
        picked _ (best.writers f) g others f (omega arith)
        ∙ sym (picked (best.values f) (best.writers f) (max w g) all f (omega arith)
        ∙ (ap (λ n. bytes_in (first_by n all f)) (let m : max w g ≡ g = omega arith in m) ∙ ap bytes_in (first_else g (cames.Version v) others f (λ same. absurd (omega arith)))))
    by_tests false t s e false r = let above = ltb-false (best.writers f) w t in let le = ltb-false (best.writers f) g r in
        stayed _ (best.writers f) g others f (omega arith) ∙ sym (stayed (best.values f) (best.writers f) (max w g) all f (omega arith))

-- the first with a writer is at its place
first_at : (g b : ℕ) (arrivals : List Arrival) (f : Field) → b < length arrivals → (writer_of f (arrival_at arrivals b) == g) ≡ true → ((k : ℕ) → k < b → (writer_of f (arrival_at arrivals k) == g) ≡ false) →
    first_by g arrivals f ≡ part_of f (arrival_at arrivals b)
unfolding first_by
first_at g b [] f below is before = absurd (omega arith)
first_at g zero (a ∷ others) f below is before = ap (λ (t : Bool). if t then part_of f a else first_by g others f) is
first_at g (suc b) (a ∷ others) f below is before =
    ap (λ (t : Bool). if t then part_of f a else first_by g others f) (before 0 (omega arith)) ∙ first_at g b others f (omega arith) is (λ k less. before (suc k) (omega arith))

nobody_wrote : (arrivals : List Arrival) (f : Field) → ((k : ℕ) → writer_of f (arrival_at arrivals k) ≡ 0) → greatest_writer arrivals f ≡ 0
nobody_wrote [] f none = refl
nobody_wrote (a ∷ others) f none = let here = none 0 in let rest = nobody_wrote others f (λ k. none (suc k)) in omega arith

-- if no branch wrote a field last, each writer is 0
abbrev pub Unwritten : Type 0
Unwritten = (arrivals : List Arrival) (f : Field) (branch : ℕ) → last_writer arrivals f ≡ None → writer_of f (arrival_at arrivals branch) ≡ 0

value_is : (whole : PlainApart) (arrivals : List Arrival) (f : Field) → Unwritten → value_behind whole arrivals f ≡ pick (values_in whole f) 0 (greatest_writer arrivals f) arrivals f
unfolding last_writer
value_is whole arrivals f law = by_test (greatest_writer arrivals f == 0) refl
  where
    g : ℕ
    g = greatest_writer arrivals f

    test : Arrival → Bool
    test a = writer_of f a == g

    by_place : (o : Option ℕ) → position test arrivals ≡ o → g ≢ 0 → (o ≡ None → g ≡ 0) → value_by whole arrivals f o ≡ pick (values_in whole f) 0 g arrivals f
    by_place None is some none = absurd (some (none refl))
    by_place (Some b) is some none =
        let found = position-Some test arrivals b cames.Short is in
        ap bytes_in (sym (first_at g b arrivals f found.0 found.1 found.2)) ∙ sym (picked (values_in whole f) 0 g arrivals f (omega arith))

    by_test : (t : Bool) → (g == 0) ≡ t → value_by whole arrivals f (if g == 0 then None else position test arrivals) ≡ pick (values_in whole f) 0 g arrivals f
    by_test true is = ap (λ (t : Bool). value_by whole arrivals f (if t then None else position test arrivals)) is
        ∙ sym (stayed (values_in whole f) 0 g arrivals f (let zero : g ≡ 0 = (Decides-eqb g 0).0 is in omega arith))
    by_test false is = ap (λ (t : Bool). value_by whole arrivals f (if t then None else position test arrivals)) is
        ∙ by_place (position test arrivals) refl (λ zero. absurd (let t : (g == 0) ≡ true = (Decides-eqb g 0).1 zero in cc))
        (λ none. nobody_wrote arrivals f (λ k. law arrivals f k (ap (λ (t : Bool). if t then None else position test arrivals) is ∙ none)))

-- the value of each field after a stage is the one that was written last
pub values_behind : (whole : PlainApart) (arrivals : List Arrival) → Unwritten → AreVersions arrivals → (f : Field) → value_behind whole arrivals f ≡ (latest (unwritten (values_in whole)) (map as_branch_end arrivals)).values f
values_behind whole arrivals law versions f = value_is whole arrivals f law ∙ sym (latest_is (unwritten (values_in whole)) arrivals f versions)
