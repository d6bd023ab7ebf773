-- The functions of works, by stage and branch again: the state so far.
use Rattle.std.proofs.Common.{◌≡◌, ◌∙◌, ◌<◌, ◌≤◌, ◌+◌, ℕ, zero, suc, List, [], ◌∷◌, ◌++◌, map, length, take, drop, get_or, sym, ap, refl, arith}
use Rattle.std.proofs.Math.Seq.{take-append_seam, drop-append_seam}
use Rattle.std.proofs.lemmas.List.{map-append, drop_more, take_more, take_all, length-map}
use Rattle.chain_walk.specs.Notes.{Notes}
use Rattle.chain_walk.specs.declared.walk.Fate.{Fate}
use Rattle.graph_compile.specs.declared.graph.Stage.{Stage}
use Rattle.burst_law.specs.Bursts.{Message}
use Rattle.node_run.specs.Runs.{flat}
use Rattle.stream_law.specs.Owned.{PlainOwned}
use Rattle.settled_notes.specs.Settling.{SameDrops}
use Rattle.piped_run.specs.Settling.{settled_own}

-- the functions of this number of works are with their branches
head_left : {A : Type 0} (all rest : List A) (x : A) (i : ℕ) → drop i all ≡ x ∷ rest → i < length all
head_left [] rest x zero e = absurd cc
head_left [] rest x (suc i) e = absurd cc
head_left (y ∷ all) rest x zero e = omega arith
head_left (y ∷ all) rest x (suc i) e = let r = head_left all rest x i e in omega arith

none_left : {A : Type 0} (all : List A) (i : ℕ) → drop i all ≡ [] → length all ≤ i
none_left [] i e = omega arith
none_left (y ∷ all) zero e = absurd cc
none_left (y ∷ all) (suc i) e = let r = none_left all i e in omega arith

same_head : {A : Type 0} {x y : A} {xs ys : List A} → x ∷ xs ≡ y ∷ ys → x ≡ y
same_head e = cc

same_tail : {A : Type 0} {x y : A} {xs ys : List A} → x ∷ xs ≡ y ∷ ys → xs ≡ ys
same_tail e = cc

-- one more
pub record OneMore {A B : Type 0} (f : A → B) (all rest : List A) (done : List B) (i : ℕ) : Type 0 where
  pub given : done ≡ map f (take (i + 1) all)
  pub left : rest ≡ drop (i + 1) all

pub one_given : {A B V : Type 0} (f : A → B) (items : V → B) (all was rest : List A) (x : A) (old new : List V) (v : V) (i : ℕ) → map items old ≡ map f (take i all) → was ≡ drop i all → was ≡ x ∷ rest → items v ≡ f x → new ≡ old ++ v ∷ [] → OneMore f all rest (map items new) i
one_given {A} {B} {V} f items all was rest x old new v i done left is same push =
    let row : drop i all ≡ x ∷ rest = sym left ∙ is in
    let inside = head_left all rest x i row in
    let cut : ◌≡◌ {A = List A} (x ∷ rest) (get_or all i x ∷ drop (i + 1) all) = sym row ∙ drop_more all i x inside in
    record {
      given = ap (map items) push ∙ map-append items old (v ∷ []) ∙ (λ k. done k ++ (same ∙ ap f (same_head cut)) k ∷ []) ∙ sym (map-append f (take i all) (get_or all i x ∷ [])) ∙ ap (map f) (sym (take_more all i x inside));
      left = same_tail cut;
    }

pub one_taken : {A : Type 0} (all was rest : List A) (x : A) (i : ℕ) → was ≡ drop i all → was ≡ x ∷ rest → rest ≡ drop (i + 1) all
one_taken {A} all was rest x i left is =
    let row : drop i all ≡ x ∷ rest = sym left ∙ is in
    let cut : ◌≡◌ {A = List A} (x ∷ rest) (get_or all i x ∷ drop (i + 1) all) = sym row ∙ drop_more all i x (head_left all rest x i row) in
    same_tail cut

-- no more than these
pub all_given : {A B : Type 0} (f : A → B) (all was : List A) (done : List B) (i count : ℕ) → done ≡ map f (take i all) → was ≡ drop i all → was ≡ [] → i ≤ count → done ≡ map f (take count all)
all_given f all was done i count is left none most =
    let few = none_left all i (sym left ∙ none) in is ∙ ap (map f) (take_all i all few ∙ sym (take_all count all (omega arith)))

-- those of the works of this number of stages were given back, and the works of the others remain
pub record IsGiven {F W V : Type 0} (settled : W → List F) (items : V → List (List F)) (works : List (List W)) (rest : List W) (owned : List V) (i : ℕ) : Type 0 where
  pub given : map items owned ≡ map (λ l. map settled l) (take i works)
  pub left : rest ≡ flat (drop i works)

abbrev pub HasGiven : {F N V : Type 0} → Notes F N → List Fate → (V → List (List F)) → List Stage → List (PlainOwned F N) → List (PlainOwned F N) → List V → ℕ → Type 0
HasGiven {F} {N} notes fates items stages works rest owned i =
    (ends : List Message) (left : List (List (PlainOwned F N))) → SameDrops fates ends → map (λ l. length l) left ≡ map (λ s. length s.branches) stages → works ≡ flat left → IsGiven (settled_own notes ends) items left rest owned i

pub given_none : {F N V : Type 0} (notes : Notes F N) (fates : List Fate) (items : V → List (List F)) (stages : List Stage) (works rest : List (PlainOwned F N)) (owned : List V) → owned ≡ [] → rest ≡ works → HasGiven notes fates items stages works rest owned 0
given_none notes fates items stages works rest owned none all ends left same_drops many is = record { given = ap (map items) none; left = all ∙ is }

get_map : {A B : Type 0} (f : A → B) (xs : List A) (i : ℕ) (d : A) (e : B) → i < length xs → get_or (map f xs) i e ≡ f (get_or xs i d)
get_map f [] i d e inside = absurd (omega arith)
get_map f (x ∷ xs) zero d e inside = refl
get_map f (x ∷ xs) (suc i) d e inside = get_map f xs i d e (omega arith)

flat_cut : {W : Type 0} (e : List W) (ends : List (List W)) → flat (e ∷ ends) ≡ e ++ flat ends
unfolding flat
flat_cut e ends = refl

pub given_more : {F N V : Type 0} (notes : Notes F N) (fates : List Fate) (items : V → List (List F)) (stages : List Stage) (works was rest : List (PlainOwned F N)) (old new : List V) (v : V) (i count : ℕ) (d : Stage) →
    HasGiven notes fates items stages works was old i → i < length stages → count ≡ length (get_or stages i d).branches →
    ((ends : List Message) → SameDrops fates ends → items v ≡ map (settled_own notes ends) (take count was)) → rest ≡ drop count was → new ≡ old ++ v ∷ [] → HasGiven notes fates items stages works rest new (i + 1)
given_more {F} {N} {V} notes fates items stages works was rest old new v i count d has inside counts own left push ends all same_drops many is =
    let so_far = has ends all same_drops many is in
    let same : length all ≡ length stages = sym (length-map all (λ l. length l)) ∙ ap length many ∙ length-map stages (λ s. length s.branches) in
    let here : i < length all = omega arith in
    let e : List (PlainOwned F N) = get_or all i [] in
    let size : count ≡ length e =
    counts ∙ sym (get_map (λ s. length s.branches) stages i d 0 inside) ∙ ap (λ l. get_or l i 0) (sym many) ∙ get_map (λ l. length l) all i [] 0 here in
    let cut : was ≡ e ++ flat (drop (i + 1) all) = so_far.left ∙ ap flat (drop_more all i [] here) ∙ flat_cut e (drop (i + 1) all) in
    let taken : take count was ≡ e = (λ k. take (size k) (cut k)) ∙ take-append_seam e (flat (drop (i + 1) all)) in
    let dropped : drop count was ≡ flat (drop (i + 1) all) = (λ k. drop (size k) (cut k)) ∙ drop-append_seam e (flat (drop (i + 1) all)) in
    record {
      given = ap (map items) push ∙ map-append items old (v ∷ [])
          ∙ (λ k. so_far.given k ++ (own ends same_drops ∙ ap (map (settled_own notes ends)) taken) k ∷ [])
          ∙ sym (map-append (λ l. map (settled_own notes ends) l) (take i all) (e ∷ []))
          ∙ ap (map (λ l. map (settled_own notes ends) l)) (sym (take_more all i [] here));
      left = left ∙ dropped;
    }

pub given_all : {F N V : Type 0} (notes : Notes F N) (fates : List Fate) (items : V → List (List F)) (stages : List Stage) (works rest : List (PlainOwned F N)) (owned : List V) (i : ℕ) → HasGiven notes fates items stages works rest owned i → length stages ≤ i →
    (ends : List Message) (left : List (List (PlainOwned F N))) → SameDrops fates ends → map (λ l. length l) left ≡ map (λ s. length s.branches) stages → works ≡ flat left → map items owned ≡ map (λ l. map (settled_own notes ends) l) left
given_all notes fates items stages works rest owned i has past ends left same_drops many is =
    let same : length left ≡ length stages = sym (length-map left (λ l. length l)) ∙ ap length many ∙ length-map stages (λ s. length s.branches) in
    (has ends left same_drops many is).given ∙ ap (map (λ l. map (settled_own notes ends) l)) (take_all i left (omega arith))
