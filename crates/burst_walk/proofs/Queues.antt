-- The fates of each chain's packets, taken off the front of their rows one by one.
use Rattle.std.proofs.Common.{◌≡◌, ◌<◌, ◌≤◌, ◌+◌, ◌∙◌, ℕ, List, [], ◌∷◌, ◌++◌, length, take, drop, map, set, get_or, refl, ap, sym, subst, append_assoc, arith}
use Rattle.std.specs.Prelude.{All, IfSome, MatchOption, Option, Some, None, slice_get, slice_index_or}
use Rattle.std.specs.Option.{option_to_list}
use Rattle.std.proofs.lemmas.List.{append-nil, drop_all, drop_more, get_or-map, length-map, length-set, map-set, take_all}
use Rattle.std.proofs.lemmas.List.Elements.{All-drop, All-get_or, All-head, All-nil, All-push, All-set}
use Rattle.chain_walk.specs.declared.walk.Fate.{Fate}
use Rattle.service_walk.specs.Service.{at_chain}
use Rattle.service_walk.specs.Weaving.{fates_left, next_fate, woven}
use Rattle.classifier.specs.declared.burst.Item.{Item}
use Rattle.burst_walk.specs.Leading.{IsWritable}

woven-nil : (rows : List (List Fate)) → woven [] rows ≡ []
unfolding woven
woven-nil rows = refl

woven-cons : (class : Option ℕ) (classes : List (Option ℕ)) (rows : List (List Fate)) → woven (class ∷ classes) rows ≡ next_fate rows class ∷ woven classes (fates_left rows class)
unfolding woven
woven-cons class classes rows = refl

length-fates_left : (rows : List (List Fate)) (class : Option ℕ) → length (fates_left rows class) ≡ length rows
length-fates_left rows None = refl
length-fates_left rows (Some chain) = length-set rows chain (drop 1 (at_chain rows chain))

one_writable : (row : List Fate) → All IsWritable row → IfSome (slice_get row 0) IsWritable
one_writable [] all = tt
one_writable (fate ∷ row) all = All-head IsWritable fate row all

next_writable : (rows : List (List Fate)) (class : Option ℕ) → IfSome class (λ chain. chain < length rows) → All (All IsWritable) rows → IfSome (next_fate rows class) IsWritable
next_writable rows None inside all = tt
next_writable rows (Some chain) inside all = one_writable (at_chain rows chain) (All-get_or (All IsWritable) rows chain [] inside all)

left_writable : (rows : List (List Fate)) (class : Option ℕ) → IfSome class (λ chain. chain < length rows) → All (All IsWritable) rows → All (All IsWritable) (fates_left rows class)
left_writable rows None inside all = all
left_writable rows (Some chain) inside all =
    All-set (All IsWritable) rows chain (drop 1 (at_chain rows chain)) (All-drop IsWritable 1 (at_chain rows chain) (All-get_or (All IsWritable) rows chain [] inside all)) all

abbrev pub classes_of : List Item → List (Option ℕ)
classes_of items = map (λ i. i.class) items

-- Some packets have their fates, and the rows hold those of the remaining packets.
pub record IsWeaving (items : List Item) (rows queues : List (List Fate)) (fates : List (Option Fate)) (index : ℕ) : Type 0 where
  pub due : fates ++ woven (drop index (classes_of items)) queues ≡ woven (classes_of items) rows
  pub many : length queues ≡ length rows
  pub left : All (All IsWritable) queues
  pub taken : All (λ o. IfSome o IsWritable) fates

pub weaving_begins : (items : List Item) (rows queues : List (List Fate)) (fates : List (Option Fate)) → queues ≡ rows → All (All IsWritable) rows → fates ≡ [] → IsWeaving items rows queues fates 0
weaving_begins items rows queues fates same writable none = record {
  due = ap (λ l. l ++ woven (classes_of items) queues) none ∙ ap (woven (classes_of items)) same;
  many = ap length same;
  left = subst (All (All IsWritable)) (sym same) writable;
  taken = subst (All (λ o. IfSome o IsWritable)) (sym none) (All-nil (λ o. IfSome o IsWritable));
}

next_class : (items : List Item) (rows queues : List (List Fate)) (fates : List (Option Fate)) (index : ℕ) (item : Item) → IsWeaving items rows queues fates index → index < length items →
    item ≡ slice_index_or items index item → All (λ i. IfSome i.class (λ chain. chain < length rows)) items → IfSome item.class (λ chain. chain < length queues)
next_class items rows queues fates index item at inside is classes =
    subst (λ n. IfSome item.class (λ chain. chain < n)) (sym at.many)
    (subst (λ i. IfSome i.class (λ chain. chain < length rows)) (sym is) (All-get_or (λ i. IfSome i.class (λ chain. chain < length rows)) items index item inside classes))

one_more : (items : List Item) (rows queues queues' : List (List Fate)) (fates : List (Option Fate)) (index : ℕ) (item : Item) (next : Option Fate) → IsWeaving items rows queues fates index →
    index < length items →
    item ≡ slice_index_or items index item → IfSome item.class (λ chain. chain < length queues) → next ≡ next_fate queues item.class → queues' ≡ fates_left queues item.class →
    IsWeaving items rows queues' (fates ++ next ∷ []) (index + 1)
one_more items rows queues queues' fates index item next at inside is fits taken left = record {
  due = append_assoc fates (next ∷ []) (woven (drop (index + 1) (classes_of items)) queues') ∙ ap (λ l. fates ++ l) (sym (due_next items queues queues' index item next inside is taken left)) ∙ at.due;
  many = ap length left ∙ length-fates_left queues item.class ∙ at.many;
  left = subst (All (All IsWritable)) (sym left) (left_writable queues item.class fits at.left);
  taken = All-push (λ o. IfSome o IsWritable) fates next at.taken (subst (λ o. IfSome o IsWritable) (sym taken) (next_writable queues item.class fits at.left));
}
  where
    due_next : (items : List Item) (queues queues' : List (List Fate)) (index : ℕ) (item : Item) (next : Option Fate) → index < length items → item ≡ slice_index_or items index item →
        next ≡ next_fate queues item.class → queues' ≡ fates_left queues item.class → woven (drop index (classes_of items)) queues ≡ next ∷ woven (drop (index + 1) (classes_of items)) queues'
    due_next items queues queues' index item next inside is taken left =
        let many = length-map items (λ i. i.class) in
        let here : get_or (classes_of items) index item.class ≡ item.class = get_or-map (λ i. i.class) items index item item.class inside ∙ ap (λ i. i.class) (sym is) in
        let split : drop index (classes_of items) ≡ item.class ∷ drop (index + 1) (classes_of items) =
        drop_more (classes_of items) index item.class (omega arith) ∙ ap (λ c. c ∷ drop (index + 1) (classes_of items)) here in
        ap (λ cs. woven cs queues) split ∙ woven-cons item.class (drop (index + 1) (classes_of items)) queues
        ∙ (λ i. sym taken i ∷ woven (drop (index + 1) (classes_of items)) (sym left i))

-- the same, if the rows are lent as a slice
pub weaving_goes_on : {V W : Type 0} (row_of : V → List Fate) (given_of : W →
    List Fate) (items : List Item) (rows : List W) (queues lent after now : List V) (fates fates' : List (Option Fate)) (index : ℕ) (item : Item) (next : Option Fate) →
    IsWeaving items (map given_of rows) (map row_of queues) fates index → index < length items → item ≡ slice_index_or items index item →
    All (λ i. IfSome i.class (λ chain. chain < length rows)) items →
    lent ≡ queues → next ≡ next_fate (map row_of lent) item.class → map row_of after ≡ fates_left (map row_of lent) item.class → now ≡ after → fates' ≡ fates ++ next ∷ [] →
    IsWeaving items (map given_of rows) (map row_of now) fates' (index + 1)
weaving_goes_on row_of given_of items rows queues lent after now fates fates' index item next at inside is classes same taken left written pushed =
    let many = length-map rows given_of in
    let fits = next_class items (map given_of rows) (map row_of queues) fates index item at inside is (subst (λ n. All (λ i. IfSome i.class (λ chain. chain < n)) items) (sym many) classes) in
    subst (λ fs. IsWeaving items (map given_of rows) (map row_of now) fs (index + 1)) (sym pushed)
    (one_more items (map given_of rows) (map row_of queues) (map row_of now) fates index item next at inside is fits
    (taken ∙ ap (λ qs. next_fate (map row_of qs) item.class) same) (ap (map row_of) written ∙ left ∙ ap (λ qs. fates_left (map row_of qs) item.class) same))

-- a slice that was lent whole and keeps its length
pub written_back : {V : Type 0} (n : ℕ) (xs ys : List V) → length xs ≡ length ys → n ≡ length ys → take n (xs ++ drop (length xs) ys) ≡ xs
written_back n xs ys same whole =
    let none : xs ++ drop (length xs) ys ≡ xs = ap (λ l. xs ++ l) (drop_all (length xs) ys (omega arith)) ∙ append-nil xs in
    ap (take n) none ∙ take_all n xs (omega arith)

pub weaving_ends : (items : List Item) (rows queues : List (List Fate)) (fates : List (Option Fate)) (index : ℕ) → IsWeaving items rows queues fates index → length items ≤ index →
    fates ≡ woven (classes_of items) rows
weaving_ends items rows queues fates index at over =
    let many = length-map items (λ i. i.class) in
    let none : drop index (classes_of items) ≡ [] = drop_all index (classes_of items) (omega arith) in
    sym (append-nil fates) ∙ ap (λ l. fates ++ l) (sym (ap (λ cs. woven cs queues) none ∙ woven-nil queues)) ∙ at.due

-- a fate was taken off the front of a row, if there was one
taken_off : (row left : List Fate) (next : Option Fate) → row ≡ option_to_list next ++ left → (next ≡ None → length row ≡ 0) → drop 1 row ≡ left
taken_off row left None is none = sym (drop_none row (none refl)) ∙ is
  where
    drop_none : (row : List Fate) → length row ≡ 0 → row ≡ drop 1 row
    drop_none [] e = refl
    drop_none (fate ∷ row) e = absurd (omega arith)
taken_off row left (Some fate) is none = ap (drop 1) is

-- the rows are left so
pub row_left : {V : Type 0} (row_of : V → List Fate) (rows : List V) (class : Option ℕ) (chain : ℕ) (d after : V) (next : Option Fate) → class ≡ Some chain → chain < length rows →
    row_of (slice_index_or rows chain d) ≡ option_to_list next ++ row_of after → (next ≡ None → length (row_of (slice_index_or rows chain d)) ≡ 0) →
    map row_of (set rows chain after) ≡ fates_left (map row_of rows) class
row_left row_of rows class chain d after next taken inside gives none =
    let here : at_chain (map row_of rows) chain ≡ row_of (slice_index_or rows chain d) = get_or-map row_of rows chain d [] inside in
    let rest : drop 1 (row_of (slice_index_or rows chain d)) ≡ row_of after = taken_off (row_of (slice_index_or rows chain d)) (row_of after) next gives none in
    map-set row_of rows chain after ∙ ap (set (map row_of rows) chain) (sym (ap (drop 1) here ∙ rest)) ∙ ap (fates_left (map row_of rows)) (sym taken)

-- what is known if nothing was taken
pub none_taken : {X : Type 0} (o : Option X) (P : Type 0) (Q : X → Type 0) → MatchOption o P Q → o ≡ None → P
none_taken None P Q known none = known
none_taken (Some x) P Q known none = absurd (cc)
