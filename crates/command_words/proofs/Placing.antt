-- The uses by the roles hold the names in order and the options' values.
use Rattle.std.proofs.Common.{◌≡◌, ◌∙◌, ◌==◌, ◌&&◌, ◌||◌, ℕ, Bool, cond, true, false, not, suc, refl, sym, ap, List, [], ◌∷◌, ◌++◌, append_assoc, arith, map, length, Option, Some, None, true≢false}
use Rattle.std.specs.Prelude.{⊤, find, slice_get}
use Rattle.std.specs.List.{list_all}
use Rattle.std.specs.Option.{option_and_then, option_map_or}
use Rattle.std.specs.Str.{bytes_eq}
use Rattle.clap.specs.Facts.{explicit_source}
use Rattle.clap.specs.Takes.{is_given}
use Rattle.clap.specs.Walk.{Row, Text, first_of, has_row}
use Rattle.command_words.specs.Roles.{Due, Look, Role, anything, dashes, due_after, gives, is_fit, long, look_of, name, names_in, names_only, opens, option_names, option_role, options_in, plain, role_by, role_of, roles, separator, short, unfit, value_of}
use Rattle.command_words.specs.Given.{Word, all_differ, contains, value_given}
use Rattle.command_words.proofs.Table.{same_text, text_same}
use Rattle.command_words.proofs.Walking.{Use, placed, rows_for, unless, use_row}

abbrev pub has : Text → List Use → Bool
has id us = has_row id (rows_for us)

abbrev pub value_in : Text → List Use → Option Text
value_in id us = first_of id (rows_for us)

pub value_is : (id : Text) (us : List Use) → value_in id us ≡ value_given id us
value_is id [] = refl
value_is id (u ∷ us) = go (bytes_eq u.0 id) (value_is id us)
  where
    go : (b : Bool) → value_in id us ≡ value_given id us
        → option_and_then (λ (r : Row). slice_get r.values 0) (cond b (Some (use_row u)) (find (λ (r : Row). bytes_eq r.id id) (rows_for us))) ≡ cond b (Some u.1) (value_given id us)
    go true e = refl
    go false e = e

given_is : (id : Text) (us : List Use) → is_given id (rows_for us) ≡ has id us
given_is id [] = refl
given_is id (u ∷ us) = go (bytes_eq u.0 id) (given_is id us)
  where
    go : (b : Bool) → is_given id (rows_for us) ≡ has id us
        → option_map_or (λ (r : Row). explicit_source r.source) (cond b (Some (use_row u)) (find (λ (r : Row). bytes_eq r.id id) (rows_for us))) false ≡ (b || has id us)
    go true e = refl
    go false e = e

has_more : (id : Text) (us : List Use) (k v : Text) → has id (us ++ (k, v) ∷ []) ≡ (has id us || bytes_eq k id)
has_more id [] k v = go (bytes_eq k id)
  where
    go : (b : Bool) → (b || false) ≡ b
    go true = refl
    go false = refl
has_more id (u ∷ us) k v = go (bytes_eq u.0 id) (has_more id us k v)
  where
    go : (b : Bool) → has id (us ++ (k, v) ∷ []) ≡ (has id us || bytes_eq k id) → (b || has id (us ++ (k, v) ∷ [])) ≡ ((b || has id us) || bytes_eq k id)
    go true e = refl
    go false e = e

-- a value that was given stays
value_stays : (id : Text) (us : List Use) (k v : Text) → has id us ≡ true → value_given id (us ++ (k, v) ∷ []) ≡ value_given id us
value_stays id [] k v e = absurd (true≢false (sym e))
value_stays id (u ∷ us) k v e = go (bytes_eq u.0 id) e (λ f. value_stays id us k v f)
  where
    go : (b : Bool) → (b || has id us) ≡ true → (has id us ≡ true → value_given id (us ++ (k, v) ∷ []) ≡ value_given id us)
        → cond b (Some u.1) (value_given id (us ++ (k, v) ∷ [])) ≡ cond b (Some u.1) (value_given id us)
    go true f more = refl
    go false f more = more f

-- and what is new is found by its id
value_comes : (id : Text) (us : List Use) (k v : Text) → has id us ≡ false → value_given id (us ++ (k, v) ∷ []) ≡ cond (bytes_eq k id) (Some v) None
value_comes id [] k v e = refl
value_comes id (u ∷ us) k v e = go (bytes_eq u.0 id) e (λ f. value_comes id us k v f)
  where
    go : (b : Bool) → (b || has id us) ≡ false → (has id us ≡ false → value_given id (us ++ (k, v) ∷ []) ≡ cond (bytes_eq k id) (Some v) None)
        → cond b (Some u.1) (value_given id (us ++ (k, v) ∷ [])) ≡ cond (bytes_eq k id) (Some v) None
    go true f more = absurd (true≢false f)
    go false f more = more f

some_eq : {X : Type 0} {a b : X} → Some a ≡ Some b → a ≡ b
some_eq e = cc

none_some : {X : Type 0} {a : X} {P : Type 0} → None ≡ Some a → P
none_some e = cc

-- what was given stays to the end
stays : (all : List Text) (id : Text) (us vs : List Use) (left : List Text) (rs : List Role) → has id us ≡ true → placed all us left rs ≡ Some vs → value_given id vs ≡ value_given id us
unfolding placed
stays all id us vs left [] e is = go (list_all (λ n. is_given n (rows_for us)) all) is
  where
    go : (b : Bool) → cond b (Some us) None ≡ Some vs → value_given id vs ≡ value_given id us
    go true f = ap (value_given id) (sym (some_eq f))
    go false f = none_some f
stays all id us vs left (separator ∷ rs) e is = stays all id us vs left rs e is
stays all id us vs left (opens x ∷ rs) e is = stays all id us vs left rs e is
stays all id us vs left (unfit ∷ rs) e is = none_some is
stays all id us vs left (gives x v ∷ rs) e is = go (has x us) is (λ f. stays all id (us ++ (x, v) ∷ []) vs left rs (has_more id us x v ∙ rw e refl) f)
  where
    go : (b : Bool) → unless b (placed all (us ++ (x, v) ∷ []) left rs) ≡ Some vs
        → (placed all (us ++ (x, v) ∷ []) left rs ≡ Some vs → value_given id vs ≡ value_given id (us ++ (x, v) ∷ [])) → value_given id vs ≡ value_given id us
    go true f more = none_some f
    go false f more = more f ∙ value_stays id us x v e
stays all id us vs [] (name v ∷ rs) e is = none_some is
stays all id us vs (n ∷ left) (name v ∷ rs) e is = go (has n us) is (λ f. stays all id (us ++ (n, v) ∷ []) vs left rs (has_more id us n v ∙ rw e refl) f)
  where
    go : (b : Bool) → unless b (placed all (us ++ (n, v) ∷ []) left rs) ≡ Some vs
        → (placed all (us ++ (n, v) ∷ []) left rs ≡ Some vs → value_given id vs ≡ value_given id (us ++ (n, v) ∷ [])) → value_given id vs ≡ value_given id us
    go true f more = none_some f
    go false f more = more f ∙ value_stays id us n v e

-- ---- what is distinct

-- the name differs from each of these
abbrev pub DiffersFrom : Text → List Text → Type 0
DiffersFrom n [] = ⊤
DiffersFrom n (m ∷ ms) = (bytes_eq n m ≡ false) × DiffersFrom n ms

abbrev pub AllDiffer : List Text → Type 0
AllDiffer [] = ⊤
AllDiffer (n ∷ ns) = DiffersFrom n ns × AllDiffer ns

-- no name is an option
abbrev pub NoneIsOption : List Text → List Text → Type 0
NoneIsOption options [] = ⊤
NoneIsOption options (n ∷ ns) = (contains n options ≡ false) × NoneIsOption options ns

-- the options that are given are among these
abbrev pub GivesOnly : List Text → List Role → Type 0
GivesOnly options [] = ⊤
GivesOnly options (gives x v ∷ rs) = (contains x options ≡ true) × GivesOnly options rs
GivesOnly options (_ ∷ rs) = GivesOnly options rs

abbrev Due-fits : List Text → Due → Type 0
Due-fits options (value_of x) = contains x options ≡ true
Due-fits options _ = ⊤

role_gives : (options : List Text) (due : Due) (l : Look) (word : Word) (rs : List Role) → Due-fits options due
    → (Due-fits options (due_after due (role_by options due l word)) → GivesOnly options rs) → GivesOnly options (role_by options due l word ∷ rs)
role_gives options names_only l word rs d more = more tt
role_gives options (value_of x) plain word rs d more = (d, more tt)
role_gives options (value_of x) short word rs d more = more d
role_gives options (value_of x) dashes word rs d more = more d
role_gives options (value_of x) (long y v) word rs d more = more d
role_gives options anything plain word rs d more = more tt
role_gives options anything short word rs d more = more tt
role_gives options anything dashes word rs d more = more tt
role_gives options anything (long y v) word rs d more = go (contains y options) refl v more
  where
    go : (b : Bool) → contains y options ≡ b → (w : Option Word) → (Due-fits options (due_after anything (option_role b y w)) → GivesOnly options rs) → GivesOnly options (option_role b y w ∷ rs)
    go false e w m = m tt
    go true e None m = m e
    go true e (Some t) m = (e, m tt)

pub roles_give : (options : List Text) (due : Due) (words : List Word) → Due-fits options due → GivesOnly options (roles options due words)
unfolding roles
roles_give options anything [] d = tt
roles_give options names_only [] d = tt
roles_give options (value_of x) [] d = tt
roles_give options due (word ∷ words) d =
    role_gives options due (look_of word) word (roles options (due_after due (role_of options due word)) words) d (λ e. roles_give options (due_after due (role_of options due word)) words e)

-- ---- the agreement of both

eq_suc : (a b : ℕ) → (suc a == suc b) ≡ (a == b)
eq_suc a b = grind arith

suc_zero : (a : ℕ) → (suc a == 0) ≡ false
suc_zero a = grind arith

zero_suc : (a : ℕ) → (0 == suc a) ≡ false
zero_suc a = grind arith

or_none : (a b : Bool) → a ≡ false → b ≡ false → (a || b) ≡ false
or_none a b e f = rw (e, f) refl

pub eq_sym : (a b : Text) → bytes_eq a b ≡ bytes_eq b a
eq_sym a b = go (bytes_eq a b) refl (bytes_eq b a) refl
  where
    go : (p : Bool) → bytes_eq a b ≡ p → (q : Bool) → bytes_eq b a ≡ q → p ≡ q
    go true e true f = refl
    go false e false f = refl
    go true e false f = sym (text_same a) ∙ ap (λ x. bytes_eq x a) (same_text a b e) ∙ f
    go false e true f = sym e ∙ ap (λ x. bytes_eq a x) (same_text b a f) ∙ text_same a

-- an option's text isn't empty
not_option : (options : List Text) (x n : Text) → contains x options ≡ true → contains n options ≡ false → bytes_eq x n ≡ false
not_option options x n e f = go (bytes_eq x n) refl
  where
    go : (b : Bool) → bytes_eq x n ≡ b → b ≡ false
    go false g = refl
    go true g = sym e ∙ ap (λ y. contains y options) (same_text x n g) ∙ f

abbrev pub not_seen : List Use → List Text → Bool
not_seen us = list_all (λ x. not (has x us))

abbrev pub fresh : List Use → List Text → Bool
fresh us xs = all_differ xs && not_seen us xs

seen_more : (us : List Use) (x v : Text) (xs : List Text) → not_seen (us ++ (x, v) ∷ []) xs ≡ (not_seen us xs && not (contains x xs))
seen_more us x v [] = refl
seen_more us x v (y ∷ ys) = rw (has_more y us x v, eq_sym x y) (go (has y us) (bytes_eq y x) (not_seen us ys) (contains x ys) (seen_more us x v ys))
  where
    go : (h b s c : Bool) → not_seen (us ++ (x, v) ∷ []) ys ≡ (s && not c) → (not (h || b) && not_seen (us ++ (x, v) ∷ []) ys) ≡ ((not h && s) && not (b || c))
    go true b s c e = refl
    go false true true c e = refl
    go false true false c e = refl
    go false false s c e = e

fresh_gives : (us : List Use) (x v : Text) (xs : List Text) → fresh us (x ∷ xs) ≡ (not (has x us) && fresh (us ++ (x, v) ∷ []) xs)
fresh_gives us x v xs = rw (seen_more us x v xs) (go (contains x xs) (all_differ xs) (has x us) (not_seen us xs))
  where
    go : (c d h s : Bool) → ((not c && d) && (not h && s)) ≡ (not h && (d && (s && not c)))
    go true true true s = refl
    go true false true s = refl
    go true true false true = refl
    go true true false false = refl
    go true false false s = refl
    go false true true s = refl
    go false false true s = refl
    go false false false s = refl
    go false true false true = refl
    go false true false false = refl

-- no option sees a name
seen_same : (options : List Text) (us : List Use) (n v : Text) (rs : List Role) → contains n options ≡ false → GivesOnly options rs
    → not_seen (us ++ (n, v) ∷ []) (option_names (options_in rs)) ≡ not_seen us (option_names (options_in rs))
seen_same options us n v [] e g = refl
seen_same options us n v (name w ∷ rs) e g = seen_same options us n v rs e g
seen_same options us n v (separator ∷ rs) e g = seen_same options us n v rs e g
seen_same options us n v (opens x ∷ rs) e g = seen_same options us n v rs e g
seen_same options us n v (unfit ∷ rs) e g = seen_same options us n v rs e g
seen_same options us n v (gives x w ∷ rs) e g =
    rw (has_more x us n v, eq_sym n x, not_option options x n g.0 e, or_same (has x us)) (ap (λ b. not (has x us) && b) (seen_same options us n v rs e g.1))
  where
    or_same : (b : Bool) → (b || false) ≡ b
    or_same true = refl
    or_same false = refl

abbrev pub is_whole_from : List Use → List Text → List Role → Bool
is_whole_from us left rs = list_all is_fit rs && (length (names_in rs) == length left && fresh us (option_names (options_in rs)))

abbrev pub Fits : List Text → List Use → List Text → List Role → Option (List Use) → Type 0
Fits options us left rs None = is_whole_from us left rs ≡ false
Fits options us left rs (Some vs) = (is_whole_from us left rs ≡ true) × (map (λ n. value_given n vs) left ≡ map Some (names_in rs))
    × ((x : Text) → contains x options ≡ true → has x us ≡ false → value_given x vs ≡ value_given x (options_in rs))

abbrev pub NoneHas : List Use → List Text → Type 0
NoneHas us [] = ⊤
NoneHas us (n ∷ ns) = (has n us ≡ false) × NoneHas us ns

-- what was used of all the names, and what is left of them
pub record Before (all options : List Text) (us : List Use) (used left : List Text) : Type 0 where
  pub split : used ++ left ≡ all
  pub given : list_all (λ n. has n us) used ≡ true
  pub free : NoneHas us left
  pub differ : AllDiffer left
  pub apart : NoneIsOption options left

both_true : (a b : Bool) → (a && b) ≡ true → (a ≡ true) × (b ≡ true)
both_true true b e = (refl, e)
both_true false b e = absurd (true≢false (sym e))

still_given : (us : List Use) (k v : Text) (used : List Text) → list_all (λ n. has n us) used ≡ true → list_all (λ n. has n (us ++ (k, v) ∷ [])) used ≡ true
still_given us k v [] e = refl
still_given us k v (n ∷ used) e =
    let parts = both_true (has n us) (list_all (λ m. has m us) used) e in
    rw (has_more n us k v, parts.0) (still_given us k v used parts.1)

given_next : (us : List Use) (k v : Text) (used : List Text) → list_all (λ n. has n (us ++ (k, v) ∷ [])) used ≡ true → list_all (λ n. has n (us ++ (k, v) ∷ [])) (used ++ k ∷ []) ≡ true
given_next us k v [] e = rw (has_more k us k v, text_same k) (go (has k us))
  where
    go : (b : Bool) → ((b || true) && true) ≡ true
    go true = refl
    go false = refl
given_next us k v (n ∷ used) e =
    let parts = both_true (has n (us ++ (k, v) ∷ [])) (list_all (λ m. has m (us ++ (k, v) ∷ [])) used) e in
    rw parts.0 (given_next us k v used parts.1)

free_after_option : (options : List Text) (us : List Use) (x v : Text) (left : List Text) → contains x options ≡ true → NoneIsOption options left → NoneHas us left
    → NoneHas (us ++ (x, v) ∷ []) left
free_after_option options us x v [] e a f = tt
free_after_option options us x v (n ∷ left) e a f =
    (has_more n us x v ∙ or_none _ _ f.0 (not_option options x n e a.0), free_after_option options us x v left e a.1 f.1)

free_after_name : (us : List Use) (k v : Text) (left : List Text) → DiffersFrom k left → NoneHas us left → NoneHas (us ++ (k, v) ∷ []) left
free_after_name us k v [] d f = tt
free_after_name us k v (n ∷ left) d f = (has_more n us k v ∙ or_none _ _ f.0 d.0, free_after_name us k v left d.1 f.1)

after_option : (all options : List Text) (us : List Use) (used left : List Text) (x v : Text) → contains x options ≡ true → Before all options us used left
    → Before all options (us ++ (x, v) ∷ []) used left
after_option all options us used left x v e b = record {
  split = b.split;
  given = still_given us x v used b.given;
  free = free_after_option options us x v left e b.apart b.free;
  differ = b.differ;
  apart = b.apart;
}

after_name : (all options : List Text) (us : List Use) (used left : List Text) (n v : Text) → Before all options us used (n ∷ left)
    → Before all options (us ++ (n, v) ∷ []) (used ++ n ∷ []) left
after_name all options us used left n v b = record {
  split = append_assoc used (n ∷ []) left ∙ b.split;
  given = given_next us n v used (still_given us n v used b.given);
  free = free_after_name us n v left b.differ.0 b.free.1;
  differ = b.differ.1;
  apart = b.apart.1;
}

-- ---- the roles, one by one

given_all : (us : List Use) (xs : List Text) → list_all (λ n. is_given n (rows_for us)) xs ≡ list_all (λ n. has n us) xs
given_all us [] = refl
given_all us (x ∷ xs) = rw (given_is x us, given_all us xs) refl

all_of_both : (us : List Use) (xs ys : List Text) → list_all (λ n. has n us) (xs ++ ys) ≡ (list_all (λ n. has n us) xs && list_all (λ n. has n us) ys)
all_of_both us [] ys = refl
all_of_both us (x ∷ xs) ys = go (has x us) (all_of_both us xs ys)
  where
    go : (b : Bool) → list_all (λ n. has n us) (xs ++ ys) ≡ (list_all (λ n. has n us) xs && list_all (λ n. has n us) ys)
        → (b && list_all (λ n. has n us) (xs ++ ys)) ≡ ((b && list_all (λ n. has n us) xs) && list_all (λ n. has n us) ys)
    go true e = e
    go false e = refl

at_the_end : (all options : List Text) (us : List Use) (used left : List Text) → Before all options us used left → Fits options us left [] (placed all us left [])
unfolding placed
at_the_end all options us used [] b =
    let done : list_all (λ n. is_given n (rows_for us)) all ≡ true =
    given_all us all ∙ ap (list_all (λ n. has n us)) (sym b.split) ∙ all_of_both us used [] ∙ rw b.given refl in
    rw done (refl, refl, λ x e f. lacks x us f)
  where
    lacks : (x : Text) (vs : List Use) → has x vs ≡ false → value_given x vs ≡ None
    lacks x [] f = refl
    lacks x (u ∷ vs) f = go (bytes_eq u.0 x) f (λ g. lacks x vs g)
      where
        go : (c : Bool) → (c || has x vs) ≡ false → (has x vs ≡ false → value_given x vs ≡ None) → cond c (Some u.1) (value_given x vs) ≡ None
        go true g more = absurd (true≢false g)
        go false g more = more g
at_the_end all options us used (n ∷ left) b =
    let wants : list_all (λ m. is_given m (rows_for us)) all ≡ false =
    given_all us all ∙ ap (list_all (λ m. has m us)) (sym b.split) ∙ all_of_both us used (n ∷ left) ∙ rw (b.given, b.free.0) refl in
    rw wants (zero_suc_first (length left))
  where
    zero_suc_first : (k : ℕ) → ((0 == suc k) && true) ≡ false
    zero_suc_first k = rw (zero_suc k) refl

-- one more option
option_fits : (all options : List Text) (us : List Use) (left : List Text) (x v : Text) (rs : List Role) → contains x options ≡ true
    → Fits options (us ++ (x, v) ∷ []) left rs (placed all (us ++ (x, v) ∷ []) left rs)
    → Fits options us left (gives x v ∷ rs) (placed all us left (gives x v ∷ rs))
unfolding placed
option_fits all options us left x v rs e h = go (has x us) refl
  where
    whole_is : is_whole_from us left (gives x v ∷ rs)
        ≡ (list_all is_fit rs && (length (names_in rs) == length left && (not (has x us) && fresh (us ++ (x, v) ∷ []) (option_names (options_in rs)))))
    whole_is = ap (λ f. list_all is_fit rs && (length (names_in rs) == length left && f)) (fresh_gives us x v (option_names (options_in rs)))

    twice : (a b : Bool) → (a && (b && false)) ≡ false
    twice true true = refl
    twice true false = refl
    twice false b = refl

    ends : (o : Option (List Use)) → o ≡ placed all (us ++ (x, v) ∷ []) left rs → has x us ≡ false → Fits options (us ++ (x, v) ∷ []) left rs o → Fits options us left (gives x v ∷ rs) o
    ends None is n f = whole_is ∙ rw n f
    ends (Some vs) is n f = (whole_is ∙ rw n f.0, f.1, λ y in_options unseen. pick y in_options unseen (bytes_eq x y) refl)
      where
        pick : (y : Text) → contains y options ≡ true → has y us ≡ false → (b : Bool) → bytes_eq x y ≡ b → value_given y vs ≡ cond b (Some v) (value_given y (options_in rs))
        pick y in_options unseen true same =
            stays all y (us ++ (x, v) ∷ []) vs left rs (has_more y us x v ∙ rw (unseen, same) refl) (sym is) ∙ value_comes y us x v unseen ∙ rw same refl
        pick y in_options unseen false other = f.2 y in_options (has_more y us x v ∙ rw (unseen, other) refl)

    go : (b : Bool) → has x us ≡ b → Fits options us left (gives x v ∷ rs) (unless b (placed all (us ++ (x, v) ∷ []) left rs))
    go true n = whole_is ∙ rw n (twice (list_all is_fit rs) (length (names_in rs) == length left))
    go false n = ends (placed all (us ++ (x, v) ∷ []) left rs) refl n h

-- one more name
name_fits : (all options : List Text) (us : List Use) (n : Text) (left : List Text) (v : Text) (rs : List Role) → has n us ≡ false → contains n options ≡ false → GivesOnly options rs
    → Fits options (us ++ (n, v) ∷ []) left rs (placed all (us ++ (n, v) ∷ []) left rs)
    → Fits options us (n ∷ left) (name v ∷ rs) (placed all us (n ∷ left) (name v ∷ rs))
unfolding placed
name_fits all options us n left v rs free apart g h = rw free (ends (placed all (us ++ (n, v) ∷ []) left rs) refl h)
  where
    whole_is : is_whole_from us (n ∷ left) (name v ∷ rs) ≡ is_whole_from (us ++ (n, v) ∷ []) left rs
    whole_is = λ i. list_all is_fit rs && (eq_suc (length (names_in rs)) (length left) i
        && (all_differ (option_names (options_in rs)) && sym (seen_same options us n v rs apart g) i))

    ends : (o : Option (List Use)) → o ≡ placed all (us ++ (n, v) ∷ []) left rs → Fits options (us ++ (n, v) ∷ []) left rs o → Fits options us (n ∷ left) (name v ∷ rs) o
    ends None is f = whole_is ∙ f
    ends (Some vs) is f = (whole_is ∙ f.0, λ i. first i ∷ f.1 i, λ x in_options unseen. f.2 x in_options (has_more x us n v ∙ rw (unseen, eq_sym n x, not_option options x n in_options apart) refl))
      where
        first : value_given n vs ≡ Some v
        first = stays all n (us ++ (n, v) ∷ []) vs left rs (has_more n us n v ∙ rw (free, text_same n) refl) (sym is) ∙ value_comes n us n v free ∙ rw (text_same n) refl

pub fits : (all options : List Text) (us : List Use) (used left : List Text) (rs : List Role) → Before all options us used left → GivesOnly options rs → Fits options us left rs (placed all us left rs)
unfolding placed
fits all options us used left [] b g = at_the_end all options us used left b
fits all options us used left (separator ∷ rs) b g = fits all options us used left rs b g
fits all options us used left (opens x ∷ rs) b g = fits all options us used left rs b g
fits all options us used left (unfit ∷ rs) b g = refl
fits all options us used left (gives x v ∷ rs) b g =
    option_fits all options us left x v rs g.0 (fits all options (us ++ (x, v) ∷ []) used left rs (after_option all options us used left x v g.0 b) g.1)
fits all options us used [] (name v ∷ rs) b g = too_many (list_all is_fit rs) (length (names_in rs)) _
  where
    too_many : (a : Bool) (k : ℕ) (f : Bool) → (a && ((suc k == 0) && f)) ≡ false
    too_many true k f = rw (suc_zero k) refl
    too_many false k f = refl
fits all options us used (n ∷ left) (name v ∷ rs) b g =
    name_fits all options us n left v rs b.free.0 b.apart.0 g
    (fits all options (us ++ (n, v) ∷ []) (used ++ n ∷ []) left rs (after_name all options us used left n v b) g)
