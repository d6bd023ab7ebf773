-- Lines that are reported one after another, after what was there.
use Rattle.std.proofs.Common.{◌≡◌, ◌+◌, ◌∙◌, ℕ, zero, suc, List, [], ◌∷◌, ◌++◌, length, map, take, refl, sym, ap, append_assoc, arith}
use Rattle.std.specs.Prelude.{Bool, slice_get, slice_index_or, Some, Result, Ok, Err, OnOk, is_ok, if◌then◌else◌}
use Rattle.std.specs.List.{flat_map, enumerate_from}
use Rattle.std.specs.Map.{keys_of}
use Rattle.std.proofs.lemmas.List.{append-nil, length-map}
use Rattle.std.proofs.lemmas.List.Folds.{flat_map-map}
use Rattle.std.proofs.lemmas.List.FromFn.{length-enumerate_from}
use Rattle.std.proofs.Math.Seq.{take-append_seam}
use Rattle.first_sight.specs.FirstSight.{lines_by, noted, seen_with}
use Rattle.first_sight.specs.Lines.{rows_by}
use Rattle.first_sight.proofs.Noting.{keys_noted}

-- the lines of these, of which the first has this place
abbrev pub lines_from : {X : Type 0} → (ℕ → X → List ℕ) → ℕ → List X → List ℕ
lines_from line place items = flat_map (λ e. line e.0 e.1) (enumerate_from place items)

-- the lines so far, and with those of the rest all of them
pub record ArePushed {X : Type 0} (line : ℕ → X → List ℕ) (before out : List ℕ) (place : ℕ) (rest all : List X) : Type 0 where
  pub done : List ℕ
  pub so_far : out ≡ before ++ done
  pub complete : done ++ lines_from line place rest ≡ lines_by line all
  pub count : place + length rest ≡ length all

module _ {X : Type 0} (line : ℕ → X → List ℕ) (before out : List ℕ) (place : ℕ) (rest all : List X) where
  pub begins : out ≡ before → place ≡ 0 → rest ≡ all → ArePushed line before out place rest all
  begins same first whole = record {
    done = [];
    so_far = same ∙ sym (append-nil before);
    complete = ap (λ p. lines_from line p rest) first ∙ ap (lines_by line) whole;
    count = let lengths = ap length whole in omega (arith, lengths, first);
  }

  pub goes_on : (next : List ℕ) (after : ℕ) (x : X) (later : List X) → ArePushed line before out place rest all → rest ≡ x ∷ later → after ≡ place + 1 → next ≡ out ++ line place x → ArePushed line before next after later all
  goes_on next after x later pushed split step more = record {
    done = pushed.done ++ line place x;
    so_far = more ∙ ap (λ l. l ++ line place x) pushed.so_far ∙ append_assoc before pushed.done (line place x);
    complete =
        ap (λ p. (pushed.done ++ line place x) ++ lines_from line p later) step
        ∙ append_assoc pushed.done (line place x) (lines_from line (place + 1) later)
        ∙ ap (λ l. pushed.done ++ lines_from line place l) (sym split)
        ∙ pushed.complete;
    count = let lengths = ap length split in omega (arith, lengths, step, pushed.count);
  }

  pub ends : ArePushed line before out place rest all → rest ≡ [] → out ≡ before ++ lines_by line all
  ends pushed none = pushed.so_far ∙ ap (λ l. before ++ l) (sym (append-nil pushed.done) ∙ ap (λ l. pushed.done ++ lines_from line place l) (sym none) ∙ pushed.complete)

  pub kept : ArePushed line before out place rest all → take (length before) out ≡ before
  kept pushed = ap (take (length before)) pushed.so_far ∙ take-append_seam before pushed.done

-- lines that report only the place and the key
keys_from : {K V : Type 0} (line : ℕ → K → List ℕ) (place : ℕ) (seen : List (K × V)) → lines_from (λ p entry. line p entry.0) place seen ≡ lines_from line place (keys_of seen)
keys_from line place [] = refl
keys_from line place (e ∷ seen) = ap (λ l. line place e.0 ++ l) (keys_from line (place + 1) seen)

pub lines_of_keys : {K V : Type 0} (line : ℕ → K → List ℕ) (seen : List (K × V)) → lines_by (λ p entry. line p entry.0) seen ≡ lines_by line (keys_of seen)
lines_of_keys line seen = keys_from line 0 seen

-- the same, each by itself
rows_from : {X : Type 0} → (ℕ → X → List ℕ) → ℕ → List X → List (List ℕ)
rows_from line place items = map (λ e. line e.0 e.1) (enumerate_from place items)

row_keys_from : {K V : Type 0} (line : ℕ → K → List ℕ) (place : ℕ) (seen : List (K × V)) → rows_from (λ p entry. line p entry.0) place seen ≡ rows_from line place (keys_of seen)
unfolding rows_from
row_keys_from line place [] = refl
row_keys_from line place (e ∷ seen) = ap (λ l. line place e.0 ∷ l) (row_keys_from line (place + 1) seen)

pub rows_of_keys : {K V : Type 0} (line : ℕ → K → List ℕ) (seen : List (K × V)) → rows_by (λ p entry. line p entry.0) seen ≡ rows_by line (keys_of seen)
unfolding rows_from
rows_of_keys line seen = row_keys_from line 0 seen

module _ {X : Type 0} (line : ℕ → X → List ℕ) where
  pub rows_told : (items : List X) → flat_map (λ row. row) (rows_by line items) ≡ lines_by line items
  rows_told items = flat_map-map (λ row. row) (λ e. line e.0 e.1) (enumerate_from 0 items)

  pub rows_counted : (items : List X) → length (rows_by line items) ≡ length items
  rows_counted items = length-map (enumerate_from 0 items) (λ e. line e.0 e.1) ∙ length-enumerate_from 0 items

  row_from : (items : List X) (first place : ℕ) (x : X) → slice_get items place ≡ Some x → slice_index_or (rows_from line first items) place [] ≡ line (first + place) x
  unfolding rows_from
  row_from [] first place x is = absurd cc
  row_from (y ∷ items) first zero x is = λ i. line (first_place i) (same i)
    where
      first_place : first ≡ first + 0
      first_place = omega arith

      same : y ≡ x
      same = cc
  row_from (y ∷ items) first (suc place) x is =
      row_from items (first + 1) place x is ∙ (let e : first + 1 + place ≡ first + suc place = omega arith in ap (λ p. line p x) e)

  pub row_at : (items : List X) (place : ℕ) (x : X) → slice_get items place ≡ Some x → slice_index_or (rows_by line items) place [] ≡ line place x
  unfolding rows_from
  row_at items place x is = row_from items 0 place x is ∙ (let e : 0 + place ≡ place = omega arith in ap (λ p. line p x) e)

pub row_pushed : {T E : Type 0} (r : Result T E) (before after pushed row : List ℕ) → after ≡ (if is_ok r then before ++ pushed else before) → pushed ≡ row → OnOk r (after ≡ before ++ row)
row_pushed (Ok x) before after pushed row is same = is ∙ ap (λ l. before ++ l) same
row_pushed (Err e) before after pushed row is same = tt

-- a line for each key, also after one was noted
module _ {K V : Type 0} (line : ℕ → K × V → List ℕ) where
  pub entries_counted : (seen : List (K × V)) → length (rows_by line seen) ≡ length (keys_of seen)
  entries_counted seen = rows_counted line seen ∙ sym (length-map seen (λ e. e.0))

  pub noted_counted : (eq : K → K → Bool) (seen : List (K × V)) (key : K) (value : V) → length (rows_by line (noted eq seen key value)) ≡ length (seen_with eq (keys_of seen) key)
  noted_counted eq seen key value = entries_counted (noted eq seen key value) ∙ ap length (keys_noted eq seen key value)
