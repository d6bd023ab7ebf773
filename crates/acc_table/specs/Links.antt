-- For proofs: how the rows of a table are linked: the free rows in one list, each bucket's rows in another.
use Rattle.std.specs.Prelude.{ℕ, ◌+◌, ◌%◌, ◌≡◌, ◌<◌, ◌≤◌, ◌⊎◌, nat_eq, cond, List, [], ◌∷◌, Option, Some, None, length, map, slice_index_or, slice_set, sum_by}
use Rattle.acc_table.specs.Arrivals.{heads_for}
use Rattle.acc_table.specs.Rows.{AreKept, Place}

-- if no place follows
abbrev pub none : ℕ
none = 4294967295

-- the place after each place, the first place of each bucket, the first free place, and the number of places that
-- aren't free
pub record PlainLinks : Type 0 where
  pub nexts : List ℕ
  pub heads : List ℕ
  pub free : ℕ
  pub taken : ℕ

-- these are the places from this one on
abbrev pub IsChain : List ℕ → ℕ → List ℕ → Type 0
IsChain nexts at [] = at ≡ none
IsChain nexts at (x ∷ xs) = (at ≡ x) × (x < length nexts) × IsChain nexts (slice_index_or nexts x none) xs

abbrev pub Among : ℕ → List ℕ → Type 0
Among i [] = ⊥
Among i (x ∷ xs) = (i ≡ x) ⊎ Among i xs

-- the owner of each row
abbrev pub owners : {T : Type 0} → List (Place T) → List (Option ℕ)
owners rows = map (λ r. r.pid) rows

abbrev pub one_taken : Option ℕ → ℕ
one_taken None = 0
one_taken (Some p) = 1

abbrev pub one_in : ℕ → ℕ → Option ℕ → ℕ
one_in buckets bucket None = 0
one_in buckets bucket (Some p) = cond (nat_eq (p % buckets) bucket) 1 0

-- Each packet's row is in the list of its number's bucket, each free row in the free list, each once; each list ends.
pub record AreLinked (buckets : ℕ) (os : List (Option ℕ)) (l : PlainLinks) : Type 0 where
  pub chain : ℕ → List ℕ
  pub spare : List ℕ
  pub some_buckets : 0 < buckets
  pub few : length os ≤ 65536
  pub places : length l.nexts ≡ length os
  pub width : length l.heads ≡ buckets
  pub chains : (b : ℕ) → IsChain l.nexts (slice_index_or l.heads b none) (chain b)
  pub frees : IsChain l.nexts l.free spare
  pub owned : (b i : ℕ) → Among i (chain b) → (p : ℕ) × (slice_index_or os i None ≡ Some p) × (p % buckets ≡ b)
  pub kept : (i p : ℕ) → slice_index_or os i None ≡ Some p → Among i (chain (p % buckets))
  pub unowned : (i : ℕ) → Among i spare → slice_index_or os i None ≡ None
  pub counts : (b : ℕ) → length (chain b) ≡ sum_by (one_in buckets b) os
  pub spares : length spare + l.taken ≡ length os
  pub all : l.taken ≡ sum_by one_taken os

-- the first free place, taken out and put first into a bucket
abbrev pub taking : PlainLinks → ℕ → PlainLinks
taking l b =
    record {
      nexts = slice_set l.nexts l.free (slice_index_or l.heads b none);
      heads = slice_set l.heads b l.free;
      free = slice_index_or l.nexts l.free none;
      taken = l.taken + 1;
    }

-- the place is in the list of this bucket
pub record IsIn (l : PlainLinks) (b place : ℕ) : Type 0 where
  pub chain : List ℕ
  pub is : IsChain l.nexts (slice_index_or l.heads b none) chain
  pub short : length chain ≤ length l.nexts
  pub few : length l.nexts ≤ 65536
  pub among : Among place chain

-- the place of the bucket that this one follows, or none if it is the first
abbrev pub IsBefore : PlainLinks → ℕ → ℕ → Option ℕ → Type 0
IsBefore l b place None = slice_index_or l.heads b none ≡ place
IsBefore l b place (Some before) = (before < length l.nexts) × (slice_index_or l.nexts before none ≡ place) × ((xs : List ℕ) → IsChain l.nexts (slice_index_or l.heads b none) xs → Among before xs)

-- the place is taken out of its bucket: what was before it now comes before what was after it
abbrev pub unlinking : PlainLinks → ℕ → ℕ → Option ℕ → PlainLinks
unlinking l b place None = record l { heads = slice_set l.heads b (slice_index_or l.nexts place none) }
unlinking l b place (Some before) = record l { nexts = slice_set l.nexts before (slice_index_or l.nexts place none) }

-- and put first into the free list
abbrev pub freeing : PlainLinks → ℕ → PlainLinks
freeing l place =
    record {
      nexts = slice_set l.nexts place l.free;
      heads = l.heads;
      free = place;
      taken = l.taken;
    }

-- what a table keeps: its rows, and how they are linked
pub record IsWhole {T : Type 0} (branches : ℕ) (rows : List (Place T)) (l : PlainLinks) : Type 0 where
  pub kept : AreKept branches rows
  pub linked : AreLinked (heads_for (length rows)) (owners rows) l
