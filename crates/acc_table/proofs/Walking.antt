-- Walks along a chain: what is still ahead, and that the chain ends.
use Rattle.std.proofs.Common.{◌≡◌, ◌≢◌, ℕ, ◌+◌, ◌%◌, ◌<◌, ◌≤◌, inl, inr, List, [], ◌∷◌, length, get_or, Option, Some, None, sym, ap, ◌∙◌, subst, arith}
use Rattle.std.proofs.lemmas.List.{get_or-map, get_or_read, length-map, nil_from_length}
use Rattle.std.specs.List.{sum_by}
use Rattle.acc_table.specs.Rows.{Place, Absent}
use Rattle.acc_table.specs.Links.{none, one_in, IsChain, Among, AreLinked, PlainLinks, IsIn, owners}
use Rattle.acc_table.proofs.Counting.{sum_within, one_in_le}
use Rattle.acc_table.proofs.Linking.{opened_here, ended, next_among}

-- what is read in a list at a place
pub read : (xs ys : List ℕ) (i x : ℕ) → xs ≡ ys → i < length ys → x ≡ get_or xs i x → get_or ys i none ≡ x
read xs ys i x e lt r = sym (get_or_read ys i x lt (subst (λ zs. x ≡ get_or zs i x) e r) none)

-- on the way to a packet's row, which is still ahead
pub record Seeks (os : List (Option ℕ)) (nexts : List ℕ) (p at step : ℕ) : Type 0 where
  pub rest : List ℕ
  pub few : length nexts ≤ 65536
  pub places : length nexts ≡ length os
  pub chain : IsChain nexts at rest
  pub short : length rest + step ≤ length os
  pub ahead : (i : ℕ) → get_or os i None ≡ Some p → Among i rest

pub seeks_first : (m : ℕ) (os : List (Option ℕ)) (l : PlainLinks) (p b : ℕ) → AreLinked m os l → b ≡ p % m → Seeks os l.nexts p (get_or l.heads b none) 0
seeks_first m os l p b k e = record {
  rest = k.chain b;
  few = omega (arith, k.few, k.places);
  places = k.places;
  chain = k.chains b;
  short = omega (arith, k.counts b, sum_within (one_in m b) os (one_in_le m b));
  ahead = λ i own. subst (λ c. Among i (k.chain c)) (sym e) (k.kept i p own);
}

pub seeks_within : (os : List (Option ℕ)) (nexts : List ℕ) (p at step : ℕ) → Seeks os nexts p at step → at ≢ none → at < length os
seeks_within os nexts p at step s n = let o = opened_here nexts at s.rest s.chain n in omega (arith, o.within, s.places)

pub seeks_more : (os : List (Option ℕ)) (nexts : List ℕ) (p at step : ℕ) → Seeks os nexts p at step → at ≢ none → get_or os at None ≢ Some p → Seeks os nexts p (get_or nexts at none) (step + 1)
seeks_more os nexts p at step s n other =
    let o = opened_here nexts at s.rest s.chain n in
    record {
      rest = o.rest;
      few = s.few;
      places = s.places;
      chain = o.chain;
      short = omega (arith, s.short, ap length o.is);
      ahead = λ i own. elim (subst (λ xs. Among i xs) o.is (s.ahead i own)) [
        | inl e ↦ absurd (other (ap (λ z. get_or os z None) (sym e) ∙ own))
        | inr r ↦ r
      ];
    }

none_left : (os : List (Option ℕ)) (p : ℕ) (xs : List ℕ) → xs ≡ [] → ((i : ℕ) → get_or os i None ≡ Some p → Among i xs) → (i : ℕ) → get_or os i None ≢ Some p
none_left os p xs e h i own = subst (λ ys. Among i ys) e (h i own)

pub owner_at : {T : Type 0} (rows : List (Place T)) (i : ℕ) (d : Place T) → i < length rows → get_or (owners rows) i None ≡ (get_or rows i d).pid
owner_at rows i d lt = get_or-map (λ r. r.pid) rows i d None lt

absent_from : {T : Type 0} (rows : List (Place T)) (p : ℕ) → ((i : ℕ) → get_or (owners rows) i None ≢ Some p) → Absent p rows
absent_from rows p h k d lt own = h k (owner_at rows k d lt ∙ own)

-- if the chain has ended, the packet has no row
pub absent_at_end : {T : Type 0} (rows : List (Place T)) (nexts : List ℕ) (p at step : ℕ) → Seeks (owners rows) nexts p at step → at ≡ none → Absent p rows
absent_at_end rows nexts p at step s e = absent_from rows p (none_left (owners rows) p s.rest (ended nexts at s.rest s.few s.chain e) s.ahead)

pub absent_after : {T : Type 0} (rows : List (Place T)) (nexts : List ℕ) (p at step : ℕ) → Seeks (owners rows) nexts p at step → length rows ≤ step → Absent p rows
absent_after rows nexts p at step s e =
    absent_from rows p (none_left (owners rows) p s.rest (nil_from_length s.rest (omega (arith, s.short, e, length-map rows (λ r. r.pid)))) s.ahead)

-- this number of a chain's places is passed
pub record Counts (nexts : List ℕ) (at step all : ℕ) : Type 0 where
  pub rest : List ℕ
  pub chain : IsChain nexts at rest
  pub sum : length rest + step ≡ all

pub counts_first : (m : ℕ) (os : List (Option ℕ)) (l : PlainLinks) (b : ℕ) → AreLinked m os l → Counts l.nexts (get_or l.heads b none) 0 (sum_by (one_in m b) os)
counts_first m os l b k = record { rest = k.chain b; chain = k.chains b; sum = omega (arith, k.counts b) }

pub counts_within : (nexts : List ℕ) (at step all : ℕ) → Counts nexts at step all → at ≢ none → at < length nexts
counts_within nexts at step all s n = (opened_here nexts at s.rest s.chain n).within

pub counts_more : (nexts : List ℕ) (at step all : ℕ) → Counts nexts at step all → at ≢ none → Counts nexts (get_or nexts at none) (step + 1) all
counts_more nexts at step all s n =
    let o = opened_here nexts at s.rest s.chain n in
    record { rest = o.rest; chain = o.chain; sum = omega (arith, s.sum, ap length o.is) }

pub counts_end : (nexts : List ℕ) (at step all : ℕ) → Counts nexts at step all → length nexts ≤ 65536 → at ≡ none → step ≡ all
counts_end nexts at step all s few e = omega (arith, s.sum, ap length (ended nexts at s.rest few s.chain e))

-- before a place that is still ahead
pub record Nears (l : PlainLinks) (b place at step : ℕ) : Type 0 where
  pub rest : List ℕ
  pub few : length l.nexts ≤ 65536
  pub chain : IsChain l.nexts at rest
  pub short : length rest + step ≤ length l.nexts
  pub ahead : Among place rest
  pub apart : at ≢ place
  pub passed : (xs : List ℕ) → IsChain l.nexts (get_or l.heads b none) xs → Among at xs

first_among : (nexts : List ℕ) (h : ℕ) (xs : List ℕ) → IsChain nexts h xs → h ≢ none → Among h xs
first_among nexts h [] c n = n c
first_among nexts h (x ∷ xs) c n = inl c.0

not_none : (nexts : List ℕ) (at place : ℕ) (xs : List ℕ) → length nexts ≤ 65536 → IsChain nexts at xs → Among place xs → at ≢ none
not_none nexts at place xs few c a e = subst (λ ys. Among place ys) (ended nexts at xs few c e) a

pub nears_first : (l : PlainLinks) (b place : ℕ) → IsIn l b place → get_or l.heads b none ≢ place → Nears l b place (get_or l.heads b none) 0
nears_first l b place k n = record {
  rest = k.chain;
  few = k.few;
  chain = k.is;
  short = omega (arith, k.short);
  ahead = k.among;
  apart = n;
  passed = λ xs c. first_among l.nexts (get_or l.heads b none) xs c (not_none l.nexts (get_or l.heads b none) place k.chain k.few k.is k.among);
}

pub nears_within : (l : PlainLinks) (b place at step : ℕ) → Nears l b place at step → at < length l.nexts
nears_within l b place at step s = (opened_here l.nexts at s.rest s.chain (not_none l.nexts at place s.rest s.few s.chain s.ahead)).within

pub nears_more : (l : PlainLinks) (b place at step : ℕ) → Nears l b place at step → get_or l.nexts at none ≢ place → Nears l b place (get_or l.nexts at none) (step + 1)
nears_more l b place at step s n =
    let o = opened_here l.nexts at s.rest s.chain (not_none l.nexts at place s.rest s.few s.chain s.ahead) in
    let more : Among place o.rest = elim (subst (λ xs. Among place xs) o.is s.ahead) [ inl e ↦ absurd (s.apart (sym e)) | inr r ↦ r ] in
    record {
      rest = o.rest;
      few = s.few;
      chain = o.chain;
      short = omega (arith, s.short, ap length o.is);
      ahead = more;
      apart = n;
      passed = λ xs c. next_among l.nexts (get_or l.heads b none) xs at c (s.passed xs c) (not_none l.nexts (get_or l.nexts at none) place o.rest s.few o.chain more);
    }
