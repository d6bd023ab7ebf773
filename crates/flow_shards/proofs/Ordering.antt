-- The shards of lines in the order of first sight are those lines, after they are put into that order again.
use Rattle.std.proofs.Common.{◌≡◌, ◌≢◌, ◌≤◌, ◌<◌, ◌+◌, ◌∙◌, ℕ, zero, suc, [], ◌∷◌, ◌++◌, map, filter, Bool, true, false, inl, inr, refl, sym, ap, append_assoc, arith}
use Rattle.std.specs.Prelude.{◌==◌, ◌⊎◌, nat_le, if◌then◌else◌}
use Rattle.std.specs.List.{range_with_len, AllByRecursion}
use Rattle.std.proofs.Math.Nat.{mod-lt}
use Rattle.std.proofs.lemmas.Bool.{le-leb, lt-leb}
use Rattle.std.proofs.lemmas.Bool.Decides.{eqb_tells}
use Rattle.flow_line.specs.declared.line.FlowLine.{FlowLine}
use Rattle.packet_function.specs.declared.flow.FiveTuple.{FiveTuple}
use Rattle.flow_shards.specs.Flows.{Lines, key_of}
use Rattle.flow_shards.specs.Sharding.{shard_of, in_shard, parts, flat, placed, in_order, IsRising}

abbrev Line : Type 0
Line = FiveTuple × FlowLine

-- these lines were first seen after that one
abbrev pub Behind : Line → Lines → Type 0
Behind line lines = AllByRecursion (λ next. line.1.first < next.1.first) lines

behind-append : (line : Line) (xs ys : Lines) → Behind line xs → Behind line ys → Behind line (xs ++ ys)
behind-append line [] ys h g = g
behind-append line (x ∷ xs) ys h g = (h.0, behind-append line xs ys h.1 g)

behind-filter : (line : Line) (p : Line → Bool) (xs : Lines) → Behind line xs → Behind line (filter p xs)
behind-filter line p [] h = tt
behind-filter line p (x ∷ xs) h = by (p x) (behind-filter line p xs h.1)
  where
    by : (b : Bool) → Behind line (filter p xs) → Behind line (if b then x ∷ filter p xs else filter p xs)
    by true rest = (h.0, rest)
    by false rest = rest

behind-placed : (line x : Line) (xs : Lines) → line.1.first < x.1.first → Behind line xs → Behind line (placed x xs)
behind-placed line x [] h g = (h, tt)
behind-placed line x (y ∷ ys) h g = by (nat_le x.1.first y.1.first) (behind-placed line x ys h g.1)
  where
    by : (b : Bool) → Behind line (placed x ys) → Behind line (if b then x ∷ y ∷ ys else y ∷ placed x ys)
    by true rest = (h, g)
    by false rest = (g.0, rest)

behind-in_order : (line : Line) (xs : Lines) → Behind line xs → Behind line (in_order xs)
behind-in_order line [] h = tt
behind-in_order line (x ∷ xs) h = behind-placed line x (in_order xs) h.0 (behind-in_order line xs h.1)

-- a line before all others goes first
placed_first : (line : Line) (xs : Lines) → Behind line xs → placed line xs ≡ line ∷ xs
placed_first line [] h = refl
placed_first line (x ∷ xs) h = ap (λ b. if b then line ∷ x ∷ xs else x ∷ placed line xs) (le-leb line.1.first x.1.first (omega (arith, h.0)))

placed_behind : (line x : Line) (xs : Lines) → line.1.first < x.1.first → placed x (line ∷ xs) ≡ line ∷ placed x xs
placed_behind line x xs h = ap (λ b. if b then x ∷ line ∷ xs else line ∷ placed x xs) (lt-leb x.1.first line.1.first h)

-- the line before all others comes first, wherever it is
first_of_all : (line : Line) (front back : Lines) → Behind line front → Behind line back → in_order (front ++ line ∷ back) ≡ line ∷ in_order (front ++ back)
first_of_all line [] back h g = placed_first line (in_order back) (behind-in_order line back g)
first_of_all line (x ∷ front) back h g = ap (placed x) (first_of_all line front back h.1 g) ∙ placed_behind line x (in_order (front ++ back)) h.0

-- the shards of some workers from this one on, one after the other
abbrev pieces : ℕ → ℕ → ℕ → Lines → Lines
pieces workers first count lines = flat (map (λ worker. filter (in_shard workers worker) lines) (range_with_len first count))

behind-pieces : (line : Line) (workers first count : ℕ) (xs : Lines) → Behind line xs → Behind line (pieces workers first count xs)
behind-pieces line workers first zero xs h = tt
behind-pieces line workers first (suc count) xs h =
    behind-append line (filter (in_shard workers first) xs) (pieces workers (first + 1) count xs) (behind-filter line (in_shard workers first) xs h) (behind-pieces line workers (first + 1) count xs h)

pub unequal : (a b : ℕ) → a < b → (a == b) ≡ false
unequal a b less = by (eqb_tells a b)
  where
    by : ((a == b) ≡ true) × (a ≡ b) ⊎ ((a == b) ≡ false) × (a ≢ b) → (a == b) ≡ false
    by (inl same) = absurd (omega (arith, same.1, less))
    by (inr other) = other.0

-- a line that no worker from this one on has
others_have : (line : Line) (xs : Lines) (workers first count : ℕ) → shard_of workers (key_of line.0) < first → pieces workers first count (line ∷ xs) ≡ pieces workers first count xs
others_have line xs workers first zero h = refl
others_have line xs workers first (suc count) h =
    λ i. (if unequal (shard_of workers (key_of line.0)) first h i then line ∷ filter (in_shard workers first) xs else filter (in_shard workers first) xs) ++ others_have line xs workers (first + 1) count (omega (arith, h)) i

-- the place of a line in the shards of which it is before all others
record Found (line : Line) (xs whole without : Lines) : Type 0 where
  front : Lines
  back : Lines
  with_line : whole ≡ front ++ line ∷ back
  others : without ≡ front ++ back
  in_front : Behind line front
  in_back : Behind line back

found_in : (line : Line) (xs : Lines) (workers first count : ℕ) → Behind line xs → first ≤ shard_of workers (key_of line.0) → shard_of workers (key_of line.0) < first + count →
    Found line xs (pieces workers first count (line ∷ xs)) (pieces workers first count xs)
found_in line xs workers first zero h low high = absurd (omega (arith, low, high))
found_in line xs workers first (suc count) h low high = by (eqb_tells shard first) (λ other. found_in line xs workers (first + 1) count h (omega (arith, low, other)) (omega (arith, high)))
  where
    shard : ℕ
    shard = shard_of workers (key_of line.0)

    own : Lines
    own = filter (in_shard workers first) xs

    behind : Lines
    behind = pieces workers (first + 1) count xs

    own_behind : Behind line own
    own_behind = behind-filter line (in_shard workers first) xs h

    by : ((shard == first) ≡ true) × (shard ≡ first) ⊎ ((shard == first) ≡ false) × (shard ≢ first) →
        (shard ≢ first → Found line xs (pieces workers (first + 1) count (line ∷ xs)) behind) →
        Found line xs ((if shard == first then line ∷ own else own) ++ pieces workers (first + 1) count (line ∷ xs)) (own ++ behind)
    by (inl same) later = record {
      front = [];
      back = own ++ behind;
      with_line = λ i. (if same.0 i then line ∷ own else own) ++ others_have line xs workers (first + 1) count (omega (arith, same.1)) i;
      others = refl;
      in_front = tt;
      in_back = behind-append line own behind own_behind (behind-pieces line workers (first + 1) count xs h);
    }
    by (inr other) later =
        let more = later other.1 in
        record {
          front = own ++ more.front;
          back = more.back;
          with_line = (λ i. (if other.0 i then line ∷ own else own) ++ more.with_line i) ∙ sym (append_assoc own more.front (line ∷ more.back));
          others = ap (λ l. own ++ l) more.others ∙ sym (append_assoc own more.front more.back);
          in_front = behind-append line own more.front own_behind more.in_front;
          in_back = more.in_back;
        }

none_there : (workers first count : ℕ) → pieces workers first count [] ≡ []
none_there workers first zero = refl
none_there workers first (suc count) = none_there workers (first + 1) count

-- the shards, put into the order of first sight, are the lines
pub together : (workers : ℕ) (lines : Lines) → 1 ≤ workers → IsRising lines → in_order (flat (parts workers lines)) ≡ lines
together workers [] some rising = ap in_order (none_there workers 0 workers)
together workers (line ∷ lines) some rising =
    let inside : shard_of workers (key_of line.0) < workers = mod-lt _ (omega (arith, some)) in
    let found = found_in line lines workers 0 workers rising.0 (omega arith) (omega (arith, inside)) in
    ap in_order found.with_line
    ∙ first_of_all line found.front found.back found.in_front found.in_back
    ∙ ap (λ l. line ∷ in_order l) (sym found.others)
    ∙ ap (λ l. line ∷ l) (together workers lines some rising.1)
