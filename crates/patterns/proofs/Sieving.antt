-- What a table of windows says about a payload.
use Rattle.std.proofs.Common.{◌≡◌, ◌<◌, ◌≤◌, ◌+◌, ◌-◌, ◌*◌, ◌/◌, ◌%◌, ◌^◌, ◌∙◌, ◌⊎◌, ℕ, List, [], length, get_or, set, sym, ap, subst, true, false, inl, inr, arith, get_or-set_same, get_or-set_other, bit_and, bit_or}
use Rattle.std.specs.Prelude.{slice_index}
use Rattle.std.specs.Int.{bit_at, w64}
use Rattle.std.specs.Int.Bits.{or_zero_l}
use Rattle.std.proofs.lemmas.Bool.{cases_eq, false_from_ne_true}
use Rattle.std.proofs.lemmas.Nat.Bits.{bit_at-zero, bit_at-lt, bit_at_and, bit_at_or, bit_at_set_same}
use Rattle.std.proofs.lemmas.List.{get_or_default}
use Rattle.memchr.specs.Find.{OccursAt}
use Rattle.patterns.specs.Occurrences.{occurs}
use Rattle.patterns.specs.declared.sieve.Sieve.{Sieve}
use Rattle.patterns.specs.Sieving.{near_slot, far_slot, groups_of, Grows, IsMarked, IsSieveOf, Tells, HasAll}
use Rattle.patterns.specs.Windows.{window_at}
use Rattle.patterns.specs.declared.width.Width.{Width}
use Rattle.patterns.proofs.Windows.{same_window, some_bytes}
use Rattle.patterns.proofs.Standing.{stands, standing_at}

-- bits of words
pub or_keeps : (a b group : ℕ) → bit_at a group ≡ 1 → bit_at (bit_or a b) group ≡ 1
or_keeps a b group h =
    let other = bit_at-lt b group in
    let both = bit_at_or a b group in
    omega arith

pub or_adds : (a b group : ℕ) → bit_at b group ≡ 1 → bit_at (bit_or a b) group ≡ 1
or_adds a b group h =
    let other = bit_at-lt a group in
    let both = bit_at_or a b group in
    omega arith

and_parts_of : (a b group : ℕ) → bit_at (bit_and a b) group ≡ 1 → (bit_at a group ≡ 1) × (bit_at b group ≡ 1)
and_parts_of a b group h =
    let one = bit_at-lt a group in
    let other = bit_at-lt b group in
    let both = bit_at_and a b group in
    (omega arith, omega arith)

and_of : (a b group : ℕ) → bit_at a group ≡ 1 → bit_at b group ≡ 1 → bit_at (bit_and a b) group ≡ 1
and_of a b group one other =
    let both = bit_at_and a b group in
    omega arith

pub one_bit : (group : ℕ) → group < 64 → bit_at (1 * 2 ^ group % 18446744073709551616) group ≡ 1
one_bit group within = ap (λ n. bit_at n group) (sym (or_zero_l (1 * 2 ^ group % 18446744073709551616))) ∙ bit_at_set_same w64 0 group within

-- a bit of a word of the table
pub slot_grows : (table : List ℕ) (slot more : ℕ) → slot < length table → Grows table (set table slot (bit_or (get_or table slot 0) more))
slot_grows table slot more within = record { stays = λ other group h. by_place other group h (cases_eq other slot) }
  where
    new : ℕ
    new = bit_or (get_or table slot 0) more

    by_place : (other group : ℕ) → bit_at (slice_index table other) group ≡ 1 → (other ≡ slot) ⊎ (other ≡ slot → ⊥) → bit_at (slice_index (set table slot (bit_or (get_or table slot 0) more)) other) group ≡ 1
    by_place other group h (inl same) =
        ap (λ n. bit_at (get_or (set table slot (bit_or (get_or table slot 0) more)) n 0) group) same
        ∙ ap (λ n. bit_at n group) (get_or-set_same table slot (bit_or (get_or table slot 0) more) 0 within)
        ∙ or_keeps (get_or table slot 0) more group (ap (λ n. bit_at (get_or table n 0) group) (sym same) ∙ h)
    by_place other group h (inr apart) = ap (λ n. bit_at n group) (get_or-set_other table slot other (bit_or (get_or table slot 0) more) 0 apart) ∙ h

pub slot_marked : (table : List ℕ) (slot group : ℕ) → slot < length table → group < 64 →
    bit_at (slice_index (set table slot (bit_or (get_or table slot 0) (1 * 2 ^ group % 18446744073709551616))) slot) group ≡ 1
slot_marked table slot group within below =
    ap (λ n. bit_at n group) (get_or-set_same table slot (bit_or (get_or table slot 0) (1 * 2 ^ group % 18446744073709551616)) 0 within)
    ∙ or_adds (get_or table slot 0) (1 * 2 ^ group % 18446744073709551616) group (one_bit group below)

-- a window whose two words have the bit
pub window_marked : (middle new : List ℕ) (window group near far : ℕ) → near ≡ near_slot window → far ≡ far_slot window → bit_at (slice_index middle near) group ≡ 1 → Grows middle new →
    bit_at (slice_index new far) group ≡ 1 → bit_at (groups_of new window) group ≡ 1
unfolding groups_of
window_marked middle new window group near far is_near is_far first grows second =
    and_of (slice_index new (near_slot window)) (slice_index new (far_slot window)) group
    (ap (λ n. bit_at (slice_index new n) group) (sym is_near) ∙ grows.stays near group first)
    (ap (λ n. bit_at (slice_index new n) group) (sym is_far) ∙ second)

pub window_stays : (old new : List ℕ) (window group : ℕ) → Grows old new → bit_at (groups_of old window) group ≡ 1 → bit_at (groups_of new window) group ≡ 1
unfolding groups_of
window_stays old new window group grows h =
    let parts = and_parts_of (slice_index old (near_slot window)) (slice_index old (far_slot window)) group h in
    and_of (slice_index new (near_slot window)) (slice_index new (far_slot window)) group (grows.stays (near_slot window) group parts.0) (grows.stays (far_slot window) group parts.1)

-- a pattern that is marked, if more is marked
pub marked_stays : (width : Width) (stride short more : ℕ) (old new pattern : List ℕ) (group : ℕ) → Grows old new → IsMarked width stride short old pattern group → IsMarked width stride (bit_or short more) new pattern group
marked_stays width stride short more old new pattern group grows (inl h) = inl (or_keeps short more group h)
marked_stays width stride short more old new pattern group grows (inr marked) = inr (record {
  long = marked.long;
  each = λ offset within. window_stays old new (window_at width pattern offset) group grows (marked.each offset within);
})

pub marked_now : (width : Width) (stride short more : ℕ) (table pattern : List ℕ) (group : ℕ) → IsMarked width stride more table pattern group → IsMarked width stride (bit_or short more) table pattern group
marked_now width stride short more table pattern group (inl h) = inl (or_adds short more group h)
marked_now width stride short more table pattern group (inr marked) = inr marked

pub grows_on : (old middle new : List ℕ) → Grows old middle → Grows middle new → Grows old new
grows_on old middle new first second = record { stays = λ slot group h. second.stays slot group (first.stays slot group h) }

-- among as many consecutive places as a stride is one at which a pass looks
record Turn (stride place : ℕ) : Type 0 where
  turn : ℕ
  behind : place ≤ turn * stride
  near : turn * stride < place + stride

turn_near : (stride place : ℕ) → 0 < stride → Turn stride place
turn_near stride place some =
    let all = place + stride - 1 in
    let whole : stride * (all / stride) + all % stride ≡ all = omega arith in
    let left : all % stride < stride = omega arith in
    record { turn = all / stride; behind = omega arith; near = omega arith }

-- the groups that a pass reports have each pattern that occurs
pub catches : (width : Width) (stride short : ℕ) (table payload : List ℕ) (patterns : List (List ℕ)) (groups : ℕ) → 0 < stride → IsSieveOf width stride short table patterns → Tells width stride short table payload groups →
    HasAll patterns payload groups
catches width stride short table payload patterns groups some sieve told = record { each = λ place within there. caught (get_or patterns place []) (place % 64) there (sieve.each place within) }
  where
    caught : (pattern : List ℕ) (group : ℕ) → occurs pattern payload ≡ true → IsMarked width stride short table pattern group → bit_at groups group ≡ 1
    caught pattern group there (inl h) = told.always group h
    caught pattern group there (inr marked) =
        let found = stands pattern payload there in
        let place = length found.before in
        let at : OccursAt payload pattern place = standing_at pattern found.before found.behind payload found.whole in
        let t = turn_near stride place some in
        let offset = t.turn * stride - place in
        let fits = at.fits in
        let long = marked.long in
        let wide = some_bytes width in
        let behind = t.behind in
        let near = t.near in
        let same : place + offset ≡ t.turn * stride = omega arith in
        let window : window_at width payload (t.turn * stride) ≡ window_at width pattern offset = ap (window_at width payload) (sym same) ∙ same_window pattern payload place offset at width (omega arith) in
        told.seen t.turn group (omega arith) (ap (λ w. bit_at (groups_of table w) group) window ∙ marked.each offset (omega arith))

pub same_sieve : (one other : Sieve) (patterns same : List (List ℕ)) → one ≡ other → patterns ≡ same → IsSieveOf one.width one.stride one.short one.table.items patterns → IsSieveOf other.width other.stride other.short other.table.items same
same_sieve one other patterns same is_other is_same sieve =
    subst (λ l. IsSieveOf other.width other.stride other.short other.table.items l) is_same (subst (λ s. IsSieveOf s.width s.stride s.short s.table.items patterns) is_other sieve)

-- an element by its place
pub element_there : (patterns : List (List ℕ)) (place : ℕ) (pattern : List ℕ) → place < length patterns → pattern ≡ get_or patterns place pattern → pattern ≡ get_or patterns place []
element_there patterns place pattern within is = is ∙ get_or_default patterns place pattern [] within

pub occurs_there : (patterns : List (List ℕ)) (payload : List ℕ) (place : ℕ) (pattern : List ℕ) → place < length patterns → pattern ≡ get_or patterns place pattern → occurs pattern payload ≡ true →
    occurs (get_or patterns place []) payload ≡ true
occurs_there patterns payload place pattern within is there = ap (λ p. occurs p payload) (sym (element_there patterns place pattern within is)) ∙ there

-- without a group none occurs
pub no_group : (patterns : List (List ℕ)) (payload : List ℕ) (groups place : ℕ) → HasAll patterns payload groups → groups ≡ 0 → place < length patterns → occurs (get_or patterns place []) payload ≡ false
no_group patterns payload groups place all none within = false_from_ne_true (occurs (get_or patterns place []) payload) (λ there.
    let bit = all.each place within there in
    let zero_bit : bit_at groups (place % 64) ≡ 0 = ap (λ n. bit_at n (place % 64)) none ∙ bit_at-zero (place % 64) in
    absurd (omega arith))
