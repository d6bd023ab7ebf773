-- A bucket pays for no more than it had and what came in.
use Rattle.std.proofs.Common.{◌≡◌, ◌≤◌, ◌+◌, ◌-◌, ◌*◌, ◌∙◌, ℕ, List, [], ◌∷◌, ◌++◌, refl, sym, ap, subst, arith}
use Rattle.std.proofs.Math.Nat.{add-mul, mul-le-mul_right}
use Rattle.std.specs.Prelude.{if◌then◌else◌}
use Rattle.nf_observe.specs.Buckets.{tokens_of, full, filled, affords, paid}
use Rattle.nf_observe.specs.Spending.{Arrival, left_by, bytes_paid, IsWithinRate}
use Rattle.nf_observe.specs.declared.bucket.TokenBucket.{TokenBucket}

-- spans that follow one another
spans : (first middle last rate : ℕ) → first ≤ middle → middle ≤ last → (last - middle) * rate + (middle - first) * rate ≡ (last - first) * rate
spans first middle last rate a b = sym (add-mul (last - middle) (middle - first) rate) ∙ ap (λ n. n * rate) (omega arith)

fills : (rate burst time : ℕ) (b : TokenBucket) → IsWithinRate rate b (filled rate burst time b) 0
fills rate burst time b = record { later = grind arith; bounded = grind arith }

pays : (rate : ℕ) (b : TokenBucket) (bytes : ℕ) → IsWithinRate rate b (paid b bytes) (if affords b bytes then bytes else 0)
pays rate b bytes = record { later = grind arith; bounded = grind arith }

follows : (rate : ℕ) (a b c : TokenBucket) (first second both : ℕ) → IsWithinRate rate a b first → IsWithinRate rate b c second → both ≡ first + second → IsWithinRate rate a c both
follows rate a b c first second both h k e =
    let together = spans a.moment b.moment c.moment rate h.later k.later in
    record { later = omega (arith, h.later, k.later); bounded = omega (arith, e, together, h.bounded, k.bounded) }

none_paid : (rate : ℕ) (b : TokenBucket) → IsWithinRate rate b b 0
none_paid rate b = record { later = omega arith; bounded = grind arith }

pub stays_within : (rate burst : ℕ) (b : TokenBucket) (packets : List Arrival) → IsWithinRate rate b (left_by rate burst b packets) (bytes_paid rate burst b packets)
stays_within rate burst b [] = none_paid rate b
stays_within rate burst b (p ∷ later) =
    let now = filled rate burst p.0 b in
    let bytes = if affords now p.1 then p.1 else 0 in
    let first = follows rate b now (paid now p.1) 0 bytes bytes (fills rate burst p.0 b) (pays rate now p.1) (omega arith) in
    follows rate b (paid now p.1) (left_by rate burst (paid now p.1) later) bytes (bytes_paid rate burst (paid now p.1) later) (bytes_paid rate burst b (p ∷ later)) first (stays_within rate burst (paid now p.1) later) refl

-- a bucket that holds no more than a burst never does
fills_no_more : (rate burst time : ℕ) (b : TokenBucket) → b.tokens ≤ tokens_of burst → (filled rate burst time b).tokens ≤ tokens_of burst
fills_no_more rate burst time b few = grind arith

pays_no_less : (b : TokenBucket) (bytes : ℕ) → (paid b bytes).tokens ≤ b.tokens
pays_no_less b bytes = grind arith

holds_no_more : (rate burst : ℕ) (b : TokenBucket) (packets : List Arrival) → b.tokens ≤ tokens_of burst → (left_by rate burst b packets).tokens ≤ tokens_of burst
holds_no_more rate burst b [] few = few
holds_no_more rate burst b (p ∷ later) few =
    let now = filled rate burst p.0 b in
    holds_no_more rate burst (paid now p.1) later (omega (arith, fills_no_more rate burst p.0 b few, pays_no_less now p.1))

-- packets in two groups are packets in a row
in_a_row : (rate burst : ℕ) (b : TokenBucket) (earlier packets : List Arrival) → left_by rate burst b (earlier ++ packets) ≡ left_by rate burst (left_by rate burst b earlier) packets
in_a_row rate burst b [] packets = refl
in_a_row rate burst b (p ∷ earlier) packets = in_a_row rate burst (paid (filled rate burst p.0 b) p.1) earlier packets

-- from its first packet on, for which the bucket is filled
row_from : (rate burst : ℕ) (b : TokenBucket) (p : Arrival) (later : List Arrival) → IsWithinRate rate (filled rate burst p.0 b) (left_by rate burst b (p ∷ later)) (bytes_paid rate burst b (p ∷ later))
row_from rate burst b p later =
    let now = filled rate burst p.0 b in
    let bytes = if affords now p.1 then p.1 else 0 in
    follows rate now (paid now p.1) (left_by rate burst (paid now p.1) later) bytes (bytes_paid rate burst (paid now p.1) later) (bytes_paid rate burst b (p ∷ later)) (pays rate now p.1) (stays_within rate burst (paid now p.1) later) refl

filled_up_to : (rate burst time : ℕ) (b : TokenBucket) → time ≤ (filled rate burst time b).moment
filled_up_to rate burst time b = grind arith

row_within : (rate burst : ℕ) (b : TokenBucket) (p : Arrival) (later : List Arrival) → b.tokens ≤ tokens_of burst →
    tokens_of (bytes_paid rate burst b (p ∷ later)) ≤ tokens_of burst + ((left_by rate burst b (p ∷ later)).moment - p.0) * rate
row_within rate burst b p later few =
    let now = filled rate burst p.0 b in
    let after = left_by rate burst b (p ∷ later) in
    let row = row_from rate burst b p later in
    let longer = mul-le-mul_right {m = after.moment - now.moment} {n = after.moment - p.0} rate (omega (arith, filled_up_to rate burst p.0 b)) in
    omega (arith, fills_no_more rate burst p.0 b few, row.bounded, longer)

pub any_row_within : (rate burst time : ℕ) (earlier : List Arrival) (first : Arrival) (later : List Arrival) →
    tokens_of (bytes_paid rate burst (left_by rate burst (full burst time) earlier) (first ∷ later)) ≤
    tokens_of burst + ((left_by rate burst (full burst time) (earlier ++ first ∷ later)).moment - first.0) * rate
any_row_within rate burst time earlier first later =
    let b = left_by rate burst (full burst time) earlier in
    let row = row_within rate burst b first later (holds_no_more rate burst (full burst time) earlier (omega arith)) in
    subst (λ (after : TokenBucket). tokens_of (bytes_paid rate burst b (first ∷ later)) ≤ tokens_of burst + (after.moment - first.0) * rate) (sym (in_a_row rate burst (full burst time) earlier (first ∷ later))) row

pub new_within : (rate burst time : ℕ) (packets : List Arrival) → tokens_of (bytes_paid rate burst (full burst time) packets) ≤ tokens_of burst + ((left_by rate burst (full burst time) packets).moment - time) * rate
new_within rate burst time packets = let all = stays_within rate burst (full burst time) packets in omega (arith, all.bounded)
