-- A bucket pays for all packets of a source that keeps to its rate.
use Rattle.std.proofs.Common.{◌≡◌, ◌≤◌, ◌+◌, ◌-◌, ◌*◌, ◌∙◌, ℕ, List, [], ◌∷◌, Bool, true, refl, ap, arith}
use Rattle.std.proofs.Math.Nat.{add-mul, zero-mul, mul-le-mul_right}
use Rattle.std.specs.Prelude.{if◌then◌else◌}
use Rattle.nf_observe.specs.Buckets.{tokens_of, full, filled, affords, paid}
use Rattle.nf_observe.specs.Spending.{Arrival, bytes_paid, bytes_of, IsCovered, IsConforming}
use Rattle.nf_observe.specs.declared.bucket.TokenBucket.{TokenBucket}

-- if two coverings give a third for each packet, they give it for all
moved : (rate : ℕ) (k1 m1 s1 k2 m2 s2 k3 m3 s3 : ℕ) →
    ((time bytes : ℕ) → tokens_of (s1 + bytes) ≤ k1 + (time - m1) * rate → tokens_of (s2 + bytes) ≤ k2 + (time - m2) * rate → tokens_of (s3 + bytes) ≤ k3 + (time - m3) * rate) →
    (packets : List Arrival) → IsCovered rate k1 m1 s1 packets → IsCovered rate k2 m2 s2 packets → IsCovered rate k3 m3 s3 packets
moved rate k1 m1 s1 k2 m2 s2 k3 m3 s3 each [] one two = tt
moved rate k1 m1 s1 k2 m2 s2 k3 m3 s3 each (p ∷ later) one two = (
  each p.0 p.1 one.0 two.0,
  moved rate k1 m1 (s1 + p.1) k2 m2 (s2 + p.1) k3 m3 (s3 + p.1)
      (λ time bytes a b. omega (arith, each time (p.1 + bytes) (omega (arith, a)) (omega (arith, b))))
      later one.1 two.1,
)

-- a span is no longer than two that go the same way
within_spans : (first middle last rate : ℕ) → (last - first) * rate ≤ (last - middle) * rate + (middle - first) * rate
within_spans first middle last rate =
    let more = mul-le-mul_right {m = last - first} {n = last - middle + (middle - first)} rate (omega arith) in
    omega (arith, more, add-mul (last - middle) (middle - first) rate)

no_span : (time rate : ℕ) → (time - time) * rate ≡ 0
no_span time rate = ap (λ n. n * rate) (omega arith) ∙ zero-mul rate

affords_next : (rate burst : ℕ) (b : TokenBucket) (p : Arrival) → tokens_of (0 + p.1) ≤ b.tokens + (p.0 - b.moment) * rate → tokens_of (0 + p.1) ≤ tokens_of burst + (p.0 - p.0) * rate → affords (filled rate burst p.0 b) p.1 ≡ true
affords_next rate burst b p had full = let none = no_span p.0 rate in grind arith

covers_later : (rate burst : ℕ) (b : TokenBucket) (p : Arrival) (later : List Arrival) → affords (filled rate burst p.0 b) p.1 ≡ true →
    IsCovered rate b.tokens b.moment (0 + p.1) later → IsCovered rate (tokens_of burst) p.0 (0 + p.1) later →
    IsCovered rate (paid (filled rate burst p.0 b) p.1).tokens (paid (filled rate burst p.0 b) p.1).moment 0 later
covers_later rate burst b p later pays one two =
    moved rate b.tokens b.moment (0 + p.1) (tokens_of burst) p.0 (0 + p.1) (paid (filled rate burst p.0 b) p.1).tokens (paid (filled rate burst p.0 b) p.1).moment 0
    (λ time bytes x y. let spans = within_spans b.moment p.0 time rate in grind arith)
    later one two

all_paid : (rate burst : ℕ) (b : TokenBucket) (packets : List Arrival) → IsCovered rate b.tokens b.moment 0 packets → IsConforming rate burst packets → bytes_paid rate burst b packets ≡ bytes_of packets
all_paid rate burst b [] covered conforming = refl
all_paid rate burst b (p ∷ later) covered conforming =
    let pays = affords_next rate burst b p covered.0 conforming.0.0 in
    let rest = all_paid rate burst (paid (filled rate burst p.0 b) p.1) later (covers_later rate burst b p later pays covered.1 conforming.0.1) conforming.1 in
    ap (λ (a : Bool). (if a then p.1 else 0) + bytes_paid rate burst (paid (filled rate burst p.0 b) p.1) later) pays ∙ ap (λ n. p.1 + n) rest

pub conforming_pass : (rate burst : ℕ) (p : Arrival) (later : List Arrival) → IsConforming rate burst (p ∷ later) → bytes_paid rate burst (full burst p.0) (p ∷ later) ≡ bytes_of (p ∷ later)
conforming_pass rate burst p later conforming = all_paid rate burst (full burst p.0) (p ∷ later) conforming.0 conforming
