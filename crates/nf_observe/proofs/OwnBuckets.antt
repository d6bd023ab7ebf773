-- Packets from one source change its own bucket alone.
use Rattle.std.proofs.Common.{◌≡◌, ◌∙◌, ℕ, List, Bool, true, false, Option, Some, refl, ap, subst}
use Rattle.std.specs.Prelude.{if◌then◌else◌}
use Rattle.std.specs.Option.{option_map_or}
use Rattle.std.specs.contracts.net.ip_addr.IpAddrPartialEq.TheImpl as addresses
use Rattle.std.specs.declared.net.ip_addr.IpAddr.{IpAddr}
use Rattle.std.specs.declared.net.ip_addr.IpAddr.TheVariants.{V4, V6}
use Rattle.first_sight.specs.FirstSight.{belonging, noted}
use Rattle.first_sight.specs.SameAddress.{is_same_address}
use Rattle.nf_observe.specs.Buckets.{full, filled, paid}
use Rattle.nf_observe.specs.Limiters.{bucket_of, limited}
use Rattle.nf_observe.specs.declared.bucket.TokenBucket.{TokenBucket}
use Rattle.nf_observe.specs.declared.limiter.Limiter.{Limiter}

-- what was noted for a key is found again, and nothing else has changed
abbrev pub IsFoundBy : (IpAddr → IpAddr → Bool) → Type 0
IsFoundBy eq = (seen : List (IpAddr × TokenBucket)) (key asked : IpAddr) (value : TokenBucket) →
    belonging eq (noted eq seen key value) asked ≡ (if eq asked key then Some value else belonging eq seen asked)

abbrev pub IsFound : Type 0
IsFound = IsFoundBy is_same_address

-- the code's comparison of addresses decides whether they are the same
agrees : (a b : IpAddr) → addresses.ghosts.eq a b ≡ is_same_address a b
agrees (V4 a) (V4 b) = refl
agrees (V4 a) (V6 b) = refl
agrees (V6 a) (V4 b) = refl
agrees (V6 a) (V6 b) = refl

pub as_compared : IsFoundBy addresses.ghosts.eq → IsFound
as_compared found = subst IsFoundBy (λ i a b. agrees a b i) found

found_by : (b : Bool) {A : Type 0} (mine rest : A) → b ≡ true → (if b then mine else rest) ≡ mine
found_by true mine rest is = refl
found_by false mine rest is = absurd cc

rest_by : (b : Bool) {A : Type 0} (mine rest : A) → b ≡ false → (if b then mine else rest) ≡ rest
rest_by false mine rest is = refl
rest_by true mine rest is = absurd cc

abbrev bucket_by : Limiter → ℕ → Option TokenBucket → TokenBucket
bucket_by l later found = option_map_or (filled l.rate l.burst later) found (full l.burst later)

pub pays_alone : IsFound → (l : Limiter) (source same : IpAddr) (bytes time later : ℕ) → is_same_address same source ≡ true →
    bucket_of (limited l source bytes time).after same later ≡ filled l.rate l.burst later (paid (bucket_of l source time) bytes)
pays_alone found l source same bytes time later is =
    ap (bucket_by l later) (found l.sources source same (paid (bucket_of l source time) bytes) ∙ found_by (is_same_address same source) _ _ is)

pub others_stay : IsFound → (l : Limiter) (source other : IpAddr) (bytes time later : ℕ) → is_same_address other source ≡ false →
    bucket_of (limited l source bytes time).after other later ≡ bucket_of l other later
others_stay found l source other bytes time later differ =
    ap (bucket_by l later) (found l.sources source other (paid (bucket_of l source time) bytes) ∙ rest_by (is_same_address other source) _ _ differ)
