-- A field that is present.
use Rattle.std.proofs.Common.{◌≡◌, List, ℕ, true, refl}
use Rattle.std.specs.Prelude.{Option, Some, None, is_some, IfSome, IsSomeAnd, option_map}
use Rattle.packet_version.specs.Parts.{PlainPart}

-- a value is present if its part is
pub same_there : (part : Option PlainPart) → is_some part ≡ is_some (option_map (λ p. p.bytes) part)
same_there None = refl
same_there (Some p) = refl

-- and what holds for it if it is present holds for it
pub is_there : (P : List ℕ → Type 0) (part : Option PlainPart) → is_some part ≡ true → IfSome (option_map (λ p. p.bytes) part) P → IsSomeAnd (option_map (λ p. p.bytes) part) P
is_there P None is holds = absurd cc
is_there P (Some p) is holds = holds
