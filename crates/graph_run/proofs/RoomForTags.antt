-- Room for tags that remains.
use Rattle.std.proofs.Common.{◌≡◌, ◌∙◌, ◌≤◌, ◌+◌, ◌-◌, ◌*◌, ℕ, zero, suc, List, [], ◌∷◌, length, drop, ap, arith}
use Rattle.std.specs.Prelude.{Option, Some, None, IfSome, count_by, if◌then◌else◌, slice_get}
use Rattle.std.proofs.Math.Seq.{drop-nil}
use Rattle.std.proofs.lemmas.List.Sums.{sum_by-cons}
use Rattle.std.proofs.lemmas.Option.{same_Some}
use Rattle.action_profile.specs.declared.rights.Profile.{Profile}
use Rattle.graph_compile.specs.Parts.{profile_at}
use Rattle.packet_version.specs.Parts.{PlainPart, Parts}
use Rattle.graph_run.specs.Rooms.{adders_from, HasRoomFrom}

abbrev adds_one : Profile → ℕ
adds_one p = if p.adds then 1 else 0

-- the function at an index, and those after it
count_at : (chain : List Profile) (n : ℕ) (p : Profile) → slice_get chain n ≡ Some p → count_by (λ p. p.adds) (drop n chain) ≡ adds_one p + count_by (λ p. p.adds) (drop (suc n) chain)
count_at [] n p is = absurd cc
count_at (x ∷ chain) zero p is = sum_by-cons adds_one x chain ∙ ap (λ y. adds_one y + count_by (λ p. p.adds) chain) (same_Some x p is)
count_at (x ∷ chain) (suc n) p is = count_at chain n p is

bounded : (all one rest later : ℕ) → all ≡ one + rest → later ≤ rest → later ≤ all
bounded all one rest later is less = omega arith

count_later : (chain : List Profile) (n m : ℕ) → n ≤ m → count_by (λ p. p.adds) (drop m chain) ≤ count_by (λ p. p.adds) (drop n chain)
count_later [] n m le = rw (drop-nil {A = Profile} m, drop-nil {A = Profile} n) (omega arith)
count_later (x ∷ chain) zero zero le = omega arith
count_later (x ∷ chain) zero (suc m) le = bounded _ _ _ _ (sum_by-cons adds_one x chain) (count_later chain zero m (omega arith))
count_later (x ∷ chain) (suc n) zero le = absurd (omega arith)
count_later (x ∷ chain) (suc n) (suc m) le = count_later chain n m (omega arith)

pub adders_at : (chain : List Profile) (q : ℕ) (p : Profile) → 1 ≤ q → profile_at chain q ≡ Some p → adders_from chain q ≡ adds_one p + adders_from chain (q + 1)
adders_at chain q p pos is = let next : suc (q - 1) ≡ q + 1 - 1 = omega arith in count_at chain (q - 1) p is ∙ ap (λ n. adds_one p + count_by (λ p. p.adds) (drop n chain)) next

pub adders_later : (chain : List Profile) (low q : ℕ) → low ≤ q → adders_from chain q ≤ adders_from chain low
adders_later chain low q le = count_later chain (low - 1) (q - 1) (omega arith)

-- less room is needed from a later position on
pub room_later : (chain : List Profile) (low q : ℕ) (parts : Parts) → low ≤ q → HasRoomFrom chain low parts → HasRoomFrom chain q parts
room_later chain low q parts le room = by_part _ room
  where
    by_part : (o : Option PlainPart) → IfSome o (λ tags. length tags.bytes + 4 * adders_from chain low ≤ tags.room) → IfSome o (λ tags. length tags.bytes + 4 * adders_from chain q ≤ tags.room)
    by_part None h = tt
    by_part (Some p) h = let less = adders_later chain low q le in omega arith
