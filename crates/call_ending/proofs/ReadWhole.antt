-- A text that was read to its end, and a fact about what was read.
use Rattle.std.proofs.Common.{◌≡◌, ℕ, List, [], refl, sym, subst}
use Rattle.std.specs.Prelude.{Option, Some, None, IfSome, MatchOption}
use Rattle.nfp_outside.specs.Outside.{ReadsAll, SlotView}
use Rattle.call_ending.specs.Told.{OfBytes, IsReadWhole}

-- nothing is left of a text of which all bytes were read
pub all_read : (all : List ℕ) (max : ℕ) (old new : SlotView) → ReadsAll all max old new → IsReadWhole new
all_read all max old new reads = go old.bytes reads.told
  where
    go : (o : Option (List ℕ)) → MatchOption o (new.bytes ≡ None) (λ bytes. (bytes ≡ all) × (new.bytes ≡ Some [])) → IsReadWhole new
    go None left = subst (λ o. IfSome o (λ bytes. bytes ≡ [])) (sym left) tt
    go (Some bytes) (is, left) = subst (λ o. IfSome o (λ bytes. bytes ≡ [])) (sym left) refl

-- a fact about what was read
pub of_read : (o : Option (List ℕ)) (read : List ℕ) (P : List ℕ → Type 0) → IfSome o (λ bytes. bytes ≡ read) → P read → OfBytes o P
of_read None read P is here = (read, here)
of_read (Some bytes) read P is here = subst P (sym is) here
