-- Believed: what is known of a slot that was read, and which format a capture has.
use Rattle.std.specs.Prelude.{◌≡◌, ℕ, List, [], ◌∷◌, take, Bool, Option, Some, None, IfSome}
use Rattle.std.specs.Str.{bytes_eq}
use Rattle.nfp_outside.specs.Outside.{SlotView}

-- a fact about the bytes of a slot that was read: those that the desk shows, or some bytes if it shows none
abbrev pub OfBytes : Option (List ℕ) → (List ℕ → Type 0) → Type 0
OfBytes None P = (bytes : List ℕ) × P bytes
OfBytes (Some bytes) P = P bytes

-- nothing is left of a slot that is read, if the desk shows it
abbrev pub IsReadWhole : SlotView → Type 0
IsReadWhole slot = IfSome slot.bytes (λ bytes. bytes ≡ [])

-- these first four bytes are the type of a section header block, with which a pcapng capture begins
abbrev pub is_ng_front : List ℕ → Bool
is_ng_front first = bytes_eq first (0x0a ∷ 0x0d ∷ 0x0d ∷ 0x0a ∷ [])

abbrev pub is_ng : List ℕ → Bool
is_ng capture = is_ng_front (take 4 capture)
