-- Believed: link addresses (IEEE 802, 8.2) and their bytes.
use Rattle.std.specs.Prelude.{ℕ, List, [], ◌∷◌, slice_index}
use Rattle.nf_mark.specs.declared.link_address.LinkAddress.{LinkAddress}

-- the address with these six bytes
abbrev pub link_of : List ℕ → LinkAddress
link_of bytes = record {
  0 = slice_index bytes 0;
  1 = slice_index bytes 1;
  2 = slice_index bytes 2;
  3 = slice_index bytes 3;
  4 = slice_index bytes 4;
  5 = slice_index bytes 5;
}

-- its bytes, as they are in a frame
abbrev pub link_bytes : LinkAddress → List ℕ
link_bytes a = a.0 ∷ a.1 ∷ a.2 ∷ a.3 ∷ a.4 ∷ a.5 ∷ []
