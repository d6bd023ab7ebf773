-- Believed: the Ethernet frame: two addresses of six bytes, tags of four bytes each, and a packet, which begins
-- with its EtherType (IEEE 802.3, 3.1.1; IEEE 802.1Q, 9.3).
use Rattle.std.specs.Prelude.{◌≡◌, ◌≤◌, ℕ, ◌+◌, ◌*◌, List, [], ◌∷◌, ◌++◌, length, take, drop, Bool, true, false, if◌then◌else◌, ◌==◌, ◌&&◌, ◌||◌, nat_le, Option, Some, None, slice_index}

-- the 16-bit number at a place, its high byte first
abbrev pub word : List ℕ → ℕ → ℕ
word bytes at = slice_index bytes at * 256 + slice_index bytes (at + 1)

-- the identifier of a customer tag or of a service tag (IEEE 802.1Q, 9.5)
abbrev pub is_tpid : ℕ → Bool
is_tpid n = (n == 0x8100) || (n == 0x88a8)

-- whole tags, one after another: an identifier, and two bytes of priority, eligibility and VLAN
unfoldable pub is_tag_list : List ℕ → Bool
is_tag_list [] = true
is_tag_list (a ∷ b ∷ c ∷ d ∷ rest) = is_tpid (a * 256 + b) && is_tag_list rest
is_tag_list rest = false

-- a tag is at the front, and an EtherType can still follow it
abbrev pub begins_tag : List ℕ → Bool
begins_tag bytes = nat_le 6 (length bytes) && is_tpid (word bytes 0)

-- the number of bytes of the tags at the front; a tag counts only if an EtherType can still follow it
unfoldable pub tags_len : List ℕ → ℕ
tags_len (a ∷ b ∷ c ∷ d ∷ e ∷ f ∷ rest) = if is_tpid (a * 256 + b) then tags_len (e ∷ f ∷ rest) + 4 else 0
tags_len rest = 0

-- where the EtherType lies
abbrev pub type_at : List ℕ → Option ℕ
type_at frame = if nat_le 14 (length frame) then Some (tags_len (drop 12 frame) + 12) else None

-- where the packet begins: at its EtherType, or at the frame's end if there is none
abbrev pub packet_at : List ℕ → ℕ
packet_at frame = if nat_le 14 (length frame) then tags_len (drop 12 frame) + 12 else length frame

-- the packet, from its EtherType on
abbrev pub packet : List ℕ → List ℕ
packet frame = drop (packet_at frame) frame

-- the frame's tags
abbrev pub tags_of : List ℕ → List ℕ
tags_of frame = take (tags_len (drop 12 frame)) (drop 12 frame)

-- a frame consists of these parts: twelve bytes of addresses, whole tags, and a packet whose EtherType is
-- captured and is no further tag
pub record IsFramed (addresses tags packet frame : List ℕ) : Type 0 where
  pub joined : frame ≡ addresses ++ (tags ++ packet)
  pub addresses_len : length addresses ≡ 12
  pub whole_tags : is_tag_list tags ≡ true
  pub has_type : 2 ≤ length packet
  pub ends : begins_tag packet ≡ false
