-- Believed: the lines of a balancer: `set vip` with an address, once, and `rule backend` with an address of the same
-- version of IP, at least once.
use Rattle.std.specs.Prelude.{ℕ, List, [], ◌∷◌, Bool, true, false, not, if◌then◌else◌, Option, Some, None, find, codes}
use Rattle.std.specs.Option.{option_map, option_map_or, option_and_then}
use Rattle.std.specs.Str.{bytes_eq}
use Rattle.std.specs.declared.net.ip_addr.IpAddr.{IpAddr}
use Rattle.function_lines.specs.KindLines.{KindLines}
use Rattle.nf_translate.specs.declared.balancer_lines.BalancerLine.{BalancerLine}
use Rattle.nf_translate.specs.declared.balancer_lines.BalancerLine.TheVariants as lines
use Rattle.nf_translate.specs.Addresses.{ip_address_of, is_same_version}

-- the virtual address: vip, and the address
abbrev pub virtual_address_of : List ℕ → List ℕ → Option BalancerLine
virtual_address_of key text = if bytes_eq key (codes "vip") then option_map (λ address. lines.VirtualAddress address) (ip_address_of text) else None

abbrev pub backend_of : List ℕ → List ℕ → Option BalancerLine
backend_of key text = if bytes_eq key (codes "backend") then option_map (λ address. lines.Backend address) (ip_address_of text) else None

-- what a line says, none if it is no line of a balancer
unfoldable pub line_of : List (List ℕ) → Option BalancerLine
line_of (lead ∷ key ∷ text ∷ []) =
    if bytes_eq lead (codes "set") then virtual_address_of key text else
    if bytes_eq lead (codes "rule") then backend_of key text else None
line_of words = None

abbrev pub is_virtual_address : BalancerLine → Bool
is_virtual_address (lines.VirtualAddress address) = true
is_virtual_address line = false

abbrev pub is_backend : BalancerLine → Bool
is_backend (lines.Backend address) = true
is_backend line = false

-- the virtual address that a line sets
abbrev pub virtual_in : BalancerLine → Option IpAddr
virtual_in (lines.VirtualAddress address) = Some address
virtual_in line = None

-- the backend that a line adds
abbrev pub backend_in : BalancerLine → Option IpAddr
backend_in (lines.Backend address) = Some address
backend_in line = None

-- the virtual address: that of the first line that sets one
abbrev pub virtual_address_by : List BalancerLine → Option IpAddr
virtual_address_by said = option_and_then virtual_in (find is_virtual_address said)

-- a backend can't be beside a virtual address of the other version of IP
abbrev pub clashes : List BalancerLine → BalancerLine → Bool
clashes said (lines.Backend address) = option_map_or (λ virtual. not (is_same_version virtual address)) (virtual_address_by said) false
clashes said line = false

-- the lines of a balancer: the virtual address and some backend are required
abbrev pub balancer_lines : KindLines BalancerLine
balancer_lines = record { line_of = line_of; required = is_virtual_address ∷ is_backend ∷ []; clashes = clashes }
