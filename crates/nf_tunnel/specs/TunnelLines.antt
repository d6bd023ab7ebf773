-- Believed: the required lines of a tunnel's ends. Entry: `set entry` and `set exit`, each with an IPv4 address, and
-- `set ttl` with a number from 1 to 255. Exit: `set exit` with an IPv4 address.
use Rattle.std.specs.Prelude.{ℕ, List, [], ◌∷◌, Bool, true, false, ◌==◌, if◌then◌else◌, Option, Some, None, codes}
use Rattle.std.specs.Int.{w32, to_be_bytes}
use Rattle.std.specs.Option.{option_map}
use Rattle.std.specs.Str.{bytes_eq}
use Rattle.std.specs.declared.net.ipv4_addr.Ipv4Addr.{Ipv4Addr}
use Rattle.policy_text.specs.Values.{number_of, address_of}
use Rattle.function_lines.specs.KindLines.{KindLines, never_clash}
use Rattle.nf_tunnel.specs.declared.encap.lines.EntryLine.{EntryLine}
use Rattle.nf_tunnel.specs.declared.encap.lines.EntryLine.TheVariants as entries
use Rattle.nf_tunnel.specs.declared.decap.lines.ExitLine.{ExitLine}
use Rattle.nf_tunnel.specs.declared.decap.lines.ExitLine.TheVariants as exits

-- the address that is this number of 32 bits, the highest byte first (RFC 791, 3.1)
abbrev pub ipv4_address : ℕ → Ipv4Addr
ipv4_address bits = record { octets = to_be_bytes w32 bits }

-- the address that a text spells
abbrev pub address_by : List ℕ → Option Ipv4Addr
address_by text = option_map ipv4_address (address_of text)

-- a number that isn't 0
abbrev pub positive : Option ℕ → Option ℕ
positive None = None
positive (Some n) = if n == 0 then None else Some n

-- a time to live: from 1 to the largest of its 8 bits (RFC 791, 3.1)
abbrev pub ttl_of : List ℕ → Option ℕ
ttl_of word = positive (number_of 20 255 word)

-- what is set at an entry, and to which value
abbrev pub entry_setting_of : List ℕ → List ℕ → Option EntryLine
entry_setting_of key text =
    if bytes_eq key (codes "entry") then option_map (λ a. entries.Entry a) (address_by text) else
    if bytes_eq key (codes "exit") then option_map (λ a. entries.Exit a) (address_by text) else
    if bytes_eq key (codes "ttl") then option_map (λ n. entries.Ttl n) (ttl_of text) else None

-- what a line says, none if it is no line of an entry
unfoldable pub entry_line_of : List (List ℕ) → Option EntryLine
entry_line_of (lead ∷ key ∷ text ∷ []) = if bytes_eq lead (codes "set") then entry_setting_of key text else None
entry_line_of words = None

abbrev pub is_entry : EntryLine → Bool
is_entry (entries.Entry a) = true
is_entry line = false

abbrev pub is_entry_exit : EntryLine → Bool
is_entry_exit (entries.Exit a) = true
is_entry_exit line = false

abbrev pub is_ttl : EntryLine → Bool
is_ttl (entries.Ttl n) = true
is_ttl line = false

-- the lines of an entry, all of which are required
abbrev pub entry_lines : KindLines EntryLine
entry_lines = record { line_of = entry_line_of; required = is_entry ∷ is_entry_exit ∷ is_ttl ∷ []; clashes = never_clash }

-- what is set at an exit, and to which value
abbrev pub exit_setting_of : List ℕ → List ℕ → Option ExitLine
exit_setting_of key text = if bytes_eq key (codes "exit") then option_map (λ a. exits.Exit a) (address_by text) else None

-- what a line says, none if it is no line of an exit
unfoldable pub exit_line_of : List (List ℕ) → Option ExitLine
exit_line_of (lead ∷ key ∷ text ∷ []) = if bytes_eq lead (codes "set") then exit_setting_of key text else None
exit_line_of words = None

abbrev pub is_exit : ExitLine → Bool
is_exit (exits.Exit a) = true

-- the line of an exit, which is required
abbrev pub exit_lines : KindLines ExitLine
exit_lines = record { line_of = exit_line_of; required = is_exit ∷ []; clashes = never_clash }
