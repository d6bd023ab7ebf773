-- Believed: a translation's lines: `set inside` a prefix, `set public` an address, `set ports` two ports, each once.
use Rattle.std.specs.Prelude.{ℕ, List, [], ◌∷◌, Bool, true, false, if◌then◌else◌, ◌==◌, Option, Some, None, codes}
use Rattle.std.specs.List.{list_any}
use Rattle.std.specs.Option.{option_map, option_and_then}
use Rattle.std.specs.Str.{bytes_eq}
use Rattle.policy_text.specs.Values.{address_of, prefix_of, range_of}
use Rattle.function_lines.specs.KindLines.{KindLines, never_clash}
use Rattle.nf_translate.specs.declared.nat_lines.NatLine.{NatLine}
use Rattle.nf_translate.specs.declared.nat_lines.NatLine.TheVariants as lines

-- a dash is the byte 45
abbrev pub has_dash : List ℕ → Bool
has_dash text = list_any (λ b. b == 45) text

-- two ports with a dash between them, from 1 on, the first at most the second
abbrev pub ports_of : List ℕ → Option NatLine
ports_of text = if has_dash text then option_and_then (λ ports. if ports.0 == 0 then None else Some (lines.Ports ports.0 ports.1)) (range_of text) else None

-- what is set, and to which value
abbrev pub value_of : List ℕ → List ℕ → Option NatLine
value_of key text =
    if bytes_eq key (codes "inside") then option_map (λ p. lines.Inside p.0 p.1) (prefix_of text) else
    if bytes_eq key (codes "public") then option_map (λ address. lines.Public address) (address_of text) else
    if bytes_eq key (codes "ports") then ports_of text else None

-- what a line says, none if it is no line of a translation
unfoldable pub line_of : List (List ℕ) → Option NatLine
line_of (lead ∷ key ∷ text ∷ []) = if bytes_eq lead (codes "set") then value_of key text else None
line_of words = None

abbrev pub is_inside : NatLine → Bool
is_inside (lines.Inside prefix bits) = true
is_inside line = false

abbrev pub is_public : NatLine → Bool
is_public (lines.Public address) = true
is_public line = false

abbrev pub is_ports : NatLine → Bool
is_ports (lines.Ports low high) = true
is_ports line = false

-- the lines of a translation, all of which are required
abbrev pub nat_lines : KindLines NatLine
nat_lines = record { line_of = line_of; required = is_inside ∷ is_public ∷ is_ports ∷ []; clashes = never_clash }
