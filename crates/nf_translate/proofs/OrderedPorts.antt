-- The ports that are set: the first is at most the last.
use Rattle.std.proofs.Common.{◌≡◌, ◌≤◌, ℕ, List, [], ◌∷◌, Bool, true, false, Option, Some, None, refl, arith}
use Rattle.std.specs.Prelude.{if◌then◌else◌, nat_le, ◌==◌, IfSome, fold, codes}
use Rattle.std.specs.List.{cons_option, slice_split}
use Rattle.std.specs.Option.{option_map, option_and_then}
use Rattle.std.specs.Str.{bytes_eq}
use Rattle.policy_text.specs.Values.{address_of, prefix_of, range_of, range_of_parts, number_of, ordered}
use Rattle.policy_text.specs.declared.policy.FunctionDecl.{FunctionDecl}
use Rattle.policy_text.specs.declared.policy.Setting.{Setting}
use Rattle.function_lines.specs.KindLines.{said_by}
use Rattle.nf_translate.specs.declared.nat.NatSettings.{NatSettings}
use Rattle.nf_translate.specs.declared.nat_lines.NatLine.{NatLine}
use Rattle.nf_translate.specs.declared.nat_lines.NatLine.TheVariants as lines
use Rattle.nf_translate.specs.NatLines.{has_dash, ports_of, value_of, line_of, nat_lines}
use Rattle.nf_translate.specs.Nats.{no_settings, with_line, nat_of}
use Rattle.nf_translate.specs.Standing.{HasPorts}

-- the ports of a line are in order
abbrev InOrder : NatLine → Type 0
InOrder (lines.Ports low high) = low ≤ high
InOrder line = Unit {0}

one_port : (port : Option ℕ) → IfSome {T = ℕ × ℕ} (option_map (λ n. (n, n)) port) (λ r. r.0 ≤ r.1)
one_port None = tt
one_port (Some n) = omega arith

two_ports : (low high : Option ℕ) → IfSome (option_and_then (λ l. option_and_then (λ h. ordered l h) high) low) (λ r. r.0 ≤ r.1)
two_ports None high = tt
two_ports (Some l) None = tt
two_ports (Some l) (Some h) = by (nat_le l h) refl
  where
    by : (b : Bool) → nat_le l h ≡ b → IfSome {T = ℕ × ℕ} (if b then Some (l, h) else None) (λ r. r.0 ≤ r.1)
    by true is = grind arith
    by false is = tt

range_in_order : (parts : List (List ℕ)) → IfSome (range_of_parts parts) (λ r. r.0 ≤ r.1)
range_in_order [] = tt
range_in_order (port ∷ []) = one_port (number_of 20 65535 port)
range_in_order (low ∷ high ∷ []) = two_ports (number_of 20 65535 low) (number_of 20 65535 high)
range_in_order (low ∷ high ∷ more ∷ parts) = tt

ports_by : (dash : Bool) (range : Option (ℕ × ℕ)) → IfSome range (λ r. r.0 ≤ r.1) → IfSome (if dash then option_and_then (λ ports. if ports.0 == 0 then None else Some (lines.Ports ports.0 ports.1)) range else None) InOrder
ports_by false range is = tt
ports_by true None is = tt
ports_by true (Some ports) is = by (ports.0 == 0)
  where
    by : (b : Bool) → IfSome (if b then None else Some (lines.Ports ports.0 ports.1)) InOrder
    by true = tt
    by false = is

value_by : (inside public ports : Bool) (prefix : Option (ℕ × ℕ)) (address : Option ℕ) (last : Option NatLine) → IfSome last InOrder →
    IfSome (if inside then option_map (λ p. lines.Inside p.0 p.1) prefix else if public then option_map (λ a. lines.Public a) address else if ports then last else None) InOrder
value_by true public ports None address last is = tt
value_by true public ports (Some p) address last is = tt
value_by false true ports prefix None last is = tt
value_by false true ports prefix (Some a) last is = tt
value_by false false true prefix address last is = is
value_by false false false prefix address last is = tt

line_in_order : (words : List (List ℕ)) → IfSome (line_of words) InOrder
unfolding line_of
line_in_order [] = tt
line_in_order (lead ∷ []) = tt
line_in_order (lead ∷ key ∷ []) = tt
line_in_order (lead ∷ key ∷ text ∷ []) =
    let ports : IfSome (ports_of text) InOrder = ports_by (has_dash text) (range_of text) (range_in_order (slice_split (λ b. b == 45) text)) in
    by (bytes_eq lead (codes "set"))
    (value_by (bytes_eq key (codes "inside")) (bytes_eq key (codes "public")) (bytes_eq key (codes "ports")) (prefix_of text) (address_of text) (ports_of text) ports)
  where
    by : (b : Bool) → IfSome (value_of key text) InOrder → IfSome (if b then value_of key text else None) InOrder
    by true is = is
    by false is = tt
line_in_order (lead ∷ key ∷ text ∷ more ∷ words) = tt

said_in_order : (settings : List Setting) (s : NatSettings) → s.low ≤ s.high → (fold with_line s (said_by nat_lines settings)).low ≤ (fold with_line s (said_by nat_lines settings)).high
said_in_order [] s is = is
said_in_order (t ∷ settings) s is = by (line_of t.words) (line_in_order t.words) (said_in_order settings)
  where
    by : (line : Option NatLine) → IfSome line InOrder → ((s : NatSettings) → s.low ≤ s.high → (fold with_line s (said_by nat_lines settings)).low ≤ (fold with_line s (said_by nat_lines settings)).high) →
        (fold with_line s (cons_option line (said_by nat_lines settings))).low ≤ (fold with_line s (cons_option line (said_by nat_lines settings))).high
    by None own rest = rest s is
    by (Some (lines.Inside prefix bits)) own rest = rest (with_line s (lines.Inside prefix bits)) is
    by (Some (lines.Public address)) own rest = rest (with_line s (lines.Public address)) is
    by (Some (lines.Ports low high)) own rest = rest (with_line s (lines.Ports low high)) own

pub opens_within : (decl : FunctionDecl) → HasPorts (nat_of decl)
opens_within decl = let is = said_in_order decl.settings no_settings (omega arith) in omega (arith, is)
