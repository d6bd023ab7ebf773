-- Believed: what is reported of why: the line that decided each drop, and how often each function and each of its lines
-- was used.
use Rattle.std.specs.Prelude.{ℕ, ◌-◌, ◌==◌, min, List, [], ◌∷◌, ◌++◌, length, map, filter_map, count_by, position, slice_get, Bool, true, false, not, if◌then◌else◌, Option, Some, None, is_none, codes}
use Rattle.std.specs.List.{flat_map, enumerate_from, list_any, zip}
use Rattle.std.specs.Option.{option_map_or, unwrap_or}
use Rattle.std.specs.Fmt.{decimal}
use Rattle.std.specs.Str.{bytes_eq}
use Rattle.action_profile.specs.Kinds.{kind_name}
use Rattle.capture_items.specs.FaultLines.{last_line}
use Rattle.capture_items.specs.Totals.{total_line}
use Rattle.capture_items.specs.declared.fault.FormatFault.{FormatFault}
use Rattle.chain_walk.specs.declared.walk.Fate.{Fate}
use Rattle.chain_walk.specs.declared.walk.Fate.TheVariants.{Out, Gone}
use Rattle.declared_lines.specs.DeclaredLines.{deciders, number_of}
use Rattle.policy_check.specs.declared.fault.Order.{Order}
use Rattle.policy_text.specs.declared.policy.ChainPolicy.{ChainPolicy}
use Rattle.policy_text.specs.declared.policy.FunctionDecl.{FunctionDecl}
use Rattle.text_lines.specs.Texts.{joined}
use Rattle.traced_walk.specs.Traced.{Act}
use Rattle.traced_walk.specs.Ways.{Way}

-- A chain: as it is declared, and the declarations of its functions in the order in which a packet goes through them.
pub record OrderedChain : Type 0 where
  pub declared : ChainPolicy
  pub order : List FunctionDecl

-- a chain with its functions in this order, of places counted from 0 as declared
abbrev pub in_order : ChainPolicy → Order → OrderedChain
in_order chain order = record { declared = chain; order = filter_map (λ place. slice_get chain.functions place) order.positions }

-- the chains of a policy, each with its order
abbrev pub all_in_order : List ChainPolicy → List Order → List OrderedChain
all_in_order chains orders = map (λ x. in_order x.0 x.1) (zip chains orders)

abbrev pub title : List ℕ
title = codes "nfp why 1\n"

-- the numbers of the lines that decided what the function of this declaration did
abbrev pub decided_lines : FunctionDecl → Act → List ℕ
decided_lines decl act = map (number_of decl) act.lines

-- ---- the drops

-- `drop RECORD CHAIN FUNCTION line L`
unfoldable pub drop_text : ℕ → List ℕ → List ℕ → ℕ → List ℕ
drop_text number chain name line = joined (codes "drop " ∷ decimal number ∷ codes " " ∷ chain ∷ codes " " ∷ name ∷ codes " line " ∷ decimal line ∷ codes "\n" ∷ [])

-- a drop of the function of this declaration: it has one deciding line
abbrev pub drop_by : ℕ → List ℕ → Option FunctionDecl → Option Act → List ℕ
drop_by number chain (Some decl) (Some act) = flat_map (drop_text number chain decl.name) (decided_lines decl act)
drop_by number chain decl act = []

-- the line of a packet that ended so in a chain, none if it went out
abbrev pub drop_in : ℕ → OrderedChain → List Act → Fate → List ℕ
drop_in number chain acts (Out frame) = []
drop_in number chain acts (Gone position) = drop_by number chain.declared.name (slice_get chain.order (position - 1)) (slice_get acts (position - 1))

abbrev pub drop_line : List OrderedChain → ℕ → Option ℕ → Way → List ℕ
drop_line chains number None way = []
drop_line chains number (Some chain) way = option_map_or (λ c. drop_in number c way.acts way.fate) (slice_get chains chain) []

-- the lines of the packets from this number on, in record order
unfoldable pub drop_lines : List OrderedChain → ℕ → List Way → List ℕ
drop_lines chains first ways = flat_map (λ x. drop_line chains x.0 x.1.class x.1) (enumerate_from first ways)

-- ---- the counts

-- a count stops at 2^64 - 1
abbrev pub counted : ℕ → ℕ
counted n = min n 18446744073709551615

-- the packet went through this chain
abbrev pub is_in : ℕ → Way → Bool
is_in chain way = option_map_or (λ class. class == chain) way.class false

-- what the function at this place of a chain did to each packet that reached it
abbrev pub acts_at : ℕ → ℕ → List Way → List Act
acts_at chain place ways = filter_map (λ way. if is_in chain way then slice_get way.acts place else None) ways

-- the frame behind the function differs from the frame before it
abbrev pub is_changed : Act → Bool
is_changed act = not (bytes_eq act.before act.after)

-- the number of acts that a line decided
abbrev pub hits : FunctionDecl → ℕ → List Act → ℕ
hits decl line acts = counted (count_by (λ act. list_any (λ n. n == line) (decided_lines decl act)) acts)

-- `function CHAIN NAME KIND saw N changed N dropped N`
unfoldable pub function_text : List ℕ → List ℕ → List ℕ → ℕ → ℕ → ℕ → List ℕ
function_text chain name kind saw changed dropped = joined (
    codes "function " ∷ chain ∷ codes " " ∷ name ∷ codes " " ∷ kind ∷ codes " saw " ∷ decimal saw ∷ codes " changed " ∷ decimal changed
    ∷ codes " dropped " ∷ decimal dropped ∷ codes "\n" ∷ [])

-- `  line L hits N`
unfoldable pub line_text : ℕ → ℕ → List ℕ
line_text line count = joined (codes "  line " ∷ decimal line ∷ codes " hits " ∷ decimal count ∷ codes "\n" ∷ [])

-- a function with what it did: its line, and one line for each line of its declaration that can decide
unfoldable pub function_lines : List ℕ → FunctionDecl → List Act → List ℕ
function_lines chain decl acts =
    function_text chain decl.name (kind_name decl.kind) (counted (length acts)) (counted (count_by is_changed acts)) (counted (count_by (λ act. act.dropped) acts))
    ++ flat_map (λ line. line_text line (hits decl line acts)) (deciders decl)

-- the place of the function with this name among those in chain order
abbrev pub place_in : List FunctionDecl → List ℕ → ℕ
place_in order name = unwrap_or (position (λ decl. bytes_eq decl.name name) order) (length order)

-- `no chain took N`, and `chain CHAIN took N`
unfoldable pub untaken_text : ℕ → List ℕ
untaken_text count = joined (codes "no chain took " ∷ decimal count ∷ codes "\n" ∷ [])

unfoldable pub chain_text : List ℕ → ℕ → List ℕ
chain_text chain count = joined (codes "chain " ∷ chain ∷ codes " took " ∷ decimal count ∷ codes "\n" ∷ [])

-- a chain and its functions, as they are declared
unfoldable pub chain_lines : ℕ → OrderedChain → List Way → List ℕ
chain_lines number chain ways =
    chain_text chain.declared.name (counted (count_by (is_in number) ways))
    ++ flat_map (λ decl. function_lines chain.declared.name decl (acts_at number (place_in chain.order decl.name) ways)) chain.declared.functions

-- ---- the report

abbrev pub is_gone : Fate → Bool
is_gone (Out frame) = false
is_gone (Gone position) = true

-- what follows the lines of the dropped packets
unfoldable pub summary : List OrderedChain → List Way → Option FormatFault → List ℕ
summary chains ways fault =
    total_line (length ways) (count_by (λ way. is_gone way.fate) ways)
    ++ (untaken_text (counted (count_by (λ way. is_none way.class) ways))
    ++ (flat_map (λ x. chain_lines x.0 x.1 ways) (enumerate_from 0 chains)
    ++ last_line fault))

-- the report of packets that went so
unfoldable pub report_bytes : List OrderedChain → List Way → Option FormatFault → List ℕ
report_bytes chains ways fault = title ++ (drop_lines chains 1 ways ++ summary chains ways fault)
