-- Believed: the report: the line of each dropped packet, the totals, the copies of each chain's fields, each function
-- with the lines of its state, and the end or the capture's fault.
use Rattle.std.specs.Prelude.{ℕ, zero, suc, ◌-◌, List, [], ◌∷◌, ◌++◌, length, map, Bool, true, false, codes, count_by, slice_get, Option, Some, None}
use Rattle.std.specs.Option.{option_map_or}
use Rattle.std.specs.List.{flat_map, enumerate_from, find, zip}
use Rattle.std.specs.Fmt.{decimal}
use Rattle.std.specs.Str.{bytes_eq}
use Rattle.packet_fields.specs.Fields.{name_of}
use Rattle.packet_fields.specs.declared.field.Field.{Field}
use Rattle.capture_bytes.specs.declared.packet.PcapRecord.{PcapRecord}
use Rattle.capture_bytes.specs.declared.packet.Unit.{Unit as TimeUnit}
use Rattle.action_profile.specs.FieldSets.{all_fields}
use Rattle.action_profile.specs.Kinds.{kind_name}
use Rattle.chain_walk.specs.declared.walk.Fate.{Fate}
use Rattle.chain_walk.specs.declared.walk.Fate.TheVariants.{Out, Gone}
use Rattle.service_walk.specs.Service.{Classed, at_chain, packets_in}
use Rattle.packet_version.specs.Tallies.{raised}
use Rattle.piece_walk.specs.Pieces.{Piece, functions_in}
use Rattle.burst_walk.specs.SegmentRun.{copies_through}
use Rattle.policy_text.specs.declared.policy.ChainPolicy.{ChainPolicy}
use Rattle.policy_text.specs.declared.policy.FunctionDecl.{FunctionDecl}
use Rattle.text_lines.specs.Texts.{joined}
use Rattle.burst_walk.specs.ChainService.{Chains, NamedFunction, named_behaviour, named_lines}
use Rattle.burst_walk.specs.Fates.{all_classed, chains_behind, fates_of}
use Rattle.capture_items.specs.FaultLines.{last_line}
use Rattle.capture_items.specs.Totals.{total_line}
use Rattle.capture_items.specs.declared.fault.FormatFault.{FormatFault}

abbrev pub title : List ℕ
title = codes "nfp report 1\n"

-- The names that are in a chain's drop lines: its own, and those of its functions in chain order.
pub record ChainNames : Type 0 where
  pub chain : List ℕ
  pub functions : List (List ℕ)

-- the names of each chain
abbrev pub names_among : Chains → List ChainNames
names_among chains = map (λ x. record { chain = x.0.name; functions = x.1 }) (zip chains.declared chains.names)

-- `drop RECORD CHAIN FUNCTION`
unfoldable pub drop_text : List ℕ → ℕ → List ℕ → List ℕ
drop_text chain number name = joined (codes "drop " ∷ decimal number ∷ codes " " ∷ chain ∷ codes " " ∷ name ∷ codes "\n" ∷ [])

-- the line of a packet that the function at this position of a chain dropped
abbrev pub dropped_by : ℕ → ℕ → ChainNames → List ℕ
dropped_by number position names = option_map_or (drop_text names.chain number) (slice_get names.functions (position - 1)) []

-- the line of a packet that its chain dropped
abbrev pub drop_line : List ChainNames → ℕ → Option ℕ → Fate → List ℕ
drop_line names number class (Out frame) = []
drop_line names number None (Gone position) = []
drop_line names number (Some chain) (Gone position) = option_map_or (dropped_by number position) (slice_get names chain) []

-- the lines of the packets from this number on, in record order, by their chains and where they ended
unfoldable pub drop_lines : List ChainNames → ℕ → List (Option ℕ) → List Fate → List ℕ
drop_lines names first classes fates = flat_map (λ x. drop_line names x.0 x.1.0 x.1.1) (enumerate_from first (zip classes fates))

abbrev pub is_gone : Fate → Bool
is_gone (Out frame) = false
is_gone (Gone position) = true

-- the number of copies of a field that a chain's pieces make for its packets; a count stops at 2^64 - 1
unfoldable pub copies_due : List (List (Piece NamedFunction)) → List Classed → ℕ → Field → ℕ
copies_due pieces packets chain f = raised 0 (copies_through named_behaviour (at_chain pieces chain) (packets_in chain packets) f)

-- `copies CHAIN FIELD COUNT`
unfoldable pub copies_text : List ℕ → List ℕ → ℕ → List ℕ
copies_text chain field count = joined (codes "copies " ∷ chain ∷ codes " " ∷ field ∷ codes " " ∷ decimal count ∷ codes "\n" ∷ [])

-- a field of which no copies were made has no line
abbrev pub copies_line : List ℕ → Field → ℕ → List ℕ
copies_line chain f zero = []
copies_line chain f (suc n) = copies_text chain (name_of f) (suc n)

-- the lines of a chain's copies, in the order of the fields
unfoldable pub copies_lines : List ℕ → (Field → ℕ) → List ℕ
copies_lines chain copies = flat_map (λ f. copies_line chain f (copies f)) all_fields

-- `function CHAIN NAME KIND`
unfoldable pub function_text : List ℕ → List ℕ → List ℕ → List ℕ
function_text chain name kind = joined (codes "function " ∷ chain ∷ codes " " ∷ name ∷ codes " " ∷ kind ∷ codes "\n" ∷ [])

-- the lines of the state of the function with this name
abbrev pub state_text : List NamedFunction → List ℕ → List ℕ
state_text functions name = option_map_or named_lines (find (λ f. bytes_eq f.name name) functions) []

-- the lines of a function that is declared, in the state in which the last packet left it
abbrev pub function_lines : List ℕ → List NamedFunction → FunctionDecl → List ℕ
function_lines chain functions f = function_text chain f.name (kind_name f.kind) ++ state_text functions f.name

-- those of a chain's functions, as they are declared
unfoldable pub chain_lines : ChainPolicy → List NamedFunction → List ℕ
chain_lines chain functions = flat_map (function_lines chain.name functions) chain.functions

-- what follows the lines of the dropped packets, with the pieces in the state in which the last packet left them
unfoldable pub summary : Chains → ℕ → ℕ → (ℕ → Field → ℕ) → Option FormatFault → List ℕ
summary chains records dropped copies fault =
    total_line records dropped
    ++ (flat_map (λ x. copies_lines x.1.name (copies x.0)) (enumerate_from 0 chains.declared)
    ++ (flat_map (λ x. chain_lines x.0 (functions_in x.1)) (zip chains.declared chains.pieces)
    ++ last_line fault))

-- the report of packets that end so, by the chains before the first packet and after the last
unfoldable pub report_bytes : Chains → Chains → List Classed → List Fate → Option FormatFault → List ℕ
report_bytes chains last packets fates fault =
    title ++ drop_lines (names_among chains) 1 (map (λ x. x.class) packets) fates ++ summary last (length fates) (count_by is_gone fates) (copies_due chains.pieces packets) fault

-- the report of records that go through these chains
abbrev pub report_of : Chains → TimeUnit → List PcapRecord → Option FormatFault → List ℕ
report_of chains unit records fault = report_bytes chains (chains_behind chains unit records) (all_classed chains.declared unit records) (fates_of chains unit records) fault
