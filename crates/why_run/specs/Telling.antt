-- For proofs: what is known of the ways of packets so far, and how the next packet changes it.
use Rattle.std.specs.Prelude.{◌≡◌, ℕ, ◌+◌, ◌≤◌, ◌==◌, List, [], ◌∷◌, ◌++◌, length, map, Bool, true, false, if◌then◌else◌, Option, Some, None, IfSome, Result, Ok, Err, slice_get}
use Rattle.std.specs.List.{enumerate_from, flat_map}
use Rattle.std.specs.Option.{option_map_or}
use Rattle.nfp_outside.specs.Outside.{SlotView}
use Rattle.nfp_outside.specs.declared.slot.Slot.{Slot}
use Rattle.capture_bytes.specs.declared.packet.PcapRecord.{PcapRecord}
use Rattle.capture_bytes.specs.declared.packet.Unit.{Unit as TimeUnit}
use Rattle.capture_items.specs.Slots.{Breaks, Gathers, IsBroken, PutsPrefixes}
use Rattle.capture_items.specs.Sources.{IsOpeningFault}
use Rattle.capture_items.specs.Streams.{Stream}
use Rattle.capture_items.specs.declared.fault.FormatFault.{FormatFault}
use Rattle.capture_items.specs.declared.fault.RunFault.{RunFault}
use Rattle.capture_items.specs.declared.fault.RunFault.TheVariants as faults
use Rattle.capture_items.specs.declared.fault.SourceFault.{SourceFault}
use Rattle.capture_items.specs.declared.fault.SourceFault.TheVariants as refusals
use Rattle.capture_items.specs.declared.given.Given.{Given}
use Rattle.capture_items.specs.declared.given.Given.TheVariants.{Packet, Block}
use Rattle.plain_chains.specs.Plain.{Leads, way_next}
use Rattle.plain_chains.specs.declared.chain.PlainChain.{PlainChain}
use Rattle.plain_chains.specs.declared.service.Led.{Led}
use Rattle.trace_text.specs.Trace.{record_line, way_text}
use Rattle.traced_run.specs.Telling.{told}
use Rattle.traced_run.specs.declared.acts.TracedAct.{TracedAct}
use Rattle.traced_walk.specs.Ways.{Way}
use Rattle.why_account.specs.Accounts.{account_of, chain_accounts}
use Rattle.why_account.specs.declared.account.Account.{Account}
use Rattle.why_account.specs.declared.chain.ChainAccount.{ChainAccount}
use Rattle.why_report.specs.Report.{OrderedChain, chain_lines, drop_line, drop_lines, in_order, summary}
use Rattle.why_run.specs.Running.{Goes, ordered_of, ways_given}
use Rattle.why_run.specs.Why.{asked_trace}
use Rattle.why_run.specs.declared.telling.Telling.{Telling}

-- what is told of packets that went so through these chains
pub record IsTold (chains : List OrderedChain) (asked : Option ℕ) (done : List Way) (t : Telling) : Type 0 where
  pub ordered : ordered_of t.service ≡ chains
  pub account : t.account ≡ account_of chains done
  pub asks : t.asked ≡ asked
  pub counted : IfSome asked (λ n. 1 ≤ n)
  pub trace : t.trace ≡ asked_trace chains done asked

-- Before the first packet: nothing is told.
pub record Begins (service : List PlainChain) (asked : Option ℕ) (t : Telling) : Type 0 where
  pub service_is : t.service ≡ service
  pub asked_is : t.asked ≡ asked
  pub told : IsTold (ordered_of service) asked [] t

-- one more way is told
abbrev pub TellsWay : Way → Telling → Telling → Type 0
TellsWay way old new = (chains : List OrderedChain) → (asked : Option ℕ) → (done : List Way) → IsTold chains asked done old → IsTold chains asked (done ++ way ∷ []) new

-- behind a text stands the line of the next packet, if it was dropped
abbrev pub AddsWay : Way → Telling → List ℕ → List ℕ → Type 0
AddsWay way t old new = (chains : List OrderedChain) → (asked : Option ℕ) → (done : List Way) → IsTold chains asked done t → new ≡ old ++ drop_line chains (length done + 1) way.class way

-- the record with this number was asked for
abbrev pub is_asked : Option ℕ → ℕ → Bool
is_asked asked number = option_map_or (λ n. n == number) asked false

-- ---- one packet

-- what came out of a packet is its way
pub record IsWay (keeps : Bool) (led : Led) (acts : List TracedAct) (way : Way) : Type 0 where
  pub class : led.class ≡ way.class
  pub fate : led.fate ≡ way.fate
  pub are : acts ≡ map (told keeps) way.acts

-- behind a text stands the line of a packet that went so, if it was dropped
abbrev pub AddsLine : List PlainChain → List ChainAccount → ℕ → Led → List TracedAct → List ℕ → List ℕ → Type 0
AddsLine chains accounts number led acts old new =
    (ways : List Way) → (way : Way) → (keeps : Bool) → IsWay keeps led acts way → accounts ≡ chain_accounts 0 (ordered_of chains) ways → new ≡ old ++ drop_line (ordered_of chains) number way.class way

-- the trace of a packet that went so, with its first line
abbrev pub TracesWay : List PlainChain → ℕ → Led → List TracedAct → List ℕ → Type 0
TracesWay chains number led acts text = (way : Way) → IsWay true led acts way → text ≡ record_line number ++ way_text (ordered_of chains) way

-- behind a text stands what follows the first line
abbrev pub AddsTrace : List PlainChain → Led → List TracedAct → List ℕ → List ℕ → Type 0
AddsTrace chains led acts old new = (way : Way) → IsWay true led acts way → new ≡ old ++ way_text (ordered_of chains) way

-- the trace of the packet is kept, if it was asked for
pub record KeepsTrace (keeps : Bool) (led : Led) (acts : List TracedAct) (old new : Telling) : Type 0 where
  pub only : new ≡ record old { trace = new.trace }
  pub kept : (ways : List Way) → (way : Way) → IsWay keeps led acts way → old.account ≡ account_of (ordered_of old.service) ways
      → new.trace ≡ (if keeps then Some (record_line (length ways + 1) ++ way_text (ordered_of old.service) way) else old.trace)

-- a packet that went so is told
abbrev pub TellsLed : Bool → Led → List TracedAct → Telling → Telling → Type 0
TellsLed keeps led acts old new = (way : Way) → IsWay keeps led acts way → TellsWay way old new

abbrev pub AddsLed : Bool → Led → List TracedAct → Telling → List ℕ → List ℕ → Type 0
AddsLed keeps led acts t old new = (way : Way) → IsWay keeps led acts way → AddsWay way t old new

-- the next packet is told, and its line is put through the buffer
pub record TellsRecord (unit : TimeUnit) (r : PcapRecord) (t t' : Telling) (held held' : List ℕ) (old new : Slot → SlotView) : Type 0 where
  pub led : Leads unit r t.service t'.service
  pub tells : TellsWay (way_next t.service unit r) t t'
  pub gathers : (chains : List OrderedChain) → (asked : Option ℕ) → (done : List Way) → IsTold chains asked done t
      → Gathers (drop_line chains (length done + 1) (way_next t.service unit r).class (way_next t.service unit r)) held held' old new

abbrev pub RecordBreaks : TimeUnit → PcapRecord → Telling → List ℕ → (Slot → SlotView) → (Slot → SlotView) → RunFault → Type 0
RecordBreaks unit r t held old new fault = (chains : List OrderedChain) → (asked : Option ℕ) → (done : List Way) → IsTold chains asked done t
    → Breaks [] (held ++ drop_line chains (length done + 1) (way_next t.service unit r).class (way_next t.service unit r)) old new fault

-- nothing changed
pub record Stays (t t' : Telling) (held held' : List ℕ) (old new : Slot → SlotView) : Type 0 where
  pub telling : t' ≡ t
  pub text : held' ≡ held
  pub slots : new ≡ old

-- an item of a capture is told; only packets are
abbrev pub TellsGiven : {X B : Type 0} → TimeUnit → Given X B → Telling → Telling → List ℕ → List ℕ → (Slot → SlotView) → (Slot → SlotView) → Type 0
TellsGiven unit (Packet r x) t t' held held' old new = TellsRecord unit r t t' held held' old new
TellsGiven unit (Block b) t t' held held' old new = Stays t t' held held' old new

abbrev pub GivenBreaks : {X B : Type 0} → TimeUnit → Given X B → Telling → List ℕ → (Slot → SlotView) → (Slot → SlotView) → RunFault → Type 0
GivenBreaks unit (Packet r x) t held old new fault = RecordBreaks unit r t held old new fault
GivenBreaks unit (Block b) t held old new fault = ⊥

-- ---- a capture

-- how a capture ends if nothing more could be read: with its fault, or broken off
abbrev pub stop_of : SourceFault → Result (Option FormatFault) RunFault
stop_of (refusals.Format fault) = Ok (Some fault)
stop_of refusals.ReadFault = Err faults.ReadFault
stop_of refusals.OutOfMemory = Err faults.OutOfMemory

-- a capture that is told in these ways ended so
pub record EndsSo {X B : Type 0} (first : List PlainChain) (unit : TimeUnit) (done : List Way) (fault : Option FormatFault) (stream : Stream X B) : Type 0 where
  pub ways : ways_given first unit stream ≡ done
  pub fault_is : fault ≡ stream.fault

-- All that a capture gives was told, and the lines of its dropped packets were put through the buffer.
pub record TellsAll {X B : Type 0} (first : List PlainChain) (unit : TimeUnit) (asked : Option ℕ) (stream : Option (Stream X B)) (t : Telling) (held held' : List ℕ) (old new : Slot → SlotView) (fault : Option FormatFault) : Type 0 where
  pub done : List Way
  pub told : IsTold (ordered_of first) asked done t
  pub gathered : Gathers (drop_lines (ordered_of first) 1 done) held held' old new
  pub kind : IfSome fault (λ f. ¬ IsOpeningFault f)
  pub whole : IfSome stream (EndsSo first unit done fault)

-- It was broken off, and a prefix of what was held and of the lines was put.
pub record TellBreaks {X B : Type 0} (first : List PlainChain) (unit : TimeUnit) (stream : Option (Stream X B)) (held : List ℕ) (old new : Slot → SlotView) (fault : RunFault) : Type 0 where
  pub goes : Goes old new
  pub cause : IsBroken old new fault
  pub prefixes : IfSome stream (λ s. PutsPrefixes [] (held ++ drop_lines (ordered_of first) 1 (ways_given first unit s)) old new)

-- ---- the end

-- behind a text stands what follows the lines of the dropped packets
abbrev pub AddsSummary : List PlainChain → Account → Option FormatFault → List ℕ → List ℕ → Type 0
AddsSummary chains account fault old new = (ways : List Way) → account ≡ account_of (ordered_of chains) ways → new ≡ old ++ summary (ordered_of chains) ways fault

-- behind a text stand the lines of these chains
abbrev pub AddsChains : List PlainChain → List ChainAccount → List ℕ → List ℕ → Type 0
AddsChains chains accounts old new =
    (ways : List Way) → accounts ≡ chain_accounts 0 (ordered_of chains) ways → new ≡ old ++ flat_map (λ x. chain_lines x.0 x.1 ways) (enumerate_from 0 (ordered_of chains))

-- those of the chain whose account is at this place
abbrev pub AddsChainAt : PlainChain → List ChainAccount → ℕ → List ℕ → List ℕ → Type 0
AddsChainAt chain accounts place old new =
    (chains : List PlainChain) → (ways : List Way) → accounts ≡ chain_accounts 0 (ordered_of chains) ways → slice_get chains place ≡ Some chain
    → new ≡ old ++ chain_lines place (in_order chain.declared chain.order) ways
