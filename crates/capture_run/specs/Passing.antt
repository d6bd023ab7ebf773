-- For proofs: how a capture passes through a service, burst by burst.
use Rattle.std.specs.Prelude.{◌≡◌, ◌<◌, ◌≤◌, ◌+◌, ℕ, List, ◌∷◌, [], ◌++◌, All, length, map, count_by, Option, Some}
use Rattle.nfp_outside.specs.declared.slot.Slot.{Slot}
use Rattle.nfp_outside.specs.Outside.{SlotView}
use Rattle.capture_bytes.specs.declared.packet.PcapRecord.{PcapRecord}
use Rattle.chain_walk.specs.declared.walk.Fate.{Fate}
use Rattle.service_walk.specs.Service.{Classed}
use Rattle.classifier.specs.Cutting.{Cutting}
use Rattle.capture_report.specs.ChainServiceProofs.{IsOpeningChain, chains_of, fits_of}
use Rattle.capture_report.specs.ChainService.{Chains}
use Rattle.capture_report.specs.BurstWalk.{all_classed, chains_behind, fates_of}
use Rattle.capture_report.specs.BurstWalkProofs.{IsClassed, LeadsEach}
use Rattle.capture_report.specs.Report.{drop_lines, is_gone, names_among}
use Rattle.capture_items.specs.declared.fault.FormatFault.{FormatFault}
use Rattle.capture_items.specs.Slots.{Puts, Breaks}
use Rattle.capture_items.specs.Streams.{count_given, records_in}
use Rattle.capture_run.specs.Streams.{emitted_among, held_in}
use Rattle.capture_items.specs.declared.fault.RunFault.{RunFault}
use Rattle.capture_items.specs.declared.fault.RunFault.TheVariants as faults
use Rattle.capture_items.specs.declared.fault.SourceFault.{SourceFault}
use Rattle.capture_items.specs.declared.fault.SourceFault.TheVariants as refusals
use Rattle.capture_items.specs.declared.given.Given.{Given}
use Rattle.capture_run.specs.declared.passage.Passage.{Passage}

-- the chains of a passage, in the state in which the last packet left them
abbrev pub chains_in : {W : Type 0} → Passage W → Chains
chains_in p = chains_of p.service.chains

-- the next packets, of these records, each with the chain that takes it
abbrev pub packets_next : {W : Type 0} → Passage W → List PcapRecord → List Classed
packets_next p records = all_classed (chains_in p).declared p.unit records

-- where they end
abbrev pub fates_next : {W : Type 0} → Passage W → List PcapRecord → List Fate
fates_next p records = fates_of (chains_in p) p.unit records

-- the number of the next record
abbrev pub next_number : {W : Type 0} → Passage W → ℕ
next_number p = p.totals.records + 1

-- what is put into Out and Report for what comes next
abbrev pub out_next : {W X B : Type 0} → (W → Given X B → List ℕ) → Passage W → List (Given X B) → List ℕ
out_next spelled p given = emitted_among (spelled p.writer) given (fates_next p (records_in given))

abbrev pub lines_next : {W : Type 0} → Passage W → List PcapRecord → List ℕ
lines_next p records = drop_lines (names_among (chains_in p)) (next_number p) (map (λ x. x.class) (packets_next p records)) (fates_next p records)

-- The packets of these records went through the chains.
pub record Advances {W X B : Type 0} (spelled : W → Given X B → List ℕ) (records : List PcapRecord) (before after : Passage W) : Type 0 where
  pub same_classes : after.service.classes ≡ before.service.classes
  pub same_unit : after.unit ≡ before.unit
  pub same_spelling : spelled after.writer ≡ spelled before.writer
  pub led : LeadsEach (packets_next before records) 0 before.service.chains after.service.chains
  pub chains : chains_in after ≡ chains_behind (chains_in before) before.unit records
  pub read : after.totals.records ≡ before.totals.records + length records
  pub dropped : after.totals.dropped ≡ before.totals.dropped + count_by is_gone (fates_next before records)

-- The same, and the results for them and for the blocks among them were put.
pub record Passes {W X B : Type 0} (spelled : W → Given X B → List ℕ) (given : List (Given X B)) (before after : Passage W) (old new : Slot → SlotView) : Type 0 where
  pub advances : Advances spelled (records_in given) before after
  pub puts : Puts (out_next spelled before given) (lines_next before (records_in given)) old new

-- a prefix of the results for them was put
abbrev pub PassBreaks : {W X B : Type 0} → (W → Given X B → List ℕ) → List (Given X B) → Passage W → (Slot → SlotView) → (Slot → SlotView) → RunFault → Type 0
PassBreaks spelled given before old new fault = Breaks (out_next spelled before given) (lines_next before (records_in given)) old new fault

-- Packets are classified by the chains' own clauses.
abbrev pub IsTold : {W : Type 0} → Passage W → Type 0
IsTold p = p.service.classes ≡ fits_of p.service.chains

-- Nothing was counted yet, and each chain is before its first packet.
pub record IsFresh {W : Type 0} (p : Passage W) : Type 0 where
  pub records : p.totals.records ≡ 0
  pub dropped : p.totals.dropped ≡ 0
  pub opening : All IsOpeningChain p.service.chains
  pub told : IsTold p

-- The open burst may run: its packets are classified by the chains' own clauses, and all that were read are counted.
pub record IsReady {W X : Type 0} (p : Passage W) (cut : Cutting) (beside : List X) : Type 0 where
  pub classed : All (IsClassed p.service.classes) cut.held
  pub told : IsTold p
  pub number : cut.added ≡ p.totals.records + length cut.held
  pub room : cut.added < 4294967296
  pub within : p.totals.dropped ≤ p.totals.records
  pub as_many : length beside ≡ length cut.held

-- One more was taken: the packets that were held and this one ran, up to those that are held now.
pub record Takes {W X B : Type 0} (spelled : W → Given X B → List ℕ) (cut : Cutting) (beside : List X) (cut' : Cutting) (beside' : List X) (given : Given X B) (before after : Passage W) (old new : Slot → SlotView) : Type 0 where
  pub ran : List (Given X B)
  pub passes : Passes spelled ran before after old new
  pub row : held_in cut.held beside ++ given ∷ [] ≡ ran ++ held_in cut'.held beside'
  pub classed : All (IsClassed before.service.classes) cut'.held
  pub told : IsTold after
  pub added : cut'.added ≡ cut.added + count_given given
  pub as_many : length beside' ≡ length cut'.held

abbrev pub TakeBreaks : {W X B : Type 0} → (W → Given X B → List ℕ) → Cutting → List X → Given X B → Passage W → (Slot → SlotView) → (Slot → SlotView) → RunFault → Type 0
TakeBreaks spelled cut beside given before old new fault = PassBreaks spelled (held_in cut.held beside ++ given ∷ []) before old new fault

-- The packets that were held ran, and the capture ended so.
pub record Ends {W X B : Type 0} (spelled : W → Given X B → List ℕ) (held : List (Given X B)) (before : Passage W) (fault : Option FormatFault) (old new : Slot → SlotView) (run : Passage W × Option FormatFault) : Type 0 where
  pub passes : Passes spelled held before run.0 old new
  pub told : run.1 ≡ fault

-- how a run ends if nothing more could be read: a fault of the capture ends it, or it is broken off
abbrev pub StopEnds : {W X B : Type 0} → (W → Given X B → List ℕ) → List (Given X B) → Passage W → SourceFault → (Slot → SlotView) → (Slot → SlotView) → Passage W × Option FormatFault → Type 0
StopEnds spelled held before (refusals.Format fault) old new run = Ends spelled held before (Some fault) old new run
StopEnds spelled held before refusals.ReadFault old new run = ⊥
StopEnds spelled held before refusals.OutOfMemory old new run = ⊥

abbrev pub StopBreaks : {W X B : Type 0} → (W → Given X B → List ℕ) → List (Given X B) → Passage W → SourceFault → (Slot → SlotView) → (Slot → SlotView) → RunFault → Type 0
StopBreaks spelled held before (refusals.Format fault) old new broken = PassBreaks spelled held before old new broken
StopBreaks spelled held before refusals.ReadFault old new broken = (broken ≡ faults.ReadFault) × (new ≡ old)
StopBreaks spelled held before refusals.OutOfMemory old new broken = (broken ≡ faults.OutOfMemory) × (new ≡ old)
