-- A call without any fault is done.
use Rattle.std.proofs.Common.{◌≡◌, ◌∙◌, ℕ, List, [], ◌∷◌, ◌++◌, length, take, drop, refl, ap, sym}
use Rattle.std.specs.Prelude.{Bool, true, false, if◌then◌else◌, nat_lt, IsOk, Option, None, Result, Ok, Err}
use Rattle.std.specs.Option.{option_map}
use Rattle.std.proofs.lemmas.Slice.Eq.{bytes_eq-Decides}
use Rattle.pcap_io.specs.Capture.{Body, capture_of, with_body}
use Rattle.pcap_io.specs.declared.capture.CaptureFault.TheVariants.{BadMagic, CutHead}
use Rattle.pcap_io.specs.declared.capture.CaptureHead.{CaptureHead}
use Rattle.capture_bytes.specs.declared.packet.PcapRecord.{PcapRecord}
use Rattle.pcapng_io.specs.Blocks.{blocks_of, next_of, start}
use Rattle.pcapng_io.specs.declared.fault.NgFault.{NgFault}
use Rattle.pcapng_io.specs.declared.item.NgItem.{NgItem}
use Rattle.pcapng_io.specs.declared.place.Place.{Place}
use Rattle.nfp_run.specs.Preparing.{chains_prepared, prepared}
use Rattle.nfp_run.specs.declared.prepared.Prepared.{Prepared}
use Rattle.call_ending.specs.declared.outcome.Outcome.TheVariants.{Done}
use Rattle.nfp_run.specs.Due.{due, due_by_format, due_of_command, due_of_flows, due_of_ng, due_of_pcap, due_of_plan, due_of_run, outcome_of}
use Rattle.call_ending.specs.Told.{is_ng}
use Rattle.capture_items.specs.declared.fault.FormatFault.TheVariants.{Ng}
use Rattle.capture_run.specs.ChainService.{Chains}
use Rattle.command_words.specs.declared.requests.DemoInput.{DemoInput}
use Rattle.command_words.specs.declared.requests.FlowOptions.{FlowOptions}
use Rattle.command_words.specs.declared.requests.RunOptions.{RunOptions}
use Rattle.command_words.specs.Words.{Names, FlowFiles, PlanFiles, command_of, Run, Plan, Demo, Flows}

-- no head begins with the type of a section header block
no_head : (rest : List ℕ) (x : CaptureHead × Body) → capture_of (0x0a ∷ 0x0d ∷ 0x0d ∷ 0x0a ∷ rest) ≡ Ok x → ⊥
no_head rest x whole = go (nat_lt (length {A = ℕ} (0x0a ∷ 0x0d ∷ 0x0d ∷ 0x0a ∷ rest)) 24) whole
  where
    go : (b : Bool) → with_body (drop 24 (0x0a ∷ 0x0d ∷ 0x0d ∷ 0x0a ∷ rest)) (if b then Err CutHead else Err BadMagic) ≡ Ok x → ⊥
    go true e = cc
    go false e = cc

front_split : (c : List ℕ) → take 4 c ≡ 0x0a ∷ 0x0d ∷ 0x0d ∷ 0x0a ∷ [] → (rest : List ℕ) × (c ≡ 0x0a ∷ 0x0d ∷ 0x0d ∷ 0x0a ∷ rest)
front_split [] e = absurd cc
front_split (a ∷ []) e = absurd cc
front_split (a ∷ b ∷ []) e = absurd cc
front_split (a ∷ b ∷ d ∷ []) e = absurd cc
front_split (a ∷ b ∷ d ∷ f ∷ rest) e = (rest, ap (λ l. l ++ rest) e)

-- a classic capture with a head is no pcapng capture
classic : (c : List ℕ) (x : CaptureHead × Body) → capture_of c ≡ Ok x → is_ng c ≡ false
classic c x whole = go (is_ng c) refl
  where
    go : (b : Bool) → is_ng c ≡ b → is_ng c ≡ false
    go false e = e
    go true e =
        let split = front_split c ((bytes_eq-Decides (take 4 c) (0x0a ∷ 0x0d ∷ 0x0d ∷ 0x0a ∷ [])).0 e) in
        absurd (no_head split.0 x (ap capture_of (sym split.1) ∙ whole))

pub run_is_done : (words : List (List ℕ)) (names : Names) (options : RunOptions) (p g c : List ℕ) (policy : Prepared) (head : CaptureHead) (records : List PcapRecord) →
    command_of words ≡ Ok (Run names options) → prepared names.graph p g ≡ Ok policy → capture_of c ≡ Ok (head, record { records = records; fault = None }) → (due words p g c).outcome ≡ Done
run_is_done words names options p g c policy head records is good whole =
    ap (λ command. (due_of_command command p g c).outcome) is ∙ ap (λ r. (due_of_run r c).outcome) good
    ∙ ap (λ b. (due_by_format b (chains_prepared policy) c).outcome) (classic c (head, record { records = records; fault = None }) whole)
    ∙ ap (λ r. (due_of_pcap (chains_prepared policy) r).outcome) whole

first_good : (chains : Chains) (c : List ℕ) (items : List NgItem) (first : Result (Option (NgItem × Place × List ℕ)) NgFault) → IsOk first →
    blocks_of start c ≡ record { items = items; fault = None } → (due_of_ng chains c first).outcome ≡ Done
first_good chains c items (Ok x) good whole = ap (λ blocks. outcome_of (option_map Ng blocks.fault)) whole
first_good chains c items (Err fault) good whole = absurd cc

pub ng_run_is_done : (words : List (List ℕ)) (names : Names) (options : RunOptions) (p g c : List ℕ) (policy : Prepared) (items : List NgItem) →
    command_of words ≡ Ok (Run names options) → prepared names.graph p g ≡ Ok policy → is_ng c ≡ true → IsOk (next_of start c) → blocks_of start c ≡ record { items = items; fault = None } →
    (due words p g c).outcome ≡ Done
ng_run_is_done words names options p g c policy items is good format first whole =
    ap (λ command. (due_of_command command p g c).outcome) is ∙ ap (λ r. (due_of_run r c).outcome) good
    ∙ ap (λ b. (due_by_format b (chains_prepared policy) c).outcome) format
    ∙ first_good (chains_prepared policy) c items (next_of start c) first whole

pub plan_is_done : (words : List (List ℕ)) (names : PlanFiles) (p g c : List ℕ) (policy : Prepared) → command_of words ≡ Ok (Plan names) → prepared names.graph p g ≡ Ok policy →
    (due words p g c).outcome ≡ Done
plan_is_done words names p g c policy is good = ap (λ command. (due_of_command command p g c).outcome) is ∙ ap (λ r. (due_of_plan r).outcome) good

pub demo_is_done : (words : List (List ℕ)) (input : DemoInput) (options : RunOptions) (p g c : List ℕ) → command_of words ≡ Ok (Demo input options) → (due words p g c).outcome ≡ Done
demo_is_done words input options p g c is = ap (λ command. (due_of_command command p g c).outcome) is

pub flows_are_done : (words : List (List ℕ)) (names : FlowFiles) (options : FlowOptions) (p g c : List ℕ) (head : CaptureHead) (records : List PcapRecord) →
    command_of words ≡ Ok (Flows names options) → capture_of c ≡ Ok (head, record { records = records; fault = None }) → (due words p g c).outcome ≡ Done
flows_are_done words names options p g c head records is whole = ap (λ command. (due_of_command command p g c).outcome) is ∙ ap (λ r. (due_of_flows r).outcome) whole
