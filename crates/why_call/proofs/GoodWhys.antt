-- A call without any fault is done.
use Rattle.std.proofs.Common.{◌≡◌, ◌∙◌, ℕ, List, [], ◌∷◌, ◌++◌, length, take, drop, refl, ap, sym}
use Rattle.std.specs.Prelude.{Bool, true, false, if◌then◌else◌, nat_lt, IsOk, Option, None, Result, Ok, Err}
use Rattle.std.specs.Option.{option_map}
use Rattle.std.proofs.lemmas.Slice.Eq.{bytes_eq-Decides}
use Rattle.capture_bytes.specs.declared.packet.PcapRecord.{PcapRecord}
use Rattle.pcap_io.specs.Capture.{Body, capture_of, with_body}
use Rattle.pcap_io.specs.declared.capture.CaptureFault.TheVariants.{BadMagic, CutHead}
use Rattle.pcap_io.specs.declared.capture.CaptureHead.{CaptureHead}
use Rattle.pcapng_io.specs.Blocks.{blocks_of, next_of, start}
use Rattle.pcapng_io.specs.declared.fault.NgFault.{NgFault}
use Rattle.pcapng_io.specs.declared.item.NgItem.{NgItem}
use Rattle.pcapng_io.specs.declared.place.Place.{Place}
use Rattle.capture_items.specs.declared.fault.FormatFault.TheVariants.{Ng}
use Rattle.policy_judge.specs.Judging.{judged}
use Rattle.policy_judge.specs.declared.judged.Judged.{Judged}
use Rattle.command_words.specs.WhyWords.{WhyAsked, why_of}
use Rattle.call_ending.specs.Results.{outcome_of}
use Rattle.call_ending.specs.Told.{is_ng}
use Rattle.call_ending.specs.declared.outcome.Outcome.TheVariants.{Done}
use Rattle.why_call.specs.Due.{due_by_format, due_of_judged, due_of_ng, due_of_pcap, due_of_why, why_due}

-- no head begins with the type of a section header block
no_head : (rest : List ℕ) (x : CaptureHead × Body) → capture_of (0x0a ∷ 0x0d ∷ 0x0d ∷ 0x0a ∷ rest) ≡ Ok x → ⊥
no_head rest x whole = go (nat_lt (length {A = ℕ} (0x0a ∷ 0x0d ∷ 0x0d ∷ 0x0a ∷ rest)) 24) whole
  where
    go : (b : Bool) → with_body (drop 24 (0x0a ∷ 0x0d ∷ 0x0d ∷ 0x0a ∷ rest)) (if b then Err CutHead else Err BadMagic) ≡ Ok x → ⊥
    go true e = cc
    go false e = cc

front_split : (c : List ℕ) → take 4 c ≡ 0x0a ∷ 0x0d ∷ 0x0d ∷ 0x0a ∷ [] → (rest : List ℕ) × (c ≡ 0x0a ∷ 0x0d ∷ 0x0d ∷ 0x0a ∷ rest)
front_split [] e = absurd cc
front_split (a ∷ []) e = absurd cc
front_split (a ∷ b ∷ []) e = absurd cc
front_split (a ∷ b ∷ d ∷ []) e = absurd cc
front_split (a ∷ b ∷ d ∷ f ∷ rest) e = (rest, ap (λ l. l ++ rest) e)

-- a classic capture with a head is no pcapng capture
classic : (c : List ℕ) (x : CaptureHead × Body) → capture_of c ≡ Ok x → is_ng c ≡ false
classic c x whole = go (is_ng c) refl
  where
    go : (b : Bool) → is_ng c ≡ b → is_ng c ≡ false
    go false e = e
    go true e =
        let split = front_split c ((bytes_eq-Decides (take 4 c) (0x0a ∷ 0x0d ∷ 0x0d ∷ 0x0a ∷ [])).0 e) in
        absurd (no_head split.0 x (ap capture_of (sym split.1) ∙ whole))

pub pcap_is_done : (words : List (List ℕ)) (asked : WhyAsked) (p c : List ℕ) (policy : Judged) (head : CaptureHead) (records : List PcapRecord) →
    why_of words ≡ Ok asked → judged p ≡ Ok policy → capture_of c ≡ Ok (head, record { records = records; fault = None }) → (why_due words p c).outcome ≡ Done
pcap_is_done words asked p c policy head records is good whole =
    ap (λ a. (due_of_why a p c).outcome) is ∙ ap (λ r. (due_of_judged asked.record_number r c).outcome) good
    ∙ ap (λ b. (due_by_format b policy asked.record_number c).outcome) (classic c (head, record { records = records; fault = None }) whole)
    ∙ ap (λ r. (due_of_pcap policy asked.record_number r).outcome) whole

first_good : (policy : Judged) (asked : Option ℕ) (c : List ℕ) (items : List NgItem) (first : Result (Option (NgItem × Place × List ℕ)) NgFault) → IsOk first →
    blocks_of start c ≡ record { items = items; fault = None } → (due_of_ng policy asked c first).outcome ≡ Done
first_good policy asked c items (Ok x) good whole = ap (λ blocks. outcome_of (option_map Ng blocks.fault)) whole
first_good policy asked c items (Err fault) good whole = absurd cc

pub ng_is_done : (words : List (List ℕ)) (asked : WhyAsked) (p c : List ℕ) (policy : Judged) (items : List NgItem) →
    why_of words ≡ Ok asked → judged p ≡ Ok policy → is_ng c ≡ true → IsOk (next_of start c) → blocks_of start c ≡ record { items = items; fault = None } → (why_due words p c).outcome ≡ Done
ng_is_done words asked p c policy items is good format first whole =
    ap (λ a. (due_of_why a p c).outcome) is ∙ ap (λ r. (due_of_judged asked.record_number r c).outcome) good
    ∙ ap (λ b. (due_by_format b policy asked.record_number c).outcome) format
    ∙ first_good policy asked.record_number c items (next_of start c) first whole
