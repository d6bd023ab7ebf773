-- What is put for a burst is what comes next for its records.
use Rattle.std.proofs.Common.{◌≡◌, ◌∙◌, ℕ, List, [], length, map, refl, ap, sym, subst}
use Rattle.std.specs.Prelude.{Option}
use Rattle.std.proofs.lemmas.List.{length-map}
use Rattle.nfp_outside.specs.declared.slot.Slot.{Slot}
use Rattle.nfp_outside.specs.Outside.{SlotView}
use Rattle.chain_walk.specs.declared.walk.Fate.{Fate}
use Rattle.service_walk.specs.Service.{Classed}
use Rattle.classifier.specs.declared.burst.Item.{Item}
use Rattle.capture_report.specs.ChainServiceProofs.{ServiceChain, chains_of}
use Rattle.capture_report.specs.BurstWalkProofs.{LeadsEach, all_ended, records_of}
use Rattle.capture_run.specs.Passing.{Advances, PassBreaks, fates_next, lines_next, next_number, out_next, packets_next}
use Rattle.capture_report.specs.Report.{drop_lines, names_among}
use Rattle.capture_items.specs.Slots.{Breaks, Puts}
use Rattle.capture_items.specs.Streams.{records_in}
use Rattle.capture_run.specs.Streams.{emitted_among, held_in}
use Rattle.capture_items.specs.declared.fault.RunFault.{RunFault}
use Rattle.capture_items.specs.declared.given.Given.{Given}
use Rattle.capture_run.specs.declared.passage.Passage.{Passage}
use Rattle.capture_items.specs.Putting.{breaks_is, puts_is}
use Rattle.capture_run.proofs.Following.{each_names}
use Rattle.capture_run.proofs.Passing.{records_refused}
use Rattle.capture_run.proofs.Streaming.{records_held}
use Rattle.capture_run.proofs.Walking.{length-fates_of}

-- the lines that are made are those that come next
pub made_lines : {W : Type 0} (p : Passage W) (items items' : List Item) (after after' : List ServiceChain) (fates fates' : List (Option Fate)) (text text' : List ℕ) →
    map (λ (i : Item). i.class) items ≡ map (λ (x : Classed). x.class) (packets_next p (records_of items)) → LeadsEach (packets_next p (records_of items)) 0 p.service.chains after →
    all_ended items fates ≡ fates_next p (records_of items) → items' ≡ items → after' ≡ after → fates' ≡ fates →
    text ≡ drop_lines (names_among (chains_of after')) (next_number p) (map (λ i. i.class) items') (all_ended items' fates') → text' ≡ text → text' ≡ lines_next p (records_of items)
made_lines p items items' after after' fates fates' text text' by_record led end same same_chains same_fates made same_text =
    let names : names_among (chains_of after') ≡ names_among (chains_of p.service.chains) =
    ap (λ l. names_among (chains_of l)) same_chains ∙ each_names (packets_next p (records_of items)) 0 p.service.chains after led in
    let classes : map (λ (i : Item). i.class) items' ≡ map (λ (x : Classed). x.class) (packets_next p (records_of items)) =
    ap (map (λ (i : Item). i.class)) same ∙ by_record in
    let ends : all_ended items' fates' ≡ fates_next p (records_of items) = (λ i. all_ended (same i) (same_fates i)) ∙ end in
    same_text ∙ made ∙ (λ i. drop_lines (names i) (next_number p) (classes i) (ends i))

-- each packet of a burst ended
pub ended_many : {W : Type 0} (p : Passage W) (items items' : List Item) (fates fates' : List (Option Fate)) → items' ≡ items → fates' ≡ fates →
    all_ended items fates ≡ fates_next p (records_of items) → length (all_ended items' fates') ≡ length items
ended_many p items items' fates fates' same same_fates end =
    ap length ((λ i. all_ended (same i) (same_fates i)) ∙ end) ∙ length-fates_of (chains_of p.service.chains) p.unit (records_of items) ∙ length-map items (λ i. i.packet)

-- what was put for a burst is what comes next
out_is : {W X B : Type 0} (spelled : W → Given X B → List ℕ) (p : Passage W) (items items' : List Item) (beside beside' : List X) (fates : List (Option Fate)) → length beside ≡ length items →
    all_ended items fates ≡ fates_next p (records_of items) → items' ≡ items → beside' ≡ beside →
    emitted_among (spelled p.writer) (held_in items' beside') (all_ended items' fates) ≡ out_next spelled p (held_in items beside)
out_is {B = B} spelled p items items' beside beside' fates many end same same_beside =
    (λ i. emitted_among (spelled p.writer) (held_in (same i) (same_beside i)) (all_ended (same i) fates))
    ∙ ap (emitted_among (spelled p.writer) (held_in items beside)) (end ∙ ap (fates_next p) (sym (records_held B items beside many)))

pub puts_records : {W X B : Type 0} (spelled : W → Given X B → List ℕ) (p : Passage W) (items items' : List Item) (beside beside' : List X) (fates : List (Option Fate)) (old new : Slot → SlotView) →
    length beside ≡ length items → all_ended items fates ≡ fates_next p (records_of items) → items' ≡ items → beside' ≡ beside →
    Puts (emitted_among (spelled p.writer) (held_in items' beside') (all_ended items' fates)) [] old new → Puts (out_next spelled p (held_in items beside)) [] old new
puts_records spelled p items items' beside beside' fates old new many end same same_beside puts =
    puts_is _ _ [] [] old new (out_is spelled p items items' beside beside' fates many end same same_beside) refl puts

pub breaks_records : {W X B : Type 0} (spelled : W → Given X B → List ℕ) (p : Passage W) (items items' : List Item) (beside beside' : List X) (fates : List (Option Fate)) (old new : Slot →
    SlotView) (e : RunFault) → length beside ≡ length items → all_ended items fates ≡ fates_next p (records_of items) → items' ≡ items → beside' ≡ beside →
    Breaks (emitted_among (spelled p.writer) (held_in items' beside') (all_ended items' fates)) [] old new e → PassBreaks spelled (held_in items beside) p old new e
breaks_records {B = B} spelled p items items' beside beside' fates old new e many end same same_beside broken =
    records_refused (out_next spelled p (held_in items beside)) (lines_next p (records_in {B = B} (held_in items beside))) old new e
    (breaks_is _ _ [] [] old new e (out_is spelled p items items' beside beside' fates many end same same_beside) refl broken)

-- the lines of a burst are those of the held packets
pub lines_held : {W X : Type 0} (B : Type 0) (p : Passage W) (items : List Item) (beside : List X) → length beside ≡ length items →
    lines_next p (records_of items) ≡ lines_next p (records_in {X = X} {B = B} (held_in items beside))
lines_held B p items beside many = ap (lines_next p) (sym (records_held B items beside many))

-- the packets that went through the chains are those that were held
pub advances_held : {W X B : Type 0} (spelled : W → Given X B → List ℕ) (p after : Passage W) (items : List Item) (beside : List X) → length beside ≡ length items →
    Advances spelled (records_of items) p after → Advances spelled (records_in {B = B} (held_in items beside)) p after
advances_held {B = B} spelled p after items beside many went = subst (λ l. Advances spelled l p after) (sym (records_held B items beside many)) went
