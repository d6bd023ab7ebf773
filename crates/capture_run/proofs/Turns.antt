-- One turn of the loop over a capture: what ran so far, the held packets, the source, and what stays.
use Rattle.std.proofs.Common.{◌≡◌, ◌≢◌, ◌≤◌, ◌+◌, ◌∙◌, ℕ, List, [], ◌∷◌, ◌++◌, length, Bool, true, false, refl, ap, sym, subst, append_assoc, length-append, arith, rules}
use Rattle.std.specs.Prelude.{All, IsTrue, if◌then◌else◌, Option, Some, None, IfSome}
use Rattle.std.specs.Option.{option_map}
use Rattle.std.proofs.lemmas.Bool.{false≢true}
use Rattle.std.proofs.lemmas.List.{append-nil, length-map}
use Rattle.std.proofs.lemmas.List.Sums.{count_by-le-length}
use Rattle.std.proofs.lemmas.List.Elements.{All-nil, All-cons, All-append}
use Rattle.nfp_outside.specs.declared.slot.Slot.{Slot}
use Rattle.nfp_outside.specs.declared.slot.Slot.TheVariants as slots
use Rattle.nfp_outside.specs.Outside.{SlotView, IsRisen}
use Rattle.capture_bytes.specs.Packets.{IsShort}
use Rattle.capture_bytes.specs.declared.packet.PcapRecord.{PcapRecord}
use Rattle.policy_text.specs.declared.clause.Match.{Match}
use Rattle.classifier.specs.Classes.{class_of}
use Rattle.classifier.specs.Cutting.{Cutting, with_packet, closes, closed_now, after}
use Rattle.classifier.specs.declared.burst.Item.{Item}
use Rattle.capture_report.specs.BurstWalkProofs.{IsClassed}
use Rattle.capture_items.specs.declared.fault.FormatFault.{FormatFault}
use Rattle.capture_run.specs.Passing.{Ends, IsFresh, IsTold, PassBreaks, Passes, StopBreaks, StopEnds, TakeBreaks, Takes, chains_in, fates_next}
use Rattle.capture_report.specs.Report.{is_gone}
use Rattle.capture_run.specs.Running.{RunsAll, RunBreaks}
use Rattle.capture_items.specs.Slots.{Breaks, Puts}
use Rattle.capture_items.specs.Sources.{GivesNext, IsOpeningFault, RefusesNext}
use Rattle.capture_items.specs.Streams.{HasNumber, Stream, count_given, records_in, with_given}
use Rattle.capture_run.specs.Streams.{held_in}
use Rattle.capture_items.specs.declared.fault.RunFault.{RunFault}
use Rattle.capture_items.specs.declared.fault.RunFault.TheVariants as faults
use Rattle.capture_items.specs.declared.fault.SourceFault.{SourceFault}
use Rattle.capture_items.specs.declared.fault.SourceFault.TheVariants as refusals
use Rattle.capture_items.specs.declared.given.Given.{Given}
use Rattle.capture_items.specs.declared.given.Given.TheVariants.{Packet, Block}
use Rattle.capture_run.specs.declared.passage.Passage.{Passage}
use Rattle.capture_items.specs.Putting.{breaks_none, capture_is_not_out, capture_is_not_report, puts_is, puts_more, puts_read}
use Rattle.capture_run.proofs.Following.{CountsInARow}
use Rattle.capture_run.proofs.Passing.{breaks_block, breaks_next, longer, passes_block, passes_more, passes_none}
use Rattle.capture_run.proofs.Running.{breaks_run, runs_all, with_all, with_more, with_none}
use Rattle.capture_run.proofs.Streaming.{held_more, records-append, records_held}
use Rattle.capture_run.proofs.Walking.{length-fates_of}

-- reading puts nothing
passes_read : {W X B : Type 0} (spelled : W → Given X B → List ℕ) (xs : List (Given X B)) (a b : Passage W) (old mid now : Slot → SlotView) → Passes spelled xs a b old mid → Puts [] [] mid now →
    Passes spelled xs a b old now
passes_read spelled xs a b old mid now passes reads = record {
  advances = passes.advances;
  puts = puts_is _ _ _ _ old now (append-nil _) (append-nil _) (puts_more _ _ [] [] old mid now passes.puts reads);
}

-- at most as many were dropped as were read, if that held before
still_within : {W X B : Type 0} (spelled : W → Given X B → List ℕ) (xs : List (Given X B)) (a b : Passage W) (old new : Slot → SlotView) → Passes spelled xs a b old new →
    a.totals.dropped ≤ a.totals.records → b.totals.dropped ≤ b.totals.records
still_within spelled xs a b old new passes within =
    let read = passes.advances.read in
    let gone = passes.advances.dropped in
    let bound = count_by-le-length is_gone (fates_next a (records_in xs)) in
    let many = length-fates_of (chains_in a) a.unit (records_in xs) in
    omega arith

-- one more packet is held, with the chain that takes it
pub more_classed : (fits : List Match) (cut : Cutting) (packet : PcapRecord) (class : Option ℕ) (items : List Item) → All (IsClassed fits) cut.held → IsShort packet →
    class ≡ class_of fits packet.frame → items ≡ with_packet cut packet class → All (IsClassed fits) items
more_classed fits cut packet class items held short told is =
    subst (All (IsClassed fits)) (sym is)
    (All-append (IsClassed fits) cut.held (record { number = cut.added + 1; class = class; packet = packet } ∷ []) held
    (All-cons (IsClassed fits) _ [] (record { class = told; short = short }) (All-nil (IsClassed fits))))

more_held : {X B : Type 0} (cut : Cutting) (beside : List X) (packet : PcapRecord) (x : X) (class : Option ℕ) → length beside ≡ length cut.held →
    held_in {X = X} {B = B} cut.held beside ++ Packet packet x ∷ [] ≡ held_in (with_packet cut packet class) (beside ++ x ∷ [])
more_held cut beside packet x class many = sym (held_more cut.held beside (record { number = cut.added + 1; class = class; packet = packet }) x many)

pub one_more : {X : Type 0} (cut : Cutting) (beside : List X) (packet : PcapRecord) (x : X) (class : Option ℕ) → length beside ≡ length cut.held →
    length (beside ++ x ∷ []) ≡ length (with_packet cut packet class)
one_more cut beside packet x class many =
    let a = length-append beside (x ∷ []) in
    let b = length-append cut.held (record { number = cut.added + 1; class = class; packet = packet } ∷ []) in
    omega arith

-- the burst stays open
pub takes_open : {W X B : Type 0} (spelled : W → Given X B → List ℕ) (cut cut' : Cutting) (beside beside' : List X) (packet : PcapRecord) (x : X) (class : Option ℕ) (p : Passage W) (old : Slot →
    SlotView) → All (IsClassed p.service.classes) cut.held → IsTold p → IsShort packet →
    length beside ≡ length cut.held → class ≡ class_of p.service.classes packet.frame → ¬ IsTrue (closes cut packet class) → cut' ≡ after cut packet class → beside' ≡ beside ++ x ∷ [] →
    Takes spelled cut beside cut' beside' (Packet packet x) p p old old
takes_open spelled cut cut' beside beside' packet x class p old held told short many is_class stays is one = go (closes cut packet class) refl
  where
    go : (b : Bool) → closes cut packet class ≡ b → Takes spelled cut beside cut' beside' (Packet packet x) p p old old
    go true e = absurd (stays (subst IsTrue (sym e) (search rules)))
    go false e =
        let now : cut' ≡ record { limit = cut.limit; added = cut.added + 1; held = with_packet cut packet class } =
        is ∙ ap (λ b. if b then record { limit = cut.limit; added = cut.added + 1; held = [] } else record { limit = cut.limit; added = cut.added + 1; held = with_packet cut packet class }) e in
        record {
          ran = [];
          passes = passes_none spelled p old;
          row = more_held cut beside packet x class many ∙ (λ i. held_in ((sym now i).held) (sym one i));
          classed = more_classed p.service.classes cut packet class cut'.held held short is_class (ap (λ c. c.held) now);
          told = told;
          added = ap (λ c. c.added) now;
          as_many = ap length one ∙ one_more cut beside packet x class many ∙ ap (λ c. length c.held) (sym now);
        }

-- the burst is closed, and ran
pub takes_closed : {W X B : Type 0} (spelled : W → Given X B →
    List ℕ) (cut cut' : Cutting) (beside all beside' : List X) (packet : PcapRecord) (x : X) (class : Option ℕ) (items : List Item) (p p' : Passage W) (old new : Slot → SlotView) →
    IsTrue (closes cut packet class) →
    cut' ≡ after cut packet class → items ≡ with_packet cut packet class → all ≡ beside ++ x ∷ [] → beside' ≡ [] → length beside ≡ length cut.held → IsTold p' →
    Passes spelled (held_in items all) p p' old new →
    Takes spelled cut beside cut' beside' (Packet packet x) p p' old new
takes_closed spelled cut cut' beside all beside' packet x class items p p' old new closed is are more none many told passes = go (closes cut packet class) refl
  where
    go : (b : Bool) → closes cut packet class ≡ b → Takes spelled cut beside cut' beside' (Packet packet x) p p' old new
    go false e = absurd (false≢true (subst IsTrue e closed))
    go true e =
        let now : cut' ≡ record { limit = cut.limit; added = cut.added + 1; held = [] } =
        is ∙ ap (λ b. if b then record { limit = cut.limit; added = cut.added + 1; held = [] } else record { limit = cut.limit; added = cut.added + 1; held = with_packet cut packet class }) e in
        record {
          ran = held_in items all;
          passes = passes;
          row = more_held cut beside packet x class many ∙ (λ i. held_in (sym are i) (sym more i)) ∙ sym (append-nil (held_in items all)) ∙ ap (λ c. held_in items all ++ held_in c.held beside') (sym now);
          classed = subst (λ c. All (IsClassed p.service.classes) c.held) (sym now) (All-nil (IsClassed p.service.classes));
          told = told;
          added = ap (λ c. c.added) now;
          as_many = ap length none ∙ ap (λ c. length c.held) (sym now);
        }

pub takes_broken : {W X B : Type 0} (spelled : W → Given X B →
    List ℕ) (cut : Cutting) (beside all : List X) (packet : PcapRecord) (x : X) (class : Option ℕ) (items : List Item) (p : Passage W) (old new : Slot → SlotView) (e : RunFault) →
    items ≡ with_packet cut packet class → all ≡ beside ++ x ∷ [] → length beside ≡ length cut.held → PassBreaks spelled (held_in items all) p old new e →
    TakeBreaks spelled cut beside (Packet packet x) p old new e
takes_broken spelled cut beside all packet x class items p old new e are more many broken =
    subst (λ l. PassBreaks spelled l p old new e) ((λ i. held_in (are i) (more i)) ∙ sym (more_held cut beside packet x class many)) broken

-- a block that is no packet closed the burst, and was appended after it
pub takes_block : {W X B : Type 0} → CountsInARow →
    (spelled : W → Given X B → List ℕ) (cut cut' : Cutting) (beside beside' : List X) (b : B) (items : List Item) (p p' : Passage W) (w : W) (old mid new : Slot → SlotView) → cut' ≡ closed_now cut →
    items ≡ cut.held → beside' ≡ [] →
    IsTold p' → Passes spelled (held_in items beside) p p' old mid → spelled w ≡ spelled p'.writer → Puts (spelled p'.writer (Block b)) [] mid new →
    Takes spelled cut beside cut' beside' (Block b) p (record p' { writer = w }) old new
takes_block law spelled cut cut' beside beside' b items p p' w old mid new is are none told passes same put = record {
  ran = held_in items beside ++ Block b ∷ [];
  passes = passes_more law spelled (held_in items beside) (Block b ∷ []) p p' (record p' { writer = w }) old mid new passes (passes_block spelled p' w b mid new same put);
  row = ap (λ l. held_in l beside ++ Block b ∷ []) (sym are) ∙ sym (append-nil _) ∙ ap (λ c. (held_in items beside ++ Block b ∷ []) ++ held_in c.held beside') (sym is);
  classed = subst (λ c. All (IsClassed p.service.classes) c.held) (sym is) (All-nil (IsClassed p.service.classes));
  told = told;
  added = let e = ap (λ c. c.added) is in omega arith;
  as_many = ap length none ∙ ap (λ c. length c.held) (sym is);
}

pub block_broken : {W X B : Type 0} (spelled : W → Given X B → List ℕ) (cut : Cutting) (beside : List X) (b : B) (items : List Item) (p p' : Passage W) (old mid new : Slot →
    SlotView) (e : RunFault) → items ≡ cut.held → Passes spelled (held_in items beside) p p' old mid →
    Breaks (spelled p'.writer (Block b)) [] mid new e → TakeBreaks spelled cut beside (Block b) p old new e
block_broken spelled cut beside b items p p' old mid new e are passes broken =
    subst (λ l. PassBreaks spelled (held_in l beside ++ Block b ∷ []) p old new e) are
    (breaks_next spelled (held_in items beside) (Block b ∷ []) p p' old mid new e passes (breaks_block spelled p' b mid new e broken))

pub before_block : {W X B : Type 0} (spelled : W → Given X B → List ℕ) (cut : Cutting) (beside : List X) (b : B) (items : List Item) (p : Passage W) (old new : Slot → SlotView) (e : RunFault) →
    items ≡ cut.held → PassBreaks spelled (held_in items beside) p old new e →
    TakeBreaks spelled cut beside (Block b) p old new e
before_block spelled cut beside b items p old new e are broken =
    subst (λ l. PassBreaks spelled (held_in l beside ++ Block b ∷ []) p old new e) are (longer spelled (held_in items beside) (Block b ∷ []) p old new e broken)

-- what a turn knows about the passage, the cutter, the source and the slots
pub record IsAt {W X B S : Type 0} (spelled : W → Given X B → List ℕ) (left : S → SlotView → Option (Stream X B)) (packets : S → ℕ) (is_open : S →
    Bool) (first p : Passage W) (cut : Cutting) (beside : List X) (start source : S) (old now : Slot → SlotView) : Type 0 where
  pub done : List (Given X B)
  pub passes : Passes spelled done first p old now
  pub whole : left start (old slots.Capture) ≡ option_map (with_all (done ++ held_in cut.held beside)) (left source (now slots.Capture))
  pub classed : All (IsClassed p.service.classes) cut.held
  pub told : IsTold p
  pub number : cut.added ≡ p.totals.records + length cut.held
  pub as_many : length beside ≡ length cut.held
  pub at : packets source ≡ cut.added
  pub asked : is_open source ≡ true
  pub few : cut.added ≤ 4294967295
  pub within : p.totals.dropped ≤ p.totals.records
  pub capture_name : (now slots.Capture).name ≡ (old slots.Capture).name
  pub others : (s : Slot) → s ≢ slots.Out → s ≢ slots.Report → s ≢ slots.Capture → now s ≡ old s

pub at_begins : {W X B S : Type 0} (spelled : W → Given X B → List ℕ) (left : S → SlotView → Option (Stream X B)) (packets : S → ℕ) (is_open : S →
    Bool) (first : Passage W) (cut : Cutting) (beside : List X) (limit : ℕ) (source : S) (old : Slot → SlotView) →
    IsFresh first → cut ≡ record { limit = limit; added = 0; held = [] } → beside ≡ [] → packets source ≡ 0 → is_open source ≡ true →
    IsAt spelled left packets is_open first first cut beside source source old old
at_begins spelled left packets is_open first cut beside limit source old fresh new nothing none_given asked =
    let none = fresh.records in
    let gone = fresh.dropped in
    let held : cut.held ≡ [] = ap (λ c. c.held) new in
    let added : cut.added ≡ 0 = ap (λ c. c.added) new in
    record {
      done = [];
      passes = passes_none spelled first old;
      whole = with_none (left source (old slots.Capture)) ∙ ap (λ l. option_map (with_all (held_in l beside)) (left source (old slots.Capture))) (sym held);
      classed = subst (All (IsClassed first.service.classes)) (sym held) (All-nil (IsClassed first.service.classes));
      told = fresh.told;
      number = let n : length cut.held ≡ 0 = ap length held in omega arith;
      as_many = ap length nothing ∙ sym (ap length held);
      at = none_given ∙ sym added;
      asked = asked;
      few = omega arith;
      within = omega arith;
      capture_name = refl;
      others = λ s o r c. refl;
    }

-- what is held, and one more
row_of : {X B : Type 0} (done ran held held' : List (Given X B)) (x : Given X B) → held ++ x ∷ [] ≡ ran ++ held' → (done ++ held) ++ x ∷ [] ≡ (done ++ ran) ++ held'
row_of done ran held held' x row = append_assoc done held (x ∷ []) ∙ ap (λ l. done ++ l) row ∙ sym (append_assoc done ran held')

-- the number of packets among these
packets_among : {X B : Type 0} (xs : List (Given X B)) (x : Given X B) → length (records_in (xs ++ x ∷ [])) ≡ length (records_in xs) + count_given x
packets_among [] (Packet r x) = refl
packets_among [] (Block b) = refl
packets_among (Packet r y ∷ xs) x = let more = packets_among xs x in omega arith
packets_among (Block b ∷ xs) x = packets_among xs x

numbered : {X B : Type 0} (x : Given X B) (n : ℕ) → HasNumber x n → n ≤ 4294967295 → n + count_given x ≤ 4294967295
numbered (Packet r x) n few within = omega arith
numbered (Block b) n few within = omega arith

-- more was given, and taken
pub at_goes_on : {W X B S : Type 0} → CountsInARow → (spelled : W → Given X B → List ℕ) (left : S → SlotView → Option (Stream X B)) (packets taken : S → ℕ) (is_open : S →
    Bool) (first p p' : Passage W) (cut cut' : Cutting) (beside beside' : List X) (start source source' : S) (x : Given X B)
    (old mid now new : Slot → SlotView) →
    IsAt spelled left packets is_open first p cut beside start source old mid → GivesNext left packets taken x source source' (mid slots.Capture) (now slots.Capture) → is_open source' ≡ true →
    (mid slots.Capture).faults ≤ (now slots.Capture).faults →
    (now slots.Capture).name ≡ (mid slots.Capture).name → ((s : Slot) → s ≢ slots.Capture → now s ≡ mid s) →
    Takes spelled cut beside cut' beside' x p p' now new → ((s : Slot) → s ≢ slots.Out → s ≢ slots.Report → new s ≡ now s) →
    IsAt spelled left packets is_open first p' cut' beside' start source' old new
at_goes_on {B = B} law spelled left packets taken is_open first p p' cut cut' beside beside' start source source' x old mid now new at gives asked later name around takes beyond =
    let capture : new slots.Capture ≡ now slots.Capture = beyond slots.Capture capture_is_not_out capture_is_not_report in
    let here : packets source ≡ cut.added = at.at in
    let held = held_in cut.held beside in
    let held' = held_in cut'.held beside' in
    let rest : left source (mid slots.Capture) ≡ option_map (with_given x) (left source' (new slots.Capture)) = gives.whole ∙ ap (λ v. option_map (with_given x) (left source' v)) (sym capture) in
    let one = takes.added in
    record {
      done = at.done ++ takes.ran;
      passes = passes_more law spelled at.done takes.ran first p p' old now new (passes_read spelled at.done first p old mid now at.passes (puts_read mid now later around)) takes.passes;
      whole = at.whole ∙ ap (option_map (with_all (at.done ++ held))) rest ∙ with_more (at.done ++ held) x (left source' (new slots.Capture))
          ∙ ap (λ l. option_map (with_all l) (left source' (new slots.Capture))) (row_of at.done takes.ran held held' x takes.row);
      classed = subst (λ fits. All (IsClassed fits) cut'.held) (sym takes.passes.advances.same_classes) takes.classed;
      told = takes.told;
      number =
          let read = takes.passes.advances.read in
          let before = at.number in
          let row : length (records_in (held ++ x ∷ [])) ≡ length (records_in (takes.ran ++ held')) = ap (λ l. length (records_in l)) takes.row in
          let front = packets_among held x in
          let back : length (records_in (takes.ran ++ held')) ≡ length (records_in takes.ran) + length (records_in held') =
          ap length (records-append takes.ran held') ∙ length-append (records_in takes.ran) (records_in held') in
          let few : length (records_in held) ≡ length cut.held = ap length (records_held B cut.held beside at.as_many) ∙ length-map cut.held (λ i. i.packet) in
          let few' : length (records_in held') ≡ length cut'.held = ap length (records_held B cut'.held beside' takes.as_many) ∙ length-map cut'.held (λ i. i.packet) in
          omega arith;
      as_many = takes.as_many;
      at = let counted = gives.counted in omega arith;
      asked = asked;
      few = let f = numbered x (packets source) gives.numbered (let few = at.few in omega arith) in omega arith;
      within = still_within spelled takes.ran p p' now new takes.passes at.within;
      capture_name = ap (λ v. v.name) capture ∙ name ∙ at.capture_name;
      others = λ s o r c. beyond s o r ∙ around s c ∙ at.others s o r c;
    }

-- nothing more comes, and the open burst ran
at_last : {W X B S : Type 0} → CountsInARow → (spelled : W → Given X B → List ℕ) (left : S → SlotView → Option (Stream X B)) (packets : S → ℕ) (is_open : S →
    Bool) (first p : Passage W) (cut : Cutting) (beside : List X) (start source : S) (fault : Option FormatFault) (run : Passage W × Option FormatFault)
    (old mid now new : Slot → SlotView) → IsAt spelled left packets is_open first p cut beside start source old mid →
    IfSome (left source (mid slots.Capture)) (λ s. s ≡ record { given = []; fault = fault }) → IfSome fault (λ f. ¬ IsOpeningFault f) → Puts [] [] mid now →
    Ends spelled (held_in cut.held beside) p fault now new run →
    RunsAll spelled first (left start (old slots.Capture)) old new run
at_last law spelled left packets is_open first p cut beside start source fault run old mid now new at empty kind reads ends =
    runs_all spelled first run (left start (old slots.Capture)) (left source (mid slots.Capture)) (at.done ++ held_in cut.held beside) old new
    (passes_more law spelled at.done (held_in cut.held beside) first p run.0 old now new (passes_read spelled at.done first p old mid now at.passes reads) ends.passes) at.whole
    (subst (λ f. IfSome (left source (mid slots.Capture)) (λ s. s ≡ record { given = []; fault = f })) (sym ends.told) empty) (subst (λ f. IfSome f (λ x. ¬ IsOpeningFault x)) (sym ends.told) kind)
    (still_within spelled (held_in cut.held beside) p run.0 now new ends.passes at.within)

pub at_end : {W X B S : Type 0} → CountsInARow → (spelled : W → Given X B → List ℕ) (left : S → SlotView → Option (Stream X B)) (packets : S → ℕ) (is_open : S →
    Bool) (first p : Passage W) (cut : Cutting) (beside : List X) (start source : S) (run : Passage W × Option FormatFault)
    (old mid now new : Slot → SlotView) → IsAt spelled left packets is_open first p cut beside start source old mid →
    IfSome (left source (mid slots.Capture)) (λ s. s ≡ record { given = []; fault = None }) → (mid slots.Capture).faults ≤ (now slots.Capture).faults →
    ((s : Slot) → s ≢ slots.Capture → now s ≡ mid s) → Ends spelled (held_in cut.held beside) p None now new run →
    RunsAll spelled first (left start (old slots.Capture)) old new run
at_end law spelled left packets is_open first p cut beside start source run old mid now new at empty later around ends =
    at_last law spelled left packets is_open first p cut beside start source None run old mid now new at empty tt (puts_read mid now later around) ends

-- the next record couldn't be read: a fault ends the capture
pub at_stop : {W X B S : Type 0} → CountsInARow → (spelled : W → Given X B → List ℕ) (left : S → SlotView → Option (Stream X B)) (packets : S → ℕ) (is_open : S →
    Bool) (first p : Passage W) (cut : Cutting) (beside : List X) (start source : S) (refusal : SourceFault) (run : Passage W × Option FormatFault)
    (old mid now new : Slot → SlotView) → IsAt spelled left packets is_open first p cut beside start source old mid →
    ((fault : FormatFault) → refusal ≡ refusals.Format fault → RefusesNext left fault source (mid slots.Capture)) →
    (mid slots.Capture).faults ≤ (now slots.Capture).faults → ((s : Slot) → s ≢ slots.Capture → now s ≡ mid s) → StopEnds spelled (held_in cut.held beside) p refusal now new run →
    RunsAll spelled first (left start (old slots.Capture)) old new run
at_stop law spelled left packets is_open first p cut beside start source (refusals.Format fault) run old mid now new at refused later around ends =
    at_last law spelled left packets is_open first p cut beside start source (Some fault) run old mid now new at (refused fault refl).whole (refused fault refl).kind (puts_read mid now later around) ends
at_stop law spelled left packets is_open first p cut beside start source refusals.ReadFault run old mid now new at refused later around ends = absurd ends
at_stop law spelled left packets is_open first p cut beside start source refusals.OutOfMemory run old mid now new at refused later around ends = absurd ends

-- the open burst was broken off
pub at_end_break : {W X B S : Type 0} (spelled : W → Given X B → List ℕ) (left : S → SlotView → Option (Stream X B)) (packets : S → ℕ) (is_open : S →
    Bool) (first p : Passage W) (cut : Cutting) (beside : List X) (start source : S) (e : RunFault)
    (old mid now new : Slot → SlotView) → IsAt spelled left packets is_open first p cut beside start source old mid →
    (mid slots.Capture).faults ≤ (now slots.Capture).faults → ((s : Slot) → s ≢ slots.Capture → now s ≡ mid s) → PassBreaks spelled (held_in cut.held beside) p now new e →
    RunBreaks spelled first (left start (old slots.Capture)) old new e
at_end_break spelled left packets is_open first p cut beside start source e old mid now new at later around broken =
    breaks_run spelled first (left start (old slots.Capture)) (left source (mid slots.Capture)) (at.done ++ held_in cut.held beside) old new e at.whole
    (breaks_next spelled at.done (held_in cut.held beside) first p old now new e (passes_read spelled at.done first p old mid now at.passes (puts_read mid now later around)) broken)

-- the same if the next record couldn't be read
pub at_stop_break : {W X B S : Type 0} (spelled : W → Given X B → List ℕ) (left : S → SlotView → Option (Stream X B)) (packets : S → ℕ) (is_open : S →
    Bool) (first p : Passage W) (cut : Cutting) (beside : List X) (start source : S) (refusal : SourceFault) (e : RunFault)
    (old mid now new : Slot → SlotView) → IsAt spelled left packets is_open first p cut beside start source old mid →
    (refusal ≡ refusals.ReadFault → IsRisen (mid slots.Capture).faults (now slots.Capture).faults) →
    (mid slots.Capture).faults ≤ (now slots.Capture).faults → ((s : Slot) → s ≢ slots.Capture → now s ≡ mid s) → StopBreaks spelled (held_in cut.held beside) p refusal now new e →
    RunBreaks spelled first (left start (old slots.Capture)) old new e
at_stop_break spelled left packets is_open first p cut beside start source (refusals.Format fault) e old mid now new at rose later around broken =
    at_end_break spelled left packets is_open first p cut beside start source e old mid now new at later around broken
at_stop_break spelled left packets is_open first p cut beside start source refusals.ReadFault e old mid now new at rose later around broken =
    subst (λ x. RunBreaks spelled first (left start (old slots.Capture)) old new x) (sym broken.0) (subst (λ s. RunBreaks spelled first (left start (old slots.Capture)) old s faults.ReadFault) (sym broken.1)
    (at_end_break spelled left packets is_open first p cut beside start source faults.ReadFault old mid mid now at (omega arith) (λ s c. refl) (breaks_none _ _ mid now faults.ReadFault (puts_read mid now later around) (rose refl))))
at_stop_break spelled left packets is_open first p cut beside start source refusals.OutOfMemory e old mid now new at rose later around broken =
    subst (λ x. RunBreaks spelled first (left start (old slots.Capture)) old new x) (sym broken.0) (subst (λ s. RunBreaks spelled first (left start (old slots.Capture)) old s faults.OutOfMemory) (sym broken.1)
    (at_end_break spelled left packets is_open first p cut beside start source faults.OutOfMemory old mid mid now at (omega arith) (λ s c. refl) (breaks_none _ _ mid now faults.OutOfMemory (puts_read mid now later around) tt)))

-- the part that was taken next was broken off
pub at_take_break : {W X B S : Type 0} (spelled : W → Given X B → List ℕ) (left : S → SlotView → Option (Stream X B)) (packets taken : S → ℕ) (is_open : S →
    Bool) (first p : Passage W) (cut : Cutting) (beside : List X) (start source source' : S) (x : Given X B) (e : RunFault)
    (old mid now new : Slot → SlotView) → IsAt spelled left packets is_open first p cut beside start source old mid →
    GivesNext left packets taken x source source' (mid slots.Capture) (now slots.Capture) → (mid slots.Capture).faults ≤ (now slots.Capture).faults → ((s : Slot) → s ≢ slots.Capture → now s ≡ mid s) →
    TakeBreaks spelled cut beside x p now new e → RunBreaks spelled first (left start (old slots.Capture)) old new e
at_take_break spelled left packets taken is_open first p cut beside start source source' x e old mid now new at gives later around broken =
    let held = held_in cut.held beside in
    breaks_run spelled first (left start (old slots.Capture)) (left source' (now slots.Capture)) (at.done ++ (held ++ x ∷ [])) old new e
    (at.whole ∙ ap (option_map (with_all (at.done ++ held))) gives.whole ∙ with_more (at.done ++ held) x (left source' (now slots.Capture))
    ∙ ap (λ l. option_map (with_all l) (left source' (now slots.Capture))) (append_assoc at.done held (x ∷ [])))
    (breaks_next spelled at.done (held ++ x ∷ []) first p old now new e (passes_read spelled at.done first p old mid now at.passes (puts_read mid now later around)) broken)
