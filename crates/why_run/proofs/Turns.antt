-- One turn of the loop over a capture: what is told so far, the source, and what stays.
use Rattle.std.proofs.Common.{◌≡◌, ◌≢◌, ◌<◌, ◌≤◌, ◌+◌, ◌∙◌, ℕ, List, [], ◌∷◌, ◌++◌, length, map, Bool, true, refl, ap, sym, subst, append_assoc, arith}
use Rattle.std.specs.Prelude.{Option, Some, None, IfSome, IfOk, IfErr, IfNone, Result, Ok, Err, count_by}
use Rattle.std.specs.Option.{option_map}
use Rattle.std.proofs.lemmas.List.{append-nil, length_push}
use Rattle.std.proofs.lemmas.List.Sums.{count_by-le-length}
use Rattle.nfp_outside.specs.Outside.{SlotView, IsRisen}
use Rattle.nfp_outside.specs.declared.slot.Slot.{Slot}
use Rattle.nfp_outside.specs.declared.slot.Slot.TheVariants as slots
use Rattle.capture_bytes.specs.declared.packet.PcapRecord.{PcapRecord}
use Rattle.capture_bytes.specs.declared.packet.Unit.{Unit as TimeUnit}
use Rattle.capture_items.specs.Putting.{breaks_none, capture_is_not_report, puts_read}
use Rattle.capture_items.specs.Slots.{Breaks, Gathers, Puts, PutsPrefixes}
use Rattle.capture_items.specs.Sources.{GivesNext, IsOpeningFault, RefusesNext}
use Rattle.capture_items.specs.Streams.{Stream, HasNumber, count_given, records_in, with_given}
use Rattle.capture_items.specs.declared.fault.FormatFault.{FormatFault}
use Rattle.capture_items.specs.declared.fault.RunFault.{RunFault}
use Rattle.capture_items.specs.declared.fault.RunFault.TheVariants as faults
use Rattle.capture_items.specs.declared.fault.SourceFault.{SourceFault}
use Rattle.capture_items.specs.declared.fault.SourceFault.TheVariants as refusals
use Rattle.capture_items.specs.declared.given.Given.{Given}
use Rattle.capture_items.specs.declared.given.Given.TheVariants.{Packet, Block}
use Rattle.plain_chains.specs.PacketWays.{ways_of}
use Rattle.plain_chains.specs.Plain.{chains_of, way_next}
use Rattle.plain_chains.specs.declared.chain.PlainChain.{PlainChain}
use Rattle.traced_walk.specs.Ways.{Way, ways}
use Rattle.why_report.specs.Report.{OrderedChain, drop_line, drop_lines, is_gone}
use Rattle.why_run.specs.Running.{Goes, ordered_of, ways_given}
use Rattle.why_run.specs.Telling.{EndsSo, GivenBreaks, IsTold, TellBreaks, TellsAll, TellsGiven, stop_of}
use Rattle.why_run.specs.declared.telling.Telling.{Telling}
use Rattle.why_run.proofs.Gathering.{breaks_within, gather_breaks, gathers_beside, gathers_more, gathers_none}
use Rattle.why_run.proofs.Streaming.{lines-append, lines_push, records-append, ways_behind, ways_first, ways_next, with_all, with_more, with_none}

pub if_some : {T : Type 0} (o : Option T) (P Q : T → Type 0) → ((b : T) → P b → Q b) → IfSome o P → IfSome o Q
if_some None P Q f h = tt
if_some (Some b) P Q f h = f b h

pub for_each : {T : Type 0} (o : Option T) (P : T → Type 0) → ((b : T) → P b) → IfSome o P
for_each None P f = tt
for_each (Some b) P f = f b

pub broken_goes : (out report : List ℕ) (old new : Slot → SlotView) (e : RunFault) → Breaks out report old new e → Goes old new
broken_goes out report old new e b = record { report_name = b.prefixes.in_report.appended.same_name; later = b.prefixes.later }

-- at most as many were dropped as were read, by what is told
pub within_by : (chains : List OrderedChain) (asked : Option ℕ) (done : List Way) (t : Telling) → IsTold chains asked done t → t.account.totals.dropped ≤ t.account.totals.records
within_by chains asked done t told =
    let read : t.account.totals.records ≡ length done = ap (λ a. a.totals.records) told.account in
    let gone : t.account.totals.dropped ≡ count_by (λ w. is_gone w.fate) done = ap (λ a. a.totals.dropped) told.account in
    let most = count_by-le-length (λ (w : Way). is_gone w.fate) done in
    omega arith

-- what a turn knows about what is told, the source and the slots
pub record IsAt {X B S : Type 0} (left : S → SlotView → Option (Stream X B)) (packets : S → ℕ) (is_open : S → Bool) (first t : Telling) (unit : TimeUnit) (held held' : List ℕ) (start source : S) (old now : Slot → SlotView) : Type 0 where
  pub given : List (Given X B)
  pub done : List Way
  pub told : IsTold (ordered_of first.service) first.asked done t
  pub goes_on : (rs : List PcapRecord) → ways_of (chains_of first.service) unit (records_in given ++ rs) ≡ done ++ ways_of (chains_of t.service) unit rs
  pub gathered : Gathers (drop_lines (ordered_of first.service) 1 done) held held' old now
  pub whole : left start (old slots.Capture) ≡ option_map (with_all given) (left source (now slots.Capture))
  pub at : packets source ≡ length done
  pub still_open : is_open source ≡ true
  pub capture_name : (now slots.Capture).name ≡ (old slots.Capture).name
  pub others : (s : Slot) → s ≢ slots.Report → s ≢ slots.Capture → now s ≡ old s

module _ {X B S : Type 0} (left : S → SlotView → Option (Stream X B)) (packets : S → ℕ) (is_open : S → Bool) (unit : TimeUnit) where
  pub at_begins : (first : Telling) (held : List ℕ) (source : S) (old : Slot → SlotView) → IsTold (ordered_of first.service) first.asked [] first → packets source ≡ 0 → is_open source ≡ true
      → IsAt left packets is_open first first unit held held source source old old
  unfolding drop_lines
  at_begins first held source old begun fresh opened = record {
    given = [];
    done = [];
    told = begun;
    goes_on = λ rs. refl;
    gathered = gathers_none held old;
    whole = with_none (left source (old slots.Capture));
    at = fresh;
    still_open = opened;
    capture_name = refl;
    others = λ s r c. refl;
  }

  -- the number of records and of drops, by what is told
  pub records_told : (first t : Telling) (held held' : List ℕ) (start source : S) (old now : Slot → SlotView) → IsAt left packets is_open first t unit held held' start source old now → t.account.totals.records ≡ packets source
  records_told first t held held' start source old now at = ap (λ a. a.totals.records) at.told.account ∙ sym at.at

  pub within_told : (first t : Telling) (held held' : List ℕ) (start source : S) (old now : Slot → SlotView) → IsAt left packets is_open first t unit held held' start source old now → t.account.totals.dropped ≤ t.account.totals.records
  within_told first t held held' start source old now at = within_by (ordered_of first.service) first.asked at.done t at.told

  -- more was given, and told
  pub at_goes_on : (taken : S → ℕ) (first t t' : Telling) (held held' held'' : List ℕ) (start source source' : S) (x : Given X B) (old mid now new : Slot → SlotView) →
      IsAt left packets is_open first t unit held held' start source old mid → GivesNext left packets taken x source source' (mid slots.Capture) (now slots.Capture) → is_open source' ≡ true
      → (mid slots.Capture).faults ≤ (now slots.Capture).faults → (now slots.Capture).name ≡ (mid slots.Capture).name → ((s : Slot) → s ≢ slots.Capture → now s ≡ mid s)
      → TellsGiven unit x t t' held' held'' now new → ((s : Slot) → s ≢ slots.Report → new s ≡ now s) → IsAt left packets is_open first t' unit held held'' start source' old new
  at_goes_on taken first t t' held held' held'' start source source' (Packet r y) old mid now new at gives opened later name around tells beyond =
      let chains = ordered_of first.service in
      let way = way_next t.service unit r in
      let capture : new slots.Capture ≡ now slots.Capture = beyond slots.Capture capture_is_not_report in
      record {
        given = at.given ++ Packet r y ∷ [];
        done = at.done ++ way ∷ [];
        told = tells.tells chains first.asked at.done at.told;
        goes_on = λ rs.
            ap (λ l. ways_of (chains_of first.service) unit (l ++ rs)) (records-append at.given (Packet r y ∷ []))
            ∙ ap (ways_of (chains_of first.service) unit) (append_assoc (records_in at.given) (r ∷ []) rs)
            ∙ at.goes_on (r ∷ rs) ∙ ap (λ l. at.done ++ l) (ways_next unit r rs t.service t'.service tells.led)
            ∙ sym (append_assoc at.done (way ∷ []) (ways_of (chains_of t'.service) unit rs));
        gathered = subst (λ l. Gathers l held held'' old new) (sym (lines_push chains at.done way))
            (gathers_more (drop_lines chains 1 at.done) (drop_line chains (length at.done + 1) way.class way) held held' held'' old now new
            (gathers_beside (drop_lines chains 1 at.done) held held' old mid now at.gathered (puts_read mid now later around)) (tells.gathers chains first.asked at.done at.told));
        whole = at.whole ∙ ap (option_map (with_all at.given)) (gives.whole ∙ ap (λ v. option_map (with_given (Packet r y)) (left source' v)) (sym capture)) ∙ with_more at.given (Packet r y) (left source' (new slots.Capture));
        at = gives.counted ∙ ap (λ n. n + 1) at.at ∙ sym (length_push at.done way);
        still_open = opened;
        capture_name = ap (λ v. v.name) capture ∙ name ∙ at.capture_name;
        others = λ s r c. beyond s r ∙ around s c ∙ at.others s r c;
      }
  at_goes_on taken first t t' held held' held'' start source source' (Block b) old mid now new at gives opened later name around stays beyond =
      let capture : new slots.Capture ≡ now slots.Capture = beyond slots.Capture capture_is_not_report in
      record {
        given = at.given ++ Block b ∷ [];
        done = at.done;
        told = subst (IsTold (ordered_of first.service) first.asked at.done) (sym stays.telling) at.told;
        goes_on = λ rs.
            ap (λ l. ways_of (chains_of first.service) unit (l ++ rs)) (records-append at.given (Block b ∷ []) ∙ append-nil (records_in at.given))
            ∙ at.goes_on rs ∙ ap (λ u. at.done ++ ways_of (chains_of u.service) unit rs) (sym stays.telling);
        gathered = subst (λ l. Gathers (drop_lines (ordered_of first.service) 1 at.done) held l old new) (sym stays.text)
            (subst (λ v. Gathers (drop_lines (ordered_of first.service) 1 at.done) held held' old v) (sym stays.slots)
            (gathers_beside (drop_lines (ordered_of first.service) 1 at.done) held held' old mid now at.gathered (puts_read mid now later around)));
        whole = at.whole ∙ ap (option_map (with_all at.given)) (gives.whole ∙ ap (λ v. option_map (with_given (Block b)) (left source' v)) (sym capture)) ∙ with_more at.given (Block b) (left source' (new slots.Capture));
        at = gives.counted ∙ plus_none (packets source) ∙ at.at;
        still_open = opened;
        capture_name = ap (λ v. v.name) capture ∙ name ∙ at.capture_name;
        others = λ s r c. beyond s r ∙ around s c ∙ at.others s r c;
      }
    where
      plus_none : (n : ℕ) → n + 0 ≡ n
      plus_none n = omega arith

  -- a capture with these items and no more
  settled : (start rest : Option (Stream X B)) (done : List (Given X B)) (fault : Option FormatFault) → start ≡ option_map (with_all done) rest →
      IfSome rest (λ s. s ≡ record { given = []; fault = fault }) → IfSome start (λ s. s ≡ record { given = done; fault = fault })
  settled start None done fault whole empty = subst (λ o. IfSome o (λ s. s ≡ record { given = done; fault = fault })) (sym whole) tt
  settled start (Some rest) done fault whole empty = subst (λ o. IfSome o (λ s. s ≡ record { given = done; fault = fault })) (sym whole)
      (ap (with_all done) empty ∙ ap (λ l. record { given = l; fault = fault }) (append-nil done))

  -- nothing more comes
  at_last : (first t : Telling) (held held' : List ℕ) (start source : S) (fault : Option FormatFault) (old mid now : Slot → SlotView) → IsAt left packets is_open first t unit held held' start source old mid →
      IfSome (left source (mid slots.Capture)) (λ s. s ≡ record { given = []; fault = fault }) → IfSome fault (λ f. ¬ IsOpeningFault f) → Puts [] [] mid now →
      TellsAll first.service unit first.asked (left start (old slots.Capture)) t held held' old now fault
  unfolding ways
  at_last first t held held' start source fault old mid now at empty kind reads = record {
    done = at.done;
    told = at.told;
    gathered = gathers_beside (drop_lines (ordered_of first.service) 1 at.done) held held' old mid now at.gathered reads;
    kind = kind;
    whole = if_some (left start (old slots.Capture)) _ _ (λ (s : Stream X B) is. record {
      ways = ap (λ (z : Stream X B). ways_given first.service unit z) is
          ∙ ap (ways_of (chains_of first.service) unit) (sym (append-nil (records_in at.given)))
          ∙ at.goes_on [] ∙ append-nil at.done;
      fault_is = sym (ap (λ (z : Stream X B). z.fault) is);
    }) (settled (left start (old slots.Capture)) (left source (mid slots.Capture)) at.given fault at.whole empty);
  }

  pub at_end : (first t : Telling) (held held' : List ℕ) (start source : S) (old mid now : Slot → SlotView) → IsAt left packets is_open first t unit held held' start source old mid →
      IfSome (left source (mid slots.Capture)) (λ s. s ≡ record { given = []; fault = None }) → (mid slots.Capture).faults ≤ (now slots.Capture).faults → ((s : Slot) → s ≢ slots.Capture → now s ≡ mid s) →
      TellsAll first.service unit first.asked (left start (old slots.Capture)) t held held' old now None
  at_end first t held held' start source old mid now at empty later around = at_last first t held held' start source None old mid now at empty tt (puts_read mid now later around)

  -- the next record couldn't be read: a fault ends the capture
  pub at_stop : (first t : Telling) (held held' : List ℕ) (start source : S) (refusal : SourceFault) (r : Result (Option FormatFault) RunFault) (old mid now : Slot → SlotView) → IsAt left packets is_open first t unit held held' start source old mid →
      ((fault : FormatFault) → refusal ≡ refusals.Format fault → RefusesNext left fault source (mid slots.Capture)) →
      (mid slots.Capture).faults ≤ (now slots.Capture).faults → ((s : Slot) → s ≢ slots.Capture → now s ≡ mid s) → r ≡ stop_of refusal →
      IfOk r (TellsAll first.service unit first.asked (left start (old slots.Capture)) t held held' old now)
  at_stop first t held held' start source (refusals.Format fault) r old mid now at refused later around is =
      subst (λ q. IfOk q (TellsAll first.service unit first.asked (left start (old slots.Capture)) t held held' old now)) (sym is)
      (at_last first t held held' start source (Some fault) old mid now at (refused fault refl).whole (refused fault refl).kind (puts_read mid now later around))
  at_stop first t held held' start source refusals.ReadFault r old mid now at refused later around is =
      subst (λ q. IfOk q (TellsAll first.service unit first.asked (left start (old slots.Capture)) t held held' old now)) (sym is) tt
  at_stop first t held held' start source refusals.OutOfMemory r old mid now at refused later around is =
      subst (λ q. IfOk q (TellsAll first.service unit first.asked (left start (old slots.Capture)) t held held' old now)) (sym is) tt

  -- these are the first ways of what the capture gives
  at_break : (first : Telling) (start : S) (given : List (Given X B)) (done : List Way) (more : List PcapRecord → List Way) (rest : Option (Stream X B)) (held : List ℕ) (old new : Slot → SlotView) (e : RunFault) →
      left start (old slots.Capture) ≡ option_map (with_all given) rest →
      ((rs : List PcapRecord) → ways_of (chains_of first.service) unit (records_in given ++ rs) ≡ done ++ more rs) →
      Breaks [] (held ++ drop_lines (ordered_of first.service) 1 done) old new e → TellBreaks first.service unit (left start (old slots.Capture)) held old new e
  at_break first start given done more rest held old new e whole goes_on broken = record {
    goes = broken_goes [] (held ++ drop_lines (ordered_of first.service) 1 done) old new e broken;
    cause = broken.cause;
    prefixes = go rest whole;
  }
    where
      Prefix : Stream X B → Type 0
      Prefix s = PutsPrefixes [] (held ++ drop_lines (ordered_of first.service) 1 (ways_given first.service unit s)) old new

      go : (o : Option (Stream X B)) → left start (old slots.Capture) ≡ option_map (with_all given) o → IfSome (left start (old slots.Capture)) Prefix
      go None is = subst (λ o. IfSome o Prefix) (sym is) tt
      go (Some left_over) is = subst (λ o. IfSome o Prefix) (sym is)
          (let all : List Way = more (records_in left_over.given) in
          let ways_are : ways_given first.service unit (with_all given left_over) ≡ done ++ all =
          ap (ways_of (chains_of first.service) unit) (records-append given left_over.given) ∙ goes_on (records_in left_over.given) in
          let text : (held ++ drop_lines (ordered_of first.service) 1 done) ++ drop_lines (ordered_of first.service) (1 + length done) all ≡ held ++ drop_lines (ordered_of first.service) 1 (ways_given first.service unit (with_all given left_over)) =
          append_assoc held (drop_lines (ordered_of first.service) 1 done) (drop_lines (ordered_of first.service) (1 + length done) all)
          ∙ ap (λ l. held ++ l) (sym (lines-append (ordered_of first.service) 1 done all))
          ∙ ap (λ w. held ++ drop_lines (ordered_of first.service) 1 w) (sym ways_are) in
          subst (λ l. PutsPrefixes [] l old new) text (breaks_within (held ++ drop_lines (ordered_of first.service) 1 done) (drop_lines (ordered_of first.service) (1 + length done) all) old new e broken).prefixes)

  -- the next item was broken off
  pub at_given_break : (taken : S → ℕ) (first t : Telling) (held held' : List ℕ) (start source source' : S) (x : Given X B) (e : RunFault) (old mid now new : Slot → SlotView) →
      IsAt left packets is_open first t unit held held' start source old mid → (mid slots.Capture).faults ≤ (now slots.Capture).faults → ((s : Slot) → s ≢ slots.Capture → now s ≡ mid s)
      → GivesNext left packets taken x source source' (mid slots.Capture) (now slots.Capture) → GivenBreaks unit x t held' now new e → TellBreaks first.service unit (left start (old slots.Capture)) held old new e
  at_given_break taken first t held held' start source source' (Packet r y) e old mid now new at later around gives broken =
      let chains = ordered_of first.service in
      let way = way_next t.service unit r in
      at_break first start (at.given ++ Packet r y ∷ []) (at.done ++ way ∷ []) (ways_behind unit r t.service) (left source' (now slots.Capture)) held old new e
      (at.whole ∙ ap (option_map (with_all at.given)) gives.whole ∙ with_more at.given (Packet r y) (left source' (now slots.Capture)))
      (λ rs.
      ap (λ l. ways_of (chains_of first.service) unit (l ++ rs)) (records-append at.given (Packet r y ∷ []))
      ∙ ap (ways_of (chains_of first.service) unit) (append_assoc (records_in at.given) (r ∷ []) rs)
      ∙ at.goes_on (r ∷ rs) ∙ ap (λ l. at.done ++ l) (ways_first unit r rs t.service)
      ∙ sym (append_assoc at.done (way ∷ []) (ways_behind unit r t.service rs)))
      (subst (λ l. Breaks [] (held ++ l) old new e) (sym (lines_push chains at.done way))
      (gather_breaks (drop_lines chains 1 at.done) (drop_line chains (length at.done + 1) way.class way) held held' old now new e
      (gathers_beside (drop_lines chains 1 at.done) held held' old mid now at.gathered (puts_read mid now later around)) (broken chains first.asked at.done at.told)))
  at_given_break taken first t held held' start source source' (Block b) e old mid now new at later around gives broken = absurd broken

  stopped : (first t : Telling) (held held' : List ℕ) (start source : S) (e : RunFault) (old mid now : Slot → SlotView) → IsAt left packets is_open first t unit held held' start source old mid →
      Breaks [] held' mid now e → TellBreaks first.service unit (left start (old slots.Capture)) held old now e
  stopped first t held held' start source e old mid now at broken =
      let lines = drop_lines (ordered_of first.service) 1 at.done in
      at_break first start at.given at.done (ways_of (chains_of t.service) unit) (left source (mid slots.Capture)) held old now e at.whole at.goes_on
      (subst (λ l. Breaks [] (held ++ l) old now e) (append-nil lines) (gather_breaks lines [] held held' old mid now e at.gathered (breaks_within held' [] mid now e broken)))

  -- the next record couldn't be read, and nothing more was put
  pub at_stop_break : (first t : Telling) (held held' : List ℕ) (start source : S) (refusal : SourceFault) (r : Result (Option FormatFault) RunFault) (old mid now : Slot → SlotView) → IsAt left packets is_open first t unit held held' start source old mid →
      (refusal ≡ refusals.ReadFault → IsRisen (mid slots.Capture).faults (now slots.Capture).faults) →
      (mid slots.Capture).faults ≤ (now slots.Capture).faults → ((s : Slot) → s ≢ slots.Capture → now s ≡ mid s) → r ≡ stop_of refusal →
      IfErr r (TellBreaks first.service unit (left start (old slots.Capture)) held old now)
  at_stop_break first t held held' start source (refusals.Format fault) r old mid now at rose later around is = subst (λ q. IfErr q (TellBreaks first.service unit (left start (old slots.Capture)) held old now)) (sym is) tt
  at_stop_break first t held held' start source refusals.ReadFault r old mid now at rose later around is = subst (λ q. IfErr q (TellBreaks first.service unit (left start (old slots.Capture)) held old now)) (sym is)
      (stopped first t held held' start source faults.ReadFault old mid now at (breaks_none [] held' mid now faults.ReadFault (puts_read mid now later around) (rose refl)))
  at_stop_break first t held held' start source refusals.OutOfMemory r old mid now at rose later around is = subst (λ q. IfErr q (TellBreaks first.service unit (left start (old slots.Capture)) held old now)) (sym is)
      (stopped first t held held' start source faults.OutOfMemory old mid now at (breaks_none [] held' mid now faults.OutOfMemory (puts_read mid now later around) tt))
