-- Bursts in a row pass as their packets in a row.
use Rattle.std.proofs.Common.{◌≡◌, ◌+◌, ◌∙◌, ℕ, List, [], ◌∷◌, ◌++◌, length, map, refl, ap, sym, subst, length-append, arith}
use Rattle.std.specs.Prelude.{count_by, Option}
use Rattle.std.proofs.lemmas.List.{append-nil, map-append, length-map}
use Rattle.nfp_outside.specs.declared.slot.Slot.{Slot}
use Rattle.nfp_outside.specs.Outside.{SlotView}
use Rattle.capture_bytes.specs.declared.packet.PcapRecord.{PcapRecord}
use Rattle.service_walk.specs.Service.{Classed}
use Rattle.capture_report.specs.BurstWalk.{all_classed, chains_behind, fates_of}
use Rattle.capture_report.specs.BurstWalkProofs.{LeadsEach}
use Rattle.capture_run.specs.Passing.{Advances, PassBreaks, Passes, chains_in, fates_next, lines_next, next_number, out_next, packets_next}
use Rattle.capture_report.specs.Report.{drop_lines, is_gone, names_among}
use Rattle.capture_items.specs.Slots.{Breaks, Puts}
use Rattle.capture_items.specs.Streams.{records_in}
use Rattle.capture_run.specs.Streams.{emitted_among}
use Rattle.capture_items.specs.declared.fault.RunFault.{RunFault}
use Rattle.capture_items.specs.declared.given.Given.{Given}
use Rattle.capture_items.specs.declared.given.Given.TheVariants.{Block}
use Rattle.capture_run.specs.declared.passage.Passage.{Passage}
use Rattle.capture_items.specs.Putting.{breaks_is, breaks_longer, breaks_more, puts_is, puts_more, puts_none}
use Rattle.capture_run.proofs.Following.{CountsInARow, each_more, each_names, each_none}
use Rattle.capture_run.proofs.Listing.{gone-append, lines-append, no_lines}
use Rattle.capture_run.proofs.Streaming.{among-append, none_among, records-append}
use Rattle.capture_run.proofs.Walking.{chains_behind-append, classed-append, declared_behind, fates_of-append, length-fates_of, no_fates, none_behind}

-- the chain of each packet
abbrev pub classes_of : List Classed → List (Option ℕ)
classes_of xs = map (λ x. x.class) xs

none_next : {W : Type 0} (p : Passage W) → fates_next p [] ≡ []
none_next p = no_fates (chains_in p) p.unit

-- no packet went through the chains, and the writer may have written
pub advances_none : {W X B : Type 0} (spelled : W → Given X B → List ℕ) (p : Passage W) (w : W) → spelled w ≡ spelled p.writer → Advances spelled [] p (record p { writer = w })
advances_none spelled p w same = record {
  same_classes = refl;
  same_unit = refl;
  same_spelling = same;
  led = each_none 0 p.service.chains;
  chains = sym (none_behind (chains_in p) p.unit);
  read = omega arith;
  dropped = let e : count_by is_gone (fates_next p []) ≡ 0 = ap (count_by is_gone) (none_next p) in omega arith;
}

-- no packet has no line
no_lines_next : {W : Type 0} (p : Passage W) → lines_next p [] ≡ []
no_lines_next p = ap (drop_lines (names_among (chains_in p)) (next_number p) []) (none_next p) ∙ no_lines (names_among (chains_in p)) (next_number p)

pub passes_none : {W X B : Type 0} (spelled : W → Given X B → List ℕ) (p : Passage W) (old : Slot → SlotView) → Passes spelled [] p p old old
passes_none spelled p old = record {
  advances = advances_none spelled p p.writer refl;
  puts = puts_is [] _ [] _ old old (sym (none_among (spelled p.writer) (fates_next p []))) (sym (no_lines_next p)) (puts_none old);
}

-- a block that is no packet was put
pub passes_block : {W X B : Type 0} (spelled : W → Given X B → List ℕ) (p : Passage W) (w : W) (b : B) (old new : Slot → SlotView) → spelled w ≡ spelled p.writer →
    Puts (spelled p.writer (Block b)) [] old new →
    Passes spelled (Block b ∷ []) p (record p { writer = w }) old new
unfolding emitted_among
passes_block spelled p w b old new same puts = record {
  advances = advances_none spelled p w same;
  puts = puts_is _ _ [] _ old new (sym (append-nil (spelled p.writer (Block b)))) (sym (no_lines_next p)) puts;
}

pub breaks_block : {W X B : Type 0} (spelled : W → Given X B → List ℕ) (p : Passage W) (b : B) (old new : Slot → SlotView) (e : RunFault) → Breaks (spelled p.writer (Block b)) [] old new e →
    PassBreaks spelled (Block b ∷ []) p old new e
unfolding emitted_among
breaks_block spelled p b old new e broken = breaks_is _ _ [] _ old new e (sym (append-nil (spelled p.writer (Block b)))) (sym (no_lines_next p)) broken

same_declared : {W X B : Type 0} (spelled : W → Given X B → List ℕ) (xs : List PcapRecord) (a b : Passage W) → Advances spelled xs a b → (chains_in b).declared ≡ (chains_in a).declared
same_declared spelled xs a b went = ap (λ c. c.declared) went.chains ∙ declared_behind (chains_in a) a.unit xs

-- more packets are classified as before
packets_behind : {W X B : Type 0} (spelled : W → Given X B → List ℕ) (xs ys : List PcapRecord) (a b : Passage W) → Advances spelled xs a b → packets_next b ys ≡ packets_next a ys
packets_behind spelled xs ys a b went = λ i. all_classed (same_declared spelled xs a b went i) (went.same_unit i) ys

packets_more : {W X B : Type 0} (spelled : W → Given X B → List ℕ) (xs ys : List PcapRecord) (a b : Passage W) → Advances spelled xs a b →
    packets_next a (xs ++ ys) ≡ packets_next a xs ++ packets_next b ys
packets_more spelled xs ys a b went = classed-append (chains_in a).declared a.unit xs ys ∙ ap (λ l. packets_next a xs ++ l) (sym (packets_behind spelled xs ys a b went))

-- what comes after these records is what comes next if they passed
fates_more : {W X B : Type 0} (spelled : W → Given X B → List ℕ) (xs ys : List PcapRecord) (a b : Passage W) → Advances spelled xs a b → fates_next a (xs ++ ys) ≡ fates_next a xs ++ fates_next b ys
fates_more spelled xs ys a b went = fates_of-append (chains_in a) a.unit xs ys ∙ ap (λ l. fates_next a xs ++ l) (λ i. fates_of (sym went.chains i) (sym went.same_unit i) ys)

out_more : {W X B : Type 0} (spelled : W → Given X B → List ℕ) (xs ys : List (Given X B)) (a b : Passage W) → Advances spelled (records_in xs) a b →
    out_next spelled a (xs ++ ys) ≡ out_next spelled a xs ++ out_next spelled b ys
out_more spelled xs ys a b went =
    ap (λ l. emitted_among (spelled a.writer) (xs ++ ys) (fates_next a l)) (records-append xs ys)
    ∙ ap (emitted_among (spelled a.writer) (xs ++ ys)) (fates_more spelled (records_in xs) (records_in ys) a b went)
    ∙ among-append (spelled a.writer) xs ys (fates_next a (records_in xs)) (fates_next b (records_in ys)) (length-fates_of (chains_in a) a.unit (records_in xs))
    ∙ ap (λ s. out_next spelled a xs ++ emitted_among s ys (fates_next b (records_in ys))) (sym went.same_spelling)

-- each packet has one fate
pub as_many_next : {W : Type 0} (p : Passage W) (xs : List PcapRecord) → length (fates_next p xs) ≡ length (classes_of (packets_next p xs))
as_many_next p xs = length-fates_of (chains_in p) p.unit xs ∙ sym (length-map (packets_next p xs) (λ x. x.class) ∙ length-map xs _)

lines_more : {W X B : Type 0} (spelled : W → Given X B → List ℕ) (xs ys : List PcapRecord) (a b : Passage W) → Advances spelled xs a b → lines_next a (xs ++ ys) ≡ lines_next a xs ++ lines_next b ys
lines_more spelled xs ys a b went =
    let names : names_among (chains_in b) ≡ names_among (chains_in a) = each_names (packets_next a xs) 0 a.service.chains b.service.chains went.led in
    let number : next_number a + length (fates_next a xs) ≡ next_number b = let e = length-fates_of (chains_in a) a.unit xs in let h = went.read in omega arith in
    let classes : classes_of (packets_next a (xs ++ ys)) ≡ classes_of (packets_next a xs) ++ classes_of (packets_next b ys) =
    ap classes_of (packets_more spelled xs ys a b went) ∙ map-append (λ (x : Classed). x.class) (packets_next a xs) (packets_next b ys) in
    (λ i. drop_lines (names_among (chains_in a)) (next_number a) (classes i) (fates_more spelled xs ys a b went i))
    ∙ lines-append (names_among (chains_in a)) (next_number a) (classes_of (packets_next a xs)) (classes_of (packets_next b ys)) (fates_next a xs) (fates_next b ys) (as_many_next a xs)
    ∙ (λ i. lines_next a xs ++ drop_lines (sym names i) (number i) (classes_of (packets_next b ys)) (fates_next b ys))

advances_more : {W X B : Type 0} → CountsInARow → (spelled : W → Given X B → List ℕ) (xs ys : List PcapRecord) (a b c : Passage W) → Advances spelled xs a b → Advances spelled ys b c →
    Advances spelled (xs ++ ys) a c
advances_more law spelled xs ys a b c first second = record {
  same_classes = second.same_classes ∙ first.same_classes;
  same_unit = second.same_unit ∙ first.same_unit;
  same_spelling = second.same_spelling ∙ first.same_spelling;
  led = subst (λ l. LeadsEach l 0 a.service.chains c.service.chains) (sym (packets_more spelled xs ys a b first)) (each_more law (packets_next a xs) (packets_next b ys) 0 a.service.chains b.service.chains c.service.chains first.led second.led);
  chains = second.chains ∙ (λ i. chains_behind (first.chains i) (first.same_unit i) ys) ∙ sym (chains_behind-append (chains_in a) a.unit xs ys);
  read = let e = length-append xs ys in let h = first.read in let k = second.read in omega arith;
  dropped =
      let e : count_by is_gone (fates_next a (xs ++ ys)) ≡ count_by is_gone (fates_next a xs) + count_by is_gone (fates_next b ys) =
      ap (count_by is_gone) (fates_more spelled xs ys a b first) ∙ gone-append (fates_next a xs) (fates_next b ys) in
      let h = first.dropped in
      let k = second.dropped in
      omega arith;
}

-- the same for what was given
advances_row : {W X B : Type 0} → CountsInARow → (spelled : W → Given X B → List ℕ) (xs ys : List (Given X B)) (a b c : Passage W) → Advances spelled (records_in xs) a b →
    Advances spelled (records_in ys) b c → Advances spelled (records_in (xs ++ ys)) a c
advances_row law spelled xs ys a b c first second = subst (λ l. Advances spelled l a c) (sym (records-append xs ys)) (advances_more law spelled (records_in xs) (records_in ys) a b c first second)

lines_row : {W X B : Type 0} (spelled : W → Given X B → List ℕ) (xs ys : List (Given X B)) (a b : Passage W) → Advances spelled (records_in xs) a b →
    lines_next a (records_in (xs ++ ys)) ≡ lines_next a (records_in xs) ++ lines_next b (records_in ys)
lines_row spelled xs ys a b went = ap (lines_next a) (records-append xs ys) ∙ lines_more spelled (records_in xs) (records_in ys) a b went

pub passes_more : {W X B : Type 0} → CountsInARow → (spelled : W → Given X B → List ℕ) (xs ys : List (Given X B)) (a b c : Passage W) (old mid new : Slot → SlotView) →
    Passes spelled xs a b old mid → Passes spelled ys b c mid new → Passes spelled (xs ++ ys) a c old new
passes_more law spelled xs ys a b c old mid new first second = record {
  advances = advances_row law spelled xs ys a b c first.advances second.advances;
  puts = puts_is _ _ _ _ old new (sym (out_more spelled xs ys a b first.advances)) (sym (lines_row spelled xs ys a b first.advances)) (puts_more _ _ _ _ old mid new first.puts second.puts);
}

-- the part that comes next was broken off
pub breaks_next : {W X B : Type 0} (spelled : W → Given X B → List ℕ) (xs ys : List (Given X B)) (a b : Passage W) (old mid new : Slot → SlotView) (e : RunFault) → Passes spelled xs a b old mid →
    PassBreaks spelled ys b mid new e → PassBreaks spelled (xs ++ ys) a old new e
breaks_next spelled xs ys a b old mid new e first broken =
    breaks_is _ _ _ _ old new e (sym (out_more spelled xs ys a b first.advances)) (sym (lines_row spelled xs ys a b first.advances)) (breaks_more _ _ _ _ old mid new e first.puts broken)

-- a prefix that was put stays a prefix of more
pub longer : {W X B : Type 0} (spelled : W → Given X B → List ℕ) (xs ys : List (Given X B)) (p : Passage W) (old new : Slot → SlotView) (e : RunFault) → PassBreaks spelled xs p old new e →
    PassBreaks spelled (xs ++ ys) p old new e
longer spelled xs ys p old new e broken =
    let front = records_in xs in
    let back = records_in ys in
    let behind = fates_of (chains_behind (chains_in p) p.unit front) p.unit back in
    let fates : fates_next p (records_in (xs ++ ys)) ≡ fates_next p front ++ behind = ap (fates_next p) (records-append xs ys) ∙ fates_of-append (chains_in p) p.unit front back in
    let classes : classes_of (packets_next p (records_in (xs ++ ys))) ≡ classes_of (packets_next p front) ++ classes_of (packets_next p back) =
    ap (λ l. classes_of (packets_next p l)) (records-append xs ys)
    ∙ ap classes_of (classed-append (chains_in p).declared p.unit front back) ∙ map-append (λ (x : Classed). x.class) (packets_next p front) (packets_next p back) in
    breaks_is _ _ _ _ old new e
    (sym (ap (emitted_among (spelled p.writer) (xs ++ ys)) fates ∙ among-append (spelled p.writer) xs ys (fates_next p front) behind (length-fates_of (chains_in p) p.unit front)))
    (sym ((λ i. drop_lines (names_among (chains_in p)) (next_number p) (classes i) (fates i))
    ∙ lines-append (names_among (chains_in p)) (next_number p) (classes_of (packets_next p front)) (classes_of (packets_next p back)) (fates_next p front) behind (as_many_next p front)))
    (breaks_longer _ _ (emitted_among (spelled p.writer) ys behind) (drop_lines (names_among (chains_in p)) (next_number p + length (fates_next p front)) (classes_of (packets_next p back)) behind) old new e broken)

-- the records of a burst are put before its lines
pub records_refused : (out lines : List ℕ) (old new : Slot → SlotView) (e : RunFault) → Breaks out [] old new e → Breaks out lines old new e
records_refused out lines old new e broken = breaks_is (out ++ []) out lines lines old new e (append-nil out) refl (breaks_longer out [] [] lines old new e broken)

pub lines_refused : (out lines : List ℕ) (old mid new : Slot → SlotView) (e : RunFault) → Puts out [] old mid → Breaks [] lines mid new e → Breaks out lines old new e
lines_refused out lines old mid new e first broken = breaks_is (out ++ []) out lines lines old new e (append-nil out) refl (breaks_more out [] [] lines old mid new e first broken)

pub burst_put : (out lines : List ℕ) (old mid new : Slot → SlotView) → Puts out [] old mid → Puts [] lines mid new → Puts out lines old new
burst_put out lines old mid new first second = puts_is (out ++ []) out lines lines old new (append-nil out) refl (puts_more out [] [] lines old mid new first second)
