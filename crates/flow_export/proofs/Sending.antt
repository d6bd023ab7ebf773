-- Packets that are sent one after another.
use Rattle.std.proofs.Common.{◌≡◌, ◌≢◌, ◌≤◌, ◌<◌, ◌+◌, ◌-◌, ◌*◌, ◌∙◌, ℕ, zero, suc, List, [], ◌∷◌, ◌++◌, All, length, take, drop, refl, sym, ap, subst, inl, inr, drop-drop, arith}
use Rattle.std.specs.Prelude.{Result, Ok, Err}
use Rattle.std.specs.List.{flat_map, range_with_len}
use Rattle.std.proofs.Math.Seq.{take-append_seam, drop-append_seam}
use Rattle.std.proofs.lemmas.Grind.{flat_map-append}
use Rattle.std.proofs.lemmas.List.{append-nil}
use Rattle.std.proofs.lemmas.List.Elements.{All-take, All-drop}
use Rattle.nfp_outside.specs.declared.slot.Slot.{Slot}
use Rattle.nfp_outside.specs.declared.slot.Slot.TheVariants.{Out}
use Rattle.nfp_outside.specs.declared.slot.OutsideFault.{OutsideFault}
use Rattle.nfp_outside.specs.declared.slot.OutsideFault.TheVariants.{ReadFault, WriteFault, TooLong}
use Rattle.nfp_outside.specs.Outside.{SlotView, Appends, AppendsPrefix, IsRisen, WriteCause}
use Rattle.nfp_outside.specs.Adding.{appends_none, appends_more, prefix_more, prefix_longer}
use Rattle.flow_line.specs.Versions.{HasFittingKey}
use Rattle.flow_line.specs.declared.line.FlowLine.{FlowLine}
use Rattle.flow_export.specs.declared.span.Span5.{Span5}
use Rattle.flow_export.specs.Exports.{exported, lines_of, packet_bytes, packet_count, export_bytes, packets_bytes}

-- the packet with this number
abbrev pub numbered : Span5 → List FlowLine → ℕ → List ℕ
numbered span lines number = packet_bytes span (30 * number) (lines_of (exported lines) number)

-- this number of packets from this number on
unfoldable pub packets_from : Span5 → List FlowLine → ℕ → ℕ → List ℕ
packets_from span lines first count = flat_map (numbered span lines) (range_with_len first count)

-- This number of packets are sent, and these lines remain. `old` are the slots before, and `new` the slots now.
pub record AreSent (span : Span5) (lines : List FlowLine) (old new : Slot → SlotView) (sent : ℕ) (rest : List FlowLine) : Type 0 where
  pub left : exported rest ≡ drop (30 * sent) (exported lines)
  pub fits : All HasFittingKey rest
  pub out : Appends (packets_from span lines 0 sent) (old Out) (new Out)
  pub later : (old Out).faults ≤ (new Out).faults
  pub others : (s : Slot) → s ≢ Out → new s ≡ old s

range-append : (first a b : ℕ) → range_with_len first (a + b) ≡ range_with_len first a ++ range_with_len (first + a) b
range-append first zero b = let e : first ≡ first + 0 = omega arith in let z : zero + b ≡ b = omega arith in ap (range_with_len first) z ∙ ap (λ n. range_with_len n b) e
range-append first (suc a) b =
    let e : suc a + b ≡ suc (a + b) = omega arith in
    let n : first + 1 + a ≡ first + suc a = omega arith in
    ap (range_with_len first) e ∙ ap (λ l. first ∷ l) (range-append (first + 1) a b ∙ ap (λ k. range_with_len (first + 1) a ++ range_with_len k b) n)

module _ (span : Span5) (lines : List FlowLine) where
  packets-append : (first a b : ℕ) → packets_from span lines first (a + b) ≡ packets_from span lines first a ++ packets_from span lines (first + a) b
  unfolding packets_from
  packets-append first a b = ap (flat_map (numbered span lines)) (range-append first a b) ∙ flat_map-append (numbered span lines) (range_with_len first a) (range_with_len (first + a) b)

  one_packet : (number : ℕ) → packets_from span lines (0 + number) 1 ≡ numbered span lines number
  unfolding packets_from
  one_packet number = append-nil (numbered span lines (0 + number)) ∙ ap (numbered span lines) z
    where
      z : 0 + number ≡ number
      z = omega arith

  one_more : (sent : ℕ) → packets_from span lines 0 (sent + 1) ≡ packets_from span lines 0 sent ++ numbered span lines sent
  one_more sent = packets-append 0 sent 1 ∙ ap (λ l. packets_from span lines 0 sent ++ l) (one_packet sent)

  none_sent : packets_from span lines 0 0 ≡ []
  unfolding packets_from
  none_sent = refl

  whole : export_bytes span lines ≡ packets_from span lines 0 (packet_count (length (exported lines)))
  unfolding packets_from packets_bytes
  whole = refl

  pub all_sent : (sent : ℕ) → sent ≡ packet_count (length (exported lines)) → packets_from span lines 0 sent ≡ export_bytes span lines
  all_sent sent is = ap (packets_from span lines 0) is ∙ sym whole

  -- those sent, the next, and the others
  parted : (sent : ℕ) → sent < packet_count (length (exported lines)) →
      export_bytes span lines ≡ (packets_from span lines 0 sent ++ numbered span lines sent) ++ packets_from span lines (0 + (sent + 1)) (packet_count (length (exported lines)) - (sent + 1))
  parted sent more =
      let count = packet_count (length (exported lines)) in
      let e : count ≡ sent + 1 + (count - (sent + 1)) = omega arith in
      whole ∙ ap (packets_from span lines 0) e ∙ packets-append 0 (sent + 1) (count - (sent + 1)) ∙ ap (λ l. l ++ packets_from span lines (0 + (sent + 1)) (count - (sent + 1))) (one_more sent)

  pub begins : (old : Slot → SlotView) → All HasFittingKey lines → AreSent span lines old old 0 lines
  begins old fit = record {
    left = refl;
    fits = fit;
    out = subst (λ bytes. Appends bytes (old Out) (old Out)) (sym none_sent) (appends_none (old Out));
    later = omega arith;
    others = λ s other. refl;
  }

  -- what is put for the next packet is that packet
  next_packet : (before sent : ℕ) (rest now : List FlowLine) → before ≡ sent * 30 → exported rest ≡ drop (30 * sent) (exported lines) → exported now ≡ take 30 (exported rest) →
      packet_bytes span before (exported now) ≡ numbered span lines sent
  next_packet before sent rest now is left front =
      let n : before ≡ 30 * sent = omega (arith, is) in
      ap (λ b. packet_bytes span b (exported now)) n ∙ ap (packet_bytes span (30 * sent)) (front ∙ ap (take 30) left)

  module _ (old mid new : Slot → SlotView) (sent before : ℕ) (rest now behind : List FlowLine) (bytes : List ℕ) where
    pub goes_on : AreSent span lines old mid sent rest → before ≡ sent * 30 → now ++ behind ≡ rest → exported now ≡ take 30 (exported rest) → exported behind ≡ drop 30 (exported rest) →
        bytes ≡ packet_bytes span before (exported now) → Appends bytes (mid Out) (new Out) → (mid Out).faults ≤ (new Out).faults → ((s : Slot) → s ≢ Out → new s ≡ mid s) →
        AreSent span lines old new (sent + 1) behind
    goes_on are is parts front back put appended later beside = record {
      left = back ∙ ap (drop 30) are.left ∙ drop-drop 30 (30 * sent) (exported lines) ∙ (let e : 30 * sent + 30 ≡ 30 * (sent + 1) = omega arith in ap (λ n. drop n (exported lines)) e);
      fits = All-behind;
      out = subst (λ b. Appends b (old Out) (new Out)) (ap (λ b. packets_from span lines 0 sent ++ b) same ∙ sym (one_more sent)) (appends_more (packets_from span lines 0 sent) bytes (old Out) (mid Out) (new Out) are.out appended);
      later = omega (arith, are.later, later);
      others = λ s other. beside s other ∙ are.others s other;
    }
      where
        same : bytes ≡ numbered span lines sent
        same = put ∙ next_packet before sent rest now is are.left front

        All-behind : All HasFittingKey behind
        All-behind = subst (All HasFittingKey) (ap (drop (length now)) (sym parts) ∙ drop-append_seam now behind) (All-drop HasFittingKey (length now) rest are.fits)

    pub stops : AreSent span lines old mid sent rest → before ≡ sent * 30 → sent < packet_count (length (exported lines)) → exported now ≡ take 30 (exported rest) →
        bytes ≡ packet_bytes span before (exported now) → AppendsPrefix bytes (mid Out) (new Out) → AppendsPrefix (export_bytes span lines) (old Out) (new Out)
    stops are is more front put appended =
        let same = put ∙ next_packet before sent rest now is are.left front in
        let so_far = packets_from span lines 0 sent in
        let others = packets_from span lines (0 + (sent + 1)) (packet_count (length (exported lines)) - (sent + 1)) in
        subst (λ b. AppendsPrefix b (old Out) (new Out)) (ap (λ b. (so_far ++ b) ++ others) same ∙ sym (parted sent more))
        (prefix_longer (so_far ++ bytes) others (old Out) (new Out) (prefix_more so_far bytes (old Out) (mid Out) (new Out) are.out appended))

pub fits_front : (rest now behind : List FlowLine) → All HasFittingKey rest → now ++ behind ≡ rest → All HasFittingKey now
fits_front rest now behind fit parts = subst (All HasFittingKey) (ap (take (length now)) (sym parts) ∙ take-append_seam now behind) (All-take HasFittingKey (length now) rest fit)

-- the cause of the last write is the cause of all
pub cause_of_last : {T : Type 0} (old mid new : SlotView) (r : Result T OutsideFault) → old.faults ≤ mid.faults → WriteCause Out mid new r → WriteCause Out old new r
cause_of_last old mid new r earlier cause = record {
  later = omega (arith, earlier, cause.later);
  write_fault = λ s is. (let w = cause.write_fault s is in (w.0, risen w.1));
  no_read_fault = cause.no_read_fault;
  not_too_long = cause.not_too_long;
}
  where
    risen : IsRisen mid.faults new.faults → IsRisen old.faults new.faults
    risen (inl h) = inl (omega (arith, earlier, h))
    risen (inr h) = inr h

-- the same fault of a call that returns something else has the same cause
pub same_cause : {T U : Type 0} (old new : SlotView) (fault : OutsideFault) → WriteCause {T = T} Out old new (Err fault) → WriteCause {T = U} Out old new (Err fault)
same_cause {T = T} {U = U} old new fault cause = record {
  later = cause.later;
  write_fault = λ s is. cause.write_fault s (moved (WriteFault s) is);
  no_read_fault = λ s is. cause.no_read_fault s (moved (ReadFault s) is);
  not_too_long = λ is. cause.not_too_long (moved TooLong is);
}
  where
    moved : (f : OutsideFault) → ◌≡◌ {A = Result U OutsideFault} (Err fault) (Err f) → ◌≡◌ {A = Result T OutsideFault} (Err fault) (Err f)
    moved f is = cc

pub no_cause : {T : Type 0} (old new : SlotView) (x : T) → old.faults ≤ new.faults → WriteCause Out old new (Ok x)
no_cause {T = T} old new x later = record {
  later = later;
  write_fault = λ s is. absurd (other (WriteFault s) is);
  no_read_fault = λ s is. other (ReadFault s) is;
  not_too_long = λ is. other TooLong is;
}
  where
    other : (f : OutsideFault) → ◌≡◌ {A = Result T OutsideFault} (Ok x) (Err f) → ⊥
    other f is = absurd cc
