-- A capture whose first bytes were read before is opened, or refused, as by all its bytes.
use Rattle.std.proofs.Common.{◌≡◌, ◌≤◌, ◌<◌, ◌∙◌, ℕ, zero, suc, List, ◌++◌, length, take, drop, refl, ap, sym, subst, arith}
use Rattle.std.specs.Prelude.{Bool, true, false, Option, Some, None, IfSome, IsSomeAnd, MatchOption, Ok, Err}
use Rattle.std.specs.Option.{option_map}
use Rattle.std.proofs.lemmas.List.{take-append-drop, take_all}
use Rattle.nfp_outside.specs.Outside.{SlotView}
use Rattle.capture_bytes.specs.Filling.{Fills, FillsFrom, unread}
use Rattle.pcap_io.specs.Capture.{Body, capture_of}
use Rattle.pcap_io.specs.Reader as pcap
use Rattle.pcap_io.specs.declared.capture.CaptureHead.{CaptureHead}
use Rattle.pcapng_io.specs.Blocks.{next_of, start}
use Rattle.capture_items.specs.Putting.{risen_earlier}
use Rattle.call_ending.specs.declared.outcome.Outcome.{Outcome}
use Rattle.call_ending.specs.declared.outcome.Outcome.TheVariants.{Done, Usage, Policy, Graph, Capture, CaptureNg, ReadFault, WriteFault, OutOfMemory}
use Rattle.call_ending.specs.declared.read.Opened.{Opened}
use Rattle.call_ending.specs.declared.read.Opened.TheVariants.{Pcap}
use Rattle.call_ending.specs.Told.{is_ng, is_ng_front}
use Rattle.call_ending.specs.Reading.{IsOfFormat, LeavesAll, Opens, OpensBehind, RefusedOpening, RefusesBehind}

-- the first bytes that were read of a capture
pub record IsFront (first bytes rest : List ℕ) : Type 0 where
  pub whole : first ++ rest ≡ bytes
  pub front : first ≡ take 4 bytes

front_so : (k : ℕ) (buffer first bytes rest : List ℕ) → length buffer ≡ 4 → k ≤ length buffer → k ≤ length bytes → first ≡ take k buffer → take k buffer ≡ take k bytes → rest ≡ drop k bytes → (k < length buffer → length bytes ≡ k) → IsFront first bytes rest
front_so k buffer first bytes rest four within some is same left end = record { whole = (λ i. (is ∙ same) i ++ left i) ∙ take-append-drop k bytes; front = is ∙ same ∙ go k within some end }
  where
    go : (n : ℕ) → n ≤ length buffer → n ≤ length bytes → (n < length buffer → length bytes ≡ n) → take n bytes ≡ take 4 bytes
    go zero within some end = let none : length bytes ≡ 0 = end (omega arith) in take_all 0 bytes (omega arith) ∙ sym (take_all 4 bytes (omega arith))
    go (suc zero) within some end = let one : length bytes ≡ 1 = end (omega arith) in take_all 1 bytes (omega arith) ∙ sym (take_all 4 bytes (omega arith))
    go (suc (suc zero)) within some end = let two : length bytes ≡ 2 = end (omega arith) in take_all 2 bytes (omega arith) ∙ sym (take_all 4 bytes (omega arith))
    go (suc (suc (suc zero))) within some end = let three : length bytes ≡ 3 = end (omega arith) in take_all 3 bytes (omega arith) ∙ sym (take_all 4 bytes (omega arith))
    go (suc (suc (suc (suc n)))) within some end = let four_there : suc (suc (suc (suc n))) ≡ 4 = omega arith in ap (λ m. take m bytes) four_there

-- a fact about all bytes of a capture, if its first bytes were read
behind : (k : ℕ) (buffer first : List ℕ) (P : Bool → List ℕ → Type 0) (old mid : SlotView) → length buffer ≡ 4 → first ≡ take k buffer → Fills k buffer old mid → IfSome (unread first mid).bytes (P (is_ng_front first)) → IfSome old.bytes (λ bytes. P (is_ng bytes) bytes)
behind k buffer first P old mid four is fills all = go old.bytes refl
  where
    go : (o : Option (List ℕ)) → old.bytes ≡ o → IfSome o (λ bytes. P (is_ng bytes) bytes)
    go None e = tt
    go (Some bytes) e =
        let told = subst (λ (o : Option (List ℕ)). MatchOption o (mid.bytes ≡ None) (λ b. FillsFrom k b buffer mid)) e fills.told in
        let front : IsFront first bytes (drop k bytes) = front_so k buffer first bytes (drop k bytes) four fills.within told.some_left is told.front refl told.end_only in
        let left : (unread first mid).bytes ≡ Some bytes = ap (option_map (λ rest. first ++ rest)) told.rest ∙ ap Some front.whole in
        subst (λ b. P (is_ng_front b) bytes) front.front (subst (λ o. IfSome o (P (is_ng_front first))) left all)

pub opens_by : (k : ℕ) (buffer first : List ℕ) (name : List ℕ) (opened : Opened) (before old mid new : SlotView) → old.bytes ≡ before.bytes → length buffer ≡ 4 → first ≡ take k buffer → Fills k buffer old mid → new.name ≡ Some name →
    OpensBehind first opened mid new → Opens name opened before new
opens_by k buffer first name opened before old mid new same four is fills named opens = record {
  named = named;
  before = opens.before;
  whole = subst (λ o. IfSome o (λ bytes. IsOfFormat (is_ng bytes) opened × LeavesAll opened new bytes)) same
      (behind k buffer first (λ b bytes. IsOfFormat b opened × LeavesAll opened new bytes) old mid four is fills (both (unread first mid).bytes opens.whole));
}
  where
    both : (o : Option (List ℕ)) → IfSome o (LeavesAll opened new) → IfSome o (λ bytes. IsOfFormat (is_ng_front first) opened × LeavesAll opened new bytes)
    both None h = tt
    both (Some bytes) h = (opens.format, h)

-- a fact beside another
beside : (o : Option (List ℕ)) (F : Type 0) (P : List ℕ → Type 0) → F → IfSome o P → IfSome o (λ bytes. F × P bytes)
beside None F P f h = tt
beside (Some bytes) F P f h = (f, h)

pub refused_by_front : (k : ℕ) (buffer first : List ℕ) (outcome : Outcome) (before old mid new : SlotView) → old.bytes ≡ before.bytes → before.faults ≤ mid.faults → length buffer ≡ 4 → first ≡ take k buffer → Fills k buffer old mid → RefusesBehind first mid new outcome →
    RefusedOpening before new outcome
refused_by_front k buffer first (Capture fault) before old mid new same later four is fills h = (
  h.0,
  subst (λ o. IfSome o (λ bytes. (is_ng bytes ≡ false) × (capture_of bytes ≡ Err fault))) same
      (behind k buffer first (λ b bytes. (b ≡ false) × (capture_of bytes ≡ Err fault)) old mid four is fills (beside (unread first mid).bytes (is_ng_front first ≡ false) (λ bytes. capture_of bytes ≡ Err fault) h.1 h.2)),
)
refused_by_front k buffer first (CaptureNg fault) before old mid new same later four is fills h = (
  h.0,
  subst (λ o. IfSome o (λ bytes. (is_ng bytes ≡ true) × (next_of start bytes ≡ Err fault))) same
      (behind k buffer first (λ b bytes. (b ≡ true) × (next_of start bytes ≡ Err fault)) old mid four is fills (beside (unread first mid).bytes (is_ng_front first ≡ true) (λ bytes. next_of start bytes ≡ Err fault) h.1 h.2)),
)
refused_by_front k buffer first (ReadFault s) before old mid new same later four is fills h = (h.0, risen_earlier before.faults mid.faults new.faults later h.1)
refused_by_front k buffer first OutOfMemory before old mid new same later four is fills h = tt
refused_by_front k buffer first Done before old mid new same later four is fills h = h
refused_by_front k buffer first (Usage fault) before old mid new same later four is fills h = h
refused_by_front k buffer first (Graph fault) before old mid new same later four is fills h = absurd h
refused_by_front k buffer first (Policy fault) before old mid new same later four is fills h = h
refused_by_front k buffer first (WriteFault s) before old mid new same later four is fills h = h

-- a classic capture whose head was read has all its records left
pub head_read : (head : CaptureHead) (reader : pcap.ReaderState) (old new : SlotView) → pcap.ReadsHead head reader old new → IfSome old.bytes (LeavesAll (Pcap head reader) new)
head_read head reader old new reads = go old.bytes (pcap.body_left reader new) reads.whole
  where
    go : (c : Option (List ℕ)) (o : Option Body) → option_map capture_of c ≡ option_map (λ body. Ok (head, body)) o → IfSome c (λ bytes. IsSomeAnd o (λ body. capture_of bytes ≡ Ok (head, body)))
    go None o whole = tt
    go (Some bytes) None whole = absurd cc
    go (Some bytes) (Some body) whole = cc

-- a fact about what is made of a value is one about the value
pub of_made : {T U : Type 0} (f : T → U) (o : Option T) (P : U → Type 0) → IfSome (option_map f o) P → IfSome o (λ x. P (f x))
of_made f None P h = tt
of_made f (Some x) P h = h
