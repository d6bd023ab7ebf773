-- What a filled buffer says about the bytes that remained.
use Rattle.std.proofs.Common.{◌≡◌, ◌≤◌, ◌<◌, ◌∙◌, ℕ, List, length, take, drop, refl, ap, sym, subst, arith, Bool, true, false}
use Rattle.std.specs.Prelude.{Option, Some, None, Result, Ok, Err, if◌then◌else◌, ◌==◌, ◌&&◌, nat_lt}
use Rattle.std.specs.Option.{option_map}
use Rattle.std.proofs.Math.Seq.{take-length}
use Rattle.std.proofs.lemmas.Bool.{le-ltb, lt-ltb, ltb-false, ltb-true}
use Rattle.std.proofs.lemmas.List.{length-take-le}
use Rattle.nfp_outside.specs.Outside.{SlotView}
use Rattle.capture_bytes.specs.declared.order.Endian.{Endian}
use Rattle.capture_bytes.specs.declared.order.Endian.TheVariants.{Big, Little}
use Rattle.capture_bytes.specs.declared.packet.Unit.{Unit as TimeUnit}
use Rattle.capture_bytes.specs.declared.packet.Unit.TheVariants.{Micro, Nano}
use Rattle.pcap_io.specs.declared.capture.CaptureHead.{CaptureHead}
use Rattle.pcap_io.specs.declared.capture.CaptureFault.{CaptureFault}
use Rattle.pcap_io.specs.declared.capture.CaptureFault.TheVariants.{BadMagic, BadVersion, BadLink, CutHead}
use Rattle.pcap_io.specs.Capture.{number_at, kind_of, head_of_kind, head_of, body_of, capture_of, with_body}
use Rattle.capture_bytes.specs.Filling.{Fills, FillsFrom}
use Rattle.capture_bytes.specs.FillingLaws.{told_some, told_none, if_some, if_told}
use Rattle.capture_bytes.specs.NumberLaws.{same_number}
use Rattle.pcap_io.specs.Reader.{reader_at, ReadsHead, RefusesHead, IsHeadFault}
use Rattle.pcap_io.proofs.Records.{otherwise, chosen, both}

-- the kind of a head by its two readings of the magic number
abbrev kind_from : ℕ → ℕ → Option (Endian × TimeUnit)
kind_from little big =
    if little == 0xa1b2c3d4 then Some (Little, Micro)
    else if little == 0xa1b23c4d then Some (Little, Nano)
    else if big == 0xa1b2c3d4 then Some (Big, Micro)
    else if big == 0xa1b23c4d then Some (Big, Nano)
    else None

same_kind : (xs ys : List ℕ) → take 24 xs ≡ take 24 ys → kind_of xs ≡ kind_of ys
same_kind xs ys same =
    ap (λ l. kind_from l (number_at Big 4 0 xs)) (same_number Little 4 0 24 xs ys (omega arith) same)
    ∙ ap (λ b. kind_from (number_at Little 4 0 ys) b) (same_number Big 4 0 24 xs ys (omega arith) same)

-- a head by its numbers
abbrev head_from : Endian → TimeUnit → ℕ → ℕ → ℕ → ℕ → ℕ → ℕ → Result CaptureHead CaptureFault
head_from order unit major minor link zone sigfigs snaplen =
    if (major == 2) && (minor == 4) then (if link == 1 then Ok (record { order = order; unit = unit; zone = zone; sigfigs = sigfigs; snaplen = snaplen }) else Err (BadLink link))
    else Err BadVersion

same_of_kind : (xs ys : List ℕ) (kind : Option (Endian × TimeUnit)) → take 24 xs ≡ take 24 ys → head_of_kind xs kind ≡ head_of_kind ys kind
same_of_kind xs ys None same = refl
same_of_kind xs ys (Some (order, unit)) same =
    ap (λ x. head_from order unit x (number_at order 2 6 xs) (number_at order 4 20 xs) (number_at order 4 8 xs) (number_at order 4 12 xs) (number_at order 4 16 xs)) (same_number order 2 4 24 xs ys (omega arith) same)
    ∙ ap (λ x. head_from order unit (number_at order 2 4 ys) x (number_at order 4 20 xs) (number_at order 4 8 xs) (number_at order 4 12 xs) (number_at order 4 16 xs)) (same_number order 2 6 24 xs ys (omega arith) same)
    ∙ ap (λ x. head_from order unit (number_at order 2 4 ys) (number_at order 2 6 ys) x (number_at order 4 8 xs) (number_at order 4 12 xs) (number_at order 4 16 xs)) (same_number order 4 20 24 xs ys (omega arith) same)
    ∙ ap (λ x. head_from order unit (number_at order 2 4 ys) (number_at order 2 6 ys) (number_at order 4 20 ys) x (number_at order 4 12 xs) (number_at order 4 16 xs)) (same_number order 4 8 24 xs ys (omega arith) same)
    ∙ ap (λ x. head_from order unit (number_at order 2 4 ys) (number_at order 2 6 ys) (number_at order 4 20 ys) (number_at order 4 8 ys) x (number_at order 4 16 xs)) (same_number order 4 12 24 xs ys (omega arith) same)
    ∙ ap (λ x. head_from order unit (number_at order 2 4 ys) (number_at order 2 6 ys) (number_at order 4 20 ys) (number_at order 4 8 ys) (number_at order 4 12 ys) x) (same_number order 4 16 24 xs ys (omega arith) same)

same_head : (xs ys : List ℕ) → take 24 xs ≡ take 24 ys → 24 ≤ length xs → 24 ≤ length ys → head_of xs ≡ head_of ys
same_head xs ys same long long' =
    otherwise (nat_lt (length xs) 24) _ _ (le-ltb (length xs) 24 long)
    ∙ same_of_kind xs ys (kind_of xs) same ∙ ap (head_of_kind ys) (same_kind xs ys same)
    ∙ sym (otherwise (nat_lt (length ys) 24) _ _ (le-ltb (length ys) 24 long'))

cut : (xs : List ℕ) → length xs < 24 → head_of xs ≡ Err CutHead
cut xs short = chosen (nat_lt (length xs) 24) _ _ (lt-ltb (length xs) 24 short)

-- the head of the bytes that remained is that of the bytes read
head_came : (k : ℕ) (bytes buffer : List ℕ) (new : SlotView) → k ≤ length buffer → length buffer ≡ 24 → FillsFrom k bytes buffer new → head_of bytes ≡ head_of (take k buffer)
head_came k bytes buffer new within size fills = by_size (nat_lt k 24) refl
  where
    came : length (take k buffer) ≡ k
    came = length-take-le k buffer within

    by_size : (b : Bool) → nat_lt k 24 ≡ b → head_of bytes ≡ head_of (take k buffer)
    by_size true short =
        let few : k < 24 = ltb-true k 24 short in
        cut bytes (omega (arith, fills.end_only (omega arith))) ∙ sym (cut (take k buffer) (omega (arith, came)))
    by_size false long =
        let all : k ≡ 24 = omega (arith, ltb-false k 24 long) in
        same_head bytes (take k buffer) (ap (λ n. take n bytes) (sym all) ∙ sym fills.front ∙ sym (take-length (take k buffer)) ∙ ap (λ n. take n (take k buffer)) (came ∙ all)) (omega (arith, fills.some_left)) (omega (arith, came))

-- an accepted head is complete
whole_head : (k : ℕ) (buffer : List ℕ) (head : CaptureHead) → k ≤ length buffer → length buffer ≡ 24 → head_of (take k buffer) ≡ Ok head → k ≡ 24
whole_head k buffer head within size accepted = by_size (nat_lt k 24) refl
  where
    came : length (take k buffer) ≡ k
    came = length-take-le k buffer within

    by_size : (b : Bool) → nat_lt k 24 ≡ b → k ≡ 24
    by_size true short =
        let few : k < 24 = ltb-true k 24 short in
        let refused : ◌≡◌ {A = Result CaptureHead CaptureFault} (Err CutHead) (Ok head) = sym (cut (take k buffer) (omega (arith, came))) ∙ accepted in absurd cc
    by_size false long = omega (arith, ltb-false k 24 long)

pub read_head : (k : ℕ) (buffer : List ℕ) (head : CaptureHead) (old new : SlotView) → length buffer ≡ 24 → Fills k buffer old new → head_of (take k buffer) ≡ Ok head → ReadsHead head (reader_at head.order 0) old new
read_head k buffer head old new size fills accepted =
    let all : k ≡ 24 = whole_head k buffer head fills.within size accepted in
    let rest : new.bytes ≡ option_map (drop 24) old.bytes =
    if_told (λ o. new.bytes ≡ option_map (drop 24) o) old.bytes (told_none k buffer old new fills)
    (λ (bytes : List ℕ) (is : old.bytes ≡ Some bytes). (told_some k buffer bytes old new fills is).rest ∙ ap (λ n. Some (drop n bytes)) all) in
    let first : (bytes : List ℕ) → old.bytes ≡ Some bytes → head_of bytes ≡ Ok head =
    λ bytes is. head_came k bytes buffer new fills.within size (told_some k buffer bytes old new fills is) ∙ accepted in
    record {
      fresh = refl;
      accepted = if_some (λ bytes. head_of bytes ≡ Ok head) old.bytes first;
      rest = rest;
      whole = if_told (λ o. option_map capture_of o ≡ option_map (λ body. Ok (head, body)) (option_map (body_of head.order 0) (option_map (drop 24) o))) old.bytes
          (λ none. refl) (λ (bytes : List ℕ) (is : old.bytes ≡ Some bytes). ap (λ h. Some (with_body (drop 24 bytes) h)) (first bytes is))
          ∙ ap (λ o. option_map (λ body. Ok (head, body)) (option_map (body_of head.order 0) o)) (sym rest);
    }

kind_of_head : (bytes : List ℕ) (fault : CaptureFault) → head_of bytes ≡ Err fault → IsHeadFault fault
kind_of_head bytes fault =
    let P : Result CaptureHead CaptureFault → Type 0 = λ h. h ≡ Err fault → IsHeadFault fault in
    let is_kind : (f : CaptureFault) → IsHeadFault f → ◌≡◌ {A = Result CaptureHead CaptureFault} (Err f) (Err fault) → IsHeadFault fault = λ f kind is. let same : f ≡ fault = cc in subst IsHeadFault same kind in
    both P (nat_lt (length bytes) 24) _ _ (λ h. is_kind CutHead tt) (λ long. of_kind (kind_of bytes))
  where
    of_kind : (kind : Option (Endian × TimeUnit)) → head_of_kind bytes kind ≡ Err fault → IsHeadFault fault
    of_kind None = λ is. let same : BadMagic ≡ fault = cc in subst IsHeadFault same tt
    of_kind (Some (order, unit)) =
        let P : Result CaptureHead CaptureFault → Type 0 = λ h. h ≡ Err fault → IsHeadFault fault in
        both P ((number_at order 2 4 bytes == 2) && (number_at order 2 6 bytes == 4)) _ _
        (λ version. both P (number_at order 4 20 bytes == 1) _ _ (λ link is. absurd cc) (λ link is. let same : BadLink (number_at order 4 20 bytes) ≡ fault = cc in subst IsHeadFault same tt))
        (λ version is. let same : BadVersion ≡ fault = cc in subst IsHeadFault same tt)

pub refuse_head : (k : ℕ) (buffer : List ℕ) (fault : CaptureFault) (old new : SlotView) → length buffer ≡ 24 → Fills k buffer old new → head_of (take k buffer) ≡ Err fault → RefusesHead fault old
refuse_head k buffer fault old new size fills refused =
    let first : (bytes : List ℕ) → old.bytes ≡ Some bytes → head_of bytes ≡ Err fault =
    λ bytes is. head_came k bytes buffer new fills.within size (told_some k buffer bytes old new fills is) ∙ refused in
    record {
      kind = kind_of_head (take k buffer) fault refused;
      first = if_some (λ bytes. head_of bytes ≡ Err fault) old.bytes first;
      whole = if_some (λ bytes. capture_of bytes ≡ Err fault) old.bytes (λ (bytes : List ℕ) (is : old.bytes ≡ Some bytes). ap (with_body (drop 24 bytes)) (first bytes is));
    }
