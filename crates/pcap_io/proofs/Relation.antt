-- The body of a capture, as a function and as a relation.
use Rattle.std.proofs.Common.{◌≡◌, ◌<◌, ◌+◌, ◌∙◌, ℕ, zero, suc, List, [], ◌∷◌, length, refl, ap, sym, subst, arith}
use Rattle.std.specs.Prelude.{Option, Some, None, Result, Ok, Err}
use Rattle.capture_bytes.specs.declared.packet.PcapRecord.{PcapRecord}
use Rattle.pcap_io.specs.declared.capture.CaptureFault.{CaptureFault}
use Rattle.capture_bytes.specs.declared.order.Endian.{Endian}
use Rattle.pcap_io.specs.Capture.{next_of, and_rest, with_record, body_of, IsBody}
use Rattle.pcap_io.proofs.Records.{body_next, next_less}

-- a body by what comes next
by_next : (n : ℕ) (order : Endian) (given : ℕ) (bytes : List ℕ) (next : Result (Option (PcapRecord × List ℕ)) CaptureFault) → length bytes < suc n → next_of order given bytes ≡ next →
    ((rest : List ℕ) → length rest < n → IsBody order (given + 1) rest (body_of order (given + 1) rest).records (body_of order (given + 1) rest).fault) →
    IsBody order given bytes (and_rest (body_of order (given + 1)) next).records (and_rest (body_of order (given + 1)) next).fault
by_next n order given bytes (Ok None) less is behind = is
by_next n order given bytes (Ok (Some (r, rest))) less is behind = (rest, is, behind rest (omega (arith, next_less order given bytes r rest is)))
by_next n order given bytes (Err fault) less is behind = is

body_is_within : (n : ℕ) (order : Endian) (given : ℕ) (bytes : List ℕ) → length bytes < n → IsBody order given bytes (body_of order given bytes).records (body_of order given bytes).fault
body_is_within zero order given bytes less = absurd (omega arith)
body_is_within (suc n) order given bytes less =
    subst (λ body. IsBody order given bytes body.records body.fault) (sym (body_next order given bytes))
    (by_next n order given bytes (next_of order given bytes) less refl (λ (rest : List ℕ) (h : length rest < n). body_is_within n order (given + 1) rest h))

pub body_is : (order : Endian) (given : ℕ) (bytes : List ℕ) → IsBody order given bytes (body_of order given bytes).records (body_of order given bytes).fault
body_is order given bytes = body_is_within (length bytes + 1) order given bytes (omega arith)

pub body_only : (order : Endian) (given : ℕ) (bytes : List ℕ) (records : List PcapRecord) (fault : Option CaptureFault) → IsBody order given bytes records fault →
    body_of order given bytes ≡ record { records = records; fault = fault }
body_only order given bytes [] None is = body_next order given bytes ∙ ap (and_rest (body_of order (given + 1))) is
body_only order given bytes [] (Some fault) is = body_next order given bytes ∙ ap (and_rest (body_of order (given + 1))) is
body_only order given bytes (r ∷ rs) fault is =
    body_next order given bytes ∙ ap (and_rest (body_of order (given + 1))) is.1 ∙ ap (with_record r) (body_only order (given + 1) is.0 rs fault is.2)
