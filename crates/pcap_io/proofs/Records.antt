-- The records of a capture, one after the other.
use Rattle.std.proofs.Common.{◌≡◌, ◌≤◌, ◌<◌, ◌+◌, ◌∙◌, ℕ, zero, suc, List, [], ◌∷◌, length, drop, refl, ap, length-drop, subst, arith, Bool, true, false}
use Rattle.std.specs.Prelude.{Option, Some, None, IfSome, Result, Ok, Err, IfOk, if◌then◌else◌, nat_lt, ◌==◌}
use Rattle.std.proofs.lemmas.Bool.{le-ltb, ltb-false}
use Rattle.std.proofs.lemmas.Bool.Decides.{nat_tests}
use Rattle.capture_bytes.specs.declared.packet.PcapRecord.{PcapRecord}
use Rattle.pcap_io.specs.declared.capture.CaptureFault.{CaptureFault}
use Rattle.capture_bytes.specs.declared.order.Endian.{Endian}
use Rattle.pcap_io.specs.Capture.{Body, captured_of, record_of, next_of, and_rest, with_record, body_within, body_of}

-- what holds for both choices
pub both : {X : Type 0} (P : X → Type 0) (b : Bool) (x y : X) → (b ≡ true → P x) → (b ≡ false → P y) → P (if b then x else y)
both P true x y h k = h refl
both P false x y h k = k refl

pub otherwise : {X : Type 0} (b : Bool) (x y : X) → b ≡ false → (if b then x else y) ≡ y
otherwise true x y h = absurd cc
otherwise false x y h = refl

pub chosen : {X : Type 0} (b : Bool) (x y : X) → b ≡ true → (if b then x else y) ≡ x
chosen true x y h = refl
chosen false x y h = absurd cc

pub not_equal : (a b : ℕ) → (a ≡ b → ⊥) → (a == b) ≡ false
not_equal a b h = grind (arith, nat_tests)

-- a whole record is at the front
pub next_whole : (order : Endian) (given : ℕ) (bytes : List ℕ) → given < 4294967295 → 16 ≤ length bytes → captured_of order bytes ≤ 262144 → 16 + captured_of order bytes ≤ length bytes →
    next_of order given bytes ≡ Ok (Some (record_of order bytes, drop (16 + captured_of order bytes) bytes))
next_whole order given bytes few long short fits =
    otherwise (length bytes == 0) _ _ (not_equal (length bytes) 0 (λ h. omega arith))
    ∙ otherwise (given == 4294967295) _ _ (not_equal given 4294967295 (λ h. omega arith))
    ∙ otherwise (nat_lt (length bytes) 16) _ _ (le-ltb (length bytes) 16 long)
    ∙ otherwise (nat_lt 262144 (captured_of order bytes)) _ _ (le-ltb 262144 (captured_of order bytes) short)
    ∙ otherwise (nat_lt (length bytes) (16 + captured_of order bytes)) _ _ (le-ltb (length bytes) (16 + captured_of order bytes) fits)

-- a record takes its head and its frame
pub next_shorter : (order : Endian) (given : ℕ) (bytes : List ℕ) → IfOk (next_of order given bytes) (λ o. IfSome o (λ x. length x.1 + 16 ≤ length bytes))
next_shorter order given bytes =
    let P : Result (Option (PcapRecord × List ℕ)) CaptureFault → Type 0 = λ r. IfOk r (λ o. IfSome o (λ x. length x.1 + 16 ≤ length bytes)) in
    both P (length bytes == 0) _ _ (λ h. tt) (λ some.
    both P (given == 4294967295) _ _ (λ h. tt) (λ few.
    both P (nat_lt (length bytes) 16) _ _ (λ h. tt) (λ long.
    both P (nat_lt 262144 (captured_of order bytes)) _ _ (λ h. tt) (λ short.
    both P (nat_lt (length bytes) (16 + captured_of order bytes)) _ _ (λ h. tt) (λ whole.
    let fits : 16 + captured_of order bytes ≤ length bytes = ltb-false (length bytes) (16 + captured_of order bytes) whole in
    let less : length (drop (16 + captured_of order bytes) bytes) + 16 ≤ length bytes = omega (arith, length-drop (16 + captured_of order bytes) bytes) in less)))))

and_rest_same : (f g : List ℕ → Body) (next : Result (Option (PcapRecord × List ℕ)) CaptureFault) → IfOk next (λ o. IfSome o (λ x. f x.1 ≡ g x.1)) → and_rest f next ≡ and_rest g next
and_rest_same f g (Ok None) h = refl
and_rest_same f g (Ok (Some (r, bytes))) h = ap (with_record r) h
and_rest_same f g (Err fault) h = refl

each_next : (P Q : PcapRecord × List ℕ → Type 0) (next : Result (Option (PcapRecord × List ℕ)) CaptureFault) → ((x : PcapRecord × List ℕ) → P x → Q x) → IfOk next (λ o. IfSome o P) → IfOk next (λ o. IfSome o Q)
each_next P Q (Ok None) f h = tt
each_next P Q (Ok (Some x)) f h = f x h
each_next P Q (Err fault) f h = tt

-- a limit on the number of records doesn't matter if it is above the number of bytes
enough : (n m : ℕ) (order : Endian) (given : ℕ) (bytes : List ℕ) → length bytes < n → length bytes < m → body_within n order given bytes ≡ body_within m order given bytes
enough zero m order given bytes p q = absurd (omega arith)
enough (suc n) zero order given bytes p q = absurd (omega arith)
enough (suc n) (suc m) order given bytes p q = and_rest_same (body_within n order (given + 1)) (body_within m order (given + 1)) (next_of order given bytes)
    (each_next (λ x. length x.1 + 16 ≤ length bytes) (λ x. body_within n order (given + 1) x.1 ≡ body_within m order (given + 1) x.1) (next_of order given bytes)
    (λ (x : PcapRecord × List ℕ) (less : length x.1 + 16 ≤ length bytes). enough n m order (given + 1) x.1 (omega arith) (omega arith)) (next_shorter order given bytes))

-- a body is what comes next, and the body after it
pub body_next : (order : Endian) (given : ℕ) (bytes : List ℕ) → body_of order given bytes ≡ and_rest (body_of order (given + 1)) (next_of order given bytes)
unfolding body_of
body_next order given bytes =
    ap (λ n. body_within n order given bytes) (let e : length bytes + 1 ≡ suc (length bytes) = omega arith in e)
    ∙ and_rest_same (body_within (length bytes) order (given + 1)) (λ rest. body_within (length rest + 1) order (given + 1) rest) (next_of order given bytes)
    (each_next (λ x. length x.1 + 16 ≤ length bytes) (λ x. body_within (length bytes) order (given + 1) x.1 ≡ body_within (length x.1 + 1) order (given + 1) x.1) (next_of order given bytes)
    (λ (x : PcapRecord × List ℕ) (less : length x.1 + 16 ≤ length bytes). enough (length bytes) (length x.1 + 1) order (given + 1) x.1 (omega arith) (omega arith)) (next_shorter order given bytes))

pub body_end : (order : Endian) (given : ℕ) → body_of order given [] ≡ record { records = []; fault = None }
body_end order given = body_next order given []

less_by : (bytes : List ℕ) (next : Result (Option (PcapRecord × List ℕ)) CaptureFault) (r : PcapRecord) (rest : List ℕ) → next ≡ Ok (Some (r, rest)) →
    IfOk next (λ o. IfSome o (λ x. length x.1 + 16 ≤ length bytes)) → length rest + 16 ≤ length bytes
less_by bytes next r rest is h = let P : Result (Option (PcapRecord × List ℕ)) CaptureFault → Type 0 = λ n. IfOk n (λ o. IfSome o (λ x. length x.1 + 16 ≤ length bytes)) in subst P is h

pub next_less : (order : Endian) (given : ℕ) (bytes : List ℕ) (r : PcapRecord) (rest : List ℕ) → next_of order given bytes ≡ Ok (Some (r, rest)) → length rest + 16 ≤ length bytes
next_less order given bytes r rest is = less_by bytes (next_of order given bytes) r rest is (next_shorter order given bytes)

pub empty : (bytes : List ℕ) → length bytes ≡ 0 → bytes ≡ []
empty [] h = refl
empty (b ∷ bs) h = absurd (omega arith)
