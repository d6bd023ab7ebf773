-- The blocks of a capture, one after the other.
use Rattle.std.proofs.Common.{◌≡◌, ◌≤◌, ◌<◌, ◌+◌, ◌%◌, ◌∙◌, ℕ, zero, suc, List, length, take, drop, refl, ap, length-drop, arith, Bool, false}
use Rattle.std.specs.Prelude.{Option, Some, None, IfSome, Result, Ok, Err, IfOk, nat_lt, ◌==◌, ◌||◌, ◌&&◌, not}
use Rattle.std.proofs.lemmas.Bool.{ltb-false}
use Rattle.capture_bytes.specs.declared.order.Endian.{Endian}
use Rattle.capture_bytes.specs.Numbers.{number_at}
use Rattle.pcapng_io.specs.declared.block_kind.BlockKind.{BlockKind}
use Rattle.pcapng_io.specs.declared.fault.NgFault.{NgFault}
use Rattle.pcapng_io.specs.declared.item.NgItem.{NgItem}
use Rattle.pcapng_io.specs.declared.place.Place.{Place}
use Rattle.pcapng_io.specs.Blocks.{Blocks, first_fault, length_faults, is_section, is_unread, kind_in, order_in, length_in, whole_block, and_left, block_of, next_of, and_rest, with_item, blocks_within, blocks_of}
use Rattle.pcapng_io.proofs.Choices.{both}
use Rattle.pcapng_io.proofs.Faults.{NoneStands, none_stands, or_left, or_right}

-- an accepted length is that of a block, and the block is present
pub record Accepted (size : ℕ) (bytes : List ℕ) : Type 0 where
  pub least : 12 ≤ size
  pub there : size ≤ length bytes

pub accepted : (n : ℕ) (order : Endian) (kind : BlockKind) (bytes : List ℕ) → first_fault (length_faults n order kind bytes) ≡ None → Accepted (length_in order bytes) bytes
accepted n order kind bytes none =
    let tests : NoneStands (length_faults n order kind bytes) = none_stands (length_faults n order kind bytes) none in
    let magic : Bool = is_section kind && not (number_at order 4 8 bytes == 0x1a2b3c4d) in
    let size : ℕ = length_in order bytes in
    let bad : (((magic || nat_lt size 12) || not (size % 4 == 0)) || is_unread kind) ≡ false = tests.1.0 in
    let short : nat_lt size 12 ≡ false = or_right magic (nat_lt size 12) (or_left (magic || nat_lt size 12) (not (size % 4 == 0)) (or_left ((magic || nat_lt size 12) || not (size % 4 == 0)) (is_unread kind) bad)) in
    record { least = ltb-false size 12 short; there = ltb-false (length bytes) size tests.1.1.1.0 }

abbrev Next : Type 0
Next = Result (Option (NgItem × Place × List ℕ)) NgFault

-- what comes next takes at least a block's lengths
abbrev pub IsShorter : List ℕ → Next → Type 0
IsShorter bytes next = IfOk next (λ o. IfSome o (λ x. length x.2 + 12 ≤ length bytes))

left_shorter : (bytes rest : List ℕ) (block : Result (NgItem × Place) NgFault) → length rest + 12 ≤ length bytes → IsShorter bytes (and_left rest block)
left_shorter bytes rest (Ok (item, place)) h = h
left_shorter bytes rest (Err fault) h = tt

framed_shorter : (place : Place) (order : Endian) (kind : BlockKind) (bytes : List ℕ) (o : Option NgFault) → first_fault (length_faults (place.blocks + 1) order kind bytes) ≡ o → IsShorter bytes (whole_block place order kind (length_in order bytes) bytes o)
framed_shorter place order kind bytes (Some fault) is = tt
framed_shorter place order kind bytes None is =
    let fits = accepted (place.blocks + 1) order kind bytes is in
    left_shorter bytes (drop (length_in order bytes) bytes) (block_of place order kind (take (length_in order bytes) bytes)) (omega (arith, fits.least, fits.there, length-drop (length_in order bytes) bytes))

pub next_shorter : (place : Place) (bytes : List ℕ) → IsShorter bytes (next_of place bytes)
next_shorter place bytes =
    both (IsShorter bytes) (length bytes == 0) _ _ (λ h. tt) (λ some. framed_shorter place (order_in place.order (kind_in place.order bytes) bytes) (kind_in place.order bytes) bytes _ refl)

and_rest_same : (f g : Place → List ℕ → Blocks) (next : Next) → IfOk next (λ o. IfSome o (λ x. f x.1 x.2 ≡ g x.1 x.2)) → and_rest f next ≡ and_rest g next
and_rest_same f g (Ok None) h = refl
and_rest_same f g (Ok (Some (item, place, bytes))) h = ap (with_item item) h
and_rest_same f g (Err fault) h = refl

each_next : (P Q : NgItem × Place × List ℕ → Type 0) (next : Next) → ((x : NgItem × Place × List ℕ) → P x → Q x) → IfOk next (λ o. IfSome o P) → IfOk next (λ o. IfSome o Q)
each_next P Q (Ok None) f h = tt
each_next P Q (Ok (Some x)) f h = f x h
each_next P Q (Err fault) f h = tt

-- a limit on the number of blocks doesn't matter if it is above the number of bytes
enough : (n m : ℕ) (place : Place) (bytes : List ℕ) → length bytes < n → length bytes < m → blocks_within n place bytes ≡ blocks_within m place bytes
enough zero m place bytes p q = absurd (omega arith)
enough (suc n) zero place bytes p q = absurd (omega arith)
enough (suc n) (suc m) place bytes p q = and_rest_same (blocks_within n) (blocks_within m) (next_of place bytes)
    (each_next (λ x. length x.2 + 12 ≤ length bytes) (λ x. blocks_within n x.1 x.2 ≡ blocks_within m x.1 x.2) (next_of place bytes)
    (λ (x : NgItem × Place × List ℕ) (less : length x.2 + 12 ≤ length bytes). enough n m x.1 x.2 (omega arith) (omega arith)) (next_shorter place bytes))

-- all blocks are what comes next, and those after it
pub blocks_next : (place : Place) (bytes : List ℕ) → blocks_of place bytes ≡ and_rest blocks_of (next_of place bytes)
unfolding blocks_of
blocks_next place bytes =
    ap (λ n. blocks_within n place bytes) (let e : length bytes + 1 ≡ suc (length bytes) = omega arith in e)
    ∙ and_rest_same (blocks_within (length bytes)) (λ at rest. blocks_within (length rest + 1) at rest) (next_of place bytes)
    (each_next (λ x. length x.2 + 12 ≤ length bytes) (λ x. blocks_within (length bytes) x.1 x.2 ≡ blocks_within (length x.2 + 1) x.1 x.2) (next_of place bytes)
    (λ (x : NgItem × Place × List ℕ) (less : length x.2 + 12 ≤ length bytes). enough (length bytes) (length x.2 + 1) x.1 x.2 (omega arith) (omega arith)) (next_shorter place bytes))
