-- The options that are copied, one after the other.
use Rattle.std.proofs.Common.{◌≡◌, ◌≤◌, ◌<◌, ◌+◌, ◌-◌, ◌%◌, ◌∙◌, ℕ, zero, suc, List, [], ◌∷◌, ◌++◌, length, take, drop, refl, ap, sym, append_assoc, length-append, length-take, length-drop, arith, Bool, true, false}
use Rattle.std.specs.Prelude.{nat_lt, ◌==◌, if◌then◌else◌}
use Rattle.std.proofs.lemmas.Bool.{eq-eqb, eqb-true, eqb-false, ltb-false}
use Rattle.capture_bytes.specs.declared.order.Endian.{Endian}
use Rattle.capture_bytes.specs.declared.order.Endian.TheVariants.{Big, Little}
use Rattle.capture_bytes.specs.Numbers.{number_at, bytes_of}
use Rattle.pcapng_io.specs.Options.{padded, front_length, is_uncopied, front_copied, copied_within, copied}
use Rattle.pcapng_io.specs.Blocks.{options_at, copied_block, with_options}
use Rattle.pcapng_io.proofs.Choices.{otherwise, chosen, other_same, both, not_equal}

-- the option at the front lies within the bytes, and ends at a multiple of four
pub front_within : (order : Endian) (bytes : List ℕ) → front_length order bytes ≤ length bytes
front_within order bytes =
    both (λ n. n ≤ length bytes) (length bytes == 0) _ _ (λ _. omega arith)
    (λ _. both (λ n. n ≤ length bytes) (number_at order 2 0 bytes == 0) _ _ (λ _. omega arith)
    (λ _. both (λ n. n ≤ length bytes) (nat_lt (length bytes) (4 + padded (number_at order 2 2 bytes))) _ _ (λ _. omega arith) (λ fits. ltb-false (length bytes) (4 + padded (number_at order 2 2 bytes)) fits)))

pub front_whole : (order : Endian) (bytes : List ℕ) → front_length order bytes % 4 ≡ 0
front_whole order bytes =
    both (λ n. n % 4 ≡ 0) (length bytes == 0) _ _ (λ _. refl)
    (λ _. both (λ n. n % 4 ≡ 0) (number_at order 2 0 bytes == 0) _ _ (λ _. refl)
    (λ _. both (λ n. n % 4 ≡ 0) (nat_lt (length bytes) (4 + padded (number_at order 2 2 bytes))) _ _ (λ _. refl) (λ _. omega arith)))

-- a limit on the number of options doesn't matter if it is at least the number of bytes
enough : (n m : ℕ) (order : Endian) (bytes : List ℕ) → length bytes ≤ n → length bytes ≤ m → copied_within n order bytes ≡ copied_within m order bytes
enough zero zero order bytes p q = refl
enough zero (suc m) order [] p q = refl
enough zero (suc m) order (b ∷ bytes) p q = absurd (omega arith)
enough (suc n) zero order [] p q = refl
enough (suc n) zero order (b ∷ bytes) p q = absurd (omega arith)
enough (suc n) (suc m) order bytes p q =
    let size : ℕ = front_length order bytes in
    other_same (size == 0) _ _ _ (λ some.
    let more : size ≡ 0 → ⊥ = eqb-false size 0 some in
    ap (λ l. front_copied order size bytes ++ l) (enough n m order (drop size bytes) (omega (arith, p, more, length-drop size bytes)) (omega (arith, q, more, length-drop size bytes))))

one_more : (order : Endian) (bytes : List ℕ) → copied order bytes ≡ copied_within (suc (length bytes)) order bytes
unfolding copied
one_more order bytes = enough (length bytes) (suc (length bytes)) order bytes (omega arith) (omega arith)

pub copied_end : (order : Endian) (bytes : List ℕ) → front_length order bytes ≡ 0 → copied order bytes ≡ bytes
copied_end order bytes none = one_more order bytes ∙ chosen (front_length order bytes == 0) _ _ (eq-eqb (front_length order bytes) 0 none)

pub copied_next : (order : Endian) (bytes : List ℕ) → 0 < front_length order bytes →
    copied order bytes ≡ front_copied order (front_length order bytes) bytes ++ copied order (drop (front_length order bytes) bytes)
unfolding copied
copied_next order bytes some =
    let size : ℕ = front_length order bytes in
    one_more order bytes ∙ otherwise (size == 0) _ _ (not_equal size 0 (λ h. omega arith))
    ∙ ap (λ l. front_copied order size bytes ++ l) (enough (length bytes) (length (drop size bytes)) order (drop size bytes) (omega (arith, some, length-drop size bytes)) (omega arith))

-- one option more: it was copied, or left out
pub next_copied : (order : Endian) (done rest whole : List ℕ) → done ++ copied order rest ≡ whole → 0 < front_length order rest → is_uncopied (number_at order 2 0 rest) ≡ false →
    (done ++ take (front_length order rest) rest) ++ copied order (drop (front_length order rest) rest) ≡ whole
next_copied order done rest whole so_far some kept =
    append_assoc done (take (front_length order rest) rest) (copied order (drop (front_length order rest) rest))
    ∙ ap (λ l. done ++ (l ++ copied order (drop (front_length order rest) rest))) (sym (otherwise (is_uncopied (number_at order 2 0 rest)) [] (take (front_length order rest) rest) kept))
    ∙ ap (λ l. done ++ l) (sym (copied_next order rest some)) ∙ so_far

pub next_left : (order : Endian) (done rest whole : List ℕ) → done ++ copied order rest ≡ whole → 0 < front_length order rest → is_uncopied (number_at order 2 0 rest) ≡ true →
    done ++ copied order (drop (front_length order rest) rest) ≡ whole
next_left order done rest whole so_far some left =
    ap (λ l. done ++ (l ++ copied order (drop (front_length order rest) rest))) (sym (chosen (is_uncopied (number_at order 2 0 rest)) [] (take (front_length order rest) rest) left))
    ∙ ap (λ l. done ++ l) (sym (copied_next order rest some)) ∙ so_far

pub next_option : (order : Endian) (done more rest later whole : List ℕ) (size code : ℕ) → done ++ copied order rest ≡ whole → size ≡ front_length order rest → 0 < size → code ≡ number_at order 2 0 rest →
    more ≡ (if is_uncopied code then done else done ++ take size rest) → later ≡ drop size rest → more ++ copied order later ≡ whole
next_option order done more rest later whole size code so_far is_size some is_code is_more is_later =
    ap (λ l. l ++ copied order later) is_more ∙ ap (λ l. (if is_uncopied code then done else done ++ take size rest) ++ copied order l) is_later
    ∙ ap (λ n. (if is_uncopied n then done else done ++ take size rest) ++ copied order (drop size rest)) is_code
    ∙ ap (λ n. (if is_uncopied (number_at order 2 0 rest) then done else done ++ take n rest) ++ copied order (drop n rest)) is_size
    ∙ both (λ l. l ++ copied order (drop (front_length order rest) rest) ≡ whole) (is_uncopied (number_at order 2 0 rest)) done (done ++ take (front_length order rest) rest)
    (λ left. next_left order done rest whole so_far (omega arith) left) (λ kept. next_copied order done rest whole so_far (omega arith) kept)

-- what is copied is no longer, and its length is a multiple of four too
pub record IsPart (size : ℕ) (xs : List ℕ) : Type 0 where
  pub short : length xs ≤ size
  pub whole : length xs % 4 ≡ 0

front_part : (order : Endian) (size : ℕ) (bytes : List ℕ) → size ≤ length bytes → size % 4 ≡ 0 → IsPart size (front_copied order size bytes)
front_part order size bytes within whole =
    both (IsPart size) (is_uncopied (number_at order 2 0 bytes)) [] (take size bytes) (λ _. record { short = omega arith; whole = refl })
    (λ _. record { short = omega (arith, length-take size bytes); whole = omega (arith, length-take size bytes, within, whole) })

part_within : (n : ℕ) (order : Endian) (bytes : List ℕ) → length bytes % 4 ≡ 0 → IsPart (length bytes) (copied_within n order bytes)
part_within zero order bytes whole = record { short = omega arith; whole = whole }
part_within (suc n) order bytes whole =
    let size : ℕ = front_length order bytes in
    both (IsPart (length bytes)) (size == 0) _ _ (λ _. record { short = omega arith; whole = whole })
    (λ _.
    let first = front_part order size bytes (front_within order bytes) (front_whole order bytes) in
    let more = part_within n order (drop size bytes) (omega (arith, whole, front_whole order bytes, front_within order bytes, length-drop size bytes)) in
    let both_long = length-append (front_copied order size bytes) (copied_within n order (drop size bytes)) in
    record {
      short = omega (arith, both_long, first.short, more.short, front_within order bytes, length-drop size bytes);
      whole = omega (arith, both_long, first.whole, more.whole);
    })

pub copied_part : (order : Endian) (bytes : List ℕ) → length bytes % 4 ≡ 0 → IsPart (length bytes) (copied order bytes)
unfolding copied
copied_part order bytes whole = part_within (length bytes) order bytes whole

-- what is copied of a part of a block is no longer than a block
pub copied_most : (order : Endian) (n at : ℕ) (bytes options : List ℕ) → options ≡ copied order (take n (drop at bytes)) → n % 4 ≡ 0 → n + at ≤ length bytes → length bytes ≤ 16777216 → length options ≤ 16777216
copied_most order n at bytes options is whole inside most =
    let size : length (take n (drop at bytes)) ≡ n = omega (arith, inside, length-take n (drop at bytes), length-drop at bytes) in
    let part = copied_part order (take n (drop at bytes)) (ap (λ k. k % 4) size ∙ whole) in
    omega (arith, part.short, ap length is, size, inside, most)

-- the length of a block without some options

pub options_length : (at : ℕ) (block : List ℕ) → at + 4 ≤ length block → length (options_at at block) ≡ length block - (at + 4)
options_length at block room = omega (arith, room, length-take (length block - 4 - at) (drop at block), length-drop at block)

bytes_length : (order : Endian) (x : ℕ) → length (bytes_of order 4 x) ≡ 4
bytes_length Big x = refl
bytes_length Little x = refl

pub with_length : (order : Endian) (at : ℕ) (options block : List ℕ) → 8 ≤ at → at ≤ length block → length (with_options order at options block) ≡ at + length options + 4
with_length order at options block begins room =
    let size : List ℕ = bytes_of order 4 (at + length options + 4) in
    omega (
      arith,
      begins,
      room,
      bytes_length order (at + length options + 4),
      length-take 4 block,
      length-take (at - 8) (drop 8 block),
      length-drop 8 block,
      length-append (take 4 block ++ size ++ take (at - 8) (drop 8 block) ++ options) size,
      length-append (take 4 block ++ size ++ take (at - 8) (drop 8 block)) options,
      length-append (take 4 block ++ size) (take (at - 8) (drop 8 block)),
      length-append (take 4 block) size,
    )

pub block_least : (order : Endian) (at : ℕ) (block : List ℕ) → 8 ≤ at → at + 4 ≤ length block → at + 4 ≤ length (copied_block order at block)
block_least order at block begins room =
    let options : List ℕ = copied order (options_at at block) in
    both (λ l. at + 4 ≤ length l) (length options == length (options_at at block)) block (with_options order at options block) (λ _. room)
    (λ _. omega (arith, with_length order at options block begins (omega arith)))

-- a block of which nothing was left out, by what is left
pub nothing_left_out : (order : Endian) (at : ℕ) (block : List ℕ) → 8 ≤ at → at + 4 ≤ length block → copied_block order at block ≡ block → length (copied order (options_at at block)) ≡ length (options_at at block)
nothing_left_out order at block begins room same = by (length (copied order (options_at at block)) == length (options_at at block)) refl same
  where
    options : List ℕ
    options = copied order (options_at at block)

    by : (b : Bool) → (length options == length (options_at at block)) ≡ b → (if b then block else with_options order at options block) ≡ block → length options ≡ length (options_at at block)
    by true is kept = eqb-true (length options) (length (options_at at block)) is
    by false is kept = omega (arith, ap length kept, with_length order at options block begins (omega arith), options_length at block room)

-- a block with the same options keeps them all too
pub stays_whole : (order : Endian) (at : ℕ) (w block : List ℕ) → 8 ≤ at → at + 4 ≤ length block → options_at at w ≡ options_at at block → copied_block order at block ≡ block → copied_block order at w ≡ w
stays_whole order at w block begins room same kept =
    let size = nothing_left_out order at block begins room kept in
    chosen (length (copied order (options_at at w)) == length (options_at at w)) w (with_options order at (copied order (options_at at w)) w)
    (eq-eqb (length (copied order (options_at at w))) (length (options_at at w)) (ap (λ l. length (copied order l)) same ∙ size ∙ sym (ap length same)))
