-- The groups of an IPv6 address, read from the front as one number.
use Rattle.std.proofs.Common.{◌≡◌, ◌<◌, ◌≤◌, ◌+◌, ◌*◌, ◌%◌, ◌^◌, ◌∙◌, ◌⊎◌, inl, inr, ℕ, List, ◌∷◌, [], length, take, get_or, suc, true, false, Bool, Some, None, sym, ap, refl, arith, cond, fold, lit≤}
use Rattle.std.specs.Prelude.{Option, ◌&&◌, ◌==◌, nat_lt, nat_le, bit_or}
use Rattle.std.specs.Option.{option_map, option_and_then}
use Rattle.std.specs.Char.{is_digit, digit_value}
use Rattle.std.specs.List.{slice_split, list_all}
use Rattle.std.specs.Str.Parse.{digits_value, AllDigits}
use Rattle.std.proofs.Math.Nat.{pow-le-pow_right}
use Rattle.std.proofs.lemmas.Bool.{ltb-true, lt-ltb, le-ltb, le-leb, lt-leb, leb-true, cases_lt}
use Rattle.std.proofs.lemmas.Int.Digits.{digits_value-lt, digits_value_more}
use Rattle.std.proofs.lemmas.List.{length-take-le}
use Rattle.std.proofs.lemmas.List.Folds.{list_all_more}
use Rattle.std.proofs.lemmas.Nat.{mul-add-lt, pow-add, or_shifted, shl_whole}
use Rattle.std.proofs.lemmas.Option.{cond_some}
use Rattle.policy_text.specs.declared.value6.Groups.{Groups}
use Rattle.policy_text.specs.Addresses6.{is_colon, is_group, group_of, each_group, groups_of}
use Rattle.policy_text.specs.Bytes.{hex_digit_of}
use Rattle.policy_text.specs.Groups.{IsNarrow, with_group, with_part, packed}

both : (a b : Bool) → a ≡ true → b ≡ true → (a && b) ≡ true
both a b first second = rw (first, second) refl

both_true : (a b : Bool) → (a && b) ≡ true → (a ≡ true) × (b ≡ true)
both_true true b h = (refl, h)
both_true false b h = absurd (cc)

-- a digit for each byte so far
abbrev are_hex : List ℕ → Bool
are_hex text = list_all (λ b. is_digit b 16) text

all_digits : (text : List ℕ) → are_hex text ≡ true → AllDigits 16 text
all_digits [] h = tt
all_digits (c ∷ cs) h =
    let parts = both_true (is_digit c 16) (are_hex cs) h in
    (ltb-true _ _ parts.0, all_digits cs parts.1)

-- the digits so far and their value
pub record IsRead (text : List ℕ) (i value : ℕ) : Type 0 where
  pub digits : list_all (λ b. is_digit b 16) (take i text) ≡ true
  pub worth : value ≡ digits_value 16 (take i text)

-- there is room for one more of four digits
pub read_room : (text : List ℕ) (i value : ℕ) → i < length text → length text ≤ 4 → IsRead text i value → value < 4096
read_room text i value inside short read =
    let below : digits_value 16 (take i text) < 16 ^ length (take i text) = digits_value-lt 16 (take i text) (all_digits (take i text) read.digits) in
    let few : length (take i text) ≤ 3 = omega (arith, length-take-le i text (omega arith)) in
    let most : 16 ^ length (take i text) ≤ 16 ^ 3 = pow-le-pow_right (lit≤ tt) few in
    omega (arith, read.worth)

-- one digit more
pub read_hex_digit : (text : List ℕ) (i value d : ℕ) → i < length text → IsRead text i value → hex_digit_of (get_or text i 0) ≡ Some d → IsRead text (i + 1) (value * 16 + d)
read_hex_digit text i value d inside read here =
    let is = cond_some _ _ _ here in
    record {
      digits = list_all_more (λ b. is_digit b 16) text i 0 inside ∙ both _ _ read.digits is.0;
      worth = sym (digits_value_more 16 text i inside ∙ ap (λ v. v * 16 + digit_value (get_or text i 0)) (sym read.worth) ∙ ap (λ v. value * 16 + v) is.1);
    }

-- a group has 16 bits
group_small : (part : List ℕ) (g : ℕ) → group_of part ≡ Some g → g < 65536
group_small part g is =
    let found = cond_some (is_group part) (digits_value 16 part) g is in
    let tests = both_true (nat_le 1 (length part) && nat_le (length part) 4) (are_hex part) found.0 in
    let sizes = both_true (nat_le 1 (length part)) (nat_le (length part) 4) tests.0 in
    let short : length part ≤ 4 = leb-true (length part) 4 sizes.1 in
    let below : digits_value 16 part < 16 ^ length part = digits_value-lt 16 part (all_digits part tests.1) in
    let most : 16 ^ length part ≤ 16 ^ 4 = pow-le-pow_right (lit≤ tt) short in
    let worth : digits_value 16 part ≡ g = found.1 in
    omega arith

-- a shift and a union of bits add a group
shifted : (read : Groups) (g h : ℕ) → IsNarrow read → read.count < 8 → g < 65536 → h ≡ g → bit_or (read.value * 65536 % 2 ^ 128) h ≡ read.value * 65536 + g
shifted read g h narrow room small same =
    ap (λ v. bit_or v h) (shl_whole read.value (16 * read.count) 16 128 narrow.narrow (omega arith)) ∙ ap (bit_or (read.value * 65536)) same ∙ or_shifted read.value 16 g small

same_groups : (v w c d : ℕ) → v ≡ w → c ≡ d → (let g : Groups = record { value = v; count = c } in g) ≡ record { value = w; count = d }
same_groups v w c d values counts = rw (values, counts) refl

some_test : (b : Bool) (x y : Groups) → b ≡ true → x ≡ y → Some x ≡ cond b (Some y) None
some_test b x y test same = rw (test, same) refl

-- the group of one part more
pub more_groups : (read : Groups) (part : List ℕ) (g h : ℕ) → IsNarrow read → Some g ≡ group_of part → read.count < 8 → h ≡ g →
    Some (record { value = bit_or (read.value * 65536 % 2 ^ 128) h; count = read.count + 1 }) ≡ with_part read part
more_groups read part g h narrow is room same =
    some_test (nat_lt read.count 8) (record { value = bit_or (read.value * 65536 % 2 ^ 128) h; count = read.count + 1 }) (record { value = read.value * 65536 + g; count = read.count + 1 }) (lt-ltb read.count 8 room)
    (same_groups _ _ _ _ (shifted read g h narrow room (group_small part g (sym is)) same) refl) ∙
    ap (option_and_then (with_group read)) is

pub still_narrow : (read : Groups) (part : List ℕ) (g h : ℕ) → IsNarrow read → Some g ≡ group_of part → read.count < 8 → h ≡ g → IsNarrow (record { value = bit_or (read.value * 65536 % 2 ^ 128) h; count = read.count + 1 })
still_narrow read part g h narrow is room same =
    let small = group_small part g (sym is) in
    let worth = shifted read g h narrow room small same in
    let below : read.value * 65536 + g < 65536 * 2 ^ (16 * read.count) = mul-add-lt read.value 65536 g (2 ^ (16 * read.count)) narrow.narrow small in
    let bits : 16 * (read.count + 1) ≡ 16 + 16 * read.count = omega arith in
    let whole : 2 ^ (16 * (read.count + 1)) ≡ 65536 * 2 ^ (16 * read.count) = ap (λ k. 2 ^ k) bits ∙ pow-add 2 16 (16 * read.count) in
    record { few = omega arith; narrow = omega arith }

-- what reading on gives
abbrev pub read_on : Groups → List (List ℕ) → Option Groups
read_on read [] = Some read
read_on read (part ∷ parts) = option_and_then (λ more. read_on more parts) (with_part read part)

-- the groups after those that are read
abbrev shift : ℕ → ℕ → ℕ
shift high group = high * 65536 + group

abbrev with_groups : Groups → List ℕ → Option Groups
with_groups read groups =
    cond (nat_le (read.count + length groups) 8) (Some (record { value = fold shift read.value groups; count = read.count + length groups })) None

same_tests : (a b : Bool) (x y : Groups) → a ≡ b → x ≡ y → cond a (Some x) None ≡ cond b (Some y) None
same_tests a b x y tests values = rw (tests, values) refl

one_more : (read : Groups) (g : ℕ) (groups : Option (List ℕ)) →
    option_and_then (with_groups (record { value = read.value * 65536 + g; count = read.count + 1 })) groups ≡ option_and_then (with_groups read) (option_map (λ gs. g ∷ gs) groups)
one_more read g None = refl
one_more read g (Some gs) =
    let count : read.count + 1 + length gs ≡ read.count + suc (length gs) = omega arith in
    same_tests _ _ _ _ (ap (λ n. nat_le n 8) count) (same_groups _ _ _ _ refl count)

no_more : (read : Groups) (g : ℕ) (groups : Option (List ℕ)) → 8 ≤ read.count → option_and_then (with_groups read) (option_map (λ gs. g ∷ gs) groups) ≡ None
no_more read g None full = refl
no_more read g (Some gs) full =
    let test : nat_le (read.count + suc (length gs)) 8 ≡ false = lt-leb _ _ (omega arith) in
    rw test refl

read_group : (read : Groups) (g : ℕ) (parts : List (List ℕ)) (groups : Option (List ℕ)) → ((more : Groups) → more.count ≤ 8 → read_on more parts ≡ option_and_then (with_groups more) groups) →
    (read.count < 8) ⊎ (8 ≤ read.count) → option_and_then (λ more. read_on more parts) (with_group read g) ≡ option_and_then (with_groups read) (option_map (λ gs. g ∷ gs) groups)
read_group read g parts groups rest (inl room) =
    rw (lt-ltb read.count 8 room) (rest (record { value = read.value * 65536 + g; count = read.count + 1 }) (omega arith) ∙ one_more read g groups)
read_group read g parts groups rest (inr full) = rw (le-ltb read.count 8 full) (sym (no_more read g groups full))

read_part : (read : Groups) (group : Option ℕ) (parts : List (List ℕ)) (groups : Option (List ℕ)) → ((more : Groups) → more.count ≤ 8 → read_on more parts ≡ option_and_then (with_groups more) groups) →
    option_and_then (λ more. read_on more parts) (option_and_then (with_group read) group) ≡ option_and_then (with_groups read) (option_and_then (λ g. option_map (λ gs. g ∷ gs) groups) group)
read_part read None parts groups rest = refl
read_part read (Some g) parts groups rest = read_group read g parts groups rest (cases_lt read.count 8)

-- reading on gives the groups of the parts after those that are read
read_on-is : (parts : List (List ℕ)) (read : Groups) → read.count ≤ 8 → read_on read parts ≡ option_and_then (with_groups read) (each_group parts)
read_on-is [] read few = some_test _ _ _ (le-leb (read.count + 0) 8 (omega arith)) (same_groups read.value read.value read.count (read.count + 0) refl (omega arith))
read_on-is (part ∷ parts) read few = read_part read (group_of part) parts (each_group parts) (read_on-is parts)

abbrev pub no_groups : Groups
no_groups = record { value = 0; count = 0 }

from_none : (groups : Option (List ℕ)) → option_and_then (with_groups no_groups) groups ≡ option_and_then packed groups
from_none None = refl
from_none (Some gs) =
    let count : 0 + length gs ≡ length gs = omega arith in
    same_tests _ _ _ _ (ap (λ n. nat_le n 8) count) (same_groups _ _ _ _ refl count)

read_whole : (text : List ℕ) → (length text == 0) ≡ false → read_on no_groups (slice_split is_colon text) ≡ option_and_then packed (groups_of text)
read_whole [] some = absurd (cc)
read_whole (b ∷ bytes) some =
    read_on-is (slice_split is_colon (b ∷ bytes)) no_groups (lit≤ tt) ∙ from_none (each_group (slice_split is_colon (b ∷ bytes)))

-- the groups so far and the rest give what the text gives
pub record ReadsGroups (text : List ℕ) (read : Groups) (rest : List ℕ) : Type 0 where
  pub left : read_on read (slice_split is_colon rest) ≡ read_on no_groups (slice_split is_colon text)
  pub narrow : IsNarrow read

-- a part that is no group
pub no_part : (text rest part behind : List ℕ) (read : Groups) → ReadsGroups text read rest → slice_split is_colon rest ≡ part ∷ slice_split is_colon behind → with_part read part ≡ None → (length text == 0) ≡ false → None ≡ option_and_then packed (groups_of text)
no_part text rest part behind read h cut miss some =
    sym (ap (read_on read) cut ∙ ap (option_and_then (λ m. read_on m (slice_split is_colon behind))) miss) ∙ h.left ∙ read_whole text some

same_option : (o : Option Groups) → option_and_then (λ x. Some x) o ≡ o
same_option None = refl
same_option (Some x) = refl

-- the last part
pub last_part : (text rest : List ℕ) (read : Groups) → ReadsGroups text read rest → slice_split is_colon rest ≡ rest ∷ [] → (length text == 0) ≡ false → with_part read rest ≡ option_and_then packed (groups_of text)
last_part text rest read h cut some = sym (ap (read_on read) cut ∙ same_option (with_part read rest)) ∙ h.left ∙ read_whole text some
