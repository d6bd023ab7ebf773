-- No text is an address of both versions of IP: an IPv4 address has no colon.
use Rattle.std.proofs.Common.{◌≡◌, ◌<◌, ◌+◌, ◌*◌, ◌∙◌, inl, inr, ℕ, List, ◌∷◌, [], length, drop, get_or, true, false, Bool, Some, None, ap, refl, arith, cond}
use Rattle.std.specs.Prelude.{Option, All, ◌&&◌, ◌||◌, ◌==◌, min}
use Rattle.std.specs.Option.{option_map, option_and_then}
use Rattle.std.specs.Char.{is_ascii_digit}
use Rattle.std.specs.List.{slice_split, onto_first, list_all, zip}
use Rattle.std.proofs.lemmas.Bool.{cases_eq, ne_eqb}
use Rattle.std.proofs.lemmas.List.Quantifiers.{position-Some}
use Rattle.std.proofs.lemmas.List.Splits.{slice_split_none}
use Rattle.std.proofs.lemmas.List.Sums.{AllPass-from_list_all}
use Rattle.std.proofs.lemmas.Option.{cond_some}
use Rattle.std.proofs.lemmas.Slice.Zip.{length-zip, get_or-zip}
use Rattle.policy_text.specs.Addresses6.{is_colon, each_group, groups_of, gap_in, all_eight, groups_around, number_of_groups, group_of, address6_of, prefix6_of_parts, prefix6_of}
use Rattle.policy_text.specs.Values.{number_of, is_numeral, address_of, address_of_parts, prefix_of, prefix_of_parts}

both_true : (a b : Bool) → (a && b) ≡ true → (a ≡ true) × (b ≡ true)
both_true true b h = (refl, h)
both_true false b h = absurd (cc)

both : (a b : Bool) → a ≡ true → b ≡ true → (a && b) ≡ true
both a b first second = rw (first, second) refl

left : (a b : Bool) → a ≡ true → (a || b) ≡ true
left a b h = rw h refl

right : (a b : Bool) → a ≡ false → b ≡ true → (a || b) ≡ true
right a b miss h = rw (miss, h) refl

in_first : (q : ℕ → Bool) (x : ℕ) (parts : List (List ℕ)) → list_all (list_all q) (onto_first x parts) ≡ true → (q x ≡ true) × (list_all (list_all q) parts ≡ true)
in_first q x [] h = ((both_true (q x) true (both_true (q x && true) true h).0).0, refl)
in_first q x (part ∷ parts) h =
    let all = both_true (q x && list_all q part) (list_all (list_all q) parts) h in
    let own = both_true (q x) (list_all q part) all.0 in
    (own.0, both _ _ own.1 all.1)

parted_at : (p q : ℕ → Bool) (x : ℕ) (xs : List ℕ) (b : Bool) → p x ≡ b → list_all (list_all q) (cond b ([] ∷ slice_split p xs) (onto_first x (slice_split p xs))) ≡ true →
    (list_all (list_all q) (slice_split p xs) ≡ true → list_all (λ b. p b || q b) xs ≡ true) → list_all (λ b. p b || q b) (x ∷ xs) ≡ true
parted_at p q x xs true parts h rest = both _ _ (left (p x) (q x) parts) (rest h)
parted_at p q x xs false stays h rest =
    let first = in_first q x (slice_split p xs) h in
    both _ _ (right (p x) (q x) stays first.0) (rest first.1)

-- what the parts pass, each byte passes, except those between them
parted : (p q : ℕ → Bool) (xs : List ℕ) → list_all (list_all q) (slice_split p xs) ≡ true → list_all (λ b. p b || q b) xs ≡ true
parted p q [] h = refl
parted p q (x ∷ xs) h = parted_at p q x xs (p x) refl h (parted p q xs)

number_digits : (digits greatest : ℕ) (text : List ℕ) (n : ℕ) → number_of digits greatest text ≡ Some n → list_all is_ascii_digit text ≡ true
number_digits digits greatest text n is = (both_true _ _ (both_true (is_numeral digits text) _ (cond_some _ _ _ is).0).0).1

all_some : {P : Type 0} (f : ℕ → ℕ → ℕ → ℕ → ℕ) (w x y z : Option ℕ) (v : ℕ) → option_and_then (λ a. option_and_then (λ b. option_and_then (λ c. option_map (λ d. f a b c d) z) y) x) w ≡ Some v →
    ((a b c d : ℕ) → w ≡ Some a → x ≡ Some b → y ≡ Some c → z ≡ Some d → P) → P
all_some f (Some a) (Some b) (Some c) (Some d) v is then = then a b c d refl refl refl refl
all_some f (Some a) (Some b) (Some c) None v is then = absurd (cc)
all_some f (Some a) (Some b) None z v is then = absurd (cc)
all_some f (Some a) None y z v is then = absurd (cc)
all_some f None x y z v is then = absurd (cc)

address_digits : (parts : List (List ℕ)) (v : ℕ) → address_of_parts parts ≡ Some v → list_all (list_all is_ascii_digit) parts ≡ true
address_digits [] v is = refl
address_digits (a ∷ []) v is = absurd (cc)
address_digits (a ∷ b ∷ []) v is = absurd (cc)
address_digits (a ∷ b ∷ c ∷ []) v is = absurd (cc)
address_digits (a ∷ b ∷ c ∷ d ∷ []) v is =
    all_some (λ a b c d. ((a * 256 + b) * 256 + c) * 256 + d) (number_of 3 255 a) (number_of 3 255 b) (number_of 3 255 c) (number_of 3 255 d) v is λ i j k l a_is b_is c_is d_is.
    both _ _ (number_digits 3 255 a i a_is) (both _ _ (number_digits 3 255 b j b_is) (both _ _ (number_digits 3 255 c k c_is) (both _ _ (number_digits 3 255 d l d_is) refl)))
address_digits (a ∷ b ∷ c ∷ d ∷ e ∷ parts) v is = absurd (cc)

no_colon : (b : ℕ) → ((b == 46) || is_ascii_digit b) ≡ true → is_colon b ≡ false
no_colon b h =
    elim (cases_eq b 58) [
      | inl colon ↦ absurd (let test : ((58 == 46) || is_ascii_digit 58) ≡ true = rw colon at h in cc)
      | inr other ↦ ne_eqb b 58 other
    ]

no_colons : (text : List ℕ) (v : ℕ) → address_of text ≡ Some v → All (λ b. is_colon b ≡ false) text
no_colons text v is =
    let dotted = AllPass-from_list_all (λ b. (b == 46) || is_ascii_digit b) text (parted (λ b. b == 46) is_ascii_digit text (address_digits (slice_split (λ b. b == 46) text) v is)) in
    λ i d inside. no_colon (get_or text i d) (dotted i d inside)

no_gap_found : (text : List ℕ) → All (λ b. is_colon b ≡ false) text → (o : Option ℕ) → gap_in text ≡ o → o ≡ None
no_gap_found text none None is = refl
no_gap_found text none (Some i) is =
    let found = position-Some (λ (pair : ℕ × ℕ). is_colon pair.0 && is_colon pair.1) (zip text (drop 1 text)) i (0, 0) is in
    let within : i < min (length text) (length (drop 1 text)) = rw length-zip at found.0 in
    let here : i < length text = omega arith in
    let next : i < length (drop 1 text) = omega arith in
    let pair = get_or-zip text (drop 1 text) i (0, 0) here next in
    let test : (is_colon (get_or text i 0) && is_colon (get_or (drop 1 text) i 0)) ≡ true = rw pair at found.1 in
    let colon : is_colon (get_or text i 0) ≡ true = (both_true _ _ test).0 in
    let other : is_colon (get_or text i 0) ≡ false = none i 0 here in
    absurd (cc)

one_group : (o : Option ℕ) → option_map number_of_groups (option_and_then all_eight (option_and_then (λ g. option_map (λ gs. g ∷ gs) (Some [])) o)) ≡ None
one_group None = refl
one_group (Some g) = refl

no_eight_groups : (text : List ℕ) → All (λ b. is_colon b ≡ false) text → option_map number_of_groups (option_and_then all_eight (groups_of text)) ≡ None
no_eight_groups [] none = refl
no_eight_groups (b ∷ bytes) none =
    ap (λ parts. option_map number_of_groups (option_and_then all_eight (each_group parts))) (slice_split_none is_colon (b ∷ bytes) none) ∙ one_group (group_of (b ∷ bytes))

-- an IPv4 address is no IPv6 address
no_address6 : (text : List ℕ) (v : ℕ) → address_of text ≡ Some v → address6_of text ≡ None
unfolding address6_of
no_address6 text v is =
    let none = no_colons text v is in
    ap (λ gap. option_map number_of_groups (groups_around gap text)) (no_gap_found text none (gap_in text) refl) ∙ no_eight_groups text none

mapped : {A B P : Type 0} (f : A → B) (o : Option A) (y : B) → option_map f o ≡ Some y → ((x : A) → o ≡ Some x → P) → P
mapped f None y is then = absurd (cc)
mapped f (Some x) y is then = then x refl

chained : {A B P : Type 0} (f : A → Option B) (o : Option A) (y : B) → option_and_then f o ≡ Some y → ((x : A) → o ≡ Some x → P) → P
chained f None y is then = absurd (cc)
chained f (Some x) y is then = then x refl

one_version_of_parts : (parts : List (List ℕ)) (p : ℕ × ℕ) → prefix_of_parts parts ≡ Some p → prefix6_of_parts parts ≡ None
one_version_of_parts [] p is = refl
one_version_of_parts (address ∷ []) p is = mapped _ (address_of address) p is λ v is. ap (option_map (λ a. (a, 128))) (no_address6 address v is)
one_version_of_parts (address ∷ bits ∷ []) p is =
    chained _ (address_of address) p is λ v is. ap (option_and_then (λ a. option_map (λ n. (a, n)) (number_of 3 128 bits))) (no_address6 address v is)
one_version_of_parts (address ∷ bits ∷ more ∷ parts) p is = refl

pub one_version : (text : List ℕ) (prefix bits : ℕ) → prefix_of text ≡ Some (prefix, bits) → prefix6_of text ≡ None
one_version text prefix bits is = one_version_of_parts (slice_split (λ b. b == 47) text) (prefix, bits) is
