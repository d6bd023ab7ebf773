-- The number of an IPv6 address from the groups on both sides of `::`.
use Rattle.std.proofs.Common.{◌≡◌, ◌<◌, ◌≤◌, ◌+◌, ◌-◌, ◌*◌, ◌^◌, ◌∙◌, ℕ, List, ◌∷◌, ◌++◌, [], length, zero, suc, true, Some, None, sym, ap, arith, fold, replicate, lit≤}
use Rattle.std.specs.Prelude.{Option, nat_le, bit_or}
use Rattle.std.specs.Option.{option_map, option_and_then}
use Rattle.std.proofs.Math.Nat.{pow-le-pow_right, mul_assoc}
use Rattle.std.proofs.lemmas.Bool.{le-leb, leb-true}
use Rattle.std.proofs.lemmas.List.Sums.{fold-append}
use Rattle.std.proofs.lemmas.Nat.{pow-add, or_shifted}
use Rattle.std.proofs.lemmas.Option.{cond_some}
use Rattle.policy_text.specs.declared.value6.Groups.{Groups}
use Rattle.policy_text.specs.Addresses6.{with_zeros, number_of_groups}
use Rattle.policy_text.specs.Groups.{IsNarrow, packed}

-- the groups that were read are these
record IsPacked (groups : List ℕ) (read : Groups) : Type 0 where
  few : length groups ≤ 8
  count_is : read.count ≡ length groups
  value_is : read.value ≡ number_of_groups groups

packed_as : (groups : List ℕ) (read : Groups) → packed groups ≡ Some read → IsPacked groups read
packed_as groups read is =
    let h = cond_some _ _ _ is in
    record {
      few = leb-true _ _ h.0;
      count_is = ap (λ (g : Groups). g.count) (sym h.1);
      value_is = ap (λ (g : Groups). g.value) (sym h.1);
    }

abbrev shift : ℕ → ℕ → ℕ
shift high group = high * 65536 + group

wider : (n : ℕ) → 2 ^ (16 * suc n) ≡ 65536 * 2 ^ (16 * n)
wider n =
    let bits : 16 * suc n ≡ 16 + 16 * n = omega arith in
    ap (λ k. 2 ^ k) bits ∙ pow-add 2 16 (16 * n)

regroup : (high g p n : ℕ) → (high * 65536 + g) * p + n ≡ high * (65536 * p) + ((0 + g) * p + n)
regroup high g p n = omega arith

-- groups after others
fold_after : (high : ℕ) (groups : List ℕ) → fold shift high groups ≡ high * 2 ^ (16 * length groups) + number_of_groups groups
fold_after high [] = omega arith
fold_after high (g ∷ gs) =
    fold_after (high * 65536 + g) gs ∙ regroup high g (2 ^ (16 * length gs)) (number_of_groups gs) ∙
    ap (λ p. high * p + ((0 + g) * 2 ^ (16 * length gs) + number_of_groups gs)) (sym (wider (length gs))) ∙
    ap (λ n. high * 2 ^ (16 * suc (length gs)) + n) (sym (fold_after (0 + g) gs))

regroup_zero : (high p : ℕ) → (high * 65536 + 0) * p ≡ high * (65536 * p)
regroup_zero high p = omega arith

fold_zeros : (n high : ℕ) → fold shift high (replicate n 0) ≡ high * 2 ^ (16 * n)
fold_zeros zero high = omega arith
fold_zeros (suc n) high = fold_zeros n (high * 65536 + 0) ∙ regroup_zero high (2 ^ (16 * n)) ∙ ap (λ p. high * p) (sym (wider n))

-- groups of zero between others
number_around : (front back : List ℕ) (zeros : ℕ) → number_of_groups (front ++ replicate zeros 0 ++ back) ≡ number_of_groups front * 2 ^ (16 * (zeros + length back)) + number_of_groups back
number_around front back zeros =
    let bits : 16 * (zeros + length back) ≡ 16 * zeros + 16 * length back = omega arith in
    let powers : 2 ^ (16 * (zeros + length back)) ≡ 2 ^ (16 * zeros) * 2 ^ (16 * length back) = ap (λ k. 2 ^ k) bits ∙ pow-add 2 (16 * zeros) (16 * length back) in
    fold-append shift 0 (front ++ replicate zeros 0) back ∙
    ap (λ h. fold shift h back) (fold-append shift 0 front (replicate zeros 0) ∙ fold_zeros zeros (number_of_groups front)) ∙
    fold_after (number_of_groups front * 2 ^ (16 * zeros)) back ∙
    ap (λ p. p + number_of_groups back) (mul_assoc (number_of_groups front) (2 ^ (16 * zeros)) (2 ^ (16 * length back)) ∙ ap (λ p. number_of_groups front * p) (sym powers))

-- the groups on both sides of `::`
pub gap_filled : (front back : Option (List ℕ)) (f b : Groups) → option_and_then packed front ≡ Some f → option_and_then packed back ≡ Some b → IsNarrow b → f.count + b.count < 8 →
    Some (bit_or (f.value * 2 ^ (16 * (8 - f.count))) b.value) ≡ option_map number_of_groups (option_and_then (λ f. option_and_then (with_zeros f) back) front)
gap_filled None back f b front_is back_is narrow room = absurd (cc)
gap_filled (Some front) None f b front_is back_is narrow room = absurd (cc)
gap_filled (Some front) (Some back) f b front_is back_is narrow room =
    let p = packed_as front f front_is in
    let q = packed_as back b back_is in
    let few : length front + length back ≤ 7 = omega (arith, p.count_is, q.count_is) in
    let zeros : 8 - (length front + length back) + length back ≡ 8 - f.count = omega (arith, p.count_is) in
    let bits : 16 * b.count ≤ 16 * (8 - f.count) = omega arith in
    let wide : 2 ^ (16 * b.count) ≤ 2 ^ (16 * (8 - f.count)) = pow-le-pow_right (lit≤ tt) bits in
    let small : b.value < 2 ^ (16 * (8 - f.count)) = omega (arith, narrow.narrow, wide) in
    let test : nat_le (length front + length back) 7 ≡ true = le-leb _ _ few in
    rw test (ap Some (
    or_shifted f.value (16 * (8 - f.count)) b.value small ∙
    ap (λ v. v * 2 ^ (16 * (8 - f.count)) + b.value) p.value_is ∙
    ap (λ v. number_of_groups front * 2 ^ (16 * (8 - f.count)) + v) q.value_is ∙
    ap (λ n. number_of_groups front * 2 ^ (16 * n) + number_of_groups back) (sym zeros) ∙
    sym (number_around front back (8 - (length front + length back)))
    ))
