-- The options of an interface, one after the other.
use Rattle.std.proofs.Common.{◌≡◌, ◌≤◌, ◌<◌, ◌+◌, ◌%◌, ◌∙◌, ℕ, zero, suc, List, [], ◌∷◌, length, take, drop, refl, ap, sym, length-drop, arith, Bool, true, false}
use Rattle.std.specs.Prelude.{Option, Some, None, is_some, not, ◌⊎◌, nat_lt, ◌==◌, ◌&&◌, slice_index}
use Rattle.std.proofs.Common.{inl, inr}
use Rattle.std.specs.Option.{option_map, unwrap_or}
use Rattle.std.proofs.lemmas.Bool.{le-ltb, lt-ltb, eq-eqb}
use Rattle.std.proofs.lemmas.List.{drop-drop, get_or-take, get_or-drop, length-take-le}
use Rattle.capture_bytes.specs.declared.order.Endian.{Endian}
use Rattle.capture_bytes.specs.declared.order.Endian.TheVariants.{Big, Little}
use Rattle.capture_bytes.specs.Numbers.{number_at}
use Rattle.pcapng_io.specs.Options.{BlockOption, padded, options_within, options_of, resolution_among}
use Rattle.pcapng_io.proofs.Choices.{otherwise, chosen, other_same, not_equal}

-- a limit on the number of options doesn't matter if it is at least the number of bytes
enough : (n m : ℕ) (order : Endian) (bytes : List ℕ) → length bytes ≤ n → length bytes ≤ m → options_within n order bytes ≡ options_within m order bytes
enough zero zero order bytes p q = refl
enough zero (suc m) order [] p q = refl
enough zero (suc m) order (b ∷ bytes) p q = absurd (omega arith)
enough (suc n) zero order [] p q = refl
enough (suc n) zero order (b ∷ bytes) p q = absurd (omega arith)
enough (suc n) (suc m) order bytes p q =
    let size : ℕ = 4 + padded (number_at order 2 2 bytes) in
    other_same (length bytes == 0) _ _ _ (λ some.
    other_same (number_at order 2 0 bytes == 0) _ _ _ (λ more.
    other_same (nat_lt (length bytes) size) _ _ _ (λ fits.
    ap (option_map (λ more. record { code = number_at order 2 0 bytes; value = take (number_at order 2 2 bytes) (drop 4 bytes) } ∷ more))
    (enough n m order (drop size bytes) (omega (arith, p, length-drop size bytes)) (omega (arith, q, length-drop size bytes))))))

-- one option more than bytes
one_more : (order : Endian) (bytes : List ℕ) → options_of order bytes ≡ options_within (suc (length bytes)) order bytes
unfolding options_of
one_more order bytes = enough (length bytes) (suc (length bytes)) order bytes (omega arith) (omega arith)

pub options_end : (order : Endian) (bytes : List ℕ) → length bytes ≡ 0 → options_of order bytes ≡ Some []
options_end order bytes none = one_more order bytes ∙ chosen (length bytes == 0) _ _ (eq-eqb (length bytes) 0 none)

pub options_stop : (order : Endian) (bytes : List ℕ) → 0 < length bytes → number_at order 2 0 bytes ≡ 0 → options_of order bytes ≡ Some []
options_stop order bytes some code =
    one_more order bytes ∙ otherwise (length bytes == 0) _ _ (not_equal (length bytes) 0 (λ h. omega arith)) ∙ chosen (number_at order 2 0 bytes == 0) _ _ (eq-eqb (number_at order 2 0 bytes) 0 code)

pub options_over : (order : Endian) (bytes : List ℕ) → 0 < length bytes → 0 < number_at order 2 0 bytes → length bytes < 4 + padded (number_at order 2 2 bytes) → options_of order bytes ≡ None
options_over order bytes some code over =
    one_more order bytes ∙ otherwise (length bytes == 0) _ _ (not_equal (length bytes) 0 (λ h. omega arith)) ∙ otherwise (number_at order 2 0 bytes == 0) _ _ (not_equal (number_at order 2 0 bytes) 0 (λ h. omega arith))
    ∙ chosen (nat_lt (length bytes) (4 + padded (number_at order 2 2 bytes))) _ _ (lt-ltb (length bytes) (4 + padded (number_at order 2 2 bytes)) over)

-- the option at the front
abbrev first_option : Endian → List ℕ → BlockOption
first_option order bytes = record { code = number_at order 2 0 bytes; value = take (number_at order 2 2 bytes) (drop 4 bytes) }

pub options_next : (order : Endian) (bytes : List ℕ) → 0 < length bytes → 0 < number_at order 2 0 bytes → 4 + padded (number_at order 2 2 bytes) ≤ length bytes →
    options_of order bytes ≡ option_map (λ more. first_option order bytes ∷ more) (options_of order (drop (4 + padded (number_at order 2 2 bytes)) bytes))
unfolding options_of
options_next order bytes some code fits =
    let size : ℕ = 4 + padded (number_at order 2 2 bytes) in
    one_more order bytes ∙ otherwise (length bytes == 0) _ _ (not_equal (length bytes) 0 (λ h. omega arith)) ∙ otherwise (number_at order 2 0 bytes == 0) _ _ (not_equal (number_at order 2 0 bytes) 0 (λ h. omega arith))
    ∙ otherwise (nat_lt (length bytes) size) _ _ (le-ltb (length bytes) size fits)
    ∙ ap (option_map (λ more. first_option order bytes ∷ more)) (enough (length bytes) (length (drop size bytes)) order (drop size bytes) (omega (arith, length-drop size bytes)) (omega arith))

-- the resolution of options after others that may have given it
abbrev pub known : Option ℕ → List BlockOption → ℕ
known None options = resolution_among options
known (Some r) options = r

-- the search has reached this place
pub record Searching (order : Endian) (bytes : List ℕ) (at : ℕ) (found : Option ℕ) : Type 0 where
  pub within : at ≤ length bytes
  pub aligned : at % 4 ≡ 0
  pub same : option_map resolution_among (options_of order bytes) ≡ option_map (known found) (options_of order (drop at bytes))

code_at : (order : Endian) (at : ℕ) (bytes : List ℕ) → number_at order 2 at bytes ≡ number_at order 2 0 (drop at bytes)
code_at Big at bytes = refl
code_at Little at bytes = refl

size_at : (order : Endian) (at : ℕ) (bytes : List ℕ) → number_at order 2 (at + 2) bytes ≡ number_at order 2 2 (drop at bytes)
size_at order at bytes = code_at order (at + 2) bytes ∙ ap (number_at order 2 0) (sym (drop-drop 2 at bytes)) ∙ sym (code_at order 2 (drop at bytes))

-- what the search gives if the list of options ends
pub known_end : (found : Option ℕ) → unwrap_or found 6 ≡ known found []
known_end None = refl
known_end (Some r) = refl

-- an option says nothing new if another gave the resolution, if its code is another, or its length
pub may_pass : (found : Option ℕ) (unknown : Bool) (code size : ℕ) → is_some found ≡ not unknown →
    ((unknown ≡ true) × (code ≡ 9) × (size ≡ 1 → ⊥)) ⊎ (((unknown ≡ true) × (code ≡ 9 → ⊥)) ⊎ (unknown ≡ false)) → found ≡ None → code ≡ 9 → size ≡ 1 → ⊥
may_pass found unknown code size is (inl x) none nine one = x.2 one
may_pass found unknown code size is (inr (inl x)) none nine one = x.1 nine
may_pass found unknown code size is (inr (inr told)) none nine one = let e : false ≡ true = sym (ap is_some none) ∙ is ∙ ap not told in absurd cc

pub is_unknown : (found : Option ℕ) → is_some found ≡ false → found ≡ None
is_unknown None is = refl
is_unknown (Some r) is = absurd cc

left_some : (at : ℕ) (bytes : List ℕ) → at < length bytes → 0 < length (drop at bytes)
left_some at bytes less = omega (arith, length-drop at bytes)

pub search_stops : (order : Endian) (bytes : List ℕ) (at : ℕ) (found : Option ℕ) → Searching order bytes at found → at < length bytes → number_at order 2 at bytes ≡ 0 →
    option_map resolution_among (options_of order bytes) ≡ Some (known found [])
search_stops order bytes at found so_far less code =
    so_far.same ∙ ap (option_map (known found)) (options_stop order (drop at bytes) (left_some at bytes less) (sym (code_at order at bytes) ∙ code))

pub search_ends : (order : Endian) (bytes : List ℕ) (at : ℕ) (found : Option ℕ) → Searching order bytes at found → length bytes ≤ at → option_map resolution_among (options_of order bytes) ≡ Some (known found [])
search_ends order bytes at found so_far all = so_far.same ∙ ap (option_map (known found)) (options_end order (drop at bytes) (omega (arith, length-drop at bytes)))

pub search_over : (order : Endian) (bytes : List ℕ) (at : ℕ) (found : Option ℕ) → Searching order bytes at found → at < length bytes → 0 < number_at order 2 at bytes →
    length bytes < at + 4 + padded (number_at order 2 (at + 2) bytes) → option_map resolution_among (options_of order bytes) ≡ None
search_over order bytes at found so_far less code over =
    so_far.same ∙ ap (option_map (known found)) (options_over order (drop at bytes) (left_some at bytes less) (omega (arith, code, code_at order at bytes))
    (let e : padded (number_at order 2 2 (drop at bytes)) ≡ padded (number_at order 2 (at + 2) bytes) = ap padded (sym (size_at order at bytes)) in omega (arith, over, e, length-drop at bytes)))

-- one option further
map_twice : (f g : List BlockOption → ℕ) (o : BlockOption) (x : Option (List BlockOption)) → ((more : List BlockOption) → f (o ∷ more) ≡ g more) → option_map f (option_map (λ more. o ∷ more) x) ≡ option_map g x
map_twice f g o None h = refl
map_twice f g o (Some more) h = ap (λ n. Some n) (h more)

further : (order : Endian) (bytes : List ℕ) (at : ℕ) (found found' : Option ℕ) → Searching order bytes at found → at < length bytes → 0 < number_at order 2 at bytes →
    at + 4 + padded (number_at order 2 (at + 2) bytes) ≤ length bytes → ((more : List BlockOption) → known found (first_option order (drop at bytes) ∷ more) ≡ known found' more) →
    Searching order bytes (at + 4 + padded (number_at order 2 (at + 2) bytes)) found'
further order bytes at found found' so_far less code fits step =
    let size : padded (number_at order 2 2 (drop at bytes)) ≡ padded (number_at order 2 (at + 2) bytes) = ap padded (sym (size_at order at bytes)) in
    record {
      within = fits;
      aligned = omega (arith, so_far.aligned);
      same = so_far.same ∙ ap (option_map (known found)) (options_next order (drop at bytes) (left_some at bytes less) (omega (arith, code, code_at order at bytes)) (omega (arith, fits, size, length-drop at bytes)))
          ∙ map_twice (known found) (known found') (first_option order (drop at bytes)) _ step
          ∙ ap (λ l. option_map (known found') (options_of order l)) (drop-drop (4 + padded (number_at order 2 2 (drop at bytes))) at bytes ∙ ap (λ n. drop n bytes) (let e : at + (4 + padded (number_at order 2 2 (drop at bytes))) ≡ at + 4 + padded (number_at order 2 (at + 2) bytes) = omega (arith, size) in e));
    }

-- an option that gives no resolution, or gives it too late
pub search_passes : (order : Endian) (bytes : List ℕ) (at : ℕ) (found : Option ℕ) → Searching order bytes at found → at < length bytes → 0 < number_at order 2 at bytes →
    at + 4 + padded (number_at order 2 (at + 2) bytes) ≤ length bytes → (found ≡ None → number_at order 2 at bytes ≡ 9 → number_at order 2 (at + 2) bytes ≡ 1 → ⊥) →
    Searching order bytes (at + 4 + padded (number_at order 2 (at + 2) bytes)) found
search_passes order bytes at found so_far less code fits other = further order bytes at found found so_far less code fits (step found other)
  where
    value_size : length (take (number_at order 2 2 (drop at bytes)) (drop 4 (drop at bytes))) ≡ number_at order 2 2 (drop at bytes)
    value_size = length-take-le (number_at order 2 2 (drop at bytes)) (drop 4 (drop at bytes)) (omega (arith, fits, size_at order at bytes, length-drop 4 (drop at bytes), length-drop at bytes))

    step : (found : Option ℕ) → (found ≡ None → number_at order 2 at bytes ≡ 9 → number_at order 2 (at + 2) bytes ≡ 1 → ⊥) → (more : List BlockOption) → known found (first_option order (drop at bytes) ∷ more) ≡ known found more
    step (Some r) other more = refl
    step None other more = otherwise _ _ _ (is_other (number_at order 2 0 (drop at bytes)) (length (take (number_at order 2 2 (drop at bytes)) (drop 4 (drop at bytes))))
        (λ h k. other refl (code_at order at bytes ∙ h) (size_at order at bytes ∙ sym value_size ∙ k)))
      where
        is_other : (a b : ℕ) → (a ≡ 9 → b ≡ 1 → ⊥) → ((a == 9) && (b == 1)) ≡ false
        is_other a b h = by (a == 9) refl
          where
            by : (x : Bool) → (a == 9) ≡ x → (x && (b == 1)) ≡ false
            by false is = refl
            by true is = not_equal b 1 (λ one. h (Rattle.std.proofs.lemmas.Bool.eqb-true a 9 is) one)

-- the first option that gives it
pub search_finds : (order : Endian) (bytes : List ℕ) (at : ℕ) → Searching order bytes at None → at < length bytes → number_at order 2 at bytes ≡ 9 → number_at order 2 (at + 2) bytes ≡ 1 →
    at + 4 + padded (number_at order 2 (at + 2) bytes) ≤ length bytes → Searching order bytes (at + 4 + padded (number_at order 2 (at + 2) bytes)) (Some (slice_index bytes (at + 4)))
search_finds order bytes at so_far less code one fits =
    further order bytes at None (Some (slice_index bytes (at + 4))) so_far less (omega (arith, code)) fits (λ more. chosen _ _ _ is_told ∙ value)
  where
    size_1 : number_at order 2 2 (drop at bytes) ≡ 1
    size_1 = sym (size_at order at bytes) ∙ one

    value_size : length (take (number_at order 2 2 (drop at bytes)) (drop 4 (drop at bytes))) ≡ 1
    value_size = length-take-le (number_at order 2 2 (drop at bytes)) (drop 4 (drop at bytes)) (omega (arith, fits, size_at order at bytes, length-drop 4 (drop at bytes), length-drop at bytes)) ∙ size_1

    is_told : ((number_at order 2 0 (drop at bytes) == 9) && (length (take (number_at order 2 2 (drop at bytes)) (drop 4 (drop at bytes))) == 1)) ≡ true
    is_told = rw (eq-eqb (number_at order 2 0 (drop at bytes)) 9 (sym (code_at order at bytes) ∙ code), eq-eqb _ 1 value_size) refl

    value : slice_index (take (number_at order 2 2 (drop at bytes)) (drop 4 (drop at bytes))) 0 ≡ slice_index bytes (at + 4)
    value = ap (λ n. slice_index (take n (drop 4 (drop at bytes))) 0) size_1 ∙ get_or-take 1 (drop 4 (drop at bytes)) 0 0 (omega arith) ∙ ap (λ l. slice_index l 0) (drop-drop 4 at bytes)
        ∙ get_or-drop (at + 4) bytes 0 0 ∙ ap (λ n. slice_index bytes n) (let e : at + 4 + 0 ≡ at + 4 = omega arith in e)
