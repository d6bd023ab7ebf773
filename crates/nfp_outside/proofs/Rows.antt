-- Worked rows: the relations for a few bytes.
use Rattle.std.proofs.Common.{◌≡◌, ◌-◌, ◌^◌, ℕ, List, [], ◌∷◌, refl, arith}
use Rattle.std.specs.Prelude.{Some, None}
use Rattle.nfp_outside.specs.declared.slot.Slot.TheVariants.{Out, Policy}
use Rattle.nfp_outside.specs.Outside.{SlotView, Attaches, Reads, Writes, ReadsTooMuch, one_more}
use Rattle.nfp_outside.specs.Memory.{moved}
use Rattle.nfp_outside.specs.Weights.{weight_of, sum_from, heavier}

-- a slot named "p" with these bytes
abbrev holding : List ℕ → SlotView
holding bytes = record { name = Some (112 ∷ []); bytes = Some bytes; weight = None; faults = 0 }

-- two of three bytes are read into a buffer of three
two_of_three : Reads 2 (1 ∷ 2 ∷ 9 ∷ []) (holding (1 ∷ 2 ∷ 3 ∷ [])) (holding (3 ∷ []))
two_of_three = record {
  within = omega arith;
  same_name = refl;
  same_weight = refl;
  told = record { some_left = omega arith; front = refl; rest = refl; end_only = λ none room. absurd (omega (arith, none)) };
}

-- four bytes if at most two are allowed: three are taken
one_too_many : ReadsTooMuch 2 (holding (1 ∷ 2 ∷ 3 ∷ 4 ∷ [])) (holding (4 ∷ []))
one_too_many = (omega arith, refl)

-- one byte of two is appended after the seven that is there
one_of_two : Writes 1 (8 ∷ 9 ∷ []) (holding (7 ∷ [])) (holding (7 ∷ 8 ∷ []))
one_of_two = record { within = omega arith; some_taken = λ _. omega arith; appended = record { same_name = refl; content = refl; weighs = refl } }

-- a write slot is made empty as it gets its name, and a read slot isn't
emptied : Attaches Out (112 ∷ []) (record { name = Some []; bytes = Some (7 ∷ []); weight = None; faults = 0 }) (holding [])
emptied = record { named = refl; content = refl; weighs = refl }

kept : Attaches Policy (112 ∷ []) (record { name = Some []; bytes = Some (7 ∷ []); weight = None; faults = 0 }) (holding (7 ∷ []))
kept = record { named = refl; content = refl; weighs = refl }

-- a count stays at the end of its type
at_the_end : one_more (2 ^ 64 - 1) ≡ 2 ^ 64 - 1
at_the_end = refl

-- a read moves no more than the step, the bytes that remain and the room
least_of_three : (moved 3 (1 ∷ 2 ∷ 3 ∷ 4 ∷ 5 ∷ []) 4 ≡ 3) × (moved 9 (1 ∷ 2 ∷ []) 4 ≡ 2) × (moved 9 (1 ∷ 2 ∷ 3 ∷ []) 1 ≡ 1)
least_of_three = (refl, refl, refl)

-- three bytes weigh 1·5 + 2·6 + 3·7, and the places continue if more are put
weighs_three : weight_of (5 ∷ 6 ∷ 7 ∷ []) ≡ record { bytes = 3; sum = 38 }
unfolding sum_from
weighs_three = refl

weighs_more : heavier (7 ∷ []) (weight_of (5 ∷ 6 ∷ [])) ≡ record { bytes = 3; sum = 38 }
unfolding heavier sum_from
weighs_more = refl

-- a weight wraps at 2^64
goes_round : heavier (3 ∷ []) (record { bytes = 1; sum = 2 ^ 64 - 4 }) ≡ record { bytes = 2; sum = 2 }
unfolding heavier
goes_round = refl
