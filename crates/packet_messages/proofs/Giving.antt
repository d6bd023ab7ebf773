-- What is due on a row from some packet on.
use Rattle.std.proofs.Common.{◌≡◌, ◌<◌, ◌+◌, ◌∙◌, ℕ, zero, suc, List, [], ◌∷◌, length, drop, refl, arith, ap, sym, subst, length-drop}
use mathlib.Core.Option.{some}
use lib.ListN.{get_elem?}
use Rattle.merge_board.specs.Rule.{due_at, IsFit}
use Rattle.packet_messages.specs.Messages.{PlainMessage, Fits, Owing, first, rest}
use Rattle.packet_messages.specs.BoardRows.{row_of}

-- if something is due from a packet on, the row has this packet
pub has_next : {A : Type 0} (next : ℕ) (row : List A) → Owing (drop next row) → next < length row
has_next next row owing = omega (arith, owing, length-drop next row)

next_is : {P : Type 0} (next : ℕ) (row : List (PlainMessage P)) → next < length row → get_elem? row next ≡ some (first (drop next row))
next_is zero [] here = absurd (omega arith)
next_is (suc next) [] here = absurd (omega arith)
next_is zero (x ∷ xs) here = refl
next_is (suc next) (x ∷ xs) here = next_is next xs (omega arith)

drop_suc : {A : Type 0} (next : ℕ) (row : List A) → drop (suc next) row ≡ rest (drop next row)
drop_suc zero [] = refl
drop_suc (suc next) [] = refl
drop_suc zero (x ∷ xs) = refl
drop_suc (suc next) (x ∷ xs) = drop_suc next xs

-- what is due after the next packet
pub goes_on : {A : Type 0} (next : ℕ) (row : List A) → drop (next + 1) row ≡ rest (drop next row)
goes_on next row =
    let more : next + 1 ≡ suc next = omega arith in
    ap (λ n. drop n row) more ∙ drop_suc next row

due_in_row : {T : Type 0} (rows : List (List T)) (b p : ℕ) → due_at rows b p ≡ get_elem? (row_of rows b) p
due_in_row [] b p = refl
due_in_row (row ∷ rows) zero p = refl
due_in_row (row ∷ rows) (suc b) p = due_in_row rows b p

-- what fits the first due message fits what is due from the branch for the next packet
pub fits_next : {P : Type 0} (next b : ℕ) (rows : List (List (PlainMessage P))) (now : List (PlainMessage P)) (x y : PlainMessage P) → drop next (row_of rows b) ≡ now → Owing now
    → Fits (first now) x → y ≡ x → IsFit Fits rows b next y
fits_next next b rows now x y is owing fits same =
    let here : next < length (row_of rows b) = has_next next (row_of rows b) (subst (λ z. Owing z) (sym is) owing) in (
      first now,
      due_in_row rows b next ∙ next_is next (row_of rows b) here ∙ ap (λ z. some (first z)) is,
      subst (Fits (first now)) (sym same) fits,
    )
