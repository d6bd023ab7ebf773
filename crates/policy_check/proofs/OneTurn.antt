-- One turn.
use Rattle.std.proofs.Common.{◌≡◌, ℕ, zero, suc, ◌+◌, ◌-◌, ◌<◌, ◌≤◌, Bool, false, not, List, [], ◌∷◌, length, Some, None, refl, sym, ap, ◌∙◌, arith, slice_set, append_assoc, append-nil}
use Rattle.std.specs.Prelude.{◌++◌}
use Rattle.std.specs.List.{range_with_len}
use Rattle.std.specs.Option.{option_map_or}
use Rattle.std.proofs.lemmas.Grind.{common_steps}
use Rattle.std.proofs.lemmas.List.FromFn.{length-range_with_len}
use Rattle.policy_check.specs.Edges.{Edges}
use Rattle.policy_check.specs.Turns.{is_held, ready, without, taken, stuck}
use Rattle.policy_check.specs.Waiting.{is_up, waits}
use Rattle.policy_check.proofs.Ascending.{length-filter, length-without, find_inside, waits-set}

pub taken-some : (edge : Edges) (turns : ℕ) (waiting : List ℕ) (x : ℕ) → ready edge waiting ≡ Some x → taken edge (suc turns) waiting ≡ x ∷ taken edge turns (without x waiting)
unfolding taken
taken-some edge turns waiting x e = ap (λ o. option_map_or (λ x. x ∷ taken edge turns (without x waiting)) o []) e

pub stuck-some : (edge : Edges) (turns : ℕ) (waiting : List ℕ) (x : ℕ) → ready edge waiting ≡ Some x → stuck edge (suc turns) waiting ≡ stuck edge turns (without x waiting)
unfolding stuck
stuck-some edge turns waiting x e = ap (λ o. option_map_or (λ x. stuck edge turns (without x waiting)) o waiting) e

pub taken-none : (edge : Edges) (turns : ℕ) (waiting : List ℕ) → ready edge waiting ≡ None → taken edge turns waiting ≡ []
unfolding taken
taken-none edge zero waiting e = refl
taken-none edge (suc turns) waiting e = ap (λ o. option_map_or (λ x. x ∷ taken edge turns (without x waiting)) o []) e

pub stuck-none : (edge : Edges) (turns : ℕ) (waiting : List ℕ) → ready edge waiting ≡ None → stuck edge turns waiting ≡ waiting
unfolding stuck
stuck-none edge zero waiting e = refl
stuck-none edge (suc turns) waiting e = ap (λ o. option_map_or (λ x. stuck edge turns (without x waiting)) o waiting) e

-- after a turn fewer wait
pub fewer_wait : (edge : Edges) (flags : List Bool) (x : ℕ) → ready edge (waits flags) ≡ Some x → length (waits (slice_set flags x false)) < length (waits flags)
fewer_wait edge flags x e =
    rw (waits-set flags x) (length-without x (waits flags) (find_inside (λ x. not (is_held edge (waits flags) x)) (waits flags) x e))

-- with enough turns for all that wait, the one that is ready comes next
pub turn_taken : (edge : Edges) (flags : List Bool) (all done x : ℕ) → ready edge (waits flags) ≡ Some x → length (waits flags) ≤ all - done → taken edge (all - done) (waits flags) ≡ x ∷ taken edge (all - (done + 1)) (waits (slice_set flags x false))
turn_taken edge flags all done x e l =
    let fewer = fewer_wait edge flags x e in
    let turns : all - done ≡ suc (all - (done + 1)) = omega arith in
    rw turns (taken-some edge (all - (done + 1)) (waits flags) x e ∙ ap (λ w. x ∷ taken edge (all - (done + 1)) w) (sym (waits-set flags x)))

pub turn_stuck : (edge : Edges) (flags : List Bool) (all done x : ℕ) → ready edge (waits flags) ≡ Some x → length (waits flags) ≤ all - done → stuck edge (all - done) (waits flags) ≡ stuck edge (all - (done + 1)) (waits (slice_set flags x false))
turn_stuck edge flags all done x e l =
    let fewer = fewer_wait edge flags x e in
    let turns : all - done ≡ suc (all - (done + 1)) = omega arith in
    rw turns (stuck-some edge (all - (done + 1)) (waits flags) x e ∙ ap (λ w. stuck edge (all - (done + 1)) w) (sym (waits-set flags x)))

-- The turns so far: the functions of `order` were taken, and those of `now` still wait.
pub record HasTurned (edge : Edges) (start now : List Bool) (order : List ℕ) : Type 0 where
  pub front : order ++ taken edge (length start - length order) (waits now) ≡ taken edge (length start) (waits start)
  pub rest : stuck edge (length start - length order) (waits now) ≡ stuck edge (length start) (waits start)
  pub enough : length (waits now) ≤ length start - length order

length-waits : (flags : List Bool) → length (waits flags) ≤ length flags
unfolding waits
length-waits flags =
    let fewer = length-filter (is_up flags) (range_with_len 0 (length flags)) in
    omega (arith, length-range_with_len 0 (length flags))

pub HasTurned-start : (edge : Edges) (flags : List Bool) → HasTurned edge flags flags []
HasTurned-start edge flags = record {
  front = ap (λ n. taken edge n (waits flags)) (omega arith);
  rest = ap (λ n. stuck edge n (waits flags)) (omega arith);
  enough = omega (arith, length-waits flags);
}

pub HasTurned-turn : (edge : Edges) (start now : List Bool) (order : List ℕ) (x : ℕ) → HasTurned edge start now order → ready edge (waits now) ≡ Some x → HasTurned edge start (slice_set now x false) (order ++ x ∷ [])
HasTurned-turn edge start now order x h e =
    let fewer = fewer_wait edge now x e in
    let long : length (order ++ x ∷ []) ≡ length order + 1 = grind (arith, common_steps) in
    record {
      front = ap (λ n. (order ++ x ∷ []) ++ taken edge (length start - n) (waits (slice_set now x false))) long ∙ append_assoc order (x ∷ []) (taken edge (length start - (length order + 1)) (waits (slice_set now x false))) ∙ ap (λ t. order ++ t) (sym (turn_taken edge now (length start) (length order) x e h.enough)) ∙ h.front;
      rest = ap (λ n. stuck edge (length start - n) (waits (slice_set now x false))) long ∙ sym (turn_stuck edge now (length start) (length order) x e h.enough) ∙ h.rest;
      enough = omega (arith, h.enough);
    }

pub HasTurned-taken : (edge : Edges) (start now : List Bool) (order : List ℕ) → HasTurned edge start now order → ready edge (waits now) ≡ None → order ≡ taken edge (length start) (waits start)
HasTurned-taken edge start now order h e =
    sym (append-nil order) ∙ ap (λ t. order ++ t) (sym (taken-none edge (length start - length order) (waits now) e)) ∙ h.front

pub HasTurned-stuck : (edge : Edges) (start now : List Bool) (order : List ℕ) → HasTurned edge start now order → ready edge (waits now) ≡ None → waits now ≡ stuck edge (length start) (waits start)
HasTurned-stuck edge start now order h e = sym (stuck-none edge (length start - length order) (waits now) e) ∙ h.rest
