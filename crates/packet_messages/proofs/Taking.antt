-- What is due on each row from some packet on.
use Rattle.std.proofs.Common.{◌≡◌, ◌≢◌, ◌<◌, ◌≤◌, ◌+◌, ◌%◌, ◌∙◌, ◌||◌, ℕ, zero, suc, List, [], ◌∷◌, length, map, drop, All, refl, arith, ap, sym, subst, ne_eqb}
use Rattle.std.proofs.Math.Nat.{mod-one}
use Rattle.std.proofs.lemmas.List.Elements.{All-head}
use mathlib.Core.Option.{some, some-injective}
use lib.ListN.{get_elem?}
use Rattle.merge_board.specs.Rule.{has, IsFit}
use Rattle.merge_board.specs.Ends.{Sized, MergerEnd}
use Rattle.packet_messages.specs.Messages.{PlainMessage, Fits, AllFit, Owing, first, rest}
use Rattle.packet_messages.specs.BoardRows.{each_rest}
use Rattle.packet_messages.specs.BoardSeats.{HasRoom, NoneFrom, IsTaking}
use Rattle.packet_messages.proofs.Giving.{has_next, goes_on}

-- nothing was taken
pub each_whole : {A : Type 0} (rows : List (List A)) → each_rest 0 rows ≡ rows
each_whole [] = refl
each_whole (row ∷ rows) = ap (λ y. row ∷ y) (each_whole rows)

-- after a row was taken
pub each_goes_on : {A : Type 0} (n : ℕ) (rows : List (List A)) → each_rest (n + 1) rows ≡ map rest (each_rest n rows)
each_goes_on n [] = refl
each_goes_on n (row ∷ rows) = ap (λ y. y ∷ each_rest (n + 1) rows) (goes_on n row) ∙ ap (λ y. rest (drop n row) ∷ y) (each_goes_on n rows)

packet_of : {A : Type 0} (n pids : ℕ) (rows : List (List A)) → 0 < length (each_rest n rows) → All (λ l. Owing l) (each_rest n rows) → All (λ row. length row ≤ pids) rows → n < pids
packet_of n pids [] lt owing long = absurd (omega arith)
packet_of {A} n pids (row ∷ rows) lt owing long =
    let this : n < length row = has_next n row (All-head (λ (l : List A). Owing l) (drop n row) (each_rest n rows) owing) in
    let within : length row ≤ pids = All-head (λ (l : List A). length l ≤ pids) row rows long in
    omega arith

-- if something is due from each branch, the next packet is one of the board's
pub has_packet : {A : Type 0} (n pids : ℕ) (rows now : List (List A)) → each_rest n rows ≡ now → 0 < length now → All (λ l. Owing l) now → All (λ row. length row ≤ pids) rows → n < pids
has_packet {A} n pids rows now is lt owing long =
    packet_of n pids rows (subst (λ (y : List (List A)). 0 < length y) (sym is) lt) (subst (λ (y : List (List A)). All (λ l. Owing l) y) (sym is) owing) long

-- each packet goes to the one merger
pub own_packet : {T : Type 0} (board : Sized) (seat : MergerEnd T) (branches next : ℕ) → IsTaking board seat branches next → next % board.mergers ≡ seat.merger
own_packet board seat branches next at = ap (λ m. next % m) at.room.one ∙ mod-one next ∙ sym at.only

none_else : (next : ℕ) (packets : List ℕ) → NoneFrom next packets → NoneFrom (next + 1) (next ∷ packets)
none_else next packets none p above =
    let other : next ≢ p = λ e. absurd (omega (arith, e, above)) in
    ap (λ b. b || has packets p) (ne_eqb next p other) ∙ none p (omega (arith, above))

-- the seat after it took this packet
pub goes_behind : {T : Type 0} (board : Sized) (old new : MergerEnd T) (branches next : ℕ) → IsTaking board old branches next → new.board ≡ old.board
    → new.merger ≡ old.merger → new.due ≡ old.due → new.done ≡ next ∷ old.done → IsTaking board new branches (next + 1)
goes_behind {T} board old new branches next was own role due done = record {
  own = own ∙ was.own;
  room = subst (λ (y : List (List T)). HasRoom board y) (sym due) was.room;
  each_branch = was.each_branch;
  only = role ∙ was.only;
  ahead = λ p above. ap (λ y. has y p) done ∙ none_else next old.done was.ahead p above;
}

begins : {P : Type 0} (n : ℕ) (row : List (PlainMessage P)) (d : PlainMessage P) → get_elem? row n ≡ some d → first (drop n row) ≡ d
begins zero [] d e = absurd (cc)
begins (suc n) [] d e = absurd (cc)
begins zero (x ∷ xs) d e = some-injective x d e
begins (suc n) (x ∷ xs) d e = begins n xs d e

-- a row of messages, one from each branch, each of which fits what is due for this packet
pub row_fits : {P : Type 0} (n : ℕ) (rows : List (List (PlainMessage P))) (row : List (PlainMessage P)) → length row ≡ length rows
    → ((b : ℕ) (x : PlainMessage P) → get_elem? row b ≡ some x → IsFit Fits rows b n x) → AllFit (map first (each_rest n rows)) row
unfolding AllFit
row_fits n [] [] same fits = tt
row_fits n [] (x ∷ xs) same fits = absurd (omega arith)
row_fits n (r ∷ rs) [] same fits = absurd (omega arith)
row_fits n (r ∷ rs) (x ∷ xs) same fits =
    let f = fits 0 x refl in (
      subst (λ d. Fits d x) (sym (begins n r f.0 f.1)) f.2,
      row_fits n rs xs (omega arith) (λ b y e. fits (suc b) y e),
    )
