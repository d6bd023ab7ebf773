-- The ends of a board, made one after another.
use Rattle.std.proofs.Common.{◌≡◌, ◌<◌, ◌≤◌, ◌+◌, ◌∙◌, ℕ, zero, suc, List, [], ◌∷◌, ◌++◌, length, drop, drop-cons, slice_index_or, refl, arith, ap, sym, subst}
use Rattle.std.proofs.lemmas.List.Elements.{All-get_or}
use Rattle.merge_board.specs.Rule.{has}
use Rattle.merge_board.specs.Ends.{Sized, BranchEnd, MergerEnd, each, new_branch, new_merger}
use Rattle.packet_messages.specs.BoardRows.{row_of}
use Rattle.packet_messages.specs.BoardSeats.{HasRoom, IsGiving, IsTaking}

-- this number in a row, from number `i` on
unfoldable pub numbered : {S : Type 0} → (ℕ → S) → ℕ → ℕ → List S
numbered made i zero = []
numbered made i (suc c) = made i ∷ numbered made (suc i) c

numbered_last : {S : Type 0} (made : ℕ → S) (i c : ℕ) → numbered made i c ++ made (i + c) ∷ [] ≡ numbered made i (suc c)
unfolding numbered
numbered_last made i zero = let same : i + 0 ≡ i = omega arith in ap (λ k. made k ∷ []) same
numbered_last made i (suc c) =
    let same : i + suc c ≡ suc i + c = omega arith in
    ap (λ y. made i ∷ y) (ap (λ k. numbered made (suc i) c ++ made k ∷ []) same ∙ numbered_last made (suc i) c)

each_numbered : {S : Type 0} (made : ℕ → S) (n : ℕ) → each made n ≡ numbered made 0 n
unfolding numbered
each_numbered made zero = refl
each_numbered made (suc n) =
    let same : n ≡ 0 + n = omega arith in
    ap (λ y. y ++ made n ∷ []) (each_numbered made n) ∙ ap (λ k. numbered made 0 n ++ made k ∷ []) same ∙ numbered_last made 0 n

-- the first of them, and the others
pub record Next {S : Type 0} (made : ℕ → S) (i c : ℕ) (s : S) (ss : List S) : Type 0 where
  pub left : ℕ
  pub count : c ≡ suc left
  pub first_is : s ≡ made i
  pub others : ss ≡ numbered made (i + 1) left

next_of : {S : Type 0} (made : ℕ → S) (i c : ℕ) (s : S) (ss seats : List S) → seats ≡ numbered made i c → seats ≡ s ∷ ss → Next made i c s ss
unfolding numbered
next_of made i zero s ss seats is e = absurd (cc)
next_of made i (suc c) s ss seats is e =
    let same : suc i ≡ i + 1 = omega arith in
    let others : ss ≡ numbered made (suc i) c = cc in record {
      left = c;
      count = refl;
      first_is = cc;
      others = others ∙ ap (λ k. numbered made k c) same;
    }

none_of : {S : Type 0} (made : ℕ → S) (i c : ℕ) (seats : List S) → seats ≡ numbered made i c → seats ≡ [] → c ≡ 0
unfolding numbered
none_of made i zero seats is e = refl
none_of made i (suc c) seats is e = absurd (cc)

shift : {A : Type 0} (xs : List A) (x : A) (ys : List A) → (xs ++ x ∷ []) ++ ys ≡ xs ++ x ∷ ys
shift [] x ys = refl
shift (z ∷ zs) x ys = ap (λ y. z ∷ y) (shift zs x ys)

nothing_more : {A : Type 0} (xs : List A) → xs ++ [] ≡ xs
nothing_more [] = refl
nothing_more (x ∷ xs) = ap (λ y. x ∷ y) (nothing_more xs)

drop_all : {A : Type 0} (n : ℕ) (xs : List A) → length xs ≤ n → drop n xs ≡ []
drop_all zero [] le = refl
drop_all (suc n) [] le = refl
drop_all zero (x ∷ xs) le = absurd (omega arith)
drop_all (suc n) (x ∷ xs) le = drop_all n xs (omega arith)

pub none_left : {A : Type 0} (n : ℕ) (xs : List A) → n ≡ 0 → length xs ≡ n → xs ≡ []
none_left n [] z e = refl
none_left n (x ∷ xs) z e = absurd (omega arith)

module _ {T : Type 0} (board : Sized) (due : List (List T)) where
  -- the outlets of this number of branches are made, and these seats are left
  pub record OutletsSoFar (seats : List (BranchEnd T)) (outlets : List (List T)) : Type 0 where
    pub next : ℕ
    pub left : ℕ
    pub of_board : seats ≡ numbered (new_branch board.board due) next left
    pub count : next + left ≡ length due
    pub so_far : outlets ++ drop next due ≡ due

  pub outlets_begin : (seats : List (BranchEnd T)) (outlets : List (List T)) → HasRoom board due → seats ≡ each (new_branch board.board due) board.branches → outlets ≡ []
      → OutletsSoFar seats outlets
  outlets_begin seats outlets room is none = record {
    next = 0;
    left = board.branches;
    of_board = is ∙ each_numbered (new_branch board.board due) board.branches;
    count = omega (arith, room.rows);
    so_far = ap (λ y. y ++ due) none;
  }

  -- the next seat, and what holds after its outlets are made
  pub record BranchTurn (seats : List (BranchEnd T)) (s : BranchEnd T) (ss : List (BranchEnd T)) (outlets : List (List T)) : Type 0 where
    pub giving : (b : Sized) → b ≡ board → IsGiving b s 0
    pub made : (more : List (List T)) → more ≡ outlets ++ row_of s.due s.branch ∷ [] → OutletsSoFar ss more

  pub branch_turn : (seats : List (BranchEnd T)) (s : BranchEnd T) (ss : List (BranchEnd T)) (outlets : List (List T)) → HasRoom board due
      → OutletsSoFar seats outlets → seats ≡ s ∷ ss → BranchTurn seats s ss outlets
  branch_turn seats s ss outlets room was e =
      let t = next_of (new_branch board.board due) was.next was.left s ss seats was.of_board e in
      let here : was.next < length due = omega (arith, t.count, was.count) in
      let row : row_of s.due s.branch ≡ row_of due was.next = ap (λ (x : BranchEnd T). row_of x.due x.branch) t.first_is in
      let long : length (row_of due was.next) ≤ board.pids = All-get_or (λ (l : List T). length l ≤ board.pids) due was.next [] here room.long in
      let more : suc was.next ≡ was.next + 1 = omega arith in record {
        giving = λ b same. record {
          own = ap (λ (x : BranchEnd T). x.board) t.first_is ∙ sym (ap (λ (x : Sized). x.board) same);
          long = omega (arith, long, ap length row, ap (λ (x : Sized). x.pids) same);
          few = omega (arith, room.few, ap (λ (x : Sized). x.pids) same);
          ahead = λ p above. ap (λ (x : BranchEnd T). has x.put p) t.first_is;
          all = ap (λ (x : BranchEnd T). length x.put) t.first_is;
        };
        made = λ ends is. record {
          next = was.next + 1;
          left = t.left;
          of_board = t.others;
          count = omega (arith, t.count, was.count);
          so_far =
              ap (λ y. y ++ drop (was.next + 1) due) (is ∙ ap (λ y. outlets ++ y ∷ []) row)
              ∙ shift outlets (row_of due was.next) (drop (was.next + 1) due)
              ∙ sym (ap (λ y. outlets ++ y) (drop-cons due was.next [] here ∙ ap (λ k. row_of due was.next ∷ drop k due) more))
              ∙ was.so_far;
        };
      }

  pub outlets_end : (seats : List (BranchEnd T)) (outlets : List (List T)) → OutletsSoFar seats outlets → seats ≡ [] → outlets ≡ due
  outlets_end seats outlets was none =
      let over = none_of (new_branch board.board due) was.next was.left seats was.of_board none in
      sym (nothing_more outlets) ∙ sym (ap (λ y. outlets ++ y) (drop_all was.next due (omega (arith, over, was.count)))) ∙ was.so_far

  pub one_seat : (seats : List (MergerEnd T)) → seats ≡ each (new_merger board.board due) 1 → length seats ≡ 1
  one_seat seats is = ap length is

  pub first_seat : (s : MergerEnd T) (seats : List (MergerEnd T)) → seats ≡ each (new_merger board.board due) 1 → s ≡ slice_index_or seats 0 s → s ≡ new_merger board.board due 0
  first_seat s seats is at = at ∙ ap (λ y. slice_index_or y 0 s) is

  -- the seat of the one merger, which has taken nothing
  pub only_taking : (s : MergerEnd T) (branches : ℕ) → HasRoom board due → s ≡ new_merger board.board due 0 → branches ≡ board.branches → IsTaking board s branches 0
  only_taking s branches room is same = record {
    own = ap (λ (x : MergerEnd T). x.board) is;
    room = subst (λ (y : List (List T)). HasRoom board y) (sym (ap (λ (x : MergerEnd T). x.due) is)) room;
    each_branch = same;
    only = ap (λ (x : MergerEnd T). x.merger) is;
    ahead = λ p above. ap (λ (x : MergerEnd T). has x.done p) is;
  }
