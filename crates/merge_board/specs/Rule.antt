-- For proofs: the rule of a board, which holds between any two steps. The word of a packet has a bit for each branch, and
-- the slot of packet p and branch b is the number p * branches + b.
use Rattle.std.specs.Prelude.{◌≡◌, ℕ, zero, suc, ◌+◌, ◌*◌, ◌%◌, ◌<◌, ◌≤◌, ◌⊎◌, ◌==◌, ◌||◌, Bool, true, false, List, [], ◌∷◌, length, Option, Some, None, slice_index}
use Rattle.std.specs.Int.{bit_at}
use mathlib.Core.Option.{none, some}
use mathlib.Core.Option as maybe
use lib.ListN.{get_elem?}
use Rattle.atomic_table.specs.Table.{State}
use Rattle.merge_board.specs.declared.rule.Sizes.{Sizes}
use Rattle.merge_board.specs.declared.rule.View.{View}

-- whether the packet is among these
abbrev pub has : List ℕ → ℕ → Bool
has [] p = false
has (x ∷ xs) p = (x == p) || has xs p

-- the bit of a test
abbrev pub bit : Bool → ℕ
bit true = 1
bit false = 0

-- the word has the bit of each branch
abbrev pub AllSet : ℕ → ℕ → Type 0
AllSet branches word = (b : ℕ) → b < branches → bit_at word b ≡ 1

-- the word lacks the bit of a branch
abbrev pub LacksBit : ℕ → ℕ → Type 0
LacksBit branches word = (b : ℕ) × (b < branches) × (bit_at word b ≡ 0)

-- what is due from this branch for this packet
abbrev pub due_at : {T : Type 0} → List (List T) → ℕ → ℕ → maybe.Option T
due_at [] b p = none
due_at (row ∷ rows) zero p = get_elem? row p
due_at (row ∷ rows) (suc b) p = due_at rows b p

-- the view of the maker's seat, which gives out the others, after this number of roles were given
abbrev pub maker : {T : Type 0} → ℕ → ℕ → List (List T) → View T
maker branches given due =
    record {
      makes = true;
      role = given;
      branches = branches;
      due = due;
      pids = [];
      hand = None;
      loads = 0;
      pid = 0;
      word = 0;
      got = [];
    }

-- the first view of a seat with this role
abbrev pub seated : {T : Type 0} → ℕ → ℕ → List (List T) → View T
seated branches role due =
    record {
      makes = false;
      role = role;
      branches = branches;
      due = due;
      pids = [];
      hand = None;
      loads = 0;
      pid = 0;
      word = 0;
      got = [];
    }

-- The view of the maker's seat of a board of this number of branches, with what is due, after this number of roles were
-- given: before the first it is still open what is due.
pub record HasDealt {T : Type 0} (branches given : ℕ) (due : List (List T)) (v : View T) : Type 0 where
  pub makes : v.makes ≡ true
  pub sized : v.branches ≡ branches
  pub count : v.role ≡ given
  pub chosen : (given ≡ 0) ⊎ (v.due ≡ due)

module _ {T : Type 0} (fits : T → T → Type 0) where
  -- the value fits what is due from this branch for this packet
  abbrev pub IsFit : List (List T) → ℕ → ℕ → T → Type 0
  IsFit due b p x = (d : T) × (due_at due b p ≡ some d) × fits d x

  module _ (k : Sizes) (due : List (List T)) (words : List ℕ) where
    module _ (homes : List (maybe.Option (Option T))) (views : List (View T)) (b p : ℕ) where
      -- the bit isn't set: nothing was put, and the slot is at home
      abbrev pub IsEmpty : Type 0
      IsEmpty = (bit_at (slice_index words p) b ≡ 0) × (get_elem? homes (p * k.branches + b) ≡ some (some None))

      -- the bit isn't set: the seat of the branch has the packet in hand, and hasn't announced it
      abbrev pub IsHeld : Type 0
      IsHeld =
          (bit_at (slice_index words p) b ≡ 0)
          × ((v : View T) × (get_elem? views (suc b) ≡ some v) × (v.hand ≡ Some p))

      -- the bit is set: the slot is at home with a value that fits what is due
      abbrev pub IsFilled : Type 0
      IsFilled =
          (bit_at (slice_index words p) b ≡ 1)
          × ((x : T) × (get_elem? homes (p * k.branches + b) ≡ some (some (Some x))) × IsFit due b p x)

      -- the bit is set: the packet's merger has the packet as done
      abbrev pub IsDone : Type 0
      IsDone =
          (bit_at (slice_index words p) b ≡ 1)
          × ((v : View T) × (get_elem? views (suc (k.branches + p % k.mergers)) ≡ some v) × (has v.pids p ≡ true))

      -- The state of the slot of packet `p` and branch `b`. While the bit isn't set, it is at home and empty, except
      -- for the packet that the branch's seat has in hand. While it is set and no view has the packet as done, it is at
      -- home with a value that fits.
      abbrev pub Cell : Type 0
      Cell = IsEmpty ⊎ IsHeld ⊎ IsFilled ⊎ IsDone

    -- what seat number `j` knows, of this number of seats
    pub record Stands (count j : ℕ) (v : View T) : Type 0 where
      -- each seat knows the number of branches
      pub sized : v.branches ≡ k.branches
      -- Seat 0 is the maker's, and has given as many roles as there are other seats. After the first, it knows what is
      -- due.
      pub makes : v.makes ≡ true → (j ≡ 0) × (count ≡ suc v.role) × ((v.role ≡ 0) ⊎ (v.due ≡ due))
      -- Any other seat has the role of its number. So no two seats have the same role, and a role that wasn't given is
      -- in no view. The seat knows what is due.
      pub plays : v.makes ≡ false → (j ≡ suc v.role) × (v.due ≡ due)
      -- if a seat has a branch's role, the branch's bit of a packet's word is set exactly when the seat's view has the
      -- packet
      pub branch : v.makes ≡ false → v.role < k.branches
          → (p : ℕ) → p < k.pids → bit_at (slice_index words p) v.role ≡ bit (has v.pids p)
      -- a packet that is done in a merger's view leaves the merger's number when divided by the number of mergers, and its
      -- word has all bits
      pub merger : v.makes ≡ false → k.branches ≤ v.role
          → (p : ℕ) → p < k.pids → has v.pids p ≡ true → (v.role ≡ k.branches + p % k.mergers) × AllSet k.branches (slice_index words p)

  -- the words, the slots at home and the views of a board of these sizes
  pub record IsBoard (k : Sizes) (s : State (Option T) (View T)) : Type 0 where
    -- for each branch, a value for each packet
    pub due : List (List T)
    pub wide : length s.words ≡ k.pids
    pub slots : length s.homes ≡ k.pids * k.branches
    -- a branch's role that wasn't given yet has no bit set
    pub ungiven : (b p : ℕ) → b < k.branches → p < k.pids → length s.views ≤ suc b
        → bit_at (slice_index s.words p) b ≡ 0
    pub cells : (b p : ℕ) → b < k.branches → p < k.pids → Cell k due s.words s.homes s.views b p
    pub seats : (j : ℕ) (v : View T) → get_elem? s.views j ≡ some v → Stands k due s.words (length s.views) j v
