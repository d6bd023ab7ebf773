-- For proofs: what each step on a word shows to the seat that makes it; it changes that seat's view alone. The other
-- steps are exchanges in a slot that the seat holds, and change no view: a branch puts its value, and a merger takes
-- the values of a packet that is done.
use Rattle.std.specs.Prelude.{◌≡◌, ℕ, ◌+◌, ◌*◌, List, [], ◌∷◌, ◌++◌, length, Option, Some, None}
use Rattle.atomic_table.specs.Table.{Me, Step, rest}
use Rattle.merge_board.specs.declared.rule.View.{View}
use Rattle.merge_board.specs.Rule.{AllSet, IsFit}

module _ {T : Type 0} where
  -- the slots from `base` + `b` on, with these values
  abbrev pub shelf : ℕ → ℕ → List T → List (ℕ × Option T)
  shelf base b [] = []
  shelf base b (x ∷ xs) = (base + b, Some x) ∷ shelf base (b + 1) xs

  -- a branch's seat has loaded the word of a packet: it has the packet in hand, and holds its slot, which is empty
  abbrev pub took : Step (Option T) → Me (Option T) (View T) → Me (Option T) (View T) → Type 0
  took st m n = (n.0 ≡ record m.0 { hand = Some st.word }) × (n.1 ≡ (st.word * m.0.branches + m.0.role, None) ∷ m.1)

  -- a branch's seat has set its bit of the word of a packet: it has put the packet and has none in hand, and the slot is
  -- at home
  abbrev pub announced : Step (Option T) → Me (Option T) (View T) → Me (Option T) (View T) → Type 0
  announced st m n = (n.0 ≡ record m.0 { pids = st.word ∷ m.0.pids; hand = None }) × (n.1 ≡ rest m.1)

  -- these are values for the packet `p`, one from each branch from `b` on, and each fits what is due from its branch
  abbrev pub AreDue : (T → T → Type 0) → List (List T) → ℕ → ℕ → List T → Type 0
  AreDue fits due p b [] = Unit {0}
  AreDue fits due p b (x ∷ xs) = IsFit fits due b p x × AreDue fits due p (b + 1) xs

  -- the view after a load that finds a bit missing: the load counts, and the packet and the word are in it
  abbrev pub seen : View T → ℕ → ℕ → View T
  seen v p word = record v { loads = v.loads + 1; pid = p; word = word }

  -- the view after a load that finds all bits set: the packet is done too, and its values are these
  abbrev pub completed : View T → ℕ → ℕ → List T → View T
  completed v p word got = record v { pids = p ∷ v.pids; loads = v.loads + 1; pid = p; word = word; got = got }

  -- all bits were set: the packet is done, and the seat holds its slots, one of each branch, with values that fit what is
  -- due
  pub record HasAll (fits : T → T → Type 0) (p word : ℕ) (m n : Me (Option T) (View T)) : Type 0 where
    pub view : n.0 ≡ completed m.0 p word n.0.got
    pub slots : n.1 ≡ shelf (p * m.0.branches) 0 n.0.got ++ m.1
    pub count : length n.0.got ≡ m.0.branches
    pub due : AreDue fits m.0.due p 0 n.0.got

  -- a merger's seat has loaded the word of a packet
  abbrev pub looked : (T → T → Type 0) → Step (Option T) → Me (Option T) (View T) → ℕ → Me (Option T) (View T) → Type 0
  looked fits st m word n =
      (AllSet m.0.branches word → HasAll fits st.word word m n)
      × (¬ AllSet m.0.branches word → (n.0 ≡ seen m.0 st.word word) × (n.1 ≡ m.1))
