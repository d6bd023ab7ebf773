-- For proofs: the rule of a link, which holds between any two steps.
use Rattle.std.specs.Prelude.{◌≡◌, ℕ, Bool, true, false, List, [], ◌∷◌, ◌++◌, ◌^◌, ◌≤◌, ◌⊎◌, length}
use mathlib.Core.Option.{some}
use lib.ListN.{get_elem?}
use Rattle.ruled_links.specs.Fitting.{EachFits}
use Rattle.ruled_links.specs.declared.rule.Knowledge.{Knowledge}

abbrev pub knowledge : {T : Type 0} → Bool → Bool → Bool → List T → List T → List T → Knowledge T
knowledge o p t due put taken = record { opened = o; puts = p; takes = t; due = due; put = put; taken = taken }

-- for a link without ends: nothing was put, and it is still open what is due
abbrev pub closed : {T : Type 0} → Knowledge T
closed = knowledge false false false [] [] []

-- for an end that was dropped: it puts and takes nothing more
abbrev pub spent : {T : Type 0} → Knowledge T
spent = knowledge true false false [] [] []

-- What the pass of this number knows. Only the pass `putter` puts, and knows all that was put; only the pass `taker`
-- takes, and knows all that was taken; each of them knows what is due.
pub record Knows {T : Type 0} (putter taker : ℕ) (owed sent got : List T) (pass : ℕ) (v : Knowledge T) : Type 0 where
  pub opened : v.opened ≡ true
  pub puts : v.puts ≡ true → (pass ≡ putter) × (v.due ≡ owed) × (v.put ≡ sent)
  pub takes : v.takes ≡ true → (pass ≡ taker) × (v.due ≡ owed) × (v.taken ≡ got)

module _ {T : Type 0} (fits : T → T → Type 0) where
  -- A link with its ends: what was put is what was taken and then what the link holds, and each message that was put
  -- fits the due one of its place.
  pub record IsOpen (items : List T) (views : List (Knowledge T)) : Type 0 where
    pub putter : ℕ
    pub taker : ℕ
    pub due : List T
    pub put : List T
    pub taken : List T
    pub whole : put ≡ taken ++ items
    pub few : length put ≤ 2 ^ 32
    pub fit : EachFits fits due put
    pub knows : (pass : ℕ) (v : Knowledge T) → get_elem? views pass ≡ some v → Knows putter taker due put taken pass v

  -- what a link holds, and what its passes know
  abbrev pub IsLink : List T → List (Knowledge T) → Type 0
  IsLink items views = ((items ≡ []) × (views ≡ closed ∷ [])) ⊎ IsOpen items views
