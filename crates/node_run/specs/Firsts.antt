-- For proofs: the dealer of the first stage.
use Rattle.std.specs.Prelude.{◌≡◌, ℕ, List, false}
use Rattle.packet_fields.specs.declared.field.Field.{Field}
use Rattle.packet_version.specs.Splitting.{PlainApart}
use Rattle.packet_version.specs.Tallies.{count_of, raised}
use Rattle.packet_messages.specs.Messages.{PlainMessage}
use Rattle.stage_nodes.specs.Dues.{DealerDue}
use Rattle.stage_nodes.specs.Streams.{dealer_copies}
use Rattle.stage_nodes.specs.declared.dealer.Dealer.{Dealer}
use Rattle.node_run.specs.declared.first.Dealt.{Dealt}
use Rattle.node_run.specs.declared.first.First.{First}
use Rattle.node_run.specs.declared.first.First.TheVariants.{Due, Over}

-- its links fit, it made no copies yet, and this number of copies of each field is due from it
pub record IsDue {S : Type 0} (comes : S → List (PlainMessage PlainApart) → Type 0) (copies : Field → ℕ) (d : Dealer S) : Type 0 where
  pub coming : List (PlainMessage PlainApart)
  pub due : DealerDue comes d.parts d.count coming d.source d.to.ends.versions d.to.ends.bases
  pub none : (f : Field) → count_of d.tally f ≡ 0
  pub makes : (f : Field) → dealer_copies d.parts.touches coming f ≡ copies f

-- it made this number, unless it ran out of memory
abbrev pub HasDealt : (Field → ℕ) → Dealt → Type 0
HasDealt copies dealt = dealt.short ≡ false → (f : Field) → count_of dealt.tally f ≡ raised 0 (copies f)

-- it is still to be run, or was run
abbrev pub IsFirst : {S : Type 0} → (S → List (PlainMessage PlainApart) → Type 0) → (Field → ℕ) → First S → Type 0
IsFirst comes copies (Due d) = IsDue comes copies d
IsFirst comes copies (Over dealt) = HasDealt copies dealt
