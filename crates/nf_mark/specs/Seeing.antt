-- For proofs: what a function is shown of the packet that it sees through a view.
use Rattle.chain_walk.specs.Shown.{Shown, shown_by}
use Rattle.packet_version.specs.Views.{PlainView, seen_values}

abbrev pub shown_in : PlainView → Shown
shown_in view = shown_by view.profile view.version.fixed (seen_values view)
