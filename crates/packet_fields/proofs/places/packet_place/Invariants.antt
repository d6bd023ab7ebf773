use Rattle.std.proofs.Common.{length}
use Rattle.packet_fields.proofs.TagWalk.{IsAtTags}
use Rattle.packet_fields.proofs.places.packet_place.Given as goal

abbrev pub invariant-tags : goal.invariant-tags
invariant-tags l = IsAtTags l.frame l.rest

abbrev pub decreases-tags : goal.decreases-tags
decreases-tags l = length l.rest
