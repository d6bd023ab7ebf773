-- For proofs: which functions may work in several places, each with some of the packets.
use Rattle.std.specs.Prelude.{Bool, not, ◌||◌}
use Rattle.action_profile.specs.declared.rights.Profile.{Profile}

-- Nothing that it keeps from packet to packet is needed in all of them.
abbrev pub may_be_several : Profile → Bool
may_be_several p = not (p.state || p.counts)
