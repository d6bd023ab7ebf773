use Rattle.std.proofs.Common.{refl}
use Rattle.graph_run.specs.Rooms.{adders_from}
use Rattle.graph_run.specs.Running.{profiles_of}
use Rattle.stream_law.proofs.Framed.{all_enter, all_fit, refused, led}
use Rattle.stream_law.proofs.frames.bursts_in_parts_lead.Goals as goal

pub returns-clause-enter : goal.returns-clause-enter
returns-clause-enter g c = λ functions packets. all_enter (profiles_of g.F.Function.behaviour functions) _ packets c.frames_come_apart.ensures.parts c.values_stay_well_formed.ensures.frame refl

pub returns-clause-fits : goal.returns-clause-fits
returns-clause-fits g c = λ taggers packets. all_fit taggers packets c.frames_come_apart.ensures.fits

pub returns-clause-leads : goal.returns-clause-leads
returns-clause-leads g c = λ run after packets behind ended old new passed stays ends.
    led g.F.Function.behaviour run after (adders_from (profiles_of g.F.Function.behaviour run.functions) 1) packets behind ended old new
    c.frames_come_apart.ensures.parts c.frames_are_built_again.ensures c.frames_walk_in_bursts.ensures.fates c.frames_walk_in_bursts.ensures.functions c.packets_walk_in_a_row.ensures.within c.functions_keep_to_profiles.ensures passed stays ends

pub returns-clause-refused : goal.returns-clause-refused
returns-clause-refused g c = λ run packets old new within.
    refused g.F.Function.behaviour run.graph run.functions (adders_from (profiles_of g.F.Function.behaviour run.functions) 1) packets old new c.frames_come_apart.ensures.parts c.frames_walk_in_bursts.ensures.fates c.functions_keep_to_profiles.ensures within
