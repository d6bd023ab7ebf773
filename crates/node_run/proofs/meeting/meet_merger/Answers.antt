use Rattle.node_run.proofs.meeting.meet_merger.Goals as goal

pub meet_over_links-requires : goal.meet_over_links-requires
meet_over_links-requires g c = c.requires

pub meet_on_board-requires-clause-meet : goal.meet_on_board-requires-clause-meet
meet_on_board-requires-clause-meet g c = c.requires
