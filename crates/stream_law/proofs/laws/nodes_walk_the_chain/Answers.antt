use Rattle.chain_walk.specs.Counting.{quiet}
use Rattle.stream_law.proofs.Cited.{AreLaws}
use Rattle.stream_law.proofs.Walked.{AreGraphLaws, walked}
use Rattle.stream_law.proofs.laws.nodes_walk_the_chain.Goals as goal

pub returns : goal.returns
returns g c =
    let laws : AreLaws (quiet g.F.Function.behaviour) = record {
      keeps = c.quiet_functions_keep_to_profiles.ensures.keeps g.F.Function.behaviour c.functions_keep_to_profiles.ensures;
      calm = c.quiet_functions_keep_to_profiles.ensures.still g.F.Function.behaviour;
      behind = c.versions_go_on.ensures.written;
      later = c.versions_go_on.ensures.later;
      same = c.dealt_versions_go_on.ensures.same;
      dealt = c.dealt_versions_go_on.ensures.carried;
      owners = c.lawful_stage_has_owners.ensures;
      holds = c.branches_hold_what_is_named.ensures;
      modes = c.due_copies_are_counted.ensures.modes;
      copies = c.due_copies_are_counted.ensures.copies;
      merging = record {
        from = c.merged_packets_go_on.ensures.from;
        end = c.merged_packets_go_on.ensures.end;
        leaves = c.merged_packets_go_on.ensures.leaves;
        values = c.merged_is_written_last.ensures.values;
        wrote = c.last_writer_is_greatest.ensures.wrote;
        shape = c.shape_fits.ensures;
      };
    } in
    let graphs : AreGraphLaws g.row.F.Denot = record {
      staged = c.lawful_graph_is_staged.ensures.staged;
      rising = c.stages_rise.ensures;
      many = c.owned_is_whole.ensures.count;
      each = c.owned_is_whole.ensures.each;
      chain = c.burst_is_chain.ensures.chain;
      copies = c.copies_are_same.ensures;
    } in
    record {
      pass = λ graph functions packets ready. (walked (quiet g.F.Function.behaviour) g.F.Function.notes graph functions packets laws graphs ready).may;
      functions = λ graph functions packets ready. (walked (quiet g.F.Function.behaviour) g.F.Function.notes graph functions packets laws graphs ready).functions_are;
      positions = λ graph functions packets ready. (walked (quiet g.F.Function.behaviour) g.F.Function.notes graph functions packets laws graphs ready).positions_are;
      listed = λ graph functions packets ready. (walked (quiet g.F.Function.behaviour) g.F.Function.notes graph functions packets laws graphs ready).listed_are;
      packets = λ graph functions packets ready. (walked (quiet g.F.Function.behaviour) g.F.Function.notes graph functions packets laws graphs ready).packets_are;
      rests = λ graph functions packets ready. (walked (quiet g.F.Function.behaviour) g.F.Function.notes graph functions packets laws graphs ready).rests;
      counted = λ graph functions packets f ready. (walked (quiet g.F.Function.behaviour) g.F.Function.notes graph functions packets laws graphs ready).counted f;
    }
