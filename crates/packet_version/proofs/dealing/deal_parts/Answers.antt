use Rattle.packet_version.specs.Parts.{as_map}
use Rattle.packet_version.proofs.Undealt.{none_given, all_kept, none_counted}
use Rattle.packet_version.proofs.dealing.deal_parts.Goals as goal

pub returns-then-is_dealt-clause-given : goal.returns-then-is_dealt-clause-given
returns-then-is_dealt-clause-given c = none_given (as_map c.args.held.now.parts) c.args.versions.now (c.is_dealt.ensures.readers c.if-is_dealt.true) c.requires.empty

pub returns-then-is_dealt-clause-kept : goal.returns-then-is_dealt-clause-kept
returns-then-is_dealt-clause-kept c = all_kept c.args.held.now c.args.versions.now (c.is_dealt.ensures.readers c.if-is_dealt.true) c.requires.ten (c.is_dealt.ensures.unwritten c.if-is_dealt.true)

pub returns-then-is_dealt-clause-counted : goal.returns-then-is_dealt-clause-counted
returns-then-is_dealt-clause-counted c = none_counted (as_map c.args.held.now.parts) c.args.versions.now c.args.tally.now (c.is_dealt.ensures.readers c.if-is_dealt.true)
