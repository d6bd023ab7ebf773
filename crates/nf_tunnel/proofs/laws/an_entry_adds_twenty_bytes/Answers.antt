use Rattle.std.proofs.Common.{rules}
use Rattle.nf_tunnel.proofs.Lengths.{entry_adds, entry_changes, entry_keeps}
use Rattle.nf_tunnel.proofs.laws.an_entry_adds_twenty_bytes.Goals as goal

pub returns-clause-changes : goal.returns-clause-changes
returns-clause-changes c = λ frame test. entry_changes c.args.entry frame (record { entry = search rules; exit = search rules }) test

pub returns-clause-length : goal.returns-clause-length
returns-clause-length c = λ frame changed. entry_adds c.args.entry frame (record { entry = search rules; exit = search rules }) changed

pub returns-clause-before : goal.returns-clause-before
returns-clause-before c = λ frame. entry_keeps c.args.entry frame
