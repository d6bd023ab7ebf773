-- Believed: the ends of a tunnel that lines declare.
use Rattle.std.specs.Prelude.{List, fold}
use Rattle.nf_tunnel.specs.declared.encap.Encap.{Encap}
use Rattle.nf_tunnel.specs.declared.encap.lines.EntryLine.{EntryLine}
use Rattle.nf_tunnel.specs.declared.encap.lines.EntryLine.TheVariants as entries
use Rattle.nf_tunnel.specs.declared.decap.Decap.{Decap}
use Rattle.nf_tunnel.specs.declared.decap.lines.ExitLine.{ExitLine}
use Rattle.nf_tunnel.specs.declared.decap.lines.ExitLine.TheVariants as exits
use Rattle.nf_tunnel.specs.TunnelLines.{ipv4_address}

-- an entry before its lines are read
abbrev pub unset_encap : Encap
unset_encap = record { entry = ipv4_address 0; exit = ipv4_address 0; ttl = 0 }

-- an entry with the content of one more line
abbrev pub with_entry_line : Encap → EntryLine → Encap
with_entry_line e (entries.Entry a) = record e { entry = a }
with_entry_line e (entries.Exit a) = record e { exit = a }
with_entry_line e (entries.Ttl n) = record e { ttl = n }

-- the entry that these lines declare
abbrev pub encap_by : List EntryLine → Encap
encap_by said = fold with_entry_line unset_encap said

-- an exit before its line is read
abbrev pub unset_decap : Decap
unset_decap = record { exit = ipv4_address 0 }

-- an exit with the content of one more line
abbrev pub with_exit_line : Decap → ExitLine → Decap
with_exit_line d (exits.Exit a) = record d { exit = a }

-- the exit that these lines declare
abbrev pub decap_by : List ExitLine → Decap
decap_by said = fold with_exit_line unset_decap said
