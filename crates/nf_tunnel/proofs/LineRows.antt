-- Worked rows of the lines of a tunnel's ends, computed by the definitions.
use Rattle.std.proofs.Common.{◌≡◌, [], ◌∷◌, refl}
use Rattle.std.specs.Prelude.{codes, Some, None}
use Rattle.action_profile.specs.declared.kind.Kind.TheVariants as kinds
use Rattle.policy_text.specs.declared.policy.FunctionDecl.{FunctionDecl}
use Rattle.function_lines.specs.KindLines.{said_by, refused_line}
use Rattle.nf_tunnel.specs.TunnelLines.{entry_line_of, exit_line_of, entry_lines, exit_lines}
use Rattle.nf_tunnel.specs.Ends.{encap_by, decap_by}

-- from 192.0.2.1 to 192.0.2.2, with the time to live 64
entry : FunctionDecl
entry = record {
  name = codes "e";
  line = 3;
  kind = kinds.Encap;
  settings =
      (record { line = 4; words = codes "set" ∷ codes "ttl" ∷ codes "64" ∷ [] }) ∷
      (record { line = 5; words = codes "set" ∷ codes "exit" ∷ codes "192.0.2.2" ∷ [] }) ∷
      (record { line = 6; words = codes "set" ∷ codes "entry" ∷ codes "192.0.2.1" ∷ [] }) ∷ [];
}

entry_may_stand : refused_line entry_lines entry ≡ None
unfolding entry_line_of entry
entry_may_stand = refl

entry_is_made : encap_by (said_by entry_lines entry.settings) ≡ record { entry = record { octets = 192 ∷ 0 ∷ 2 ∷ 1 ∷ [] }; exit = record { octets = 192 ∷ 0 ∷ 2 ∷ 2 ∷ [] }; ttl = 64 }
unfolding entry_line_of entry
entry_is_made = refl

exit : FunctionDecl
exit = record {
  name = codes "d";
  line = 3;
  kind = kinds.Decap;
  settings = (record { line = 4; words = codes "set" ∷ codes "exit" ∷ codes "192.0.2.2" ∷ [] }) ∷ [];
}

exit_may_stand : refused_line exit_lines exit ≡ None
unfolding exit_line_of exit
exit_may_stand = refl

exit_is_made : decap_by (said_by exit_lines exit.settings) ≡ record { exit = record { octets = 192 ∷ 0 ∷ 2 ∷ 2 ∷ [] } }
unfolding exit_line_of exit
exit_is_made = refl

-- without its exit, the `fn` line of either is refused
entry_lacks_exit : refused_line entry_lines (record {
  name = codes "e";
  line = 3;
  kind = kinds.Encap;
  settings =
      (record { line = 4; words = codes "set" ∷ codes "entry" ∷ codes "192.0.2.1" ∷ [] }) ∷
      (record { line = 5; words = codes "set" ∷ codes "ttl" ∷ codes "64" ∷ [] }) ∷ [];
}) ≡ Some 3
unfolding entry_line_of
entry_lacks_exit = refl

exit_lacks_exit : refused_line exit_lines (record { name = codes "d"; line = 3; kind = kinds.Decap; settings = [] }) ≡ Some 3
unfolding exit_line_of
exit_lacks_exit = refl

-- a time to live is from 1 to 255
no_time_to_live : entry_line_of (codes "set" ∷ codes "ttl" ∷ codes "0" ∷ []) ≡ None
unfolding entry_line_of
no_time_to_live = refl

too_long_to_live : entry_line_of (codes "set" ∷ codes "ttl" ∷ codes "256" ∷ []) ≡ None
unfolding entry_line_of
too_long_to_live = refl

-- an address has no prefix, and an exit no entry
no_prefix : entry_line_of (codes "set" ∷ codes "entry" ∷ codes "192.0.2.0/24" ∷ []) ≡ None
unfolding entry_line_of
no_prefix = refl

no_entry : exit_line_of (codes "set" ∷ codes "entry" ∷ codes "192.0.2.1" ∷ []) ≡ None
unfolding exit_line_of
no_entry = refl
