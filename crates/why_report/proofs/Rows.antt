-- Two packets through a firewall and a hop: the first passes by the default, which is the `fn` line, and the second is
-- dropped by the first rule. Beside a chain that drops a packet stands one that no packet takes.
use Rattle.std.specs.Prelude.{◌≡◌, [], ◌∷◌, ◌++◌, true, false, Some, None, codes, refl}
use Rattle.action_profile.specs.declared.kind.Kind.TheVariants as kinds
use Rattle.chain_walk.specs.declared.walk.Fate.TheVariants.{Out, Gone}
use Rattle.packet_function.specs.declared.deciding.DecidingLine.TheVariants.{Rule, Set}
use Rattle.packet_function.specs.declared.deciding.SettingKey.TheVariants.{Default}
use Rattle.policy_text.specs.declared.policy.FunctionDecl.{FunctionDecl}
use Rattle.capture_items.specs.FaultLines.{last_line}
use Rattle.capture_items.specs.Totals.{total_line}
use Rattle.std.specs.Fmt.{digits}
use Rattle.why_report.specs.Report.{OrderedChain, chain_lines, chain_text, drop_lines, drop_text, function_lines, function_text, line_text, report_bytes, summary, untaken_text}
use Rattle.traced_walk.specs.Ways.{Way}

firewall : FunctionDecl
firewall = record {
  name = codes "fw";
  line = 3;
  kind = kinds.Firewall;
  settings = record { line = 4; words = codes "rule" ∷ codes "deny" ∷ codes "src" ∷ codes "10.0.0.9" ∷ [] }
      ∷ record { line = 5; words = codes "rule" ∷ codes "deny" ∷ codes "dst" ∷ codes "10.0.0.77" ∷ [] } ∷ [];
}

hop : FunctionDecl
hop = record { name = codes "t"; line = 6; kind = kinds.Hop; settings = [] }

chain : OrderedChain
chain = record { declared = record { name = codes "main"; line = 2; fit = record { clauses = [] }; functions = firewall ∷ hop ∷ []; statements = [] }; order = firewall ∷ hop ∷ [] }

passed : Way
passed = record {
  class = Some 0;
  fate = Out (63 ∷ []);
  acts = record { lines = Set Default ∷ []; dropped = false; before = 64 ∷ []; after = 64 ∷ [] } ∷ record { lines = []; dropped = false; before = 64 ∷ []; after = 63 ∷ [] } ∷ [];
}

dropped : Way
dropped = record { class = Some 0; fate = Gone 1; acts = record { lines = Rule 0 ∷ []; dropped = true; before = 64 ∷ []; after = 64 ∷ [] } ∷ [] }

both : report_bytes (chain ∷ []) (passed ∷ dropped ∷ []) None
    ≡ codes "nfp why 1\ndrop 2 main fw line 4\nrecords 2 emitted 1 dropped 1\nno chain took 0\nchain main took 2\n"
    ++ codes "function main fw firewall saw 2 changed 0 dropped 1\n  line 3 hits 1\n  line 4 hits 1\n  line 5 hits 0\n"
    ++ codes "function main t hop saw 1 changed 1 dropped 0\n  line 6 hits 0\nend\n"
unfolding report_bytes drop_lines drop_text summary total_line untaken_text chain_lines chain_text function_lines function_text line_text last_line digits passed dropped chain firewall hop
both = refl

last : FunctionDecl
last = record { name = codes "u"; line = 8; kind = kinds.Hop; settings = [] }

aside : OrderedChain
aside = record { declared = record { name = codes "aside"; line = 7; fit = record { clauses = [] }; functions = last ∷ []; statements = [] }; order = last ∷ [] }

untaken : Way
untaken = record { class = None; fate = Out (64 ∷ []); acts = [] }

apart : report_bytes (chain ∷ aside ∷ []) (dropped ∷ untaken ∷ []) None
    ≡ codes "nfp why 1\ndrop 1 main fw line 4\nrecords 2 emitted 1 dropped 1\nno chain took 1\nchain main took 1\n"
    ++ codes "function main fw firewall saw 1 changed 0 dropped 1\n  line 3 hits 0\n  line 4 hits 1\n  line 5 hits 0\n"
    ++ codes "function main t hop saw 0 changed 0 dropped 0\n  line 6 hits 0\n"
    ++ codes "chain aside took 0\nfunction aside u hop saw 0 changed 0 dropped 0\n  line 8 hits 0\nend\n"
unfolding report_bytes drop_lines drop_text summary total_line untaken_text chain_lines chain_text function_lines function_text line_text last_line digits dropped untaken chain aside firewall hop last
apart = refl
