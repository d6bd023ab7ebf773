-- For proofs: the rules, the patterns, the burst and the addresses of a function that was made.
use Rattle.std.specs.Prelude.{ℕ, List, [], map, Option, Some, None}
use Rattle.std.specs.declared.net.ip_addr.IpAddr.{IpAddr}
use Rattle.std.specs.declared.net.ipv4_addr.Ipv4Addr.{Ipv4Addr}
use Rattle.policy_text.specs.declared.clause.Match.{Match}
use Rattle.net_functions.specs.declared.net_function.NetFunction.{NetFunction}
use Rattle.net_functions.specs.declared.net_function.NetFunction.TheVariants.{Firewall, Balancer, Limiter, Marker, Tagger, Signature, Nexthop, Redactor}
use Rattle.net_functions.specs.declared.making.Made.{Made}
use Rattle.net_functions.specs.declared.making.Made.TheVariants.{Function, Encap}

-- the clauses of its rules, of which the first that a packet meets decides, rule by rule
abbrev pub fits_in : NetFunction → List Match
fits_in (Firewall f) = map (λ r. r.fit) f.rules
fits_in (Marker m) = map (λ r. r.fit) m.rules
fits_in (Tagger t) = map (λ r. r.fit) t.rules
fits_in (Nexthop n) = map (λ r. r.fit) n.rules
fits_in f = []

abbrev pub made_fits : Made → List Match
made_fits (Function f) = fits_in f
made_fits made = []

-- its patterns
abbrev pub patterns_in : NetFunction → List (List ℕ)
patterns_in (Signature s) = s.patterns
patterns_in (Redactor r) = r.patterns
patterns_in f = []

abbrev pub made_patterns : Made → List (List ℕ)
made_patterns (Function f) = patterns_in f
made_patterns made = []

-- a limiter's burst, in bytes
abbrev pub burst_in : NetFunction → Option ℕ
burst_in (Limiter l) = Some l.burst
burst_in f = None

abbrev pub made_burst : Made → Option ℕ
made_burst (Function f) = burst_in f
made_burst made = None

-- a balancer's virtual address
abbrev pub virtual_in : NetFunction → Option IpAddr
virtual_in (Balancer b) = Some b.settings.virtual_address
virtual_in f = None

abbrev pub made_virtual : Made → Option IpAddr
made_virtual (Function f) = virtual_in f
made_virtual made = None

-- the ends of a tunnel at its entry
abbrev pub made_entry : Made → Option Ipv4Addr
made_entry (Encap e) = Some e.entry
made_entry made = None

abbrev pub made_exit : Made → Option Ipv4Addr
made_exit (Encap e) = Some e.exit
made_exit made = None
