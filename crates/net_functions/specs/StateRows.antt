-- For proofs: the lines in which a function of any kind reports its state, each by itself.
use Rattle.std.specs.Prelude.{ℕ, List, []}
use Rattle.nf_translate.specs.StateRows.{flow_rows, mapping_rows}
use Rattle.nf_observe.specs.StateRows.{limiter_rows, monitor_rows}
use Rattle.net_functions.specs.declared.net_function.NetFunction.{NetFunction}
use Rattle.net_functions.specs.declared.net_function.NetFunction.TheVariants.{Firewall, Nat, Balancer, Monitor, Limiter, Marker, Hop, Tagger, Untagger, Signature, Nexthop, Redactor}

unfoldable pub rows_of : NetFunction → List (List ℕ)
rows_of (Firewall f) = []
rows_of (Nat n) = mapping_rows n
rows_of (Balancer b) = flow_rows b
rows_of (Monitor m) = monitor_rows m
rows_of (Limiter l) = limiter_rows l
rows_of (Marker f) = []
rows_of (Hop f) = []
rows_of (Tagger f) = []
rows_of (Untagger f) = []
rows_of (Signature f) = []
rows_of (Nexthop f) = []
rows_of (Redactor f) = []
