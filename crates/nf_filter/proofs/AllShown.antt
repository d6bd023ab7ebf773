-- What shows all values is all that is seen.
use Rattle.std.proofs.Common.{◌≡◌, true, refl}
use Rattle.policy_text.specs.declared.seen.Seen.{Seen}
use Rattle.function_lines.specs.declared.asking.Asked.{Asked}
use Rattle.function_lines.specs.Asking.{Shows}

abbrev all : Asked
all = record { tag = true; source = true; destination = true; source_port = true; destination_port = true }

pub all_shown : (full seen : Seen) → Shows all full seen → seen ≡ full
all_shown full seen shows = λ i. record {
  tag = shows.tag refl i;
  src = shows.src refl i;
  dst = shows.dst refl i;
  src6 = shows.src6 refl i;
  dst6 = shows.dst6 refl i;
  sport = shows.sport refl i;
  dport = shows.dport refl i;
  proto = shows.proto i;
  ether_type = shows.ether_type i;
  tcp_flags = shows.tcp_flags i;
}
