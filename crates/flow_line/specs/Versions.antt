-- For proofs: the size of a flow's addresses.
use Rattle.std.specs.Prelude.{◌≡◌, ◌<◌, ◌^◌, false}
use Rattle.flow_line.specs.declared.key.FlowKey.{FlowKey}
use Rattle.flow_line.specs.declared.line.FlowLine.{FlowLine}

-- an address of IPv4 has 32 bits (RFC 791, 3.1)
pub record FitsVersion (key : FlowKey) : Type 0 where
  pub src : key.wide ≡ false → key.src < 2 ^ 32
  pub dst : key.wide ≡ false → key.dst < 2 ^ 32

-- the addresses of a line's flow have this size
abbrev pub HasFittingKey : FlowLine → Type 0
HasFittingKey line = FitsVersion line.key
