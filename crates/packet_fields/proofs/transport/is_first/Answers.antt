use Rattle.std.proofs.Common.{◌≡◌, ◌∙◌, ◌||◌, ◌%◌, Bool, ℕ, false, Some, sym, ap, arith}
use Rattle.std.specs.Prelude.{◌==◌}
use Rattle.std.proofs.lemmas.Bool.{cond-false}
use Rattle.packet_fields.specs.Packets.{is_ipv6, protocol_at}
use Rattle.packet_fields.specs.declared.packet.IpVersion.{IpVersion}
use Rattle.packet_fields.specs.declared.packet.IpVersion.TheVariants.{V4}
use Rattle.packet_fields.proofs.Overwriting.{cong2}
use Rattle.packet_fields.proofs.Versions.{version_is, protocol_captured}
use Rattle.packet_fields.proofs.transport.is_first.Goals as goal

pub word-requires : goal.word-requires
word-requires c =
    let four : is_ipv6 c.args.packet.now ≡ false = (version_is c.args.packet.now V4 (c.requires.version ∙ ap (λ (v : IpVersion). Some v) c.in-V4.is)).1 in
    let at : protocol_at c.args.packet.now ≡ 9 = cond-false (is_ipv6 c.args.packet.now) 6 9 four in
    omega (arith, at, protocol_captured c.args.packet.now c.requires.captured)

pub returns-in-V4 : goal.returns-in-V4
returns-in-V4 c =
    let four : is_ipv6 c.args.packet.now ≡ false = (version_is c.args.packet.now V4 (c.requires.version ∙ ap (λ (v : IpVersion). Some v) c.in-V4.is)).1 in
    cong2 (λ (b : Bool) (n : ℕ). b || (n % 8192 == 0)) (sym four) c.word.ensures
