use Rattle.packet_version.proofs.Lawful.{set_one, left_one, pushed_one, popped_one}
use Rattle.packet_version.proofs.laws.written_is_one_value.Goals as goal

pub returns : goal.returns
returns c = record { set = λ view f bytes. set_one view f bytes; edited = λ view f bytes. left_one view f bytes; pushed = λ view tag. pushed_one view tag; popped = λ view. popped_one view }
