use Rattle.why_run.proofs.Told.{led_told}
use Rattle.why_run.proofs.telling.tell_led.Goals as goal

pub returns-clause-told : goal.returns-clause-told
returns-clause-told c =
    led_told c.args.keeps c.args.led.now c.args.acts.now c.args.telling.now c.keep_trace.new.telling c.note.new.self c.requires.asked c.in_ok-keep_trace.ensures c.note.ensures
