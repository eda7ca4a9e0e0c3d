use Rattle.std.specs.String.{string_bytes}
use Rattle.std.proofs.Common.{subst}
use Rattle.suite.specs.Seen.{outside}
use Rattle.suite.specs.Work.{PutsText}
use Rattle.suite.proofs.Working.{put_does, put_refused}
use Rattle.suite.proofs.command.put_product.Goals as goal

pub returns-in-Ok : goal.returns-in-Ok
returns-in-Ok g c = λ contents calls.
    put_does c.args.product (string_bytes c.args.file.now) c.args.bytes.now c.in-Ok.text c.put_text.result _ _ c.in-Ok.ensures.made (subst (λ t. PutsText t c.put_text.result (outside contents calls (g.O.Sink.taken c.args.out.now) (g.O.Sink.faults c.args.out.now)) (outside contents calls (g.O.Sink.taken c.put_text.new.sink) (g.O.Sink.faults c.put_text.new.sink))) c.bytes.ensures (c.put_text.ensures contents calls))

pub returns-in-Err : goal.returns-in-Err
returns-in-Err g c = λ contents calls. put_refused c.args.product (string_bytes c.args.file.now) c.args.bytes.now c.in-Err.outcome _ c.in-Err.ensures.none
