use Rattle.std.specs.String.{string_bytes}
use Rattle.std.proofs.Common.{subst}
use Rattle.suite.specs.Seen.{outside}
use Rattle.suite.specs.Work.{StoresText}
use Rattle.suite.proofs.Working.{store_does, store_refused}
use Rattle.suite.proofs.command.store_product.Goals as goal

pub returns-in-Ok : goal.returns-in-Ok
returns-in-Ok g c = λ taken faults.
    store_does c.args.product (string_bytes c.args.file.now) (string_bytes c.args.name.now) c.args.bytes.now c.in-Ok.text c.store_text.result _ _ c.in-Ok.ensures.made (subst (λ t. StoresText (string_bytes c.args.name.now) t c.store_text.result (outside (g.F.Files.contents c.args.files.now) (g.F.Files.calls c.args.files.now) taken faults) (outside (g.F.Files.contents c.store_text.new.files) (g.F.Files.calls c.store_text.new.files) taken faults)) c.bytes.ensures (c.store_text.ensures taken faults))

pub returns-in-Err : goal.returns-in-Err
returns-in-Err g c = λ taken faults. store_refused c.args.product (string_bytes c.args.file.now) (string_bytes c.args.name.now) c.args.bytes.now c.in-Err.outcome _ c.in-Err.ensures.none
