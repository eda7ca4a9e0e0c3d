use Rattle.std.proofs.Common.{refl}
use Rattle.suite.proofs.command.do_bytes.Goals as goal

pub returns-in-Run : goal.returns-in-Run
returns-in-Run g c = rw c.in-Run.is (c.run_bytes.ensures (g.F.Files.contents c.args.files.now) (g.F.Files.calls c.args.files.now))

pub returns-in-Put : goal.returns-in-Put
returns-in-Put g c = rw c.in-Put.is (c.put_product.ensures (g.F.Files.contents c.args.files.now) (g.F.Files.calls c.args.files.now) _ refl)

pub returns-in-Store : goal.returns-in-Store
returns-in-Store g c = rw c.in-Store.is (c.store_product.ensures (g.O.Sink.taken c.args.out.now) (g.O.Sink.faults c.args.out.now) _ refl)

pub returns-in-Make : goal.returns-in-Make
returns-in-Make g c = rw c.in-Make.is (c.try_source.ensures _ (g.F.Files.contents c.args.files.now) (g.F.Files.calls c.args.files.now))
