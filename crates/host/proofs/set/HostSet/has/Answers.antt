use Rattle.std.proofs.Common.{ap, ◌∙◌, is_some}
use Rattle.std.specs.Str.{bytes_eq}
use Rattle.host.specs.Hosts.{HostState}
use Rattle.host.proofs.Names.{is_some-position}
use Rattle.host.proofs.set.HostSet.has.Goals as goal

pub returns : goal.returns
returns g c = c.is_some.ensures ∙ ap is_some c.find.ensures.number ∙ is_some-position {A = HostState} (λ host. bytes_eq host.name c.args.name.now) _
