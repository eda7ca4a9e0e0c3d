use Rattle.std.proofs.Common.{ap, sym, subst, ◌∙◌, ◌<◌, length}
use Rattle.host.specs.Hosts.{last_reply}
use Rattle.host.proofs.Slots.{last_reply-at}
use Rattle.host.proofs.set.HostSet.last_reply.Goals as goal

pub returns : goal.returns
returns g c =
    last_reply-at c.items-entries.result.now c.index-entries-entries.result (subst (λ log. 0 < length log) (sym c.items-entries.ensures) c.requires) ∙ ap last_reply c.items-entries.ensures
