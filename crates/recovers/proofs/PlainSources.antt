-- A plain source is, with its comparisons of locals turned, one whose parts are such as come back.
use Rattle.std.proofs.Common.{◌≤◌, ◌∙◌, subst, sym}
use Rattle.scheme_order.proofs.TurnedPlain.{turned_plain}
use Rattle.scheme_order.specs.Turned.{TurnedAreAlike, turned}
use Rattle.recovers.specs.PlainSources.{PlainSourcesAreFlow}
use Rattle.recovers.proofs.PlainHolds.{plain_holds, ordered_holds}
use Rattle.scheme_order.proofs.TurnedOrdered.{turned_source_is_ordered}
use Rattle.recovers.proofs.TurnedRoom.{turned_room}

pub plain_are_flow : TurnedAreAlike → PlainSourcesAreFlow
plain_are_flow turn chunk of =
    let source = of.source in
    let both = turn source of.formed of.plain in
    let alike = both.1 in
    let ordered = turned_source_is_ordered source in
    record {
      source = turned source;
      name = of.name;
      formed = both.0;
      scoped = alike.scoped of.scoped;
      fits = alike.fits of.fits;
      deep = 200;
      blocks = plain_holds (turned source) both.0 (alike.scoped of.scoped) (turned_plain source of.plain) ordered;
      ordered = ordered_holds (turned source) ordered;
      room = subst (λ levels. levels ≤ 200) (sym (turned_room source)) of.room;
      same = of.same ∙ alike.same of.name;
    }
