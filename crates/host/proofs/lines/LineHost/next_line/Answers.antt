use Rattle.std.proofs.Common.{ap, ◌≡◌, ◌<◌, ◌∙◌, length, subst, rules, IfSome}
use Rattle.std.specs.Io.BufRead.{take_through}
use Rattle.host.proofs.LineFronts.{reply_of_line}
use Rattle.host.proofs.lines.LineHost.next_line.Goals as goal

pub returns-clause-answers : goal.returns-clause-answers
returns-clause-answers g c =
    let line = c.in-Ok.line.items in
    let some : 0 < length line = search rules in
    let read = subst (λ known. IfSome known (λ bytes. line ≡ take_through 10 bytes)) (ap (λ s. s.left) c.self.view_is) c.in-Ok.ensures.bytes in
    reply_of_line c.args.self.now.left line c.from_vec.result read some c.in-Ok.ensures.short (c.from_vec.ensures ∙ c.drop_line_end.ensures)
