use Rattle.std.proofs.Common.{sym, ◌∙◌}
use Rattle.parser.proofs.Steps.{finds, refuses, lead_call, lead_call_not}
use Rattle.parser.proofs.Looks.{lead_past, lead_end}
use Rattle.parser.proofs.Passing.{handed_on, copied_some}
use Rattle.parser.proofs.cursor.Cursor.source.Goals as goal

pub returns-in_err-block-clause-refused : goal.returns-in_err-block-clause-refused
returns-in_err-block-clause-refused c = handed_on _ _ _ c.from_residual.ensures.1 (refuses (lead_call_not c.in_err-block.ensures.refused))

pub returns-then-is_some-clause-refused : goal.returns-then-is_some-clause-refused
returns-then-is_some-clause-refused c = refuses (lead_call c.in_ok-block.ensures.found (lead_past _ _ c.kind.ensures (copied_some c.kind.result ∙ (sym c.is_some.ensures ∙ c.if-is_some.true))))

pub returns-clause-found : goal.returns-clause-found
returns-clause-found c = finds (lead_call c.in_ok-block.ensures.found (lead_end _ _ c.kind.ensures (copied_some c.kind.result ∙ (sym c.is_some.ensures ∙ c.if-is_some.false))))
