use Rattle.std.proofs.Common.{sym, ap}
use Rattle.core_expr.specs.Values.{view_core, operands_of}
use Rattle.core_expr.proofs.CoreViews.{view_operands_list}
use Rattle.core_expr.proofs.paths.field_path.Goals as goal

pub returns-in-Index-clause-path : goal.returns-in-Index-clause-path
returns-in-Index-clause-path c =
    rw (ap view_core c.in-Index.is) (rw (view_operands_list c.in-Index.keys) (rw (sym (ap operands_of c.items.ensures.items)) (rw (sym (ap view_core c.deref.ensures)) c.long_path.ensures.path)))

pub returns-in-Index-clause-refused : goal.returns-in-Index-clause-refused
returns-in-Index-clause-refused c refusal =
    rw (ap view_core c.in-Index.is) (rw (view_operands_list c.in-Index.keys) (rw (sym (ap operands_of c.items.ensures.items)) (rw (sym (ap view_core c.deref.ensures)) (c.long_path.ensures.refused refusal))))

pub returns-in-Index-clause-able : goal.returns-in-Index-clause-able
returns-in-Index-clause-able c =
    rw (ap view_core c.in-Index.is) (rw (view_operands_list c.in-Index.keys) (rw (sym (ap operands_of c.items.ensures.items)) (rw (sym (ap view_core c.deref.ensures)) c.long_path.ensures.able)))
