use Rattle.proto.specs.View.{view_proto}
use Rattle.global_use.proofs.Laws.{gets_alone_matter, sets_alone_change}
use Rattle.global_use.proofs.Lines.{lines_tell, if_ok_all, empty_has_none}
use Rattle.global_use.proofs.global_text.Goals as goal

pub returns-in_err-add_function-clause-gets : goal.returns-in_err-add_function-clause-gets
returns-in_err-add_function-clause-gets c = gets_alone_matter (view_proto c.args.proto.now)

pub returns-in_err-add_function-clause-sets : goal.returns-in_err-add_function-clause-sets
returns-in_err-add_function-clause-sets c = sets_alone_change (view_proto c.args.proto.now)

pub returns-clause-text : goal.returns-clause-text
returns-clause-text c =
    if_ok_all c.text_of.result _ _ _ _
    (lines_tell (view_proto c.args.proto.now) c.new-names.result c.add_function.new.names (empty_has_none c.new-names.result c.new-names.ensures.empty) c.in_ok-add_function.ensures)
    c.text_of.ensures.text c.text_of.ensures.in_order c.text_of.ensures.found

pub returns-clause-gets : goal.returns-clause-gets
returns-clause-gets c = gets_alone_matter (view_proto c.args.proto.now)

pub returns-clause-sets : goal.returns-clause-sets
returns-clause-sets c = sets_alone_change (view_proto c.args.proto.now)
