use Rattle.std.proofs.lemmas.Result.{IfOk-weaker}
use Rattle.opcode.specs.declared.op.Op.{Op}
use Rattle.machine.proofs.QuickSteps.{for_op}
use Rattle.machine.proofs.words.performing.perform.Goals as goal

pub returns-in-GetTable : goal.returns-in-GetTable
returns-in-GetTable c = IfOk-weaker c.get_table.result _ _ (λ did does. for_op c.args.i Op.GetTable c.in-GetTable.is (does c.args.pc)) c.get_table.ensures

pub returns-in-SetGlobal : goal.returns-in-SetGlobal
returns-in-SetGlobal c = IfOk-weaker c.set_global.result _ _ (λ did does. for_op c.args.i Op.SetGlobal c.in-SetGlobal.is (does c.args.pc)) c.set_global.ensures

pub returns-in-SetTable : goal.returns-in-SetTable
returns-in-SetTable c = IfOk-weaker c.set_table.result _ _ (λ did does. for_op c.args.i Op.SetTable c.in-SetTable.is (does c.args.pc)) c.set_table.ensures

pub returns-in-NewTable : goal.returns-in-NewTable
returns-in-NewTable c = IfOk-weaker c.new_table.result _ _ (λ did does. for_op c.args.i Op.NewTable c.in-NewTable.is (does c.args.function.now c.args.pc)) c.new_table.ensures

pub returns-in-Self_ : goal.returns-in-Self_
returns-in-Self_ c = IfOk-weaker c.get_method.result _ _ (λ did does. for_op c.args.i Op.Self_ c.in-Self_.is (does c.args.pc)) c.get_method.ensures

pub returns-in-Add : goal.returns-in-Add
returns-in-Add c = IfOk-weaker c.do_arith.result _ _ (λ did does. for_op c.args.i Op.Add c.in-Add.is (does c.args.pc)) c.do_arith.ensures

pub returns-in-Sub : goal.returns-in-Sub
returns-in-Sub c = IfOk-weaker c.do_arith-in-Sub.result _ _ (λ did does. for_op c.args.i Op.Sub c.in-Sub.is (does c.args.pc)) c.do_arith-in-Sub.ensures

pub returns-in-Mul : goal.returns-in-Mul
returns-in-Mul c = IfOk-weaker c.do_arith-in-Mul.result _ _ (λ did does. for_op c.args.i Op.Mul c.in-Mul.is (does c.args.pc)) c.do_arith-in-Mul.ensures

pub returns-in-Div : goal.returns-in-Div
returns-in-Div c = IfOk-weaker c.do_arith-in-Div.result _ _ (λ did does. for_op c.args.i Op.Div c.in-Div.is (does c.args.pc)) c.do_arith-in-Div.ensures

pub returns-in-Mod : goal.returns-in-Mod
returns-in-Mod c = IfOk-weaker c.do_arith-in-Mod.result _ _ (λ did does. for_op c.args.i Op.Mod c.in-Mod.is (does c.args.pc)) c.do_arith-in-Mod.ensures

pub returns-in-Pow : goal.returns-in-Pow
returns-in-Pow c = IfOk-weaker c.do_arith-in-Pow.result _ _ (λ did does. for_op c.args.i Op.Pow c.in-Pow.is (does c.args.pc)) c.do_arith-in-Pow.ensures

pub returns-in-Unm : goal.returns-in-Unm
returns-in-Unm c = IfOk-weaker c.do_negate.result _ _ (λ did does. for_op c.args.i Op.Unm c.in-Unm.is (does c.args.function.now c.args.pc)) c.do_negate.ensures

pub returns-in-Len : goal.returns-in-Len
returns-in-Len c = IfOk-weaker c.do_length.result _ _ (λ did does. for_op c.args.i Op.Len c.in-Len.is (does c.args.function.now c.args.pc)) c.do_length.ensures

pub returns-in-Concat : goal.returns-in-Concat
returns-in-Concat c = IfOk-weaker c.concat.result _ _ (λ did does. for_op c.args.i Op.Concat c.in-Concat.is (does c.args.function.now c.args.pc)) c.concat.ensures

pub returns-in-ForPrep : goal.returns-in-ForPrep
returns-in-ForPrep c = IfOk-weaker c.for_prepare.result _ _ (λ did does. for_op c.args.i Op.ForPrep c.in-ForPrep.is (does c.args.function.now)) c.for_prepare.ensures
