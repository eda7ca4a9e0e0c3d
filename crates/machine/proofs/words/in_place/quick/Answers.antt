use Rattle.opcode.specs.declared.op.Op.{Op}
use Rattle.machine.specs.Frames.{showing}
use Rattle.machine.proofs.QuickSteps.{done_word, for_word, if_some, needs_word, none_weaker}
use Rattle.machine.proofs.words.in_place.quick.Goals as goal

pub returns-in-Move-clause-some : goal.returns-in-Move-clause-some
returns-in-Move-clause-some c = done_word c.args.word c.abc.result c.abc.ensures Op.Move c.copy.result c.pc_behind.result c.in-Move.is c.copy.ensures.step c.pc_behind.ensures (c.copy.ensures.does c.args.heap.now c.args.function.now c.args.pc c.requires.known.registers)

pub returns-in-LoadK-clause-some : goal.returns-in-LoadK-clause-some
returns-in-LoadK-clause-some c = done_word c.args.word c.abx.result c.abx.ensures Op.LoadK c.load_constant.result c.pc_behind-in-LoadK.result c.in-LoadK.is c.load_constant.ensures.step c.pc_behind-in-LoadK.ensures (c.load_constant.ensures.does c.args.heap.now c.args.pc c.requires.known)

pub returns-in-LoadBool-clause-some : goal.returns-in-LoadBool-clause-some
returns-in-LoadBool-clause-some c = done_word c.args.word c.abc-in-LoadBool.result c.abc-in-LoadBool.ensures Op.LoadBool c.load_bool.result c.pc_behind-in-LoadBool.result c.in-LoadBool.is c.load_bool.ensures.step c.pc_behind-in-LoadBool.ensures (c.load_bool.ensures.does c.args.heap.now c.args.function.now c.requires.known.registers)

pub returns-in-LoadNil-clause-some : goal.returns-in-LoadNil-clause-some
returns-in-LoadNil-clause-some c = done_word c.args.word c.abc-in-LoadNil.result c.abc-in-LoadNil.ensures Op.LoadNil c.load_nil.result c.pc_behind-in-LoadNil.result c.in-LoadNil.is c.load_nil.ensures.step c.pc_behind-in-LoadNil.ensures (c.load_nil.ensures.does c.args.heap.now c.args.function.now c.args.pc c.requires.known.registers)

pub returns-in-Not-clause-some : goal.returns-in-Not-clause-some
returns-in-Not-clause-some c = done_word c.args.word c.abc-in-Not.result c.abc-in-Not.ensures Op.Not c.do_not.result c.pc_behind-in-Not.result c.in-Not.is c.do_not.ensures.step c.pc_behind-in-Not.ensures (c.do_not.ensures.does c.args.heap.now c.args.function.now c.args.pc c.requires.known.registers)

pub returns-in-Test-clause-some : goal.returns-in-Test-clause-some
returns-in-Test-clause-some c = done_word c.args.word c.abc-in-Test.result c.abc-in-Test.ensures Op.Test c.test.result c.pc_behind-in-Test.result c.in-Test.is c.test.ensures.step c.pc_behind-in-Test.ensures (c.test.ensures.does c.args.heap.now c.requires.known.registers)

pub returns-in-TestSet-clause-some : goal.returns-in-TestSet-clause-some
returns-in-TestSet-clause-some c = done_word c.args.word c.abc-in-TestSet.result c.abc-in-TestSet.ensures Op.TestSet c.test_set.result c.pc_behind-in-TestSet.result c.in-TestSet.is c.test_set.ensures.step c.pc_behind-in-TestSet.ensures (c.test_set.ensures.does c.args.heap.now c.requires.known.registers)

pub returns-in-ForLoop-clause-some : goal.returns-in-ForLoop-clause-some
returns-in-ForLoop-clause-some c = done_word c.args.word c.asbx-in-ForLoop.result c.asbx-in-ForLoop.ensures Op.ForLoop c.for_loop.result c.pc_behind-in-ForLoop.result c.in-ForLoop.is c.for_loop.ensures.step c.pc_behind-in-ForLoop.ensures (c.for_loop.ensures.does c.args.heap.now c.args.function.now c.requires.known.registers)

pub returns-in-Add-clause-some : goal.returns-in-Add-clause-some
returns-in-Add-clause-some c = if_some c.quick_arith.result _ _ (λ next does. for_word c.args.word c.abc-in-Add.result c.abc-in-Add.ensures Op.Add c.in-Add.is (does c.args.heap.now c.requires.known)) c.quick_arith.ensures.some

pub returns-in-Sub-clause-some : goal.returns-in-Sub-clause-some
returns-in-Sub-clause-some c = if_some c.quick_arith-in-Sub.result _ _ (λ next does. for_word c.args.word c.abc-in-Sub.result c.abc-in-Sub.ensures Op.Sub c.in-Sub.is (does c.args.heap.now c.requires.known)) c.quick_arith-in-Sub.ensures.some

pub returns-in-Mul-clause-some : goal.returns-in-Mul-clause-some
returns-in-Mul-clause-some c = if_some c.quick_arith-in-Mul.result _ _ (λ next does. for_word c.args.word c.abc-in-Mul.result c.abc-in-Mul.ensures Op.Mul c.in-Mul.is (does c.args.heap.now c.requires.known)) c.quick_arith-in-Mul.ensures.some

pub returns-in-Div-clause-some : goal.returns-in-Div-clause-some
returns-in-Div-clause-some c = if_some c.quick_arith-in-Div.result _ _ (λ next does. for_word c.args.word c.abc-in-Div.result c.abc-in-Div.ensures Op.Div c.in-Div.is (does c.args.heap.now c.requires.known)) c.quick_arith-in-Div.ensures.some

pub returns-in-Mod-clause-some : goal.returns-in-Mod-clause-some
returns-in-Mod-clause-some c = if_some c.quick_arith-in-Mod.result _ _ (λ next does. for_word c.args.word c.abc-in-Mod.result c.abc-in-Mod.ensures Op.Mod c.in-Mod.is (does c.args.heap.now c.requires.known)) c.quick_arith-in-Mod.ensures.some

pub returns-in-Pow-clause-some : goal.returns-in-Pow-clause-some
returns-in-Pow-clause-some c = if_some c.quick_arith-in-Pow.result _ _ (λ next does. for_word c.args.word c.abc-in-Pow.result c.abc-in-Pow.ensures Op.Pow c.in-Pow.is (does c.args.heap.now c.requires.known)) c.quick_arith-in-Pow.ensures.some

pub returns-in-Eq-clause-some : goal.returns-in-Eq-clause-some
returns-in-Eq-clause-some c = if_some c.quick_compare.result _ _ (λ next does. for_word c.args.word c.abc-in-Eq.result c.abc-in-Eq.ensures Op.Eq c.in-Eq.is (does c.args.heap.now c.requires.known)) c.quick_compare.ensures.some

pub returns-in-Lt-clause-some : goal.returns-in-Lt-clause-some
returns-in-Lt-clause-some c = if_some c.quick_compare-in-Lt.result _ _ (λ next does. for_word c.args.word c.abc-in-Lt.result c.abc-in-Lt.ensures Op.Lt c.in-Lt.is (does c.args.heap.now c.requires.known)) c.quick_compare-in-Lt.ensures.some

pub returns-in-Le-clause-some : goal.returns-in-Le-clause-some
returns-in-Le-clause-some c = if_some c.quick_compare-in-Le.result _ _ (λ next does. for_word c.args.word c.abc-in-Le.result c.abc-in-Le.ensures Op.Le c.in-Le.is (does c.args.heap.now c.requires.known)) c.quick_compare-in-Le.ensures.some

pub returns-in-GetGlobal-clause-some : goal.returns-in-GetGlobal-clause-some
returns-in-GetGlobal-clause-some c = done_word c.args.word c.abx-in-GetGlobal.result c.abx-in-GetGlobal.ensures Op.GetGlobal c.get_global.result c.pc_behind-in-GetGlobal.result c.in-GetGlobal.is c.get_global.ensures.step c.pc_behind-in-GetGlobal.ensures (c.get_global.ensures.does c.args.pc)

pub returns-in-ForPrep-clause-some : goal.returns-in-ForPrep-clause-some
returns-in-ForPrep-clause-some c = if_some c.quick_prepare.result _ _ (λ next does. for_word c.args.word c.asbx-in-ForPrep.result c.asbx-in-ForPrep.ensures Op.ForPrep c.in-ForPrep.is (does c.args.function.now)) c.quick_prepare.ensures.some

pub returns-in-ForPrep-clause-taken : goal.returns-in-ForPrep-clause-taken
returns-in-ForPrep-clause-taken c =
    let i = c.asbx-in-ForPrep.result in
    none_weaker c.quick_prepare.result _ _
    (λ taken m runs needs.
    taken m (needs_word c.args.word i c.asbx-in-ForPrep.ensures Op.ForPrep c.in-ForPrep.is (showing m c.args.heap.now c.args.registers.now) needs))
    c.quick_prepare.ensures.taken

pub returns-in-GetTable-clause-some : goal.returns-in-GetTable-clause-some
returns-in-GetTable-clause-some c = if_some c.get_entry.result _ _ (λ next does. for_word c.args.word c.abc-in-GetTable.result c.abc-in-GetTable.ensures Op.GetTable c.in-GetTable.is does) c.get_entry.ensures.some

pub returns-in-SetTable-clause-some : goal.returns-in-SetTable-clause-some
returns-in-SetTable-clause-some c = if_some c.set_entry.result _ _ (λ next does. for_word c.args.word c.abc-in-SetTable.result c.abc-in-SetTable.ensures Op.SetTable c.in-SetTable.is does) c.set_entry.ensures.some

pub returns-in-Self_-clause-some : goal.returns-in-Self_-clause-some
returns-in-Self_-clause-some c = if_some c.get_method_entry.result _ _ (λ next does. for_word c.args.word c.abc-in-Self_.result c.abc-in-Self_.ensures Op.Self_ c.in-Self_.is does) c.get_method_entry.ensures.some

pub returns-in-GetTable-clause-taken : goal.returns-in-GetTable-clause-taken
returns-in-GetTable-clause-taken c =
    let i = c.abc-in-GetTable.result in
    none_weaker c.get_entry.result _ _
    (λ taken m runs needs.
    taken m runs (needs_word c.args.word i c.abc-in-GetTable.ensures Op.GetTable c.in-GetTable.is (showing m c.args.heap.now c.args.registers.now) needs))
    c.get_entry.ensures.taken

pub returns-in-SetTable-clause-taken : goal.returns-in-SetTable-clause-taken
returns-in-SetTable-clause-taken c =
    let i = c.abc-in-SetTable.result in
    none_weaker c.set_entry.result _ _
    (λ taken m runs needs.
    taken m runs (needs_word c.args.word i c.abc-in-SetTable.ensures Op.SetTable c.in-SetTable.is (showing m c.args.heap.now c.args.registers.now) needs))
    c.set_entry.ensures.taken

pub returns-in-Self_-clause-taken : goal.returns-in-Self_-clause-taken
returns-in-Self_-clause-taken c =
    let i = c.abc-in-Self_.result in
    none_weaker c.get_method_entry.result _ _
    (λ taken m runs needs.
    let such = needs_word c.args.word i c.abc-in-Self_.ensures Op.Self_ c.in-Self_.is (showing m c.args.heap.now c.args.registers.now) needs in
    taken m runs such.0 such.1)
    c.get_method_entry.ensures.taken
