use Rattle.std.proofs.Common.{subst}
use Rattle.lua_model.specs.declared.Value.{Value}
use Rattle.lua_model.specs.Builtins.{native}
use Rattle.natives.specs.Answers.{Answers, IsActOf, ChangesAs}
use Rattle.machine.proofs.Outcomes.{results_apply, print_applies, native_fails, protects_applies, closes_applies}
use Rattle.machine.proofs.calling.applying.apply_native.Goals as goal
use Rattle.machine.proofs.BrokenOff.{on_err}
use Rattle.machine.proofs.BrokenCalls.{no_apply, closing_broke}

pub returns-in-Values-clause-applies : goal.returns-in-Values-clause-applies
returns-in-Values-clause-applies g c =
    let old = c.args.heap.now in
    let new = c.native.new.heap in
    let args = c.args.args.now in
    let answers = subst (Answers (native c.args.id) old new args) c.in-Values.is c.in_ok-act.ensures.act in
    let known = subst (IsActOf new) c.in-Values.is c.in_ok-act.ensures.known in
    results_apply old new c.args.id args c.args.pieces.now.items _ c.in-Values.values c.requires.named answers known c.native.ensures.only_tables c.native.ensures.keeps

pub returns-in_ok-push-in-Print-clause-applies : goal.returns-in_ok-push-in-Print-clause-applies
returns-in_ok-push-in-Print-clause-applies g c =
    let old = c.args.heap.now in
    let new = c.native.new.heap in
    let args = c.args.args.now in
    let answers = subst (Answers (native c.args.id) old new args) c.in-Print.is c.in_ok-act.ensures.act in
    let only = subst (ChangesAs old new) c.in-Print.is c.in_ok-act.ensures.changes in
    print_applies old new c.args.id args c.args.pieces.now.items c.push.new.self.items _ c.in-Print.piece c.new.result c.requires.named answers c.in_ok-push-in-Print.ensures.items c.new.ensures only c.native.ensures.keeps

pub returns-in-Fail-clause-applies : goal.returns-in-Fail-clause-applies
returns-in-Fail-clause-applies g c =
    let old = c.args.heap.now in
    let new = c.native.new.heap in
    let args = c.args.args.now in
    let answers = subst (Answers (native c.args.id) old new args) c.in-Fail.is c.in_ok-act.ensures.act in
    let known = subst (IsActOf new) c.in-Fail.is c.in_ok-act.ensures.known in
    let only = subst (ChangesAs old new) c.in-Fail.is c.in_ok-act.ensures.changes in
    native_fails old new c.args.id args c.args.pieces.now.items _ c.in-Fail.value c.requires.named answers known only c.native.ensures.keeps

pub returns-in-Protect-clause-applies : goal.returns-in-Protect-clause-applies
returns-in-Protect-clause-applies g c =
    let old = c.args.heap.now in
    let new = c.native.new.heap in
    let args = c.args.args.now in
    let answers = subst (Answers (native c.args.id) old new args) c.in-Protect.is c.in_ok-act.ensures.act in
    let known = subst (IsActOf new) c.in-Protect.is c.in_ok-act.ensures.known in
    let only = subst (ChangesAs old new) c.in-Protect.is c.in_ok-act.ensures.changes in
    protects_applies old new c.args.id args c.args.pieces.now.items _ c.in-Protect.f c.in-Protect.args c.requires.named answers known only c.native.ensures.keeps

pub returns-in_ok-results-in-CloseHost-clause-applies : goal.returns-in_ok-results-in-CloseHost-clause-applies
returns-in_ok-results-in-CloseHost-clause-applies g c =
    let old = c.args.heap.now in
    let new = c.native.new.heap in
    let args = c.args.args.now in
    let answers = subst (Answers (native c.args.id) old new args) c.in-CloseHost.is c.in_ok-act.ensures.act in
    closes_applies old new c.args.id args c.args.pieces.now.items _ _ c.bytes.result.now c.in-CloseHost.name c.close_host-was_live.result c.in_ok-results-in-CloseHost.results c.requires.named answers c.close_host-was_live.ensures c.bytes.ensures c.in_ok-results-in-CloseHost.ensures c.native.ensures.only_tables c.native.ensures.keeps

pub returns-in_err-act-clause-broke_off : goal.returns-in_err-act-clause-broke_off
returns-in_err-act-clause-broke_off g c =
    on_err c.from_residual.result (no_apply (Value.Native c.args.id) c.args.args.now c.args.heap.now _)

pub returns-in_err-push-in-Print-clause-broke_off : goal.returns-in_err-push-in-Print-clause-broke_off
returns-in_err-push-in-Print-clause-broke_off g c =
    on_err c.from_residual-in_err-push-in-Print.result (no_apply (Value.Native c.args.id) c.args.args.now c.args.heap.now _)

pub returns-in_err-results-in-CloseHost-clause-broke_off : goal.returns-in_err-results-in-CloseHost-clause-broke_off
returns-in_err-results-in-CloseHost-clause-broke_off g c =
    let old = c.args.heap.now in
    let new = c.native.new.heap in
    let args = c.args.args.now in
    let answers = subst (Answers (native c.args.id) old new args) c.in-CloseHost.is c.in_ok-act.ensures.act in
    on_err c.from_residual-in_err-results-in-CloseHost.result (closing_broke old new c.args.id args c.args.pieces.now.items _ _ c.bytes.result.now c.in-CloseHost.name c.close_host-was_live.result c.requires.named answers c.close_host-was_live.ensures c.bytes.ensures)
