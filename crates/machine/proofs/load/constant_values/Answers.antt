use Rattle.std.proofs.Common.{◌∙◌, List, [], map, ap, subst, sym}
use Rattle.std.proofs.lemmas.List.{take_all}
use Rattle.lua_model.specs.declared.Value.{Value}
use Rattle.rules.specs.State.{value_of}
use Rattle.meta_ops.proofs.Tries.{grown_itself, grown_both}
use Rattle.machine.proofs.Loading.{AreConstants, no_constants, constants_more}
use Rattle.machine.proofs.load.constant_values.Goals as goal

pub loop-constant-init : goal.loop-constant-init
loop-constant-init c =
    let heap = c.args.heap.now in
    record {
      so_far = subst (λ (vs : List Value). AreConstants heap [] vs) (sym c.new-values.ensures.items) (no_constants heap);
      grown = grown_itself heap;
    }

pub loop-constant-preserved : goal.loop-constant-preserved
loop-constant-preserved c =
    let now = c.loop-constant.heap in
    let behind = c.constant_value.new.heap in
    let so = c.loop-constant.invariant in
    record {
      so_far = constants_more now behind c.args.constants.now c.loop-constant.constant-index c.constant-item.result c.loop-constant.values.items c.push.new.self.items c.in_ok-value.value c.loop-constant-test.true c.constant-item.is c.constant_value.ensures.grown.keeps so.so_far c.in_ok-value.ensures.value c.in_ok-value.ensures.known c.in_ok-push.ensures.items;
      grown = grown_both c.args.heap.now now behind so.grown c.constant_value.ensures.grown;
    }

pub returns-in_err-value-clause-grown : goal.returns-in_err-value-clause-grown
returns-in_err-value-clause-grown c =
    grown_both c.args.heap.now c.loop-constant.heap c.constant_value.new.heap c.loop-constant.invariant.grown c.constant_value.ensures.grown

pub returns-clause-values : goal.returns-clause-values
returns-clause-values c =
    ap (map value_of) (sym (take_all c.loop-constant.constant-index c.args.constants.now c.loop-constant-test.false)) ∙ c.loop-constant.invariant.so_far.same
