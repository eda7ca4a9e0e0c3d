use Rattle.std.proofs.Common.{◌∙◌, List, [], map, ap, subst, sym}
use Rattle.std.proofs.lemmas.List.{take_all}
use Rattle.lua_model.specs.declared.Value.{Value}
use Rattle.lua_model.specs.Store.{as_datum}
use Rattle.meta_ops.proofs.Tries.{grown_itself, grown_both}
use Rattle.machine.proofs.PlainValues.{ArePlain, none_plain, plain_more}
use Rattle.machine.proofs.calling.applying.reply_values.Goals as goal

pub loop-item-init : goal.loop-item-init
loop-item-init c =
    let heap = c.args.heap.now in
    record {
      so_far = subst (λ (vs : List Value). ArePlain heap [] vs) (sym c.new-values.ensures) (none_plain heap);
      grown = grown_itself heap;
    }

pub loop-item-preserved : goal.loop-item-preserved
loop-item-preserved c =
    let now = c.loop-item.heap in
    let behind = c.reply_value.new.heap in
    let so = c.loop-item.invariant in
    record {
      so_far = plain_more now behind c.args.plain.now c.loop-item.item-index c.item-item.result c.loop-item.values c.push.new.self c.in_ok-value.value c.loop-item-test.true c.item-item.is c.reply_value.ensures.grown.keeps so.so_far c.in_ok-value.ensures.value c.in_ok-value.ensures.known c.in_ok-push.ensures.ok;
      grown = grown_both c.args.heap.now now behind so.grown c.reply_value.ensures.grown;
    }

pub returns-in_err-value-clause-grown : goal.returns-in_err-value-clause-grown
returns-in_err-value-clause-grown c =
    grown_both c.args.heap.now c.loop-item.heap c.reply_value.new.heap c.loop-item.invariant.grown c.reply_value.ensures.grown

pub returns-clause-values : goal.returns-clause-values
returns-clause-values c =
    ap (map as_datum) (sym (take_all c.loop-item.item-index c.args.plain.now c.loop-item-test.false)) ∙ c.loop-item.invariant.so_far.same
