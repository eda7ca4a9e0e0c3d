use Rattle.std.proofs.Common.{◌+◌, arith, sym, subst}
use Rattle.std.proofs.lemmas.Result.{err_from_is_err_and}
use Rattle.lua_heap.specs.State.{HeapState}
use Rattle.lua_model.specs.Builtins.{builtin_names}
use Rattle.machine.proofs.FirstGlobals.{BuiltinsSet, builtin_passed, builtin_set, builtins_set}
use Rattle.machine.proofs.beginning.set_builtins.Goals as goal
use Rattle.machine.proofs.beginning.set_builtins.Goals.{then-number-ne-IPAIRS_NEXT+in_ok-set_named, else-number-ne-IPAIRS_NEXT}

pub returns-in_err-set_named : goal.returns-in_err-set_named
returns-in_err-set_named c = let p = err_from_is_err_and c.from_residual.result c.from_residual.ensures.1 in rw p.1 tt

pub loop-number-preserved : goal.loop-number-preserved
loop-number-preserved c =
    let number = c.loop-number.number in
    elim c.if-number-ne-IPAIRS_NEXT.branch [
      | then-number-ne-IPAIRS_NEXT+in_ok-set_named w ↦
          subst (λ (h : HeapState). BuiltinsSet builtin_names c.args.heap.now h (number + 1)) (sym w.heap-is)
          (builtin_set w.set_named.new.heap w.builtin_name.result.now c.loop-number.invariant c.loop-number-test.true w.if-number-ne-IPAIRS_NEXT.true w.builtin_name.ensures w.in_ok-set_named.ensures)
      | else-number-ne-IPAIRS_NEXT w ↦
          subst (λ (h : HeapState). BuiltinsSet builtin_names c.args.heap.now h (number + 1)) (sym w.heap-is)
          (builtin_passed c.loop-number.invariant c.loop-number-test.true w.if-number-ne-IPAIRS_NEXT.false)
    ]

pub returns : goal.returns
returns c = builtins_set c.loop-number.invariant (omega (arith, c.loop-number-test.false))
