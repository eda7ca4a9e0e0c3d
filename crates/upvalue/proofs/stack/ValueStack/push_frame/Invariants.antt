use Rattle.std.proofs.Common.{◌≡◌, ◌+◌, ◌≤◌, ◌++◌, length, replicate, vec_capacity}
use Rattle.lua_model.specs.declared.Value.TheVariants.{Nil}
use Rattle.upvalue.proofs.stack.ValueStack.push_frame.Given as goal

abbrev pub invariant-loop : goal.invariant-loop
invariant-loop l =
    let s = l.self-inside in
    let first = l.initial.self-inside in record {
      values : s.values.items ≡ first.values.items ++ replicate l.counter Nil;
      base : s.base ≡ first.base;
      bases : s.bases ≡ first.bases;
      shared : s.shared ≡ first.shared;
      room : length first.values.items + l.registers ≤ vec_capacity s.values;
    }
