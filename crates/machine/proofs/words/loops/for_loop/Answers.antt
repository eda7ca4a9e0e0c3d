use Rattle.std.proofs.Common.{SFits, w32, w64, to_z-of_z, rules, ◌≡◌, ◌∙◌, ◌+◌, List, ap, sym, refl, subst, length-set, arith}
use Rattle.std.specs.Prelude.{slice_set}
use Rattle.std.proofs.lemmas.List.Elements.{All-set}
use Rattle.opcode.specs.declared.op.Op.TheVariants as op
use Rattle.lua_model.specs.declared.Value.{Value}
use Rattle.lua_model.specs.declared.Value.TheVariants.{Number}
use Rattle.lua_heap.specs.State.{IsOf}
use Rattle.lua_heap.proofs.Callers.{keeps_itself}
use Rattle.rules.specs.Step.{effect, turn_loop}
use Rattle.machine.specs.Frames.{showing}
use Rattle.machine.specs.declared.did.Did.{Did}
use Rattle.machine.specs.Words.{Does}
use Rattle.machine.proofs.Loops.{counted, goes_round}
use Rattle.machine.proofs.words.loops.for_loop.Goals as goal

pub returns-then-goes_on-clause-does : goal.returns-then-goes_on-clause-does
returns-then-goes_on-clause-does c h f known =
    let values = c.args.registers.now in
    let i = c.args.i in
    let now = c.add-now.result in
    let first_fits : SFits w64 c.loop_number-first.result = search rules in
    let limit_fits : SFits w64 c.loop_number-limit.result = search rules in
    let step_fits : SFits w64 c.loop_number-step.result = search rules in
    let now_fits : SFits w64 now = search rules in
    let added = simp to_z-of_z at c.add-now.ensures in
    let goes = simp to_z-of_z at c.goes_on.ensures in
    let put_one = simp to_z-of_z at c.put_number.ensures in
    let put_two = simp to_z-of_z at c.put_number-then-goes_on.ensures in
    let distance_fits : SFits w32 i.sbx = search rules in
    let to = simp to_z-of_z at c.jump.ensures in
    let one = slice_set values i.a (Number now) in
    let two = slice_set one (i.a + 3) (Number now) in
    let is_two : c.put_number-then-goes_on.new.registers ≡ two = put_two ∙ ap (λ (vs : List Value). slice_set vs (i.a + 3) (Number now)) put_one in
    let behind : Does (λ m. effect op.ForLoop m i) h h f values two c.args.pc (Did.Jumps c.jump.result) = record {
      is = λ m runs.
          counted m h values i c.loop_number-first.result c.loop_number-limit.result c.loop_number-step.result now c.goes_on.result c.loop_number-first.ensures c.loop_number-limit.ensures c.loop_number-step.ensures added goes
          ∙ ap (turn_loop (showing m h one) i now) c.if-goes_on.true
          ∙ goes_round m h one i now c.args.pc c.jump.result (omega (arith, c.requires.variable, length-set values i.a (Number now))) runs.pc_is to;
      known = tt;
      awaited = tt;
      registers = All-set (IsOf h) one (i.a + 3) (Number now) tt (All-set (IsOf h) values i.a (Number now) tt known);
      length_is = length-set one (i.a + 3) (Number now) ∙ length-set values i.a (Number now);
      keeps = keeps_itself h;
      only_store = refl;
    } in
    subst (λ (vs : List Value). Does (λ m. effect op.ForLoop m i) h h f values vs c.args.pc (Did.Jumps c.jump.result)) (sym is_two) behind

pub returns-else-goes_on-clause-does : goal.returns-else-goes_on-clause-does
returns-else-goes_on-clause-does c h f known =
    let values = c.args.registers.now in
    let i = c.args.i in
    let now = c.add-now.result in
    let first_fits : SFits w64 c.loop_number-first.result = search rules in
    let limit_fits : SFits w64 c.loop_number-limit.result = search rules in
    let step_fits : SFits w64 c.loop_number-step.result = search rules in
    let now_fits : SFits w64 now = search rules in
    let added = simp to_z-of_z at c.add-now.ensures in
    let goes = simp to_z-of_z at c.goes_on.ensures in
    let put_one = simp to_z-of_z at c.put_number.ensures in
    let one = slice_set values i.a (Number now) in
    let behind : Does (λ m. effect op.ForLoop m i) h h f values one c.args.pc Did.Next = record {
      is = λ m runs.
          counted m h values i c.loop_number-first.result c.loop_number-limit.result c.loop_number-step.result now c.goes_on.result c.loop_number-first.ensures c.loop_number-limit.ensures c.loop_number-step.ensures added goes
          ∙ ap (turn_loop (showing m h one) i now) c.if-goes_on.false;
      known = tt;
      awaited = tt;
      registers = All-set (IsOf h) values i.a (Number now) tt known;
      length_is = length-set values i.a (Number now);
      keeps = keeps_itself h;
      only_store = refl;
    } in
    subst (λ (vs : List Value). Does (λ m. effect op.ForLoop m i) h h f values vs c.args.pc Did.Next) (sym put_one) behind
