use Rattle.std.proofs.Common.{SFits, w32, w64, to_z-of_z, rules, ◌≡◌, ◌∙◌, ◌+◌, List, ap, sym, refl, subst}
use Rattle.std.specs.Prelude.{slice_set}
use Rattle.opcode.specs.declared.op.Op.TheVariants as op
use Rattle.lua_model.specs.declared.Value.{Value}
use Rattle.lua_model.specs.declared.Value.TheVariants.{Number}
use Rattle.lua_heap.proofs.Callers.{keeps_itself}
use Rattle.rules.specs.Step.{effect, prepare}
use Rattle.machine.specs.Frames.{showing}
use Rattle.machine.specs.declared.did.Did.{Did}
use Rattle.machine.specs.Words.{Does}
use Rattle.machine.proofs.Loops.{prepares, prepared, three_numbers_in, three_known, length-three}
use Rattle.machine.proofs.words.loops.begin_loop.Goals as goal

pub returns : goal.returns
returns c h f known counted =
    let values = c.args.registers.now in
    let i = c.args.i in
    let first = c.args.first in
    let limit = c.args.limit in
    let step = c.args.step in
    let now = c.sub.result in
    let first_fits : SFits w64 first = search rules in
    let limit_fits : SFits w64 limit = search rules in
    let step_fits : SFits w64 step = search rules in
    let now_fits : SFits w64 now = search rules in
    let distance_fits : SFits w32 i.sbx = search rules in
    let taken = simp to_z-of_z at c.sub.ensures in
    let to = simp to_z-of_z at c.jump.ensures in
    let one = simp to_z-of_z at c.put_number.ensures in
    let two = simp to_z-of_z at c.put_number-2.ensures in
    let three = simp to_z-of_z at c.put_number-3.ensures in
    let behind = three_numbers_in values i.a now limit step in
    let is_behind : c.put_number-3.new.registers ≡ behind =
    three ∙ ap (λ (vs : List Value). slice_set vs (i.a + 2) (Number step)) (two ∙ ap (λ (vs : List Value). slice_set vs (i.a + 1) (Number limit)) one) in
    let does : Does (λ m. effect op.ForPrep m i) h h f values behind c.args.pc (Did.Jumps c.jump.result) = record {
      is = λ m runs.
          prepares m h values i c.requires.there
          ∙ ap (prepare (showing m h values) i) counted
          ∙ prepared m h values i first limit step now c.args.pc c.jump.result taken runs.pc_is to;
      known = tt;
      awaited = tt;
      registers = three_known h values i.a now limit step known;
      length_is = length-three values i.a now limit step;
      keeps = keeps_itself h;
      only_store = refl;
    } in
    subst (λ (vs : List Value). Does (λ m. effect op.ForPrep m i) h h f values vs c.args.pc (Did.Jumps c.jump.result)) (sym is_behind) does
