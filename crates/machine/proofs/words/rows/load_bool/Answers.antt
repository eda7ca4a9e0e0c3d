use Rattle.std.proofs.Common.{◌≡◌, ◌∙◌, ◌==◌, ◌+◌, suc, not, ap, refl, arith, length-set}
use Rattle.std.specs.Prelude.{slice_set, if◌then◌else◌}
use Rattle.std.proofs.lemmas.Bool.{eq-eqb, ne_eqb}
use Rattle.std.proofs.lemmas.List.Elements.{All-set}
use Rattle.opcode.specs.declared.op.Op.TheVariants as op
use Rattle.lua_model.specs.declared.Value.{Value}
use Rattle.lua_model.specs.Datum.{boolean}
use Rattle.lua_heap.specs.State.{IsOf}
use Rattle.lua_heap.proofs.Callers.{keeps_itself}
use Rattle.rules.specs.State.{Goes, set, at_pc}
use Rattle.rules.specs.Calls.{skip}
use Rattle.rules.specs.Step.{effect}
use Rattle.machine.specs.Frames.{showing}
use Rattle.machine.proofs.Showing.{set_is, set_does}
use Rattle.machine.proofs.words.rows.load_bool.Goals as goal

pub returns-then-i-eq0-clause-does : goal.returns-then-i-eq0-clause-does
returns-then-i-eq0-clause-does c h f known =
    let values = c.args.registers.now in
    let i = c.args.i in
    set_does (λ m. effect op.LoadBool m i) h f values c.args.pc i.a (Value.Bool (not (i.b == 0))) known tt c.requires.a
    (λ m runs. let s = showing m h values in ap (λ b. set (if b then s else skip s) i.a (boolean (not (i.b == 0)))) (eq-eqb i.c 0 c.if-i-eq0.true))

pub returns-else-i-eq0-clause-does : goal.returns-else-i-eq0-clause-does
returns-else-i-eq0-clause-does c h f known =
    let values = c.args.registers.now in
    let i = c.args.i in
    let v = Value.Bool (not (i.b == 0)) in
    let behind = slice_set values i.a v in
    record {
      is = λ m runs.
          let s = showing m h values in
          let next : suc c.args.pc ≡ c.args.pc + 1 = omega arith in
          ap (λ b. set (if b then s else skip s) i.a (boolean (not (i.b == 0)))) (ne_eqb i.c 0 c.if-i-eq0.false)
          ∙ set_is (skip m) h values i.a v c.requires.a
          ∙ ap (λ n. Goes (at_pc (showing m h behind) n)) (ap suc runs.pc_is ∙ next);
      known = tt;
      awaited = tt;
      registers = All-set (IsOf h) values i.a v tt known;
      length_is = length-set values i.a v;
      keeps = keeps_itself h;
      only_store = refl;
    }
