use Rattle.std.proofs.Common.{◌∙◌, ◌==◌, ℕ, Bool, true, false, not, refl, sym, ap, length-set}
use Rattle.std.specs.Prelude.{slice_set, if◌then◌else◌}
use Rattle.std.proofs.lemmas.Bool.{eq-eqb, ne_eqb}
use Rattle.std.proofs.lemmas.List.{map-set}
use Rattle.std.proofs.lemmas.List.Elements.{All-set}
use Rattle.opcode.specs.declared.op.Op.TheVariants as op
use Rattle.opcode.specs.Word.{truth_field}
use Rattle.lua_model.specs.Datum.{Datum, is_true}
use Rattle.lua_heap.specs.State.{datum, IsOf}
use Rattle.lua_heap.proofs.Callers.{keeps_itself}
use Rattle.rules.specs.State.{State, Effect, need, register, with_registers}
use Rattle.rules.specs.Calls.{branch}
use Rattle.rules.specs.Step.{effect}
use Rattle.machine.specs.Frames.{showing}
use Rattle.machine.proofs.Showing.{one_need, there, shown_runs, jmp_need, same_does}
use Rattle.machine.proofs.words.tests.test_set.Goals as goal

-- what TESTSET does with the value v, which is taken as true or false so
abbrev rest : State → ℕ → Datum → Bool → Effect
rest s a v b =
    if b then branch s false else need (register s a) (λ old. branch (with_registers s (slice_set s.top.registers a v)) true)

pub returns-then-false_field-i-clause-does : goal.returns-then-false_field-i-clause-does
returns-then-false_field-i-clause-does c h known =
    let values = c.args.registers.now in
    let f = c.args.function.now in
    let i = c.args.i in
    let v = datum h c.register-v.result in
    same_does (λ m. effect op.TestSet m i) h f values c.args.pc c.branch-function.result known (c.branch-function.ensures.known h) (c.branch-function.ensures.awaited f values c.args.pc)
    (λ m runs.
    let s = showing m h values in
    let on = shown_runs m h f values c.args.pc runs in
    jmp_need s h f c.args.pc c.requires.jmp on (λ d. need (register s i.b) (λ v. rest s i.a v (truth_field (not (is_true v)) == i.c)))
    ∙ one_need (register s i.b) v (λ v. rest s i.a v (truth_field (not (is_true v)) == i.c)) (c.register-v.ensures.value h)
    ∙ ap (λ n. rest s i.a v (n == i.c)) (sym (c.false_field.ensures h))
    ∙ ap (rest s i.a v) (eq-eqb c.false_field.result i.c c.if-false_field-i.true)
    ∙ c.branch-function.ensures.did h s on)

pub returns-clause-does : goal.returns-clause-does
returns-clause-does c h known =
    let values = c.args.registers.now in
    let f = c.args.function.now in
    let i = c.args.i in
    let w = c.register-v.result in
    let v = datum h w in
    let set = slice_set values i.a w in
    record {
      is = λ m runs.
          let s = showing m h values in
          jmp_need s h f c.args.pc c.requires.jmp (shown_runs m h f values c.args.pc runs) (λ d. need (register s i.b) (λ v. rest s i.a v (truth_field (not (is_true v)) == i.c)))
          ∙ one_need (register s i.b) v (λ v. rest s i.a v (truth_field (not (is_true v)) == i.c)) (c.register-v.ensures.value h)
          ∙ ap (λ n. rest s i.a v (n == i.c)) (sym (c.false_field.ensures h))
          ∙ ap (rest s i.a v) (ne_eqb c.false_field.result i.c c.if-false_field-i.false)
          ∙ ap (λ o. need o (λ old. branch (with_registers s (slice_set s.top.registers i.a v)) true)) (there m h values i.a c.requires.a).1
          ∙ ap (λ ds. branch (with_registers s ds) true) (sym (map-set (datum h) values i.a w))
          ∙ c.branch-function-2.ensures.did h (showing m h set) (shown_runs m h f set c.args.pc runs);
      known = c.branch-function-2.ensures.known h;
      awaited = c.branch-function-2.ensures.awaited c.args.function.now _ c.args.pc;
      registers = All-set (IsOf h) values i.a w (c.register-v.ensures.known h known) known;
      length_is = length-set values i.a w;
      keeps = keeps_itself h;
      only_store = refl;
    }
