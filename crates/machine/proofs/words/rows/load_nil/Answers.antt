use Rattle.std.proofs.Common.{◌≡◌, ◌∙◌, ◌-◌, suc, [], ap, sym, refl, arith}
use Rattle.lua_heap.proofs.Callers.{keeps_itself}
use Rattle.lua_model.specs.Datum.{adjusted}
use Rattle.rules.specs.State.{set_all}
use Rattle.machine.specs.Frames.{showing}
use Rattle.machine.proofs.Rows.{adjusted_none}
use Rattle.machine.proofs.words.rows.load_nil.Goals as goal

pub returns-clause-does : goal.returns-clause-does
returns-clause-does c h f pc known =
    let values = c.args.registers.now in
    let i = c.args.i in
    let count : suc i.b - i.a ≡ c.saturating_sub-count.result = omega (arith, c.saturating_sub-count.ensures) in
    record {
      is = λ m runs.
          let s = showing m h values in
          ap (set_all s i.a) (sym (adjusted_none (suc i.b - i.a)))
          ∙ ap (λ n. set_all s i.a (adjusted n [])) count
          ∙ c.put_all.ensures.put h m;
      known = tt;
      awaited = tt;
      registers = c.put_all.ensures.known h known (λ k d within. absurd (omega (arith, within)));
      length_is = c.put_all.ensures.length_is;
      keeps = keeps_itself h;
      only_store = refl;
    }
