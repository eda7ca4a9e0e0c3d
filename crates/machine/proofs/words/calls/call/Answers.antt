use Rattle.std.proofs.Common.{◌≡◌, ◌∙◌, ◌+◌, suc, List, ap, sym, subst, refl, arith}
use Rattle.std.specs.Prelude.{option_map}
use Rattle.lua_model.specs.Datum.{Datum}
use Rattle.lua_heap.specs.State.{datum}
use Rattle.lua_heap.proofs.Callers.{keeps_itself}
use Rattle.rules.specs.State as rules
use Rattle.rules.specs.State.{State, Effect, register, with_results}
use Rattle.rules.specs.Calls.{call as call_in}
use Rattle.rules.specs.Step.{listed, count_of, landing_of as landing_in}
use Rattle.machine.specs.Frames.{data_of, showing, results_of}
use Rattle.machine.specs.Words.{AreResultsThere}
use Rattle.machine.proofs.Showing.{one_need}
use Rattle.machine.proofs.words.calls.call.Goals as goal

pub returns : goal.returns
returns c h f pc known results_known =
    let values = c.args.registers.now in
    let i = c.args.i in
    let callee = datum h c.register-callee.result in
    let list = c.in_ok-args.args in
    let next : rules.Landing → State → List Datum → Effect = λ l s vs. call_in l s callee vs in
    record {
      is = λ m runs same.
          let s = showing m h values in
          let t = with_results s (option_map (results_of h) c.listed.new.results) in
          let behind : suc i.a ≡ i.a + 1 = omega arith in
          one_need (register s i.a) callee (λ f. listed s (suc i.a) (count_of i.b) (λ m1 vs. call_in (landing_in i.a (count_of i.c)) m1 f vs)) (c.register-callee.ensures.value h)
          ∙ ap (λ n. listed s n (count_of i.b) (next (landing_in i.a (count_of i.c)))) behind
          ∙ ap (λ k. listed s (i.a + 1) k (next (landing_in i.a (count_of i.c)))) (sym c.count_of.ensures)
          ∙ c.in_ok-args.ensures.list h m (next (landing_in i.a (count_of i.c))) same
          ∙ ap (λ k. next (landing_in i.a k) t (data_of h list)) (sym c.count_of-2.ensures)
          ∙ ap (λ l. next l t (data_of h list)) (sym c.results_to.ensures.landing);
      known = (c.register-callee.ensures.known h known, c.in_ok-args.ensures.known h known results_known);
      awaited = c.results_to.ensures.awaited f values pc (subst (AreResultsThere values i.a) (sym c.count_of-2.ensures) c.requires.results);
      registers = known;
      results = c.listed.ensures.results h results_known;
      length_is = refl;
      keeps = keeps_itself h;
      only_store = refl;
    }
