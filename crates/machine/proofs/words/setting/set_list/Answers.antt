use Rattle.std.proofs.Common.{◌≡◌, ◌∙◌, ◌+◌, ◌-◌, ◌*◌, suc, List, ap, sym, refl, subst, arith}
use Rattle.std.specs.Prelude.{pos, option_map}
use Rattle.lua_model.specs.declared.Value.{Value}
use Rattle.lua_model.specs.Store.{with_items}
use Rattle.lua_heap.specs.State.{datum, AreOf, own_store}
use Rattle.lua_heap.proofs.Callers.{values_are_kept}
use Rattle.rules.specs.State.{Fails, register, with_results}
use Rattle.rules.specs.Step.{listed, list_of, set_list}
use Rattle.machine.specs.Frames.{data_of, showing, results_of}
use Rattle.machine.proofs.Showing.{one_need, shown_alike, only_store_by}
use Rattle.machine.proofs.Stores.{only_store_of_tables}
use Rattle.machine.proofs.Items.{fails_at, sets_all, results_are_kept}
use Rattle.machine.proofs.words.setting.set_list.Goals as goal

pub put_items-requires-clause-known : goal.put_items-requires-clause-known
put_items-requires-clause-known c =
    let known = c.in_ok-values.ensures.known c.args.heap.now c.requires.known c.requires.results in
    subst (λ (vs : List Value). AreOf c.args.heap.now vs) (sym c.items.ensures) known

pub index_failure-requires : goal.index_failure-requires
index_failure-requires c = c.register-on.ensures.known c.args.heap.now c.requires.known

pub returns-in-Table : goal.returns-in-Table
returns-in-Table c f pc =
    let old = c.args.heap.now in
    let new = c.put_items.new.heap in
    let values = c.args.registers.now in
    let i = c.args.i in
    let block = c.args.block in
    let list = c.in_ok-values.values in
    let left = c.listed.new.results in
    let keeps = c.put_items.ensures.keeps in
    let left_known = c.listed.ensures.results old c.requires.results in
    let on = datum old c.register-on.result in
    record {
      is = λ m runs same.
          let s = showing m old values in
          let behind : suc i.a ≡ i.a + 1 = omega arith in
          one_need (register s i.a) on (λ t. listed s (suc i.a) (list_of i.b) (λ m1 vs. set_list m1 block t vs)) (c.register-on.ensures.value old)
          ∙ ap (λ n. listed s n (list_of i.b) (λ m1 vs. set_list m1 block on vs)) behind
          ∙ ap (λ k. listed s (i.a + 1) k (λ m1 vs. set_list m1 block on vs)) (sym c.list_of.ensures)
          ∙ c.in_ok-values.ensures.list old m (λ m1 vs. set_list m1 block on vs) same
          ∙ ap (λ (v : Value). set_list (with_results s (option_map (results_of old) left)) block (datum old v) (data_of old list)) c.in-Table.is
          ∙ sets_all m old new values list left c.in-Table.table.index block c.requires.block keeps c.requires.known left_known (c.in_ok-put_items-in-Table.ensures.items ∙ ap (λ (vs : List Value). with_items (own_store old) c.in-Table.table.index (pos ((block - 1) * 50 + 1)) (data_of old vs)) c.items.ensures);
      known = tt;
      awaited = tt;
      registers = values_are_kept old new keeps values c.requires.known;
      results = (results_are_kept old new keeps left left_known).0;
      length_is = refl;
      keeps = keeps;
      only_store = only_store_of_tables old new c.put_items.ensures.only_tables;
    }

pub returns : goal.returns
returns c f pc =
    let old = c.args.heap.now in
    let new = c.index_failure.new.heap in
    let values = c.args.registers.now in
    let i = c.args.i in
    let block = c.args.block in
    let list = c.in_ok-values.values in
    let left = c.listed.new.results in
    let grown = c.index_failure.ensures.grown in
    let left_known = c.listed.ensures.results old c.requires.results in
    let on = datum old c.register-on.result in
    let why = c.in_ok-index_failure-in_default.field-0 in
    record {
      is = λ m runs same.
          let s = showing m old values in
          let behind : suc i.a ≡ i.a + 1 = omega arith in
          one_need (register s i.a) on (λ t. listed s (suc i.a) (list_of i.b) (λ m1 vs. set_list m1 block t vs)) (c.register-on.ensures.value old)
          ∙ ap (λ n. listed s n (list_of i.b) (λ m1 vs. set_list m1 block on vs)) behind
          ∙ ap (λ k. listed s (i.a + 1) k (λ m1 vs. set_list m1 block on vs)) (sym c.list_of.ensures)
          ∙ c.in_ok-values.ensures.list old m (λ m1 vs. set_list m1 block on vs) same
          ∙ fails_at old c.register-on.result (with_results s (option_map (results_of old) left)) block (data_of old list) c.in_default.not-Table
          ∙ ap (Fails (with_results s (option_map (results_of old) left))) (sym c.in_ok-index_failure-in_default.ensures.value)
          ∙ ap (λ t. Fails (with_results t (option_map (results_of old) left)) (datum new why)) (sym (shown_alike m old new values grown.only_texts grown.keeps c.requires.known))
          ∙ ap (λ r. Fails (with_results (showing m new values) r) (datum new why)) (sym (results_are_kept old new grown.keeps left left_known).1);
      known = c.in_ok-index_failure-in_default.ensures.known;
      awaited = tt;
      registers = values_are_kept old new grown.keeps values c.requires.known;
      results = (results_are_kept old new grown.keeps left left_known).0;
      length_is = refl;
      keeps = grown.keeps;
      only_store = only_store_by old new grown.only_texts;
    }
