-- Words that change tables or globals: a state that shows the heap behind them has the store that the rules give.
use Rattle.std.proofs.Common.{◌≡◌, ℕ, ◌<◌, List, length, refl, sym, ap, ◌∙◌, length-set}
use Rattle.std.specs.Prelude.{slice_set}
use Rattle.std.proofs.lemmas.List.Elements.{All-set}
use Rattle.lua_model.specs.declared.Value.{Value}
use Rattle.lua_model.specs.Store.{Store, Host}
use Rattle.lua_model.specs.Acts as model
use Rattle.lua_heap.specs.State.{HeapState, datum, IsOf, AreOf, Keeps, OnlyTables, store_of, own_store, with_store as put_store}
use Rattle.lua_heap.proofs.Callers.{data_are_kept, values_are_kept}
use Rattle.meta_ops.specs.declared.act.Act.{Act}
use Rattle.meta_ops.specs.Acts.{act_of, IsActOf}
use Rattle.rules.specs.State.{State, Effect, Goes, set, with_store}
use Rattle.rules.specs.Step.{give_nowhere, give_write}
use Rattle.machine.specs.declared.function.Function.{Function}
use Rattle.machine.specs.declared.did.Did.{Did}
use Rattle.machine.specs.Frames.{showing, effect_of}
use Rattle.machine.specs.Words.{Runs, IsDidOf, IsAwaited, OnlyStore, Does}
use Rattle.machine.proofs.Showing.{set_is}

-- the heap behind has this store
pub shown_store : (m : State) (old new : HeapState) (values : List Value) (s : Store) → Keeps old new → AreOf old values → store_of new m.store.hosts ≡ s → with_store (showing m old values) s ≡ showing m new values
shown_store m old new values s keeps known is i =
    record m { top = record m.top { registers = sym (data_are_kept old new keeps values known) i }; store = sym is i }

pub only_store_of_tables : (old new : HeapState) → OnlyTables old new → OnlyStore old new
only_store_of_tables old new only = only ∙ (λ i. record old { texts = new.texts; tables = new.tables; globals = same_globals i })
  where
    same_globals : old.globals ≡ new.globals
    same_globals = sym (ap (λ (h : HeapState). h.globals) only)

-- a word that changes the store and no register
pub store_does : (effect : State → Effect) (old new : HeapState) (f : Function) (values : List Value) (pc : ℕ) → (store : Store → Store) → AreOf old values → Keeps old new → OnlyStore old new → ((hosts : List Host) → store_of new hosts ≡ store (store_of old hosts)) → ((m : State) → Runs m old f pc → effect (showing m old values) ≡ Goes (with_store (showing m old values) (store (store_of old m.store.hosts)))) → Does effect old new f values values pc Did.Next
store_does effect old new f values pc store known keeps only stores is = record {
  is = λ m runs. is m runs ∙ ap Goes (shown_store m old new values (store (store_of old m.store.hosts)) keeps known (stores m.store.hosts));
  known = tt;
  awaited = tt;
  registers = values_are_kept old new keeps values known;
  length_is = refl;
  keeps = keeps;
  only_store = only;
}

-- a word that changes the store and puts a value into a register
pub store_and_set_does : (effect : State → Effect) (old new : HeapState) (f : Function) (values : List Value) (pc a : ℕ) (v : Value) → (store : Store → Store) → AreOf old values → IsOf new v → a < length values → Keeps old new → OnlyStore old new → ((hosts : List Host) → store_of new hosts ≡ store (store_of old hosts)) → ((m : State) → Runs m old f pc → effect (showing m old values) ≡ set (with_store (showing m old values) (store (store_of old m.store.hosts))) a (datum new v)) → Does effect old new f values (slice_set values a v) pc Did.Next
store_and_set_does effect old new f values pc a v store known v_known within keeps only stores is = record {
  is = λ m runs.
      is m runs
      ∙ ap (λ s. set s a (datum new v)) (shown_store m old new values (store (store_of old m.store.hosts)) keeps known (stores m.store.hosts))
      ∙ set_is m new values a v within;
  known = tt;
  awaited = tt;
  registers = All-set (IsOf new) values a v v_known (values_are_kept old new keeps values known);
  length_is = length-set values a v;
  keeps = keeps;
  only_store = only;
}

-- a word whose write is answered
pub write_does : (effect : State → Effect) (old new : HeapState) (f : Function) (values : List Value) (pc : ℕ) (act : Act) (did : Did) (answer : Store → model.Act × Store) → AreOf old values → OnlyTables old new → Keeps old new → (act_of new act, own_store new) ≡ answer (own_store old) → IsActOf new act → ((hosts : List Host) → answer (store_of old hosts) ≡ ((answer (own_store old)).0, record (answer (own_store old)).1 { hosts = hosts })) → ((m : State) → Runs m old f pc → effect (showing m old values) ≡ give_write (showing m old values) (answer (store_of old m.store.hosts))) → ((h : HeapState) (m : State) → give_nowhere m (act_of h act) ≡ effect_of h did m) → ((h : HeapState) → IsActOf h act → IsDidOf h did) → IsAwaited f values pc did → Does effect old new f values values pc did
write_does effect old new f values pc act did answer known only keeps acts act_known beside is gives did_known awaited = record {
  is = λ m runs.
      let s = showing m old values in
      let written : answer (store_of old m.store.hosts) ≡ (act_of new act, store_of new m.store.hosts) = beside m.store.hosts ∙ (λ i. ((acts' i).0, record (acts' i).1 { hosts = m.store.hosts })) in
      is m runs
      ∙ ap (give_write s) written
      ∙ ap (λ t. give_nowhere t (act_of new act)) (shown_store m old new values (store_of new m.store.hosts) keeps known refl)
      ∙ gives new (showing m new values);
  known = did_known new act_known;
  awaited = awaited;
  registers = values_are_kept old new keeps values known;
  length_is = refl;
  keeps = keeps;
  only_store = only_store_of_tables old new only;
}
  where
    acts' : answer (own_store old) ≡ (act_of new act, own_store new)
    acts' = sym acts

pub only_this_store : (old new : HeapState) (s : Store) → new ≡ put_store old s → OnlyStore old new
only_this_store old new s is = is ∙ (λ i. record old { tables = same_tables i; globals = same_globals i; texts = same_texts i })
  where
    same_tables : s.tables ≡ new.tables
    same_tables = sym (ap (λ (h : HeapState). h.tables) is)

    same_globals : s.globals ≡ new.globals
    same_globals = sym (ap (λ (h : HeapState). h.globals) is)

    same_texts : old.texts ≡ new.texts
    same_texts = sym (ap (λ (h : HeapState). h.texts) is)
