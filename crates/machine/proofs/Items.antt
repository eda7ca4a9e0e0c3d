-- Raw entries of a table, set one after another.
use Rattle.std.proofs.Common.{◌≡◌, ℕ, ◌+◌, ◌-◌, ◌*◌, ◌<◌, List, [], ◌∷◌, Option, Some, None, length, refl, sym, ap, ◌∙◌, arith, length-set}
use Rattle.std.specs.Prelude.{ℤ, pos, ◌+ℤ◌, ◌-ℤ◌, ◌*ℤ◌, option_map}
use Rattle.std.proofs.lemmas.Int.{ints}
use Rattle.std.proofs.lemmas.List.Elements.{All-tail}
use Rattle.lua_model.specs.declared.Value.{Value}
use Rattle.lua_model.specs.declared.TableId.{TableId}
use Rattle.lua_model.specs.declared.Value.TheVariants.{Nil, Bool as Boolean, Number, Text as TextValue, Table as TableValue, Closure as ClosureValue, Native, Host as HostValue}
use Rattle.lua_model.specs.Datum.{Datum, number, table}
use Rattle.lua_model.specs.Operators.{index_fault}
use Rattle.lua_model.specs.Store.{Store, Host, raw_set, with_items}
use Rattle.lua_heap.specs.State.{HeapState, datum, IsOf, AreOf, Keeps, OnlyTables, own_store, store_of, with_store as put_store}
use Rattle.lua_heap.proofs.Callers.{keeps_itself, keeps_both, data_are_kept, values_are_kept}
use Rattle.rules.specs.State.{State, Goes, Fails, with_store, with_results}
use Rattle.rules.specs.Step.{set_list}
use Rattle.machine.specs.declared.did.OpenResults.{OpenResults}
use Rattle.machine.specs.Frames.{data_of, results_of, showing}
use Rattle.machine.specs.Words.{AreResultsOf}
use Rattle.machine.proofs.Stores.{shown_store}

-- the entries that were set and those to come are all
pub record IsSetting (first_heap now : HeapState) (t : ℕ) (first key : ℕ) (all rest : List Value) : Type 0 where
  pub items : with_items (own_store now) t (pos key) (data_of now rest) ≡ with_items (own_store first_heap) t (pos first) (data_of first_heap all)
  pub there : t < length now.tables
  pub known : AreOf now rest
  pub only : OnlyTables first_heap now
  pub keeps : Keeps first_heap now

pub setting_start : (h : HeapState) (t first : ℕ) (all : List Value) → t < length h.tables → AreOf h all → IsSetting h h t first first all all
setting_start h t first all there known = record {
  items = refl;
  there = there;
  known = known;
  only = refl;
  keeps = keeps_itself h;
}

tables_both : (a b c : HeapState) → OnlyTables a b → OnlyTables b c → OnlyTables a c
tables_both a b c x y = let f : HeapState → HeapState = λ h. record h { texts = c.texts; tables = c.tables } in y ∙ ap f x

tables_stay : (s : Store) (t : ℕ) (k v : Datum) → length (raw_set s t k v).tables ≡ length s.tables
tables_stay s t k v = length-set s.tables t _

only_tables : (now new : HeapState) (t : ℕ) (k v : Datum) → new ≡ put_store now (raw_set (own_store now) t k v) → OnlyTables now new
only_tables now new t k v is = is ∙ (λ i. record now { texts = same_texts i; tables = same_tables i })
  where
    same_texts : now.texts ≡ new.texts
    same_texts = sym (ap (λ (h : HeapState). h.texts) is)

    same_tables : (raw_set (own_store now) t k v).tables ≡ new.tables
    same_tables = sym (ap (λ (h : HeapState). h.tables) is)

pub setting_next : (first_heap now new : HeapState) (t first key next : ℕ) (all rest : List Value) (v : Value) → IsSetting first_heap now t first key all (v ∷ rest) → new ≡ put_store now (raw_set (own_store now) t (number (pos key)) (datum now v)) → Keeps now new → next ≡ key + 1 → IsSetting first_heap new t first next all rest
setting_next first_heap now new t first key next all rest v setting is keeps then =
    let rest_known = All-tail (IsOf now) v rest setting.known in
    let store : own_store new ≡ raw_set (own_store now) t (number (pos key)) (datum now v) = ap own_store is in
    record {
      items =
          ap (λ k. with_items (own_store new) t (pos k) (data_of new rest)) then
          ∙ ap (λ s. with_items s t (pos (key + 1)) (data_of new rest)) store
          ∙ ap (with_items (raw_set (own_store now) t (number (pos key)) (datum now v)) t (pos (key + 1))) (data_are_kept now new keeps rest rest_known)
          ∙ setting.items;
      there = let tables = ap (λ (s : Store). length s.tables) store in omega (arith, tables, setting.there, tables_stay (own_store now) t (number (pos key)) (datum now v));
      known = values_are_kept now new keeps rest rest_known;
      only = tables_both first_heap now new setting.only (only_tables now new t (number (pos key)) (datum now v) is);
      keeps = keeps_both first_heap now new setting.keeps keeps;
    }

-- beside hosts
pub with_items_beside : (hosts : List Host) (s : Store) (t : ℕ) (k : ℤ) (vs : List Datum) → with_items (record s { hosts = hosts }) t k vs ≡ record (with_items s t k vs) { hosts = hosts }
with_items_beside hosts s t k [] = refl
with_items_beside hosts s t k (v ∷ vs) = with_items_beside hosts (raw_set s t (number k) v) t (k +ℤ pos 1) vs

pub first_key : (block : ℕ) → 0 < block → (pos block -ℤ pos 1) *ℤ pos 50 +ℤ pos 1 ≡ pos ((block - 1) * 50 + 1)
first_key block above = omega (arith, ints)

-- ---- open results in a later heap

pub results_are_kept : (old new : HeapState) → Keeps old new → (results : Option OpenResults) → AreResultsOf old results → AreResultsOf new results × (option_map (results_of new) results ≡ option_map (results_of old) results)
results_are_kept old new keeps None known = (tt, refl)
results_are_kept old new keeps (Some results) known = (
  values_are_kept old new keeps results.values known,
  λ i. Some (record { first = results.first; values = data_are_kept old new keeps results.values known i }),
)

-- ---- SETLIST at a value

pub fails_at : (h : HeapState) (v : Value) (m : State) (block : ℕ) (vs : List Datum) → ((t : TableId) → v ≡ TableValue t → ⊥) → set_list m block (datum h v) vs ≡ Fails m (index_fault (datum h v))
fails_at h (TableValue t) m block vs other = absurd (other t refl)
fails_at h Nil m block vs other = refl
fails_at h (Boolean b) m block vs other = refl
fails_at h (Number n) m block vs other = refl
fails_at h (TextValue t) m block vs other = refl
fails_at h (ClosureValue c) m block vs other = refl
fails_at h (Native n) m block vs other = refl
fails_at h (HostValue k) m block vs other = refl

-- where the entries were set in the heap behind
pub sets_all : (m : State) (old new : HeapState) (values list : List Value) (results : Option OpenResults) (t block : ℕ) → 0 < block → Keeps old new → AreOf old values → AreResultsOf old results → own_store new ≡ with_items (own_store old) t (pos ((block - 1) * 50 + 1)) (data_of old list) → set_list (with_results (showing m old values) (option_map (results_of old) results)) block (table t) (data_of old list) ≡ Goes (with_results (showing m new values) (option_map (results_of new) results))
sets_all m old new values list results t block above keeps known results_known items =
    let hosts = m.store.hosts in
    let s = showing m old values in
    let taken = option_map (results_of old) results in
    let stored : with_items (store_of old hosts) t ((pos block -ℤ pos 1) *ℤ pos 50 +ℤ pos 1) (data_of old list) ≡ store_of new hosts =
    ap (λ k. with_items (store_of old hosts) t k (data_of old list)) (first_key block above)
    ∙ with_items_beside hosts (own_store old) t (pos ((block - 1) * 50 + 1)) (data_of old list)
    ∙ ap (λ (w : Store). record w { hosts = hosts }) (sym items) in
    ap (λ w. Goes (with_store (with_results s taken) w)) stored
    ∙ ap (λ z. Goes (with_results z taken)) (shown_store m old new values (store_of new hosts) keeps known refl)
    ∙ ap (λ r. Goes (with_results (showing m new values) r)) (sym (results_are_kept old new keeps results results_known).1)
