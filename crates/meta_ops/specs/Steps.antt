-- Serves indexing: what one try leaves of the tries of the definitions, however many more there may be.
use Rattle.std.specs.Prelude.{◌≡◌, ℕ, suc, ◌+◌}
use Rattle.std.specs.declared.ops.ControlFlow.{ControlFlow}
use Rattle.std.specs.declared.ops.ControlFlow.TheVariants.{Break, Continue}
use Rattle.lua_model.specs.declared.Value.{Value}
use Rattle.lua_model.specs.Operators.{index_within, set_index_within}
use Rattle.lua_heap.specs.State.{HeapState, datum, IsOf, own_store, OnlyTexts}
use Rattle.meta_ops.specs.Acts.{act_of, found_of, IsActOf, IsFoundOf}
use Rattle.lua_heap.specs.Grown.{Grown}
use Rattle.meta_ops.specs.declared.act.Act.{Act}
use Rattle.meta_ops.specs.declared.indexing.Found.{Found}

-- a read is done, or goes on at another value
abbrev pub IsRead : HeapState → (on key : Value) → ControlFlow Found Value → Type 0
IsRead h on key (Break found) =
    ((more : ℕ) → found_of h (datum h key) found ≡ index_within (suc more) (own_store h) (datum h on) (datum h key)) × IsFoundOf h found
IsRead h on key (Continue v) =
    ((more : ℕ) → index_within (suc more) (own_store h) (datum h on) (datum h key) ≡ index_within more (own_store h) (datum h v) (datum h key)) × IsOf h v

-- a write is done, or goes on at another value with no table changed
abbrev pub IsWritten : (old new : HeapState) → (on key value : Value) → ControlFlow Act Value → Type 0
IsWritten old new on key value (Break act) =
    ((more : ℕ) → (act_of new act, own_store new) ≡ set_index_within (suc more) (own_store old) (datum old on) (datum old key) (datum old value)) × IsActOf new act
IsWritten old new on key value (Continue v) =
    ((more : ℕ) → set_index_within (suc more) (own_store old) (datum old on) (datum old key) (datum old value) ≡ set_index_within more (own_store old) (datum new v) (datum old key) (datum old value))
    × IsOf new v × OnlyTexts old new

-- so many values were tried of a read, and it goes on at another one
pub record IsReading (h : HeapState) (on key at : Value) (limit tried : ℕ) : Type 0 where
  pub known : IsOf h at
  pub left : (more : ℕ) → more + tried ≡ limit → index_within limit (own_store h) (datum h on) (datum h key) ≡ index_within more (own_store h) (datum h at) (datum h key)

-- so many values were tried of a write, and it goes on at another one
pub record IsWriting (first now : HeapState) (on key value at : Value) (limit tried : ℕ) : Type 0 where
  pub grown : Grown first now
  pub known : IsOf now at
  pub left : (more : ℕ) → more + tried ≡ limit → set_index_within limit (own_store first) (datum first on) (datum first key) (datum first value) ≡ set_index_within more (own_store first) (datum now at) (datum first key) (datum first value)
