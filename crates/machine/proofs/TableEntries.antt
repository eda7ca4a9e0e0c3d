-- Reads and writes of entries of tables for which no function is asked.
use Rattle.std.proofs.Common.{◌≡◌, ◌⊎◌, inl, inr, ℕ, Bool, true, false, List, [], ◌∷◌, codes, Some, Result, Err, ap, refl, sym, subst, ◌∙◌}
use Rattle.std.specs.Prelude.{not, ◌||◌, if◌then◌else◌}
use Rattle.std.proofs.lemmas.Option.{same_Some}
use Rattle.opcode.specs.declared.word.Instr.{Instr}
use Rattle.lua_model.specs.declared.Value.{Value}
use Rattle.lua_model.specs.Datum.{Datum, nil, table, is_nil, is_function}
use Rattle.lua_model.specs.Store.{Store, raw_get, raw_set}
use Rattle.lua_model.specs.Acts.{Act, discard, value, call}
use Rattle.lua_model.specs.Operators.{handler, index, set_index, set_index_within}
use Rattle.lua_table.specs.declared.fault.SetFault.{SetFault}
use Rattle.lua_heap.specs.State.{HeapState, own_store, store_of}
use Rattle.rules.specs.State.{State, register, operand}
use Rattle.machine.specs.Frames.{showing}
use Rattle.machine.specs.Memory.{Reads, Rewrites}
use Rattle.machine.specs.Words.{AsksNone}
use Rattle.machine.proofs.Beside.{index_beside}

-- how many more values an index may try behind its first
abbrev more : ℕ
more = 99

written_or : (b c : Bool) (written other : Act × Store) → (b ≡ false) ⊎ (c ≡ true) → (if not b || c then written else other) ≡ written
written_or b c written other (inl there) = ap (λ x. if not x || c then written else other) there
written_or true c written other (inr none) = ap (λ x. if x then written else other) none
written_or false c written other (inr none) = refl

-- where the key is not nil
pub write_is : (s : Store) (t : ℕ) (k x : Datum) → is_nil k ≡ false → AsksNone s t (raw_get s t k) → set_index s (table t) k x ≡ (value nil, raw_set s t k x)
write_is s t nil x key none = cc
write_is s t k x key none =
    let h = handler s (table t) (codes "__newindex") in
    written_or (is_nil (raw_get s t k)) (is_nil h) (value nil, raw_set s t k x) (if is_function h then (call h (table t ∷ k ∷ x ∷ []) discard, s) else set_index_within more s h k x) none

-- ---- words that take no memory

-- where what is read is no value, the word is no such read
pub reads_none : (h : HeapState) (m : State) (values : List Value) (i : Instr) (on key : Datum) → register (showing m h values) i.b ≡ Some on → operand (showing m h values) i.c ≡ Some key → ((v : Datum) → index (own_store h) on key ≡ value v → ⊥) → Reads (showing m h values) i → ⊥
reads_none h m values i on key on_is key_is none (a, b, v, a_is, b_is, read) =
    let same_on = same_Some a on (sym a_is ∙ on_is) in
    let same_key = same_Some b key (sym b_is ∙ key_is) in
    let moved : index (store_of h m.store.hosts) on key ≡ index (store_of h m.store.hosts) a b = λ j. index (store_of h m.store.hosts) (sym same_on j) (sym same_key j) in
    none v (sym (index_beside h m.store.hosts on key) ∙ moved ∙ read)

-- what is written, where it is such a write
pub rewritten : (h : HeapState) (m : State) (values : List Value) (i : Instr) (on key : Datum) → register (showing m h values) i.a ≡ Some on → operand (showing m h values) i.b ≡ Some key → Rewrites (showing m h values) i → (t : ℕ) × (on ≡ table t) × (is_nil key ≡ false) × (is_nil (raw_get (own_store h) t key) ≡ false)
rewritten h m values i on key on_is key_is (t, k, x, t_is, k_is, x_is, not_nil, there) =
    let same_on = same_Some on (table t) (sym on_is ∙ t_is) in
    let same_key = same_Some k key (sym k_is ∙ key_is) in (
      t,
      same_on,
      subst (λ d. is_nil d ≡ false) same_key not_nil,
      subst (λ d. is_nil (raw_get (own_store h) t d) ≡ false) same_key there,
    )

-- a write is refused in one of two ways
pub not_refused : {T : Type 0} (r : Result T SetFault) (fault : SetFault) → r ≡ Err fault → (r ≡ Err SetFault.NilKey → ⊥) → (r ≡ Err SetFault.OutOfMemory → ⊥) → ⊥
not_refused r SetFault.NilKey is nil_key memory = nil_key is
not_refused r SetFault.OutOfMemory is nil_key memory = memory is
