-- A heap that keeps its values has no fewer tables and closures than before.
use Rattle.std.proofs.Common.{ℕ, zero, suc, ◌<◌, ◌≤◌, length, arith}
use Rattle.lua_model.specs.declared.TableId.{TableId}
use Rattle.lua_model.specs.declared.ClosureId.{ClosureId}
use Rattle.lua_model.specs.declared.Value.{Value}
use Rattle.lua_heap.specs.State.{HeapState, Keeps}

pub tables_stay : (s t : HeapState) (n : ℕ) → Keeps s t → n ≤ length s.tables → n ≤ length t.tables
tables_stay s t zero keeps h = omega arith
tables_stay s t (suc n) keeps h =
    let id : TableId = record { index = n } in
    let last : n < length s.tables = omega arith in
    let stays : n < length t.tables = (keeps (Value.Table id) last).0 in
    omega arith

pub closures_stay : (s t : HeapState) (n : ℕ) → Keeps s t → n ≤ length s.closures → n ≤ length t.closures
closures_stay s t zero keeps h = omega arith
closures_stay s t (suc n) keeps h =
    let id : ClosureId = record { index = n } in
    let last : n < length s.closures = omega arith in
    let stays : n < length t.closures = (keeps (Value.Closure id) last).0 in
    omega arith

-- so many tables have a place for a name, and so many closures were made
pub counts_stay : (s t : HeapState) (n m : ℕ) → Keeps s t → (n ≤ length s.tables) × (m ≤ length s.closures) → (n ≤ length t.tables) × (m ≤ length t.closures)
counts_stay s t n m keeps h = (tables_stay s t n keeps h.0, closures_stay s t m keeps h.1)
