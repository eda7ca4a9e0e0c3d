use Rattle.std.proofs.Common.{◌≡◌, length, ap, sym, arith, length-append, [], ◌∷◌, ◌++◌}
use Rattle.opcode.specs.declared.op.Op.TheVariants as op
use Rattle.lua_model.specs.declared.Value.{Value}
use Rattle.lua_model.specs.Datum.{table}
use Rattle.lua_model.specs.Store.{new_table, no_table}
use Rattle.lua_heap.specs.State.{HeapState, store_of, own_store}
use Rattle.rules.specs.State.{set, with_store}
use Rattle.rules.specs.Step.{effect}
use Rattle.machine.specs.Frames.{showing}
use Rattle.machine.proofs.Stores.{store_and_set_does, only_this_store}
use Rattle.machine.proofs.words.tables.new_table.Goals as goal

pub returns : goal.returns
returns c f pc =
    let old = c.args.heap.now in
    let new = c.new_table.new.self in
    let id = c.in_ok-table.ensures.id in
    let tables : new.tables ≡ old.tables ++ no_table ∷ [] = ap (λ (h : HeapState). h.tables) c.in_ok-table.ensures.state in
    store_and_set_does (λ m. effect op.NewTable m c.args.i) old new f c.args.registers.now pc c.args.i.a (Value.Table c.in_ok-table.table) new_table c.requires.known
    (omega (arith, id, ap length tables, length-append old.tables (no_table ∷ [])))
    c.requires.a c.new_table.ensures.keeps
    (only_this_store old new (new_table (own_store old)) c.in_ok-table.ensures.state)
    (λ hosts. ap (λ h. store_of h hosts) c.in_ok-table.ensures.state)
    (λ m runs. ap (λ n. set (with_store (showing m old c.args.registers.now) (new_table (store_of old m.store.hosts))) c.args.i.a (table n)) (sym id))
