use Rattle.std.proofs.Common.{◌≡◌, true, false, rules, ap, sym, subst, ◌∙◌, true≢false}
use Rattle.opcode.specs.declared.op.Op.TheVariants as op
use Rattle.lua_model.specs.Datum.{table, is_nil}
use Rattle.lua_model.specs.Store.{raw_get, raw_set, table_at}
use Rattle.lua_model.specs.Operators.{set_index}
use Rattle.lua_heap.specs.State.{datum, own_store, store_of, has_key}
use Rattle.lua_heap.proofs.Callers.{place_there}
use Rattle.rules.specs.State.{register, operand}
use Rattle.rules.specs.Step.{give_write, effect}
use Rattle.machine.specs.declared.did.Did.{Did}
use Rattle.machine.specs.Frames.{showing}
use Rattle.machine.specs.Words.{AsksNone}
use Rattle.machine.proofs.QuickSteps.{step_does}
use Rattle.machine.proofs.Showing.{three_needs}
use Rattle.machine.proofs.Stores.{store_does, only_this_store}
use Rattle.machine.proofs.TableEntries.{write_is, rewritten, not_refused}
use Rattle.machine.proofs.words.entries.set_entry.Goals as goal

pub raw_get-requires-clause-table : goal.raw_get-requires-clause-table
raw_get-requires-clause-table c = c.in-Table.ensures.known c.args.heap.now c.requires.known.registers

pub raw_get-requires-clause-key : goal.raw_get-requires-clause-key
raw_get-requires-clause-key c = c.operand-key.ensures.known c.args.heap.now c.requires.known

pub raw_set-requires-clause-key : goal.raw_set-requires-clause-key
raw_set-requires-clause-key c = c.operand-key.ensures.known c.args.heap.now c.requires.known

pub raw_set-requires-clause-value : goal.raw_set-requires-clause-value
raw_set-requires-clause-value c = c.operand-value.ensures.known c.args.heap.now c.requires.known

pub returns-in-Ok-clause-some : goal.returns-in-Ok-clause-some
returns-in-Ok-clause-some c =
    let old = c.args.heap.now in
    let new = c.raw_set.new.self in
    let values = c.args.registers.now in
    let f = c.args.function.now in
    let i = c.args.i in
    let t = c.in-Table.table.index in
    let key = datum old c.operand-key.result in
    let v = datum old c.operand-value.result in
    let not_nil : is_nil key ≡ false = search rules in
    let none = subst (AsksNone (own_store old) t) c.raw_get.ensures.value (c.asks_none.ensures.none c.if-not-asks_none.false) in
    step_does Did.Next tt
    (store_does (λ m. effect op.SetTable m i) old new f values c.args.pc (λ s. raw_set s t key v) c.requires.known.registers c.raw_set.ensures.keeps
    (only_this_store old new (raw_set (own_store old) t key v) c.in-Ok.ensures.state)
    (λ hosts. ap (λ h. store_of h hosts) c.in-Ok.ensures.state)
    (λ m runs.
    let s = showing m old values in
    three_needs (register s i.a) (operand s i.b) (operand s i.c) (table t) key v (λ on key v. give_write s (set_index s.store on key v)) (c.in-Table.ensures.value old) (c.operand-key.ensures.value old m c.args.pc runs) (c.operand-value.ensures.value old m c.args.pc runs)
    ∙ ap (give_write s) (write_is s.store t key v not_nil none)))

pub returns-in-Err-clause-taken : goal.returns-in-Err-clause-taken
returns-in-Err-clause-taken c = λ m runs needs.
    let h = c.args.heap.now in
    let values = c.args.registers.now in
    let table_of = datum h c.register.result in
    let key = datum h c.operand-key.result in
    let (t, is_t, not_nil, there) = rewritten h m values c.args.i table_of key (c.register.ensures.value h) (c.operand-key.ensures.value h m c.args.pc runs) needs in
    let is_this : table_of ≡ table c.in-Table.table.index = ap (datum h) c.in-Table.is in
    let same : t ≡ c.in-Table.table.index = cc in
    let placed : has_key (table_at (own_store h) c.in-Table.table.index).pairs key ≡ true = place_there (table_at (own_store h) c.in-Table.table.index).pairs key (subst (λ n. is_nil (raw_get (own_store h) n key) ≡ false) same there) in
    not_refused c.raw_set.result c.in-Err.field-0 c.in-Err.is
    (λ refused. true≢false (sym (c.raw_set.ensures.nil_key.0 refused) ∙ not_nil))
    (λ refused. true≢false (sym placed ∙ (c.raw_set.ensures.memory refused).0))
