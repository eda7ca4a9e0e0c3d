use Rattle.std.proofs.Common.{◌≡◌, ◌∙◌, [], ap, sym, length, codes}
use Rattle.std.specs.Prelude.{pos}
use Rattle.std.proofs.lemmas.List.{length-map}
use Rattle.std.proofs.lemmas.Option.{slice_get_within, get_or_from_slice_get}
use Rattle.lua_model.specs.declared.Value.{Value}
use Rattle.lua_model.specs.Datum.{number, table, text}
use Rattle.lua_model.specs.Store.{new_table, with_items, raw_set}
use Rattle.lua_heap.specs.State.{datum, own_store}
use Rattle.lua_heap.proofs.Callers.{data_are_kept}
use Rattle.machine.specs.Frames.{data_of}
use Rattle.machine.proofs.MadeFrames.{new_table_known}
use Rattle.machine.proofs.entering.arg_table.Goals as goal

pub raw_set-requires-clause-table : goal.raw_set-requires-clause-table
raw_set-requires-clause-table c =
    let old = c.args.heap.now in
    let table = Value.Table c.in_ok-table.table in
    let there = new_table_known old c.new_table.new.self c.in_ok-table.table c.in_ok-table.ensures.id c.in_ok-table.ensures.state in
    (c.intern.ensures.keeps table (c.put_items.ensures.keeps table there).0).0

pub raw_set-requires-clause-key : goal.raw_set-requires-clause-key
raw_set-requires-clause-key c = slice_get_within c.intern.new.self.texts c.in_ok-name.name.index (codes "n") c.in_ok-name.ensures.id

pub returns-in-Ok-clause-table : goal.returns-in-Ok-clause-table
returns-in-Ok-clause-table c =
    let old = c.args.heap.now in
    let made = Value.Table c.in_ok-table.table in
    let there = new_table_known old c.new_table.new.self c.in_ok-table.table c.in_ok-table.ensures.id c.in_ok-table.ensures.state in
    (ap table c.in_ok-table.ensures.id, (c.raw_set.ensures.keeps made (c.intern.ensures.keeps made (c.put_items.ensures.keeps made there).0).0).0)

pub returns-in-Ok-clause-store : goal.returns-in-Ok-clause-store
returns-in-Ok-clause-store c =
    let old = c.args.heap.now in
    let extra = c.args.extra.now in
    let first = c.new_table.new.self in
    let named = c.intern.new.self in
    let id = c.in_ok-table.ensures.id in
    let kept = data_are_kept old first c.new_table.ensures.keeps extra c.requires.known in
    let items : own_store named ≡ with_items (new_table (own_store old)) (length old.tables) (pos 1) (data_of old extra) =
    ap own_store c.in_ok-name.ensures.state
    ∙ c.in_ok-put_items.ensures.items
    ∙ (λ i. with_items (own_store (c.in_ok-table.ensures.state i)) (id i) (pos 1) (kept i)) in
    let key : text _ ≡ text (codes "n") = ap text (get_or_from_slice_get named.texts c.in_ok-name.name.index (codes "n") [] c.in_ok-name.ensures.id) in
    let count : datum named c.in_ok-count.count ≡ number (pos (length (data_of old extra))) =
    ap (datum named) c.in_ok-count.ensures ∙ ap (λ n. number (pos n)) (sym (length-map extra (datum old))) in
    ap own_store c.in-Ok.ensures.state ∙ (λ i. raw_set (items i) (id i) (key i) (count i))
