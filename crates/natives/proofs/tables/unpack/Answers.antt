-- What an argument refuses, the function refuses; each number that is taken is one of the table.
use Rattle.std.proofs.lemmas.Result.{err_from_is_err_and}
use Rattle.std.proofs.Common.{ℕ, ℤ, pos, List, map, codes, ◌∙◌, w64, rules}
use Rattle.std.proofs.lemmas.Int.{to_z-of_z}
use mir.Val.{SFits}
use Rattle.lua_model.specs.declared.Value.{Value}
use Rattle.lua_model.specs.Acts.{NativeAct}
use Rattle.lua_model.specs.Store.{Host, table_at}
use Rattle.lua_model.specs.Operators.{border}
use Rattle.lua_model.specs.Builtins.{number_or, unpacked}
use Rattle.lua_heap.specs.State.{HeapState, datum, store_of}
use Rattle.natives.proofs.Entries.{unpacked_within}
use Rattle.natives.proofs.tables.unpack.Goals as goal

pub returns-in_err-table : goal.returns-in_err-table
returns-in_err-table c =
    let p = err_from_is_err_and c.from_residual.result c.from_residual.ensures.1 in
    rw (p.1, p.2) (λ hosts e. c.in_err-table.ensures.refused c.args.heap.now _)

abbrev last_taken : (h : HeapState) (hosts : List Host) (args : List Value) (t : ℕ) → ℤ → NativeAct
last_taken h hosts args t first = number_or (pos (border (table_at (store_of h hosts) t).pairs)) 3 (codes "unpack") (map (datum h) args) (unpacked (store_of h hosts) t first)

pub returns-in_err-first : goal.returns-in_err-first
returns-in_err-first c =
    let p = err_from_is_err_and c.from_residual-in_err-first.result c.from_residual-in_err-first.ensures.1 in
    let h = c.args.heap.now in
    rw (p.1, p.2) (λ hosts e. rw (c.in_ok-table.ensures.table h) (c.in_err-first.ensures.refused (last_taken h hosts c.args.args.now c.in_ok-table.table.index)))

pub returns-in_err-last : goal.returns-in_err-last
returns-in_err-last c =
    let p = err_from_is_err_and c.from_residual-in_err-last.result c.from_residual-in_err-last.ensures.1 in
    let h = c.args.heap.now in
    let t = c.in_ok-table.table.index in
    let fits : SFits w64 c.border.result = search rules in
    let end = to_z-of_z w64 c.border.result fits ∙ c.border.ensures in
    rw (p.1, p.2) (λ hosts e. rw (c.in_ok-table.ensures.table h, c.in_ok-first.ensures.number (last_taken h hosts c.args.args.now t)) (rw end at (c.in_err-last.ensures.refused (unpacked (store_of h hosts) t c.in_ok-first.first))))

pub returns : goal.returns
returns c =
    let h = c.args.heap.now in
    let t = c.in_ok-table.table.index in
    let first = c.in_ok-first.first in
    let last = c.in_ok-last.last in
    let fits : SFits w64 c.border.result = search rules in
    let end = to_z-of_z w64 c.border.result fits ∙ c.border.ensures in
    let first_fits : SFits w64 first = search rules in
    let last_fits : SFits w64 last = search rules in
    let counted = simp to_z-of_z at c.in-Some.ensures.count in
    let read = simp to_z-of_z at c.in_ok-values.ensures.values in (
      (λ hosts e.
          let s = store_of h hosts in
          rw (c.in_ok-table.ensures.table h, c.in_ok-first.ensures.number (last_taken h hosts c.args.args.now t))
          ((rw end at (c.in_ok-last.ensures.number (unpacked s t first))) ∙ unpacked_within s t first last c.in-Some.count (map (datum h) c.in_ok-values.values) counted.0 counted.1 read)),
      c.in_ok-values.ensures.known,
    )
