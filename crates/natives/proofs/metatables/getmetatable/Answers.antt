-- What an argument refuses, the function refuses; an argument is the heap's.
use Rattle.std.proofs.Common.{◌≡◌, true, [], refl, if◌then◌else◌, sym, ap, ◌∙◌}
use Rattle.std.proofs.lemmas.List.Elements.{All-nil, All-cons}
use Rattle.std.proofs.lemmas.Result.{err_from_is_err_and}
use Rattle.lua_model.specs.Datum.{is_nil}
use Rattle.lua_model.specs.Builtins.{protection, metatable_of, table_or_nil}
use Rattle.lua_heap.specs.State.{datum, store_of, meta_of, IsOf}
use Rattle.natives.proofs.metatables.getmetatable.Goals as goal

pub returns-in_err-v : goal.returns-in_err-v
returns-in_err-v c =
    let p = err_from_is_err_and c.from_residual.result c.from_residual.ensures.1 in
    rw (p.1, p.2) (λ hosts e. c.in_err-v.ensures.refused c.args.heap.now _)

pub metatable_of-metatable-requires : goal.metatable_of-metatable-requires
metatable_of-metatable-requires c = c.in_ok-v.ensures.known c.args.heap.now c.requires

pub returns-then-is_nil : goal.returns-then-is_nil
returns-then-is_nil c =
    let h = c.args.heap.now in
    let m = meta_of c.metatable_of-metatable.result in
    let known = c.table_or_nil.ensures.known h c.metatable_of-metatable.ensures.known in
    rw (c.in_ok-results.ensures) (
      λ hosts e.
          let s = store_of h hosts in
          let meta : metatable_of s (datum h c.in_ok-v.v) ≡ m = sym c.metatable_of-metatable.ensures.meta in
          let absent : is_nil (protection s m) ≡ true = ap is_nil (sym c.protection-guard.ensures.value) ∙ sym (c.is_nil.ensures h) ∙ c.if-is_nil.true in
          let shown : (if is_nil (protection s m) then table_or_nil m else protection s m) ≡ datum h c.table_or_nil.result = ap (λ b. if b then table_or_nil m else protection s m) absent ∙ sym (c.table_or_nil.ensures.value h) in
          rw (c.in_ok-v.ensures.value h, meta, shown) refl,
      All-cons (IsOf h) c.table_or_nil.result [] known (All-nil (IsOf h)),
    )
