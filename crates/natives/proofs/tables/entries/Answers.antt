-- One entry more.
use Rattle.std.proofs.Common.{◌≡◌, [], ◌∷◌, pos, ◌+ℤ◌, w64, rules, arith}
use Rattle.std.proofs.lemmas.Int.{ints}
use Rattle.std.proofs.lemmas.List.{map-append}
use Rattle.std.proofs.lemmas.List.Elements.{All-append}
use mir.Val.{to_z, of_z}
use Rattle.lua_heap.specs.State.{datum, IsOf, own_store, AreOf}
use Rattle.natives.proofs.Entries.{entries_more}
use Rattle.natives.proofs.tables.entries.Goals as goal

pub loop-offset-preserved : goal.loop-offset-preserved
loop-offset-preserved c =
    let h = c.args.heap.now in
    let first = c.args.first in
    let offset = c.loop-offset.offset in
    let value = c.raw_get.result in
    let range = c.ranges.first in
    let same : to_z w64 (of_z w64 first) ≡ first = omega (arith, ints) in
    let key : to_z w64 (of_z w64 (to_z w64 (of_z w64 first) +ℤ to_z w64 (of_z w64 c.from.result))) ≡ first +ℤ pos offset = omega (arith, ints, c.from.ensures) in
    let one : AreOf h (value ∷ []) = search (rules, c.raw_get.ensures.known) in
    record {
      values = cc (entries_more (own_store h) c.args.table.index first offset, c.raw_get.ensures.value, same, key, c.loop-offset.invariant.values, map-append (datum h) c.loop-offset.values (value ∷ []), c.in_ok-push.ensures.ok);
      known = rw c.in_ok-push.ensures.ok (All-append (IsOf h) c.loop-offset.values (value ∷ []) c.loop-offset.invariant.known one);
    }
