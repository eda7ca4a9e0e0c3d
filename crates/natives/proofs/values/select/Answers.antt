-- What an argument refuses, the function refuses; arguments are the heap's.
use Rattle.std.proofs.Common.{◌≡◌, false, map, drop, w64, ap, sym, ◌∙◌, rules}
use Rattle.std.proofs.lemmas.List.{drop-map}
use Rattle.std.proofs.lemmas.List.Elements.{All-drop}
use Rattle.std.proofs.lemmas.Int.{to_z-of_z}
use mir.Val.{SFits}
use Rattle.std.proofs.lemmas.Result.{err_from_is_err_and}
use Rattle.lua_model.specs.Datum.{first_of}
use Rattle.lua_model.specs.Builtins.{is_count_mark}
use Rattle.lua_heap.specs.State.{datum, IsOf, store_of}
use Rattle.natives.proofs.values.select.Goals as goal

pub is_count_mark-requires : goal.is_count_mark-requires
is_count_mark-requires c = c.first.ensures.known c.args.heap.now c.requires

pub returns-in_err-n : goal.returns-in_err-n
returns-in_err-n c =
    let p = err_from_is_err_and c.from_residual-in_err-n.result c.from_residual-in_err-n.ensures.1 in
    let h = c.args.heap.now in
    let unmarked : is_count_mark (first_of (map (datum h) c.args.args.now)) ≡ false = cc (c.if-is_count_mark.ensures, c.first.ensures.value h) in
    rw (p.1, p.2) (λ hosts e. rw unmarked (c.in_err-n.ensures.refused _))

pub returns-in_err-chosen : goal.returns-in_err-chosen
returns-in_err-chosen c =
    let p = err_from_is_err_and c.from_residual-in_err-chosen.result c.from_residual-in_err-chosen.ensures.1 in
    let h = c.args.heap.now in
    let given = c.args.args.now in
    let unmarked : is_count_mark (first_of (map (datum h) given)) ≡ false = cc (c.if-is_count_mark.ensures, c.first.ensures.value h) in
    let others : drop 1 (map (datum h) given) ≡ map (datum h) c.rest-others.result.now = drop-map (datum h) 1 given ∙ ap (map (datum h)) (sym c.rest-others.ensures) in
    let fits : SFits w64 c.in_ok-n.n = search rules in
    rw (p.1, p.2) (λ hosts e. rw (unmarked, c.in_ok-n.ensures.number, others) (simp to_z-of_z at (c.in_err-chosen.ensures.refused h (store_of h hosts) (map (datum h) given))))

pub returns : goal.returns
returns c =
    let h = c.args.heap.now in
    let given = c.args.args.now in
    let unmarked : is_count_mark (first_of (map (datum h) given)) ≡ false = cc (c.if-is_count_mark.ensures, c.first.ensures.value h) in
    let others : drop 1 (map (datum h) given) ≡ map (datum h) c.rest-others.result.now = drop-map (datum h) 1 given ∙ ap (map (datum h)) (sym c.rest-others.ensures) in
    let fits : SFits w64 c.in_ok-n.n = search rules in
    rw c.in_ok-results-2.ensures (
      (λ hosts e. rw (unmarked, c.in_ok-n.ensures.number, others) (simp to_z-of_z at (c.in_ok-chosen.ensures.chosen h (store_of h hosts)))),
      c.in_ok-chosen.ensures.known h (rw c.rest-others.ensures (All-drop (IsOf h) 1 given c.requires)),
    )
