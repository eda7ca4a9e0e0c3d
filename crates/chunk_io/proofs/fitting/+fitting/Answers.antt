use Rattle.std.proofs.Common.{ℕ, ◌≤◌, suc, refl, add-one, true, leb, map, ap, sym, ◌≡◌, ◌<◌, ◌∙◌, arith}
use Rattle.std.specs.Bool.{Decides}
use Rattle.std.proofs.lemmas.Bool.{false≢true}
use Rattle.std.proofs.lemmas.Bool.Decides.{Decides-at, nat_tests}
use Rattle.proto.specs.Chunk.{functions, functions_of}
use Rattle.proto.specs.View.{view_proto}
use Rattle.proto.proofs.Equality.{and_then, and_not}
use Rattle.proto.proofs.Views.{view_proto_fields}
use Rattle.chunk_io.specs.Items.{function_items, each_items}
use Rattle.chunk_io.specs.Fitting.{own_items}
use Rattle.chunk_io.proofs.Fitted.{All, function_decided}
use Rattle.chunk_io.proofs.FittedFunctions.{fit_next, fit_misses, fit_all}
use Rattle.chunk_io.proofs.fitting.+fitting.Goals as goal
use Rattle.chunk_io.proofs.fitting.+fitting.Goals.{function_fits-then-nesting-le-NESTINGS, function_fits-else-nesting-le-NESTINGS}

too_deep : {Q : Type 0} (n : ℕ) → 200 < n → Decides (leb n 200) ((n ≤ 200) × Q)
too_deep n lt = (λ t. absurd (within n lt t), λ h. absurd (omega (arith, h.0)))
  where
    within : (n : ℕ) → 200 < n → ¬ (leb n 200 ≡ true)
    within n lt = grind (arith, nat_tests)

pub function_fits-returns-then-own_fits : goal.function_fits-returns-then-own_fits
function_fits-returns-then-own_fits t c =
    let l = c.args.layout in
    let chunk = view_proto c.args.proto.now in
    let two : Decides c.if-nesting-le-NESTINGS.value ((c.args.nesting ≤ 200) × All (own_items l chunk)) = elim c.if-nesting-le-NESTINGS.branch [
      | function_fits-then-nesting-le-NESTINGS w ↦ Decides-at _ _ w.value-is (λ h. (w.if-nesting-le-NESTINGS.true, w.own_fits.ensures.0 h), λ h. w.own_fits.ensures.1 h.1)
      | function_fits-else-nesting-le-NESTINGS w ↦ Decides-at _ _ w.value-is (too_deep c.args.nesting w.if-nesting-le-NESTINGS.false)
    ] in
    let is : functions_of (map view_proto c.items.result.now) ≡ functions chunk = sym (ap functions (view_proto_fields c.args.proto.now) ∙ c.items.ensures.view) in
    let inner : Decides c.functions_fit.result (All (each_items l (suc c.args.nesting) (functions chunk))) = rw (add-one, is) at c.functions_fit.ensures in
    function_decided l c.args.nesting chunk c.functions_fit.result (and_then c.if-nesting-le-NESTINGS.value c.functions_fit.result two inner c.if-own_fits.true)

pub function_fits-returns-else-own_fits : goal.function_fits-returns-else-own_fits
function_fits-returns-else-own_fits t c =
    let l = c.args.layout in
    let chunk = view_proto c.args.proto.now in
    let two : Decides c.if-nesting-le-NESTINGS.value ((c.args.nesting ≤ 200) × All (own_items l chunk)) = elim c.if-nesting-le-NESTINGS.branch [
      | function_fits-then-nesting-le-NESTINGS w ↦ Decides-at _ _ w.value-is (λ h. (w.if-nesting-le-NESTINGS.true, w.own_fits.ensures.0 h), λ h. w.own_fits.ensures.1 h.1)
      | function_fits-else-nesting-le-NESTINGS w ↦ Decides-at _ _ w.value-is (too_deep c.args.nesting w.if-nesting-le-NESTINGS.false)
    ] in
    function_decided l c.args.nesting chunk c.if-nesting-le-NESTINGS.value (and_not c.if-nesting-le-NESTINGS.value two c.if-own_fits.false)

pub functions_fit-loop-function-init : goal.functions_fit-loop-function-init
functions_fit-loop-function-init t c = record { left = λ h. h; all = λ h. h }

pub functions_fit-returns-then-not-function_fits :
    goal.functions_fit-returns-then-not-function_fits
functions_fit-returns-then-not-function_fits t c =
    let misses : ¬ (All (function_items c.args.layout c.args.nesting (view_proto c.function-item.result))) = λ h. let a = c.if-not-function_fits.true in let b = c.function_fits.ensures.1 h in cc (a, b) in
    (λ f. absurd (false≢true f), λ h. absurd (fit_misses c.args.layout c.args.nesting c.args.functions.now c.loop-function.function-index c.function-item.result c.loop-function-test.true c.function-item.is c.loop-function.invariant misses h))

pub functions_fit-loop-function-preserved : goal.functions_fit-loop-function-preserved
functions_fit-loop-function-preserved t c =
    fit_next c.args.layout c.args.nesting c.args.functions.now c.loop-function.function-index c.function-item.result c.loop-function-test.true c.function-item.is c.loop-function.invariant (c.function_fits.ensures.0 c.if-not-function_fits.false)

pub functions_fit-returns : goal.functions_fit-returns
functions_fit-returns t c = (λ h. fit_all c.args.layout c.args.nesting c.args.functions.now c.loop-function.function-index c.loop-function-test.false c.loop-function.invariant, λ h. refl)
