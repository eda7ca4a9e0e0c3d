-- One text more.
use Rattle.std.proofs.Common.{◌<◌, length, arith}
use Rattle.lua_model.specs.declared.Value.{Value}
use Rattle.lua_model.specs.declared.Value.TheVariants.{Nil}
use Rattle.lua_heap.specs.State.{datum}
use Rattle.natives.specs.Shown.{shown_beside}
use Rattle.natives.proofs.Joined.{joined_first, joined_next}
use Rattle.natives.proofs.values.shown_in_a_row.Goals as goal
use Rattle.natives.proofs.values.shown_in_a_row.Goals.{then-index-gt0+in_ok-push, else-index-gt0}

pub loop-index-preserved : goal.loop-index-preserved
loop-index-preserved c =
    let h = c.args.heap.now in
    let vs = c.args.values.now in
    let i = c.loop-index.index in
    let f = λ (v : Value). shown_beside h.host_names (datum h v) in
    let there : i < length vs = omega arith in
    elim c.if-index-gt0.branch [
      | then-index-gt0+in_ok-push w ↦ cc (joined_next f 9 vs i Nil there (omega arith), c.in_ok-extend.ensures.ok, c.bytes.ensures, c.in_ok-shown.ensures, w.in_ok-push.ensures.ok, w.piece-is, c.loop-index.invariant)
      | else-index-gt0 w ↦ cc (joined_first f 9 vs i Nil there (omega arith), c.in_ok-extend.ensures.ok, c.bytes.ensures, c.in_ok-shown.ensures, w.piece-is, c.loop-index.invariant)
    ]
