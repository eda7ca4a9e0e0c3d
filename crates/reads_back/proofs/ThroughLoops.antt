-- The parts of `do`, `while` and `repeat` stand, with their law, where those of their blocks do.
use Rattle.std.proofs.Common.{◌≡◌, ◌≤◌, ℕ, suc, Bool, true, false, cond, List, ◌++◌, length, refl, ap, ◌∙◌, subst, arith}
use Rattle.std.specs.Prelude.{Option, is_some}
use Rattle.lua_tree.specs.Outline.{Mark, Place, expression_part, in_loop, statement_part, statements_part, within}
use Rattle.lua_tree.specs.Syntax.{Expression, Statements, do_block, while_loop, repeat_loop}
use Rattle.lua_tree.specs.WellFormed.{formed_expression, formed_statement, formed_statements}
use Rattle.opcode.specs.declared.op.Op.{Op}
use Rattle.scheme.specs.Making.{Maker, active_count, captured_from, end_locals, jump_to, new_label, place}
use Rattle.scheme.specs.Scheme.{coded, statement_made, statements_made}
use Rattle.scheme.specs.Statements.{Loop, block_part, close_from, repeat_captured, repeat_plain}
use Rattle.scheme.specs.declared.making.Piece.{Piece}
use Rattle.scheme_stands.specs.Placed.{RulesKept}
use Rattle.scheme_stands.specs.Words.{Names, asking}
use Rattle.scheme_stands.proofs.Blocks.{Settled, end_any, forget, loop_at}
use Rattle.scheme_stands.proofs.Every.{statements_at}
use Rattle.scheme_stands.proofs.Growth.{Final, Grown, any, before, before_put, calm, fn_of, later, length_end, length_set, on_new, on_part, on_place, on_put, spot, start, unplaced}
use Rattle.scheme_stands.proofs.Here.{tame_expression, tame_loop, tame_statements}
use Rattle.scheme_stands.proofs.Lifts.{Stands, stands_first}
use Rattle.scheme_stands.proofs.Parts.{grows}
use Rattle.scheme_stands.proofs.Sequences.{repeat_onwards, until_here}
use Rattle.scheme_stands.proofs.Small.{Setting}
use Rattle.scheme_stands.proofs.Standing.{named_statements, statements_room}
use Rattle.scheme_stands.proofs.Statements.{grow_statements, settles}
use Rattle.scheme_stands.proofs.Walks.{and_left, and_right}
use Rattle.same_flow.specs.Laid.{loop_of, repeat_begun, while_begun, with_new_labels}
use Rattle.reads_back.proofs.ThroughParts.{IsThrough, before_ends, block_lifted, close_lifted, in_block, in_turn, jump_lifted, statements_plain}
use Rattle.reads_back.proofs.ThroughTests.{behind_test, still_settled, test_lifted, test_through}
use Rattle.reads_back.specs.Through.{EndsThrough, StatementThrough, UntilThrough}

-- ---- the labels of a loop

-- the start of a loop has the label behind that of its exit
label_of_start : (m : Maker) → length (new_label m).after.labels ≡ suc (length m.labels)
label_of_start m = length_end m.labels 0

pub labels_begun : (m : Maker) → length (repeat_begun m).labels ≡ suc (suc (length m.labels))
labels_begun m = length_set (with_new_labels 2 m).labels (suc (length m.labels)) (length m.items) ∙ length_end (new_label m).after.labels 0 ∙ ap suc (length_end m.labels 0)

abbrev pub while_from : (line : ℕ) → Expression → Statements → (first : ℕ) → Maker → Maker
while_from line e block first m = jump_to line first (block_part line (statements_made block (loop_of m)) ((coded e).jump_if false (length m.labels) (place first (with_new_labels 2 m))))

pub while_laid : (line : ℕ) (e : Expression) (block : Statements) (loop : Option Loop) (m : Maker) → statement_made (while_loop e block) line loop m ≡ place (length m.labels) (while_from line e block (suc (length m.labels)) m)
while_laid line e block loop m = ap (λ first. place (length m.labels) (while_from line e block first m)) (label_of_start m)

abbrev pub tested_by : Bool → (line start exit n : ℕ) → Expression → Maker → Maker
tested_by b line start exit n e m = cond b (repeat_captured line start exit n (coded e)) (repeat_plain start n (coded e)) m

abbrev pub repeat_from : (line : ℕ) → Statements → Expression → (first : ℕ) → Maker → Maker
repeat_from line block e first m =
    let inside = statements_made block (loop_of m) (place first (with_new_labels 2 m)) in
    tested_by (captured_from (active_count m) inside) line first (length m.labels) (active_count m) e inside

pub repeat_laid : (line : ℕ) (block : Statements) (e : Expression) (loop : Option Loop) (m : Maker) → statement_made (repeat_loop block e) line loop m ≡ place (length m.labels) (repeat_from line block e (suc (length m.labels)) m)
repeat_laid line block e loop m = ap (λ first. place (length m.labels) (repeat_from line block e first m)) (label_of_start m)

-- the test of a `repeat` keeps what is made before it
pub tested_grows : (b : Bool) (line first exit n : ℕ) (e : Expression) (m : Maker) → Grown any m (tested_by b line first exit n e m)
tested_grows true line first exit n e m =
    let again = length m.labels in
    on_put _ _ (on_put _ _ (on_part (end_any n _) (on_place again (omega arith) (on_put _ _ (on_put _ _ (on_part (forget ((grows calm e).jump_if false again (new_label m).after)) (on_new (start m))))))))
tested_grows false line first exit n e m = on_part (end_any n _) (forget ((grows calm e).jump_if false first m))

module _ (all : List Mark) (rules : RulesKept all) (n : Names) (z : Maker) (setting : Setting n (fn_of z)) where
  -- ---- do

  pub do_through : (line : ℕ) (block : Statements) → IsThrough all rules n z setting block → (loop : Option Loop) (m : Maker) (at : Place) (rest : List Mark) → formed_statement (do_block block) ≡ true → Settled m → Final (length m.labels) (statement_made (do_block block) line loop m) z → is_some loop ≡ at.looped →
      Stands all n (fn_of z) (statement_part line (do_block block)) at rest m.active (spot m) → StatementThrough (asking n (fn_of z)) z line loop (do_block block) m
  do_through line block through loop m at rest formed settled final some stands =
      let lifted = block_lifted all rules n z setting line block through loop m at rest formed settled final some (in_block all rules n z setting block at rest m.active (spot m) stands) in
      lifted.is

  -- ---- while

  pub while_through : (line : ℕ) (e : Expression) (block : Statements) → IsThrough all rules n z setting block → (loop : Option Loop) (m : Maker) (at : Place) (rest : List Mark) → formed_statement (while_loop e block) ≡ true → Settled m → Final (length m.labels) (statement_made (while_loop e block) line loop m) z →
      Stands all n (fn_of z) (statement_part line (while_loop e block)) at rest m.active (spot m) → StatementThrough (asking n (fn_of z)) z line loop (while_loop e block) m
  while_through line e block through loop m at rest formed settled final stands =
      let fe = and_left (formed_expression e) (formed_statements block) formed in
      let fb = and_right (formed_expression e) (formed_statements block) formed in
      let exit = length m.labels in
      let ready = repeat_begun m in
      let begun = while_begun e m in
      let made = block_part line (statements_made block (loop_of m)) begun in
      let back = jump_to line (suc exit) made in
      let count : length ready.labels ≡ suc (suc exit) = labels_begun m in
      let grown = (grows calm e).jump_if false exit ready in
      let s : Settled begun = still_settled m begun settled ((grows calm e).jump_free false exit ready) grown.active in
      let f_back : Final (suc exit) back z = unplaced {n = back} exit (omega arith) (subst (λ o. Final (length m.labels) o z) (while_laid line e block loop m) final) in
      let f_made = before_put line (Piece.Jump Op.Jmp 0 (suc exit)) made f_back in
      let f_begun = before (grow_statements block (loop_of m) begun s) (before_ends line (active_count begun) (statements_made block (loop_of m) begun) f_made) in
      let f_test : Final (length ready.labels) begun z = later (omega (arith, count)) f_begun in
      let body = within in_loop (statements_part block) in
      let tame = tame_loop (statements_part block) (tame_statements block) in
      let test = test_through all rules n z setting e fe false exit ready at _ settled f_test (stands_first all n (fn_of z) (expression_part e) body at rest m.active (spot m) (tame_expression e) tame stands) in
      let behind = behind_test all rules n z setting e fe body tame false exit ready at rest settled f_test stands in
      let inside = block_lifted all rules n z setting line block through (loop_of m) begun (in_loop (expression_part e at).next) rest fb s (later (omega (arith, count, grown.more)) f_made) refl (in_turn all rules n z setting block (expression_part e at).next rest begun.active (spot begun) behind) in
      let word = jump_lifted all rules n z setting line (suc exit) made f_back inside.plain in
      (test, inside.is.0, subst (λ k. EndsThrough (asking n (fn_of z)) line k (statements_made block (loop_of m) begun)) (ap length grown.active) inside.is.1, word.is)

  -- ---- repeat

  -- the test stands behind the block, in the scope of its locals
  module _ (line : ℕ) (e : Expression) (formed : formed_expression e ≡ true) (first exit k : ℕ) (room : k ≤ (fn_of z).size) (m : Maker) (at : Place) (rest : List Mark) (settled : Settled m) (stands : Stands all n (fn_of z) (expression_part e) at rest m.active (spot m)) where
    until_through : (b : Bool) → Final (length m.labels) (tested_by b line first exit k e m) z → UntilThrough (asking n (fn_of z)) z b e line first exit k m
    until_through true final =
        let again = length m.labels in
        let begun = (new_label m).after in
        let tested = (coded e).jump_if false again begun in
        let closed = close_from line k tested in
        let left = jump_to line exit closed in
        let behind = end_locals k (place again left) in
        let closed_again = close_from line k behind in
        let one : length begun.labels ≡ suc again = length_end m.labels 0 in
        let f_again = before_put line (Piece.Jump Op.Jmp 0 first) closed_again final in
        let f_left : Final (suc again) left z = unplaced {n = left} again (omega arith) (before (end_any k (place again left)) (before_put line (Piece.Abc Op.Close k 0 0) behind f_again)) in
        let f_closed = before_put line (Piece.Jump Op.Jmp 0 exit) closed f_left in
        let f_tested : Final (length begun.labels) tested z = later (omega (arith, one)) (before_put line (Piece.Abc Op.Close k 0 0) tested f_closed) in
        let test = test_lifted all rules n z setting e formed false again begun at rest settled f_tested stands in
        let close = close_lifted all rules n z setting line k tested room f_closed test.plain in
        let leave = jump_lifted all rules n z setting line exit closed f_left close.plain in
        let close_again = close_lifted all rules n z setting line k behind room f_again leave.plain in
        let back = jump_lifted all rules n z setting line first closed_again final close_again.plain in
        (test_through all rules n z setting e formed false again begun at rest settled f_tested stands, close.is, leave.is, close_again.is, back.is)
    until_through false final = test_through all rules n z setting e formed false first m at rest settled (before (end_any k ((coded e).jump_if false first m)) final) stands

  pub repeat_through : (line : ℕ) (block : Statements) (e : Expression) → IsThrough all rules n z setting block → (loop : Option Loop) (m : Maker) (at : Place) (rest : List Mark) → formed_statement (repeat_loop block e) ≡ true → Settled m → Final (length m.labels) (statement_made (repeat_loop block e) line loop m) z →
      Stands all n (fn_of z) (statement_part line (repeat_loop block e)) at rest m.active (spot m) → StatementThrough (asking n (fn_of z)) z line loop (repeat_loop block e) m
  repeat_through line block e through loop m at rest formed settled final stands =
      let f = fn_of z in
      let fb = and_left (formed_statements block) (formed_expression e) formed in
      let fe = and_right (formed_statements block) (formed_expression e) formed in
      let exit = length m.labels in
      let k = active_count m in
      let begun = repeat_begun m in
      let inner = loop_of m in
      let inside = statements_made block inner begun in
      let b = captured_from k inside in
      let tested = tested_by b line (suc exit) exit k e inside in
      let count : length begun.labels ≡ suc (suc exit) = labels_begun m in
      let grown = grow_statements block inner begun settled in
      let f_tested : Final (suc exit) tested z = unplaced {n = tested} exit (omega arith) (subst (λ o. Final (length m.labels) o z) (repeat_laid line block e loop m) final) in
      let f_inside : Final (length begun.labels) inside z = later (omega (arith, count)) (before (tested_grows b line (suc exit) exit k e inside) f_tested) in
      let o = repeat_onwards all line block e at rest m.active (spot m) stands.here stands.active_at in
      let body : Stands all n f (statements_part block) (in_loop at) ((expression_part e (statements_part block (in_loop at)).next).marks ++ rest) m.active (spot m) = record { here = o.here; active_at = o.active_at; named = stands.named; room = stands.room; plain = stands.plain } in
      let words = statements_at z block inner begun settled f_inside in
      let until = until_here all f (loop_at z inner) line block e at rest m.active inside.active (spot m) (spot inside) fb stands.here stands.active_at words in
      let behind : Stands all n f (expression_part e) (statements_part block (in_loop at)).next rest inside.active (spot inside) = record {
        here = until.0;
        active_at = until.1;
        named = named_statements all n f (loop_at z inner) block (in_loop at) _ m.active inside.active (spot m) (spot inside) fb o.here o.active_at stands.named words;
        room = statements_room f (loop_at z inner) block m.active inside.active (spot m) (spot inside) stands.room words;
        plain = statements_plain all rules n z setting block inner begun (in_loop at) _ fb settled f_inside refl body;
      } in (
        through inner begun (in_loop at) _ fb settled f_inside refl body,
        until_through line e fe (suc exit) exit k stands.room inside (statements_part block (in_loop at)).next rest (settles block inner begun settled) behind b (later (omega (arith, count, grown.more)) f_tested),
      )
