-- The labels of loops and arms stand where their parts are made.
use Rattle.std.proofs.Common.{◌≡◌, ◌≤◌, ℕ, suc, Bool, false, length, sym, ap, ◌∙◌, subst, arith}
use Rattle.std.specs.Prelude.{Option}
use Rattle.lua_tree.specs.Syntax.{Expression, Otherwise, Branches, Statements, if_statement, repeat_loop, while_loop}
use Rattle.scheme.specs.Making.{Maker, active_count, captured_from, jump_to, new_label, place, when}
use Rattle.scheme.specs.Scheme.{branches_made, coded, has_otherwise, otherwise_made, statement_made, statements_made}
use Rattle.scheme.specs.Statements.{Loop, arm_part, block_part, close_from}
use Rattle.scheme_stands.proofs.Blocks.{Settled, block_grows}
use Rattle.scheme_stands.proofs.Growth.{calm, length_end, length_set}
use Rattle.scheme_stands.proofs.Parts.{grows}
use Rattle.scheme_stands.proofs.Statements.{calm_branches, calm_otherwise, grow_statements}
use Rattle.same_flow.specs.Laid.{arm_begun, label_of, loop_of, repeat_begun, while_begun, with_new_labels}
use Rattle.reads_back.proofs.LabelsStand.{Owned, count_leaves, owned_before, owned_ends, owned_later, owned_leaves, owned_placed, owned_unplaced}
use Rattle.reads_back.proofs.ThroughLoops.{labels_begun, repeat_from, repeat_laid, tested_grows, while_from, while_laid}
use Rattle.reads_back.specs.Through.{pc_of_label}

-- ---- while

pub record WhileLabels (z : Maker) (e : Expression) (block : Statements) (loop : Option Loop) (m : Maker) : Type 0 where
  pub exit : pc_of_label z (label_of m) ≡ length (statement_made (while_loop e block) 1 loop m).items
  pub start : pc_of_label z (suc (label_of m)) ≡ length m.items
  pub test : Owned (label_of (repeat_begun m)) (while_begun e m).labels z
  pub body : Owned (label_of (while_begun e m)) (statements_made block (loop_of m) (while_begun e m)).labels z

pub while_labels : (z : Maker) (e : Expression) (block : Statements) (loop : Option Loop) (m : Maker) → Settled (while_begun e m) → Owned (label_of m) (statement_made (while_loop e block) 1 loop m).labels z →
    WhileLabels z e block loop m
while_labels z e block loop m settled owned =
    let exit = label_of m in
    let ready = repeat_begun m in
    let begun = while_begun e m in
    let made = block_part 1 (statements_made block (loop_of m)) begun in
    let back = while_from 1 e block (suc exit) m in
    let laid = while_laid 1 e block loop m in
    let count = labels_begun m in
    let test = (grows calm e).jump_if false exit ready in
    let inner = block_grows 1 (statements_made block (loop_of m)) begun (grow_statements block (loop_of m) begun settled) in
    let all : Owned exit (place exit back).labels z = subst (λ (o : Maker). Owned exit o.labels z) laid owned in
    let behind : Owned (suc exit) made.labels z = owned_unplaced exit back (omega arith) all in
    let first = owned_before inner behind in
    let new : length (with_new_labels 2 m).labels ≡ suc (suc exit) = length_end (new_label m).after.labels 0 ∙ ap suc (length_end m.labels 0) in
    record {
      exit = owned_placed exit back (omega arith) (omega (arith, count, test.more, inner.more)) all ∙ ap (λ (o : Maker). length o.items) (sym laid);
      start = owned_placed (suc exit) (with_new_labels 2 m) (omega arith) (omega (arith, new)) (owned_before test first);
      test = owned_later (omega (arith, count)) first;
      body = owned_later (omega (arith, count, test.more)) (owned_ends 1 (active_count begun) (statements_made block (loop_of m) begun) behind);
    }

-- ---- repeat

pub record RepeatLabels (z : Maker) (block : Statements) (e : Expression) (loop : Option Loop) (m : Maker) : Type 0 where
  pub exit : pc_of_label z (label_of m) ≡ length (statement_made (repeat_loop block e) 1 loop m).items
  pub start : pc_of_label z (suc (label_of m)) ≡ length m.items
  pub body : Owned (label_of (repeat_begun m)) (statements_made block (loop_of m) (repeat_begun m)).labels z
  pub tested : Owned (label_of (statements_made block (loop_of m) (repeat_begun m))) (repeat_from 1 block e (suc (label_of m)) m).labels z

pub repeat_labels : (z : Maker) (block : Statements) (e : Expression) (loop : Option Loop) (m : Maker) → Settled m → Owned (label_of m) (statement_made (repeat_loop block e) 1 loop m).labels z →
    RepeatLabels z block e loop m
repeat_labels z block e loop m settled owned =
    let exit = label_of m in
    let ready = repeat_begun m in
    let inside = statements_made block (loop_of m) ready in
    let tested = repeat_from 1 block e (suc exit) m in
    let laid = repeat_laid 1 block e loop m in
    let count = labels_begun m in
    let inner = grow_statements block (loop_of m) ready settled in
    let test = tested_grows (captured_from (active_count m) inside) 1 (suc exit) exit (active_count m) e inside in
    let all : Owned exit (place exit tested).labels z = subst (λ (o : Maker). Owned exit o.labels z) laid owned in
    let behind = owned_unplaced exit tested (omega arith) all in
    let first = owned_before test behind in
    let new : length (with_new_labels 2 m).labels ≡ suc (suc exit) = length_end (new_label m).after.labels 0 ∙ ap suc (length_end m.labels 0) in
    record {
      exit = owned_placed exit tested (omega arith) (omega (arith, count, test.more, inner.more)) all ∙ ap (λ (o : Maker). length o.items) (sym laid);
      start = owned_placed (suc exit) (with_new_labels 2 m) (omega arith) (omega (arith, new)) (owned_before inner first);
      body = owned_later (omega (arith, count)) first;
      tested = owned_later (omega (arith, count, inner.more)) behind;
    }

-- the second CLOSE of a `repeat` has a label
pub record AgainLabels (z : Maker) (e : Expression) (left inside : Maker) : Type 0 where
  pub again : pc_of_label z (label_of inside) ≡ length left.items
  pub test : Owned (label_of (new_label inside).after) ((coded e).jump_if false (label_of inside) (new_label inside).after).labels z

pub again_labels : (z : Maker) (e : Expression) (exit n : ℕ) (inside : Maker) →
    Owned (label_of inside) (place (label_of inside) (jump_to 1 exit (close_from 1 n ((coded e).jump_if false (label_of inside) (new_label inside).after)))).labels z →
    AgainLabels z e (jump_to 1 exit (close_from 1 n ((coded e).jump_if false (label_of inside) (new_label inside).after))) inside
again_labels z e exit n inside owned =
    let again = label_of inside in
    let begun = (new_label inside).after in
    let left = jump_to 1 exit (close_from 1 n ((coded e).jump_if false again begun)) in
    let count = length_end inside.labels 0 in
    let test = (grows calm e).jump_if false again begun in
    record {
      again = owned_placed again left (omega arith) (omega (arith, count, test.more)) owned;
      test = owned_later (omega (arith, count)) (owned_unplaced again left (omega arith) owned);
    }

-- ---- if

pub record IfLabels (z : Maker) (branches : Branches) (last : Otherwise) (loop : Option Loop) (m : Maker) : Type 0 where
  pub end : pc_of_label z (label_of m) ≡ length (statement_made (if_statement branches last) 1 loop m).items
  pub arms : Owned (label_of (new_label m).after) (branches_made branches 1 loop (label_of m) (has_otherwise last) (new_label m).after).labels z
  pub rest : Owned (label_of (branches_made branches 1 loop (label_of m) (has_otherwise last) (new_label m).after)) (otherwise_made last 1 loop (branches_made branches 1 loop (label_of m) (has_otherwise last) (new_label m).after)).labels z

pub if_labels : (z : Maker) (branches : Branches) (last : Otherwise) (loop : Option Loop) (m : Maker) → Settled m → Owned (label_of m) (statement_made (if_statement branches last) 1 loop m).labels z →
    IfLabels z branches last loop m
if_labels z branches last loop m settled owned =
    let end = label_of m in
    let begun = (new_label m).after in
    let one = calm_branches branches 1 loop end (has_otherwise last) begun settled in
    let arms = branches_made branches 1 loop end (has_otherwise last) begun in
    let two = calm_otherwise last 1 loop arms one.settled in
    let made = otherwise_made last 1 loop arms in
    let count = length_end m.labels 0 in
    let grown = one.grown in
    let further = two.grown in
    let behind = owned_unplaced end made (omega arith) owned in
    record {
      end = owned_placed end made (omega arith) (omega (arith, count, grown.more, further.more)) owned;
      arms = owned_later (omega (arith, count)) (owned_before further behind);
      rest = owned_later (omega (arith, count, grown.more)) behind;
    }

-- an arm has a label for what is behind it
pub record ArmLabels (z : Maker) (e : Expression) (block : Statements) (loop : Option Loop) (left m : Maker) : Type 0 where
  pub more : label_of m ≤ label_of (place (label_of m) left)
  pub next : pc_of_label z (label_of m) ≡ length left.items
  pub test : Owned (label_of (new_label m).after) (arm_begun e m).labels z
  pub body : Owned (label_of (arm_begun e m)) (statements_made block loop (arm_begun e m)).labels z

pub arm_labels : (z : Maker) (e : Expression) (block : Statements) (loop : Option Loop) (end : ℕ) (more : Bool) (m : Maker) → Settled (arm_begun e m) →
    Owned (label_of m) (arm_part 1 end more (coded e) (statements_made block loop) m).labels z →
    ArmLabels z e block loop (when more (jump_to 1 end) (block_part 1 (statements_made block loop) (arm_begun e m))) m
arm_labels z e block loop end more m settled owned =
    let next = label_of m in
    let begun = arm_begun e m in
    let made = block_part 1 (statements_made block loop) begun in
    let left = when more (jump_to 1 end) made in
    let count = length_end m.labels 0 in
    let test = (grows calm e).jump_if false next (new_label m).after in
    let inner = block_grows 1 (statements_made block loop) begun (grow_statements block loop begun settled) in
    let same = count_leaves more 1 end made in
    let behind = owned_leaves more 1 end made (owned_unplaced next left (omega arith) owned) in
    let set_left = length_set left.labels next (length left.items) in
    record {
      more = omega (arith, count, test.more, inner.more, same, set_left);
      next = owned_placed next left (omega arith) (omega (arith, count, test.more, inner.more, same)) owned;
      test = owned_later (omega (arith, count)) (owned_before inner behind);
      body = owned_later (omega (arith, count, test.more)) (owned_ends 1 (active_count begun) (statements_made block loop begun) behind);
    }
