-- Every statement keeps what is made.
use Rattle.std.proofs.Common.{ℕ, Bool, false, [], ◌∷◌, length, refl, sym, ap, arith}
use Rattle.std.specs.Prelude.{Option, Some, ◌||◌, is_some}
use Rattle.lua_tree.specs.Syntax as syntax
use Rattle.lua_tree.specs.Syntax.{Statements, no_statements, Statement, assignment, call_statement, do_block, while_loop, repeat_loop, if_statement, numeric_for, generic_for, function_statement, local_function, local_statement, return_statement, break_statement, Branches, no_branches, branch, Otherwise, no_otherwise, otherwise, ForStep, no_step, by_step}
use Rattle.opcode.specs.declared.op.Op.{Op}
use Rattle.scheme.specs.Making.{Maker, place, new_label}
use Rattle.scheme.specs.Functions.{coded_function}
use Rattle.scheme.specs.Statements.{Loop, settle, path_from, with_method}
use Rattle.scheme.specs.Scheme.{inner, all_coded, coded, step_coded, statements_made, statement_made, branches_made, otherwise_made, has_branch, has_otherwise}
use Rattle.scheme_stands.proofs.Growth.{calm, loose, Grown, start, on_part, on_new, on_free, on_place}
use Rattle.scheme_stands.proofs.Parts.{grows, grow_all, grows_function}
use Rattle.scheme_stands.proofs.Lines.{grows_local, grows_local_function, grows_return}
use Rattle.scheme_stands.proofs.Stores.{grows_assign, grows_method}
use Rattle.scheme_stands.proofs.Blocks.{loosen, Settled, GrowsWell, Calm, block_grows, arm_calm, calm_then, break_grows}
use Rattle.scheme_stands.proofs.Loops.{while_grows, repeat_grows}
use Rattle.scheme_stands.proofs.Fors.{StepGrows, no_step_grows, by_step_grows, numeric_grows, generic_grows}

pub step_grows : (line : ℕ) (step : ForStep) → StepGrows line (step_coded step)
step_grows line no_step = no_step_grows line
step_grows line (by_step e) = by_step_grows line (coded e) (grows calm e)

pub if_chain : (m : Maker) {n o : Maker} → Calm (new_label m).after n → Calm n o → Grown calm m (place (length m.labels) o)
if_chain m b c = on_place (length m.labels) (omega arith) (on_part c.grown (on_part b.grown (on_new (start m))))

mutual
  pub grow_statements : (ss : Statements) (loop : Option Loop) → GrowsWell (statements_made ss loop)
  grow_statements no_statements loop m s = start m
  grow_statements (syntax.statement line semi one rest) loop m s =
      let m1 = statement_made one line loop m in
      on_part (grow_statements rest loop (settle m1) refl) (on_free (length m1.active) (grow_statement one line loop m s))

  pub grow_statement : (one : Statement) (line : ℕ) (loop : Option Loop) → GrowsWell (statement_made one line loop)
  grow_statement (assignment targets es) line loop m s = loosen (grows_assign line (all_coded targets) (all_coded es) (grow_all calm targets) (grow_all calm es) m)
  grow_statement (call_statement e) line loop m s = (grows loose e).multi Op.Call (Some 0) m
  grow_statement (do_block block) line loop m s = loosen (block_grows line (statements_made block loop) m (grow_statements block loop m s))
  grow_statement (while_loop test block) line loop m s = loosen (while_grows line (coded test) (statements_made block) (grows calm test) (grow_statements block) m s)
  grow_statement (repeat_loop block test) line loop m s = loosen (repeat_grows line (coded test) (statements_made block) (grows calm test) (grow_statements block) m s)
  grow_statement (if_statement branches last) line loop m s =
      let b = calm_branches branches line loop (length m.labels) (has_otherwise last) (new_label m).after s in
      loosen (if_chain m b (calm_otherwise last line loop _ b.settled))
  grow_statement (numeric_for text first last step block) line loop m s =
      loosen (numeric_grows line text (coded first) (coded last) (step_coded step) (statements_made block) (grows calm first) (grows calm last) (step_grows line step) (grow_statements block) m s)
  grow_statement (generic_for names es block) line loop m s = loosen (generic_grows line names (all_coded es) (statements_made block) (grow_all calm es) (grow_statements block) m s)
  grow_statement (function_statement path method body) line loop m s =
      loosen (grows_assign line (with_method line (path_from line path) method ∷ []) (coded_function line body (inner body (is_some method)) ∷ []) (grows_method line path method, tt) (grows_function line body (inner body (is_some method)), tt) m)
  grow_statement (local_function text body) line loop m s = grows_local_function line text (inner body false) m
  grow_statement (local_statement names es) line loop m s = grows_local line names (all_coded es) (grow_all loose es) m
  grow_statement (return_statement es) line loop m s = loosen (grows_return line (all_coded es) (grow_all calm es) m)
  grow_statement break_statement line loop m s = loosen (break_grows line loop m)

  pub calm_branches : (branches : Branches) (line : ℕ) (loop : Option Loop) (end : ℕ) (more : Bool) (m : Maker) → Settled m → Calm m (branches_made branches line loop end more m)
  calm_branches no_branches line loop end more m s = record { grown = start m; settled = s }
  calm_branches (branch test block rest) line loop end more m s =
      let a = arm_calm line end (has_branch rest || more) (coded test) (statements_made block loop) (grows calm test) (grow_statements block loop) m s in
      calm_then a (calm_branches rest line loop end more _ a.settled)

  pub calm_otherwise : (last : Otherwise) (line : ℕ) (loop : Option Loop) (m : Maker) → Settled m → Calm m (otherwise_made last line loop m)
  calm_otherwise no_otherwise line loop m s = record { grown = start m; settled = s }
  calm_otherwise (otherwise block) line loop m s =
      let g = block_grows line (statements_made block loop) m (grow_statements block loop m s) in
      record { grown = g; settled = sym (ap length g.active) }

-- F is the number of active locals behind statements
pub settles : (ss : Statements) (loop : Option Loop) (m : Maker) → Settled m → Settled (statements_made ss loop m)
settles no_statements loop m s = s
settles (syntax.statement line semi one rest) loop m s = settles rest loop (settle (statement_made one line loop m)) refl
