-- Every statement, with its tick.
use Rattle.std.proofs.Common.{ℕ, suc, ◌+◌, [], ◌∷◌, Some, refl, subst, arith, ◌≤◌, sym, length}
use Rattle.lua_tree.specs.Syntax.{Statement, Expression, assignment, call_statement, do_block, while_loop, repeat_loop, if_statement, numeric_for, generic_for, function_statement, local_function, local_statement, return_statement, break_statement}
use Rattle.source_meaning.specs.Meaning.{execute, goes_on_at}
use Rattle.source_meaning.specs.State.{goes}
use Rattle.source_meaning.specs.Tasks.{statement, expression}
use Rattle.agrees.proofs.Registers.{all_above}
use Rattle.agrees.proofs.LocalsBegin.{grown_self}
use Rattle.agrees.proofs.StatementReturn.{return_goes}
use Rattle.agrees.proofs.StatementLocalFunctions.{local_function_goes}
use Rattle.agrees.proofs.AssignPaths.{function_goes, path_named}
use Rattle.agrees.proofs.AssignStatement.{assign_goes}
use Rattle.agrees.proofs.Accounts.{Now, Self, goes_done, goes_weaken, by_tick, goes_ask, Goes}
use Rattle.agrees.proofs.LoopNumeric.{numeric_goes}
use Rattle.agrees.proofs.LoopRepeat.{repeat_goes}
use Rattle.agrees.proofs.Picture.{Setup, at}
use Rattle.agrees.proofs.Posts.{FlowPost, fail_of}
use Rattle.agrees.proofs.Sizes.{inner_list, size_e, size_b, inner_statement, call_cost, inner_step}
use Rattle.agrees.proofs.StatementBlocks.{do_goes, while_goes}
use Rattle.agrees.proofs.StatementIf.{if_goes, break_goes}
use Rattle.agrees.proofs.StatementLocals.{local_goes, generic_goes}
use Rattle.agrees.proofs.Tasks.{StatementBy, Simulates, Asked, scope, repeat_size, tasked, while_size, Does}

module _ (z : Setup) (self : Self) (ih : Simulates z self) where
  -- a call as a statement
  pub call_goes : (e : Expression) → StatementBy z (call_statement e) (Does z self 0 (size_e e) (λ x s. execute (call_statement e) (scope x) s))
  call_goes e s o g x around active1 p q ok out small t =
      subst (λ l. Goes z.bound self (fail_of z x) 0 (size_e e) o (Now (at s o g x p.pc)) (FlowPost z x around l q.pc) (execute (call_statement e) (scope x) s)) (sym t.stays)
      (goes_weaken z.bound self (fail_of z x) 0 (size_e e + 0) 0 (size_e e) o (Now (at s o g x p.pc)) (FlowPost z x around x.a.active q.pc) _ (omega arith) (omega arith)
      (goes_ask z.bound self (fail_of z x) (size_e e) 0 0 o (Now (at s o g x p.pc)) (expression (scope x) e) s _ (FlowPost z x around x.a.active q.pc) (λ vs s1. goes_on_at (scope x) s1)
      (ih.multi e s o g x (Some 0) 0 (length x.a.active) p q ok (all_above z s g x ok) (omega arith) t.part_at)
      (λ vs s1 o1 p1 h. goes_done z.bound self (fail_of z x) 0 0 o1 p1 (FlowPost z x around x.a.active q.pc) (goes x.a.own) s1 (record { a = x.a; g = h.g; high = h.high; grown = grown_self x.a; names = refl; actives = refl; is = h.held.1; ok = h.ok }))))

  -- a statement's tick, and its words
  ticks : (c : Statement) (j S : ℕ) → j ≤ 7 → S ≤ inner_statement c → StatementBy z c (Does z self j S (λ x s. execute c (scope x) s)) → StatementBy z c (Asked z (suc (inner_statement c)) (λ x. tasked self (statement (scope x) c)))
  ticks c j S few fits way s o g x around active1 p q ok out small t =
      by_tick z.bound self (fail_of z x) 0 j (inner_statement c) o (Now (at s o g x p.pc)) (FlowPost z x around active1 q.pc) (execute c (scope x) s) refl few
      (goes_weaken z.bound self (fail_of z x) j S j (inner_statement c) o (Now (at s o g x p.pc)) (FlowPost z x around active1 q.pc) (execute c (scope x) s) (omega arith) fits (way s o g x around active1 p q ok out small t))

  pub next_statement : (c : Statement) → StatementBy z c (Asked z (suc (inner_statement c)) (λ x. tasked self (statement (scope x) c)))
  next_statement (assignment ts es) = ticks (assignment ts es) 1 _ (omega arith) (omega arith) (assign_goes z self ih ts es)
  next_statement (call_statement e) = ticks (call_statement e) 0 (size_e e) (omega arith) (omega arith) (call_goes e)
  next_statement (do_block b) = ticks (do_block b) 1 (size_b b) (omega arith) (omega arith) (do_goes z self ih b)
  next_statement (while_loop e b) = ticks (while_loop e b) 0 (suc (size_e e) + while_size b) (omega arith) (omega arith) (while_goes z self ih e b)
  next_statement (repeat_loop b e) = ticks (repeat_loop b e) 0 (repeat_size b e) (omega arith) (omega arith) (repeat_goes z self ih b e)
  next_statement (if_statement branches last) = ticks (if_statement branches last) 2 (inner_statement (if_statement branches last)) (omega arith) (omega arith) (if_goes z self ih branches last)
  next_statement (numeric_for name first last st body) = ticks (numeric_for name first last st body) 3 (size_e first + (size_e last + (inner_step st + 1))) (omega arith) (omega arith) (numeric_goes z self ih name first last st body)
  next_statement (generic_for names es b) = ticks (generic_for names es b) 3 (inner_list es + suc call_cost) (omega arith) (omega arith) (generic_goes z self ih names es b)
  next_statement (function_statement [] method body) = λ s o g x around active1 p q ok out small t. absurd (path_named z x.a method _ _ _ p _ t.part_at.targets_at.target_at)
  next_statement (function_statement (name ∷ path) method body) = ticks (function_statement (name ∷ path) method body) 1 _ (omega arith) (omega arith) (function_goes z self ih name path method body)
  next_statement (local_function name body) = ticks (local_function name body) 1 _ (omega arith) (omega arith) (local_function_goes z self name body)
  next_statement (local_statement names es) = ticks (local_statement names es) 1 (inner_list es) (omega arith) (omega arith) (local_goes z self ih names es)
  next_statement (return_statement es) = ticks (return_statement es) 1 (inner_statement (return_statement es)) (omega arith) (omega arith) (return_goes z self ih es)
  next_statement break_statement = ticks break_statement 2 0 (omega arith) (omega arith) (break_goes z self ih)
