-- Items of lists and the tests of loops, which are tasks around an expression.
use Rattle.std.proofs.Common.{suc, ◌+◌, refl, arith}
use Rattle.lua_tree.specs.Syntax.{Expression}
use Rattle.lua_model.specs.Datum.{Datum, is_true, first_of}
use Rattle.source_meaning.specs.Tasks.{expression, item, test}
use Rattle.source_meaning.specs.Programs.{done, spend, run}
use Rattle.source_meaning.specs.Meaning.{program}
use Rattle.agrees.proofs.Tasks.{MultiBy, CondTestBy, Simulates, Asked, AskedEarning, scope, ExprBy}
use Rattle.agrees.proofs.Posts.{fail_of, JumpPost}
use Rattle.agrees.proofs.Accounts.{Now, Self, goes_done, goes_ask, goes_last, goes_weaken, by_tick, by_tick_earning}
use Rattle.agrees.proofs.Sizes.{size_e}
use Rattle.agrees.proofs.Picture.{Setup, at}

module _ (z : Setup) (self : Self) (ih : Simulates z self) where
  pub next_one_item : (e : Expression) → ExprBy z e (AskedEarning z 6 (suc (size_e e)) (λ x s w. spend w.ticks w (run self (program (item (scope x) e) s))))
  next_one_item e s o g x k free r p q ok above small lr t =
      by_tick_earning z.bound self (fail_of z x) 6 0 (size_e e) o (Now (at s o g x p.pc)) _ _ refl (omega arith)
      (goes_last z.bound self (fail_of z x) 0 (size_e e) o (Now (at s o g x p.pc)) (expression (scope x) e) s _ (ih.expr e s o g x k free r p q ok above small lr t))

  pub next_all_item : (e : Expression) → MultiBy z e (Asked z (suc (size_e e)) (λ x s w. spend w.ticks w (run self (program (item (scope x) e) s))))
  next_all_item e s o g x want k free p q ok above small t =
      by_tick z.bound self (fail_of z x) 0 0 (size_e e) o (Now (at s o g x p.pc)) _ _ refl (omega arith)
      (goes_last z.bound self (fail_of z x) 0 (size_e e) o (Now (at s o g x p.pc)) (expression (scope x) e) s _ (ih.multi e s o g x want k free p q ok above small t))

  pub next_test : (e : Expression) → CondTestBy z e (Asked z (suc (size_e e)) (λ x s w. spend w.ticks w (run self (program (test (scope x) e) s))))
  next_test e t s o g x k free l p q ok above small w =
      by_tick z.bound self (fail_of z x) 0 0 (size_e e) o (Now (at s o g x p.pc)) _ _ refl (omega arith)
      (goes_weaken z.bound self (fail_of z x) 0 (size_e e + 0) 0 (size_e e) o (Now (at s o g x p.pc)) _ _ (omega arith) (omega arith)
      (goes_ask z.bound self (fail_of z x) (size_e e) 0 0 o (Now (at s o g x p.pc)) (expression (scope x) e) s _ (λ b. JumpPost z x k t l q.pc (Datum.boolean b)) (λ vs s1. done (is_true (first_of vs)) s1)
      (ih.cond e t s o g x k free l p q ok above small w)
      (λ vs s1 o1 p1 h. goes_done z.bound self (fail_of z x) 0 0 o1 p1 (λ b. JumpPost z x k t l q.pc (Datum.boolean b)) (is_true (first_of vs)) s1 (record { g = h.g; high = h.high; keeps = h.keeps; is = h.is; ok = h.ok }))))
