-- The parts of every call: what is called and its arguments, up to the word that calls.
use Rattle.source_meaning.specs.Tasks.{called_item, called}
use Rattle.source_meaning.specs.Programs.{spend, run}
use Rattle.source_meaning.specs.Meaning.{program}
use Rattle.std.proofs.Common.{◌≡◌, refl, true, false, arith, suc}
use Rattle.lua_tree.specs.Syntax.{Expression, vararg_expression, call_expression, method_call}
use Rattle.source_meaning.specs.Meaning.{call_parts}
use Rattle.agrees.proofs.Posts.{fail_of}
use Rattle.agrees.proofs.Tasks.{PartsBy, Simulates, Does, scope, inner_parts, Asked}
use Rattle.agrees.proofs.Accounts.{Self, goes_weaken, by_tick, Now, goes_last}
use Rattle.agrees.proofs.Picture.{Setup, at}
use Rattle.agrees.proofs.CallValues.{call_parts_goes}
use Rattle.agrees.proofs.CallMethods.{method_parts_goes}

module _ (z : Setup) (self : Self) (ih : Simulates z self) where
  pub parts_goes : (e : Expression) → PartsBy z e (Does z self 4 (inner_parts e) (λ x s. call_parts e (scope x) s))
  parts_goes (call_expression line on args on_line) = λ s o g x op want k free p q ok ab small w made.
      goes_weaken z.bound self (fail_of z x) 0 _ 4 _ o _ _ _ (omega arith) (omega arith) (call_parts_goes z self ih line on_line on args s o g x op want k free p q ok ab (omega (arith, small)) w)
  parts_goes (method_call line on name args on_line) = λ s o g x op want k free p q ok ab small w made.
      goes_weaken z.bound self (fail_of z x) 2 _ 4 _ o _ _ _ (omega arith) (omega arith) (method_parts_goes z self ih line on_line on name args s o g x op want k free p q ok ab (omega (arith, small)) w)
  parts_goes (vararg_expression line) = λ s o g x op want k free p q ok ab small w made. absurd (let e : false ≡ true = made in cc)
  parts_goes e = λ s o g x op want k free p q ok ab small w made. absurd w

  pub next_call_item : (e : Expression) → PartsBy z e (Asked z (suc (suc (inner_parts e))) (λ x s w. spend w.ticks w (run self (program (called_item (scope x) e) s))))
  next_call_item e s o g x op want k free p q ok above small t made =
      by_tick z.bound self (fail_of z x) 0 0 (suc (inner_parts e)) o (Now (at s o g x p.pc)) _ _ refl (omega arith)
      (goes_last z.bound self (fail_of z x) 0 (suc (inner_parts e)) o (Now (at s o g x p.pc)) (called (scope x) e) s _ (ih.parts e s o g x op want k free p q ok above small t made))
