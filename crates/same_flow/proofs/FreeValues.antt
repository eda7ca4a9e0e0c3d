-- The first free register behind values: one more for each value that a loop takes.
use Rattle.std.proofs.Common.{◌≡◌, ℕ, zero, suc, ◌+◌, ◌-◌, ◌<◌, Bool, true, false, cond, length, refl, sym, ap, ◌∙◌, arith}
use Rattle.std.proofs.lemmas.Bool.Decides.{nat_tests}
use Rattle.std.specs.Prelude.{Some, nat_lt}
use Rattle.lua_tree.specs.Syntax.{ForStep, no_step, by_step, Expressions, no_expressions, expression, Expression, vararg_expression, call_expression, method_call, parenthesized, nil_literal}
use Rattle.opcode.specs.declared.op.Op.{Op}
use Rattle.scheme.specs.Making.{Maker}
use Rattle.scheme.specs.Expressions.{is_multiple, next_reg}
use Rattle.scheme.specs.Lists.{all_next, ends_open, all_multi, nils, filled, adjust}
use Rattle.scheme.specs.Statements.{step_part}
use Rattle.scheme.specs.Scheme.{coded, all_coded, step_coded}

-- a value in a register takes none
value_free : (e : Expression) (r : ℕ) (m : Maker) → ((coded e).to_reg r m).free ≡ m.free
value_free (parenthesized line e) r m = value_free e r m
value_free e r m = refl

pub next_free : (e : Expression) (m : Maker) → (next_reg (coded e) m).free ≡ m.free + 1
next_free e m = ap (λ n. n + 1) (value_free e m.free m)

pub step_free : (line : ℕ) (by : ForStep) (m : Maker) → (step_part line (step_coded by) m).free ≡ m.free + 1
step_free line no_step m = refl
step_free line (by_step e) m = next_free e m

-- ---- lists

same_tree : (e : Expression) → (coded e).e ≡ e
same_tree (nil_literal line) = refl
same_tree e = refl

multi_by : (e : Expression) → is_multiple e ≡ true → (n : ℕ) (m : Maker) → ((coded e).multi Op.Call (Some n) m).free ≡ m.free + n
multi_by (vararg_expression line) is n m = refl
multi_by (call_expression line on args on_line) is n m = refl
multi_by (method_call line on text args on_line) is n m = refl
multi_by e is n m = cc

multi_free : (e : Expression) → is_multiple (coded e).e ≡ true → (n : ℕ) (m : Maker) → ((coded e).multi Op.Call (Some n) m).free ≡ m.free + n
multi_free e is = multi_by e (ap is_multiple (sym (same_tree e)) ∙ is)

all_next_free : (es : Expressions) (m : Maker) → (all_next (all_coded es) m).free ≡ m.free + length (all_coded es)
all_next_free no_expressions m = omega arith
all_next_free (expression e rest) m = let a = next_free e m in let b = all_next_free rest (next_reg (coded e) m) in let n = length (all_coded rest) in omega arith

-- the last value is several
all_multi_free : (es : Expressions) → ends_open (all_coded es) ≡ true → (n k : ℕ) → length (all_coded es) + n ≡ suc k → (m : Maker) → (all_multi Op.Call (Some n) (all_coded es) m).free ≡ m.free + k
all_multi_free no_expressions o n k h m = cc
all_multi_free (expression e no_expressions) o n k h m = let a = multi_free e o n m in omega arith
all_multi_free (expression e (expression f rest)) o n zero h m = absurd (let c = length (all_coded rest) in omega arith)
all_multi_free (expression e (expression f rest)) o n (suc k) h m =
    let c = length (all_coded rest) in
    let a = next_free e m in
    let b = all_multi_free (expression f rest) o n k (omega arith) (next_reg (coded e) m) in
    omega arith

filled_free : (line : ℕ) (es : Expressions) (missing : ℕ) (m : Maker) (b : Bool) → ends_open (all_coded es) ≡ b →
    (cond b (all_multi Op.Call (Some (missing + 1)) (all_coded es)) (λ n. nils line missing (all_next (all_coded es) n)) m).free ≡ m.free + (length (all_coded es) + missing)
filled_free line es missing m true h = all_multi_free es h (missing + 1) (length (all_coded es) + missing) (omega arith) m
filled_free line es missing m false h = let a = all_next_free es m in let c = length (all_coded es) in omega arith

adjusted_free : (line : ℕ) (es : Expressions) (n : ℕ) (m : Maker) (b : Bool) → nat_lt (length (all_coded es)) n ≡ b → (adjust line (all_coded es) n m).free ≡ m.free + n
adjusted_free line es n m true h =
    let c = length (all_coded es) in
    let less : c < n = grind (arith, nat_tests) in
    ap (λ b. (cond b (filled line (all_coded es) (n - c)) (λ k. record (all_next (all_coded es) k) { free = m.free + n }) m).free) h ∙ filled_free line es (n - c) m (ends_open (all_coded es)) refl
    ∙ omega arith
adjusted_free line es n m false h = ap (λ b. (cond b (filled line (all_coded es) (n - length (all_coded es))) (λ k. record (all_next (all_coded es) k) { free = m.free + n }) m).free) h

pub adjust_free : (line : ℕ) (es : Expressions) (n : ℕ) (m : Maker) → (adjust line (all_coded es) n m).free ≡ m.free + n
adjust_free line es n m = adjusted_free line es n m (nat_lt (length (all_coded es)) n) refl
