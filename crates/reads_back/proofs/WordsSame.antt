-- What the scheme asks of an expression, and what it makes of one in parentheses or on one line; what is written of a value as an operand and in the next register.
use Rattle.std.proofs.Common.{◌≡◌, ℕ, suc, ◌≤◌, Bool, true, false, cond, List, length, Option, Some, None, refl, sym, ap, ap₂, ◌∙◌, subst, arith, le-leb, true≢false, inl, inr, ◌⊎◌}
use Rattle.std.proofs.lemmas.Option.{none-some}
use Rattle.std.specs.Prelude.{◌+◌, ◌||◌, ℤ, not}
use Rattle.lua_tree.specs.OneLine.{one_line_expression}
use Rattle.lua_tree.specs.WellFormed.{formed_expression}
use Rattle.lua_tree.specs.Precedence.{binds, is_right_associative, is_unary, left_binds, level_of, level_of_op, right_binds}
use Rattle.lua_tree.specs.Syntax.{Expression, binary_expression, and_expression, nil_literal, or_expression, parenthesized, unary_expression}
use Rattle.lua_tree.specs.declared.tree.BinaryOp.{BinaryOp}
use Rattle.opcode.specs.declared.op.Op.{Op}
use Rattle.proto.specs.declared.parts.Constant.{Constant}
use Rattle.core_expr.specs.Counting.{taken_behind}
use Rattle.core_expr.specs.Values.{Value, Inner}
use Rattle.core_expr.specs.Writing.{Wording, is_power, on_left, on_right, unless}
use Rattle.recover_expr.specs.Situation.{Function}
use Rattle.scheme.specs.Expressions.{Want, arith_op, fold, fold_binary, fold_unary, in_next_reg, is_multiple, is_name, is_small, literal, local_register, next_reg, number_or, operand, operand_by, plain_literal, register_of, rk, rk_by, small_constant}
use Rattle.scheme.specs.Making.{Got, Maker, next_name, pass_name, take_registers}
use Rattle.scheme.specs.Scheme.{coded}
use Rattle.scheme.specs.declared.making.Active.{Active}
use Rattle.scheme_stands.proofs.Growth.{Final, before_take}
use Rattle.scheme_stands.specs.Words.{Fn}
use Rattle.reads_back.proofs.Mentions.{IsAhead, mentions_in}
use Rattle.reads_back.proofs.Rewriting.{HasRoom, IsMadeAs, RewrittenWith, code, wording}

-- ---- on one line

pub coded_is : (x : Expression) → (coded x).e ≡ x
coded_is (nil_literal line) = refl
coded_is x = refl

pub same_name : (e : Expression) → is_name (one_line_expression e) ≡ is_name e
same_name (parenthesized line e) = same_name e
same_name e = refl

pub same_fold : (e : Expression) → fold (one_line_expression e) ≡ fold e
same_fold (parenthesized line e) = same_fold e
same_fold (unary_expression line op e) = ap (fold_unary op) (same_fold e)
same_fold (binary_expression line op left right) = ap₂ (fold_binary (arith_op op)) (same_fold left) (same_fold right)
same_fold e = refl

same_plain : (e : Expression) → plain_literal (one_line_expression e) ≡ plain_literal e
same_plain (nil_literal line) = refl
same_plain e = refl

pub same_literal : (e : Expression) → literal (one_line_expression e) ≡ literal e
same_literal e = ap₂ number_or (same_fold e) (same_plain e)

pub same_multiple : (e : Expression) → is_multiple (one_line_expression e) ≡ is_multiple e
same_multiple (nil_literal line) = refl
same_multiple e = refl

-- ---- a local is an operand as it is; another value is one in the next register

operand_is : (x : Expression) (m : Maker) → operand (coded x) m ≡ operand_by (local_register x m) (coded x) m
operand_is x m = ap (λ x'. operand_by (local_register x' m) (coded x) m) (coded_is x)

pub operand_next : (x : Expression) (m : Maker) → local_register x m ≡ None → operand (coded x) m ≡ in_next_reg (coded x) m
operand_next x m none = operand_is x m ∙ ap (λ local. operand_by local (coded x) m) none

pub operand_local : (x : Expression) (r : ℕ) (m : Maker) → local_register x m ≡ Some r → operand (coded x) m ≡ record { value = r; after = pass_name m }
operand_local x r m is = operand_is x m ∙ ap (λ local. operand_by local (coded x) m) is

-- what is final behind an operand in the next register is so behind its value
pub operand_final : {j : ℕ} {z : Maker} (x : Expression) (m : Maker) → local_register x m ≡ None → Final j (operand (coded x) m).after z → Final j ((coded x).to_reg m.free m) z
operand_final {j} {z} x m none final = before_take 1 ((coded x).to_reg m.free m) (subst (λ (got : Got ℕ). Final j got.after z) (operand_next x m none) final)

-- what is a name is a local where the name that comes next is one
same_local : (x y : Expression) (m : Maker) → is_name x ≡ is_name y → local_register x m ≡ local_register y m
same_local x y m named = ap (λ named. cond named (register_of (next_name m)) None) named

-- what is no name is no local
pub no_local : {A : Type 0} (e : Expression) (r : ℕ) (m : Maker) → is_name e ≡ false → local_register (one_line_expression e) m ≡ Some r → A
no_local e r m other is = absurd (none-some r (sym (ap (λ named. cond named (register_of (next_name m)) None) (same_name e ∙ other)) ∙ is))

-- how what is no name and gives one value is made
pub made_plainly : {A : Type 0} {z : Maker} (e : Expression) (m : Maker) → is_name e ≡ false → is_multiple e ≡ false → ((r : ℕ) → Final (length m.labels) ((code e).to_reg r m) z → A) → IsMadeAs e m z → A
made_plainly e m plain single make (inl (r, final)) = make r final
made_plainly e m plain single make (inr (inl (r, local))) = no_local e r m plain local
made_plainly e m plain single make (inr (inr (several, op, want, final))) = absurd (true≢false (sym several ∙ single))

-- how a call is made, or `...`
pub made_called : {A : Type 0} {z : Maker} (e : Expression) (m : Maker) → is_name e ≡ false → ((r : ℕ) → Final (length m.labels) ((code e).to_reg r m) z → A) → ((op : Op) (want : Want) → Final (length m.labels) ((code e).multi op want m) z → A) → IsMadeAs e m z → A
made_called e m plain make several (inl (r, final)) = make r final
made_called e m plain make several (inr (inl (r, local))) = no_local e r m plain local
made_called e m plain make several (inr (inr (is, op, want, final))) = several op want final

-- ---- a literal as an operand

rk_by_alike : (k : Option Constant) (x y : Expression) (m : Maker) → operand (coded x) m ≡ operand (coded y) m → rk_by k (coded x) m ≡ rk_by k (coded y) m
rk_by_alike (Some k) x y m same = either (is_small k m)
  where
    either : (small : Bool) → cond small (small_constant k) (operand (coded x)) m ≡ cond small (small_constant k) (operand (coded y)) m
    either true = refl
    either false = same
rk_by_alike None x y m same = same

rk_is : (x : Expression) (m : Maker) → rk (coded x) m ≡ rk_by (literal x) (coded x) m
rk_is x m = ap (λ x'. rk_by (literal x') (coded x) m) (coded_is x)

-- two expressions with the same literal, or none, and the same operand
rk_alike : (x y : Expression) (m : Maker) → literal x ≡ literal y → operand (coded x) m ≡ operand (coded y) m → rk (coded x) m ≡ rk (coded y) m
rk_alike x y m literals operands = rk_is x m ∙ rk_by_alike (literal x) x y m operands ∙ ap (λ k. rk_by k (coded y) m) literals ∙ sym (rk_is y m)

-- what is no small constant is an operand
pub rk_large : (x : Expression) (k : Constant) (m : Maker) → literal x ≡ Some k → is_small k m ≡ false → rk (coded x) m ≡ operand (coded x) m
rk_large x k m is large = rk_is x m ∙ ap (λ k. rk_by k (coded x) m) is ∙ ap (λ small. cond small (small_constant k) (operand (coded x)) m) large

pub rk_small : (x : Expression) (k : Constant) (m : Maker) → literal x ≡ Some k → is_small k m ≡ true → rk (coded x) m ≡ small_constant k m
rk_small x k m is small = rk_is x m ∙ ap (λ k. rk_by k (coded x) m) is ∙ ap (λ small. cond small (small_constant k) (operand (coded x)) m) small

pub rk_plain : (x : Expression) (m : Maker) → literal x ≡ None → rk (coded x) m ≡ operand (coded x) m
rk_plain x m is = rk_is x m ∙ ap (λ k. rk_by k (coded x) m) is

-- ---- in parentheses

operand_by_parens : (local : Option ℕ) (x : Expression) (m : Maker) → operand_by local (coded (parenthesized 1 x)) m ≡ operand_by local (coded x) m
operand_by_parens (Some r) x m = refl
operand_by_parens None x m = refl

operand_in_parentheses : (x : Expression) (m : Maker) → operand (coded (parenthesized 1 x)) m ≡ operand (coded x) m
operand_in_parentheses x m = operand_by_parens (local_register x m) x m ∙ sym (operand_is x m)

literal_by : (folded : Option ℤ) (plain : Option Constant) → plain ≡ None → number_or folded None ≡ number_or folded plain
literal_by folded plain is = ap (number_or folded) (sym is)

rk_in_parentheses : (x : Expression) (m : Maker) → plain_literal x ≡ None → rk (coded (parenthesized 1 x)) m ≡ rk (coded x) m
rk_in_parentheses x m plain = rk_alike (parenthesized 1 x) x m (literal_by (fold x) (plain_literal x) plain) (operand_in_parentheses x m)

-- ---- in parentheses or not

pub to_reg_wrapped : (bare : Bool) (w : Wording) (r : ℕ) (m : Maker) → (coded (unless bare w).words).to_reg r m ≡ (coded w.words).to_reg r m
to_reg_wrapped true w r m = refl
to_reg_wrapped false w r m = refl

pub next_wrapped : (bare : Bool) (w : Wording) (m : Maker) → next_reg (coded (unless bare w).words) m ≡ next_reg (coded w.words) m
next_wrapped bare w m = ap (take_registers 1) (to_reg_wrapped bare w m.free m)

pub operand_wrapped : (bare : Bool) (w : Wording) (m : Maker) → operand (coded (unless bare w).words) m ≡ operand (coded w.words) m
operand_wrapped true w m = refl
operand_wrapped false w m = operand_in_parentheses w.words m

rk_wrapped : (bare : Bool) (w : Wording) (m : Maker) → (bare ≡ false → plain_literal w.words ≡ None) → rk (coded (unless bare w).words) m ≡ rk (coded w.words) m
rk_wrapped true w m plain = refl
rk_wrapped false w m plain = rk_in_parentheses w.words m (plain refl)

pub fold_wrapped : (bare : Bool) (w : Wording) → fold (unless bare w).words ≡ fold w.words
fold_wrapped true w = refl
fold_wrapped false w = refl

pub name_wrapped : (bare : Bool) (w : Wording) → is_name (unless bare w).words ≡ is_name w.words
name_wrapped true w = refl
name_wrapped false w = refl

pub levels_wrapped : (bare : Bool) (w : Wording) → (unless bare w).levels ≤ suc w.levels
levels_wrapped true w = omega arith
levels_wrapped false w = omega arith

-- ---- a literal binds as tightly as can be

low_level : (op : BinaryOp) → level_of_op op ≤ 8
low_level BinaryOp.Lt = omega arith
low_level op = omega arith

plain_or_tight : (x : Expression) → (plain_literal x ≡ None) ⊎ (level_of x ≡ 9)
plain_or_tight (binary_expression line op left right) = inl refl
plain_or_tight (and_expression line left right) = inl refl
plain_or_tight (or_expression line left right) = inl refl
plain_or_tight (unary_expression line op of) = inl refl
plain_or_tight x = inr refl

tight_binds : (op : BinaryOp) (even : Bool) (x : Expression) → level_of x ≡ 9 → binds (level_of_op op) even x ≡ true
tight_binds op true x tight = le-leb (level_of_op op) (level_of x) (omega (arith, low_level op, tight))
tight_binds op false x tight = le-leb (level_of_op op + 1) (level_of x) (omega (arith, low_level op, tight))

loose_is_plain : (op : BinaryOp) (even : Bool) (x : Expression) → binds (level_of_op op) even x ≡ false → plain_literal x ≡ None
loose_is_plain op even x loose = by (plain_or_tight x)
  where
    by : (plain_literal x ≡ None) ⊎ (level_of x ≡ 9) → plain_literal x ≡ None
    by (inl plain) = plain
    by (inr tight) = absurd (true≢false (sym (tight_binds op even x tight) ∙ loose))

second_fails : (a b : Bool) → (a || b) ≡ false → b ≡ false
second_fails true b fails = cc
second_fails false b fails = fails

pub rk_on_left : (op : BinaryOp) (w : Wording) (m : Maker) → rk (coded (on_left op w).words) m ≡ rk (coded w.words) m
rk_on_left op w m = rk_wrapped (left_binds (level_of_op op) (is_right_associative op) w.words) w m (λ loose. loose_is_plain op (not (is_right_associative op)) w.words loose)

pub rk_on_right : (op : BinaryOp) (w : Wording) (m : Maker) → rk (coded (on_right op w).words) m ≡ rk (coded w.words) m
rk_on_right op w m = rk_wrapped (right_binds (level_of_op op) (is_power op) w.words) w m (λ loose. loose_is_plain op (is_power op) w.words (second_fails (is_unary w.words) _ loose))

-- ---- what is written of a value

module _ {f : Function} {g : Fn} {active : List Active} {listed : List ℕ} {z : Maker} {lefts : ℕ → List (Option Inner)} {before behind : ℕ} {e : Expression} {v : Value} {Can : Type 0} (rewritten : RewrittenWith f g active listed z lefts before behind Can e v) where
  pub next_same : (m : Maker) → IsAhead g active before (mentions_in e) m → Final (length m.labels) (next_reg (code e) m) z → next_reg (coded (wording f listed z lefts before (length m.constants) v).words) m ≡ next_reg (code e) m
  next_same m ahead final = ap (take_registers 1) (rewritten.to_reg m.free m ahead (before_take 1 ((code e).to_reg m.free m) final))

  pub next_taken : (m : Maker) → IsAhead g active before (mentions_in e) m → Final (length m.labels) (next_reg (code e) m) z → length (next_reg (code e) m).constants ≡ taken_behind v (length m.constants)
  next_taken m ahead final = rewritten.taken m.free m ahead (before_take 1 ((code e).to_reg m.free m) final)

  abbrev one_line : Expression
  one_line = one_line_expression e

  abbrev written_at : Maker → Expression
  written_at m = (wording f listed z lefts before (length m.constants) v).words

  written_local : (m : Maker) → local_register (written_at m) m ≡ local_register one_line m
  written_local m = same_local (written_at m) one_line m (rewritten.named (length m.constants) ∙ sym (same_name e))

  pub operand_same : (m : Maker) → IsAhead g active before (mentions_in e) m → Final (length m.labels) (operand (code e) m).after z → operand (coded (wording f listed z lefts before (length m.constants) v).words) m ≡ operand (code e) m
  operand_same m ahead final = by (local_register one_line m) refl
    where
      by : (local : Option ℕ) → local_register one_line m ≡ local → operand (coded (written_at m)) m ≡ operand (code e) m
      by (Some r) is = operand_local (written_at m) r m (written_local m ∙ is) ∙ sym (operand_local one_line r m is)
      by None is =
          operand_next (written_at m) m (written_local m ∙ is)
          ∙ ap (λ (after : Maker). record { value = m.free; after = take_registers 1 after }) (rewritten.to_reg m.free m ahead (operand_final one_line m is final))
          ∙ sym (operand_next one_line m is)

  pub operand_taken : (m : Maker) → IsAhead g active before (mentions_in e) m → Final (length m.labels) (operand (code e) m).after z → length (operand (code e) m).after.constants ≡ taken_behind v (length m.constants)
  operand_taken m ahead final = by (local_register one_line m) refl
    where
      by : (local : Option ℕ) → local_register one_line m ≡ local → length (operand (code e) m).after.constants ≡ taken_behind v (length m.constants)
      by (Some r) is = ap (λ (got : Got ℕ). length got.after.constants) (operand_local one_line r m is) ∙ sym (rewritten.as_local (length m.constants) r m ahead is)
      by None is = ap (λ (got : Got ℕ). length got.after.constants) (operand_next one_line m is) ∙ rewritten.taken m.free m ahead (operand_final one_line m is final)

  -- ---- how many levels it needs

  pub next_low : f.short ≡ true → formed_expression e ≡ true → (m : Maker) → IsAhead g active before (mentions_in e) m → Final (length m.labels) (next_reg (code e) m) z → HasRoom f listed z lefts before (length m.constants) e v
  next_low short formed m ahead final = rewritten.low short formed m ahead (inl (m.free, before_take 1 ((code e).to_reg m.free m) final))

  pub operand_low : f.short ≡ true → formed_expression e ≡ true → (m : Maker) → IsAhead g active before (mentions_in e) m → Final (length m.labels) (operand (code e) m).after z → HasRoom f listed z lefts before (length m.constants) e v
  operand_low short formed m ahead final = by (local_register one_line m) refl
    where
      by : (local : Option ℕ) → local_register one_line m ≡ local → HasRoom f listed z lefts before (length m.constants) e v
      by (Some r) is = rewritten.low short formed m ahead (inr (inl (r, is)))
      by None is = rewritten.low short formed m ahead (inl (m.free, operand_final one_line m is final))
