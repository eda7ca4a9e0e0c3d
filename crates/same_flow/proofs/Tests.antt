-- What the steps of a condition say is what stands in it: its literals say nothing, and `~=` says what `==` says.
use Rattle.std.proofs.Common.{◌≡◌, ◌≤◌, ℕ, Bool, true, false, inl, inr, List, ◌++◌, Some, None, refl, sym, ap, ◌∙◌, subst, arith}
use Rattle.std.specs.Prelude.{Option, ℤ, not, if◌then◌else◌}
use Rattle.std.specs.Bool.{beq}
use Rattle.std.proofs.lemmas.Option.{none-some}
use Rattle.lua_num.specs.declared.arith.ArithOp.{ArithOp}
use Rattle.lua_tree.specs.Syntax.{Expression, nil_literal, true_literal, false_literal, number_literal, text_literal, and_expression, or_expression, binary_expression, unary_expression, parenthesized}
use Rattle.lua_tree.specs.Outline.{Place, Walk, nothing, expression_part}
use Rattle.lua_tree.specs.declared.tree.BinaryOp.{BinaryOp}
use Rattle.lua_tree.specs.declared.tree.UnaryOp.{UnaryOp}
use Rattle.proto.specs.declared.parts.Constant.{Constant}
use Rattle.recover_expr.specs.Drafts.{condition_part}
use Rattle.recover_expr.specs.Placing.{Steps}
use Rattle.recover_expr.specs.declared.steps.StepKind.{StepKind}
use Rattle.scheme.specs.Expressions.{arith_op, fold_binary, fold_unary, fold, plain_literal, number_or, literal, is_true_constant}
use Rattle.scheme.specs.declared.making.Active.{Active}
use Rattle.same_flow.specs.Laid.{IsNegated, IsSaid, LiteralLaid, AloneLaid, LeafLaid, TestLaid}
use Rattle.same_flow.proofs.Walks.{Entry, state_of}
use Rattle.same_flow.proofs.Steady.{calm}
use Rattle.same_flow.proofs.Kept.{Live, Kept, kept_both, Quiet, quiet_nowhere, jumps, steps_calm}

-- ---- literals

record Silent (e : Expression) : Type 0 where
  silent : (place : Place) → expression_part e place ≡ nothing place

folded_unary : (op : UnaryOp) (o : Option ℤ) (n : ℤ) → fold_unary op o ≡ Some n → (a : ℤ) × (o ≡ Some a)
folded_unary op (Some a) n h = (a, refl)
folded_unary UnaryOp.Neg None n h = absurd (none-some n h)
folded_unary UnaryOp.Not None n h = absurd (none-some n h)
folded_unary UnaryOp.Len None n h = absurd (none-some n h)

folded_binary : (op : Option ArithOp) (o p : Option ℤ) (n : ℤ) → fold_binary op o p ≡ Some n → (a : ℤ) × (b : ℤ) × (o ≡ Some a) × (p ≡ Some b)
folded_binary (Some op) (Some a) (Some b) n h = (a, b, refl, refl)
folded_binary op o p n h = absurd (none-some n h)

silent_number : (e : Expression) (n : ℤ) → fold e ≡ Some n → Silent e
silent_number (number_literal line z) n h = record { silent = λ place. refl }
silent_number (parenthesized line e) n h = record { silent = (silent_number e n h).silent }
silent_number (unary_expression line op e) n h =
    let part = folded_unary op (fold e) n h in
    record { silent = (silent_number e part.0 part.1).silent }
silent_number (binary_expression line op left right) n h =
    let parts = folded_binary (arith_op op) (fold left) (fold right) n h in
    record {
      silent = λ place.
          ap (λ (walk : Walk). record { marks = walk.marks ++ (expression_part right walk.next).marks; next = (expression_part right walk.next).next }) ((silent_number left parts.0 parts.2).silent place)
          ∙ (silent_number right parts.1 parts.3).silent place;
    }
silent_number e n h = absurd (none-some n h)

silent_plain : (e : Expression) (k : Constant) → plain_literal e ≡ Some k → Silent e
silent_plain (nil_literal line) k h = record { silent = λ place. refl }
silent_plain (true_literal line) k h = record { silent = λ place. refl }
silent_plain (false_literal line) k h = record { silent = λ place. refl }
silent_plain (text_literal line text) k h = record { silent = λ place. refl }
silent_plain e k h = absurd (none-some k h)

silent_literal : (e : Expression) (k : Constant) → literal e ≡ Some k → Silent e
silent_literal e k h = by (fold e) refl h
  where
    by : (o : Option ℤ) → fold e ≡ o → number_or o (plain_literal e) ≡ Some k → Silent e
    by (Some n) is h = silent_number e n is
    by None is h = silent_plain e k h

-- ---- conditions

same_negated : (tested e : Expression) → IsNegated tested e → (place : Place) → expression_part tested place ≡ expression_part e place
same_negated (binary_expression line BinaryOp.Eq left right) e h place = ap (λ (other : Expression). expression_part other place) (sym h.1)
same_negated tested e h place = absurd h

same_said : (e : Expression) (sense : Bool) (tested : Expression) (when : Bool) → IsSaid e sense tested when → (place : Place) → expression_part tested place ≡ expression_part e place
same_said e sense tested when (inl h) place = ap (λ (other : Expression). expression_part other place) h.0
same_said e sense tested when (inr h) place = same_negated tested e h.0 place

leaf_kept : (code : Steps) (active : List Active) (e : Expression) (sense : Bool) (target from to ends : ℕ) → LeafLaid code active e sense target from to → to ≤ ends →
    (place : Place) (before : List Entry) → Live ends before → Kept code from to before place (expression_part e place)
leaf_kept code active e sense target from to ends h le place before live =
    subst (λ (walk : Walk). Kept code from to before place walk) (same_said e sense h.2 h.0 h.4 place)
    (steps_calm from to ends (StepKind.Test h.0 target h.1) (condition_part h.2) (λ state. refl) (calm h.2) h.3 h.5 le place before live)

literal_quiet : (code : Steps) (active : List Active) (jump : Bool) (target from to : ℕ) → LiteralLaid code active jump target from to → Quiet code from to
literal_quiet code active true target from to h = jumps target to h.1 h.0
literal_quiet code active false target from to h = quiet_nowhere code from to h

alone_kept : (code : Steps) (active : List Active) (o : Option Constant) (e : Expression) → literal e ≡ o → (sense : Bool) (target from to ends : ℕ) → AloneLaid code active o e sense target from to → to ≤ ends →
    (place : Place) (before : List Entry) → Live ends before → Kept code from to before place (expression_part e place)
alone_kept code active None e is sense target from to ends h le place before live = leaf_kept code active e sense target from to ends h le place before live
alone_kept code active (Some k) e is sense target from to ends h le place before live =
    subst (λ (walk : Walk). Kept code from to before place walk) (sym ((silent_literal e k is).silent place))
    (record { goes = (literal_quiet code active (beq sense (is_true_constant k)) target from to h.1).goes (state_of place before); stays = refl })

pub test_kept : (e : Expression) (code : Steps) (active : List Active) (sense : Bool) (target from to ends : ℕ) → TestLaid code active e sense target from to → to ≤ ends →
    (place : Place) (before : List Entry) → Live ends before → Kept code from to before place (expression_part e place)
test_kept (and_expression line left right) code active sense target from to ends h le place before live =
    kept_both (expression_part left) (expression_part right)
    (test_kept left code active false (if sense then to else target) from h.0 ends h.3 (let l = h.2 in omega (arith, l, le)) place before live)
    (test_kept right code active sense target h.0 to ends h.4 le (expression_part left place).next before live)
test_kept (or_expression line left right) code active sense target from to ends h le place before live =
    kept_both (expression_part left) (expression_part right)
    (test_kept left code active true (if sense then target else to) from h.0 ends h.3 (let l = h.2 in omega (arith, l, le)) place before live)
    (test_kept right code active sense target h.0 to ends h.4 le (expression_part left place).next before live)
test_kept (unary_expression line UnaryOp.Not e) code active sense target from to ends h le place before live =
    let k = test_kept e code active (not sense) target from to ends h le place before live in
    record { goes = k.goes; stays = k.stays }
test_kept (parenthesized line e) code active sense target from to ends h le place before live =
    let k = test_kept e code active sense target from to ends h le place before live in
    record { goes = k.goes; stays = k.stays }
test_kept e code active sense target from to ends h le place before live = alone_kept code active (literal e) e refl sense target from to ends h le place before live
