-- Operands, by what is known of the expression.
use Rattle.std.proofs.Common.{◌≡◌, ℕ, Bool, false, sym, ap, ◌∙◌}
use Rattle.std.specs.Prelude.{Option, Some, None}
use Rattle.lua_num.specs.Bytes.{Text}
use Rattle.lua_tree.specs.Syntax.{Expression, index_expression, field_expression}
use Rattle.scheme.specs.Making.{Maker, pass_name}
use Rattle.scheme.specs.Expressions as parts
use Rattle.scheme.specs.Scheme.{coded}
use Rattle.codegen.proofs.Parts.{coded_e}

operand_is : (e : Expression) (m : Maker) (o : Option ℕ) → o ≡ parts.local_register e m → parts.operand (coded e) m ≡ parts.operand_by o (coded e) m
operand_is e m o p = ap (λ x. parts.operand_by (parts.local_register x m) (coded e) m) (coded_e e) ∙ ap (λ q. parts.operand_by q (coded e) m) (sym p)

-- a local is its register
pub here_value : (e : Expression) (m : Maker) (o : Option ℕ) (x y : ℕ) → o ≡ parts.local_register e m → o ≡ Some x → y ≡ x → y ≡ (parts.operand (coded e) m).value
here_value e m o x y p q r = r ∙ ap (λ o. (parts.operand_by o (coded e) m).value) (sym q) ∙ sym (ap (λ g. g.value) (operand_is e m o p))

pub here_after : (e : Expression) (m n : Maker) (o : Option ℕ) (x : ℕ) → o ≡ parts.local_register e m → o ≡ Some x → n ≡ pass_name m → n ≡ (parts.operand (coded e) m).after
here_after e m n o x p q r = r ∙ ap (λ o. (parts.operand_by o (coded e) m).after) (sym q) ∙ sym (ap (λ g. g.after) (operand_is e m o p))

-- any other expression goes to the next register
pub next_value : (e : Expression) (m : Maker) (o : Option ℕ) (x : ℕ) → o ≡ parts.local_register e m → o ≡ None → x ≡ m.free → x ≡ (parts.operand (coded e) m).value
next_value e m o x p q r = r ∙ ap (λ o. (parts.operand_by o (coded e) m).value) (sym q) ∙ sym (ap (λ g. g.value) (operand_is e m o p))

pub next_after : (e : Expression) (m n : Maker) (o : Option ℕ) → o ≡ parts.local_register e m → o ≡ None → n ≡ parts.next_reg (coded e) m → n ≡ (parts.operand (coded e) m).after
next_after e m n o p q r = r ∙ ap (λ o. (parts.operand_by o (coded e) m).after) (sym q) ∙ sym (ap (λ g. g.after) (operand_is e m o p))

-- whether it is a local
pub local_coded : (e : Expression) (m : Maker) → parts.is_local e m ≡ parts.is_local (coded e).e m
local_coded e m = ap (λ x. parts.is_local x m) (sym (coded_e e))

-- a table and a key as a target
pub index_target : (line : ℕ) (on key : Expression) (m m1 : Maker) (t k : ℕ) (on_local key_local : Bool) →
    on_local ≡ parts.is_local on m → t ≡ (parts.operand (coded on) m).value → m1 ≡ (parts.operand (coded on) m).after →
    key_local ≡ parts.is_local key m1 → k ≡ (parts.rk (coded key) m1).value →
    parts.part_target t k on_local key_local ≡ ((coded (index_expression line on key)).target m).value
index_target line on key m m1 t k on_local key_local onE tE m1E keyE kE =
    ap (λ b. parts.part_target t k b key_local) (onE ∙ local_coded on m)
    ∙ ap (λ x. parts.part_target x k (parts.is_local (coded on).e m) key_local) tE
    ∙ ap (λ b. parts.part_target (parts.operand (coded on) m).value k (parts.is_local (coded on).e m) b) (keyE ∙ local_coded key m1 ∙ ap (parts.is_local (coded key).e) m1E)
    ∙ ap (λ x. parts.part_target (parts.operand (coded on) m).value x (parts.is_local (coded on).e m) (parts.is_local (coded key).e (parts.operand (coded on) m).after)) (kE ∙ ap (λ n. (parts.rk (coded key) n).value) m1E)

pub field_target : (line : ℕ) (on : Expression) (text : Text) (m m1 : Maker) (t k : ℕ) (on_local : Bool) →
    on_local ≡ parts.is_local on m → t ≡ (parts.operand (coded on) m).value → m1 ≡ (parts.operand (coded on) m).after → k ≡ (parts.rk_text line text m1).value →
    parts.part_target t k on_local false ≡ ((coded (field_expression line on text)).target m).value
field_target line on text m m1 t k on_local onE tE m1E kE =
    ap (λ b. parts.part_target t k b false) (onE ∙ local_coded on m)
    ∙ ap (λ x. parts.part_target x k (parts.is_local (coded on).e m) false) tE
    ∙ ap (λ x. parts.part_target (parts.operand (coded on) m).value x (parts.is_local (coded on).e m) false) (kE ∙ ap (λ n. (parts.rk_text line text n).value) m1E)
