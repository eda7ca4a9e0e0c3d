-- Paths of function statements, field by field.
use Rattle.std.proofs.Common.{◌≡◌, ◌≢◌, ℕ, suc, ◌+◌, ◌-◌, ◌≤◌, ◌<◌, false, List, [], ◌∷◌, ◌++◌, length, take, drop, get_or, refl, sym, ap, ◌∙◌, arith}
use Rattle.std.proofs.lemmas.List.{take_more, length-take}
use Rattle.lua_num.specs.Bytes.{Text}
use Rattle.lua_tree.specs.Syntax.{field_expression}
use Rattle.opcode.specs.declared.op.Op.{Op}
use Rattle.scheme.specs.declared.making.Piece.{Piece}
use Rattle.scheme.specs.Making.{Maker, put, free_from, take_registers}
use Rattle.scheme.specs.Expressions.{Coded, operand, is_local, rk_text, coded_name, coded_field}
use Rattle.scheme.specs.Statements.{path_from, with_fields}
use Rattle.codegen.specs.Targets.{first_text, path_field}
use Rattle.codegen.proofs.Endings.{split_last}

abbrev pub field_of : (line : ℕ) → Coded → Text → Coded
field_of line on text = coded_field line (field_expression line on.e text) on text

with_fields-last : (line : ℕ) (on : Coded) (texts : List Text) (text : Text) → with_fields line on (texts ++ text ∷ []) ≡ field_of line (with_fields line on texts) text
with_fields-last line on [] text = refl
with_fields-last line on (one ∷ texts) text = with_fields-last line (field_of line on one) texts text

pub path_from-fields : (line : ℕ) (path : List Text) → path_from line path ≡ with_fields line (coded_name line (first_text path)) (drop 1 path)
path_from-fields line [] = refl
path_from-fields line (text ∷ texts) = refl

-- one more of the fields
pub with_fields-next : (line : ℕ) (on : Coded) (i : ℕ) (texts : List Text) (text d : Text) → i < length texts → text ≡ get_or texts i d →
    with_fields line on (take (i + 1) texts) ≡ field_of line (with_fields line on (take i texts)) text
with_fields-next line on i texts text d h same =
    ap (with_fields line on) (take_more texts i d h ∙ ap (λ t. take i texts ++ t ∷ []) (sym same)) ∙ with_fields-last line on (take i texts) text

-- a field as an operand, by what it stands on
abbrev pub after_field : (line base t k : ℕ) → Maker → Maker
after_field line base t k m = take_registers 1 (free_from base (put line (Piece.Abc Op.GetTable base t k) m))

pub operand-field : (line : ℕ) (on : Coded) (text : Text) (m mb m1 : Maker) (t k : ℕ) →
    t ≡ (operand on m).value → mb ≡ (operand on m).after → k ≡ (rk_text line text mb).value → m1 ≡ (rk_text line text mb).after →
    after_field line m.free t k m1 ≡ (operand (field_of line on text) m).after
operand-field line on text m mb m1 t k ts mbs ks m1s =
    ap (λ t. after_field line m.free t k m1) ts
    ∙ ap (λ k. after_field line m.free (operand on m).value k m1) (ks ∙ ap (λ n. (rk_text line text n).value) mbs)
    ∙ ap (λ n. after_field line m.free (operand on m).value (rk_text line text (operand on m).after).value n) (m1s ∙ ap (λ n. (rk_text line text n).after) mbs)

pub operand-field_value : (line : ℕ) (on : Coded) (text : Text) (m : Maker) → m.free ≡ (operand (field_of line on text) m).value
operand-field_value line on text m = refl

pub is_local-field : (line : ℕ) (on : Coded) (text : Text) (m : Maker) → false ≡ is_local (field_of line on text).e m
is_local-field line on text m = refl

-- a path of more than a name is a field of its front
pub path_from-last : (line : ℕ) (path : List Text) (last d : Text) → 2 ≤ length path → last ≡ get_or path (length path - 1) d →
    path_from line path ≡ path_field line (take (length path - 1) path) last
path_from-last line [] last d h same = absurd (omega (arith, h))
path_from-last line (first ∷ []) last d h same = absurd (omega (arith, h))
path_from-last line (first ∷ second ∷ path) last d h same =
    sym (ap (path_from line) (ap (λ x. take (length (first ∷ second ∷ path) - 1) (first ∷ second ∷ path) ++ x ∷ []) same ∙ split_last (first ∷ second ∷ path) d (omega (arith, h))))
    ∙ go (take (length (first ∷ second ∷ path) - 1) (first ∷ second ∷ path)) front
  where
    front : take (length (first ∷ second ∷ path) - 1) (first ∷ second ∷ path) ≡ first ∷ take (length path) (second ∷ path)
    front = let e : length (first ∷ second ∷ path) - 1 ≡ suc (length path) = omega arith in ap (λ n. take n (first ∷ second ∷ path)) e

    go : (xs : List Text) → xs ≡ first ∷ take (length path) (second ∷ path) → path_from line (xs ++ last ∷ []) ≡ path_field line xs last
    go [] e = absurd (cc)
    go (x ∷ xs) e = with_fields-last line (coded_name line x) xs last

pub two_of_front : (path : List Text) → 1 ≤ length path → length (take (length path - 1) path) ≢ 0 → 2 ≤ length path
two_of_front path h more = omega (arith, length-take (length path - 1) path, h, more)
