-- A comparison whose second operand is written first mentions the same but for locals of the function, where one operand is such a local.
use Rattle.std.proofs.Common.{◌≡◌, ℕ, Bool, true, false, List, [], ◌∷◌, ◌++◌, refl, sym, ap, ap₂, ◌∙◌, subst, inl, inr}
use Rattle.std.specs.Prelude.{◌&&◌, ◌||◌, ◌⊎◌}
use Rattle.std.proofs.lemmas.Bool.{false≢true, and_parts, or_cases}
use Rattle.std.proofs.lemmas.List.{append-nil}
use Rattle.lua_num.specs.Bytes.{Text}
use Rattle.lua_tree.specs.Outline.{Mark, Scope, Place, mention, Part, both, mentions, expression_part}
use Rattle.lua_tree.specs.Scoping.{uses_among}
use Rattle.lua_tree.specs.Syntax.{Expression, nil_literal, name_expression, parenthesized}
use Rattle.lua_tree.specs.WellFormed.{formed_expression}
use Rattle.lua_tree.specs.declared.tree.BinaryOp.{BinaryOp}
use Rattle.scheme_order.specs.Own.{IsOwn, but_own}
use Rattle.scheme_order.specs.Permuted.{Uses, IsLocalUse, OwnUse, TurnedUse, ComparedUse, ExpressionUses}
use Rattle.scheme_order.specs.Turned.{is_among, is_own, turned_both, turned_expression}
use Rattle.scheme_order.proofs.OwnMarks.{own_append}
use Rattle.scheme_order.proofs.OwnNames.{own_gone, own_use}
use Rattle.scheme_order.proofs.KeptParts.{Kept, uses_append, ◌then◌}
use Rattle.scheme_order.proofs.SteadyParts.{Steady, steady}

-- ---- a local, and another operand

-- it is mentioned alike behind the other operand
mentioned_alike : (line : ℕ) (name : Text) (place other : Place) → other.scope ≡ place.scope → other.around ≡ place.around
    → (mentions line name other).marks ≡ (mentions line name place).marks
mentioned_alike line name place other e d = ap₂ (λ (scope : Scope) around. mention line name (scope name) around ∷ []) e d

-- what is mentioned at such a place means locals, where it is a local
abbrev LocalThere : (is_own : Bool) → (own : List Text) → Part → Type 0
LocalThere is_own own part = (place : Place) → IsOwn own place → (all : List Mark) → OwnUse is_own (uses_among all (part place).marks)

-- the first operand is a local
left_turned : {a b : Bool} {L R : Uses} {own : List Text} {part other : Part} (left_own right_own : Bool) (line : ℕ) (name : Text) → is_among name own ≡ true → Steady part
    → LocalThere left_own own (mentions line name) → LocalThere right_own own part
    → Kept a L own own (mentions line name) (mentions line name) → Kept b R own own part other
    → Kept (a && b) (TurnedUse left_own right_own L R) own own (both (mentions line name) part) (both other (mentions line name))
left_turned {a} {b} {part} {other} left_own right_own line name among still first second l r = record {
  at = λ place o.
      let one = r.at place o in
      let alone = (mentions line name place).marks in
      let marks = (part place).marks in
      let marks' = (other place).marks in
      let alike = mentioned_alike line name place (other place).next (ap (λ (end : Place). end.scope) one.next ∙ still.scope place)
      (ap (λ (end : Place). end.around) one.next ∙ still.around place) in
      let gone : but_own alone ≡ [] = own_gone line name (place.scope name) place.around (o name among) in
      record {
        marks = ap (λ more. but_own (marks' ++ more)) alike ∙ own_append marks' alone ∙ ap (λ more. but_own marks' ++ more) gone ∙ append-nil (but_own marks') ∙ one.marks
            ∙ sym (own_append alone marks ∙ ap (λ before. before ++ but_own marks) gone);
        next = one.next;
        own = one.own;
        meant = λ f all there s. (
          uses_among all alone,
          uses_among all marks,
          uses_among there alone,
          uses_among there marks',
          (l.at place o).meant (and_parts a b f).0 all there s,
          one.meant (and_parts a b f).1 all there s,
          first place o all,
          second place o all,
          uses_append all alone marks,
          ap (λ more. uses_among there (marks' ++ more)) alike ∙ uses_append there marks' alone,
        );
      };
}

-- the second is
right_turned : {a b : Bool} {L R : Uses} {own : List Text} {part other : Part} (left_own right_own : Bool) (line : ℕ) (name : Text) → is_among name own ≡ true → Steady part
    → LocalThere left_own own part → LocalThere right_own own (mentions line name)
    → Kept a L own own part other → Kept b R own own (mentions line name) (mentions line name)
    → Kept (a && b) (TurnedUse left_own right_own L R) own own (both part (mentions line name)) (both (mentions line name) other)
right_turned {a} {b} {part} {other} left_own right_own line name among still first second l r = record {
  at = λ place o.
      let one = l.at place o in
      let alone = (mentions line name place).marks in
      let marks = (part place).marks in
      let marks' = (other place).marks in
      let alike = mentioned_alike line name place (part place).next (still.scope place) (still.around place) in
      let gone : but_own alone ≡ [] = own_gone line name (place.scope name) place.around (o name among) in
      record {
        marks = own_append alone marks' ∙ ap₂ (λ before more. before ++ more) gone one.marks
            ∙ sym (ap (λ more. but_own (marks ++ more)) alike ∙ own_append marks alone ∙ ap (λ more. but_own marks ++ more) gone ∙ append-nil (but_own marks));
        next = one.next;
        own = one.own;
        meant = λ f all there s. (
          uses_among all marks,
          uses_among all alone,
          uses_among there marks',
          uses_among there alone,
          one.meant (and_parts a b f).0 all there s,
          (r.at place o).meant (and_parts a b f).1 all there s,
          first place o all,
          second place o all,
          ap (λ more. uses_among all (marks ++ more)) alike ∙ uses_append all marks alone,
          uses_append there alone marks',
        );
      };
}

-- ---- an operand that is a local

-- it is a name, in parentheses or not, and stays as it is
own_operand : (own : List Text) (e : Expression) → is_own own e ≡ true
    → (line : ℕ) × (name : Text) × (is_among name own ≡ true) × (expression_part e ≡ mentions line name) × (turned_expression false own e ≡ e)
own_operand own (name_expression line name) f = (line, name, f, refl, refl)
own_operand own (parenthesized line e) f =
    let of = own_operand own e f in
    (of.0, of.1, of.2, of.3, ap (parenthesized line) of.4)
own_operand own (nil_literal line) f = absurd (false≢true f)
own_operand own e f = absurd (false≢true f)

local_operand : (own : List Text) (e : Expression) → LocalThere (is_own own e) own (expression_part e)
local_operand own e place o all = by (is_own own e) refl
  where
    by : (own_e : Bool) → is_own own e ≡ own_e → OwnUse own_e (uses_among all (expression_part e place).marks)
    by true f =
        let (line, name, among, here, stays) = own_operand own e f in
        subst (λ (part : Part). IsLocalUse (uses_among all (part place).marks)) (sym here) (own_use all line name (place.scope name) place.around (o name among))
    by false f = tt

-- an operand
abbrev pub KeptValue : (own : List Text) → Expression → Type 0
KeptValue own e = Kept (formed_expression e) (ExpressionUses false own e) own own (expression_part e) (expression_part (turned_expression false own e))

-- of two parts that are the same third
to_third : (F : Part → Part → Type 0) {one other third : Part} → one ≡ third → other ≡ third → F one other → F third third
to_third F {one} {other} {third} e e' x = subst (λ part. F third part) e' (subst (λ part. F part other) e x)

from_third : (F : Part → Part → Type 0) {one other third : Part} → one ≡ third → other ≡ third → F third third → F one other
from_third F {one} {other} {third} e e' x = subst (λ part. F part other) (sym e) (subst (λ part. F third part) (sym e') x)

-- two operands, the second first
abbrev KeptTurned : (own : List Text) (left right : Expression) → (left_part left_part' right_part right_part' : Part) → Type 0
KeptTurned own left right l l' r r' =
    Kept (formed_expression left && formed_expression right) (TurnedUse (is_own own left) (is_own own right) (ExpressionUses false own left) (ExpressionUses false own right)) own own (both l r) (both r' l')

-- one of two operands is a local
both_kept : (own : List Text) (left right : Expression) → (is_own own left || is_own own right) ≡ true → KeptValue own left → KeptValue own right
    → KeptTurned own left right (expression_part left) (expression_part (turned_expression false own left)) (expression_part right) (expression_part (turned_expression false own right))
both_kept own left right f l r = by (or_cases (is_own own left) (is_own own right) f)
  where
    left_part : Part
    left_part = expression_part left

    left_part' : Part
    left_part' = expression_part (turned_expression false own left)

    right_part : Part
    right_part = expression_part right

    right_part' : Part
    right_part' = expression_part (turned_expression false own right)

    by : (is_own own left ≡ true) ⊎ (is_own own right ≡ true) → KeptTurned own left right left_part left_part' right_part right_part'
    by (inl f) =
        let (line, name, among, here, stays) = own_operand own left f in
        let there : left_part' ≡ mentions line name = ap expression_part stays ∙ here in
        let alone = to_third (λ p q. Kept (formed_expression left) (ExpressionUses false own left) own own p q) here there l in
        from_third (λ p q. KeptTurned own left right p q right_part right_part') here there (left_turned (is_own own left) (is_own own right) line name among (steady right) (subst (λ (part : Part). LocalThere (is_own own left) own part) here (local_operand own left)) (local_operand own right) alone r)
    by (inr f) =
        let (line, name, among, here, stays) = own_operand own right f in
        let there : right_part' ≡ mentions line name = ap expression_part stays ∙ here in
        let alone = to_third (λ p q. Kept (formed_expression right) (ExpressionUses false own right) own own p q) here there r in
        from_third (λ p q. KeptTurned own left right left_part left_part' p q) here there (right_turned (is_own own left) (is_own own right) line name among (steady left) (local_operand own left) (subst (λ (part : Part). LocalThere (is_own own right) own part) here (local_operand own right)) l alone)

-- an operation of two operands, turned or not
pub binary_kept : (turn : Bool) (own : List Text) (line : ℕ) (op : BinaryOp) (left right : Expression) → (turn ≡ true → (is_own own left || is_own own right) ≡ true)
    → KeptValue own left → KeptValue own right
    → Kept (formed_expression left && formed_expression right) (ComparedUse turn (is_own own left) (is_own own right) (ExpressionUses false own left) (ExpressionUses false own right)) own own
    (both (expression_part left) (expression_part right)) (expression_part (turned_both turn line op (turned_expression false own left) (turned_expression false own right)))
binary_kept true own line op left right f l r = both_kept own left right (f refl) l r
binary_kept false own line op left right f l r = l then r
