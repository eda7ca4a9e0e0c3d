-- Registers, slots and counts are small enough for the fields of a word.
use Rattle.std.proofs.Common.{◌≡◌, ◌≤◌, ◌<◌, inl, inr, ℕ, zero, suc, ◌+◌, Bool, true, false, cond, List, [], ◌∷◌, ◌++◌, length, drop, refl, sym, ap, ◌∙◌, arith, true≢false}
use Rattle.std.specs.Prelude.{Option, Some, None, ◌==◌, if◌then◌else◌}
use Rattle.std.proofs.lemmas.Bool.{eqb-false}
use Rattle.lua_num.specs.Bytes.{Text}
use Rattle.lua_tree.specs.Scoping.{Use, local_use, upvalue_use, global_use}
use Rattle.scheme.specs.Making.{Where, where_is, in_register, in_upvalue, in_globals, register_among, is_declaration, head_or, Ahead, any_captured}
use Rattle.proto.specs.declared.parts.Constant.{Constant}
use Rattle.scheme.specs.Expressions.{Want, count_field, register_of, Target, name_target, part_target}
use Rattle.scheme.specs.Lists.{pending_after}
use Rattle.scheme.specs.declared.making.Active.{Active}
use Rattle.scheme.specs.declared.making.Local.{Local}
use Rattle.scheme_stands.specs.Words.{Names, Fn, Spot, asking, meaning, onto, is_named, register_in, own_register, MeansBy}
use Rattle.scheme_stands.specs.Expressions.{Form, Rel, local_at, OperandBy, OperandAt, RkBy, RkAt, RkTextAt}
use Rattle.scheme_stands.specs.Lists.{ResultRoom}
use Rattle.scheme_stands.specs.Functions.{Limits, Activated, Declared}
use Rattle.scheme_stands.proofs.Environment.{onto_length}
use Rattle.scheme_stands.proofs.Growth.{length_end}
use Rattle.scheme_stands.proofs.Locals.{inside_of_list}

-- what is known of the function in which words stand: that no law is asked of it yet, and what its registers, constants, functions
-- and upvalues keep
pub record Setting (n : Names) (f : Fn) : Type 0 where
  pub lawless : f.law ≡ None
  pub limits : Limits f
  pub few : length n.upvalues ≤ 60

pub field_a : (n : Names) (f : Fn) (r : ℕ) → Setting n f → r ≤ f.size → r < 256
field_a n f r s h = let m = s.limits in let l = m.registers in omega (arith, l, h)

pub field_b : (n : Names) (f : Fn) (r : ℕ) → Setting n f → r ≤ f.size → r < 512
field_b n f r s h = let m = s.limits in let l = m.registers in omega (arith, l, h)

-- ---- what names mean

register_low : (d : ℕ) (active : List Active) → register_among d active ≤ length active
register_low d [] = omega arith
register_low d (x ∷ active) = by (is_declaration d x.local) (register_low d active)
  where
    by : (t : Bool) → register_among d active ≤ length active → cond t 0 (suc (register_among d active)) ≤ suc (length active)
    by true h = omega arith
    by false h = omega (arith, h)

pub where_low : (one : Use) (active : List Active) (r : ℕ) → where_is one active ≡ in_register r → r ≤ length active
where_low (local_use d) active r e = let same : register_among d active ≡ r = cc in let l = register_low d active in omega (arith, l, same)
where_low (upvalue_use slot) active r e = cc
where_low global_use active r e = cc

own_by : (text : Text) (xs : List Active) (r : ℕ) → register_in text xs ≡ Some r → r < length xs
own_by text [] r e = cc
own_by text (x ∷ xs) r e = by (is_named text x) (own_by text xs r) e
  where
    by : (t : Bool) → (register_in text xs ≡ Some r → r < length xs) → (if t then Some (length xs) else register_in text xs) ≡ Some r → r < suc (length xs)
    by true later e = let same : length xs ≡ r = cc in omega (arith, same)
    by false later e = let l = later e in omega (arith, l)

own_low : (text : Text) (active : List Active) (r : ℕ) → own_register text active ≡ Some r → r < length active
own_low text active r e = let l = own_by text (onto active []) r e in let k = onto_length active [] in omega (arith, l, k)

-- a local's register is one of the function's, and an upvalue's slot fits its field
abbrev pub WhereFits : Fn → Where → Type 0
WhereFits f (in_register r) = r < f.size
WhereFits f (in_upvalue slot) = slot < 60
WhereFits f in_globals = Unit {0}

pub where_fits : (n : Names) (f : Fn) (active : List Active) (text : Text) (w : Where) → Setting n f → length active ≤ f.size → MeansBy n active text w → WhereFits f w
where_fits n f active text (in_register r) s room m = let l = own_low text active r m in omega (arith, l, room)
where_fits n f active text (in_upvalue slot) s room m = let l = inside_of_list n.upvalues slot text m.1 in let k = s.few in omega (arith, l, k)
where_fits n f active text in_globals s room m = tt

-- a target's registers and slot fit their fields
abbrev pub TargetFits : Fn → Target → Type 0
TargetFits f (name_target text w) = WhereFits f w
TargetFits f (part_target on key on_local key_local) = (on < 256) × (key < 512)

-- ---- operands

named_low : (w : Where) (use_of : Use) (active : List Active) (r : ℕ) → w ≡ where_is use_of active → register_of w ≡ Some r → r ≤ length active
named_low (in_register x) use_of active r e h = let same : x ≡ r = cc in where_low use_of active r (sym e ∙ ap in_register same)
named_low (in_upvalue slot) use_of active r e h = cc
named_low in_globals use_of active r e h = cc

pub local_low : (form : Form) (active : List Active) (p : Spot) (r : ℕ) → local_at form active p ≡ Some r → r ≤ length active
local_low form active p r e = by form.name e
  where
    by : (t : Bool) → cond t (register_of (meaning active p)) None ≡ Some r → r ≤ length active
    by true h = named_low (meaning active p) (head_or global_use p.ahead.names) active r refl h
    by false h = cc

operand_by : (o : Option ℕ) (f : Fn) (c : Rel) (active : List Active) (free x free1 : ℕ) (p q : Spot) → ((r : ℕ) → o ≡ Some r → r ≤ f.size) → OperandBy o f active c free x free1 p q → x ≤ f.size
operand_by (Some r) f c active free x free1 p q low t = let l = low r refl in let e = t.at_x in omega (arith, l, e)
operand_by None f c active free x free1 p q low t = let l = t.room in let e = t.at_x in omega (arith, l, e)

pub operand_low : (f : Fn) (c : Rel) (active : List Active) (free x free1 : ℕ) (p q : Spot) → length active ≤ f.size → OperandAt f active c free x free1 p q → x ≤ f.size
operand_low f c active free x free1 p q room t = operand_by (local_at c.form active p) f c active free x free1 p q (λ r e. let l = local_low c.form active p r e in omega (arith, l, room)) t

module _ (n : Names) (f : Fn) (s : Setting n f) where
  rk_by : (o : Option Constant) (c : Rel) (active : List Active) (free x free1 : ℕ) (p q : Spot) → length active ≤ f.size → RkBy o f active c free x free1 p q → x < 512
  rk_by (Some k) c active free x free1 p q room (inl t) = let l = t.small in let e = t.at_x in omega (arith, l, e)
  rk_by (Some k) c active free x free1 p q room (inr (large, t)) = field_b n f x s (operand_low f c active free x free1 p q room t)
  rk_by None c active free x free1 p q room t = field_b n f x s (operand_low f c active free x free1 p q room t)

  pub rk_low : (c : Rel) (active : List Active) (free x free1 : ℕ) (p q : Spot) → length active ≤ f.size → RkAt f active c free x free1 p q → x < 512
  rk_low c active free x free1 p q room t = rk_by c.form.literal c active free x free1 p q room t

  pub text_low : (text : Text) (free x free1 : ℕ) (p q : Spot) → RkTextAt f text free x free1 p q → x < 512
  text_low text free x free1 p q (inl t) = let l = t.small in let e = t.at_x in omega (arith, l, e)
  text_low text free x free1 p q (inr (large, t)) = let l = t.room in let e = t.at_x in field_b n f x s (omega (arith, l, e))

-- ---- counts

-- there are registers for so many values, where that is known
abbrev pub CountRoom : Fn → (base : ℕ) → Want → Type 0
CountRoom f base None = Unit {0}
CountRoom f base (Some k) = base + k ≤ f.size

pub count_small : (n : Names) (f : Fn) (base more : ℕ) (want : Want) → Setting n f → more ≤ 2 → CountRoom f base want → count_field more want < 512
count_small n f base more None s h r = omega arith
count_small n f base more (Some k) s h r = let m = s.limits in let l = m.registers in omega (arith, l, h, r)

pub want_room : (f : Fn) (base : ℕ) (want : Want) → ResultRoom f base want → CountRoom f base want
want_room f base None r = tt
want_room f base (Some k) r = r

pub base_room : (f : Fn) (base : ℕ) (want : Want) → ResultRoom f base want → base ≤ f.size
base_room f base None r = omega (arith, r)
base_room f base (Some k) r = omega (arith, r)

pub results_asking : (n : Names) (f : Fn) (base : ℕ) (want : Want) → ResultRoom f base want → ResultRoom (asking n f) base want
results_asking n f base None r = r
results_asking n f base (Some k) r = r

-- pending items are fewer than 50
pub pending_low : (pending : ℕ) → pending < 50 → pending_after (suc pending) < 50
pending_low pending h = by (suc pending == 50) refl
  where
    by : (t : Bool) → (suc pending == 50) ≡ t → cond t 0 (suc pending) < 50
    by true e = omega arith
    by false e = let no = eqb-false (suc pending) 50 e in omega (arith, h, no)

-- as many more are active as became so
pub activated_length : (locals : List Local) (active after : List Active) → Activated locals active after → length after ≡ length active + length locals
activated_length [] active after t = ap length t ∙ (let e : length active ≡ length active + 0 = omega arith in e)
activated_length (one ∷ locals) active after t =
    let h = activated_length locals (active ++ t.0 ∷ []) after t.2 in
    let e = length_end active t.0 in
    omega (arith, h, e)

-- as many locals as names that are declared
pub declared_length : (texts : List Text) (before : Ahead) (locals : List Local) (behind : Ahead) → Declared texts before locals behind → length locals ≡ length texts
declared_length [] before locals behind t = ap length t.0
declared_length (text ∷ texts) before locals behind t = ap length t.1 ∙ ap suc (declared_length texts (record before { captures = drop 1 before.captures; declarations = suc before.declarations }) t.0 behind t.2)

-- where one from the k-th on is captured, there are more than k
pub captured_inside : (k : ℕ) (active : List Active) → any_captured (drop k active) ≡ true → k < length active
captured_inside zero [] h = absurd (true≢false (sym h))
captured_inside zero (x ∷ active) h = omega arith
captured_inside (suc k) [] h = absurd (true≢false (sym h))
captured_inside (suc k) (x ∷ active) h = let l = captured_inside k active h in omega (arith, l)
