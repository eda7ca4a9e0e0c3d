-- Values of expressions, as operands and in the next register: they add the uses of their mentions.
use Rattle.std.proofs.Common.{◌≡◌, ◌≤◌, ℕ, zero, suc, ◌+◌, Bool, true, false, cond, List, [], ◌∷◌, ◌++◌, length, refl, sym, ap, ◌∙◌, subst, arith, drop}
use Rattle.std.specs.Prelude.{Option, Some, None, nat_lt, ◌&&◌, slice_get, ℤ}
use Rattle.std.specs.Str.{bytes_eq}
use Rattle.std.specs.Bool.{beq}
use Rattle.lua_num.specs.Bytes.{Text}
use Rattle.lua_tree.specs.Scoping.{Use, local_use, upvalue_use, global_use}
use Rattle.lua_tree.specs.Syntax.{Expression}
use Rattle.opcode.specs.declared.op.Op.{Op}
use Rattle.opcode.specs.Word.{truth_field}
use Rattle.proto.specs.Chunk.{functions_of}
use Rattle.proto.specs.Constants.{constant_number}
use Rattle.proto.specs.declared.parts.Constant.{Constant}
use Rattle.scheme.specs.Making.{Maker, Part, head_or, where_is, register_among, is_declaration, constant, pass_name, put, when, jump_to}
use Rattle.scheme.specs.Expressions.{Coded, Want, next_reg, operand, operand_by, local_register, register_of, is_multiple, is_name as is_bare_name, literal, plain_literal, number_or, fold, is_small, small_constant, rk, rk_by, rk_text, next_text, load, is_true_constant, test, test_by}
use Rattle.scheme.specs.declared.making.Piece.{Piece}
use Rattle.scheme.specs.declared.making.Item.{Item}
use Rattle.scheme.specs.declared.making.Active.{Active}
use Rattle.scheme_stands.proofs.Growth.{calm, Grown, constant_stands}
use Rattle.scheme_stands.proofs.Parts.{Grows, grows_rk}
use Rattle.source_globals.specs.Named.{Role, gets_it, is_role}
use Rattle.source_globals.proofs.Owed.{Mention, is_global}
use Rattle.source_globals.proofs.Tally.{End, Last, Fine, Told, FineBy, back, untake, still, both, on_abc, on_jump, on_load, no_mention, pass_told}

-- ---- registers of locals

cond_low : (b : Bool) (n k : ℕ) → n ≤ k → cond b 0 (suc n) ≤ suc k
cond_low true n k l = omega arith
cond_low false n k l = omega (arith, l)

pub among_low : (declaration : ℕ) (active : List Active) → register_among declaration active ≤ length active
among_low declaration [] = omega arith
among_low declaration (one ∷ others) = cond_low (is_declaration declaration one.local) _ _ (among_low declaration others)

register_low : (means : Use) (active : List Active) (r : ℕ) → register_of (where_is means active) ≡ Some r → (r ≤ length active) × (is_global means ≡ false)
register_low (local_use declaration) active r e =
    let same : register_among declaration active ≡ r = cc in
    let l = among_low declaration active in
    (omega (arith, same, l), refl)
register_low (upvalue_use slot) active r e = cc
register_low global_use active r e = cc

local_by : (b : Bool) (means : Use) (active : List Active) (r : ℕ) → cond b (register_of (where_is means active)) None ≡ Some r → (r ≤ length active) × (is_global means ≡ false)
local_by true means active r e = register_low means active r e
local_by false means active r e = cc

-- a local's register, and that its name means no global
pub local_low : (e : Expression) (m : Maker) (r : ℕ) → local_register e m ≡ Some r → (r ≤ length m.active) × (is_global (head_or global_use m.ahead.names) ≡ false)
local_low e m r h = local_by (is_bare_name e) (head_or global_use m.ahead.names) m.active r h

-- ---- what is said of expressions

-- an expression by its value: it adds the uses of these mentions
pub record Value (z : End) (ms : List Mention) (c : Coded) : Type 0 where
  pub to_grows : (r : ℕ) (m : Maker) → Grown calm m (c.to_reg r m)
  pub to_free : (r : ℕ) (m : Maker) → (c.to_reg r m).free ≡ m.free
  pub to_reg : (r : ℕ) → r ≤ 250 → (m : Maker) → Last z (c.to_reg r m) → Fine z m → Told z ms m (c.to_reg r m)
  pub bare : (r : ℕ) (m : Maker) → local_register c.e m ≡ Some r → Fine z m → Told z ms m (pass_name m)
  pub silent : (k : Constant) → literal c.e ≡ Some k → ms ≡ []

-- and in every use that is made of it
pub record Speaks (z : End) (ms : List Mention) (c : Coded) : Type 0 where
  pub grows : Grows calm c
  pub value : Value z ms c
  pub jump_if : (truth : Bool) (label : ℕ) (m : Maker) → Last z (c.jump_if truth label m) → Fine z m → Told z ms m (c.jump_if truth label m)
  pub spine : (m : Maker) → Last z (c.spine m) → Fine z m → Told z ms m (c.spine m)
  pub multi : is_multiple c.e ≡ true → (want : Want) (m : Maker) → Last z (c.multi Op.Call want m) → Fine z m → Told z ms m (c.multi Op.Call want m)
  pub multi_low : is_multiple c.e ≡ true → (n : ℕ) (m : Maker) → Last z (c.multi Op.Call (Some n) m) → m.free + n ≤ 250
  pub tail : is_multiple c.e ≡ true → (want : Want) (m : Maker) → Last z (c.multi Op.TailCall want m) → Fine z m → Told z ms m (c.multi Op.TailCall want m)

module _ (z : End) where
  pub next_low : {ms : List Mention} (c : Coded) → Value z ms c → (m : Maker) → Last z (next_reg c m) → suc m.free ≤ 250
  next_low c v m l = let free = v.to_free m.free m in let low = l.low in omega (arith, free, low)

  pub next_told : {ms : List Mention} (c : Coded) → Value z ms c → (m : Maker) → Last z (next_reg c m) → Fine z m → Told z ms m (next_reg c m)
  next_told c v m l f =
      let low = next_low c v m l in
      v.to_reg m.free (omega (arith, low)) m (untake z (c.to_reg m.free m) _ l) f

  operand_by_told : {ms : List Mention} (c : Coded) → Value z ms c → (m : Maker) (o : Option ℕ) → local_register c.e m ≡ o → Last z (operand_by o c m).after → Fine z m → Told z ms m (operand_by o c m).after
  operand_by_told c v m (Some r) e l f = v.bare r m e f
  operand_by_told c v m None e l f = next_told c v m l f

  pub operand_told : {ms : List Mention} (c : Coded) → Value z ms c → (m : Maker) → Last z (operand c m).after → Fine z m → Told z ms m (operand c m).after
  operand_told c v m l f = operand_by_told c v m (local_register c.e m) refl l f

  operand_by_low : {ms : List Mention} (c : Coded) → Value z ms c → (m : Maker) (o : Option ℕ) → local_register c.e m ≡ o → Last z (operand_by o c m).after → Fine z m → (operand_by o c m).value ≤ 250
  operand_by_low c v m (Some r) e l f = let low = (local_low c.e m r e).0 in let room = f.room in omega (arith, low, room)
  operand_by_low c v m None e l f = let low = next_low c v m l in omega (arith, low)

  pub operand_low : {ms : List Mention} (c : Coded) → Value z ms c → (m : Maker) → Last z (operand c m).after → Fine z m → (operand c m).value ≤ 250
  operand_low c v m l f = operand_by_low c v m (local_register c.e m) refl l f

  small_told : {ms : List Mention} (c : Coded) → Value z ms c → (m : Maker) (b : Bool) (k : Constant) → ms ≡ [] → Last z (cond b (small_constant k) (operand c) m).after → Fine z m → Told z ms m (cond b (small_constant k) (operand c) m).after
  small_told c v m true k e l f = no_mention z e (still z f)
  small_told c v m false k e l f = operand_told c v m l f

  rk_by_told : {ms : List Mention} (c : Coded) → Value z ms c → (m : Maker) (o : Option Constant) → literal c.e ≡ o → Last z (rk_by o c m).after → Fine z m → Told z ms m (rk_by o c m).after
  rk_by_told c v m (Some k) e l f = small_told c v m (is_small k m) k (v.silent k e) l f
  rk_by_told c v m None e l f = operand_told c v m l f

  pub rk_told : {ms : List Mention} (c : Coded) → Value z ms c → (m : Maker) → Last z (rk c m).after → Fine z m → Told z ms m (rk c m).after
  rk_told c v m l f = rk_by_told c v m (literal c.e) refl l f

  pub two_told : {ms ns : List Mention} (left right : Coded) → Speaks z ms left → Speaks z ns right → (m : Maker) → Last z (rk right (rk left m).after).after → Fine z m → Told z (ms ++ ns) m (rk right (rk left m).after).after
  two_told left right s t m l f =
      let m1 = (rk left m).after in
      let one = rk_told left s.value m (back z m1 _ (grows_rk right t.grows m1) l) f in
      both z one (rk_told right t.value m1 l one.went.fine)

  pub load_told : (line r : ℕ) (k : Constant) (m : Maker) → Fine z m → Told z [] m (load line r k m)
  load_told line r k m f = on_load z line r (constant k m).value (still z f)

  text_by_told : (b : Bool) (line : ℕ) (text : Text) (m : Maker) → Fine z m → Told z [] m (cond b (small_constant (Constant.Text text)) (λ n. record { value = n.free; after = next_text line text n }) m).after
  text_by_told true line text m f = still z f
  text_by_told false line text m f = load_told line m.free (Constant.Text text) m f

  pub rk_text_told : (line : ℕ) (text : Text) (m : Maker) → Fine z m → Told z [] m (rk_text line text m).after
  rk_text_told line text m f = text_by_told (is_small (Constant.Text text) m) line text m f

  -- ---- tests

  pub when_jump : (b : Bool) (line label : ℕ) (m : Maker) → Fine z m → Told z [] m (when b (jump_to line label) m)
  when_jump true line label m f = on_jump z line Op.Jmp 0 label refl (still z f)
  when_jump false line label m f = still z f

  test_by_told : {ms : List Mention} (line : ℕ) (c : Coded) → Value z ms c → (truth : Bool) (label : ℕ) (m : Maker) (o : Option Constant) → literal c.e ≡ o →
      Last z (test_by o line c truth label m) → Fine z m → Told z ms m (test_by o line c truth label m)
  test_by_told line c v truth label m (Some k) e l f = no_mention z (v.silent k e) (when_jump (beq truth (is_true_constant k)) line label m f)
  test_by_told line c v truth label m None e l f =
      on_jump z line Op.Jmp 0 label refl (on_abc z line Op.Test (operand c m).value 0 (truth_field truth) refl (operand_told c v m l f))

  pub test_told : {ms : List Mention} (line : ℕ) (c : Coded) → Value z ms c → (truth : Bool) (label : ℕ) (m : Maker) →
      Last z (test_by (literal c.e) line c truth label m) → Fine z m → Told z ms m (test_by (literal c.e) line c truth label m)
  test_told line c v truth label m l f = test_by_told line c v truth label m (literal c.e) refl l f
