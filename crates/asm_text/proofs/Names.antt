-- The names of opcodes.
use Rattle.std.proofs.Common.{◌≡◌, ℕ, zero, suc, length, Bool, true, false, cond, List, [], ◌∷◌, ◌++◌, None, Some, drop, ◌+◌, ◌≤◌, refl, sym, ap, ◌∙◌, codes, arith}
use Rattle.std.specs.Str.{bytes_eq}
use Rattle.std.proofs.lemmas.Bool.{eq-eqb}
use Rattle.std.proofs.lemmas.Slice.Eq.{bytes_eq-Decides}
use Rattle.lua_num.specs.Bytes.{Text}
use Rattle.opcode.specs.declared.op.Op.{Op}
use Rattle.opcode.specs.Word.{op_number}
use Rattle.opcode.specs.Reading.{opcodes}
use Rattle.lister.specs.Listing.{op_name}
use Rattle.asm_text.specs.Reading.{cut_at, after, op_among, op_at}
use Rattle.asm_text.proofs.Cutting.{the_same}

pub same_bytes : (xs ys : Text) → bytes_eq xs ys ≡ true → xs ≡ ys
same_bytes xs ys h = (bytes_eq-Decides xs ys).0 h

pub bytes_same : (xs : Text) → bytes_eq xs xs ≡ true
bytes_same [] = refl
bytes_same (x ∷ xs) = rw (eq-eqb x x refl) (bytes_same xs)

op_step : (op : Op) (ops : List Op) (t : Text) (found : Op) (d : Bool) → bytes_eq t (op_name op) ≡ d → (op_among ops t ≡ Some found → t ≡ op_name found) → cond d (Some op) (op_among ops t) ≡ Some found → t ≡ op_name found
op_step op ops t found true q go e = same_bytes t (op_name op) q ∙ ap op_name (the_same op found e)
op_step op ops t found false q go e = go e

op_found : (ops : List Op) (t : Text) (op : Op) → op_among ops t ≡ Some op → t ≡ op_name op
unfolding op_among
op_found [] t op e = absurd cc
op_found (o ∷ ops) t op e = op_step o ops t op (bytes_eq t (op_name o)) refl (λ f. op_found ops t op f) e

pub op_back : (t : Text) (op : Op) → op_at t ≡ Some op → t ≡ op_name op
unfolding op_at
op_back t op e = op_found opcodes t op e

pub op_there : (op : Op) → op_at (op_name op) ≡ Some op
unfolding op_at op_among
op_there Op.Move = refl
op_there Op.LoadK = refl
op_there Op.LoadBool = refl
op_there Op.LoadNil = refl
op_there Op.GetUpval = refl
op_there Op.GetGlobal = refl
op_there Op.GetTable = refl
op_there Op.SetGlobal = refl
op_there Op.SetUpval = refl
op_there Op.SetTable = refl
op_there Op.NewTable = refl
op_there Op.Self_ = refl
op_there Op.Add = refl
op_there Op.Sub = refl
op_there Op.Mul = refl
op_there Op.Div = refl
op_there Op.Mod = refl
op_there Op.Pow = refl
op_there Op.Unm = refl
op_there Op.Not = refl
op_there Op.Len = refl
op_there Op.Concat = refl
op_there Op.Jmp = refl
op_there Op.Eq = refl
op_there Op.Lt = refl
op_there Op.Le = refl
op_there Op.Test = refl
op_there Op.TestSet = refl
op_there Op.Call = refl
op_there Op.TailCall = refl
op_there Op.Return = refl
op_there Op.ForLoop = refl
op_there Op.ForPrep = refl
op_there Op.TForLoop = refl
op_there Op.SetList = refl
op_there Op.Close = refl
op_there Op.Closure = refl
op_there Op.Vararg = refl

-- a name ends at the space behind it
pub name_cut : (op : Op) (rest : Text) → cut_at 32 (op_name op ++ (32 ∷ rest)) ≡ Some (op_name op, rest)
unfolding cut_at
name_cut Op.Move rest = refl
name_cut Op.LoadK rest = refl
name_cut Op.LoadBool rest = refl
name_cut Op.LoadNil rest = refl
name_cut Op.GetUpval rest = refl
name_cut Op.GetGlobal rest = refl
name_cut Op.GetTable rest = refl
name_cut Op.SetGlobal rest = refl
name_cut Op.SetUpval rest = refl
name_cut Op.SetTable rest = refl
name_cut Op.NewTable rest = refl
name_cut Op.Self_ rest = refl
name_cut Op.Add rest = refl
name_cut Op.Sub rest = refl
name_cut Op.Mul rest = refl
name_cut Op.Div rest = refl
name_cut Op.Mod rest = refl
name_cut Op.Pow rest = refl
name_cut Op.Unm rest = refl
name_cut Op.Not rest = refl
name_cut Op.Len rest = refl
name_cut Op.Concat rest = refl
name_cut Op.Jmp rest = refl
name_cut Op.Eq rest = refl
name_cut Op.Lt rest = refl
name_cut Op.Le rest = refl
name_cut Op.Test rest = refl
name_cut Op.TestSet rest = refl
name_cut Op.Call rest = refl
name_cut Op.TailCall rest = refl
name_cut Op.Return rest = refl
name_cut Op.ForLoop rest = refl
name_cut Op.ForPrep rest = refl
name_cut Op.TForLoop rest = refl
name_cut Op.SetList rest = refl
name_cut Op.Close rest = refl
name_cut Op.Closure rest = refl
name_cut Op.Vararg rest = refl

-- no opcode is called as a word that is no instruction
pub no_word : (op : Op) (rest : Text) → after (codes "WORD ") (op_name op ++ (32 ∷ rest)) ≡ None
unfolding after
no_word Op.Move rest = refl
no_word Op.LoadK rest = refl
no_word Op.LoadBool rest = refl
no_word Op.LoadNil rest = refl
no_word Op.GetUpval rest = refl
no_word Op.GetGlobal rest = refl
no_word Op.GetTable rest = refl
no_word Op.SetGlobal rest = refl
no_word Op.SetUpval rest = refl
no_word Op.SetTable rest = refl
no_word Op.NewTable rest = refl
no_word Op.Self_ rest = refl
no_word Op.Add rest = refl
no_word Op.Sub rest = refl
no_word Op.Mul rest = refl
no_word Op.Div rest = refl
no_word Op.Mod rest = refl
no_word Op.Pow rest = refl
no_word Op.Unm rest = refl
no_word Op.Not rest = refl
no_word Op.Len rest = refl
no_word Op.Concat rest = refl
no_word Op.Jmp rest = refl
no_word Op.Eq rest = refl
no_word Op.Lt rest = refl
no_word Op.Le rest = refl
no_word Op.Test rest = refl
no_word Op.TestSet rest = refl
no_word Op.Call rest = refl
no_word Op.TailCall rest = refl
no_word Op.Return rest = refl
no_word Op.ForLoop rest = refl
no_word Op.ForPrep rest = refl
no_word Op.TForLoop rest = refl
no_word Op.SetList rest = refl
no_word Op.Close rest = refl
no_word Op.Closure rest = refl
no_word Op.Vararg rest = refl

-- ---- looking for a name, opcode by opcode

from_op : (op : Op) → drop (op_number op) opcodes ≡ op ∷ drop (op_number op + 1) opcodes
from_op Op.Move = refl
from_op Op.LoadK = refl
from_op Op.LoadBool = refl
from_op Op.LoadNil = refl
from_op Op.GetUpval = refl
from_op Op.GetGlobal = refl
from_op Op.GetTable = refl
from_op Op.SetGlobal = refl
from_op Op.SetUpval = refl
from_op Op.SetTable = refl
from_op Op.NewTable = refl
from_op Op.Self_ = refl
from_op Op.Add = refl
from_op Op.Sub = refl
from_op Op.Mul = refl
from_op Op.Div = refl
from_op Op.Mod = refl
from_op Op.Pow = refl
from_op Op.Unm = refl
from_op Op.Not = refl
from_op Op.Len = refl
from_op Op.Concat = refl
from_op Op.Jmp = refl
from_op Op.Eq = refl
from_op Op.Lt = refl
from_op Op.Le = refl
from_op Op.Test = refl
from_op Op.TestSet = refl
from_op Op.Call = refl
from_op Op.TailCall = refl
from_op Op.Return = refl
from_op Op.ForLoop = refl
from_op Op.ForPrep = refl
from_op Op.TForLoop = refl
from_op Op.SetList = refl
from_op Op.Close = refl
from_op Op.Closure = refl
from_op Op.Vararg = refl

op_next : (op : Op) (number : ℕ) (t : Text) (d : Bool) → op_number op ≡ number → bytes_eq t (op_name op) ≡ d → op_among (drop number opcodes) t ≡ cond d (Some op) (op_among (drop (number + 1) opcodes) t)
unfolding op_among
op_next op number t d is q =
    ap (λ k. op_among (drop k opcodes) t) (sym is) ∙ ap (λ ops. op_among ops t) (from_op op) ∙ ap (λ d. cond d (Some op) (op_among (drop (op_number op + 1) opcodes) t)) q ∙ ap (λ k. cond d (Some op) (op_among (drop (k + 1) opcodes) t)) is

pub op_here : (op : Op) (number : ℕ) (name shown : Text) → op_number op ≡ number → shown ≡ op_name op → true ≡ bytes_eq name shown → op_among (drop number opcodes) name ≡ Some op
op_here op number name shown is named q = op_next op number name true is (ap (bytes_eq name) (sym named) ∙ sym q)

pub op_later : (op : Op) (number : ℕ) (name shown : Text) → op_number op ≡ number → shown ≡ op_name op → false ≡ bytes_eq name shown → op_among (drop number opcodes) name ≡ op_among (drop (number + 1) opcodes) name
op_later op number name shown is named q = op_next op number name false is (ap (bytes_eq name) (sym named) ∙ sym q)

none_from : (ops : List Op) (number : ℕ) → length ops ≤ number → drop number ops ≡ []
none_from [] zero le = refl
none_from [] (suc n) le = refl
none_from (op ∷ ops) zero le = absurd (omega arith)
none_from (op ∷ ops) (suc n) le = none_from ops n (omega arith)

pub op_nowhere : (number : ℕ) (name : Text) → 38 ≤ number → op_among (drop number opcodes) name ≡ None
unfolding op_among
op_nowhere number name le = ap (λ ops. op_among ops name) (none_from opcodes number le)
