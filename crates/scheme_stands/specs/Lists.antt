-- Serves the laws. Where the words of lists of values, calls and constructors stand.
use Rattle.std.specs.Prelude.{◌≡◌, ◌≤◌, ◌<◌, ◌⊎◌, ℕ, suc, ◌+◌, ◌-◌, ◌/◌, ◌==◌, nat_lt, nat_le, Bool, true, false, cond, List, [], ◌∷◌, length, Some, None}
use Rattle.lua_num.specs.Bytes.{Text}
use Rattle.lua_tree.specs.Syntax.{Fields, no_fields, positional, named, keyed, vararg_expression}
use Rattle.opcode.specs.declared.op.Op.{Op}
use Rattle.scheme.specs.Expressions.{Want, count_field}
use Rattle.scheme.specs.declared.making.Piece.{Piece}
use Rattle.scheme.specs.declared.making.Active.{Active}
use Rattle.scheme_stands.specs.Words.{Fn, Spot, Stretch, WordAt, Same, Seq}
use Rattle.scheme_stands.specs.Expressions.{Form, form_of, several, Rel, OperandAt, RkAt, RkTextAt, TwoAt, rel_single}

-- ==== lists

-- a value in the next register, and the rest
pub record FirstAt (f : Fn) (c : Rel) (active : List Active) (free : ℕ) (rest : Stretch) (p q : Spot) : Type 0 where
  pub mid : Spot
  pub room : free < f.size
  pub first : c.to_reg active free free p mid
  pub others : rest mid q

-- each value in a register of its own
abbrev pub AllNextAt : Fn → List Rel → List Active → (free : ℕ) → Stretch
AllNextAt f [] active free = Same
AllNextAt f (c ∷ cs) active free = FirstAt f c active free (AllNextAt f cs active (free + 1))

-- the last one gives several values
abbrev pub AllMultiAt : Fn → Op → Want → List Rel → List Active → (free : ℕ) → Stretch
AllMultiAt f op want [] active free = Same
AllMultiAt f op want (c ∷ []) active free = c.multi active free op want
AllMultiAt f op want (c ∷ d ∷ cs) active free = FirstAt f c active free (AllMultiAt f op want (d ∷ cs) active (free + 1))

abbrev pub rels_open : List Rel → Bool
rels_open [] = false
rels_open (c ∷ []) = several c.form
rels_open (c ∷ d ∷ cs) = rels_open (d ∷ cs)

abbrev pub OpenBy : Bool → Fn → List Rel → List Active → (free : ℕ) → Stretch
OpenBy true f cs = AllMultiAt f Op.Call None cs
OpenBy false f cs = AllNextAt f cs

-- all values of a list: a last multiple one is left open
abbrev pub OpenListAt : Fn → List Rel → List Active → (free : ℕ) → Stretch
OpenListAt f cs = OpenBy (rels_open cs) f cs

abbrev pub rels_count : List Rel → Want
rels_count cs = cond (rels_open cs) None (Some (length cs))

pub record NilsAt (f : Fn) (free n : ℕ) (p q : Spot) : Type 0 where
  pub room : free + n ≤ f.size
  pub word : WordAt f (Piece.Abc Op.LoadNil free (free + n - 1) 0) p q

abbrev pub FilledAt : (open_last : Bool) → Fn → List Rel → (missing : ℕ) → List Active → (free : ℕ) → Stretch
FilledAt true f cs missing active free = AllMultiAt f Op.Call (Some (missing + 1)) cs active free
FilledAt false f cs missing active free = Seq (AllNextAt f cs active free) (NilsAt f (free + length cs) missing)

abbrev pub AdjustBy : (fewer : Bool) → Fn → List Rel → (n : ℕ) → List Active → (free : ℕ) → Stretch
AdjustBy true f cs n active free = FilledAt (rels_open cs) f cs (n - length cs) active free
AdjustBy false f cs n active free = AllNextAt f cs active free

-- Adjust: the values of a list are n values, in the registers from `free` on
abbrev pub AdjustAt : Fn → List Rel → (n : ℕ) → List Active → (free : ℕ) → Stretch
AdjustAt f cs n = AdjustBy (nat_lt (length cs) n) f cs n

-- ==== calls

-- the arguments of a call, from `free` on, and how many they are
pub record GivenRel : Type 1 where
  pub part : (active : List Active) → (free : ℕ) → Stretch
  pub count : Want

-- there are registers for the results
abbrev pub ResultRoom : Fn → (base : ℕ) → Want → Type 0
ResultRoom f base None = base < f.size
ResultRoom f base (Some n) = base + n ≤ f.size

pub record CallAt (f : Fn) (on : Rel) (given : GivenRel) (active : List Active) (free : ℕ) (op : Op) (want : Want) (p q : Spot) : Type 0 where
  pub mid : Spot
  pub last : Spot
  pub room : free < f.size
  pub on_at : on.to_reg active free free p mid
  pub given_at : given.part active (free + 1) mid last
  pub word : WordAt f (Piece.Abc op free (count_field 1 given.count) (count_field 1 want)) last q
  pub results : ResultRoom f free want

-- a method call: what it is called on is an argument too
pub record MethodAt (f : Fn) (on : Rel) (text : Text) (given : GivenRel) (active : List Active) (free : ℕ) (op : Op) (want : Want) (p q : Spot) : Type 0 where
  pub x : ℕ
  pub free1 : ℕ
  pub y : ℕ
  pub free2 : ℕ
  pub mid : Spot
  pub named : Spot
  pub begun : Spot
  pub last : Spot
  pub room : free + 2 ≤ f.size
  pub on_at : OperandAt f active on free x free1 p mid
  pub name_at : RkTextAt f text (free + 2) y free2 mid named
  pub self_at : WordAt f (Piece.Abc Op.Self_ free x y) named begun
  pub given_at : given.part active (free + 2) begun last
  pub word : WordAt f (Piece.Abc op free (count_field 2 given.count) (count_field 1 want)) last q
  pub results : ResultRoom f free want

-- a value that comes in F goes to the register, where that is another
abbrev pub MovedFrom : Fn → Stretch → (free r : ℕ) → Stretch
MovedFrom f part free r p q = ((free ≡ r) × part p q) ⊎ ((free ≡ r → ⊥) × Seq part (WordAt f (Piece.Abc Op.Move r free 0)) p q)

abbrev pub rel_call : Fn → Form → (List Active → (free : ℕ) → Op → Want → Stretch) → Rel
rel_call f form part = record (rel_single f form (λ active free r. MovedFrom f (part active free Op.Call (Some 1)) free r)) { multi = part }

pub record VarargAt (f : Fn) (active : List Active) (free : ℕ) (op : Op) (want : Want) (p q : Spot) : Type 0 where
  pub word : WordAt f (Piece.Abc Op.Vararg free (count_field 1 want) 0) p q
  pub results : ResultRoom f free want

abbrev pub rel_vararg : Fn → Rel
rel_vararg f = record (rel_single f (form_of (vararg_expression 0)) (λ active free r. WordAt f (Piece.Abc Op.Vararg r 2 0))) { multi = VarargAt f }

-- ==== constructors

abbrev pub SetListBy : (small : Bool) → Fn → (t n block : ℕ) → Stretch
SetListBy true f t n block = WordAt f (Piece.Abc Op.SetList t n block)
SetListBy false f t n block = Seq (WordAt f (Piece.Abc Op.SetList t n 0)) (WordAt f (Piece.Bare block))

-- n pending items go into the table in t, where so many positional ones were done (these among them); where n is 0, those up to
-- the open results, where `done` counts one of them
abbrev pub SetListAt : Fn → (t n done : ℕ) → Stretch
SetListAt f t n done = let block = (done - 1) / 50 + 1 in SetListBy (nat_le block 511) f t n block

-- they do where there are such
abbrev pub SetListIf : Bool → Fn → (t n done : ℕ) → Stretch
SetListIf true f t n done = SetListAt f t n done
SetListIf false f t n done = Same

-- a positional item, and the rest of the items; it is open where it is the last one and can give several values
abbrev pub ItemBy : (left_open : Bool) → Fn → Rel → List Active → (t done pending : ℕ) → (rest : Stretch) → Stretch
ItemBy true f c active t done pending rest = Seq (c.multi active (t + suc pending) Op.Call None) (SetListAt f t 0 (suc done))
ItemBy false f c active t done pending rest = FirstAt f c active (t + suc pending) (Seq (SetListIf (suc pending == 50) f t 50 (suc done)) rest)

-- an item with a key, while so many positional ones are pending
abbrev pub KeyedAt : Fn → (key : (free x free1 : ℕ) → Stretch) → Rel → List Active → (t pending : ℕ) → Stretch
KeyedAt f key c active t pending = TwoAt key (RkAt f active c) (t + suc pending) (λ k v. WordAt f (Piece.Abc Op.SetTable t k v))

abbrev pub is_last_item : Fields → Bool
is_last_item no_fields = true
is_last_item (positional e separator rest) = false
is_last_item (named text e separator rest) = false
is_last_item (keyed key e separator rest) = false

-- a new table in `free`, and its items; the size hints do not matter
pub record TableAt (f : Fn) (items : (t : ℕ) → Stretch) (free : ℕ) (p q : Spot) : Type 0 where
  pub array : ℕ
  pub hash : ℕ
  pub mid : Spot
  pub room : free < f.size
  pub word : WordAt f (Piece.Abc Op.NewTable free array hash) p mid
  pub items_at : items free mid q
