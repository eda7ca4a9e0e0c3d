-- Serves the laws. Which value the words of an expression make, where they stand in a function: locals by their registers, and constants and upvalues by their numbers; and how many functions were made before them, and behind them. `and`, `or` and comparisons have none here.
use Rattle.std.specs.Prelude.{◌≡◌, ◌≤◌, ◌⊎◌, ◌&&◌, ℕ, suc, ℤ, Bool, true, false, List, slice_get, Option, Some, None}
use Rattle.lua_num.specs.Bytes.{Text}
use Rattle.lua_tree.specs.Syntax as syntax
use Rattle.lua_tree.specs.OneLine.{one_line_body}
use Rattle.lua_tree.specs.Syntax.{FunctionBody, Expressions, no_expressions, Arguments, argument_list, text_argument, table_argument, Expression, nil_literal, true_literal, false_literal, vararg_expression, number_literal, text_literal, name_expression, function_expression, index_expression, field_expression, call_expression, method_call, and_expression, or_expression, binary_expression, unary_expression, constructor, parenthesized, Fields, no_fields, positional, named, keyed}
use Rattle.lua_tree.specs.WellFormed.{formed_body}
use Rattle.lua_tree.specs.declared.tree.BinaryOp.{BinaryOp}
use Rattle.lua_tree.specs.declared.tree.UnaryOp.{UnaryOp}
use Rattle.proto.specs.Constants.{constant_number}
use Rattle.proto.specs.declared.parts.Constant.{Constant}
use Rattle.core_expr.specs.Making.{made_index, made_binary, made_unary, made_concat, made_call, made_method, made_table}
use Rattle.core_expr.specs.Values.{Value, nil_value, bool_value, vararg_value, constant_value, function_value, local_value, upvalue_value, global_value, Values, no_values, and_value, OperandValue, constant_operand, value_operand, ItemList, no_items, and_positional, and_keyed}
use Rattle.scheme.specs.Expressions.{fold, literal, is_comparison, is_multiple}
use Rattle.scheme.specs.Making.{Where, in_register, in_upvalue, in_globals}
use Rattle.scheme.specs.declared.making.Active.{Active}
use Rattle.scheme_stands.specs.Expressions.{IsLarge}
use Rattle.scheme_stands.specs.Lists.{is_last_item}
use Rattle.scheme_stands.specs.Words.{Fn, Means}
use Rattle.reads_back.specs.Coming.{Coming, IsMadeNext}
use Rattle.same_flow.specs.Space.{space_of_body}
use Rattle.reads_back.specs.Flows.{IsFlowBody}
use Rattle.reads_back.specs.Straight.{AllHaveCoresBy, HasCoreBy, HaveCoresBy, HaveItemsBy}

-- ---- functions that are made

-- what is known of something behind whose words so many functions were made, and so many before them
abbrev pub Counted : Type 0 → Type 1
Counted A = (before behind : ℕ) → A → Type 0

-- so of values, and whether the last one gives all its values
abbrev pub CountedValues : Type 1
CountedValues = (before behind : ℕ) → Values → (all : Bool) → Type 0

-- no function is made
abbrev pub still : {A : Type 0} → (A → Type 0) → Counted A
still Is before behind a = (behind ≡ before) × Is a

-- ---- constants and names

-- the number of a constant, the first that it has
pub record HasNumber (g : Fn) (k : Constant) (number : ℕ) : Type 0 where
  pub is : slice_get g.constants number ≡ Some k
  pub first : constant_number k g.constants ≡ number

-- a constant that is loaded
abbrev pub IsConstant : Fn → Constant → Value → Type 0
IsConstant g k v = (number : ℕ) × HasNumber g k number × (v ≡ constant_value number)

abbrev pub IsVariable : Fn → Text → Where → Value → Type 0
IsVariable g text (in_register r) v = v ≡ local_value r
IsVariable g text (in_upvalue slot) v = v ≡ upvalue_value slot
IsVariable g text in_globals v = (number : ℕ) × HasNumber g (Constant.Text text) number × (v ≡ global_value number)

-- what a name means
abbrev pub IsNamed : Fn → List Active → Text → Value → Type 0
IsNamed g active text v = (w : Where) × Means g.law active text w × IsVariable g text w v

-- ---- operands

-- a constant with a small number stands in the word itself
abbrev pub IsSmall : Fn → Constant → OperandValue → Type 0
IsSmall g k o = (number : ℕ) × HasNumber g k number × (number ≤ 255) × (o ≡ constant_operand number)

-- a value in a register
abbrev pub IsValueOperand : (Value → Type 0) → OperandValue → Type 0
IsValueOperand Is o = (v : Value) × Is v × (o ≡ value_operand v)

abbrev pub valued : Counted Value → Counted OperandValue
valued Is before behind = IsValueOperand (Is before behind)

abbrev pub IsOperandBy : Option Constant → Fn → Counted Value → Counted OperandValue
IsOperandBy (Some k) g Is before behind o = still (IsSmall g k) before behind o ⊎ (IsLarge g k × valued Is before behind o)
IsOperandBy None g Is before behind o = valued Is before behind o

-- the name of a field, as a key
abbrev pub IsKey : Fn → Text → Counted OperandValue
IsKey g text = IsOperandBy (Some (Constant.Text text)) g (still (IsConstant g (Constant.Text text)))

-- ---- expressions

-- a folded number is a constant
abbrev pub IsFoldedOr : Option ℤ → Fn → Counted Value → Counted Value
IsFoldedOr (Some n) g Is = still (IsConstant g (Constant.Number n))
IsFoldedOr None g Is = Is

-- the last one can give several values
abbrev pub ends_open : Expressions → Bool
ends_open no_expressions = false
ends_open (syntax.expression e no_expressions) = is_multiple e
ends_open (syntax.expression e (syntax.expression d es)) = ends_open (syntax.expression d es)

-- what indexes a value
abbrev pub IsIndexed : (On : Value → Type 0) → (Key : OperandValue → Type 0) → Value → Type 0
IsIndexed On Key v = (on : Value) × (key : OperandValue) × On on × Key key × (made_index on key ≡ Some v)

abbrev pub IsCalled : (On : Value → Type 0) → (Given : Values → Bool → Type 0) → Value → Type 0
IsCalled On Given v = (on : Value) × (values : Values) × (all : Bool) × On on × Given values all × (made_call on values all ≡ Some v)

abbrev pub IsMethodCalled : Fn → Text → (On : Value → Type 0) → (Given : Values → Bool → Type 0) → Value → Type 0
IsMethodCalled g name On Given v =
    (on : Value) × (number : ℕ) × (values : Values) × (all : Bool) × On on × HasNumber g (Constant.Text name) number × Given values all × (made_method on number values all ≡ Some v)

abbrev pub IsArithmetic : BinaryOp → (Left Right : OperandValue → Type 0) → Value → Type 0
IsArithmetic op Left Right v = (is_comparison op ≡ false) × (x : OperandValue) × (y : OperandValue) × Left x × Right y × (made_binary op x y ≡ Some v)

-- a value and others behind it
abbrev pub IsFirst : (First : Value → Type 0) → (Rest : Values → Type 0) → Values → Type 0
IsFirst First Rest values = (first : Value) × (rest : Values) × First first × Rest rest × (values ≡ and_value first rest)

abbrev pub first_and : (First : Counted Value) → (Rest : Counted Values) → Counted Values
first_and First Rest before behind values = (mid : ℕ) × IsFirst (First before mid) (Rest mid behind) values

abbrev pub IsOnly : (Only : Value → Type 0) → Values → Type 0
IsOnly Only values = (v : Value) × Only v × (values ≡ and_value v no_values)

abbrev pub only : Counted Value → Counted Values
only Is before behind = IsOnly (Is before behind)

-- operands of `..` along its right spine are one value
abbrev pub IsConcat : (Operands : Values → Type 0) → Value → Type 0
IsConcat Operands v = (values : Values) × Operands values × (made_concat values ≡ Some v)

abbrev pub arithmetic_by : BinaryOp → (Left Right : Counted OperandValue) → Counted Value
arithmetic_by op Left Right before behind v = (mid : ℕ) × IsArithmetic op (Left before mid) (Right mid behind) v

abbrev pub concat_by : (Operands : Counted Values) → Counted Value
concat_by Operands before behind = IsConcat (Operands before behind)

abbrev pub IsOperator : BinaryOp → (Left Right : Counted OperandValue) → (Operands : Counted Values) → Counted Value
IsOperator BinaryOp.Concat Left Right Operands = concat_by Operands
IsOperator op Left Right Operands = arithmetic_by op Left Right

abbrev pub IsBinary : Fn → (folded : Option ℤ) → BinaryOp → (Left Right : Counted OperandValue) → (Operands : Counted Values) → Counted Value
IsBinary g folded op Left Right Operands = IsFoldedOr folded g (IsOperator op Left Right Operands)

abbrev pub IsSpineBy : BinaryOp → (Operands Alone : Counted Values) → Counted Values
IsSpineBy BinaryOp.Concat Operands Alone = Operands
IsSpineBy op Operands Alone = Alone

abbrev pub IsUnary : UnaryOp → (Of : Value → Type 0) → Value → Type 0
IsUnary op Of v = (of : Value) × Of of × (made_unary op of ≡ Some v)

abbrev pub unary_by : UnaryOp → Counted Value → Counted Value
unary_by op Of before behind = IsUnary op (Of before behind)

abbrev pub IsTextGiven : Fn → Text → Values → Bool → Type 0
IsTextGiven g text values all = IsOnly (IsConstant g (Constant.Text text)) values × (all ≡ false)

-- the items of a constructor, and whether the last one gives all its values
abbrev pub Items : Type 1
Items = ItemList → (all : Bool) → Type 0

abbrev pub CountedItems : Type 1
CountedItems = (before behind : ℕ) → Items

abbrev pub AreNoItems : CountedItems
AreNoItems before behind items all = (behind ≡ before) × (items ≡ no_items) × (all ≡ false)

-- an item without a key gives all its values where it is the last one and can give several
abbrev pub IsOpenItem : (Is : Value → Type 0) → Items
IsOpenItem Is items all = (v : Value) × Is v × (items ≡ and_positional v no_items) × (all ≡ true)

abbrev pub IsOneItem : (Is : Value → Type 0) → (Rest : Items) → Items
IsOneItem Is Rest items all = (v : Value) × (rest : ItemList) × Is v × Rest rest all × (items ≡ and_positional v rest)

abbrev pub open_item_by : Counted Value → CountedItems
open_item_by Is before behind = IsOpenItem (Is before behind)

abbrev pub one_item_by : Counted Value → (Rest : CountedItems) → CountedItems
one_item_by Is Rest before behind items all = (mid : ℕ) × IsOneItem (Is before mid) (Rest mid behind) items all

abbrev pub IsItem : (is_open : Bool) → Counted Value → (Rest : CountedItems) → CountedItems
IsItem true Is Rest = open_item_by Is
IsItem false Is Rest = one_item_by Is Rest

abbrev pub IsKeyed : (Key Item : OperandValue → Type 0) → (Rest : Items) → Items
IsKeyed Key Item Rest items all = (key : OperandValue) × (item : OperandValue) × (rest : ItemList) × Key key × Item item × Rest rest all × (items ≡ and_keyed key item rest)

abbrev pub IsKeyedItem : (Key Item : Counted OperandValue) → (Rest : CountedItems) → CountedItems
IsKeyedItem Key Item Rest before behind items all = (mid : ℕ) × (last : ℕ) × IsKeyed (Key before mid) (Item mid last) (Rest last behind) items all

abbrev pub IsTable : Items → Value → Type 0
IsTable Are v = (items : ItemList) × (all : Bool) × Are items all × (made_table items all ≡ Some v)

abbrev pub table_by : CountedItems → Counted Value
table_by Are before behind = IsTable (Are before behind)

abbrev pub IsTableGiven : Items → Values → Bool → Type 0
IsTableGiven Are values all = IsOnly (IsTable Are) values × (all ≡ false)

-- what the words of an expression make: its value; and as an operand of a `..` that it ends, the values from there on
pub record Made : Type 1 where
  pub value : Counted Value
  pub spine : Counted Values

abbrev pub alone : Counted Value → Made
alone Is = record { value = Is; spine = only Is }

-- the next function that is made
abbrev pub IsClosure : Fn → List Active → FunctionBody → (method : Bool) → Counted Value
IsClosure g active body method before behind v = (behind ≡ suc before) × (v ≡ function_value before false) × (c : Coming) × (c.functions ≡ before) × IsMadeNext g active body method c

-- what is indexed, and its key
abbrev pub indexed_by : (On : Counted Value) → (Key : Counted OperandValue) → Counted Value
indexed_by On Key before behind v = (mid : ℕ) × IsIndexed (On before mid) (Key mid behind) v

-- what is called, and its arguments
abbrev pub called_by : (On : Counted Value) → (Given : CountedValues) → Counted Value
called_by On Given before behind v = (mid : ℕ) × IsCalled (On before mid) (Given mid behind) v

abbrev pub method_called_by : Fn → Text → (On : Counted Value) → (Given : CountedValues) → Counted Value
method_called_by g name On Given before behind v = (mid : ℕ) × IsMethodCalled g name (On before mid) (Given mid behind) v

abbrev pub binary : Fn → (folded : Option ℤ) → BinaryOp → (in_left in_right : Option Constant) → (left right : Made) → Made
binary g folded op in_left in_right left right =
    let operands = first_and left.value right.spine in
    let value = IsBinary g folded op (IsOperandBy in_left g left.value) (IsOperandBy in_right g right.value) operands in
    record { value = value; spine = IsSpineBy op operands (only value) }

abbrev pub none : Made
none = alone (λ before behind v. ⊥)

abbrev mutual
  pub core : Fn → List Active → Expression → Made
  core g active (nil_literal line) = alone (still (λ v. v ≡ nil_value))
  core g active (true_literal line) = alone (still (λ v. v ≡ bool_value true))
  core g active (false_literal line) = alone (still (λ v. v ≡ bool_value false))
  core g active (vararg_expression line) = alone (still (λ v. v ≡ vararg_value))
  core g active (number_literal line n) = alone (still (IsConstant g (Constant.Number n)))
  core g active (text_literal line text) = alone (still (IsConstant g (Constant.Text text)))
  core g active (name_expression line text) = alone (still (IsNamed g active text))
  core g active (function_expression line body) = alone (IsClosure g active body false)
  core g active (index_expression line on key) = alone (indexed_by (core g active on).value (IsOperandBy (literal key) g (core g active key).value))
  core g active (field_expression line on text) = alone (indexed_by (core g active on).value (IsKey g text))
  core g active (call_expression line on args on_line) = alone (called_by (core g active on).value (AreGiven g active args))
  core g active (method_call line on name args on_line) = alone (method_called_by g name (core g active on).value (AreGiven g active args))
  core g active (and_expression line left right) = none
  core g active (or_expression line left right) = none
  core g active (binary_expression line op left right) = binary g (fold (binary_expression line op left right)) op (literal left) (literal right) (core g active left) (core g active right)
  core g active (unary_expression line op e) = alone (IsFoldedOr (fold (unary_expression line op e)) g (unary_by op (core g active e).value))
  core g active (constructor line fields) = alone (table_by (AreItems g active fields))
  core g active (parenthesized line e) = alone (core g active e).value

  -- the arguments of a call, and whether the last one gives all its values
  pub AreGiven : Fn → List Active → Arguments → CountedValues
  AreGiven g active (argument_list es) before behind vs all = AreCores g active es before behind vs × (all ≡ ends_open es)
  AreGiven g active (text_argument text) before behind vs all = (behind ≡ before) × IsTextGiven g text vs all
  AreGiven g active (table_argument fields) before behind vs all = IsTableGiven (AreItems g active fields before behind) vs all

  pub AreItems : Fn → List Active → Fields → CountedItems
  AreItems g active no_fields = AreNoItems
  AreItems g active (positional e separator rest) = IsItem (is_last_item rest && is_multiple e) (core g active e).value (AreItems g active rest)
  AreItems g active (named text e separator rest) = IsKeyedItem (IsKey g text) (IsOperandBy (literal e) g (core g active e).value) (AreItems g active rest)
  AreItems g active (keyed key e separator rest) = IsKeyedItem (IsOperandBy (literal key) g (core g active key).value) (IsOperandBy (literal e) g (core g active e).value) (AreItems g active rest)

  pub AreCores : Fn → List Active → Expressions → Counted Values
  AreCores g active no_expressions = still (λ vs. vs ≡ no_values)
  AreCores g active (syntax.expression e es) = first_and (core g active e).value (AreCores g active es)

abbrev pub IsCore : Fn → List Active → Expression → Counted Value
IsCore g active e = (core g active e).value

-- an operand of an expression
abbrev pub IsOperand : Fn → List Active → Expression → Counted OperandValue
IsOperand g active e = IsOperandBy (literal e) g (IsCore g active e)

-- ---- expressions that have one

-- a function as it is read: its statements may have blocks, and it is well formed, on one line and has room
pub record IsPlainBody (body : FunctionBody) : Type 0 where
  pub deep : ℕ
  pub flow : IsFlowBody deep body
  pub formed : formed_body body ≡ true
  pub on_line : one_line_body body ≡ body
  pub room : space_of_body body ≤ 200

abbrev pub HasCore : Expression → Type 0
HasCore e = HasCoreBy IsPlainBody e

abbrev pub HaveCores : Arguments → Type 0
HaveCores args = HaveCoresBy IsPlainBody args

abbrev pub AllHaveCores : Expressions → Type 0
AllHaveCores es = AllHaveCoresBy IsPlainBody es

abbrev pub HaveItems : Fields → Type 0
HaveItems fields = HaveItemsBy IsPlainBody fields
