-- What the leaf of a condition is tested as: a value, or a comparison with the fields in which its word has the operands; and what is written of it.
use Rattle.std.specs.Prelude.{◌≡◌, ◌<◌, ◌⊎◌, ◌+◌, not, ℕ, Bool, true, false, List, length, Option, None}
use Rattle.lua_tree.specs.Syntax.{Expression, binary_expression, parenthesized, unary_expression}
use Rattle.lua_tree.specs.declared.tree.BinaryOp.{BinaryOp}
use Rattle.lua_tree.specs.declared.tree.UnaryOp.{UnaryOp}
use Rattle.core_expr.specs.Counting.{left_by, taken_behind, taken_behind_operand}
use Rattle.core_expr.specs.Places.{Place}
use Rattle.core_expr.specs.Targets.{Comparison, can_write_comparison, left_by_comparison, word_comparison}
use Rattle.core_expr.specs.Values.{Inner, OperandValue, Value, constant_operand, local_value, value_operand}
use Rattle.core_expr.specs.Writing.{Wording, can_write, word}
use Rattle.recover_expr.specs.Testing.{TestedValue, tested_comparison, tested_value}
use Rattle.scheme.specs.Expressions.{is_comparison, literal}
use Rattle.scheme.specs.declared.making.Active.{Active}
use Rattle.scheme_stands.specs.Words.{Fn}
use Rattle.reads_back.specs.Cores.{Counted, HasCore, IsCore, IsOperand}

-- ---- leaves

abbrev pub HasTestBy : (compares : Bool) → (left right e : Expression) → Type 0
HasTestBy true left right e = HasCore left × HasCore right
HasTestBy false left right e = HasCore e × (literal e ≡ None)

-- a value that is no literal, or a comparison of values
abbrev pub HasTest : Expression → Type 0
HasTest (binary_expression line op left right) = HasTestBy (is_comparison op) left right (binary_expression line op left right)
HasTest (unary_expression line UnaryOp.Not e) = ⊥
HasTest (parenthesized line e) = ⊥
HasTest e = HasCore e × (literal e ≡ None)

-- ---- what they are tested as

-- The field of a word in which an operand is, where so many locals are active: the number of a constant, a local, or the next free register.
abbrev pub IsField : (count free field free1 : ℕ) → OperandValue → Type 0
IsField count free field free1 (constant_operand number) = (field ≡ number + 256) × (free1 ≡ free)
IsField count free field free1 (value_operand v) = ((field < count) × (v ≡ local_value field) × (free1 ≡ free)) ⊎ ((field ≡ free) × (free < 250) × (free1 ≡ free + 1))

-- two operands one behind the other, and their fields
pub record BothTested (g : Fn) (active : List Active) (left right : Expression) (before behind : ℕ) : Type 0 where
  pub first : OperandValue
  pub second : OperandValue
  pub mid : ℕ
  pub is_first : IsOperand g active left before mid first
  pub is_second : IsOperand g active right mid behind second
  pub x : ℕ
  pub y : ℕ
  pub free1 : ℕ
  pub free2 : ℕ
  pub at_first : IsField (length active) (length active) x free1 first
  pub at_second : IsField (length active) free1 y free2 second

-- the operator of the word, which has the operands of `>` and `>=` the other way round
abbrev pub word_op : BinaryOp → BinaryOp
word_op BinaryOp.Lt = BinaryOp.Lt
word_op BinaryOp.Le = BinaryOp.Le
word_op BinaryOp.Gt = BinaryOp.Lt
word_op BinaryOp.Ge = BinaryOp.Le
word_op op = BinaryOp.Eq

abbrev pub is_turned : BinaryOp → Bool
is_turned BinaryOp.Gt = true
is_turned BinaryOp.Ge = true
is_turned op = false

abbrev pub comparison_by : (turned : Bool) → BinaryOp → (x y : ℕ) → (first second : OperandValue) → Comparison
comparison_by false op x y first second = record { op = op; b = x; c = y; left = first; right = second }
comparison_by true op x y first second = record { op = op; b = y; c = x; left = second; right = first }

abbrev pub comparison_of : BinaryOp → (x y : ℕ) → (first second : OperandValue) → Comparison
comparison_of op x y first second = comparison_by (is_turned op) (word_op op) x y first second

abbrev pub IsValueTested : Fn → List Active → Expression → Counted TestedValue
IsValueTested g active e before behind tested = (v : Value) × IsCore g active e before behind v × (tested ≡ tested_value v)

abbrev pub IsCompared : Fn → List Active → BinaryOp → (left right : Expression) → Counted TestedValue
IsCompared g active op left right before behind tested = (both : BothTested g active left right before behind) × (tested ≡ tested_comparison (comparison_of op both.x both.y both.first both.second))

abbrev pub IsTestedBy : (compares : Bool) → Fn → List Active → BinaryOp → (left right e : Expression) → Counted TestedValue
IsTestedBy true g active op left right e = IsCompared g active op left right
IsTestedBy false g active op left right e = IsValueTested g active e

abbrev pub IsTested : Fn → List Active → Expression → Counted TestedValue
IsTested g active (binary_expression line op left right) = IsTestedBy (is_comparison op) g active op left right (binary_expression line op left right)
IsTested g active e = IsValueTested g active e

-- the truth at which it jumps, as its step has it: `~=` is tested as `==`
abbrev pub when_tested : Expression → (sense : Bool) → Bool
when_tested (binary_expression line BinaryOp.Ne left right) sense = not sense
when_tested e sense = sense

-- ---- what is written of them

abbrev pub condition_word : Place → ℕ → List (Option Inner) → TestedValue → Wording
condition_word at n fs (tested_value v) = word at n fs v
condition_word at n fs (tested_comparison c) = word_comparison at n fs c

abbrev pub can_test : Place → ℕ → List (Option Inner) → TestedValue → Bool
can_test at n fs (tested_value v) = can_write at fs v
can_test at n fs (tested_comparison c) = can_write_comparison at n fs c

abbrev pub left_by_test : Place → ℕ → List (Option Inner) → TestedValue → List (Option Inner)
left_by_test at n fs (tested_value v) = left_by v fs
left_by_test at n fs (tested_comparison c) = left_by_comparison at n fs c

abbrev pub taken_behind_test : TestedValue → ℕ → ℕ
taken_behind_test (tested_value v) n = taken_behind v n
taken_behind_test (tested_comparison c) n = taken_behind_operand c.right (taken_behind_operand c.left n)
