-- To be believed. What can be evaluated (manual 2.4 and 2.5). Each spends one tick as it begins.
use Rattle.std.specs.Prelude.{ℕ, ℤ, Bool, List}
use Rattle.lua_tree.specs.Syntax.{Statements, Statement, Expression, Fields}
use Rattle.lua_num.specs.Bytes.{Text}
use Rattle.lua_model.specs.Datum.{Datum}
use Rattle.source_meaning.specs.State.{Place, Flow, Target}

pub data Task : Type 0 where
  -- a block and a statement
  block : Place → Statements → Task
  statement : Place → Statement → Task
  -- a target of an assignment
  target : Place → Expression → Task
  -- an expression, a local that is taken as its cell, and a call that is left to who asks
  expression : Place → Expression → Task
  local_taken : (cell : ℕ) → Task
  called : Place → Expression → Task
  -- an item of a list, and one whose call is left to who asks; a string or a constructor that is the only argument; an item of a
  -- constructor with a name or a key, and its table
  item : Place → Expression → Task
  called_item : Place → Expression → Task
  text_item : Text → Task
  table_item : Place → Fields → Task
  named_item : Place → (table : ℕ) → Text → Expression → Task
  keyed_item : Place → (table : ℕ) → (key value : Expression) → Task
  -- the tests of loops
  test : Place → Expression → Task
  count_test : (i limit step : ℤ) → Task
  iterator_test : Place → (f state control : Datum) → Task
  -- a turn of a loop, and what follows it
  while_turn : Place → Expression → Statements → Task
  repeat_turn : Place → Statements → Expression → Task
  count_turn : Place → Text → (i limit step : ℤ) → Statements → Task
  iterator_turn : Place → List Text → (f state : Datum) → (values : List Datum) → Statements → Task
  -- a call of a value with arguments, at this depth where it is a function of the source
  call : (depth : ℕ) → Datum → List Datum → Task
  -- the same, protected, as the nth of protected calls that stand directly in one another; and one that is refused
  protected_call : (nth depth : ℕ) → Datum → List Datum → Task
  refused_call : Task

-- what a task gives
abbrev pub Gives : Task → Type 0
Gives (block at b) = Flow
Gives (statement at c) = Flow
Gives (target at e) = Target
Gives (expression at e) = List Datum
Gives (local_taken c) = Unit {0}
Gives (called at e) = Datum × List Datum
Gives (item at e) = List Datum
Gives (called_item at e) = Datum × List Datum
Gives (text_item t) = List Datum
Gives (table_item at fs) = List Datum
Gives (named_item at t name e) = Unit {0}
Gives (keyed_item at t k e) = Unit {0}
Gives (test at e) = Bool
Gives (count_test i limit step) = Bool
Gives (iterator_test at f state control) = List Datum
Gives (while_turn at e b) = Flow
Gives (repeat_turn at b e) = Flow
Gives (count_turn at name i limit step b) = Flow
Gives (iterator_turn at names f state values b) = Flow
Gives (call depth f args) = List Datum
Gives (protected_call nth depth f args) = List Datum
Gives refused_call = Unit {0}
