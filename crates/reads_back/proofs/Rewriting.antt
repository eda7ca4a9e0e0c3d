-- What is written of the value of an expression has the same code as the expression, where so many constants were taken before it, and its names come next: the records in which this is said.
use Rattle.std.proofs.Common.{◌∷◌, ◌≡◌, ℕ, ◌*◌, ◌+◌, ◌≤◌, ◌⊎◌, Bool, true, List, [], ◌++◌, length, None, Some, Option, suc, false}
use Rattle.lua_num.specs.Bytes.{Text}
use Rattle.lua_tree.specs.OneLine.{one_line_expression, one_line_arguments, one_line_statement}
use Rattle.lua_tree.specs.Syntax.{Arguments, Expression, Statement, assignment, call_statement, local_statement, return_statement, FunctionBody, local_function}
use Rattle.lua_tree.specs.Precedence.{right_binds}
use Rattle.lua_tree.specs.WellFormed.{depth_of_expression, depth_of_body, formed_arguments, formed_expression, formed_statement}
use Rattle.opcode.specs.declared.op.Op.{Op}
use Rattle.core_expr.specs.Counting.{taken_behind, taken_behind_operand, taken_behind_values, left_by, left_by_operand, left_by_values}
use Rattle.core_expr.specs.Places.{place}
use Rattle.core_expr.specs.Values.{Value, index_value, OperandValue, Values, Inner}
use Rattle.core_expr.specs.Writing.{ArgumentWording, Wording, as_arguments, as_list, can_write, can_write_operand, can_write_values, chain, is_bare, is_multiple as can_be_several, operand_count, word, word_each, word_operand, word_short, word_values, function_left}
use Rattle.recover_expr.specs.Situation.{Function}
use Rattle.scheme.specs.Expressions.{Coded, Want, fold, is_multiple, is_name, local_register, rk}
use Rattle.scheme.specs.Making.{Maker, Where, Ahead}
use Rattle.scheme.specs.Scheme.{coded, given, statement_made, inner}
use Rattle.scheme.specs.declared.making.Active.{Active}
use Rattle.scheme_stands.proofs.Growth.{Final}
use Rattle.scheme_stands.specs.Words.{Fn, Means}
use Rattle.reads_back.specs.Acted.{Acted, act_levels, act_statement, left_by_act, taken_behind_act, lean_depth}
use Rattle.reads_back.proofs.NameReads.{AreListed}
use Rattle.reads_back.proofs.Mentions.{IsAhead, mentions_in, mentions_given, mentions_in_all, Mention, locals_mention, made_behind, own_mention}
use Rattle.reads_back.proofs.InRoom.{IsInRoom, IsOperandInRoom}
use Rattle.reads_back.proofs.Rooms.{lean_room}
use Rattle.reads_back.proofs.Said.{can_say}
use Rattle.reads_back.proofs.WordsRead.{IsFunction}
use Rattle.reads_back.specs.Assignments.{with_self}
use Rattle.reads_back.specs.Cores.{IsPlainBody}
use Rattle.reads_back.specs.Coming.{Coming, IsMadeNext, captured_names, declared_local}
use Rattle.std.specs.Prelude.{◌&&◌, not, slice_set}
use Rattle.scheme.specs.Functions.{without_sources}
use Rattle.same_flow.specs.Space.{space_of_arguments, space_of_body, space_of_expression}

-- the function that is read is the one that is made in the end
pub record IsMadeBy (f : Function) (g : Fn) (active : List Active) (listed : List ℕ) (z : Maker) : Type 0 where
  pub is_function : IsFunction f g
  pub all : AreListed f g active listed
  pub constants : g.constants ≡ z.constants
  pub few : length z.constants ≤ 262144
  -- the scope finds one meaning by a name
  pub certain : (text : Text) (one other : Where) → Means g.law active text one → Means g.law active text other → one ≡ other

-- a function that is written where the next one is made has the same code, and so few levels
pub record IsAgain (short : Bool) (g : Fn) (active : List Active) (body : FunctionBody) (method : Bool) (c : Coming) (found : Inner) : Type 0 where
  pub same : inner found.body false (captured_names active g.upvalue_names c.ahead) (without_sources c.ahead) ≡ inner body method (captured_names active g.upvalue_names c.ahead) (without_sources c.ahead)
  pub few : found.levels ≤ 3 * depth_of_body body + 204
  pub low : short ≡ true → found.levels ≤ space_of_body body

-- the functions that are left where so many were made: the next one is there, and behind it the others are left
pub record AreAgain (f : Function) (g : Fn) (lefts : ℕ → List (Option Inner)) : Type 0 where
  pub next : (active : List Active) (listed : List ℕ) → AreListed f g active listed → (body : FunctionBody) (method : Bool) (c : Coming) → IsPlainBody (with_self method body) → depth_of_body body ≤ 199 → IsMadeNext g active body method c → (found : Inner) × (function_left (lefts c.functions) c.functions ≡ Some found) × IsAgain f.short g active body method c found
  pub others : (active : List Active) (body : FunctionBody) (method : Bool) (c : Coming) → IsPlainBody (with_self method body) → IsMadeNext g active body method c → slice_set (lefts c.functions) c.functions None ≡ lefts (suc c.functions)

-- the code of an expression on one line
abbrev pub code : Expression → Coded
code e = coded (one_line_expression e)

-- its value is made for a register or for several, or it is a local: it is known what is made in the end
abbrev pub IsMadeAs : Expression → (m z : Maker) → Type 0
IsMadeAs e m z =
    ((r : ℕ) × Final (length m.labels) ((code e).to_reg r m) z) ⊎ (((r : ℕ) × (local_register (one_line_expression e) m ≡ Some r)) ⊎ ((is_multiple e ≡ true) × (op : Op) × (want : Want) × Final (length m.labels) ((code e).multi op want m) z))

-- what a statement mentions
abbrev pub mentions_of_statement : Statement → List Mention
mentions_of_statement (call_statement e) = mentions_in e
mentions_of_statement (assignment targets es) = mentions_in_all targets ++ mentions_in_all es
mentions_of_statement (local_statement names es) = locals_mention names ∷ mentions_in_all es
mentions_of_statement (return_statement es) = mentions_in_all es
mentions_of_statement (local_function text body) = own_mention text body ∷ []
mentions_of_statement s = []

-- behind a local function that one is active, and listed too
abbrev pub OwnListed : Function → Fn → List Active → Statement → Type 0
OwnListed f g active (local_function text body) = (x : Active) (ahead : Ahead) → x.local ≡ declared_local text ahead → (listed : List ℕ) × AreListed f g (active ++ x ∷ []) listed
OwnListed f g active s = Unit {0}

-- how many keys a value has
abbrev pub keys_of : Value → ℕ
keys_of (index_value on keys depth) = operand_count keys
keys_of v = 0

module _ (f : Function) (listed : List ℕ) (z : Maker) (lefts : ℕ → List (Option Inner)) (before : ℕ) where
  -- what is written where so many constants are taken
  abbrev pub wording : ℕ → Value → Wording
  wording n v = word (place f.of listed f.short) n (lefts before) v

  abbrev pub operand_wording : ℕ → OperandValue → Wording
  operand_wording n o = word_operand (place f.of listed f.short) n (lefts before) o

  -- it needs no more levels than the expression has room for
  abbrev pub HasRoom : ℕ → Expression → Value → Type 0
  HasRoom n e v = IsInRoom (is_bare (place f.of listed f.short) n v) e (wording n v)

  -- as a list of arguments, and in the short form where it is asked for
  abbrev pub arguments_wording : ℕ → Values → (all : Bool) → ArgumentWording
  arguments_wording n values all = as_list (word_values (place f.of listed f.short) n (lefts before) values all)

  abbrev pub given_wording : ℕ → Values → (all : Bool) → ArgumentWording
  given_wording n values all =
      let at = place f.of listed f.short in
      as_arguments (f.short && not all) (word_short at n (lefts before) values) (word_values at n (lefts before) values all)

-- so many functions were made before it and behind it; `lefts` are those that are left where so many were made; `few` bounds the levels in every form, and `low` those in the forms of fewest levels, of what is well formed
module _ (f : Function) (g : Fn) (active : List Active) (listed : List ℕ) (z : Maker) (lefts : ℕ → List (Option Inner)) (before behind : ℕ) where
  -- of a value, where this is known of whether it can be written
  pub record RewrittenWith (Can : Type 0) (e : Expression) (v : Value) : Type 0 where
    pub can : Can
    pub leaves : left_by v (lefts before) ≡ lefts behind
    pub makes : behind ≡ made_behind (mentions_in e) before
    pub named : (n : ℕ) → is_name (wording f listed z lefts before n v).words ≡ is_name e
    pub folded : (n : ℕ) → fold (wording f listed z lefts before n v).words ≡ fold e
    pub several : (n : ℕ) → is_multiple (wording f listed z lefts before n v).words ≡ can_be_several v
    pub gives : is_multiple e ≡ true → can_be_several v ≡ true
    pub few : (n : ℕ) → (wording f listed z lefts before n v).levels ≤ 3 * depth_of_expression e + 202
    pub low : f.short ≡ true → formed_expression e ≡ true → (m : Maker) → IsAhead g active before (mentions_in e) m → IsMadeAs e m z → HasRoom f listed z lefts before (length m.constants) e v
    pub keys : keys_of v ≤ depth_of_expression e
    -- a local takes no constant
    pub as_local : (n r : ℕ) (m : Maker) → IsAhead g active before (mentions_in e) m → local_register (one_line_expression e) m ≡ Some r → taken_behind v n ≡ n
    pub to_reg : (r : ℕ) (m : Maker) → IsAhead g active before (mentions_in e) m → Final (length m.labels) ((code e).to_reg r m) z → (coded (wording f listed z lefts before (length m.constants) v).words).to_reg r m ≡ (code e).to_reg r m
    pub taken : (r : ℕ) (m : Maker) → IsAhead g active before (mentions_in e) m → Final (length m.labels) ((code e).to_reg r m) z → length ((code e).to_reg r m).constants ≡ taken_behind v (length m.constants)
    pub multi : is_multiple e ≡ true → (op : Op) (want : Want) (m : Maker) → IsAhead g active before (mentions_in e) m → Final (length m.labels) ((code e).multi op want m) z → (coded (wording f listed z lefts before (length m.constants) v).words).multi op want m ≡ (code e).multi op want m
    pub multi_taken : is_multiple e ≡ true → (op : Op) (want : Want) (m : Maker) → IsAhead g active before (mentions_in e) m → Final (length m.labels) ((code e).multi op want m) z → length ((code e).multi op want m).constants ≡ taken_behind v (length m.constants)

  -- of a value that can be written
  abbrev pub Rewritten : Expression → Value → Type 0
  Rewritten e v = RewrittenWith (can_write (place f.of listed f.short) (lefts before) v ≡ true) e v

  -- of a constant, or the value of an expression, as an operand
  pub record RewrittenOperand (e : Expression) (o : OperandValue) : Type 0 where
    pub can : can_write_operand (place f.of listed f.short) (lefts before) o ≡ true
    pub leaves : left_by_operand o (lefts before) ≡ lefts behind
    pub makes : behind ≡ made_behind (mentions_in e) before
    pub folded : (n : ℕ) → fold (operand_wording f listed z lefts before n o).words ≡ fold e
    pub few : (n : ℕ) → (operand_wording f listed z lefts before n o).levels ≤ 3 * depth_of_expression e + 203
    pub low : f.short ≡ true → formed_expression e ≡ true → (m : Maker) → IsAhead g active before (mentions_in e) m → Final (length m.labels) (rk (code e) m).after z → IsOperandInRoom e (operand_wording f listed z lefts before (length m.constants) o)
    pub as_rk : (m : Maker) → IsAhead g active before (mentions_in e) m → Final (length m.labels) (rk (code e) m).after z → rk (coded (operand_wording f listed z lefts before (length m.constants) o).words) m ≡ rk (code e) m
    pub taken : (m : Maker) → IsAhead g active before (mentions_in e) m → Final (length m.labels) (rk (code e) m).after z → length (rk (code e) m).after.constants ≡ taken_behind_operand o (length m.constants)

  -- of the operands of a `..`, up to the last one
  pub record RewrittenSpine (e : Expression) (values : Values) : Type 0 where
    pub can : can_write_values (place f.of listed f.short) (lefts before) values ≡ true
    pub leaves : left_by_values values (lefts before) ≡ lefts behind
    pub makes : behind ≡ made_behind (mentions_in e) before
    pub few : (n : ℕ) → (chain (word_each (place f.of listed f.short) n (lefts before) values)).levels ≤ 3 * depth_of_expression e + 203
    pub low : f.short ≡ true → formed_expression e ≡ true → right_binds 4 true e ≡ true → (m : Maker) → IsAhead g active before (mentions_in e) m → Final (length m.labels) ((code e).spine m) z → (chain (word_each (place f.of listed f.short) (length m.constants) (lefts before) values)).levels ≤ space_of_expression e
    pub spine : (m : Maker) → IsAhead g active before (mentions_in e) m → Final (length m.labels) ((code e).spine m) z → (coded (chain (word_each (place f.of listed f.short) (length m.constants) (lefts before) values)).words).spine m ≡ (code e).spine m
    pub taken : (m : Maker) → IsAhead g active before (mentions_in e) m → Final (length m.labels) ((code e).spine m) z → length ((code e).spine m).constants ≡ taken_behind_values values (length m.constants)

  -- of the arguments of a call
  pub record RewrittenGiven (args : Arguments) (deep : ℕ) (values : Values) (all : Bool) : Type 0 where
    pub can : can_write_values (place f.of listed f.short) (lefts before) values ≡ true
    pub leaves : left_by_values values (lefts before) ≡ lefts behind
    pub makes : behind ≡ made_behind (mentions_given args) before
    pub few : (n : ℕ) → (arguments_wording f listed z lefts before n values all).levels ≤ 3 * deep + 204
    pub low : f.short ≡ true → formed_arguments args ≡ true → deep ≤ 200 → (m : Maker) → IsAhead g active before (mentions_given args) m → Final (length m.labels) ((given (one_line_arguments args) 1).part m) z → (given_wording f listed z lefts before (length m.constants) values all).levels ≤ space_of_arguments args
    pub counts : (n : ℕ) → (given (arguments_wording f listed z lefts before n values all).words 1).count ≡ (given (one_line_arguments args) 1).count
    pub part : (m : Maker) → IsAhead g active before (mentions_given args) m → Final (length m.labels) ((given (one_line_arguments args) 1).part m) z → (given (arguments_wording f listed z lefts before (length m.constants) values all).words 1).part m ≡ (given (one_line_arguments args) 1).part m
    pub taken : (m : Maker) → IsAhead g active before (mentions_given args) m → Final (length m.labels) ((given (one_line_arguments args) 1).part m) z → length ((given (one_line_arguments args) 1).part m).constants ≡ taken_behind_values values (length m.constants)

  -- of an act: as a statement on one line it makes the same
  pub record RewrittenAct (s : Statement) (acted : Acted) : Type 0 where
    pub can : can_say (place f.of listed f.short) (lefts before) acted ≡ true
    pub leaves : left_by_act acted (lefts before) ≡ lefts behind
    pub makes : behind ≡ made_behind (mentions_of_statement s) before
    pub few : (n : ℕ) → act_levels (place f.of listed f.short) n (lefts before) acted ≤ 3 * lean_depth s + 204
    pub low : f.short ≡ true → formed_statement s ≡ true → (m : Maker) → IsAhead g active before (mentions_of_statement s) m → Final (length m.labels) (statement_made (one_line_statement s) 1 None m) z → act_levels (place f.of listed f.short) (length m.constants) (lefts before) acted ≤ suc (lean_room s)
    pub made : (m : Maker) → IsAhead g active before (mentions_of_statement s) m → Final (length m.labels) (statement_made (one_line_statement s) 1 None m) z → statement_made (act_statement (place f.of listed f.short) (length m.constants) (lefts before) acted) 1 None m ≡ statement_made (one_line_statement s) 1 None m
    pub taken : (m : Maker) → IsAhead g active before (mentions_of_statement s) m → Final (length m.labels) (statement_made (one_line_statement s) 1 None m) z → length (statement_made (one_line_statement s) 1 None m).constants ≡ taken_behind_act acted (length m.constants)
