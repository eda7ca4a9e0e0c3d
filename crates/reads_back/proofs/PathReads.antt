-- A path of any length is read as one value with all its names as keys, which is no deeper than one with one key.
use Rattle.std.proofs.Common.{◌≡◌, ℕ, ◌*◌, ◌≤◌, max, nat_lt, true, List, Some, sym, ap, ◌∙◌, subst, arith, inl, inr}
use Rattle.lua_num.specs.Bytes.{Text}
use Rattle.lua_tree.specs.Syntax.{Expression, name_expression, field_expression}
use Rattle.core_expr.specs.Making.{depth_of, depth_of_operand, made_index, made_over}
use Rattle.core_expr.specs.Values.{Value, index_value, OperandValue, and_operand, no_operands, value_operand}
use Rattle.recover_expr.specs.Situation.{Function, Situation}
use Rattle.scheme.specs.Making.{Where, in_globals, in_register, in_upvalue}
use Rattle.scheme.specs.declared.making.Active.{Active}
use Rattle.scheme_stands.specs.Relation.{related}
use Rattle.scheme_stands.specs.Words.{Fn, Stretch}
use Rattle.reads_back.specs.Acted.{is_path}
use Rattle.reads_back.specs.Cores.{Counted, HasCore, IsCore, IsKey, IsVariable}
use Rattle.reads_back.proofs.Comes.{Arrives, Comes, Made, OperandComes, Reads, ReadsCore, ReadsOperand}
use Rattle.reads_back.proofs.Deeper.{reads_deeper, some_depth}
use Rattle.reads_back.proofs.NameReads.{AreListed, name_reads}
use Rattle.reads_back.proofs.OperandReads.{operand_reads, text_key_reads}
use Rattle.reads_back.proofs.Operators.{indexed_reads, text_takes}
use Rattle.reads_back.proofs.Tests.{first_of_both, given_is, not_so}
use Rattle.reads_back.proofs.WordsRead.{IsFunction}

-- ---- how deep a path is

-- no deeper than one with one key
abbrev IsShort : Value → Type 0
IsShort (index_value on keys depth) = depth ≤ 2
IsShort v = depth_of v ≤ 1

short_low : (v : Value) → IsShort v → depth_of v ≤ 2
short_low (index_value on keys depth) short = short
short_low v short = omega (arith, short)

key_low : (g : Fn) (text : Text) (before behind : ℕ) (key : OperandValue) → IsKey g text before behind key → depth_of_operand key ≤ 1
key_low g text before behind key (inl (same, (number, has, small, is))) = subst (λ (key : OperandValue). depth_of_operand key ≤ 1) (sym is) (omega arith)
key_low g text before behind key (inr (large, (v, (same, (number, has, is_constant)), is))) = subst (λ (key : OperandValue). depth_of_operand key ≤ 1) (sym (is ∙ ap value_operand is_constant)) (omega arith)

alone_short : (on : Value) (key : OperandValue) (v : Value) (deep : ℕ) → deep ≤ 1 → made_over deep (λ d. index_value on (and_operand key no_operands) d) ≡ Some v → IsShort v
alone_short on key v deep low made = subst IsShort (given_is (nat_lt deep 400) _ v made) (omega (arith, low))

index_short : (on : Value) (key : OperandValue) (v : Value) → IsShort on → depth_of_operand key ≤ 1 → made_index on key ≡ Some v → IsShort v
index_short (index_value on keys depth) key v short low made = subst IsShort (given_is (nat_lt (depth_of_operand key) 400) _ v made) (omega (arith, short, low))
index_short on key v short low made = alone_short on key v (max (depth_of on) (depth_of_operand key)) (omega (arith, short, low)) made

variable_short : (g : Fn) (text : Text) (w : Where) (v : Value) → IsVariable g text w v → IsShort v
variable_short g text (in_register r) v is = subst IsShort (sym is) (omega arith)
variable_short g text (in_upvalue slot) v is = subst IsShort (sym is) (omega arith)
variable_short g text in_globals v (number, has, is) = subst IsShort (sym is) (omega arith)

path_short : (g : Fn) (active : List Active) (e : Expression) (before behind : ℕ) (v : Value) → is_path e ≡ true → IsCore g active e before behind v → IsShort v
path_short g active (name_expression line text) before behind v path (same, (w, means, is)) = variable_short g text w v is
path_short g active (field_expression line on text) before behind v path (mid, (o, key, is, is_key, made)) =
    index_short o key v (path_short g active on before mid o (first_of_both _ _ path) is) (key_low g text mid behind key is_key) made
path_short g active e before behind v path is = not_so path

-- ---- what is read may be known to be less deep

abbrev comes_low : {f : Function} {Is : Value → Type 0} {deep less : ℕ} {s : Situation} {first last : ℕ} → ((v : Value) → Is v → depth_of v ≤ 2 * less) → Comes f Is deep s first last → Comes f Is less s first last
comes_low low one = record {
  value = one.value;
  is = one.is;
  entry = one.entry;
  single = one.single;
  shallow = low one.value one.is;
  scope = one.scope;
  same = one.same;
  seen = one.seen;
  taken = one.taken;
  reaches = one.reaches;
}

made_low : {f : Function} {Is : Value → Type 0} {deep less : ℕ} {s : Situation} {r first last : ℕ} → ((v : Value) → Is v → depth_of v ≤ 2 * less) → Made f Is deep s r first last → Made f Is less s r first last
made_low low one = record {
  value = one.value;
  is = one.is;
  shallow = low one.value one.is;
  scope = one.scope;
  same = one.same;
  seen = one.seen;
  taken = one.taken;
  before = one.before;
  word = one.word;
  reaches = one.reaches;
  turn = one.turn;
  later = one.later;
  register = one.register;
  makes = one.makes;
}

arrives_low : {f : Function} {Is : Value → Type 0} {deep less : ℕ} {s : Situation} {r first last : ℕ} → ((v : Value) → Is v → depth_of v ≤ 2 * less) → Arrives f Is deep s r first last → Arrives f Is less s r first last
arrives_low low (inl made) = inl (made_low low made)
arrives_low low (inr (inl (next, comes))) = inr (inl (next, comes_low low comes))
arrives_low low (inr (inr moved)) = inr (inr (record { mid = moved.mid; comes = comes_low low moved.comes; no_nil = moved.no_nil; other = moved.other; later = moved.later; turn = moved.turn }))

operand_comes_low : {f : Function} {Is : OperandValue → Type 0} {deep less : ℕ} {s : Situation} {free x free1 first last : ℕ} → ((o : OperandValue) → Is o → depth_of_operand o ≤ 2 * less) →
    OperandComes f Is deep s free x free1 first last → OperandComes f Is less s free x free1 first last
operand_comes_low low one = record {
  operand = one.operand;
  is = one.is;
  shallow = low one.operand one.is;
  scope = one.scope;
  same = one.same;
  seen = one.seen;
  more = one.more;
  counts = one.counts;
  taken = one.taken;
  reaches = one.reaches;
  popped = one.popped;
  kept = one.kept;
}

module _ {f : Function} {g : Fn} {active : List Active} {listed : List ℕ} where
  reads_low : {Is : Counted Value} {deep less : ℕ} {to : (free r : ℕ) → Stretch} → ((before behind : ℕ) (v : Value) → Is before behind v → depth_of v ≤ 2 * less) → Reads f g active listed Is deep to → Reads f g active listed Is less to
  reads_low low reads = record {
    forward = reads.forward;
    begins = reads.begins;
    arrives = λ free r p q s locals is goal quiet wanted at. arrives_low (low p.functions q.functions) (reads.arrives free r p q s locals is goal quiet wanted at);
  }

  operand_low : {Is : Counted OperandValue} {deep less : ℕ} {to : (free x free1 : ℕ) → Stretch} → ((before behind : ℕ) (o : OperandValue) → Is before behind o → depth_of_operand o ≤ 2 * less) →
      ReadsOperand f g active listed Is deep to → ReadsOperand f g active listed Is less to
  operand_low low reads = record {
    forward = reads.forward;
    begins = reads.begins;
    comes = λ free x free1 p q s locals is quiet wanted at. operand_comes_low (low p.functions q.functions) (reads.comes free x free1 p q s locals is quiet wanted at);
  }

-- ---- it is read

module _ {f : Function} {g : Fn} {active : List Active} {listed : List ℕ} (is_function : IsFunction f g) (all : AreListed f g active listed) where
  low_path_reads : (e : Expression) → HasCore e → is_path e ≡ true → Reads f g active listed (IsCore g active e) 1 ((related g e).to_reg active)
  low_path_reads (name_expression line text) has path = name_reads is_function all text has
  low_path_reads (field_expression line on text) has path =
      let on_path = first_of_both _ _ path in
      let first : ReadsCore f g active listed on = reads_deeper (some_depth on) (low_path_reads on has on_path) in
      let operand = operand_low {less = 1}
      (λ before behind o is. subst (λ (o : OperandValue). depth_of_operand o ≤ 2) (sym is.2) (short_low is.0 (path_short g active on before behind is.0 on_path is.1)))
      (operand_reads is_function all on first) in
      reads_low (λ before behind v is. short_low v (path_short g active (field_expression line on text) before behind v path is)) (indexed_reads (related g on) (text_takes g text) is_function (omega arith) operand (text_key_reads is_function text))
  low_path_reads e has path = not_so path

  pub path_reads : (e : Expression) → HasCore e → is_path e ≡ true → ReadsCore f g active listed e
  path_reads e has path = reads_deeper (some_depth e) (low_path_reads e has path)
