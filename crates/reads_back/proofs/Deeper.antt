-- What is known of values may be less: how deep they are, and what holds of them.
use Rattle.std.proofs.Common.{ℕ, ◌≤◌, Bool, List, inl, inr, arith}
use Rattle.lua_tree.specs.Syntax.{Expression, nil_literal}
use Rattle.lua_tree.specs.WellFormed.{depth_of_expression}
use Rattle.opcode.specs.declared.op.Op.{Op}
use Rattle.core_expr.specs.Values.{Value, Values, OperandValue}
use Rattle.recover_expr.specs.Situation.{Function, Situation}
use Rattle.scheme.specs.Expressions.{Want}
use Rattle.scheme.specs.declared.making.Active.{Active}
use Rattle.scheme_stands.specs.Lists.{GivenRel}
use Rattle.scheme_stands.specs.Words.{Fn, Stretch}
use Rattle.reads_back.specs.Cores.{Counted, CountedValues}
use Rattle.reads_back.proofs.Comes.{Comes, Made, Moved, Arrives, Reads, OperandComes, ReadsOperand, SpineComes, ReadsSpine, CallComes, OpenComes, ReadsOpen, GivenComes, ReadsGiven}

-- an expression is a level deep at least
pub some_depth : (e : Expression) → 1 ≤ depth_of_expression e
some_depth (nil_literal line) = omega arith
some_depth e = omega arith

-- ---- one value

abbrev pub comes_so : {f : Function} {Is Less : Value → Type 0} {deep more : ℕ} {s : Situation} {first last : ℕ} → deep ≤ more → ((v : Value) → Is v → Less v) → Comes f Is deep s first last → Comes f Less more s first last
comes_so deeper less one = record {
  value = one.value;
  is = less one.value one.is;
  entry = one.entry;
  single = one.single;
  shallow = omega (arith, one.shallow, deeper);
  scope = one.scope;
  same = one.same;
  seen = one.seen;
  taken = one.taken;
  reaches = one.reaches;
}

pub made_so : {f : Function} {Is Less : Value → Type 0} {deep more : ℕ} {s : Situation} {r first last : ℕ} → deep ≤ more → ((v : Value) → Is v → Less v) → Made f Is deep s r first last → Made f Less more s r first last
made_so deeper less one = record {
  value = one.value;
  is = less one.value one.is;
  shallow = omega (arith, one.shallow, deeper);
  scope = one.scope;
  same = one.same;
  seen = one.seen;
  taken = one.taken;
  before = one.before;
  word = one.word;
  reaches = one.reaches;
  turn = one.turn;
  later = one.later;
  register = one.register;
  makes = one.makes;
}

moved_so : {f : Function} {Is Less : Value → Type 0} {deep more : ℕ} {s : Situation} {r first last : ℕ} → deep ≤ more → ((v : Value) → Is v → Less v) → Moved f Is deep s r first last → Moved f Less more s r first last
moved_so deeper less moved = record { mid = moved.mid; comes = comes_so deeper less moved.comes; no_nil = moved.no_nil; other = moved.other; later = moved.later; turn = moved.turn }

arrives_so : {f : Function} {Is Less : Value → Type 0} {deep more : ℕ} {s : Situation} {r first last : ℕ} → deep ≤ more → ((v : Value) → Is v → Less v) → Arrives f Is deep s r first last → Arrives f Less more s r first last
arrives_so deeper less (inl made) = inl (made_so deeper less made)
arrives_so deeper less (inr (inl (next, comes))) = inr (inl (next, comes_so deeper less comes))
arrives_so deeper less (inr (inr moved)) = inr (inr (moved_so deeper less moved))

-- ---- operands, the operands of a `..`, calls, and lists

pub operand_so : {f : Function} {Is Less : OperandValue → Type 0} {deep more : ℕ} {s : Situation} {free x free1 first last : ℕ} → deep ≤ more → ((o : OperandValue) → Is o → Less o) → OperandComes f Is deep s free x free1 first last →
    OperandComes f Less more s free x free1 first last
operand_so deeper less one = record {
  operand = one.operand;
  is = less one.operand one.is;
  shallow = omega (arith, one.shallow, deeper);
  scope = one.scope;
  same = one.same;
  seen = one.seen;
  more = one.more;
  counts = one.counts;
  taken = one.taken;
  reaches = one.reaches;
  popped = one.popped;
  kept = one.kept;
}

pub spine_so : {f : Function} {Are Less : Values → Type 0} {deep more : ℕ} {s : Situation} {free free1 first last : ℕ} → deep ≤ more → ((values : Values) → Are values → Less values) → SpineComes f Are deep s free free1 first last →
    SpineComes f Less more s free free1 first last
spine_so deeper less one = record {
  values = one.values;
  are = less one.values one.are;
  some = one.some;
  shallow = omega (arith, one.shallow, deeper);
  counts = one.counts;
  scope = one.scope;
  same = one.same;
  seen = one.seen;
  taken = one.taken;
  entries = one.entries;
  singles = one.singles;
  reaches = one.reaches;
}

pub call_so : {f : Function} {Is Less : Value → Type 0} {deep more : ℕ} {s : Situation} {op : Op} {free c first last : ℕ} → deep ≤ more → ((v : Value) → Is v → Less v) → CallComes f Is deep s op free c first last → CallComes f Less more s op free c first last
call_so deeper less one = record {
  value = one.value;
  is = less one.value one.is;
  shallow = omega (arith, one.shallow, deeper);
  scope = one.scope;
  same = one.same;
  seen = one.seen;
  taken = one.taken;
  more = one.more;
  b = one.b;
  pc = one.pc;
  next = one.next;
  reaches = one.reaches;
  turn = one.turn;
  makes = one.makes;
}

pub open_so : {f : Function} {Is Less : Value → Type 0} {deep more : ℕ} {s : Situation} {first last : ℕ} → deep ≤ more → ((v : Value) → Is v → Less v) → OpenComes f Is deep s first last → OpenComes f Less more s first last
open_so deeper less one = record {
  value = one.value;
  is = less one.value one.is;
  shallow = omega (arith, one.shallow, deeper);
  scope = one.scope;
  same = one.same;
  seen = one.seen;
  taken = one.taken;
  reaches = one.reaches;
}

pub given_so : {f : Function} {Are Less : Values → Bool → Type 0} {deep more : ℕ} {s : Situation} {count : Want} {first last : ℕ} → deep ≤ more → ((values : Values) (all : Bool) → Are values all → Less values all) → GivenComes f Are deep s count first last →
    GivenComes f Less more s count first last
given_so deeper less one = record {
  values = one.values;
  all = one.all;
  are = less one.values one.all one.are;
  shallow = omega (arith, one.shallow, deeper);
  scope = one.scope;
  same = one.same;
  seen = one.seen;
  taken = one.taken;
  more = one.more;
  reaches = one.reaches;
  listed = one.listed;
}

-- ---- where their words stand

module _ {f : Function} {g : Fn} {active : List Active} {listed : List ℕ} where
  pub reads_deeper : {Is : Counted Value} {deep more : ℕ} {to : (free r : ℕ) → Stretch} → deep ≤ more → Reads f g active listed Is deep to → Reads f g active listed Is more to
  reads_deeper deeper reads = record { forward = reads.forward; begins = reads.begins; arrives = λ free r p q s locals is goal quiet wanted at. arrives_so deeper (λ v is. is) (reads.arrives free r p q s locals is goal quiet wanted at) }

  pub operand_deeper : {Is : Counted OperandValue} {deep more : ℕ} {to : (free x free1 : ℕ) → Stretch} → deep ≤ more → ReadsOperand f g active listed Is deep to → ReadsOperand f g active listed Is more to
  operand_deeper deeper reads = record { forward = reads.forward; begins = reads.begins; comes = λ free x free1 p q s locals is quiet wanted at. operand_so deeper (λ o is. is) (reads.comes free x free1 p q s locals is quiet wanted at) }

  pub spine_deeper : {Are : Counted Values} {deep more : ℕ} {to : (free free1 : ℕ) → Stretch} → deep ≤ more → ReadsSpine f g active listed Are deep to → ReadsSpine f g active listed Are more to
  spine_deeper deeper reads = record { forward = reads.forward; begins = reads.begins; comes = λ free free1 p q s locals is quiet wanted at. spine_so deeper (λ values are. are) (reads.comes free free1 p q s locals is quiet wanted at) }

  pub open_deeper : {Is : Counted Value} {deep more : ℕ} {part : (free : ℕ) → Op → Want → Stretch} → deep ≤ more → ReadsOpen f g active listed Is deep part → ReadsOpen f g active listed Is more part
  open_deeper deeper reads = record { forward = reads.forward; begins = reads.begins; comes = λ free p q s locals is quiet at. open_so deeper (λ v is. is) (reads.comes free p q s locals is quiet at) }

  pub given_deeper : {Are : CountedValues} {deep more : ℕ} {given : GivenRel} → deep ≤ more → ReadsGiven f g active listed Are deep given → ReadsGiven f g active listed Are more given
  given_deeper deeper reads = record { forward = reads.forward; begins = reads.begins; comes = λ free p q s locals is quiet some at. given_so deeper (λ values all are. are) (reads.comes free p q s locals is quiet some at) }
