-- What is known behind the words of a value, and before the last of them.
use Rattle.std.proofs.Common.{◌≡◌, ◌≢◌, ℕ, suc, ◌*◌, ◌+◌, ◌<◌, ◌≤◌, ◌⊎◌, Bool, true, false, ◌||◌, ◌&&◌, List, [], ◌∷◌, ◌++◌, length, None, Some, refl, sym, ◌∙◌, inl, inr}
use Rattle.lua_tree.specs.Syntax.{Expression}
use Rattle.lua_tree.specs.WellFormed.{depth_of_expression}
use Rattle.opcode.specs.declared.op.Op.{Op}
use Rattle.opcode.specs.declared.word.Instr.{Instr}
use Rattle.core_expr.specs.Counting.{taken_behind, taken_behind_values, taken_behind_operand}
use Rattle.core_expr.specs.Making.{depth_of, depth_of_operand, deepest}
use Rattle.core_expr.specs.Values.{Value, Values, OperandValue}
use Rattle.recover_expr.specs.Drafts.{makes}
use Rattle.recover_expr.specs.Effects.{makes_value, reads_from}
use Rattle.recover_expr.specs.Entries.{Entries, EntryValue, value_entry, open_entry, single_of, singles_of, take_list, is_temporary}
use Rattle.recover_expr.specs.Items.{all_stay, is_read_behind, is_so, makes_above, stores_alone}
use Rattle.recover_expr.specs.Lists.{is_nil, value_count}
use Rattle.recover_expr.specs.Locals.{Scope, starting}
use Rattle.recover_expr.specs.Reading.{read_word, turn_at, turn_of}
use Rattle.recover_expr.specs.Situation.{Function, Situation, instr_at, pop_operand, see, see_operand}
use Rattle.recover_expr.specs.Words.{made_call_of}
use Rattle.recover_expr.specs.declared.function.Word.{Word}
use Rattle.scheme.specs.Expressions.{Want, count_field, is_multiple}
use Rattle.scheme.specs.declared.making.Piece.{Piece}
use Rattle.scheme.specs.declared.making.Active.{Active}
use Rattle.scheme_stands.specs.Words.{Fn, Spot, Stretch, instr_by}
use Rattle.scheme_stands.specs.Lists.{GivenRel}
use Rattle.scheme_stands.specs.Relation.{related}
use Rattle.reads_back.specs.Cores.{Counted, CountedItems, CountedValues, IsCore, IsTable}
use Rattle.reads_back.proofs.BehindWords.{HasLocals, SameLocals, behind_words}
use Rattle.reads_back.proofs.Reaches.{Reaches, here, word, reaches_then}
use Rattle.reads_back.proofs.ValueWords.{next_free, makes_turn}
use Rattle.reads_back.proofs.WordsRead.{IsQuiet, word_of}

-- the word of a call
abbrev pub IsCallWord : Op → Type 0
IsCallWord op = (op ≡ Op.Call) ⊎ (op ≡ Op.TailCall)

-- ---- the next words

-- the word at a pc makes a value for this register, or for the second one above it: the name of a method
pub record Begins (f : Function) (from pc : ℕ) : Type 0 where
  pub instr : Instr
  pub there : instr_at f pc ≡ Some instr
  pub makes : makes_value instr.op ≡ true
  pub register : (instr.a ≡ from) ⊎ (instr.a ≡ from + 2)

-- words of an operand: there are none, and no register is taken, or the first makes a value
abbrev pub BeginsOrNone : Function → (free free1 first last : ℕ) → Type 0
BeginsOrNone f free free1 first last = ((first ≡ last) × (free1 ≡ free)) ⊎ Begins f free first

-- a word at a pc wants what stands in the lowest register of the statement, where no local is over: it reads a register of the statement, or makes a value for a higher one, or it is a store behind which the next word reads one
abbrev pub wants_lowest : Function → Scope → (base pc : ℕ) → Instr → Bool
wants_lowest f scope base pc i = all_stay f scope pc && (reads_from i base || (makes_above f base pc i || (stores_alone i base && is_read_behind f base pc i)))

-- what comes to the next free register is not the lowest of the statement; or a local starts behind it; or the word behind it wants it
abbrev pub IsWanted : Function → Situation → (last : ℕ) → Type 0
IsWanted f s last = (0 < length s.entries) ⊎ (0 < starting f.of.locals last s.scope) ⊎ (is_so (wants_lowest f s.scope s.base last) (instr_at f last) ≡ true)

-- a statement is over where a pc is reached: no local starts there, and the words from there on want nothing of it
pub record IsOver (f : Function) (scope : Scope) (base pc : ℕ) : Type 0 where
  pub starts : starting f.of.locals pc scope ≡ 0
  pub unwanted : is_so (wants_lowest f scope base pc) (instr_at f pc) ≡ false

-- ---- one value

-- A value comes to the next free register, or a constructor that is this value by now.
pub record Comes (f : Function) (Is : Value → Type 0) (deep : ℕ) (s : Situation) (first last : ℕ) : Type 0 where
  pub value : Value
  pub is : Is value
  pub entry : EntryValue
  pub single : single_of entry ≡ Some value
  pub shallow : depth_of value ≤ 2 * deep
  pub scope : Scope
  pub same : SameLocals s.scope scope
  pub seen : ℕ
  pub taken : taken_behind value s.seen ≡ seen
  pub reaches : Reaches f first s last (behind_words scope seen (entry ∷ []) s)

-- The last word makes the value, for the register r; the words before it come to this situation, of which it takes what they have made.
pub record Made (f : Function) (Is : Value → Type 0) (deep : ℕ) (s : Situation) (r first last : ℕ) : Type 0 where
  pub value : Value
  pub is : Is value
  pub shallow : depth_of value ≤ 2 * deep
  pub scope : Scope
  pub same : SameLocals s.scope scope
  pub seen : ℕ
  pub taken : taken_behind value s.seen ≡ seen
  pub before : Situation
  pub word : Word
  pub reaches : Reaches f first s word.pc before
  pub turn : turn_at f word.pc before ≡ turn_of f before word
  pub later : word.pc < last
  pub register : word.instr.a ≡ r
  pub makes : read_word f word (see word.instr before) ≡ Some (makes value last, record s { scope = scope; seen = seen })

-- It comes to the next free register, and a MOVE behind it takes it to r, which is another.
pub record Moved (f : Function) (Is : Value → Type 0) (deep : ℕ) (s : Situation) (r first last : ℕ) : Type 0 where
  pub mid : ℕ
  pub comes : Comes f Is deep s first mid
  pub no_nil : is_nil comes.value ≡ false
  pub other : next_free s ≢ r
  pub later : mid < last
  pub turn : turn_at f mid (behind_words comes.scope comes.seen (comes.entry ∷ []) s) ≡ turn_of f (behind_words comes.scope comes.seen (comes.entry ∷ []) s) (record { pc = mid; next = last; instr = instr_by mid (Piece.Abc Op.Move r (next_free s) 0) })

-- the value for a register: its last word makes it there, or it comes to the next free register, and stays there or moves on
abbrev pub Arrives : Function → (Value → Type 0) → (deep : ℕ) → Situation → (r first last : ℕ) → Type 0
Arrives f Is deep s r first last = Made f Is deep s r first last ⊎ ((r ≡ next_free s) × Comes f Is deep s first last) ⊎ Moved f Is deep s r first last

made_comes : {f : Function} {Is : Value → Type 0} {deep r first last : ℕ} {s : Situation} → Made f Is deep s r first last → r ≡ next_free s → Comes f Is deep s first last
made_comes {f} {s = s} made next = record {
  value = made.value;
  is = made.is;
  entry = value_entry made.value;
  single = refl;
  shallow = made.shallow;
  scope = made.scope;
  same = made.same;
  seen = made.seen;
  taken = made.taken;
  reaches =
      let behind = record s { scope = made.scope; seen = made.seen } in
      let turn = made.turn ∙ makes_turn f made.word made.value _ made.before behind made.makes (made.register ∙ next) in
      reaches_then made.reaches (word made.later turn here);
}

arrives_next : {f : Function} {Is : Value → Type 0} {deep r first last : ℕ} {s : Situation} → Arrives f Is deep s r first last → r ≡ next_free s → Comes f Is deep s first last
arrives_next (inl made) next = made_comes made next
arrives_next (inr (inl (next, comes))) same = comes
arrives_next (inr (inr moved)) next = absurd (moved.other (sym next))

-- a value goes to the next free register, or straight into a local
abbrev pub IsGoal : Situation → (r : ℕ) → Type 0
IsGoal s r = (r ≡ next_free s) ⊎ (r < s.base)

-- where its words stand
pub record Reads (f : Function) (g : Fn) (active : List Active) (listed : List ℕ) (Is : Counted Value) (deep : ℕ) (to : (free r : ℕ) → Stretch) : Type 0 where
  pub forward : (free r : ℕ) (p q : Spot) → to free r p q → p.pc ≤ q.pc
  pub begins : (free : ℕ) (p q : Spot) → q.pc ≤ f.last → to free free p q → Begins f free p.pc
  pub arrives : (free r : ℕ) (p q : Spot) (s : Situation) → HasLocals active listed s → free ≡ next_free s → IsGoal s r → IsQuiet f s.scope p.pc q.pc → (r ≡ next_free s → IsWanted f s q.pc) → to free r p q → Arrives f (Is p.functions q.functions) deep s r p.pc q.pc

-- the words of an expression are read as its value
abbrev pub ReadsCore : Function → Fn → List Active → (listed : List ℕ) → Expression → Type 0
ReadsCore f g active listed e = Reads f g active listed (IsCore g active e) (depth_of_expression e) ((related g e).to_reg active)

pub comes_next : {f : Function} {g : Fn} {active : List Active} {listed : List ℕ} {Is : Counted Value} {deep : ℕ} {to : (free r : ℕ) → Stretch} → Reads f g active listed Is deep to →
    (free : ℕ) (p q : Spot) (s : Situation) → HasLocals active listed s → free ≡ next_free s → IsQuiet f s.scope p.pc q.pc → IsWanted f s q.pc → to free free p q → Comes f (Is p.functions q.functions) deep s p.pc q.pc
comes_next reads free p q s locals is quiet wanted at = arrives_next (reads.arrives free free p q s locals is (inl is) quiet (λ next. wanted) at) is

-- ---- operands

-- Words before an operand x of a word: they come to these entries more, which that word takes off again for the operand; it may name a constant itself.
pub record OperandComes (f : Function) (Is : OperandValue → Type 0) (deep : ℕ) (s : Situation) (free x free1 first last : ℕ) : Type 0 where
  pub operand : OperandValue
  pub is : Is operand
  pub shallow : depth_of_operand operand ≤ 2 * deep
  pub scope : Scope
  pub same : SameLocals s.scope scope
  pub seen : ℕ
  pub more : Entries
  pub counts : free1 ≡ free + length more
  pub taken : (t : Situation) → t.seen ≡ seen → (see_operand x t).seen ≡ taken_behind_operand operand s.seen
  pub reaches : Reaches f first s last (behind_words scope seen more s)
  pub popped : (t : Situation) (before : Entries) → t.base ≡ s.base → t.scope.active ≡ s.scope.active → t.entries ≡ before ++ more → t.base + length before ≡ free → pop_operand f x t ≡ Some (operand, record t { entries = before })
  pub kept : ((more ≡ []) × (is_temporary s.base x ≡ false)) ⊎ ((entry : EntryValue) × (v : Value) × (more ≡ entry ∷ []) × (single_of entry ≡ Some v) × (x ≡ free))

-- an operand that comes to the next free register is wanted there
abbrev pub IsOperandWanted : Function → Situation → (free x free1 last : ℕ) → Type 0
IsOperandWanted f s free x free1 last = x ≡ free → free1 ≡ free + 1 → IsWanted f s last

-- where its words stand, if there are any
pub record ReadsOperand (f : Function) (g : Fn) (active : List Active) (listed : List ℕ) (Is : Counted OperandValue) (deep : ℕ) (to : (free x free1 : ℕ) → Stretch) : Type 0 where
  pub forward : (free x free1 : ℕ) (p q : Spot) → to free x free1 p q → p.pc ≤ q.pc
  pub begins : (free x free1 : ℕ) (p q : Spot) → q.pc ≤ f.last → to free x free1 p q → BeginsOrNone f free free1 p.pc q.pc
  pub comes : (free x free1 : ℕ) (p q : Spot) (s : Situation) → HasLocals active listed s → free ≡ next_free s → IsQuiet f s.scope p.pc q.pc → IsOperandWanted f s free x free1 q.pc → to free x free1 p q →
      OperandComes f (Is p.functions q.functions) deep s free x free1 p.pc q.pc

-- ---- the operands of a `..`

-- the entries of these values
abbrev pub AreEntries : Entries → Values → Type 0
AreEntries entries values = singles_of entries ≡ Some values

-- Values come to the next registers, up to one.
pub record SpineComes (f : Function) (Are : Values → Type 0) (deep : ℕ) (s : Situation) (free free1 first last : ℕ) : Type 0 where
  pub values : Values
  pub are : Are values
  pub some : 0 < value_count values
  pub shallow : deepest values ≤ 2 * deep
  pub counts : free1 ≡ free + value_count values
  pub scope : Scope
  pub same : SameLocals s.scope scope
  pub seen : ℕ
  pub taken : taken_behind_values values s.seen ≡ seen
  pub entries : Entries
  pub singles : AreEntries entries values
  pub reaches : Reaches f first s last (behind_words scope seen entries s)

pub record ReadsSpine (f : Function) (g : Fn) (active : List Active) (listed : List ℕ) (Are : Counted Values) (deep : ℕ) (to : (free free1 : ℕ) → Stretch) : Type 0 where
  pub forward : (free free1 : ℕ) (p q : Spot) → to free free1 p q → p.pc ≤ q.pc
  pub begins : (free free1 : ℕ) (p q : Spot) → q.pc ≤ f.last → to free free1 p q → Begins f free p.pc
  pub comes : (free free1 : ℕ) (p q : Spot) (s : Situation) → HasLocals active listed s → free ≡ next_free s → IsQuiet f s.scope p.pc q.pc → IsWanted f s q.pc → to free free1 p q → SpineComes f (Are p.functions q.functions) deep s free free1 p.pc q.pc

-- ---- calls, and values of which all are wanted

-- Words up to that of a call, which makes this call.
pub record CallComes (f : Function) (Is : Value → Type 0) (deep : ℕ) (s : Situation) (op : Op) (free c first last : ℕ) : Type 0 where
  pub value : Value
  pub is : Is value
  pub shallow : depth_of value ≤ 2 * deep
  pub scope : Scope
  pub same : SameLocals s.scope scope
  pub seen : ℕ
  pub taken : taken_behind value s.seen ≡ seen
  pub more : Entries
  pub b : ℕ
  pub pc : ℕ
  pub next : last ≡ suc pc
  pub reaches : Reaches f first s pc (behind_words scope seen more s)
  pub turn : turn_at f pc (behind_words scope seen more s) ≡ turn_of f (behind_words scope seen more s) (word_of pc (Piece.Abc op free b c))
  pub makes : made_call_of (word_of pc (Piece.Abc op free b c)) (behind_words scope seen more s) ≡ Some (value, record s { scope = scope; seen = seen })

-- of a call by this word, where so many values are wanted
pub record ReadsCall (f : Function) (g : Fn) (active : List Active) (listed : List ℕ) (Is : Counted Value) (deep : ℕ) (part : (free : ℕ) → Op → Want → Stretch) : Type 0 where
  pub forward : (free : ℕ) (op : Op) (want : Want) (p q : Spot) → part free op want p q → p.pc ≤ q.pc
  pub begins : (free : ℕ) (op : Op) (want : Want) (p q : Spot) → q.pc ≤ f.last → part free op want p q → Begins f free p.pc
  pub comes : (free : ℕ) (op : Op) (want : Want) (p q : Spot) (s : Situation) → HasLocals active listed s → free ≡ next_free s → IsQuiet f s.scope p.pc q.pc → IsCallWord op → part free op want p q →
      CallComes f (Is p.functions q.functions) deep s op free (count_field 1 want) p.pc q.pc

-- All values of a call or `...` come to the registers from the next free one on.
pub record OpenComes (f : Function) (Is : Value → Type 0) (deep : ℕ) (s : Situation) (first last : ℕ) : Type 0 where
  pub value : Value
  pub is : Is value
  pub shallow : depth_of value ≤ 2 * deep
  pub scope : Scope
  pub same : SameLocals s.scope scope
  pub seen : ℕ
  pub taken : taken_behind value s.seen ≡ seen
  pub reaches : Reaches f first s last (behind_words scope seen (open_entry value ∷ []) s)

pub record ReadsOpen (f : Function) (g : Fn) (active : List Active) (listed : List ℕ) (Is : Counted Value) (deep : ℕ) (part : (free : ℕ) → Op → Want → Stretch) : Type 0 where
  pub forward : (free : ℕ) (op : Op) (want : Want) (p q : Spot) → part free op want p q → p.pc ≤ q.pc
  pub begins : (free : ℕ) (p q : Spot) → q.pc ≤ f.last → part free Op.Call None p q → Begins f free p.pc
  pub comes : (free : ℕ) (p q : Spot) (s : Situation) → HasLocals active listed s → free ≡ next_free s → IsQuiet f s.scope p.pc q.pc → part free Op.Call None p q → OpenComes f (Is p.functions q.functions) deep s p.pc q.pc

-- it is read for one value, and for all its values where it can give several
pub record IsElementRead (f : Function) (g : Fn) (active : List Active) (listed : List ℕ) (deep : ℕ) (e : Expression) : Type 0 where
  pub one : Reads f g active listed (IsCore g active e) deep ((related g e).to_reg active)
  pub all : is_multiple e ≡ true → ReadsOpen f g active listed (IsCore g active e) deep ((related g e).multi active)

-- ---- constructors

-- A constructor comes to the next free register. It is lower than other values, so that a call of it alone is as deep as the tree tells, where it is no level of its own.
pub record ReadsTable (f : Function) (g : Fn) (active : List Active) (listed : List ℕ) (Are : CountedItems) (deep : ℕ) (part : (free : ℕ) → Stretch) : Type 0 where
  pub forward : (free : ℕ) (p q : Spot) → part free p q → p.pc ≤ q.pc
  pub begins : (free : ℕ) (p q : Spot) → q.pc ≤ f.last → part free p q → Begins f free p.pc
  pub comes : (free : ℕ) (p q : Spot) (s : Situation) → HasLocals active listed s → free ≡ next_free s → IsQuiet f s.scope p.pc q.pc → IsWanted f s q.pc → part free p q → (table : Comes f (IsTable (Are p.functions q.functions)) deep s p.pc q.pc) × (depth_of table.value < 2 * deep)

-- ---- arguments

-- Arguments come to these entries more, behind the function that is called, which the word of the call takes off again: `count` says how many they are.
pub record GivenComes (f : Function) (Are : Values → Bool → Type 0) (deep : ℕ) (s : Situation) (count : Want) (first last : ℕ) : Type 0 where
  pub values : Values
  pub all : Bool
  pub are : Are values all
  pub shallow : deepest values ≤ suc (2 * deep)
  pub scope : Scope
  pub same : SameLocals s.scope scope
  pub seen : ℕ
  pub taken : taken_behind_values values s.seen ≡ seen
  pub more : Entries
  pub reaches : Reaches f first s last (behind_words scope seen more s)
  pub listed : (before : Entries) (place field : ℕ) → place ≡ length before → field ≡ count_field 1 count → take_list place field (before ++ more) ≡ Some (record { values = values; all = all }, before)

pub record ReadsGiven (f : Function) (g : Fn) (active : List Active) (listed : List ℕ) (Are : CountedValues) (deep : ℕ) (given : GivenRel) : Type 0 where
  pub forward : (free : ℕ) (p q : Spot) → given.part active free p q → p.pc ≤ q.pc
  pub begins : (free : ℕ) (p q : Spot) → q.pc ≤ f.last → given.part active free p q → (p.pc ≡ q.pc) ⊎ Begins f free p.pc
  pub comes : (free : ℕ) (p q : Spot) (s : Situation) → HasLocals active listed s → free ≡ next_free s → IsQuiet f s.scope p.pc q.pc → 0 < length s.entries → given.part active free p q → GivenComes f (Are p.functions q.functions) deep s given.count p.pc q.pc

-- what is known behind one value
abbrev pub behind_one : {f : Function} {Is : Value → Type 0} {deep first last : ℕ} {s : Situation} → Comes f Is deep s first last → Situation
behind_one {s = s} one = behind_words one.scope one.seen (one.entry ∷ []) s
