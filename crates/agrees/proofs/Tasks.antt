-- What is proved of every task: the statement of the induction, by kinds of tasks.
use Rattle.scheme.specs.Expressions as scheme
use Rattle.proto.specs.declared.parts.Constant.{Constant}
use Rattle.std.proofs.Common.{◌≡◌, ◌≤◌, ◌<◌, ℕ, suc, ◌+◌, Bool, true, false, ◌⊎◌, List, [], ◌∷◌, ◌++◌, length, Some, ℤ, ◌-◌}
use Rattle.std.specs.Prelude.{slice_get}
use Rattle.lua_tree.specs.Syntax.{Statements, Statement, Expression, call_expression, method_call, Fields}
use Rattle.lua_tree.specs.WellFormed.{is_call}
use Rattle.lua_num.specs.Bytes.{Text}
use Rattle.opcode.specs.declared.op.Op.{Op}
use Rattle.proto.specs.Chunk.{own}
use Rattle.scheme.specs.Making.{Ahead}
use Rattle.scheme.specs.Expressions.{Want, literal}
use Rattle.scheme.specs.declared.making.Active.{Active}
use Rattle.scheme.specs.declared.making.Local.{Local}
use Rattle.scheme.specs.Statements.{numeric_names, generic_names}
use Rattle.scheme.specs.declared.making.Piece.{Piece}
use Rattle.lua_model.specs.Datum.{Datum, number, first_of, adjusted}
use Rattle.lua_model.specs.Store.{Outside}
use Rattle.lua_model.specs.Endings.{IsPrefix}
use Rattle.lua_model.specs.Operators.{protection_limit, callee, goes_on, size}
use Rattle.source_meaning.specs.Meaning.{tail_depth, own_local, evaluate, program}
use Rattle.source_meaning.specs.State.{State as SourceState, Place as Scope, Flow, cell, Target}
use Rattle.source_meaning.specs.Tasks.{block, statement, expression, local_taken, called, item, called_item, named_item, keyed_item, test, count_test, iterator_test, while_turn, repeat_turn, called_item, repeat_turn, count_turn, iterator_turn, call, protected_call, refused_call, Task, text_item, target, Gives, table_item}
use Rattle.source_meaning.specs.Programs.{Prog, World, Answer, spend, run}
use Rattle.rules.specs.State.{State, Landing, value_of}
use Rattle.rules.specs.Calls.{push, land, call_within}
use Rattle.rules.specs.Run.{step, after}
use Rattle.scheme_stands.specs.Words.{Spot, WordAt, ConstantWord}
use Rattle.scheme_stands.specs.Expressions.{several, form_of, RkTextAt, RkAt}
use Rattle.scheme_stands.specs.Lists.{KeyedAt, TableAt}
use Rattle.scheme_stands.specs.Functions.{Declared, Activated}
use Rattle.scheme_stands.specs.Statements.{WhileAt, RepeatAt, TurnAt}
use Rattle.scheme_stands.specs.Relation.{related, StatementsAt, StatementAt, ItemsAt}
use Rattle.agrees.proofs.Posts.{FlowPost, CalledPost, ListPost, AtPost, JumpPost, Faults, fail_of, Grown, NextPost, ValuePost, TailPost, Around, TargetPost, JoinPost, Backs}
use Rattle.agrees.proofs.Accounts.{Told, Earns, Place, Now, Soon, Post, Self, Asks, Goes, Stays}
use Rattle.agrees.proofs.Picture.{code_of, Setup, Waiter, Ghost, Site, raised, at, scope_of, waits, Ok}
use Rattle.agrees.proofs.Sizes.{call_cost, size_e, inner_args, size_b, inner_statement, inner_fields, inner}

-- ## the statements of the induction. Each is of a task as `self` answers it, or of the program that it is

abbrev pub Way : Type 0 → Type 1
Way A = SourceState → Outside → Site → Place → Post A → Type 0

-- a task that is asked
abbrev pub Asked : {A : Type 0} → Setup → ℕ → (Site → SourceState → World → Answer A) → Way A
Asked z S ans s o x p P = Asks z.bound 0 S o p (fail_of z x) P (ans x s)

-- a task that is asked, and pays for so many words to come
abbrev pub AskedEarning : {A : Type 0} → Setup → ℕ → ℕ → (Site → SourceState → World → Answer A) → Way A
AskedEarning z e S ans s o x p P = Earns z.bound e S o p (fail_of z x) P (ans x s)

-- what a task does, with so many words of its own
abbrev pub Does : {A : Type 0} → Setup → Self → ℕ → ℕ → (Site → SourceState → Prog A) → Way A
Does z self j S prog s o x p P = Goes z.bound self (fail_of z x) j S o p P (prog x s)

abbrev pub scope : Site → Scope
scope x = scope_of x.a x.below

-- the registers from free on are those from the k-th above the locals on
pub record Above (x : Site) (k free : ℕ) : Type 0 where
  pub is : free ≡ length x.a.slots + k
  pub within : free ≤ (own x.a.chunk).registers

-- an expression that cannot give several values gives one
abbrev pub Single : Expression → List Datum → Type 0
Single e vs = several (form_of e) ≡ false → vs ≡ first_of vs ∷ []

abbrev pub ExprBy : Setup → Expression → Way (List Datum) → Type 0
ExprBy z e way =
    (s : SourceState) (o : Outside) (g : Ghost) (x : Site) (k free r : ℕ) (p q : Spot) →
    Ok z s g x → Above x k free → size_e e ≤ z.bound → r < (own x.a.chunk).registers → (related (code_of x.a) e).to_reg x.a.active free r p q →
    way s o x (Now (at s o g x p.pc)) (λ vs s1 o1 p1. ValuePost z x k r q.pc vs s1 o1 p1 × Single e vs)

-- `ExprBy` without how many values there are
abbrev pub ValueBy : Setup → Expression → Way (List Datum) → Type 0
ValueBy z e way =
    (s : SourceState) (o : Outside) (g : Ghost) (x : Site) (k free r : ℕ) (p q : Spot) →
    Ok z s g x → Above x k free → size_e e ≤ z.bound → r < (own x.a.chunk).registers → (related (code_of x.a) e).to_reg x.a.active free r p q →
    way s o x (Now (at s o g x p.pc)) (ValuePost z x k r q.pc)

-- an expression as its program, with so many words of its own
abbrev pub Evaluates : Setup → Self → ℕ → Expression → Type 0
Evaluates z self j e = ValueBy z e (Does z self j (inner e) (λ x s. evaluate e (scope x) s))

abbrev pub CondBy : Setup → Expression → Way (List Datum) → Type 0
CondBy z e way =
    (t : Bool) (s : SourceState) (o : Outside) (g : Ghost) (x : Site) (k free l : ℕ) (p q : Spot) →
    Ok z s g x → Above x k free → size_e e ≤ z.bound → (related (code_of x.a) e).jump_if x.a.active free t l p q →
    way s o x (Now (at s o g x p.pc)) (λ vs. JumpPost z x k t l q.pc (first_of vs))

-- the test of a loop
abbrev pub CondTestBy : Setup → Expression → Way Bool → Type 0
CondTestBy z e way =
    (t : Bool) (s : SourceState) (o : Outside) (g : Ghost) (x : Site) (k free l : ℕ) (p q : Spot) →
    Ok z s g x → Above x k free → size_e e ≤ z.bound → (related (code_of x.a) e).jump_if x.a.active free t l p q →
    way s o x (Now (at s o g x p.pc)) (λ b. JumpPost z x k t l q.pc (Datum.boolean b))

-- several values by CALL
abbrev pub MultiBy : Setup → Expression → Way (List Datum) → Type 0
MultiBy z e way =
    (s : SourceState) (o : Outside) (g : Ghost) (x : Site) (want : Want) (k free : ℕ) (p q : Spot) →
    Ok z s g x → Above x k free → size_e e ≤ z.bound → (related (code_of x.a) e).multi x.a.active free Op.Call want p q →
    way s o x (Now (at s o g x p.pc)) (ListPost z x want k free q.pc)

abbrev pub BlockBy : Setup → Statements → Way Flow → Type 0
BlockBy z b way =
    (s : SourceState) (o : Outside) (g : Ghost) (x : Site) (around : Around) (active1 : List Active) (p q : Spot) →
    Ok z s g x → Grown around.exit x.a → size_b b ≤ z.bound → StatementsAt (code_of x.a) around.loop b x.a.active active1 p q →
    way s o x (Now (at s o g x p.pc)) (FlowPost z x around active1 q.pc)

abbrev pub StatementBy : Setup → Statement → Way Flow → Type 0
StatementBy z c way =
    (s : SourceState) (o : Outside) (g : Ghost) (x : Site) (around : Around) (active1 : List Active) (p q : Spot) →
    Ok z s g x → Grown around.exit x.a → suc (inner_statement c) ≤ z.bound → StatementAt (code_of x.a) around.loop c x.a.active active1 p q →
    way s o x (Now (at s o g x p.pc)) (FlowPost z x around active1 q.pc)

-- a value that is a table, or among some
abbrev pub IsTable : Datum → Type 0
IsTable v = (t : ℕ) × (v ≡ Datum.table t)

abbrev pub HasTable : List Datum → Type 0
HasTable [] = ⊥
HasTable (v ∷ vs) = IsTable v ⊎ HasTable vs

-- nothing has happened in the step yet, or a table is called or handed, so that no host is asked
abbrev pub IsQuiet : State → Outside → Datum → List Datum → Type 0
IsQuiet m o f args = (m.outside ≡ o) ⊎ HasTable (f ∷ args)

-- a step that calls f, directly in p protected calls, of which so many more may be: CALL, TFORLOOP, each word that asks a handler, each landing that does,
-- and each protected call in them
abbrev pub CallBy : Setup → ℕ → Datum → List Datum → ((depth : ℕ) → SourceState → World → Answer (List Datum)) → Type 0
CallBy z p f args ans =
    (s : SourceState) (o : Outside) (g : Ghost) (x : Site) (ld : Landing) (pc left : ℕ) (m : State) →
    left + p ≡ protection_limit → Ok z s g x → IsPrefix m.outside.events o.events → IsQuiet m o f args →
    step m ≡ after m (call_within (push ld (land ld)) (land ld) left p (at s o g x pc) f args) →
    Asks z.bound 0 (suc (suc left)) o (Soon m) (Faults z ld p (waits x pc ∷ x.below)) (Backs z ld p (waits x pc ∷ x.below)) (ans (suc (length x.below)) s)

-- a step that puts a call of f in the place of the running frame, or, of another function than one of the source, makes it and returns its results
abbrev pub TailBy : Setup → Datum → List Datum → ((depth : ℕ) → SourceState → World → Answer (List Datum)) → Type 0
TailBy z f args ans =
    (s : SourceState) (o : Outside) (x : Site) (p : Place) → TailPost z x f args s o p →
    Asks z.bound 0 call_cost o p (fail_of z x) (Backs z x.a.landing x.a.protections x.below) (ans (tail_depth (callee s.store f) (length x.below)) s)

abbrev pub inner_parts : Expression → ℕ
inner_parts (call_expression line on args on_line) = size_e on + inner_args args
inner_parts (method_call line on name args on_line) = size_e on + (call_cost + inner_args args)
inner_parts e = 0

-- a call whose parts are evaluated, and that the next word makes
abbrev pub PartsBy : Setup → Expression → Way (Datum × List Datum) → Type 0
PartsBy z e way =
    (s : SourceState) (o : Outside) (g : Ghost) (x : Site) (op : Op) (want : Want) (k free : ℕ) (p q : Spot) →
    Ok z s g x → Above x k free → size_e e ≤ z.bound → (related (code_of x.a) e).multi x.a.active free op want p q → is_call e ≡ true →
    way s o x (Now (at s o g x p.pc)) (CalledPost z x k free op want q.pc)

-- ---- loops

-- a task that gives what is known, with no word
abbrev pub TellsBy : {A : Type 0} → Setup → A → (SourceState → World → Answer A) → Type 0
TellsBy z a ans = (s : SourceState) (o : Outside) (ld : Landing) (q : ℕ) (gs : List Waiter) (p : Place) → Told o p → Asks z.bound 0 1 o p (Faults z ld q gs) (Stays a s o p) (ans s)

-- the words of a numeric `for` from its turn on, by the locals before it
pub record CountWords (x : Site) (name : Text) (body : Statements) (q : Spot) : Type 0 where
  pub variables : List Local
  pub around : List Active
  pub before : Ahead
  pub behind : Ahead
  pub begin : Spot
  pub loop : Spot
  pub declared : Declared (name ∷ []) before variables behind
  pub hidden : Activated numeric_names x.a.active around
  pub turn_at : TurnAt (code_of x.a) (StatementsAt (code_of x.a) (Some (record { exit = q.pc; before = length x.a.active })) body) variables around begin loop
  pub back : WordAt (code_of x.a) (Piece.Jump Op.ForLoop (length x.a.active) begin.pc) loop q

-- the three hidden values
abbrev pub three : ℤ → ℤ → ℤ → List Datum → List Datum
three i limit by high = number i ∷ number limit ∷ number by ∷ high

-- a turn of a numeric `for`: the block, its locals' end, and what follows a turn
abbrev pub CountTurnBy : Setup → Text → ℤ → ℤ → ℤ → Statements → (Site → SourceState → World → Answer Flow) → Type 0
CountTurnBy z name i limit by body ans =
    (s : SourceState) (o : Outside) (g : Ghost) (x : Site) (around : Around) (rest : List Datum) (q : Spot) →
    Ok z s g (raised x (three i limit by (number i ∷ rest))) → suc (suc (size_b body)) ≤ z.bound → (w : CountWords x name body q) →
    Asks z.bound 0 (suc (suc (size_b body))) o (Now (at s o g (raised x (three i limit by (number i ∷ rest))) w.begin.pc)) (fail_of z x) (FlowPost z x around x.a.active q.pc) (ans x s)

-- the words of a generic `for` from its turn on, by the locals before it; it has a name
pub record IterWords (x : Site) (names : List Text) (body : Statements) (q : Spot) : Type 0 where
  pub some : 0 < length names
  pub variables : List Local
  pub around : List Active
  pub before : Ahead
  pub behind : Ahead
  pub begin : Spot
  pub loop : Spot
  pub again : Spot
  pub declared : Declared names before variables behind
  pub hidden : Activated generic_names x.a.active around
  pub turn_at : TurnAt (code_of x.a) (StatementsAt (code_of x.a) (Some (record { exit = q.pc; before = length x.a.active })) body) variables around begin loop
  pub call : WordAt (code_of x.a) (Piece.Abc Op.TForLoop (length x.a.active) 0 (length names)) loop again
  pub back : WordAt (code_of x.a) (Piece.Jump Op.Jmp 0 begin.pc) again q

-- the iterator is called by the next step, and its results come to where the step's landing says
abbrev pub IterTestBy : Setup → Datum → Datum → Datum → (Scope → SourceState → World → Answer (List Datum)) → Type 0
IterTestBy z f state control ans =
    (s : SourceState) (o : Outside) (g : Ghost) (x : Site) (ld : Landing) (pc : ℕ) (m : State) → Ok z s g x → m.outside ≡ o →
    step m ≡ after m (call_within (push ld (land ld)) (land ld) protection_limit 0 (at s o g x pc) f (state ∷ control ∷ [])) →
    Asks z.bound 0 (suc call_cost) o (Soon m) (fail_of z x) (Backs z ld 0 (waits x pc ∷ x.below)) (ans (scope x) s)

abbrev pub iter_size : Statements → ℕ
iter_size body = suc (size_b body + suc call_cost)

abbrev pub IterTurnBy : Setup → List Text → Datum → Datum → List Datum → Statements → (Site → SourceState → World → Answer Flow) → Type 0
IterTurnBy z names f state vs body ans =
    (s : SourceState) (o : Outside) (g : Ghost) (x : Site) (around : Around) (rest : List Datum) (q : Spot) →
    Ok z s g (raised x (f ∷ state ∷ first_of vs ∷ (adjusted (length names) vs ++ rest))) → iter_size body ≤ z.bound → (w : IterWords x names body q) →
    Asks z.bound 0 (iter_size body) o (Now (at s o g (raised x (f ∷ state ∷ first_of vs ∷ (adjusted (length names) vs ++ rest))) w.begin.pc)) (fail_of z x) (FlowPost z x around x.a.active q.pc) (ans x s)

-- an item of a constructor with a name or a key; the table is in the k-th register above the locals, and so many items are pending behind it
abbrev pub NamedBy : Setup → ℕ → Text → Expression → Way (Unit {0}) → Type 0
NamedBy z tb name e way =
    (s : SourceState) (o : Outside) (g : Ghost) (x : Site) (k t pending : ℕ) (p q : Spot) →
    Ok z s g x → t ≡ length x.a.slots + k → size_e e + call_cost ≤ z.bound → slice_get x.high k ≡ Some (Datum.table tb) → KeyedAt (code_of x.a) (RkTextAt (code_of x.a) name) (related (code_of x.a) e) x.a.active t pending p q →
    way s o x (Now (at s o g x p.pc)) (λ u. AtPost z x (suc k + pending) q.pc)

abbrev pub KeyedBy : Setup → ℕ → Expression → Expression → Way (Unit {0}) → Type 0
KeyedBy z tb key e way =
    (s : SourceState) (o : Outside) (g : Ghost) (x : Site) (k t pending : ℕ) (p q : Spot) →
    Ok z s g x → t ≡ length x.a.slots + k → size_e key + (size_e e + call_cost) ≤ z.bound → slice_get x.high k ≡ Some (Datum.table tb) → KeyedAt (code_of x.a) (RkAt (code_of x.a) x.a.active (related (code_of x.a) key)) (related (code_of x.a) e) x.a.active t pending p q →
    way s o x (Now (at s o g x p.pc)) (λ u. AtPost z x (suc k + pending) q.pc)

-- a bare local of the running function as a value or an item, in so many ticks: nothing is done
abbrev pub BareBy : Setup → Expression → ℕ → (Scope → SourceState → World → Answer (List Datum)) → Type 0
BareBy z e size ans =
    (c : ℕ) (s : SourceState) (o : Outside) (x : Site) (p : Place) → own_local (scope x) e ≡ Some c → Told o p →
    Asks z.bound 0 size o p (fail_of z x) (Stays (cell s c ∷ []) s o p) (ans (scope x) s)

-- a literal as a value or an item, in so many ticks: nothing is done
abbrev pub LiteralBy : Setup → Expression → ℕ → (Scope → SourceState → World → Answer (List Datum)) → Type 0
LiteralBy z e size ans =
    (k : Constant) (here : Scope) (s : SourceState) (o : Outside) (ld : Landing) (q : ℕ) (gs : List Waiter) (p : Place) → literal e ≡ Some k → Told o p →
    Asks z.bound 0 size o p (Faults z ld q gs) (Stays (value_of k ∷ []) s o p) (ans here s)

-- a string as the only argument, in the next register
abbrev pub TextBy : Setup → Text → (SourceState → World → Answer (List Datum)) → Type 0
TextBy z t ans =
    (s : SourceState) (o : Outside) (g : Ghost) (x : Site) (k free : ℕ) (p q : Spot) →
    Ok z s g x → free ≡ length x.a.slots + k → free < (own x.a.chunk).registers → ConstantWord (code_of x.a) Op.LoadK free (Constant.Text t) p q →
    Asks z.bound 0 1 o (Now (at s o g x p.pc)) (fail_of z x) (λ vs s1 o1 p1. NextPost z x k q.pc (first_of vs) s1 o1 p1 × (vs ≡ first_of vs ∷ [])) (ans s)

-- a constructor as the only argument, in the next register
abbrev pub TableBy : Setup → Fields → (Scope → SourceState → World → Answer (List Datum)) → Type 0
TableBy z fs ans =
    (s : SourceState) (o : Outside) (g : Ghost) (x : Site) (k free : ℕ) (p q : Spot) →
    Ok z s g x → free ≡ length x.a.slots + k → suc (inner_fields fs) ≤ z.bound → TableAt (code_of x.a) (λ t. ItemsAt (code_of x.a) fs x.a.active t 0 0) free p q →
    Asks z.bound 0 (suc (inner_fields fs)) o (Now (at s o g x p.pc)) (fail_of z x) (λ vs s1 o1 p1. NextPost z x k q.pc (first_of vs) s1 o1 p1 × (vs ≡ first_of vs ∷ [])) (ans (scope x) s)

-- an operand of `..` with those behind it, from a register on, and the word behind them
abbrev pub SpineBy : Setup → Expression → (Site → SourceState → World → Answer (List Datum)) → Type 0
SpineBy z e ans =
    (s : SourceState) (o : Outside) (g : Ghost) (x : Site) (k first a free free1 : ℕ) (p last q : Spot) →
    Ok z s g x → free ≡ length x.a.slots + k → first < free → size_e e ≤ z.bound → (related (code_of x.a) e).spine x.a.active free free1 p last → WordAt (code_of x.a) (Piece.Abc Op.Concat a first (free1 - 1)) last q →
    Asks z.bound 0 (size_e e) o (Now (at s o g x p.pc)) (fail_of z x) (λ vs. JoinPost z x k first a (free - first) q.pc (first_of vs)) (ans x s)

-- a target as a task: its tick pays for six words to come, its copy and its store among them
abbrev pub TargetBy : Setup → Expression → (Scope → SourceState → World → Answer Target) → Type 0
TargetBy z e ans =
    (s : SourceState) (o : Outside) (g : Ghost) (x : Site) (k free : ℕ) (d : scheme.Target) (free1 : ℕ) (p q : Spot) →
    Ok z s g x → free ≡ length x.a.slots + k → inner e ≤ z.bound → (related (code_of x.a) e).target x.a.active free d free1 p q →
    Earns z.bound 6 (suc (inner e)) o (Now (at s o g x p.pc)) (fail_of z x) (TargetPost z x k d free1 q.pc) (ans (scope x) s)

abbrev pub while_size : Statements → ℕ
while_size b = suc (size_b b)

-- a turn of a `while`, from behind its test on
abbrev pub WhileTurnBy : Setup → Expression → Statements → (Site → SourceState → World → Answer Flow) → Type 0
WhileTurnBy z e b ans =
    (s : SourceState) (o : Outside) (g : Ghost) (x : Site) (around : Around) (p q : Spot) →
    Ok z s g x → suc (size_e e) + while_size b ≤ z.bound → (w : WhileAt (code_of x.a) (related (code_of x.a) e) (λ loop. StatementsAt (code_of x.a) loop b) x.a.active p q) →
    Asks z.bound 0 (while_size b) o (Now (at s o g x w.mid.pc)) (fail_of z x) (FlowPost z x around x.a.active q.pc) (ans x s)

abbrev pub repeat_size : Statements → Expression → ℕ
repeat_size b e = suc (size_b b + suc (size_e e))

-- a turn of a `repeat`, whose test sees the locals of the block
abbrev pub RepeatTurnBy : Setup → Statements → Expression → (Site → SourceState → World → Answer Flow) → Type 0
RepeatTurnBy z b e ans =
    (s : SourceState) (o : Outside) (g : Ghost) (x : Site) (around : Around) (p q : Spot) →
    Ok z s g x → repeat_size b e ≤ z.bound → (w : RepeatAt (code_of x.a) (λ loop. StatementsAt (code_of x.a) loop b) (related (code_of x.a) e) x.a.active p q) →
    Asks z.bound 0 (repeat_size b e) o (Now (at s o g x p.pc)) (fail_of z x) (FlowPost z x around x.a.active q.pc) (ans x s)

-- what is proved of every task, as `self` answers it
pub record Simulates (z : Setup) (self : Self) : Type 0 where
  pub expr : (e : Expression) → ExprBy z e (Asked z (size_e e) (λ x. self (expression (scope x) e)))
  pub cond : (e : Expression) → CondBy z e (Asked z (size_e e) (λ x. self (expression (scope x) e)))
  pub multi : (e : Expression) → MultiBy z e (Asked z (size_e e) (λ x. self (expression (scope x) e)))
  pub one_item : (e : Expression) → ExprBy z e (AskedEarning z 6 (suc (size_e e)) (λ x. self (item (scope x) e)))
  pub all_item : (e : Expression) → MultiBy z e (Asked z (suc (size_e e)) (λ x. self (item (scope x) e)))
  pub test_cond : (e : Expression) → CondTestBy z e (Asked z (suc (size_e e)) (λ x. self (test (scope x) e)))
  pub parts : (e : Expression) → PartsBy z e (Asked z (suc (inner_parts e)) (λ x. self (called (scope x) e)))
  pub takes : (c : ℕ) → TellsBy z tt (self (local_taken c))
  pub refuses : TellsBy z tt (self refused_call)
  pub blocks : (b : Statements) → BlockBy z b (Asked z (size_b b) (λ x. self (block (scope x) b)))
  pub statements : (c : Statement) → StatementBy z c (Asked z (suc (inner_statement c)) (λ x. self (statement (scope x) c)))
  pub calls : (f : Datum) (args : List Datum) → CallBy z 0 f args (λ depth. self (call depth f args))
  pub protected : (p : ℕ) (f : Datum) (args : List Datum) → CallBy z p f args (λ depth. self (protected_call p depth f args))
  pub tail : (f : Datum) (args : List Datum) → TailBy z f args (λ depth. self (call depth f args))
  pub counts : (i limit by : ℤ) → TellsBy z (goes_on i limit by) (self (count_test i limit by))
  pub count_turns : (name : Text) (i limit by : ℤ) (b : Statements) → CountTurnBy z name i limit by b (λ x. self (count_turn (scope x) name i limit by b))
  pub iter_tests : (f state control : Datum) → IterTestBy z f state control (λ c. self (iterator_test c f state control))
  pub iter_turns : (names : List Text) (f state : Datum) (vs : List Datum) (b : Statements) → IterTurnBy z names f state vs b (λ x. self (iterator_turn (scope x) names f state vs b))
  pub named_items : (tb : ℕ) (name : Text) (e : Expression) → NamedBy z tb name e (Asked z (suc (size_e e + call_cost)) (λ x. self (named_item (scope x) tb name e)))
  pub keyed_items : (tb : ℕ) (key e : Expression) → KeyedBy z tb key e (Asked z (suc (size_e key + (size_e e + call_cost))) (λ x. self (keyed_item (scope x) tb key e)))
  pub bare : (e : Expression) → BareBy z e (size_e e) (λ c. self (expression c e))
  pub bare_items : (e : Expression) → BareBy z e (suc (size_e e)) (λ c. self (item c e))
  pub literals : (e : Expression) → LiteralBy z e (size_e e) (λ c. self (expression c e))
  pub literal_items : (e : Expression) → LiteralBy z e (suc (size_e e)) (λ c. self (item c e))
  pub texts : (t : Text) → TextBy z t (self (text_item t))
  pub tables : (fs : Fields) → TableBy z fs (λ c. self (table_item c fs))
  pub spines : (e : Expression) → SpineBy z e (λ x. self (expression (scope x) e))
  pub targets : (e : Expression) → TargetBy z e (λ c. self (target c e))
  pub while_turns : (e : Expression) (b : Statements) → WhileTurnBy z e b (λ x. self (while_turn (scope x) e b))
  pub repeat_turns : (b : Statements) (e : Expression) → RepeatTurnBy z b e (λ x s. self (repeat_turn (scope x) b e) s)
  pub call_items : (e : Expression) → PartsBy z e (Asked z (suc (suc (inner_parts e))) (λ x. self (called_item (scope x) e)))

-- a task as the step of the induction answers it: its tick, and its program
abbrev pub tasked : Self → (q : Task) → SourceState → World → Answer (Gives q)
tasked self q s w = spend w.ticks w (run self (program q s))
