-- Where tasks lead: of each kind of task, what holds of the source's result and of the machine's place; and where failures go.
use Rattle.scheme.specs.Expressions as scheme
use Rattle.proto.specs.declared.parts.Constant.{Constant}
use Rattle.std.proofs.Common.{◌≡◌, ◌≤◌, ◌<◌, ℕ, zero, suc, ◌+◌, Bool, true, false, ◌⊎◌, List, [], ◌∷◌, ◌++◌, length, Option, Some, None, refl, ◌∙◌, arith}
use Rattle.std.specs.Prelude.{slice_get, slice_set}
use Rattle.opcode.specs.declared.op.Op.{Op}
use Rattle.proto.specs.Chunk.{own}
use Rattle.scheme.specs.Making.{in_register, in_globals, in_upvalue}
use Rattle.scheme.specs.Expressions.{Want, part_target, name_target}
use Rattle.scheme.specs.declared.making.Active.{Active}
use Rattle.scheme.specs.declared.making.Piece.{Piece}
use Rattle.lua_model.specs.Datum.{Datum, first_of, adjusted, is_true}
use Rattle.lua_model.specs.Store.{Outside}
use Rattle.lua_model.specs.Endings.{IsPrefix}
use Rattle.lua_model.specs.Operators.{protection_limit}
use Rattle.lua_model.specs.Builtins.{failure_text}
use Rattle.source_meaning.specs.State.{State as SourceState, Env, Flow, goes, breaks, returns, tail_calls, to_cell, Taken, taken, late, to_global, to_entry, Target}
use Rattle.rules.specs.State.{State, Landing, OpenResults, operand, value_of}
use Rattle.rules.specs.Calls.{worked, broke, push, land, call_within, tail_call, join}
use Rattle.rules.specs.Step.{landing_of}
use Rattle.rules.specs.Run.{Going, Ended, Failed, step, after}
use Rattle.scheme_stands.specs.Words.{onto, Spot, WordAt}
use Rattle.scheme_stands.specs.Lists.{ResultRoom}
use Rattle.scheme_stands.specs.Statements.{LoopAt}
use Rattle.agrees.proofs.CallFails.{}
use Rattle.agrees.proofs.Accounts.{Place, Now, Soon, Post, Fail}
use Rattle.agrees.proofs.Picture.{code_of, Setup, Act, Waiter, Ghost, Site, raised, registers, pic, at, Slot, Owned, Fine, Ok, of_cell}

-- the first k registers above the locals are kept
pub record Keeps (k : ℕ) (high high1 : List Datum) : Type 0 where
  pub same : length high1 ≡ length high
  pub old : (i : ℕ) → i < k → slice_get high1 i ≡ slice_get high i

pub keeps_self : (k : ℕ) (high : List Datum) → Keeps k high high
keeps_self k high = record { same = refl; old = λ i l. refl }

pub keeps_on : (k k1 : ℕ) (h h1 h2 : List Datum) → k ≤ k1 → Keeps k h h1 → Keeps k1 h1 h2 → Keeps k h h2
keeps_on k k1 h h1 h2 l a b = record { same = b.same ∙ a.same; old = λ i q. b.old i (omega arith) ∙ a.old i q }

-- ## where results and failures go

-- the next step of m lands results in the topmost of these frames, or ends the run
pub record LandsIn (z : Setup) (ld : Landing) (h : Waiter) (gs : List Waiter) (vs : List Datum) (s : SourceState) (o : Outside) (m : State) : Type 0 where
  pub g : Ghost
  pub is : step m ≡ after m (land ld (at s o g (record { a = h.act; below = gs; high = h.high }) h.pc) vs)
  pub fine : Fine z (length s.cells) s.closures g (h ∷ gs)

abbrev pub Lands : Setup → Landing → List Waiter → List Datum → SourceState → Outside → State → Type 0
Lands z ld [] vs s o m = step m ≡ Ended s.store o
Lands z ld (h ∷ gs) vs s o m = LandsIn z ld h gs vs s o m

-- the next step of m takes a failure, in a frame with this landing and so many protections, to where it lands: the topmost frame with protections,
-- or the end of the run
abbrev pub Caught : Setup → Landing → ℕ → List Waiter → Datum → SourceState → Outside → State → Type 0
Caught z ld zero [] v s o m = step m ≡ Failed (failure_text v) s.store o
Caught z ld zero (h ∷ gs) v s o m = Caught z h.act.landing h.act.protections gs v s o m
Caught z ld (suc p) gs v s o m = Lands z ld gs (broke p v) s o m

-- a step that has begun and may have told something: what comes next is its own end
pub record Ends (C : SourceState → Outside → State → Type 0) (s : SourceState) (o : Outside) (p : Place) : Type 0 where
  pub m : State
  pub at_m : p ≡ Soon m
  pub before : IsPrefix m.outside.events o.events
  pub is : C s o m

abbrev pub Faults : Setup → Landing → ℕ → List Waiter → Fail
Faults z ld p gs v = Ends (Caught z ld p gs v)

abbrev pub Backs : Setup → Landing → ℕ → List Waiter → Post (List Datum)
Backs z ld p gs vs = Ends (Lands z ld gs (worked p vs))

-- a failure in the running frame
abbrev pub fail_of : Setup → Site → Fail
fail_of z x = Faults z x.a.landing x.a.protections x.below

-- ## the posts of expressions

-- the first value is in register r, and the first k registers above the locals are kept
pub record ValuePost (z : Setup) (x : Site) (k r q : ℕ) (vs : List Datum) (s : SourceState) (o : Outside) (p : Place) : Type 0 where
  pub g : Ghost
  pub high : List Datum
  pub keeps : Keeps k x.high high
  pub is : p ≡ Now (pic s o g (raised x high) q (slice_set (registers s.cells x.a high) r (first_of vs)) None)
  pub ok : Ok z s g (raised x high)

-- the value is in the k-th register above the locals
pub record NextPost (z : Setup) (x : Site) (k q : ℕ) (v : Datum) (s : SourceState) (o : Outside) (p : Place) : Type 0 where
  pub g : Ghost
  pub high : List Datum
  pub keeps : Keeps k x.high high
  pub has : slice_get high k ≡ Some v
  pub is : p ≡ Now (at s o g (raised x high) q)
  pub ok : Ok z s g (raised x high)

-- the machine is at q, and nothing is known of the registers from the k-th above the locals on
pub record AtPost (z : Setup) (x : Site) (k q : ℕ) (s : SourceState) (o : Outside) (p : Place) : Type 0 where
  pub g : Ghost
  pub high : List Datum
  pub keeps : Keeps k x.high high
  pub is : p ≡ Now (at s o g (raised x high) q)
  pub ok : Ok z s g (raised x high)

-- a condition: where the value's truth is t the next step goes to l, so that this word can pay for what follows; else the machine is at q
abbrev pub Splits : Bool → (ℕ → State) → ℕ → ℕ → Place → Type 0
Splits true st l q p = (m : State) × (p ≡ Soon m) × IsPrefix m.outside.events (st l).outside.events × (step m ≡ Going (st l))
Splits false st l q p = p ≡ Now (st q)

abbrev pub same : Bool → Bool → Bool
same true b = b
same false true = false
same false false = true

pub record JumpPost (z : Setup) (x : Site) (k : ℕ) (t : Bool) (l q : ℕ) (v : Datum) (s : SourceState) (o : Outside) (p : Place) : Type 0 where
  pub g : Ghost
  pub high : List Datum
  pub keeps : Keeps k x.high high
  pub is : Splits (same t (is_true v)) (at s o g (raised x high)) l q p
  pub ok : Ok z s g (raised x high)

-- so many registers from one on
abbrev pub Row : List Datum → ℕ → List Datum → Type 0
Row high k [] = Unit {0}
Row high k (v ∷ vs) = (slice_get high k ≡ Some v) × Row high (suc k) vs

-- where a list's values are: so many, from the k-th register above the locals on; or a front, and the rest as open results behind it
abbrev pub Held : Want → List Datum → ℕ → (Option OpenResults → State) → ℕ → List Datum → Place → Type 0
Held (Some n) high k st free vs p = Row high k (adjusted n vs) × (p ≡ Now (st None))
Held None high k st free vs p =
    (front : List Datum) × (rest : List Datum) × Row high k front × (vs ≡ front ++ rest) × (p ≡ Now (st (Some (record { first = free + length front; values = rest }))))

pub record ListPost (z : Setup) (x : Site) (want : Want) (k free q : ℕ) (vs : List Datum) (s : SourceState) (o : Outside) (p : Place) : Type 0 where
  pub g : Ghost
  pub high : List Datum
  pub keeps : Keeps k x.high high
  pub held : Held want high k (pic s o g (raised x high) q (registers s.cells x.a high)) free vs p
  pub ok : Ok z s g (raised x high)

-- ## the posts of statements

-- the same call with more active locals
pub record Grown (a b : Act) : Type 0 where
  pub active : List Active
  pub slots : List Slot
  pub env : Env
  pub is : b ≡ record a { own = env; active = a.active ++ active; slots = a.slots ++ slots }

-- what an act says without the ghost
pub record Named (a : Act) : Type 0 where
  pub owned : Owned (onto a.active []) (onto a.slots []) a.own
  pub as_many : length a.active ≡ length a.slots

-- a loop's words say where the locals before it end
abbrev pub Fits : Option LoopAt → Act → Type 0
Fits None a = Unit {0}
Fits (Some l) a = (l.before ≡ length a.active) × Named a

-- a loop around: where its exit is, and the call with the locals that were active before it
pub record Around : Type 0 where
  pub loop : Option LoopAt
  pub exit : Act
  pub fits : Fits loop exit

abbrev pub looped : ℕ → (a : Act) → Named a → Around
looped q a named = record { loop = Some (record { exit = q; before = length a.active }); exit = a; fits = (refl, named) }

abbrev pub BreakPost : Setup → Option LoopAt → Act → List Waiter → SourceState → Outside → Place → Type 0
BreakPost z None exit below s o p = ⊥
BreakPost z (Some l) exit below s o p = (high : List Datum) × AtPost z (record { a = exit; below = below; high = high }) 0 l.exit s o p

-- goes on with these names, at q
pub record GoesOnPost (z : Setup) (x : Site) (active1 : List Active) (q : ℕ) (env : Env) (s : SourceState) (o : Outside) (p : Place) : Type 0 where
  pub a : Act
  pub g : Ghost
  pub high : List Datum
  pub grown : Grown x.a a
  pub names : a.own ≡ env
  pub actives : a.active ≡ active1
  pub is : p ≡ Now (at s o g (record { a = a; below = x.below; high = high }) q)
  pub ok : Ok z s g (record { a = a; below = x.below; high = high })

-- the next step is a TAILCALL, behind which stands RETURN
pub record TailPost (z : Setup) (x : Site) (f : Datum) (vs : List Datum) (s : SourceState) (o : Outside) (p : Place) : Type 0 where
  pub m : State
  pub at_m : p ≡ Soon m
  pub outside : m.outside ≡ o
  pub y : Site
  pub same_landing : y.a.landing ≡ x.a.landing
  pub same_protections : y.a.protections ≡ x.a.protections
  pub same_below : y.below ≡ x.below
  pub g : Ghost
  pub ok : Ok z s g y
  pub pc : ℕ
  pub base : ℕ
  pub behind : Spot
  pub last : Spot
  pub at_behind : behind.pc ≡ pc
  pub back : WordAt (code_of y.a) (Piece.Abc Op.Return base 0 0) behind last
  pub is : step m ≡ after m (tail_call base (at s o g y pc) f vs)

-- how a statement or a block ends
abbrev pub FlowPost : Setup → Site → Around → List Active → ℕ → Post Flow
FlowPost z x y active1 q (goes env) = GoesOnPost z x active1 q env
FlowPost z x y active1 q breaks = BreakPost z y.loop y.exit x.below
FlowPost z x y active1 q (returns vs) = Backs z x.a.landing x.a.protections x.below vs
FlowPost z x y active1 q (tail_calls f vs) = TailPost z x f vs

-- the frame that calls, and its arguments: they are in place, and the next word calls
pub record CalledPost (z : Setup) (x : Site) (k base : ℕ) (op : Op) (want : Want) (q : ℕ) (c : Datum × List Datum) (s : SourceState) (o : Outside) (p : Place) : Type 0 where
  pub g : Ghost
  pub high : List Datum
  pub keeps : Keeps k x.high high
  pub m : State
  pub at_m : p ≡ Now m
  pub outside : m.outside ≡ o
  pub ok : Ok z s g (raised x high)
  pub room : ResultRoom (code_of x.a) base want
  -- the word, with the arguments taken from where they are
  pub by_call : op ≡ Op.Call → step m ≡ after m (call_within (push (landing_of base want) (land (landing_of base want))) (land (landing_of base want)) protection_limit 0 (at s o g (raised x high) q) c.0 c.1)
  pub by_tail : op ≡ Op.TailCall → step m ≡ after m (tail_call base (at s o g (raised x high) q) c.0 c.1)

-- ## operands and targets

-- registers above the locals were filled from the k-th up to the k1-th, which is register free1; and what holds with that k1
pub record Pushed (z : Setup) (s : SourceState) (g : Ghost) (x : Site) (high1 : List Datum) (k free1 : ℕ) (Holds : ℕ → Type 0) : Type 0 where
  pub k1 : ℕ
  pub ok : Ok z s g (raised x high1)
  pub at_free : free1 ≡ length x.a.slots + k1
  pub more : k ≤ k1
  pub keeps : Keeps k x.high high1
  pub holds : Holds k1

-- with these registers an operand of a word is read as this value
abbrev pub OperandIs : Site → List Datum → SourceState → ℕ → Datum → Type 0
OperandIs x high s i v = (m : State) → m.top.function ≡ x.a.chunk → m.top.registers ≡ registers s.cells x.a high → operand m i ≡ Some v

-- register i holds what was taken, as long as the first k registers above the locals stay
abbrev pub InRegister : Act → List Datum → ℕ → Taken → ℕ → Type 0
InRegister a high k (late c) i = slice_get a.slots i ≡ Some (of_cell c)
InRegister a high k (taken v) i = (j : ℕ) × (j < k) × (i ≡ length a.slots + j) × (slice_get high j ≡ Some v)

-- an operand of a word: where a register or a constant is it
abbrev pub InOperand : Act → List Datum → ℕ → Taken → ℕ → Type 0
InOperand a high k t i = InRegister a high k t i ⊎ ((n : ℕ) × (c : Constant) × (i ≡ n + 256) × (slice_get (own a.chunk).constants n ≡ Some c) × (t ≡ taken (value_of c)))

-- a local that is taken as its cell is marked as a local
abbrev pub Flag : Taken → Bool → Type 0
Flag (late c) b = b ≡ true
Flag (taken v) b = Unit {0}

-- what a target stands for: operands are locals, constants, or among the first k registers above the locals

abbrev pub Stands : Act → List Datum → ℕ → Target → scheme.Target → Type 0
Stands a high k (to_cell c) (name_target name (in_register r)) = slice_get a.slots r ≡ Some (of_cell c)
Stands a high k (to_cell c) (name_target name (in_upvalue i)) = slice_get a.source_cells i ≡ Some c
Stands a high k (to_global name) (name_target text in_globals) = text ≡ name
Stands a high k (to_entry on key) (part_target t i on_local key_local) = InRegister a high k on t × InOperand a high k key i × Flag on on_local × Flag key key_local
Stands a high k _ _ = ⊥

abbrev pub AllStand : Act → List Datum → ℕ → List Target → List scheme.Target → Type 0
AllStand a high k [] [] = Unit {0}
AllStand a high k [] (d ∷ ds) = ⊥
AllStand a high k (t ∷ ts) [] = ⊥
AllStand a high k (t ∷ ts) (d ∷ ds) = Stands a high k t d × AllStand a high k ts ds

-- the parts of a target are done
pub record TargetPost (z : Setup) (x : Site) (k : ℕ) (d : scheme.Target) (free1 q : ℕ) (t : Target) (s : SourceState) (o : Outside) (p : Place) : Type 0 where
  pub g : Ghost
  pub high : List Datum
  pub pushed : Pushed z s g x high k free1 (λ k1. Stands x.a high k1 t d)
  pub is : p ≡ Now (at s o g (raised x high) q)

-- so many registers from the first on are still to be joined to the running value
pub record JoinPost (z : Setup) (x : Site) (k first a n pc : ℕ) (v : Datum) (s : SourceState) (o : Outside) (p : Place) : Type 0 where
  pub g : Ghost
  pub high : List Datum
  pub keeps : Keeps k x.high high
  pub m : State
  pub at_m : p ≡ Soon m
  pub before : IsPrefix m.outside.events o.events
  pub ok : Ok z s g (raised x high)
  pub is : step m ≡ after m (join (at s o g (raised x high) pc) a first n v)
