-- Calls and returns done in place: the values that they take from registers, and what they come to.
use Rattle.std.proofs.Common.{◌≡◌, ℕ, zero, suc, ◌+◌, List, [], ◌∷◌, length, take, drop, Some, refl, sym, ap, subst, ◌∙◌, arith}
use Rattle.std.specs.Prelude.{slice_get, option_map}
use Rattle.std.proofs.lemmas.Option.{slice_get-map}
use Rattle.opcode.specs.declared.op.Op.TheVariants as op
use Rattle.opcode.specs.declared.word.Instr.{Instr}
use Rattle.lua_model.specs.declared.ClosureId.{ClosureId}
use Rattle.lua_model.specs.declared.Value.{Value}
use Rattle.lua_model.specs.Datum.{Datum, closure as closure_with}
use Rattle.lua_heap.specs.State.{datum}
use Rattle.rules.specs.State as rules
use Rattle.rules.specs.State.{State, Effect, register}
use Rattle.rules.specs.Calls.{call as call_in, entered, push, land}
use Rattle.rules.specs.Step.{effect, listed, count_of, landing_of as landing_in}
use Rattle.upvalue.specs.State.{top}
use Rattle.machine.specs.declared.function.Function.{Function}
use Rattle.machine.specs.declared.running.Running.{Running}
use Rattle.machine.specs.declared.did.Did.{Did}
use Rattle.machine.specs.Called.{worked_values}
use Rattle.machine.specs.Frames.{data_of}
use Rattle.machine.specs.Seen.{Around, seen}
use Rattle.machine.specs.Whole.{DoesSeen}
use Rattle.machine.specs.Words.{AreThere, IsListed, GivesList, AreResultsOf}
use Rattle.machine.proofs.GivenResults.{gives, returns_seen}
use Rattle.machine.proofs.Listed.{list_fixed}
use Rattle.machine.proofs.Showing.{one_need}
use Rattle.proto.specs.Chunk.{Chunk}

-- ---- values of registers in a row

drop_at : (xs : List Value) (n : ℕ) (x : Value) → slice_get xs n ≡ Some x → drop n xs ≡ x ∷ drop (suc n) xs
drop_at [] n x at = absurd (none n at)
  where
    none : (n : ℕ) → slice_get [] n ≡ Some x → ⊥
    none zero at = cc
    none (suc n) at = cc
drop_at (y ∷ xs) zero x at = let same : y ≡ x = cc in ap (λ v. v ∷ xs) same
drop_at (y ∷ xs) (suc n) x at = drop_at xs n x at

pub one_there : (xs : List Value) (a : ℕ) (x : Value) → slice_get xs a ≡ Some x → x ∷ [] ≡ take 1 (drop a xs)
one_there xs a x at = sym (ap (take 1) (drop_at xs a x at))

pub two_there : (xs : List Value) (a : ℕ) (x y : Value) → slice_get xs a ≡ Some x → slice_get xs (a + 1) ≡ Some y → x ∷ y ∷ [] ≡ take 2 (drop a xs)
two_there xs a x y at at_next =
    let next : a + 1 ≡ suc a = omega arith in
    let rest = one_there xs (suc a) y (subst (λ n. slice_get xs n ≡ Some y) next at_next) in
    ap (λ (vs : List Value). x ∷ vs) rest ∙ sym (ap (take 2) (drop_at xs a x at))

pub three_there : (xs : List Value) (a : ℕ) (x y z : Value) → slice_get xs a ≡ Some x → slice_get xs (a + 1) ≡ Some y → slice_get xs (a + 2) ≡ Some z → x ∷ y ∷ z ∷ [] ≡ take 3 (drop a xs)
three_there xs a x y z at at_next at_last =
    let next : a + 1 ≡ suc a = omega arith in
    let last : a + 2 ≡ suc a + 1 = omega arith in
    let rest = two_there xs (suc a) y z (subst (λ n. slice_get xs n ≡ Some y) next at_next) (subst (λ n. slice_get xs n ≡ Some z) last at_last) in
    ap (λ (vs : List Value). x ∷ vs) rest ∙ sym (ap (take 3) (drop_at xs a x at))

-- so many registers are a list, beside any open results
module _ (old : Running) (first n field : ℕ) (list : List Value) (count : field ≡ suc n) (there : AreThere (top old.stack.frames) first n) (is : list ≡ take n (drop first (top old.stack.frames))) where
  abbrev registers : List Value
  registers = top old.stack.frames

  counted : count_of field ≡ Some n
  counted = ap count_of count

  pub gives_part : GivesList registers old.top.results old.top.results first (count_of field) list
  gives_part = list_fixed registers old.top.results first n (count_of field) list counted (subst (IsListed registers old.top.results first) (sym counted) there) is

-- ---- returns

pub returned : (fs : List Function) (old new : Running) (list : List Value) (n : ℕ) (i : Instr) → old.top.protections ≡ 0 → i.b ≡ suc n → AreThere (top old.stack.frames) i.a n → list ≡ take n (drop i.a (top old.stack.frames)) → AreResultsOf old.heap old.top.results → DoesSeen fs (gives (data_of old.heap list)) old new Did.Next → DoesSeen fs (λ m. effect op.Return m i) old new Did.Next
returned fs old new list n i none count there is known does =
    returns_seen fs old new (top old.stack.frames) list list old.top.results (count_of i.b) i Did.Next refl refl (gives_part old i.a n i.b list count there is) (ap (λ p. worked_values p list) (sym none)) known does

-- ---- calls

-- a closure is called in no protected call
closure_called : (landing : rules.Landing) (m : State) (c : ℕ) (args : List Datum) → call_in landing m (closure_with c) args ≡ entered (push landing (land landing)) (land landing) 0 m (slice_get m.closures c) args
closure_called landing m c args = refl

pub calls_closure : (chunk : Chunk) (a : Around) (old : Running) (i : Instr) (id : ClosureId) (args : List Value) (landing : rules.Landing) → slice_get (top old.stack.frames) i.a ≡ Some (Value.Closure id) → i.b ≡ suc (length args) → AreThere (top old.stack.frames) (i.a + 1) (length args) → args ≡ take (length args) (drop (i.a + 1) (top old.stack.frames)) → landing ≡ landing_in i.a (count_of i.c) → effect op.Call (seen chunk a old) i ≡ entered (push landing (land landing)) (land landing) 0 (seen chunk a old) (slice_get (seen chunk a old).closures id.index) (data_of old.heap args)
calls_closure chunk a old i id args landing at count there is lands =
    let m = seen chunk a old in
    let h = old.heap in
    let to = landing_in i.a (count_of i.c) in
    let callee = closure_with id.index in
    let next : State → List Datum → Effect = λ m1 vs. call_in to m1 callee vs in
    let behind : suc i.a ≡ i.a + 1 = omega arith in
    one_need (register m i.a) callee (λ f. listed m (suc i.a) (count_of i.b) (λ m1 vs. call_in to m1 f vs)) (slice_get-map (datum h) (top old.stack.frames) i.a ∙ ap (option_map (datum h)) at)
    ∙ ap (λ n. listed m n (count_of i.b) next) behind
    ∙ gives_part old (i.a + 1) (length args) i.b args count there is h m next refl
    ∙ ap (λ l. call_in l m callee (data_of h args)) (sym lands)
    ∙ closure_called landing m id.index (data_of h args)
