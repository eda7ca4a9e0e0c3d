-- Words that go on within their frame, as what is done in place.
use Rattle.std.proofs.Common.{◌≡◌, ℕ, ℤ, List, Option, Some, None, IfSome, IfNone, OnSome, refl, sym, ap, subst, ◌∙◌}
use Rattle.std.proofs.lemmas.Option.{same_Some}
use Rattle.opcode.specs.declared.op.Op.{Op}
use Rattle.opcode.specs.declared.word.Instr.{Instr}
use Rattle.lua_model.specs.declared.Value.{Value}
use Rattle.lua_model.specs.Datum.{number}
use Rattle.lua_heap.specs.State.{HeapState, datum}
use Rattle.rules.specs.State.{State, Effect, Goes, at_pc}
use Rattle.rules.specs.Step.{effect}
use Rattle.machine.specs.declared.function.Function.{Function}
use Rattle.machine.specs.declared.did.Did.{Did}
use Rattle.machine.specs.declared.word.Word.{Word}
use Rattle.machine.specs.Decoded.{instr_in}
use Rattle.machine.specs.Frames.{showing}
use Rattle.machine.specs.Memory.{NeedsNone}
use Rattle.machine.specs.Words.{Does, IsStep, pc_of, number_of}

same_pc : (m : State) (pc : ℕ) → m.top.pc ≡ pc → Goes m ≡ Goes (at_pc m pc)
same_pc m pc is = subst (λ n. Goes m ≡ Goes (at_pc m n)) is refl

-- a step is a jump to the pc behind it
pub step_does : {act : State → Effect} {old new : HeapState} {f : Function} {before behind : List Value} {pc : ℕ} (did : Did) → IsStep did → Does act old new f before behind pc did → Does act old new f before behind pc (Did.Jumps (pc_of did pc))
step_does {act} {old} {new} {f} {before} {behind} {pc} Did.Next step does = record {
  is = λ m runs. does.is m runs ∙ same_pc (showing m new behind) pc runs.pc_is;
  known = tt;
  awaited = tt;
  registers = does.registers;
  length_is = does.length_is;
  keeps = does.keeps;
  only_store = does.only_store;
}
step_does (Did.Jumps next) step does = does
step_does did step does = absurd step

-- to this pc
pub step_at : {act : State → Effect} {h : HeapState} {f : Function} {before behind : List Value} {pc : ℕ} (did : Did) (next : ℕ) → IsStep did → next ≡ pc_of did pc → Does act h h f before behind pc did → Does act h h f before behind pc (Did.Jumps next)
step_at {act} {h} {f} {before} {behind} {pc} did next step at does =
    let P : ℕ → Type 0 = λ n. Does act h h f before behind pc (Did.Jumps n) in
    subst P (sym at) (step_does did step does)

-- where the word's opcode is this one, and it went on to this pc
pub done_does : {h : HeapState} {f : Function} {before behind : List Value} {pc : ℕ} (i : Instr) (o : Op) (did : Did) (next : ℕ) → i.op ≡ o → IsStep did → next ≡ pc_of did pc → Does (λ m. effect o m i) h h f before behind pc did → Does (λ m. effect i.op m i) h h f before behind pc (Did.Jumps next)
done_does {h} {f} {before} {behind} {pc} i o did next is step at does =
    let P : Op → Type 0 = λ x. Does (λ m. effect x m i) h h f before behind pc (Did.Jumps next) in
    subst P (sym is) (step_at did next step at does)

pub for_op : {old new : HeapState} {f : Function} {before behind : List Value} {pc : ℕ} {did : Did} (i : Instr) (o : Op) → i.op ≡ o → Does (λ m. effect o m i) old new f before behind pc did → Does (λ m. effect i.op m i) old new f before behind pc did
for_op {old} {new} {f} {before} {behind} {pc} {did} i o is does =
    let P : Op → Type 0 = λ x. Does (λ m. effect x m i) old new f before behind pc did in
    subst P (sym is) does

-- the same of a word whose fields were read
pub done_word : {h : HeapState} {f : Function} {before behind : List Value} {pc : ℕ} (w : Word) (i : Instr) → i ≡ instr_in w → (o : Op) (did : Did) (next : ℕ) → w.op ≡ o → IsStep did → next ≡ pc_of did pc → Does (λ m. effect o m i) h h f before behind pc did → Does (λ m. effect w.op m (instr_in w)) h h f before behind pc (Did.Jumps next)
done_word {h} {f} {before} {behind} {pc} w i same o did next is step at does =
    let P : Instr → Type 0 = λ x. Does (λ m. effect o m x) h h f before behind pc did in
    done_does (instr_in w) o did next is step at (subst P same does)

pub for_word : {old new : HeapState} {f : Function} {before behind : List Value} {pc : ℕ} {did : Did} (w : Word) (i : Instr) → i ≡ instr_in w → (o : Op) → w.op ≡ o → Does (λ m. effect o m i) old new f before behind pc did → Does (λ m. effect w.op m (instr_in w)) old new f before behind pc did
for_word {old} {new} {f} {before} {behind} {pc} {did} w i same o is does =
    let P : Instr → Type 0 = λ x. Does (λ m. effect o m x) old new f before behind pc did in
    for_op (instr_in w) o is (subst P same does)

pub needs_word : (w : Word) (i : Instr) → i ≡ instr_in w → (o : Op) → w.op ≡ o → (m : State) → NeedsNone w.op m (instr_in w) → NeedsNone o m i
needs_word w i same o is m needs =
    let P : Op → Type 0 = λ x. NeedsNone x m (instr_in w) in
    let Q : Instr → Type 0 = λ x. NeedsNone o m x in
    subst Q (sym same) (subst P is needs)

pub if_some : {A : Type 0} (o : Option A) (P Q : A → Type 0) → ((a : A) → P a → Q a) → IfSome o P → IfSome o Q
if_some (Some a) P Q then p = then a p
if_some None P Q then p = p

-- a value that is a number is that number in every heap
pub numbered : (h : HeapState) (v : Value) (n : ℤ) → number_of v ≡ Some n → datum h v ≡ number n
numbered h (Value.Number x) n is = ap number (same_Some x n is)
numbered h Value.Nil n is = cc
numbered h (Value.Bool b) n is = cc
numbered h (Value.Text t) n is = cc
numbered h (Value.Table t) n is = cc
numbered h (Value.Closure t) n is = cc
numbered h (Value.Native t) n is = cc
numbered h (Value.Host t) n is = cc

pub on_some : {A : Type 0} (o : Option A) (P : A → Type 0) (R : Type 0) → ((a : A) → P a → R) → IfSome o P → OnSome o R
on_some (Some a) P R then p = then a p
on_some None P R then p = tt

pub none_weaker : {A : Type 0} (o : Option A) (P Q : Type 0) → (P → Q) → IfNone o P → IfNone o Q
none_weaker (Some a) P Q then p = tt
none_weaker None P Q then p = then p

pub if_none : {A : Type 0} (o : Option A) (P : Type 0) → P → IfNone o P
if_none (Some a) P p = tt
if_none None P p = p

pub same_number : (x y : ℤ) → Some (number x) ≡ Some (number y) → x ≡ y
same_number x y is = cc
