-- Words in the topmost frame, as what they did to all that is seen.
use Rattle.std.proofs.Common.{◌≡◌, ◌∙◌, ◌<◌, ◌-◌, ℕ, zero, suc, List, [], ◌∷◌, length, take, drop, map, Option, Some, Result, Ok, Err, refl, sym, ap, subst, arith}
use Rattle.std.specs.Result.{IfOk, OnOk}
use Rattle.std.specs.Prelude.{slice_get, option_map}
use Rattle.proto.specs.Chunk.{Chunk}
use Rattle.lua_model.specs.declared.Value.{Value}
use Rattle.lua_heap.specs.State.{HeapState}
use Rattle.rules.specs.State.{State, Effect, with_results}
use Rattle.upvalue.specs.State.{StackState, top, below, with_top, in_a_row, size}
use Rattle.upvalue.specs.Shared.{Shares}
use Rattle.machine.specs.declared.function.Function.{Function}
use Rattle.machine.specs.declared.running.Running.{Running}
use Rattle.machine.specs.declared.did.OpenResults.{OpenResults}
use Rattle.machine.specs.declared.did.Did.{Did}
use Rattle.machine.specs.Frames.{results_of, effect_of}
use Rattle.machine.specs.Seen.{Around, seen}
use Rattle.machine.specs.Whole.{IsSafe, IsWhole, DoesSeen}
use Rattle.machine.specs.Words.{Runs, IsAwaited, Does, DoesWith}
use Rattle.machine.proofs.SeenStates.{behind_word, safe_behind, safe_at, sizes-with_top, same_top, word_is}
use Rattle.machine.proofs.LentRegisters.{shares_on}
use Rattle.machine.proofs.LeftByWords.{left_in, does_top, top_alone, still_shares}
use Rattle.machine.proofs.FramesAbove.{loaded_at}

-- the function of the topmost frame runs
pub top_runs : (c : Chunk) (a : Around) (fs : List Function) (k : Running) (f : Function) → IsWhole c fs k → slice_get fs k.top.function ≡ Some f → Runs (seen c a k) k.heap f k.top.pc
top_runs c a fs k f whole at =
    let loaded = loaded_at c k.heap fs k.top.function f whole.loaded whole.safe.top_frame.function at in
    record { pc_is = refl; code = sym loaded.code; constants = loaded.constants }

function_there : (fs : List Function) (n : ℕ) → n < length fs → (f : Function) × (slice_get fs n ≡ Some f)
function_there [] n within = absurd (omega (arith, within))
function_there (f ∷ fs) zero within = (f, refl)
function_there (f ∷ fs) (suc n) within = function_there fs n (omega (arith, within))

-- the topmost frame has a function
pub top_function : (fs : List Function) (k : Running) → IsSafe fs k → (f : Function) × (slice_get fs k.top.function ≡ Some f)
top_function fs k safe = function_there fs k.top.function safe.top_frame.function

-- what a call that did its work ensures, put together
pub if_all : {T E : Type 0} (r : Result T E) (P R : T → Type 0) (Q S : Type 0) → ((x : T) → P x → Q → S → R x) → IfOk r P → OnOk r Q → OnOk r S → IfOk r R
if_all (Ok x) P R Q S leads p q s = leads x p q s
if_all (Err e) P R Q S leads p q s = p

awaited_there : (fs : List Function) (n : ℕ) (f : Function) (registers : List Value) (pc : ℕ) (did : Did) → slice_get fs n ≡ Some f → IsAwaited f registers pc did → (g : Function) → slice_get fs n ≡ Some g → IsAwaited g registers pc did
awaited_there fs n f registers pc did at awaited g other =
    let same : f ≡ g = cc in
    subst (λ (x : Function). IsAwaited x registers pc did) same awaited

as_many : (old now : List (List Value)) → now ≡ with_top old (top now) → length (top now) ≡ length (top old) → map (λ (vs : List Value). length vs) old ≡ map (λ (vs : List Value). length vs) now
as_many old now frames long = sizes-with_top old (top now) long ∙ sym (ap (map (λ (vs : List Value). length vs)) frames)

-- a word that worked on the registers of the topmost frame and the heap
pub does_seen : (fs : List Function) (effect : State → Effect) (old : Running) (heap : HeapState) (stack : StackState) (f : Function) (did : Did) → slice_get fs old.top.function ≡ Some f → Does effect old.heap heap f (top old.stack.frames) (top stack.frames) old.top.pc did → stack.frames ≡ with_top old.stack.frames (top stack.frames) → (Shares old.stack old.heap → Shares stack heap) → DoesSeen fs effect old (record old { heap = heap; stack = stack }) did
does_seen fs effect old heap stack f did at does frames shares = record {
  is = λ c a whole. word_is c a fs old heap stack f effect old.top.pc did whole.safe (top_runs c a fs old f whole at) does frames;
  safe = λ safe. safe_behind fs old heap stack safe (shares safe.shares) does.keeps (ap (λ (h : HeapState). h.closures) does.only_store) (as_many old.stack.frames stack.frames frames does.length_is);
  known = does.known;
  awaited = awaited_there fs old.top.function f (top stack.frames) old.top.pc did at does.awaited;
  keeps = does.keeps;
  named = ap (λ (h : HeapState). h.host_names) does.only_store;
  pieces = refl;
}

-- the same, where the registers were lent
pub lent_seen : (fs : List Function) (effect : State → Effect) (old : Running) (heap : HeapState) (f : Function) (base : ℕ) (row now : List Value) (did : Did) → slice_get fs old.top.function ≡ Some f → base ≡ size (below old.stack.frames) → row ≡ in_a_row old.stack.frames → Does effect old.heap heap f (take (length row - base) (drop base row)) now old.top.pc did → DoesSeen fs effect old (record old { heap = heap; stack = left_in old.stack base row now }) did
lent_seen fs effect old heap f base row now did at b r does =
    let stack = old.stack in
    let pc = old.top.pc in
    does_seen fs effect old heap (left_in stack base row now) f did at
    (does_top stack old.heap heap f effect base row now pc did b r does)
    (top_alone stack old.heap heap f effect base row now pc did b r does)
    (still_shares stack old.heap heap f effect base row now pc did b r does)

-- a word that worked on the heap and the open results, and read the registers of the topmost frame
pub does_with_seen : (fs : List Function) (effect : State → Effect) (old : Running) (heap : HeapState) (registers : List Value) (left : Option OpenResults) (f : Function) (did : Did) → slice_get fs old.top.function ≡ Some f → registers ≡ top old.stack.frames → DoesWith effect old.heap heap f registers registers old.top.results left old.top.pc did → DoesSeen fs effect old (record old { heap = heap; top = record old.top { results = left } }) did
does_with_seen fs effect old heap registers left f did at are does_read =
    let does : DoesWith effect old.heap heap f (top old.stack.frames) (top old.stack.frames) old.top.results left old.top.pc did =
    subst (λ (vs : List Value). DoesWith effect old.heap heap f vs vs old.top.results left old.top.pc did) are does_read in
    let closures = ap (λ (h : HeapState). h.closures) does.only_store in
    let cells = ap (λ (h : HeapState). h.cells) does.only_store in
    let itself = same_top old.stack.frames in
    record {
      is = λ c a whole.
          does.is (seen c a old) (top_runs c a fs old f whole at) refl
          ∙ ap (λ m. effect_of heap did (with_results m (option_map (results_of heap) left))) (sym (behind_word c a fs old heap old.stack whole.safe does.keeps closures cells itself));
      safe = λ safe.
          safe_at fs (record old { heap = heap }) old.top.pc left
          (safe_behind fs old heap old.stack safe (shares_on old.stack old.heap heap does.keeps cells safe.shares) does.keeps closures refl)
          does.results;
      known = does.known;
      awaited = awaited_there fs old.top.function f (top old.stack.frames) old.top.pc did at does.awaited;
      keeps = does.keeps;
      named = ap (λ (h : HeapState). h.host_names) does.only_store;
      pieces = refl;
    }

-- a word whose effect is a known one at this pc
pub seen_from : (fs : List Function) (effect next : State → Effect) (old new : Running) (pc : ℕ) (did : Did) → ((c : Chunk) (a : Around) → IsWhole c fs old → effect (seen c a old) ≡ next (seen c a (record old { top = record old.top { pc = pc } }))) → DoesSeen fs next (record old { top = record old.top { pc = pc } }) new did → DoesSeen fs effect old new did
seen_from fs effect next old new pc did leads does = record {
  is = λ c a whole. leads c a whole ∙ does.is c a (record { safe = at_pc whole.safe; loaded = whole.loaded });
  safe = λ safe. does.safe (at_pc safe);
  known = does.known;
  awaited = does.awaited;
  keeps = does.keeps;
  named = does.named;
  pieces = does.pieces;
}
  where
    at_pc : IsSafe fs old → IsSafe fs (record old { top = record old.top { pc = pc } })
    at_pc safe = safe_at fs old pc old.top.results safe safe.top_frame.results
