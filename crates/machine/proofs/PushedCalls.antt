-- Calls of closures: which function is called, whether a frame of it may be put above, and what it comes to where none may.
use Rattle.std.proofs.Common.{◌≡◌, ℕ, zero, suc, ◌-◌, ◌<◌, ◌≤◌, List, [], ◌∷◌, length, map, reverse, get_or, Some, false, refl, sym, ap, subst, ◌∙◌, arith}
use Rattle.std.specs.Prelude.{slice_get, option_map, if◌then◌else◌}
use Rattle.std.proofs.lemmas.Bool.{lt-ltb, le-ltb}
use Rattle.std.proofs.lemmas.List.{length-reverse}
use Rattle.std.proofs.lemmas.List.Elements.{All-nil, All-cons, All-get_or}
use Rattle.std.proofs.lemmas.Option.{slice_get-map, slice_get-get_or, slice_get_read}
use Rattle.proto.specs.Chunk.{Chunk}
use Rattle.lua_model.specs.declared.ClosureId.{ClosureId}
use Rattle.lua_model.specs.declared.Value.{Value}
use Rattle.lua_model.specs.declared.Value.TheVariants.{Bool as Boolean}
use Rattle.lua_model.specs.Datum.{Datum}
use Rattle.lua_model.specs.Operators.{depth_limit, stack_overflow}
use Rattle.lua_heap.specs.State.{HeapState, datum, IsOf, AreOf, no_closure}
use Rattle.lua_heap.specs.Grown.{Grown}
use Rattle.lua_heap.proofs.Callers.{keeps_itself, keeps_both}
use Rattle.rules.specs.State as rules
use Rattle.rules.specs.State.{State, Effect, Fails}
use Rattle.rules.specs.Calls.{broke, begin, frame_of, failed_in, push}
use Rattle.upvalue.specs.State.{top, below, cell_of}
use Rattle.machine.specs.declared.function.Function.{Function}
use Rattle.machine.specs.declared.running.Running.{Running}
use Rattle.machine.specs.declared.did.Did.{Did}
use Rattle.machine.specs.Called.{worked_values}
use Rattle.machine.specs.Frames.{data_of, showing}
use Rattle.machine.specs.Seen.{Around, numbered, cells_in, closure_seen, seen}
use Rattle.machine.specs.Whole.{IsClosureOf, IsSafe, IsWhole, DoesSeen}
use Rattle.machine.proofs.SeenStates.{top_known, behind_change, length-frames_seen, whole_later, safe_behind}
use Rattle.machine.proofs.Showing.{shown_alike}
use Rattle.machine.proofs.LentRegisters.{shares_on}
use Rattle.machine.proofs.WorkedValues.{worked_is, worked_known}

-- ---- the closure that is called

abbrev pub called : Chunk → HeapState → ClosureId → ℕ → rules.Closure
called c h closure number = record { function = numbered c number; cells = cells_in h (Some closure) }

pub called_closure : (c : Chunk) (h : HeapState) (closure : ClosureId) (number : ℕ) → IsClosureOf h (Some closure) → number ≡ (get_or h.closures closure.index no_closure).function → slice_get (map (closure_seen c) h.closures) closure.index ≡ Some (called c h closure number)
called_closure c h closure number there is =
    slice_get-map (closure_seen c) h.closures closure.index
    ∙ ap (option_map (closure_seen c)) (slice_get-get_or h.closures closure.index no_closure there)
    ∙ ap (λ n. Some (called c h closure n)) (sym is)

pub called_function : (fs : List Function) (k : Running) (closure : ClosureId) (number : ℕ) → IsSafe fs k → IsClosureOf k.heap (Some closure) → number ≡ (get_or k.heap.closures closure.index no_closure).function → number < length fs
called_function fs k closure number safe there is =
    let within = All-get_or (λ f. f.function < length fs) k.heap.closures closure.index no_closure there safe.closures in
    omega (arith, is, within)

pub called_at : (fs : List Function) (k : Running) (closure : ClosureId) (number : ℕ) (f : Function) → IsSafe fs k → IsClosureOf k.heap (Some closure) → number ≡ (get_or k.heap.closures closure.index no_closure).function → f ≡ get_or fs number f → slice_get fs number ≡ Some f
called_at fs k closure number f safe there is read = slice_get_read fs (length fs) number f refl (called_function fs k closure number safe there is) read

-- ---- how many frames there are below

pub depth_seen : (c : Chunk) (a : Around) (k : Running) → length (seen c a k).below ≡ length k.below.items
depth_seen c a k = length-frames_seen c k.heap (reverse k.below.items) (below k.stack.frames) ∙ length-reverse k.below.items

module _ (landing : rules.Landing) (lands : State → List Datum → Effect) (p : ℕ) (m : State) (f : rules.Closure) (args : List Datum) where
  abbrev entering : Effect
  entering = begin (record m { top = frame_of f args landing p; below = m.top ∷ m.below })

  pub pushes : length m.below < depth_limit → push landing lands p m f args ≡ entering
  pushes few = ap (λ b. if b then entering else failed_in lands p m stack_overflow) (lt-ltb (length m.below) depth_limit few)

  pub overflows : depth_limit ≤ length m.below → push landing lands p m f args ≡ failed_in lands p m stack_overflow
  overflows many = ap (λ b. if b then entering else failed_in lands p m stack_overflow) (le-ltb (length m.below) depth_limit many)

-- ---- a heap of which only texts changed

module _ (fs : List Function) (old : Running) (heap : HeapState) (grown : Grown old.heap heap) where
  same_closures : heap.closures ≡ old.heap.closures
  same_closures = ap (λ (h : HeapState). h.closures) grown.only_texts

  same_cells : heap.cells ≡ old.heap.cells
  same_cells = ap (λ (h : HeapState). h.cells) grown.only_texts

  pub grown_seen : (c : Chunk) (a : Around) → IsSafe fs old → seen c a (record old { heap = heap }) ≡ seen c a old
  grown_seen c a safe =
      let m = seen c a old in
      let registers = top old.stack.frames in
      behind_change c a fs old heap old.stack safe grown.keeps same_closures refl
      ∙ ap (λ cells. record (showing m heap registers) { cells = map (cell_of old.stack.frames) cells }) same_cells
      ∙ shown_alike m old.heap heap registers grown.only_texts grown.keeps (top_known old.heap old.stack.frames safe.shares.known)

  pub grown_safe : IsSafe fs old → IsSafe fs (record old { heap = heap })
  grown_safe safe = safe_behind fs old heap old.stack safe (shares_on old.stack old.heap heap grown.keeps same_cells safe.shares) grown.keeps same_closures refl

  -- what was done with it was done with the one before
  pub does_grown : (effect : State → Effect) (new : Running) (did : Did) → DoesSeen fs effect (record old { heap = heap }) new did → DoesSeen fs effect old new did
  does_grown effect new did does = record {
    is = λ c a whole.
        let safe = grown_safe whole.safe in
        ap effect (sym (grown_seen c a whole.safe))
        ∙ does.is c a (whole_later c fs old (record old { heap = heap }) whole grown.keeps safe);
    safe = λ safe. does.safe (grown_safe safe);
    known = does.known;
    awaited = does.awaited;
    keeps = keeps_both old.heap heap new.heap grown.keeps does.keeps;
    named = does.named ∙ ap (λ (h : HeapState). h.host_names) grown.only_texts;
    pieces = does.pieces;
  }

-- what was done is the same by an effect that is equal there
pub does_alike : (fs : List Function) (effect next : State → Effect) (old new : Running) (did : Did) → ((c : Chunk) (a : Around) → IsWhole c fs old → effect (seen c a old) ≡ next (seen c a old)) → DoesSeen fs next old new did → DoesSeen fs effect old new did
does_alike fs effect next old new did alike does = record {
  is = λ c a whole. alike c a whole ∙ does.is c a whole;
  safe = does.safe;
  known = does.known;
  awaited = does.awaited;
  keeps = does.keeps;
  named = does.named;
  pieces = does.pieces;
}

-- ---- a failure within protected calls

pub broke_data : (h : HeapState) (p : ℕ) (v : Value) (d : Datum) (values : List Value) → datum h v ≡ d → values ≡ worked_values p (Boolean false ∷ v ∷ []) → data_of h values ≡ broke p d
broke_data h p v d values is are = ap (data_of h) are ∙ sym (worked_is h p (Boolean false ∷ v ∷ [])) ∙ ap (broke p) is

pub broke_known : (h : HeapState) (p : ℕ) (v : Value) (values : List Value) → IsOf h v → values ≡ worked_values p (Boolean false ∷ v ∷ []) → AreOf h values
broke_known h p v values known are =
    let both : AreOf h (Boolean false ∷ v ∷ []) = All-cons (IsOf h) (Boolean false) (v ∷ []) tt (All-cons (IsOf h) v [] known (All-nil (IsOf h))) in
    subst (AreOf h) (sym are) (worked_known h p (Boolean false ∷ v ∷ []) both)

pub failed_within : (lands : State → List Datum → Effect) (p : ℕ) (m : State) (v : Datum) → (p ≡ 0 → ⊥) → failed_in lands p m v ≡ lands m (broke (p - 1) v)
failed_within lands zero m v some = absurd (some refl)
failed_within lands (suc p) m v some =
    let e : p ≡ suc p - 1 = omega arith in
    ap (λ n. lands m (broke n v)) e

pub failure_does : (fs : List Function) (k : Running) (v : Value) → IsOf k.heap v → DoesSeen fs (λ m. Fails m (datum k.heap v)) k k (Did.Fails v)
failure_does fs k v known = record {
  is = λ c a whole. refl;
  safe = λ safe. safe;
  known = known;
  awaited = λ f at. tt;
  keeps = keeps_itself k.heap;
  named = refl;
  pieces = refl;
}
