-- What the verifier's rules give of the word that is done next, and of a run's steps one by one.
use Rattle.std.proofs.Common.{◌≡◌, inl, inr, ℕ, zero, suc, ◌+◌, ◌<◌, ◌≤◌, ℤ, true, false, cond, List, [], ◌∷◌, length, take, drop, Option, None, Some, refl, sym, ap, subst, ◌∙◌, true≢false, arith, ltb-false}
use Rattle.std.specs.Prelude.{slice_get, option_and_then, is_none}
use Rattle.std.proofs.lemmas.List.{length-map}
use Rattle.std.proofs.lemmas.Option.{slice_get_within}
use Rattle.opcode.specs.declared.op.Op.{Op}
use Rattle.opcode.specs.declared.word.Instr.{Instr}
use Rattle.opcode.specs.Reading.{instr_of}
use Rattle.proto.specs.Chunk.{Chunk, own, functions, function_at}
use Rattle.lua_model.specs.Store.{Host, Reply}
use Rattle.lua_model.specs.Builtins.{start as first_store}
use Rattle.lua_heap.specs.State.{datum}
use Rattle.rules.specs.declared.rule.Rule.{Rule}
use Rattle.rules.specs.Words.{instr_at}
use Rattle.rules.specs.Places.{upvalue_count, is_further, named_by_all}
use Rattle.rules.specs.Notes.{Registers}
use Rattle.rules.specs.Breaks.{reaches, breaks_function}
use Rattle.rules.specs.Sound.{Sound}
use Rattle.rules.specs.State.{State}
use Rattle.rules.specs.Run.{Conf, Going, Ended, Failed, Waiting, Stuck, current, step, run, start, ran}
use Rattle.rules.proofs.Lists.{and_second, not_true, or_first_false, or_second_false}
use Rattle.rules.proofs.Invariant.{BaseOf, Inv}
use Rattle.rules.proofs.Sharing as rules
use Rattle.rules.proofs.Words.{word, DoingOf, keeps, registers_kept}
use Rattle.rules.proofs.Closures.{captures_ok}
use Rattle.rules.proofs.NeverStuck.{has_instr, IsFine, step_fine, start_fine}
use Rattle.upvalue.specs.State.{top}
use Rattle.upvalue.proofs.Lists.{get_take}
use Rattle.machine.specs.declared.function.Function.{Function}
use Rattle.machine.specs.declared.running.Running.{Running}
use Rattle.machine.specs.Fits.{IsCapture, AreCaptures}
use Rattle.machine.specs.Loaded.{all_functions, IsLoadedAs}
use Rattle.machine.specs.Ready.{FitsHere, with_pc, IsReady}
use Rattle.machine.specs.Seen.{Around, numbered, cells_in, seen}
use Rattle.machine.specs.Whole.{IsWhole}
use Rattle.machine.proofs.DecodedWords.{decoded_at}
use Rattle.machine.proofs.FramesAbove.{loaded_at}
use Rattle.machine.proofs.Ranges.{doing, fits, fits_frame}

-- ---- further words

-- what the rules say of a further word is that it is a capture
as_capture : (s : State) (names : Registers) (op : Op) (a b c bx : ℕ) (sbx : ℤ) → rules.IsCapture s names op (word op a b c bx sbx) → IsCapture (length s.top.registers) (length s.top.cells) (Some (word op a b c bx sbx))
as_capture s names Op.Move a b c bx sbx is = inl (refl, is.0)
as_capture s names Op.GetUpval a b c bx sbx is = inr (refl, is)
as_capture s names _ a b c bx sbx is = absurd is

each_capture : (s : State) (names : Registers) (words : List ℕ) (k : ℕ) → k < length words → rules.AreCaptures s names words → IsCapture (length s.top.registers) (length s.top.cells) (option_and_then instr_of (slice_get words k))
each_capture s names [] k less are = absurd (omega (arith, less))
each_capture s names (w ∷ rest) zero less are =
    let i = are.0.0 in
    subst (IsCapture (length s.top.registers) (length s.top.cells)) (sym are.0.1) (as_capture s names i.op i.a i.b i.c i.bx i.sbx are.0.2)
each_capture s names (w ∷ rest) (suc k) less are = each_capture s names rest k (omega (arith, less)) are.1

slice_get-drop : (n : ℕ) (xs : List ℕ) (k : ℕ) → slice_get (drop n xs) k ≡ slice_get xs (n + k)
slice_get-drop zero xs k = let same : k ≡ 0 + k = omega arith in ap (slice_get xs) same
slice_get-drop (suc n) [] k = refl
slice_get-drop (suc n) (x ∷ xs) k =
    let same : suc (n + k) ≡ suc n + k = omega arith in
    slice_get-drop n xs k ∙ ap (slice_get (x ∷ xs)) same

-- those of a CLOSURE: as many as its function has upvalues
closure_captures : (s : State) (base : BaseOf s) (f : Function) (a b c bx : ℕ) (sbx : ℤ) → (own s.top.function).code ≡ f.code.items → DoingOf s base (word Op.Closure a b c bx sbx) → AreCaptures f (length s.top.registers) (length s.top.cells) (suc s.top.pc) (upvalue_count (function_at (functions s.top.function) bx))
closure_captures s base f a b c bx sbx code d k less =
    let i : Instr = word Op.Closure a b c bx sbx in
    let n = upvalue_count (function_at (functions s.top.function) bx) in
    let behind = drop (suc s.top.pc) (own s.top.function).code in
    let words = take n behind in
    let further = keeps s base i d Rule.FurtherWord refl in
    let long : n ≤ length words = ltb-false (length words) n (or_first_false _ _ further) in
    let within : k < length words = omega (arith, less, long) in
    let registers : reaches (length s.top.registers) (named_by_all Op.Move words) ≡ false = subst (λ size. reaches size (named_by_all Op.Move words) ≡ false) (sym base.size) (or_second_false _ _ (registers_kept s base i d)) in
    let upvalues : reaches (length s.top.cells) (named_by_all Op.GetUpval words) ≡ false = subst (λ size. reaches size (named_by_all Op.GetUpval words) ≡ false) (sym base.counted) (keeps s base i d Rule.Upvalue refl) in
    let at : slice_get words k ≡ slice_get f.code.items (suc s.top.pc + k) = get_take n behind k less ∙ slice_get-drop (suc s.top.pc) (own s.top.function).code k ∙ ap (λ ws. slice_get ws (suc s.top.pc + k)) code in
    subst (λ (o : Option ℕ). IsCapture (length s.top.registers) (length s.top.cells) (option_and_then instr_of o)) at (each_capture s (λ r. true) words k within (captures_ok s (λ r. true) words (or_second_false _ _ further) registers upvalues (λ r e. refl)))

-- ---- the function of a CLOSURE

some_there : (o : Option Chunk) → is_none o ≡ false → (g : Chunk) × (o ≡ Some g)
some_there None e = absurd (true≢false e)
some_there (Some g) e = (g, refl)

-- it is one of the functions
inner_function : (s : State) (base : BaseOf s) (i : Instr) → DoingOf s base i → i.op ≡ Op.Closure → (g : Chunk) × (function_at (functions s.top.function) i.bx ≡ Some g)
inner_function s base i d is =
    some_there (function_at (functions s.top.function) i.bx) (subst (λ op. breaks_function s.top.function op i ≡ false) is (keeps s base i d Rule.Function refl))

-- ---- the word that is to be done

-- a word is there
pub current_there : (c : Chunk) (a : Around) (functions : List Function) (k : Running) → IsWhole c functions k → Inv (seen c a k) → (i : Instr) × (current (seen c a k) ≡ Some i)
current_there c a fs k whole inv =
    let function = numbered c k.top.function in
    let i = has_instr function inv.base.known k.top.pc inv.ready.place in
    let solid : is_further function k.top.pc ≡ false = not_true _ (and_second _ _ inv.ready.place) in
    (i.0, ap (λ b. cond b None (instr_at function k.top.pc)) solid ∙ i.1)

module _ (c : Chunk) (a : Around) (fs : List Function) (k : Running) (whole : IsWhole c fs k) (inv : Inv (seen c a k)) (f : Function) (at : slice_get fs k.top.function ≡ Some f) (i : Instr) (here : current (seen c a k) ≡ Some i) where
  loaded : IsLoadedAs k.heap (all_functions c) (numbered c k.top.function) f
  loaded = loaded_at c k.heap fs k.top.function f whole.loaded whole.safe.top_frame.function at

  does : DoingOf (seen c a k) inv.base i
  does = doing (seen c a k) inv i here

  -- the function that a CLOSURE names, by its number
  named_function : (is : i.op ≡ Op.Closure) (n : ℕ) → slice_get f.inner.items i.bx ≡ Some n → slice_get (all_functions c) n ≡ Some (inner_function (seen c a k) inv.base i does is).0
  named_function is n named =
      sym (ap (option_and_then (slice_get (all_functions c))) named) ∙ loaded.inner i.bx ∙ (inner_function (seen c a k) inv.base i does is).1

  inner_within : i.op ≡ Op.Closure → (n : ℕ) → slice_get f.inner.items i.bx ≡ Some n → n < length fs
  inner_within is n named =
      let within = slice_get_within (all_functions c) n _ (named_function is n named) in
      omega (arith, within, whole.loaded.count)

  inner_captures : i.op ≡ Op.Closure → (n : ℕ) (g : Function) → slice_get f.inner.items i.bx ≡ Some n → slice_get fs n ≡ Some g → AreCaptures f (length (top k.stack.frames)) (length (cells_in k.heap k.top.closure)) (suc k.top.pc) g.upvalues
  inner_captures is n g named at_inner =
      let s = seen c a k in
      let inner = inner_function s inv.base i does is in
      let as_loaded = whole.loaded.each n inner.0 g (named_function is n named) at_inner in
      let count : upvalue_count (function_at (functions s.top.function) i.bx) ≡ g.upvalues = ap upvalue_count inner.1 ∙ sym as_loaded.upvalues in
      let cells = length (cells_in k.heap k.top.closure) in
      let closure : DoingOf s inv.base (word Op.Closure i.a i.b i.c i.bx i.sbx) = subst (λ op. DoingOf s inv.base (word op i.a i.b i.c i.bx i.sbx)) is does in
      subst (λ n. AreCaptures f (length (top k.stack.frames)) cells (suc k.top.pc) n) count
      (subst (λ n. AreCaptures f n cells (suc k.top.pc) (upvalue_count (function_at (functions s.top.function) i.bx))) (length-map (top k.stack.frames) (datum k.heap))
      (closure_captures s inv.base f i.a i.b i.c i.bx i.sbx (sym loaded.code) closure))

  fits_here : FitsHere fs f (with_pc k (suc k.top.pc)) i
  fits_here = record {
    plain = fits (seen c a k) inv k.heap f (top k.stack.frames) i here refl (sym loaded.code) loaded.constants loaded.room;
    framed = fits_frame (seen c a k) inv k.heap f (top k.stack.frames) i here refl (sym loaded.code) loaded.constants loaded.room k.top.results refl (all_functions c) loaded.inner;
    inner = inner_within;
    captures = inner_captures;
  }

-- it may be done
pub ready : (c : Chunk) (a : Around) (functions : List Function) (k : Running) → IsWhole c functions k → Inv (seen c a k) → IsReady functions k
ready c a fs k whole inv f at =
    let i = current_there c a fs k whole inv in
    let as_loaded = loaded c a fs k whole inv f at i.0 i.1 in
    let there : option_and_then instr_of (slice_get f.code.items k.top.pc) ≡ Some i.0 = ap (λ code. option_and_then instr_of (slice_get code k.top.pc)) as_loaded.code ∙ (does c a fs k whole inv f at i.0 i.1).at in
    let decoded = decoded_at f.code.items f.words.items k.top.pc i.0 as_loaded.words there in
    record {
      i = i.0;
      at = there;
      word = decoded.word;
      has = decoded.has;
      means = decoded.means;
      fits = fits_here c a fs k whole inv f at i.0 i.1;
    }

-- ---- runs

-- all is as it should be after so many steps
fine_after : (n : ℕ) (conf : Conf) → IsFine conf → IsFine (run n conf)
fine_after zero conf fine = fine
fine_after (suc n) (Going s) fine = fine_after n (step s) (step_fine s fine)
fine_after (suc n) (Ended store outside) fine = tt
fine_after (suc n) (Failed text store outside) fine = tt
fine_after (suc n) (Waiting s) fine = tt
fine_after (suc n) Stuck fine = fine

-- the state of a sound chunk's run is as it should be
pub inv_of_run : (c : Chunk) → Sound c → (hosts : List Host) (replies : List Reply) (n : ℕ) (m : State) → ran c hosts replies n ≡ Going m → Inv m
inv_of_run c sound hosts replies n m at =
    subst IsFine at (fine_after n (start c (first_store hosts) replies) (start_fine c sound (first_store hosts) replies))

-- the last step of a run
last_step : (n : ℕ) (conf : Conf) (m : State) → run n conf ≡ Going m → run (suc n) conf ≡ step m
last_step zero conf m at = ap (run 1) at
last_step (suc n) (Going s) m at = last_step n (step s) m at
last_step (suc n) (Ended store outside) m at = cc
last_step (suc n) (Failed text store outside) m at = cc
last_step (suc n) (Waiting s) m at = cc
last_step (suc n) Stuck m at = cc

pub one_more : (c : Chunk) (hosts : List Host) (replies : List Reply) (n : ℕ) (m : State) → ran c hosts replies n ≡ Going m → ran c hosts replies (suc n) ≡ step m
one_more c hosts replies n m at = last_step n (start c (first_store hosts) replies) m at

-- a run that ended, or failed
abbrev pub IsOver : Conf → Type 0
IsOver (Ended store outside) = Unit {0}
IsOver (Failed text store outside) = Unit {0}
IsOver _ = ⊥

-- no step is done after that
over_stays : (n : ℕ) (conf : Conf) → IsOver conf → run n conf ≡ conf
over_stays zero conf over = refl
over_stays (suc n) (Going s) over = absurd over
over_stays (suc n) (Ended store outside) over = refl
over_stays (suc n) (Failed text store outside) over = refl
over_stays (suc n) (Waiting s) over = absurd over
over_stays (suc n) Stuck over = absurd over

run_on : (n k : ℕ) (conf : Conf) → IsOver (run n conf) → run (n + k) conf ≡ run n conf
run_on zero k conf over =
    let same : 0 + k ≡ k = omega arith in
    ap (λ j. run j conf) same ∙ over_stays k conf over
run_on (suc n) k (Going s) over =
    let same : suc n + k ≡ suc (n + k) = omega arith in
    ap (λ j. run j (Going s)) same ∙ run_on n k (step s) over
run_on (suc n) k (Ended store outside) over = over_stays (suc n + k) (Ended store outside) over
run_on (suc n) k (Failed text store outside) over = over_stays (suc n + k) (Failed text store outside) over
run_on (suc n) k (Waiting s) over = absurd over
run_on (suc n) k Stuck over = absurd over

pub stays_ended : (c : Chunk) (hosts : List Host) (replies : List Reply) (n k : ℕ) → IsOver (ran c hosts replies n) → ran c hosts replies (n + k) ≡ ran c hosts replies n
stays_ended c hosts replies n k over = run_on n k (start c (first_store hosts) replies) over
