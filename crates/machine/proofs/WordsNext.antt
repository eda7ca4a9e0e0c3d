-- The word that is done next: what is read, and what a word that was done in place comes to.
use Rattle.std.proofs.Common.{◌≡◌, ◌∙◌, ◌+◌, ◌<◌, ℕ, suc, Bool, true, false, List, length, Option, Some, None, refl, sym, ap, subst, arith}
use Rattle.std.specs.Prelude.{get_or, slice_get, option_and_then, if◌then◌else◌}
use Rattle.std.proofs.lemmas.Option.{slice_get_within, slice_get-get_or, slice_get_read, same_Some}
use Rattle.opcode.specs.Reading.{instr_of}
use Rattle.opcode.specs.declared.word.Instr.{Instr}
use Rattle.proto.specs.Chunk.{Chunk}
use Rattle.lua_heap.specs.State.{Keeps}
use Rattle.rules.specs.State.{need, at_pc}
use Rattle.rules.specs.Words.{instr_at}
use Rattle.rules.specs.Places.{is_further}
use Rattle.rules.specs.Run.{Going, current, after}
use Rattle.rules.specs.Step.{effect}
use Rattle.machine.specs.declared.function.Function.{Function}
use Rattle.machine.specs.declared.running.Running.{Running}
use Rattle.machine.specs.declared.word.Word.{Word}
use Rattle.machine.specs.Decoded.{instr_in}
use Rattle.machine.specs.Memory.{NeedsNone, NeedsNoneNext}
use Rattle.machine.specs.Ready.{FitsHere, GoesNext, GoesOn, HasWord, IsReady, with_pc}
use Rattle.machine.specs.Seen.{Around, seen}
use Rattle.machine.specs.Whole.{IsSafe, IsWhole}
use Rattle.machine.proofs.FramesAbove.{loaded_at}
use Rattle.machine.proofs.SeenStates.{safe_at}

pub safe_behind_word : (fs : List Function) (k : Running) (pc : ℕ) → IsSafe fs k → IsSafe fs (with_pc k pc)
safe_behind_word fs k pc safe = safe_at fs k pc k.top.results safe safe.top_frame.results

-- what is done next is the instruction at the pc
pub no_further : (b : Bool) (o : Option Instr) (i : Instr) → (if b then None else o) ≡ Some i → o ≡ Some i
no_further true o i e = cc
no_further false o i e = e

-- it is what the rules do next, where they go on
pub word_next : (c : Chunk) (a : Around) (fs : List Function) (f : Function) (k : Running) (i j : Instr) → IsWhole c fs k → slice_get fs k.top.function ≡ Some f → option_and_then instr_of (slice_get f.code.items k.top.pc) ≡ Some i → current (seen c a k) ≡ Some j → current (seen c a k) ≡ Some i
word_next c a fs f k i j whole at word next =
    let m = seen c a k in
    let pc = k.top.pc in
    let loaded = loaded_at c k.heap fs k.top.function f whole.loaded whole.safe.top_frame.function at in
    next ∙ sym (no_further (is_further m.top.function pc) (instr_at m.top.function pc) j next) ∙ ap (λ code. option_and_then instr_of (slice_get code pc)) (sym loaded.code) ∙ word

pub whole_behind_word : (c : Chunk) (fs : List Function) (k : Running) (pc : ℕ) → IsWhole c fs k → IsWhole c fs (with_pc k pc)
whole_behind_word c fs k pc whole = record { safe = safe_behind_word fs k pc whole.safe; loaded = whole.loaded }

-- the word that is done next, where its function was read with some other value for none
pub ready_word : (fs : List Function) (k : Running) (other : Function) → IsSafe fs k → IsReady fs k → HasWord fs (get_or fs k.top.function other) k
ready_word fs k other safe ready = ready (get_or fs k.top.function other) (slice_get-get_or fs k.top.function other safe.top_frame.function)

pub word_there : (fs : List Function) (f : Function) (k : Running) → HasWord fs f k → k.top.pc < length f.words.items
word_there fs f k word = slice_get_within f.words.items k.top.pc word.word word.has

-- what was read is its instruction
pub word_decoded : (fs : List Function) (f : Function) (k : Running) (x : Word) → HasWord fs f k → x ≡ get_or f.words.items k.top.pc x → option_and_then instr_of (slice_get f.code.items k.top.pc) ≡ Some (instr_in x)
word_decoded fs f k x word read =
    let found = slice_get_read f.words.items (length f.words.items) k.top.pc x refl (word_there fs f k word) read in
    word.at ∙ ap Some (sym word.means ∙ ap instr_in (same_Some word.word x (sym word.has ∙ found)))

-- and may be done
pub word_fits : (fs : List Function) (f : Function) (k : Running) (i : Instr) → HasWord fs f k → option_and_then instr_of (slice_get f.code.items k.top.pc) ≡ Some i → FitsHere fs f (with_pc k (k.top.pc + 1)) i
word_fits fs f k i word is =
    let behind_it : suc k.top.pc ≡ k.top.pc + 1 = omega arith in
    subst (λ n. FitsHere fs f (with_pc k n) i) behind_it (subst (λ (x : Instr). FitsHere fs f (with_pc k (suc k.top.pc)) x) (same_Some word.i i (sym word.at ∙ is)) word.fits)

-- what the word asks of the machine whose pc is behind it
pub fits_behind : (fs : List Function) (old : Running) (i : Instr) (other : Function) (x : Word) → IsSafe fs old → IsReady fs old → x ≡ get_or (get_or fs old.top.function other).words.items old.top.pc x → i ≡ instr_in x → (f : Function) → slice_get fs old.top.function ≡ Some f → FitsHere fs f (with_pc old (old.top.pc + 1)) i
fits_behind fs old i other x safe ready read decoded f at =
    let here = get_or fs old.top.function other in
    let word = ready_word fs old other safe ready in
    let is = word_decoded fs here old x word read ∙ ap Some (sym decoded) in
    let same = same_Some here f (sym (slice_get-get_or fs old.top.function other safe.top_frame.function) ∙ at) in
    subst (λ (x : Function). FitsHere fs x (with_pc old (old.top.pc + 1)) i) same (word_fits fs here old i word is)

-- a word that was done in place is a step in which nothing happened outside
pub next_in_place : (fs : List Function) (f : Function) (old new : Running) (i : Instr) → slice_get fs old.top.function ≡ Some f → option_and_then instr_of (slice_get f.code.items old.top.pc) ≡ Some i → GoesOn fs i (with_pc old (old.top.pc + 1)) new → GoesNext fs old new
next_in_place fs f old new i at word done =
    let pc = old.top.pc in
    let behind_it : pc + 1 ≡ suc pc = omega arith in
    let does = subst (λ n. GoesOn fs i (with_pc old n) new) behind_it done in
    let is_new = does.is in
    record {
      is = λ c a j whole next.
          let m = seen c a old in
          ap (λ o. after m (need o (λ i. effect i.op (at_pc m (suc pc)) i))) (word_next c a fs f old i j whole at word next)
          ∙ ap (after m) (does.does.is c a (whole_behind_word c fs old (suc pc) whole))
          ∙ ap (λ k. Going (seen c a k)) (sym is_new);
      safe = λ safe. subst (IsSafe fs) (sym is_new) (safe_behind_word fs does.between does.next (does.does.safe (safe_behind_word fs old (suc pc) safe)));
      keeps = subst (λ (k : Running). Keeps old.heap k.heap) (sym is_new) does.does.keeps;
      named = ap (λ k. k.heap.host_names) is_new ∙ does.does.named;
      pieces = ap (λ k. k.pieces) is_new ∙ does.does.pieces;
    }

-- a word that was not done in place is none that takes no memory
pub not_such : {P : Type 0} (fs : List Function) (f : Function) (old : Running) (i : Instr) → slice_get fs old.top.function ≡ Some f → option_and_then instr_of (slice_get f.code.items old.top.pc) ≡ Some i → ((c : Chunk) (a : Around) → IsWhole c fs (with_pc old (old.top.pc + 1)) → NeedsNone i.op (seen c a (with_pc old (old.top.pc + 1))) i → ⊥) → (c : Chunk) (a : Around) → IsWhole c fs old → NeedsNoneNext (seen c a old) → P
not_such fs f old i at word taken c a whole (j, next, needs) =
    let pc = old.top.pc in
    let same = same_Some j i (sym next ∙ word_next c a fs f old i j whole at word next) in
    let here = subst (λ (x : Instr). NeedsNone x.op (seen c a (with_pc old (suc pc))) x) same needs in
    let behind_it : suc pc ≡ pc + 1 = omega arith in
    absurd (taken c a (whole_behind_word c fs old (pc + 1) whole) (subst (λ n. NeedsNone i.op (seen c a (with_pc old n)) i) behind_it here))
