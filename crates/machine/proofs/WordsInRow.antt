-- Words in a row, whose pc is kept beside the machine.
use Rattle.std.proofs.Common.{◌≡◌, ◌∙◌, ◌+◌, ◌<◌, ℕ, suc, List, length, Option, Some, None, IfSome, OnSome, refl, sym, subst, arith}
use Rattle.std.specs.Prelude.{get_or, slice_get, option_and_then}
use Rattle.std.proofs.lemmas.Option.{slice_get_read, same_Some}
use Rattle.opcode.specs.Reading.{instr_of}
use Rattle.opcode.specs.declared.word.Instr.{Instr}
use Rattle.proto.specs.Chunk.{Chunk}
use Rattle.rules.specs.State.{State}
use Rattle.upvalue.specs.State.{top}
use Rattle.machine.specs.declared.function.Function.{Function}
use Rattle.machine.specs.declared.running.Running.{Running}
use Rattle.machine.specs.declared.word.Word.{Word}
use Rattle.machine.specs.Decoded.{instr_in}
use Rattle.machine.specs.Fits.{IsOther}
use Rattle.machine.specs.Frames.{showing}
use Rattle.machine.specs.Memory.{NeedsNone, NeedsNoneNext}
use Rattle.machine.specs.Ready.{FitsAt, FitsHere, GoesNext, GoesOn, GoesSteps, HasWord, IsOtherNext, IsReadyOnwards, with_pc}
use Rattle.machine.specs.Seen.{Around, seen}
use Rattle.machine.specs.Whole.{IsSafe, IsWhole}
use Rattle.machine.specs.Words.{Runs}
use Rattle.machine.proofs.SeenWords.{top_runs}
use Rattle.machine.proofs.WordsNext.{next_in_place, not_such, safe_behind_word, word_decoded, word_fits, word_there}

-- what a call that did its work ensures, put together
pub if_some_all : {T : Type 0} (o : Option T) (P R : T → Type 0) (Q S : Type 0) → ((x : T) → P x → Q → S → R x) → IfSome o P → OnSome o Q → OnSome o S → IfSome o R
if_some_all (Some x) P R Q S leads p q s = leads x p q s
if_some_all None P R Q S leads p q s = p

-- the function that was read for the topmost frame is its function
pub row_function : (fs : List Function) (f : Function) (k : Running) → IsSafe fs k → f ≡ get_or fs k.top.function f → slice_get fs k.top.function ≡ Some f
row_function fs f k safe read = slice_get_read fs (length fs) k.top.function f refl safe.top_frame.function read

-- after so many words
module _ (fs : List Function) (f : Function) (old k : Running) (pc n : ℕ) (ready : IsReadyOnwards fs old) (went : GoesSteps fs n old (with_pc k pc)) (at : slice_get fs k.top.function ≡ Some f) where
  -- there is a word at the pc
  word : HasWord fs f (with_pc k pc)
  word = ready n (with_pc k pc) went f at

  pub row_there : pc < length f.words.items
  row_there = word_there fs f (with_pc k pc) word

  module _ (x : Word) (read : x ≡ get_or f.words.items pc x) where
    is_word : option_and_then instr_of (slice_get f.code.items pc) ≡ Some (instr_in x)
    is_word = word_decoded fs f (with_pc k pc) x word read

    -- that may be done
    pub row_fits : IsSafe fs (with_pc k pc) → FitsAt f k (pc + 1) (instr_in x)
    row_fits safe = record {
      functions = fs;
      safe = safe_behind_word fs (with_pc k pc) k.top.pc safe;
      at = at;
      fits = word_fits fs f (with_pc k pc) (instr_in x) word is_word;
    }

    row_fits_there : (g : Function) → slice_get fs k.top.function ≡ Some g → FitsHere fs g (with_pc k (pc + 1)) (instr_in x)
    row_fits_there g there =
        let P : Function → Type 0 = λ h. FitsHere fs h (with_pc k (pc + 1)) (instr_in x) in
        subst P (same_Some f g (sym at ∙ there)) (word_fits fs f (with_pc k pc) (instr_in x) word is_word)

    -- and is one word more, where it was done
    pub row_further : (new : Running) → GoesOn fs (instr_in x) (with_pc k (pc + 1)) new → IsSafe fs (with_pc k pc) → GoesSteps fs (n + 1) old new × IsSafe fs new
    row_further new done safe =
        let next : GoesNext fs (with_pc k pc) new = next_in_place fs f (with_pc k pc) new (instr_in x) at is_word done in
        let behind_it : suc n ≡ n + 1 = omega arith in
        (subst (λ m. GoesSteps fs m old new) behind_it (with_pc k pc, went, next), next.safe safe)

    -- also where the frame that it was done in is left, or another is made
    pub row_crossed : (behind new : Running) → behind ≡ k → GoesOn fs (instr_in x) (with_pc behind (pc + 1)) new → IsSafe fs (with_pc k pc) → GoesSteps fs (n + 1) old new × IsSafe fs new
    row_crossed behind new same done safe =
        let P : Running → Type 0 = λ r. GoesOn fs (instr_in x) (with_pc r (pc + 1)) new in
        row_further new (subst P same done) safe

    -- what it asks of the machine whose pc is behind it
    pub row_asks : (behind : Running) → behind ≡ k → IsSafe fs (with_pc k pc) → IsSafe fs (with_pc behind (pc + 1)) × ((g : Function) → slice_get fs behind.top.function ≡ Some g → FitsHere fs g (with_pc behind (pc + 1)) (instr_in x))
    row_asks behind same safe =
        let P : Running → Type 0 = λ r. IsSafe fs (with_pc r (pc + 1)) × ((g : Function) → slice_get fs r.top.function ≡ Some g → FitsHere fs g (with_pc r (pc + 1)) (instr_in x)) in
        subst P (sym same) (safe_behind_word fs (with_pc k pc) (pc + 1) safe, row_fits_there)

    -- or is none that takes no memory, where it was not done
    pub row_not_such : ((m : State) → Runs m k.heap f (pc + 1) → NeedsNone x.op (showing m k.heap (top k.stack.frames)) (instr_in x) → ⊥) → (c : Chunk) (a : Around) → IsWhole c fs (with_pc k pc) → NeedsNoneNext (seen c a (with_pc k pc)) → ⊥
    row_not_such taken = not_such fs f (with_pc k pc) (instr_in x) at is_word (λ d b here. taken (seen d b (with_pc k (pc + 1))) (top_runs d b fs (with_pc k (pc + 1)) f here at))

    -- or is one that asks for more
    pub row_other : IsOther x.op → IsOtherNext fs (with_pc k pc)
    row_other other g j here there =
        let same_function : f ≡ g = cc in
        let found : option_and_then instr_of (slice_get f.code.items pc) ≡ Some j = subst (λ (h : Function). option_and_then instr_of (slice_get h.code.items pc) ≡ Some j) (sym same_function) there in
        subst (λ (i : Instr). IsOther i.op) (same_Some (instr_in x) j (sym is_word ∙ found)) other
