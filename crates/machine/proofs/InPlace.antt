-- A word that was done within its frame, as a step.
use Rattle.std.proofs.Common.{◌≡◌, ◌∙◌, ℕ, List, [], length, Some, refl, sym, ap, subst}
use Rattle.std.specs.Prelude.{slice_get}
use Rattle.std.proofs.lemmas.List.{append-nil}
use Rattle.opcode.specs.declared.op.Op.{Op}
use Rattle.opcode.specs.declared.word.Instr.{Instr}
use Rattle.host.specs.Hosts.{HostSetState}
use Rattle.rules.specs.State.{State, Effect}
use Rattle.rules.specs.Step.{effect}
use Rattle.upvalue.specs.State.{top, with_top}
use Rattle.upvalue.specs.Shared.{Shares}
use Rattle.machine.specs.declared.function.Function.{Function}
use Rattle.machine.specs.declared.running.Running.{Running}
use Rattle.machine.specs.declared.did.Did.{Did}
use Rattle.machine.specs.declared.word.Word.{Word}
use Rattle.machine.specs.Decoded.{instr_in}
use Rattle.machine.specs.Fits.{FitsFrame}
use Rattle.machine.specs.Frames.{effect_of}
use Rattle.machine.specs.Outside.{around}
use Rattle.machine.specs.Ready.{FitsHere, GoesOn, with_pc}
use Rattle.machine.specs.Seen.{seen, cells_in}
use Rattle.machine.specs.Settled.{DoesOutside}
use Rattle.machine.specs.Whole.{DoesSeen}
use Rattle.machine.specs.Words.{Does}
use Rattle.machine.proofs.SeenWords.{does_seen}

-- a word that did nothing outside
pub quiet : {fs : List Function} {act : State → Effect} {old new : Running} {set : HostSetState} {did : Did} → DoesSeen fs act old new did → DoesOutside fs act old new set set did
quiet {fs} {act} {old} {new} {set} {did} does = record {
  es = [];
  happened = record {
    pieces = ap (λ ps. ps.items) does.pieces ∙ sym (append-nil old.pieces.items);
    log = sym (append-nil set.log);
    names = refl;
    closes = refl;
  };
  is = λ c events left whole.
      does.is c (around set events left) whole
      ∙ ap (λ es. effect_of new.heap did (seen c (around set es left) new)) (sym (append-nil events));
  safe = does.safe;
  known = does.known;
  awaited = does.awaited;
  keeps = does.keeps;
  named = does.named;
}

-- what the word asks of the frame, where its opcode is this one
pub framed_as : (fs : List Function) (f : Function) (k : Running) (i : Instr) (o : Op) → i.op ≡ o → FitsHere fs f k i → FitsFrame o f (top k.stack.frames) k.top.results (length (cells_in k.heap k.top.closure)) k.top.pc i
framed_as fs f k i o is fits =
    let P : Op → Type 0 = λ x. FitsFrame x f (top k.stack.frames) k.top.results (length (cells_in k.heap k.top.closure)) k.top.pc i in
    subst P is fits.framed

-- a word that went on to the pc behind it
pub goes_on : {fs : List Function} {old new : Running} (i : Instr) (o : Op) → i.op ≡ o → DoesSeen fs (λ m. effect o m i) old new Did.Next → GoesOn fs i old new
goes_on {fs} {old} {new} i o is does = record {
  next = new.top.pc;
  between = new;
  does =
      let P : Op → Type 0 = λ x. DoesSeen fs (λ m. effect x m i) old new (Did.Jumps new.top.pc) in
      subst P (sym is) (record {
        is = does.is;
        safe = does.safe;
        known = tt;
        awaited = λ f at. tt;
        keeps = does.keeps;
        named = does.named;
        pieces = does.pieces;
      });
  is = refl;
}

-- the same of a word whose fields were read
pub goes_on_word : {fs : List Function} {old new : Running} (w : Word) (i : Instr) → i ≡ instr_in w → (o : Op) → w.op ≡ o → DoesSeen fs (λ m. effect o m i) old new Did.Next → GoesOn fs (instr_in w) old new
goes_on_word {fs} {old} {new} w i same o is does =
    let P : Instr → Type 0 = λ x. DoesSeen fs (λ m. effect o m x) old new Did.Next in
    goes_on (instr_in w) o is (subst P same does)

pub framed_as_word : (fs : List Function) (f : Function) (k : Running) (w : Word) (i : Instr) → i ≡ instr_in w → (o : Op) → w.op ≡ o → FitsHere fs f k (instr_in w) → FitsFrame o f (top k.stack.frames) k.top.results (length (cells_in k.heap k.top.closure)) k.top.pc i
framed_as_word fs f k w i same o is fits =
    let P : Instr → Type 0 = λ x. FitsFrame o f (top k.stack.frames) k.top.results (length (cells_in k.heap k.top.closure)) k.top.pc x in
    subst P (sym same) (framed_as fs f k (instr_in w) o is fits)

-- a word that worked on the registers of the topmost frame and the heap, with this pc behind it, and went on to another
pub quick_goes : (fs : List Function) (f : Function) (old new : Running) (pc next : ℕ) (i : Instr) → slice_get fs old.top.function ≡ Some f → new ≡ record old { heap = new.heap; stack = new.stack } → Does (λ m. effect i.op m i) old.heap new.heap f (top old.stack.frames) (top new.stack.frames) pc (Did.Jumps next) → new.stack.frames ≡ with_top old.stack.frames (top new.stack.frames) → Shares new.stack new.heap → GoesOn fs i (with_pc old pc) (with_pc new next)
quick_goes fs f old new pc next i at rest does frames shares = record {
  next = next;
  between = record (with_pc old pc) { heap = new.heap; stack = new.stack };
  does = does_seen fs (λ m. effect i.op m i) (with_pc old pc) new.heap new.stack f (Did.Jumps next) at does frames (λ _. shares);
  is = ap (λ k. with_pc k next) rest;
}
