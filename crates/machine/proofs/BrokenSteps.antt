-- Where memory ran out within a word or within what it left to be done: the step tells first what had happened.
use Rattle.std.proofs.Common.{◌≡◌, ◌+◌, suc, List, [], ◌++◌, Option, None, Some, refl, sym, ap, subst, ◌∙◌, append_assoc, arith}
use Rattle.std.specs.Prelude.{slice_get, option_and_then}
use Rattle.opcode.specs.Reading.{instr_of}
use Rattle.opcode.specs.declared.op.Op.{Op}
use Rattle.opcode.specs.declared.word.Instr.{Instr}
use Rattle.proto.specs.Chunk.{Chunk}
use Rattle.lua_model.specs.declared.Value.{Value}
use Rattle.lua_model.specs.Store.{Event}
use Rattle.lua_heap.specs.State.{datum}
use Rattle.host.specs.Hosts.{HostSetState}
use Rattle.rules.specs.State.{State, Effect, Fails, need, at_pc}
use Rattle.rules.specs.Calls.{call, call_by}
use Rattle.rules.specs.Run.{after, current, step}
use Rattle.rules.specs.Step.{effect}
use Rattle.machine.specs.declared.function.Function.{Function}
use Rattle.machine.specs.declared.running.Running.{Running}
use Rattle.machine.specs.declared.did.Did.{Did}
use Rattle.machine.specs.declared.did.Landing.{Landing}
use Rattle.machine.specs.declared.did.OpenResults.{OpenResults}
use Rattle.machine.specs.Frames.{data_of, landing_of, effect_of}
use Rattle.machine.specs.Seen.{Around, seen}
use Rattle.machine.specs.Outside.{around, replies_in}
use Rattle.machine.specs.Called.{Enters, Lands}
use Rattle.machine.specs.Begun.{BeginsConf, BeginsEffect, KeepEvents, BrokeOff, BeginsCall, BeginsSeen, BeginsSettling, BeginsWhole}
use Rattle.machine.specs.Ready.{with_pc}
use Rattle.machine.specs.Settled.{DoesOutside}
use Rattle.machine.specs.Whole.{IsWhole}
use Rattle.machine.specs.Words.{AreResultsOf}
use Rattle.machine.proofs.BrokenOff.{first_none, replies_first, nothing_broke, broke_as, broke_behind, broke_later}
use Rattle.machine.proofs.EventsGrow.{first_itself, effect_begins, after_begins}
use Rattle.machine.proofs.SeenStates.{whole_later, safe_at}
use Rattle.machine.proofs.SettledSoFar.{SoFar}
use Rattle.machine.proofs.WordsNext.{word_next, whole_behind_word}

-- ---- words

not_begun : (fs : List Function) (o : Op) (i : Instr) (k : Running) (set : HostSetState) → BeginsSeen fs (λ m. effect o m i) k set []
not_begun fs o i k set c events left whole = effect_begins (events ++ []) o (seen c (around set events left) k) i (first_none events)

-- nothing had happened in it
pub no_effect : (fs : List Function) (o : Op) (i : Instr) (k : Running) (set : HostSetState) → BrokeOff (BeginsSeen fs (λ m. effect o m i) k set) set set
no_effect fs o i k set = nothing_broke (not_begun fs o i k set)

-- a call of it broke off
pub call_broke : (fs : List Function) (k : Running) (before behind : HostSetState) (f : Value) (args : List Value) (enters : Enters) (lands : Lands) → KeepEvents enters lands → BrokeOff (BeginsCall f args k.heap before) before behind → BrokeOff (BeginsSeen fs (λ m. call_by enters lands m (datum k.heap f) (data_of k.heap args)) k before) before behind
call_broke fs k before behind f args enters lands keep broke =
    broke_as {First = BeginsSeen fs (λ m. call_by enters lands m (datum k.heap f) (data_of k.heap args)) k before} {Next = BeginsCall f args k.heap before} (λ begun begins c events left whole. begins c enters lands (seen c (around before events (replies_in begun ++ left)) k) events left refl keep) broke

-- it goes on as this does, beside other open results
pub broke_with_results : (fs : List Function) (effect next : State → Effect) (k : Running) (results : Option OpenResults) (before behind : HostSetState) → AreResultsOf k.heap results → ((c : Chunk) (a : Around) → effect (seen c a k) ≡ next (seen c a (record k { top = record k.top { results = results } }))) → BrokeOff (BeginsSeen fs next (record k { top = record k.top { results = results } }) before) before behind → BrokeOff (BeginsSeen fs effect k before) before behind
broke_with_results fs effect next k results before behind known leads broke =
    broke_as {First = BeginsSeen fs effect k before} {Next = BeginsSeen fs next (record k { top = record k.top { results = results } }) before} (λ begun begins c events left whole.
    let a = around before events (replies_in begun ++ left) in
    let there : IsWhole c fs (record k { top = record k.top { results = results } }) = record { safe = safe_at fs k k.top.pc results whole.safe known; loaded = whole.loaded } in
    subst (BeginsEffect (events ++ begun)) (sym (leads c a)) (begins c events left there)) broke

-- ---- what is left to be done

-- a call broke off
pub settling_called : (fs : List Function) (first : Did) (start now : Running) (before between behind : HostSetState) (landing : Landing) (f : Value) (args : List Value) → SoFar fs first start now before between (Did.Calls landing f args) → BrokeOff (BeginsSeen fs (λ m. call (landing_of landing) m (datum now.heap f) (data_of now.heap args)) now between) between behind → BrokeOff (BeginsSettling fs first start before) before behind
settling_called fs first start now before between behind landing f args so broke =
    broke_later {First = BeginsSettling fs first start before} {Next = BeginsSeen fs (λ m. call (landing_of landing) m (datum now.heap f) (data_of now.heap args)) now between} so.happened (λ begun begins c m0 events left whole.
    let rest = replies_in begun ++ left in
    let there = seen c (around between (events ++ so.es) rest) now in
    let comes = (λ i. after m0 (effect_of start.heap first (seen c (around before events (replies_first so.es begun left i)) start))) ∙ so.is c m0 events rest whole in
    let begun_there = after_begins ((events ++ so.es) ++ begun) m0 (call (landing_of landing) there (datum now.heap f) (data_of now.heap args)) (begins c (events ++ so.es) left (whole_later c fs start now whole so.keeps (so.safe whole.safe))) in
    subst (λ es. BeginsConf es (after m0 (effect_of start.heap first (seen c (around before events (replies_in (so.es ++ begun) ++ left)) start)))) (append_assoc events so.es begun)
    (subst (BeginsConf ((events ++ so.es) ++ begun)) (sym comes) begun_there)) broke

-- a failure did not go down
pub settling_failed : (fs : List Function) (first : Did) (start now : Running) (before behind : HostSetState) (v : Value) → SoFar fs first start now before behind (Did.Fails v) → BrokeOff (BeginsSettling fs first start before) before behind
settling_failed fs first start now before behind v so =
    broke_behind {Begins = BeginsSettling fs first start before} so.happened (λ c m0 events left whole.
    let all = events ++ so.es in
    let there = seen c (around behind all left) now in
    subst (BeginsConf all) (sym (so.is c m0 events left whole)) (after_begins all m0 (Fails there (datum now.heap v)) (first_itself all)))

-- ---- steps

-- where a word is next
by_current : (es : List Event) (m : State) (o : Option Instr) → current m ≡ o → ((j : Instr) → current m ≡ Some j → BeginsConf es (step m)) → BeginsConf es (step m)
by_current es m None is some = subst (λ o. BeginsConf es (after m (need o (λ i. effect i.op (at_pc m (suc m.top.pc)) i)))) (sym is) tt
by_current es m (Some j) is some = some j is

module _ (fs : List Function) (f : Function) (old moved : Running) (i : Instr) (before : HostSetState) (at : slice_get fs old.top.function ≡ Some f) (word : option_and_then instr_of (slice_get f.code.items old.top.pc) ≡ Some i) (is_moved : moved ≡ with_pc old (old.top.pc + 1)) where
  moves : moved ≡ with_pc old (suc old.top.pc)
  moves =
      let behind_it : old.top.pc + 1 ≡ suc old.top.pc = omega arith in
      is_moved ∙ ap (with_pc old) behind_it

  step_is : (c : Chunk) (a : Around) (j : Instr) → IsWhole c fs old → current (seen c a old) ≡ Some j → step (seen c a old) ≡ after (seen c a old) (effect i.op (seen c a (with_pc old (suc old.top.pc))) i)
  step_is c a j whole next =
      let m = seen c a old in
      ap (λ o. after m (need o (λ i. effect i.op (at_pc m (suc old.top.pc)) i))) (word_next c a fs f old i j whole at word next)

  -- the word broke off
  pub word_broke : (behind : HostSetState) → BrokeOff (BeginsSeen fs (λ m. effect i.op m i) moved before) before behind → BrokeOff (BeginsWhole fs old before) before behind
  word_broke behind broke =
      broke_as {First = BeginsWhole fs old before} {Next = BeginsSeen fs (λ m. effect i.op m i) (with_pc old (suc old.top.pc)) before} (λ begun begins c events left whole.
      let a = around before events (replies_in begun ++ left) in
      let m = seen c a old in
      by_current (events ++ begun) m (current m) refl (λ j next.
      subst (BeginsConf (events ++ begun)) (sym (step_is c a j whole next))
      (after_begins (events ++ begun) m (effect i.op (seen c a (with_pc old (suc old.top.pc))) i) (begins c events left (whole_behind_word c fs old (suc old.top.pc) whole))))) (subst (λ (k : Running). BrokeOff (BeginsSeen fs (λ m. effect i.op m i) k before) before behind) moves broke)

  -- what it left to be done broke off
  pub settling_broke : (between : Running) (did : Did) (middle behind : HostSetState) → DoesOutside fs (λ m. effect i.op m i) moved between before middle did → BrokeOff (BeginsSettling fs did between middle) middle behind → BrokeOff (BeginsWhole fs old before) before behind
  settling_broke between did middle behind done broke =
      let does = subst (λ (k : Running). DoesOutside fs (λ m. effect i.op m i) k between before middle did) moves done in
      broke_later {First = BeginsWhole fs old before} {Next = BeginsSettling fs did between middle} does.happened (λ begun begins c events left whole.
      let rest = replies_in begun ++ left in
      let a = around before events (replies_in (does.es ++ begun) ++ left) in
      let m = seen c a old in
      let ready = whole_behind_word c fs old (suc old.top.pc) whole in
      let there = after m (effect_of between.heap did (seen c (around middle (events ++ does.es) rest) between)) in
      let begun_there = begins c m (events ++ does.es) left (whole_later c fs (with_pc old (suc old.top.pc)) between ready does.keeps (does.safe ready.safe)) in
      by_current (events ++ (does.es ++ begun)) m (current m) refl (λ j next.
      let comes : step m ≡ there =
      step_is c a j whole next
      ∙ (λ i1. after m (effect i.op (seen c (around before events (replies_first does.es begun left i1)) (with_pc old (suc old.top.pc))) i))
      ∙ ap (after m) (does.is c events rest ready)
      in
      subst (λ es. BeginsConf es (step m)) (append_assoc events does.es begun) (subst (BeginsConf ((events ++ does.es) ++ begun)) (sym comes) begun_there))) broke
