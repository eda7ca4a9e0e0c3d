use Rattle.std.proofs.Common.{◌≡◌, ◌∙◌, ◌+◌, ◌-◌, ◌<◌, ℕ, Vec, Global, suc, List, length, Option, Some, None, refl, sym, ap, subst, arith}
use Rattle.std.specs.Prelude.{slice_get, option_map}
use Rattle.std.proofs.lemmas.Option.{slice_get-map}
use Rattle.std.proofs.lemmas.Result.{IfOk-weaker}
use Rattle.lua_num.specs.Bytes.{Text}
use Rattle.host.specs.Hosts.{HostSetState}
use Rattle.opcode.specs.declared.op.Op.TheVariants as op
use Rattle.opcode.specs.declared.word.Instr.{Instr}
use Rattle.proto.specs.Chunk.{Chunk}
use Rattle.lua_model.specs.Datum.{Datum}
use Rattle.lua_model.specs.declared.Value.{Value}
use Rattle.lua_heap.specs.State.{HeapState, datum, Keeps, OnlyTables}
use Rattle.rules.proofs.Lists.{get_some}
use Rattle.rules.specs.State as rules
use Rattle.rules.specs.State.{State, Effect, Goes, register, open_at}
use Rattle.rules.specs.Calls.{call_by, entered, replace, push, land, tail_call}
use Rattle.rules.specs.Step.{effect, listed, count_of}
use Rattle.upvalue.specs.State.{top}
use Rattle.machine.specs.declared.function.Function.{Function}
use Rattle.machine.specs.declared.running.Running.{Running}
use Rattle.machine.specs.declared.did.Did.{Did}
use Rattle.machine.specs.declared.did.Did.TheVariants as done
use Rattle.machine.specs.declared.calling.Called.{Called}
use Rattle.machine.specs.declared.did.OpenResults.{OpenResults}
use Rattle.machine.specs.Fits.{FitsFrame}
use Rattle.machine.specs.Frames.{data_of}
use Rattle.machine.specs.Called.{IsCalledOf}
use Rattle.machine.specs.Settled.{DoesOutside}
use Rattle.machine.specs.Seen.{Around, cells_in, seen}
use Rattle.machine.specs.Whole.{IsSafe, DoesSeen}
use Rattle.machine.specs.Words.{AreResultsOf, IsListed, GivesList}
use Rattle.machine.proofs.Showing.{one_need}
use Rattle.machine.proofs.SeenStates.{safe_at}
use Rattle.machine.proofs.OutsideFirst.{stays, safe_outside, does_with_results, results_first, fails_first, enters_first}
use Rattle.machine.proofs.settling.tail_call.Goals as goal
use Rattle.machine.specs.Begun.{BeginsCall, BeginsSeen, BrokeOff}
use Rattle.machine.proofs.BrokenOff.{on_err}
use Rattle.machine.proofs.BrokenCalls.{call_broke_behind}
use Rattle.machine.proofs.BrokenSteps.{no_effect, call_broke, broke_with_results}
use Rattle.machine.proofs.EventsGrow.{tail_calls_keep}

abbrev FitsCall : Function → Running → Instr → Type 0
FitsCall f k i = FitsFrame op.TailCall f (top k.stack.frames) k.top.results (length (cells_in k.heap k.top.closure)) k.top.pc i

-- what the word asks of the frame
fits : (fs : List Function) (k : Running) (i : Instr) → IsSafe fs k → ((f : Function) → slice_get fs k.top.function ≡ Some f → FitsCall f k i) → (i.a < length (top k.stack.frames)) × (i.a < 256) × IsListed (top k.stack.frames) k.top.results (i.a + 1) (count_of i.b)
fits fs k i safe asked =
    let there = get_some fs k.top.function safe.top_frame.function in
    asked there.0 there.1

pub read-callee-requires : goal.read-callee-requires
read-callee-requires g c = (fits c.args.functions.now c.args.running.now c.args.i c.requires.safe c.requires.fits).0

pub overflow_add-i : goal.overflow_add-i
overflow_add-i g c =
    let low = (fits c.args.functions.now c.args.running.now c.args.i c.requires.safe c.requires.fits).1 in
    omega (arith, low)

pub listed-requires : goal.listed-requires
listed-requires g c =
    let i = c.args.i in
    let results = c.args.running.now.top.results in
    let values = top c.args.running.now.stack.frames in
    let is = (fits c.args.functions.now c.args.running.now i c.requires.safe c.requires.fits).2 in
    record { there = subst (λ (vs : List Value). IsListed vs results (i.a + 1) c.count_of.result) (sym c.registers-registers.ensures.values) (subst (IsListed values results (i.a + 1)) (sym c.count_of.ensures) is) }

pub invoke-requires-clause-f : goal.invoke-requires-clause-f
invoke-requires-clause-f g c = c.read-callee.ensures.known c.args.running.now.heap c.requires.safe.shares

pub invoke-requires-clause-args : goal.invoke-requires-clause-args
invoke-requires-clause-args g c =
    let h = c.args.running.now.heap in
    c.in_ok-args.ensures.known h (c.registers-registers.ensures.known h c.requires.safe.shares) c.requires.safe.top_frame.results

-- the arguments are listed, and the call is made where the open results may have been taken
module _ (fs : List Function) (old : Running) (i : Instr) (f : Value) (values : List Value) (count : Option ℕ) (args : List Value) (results : Option OpenResults) (values_are : values ≡ top old.stack.frames) (count_is : count ≡ count_of i.b) (at : slice_get (top old.stack.frames) i.a ≡ Some f) (gives : GivesList values old.top.results results (i.a + 1) count args) (known : AreResultsOf old.heap results) where
  leads : (chunk : Chunk) (a : Around) → effect op.TailCall (seen chunk a old) i ≡ tail_call i.a (seen chunk a (record old { top = record old.top { results = results } })) (datum old.heap f) (data_of old.heap args)
  leads chunk a =
      let m = seen chunk a old in
      let h = old.heap in
      let d = datum h f in
      let next : State → List Datum → Effect = λ m1 vs. tail_call i.a m1 d vs in
      let behind : suc i.a ≡ i.a + 1 = omega arith in
      let list : GivesList (top old.stack.frames) old.top.results results (i.a + 1) count args =
      subst (λ (vs : List Value). GivesList vs old.top.results results (i.a + 1) count args) values_are gives in
      one_need (register m i.a) d (λ g. listed m (suc i.a) (count_of i.b) (λ m1 vs. tail_call i.a m1 g vs)) (slice_get-map (datum h) (top old.stack.frames) i.a ∙ ap (option_map (datum h)) at)
      ∙ ap (λ n. listed m n (count_of i.b) next) behind
      ∙ ap (λ k. listed m (i.a + 1) k next) (sym count_is)
      ∙ list h m next refl

  by_call : (new : Running) (before behind : HostSetState) (did : Did) → DoesOutside fs (λ m. call_by (replace i.a) (land (open_at i.a)) m (datum old.heap f) (data_of old.heap args)) (record old { top = record old.top { results = results } }) new before behind did → DoesOutside fs (λ m. effect op.TailCall m i) old new before behind did
  by_call new before behind did does =
      does_with_results fs (λ m. effect op.TailCall m i) (λ m. tail_call i.a m (datum old.heap f) (data_of old.heap args)) old new results before behind did known leads does

  by_call_broke : (before behind : HostSetState) → BrokeOff (BeginsCall f args old.heap before) before behind → BrokeOff (BeginsSeen fs (λ m. effect op.TailCall m i) old before) before behind
  by_call_broke before behind broke =
      broke_with_results fs (λ m. effect op.TailCall m i) (λ m. tail_call i.a m (datum old.heap f) (data_of old.heap args)) old results before behind known leads
      (call_broke fs (record old { top = record old.top { results = results } }) before behind f args (replace i.a) (land (open_at i.a)) (tail_calls_keep i.a) broke)

safe_then : (fs : List Function) (old : Running) (heap : HeapState) (pieces : Vec Text Global) (results : Option OpenResults) → Keeps old.heap heap → OnlyTables old.heap heap → AreResultsOf old.heap results → IsSafe fs old → IsSafe fs (record old { heap = heap; top = record old.top { results = results }; pieces = pieces })
safe_then fs old heap pieces results keeps only known safe =
    safe_outside fs (record old { top = record old.top { results = results } }) heap pieces keeps only (safe_at fs old old.top.pc results safe known)

-- within protected calls the function has a frame of its own
protected : (fs : List Function) (k new : Running) (a n p : ℕ) (o : State → Option rules.Closure) (args : List Datum) (did : Did) → p ≡ suc n → DoesSeen fs (λ m. entered (push (open_at a) (land (open_at a))) (land (open_at a)) p m (o m) args) k new did → DoesSeen fs (λ m. entered (replace a) (land (open_at a)) p m (o m) args) k new did
protected fs k new a n p o args did is does = record {
  is = λ c around whole. same (seen c around k) p (o (seen c around k)) is ∙ does.is c around whole;
  safe = does.safe;
  known = does.known;
  awaited = does.awaited;
  keeps = does.keeps;
  named = does.named;
  pieces = does.pieces;
}
  where
    same : (m : State) (p : ℕ) (f : Option rules.Closure) → p ≡ suc n → entered (replace a) (land (open_at a)) p m f args ≡ entered (push (open_at a) (land (open_at a))) (land (open_at a)) p m f args
    same m p None is = refl
    same m p (Some f) is = ap (λ q. replace a q m f args) is ∙ ap (λ q. push (open_at a) (land (open_at a)) q m f args) (sym is)

pub replace-requires-clause-safe : goal.replace-requires-clause-safe
replace-requires-clause-safe g c =
    let old = c.args.running.now in
    let invoked = c.in_ok-values.ensures.invokes in
    let known = c.listed.ensures.results old.heap c.requires.safe.top_frame.results in
    safe_then c.args.functions.now old c.invoke.new.heap c.invoke.new.pieces c.listed.new.results invoked.keeps invoked.only_tables known c.requires.safe

pub push-requires-clause-safe : goal.push-requires-clause-safe
push-requires-clause-safe g c =
    let old = c.args.running.now in
    let invoked = c.in_ok-values.ensures.invokes in
    let known = c.listed.ensures.results old.heap c.requires.safe.top_frame.results in
    safe_then c.args.functions.now old c.invoke.new.heap c.invoke.new.pieces c.listed.new.results invoked.keeps invoked.only_tables known c.requires.safe

pub returns-in-Results-clause-does : goal.returns-in-Results-clause-does
returns-in-Results-clause-does g c =
    let old = c.args.running.now in
    let invoked = c.in_ok-values.ensures.invokes in
    let known = c.listed.ensures.results old.heap c.requires.safe.top_frame.results in
    let values = c.in-Results.values in
    let opened = done.Opens (record { first = c.args.i.a; values = values }) in
    let k = record old { heap = c.invoke.new.heap; top = record old.top { results = c.listed.new.results }; pieces = c.invoke.new.pieces } in
    let does = stays c.args.functions.now (λ m. land (open_at c.args.i.a) m (data_of k.heap values)) k opened (λ chunk a. refl) (subst (IsCalledOf k.heap) c.in-Results.is invoked.known) (λ f at. tt) in
    by_call c.args.functions.now old c.args.i c.read-callee.result c.registers-registers.result.now c.count_of.result c.in_ok-args.args c.listed.new.results c.registers-registers.ensures.values c.count_of.ensures c.read-callee.ensures.value c.in_ok-args.ensures.list known k _ _ opened (results_first c.args.functions.now (record old { top = record old.top { results = c.listed.new.results } }) c.invoke.new.heap c.invoke.new.pieces invoked.keeps invoked.only_tables c.read-callee.result c.in_ok-args.args c.in_ok-values.field-0 _ _ (replace c.args.i.a) (land (open_at c.args.i.a)) invoked values k opened c.in-Results.is does)

pub returns-in-Fails-clause-does : goal.returns-in-Fails-clause-does
returns-in-Fails-clause-does g c =
    let old = c.args.running.now in
    let invoked = c.in_ok-values.ensures.invokes in
    let known = c.listed.ensures.results old.heap c.requires.safe.top_frame.results in
    by_call c.args.functions.now old c.args.i c.read-callee.result c.registers-registers.result.now c.count_of.result c.in_ok-args.args c.listed.new.results c.registers-registers.ensures.values c.count_of.ensures c.read-callee.ensures.value c.in_ok-args.ensures.list known _ _ _ _ (fails_first c.args.functions.now (record old { top = record old.top { results = c.listed.new.results } }) c.invoke.new.heap c.invoke.new.pieces invoked.keeps invoked.only_tables c.read-callee.result c.in_ok-args.args c.in_ok-values.field-0 _ _ (replace c.args.i.a) (land (open_at c.args.i.a)) invoked c.in-Fails.value c.in-Fails.is)

pub returns-in_ok-replace-in-Enters-default-default-eq0-clause-does : goal.returns-in_ok-replace-in-Enters-default-default-eq0-clause-does
returns-in_ok-replace-in-Enters-default-default-eq0-clause-does g c =
    let old = c.args.running.now in
    let invoked = c.in_ok-values.ensures.invokes in
    let known = c.listed.ensures.results old.heap c.requires.safe.top_frame.results in
    let entered = c.in-Enters-default-default-eq0 in
    let none : entered.protections ≡ 0 = entered.protections-test in
    let is : c.in_ok-values.field-0 ≡ Called.Enters entered.closure entered.args 0 = entered.is ∙ ap (Called.Enters entered.closure entered.args) none in
    let a = c.args.i.a in
    by_call c.args.functions.now old c.args.i c.read-callee.result c.registers-registers.result.now c.count_of.result c.in_ok-args.args c.listed.new.results c.registers-registers.ensures.values c.count_of.ensures c.read-callee.ensures.value c.in_ok-args.ensures.list known c.replace.new.running _ _ done.Next (enters_first c.args.functions.now (record old { top = record old.top { results = c.listed.new.results } }) c.invoke.new.heap c.invoke.new.pieces invoked.keeps invoked.only_tables c.read-callee.result c.in_ok-args.args c.in_ok-values.field-0 _ _ (replace c.args.i.a) (land (open_at c.args.i.a)) invoked entered.closure entered.args c.items.result.now 0 c.replace.new.running done.Next is c.items.ensures (c.in_ok-replace-in-Enters-default-default-eq0.ensures.does a (land (open_at a))))

pub returns-in-Enters-clause-does : goal.returns-in-Enters-clause-does
returns-in-Enters-clause-does g c =
    let old = c.args.running.now in
    let invoked = c.in_ok-values.ensures.invokes in
    let known = c.listed.ensures.results old.heap c.requires.safe.top_frame.results in
    let entered = c.in-Enters in
    let some : entered.protections ≡ suc (entered.protections - 1) = omega (arith, entered.protections-test.1) in
    let k = record old { heap = c.invoke.new.heap; top = record old.top { results = c.listed.new.results }; pieces = c.invoke.new.pieces } in
    let given = c.items-in-Enters.result.now in
    IfOk-weaker c.push.result _ _ (λ did does. by_call c.args.functions.now old c.args.i c.read-callee.result c.registers-registers.result.now c.count_of.result c.in_ok-args.args c.listed.new.results c.registers-registers.ensures.values c.count_of.ensures c.read-callee.ensures.value c.in_ok-args.ensures.list known c.push.new.running _ _ did (enters_first c.args.functions.now (record old { top = record old.top { results = c.listed.new.results } }) c.invoke.new.heap c.invoke.new.pieces invoked.keeps invoked.only_tables c.read-callee.result c.in_ok-args.args c.in_ok-values.field-0 _ _ (replace c.args.i.a) (land (open_at c.args.i.a)) invoked entered.closure entered.args given entered.protections c.push.new.running did entered.is c.items-in-Enters.ensures (protected c.args.functions.now k c.push.new.running c.args.i.a (entered.protections - 1) entered.protections (λ m. slice_get m.closures entered.closure.index) (data_of k.heap given) did some does))) c.push.ensures.does

pub returns-in_err-args-clause-broke_off : goal.returns-in_err-args-clause-broke_off
returns-in_err-args-clause-broke_off g c =
    on_err c.from_residual.result (no_effect c.args.functions.now op.TailCall c.args.i c.args.running.now _)

pub returns-in_err-values-clause-broke_off : goal.returns-in_err-values-clause-broke_off
returns-in_err-values-clause-broke_off g c =
    on_err c.from_residual-in_err-values.result (by_call_broke c.args.functions.now c.args.running.now c.args.i c.read-callee.result c.registers-registers.result.now c.count_of.result c.in_ok-args.args c.listed.new.results c.registers-registers.ensures.values c.count_of.ensures c.read-callee.ensures.value c.in_ok-args.ensures.list (c.listed.ensures.results c.args.running.now.heap c.requires.safe.top_frame.results) _ _ c.in_err-values.ensures.broke_off)

pub returns-in_err-replace-in-Enters-default-default-eq0-clause-broke_off : goal.returns-in_err-replace-in-Enters-default-default-eq0-clause-broke_off
returns-in_err-replace-in-Enters-default-default-eq0-clause-broke_off g c =
    on_err c.from_residual-in_err-replace-in-Enters-default-default-eq0.result (by_call_broke c.args.functions.now c.args.running.now c.args.i c.read-callee.result c.registers-registers.result.now c.count_of.result c.in_ok-args.args c.listed.new.results c.registers-registers.ensures.values c.count_of.ensures c.read-callee.ensures.value c.in_ok-args.ensures.list (c.listed.ensures.results c.args.running.now.heap c.requires.safe.top_frame.results) _ _ (call_broke_behind c.in_ok-values.ensures.invokes))

pub returns-in-Enters-clause-broke_off : goal.returns-in-Enters-clause-broke_off
returns-in-Enters-clause-broke_off g c =
    on_err c.push.result (by_call_broke c.args.functions.now c.args.running.now c.args.i c.read-callee.result c.registers-registers.result.now c.count_of.result c.in_ok-args.args c.listed.new.results c.registers-registers.ensures.values c.count_of.ensures c.read-callee.ensures.value c.in_ok-args.ensures.list (c.listed.ensures.results c.args.running.now.heap c.requires.safe.top_frame.results) _ _ (call_broke_behind c.in_ok-values.ensures.invokes))
