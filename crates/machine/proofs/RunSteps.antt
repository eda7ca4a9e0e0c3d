-- What a step of a machine comes to in the run that it is at.
use Rattle.std.proofs.Common.{◌≡◌, ◌+◌, ◌≤◌, ℕ, zero, suc, Vec, Global, List, [], ◌∷◌, ◌++◌, Option, Some, refl, sym, ap, subst, ◌∙◌, append-nil, arith}
use Rattle.std.specs.List.{concat}
use Rattle.suite_io.specs.Taken.{Takes, Rises}
use Rattle.suite_io.specs.Parts.{TakesPart}
use Rattle.suite_io.proofs.TakenPieces.{takes_none}
use Rattle.lua_num.specs.Bytes.{Text}
use Rattle.proto.specs.Chunk.{Chunk}
use Rattle.lua_model.specs.Store.{Event, Reply, Host, printed, asked, closed, output}
use Rattle.lua_model.specs.Endings.{Ending}
use Rattle.lua_model.specs.Endings as ending
use Rattle.host.specs.Hosts.{HostSetState}
use Rattle.rules.specs.Sound.{Sound}
use Rattle.rules.specs.State.{State}
use Rattle.rules.specs.Run.{Conf, Going, ran, course}
use Rattle.rules.proofs.Invariant.{Inv}
use Rattle.rules.proofs.NeverStuck.{sound_never_stuck}
use Rattle.machine.specs.declared.function.Function.{Function}
use Rattle.machine.specs.declared.machine.Machine.{Machine}
use Rattle.machine.specs.declared.machine.StepEnd.{StepEnd}
use Rattle.machine.specs.declared.running.Running.{Running}
use Rattle.machine.specs.declared.settling.Settled.{Settled}
use Rattle.machine.specs.At.{IsAt, RanTo, LeavesHosts, hosts_at, surroundings, BeginsStep, GaveUp, Stepped}
use Rattle.machine.specs.Begun.{BrokeOff, BeginsWhole, BeginsConf}
use Rattle.machine.specs.Closing.{SteppedClosing}
use Rattle.machine.specs.Memory.{IsBeforeSuch, NeedsNoneNext}
use Rattle.machine.specs.Outside.{around, hosts_of, pieces_in, replies_in, calls_in, hosts_behind}
use Rattle.machine.specs.Ready.{GoesNext, GoesSteps, IsReady, IsReadyOnwards, Steps}
use Rattle.machine.specs.Seen.{seen}
use Rattle.machine.specs.Settled.{conf_of}
use Rattle.machine.specs.Whole.{IsWhole}
use Rattle.machine.proofs.Readiness.{ready, current_there, inv_of_run, one_more}
use Rattle.machine.proofs.SeenStates.{whole_later}
use Rattle.machine.proofs.BrokenOff.{first_none, replies_first, nothing_broke}
use Rattle.machine.proofs.EventsGrow.{step_begins}
use Rattle.machine.proofs.StepsBegun.{nothing_begun, not_stuck_begins}

output_is : (es : List Event) → concat (pieces_in es) ≡ output es
output_is [] = refl
output_is (printed piece ∷ es) = ap (λ t. piece ++ t) (output_is es)
output_is (asked host args reply ∷ es) = output_is es
output_is (closed host ∷ es) = output_is es

-- what was printed is put, so that it is whole without it
without_pieces : (c : Chunk) (fs : List Function) (k : Running) (pieces : Vec Text Global) → IsWhole c fs k → IsWhole c fs (record k { pieces = pieces })
without_pieces c fs k pieces whole =
    let safe = whole.safe in
    record {
      safe = record {
        shares = safe.shares;
        depth = safe.depth;
        constants = safe.constants;
        room = safe.room;
        top_frame = safe.top_frame;
        lower = safe.lower;
        closures = safe.closures;
        waiting = safe.waiting;
      };
      loaded = whole.loaded;
    }

abbrev ending_of : Settled → Ending
ending_of Settled.Going = ending.Going
ending_of Settled.Done = ending.Ended
ending_of (Settled.Failed text) = ending.Failed text

course_of : (settled : Settled) (m : State) → course (conf_of settled m) ≡ Some (record { ending = ending_of settled; events = m.outside.events })
course_of Settled.Going m = refl
course_of Settled.Done m = refl
course_of (Settled.Failed text) m = refl

-- the state that a run is going at
abbrev at_state : State → Conf → State
at_state other (Going m) = m
at_state other conf = other

hosts_of_conf : (settled : Settled) (m : State) → hosts_at (conf_of settled m) ≡ m.store.hosts
hosts_of_conf Settled.Going m = refl
hosts_of_conf Settled.Done m = refl
hosts_of_conf (Settled.Failed text) m = refl

-- a step in which nothing happened outside
pub stepped_in_place : (c : Chunk) (hosts : List Host) (events : List Event) (n : ℕ) (before : HostSetState) (new : Machine) → IsAt c hosts events (suc n) before new → (taken : Option (List ℕ)) (faults : ℕ) → Stepped c hosts events n (surroundings before taken faults) (surroundings before taken faults) new StepEnd.Going
stepped_in_place c hosts events n before new at taken faults = record {
  es = [];
  ends = subst (λ es. IsAt c hosts es (suc n) before new) (sym (append-nil events)) at;
  puts = takes_none taken;
  log = λ differs. sym (append-nil before.log);
  never_falls = omega arith;
  risen = λ same. cc;
}

module _ (c : Chunk) (sound : Sound c) (hosts : List Host) (events : List Event) (n : ℕ) (before : HostSetState) (k : Machine) (at : IsAt c hosts events n before k) where
  inv : (left : List Reply) → Inv (seen c (around before events left) k.running)
  inv left = inv_of_run c sound hosts (replies_in events ++ left) n (seen c (around before events left) k.running) (at.runs left)

  pub is_ready : (fs : List Function) → fs ≡ k.functions.items → IsReady fs k.running
  is_ready fs same = subst (λ (fs : List Function). IsReady fs k.running) (sym same) (ready c (around before events []) k.functions.items k.running at.whole (inv []))

  pub whole_in : (fs : List Function) → fs ≡ k.functions.items → IsWhole c fs k.running
  whole_in fs same = subst (λ (fs : List Function). IsWhole c fs k.running) (sym same) at.whole

  pub before_such : IsBeforeSuch c hosts events n → NeedsNoneNext (seen c (around before events []) k.running)
  before_such (m, runs, needs) =
      let here = seen c (around before events []) k.running in
      let going = sym runs ∙ ap (λ rs. ran c hosts rs n) (sym (append-nil (replies_in events))) ∙ at.runs [] in
      subst NeedsNoneNext (ap (at_state here) going) needs

  -- a step was done in which nothing happened outside
  pub went_next : (new : Running) (fs : List Function) → fs ≡ k.functions.items → GoesNext fs k.running new → IsAt c hosts events (suc n) before (record k { running = new })
  went_next new fs same done =
      let goes : GoesNext k.functions.items k.running new = subst (λ (fs : List Function). GoesNext fs k.running new) same done in
      record {
        runs = λ left.
            let word = current_there c (around before events left) k.functions.items k.running at.whole (inv left) in
            one_more c hosts (replies_in events ++ left) n (seen c (around before events left) k.running) (at.runs left)
            ∙ goes.is c (around before events left) word.0 at.whole word.1;
        whole = whole_later c k.functions.items k.running new at.whole goes.keeps (goes.safe at.whole.safe);
        named = goes.named ∙ at.named;
        put = ap (λ ps. ps.items) goes.pieces ∙ at.put;
      }

  -- memory ran out within the step, or before it
  gave_up : (behind : HostSetState) → BrokeOff (BeginsWhole k.functions.items k.running before) before behind → GaveUp c hosts events n 1 before behind []
  gave_up behind broke =
      let ran_to : RanTo c hosts events n ending.Going = λ left. ap course (at.runs left) in
      let none_more : n ≡ n + 0 = omega arith in
      let At : List Event → ℕ → Type 0 = λ es m. BeginsStep c hosts es m broke.begun in
      record {
        done = 0;
        few = omega arith;
        ending = ending.Going;
        ran = subst (λ m. RanTo c hosts (events ++ []) m ending.Going) none_more (subst (λ es. RanTo c hosts es n ending.Going) (sym (append-nil events)) ran_to);
        begun = broke.begun;
        begins = subst (At (events ++ [])) none_more (subst (λ es. At es n) (sym (append-nil events)) (λ left.
            let rest = replies_in broke.begun ++ left in
            let here = seen c (around before events rest) k.running in
            let comes =
            ap (λ rs. ran c hosts rs (suc n)) (replies_first events broke.begun left)
            ∙ one_more c hosts (replies_in events ++ rest) n here (at.runs rest)
            in
            not_stuck_begins (events ++ broke.begun) _ (sound_never_stuck c sound hosts (replies_in (events ++ broke.begun) ++ left) (suc n))
            (subst (BeginsConf (events ++ broke.begun)) (sym comes) (broke.begins c events left at.whole))));
        none = λ same. absurd (omega (arith, same));
        closed = broke.closes;
        unanswered = broke.unanswered;
        no_reply = broke.no_reply;
        log = broke.log;
      }

  pub broke_off : (behind : HostSetState) (fs : List Function) → fs ≡ k.functions.items → BrokeOff (BeginsWhole fs k.running before) before behind → (taken : Option (List ℕ)) (faults : ℕ) (new : Machine) → Stepped c hosts events n (surroundings before taken faults) (surroundings behind taken faults) new StepEnd.OutOfMemory
  broke_off behind fs same broke taken faults new = record {
    es = [];
    ends = gave_up behind (subst (λ (fs : List Function). BrokeOff (BeginsWhole fs k.running before) before behind) same broke);
    puts = ([], ([], refl), takes_none taken);
    log = λ differs. absurd (differs refl);
    never_falls = omega arith;
    risen = λ same. cc;
  }

  -- no memory was found for the step
  pub not_stepped : (taken : Option (List ℕ)) (faults : ℕ) (new : Machine) → Stepped c hosts events n (surroundings before taken faults) (surroundings before taken faults) new StepEnd.OutOfMemory
  not_stepped taken faults new =
      broke_off before k.functions.items refl (nothing_broke (λ chunk events left whole. step_begins (events ++ []) (seen chunk (around before events left) k.running) (first_none events))) taken faults new

  -- the step was done
  module _ (new : Running) (behind : HostSetState) (settled : Settled) (fs : List Function) (same : fs ≡ k.functions.items) (done : Steps fs k.running new before behind settled) where
    steps : Steps k.functions.items k.running new before behind settled
    steps = subst (λ (fs : List Function). Steps fs k.running new before behind settled) same done

    next : (left : List Reply) → ran c hosts (replies_in (events ++ steps.es) ++ left) (suc n) ≡ conf_of settled (seen c (around behind (events ++ steps.es) left) new)
    next left =
        let rest = replies_in steps.es ++ left in
        let word = current_there c (around before events rest) k.functions.items k.running at.whole (inv rest) in
        ap (λ rs. ran c hosts rs (suc n)) (replies_first events steps.es left)
        ∙ one_more c hosts (replies_in events ++ rest) n (seen c (around before events rest) k.running) (at.runs rest)
        ∙ steps.is c events left word.0 at.whole word.1

    pieces_are : concat new.pieces.items ≡ output steps.es
    pieces_are = ap concat (steps.happened.pieces ∙ ap (λ ps. ps ++ pieces_in steps.es) at.put) ∙ output_is steps.es

    comes : (so : Settled) → settled ≡ so → (left : List Reply) → ran c hosts (replies_in (events ++ steps.es) ++ left) (suc n) ≡ conf_of so (seen c (around behind (events ++ steps.es) left) new)
    comes so is left = next left ∙ ap (λ s. conf_of s (seen c (around behind (events ++ steps.es) left) new)) is

    ran_to : RanTo c hosts (events ++ steps.es) (suc n) (ending_of settled)
    ran_to left = ap course (next left) ∙ course_of settled (seen c (around behind (events ++ steps.es) left) new)

    all_put : (old_taken new_taken : Option (List ℕ)) → Takes old_taken new_taken (concat new.pieces.items) → Takes old_taken new_taken (output steps.es)
    all_put old_taken new_taken puts = subst (Takes old_taken new_taken) pieces_are puts

    part_put : (old_taken new_taken : Option (List ℕ)) → TakesPart old_taken new_taken (concat new.pieces.items) → TakesPart old_taken new_taken (output steps.es)
    part_put old_taken new_taken puts = subst (TakesPart old_taken new_taken) pieces_are puts

    leaves : LeavesHosts c hosts (events ++ steps.es) (suc n) behind
    leaves left = ap hosts_at (next left) ∙ hosts_of_conf settled (seen c (around behind (events ++ steps.es) left) new)

    -- its output was not put whole
    pub not_put : (old_taken new_taken : Option (List ℕ)) (faults_old faults_new : ℕ) (behind_put : Machine) → TakesPart old_taken new_taken (concat new.pieces.items) → faults_old ≤ faults_new → Rises faults_old faults_new → Stepped c hosts events n (surroundings before old_taken faults_old) (surroundings behind new_taken faults_new) behind_put StepEnd.OutFault
    not_put old_taken new_taken faults_old faults_new behind_put puts never_falls rises = record {
      es = steps.es;
      ends = (ending_of settled, ran_to, leaves);
      puts = part_put old_taken new_taken puts;
      log = λ differs. steps.happened.log;
      never_falls = never_falls;
      risen = λ same. rises;
    }

    pub no_memory_to_put : (old_taken new_taken : Option (List ℕ)) (faults_old faults_new : ℕ) (behind_put : Machine) → TakesPart old_taken new_taken (concat new.pieces.items) → faults_old ≤ faults_new → Stepped c hosts events n (surroundings before old_taken faults_old) (surroundings behind new_taken faults_new) behind_put StepEnd.OutOfMemory
    no_memory_to_put old_taken new_taken faults_old faults_new behind_put puts never_falls =
        let one : suc n ≡ n + 1 = omega arith in
        let ran_to_one = subst (λ m. RanTo c hosts (events ++ steps.es) m (ending_of settled)) one ran_to in
        record {
          es = steps.es;
          ends = record {
            done = 1;
            few = omega arith;
            ending = ending_of settled;
            ran = ran_to_one;
            begun = [];
            begins = nothing_begun c sound hosts (events ++ steps.es) (n + 1) (ending_of settled) ran_to_one;
            none = λ same. refl;
            closed = steps.happened.closes ∙ ap (λ es. hosts_behind es (hosts_of before)) (sym (append-nil steps.es));
            unanswered = [];
            no_reply = tt;
            log = steps.happened.log ∙ ap (λ es. before.log ++ calls_in es) (sym (append-nil steps.es)) ∙ sym (append-nil (before.log ++ calls_in (steps.es ++ [])));
          };
          puts = part_put old_taken new_taken puts;
          log = λ differs. absurd (differs refl);
          never_falls = never_falls;
          risen = λ same. cc;
        }

    pub going_on : (old_taken new_taken : Option (List ℕ)) (faults_old faults_new : ℕ) (pieces : Vec Text Global) → settled ≡ Settled.Going → Takes old_taken new_taken (concat new.pieces.items) → pieces.items ≡ [] → faults_old ≤ faults_new → SteppedClosing c hosts events n (surroundings before old_taken faults_old) (surroundings behind new_taken faults_new) (record k { running = record new { pieces = pieces } })
    going_on old_taken new_taken faults_old faults_new pieces is puts none never_falls = record {
      stepped = record {
        es = steps.es;
        ends = record {
          runs = comes Settled.Going is;
          whole = without_pieces c k.functions.items new pieces (whole_later c k.functions.items k.running new at.whole steps.keeps (steps.safe at.whole.safe));
          named = steps.named ∙ at.named ∙ sym steps.happened.names;
          put = none;
        };
        puts = all_put old_taken new_taken puts;
        log = λ differs. steps.happened.log;
        never_falls = never_falls;
        risen = λ same. cc;
      };
      closes = steps.happened.closes;
    }

    pub at_end : (old_taken new_taken : Option (List ℕ)) (faults_old faults_new : ℕ) (behind_put : Machine) → settled ≡ Settled.Done → Takes old_taken new_taken (concat new.pieces.items) → faults_old ≤ faults_new → Stepped c hosts events n (surroundings before old_taken faults_old) (surroundings behind new_taken faults_new) behind_put StepEnd.Done
    at_end old_taken new_taken faults_old faults_new behind_put is puts never_falls = record {
      es = steps.es;
      ends = (λ left. ap course (comes Settled.Done is left), leaves);
      puts = all_put old_taken new_taken puts;
      log = λ differs. steps.happened.log;
      never_falls = never_falls;
      risen = λ same. cc;
    }

    pub has_failed : (old_taken new_taken : Option (List ℕ)) (faults_old faults_new : ℕ) (behind_put : Machine) (text : Text) → settled ≡ Settled.Failed text → Takes old_taken new_taken (concat new.pieces.items) → faults_old ≤ faults_new → Stepped c hosts events n (surroundings before old_taken faults_old) (surroundings behind new_taken faults_new) behind_put (StepEnd.Failed text)
    has_failed old_taken new_taken faults_old faults_new behind_put text is puts never_falls = record {
      es = steps.es;
      ends = (λ left. ap course (comes (Settled.Failed text) is left), leaves);
      puts = all_put old_taken new_taken puts;
      log = λ differs. steps.happened.log;
      never_falls = never_falls;
      risen = λ same. cc;
    }

-- so many steps were done in which nothing happened outside
pub went_steps : (c : Chunk) (sound : Sound c) (hosts : List Host) (events : List Event) (n : ℕ) (now : HostSetState) (k : Machine) → IsAt c hosts events n now k → (more : ℕ) (new : Running) (fs : List Function) → fs ≡ k.functions.items → GoesSteps fs more k.running new → IsAt c hosts events (n + more) now (record k { running = new })
went_steps c sound hosts events n now k at zero new fs same is =
    let none_more : n ≡ n + 0 = omega arith in
    subst (λ m. IsAt c hosts events m now (record k { running = new })) none_more (subst (λ (r : Running). IsAt c hosts events n now (record k { running = r })) (sym is) at)
went_steps c sound hosts events n now k at (suc more) new fs same (between, went, next) =
    let further : suc (n + more) ≡ n + suc more = omega arith in
    let there = went_steps c sound hosts events n now k at more between fs same went in
    subst (λ m. IsAt c hosts events m now (record k { running = new })) further (went_next c sound hosts events (n + more) now (record k { running = between }) there new fs same next)

-- whatever machine they reach is ready
pub is_ready_onwards : (c : Chunk) (sound : Sound c) (hosts : List Host) (events : List Event) (n : ℕ) (now : HostSetState) (k : Machine) → IsAt c hosts events n now k → (fs : List Function) → fs ≡ k.functions.items → IsReadyOnwards fs k.running
is_ready_onwards c sound hosts events n now k at fs same more new went =
    is_ready c sound hosts events (n + more) now (record k { running = new }) (went_steps c sound hosts events n now k at more new fs same went) fs same
