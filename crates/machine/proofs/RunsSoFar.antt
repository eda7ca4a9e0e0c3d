-- What a run of a machine has come to so far, step after step, and when it is over.
use Rattle.std.proofs.Common.{◌≡◌, inl, inr, ℕ, suc, ◌+◌, ◌-◌, ◌<◌, ◌≤◌, List, [], ◌∷◌, ◌++◌, Option, None, Some, refl, sym, ap, subst, ◌∙◌, append_assoc, append-nil, add-one, arith}
use Rattle.suite_io.specs.Taken.{Takes}
use Rattle.suite_io.specs.Parts.{TakesPart}
use Rattle.suite_io.proofs.TakenPieces.{takes_none, takes_both, rises_later}
use Rattle.lua_num.specs.Bytes.{Text}
use Rattle.proto.specs.Chunk.{Chunk}
use Rattle.lua_model.specs.Store.{Event, Reply, Host, printed, asked, closed, output}
use Rattle.lua_model.specs.Endings.{Ending, Course}
use Rattle.lua_model.specs.Endings as ending
use Rattle.host.specs.declared.log.LogEntry.{LogEntry}
use Rattle.host.specs.Hosts.{HostSetState}
use Rattle.rules.specs.Run.{Conf, Going, Ended, Failed, Waiting, Stuck, ran, course}
use Rattle.machine.specs.declared.machine.Machine.{Machine}
use Rattle.machine.specs.declared.machine.StepEnd.{StepEnd}
use Rattle.machine.specs.declared.runs.RunEnd.{RunEnd}
use Rattle.machine.specs.At.{IsAt, RanTo, hosts_at, Surroundings, surroundings, BeginsStep, GaveUp, Stepped, Runs}
use Rattle.machine.specs.Closing.{SteppedClosing}
use Rattle.machine.specs.Outside.{hosts_of, replies_in, calls_in, hosts_behind}
use Rattle.machine.proofs.Readiness.{IsOver, stays_ended}
use Rattle.machine.proofs.PutPieces.{part_then}
use Rattle.machine.proofs.EventsInRow.{calls_in-append, closed_in_row}

output_both : (es fs : List Event) → output (es ++ fs) ≡ output es ++ output fs
output_both [] fs = refl
output_both (printed piece ∷ es) fs = ap (λ t. piece ++ t) (output_both es fs) ∙ sym (append_assoc piece (output es) (output fs))
output_both (asked host args reply ∷ es) fs = output_both es fs
output_both (closed host ∷ es) fs = output_both es fs

-- no memory was found for the machine
pub not_begun : (c : Chunk) (steps : ℕ) (before : HostSetState) (taken : Option (List ℕ)) (faults : ℕ) → Runs c steps (surroundings before taken faults) (surroundings before taken faults) RunEnd.OutOfMemory
not_begun c steps before taken faults = record {
  es = [];
  ends = inl (refl, refl);
  puts = ([], ([], refl), takes_none taken);
  log = λ differs. absurd (differs refl);
  never_falls = omega arith;
  risen = λ same. cc;
}

-- ---- an end

abbrev IsEnd : Ending → Type 0
IsEnd ending.Ended = Unit {0}
IsEnd (ending.Failed text) = Unit {0}
IsEnd _ = ⊥

abbrev EndsIn : Option Course → Type 0
EndsIn None = ⊥
EndsIn (Some so) = IsEnd so.ending

over : (conf : Conf) → EndsIn (course conf) → IsOver conf
over (Going m) ends = ends
over (Ended store outside) ends = tt
over (Failed text store outside) ends = tt
over (Waiting m) ends = ends
over Stuck ends = ends

-- a run that is over stays so
later : (c : Chunk) (hosts : List Host) (events : List Event) (n steps : ℕ) (end : Ending) → n ≤ steps → IsEnd end → RanTo c hosts events n end → (left : List Reply) → ran c hosts (replies_in events ++ left) steps ≡ ran c hosts (replies_in events ++ left) n
later c hosts events n steps end within is ran_to left =
    let reached : steps ≡ n + (steps - n) = omega arith in
    ap (λ k. ran c hosts (replies_in events ++ left) k) reached
    ∙ stays_ended c hosts (replies_in events ++ left) n (steps - n) (over (ran c hosts (replies_in events ++ left) n) (subst EndsIn (sym (ran_to left)) is))

-- ---- so far

-- after so many steps the machine is at the run, and what was printed was put
pub record RanSoFar (c : Chunk) (n : ℕ) (before now : HostSetState) (k : Machine) (old_taken now_taken : Option (List ℕ)) (faults_old faults_now : ℕ) : Type 0 where
  pub es : List Event
  pub at : IsAt c (hosts_of before) es n now k
  pub taken : Takes old_taken now_taken (output es)
  pub log : now.log ≡ before.log ++ calls_in es
  pub closes : hosts_of now ≡ hosts_behind es (hosts_of before)
  pub risen : faults_old ≤ faults_now

pub nothing_yet : (c : Chunk) (before : HostSetState) (k : Machine) (taken : Option (List ℕ)) (faults : ℕ) → IsAt c (hosts_of before) [] 0 before k → RanSoFar c 0 before before k taken taken faults faults
nothing_yet c before k taken faults at = record {
  es = [];
  at = at;
  taken = takes_none taken;
  log = sym (append-nil before.log);
  closes = refl;
  risen = omega arith;
}

-- so many steps more were done in which nothing happened outside
pub went_further : (c : Chunk) (n done : ℕ) (before now : HostSetState) (k new : Machine) (old_taken now_taken : Option (List ℕ)) (faults_old faults_now : ℕ) → RanSoFar c n before now k old_taken now_taken faults_old faults_now → ((hosts : List Host) (events : List Event) (m : ℕ) (now : HostSetState) → IsAt c hosts events m now k → IsAt c hosts events (m + done) now new) → RanSoFar c (n + done) before now new old_taken now_taken faults_old faults_now
went_further c n done before now k new old_taken now_taken faults_old faults_now so went = record {
  es = so.es;
  at = went (hosts_of before) so.es n now so.at;
  taken = so.taken;
  log = so.log;
  closes = so.closes;
  risen = so.risen;
}

-- all steps were done, and the run is going
pub unfinished : (c : Chunk) (n steps : ℕ) (before now : HostSetState) (k : Machine) (old_taken now_taken : Option (List ℕ)) (faults_old faults_now : ℕ) → n ≡ steps → RanSoFar c n before now k old_taken now_taken faults_old faults_now → Runs c steps (surroundings before old_taken faults_old) (surroundings now now_taken faults_now) RunEnd.Unfinished
unfinished c n steps before now k old_taken now_taken faults_old faults_now all so =
    let at = subst (λ m. IsAt c (hosts_of before) so.es m now k) all so.at in
    record {
      es = so.es;
      ends = (λ left. ap course (at.runs left), λ left. ap hosts_at (at.runs left));
      puts = so.taken;
      log = λ differs. so.log;
      never_falls = so.risen;
      risen = λ same. cc;
    }

-- ---- a step more

takes_on : (es fs : List Event) (old now new : Option (List ℕ)) → Takes old now (output es) → Takes now new (output fs) → Takes old new (output (es ++ fs))
takes_on es fs old now new first more = subst (Takes old new) (sym (output_both es fs)) (takes_both old now new (output es) (output fs) first more)

part_on : (es fs : List Event) (old now new : Option (List ℕ)) → Takes old now (output es) → TakesPart now new (output fs) → TakesPart old new (output (es ++ fs))
part_on es fs old now new first more = subst (TakesPart old new) (sym (output_both es fs)) (part_then (output es) (output fs) old now new first more)

logged_on : (es fs : List Event) (before now behind : HostSetState) → now.log ≡ before.log ++ calls_in es → behind.log ≡ now.log ++ calls_in fs → behind.log ≡ before.log ++ calls_in (es ++ fs)
logged_on es fs before now behind first more =
    more ∙ ap (λ cs. cs ++ calls_in fs) first ∙ append_assoc before.log (calls_in es) (calls_in fs) ∙ ap (λ cs. before.log ++ cs) (sym (calls_in-append es fs))

-- what a step ensures, wherever in a run its machine is at
abbrev StepsTo : Chunk → Surroundings → Surroundings → Machine → Machine → StepEnd → Type 0
StepsTo c now behind k new end = (hosts : List Host) (events : List Event) (m : ℕ) → IsAt c hosts events m now.hosts k → Stepped c hosts events m now behind new end

abbrev GoesOn : Chunk → Surroundings → Surroundings → Machine → Machine → Type 0
GoesOn c now behind k new = (hosts : List Host) (events : List Event) (m : ℕ) → IsAt c hosts events m now.hosts k → SteppedClosing c hosts events m now behind new

module _ (c : Chunk) (n steps : ℕ) (before now behind : HostSetState) (k new : Machine) (old_taken now_taken new_taken : Option (List ℕ)) (faults_old faults_now faults_new : ℕ) (within : n < steps) (so : RanSoFar c n before now k old_taken now_taken faults_old faults_now) where
  pub went_on : GoesOn c (surroundings now now_taken faults_now) (surroundings behind new_taken faults_new) k new → RanSoFar c (n + 1) before behind new old_taken new_taken faults_old faults_new
  went_on step =
      let closing = step (hosts_of before) so.es n so.at in
      let stepped = closing.stepped in
      record {
        es = so.es ++ stepped.es;
        at = subst (λ m. IsAt c (hosts_of before) (so.es ++ stepped.es) m behind new) (sym (add-one n)) stepped.ends;
        taken = takes_on so.es stepped.es old_taken now_taken new_taken so.taken stepped.puts;
        log = logged_on so.es stepped.es before now behind so.log (stepped.log (λ same. cc));
        closes = closed_in_row so.es stepped.es before now behind so.closes closing.closes;
        risen = omega (arith, so.risen, stepped.never_falls);
      }

  reach : suc n ≤ steps
  reach = omega arith

  pub ended : StepsTo c (surroundings now now_taken faults_now) (surroundings behind new_taken faults_new) k new StepEnd.Done → Runs c steps (surroundings before old_taken faults_old) (surroundings behind new_taken faults_new) RunEnd.Done
  ended step =
      let stepped = step (hosts_of before) so.es n so.at in
      let events = so.es ++ stepped.es in
      let stays = later c (hosts_of before) events (suc n) steps ending.Ended reach tt stepped.ends.0 in
      record {
        es = events;
        ends = (λ left. ap course (stays left) ∙ stepped.ends.0 left, λ left. ap hosts_at (stays left) ∙ stepped.ends.1 left);
        puts = takes_on so.es stepped.es old_taken now_taken new_taken so.taken stepped.puts;
        log = λ differs. logged_on so.es stepped.es before now behind so.log (stepped.log (λ same. cc));
        never_falls = omega (arith, so.risen, stepped.never_falls);
        risen = λ same. cc;
      }

  pub failed : (text : Text) → StepsTo c (surroundings now now_taken faults_now) (surroundings behind new_taken faults_new) k new (StepEnd.Failed text) → Runs c steps (surroundings before old_taken faults_old) (surroundings behind new_taken faults_new) (RunEnd.Failed text)
  failed text step =
      let stepped = step (hosts_of before) so.es n so.at in
      let events = so.es ++ stepped.es in
      let stays = later c (hosts_of before) events (suc n) steps (ending.Failed text) reach tt stepped.ends.0 in
      record {
        es = events;
        ends = (λ left. ap course (stays left) ∙ stepped.ends.0 left, λ left. ap hosts_at (stays left) ∙ stepped.ends.1 left);
        puts = takes_on so.es stepped.es old_taken now_taken new_taken so.taken stepped.puts;
        log = λ differs. logged_on so.es stepped.es before now behind so.log (stepped.log (λ same. cc));
        never_falls = omega (arith, so.risen, stepped.never_falls);
        risen = λ same. cc;
      }

  pub refused : StepsTo c (surroundings now now_taken faults_now) (surroundings behind new_taken faults_new) k new StepEnd.OutFault → Runs c steps (surroundings before old_taken faults_old) (surroundings behind new_taken faults_new) RunEnd.OutFault
  refused step =
      let stepped = step (hosts_of before) so.es n so.at in
      record {
        es = so.es ++ stepped.es;
        ends = (suc n, reach, stepped.ends.0, stepped.ends.1, stepped.ends.2);
        puts = part_on so.es stepped.es old_taken now_taken new_taken so.taken stepped.puts;
        log = λ differs. logged_on so.es stepped.es before now behind so.log (stepped.log (λ same. cc));
        never_falls = omega (arith, so.risen, stepped.never_falls);
        risen = λ same. rises_later _ _ _ so.risen stepped.never_falls (stepped.risen refl);
      }

  -- the run gave up where its step did
  gave_up : (es : List Event) → GaveUp c (hosts_of before) so.es n 1 now behind es → GaveUp c (hosts_of before) [] 0 steps before behind (so.es ++ es)
  gave_up es gave =
      let all = so.es ++ es in
      let place : n + gave.done ≡ 0 + (n + gave.done) = omega arith in
      record {
        done = n + gave.done;
        few = omega (arith, gave.few);
        ending = gave.ending;
        ran = subst (λ m. RanTo c (hosts_of before) all m gave.ending) place gave.ran;
        begun = gave.begun;
        begins = subst (λ m. BeginsStep c (hosts_of before) all m gave.begun) place gave.begins;
        none = λ same. gave.none (omega (arith, gave.few, same));
        closed =
            closed_in_row so.es (es ++ gave.begun) before now behind so.closes gave.closed
            ∙ ap (λ fs. hosts_behind fs (hosts_of before)) (sym (append_assoc so.es es gave.begun));
        unanswered = gave.unanswered;
        no_reply = gave.no_reply;
        log =
            gave.log
            ∙ ap (λ (log : List LogEntry). (log ++ calls_in (es ++ gave.begun)) ++ gave.unanswered) so.log
            ∙ ap (λ (log : List LogEntry). log ++ gave.unanswered) (append_assoc before.log (calls_in so.es) (calls_in (es ++ gave.begun)))
            ∙ ap (λ (log : List LogEntry). (before.log ++ log) ++ gave.unanswered) (sym (calls_in-append so.es (es ++ gave.begun)))
            ∙ ap (λ fs. (before.log ++ calls_in fs) ++ gave.unanswered) (sym (append_assoc so.es es gave.begun));
      }

  pub no_memory : StepsTo c (surroundings now now_taken faults_now) (surroundings behind new_taken faults_new) k new StepEnd.OutOfMemory → Runs c steps (surroundings before old_taken faults_old) (surroundings behind new_taken faults_new) RunEnd.OutOfMemory
  no_memory step =
      let stepped = step (hosts_of before) so.es n so.at in
      record {
        es = so.es ++ stepped.es;
        ends = inr (gave_up stepped.es stepped.ends);
        puts = part_on so.es stepped.es old_taken now_taken new_taken so.taken stepped.puts;
        log = λ differs. absurd (differs refl);
        never_falls = omega (arith, so.risen, stepped.never_falls);
        risen = λ same. cc;
      }
