-- What a run of the machine is for a job.
use Rattle.std.proofs.Common.{◌≡◌, ◌⊎◌, ℕ, ◌+◌, List, [], ◌∷◌, ◌++◌, length, drop, Option, Some, inl, inr, refl, sym, ap, subst, ◌∙◌, append-nil}
use Rattle.std.proofs.Math.Seq.{drop-append_seam}
use Rattle.lua_num.specs.Bytes.{Text}
use Rattle.lua_model.specs.Store.{Event, printed, asked, closed, Reply, replies_values, replies_failure, output}
use Rattle.lua_model.specs.Endings.{Ending, Ended, Failed, Going}
use Rattle.proto.specs.Chunk.{Chunk}
use Rattle.suite_io.specs.declared.calls.FileCall.{FileCall}
use Rattle.suite_io.specs.Contents.{Contents}
use Rattle.suite_io.specs.Parts.{TakesPart}
use Rattle.suite_io.specs.Taken.{Takes}
use Rattle.host.specs.Hosts.{HostSetState}
use Rattle.rules.specs.Run.{ran, course}
use Rattle.rules.specs.Sound.{Sound}
use Rattle.machine.specs.declared.runs.RunEnd.{RunEnd}
use Rattle.machine.specs.At.{hosts_at, RanTo, LeavesHosts, Logs, GaveUp, Runs, surroundings}
use Rattle.machine.specs.Outside.{hosts_of, replies_in, calls_in}
use Rattle.suite.specs.declared.outcome.Outcome.{Outcome}
use Rattle.suite.specs.Words.{run_file}
use Rattle.suite.specs.Worlds.{world, calls_of, replies_of, replies_in_log}
use Rattle.suite.specs.Seen.{outside}
use Rattle.suite.specs.Jobs.{HasChunk, HasRun, HasPut, put, failed, unfinished}
use Rattle.suite.specs.Work.{Does}

-- the only first part of nothing is nothing
pub part_of_none : (taken later : Option (List ℕ)) → TakesPart taken later [] → Takes taken later []
part_of_none taken later (text, (rest, e), t) = subst (Takes taken later) (front_nil text rest (sym e)) t
  where
    front_nil : (front behind : List ℕ) → [] ≡ front ++ behind → front ≡ []
    front_nil [] behind e = refl
    front_nil (x ∷ front) behind e = cc

-- what the log tells of the replies
replies_logged : (es : List Event) → replies_in_log (calls_in es) ≡ replies_in es
replies_logged [] = refl
replies_logged (printed piece ∷ es) = replies_logged es
replies_logged (asked host args (replies_values vs) ∷ es) = ap (λ (l : List Reply). replies_values vs ∷ l) (replies_logged es)
replies_logged (asked host args (replies_failure text) ∷ es) = ap (λ (l : List Reply). replies_failure text ∷ l) (replies_logged es)
replies_logged (closed host ∷ es) = replies_logged es

module _ (file : Text) (steps : ℕ) (bytes : List ℕ) (chunk : Chunk) (has : HasChunk file bytes chunk) (sound : Sound chunk) (before behind : HostSetState) where
  -- the calls and the replies that the log tells
  logged : (es : List Event) → Logs es before behind → calls_of (world before behind) ≡ calls_in es
  logged es log = ap (drop (length before.log)) log ∙ drop-append_seam before.log (calls_in es)

  replies : (es : List Event) → Logs es before behind → replies_in es ++ [] ≡ replies_of (world before behind)
  replies es log = append-nil (replies_in es) ∙ sym (replies_logged es) ∙ ap replies_in_log (sym (logged es log))

  -- a run that came so far, of this chunk
  pub ran_of : (n : ℕ) (end : Ending) (es : List Event) → RanTo chunk (hosts_of before) es n end → LeavesHosts chunk (hosts_of before) es n behind → Logs es before behind → (r : HasRun file bytes (world before behind) n end (output es)) × (r.chunk ≡ chunk)
  ran_of n end es ran_to leaves log = (
    record {
      chunk = chunk;
      has = has;
      sound = λ spelled. sound;
      events = es;
      comes = subst (λ (r : List Reply). course (ran chunk (hosts_of before) r n) ≡ Some (record { ending = end; events = es })) (replies es log) (ran_to []);
      is = refl;
      called = logged es log;
      live = subst (λ (r : List Reply). hosts_at (ran chunk (hosts_of before) r n) ≡ hosts_of behind) (replies es log) (leaves []);
    },
    refl,
  )

  has_run : (n : ℕ) (end : Ending) (es : List Event) → RanTo chunk (hosts_of before) es n end → LeavesHosts chunk (hosts_of before) es n behind → Logs es before behind → HasRun file bytes (world before behind) n end (output es)
  has_run n end es ran_to leaves log = (ran_of n end es ran_to leaves log).0

  -- what it put, whatever became of the hosts
  pub has_put : (n : ℕ) (end : Ending) (es : List Event) → RanTo chunk (hosts_of before) es n end → HasPut file bytes (hosts_of before) (output es)
  has_put n end es ran_to = record {
    chunk = chunk;
    has = has;
    sound = λ spelled. sound;
    replies = replies_in es ++ [];
    steps = n;
    ending = end;
    events = es;
    comes = ran_to [];
    is = refl;
  }

  module _ (contents : Option Contents) (calls : List FileCall) (taken later : Option (List ℕ)) (faults now : ℕ) where
    pub run_done : Runs chunk steps (surroundings before taken faults) (surroundings behind later now) RunEnd.Done → Does (run_file file steps) bytes (world before behind) Outcome.Done (outside contents calls taken faults) (outside contents calls later now)
    run_done runs = inl (record {
      end = put (output runs.es);
      comes = has_run steps Ended runs.es runs.ends.0 runs.ends.1 (runs.log (λ e. cc));
      carried = (record { contents = refl; calls = refl }, runs.puts);
      asks = inl tt;
    })

    pub run_failed : (why : List ℕ) → Runs chunk steps (surroundings before taken faults) (surroundings behind later now) (RunEnd.Failed why) → Does (run_file file steps) bytes (world before behind) (Outcome.ScriptFailed why) (outside contents calls taken faults) (outside contents calls later now)
    run_failed why runs = inl (record {
      end = failed why (output runs.es);
      comes = has_run steps (Failed why) runs.es runs.ends.0 runs.ends.1 (runs.log (λ e. cc));
      carried = (refl, record { contents = refl; calls = refl }, runs.puts);
      asks = inl tt;
    })

    pub run_unfinished : Runs chunk steps (surroundings before taken faults) (surroundings behind later now) RunEnd.Unfinished → Does (run_file file steps) bytes (world before behind) (Outcome.Unfinished steps) (outside contents calls taken faults) (outside contents calls later now)
    run_unfinished runs = inl (record {
      end = unfinished steps (output runs.es);
      comes = (refl, has_run steps Going runs.es runs.ends.0 runs.ends.1 (runs.log (λ e. cc)));
      carried = (refl, record { contents = refl; calls = refl }, runs.puts);
      asks = inl tt;
    })

    pub run_refused_out : Runs chunk steps (surroundings before taken faults) (surroundings behind later now) RunEnd.OutFault → Does (run_file file steps) bytes (world before behind) Outcome.WriteFault (outside contents calls taken faults) (outside contents calls later now)
    run_refused_out runs = inr (inl (record {
      text = output runs.es;
      so = (record { made = runs.ends.0; few = runs.ends.1; ending = runs.ends.2; ran = has_run runs.ends.0 runs.ends.2 runs.es runs.ends.3 runs.ends.4 (runs.log (λ e. cc)) }, runs.risen refl);
      output = has_put runs.ends.0 runs.ends.2 runs.es runs.ends.3;
      files = record { contents = refl; calls = refl };
      part = runs.puts;
    }))

    -- before its first step a run is going
    gave : (es : List Event) → TakesPart taken later (output es) → ((es ≡ []) × (behind ≡ before)) ⊎ GaveUp chunk (hosts_of before) [] 0 steps before behind es → Does (run_file file steps) bytes (world before behind) Outcome.OutOfMemory (outside contents calls taken faults) (outside contents calls later now)
    gave es part (inl none) = inr (inr (refl, (record { contents = refl; calls = refl }, none_taken), none.1))
      where
        none_taken : Takes taken later []
        none_taken = part_of_none taken later (subst (λ e. TakesPart taken later (output e)) none.0 part)
    gave es part (inr up) = inr (inl (record {
      text = output es;
      so = record { chunk = chunk; has = has; sound = λ spelled. sound; events = es; is = refl; gave = inr up };
      output = has_put (0 + up.done) up.ending es up.ran;
      files = record { contents = refl; calls = refl };
      part = part;
    }))

    pub run_no_memory : Runs chunk steps (surroundings before taken faults) (surroundings behind later now) RunEnd.OutOfMemory → Does (run_file file steps) bytes (world before behind) Outcome.OutOfMemory (outside contents calls taken faults) (outside contents calls later now)
    run_no_memory runs = gave runs.es runs.puts runs.ends
