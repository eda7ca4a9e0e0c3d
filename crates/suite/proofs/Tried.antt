-- What a run of the machine is for a made source, and what comes behind it.
use Rattle.std.proofs.Common.{◌≡◌, ◌⊎◌, ℕ, ◌+◌, ◌≤◌, List, [], ◌++◌, Option, inl, inr, refl, sym, ap, subst, append-nil, arith}
use Rattle.std.proofs.lemmas.Bool.{cases_lt}
use Rattle.lua_model.specs.Store.{Event, output}
use Rattle.lua_model.specs.Endings.{Ended, Failed, Going}
use Rattle.proto.specs.Chunk.{Chunk}
use Rattle.suite_io.specs.declared.calls.FileCall.{FileCall}
use Rattle.suite_io.specs.Contents.{Contents}
use Rattle.suite_io.specs.Parts.{TakesPart}
use Rattle.suite_io.specs.Taken.{Takes, Rises}
use Rattle.suite_io.proofs.TakenPieces.{takes_both}
use Rattle.host.specs.Hosts.{HostSetState}
use Rattle.rules.specs.Sound.{Sound}
use Rattle.machine.specs.declared.runs.RunEnd.{RunEnd}
use Rattle.machine.specs.At.{GaveUp, Runs, surroundings}
use Rattle.machine.specs.Outside.{hosts_of}
use Rattle.suite.specs.declared.outcome.Outcome.{Outcome}
use Rattle.suite.specs.Words.{make_source, made_name, default_steps}
use Rattle.suite.specs.Worlds.{World, world}
use Rattle.suite.specs.Seen.{outside}
use Rattle.suite.specs.Jobs.{HasChunk, HasRun, HasMade, HasNoSource, IsTold, IsUnfound, put, failed, unfinished, not_decompiled}
use Rattle.decompile.specs.declared.refused.Refused.{Refused}
use Rattle.decompile.specs.Sources.{IsSourceOf}
use Rattle.made_source.specs.Made.{account}
use Rattle.suite.specs.Work.{Does}
use Rattle.suite.specs.Trying.{HasAccount, IsTried}
use Rattle.suite.proofs.Facts.{whole_part}
use Rattle.suite.proofs.Putting.{part_then}
use Rattle.suite.proofs.Ran.{ran_of, has_put, part_of_none}

-- a count that did not fall, and then rose, rose
rises_later : (faults between now : ℕ) → faults ≤ between → between ≤ now → Rises between now → Rises faults now
rises_later faults between now low high (inl more) = inl (omega (arith, low, more))
rises_later faults between now low high (inr most) = elim (cases_lt faults between) [
  | inl less ↦ inl (omega (arith, less, high))
  | inr equal ↦ inr (omega (arith, equal, low, most))
]

takes_then_none : (taken mid later : Option (List ℕ)) (text : List ℕ) → Takes taken mid text → Takes mid later [] → Takes taken later text
takes_then_none taken mid later text one none = subst (Takes taken later) (append-nil text) (takes_both taken mid later text [] one none)

-- the account of the chunk that was run, behind the output of that run
with_account : (bytes : List ℕ) (chunk : Chunk) (w : World) (out text : List ℕ) → (r : HasRun made_name bytes w default_steps Ended out) × (r.chunk ≡ chunk) → HasAccount bytes chunk text → HasMade bytes w (out ++ text)
with_account bytes chunk w out text (ran, same) has = record {
  output = out;
  ran = ran;
  source = has.source;
  of = subst (λ (c : Chunk). IsSourceOf c has.source) (sym same) has.of;
  is = ap (λ (t : List ℕ). out ++ t) (subst (λ (c : Chunk). text ≡ account bytes c) (sym same) has.is);
}

without_source : (bytes : List ℕ) (chunk : Chunk) (w : World) (out : List ℕ) (why : Refused) → (r : HasRun made_name bytes w default_steps Ended out) × (r.chunk ≡ chunk) → IsTold why → IsUnfound chunk why → HasNoSource bytes w why out
without_source bytes chunk w out why (ran, same) told refused = record { ran = ran; told = told; refused = subst (λ (c : Chunk). IsUnfound c why) (sym same) refused }

module _ (bytes : List ℕ) (chunk : Chunk) (has : HasChunk made_name bytes chunk) (sound : Sound chunk) (before behind : HostSetState) (count : ℕ) (contents : Option Contents) (calls : List FileCall) (taken : Option (List ℕ)) (faults : ℕ) where
  ended_so : (mid : Option (List ℕ)) (between : ℕ) (runs : Runs chunk default_steps (surroundings before taken faults) (surroundings behind mid between) RunEnd.Done) → (r : HasRun made_name bytes (world before behind) default_steps Ended (output runs.es)) × (r.chunk ≡ chunk)
  ended_so mid between runs = ran_of made_name default_steps bytes chunk has sound before behind default_steps Ended runs.es runs.ends.0 runs.ends.1 (runs.log (λ e. cc))

  -- a run that ended, and what is told behind it
  pub told_behind : (mid later : Option (List ℕ)) (between now : ℕ) (outcome : Outcome) → Runs chunk default_steps (surroundings before taken faults) (surroundings behind mid between) RunEnd.Done → IsTried bytes chunk outcome mid later between now → Does (make_source count) bytes (world before behind) outcome (outside contents calls taken faults) (outside contents calls later now)
  told_behind mid later between now Outcome.Done runs (text, account, takes) = inl (record {
    end = put (output runs.es ++ text);
    comes = with_account bytes chunk (world before behind) (output runs.es) text (ended_so mid between runs) account;
    carried = (record { contents = refl; calls = refl }, takes_both taken mid later (output runs.es) text runs.puts takes);
    asks = inl tt;
  })
  told_behind mid later between now Outcome.WriteFault runs (text, account, part, high, rises) = inl (record {
    end = put (output runs.es ++ text);
    comes = with_account bytes chunk (world before behind) (output runs.es) text (ended_so mid between runs) account;
    carried = (record { contents = refl; calls = refl }, part_then (output runs.es) text taken mid later runs.puts part, rises_later faults between now runs.never_falls high rises);
    asks = inl tt;
  })
  told_behind mid later between now Outcome.OutOfMemory runs (inr (text, account, part)) = inl (record {
    end = put (output runs.es ++ text);
    comes = with_account bytes chunk (world before behind) (output runs.es) text (ended_so mid between runs) account;
    carried = (record { contents = refl; calls = refl }, part_then (output runs.es) text taken mid later runs.puts part);
    asks = inl tt;
  })
  told_behind mid later between now Outcome.OutOfMemory runs (inl none) = inr (inl (record {
    text = output runs.es;
    so = inr (ended_so mid between runs).0;
    output = inl (has_put made_name default_steps bytes chunk has sound before behind default_steps Ended runs.es runs.ends.0);
    files = record { contents = refl; calls = refl };
    part = whole_part taken later (output runs.es) (takes_then_none taken mid later (output runs.es) runs.puts none);
  }))
  told_behind mid later between now (Outcome.NotDecompiled why) runs (told, refused, none) = inl (record {
    end = not_decompiled why (output runs.es);
    comes = without_source bytes chunk (world before behind) (output runs.es) why (ended_so mid between runs) told refused;
    carried = (refl, record { contents = refl; calls = refl }, takes_then_none taken mid later (output runs.es) runs.puts none);
    asks = inl tt;
  })
  told_behind mid later between now outcome runs tried = absurd tried

  module _ (later : Option (List ℕ)) (now : ℕ) where
    pub made_failed : (why : List ℕ) → Runs chunk default_steps (surroundings before taken faults) (surroundings behind later now) (RunEnd.Failed why) → Does (make_source count) bytes (world before behind) (Outcome.ScriptFailed why) (outside contents calls taken faults) (outside contents calls later now)
    made_failed why runs = inl (record {
      end = failed why (output runs.es);
      comes = (ran_of made_name default_steps bytes chunk has sound before behind default_steps (Failed why) runs.es runs.ends.0 runs.ends.1 (runs.log (λ e. cc))).0;
      carried = (refl, record { contents = refl; calls = refl }, runs.puts);
      asks = inl tt;
    })

    pub made_unfinished : Runs chunk default_steps (surroundings before taken faults) (surroundings behind later now) RunEnd.Unfinished → Does (make_source count) bytes (world before behind) (Outcome.Unfinished default_steps) (outside contents calls taken faults) (outside contents calls later now)
    made_unfinished runs = inl (record {
      end = unfinished default_steps (output runs.es);
      comes = (refl, (ran_of made_name default_steps bytes chunk has sound before behind default_steps Going runs.es runs.ends.0 runs.ends.1 (runs.log (λ e. cc))).0);
      carried = (refl, record { contents = refl; calls = refl }, runs.puts);
      asks = inl tt;
    })

    pub made_refused_out : Runs chunk default_steps (surroundings before taken faults) (surroundings behind later now) RunEnd.OutFault → Does (make_source count) bytes (world before behind) Outcome.WriteFault (outside contents calls taken faults) (outside contents calls later now)
    made_refused_out runs = inr (inl (record {
      text = output runs.es;
      so = (record { made = runs.ends.0; few = runs.ends.1; ending = runs.ends.2; ran = (ran_of made_name default_steps bytes chunk has sound before behind runs.ends.0 runs.ends.2 runs.es runs.ends.3 runs.ends.4 (runs.log (λ e. cc))).0 }, runs.risen refl);
      output = inl (has_put made_name default_steps bytes chunk has sound before behind runs.ends.0 runs.ends.2 runs.es runs.ends.3);
      files = record { contents = refl; calls = refl };
      part = runs.puts;
    }))

    gave : (es : List Event) → TakesPart taken later (output es) → ((es ≡ []) × (behind ≡ before)) ⊎ GaveUp chunk (hosts_of before) [] 0 default_steps before behind es → Does (make_source count) bytes (world before behind) Outcome.OutOfMemory (outside contents calls taken faults) (outside contents calls later now)
    gave es part (inl none) = inr (inr (refl, (record { contents = refl; calls = refl }, part_of_none taken later (subst (λ e. TakesPart taken later (output e)) none.0 part)), none.1))
    gave es part (inr up) = inr (inl (record {
      text = output es;
      so = inl (record { chunk = chunk; has = has; sound = λ spelled. sound; events = es; is = refl; gave = inr up });
      output = inl (has_put made_name default_steps bytes chunk has sound before behind (0 + up.done) up.ending es up.ran);
      files = record { contents = refl; calls = refl };
      part = part;
    }))

    pub made_no_memory : Runs chunk default_steps (surroundings before taken faults) (surroundings behind later now) RunEnd.OutOfMemory → Does (make_source count) bytes (world before behind) Outcome.OutOfMemory (outside contents calls taken faults) (outside contents calls later now)
    made_no_memory runs = gave runs.es runs.puts runs.ends
