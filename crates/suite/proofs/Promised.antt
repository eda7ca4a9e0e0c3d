-- What the top call promises, for words that ask for a job and for those that ask for none.
use Rattle.std.proofs.Common.{◌≡◌, ◌≢◌, ℕ, List, [], inl, inr, Option, Some, None, refl, sym, ap, subst, ◌∙◌}
use Rattle.suite_io.proofs.TakenPieces.{takes_none}
use Rattle.suite_io.specs.Taken.{Takes, Rises}
use Rattle.suite.specs.declared.outcome.Outcome.{Outcome}
use Rattle.suite.specs.declared.status.Status.{Status}
use Rattle.suite.specs.declared.product.Product.{Product}
use Rattle.suite.specs.Words.{Words, Job, put_product, job_in, texts, Reads, NoCommand, Asks, file_of, file_or_none, named}
use Rattle.suite.specs.Worlds.{Unasked}
use Rattle.suite.specs.Seen.{Seen, Outside, between}
use Rattle.suite.specs.Lines.{Reported}
use Rattle.suite.specs.Work.{Works}
use Rattle.suite.specs.Causes.{FilesFor}
use Rattle.suite.specs.Promises.{Promises}
use Rattle.suite.proofs.Facts.{Laws, no_memory_is, settled_is, put_becomes, write_cause}
use Rattle.suite.proofs.Clauses as job
use Rattle.suite.proofs.Meant.{OfJob, is_taken, is_meant}
use Rattle.suite.proofs.Mentioned.{are_mentioned}

-- words that ask for a job
module _ (laws : Laws) (words : Words) (asked : Job) (reads : Reads words asked) (before behind : Seen) (outcome : Outcome)
    (works : Works (Some asked) (between before behind) outcome before.outside behind.outside) (result : Status)
    (reported : Reported outcome (file_of asked) result before.err_taken behind.err_taken before.err_faults behind.err_faults) where
  pub some_promised : Promises words before behind result
  some_promised =
      let w = between before behind in
      let old = before.outside in
      let new = behind.outside in
      let done = job.done_clause laws words asked reads w old new outcome works before.err_taken behind.err_taken before.err_faults behind.err_faults result reported in
      let failed = job.script_failed_clause laws words asked reads w old new outcome works before.err_taken behind.err_taken before.err_faults behind.err_faults result reported in
      let going = job.unfinished_clause laws words asked reads w old new outcome works before.err_taken behind.err_taken before.err_faults behind.err_faults result reported in
      record {
        whole = (outcome, subst (λ j. Works j w outcome old new) (sym reads) works, subst (λ n. Reported outcome n result before.err_taken behind.err_taken before.err_faults behind.err_faults) (sym (job.named_is laws words asked reads w old new outcome works)) reported);
        carried_out = λ other bytes end asks comes only quiet. job.carried_out_clause laws words asked reads w old new outcome works before.err_taken behind.err_taken before.err_faults behind.err_faults result reported other bytes end asks comes only quiet.files quiet.out quiet.err;
        done = done;
        part = job.part_clause laws words asked reads w old new outcome works;
        nothing = job.nothing_clause laws words asked reads w old new outcome works;
        files = job.files_clause laws words asked reads w old new outcome works;
        hosts = job.hosts_clause laws words asked reads w old new outcome works;
        unasked = job.unasked_clause laws words asked reads w old new outcome works before.err_taken behind.err_taken before.err_faults behind.err_faults result reported;
        script_failed = failed;
        unfinished = going;
        bad_words = λ e. absurd (job.bad_words_clause laws words asked reads w old new outcome works before.err_taken behind.err_taken before.err_faults behind.err_faults result reported e);
        no_command = λ none. absurd (two_jobs none);
        read_fault = job.read_fault_clause laws words asked reads w old new outcome works before.err_taken behind.err_taken before.err_faults behind.err_faults result reported;
        fetch_failed = job.fetch_failed_clause laws words asked reads w old new outcome works before.err_taken behind.err_taken before.err_faults behind.err_faults result reported;
        refused = job.refused_clause laws words asked reads w old new outcome works before.err_taken behind.err_taken before.err_faults behind.err_faults result reported;
        bad_source = job.bad_source_clause laws words asked reads w old new outcome works before.err_taken behind.err_taken before.err_faults behind.err_faults result reported;
        bad_chunk = job.bad_chunk_clause laws words asked reads w old new outcome works before.err_taken behind.err_taken before.err_faults behind.err_faults result reported;
        rejected = job.rejected_clause laws words asked reads w old new outcome works before.err_taken behind.err_taken before.err_faults behind.err_faults result reported;
        not_decompiled = job.not_decompiled_clause laws words asked reads w old new outcome works before.err_taken behind.err_taken before.err_faults behind.err_faults result reported;
        bad_listing = job.bad_listing_clause laws words asked reads w old new outcome works before.err_taken behind.err_taken before.err_faults behind.err_faults result reported;
        decompiled = λ file out bytes chunk asks of quiet. job.decompiled_clause laws words asked reads w old new outcome works before.err_taken behind.err_taken before.err_faults behind.err_faults result reported file out bytes chunk asks of quiet.files quiet.out quiet.err;
        recovered = λ file out bytes chunk asks of is quiet. job.recovered_clause laws words asked reads w old new outcome works before.err_taken behind.err_taken before.err_faults behind.err_faults result reported file out bytes chunk asks of is quiet.files quiet.out quiet.err;
        write_fault = job.write_fault_clause laws words asked reads w old new outcome works before.err_taken behind.err_taken before.err_faults behind.err_faults result reported;
        taken = λ other bytes source asks as_source accepts. is_taken laws words before behind result other bytes source (of_job other bytes asks) as_source accepts;
        meant = λ file steps bytes source asks as_source accepts. is_meant laws words before behind result file steps bytes source (of_job _ bytes asks) as_source accepts;
        mentioned = λ file bytes source asks as_source accepts e. let d = (done e).2 (put_product Product.Globals file) bytes asks in are_mentioned laws file bytes source as_source accepts (between before behind) before.outside behind.outside d.0 d.1 d.2 d.3;
        line = job.line_clause laws words asked reads w old new outcome works before.err_taken behind.err_taken before.err_faults behind.err_faults result reported;
      }
    where
      two_jobs : NoCommand words → ⊥
      two_jobs none = let one : job_in (texts words) ≡ Some asked = reads in let no : job_in (texts words) ≡ None = none in cc

      of_job : (other : Job) (bytes : List ℕ) → Asks words before.outside.contents other bytes → OfJob words other bytes before behind result
      of_job other bytes asks =
          let w = between before behind in
          let old = before.outside in
          let new = behind.outside in
          let done = job.done_clause laws words asked reads w old new outcome works before.err_taken behind.err_taken before.err_faults behind.err_faults result reported in
          let failed = job.script_failed_clause laws words asked reads w old new outcome works before.err_taken behind.err_taken before.err_faults behind.err_faults result reported in
          let going = job.unfinished_clause laws words asked reads w old new outcome works before.err_taken behind.err_taken before.err_faults behind.err_faults result reported in
          let source = job.bad_source_clause laws words asked reads w old new outcome works before.err_taken behind.err_taken before.err_faults behind.err_faults result reported in
          let chunk = job.bad_chunk_clause laws words asked reads w old new outcome works before.err_taken behind.err_taken before.err_faults behind.err_faults result reported in
          let reject = job.rejected_clause laws words asked reads w old new outcome works before.err_taken behind.err_taken before.err_faults behind.err_faults result reported in
          let given_none = job.not_decompiled_clause laws words asked reads w old new outcome works before.err_taken behind.err_taken before.err_faults behind.err_faults result reported in
          let listed_none = job.bad_listing_clause laws words asked reads w old new outcome works before.err_taken behind.err_taken before.err_faults behind.err_faults result reported in
          record {
            done = λ e. (done e).2 other bytes asks;
            script_failed = λ e. let s = failed e in let t = s.2 other bytes asks in (s.1, t.0, t.1, t.2, s.3);
            unfinished = λ e. let s = going e in let t = s.2 other bytes asks in (s.1, t.0, t.1, t.2);
            command = two_jobs;
            bad_words = λ e. absurd (job.bad_words_clause laws words asked reads w old new outcome works before.err_taken behind.err_taken before.err_faults behind.err_faults result reported e);
            bad_source = λ e. let s = source e in (s.1, s.2 other bytes asks);
            bad_chunk = λ e. let s = chunk e in (s.1, s.2 other bytes asks);
            rejected = λ e. let s = reject e in (s.1, s.2 other bytes asks);
            not_decompiled = λ e. let s = given_none e in let t = s.2 other bytes asks in (s.1, t.0, t.1);
            bad_listing = λ e. let s = listed_none e in (s.1, s.2 other bytes asks);
            read_fault = job.read_fault_clause laws words asked reads w old new outcome works before.err_taken behind.err_taken before.err_faults behind.err_faults result reported;
            write_fault = job.write_fault_clause laws words asked reads w old new outcome works before.err_taken behind.err_taken before.err_faults behind.err_faults result reported;
          }

-- words that ask for none
module _ (words : Words) (none : NoCommand words) (before behind : Seen) (same : behind.outside ≡ before.outside) (unasked : Unasked (between before behind)) (result : Status)
    (reported : Reported Outcome.BadWords [] result before.err_taken behind.err_taken before.err_faults behind.err_faults) where
  no_job : (asked : Job) → Reads words asked → ⊥
  no_job asked reads = let one : job_in (texts words) ≡ Some asked = reads in let no : job_in (texts words) ≡ None = none in cc

  nameless : [] ≡ named words
  nameless = sym (ap file_or_none none)

  named_so : Reported Outcome.BadWords (named words) result before.err_taken behind.err_taken before.err_faults behind.err_faults
  named_so = subst (λ n. Reported Outcome.BadWords n result before.err_taken behind.err_taken before.err_faults behind.err_faults) nameless reported

  other : (status : Status) → status ≢ Status.BadWords → status ≢ Status.WriteFault → status ≢ Status.OutOfMemory → result ≡ status → ⊥
  other status not_words no_fault no_want e =
      not_words (sym e ∙ (settled_is before.err_taken behind.err_taken before.err_faults behind.err_faults Outcome.BadWords [] result reported (λ f. no_fault (sym e ∙ f)) (λ f. no_want (sym e ∙ f))).0)

  by_cause : result ≡ Status.WriteFault → Rises before.err_faults behind.err_faults
  by_cause e = elim (write_cause before.err_taken behind.err_taken before.err_faults behind.err_faults Outcome.BadWords [] result reported e) [ inl s ↦ absurd (cc) | inr risen ↦ risen ]

  pub none_promised : Promises words before behind result
  none_promised = record {
    whole = (Outcome.BadWords, subst (λ j. Works j (between before behind) Outcome.BadWords before.outside behind.outside) (sym none) (inl refl, same, unasked), named_so);
    carried_out = λ asked bytes end asks comes only quiet. absurd (no_job asked asks.reads);
    done = λ e. absurd (other Status.Done (λ d. cc) (λ d. cc) (λ d. cc) e);
    part = λ asked bytes asks. absurd (no_job asked asks.reads);
    nothing = λ cause. subst (λ (o : Outside). Takes before.outside.taken o.taken []) (sym same) (takes_none before.outside.taken);
    files = subst (λ j. FilesFor j before.outside behind.outside) (sym none) (ap (λ (o : Outside). o.calls) same, ap (λ (o : Outside). o.contents) same);
    hosts = inr unasked;
    unasked = λ refuses. unasked;
    script_failed = λ e. absurd (other Status.ScriptFailed (λ d. cc) (λ d. cc) (λ d. cc) e);
    unfinished = λ e. absurd (other Status.Unfinished (λ d. cc) (λ d. cc) (λ d. cc) e);
    bad_words = λ e. none;
    no_command = λ no. inl (put_becomes before.err_taken behind.err_taken before.err_faults behind.err_faults Status.BadWords _ result reported);
    read_fault = λ e. absurd (other Status.ReadFault (λ d. cc) (λ d. cc) (λ d. cc) e);
    fetch_failed = λ fetch. absurd (no_job fetch.job fetch.reads);
    refused = λ asked bytes end asks comes only no fetch. absurd (no_job asked asks.reads);
    bad_source = λ e. absurd (other Status.BadSource (λ d. cc) (λ d. cc) (λ d. cc) e);
    bad_chunk = λ e. absurd (other Status.BadChunk (λ d. cc) (λ d. cc) (λ d. cc) e);
    rejected = λ e. absurd (other Status.Rejected (λ d. cc) (λ d. cc) (λ d. cc) e);
    not_decompiled = λ e. absurd (other Status.NotDecompiled (λ d. cc) (λ d. cc) (λ d. cc) e);
    bad_listing = λ e. absurd (other Status.BadListing (λ d. cc) (λ d. cc) (λ d. cc) e);
    decompiled = λ file out bytes chunk asks of quiet. absurd (no_job _ asks.reads);
    recovered = λ file out bytes chunk asks of is quiet. absurd (no_job _ asks.reads);
    write_fault = λ e. inr (inl (by_cause e));
    taken = λ asked bytes source asks as_source accepts. absurd (no_job asked asks.reads);
    meant = λ file steps bytes source asks as_source accepts. absurd (no_job _ asks.reads);
    mentioned = λ file bytes source asks as_source accepts e. absurd (no_job _ asks.reads);
    line = λ no_fault no_want. let s = settled_is before.err_taken behind.err_taken before.err_faults behind.err_faults Outcome.BadWords (named words) result named_so no_fault no_want in (Outcome.BadWords, sym s.0, s.1);
  }

-- words that were not read, since memory ran out
module _ (words : Words) (before behind : Seen) (same : behind.outside ≡ before.outside) (unasked : Unasked (between before behind)) (result : Status)
    (reported : Reported Outcome.OutOfMemory [] result before.err_taken behind.err_taken before.err_faults behind.err_faults) where
  wants : result ≡ Status.OutOfMemory
  wants = no_memory_is before.err_taken behind.err_taken before.err_faults behind.err_faults _ result reported

  -- and ask for nothing
  nothing_promised : NoCommand words → Promises words before behind result
  nothing_promised none = record {
    whole = (Outcome.OutOfMemory, subst (λ j. Works j (between before behind) Outcome.OutOfMemory before.outside behind.outside) (sym none) (inr refl, same, unasked), reported);
    carried_out = λ asked bytes end asks comes only quiet. inr wants;
    done = λ e. let w = wants in absurd (cc);
    part = λ asked bytes asks. inl unput;
    nothing = λ cause. unput;
    files = subst (λ j. FilesFor j before.outside behind.outside) (sym none) (ap (λ (o : Outside). o.calls) same, ap (λ (o : Outside). o.contents) same);
    hosts = inr unasked;
    unasked = λ refuses. unasked;
    script_failed = λ e. let w = wants in absurd (cc);
    unfinished = λ e. let w = wants in absurd (cc);
    bad_words = λ e. none;
    no_command = λ no. inr wants;
    read_fault = λ e. let w = wants in absurd (cc);
    fetch_failed = λ fetch. absurd (no_asked fetch.job fetch.reads);
    refused = λ asked bytes end asks comes only no fetch. inr wants;
    bad_source = λ e. let w = wants in absurd (cc);
    bad_chunk = λ e. let w = wants in absurd (cc);
    rejected = λ e. let w = wants in absurd (cc);
    not_decompiled = λ e. let w = wants in absurd (cc);
    bad_listing = λ e. let w = wants in absurd (cc);
    decompiled = λ file out bytes chunk asks of quiet. inr (inr wants);
    recovered = λ file out bytes chunk asks of is quiet. inr wants;
    write_fault = λ e. let w = wants in absurd (cc);
    taken = λ asked bytes source asks as_source accepts. absurd (no_asked asked asks.reads);
    meant = λ file steps bytes source asks as_source accepts. absurd (no_asked _ asks.reads);
    mentioned = λ file bytes source asks as_source accepts e. absurd (no_asked _ asks.reads);
    line = λ no_fault no_want. absurd (no_want wants);
  }
    where
      no_asked : (asked : Job) → Reads words asked → ⊥
      no_asked asked reads = let one : job_in (texts words) ≡ Some asked = reads in let no : job_in (texts words) ≡ None = none in cc

      unput : Takes before.outside.taken behind.outside.taken []
      unput = subst (λ (o : Outside). Takes before.outside.taken o.taken []) (sym same) (takes_none before.outside.taken)

  pub wanting_promised : Laws → Promises words before behind result
  wanting_promised laws = by (job_in (texts words)) refl
    where
      by : (o : Option Job) → job_in (texts words) ≡ o → Promises words before behind result
      by None none = nothing_promised none
      by (Some asked) reads = some_promised laws words asked reads before behind Outcome.OutOfMemory (inr (inl (refl, same, unasked))) result reported
