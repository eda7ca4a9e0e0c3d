-- Accepted source is taken for every job, and its run does what it means: from the other promises, and the law of compiled source.
use Rattle.std.proofs.Common.{◌≡◌, ◌≢◌, ◌⊎◌, ℕ, suc, ◌*◌, ◌≤◌, Bool, true, false, List, [], ◌∷◌, ◌++◌, inl, inr, Some, refl, sym, ap, subst, ◌∙◌, cond, arith}
use Rattle.std.proofs.lemmas.List.Sums.{sum_by-append}
use Rattle.lua_num.specs.Bytes.{Text}
use Rattle.lua_tree.specs.Syntax.{Source}
use Rattle.lua_model.specs.Store.{Event, output}
use Rattle.lua_model.specs.Endings.{Ending, Ended, Failed, Going, Course, IsPrefix}
use Rattle.proto.specs.Chunk.{Chunk}
use Rattle.chunk_io.specs.Items.{is_chunk}
use Rattle.chunk_io.specs.declared.fault.ChunkFault.{ChunkFault}
use Rattle.front.specs.declared.fault.Fault.{Fault}
use Rattle.front.specs.Sources.{IsFaultIn}
use Rattle.decompile.specs.declared.refused.Refused.{Refused}
use Rattle.asm_text.specs.declared.fault.ListFault.{ListFault}
use Rattle.scheme.specs.Scheme.{scheme}
use Rattle.scheme.specs.Accepts.{Accepts}
use Rattle.agrees.specs.Doing.{DoesSo}
use Rattle.machine.specs.Outside.{calls_in}
use Rattle.suite_io.specs.declared.calls.FileCall.{FileCall}
use Rattle.suite_io.specs.Calls.{call_of, fault_count}
use Rattle.suite_io.specs.Taken.{Takes, Rises}
use Rattle.suite.specs.declared.product.Product.{Product}
use Rattle.suite.specs.declared.status.Status.{Status}
use Rattle.suite.specs.declared.outcome.Outcome.{Outcome}
use Rattle.suite.specs.declared.rejection.Rejection.{Rejection}
use Rattle.suite.specs.Lines.{line_of}
use Rattle.suite.specs.Words.{Words, Job, run_file, put_product, store_product, make_source, NoCommand, named}
use Rattle.suite.specs.Work.{out_of, IsStore, Fetches, first_calls}
use Rattle.suite.specs.Worlds.{World, hosts_first, replies_of}
use Rattle.suite.specs.Seen.{Seen, between}
use Rattle.suite.specs.Jobs.{End, stored, put, failed, unfinished, bad_source, bad_chunk, rejected, not_decompiled, bad_listing, Comes, HasChunk, HasRun, source_name, Refuses}
use Rattle.suite.specs.Causes.{Fetched, StoreFailed, Leaves, status_at}
use Rattle.suite.specs.Promises.{IsQuiet}
use Rattle.suite.specs.Meant.{IsReadAsSource, RefusesFile, IsGood, IsTaken, ComesOut, GoesOn, IsMeant, meant_by}
use Rattle.suite.proofs.Ends.{source_not_listing}
use Rattle.suite.proofs.Facts.{Laws, count_snoc}

-- ---- no job comes to a refusal of it

not_both : (b : Bool) → b ≡ false → b ≡ true → ⊥
not_both b is_not is = cc

module _ (laws : Laws) (bytes : List ℕ) (w : World) where
  no_fault : (file : Text) (source : Source) (fault : Fault) → Accepts bytes source → IsFaultIn bytes fault → ⊥
  no_fault file source fault accepts is = laws.source_or_fault (source_name file) bytes (scheme source (source_name file)) fault (record { source = source; accepts = accepts; is = refl }) is

  never_bad_source : (job : Job) (source : Source) (fault : Fault) → Accepts bytes source → Comes job bytes w (bad_source fault) → ⊥
  never_bad_source (run_file file steps) source fault accepts comes = no_fault file source fault accepts comes.1
  never_bad_source (put_product p file) source fault accepts comes = no_fault file source fault accepts comes.1
  never_bad_source (store_product p file out) source fault accepts comes = no_fault file source fault accepts comes.1
  never_bad_source (make_source count) source fault accepts comes = no_fault [] source fault accepts comes.1

  product_bad_chunk : (p : Product) (file : Text) (fault : ChunkFault) → IsReadAsSource (put_product p file) bytes → Refuses p file bytes (bad_chunk fault) → ⊥
  product_bad_chunk Product.Listing file fault source is = not_both (is_chunk bytes) source is.0
  product_bad_chunk Product.Verdict file fault source is = not_both (is_chunk bytes) source is.0
  product_bad_chunk (Product.Spelling strip layout) file fault source is = is.0
  product_bad_chunk Product.Source file fault source is = source
  product_bad_chunk Product.Globals file fault source is = not_both (is_chunk bytes) source is.0
  product_bad_chunk Product.Assembly file fault source is = source

  never_bad_chunk : (job : Job) (fault : ChunkFault) → IsReadAsSource job bytes → Comes job bytes w (bad_chunk fault) → ⊥
  never_bad_chunk (run_file file steps) fault source comes = product_bad_chunk Product.Verdict file fault source comes
  never_bad_chunk (put_product p file) fault source comes = product_bad_chunk p file fault source comes
  never_bad_chunk (store_product p file out) fault source comes = product_bad_chunk p file fault source comes
  never_bad_chunk (make_source count) fault source comes = source

  product_rejected : (p : Product) (file : Text) (r : Rejection) → IsReadAsSource (put_product p file) bytes → Refuses p file bytes (rejected r) → ⊥
  product_rejected Product.Verdict file r source is = not_both (is_chunk bytes) source is.spelled
  product_rejected Product.Globals file r source is = not_both (is_chunk bytes) source is.spelled
  product_rejected p file r source is = is.wants

  never_rejected : (job : Job) (r : Rejection) → IsReadAsSource job bytes → Comes job bytes w (rejected r) → ⊥
  never_rejected (run_file file steps) r source comes = product_rejected Product.Verdict file r source comes
  never_rejected (put_product p file) r source comes = product_rejected p file r source comes
  never_rejected (store_product p file out) r source comes = product_rejected p file r source comes
  never_rejected (make_source count) r source comes = source

  product_not_decompiled : (p : Product) (file : Text) (r : Refused) (text : List ℕ) → IsReadAsSource (put_product p file) bytes → Refuses p file bytes (not_decompiled r text) → ⊥
  product_not_decompiled Product.Source file r text source is = source
  product_not_decompiled p file r text source is = is.0.wants

  never_not_decompiled : (job : Job) (r : Refused) (text : List ℕ) → IsReadAsSource job bytes → Comes job bytes w (not_decompiled r text) → ⊥
  never_not_decompiled (run_file file steps) r text source comes = product_not_decompiled Product.Verdict file r text source comes
  never_not_decompiled (put_product p file) r text source comes = product_not_decompiled p file r text source comes
  never_not_decompiled (store_product p file out) r text source comes = product_not_decompiled p file r text source comes
  never_not_decompiled (make_source count) r text source comes = source

  never_bad_listing : (job : Job) (fault : ListFault) → IsReadAsSource job bytes → Comes job bytes w (bad_listing fault) → ⊥
  never_bad_listing (run_file file steps) fault source comes = comes.0
  never_bad_listing (put_product p file) fault source comes = source_not_listing p bytes source comes.0
  never_bad_listing (store_product p file out) fault source comes = source_not_listing p bytes source comes.0
  never_bad_listing (make_source count) fault source comes = source

-- a call that failed raises the count of faults, whatever comes behind it
fault_rises : (calls : List FileCall) (call : FileCall) (later : List FileCall) → call.failed ≡ true → suc (fault_count calls) ≤ fault_count ((calls ++ call ∷ []) ++ later)
fault_rises calls call later e =
    let one = count_snoc calls call e in
    let both = sum_by-append (λ (c : FileCall). cond c.failed 1 0) (calls ++ call ∷ []) later in
    omega (arith, one, both)

store_rises : (calls : List FileCall) (fetch store : FileCall) → store.failed ≡ true → suc (fault_count calls) ≤ fault_count ((calls ++ fetch ∷ []) ++ store ∷ [])
store_rises calls fetch store e =
    let one = count_snoc (calls ++ fetch ∷ []) store e in
    let both = sum_by-append (λ (c : FileCall). cond c.failed 1 0) calls (fetch ∷ []) in
    omega (arith, one, both)

fetch_rises : (job : Job) (calls later : List FileCall) → Fetches job → suc (fault_count calls) ≤ fault_count ((calls ++ first_calls job true) ++ later)
fetch_rises (run_file file steps) calls later f = fault_rises calls (call_of false file true) later refl
fetch_rises (put_product p file) calls later f = fault_rises calls (call_of false file true) later refl
fetch_rises (store_product p file out) calls later f = fault_rises calls (call_of false file true) later refl
fetch_rises (make_source count) calls later f = absurd f

store_behind : (job : Job) (calls : List FileCall) (store : FileCall) → IsStore job → store.failed ≡ true → suc (fault_count calls) ≤ fault_count ((calls ++ first_calls job false) ++ store ∷ [])
store_behind (store_product p file out) calls store stores e = store_rises calls (call_of false file false) store e
store_behind (run_file file steps) calls store stores e = absurd stores
store_behind (put_product p file) calls store stores e = absurd stores
store_behind (make_source count) calls store stores e = absurd stores

-- ---- what the other promises say of one job

pub record OfJob (words : Words) (job : Job) (bytes : List ℕ) (before behind : Seen) (result : Status) : Type 0 where
  pub done : result ≡ Status.Done → (end : End) × Comes job bytes (between before behind) end × (status_at end ≡ Status.Done) × Leaves job end before.outside behind.outside
  pub script_failed : result ≡ Status.ScriptFailed → (why : List ℕ) × (text : List ℕ) × Comes job bytes (between before behind) (failed why text) × Leaves job (failed why text) before.outside behind.outside × Takes before.err_taken behind.err_taken (line_of (Outcome.ScriptFailed why) (named words))
  pub unfinished : result ≡ Status.Unfinished → (n : ℕ) × (text : List ℕ) × Comes job bytes (between before behind) (unfinished n text) × Leaves job (unfinished n text) before.outside behind.outside
  pub command : NoCommand words → ⊥
  pub bad_words : result ≡ Status.BadWords → NoCommand words
  pub bad_source : result ≡ Status.BadSource → (fault : Fault) × Comes job bytes (between before behind) (bad_source fault)
  pub bad_chunk : result ≡ Status.BadChunk → (fault : ChunkFault) × Comes job bytes (between before behind) (bad_chunk fault)
  pub rejected : result ≡ Status.Rejected → (r : Rejection) × Comes job bytes (between before behind) (rejected r)
  pub not_decompiled : result ≡ Status.NotDecompiled → (r : Refused) × (text : List ℕ) × Comes job bytes (between before behind) (not_decompiled r text)
  pub bad_listing : result ≡ Status.BadListing → (fault : ListFault) × Comes job bytes (between before behind) (bad_listing fault)
  pub read_fault : result ≡ Status.ReadFault → Fetched words true before.outside.calls behind.outside.calls
  pub write_fault : result ≡ Status.WriteFault → Rises before.outside.faults behind.outside.faults ⊎ Rises before.err_faults behind.err_faults ⊎ StoreFailed words before.outside.calls behind.outside.calls

-- no text is made by a run that failed or is going
text_or_run : (job : Job) (bytes : List ℕ) (w : World) (status : Status) → IsReadAsSource job bytes → (status ≡ Status.ScriptFailed → (why : List ℕ) × (text : List ℕ) × Comes job bytes w (failed why text)) → (status ≡ Status.Unfinished → (n : ℕ) × (text : List ℕ) × Comes job bytes w (unfinished n text)) → (status ≡ Status.Done) ⊎ (status ≡ Status.ScriptFailed) ⊎ (status ≡ Status.Unfinished) ⊎ (status ≡ Status.OutOfMemory) → IsGood job status
text_or_run (run_file file steps) bytes w status source fails goes is = is
text_or_run (put_product p file) bytes w status source fails goes (inl e) = inl e
text_or_run (put_product p file) bytes w status source fails goes (inr (inl e)) = absurd (fails e).2
text_or_run (put_product p file) bytes w status source fails goes (inr (inr (inl e))) = absurd (goes e).2
text_or_run (put_product p file) bytes w status source fails goes (inr (inr (inr e))) = inr e
text_or_run (store_product p file out) bytes w status source fails goes (inl e) = inl e
text_or_run (store_product p file out) bytes w status source fails goes (inr (inl e)) = absurd (fails e).2
text_or_run (store_product p file out) bytes w status source fails goes (inr (inr (inl e))) = absurd (goes e).2
text_or_run (store_product p file out) bytes w status source fails goes (inr (inr (inr e))) = inr e
text_or_run (make_source count) bytes w status source fails goes is = absurd source

module _ (laws : Laws) (words : Words) (before behind : Seen) (result : Status) (job : Job) (bytes : List ℕ) (source : Source) (of : OfJob words job bytes before behind result) (as_source : IsReadAsSource job bytes) (accepts : Accepts bytes source) where
  never_refused : (status : Status) → result ≡ status → RefusesFile status → ⊥
  never_refused Status.BadWords e refuses = of.command (of.bad_words e)
  never_refused Status.BadSource e refuses = let c = of.bad_source e in never_bad_source laws bytes (between before behind) job source c.0 accepts c.1
  never_refused Status.BadChunk e refuses = let c = of.bad_chunk e in never_bad_chunk laws bytes (between before behind) job c.0 as_source c.1
  never_refused Status.Rejected e refuses = let c = of.rejected e in never_rejected laws bytes (between before behind) job c.0 as_source c.1
  never_refused Status.NotDecompiled e refuses = let c = of.not_decompiled e in never_not_decompiled laws bytes (between before behind) job c.0 c.1 as_source c.2
  never_refused Status.BadListing e refuses = let c = of.bad_listing e in never_bad_listing laws bytes (between before behind) job c.0 as_source c.1
  never_refused status e refuses = refuses

  no_read_fault : IsQuiet words before behind result → Fetched words true before.outside.calls behind.outside.calls → ⊥
  no_read_fault quiet f =
      let rises = fetch_rises f.job before.outside.calls f.later (f.fetches refl) in
      let same = ap fault_count f.listed in
      let quiet_files = quiet.files in
      absurd (omega (arith, rises, same, quiet_files))

  one_of : IsQuiet words before behind result → (status : Status) → result ≡ status → (status ≡ Status.Done) ⊎ (status ≡ Status.ScriptFailed) ⊎ (status ≡ Status.Unfinished) ⊎ (status ≡ Status.OutOfMemory)
  one_of quiet Status.Done e = inl refl
  one_of quiet Status.ScriptFailed e = inr (inl refl)
  one_of quiet Status.Unfinished e = inr (inr (inl refl))
  one_of quiet Status.OutOfMemory e = inr (inr (inr refl))
  one_of quiet Status.BadWords e = absurd (never_refused Status.BadWords e tt)
  one_of quiet Status.BadSource e = absurd (never_refused Status.BadSource e tt)
  one_of quiet Status.BadChunk e = absurd (never_refused Status.BadChunk e tt)
  one_of quiet Status.Rejected e = absurd (never_refused Status.Rejected e tt)
  one_of quiet Status.NotDecompiled e = absurd (never_refused Status.NotDecompiled e tt)
  one_of quiet Status.BadListing e = absurd (never_refused Status.BadListing e tt)
  one_of quiet Status.ReadFault e = absurd (no_read_fault quiet (of.read_fault e))
  one_of quiet Status.WriteFault e = absurd (elim (of.write_fault e) [
    | inl risen ↦ quiet.out risen
    | inr other ↦ elim other [
      | inl risen ↦ quiet.err risen
      | inr store ↦ no_store store
    ]
  ])
    where
      no_store : StoreFailed words before.outside.calls behind.outside.calls → ⊥
      no_store f =
          let rises = store_behind f.job before.outside.calls (call_of true (out_of f.job) true) f.stores refl in
          let same = ap fault_count f.listed in
          let quiet_files = quiet.files in
          absurd (omega (arith, rises, same, quiet_files))

  pub is_taken : IsTaken job (IsQuiet words before behind result) result
  is_taken = record {
    never_refused = λ refuses. never_refused result refl refuses;
    good = λ quiet.
        text_or_run job bytes (between before behind) result as_source
        (λ e. let f = of.script_failed e in (f.0, f.1, f.2))
        (λ e. let f = of.unfinished e in (f.0, f.1, f.2))
        (one_of quiet result refl);
  }

-- ---- a run does what the source means

module _ (laws : Laws) (words : Words) (before behind : Seen) (result : Status) (file : Text) (steps : ℕ) (bytes : List ℕ) (source : Source) (of : OfJob words (run_file file steps) bytes before behind result) (as_source : is_chunk bytes ≡ false) (accepts : Accepts bytes source) where
  abbrev w : World
  w = between before behind

  -- where the run of the chunk of the file is, after these steps
  does : (ending : Ending) (text : List ℕ) → HasRun file bytes w steps ending text → (chunk : Chunk) → HasChunk file bytes chunk → DoesSo source chunk (hosts_first w) (replies_of w) steps
  does ending text has chunk (inl spelled) = absurd (not_both (is_chunk bytes) as_source spelled.0)
  does ending text has chunk (inr compiled) = laws.compiled_does (source_name file) bytes source chunk accepts compiled.1 (hosts_first w) (replies_of w) steps

  -- it is there with these events
  abbrev so : Ending → List Event → Course
  so ending events = record { ending = ending; events = events }

  comes_out : (ending : Ending) (text : List ℕ) → ending ≢ Going → HasRun file bytes w steps ending text → Takes before.outside.taken behind.outside.taken text → ComesOut source w before.outside.taken behind.outside.taken ending
  comes_out ending text over has takes =
      let d = does ending text has has.chunk has.has in
      let both : Some d.so ≡ Some (so ending has.events) = sym d.is ∙ has.comes in
      let same : d.so ≡ so ending has.events = cc in
      let meant = d.over (λ g. over (sym (ap (λ (c : Course). c.ending) same) ∙ g)) in
      let course = meant.1 ∙ same in
      record {
        ticks = meant.0;
        ends = ap (λ (c : Course). c.ending) course;
        puts = subst (Takes before.outside.taken behind.outside.taken) (has.is ∙ ap (λ (c : Course). output c.events) (sym course)) takes;
        called = has.called ∙ ap (λ (c : Course). calls_in c.events) (sym course);
      }

  goes_on : (text : List ℕ) → HasRun file bytes w steps Going text → Takes before.outside.taken behind.outside.taken text → GoesOn source w before.outside.taken behind.outside.taken steps
  goes_on text has takes =
      let d = does Going text has has.chunk has.has in
      let both : Some d.so ≡ Some (so Going has.events) = sym d.is ∙ has.comes in
      let same : d.so ≡ so Going has.events = cc in
      let events : d.so.events ≡ has.events = ap (λ (c : Course). c.events) same in
      record {
        events = has.events;
        puts = subst (Takes before.outside.taken behind.outside.taken) has.is takes;
        called = has.called;
        going = λ ticks within. (d.going (ap (λ (c : Course). c.ending) same) ticks within, subst (IsPrefix (meant_by source w ticks).events) events (d.tells ticks within));
        told = (d.told.0, subst (λ es. IsPrefix es (meant_by source w d.told.0).events) events d.told.1);
      }

  at_done : (end : End) → Comes (run_file file steps) bytes w end → status_at end ≡ Status.Done → Leaves (run_file file steps) end before.outside behind.outside → ComesOut source w before.outside.taken behind.outside.taken Ended
  at_done (put text) comes e l = comes_out Ended text (λ g. cc) comes l.1
  at_done (stored text) comes e l = absurd comes
  at_done (failed why text) comes e l = absurd (cc)
  at_done (unfinished n text) comes e l = absurd (cc)
  at_done (bad_source fault) comes e l = absurd (cc)
  at_done (bad_chunk fault) comes e l = absurd (cc)
  at_done (rejected r) comes e l = absurd (cc)
  at_done (not_decompiled r text) comes e l = absurd (cc)
  at_done (bad_listing fault) comes e l = absurd (cc)

  at_unfinished : result ≡ Status.Unfinished → GoesOn source w before.outside.taken behind.outside.taken steps
  at_unfinished e = let u = of.unfinished e in goes_on u.1 u.2.1 u.3.1

  pub is_meant : IsMeant source steps (named words) before behind (IsQuiet words before behind result) result
  is_meant = record {
    done = λ e. let d = of.done e in at_done d.0 d.1 d.2 d.3;
    failed = λ e. let f = of.script_failed e in (f.0, comes_out (Failed f.0) f.1 (λ g. cc) f.2 f.3.1, f.4);
    unfinished = at_unfinished;
    over = λ quiet ticks within over. by ticks within over ((is_taken laws words before behind result (run_file file steps) bytes source of as_source accepts).good quiet);
  }
    where
      by : (ticks : ℕ) → 8 * ticks ≤ steps → (meant_by source w ticks).ending ≢ Going → IsGood (run_file file steps) result → (result ≡ Status.Done) ⊎ (result ≡ Status.ScriptFailed) ⊎ (result ≡ Status.OutOfMemory)
      by ticks within over (inl e) = inl e
      by ticks within over (inr (inl e)) = inr (inl e)
      by ticks within over (inr (inr (inl e))) = absurd (over ((at_unfinished e).going ticks within).0)
      by ticks within over (inr (inr (inr e))) = inr (inr e)
