-- The clauses of the top call, for words that ask for a job.
use Rattle.std.proofs.Common.{◌≡◌, ◌≢◌, ℕ, suc, ◌+◌, Bool, true, false, List, [], ◌∷◌, ◌++◌, length, ◌⊎◌, inl, inr, Option, Some, None, refl, sym, ap, subst, ◌∙◌, append-nil, length-append, cond, arith}
use Rattle.std.proofs.lemmas.List.Sums.{sum_by-append}
use Rattle.suite_io.specs.declared.calls.FileCall.{FileCall}
use Rattle.suite_io.specs.Contents.{OthersStay}
use Rattle.suite_io.specs.Calls.{call_of, fault_count}
use Rattle.suite_io.specs.Parts.{TakesPart}
use Rattle.suite_io.specs.Taken.{Takes, Rises}
use Rattle.chunk_io.specs.declared.fault.ChunkFault.{ChunkFault}
use Rattle.front.specs.declared.fault.Fault.{Fault}
use Rattle.proto.specs.Chunk.{Chunk}
use Rattle.chunk_io.specs.Items.{IsChunkOf}
use Rattle.lua_num.specs.Bytes.{Text}
use Rattle.decompile.specs.declared.refused.Refused.{Refused}
use Rattle.decompile.specs.Recoverable.{IsRecoverable}
use Rattle.asm_text.specs.declared.fault.ListFault.{ListFault}
use Rattle.suite.specs.declared.product.Product.{Product}
use Rattle.suite_io.proofs.TakenPieces.{takes_none}
use Rattle.suite.specs.declared.outcome.Outcome.{Outcome}
use Rattle.suite.specs.declared.rejection.Rejection.{Rejection}
use Rattle.suite.specs.declared.status.Status.{Status}
use Rattle.suite.specs.Words.{Words, Job, run_file, put_product, store_product, make_source, job_in, texts, Reads, NoCommand, Asks, file_of, file_or_none, named}
use Rattle.suite.specs.Worlds.{World, Unasked}
use Rattle.suite.specs.Seen.{Outside}
use Rattle.suite.specs.Lines.{status_of, line_of, Reported}
use Rattle.suite.specs.Jobs.{End, stored, put, failed, unfinished, bad_source, bad_chunk, rejected, not_decompiled, bad_listing, Comes}
use Rattle.suite.specs.Work.{IsStore, IsRun, MayAsk, MayPut, StopsSo, Fetches, first_calls, fetched, FilesStay, CarriesOut, Carried, Does, DoesFetched, Works, out_of}
use Rattle.suite.specs.Causes.{Becomes, Fetched, StoreFailed, FilesFor, NoFault, Leaves, HasNoOutput, IsOnlyEnd, IsRefusal, status_at}
use Rattle.suite.proofs.Facts.{Laws, count_snoc, same_bytes, whole_part, settled_is, becomes, put_becomes, no_memory_is, quiet_is, write_cause}
use Rattle.suite.proofs.Ends.{Alike, alike, alike_status, alike_leaves, alike_none, decompiled_at, recoverable_at, refused_not_run, put_may, failed_may, unfinished_may, refused_put}

-- the list of calls behind two others is not told apart by what comes later
later_both : (calls : List FileCall) (a b : FileCall) (xs ys : List FileCall) → (calls ++ a ∷ []) ++ xs ≡ (calls ++ b ∷ []) ++ ys → a ≡ b
later_both [] a b xs ys e = cc
later_both (c ∷ calls) a b xs ys e = later_both calls a b xs ys (cc)

-- only a job that stores comes to a text that is stored
stores_in : (job : Job) (bytes : List ℕ) (w : World) (text : List ℕ) → Comes job bytes w (stored text) → IsStore job
stores_in (run_file file steps) bytes w text comes = comes
stores_in (put_product p file) bytes w text comes = comes
stores_in (store_product p file out) bytes w text comes = tt
stores_in (make_source count) bytes w text comes = comes

-- what an outcome says of the end that was carried out
abbrev Tells : Outcome → End → Type 0
Tells (Outcome.BadSource fault) end = end ≡ bad_source fault
Tells (Outcome.BadChunk fault) end = end ≡ bad_chunk fault
Tells (Outcome.Rejected rejection) end = end ≡ rejected rejection
Tells (Outcome.NotDecompiled refused) end = (text : List ℕ) × (end ≡ not_decompiled refused text)
Tells (Outcome.BadListing fault) end = end ≡ bad_listing fault
Tells Outcome.BadWords end = ⊥
Tells Outcome.ReadFault end = ⊥
Tells outcome end = Unit {0}

-- how a job is carried out
module _ (job : Job) (w : World) (old new : Outside) where
  -- what is called behind the fetch
  pub called_later : (end : End) (outcome : Outcome) → CarriesOut job end outcome old new → (later : List FileCall) × (new.calls ≡ old.calls ++ later)
  called_later (put text) Outcome.Done c = ([], c.0.calls ∙ sym (append-nil old.calls))
  called_later (put text) Outcome.WriteFault c = ([], c.0.calls ∙ sym (append-nil old.calls))
  called_later (put text) Outcome.OutOfMemory c = ([], c.0.calls ∙ sym (append-nil old.calls))
  called_later (put text) outcome c = absurd c
  called_later (stored text) Outcome.Done c = (call_of true (out_of job) false ∷ [], c.0.calls)
  called_later (stored text) Outcome.WriteFault c = (call_of true (out_of job) true ∷ [], c.0.calls)
  called_later (stored text) Outcome.OutOfMemory c = ([], c.0.calls ∙ sym (append-nil old.calls))
  called_later (stored text) outcome c = absurd c
  called_later (failed why text) outcome c = ([], c.1.calls ∙ sym (append-nil old.calls))
  called_later (unfinished steps text) outcome c = ([], c.1.calls ∙ sym (append-nil old.calls))
  called_later (bad_source fault) outcome c = ([], c.1.0.calls ∙ sym (append-nil old.calls))
  called_later (bad_chunk fault) outcome c = ([], c.1.0.calls ∙ sym (append-nil old.calls))
  called_later (rejected rejection) outcome c = ([], c.1.0.calls ∙ sym (append-nil old.calls))
  called_later (not_decompiled refused text) outcome c = ([], c.1.calls ∙ sym (append-nil old.calls))
  called_later (bad_listing fault) outcome c = ([], c.1.0.calls ∙ sym (append-nil old.calls))

  -- what files come to behind the fetch
  abbrev FilesBehind : Type 0
  FilesBehind =
      ((new.calls ≡ old.calls) × (new.contents ≡ old.contents))
      ⊎ (IsStore job × (failed : Bool) × (new.calls ≡ old.calls ++ call_of true (out_of job) failed ∷ []) × OthersStay old.contents new.contents (out_of job))

  same_files : FilesStay old new → FilesBehind
  same_files stay = inl (stay.calls, stay.contents)

  pub files_behind : (bytes : List ℕ) (end : End) (outcome : Outcome) → Comes job bytes w end → CarriesOut job end outcome old new → FilesBehind
  files_behind bytes (put text) Outcome.Done comes c = same_files c.0
  files_behind bytes (put text) Outcome.WriteFault comes c = same_files c.0
  files_behind bytes (put text) Outcome.OutOfMemory comes c = same_files c.0
  files_behind bytes (put text) outcome comes c = absurd c
  files_behind bytes (stored text) Outcome.Done comes c = inr (stores_in job bytes w text comes, false, c.0.calls, c.2)
  files_behind bytes (stored text) Outcome.WriteFault comes c = inr (stores_in job bytes w text comes, true, c.0.calls, c.1)
  files_behind bytes (stored text) Outcome.OutOfMemory comes c = same_files c.0
  files_behind bytes (stored text) outcome comes c = absurd c
  files_behind bytes (failed why text) outcome comes c = same_files c.1
  files_behind bytes (unfinished steps text) outcome comes c = same_files c.1
  files_behind bytes (bad_source fault) outcome comes c = same_files c.1.0
  files_behind bytes (bad_chunk fault) outcome comes c = same_files c.1.0
  files_behind bytes (rejected rejection) outcome comes c = same_files c.1.0
  files_behind bytes (not_decompiled refused text) outcome comes c = same_files c.1
  files_behind bytes (bad_listing fault) outcome comes c = same_files c.1.0

  -- at success all of it was put or stored
  pub done_leaves : (end : End) → CarriesOut job end Outcome.Done old new → (status_at end ≡ Status.Done) × Leaves job end old new
  done_leaves (put text) c = (refl, (c.0.contents, c.1))
  done_leaves (stored text) c = (refl, (c.1, c.0.taken))
  done_leaves (failed why text) c = let differ = c.0 in cc
  done_leaves (unfinished steps text) c = let differ = c.0 in cc
  done_leaves (bad_source fault) c = let differ = c.0 in cc
  done_leaves (bad_chunk fault) c = let differ = c.0 in cc
  done_leaves (rejected rejection) c = let differ = c.0 in cc
  done_leaves (not_decompiled refused text) c = let differ = c.0 in cc
  done_leaves (bad_listing fault) c = let differ = c.0 in cc

  -- where no count rose, all of it was, or memory ran out
  pub quiet_leaves : (end : End) (outcome : Outcome) → CarriesOut job end outcome old new → (Rises old.faults new.faults → ⊥) → fault_count new.calls ≡ fault_count old.calls → ((status_of outcome ≡ status_at end) × Leaves job end old new) ⊎ (outcome ≡ Outcome.OutOfMemory)
  quiet_leaves (put text) Outcome.Done c quiet files = inl (refl, (c.0.contents, c.1))
  quiet_leaves (put text) Outcome.WriteFault c quiet files = absurd (quiet c.2)
  quiet_leaves (put text) Outcome.OutOfMemory c quiet files = inr refl
  quiet_leaves (put text) outcome c quiet files = absurd c
  quiet_leaves (stored text) Outcome.Done c quiet files = inl (refl, (c.1, c.0.taken))
  quiet_leaves (stored text) Outcome.WriteFault c quiet files =
      let grown = count_snoc old.calls (call_of true (out_of job) true) refl in
      let count : fault_count new.calls ≡ suc (fault_count old.calls) = ap fault_count c.0.calls ∙ grown in
      absurd (omega (arith, files, count))
  quiet_leaves (stored text) Outcome.OutOfMemory c quiet files = inr refl
  quiet_leaves (stored text) outcome c quiet files = absurd c
  quiet_leaves (failed why text) outcome c quiet files = inl (ap status_of c.0, (c.1.contents, c.2))
  quiet_leaves (unfinished steps text) outcome c quiet files = inl (ap status_of c.0, (c.1.contents, c.2))
  quiet_leaves (bad_source fault) outcome c quiet files = inl (ap status_of c.0, (c.1.0.contents, c.1.1))
  quiet_leaves (bad_chunk fault) outcome c quiet files = inl (ap status_of c.0, (c.1.0.contents, c.1.1))
  quiet_leaves (rejected rejection) outcome c quiet files = inl (ap status_of c.0, (c.1.0.contents, c.1.1))
  quiet_leaves (not_decompiled refused text) outcome c quiet files = inl (ap status_of c.0, (c.1.contents, c.2))
  quiet_leaves (bad_listing fault) outcome c quiet files = inl (ap status_of c.0, (c.1.0.contents, c.1.1))

  -- what was put is a first part of what is to be put
  pub part_put : (bytes : List ℕ) (end : End) (outcome : Outcome) → Comes job bytes w end → CarriesOut job end outcome old new → Takes old.taken new.taken [] ⊎ ((text : List ℕ) × MayPut job bytes w text × TakesPart old.taken new.taken text)
  part_put bytes (put text) Outcome.Done comes c = inr (text, put_may job bytes w text comes, whole_part old.taken new.taken text c.1)
  part_put bytes (put text) Outcome.WriteFault comes c = inr (text, put_may job bytes w text comes, c.1)
  part_put bytes (put text) Outcome.OutOfMemory comes c = inr (text, put_may job bytes w text comes, c.1)
  part_put bytes (put text) outcome comes c = absurd c
  part_put bytes (stored text) Outcome.Done comes c = inl c.0.taken
  part_put bytes (stored text) Outcome.WriteFault comes c = inl c.0.taken
  part_put bytes (stored text) Outcome.OutOfMemory comes c = inl c.1
  part_put bytes (stored text) outcome comes c = absurd c
  part_put bytes (failed why text) outcome comes c = inr (text, failed_may job bytes w why text comes, whole_part old.taken new.taken text c.2)
  part_put bytes (unfinished steps text) outcome comes c = inr (text, unfinished_may job bytes w steps text comes, whole_part old.taken new.taken text c.2)
  part_put bytes (bad_source fault) outcome comes c = inl c.1.1
  part_put bytes (bad_chunk fault) outcome comes c = inl c.1.1
  part_put bytes (rejected rejection) outcome comes c = inl c.1.1
  part_put bytes (not_decompiled refused text) outcome comes c = elim (refused_put job bytes w refused text comes) [
    | inl none ↦ inl (subst (Takes old.taken new.taken) none c.2)
    | inr may ↦ inr (text, may, whole_part old.taken new.taken text c.2)
  ]
  part_put bytes (bad_listing fault) outcome comes c = inl c.1.1

  -- a fault of writing: the sink's count rose, or the store failed
  pub written : (bytes : List ℕ) (end : End) → Comes job bytes w end → CarriesOut job end Outcome.WriteFault old new → Rises old.faults new.faults ⊎ (IsStore job × (new.calls ≡ old.calls ++ call_of true (out_of job) true ∷ []))
  written bytes (put text) comes c = inl c.2
  written bytes (stored text) comes c = inr (stores_in job bytes w text comes, c.0.calls)
  written bytes (failed why text) comes c = let differ = c.0 in cc
  written bytes (unfinished steps text) comes c = let differ = c.0 in cc
  written bytes (bad_source fault) comes c = let differ = c.0 in cc
  written bytes (bad_chunk fault) comes c = let differ = c.0 in cc
  written bytes (rejected rejection) comes c = let differ = c.0 in cc
  written bytes (not_decompiled refused text) comes c = let differ = c.0 in cc
  written bytes (bad_listing fault) comes c = let differ = c.0 in cc

  -- what is refused is refused as that
  pub refused_as : (end : End) (outcome : Outcome) → CarriesOut job end outcome old new → HasNoOutput end → status_of outcome ≡ status_at end
  refused_as (bad_source fault) outcome c none = ap status_of c.0
  refused_as (bad_chunk fault) outcome c none = ap status_of c.0
  refused_as (rejected rejection) outcome c none = ap status_of c.0
  refused_as (bad_listing fault) outcome c none = ap status_of c.0
  refused_as end outcome c none = absurd none

  -- the other way round: the outcome of a refusal tells what was refused
  tells : (end : End) (outcome : Outcome) → CarriesOut job end outcome old new → Tells outcome end
  tells (put text) Outcome.Done c = tt
  tells (put text) Outcome.WriteFault c = tt
  tells (put text) Outcome.OutOfMemory c = tt
  tells (put text) outcome c = absurd c
  tells (stored text) Outcome.Done c = tt
  tells (stored text) Outcome.WriteFault c = tt
  tells (stored text) Outcome.OutOfMemory c = tt
  tells (stored text) outcome c = absurd c
  tells (failed why text) outcome c = subst (λ o. Tells o (failed why text)) (sym c.0) tt
  tells (unfinished steps text) outcome c = subst (λ o. Tells o (unfinished steps text)) (sym c.0) tt
  tells (bad_source fault) outcome c = subst (λ o. Tells o (bad_source fault)) (sym c.0) refl
  tells (bad_chunk fault) outcome c = subst (λ o. Tells o (bad_chunk fault)) (sym c.0) refl
  tells (rejected rejection) outcome c = subst (λ o. Tells o (rejected rejection)) (sym c.0) refl
  tells (not_decompiled refused text) outcome c = subst (λ o. Tells o (not_decompiled refused text)) (sym c.0) (text, refl)
  tells (bad_listing fault) outcome c = subst (λ o. Tells o (bad_listing fault)) (sym c.0) refl

  -- a run that failed, or is going
  pub failed_as : (bytes : List ℕ) (why : List ℕ) (end : End) → Comes job bytes w end → CarriesOut job end (Outcome.ScriptFailed why) old new → (text : List ℕ) × Comes job bytes w (failed why text) × Leaves job (failed why text) old new
  failed_as bytes why (failed other text) comes c =
      let same : other ≡ why = let e : Outcome.ScriptFailed why ≡ Outcome.ScriptFailed other = c.0 in cc in
      (text, subst (λ t. Comes job bytes w (failed t text)) same comes, (c.1.contents, c.2))
  failed_as bytes why (put text) comes c = absurd c
  failed_as bytes why (stored text) comes c = absurd c
  failed_as bytes why (unfinished steps text) comes c = let differ = c.0 in absurd (cc)
  failed_as bytes why (bad_source fault) comes c = let differ = c.0 in absurd (cc)
  failed_as bytes why (bad_chunk fault) comes c = let differ = c.0 in absurd (cc)
  failed_as bytes why (rejected rejection) comes c = let differ = c.0 in absurd (cc)
  failed_as bytes why (not_decompiled refused t) comes c = let differ = c.0 in absurd (cc)
  failed_as bytes why (bad_listing fault) comes c = let differ = c.0 in absurd (cc)

  pub unfinished_as : (bytes : List ℕ) (steps : ℕ) (end : End) → Comes job bytes w end → CarriesOut job end (Outcome.Unfinished steps) old new → (text : List ℕ) × Comes job bytes w (unfinished steps text) × Leaves job (unfinished steps text) old new
  unfinished_as bytes steps (unfinished other text) comes c =
      let same : other ≡ steps = let e : Outcome.Unfinished steps ≡ Outcome.Unfinished other = c.0 in cc in
      (text, subst (λ n. Comes job bytes w (unfinished n text)) same comes, (c.1.contents, c.2))
  unfinished_as bytes steps (put text) comes c = absurd c
  unfinished_as bytes steps (stored text) comes c = absurd c
  unfinished_as bytes steps (failed why text) comes c = let differ = c.0 in absurd (cc)
  unfinished_as bytes steps (bad_source fault) comes c = let differ = c.0 in absurd (cc)
  unfinished_as bytes steps (bad_chunk fault) comes c = let differ = c.0 in absurd (cc)
  unfinished_as bytes steps (rejected rejection) comes c = let differ = c.0 in absurd (cc)
  unfinished_as bytes steps (not_decompiled refused t) comes c = let differ = c.0 in absurd (cc)
  unfinished_as bytes steps (bad_listing fault) comes c = let differ = c.0 in absurd (cc)

  -- what is given no source, behind a run or behind none
  pub not_decompiled_as : (bytes : List ℕ) (why : Refused) (end : End) → Comes job bytes w end → CarriesOut job end (Outcome.NotDecompiled why) old new → (text : List ℕ) × Comes job bytes w (not_decompiled why text) × Leaves job (not_decompiled why text) old new
  not_decompiled_as bytes why (not_decompiled other text) comes c =
      let same : other ≡ why = let e : Outcome.NotDecompiled why ≡ Outcome.NotDecompiled other = c.0 in cc in
      (text, subst (λ r. Comes job bytes w (not_decompiled r text)) same comes, (c.1.contents, c.2))
  not_decompiled_as bytes why (put text) comes c = absurd c
  not_decompiled_as bytes why (stored text) comes c = absurd c
  not_decompiled_as bytes why (failed other text) comes c = let differ = c.0 in absurd (cc)
  not_decompiled_as bytes why (unfinished steps text) comes c = let differ = c.0 in absurd (cc)
  not_decompiled_as bytes why (bad_source fault) comes c = let differ = c.0 in absurd (cc)
  not_decompiled_as bytes why (bad_chunk fault) comes c = let differ = c.0 in absurd (cc)
  not_decompiled_as bytes why (rejected rejection) comes c = let differ = c.0 in absurd (cc)
  not_decompiled_as bytes why (bad_listing fault) comes c = let differ = c.0 in absurd (cc)

-- a run alone asks hosts, also that of a made source, and none where its outcome is a refusal
may_runs : (job : Job) (end : End) → MayAsk job end → IsRun (Some job)
may_runs (run_file file steps) end may = tt
may_runs (put_product p file) end may = absurd may
may_runs (store_product p file out) end may = absurd may
may_runs (make_source count) end may = tt

not_refusal : (job : Job) (w : World) (old new : Outside) (end : End) (outcome : Outcome) → MayAsk job end → CarriesOut job end outcome old new → IsRefusal (status_of outcome) → ⊥
not_refusal (run_file file steps) w old new (put text) Outcome.Done may c refuses = refuses
not_refusal (run_file file steps) w old new (put text) Outcome.WriteFault may c refuses = refuses
not_refusal (run_file file steps) w old new (put text) Outcome.OutOfMemory may c refuses = refuses
not_refusal (run_file file steps) w old new (put text) outcome may c refuses = c
not_refusal (run_file file steps) w old new (failed why text) outcome may c refuses = subst (λ o. IsRefusal (status_of o)) c.0 refuses
not_refusal (run_file file steps) w old new (unfinished n text) outcome may c refuses = subst (λ o. IsRefusal (status_of o)) c.0 refuses
not_refusal (run_file file steps) w old new end outcome may c refuses = may
not_refusal (make_source count) w old new (put text) Outcome.Done may c refuses = refuses
not_refusal (make_source count) w old new (put text) Outcome.WriteFault may c refuses = refuses
not_refusal (make_source count) w old new (put text) Outcome.OutOfMemory may c refuses = refuses
not_refusal (make_source count) w old new (put text) outcome may c refuses = c
not_refusal (make_source count) w old new (failed why text) outcome may c refuses = subst (λ o. IsRefusal (status_of o)) c.0 refuses
not_refusal (make_source count) w old new (unfinished n text) outcome may c refuses = subst (λ o. IsRefusal (status_of o)) c.0 refuses
not_refusal (make_source count) w old new (not_decompiled why text) outcome may c refuses = subst (λ o. IsRefusal (status_of o)) c.0 refuses
not_refusal (make_source count) w old new end outcome may c refuses = may
not_refusal (put_product p file) w old new end outcome may c refuses = may
not_refusal (store_product p file out) w old new end outcome may c refuses = may

-- only a run stops, where the sink's count rose, or memory ran out
stop_is : (job : Job) (bytes : List ℕ) (w : World) (text : List ℕ) (outcome : Outcome) (before later : ℕ) → StopsSo job bytes w text outcome before later → IsRun (Some job) × (((outcome ≡ Outcome.WriteFault) × Rises before later) ⊎ (outcome ≡ Outcome.OutOfMemory))
stop_is (run_file file steps) bytes w text Outcome.WriteFault before later so = (tt, inl (refl, so.1))
stop_is (run_file file steps) bytes w text Outcome.OutOfMemory before later so = (tt, inr refl)
stop_is (run_file file steps) bytes w text outcome before later so = absurd so
stop_is (make_source count) bytes w text Outcome.WriteFault before later so = (tt, inl (refl, so.1))
stop_is (make_source count) bytes w text Outcome.OutOfMemory before later so = (tt, inr refl)
stop_is (make_source count) bytes w text outcome before later so = absurd so
stop_is (put_product p file) bytes w text outcome before later so = absurd so
stop_is (store_product p file out) bytes w text outcome before later so = absurd so

-- a fetch that succeeds changes neither what files hold nor what the sink took
pub leaves_before : (job : Job) (old new : Outside) (end : End) → Leaves job end (fetched job false old) new → Leaves job end old new
leaves_before job old new (stored text) l = l
leaves_before job old new (put text) l = l
leaves_before job old new (failed why text) l = l
leaves_before job old new (unfinished steps text) l = l
leaves_before job old new (bad_source fault) l = l
leaves_before job old new (bad_chunk fault) l = l
leaves_before job old new (rejected rejection) l = l
leaves_before job old new (not_decompiled refused text) l = l
leaves_before job old new (bad_listing fault) l = l

count_same : (calls : List FileCall) (call : FileCall) → call.failed ≡ false → fault_count (calls ++ call ∷ []) ≡ fault_count calls
count_same calls call e =
    let both = sum_by-append (λ (c : FileCall). cond c.failed 1 0) calls (call ∷ []) in
    let none : 0 + cond call.failed 1 0 ≡ 0 = rw e refl in
    omega (arith, both, none)

-- the first call is not told apart by what comes later; it raises the count where it fails
first_both : (job : Job) (calls : List FileCall) (a b : Bool) (xs ys : List FileCall) → (a ≡ true → Fetches job) → (b ≡ true → Fetches job) → (calls ++ first_calls job a) ++ xs ≡ (calls ++ first_calls job b) ++ ys → a ≡ b
first_both (run_file file steps) calls a b xs ys f g e = ap (λ (c : FileCall). c.failed) (later_both calls (call_of false file a) (call_of false file b) xs ys e)
first_both (put_product p file) calls a b xs ys f g e = ap (λ (c : FileCall). c.failed) (later_both calls (call_of false file a) (call_of false file b) xs ys e)
first_both (store_product p file out) calls a b xs ys f g e = ap (λ (c : FileCall). c.failed) (later_both calls (call_of false file a) (call_of false file b) xs ys e)
first_both (make_source count) calls true b xs ys f g e = absurd (f refl)
first_both (make_source count) calls false true xs ys f g e = absurd (g refl)
first_both (make_source count) calls false false xs ys f g e = refl

longer : (calls : List FileCall) (call : FileCall) (later : List FileCall) → calls ≡ (calls ++ call ∷ []) ++ later → ⊥
longer calls call later e = let more = ap length e in absurd (omega (arith, more, length-append (calls ++ call ∷ []) later, length-append calls (call ∷ [])))

some_first : (job : Job) (calls later : List FileCall) → Fetches job → calls ≡ (calls ++ first_calls job true) ++ later → ⊥
some_first (run_file file steps) calls later f e = longer calls (call_of false file true) later e
some_first (put_product p file) calls later f e = longer calls (call_of false file true) later e
some_first (store_product p file out) calls later f e = longer calls (call_of false file true) later e
some_first (make_source count) calls later f e = f

first_same : (job : Job) (calls : List FileCall) → fault_count (calls ++ first_calls job false) ≡ fault_count calls
first_same (run_file file steps) calls = count_same calls (call_of false file false) refl
first_same (put_product p file) calls = count_same calls (call_of false file false) refl
first_same (store_product p file out) calls = count_same calls (call_of false file false) refl
first_same (make_source count) calls = ap fault_count (append-nil calls)

first_grown : (job : Job) (calls : List FileCall) → Fetches job → fault_count (calls ++ first_calls job true) ≡ suc (fault_count calls)
first_grown (run_file file steps) calls f = count_snoc calls (call_of false file true) refl
first_grown (put_product p file) calls f = count_snoc calls (call_of false file true) refl
first_grown (store_product p file out) calls f = count_snoc calls (call_of false file true) refl
first_grown (make_source count) calls f = absurd f

-- What an outcome of a status is.
abbrev OfStatus : Status → Outcome → Type 0
OfStatus Status.Done outcome = outcome ≡ Outcome.Done
OfStatus Status.BadWords outcome = outcome ≡ Outcome.BadWords
OfStatus Status.BadSource outcome = (fault : Fault) × (outcome ≡ Outcome.BadSource fault)
OfStatus Status.BadChunk outcome = (fault : ChunkFault) × (outcome ≡ Outcome.BadChunk fault)
OfStatus Status.Rejected outcome = (rejection : Rejection) × (outcome ≡ Outcome.Rejected rejection)
OfStatus Status.NotDecompiled outcome = (refused : Refused) × (outcome ≡ Outcome.NotDecompiled refused)
OfStatus Status.BadListing outcome = (fault : ListFault) × (outcome ≡ Outcome.BadListing fault)
OfStatus Status.ReadFault outcome = outcome ≡ Outcome.ReadFault
OfStatus Status.WriteFault outcome = outcome ≡ Outcome.WriteFault
OfStatus Status.OutOfMemory outcome = outcome ≡ Outcome.OutOfMemory
OfStatus Status.ScriptFailed outcome = (why : List ℕ) × (outcome ≡ Outcome.ScriptFailed why)
OfStatus Status.Unfinished outcome = (steps : ℕ) × (outcome ≡ Outcome.Unfinished steps)

its_own : (outcome : Outcome) → OfStatus (status_of outcome) outcome
its_own Outcome.Done = refl
its_own Outcome.BadWords = refl
its_own (Outcome.BadSource fault) = (fault, refl)
its_own (Outcome.BadChunk fault) = (fault, refl)
its_own (Outcome.Rejected rejection) = (rejection, refl)
its_own (Outcome.NotDecompiled refused) = (refused, refl)
its_own (Outcome.BadListing fault) = (fault, refl)
its_own Outcome.ReadFault = refl
its_own Outcome.WriteFault = refl
its_own Outcome.OutOfMemory = refl
its_own (Outcome.ScriptFailed why) = (why, refl)
its_own (Outcome.Unfinished steps) = (steps, refl)

of_status : (outcome : Outcome) (status : Status) → status_of outcome ≡ status → OfStatus status outcome
of_status outcome status e = subst (λ s. OfStatus s outcome) e (its_own outcome)

module _ (laws : Laws) (words : Words) (job : Job) (reads : Reads words job) (w : World) (old new : Outside) (outcome : Outcome) (works : Works (Some job) w outcome old new) where
  pub named_is : named words ≡ file_of job
  named_is = ap file_or_none reads

  -- the words ask for one job, and it is done with what is told of its file
  asked : (other : Job) → Reads words other → other ≡ job
  asked other r = let one : job_in (texts words) ≡ Some job = reads in let two : job_in (texts words) ≡ Some other = r in cc

  told_job : (other : Job) (bytes : List ℕ) → Asks words old.contents other bytes → Asks words old.contents job bytes
  told_job other bytes asks = subst (λ j. Asks words old.contents j bytes) (asked other asks.reads) asks

  same_told : (bytes : List ℕ) → Asks words old.contents job bytes → (f : DoesFetched job w outcome old new) → f.bytes ≡ bytes
  same_told bytes asks f = sym (same_bytes old.contents job bytes f.bytes asks.told f.told)

  -- the job was done with the bytes that are told of its file
  does_told : (bytes : List ℕ) → Asks words old.contents job bytes → (f : DoesFetched job w outcome old new) → Does job bytes w outcome (fetched job false old) new
  does_told bytes asks f = subst (λ b. Does job b w outcome (fetched job false old) new) (same_told bytes asks f) f.does

  -- the fetch succeeded
  fetched_calls : DoesFetched job w outcome old new → Fetched words false old.calls new.calls
  fetched_calls f = by f.does
    where
      by : Does job f.bytes w outcome (fetched job false old) new → Fetched words false old.calls new.calls
      by (inl c) =
          let later = called_later job w (fetched job false old) new c.end outcome c.carried in
          record { job = job; reads = reads; fetches = λ e. absurd (cc); later = later.0; listed = later.1 }
      by (inr (inl stopped)) = record { job = job; reads = reads; fetches = λ e. absurd (cc); later = []; listed = stopped.files.calls ∙ sym (append-nil (old.calls ++ first_calls job false)) }
      by (inr (inr none)) = record { job = job; reads = reads; fetches = λ e. absurd (cc); later = []; listed = none.1.0.calls ∙ sym (append-nil (old.calls ++ first_calls job false)) }

  failed_calls : new ≡ fetched job true old → Fetches job → Fetched words true old.calls new.calls
  failed_calls e f = record { job = job; reads = reads; fetches = λ fails. f; later = []; listed = ap (λ (o : Outside). o.calls) e ∙ sym (append-nil (old.calls ++ first_calls job true)) }

  -- it does not succeed and fail
  fetch_is_one : (a b : Bool) → Fetched words a old.calls new.calls → Fetched words b old.calls new.calls → a ≡ b
  fetch_is_one a b one other =
      let mine = asked one.job one.reads in
      let others = asked other.job other.reads in
      let first = subst (λ j. new.calls ≡ (old.calls ++ first_calls j a) ++ one.later) mine one.listed in
      let second = subst (λ j. new.calls ≡ (old.calls ++ first_calls j b) ++ other.later) others other.listed in
      first_both job old.calls a b one.later other.later (subst (λ j. a ≡ true → Fetches j) mine one.fetches) (subst (λ j. b ≡ true → Fetches j) others other.fetches) (sym first ∙ second)

  not_fetched : new ≡ old → Fetched words true old.calls new.calls → ⊥
  not_fetched e f = some_first f.job old.calls f.later (f.fetches refl) (sym (ap (λ (o : Outside). o.calls) e) ∙ f.listed)

  pub nothing_clause : NoCommand words ⊎ Fetched words true old.calls new.calls → Takes old.taken new.taken []
  nothing_clause (inl none) = let one : job_in (texts words) ≡ Some job = reads in let no : job_in (texts words) ≡ None = none in cc
  nothing_clause (inr fails) = by works
    where
      by : Works (Some job) w outcome old new → Takes old.taken new.taken []
      by (inl w) = subst (λ o. Takes old.taken o []) (sym (ap (λ (o : Outside). o.taken) w.1)) (takes_none old.taken)
      by (inr (inl w)) = subst (λ o. Takes old.taken o []) (sym (ap (λ (o : Outside). o.taken) w.1)) (takes_none old.taken)
      by (inr (inr f)) = let differ : true ≡ false = fetch_is_one true false fails (fetched_calls f) in cc

  pub part_clause : (other : Job) (bytes : List ℕ) → Asks words old.contents other bytes → Takes old.taken new.taken [] ⊎ ((text : List ℕ) × MayPut other bytes w text × TakesPart old.taken new.taken text)
  part_clause other bytes asks = subst (λ j. Takes old.taken new.taken [] ⊎ ((text : List ℕ) × MayPut j bytes w text × TakesPart old.taken new.taken text)) (sym (asked other asks.reads)) (by works)
    where
      carried : Does job bytes w outcome (fetched job false old) new → Takes old.taken new.taken [] ⊎ ((text : List ℕ) × MayPut job bytes w text × TakesPart old.taken new.taken text)
      carried (inl c) = part_put job w (fetched job false old) new bytes c.end outcome c.comes c.carried
      carried (inr (inl stopped)) = inr (stopped.text, stopped.output, stopped.part)
      carried (inr (inr none)) = inl none.1.1

      by : Works (Some job) w outcome old new → Takes old.taken new.taken [] ⊎ ((text : List ℕ) × MayPut job bytes w text × TakesPart old.taken new.taken text)
      by (inl w) = inl (subst (λ o. Takes old.taken o []) (sym (ap (λ (o : Outside). o.taken) w.1)) (takes_none old.taken))
      by (inr (inl w)) = inl (subst (λ o. Takes old.taken o []) (sym (ap (λ (o : Outside). o.taken) w.1)) (takes_none old.taken))
      by (inr (inr f)) = carried (does_told bytes (told_job other bytes asks) f)

  pub files_clause : FilesFor (job_in (texts words)) old new
  files_clause = subst (λ o. FilesFor o old new) (sym reads) (by works)
    where
      behind : (bytes : List ℕ) (end : End) → Comes job bytes w end → CarriesOut job end outcome (fetched job false old) new → FilesFor (Some job) old new
      behind bytes end comes c = elim (files_behind job w (fetched job false old) new bytes end outcome comes c) [
        | inl same ↦ inr (inl (false, same.0, same.1))
        | inr stores ↦ inr (inr stores)
      ]

      carried : (bytes : List ℕ) → Does job bytes w outcome (fetched job false old) new → FilesFor (Some job) old new
      carried bytes (inl c) = behind bytes c.end c.comes c.carried
      carried bytes (inr (inl stopped)) = inr (inl (false, stopped.files.calls, stopped.files.contents))
      carried bytes (inr (inr none)) = inr (inl (false, none.1.0.calls, none.1.0.contents))

      by : Works (Some job) w outcome old new → FilesFor (Some job) old new
      by (inl w) = inr (inl (true, ap (λ (o : Outside). o.calls) w.1, ap (λ (o : Outside). o.contents) w.1))
      by (inr (inl w)) = inl (ap (λ (o : Outside). o.calls) w.1, ap (λ (o : Outside). o.contents) w.1)
      by (inr (inr f)) = carried f.bytes f.does

  -- a run alone asks hosts
  pub hosts_clause : IsRun (job_in (texts words)) ⊎ Unasked w
  hosts_clause = subst (λ o. IsRun o ⊎ Unasked w) (sym reads) (by works)
    where
      carried : (bytes : List ℕ) → Does job bytes w outcome (fetched job false old) new → IsRun (Some job) ⊎ Unasked w
      carried bytes (inl c) = elim (c.asks) [ inl may ↦ inl (may_runs job c.end may) | inr unasked ↦ inr unasked ]
      carried bytes (inr (inl stopped)) = inl (stop_is job bytes w stopped.text outcome old.faults new.faults stopped.so).0
      carried bytes (inr (inr none)) = inr none.2

      by : Works (Some job) w outcome old new → IsRun (Some job) ⊎ Unasked w
      by (inl fault) = inr fault.2
      by (inr (inl want)) = inr want.2
      by (inr (inr f)) = carried f.bytes f.does

  -- and none where the status is that of a refusal
  refusal_asks_none : IsRefusal (status_of outcome) → Unasked w
  refusal_asks_none refuses = by works
    where
      stops : ((outcome ≡ Outcome.WriteFault) × Rises old.faults new.faults) ⊎ (outcome ≡ Outcome.OutOfMemory) → ⊥
      stops (inl e) = subst (λ o. IsRefusal (status_of o)) e.0 refuses
      stops (inr e) = subst (λ o. IsRefusal (status_of o)) e refuses

      carried : (bytes : List ℕ) → Does job bytes w outcome (fetched job false old) new → Unasked w
      carried bytes (inl c) = elim (c.asks) [
        | inl may ↦ absurd (not_refusal job w (fetched job false old) new c.end outcome may c.carried refuses)
        | inr unasked ↦ unasked
      ]
      carried bytes (inr (inl stopped)) = absurd (stops (stop_is job bytes w stopped.text outcome old.faults new.faults stopped.so).1)
      carried bytes (inr (inr none)) = none.2

      by : Works (Some job) w outcome old new → Unasked w
      by (inl fault) = fault.2
      by (inr (inl want)) = want.2
      by (inr (inr f)) = carried f.bytes f.does

  -- the job that was carried out with this outcome, unless that is one of the fetch or want of memory
  job_done : outcome ≢ Outcome.ReadFault → outcome ≢ Outcome.OutOfMemory → DoesFetched job w outcome old new
  job_done no_fault no_want = by works
    where
      by : Works (Some job) w outcome old new → DoesFetched job w outcome old new
      by (inl w) = absurd (no_fault w.0)
      by (inr (inl w)) = absurd (no_want w.0)
      by (inr (inr f)) = f

  job_carried : (bytes : List ℕ) → outcome ≢ Outcome.WriteFault → outcome ≢ Outcome.OutOfMemory → Does job bytes w outcome (fetched job false old) new → Carried job bytes w outcome (fetched job false old) new
  job_carried bytes no_fault no_want (inl c) = c
  job_carried bytes no_fault no_want (inr (inl stopped)) =
      absurd (elim ((stop_is job bytes w stopped.text outcome old.faults new.faults stopped.so).1) [ inl e ↦ no_fault e.0 | inr e ↦ no_want e ])
  job_carried bytes no_fault no_want (inr (inr none)) = absurd (no_want none.0)

  module _ (err_before err_later : Option (List ℕ)) (err_old err_new : ℕ) (result : Status) (reported : Reported outcome (file_of job) result err_before err_later err_old err_new) where
    settled : (status : Status) → result ≡ status → status ≢ Status.WriteFault → status ≢ Status.OutOfMemory → (status_of outcome ≡ status) × Takes err_before err_later (line_of outcome (named words))
    settled status e no_fault no_want =
        let s = settled_is err_before err_later err_old err_new outcome (file_of job) result reported (λ w. no_fault (sym e ∙ w)) (λ w. no_want (sym e ∙ w)) in
        (sym s.0 ∙ e, subst (λ n. Takes err_before err_later (line_of outcome n)) (sym named_is) s.1)

    pub line_clause : result ≢ Status.WriteFault → result ≢ Status.OutOfMemory → (o : Outcome) × (status_of o ≡ result) × Takes err_before err_later (line_of o (named words))
    line_clause no_fault no_want = let s = settled result refl no_fault no_want in (outcome, s.0, s.1)

    pub unasked_clause : IsRefusal result → Unasked w
    unasked_clause refuses = refusal_asks_none (subst IsRefusal (sym (settled result refl (λ e. subst IsRefusal e refuses) (λ e. subst IsRefusal e refuses)).0) refuses)

    -- where no count of faults rose, the status is that of what the job comes to, or memory ran out
    ended : (bytes : List ℕ) → Asks words old.contents job bytes → NoFault old.calls new.calls → (Rises old.faults new.faults → ⊥) → (Rises err_old err_new → ⊥) → ((end : End) × Comes job bytes w end × (result ≡ status_at end) × Leaves job end old new) ⊎ (result ≡ Status.OutOfMemory)
    ended bytes asks files quiet err = by works
      where
        no_memory : outcome ≡ Outcome.OutOfMemory → result ≡ Status.OutOfMemory
        no_memory e = elim (quiet_is err_before err_later err_old err_new outcome (file_of job) result reported err) [
          | inl s ↦ s ∙ ap status_of e
          | inr s ↦ s
        ]

        at_end : (end : End) → Comes job bytes w end → (status_of outcome ≡ status_at end) → Leaves job end (fetched job false old) new → ((end : End) × Comes job bytes w end × (result ≡ status_at end) × Leaves job end old new) ⊎ (result ≡ Status.OutOfMemory)
        at_end end comes e l = elim (quiet_is err_before err_later err_old err_new outcome (file_of job) result reported err) [
          | inl s ↦ inl (end, comes, s ∙ e, leaves_before job old new end l)
          | inr s ↦ inr s
        ]

        faults_same : fault_count new.calls ≡ fault_count (fetched job false old).calls
        faults_same = files ∙ sym (first_same job old.calls)

        carried : Does job bytes w outcome (fetched job false old) new → ((end : End) × Comes job bytes w end × (result ≡ status_at end) × Leaves job end old new) ⊎ (result ≡ Status.OutOfMemory)
        carried (inl c) = elim (quiet_leaves job w (fetched job false old) new c.end outcome c.carried quiet faults_same) [
          | inl l ↦ at_end c.end c.comes l.0 l.1
          | inr e ↦ inr (no_memory e)
        ]
        carried (inr (inl stopped)) = elim ((stop_is job bytes w stopped.text outcome old.faults new.faults stopped.so).1) [
          | inl e ↦ absurd (quiet e.1)
          | inr e ↦ inr (no_memory e)
        ]
        carried (inr (inr none)) = inr (no_memory none.0)

        by : Works (Some job) w outcome old new → ((end : End) × Comes job bytes w end × (result ≡ status_at end) × Leaves job end old new) ⊎ (result ≡ Status.OutOfMemory)
        by (inl w) =
            let grown = first_grown job old.calls w.3 in
            let count : fault_count new.calls ≡ suc (fault_count old.calls) = ap (λ (o : Outside). fault_count o.calls) w.1 ∙ grown in
            absurd (omega (arith, files, count))
        by (inr (inl w)) = inr (no_memory w.0)
        by (inr (inr f)) = carried (does_told bytes asks f)

    pub carried_out_clause : (other : Job) (bytes : List ℕ) (end : End) → Asks words old.contents other bytes → Comes other bytes w end → IsOnlyEnd other end → NoFault old.calls new.calls → (Rises old.faults new.faults → ⊥) → (Rises err_old err_new → ⊥) → ((result ≡ status_at end) × Leaves other end old new) ⊎ (result ≡ Status.OutOfMemory)
    carried_out_clause other bytes end asks comes only files quiet err = elim (ended bytes (told_job other bytes asks) files quiet err) [
      | inl e ↦ inl (e.2 ∙ alike_status e.0 end (one e.0 e.1), subst (λ j. Leaves j end old new) (sym same) (alike_leaves job e.0 end old new (one e.0 e.1) e.3))
      | inr e ↦ inr e
    ]
      where
        same : other ≡ job
        same = asked other asks.reads

        one : (c : End) → Comes job bytes w c → Alike c end
        one c is = alike laws job bytes w c end is (subst (λ j. Comes j bytes w end) same comes) (subst (λ j. IsOnlyEnd j end) same only)

    pub decompiled_clause : (file out : Text) (bytes : List ℕ) (chunk : Chunk) → Asks words old.contents (store_product Product.Source file out) bytes → IsChunkOf bytes chunk → NoFault old.calls new.calls → (Rises old.faults new.faults → ⊥) → (Rises err_old err_new → ⊥) → (result ≡ Status.Done) ⊎ (result ≡ Status.NotDecompiled) ⊎ (result ≡ Status.OutOfMemory)
    decompiled_clause file out bytes chunk asks of files quiet err = elim (ended bytes (told_job (store_product Product.Source file out) bytes asks) files quiet err) [
      | inl e ↦ at_end e.0 e.1 e.2
      | inr e ↦ inr (inr e)
    ]
      where
        same : store_product Product.Source file out ≡ job
        same = asked (store_product Product.Source file out) asks.reads

        at_end : (end : End) → Comes job bytes w end → result ≡ status_at end → (result ≡ Status.Done) ⊎ (result ≡ Status.NotDecompiled) ⊎ (result ≡ Status.OutOfMemory)
        at_end end comes is = elim (decompiled_at laws file out bytes w chunk end of (subst (λ j. Comes j bytes w end) (sym same) comes)) [
          | inl e ↦ inl (is ∙ e)
          | inr e ↦ inr (inl (is ∙ e))
        ]

    pub recovered_clause : (file out : Text) (bytes : List ℕ) (chunk : Chunk) → Asks words old.contents (store_product Product.Source file out) bytes → IsChunkOf bytes chunk → IsRecoverable chunk → NoFault old.calls new.calls → (Rises old.faults new.faults → ⊥) → (Rises err_old err_new → ⊥) → (result ≡ Status.Done) ⊎ (result ≡ Status.OutOfMemory)
    recovered_clause file out bytes chunk asks of is files quiet err = elim (ended bytes (told_job (store_product Product.Source file out) bytes asks) files quiet err) [
      | inl e ↦ inl (e.2 ∙ recoverable_at laws file out bytes w chunk e.0 of is (subst (λ j. Comes j bytes w e.0) (sym same) e.1))
      | inr e ↦ inr e
    ]
      where
        same : store_product Product.Source file out ≡ job
        same = asked (store_product Product.Source file out) asks.reads

    pub done_clause : result ≡ Status.Done → Fetched words false old.calls new.calls × Takes err_before err_later [] × ((other : Job) (bytes : List ℕ) → Asks words old.contents other bytes → (end : End) × Comes other bytes w end × (status_at end ≡ Status.Done) × Leaves other end old new)
    done_clause e = (
      fetched_calls f,
      subst (λ o. Takes err_before err_later (line_of o (named words))) done s.1,
      λ other bytes asks.
          subst (λ j. (end : End) × Comes j bytes w end × (status_at end ≡ Status.Done) × Leaves j end old new) (sym (asked other asks.reads)) (carried bytes (does_told bytes (told_job other bytes asks) f)),
    )
      where
        s : (status_of outcome ≡ Status.Done) × Takes err_before err_later (line_of outcome (named words))
        s = settled Status.Done e (λ w. cc) (λ w. cc)

        done : outcome ≡ Outcome.Done
        done = of_status outcome Status.Done s.0

        f : DoesFetched job w outcome old new
        f = job_done (λ w. cc (done)) (λ w. cc (done))

        carried : (bytes : List ℕ) → Does job bytes w outcome (fetched job false old) new → (end : End) × Comes job bytes w end × (status_at end ≡ Status.Done) × Leaves job end old new
        carried bytes d =
            let c = job_carried bytes (λ e. cc (done)) (λ e. cc (done)) d in
            let l = done_leaves job w (fetched job false old) new c.end (subst (λ o. CarriesOut job c.end o (fetched job false old) new) done c.carried) in
            (c.end, c.comes, l.0, leaves_before job old new c.end l.1)

    -- a status that tells what the job comes to
    told : {A : Type 0} (status : Status) (outcome_of : A → Outcome) (Says : A → Job → List ℕ → Type 0)
        → status ≢ Status.WriteFault → status ≢ Status.OutOfMemory → status ≢ Status.ReadFault
        → (status_of outcome ≡ status → (a : A) × (outcome ≡ outcome_of a))
        → ((a : A) (bytes : List ℕ) (end : End) → Comes job bytes w end → CarriesOut job end (outcome_of a) (fetched job false old) new → Says a job bytes) → result ≡ status
        → Fetched words false old.calls new.calls × (a : A) × ((other : Job) (bytes : List ℕ) → Asks words old.contents other bytes → Says a other bytes) × Takes err_before err_later (line_of (outcome_of a) (named words))
    told {A = A} status outcome_of Says no_fault no_want no_read of_own says e = (
      fetched_calls f,
      its.0,
      λ other bytes asks. subst (λ j. Says its.0 j bytes) (sym (asked other asks.reads)) (carried bytes (does_told bytes (told_job other bytes asks) f)),
      subst (λ o. Takes err_before err_later (line_of o (named words))) its.1 s.1,
    )
      where
        s : (status_of outcome ≡ status) × Takes err_before err_later (line_of outcome (named words))
        s = settled status e no_fault no_want

        its : (a : A) × (outcome ≡ outcome_of a)
        its = of_own s.0

        not_wanting : outcome ≢ Outcome.OutOfMemory
        not_wanting o = no_want (sym s.0 ∙ ap status_of o)

        not_writing : outcome ≢ Outcome.WriteFault
        not_writing o = no_fault (sym s.0 ∙ ap status_of o)

        f : DoesFetched job w outcome old new
        f = job_done (λ o. no_read (sym s.0 ∙ ap status_of o)) not_wanting

        carried : (bytes : List ℕ) → Does job bytes w outcome (fetched job false old) new → Says its.0 job bytes
        carried bytes d =
            let c = job_carried bytes not_writing not_wanting d in
            says its.0 bytes c.end c.comes (subst (λ o. CarriesOut job c.end o (fetched job false old) new) its.1 c.carried)

    pub bad_source_clause : result ≡ Status.BadSource → Fetched words false old.calls new.calls × (fault : Fault) × ((other : Job) (bytes : List ℕ) → Asks words old.contents other bytes → Comes other bytes w (bad_source fault)) × Takes err_before err_later (line_of (Outcome.BadSource fault) (named words))
    bad_source_clause = told Status.BadSource Outcome.BadSource (λ a j bytes. Comes j bytes w (bad_source a)) (λ e. cc) (λ e. cc) (λ e. cc) (of_status outcome Status.BadSource) (λ a bytes end comes c. subst (Comes job bytes w) (tells job w (fetched job false old) new end (Outcome.BadSource a) c) comes)

    pub bad_chunk_clause : result ≡ Status.BadChunk → Fetched words false old.calls new.calls × (fault : ChunkFault) × ((other : Job) (bytes : List ℕ) → Asks words old.contents other bytes → Comes other bytes w (bad_chunk fault)) × Takes err_before err_later (line_of (Outcome.BadChunk fault) (named words))
    bad_chunk_clause = told Status.BadChunk Outcome.BadChunk (λ a j bytes. Comes j bytes w (bad_chunk a)) (λ e. cc) (λ e. cc) (λ e. cc) (of_status outcome Status.BadChunk) (λ a bytes end comes c. subst (Comes job bytes w) (tells job w (fetched job false old) new end (Outcome.BadChunk a) c) comes)

    pub rejected_clause : result ≡ Status.Rejected → Fetched words false old.calls new.calls × (rejection : Rejection) × ((other : Job) (bytes : List ℕ) → Asks words old.contents other bytes → Comes other bytes w (rejected rejection)) × Takes err_before err_later (line_of (Outcome.Rejected rejection) (named words))
    rejected_clause = told Status.Rejected Outcome.Rejected (λ a j bytes. Comes j bytes w (rejected a)) (λ e. cc) (λ e. cc) (λ e. cc) (of_status outcome Status.Rejected) (λ a bytes end comes c. subst (Comes job bytes w) (tells job w (fetched job false old) new end (Outcome.Rejected a) c) comes)

    pub not_decompiled_clause : result ≡ Status.NotDecompiled → Fetched words false old.calls new.calls × (refused : Refused) × ((other : Job) (bytes : List ℕ) → Asks words old.contents other bytes → (text : List ℕ) × Comes other bytes w (not_decompiled refused text) × Leaves other (not_decompiled refused text) old new) × Takes err_before err_later (line_of (Outcome.NotDecompiled refused) (named words))
    not_decompiled_clause =
        told Status.NotDecompiled Outcome.NotDecompiled (λ a j bytes. (text : List ℕ) × Comes j bytes w (not_decompiled a text) × Leaves j (not_decompiled a text) old new) (λ e. cc) (λ e. cc) (λ e. cc) (of_status outcome Status.NotDecompiled)
        (λ a bytes end comes c. not_decompiled_as job w (fetched job false old) new bytes a end comes c)

    pub bad_listing_clause : result ≡ Status.BadListing → Fetched words false old.calls new.calls × (fault : ListFault) × ((other : Job) (bytes : List ℕ) → Asks words old.contents other bytes → Comes other bytes w (bad_listing fault)) × Takes err_before err_later (line_of (Outcome.BadListing fault) (named words))
    bad_listing_clause = told Status.BadListing Outcome.BadListing (λ a j bytes. Comes j bytes w (bad_listing a)) (λ e. cc) (λ e. cc) (λ e. cc) (of_status outcome Status.BadListing) (λ a bytes end comes c. subst (Comes job bytes w) (tells job w (fetched job false old) new end (Outcome.BadListing a) c) comes)

    pub script_failed_clause : result ≡ Status.ScriptFailed → Fetched words false old.calls new.calls × (why : List ℕ) × ((other : Job) (bytes : List ℕ) → Asks words old.contents other bytes → (text : List ℕ) × Comes other bytes w (failed why text) × Leaves other (failed why text) old new) × Takes err_before err_later (line_of (Outcome.ScriptFailed why) (named words))
    script_failed_clause =
        told Status.ScriptFailed Outcome.ScriptFailed (λ a j bytes. (text : List ℕ) × Comes j bytes w (failed a text) × Leaves j (failed a text) old new) (λ e. cc) (λ e. cc) (λ e. cc) (of_status outcome Status.ScriptFailed)
        (λ a bytes end comes c. failed_as job w (fetched job false old) new bytes a end comes c)

    pub unfinished_clause : result ≡ Status.Unfinished → Fetched words false old.calls new.calls × (steps : ℕ) × ((other : Job) (bytes : List ℕ) → Asks words old.contents other bytes → (text : List ℕ) × Comes other bytes w (unfinished steps text) × Leaves other (unfinished steps text) old new) × Takes err_before err_later (line_of (Outcome.Unfinished steps) (named words))
    unfinished_clause =
        told Status.Unfinished Outcome.Unfinished (λ a j bytes. (text : List ℕ) × Comes j bytes w (unfinished a text) × Leaves j (unfinished a text) old new) (λ e. cc) (λ e. cc) (λ e. cc) (of_status outcome Status.Unfinished)
        (λ a bytes end comes c. unfinished_as job w (fetched job false old) new bytes a end comes c)

    pub bad_words_clause : result ≡ Status.BadWords → ⊥
    bad_words_clause e = never (job_carried f.bytes (λ w. cc (is)) (λ w. cc (is)) f.does)
      where
        is : outcome ≡ Outcome.BadWords
        is = of_status outcome Status.BadWords (settled Status.BadWords e (λ w. cc) (λ w. cc)).0

        f : DoesFetched job w outcome old new
        f = job_done (λ w. cc (is)) (λ w. cc (is))

        never : Carried job f.bytes w outcome (fetched job false old) new → ⊥
        never c = subst (λ o. Tells o c.end) is (tells job w (fetched job false old) new c.end outcome c.carried)

    pub read_fault_clause : result ≡ Status.ReadFault → Fetched words true old.calls new.calls
    read_fault_clause e = by works
      where
        is : outcome ≡ Outcome.ReadFault
        is = of_status outcome Status.ReadFault (settled Status.ReadFault e (λ w. cc) (λ w. cc)).0

        never : (bytes : List ℕ) → Carried job bytes w outcome (fetched job false old) new → ⊥
        never bytes c = subst (λ o. Tells o c.end) is (tells job w (fetched job false old) new c.end outcome c.carried)

        by : Works (Some job) w outcome old new → Fetched words true old.calls new.calls
        by (inl w) = failed_calls w.1 w.3
        by (inr (inl w)) = let other = w.0 in absurd (cc (is))
        by (inr (inr f)) = absurd (never f.bytes (job_carried f.bytes (λ w. cc (is)) (λ w. cc (is)) f.does))

    become : (status : Status) → status_of outcome ≡ status → Becomes status result err_old err_new ⊎ (result ≡ Status.OutOfMemory)
    become status e = subst (λ s. Becomes s result err_old err_new ⊎ (result ≡ Status.OutOfMemory)) e (becomes err_before err_later err_old err_new outcome (file_of job) result reported)

    pub fetch_failed_clause : Fetched words true old.calls new.calls → Becomes Status.ReadFault result err_old err_new
    fetch_failed_clause fails = by works
      where
        never : outcome ≡ Outcome.ReadFault → Reported Outcome.ReadFault (file_of job) result err_before err_later err_old err_new
        never e = subst (λ o. Reported o (file_of job) result err_before err_later err_old err_new) e reported

        by : Works (Some job) w outcome old new → Becomes Status.ReadFault result err_old err_new
        by (inl w) = put_becomes err_before err_later err_old err_new Status.ReadFault _ result (never w.0)
        by (inr (inl w)) = absurd (not_fetched w.1 fails)
        by (inr (inr f)) = let differ : true ≡ false = fetch_is_one true false fails (fetched_calls f) in absurd (cc)

    pub refused_clause : (other : Job) (bytes : List ℕ) (end : End) → Asks words old.contents other bytes → Comes other bytes w end → IsOnlyEnd other end → HasNoOutput end → Fetched words false old.calls new.calls → Becomes (status_at end) result err_old err_new ⊎ (result ≡ Status.OutOfMemory)
    refused_clause other bytes end asks comes only none fetch = by works
      where
        its : Comes job bytes w end
        its = subst (λ j. Comes j bytes w end) (asked other asks.reads) comes

        no_memory : outcome ≡ Outcome.OutOfMemory → result ≡ Status.OutOfMemory
        no_memory e = no_memory_is err_before err_later err_old err_new _ result (subst (λ o. Reported o (file_of job) result err_before err_later err_old err_new) e reported)

        carried : Does job bytes w outcome (fetched job false old) new → Becomes (status_at end) result err_old err_new ⊎ (result ≡ Status.OutOfMemory)
        carried (inl c) =
            let same = alike laws job bytes w c.end end c.comes its (subst (λ j. IsOnlyEnd j end) (asked other asks.reads) only) in
            become (status_at end) (refused_as job w (fetched job false old) new c.end outcome c.carried (alike_none c.end end same none) ∙ alike_status c.end end same)
        carried (inr (inl stopped)) = absurd (refused_not_run laws job bytes w stopped.text end (stop_is job bytes w stopped.text outcome old.faults new.faults stopped.so).0 stopped.output its none)
        carried (inr (inr want)) = inr (no_memory want.0)

        by : Works (Some job) w outcome old new → Becomes (status_at end) result err_old err_new ⊎ (result ≡ Status.OutOfMemory)
        by (inl w) = let differ : true ≡ false = fetch_is_one true false (failed_calls w.1 w.3) fetch in absurd (cc)
        by (inr (inl w)) = inr (no_memory w.0)
        by (inr (inr f)) = carried (does_told bytes (told_job other bytes asks) f)

    pub write_fault_clause : result ≡ Status.WriteFault → Rises old.faults new.faults ⊎ Rises err_old err_new ⊎ StoreFailed words old.calls new.calls
    write_fault_clause e = elim (write_cause err_before err_later err_old err_new outcome (file_of job) result reported e) [
      | inl s ↦ by_outcome (of_status outcome Status.WriteFault s)
      | inr risen ↦ inr (inl risen)
    ]
      where
        by_end : (bytes : List ℕ) (end : End) → Comes job bytes w end → CarriesOut job end Outcome.WriteFault (fetched job false old) new → Rises old.faults new.faults ⊎ Rises err_old err_new ⊎ StoreFailed words old.calls new.calls
        by_end bytes end comes c = elim (written job w (fetched job false old) new bytes end comes c) [
          | inl risen ↦ inl risen
          | inr listed ↦ inr (inr (record { job = job; reads = reads; stores = listed.0; listed = listed.1 }))
        ]

        by : outcome ≡ Outcome.WriteFault → (bytes : List ℕ) → Does job bytes w outcome (fetched job false old) new → Rises old.faults new.faults ⊎ Rises err_old err_new ⊎ StoreFailed words old.calls new.calls
        by is bytes (inl c) = by_end bytes c.end c.comes (subst (λ o. CarriesOut job c.end o (fetched job false old) new) is c.carried)
        by is bytes (inr (inl stopped)) = elim ((stop_is job bytes w stopped.text outcome old.faults new.faults stopped.so).1) [
          | inl e ↦ inl e.1
          | inr e ↦ absurd (cc)
        ]
        by is bytes (inr (inr none)) = let other = none.0 in absurd (cc)

        by_outcome : outcome ≡ Outcome.WriteFault → Rises old.faults new.faults ⊎ Rises err_old err_new ⊎ StoreFailed words old.calls new.calls
        by_outcome is = let f = job_done (λ w. cc (is)) (λ w. cc (is)) in by is f.bytes f.does
