-- To be believed. What the promises of the top call speak of.
use Rattle.std.specs.Prelude.{◌≡◌, ℕ, Bool, false, true, List, [], ◌∷◌, ◌++◌, ◌⊎◌, Option, Some, None}
use Rattle.suite_io.specs.declared.calls.FileCall.{FileCall}
use Rattle.suite_io.specs.Contents.{Stores, OthersStay}
use Rattle.suite_io.specs.Calls.{call_of, fault_count}
use Rattle.suite_io.specs.Taken.{Takes}
use Rattle.suite.specs.declared.status.Status.{Status}
use Rattle.suite.specs.Lines.{Refused}
use Rattle.suite.specs.declared.product.Product.{Product}
use Rattle.suite.specs.Words.{Words, Job, run_file, put_product, store_product, make_source, Reads}
use Rattle.suite.specs.Seen.{Outside}
use Rattle.suite.specs.Jobs.{End, stored, put, failed, unfinished, bad_source, bad_chunk, rejected, not_decompiled, bad_listing}
use Rattle.suite.specs.Work.{out_of, IsStore, Fetches, first_calls}

-- the status stays, or gives way where a put of its line was refused
abbrev pub Becomes : Status → Status → ℕ → ℕ → Type 0
Becomes status result old new = (result ≡ status) ⊎ Refused status result old new

-- the count of faults of files did not rise
abbrev pub NoFault : List FileCall → List FileCall → Type 0
NoFault calls calls_after = fault_count calls_after ≡ fault_count calls

-- the calls of files begin with one fetch, of the file that the words name; where they ask for a made source they begin with none, and none fails
pub record Fetched (words : Words) (failed : Bool) (old new : List FileCall) : Type 0 where
  pub job : Job
  pub reads : Reads words job
  pub fetches : failed ≡ true → Fetches job
  pub later : List FileCall
  pub listed : new ≡ (old ++ first_calls job failed) ++ later

-- behind the fetch stands a store that failed, under the name that the words give
pub record StoreFailed (words : Words) (old new : List FileCall) : Type 0 where
  pub job : Job
  pub reads : Reads words job
  pub stores : IsStore job
  pub listed : new ≡ (old ++ first_calls job false) ++ call_of true (out_of job) true ∷ []

-- Where words ask for a job, the calls of files grow by nothing, by one fetch of the file if there is one, or, of a job that stores, by that and one store under
-- the name that the words give, which alone may change what that one file holds.
abbrev pub FilesFor : Option Job → Outside → Outside → Type 0
FilesFor None old new = (new.calls ≡ old.calls) × (new.contents ≡ old.contents)
FilesFor (Some job) old new =
    ((new.calls ≡ old.calls) × (new.contents ≡ old.contents))
    ⊎ ((failed : Bool) × (new.calls ≡ old.calls ++ first_calls job failed) × (new.contents ≡ old.contents))
    ⊎ (IsStore job × (failed : Bool) × (new.calls ≡ (old.calls ++ first_calls job false) ++ call_of true (out_of job) failed ∷ []) × OthersStay old.contents new.contents (out_of job))

-- the status at which what a job comes to is carried out
abbrev pub status_at : End → Status
status_at (stored text) = Status.Done
status_at (put text) = Status.Done
status_at (failed why text) = Status.ScriptFailed
status_at (unfinished steps text) = Status.Unfinished
status_at (bad_source fault) = Status.BadSource
status_at (bad_chunk fault) = Status.BadChunk
status_at (rejected rejection) = Status.Rejected
status_at (not_decompiled refused text) = Status.NotDecompiled
status_at (bad_listing fault) = Status.BadListing

-- statuses of work that ended before a run began
abbrev pub IsRefusal : Status → Type 0
IsRefusal Status.BadWords = Unit {0}
IsRefusal Status.BadSource = Unit {0}
IsRefusal Status.BadChunk = Unit {0}
IsRefusal Status.Rejected = Unit {0}
IsRefusal Status.BadListing = Unit {0}
IsRefusal Status.ReadFault = Unit {0}
IsRefusal status = ⊥

-- nothing is put or stored at it
abbrev pub HasNoOutput : End → Type 0
HasNoOutput (bad_source fault) = Unit {0}
HasNoOutput (bad_chunk fault) = Unit {0}
HasNoOutput (rejected rejection) = Unit {0}
HasNoOutput (bad_listing fault) = Unit {0}
HasNoOutput end = ⊥

-- A job with these bytes comes to one end alone; but a chunk may have several sources, and that a chunk is given one is said of recoverable ones alone (`recovered`).
abbrev pub IsOnlyFor : Product → End → Type 0
IsOnlyFor Product.Source (stored text) = ⊥
IsOnlyFor Product.Source (put text) = ⊥
IsOnlyFor Product.Source (not_decompiled refused text) = ⊥
IsOnlyFor product end = Unit {0}

abbrev pub IsOnlyMade : End → Type 0
IsOnlyMade (put text) = ⊥
IsOnlyMade (not_decompiled refused text) = ⊥
IsOnlyMade end = Unit {0}

abbrev pub IsOnlyEnd : Job → End → Type 0
IsOnlyEnd (run_file file steps) end = Unit {0}
IsOnlyEnd (put_product product file) end = IsOnlyFor product end
IsOnlyEnd (store_product product file out) end = IsOnlyFor product end
IsOnlyEnd (make_source count) end = IsOnlyMade end

-- what then stands outside
abbrev pub Leaves : Job → End → Outside → Outside → Type 0
Leaves job (stored text) old new = Stores old.contents new.contents (out_of job) text × Takes old.taken new.taken []
Leaves job (put text) old new = (new.contents ≡ old.contents) × Takes old.taken new.taken text
Leaves job (failed why text) old new = (new.contents ≡ old.contents) × Takes old.taken new.taken text
Leaves job (unfinished steps text) old new = (new.contents ≡ old.contents) × Takes old.taken new.taken text
Leaves job (not_decompiled refused text) old new = (new.contents ≡ old.contents) × Takes old.taken new.taken text
Leaves job end old new = (new.contents ≡ old.contents) × Takes old.taken new.taken []
