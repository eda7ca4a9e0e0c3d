-- To be believed. What the top call promises, of what is seen before it and behind it, and of its status.
use Rattle.std.specs.Prelude.{◌≡◌, ◌≢◌, ◌⊎◌, ℕ, true, false, List, []}
use Rattle.lua_num.specs.Bytes.{Text}
use Rattle.lua_tree.specs.Syntax.{Source}
use Rattle.suite_io.specs.Parts.{TakesPart}
use Rattle.suite_io.specs.Taken.{Takes, Rises}
use Rattle.chunk_io.specs.declared.fault.ChunkFault.{ChunkFault}
use Rattle.front.specs.declared.fault.Fault.{Fault}
use Rattle.proto.specs.Chunk.{Chunk}
use Rattle.chunk_io.specs.Items.{IsChunkOf}
use Rattle.decompile.specs.declared.refused.Refused.{Refused}
use Rattle.decompile.specs.Recoverable.{IsRecoverable}
use Rattle.asm_text.specs.declared.fault.ListFault.{ListFault}
use Rattle.suite.specs.declared.product.Product.{Product}
use Rattle.suite.specs.declared.outcome.Outcome.{Outcome}
use Rattle.suite.specs.declared.rejection.Rejection.{Rejection}
use Rattle.suite.specs.declared.status.Status.{Status}
use Rattle.suite.specs.Words as asking
use Rattle.suite.specs.Words.{Words, Job, run_file, put_product, store_product, job_in, texts, NoCommand, named}
use Rattle.suite.specs.Seen.{Seen, between}
use Rattle.suite.specs.Worlds.{Unasked}
use Rattle.suite.specs.Lines.{Reported, status_of, line_of}
use Rattle.suite.specs.Jobs as jobs
use Rattle.suite.specs.Jobs.{End, failed, unfinished, bad_source, bad_chunk, rejected}
use Rattle.suite.specs.Work.{Works, MayPut, IsRun}
use Rattle.suite.specs.Causes as causes
use Rattle.suite.specs.Causes.{FilesFor, StoreFailed, HasNoOutput, IsOnlyEnd, IsRefusal, status_at}
use Rattle.scheme.specs.Accepts.{Accepts}
use Rattle.suite.specs.Meant.{IsReadAsSource, IsTaken, IsMeant, AreMentioned}

module _ (words : Words) (before behind : Seen) (result : Status) where
  -- the words ask for this, which is done with these bytes; this is what it then comes to; and so it was left outside
  abbrev pub Asks : Job → List ℕ → Type 0
  Asks job bytes = asking.Asks words before.outside.contents job bytes

  abbrev pub Comes : Job → List ℕ → End → Type 0
  Comes job bytes end = jobs.Comes job bytes (between before behind) end

  abbrev pub Leaves : Job → End → Type 0
  Leaves job end = causes.Leaves job end before.outside behind.outside

  -- one fetch of the file that the words name, which succeeded or failed; none, where a source is made
  abbrev pub Fetched : Type 0
  Fetched = causes.Fetched words false before.outside.calls behind.outside.calls

  abbrev pub FetchFailed : Type 0
  FetchFailed = causes.Fetched words true before.outside.calls behind.outside.calls

  -- the result is this, or gave way where the line for it was refused
  abbrev pub Becomes : Status → Type 0
  Becomes status = causes.Becomes status result before.err_faults behind.err_faults

  -- the sink for errors took the line of an outcome, whole; the sink for output took a text, or a first part of one
  abbrev pub Says : Outcome → Type 0
  Says outcome = Takes before.err_taken behind.err_taken (line_of outcome (named words))

  abbrev pub Puts : List ℕ → Type 0
  Puts text = Takes before.outside.taken behind.outside.taken text

  abbrev pub PutsPart : List ℕ → Type 0
  PutsPart text = TakesPart before.outside.taken behind.outside.taken text

  -- no count of faults rose
  pub record IsQuiet : Type 0 where
    pub files : causes.NoFault before.outside.calls behind.outside.calls
    pub out : Rises before.outside.faults behind.outside.faults → ⊥
    pub err : Rises before.err_faults behind.err_faults → ⊥

  pub record Promises : Type 0 where
    -- The whole: what the work came to, and what became of its status while its line was put.
    pub whole : (settled : Outcome) × Works (job_in (texts words)) (between before behind) settled before.outside behind.outside
        × Reported settled (named words) result before.err_taken behind.err_taken before.err_faults behind.err_faults
    -- What the words ask for is carried out, where no count of faults rose: a text is put or stored, a chunk or a source is run, and what has a fault, or
    -- is run or verified and not sound, is refused.
    pub carried_out : (job : Job) (bytes : List ℕ) (end : End) → Asks job bytes → Comes job bytes end → IsOnlyEnd job end → IsQuiet → ((result ≡ status_at end) × Leaves job end) ⊎ (result ≡ Status.OutOfMemory)
    -- At Done all of it was put or stored, and nothing was said.
    pub done : result ≡ Status.Done → Fetched × Takes before.err_taken behind.err_taken []
        × ((job : Job) (bytes : List ℕ) → Asks job bytes → (end : End) × Comes job bytes end × (status_at end ≡ Status.Done) × Leaves job end)
    -- What is put is a first part of what is to be put, and nothing where the words are no command or the fetch failed.
    pub part : (job : Job) (bytes : List ℕ) → Asks job bytes → Puts [] ⊎ ((text : List ℕ) × MayPut job bytes (between before behind) text × PutsPart text)
    pub nothing : NoCommand words ⊎ FetchFailed → Puts []
    -- The calls of files, and what files hold: that changes only at a store, and only under the name that the words give.
    pub files : FilesFor (job_in (texts words)) before.outside behind.outside
    -- Hosts are asked and closed by a run alone, and not where the work ended before one began.
    pub hosts : IsRun (job_in (texts words)) ⊎ Unasked (between before behind)
    pub unasked : IsRefusal result → Unasked (between before behind)
    -- When each status comes.
    pub script_failed : result ≡ Status.ScriptFailed → Fetched × (why : List ℕ)
        × ((job : Job) (bytes : List ℕ) → Asks job bytes → (text : List ℕ) × Comes job bytes (failed why text) × Leaves job (failed why text)) × Says (Outcome.ScriptFailed why)
    pub unfinished : result ≡ Status.Unfinished → Fetched × (steps : ℕ)
        × ((job : Job) (bytes : List ℕ) → Asks job bytes → (text : List ℕ) × Comes job bytes (unfinished steps text) × Leaves job (unfinished steps text)) × Says (Outcome.Unfinished steps)
    pub bad_words : result ≡ Status.BadWords → NoCommand words
    pub no_command : NoCommand words → Becomes Status.BadWords ⊎ (result ≡ Status.OutOfMemory)
    pub read_fault : result ≡ Status.ReadFault → FetchFailed
    pub fetch_failed : FetchFailed → Becomes Status.ReadFault
    pub refused : (job : Job) (bytes : List ℕ) (end : End) → Asks job bytes → Comes job bytes end → IsOnlyEnd job end → HasNoOutput end → Fetched → Becomes (status_at end) ⊎ (result ≡ Status.OutOfMemory)
    pub bad_source : result ≡ Status.BadSource → Fetched × (fault : Fault) × ((job : Job) (bytes : List ℕ) → Asks job bytes → Comes job bytes (bad_source fault)) × Says (Outcome.BadSource fault)
    pub bad_chunk : result ≡ Status.BadChunk → Fetched × (fault : ChunkFault) × ((job : Job) (bytes : List ℕ) → Asks job bytes → Comes job bytes (bad_chunk fault)) × Says (Outcome.BadChunk fault)
    pub rejected : result ≡ Status.Rejected → Fetched × (rejection : Rejection) × ((job : Job) (bytes : List ℕ) → Asks job bytes → Comes job bytes (rejected rejection)) × Says (Outcome.Rejected rejection)
    pub not_decompiled : result ≡ Status.NotDecompiled → Fetched × (refused : Refused) × ((job : Job) (bytes : List ℕ) → Asks job bytes → (text : List ℕ) × Comes job bytes (jobs.not_decompiled refused text) × Leaves job (jobs.not_decompiled refused text)) × Says (Outcome.NotDecompiled refused)
    pub bad_listing : result ≡ Status.BadListing → Fetched × (fault : ListFault) × ((job : Job) (bytes : List ℕ) → Asks job bytes → Comes job bytes (jobs.bad_listing fault)) × Says (Outcome.BadListing fault)
    -- A chunk that is to be decompiled is given a source or refused, where no count of faults rose.
    pub decompiled : (file out : Text) (bytes : List ℕ) (chunk : Chunk) → Asks (store_product Product.Source file out) bytes → IsChunkOf bytes chunk → IsQuiet → (result ≡ Status.Done) ⊎ (result ≡ Status.NotDecompiled) ⊎ (result ≡ Status.OutOfMemory)
    -- That of a straight or flat source is given one, where no count of faults rose.
    pub recovered : (file out : Text) (bytes : List ℕ) (chunk : Chunk) → Asks (store_product Product.Source file out) bytes → IsChunkOf bytes chunk → IsRecoverable chunk → IsQuiet → (result ≡ Status.Done) ⊎ (result ≡ Status.OutOfMemory)
    pub write_fault : result ≡ Status.WriteFault → Rises before.outside.faults behind.outside.faults ⊎ Rises before.err_faults behind.err_faults ⊎ StoreFailed words before.outside.calls behind.outside.calls
    -- Accepted source is taken for every job: a text is made of it, and it is run; and its run does what it means.
    pub taken : (job : Job) (bytes : List ℕ) (source : Source) → Asks job bytes → IsReadAsSource job bytes → Accepts bytes source → IsTaken job IsQuiet result
    pub meant : (file : Text) (steps : ℕ) (bytes : List ℕ) (source : Source) → Asks (run_file file steps) bytes → IsReadAsSource (run_file file steps) bytes → Accepts bytes source → IsMeant source steps (named words) before behind IsQuiet result
    -- Its globals are told as it mentions them.
    pub mentioned : (file : Text) (bytes : List ℕ) (source : Source) → Asks (put_product Product.Globals file) bytes → IsReadAsSource (put_product Product.Globals file) bytes → Accepts bytes source → result ≡ Status.Done → (text : List ℕ) × AreMentioned source text × Puts text
    -- The line of the status, whole wherever no put of it can have been refused.
    pub line : result ≢ Status.WriteFault → result ≢ Status.OutOfMemory → (settled : Outcome) × (status_of settled ≡ result) × Says settled
