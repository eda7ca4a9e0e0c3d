-- What the clauses of the top call rest on: which outcomes exclude each other, and what becomes of a status.
use Rattle.std.proofs.Common.{◌≡◌, ℕ, suc, ◌+◌, true, List, [], ◌∷◌, ◌++◌, ◌⊎◌, inl, inr, Option, Some, None, IfSome, refl, sym, ◌∙◌, cond, arith}
use Rattle.std.specs.FinMap.{get}
use Rattle.std.proofs.lemmas.List.{append-nil}
use Rattle.std.proofs.lemmas.List.Sums.{sum_by-append}
use Rattle.lua_num.specs.Bytes.{Text}
use Rattle.proto.specs.Chunk.{Chunk}
use Rattle.chunk_io.specs.Laws as chunks
use Rattle.rules.specs.declared.rule.Rule.{Rule}
use Rattle.rules.specs.Sound.{Sound, Rejected}
use Rattle.asm_text.specs.Laws as listings
use Rattle.global_use.specs.Uses.{IsUseText}
use Rattle.front.specs.Laws as sources
use Rattle.front.specs.Laws.{CompiledDoes}
use Rattle.suite_io.specs.declared.calls.FileCall.{FileCall}
use Rattle.suite_io.specs.Contents.{Contents}
use Rattle.suite_io.specs.Calls.{fault_count}
use Rattle.suite_io.specs.Parts.{TakesPart}
use Rattle.suite_io.specs.Taken.{Takes, Rises}
use Rattle.suite.specs.declared.status.Status.{Status}
use Rattle.suite.specs.declared.outcome.Outcome.{Outcome}
use Rattle.suite.specs.Words.{Job, run_file, put_product, store_product, make_source, Tells, IsDoneWith}
use Rattle.suite.specs.Work.{HasBytes}
use Rattle.source_globals.specs.Named.{GlobalsOfSource}
use Rattle.suite.specs.Lines.{status_of, line_of, Refused, IsPut, Reported}
use Rattle.suite.specs.Causes.{Becomes}

abbrev pub SoundOrRejected : Type 0
SoundOrRejected = (chunk : Chunk) (path : List ℕ) (pc : ℕ) (rule : Rule) → Sound chunk → Rejected chunk path pc rule → ⊥

abbrev pub UsesAreOne : Type 0
UsesAreOne = (chunk : Chunk) (a b : Text) → IsUseText chunk a → IsUseText chunk b → a ≡ b

-- a file has one chunk, and no fault beside it; its chunk is not sound and rejected, and has one text of its globals; a text is the listing of one chunk, and has no fault beside it; and the chunk of a source does what the source means, and uses the globals that it mentions
pub record Laws : Type 0 where
  pub compiled_are_one : sources.ChunksAreOne
  pub source_or_fault : sources.NeverBoth
  pub spelled_are_one : chunks.ChunksAreOne
  pub chunk_or_fault : chunks.NeverBoth
  pub sound_or_rejected : SoundOrRejected
  pub uses_are_one : UsesAreOne
  pub listed_are_one : listings.ChunksAreOne
  pub listing_or_fault : listings.NeverBoth
  pub compiled_does : CompiledDoes
  pub globals_of_source : GlobalsOfSource

pub count_snoc : (calls : List FileCall) (call : FileCall) → call.failed ≡ true → fault_count (calls ++ call ∷ []) ≡ suc (fault_count calls)
count_snoc calls call e =
    let both = sum_by-append (λ (c : FileCall). cond c.failed 1 0) calls (call ∷ []) in
    let one : 0 + cond call.failed 1 0 ≡ 1 = rw e refl in
    omega (arith, both, one)

-- what was told of a file is what was fetched
same_held : (contents : Option Contents) (file a b : List ℕ) → Tells contents file a → IfSome contents (λ held. get held file ≡ Some b) → a ≡ b
same_held (Some held) file a b h k = cc
same_held None file a b h k = absurd h

pub same_bytes : (contents : Option Contents) (job : Job) (a b : List ℕ) → IsDoneWith contents job a → HasBytes contents job b → a ≡ b
same_bytes contents (run_file file steps) a b h k = same_held contents file a b h k
same_bytes contents (put_product p file) a b h k = same_held contents file a b h k
same_bytes contents (store_product p file out) a b h k = same_held contents file a b h k
same_bytes contents (make_source count) a b h k = h ∙ sym k

-- the whole output is a first part of itself
pub whole_part : (before later : Option (List ℕ)) (text : List ℕ) → Takes before later text → TakesPart before later text
whole_part before later text t = (text, ([], append-nil text), t)

-- a status whose line was refused is then one of two
refused_is : (status result : Status) (old new : ℕ) → Refused status result old new → (result ≡ Status.WriteFault) ⊎ (result ≡ Status.OutOfMemory)
refused_is Status.WriteFault result old new r = inl r
refused_is Status.OutOfMemory result old new r = inr r
refused_is Status.Done result old new (inl r) = inl r.0
refused_is Status.Done result old new (inr r) = inr r
refused_is Status.BadWords result old new (inl r) = inl r.0
refused_is Status.BadWords result old new (inr r) = inr r
refused_is Status.BadSource result old new (inl r) = inl r.0
refused_is Status.BadSource result old new (inr r) = inr r
refused_is Status.BadChunk result old new (inl r) = inl r.0
refused_is Status.Rejected result old new (inl r) = inl r.0
refused_is Status.BadChunk result old new (inr r) = inr r
refused_is Status.Rejected result old new (inr r) = inr r
refused_is Status.NotDecompiled result old new (inl r) = inl r.0
refused_is Status.BadListing result old new (inl r) = inl r.0
refused_is Status.NotDecompiled result old new (inr r) = inr r
refused_is Status.BadListing result old new (inr r) = inr r
refused_is Status.ReadFault result old new (inl r) = inl r.0
refused_is Status.ReadFault result old new (inr r) = inr r
refused_is Status.ScriptFailed result old new (inl r) = inl r.0
refused_is Status.Unfinished result old new (inl r) = inl r.0
refused_is Status.ScriptFailed result old new (inr r) = inr r
refused_is Status.Unfinished result old new (inr r) = inr r

module _ (err_before err_later : Option (List ℕ)) (err_old err_new : ℕ) where
  -- a status that no refusal gives is that of the outcome, and its line was taken
  put_is : (status : Status) (line : List ℕ) (result : Status) → IsPut status line result err_before err_later err_old err_new → (result ≡ Status.WriteFault → ⊥) → (result ≡ Status.OutOfMemory → ⊥) → (result ≡ status) × Takes err_before err_later line
  put_is status line result (inl p) no_fault no_want = p
  put_is status line result (inr p) no_fault no_want =
      absurd (elim (refused_is status result err_old err_new p.0) [ inl e ↦ no_fault e | inr e ↦ no_want e ])

  -- want of memory stays
  pub no_memory_is : (line : List ℕ) (result : Status) → IsPut Status.OutOfMemory line result err_before err_later err_old err_new → result ≡ Status.OutOfMemory
  no_memory_is line result (inl p) = p.0
  no_memory_is line result (inr p) = p.0

  pub settled_is : (outcome : Outcome) (file : List ℕ) (result : Status) → Reported outcome file result err_before err_later err_old err_new → (result ≡ Status.WriteFault → ⊥) → (result ≡ Status.OutOfMemory → ⊥) → (result ≡ status_of outcome) × Takes err_before err_later (line_of outcome file)
  settled_is Outcome.Done file result r no_fault no_want = r
  settled_is Outcome.BadWords file result r no_fault no_want = put_is Status.BadWords _ result r no_fault no_want
  settled_is (Outcome.Unfinished steps) file result (inl p) no_fault no_want = put_is Status.Unfinished _ result p no_fault no_want
  settled_is (Outcome.Unfinished steps) file result (inr p) no_fault no_want =
      absurd (no_want (put_is Status.OutOfMemory _ result p no_fault no_want).0)
  settled_is (Outcome.BadSource fault) file result (inl p) no_fault no_want = put_is Status.BadSource _ result p no_fault no_want
  settled_is (Outcome.BadSource fault) file result (inr p) no_fault no_want =
      absurd (no_want (put_is Status.OutOfMemory _ result p no_fault no_want).0)
  settled_is (Outcome.BadChunk fault) file result (inl p) no_fault no_want = put_is Status.BadChunk _ result p no_fault no_want
  settled_is (Outcome.BadChunk fault) file result (inr p) no_fault no_want =
      absurd (no_want (put_is Status.OutOfMemory _ result p no_fault no_want).0)
  settled_is (Outcome.Rejected rejection) file result (inl p) no_fault no_want = put_is Status.Rejected _ result p no_fault no_want
  settled_is (Outcome.Rejected rejection) file result (inr p) no_fault no_want =
      absurd (no_want (put_is Status.OutOfMemory _ result p no_fault no_want).0)
  settled_is (Outcome.NotDecompiled refused) file result (inl p) no_fault no_want = put_is Status.NotDecompiled _ result p no_fault no_want
  settled_is (Outcome.BadListing fault) file result (inl p) no_fault no_want = put_is Status.BadListing _ result p no_fault no_want
  settled_is (Outcome.NotDecompiled refused) file result (inr p) no_fault no_want =
      absurd (no_want (put_is Status.OutOfMemory _ result p no_fault no_want).0)
  settled_is (Outcome.BadListing fault) file result (inr p) no_fault no_want =
      absurd (no_want (put_is Status.OutOfMemory _ result p no_fault no_want).0)
  settled_is Outcome.ReadFault file result r no_fault no_want = put_is Status.ReadFault _ result r no_fault no_want
  settled_is Outcome.WriteFault file result r no_fault no_want = put_is Status.WriteFault _ result r no_fault no_want
  settled_is Outcome.OutOfMemory file result r no_fault no_want = put_is Status.OutOfMemory _ result r no_fault no_want
  settled_is (Outcome.ScriptFailed why) file result r no_fault no_want = put_is Status.ScriptFailed _ result r no_fault no_want

  -- where no count rose, the status is that of the outcome, or memory ran out
  quiet_refused : (status result : Status) → Refused status result err_old err_new → (Rises err_old err_new → ⊥) → (result ≡ status) ⊎ (result ≡ Status.OutOfMemory)
  quiet_refused Status.WriteFault result r quiet = inl r
  quiet_refused Status.OutOfMemory result r quiet = inl r
  quiet_refused Status.Done result (inl r) quiet = absurd (quiet r.1)
  quiet_refused Status.Done result (inr r) quiet = inr r
  quiet_refused Status.BadWords result (inl r) quiet = absurd (quiet r.1)
  quiet_refused Status.BadWords result (inr r) quiet = inr r
  quiet_refused Status.BadSource result (inl r) quiet = absurd (quiet r.1)
  quiet_refused Status.BadSource result (inr r) quiet = inr r
  quiet_refused Status.BadChunk result (inl r) quiet = absurd (quiet r.1)
  quiet_refused Status.Rejected result (inl r) quiet = absurd (quiet r.1)
  quiet_refused Status.BadChunk result (inr r) quiet = inr r
  quiet_refused Status.Rejected result (inr r) quiet = inr r
  quiet_refused Status.NotDecompiled result (inl r) quiet = absurd (quiet r.1)
  quiet_refused Status.BadListing result (inl r) quiet = absurd (quiet r.1)
  quiet_refused Status.NotDecompiled result (inr r) quiet = inr r
  quiet_refused Status.BadListing result (inr r) quiet = inr r
  quiet_refused Status.ReadFault result (inl r) quiet = absurd (quiet r.1)
  quiet_refused Status.ReadFault result (inr r) quiet = inr r
  quiet_refused Status.ScriptFailed result (inl r) quiet = absurd (quiet r.1)
  quiet_refused Status.Unfinished result (inl r) quiet = absurd (quiet r.1)
  quiet_refused Status.ScriptFailed result (inr r) quiet = inr r
  quiet_refused Status.Unfinished result (inr r) quiet = inr r

  -- a status becomes a fault of writing only where the count rose
  write_refused : (status result : Status) → Refused status result err_old err_new → result ≡ Status.WriteFault → (status ≡ Status.WriteFault) ⊎ Rises err_old err_new
  write_refused Status.WriteFault result r e = inl refl
  write_refused Status.OutOfMemory result r e = cc
  write_refused Status.Done result (inl r) e = inr r.1
  write_refused Status.Done result (inr r) e = cc
  write_refused Status.BadWords result (inl r) e = inr r.1
  write_refused Status.BadWords result (inr r) e = cc
  write_refused Status.BadSource result (inl r) e = inr r.1
  write_refused Status.BadSource result (inr r) e = cc
  write_refused Status.BadChunk result (inl r) e = inr r.1
  write_refused Status.Rejected result (inl r) e = inr r.1
  write_refused Status.BadChunk result (inr r) e = cc
  write_refused Status.Rejected result (inr r) e = cc
  write_refused Status.NotDecompiled result (inl r) e = inr r.1
  write_refused Status.BadListing result (inl r) e = inr r.1
  write_refused Status.NotDecompiled result (inr r) e = cc
  write_refused Status.BadListing result (inr r) e = cc
  write_refused Status.ReadFault result (inl r) e = inr r.1
  write_refused Status.ReadFault result (inr r) e = cc
  write_refused Status.ScriptFailed result (inl r) e = inr r.1
  write_refused Status.Unfinished result (inl r) e = inr r.1
  write_refused Status.ScriptFailed result (inr r) e = cc
  write_refused Status.Unfinished result (inr r) e = cc

  pub put_becomes : (status : Status) (line : List ℕ) (result : Status) → IsPut status line result err_before err_later err_old err_new → Becomes status result err_old err_new
  put_becomes status line result (inl p) = inl p.0
  put_becomes status line result (inr p) = inr p.0

  pub becomes : (outcome : Outcome) (file : List ℕ) (result : Status) → Reported outcome file result err_before err_later err_old err_new → Becomes (status_of outcome) result err_old err_new ⊎ (result ≡ Status.OutOfMemory)
  becomes Outcome.Done file result r = inl (inl r.0)
  becomes Outcome.BadWords file result r = inl (put_becomes Status.BadWords _ result r)
  becomes (Outcome.Unfinished steps) file result (inl p) = inl (put_becomes Status.Unfinished _ result p)
  becomes (Outcome.Unfinished steps) file result (inr p) = inr (no_memory_is _ result p)
  becomes (Outcome.BadSource fault) file result (inl p) = inl (put_becomes Status.BadSource _ result p)
  becomes (Outcome.BadSource fault) file result (inr p) = inr (no_memory_is _ result p)
  becomes (Outcome.BadChunk fault) file result (inl p) = inl (put_becomes Status.BadChunk _ result p)
  becomes (Outcome.BadChunk fault) file result (inr p) = inr (no_memory_is _ result p)
  becomes (Outcome.Rejected rejection) file result (inl p) = inl (put_becomes Status.Rejected _ result p)
  becomes (Outcome.Rejected rejection) file result (inr p) = inr (no_memory_is _ result p)
  becomes (Outcome.NotDecompiled refused) file result (inl p) = inl (put_becomes Status.NotDecompiled _ result p)
  becomes (Outcome.BadListing fault) file result (inl p) = inl (put_becomes Status.BadListing _ result p)
  becomes (Outcome.NotDecompiled refused) file result (inr p) = inr (no_memory_is _ result p)
  becomes (Outcome.BadListing fault) file result (inr p) = inr (no_memory_is _ result p)
  becomes Outcome.ReadFault file result r = inl (put_becomes Status.ReadFault _ result r)
  becomes Outcome.WriteFault file result r = inl (put_becomes Status.WriteFault _ result r)
  becomes Outcome.OutOfMemory file result r = inr (no_memory_is _ result r)
  becomes (Outcome.ScriptFailed why) file result r = inl (put_becomes Status.ScriptFailed _ result r)

  pub quiet_is : (outcome : Outcome) (file : List ℕ) (result : Status) → Reported outcome file result err_before err_later err_old err_new → (Rises err_old err_new → ⊥) → (result ≡ status_of outcome) ⊎ (result ≡ Status.OutOfMemory)
  quiet_is outcome file result r quiet = by (becomes outcome file result r)
    where
      by : Becomes (status_of outcome) result err_old err_new ⊎ (result ≡ Status.OutOfMemory) → (result ≡ status_of outcome) ⊎ (result ≡ Status.OutOfMemory)
      by (inl (inl e)) = inl e
      by (inl (inr p)) = quiet_refused (status_of outcome) result p quiet
      by (inr e) = inr e

  pub write_cause : (outcome : Outcome) (file : List ℕ) (result : Status) → Reported outcome file result err_before err_later err_old err_new → result ≡ Status.WriteFault → (status_of outcome ≡ Status.WriteFault) ⊎ Rises err_old err_new
  write_cause outcome file result r written = by (becomes outcome file result r)
    where
      by : Becomes (status_of outcome) result err_old err_new ⊎ (result ≡ Status.OutOfMemory) → (status_of outcome ≡ Status.WriteFault) ⊎ Rises err_old err_new
      by (inl (inl e)) = inl (sym e ∙ written)
      by (inl (inr p)) = write_refused (status_of outcome) result p written
      by (inr e) = cc
