-- Serves the bodies. Where the bytes of a job come from, and what the work comes to behind the run of a made source.
use Rattle.std.specs.Prelude.{◌≡◌, ◌≤◌, ◌⊎◌, ℕ, List, [], Option}
use Rattle.std.specs.String.{string_bytes}
use Rattle.proto.specs.Chunk.{Chunk}
use Rattle.made_source.specs.Made.{account}
use Rattle.decompile.specs.Sources.{IsSourceOf}
use Rattle.suite_io.specs.Parts.{TakesPart}
use Rattle.suite_io.specs.Taken.{Takes, Rises}
use Rattle.suite.specs.declared.outcome.Outcome.{Outcome}
use Rattle.suite.specs.declared.words.Origin.{Origin}
use Rattle.suite.specs.Words.{Job, make_source, file_of}
use Rattle.suite.specs.Work.{Fetches}
use Rattle.suite.specs.Jobs.{IsTold, IsUnfound}

-- the file that a job fetches, or how many functions its source has
abbrev pub HasOrigin : Job → Origin → Type 0
HasOrigin job (Origin.File file) = (string_bytes file.now ≡ file_of job) × Fetches job
HasOrigin job (Origin.Made count) = job ≡ make_source count

-- a chunk has a source, and a text is the account of it
pub record HasAccount (bytes : List ℕ) (chunk : Chunk) (text : List ℕ) : Type 0 where
  pub source : List ℕ
  pub of : IsSourceOf chunk source
  pub is : text ≡ account bytes chunk

-- the account is put, whole, or a first part of it where the sink failed or memory ran out; or no source is found, and nothing is put
abbrev pub IsTried : List ℕ → Chunk → Outcome → Option (List ℕ) → Option (List ℕ) → ℕ → ℕ → Type 0
IsTried bytes chunk Outcome.Done taken later faults now = (text : List ℕ) × HasAccount bytes chunk text × Takes taken later text
IsTried bytes chunk Outcome.WriteFault taken later faults now = (text : List ℕ) × HasAccount bytes chunk text × TakesPart taken later text × (faults ≤ now) × Rises faults now
IsTried bytes chunk Outcome.OutOfMemory taken later faults now = Takes taken later [] ⊎ ((text : List ℕ) × HasAccount bytes chunk text × TakesPart taken later text)
IsTried bytes chunk (Outcome.NotDecompiled why) taken later faults now = IsTold why × IsUnfound chunk why × Takes taken later []
IsTried bytes chunk outcome taken later faults now = ⊥
