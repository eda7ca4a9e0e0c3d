-- To be believed. What a call of the suite does before the line for the sink of errors.
use Rattle.std.specs.Prelude.{◌≡◌, ℕ, Bool, true, false, List, [], ◌∷◌, ◌++◌, ◌⊎◌, Option, Some, None, IfSome}
use Rattle.std.specs.FinMap.{get}
use Rattle.lua_num.specs.Bytes.{Text}
use Rattle.lua_model.specs.Endings.{Ended}
use Rattle.suite_io.specs.declared.calls.FileCall.{FileCall}
use Rattle.suite_io.specs.Calls.{call_of}
use Rattle.suite_io.specs.Contents.{Contents, Stores, OthersStay}
use Rattle.suite_io.specs.Parts.{TakesPart}
use Rattle.suite_io.specs.Taken.{Takes, Rises}
use Rattle.suite.specs.declared.outcome.Outcome.{Outcome}
use Rattle.suite.specs.Words.{Job, run_file, put_product, store_product, make_source, file_of, made_name, default_steps}
use Rattle.made_source.specs.Made.{made}
use Rattle.suite.specs.Seen.{Outside}
use Rattle.suite.specs.Worlds.{World, hosts_first, Unasked}
use Rattle.suite.specs.Jobs.{End, stored, put, failed, unfinished, bad_source, bad_chunk, rejected, not_decompiled, bad_listing, Comes, HasRun, HasPut, HasStopped, HasGivenUp, HasMade}

-- a job fetches a file, but where a source is made
abbrev pub Fetches : Job → Type 0
Fetches (make_source count) = ⊥
Fetches job = Unit {0}

-- the calls of files with which it begins
abbrev pub first_calls : Job → (fails : Bool) → List FileCall
first_calls (make_source count) fails = []
first_calls job fails = call_of false (file_of job) fails ∷ []

-- behind them nothing else is changed
abbrev pub fetched : Job → (fails : Bool) → Outside → Outside
fetched job fails old = record { contents = old.contents; calls = old.calls ++ first_calls job fails; taken = old.taken; faults = old.faults }

-- only the sink is another
pub record FilesStay (old new : Outside) : Type 0 where
  pub contents : new.contents ≡ old.contents
  pub calls : new.calls ≡ old.calls

-- only files are other: one store, of this name
pub record StoresTo (out : Text) (failed : Bool) (old new : Outside) : Type 0 where
  pub calls : new.calls ≡ old.calls ++ call_of true out failed ∷ []
  pub taken : Takes old.taken new.taken []

-- a text is put: whole, or a first part of it where the sink failed or memory ran out
abbrev pub PutsText : List ℕ → Outcome → Outside → Outside → Type 0
PutsText text Outcome.Done old new = FilesStay old new × Takes old.taken new.taken text
PutsText text Outcome.WriteFault old new = FilesStay old new × TakesPart old.taken new.taken text × Rises old.faults new.faults
PutsText text Outcome.OutOfMemory old new = FilesStay old new × TakesPart old.taken new.taken text
PutsText text outcome old new = ⊥

-- a text is stored under a name: whole, or the name has any bytes where the store failed, or nothing is stored where memory ran out
abbrev pub StoresText : Text → List ℕ → Outcome → Outside → Outside → Type 0
StoresText out text Outcome.Done old new = StoresTo out false old new × Stores old.contents new.contents out text × OthersStay old.contents new.contents out
StoresText out text Outcome.WriteFault old new = StoresTo out true old new × OthersStay old.contents new.contents out
StoresText out text Outcome.OutOfMemory old new = FilesStay old new × Takes old.taken new.taken []
StoresText out text outcome old new = ⊥

-- nothing is put or stored
abbrev pub Nothing : Outside → Outside → Type 0
Nothing old new = FilesStay old new × Takes old.taken new.taken []

-- the file under which a job stores
abbrev pub out_of : Job → Text
out_of (run_file file steps) = []
out_of (put_product product file) = []
out_of (store_product product file out) = out
out_of (make_source count) = []

abbrev pub IsStore : Job → Type 0
IsStore (store_product product file out) = Unit {0}
IsStore job = ⊥

-- how what a job comes to is carried out
abbrev pub CarriesOut : Job → End → Outcome → Outside → Outside → Type 0
CarriesOut job (stored text) outcome old new = StoresText (out_of job) text outcome old new
CarriesOut job (put text) outcome old new = PutsText text outcome old new
CarriesOut job (failed why text) outcome old new = (outcome ≡ Outcome.ScriptFailed why) × FilesStay old new × Takes old.taken new.taken text
CarriesOut job (unfinished steps text) outcome old new = (outcome ≡ Outcome.Unfinished steps) × FilesStay old new × Takes old.taken new.taken text
CarriesOut job (bad_source fault) outcome old new = (outcome ≡ Outcome.BadSource fault) × Nothing old new
CarriesOut job (bad_chunk fault) outcome old new = (outcome ≡ Outcome.BadChunk fault) × Nothing old new
CarriesOut job (rejected rejection) outcome old new = (outcome ≡ Outcome.Rejected rejection) × Nothing old new
CarriesOut job (not_decompiled refused text) outcome old new = (outcome ≡ Outcome.NotDecompiled refused) × FilesStay old new × Takes old.taken new.taken text
CarriesOut job (bad_listing fault) outcome old new = (outcome ≡ Outcome.BadListing fault) × Nothing old new

-- a run alone asks hosts, where it is begun, and that of a made source
abbrev pub MayAsk : Job → End → Type 0
MayAsk (run_file file steps) (put text) = Unit {0}
MayAsk (run_file file steps) (failed why text) = Unit {0}
MayAsk (run_file file steps) (unfinished n text) = Unit {0}
MayAsk (make_source count) (put text) = Unit {0}
MayAsk (make_source count) (failed why text) = Unit {0}
MayAsk (make_source count) (unfinished n text) = Unit {0}
MayAsk (make_source count) (not_decompiled why text) = Unit {0}
MayAsk job end = ⊥

-- a job with the bytes that were fetched
pub record Carried (job : Job) (bytes : List ℕ) (w : World) (outcome : Outcome) (old new : Outside) : Type 0 where
  pub end : End
  pub comes : Comes job bytes w end
  pub carried : CarriesOut job end outcome old new
  pub asks : MayAsk job end ⊎ Unasked w

-- it is a run that is asked for, or that of a made source
abbrev pub IsRun : Option Job → Type 0
IsRun (Some (run_file file steps)) = Unit {0}
IsRun (Some (make_source count)) = Unit {0}
IsRun asked = ⊥

-- what is put for a job, whole or a first part of it: of a run its output after some steps, and behind that of a made source its account
abbrev pub MayPut : Job → List ℕ → World → List ℕ → Type 0
MayPut (run_file file steps) bytes w text = HasPut file bytes (hosts_first w) text
MayPut (make_source count) bytes w text = HasPut made_name bytes (hosts_first w) text ⊎ HasMade bytes w text
MayPut job bytes w text = Comes job bytes w (put text)

-- how a run stopped: where the sink failed, whose count of faults rose, or where memory ran out, of a made source also behind the end of its run
abbrev pub StopsSo : Job → List ℕ → World → List ℕ → Outcome → ℕ → ℕ → Type 0
StopsSo (run_file file steps) bytes w text Outcome.WriteFault old new = HasStopped file bytes w steps text × Rises old new
StopsSo (run_file file steps) bytes w text Outcome.OutOfMemory old new = HasGivenUp file bytes w steps text
StopsSo (make_source count) bytes w text Outcome.WriteFault old new = HasStopped made_name bytes w default_steps text × Rises old new
StopsSo (make_source count) bytes w text Outcome.OutOfMemory old new = HasGivenUp made_name bytes w default_steps text ⊎ HasRun made_name bytes w default_steps Ended text
StopsSo job bytes w text outcome old new = ⊥

pub record Stopped (job : Job) (bytes : List ℕ) (w : World) (outcome : Outcome) (old new : Outside) : Type 0 where
  pub text : List ℕ
  pub so : StopsSo job bytes w text outcome old.faults new.faults
  pub output : MayPut job bytes w text
  pub files : FilesStay old new
  pub part : TakesPart old.taken new.taken text

-- it is carried out, or its run stopped, or memory ran out before it was known what it comes to
abbrev pub Does : Job → List ℕ → World → Outcome → Outside → Outside → Type 0
Does job bytes w outcome old new = Carried job bytes w outcome old new ⊎ Stopped job bytes w outcome old new ⊎ ((outcome ≡ Outcome.OutOfMemory) × Nothing old new × Unasked w)

-- the same whatever hosts there are, which are not asked
abbrev pub DoesAlone : Job → List ℕ → Outcome → Outside → Outside → Type 0
DoesAlone job bytes outcome old new = (w : World) → Unasked w → Does job bytes w outcome old new

-- a job has these bytes: those that its file has, where that is told, or the made source
abbrev pub HasBytes : Option Contents → Job → List ℕ → Type 0
HasBytes contents (make_source count) bytes = bytes ≡ made count
HasBytes contents job bytes = IfSome contents (λ held. get held (file_of job) ≡ Some bytes)

pub record DoesFetched (job : Job) (w : World) (outcome : Outcome) (old new : Outside) : Type 0 where
  pub bytes : List ℕ
  pub told : HasBytes old.contents job bytes
  pub does : Does job bytes w outcome (fetched job false old) new

-- what words come to that ask for a job, or for none: the order is words, the fetch of their file, if there is one, and then the job
abbrev pub Works : Option Job → World → Outcome → Outside → Outside → Type 0
Works None w outcome old new = ((outcome ≡ Outcome.BadWords) ⊎ (outcome ≡ Outcome.OutOfMemory)) × (new ≡ old) × Unasked w
Works (Some job) w outcome old new =
    ((outcome ≡ Outcome.ReadFault) × (new ≡ fetched job true old) × Unasked w × Fetches job)
    ⊎ ((outcome ≡ Outcome.OutOfMemory) × (new ≡ old) × Unasked w)
    ⊎ DoesFetched job w outcome old new
