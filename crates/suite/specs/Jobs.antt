-- To be believed. What is done with the bytes of a file.
use Rattle.std.specs.Prelude.{◌≡◌, ◌⊎◌, ◌≤◌, ℕ, Bool, true, false, List, [], ◌∷◌, ◌++◌, Some, codes, if◌then◌else◌}
use Rattle.lua_num.specs.Bytes.{Text}
use Rattle.lua_model.specs.Store.{Host, Reply, Event, output}
use Rattle.lua_model.specs.Endings.{Ending, Ended, Failed, Going}
use Rattle.proto.specs.Chunk.{Chunk, strip}
use Rattle.made_source.specs.Made.{account}
use Rattle.chunk_io.specs.declared.fault.ChunkFault.{ChunkFault}
use Rattle.chunk_io.specs.Faults.{IsFault}
use Rattle.chunk_io.specs.Items.{IsChunkOf, Spelled, is_chunk, le8}
use Rattle.lister.specs.Listing.{listing}
use Rattle.rules.specs.Run.{Conf, ran, course}
use Rattle.rules.specs.Sound.{Sound, Rejected}
use Rattle.machine.specs.At.{hosts_at, GaveUp}
use Rattle.machine.specs.Outside.{calls_in}
use Rattle.front.specs.declared.fault.Fault.{Fault}
use Rattle.front.specs.Sources.{IsCompiled, IsFaultIn}
use Rattle.decompile.specs.declared.refused.Refused.{Refused}
use Rattle.decompile.specs.Recoverable.{IsRecoverable}
use Rattle.decompile.specs.Sources.{IsSourceOf, IsRefusedBy}
use Rattle.global_use.specs.Uses.{IsUseText}
use Rattle.asm_text.specs.declared.fault.ListFault.{ListFault}
use Rattle.asm_text.specs.Faults as listings
use Rattle.asm_text.specs.Faults.{Assembles}
use Rattle.suite.specs.declared.product.Product.{Product}
use Rattle.suite.specs.declared.rejection.Rejection.{Rejection}
use Rattle.suite.specs.Words.{Job, run_file, put_product, store_product, make_source, made_name, default_steps}
use Rattle.suite.specs.Worlds.{World, hosts_first, hosts_last, calls_of, replies_of, Unasked}

-- what a job comes to: a text is stored or put; or a run failed, or is going after its steps, and has put a text; or the bytes have a fault, or their
-- chunk is rejected, or given no source, behind a run that has put a text or behind none, or they are no listing
pub data End : Type 0 where
  stored : (text : List ℕ) → End
  put : (text : List ℕ) → End
  failed : (why text : List ℕ) → End
  unfinished : (steps : ℕ) (text : List ℕ) → End
  bad_source : Fault → End
  bad_chunk : ChunkFault → End
  rejected : Rejection → End
  not_decompiled : Refused → (text : List ℕ) → End
  bad_listing : ListFault → End

-- the source name of a file: `@` and its name
abbrev pub source_name : Text → Text
source_name file = 64 ∷ file

-- the chunk of a file: the one that its bytes spell, or that of the source
abbrev pub HasChunk : Text → List ℕ → Chunk → Type 0
HasChunk file bytes chunk = ((is_chunk bytes ≡ true) × IsChunkOf bytes chunk) ⊎ ((is_chunk bytes ≡ false) × IsCompiled (source_name file) bytes chunk)

-- the chunk that a file's bytes spell is asked to be sound where it is run or verified; that of a source is so, and is not asked
abbrev pub SoundIfSpelled : List ℕ → Chunk → Type 0
SoundIfSpelled bytes chunk = is_chunk bytes ≡ true → Sound chunk

-- ---- texts that are made of a file

-- the chunk of which a text is made; what is spelled is the chunk of a source, or that of which the file is the listing, and a source is one of the chunk that is spelled, whatever the file
-- begins with
abbrev pub ChunkFor : Product → Text → List ℕ → Chunk → Type 0
ChunkFor (Product.Spelling strip layout) file bytes chunk = IsCompiled (source_name file) bytes chunk
ChunkFor Product.Source file bytes chunk = IsChunkOf bytes chunk
ChunkFor Product.Assembly file bytes chunk = Assembles bytes chunk
ChunkFor product file bytes chunk = HasChunk file bytes chunk

abbrev pub stripped_if : Bool → Chunk → Chunk
stripped_if stripped chunk = if stripped then strip chunk else chunk

-- the text: the chunk's listing, `ok` and a line end of a sound one, its spelling, a source whose chunk it is, but for the numbers of lines, or a line for each global of a sound one
abbrev pub IsTextOf : Product → List ℕ → Chunk → List ℕ → Type 0
IsTextOf Product.Listing bytes chunk text = text ≡ listing chunk
IsTextOf Product.Verdict bytes chunk text = SoundIfSpelled bytes chunk × (text ≡ codes "ok" ++ 10 ∷ [])
IsTextOf (Product.Spelling strip layout) bytes chunk text = Spelled text layout (stripped_if strip chunk)
IsTextOf Product.Source bytes chunk text = IsSourceOf chunk text
IsTextOf Product.Globals bytes chunk text = SoundIfSpelled bytes chunk × IsUseText chunk text
IsTextOf Product.Assembly bytes chunk text = Spelled text le8 chunk

pub record Makes (product : Product) (file : Text) (bytes : List ℕ) (text : List ℕ) : Type 0 where
  pub chunk : Chunk
  pub has : ChunkFor product file bytes chunk
  pub is : IsTextOf product bytes chunk text

-- ---- files that are refused

-- the bytes are read as source for it, or as a chunk
abbrev pub IsSourceFor : Product → List ℕ → Type 0
IsSourceFor (Product.Spelling strip layout) bytes = Unit {0}
IsSourceFor Product.Source bytes = ⊥
IsSourceFor Product.Assembly bytes = ⊥
IsSourceFor product bytes = is_chunk bytes ≡ false

abbrev pub IsChunkFor : Product → List ℕ → Type 0
IsChunkFor (Product.Spelling strip layout) bytes = ⊥
IsChunkFor Product.Source bytes = Unit {0}
IsChunkFor Product.Assembly bytes = ⊥
IsChunkFor product bytes = is_chunk bytes ≡ true

-- or as a listing
abbrev pub IsListingFor : Product → Type 0
IsListingFor Product.Assembly = Unit {0}
IsListingFor product = ⊥

-- a verdict wants a sound chunk, and so do globals; that of a source is never rejected
abbrev pub WantsSound : Product → Type 0
WantsSound Product.Verdict = Unit {0}
WantsSound Product.Globals = Unit {0}
WantsSound product = ⊥

pub record IsRejectedFor (product : Product) (file : Text) (bytes : List ℕ) (rejection : Rejection) : Type 0 where
  pub wants : WantsSound product
  pub chunk : Chunk
  pub spelled : is_chunk bytes ≡ true
  pub of : IsChunkOf bytes chunk
  pub rejected : Rejected chunk rejection.path rejection.pc rejection.rule

-- a source is wanted of a chunk
abbrev pub WantsSource : Product → Type 0
WantsSource Product.Source = Unit {0}
WantsSource product = ⊥

-- why, but for want of memory
abbrev pub IsTold : Refused → Type 0
IsTold Refused.OutOfMemory = ⊥
IsTold refused = Unit {0}

-- a chunk is refused so, which is no recoverable one: those are given a source
abbrev pub IsUnfound : Chunk → Refused → Type 0
IsUnfound chunk why = IsRefusedBy chunk why × (IsRecoverable chunk → ⊥)

pub record IsNotDecompiledFor (product : Product) (bytes : List ℕ) (why : Refused) : Type 0 where
  pub wants : WantsSource product
  pub told : IsTold why
  pub chunk : Chunk
  pub of : IsChunkOf bytes chunk
  pub refused : IsUnfound chunk why

abbrev pub Refuses : Product → Text → List ℕ → End → Type 0
Refuses product file bytes (bad_source fault) = IsSourceFor product bytes × IsFaultIn bytes fault
Refuses product file bytes (bad_chunk fault) = IsChunkFor product bytes × IsFault bytes fault
Refuses product file bytes (rejected rejection) = IsRejectedFor product file bytes rejection
Refuses product file bytes (not_decompiled refused text) = IsNotDecompiledFor product bytes refused × (text ≡ [])
Refuses product file bytes (bad_listing fault) = IsListingFor product × listings.IsFault bytes fault
Refuses product file bytes end = ⊥

-- ---- runs

-- where the run of a chunk is after so many steps, with the hosts and the replies that they gave
abbrev pub ran_in : Chunk → World → ℕ → Conf
ran_in chunk w steps = ran chunk (hosts_first w) (replies_of w) steps

-- The run of the chunk of a file is so after these steps. The text is its output, and the hosts were called, and closed, as it does.
pub record HasRun (file : Text) (bytes : List ℕ) (w : World) (steps : ℕ) (ending : Ending) (text : List ℕ) : Type 0 where
  pub chunk : Chunk
  pub has : HasChunk file bytes chunk
  pub sound : SoundIfSpelled bytes chunk
  pub events : List Event
  pub comes : course (ran_in chunk w steps) ≡ Some (record { ending = ending; events = events })
  pub is : text ≡ output events
  pub called : calls_of w ≡ calls_in events
  pub live : hosts_at (ran_in chunk w steps) ≡ hosts_last w

-- a run that stopped after some of its steps, where the sink failed: so it is after these
pub record HasStopped (file : Text) (bytes : List ℕ) (w : World) (steps : ℕ) (text : List ℕ) : Type 0 where
  pub made : ℕ
  pub few : made ≤ steps
  pub ending : Ending
  pub ran : HasRun file bytes w made ending text

-- A run that gave up after some of its steps, where memory ran out: its text is the output of these, and the hosts are as the machine leaves them. Where
-- no step was begun no host was asked.
pub record HasGivenUp (file : Text) (bytes : List ℕ) (w : World) (steps : ℕ) (text : List ℕ) : Type 0 where
  pub chunk : Chunk
  pub has : HasChunk file bytes chunk
  pub sound : SoundIfSpelled bytes chunk
  pub events : List Event
  pub is : text ≡ output events
  pub gave : ((events ≡ []) × Unasked w) ⊎ GaveUp chunk (hosts_first w) [] 0 steps w.before w.behind events

-- the text is the output of the run of the chunk of a file after some steps, with some replies
pub record HasPut (file : Text) (bytes : List ℕ) (hosts : List Host) (text : List ℕ) : Type 0 where
  pub chunk : Chunk
  pub has : HasChunk file bytes chunk
  pub sound : SoundIfSpelled bytes chunk
  pub replies : List Reply
  pub steps : ℕ
  pub ending : Ending
  pub events : List Event
  pub comes : course (ran chunk hosts replies steps) ≡ Some (record { ending = ending; events = events })
  pub is : text ≡ output events

-- ---- made sources

-- the run of a made source ended, a source was found of its chunk, and the text is the run's output with the account behind it
pub record HasMade (bytes : List ℕ) (w : World) (text : List ℕ) : Type 0 where
  pub output : List ℕ
  pub ran : HasRun made_name bytes w default_steps Ended output
  pub source : List ℕ
  pub of : IsSourceOf ran.chunk source
  pub is : text ≡ output ++ account bytes ran.chunk

-- or no source was found of its chunk, and the text is the run's output
pub record HasNoSource (bytes : List ℕ) (w : World) (why : Refused) (text : List ℕ) : Type 0 where
  pub ran : HasRun made_name bytes w default_steps Ended text
  pub told : IsTold why
  pub refused : IsUnfound ran.chunk why

-- ---- jobs

-- What a job comes to with the bytes of its file, among these hosts. A run refuses what has no good verdict.
abbrev pub Comes : Job → List ℕ → World → End → Type 0
Comes (run_file file steps) bytes w (put text) = HasRun file bytes w steps Ended text
Comes (run_file file steps) bytes w (failed why text) = HasRun file bytes w steps (Failed why) text
Comes (run_file file steps) bytes w (unfinished n text) = (n ≡ steps) × HasRun file bytes w steps Going text
Comes (run_file file steps) bytes w end = Refuses Product.Verdict file bytes end
Comes (put_product product file) bytes w (put text) = Makes product file bytes text
Comes (put_product product file) bytes w end = Refuses product file bytes end
Comes (store_product product file out) bytes w (stored text) = Makes product file bytes text
Comes (store_product product file out) bytes w end = Refuses product file bytes end
Comes (make_source count) bytes w (put text) = HasMade bytes w text
Comes (make_source count) bytes w (failed why text) = HasRun made_name bytes w default_steps (Failed why) text
Comes (make_source count) bytes w (unfinished n text) = (n ≡ default_steps) × HasRun made_name bytes w default_steps Going text
Comes (make_source count) bytes w (not_decompiled why text) = HasNoSource bytes w why text
Comes (make_source count) bytes w end = Refuses Product.Verdict made_name bytes end
