-- To be believed. What accepted source means, beside what its run came to.
use Rattle.std.specs.Prelude.{◌≡◌, ◌≢◌, ◌⊎◌, ◌≤◌, ◌↔◌, ℕ, ◌+◌, ◌*◌, false, List, Contains, Option}
use Rattle.std.specs.Cmp.Lexicographic.{slice_cmp}
use Rattle.std.specs.List.{flat_map}
use Rattle.std.specs.List.Sorted.{IsStrictlySortedBy}
use Rattle.std.specs.Ordering.{nat_cmp}
use Rattle.lua_num.specs.Bytes.{Text}
use Rattle.lua_tree.specs.Syntax.{Source}
use Rattle.lua_model.specs.Store.{Event, output}
use Rattle.lua_model.specs.Endings.{Course, Ending, Ended, Failed, Going, IsPrefix}
use Rattle.source_meaning.specs.Meaning.{meaning}
use Rattle.chunk_io.specs.Items.{is_chunk}
use Rattle.machine.specs.Outside.{calls_in}
use Rattle.suite_io.specs.Taken.{Takes}
use Rattle.global_use.specs.Uses.{use_line}
use Rattle.source_globals.specs.Named.{source_gets, source_sets}
use Rattle.suite.specs.declared.outcome.Outcome.{Outcome}
use Rattle.suite.specs.declared.status.Status.{Status}
use Rattle.suite.specs.Words.{Job, run_file, put_product, store_product, make_source}
use Rattle.suite.specs.Lines.{line_of}
use Rattle.suite.specs.Seen.{Seen, between}
use Rattle.suite.specs.Worlds.{World, hosts_first, replies_of, calls_of}
use Rattle.suite.specs.Jobs.{IsSourceFor}

-- the bytes of a file are read as source for a job
abbrev pub IsReadAsSource : Job → List ℕ → Type 0
IsReadAsSource (run_file file steps) bytes = is_chunk bytes ≡ false
IsReadAsSource (put_product product file) bytes = IsSourceFor product bytes
IsReadAsSource (store_product product file out) bytes = IsSourceFor product bytes
IsReadAsSource (make_source count) bytes = ⊥

-- ---- accepted source is refused for no job

abbrev pub RefusesFile : Status → Type 0
RefusesFile Status.BadWords = Unit {0}
RefusesFile Status.BadSource = Unit {0}
RefusesFile Status.BadChunk = Unit {0}
RefusesFile Status.Rejected = Unit {0}
RefusesFile Status.NotDecompiled = Unit {0}
RefusesFile Status.BadListing = Unit {0}
RefusesFile status = ⊥

-- a text is made of it; a run may also fail, or be going
abbrev pub IsGood : Job → Status → Type 0
IsGood (run_file file steps) status = (status ≡ Status.Done) ⊎ (status ≡ Status.ScriptFailed) ⊎ (status ≡ Status.Unfinished) ⊎ (status ≡ Status.OutOfMemory)
IsGood job status = (status ≡ Status.Done) ⊎ (status ≡ Status.OutOfMemory)

pub record IsTaken (job : Job) (quiet : Type 0) (status : Status) : Type 0 where
  pub never_refused : RefusesFile status → ⊥
  -- where no count of faults rose
  pub good : quiet → IsGood job status

-- ---- its run does what it means

-- what a source means after so many ticks, with the hosts and the replies that they gave
abbrev pub meant_by : Source → World → ℕ → Course
meant_by source w ticks = meaning source (hosts_first w) (replies_of w) ticks

-- the source comes out so after some ticks, its output was put, and the hosts were called as it calls them
pub record ComesOut (source : Source) (w : World) (taken later : Option (List ℕ)) (ending : Ending) : Type 0 where
  pub ticks : ℕ
  pub ends : (meant_by source w ticks).ending ≡ ending
  pub puts : Takes taken later (output (meant_by source w ticks).events)
  pub called : calls_of w ≡ calls_in (meant_by source w ticks).events

-- The run is going after these steps, with these events. After an eighth as many ticks the source is going too, and what happened in it by then is among
-- these events; and all of them happen in the source.
pub record GoesOn (source : Source) (w : World) (taken later : Option (List ℕ)) (steps : ℕ) : Type 0 where
  pub events : List Event
  pub puts : Takes taken later (output events)
  pub called : calls_of w ≡ calls_in events
  pub going : (ticks : ℕ) → 8 * ticks ≤ steps → ((meant_by source w ticks).ending ≡ Going) × IsPrefix (meant_by source w ticks).events events
  pub told : (ticks : ℕ) × IsPrefix events (meant_by source w ticks).events

pub record IsMeant (source : Source) (steps : ℕ) (name : List ℕ) (before behind : Seen) (quiet : Type 0) (status : Status) : Type 0 where
  pub done : status ≡ Status.Done → ComesOut source (between before behind) before.outside.taken behind.outside.taken Ended
  pub failed : status ≡ Status.ScriptFailed → (why : List ℕ) × ComesOut source (between before behind) before.outside.taken behind.outside.taken (Failed why) × Takes before.err_taken behind.err_taken (line_of (Outcome.ScriptFailed why) name)
  pub unfinished : status ≡ Status.Unfinished → GoesOn source (between before behind) before.outside.taken behind.outside.taken steps
  -- where the source has come out within an eighth of the steps, and no count of faults rose, the run has too
  pub over : quiet → (ticks : ℕ) → 8 * ticks ≤ steps → (meant_by source (between before behind) ticks).ending ≢ Going → (status ≡ Status.Done) ⊎ (status ≡ Status.ScriptFailed) ⊎ (status ≡ Status.OutOfMemory)

-- ---- its globals are told as it mentions them

-- a line for each global that it mentions, in the order of the names' bytes, with how often it gets and sets it
pub record AreMentioned (source : Source) (text : List ℕ) : Type 0 where
  pub names : List Text
  pub ordered : IsStrictlySortedBy (slice_cmp nat_cmp) names
  pub mentioned : (name : Text) → Contains names name ↔ (1 ≤ source_gets source name + source_sets source name)
  pub lines : text ≡ flat_map (λ name. use_line name (source_gets source name) (source_sets source name)) names
