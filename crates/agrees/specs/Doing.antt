-- To be believed, and this suite's own. Where a chunk that does what a source means is after so many steps.
use Rattle.std.specs.Prelude.{◌≡◌, ◌≢◌, ◌≤◌, ℕ, ◌*◌, List, Some}
use Rattle.lua_tree.specs.Syntax.{Source}
use Rattle.lua_model.specs.Store.{Host, Reply}
use Rattle.lua_model.specs.Endings.{Going, Course, IsPrefix}
use Rattle.source_meaning.specs.Meaning.{meaning}
use Rattle.proto.specs.Chunk.{Chunk}
use Rattle.rules.specs.Run.{ran, course}

-- with these hosts and replies, after so many steps
pub record DoesSo (source : Source) (chunk : Chunk) (hosts : List Host) (replies : List Reply) (steps : ℕ) : Type 0 where
  -- it is going, waits, has ended or has failed: it is never stuck
  pub so : Course
  pub is : course (ran chunk hosts replies steps) ≡ Some so
  -- where it is not going any more, the source comes out so after some ticks, with the same text and events
  pub over : so.ending ≢ Going → (ticks : ℕ) × (meaning source hosts replies ticks ≡ so)
  -- where it is going, the source is going after an eighth as many ticks
  pub going : so.ending ≡ Going → (ticks : ℕ) → 8 * ticks ≤ steps → (meaning source hosts replies ticks).ending ≡ Going
  -- what has happened in the source after an eighth as many ticks, has happened
  pub tells : (ticks : ℕ) → 8 * ticks ≤ steps → IsPrefix (meaning source hosts replies ticks).events so.events
  -- what has happened, happens in the source
  pub told : (ticks : ℕ) × IsPrefix so.events (meaning source hosts replies ticks).events
