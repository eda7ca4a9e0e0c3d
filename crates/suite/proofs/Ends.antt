-- What a job comes to is one, but for which fault is told.
use Rattle.std.proofs.Common.{◌≡◌, ℕ, true, false, List, [], ◌⊎◌, inl, inr, Some, refl, sym, ap, ap₂, subst, ◌∙◌}
use Rattle.lua_num.specs.Bytes.{Text}
use Rattle.lua_model.specs.Store.{Event, output}
use Rattle.lua_model.specs.Endings.{Ending, Ended, Failed, Waiting, Going, Course}
use Rattle.proto.specs.Chunk.{Chunk}
use Rattle.chunk_io.specs.declared.fault.ChunkFault.{ChunkFault}
use Rattle.chunk_io.specs.Faults.{IsFault}
use Rattle.chunk_io.specs.Items.{IsChunkOf, is_chunk}
use Rattle.rules.specs.Run.{course}
use Rattle.rules.specs.Sound.{Sound}
use Rattle.front.specs.declared.fault.Fault.{Fault}
use Rattle.front.specs.Sources.{IsFaultIn}
use Rattle.decompile.specs.declared.refused.Refused.{Refused}
use Rattle.decompile.specs.Recoverable.{IsRecoverable}
use Rattle.asm_text.specs.declared.fault.ListFault.{ListFault}
use Rattle.asm_text.specs.Faults as listings
use Rattle.suite_io.specs.Taken.{Takes}
use Rattle.suite.specs.declared.product.Product.{Product}
use Rattle.suite.specs.declared.rejection.Rejection.{Rejection}
use Rattle.suite.specs.declared.status.Status.{Status}
use Rattle.suite.specs.Words.{Job, run_file, put_product, store_product, make_source, made_name, default_steps}
use Rattle.suite.specs.Worlds.{World, hosts_first, replies_of}
use Rattle.suite.specs.Seen.{Outside}
use Rattle.suite.specs.Jobs.{End, stored, put, failed, unfinished, bad_source, bad_chunk, rejected, not_decompiled, bad_listing, source_name, SoundIfSpelled, HasChunk, ChunkFor, IsTextOf, Makes, IsSourceFor, IsChunkFor, IsListingFor, WantsSound, WantsSource, Refuses, HasRun, HasPut, ran_in, Comes}
use Rattle.suite.specs.Work.{MayPut, IsRun}
use Rattle.suite.specs.Causes.{status_at, Leaves, HasNoOutput, IsOnlyFor, IsOnlyMade, IsOnlyEnd}
use Rattle.suite.proofs.Facts.{Laws}

-- what is shown of what a job comes to: the status at which it is carried out, and the text that is stored or put
pub data Shown : Type 0 where
  stores : (text : List ℕ) → Shown
  puts : Status → (text : List ℕ) → Shown
  refuses : Status → Shown

abbrev pub shown : End → Shown
shown (stored text) = stores text
shown (put text) = puts Status.Done text
shown (failed why text) = puts Status.ScriptFailed text
shown (unfinished steps text) = puts Status.Unfinished text
shown (bad_source fault) = refuses Status.BadSource
shown (bad_chunk fault) = refuses Status.BadChunk
shown (rejected rejection) = refuses Status.Rejected
shown (not_decompiled refused text) = puts Status.NotDecompiled text
shown (bad_listing fault) = refuses Status.BadListing

abbrev pub Alike : End → End → Type 0
Alike one other = shown one ≡ shown other

abbrev course_so : Ending → List Event → Course
course_so ending events = record { ending = ending; events = events }

-- what is shown of a run that is so
abbrev shown_run : Ending → List ℕ → Shown
shown_run Ended text = puts Status.Done text
shown_run (Failed why) text = puts Status.ScriptFailed text
shown_run Going text = puts Status.Unfinished text
shown_run Waiting text = refuses Status.Done

-- a chunk has one text of it; of sources it may have several
abbrev HasOneText : Product → Type 0
HasOneText Product.Source = ⊥
HasOneText product = Unit {0}

-- what is wanted excludes another
source_or_text : (p : Product) → HasOneText p → WantsSource p → ⊥
source_or_text Product.Source single wants = single
source_or_text p single wants = wants

source_or_sound : (p : Product) → WantsSound p → WantsSource p → ⊥
source_or_sound Product.Source sound wants = sound
source_or_sound p sound wants = wants

source_of_source : (p : Product) (bytes : List ℕ) → IsSourceFor p bytes → WantsSource p → ⊥
source_of_source Product.Source bytes source wants = source
source_of_source p bytes source wants = wants

-- what is read as a listing is read as nothing else
pub source_not_listing : (p : Product) (bytes : List ℕ) → IsSourceFor p bytes → IsListingFor p → ⊥
source_not_listing Product.Assembly bytes source listing = source
source_not_listing p bytes source listing = listing

chunk_not_listing : (p : Product) (bytes : List ℕ) → IsChunkFor p bytes → IsListingFor p → ⊥
chunk_not_listing Product.Assembly bytes chunk listing = chunk
chunk_not_listing p bytes chunk listing = listing

sound_not_listing : (p : Product) → WantsSound p → IsListingFor p → ⊥
sound_not_listing Product.Assembly wants listing = wants
sound_not_listing p wants listing = listing

decompiled_not_listing : (p : Product) → WantsSource p → IsListingFor p → ⊥
decompiled_not_listing Product.Assembly wants listing = wants
decompiled_not_listing p wants listing = listing

module _ (laws : Laws) where
  same_chunk : (file : Text) (bytes : List ℕ) (c d : Chunk) → HasChunk file bytes c → HasChunk file bytes d → c ≡ d
  same_chunk file bytes c d (inl one) (inl other) = laws.spelled_are_one bytes c d one.1 other.1
  same_chunk file bytes c d (inr one) (inr other) = laws.compiled_are_one (source_name file) bytes c d one.1 other.1
  same_chunk file bytes c d (inl one) (inr other) = let yes : is_chunk bytes ≡ true = one.0 in let no : is_chunk bytes ≡ false = other.0 in cc
  same_chunk file bytes c d (inr one) (inl other) = let no : is_chunk bytes ≡ false = one.0 in let yes : is_chunk bytes ≡ true = other.0 in cc

  has_no_fault : (file : Text) (bytes : List ℕ) (c : Chunk) (fault : Fault) → HasChunk file bytes c → is_chunk bytes ≡ false → IsFaultIn bytes fault → ⊥
  has_no_fault file bytes c fault (inl one) source is = let yes : is_chunk bytes ≡ true = one.0 in cc
  has_no_fault file bytes c fault (inr one) source is = laws.source_or_fault (source_name file) bytes c fault one.1 is

  spells_no_fault : (file : Text) (bytes : List ℕ) (c : Chunk) (fault : ChunkFault) → HasChunk file bytes c → is_chunk bytes ≡ true → IsFault bytes fault → ⊥
  spells_no_fault file bytes c fault (inl one) chunk is = laws.chunk_or_fault bytes c fault one.1 is
  spells_no_fault file bytes c fault (inr one) chunk is = let no : is_chunk bytes ≡ false = one.0 in cc

  -- the chunk of which a text is made is one, and its file has no fault
  chunk_for_one : (p : Product) (file : Text) (bytes : List ℕ) (c d : Chunk) → ChunkFor p file bytes c → ChunkFor p file bytes d → c ≡ d
  chunk_for_one Product.Listing file bytes c d one other = same_chunk file bytes c d one other
  chunk_for_one Product.Verdict file bytes c d one other = same_chunk file bytes c d one other
  chunk_for_one (Product.Spelling strip layout) file bytes c d one other = laws.compiled_are_one (source_name file) bytes c d one other
  chunk_for_one Product.Source file bytes c d one other = laws.spelled_are_one bytes c d one other
  chunk_for_one Product.Globals file bytes c d one other = same_chunk file bytes c d one other
  chunk_for_one Product.Assembly file bytes c d one other = laws.listed_are_one bytes c d one other

  no_source_fault : (p : Product) (file : Text) (bytes : List ℕ) (c : Chunk) (fault : Fault) → ChunkFor p file bytes c → IsSourceFor p bytes → IsFaultIn bytes fault → ⊥
  no_source_fault Product.Listing file bytes c fault has source is = has_no_fault file bytes c fault has source is
  no_source_fault Product.Verdict file bytes c fault has source is = has_no_fault file bytes c fault has source is
  no_source_fault (Product.Spelling strip layout) file bytes c fault has source is = laws.source_or_fault (source_name file) bytes c fault has is
  no_source_fault Product.Source file bytes c fault has source is = source
  no_source_fault Product.Globals file bytes c fault has source is = has_no_fault file bytes c fault has source is
  no_source_fault Product.Assembly file bytes c fault has source is = source

  no_chunk_fault : (p : Product) (file : Text) (bytes : List ℕ) (c : Chunk) (fault : ChunkFault) → ChunkFor p file bytes c → IsChunkFor p bytes → IsFault bytes fault → ⊥
  no_chunk_fault Product.Listing file bytes c fault has chunk is = spells_no_fault file bytes c fault has chunk is
  no_chunk_fault Product.Verdict file bytes c fault has chunk is = spells_no_fault file bytes c fault has chunk is
  no_chunk_fault (Product.Spelling strip layout) file bytes c fault has chunk is = chunk
  no_chunk_fault Product.Source file bytes c fault has chunk is = laws.chunk_or_fault bytes c fault has is
  no_chunk_fault Product.Globals file bytes c fault has chunk is = spells_no_fault file bytes c fault has chunk is
  no_chunk_fault Product.Assembly file bytes c fault has chunk is = chunk

  no_list_fault : (p : Product) (file : Text) (bytes : List ℕ) (c : Chunk) (fault : ListFault) → ChunkFor p file bytes c → IsListingFor p → listings.IsFault bytes fault → ⊥
  no_list_fault Product.Assembly file bytes c fault has listing is = laws.listing_or_fault bytes c fault has is
  no_list_fault p file bytes c fault has listing is = listing

  not_source_and_chunk : (p : Product) (bytes : List ℕ) → IsSourceFor p bytes → IsChunkFor p bytes → ⊥
  not_source_and_chunk Product.Listing bytes source chunk = let no : is_chunk bytes ≡ false = source in let yes : is_chunk bytes ≡ true = chunk in cc
  not_source_and_chunk Product.Verdict bytes source chunk = let no : is_chunk bytes ≡ false = source in let yes : is_chunk bytes ≡ true = chunk in cc
  not_source_and_chunk (Product.Spelling strip layout) bytes source chunk = chunk
  not_source_and_chunk Product.Source bytes source chunk = source
  not_source_and_chunk Product.Globals bytes source chunk = let no : is_chunk bytes ≡ false = source in let yes : is_chunk bytes ≡ true = chunk in cc
  not_source_and_chunk Product.Assembly bytes source chunk = source

  text_one : (p : Product) (bytes : List ℕ) (c : Chunk) (a b : List ℕ) → HasOneText p → IsTextOf p bytes c a → IsTextOf p bytes c b → a ≡ b
  text_one Product.Listing bytes c a b single one other = one ∙ sym other
  text_one Product.Verdict bytes c a b single one other = one.1 ∙ sym other.1
  text_one (Product.Spelling strip layout) bytes c a b single one other = one.is ∙ sym other.is
  text_one Product.Source bytes c a b single one other = absurd single
  text_one Product.Globals bytes c a b single one other = laws.uses_are_one c a b one.1 other.1
  text_one Product.Assembly bytes c a b single one other = one.is ∙ sym other.is

  makes_one : (p : Product) (file : Text) (bytes a b : List ℕ) → HasOneText p → Makes p file bytes a → Makes p file bytes b → a ≡ b
  makes_one p file bytes a b single one other =
      text_one p bytes other.chunk a b single (subst (λ c. IsTextOf p bytes c a) (chunk_for_one p file bytes one.chunk other.chunk one.has other.has) one.is) other.is

  -- a file of which a text is made is not refused
  sound_refused : (file : Text) (bytes : List ℕ) (c : Chunk) (end : End) → HasChunk file bytes c → SoundIfSpelled bytes c → Refuses Product.Verdict file bytes end → ⊥
  sound_refused file bytes c (bad_source fault) has sound refused = has_no_fault file bytes c fault has refused.0 refused.1
  sound_refused file bytes c (bad_chunk fault) has sound refused = spells_no_fault file bytes c fault has refused.0 refused.1
  sound_refused file bytes c (rejected r) has sound refused =
      laws.sound_or_rejected refused.chunk r.path r.pc r.rule (subst Sound (same_chunk file bytes c refused.chunk has (inl (refused.spelled, refused.of))) (sound refused.spelled)) refused.rejected
  sound_refused file bytes c (not_decompiled why text) has sound refused = refused.0.wants
  sound_refused file bytes c (bad_listing fault) has sound refused = refused.0
  sound_refused file bytes c end has sound refused = refused

  -- a file is refused for its globals as for a verdict
  as_verdict : (file : Text) (bytes : List ℕ) (end : End) → Refuses Product.Globals file bytes end → Refuses Product.Verdict file bytes end
  as_verdict file bytes (bad_source fault) refused = refused
  as_verdict file bytes (bad_chunk fault) refused = refused
  as_verdict file bytes (rejected r) refused = record { wants = tt; chunk = refused.chunk; spelled = refused.spelled; of = refused.of; rejected = refused.rejected }
  as_verdict file bytes (not_decompiled why text) refused = absurd refused.0.wants
  as_verdict file bytes (bad_listing fault) refused = absurd refused.0
  as_verdict file bytes end refused = absurd refused

  makes_refused : (p : Product) (file : Text) (bytes text : List ℕ) (end : End) → HasOneText p → Makes p file bytes text → Refuses p file bytes end → ⊥
  makes_refused Product.Verdict file bytes text end single makes refused = sound_refused file bytes makes.chunk end makes.has makes.is.0 refused
  makes_refused Product.Globals file bytes text end single makes refused = sound_refused file bytes makes.chunk end makes.has makes.is.0 (as_verdict file bytes end refused)
  makes_refused p file bytes text (bad_source fault) single makes refused = no_source_fault p file bytes makes.chunk fault makes.has refused.0 refused.1
  makes_refused p file bytes text (bad_chunk fault) single makes refused = no_chunk_fault p file bytes makes.chunk fault makes.has refused.0 refused.1
  makes_refused p file bytes text (rejected r) single makes refused = refused.wants
  makes_refused p file bytes text (not_decompiled why t) single makes refused = source_or_text p single refused.0.wants
  makes_refused p file bytes text (bad_listing fault) single makes refused = no_list_fault p file bytes makes.chunk fault makes.has refused.0 refused.1
  makes_refused p file bytes text end single makes refused = refused

  -- what is rejected is no source, and its bytes have no fault
  rejected_no_source : (p : Product) (file : Text) (bytes : List ℕ) (r : Rejection) → Refuses p file bytes (rejected r) → IsSourceFor p bytes → ⊥
  rejected_no_source Product.Verdict file bytes r refused source = let yes : is_chunk bytes ≡ true = refused.spelled in let no : is_chunk bytes ≡ false = source in cc
  rejected_no_source Product.Globals file bytes r refused source = let yes : is_chunk bytes ≡ true = refused.spelled in let no : is_chunk bytes ≡ false = source in cc
  rejected_no_source p file bytes r refused source = refused.wants

  rejected_no_fault : (p : Product) (file : Text) (bytes : List ℕ) (r : Rejection) (fault : ChunkFault) → Refuses p file bytes (rejected r) → IsFault bytes fault → ⊥
  rejected_no_fault p file bytes r fault refused is = laws.chunk_or_fault bytes refused.chunk fault refused.of is

  -- what is given no source is a chunk
  decompiled_no_source : (p : Product) (file : Text) (bytes : List ℕ) (why : Refused) (text : List ℕ) → Refuses p file bytes (not_decompiled why text) → IsSourceFor p bytes → ⊥
  decompiled_no_source p file bytes why text refused source = source_of_source p bytes source refused.0.wants

  decompiled_no_fault : (p : Product) (file : Text) (bytes : List ℕ) (why : Refused) (text : List ℕ) (fault : ChunkFault) → Refuses p file bytes (not_decompiled why text) → IsFault bytes fault → ⊥
  decompiled_no_fault p file bytes why text fault refused is = laws.chunk_or_fault bytes refused.0.chunk fault refused.0.of is

  -- one kind of refusal
  refused_alike : (p : Product) (file : Text) (bytes : List ℕ) (a b : End) → Refuses p file bytes a → Refuses p file bytes b → Alike a b
  refused_alike p file bytes (bad_source f) (bad_source g) one other = refl
  refused_alike p file bytes (bad_chunk f) (bad_chunk g) one other = refl
  refused_alike p file bytes (rejected r) (rejected s) one other = refl
  refused_alike p file bytes (not_decompiled r t) (not_decompiled s u) one other = ap (puts Status.NotDecompiled) (one.1 ∙ sym other.1)
  refused_alike p file bytes (bad_listing f) (bad_listing g) one other = refl
  refused_alike p file bytes (bad_source f) (bad_chunk g) one other = absurd (not_source_and_chunk p bytes one.0 other.0)
  refused_alike p file bytes (bad_chunk f) (bad_source g) one other = absurd (not_source_and_chunk p bytes other.0 one.0)
  refused_alike p file bytes (bad_source f) (rejected s) one other = absurd (rejected_no_source p file bytes s other one.0)
  refused_alike p file bytes (rejected r) (bad_source g) one other = absurd (rejected_no_source p file bytes r one other.0)
  refused_alike p file bytes (bad_chunk f) (rejected s) one other = absurd (rejected_no_fault p file bytes s f other one.1)
  refused_alike p file bytes (rejected r) (bad_chunk g) one other = absurd (rejected_no_fault p file bytes r g one other.1)
  refused_alike p file bytes (bad_source f) (not_decompiled s u) one other = absurd (decompiled_no_source p file bytes s u other one.0)
  refused_alike p file bytes (not_decompiled r t) (bad_source g) one other = absurd (decompiled_no_source p file bytes r t one other.0)
  refused_alike p file bytes (bad_chunk f) (not_decompiled s u) one other = absurd (decompiled_no_fault p file bytes s u f other one.1)
  refused_alike p file bytes (not_decompiled r t) (bad_chunk g) one other = absurd (decompiled_no_fault p file bytes r t g one other.1)
  refused_alike p file bytes (rejected r) (not_decompiled s u) one other = absurd (source_or_sound p one.wants other.0.wants)
  refused_alike p file bytes (not_decompiled r t) (rejected s) one other = absurd (source_or_sound p other.wants one.0.wants)
  refused_alike p file bytes (bad_source f) (bad_listing g) one other = absurd (source_not_listing p bytes one.0 other.0)
  refused_alike p file bytes (bad_listing f) (bad_source g) one other = absurd (source_not_listing p bytes other.0 one.0)
  refused_alike p file bytes (bad_chunk f) (bad_listing g) one other = absurd (chunk_not_listing p bytes one.0 other.0)
  refused_alike p file bytes (bad_listing f) (bad_chunk g) one other = absurd (chunk_not_listing p bytes other.0 one.0)
  refused_alike p file bytes (rejected r) (bad_listing g) one other = absurd (sound_not_listing p one.wants other.0)
  refused_alike p file bytes (bad_listing f) (rejected s) one other = absurd (sound_not_listing p other.wants one.0)
  refused_alike p file bytes (not_decompiled r t) (bad_listing g) one other = absurd (decompiled_not_listing p one.0.wants other.0)
  refused_alike p file bytes (bad_listing f) (not_decompiled s u) one other = absurd (decompiled_not_listing p other.0.wants one.0)
  refused_alike p file bytes (bad_source f) b one other = absurd other
  refused_alike p file bytes (bad_chunk f) b one other = absurd other
  refused_alike p file bytes (rejected r) b one other = absurd other
  refused_alike p file bytes (not_decompiled r t) b one other = absurd other
  refused_alike p file bytes (bad_listing f) b one other = absurd other
  refused_alike p file bytes a b one other = absurd one

  -- what a job comes to is good, or refused
  module _ (p : Product) (file : Text) (bytes : List ℕ) (Good : Shown → Type 0) (one_good : (s t : Shown) → Good s → Good t → s ≡ t) (not_refused : (s : Shown) (end : End) → Good s → Refuses p file bytes end → ⊥) where
    stories : (a b : End) → Good (shown a) ⊎ Refuses p file bytes a → Good (shown b) ⊎ Refuses p file bytes b → Alike a b
    stories a b (inl x) (inl y) = one_good (shown a) (shown b) x y
    stories a b (inl x) (inr y) = absurd (not_refused (shown a) b x y)
    stories a b (inr x) (inl y) = absurd (not_refused (shown b) a y x)
    stories a b (inr x) (inr y) = refused_alike p file bytes a b x y

  -- runs
  abbrev IsRunShown : Text → List ℕ → World → ℕ → Shown → Type 0
  IsRunShown file bytes w steps s = (ending : Ending) × (text : List ℕ) × HasRun file bytes w steps ending text × (s ≡ shown_run ending text)

  one_run : (file : Text) (bytes : List ℕ) (w : World) (steps : ℕ) (s t : Shown) → IsRunShown file bytes w steps s → IsRunShown file bytes w steps t → s ≡ t
  one_run file bytes w steps s t one other =
      let a : HasRun file bytes w steps one.0 one.1 = one.2 in
      let b : HasRun file bytes w steps other.0 other.1 = other.2 in
      let same : course (ran_in a.chunk w steps) ≡ course (ran_in b.chunk w steps) = ap (λ c. course (ran_in c w steps)) (same_chunk file bytes a.chunk b.chunk a.has b.has) in
      let courses : Some (course_so one.0 a.events) ≡ Some (course_so other.0 b.events) = sym a.comes ∙ same ∙ b.comes in
      let the_course : course_so one.0 a.events ≡ course_so other.0 b.events = cc in
      let endings : one.0 ≡ other.0 = ap (λ (c : Course). c.ending) the_course in
      let events : a.events ≡ b.events = ap (λ (c : Course). c.events) the_course in
      one.3 ∙ ap₂ shown_run endings (a.is ∙ ap output events ∙ sym b.is) ∙ sym other.3

  run_story : (file : Text) (bytes : List ℕ) (w : World) (steps : ℕ) (end : End) → Comes (run_file file steps) bytes w end → IsRunShown file bytes w steps (shown end) ⊎ Refuses Product.Verdict file bytes end
  run_story file bytes w steps (put text) is = inl (Ended, text, is, refl)
  run_story file bytes w steps (failed why text) is = inl (Failed why, text, is, refl)
  run_story file bytes w steps (unfinished n text) is = inl (Going, text, is.1, refl)
  run_story file bytes w steps end is = inr is

  -- a text is made of a file, and shown so, or it is refused
  abbrev IsMadeShown : (List ℕ → Shown) → Product → Text → List ℕ → Shown → Type 0
  IsMadeShown show p file bytes s = (text : List ℕ) × Makes p file bytes text × (s ≡ show text)

  made_alike : (show : List ℕ → Shown) (p : Product) (file : Text) (bytes : List ℕ) (a b : End) → HasOneText p → IsMadeShown show p file bytes (shown a) ⊎ Refuses p file bytes a → IsMadeShown show p file bytes (shown b) ⊎ Refuses p file bytes b → Alike a b
  made_alike show p file bytes a b single one other =
      stories p file bytes (IsMadeShown show p file bytes)
      (λ s t x y. x.2 ∙ ap show (makes_one p file bytes x.0 y.0 single x.1 y.1) ∙ sym y.2)
      (λ s end g refused. makes_refused p file bytes g.0 end single g.1 refused)
      a b one other

  -- a chunk of which a source is wanted has no fault, or one kind of it
  source_alike : (show : List ℕ → Shown) (file : Text) (bytes : List ℕ) (a b : End) → IsMadeShown show Product.Source file bytes (shown a) ⊎ Refuses Product.Source file bytes a → Refuses Product.Source file bytes b → IsOnlyFor Product.Source b → Alike a b
  source_alike show file bytes a (bad_source g) one other only = absurd other.0
  source_alike show file bytes a (bad_chunk g) (inl made) other only = absurd (laws.chunk_or_fault bytes made.1.chunk g made.1.has other.1)
  source_alike show file bytes a (bad_chunk g) (inr refused) other only = refused_alike Product.Source file bytes a (bad_chunk g) refused other
  source_alike show file bytes a (rejected s) one other only = absurd other.wants
  source_alike show file bytes a (not_decompiled s u) one other only = absurd only
  source_alike show file bytes a (bad_listing g) one other only = absurd other.0
  source_alike show file bytes a b one other only = absurd other

  put_story : (p : Product) (file : Text) (bytes : List ℕ) (w : World) (end : End) → Comes (put_product p file) bytes w end → IsMadeShown (puts Status.Done) p file bytes (shown end) ⊎ Refuses p file bytes end
  put_story p file bytes w (put text) is = inl (text, is, refl)
  put_story p file bytes w end is = inr is

  store_story : (p : Product) (file out : Text) (bytes : List ℕ) (w : World) (end : End) → Comes (store_product p file out) bytes w end → IsMadeShown stores p file bytes (shown end) ⊎ Refuses p file bytes end
  store_story p file out bytes w (stored text) is = inl (text, is, refl)
  store_story p file out bytes w end is = inr is

  -- no other end is the only one
  source_not_put : (file : Text) (bytes : List ℕ) (w : World) (end : End) → Comes (put_product Product.Source file) bytes w end → IsOnlyFor Product.Source end → Refuses Product.Source file bytes end
  source_not_put file bytes w (put text) is only = absurd only
  source_not_put file bytes w end is only = is

  source_not_stored : (file out : Text) (bytes : List ℕ) (w : World) (end : End) → Comes (store_product Product.Source file out) bytes w end → IsOnlyFor Product.Source end → Refuses Product.Source file bytes end
  source_not_stored file out bytes w (stored text) is only = absurd only
  source_not_stored file out bytes w end is only = is

  -- made sources: what is no text and no want of a source is the only end
  module _ (count : ℕ) (bytes : List ℕ) (w : World) where
    made_with : (b : End) (ending : Ending) (text : List ℕ) → HasRun made_name bytes w default_steps ending text → Comes (make_source count) bytes w b → IsOnlyMade b → shown_run ending text ≡ shown b
    made_with (failed why t) ending text ran other only = one_run made_name bytes w default_steps (shown_run ending text) (shown_run (Failed why) t) (ending, text, ran, refl) (Failed why, t, other, refl)
    made_with (unfinished n t) ending text ran other only = one_run made_name bytes w default_steps (shown_run ending text) (shown_run Going t) (ending, text, ran, refl) (Going, t, other.1, refl)
    made_with (put t) ending text ran other only = absurd only
    made_with (not_decompiled why t) ending text ran other only = absurd only
    made_with (stored t) ending text ran other only = absurd other
    made_with (bad_source f) ending text ran other only = absurd (sound_refused made_name bytes ran.chunk (bad_source f) ran.has ran.sound other)
    made_with (bad_chunk f) ending text ran other only = absurd (sound_refused made_name bytes ran.chunk (bad_chunk f) ran.has ran.sound other)
    made_with (rejected r) ending text ran other only = absurd (sound_refused made_name bytes ran.chunk (rejected r) ran.has ran.sound other)
    made_with (bad_listing f) ending text ran other only = absurd (sound_refused made_name bytes ran.chunk (bad_listing f) ran.has ran.sound other)

    not_ended : (b : End) (text : List ℕ) → HasRun made_name bytes w default_steps Ended text → Comes (make_source count) bytes w b → IsOnlyMade b → ⊥
    not_ended (failed why t) text ran other only = let same : puts Status.Done text ≡ puts Status.ScriptFailed t = made_with (failed why t) Ended text ran other only in cc
    not_ended (unfinished n t) text ran other only = let same : puts Status.Done text ≡ puts Status.Unfinished t = made_with (unfinished n t) Ended text ran other only in cc
    not_ended (put t) text ran other only = only
    not_ended (not_decompiled why t) text ran other only = only
    not_ended (stored t) text ran other only = other
    not_ended (bad_source f) text ran other only = sound_refused made_name bytes ran.chunk (bad_source f) ran.has ran.sound other
    not_ended (bad_chunk f) text ran other only = sound_refused made_name bytes ran.chunk (bad_chunk f) ran.has ran.sound other
    not_ended (rejected r) text ran other only = sound_refused made_name bytes ran.chunk (rejected r) ran.has ran.sound other
    not_ended (bad_listing f) text ran other only = sound_refused made_name bytes ran.chunk (bad_listing f) ran.has ran.sound other

    refused_with : (a b : End) → Refuses Product.Verdict made_name bytes a → Comes (make_source count) bytes w b → IsOnlyMade b → Alike a b
    refused_with a (failed why t) one other only = absurd (sound_refused made_name bytes other.chunk a other.has other.sound one)
    refused_with a (unfinished n t) one other only = absurd (sound_refused made_name bytes other.1.chunk a other.1.has other.1.sound one)
    refused_with a (put t) one other only = absurd only
    refused_with a (not_decompiled why t) one other only = absurd only
    refused_with a (stored t) one other only = absurd other
    refused_with a (bad_source f) one other only = refused_alike Product.Verdict made_name bytes a (bad_source f) one other
    refused_with a (bad_chunk f) one other only = refused_alike Product.Verdict made_name bytes a (bad_chunk f) one other
    refused_with a (rejected r) one other only = refused_alike Product.Verdict made_name bytes a (rejected r) one other
    refused_with a (bad_listing f) one other only = refused_alike Product.Verdict made_name bytes a (bad_listing f) one other

    made_source_alike : (a b : End) → Comes (make_source count) bytes w a → Comes (make_source count) bytes w b → IsOnlyMade b → Alike a b
    made_source_alike (failed why t) b one other only = made_with b (Failed why) t one other only
    made_source_alike (unfinished n t) b one other only = made_with b Going t one.1 other only
    made_source_alike (put t) b one other only = absurd (not_ended b one.output one.ran other only)
    made_source_alike (not_decompiled why t) b one other only = absurd (not_ended b t one.ran other only)
    made_source_alike (stored t) b one other only = absurd one
    made_source_alike (bad_source f) b one other only = refused_with (bad_source f) b one other only
    made_source_alike (bad_chunk f) b one other only = refused_with (bad_chunk f) b one other only
    made_source_alike (rejected r) b one other only = refused_with (rejected r) b one other only
    made_source_alike (bad_listing f) b one other only = refused_with (bad_listing f) b one other only

  pub alike : (job : Job) (bytes : List ℕ) (w : World) (a b : End) → Comes job bytes w a → Comes job bytes w b → IsOnlyEnd job b → Alike a b
  alike (run_file file steps) bytes w a b one other only =
      stories Product.Verdict file bytes (IsRunShown file bytes w steps) (one_run file bytes w steps)
      (λ s end g refused. sound_refused file bytes g.2.chunk end g.2.has g.2.sound refused)
      a b (run_story file bytes w steps a one) (run_story file bytes w steps b other)
  alike (put_product Product.Source file) bytes w a b one other only =
      source_alike (puts Status.Done) file bytes a b (put_story Product.Source file bytes w a one) (source_not_put file bytes w b other only) only
  alike (put_product p file) bytes w a b one other only =
      made_alike (puts Status.Done) p file bytes a b tt (put_story p file bytes w a one) (put_story p file bytes w b other)
  alike (store_product Product.Source file out) bytes w a b one other only =
      source_alike stores file bytes a b (store_story Product.Source file out bytes w a one) (source_not_stored file out bytes w b other only) only
  alike (store_product p file out) bytes w a b one other only =
      made_alike stores p file bytes a b tt (store_story p file out bytes w a one) (store_story p file out bytes w b other)
  alike (make_source count) bytes w a b one other only = made_source_alike count bytes w a b one other only

  -- a chunk of which a source is wanted is given one, or none
  pub decompiled_at : (file out : Text) (bytes : List ℕ) (w : World) (chunk : Chunk) (end : End) → IsChunkOf bytes chunk → Comes (store_product Product.Source file out) bytes w end → (status_at end ≡ Status.Done) ⊎ (status_at end ≡ Status.NotDecompiled)
  decompiled_at file out bytes w chunk (stored text) of comes = inl refl
  decompiled_at file out bytes w chunk (not_decompiled why text) of comes = inr refl
  decompiled_at file out bytes w chunk (bad_source fault) of comes = absurd comes.0
  decompiled_at file out bytes w chunk (bad_chunk fault) of comes = absurd (laws.chunk_or_fault bytes chunk fault of comes.1)
  decompiled_at file out bytes w chunk (rejected r) of comes = absurd comes.wants
  decompiled_at file out bytes w chunk (bad_listing fault) of comes = absurd comes.0
  decompiled_at file out bytes w chunk end of comes = absurd comes

  -- and a recoverable one is given one
  pub recoverable_at : (file out : Text) (bytes : List ℕ) (w : World) (chunk : Chunk) (end : End) → IsChunkOf bytes chunk → IsRecoverable chunk → Comes (store_product Product.Source file out) bytes w end → status_at end ≡ Status.Done
  recoverable_at file out bytes w chunk (stored text) of is comes = refl
  recoverable_at file out bytes w chunk (not_decompiled why text) of is comes =
      absurd (comes.0.refused.1 (subst IsRecoverable (laws.spelled_are_one bytes chunk comes.0.chunk of comes.0.of) is))
  recoverable_at file out bytes w chunk (bad_source fault) of is comes = absurd comes.0
  recoverable_at file out bytes w chunk (bad_chunk fault) of is comes = absurd (laws.chunk_or_fault bytes chunk fault of comes.1)
  recoverable_at file out bytes w chunk (rejected r) of is comes = absurd comes.wants
  recoverable_at file out bytes w chunk (bad_listing fault) of is comes = absurd comes.0
  recoverable_at file out bytes w chunk end of is comes = absurd comes

  -- what is refused is not run
  run_refused : (file : Text) (steps : ℕ) (bytes : List ℕ) (w : World) (end : End) → Comes (run_file file steps) bytes w end → HasNoOutput end → Refuses Product.Verdict file bytes end
  run_refused file steps bytes w (bad_source fault) comes none = comes
  run_refused file steps bytes w (bad_chunk fault) comes none = comes
  run_refused file steps bytes w (rejected r) comes none = comes
  run_refused file steps bytes w (bad_listing fault) comes none = comes
  run_refused file steps bytes w end comes none = absurd none

  made_refused : (count : ℕ) (bytes : List ℕ) (w : World) (end : End) → Comes (make_source count) bytes w end → HasNoOutput end → Refuses Product.Verdict made_name bytes end
  made_refused count bytes w (bad_source fault) comes none = comes
  made_refused count bytes w (bad_chunk fault) comes none = comes
  made_refused count bytes w (rejected r) comes none = comes
  made_refused count bytes w (bad_listing fault) comes none = comes
  made_refused count bytes w end comes none = absurd none

  pub refused_not_run : (job : Job) (bytes : List ℕ) (w : World) (text : List ℕ) (end : End) → IsRun (Some job) → MayPut job bytes w text → Comes job bytes w end → HasNoOutput end → ⊥
  refused_not_run (run_file file steps) bytes w text end runs may comes none = sound_refused file bytes may.chunk end may.has may.sound (run_refused file steps bytes w end comes none)
  refused_not_run (make_source count) bytes w text end runs (inl may) comes none = sound_refused made_name bytes may.chunk end may.has may.sound (made_refused count bytes w end comes none)
  refused_not_run (make_source count) bytes w text end runs (inr made) comes none = sound_refused made_name bytes made.ran.chunk end made.ran.has made.ran.sound (made_refused count bytes w end comes none)
  refused_not_run (put_product p file) bytes w text end runs may comes none = runs
  refused_not_run (store_product p file out) bytes w text end runs may comes none = runs

-- of a run that came so far its output may be put
pub run_put : (file : Text) (bytes : List ℕ) (w : World) (steps : ℕ) (ending : Ending) (text : List ℕ) → HasRun file bytes w steps ending text → HasPut file bytes (hosts_first w) text
run_put file bytes w steps ending text has = record {
  chunk = has.chunk;
  has = has.has;
  sound = has.sound;
  replies = replies_of w;
  steps = steps;
  ending = ending;
  events = has.events;
  comes = has.comes;
  is = has.is;
}

pub put_may : (job : Job) (bytes : List ℕ) (w : World) (text : List ℕ) → Comes job bytes w (put text) → MayPut job bytes w text
put_may (run_file file steps) bytes w text comes = run_put file bytes w steps Ended text comes
put_may (put_product p file) bytes w text comes = comes
put_may (store_product p file out) bytes w text comes = comes
put_may (make_source count) bytes w text comes = inr comes

pub failed_may : (job : Job) (bytes : List ℕ) (w : World) (why text : List ℕ) → Comes job bytes w (failed why text) → MayPut job bytes w text
failed_may (run_file file steps) bytes w why text comes = run_put file bytes w steps (Failed why) text comes
failed_may (put_product p file) bytes w why text comes = absurd comes
failed_may (store_product p file out) bytes w why text comes = absurd comes
failed_may (make_source count) bytes w why text comes = inl (run_put made_name bytes w default_steps (Failed why) text comes)

pub unfinished_may : (job : Job) (bytes : List ℕ) (w : World) (n : ℕ) (text : List ℕ) → Comes job bytes w (unfinished n text) → MayPut job bytes w text
unfinished_may (run_file file steps) bytes w n text comes = run_put file bytes w steps Going text comes.1
unfinished_may (put_product p file) bytes w n text comes = absurd comes
unfinished_may (store_product p file out) bytes w n text comes = absurd comes
unfinished_may (make_source count) bytes w n text comes = inl (run_put made_name bytes w default_steps Going text comes.1)

-- what is given no source has put nothing, or the output of its run
pub refused_put : (job : Job) (bytes : List ℕ) (w : World) (why : Refused) (text : List ℕ) → Comes job bytes w (not_decompiled why text) → (text ≡ []) ⊎ MayPut job bytes w text
refused_put (run_file file steps) bytes w why text comes = inl comes.1
refused_put (put_product p file) bytes w why text comes = inl comes.1
refused_put (store_product p file out) bytes w why text comes = inl comes.1
refused_put (make_source count) bytes w why text comes = inr (inl (run_put made_name bytes w default_steps Ended text comes.ran))

-- so they have one status, and leave the same outside
abbrev status_shown : Shown → Status
status_shown (stores text) = Status.Done
status_shown (puts status text) = status
status_shown (refuses status) = status

status_is : (end : End) → status_shown (shown end) ≡ status_at end
status_is (stored text) = refl
status_is (put text) = refl
status_is (failed why text) = refl
status_is (unfinished steps text) = refl
status_is (bad_source fault) = refl
status_is (bad_chunk fault) = refl
status_is (rejected rejection) = refl
status_is (not_decompiled refused text) = refl
status_is (bad_listing fault) = refl

pub alike_status : (a b : End) → Alike a b → status_at a ≡ status_at b
alike_status a b same = sym (status_is a) ∙ ap status_shown same ∙ status_is b

-- nor is anything put or stored at one of them where it is not at the other
abbrev IsRefusedShown : Shown → Type 0
IsRefusedShown (stores text) = ⊥
IsRefusedShown (puts status text) = ⊥
IsRefusedShown (refuses status) = Unit {0}

none_shown : (end : End) → HasNoOutput end → IsRefusedShown (shown end)
none_shown (bad_source fault) none = tt
none_shown (bad_chunk fault) none = tt
none_shown (rejected rejection) none = tt
none_shown (bad_listing fault) none = tt
none_shown end none = absurd none

shown_none : (end : End) → IsRefusedShown (shown end) → HasNoOutput end
shown_none (bad_source fault) none = tt
shown_none (bad_chunk fault) none = tt
shown_none (rejected rejection) none = tt
shown_none (bad_listing fault) none = tt
shown_none end none = absurd none

pub alike_none : (a b : End) → Alike a b → HasNoOutput b → HasNoOutput a
alike_none a b same none = shown_none a (subst IsRefusedShown (sym same) (none_shown b none))

abbrev LeavesShown : Job → Shown → Outside → Outside → Type 0
LeavesShown job (stores text) old new = Leaves job (stored text) old new
LeavesShown job (puts status text) old new = Leaves job (put text) old new
LeavesShown job (refuses status) old new = (new.contents ≡ old.contents) × Takes old.taken new.taken []

leaves_shown : (job : Job) (end : End) (old new : Outside) → Leaves job end old new → LeavesShown job (shown end) old new
leaves_shown job (stored text) old new l = l
leaves_shown job (put text) old new l = l
leaves_shown job (failed why text) old new l = l
leaves_shown job (unfinished steps text) old new l = l
leaves_shown job (bad_source fault) old new l = l
leaves_shown job (bad_chunk fault) old new l = l
leaves_shown job (rejected rejection) old new l = l
leaves_shown job (not_decompiled refused text) old new l = l
leaves_shown job (bad_listing fault) old new l = l

shown_leaves : (job : Job) (end : End) (old new : Outside) → LeavesShown job (shown end) old new → Leaves job end old new
shown_leaves job (stored text) old new l = l
shown_leaves job (put text) old new l = l
shown_leaves job (failed why text) old new l = l
shown_leaves job (unfinished steps text) old new l = l
shown_leaves job (bad_source fault) old new l = l
shown_leaves job (bad_chunk fault) old new l = l
shown_leaves job (rejected rejection) old new l = l
shown_leaves job (not_decompiled refused text) old new l = l
shown_leaves job (bad_listing fault) old new l = l

pub alike_leaves : (job : Job) (a b : End) (old new : Outside) → Alike a b → Leaves job a old new → Leaves job b old new
alike_leaves job a b old new same l = shown_leaves job b old new (subst (λ s. LeavesShown job s old new) same (leaves_shown job a old new l))
