-- What is refused, and for which memory ran out, is carried out by putting and storing nothing.
use Rattle.std.proofs.Common.{◌≡◌, ◌≢◌, ℕ, Bool, true, false, List, [], ◌∷◌, ◌++◌, append-nil, Option, Some, Err, IfSome, inl, inr, refl, sym, ap, ap₂, subst, ◌∙◌}
use Rattle.std.specs.FinMap.{get}
use Rattle.lua_num.specs.Bytes.{Text}
use Rattle.proto.specs.Chunk.{Chunk}
use Rattle.proto.specs.View.{view_proto}
use Rattle.proto.specs.declared.proto.Proto.{Proto}
use Rattle.rules.specs.Sound.{Sound}
use Rattle.global_use.specs.Uses.{IsUseText}
use Rattle.chunk_io.specs.declared.fault.ChunkFault.{ChunkFault}
use Rattle.chunk_io.specs.declared.layout.Layout.{Layout}
use Rattle.chunk_io.specs.Items.{IsChunkOf, is_chunk}
use Rattle.front.specs.declared.fault.Fault.{Fault}
use Rattle.decompile.specs.declared.refused.Refused.{Refused}
use Rattle.asm_text.specs.declared.fault.ListFault.{ListFault}
use Rattle.asm_text.specs.Faults.{StopsBy}
use Rattle.decompile.specs.Recoverable.{IsRecoverable, IsGiven}
use Rattle.decompile.specs.Sources.{IsRefusedBy}
use Rattle.suite_io.specs.declared.calls.FileCall.{FileCall}
use Rattle.suite_io.specs.Calls.{call_of}
use Rattle.suite_io.specs.Contents.{Contents}
use Rattle.suite_io.proofs.TakenPieces.{takes_none}
use Rattle.suite.specs.declared.outcome.Outcome.{Outcome}
use Rattle.suite.specs.declared.product.Product.{Product}
use Rattle.suite.specs.declared.rejection.Rejection.{Rejection}
use Rattle.suite.specs.Words.{Job, run_file, put_product, store_product, make_source, made_name, file_of}
use Rattle.made_source.specs.Made.{made}
use Rattle.suite.specs.Worlds.{World, Unasked}
use Rattle.suite.specs.Seen.{Outside, outside}
use Rattle.front.specs.Laws.{CompiledIsSound}
use Rattle.suite.specs.Jobs.{put, stored, bad_source, bad_chunk, rejected, not_decompiled, bad_listing, source_name, HasChunk, Makes, IsTold, IsUnfound, Refuses, Comes}
use Rattle.suite.specs.Trying.{IsTried}
use Rattle.suite.specs.Refusing.{IsBadSource, IsBadChunk, HasNone, IsRefused, IsRefusal}
use Rattle.suite.proofs.Facts.{SoundOrRejected}
use Rattle.suite.specs.Work.{Nothing, Does, DoesAlone, PutsText, StoresText, Works, HasBytes, Fetches, first_calls, fetched}

nothing : (o : Outside) → Nothing o o
nothing o = (record { contents = refl; calls = refl }, takes_none o.taken)

-- a job for which a file is refused as for a text
module _ (job : Job) (p : Product) (file : Text) (bytes : List ℕ) (w : World) (o : Outside)
    (source : (fault : Fault) → Refuses p file bytes (bad_source fault) → Comes job bytes w (bad_source fault))
    (chunk : (fault : ChunkFault) → Refuses p file bytes (bad_chunk fault) → Comes job bytes w (bad_chunk fault))
    (reject : (r : Rejection) → Refuses p file bytes (rejected r) → Comes job bytes w (rejected r))
    (given_none : (r : Refused) → Refuses p file bytes (not_decompiled r []) → Comes job bytes w (not_decompiled r []))
    (listed_none : (fault : ListFault) → Refuses p file bytes (bad_listing fault) → Comes job bytes w (bad_listing fault)) where
  refused_does : (outcome : Outcome) → Unasked w → IsRefusal p file bytes outcome → Does job bytes w outcome o o
  refused_does (Outcome.BadSource fault) unasked is = inl (record { end = bad_source fault; comes = source fault is; carried = (refl, nothing o); asks = inr unasked })
  refused_does (Outcome.BadChunk fault) unasked is = inl (record { end = bad_chunk fault; comes = chunk fault is; carried = (refl, nothing o); asks = inr unasked })
  refused_does (Outcome.Rejected r) unasked is = inl (record { end = rejected r; comes = reject r is; carried = (refl, nothing o); asks = inr unasked })
  refused_does (Outcome.NotDecompiled r) unasked is = inl (record { end = not_decompiled r []; comes = given_none r is; carried = (refl, (nothing o).0, (nothing o).1); asks = inr unasked })
  refused_does (Outcome.BadListing fault) unasked is = inl (record { end = bad_listing fault; comes = listed_none fault is; carried = (refl, nothing o); asks = inr unasked })
  refused_does Outcome.OutOfMemory unasked is = inr (inr (refl, nothing o, unasked))
  refused_does outcome unasked is = absurd is

pub run_refused : (file : Text) (steps : ℕ) (bytes : List ℕ) (w : World) (outcome : Outcome) (o : Outside) → Unasked w → IsRefusal Product.Verdict file bytes outcome → Does (run_file file steps) bytes w outcome o o
run_refused file steps bytes w outcome o = refused_does (run_file file steps) Product.Verdict file bytes w o (λ f r. r) (λ f r. r) (λ f r. r) (λ f r. r) (λ f r. r) outcome

pub made_refused : (count : ℕ) (bytes : List ℕ) (w : World) (outcome : Outcome) (o : Outside) → Unasked w → IsRefusal Product.Verdict made_name bytes outcome → Does (make_source count) bytes w outcome o o
made_refused count bytes w outcome o = refused_does (make_source count) Product.Verdict made_name bytes w o (λ f r. r) (λ f r. r) (λ f r. r) (λ f r. absurd r.0.wants) (λ f r. r) outcome

pub put_refused : (p : Product) (file : Text) (bytes : List ℕ) (outcome : Outcome) (o : Outside) → IsRefusal p file bytes outcome → DoesAlone (put_product p file) bytes outcome o o
put_refused p file bytes outcome o is = λ w unasked. refused_does (put_product p file) p file bytes w o (λ f r. r) (λ f r. r) (λ f r. r) (λ f r. r) (λ f r. r) outcome unasked is

pub store_refused : (p : Product) (file out : Text) (bytes : List ℕ) (outcome : Outcome) (o : Outside) → IsRefusal p file bytes outcome → DoesAlone (store_product p file out) bytes outcome o o
store_refused p file out bytes outcome o is = λ w unasked. refused_does (store_product p file out) p file bytes w o (λ f r. r) (λ f r. r) (λ f r. r) (λ f r. r) (λ f r. r) outcome unasked is

-- a text that was made is put or stored
pub put_does : (p : Product) (file : Text) (bytes text : List ℕ) (outcome : Outcome) (old new : Outside) → Makes p file bytes text → PutsText text outcome old new → DoesAlone (put_product p file) bytes outcome old new
put_does p file bytes text outcome old new makes puts = λ w unasked. inl (record { end = put text; comes = makes; carried = puts; asks = inr unasked })

pub store_does : (p : Product) (file out : Text) (bytes text : List ℕ) (outcome : Outcome) (old new : Outside) → Makes p file bytes text → StoresText out text outcome old new → DoesAlone (store_product p file out) bytes outcome old new
store_does p file out bytes text outcome old new makes stores = λ w unasked. inl (record { end = stored text; comes = makes; carried = stores; asks = inr unasked })

-- a file without a chunk is refused for each text
pub none_listed : (file : Text) (bytes : List ℕ) (outcome : Outcome) → HasNone bytes outcome → IsRefusal Product.Listing file bytes outcome
none_listed file bytes (Outcome.BadSource fault) none = none
none_listed file bytes (Outcome.BadChunk fault) none = none
none_listed file bytes Outcome.OutOfMemory none = tt
none_listed file bytes outcome none = absurd none

pub none_verified : (file : Text) (bytes : List ℕ) (outcome : Outcome) → HasNone bytes outcome → IsRefusal Product.Verdict file bytes outcome
none_verified file bytes (Outcome.BadSource fault) none = none
none_verified file bytes (Outcome.BadChunk fault) none = none
none_verified file bytes Outcome.OutOfMemory none = tt
none_verified file bytes outcome none = absurd none

pub none_used : (file : Text) (bytes : List ℕ) (outcome : Outcome) → HasNone bytes outcome → IsRefusal Product.Globals file bytes outcome
none_used file bytes (Outcome.BadSource fault) none = none
none_used file bytes (Outcome.BadChunk fault) none = none
none_used file bytes Outcome.OutOfMemory none = tt
none_used file bytes outcome none = absurd none

pub none_spelled : (file : Text) (strip : Bool) (layout : Layout) (bytes : List ℕ) (outcome : Outcome) → IsBadSource bytes outcome → IsRefusal (Product.Spelling strip layout) file bytes outcome
none_spelled file strip layout bytes (Outcome.BadSource fault) bad = (tt, bad)
none_spelled file strip layout bytes Outcome.OutOfMemory bad = tt
none_spelled file strip layout bytes outcome bad = absurd bad

-- a file that is no chunk has none where it is no good source
pub bad_none : (bytes : List ℕ) (outcome : Outcome) → is_chunk bytes ≡ false → IsBadSource bytes outcome → HasNone bytes outcome
bad_none bytes (Outcome.BadSource fault) other bad = (other, bad)
bad_none bytes Outcome.OutOfMemory other bad = tt
bad_none bytes outcome other bad = absurd bad

-- a file that is a chunk has none where it spells none
pub bad_spelling : (bytes : List ℕ) (outcome : Outcome) → is_chunk bytes ≡ true → IsBadChunk bytes outcome → HasNone bytes outcome
bad_spelling bytes (Outcome.BadChunk fault) begins bad = (begins, bad)
bad_spelling bytes Outcome.OutOfMemory begins bad = tt
bad_spelling bytes outcome begins bad = absurd bad

-- a file that spells no chunk is given no source, nor one whose chunk is refused
pub none_decompiled : (file : Text) (bytes : List ℕ) (outcome : Outcome) → IsBadChunk bytes outcome → IsRefusal Product.Source file bytes outcome
none_decompiled file bytes (Outcome.BadChunk fault) bad = (tt, bad)
none_decompiled file bytes Outcome.OutOfMemory bad = tt
none_decompiled file bytes outcome bad = absurd bad

is_told : (r : Refused) → r ≢ Refused.OutOfMemory → IsTold r
is_told Refused.OutOfMemory other = other refl
is_told r other = tt

not_given : (r : Refused) → r ≢ Refused.OutOfMemory → IsGiven (Err r) → ⊥
not_given Refused.OutOfMemory other given = other refl
not_given r other given = given

unfound : (chunk : Chunk) (r : Refused) → r ≢ Refused.OutOfMemory → IsRefusedBy chunk r → (IsRecoverable chunk → IsGiven (Err r)) → IsUnfound chunk r
unfound chunk r other refused given = (refused, λ is. not_given r other (given is))

pub not_decompiled_for : (file : Text) (bytes : List ℕ) (chunk : Chunk) (r : Refused) → r ≢ Refused.OutOfMemory → IsChunkOf bytes chunk → IsRefusedBy chunk r → (IsRecoverable chunk → IsGiven (Err r)) → IsRefusal Product.Source file bytes (Outcome.NotDecompiled r)
not_decompiled_for file bytes chunk r other of refused given = (record { wants = tt; told = is_told r other; chunk = chunk; of = of; refused = unfound chunk r other refused given }, refl)

-- nothing is put where no source is found
pub tried_in_vain : (bytes : List ℕ) (chunk : Chunk) (r : Refused) (taken : Option (List ℕ)) (faults : ℕ) → r ≢ Refused.OutOfMemory → IsRefusedBy chunk r → (IsRecoverable chunk → IsGiven (Err r)) → IsTried bytes chunk (Outcome.NotDecompiled r) taken taken faults faults
tried_in_vain bytes chunk r taken faults other refused given = (is_told r other, unfound chunk r other refused given, takes_none taken)

-- what is no listing is not assembled
pub not_assembled : (file : Text) (bytes : List ℕ) (fault : ListFault) → fault ≢ ListFault.OutOfMemory → StopsBy bytes fault → IsRefusal Product.Assembly file bytes (Outcome.BadListing fault)
not_assembled file bytes ListFault.OutOfMemory other stops = absurd (other refl)
not_assembled file bytes fault other stops = (tt, stops)

-- nor has one a good verdict whose chunk is rejected, which is none of a source
pub not_sound : CompiledIsSound → SoundOrRejected → (file : Text) (bytes : List ℕ) (chunk : Chunk) (outcome : Outcome) → HasChunk file bytes chunk → IsRefused chunk outcome → IsRefusal Product.Verdict file bytes outcome
not_sound sound or file bytes chunk (Outcome.Rejected r) (inl spelled) is = record { wants = tt; chunk = chunk; spelled = spelled.0; of = spelled.1; rejected = is }
not_sound sound or file bytes chunk (Outcome.Rejected r) (inr compiled) is = absurd (or chunk r.path r.pc r.rule (sound (source_name file) bytes chunk compiled.1) is)
not_sound sound or file bytes chunk Outcome.OutOfMemory has is = tt
not_sound sound or file bytes chunk outcome has is = absurd is

-- nor are its globals told
pub not_sound_used : CompiledIsSound → SoundOrRejected → (file : Text) (bytes : List ℕ) (chunk : Chunk) (outcome : Outcome) → HasChunk file bytes chunk → IsRefused chunk outcome → IsRefusal Product.Globals file bytes outcome
not_sound_used sound or file bytes chunk (Outcome.Rejected r) (inl spelled) is = record { wants = tt; chunk = chunk; spelled = spelled.0; of = spelled.1; rejected = is }
not_sound_used sound or file bytes chunk (Outcome.Rejected r) (inr compiled) is = absurd (or chunk r.path r.pc r.rule (sound (source_name file) bytes chunk compiled.1) is)
not_sound_used sound or file bytes chunk Outcome.OutOfMemory has is = tt
not_sound_used sound or file bytes chunk outcome has is = absurd is

-- what tells the globals of a sound chunk is made of a file that has it
pub globals_made : (file : Text) (bytes : List ℕ) (p q r : Proto) (text : List ℕ) → r ≡ q → q ≡ p → HasChunk file bytes (view_proto p) → Sound (view_proto q) → IsUseText (view_proto r) text → Makes Product.Globals file bytes text
globals_made file bytes p q r text same is has sound tells = record {
  chunk = view_proto r;
  has = subst (λ (x : Proto). HasChunk file bytes (view_proto x)) (sym (same ∙ is)) has;
  is = ((λ spelled. subst (λ (x : Proto). Sound (view_proto x)) (sym same) sound), tells);
}

-- the first calls of a job that fetches a file, and what is told of that file
one_fetch : (job : Job) (fails : Bool) → Fetches job → first_calls job fails ≡ call_of false (file_of job) fails ∷ []
one_fetch (run_file file steps) fails f = refl
one_fetch (put_product p file) fails f = refl
one_fetch (store_product p file out) fails f = refl
one_fetch (make_source count) fails f = absurd f

has_fetched : (job : Job) (contents : Option Contents) (bytes : List ℕ) → Fetches job → IfSome contents (λ held. get held (file_of job) ≡ Some bytes) → HasBytes contents job bytes
has_fetched (run_file file steps) contents bytes f told = told
has_fetched (put_product p file) contents bytes f told = told
has_fetched (store_product p file out) contents bytes f told = told
has_fetched (make_source count) contents bytes f told = absurd f

-- what stands outside behind a fetch
behind_fetch : (job : Job) (name : Text) (fails : Bool) (contents then : Option Contents) (calls later : List FileCall) (taken : Option (List ℕ)) (faults : ℕ) → Fetches job → name ≡ file_of job → then ≡ contents → later ≡ calls ++ call_of false name fails ∷ [] → outside then later taken faults ≡ fetched job fails (outside contents calls taken faults)
behind_fetch job name fails contents then calls later taken faults f named kept listed =
    let first = one_fetch job fails f in
    let those : later ≡ calls ++ first_calls job fails = listed ∙ ap (λ (n : Text). calls ++ call_of false n fails ∷ []) named ∙ ap (λ (cs : List FileCall). calls ++ cs) (sym first) in
    ap₂ (λ (c : Option Contents) (l : List FileCall). outside c l taken faults) kept those

-- a command comes to what is done with the bytes that were fetched
pub fetched_does : (job : Job) (w : World) (name : Text) (bytes given : List ℕ) (outcome : Outcome) (contents then : Option Contents) (calls later : List FileCall) (taken : Option (List ℕ)) (faults : ℕ) (new : Outside) → Fetches job → name ≡ file_of job → given ≡ bytes → then ≡ contents → later ≡ calls ++ call_of false name false ∷ [] → IfSome contents (λ held. get held name ≡ Some bytes) → Does job given w outcome (outside then later taken faults) new → Works (Some job) w outcome (outside contents calls taken faults) new
fetched_does job w name bytes given outcome contents then calls later taken faults new f named same kept listed told does =
    let here = behind_fetch job name false contents then calls later taken faults f named kept listed in
    inr (inr (record {
      bytes = bytes;
      told = has_fetched job contents bytes f (subst (λ (n : Text). IfSome contents (λ held. get held n ≡ Some bytes)) named told);
      does = subst (λ (o : Outside). Does job bytes w outcome o new) here (subst (λ (b : List ℕ). Does job b w outcome (outside then later taken faults) new) same does);
    }))

-- or to a fault of reading
pub fetch_fails : (job : Job) (w : World) (name : Text) (contents then : Option Contents) (calls later : List FileCall) (taken : Option (List ℕ)) (faults : ℕ) → Unasked w → Fetches job → name ≡ file_of job → then ≡ contents → later ≡ calls ++ call_of false name true ∷ [] → Works (Some job) w Outcome.ReadFault (outside contents calls taken faults) (outside then later taken faults)
fetch_fails job w name contents then calls later taken faults unasked f named kept listed =
    inl (refl, behind_fetch job name true contents then calls later taken faults f named kept listed, unasked, f)

-- or to what is done with a made source
pub made_does : (job : Job) (count : ℕ) (w : World) (bytes : List ℕ) (outcome : Outcome) (contents : Option Contents) (calls : List FileCall) (taken : Option (List ℕ)) (faults : ℕ) (new : Outside) → job ≡ make_source count → bytes ≡ made count → Does job bytes w outcome (outside contents calls taken faults) new → Works (Some job) w outcome (outside contents calls taken faults) new
made_does job count w bytes outcome contents calls taken faults new is of does =
    subst (λ (j : Job). Works (Some j) w outcome (outside contents calls taken faults) new) (sym is)
    (inr (inr (record {
      bytes = bytes;
      told = of;
      does =
          subst (λ (cs : List FileCall). Does (make_source count) bytes w outcome (outside contents cs taken faults) new) (sym (append-nil calls))
          (subst (λ (j : Job). Does j bytes w outcome (outside contents calls taken faults) new) is does);
    })))
