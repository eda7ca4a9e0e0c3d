-- The globals of accepted source are told as it mentions them.
use Rattle.std.proofs.Common.{◌≡◌, ◌≤◌, ℕ, ◌+◌, true, false, List, [], ◌∷◌, ◌++◌, inl, inr, refl, ap, ap₂, subst, ◌∙◌}
use Rattle.std.specs.Prelude.{Contains, ◌↔◌}
use Rattle.std.specs.List.{flat_map}
use Rattle.lua_num.specs.Bytes.{Text}
use Rattle.lua_tree.specs.Syntax.{Source}
use Rattle.proto.specs.Chunk.{Chunk}
use Rattle.chunk_io.specs.Items.{is_chunk}
use Rattle.scheme.specs.Accepts.{Accepts}
use Rattle.scheme.specs.Scheme.{scheme}
use Rattle.global_use.specs.Uses.{gets, sets, use_line, IsUseText}
use Rattle.source_globals.specs.Named.{source_gets, source_sets}
use Rattle.suite_io.specs.Taken.{Takes}
use Rattle.suite.specs.declared.product.Product.{Product}
use Rattle.suite.specs.declared.status.Status.{Status}
use Rattle.suite.specs.Words.{put_product}
use Rattle.suite.specs.Worlds.{World}
use Rattle.suite.specs.Seen.{Outside}
use Rattle.suite.specs.Jobs.{End, stored, put, failed, unfinished, bad_source, bad_chunk, rejected, not_decompiled, bad_listing, HasChunk, source_name, Comes}
use Rattle.suite.specs.Causes.{status_at, Leaves}
use Rattle.suite.specs.Meant.{AreMentioned}
use Rattle.suite.proofs.Facts.{Laws}

-- lines that are alike one by one are alike
same_lines : (f g : Text → Text) → ((name : Text) → f name ≡ g name) → (names : List Text) → flat_map f names ≡ flat_map g names
same_lines f g same [] = refl
same_lines f g same (name ∷ names) = ap₂ (λ (a b : Text). a ++ b) (same name) (same_lines f g same names)

module _ (laws : Laws) (file : Text) (bytes : List ℕ) (source : Source) (as_source : is_chunk bytes ≡ false) (accepts : Accepts bytes source) where
  its_chunk : (chunk : Chunk) → HasChunk file bytes chunk → chunk ≡ scheme source (source_name file)
  its_chunk chunk (inl spelled) = let yes : is_chunk bytes ≡ true = spelled.0 in absurd (cc)
  its_chunk chunk (inr compiled) = laws.compiled_are_one (source_name file) bytes chunk (scheme source (source_name file)) compiled.1 (record { source = source; accepts = accepts; is = refl })

  gets_alike : (chunk : Chunk) → HasChunk file bytes chunk → (name : Text) → gets chunk name ≡ source_gets source name
  gets_alike chunk has name = ap (λ (c : Chunk). gets c name) (its_chunk chunk has) ∙ (laws.globals_of_source bytes source (source_name file) accepts name).0

  sets_alike : (chunk : Chunk) → HasChunk file bytes chunk → (name : Text) → sets chunk name ≡ source_sets source name
  sets_alike chunk has name = ap (λ (c : Chunk). sets c name) (its_chunk chunk has) ∙ (laws.globals_of_source bytes source (source_name file) accepts name).1

  told_as_mentioned : (chunk : Chunk) (text : List ℕ) → HasChunk file bytes chunk → IsUseText chunk text → AreMentioned source text
  told_as_mentioned chunk text has told = record {
    names = told.names;
    ordered = told.are_used.ordered;
    mentioned = λ name. subst (λ (n : ℕ). Contains told.names name ↔ (1 ≤ n)) (ap₂ (λ (a b : ℕ). a + b) (gets_alike chunk has name) (sets_alike chunk has name)) (told.are_used.used name);
    lines = told.lines ∙ same_lines (λ name. use_line name (gets chunk name) (sets chunk name)) (λ name. use_line name (source_gets source name) (source_sets source name)) (λ name. ap₂ (use_line name) (gets_alike chunk has name) (sets_alike chunk has name)) told.names;
  }

  -- at Done the text that was put is that
  pub are_mentioned : (w : World) (old new : Outside) (end : End) → Comes (put_product Product.Globals file) bytes w end → status_at end ≡ Status.Done → Leaves (put_product Product.Globals file) end old new → (text : List ℕ) × AreMentioned source text × Takes old.taken new.taken text
  are_mentioned w old new (put text) comes e leaves = (text, told_as_mentioned comes.chunk text comes.has comes.is.1, leaves.1)
  are_mentioned w old new (stored text) comes e leaves = absurd comes
  are_mentioned w old new (failed why text) comes e leaves = absurd comes
  are_mentioned w old new (unfinished n text) comes e leaves = absurd comes
  are_mentioned w old new (bad_source fault) comes e leaves = absurd (cc)
  are_mentioned w old new (bad_chunk fault) comes e leaves = absurd (cc)
  are_mentioned w old new (rejected r) comes e leaves = absurd (cc)
  are_mentioned w old new (not_decompiled r text) comes e leaves = absurd (cc)
  are_mentioned w old new (bad_listing fault) comes e leaves = absurd (cc)
