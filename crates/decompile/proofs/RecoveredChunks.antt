-- What is recovered of a recoverable chunk is a tree of its source; and nothing is lost but for want of memory.
use Rattle.std.proofs.Common.{◌≡◌, ◌∙◌, ℕ, List, Some, Err, refl, sym, ap, subst, inl, inr}
use Rattle.std.specs.Prelude.{IsSome, ◌⊎◌}
use Rattle.std.proofs.lemmas.Bool.{false≢true}
use Rattle.lua_num.specs.Bytes.{Text}
use Rattle.lua_tree.specs.Scoping.{Scoped}
use Rattle.lua_tree.specs.Syntax.{Source}
use Rattle.lua_tree.specs.WellFormed.{WellFormed}
use Rattle.proto.specs.Short.{IsShort}
use Rattle.proto.specs.Chunk.{Chunk, function, own, each, no_lines, SameButLines}
use Rattle.recover_flow.specs.Debug.{LacksDebug}
use Rattle.recover_flow.specs.Recovering.{IsLostOnlyWhere, IsSourceFound, IsSourceless}
use Rattle.recover_flow.specs.declared.lost.Lost.{Lost}
use Rattle.recovers.specs.FlowSources.{IsFlowChunk}
use Rattle.recovers.specs.PlainSources.{PlainSourcesAreFlow}
use Rattle.recovers.specs.Found.{FlatSourcesAreFlow, FlowSourcesAreRecovered, IsSourceRecovered}
use Rattle.scheme.specs.Scheme.{scheme, Fits}
use Rattle.decompile.specs.Recoverable.{IsFlatChunk, IsGiven, IsRecoverable}
use Rattle.decompile.specs.Given.{IsTreeFor}
use Rattle.decompile.specs.Refusals.{refused_by}

-- the name of a chunk's source stays where its lines are left out
source_stays : (c : Chunk) → (own (each no_lines c)).source ≡ (own c).source
source_stays (function f inner) = refl

-- so a chunk tells the name under which a source has it, lines aside
named_as : (chunk : Chunk) (source : Source) (name : Text) → SameButLines chunk (scheme source name) → (own chunk).source ≡ Some name
named_as chunk source name same = sym (source_stays chunk) ∙ ap (λ c. (own c).source) same ∙ source_stays (scheme source name)

-- ---- a chunk whose source is recovered

record IsKnown (chunk : Chunk) : Type 0 where
  source : Source
  name : Text
  scoped : Scoped source
  fits : Fits source
  same : SameButLines chunk (scheme source name)
  recovered : IsSourceRecovered source chunk

module _ {chunk : Chunk} (known : IsKnown chunk) where
  -- a tree that is found is one of the chunk
  tree_given : (tree : Source) → WellFormed tree → IsSourceFound chunk tree → IsTreeFor chunk tree
  tree_given tree formed found =
      let alike = known.recovered.alike tree found in
      record {
        formed = formed;
        scoped = alike.scoped known.scoped;
        fits = alike.fits known.fits;
        name = known.name;
        named = named_as chunk known.source known.name known.same;
        same = known.same ∙ alike.same known.name;
      }

  lacks_nothing : (path : List ℕ) → LacksDebug chunk path → ⊥
  lacks_nothing path (inl (unnamed, top)) = false≢true (subst IsSome unnamed known.recovered.named)
  lacks_nothing path (inr (named, untold)) = known.recovered.told path untold

  has_source : IsSourceless chunk → ⊥
  has_source (inl (lost, shortest)) = known.recovered.found shortest
  has_source (inr (tree, found, misformed)) = misformed (known.recovered.formed tree found)

  only_memory : (lost : Lost) → IsLostOnlyWhere chunk lost → IsGiven (Err (refused_by lost))
  only_memory (Lost.NoDebug path) why = absurd (lacks_nothing path why)
  only_memory (Lost.At path pc reason) why = absurd (has_source why)
  only_memory Lost.OutOfMemory why = tt

-- ---- with the laws of what is below

-- those that a recoverable chunk needs
pub record RecoveryLaws : Type 0 where
  pub flat : FlatSourcesAreFlow
  pub plain : PlainSourcesAreFlow
  pub flow : FlowSourcesAreRecovered

module _ (laws : RecoveryLaws) (chunk : Chunk) (short : IsShort chunk) where
  -- a flat source is one whose functions may have blocks
  flat_as_flow : IsFlatChunk chunk → IsFlowChunk chunk
  flat_as_flow flat =
      let such = laws.flat flat.source flat.formed flat.flat in
      record { source = flat.source; name = flat.name; formed = flat.formed; scoped = flat.scoped; fits = flat.fits; deep = 0; blocks = such.0; ordered = such.1; room = such.2; same = flat.same }

  flow_known : IsFlowChunk chunk → IsKnown chunk
  flow_known of = record { source = of.source; name = of.name; scoped = of.scoped; fits = of.fits; same = of.same; recovered = laws.flow chunk of short }

  is_known : IsRecoverable chunk → IsKnown chunk
  is_known (inl flat) = flow_known (flat_as_flow flat)
  is_known (inr plain) = flow_known (laws.plain chunk plain)

  -- what is recovered of it is a tree of it
  pub recovered_given : IsRecoverable chunk → (tree : Source) → WellFormed tree → IsSourceFound chunk tree → IsTreeFor chunk tree
  recovered_given is = tree_given (is_known is)

  -- and nothing is lost but for want of memory
  pub recovered_lost : IsRecoverable chunk → (lost : Lost) → IsLostOnlyWhere chunk lost → IsGiven (Err (refused_by lost))
  recovered_lost is = only_memory (is_known is)
