-- A tree that is one of a source of a chunk is given as its text.
use Rattle.std.proofs.Common.{◌≡◌, ◌∙◌, List, ℕ, Some, refl, sym, ap, subst}
use Rattle.lua_num.specs.Bytes.{Text}
use Rattle.lua_tree.specs.Syntax.{Source}
use Rattle.printer.specs.Texts.{IsTextOf}
use Rattle.proto.specs.Chunk.{Chunk, own, each, no_lines, SameButLines}
use Rattle.front.specs.Laws.{ChunksAreOne, NeverBoth}
use Rattle.front.specs.Sources.{IsCompiled, IsFaultIn}
use Rattle.front.specs.declared.fault.Fault.{Fault}
use Rattle.scheme.specs.Scheme.{scheme}
use Rattle.scheme_lines.specs.Alike.{LinesDoNotMatter}
use Rattle.decompile.specs.Given.{IsTreeFor}
use Rattle.decompile.specs.Sources.{IsSourceOf}

-- its text is read as the tree but for lines, and so has the same chunk but for lines
pub text_is_source : LinesDoNotMatter → {chunk : Chunk} {source : Source} {text : List ℕ} → IsTreeFor chunk source → IsTextOf source text → IsSourceOf chunk text
text_is_source lines {chunk} {source} {text} tree t =
    let alike = lines source t.read (sym t.same) in
    record {
      again = scheme t.read tree.name;
      compiled = record {
        name = tree.name;
        named = tree.named;
        compiled = record {
          source = t.read;
          accepts = record { tokens = t.tokens; lexed = t.lexed; parsed = t.parsed; scoped = alike.scoped tree.scoped; fits = alike.fits tree.fits };
          is = refl;
        };
      };
      same = tree.same ∙ alike.same tree.name;
    }

-- a source of a chunk has it, lines aside, however it is compiled
pub has_chunk : ChunksAreOne → {chunk again : Chunk} {text bytes : List ℕ} {name : Text} → IsSourceOf chunk text → bytes ≡ text → (own chunk).source ≡ Some name → IsCompiled name bytes again → SameButLines chunk again
has_chunk ones {chunk} {again} {text} {bytes} {name} source is named compiled =
    let same_name : source.compiled.name ≡ name = cc (source.compiled.named, named) in
    let other : IsCompiled name text source.again = subst (λ n. IsCompiled n text source.again) same_name source.compiled.compiled in
    let this : IsCompiled name text again = subst (λ b. IsCompiled name b again) is compiled in
    source.same ∙ ap (each no_lines) (ones name text source.again again other this)

-- and no fault
pub has_no_fault : NeverBoth → {chunk : Chunk} {text bytes : List ℕ} → IsSourceOf chunk text → bytes ≡ text → (fault : Fault) → IsFaultIn bytes fault → ⊥
has_no_fault never {chunk} {text} {bytes} source is fault bad =
    never source.compiled.name text source.again fault source.compiled.compiled (subst (λ b. IsFaultIn b fault) is bad)
