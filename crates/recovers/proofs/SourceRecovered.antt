-- A source with blocks is recovered where its main function is read as a block that is like its own, whatever was found of the functions in it, none of these is lost, and they tell what is asked.
use Rattle.std.proofs.Common.{◌≡◌, ◌∙◌, ℕ, ◌≤◌, Bool, true, false, List, [], Option, Some, refl, sym, ap, subst, arith, inl, inr}
use Rattle.std.specs.Prelude.{IsSome}
use Rattle.std.proofs.lemmas.Option.{same_Some, some_pair_parts}
use Rattle.lua_num.specs.Bytes.{Text}
use Rattle.lua_tree.specs.OneLine.{on_one_line}
use Rattle.lua_tree.specs.Outline.{beginning, outline}
use Rattle.lua_tree.specs.Resolved.{Resolved, resolved, resolved_by}
use Rattle.lua_tree.specs.Scoping.{breach_of, first_breach}
use Rattle.lua_tree.specs.Syntax.{Source, Statements}
use Rattle.lua_tree.specs.WellFormed.{WellFormed}
use Rattle.core_expr.specs.Values.{Inner}
use Rattle.proto.specs.Chunk.{Chunk, Functions, Own, each, function, no_lines}
use Rattle.recover_expr.specs.Placing.{Steps}
use Rattle.recover_flow.specs.Built.{built_body}
use Rattle.recover_flow.specs.Debug.{FirstUntold}
use Rattle.recover_flow.specs.Plans.{body_levels}
use Rattle.recover_flow.specs.Recovering.{AreFound, IsFound, IsLost, IsMainFound, IsOneLost, IsSourceFound, main_of}
use Rattle.recover_flow.specs.Searching.{whole_body}
use Rattle.recover_flow.specs.Standing.{BodyStands}
use Rattle.scheme.specs.Functions.{Finished, Heading}
use Rattle.scheme.specs.Making.{Ahead}
use Rattle.scheme.specs.Scheme.{ahead_of, scheme, scheme_by, scheme_of}
use Rattle.scheme_lines.proofs.Again.{bare_again}
use Rattle.scheme_lines.specs.Alike.{AreAlike, SemicolonsDoNotMatter}
use Rattle.same_flow.proofs.Breaks.{breaks_say_nothing}
use Rattle.same_flow.specs.SameMarks.{but_breaks}
use Rattle.reads_back.proofs.SameChunks.{own_of_same}
use Rattle.recovers.specs.FlowSources.{IsFlowChunk}
use Rattle.recovers.specs.Found.{IsSourceRecovered}
use Rattle.recovers.specs.Joined.{IsFlowRead, IsLike}
use Rattle.recovers.proofs.FoundBody.{read_recovered}

-- ---- a block like that of a source

-- the source with a block
abbrev source_of : Statements → Source
source_of block = record { body = block; last_line = 1 }

-- the block of a tree is like one
record IsTreeLike (ahead : Ahead) (block : Statements) (tree : Source) : Type 0 where
  written : Statements
  like : IsLike [] [] ahead block written
  is : tree ≡ source_of written

module _ (source : Source) (written : Statements) (like : IsLike [] [] (ahead_of (resolved source)) source.body written) where
  marks_same : but_breaks (outline (source_of written)) ≡ but_breaks (outline source)
  marks_same = sym (like.marks beginning)

  -- names mean the same in the source with it, which breaks a rule where the other does
  resolved_same : resolved (source_of written) ≡ resolved source
  resolved_same = sym (breaks_say_nothing (outline (source_of written))).0 ∙ ap resolved_by marks_same ∙ (breaks_say_nothing (outline source)).0

  breach_same : breach_of (source_of written) ≡ breach_of source
  breach_same = sym (breaks_say_nothing (outline (source_of written))).1 ∙ ap (first_breach []) marks_same ∙ (breaks_say_nothing (outline source)).1

  -- so its chunk is the same
  scheme_same : source.last_line ≡ 1 → (name : Text) → scheme_of (source_of written) name ≡ scheme_of source name
  scheme_same one name =
      let main : Heading = record { source = Some name; first_line = 0; last_line = 0; params = 0; vararg = true } in
      ap (λ (scopes : Resolved). scheme_by scopes (source_of written) name) resolved_same
      ∙ sym (like.makes main)
      ∙ ap (λ line. scheme_by (resolved source) (record source { last_line = line }) name) (sym one)

  tree_alike : source.last_line ≡ 1 → AreAlike source (source_of written)
  tree_alike one = record {
    scoped = λ scoped. breach_same ∙ scoped;
    fits = λ fits. ap (λ (made : Finished). made.misfits) (scheme_same one []) ∙ fits;
    same = λ name. sym (ap (λ (made : Finished). each no_lines made.chunk) (scheme_same one name));
  }

-- ---- what is recovered

module _ (semicolons : SemicolonsDoNotMatter) (mine : Own) (functions : Functions) (of : IsFlowChunk (function mine functions))
    (reads : (short : Bool) (left : List (Option Inner)) → AreFound short functions left →
    IsFlowRead short (function mine functions) left [] [] (ahead_of (resolved (on_one_line of.source))) (on_one_line of.source).body) where
  abbrev chunk : Chunk
  chunk = function mine functions

  abbrev plain : Source
  plain = on_one_line of.source

  alike : AreAlike of.source plain
  alike = semicolons of.source plain (sym (bare_again of.source))

  abbrev IsTree : Source → Type 0
  IsTree = IsTreeLike (ahead_of (resolved plain)) plain.body

  -- each that is found has a block like that of the source
  found_is : (short : Bool) (found : Inner) → IsFound short chunk found → IsTree (main_of found.body)
  found_is short found (left, are, is) =
      let one = reads short left are in
      let same : is.steps ≡ one.steps = same_Some is.steps one.steps (sym is.read ∙ one.read) in
      let made = one.each is.plans (subst (λ (s : Steps). BodyStands s.steps (whole_body s.steps) is.plans) same is.stands) (subst (λ (s : Steps). body_levels s.steps is.plans ≤ 200) same is.fits) in
      let block = (some_pair_parts is.statements made.0 is.behind made.1 (sym is.built ∙ ap (λ (s : Steps). built_body is.plans s.parts) same ∙ made.2)).0 in
      record { written = made.0; like = made.3; is = ap main_of is.body ∙ ap source_of block }

  tree_is : (tree : Source) → IsSourceFound chunk tree → IsTree tree
  tree_is tree is = subst IsTree (sym is.is_main) (by is.function)
    where
      by : IsMainFound chunk is.found → IsTree (main_of is.found.body)
      by (inl found) = found_is false is.found found
      by (inr (lost, found)) = found_is true is.found found

  -- ---- it keeps the rules of form, and is alike to the source

  formed : (tree : Source) → IsSourceFound chunk tree → WellFormed tree
  formed tree is = let one = tree_is tree is in subst WellFormed (sym one.is) (record { formed = one.like.formed; shallow = one.like.shallow })

  found_alike : (tree : Source) → IsSourceFound chunk tree → AreAlike of.source tree
  found_alike tree is =
      let one = tree_is tree is in
      let like = tree_alike plain one.written one.like refl in
      subst (AreAlike of.source) (sym one.is) (record {
        scoped = λ scoped. like.scoped (alike.scoped scoped);
        fits = λ fits. like.fits (alike.fits fits);
        same = λ name. alike.same name ∙ like.same name;
      })

  -- ---- nothing is lost in the forms of fewest levels

  none_is_lost : (IsOneLost true 1 functions → ⊥) → IsLost true 0 chunk → ⊥
  none_is_lost inside (inl many) = absurd (omega (arith, many))
  none_is_lost inside (inr (inl one)) = inside one
  none_is_lost inside (inr (inr (left, are, unrecovered))) = read_recovered (reads true left are) unrecovered

  -- ---- it tells its name

  named : IsSome mine.source
  named = subst IsSome (sym (ap (λ (own : Own). own.source) (own_of_same chunk (scheme of.source of.name) of.same))) refl

  pub source_recovered : (IsOneLost true 1 functions → ⊥) → ((path : List ℕ) → FirstUntold chunk path → ⊥) → IsSourceRecovered of.source chunk
  source_recovered inside told = record { named = named; told = told; formed = formed; alike = found_alike; found = none_is_lost inside }
