-- Each function of a function stands as a plain one where it is made, with less room than so much; and what is found of these is what is left to it, where it stands for their bodies.
use Rattle.std.proofs.Common.{◌≡◌, ◌++◌, ℕ, zero, suc, ◌<◌, ◌≤◌, Bool, false, List, [], ◌∷◌, length, Option, Some, refl, sym, ap, ◌∙◌, subst, arith}
use Rattle.std.specs.Prelude.{slice_get}
use Rattle.std.proofs.lemmas.Option.{same_Some}
use Rattle.lua_tree.specs.Outline.{Part}
use Rattle.lua_tree.specs.Syntax.{FunctionBody}
use Rattle.lua_tree.specs.WellFormed.{depth_of_body}
use Rattle.proto.specs.Chunk.{Chunk, Functions, and_function, each_of, function_at, function_count, no_functions, no_lines, own}
use Rattle.core_expr.specs.Places.{as_name}
use Rattle.core_expr.specs.Values.{Inner}
use Rattle.recover_expr.specs.Situation.{Function}
use Rattle.recover_flow.specs.Recovering.{AreFound, IsFound}
use Rattle.scheme.specs.Functions.{without_sources}
use Rattle.scheme.specs.Making.{Ahead, Maker, head_or}
use Rattle.scheme.specs.Scheme.{inner}
use Rattle.scheme.specs.declared.making.Active.{Active}
use Rattle.scheme_stands.specs.Relation.{FunctionOf}
use Rattle.scheme_stands.specs.Words.{Fn, Law, Names, law_inside, names_in, onto}
use Rattle.same_flow.specs.Space.{space_of_body}
use Rattle.reads_back.specs.Assignments.{with_self}
use Rattle.reads_back.specs.Coming.{Coming, IsMadeNext}
use Rattle.reads_back.specs.Cores.{IsPlainBody}
use Rattle.reads_back.proofs.EachMade.{IsMadeAt}
use Rattle.reads_back.proofs.InnerChunks.{AreNamedBy, StandsToo, part_found, stands_too, within_count}
use Rattle.reads_back.proofs.LeftFunctions.{each_left, left_behind, next_left, others_left}
use Rattle.reads_back.proofs.MadeWhole.{IsMadeWhole}
use Rattle.reads_back.proofs.Marks.{IsPartLeft, exact_part, part_then}
use Rattle.reads_back.proofs.NameReads.{AreListed}
use Rattle.reads_back.proofs.NamesInside.{named_inside}
use Rattle.reads_back.proofs.ActsKnown.{AreLeft}
use Rattle.reads_back.proofs.WrittenFormed.{IsFineFunction}
use Rattle.recovers.specs.EverFound.{IsEverFound, StandsAs}
use Rattle.recovers.specs.Joined.{IsFoundAs}

-- so it is with each of some functions
abbrev pub EachOf : (Chunk → Type 0) → Functions → Type 0
EachOf Holds functions = (number : ℕ) (c : Chunk) → function_at functions number ≡ Some c → Holds c

-- ---- functions that are found, in order

record AreAllFound (short : Bool) (functions : Functions) (left : List (Option Inner)) : Type 0 where
  founds : List Inner
  left_is : left_behind 0 founds ≡ left
  as_many : length founds ≡ function_count functions
  each : (number : ℕ) (c : Chunk) → function_at functions number ≡ Some c → (found : Inner) × (slice_get founds number ≡ Some found) × IsFound short c found
  back : (number : ℕ) (found : Inner) → slice_get founds number ≡ Some found → (c : Chunk) × (function_at functions number ≡ Some c) × IsFound short c found

-- one more function is found before them
all_found_behind : (short : Bool) (first : Chunk) (rest : Functions) (found : Inner) (others left : List (Option Inner)) → IsFound short first found → AreAllFound short rest others → left ≡ Some found ∷ others → AreAllFound short (and_function first rest) left
all_found_behind short first rest found others left is behind same = record {
  founds = found ∷ behind.founds;
  left_is = ap (λ (others : List (Option Inner)). Some found ∷ others) behind.left_is ∙ sym same;
  as_many = ap suc behind.as_many;
  each = each_at;
  back = back_at;
}
  where
    each_at : (number : ℕ) (c : Chunk) → function_at (and_function first rest) number ≡ Some c → (one : Inner) × (slice_get (found ∷ behind.founds) number ≡ Some one) × IsFound short c one
    each_at zero c at = let same : first ≡ c = cc in (found, refl, subst (λ (c : Chunk). IsFound short c found) same is)
    each_at (suc number) c at = behind.each number c at

    back_at : (number : ℕ) (one : Inner) → slice_get (found ∷ behind.founds) number ≡ Some one → (c : Chunk) × (function_at (and_function first rest) number ≡ Some c) × IsFound short c one
    back_at zero one there = let same : found ≡ one = cc in (first, refl, subst (IsFound short first) same is)
    back_at (suc number) one there = behind.back number one there

all_found : (short : Bool) (functions : Functions) (left : List (Option Inner)) → AreFound short functions left → AreAllFound short functions left
all_found short no_functions left are = record {
  founds = [];
  left_is = sym are;
  as_many = refl;
  each = λ number c at. absurd cc;
  back = λ number found there. absurd cc;
}
all_found short (and_function c rest) left (found, others, is, are, same) = all_found_behind short c rest found others left is (all_found short rest others are) same

-- ---- the functions that stand in one

-- a function stands as one with less room than so much
pub record StandsWithin (limit : ℕ) (chunk : Chunk) : Type 0 where
  pub body : FunctionBody
  pub method : Bool
  pub n : Names
  pub before : Ahead
  pub behind : Ahead
  pub made : Chunk
  pub stands : StandsAs chunk body method n before behind made
  pub roomy : space_of_body body < limit

-- these are left to it where so many were made, and these parts of the source they are; before any was made all are left
pub record FunctionsFoundLeft (f : Function) (g : Fn) (left : List (Option Inner)) : Type 0 where
  pub lefts : ℕ → List (Option Inner)
  pub parts : ℕ → Part
  pub left_is : lefts 0 ≡ left
  pub are : AreLeft f g lefts parts

module _ (limit : ℕ) (functions : Functions) {outer : Function} {made_of : Fn} {z : Maker}
    (whole : IsMadeWhole outer made_of z) (told : outer.of.upvalue_names ≡ made_of.upvalue_names) (all_same : each_of no_lines functions ≡ each_of no_lines made_of.functions)
    (each_there : (number : ℕ) → number < function_count functions → IsMadeAt outer made_of 200 limit number) where
  -- where one is made the chunk has one
  there : {active : List Active} {body : FunctionBody} {method : Bool} {c : Coming} (next : IsMadeNext made_of active body method c) → StandsToo functions c.functions next.chunk
  there {c = c} next = stands_too functions made_of.functions c.functions next.chunk all_same next.is

  -- it stands as what is made next
  module _ {active : List Active} {listed : List ℕ} (all : AreListed outer made_of active listed) {body : FunctionBody} {method : Bool} {c : Coming}
      (plain : IsPlainBody (with_self method body)) (shallow : depth_of_body body ≤ 199) (next : IsMadeNext made_of active body method c) where
    abbrev inside : Names
    inside = record { around = names_in (onto active []) ++ whole.names.around; upvalues = next.names }

    next_named : AreNamedBy inside (own next.chunk).upvalue_names
    next_named text slot is =
        ap (λ names. as_name (slice_get names slot)) next.named
        ∙ named_inside whole.names whole.law all next.names (head_or [] c.ahead.sources) next.captured told text slot is

    next_stands : StandsAs (there next).c body method inside (without_sources c.ahead) next.behind next.chunk
    next_stands = record {
      plain = plain;
      shallow = shallow;
      at = subst (λ (law : Law). FunctionOf body method (law_inside law active next.names) (without_sources c.ahead) next.behind next.chunk) whole.law next.made_at;
      same = (there next).same;
      named = next_named;
    }

  -- so the function of each number stands as a plain one with less room
  pub each_stands : EachOf (StandsWithin limit) functions
  each_stands number c is =
      let m = each_there number (within_count functions number c is) in
      let one = there m.is in
      let low : depth_of_body m.body ≤ 199 = omega (arith, m.low) in
      let same : one.c ≡ c = same_Some one.c c (sym one.is ∙ ap (function_at functions) m.number_is ∙ is) in
      let n = inside m.all m.plain low m.is in
      record {
        body = m.body;
        method = m.method;
        n = n;
        before = without_sources m.c.ahead;
        behind = m.is.behind;
        made = m.is.chunk;
        stands = subst (λ (c : Chunk). StandsAs c m.body m.method n (without_sources m.c.ahead) m.is.behind m.is.chunk) same (next_stands m.all m.plain low m.is);
        roomy = m.in_room;
      }

  -- ---- those that are left to it

  module _ (short : Bool) (left : List (Option Inner)) (found_left_are : AreFound short functions left) (ever : EachOf (IsEverFound short) functions) (is_short : outer.short ≡ short) where
    founds : AreAllFound short functions left
    founds = all_found short functions left found_left_are

    -- those that are left where so many were made, and the parts of the source that they are
    abbrev lefts : ℕ → List (Option Inner)
    lefts made = left_behind made founds.founds

    abbrev parts : ℕ → Part
    parts number = part_found (slice_get founds.founds number)

    -- one that is made next, and what is found of it
    module _ {active : List Active} {listed : List ℕ} (all : AreListed outer made_of active listed) {body : FunctionBody} {method : Bool} {c : Coming}
        (plain : IsPlainBody (with_self method body)) (shallow : depth_of_body body ≤ 199) (next : IsMadeNext made_of active body method c) where
      -- whatever is found of the function of this number stands for it
      stands_for : (d : Chunk) (found : Inner) → function_at functions c.functions ≡ Some d → IsFound short d found →
          IsFoundAs short body method (own next.chunk).upvalue_names (without_sources c.ahead) found
      stands_for d found at is =
          let one = there next in
          let same : d ≡ one.c = same_Some d one.c (sym at ∙ one.is) in
          ever c.functions one.c one.is found (subst (λ (d : Chunk). IsFound short d found) same is) body method (inside all plain shallow next) (without_sources c.ahead) next.behind next.chunk
          (next_stands all plain shallow next)

      record IsFoundNext : Type 0 where
        found : Inner
        found_there : slice_get founds.founds c.functions ≡ Some found
        is : IsFoundAs short body method (own next.chunk).upvalue_names (without_sources c.ahead) found

      next_found : IsFoundNext
      next_found =
          let one = there next in
          let e = founds.each c.functions one.c one.is in
          record { found = e.0; found_there = e.1; is = stands_for one.c e.0 one.is e.2 }

    -- each of them is fine, since it is made somewhere
    number_fine : (number : ℕ) (found : Inner) → slice_get founds.founds number ≡ Some found → IsFineFunction found
    number_fine number found is =
        let back = founds.back number found is in
        let m = each_there number (within_count functions number back.0 back.1) in
        (stands_for m.all m.plain (omega (arith, m.low)) m.is back.0 found (ap (function_at functions) m.number_is ∙ back.1) back.2).fine

    are : AreLeft outer made_of lefts parts
    are = record {
      again = record {
        next = λ active listed all body method c plain shallow next.
            let r = next_found all plain shallow next in (
              r.found,
              next_left founds.founds c.functions r.found r.found_there,
              record {
                same = subst (λ names. inner r.found.body false names (without_sources c.ahead) ≡ inner body method names (without_sources c.ahead)) next.named r.is.same;
                few = r.is.few;
                low = λ is. r.is.low (sym is_short ∙ is);
              },
            );
        others = λ active body method c plain next. others_left founds.founds c.functions (omega (arith, founds.as_many, within_count functions c.functions (there next).c (there next).is));
      };
      fine = each_left (λ number found. IsFineFunction found) founds.founds number_fine;
      parts = each_left (IsPartLeft parts) founds.founds (λ number found is. exact_part (λ here. ap (λ found. part_found found here) (sym is)));
      made = λ active listed all body c plain shallow next.
          let r = next_found all plain shallow next in
          part_then (exact_part (λ here. ap (λ found. part_found found here) r.found_there)) r.is.part;
    }

    pub found_left : FunctionsFoundLeft outer made_of left
    found_left = record { lefts = lefts; parts = parts; left_is = founds.left_is; are = are }
