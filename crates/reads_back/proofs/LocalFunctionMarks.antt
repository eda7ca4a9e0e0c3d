-- What is written of a local function mentions the same: one that does not capture itself does not mention its name, and is given to its local.
use Rattle.std.proofs.lemmas.Option.{same_Some}
use Rattle.std.proofs.Common.{◌≡◌, ◌≤◌, ℕ, zero, suc, if◌then◌else◌, Bool, true, false, List, [], ◌∷◌, ◌++◌, Some, None, is_some, refl, sym, ap, ◌∙◌, subst, true≢false}
use Rattle.std.specs.Prelude.{◌||◌, slice_get}
use Rattle.std.specs.Str.{bytes_eq}
use Rattle.lua_num.specs.Bytes.{Text}
use Rattle.std.proofs.lemmas.Slice.Eq.{bytes_eq-Decides}
use Rattle.lua_tree.specs.OneLine.{one_line_body, one_line_statement}
use Rattle.lua_tree.specs.Names.{is_name}
use Rattle.lua_tree.specs.Outline.{Part, body_part, both, come, declares, statement_part}
use Rattle.lua_tree.specs.Syntax.{FunctionBody, local_function}
use Rattle.lua_tree.specs.WellFormed.{depth_of_body}
use Rattle.proto.specs.Chunk.{own}
use Rattle.core_expr.specs.Places.{as_name}
use Rattle.core_expr.specs.Values.{Inner}
use Rattle.recover_expr.specs.Situation.{Function}
use Rattle.scheme.specs.Functions.{without_sources}
use Rattle.scheme.specs.Making.{head_or}
use Rattle.scheme.specs.declared.making.Active.{Active}
use Rattle.scheme_stands.specs.Relation.{FunctionOf}
use Rattle.scheme_stands.specs.Words.{Fn, Law, Names, is_among, law_inside, names_in, onto}
use Rattle.reads_back.specs.Coming.{Coming, IsOwnNext, inside_local}
use Rattle.reads_back.specs.Cores.{IsPlainBody}
use Rattle.reads_back.proofs.FreeCaptured.{captured_wherever_free}
use Rattle.reads_back.proofs.FreeNames.{free_in_body}
use Rattle.reads_back.proofs.InnerNames.{among_both, among_names}
use Rattle.reads_back.proofs.Marks.{SamePart, both_same, exact_part, part_back, part_then, same_part}
use Rattle.reads_back.proofs.NamesInside.{named_inside}
use Rattle.reads_back.proofs.OwnLocals.{own_found}
use Rattle.reads_back.proofs.MarksSame.{OwnPartsMade}
use Rattle.reads_back.proofs.Rewriting.{OwnListed}
use Rattle.reads_back.proofs.Tests.{or_first, or_second}
use Rattle.reads_back.proofs.UnfreeParts.{unfree_part}
use Rattle.reads_back.proofs.WordsRead.{IsFunction}

-- ---- names in a list

among_slot : (text : Text) (names : List Text) → is_among text names ≡ true → (slot : ℕ) × (slice_get names slot ≡ Some text)
among_slot text [] is = cc
among_slot text (name ∷ names) is = by (bytes_eq text name) refl (among_slot text names) is
  where
    by : (same : Bool) → bytes_eq text name ≡ same → (is_among text names ≡ true → (slot : ℕ) × (slice_get names slot ≡ Some text)) → same || is_among text names ≡ true → (slot : ℕ) × (slice_get (name ∷ names) slot ≡ Some text)
    by true same others is = (0, ap (λ text. Some text) (sym ((bytes_eq-Decides text name).0 same)))
    by false same others is = let more = others is in (suc more.0, more.1)

slot_among : (text : Text) (names : List Text) (slot : ℕ) → as_name (slice_get names slot) ≡ Some text → is_among text names ≡ true
slot_among text [] slot is = cc
slot_among text (name ∷ names) zero is = or_first (bytes_eq text name) (is_among text names) ((bytes_eq-Decides text name).1 (by (is_name name) is))
  where
    by : (good : Bool) → (if good then Some name else None) ≡ Some text → text ≡ name
    by true is = sym (same_Some name text is)
    by false is = cc
slot_among text (name ∷ names) (suc slot) is = or_second (bytes_eq text name) (is_among text names) (slot_among text names slot is)

module _ {f : Function} {g : Fn} {active : List Active} (is_function : IsFunction f g) (of : ℕ → Part) (text : Text) (body : FunctionBody) (listed : OwnListed f g active (local_function text body)) (parts : OwnPartsMade g active of (local_function text body)) (plain : IsPlainBody body) (low : depth_of_body body ≤ 199) where
  module _ (c : Coming) (next : IsOwnNext g active text body c) where
    inside_part : SamePart (of c.functions) (body_part false body)
    inside_part = parts next.local c.ahead next.is_local body (inside_local text c) plain low next.next

    captured_free : free_in_body text false body ≡ true → is_among text (own next.next.chunk).upvalue_names ≡ true
    captured_free free =
        let n = is_function.names in
        let x = next.local in
        let inside : Names = record { around = names_in (onto (active ++ x ∷ []) []) ++ n.around; upvalues = next.next.names } in
        let among : is_among text inside.around ≡ true =
        among_both text (names_in (onto (active ++ x ∷ []) [])) n.around
        ∙ or_first _ _ (among_names text (onto (active ++ x ∷ []) []) ∙ ap is_some (own_found text c.ahead x next.is_local active)) in
        let made = subst (λ (law : Law). FunctionOf body false (law_inside law (active ++ x ∷ []) next.next.names) (without_sources (inside_local text c).ahead) next.next.behind next.next.chunk) is_function.law next.next.made_at in
        let upvalue = captured_wherever_free body false text inside (without_sources (inside_local text c).ahead) next.next.behind next.next.chunk made among free in
        let slot = among_slot text next.next.names upvalue in
        let all = listed x c.ahead next.is_local in
        slot_among text (own next.next.chunk).upvalue_names slot.0
        (ap (λ names. as_name (slice_get names slot.0)) next.next.named ∙ named_inside n is_function.law all.1 next.next.names (head_or [] (inside_local text c).ahead.sources) next.next.captured is_function.told text slot.0 slot.1)

    not_free : is_among text (own next.next.chunk).upvalue_names ≡ false → free_in_body text false body ≡ false
    not_free other = by (free_in_body text false body) captured_free
      where
        by : (free : Bool) → (free ≡ true → is_among text (own next.next.chunk).upvalue_names ≡ true) → free ≡ false
        by true captured = absurd (true≢false (sym (captured refl) ∙ other))
        by false captured = refl

    -- given to its local it mentions the same
    pub given_marks : is_among text (own next.next.chunk).upvalue_names ≡ false → SamePart (λ here. both (declares 1 0 (text ∷ [])) (both (of c.functions) (come 0 (text ∷ []) here.declarations)) here) (statement_part 1 (one_line_statement (local_function text body)))
    given_marks other = record {
      each = λ here.
          let free = not_free other in
          let body_line : one_line_body body ≡ body = plain.on_line in
          (both_same (same_part (declares 1 0 (text ∷ [])))
          (part_then (both_same inside_part (same_part (come 0 (text ∷ []) here.declarations)))
          (part_then (part_back (exact_part (unfree_part text body free here.declarations)))
          (exact_part (λ place. ap (λ body. both (come 0 (text ∷ []) here.declarations) (body_part false body) place) (sym body_line)))))).each here;
    }

    -- and so as one that captures itself
    pub own_marks : (found : Inner) → SamePart (body_part false found.body) (of c.functions) → SamePart (statement_part 1 (local_function text found.body)) (statement_part 1 (one_line_statement (local_function text body)))
    own_marks found same = record {
      each = λ here.
          (both_same (same_part (declares 1 0 (text ∷ [])))
          (both_same (same_part (come 0 (text ∷ []) here.declarations)) (part_then same (part_then inside_part (exact_part (λ place. ap (λ body. body_part false body place) (sym plain.on_line))))))).each here;
    }
