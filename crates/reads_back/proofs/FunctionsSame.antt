-- What is written of a function is the function that is left with its number: it has the same code, where it is the next one that is made.
use Rattle.std.proofs.Common.{◌≡◌, ◌≤◌, ℕ, suc, false, List, [], ◌∷◌, length, Option, Some, None, is_some, refl, sym, ap, ap₂, ◌∙◌, subst, subst₂, arith, true, inr}
use Rattle.std.specs.Prelude.{slice_set}
use Rattle.lua_num.specs.Bytes.{Text}
use Rattle.lua_tree.specs.Syntax.{FunctionBody, function_expression}
use Rattle.lua_tree.specs.WellFormed.{depth_of_body}
use Rattle.opcode.specs.declared.op.Op.{Op}
use Rattle.core_expr.specs.Values.{Value, function_value, Inner}
use Rattle.core_expr.specs.Writing.{Wording, function_left, function_word, over}
use Rattle.recover_expr.specs.Situation.{Function}
use Rattle.scheme.specs.Expressions.{fold, is_multiple, is_name}
use Rattle.scheme.specs.Functions.{Finished, further_words, next_sources, source_names, with_function, without_sources}
use Rattle.scheme.specs.Making.{Maker, free_from, put}
use Rattle.scheme.specs.Scheme.{coded, inner}
use Rattle.scheme.specs.declared.making.Active.{Active}
use Rattle.scheme.specs.declared.making.Piece.{Piece}
use Rattle.scheme_stands.specs.Words.{Fn}
use Rattle.reads_back.specs.Coming.{Coming, IsMadeNext, captured_names}
use Rattle.reads_back.specs.Cores.{IsClosure, IsPlainBody}
use Rattle.reads_back.proofs.FramedParts.{further_same}
use Rattle.reads_back.proofs.Mentions.{IsAhead, coming, function_mention}
use Rattle.reads_back.proofs.OperatorsSame.{few_more}
use Rattle.reads_back.proofs.PassedMentions.{sources_named}
use Rattle.reads_back.proofs.InRoom.{IsInRoom}
use Rattle.reads_back.proofs.Rewriting.{AreAgain, IsAgain, IsMadeBy, Rewritten, code, wording}
use Rattle.reads_back.proofs.WordsSame.{no_local}

-- ---- the words of a closure

-- a function, in its register
abbrev behind_function : (r : ℕ) → Maker → Finished → Maker
behind_function r m made = free_from m.free (further_words 1 (next_sources m) (put 1 (Piece.Abx Op.Closure r (length m.functions)) (with_function made m)))

-- the code of a body on one line
code_is : (line : ℕ) (body : FunctionBody) (r : ℕ) (m : Maker) → IsPlainBody body → (code (function_expression line body)).to_reg r m ≡ (coded (function_expression 1 body)).to_reg r m
code_is line body r m plain = ap (λ body. (coded (function_expression 1 body)).to_reg r m) plain.on_line

-- ---- the function that is left

module _ {f : Function} {g : Fn} {active : List Active} {listed : List ℕ} {z : Maker} {lefts : ℕ → List (Option Inner)} (made : IsMadeBy f g active listed z) (again : AreAgain f g lefts) where
  -- what is found where so many functions were made
  abbrev IsFound : FunctionBody → (before : ℕ) → Coming → Type 0
  IsFound body before c = (found : Inner) × (function_left (lefts before) before ≡ Some found) × IsAgain f.short g active body false c found

  found_at : (body : FunctionBody) (before : ℕ) (c : Coming) → IsPlainBody body → depth_of_body body ≤ 199 → c.functions ≡ before → IsMadeNext g active body false c → IsFound body before c
  found_at body before c plain low as_many next = subst (λ before. IsFound body before c) as_many (again.next active listed made.all body false c plain low next)

  others_left : (body : FunctionBody) (before : ℕ) (c : Coming) → IsPlainBody body → c.functions ≡ before → IsMadeNext g active body false c → slice_set (lefts before) before None ≡ lefts (suc before)
  others_left body before c plain as_many next = subst (λ before. slice_set (lefts before) before None ≡ lefts (suc before)) as_many (again.others active body false c plain next)

  word_is : (body : FunctionBody) (before n : ℕ) (c : Coming) (is : IsFound body before c) → wording f listed z lefts before n (function_value before false) ≡ over is.0.levels (function_expression 1 is.0.body)
  word_is body before n c is = ap function_word is.1

  -- the names of what it captures are those that the next function captures
  names_are : {before : ℕ} (body : FunctionBody) (m : Maker) → IsAhead g active before (function_mention body false ∷ []) m → source_names m (next_sources m) ≡ captured_names active g.upvalue_names m.ahead
  names_are body m ahead = sources_named m (next_sources m) ∙ ap₂ (λ (active : List Active) (names : List Text). captured_names active names m.ahead) ahead.active_are ahead.upvalues_are

  same_function : {before : ℕ} (body : FunctionBody) (m : Maker) (ahead : IsAhead g active before (function_mention body false ∷ []) m) (is : IsFound body before (coming m)) →
      inner is.0.body false (source_names m (next_sources m)) (without_sources m.ahead) ≡ inner body false (source_names m (next_sources m)) (without_sources m.ahead)
  same_function body m ahead is =
      let names = names_are body m ahead in
      ap (λ names. inner is.0.body false names (without_sources m.ahead)) names ∙ is.2.same ∙ ap (λ names. inner body false names (without_sources m.ahead)) (sym names)

  function_same : (line : ℕ) (body : FunctionBody) (before r : ℕ) (m : Maker) → IsPlainBody body → depth_of_body body ≤ 199 → IsAhead g active before (function_mention body false ∷ []) m →
      (coded (wording f listed z lefts before (length m.constants) (function_value before false)).words).to_reg r m ≡ (code (function_expression line body)).to_reg r m
  function_same line body before r m plain low ahead =
      let is = found_at body before (coming m) plain low ahead.made_are ahead.meant.0 in
      ap (λ (w : Wording). (coded w.words).to_reg r m) (word_is body before (length m.constants) (coming m) is)
      ∙ ap (behind_function r m) (same_function body m ahead is)
      ∙ sym (code_is line body r m plain)

  pub function_rewritten : (line : ℕ) (body : FunctionBody) (before behind : ℕ) (v : Value) → IsPlainBody body → depth_of_body body ≤ 199 → IsClosure g active body false before behind v → Rewritten f g active listed z lefts before behind (function_expression line body) v
  function_rewritten line body before behind v plain low (counts, is, c, as_many, next) = subst₂ (λ behind v. Rewritten f g active listed z lefts before behind (function_expression line body) v) (sym counts) (sym is) (record {
    can = ap is_some found.1;
    leaves = others_left body before c plain as_many next;
    makes = refl;
    named = λ n. ap (λ (w : Wording). is_name w.words) (word_is body before n c found);
    folded = λ n. ap (λ (w : Wording). fold w.words) (word_is body before n c found);
    several = λ n. ap (λ (w : Wording). is_multiple w.words) (word_is body before n c found);
    gives = λ several. cc;
    few = λ n. let few = few_more found.0.levels in omega (arith, ap (λ (w : Wording). w.levels) (word_is body before n c found), few, found.2.few);
    low = λ short formed m ahead is.
        let few = few_more found.0.levels in
        subst (λ (w : Wording). IsInRoom true (function_expression line body) w) (sym (word_is body before (length m.constants) c found))
        (inr (record { low = omega (arith, few, found.2.low short); binds = record { prefix = refl; level = refl; unary = refl; several = refl }; bare_there = λ none. refl; unfolded = refl }));
    keys = omega arith;
    as_local = λ n r m ahead local. no_local (function_expression line body) r m refl local;
    to_reg = λ r m ahead final. function_same line body before r m plain low ahead;
    taken = λ r m ahead final. ap (λ (n : Maker). length n.constants) (code_is line body r m plain) ∙ ap (λ ks. length ks) (further_same (next_sources m) _);
    multi = λ several. cc;
    multi_taken = λ several. cc;
  })
    where
      found : IsFound body before c
      found = found_at body before c plain low as_many next
