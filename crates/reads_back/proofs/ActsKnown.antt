-- What is known of each statement without blocks where it is made: it is read as what it is, and what is written of it is well formed, has the same names and makes the same code.
use Rattle.std.proofs.Common.{◌≡◌, ℕ, suc, ◌≤◌, true, List, [], length, None, arith, Option, ◌*◌, ◌+◌, ◌∷◌, ◌++◌, inl, inr}
use Rattle.lua_num.specs.Bytes.{Text}
use Rattle.lua_tree.specs.OneLine.{one_line_statement}
use Rattle.lua_tree.specs.Outline.{Part, statement_part}
use Rattle.lua_tree.specs.Syntax as syntax
use Rattle.lua_tree.specs.Syntax.{Expression, Expressions, Statement, assignment, call_statement, field_expression, index_expression, name_expression, local_statement, no_expressions, return_statement, function_expression, local_function}
use Rattle.lua_tree.specs.WellFormed.{depth_of_statement, ends_block, formed_statement}
use Rattle.core_expr.specs.Places.{Place, place}
use Rattle.core_expr.specs.Values.{Inner}
use Rattle.recover_expr.specs.Situation.{Function, Situation}
use Rattle.scheme.specs.Making.{Maker}
use Rattle.scheme.specs.declared.making.Active.{Active}
use Rattle.scheme_stands.specs.Relation.{StatementAt}
use Rattle.scheme_stands.specs.Words.{Fn, Spot}
use Rattle.reads_back.specs.Acted.{Acted, AreActTargets, IsAct, IsActTarget, IsActed, act_levels, act_statement, lean_depth}
use Rattle.reads_back.specs.Cores.{HasCore}
use Rattle.reads_back.proofs.ActsFormed.{act_ends, act_formed, act_shallow}
use Rattle.reads_back.proofs.ActsMarks.{act_marks}
use Rattle.reads_back.proofs.ActsRead.{ActRead, CanAct, call_statement_read}
use Rattle.reads_back.proofs.ActsRewritten.{AllWritten, act_rewritten}
use Rattle.reads_back.proofs.BehindWords.{HasLocals}
use Rattle.reads_back.proofs.Comes.{IsOver, ReadsCore}
use Rattle.reads_back.proofs.DeclarationsRead.{StartHere, local_read}
use Rattle.reads_back.proofs.LeanTargets.{ArePathsOr, IsLow, IsPathOr, targets_low}
use Rattle.reads_back.proofs.Marks.{SamePart, ArePartsLeft}
use Rattle.reads_back.proofs.MarksSame.{ArePartsMade}
use Rattle.reads_back.proofs.AssignmentStands.{assignment_read}
use Rattle.reads_back.proofs.ReturnsRead.{return_read}
use Rattle.reads_back.proofs.LocalFunctionsRead.{local_function_read}
use Rattle.reads_back.proofs.MarksSame.{OwnPartsMade}
use Rattle.reads_back.proofs.NameReads.{AreListed}
use Rattle.reads_back.proofs.NamedSame.{lean_values}
use Rattle.reads_back.proofs.PathReads.{path_reads}
use Rattle.reads_back.proofs.Rewriting.{IsMadeBy, RewrittenAct, AreAgain, OwnListed}
use Rattle.reads_back.proofs.TargetsCome.{ReadsTarget, ReadsTargets}
use Rattle.reads_back.proofs.Tests.{first_of_both, not_so}
use Rattle.reads_back.proofs.ValueReads.{call_read, reads_all}
use Rattle.reads_back.proofs.WordsRead.{IsQuiet}
use Rattle.reads_back.proofs.WrittenSame.{rewritten_all}
use Rattle.reads_back.proofs.WrittenFormed.{AreFineLeft}

-- the locals that it declares start behind its words
abbrev pub StartsWith : Function → Statement → Situation → (last : ℕ) → Type 0
StartsWith f (local_statement names es) s last = StartHere f s.scope names last
StartsWith f (local_function text body) s last = StartHere f s.scope (text ∷ []) last
StartsWith f statement s last = Unit {0}

-- an assignment is over behind its words
abbrev pub EndsAt : Function → Statement → Situation → (last : ℕ) → Type 0
EndsAt f (assignment targets es) s last = IsOver f s.scope s.base last
EndsAt f statement s last = Unit {0}

-- what is known of the functions that are left where so many were made, and of the parts of the source that they are
pub record AreLeft (f : Function) (g : Fn) (lefts : ℕ → List (Option Inner)) (of : ℕ → Part) : Type 0 where
  pub again : AreAgain f g lefts
  pub fine : (made : ℕ) → AreFineLeft (lefts made)
  pub parts : (made : ℕ) → ArePartsLeft of (lefts made)
  pub made : (active : List Active) (listed : List ℕ) → AreListed f g active listed → ArePartsMade g active of

module _ {f : Function} {g : Fn} {active : List Active} {listed : List ℕ} {z : Maker} (made : IsMadeBy f g active listed z) {lefts : ℕ → List (Option Inner)} {of : ℕ → Part} (left : AreLeft f g lefts of) where
  abbrev at : Place
  at = place f.of listed f.short

  pub all_written : (deep : ℕ) → deep ≤ 200 → AllWritten f g active listed z lefts deep
  all_written deep low e has few = (rewritten_all lefts made left.again e has (omega (arith, low, few))).value

  -- the functions in the local of a local function have their parts too
  own_parts : (s : Statement) → OwnListed f g active s → OwnPartsMade g active of s
  own_parts (local_function text body) own = λ x ahead is. let all = own x ahead is in left.made (active ++ x ∷ []) all.0 all.1
  own_parts (call_statement e) own = tt
  own_parts (assignment targets es) own = tt
  own_parts (local_statement names es) own = tt
  own_parts (return_statement es) own = tt
  own_parts s own = own

  -- ---- what is written

  module _ (s : Statement) (is : IsAct s) (few : lean_depth s ≤ 199) (own : OwnListed f g active s) where
    pub written : (before behind : ℕ) (acted : Acted) → IsActed g active s before behind acted → RewrittenAct f g active listed z lefts before behind s acted
    written before behind acted acts = act_rewritten lefts made left.again 199 s before behind acted (all_written 199 (omega arith)) (omega arith) few is own acts

    can : CanAct f g active listed lefts s
    can = record { can = λ before behind acted acts. (written before behind acted acts).can }

    few_levels : (before behind : ℕ) (acted : Acted) (n : ℕ) → IsActed g active s before behind acted → act_levels at n (lefts before) acted ≤ 3 * lean_depth s + 204
    few_levels before behind acted n acts = (written before behind acted acts).few n

    pub written_formed : (before behind : ℕ) (acted : Acted) (n : ℕ) → IsActed g active s before behind acted → formed_statement (act_statement at n (lefts before) acted) ≡ true
    written_formed before behind acted n acts = act_formed at g active s before behind acted n (lefts before) (left.fine before) is acts (written before behind acted acts).can

    -- its levels are enough for it
    pub written_shallow : (before behind : ℕ) (acted : Acted) (n : ℕ) → IsActed g active s before behind acted → suc (depth_of_statement (act_statement at n (lefts before) acted)) ≤ act_levels at n (lefts before) acted
    written_shallow before behind acted n acts =
        let levels = few_levels before behind acted n acts in
        act_shallow at g active s before behind acted n (lefts before) (left.fine before) is acts (written before behind acted acts).can (omega (arith, levels, few))

    pub written_marks : (before behind : ℕ) (acted : Acted) (n : ℕ) → IsActed g active s before behind acted → SamePart (statement_part 1 (act_statement at n (lefts before) acted)) (statement_part 1 (one_line_statement s))
    written_marks before behind acted n acts = act_marks made.is_function made.all of (left.made active listed made.all) s (omega (arith, few)) own (own_parts s own) before behind acted n (lefts before) (left.parts before) is acts (written before behind acted acts).can

    pub written_ends : (before behind : ℕ) (acted : Acted) (n : ℕ) → IsActed g active s before behind acted → ends_block (act_statement at n (lefts before) acted) ≡ ends_block s
    written_ends before behind acted n acts = act_ends at g active s before behind acted n (lefts before) acts

  -- ---- what is read

  -- what is indexed by a name, which may be a path of any length
  on_reads : (line : ℕ) (on : Expression) (text : Text) → HasCore on → IsPathOr (IsLow 200) (field_expression line on text) → ReadsCore f g active listed on
  on_reads line on text has (inl path) = path_reads made.is_function made.all on has (first_of_both _ _ path)
  on_reads line on text has (inr few) = (reads_all made.is_function made.all on has (omega (arith, few))).one

  target_reads : (target : Expression) → IsActTarget target → IsPathOr (IsLow 200) target → ReadsTarget f g active listed target
  target_reads (name_expression line text) is few = tt
  target_reads (index_expression line on key) is (inl path) = not_so path
  target_reads (index_expression line on key) is (inr few) = ((reads_all made.is_function made.all on is.0 (omega (arith, few))).one, (reads_all made.is_function made.all key is.1 (omega (arith, few))).one)
  target_reads (field_expression line on text) is few = on_reads line on text is few
  target_reads target is few = absurd is

  targets_read : (targets : Expressions) → AreActTargets targets → ArePathsOr (IsLow 200) targets → ReadsTargets f g active listed targets
  targets_read no_expressions are few = tt
  targets_read (syntax.expression target targets) are few = (target_reads target are.0 few.0, targets_read targets are.1 few.1)

  pub act_read : (s : Statement) → IsAct s → lean_depth s ≤ 199 → OwnListed f g active s → length listed ≡ length active → (after : List Active) (p q : Spot) → StatementAt g None s active after p q → (now : Situation) → HasLocals active listed now → now.left ≡ lefts p.functions → now.entries ≡ [] → now.taken ≡ now.seen →
      IsQuiet f now.scope p.pc q.pc → StartsWith f s now q.pc → EndsAt f s now q.pc → ActRead f g active s p.functions q.functions now p.pc q.pc
  act_read (call_statement e) is few own as_many after p q stands now locals left_is empty taken quiet starts ends =
      let call = call_read made.is_function made.all e is.0 is.1 (omega (arith, few)) in
      call_statement_read made.is_function e call.0 call.1 (can (call_statement e) is few own) p q now locals left_is empty taken quiet stands.part_at
  act_read (assignment targets es) is few own as_many after p q stands now locals left_is empty taken quiet starts ends =
      assignment_read made.is_function made.all targets es is (targets_read targets is.targets (targets_low 200 targets es (omega (arith, few)))) (omega (arith, few, lean_values targets es)) (can (assignment targets es) is few own) p q now locals left_is empty taken quiet ends stands.part_at
  act_read (local_statement names es) is few own as_many after p q stands now locals left_is empty taken quiet starts ends =
      local_read made.is_function made.all names es is.1 (omega (arith, few)) (can (local_statement names es) is few own) after p q now locals left_is empty taken quiet starts stands
  act_read (return_statement es) is few own as_many after p q stands now locals left_is empty taken quiet starts ends =
      return_read made.is_function made.all es is (omega (arith, few)) (can (return_statement es) is few own) p q now locals left_is empty taken quiet stands.part_at
  act_read (local_function text body) is few own as_many after p q stands now locals left_is empty taken quiet starts ends =
      local_function_read made.is_function made.all as_many made.is_function.told text body (can (local_function text body) is few own) after p q stands now locals left_is empty taken quiet starts
  act_read s is few own as_many after p q stands now locals left_is empty taken quiet starts ends = absurd is
