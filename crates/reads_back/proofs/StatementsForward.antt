-- The words of a statement and of the leaf of a condition are one or more.
use Rattle.std.proofs.Common.{◌≡◌, ◌<◌, ◌≤◌, ℕ, zero, suc, ◌+◌, Bool, true, false, List, [], ◌∷◌, length, Some, None, refl, sym, ap, ◌∙◌, arith, subst}
use Rattle.std.specs.Prelude.{◌==◌}
use Rattle.lua_num.specs.Bytes.{Text}
use Rattle.lua_tree.specs.Syntax as syntax
use Rattle.lua_tree.specs.Syntax.{Expression, Expressions, no_expressions, name_expression, index_expression, field_expression, binary_expression, unary_expression, parenthesized, Statement, assignment, call_statement, local_function, local_statement, return_statement}
use Rattle.lua_tree.specs.WellFormed.{has_expressions}
use Rattle.lua_tree.specs.declared.tree.BinaryOp.{BinaryOp}
use Rattle.lua_tree.specs.declared.tree.UnaryOp.{UnaryOp}
use Rattle.opcode.specs.declared.op.Op.{Op}
use Rattle.recover_expr.specs.Situation.{Function}
use Rattle.scheme.specs.Expressions.{Target, fold, is_comparison, name_target, part_target}
use Rattle.scheme.specs.Making.{Where, in_globals, in_register, in_upvalue}
use Rattle.scheme.specs.Statements.{clashes, with_copy}
use Rattle.scheme.specs.declared.making.Active.{Active}
use Rattle.scheme_stands.specs.Expressions.{BinaryAt, BinaryJump, CompareAt, LoadOr, PartTargetAt, TestAt, form_of, rel_single}
use Rattle.scheme_stands.specs.Lists.{rels_open}
use Rattle.scheme_stands.specs.Relation.{StatementAt, all_related, related}
use Rattle.scheme_stands.specs.Statements.{AssignAt, CopiesAt, CopyBy, EachStoredAt, ReturnAt, ReturnBy, SetAt, StoreAt, StoreRegisterAt, StoredFromAt, StoresBy, TargetsAt}
use Rattle.scheme_stands.specs.Words.{Fn, Spot, Stretch}
use Rattle.reads_back.specs.Acted.{AreActTargets, Assigns, IsAct, IsActTarget}
use Rattle.reads_back.specs.Cores.{AllHaveCores, HasCore}
use Rattle.reads_back.proofs.ClosureReads.{closure_later}
use Rattle.reads_back.proofs.LeavesRead.{value_tests}
use Rattle.reads_back.proofs.NameReads.{AreListed}
use Rattle.reads_back.proofs.OperandReads.{text_forward}
use Rattle.reads_back.proofs.SomeNames.{some_names}
use Rattle.reads_back.proofs.TestedAs.{HasTest, HasTestBy}
use Rattle.reads_back.proofs.WordsForward.{IsForward, adjust_later, as_list, list_forward, operand_forward, rk_forward, value_forward}
use Rattle.reads_back.proofs.WordsRead.{IsFunction}

pub some_related : (g : Fn) (es : Expressions) → has_expressions es ≡ true → 0 < length (all_related g es)
some_related g no_expressions some = absurd cc
some_related g (syntax.expression e es) some = omega arith

copied_length : (x copy : ℕ) (targets : List Target) → length (with_copy x copy targets) ≡ length targets
copied_length x copy [] = refl
copied_length x copy (target ∷ targets) = ap suc (copied_length x copy targets)

-- ---- stores

set_later : (g : Fn) (text : Text) (w : Where) (r : ℕ) (p q : Spot) → SetAt g text w r p q → p.pc < q.pc
set_later g text (in_register x) r p q at = omega (arith, at.next)
set_later g text (in_upvalue slot) r p q at = omega (arith, at.next)
set_later g text in_globals r p q at = omega (arith, at.word.next)

register_later : (g : Fn) (target : Target) (r : ℕ) (p q : Spot) → StoreRegisterAt g target r p q → p.pc < q.pc
register_later g (name_target text w) r p q at = set_later g text w r p q at
register_later g (part_target on key on_local key_local) r p q at = omega (arith, at.next)

stored_forward : (g : Fn) (r : ℕ) (targets : List Target) (p q : Spot) → StoredFromAt g r targets p q → p.pc ≤ q.pc
stored_forward g r [] p q at = omega (arith, at.pc)
stored_forward g r (target ∷ targets) p q at = omega (arith, stored_forward g (suc r) targets p at.mid at.first_at, register_later g target r at.mid q at.second_at)

module _ {f : Function} {g : Fn} {active : List Active} {listed : List ℕ} (is_function : IsFunction f g) (all : AreListed f g active listed) where
  -- ---- targets

  part_forward : (on : Expression) → HasCore on → (key_at : List Active → (free x free1 : ℕ) → Stretch) (key_local : List Active → Spot → Bool) → ((free x free1 : ℕ) (p q : Spot) → key_at active free x free1 p q → p.pc ≤ q.pc) →
      (target : Target) (free free1 : ℕ) (p q : Spot) → PartTargetAt g (related g on) key_at key_local active free target free1 p q → p.pc ≤ q.pc
  part_forward on has key_at key_local key_on target free free2 p q at =
      omega (arith, operand_forward is_function all on (value_forward is_function all on has) free at.t at.free1 p at.mid at.on_at, key_on at.free1 at.k free2 at.mid q at.key_at)

  target_forward : (e : Expression) → IsActTarget e → (target : Target) (free free1 : ℕ) (p q : Spot) → (related g e).target active free target free1 p q → p.pc ≤ q.pc
  target_forward (name_expression line text) is target free free1 p q at = omega (arith, at.passed.pc)
  target_forward (index_expression line on key) is target free free1 p q at = part_forward on is.0 _ _ (rk_forward is_function all key (value_forward is_function all key is.1)) target free free1 p q at
  target_forward (field_expression line on text) is target free free1 p q at = part_forward on is _ _ (text_forward g text) target free free1 p q at
  target_forward e is target free free1 p q at = absurd is

  targets_forward : (es : Expressions) → AreActTargets es → (targets : List Target) (free free1 : ℕ) (p q : Spot) → TargetsAt (all_related g es) active targets free free1 p q → (p.pc ≤ q.pc) × (length targets ≡ length (all_related g es))
  targets_forward no_expressions are targets free free1 p q at = (omega (arith, at.same.pc), ap (λ (targets : List Target). length targets) at.is)
  targets_forward (syntax.expression e es) are targets free free2 p q at =
      let rest = targets_forward es are.1 at.others at.free1 free2 at.mid q at.others_at in
      (omega (arith, target_forward e are.0 at.target free at.free1 p at.mid at.target_at, rest.0), ap (λ (targets : List Target). length targets) at.is ∙ ap suc rest.1)

  copy_forward : (chosen : Bool) (x : ℕ) (targets places : List Target) (free free1 : ℕ) (p q : Spot) → CopyBy chosen g x targets places free free1 p q → (p.pc ≤ q.pc) × (length places ≡ length targets)
  copy_forward true x targets places free free1 p q at = (omega (arith, at.word.next), ap (λ (targets : List Target). length targets) at.is ∙ copied_length x free targets)
  copy_forward false x targets places free free1 p q at = (omega (arith, at.same.pc), ap (λ (targets : List Target). length targets) at.is)

  copies_forward : (count : ℕ) (targets places : List Target) (free free1 : ℕ) (p q : Spot) → CopiesAt g count targets places free free1 p q → (p.pc ≤ q.pc) × (length places ≡ length targets)
  copies_forward zero targets places free free1 p q at = (omega (arith, at.same.pc), ap (λ (targets : List Target). length targets) at.is)
  copies_forward (suc x) targets places free free1 p q at =
      let one = copies_forward x targets at.between free at.free1 p at.mid at.earlier_at in
      let two = copy_forward (clashes x targets) x at.between places at.free1 free1 at.mid q at.later_at in
      (omega (arith, one.0, two.0), two.1 ∙ one.1)

  -- ---- assignments

  store_later : (target : Target) (e : Expression) → IsForward g active e → (free : ℕ) (p q : Spot) → StoreAt g target (related g e) active free p q → p.pc < q.pc
  store_later (name_target text (in_register x)) e forward free p q at = forward.value free x p q at
  store_later (name_target text (in_upvalue slot)) e forward free p q at = let word = at.words_at in omega (arith, operand_forward is_function all e forward free at.x at.free1 p at.mid at.operand_at, word.next)
  store_later (name_target text in_globals) e forward free p q at = let word = at.words_at.word in omega (arith, operand_forward is_function all e forward free at.x at.free1 p at.mid at.operand_at, word.next)
  store_later (part_target on key on_local key_local) e forward free p q at = let word = at.words_at in omega (arith, rk_forward is_function all e forward free at.x at.free1 p at.mid at.operand_at, word.next)

  each_stored_forward : (targets : List Target) (es : Expressions) → AllHaveCores es → (free : ℕ) (p q : Spot) → EachStoredAt g targets (all_related g es) active free p q → p.pc ≤ q.pc
  each_stored_forward [] es has free p q at = omega (arith, at.pc)
  each_stored_forward (target ∷ []) no_expressions has free p q at = omega (arith, at.pc)
  each_stored_forward (target ∷ []) (syntax.expression e es) has free p q at = omega (arith, store_later target e (value_forward is_function all e has.0) free p q at)
  each_stored_forward (target ∷ other ∷ targets) no_expressions has free p q at = omega (arith, at.pc)
  each_stored_forward (target ∷ other ∷ targets) (syntax.expression e es) has free p q at =
      let others = at.others in
      omega (arith, (value_forward is_function all e has.0).value free free p at.mid at.first, each_stored_forward (other ∷ targets) es has.1 (free + 1) at.mid others.mid others.first_at, register_later g target free others.mid q others.second_at)

  each_stored_later : (targets : List Target) (es : Expressions) → AllHaveCores es → 0 < length targets → 0 < length (all_related g es) → (free : ℕ) (p q : Spot) → EachStoredAt g targets (all_related g es) active free p q → p.pc < q.pc
  each_stored_later [] es has some also free p q at = absurd (omega (arith, some))
  each_stored_later targets no_expressions has some also free p q at = absurd (omega (arith, also))
  each_stored_later (target ∷ []) (syntax.expression e es) has some also free p q at = store_later target e (value_forward is_function all e has.0) free p q at
  each_stored_later (target ∷ other ∷ targets) (syntax.expression e es) has some also free p q at =
      let others = at.others in
      omega (arith, (value_forward is_function all e has.0).value free free p at.mid at.first, each_stored_forward (other ∷ targets) es has.1 (free + 1) at.mid others.mid others.first_at, register_later g target free others.mid q others.second_at)

  stores_later : (as_many : Bool) (places : List Target) (es : Expressions) → AllHaveCores es → 0 < length places → 0 < length (all_related g es) → (free : ℕ) (p q : Spot) → StoresBy as_many g places (all_related g es) active free p q → p.pc < q.pc
  stores_later true places es has some also free p q at = each_stored_later places es has some also free p q at
  stores_later false places es has some also free p q at = omega (arith, adjust_later is_function all es has (length places) free p at.mid some at.first_at, stored_forward g free places at.mid q at.second_at)

  pub assignment_later : (targets es : Expressions) → Assigns targets es → (p q : Spot) → AssignAt g (all_related g targets) (all_related g es) active p q → p.pc < q.pc
  assignment_later targets es assigns p q at =
      let parts = targets_forward targets assigns.targets at.parts (length active) at.free1 p at.mid at.targets_at in
      let copies = copies_forward (length active) at.parts at.places at.free1 at.free2 at.mid at.last at.copies_at in
      let some = some_related g targets assigns.some in
      let many = parts.1 in
      let same = copies.1 in
      let stores = stores_later (length (all_related g es) == length (all_related g targets)) at.places es assigns.values (omega (arith, some, many, same)) (some_related g es assigns.given) at.free2 at.last q at.stores_at in
      omega (arith, parts.0, copies.0, stores)

  -- ---- other statements

  returned_later : (call dots : Bool) (e : Expression) → HasCore e → (p q : Spot) → ReturnBy call dots g (related g e) active p q → p.pc < q.pc
  returned_later true dots e has p q at = let word = at.second_at in omega (arith, (value_forward is_function all e has).multi (length active) Op.TailCall None p at.mid at.first_at, word.next)
  returned_later false true e has p q at =
      let word = at.second_at in
      let is_open = rels_open (related g e ∷ []) in
      omega (arith, list_forward is_function all (syntax.expression e no_expressions) (has, tt) is_open Op.Call None (length active) p at.mid (as_list is_function all is_open (related g e ∷ []) (length active) p at.mid at.first_at), word.next)
  returned_later false false e has p q at = let word = at.words_at in omega (arith, operand_forward is_function all e (value_forward is_function all e has) (length active) at.x at.free1 p at.mid at.operand_at, word.next)

  return_later : (es : Expressions) → AllHaveCores es → (p q : Spot) → ReturnAt g (all_related g es) active p q → p.pc < q.pc
  return_later no_expressions has p q at = omega (arith, at.next)
  return_later (syntax.expression e no_expressions) has p q at = returned_later (related g e).form.call (related g e).form.dots e has.0 p q at
  return_later (syntax.expression e (syntax.expression d es)) has p q at =
      let word = at.second_at in
      let whole = syntax.expression e (syntax.expression d es) in
      let is_open = rels_open (all_related g whole) in
      omega (arith, list_forward is_function all whole has is_open Op.Call None (length active) p at.mid (as_list is_function all is_open (all_related g whole) (length active) p at.mid at.first_at), word.next)

  pub act_later : (s : Statement) → IsAct s → (after : List Active) (p q : Spot) → StatementAt g None s active after p q → p.pc < q.pc
  act_later (call_statement e) is after p q at = (value_forward is_function all e is.1).multi (length active) Op.Call (Some 0) p q at.part_at
  act_later (assignment targets es) is after p q at = assignment_later targets es is p q at.part_at
  act_later (local_statement names es) is after p q at = omega (arith, adjust_later is_function all es is.1 (length names) (length active) at.mid q (some_names names is.0) at.values_at, at.same)
  act_later (local_function text body) is after p q at = omega (arith, closure_later at.mid q at.closure_at, at.same)
  act_later (return_statement es) is after p q at = return_later es is p q at.part_at
  act_later s is after p q at = absurd is

  -- ---- leaves of conditions

  module _ (free : ℕ) (truth : Bool) (label : ℕ) (p q : Spot) where
    value_test_later : (e : Expression) → HasCore e → TestAt g active (related g e) free truth label p q → p.pc < q.pc
    value_test_later e has at =
        let words = at.words_at in
        let word = words.first_at in
        let jump = words.second_at in
        omega (arith, operand_forward is_function all e (value_forward is_function all e has) free at.x at.free1 p at.mid at.operand_at, word.next, jump.next)

    compare_later : (op : BinaryOp) (left right : Expression) → HasCore left → HasCore right → CompareAt g op (related g left) (related g right) active free truth label p q → p.pc < q.pc
    compare_later op left right one two at =
        let words = at.words_at in
        let word = words.first_at in
        let jump = words.second_at in
        omega (
          arith,
          rk_forward is_function all left (value_forward is_function all left one) free at.x at.free1 p at.mid at.left_at,
          rk_forward is_function all right (value_forward is_function all right two) at.free1 at.y at.free2 at.mid at.last at.right_at,
          word.next,
          jump.next,
        )

    operator_later : (compares : Bool) (line : ℕ) (op : BinaryOp) (left right : Expression) → is_comparison op ≡ compares → HasTestBy compares left right (binary_expression line op left right) →
        (related g (binary_expression line op left right)).jump_if active free truth label p q → p.pc < q.pc
    operator_later true line op left right is has at =
        let e = binary_expression line op left right in
        let value = rel_single g (form_of e) (LoadOr (fold e) g (BinaryAt g op (related g left) (related g right))) in
        compare_later op left right has.0 has.1 (subst (λ (compares : Bool). BinaryJump compares g op (related g left) (related g right) value active free truth label p q) is at)
    operator_later false line op left right is has at =
        let e = binary_expression line op left right in
        value_test_later e has.0 (value_tests g active free truth label p q e (subst (λ (compares : Bool). HasTestBy compares left right e) (sym is) has) has.0 has.1 at)

    pub test_later : (e : Expression) → HasTest e → (related g e).jump_if active free truth label p q → p.pc < q.pc
    test_later (binary_expression line op left right) has at = operator_later (is_comparison op) line op left right refl has at
    test_later (unary_expression line UnaryOp.Not e) has at = absurd has
    test_later (parenthesized line e) has at = absurd has
    test_later e has at = value_test_later e has.0 (value_tests g active free truth label p q e has has.0 has.1 at)
