-- The words of lists, constructors and assignments capture what the marks of their parts do.
use Rattle.std.proofs.Common.{◌≡◌, ℕ, zero, suc, ◌+◌, ◌-◌, ◌/◌, nat_le, nat_lt, Bool, true, false, ◌&&◌, List, [], ◌∷◌, length, refl, sym, ap, ◌∙◌, arith}
use Rattle.std.proofs.lemmas.Bool.{eqb-true}
use Rattle.std.proofs.lemmas.Bool.Decides.{nat_tests}
use Rattle.std.specs.Prelude.{◌==◌, Some, None}
use Rattle.lua_num.specs.Bytes.{Text}
use Rattle.lua_tree.specs.Outline as outline
use Rattle.lua_tree.specs.Outline.{Mark, Place, both, expression_part, expressions_part, fields_part, nothing}
use Rattle.lua_tree.specs.Syntax as syntax
use Rattle.lua_tree.specs.Syntax.{Expression, Expressions, Fields, keyed, named, no_expressions, no_fields, positional}
use Rattle.lua_tree.specs.WellFormed.{are_targets, is_target}
use Rattle.opcode.specs.declared.op.Op.{Op}
use Rattle.recover_expr.specs.Situation.{Function}
use Rattle.scheme.specs.Expressions.{Target, Want, name_target, part_target}
use Rattle.scheme.specs.Lists.{pending_after}
use Rattle.scheme.specs.Making.{Where, in_globals, in_register, in_upvalue}
use Rattle.scheme.specs.Statements.{clashes}
use Rattle.scheme.specs.declared.making.Active.{Active}
use Rattle.scheme.specs.declared.making.Piece.{Piece}
use Rattle.scheme_stands.specs.Expressions.{Rel, RkAt, form_of, several}
use Rattle.scheme_stands.specs.Lists.{AdjustAt, AdjustBy, AllMultiAt, AllNextAt, FilledAt, ItemBy, OpenBy, OpenListAt, SetListAt, SetListBy, SetListIf, is_last_item, rels_open}
use Rattle.scheme_stands.specs.Relation.{ItemsAt, all_related, related}
use Rattle.scheme_stands.specs.Statements.{AssignAt, CopiesAt, CopyBy, EachStoredAt, SetAt, StoreAt, StoreRegisterAt, StoredFromAt, StoresBy, TargetsAt}
use Rattle.scheme_stands.specs.Words.{Fn, Spot, Stretch, instr_by}
use Rattle.scheme_stands.proofs.Counting.{fields_closed}
use Rattle.scheme_stands.proofs.Forms.{form_is}
use Rattle.scheme_stands.proofs.Here.{tame_fields}
use Rattle.scheme_stands.proofs.Walks.{and_left, and_right, copies_length, last_still, targets_length}
use Rattle.reads_back.proofs.CapturedExpressions.{RelCatches, ValueCatches, operand_caught, rk_caught, text_still, two_caught}
use Rattle.reads_back.proofs.CapturedStretches.{Onward, Catches, Catching, Still, abc_still, abx_still, caught_from, caught_none, caught_on, caught_still, caught_then, piece_there, still_here, still_same, still_then}
use Rattle.reads_back.proofs.CapturedWords.{list_skips, word_spans}
use Rattle.reads_back.proofs.WordsRead.{abc_is_read}

module _ {f : Function} {g : Fn} {all : Onward} {base : Place} {active : List Active} (of : Catching f g all base active) where
  abbrev Caught : outline.Part → (p q : Spot) → Type 0
  Caught part p q = Catches f all base active part p q

  abbrev pub ExpressionCaught : Expression → Type 0
  ExpressionCaught e = RelCatches f all base active (expression_part e) (is_target e) (related g e)

  abbrev pub AllCaught : Expressions → Type 0
  AllCaught no_expressions = Unit {0}
  AllCaught (syntax.expression e rest) = ExpressionCaught e × AllCaught rest

  -- ---- lists

  next_caught : (es : Expressions) → AllCaught es → (free : ℕ) (p q : Spot) → AllNextAt g (all_related g es) active free p q → Caught (expressions_part es) p q
  next_caught no_expressions each free p q at = caught_none (still_same at)
  next_caught (syntax.expression e es) each free p q at = caught_then (expression_part e) (expressions_part es) (each.0.value.to_reg free free p at.mid at.first) (next_caught es each.1 (free + 1) at.mid q at.others)

  -- one expression alone
  pub alone_caught : (e : Expression) (p q : Spot) → Caught (expression_part e) p q → Caught (expressions_part (syntax.expression e no_expressions)) p q
  alone_caught e p q one = caught_then (expression_part e) nothing one (caught_none still_here)

  -- the last one gives several values
  multi_caught : (want : Want) (es : Expressions) → AllCaught es → rels_open (all_related g es) ≡ true → (free : ℕ) (p q : Spot) → AllMultiAt g Op.Call want (all_related g es) active free p q → Caught (expressions_part es) p q
  multi_caught want no_expressions each is free p q at = caught_none (still_same at)
  multi_caught want (syntax.expression e no_expressions) each is free p q at = alone_caught e p q (each.0.multi is free Op.Call want refl p q at)
  multi_caught want (syntax.expression e (syntax.expression d es)) each is free p q at =
      caught_then (expression_part e) (expressions_part (syntax.expression d es)) (each.0.value.to_reg free free p at.mid at.first) (multi_caught want (syntax.expression d es) each.1 is (free + 1) at.mid q at.others)

  open_by : (several : Bool) (es : Expressions) → AllCaught es → rels_open (all_related g es) ≡ several → (free : ℕ) (p q : Spot) → OpenBy several g (all_related g es) active free p q → Caught (expressions_part es) p q
  open_by true es each is free p q at = multi_caught None es each is free p q at
  open_by false es each is free p q at = next_caught es each free p q at

  pub open_caught : (es : Expressions) → AllCaught es → (free : ℕ) (p q : Spot) → OpenListAt g (all_related g es) active free p q → Caught (expressions_part es) p q
  open_caught es each free p q at = open_by (rels_open (all_related g es)) es each refl free p q at

  filled_caught : (several : Bool) (es : Expressions) (missing : ℕ) → AllCaught es → rels_open (all_related g es) ≡ several → (free : ℕ) (p q : Spot) → FilledAt several g (all_related g es) missing active free p q → Caught (expressions_part es) p q
  filled_caught true es missing each is free p q at = multi_caught (Some (missing + 1)) es each is free p q at
  filled_caught false es missing each is free p q at = caught_on (next_caught es each free p at.mid at.first_at) (abc_still of.is_function refl at.second_at.word)

  adjust_by : (fewer : Bool) (es : Expressions) (n : ℕ) → AllCaught es → (free : ℕ) (p q : Spot) → AdjustBy fewer g (all_related g es) n active free p q → Caught (expressions_part es) p q
  adjust_by true es n each free p q at = filled_caught (rels_open (all_related g es)) es (n - length (all_related g es)) each refl free p q at
  adjust_by false es n each free p q at = next_caught es each free p q at

  pub adjust_caught : (es : Expressions) (n : ℕ) → AllCaught es → (free : ℕ) (p q : Spot) → AdjustAt g (all_related g es) n active free p q → Caught (expressions_part es) p q
  adjust_caught es n each free p q at = adjust_by (nat_lt (length (all_related g es)) n) es n each free p q at

  -- ---- constructors

  abbrev pub FieldsCaught : Fields → Type 0
  FieldsCaught no_fields = Unit {0}
  FieldsCaught (positional e separator rest) = ExpressionCaught e × FieldsCaught rest
  FieldsCaught (named text e separator rest) = ExpressionCaught e × FieldsCaught rest
  FieldsCaught (keyed key e separator rest) = ExpressionCaught key × ExpressionCaught e × FieldsCaught rest

  -- a SETLIST, with the further word of its number or without
  set_list_by : (small : Bool) (t n block : ℕ) → (block == 0) ≡ false → (p q : Spot) → SetListBy small g t n block p q → Still f p q
  set_list_by true t n block some p q at =
      let none : list_skips (block == 0) ≡ 0 = ap list_skips some in
      record {
        spans = word_spans f p.pc q.pc (instr_by p.pc (Piece.Abc Op.SetList t n block)) (piece_there of.is_function at (abc_is_read of.is_function at)) (omega (arith, at.next, none));
        ahead = at.ahead;
      }
  set_list_by false t n block some p q at =
      let first = at.first_at in
      let second = at.second_at in
      record {
        spans = word_spans f p.pc q.pc (instr_by p.pc (Piece.Abc Op.SetList t n 0)) (piece_there of.is_function first (abc_is_read of.is_function first)) (omega (arith, first.next, second.next));
        ahead = second.ahead ∙ first.ahead;
      }

  set_list_still : (t n done : ℕ) (p q : Spot) → SetListAt g t n done p q → Still f p q
  set_list_still t n done p q at =
      let block = (done - 1) / 50 + 1 in
      set_list_by (nat_le block 511) t n block (some ((done - 1) / 50)) p q at
    where
      some : (m : ℕ) → (m + 1 == 0) ≡ false
      some m = grind (arith, nat_tests)

  set_list_if : (are : Bool) (t n done : ℕ) (p q : Spot) → SetListIf are g t n done p q → Still f p q
  set_list_if true t n done p q at = set_list_still t n done p q at
  set_list_if false t n done p q at = still_same at

  item_caught : (left_open : Bool) (e : Expression) (items : Fields) → ExpressionCaught e → (is_last_item items && several (form_of e)) ≡ left_open → (t done pending : ℕ) (rest : Stretch) →
      ((m n : Spot) → rest m n → Caught (fields_part items) m n) → (p q : Spot) → ItemBy left_open g (related g e) active t done pending rest p q → Caught (both (expression_part e) (fields_part items)) p q
  item_caught true e items one is t done pending rest others p q at =
      caught_then (expression_part e) (fields_part items)
      (caught_on (one.multi (ap several (form_is g e) ∙ and_right (is_last_item items) (several (form_of e)) is) (t + suc pending) Op.Call None refl p at.mid at.first_at) (set_list_still t 0 (suc done) at.mid q at.second_at))
      (caught_still (tame_fields items) (fields_closed items) (last_still all.marks g items (and_left (is_last_item items) (several (form_of e)) is)) still_here)
  item_caught false e items one is t done pending rest others p q at =
      let more = at.others in
      caught_then (expression_part e) (fields_part items) (one.value.to_reg (t + suc pending) (t + suc pending) p at.mid at.first)
      (caught_from (set_list_if (suc pending == 50) t 50 (suc done) at.mid more.mid more.first_at) (others more.mid q more.second_at))

  pub items_caught : (items : Fields) → FieldsCaught items → (t done pending : ℕ) (p q : Spot) → ItemsAt g items active t done pending p q → Caught (fields_part items) p q
  items_caught no_fields each t done pending p q at = caught_none (set_list_if (nat_lt 0 pending) t pending done p q at)
  items_caught (positional e separator rest) each t done pending p q at =
      item_caught (is_last_item rest && several (form_of e)) e rest each.0 refl t done pending (ItemsAt g rest active t (suc done) (pending_after (suc pending))) (items_caught rest each.1 t (suc done) (pending_after (suc pending))) p q at
  items_caught (named text e separator rest) each t done pending p q at =
      let item = at.first_at in
      caught_then (expression_part e) (fields_part rest)
      (caught_on (caught_from (text_still of text (t + suc pending) item.x item.free1 p item.mid item.left_at) (rk_caught of (expression_part e) (related g e) each.0.value item.free1 item.y item.free2 item.mid item.last item.right_at)) (abc_still of.is_function refl item.words_at))
      (items_caught rest each.1 t done pending at.mid q at.second_at)
  items_caught (keyed key e separator rest) each t done pending p q at =
      caught_then (both (expression_part key) (expression_part e)) (fields_part rest)
      (two_caught of (expression_part key) (expression_part e) (RkAt g active (related g key)) (RkAt g active (related g e)) (rk_caught of (expression_part key) (related g key) each.0.value) (rk_caught of (expression_part e) (related g e) each.1.value) _
      (λ k v p q at. abc_still of.is_function refl at) (t + suc pending) p at.mid at.first_at)
      (items_caught rest each.2 t done pending at.mid q at.second_at)

  -- ---- assignments

  set_still : (text : Text) (w : Where) (r : ℕ) (p q : Spot) → SetAt g text w r p q → Still f p q
  set_still text (in_register x) r p q at = abc_still of.is_function refl at
  set_still text (in_upvalue slot) r p q at = abc_still of.is_function refl at
  set_still text in_globals r p q at = abx_still of.is_function refl at.word

  store_still : (target : Target) (r : ℕ) (p q : Spot) → StoreRegisterAt g target r p q → Still f p q
  store_still (name_target text w) r p q at = set_still text w r p q at
  store_still (part_target on key on_local key_local) r p q at = abc_still of.is_function refl at

  store_caught : (part : outline.Part) (c : Rel) → ValueCatches f all base active part c → (target : Target) (free : ℕ) (p q : Spot) → StoreAt g target c active free p q → Caught part p q
  store_caught part c v (name_target text (in_register x)) free p q at = v.to_reg free x p q at
  store_caught part c v (name_target text (in_upvalue slot)) free p q at = caught_on (operand_caught of part c v free at.x at.free1 p at.mid at.operand_at) (set_still text (in_upvalue slot) at.x at.mid q at.words_at)
  store_caught part c v (name_target text in_globals) free p q at = caught_on (operand_caught of part c v free at.x at.free1 p at.mid at.operand_at) (set_still text in_globals at.x at.mid q at.words_at)
  store_caught part c v (part_target on key on_local key_local) free p q at = caught_on (rk_caught of part c v free at.x at.free1 p at.mid at.operand_at) (abc_still of.is_function refl at.words_at)

  each_caught : (places : List Target) (es : Expressions) → AllCaught es → length places ≡ length (all_related g es) → (free : ℕ) (p q : Spot) → EachStoredAt g places (all_related g es) active free p q → Caught (expressions_part es) p q
  each_caught [] no_expressions each same free p q at = caught_none (still_same at)
  each_caught [] (syntax.expression e es) each same free p q at = absurd (omega (arith, same))
  each_caught (t ∷ []) no_expressions each same free p q at = absurd (omega (arith, same))
  each_caught (t ∷ []) (syntax.expression e no_expressions) each same free p q at = alone_caught e p q (store_caught (expression_part e) (related g e) each.0.value t free p q at)
  each_caught (t ∷ []) (syntax.expression e (syntax.expression d es)) each same free p q at = absurd (omega (arith, same))
  each_caught (t ∷ o ∷ ts) no_expressions each same free p q at = absurd (omega (arith, same))
  each_caught (t ∷ o ∷ ts) (syntax.expression e es) each same free p q at =
      let more = at.others in
      caught_then (expression_part e) (expressions_part es) (each.0.value.to_reg free free p at.mid at.first)
      (caught_on (each_caught (o ∷ ts) es each.1 (omega (arith, same)) (free + 1) at.mid more.mid more.first_at) (store_still t free more.mid q more.second_at))

  stored_still : (r : ℕ) (targets : List Target) (p q : Spot) → StoredFromAt g r targets p q → Still f p q
  stored_still r [] p q at = still_same at
  stored_still r (t ∷ ts) p q at = still_then (stored_still (suc r) ts p at.mid at.first_at) (store_still t r at.mid q at.second_at)

  copy_still : (clash : Bool) (x : ℕ) (targets places : List Target) (free free1 : ℕ) (p q : Spot) → CopyBy clash g x targets places free free1 p q → Still f p q
  copy_still true x targets places free free1 p q at = abc_still of.is_function refl at.word
  copy_still false x targets places free free1 p q at = still_same at.same

  copies_still : (count : ℕ) (targets places : List Target) (free free1 : ℕ) (p q : Spot) → CopiesAt g count targets places free free1 p q → Still f p q
  copies_still zero targets places free free1 p q at = still_same at.same
  copies_still (suc x) targets places free free1 p q at = still_then (copies_still x targets at.between free at.free1 p at.mid at.earlier_at) (copy_still (clashes x targets) x at.between places at.free1 free1 at.mid q at.later_at)

  targets_caught : (ts : Expressions) → AllCaught ts → are_targets ts ≡ true → (targets : List Target) (free free1 : ℕ) (p q : Spot) → TargetsAt (all_related g ts) active targets free free1 p q → Caught (expressions_part ts) p q
  targets_caught no_expressions each are targets free free1 p q at = caught_none (still_same at.same)
  targets_caught (syntax.expression e es) each are targets free free1 p q at =
      caught_then (expression_part e) (expressions_part es) (each.0.target (and_left (is_target e) (are_targets es) are) free at.target at.free1 p at.mid at.target_at)
      (targets_caught es each.1 (and_right (is_target e) (are_targets es) are) at.others at.free1 free1 at.mid q at.others_at)

  stores_caught : (as_many : Bool) (places : List Target) (es : Expressions) → AllCaught es → (as_many ≡ true → length places ≡ length (all_related g es)) → (free : ℕ) (p q : Spot) → StoresBy as_many g places (all_related g es) active free p q → Caught (expressions_part es) p q
  stores_caught true places es each same free p q at = each_caught places es each (same refl) free p q at
  stores_caught false places es each same free p q at = caught_on (adjust_caught es (length places) each free p at.mid at.first_at) (stored_still free places at.mid q at.second_at)

  pub assign_caught : (ts es : Expressions) → AllCaught ts → AllCaught es → are_targets ts ≡ true → (p q : Spot) → AssignAt g (all_related g ts) (all_related g es) active p q → Caught (both (expressions_part ts) (expressions_part es)) p q
  assign_caught ts es to from are p q at =
      let targets = targets_length all.marks g (all_related g ts) active at.parts (length active) at.free1 p at.mid at.targets_at in
      let places = copies_length all.marks g (length active) at.parts at.places at.free1 at.free2 at.mid at.last at.copies_at in
      caught_then (expressions_part ts) (expressions_part es)
      (caught_on (targets_caught ts to are at.parts (length active) at.free1 p at.mid at.targets_at) (copies_still (length active) at.parts at.places at.free1 at.free2 at.mid at.last at.copies_at))
      (stores_caught (length (all_related g es) == length (all_related g ts)) at.places es from (λ is. places ∙ targets ∙ sym (eqb-true _ _ is)) at.free2 at.last q at.stores_at)

  -- one target and one value
  one_stored : (part : outline.Part) (c : Rel) → ValueCatches f all base active part c → (places : List Target) → length places ≡ 1 → (free : ℕ) (p q : Spot) → EachStoredAt g places (c ∷ []) active free p q → Caught part p q
  one_stored part c v [] same free p q at = absurd (omega (arith, same))
  one_stored part c v (t ∷ []) same free p q at = store_caught part c v t free p q at
  one_stored part c v (t ∷ o ∷ ts) same free p q at = absurd (omega (arith, same))

  pub assign_one : (a b : outline.Part) (c d : Rel) → RelCatches f all base active a true c → ValueCatches f all base active b d → (p q : Spot) → AssignAt g (c ∷ []) (d ∷ []) active p q → Caught (both a b) p q
  assign_one a b c d target v p q at =
      let targets = targets_length all.marks g (c ∷ []) active at.parts (length active) at.free1 p at.mid at.targets_at in
      let places = copies_length all.marks g (length active) at.parts at.places at.free1 at.free2 at.mid at.last at.copies_at in
      let next = at.targets_at in
      let behind = still_then {m = at.mid} (still_same next.others_at.same) (copies_still (length active) at.parts at.places at.free1 at.free2 at.mid at.last at.copies_at) in
      caught_then a b (caught_on (target.target refl (length active) next.target next.free1 p next.mid next.target_at) behind) (one_stored b d v at.places (places ∙ targets) at.free2 at.last q at.stores_at)
