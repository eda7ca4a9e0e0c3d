-- The words of lists, constructors, assignments and blocks pass the marks of their parts.
use Rattle.std.proofs.Common.{◌≡◌, ℕ, zero, suc, ◌+◌, ◌-◌, Bool, true, false, ◌&&◌, List, [], ◌∷◌, ◌++◌, length, drop, refl, sym, ap, ◌∙◌, subst, true≢false, arith, append_assoc}
use Rattle.std.specs.Prelude.{Some, None, nat_lt, nat_le, ◌==◌, ◌/◌}
use Rattle.std.proofs.lemmas.Bool.{eqb-true}
use Rattle.lua_num.specs.Bytes.{Text}
use Rattle.lua_tree.specs.Outline as outline
use Rattle.lua_tree.specs.Outline.{Mark, local_name, hidden_local, Place, both, within, nothing, stay, in_loop, declares, reaching, expression_part, expressions_part, fields_part}
use Rattle.lua_tree.specs.Resolved.{declarations_in, functions_in, captured_below, upvalues_below}
use Rattle.lua_tree.specs.Scoping.{Use, uses_among}
use Rattle.lua_tree.specs.Syntax as syntax
use Rattle.lua_tree.specs.Syntax.{Expressions, no_expressions, Expression, Fields, no_fields, positional, named, keyed}
use Rattle.lua_tree.specs.WellFormed.{is_target, are_targets}
use Rattle.opcode.specs.declared.op.Op.{Op}
use Rattle.scheme.specs.Making.{Ahead, Where, in_register, in_upvalue, in_globals}
use Rattle.scheme.specs.Expressions.{Want, Target, name_target, part_target}
use Rattle.scheme.specs.Lists.{pending_after}
use Rattle.scheme.specs.Statements.{with_copy, clashes}
use Rattle.scheme.specs.declared.making.Active.{Active}
use Rattle.scheme.specs.declared.making.Local.{Local}
use Rattle.scheme_stands.proofs.Forms.{form_is}
use Rattle.scheme_stands.specs.Words.{Law, Fn, Spot, Stretch, JumpOn}
use Rattle.scheme_stands.specs.Expressions.{form_of, Rel, several, RkAt}
use Rattle.scheme_stands.specs.Lists.{AllNextAt, AllMultiAt, rels_open, OpenBy, OpenListAt, FilledAt, AdjustBy, AdjustAt, SetListBy, SetListAt, SetListIf, ItemBy, is_last_item}
use Rattle.scheme_stands.specs.Functions.{Step, Declared, FurtherAt, ClosureAt, FunctionRel}
use Rattle.scheme_stands.specs.Statements.{SetAt, StoreRegisterAt, StoreAt, EachStoredAt, StoredFromAt, TargetsAt, CopyBy, CopiesAt, StoresBy, AssignAt, CloseAt, BlockAt, TurnAt}
use Rattle.scheme_stands.specs.Relation.{related, all_related, ItemsAt}
use Rattle.scheme_stands.specs.Places.{ahead_by, Moves, ValueMoves, RelMoves, StepMoves, FunctionMoves}
use Rattle.scheme_stands.proofs.Moving.{chain, behind, ahead_of, still_as, operand_moves, rk_moves, text_same, two_moves}

pub and_left : (a b : Bool) → a && b ≡ true → a ≡ true
and_left true b h = refl
and_left false b h = cc

pub and_right : (a b : Bool) → a && b ≡ true → b ≡ true
and_right true b h = h
and_right false b h = cc

-- ---- lists

module _ (all : List Mark) (f : Fn) where
  abbrev pub AllMoves : Expressions → Type 0
  AllMoves no_expressions = Unit {0}
  AllMoves (syntax.expression e rest) = RelMoves all (expression_part e) (is_target e) (related f e) × AllMoves rest

  pub next_moves : (es : Expressions) → AllMoves es → (active : List Active) (free : ℕ) (p q : Spot) → AllNextAt f (all_related f es) active free p q → Moves all (expressions_part es) p q
  next_moves no_expressions g active free p q a = λ place rest e. a.ahead ∙ e
  next_moves (syntax.expression x xs) g active free p q t =
      let v = (g.0).value in
      chain all (expression_part x) (expressions_part xs) p t.mid q (v.to_reg active free free p t.mid t.first) (next_moves xs g.1 active (free + 1) t.mid q t.others)

  -- one expression alone
  alone_moves : (x : Expression) (p q : Spot) → Moves all (expression_part x) p q → Moves all (expressions_part (syntax.expression x no_expressions)) p q
  alone_moves x p q g = chain all (expression_part x) nothing p q q g (λ place rest e. e)

  pub multi_moves : (op : Op) (want : Want) (es : Expressions) → AllMoves es → rels_open (all_related f es) ≡ true → (active : List Active) (free : ℕ) (p q : Spot) → AllMultiAt f op want (all_related f es) active free p q → Moves all (expressions_part es) p q
  multi_moves op want no_expressions g o active free p q a = λ place rest e. a.ahead ∙ e
  multi_moves op want (syntax.expression x no_expressions) g o active free p q t = alone_moves x p q ((g.0).multi o active free op want p q t)
  multi_moves op want (syntax.expression x (syntax.expression y ys)) g o active free p q t =
      let v = (g.0).value in
      chain all (expression_part x) (expressions_part (syntax.expression y ys)) p t.mid q (v.to_reg active free free p t.mid t.first) (multi_moves op want (syntax.expression y ys) g.1 o active (free + 1) t.mid q t.others)

  open_by : (b : Bool) (es : Expressions) → AllMoves es → rels_open (all_related f es) ≡ b → (active : List Active) (free : ℕ) (p q : Spot) → OpenBy b f (all_related f es) active free p q → Moves all (expressions_part es) p q
  open_by true es g o active free p q t = multi_moves Op.Call None es g o active free p q t
  open_by false es g o active free p q t = next_moves es g active free p q t

  pub open_moves : (es : Expressions) → AllMoves es → (active : List Active) (free : ℕ) (p q : Spot) → OpenListAt f (all_related f es) active free p q → Moves all (expressions_part es) p q
  open_moves es g active free p q t = open_by (rels_open (all_related f es)) es g refl active free p q t

  filled_moves : (b : Bool) (es : Expressions) (missing : ℕ) → AllMoves es → rels_open (all_related f es) ≡ b → (active : List Active) (free : ℕ) (p q : Spot) → FilledAt b f (all_related f es) missing active free p q → Moves all (expressions_part es) p q
  filled_moves true es missing g o active free p q t = multi_moves Op.Call (Some (missing + 1)) es g o active free p q t
  filled_moves false es missing g o active free p q t =
      let n = t.second_at in
      let w = n.word in
      behind all (expressions_part es) p t.mid q (next_moves es g active free p t.mid t.first_at) w.ahead

  adjust_by : (b : Bool) (es : Expressions) (n : ℕ) → AllMoves es → (active : List Active) (free : ℕ) (p q : Spot) → AdjustBy b f (all_related f es) n active free p q → Moves all (expressions_part es) p q
  adjust_by true es n g active free p q t = filled_moves (rels_open (all_related f es)) es (n - length (all_related f es)) g refl active free p q t
  adjust_by false es n g active free p q t = next_moves es g active free p q t

  pub adjust_moves : (es : Expressions) (n : ℕ) → AllMoves es → (active : List Active) (free : ℕ) (p q : Spot) → AdjustAt f (all_related f es) n active free p q → Moves all (expressions_part es) p q
  adjust_moves es n g active free p q t = adjust_by (nat_lt (length (all_related f es)) n) es n g active free p q t

  -- ---- constructors

  abbrev pub FieldsMove : Fields → Type 0
  FieldsMove no_fields = Unit {0}
  FieldsMove (positional e separator rest) = RelMoves all (expression_part e) (is_target e) (related f e) × FieldsMove rest
  FieldsMove (named text e separator rest) = RelMoves all (expression_part e) (is_target e) (related f e) × FieldsMove rest
  FieldsMove (keyed key e separator rest) = RelMoves all (expression_part key) (is_target key) (related f key) × RelMoves all (expression_part e) (is_target e) (related f e) × FieldsMove rest

  set_list_by : (b : Bool) (t n block : ℕ) (p q : Spot) → SetListBy b f t n block p q → q.ahead ≡ p.ahead
  set_list_by true t n block p q a = a.ahead
  set_list_by false t n block p q a = let w1 = a.first_at in let w2 = a.second_at in w2.ahead ∙ w1.ahead

  pub set_list_same : (t n done : ℕ) (p q : Spot) → SetListAt f t n done p q → q.ahead ≡ p.ahead
  set_list_same t n done p q a = set_list_by (nat_le ((done - 1) / 50 + 1) 511) t n ((done - 1) / 50 + 1) p q a

  pub set_list_if : (b : Bool) (t n done : ℕ) (p q : Spot) → SetListIf b f t n done p q → q.ahead ≡ p.ahead
  set_list_if true t n done p q a = set_list_same t n done p q a
  set_list_if false t n done p q a = a.ahead

  pub last_still : (items : Fields) → is_last_item items ≡ true → (place : Place) → fields_part items place ≡ nothing place
  last_still no_fields h place = refl
  last_still (positional e separator rest) h place = absurd (true≢false (sym h))
  last_still (named text e separator rest) h place = absurd (true≢false (sym h))
  last_still (keyed key e separator rest) h place = absurd (true≢false (sym h))

  item_moves : (b : Bool) (x : Expression) (items : Fields) → RelMoves all (expression_part x) (is_target x) (related f x) → is_last_item items && several (form_of x) ≡ b → (active : List Active) (t done pending : ℕ) (rest : Stretch) →
      ((m n : Spot) → rest m n → Moves all (fields_part items) m n) → (p q : Spot) → ItemBy b f (related f x) active t done pending rest p q → Moves all (both (expression_part x) (fields_part items)) p q
  item_moves true x items g h active t done pending rest k p q i =
      chain all (expression_part x) (fields_part items) p q q
      (behind all (expression_part x) p i.mid q (g.multi (ap several (form_is f x) ∙ and_right (is_last_item items) (several (form_of x)) h) active (t + suc pending) Op.Call None p i.mid i.first_at) (set_list_same t 0 (suc done) i.mid q i.second_at))
      (still_as all (fields_part items) (last_still items (and_left (is_last_item items) (several (form_of x)) h)) q q refl)
  item_moves false x items g h active t done pending rest k p q i =
      let v = g.value in
      let s = i.others in
      chain all (expression_part x) (fields_part items) p i.mid q (v.to_reg active (t + suc pending) (t + suc pending) p i.mid i.first)
      (ahead_of all (fields_part items) i.mid s.mid q (set_list_if (suc pending == 50) t 50 (suc done) i.mid s.mid s.first_at) (k s.mid q s.second_at))

  pub items_move : (items : Fields) → FieldsMove items → (active : List Active) (t done pending : ℕ) (p q : Spot) → ItemsAt f items active t done pending p q → Moves all (fields_part items) p q
  items_move no_fields g active t done pending p q a = λ place rest e. set_list_if (nat_lt 0 pending) t pending done p q a ∙ e
  items_move (positional x separator rest) g active t done pending p q a =
      item_moves (is_last_item rest && several (form_of x)) x rest g.0 refl active t done pending (ItemsAt f rest active t (suc done) (pending_after (suc pending))) (items_move rest g.1 active t (suc done) (pending_after (suc pending))) p q a
  items_move (named text x separator rest) g active t done pending p q a =
      let k = a.first_at in
      let w = k.words_at in
      chain all (expression_part x) (fields_part rest) p a.mid q
      (behind all (expression_part x) p k.last a.mid (ahead_of all (expression_part x) p k.mid k.last (text_same all f text (t + suc pending) k.x k.free1 p k.mid k.left_at) (rk_moves all f (expression_part x) (related f x) (g.0).value active k.free1 k.y k.free2 k.mid k.last k.right_at)) w.ahead)
      (items_move rest g.1 active t done pending a.mid q a.second_at)
  items_move (keyed key x separator rest) g active t done pending p q a =
      chain all (both (expression_part key) (expression_part x)) (fields_part rest) p a.mid q
      (two_moves all f (expression_part key) (expression_part x) (RkAt f active (related f key)) (RkAt f active (related f x)) (rk_moves all f (expression_part key) (related f key) (g.0).value active) (rk_moves all f (expression_part x) (related f x) (g.1).value active) _ (λ k v p q w. w.ahead) (t + suc pending) p a.mid a.first_at)
      (items_move rest g.2 active t done pending a.mid q a.second_at)

  -- ---- assignments

  set_same : (text : Text) (w : Where) (r : ℕ) (p q : Spot) → SetAt f text w r p q → q.ahead ≡ p.ahead
  set_same text (in_register x) r p q a = a.ahead
  set_same text (in_upvalue slot) r p q a = a.ahead
  set_same text in_globals r p q a = let w = a.word in w.ahead

  pub store_same : (target : Target) (r : ℕ) (p q : Spot) → StoreRegisterAt f target r p q → q.ahead ≡ p.ahead
  store_same (name_target text w) r p q a = set_same text w r p q a
  store_same (part_target on key on_local key_local) r p q a = a.ahead

  store_moves : (part : outline.Part) (c : Rel) → ValueMoves all part c → (target : Target) (active : List Active) (free : ℕ) (p q : Spot) → StoreAt f target c active free p q → Moves all part p q
  store_moves part c v (name_target text (in_register x)) active free p q t = v.to_reg active free x p q t
  store_moves part c v (name_target text (in_upvalue slot)) active free p q t = behind all part p t.mid q (operand_moves all f part c v active free t.x t.free1 p t.mid t.operand_at) (set_same text (in_upvalue slot) t.x t.mid q t.words_at)
  store_moves part c v (name_target text in_globals) active free p q t = behind all part p t.mid q (operand_moves all f part c v active free t.x t.free1 p t.mid t.operand_at) (set_same text in_globals t.x t.mid q t.words_at)
  store_moves part c v (part_target on key on_local key_local) active free p q t = let w = t.words_at in behind all part p t.mid q (rk_moves all f part c v active free t.x t.free1 p t.mid t.operand_at) w.ahead

  pub each_moves : (places : List Target) (es : Expressions) → AllMoves es → length places ≡ length (all_related f es) → (active : List Active) (free : ℕ) (p q : Spot) → EachStoredAt f places (all_related f es) active free p q → Moves all (expressions_part es) p q
  each_moves [] no_expressions g l active free p q a = λ place rest e. a.ahead ∙ e
  each_moves [] (syntax.expression x xs) g l active free p q a = absurd (omega (arith, l))
  each_moves (t ∷ []) no_expressions g l active free p q a = absurd (omega (arith, l))
  each_moves (t ∷ []) (syntax.expression x no_expressions) g l active free p q a = alone_moves x p q (store_moves (expression_part x) (related f x) (g.0).value t active free p q a)
  each_moves (t ∷ []) (syntax.expression x (syntax.expression y ys)) g l active free p q a = absurd (omega (arith, l))
  each_moves (t ∷ o ∷ ts) no_expressions g l active free p q a = absurd (omega (arith, l))
  each_moves (t ∷ o ∷ ts) (syntax.expression x xs) g l active free p q a =
      let v = (g.0).value in
      let s = a.others in
      chain all (expression_part x) (expressions_part xs) p a.mid q (v.to_reg active free free p a.mid a.first)
      (behind all (expressions_part xs) a.mid s.mid q (each_moves (o ∷ ts) xs g.1 (omega (arith, l)) active (free + 1) a.mid s.mid s.first_at) (store_same t free s.mid q s.second_at))

  pub stored_same : (r : ℕ) (targets : List Target) (p q : Spot) → StoredFromAt f r targets p q → q.ahead ≡ p.ahead
  stored_same r [] p q a = a.ahead
  stored_same r (t ∷ ts) p q a = store_same t r a.mid q a.second_at ∙ stored_same (suc r) ts p a.mid a.first_at

  copy_same : (b : Bool) (x : ℕ) (targets places : List Target) (free free1 : ℕ) (p q : Spot) → CopyBy b f x targets places free free1 p q → q.ahead ≡ p.ahead
  copy_same true x targets places free free1 p q a = let w = a.word in w.ahead
  copy_same false x targets places free free1 p q a = let s = a.same in s.ahead

  pub copies_same : (count : ℕ) (targets places : List Target) (free free1 : ℕ) (p q : Spot) → CopiesAt f count targets places free free1 p q → q.ahead ≡ p.ahead
  copies_same zero targets places free free1 p q a = let s = a.same in s.ahead
  copies_same (suc x) targets places free free1 p q a = copy_same (clashes x targets) x a.between places a.free1 free1 a.mid q a.later_at ∙ copies_same x targets a.between free a.free1 p a.mid a.earlier_at

  with_copy_length : (x copy : ℕ) (targets : List Target) → length (with_copy x copy targets) ≡ length targets
  with_copy_length x copy [] = refl
  with_copy_length x copy (t ∷ ts) = ap suc (with_copy_length x copy ts)

  copy_length : (b : Bool) (x : ℕ) (targets places : List Target) (free free1 : ℕ) (p q : Spot) → CopyBy b f x targets places free free1 p q → length places ≡ length targets
  copy_length true x targets places free free1 p q a = ap length a.is ∙ with_copy_length x free targets
  copy_length false x targets places free free1 p q a = ap length a.is

  pub copies_length : (count : ℕ) (targets places : List Target) (free free1 : ℕ) (p q : Spot) → CopiesAt f count targets places free free1 p q → length places ≡ length targets
  copies_length zero targets places free free1 p q a = ap length a.is
  copies_length (suc x) targets places free free1 p q a = copy_length (clashes x targets) x a.between places a.free1 free1 a.mid q a.later_at ∙ copies_length x targets a.between free a.free1 p a.mid a.earlier_at

  pub targets_length : (cs : List Rel) (active : List Active) (targets : List Target) (free free1 : ℕ) (p q : Spot) → TargetsAt cs active targets free free1 p q → length targets ≡ length cs
  targets_length [] active targets free free1 p q a = ap length a.is
  targets_length (c ∷ cs) active targets free free1 p q a = ap length a.is ∙ ap suc (targets_length cs active a.others a.free1 free1 a.mid q a.others_at)

  pub targets_move : (ts : Expressions) → AllMoves ts → are_targets ts ≡ true → (active : List Active) (targets : List Target) (free free1 : ℕ) (p q : Spot) → TargetsAt (all_related f ts) active targets free free1 p q → Moves all (expressions_part ts) p q
  targets_move no_expressions g h active targets free free1 p q a = λ place rest e. let s = a.same in s.ahead ∙ e
  targets_move (syntax.expression x xs) g h active targets free free1 p q a =
      chain all (expression_part x) (expressions_part xs) p a.mid q ((g.0).target (and_left (is_target x) (are_targets xs) h) active free a.target a.free1 p a.mid a.target_at)
      (targets_move xs g.1 (and_right (is_target x) (are_targets xs) h) active a.others a.free1 free1 a.mid q a.others_at)

  stores_move : (b : Bool) (places : List Target) (es : Expressions) → AllMoves es → (b ≡ true → length places ≡ length (all_related f es)) → (active : List Active) (free : ℕ) (p q : Spot) → StoresBy b f places (all_related f es) active free p q → Moves all (expressions_part es) p q
  stores_move true places es g l active free p q a = each_moves places es g (l refl) active free p q a
  stores_move false places es g l active free p q a = behind all (expressions_part es) p a.mid q (adjust_moves es (length places) g active free p a.mid a.first_at) (stored_same free places a.mid q a.second_at)

  pub assign_moves : (ts es : Expressions) → AllMoves ts → AllMoves es → are_targets ts ≡ true → (active : List Active) (p q : Spot) → AssignAt f (all_related f ts) (all_related f es) active p q → Moves all (both (expressions_part ts) (expressions_part es)) p q
  assign_moves ts es g h k active p q a =
      let lt = targets_length (all_related f ts) active a.parts (length active) a.free1 p a.mid a.targets_at in
      let lc = copies_length (length active) a.parts a.places a.free1 a.free2 a.mid a.last a.copies_at in
      chain all (expressions_part ts) (expressions_part es) p a.last q
      (behind all (expressions_part ts) p a.mid a.last (targets_move ts g k active a.parts (length active) a.free1 p a.mid a.targets_at) (copies_same (length active) a.parts a.places a.free1 a.free2 a.mid a.last a.copies_at))
      (stores_move (length (all_related f es) == length (all_related f ts)) a.places es h (λ b. lc ∙ lt ∙ sym (eqb-true _ _ b)) active a.free2 a.last q a.stores_at)

  -- one target and one value
  one_stored : (part : outline.Part) (c : Rel) → ValueMoves all part c → (places : List Target) → length places ≡ 1 → (active : List Active) (free : ℕ) (p q : Spot) → EachStoredAt f places (c ∷ []) active free p q → Moves all part p q
  one_stored part c v [] l active free p q a = absurd (omega (arith, l))
  one_stored part c v (t ∷ []) l active free p q a = store_moves part c v t active free p q a
  one_stored part c v (t ∷ o ∷ ts) l active free p q a = absurd (omega (arith, l))

  pub assign_one : (a b : outline.Part) (c d : Rel) → RelMoves all a true c → ValueMoves all b d → (active : List Active) (p q : Spot) → AssignAt f (c ∷ []) (d ∷ []) active p q → Moves all (both a b) p q
  assign_one a b c d g v active p q t =
      let lt = targets_length (c ∷ []) active t.parts (length active) t.free1 p t.mid t.targets_at in
      let lc = copies_length (length active) t.parts t.places t.free1 t.free2 t.mid t.last t.copies_at in
      let n = t.targets_at in
      let o = n.others_at in
      let s = o.same in
      chain all a b p t.last q
      (behind all a p n.mid t.last (g.target refl active (length active) n.target n.free1 p n.mid n.target_at) (copies_same (length active) t.parts t.places t.free1 t.free2 t.mid t.last t.copies_at ∙ s.ahead))
      (one_stored b d v t.places (lc ∙ lt) active t.free2 t.last q t.stores_at)

  -- ---- blocks

  pub within_moves : (enter : Place → Place) (part : outline.Part) → ((place : Place) → (enter place).declarations ≡ place.declarations) → ((place : Place) → (enter place).functions ≡ place.functions) → (p q : Spot) → Moves all part p q → Moves all (within enter part) p q
  within_moves enter part d n p q g place rest e =
      let inside = part (enter place) in
      g (enter place) rest (e ∙ sym (ap (λ x. ahead_by all x (enter place).functions (inside.marks ++ rest)) (d place) ∙ ap (λ x. ahead_by all place.declarations x (inside.marks ++ rest)) (n place)))

  pub close_same : (b : Bool) (n : ℕ) (p q : Spot) → CloseAt b f n p q → q.ahead ≡ p.ahead
  close_same true n p q a = a.ahead
  close_same false n p q a = a.ahead

  pub block_moves : (part : outline.Part) (body : Step) → StepMoves all part body → (active : List Active) (p q : Spot) → BlockAt f body active p q → Moves all part p q
  block_moves part body g active p q t = behind all part p t.mid q (g active t.inner p t.mid t.body_at) (close_same _ (length active) t.mid q t.close)

  pub turn_moves : (part : outline.Part) (body : Step) → StepMoves all part body → (variables : List Local) (around : List Active) (p q : Spot) → TurnAt f body variables around p q → Moves all part p q
  turn_moves part body g variables around p q t = behind all part p t.mid q (block_moves part body g t.inner p t.mid t.block_at) (close_same _ (length around) t.mid q t.close)

  pub jump_same : (b : Bool) (label : ℕ) (p q : Spot) → JumpOn f b label p q → q.ahead ≡ p.ahead
  jump_same true label p q a = a.ahead
  jump_same false label p q a = a.ahead

  pub further_same : (active : List Active) (uses : List Use) (p q : Spot) → FurtherAt f active uses p q → q.ahead ≡ p.ahead
  further_same active [] p q a = a.ahead
  further_same active (one ∷ uses) p q a = let w = a.first_at in further_same active uses a.mid q a.second_at ∙ w.ahead

  pub closure_moves : (part : outline.Part) (made : Law → FunctionRel) → ((l : Law) → FunctionMoves all part (made l)) → (active : List Active) (free r : ℕ) (p q : Spot) → ClosureAt f made active free r p q → Moves all part p q
  closure_moves part made g active free r p q t place rest e =
      further_same active _ t.mid q t.further ∙ g _ _ (t.mid).ahead t.chunk t.made_at place rest (ap (λ (a : Ahead). record a { sources = drop 1 a.sources }) e)

-- ---- declarations

-- what is told of declarations says nothing of names
reaching_names : (all : List Mark) (line k n : ℕ) (rest : List Mark) → uses_among all (reaching (local_name line) k n ++ rest) ≡ uses_among all rest
reaching_names all line k zero rest = refl
reaching_names all line k (suc n) rest = reaching_names all line (suc k) n rest

reaching_hidden : (all : List Mark) (line k n : ℕ) (rest : List Mark) → uses_among all (reaching (hidden_local line) k n ++ rest) ≡ uses_among all rest
reaching_hidden all line k zero rest = refl
reaching_hidden all line k (suc n) rest = reaching_hidden all line (suc k) n rest

pub drop_one : {A : Type 0} (n : ℕ) (xs : List A) → drop 1 (drop n xs) ≡ drop (suc n) xs
drop_one zero xs = refl
drop_one (suc n) [] = refl
drop_one (suc n) (x ∷ xs) = drop_one n xs

declared_behind : (texts : List Text) (names : List Use) (captures : List Bool) (sources : List (List Use)) (d : ℕ) (locals : List Local) (b : Ahead) →
    Declared texts (record { names = names; captures = drop d captures; sources = sources; declarations = d }) locals b → b ≡ record { names = names; captures = drop (d + length texts) captures; sources = sources; declarations = d + length texts }
declared_behind [] names captures sources d locals b h =
    let sum : d ≡ d + 0 = omega arith in
    h.1 ∙ ap (λ n. record { names = names; captures = drop n captures; sources = sources; declarations = n }) sum
declared_behind (text ∷ texts) names captures sources d locals b h =
    let next = subst (λ cs. Declared texts (record { names = names; captures = cs; sources = sources; declarations = suc d }) h.0 b) (drop_one d captures) h.2 in
    let sum : suc d + length texts ≡ d + suc (length texts) = omega arith in
    declared_behind texts names captures sources (suc d) h.0 b next ∙ ap (λ n. record { names = names; captures = drop n captures; sources = sources; declarations = n }) sum

pub declared_moves : (all : List Mark) (line hidden : ℕ) (texts : List Text) (locals : List Local) (p q : Spot) → Declared texts p.ahead locals q.ahead → Moves all (declares line hidden texts) p q
declared_moves all line hidden texts locals p q h place rest e =
    let a = reaching (hidden_local line) place.active hidden in
    let b = reaching (local_name line) (place.active + hidden) (length texts) in
    let same : uses_among all ((a ++ b) ++ rest) ≡ uses_among all rest = ap (uses_among all) (append_assoc a b rest) ∙ reaching_hidden all line place.active hidden (b ++ rest) ∙ reaching_names all line (place.active + hidden) (length texts) rest in
    let captures = captured_below (declarations_in all) all in
    let sources = drop place.functions (upvalues_below (functions_in all) all) in
    declared_behind texts (uses_among all ((a ++ b) ++ rest)) captures sources place.declarations locals q.ahead (subst (λ x. Declared texts x locals q.ahead) e h)
    ∙ ap (λ n. record { names = n; captures = drop (place.declarations + length texts) captures; sources = sources; declarations = place.declarations + length texts }) same

-- in a function that is opened the sources of its upvalues are passed
pub opened_ahead : (all : List Mark) (d n : ℕ) (rest : List Mark) → record (ahead_by all d n rest) { sources = drop 1 (drop n (upvalues_below (functions_in all) all)) } ≡ ahead_by all d (suc n) rest
opened_ahead all d n rest = ap (λ s. record { names = uses_among all rest; captures = drop d (captured_below (declarations_in all) all); sources = s; declarations = d }) (drop_one n (upvalues_below (functions_in all) all))
