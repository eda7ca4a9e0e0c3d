-- Lists, constructors, closures and assignments with the law asked.
use Rattle.std.proofs.Common.{◌≡◌, ◌≤◌, ◌<◌, ℕ, zero, suc, ◌+◌, ◌-◌, Bool, true, false, cond, ◌&&◌, List, [], ◌∷◌, ◌++◌, length, refl, sym, ap, ◌∙◌, subst, arith}
use Rattle.std.specs.Prelude.{Some, None, ◌==◌, nat_lt}
use Rattle.lua_num.specs.Bytes.{Text}
use Rattle.lua_tree.specs.Outline as outline
use Rattle.lua_tree.specs.Outline.{Mark, Place, both, expression_part, expressions_part, fields_part, body_part}
use Rattle.lua_tree.specs.Scoping.{upvalues_of}
use Rattle.lua_tree.specs.Syntax as syntax
use Rattle.lua_tree.specs.Syntax.{Expressions, no_expressions, Expression, Fields, no_fields, positional, named, keyed, FunctionBody}
use Rattle.lua_tree.specs.WellFormed.{is_target, are_targets}
use Rattle.opcode.specs.declared.op.Op.{Op}
use Rattle.opcode.specs.declared.op.Format.{Format}
use Rattle.proto.specs.Chunk.{Chunk}
use Rattle.proto.specs.declared.parts.Constant.{Constant}
use Rattle.scheme.specs.Making.{Ahead, Where, head_or, in_register, in_upvalue, in_globals}
use Rattle.scheme.specs.Expressions.{Want, Target, name_target, part_target}
use Rattle.scheme.specs.Lists.{pending_after}
use Rattle.scheme.specs.Functions.{without_sources}
use Rattle.scheme.specs.Statements.{with_copy, renamed, is_among, clashes}
use Rattle.scheme.specs.declared.making.Active.{Active}
use Rattle.scheme.specs.declared.making.Piece.{Piece}
use Rattle.scheme_stands.specs.Words.{Names, Fn, Spot, Stretch, asking, Plain, WordAt, law_inside}
use Rattle.scheme_stands.specs.Expressions.{form_of, Rel, several}
use Rattle.scheme_stands.specs.Lists.{AllNextAt, AllMultiAt, rels_open, rels_count, OpenBy, OpenListAt, NilsAt, FilledAt, AdjustBy, AdjustAt, ItemBy, is_last_item, TableAt}
use Rattle.scheme_stands.specs.Functions.{ClosureAt}
use Rattle.scheme_stands.specs.Statements.{SetAt, StoreRegisterAt, StoreAt, EachStoredAt, StoredFromAt, TargetsAt, CopyBy, CopiesAt, StoresBy, AssignAt}
use Rattle.scheme_stands.specs.Relation.{related, all_related, FunctionOf, ItemsAt}
use Rattle.scheme_stands.specs.Placed.{names_of_seen}
use Rattle.scheme_stands.specs.Places.{Moves, RelMoves, Closed, CapturesAre}
use Rattle.scheme_stands.proofs.Counting.{expression_closed, expressions_closed, closed_row}
use Rattle.scheme_stands.proofs.Environment.{closure_captures}
use Rattle.scheme_stands.proofs.Forms.{form_is}
use Rattle.scheme_stands.proofs.Here.{tame_expression, tame_expressions, tame_fields, tame_both, captures_are}
use Rattle.scheme_stands.proofs.Moving.{behind, ahead_of, chain, rk_moves, text_same}
use Rattle.scheme_stands.proofs.Walks.{and_left, and_right, AllMoves, FieldsMove, targets_move, copies_same, set_list_if}
use Rattle.scheme_stands.proofs.Rooms.{next_room, adjust_room}
use Rattle.scheme_stands.proofs.Small.{Setting, field_a, field_b, rk_low, text_low, TargetFits, CountRoom, pending_low}
use Rattle.scheme_stands.proofs.Words.{Lifted, Alone, alone, same_lift, abc_lift, constant_lift, new_table_lift, set_list_lift, set_list_if_lift, closure_word_lift, further_lift}
use Rattle.scheme_stands.proofs.Lifts.{Stands, Calm, stands_first, stands_behind, stands_at, Lift, WordLift, ToLifts, RelLifts, ValueLifts, value_of, rk_lift, text_lift, one_lift, one_rk_lift}

pub calm_expression : (e : Expression) → Calm (expression_part e)
calm_expression e = record { tame = tame_expression e; closed = expression_closed e }

pub calm_expressions : (es : Expressions) → Calm (expressions_part es)
calm_expressions es = record { tame = tame_expressions es; closed = expressions_closed es }

-- a function, by the law of the place where its closure is made
abbrev pub FunctionLifts : (all : List Mark) → FunctionBody → (method : Bool) → Type 0
FunctionLifts all body method =
    (n : Names) (f : Fn) (place : Place) (rest : List Mark) (active : List Active) (p : Spot) (behind : Ahead) (chunk : Chunk) → Stands all n f (body_part method body) place rest active p →
    (c : CapturesAre all place active (upvalues_of place.functions all) (head_or [] p.ahead.sources)) →
    FunctionOf body method None (without_sources p.ahead) behind chunk → FunctionOf body method (law_inside (Some n) active (names_of_seen all place active (upvalues_of place.functions all) (head_or [] p.ahead.sources) c)) (without_sources p.ahead) behind chunk

-- the registers and slots of all targets fit their fields
abbrev pub AllFit : Fn → List Target → Type 0
AllFit f [] = Unit {0}
AllFit f (target ∷ targets) = TargetFits f target × AllFit f targets

module _ (all : List Mark) (n : Names) (f : Fn) where
  abbrev pub AllLift : Expressions → Type 0
  AllLift no_expressions = Unit {0}
  AllLift (syntax.expression e rest) = RelLifts all n f (expression_part e) (is_target e) (related f e) (related (asking n f) e) × AllLift rest

  abbrev pub FieldsLift : Fields → Type 0
  FieldsLift no_fields = Unit {0}
  FieldsLift (positional e separator rest) = RelLifts all n f (expression_part e) (is_target e) (related f e) (related (asking n f) e) × FieldsLift rest
  FieldsLift (named text e separator rest) = RelLifts all n f (expression_part e) (is_target e) (related f e) (related (asking n f) e) × FieldsLift rest
  FieldsLift (keyed key e separator rest) = RelLifts all n f (expression_part key) (is_target key) (related f key) (related (asking n f) key) × RelLifts all n f (expression_part e) (is_target e) (related f e) (related (asking n f) e) × FieldsLift rest

  module _ (setting : Setting n f) where
    -- ---- lists

    lengths : (es : Expressions) → length (all_related (asking n f) es) ≡ length (all_related f es)
    lengths no_expressions = refl
    lengths (syntax.expression e rest) = ap suc (lengths rest)

    opens : (es : Expressions) → AllLift es → rels_open (all_related (asking n f) es) ≡ rels_open (all_related f es)
    opens no_expressions l = refl
    opens (syntax.expression e no_expressions) l = ap several (l.0).form
    opens (syntax.expression e (syntax.expression e1 es)) l = opens (syntax.expression e1 es) l.1

    pub counts : (es : Expressions) → AllLift es → rels_count (all_related (asking n f) es) ≡ rels_count (all_related f es)
    counts es l = ap (λ b. cond b None (Some (length (all_related (asking n f) es)))) (opens es l) ∙ ap (λ k. cond (rels_open (all_related f es)) None (Some k)) (lengths es)

    first_of_list : (x : Expression) (xs : Expressions) (place : Place) (rest : List Mark) (active : List Active) (p : Spot) → Stands all n f (expressions_part (syntax.expression x xs)) place rest active p → Stands all n f (expression_part x) place ((expressions_part xs (expression_part x place).next).marks ++ rest) active p
    first_of_list x xs place rest active p s = stands_first all n f (expression_part x) (expressions_part xs) place rest active p (tame_expression x) (tame_expressions xs) s

    rest_of_list : (x : Expression) (xs : Expressions) (place : Place) (rest : List Mark) (active : List Active) (p m : Spot) → Moves all (expression_part x) p m → Plain f m.pc → Stands all n f (expressions_part (syntax.expression x xs)) place rest active p → Stands all n f (expressions_part xs) (expression_part x place).next rest active m
    rest_of_list x xs place rest active p m g plain s = stands_behind all n f (expression_part x) (expressions_part xs) place rest active p m (calm_expression x) g plain s

    next_lifts : (es : Expressions) → AllMoves all f es → AllLift es → (active : List Active) (free : ℕ) → Lift all n f (expressions_part es) active (AllNextAt f (all_related f es) active free) (AllNextAt (asking n f) (all_related (asking n f) es) active free)
    next_lifts no_expressions g l active free place rest p q s t = same_lift n f p q s.plain t
    next_lifts (syntax.expression x xs) g l active free place rest p q s t =
        let one = (l.0).to_reg active free free t.room place _ p t.mid (first_of_list x xs place rest active p s) t.first in
        let others = next_lifts xs g.1 l.1 active (free + 1) (expression_part x place).next rest t.mid q (rest_of_list x xs place rest active p t.mid (let v = (g.0).value in v.to_reg active free free p t.mid t.first) one.plain s) t.others in
        record { is = record { mid = t.mid; room = t.room; first = one.is; others = others.is }; plain = others.plain }

    multi_lifts : (op : Op) (want : Want) → Alone Format.Abc op → (es : Expressions) → AllMoves all f es → AllLift es → rels_open (all_related f es) ≡ true → (active : List Active) (free : ℕ) → Lift all n f (expressions_part es) active (AllMultiAt f op want (all_related f es) active free) (AllMultiAt (asking n f) op want (all_related (asking n f) es) active free)
    multi_lifts op want k no_expressions g l o active free place rest p q s t = same_lift n f p q s.plain t
    multi_lifts op want k (syntax.expression x no_expressions) g l o active free place rest p q s t = (l.0).multi o active free op want k place _ p q (first_of_list x no_expressions place rest active p s) t
    multi_lifts op want k (syntax.expression x (syntax.expression y ys)) g l o active free place rest p q s t =
        let one = (l.0).to_reg active free free t.room place _ p t.mid (first_of_list x (syntax.expression y ys) place rest active p s) t.first in
        let others = multi_lifts op want k (syntax.expression y ys) g.1 l.1 o active (free + 1) (expression_part x place).next rest t.mid q (rest_of_list x (syntax.expression y ys) place rest active p t.mid (let v = (g.0).value in v.to_reg active free free p t.mid t.first) one.plain s) t.others in
        record { is = record { mid = t.mid; room = t.room; first = one.is; others = others.is }; plain = others.plain }

    open_by : (b : Bool) (es : Expressions) → AllMoves all f es → AllLift es → rels_open (all_related f es) ≡ b → (active : List Active) (free : ℕ) → Lift all n f (expressions_part es) active (OpenBy b f (all_related f es) active free) (OpenBy b (asking n f) (all_related (asking n f) es) active free)
    open_by true es g l o active free = multi_lifts Op.Call None (alone Op.Call refl) es g l o active free
    open_by false es g l o active free = next_lifts es g l active free

    pub open_lifts : (es : Expressions) → AllMoves all f es → AllLift es → (active : List Active) (free : ℕ) → Lift all n f (expressions_part es) active (OpenListAt f (all_related f es) active free) (OpenListAt (asking n f) (all_related (asking n f) es) active free)
    open_lifts es g l active free place rest p q s t =
        subst (λ b. Lifted f (OpenBy b (asking n f) (all_related (asking n f) es) active free p q) q) (sym (opens es l)) (open_by (rels_open (all_related f es)) es g l refl active free place rest p q s t)

    -- the values of a list that are counted have registers of their own
    pub list_room : (es : Expressions) (active : List Active) (free : ℕ) (p q : Spot) → free ≤ f.size → OpenListAt f (all_related f es) active free p q → CountRoom f free (rels_count (all_related f es))
    list_room es active free p q h t = by (rels_open (all_related f es)) t
      where
        counted : (cs : List Rel) → AllNextAt f cs active free p q → free + length cs ≤ f.size
        counted [] t = omega (arith, h)
        counted (c ∷ cs) t = next_room f (c ∷ cs) active free p q (omega arith) t

        by : (b : Bool) → OpenBy b f (all_related f es) active free p q → CountRoom f free (cond b None (Some (length (all_related f es))))
        by true t = tt
        by false t = counted (all_related f es) t

    nils_lift : (free k : ℕ) → WordLift all n f (NilsAt f free k) (NilsAt (asking n f) free k)
    nils_lift free k p q plain t =
        let room = t.room in
        let w = abc_lift n f Op.LoadNil free (free + k - 1) 0 (alone Op.LoadNil refl) (field_a n f free setting (omega (arith, room))) (field_b n f (free + k - 1) setting (omega (arith, room))) (omega arith) p q plain t.word in
        record { is = record { room = t.room; word = w.is }; plain = w.plain }

    filled_by : (b : Bool) (missing : ℕ) (es : Expressions) → AllMoves all f es → AllLift es → rels_open (all_related f es) ≡ b → (active : List Active) (free : ℕ) → Lift all n f (expressions_part es) active (FilledAt b f (all_related f es) missing active free) (FilledAt b (asking n f) (all_related (asking n f) es) missing active free)
    filled_by true missing es g l o active free place rest p q s t = multi_lifts Op.Call (Some (missing + 1)) (alone Op.Call refl) es g l o active free place rest p q s t
    filled_by false missing es g l o active free place rest p q s t =
        let one = next_lifts es g l active free place rest p t.mid s t.first_at in
        let nils = nils_lift (free + length (all_related f es)) missing t.mid q one.plain t.second_at in
        record { is = record { mid = t.mid; first_at = one.is; second_at = subst (λ k. NilsAt (asking n f) (free + k) missing t.mid q) (sym (lengths es)) nils.is }; plain = nils.plain }

    adjust_by : (b : Bool) (k : ℕ) (es : Expressions) → AllMoves all f es → AllLift es → (active : List Active) (free : ℕ) → Lift all n f (expressions_part es) active (AdjustBy b f (all_related f es) k active free) (AdjustBy b (asking n f) (all_related (asking n f) es) k active free)
    adjust_by true k es g l active free place rest p q s t =
        subst (λ m. Lifted f (FilledAt (rels_open (all_related (asking n f) es)) (asking n f) (all_related (asking n f) es) (k - m) active free p q) q) (sym (lengths es))
        (subst (λ b. Lifted f (FilledAt b (asking n f) (all_related (asking n f) es) (k - length (all_related f es)) active free p q) q) (sym (opens es l))
        (filled_by (rels_open (all_related f es)) (k - length (all_related f es)) es g l refl active free place rest p q s t))
    adjust_by false k es g l active free place rest p q s t = next_lifts es g l active free place rest p q s t

    pub adjust_lifts : (k : ℕ) (es : Expressions) → AllMoves all f es → AllLift es → (active : List Active) (free : ℕ) → Lift all n f (expressions_part es) active (AdjustAt f (all_related f es) k active free) (AdjustAt (asking n f) (all_related (asking n f) es) k active free)
    adjust_lifts k es g l active free place rest p q s t =
        subst (λ m. Lifted f (AdjustBy (nat_lt m k) (asking n f) (all_related (asking n f) es) k active free p q) q) (sym (lengths es)) (adjust_by (nat_lt (length (all_related f es)) k) k es g l active free place rest p q s t)

    -- ---- constructors

    -- an item with a key
    key_word : (on : ℕ) → on < f.size → (k v : ℕ) → k < 512 → v < 512 → WordLift all n f (WordAt f (Piece.Abc Op.SetTable on k v)) (WordAt (asking n f) (Piece.Abc Op.SetTable on k v))
    key_word on h k v hk hv p q plain t = abc_lift n f Op.SetTable on k v (alone Op.SetTable refl) (field_a n f on setting (omega (arith, h))) hk hv p q plain t

    item_by : (b : Bool) (x : Expression) (items : Fields) → RelMoves all (expression_part x) (is_target x) (related f x) → RelLifts all n f (expression_part x) (is_target x) (related f x) (related (asking n f) x) → is_last_item items && several (form_of x) ≡ b →
        (active : List Active) (on done pending : ℕ) → on < f.size → (weak strong : Stretch) → Lift all n f (fields_part items) active weak strong →
        Lift all n f (both (expression_part x) (fields_part items)) active (ItemBy b f (related f x) active on done pending weak) (ItemBy b (asking n f) (related (asking n f) x) active on done pending strong)
    item_by true x items g l e active on done pending ho weak strong h place rest p q s t =
        let one = l.multi (ap several (form_is f x) ∙ and_right (is_last_item items) (several (form_of x)) e) active (on + suc pending) Op.Call None (alone Op.Call refl) place _ p t.mid (stands_first all n f (expression_part x) (fields_part items) place rest active p (tame_expression x) (tame_fields items) s) t.first_at in
        let set = set_list_lift n f on 0 (suc done) (field_a n f on setting (omega (arith, ho))) (omega arith) t.mid q one.plain t.second_at in
        record { is = record { mid = t.mid; first_at = one.is; second_at = set.is }; plain = set.plain }
    item_by false x items g l e active on done pending ho weak strong h place rest p q s t =
        let o = t.others in
        let v = g.value in
        let one = l.to_reg active (on + suc pending) (on + suc pending) t.room place _ p t.mid (stands_first all n f (expression_part x) (fields_part items) place rest active p (tame_expression x) (tame_fields items) s) t.first in
        let set = set_list_if_lift n f (suc pending == 50) on 50 (suc done) (field_a n f on setting (omega (arith, ho))) (omega arith) t.mid o.mid one.plain o.first_at in
        let others = h (expression_part x place).next rest o.mid q
        (stands_behind all n f (expression_part x) (fields_part items) place rest active p o.mid (calm_expression x) (behind all (expression_part x) p t.mid o.mid (v.to_reg active (on + suc pending) (on + suc pending) p t.mid t.first) (set_list_if all f (suc pending == 50) on 50 (suc done) t.mid o.mid o.first_at)) set.plain s) o.second_at in
        record { is = record { mid = t.mid; room = t.room; first = one.is; others = record { mid = o.mid; first_at = set.is; second_at = others.is } }; plain = others.plain }

    items_lift : (items : Fields) → FieldsMove all f items → FieldsLift items → (active : List Active) (on done pending : ℕ) → on < f.size → pending < 50 → Lift all n f (fields_part items) active (ItemsAt f items active on done pending) (ItemsAt (asking n f) items active on done pending)
    items_lift no_fields g l active on done pending ho hp place rest p q s t = set_list_if_lift n f (nat_lt 0 pending) on pending done (field_a n f on setting (omega (arith, ho))) (omega (arith, hp)) p q s.plain t
    items_lift (positional x separator others) g l active on done pending ho hp place rest p q s t =
        item_by (is_last_item others && several (form_of x)) x others g.0 l.0 refl active on done pending ho _ _ (items_lift others g.1 l.1 active on (suc done) (pending_after (suc pending)) ho (pending_low pending hp)) place rest p q s t
    items_lift (named text x separator others) g l active on done pending ho hp place rest p q s t =
        let u = t.first_at in
        let w = u.words_at in
        let first = stands_first all n f (expression_part x) (fields_part others) place rest active p (tame_expression x) (tame_fields others) s in
        let same = text_same all f text (on + suc pending) u.x u.free1 p u.mid u.left_at in
        let one = text_lift all n f setting text (on + suc pending) u.x u.free1 p u.mid s.plain u.left_at in
        let other = rk_lift all n f setting (expression_part x) (related f x) (related (asking n f) x) (value_of all n f _ _ _ _ l.0) active u.free1 u.y u.free2 place _ u.mid u.last (stands_at all n f (expression_part x) place _ active p u.mid same one.plain first) u.right_at in
        let word = key_word on ho u.x u.y (text_low n f setting text (on + suc pending) u.x u.free1 p u.mid u.left_at) (rk_low n f setting (related f x) active u.free1 u.y u.free2 u.mid u.last s.room u.right_at) u.last t.mid other.plain u.words_at in
        let rest_of = items_lift others g.1 l.1 active on done pending ho hp (expression_part x place).next rest t.mid q
        (stands_behind all n f (expression_part x) (fields_part others) place rest active p t.mid (calm_expression x)
        (behind all (expression_part x) p u.last t.mid (ahead_of all (expression_part x) p u.mid u.last same (rk_moves all f (expression_part x) (related f x) (g.0).value active u.free1 u.y u.free2 u.mid u.last u.right_at)) w.ahead) word.plain s) t.second_at in
        record {
          is = record { mid = t.mid; first_at = record { x = u.x; y = u.y; free1 = u.free1; free2 = u.free2; mid = u.mid; last = u.last; left_at = one.is; right_at = other.is; words_at = word.is }; second_at = rest_of.is };
          plain = rest_of.plain;
        }
    items_lift (keyed key x separator others) g l active on done pending ho hp place rest p q s t =
        let u = t.first_at in
        let w = u.words_at in
        let a = expression_part key in
        let b = expression_part x in
        let pair = both a b in
        let first = stands_first all n f pair (fields_part others) place rest active p (tame_both a b (tame_expression key) (tame_expression x)) (tame_fields others) s in
        let gl = rk_moves all f a (related f key) (g.0).value active (on + suc pending) u.x u.free1 p u.mid u.left_at in
        let gr = rk_moves all f b (related f x) (g.1).value active u.free1 u.y u.free2 u.mid u.last u.right_at in
        let one = rk_lift all n f setting a (related f key) (related (asking n f) key) (value_of all n f _ _ _ _ l.0) active (on + suc pending) u.x u.free1 place _ p u.mid (stands_first all n f a b place _ active p (tame_expression key) (tame_expression x) first) u.left_at in
        let other = rk_lift all n f setting b (related f x) (related (asking n f) x) (value_of all n f _ _ _ _ l.1) active u.free1 u.y u.free2 (a place).next _ u.mid u.last (stands_behind all n f a b place _ active p u.mid (calm_expression key) gl one.plain first) u.right_at in
        let word = key_word on ho u.x u.y (rk_low n f setting (related f key) active (on + suc pending) u.x u.free1 p u.mid s.room u.left_at) (rk_low n f setting (related f x) active u.free1 u.y u.free2 u.mid u.last s.room u.right_at) u.last t.mid other.plain u.words_at in
        let rest_of = items_lift others g.2 l.2 active on done pending ho hp (pair place).next rest t.mid q
        (stands_behind all n f pair (fields_part others) place rest active p t.mid (record { tame = tame_both a b (tame_expression key) (tame_expression x); closed = λ place. closed_pair key x place })
        (behind all pair p u.last t.mid (chain all a b p u.mid u.last gl gr) w.ahead) word.plain s) t.second_at in
        record {
          is = record { mid = t.mid; first_at = record { x = u.x; y = u.y; free1 = u.free1; free2 = u.free2; mid = u.mid; last = u.last; left_at = one.is; right_at = other.is; words_at = word.is }; second_at = rest_of.is };
          plain = rest_of.plain;
        }
      where
        closed_pair : (key x : Expression) (place : Place) → Closed (both (expression_part key) (expression_part x)) place
        closed_pair key x place = closed_row (expression_part key) (expression_part x) place (expression_closed key place) (expression_closed x (expression_part key place).next)

    pub table_lift : (items : Fields) → FieldsMove all f items → FieldsLift items → (active : List Active) (free : ℕ) → Lift all n f (fields_part items) active (TableAt f (λ t. ItemsAt f items active t 0 0) free) (TableAt (asking n f) (λ t. ItemsAt (asking n f) items active t 0 0) free)
    table_lift items g l active free place rest p q s t =
        let room = t.room in
        let before = t.word in
        let w = new_table_lift n f free t.array t.hash (field_a n f free setting (omega (arith, room))) p t.mid s.plain t.word in
        let items_at = items_lift items g l active free 0 0 t.room (omega arith) place rest t.mid q (stands_at all n f (fields_part items) place rest active p t.mid before.ahead (w.2).plain s) t.items_at in
        record { is = record { array = w.0; hash = w.1; mid = t.mid; room = t.room; word = (w.2).is; items_at = items_at.is }; plain = items_at.plain }

    -- ---- closures

    pub closure_lift : (body : FunctionBody) (method : Bool) → FunctionLifts all body method → ToLifts all n f setting (body_part method body) (ClosureAt f (FunctionOf body method)) (ClosureAt (asking n f) (FunctionOf body method))
    closure_lift body method h active free r hr place rest p q s t =
        let uses = head_or [] p.ahead.sources in
        let c = captures_are all method body place rest active p s.active_at s.here in
        let names = names_of_seen all place active (upvalues_of place.functions all) uses c in
        let captured = closure_captures all place active n uses s.active_at s.named c in
        let word = closure_word_lift n f r p.functions t.chunk setting (field_a n f r setting (omega (arith, hr))) t.is p t.begun s.plain t.word in
        let further = further_lift n f uses active names setting s.room captured t.mid q t.further in
        let lawless = subst (λ l. FunctionOf body method (law_inside l active t.names) (without_sources p.ahead) (t.mid).ahead t.chunk) setting.lawless t.made_at in
        record {
          is = record {
            chunk = t.chunk;
            begun = t.begun;
            mid = t.mid;
            is = t.is;
            names = names;
            captured = captured;
            made_at = h n f place rest active p (t.mid).ahead t.chunk s c lawless;
            upvalues = t.upvalues;
            named = t.named;
            word = word.0;
            next = t.next;
            one_more = t.one_more;
            further = further.0;
          };
          plain = word.1 q.pc (further.1 ∙ ap (λ k. k + length uses) t.next ∙ ap (λ k. (t.begun).pc + k) (sym t.upvalues));
        }

    -- ---- assignments

    -- the targets are evaluated, and fit
    targets_lift : (ts : Expressions) → AllMoves all f ts → AllLift ts → are_targets ts ≡ true → (active : List Active) (targets : List Target) (free free1 : ℕ) (place : Place) (rest : List Mark) (p q : Spot) → Stands all n f (expressions_part ts) place rest active p →
        TargetsAt (all_related f ts) active targets free free1 p q → Lifted f (TargetsAt (all_related (asking n f) ts) active targets free free1 p q × AllFit f targets) q
    targets_lift no_expressions g l k active targets free free1 place rest p q s t =
        let w = same_lift n f p q s.plain t.same in
        record { is = (record { is = t.is; at_free = t.at_free; same = w.is }, subst (AllFit f) (sym t.is) tt); plain = w.plain }
    targets_lift (syntax.expression x xs) g l k active targets free free1 place rest p q s t =
        let aim = and_left (is_target x) (are_targets xs) k in
        let here = first_of_list x xs place rest active p s in
        let one = (l.0).target aim active free t.target t.free1 place _ p t.mid here t.target_at in
        let fits = (l.0).target_fits aim active free t.target t.free1 place _ p t.mid here t.target_at in
        let others = targets_lift xs g.1 l.1 (and_right (is_target x) (are_targets xs) k) active t.others t.free1 free1 (expression_part x place).next rest t.mid q
        (rest_of_list x xs place rest active p t.mid ((g.0).target aim active free t.target t.free1 p t.mid t.target_at) one.plain s) t.others_at in
        record {
          is = (record { target = t.target; others = t.others; free1 = t.free1; mid = t.mid; is = t.is; target_at = one.is; others_at = others.is.0 }, subst (AllFit f) (sym t.is) (fits, others.is.1));
          plain = others.plain;
        }

    -- the targets with copies fit too
    copy_fits : (x copy : ℕ) → copy < f.size → (target : Target) → TargetFits f target → TargetFits f (renamed x copy target)
    copy_fits x copy h (name_target text w) fits = fits
    copy_fits x copy h (part_target on key on_local key_local) fits = (either_a _, either_b _)
      where
        either_a : (b : Bool) → cond b copy on < 256
        either_a true = field_a n f copy setting (omega (arith, h))
        either_a false = fits.0

        either_b : (b : Bool) → cond b copy key < 512
        either_b true = field_b n f copy setting (omega (arith, h))
        either_b false = fits.1

    copies_fit : (x copy : ℕ) → copy < f.size → (targets : List Target) → AllFit f targets → AllFit f (with_copy x copy targets)
    copies_fit x copy h [] fits = tt
    copies_fit x copy h (target ∷ targets) fits = (either (is_among x targets), copies_fit x copy h targets fits.1)
      where
        either : (b : Bool) → TargetFits f (cond b (renamed x copy target) target)
        either true = copy_fits x copy h target fits.0
        either false = fits.0

    copy_by : (b : Bool) (x : ℕ) → x < f.size → (targets places : List Target) (free free1 : ℕ) (p q : Spot) → Plain f p.pc → AllFit f targets → CopyBy b f x targets places free free1 p q → Lifted f (CopyBy b (asking n f) x targets places free free1 p q × AllFit f places) q
    copy_by true x hx targets places free free1 p q plain fits t =
        let room = t.room in
        let w = abc_lift n f Op.Move free x 0 (alone Op.Move refl) (field_a n f free setting (omega (arith, room))) (field_b n f x setting (omega (arith, hx))) (omega arith) p q plain t.word in
        record { is = (record { room = t.room; is = t.is; at_free = t.at_free; word = w.is }, subst (AllFit f) (sym t.is) (copies_fit x free t.room targets fits)); plain = w.plain }
    copy_by false x hx targets places free free1 p q plain fits t = let w = same_lift n f p q plain t.same in record { is = (record { is = t.is; at_free = t.at_free; same = w.is }, subst (AllFit f) (sym t.is) fits); plain = w.plain }

    pub copies_lift : (count : ℕ) → count ≤ f.size → (targets places : List Target) (free free1 : ℕ) (p q : Spot) → Plain f p.pc → AllFit f targets → CopiesAt f count targets places free free1 p q → Lifted f (CopiesAt (asking n f) count targets places free free1 p q × AllFit f places) q
    copies_lift zero h targets places free free1 p q plain fits t = let w = same_lift n f p q plain t.same in record { is = (record { is = t.is; at_free = t.at_free; same = w.is }, subst (AllFit f) (sym t.is) fits); plain = w.plain }
    copies_lift (suc x) h targets places free free1 p q plain fits t =
        let one = copies_lift x (omega (arith, h)) targets t.between free t.free1 p t.mid plain fits t.earlier_at in
        let other = copy_by (clashes x targets) x (omega (arith, h)) t.between places t.free1 free1 t.mid q one.plain one.is.1 t.later_at in
        record { is = (record { between = t.between; free1 = t.free1; mid = t.mid; earlier_at = one.is.0; later_at = other.is.0 }, other.is.1); plain = other.plain }

    set_word : (text : Text) (w : Where) (r : ℕ) → TargetFits f (name_target text w) → r ≤ f.size → WordLift all n f (SetAt f text w r) (SetAt (asking n f) text w r)
    set_word text (in_register x) r fits h p q plain t = abc_lift n f Op.Move x r 0 (alone Op.Move refl) (field_a n f x setting (omega (arith, fits))) (field_b n f r setting h) (omega arith) p q plain t
    set_word text (in_upvalue slot) r fits h p q plain t = abc_lift n f Op.SetUpval r slot 0 (alone Op.SetUpval refl) (field_a n f r setting h) (omega (arith, fits)) (omega arith) p q plain t
    set_word text in_globals r fits h p q plain t = constant_lift n f Op.SetGlobal r (Constant.Text text) (record { is = refl; none = λ inner i. refl }) setting.limits (field_a n f r setting h) p q plain t

    pub store_word : (target : Target) (r : ℕ) → TargetFits f target → r ≤ f.size → WordLift all n f (StoreRegisterAt f target r) (StoreRegisterAt (asking n f) target r)
    store_word (name_target text w) r fits h p q plain t = set_word text w r fits h p q plain t
    store_word (part_target on key on_local key_local) r fits h p q plain t = abc_lift n f Op.SetTable on key r (alone Op.SetTable refl) fits.0 fits.1 (field_b n f r setting h) p q plain t

    pub store_lift : (part : outline.Part) (c d : Rel) → ValueLifts all n f part c d → (target : Target) → TargetFits f target → (active : List Active) (free : ℕ) → Lift all n f part active (StoreAt f target c active free) (StoreAt (asking n f) target d active free)
    store_lift part c d l (name_target text (in_register x)) fits active free = l.to_reg active free x fits
    store_lift part c d l (name_target text (in_upvalue slot)) fits active free = one_lift all n f setting part c d l active free _ _ (λ r h. set_word text (in_upvalue slot) r fits h)
    store_lift part c d l (name_target text in_globals) fits active free = one_lift all n f setting part c d l active free _ _ (λ r h. set_word text in_globals r fits h)
    store_lift part c d l (part_target on key on_local key_local) fits active free =
        one_rk_lift all n f setting part c d l active free _ _ (λ v h p q plain t. abc_lift n f Op.SetTable on key v (alone Op.SetTable refl) fits.0 fits.1 h p q plain t)

    each_lift : (places : List Target) (es : Expressions) → AllFit f places → AllMoves all f es → AllLift es → (active : List Active) (free : ℕ) → Lift all n f (expressions_part es) active (EachStoredAt f places (all_related f es) active free) (EachStoredAt (asking n f) places (all_related (asking n f) es) active free)
    each_lift [] es fits g l active free place rest p q s t = same_lift n f p q s.plain t
    each_lift (o ∷ []) no_expressions fits g l active free place rest p q s t = same_lift n f p q s.plain t
    each_lift (o ∷ []) (syntax.expression x xs) fits g l active free place rest p q s t =
        store_lift (expression_part x) (related f x) (related (asking n f) x) (value_of all n f _ _ _ _ l.0) o fits.0 active free place _ p q (first_of_list x xs place rest active p s) t
    each_lift (o ∷ o1 ∷ os) no_expressions fits g l active free place rest p q s t = same_lift n f p q s.plain t
    each_lift (o ∷ o1 ∷ os) (syntax.expression x xs) fits g l active free place rest p q s t =
        let u = t.others in
        let room = t.room in
        let one = (l.0).to_reg active free free t.room place _ p t.mid (first_of_list x xs place rest active p s) t.first in
        let others = each_lift (o1 ∷ os) xs fits.1 g.1 l.1 active (free + 1) (expression_part x place).next rest t.mid u.mid (rest_of_list x xs place rest active p t.mid (let v = (g.0).value in v.to_reg active free free p t.mid t.first) one.plain s) u.first_at in
        let word = store_word o free fits.0 (omega (arith, room)) u.mid q others.plain u.second_at in
        record { is = record { mid = t.mid; room = t.room; first = one.is; others = record { mid = u.mid; first_at = others.is; second_at = word.is } }; plain = word.plain }

    stored_lift : (targets : List Target) (r : ℕ) → AllFit f targets → (0 < length targets → r + length targets ≤ f.size) → WordLift all n f (StoredFromAt f r targets) (StoredFromAt (asking n f) r targets)
    stored_lift [] r fits room p q plain t = same_lift n f p q plain t
    stored_lift (target ∷ targets) r fits room p q plain t =
        let h = room (omega arith) in
        let one = stored_lift targets (suc r) fits.1 (λ some. omega (arith, h)) p t.mid plain t.first_at in
        let word = store_word target r fits.0 (omega (arith, h)) t.mid q one.plain t.second_at in
        record { is = record { mid = t.mid; first_at = one.is; second_at = word.is }; plain = word.plain }

    stores_by : (b : Bool) (places : List Target) (es : Expressions) → AllFit f places → AllMoves all f es → AllLift es → (active : List Active) (free : ℕ) → Lift all n f (expressions_part es) active (StoresBy b f places (all_related f es) active free) (StoresBy b (asking n f) places (all_related (asking n f) es) active free)
    stores_by true places es fits g l active free place rest p q s t = each_lift places es fits g l active free place rest p q s t
    stores_by false places es fits g l active free place rest p q s t =
        let one = adjust_lifts (length places) es g l active free place rest p t.mid s t.first_at in
        let other = stored_lift places free fits (λ some. adjust_room f es (length places) active free p t.mid some t.first_at) t.mid q one.plain t.second_at in
        record { is = record { mid = t.mid; first_at = one.is; second_at = other.is }; plain = other.plain }

    pub assign_lift : (ts es : Expressions) → AllMoves all f ts → AllMoves all f es → AllLift ts → AllLift es → are_targets ts ≡ true → (active : List Active) → Lift all n f (both (expressions_part ts) (expressions_part es)) active (AssignAt f (all_related f ts) (all_related f es) active) (AssignAt (asking n f) (all_related (asking n f) ts) (all_related (asking n f) es) active)
    assign_lift ts es g h l m k active place rest p q s t =
        let targets = targets_lift ts g l k active t.parts (length active) t.free1 place _ p t.mid (stands_first all n f (expressions_part ts) (expressions_part es) place rest active p (tame_expressions ts) (tame_expressions es) s) t.targets_at in
        let copies = copies_lift (length active) s.room t.parts t.places t.free1 t.free2 t.mid t.last targets.plain targets.is.1 t.copies_at in
        let stores = stores_by (length (all_related f es) == length (all_related f ts)) t.places es copies.is.1 h m active t.free2 (expressions_part ts place).next rest t.last q
        (stands_behind all n f (expressions_part ts) (expressions_part es) place rest active p t.last (calm_expressions ts)
        (behind all (expressions_part ts) p t.mid t.last (targets_move all f ts g k active t.parts (length active) t.free1 p t.mid t.targets_at) (copies_same all f (length active) t.parts t.places t.free1 t.free2 t.mid t.last t.copies_at)) copies.plain s)
        t.stores_at in
        record {
          is = record {
            parts = t.parts;
            places = t.places;
            free1 = t.free1;
            free2 = t.free2;
            mid = t.mid;
            last = t.last;
            targets_at = targets.is.0;
            copies_at = copies.is.0;
            stores_at = subst (λ i. StoresBy (i == length (all_related (asking n f) ts)) (asking n f) t.places (all_related (asking n f) es) active t.free2 t.last q) (sym (lengths es))
                (subst (λ i. StoresBy (length (all_related f es) == i) (asking n f) t.places (all_related (asking n f) es) active t.free2 t.last q) (sym (lengths ts)) stores.is);
          };
          plain = stores.plain;
        }
