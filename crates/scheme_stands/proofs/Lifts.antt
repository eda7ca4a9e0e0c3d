-- From the relation as the scheme gives it to that with the law asked, one lemma for each kind of part of an expression: weak words,
-- with no law, are strong ones. In each lemma s says where the part stands, and t is that its weak words do.
use Rattle.std.proofs.Common.{◌≡◌, ◌≤◌, ◌<◌, inl, inr, ℕ, ◌+◌, ◌-◌, Bool, true, false, cond, not, List, ◌++◌, length, refl, sym, ap, ◌∙◌, subst, arith, true≢false}
use Rattle.std.specs.Prelude.{Option, Some, None, ℤ, is_some}
use Rattle.std.specs.Bool.{beq}
use Rattle.lua_num.specs.Bytes.{Text}
use Rattle.lua_tree.specs.declared.tree.BinaryOp.{BinaryOp}
use Rattle.lua_tree.specs.declared.tree.UnaryOp.{UnaryOp}
use Rattle.lua_tree.specs.Outline as outline
use Rattle.lua_tree.specs.Outline.{Mark, Place, both, mentions, expression_part}
use Rattle.lua_tree.specs.Syntax.{Expression, nil_literal, name_expression, field_expression, vararg_expression}
use Rattle.opcode.specs.Word.{truth_field}
use Rattle.opcode.specs.declared.op.Op.{Op}
use Rattle.opcode.specs.declared.op.Format.{Format}
use Rattle.proto.specs.declared.parts.Constant.{Constant}
use Rattle.scheme.specs.Making.{Where, in_register, in_upvalue, in_globals}
use Rattle.scheme.specs.Expressions.{Want, Target, fold, is_comparison, is_true_constant, part_target, register_of, count_field, unary_word, comparison_word}
use Rattle.scheme.specs.declared.making.Active.{Active}
use Rattle.scheme.specs.declared.making.Piece.{Piece}
use Rattle.scheme_stands.specs.Words.{Names, MeansBy, Fn, Spot, Stretch, Passed, Seq, asking, Plain, WordAt, ConstantWord, meaning}
use Rattle.scheme_stands.specs.Expressions.{Form, form_of, several, Rel, OperandBy, OperandAt, RkBy, RkAt, RkTextAt, OneAt, TwoAt, TestBy, TestAt, CompareAt, rel_alone, rel_single, rel_name, BareAt, rel_paren, rel_index, rel_field, NameBy, NameAt, IndexAt, PartTargetAt, ArithmeticAt, TruthAt, SpineAt, ConcatAt, BinaryAt, LoadOr, BinaryJump, BinarySpine, rel_binary, UnaryAt, UnaryJump, rel_unary, DecideBy, HereAt, LogicAt, LogicJump, rel_logic, local_at, NextAt}
use Rattle.scheme_stands.specs.Lists.{GivenRel, CallAt, MethodAt, MovedFrom, rel_call, VarargAt, rel_vararg}
use Rattle.scheme_stands.specs.Placed.{NamedAt}
use Rattle.scheme_stands.specs.Places.{Moves, ValueMoves, RelMoves, ActiveAt, Here, Closed}
use Rattle.scheme_stands.proofs.Locals.{closed_active}
use Rattle.scheme_stands.proofs.Here.{Tame, TameBy, here_first, here_first_by, here_behind, here_at, name_is}
use Rattle.scheme_stands.proofs.Moving.{operand_moves, rk_moves, behind, text_same}
use Rattle.scheme_stands.proofs.Environment.{named_still, name_means}
use Rattle.scheme_stands.proofs.Small.{Setting, field_a, field_b, WhereFits, where_fits, TargetFits, local_low, operand_low, rk_low, text_low, CountRoom, count_small, want_room, base_room, results_asking}
use Rattle.scheme_stands.proofs.Words.{Lifted, Alone, alone, unary_alone, truth_small, same_lift, abc_lift, jmp_lift, jump_on_lift, constant_lift, comparison_lift}

-- ---- where a part stands

pub record Stands (all : List Mark) (n : Names) (f : Fn) (part : outline.Part) (place : Place) (rest : List Mark) (active : List Active) (p : Spot) : Type 0 where
  pub here : Here all part place rest p
  pub active_at : ActiveAt place active
  pub named : NamedAt all place active n
  pub room : length active ≤ f.size
  pub plain : Plain f p.pc

-- a part that brings nothing into scope
pub record Calm (part : outline.Part) : Type 0 where
  pub tame : Tame part
  pub closed : (place : Place) → Closed part place

-- what one value is never asked for
no_several : {A : Type 0} (form : Form) → several form ≡ false → several form ≡ true → A
no_several form h k = absurd (true≢false (sym k ∙ h))

module _ (all : List Mark) (n : Names) (f : Fn) where
  pub stands_first_by : {bound : ℕ} (a b : outline.Part) (place : Place) (rest : List Mark) (active : List Active) (p : Spot) → bound ≤ place.declarations → Tame a → TameBy bound b → Stands all n f (both a b) place rest active p → Stands all n f a place ((b (a place).next).marks ++ rest) active p
  stands_first_by a b place rest active p below ta tb s = record { here = here_first_by all a b place rest p below ta tb s.here; active_at = s.active_at; named = s.named; room = s.room; plain = s.plain }

  pub stands_first : (a b : outline.Part) (place : Place) (rest : List Mark) (active : List Active) (p : Spot) → Tame a → Tame b → Stands all n f (both a b) place rest active p → Stands all n f a place ((b (a place).next).marks ++ rest) active p
  stands_first a b place rest active p ta tb s = record { here = here_first all a b place rest p ta tb s.here; active_at = s.active_at; named = s.named; room = s.room; plain = s.plain }

  pub stands_behind : (a b : outline.Part) (place : Place) (rest : List Mark) (active : List Active) (p m : Spot) → Calm a → Moves all a p m → Plain f m.pc → Stands all n f (both a b) place rest active p → Stands all n f b (a place).next rest active m
  stands_behind a b place rest active p m k g plain s =
      let c = k.closed place in
      record {
        here = here_behind all a b place rest p m k.tame c g s.here;
        active_at = closed_active a place active c s.active_at;
        named = named_still all place (a place).next active n c.scope c.counted.around s.named;
        room = s.room;
        plain = plain;
      }

  pub stands_at : (part : outline.Part) (place : Place) (rest : List Mark) (active : List Active) (p q : Spot) → q.ahead ≡ p.ahead → Plain f q.pc → Stands all n f part place rest active p → Stands all n f part place rest active q
  stands_at part place rest active p q e plain s = record { here = here_at all part place rest p q e s.here; active_at = s.active_at; named = s.named; room = s.room; plain = plain }

  -- words that stand, stand by the law
  abbrev pub Lift : outline.Part → List Active → (weak strong : Stretch) → Type 0
  Lift part active weak strong = (place : Place) (rest : List Mark) (p q : Spot) → Stands all n f part place rest active p → weak p q → Lifted f (strong p q) q

  -- all uses of an expression: those that are made of it
  pub record RelLifts (part : outline.Part) (is_target : Bool) (weak strong : Rel) : Type 0 where
    pub form : strong.form ≡ weak.form
    pub to_reg : (active : List Active) (free r : ℕ) → r < f.size → Lift part active (weak.to_reg active free r) (strong.to_reg active free r)
    pub jump_if : (active : List Active) (free : ℕ) (truth : Bool) (label : ℕ) → Lift part active (weak.jump_if active free truth label) (strong.jump_if active free truth label)
    pub spine : (active : List Active) (free free1 : ℕ) → Lift part active (weak.spine active free free1) (strong.spine active free free1)
    pub spine_room : (active : List Active) (free free1 : ℕ) (p q : Spot) → weak.spine active free free1 p q → free1 ≤ f.size
    pub multi : several weak.form ≡ true → (active : List Active) (free : ℕ) (op : Op) (want : Want) → Alone Format.Abc op → Lift part active (weak.multi active free op want) (strong.multi active free op want)
    pub target : is_target ≡ true → (active : List Active) (free : ℕ) (target : Target) (free1 : ℕ) → Lift part active (weak.target active free target free1) (strong.target active free target free1)
    pub target_fits : is_target ≡ true → (active : List Active) (free : ℕ) (target : Target) (free1 : ℕ) (place : Place) (rest : List Mark) (p q : Spot) → Stands all n f part place rest active p → weak.target active free target free1 p q → TargetFits f target
    pub bare : (active : List Active) → Lift part active (weak.bare active) (strong.bare active)

  -- a value alone
  pub record ValueLifts (part : outline.Part) (weak strong : Rel) : Type 0 where
    pub form : strong.form ≡ weak.form
    pub to_reg : (active : List Active) (free r : ℕ) → r < f.size → Lift part active (weak.to_reg active free r) (strong.to_reg active free r)
    pub bare : (active : List Active) → Lift part active (weak.bare active) (strong.bare active)

  pub value_of : (part : outline.Part) (is_target : Bool) (weak strong : Rel) → RelLifts part is_target weak strong → ValueLifts part weak strong
  value_of part is_target weak strong l = record { form = l.form; to_reg = l.to_reg; bare = l.bare }

  -- a word that is lifted wherever it stands
  abbrev pub WordLift : (weak strong : Stretch) → Type 0
  WordLift weak strong = (p q : Spot) → Plain f p.pc → weak p q → Lifted f (strong p q) q

  passed_lift : (p q : Spot) → Plain f p.pc → Passed p q → Lifted f (Passed p q) q
  passed_lift p q plain t = record { is = t; plain = subst (Plain f) (sym t.pc) plain }

  module _ (setting : Setting n f) where
    -- ---- operands

    module _ (part : outline.Part) (weak strong : Rel) (lifts : ValueLifts part weak strong) where
      operand_by : (o : Option ℕ) (active : List Active) (free x free1 : ℕ) → Lift part active (OperandBy o f active weak free x free1) (OperandBy o (asking n f) active strong free x free1)
      operand_by (Some r) active free x free1 place rest p q s t = let w = lifts.bare active place rest p q s t.passed in record { is = record { at_x = t.at_x; at_free = t.at_free; passed = w.is }; plain = w.plain }
      operand_by None active free x free1 place rest p q s t =
          let w = lifts.to_reg active free free t.room place rest p q s t.value_at in
          record { is = record { room = t.room; at_x = t.at_x; at_free = t.at_free; value_at = w.is }; plain = w.plain }

      operand_lift : (active : List Active) (free x free1 : ℕ) → Lift part active (OperandAt f active weak free x free1) (OperandAt (asking n f) active strong free x free1)
      operand_lift active free x free1 place rest p q s t =
          subst (λ (k : Form). Lifted f (OperandBy (local_at k active p) (asking n f) active strong free x free1 p q) q) (sym lifts.form) (operand_by (local_at weak.form active p) active free x free1 place rest p q s t)

      rk_by : (o : Option Constant) (active : List Active) (free x free1 : ℕ) → Lift part active (RkBy o f active weak free x free1) (RkBy o (asking n f) active strong free x free1)
      rk_by (Some k) active free x free1 place rest p q s (inl t) =
          let w = same_lift n f p q s.plain t.same in
          record { is = inl (record { number = t.number; is = t.is; first = t.first; small = t.small; at_x = t.at_x; at_free = t.at_free; same = w.is }); plain = w.plain }
      rk_by (Some k) active free x free1 place rest p q s (inr (large, t)) = let w = operand_lift active free x free1 place rest p q s t in record { is = inr (large, w.is); plain = w.plain }
      rk_by None active free x free1 place rest p q s t = operand_lift active free x free1 place rest p q s t

      pub rk_lift : (active : List Active) (free x free1 : ℕ) → Lift part active (RkAt f active weak free x free1) (RkAt (asking n f) active strong free x free1)
      rk_lift active free x free1 place rest p q s t =
          subst (λ (k : Form). Lifted f (RkBy k.literal (asking n f) active strong free x free1 p q) q) (sym lifts.form) (rk_by weak.form.literal active free x free1 place rest p q s t)

      pub one_lift : (active : List Active) (free : ℕ) (words words1 : ℕ → Stretch) → ((x : ℕ) → x ≤ f.size → WordLift (words x) (words1 x)) → Lift part active (OneAt (OperandAt f active weak) free words) (OneAt (OperandAt (asking n f) active strong) free words1)
      one_lift active free words words1 h place rest p q s t =
          let one = operand_lift active free t.x t.free1 place rest p t.mid s t.operand_at in
          let w = h t.x (operand_low f weak active free t.x t.free1 p t.mid s.room t.operand_at) t.mid q one.plain t.words_at in
          record { is = record { x = t.x; free1 = t.free1; mid = t.mid; operand_at = one.is; words_at = w.is }; plain = w.plain }

      pub one_rk_lift : (active : List Active) (free : ℕ) (words words1 : ℕ → Stretch) → ((x : ℕ) → x < 512 → WordLift (words x) (words1 x)) → Lift part active (OneAt (RkAt f active weak) free words) (OneAt (RkAt (asking n f) active strong) free words1)
      one_rk_lift active free words words1 h place rest p q s t =
          let one = rk_lift active free t.x t.free1 place rest p t.mid s t.operand_at in
          let w = h t.x (rk_low n f setting weak active free t.x t.free1 p t.mid s.room t.operand_at) t.mid q one.plain t.words_at in
          record { is = record { x = t.x; free1 = t.free1; mid = t.mid; operand_at = one.is; words_at = w.is }; plain = w.plain }

      -- a test and its jump
      test_words : (truth : Bool) (label x : ℕ) → x ≤ f.size →
          WordLift (Seq (WordAt f (Piece.Abc Op.Test x 0 (truth_field truth))) (WordAt f (Piece.Jump Op.Jmp 0 label))) (Seq (WordAt (asking n f) (Piece.Abc Op.Test x 0 (truth_field truth))) (WordAt (asking n f) (Piece.Jump Op.Jmp 0 label)))
      test_words truth label x h p q plain t =
          let small = truth_small truth in
          let one = abc_lift n f Op.Test x 0 (truth_field truth) (alone Op.Test refl) (field_a n f x setting h) (omega arith) (omega (arith, small)) p t.mid plain t.first_at in
          let other = jmp_lift n f label t.mid q one.plain t.second_at in
          record { is = record { mid = t.mid; first_at = one.is; second_at = other.is }; plain = other.plain }

      test_at_lift : (active : List Active) (free : ℕ) (truth : Bool) (label : ℕ) → Lift part active (TestAt f active weak free truth label) (TestAt (asking n f) active strong free truth label)
      test_at_lift active free truth label = one_lift active free _ _ (test_words truth label)

      test_by : (o : Option Constant) (active : List Active) (free : ℕ) (truth : Bool) (label : ℕ) → Lift part active (TestBy o f active weak free truth label) (TestBy o (asking n f) active strong free truth label)
      test_by (Some k) active free truth label place rest p q s t = jump_on_lift n f (beq truth (is_true_constant k)) label p q s.plain t
      test_by None active free truth label place rest p q s t = test_at_lift active free truth label place rest p q s t

      test_lift : (active : List Active) (free : ℕ) (truth : Bool) (label : ℕ) → Lift part active (TestBy weak.form.literal f active weak free truth label) (TestBy strong.form.literal (asking n f) active strong free truth label)
      test_lift active free truth label place rest p q s t =
          subst (λ (k : Form). Lifted f (TestBy k.literal (asking n f) active strong free truth label p q) q) (sym lifts.form) (test_by weak.form.literal active free truth label place rest p q s t)

      next_lift : (active : List Active) (free free1 : ℕ) → Lift part active (NextAt f (weak.to_reg active free free) free free free1) (NextAt (asking n f) (strong.to_reg active free free) free free free1)
      next_lift active free free1 place rest p q s t =
          let w = lifts.to_reg active free free t.room place rest p q s t.value_at in
          record { is = record { room = t.room; at_x = t.at_x; at_free = t.at_free; value_at = w.is }; plain = w.plain }

    next_room : (to : Stretch) (free free1 : ℕ) (p q : Spot) → NextAt f to free free free1 p q → free1 ≤ f.size
    next_room to free free1 p q t = let l = t.room in let e = t.at_free in omega (arith, l, e)

    -- a text as an operand
    pub text_lift : (text : Text) (free x free1 : ℕ) → WordLift (RkTextAt f text free x free1) (RkTextAt (asking n f) text free x free1)
    text_lift text free x free1 p q plain (inl t) =
        let w = same_lift n f p q plain t.same in
        record { is = inl (record { number = t.number; is = t.is; first = t.first; small = t.small; at_x = t.at_x; at_free = t.at_free; same = w.is }); plain = w.plain }
    text_lift text free x free1 p q plain (inr (large, t)) =
        let room = t.room in
        let w = constant_lift n f Op.LoadK free (Constant.Text text) (record { is = refl; none = λ inner i. refl }) setting.limits (field_a n f free setting (omega (arith, room))) p q plain t.value_at in
        record { is = inr (large, record { room = t.room; at_x = t.at_x; at_free = t.at_free; value_at = w.is }); plain = w.plain }

    -- ---- an expression by its value alone

    abbrev pub ToLifts : outline.Part → (to to1 : List Active → (free r : ℕ) → Stretch) → Type 0
    ToLifts part to to1 = (active : List Active) (free r : ℕ) → r < f.size → Lift part active (to active free r) (to1 active free r)

    alone_lifts : (part : outline.Part) (form : Form) (to to1 : List Active → (free r : ℕ) → Stretch) → ToLifts part to to1 → ValueLifts part (rel_alone f form to) (rel_alone (asking n f) form to1)
    alone_lifts part form to to1 l = record { form = refl; to_reg = l; bare = λ active place rest p q s t. passed_lift p q s.plain t }

    pub single_lifts : (part : outline.Part) (form : Form) (to to1 : List Active → (free r : ℕ) → Stretch) → several form ≡ false → ToLifts part to to1 → RelLifts part false (rel_single f form to) (rel_single (asking n f) form to1)
    single_lifts part form to to1 one l =
        let v = alone_lifts part form to to1 l in
        record {
          form = refl;
          to_reg = l;
          jump_if = test_lift part (rel_alone f form to) (rel_alone (asking n f) form to1) v;
          spine = next_lift part (rel_alone f form to) (rel_alone (asking n f) form to1) v;
          spine_room = λ active free free1 p q t. next_room (to active free free) free free1 p q t;
          multi = λ h. no_several form one h;
          target = λ h. absurd (true≢false (sym h));
          target_fits = λ h. absurd (true≢false (sym h));
          bare = v.bare;
        }

    -- a constant that is loaded
    pub load_lift : (part : outline.Part) (k : Constant) → ToLifts part (λ active free r. ConstantWord f Op.LoadK r k) (λ active free r. ConstantWord (asking n f) Op.LoadK r k)
    load_lift part k active free r h place rest p q s t = constant_lift n f Op.LoadK r k (record { is = refl; none = λ inner i. refl }) setting.limits (field_a n f r setting (omega (arith, h))) p q s.plain t

    -- ---- names

    law_at : (line : ℕ) (text : Text) (active : List Active) (place : Place) (rest : List Mark) (p : Spot) → Stands all n f (mentions line text) place rest active p → MeansBy n active text (meaning active p)
    law_at line text active place rest p s = name_means all place active n text (meaning active p) s.active_at s.named (name_is all line text place rest active p s.active_at s.here)

    name_by : (text : Text) (w : Where) (r : ℕ) → WhereFits f w → r < f.size → WordLift (NameBy f text w r) (NameBy (asking n f) text w r)
    name_by text (in_register x) r fits h p q plain t = abc_lift n f Op.Move r x 0 (alone Op.Move refl) (field_a n f r setting (omega (arith, h))) (field_b n f x setting (omega (arith, fits))) (omega arith) p q plain t
    name_by text (in_upvalue slot) r fits h p q plain t = abc_lift n f Op.GetUpval r slot 0 (alone Op.GetUpval refl) (field_a n f r setting (omega (arith, h))) (omega (arith, fits)) (omega arith) p q plain t
    name_by text in_globals r fits h p q plain t = constant_lift n f Op.GetGlobal r (Constant.Text text) (record { is = refl; none = λ inner i. refl }) setting.limits (field_a n f r setting (omega (arith, h))) p q plain t

    name_value : (line : ℕ) (text : Text) → ToLifts (mentions line text) (NameAt f text) (NameAt (asking n f) text)
    name_value line text active free r h place rest p q s t =
        let law = law_at line text active place rest p s in
        let one = passed_lift p t.1.mid s.plain t.1.first_at in
        let w = name_by text (meaning active p) r (where_fits n f active text (meaning active p) setting s.room law) h t.1.mid q one.plain t.1.second_at in
        record { is = (law, record { mid = t.1.mid; first_at = one.is; second_at = w.is }); plain = w.plain }

    name_bare : (line : ℕ) (text : Text) (active : List Active) → Lift (mentions line text) active (BareAt f text active) (BareAt (asking n f) text active)
    name_bare line text active place rest p q s t = let w = passed_lift p q s.plain t.passed in record { is = record { means = law_at line text active place rest p s; passed = w.is }; plain = w.plain }

    pub name_lifts : (line : ℕ) (text : Text) → RelLifts (mentions line text) true (rel_name f text) (rel_name (asking n f) text)
    name_lifts line text =
        let part = mentions line text in
        let c : Rel = record (rel_alone f (form_of (name_expression 0 text)) (NameAt f text)) { bare = BareAt f text } in
        let d : Rel = record (rel_alone (asking n f) (form_of (name_expression 0 text)) (NameAt (asking n f) text)) { bare = BareAt (asking n f) text } in
        let v : ValueLifts part c d = record { form = refl; to_reg = name_value line text; bare = name_bare line text } in
        record {
          form = refl;
          to_reg = v.to_reg;
          jump_if = test_at_lift part c d v;
          spine = next_lift part c d v;
          spine_room = λ active free free1 p q t. next_room (NameAt f text active free free) free free1 p q t;
          multi = λ h. absurd (true≢false (sym h));
          target = λ h active free target free1 place rest p q s t.
              let w = passed_lift p q s.plain t.passed in
              record { is = record { is = t.is; means = law_at line text active place rest p s; at_free = t.at_free; passed = w.is }; plain = w.plain };
          target_fits = λ h active free target free1 place rest p q s t.
              subst (TargetFits f) (sym t.is) (where_fits n f active text (meaning active p) setting s.room (law_at line text active place rest p s));
          bare = v.bare;
        }

    pub paren_lifts : (part : outline.Part) (is_target : Bool) (form : Form) (weak strong : Rel) → several form ≡ false → RelLifts part is_target weak strong → RelLifts part false (rel_paren f form weak) (rel_paren (asking n f) form strong)
    paren_lifts part is_target form weak strong alone_form lifts = record {
      form = refl;
      to_reg = lifts.to_reg;
      jump_if = lifts.jump_if;
      spine = next_lift part weak strong (value_of part is_target weak strong lifts);
      spine_room = λ active free free1 p q t. next_room (weak.to_reg active free free) free free1 p q t;
      multi = λ h. no_several form alone_form h;
      target = λ h. absurd (true≢false (sym h));
      target_fits = λ h. absurd (true≢false (sym h));
      bare = lifts.bare;
    }

    -- ---- one operand

    -- a folded number is loaded
    load_by : (o : Option ℤ) (part : outline.Part) (to to1 : List Active → (free r : ℕ) → Stretch) → ToLifts part to to1 → ToLifts part (LoadOr o f to) (LoadOr o (asking n f) to1)
    load_by (Some k) part to to1 l = load_lift part (Constant.Number k)
    load_by None part to to1 l = l

    unary_jump : (op : UnaryOp) (part : outline.Part) (is_target : Bool) (weak strong v w : Rel) → RelLifts part is_target weak strong → RelLifts part false v w → (active : List Active) (free : ℕ) (truth : Bool) (label : ℕ) → Lift part active (UnaryJump op weak v active free truth label) (UnaryJump op strong w active free truth label)
    unary_jump UnaryOp.Not part is_target weak strong v w l m active free truth label = l.jump_if active free (not truth) label
    unary_jump UnaryOp.Neg part is_target weak strong v w l m active free truth label = m.jump_if active free truth label
    unary_jump UnaryOp.Len part is_target weak strong v w l m active free truth label = m.jump_if active free truth label

    unary_at : (op : UnaryOp) (part : outline.Part) (weak strong : Rel) → ValueLifts part weak strong → ToLifts part (UnaryAt f op weak) (UnaryAt (asking n f) op strong)
    unary_at op part weak strong l active free r h = one_lift part weak strong l active free _ _
        (λ x low p q plain t. abc_lift n f (unary_word op) r x 0 (unary_alone op) (field_a n f r setting (omega (arith, h))) (field_b n f x setting low) (omega arith) p q plain t)

    pub unary_lifts : (op : UnaryOp) (part : outline.Part) (is_target : Bool) (e : Expression) (weak strong : Rel) → several (form_of e) ≡ false → RelLifts part is_target weak strong → RelLifts part false (rel_unary f op e weak) (rel_unary (asking n f) op e strong)
    unary_lifts op part is_target e weak strong one l =
        let to = LoadOr (fold e) f (UnaryAt f op weak) in
        let to1 = LoadOr (fold e) (asking n f) (UnaryAt (asking n f) op strong) in
        let s = single_lifts part (form_of e) to to1 one (load_by (fold e) part (UnaryAt f op weak) (UnaryAt (asking n f) op strong) (unary_at op part weak strong (value_of part is_target weak strong l))) in
        record {
          form = refl;
          to_reg = s.to_reg;
          jump_if = unary_jump op part is_target weak strong (rel_single f (form_of e) to) (rel_single (asking n f) (form_of e) to1) l s;
          spine = s.spine;
          spine_room = s.spine_room;
          multi = s.multi;
          target = s.target;
          target_fits = s.target_fits;
          bare = s.bare;
        }

    -- a field
    pub field_lifts : (part : outline.Part) (is_target : Bool) (weak strong : Rel) (text : Text) → RelLifts part is_target weak strong → RelLifts part true (rel_field f weak text) (rel_field (asking n f) strong text)
    field_lifts part is_target weak strong text lifts =
        let value = value_of part is_target weak strong lifts in
        let s = single_lifts part (form_of (field_expression 0 (nil_literal 0) text)) (IndexAt f weak (λ active. RkTextAt f text)) (IndexAt (asking n f) strong (λ active. RkTextAt (asking n f) text)) refl (λ active free r h place rest p q s t.
        let one = operand_lift part weak strong value active free t.x t.free1 place rest p t.mid s t.left_at in
        let other = text_lift text t.free1 t.y t.free2 t.mid t.last one.plain t.right_at in
        let w = abc_lift n f Op.GetTable r t.x t.y (alone Op.GetTable refl) (field_a n f r setting (omega (arith, h))) (field_b n f t.x setting (operand_low f weak active free t.x t.free1 p t.mid s.room t.left_at)) (text_low n f setting text t.free1 t.y t.free2 t.mid t.last t.right_at) t.last q other.plain t.words_at in
        record { is = record { x = t.x; y = t.y; free1 = t.free1; free2 = t.free2; mid = t.mid; last = t.last; left_at = one.is; right_at = other.is; words_at = w.is }; plain = w.plain }) in
        record {
          form = refl;
          to_reg = s.to_reg;
          jump_if = s.jump_if;
          spine = s.spine;
          spine_room = s.spine_room;
          multi = s.multi;
          target = λ e active free target free2 place rest p q s t.
              let one = operand_lift part weak strong value active free t.t t.free1 place rest p t.mid s t.on_at in
              let other = text_lift text t.free1 t.k free2 t.mid q one.plain t.key_at in
              record {
                is = record { t = t.t; k = t.k; free1 = t.free1; mid = t.mid; is = t.is ∙ ap (λ (o : Form). part_target t.t t.k (is_some (local_at o active p)) false) (sym lifts.form); on_at = one.is; key_at = other.is };
                plain = other.plain;
              };
          target_fits = λ e active free target free2 place rest p q s t.
              subst (TargetFits f) (sym t.is) (field_a n f t.t setting (operand_low f weak active free t.t t.free1 p t.mid s.room t.on_at), text_low n f setting text t.free1 t.k free2 t.mid q t.key_at);
          bare = s.bare;
        }

    -- ---- two parts

    module _ (a b : outline.Part) (left left1 right right1 : Rel) (left_target right_target : Bool) (moves : RelMoves all a left_target left) (left_calm : Calm a) (right_calm : Calm b) (left_lifts : RelLifts a left_target left left1) (right_lifts : RelLifts b right_target right right1) where
      left_value : ValueLifts a left left1
      left_value = value_of a left_target left left1 left_lifts

      right_value : ValueLifts b right right1
      right_value = value_of b right_target right right1 right_lifts

      two_rk : (active : List Active) (free : ℕ) (words words1 : ℕ → ℕ → Stretch) → ((x y : ℕ) → x < 512 → y < 512 → WordLift (words x y) (words1 x y)) →
          Lift (both a b) active (TwoAt (RkAt f active left) (RkAt f active right) free words) (TwoAt (RkAt (asking n f) active left1) (RkAt (asking n f) active right1) free words1)
      two_rk active free words words1 h place rest p q s t =
          let one = rk_lift a left left1 left_value active free t.x t.free1 place _ p t.mid (stands_first a b place rest active p left_calm.tame right_calm.tame s) t.left_at in
          let other = rk_lift b right right1 right_value active t.free1 t.y t.free2 (a place).next rest t.mid t.last (stands_behind a b place rest active p t.mid left_calm (rk_moves all f a left moves.value active free t.x t.free1 p t.mid t.left_at) one.plain s) t.right_at in
          let w = h t.x t.y (rk_low n f setting left active free t.x t.free1 p t.mid s.room t.left_at) (rk_low n f setting right active t.free1 t.y t.free2 t.mid t.last s.room t.right_at) t.last q other.plain t.words_at in
          record { is = record { x = t.x; y = t.y; free1 = t.free1; free2 = t.free2; mid = t.mid; last = t.last; left_at = one.is; right_at = other.is; words_at = w.is }; plain = w.plain }

      -- comparisons
      compare_words : (op : BinaryOp) (truth : Bool) (label x y : ℕ) → x < 512 → y < 512 →
          WordLift (Seq (WordAt f (comparison_word op truth x y)) (WordAt f (Piece.Jump Op.Jmp 0 label))) (Seq (WordAt (asking n f) (comparison_word op truth x y)) (WordAt (asking n f) (Piece.Jump Op.Jmp 0 label)))
      compare_words op truth label x y hx hy p q plain t =
          let one = comparison_lift n f op truth x y hx hy p t.mid plain t.first_at in
          let other = jmp_lift n f label t.mid q one.plain t.second_at in
          record { is = record { mid = t.mid; first_at = one.is; second_at = other.is }; plain = other.plain }

      compare_lift : (op : BinaryOp) (active : List Active) (free : ℕ) (truth : Bool) (label : ℕ) → Lift (both a b) active (CompareAt f op left right active free truth label) (CompareAt (asking n f) op left1 right1 active free truth label)
      compare_lift op active free truth label = two_rk active free _ _ (compare_words op truth label)

      truth_lift : (op : BinaryOp) → ToLifts (both a b) (TruthAt f op left right) (TruthAt (asking n f) op left1 right1)
      truth_lift op active free x h place rest p q s t =
          let small = field_a n f x setting (omega (arith, h)) in
          let one = compare_lift op active free true (t.yes).pc place rest p t.mid s t.compare in
          let no = abc_lift n f Op.LoadBool x 0 1 (alone Op.LoadBool refl) small (omega arith) (omega arith) t.mid t.yes one.plain t.no in
          let yes = abc_lift n f Op.LoadBool x 1 0 (alone Op.LoadBool refl) small (omega arith) (omega arith) t.yes q no.plain t.load in
          record { is = record { mid = t.mid; yes = t.yes; compare = one.is; no = no.is; load = yes.is }; plain = yes.plain }

      -- `..`
      spine_lift : (active : List Active) (free free1 : ℕ) → Lift (both a b) active (SpineAt f left right active free free1) (SpineAt (asking n f) left1 right1 active free free1)
      spine_lift active free free1 place rest p q s t =
          let one = left_lifts.to_reg active free free t.room place _ p t.mid (stands_first a b place rest active p left_calm.tame right_calm.tame s) t.first in
          let other = right_lifts.spine active (free + 1) free1 (a place).next rest t.mid q (stands_behind a b place rest active p t.mid left_calm ((moves.value).to_reg active free free p t.mid t.first) one.plain s) t.rest in
          record { is = record { mid = t.mid; room = t.room; first = one.is; rest = other.is }; plain = other.plain }

      spine_room : (active : List Active) (free free1 : ℕ) (p q : Spot) → SpineAt f left right active free free1 p q → free1 ≤ f.size
      spine_room active free free1 p q t = right_lifts.spine_room active (free + 1) free1 t.mid q t.rest

      concat_lift : ToLifts (both a b) (ConcatAt f left right) (ConcatAt (asking n f) left1 right1)
      concat_lift active free x h place rest p q s t =
          let o = t.operands in
          let first_room = o.room in
          let last_room = spine_room active free t.free1 p t.last t.operands in
          let one = spine_lift active free t.free1 place rest p t.last s t.operands in
          let w = abc_lift n f Op.Concat x free (t.free1 - 1) (alone Op.Concat refl) (field_a n f x setting (omega (arith, h))) (field_b n f free setting (omega (arith, first_room))) (field_b n f (t.free1 - 1) setting (omega (arith, last_room))) t.last q one.plain t.word in
          record { is = record { free1 = t.free1; last = t.last; operands = one.is; word = w.is }; plain = w.plain }

      arithmetic_lift : (op : Op) → Alone Format.Abc op → ToLifts (both a b) (ArithmeticAt f op left right) (ArithmeticAt (asking n f) op left1 right1)
      arithmetic_lift op one active free x h = two_rk active free _ _ (λ y z hy hz p q plain t. abc_lift n f op x y z one (field_a n f x setting (omega (arith, h))) hy hz p q plain t)

      binary_lift : (op : BinaryOp) → ToLifts (both a b) (BinaryAt f op left right) (BinaryAt (asking n f) op left1 right1)
      binary_lift BinaryOp.Add = arithmetic_lift Op.Add (alone Op.Add refl)
      binary_lift BinaryOp.Sub = arithmetic_lift Op.Sub (alone Op.Sub refl)
      binary_lift BinaryOp.Mul = arithmetic_lift Op.Mul (alone Op.Mul refl)
      binary_lift BinaryOp.Div = arithmetic_lift Op.Div (alone Op.Div refl)
      binary_lift BinaryOp.Rem = arithmetic_lift Op.Mod (alone Op.Mod refl)
      binary_lift BinaryOp.Pow = arithmetic_lift Op.Pow (alone Op.Pow refl)
      binary_lift BinaryOp.Concat = concat_lift
      binary_lift BinaryOp.Eq = truth_lift BinaryOp.Eq
      binary_lift BinaryOp.Ne = truth_lift BinaryOp.Ne
      binary_lift BinaryOp.Lt = truth_lift BinaryOp.Lt
      binary_lift BinaryOp.Le = truth_lift BinaryOp.Le
      binary_lift BinaryOp.Gt = truth_lift BinaryOp.Gt
      binary_lift BinaryOp.Ge = truth_lift BinaryOp.Ge

      binary_jump : (j : Bool) (op : BinaryOp) (w w1 : Rel) → RelLifts (both a b) false w w1 → (active : List Active) (free : ℕ) (truth : Bool) (label : ℕ) → Lift (both a b) active (BinaryJump j f op left right w active free truth label) (BinaryJump j (asking n f) op left1 right1 w1 active free truth label)
      binary_jump true op w w1 k active free truth label = compare_lift op active free truth label
      binary_jump false op w w1 k active free truth label = k.jump_if active free truth label

      binary_spine : (op : BinaryOp) (w w1 : Rel) → RelLifts (both a b) false w w1 → (active : List Active) (free free1 : ℕ) → Lift (both a b) active (BinarySpine f op left right w active free free1) (BinarySpine (asking n f) op left1 right1 w1 active free free1)
      binary_spine BinaryOp.Concat w w1 k active free free1 = spine_lift active free free1
      binary_spine op w w1 k active free free1 = k.spine active free free1

      binary_room : (op : BinaryOp) (w w1 : Rel) → RelLifts (both a b) false w w1 → (active : List Active) (free free1 : ℕ) (p q : Spot) → BinarySpine f op left right w active free free1 p q → free1 ≤ f.size
      binary_room BinaryOp.Concat w w1 k active free free1 p q t = spine_room active free free1 p q t
      binary_room op w w1 k active free free1 p q t = k.spine_room active free free1 p q t

      pub binary_lifts : (op : BinaryOp) (e : Expression) → several (form_of e) ≡ false → RelLifts (both a b) false (rel_binary f op e left right) (rel_binary (asking n f) op e left1 right1)
      binary_lifts op e one =
          let to = LoadOr (fold e) f (BinaryAt f op left right) in
          let to1 = LoadOr (fold e) (asking n f) (BinaryAt (asking n f) op left1 right1) in
          let s = single_lifts (both a b) (form_of e) to to1 one (load_by (fold e) (both a b) (BinaryAt f op left right) (BinaryAt (asking n f) op left1 right1) (binary_lift op)) in
          record {
            form = refl;
            to_reg = s.to_reg;
            jump_if = binary_jump (is_comparison op) op (rel_single f (form_of e) to) (rel_single (asking n f) (form_of e) to1) s;
            spine = binary_spine op (rel_single f (form_of e) to) (rel_single (asking n f) (form_of e) to1) s;
            spine_room = binary_room op (rel_single f (form_of e) to) (rel_single (asking n f) (form_of e) to1) s;
            multi = s.multi;
            target = s.target;
            target_fits = s.target_fits;
            bare = s.bare;
          }

      -- indexing
      index_value : ToLifts (both a b) (IndexAt f left (λ active. RkAt f active right)) (IndexAt (asking n f) left1 (λ active. RkAt (asking n f) active right1))
      index_value active free x h place rest p q s t =
          let one = operand_lift a left left1 left_value active free t.x t.free1 place _ p t.mid (stands_first a b place rest active p left_calm.tame right_calm.tame s) t.left_at in
          let other = rk_lift b right right1 right_value active t.free1 t.y t.free2 (a place).next rest t.mid t.last (stands_behind a b place rest active p t.mid left_calm (operand_moves all f a left moves.value active free t.x t.free1 p t.mid t.left_at) one.plain s) t.right_at in
          let w = abc_lift n f Op.GetTable x t.x t.y (alone Op.GetTable refl) (field_a n f x setting (omega (arith, h))) (field_b n f t.x setting (operand_low f left active free t.x t.free1 p t.mid s.room t.left_at)) (rk_low n f setting right active t.free1 t.y t.free2 t.mid t.last s.room t.right_at) t.last q other.plain t.words_at in
          record { is = record { x = t.x; y = t.y; free1 = t.free1; free2 = t.free2; mid = t.mid; last = t.last; left_at = one.is; right_at = other.is; words_at = w.is }; plain = w.plain }

      index_target : (active : List Active) (free : ℕ) (target : Target) (free2 : ℕ) → Lift (both a b) active (PartTargetAt f left (λ active. RkAt f active right) (λ active p. is_some (local_at right.form active p)) active free target free2)
          (PartTargetAt (asking n f) left1 (λ active. RkAt (asking n f) active right1) (λ active p. is_some (local_at right1.form active p)) active free target free2)
      index_target active free target free2 place rest p q s t =
          let one = operand_lift a left left1 left_value active free t.t t.free1 place _ p t.mid (stands_first a b place rest active p left_calm.tame right_calm.tame s) t.on_at in
          let other = rk_lift b right right1 right_value active t.free1 t.k free2 (a place).next rest t.mid q (stands_behind a b place rest active p t.mid left_calm (operand_moves all f a left moves.value active free t.t t.free1 p t.mid t.on_at) one.plain s) t.key_at in
          record {
            is = record {
              t = t.t;
              k = t.k;
              free1 = t.free1;
              mid = t.mid;
              is = t.is
                  ∙ ap (λ (o : Form). part_target t.t t.k (is_some (local_at o active p)) (is_some (local_at right.form active t.mid))) (sym left_lifts.form)
                  ∙ ap (λ (o : Form). part_target t.t t.k (is_some (local_at left1.form active p)) (is_some (local_at o active t.mid))) (sym right_lifts.form);
              on_at = one.is;
              key_at = other.is;
            };
            plain = other.plain;
          }

      pub index_lifts : (form : Form) → several form ≡ false → RelLifts (both a b) true (rel_index f form left right) (rel_index (asking n f) form left1 right1)
      index_lifts form one =
          let s = single_lifts (both a b) form (IndexAt f left (λ active. RkAt f active right)) (IndexAt (asking n f) left1 (λ active. RkAt (asking n f) active right1)) one index_value in
          record {
            form = refl;
            to_reg = s.to_reg;
            jump_if = s.jump_if;
            spine = s.spine;
            spine_room = s.spine_room;
            multi = s.multi;
            target = λ e. index_target;
            target_fits = λ e active free target free2 place rest p q s t.
                subst (TargetFits f) (sym t.is) (field_a n f t.t setting (operand_low f left active free t.t t.free1 p t.mid s.room t.on_at), rk_low n f setting right active t.free1 t.k free2 t.mid q s.room t.key_at);
            bare = s.bare;
          }

      -- and, or
      decide_lift : (o : Option ℕ) (decides : Bool) (active : List Active) (free x : ℕ) → ((y : ℕ) → o ≡ Some y → y ≤ length active) → x < f.size → Lift a active (DecideBy o f decides left active free x) (DecideBy o (asking n f) decides left1 active free x)
      decide_lift (Some y) decides active free x low h place rest p q s t =
          let small = truth_small decides in
          let at_y = low y refl in
          let room = s.room in
          let one = left_lifts.bare active place rest p t.mid s t.first_at in
          let w = abc_lift n f Op.TestSet x y (truth_field decides) (alone Op.TestSet refl) (field_a n f x setting (omega (arith, h))) (field_b n f y setting (omega (arith, at_y, room))) (omega (arith, small)) t.mid q one.plain t.second_at in
          record { is = record { mid = t.mid; first_at = one.is; second_at = w.is }; plain = w.plain }
      decide_lift None decides active free x low h place rest p q s t =
          let small = truth_small decides in
          let one = left_lifts.to_reg active free x h place rest p t.mid s t.first_at in
          let w = abc_lift n f Op.Test x 0 (truth_field decides) (alone Op.Test refl) (field_a n f x setting (omega (arith, h))) (omega arith) (omega (arith, small)) t.mid q one.plain t.second_at in
          record { is = record { mid = t.mid; first_at = one.is; second_at = w.is }; plain = w.plain }

      decide_moves : (b : Bool) (o : Option ℕ) (decides : Bool) (active : List Active) (free x : ℕ) (p q : Spot) → left.form.name ≡ b → DecideBy (cond b o None) f decides left active free x p q → Moves all a p q
      decide_moves true (Some y) decides active free x p q e t = let w = t.second_at in behind all a p t.mid q ((moves.value).named e p t.mid ((moves.value).bare active p t.mid t.first_at)) w.ahead
      decide_moves true None decides active free x p q e t = let w = t.second_at in behind all a p t.mid q ((moves.value).to_reg active free x p t.mid t.first_at) w.ahead
      decide_moves false o decides active free x p q e t = let w = t.second_at in behind all a p t.mid q ((moves.value).to_reg active free x p t.mid t.first_at) w.ahead

      logic_here : (decides : Bool) → ToLifts (both a b) (HereAt f decides left right) (HereAt (asking n f) decides left1 right1)
      logic_here decides active free x h place rest p q s t =
          let w = t.jump in
          let one = decide_lift (local_at left.form active p) decides active free x (λ y e. local_low left.form active p y e) h place _ p t.mid (stands_first a b place rest active p left_calm.tame right_calm.tame s) t.decide in
          let jump = jmp_lift n f q.pc t.mid t.on one.plain t.jump in
          let other = right_lifts.to_reg active free x h (a place).next rest t.on q (stands_behind a b place rest active p t.on left_calm (behind all a p t.mid t.on (decide_moves left.form.name (register_of (meaning active p)) decides active free x p t.mid refl t.decide) w.ahead) jump.plain s) t.second in
          record {
            is = record {
              mid = t.mid;
              on = t.on;
              decide = subst (λ (o : Form). DecideBy (local_at o active p) (asking n f) decides left1 active free x p t.mid) (sym left_lifts.form) one.is;
              jump = jump.is;
              second = other.is;
            };
            plain = other.plain;
          }

      logic_lift : (decides : Bool) → ToLifts (both a b) (LogicAt f decides left right) (LogicAt (asking n f) decides left1 right1)
      logic_lift decides active free x h place rest p q s (inl t) = let w = logic_here decides active free x h place rest p q s t.1 in record { is = inl (t.0, w.is); plain = w.plain }
      logic_lift decides active free x h place rest p q s (inr t) =
          let k = t.value in
          let room = t.room in
          let one = logic_here decides active free free t.room place rest p k.mid s k.first_at in
          let w = abc_lift n f Op.Move x free 0 (alone Op.Move refl) (field_a n f x setting (omega (arith, h))) (field_b n f free setting (omega (arith, room))) (omega arith) k.mid q one.plain k.second_at in
          record { is = inr (record { room = t.room; value = record { mid = k.mid; first_at = one.is; second_at = w.is } }); plain = w.plain }

      two_jumps : (active : List Active) (free : ℕ) (truth truth1 : Bool) (label label1 : ℕ) → Lift (both a b) active (Seq (left.jump_if active free truth label) (right.jump_if active free truth1 label1)) (Seq (left1.jump_if active free truth label) (right1.jump_if active free truth1 label1))
      two_jumps active free truth truth1 label label1 place rest p q s t =
          let one = left_lifts.jump_if active free truth label place _ p t.mid (stands_first a b place rest active p left_calm.tame right_calm.tame s) t.first_at in
          let other = right_lifts.jump_if active free truth1 label1 (a place).next rest t.mid q (stands_behind a b place rest active p t.mid left_calm (moves.jump_if active free truth label p t.mid t.first_at) one.plain s) t.second_at in
          record { is = record { mid = t.mid; first_at = one.is; second_at = other.is }; plain = other.plain }

      logic_jump : (o : Bool) (active : List Active) (free : ℕ) (truth : Bool) (label : ℕ) → Lift (both a b) active (LogicJump o left right active free truth label) (LogicJump o left1 right1 active free truth label)
      logic_jump true active free truth label place rest p q s t = let w = two_jumps active free truth truth label label place rest p q s t in record { is = w.is; plain = w.plain }
      logic_jump false active free truth label place rest p q s t = let w = two_jumps active free (not truth) truth q.pc label place rest p q s t in record { is = w.is; plain = w.plain }

      pub logic_lifts : (decides : Bool) (form : Form) → several form ≡ false → RelLifts (both a b) false (rel_logic f decides form left right) (rel_logic (asking n f) decides form left1 right1)
      logic_lifts decides form one =
          let right_target = alone_lifts (both a b) form (LogicAt f decides left right) (LogicAt (asking n f) decides left1 right1) (logic_lift decides) in
          record {
            form = refl;
            to_reg = logic_lift decides;
            jump_if = λ active free truth label. logic_jump (beq decides truth) active free truth label;
            spine = next_lift (both a b) (rel_alone f form (LogicAt f decides left right)) (rel_alone (asking n f) form (LogicAt (asking n f) decides left1 right1)) right_target;
            spine_room = λ active free free1 p q t. next_room (LogicAt f decides left right active free free) free free1 p q t;
            multi = λ h. no_several form one h;
            target = λ h. absurd (true≢false (sym h));
            target_fits = λ h. absurd (true≢false (sym h));
            bare = right_target.bare;
          }

    -- ---- calls

    -- the arguments of a call, and the registers that they have
    pub record GivenLifts (part : outline.Part) (given given1 : GivenRel) : Type 0 where
      pub count : given1.count ≡ given.count
      pub lift : (active : List Active) (free : ℕ) → Lift part active (given.part active free) (given1.part active free)
      pub room : (active : List Active) (free : ℕ) (p q : Spot) → free ≤ f.size → given.part active free p q → CountRoom f free given.count

    -- a call lifts, and has room for its function
    pub record MultiLifts (part : outline.Part) (weak strong : List Active → (free : ℕ) → Op → Want → Stretch) : Type 0 where
      pub lift : (active : List Active) (free : ℕ) (op : Op) (want : Want) → Alone Format.Abc op → Lift part active (weak active free op want) (strong active free op want)
      pub room : (active : List Active) (free : ℕ) (op : Op) (want : Want) (p q : Spot) → weak active free op want p q → free < f.size

    module _ (a b : outline.Part) (on on1 : Rel) (given given1 : GivenRel) (moves : ValueMoves all a on) (calm : Calm a) (tame : Tame b) (on_lifts : ValueLifts a on on1) (given_lifts : GivenLifts b given given1) where
      counted : (more base free : ℕ) (op : Op) (want : Want) → more ≤ 2 → free ≤ f.size → CountRoom f base given.count → Alone Format.Abc op → CountRoom f free want →
          WordLift (WordAt f (Piece.Abc op free (count_field more given.count) (count_field 1 want))) (WordAt (asking n f) (Piece.Abc op free (count_field more given1.count) (count_field 1 want)))
      counted more base free op want few at_free room one results p q plain t =
          subst (λ m. Lifted f (WordAt (asking n f) (Piece.Abc op free (count_field more m) (count_field 1 want)) p q) q) (sym given_lifts.count)
          (abc_lift n f op free (count_field more given.count) (count_field 1 want) one (field_a n f free setting at_free) (count_small n f base more given.count setting few room) (count_small n f free 1 want setting (omega arith) results) p q plain t)

      pub call_lift : MultiLifts (both a b) (CallAt f on given) (CallAt (asking n f) on1 given1)
      call_lift = record {
        lift = λ active free op want alone_op place rest p q s t.
            let room = t.room in
            let one = on_lifts.to_reg active free free t.room place _ p t.mid (stands_first a b place rest active p calm.tame tame s) t.on_at in
            let other = given_lifts.lift active (free + 1) (a place).next rest t.mid t.last (stands_behind a b place rest active p t.mid calm (moves.to_reg active free free p t.mid t.on_at) one.plain s) t.given_at in
            let w = counted 1 (free + 1) free op want (omega arith) (omega (arith, room)) (given_lifts.room active (free + 1) t.mid t.last (omega (arith, room)) t.given_at) alone_op (want_room f free want t.results) t.last q other.plain t.word in
            record { is = record { mid = t.mid; last = t.last; room = t.room; on_at = one.is; given_at = other.is; word = w.is; results = results_asking n f free want t.results }; plain = w.plain };
        room = λ active free op want p q t. t.room;
      }

      pub method_lift : (text : Text) → MultiLifts (both a b) (MethodAt f on text given) (MethodAt (asking n f) on1 text given1)
      method_lift text = record {
        lift = λ active free op want alone_op place rest p q s t.
            let room = t.room in
            let self = t.self_at in
            let one = operand_lift a on on1 on_lifts active free t.x t.free1 place _ p t.mid (stands_first a b place rest active p calm.tame tame s) t.on_at in
            let name = text_lift text (free + 2) t.y t.free2 t.mid t.named one.plain t.name_at in
            let self_word = abc_lift n f Op.Self_ free t.x t.y (alone Op.Self_ refl) (field_a n f free setting (omega (arith, room))) (field_b n f t.x setting (operand_low f on active free t.x t.free1 p t.mid s.room t.on_at)) (text_low n f setting text (free + 2) t.y t.free2 t.mid t.named t.name_at) t.named t.begun name.plain t.self_at in
            let other = given_lifts.lift active (free + 2) (a place).next rest t.begun t.last
            (stands_behind a b place rest active p t.begun calm (behind all a p t.mid t.begun (operand_moves all f a on moves active free t.x t.free1 p t.mid t.on_at) (self.ahead ∙ text_same all f text (free + 2) t.y t.free2 t.mid t.named t.name_at)) self_word.plain s) t.given_at in
            let w = counted 2 (free + 2) free op want (omega arith) (omega (arith, room)) (given_lifts.room active (free + 2) t.begun t.last t.room t.given_at) alone_op (want_room f free want t.results) t.last q other.plain t.word in
            record {
              is = record { x = t.x; free1 = t.free1; y = t.y; free2 = t.free2; mid = t.mid; named = t.named; begun = t.begun; last = t.last; room = t.room; on_at = one.is; name_at = name.is; self_at = self_word.is; given_at = other.is; word = w.is; results = results_asking n f free want t.results };
              plain = w.plain;
            };
        room = λ active free op want p q t. let room = t.room in omega (arith, room);
      }

    -- what comes in F goes to the register
    pub moved_lift : (part : outline.Part) (active : List Active) (weak strong : Stretch) (free r : ℕ) → Lift part active weak strong → ((p q : Spot) → weak p q → free < f.size) → r < f.size → Lift part active (MovedFrom f weak free r) (MovedFrom (asking n f) strong free r)
    moved_lift part active weak strong free r l room h place rest p q s (inl t) = let w = l place rest p q s t.1 in record { is = inl (t.0, w.is); plain = w.plain }
    moved_lift part active weak strong free r l room h place rest p q s (inr (other, t)) =
        let at_free = room p t.mid t.first_at in
        let one = l place rest p t.mid s t.first_at in
        let w = abc_lift n f Op.Move r free 0 (alone Op.Move refl) (field_a n f r setting (omega (arith, h))) (field_b n f free setting (omega (arith, at_free))) (omega arith) t.mid q one.plain t.second_at in
        record { is = inr (other, record { mid = t.mid; first_at = one.is; second_at = w.is }); plain = w.plain }

    pub call_lifts : (part : outline.Part) (form : Form) (weak strong : List Active → (free : ℕ) → Op → Want → Stretch) → MultiLifts part weak strong → RelLifts part false (rel_call f form weak) (rel_call (asking n f) form strong)
    call_lifts part form weak strong m =
        let to = λ (active : List Active) (free r : ℕ). MovedFrom f (weak active free Op.Call (Some 1)) free r in
        let to1 = λ (active : List Active) (free r : ℕ). MovedFrom (asking n f) (strong active free Op.Call (Some 1)) free r in
        let v = alone_lifts part form to to1 (λ active free r h. moved_lift part active (weak active free Op.Call (Some 1)) (strong active free Op.Call (Some 1)) free r (m.lift active free Op.Call (Some 1) (alone Op.Call refl)) (m.room active free Op.Call (Some 1)) h) in
        record {
          form = refl;
          to_reg = v.to_reg;
          jump_if = test_lift part (rel_alone f form to) (rel_alone (asking n f) form to1) v;
          spine = next_lift part (rel_alone f form to) (rel_alone (asking n f) form to1) v;
          spine_room = λ active free free1 p q t. next_room (to active free free) free free1 p q t;
          multi = λ e. m.lift;
          target = λ h. absurd (true≢false (sym h));
          target_fits = λ h. absurd (true≢false (sym h));
          bare = v.bare;
        }

    -- `...`
    vararg_word : (free c : ℕ) → free ≤ f.size → c < 512 → WordLift (WordAt f (Piece.Abc Op.Vararg free c 0)) (WordAt (asking n f) (Piece.Abc Op.Vararg free c 0))
    vararg_word free c h small p q plain t = abc_lift n f Op.Vararg free c 0 (alone Op.Vararg refl) (field_a n f free setting h) small (omega arith) p q plain t

    vararg_multi : (part : outline.Part) (active : List Active) (free : ℕ) (op : Op) (want : Want) → Lift part active (VarargAt f active free op want) (VarargAt (asking n f) active free op want)
    vararg_multi part active free op want place rest p q s t =
        let w = vararg_word free (count_field 1 want) (base_room f free want t.results) (count_small n f free 1 want setting (omega arith) (want_room f free want t.results)) p q s.plain t.word in
        record { is = record { word = w.is; results = results_asking n f free want t.results }; plain = w.plain }

    pub vararg_lifts : (part : outline.Part) → RelLifts part false (rel_vararg f) (rel_vararg (asking n f))
    vararg_lifts part =
        let form = form_of (vararg_expression 0) in
        let to = λ (active : List Active) (free r : ℕ). WordAt f (Piece.Abc Op.Vararg r 2 0) in
        let to1 = λ (active : List Active) (free r : ℕ). WordAt (asking n f) (Piece.Abc Op.Vararg r 2 0) in
        let v = alone_lifts part form to to1 (λ active free r h place rest p q s t. vararg_word r 2 (omega (arith, h)) (omega arith) p q s.plain t) in
        record {
          form = refl;
          to_reg = v.to_reg;
          jump_if = test_lift part (rel_alone f form to) (rel_alone (asking n f) form to1) v;
          spine = next_lift part (rel_alone f form to) (rel_alone (asking n f) form to1) v;
          spine_room = λ active free free1 p q t. next_room (to active free free) free free1 p q t;
          multi = λ e active free op want alone_op. vararg_multi part active free op want;
          target = λ h. absurd (true≢false (sym h));
          target_fits = λ h. absurd (true≢false (sym h));
          bare = v.bare;
        }
