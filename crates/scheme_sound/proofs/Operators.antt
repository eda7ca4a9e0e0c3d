-- Operators of two operands and of one keep the invariant, folded or not.
use Rattle.std.proofs.Common.{◌≡◌, ◌≤◌, ◌<◌, ℕ, Bool, true, false, [], ◌∷◌, length, refl, sym, ap, ◌∙◌, arith, inl, ◌+◌, cond, eqb-true, ◌⊎◌, subst, length-append, true≢false, inr, not, ◌-◌, lt-ltb}
use Rattle.std.specs.Prelude.{Option, None, Some, ℤ}
use Rattle.lua_tree.specs.declared.tree.BinaryOp.{BinaryOp}
use Rattle.lua_tree.specs.declared.tree.UnaryOp.{UnaryOp}
use Rattle.lua_tree.specs.Syntax.{Expression}
use Rattle.lua_tree.specs.WellFormed.{is_target}
use Rattle.opcode.specs.declared.op.Op.{Op}
use Rattle.opcode.specs.Word.{truth_field}
use Rattle.proto.specs.declared.parts.Constant.{Constant}
use Rattle.scheme.specs.Making.{Maker, Ahead, put, Part, freeing, new_label}
use Rattle.scheme.specs.Expressions.{Coded, operand, next_reg, rk, is_multiple, fold, single, number_or, plain_literal, load_or, compare, binary_value, binary_spine, is_comparison, coded_binary, unary_word, unary_value, unary_jump, coded_unary, arithmetic, concat, truth_value, comparison_word}
use Rattle.scheme.specs.declared.making.Piece.{Piece}
use Rattle.scheme_sound.proofs.Ghosts.{locals_of, kind_at, Below, Ghost, IsConstant, IsIn}
use Rattle.scheme_sound.proofs.Later.{below_self}
use Rattle.scheme_sound.proofs.States.{updated_same, State, onward_then, Leads, leads_then, leads_on, leads_as, freed, sized, sized_state, sized_leads}
use Rattle.scheme_sound.proofs.Words.{none_written, one_written, put_on}
use Rattle.scheme_sound.proofs.Labels.{with_need, new_label_state, new_label_onward}
use Rattle.scheme_sound.proofs.WordPairs.{put_test, put_truth}
use Rattle.scheme_sound.proofs.Fitting.{Fitting, Both}
use Rattle.scheme_sound.proofs.Operands.{context, carry, PartLeads, JumpsLead, ValueLeads, next_takes, operand_takes, rk_gives, later_kind, TwoOperands, two_operands, field_small, loads}
use Rattle.scheme_sound.proofs.Expressions.{Keeps, ReadsNames, single_free, single_value, single_jump, single_spine}

-- ---- arithmetic, comparisons and `..`

-- the opcodes of arithmetic
abbrev pub IsArith : Op → Type 0
IsArith Op.Add = Unit {0}
IsArith Op.Sub = Unit {0}
IsArith Op.Mul = Unit {0}
IsArith Op.Div = Unit {0}
IsArith Op.Mod = Unit {0}
IsArith Op.Pow = Unit {0}
IsArith op = ⊥

arith_put : (op : Op) → IsArith op → (line r x y : ℕ) (m : Maker) (g : Ghost) → State m g None → r < g.size → kind_at (locals_of m.active) r ≡ 0 → (x < g.size) ⊎ IsConstant (length m.constants) x → (y < g.size) ⊎ IsConstant (length m.constants) y → Leads m g (put line (Piece.Abc op r x y) m) None m.ahead
arith_put Op.Add is line r x y m g s l k a c = put_on line (Piece.Abc Op.Add r x y) m g None s refl (record { first = l; ordered = refl; registers = (l, tt); fields = (a, (c, tt)); constant = tt; upvalues = tt; small = field_small c; extra = tt; spares = λ y z. one_written (locals_of m.active) r y k z }) tt refl
arith_put Op.Sub is line r x y m g s l k a c = put_on line (Piece.Abc Op.Sub r x y) m g None s refl (record { first = l; ordered = refl; registers = (l, tt); fields = (a, (c, tt)); constant = tt; upvalues = tt; small = field_small c; extra = tt; spares = λ y z. one_written (locals_of m.active) r y k z }) tt refl
arith_put Op.Mul is line r x y m g s l k a c = put_on line (Piece.Abc Op.Mul r x y) m g None s refl (record { first = l; ordered = refl; registers = (l, tt); fields = (a, (c, tt)); constant = tt; upvalues = tt; small = field_small c; extra = tt; spares = λ y z. one_written (locals_of m.active) r y k z }) tt refl
arith_put Op.Div is line r x y m g s l k a c = put_on line (Piece.Abc Op.Div r x y) m g None s refl (record { first = l; ordered = refl; registers = (l, tt); fields = (a, (c, tt)); constant = tt; upvalues = tt; small = field_small c; extra = tt; spares = λ y z. one_written (locals_of m.active) r y k z }) tt refl
arith_put Op.Mod is line r x y m g s l k a c = put_on line (Piece.Abc Op.Mod r x y) m g None s refl (record { first = l; ordered = refl; registers = (l, tt); fields = (a, (c, tt)); constant = tt; upvalues = tt; small = field_small c; extra = tt; spares = λ y z. one_written (locals_of m.active) r y k z }) tt refl
arith_put Op.Pow is line r x y m g s l k a c = put_on line (Piece.Abc Op.Pow r x y) m g None s refl (record { first = l; ordered = refl; registers = (l, tt); fields = (a, (c, tt)); constant = tt; upvalues = tt; small = field_small c; extra = tt; spares = λ y z. one_written (locals_of m.active) r y k z }) tt refl
arith_put op is line r x y m g s l k a c = absurd is

truth_first : (t : Bool) (s : ℕ) → 2 ≤ s → truth_field t < s
truth_first true s l = omega (arith, l)
truth_first false s l = omega (arith, l)

module _ (line : ℕ) (left right : Coded) (i j : Fitting) (f : Keeps left i) (h : Keeps right j) where
  two_rk : (m : Maker) (g : Ghost) (b : Ahead) → State m g None → Both i j (context m g) m.ahead b → TwoOperands m g (rk right (rk left m).after).after b (rk left m).value (rk right (rk left m).after).value
  two_rk m g b s x = two_operands (rk left) (rk right) i j (rk_gives left i f.value) (rk_gives right j h.value) m g b s x

  arithmetic_leads : (op : Op) → IsArith op → ValueLeads (arithmetic line op left right) (Both i j)
  arithmetic_leads op is r m g b s x l e =
      let t = two_rk m g b s x in
      leads_on t.leads (arith_put op is line r (rk left m).value (rk right (rk left m).after).value (rk right (rk left m).after).after t.leads.ghost t.leads.state (let q = t.leads.onward.larger in omega (arith, q, l)) (later_kind r t.leads e) t.first t.second)

  -- ---- comparisons

  compare_word : (op : BinaryOp) (t : Bool) (x y label : ℕ) (m : Maker) (g : Ghost) → State m g None → (x < g.size) ⊎ IsConstant (length m.constants) x → (y < g.size) ⊎ IsConstant (length m.constants) y → label < length m.labels → Below (locals_of m.active) (g.need label)
      → Leads m g (put line (Piece.Jump Op.Jmp 0 label) (put line (comparison_word op t x y) m)) None m.ahead
  compare_word BinaryOp.Ne t x y label m g s a c l w = put_test line Op.Eq (truth_field (not t)) x y label m g s refl refl (record { first = truth_first (not t) g.size s.invariant.least; ordered = refl; registers = tt; fields = (a, (c, tt)); constant = tt; upvalues = tt; small = field_small c; extra = tt; spares = λ r z. none_written (locals_of m.active) r z }) l w
  compare_word BinaryOp.Lt t x y label m g s a c l w = put_test line Op.Lt (truth_field t) x y label m g s refl refl (record { first = truth_first t g.size s.invariant.least; ordered = refl; registers = tt; fields = (a, (c, tt)); constant = tt; upvalues = tt; small = field_small c; extra = tt; spares = λ r z. none_written (locals_of m.active) r z }) l w
  compare_word BinaryOp.Le t x y label m g s a c l w = put_test line Op.Le (truth_field t) x y label m g s refl refl (record { first = truth_first t g.size s.invariant.least; ordered = refl; registers = tt; fields = (a, (c, tt)); constant = tt; upvalues = tt; small = field_small c; extra = tt; spares = λ r z. none_written (locals_of m.active) r z }) l w
  compare_word BinaryOp.Gt t x y label m g s a c l w = put_test line Op.Lt (truth_field t) y x label m g s refl refl (record { first = truth_first t g.size s.invariant.least; ordered = refl; registers = tt; fields = (c, (a, tt)); constant = tt; upvalues = tt; small = field_small a; extra = tt; spares = λ r z. none_written (locals_of m.active) r z }) l w
  compare_word BinaryOp.Ge t x y label m g s a c l w = put_test line Op.Le (truth_field t) y x label m g s refl refl (record { first = truth_first t g.size s.invariant.least; ordered = refl; registers = tt; fields = (c, (a, tt)); constant = tt; upvalues = tt; small = field_small a; extra = tt; spares = λ r z. none_written (locals_of m.active) r z }) l w
  compare_word op t x y label m g s a c l w = put_test line Op.Eq (truth_field t) x y label m g s refl refl (record { first = truth_first t g.size s.invariant.least; ordered = refl; registers = tt; fields = (a, (c, tt)); constant = tt; upvalues = tt; small = field_small c; extra = tt; spares = λ r z. none_written (locals_of m.active) r z }) l w

  compare_leads : (op : BinaryOp) (t : Bool) → JumpsLead (compare line op left right t) (Both i j)
  compare_leads op t label m g b s x l w =
      let d = two_rk m g b s x in
      leads_on d.leads (compare_word op t (rk left m).value (rk right (rk left m).after).value label (rk right (rk left m).after).after d.leads.ghost d.leads.state d.first d.second
      (let q = d.leads.onward.labels in omega (arith, q, l))
      (subst (λ xs. Below (locals_of xs) (d.leads.ghost.need label)) (sym d.leads.active) (subst (λ ys. Below (locals_of m.active) ys) (sym (d.leads.onward.need label l)) w)))

  truth_leads : (op : BinaryOp) → ValueLeads (truth_value line op left right) (Both i j)
  truth_leads op r m g b s x l e =
      let label = length m.labels in
      let xs = locals_of m.active in
      let g1 = with_need g label xs in
      let m1 = (new_label m).after in
      let s1 = new_label_state xs s in
      let own : label < length m1.labels = omega (arith, length-append m.labels (0 ∷ [])) in
      let d = compare_leads op true label m1 g1 b s1 x own (subst (λ ys. Below xs ys) (sym (updated_same g.need label xs)) (below_self xs)) in
      let n = compare line op left right true label m1 in
      let asked : d.ghost.need label ≡ xs = d.onward.need label own ∙ updated_same g.need label xs in
      let t = put_truth line r label n d.ghost g.unplaced d.state (let q = d.onward.larger in omega (arith, q, l)) (later_kind r d e)
      (subst (λ ys. Below ys (locals_of n.active)) (sym asked) (subst (λ ys. Below xs (locals_of ys)) (sym d.active) (below_self xs)))
      (λ k y. split k (subst (λ os. IsIn k os) d.unplaced y)) in
      record { ghost = t.0; state = t.1; onward = onward_then (onward_then (new_label_onward m g xs) d.onward) t.2; unplaced = t.3; active = d.active; ahead = d.ahead }
    where
      split : (k : ℕ) → IsIn k (length m.labels ∷ g.unplaced) → (k ≡ length m.labels) ⊎ IsIn k g.unplaced
      split k y = y

  -- ---- ..

  concat_leads : ValueLeads (concat line left right) (Both i j)
  concat_leads r m g b s x l e =
      let a = next_takes left i f.value m g x.mid s x.first in
      let n1 = next_reg left m in
      let d = h.spine n1 a.leads.ghost b a.leads.state (carry j b a.leads x.second) in
      let n = right.spine n1 in
      let both = leads_then a.leads d in
      let k = n.free in
      let one : n1.free ≡ m.free + 1 = ap (λ y. y + 1) (f.value.to_free m.free m) in
      let more : n1.free < n.free = h.spine_free n1 in
      let high : n.free ≤ n.high = h.spine_high n1 in
      let g2 = sized d.ghost k in
      let q1 = d.onward.larger in
      let q0 = a.leads.onward.larger in
      let there = a.there in
      let within : r < g2.size = omega (arith, l, q0, q1) in
      let first : m.free < g2.size = omega (arith, there, q1) in
      let last : k - 1 < g2.size = omega (arith, more) in
      let p = put_on line (Piece.Abc Op.Concat r m.free (k - 1)) n g2 None (sized_state k d.state) refl
      (record { first = within; ordered = lt-ltb m.free (k - 1) (omega (arith, more, one)); registers = (within, (first, (last, tt))); fields = tt; constant = tt; upvalues = tt; small = inr (omega (arith, last)); extra = tt; spares = λ y z. one_written (locals_of n.active) r y (later_kind r both e) z }) tt refl in
      leads_on both (sized_leads k p high)

  binary_leads : (op : BinaryOp) → ValueLeads (binary_value line op left right) (Both i j)
  binary_leads BinaryOp.Add = arithmetic_leads Op.Add tt
  binary_leads BinaryOp.Sub = arithmetic_leads Op.Sub tt
  binary_leads BinaryOp.Mul = arithmetic_leads Op.Mul tt
  binary_leads BinaryOp.Div = arithmetic_leads Op.Div tt
  binary_leads BinaryOp.Rem = arithmetic_leads Op.Mod tt
  binary_leads BinaryOp.Pow = arithmetic_leads Op.Pow tt
  binary_leads BinaryOp.Concat = concat_leads
  binary_leads op = truth_leads op

-- ---- folded operators

load_or_leads : (o : Option ℤ) (line : ℕ) (e : Expression) (to : ℕ → Part) (i : Fitting) → fold e ≡ o → ReadsNames e i → ValueLeads to i → ValueLeads (load_or o line to) i
load_or_leads None line e to i is z t r m g b s x l k = t r m g b s x l k
load_or_leads (Some n) line e to i is z t r m g b s x l k =
    let d = loads line r (Constant.Number n) m g s l k in
    let same : b ≡ m.ahead = z.literal_reads (Constant.Number n) (context m g) m.ahead b (ap (λ o. number_or o (plain_literal e)) is) x in
    leads_as d (sym same)

-- ---- binary operators

module _ (line : ℕ) (op : BinaryOp) (e : Expression) (left right : Coded) (i j : Fitting) (f : Keeps left i) (h : Keeps right j) (z : ReadsNames e (Both i j)) (one : is_multiple e ≡ false) (none : is_target e ≡ false) where
  abbrev folded : ℕ → Part
  folded = load_or (fold e) line (binary_value line op left right)

  folded_leads : ValueLeads folded (Both i j)
  folded_leads = load_or_leads (fold e) line e (binary_value line op left right) (Both i j) refl z (binary_leads line left right i j f h op)

  jump_leads : (b : Bool) (t : Bool) (label : ℕ) (m : Maker) (g : Ghost) (a : Ahead) → State m g None → Both i j (context m g) m.ahead a → label < length m.labels → Below (locals_of m.active) (g.need label)
      → Leads m g (cond b (λ truth label. freeing (compare line op left right truth label)) (single line e folded).jump_if t label m) None a
  jump_leads true t label m g a s x l w = freed m g (compare line op left right t label) a s.room (compare_leads line left right i j f h op t label m g a s x l w)
  jump_leads false t label m g a s x l w = single_jump line e folded (Both i j) folded_leads z t label m g a s x l w

  jump_leaves : (b : Bool) (t : Bool) (label : ℕ) (m : Maker) → (cond b (λ truth label. freeing (compare line op left right truth label)) (single line e folded).jump_if t label m).free ≡ m.free
  jump_leaves true t label m = refl
  jump_leaves false t label m = single_free line e folded t label m

  spine_of_concat : (m : Maker) (g : Ghost) (b : Ahead) → State m g None → Both i j (context m g) m.ahead b → Leads m g (right.spine (next_reg left m)) None b
  spine_of_concat m g b s x =
      let a = next_takes left i f.value m g x.mid s x.first in
      leads_then a.leads (h.spine (next_reg left m) a.leads.ghost b a.leads.state (carry j b a.leads x.second))

  spine_leads : (o : BinaryOp) → PartLeads (binary_spine o (λ m. right.spine (next_reg left m)) (single line e folded).spine) (Both i j)
  spine_leads BinaryOp.Concat m g b s x = spine_of_concat m g b s x
  spine_leads o m g b s x = single_spine line e folded (Both i j) folded_leads z m g b s x

  spine_more : (o : BinaryOp) (m : Maker) → m.free < (binary_spine o (λ m. right.spine (next_reg left m)) (single line e folded).spine m).free
  spine_more BinaryOp.Concat m = let a = h.spine_free (next_reg left m) in let c = f.value.to_free m.free m in omega (arith, a, c)
  spine_more o m = omega arith

  spine_top : (o : BinaryOp) (m : Maker) → (binary_spine o (λ m. right.spine (next_reg left m)) (single line e folded).spine m).free ≤ (binary_spine o (λ m. right.spine (next_reg left m)) (single line e folded).spine m).high
  spine_top BinaryOp.Concat m = h.spine_high (next_reg left m)
  spine_top o m = omega arith

  pub binary_keeps : Keeps (coded_binary line op e left right) (Both i j)
  binary_keeps = record {
    value = (let c = single_value line e folded (Both i j) folded_leads z in record { to_reg = c.to_reg; to_free = λ r m. refl; literal_reads = c.literal_reads; name_reads = c.name_reads });
    jump_if = jump_leads (is_comparison op);
    jump_free = jump_leaves (is_comparison op);
    spine = spine_leads op;
    spine_free = spine_more op;
    spine_high = spine_top op;
    multi = λ y. absurd (true≢false (sym y ∙ one));
    multi_room = λ y. absurd (true≢false (sym y ∙ one));
    target = λ y. absurd (true≢false (sym y ∙ none));
  }

-- ---- unary operators

unary_put : (op : UnaryOp) (line r x : ℕ) (m : Maker) (g : Ghost) → State m g None → r < g.size → kind_at (locals_of m.active) r ≡ 0 → x < g.size → Leads m g (put line (Piece.Abc (unary_word op) r x 0) m) None m.ahead
unary_put UnaryOp.Neg line r x m g s l k a = put_on line (Piece.Abc Op.Unm r x 0) m g None s refl (record { first = l; ordered = refl; registers = (l, (a, tt)); fields = tt; constant = tt; upvalues = tt; small = inl (omega arith); extra = tt; spares = λ y z. subst (λ q. kind_at (locals_of m.active) q ≡ 0) (eqb-true r y z) k }) tt refl
unary_put UnaryOp.Not line r x m g s l k a = put_on line (Piece.Abc Op.Not r x 0) m g None s refl (record { first = l; ordered = refl; registers = (l, (a, tt)); fields = tt; constant = tt; upvalues = tt; small = inl (omega arith); extra = tt; spares = λ y z. subst (λ q. kind_at (locals_of m.active) q ≡ 0) (eqb-true r y z) k }) tt refl
unary_put UnaryOp.Len line r x m g s l k a = put_on line (Piece.Abc Op.Len r x 0) m g None s refl (record { first = l; ordered = refl; registers = (l, (a, tt)); fields = tt; constant = tt; upvalues = tt; small = inl (omega arith); extra = tt; spares = λ y z. subst (λ q. kind_at (locals_of m.active) q ≡ 0) (eqb-true r y z) k }) tt refl

unary_leads : (line : ℕ) (op : UnaryOp) (c : Coded) (i : Fitting) → Keeps c i → ValueLeads (unary_value line op c) i
unary_leads line op c i f r m g b s x l k =
    let t = operand_takes c i f.value m g b s x in
    leads_on t.leads (unary_put op line r (operand c m).value (operand c m).after t.leads.ghost t.leads.state (let q = t.leads.onward.larger in omega (arith, q, l)) (later_kind r t.leads k) t.there)

module _ (line : ℕ) (op : UnaryOp) (e : Expression) (c : Coded) (i : Fitting) (f : Keeps c i) (z : ReadsNames e i) (one : is_multiple e ≡ false) (none : is_target e ≡ false) where
  abbrev folded_one : ℕ → Part
  folded_one = load_or (fold e) line (unary_value line op c)

  folded_one_leads : ValueLeads folded_one i
  folded_one_leads = load_or_leads (fold e) line e (unary_value line op c) i refl z (unary_leads line op c i f)

  jump_unary : (o : UnaryOp) (t : Bool) (label : ℕ) (m : Maker) (g : Ghost) (a : Ahead) → State m g None → i (context m g) m.ahead a → label < length m.labels → Below (locals_of m.active) (g.need label) → Leads m g (unary_jump o c (single line e folded_one).jump_if t label m) None a
  jump_unary UnaryOp.Not t label m g a s x l w = f.jump_if (not t) label m g a s x l w
  jump_unary o t label m g a s x l w = single_jump line e folded_one i folded_one_leads z t label m g a s x l w

  unary_leaves : (o : UnaryOp) (t : Bool) (label : ℕ) (m : Maker) → (unary_jump o c (single line e folded_one).jump_if t label m).free ≡ m.free
  unary_leaves UnaryOp.Not t label m = f.jump_free (not t) label m
  unary_leaves o t label m = single_free line e folded_one t label m

  pub unary_keeps : Keeps (coded_unary line op e c) i
  unary_keeps = record {
    value = (let c = single_value line e folded_one i folded_one_leads z in record { to_reg = c.to_reg; to_free = λ r m. refl; literal_reads = c.literal_reads; name_reads = c.name_reads });
    jump_if = jump_unary op;
    jump_free = unary_leaves op;
    spine = single_spine line e folded_one i folded_one_leads z;
    spine_free = λ m. omega arith;
    spine_high = λ m. omega arith;
    multi = λ y. absurd (true≢false (sym y ∙ one));
    multi_room = λ y. absurd (true≢false (sym y ∙ one));
    target = λ y. absurd (true≢false (sym y ∙ none));
  }
