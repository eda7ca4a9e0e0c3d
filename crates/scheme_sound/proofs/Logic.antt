-- `and` and `or` keep the invariant.
use Rattle.std.proofs.Common.{◌≡◌, ◌<◌, ℕ, Bool, true, false, [], ◌∷◌, length, refl, sym, ap, ◌∙◌, arith, inl, cond, eqb-true, subst, length-append, true≢false, not}
use Rattle.std.specs.Prelude.{Option, None, ◌==◌, Some}
use Rattle.std.specs.Bool.{beq}
use Rattle.lua_tree.specs.Syntax.{Expression}
use Rattle.lua_tree.specs.WellFormed.{is_target}
use Rattle.lua_tree.specs.Scoping.{global_use}
use Rattle.opcode.specs.declared.op.Op.{Op}
use Rattle.opcode.specs.Word.{truth_field}
use Rattle.scheme.specs.Making.{Maker, Ahead, take_registers, head_or, pass_name, next_name, new_label, jump_to}
use Rattle.scheme.specs.Expressions.{Coded, is_name, is_multiple, register_of, local_register, decide, logic_here, logic_moved, logic_value, logic_jump, jump_both, jump_over, coded_logic}
use Rattle.scheme.specs.declared.making.Piece.{Piece}
use Rattle.scheme_sound.proofs.Ghosts.{locals_of, kind_at, Below, Ghost, IsIn}
use Rattle.scheme_sound.proofs.Later.{below_self}
use Rattle.scheme_sound.proofs.States.{updated_same, updated_other, State, Onward, onward_then, Leads, leads_then, leads_on, pass_leads}
use Rattle.scheme_sound.proofs.Words.{none_written, put_on}
use Rattle.scheme_sound.proofs.Labels.{with_need, new_label_state, new_label_onward, with_unplaced, placed_state, placed_onward}
use Rattle.scheme_sound.proofs.WordPairs.{put_test}
use Rattle.scheme_sound.proofs.Fitting.{Fitting, Both}
use Rattle.scheme_sound.proofs.Operands.{context, carry, JumpsLead, ValueLeads, where_holds, register_there, next_by, later_kind, truth_small}
use Rattle.scheme_sound.proofs.Expressions.{Keeps, ReadsNames, single_value, single_spine}

module _ (line : ℕ) (decides : Bool) (e : Expression) (left right : Coded) (i j : Fitting) (f : Keeps left i) (h : Keeps right j) (z : ReadsNames e (Both i j)) (one : is_multiple e ≡ false) (none : is_target e ≡ false) where
  decide_free : (o : Option ℕ) (r : ℕ) (m : Maker) → (decide line decides left r o m).free ≡ m.free
  decide_free (Some x) r m = refl
  decide_free None r m = f.value.to_free r m

  here_free : (r : ℕ) (m : Maker) → (logic_here line decides left right r m).free ≡ m.free
  here_free r m = h.value.to_free r _ ∙ decide_free (local_register left.e m) r m

  -- the test with its jump, to a label that was made before
  decided : (o : Option ℕ) (r : ℕ) (m : Maker) (g : Ghost) (b : Ahead) → State m g None → i (context m g) m.ahead b → r < g.size → kind_at (locals_of m.active) r ≡ 0 → local_register left.e m ≡ o
      → (g1 : Ghost) × State (jump_to line (length (decide line decides left r o m).labels) (new_label (decide line decides left r o m)).after) g1 None
      × Onward m g (jump_to line (length (decide line decides left r o m).labels) (new_label (decide line decides left r o m)).after) g1
      × (g1.unplaced ≡ length (decide line decides left r o m).labels ∷ g.unplaced) × (g1.need (length (decide line decides left r o m).labels) ≡ locals_of m.active)
      × ((jump_to line (length (decide line decides left r o m).labels) (new_label (decide line decides left r o m)).after).active ≡ m.active)
      × ((jump_to line (length (decide line decides left r o m).labels) (new_label (decide line decides left r o m)).after).ahead ≡ b)
  decided (Some x) r m g b s y l k e =
      let d = pass_leads s in
      let n = pass_name m in
      let label = length m.labels in
      let xs = locals_of m.active in
      let g1 = with_need d.ghost label xs in
      let s1 = new_label_state xs d.state in
      let m1 = (new_label n).after in
      let q = d.onward.larger in
      let own : label < length m1.labels = omega (arith, length-append m.labels (0 ∷ [])) in
      let w = test_set (is_name left.e) refl e d in
      let t = put_test line Op.TestSet r x (truth_field decides) label m1 g1 s1 refl refl
      (record { first = omega (arith, q, l); ordered = refl; registers = (omega (arith, q, l), (w.0, tt)); fields = tt; constant = tt; upvalues = tt; small = truth_small decides d.ghost.size; extra = tt; spares = λ y z. subst (λ q. kind_at xs q ≡ 0) (eqb-true r y z) k })
      own (subst (λ ys. Below xs ys) (sym (updated_same d.ghost.need label xs)) (below_self xs)) in
      (t.ghost, t.state, onward_then d.onward (onward_then (new_label_onward n d.ghost xs) t.onward), t.unplaced ∙ ap (λ os. label ∷ os) d.unplaced, t.onward.need label own ∙ updated_same d.ghost.need label xs, t.active, t.ahead ∙ sym w.1)
    where
      test_set : (n : Bool) → is_name left.e ≡ n → cond n (register_of (next_name m)) None ≡ Some x → (d : Leads m g (pass_name m) None (pass_name m).ahead) → (x < d.ghost.size) × (b ≡ (pass_name m).ahead)
      test_set false is e d = cc
      test_set true is e d =
          let a = f.value.name_reads (context m g) m.ahead b is y in
          let l = register_there (next_name m) x m g e (where_holds (head_or global_use m.ahead.names) m g None s a.use_fits) in
          let q = d.onward.larger in
          (omega (arith, q, l), a.passed)
  decided None r m g b s y l k e =
      let d = f.value.to_reg r m g b s y l k in
      let n = left.to_reg r m in
      let label = length n.labels in
      let xs = locals_of n.active in
      let g1 = with_need d.ghost label xs in
      let s1 = new_label_state xs d.state in
      let m1 = (new_label n).after in
      let q = d.onward.larger in
      let own : label < length m1.labels = omega (arith, length-append n.labels (0 ∷ [])) in
      let t = put_test line Op.Test r 0 (truth_field decides) label m1 g1 s1 refl refl
      (record { first = omega (arith, q, l); ordered = refl; registers = (omega (arith, q, l), tt); fields = tt; constant = tt; upvalues = tt; small = truth_small decides d.ghost.size; extra = tt; spares = λ y z. none_written xs y z })
      own (subst (λ ys. Below xs ys) (sym (updated_same d.ghost.need label xs)) (below_self xs)) in
      (t.ghost, t.state, onward_then d.onward (onward_then (new_label_onward n d.ghost xs) t.onward), t.unplaced ∙ ap (λ os. label ∷ os) d.unplaced, t.onward.need label own ∙ updated_same d.ghost.need label xs ∙ ap locals_of d.active, t.active ∙ d.active, t.ahead ∙ d.ahead)

  here_leads : ValueLeads (logic_here line decides left right) (Both i j)
  here_leads r m g b s x l k =
      let o = local_register left.e m in
      let n0 = decide line decides left r o m in
      let label = length n0.labels in
      let n1 = jump_to line label (new_label n0).after in
      let t = decided o r m g x.mid s x.first l k refl in
      let g1 = t.0 in
      let state1 = t.1 in
      let onward1 = t.2 in
      let unplaced1 = t.3 in
      let need1 = t.4 in
      let active1 = t.5 in
      let ahead1 = t.6 in
      let q = onward1.larger in
      let x2 = carried n1 g1 onward1 active1 ahead1 x.second in
      let d = h.value.to_reg r n1 g1 b state1 x2 (omega (arith, q, l)) (subst (λ ys. kind_at (locals_of ys) r ≡ 0) (sym active1) k) in
      let n2 = right.to_reg r n1 in
      let own : label < length n1.labels = omega (arith, length-append n0.labels (0 ∷ [])) in
      let asked : d.ghost.need label ≡ locals_of m.active = d.onward.need label own ∙ need1 in
      let same : n2.active ≡ m.active = d.active ∙ active1 in
      let p = placed_state label g.unplaced d.state (subst (λ ys. Below ys (locals_of n2.active)) (sym asked) (subst (λ ys. Below (locals_of m.active) (locals_of ys)) (sym same) (below_self (locals_of m.active))))
      (λ k y. subst (λ os. IsIn k os) (d.unplaced ∙ unplaced1) y) in
      record { ghost = with_unplaced d.ghost g.unplaced; state = p; onward = onward_then (onward_then onward1 d.onward) (placed_onward label n2 d.ghost g.unplaced); unplaced = refl; active = same; ahead = d.ahead }
    where
      carried : (n1 : Maker) (g1 : Ghost) → Onward m g n1 g1 → n1.active ≡ m.active → n1.ahead ≡ x.mid → j (context m g) x.mid b → j (context n1 g1) n1.ahead b
      carried n1 g1 go a e y =
          let one : context n1 g1 ≡ context m g = ap (λ xs. record { locals = locals_of xs; upvalues = length n1.upvalue_names; vararg = g1.vararg }) a
          ∙ ap (λ u. record { locals = locals_of m.active; upvalues = length u; vararg = g1.vararg }) go.upvalues
          ∙ ap (λ v. record { locals = locals_of m.active; upvalues = length m.upvalue_names; vararg = v }) go.vararg in
          subst (λ c. j c n1.ahead b) (sym one) (subst (λ a. j (context m g) a b) (sym e) y)

  logic_leads : ValueLeads (logic_value line decides left right) (Both i j)
  logic_leads r m g b s x l k = go (r == m.free)
    where
      go : (t : Bool) → Leads m g (cond t (logic_here line decides left right r) (logic_moved line decides left right r) m) None b
      go true = here_leads r m g b s x l k
      go false =
          let t = next_by (logic_here line decides left right) (Both i j) here_leads here_free m g b s x in
          let n = take_registers 1 (logic_here line decides left right m.free m) in
          let q = t.leads.onward.larger in
          leads_on t.leads (put_on line (Piece.Abc Op.Move r m.free 0) n t.leads.ghost None t.leads.state refl
          (record { first = omega (arith, q, l); ordered = refl; registers = (omega (arith, q, l), (t.there, tt)); fields = tt; constant = tt; upvalues = tt; small = inl (omega arith); extra = tt; spares = λ y z. subst (λ q. kind_at (locals_of n.active) q ≡ 0) (eqb-true r y z) (later_kind r t.leads k) }) tt refl)

  logic_jumps : (t : Bool) → JumpsLead (logic_jump decides left right t) (Both i j)
  logic_jumps t label m g b s x l w = go (beq decides t)
    where
      go : (c : Bool) → Leads m g (cond c (jump_both t left right label) (jump_over t left right label) m) None b
      go true =
          let d = f.jump_if t label m g x.mid s x.first l w in
          let n = left.jump_if t label m in
          leads_then d (h.jump_if t label n d.ghost b d.state (carry j b d x.second) (let q = d.onward.labels in omega (arith, q, l))
          (subst (λ xs. Below (locals_of xs) (d.ghost.need label)) (sym d.active) (subst (λ ys. Below (locals_of m.active) ys) (sym (d.onward.need label l)) w)))
      go false =
          let over = length m.labels in
          let xs = locals_of m.active in
          let m1 = (new_label m).after in
          let g1 = with_need g over xs in
          let s1 = new_label_state xs s in
          let own : over < length m1.labels = omega (arith, length-append m.labels (0 ∷ [])) in
          let d = f.jump_if (not t) over m1 g1 x.mid s1 x.first own (subst (λ ys. Below xs ys) (sym (updated_same g.need over xs)) (below_self xs)) in
          let n = left.jump_if (not t) over m1 in
          let q = d.onward.labels in
          let old : g1.need label ≡ g.need label = updated_other g.need over xs label (λ e. omega (arith, e, l)) in
          let c = h.jump_if t label n d.ghost b d.state (carry j b d x.second) (omega (arith, q, l, own))
          (subst (λ ys. Below (locals_of ys) (d.ghost.need label)) (sym d.active) (subst (λ ys. Below xs ys) (sym (d.onward.need label (omega (arith, l, own)) ∙ old)) w)) in
          let n2 = right.jump_if t label n in
          let asked : c.ghost.need over ≡ xs = c.onward.need over (omega (arith, q, own)) ∙ d.onward.need over own ∙ updated_same g.need over xs in
          let same : n2.active ≡ m.active = c.active ∙ d.active in
          let p = placed_state over g.unplaced c.state (subst (λ ys. Below ys (locals_of n2.active)) (sym asked) (subst (λ ys. Below xs (locals_of ys)) (sym same) (below_self xs)))
          (λ k y. subst (λ os. IsIn k os) (c.unplaced ∙ d.unplaced) y) in
          record { ghost = with_unplaced c.ghost g.unplaced; state = p; onward = onward_then (onward_then (new_label_onward m g xs) (onward_then d.onward c.onward)) (placed_onward over n2 c.ghost g.unplaced); unplaced = refl; active = same; ahead = c.ahead }

  logic_leaves : (t : Bool) (label : ℕ) (m : Maker) → (logic_jump decides left right t label m).free ≡ m.free
  logic_leaves t label m = go (beq decides t)
    where
      go : (c : Bool) → (cond c (jump_both t left right label) (jump_over t left right label) m).free ≡ m.free
      go true = h.jump_free t label (left.jump_if t label m) ∙ f.jump_free t label m
      go false = h.jump_free t label (left.jump_if (not t) (length m.labels) (new_label m).after) ∙ f.jump_free (not t) (length m.labels) (new_label m).after

  pub logic_keeps : Keeps (coded_logic line decides e left right) (Both i j)
  logic_keeps = record {
    value = (let c = single_value line e (logic_value line decides left right) (Both i j) logic_leads z in record { to_reg = c.to_reg; to_free = λ r m. refl; literal_reads = c.literal_reads; name_reads = c.name_reads });
    jump_if = logic_jumps;
    jump_free = logic_leaves;
    spine = single_spine line e (logic_value line decides left right) (Both i j) logic_leads z;
    spine_free = λ m. omega arith;
    spine_high = λ m. omega arith;
    multi = λ y. absurd (true≢false (sym y ∙ one));
    multi_room = λ y. absurd (true≢false (sym y ∙ one));
    target = λ y. absurd (true≢false (sym y ∙ none));
  }
