-- Calls and `...` keep the invariant.
use Rattle.std.proofs.Common.{◌≡◌, ◌≤◌, ◌<◌, ℕ, zero, suc, Bool, true, false, [], ◌∷◌, length, refl, sym, ap, ◌∙◌, arith, inl, ◌+◌, cond, subst, true≢false, nat_lt, inr, not, nat_le, leb-true, ◌-◌, ltb-true, pred}
use Rattle.std.specs.Prelude.{Option, None, ◌==◌, ◌&&◌, Some}
use Rattle.lua_num.specs.Bytes.{Text}
use Rattle.lua_tree.specs.Syntax.{Expression, vararg_expression}
use Rattle.lua_tree.specs.WellFormed.{is_target}
use Rattle.opcode.specs.declared.op.Op.{Op}
use Rattle.scheme.specs.Making.{Maker, Ahead, put, take_registers, Part, when, free_from}
use Rattle.scheme.specs.Expressions.{Coded, operand, next_reg, Want, rk_text, count_field}
use Rattle.scheme.specs.Lists.{Given, results_at, call_at, method_at, by_base, coded_call, vararg_at, coded_vararg}
use Rattle.scheme.specs.declared.making.Piece.{Piece}
use Rattle.scheme_sound.proofs.Ghosts.{locals_of, kind_at, Ghost, AllBelow, plain_instr, Sane, Meets}
use Rattle.scheme_sound.proofs.States.{State, Leads, leads_then, leads_on, leads_as, take_leads, used_leads, free_leads, sized, sized_state, sized_leads}
use Rattle.scheme_sound.proofs.Words.{not_open, leaves_none, none_written, one_written, kind_free, range_from, range_spares, put_on}
use Rattle.scheme_sound.proofs.Fitting.{Fitting, Both}
use Rattle.scheme_sound.proofs.Operands.{context, carry, PartLeads, ValueLeads, next_takes, operand_takes, later_kind, field_small, rk_text_gives}
use Rattle.scheme_sound.proofs.Expressions.{left_by, MultiRoom, IsCalling, WantAllowed, Keeps, ReadsNames, single_free, single_value, single_jump, single_spine}

-- the results that are left may be written otherwise
pub left_is : {m n : Maker} {g : Ghost} {b : Ahead} (o o' : Option ℕ) → o ≡ o' → Leads m g n o b → Leads m g n o' b
left_is {m} {n} {g} {b} o o' e d = subst (λ x. Leads m g n x b) e d

-- ---- results

results_leads : (base : ℕ) (want : Want) (m : Maker) (g : Ghost) → State m g (left_by want base) → length m.active ≤ base → Leads m g (results_at base want m) (left_by want base) m.ahead
results_leads base None m g s l = let d = free_leads base l s in leads_on d (used_leads (suc base) d.state)
results_leads base (Some k) m g s l = let d = free_leads base l s in leads_on d (take_leads k d.state)

pub results_room : (base : ℕ) (want : Want) (m : Maker) → MultiRoom want base (results_at base want m)
results_room base None m = (refl, omega arith)
results_room base (Some k) m = (refl, omega arith)

-- so many registers are there in the end
abbrev want_size : ℕ → Want → ℕ
want_size base None = suc base
want_size base (Some k) = base + k

results_high : (base : ℕ) (want : Want) (m : Maker) → want_size base want ≤ (results_at base want m).high
results_high base None m = omega arith
results_high base (Some k) m = omega arith

-- ---- the word of a call

call_put : (op : Op) (want : Want) → IsCalling op want → (line base b : ℕ) (m : Maker) (g : Ghost) (o : Option ℕ) → State m g o → length m.active ≤ base → base < g.size → Meets (cond (b == 0) (Some (suc base)) None) o → base + pred b < g.size → want_size base want ≤ g.size
    → Leads m g (put line (Piece.Abc op base b (count_field 1 want)) m) (left_by want base) m.ahead
call_put Op.Call None is line base b m g o s l k w r z = put_on line (Piece.Abc Op.Call base b 0) m g o s refl
    (record { first = k; ordered = refl; registers = (r, (omega (arith, k), tt)); fields = tt; constant = tt; upvalues = tt; small = inl (omega arith); extra = tt; spares = λ y e. range_spares m base y (nat_lt (suc y) (base + 0)) l e }) w refl
call_put Op.Call (Some n) is line base b m g o s l k w r z = left_is _ None (leaves_none (n + 1) base (omega arith)) (put_on line (Piece.Abc Op.Call base b (n + 1)) m g o s refl
    (record { first = k; ordered = refl; registers = (r, (omega (arith, k, z), tt)); fields = tt; constant = tt; upvalues = tt; small = inr (omega (arith, z)); extra = tt; spares = λ y e. range_spares m base y (nat_lt (suc y) (base + (n + 1))) l e }) w refl)
call_put Op.TailCall None is line base b m g o s l k w r z = put_on line (Piece.Abc Op.TailCall base b 0) m g o s refl
    (record { first = k; ordered = refl; registers = (r, tt); fields = tt; constant = tt; upvalues = tt; small = inl (omega arith); extra = tt; spares = λ y e. none_written (locals_of m.active) y e }) w refl
call_put op want is line base b m g o s l k w r z = absurd is

-- the word and its results
call_ends : (op : Op) (want : Want) → IsCalling op want → (line base b : ℕ) (m : Maker) (g : Ghost) (o : Option ℕ) → State m g o → length m.active ≤ base → base < g.size → Meets (cond (b == 0) (Some (suc base)) None) o → base + pred b < g.size
    → Leads m g (results_at base want (put line (Piece.Abc op base b (count_field 1 want)) m)) (left_by want base) m.ahead
call_ends op want is line base b m g o s l k w r =
    let z = want_size base want in
    let d = call_put op want is line base b m (sized g z) o (sized_state z s) l (omega (arith, k)) w (omega (arith, r)) (omega arith) in
    let n = put line (Piece.Abc op base b (count_field 1 want)) m in
    sized_leads z (leads_on d (results_leads base want n d.ghost d.state l)) (results_high base want n)

-- ---- arguments

pub record OpenLeads (m : Maker) (g : Ghost) (n : Maker) (b : Ahead) : Type 0 where
  pub first : ℕ
  pub behind : m.free ≤ first
  pub leads : Leads m g n (Some first) b

pub record GivenKeeps (c : Given) (i : Fitting) : Type 0 where
  pub fixed : (k : ℕ) → c.count ≡ Some k → PartLeads c.part i
  pub fixed_free : (k : ℕ) → c.count ≡ Some k → (m : Maker) (g : Ghost) (b : Ahead) → State m g None → i (context m g) m.ahead b → m.free ≤ m.high → ((c.part m).free ≡ m.free + k) × (m.free + k ≤ (c.part m).high)
  pub opened : c.count ≡ None → (m : Maker) (g : Ghost) (b : Ahead) → State m g None → i (context m g) m.ahead b → OpenLeads m g (c.part m) b

-- arguments and the word of their call, from the register that the function is in
given_ends : (c : Given) (i : Fitting) (f : GivenKeeps c i) (more : ℕ) (op : Op) (want : Want) → IsCalling op want → (line base : ℕ) (m : Maker) (g : Ghost) (b : Ahead) → State m g None → i (context m g) m.ahead b → m.free ≡ base + more → 1 ≤ more → m.free ≤ m.high → length m.active ≤ base → base < g.size
    → Leads m g (results_at base want (put line (Piece.Abc op base (count_field more c.count) (count_field 1 want)) (c.part m))) (left_by want base) b
given_ends c i f more op want is line base m g b s x e one high l k = go c.count refl
  where
    go : (o : Want) → c.count ≡ o → Leads m g (results_at base want (put line (Piece.Abc op base (count_field more o) (count_field 1 want)) (c.part m))) (left_by want base) b
    go None is' =
        let d = f.opened is' m g b s x in
        let n = c.part m in
        let q = d.leads.onward.larger in
        let behind = d.behind in
        leads_on d.leads (call_ends op want is line base 0 n d.leads.ghost (Some d.first) d.leads.state (omega (arith, l, ap length d.leads.active)) (omega (arith, q, k)) (omega (arith, behind, e, one)) (omega (arith, q, k)))
    go (Some j) is' =
        let d = f.fixed j is' m g b s x in
        let n = c.part m in
        let r = f.fixed_free j is' m g b s x high in
        let q = d.onward.larger in
        let t = base + (more + j) in
        leads_on d (sized_leads t (call_ends op want is line base (j + more) n (sized d.ghost t) None (sized_state t d.state) (omega (arith, l, ap length d.active)) (omega (arith, q, k)) (not_open (j + more) (Some (suc base)) (omega (arith, one))) (omega (arith, one)))
        (let h = high_kept want (put line (Piece.Abc op base (j + more) (count_field 1 want)) n) in omega (arith, h, r.1, e)))
      where
        high_kept : (want : Want) (z : Maker) → z.high ≤ (results_at base want z).high
        high_kept None z = omega arith
        high_kept (Some k) z = omega arith

-- ---- calls

pub call_multi : (line : ℕ) (on : Coded) (c : Given) (i j : Fitting) → Keeps on i → GivenKeeps c j → (op : Op) (want : Want) (m : Maker) (g : Ghost) (b : Ahead) → IsCalling op want → State m g None → Both i j (context m g) m.ahead b → Leads m g (call_at line on c op want m) (left_by want m.free) b
call_multi line on c i j f h op want m g b is s x =
    let d = next_takes on i f.value m g x.mid s x.first in
    let n = next_reg on m in
    let e : n.free ≡ m.free + 1 = ap (λ y. y + 1) (f.value.to_free m.free m) in
    leads_then d.leads (given_ends c j h 1 op want is line m.free n d.leads.ghost b d.leads.state (carry j b d.leads x.second) e (omega arith) (omega arith) (let r = s.room in omega (arith, r, ap length d.leads.active)) d.there)

pub method_multi : (line : ℕ) (on : Coded) (text : Text) (c : Given) (i j : Fitting) → Keeps on i → GivenKeeps c j → (op : Op) (want : Want) (m : Maker) (g : Ghost) (b : Ahead) → IsCalling op want → State m g None → Both i j (context m g) m.ahead b → Leads m g (method_at line on text c op want m) (left_by want m.free) b
method_multi line on text c i j f h op want m g b is s x =
    let base = m.free in
    let d0 = operand_takes on i f.value m g x.mid s x.first in
    let v = (operand on m).value in
    let n0 = (operand on m).after in
    let z = base + 2 in
    let room = s.room in
    let low0 : length n0.active ≤ base = omega (arith, room, ap length d0.leads.active) in
    let a1 = free_leads base low0 d0.leads.state in
    let n1 = free_from base n0 in
    let a2 = take_leads 2 a1.state in
    let n2 = take_registers 2 n1 in
    let g2 = sized a2.ghost z in
    let a3 = rk_text_gives line text n2 g2 (sized_state z a2.state) in
    let y = (rk_text line text n2).value in
    let n3 = (rk_text line text n2).after in
    let q0 = d0.there in
    let q1 = a1.onward.larger in
    let q2 = a2.onward.larger in
    let q3 = a3.leads.onward.larger in
    let low3 : length n3.active ≤ base = omega (arith, low0, ap length a1.active, ap length a2.active, ap length a3.leads.active) in
    let self : Sane n3 a3.leads.ghost (locals_of n3.active) (plain_instr (Piece.Abc Op.Self_ base v y)) = record {
      first = omega (arith, q3);
      ordered = refl;
      registers = (omega (arith, q3), (omega (arith, q0, q1, q2, q3), tt));
      fields = (a3.there, tt);
      constant = tt;
      upvalues = tt;
      small = field_small a3.there;
      extra = tt;
      spares = λ r e. kind_free n3 r (let q = range_from base r (nat_lt r (base + 2)) e in omega (arith, q, low3));
    } in
    let a4 = put_on line (Piece.Abc Op.Self_ base v y) n3 a3.leads.ghost None a3.leads.state refl self tt refl in
    let n4 = put line (Piece.Abc Op.Self_ base v y) n3 in
    let a5 = free_leads (base + 2) (omega (arith, low3)) a4.state in
    let n5 = free_from (base + 2) n4 in
    let tail : Leads n2 g2 n5 None n2.ahead = leads_on a3.leads (leads_on a4 a5) in
    let high2 : z ≤ n2.high = omega arith in
    let high5 = tail.onward.high in
    let front : Leads m g n2 None x.mid = leads_on (leads_on d0.leads a1) a2 in
    let all5 : Leads m g n5 None x.mid = leads_on front (sized_leads z tail (omega (arith, high2, high5))) in
    let q5 = tail.onward.larger in
    let g5 : Ghost = all5.ghost in
    leads_then all5 (given_ends c j h 2 op want is line base n5 all5.ghost b all5.state (carry j b all5 x.second) refl (omega arith) (omega (arith, high2, high5))
    (omega (arith, low3, ap length a4.active, ap length a5.active)) (omega (arith, q5)))

module _ (line : ℕ) (e : Expression) (i : Fitting) (part : Op → Want → Part) (t : (op : Op) (want : Want) (m : Maker) (g : Ghost) (b : Ahead) → IsCalling op want → State m g None → i (context m g) m.ahead b → Leads m g (part op want m) (left_by want m.free) b) (room : (op : Op) (want : Want) (m : Maker) → MultiRoom want m.free (part op want m)) (z : ReadsNames e i) (none : is_target e ≡ false) where
  call_to : ValueLeads (by_base line (part Op.Call (Some 1))) i
  call_to r m g b s x l k = go (m.free == r)
    where
      go : (c : Bool) → Leads m g (when (not c) (put line (Piece.Abc Op.Move r m.free 0)) (part Op.Call (Some 1) m)) None b
      go true = t Op.Call (Some 1) m g b tt s x
      go false =
          let d = t Op.Call (Some 1) m g b tt s x in
          let n = part Op.Call (Some 1) m in
          let h = (room Op.Call (Some 1) m).1 in
          let q = d.onward.larger in
          let w = suc m.free in
          leads_on d (sized_leads w (put_on line (Piece.Abc Op.Move r m.free 0) n (sized d.ghost w) None (sized_state w d.state) refl
          (record { first = omega (arith, q, l); ordered = refl; registers = (omega (arith, q, l), (omega arith, tt)); fields = tt; constant = tt; upvalues = tt; small = inl (omega arith); extra = tt; spares = λ y e. one_written (locals_of n.active) r y (later_kind r d k) e }) tt refl) (omega (arith, h)))

  pub call_keeps : Keeps (coded_call line e part) i
  call_keeps = record {
    value = (let c = single_value line e (by_base line (part Op.Call (Some 1))) i call_to z in record { to_reg = c.to_reg; to_free = λ r m. refl; literal_reads = c.literal_reads; name_reads = c.name_reads });
    jump_if = single_jump line e (by_base line (part Op.Call (Some 1))) i call_to z;
    jump_free = single_free line e (by_base line (part Op.Call (Some 1)));
    spine = single_spine line e (by_base line (part Op.Call (Some 1))) i call_to z;
    spine_free = λ m. omega arith;
    spine_high = λ m. omega arith;
    multi = λ y op want m g b is w s x. t op want m g b is s x;
    multi_room = λ y op want m w. room op want m;
    target = λ y. absurd (true≢false (sym y ∙ none));
  }

-- ---- `...`

abbrev pub DotsFit : Fitting
DotsFit c a b = (c.vararg ≡ true) × (b ≡ a)

dots_names : (base n : ℕ) (s : ℕ) → base + n ≤ s → 1 ≤ n → AllBelow s (cond (n + 1 == 1) [] ((base + (n + 1 - 2)) ∷ []))
dots_names base n s l k = go (n + 1 == 1)
  where
    go : (t : Bool) → AllBelow s (cond t [] ((base + (n + 1 - 2)) ∷ []))
    go true = tt
    go false = (omega (arith, l, k), tt)

dots_spares : (m : Maker) (r y b : ℕ) → (nat_le r y && nat_lt (suc y) (r + 2)) ≡ true → kind_at (locals_of m.active) r ≡ 0 → kind_at (locals_of m.active) y ≡ 0
dots_spares m r y b e k = go (nat_le r y) (nat_lt (suc y) (r + 2)) refl refl e
  where
    go : (s t : Bool) → nat_le r y ≡ s → nat_lt (suc y) (r + 2) ≡ t → (s && t) ≡ true → kind_at (locals_of m.active) y ≡ 0
    go true true is is' e = subst (λ q. kind_at (locals_of m.active) q ≡ 0) (let a = leb-true r y is in let c = ltb-true (suc y) (r + 2) is' in omega (arith, a, c)) k
    go true false is is' e = absurd (true≢false (sym e))
    go false t is is' e = absurd (true≢false (sym e))

vararg_to : (line : ℕ) → ValueLeads (λ r. put line (Piece.Abc Op.Vararg r 2 0)) DotsFit
vararg_to line r m g b s x l k =
    let d = put_on line (Piece.Abc Op.Vararg r 2 0) m g None s refl
    (record { first = l; ordered = refl; registers = (omega (arith, l), tt); fields = tt; constant = tt; upvalues = tt; small = inl (omega arith); extra = x.0; spares = λ y e. dots_spares m r y 2 e k }) tt refl in
    leads_as d (sym x.1)

vararg_multi : (line : ℕ) (op : Op) (want : Want) (m : Maker) (g : Ghost) (b : Ahead) → WantAllowed (vararg_expression line) want → State m g None → DotsFit (context m g) m.ahead b → Leads m g (vararg_at line op want m) (left_by want m.free) b
vararg_multi line op None m g b w s x =
    let base = m.free in
    let z = suc base in
    let d = put_on line (Piece.Abc Op.Vararg base 0 0) m (sized g z) None (sized_state z s) refl
    (record { first = omega arith; ordered = refl; registers = (omega arith, tt); fields = tt; constant = tt; upvalues = tt; small = inl (omega arith); extra = x.0; spares = λ y e. kind_free m y (let q = range_from base y (nat_lt (suc y) (base + 0)) e in let r = s.room in omega (arith, q, r)) }) tt refl in
    let n = put line (Piece.Abc Op.Vararg base 0 0) m in
    let e = sized_leads z (leads_on d (results_leads base None n d.ghost d.state s.room)) (omega arith) in
    leads_as e (sym x.1)
vararg_multi line op (Some zero) m g b w s x = absurd (true≢false (sym w))
vararg_multi line op (Some (suc k)) m g b w s x =
    let base = m.free in
    let z = base + suc k in
    let d = left_is _ None (leaves_none (suc k + 1) base (omega arith)) (put_on line (Piece.Abc Op.Vararg base (suc k + 1) 0) m (sized g z) None (sized_state z s) refl
    (record { first = omega arith; ordered = refl; registers = dots_names base (suc k) _ (omega arith) (omega arith); fields = tt; constant = tt; upvalues = tt; small = inl (omega arith); extra = x.0; spares = λ y e. kind_free m y (let q = range_from base y (nat_lt (suc y) (base + (suc k + 1))) e in let r = s.room in omega (arith, q, r)) }) tt refl) in
    let n = put line (Piece.Abc Op.Vararg base (suc k + 1) 0) m in
    let e = sized_leads z (leads_on d (results_leads base (Some (suc k)) n d.ghost d.state s.room)) (omega arith) in
    leads_as e (sym x.1)

pub vararg_keeps : (line : ℕ) → ReadsNames (vararg_expression line) DotsFit → Keeps (coded_vararg line) DotsFit
vararg_keeps line z =
    let to : ℕ → Part = λ r. put line (Piece.Abc Op.Vararg r 2 0) in
    let e = vararg_expression line in
    record {
      value = (let c = single_value line e to DotsFit (vararg_to line) z in record { to_reg = c.to_reg; to_free = λ r m. refl; literal_reads = c.literal_reads; name_reads = c.name_reads });
      jump_if = single_jump line e to DotsFit (vararg_to line) z;
      jump_free = single_free line e to;
      spine = single_spine line e to DotsFit (vararg_to line) z;
      spine_free = λ m. omega arith;
      spine_high = λ m. omega arith;
      multi = λ y op want m g b is w s x. vararg_multi line op want m g b w s x;
      multi_room = λ y op want m w. results_room m.free want (put line (Piece.Abc Op.Vararg m.free (count_field 1 want) 0) m);
      target = λ y. absurd (true≢false (sym y));
    }
