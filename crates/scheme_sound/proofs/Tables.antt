-- Constructors keep the invariant.
use Rattle.std.proofs.Common.{◌≡◌, ◌≤◌, ◌<◌, ℕ, suc, Bool, true, false, length, refl, sym, ap, arith, inl, ◌+◌, cond, eqb-true, ◌⊎◌, subst, nat_lt, not, nat_le, leb-true, ◌-◌, ltb-true}
use Rattle.std.specs.Prelude.{Option, None, ◌==◌, ◌&&◌, Some, ◌/◌}
use Rattle.lua_tree.specs.Syntax.{constructor, Fields, no_fields, positional, named, keyed}
use Rattle.opcode.specs.declared.op.Op.{Op}
use Rattle.scheme.specs.Making.{Maker, Ahead, put, take_registers, Part, when, free_from, freeing, Asks}
use Rattle.scheme.specs.Expressions.{Coded, next_reg, rk, rk_text, is_multiple}
use Rattle.scheme.specs.Lists.{by_base, given_one, is_last, positional_count, other_count, size_hint, small_block, large_block, set_list, open_entry, keyed_item, full_end, pending_after, entries_from, table_at, coded_table}
use Rattle.scheme.specs.Scheme.{coded, entries}
use Rattle.scheme.specs.declared.making.Piece.{Piece}
use Rattle.scheme_sound.proofs.Ghosts.{locals_of, Ghost, plain_instr, Sane, Meets, goes_on}
use Rattle.scheme_sound.proofs.States.{State, Leads, leads_self, leads_then, leads_on, leads_as, take_leads, free_leads, freed, sized, sized_state, sized_leads}
use Rattle.scheme_sound.proofs.Words.{not_open, none_written, one_written, kind_free, put_on}
use Rattle.scheme_sound.proofs.WordPairs.{put_block}
use Rattle.scheme_sound.proofs.Fitting.{Context, Fitting, Nothing, Both, ExpressionFits, FieldsFit}
use Rattle.scheme_sound.proofs.Operands.{context, carry, ValueLeads, next_takes, AskGives, rk_gives, later_kind, two_operands, field_small, text_asks}
use Rattle.scheme_sound.proofs.Expressions.{Keeps, ReadsNames, single_keeps}
use Rattle.scheme_sound.proofs.Calls.{GivenKeeps}

-- ---- items

-- each item of a constructor keeps the invariant
abbrev pub FieldsKeep : Fields → Type 0
FieldsKeep no_fields = Unit {0}
FieldsKeep (positional e separator rest) = Keeps (coded e) (ExpressionFits e) × FieldsKeep rest
FieldsKeep (named text e separator rest) = Keeps (coded e) (ExpressionFits e) × FieldsKeep rest
FieldsKeep (keyed key e separator rest) = Keeps (coded key) (ExpressionFits key) × (Keeps (coded e) (ExpressionFits e) × FieldsKeep rest)

set_sane : (m : Maker) (g : Ghost) (t n c : ℕ) → t + n < g.size → (c ≤ 511) ⊎ (c ≤ suc g.size) → Sane m g (locals_of m.active) (plain_instr (Piece.Abc Op.SetList t n c))
set_sane m g t n c l k = record { first = omega (arith, l); ordered = refl; registers = (l, tt); fields = tt; constant = tt; upvalues = tt; small = k; extra = tt; spares = λ y e. none_written (locals_of m.active) y e }

goes_set : (x : ℕ) → goes_on Op.SetList (x + 1) ≡ true
goes_set x = subst (λ y. goes_on Op.SetList y ≡ true) (let e : suc x ≡ x + 1 = omega arith in e) refl

-- items go into the table
set_leads : (line t n done : ℕ) (m : Maker) (g : Ghost) (o : Option ℕ) → State m g o → Meets (cond (n == 0) (Some (suc t)) None) o → t + n < g.size → length m.active ≤ t → Leads m g (set_list line t n done m) None m.ahead
set_leads line t n done m g o s w l k = go (nat_le ((done - 1) / 50 + 1) 511) refl
  where
    x : ℕ
    x = (done - 1) / 50

    free : (z : Maker) (d : Leads m g z None m.ahead) → Leads m g (free_from (t + 1) z) None m.ahead
    free z d = let e = free_leads (t + 1) (omega (arith, k, ap length d.active)) d.state in leads_on d e

    go : (c : Bool) → nat_le ((done - 1) / 50 + 1) 511 ≡ c → Leads m g (free_from (t + 1) (cond c (small_block line t n ((done - 1) / 50 + 1)) (large_block line t n ((done - 1) / 50 + 1)) m)) None m.ahead
    go true is = free (small_block line t n ((done - 1) / 50 + 1) m) (put_on line (Piece.Abc Op.SetList t n ((done - 1) / 50 + 1)) m g o s refl (set_sane m g t n _ l (inl (leb-true _ 511 is))) w (goes_set ((done - 1) / 50)))
    go false is = free (large_block line t n ((done - 1) / 50 + 1) m)
        (subst (λ y. Leads m g (put line (Piece.Bare y) (put line (Piece.Abc Op.SetList t n 0) m)) None m.ahead) (let e : suc ((done - 1) / 50) ≡ (done - 1) / 50 + 1 = omega arith in e) (put_block line t n ((done - 1) / 50) m g o s w (set_sane m g t n 0 l (inl (omega arith)))))

keyed_leads : (line t : ℕ) (key : Asks ℕ) (c : Coded) (i j : Fitting) → AskGives key i → Keeps c j → (m : Maker) (g : Ghost) (b : Ahead) → State m g None → Both i j (context m g) m.ahead b → t < g.size → Leads m g (keyed_item line t key c m) None b
keyed_leads line t key c i j f h m g b s x l =
    let d = two_operands key (rk c) i j f (rk_gives c j h.value) m g b s x in
    let n = (rk c (key m).after).after in
    let q = d.leads.onward.larger in
    leads_on d.leads (put_on line (Piece.Abc Op.SetTable t (key m).value (rk c (key m).after).value) n d.leads.ghost None d.leads.state refl
    (record { first = omega (arith, q, l); ordered = refl; registers = (omega (arith, q, l), tt); fields = (d.first, (d.second, tt)); constant = tt; upvalues = tt; small = field_small d.second; extra = tt; spares = λ y e. none_written (locals_of n.active) y e }) tt refl)

module _ (line t : ℕ) where
  set_high : (t n done : ℕ) (m : Maker) → m.high ≤ (set_list line t n done m).high
  set_high t n done m = go (nat_le ((done - 1) / 50 + 1) 511)
    where
      go : (c : Bool) → m.high ≤ (cond c (small_block line t n ((done - 1) / 50 + 1)) (large_block line t n ((done - 1) / 50 + 1)) m).high
      go true = omega arith
      go false = omega arith

  full_leads : (done pending : ℕ) (m : Maker) (g : Ghost) → State m g None → m.free ≡ t + 1 + suc pending → m.free ≤ m.high → length m.active ≤ t → Leads m g (full_end line t (suc done) (suc pending) m) None m.ahead
  full_leads done pending m g s e h k = go (suc pending == 50) refl
    where
      go : (c : Bool) → (suc pending == 50) ≡ c → Leads m g (when c (set_list line t 50 (suc done)) m) None m.ahead
      go false is = leads_self s
      go true is =
          let z = m.free in
          let many : suc pending ≡ 50 = eqb-true (suc pending) 50 is in
          sized_leads z (set_leads line t 50 (suc done) m (sized g z) None (sized_state z s) (not_open 50 (Some (suc t)) (omega arith)) (omega (arith, e, many)) k) (let q = set_high t 50 (suc done) m in omega (arith, q, h))

  full_free : (done pending : ℕ) (m : Maker) → m.free ≡ t + 1 + suc pending → (full_end line t (suc done) (suc pending) m).free ≡ t + 1 + pending_after (suc pending)
  full_free done pending m e = go (suc pending == 50)
    where
      go : (c : Bool) → (when c (set_list line t 50 (suc done)) m).free ≡ t + 1 + cond c 0 (suc pending)
      go false = e
      go true = omega arith

  full_high : (done pending : ℕ) (m : Maker) → m.free ≡ t + 1 + suc pending → m.free ≤ m.high → (full_end line t (suc done) (suc pending) m).free ≤ (full_end line t (suc done) (suc pending) m).high
  full_high done pending m e h = go (suc pending == 50)
    where
      go : (c : Bool) → (when c (set_list line t 50 (suc done)) m).free ≤ (when c (set_list line t 50 (suc done)) m).high
      go false = h
      go true = let q = set_high t 50 (suc done) m in omega (arith, q, h, e)

  last_in : (rest : Fields) (c : Context) (a b : Ahead) → is_last (entries rest) ≡ true → FieldsFit rest c a b → b ≡ a
  last_in no_fields c a b e x = x
  last_in (positional v separator rest) c a b e x = cc
  last_in (named text v separator rest) c a b e x = cc
  last_in (keyed key v separator rest) c a b e x = cc

  chosen : (c d : Bool) (one two : Part) (m : Maker) (g : Ghost) (b : Ahead) → (c ≡ true → d ≡ true → Leads m g (one m) None b) → Leads m g (two m) None b → Leads m g (cond (c && d) one two m) None b
  chosen true true one two m g b h k = h refl refl
  chosen true false one two m g b h k = k
  chosen false d one two m g b h k = k

  fields_leads : (fields : Fields) → FieldsKeep fields → (done pending : ℕ) (m : Maker) (g : Ghost) (b : Ahead) → State m g None → FieldsFit fields (context m g) m.ahead b → m.free ≡ t + 1 + pending → m.free ≤ m.high → length m.active ≤ t → t < g.size → Leads m g (entries_from line t done pending (entries fields) m) None b
  fields_leads no_fields f done pending m g b s x e h k l = go (nat_lt 0 pending) refl
    where
      go : (c : Bool) → nat_lt 0 pending ≡ c → Leads m g (when c (set_list line t pending done) m) None b
      go false is = let d = leads_self s in leads_as d (sym x)
      go true is =
          let some = ltb-true 0 pending is in
          let z = m.free in
          let d = sized_leads z (set_leads line t pending done m (sized g z) None (sized_state z s) (not_open pending (Some (suc t)) some) (omega (arith, e)) k) (let q = set_high t pending done m in omega (arith, q, h)) in
          leads_as d (sym x)
  fields_leads (named text v separator rest) f done pending m g b s x e h k l =
      let i = keyed_leads line t (rk_text line text) (coded v) Nothing (ExpressionFits v) (text_asks line text) f.0 m g x.mid s (record { mid = m.ahead; first = refl; second = x.first }) l in
      let d = freed m g (keyed_item line t (rk_text line text) (coded v)) x.mid s.room i in
      let n = freeing (keyed_item line t (rk_text line text) (coded v)) m in
      let q = d.onward.larger in
      let r = d.onward.high in
      leads_then d (fields_leads rest f.1 done pending n d.ghost b d.state (carry (FieldsFit rest) b d x.second) e (omega (arith, h, r)) (omega (arith, k, ap length d.active)) (omega (arith, l, q)))
  fields_leads (keyed key v separator rest) f done pending m g b s x e h k l =
      let i = keyed_leads line t (rk (coded key)) (coded v) (ExpressionFits key) (ExpressionFits v) (rk_gives (coded key) (ExpressionFits key) f.0.value) f.1.0 m g x.mid s x.first l in
      let d = freed m g (keyed_item line t (rk (coded key)) (coded v)) x.mid s.room i in
      let n = freeing (keyed_item line t (rk (coded key)) (coded v)) m in
      let q = d.onward.larger in
      let r = d.onward.high in
      leads_then d (fields_leads rest f.1.1 done pending n d.ghost b d.state (carry (FieldsFit rest) b d x.second) e (omega (arith, h, r)) (omega (arith, k, ap length d.active)) (omega (arith, l, q)))
  fields_leads (positional v separator rest) f done pending m g b s x e h k l =
      let c = coded v in
      let d = next_takes c (ExpressionFits v) f.0.value m g x.mid s x.first in
      let n = next_reg c m in
      let free : n.free ≡ t + 1 + suc pending = (let q = f.0.value.to_free m.free m in omega (arith, q, e)) in
      let high : n.free ≤ n.high = omega arith in
      let low : length n.active ≤ t = omega (arith, k, ap length d.leads.active) in
      let full = full_leads done pending n d.leads.ghost d.leads.state free high low in
      let n2 = full_end line t (suc done) (suc pending) n in
      let both = leads_on d.leads full in
      let q = d.leads.onward.larger in
      let q2 = full.onward.larger in
      chosen (is_last (entries rest)) (is_multiple c.e) (open_entry line t done c) (λ m. entries_from line t (suc done) (pending_after (suc pending)) (entries rest) (full_end line t (suc done) (suc pending) (next_reg c m))) m g b
      (λ last several.
      let o = f.0.multi several Op.Call None m g x.mid tt tt s x.first in
      let z = c.multi Op.Call None m in
      let r = o.onward.larger in
      let w = set_leads line t 0 (suc done) z o.ghost (Some m.free) o.state (omega (arith, e)) (omega (arith, l, r)) (omega (arith, k, ap length o.active)) in
      let i = leads_on o w in
      leads_as i (sym (last_in rest (context m g) x.mid b last x.second)))
      (leads_then both (fields_leads rest f.1 (suc done) (pending_after (suc pending)) n2 both.ghost b both.state (carry (FieldsFit rest) b both x.second) (full_free done pending n free) (full_high done pending n free high) (omega (arith, low, ap length full.active)) (omega (arith, l, q, q2))))

-- ---- tables

-- a table in the next register
pub record TableLeads (m : Maker) (g : Ghost) (n : Maker) (b : Ahead) : Type 0 where
  pub leads : Leads m g n None b
  pub there : m.free < leads.ghost.size
  pub high : m.free + 1 ≤ n.high

table_leads : (line : ℕ) (fields : Fields) → FieldsKeep fields → (m : Maker) (g : Ghost) (b : Ahead) → State m g None → FieldsFit fields (context m g) m.ahead b → TableLeads m g (table_at line (entries fields) m) b
table_leads line fields f m g b s x =
    let t = m.free in
    let z = t + 1 in
    let room = s.room in
    let piece = Piece.Abc Op.NewTable t (size_hint (positional_count (entries fields))) (size_hint (other_count (entries fields))) in
    let d1 = put_on line piece m (sized g z) None (sized_state z s) refl
    (record { first = omega arith; ordered = refl; registers = (omega arith, tt); fields = tt; constant = tt; upvalues = tt; small = tt; extra = tt; spares = λ y e. one_written (locals_of m.active) t y (kind_free m t room) e }) tt refl in
    let n1 = put line piece m in
    let d2 = take_leads 1 d1.state in
    let n2 = take_registers 1 n1 in
    let front : Leads m (sized g z) n2 None m.ahead = leads_on d1 d2 in
    let q = front.onward.larger in
    let d3 = fields_leads line t fields f 0 0 n2 front.ghost b front.state (carry (FieldsFit fields) b front x) (omega arith) (omega arith) (omega (arith, room, ap length front.active)) (omega (arith, q)) in
    let n3 = entries_from line t 0 0 (entries fields) n2 in
    let all = leads_then front d3 in
    let d4 = free_leads (t + 1) (omega (arith, room, ap length all.active)) all.state in
    let r = d3.onward.high in
    let q3 = d3.onward.larger in
    let q4 = d4.onward.larger in
    record {
      leads = sized_leads z (leads_on all d4) (omega (arith, r));
      there = omega (arith, q, q3, q4);
      high = omega (arith, r);
    }

pub table_given : (line : ℕ) (fields : Fields) → FieldsKeep fields → GivenKeeps (given_one (table_at line (entries fields))) (FieldsFit fields)
table_given line fields f = record {
  fixed = λ k e m g b s x. (table_leads line fields f m g b s x).leads;
  fixed_free = λ k e m g b s x l. (let same : 1 ≡ k = cc in let h = (table_leads line fields f m g b s x).high in (omega (arith, same), omega (arith, same, h)));
  opened = λ e. cc;
}

module _ (line : ℕ) (fields : Fields) (f : FieldsKeep fields) (z : ReadsNames (constructor line fields) (FieldsFit fields)) where
  table_to : ValueLeads (by_base line (table_at line (entries fields))) (FieldsFit fields)
  table_to r m g b s x l k = go (m.free == r)
    where
      go : (c : Bool) → Leads m g (when (not c) (put line (Piece.Abc Op.Move r m.free 0)) (table_at line (entries fields) m)) None b
      go true = (table_leads line fields f m g b s x).leads
      go false =
          let t = table_leads line fields f m g b s x in
          let d = t.leads in
          let n = table_at line (entries fields) m in
          let q = d.onward.larger in
          let there = t.there in
          leads_on d (put_on line (Piece.Abc Op.Move r m.free 0) n d.ghost None d.state refl
          (record { first = omega (arith, q, l); ordered = refl; registers = (omega (arith, q, l), (there, tt)); fields = tt; constant = tt; upvalues = tt; small = inl (omega arith); extra = tt; spares = λ y e. one_written (locals_of n.active) r y (later_kind r d k) e }) tt refl)

  pub table_keeps : Keeps (coded_table line fields (entries fields)) (FieldsFit fields)
  table_keeps = single_keeps line (constructor line fields) (by_base line (table_at line (entries fields))) (FieldsFit fields) table_to z refl refl
