-- Assignments keep the invariant.
use Rattle.std.proofs.Common.{◌≡◌, ◌≤◌, ◌<◌, ℕ, zero, suc, Bool, true, false, List, [], ◌∷◌, length, refl, sym, ap, ◌∙◌, arith, inl, ◌+◌, cond, eqb-true, ◌⊎◌}
use Rattle.std.specs.Prelude.{Option, None, ◌==◌, ◌&&◌}
use Rattle.lua_num.specs.Bytes.{Text}
use Rattle.lua_tree.specs.Syntax as syntax
use Rattle.lua_tree.specs.Syntax.{Expressions, no_expressions}
use Rattle.lua_tree.specs.WellFormed.{is_target}
use Rattle.opcode.specs.declared.op.Op.{Op}
use Rattle.proto.specs.Constants.{constant_number}
use Rattle.proto.specs.declared.parts.Constant.{Constant}
use Rattle.scheme.specs.Making.{Maker, Ahead, put, Where, in_register, in_upvalue, in_globals, constant, take_registers, active_count, answer}
use Rattle.scheme.specs.Expressions.{Coded, operand, Target, name_target, part_target, next_reg, rk}
use Rattle.scheme.specs.Lists.{adjust}
use Rattle.scheme.specs.Statements.{set_where, store_register, store, all_targets, is_among, clashes, renamed, with_copy, copied, copies, each_stored, stored_from, assign_adjusted, assign_part}
use Rattle.scheme.specs.Scheme.{all_coded, coded}
use Rattle.scheme.specs.declared.making.Piece.{Piece}
use Rattle.scheme_sound.proofs.Ghosts.{locals_of, Ghost, IsConstant}
use Rattle.scheme_sound.proofs.Later.{operand_more}
use Rattle.scheme_sound.proofs.States.{State, Leads, leads_self, leads_then, leads_on, leads_as, take_leads, sized, sized_state, sized_leads}
use Rattle.scheme_stands.proofs.Growth.{constant_stands}
use Rattle.scheme_sound.proofs.Words.{none_written, one_written, kind_free, put_on, constant_leads}
use Rattle.scheme_sound.proofs.Fitting.{Fitting, Both, TargetsFit, ExpressionsFit, ExpressionFits}
use Rattle.scheme_sound.proofs.Operands.{context, carry, PartLeads, WhereHolds, where_later, next_takes, operand_takes, rk_gives, later_field, field_small}
use Rattle.scheme_sound.proofs.Expressions.{TargetHolds, Keeps}
use Rattle.scheme_sound.proofs.Lists.{AllKeep, coded_is, count_of}
use Rattle.scheme_sound.proofs.Locals.{adjust_leads}

-- ---- stores

when_global : (line r : ℕ) (text : Text) (m : Maker) (g : Ghost) → State m g None → r < g.size → Leads m g (set_where line r text in_globals m) None m.ahead
when_global line r text m g s l =
    let d = constant_leads (Constant.Text text) s in
    let n = (constant (Constant.Text text) m).after in
    let q = d.onward.larger in
    let within : r < d.ghost.size = omega (arith, q, l) in
    leads_then d (put_on line (Piece.Abx Op.SetGlobal r (constant_number (Constant.Text text) m.constants)) n d.ghost None d.state refl
    (record { first = within; ordered = refl; registers = (within, tt); fields = tt; constant = record { text = text; is = constant_stands (Constant.Text text) m.constants }; upvalues = tt; small = inl (omega arith); extra = tt; spares = λ y z. none_written (locals_of m.active) y z }) tt refl)

set_leads : (line r : ℕ) (text : Text) (w : Where) (m : Maker) (g : Ghost) → State m g None → WhereHolds m g w → r < g.size → Leads m g (set_where line r text w m) None m.ahead
set_leads line r text (in_register x) m g s w l = put_on line (Piece.Abc Op.Move x r 0) m g None s refl
    (record { first = w.0; ordered = refl; registers = (w.0, (l, tt)); fields = tt; constant = tt; upvalues = tt; small = inl (omega arith); extra = tt; spares = λ y z. one_written (locals_of m.active) x y w.1 z }) tt refl
set_leads line r text (in_upvalue slot) m g s w l = put_on line (Piece.Abc Op.SetUpval r slot 0) m g None s refl
    (record { first = l; ordered = refl; registers = (l, tt); fields = tt; constant = tt; upvalues = (w, tt); small = inl (omega arith); extra = tt; spares = λ y z. none_written (locals_of m.active) y z }) tt refl
set_leads line r text in_globals m g s w l = when_global line r text m g s l

key_leads : (line on key v : ℕ) (m : Maker) (g : Ghost) → State m g None → on < g.size → (key < g.size) ⊎ IsConstant (length m.constants) key → (v < g.size) ⊎ IsConstant (length m.constants) v → Leads m g (put line (Piece.Abc Op.SetTable on key v) m) None m.ahead
key_leads line on key v m g s l k w = put_on line (Piece.Abc Op.SetTable on key v) m g None s refl
    (record { first = l; ordered = refl; registers = (l, tt); fields = (k, (w, tt)); constant = tt; upvalues = tt; small = field_small w; extra = tt; spares = λ y z. none_written (locals_of m.active) y z }) tt refl

register_leads : (line : ℕ) (t : Target) (r : ℕ) (m : Maker) (g : Ghost) → State m g None → TargetHolds m g t → r < g.size → Leads m g (store_register line t r m) None m.ahead
register_leads line (name_target text w) r m g s o l = set_leads line r text w m g s o l
register_leads line (part_target on key on_local key_local) r m g s o l = key_leads line on key r m g s o.0 o.1 (inl l)

target_later : {m n : Maker} {g : Ghost} {o : Option ℕ} {b : Ahead} (t : Target) → (d : Leads m g n o b) → TargetHolds m g t → TargetHolds n d.ghost t
target_later (name_target text w) d k = where_later w d k
target_later (part_target on key on_local key_local) d k = ((let q = d.onward.larger in omega (arith, q, k.0)), later_field d (omega arith) k.1)

store_leads : (line : ℕ) (t : Target) (c : Coded) (i : Fitting) → Keeps c i → (m : Maker) (g : Ghost) (b : Ahead) → State m g None → i (context m g) m.ahead b → TargetHolds m g t → Leads m g (store line t c m) None b
store_leads line (name_target text (in_register x)) c i f m g b s y o = f.value.to_reg x m g b s y o.0 o.1
store_leads line (name_target text (in_upvalue slot)) c i f m g b s y o =
    let t = operand_takes c i f.value m g b s y in
    leads_on t.leads (set_leads line (operand c m).value text (in_upvalue slot) (operand c m).after t.leads.ghost t.leads.state (where_later (in_upvalue slot) t.leads o) t.there)
store_leads line (name_target text in_globals) c i f m g b s y o =
    let t = operand_takes c i f.value m g b s y in
    leads_on t.leads (when_global line (operand c m).value text (operand c m).after t.leads.ghost t.leads.state t.there)
store_leads line (part_target on key on_local key_local) c i f m g b s y o =
    let t = rk_gives c i f.value m g b s y in
    let q = t.leads.onward.larger in
    leads_on t.leads (key_leads line on key (rk c m).value (rk c m).after t.leads.ghost t.leads.state (omega (arith, q, o.0)) (later_field t.leads (omega arith) o.1) t.there)

-- each target can be stored to
abbrev pub TargetsHold : Maker → Ghost → List Target → Type 0
TargetsHold m g [] = Unit {0}
TargetsHold m g (t ∷ ts) = TargetHolds m g t × TargetsHold m g ts

targets_later : {m n : Maker} {g : Ghost} {o : Option ℕ} {b : Ahead} (ts : List Target) → (d : Leads m g n o b) → TargetsHold m g ts → TargetsHold n d.ghost ts
targets_later [] d k = tt
targets_later (t ∷ ts) d k = (target_later t d k.0, targets_later ts d k.1)

-- ---- the parts of targets

pub record AllAimed (m : Maker) (g : Ghost) (n : Maker) (b : Ahead) (ts : List Target) (count : ℕ) : Type 0 where
  pub leads : Leads m g n None b
  pub hold : TargetsHold n leads.ghost ts
  pub many : length ts ≡ count

-- targets by what is known of each
abbrev pub TargetsLead : List Coded → Fitting → Type 0
TargetsLead cs i = (m : Maker) (g : Ghost) (b : Ahead) → State m g None → i (context m g) m.ahead b → AllAimed m g (all_targets cs m).after b (all_targets cs m).value (length cs)

pub targets_lead : (es : Expressions) → AllKeep es → TargetsLead (all_coded es) (TargetsFit es)
targets_lead no_expressions f m g b s x = let d = leads_self s in record { leads = leads_as d (sym x); hold = tt; many = refl }
targets_lead (syntax.expression e rest) f m g b s x =
    let a = f.0.target (ap is_target (coded_is e) ∙ x.first.checked) m g x.mid s x.first.part_fits in
    let n = ((coded e).target m).after in
    let r = targets_lead rest f.1 n a.leads.ghost b a.leads.state (carry (TargetsFit rest) b a.leads x.second) in
    record { leads = leads_then a.leads r.leads; hold = (target_later ((coded e).target m).value r.leads a.ok, r.hold); many = ap suc r.many }

-- a target alone
pub aim_one : (c : Coded) (i : Fitting) → Keeps c i → is_target c.e ≡ true → TargetsLead (c ∷ []) i
aim_one c i f e m g b s x =
    let a = f.target e m g b s x in
    record { leads = a.leads; hold = (a.ok, tt); many = refl }

-- ---- copies

pick : (c : Bool) (x y s : ℕ) → x < s → y < s → cond c x y < s
pick true x y s a b = a
pick false x y s a b = b

pick_key : (c : Bool) (x y s k : ℕ) → x < s → (y < s) ⊎ IsConstant k y → (cond c x y < s) ⊎ IsConstant k (cond c x y)
pick_key true x y s k a b = inl a
pick_key false x y s k a b = b

renamed_holds : (x copy : ℕ) (t : Target) (m : Maker) (g : Ghost) → copy < g.size → TargetHolds m g t → TargetHolds m g (renamed x copy t)
renamed_holds x copy (name_target text w) m g l o = o
renamed_holds x copy (part_target on key on_local key_local) m g l o = (pick (on_local && (on == x)) copy on g.size l o.0, pick_key (key_local && (key == x)) copy key g.size (length m.constants) l o.1)

with_copy_holds : (x copy : ℕ) (ts : List Target) (m : Maker) (g : Ghost) → copy < g.size → TargetsHold m g ts → TargetsHold m g (with_copy x copy ts)
with_copy_holds x copy [] m g l o = tt
with_copy_holds x copy (t ∷ ts) m g l o = (one (is_among x ts), with_copy_holds x copy ts m g l o.1)
  where
    one : (c : Bool) → TargetHolds m g (cond c (renamed x copy t) t)
    one true = renamed_holds x copy t m g l o.0
    one false = o.0

with_copy_length : (x copy : ℕ) (ts : List Target) → length (with_copy x copy ts) ≡ length ts
with_copy_length x copy [] = refl
with_copy_length x copy (t ∷ ts) = ap suc (with_copy_length x copy ts)

copied_leads : (line x : ℕ) (ts : List Target) (m : Maker) (g : Ghost) → State m g None → x < length m.active → TargetsHold m g ts → AllAimed m g (copied line x ts m).after m.ahead (copied line x ts m).value (length ts)
copied_leads line x ts m g s l o =
    let z = suc m.free in
    let d = take_leads 1 s in
    let n = take_registers 1 m in
    let g1 = sized d.ghost z in
    let q = d.onward.larger in
    let held = s.held in
    let room = s.room in
    let p = put_on line (Piece.Abc Op.Move m.free x 0) n g1 None (sized_state z d.state) refl
    (record { first = omega arith; ordered = refl; registers = (omega arith, (omega (arith, q, held, l), tt)); fields = tt; constant = tt; upvalues = tt; small = inl (omega arith); extra = tt; spares = λ y e. one_written (locals_of n.active) m.free y (kind_free n m.free (omega (arith, room, ap length d.active))) e }) tt refl in
    let both = leads_on d (sized_leads z p (omega arith)) in
    let q2 = p.onward.larger in
    record { leads = both; hold = with_copy_holds x m.free ts (copied line x ts m).after both.ghost (omega (arith, q2)) (targets_later ts both o); many = with_copy_length x m.free ts }

copies_lead : (line k : ℕ) (ts : List Target) (m : Maker) (g : Ghost) → State m g None → k ≤ length m.active → TargetsHold m g ts → AllAimed m g (copies line k ts m).after m.ahead (copies line k ts m).value (length ts)
copies_lead line zero ts m g s l o = record { leads = leads_self s; hold = targets_later ts (leads_self s) o; many = refl }
copies_lead line (suc x) ts m g s l o =
    let a = copies_lead line x ts m g s (omega arith) o in
    let n = (copies line x ts m).after in
    go (clashes x ts) a (λ w. copied_leads line x (copies line x ts m).value n a.leads.ghost a.leads.state w a.hold) (omega (arith, l, ap length a.leads.active))
  where
    go : (c : Bool) → (a : AllAimed m g (copies line x ts m).after m.ahead (copies line x ts m).value (length ts)) → (x < length (copies line x ts m).after.active → AllAimed (copies line x ts m).after a.leads.ghost (copied line x (copies line x ts m).value (copies line x ts m).after).after (copies line x ts m).after.ahead (copied line x (copies line x ts m).value (copies line x ts m).after).value (length (copies line x ts m).value))
        → x < length (copies line x ts m).after.active
        → AllAimed m g (cond c (copied line x (copies line x ts m).value) (answer (copies line x ts m).value) (copies line x ts m).after).after m.ahead (cond c (copied line x (copies line x ts m).value) (answer (copies line x ts m).value) (copies line x ts m).after).value (length ts)
    go false a k w = a
    go true a k w = let d = k w in record { leads = leads_on a.leads d.leads; hold = d.hold; many = d.many ∙ a.many }

-- ---- assignments

each_leads : (line : ℕ) (ts : List Target) (es : Expressions) → AllKeep es → count_of es ≡ length ts → (m : Maker) (g : Ghost) (b : Ahead) → State m g None → ExpressionsFit es (context m g) m.ahead b → TargetsHold m g ts → Leads m g (each_stored line ts (all_coded es) m) None b
each_leads line [] no_expressions f e m g b s x o = let d = leads_self s in leads_as d (sym x)
each_leads line [] (syntax.expression v rest) f e m g b s x o = absurd (omega (arith, e))
each_leads line (t ∷ ts) no_expressions f e m g b s x o = absurd (omega (arith, e))
each_leads line (t ∷ []) (syntax.expression v no_expressions) f e m g b s x o =
    let d = store_leads line t (coded v) (ExpressionFits v) f.0 m g x.mid s x.first o.0 in
    leads_as d (sym x.second)
each_leads line (t ∷ []) (syntax.expression v (syntax.expression w rest)) f e m g b s x o = absurd (omega (arith, e))
each_leads line (t ∷ u ∷ ts) (syntax.expression v rest) f e m g b s x o =
    let d = next_takes (coded v) (ExpressionFits v) f.0.value m g x.mid s x.first in
    let n = next_reg (coded v) m in
    let r = each_leads line (u ∷ ts) rest f.1 (omega (arith, e)) n d.leads.ghost b d.leads.state (carry (ExpressionsFit rest) b d.leads x.second) (targets_later (u ∷ ts) d.leads o.1) in
    let both = leads_then d.leads r in
    let q = r.onward.larger in
    let there = d.there in
    leads_on both (register_leads line t m.free (each_stored line (u ∷ ts) (all_coded rest) n) both.ghost both.state (target_later t both o.0) (omega (arith, q, there)))

from_leads : (line r : ℕ) (ts : List Target) (m : Maker) (g : Ghost) → State m g None → TargetsHold m g ts → r + length ts ≤ g.size → Leads m g (stored_from line r ts m) None m.ahead
from_leads line r [] m g s o l = leads_self s
from_leads line r (t ∷ ts) m g s o l =
    let d = from_leads line (suc r) ts m g s o.1 (omega (arith, l)) in
    let q = d.onward.larger in
    leads_on d (register_leads line t r (stored_from line (suc r) ts m) d.ghost d.state (target_later t d o.0) (omega (arith, q, l)))

adjusted_leads : (line : ℕ) (ts : List Target) (es : Expressions) → AllKeep es → (m : Maker) (g : Ghost) (b : Ahead) → State m g None → ExpressionsFit es (context m g) m.ahead b → TargetsHold m g ts → 0 < length ts → Leads m g (assign_adjusted line ts (all_coded es) m) None b
adjusted_leads line ts es f m g b s x o l =
    let a = adjust_leads line (length ts) es f m g b s x l in
    let n = adjust line (all_coded es) (length ts) m in
    let z = m.free + length ts in
    let high = a.high in
    let hold = targets_later ts a.leads o in
    let d = from_leads line m.free ts n (sized a.leads.ghost z) (sized_state z a.leads.state) (grown n a.leads.ghost z ts hold) (omega arith) in
    let q = d.onward.high in
    leads_on a.leads (sized_leads z d (omega (arith, high, q)))
  where
    grown_where : (n : Maker) (h : Ghost) (z : ℕ) (w : Where) → WhereHolds n h w → WhereHolds n (sized h z) w
    grown_where n h z (in_register x) k = (omega (arith, k.0), k.1)
    grown_where n h z (in_upvalue slot) k = k
    grown_where n h z in_globals k = tt

    grown_one : (n : Maker) (h : Ghost) (z : ℕ) (t : Target) → TargetHolds n h t → TargetHolds n (sized h z) t
    grown_one n h z (name_target text w) k = grown_where n h z w k
    grown_one n h z (part_target on key on_local key_local) k = (omega (arith, k.0), operand_more h.size (sized h z).size (length n.constants) (length n.constants) key (omega arith) (omega arith) k.1)

    grown : (n : Maker) (h : Ghost) (z : ℕ) (ts : List Target) → TargetsHold n h ts → TargetsHold n (sized h z) ts
    grown n h z [] k = tt
    grown n h z (t ∷ ts) k = (grown_one n h z t k.0, grown n h z ts k.1)

pub assign_leads : (line : ℕ) (cs : List Coded) (i : Fitting) (es : Expressions) → TargetsLead cs i → 0 < length cs → AllKeep es → PartLeads (assign_part line cs (all_coded es)) (Both i (ExpressionsFit es))
assign_leads line cs i es f l h m g b s x =
    let a = f m g x.mid s x.first in
    let n1 = (all_targets cs m).after in
    let ts = (all_targets cs m).value in
    let c = copies_lead line (active_count n1) ts n1 a.leads.ghost a.leads.state (omega arith) a.hold in
    let n2 = (copies line (active_count n1) ts n1).after in
    let us = (copies line (active_count n1) ts n1).value in
    let both = leads_on a.leads c.leads in
    let many : length us ≡ length cs = c.many ∙ a.many in
    go n2 us both c.hold many (count_of es == length cs) refl
  where
    go : (n : Maker) (us : List Target) (d : Leads m g n None x.mid) → TargetsHold n d.ghost us → length us ≡ length cs → (e : Bool) → (count_of es == length cs) ≡ e → Leads m g (cond e (each_stored line us (all_coded es)) (assign_adjusted line us (all_coded es)) n) None b
    go n us d o many true is = leads_then d (each_leads line us es h (eqb-true (count_of es) (length cs) is ∙ sym many) n d.ghost b d.state (carry (ExpressionsFit es) b d x.second) o)
    go n us d o many false is = leads_then d (adjusted_leads line us es h n d.ghost b d.state (carry (ExpressionsFit es) b d x.second) o (omega (arith, many, l)))

-- one value to one target
pub assign_one : (line : ℕ) (c v : Coded) (i j : Fitting) → TargetsLead (c ∷ []) i → Keeps v j → PartLeads (assign_part line (c ∷ []) (v ∷ [])) (Both i j)
assign_one line c v i j f h m g b s x =
    let a = f m g x.mid s x.first in
    let n1 = (all_targets (c ∷ []) m).after in
    let ts = (all_targets (c ∷ []) m).value in
    let d = copies_lead line (active_count n1) ts n1 a.leads.ghost a.leads.state (omega arith) a.hold in
    let n2 = (copies line (active_count n1) ts n1).after in
    let us = (copies line (active_count n1) ts n1).value in
    go n2 us (leads_on a.leads d.leads) d.hold (d.many ∙ a.many)
  where
    go : (n : Maker) (us : List Target) (d : Leads m g n None x.mid) → TargetsHold n d.ghost us → length us ≡ 1 → Leads m g (each_stored line us (v ∷ []) n) None b
    go n [] d o many = absurd (omega (arith, many))
    go n (t ∷ []) d o many = leads_then d (store_leads line t v j h n d.ghost b d.state (carry j b d x.second) o.0)
    go n (t ∷ u ∷ us) d o many = absurd (omega (arith, many))
