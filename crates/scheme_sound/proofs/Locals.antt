-- Declarations keep the invariant: `local` and `local function`.
use Rattle.std.proofs.Common.{◌≡◌, ◌≤◌, ◌<◌, ℕ, zero, suc, Bool, true, false, List, [], ◌∷◌, length, refl, sym, ap, ◌∙◌, arith, inl, ◌+◌, cond, ◌++◌, subst, length-append, append_assoc, append-nil, nat_lt, nat_le, ◌-◌, ltb-true, le-leb}
use Rattle.std.specs.Prelude.{None, Some}
use Rattle.std.proofs.lemmas.Bool.{ltb-false}
use Rattle.std.proofs.lemmas.List.{length-map, map-append}
use Rattle.lua_num.specs.Bytes.{Text}
use Rattle.lua_tree.specs.Syntax.{Expressions}
use Rattle.opcode.specs.declared.op.Op.{Op}
use Rattle.scheme.specs.Making.{Maker, Ahead, take_registers, Part, free_from, head_or, activate, declare, starts_here}
use Rattle.scheme.specs.Expressions.{Coded}
use Rattle.scheme.specs.Lists.{adjust, all_next, ends_open, all_multi, nils, filled}
use Rattle.scheme.specs.Scheme.{all_coded}
use Rattle.scheme.specs.declared.making.Piece.{Piece}
use Rattle.scheme.specs.declared.making.Local.{Local}
use Rattle.scheme.specs.declared.making.Active.{Active}
use Rattle.scheme.specs.Functions.{Inner, closure}
use Rattle.scheme.specs.Statements.{local_part, local_function_part}
use Rattle.scheme_sound.proofs.Ghosts.{locals_of, kind_at, captured_at, Below, Ghost}
use Rattle.scheme_sound.proofs.States.{State, Leads, leads_then, leads_on, SameMade, state_same, leads_same, with_note, state_with_note, take_leads, free_leads, sized, sized_state, sized_leads}
use Rattle.scheme_sound.proofs.Words.{range_spares, put_on}
use Rattle.scheme_sound.proofs.Fitting.{Fitting, declared_ahead, declared_locals, ExpressionsFit}
use Rattle.scheme_sound.proofs.Operands.{context, carry}
use Rattle.scheme_sound.proofs.Lists.{AllKeep, count_of, nexts_lead, nexts_free, nexts_some, multis_lead, multis_free}
use Rattle.scheme_sound.proofs.Closures.{InnerKeeps, closure_to}
use Rattle.scheme_sound.proofs.Blocks.{Brings, brings_none, brings_then, carry_brought, Settled}

-- ---- what is declared

declare_value : (texts : List Text) (m : Maker) → (declare texts m).value ≡ declared_locals texts m.ahead
declare_value [] m = refl
declare_value (text ∷ texts) m = ap (λ r. record { name = text; declaration = Some m.ahead.declarations; captured = head_or false m.ahead.captures } ∷ r) (declare_value texts _)

declare_after : (texts : List Text) (m : Maker) → (declare texts m).after ≡ record m { ahead = declared_ahead texts m.ahead }
declare_after [] m = refl
declare_after (text ∷ texts) m = declare_after texts _

pub declared_length : (texts : List Text) (a : Ahead) → length (declared_locals texts a) ≡ length texts
declared_length [] a = refl
declared_length (text ∷ texts) a = ap suc (declared_length texts _)

-- declarations that are ahead
pub declared_leads : (texts : List Text) {m : Maker} {g : Ghost} → State m g None → Leads m g (record m { ahead = declared_ahead texts m.ahead }) None (declared_ahead texts m.ahead)
declared_leads texts s = leads_same s (record { items = refl; labels = refl; constants = refl; functions = refl; upvalues = refl; misfits = refl }) refl s.room (omega arith)

-- a part behind declarations
pub behind_declared : (texts : List Text) (part : List Local → Part) (m : Maker) (P : Maker → Type 0) → P (part (declared_locals texts m.ahead) (record m { ahead = declared_ahead texts m.ahead })) → P (part (declare texts m).value (declare texts m).after)
behind_declared texts part m P p = subst (λ n. P (part (declare texts m).value n)) (sym (declare_after texts m)) (subst (λ v. P (part v (record m { ahead = declared_ahead texts m.ahead }))) (sym (declare_value texts m)) p)

-- ---- what becomes active

-- what becomes active
pub record Activated (locals : List Local) (m n : Maker) : Type 0 where
  pub same : SameMade m n
  pub more : List Active
  pub grown : n.active ≡ m.active ++ more
  pub are : locals_of more ≡ locals
  pub free : n.free ≡ m.free
  pub high : n.high ≡ m.high
  pub ahead : n.ahead ≡ m.ahead

pub activated : (locals : List Local) (m : Maker) → Activated locals m (activate locals m)
activated [] m = record { same = record { items = refl; labels = refl; constants = refl; functions = refl; upvalues = refl; misfits = refl }; more = []; grown = sym (append-nil m.active); are = refl; free = refl; high = refl; ahead = refl }
activated (one ∷ locals) m =
    let x : Active = record { local = one; listed = length m.locals } in
    let n : Maker = record m { active = m.active ++ x ∷ []; locals = m.locals ++ record { name = one.name; start = length m.items; end = length m.items } ∷ [] } in
    let a = activated locals n in
    record {
      same = record { items = a.same.items; labels = a.same.labels; constants = a.same.constants; functions = a.same.functions; upvalues = a.same.upvalues; misfits = a.same.misfits };
      more = x ∷ a.more;
      grown = a.grown ∙ append_assoc m.active (x ∷ []) a.more;
      are = ap (λ r. one ∷ r) a.are;
      free = a.free;
      high = a.high;
      ahead = a.ahead;
    }

declared_kinds : (texts : List Text) (a : Ahead) (r : ℕ) → kind_at (declared_locals texts a) r ≡ 0
declared_kinds [] a r = refl
declared_kinds (text ∷ texts) a zero = refl
declared_kinds (text ∷ texts) a (suc r) = declared_kinds texts _ r

pub kind_append : (xs ys : List Local) (r k : ℕ) → ((j : ℕ) → kind_at ys j ≡ 0) → kind_at (xs ++ ys) r ≡ suc k → kind_at xs r ≡ suc k
kind_append [] ys r k none e = absurd (let h = none r in cc)
kind_append (x ∷ xs) ys zero k none e = e
kind_append (x ∷ xs) ys (suc r) k none e = kind_append xs ys r k none e

pub captured_append : (xs ys : List Local) (r : ℕ) → captured_at xs r ≡ true → captured_at (xs ++ ys) r ≡ true
captured_append [] ys r e = cc
captured_append (x ∷ xs) ys zero e = e
captured_append (x ∷ xs) ys (suc r) e = captured_append xs ys r e

-- named locals allow more
below_more : (xs : List Local) (texts : List Text) (a : Ahead) → Below xs (xs ++ declared_locals texts a)
below_more xs texts a =
    let ys = declared_locals texts a in
    let none = declared_kinds texts a in
    record {
      captured = λ r e. captured_append xs ys r e;
      loops = λ r l. record { index = kind_append xs ys r 0 none l.index; limit = kind_append xs ys (suc r) 1 none l.limit; step = kind_append xs ys (suc (suc r)) 2 none l.step };
    }

pub activate_brings : (texts : List Text) (a : Ahead) (m : Maker) (g : Ghost) → State m g None → length m.active + length texts ≤ m.free → length m.active + length texts ≤ m.high → Brings m g (activate (declared_locals texts a) m) (locals_of m.active ++ declared_locals texts a) m.ahead
activate_brings texts a m g s f h =
    let ls = declared_locals texts a in
    let n = activate ls m in
    let x = activated ls m in
    let z = length m.active + length texts in
    let many : length x.more ≡ length texts = sym (length-map x.more (λ one. one.local)) ∙ ap length x.are ∙ declared_length texts a in
    let long : length n.active ≡ z = ap length x.grown ∙ length-append m.active x.more ∙ ap (λ y. length m.active + y) many in
    let are : locals_of n.active ≡ locals_of m.active ++ ls = ap locals_of x.grown ∙ map-append (λ one. one.local) m.active x.more ∙ ap (λ y. locals_of m.active ++ y) x.are in
    record {
      ghost = with_note (sized g z) (length m.items) (locals_of n.active);
      state = state_with_note (sized_state z s) x.same (subst (λ ys. Below (locals_of m.active) ys) (sym are) (below_more (locals_of m.active) texts a)) (omega (arith, long)) (omega (arith, long, f, x.free));
      onward = record { need = λ l k. refl; labels = omega (arith, ap length x.same.labels); high = omega (arith, x.high); count = omega (arith, ap length x.same.constants); upvalues = x.same.upvalues; larger = omega arith; size = omega (arith, h, x.high); vararg = refl };
      unplaced = refl;
      more = x.more;
      grown = x.grown;
      locals = are;
      ahead = x.ahead;
    }

-- ---- so many values

-- values for so many registers from F on
pub record Adjusts (m : Maker) (g : Ghost) (n : Maker) (k : ℕ) (b : Ahead) : Type 0 where
  pub leads : Leads m g n None b
  pub free : n.free ≡ m.free + k
  pub high : m.free + k ≤ n.high

nils_leads : (line k : ℕ) (m : Maker) (g : Ghost) → State m g None → 0 < k → Adjusts m g (nils line k m) k m.ahead
nils_leads line k m g s l =
    let f = m.free in
    let room = s.room in
    let d = take_leads k s in
    let n = take_registers k m in
    let z = f + k in
    let low : length n.active ≤ f = omega (arith, room, ap length d.active) in
    let p = put_on line (Piece.Abc Op.LoadNil f (f + k - 1) 0) n (sized d.ghost z) None (sized_state z d.state) refl
    (record { first = omega (arith, l); ordered = le-leb f (f + k - 1) (omega (arith, l)); registers = (omega (arith, l), (omega (arith, l), tt)); fields = tt; constant = tt; upvalues = tt; small = inl (omega arith); extra = tt; spares = λ y e. range_spares n f y (nat_le y (f + k - 1)) low e }) tt refl in
    record { leads = leads_on d (sized_leads z p (omega arith)); free = refl; high = omega arith }

pub adjust_leads : (line k : ℕ) (es : Expressions) → AllKeep es → (m : Maker) (g : Ghost) (b : Ahead) → State m g None → ExpressionsFit es (context m g) m.ahead b → 0 < k → Adjusts m g (adjust line (all_coded es) k m) k b
adjust_leads line k es f m g b s x h = go (nat_lt (count_of es) k) refl
  where
    cs : List Coded
    cs = all_coded es

    fill : (o : Bool) → ends_open (all_coded es) ≡ o → count_of es < k → Adjusts m g (cond o (all_multi Op.Call (Some (k - count_of es + 1)) (all_coded es)) (λ m. nils line (k - count_of es) (all_next (all_coded es) m)) m) k b
    fill false is l =
        let d = nexts_lead es f m g b s x in
        let n = all_next (all_coded es) m in
        let e = nils_leads line (k - count_of es) n d.ghost d.state (omega (arith, l)) in
        let q = nexts_free es f m in
        let ef = e.free in
        let eh = e.high in
        record { leads = leads_on d e.leads; free = omega (arith, ef, q, l); high = omega (arith, eh, q, l) }
    fill true is l =
        let w = k - count_of es in
        let same : suc w ≡ w + 1 = omega arith in
        let t = multis_lead Op.Call (Some (suc w)) tt tt es f is m g b s x in
        let r = multis_free Op.Call w es f is m in
        let one : Adjusts m g (all_multi Op.Call (Some (suc w)) (all_coded es) m) k b = record { leads = t.leads; free = omega (arith, r.0, l); high = omega (arith, r.0, r.1, l) } in
        subst (λ y. Adjusts m g (all_multi Op.Call (Some y) (all_coded es) m) k b) same one

    go : (c : Bool) → nat_lt (count_of es) k ≡ c → Adjusts m g (cond c (filled line (all_coded es) (k - count_of es)) (λ z. free_from (m.free + k) (all_next (all_coded es) z)) m) k b
    go true is = fill (ends_open (all_coded es)) refl (ltb-true (count_of es) k is)
    go false is =
        let l = ltb-false (count_of es) k is in
        let d = nexts_lead es f m g b s x in
        let room = s.room in
        let e = free_leads (m.free + k) (omega (arith, room, ap length d.active)) d.state in
        let q = nexts_some es f m (omega (arith, l, h)) in
        record { leads = leads_on d e; free = refl; high = omega (arith, q, l) }

-- ---- `local`

pub local_brings : (line : ℕ) (names : List Text) (es : Expressions) → AllKeep es → (m : Maker) (g : Ghost) (after : List Local) (b : Ahead) → State m g None → Settled m → 0 < length names → after ≡ locals_of m.active ++ declared_locals names m.ahead → ExpressionsFit es (context m g) (declared_ahead names m.ahead) b
    → Brings m g (local_part line names (all_coded es) m) after b
local_brings line names es f m g after b s t l e x =
    behind_declared names (λ locals n. activate locals (adjust line (all_coded es) (length names) n)) m (λ n. Brings m g n after b) (
    let d0 = declared_leads names s in
    let m1 : Maker = record m { ahead = declared_ahead names m.ahead } in
    let a = adjust_leads line (length names) es f m1 d0.ghost b d0.state (carry (ExpressionsFit es) b d0 x) l in
    let n = adjust line (all_coded es) (length names) m1 in
    let d = leads_then d0 a.leads in
    let af = a.free in
    let ah = a.high in
    let r = activate_brings names m.ahead n d.ghost d.state (omega (arith, af, t, ap length d.active)) (omega (arith, ah, t, ap length d.active)) in
    let w = brings_then (brings_none d) r in
    record { ghost = w.ghost; state = w.state; onward = w.onward; unplaced = w.unplaced; more = w.more; grown = w.grown; locals = w.locals ∙ ap (λ xs. locals_of xs ++ declared_locals names m.ahead) d.active ∙ sym e; ahead = w.ahead ∙ d.ahead })

-- ---- `local function`

-- a declared local is no number of a loop
kind_new : (xs : List Local) (text : Text) (a : Ahead) → kind_at (xs ++ declared_locals (text ∷ []) a) (length xs) ≡ 0
kind_new [] text a = refl
kind_new (x ∷ xs) text a = kind_new xs text a

starts_brings : {m n : Maker} {g : Ghost} {xs : List Local} {b : Ahead} (listed : ℕ) → Brings m g n xs b → Brings m g (starts_here listed n) xs b
starts_brings listed r = record { ghost = r.ghost; state = state_same r.state (record { items = refl; labels = refl; constants = refl; functions = refl; upvalues = refl; misfits = refl }) refl r.state.room; onward = (let q = r.onward in record { need = q.need; labels = q.labels; high = q.high; count = q.count; upvalues = q.upvalues; larger = q.larger; size = q.size; vararg = q.vararg }); unplaced = r.unplaced; more = r.more; grown = r.grown; locals = r.locals; ahead = r.ahead }

pub local_function_brings : (line : ℕ) (text : Text) (inner : Inner) (i : Fitting) → InnerKeeps inner i → (m : Maker) (g : Ghost) (after : List Local) (b : Ahead) → State m g None → Settled m → after ≡ locals_of m.active ++ declared_locals (text ∷ []) m.ahead
    → i (record (context m g) { locals = locals_of m.active ++ declared_locals (text ∷ []) m.ahead }) (declared_ahead (text ∷ []) m.ahead) b → Brings m g (local_function_part line text inner m) after b
local_function_brings line text inner i f m g after b s t e x =
    behind_declared (text ∷ []) (λ locals n. starts_here (length n.locals) (closure line inner n.free (activate locals (take_registers 1 n)))) m (λ n. Brings m g n after b) (
    let d0 = declared_leads (text ∷ []) s in
    let m1 : Maker = record m { ahead = declared_ahead (text ∷ []) m.ahead } in
    let d1 = take_leads 1 d0.state in
    let m2 = take_registers 1 m1 in
    let d = leads_on d0 d1 in
    let r = activate_brings (text ∷ []) m.ahead m2 d.ghost d.state (omega (arith, t)) (omega (arith, t)) in
    let m3 = activate (declared_locals (text ∷ []) m.ahead) m2 in
    let w = brings_then (brings_none d) r in
    let long : length m3.active ≡ length m.active + 1 = sym (length-map m3.active (λ one. one.local)) ∙ ap length r.locals ∙ length-append (locals_of m.active) (declared_locals (text ∷ []) m.ahead) ∙ ap (λ y. y + 1) (length-map m.active (λ one. one.local)) in
    let held = r.state.held in
    let register : length (locals_of m.active) ≡ m.free = length-map m.active (λ one. one.local) ∙ sym t in
    let none : kind_at (locals_of m3.active) m.free ≡ 0 = ap (λ xs. kind_at xs m.free) r.locals ∙ ap (kind_at (locals_of m.active ++ declared_locals (text ∷ []) m.ahead)) (sym register) ∙ kind_new (locals_of m.active) text m.ahead in
    let c = closure_to line inner i f m.free m3 w.ghost b w.state (carry_brought i b (record { ghost = w.ghost; state = w.state; onward = w.onward; unplaced = w.unplaced; more = w.more; grown = w.grown; locals = w.locals; ahead = w.ahead ∙ d.ahead }) x) (omega (arith, t, long, held)) none in
    let v = brings_then w (brings_none c) in
    starts_brings (length m1.locals) (record { ghost = v.ghost; state = v.state; onward = v.onward; unplaced = v.unplaced; more = v.more; grown = v.grown; locals = v.locals ∙ w.locals ∙ sym e; ahead = v.ahead }))
