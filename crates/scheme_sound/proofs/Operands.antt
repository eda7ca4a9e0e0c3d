-- Values in the next register, operands and tests keep the invariant, by what is known of the expression. Of a fitting the variables are
-- i, j and k.
use Rattle.std.proofs.Common.{◌≡◌, ◌≤◌, ◌<◌, ℕ, suc, Bool, true, false, List, [], ◌∷◌, length, refl, sym, ap, ◌∙◌, arith, inl, cond, eqb-true, ◌⊎◌, subst, true≢false, inr, leb-true}
use Rattle.std.specs.Prelude.{Option, None, Some, ◌||◌, nat_eq}
use Rattle.std.specs.Bool.{beq}
use Rattle.std.specs.List.{list_any}
use Rattle.std.specs.Option.{option_eq}
use Rattle.std.proofs.lemmas.List.{length-map}
use Rattle.lua_num.specs.Bytes.{Text}
use Rattle.lua_tree.specs.Scoping.{global_use, local_use, upvalue_use, Use}
use Rattle.opcode.specs.declared.op.Op.{Op}
use Rattle.opcode.specs.Word.{truth_field}
use Rattle.proto.specs.Constants.{constant_number}
use Rattle.proto.specs.declared.parts.Constant.{Constant}
use Rattle.scheme.specs.Making.{Maker, Ahead, Where, in_register, in_upvalue, in_globals, constant, take_registers, Part, when, head_or, where_is, is_declaration, pass_name, next_name, Asks, jump_to, register_among}
use Rattle.scheme.specs.Expressions.{Coded, operand, next_reg, rk, rk_text, is_name, literal, load, test_by, is_true_constant, next_text, register_of, local_register, operand_by, is_small, small_constant, rk_by, test, jump_literal}
use Rattle.scheme.specs.declared.making.Piece.{Piece}
use Rattle.scheme.specs.declared.making.Local.{Local}
use Rattle.scheme.specs.declared.making.Active.{Active}
use Rattle.scheme_sound.proofs.Ghosts.{locals_of, kind_by, local_kind, kind_at, Below, Ghost, IsConstant}
use Rattle.scheme_sound.proofs.Later.{operand_more}
use Rattle.scheme_sound.proofs.States.{State, Leads, leads_self, leads_then, leads_on, leads_as, take_leads, freed, pass_leads, sized, sized_state, sized_leads}
use Rattle.scheme_sound.proofs.Words.{none_written, kind_free, put_on, put_jump, constant_within, constant_leads}
use Rattle.scheme_sound.proofs.WordPairs.{put_test}
use Rattle.scheme_sound.proofs.Fitting.{Context, Fitting, place_of, UseFits, Nothing, NameAt, Both}

-- ---- what is proved of parts

abbrev pub context : Maker → Ghost → Context
context m g = record { locals = locals_of m.active; upvalues = length m.upvalue_names; vararg = g.vararg }

-- what stands ahead fits after a part too
pub carry : {m n : Maker} {g : Ghost} {o : Option ℕ} {a : Ahead} (i : Fitting) (b : Ahead) → (d : Leads m g n o a) → i (context m g) a b → i (context n d.ghost) n.ahead b
carry {m} {n} {g} {o} {a} i b d x =
    let one : context n d.ghost ≡ context m g = ap (λ xs. record { locals = locals_of xs; upvalues = length n.upvalue_names; vararg = d.ghost.vararg }) d.active
    ∙ ap (λ u. record { locals = locals_of m.active; upvalues = length u; vararg = d.ghost.vararg }) d.onward.upvalues
    ∙ ap (λ v. record { locals = locals_of m.active; upvalues = length m.upvalue_names; vararg = v }) d.onward.vararg in
    subst (λ c. i c n.ahead b) (sym one) (subst (λ y. i (context m g) y b) (sym d.ahead) x)

-- a part leads on where what stands ahead fits
abbrev pub PartLeads : Part → Fitting → Type 0
PartLeads part i = (m : Maker) (g : Ghost) (b : Ahead) → State m g None → i (context m g) m.ahead b → Leads m g (part m) None b

-- and so does one with jumps to a label that asks for no more than is allowed
abbrev pub JumpsLead : (ℕ → Part) → Fitting → Type 0
JumpsLead part i = (label : ℕ) (m : Maker) (g : Ghost) (b : Ahead) → State m g None → i (context m g) m.ahead b → label < length m.labels → Below (locals_of m.active) (g.need label) → Leads m g (part label m) None b

-- and one with a value to a register that is no number of a loop
abbrev pub ValueLeads : (to : ℕ → Part) → Fitting → Type 0
ValueLeads to i = (r : ℕ) (m : Maker) (g : Ghost) (b : Ahead) → State m g None → i (context m g) m.ahead b → r < g.size → kind_at (locals_of m.active) r ≡ 0 → Leads m g (to r m) None b

-- the code of an expression leads on with its value, a literal reads no name, and a name reads itself
pub record KeepsValue (c : Coded) (i : Fitting) : Type 0 where
  pub to_reg : ValueLeads c.to_reg i
  pub to_free : (r : ℕ) (m : Maker) → (c.to_reg r m).free ≡ m.free
  pub literal_reads : (k : Constant) (x : Context) (a b : Ahead) → literal c.e ≡ Some k → i x a b → b ≡ a
  pub name_reads : (x : Context) (a b : Ahead) → is_name c.e ≡ true → i x a b → NameAt x a b

-- ---- names

pub among_place : (d : ℕ) (xs : List Active) → register_among d xs ≡ place_of d (locals_of xs)
among_place d [] = refl
among_place d (x ∷ xs) = ap (λ r. cond (is_declaration d x.local) 0 (suc r)) (among_place d xs)

known_place : (d : ℕ) (xs : List Local) → list_any (is_declaration d) xs ≡ true → place_of d xs < length xs
known_place d [] e = cc
known_place d (x ∷ xs) e = go (is_declaration d x) (known_place d xs) e
  where
    go : (t : Bool) → (list_any (is_declaration d) xs ≡ true → place_of d xs < length xs) → (t || list_any (is_declaration d) xs) ≡ true → cond t 0 (suc (place_of d xs)) < suc (length xs)
    go true k e = omega arith
    go false k e = let h = k e in omega (arith, h)

declared_kind : (d : ℕ) (x : Local) → is_declaration d x ≡ true → local_kind x ≡ 0
declared_kind d x e = go x.declaration e
  where
    go : (o : Option ℕ) → option_eq nat_eq o (Some d) ≡ true → kind_by o x.name ≡ 0
    go None e = absurd (true≢false (sym e))
    go (Some y) e = refl

known_kind : (d : ℕ) (xs : List Local) → list_any (is_declaration d) xs ≡ true → kind_at xs (place_of d xs) ≡ 0
known_kind d [] e = cc
known_kind d (x ∷ xs) e = go (is_declaration d x) refl (known_kind d xs) e
  where
    go : (t : Bool) → is_declaration d x ≡ t → (list_any (is_declaration d) xs ≡ true → kind_at xs (place_of d xs) ≡ 0) → (t || list_any (is_declaration d) xs) ≡ true → kind_at (x ∷ xs) (cond t 0 (suc (place_of d xs))) ≡ 0
    go true is k e = declared_kind d x is
    go false is k e = k e

-- a place that a name means
abbrev pub WhereHolds : Maker → Ghost → Where → Type 0
WhereHolds m g (in_register r) = (r < g.size) × (kind_at (locals_of m.active) r ≡ 0)
WhereHolds m g (in_upvalue slot) = slot < length m.upvalue_names
WhereHolds m g in_globals = Unit {0}

pub register_holds : (d : ℕ) (m : Maker) (g : Ghost) (o : Option ℕ) → State m g o → list_any (is_declaration d) (locals_of m.active) ≡ true → (register_among d m.active < g.size) × (kind_at (locals_of m.active) (register_among d m.active) ≡ 0)
register_holds d m g o s e =
    let is = among_place d m.active in
    let l : place_of d (locals_of m.active) < length (locals_of m.active) = known_place d (locals_of m.active) e in
    let mapped : length (locals_of m.active) ≡ length m.active = length-map m.active _ in
    (omega (arith, is, l, mapped, s.held), ap (kind_at (locals_of m.active)) is ∙ known_kind d (locals_of m.active) e)

pub where_holds : (u : Use) (m : Maker) (g : Ghost) (o : Option ℕ) → State m g o → UseFits (context m g) u → WhereHolds m g (where_is u m.active)
where_holds (local_use d) m g o s x = register_holds d m g o s x
where_holds (upvalue_use slot) m g o s x = x
where_holds global_use m g o s x = tt

-- a register that a name means is there
pub register_there : (w : Where) (x : ℕ) (m : Maker) (g : Ghost) → register_of w ≡ Some x → WhereHolds m g w → x < g.size
register_there (in_register y) x m g e o = let same : y ≡ x = cc in omega (arith, same, o.0)
register_there (in_upvalue slot) x m g e o = cc
register_there in_globals x m g e o = cc

pub where_later : {m n : Maker} {g : Ghost} {o : Option ℕ} {b : Ahead} (w : Where) → (d : Leads m g n o b) → WhereHolds m g w → WhereHolds n d.ghost w
where_later (in_register x) d k = ((let q = d.onward.larger in omega (arith, q, k.0)), subst (λ xs. kind_at (locals_of xs) x ≡ 0) (sym d.active) k.1)
where_later (in_upvalue slot) d k = subst (λ u. slot < length u) (sym d.onward.upvalues) k
where_later in_globals d k = tt

-- ---- the next register

-- a register or an operand, and the state behind it
pub record Takes (m : Maker) (g : Ghost) (n : Maker) (b : Ahead) (x : ℕ) : Type 0 where
  pub leads : Leads m g n None b
  pub there : x < leads.ghost.size

pub record Gives (m : Maker) (g : Ghost) (n : Maker) (b : Ahead) (x : ℕ) : Type 0 where
  pub leads : Leads m g n None b
  pub there : (x < leads.ghost.size) ⊎ IsConstant (length n.constants) x

-- a value in F, which is then taken
pub next_by : (to : ℕ → Part) (i : Fitting) → ValueLeads to i → ((r : ℕ) (m : Maker) → (to r m).free ≡ m.free) → (m : Maker) (g : Ghost) (b : Ahead) → State m g None → i (context m g) m.ahead b → Takes m g (take_registers 1 (to m.free m)) b m.free
next_by to i t f m g b s x =
    let k = suc m.free in
    let d = t m.free m (sized g k) b (sized_state k s) x (omega arith) (kind_free m m.free s.room) in
    let e = leads_then d (take_leads 1 d.state) in
    record {
      leads = sized_leads k (leads_as e d.ahead) (omega (arith, f m.free m));
      there = (let l = d.onward.larger in let l' = e.onward.larger in omega (arith, l, l'));
    }

pub next_takes : (c : Coded) (i : Fitting) → KeepsValue c i → (m : Maker) (g : Ghost) (b : Ahead) → State m g None → i (context m g) m.ahead b → Takes m g (next_reg c m) b m.free
next_takes c i t m g b s x = next_by c.to_reg i t.to_reg t.to_free m g b s x

-- ---- operands

abbrev pub AskTakes : Asks ℕ → Fitting → Type 0
AskTakes ask i = (m : Maker) (g : Ghost) (b : Ahead) → State m g None → i (context m g) m.ahead b → Takes m g (ask m).after b (ask m).value

abbrev pub AskGives : Asks ℕ → Fitting → Type 0
AskGives ask i = (m : Maker) (g : Ghost) (b : Ahead) → State m g None → i (context m g) m.ahead b → Gives m g (ask m).after b (ask m).value

operand_by_takes : (o : Option ℕ) (c : Coded) (i : Fitting) → KeepsValue c i → (m : Maker) (g : Ghost) (b : Ahead) → State m g None → i (context m g) m.ahead b → local_register c.e m ≡ o → Takes m g (operand_by o c m).after b (operand_by o c m).value
operand_by_takes None c i t m g b s x e = next_takes c i t m g b s x
operand_by_takes (Some r) c i t m g b s x e = go (is_name c.e) refl e
  where
    go : (n : Bool) → is_name c.e ≡ n → cond n (register_of (next_name m)) None ≡ Some r → Takes m g (pass_name m) b r
    go false is e = cc
    go true is e =
        let a = t.name_reads (context m g) m.ahead b is x in
        let d = pass_leads s in
        record { leads = leads_as d (sym a.passed); there = (let l = register_there (next_name m) r m g e (where_holds (head_or global_use m.ahead.names) m g None s a.use_fits) in let l' = d.onward.larger in omega (arith, l, l')) }

pub operand_takes : (c : Coded) (i : Fitting) → KeepsValue c i → AskTakes (operand c) i
operand_takes c i t m g b s x = operand_by_takes (local_register c.e m) c i t m g b s x refl

gives : {m n : Maker} {g : Ghost} {b : Ahead} {x : ℕ} → Takes m g n b x → Gives m g n b x
gives t = record { leads = t.leads; there = inl t.there }

small_gives : (k : Constant) (m : Maker) (g : Ghost) → State m g None → is_small k m ≡ true → Gives m g (small_constant k m).after m.ahead (small_constant k m).value
small_gives k m g s e = record {
  leads = constant_leads k s;
  there = inr (record { number = constant_number k m.constants; is = refl; small = leb-true (constant_number k m.constants) 255 e; there = constant_within k m.constants });
}

rk_by_gives : (o : Option Constant) (c : Coded) (i : Fitting) → KeepsValue c i → (m : Maker) (g : Ghost) (b : Ahead) → State m g None → i (context m g) m.ahead b → literal c.e ≡ o → Gives m g (rk_by o c m).after b (rk_by o c m).value
rk_by_gives None c i t m g b s x e = gives (operand_takes c i t m g b s x)
rk_by_gives (Some k) c i t m g b s x e = go (is_small k m) refl
  where
    go : (z : Bool) → is_small k m ≡ z → Gives m g (cond z (small_constant k) (operand c) m).after b (cond z (small_constant k) (operand c) m).value
    go false is = gives (operand_takes c i t m g b s x)
    go true is = subst (λ y. Gives m g (small_constant k m).after y (small_constant k m).value) (sym (t.literal_reads k (context m g) m.ahead b e x)) (small_gives k m g s is)

pub rk_gives : (c : Coded) (i : Fitting) → KeepsValue c i → AskGives (rk c) i
rk_gives c i t m g b s x = rk_by_gives (literal c.e) c i t m g b s x refl

-- ---- two of them

-- a state's facts at a later one
pub later_kind : {m n : Maker} {g : Ghost} {o : Option ℕ} {b : Ahead} (r : ℕ) → (d : Leads m g n o b) → kind_at (locals_of m.active) r ≡ 0 → kind_at (locals_of n.active) r ≡ 0
later_kind r d k = subst (λ xs. kind_at (locals_of xs) r ≡ 0) (sym d.active) k

pub later_field : {m n : Maker} {g : Ghost} {o : Option ℕ} {b : Ahead} {c x : ℕ} → (d : Leads m g n o b) → c ≤ length m.constants → (x < g.size) ⊎ IsConstant c x → (x < d.ghost.size) ⊎ IsConstant (length n.constants) x
later_field {m} {n} {g} {c = c} {x = x} d l f = operand_more g.size d.ghost.size c (length n.constants) x d.onward.larger (let q = d.onward.count in omega (arith, q, l)) f

-- two operands, or a register and an operand, and the state behind them
pub record TwoOperands (m : Maker) (g : Ghost) (n : Maker) (b : Ahead) (x y : ℕ) : Type 0 where
  pub leads : Leads m g n None b
  pub first : (x < leads.ghost.size) ⊎ IsConstant (length n.constants) x
  pub second : (y < leads.ghost.size) ⊎ IsConstant (length n.constants) y

pub record RegisterAndOperand (m : Maker) (g : Ghost) (n : Maker) (b : Ahead) (x y : ℕ) : Type 0 where
  pub leads : Leads m g n None b
  pub first : x < leads.ghost.size
  pub second : (y < leads.ghost.size) ⊎ IsConstant (length n.constants) y

-- the second one is found behind the first
pub two_operands : (one two : Asks ℕ) (i j : Fitting) → AskGives one i → AskGives two j → (m : Maker) (g : Ghost) (b : Ahead) → State m g None → Both i j (context m g) m.ahead b → TwoOperands m g (two (one m).after).after b (one m).value (two (one m).after).value
two_operands one two i j f k m g b s x =
    let a = f m g x.mid s x.first in
    let c = k (one m).after a.leads.ghost b a.leads.state (carry j b a.leads x.second) in
    record { leads = leads_then a.leads c.leads; first = later_field c.leads (omega arith) a.there; second = c.there }

pub register_and_operand : (one two : Asks ℕ) (i j : Fitting) → AskTakes one i → AskGives two j → (m : Maker) (g : Ghost) (b : Ahead) → State m g None → Both i j (context m g) m.ahead b → RegisterAndOperand m g (two (one m).after).after b (one m).value (two (one m).after).value
register_and_operand one two i j f k m g b s x =
    let a = f m g x.mid s x.first in
    let c = k (one m).after a.leads.ghost b a.leads.state (carry j b a.leads x.second) in
    record { leads = leads_then a.leads c.leads; first = (let q = c.leads.onward.larger in let r = a.there in omega (arith, q, r)); second = c.there }

pub field_small : {s k c : ℕ} → (c < s) ⊎ IsConstant k c → (c ≤ 511) ⊎ (c ≤ suc s)
field_small (inl l) = inr (omega (arith, l))
field_small (inr x) = inl (omega (arith, x.is, x.small))

-- ---- constants in registers

pub loads : (line r : ℕ) (k : Constant) (m : Maker) (g : Ghost) → State m g None → r < g.size → kind_at (locals_of m.active) r ≡ 0 → Leads m g (load line r k m) None m.ahead
loads line r k m g s l e =
    let d = constant_leads k s in
    let n = (constant k m).after in
    let has = constant_within k m.constants in
    let within : r < d.ghost.size = (let q = d.onward.larger in omega (arith, q, l)) in
    leads_then d (put_on line (Piece.Abx Op.LoadK r (constant_number k m.constants)) n d.ghost None d.state refl
    (record { first = within; ordered = refl; registers = (within, tt); fields = tt; constant = has; upvalues = tt; small = inl (omega arith); extra = tt; spares = λ x t. subst (λ y. kind_at (locals_of m.active) y ≡ 0) (eqb-true r x t) e }) tt refl)

pub next_text_takes : (line : ℕ) (text : Text) (m : Maker) (g : Ghost) → State m g None → Takes m g (next_text line text m) m.ahead m.free
next_text_takes line text m g s = next_by (λ r. load line r (Constant.Text text)) (λ c a b. b ≡ a) (λ r m g b s x l e. let d = loads line r (Constant.Text text) m g s l e in leads_as d (sym x)) (λ r m. refl) m g m.ahead s refl

pub rk_text_gives : (line : ℕ) (text : Text) (m : Maker) (g : Ghost) → State m g None → Gives m g (rk_text line text m).after m.ahead (rk_text line text m).value
rk_text_gives line text m g s = go (is_small (Constant.Text text) m) refl
  where
    go : (z : Bool) → is_small (Constant.Text text) m ≡ z → Gives m g (cond z (small_constant (Constant.Text text)) (λ n. record { value = n.free; after = next_text line text n }) m).after m.ahead (cond z (small_constant (Constant.Text text)) (λ n. record { value = n.free; after = next_text line text n }) m).value
    go false is = gives (next_text_takes line text m g s)
    go true is = small_gives (Constant.Text text) m g s is

pub text_asks : (line : ℕ) (text : Text) → AskGives (rk_text line text) Nothing
text_asks line text m g b s x = subst (λ y. Gives m g (rk_text line text m).after y (rk_text line text m).value) (sym x) (rk_text_gives line text m g s)

-- ---- tests

pub truth_small : (t : Bool) (s : ℕ) → (truth_field t ≤ 511) ⊎ (truth_field t ≤ suc s)
truth_small true s = inl (omega arith)
truth_small false s = inl (omega arith)

test_leads : (line : ℕ) (c : Coded) (i : Fitting) → KeepsValue c i → (t : Bool) → JumpsLead (test line c t) i
test_leads line c i k t label m g b s x l w =
    let o = operand_takes c i k m g b s x in
    let n = (operand c m).after in
    let v = (operand c m).value in
    let d = o.leads in
    let e = put_test line Op.Test v 0 (truth_field t) label n d.ghost d.state refl refl
    (record { first = o.there; ordered = refl; registers = (o.there, tt); fields = tt; constant = tt; upvalues = tt; small = truth_small t d.ghost.size; extra = tt; spares = λ r z. none_written (locals_of n.active) r z })
    (let q = d.onward.labels in omega (arith, q, l))
    (subst (λ xs. Below (locals_of xs) (d.ghost.need label)) (sym d.active) (subst (λ ys. Below (locals_of m.active) ys) (sym (d.onward.need label l)) w)) in
    leads_on d e

jump_literal_leads : (line : ℕ) (k : Constant) (t : Bool) (label : ℕ) (m : Maker) (g : Ghost) → State m g None → label < length m.labels → Below (locals_of m.active) (g.need label) → Leads m g (jump_literal line k t label m) None m.ahead
jump_literal_leads line k t label m g s l w = go (beq t (is_true_constant k))
  where
    go : (z : Bool) → Leads m g (when z (jump_to line label) m) None m.ahead
    go true = put_jump line label m g s l w
    go false = leads_self s

pub when_free : (b : Bool) (line label : ℕ) (m : Maker) → (when b (jump_to line label) m).free ≡ m.free
when_free true line label m = refl
when_free false line label m = refl

pub test_by_leads : (o : Option Constant) (line : ℕ) (c : Coded) (i : Fitting) → KeepsValue c i → literal c.e ≡ o → (t : Bool) → JumpsLead (test_by o line c t) i
test_by_leads (Some k) line c i v e t label m g b s x l w = subst (λ y. Leads m g (jump_literal line k t label m) None y) (sym (v.literal_reads k (context m g) m.ahead b e x)) (jump_literal_leads line k t label m g s l w)
test_by_leads None line c i v e t label m g b s x l w = freed m g (test line c t label) b s.room (test_leads line c i v t label m g b s x l w)
