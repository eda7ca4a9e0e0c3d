-- What is proved of an expression, and expressions without operators: literals, names, indexed values and parentheses.
use Rattle.std.proofs.Common.{◌≡◌, ◌≤◌, ◌<◌, ℕ, zero, Bool, true, false, length, refl, sym, ◌∙◌, arith, inl, ◌+◌, ◌⊎◌, subst, true≢false, nat_le, leb-true, le-leb}
use Rattle.std.specs.Prelude.{Option, None, ◌&&◌, Some, ℤ}
use Rattle.std.specs.Bool.{beq}
use Rattle.lua_num.specs.Bytes.{Text}
use Rattle.lua_num.specs.declared.arith.ArithOp.{ArithOp}
use Rattle.lua_tree.specs.Syntax.{Expression, vararg_expression, FunctionBody, function_expression, nil_literal, true_literal, false_literal, number_literal, text_literal, name_expression, index_expression, field_expression, call_expression, method_call, and_expression, or_expression, binary_expression, unary_expression, constructor, parenthesized}
use Rattle.lua_tree.specs.WellFormed.{is_target, is_call}
use Rattle.lua_tree.specs.Scoping.{global_use}
use Rattle.lua_tree.specs.declared.tree.UnaryOp.{UnaryOp}
use Rattle.opcode.specs.declared.op.Op.{Op}
use Rattle.proto.specs.Constants.{constant_number}
use Rattle.proto.specs.declared.parts.Constant.{Constant}
use Rattle.scheme.specs.Making.{Maker, Ahead, put, Where, in_register, in_upvalue, in_globals, constant, Part, head_or, freeing, pass_name, next_name, Asks}
use Rattle.scheme.specs.Expressions.{Coded, operand, Target, name_target, part_target, Want, rk_text, is_name, is_multiple, fold, single, number_or, plain_literal, literal, load, test_by, is_true_constant, plain_multi, no_target, read_where, name_value, indexed_value, indexed_target, coded_paren, fold_unary, fold_binary, arith_op, coded_field}
use Rattle.scheme.specs.declared.making.Piece.{Piece}
use Rattle.scheme_sound.proofs.Ghosts.{locals_of, kind_at, Ghost, IsConstant}
use Rattle.scheme_sound.proofs.States.{State, Leads, leads_then, leads_on, leads_as, freed, pass_leads}
use Rattle.scheme_stands.proofs.Growth.{constant_stands}
use Rattle.scheme_sound.proofs.Words.{one_written, put_on, constant_leads}
use Rattle.scheme_sound.proofs.Fitting.{Context, Fitting, Nothing, NameAt, Both, ExpressionFits}
use Rattle.scheme_sound.proofs.Operands.{context, PartLeads, JumpsLead, ValueLeads, KeepsValue, WhereHolds, where_holds, where_later, next_takes, AskGives, operand_takes, later_kind, register_and_operand, field_small, loads, text_asks, when_free, test_by_leads}

-- ---- what is proved of an expression

-- several values may be left open
abbrev pub left_by : Want → ℕ → Option ℕ
left_by None f = Some f
left_by (Some n) f = None

-- the registers that several values take
abbrev pub MultiRoom : Want → ℕ → Maker → Type 0
MultiRoom None f n = (n.free ≡ f) × (f < n.high)
MultiRoom (Some k) f n = (n.free ≡ f + k) × (f + k ≤ n.high)

-- the words of a call
abbrev pub IsCalling : Op → Want → Type 0
IsCalling Op.Call want = Unit {0}
IsCalling Op.TailCall None = Unit {0}
IsCalling op want = ⊥

-- a list of arguments does not ask `...` for no value
abbrev pub WantAllowed : Expression → Want → Type 0
WantAllowed e (Some zero) = is_call e ≡ true
WantAllowed e want = Unit {0}

-- a place that can be stored to
abbrev pub TargetHolds : Maker → Ghost → Target → Type 0
TargetHolds m g (name_target text w) = WhereHolds m g w
TargetHolds m g (part_target on key on_local key_local) = (on < g.size) × ((key < g.size) ⊎ IsConstant (length m.constants) key)

pub record Aims (m : Maker) (g : Ghost) (n : Maker) (b : Ahead) (t : Target) : Type 0 where
  pub leads : Leads m g n None b
  pub ok : TargetHolds n leads.ghost t

-- each form of the code of an expression leads on: its value, a jump by its truth, a link of `..`, several values, and a place that is stored to
pub record Keeps (c : Coded) (i : Fitting) : Type 0 where
  pub value : KeepsValue c i
  pub jump_if : (t : Bool) → JumpsLead (c.jump_if t) i
  pub jump_free : (t : Bool) (label : ℕ) (m : Maker) → (c.jump_if t label m).free ≡ m.free
  pub spine : PartLeads c.spine i
  pub spine_free : (m : Maker) → m.free < (c.spine m).free
  pub spine_high : (m : Maker) → (c.spine m).free ≤ (c.spine m).high
  pub multi : is_multiple c.e ≡ true → (op : Op) (want : Want) (m : Maker) (g : Ghost) (b : Ahead) → IsCalling op want → WantAllowed c.e want → State m g None → i (context m g) m.ahead b → Leads m g (c.multi op want m) (left_by want m.free) b
  pub multi_room : is_multiple c.e ≡ true → (op : Op) (want : Want) (m : Maker) → WantAllowed c.e want → MultiRoom want m.free (c.multi op want m)
  pub target : is_target c.e ≡ true → (m : Maker) (g : Ghost) (b : Ahead) → State m g None → i (context m g) m.ahead b → Aims m g (c.target m).after b (c.target m).value

-- what is known of an expression apart from its words
pub record ReadsNames (e : Expression) (i : Fitting) : Type 0 where
  pub literal_reads : (k : Constant) (x : Context) (a b : Ahead) → literal e ≡ Some k → i x a b → b ≡ a
  pub name_reads : (x : Context) (a b : Ahead) → is_name e ≡ true → i x a b → NameAt x a b

-- ---- what an expression reads

fold_unary_some : (op : UnaryOp) (o : Option ℤ) (n : ℤ) → fold_unary op o ≡ Some n → (k : ℤ) × (o ≡ Some k)
fold_unary_some UnaryOp.Neg (Some k) n e = (k, refl)
fold_unary_some UnaryOp.Neg None n e = cc
fold_unary_some op o n e = cc

fold_binary_some : (op : Option ArithOp) (o p : Option ℤ) (n : ℤ) → fold_binary op o p ≡ Some n → (k : ℤ) × (j : ℤ) × (o ≡ Some k) × (p ≡ Some j)
fold_binary_some (Some op) (Some k) (Some j) n e = (k, j, refl, refl)
fold_binary_some None o p n e = cc
fold_binary_some (Some op) None p n e = cc
fold_binary_some (Some op) (Some k) None n e = cc

fold_reads : (e : Expression) (n : ℤ) (c : Context) (a b : Ahead) → fold e ≡ Some n → ExpressionFits e c a b → b ≡ a
fold_reads (number_literal line n) k c a b e x = x
fold_reads (parenthesized line v) k c a b e x = fold_reads v k c a b e x
fold_reads (unary_expression line op v) k c a b e x = let s = fold_unary_some op (fold v) k e in fold_reads v s.0 c a b s.1 x
fold_reads (binary_expression line op left right) k c a b e x =
    let s = fold_binary_some (arith_op op) (fold left) (fold right) k e in
    fold_reads right s.1 c x.mid b s.3 x.second ∙ fold_reads left s.0 c a x.mid s.2 x.first
fold_reads (nil_literal line) k c a b e x = cc
fold_reads (true_literal line) k c a b e x = cc
fold_reads (false_literal line) k c a b e x = cc
fold_reads (vararg_expression line) k c a b e x = cc
fold_reads (text_literal line text) k c a b e x = cc
fold_reads (name_expression line text) k c a b e x = cc
fold_reads (function_expression line body) k c a b e x = cc
fold_reads (index_expression line on key) k c a b e x = cc
fold_reads (field_expression line on text) k c a b e x = cc
fold_reads (call_expression line on args on_line) k c a b e x = cc
fold_reads (method_call line on text args on_line) k c a b e x = cc
fold_reads (and_expression line left right) k c a b e x = cc
fold_reads (or_expression line left right) k c a b e x = cc
fold_reads (constructor line items) k c a b e x = cc

plain_reads : (e : Expression) (k : Constant) (c : Context) (a b : Ahead) → plain_literal e ≡ Some k → ExpressionFits e c a b → b ≡ a
plain_reads (nil_literal line) k c a b e x = x
plain_reads (true_literal line) k c a b e x = x
plain_reads (false_literal line) k c a b e x = x
plain_reads (text_literal line text) k c a b e x = x
plain_reads e k c a b is x = cc

literal_reads : (e : Expression) (k : Constant) (c : Context) (a b : Ahead) → literal e ≡ Some k → ExpressionFits e c a b → b ≡ a
literal_reads e k c a b is x = go (fold e) refl is
  where
    go : (o : Option ℤ) → fold e ≡ o → number_or o (plain_literal e) ≡ Some k → b ≡ a
    go (Some n) f i = fold_reads e n c a b f x
    go None f i = plain_reads e k c a b i x

name_reads : (e : Expression) (c : Context) (a b : Ahead) → is_name e ≡ true → ExpressionFits e c a b → NameAt c a b
name_reads (parenthesized line e) c a b is x = name_reads e c a b is x
name_reads (name_expression line text) c a b is x = x
name_reads e c a b is x = cc

pub reads_names : (e : Expression) → ReadsNames e (ExpressionFits e)
reads_names e = record { literal_reads = λ k c a b i x. literal_reads e k c a b i x; name_reads = λ c a b i x. name_reads e c a b i x }

pub function_reads_names : (line : ℕ) (body : FunctionBody) (i : Fitting) → ReadsNames (function_expression line body) i
function_reads_names line body i = record { literal_reads = λ k c a b e x. cc; name_reads = λ c a b e x. cc }

-- ---- an expression by its value alone

-- an expression by its value alone
abbrev pub alone : Expression → (ℕ → Part) → Coded
alone e to = record { e = e; to_reg = λ r. freeing (to r); jump_if = λ truth label m. m; spine = λ m. m; multi = plain_multi; target = no_target }

test_free : (o : Option Constant) (line : ℕ) (c : Coded) (t : Bool) (label : ℕ) (m : Maker) → (test_by o line c t label m).free ≡ m.free
test_free (Some k) line c t label m = when_free (beq t (is_true_constant k)) line label m
test_free None line c t label m = refl

pub single_free : (line : ℕ) (e : Expression) (to : ℕ → Part) (t : Bool) (label : ℕ) (m : Maker) → ((single line e to).jump_if t label m).free ≡ m.free
single_free line e to t label m = test_free (literal e) line (alone e to) t label m

module _ (line : ℕ) (e : Expression) (to : ℕ → Part) (i : Fitting) (t : ValueLeads to i) (z : ReadsNames e i) where
  to_freed : ValueLeads (λ r. freeing (to r)) i
  to_freed r m g b s x l k = freed m g (to r) b s.room (t r m g b s x l k)

  alone_value : KeepsValue (alone e to) i
  alone_value = record { to_reg = to_freed; to_free = λ r m. refl; literal_reads = z.literal_reads; name_reads = z.name_reads }

  pub single_value : KeepsValue (single line e to) i
  single_value = record { to_reg = to_freed; to_free = λ r m. refl; literal_reads = z.literal_reads; name_reads = z.name_reads }

  pub single_jump : (t : Bool) → JumpsLead ((single line e to).jump_if t) i
  single_jump t label m g b s x l w = test_by_leads (literal e) line (alone e to) i alone_value refl t label m g b s x l w

  pub single_spine : PartLeads (single line e to).spine i
  single_spine m g b s x = (next_takes (alone e to) i alone_value m g b s x).leads

  pub single_keeps : is_multiple e ≡ false → is_target e ≡ false → Keeps (single line e to) i
  single_keeps one none = record {
    value = single_value;
    jump_if = single_jump;
    jump_free = single_free line e to;
    spine = single_spine;
    spine_free = λ m. omega arith;
    spine_high = λ m. omega arith;
    multi = λ y. absurd (true≢false (sym y ∙ one));
    multi_room = λ y. absurd (true≢false (sym y ∙ one));
    target = λ y. absurd (true≢false (sym y ∙ none));
  }

-- ---- literals

pub nil_leads : (line : ℕ) → ValueLeads (λ r. put line (Piece.Abc Op.LoadNil r r 0)) Nothing
nil_leads line r m g b s x l k =
    let d = put_on line (Piece.Abc Op.LoadNil r r 0) m g None s refl
    (record { first = l; ordered = le-leb r r (omega arith); registers = (l, (l, tt)); fields = tt; constant = tt; upvalues = tt; small = inl (omega arith); extra = tt; spares = λ y z. between y (nat_le r y) refl z }) tt refl in
    leads_as d (sym x)
  where
    between : (y : ℕ) (t : Bool) → nat_le r y ≡ t → (t && nat_le y r) ≡ true → kind_at (locals_of m.active) y ≡ 0
    between y true e z = subst (λ q. kind_at (locals_of m.active) q ≡ 0) (let a = leb-true r y e in let c = leb-true y r z in omega (arith, a, c)) k
    between y false e z = absurd (true≢false (sym z))

pub bool_leads : (line b : ℕ) → ValueLeads (λ r. put line (Piece.Abc Op.LoadBool r b 0)) Nothing
bool_leads line v r m g b s x l k =
    let d = put_on line (Piece.Abc Op.LoadBool r v 0) m g None s refl
    (record { first = l; ordered = refl; registers = (l, tt); fields = tt; constant = tt; upvalues = tt; small = inl (omega arith); extra = tt; spares = λ y z. one_written (locals_of m.active) r y k z }) tt refl in
    leads_as d (sym x)

pub load_leads : (line : ℕ) (c : Constant) → ValueLeads (λ r. load line r c) Nothing
load_leads line c r m g b s x l k = let d = loads line r c m g s l k in leads_as d (sym x)

-- ---- names

read_leads : (line r : ℕ) (text : Text) (w : Where) (m : Maker) (g : Ghost) → State m g None → WhereHolds m g w → r < g.size → kind_at (locals_of m.active) r ≡ 0 → Leads m g (read_where line r text w m) None m.ahead
read_leads line r text (in_register x) m g s w l k = put_on line (Piece.Abc Op.Move r x 0) m g None s refl
    (record { first = l; ordered = refl; registers = (l, (w.0, tt)); fields = tt; constant = tt; upvalues = tt; small = inl (omega arith); extra = tt; spares = λ y z. one_written (locals_of m.active) r y k z }) tt refl
read_leads line r text (in_upvalue slot) m g s w l k = put_on line (Piece.Abc Op.GetUpval r slot 0) m g None s refl
    (record { first = l; ordered = refl; registers = (l, tt); fields = tt; constant = tt; upvalues = (w, tt); small = inl (omega arith); extra = tt; spares = λ y z. one_written (locals_of m.active) r y k z }) tt refl
read_leads line r text in_globals m g s w l k =
    let d = constant_leads (Constant.Text text) s in
    let n = (constant (Constant.Text text) m).after in
    let within : r < d.ghost.size = (let q = d.onward.larger in omega (arith, q, l)) in
    leads_then d (put_on line (Piece.Abx Op.GetGlobal r (constant_number (Constant.Text text) m.constants)) n d.ghost None d.state refl
    (record { first = within; ordered = refl; registers = (within, tt); fields = tt; constant = record { text = text; is = constant_stands (Constant.Text text) m.constants }; upvalues = tt; small = inl (omega arith); extra = tt; spares = λ y z. one_written (locals_of m.active) r y k z }) tt refl)

name_leads : (line : ℕ) (text : Text) → ValueLeads (name_value line text) NameAt
name_leads line text r m g b s x l k =
    let d = pass_leads s in
    let w = where_holds (head_or global_use m.ahead.names) m g None s x.use_fits in
    let e = read_leads line r text (next_name m) (pass_name m) d.ghost d.state (where_later (next_name m) d w) (let q = d.onward.larger in omega (arith, q, l)) k in
    leads_as (leads_then d e) (sym x.passed)

pub name_keeps : (line : ℕ) (text : Text) (e : Expression) → ReadsNames e NameAt → is_multiple e ≡ false → Keeps (record (single line e (name_value line text)) { target = λ m. record { value = name_target text (next_name m); after = pass_name m } }) NameAt
name_keeps line text e z one =
    let t = name_leads line text in
    record {
      value = (let c = single_value line e (name_value line text) NameAt t z in record { to_reg = c.to_reg; to_free = λ r m. refl; literal_reads = c.literal_reads; name_reads = c.name_reads });
      jump_if = single_jump line e (name_value line text) NameAt t z;
      jump_free = single_free line e (name_value line text);
      spine = single_spine line e (name_value line text) NameAt t z;
      spine_free = λ m. omega arith;
      spine_high = λ m. omega arith;
      multi = λ y. absurd (true≢false (sym y ∙ one));
      multi_room = λ y. absurd (true≢false (sym y ∙ one));
      target = λ y m g b s x. (let d = pass_leads s in record { leads = leads_as d (sym x.passed); ok = where_later (next_name m) d (where_holds (head_or global_use m.ahead.names) m g None s x.use_fits) });
    }

-- ---- what is indexed

indexed_leads : (line : ℕ) (on : Coded) (key : Asks ℕ) (i j : Fitting) → Keeps on i → AskGives key j → ValueLeads (indexed_value line on key) (Both i j)
indexed_leads line on key i j f k r m g b s x l e =
    let t = register_and_operand (operand on) key i j (operand_takes on i f.value) k m g b s x in
    let n = (key (operand on m).after).after in
    let y = (key (operand on m).after).value in
    let within : r < t.leads.ghost.size = (let q = t.leads.onward.larger in omega (arith, q, l)) in
    leads_on t.leads (put_on line (Piece.Abc Op.GetTable r (operand on m).value y) n t.leads.ghost None t.leads.state refl
    (record { first = within; ordered = refl; registers = (within, (t.first, tt)); fields = (t.second, tt); constant = tt; upvalues = tt; small = field_small t.second; extra = tt; spares = λ y z. one_written (locals_of n.active) r y (later_kind r t.leads e) z }) tt refl)

pub indexed_keeps : (line : ℕ) (e : Expression) (on : Coded) (key : Asks ℕ) (i j : Fitting) (local : Maker → Bool) → Keeps on i → AskGives key j → ReadsNames e (Both i j) → is_multiple e ≡ false → Keeps (record (single line e (indexed_value line on key)) { target = indexed_target on key local }) (Both i j)
indexed_keeps line e on key i j local f k z one =
    let t = indexed_leads line on key i j f k in
    record {
      value = (let c = single_value line e (indexed_value line on key) (Both i j) t z in record { to_reg = c.to_reg; to_free = λ r m. refl; literal_reads = c.literal_reads; name_reads = c.name_reads });
      jump_if = single_jump line e (indexed_value line on key) (Both i j) t z;
      jump_free = single_free line e (indexed_value line on key);
      spine = single_spine line e (indexed_value line on key) (Both i j) t z;
      spine_free = λ m. omega arith;
      spine_high = λ m. omega arith;
      multi = λ y. absurd (true≢false (sym y ∙ one));
      multi_room = λ y. absurd (true≢false (sym y ∙ one));
      target = λ y m g b s x. (let t = register_and_operand (operand on) key i j (operand_takes on i f.value) k m g b s x in record { leads = t.leads; ok = (t.first, t.second) });
    }

keeps_as : (c : Coded) (i j : Fitting) → Keeps c i → ((x : Context) (a b : Ahead) → j x a b → i x a b) → ReadsNames c.e j → Keeps c j
keeps_as c i j f w z = record {
  value = record { to_reg = λ r m g b s x. f.value.to_reg r m g b s (w (context m g) m.ahead b x); to_free = f.value.to_free; literal_reads = z.literal_reads; name_reads = z.name_reads };
  jump_if = λ t label m g b s x. f.jump_if t label m g b s (w (context m g) m.ahead b x);
  jump_free = f.jump_free;
  spine = λ m g b s x. f.spine m g b s (w (context m g) m.ahead b x);
  spine_free = f.spine_free;
  spine_high = f.spine_high;
  multi = λ y op want m g b is o s x. f.multi y op want m g b is o s (w (context m g) m.ahead b x);
  multi_room = f.multi_room;
  target = λ y m g b s x. f.target y m g b s (w (context m g) m.ahead b x);
}

-- a field's parts read what is indexed alone
pub field_keeps : (line : ℕ) (e : Expression) (on : Coded) (text : Text) (i : Fitting) → Keeps on i → ((i : Fitting) → ReadsNames e i) → is_multiple e ≡ false → Keeps (coded_field line e on text) i
field_keeps line e on text i f z one = keeps_as (coded_field line e on text) (Both i Nothing) i (indexed_keeps line e on (rk_text line text) i Nothing (λ m. false) f (text_asks line text) (z (Both i Nothing)) one) (λ x a b y. record { mid = b; first = y; second = refl }) (z i)

pub field_reads_names : (line : ℕ) (on : Expression) (text : Text) (i : Fitting) → ReadsNames (field_expression line on text) i
field_reads_names line on text i = record { literal_reads = λ k c a b e x. cc; name_reads = λ c a b e x. cc }

-- ---- parentheses

pub paren_keeps : (e : Expression) (c : Coded) (i : Fitting) → Keeps c i → ReadsNames e i → is_multiple e ≡ false → is_target e ≡ false → Keeps (coded_paren e c) i
paren_keeps e c i f z one none = record {
  value = record { to_reg = f.value.to_reg; to_free = f.value.to_free; literal_reads = z.literal_reads; name_reads = z.name_reads };
  jump_if = f.jump_if;
  jump_free = f.jump_free;
  spine = λ m g b s x. (next_takes c i f.value m g b s x).leads;
  spine_free = λ m. (let e = f.value.to_free m.free m in omega (arith, e));
  spine_high = λ m. omega arith;
  multi = λ y. absurd (true≢false (sym y ∙ one));
  multi_room = λ y. absurd (true≢false (sym y ∙ one));
  target = λ y. absurd (true≢false (sym y ∙ none));
}
