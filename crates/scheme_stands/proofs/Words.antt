-- The words of the relation are read as the instructions that their pieces name: their fields are in range, and they are no further
-- words. So they stand with the law asked.
use Rattle.std.proofs.Common.{◌≡◌, ◌≤◌, ◌<◌, ℕ, zero, suc, ◌+◌, ◌-◌, ◌/◌, ◌%◌, Bool, true, false, not, List, [], ◌∷◌, length, refl, sym, ap, ◌∙◌, subst, arith}
use Rattle.std.specs.Prelude.{Some, ℤ, pos, negsuc, ◌≤ℤ◌, neg_ℤ, unsigned_abs, slice_get, get_or, ◌==◌, nat_le, if◌then◌else◌}
use Rattle.std.proofs.lemmas.Bool.{leb-true, eqb-true}
use Rattle.std.proofs.lemmas.Int.{ints}
use Rattle.lua_num.specs.Bytes.{Text}
use Rattle.lua_tree.specs.declared.tree.BinaryOp.{BinaryOp}
use Rattle.lua_tree.specs.declared.tree.UnaryOp.{UnaryOp}
use Rattle.lua_tree.specs.Scoping.{Use}
use Rattle.opcode.specs.declared.op.Op.{Op}
use Rattle.opcode.specs.declared.op.Format.{Format}
use Rattle.opcode.specs.declared.word.Instr.{Instr}
use Rattle.opcode.specs.Word.{format_of, InRange, FieldsFit, abc, truth_field}
use Rattle.opcode.specs.Reading.{instr_of}
use Rattle.opcode.proofs.WordReading.{word_is_read, read_as, same_fields}
use Rattle.proto.specs.Chunk.{Chunk, Functions, no_functions, and_function, function_at, function_count, own}
use Rattle.proto.specs.declared.parts.Constant.{Constant}
use Rattle.rules.specs.Places.{further_from, belonging, belonging_to, upvalue_count}
use Rattle.scheme.specs.Expressions.{comparison_word, unary_word}
use Rattle.scheme.specs.Functions.{distance, further_word}
use Rattle.scheme.specs.Making.{Where, where_is, in_register, in_upvalue, in_globals}
use Rattle.scheme.specs.declared.making.Active.{Active}
use Rattle.scheme.specs.declared.making.Piece.{Piece}
use Rattle.scheme_stands.specs.Words.{Names, Fn, Spot, Same, WordAt, ConstantWord, JumpOn, IsRead, Plain, asking, number_at, instr_by, IsCaptured, CapturedBy}
use Rattle.scheme_stands.specs.Lists.{SetListBy, SetListAt, SetListIf}
use Rattle.scheme_stands.specs.Functions.{FurtherWordAt, FurtherAt, Limits}
use Rattle.scheme_stands.specs.Statements.{CloseAt}
use Rattle.scheme_stands.proofs.Locals.{inside_of_list}
use Rattle.scheme_stands.proofs.Small.{Setting, where_low}

-- what stands by the law, and behind it no further word
pub record Lifted (f : Fn) (P : Type 0) (q : Spot) : Type 0 where
  pub is : P
  pub plain : Plain f q.pc

-- ---- behind a word, and the words that belong to it, stands no further word

pending_ends : (inner : Functions) (k : ℕ) (code : List ℕ) → get_or (further_from inner k code) k false ≡ false
pending_ends inner zero [] = refl
pending_ends inner zero (w ∷ code) = refl
pending_ends inner (suc k) [] = refl
pending_ends inner (suc k) (w ∷ code) = pending_ends inner k code

plain_after : (inner : Functions) (code : List ℕ) (n pc w k : ℕ) → slice_get code pc ≡ Some w → belonging inner (instr_of w) ≡ k → get_or (further_from inner n code) pc false ≡ false → get_or (further_from inner n code) (suc pc + k) false ≡ false
plain_after inner [] n pc w k e b h = cc
plain_after inner (x ∷ code) zero zero w k e b h =
    let same : x ≡ w = cc in
    let sum : suc zero + k ≡ suc k = omega arith in
    ap (λ i. get_or (further_from inner zero (x ∷ code)) i false) sum
    ∙ ap (λ i. get_or (further_from inner i code) k false) (ap (λ y. belonging inner (instr_of y)) same ∙ b)
    ∙ pending_ends inner k code
plain_after inner (x ∷ code) zero (suc pc) w k e b h =
    let sum : suc (suc pc) + k ≡ suc (suc pc + k) = omega arith in
    ap (λ i. get_or (further_from inner zero (x ∷ code)) i false) sum ∙ plain_after inner code (belonging inner (instr_of x)) pc w k e b h
plain_after inner (x ∷ code) (suc n) zero w k e b h = cc
plain_after inner (x ∷ code) (suc n) (suc pc) w k e b h =
    let sum : suc (suc pc) + k ≡ suc (suc pc + k) = omega arith in
    ap (λ i. get_or (further_from inner (suc n) (x ∷ code)) i false) sum ∙ plain_after inner code n pc w k e b h

-- where a function begins
pub plain_first : (f : Fn) (p : Spot) → p.pc ≡ 0 → Plain f p.pc
plain_first f p e = subst (Plain f) (sym e) (pending_ends f.functions 0 f.code)

plain_behind : (f : Fn) (w : Piece) (k : ℕ) (p : Spot) (pc : ℕ) → slice_get f.code p.pc ≡ Some (number_at p.pc w) → IsRead p.pc w → belonging f.functions (Some (instr_by p.pc w)) ≡ k → pc ≡ suc p.pc + k → Plain f p.pc → Plain f pc
plain_behind f w k p pc has is more next plain = subst (Plain f) (sym next) (plain_after f.functions f.code 0 p.pc (number_at p.pc w) k has (ap (belonging f.functions) is ∙ more) plain)

-- ---- the kinds of words

fits_as : (i : Instr) (f : Format) → format_of i.op ≡ f → i.a < 256 → FieldsFit f i → InRange i
fits_as i f e a h = record { a = a; others = subst (λ g. FieldsFit g i) (sym e) h }

-- the opcode of a word with this format, to which no further word belongs
pub record Alone (format : Format) (op : Op) : Type 0 where
  pub is : format_of op ≡ format
  pub none : (inner : Functions) (i : Instr) → belonging_to inner op i ≡ 0

-- opcodes of words with fields A, B and C, to which no further word belongs
abbrev pub has_fields : Op → Bool
has_fields Op.LoadK = false
has_fields Op.GetGlobal = false
has_fields Op.SetGlobal = false
has_fields Op.Jmp = false
has_fields Op.ForLoop = false
has_fields Op.ForPrep = false
has_fields Op.SetList = false
has_fields Op.Closure = false
has_fields op = true

pub alone : (op : Op) → has_fields op ≡ true → Alone Format.Abc op
alone Op.LoadK h = cc
alone Op.GetGlobal h = cc
alone Op.SetGlobal h = cc
alone Op.Jmp h = cc
alone Op.ForLoop h = cc
alone Op.ForPrep h = cc
alone Op.SetList h = cc
alone Op.Closure h = cc
alone op h = record { is = refl; none = λ inner i. refl }

pub unary_alone : (op : UnaryOp) → Alone Format.Abc (unary_word op)
unary_alone UnaryOp.Neg = record { is = refl; none = λ inner i. refl }
unary_alone UnaryOp.Not = record { is = refl; none = λ inner i. refl }
unary_alone UnaryOp.Len = record { is = refl; none = λ inner i. refl }

near_low : (d : ℤ) → unsigned_abs d ≤ 131071 → neg_ℤ (pos 131071) ≤ℤ d
near_low (pos n) h = omega (arith, ints)
near_low (negsuc n) h = omega (arith, ints, h)

near_high : (d : ℤ) → unsigned_abs d ≤ 131071 → d ≤ℤ pos 131072
near_high (pos n) h = omega (arith, ints, h)
near_high (negsuc n) h = omega (arith, ints)

function_counted : (fs : Functions) (n : ℕ) (c : Chunk) → function_at fs n ≡ Some c → n < function_count fs
function_counted no_functions n c h = cc
function_counted (and_function d fs) zero c h = omega arith
function_counted (and_function d fs) (suc n) c h = let l = function_counted fs n c h in omega (arith, l)

pub truth_small : (t : Bool) → truth_field t ≤ 1
truth_small true = omega arith
truth_small false = omega arith

-- a NEWTABLE by the hints that are read back from its number
read_hints : (a b c : ℕ) → a < 256 → (x : ℕ) × (y : ℕ) × (abc Op.NewTable a x y ≡ abc Op.NewTable a b c) × (instr_of (abc Op.NewTable a b c) ≡ Some (record { op = Op.NewTable; a = a; b = x; c = y; bx = 0; sbx = pos 0 }))
read_hints a b c h =
    let number = abc Op.NewTable a b c in
    let in_a : number / 64 % 256 ≡ a = omega (arith, h) in (
      number / 8388608,
      number / 16384 % 512,
      omega (arith, h),
      read_as Op.NewTable Format.Abc number (omega arith) refl ∙ ap Some (same_fields Op.NewTable _ _ _ _ _ _ _ _ _ _ in_a refl refl refl refl),
    )

block_not_none : (d : ℕ) → ((d + 1) == 0) ≡ false
block_not_none d = by ((d + 1) == 0) refl
  where
    by : (t : Bool) → ((d + 1) == 0) ≡ t → t ≡ false
    by true e = let none = eqb-true (d + 1) 0 e in absurd (omega (arith, none))
    by false e = refl

module _ (n : Names) (f : Fn) where
  pub same_lift : (p q : Spot) → Plain f p.pc → Same p q → Lifted f (Same p q) q
  same_lift p q plain t = record { is = t; plain = subst (Plain f) (sym t.pc) plain }

  pub abc_lift : (op : Op) (a b c : ℕ) → Alone Format.Abc op → a < 256 → b < 512 → c < 512 → (p q : Spot) → Plain f p.pc → WordAt f (Piece.Abc op a b c) p q → Lifted f (WordAt (asking n f) (Piece.Abc op a b c) p q) q
  abc_lift op a b c alone ha hb hc p q plain t =
      let i : Instr = record { op = op; a = a; b = b; c = c; bx = 0; sbx = pos 0 } in
      let read : IsRead p.pc (Piece.Abc op a b c) = word_is_read i (fits_as i Format.Abc alone.is ha (hb, hc, refl, refl)) in
      let next : q.pc ≡ suc p.pc + 0 = t.next ∙ (let e : suc p.pc ≡ suc p.pc + 0 = omega arith in e) in
      record {
        is = record { has = t.has; near = t.near; reads = record { is = read; plain = plain }; next = t.next; ahead = t.ahead; functions = t.functions };
        plain = plain_behind f (Piece.Abc op a b c) 0 p q.pc t.has read (alone.none f.functions i) next plain;
      }

  abx_lift : (op : Op) (a bx : ℕ) → Alone Format.Abx op → a < 256 → bx < 262144 → (p q : Spot) → Plain f p.pc → WordAt f (Piece.Abx op a bx) p q → Lifted f (WordAt (asking n f) (Piece.Abx op a bx) p q) q
  abx_lift op a bx alone ha hb p q plain t =
      let i : Instr = record { op = op; a = a; b = 0; c = 0; bx = bx; sbx = pos 0 } in
      let read : IsRead p.pc (Piece.Abx op a bx) = word_is_read i (fits_as i Format.Abx alone.is ha (refl, refl, hb, refl)) in
      let next : q.pc ≡ suc p.pc + 0 = t.next ∙ (let e : suc p.pc ≡ suc p.pc + 0 = omega arith in e) in
      record {
        is = record { has = t.has; near = t.near; reads = record { is = read; plain = plain }; next = t.next; ahead = t.ahead; functions = t.functions };
        plain = plain_behind f (Piece.Abx op a bx) 0 p q.pc t.has read (alone.none f.functions i) next plain;
      }

  pub jump_lift : (op : Op) (a place : ℕ) → Alone Format.Asbx op → a < 256 → (p q : Spot) → Plain f p.pc → WordAt f (Piece.Jump op a place) p q → Lifted f (WordAt (asking n f) (Piece.Jump op a place) p q) q
  jump_lift op a place alone ha p q plain t =
      let i : Instr = record { op = op; a = a; b = 0; c = 0; bx = 0; sbx = distance p.pc place } in
      let read : IsRead p.pc (Piece.Jump op a place) = word_is_read i (fits_as i Format.Asbx alone.is ha (refl, refl, refl, near_low (distance p.pc place) t.near, near_high (distance p.pc place) t.near)) in
      let next : q.pc ≡ suc p.pc + 0 = t.next ∙ (let e : suc p.pc ≡ suc p.pc + 0 = omega arith in e) in
      record {
        is = record { has = t.has; near = t.near; reads = record { is = read; plain = plain }; next = t.next; ahead = t.ahead; functions = t.functions };
        plain = plain_behind f (Piece.Jump op a place) 0 p q.pc t.has read (alone.none f.functions i) next plain;
      }

  pub jmp_lift : (place : ℕ) (p q : Spot) → Plain f p.pc → WordAt f (Piece.Jump Op.Jmp 0 place) p q → Lifted f (WordAt (asking n f) (Piece.Jump Op.Jmp 0 place) p q) q
  jmp_lift place = jump_lift Op.Jmp 0 place (record { is = refl; none = λ inner i. refl }) (omega arith)

  pub jump_on_lift : (b : Bool) (label : ℕ) (p q : Spot) → Plain f p.pc → JumpOn f b label p q → Lifted f (JumpOn (asking n f) b label p q) q
  jump_on_lift true label p q plain t = jmp_lift label p q plain t
  jump_on_lift false label p q plain t = same_lift p q plain t

  pub constant_lift : (op : Op) (a : ℕ) (k : Constant) → Alone Format.Abx op → Limits f → a < 256 → (p q : Spot) → Plain f p.pc → ConstantWord f op a k p q → Lifted f (ConstantWord (asking n f) op a k p q) q
  constant_lift op a k alone l ha p q plain t =
      let m = l.constants in
      let inside = inside_of_list f.constants t.number k t.is in
      let w = abx_lift op a t.number alone ha (omega (arith, m, inside)) p q plain t.word in
      record { is = record { number = t.number; is = t.is; first = t.first; word = w.is }; plain = w.plain }

  -- a comparison of two operands
  pub comparison_lift : (op : BinaryOp) (truth : Bool) (x y : ℕ) → x < 512 → y < 512 → (p q : Spot) → Plain f p.pc → WordAt f (comparison_word op truth x y) p q → Lifted f (WordAt (asking n f) (comparison_word op truth x y) p q) q
  comparison_lift op truth x y hx hy p q plain t = by op t
    where
      eq_lift : (t : Bool) → WordAt f (Piece.Abc Op.Eq (truth_field t) x y) p q → Lifted f (WordAt (asking n f) (Piece.Abc Op.Eq (truth_field t) x y) p q) q
      eq_lift t w = let small = truth_small t in abc_lift Op.Eq (truth_field t) x y (alone Op.Eq refl) (omega (arith, small)) hx hy p q plain w

      lt_lift : (a b : ℕ) → a < 512 → b < 512 → WordAt f (Piece.Abc Op.Lt (truth_field truth) a b) p q → Lifted f (WordAt (asking n f) (Piece.Abc Op.Lt (truth_field truth) a b) p q) q
      lt_lift a b ha hb w = let small = truth_small truth in abc_lift Op.Lt (truth_field truth) a b (alone Op.Lt refl) (omega (arith, small)) ha hb p q plain w

      le_lift : (a b : ℕ) → a < 512 → b < 512 → WordAt f (Piece.Abc Op.Le (truth_field truth) a b) p q → Lifted f (WordAt (asking n f) (Piece.Abc Op.Le (truth_field truth) a b) p q) q
      le_lift a b ha hb w = let small = truth_small truth in abc_lift Op.Le (truth_field truth) a b (alone Op.Le refl) (omega (arith, small)) ha hb p q plain w

      by : (op : BinaryOp) → WordAt f (comparison_word op truth x y) p q → Lifted f (WordAt (asking n f) (comparison_word op truth x y) p q) q
      by BinaryOp.Ne w = eq_lift (not truth) w
      by BinaryOp.Lt w = lt_lift x y hx hy w
      by BinaryOp.Le w = le_lift x y hx hy w
      by BinaryOp.Gt w = lt_lift y x hy hx w
      by BinaryOp.Ge w = le_lift y x hy hx w
      by BinaryOp.Eq w = eq_lift truth w
      by BinaryOp.Add w = eq_lift truth w
      by BinaryOp.Sub w = eq_lift truth w
      by BinaryOp.Mul w = eq_lift truth w
      by BinaryOp.Div w = eq_lift truth w
      by BinaryOp.Rem w = eq_lift truth w
      by BinaryOp.Pow w = eq_lift truth w
      by BinaryOp.Concat w = eq_lift truth w

  -- NEWTABLE, whose hints may be out of range: those that are read back from its number are not
  pub new_table_lift : (a b c : ℕ) → a < 256 → (p q : Spot) → Plain f p.pc → WordAt f (Piece.Abc Op.NewTable a b c) p q → (x : ℕ) × (y : ℕ) × Lifted f (WordAt (asking n f) (Piece.Abc Op.NewTable a x y) p q) q
  new_table_lift a b c ha p q plain t =
      let r = read_hints a b c ha in
      let read : IsRead p.pc (Piece.Abc Op.NewTable a r.0 r.1) = ap instr_of r.2 ∙ r.3 in
      let has : slice_get f.code p.pc ≡ Some (abc Op.NewTable a r.0 r.1) = t.has ∙ ap Some (sym r.2) in
      let next : q.pc ≡ suc p.pc + 0 = t.next ∙ (let e : suc p.pc ≡ suc p.pc + 0 = omega arith in e) in (
        r.0,
        r.1,
        record {
          is = record { has = has; near = tt; reads = record { is = read; plain = plain }; next = t.next; ahead = t.ahead; functions = t.functions };
          plain = plain_behind f (Piece.Abc Op.NewTable a r.0 r.1) 0 p q.pc has read refl next plain;
        },
      )

  -- SETLIST, with its block or with the word behind it that is its block
  set_list_by : (small : Bool) (t k d : ℕ) → t < 256 → k < 512 → (small ≡ true → d + 1 ≤ 511) → (p q : Spot) → Plain f p.pc → SetListBy small f t k (d + 1) p q → Lifted f (SetListBy small (asking n f) t k (d + 1) p q) q
  set_list_by true t k d ht hk hb p q plain w =
      let block = hb refl in
      let i : Instr = record { op = Op.SetList; a = t; b = k; c = d + 1; bx = 0; sbx = pos 0 } in
      let read : IsRead p.pc (Piece.Abc Op.SetList t k (d + 1)) = word_is_read i (fits_as i Format.Abc refl ht (hk, omega (arith, block), refl, refl)) in
      let none : belonging f.functions (Some i) ≡ 0 = ap (λ b. if b then 1 else 0) (block_not_none d) in
      let next : q.pc ≡ suc p.pc + 0 = w.next ∙ (let e : suc p.pc ≡ suc p.pc + 0 = omega arith in e) in
      record {
        is = record { has = w.has; near = w.near; reads = record { is = read; plain = plain }; next = w.next; ahead = w.ahead; functions = w.functions };
        plain = plain_behind f (Piece.Abc Op.SetList t k (d + 1)) 0 p q.pc w.has read none next plain;
      }
  set_list_by false t k d ht hk hb p q plain w =
      let one = w.first_at in
      let other = w.second_at in
      let i : Instr = record { op = Op.SetList; a = t; b = k; c = 0; bx = 0; sbx = pos 0 } in
      let read : IsRead p.pc (Piece.Abc Op.SetList t k 0) = word_is_read i (fits_as i Format.Abc refl ht (hk, omega arith, refl, refl)) in
      let first_next = one.next in
      let other_next = other.next in
      let next : q.pc ≡ suc p.pc + 1 = omega (arith, first_next, other_next) in
      record {
        is = record {
          mid = w.mid;
          first_at = record { has = one.has; near = one.near; reads = record { is = read; plain = plain }; next = one.next; ahead = one.ahead; functions = one.functions };
          second_at = record { has = other.has; near = other.near; reads = tt; next = other.next; ahead = other.ahead; functions = other.functions };
        };
        plain = plain_behind f (Piece.Abc Op.SetList t k 0) 1 p q.pc one.has read refl next plain;
      }

  pub set_list_lift : (t k done : ℕ) → t < 256 → k < 512 → (p q : Spot) → Plain f p.pc → SetListAt f t k done p q → Lifted f (SetListAt (asking n f) t k done p q) q
  set_list_lift t k done ht hk p q plain w =
      set_list_by (nat_le ((done - 1) / 50 + 1) 511) t k ((done - 1) / 50) ht hk (leb-true ((done - 1) / 50 + 1) 511) p q plain w

  pub set_list_if_lift : (b : Bool) (t k done : ℕ) → t < 256 → k < 512 → (p q : Spot) → Plain f p.pc → SetListIf b f t k done p q → Lifted f (SetListIf b (asking n f) t k done p q) q
  set_list_if_lift true t k done ht hk p q plain w = set_list_lift t k done ht hk p q plain w
  set_list_if_lift false t k done ht hk p q plain w = same_lift p q plain w

  -- CLOSE, where a local is captured
  pub close_lift : (b : Bool) (register : ℕ) → (b ≡ true → register < 256) → (p q : Spot) → Plain f p.pc → CloseAt b f register p q → Lifted f (CloseAt b (asking n f) register p q) q
  close_lift true register h p q plain t = abc_lift Op.Close register 0 0 (alone Op.Close refl) (h refl) (omega arith) (omega arith) p q plain t
  close_lift false register h p q plain t = same_lift p q plain t

  -- ---- the words of a closure

  further_read : (w : Where) (active : List Active) (text : Text) (p : Spot) → length active ≤ 250 → ((r : ℕ) → w ≡ in_register r → r ≤ length active) → length n.upvalues ≤ 60 → IsCaptured n active text w → IsRead p.pc (further_word w)
  further_read (in_register r) active text p room low few c =
      let l = low r refl in
      let i : Instr = record { op = Op.Move; a = 0; b = r; c = 0; bx = 0; sbx = pos 0 } in
      word_is_read i (fits_as i Format.Abc refl (omega arith) (omega (arith, l, room), omega arith, refl, refl))
  further_read (in_upvalue slot) active text p room low few c =
      let l = inside_of_list n.upvalues slot text c.1 in
      let i : Instr = record { op = Op.GetUpval; a = 0; b = slot; c = 0; bx = 0; sbx = pos 0 } in
      word_is_read i (fits_as i Format.Abc refl (omega arith) (omega (arith, l, few), omega arith, refl, refl))
  further_read in_globals active text p room low few c = absurd c

  further_one : (one : Use) (active : List Active) (text : Text) (p q : Spot) → Setting n f → length active ≤ f.size → IsCaptured n active text (where_is one active) → FurtherWordAt f (further_word (where_is one active)) p q → FurtherWordAt (asking n f) (further_word (where_is one active)) p q
  further_one one active text p q s room c t =
      let m = s.limits in
      let l = m.registers in
      record { has = t.has; reads = further_read (where_is one active) active text p (omega (arith, l, room)) (λ r e. where_low one active r e) s.few c; next = t.next; ahead = t.ahead; functions = t.functions }

  pub further_lift : (uses : List Use) (active : List Active) (names : List Text) → Setting n f → length active ≤ f.size → CapturedBy n active names uses → (p q : Spot) → FurtherAt f active uses p q → FurtherAt (asking n f) active uses p q × (q.pc ≡ p.pc + length uses)
  further_lift [] active names s room c p q t = (t, t.pc ∙ (let e : p.pc ≡ p.pc + 0 = omega arith in e))
  further_lift (one ∷ uses) active [] s room c p q t = absurd c
  further_lift (one ∷ uses) active (text ∷ names) s room c p q t =
      let w = further_one one active text p t.mid s room c.0 t.first_at in
      let others = further_lift uses active names s room c.1 t.mid q t.second_at in
      let next = w.next in
      let count = others.1 in
      (record { mid = t.mid; first_at = w; second_at = others.0 }, omega (arith, next, count))

  -- the CLOSURE, and what its function makes of the words behind it
  pub closure_word_lift : (r number : ℕ) (chunk : Chunk) → Setting n f → r < 256 → function_at f.functions number ≡ Some chunk → (p q : Spot) → Plain f p.pc → WordAt f (Piece.Abx Op.Closure r number) p q →
      WordAt (asking n f) (Piece.Abx Op.Closure r number) p q × ((pc : ℕ) → pc ≡ q.pc + (own chunk).upvalues → Plain f pc)
  closure_word_lift r number chunk s hr is p q plain t =
      let m = s.limits in
      let l = m.functions in
      let inside = function_counted f.functions number chunk is in
      let i : Instr = record { op = Op.Closure; a = r; b = 0; c = 0; bx = number; sbx = pos 0 } in
      let read : IsRead p.pc (Piece.Abx Op.Closure r number) = word_is_read i (fits_as i Format.Abx refl hr (refl, refl, omega (arith, l, inside), refl)) in
      let more : belonging f.functions (Some i) ≡ (own chunk).upvalues = ap upvalue_count is in (
        record { has = t.has; near = t.near; reads = record { is = read; plain = plain }; next = t.next; ahead = t.ahead; functions = t.functions },
        λ pc e. plain_behind f (Piece.Abx Op.Closure r number) (own chunk).upvalues p pc t.has read more (e ∙ ap (λ k. k + (own chunk).upvalues) t.next) plain,
      )
