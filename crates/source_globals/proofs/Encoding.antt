-- The words of a finished function use what their pieces use, and further words belong to them as to their pieces.
use Rattle.std.proofs.Common.{◌≡◌, ◌≤◌, ◌<◌, ℕ, zero, suc, ◌+◌, ◌*◌, ◌/◌, ◌%◌, Bool, true, false, List, [], ◌∷◌, refl, sym, ap, ◌∙◌, subst, arith}
use Rattle.std.specs.Prelude.{Option, Some, None, ◌&&◌, ◌==◌, slice_get, get_or, pos, if◌then◌else◌}
use Rattle.lua_num.specs.Bytes.{Text}
use Rattle.opcode.specs.declared.op.Op.{Op}
use Rattle.opcode.specs.declared.op.Format.{Format}
use Rattle.opcode.specs.declared.word.Instr.{Instr}
use Rattle.opcode.specs.Word.{op_number, format_of, excess_of, operands_of, word_of, abc, abx, asbx}
use Rattle.opcode.specs.Reading.{instr_of, fields}
use Rattle.opcode.proofs.WordReading.{read_as}
use Rattle.proto.specs.Chunk.{Functions, function_at}
use Rattle.proto.specs.declared.parts.Constant.{Constant}
use Rattle.rules.specs.Places.{belonging, further_from, upvalue_count}
use Rattle.scheme.specs.Functions.{word_at, words_from, distance}
use Rattle.scheme.specs.declared.making.Piece.{Piece}
use Rattle.scheme.specs.declared.making.Item.{Item}
use Rattle.global_use.specs.Uses.{is_get, is_set, is_name, is_use, uses_in}
use Rattle.source_globals.specs.Named.{Role, gets_it, sets_it, is_role}
use Rattle.source_globals.proofs.Owed.{one_if}
use Rattle.source_globals.proofs.Pieces.{does, is_plain, abx_use, piece_use, abc_takes, abx_takes, takes, AbcReads, AbxReads, Reads, items_use, AreRead}

op_small : (op : Op) → op_number op < 38
op_small Op.Move = omega arith
op_small op = omega arith

operands_high : (f : Format) (i : Instr) → (k : ℕ) × (operands_of f i ≡ 16384 * k)
operands_high Format.Abc i = (i.c + 512 * i.b, omega arith)
operands_high Format.Abx i = (i.bx, refl)
operands_high Format.Asbx i = (excess_of i.sbx, refl)

-- whatever the fields are, the opcode is read
op_read : (i : Instr) → instr_of (word_of i) ≡ Some (fields i.op (format_of i.op) (word_of i))
op_read i =
    let high = operands_high (format_of i.op) i in
    let small = op_small i.op in
    let e = high.1 in
    read_as i.op (format_of i.op) (word_of i) (omega (arith, small, e)) refl

-- what is read of a word whose piece needs nothing
plain_belongs : (inner : Functions) (op : Op) (w : ℕ) → is_plain op ≡ true → belonging inner (Some (fields op (format_of op) w)) ≡ 0
plain_belongs inner Op.GetGlobal w e = cc
plain_belongs inner Op.SetGlobal w e = cc
plain_belongs inner Op.Closure w e = cc
plain_belongs inner Op.SetList w e = cc
plain_belongs inner op w e = refl

plain_gets : (cs : List Constant) (name : Text) (op : Op) (w : ℕ) → is_plain op ≡ true → one_if (is_use is_get cs name (Some (fields op (format_of op) w))) ≡ 0
plain_gets cs name Op.GetGlobal w e = cc
plain_gets cs name Op.SetGlobal w e = cc
plain_gets cs name Op.Closure w e = cc
plain_gets cs name Op.SetList w e = cc
plain_gets cs name op w e = refl

plain_sets : (cs : List Constant) (name : Text) (op : Op) (w : ℕ) → is_plain op ≡ true → one_if (is_use is_set cs name (Some (fields op (format_of op) w))) ≡ 0
plain_sets cs name Op.GetGlobal w e = cc
plain_sets cs name Op.SetGlobal w e = cc
plain_sets cs name Op.Closure w e = cc
plain_sets cs name Op.SetList w e = cc
plain_sets cs name op w e = refl

plain_uses : (role : Role) (cs : List Constant) (name : Text) (op : Op) (w : ℕ) → is_plain op ≡ true → one_if (is_use (does role) cs name (Some (fields op (format_of op) w))) ≡ 0
plain_uses gets_it cs name op w e = plain_gets cs name op w e
plain_uses sets_it cs name op w e = plain_sets cs name op w e

-- a word is read as its piece says
record IsRead (role : Role) (name : Text) (cs : List Constant) (inner : Functions) (w : ℕ) (piece : Piece) : Type 0 where
  more : belonging inner (instr_of w) ≡ takes inner piece
  used : one_if (is_use (does role) cs name (instr_of w)) ≡ piece_use role name cs piece

module _ (role : Role) (name : Text) (cs : List Constant) (inner : Functions) where
  plain_more : (i : Instr) → is_plain i.op ≡ true → belonging inner (instr_of (word_of i)) ≡ 0
  plain_more i e = ap (belonging inner) (op_read i) ∙ plain_belongs inner i.op (word_of i) e

  plain_used : (i : Instr) → is_plain i.op ≡ true → one_if (is_use (does role) cs name (instr_of (word_of i))) ≡ 0
  plain_used i e = ap (λ x. one_if (is_use (does role) cs name x)) (op_read i) ∙ plain_uses role cs name i.op (word_of i) e

  set_list_read : (a b c : ℕ) → a < 256 → c < 512 → IsRead role name cs inner (abc Op.SetList a b c) (Piece.Abc Op.SetList a b c)
  set_list_read a b c ha hc =
      let w = 34 + 64 * a + (16384 * c + 8388608 * b) in
      let is : w / 16384 % 512 ≡ c = omega (arith, ha, hc) in
      let e = read_as Op.SetList Format.Abc w (omega arith) refl in
      record { more = ap (belonging inner) e ∙ ap (λ c. one_if (c == 0)) is; used = ap (λ x. one_if (is_use (does role) cs name x)) e ∙ no_use role }
    where
      no_use : (role : Role) → one_if (is_use (does role) cs name (Some (fields Op.SetList Format.Abc (34 + 64 * a + (16384 * c + 8388608 * b))))) ≡ 0
      no_use gets_it = refl
      no_use sets_it = refl

  abc_is_read : (op : Op) (a b c : ℕ) → AbcReads op a c → IsRead role name cs inner (abc op a b c) (Piece.Abc op a b c)
  abc_is_read Op.SetList a b c (ha, hc) = set_list_read a b c ha hc
  abc_is_read Op.GetGlobal a b c e = cc
  abc_is_read Op.SetGlobal a b c e = cc
  abc_is_read Op.Closure a b c e = cc
  abc_is_read op a b c e = record { more = plain_more (record { op = op; a = a; b = b; c = c; bx = 0; sbx = pos 0 }) e; used = plain_used (record { op = op; a = a; b = b; c = c; bx = 0; sbx = pos 0 }) e }

  get_read : (a k : ℕ) → a < 256 → IsRead role name cs inner (abx Op.GetGlobal a k) (Piece.Abx Op.GetGlobal a k)
  get_read a k ha =
      let w = 5 + 64 * a + 16384 * k in
      let is : w / 16384 ≡ k = omega (arith, ha) in
      let e = read_as Op.GetGlobal Format.Abx w (omega arith) refl in
      record { more = ap (belonging inner) e; used = ap (λ x. one_if (is_use (does role) cs name x)) e ∙ by role ∙ ap (λ k. one_if (is_role role gets_it && is_name name (slice_get cs k))) is }
    where
      by : (role : Role) → one_if (does role Op.GetGlobal && is_name name (slice_get cs ((5 + 64 * a + 16384 * k) / 16384))) ≡ one_if (is_role role gets_it && is_name name (slice_get cs ((5 + 64 * a + 16384 * k) / 16384)))
      by gets_it = refl
      by sets_it = refl

  set_read : (a k : ℕ) → a < 256 → IsRead role name cs inner (abx Op.SetGlobal a k) (Piece.Abx Op.SetGlobal a k)
  set_read a k ha =
      let w = 7 + 64 * a + 16384 * k in
      let is : w / 16384 ≡ k = omega (arith, ha) in
      let e = read_as Op.SetGlobal Format.Abx w (omega arith) refl in
      record { more = ap (belonging inner) e; used = ap (λ x. one_if (is_use (does role) cs name x)) e ∙ by role ∙ ap (λ k. one_if (is_role role sets_it && is_name name (slice_get cs k))) is }
    where
      by : (role : Role) → one_if (does role Op.SetGlobal && is_name name (slice_get cs ((7 + 64 * a + 16384 * k) / 16384))) ≡ one_if (is_role role sets_it && is_name name (slice_get cs ((7 + 64 * a + 16384 * k) / 16384)))
      by gets_it = refl
      by sets_it = refl

  closure_read : (a k : ℕ) → a < 256 → IsRead role name cs inner (abx Op.Closure a k) (Piece.Abx Op.Closure a k)
  closure_read a k ha =
      let w = 36 + 64 * a + 16384 * k in
      let is : w / 16384 ≡ k = omega (arith, ha) in
      let e = read_as Op.Closure Format.Abx w (omega arith) refl in
      record { more = ap (belonging inner) e ∙ ap (λ k. upvalue_count (function_at inner k)) is; used = ap (λ x. one_if (is_use (does role) cs name x)) e ∙ no_use role }
    where
      no_use : (role : Role) → one_if (is_use (does role) cs name (Some (fields Op.Closure Format.Abx (36 + 64 * a + 16384 * k)))) ≡ 0
      no_use gets_it = refl
      no_use sets_it = refl

  abx_is_read : (op : Op) (a k : ℕ) → AbxReads op a → IsRead role name cs inner (abx op a k) (Piece.Abx op a k)
  abx_is_read Op.GetGlobal a k h = get_read a k h
  abx_is_read Op.SetGlobal a k h = set_read a k h
  abx_is_read Op.Closure a k h = closure_read a k h
  abx_is_read Op.SetList a k e = cc
  abx_is_read op a k e = record { more = plain_more (record { op = op; a = a; b = 0; c = 0; bx = k; sbx = pos 0 }) e; used = plain_used (record { op = op; a = a; b = 0; c = 0; bx = k; sbx = pos 0 }) e }

  piece_is_read : (labels : List ℕ) (pc : ℕ) (piece : Piece) → Reads piece → IsRead role name cs inner (word_at labels pc piece) piece
  piece_is_read labels pc (Piece.Abc op a b c) h = abc_is_read op a b c h
  piece_is_read labels pc (Piece.Abx op a bx) h = abx_is_read op a bx h
  piece_is_read labels pc (Piece.Jump op a label) e =
      let i : Instr = record { op = op; a = a; b = 0; c = 0; bx = 0; sbx = distance pc (get_or labels label 0) } in
      record { more = plain_more i e; used = plain_used i e }
  piece_is_read labels pc (Piece.Bare n) h = absurd h

  pub words_use : (labels : List ℕ) (pc n : ℕ) (items : List Item) → AreRead inner n items →
      uses_in (does role) cs name (further_from inner n (words_from labels pc items)) (words_from labels pc items) ≡ items_use role name cs inner n items
  words_use labels pc n [] h = refl
  words_use labels pc zero (x ∷ xs) h =
      let w = word_at labels pc x.piece in
      let r = piece_is_read labels pc x.piece h.0 in
      let rest = words_from labels (suc pc) xs in
      let used = r.used in
      let more = ap (λ k. uses_in (does role) cs name (further_from inner k rest) rest) r.more in
      let others = words_use labels (suc pc) (takes inner x.piece) xs h.1 in
      omega (arith, used, more, others)
  words_use labels pc (suc n) (x ∷ xs) h = words_use labels (suc pc) n xs h
