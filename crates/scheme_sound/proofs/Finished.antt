-- A finished function is sound: its notes are consistent, and no rule is broken under them.
use Rattle.std.proofs.Common.{◌≡◌, ◌≤◌, ◌<◌, ℕ, zero, suc, Bool, true, false, List, [], ◌∷◌, length, refl, sym, ap, ◌∙◌, arith, inl, cond, ◌⊎◌, subst, true≢false, nat_lt, inr, not, nat_le, leb-true, ◌-◌, ltb-true, ne_eqb, map, le-ltb, get_or}
use Rattle.std.specs.Prelude.{Option, None, ◌==◌, ◌&&◌, Some, slice_get, filter}
use Rattle.std.specs.List.{list_any}
use Rattle.std.proofs.lemmas.Bool.{cases_lt, lt-leb, and_right, false_from_ne_true}
use Rattle.std.proofs.lemmas.Option.{slice_get_within, slice_get_past}
use Rattle.opcode.specs.declared.op.Op.{Op}
use Rattle.opcode.specs.declared.op.Format.{Format}
use Rattle.opcode.specs.declared.word.Instr.{Instr}
use Rattle.opcode.specs.Reading.{instr_of}
use Rattle.opcode.specs.Word.{format_of}
use Rattle.proto.specs.Chunk.{Chunk, own, functions_of}
use Rattle.proto.specs.declared.parts.Constant.{Constant}
use Rattle.rules.specs.declared.rule.Rule.{Rule}
use Rattle.rules.specs.Words.{instr_at}
use Rattle.rules.specs.Places.{further_words, is_further, is_place, is_edge, is_pc, ways, words_of, named_further}
use Rattle.rules.specs.Notes.{Note, Notes, FollowsIn, IsStart, AsksLess, after}
use Rattle.rules.specs.Breaks.{upvalues_of, reaches, operands, names, has_order, breaks_register, constants_of, breaks_constant, breaks_upvalue, is_no_text, breaks_name, wants, left_before, is_unmet, breaks_results, allowed_flags, is_vararg_word, has_vararg, breaks_shape, instr_breaks, word_breaks, place_breaks, breaks}
use Rattle.rules.specs.Sound.{IsSound, AreSound, HasNotes}
use Rattle.rules.proofs.Lists.{both_false, and_second, reach_head, reach_tail, some_one, none_some}
use Rattle.rules.proofs.Further.{word_at as has_word}
use Rattle.scheme.specs.Making.{Maker}
use Rattle.scheme.specs.Functions.{misfits_of, word_at, register_count, vararg_flags, Heading, chunk_of}
use Rattle.scheme.specs.declared.making.Piece.{Piece}
use Rattle.scheme_sound.proofs.Ghosts.{loop_at, Ghost, AllBelow, IsConstant, AreOperands, ConstantFits, VarargFits, plain_instr, Meets, HasFormat, AllSound}
use Rattle.scheme_sound.proofs.Decoded.{Limits, limits_of, full_instr}
use Rattle.scheme_sound.proofs.Known.{Ready, Known, known, word_known}
use Rattle.scheme_sound.proofs.Standing.{left_is, further_known, no_further_is_place, code_long, instr_is, meets_full}
use Rattle.scheme_sound.proofs.RuleFacts.{note_of, loop_true}
use Rattle.scheme_sound.proofs.WordsObey.{obeys}

-- ---- numbers that are not reached

reach_more : (s t : ℕ) (xs : List ℕ) → s ≤ t → reaches s xs ≡ false → reaches t xs ≡ false
reach_more s t [] l e = refl
reach_more s t (x ∷ xs) l e = both_false (nat_le t x) (reaches t xs) (lt-leb t x (let h = reach_head s x xs e in omega (arith, h, l))) (reach_more s t xs l (reach_tail s x xs e))

all_reach : (s t : ℕ) (xs : List ℕ) → s ≤ t → AllBelow s xs → reaches t xs ≡ false
all_reach s t [] l a = refl
all_reach s t (x ∷ xs) l a = both_false (nat_le t x) (reaches t xs) (lt-leb t x (let h = a.0 in omega (arith, h, l))) (all_reach s t xs l a.1)

fields_reach : (s t k : ℕ) (xs : List ℕ) → s ≤ t → AreOperands s k xs → reaches t (filter (λ x. nat_lt x 256) xs) ≡ false
fields_reach s t k [] l a = refl
fields_reach s t k (x ∷ xs) l a = go (nat_lt x 256) refl a.0 (fields_reach s t k xs l a.1)
  where
    go : (b : Bool) → nat_lt x 256 ≡ b → (x < s) ⊎ IsConstant k x → reaches t (filter (λ x. nat_lt x 256) xs) ≡ false → reaches t (cond b (x ∷ filter (λ x. nat_lt x 256) xs) (filter (λ x. nat_lt x 256) xs)) ≡ false
    go false is h e = e
    go true is (inl h) e = both_false (nat_le t x) _ (lt-leb t x (omega (arith, h, l))) e
    go true is (inr c) e = absurd (let q = ltb-true x 256 is in let z = c.is in omega (arith, q, z))

consts_reach : (s k : ℕ) (xs : List ℕ) → s ≤ 250 → AreOperands s k xs → reaches k (map (λ x. x - 256) (filter (λ x. nat_le 256 x) xs)) ≡ false
consts_reach s k [] l a = refl
consts_reach s k (x ∷ xs) l a = go (nat_le 256 x) refl a.0 (consts_reach s k xs l a.1)
  where
    go : (b : Bool) → nat_le 256 x ≡ b → (x < s) ⊎ IsConstant k x → reaches k (map (λ x. x - 256) (filter (λ x. nat_le 256 x) xs)) ≡ false → reaches k (map (λ x. x - 256) (cond b (x ∷ filter (λ x. nat_le 256 x) xs) (filter (λ x. nat_le 256 x) xs))) ≡ false
    go false is h e = e
    go true is (inl h) e = absurd (let q = leb-true 256 x is in omega (arith, q, h, l))
    go true is (inr c) e = both_false (nat_le k (x - 256)) _ (lt-leb k (x - 256) (let z = c.is in let w = c.there in omega (arith, z, w))) e

constants_reach : (s : ℕ) (ks : List Constant) (op : Op) (i : Instr) → s ≤ 250 → ConstantFits ks op i.bx → AreOperands s (length ks) (operands op i) → reaches (length ks) (constants_of op i) ≡ false
constants_reach s ks Op.LoadK i l c o = both_false _ _ (lt-leb (length ks) i.bx c) refl
constants_reach s ks Op.GetGlobal i l c o = both_false _ _ (lt-leb (length ks) i.bx (slice_get_within ks i.bx _ c.is)) refl
constants_reach s ks Op.SetGlobal i l c o = both_false _ _ (lt-leb (length ks) i.bx (slice_get_within ks i.bx _ c.is)) refl
constants_reach s ks op i l c o = consts_reach s (length ks) (operands op i) l o

-- ---- fields of a jump

-- a jump is read as it was put, but for its way
record Alike (i j : Instr) : Type 0 where
  order : has_order i.op i ≡ has_order j.op j
  named : names i.op i ≡ names j.op j
  fields : operands i.op i ≡ operands j.op j
  constants : constants_of i.op i ≡ constants_of j.op j
  upvalues : upvalues_of i.op i ≡ upvalues_of j.op j
  op : i.op ≡ j.op
  bx : i.bx ≡ j.bx

alike : (labels : List ℕ) (pc : ℕ) (piece : Piece) → HasFormat piece → Alike (full_instr labels pc piece) (plain_instr piece)
alike labels pc (Piece.Abc op a b c) f = record { order = refl; named = refl; fields = refl; constants = refl; upvalues = refl; op = refl; bx = refl }
alike labels pc (Piece.Abx op a x) f = record { order = refl; named = refl; fields = refl; constants = refl; upvalues = refl; op = refl; bx = refl }
alike labels pc (Piece.Jump op a n) f = by_op op f
  where
    by_op : (op : Op) → format_of op ≡ Format.Asbx → Alike (full_instr labels pc (Piece.Jump op a n)) (plain_instr (Piece.Jump op a n))
    by_op Op.Jmp f = record { order = refl; named = refl; fields = refl; constants = refl; upvalues = refl; op = refl; bx = refl }
    by_op Op.ForLoop f = record { order = refl; named = refl; fields = refl; constants = refl; upvalues = refl; op = refl; bx = refl }
    by_op Op.ForPrep f = record { order = refl; named = refl; fields = refl; constants = refl; upvalues = refl; op = refl; bx = refl }
    by_op op f = cc
alike labels pc (Piece.Bare n) f = absurd f

-- ---- small facts

no_vararg : (marks : List Bool) (code : List ℕ) → ((i w : ℕ) → slice_get marks i ≡ Some false → slice_get code i ≡ Some w → is_vararg_word (instr_of w) ≡ false) → has_vararg marks code ≡ false
no_vararg [] code h = refl
no_vararg (false ∷ marks) [] h = refl
no_vararg (true ∷ marks) [] h = refl
no_vararg (false ∷ marks) (w ∷ rest) h = ap (λ b. cond b true (has_vararg marks rest)) (h 0 w refl refl) ∙ no_vararg marks rest (λ i v a b. h (suc i) v a b)
no_vararg (true ∷ marks) (w ∷ rest) h = no_vararg marks rest (λ i v a b. h (suc i) v a b)

get_of : (xs : List Bool) (i : ℕ) → slice_get xs i ≡ Some false → get_or xs i false ≡ false
get_of [] i e = refl
get_of (x ∷ xs) zero e = some_one x false e
get_of (x ∷ xs) (suc i) e = get_of xs i e

not_vararg : (op : Op) (i : Instr) → i.op ≡ op → ((op ≡ Op.Vararg) → ⊥) → is_vararg_word (Some i) ≡ false
not_vararg op i e n = ap (λ o. elim o [ Op.Vararg ↦ true | _ ↦ false ]) e ∙ by_op op n
  where
    by_op : (op : Op) → ((op ≡ Op.Vararg) → ⊥) → elim op [ Op.Vararg ↦ true | _ ↦ false ] ≡ false
    by_op Op.Vararg n = absurd (n refl)
    by_op op n = refl

are_sound : (cs : List Chunk) → AllSound cs → AreSound (functions_of cs)
are_sound [] a = tt
are_sound (c ∷ cs) a = (a.0, are_sound cs a.1)

-- ---- the function

module _ (main : Bool) (heading : Heading) (m : Maker) (g : Ghost) (r : Ready m g) (few : misfits_of heading.first_line m ≡ []) (params : heading.params ≤ register_count m) (extra : g.vararg ≡ heading.vararg) (outer : main ≡ true → length m.upvalue_names ≡ 0) where
  l : Limits m
  l = limits_of heading.first_line m few

  abbrev f : Chunk
  f = chunk_of heading m

  abbrev notes : Notes
  notes pc = cond (g.is_place pc) (Some (note_of (g.note pc))) None

  noted : (pc : ℕ) → g.is_place pc ≡ true → notes pc ≡ Some (note_of (g.note pc))
  noted pc s = ap (λ b. cond b (Some (note_of (g.note pc))) None) s

  -- ---- the notes are consistent

  start_is : IsStart (notes 0)
  start_is = subst IsStart (sym (noted 0 r.invariant.begins.is_place)) (λ a. false_from_ne_true (loop_at (g.note 0) a) (λ e. r.invariant.start a (loop_true (g.note 0) a e)))

  edges : (pc t : ℕ) (i : Instr) (n : Note) → instr_at f pc ≡ Some i → notes pc ≡ Some n → is_edge f pc i t ≡ true → FollowsIn (after f pc i n) (notes t)
  edges pc t i n a e q = go (g.is_place pc) refl e
    where
      go : (b : Bool) → g.is_place pc ≡ b → cond b (Some (note_of (g.note pc))) None ≡ Some n → FollowsIn (after f pc i n) (notes t)
      go false s e = none_some n e
      go true s e =
          let w = has_word f pc i a in
          let h : pc < length m.items = (let z = slice_get_within (own f).code pc w.word w.there in let c = code_long m g r l heading in omega (arith, z, c)) in
          let k = known m g r l pc h s in
          let is : i ≡ full_instr m.labels pc k.piece = some_one i _ (sym a ∙ instr_is m g r l heading pc k) in
          let same : note_of (g.note pc) ≡ n = some_one (note_of (g.note pc)) n e in
          let o = obeys m g r l heading pc k in
          let way : list_any (is_pc t) (ways f pc (full_instr m.labels pc k.piece)) ≡ true = ap (λ x. list_any (is_pc t) (ways f pc x)) (sym is) ∙ and_second (is_place f (Some t)) _ q in
          let d = o.edge t way in
          subst (λ x. FollowsIn (after f pc i n) x) (sym (noted t d.1)) (subst (λ x. AsksLess (after f pc x n) (note_of (g.note t))) (sym is) (subst (λ x. AsksLess (after f pc (full_instr m.labels pc k.piece) x) (note_of (g.note t))) same d.2))

  -- ---- no rule is broken

  abbrev there : ℕ → Option ℕ
  there pc = slice_get (own f).code pc

  keep : (pc : ℕ) (rule : Rule) → ((k : Known m g pc) → g.is_place pc ≡ true → instr_breaks f (Some (note_of (g.note pc))) pc (full_instr m.labels pc k.piece) rule ≡ false) → (not (is_further f pc) && place_breaks f (notes pc) pc (there pc) rule) ≡ false
  keep pc rule fine = go (cases_lt pc (length m.items))
    where
      at_place : pc < length m.items → (b : Bool) → g.is_place pc ≡ b → (not (is_further f pc) && place_breaks f (notes pc) pc (there pc) rule) ≡ false
      at_place h false s = ap (λ b. not b && place_breaks f (notes pc) pc (there pc) rule) ((further_known m g r l heading pc h).is ∙ ap not s)
      at_place h true s =
          let k = known m g r l pc h s in
          ap (λ x. not (is_further f pc) && place_breaks f x pc (there pc) rule) (noted pc s)
          ∙ ap (λ x. not (is_further f pc) && place_breaks f (Some (note_of (g.note pc))) pc x rule) (word_known m g r l pc k)
          ∙ ap (λ x. not (is_further f pc) && word_breaks f (Some (note_of (g.note pc))) pc x rule) k.read
          ∙ ap (λ x. not (is_further f pc) && x) (fine k s)
          ∙ and_right (not (is_further f pc)) false refl

      go : (pc < length m.items) ⊎ (length m.items ≤ pc) → (not (is_further f pc) && place_breaks f (notes pc) pc (there pc) rule) ≡ false
      go (inl h) = at_place h (g.is_place pc) refl
      go (inr h) = ap (λ x. not (is_further f pc) && place_breaks f (notes pc) pc x rule) (slice_get_past (own f).code pc (let c = code_long m g r l heading in omega (arith, c, h))) ∙ and_right (not (is_further f pc)) false refl

  register_kept : (pc : ℕ) (k : Known m g pc) → breaks_register f pc (full_instr m.labels pc k.piece) ≡ false
  register_kept pc k =
      let s = k.ok.sane in
      let a = alike m.labels pc k.piece k.ok.format in
      let o = obeys m g r l heading pc k in
      both_false _ _ (both_false _ _ (both_false _ _ (ap not (a.order ∙ s.ordered))
      (ap (reaches (register_count m)) a.named ∙ all_reach g.size (register_count m) (names (plain_instr k.piece).op (plain_instr k.piece)) r.size s.registers))
      (ap (λ xs. reaches (register_count m) (filter (λ x. nat_lt x 256) xs)) a.fields ∙ fields_reach g.size (register_count m) (length m.constants) (operands (plain_instr k.piece).op (plain_instr k.piece)) r.size s.fields))
      (reach_more g.size (register_count m) (named_further Op.Move (full_instr m.labels pc k.piece).op (words_of f pc (full_instr m.labels pc k.piece))) r.size o.moves)

  constant_kept : (pc : ℕ) (k : Known m g pc) → breaks_constant f (full_instr m.labels pc k.piece) ≡ false
  constant_kept pc k =
      let s = k.ok.sane in
      let a = alike m.labels pc k.piece k.ok.format in
      ap (reaches (length m.constants)) a.constants ∙ constants_reach g.size m.constants (plain_instr k.piece).op (plain_instr k.piece) (let x = r.size in let y = l.registers in omega (arith, x, y)) s.constant s.fields

  upvalue_kept : (pc : ℕ) (k : Known m g pc) → breaks_upvalue f pc (full_instr m.labels pc k.piece) ≡ false
  upvalue_kept pc k =
      let s = k.ok.sane in
      let a = alike m.labels pc k.piece k.ok.format in
      let o = obeys m g r l heading pc k in
      both_false _ _ (ap (reaches (length m.upvalue_names)) a.upvalues ∙ all_reach (length m.upvalue_names) (length m.upvalue_names) (upvalues_of (plain_instr k.piece).op (plain_instr k.piece)) (omega arith) s.upvalues) o.upvalues

  name_kept : (pc : ℕ) (k : Known m g pc) → breaks_name f (full_instr m.labels pc k.piece).op (full_instr m.labels pc k.piece) ≡ false
  name_kept pc k = (let a = alike m.labels pc k.piece k.ok.format in by_op (full_instr m.labels pc k.piece).op (full_instr m.labels pc k.piece) (subst (λ x. ConstantFits m.constants (full_instr m.labels pc k.piece).op x) (sym a.bx) (subst (λ x. ConstantFits m.constants x (plain_instr k.piece).bx) (sym a.op) k.ok.sane.constant)))
    where
      by_op : (op : Op) (i : Instr) → ConstantFits m.constants op i.bx → breaks_name f op i ≡ false
      by_op Op.GetGlobal i c = ap is_no_text (c.is)
      by_op Op.SetGlobal i c = ap is_no_text (c.is)
      by_op op i c = refl

  results_kept : (pc : ℕ) (k : Known m g pc) → g.is_place pc ≡ true → breaks_results f pc (full_instr m.labels pc k.piece) ≡ false
  results_kept pc k s =
      let o = obeys m g r l heading pc k in
      both_false _ _ (both_false _ _ (met (wants (full_instr m.labels pc k.piece).op (full_instr m.labels pc k.piece)) (g.left pc) refl (meets_full m g r l heading pc k)) o.left) o.wanted
    where
      met : (w o : Option ℕ) → g.left pc ≡ o → Meets w o → is_unmet w (left_before f pc) ≡ false
      met None o e h = refl
      met (Some start) None e h = absurd h
      met (Some start) (Some first) e h = ap (is_unmet (Some start)) (left_is m g r l heading pc first (slice_get_within m.items pc k.item k.there) s e) ∙ le-ltb first start h

  -- ---- the shape

  vararg_none : (v : Bool) → heading.vararg ≡ v → (not (not (vararg_flags v == 0)) && has_vararg (further_words f) (own f).code) ≡ false
  vararg_none true e = refl
  vararg_none false e = no_vararg (further_words f) (own f).code (λ pc w a b. (
      let h : pc < length m.items = (let z = slice_get_within (own f).code pc w b in let c = code_long m g r l heading in omega (arith, z, c)) in
      let s = no_further_is_place m g r l heading pc h (get_of (further_words f) pc a) in
      let k = known m g r l pc h s in
      let is : w ≡ word_at m.labels pc k.item.piece = some_one w _ (sym b ∙ word_known m g r l pc k) in
      let x = alike m.labels pc k.piece k.ok.format in
      ap (λ y. is_vararg_word (instr_of y)) is ∙ ap is_vararg_word k.read ∙ not_vararg (plain_instr k.piece).op (full_instr m.labels pc k.piece) x.op (λ q. true≢false (sym (subst (λ op. VarargFits g.vararg op) q k.ok.sane.extra) ∙ extra ∙ e))))

  flags_allowed : (v : Bool) → not (list_any (λ flags. flags == vararg_flags v) allowed_flags) ≡ false
  flags_allowed true = refl
  flags_allowed false = refl

  no_table : (v : Bool) (b : Bool) → ((vararg_flags v == 7) && b) ≡ false
  no_table true b = refl
  no_table false b = refl

  outer_none : (b : Bool) → main ≡ b → (b && nat_lt 0 (length m.upvalue_names)) ≡ false
  outer_none false e = refl
  outer_none true e = le-ltb 0 (length m.upvalue_names) (let q = outer e in omega (arith, q))

  shape_kept : breaks_shape f main ≡ false
  shape_kept =
      let most = l.registers in
      let long = r.long in
      let c = code_long m g r l heading in
      both_false _ _ (both_false _ _ (both_false _ _ (both_false _ _ (both_false _ _ (both_false _ _
      (le-ltb 250 (register_count m) most)
      (le-ltb (register_count m) heading.params params))
      (no_table heading.vararg _))
      (flags_allowed heading.vararg))
      (vararg_none heading.vararg refl))
      (outer_none main refl))
      (ne_eqb (length (own f).code) 0 (λ e. omega (arith, e, long, c)))

  keeps : (pc : ℕ) (rule : Rule) → breaks f main notes pc rule ≡ false
  keeps pc Rule.BadWord = keep pc Rule.BadWord (λ k s. refl)
  keeps pc Rule.Register = keep pc Rule.Register (λ k s. register_kept pc k)
  keeps pc Rule.Constant = keep pc Rule.Constant (λ k s. constant_kept pc k)
  keeps pc Rule.Function = keep pc Rule.Function (λ k s. (obeys m g r l heading pc k).function)
  keeps pc Rule.Upvalue = keep pc Rule.Upvalue (λ k s. upvalue_kept pc k)
  keeps pc Rule.JumpTarget = keep pc Rule.JumpTarget (λ k s. (obeys m g r l heading pc k).target)
  keeps pc Rule.NameConstant = keep pc Rule.NameConstant (λ k s. name_kept pc k)
  keeps pc Rule.OpenResults = keep pc Rule.OpenResults (λ k s. results_kept pc k s)
  keeps pc Rule.LoopNumbers = keep pc Rule.LoopNumbers (λ k s. (obeys m g r l heading pc k).numbers)
  keeps pc Rule.LoopCaptured = keep pc Rule.LoopCaptured (λ k s. (obeys m g r l heading pc k).captured)
  keeps pc Rule.FurtherWord = keep pc Rule.FurtherWord (λ k s. (obeys m g r l heading pc k).further)
  keeps pc Rule.NoJump = keep pc Rule.NoJump (λ k s. (obeys m g r l heading pc k).no_jump)
  keeps pc Rule.Shape = ap (λ b. (pc == 0) && b) shape_kept ∙ and_right (pc == 0) false refl
  keeps pc Rule.FallsOff = keep pc Rule.FallsOff (λ k s. (obeys m g r l heading pc k).end)

  has_notes : HasNotes f main
  has_notes = (notes, record { consistent = record { start = start_is; edges = edges }; keeps = keeps })

pub sound_of : (main : Bool) (heading : Heading) (m : Maker) (g : Ghost) → Ready m g → misfits_of heading.first_line m ≡ [] → AllSound m.functions → heading.params ≤ register_count m → g.vararg ≡ heading.vararg → (main ≡ true → length m.upvalue_names ≡ 0) → IsSound (chunk_of heading m) main
sound_of main heading m g r few fs p v u = (has_notes main heading m g r few p v u, are_sound m.functions fs)
