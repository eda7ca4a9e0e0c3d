-- What the verifier's rules give of each word: that the registers, constants and places which its fields name are there.
use Rattle.std.proofs.Common.{◌≡◌, ℕ, zero, suc, pred, ◌+◌, ◌-◌, ◌<◌, ◌≤◌, ◌^◌, ℤ, Bool, true, false, cond, ◌||◌, List, [], ◌∷◌, map, filter, length, take, drop, get_or, Option, None, Some, refl, sym, ap, subst, ◌∙◌, true≢false, arith, nat_lt, nat_le, leb-false, ltb-false, ltb-true, ne_eqb}
use Rattle.std.specs.Prelude.{slice_get, option_map, option_and_then, is_none, ◌==◌}
use Rattle.std.specs.List.{list_any}
use Rattle.std.proofs.lemmas.List.{length-map}
use Rattle.std.proofs.lemmas.Option.{slice_get-map, slice_get_within}
use Rattle.opcode.specs.declared.op.Op.{Op}
use Rattle.opcode.specs.declared.word.Instr.{Instr}
use Rattle.opcode.specs.Reading.{instr_of}
use Rattle.proto.specs.declared.parts.Constant.{Constant}
use Rattle.proto.specs.Chunk.{Chunk, own, functions, function_at}
use Rattle.lua_model.specs.declared.Value.{Value}
use Rattle.lua_model.specs.Datum.{Datum, number}
use Rattle.lua_heap.specs.State.{HeapState, datum}
use Rattle.rules.specs.declared.rule.Rule.{Rule}
use Rattle.rules.specs.Words.{instr_at}
use Rattle.rules.specs.Places.{jmp_of, target, is_further}
use Rattle.rules.specs.Notes.{Notes, Registers}
use Rattle.rules.specs.Breaks.{reaches, operands, names, constants_of, upvalues_of, is_no_text, wants, jumps, breaks_numbers}
use Rattle.rules.specs.State.{Cell, State, value_of}
use Rattle.rules.specs.Step.{count_of}
use Rattle.rules.specs.Run.{current}
use Rattle.rules.proofs.Lists.{get_some, none_some, and_first, and_second, not_false, not_true, or_first_false, or_second_false, reach_head, reach_tail}
use Rattle.rules.proofs.Invariant.{Met, Branches, Awaits, BaseOf, left_of, Inv}
use Rattle.rules.proofs.Starting.{shape_of}
use Rattle.rules.proofs.Arriving.{Target, first_target}
use Rattle.rules.proofs.Words.{word, DoingOf, keeps, registers_kept, test_ways_of}
use Rattle.machine.specs.declared.function.Function.{Function}
use Rattle.machine.specs.declared.did.Landing.{Landing}
use Rattle.machine.specs.declared.did.OpenResults.{OpenResults}
use Rattle.machine.specs.Frames.{data_of, results_of, landing_of}
use Rattle.machine.specs.Words.{IsOperand, number_of, IsNumber, text_of, IsName, AreThere, AreResultsThere, IsListed, IsTest, IsLanding}
use Rattle.machine.specs.Fits.{Jumps, Fits, FitsFrame}

-- ---- numbers below a limit

abbrev AreBelow : ℕ → List ℕ → Type 0
AreBelow limit [] = Unit {0}
AreBelow limit (x ∷ xs) = (x < limit) × AreBelow limit xs

-- where none reaches the limit, each is below it
are_below : (limit : ℕ) (xs : List ℕ) → reaches limit xs ≡ false → AreBelow limit xs
are_below limit [] e = tt
are_below limit (x ∷ xs) e = (reach_head limit x xs e, are_below limit xs (reach_tail limit x xs e))

-- ---- operands

abbrev AreOperands : Function → List Value → List ℕ → Type 0
AreOperands f values [] = Unit {0}
AreOperands f values (x ∷ xs) = IsOperand f values x × AreOperands f values xs

-- the registers and the constants among some operands
abbrev registers_in : List ℕ → List ℕ
registers_in xs = filter (λ x. nat_lt x 256) xs

abbrev constants_in : List ℕ → List ℕ
constants_in xs = map (λ x. x - 256) (filter (λ x. nat_le 256 x) xs)

-- of operands that are registers, the first one and the rest
low_part : (limit x : ℕ) (t : Bool) (rest : List ℕ) → nat_lt x 256 ≡ t → reaches limit (cond t (x ∷ rest) rest) ≡ false → (x < 256 → x < limit) × (reaches limit rest ≡ false)
low_part limit x true rest is e = (λ low. reach_head limit x rest e, reach_tail limit x rest e)
low_part limit x false rest is e = (λ low. let high = ltb-false x 256 is in omega arith, e)

-- of operands that are constants
high_part : (limit x : ℕ) (t : Bool) (rest : List ℕ) → nat_le 256 x ≡ t → reaches limit (map (λ y. y - 256) (cond t (x ∷ rest) rest)) ≡ false → (256 ≤ x → x - 256 < limit) × (reaches limit (map (λ y. y - 256) rest) ≡ false)
high_part limit x true rest is e = (λ high. reach_head limit (x - 256) (map (λ y. y - 256) rest) e, reach_tail limit (x - 256) (map (λ y. y - 256) rest) e)
high_part limit x false rest is e = (λ high. let low = leb-false 256 x is in omega arith, e)

are_operands : (f : Function) (values : List Value) (xs : List ℕ) → reaches (length values) (registers_in xs) ≡ false → reaches (length f.constants.items) (constants_in xs) ≡ false → AreOperands f values xs
are_operands f values [] low high = tt
are_operands f values (x ∷ xs) low high =
    let l = low_part (length values) x (nat_lt x 256) (registers_in xs) refl low in
    let u = high_part (length f.constants.items) x (nat_le 256 x) (filter (λ y. nat_le 256 y) xs) refl high in
    (record { register = l.0; constant = u.0 }, are_operands f values xs l.1 u.1)

-- ---- constants and registers by what they hold

-- a register that is a number for the rules is one
is_number : (h : HeapState) (o : Option Value) (n : ℤ) → option_map (datum h) o ≡ Some (number n) → option_and_then number_of o ≡ None → ⊥
is_number h None n e none = none_some (number n) e
is_number h (Some (Value.Number k)) n e none = none_some k (sym none)
is_number h (Some v) n e none = cc

-- a constant that is a text for the rules is one
is_name : (h : HeapState) (o : Option Value) (c : Option Constant) → option_map value_of c ≡ option_map (datum h) o → is_none c ≡ false → is_no_text c ≡ false → option_and_then text_of o ≡ None → ⊥
is_name h o None e there named none = true≢false there
is_name h None (Some c) e there named none = none_some (value_of c) (sym e)
is_name h (Some (Value.Text t)) (Some c) e there named none = none_some t (sym none)
is_name h (Some v) (Some (Constant.Text t)) e there named none = cc
is_name h (Some v) (Some c) e there named none = true≢false named

-- ---- jumps and tests

-- where a frame may go on both ways of a test, the test's JMP stands and leads to a pc
test_of : (c : Chunk) (notes : Notes) (cells : List Cell) (k : ℕ) (registers : List Datum) (pc : ℕ) (written : Registers) (f : Function) → (own c).code ≡ f.code.items → length f.code.items < 2 ^ 32 → Branches c notes cells k registers pc written → IsTest f pc
test_of c notes cells k registers pc written f code room ways_are = record {
  s = ways_are.s;
  jmp = ap (λ ws. jmp_of (option_and_then instr_of (slice_get ws pc))) (sym code) ∙ ways_are.jmp;
  goes = λ none. none_some ways_are.t (sym none ∙ ways_are.goes);
  room = room;
}

-- ---- landings

-- a landing that is awaited
pub lands : (c : Chunk) (notes : Notes) (cells : List Cell) (k : ℕ) (h : HeapState) (f : Function) (values : List Value) (pc : ℕ) (landing : Landing) → Awaits c notes cells k (data_of h values) pc (landing_of landing) → (own c).code ≡ f.code.items → length f.code.items < 2 ^ 32 → length values < 256 → IsLanding f values pc landing
lands c notes cells k h f values pc (Landing.Into a) awaits code room few = subst (λ n. a < n) (length-map values (datum h)) awaits.0
lands c notes cells k h f values pc (Landing.Test a negated) awaits code room few = test_of c notes cells k (data_of h values) pc _ f code room awaits
lands c notes cells k h f values pc (Landing.Pairs a first count) awaits code room few =
    let same : length (data_of h values) ≡ length values = length-map values (datum h) in
    let there : a < length (data_of h values) = awaits.0 in
    let last : first + count ≤ length (data_of h values) = awaits.1 in
    (omega arith, omega arith, omega arith)
lands c notes cells k h f values pc (Landing.Fixed a count) awaits code room few = λ some. subst (λ n. a + count ≤ n) (length-map values (datum h)) (awaits.0 some)
lands c notes cells k h f values pc (Landing.Open a) awaits code room few = tt
lands c notes cells k h f values pc (Landing.Turn a count) awaits code room few =
    let same : length (data_of h values) ≡ length values = length-map values (datum h) in
    let last : a + 3 + count ≤ length (data_of h values) = awaits.0 in
    let there : a + 3 < length (data_of h values) = awaits.1 in
    (omega arith, omega arith, omega arith, test_of c notes cells k (data_of h values) pc _ f code room awaits.2)
lands c notes cells k h f values pc Landing.Nowhere awaits code room few = tt

-- ---- the word behind a SETLIST, and the function of a CLOSURE

-- the word at a pc is there and is not 0
block_there : (code : List ℕ) (pc : ℕ) → (nat_lt (length (take 1 (drop pc code))) 1 || list_any (λ w. w == 0) (take 1 (drop pc code))) ≡ false → (pc < length code) × (0 < get_or code pc 0)
block_there [] zero e = absurd (true≢false e)
block_there [] (suc pc) e = absurd (true≢false e)
block_there (zero ∷ ws) zero e = absurd (true≢false e)
block_there (suc w ∷ ws) zero e = (omega arith, omega arith)
block_there (w ∷ ws) (suc pc) e =
    let rest = block_there ws pc e in
    (omega (arith, rest.0), rest.1)

-- a number that leads to a function is there
inner_there : (all : List Chunk) (inner : List ℕ) (n : ℕ) (o : Option Chunk) → option_and_then (slice_get all) (slice_get inner n) ≡ o → is_none o ≡ false → n < length inner
inner_there all inner n o is there = go (slice_get inner n) refl
  where
    go : (p : Option ℕ) → slice_get inner n ≡ p → n < length inner
    go None e = absurd (true≢false (ap is_none (ap (option_and_then (slice_get all)) (sym e) ∙ is) ∙ there))
    go (Some k) e = slice_get_within inner n k e

-- ---- lists of values

-- from which register on results are open
abbrev left_in : HeapState → Option OpenResults → Option ℕ
left_in h results = left_of (option_map (results_of h) results)

-- a list up to the open results, where these are what is wanted
open_listed : (h : HeapState) (values : List Value) (results : Option OpenResults) (start first : ℕ) → start ≡ first → Met (length values) (Some start) (left_in h results) → IsListed values results first None
open_listed h values None start first same met = absurd met
open_listed h values (Some open_results) start first same met =
    let low : start ≤ open_results.first = met.0 in
    let high : open_results.first < length values = met.1 in
    (omega arith, λ some. omega arith)

-- the list of a word whose B counts one more than its values, and 0 for open results
counted_listed : (h : HeapState) (values : List Value) (results : Option OpenResults) (start first b : ℕ) → start ≡ first → ((n : ℕ) → b ≡ suc n → AreThere values first n) → (b ≡ 0 → Met (length values) (Some start) (left_in h results)) → IsListed values results first (count_of b)
counted_listed h values results start first zero same there met = open_listed h values results start first same (met refl)
counted_listed h values results start first (suc n) same there met = there n refl

-- the list of a SETLIST, whose B counts its values, and is 0 for open results
set_listed : (h : HeapState) (values : List Value) (results : Option OpenResults) (a b : ℕ) (t : Bool) → a + b < length values → Met (length values) (cond t (Some (suc a)) None) (left_in h results) → IsListed values results (a + 1) (cond t None (Some b))
set_listed h values results a b true far met = open_listed h values results (suc a) (a + 1) (omega arith) met
set_listed h values results a b false far met = λ some. omega arith

-- ---- the words

-- The running frame is at a word of a sound function, and has these registers, words and constants.
module _ (m0 : State) (base : BaseOf m0) (h : HeapState) (f : Function) (values : List Value) (low : m0.top.pc < length (own m0.top.function).code) (registers_are : m0.top.registers ≡ data_of h values) (code_is : (own m0.top.function).code ≡ f.code.items) (constants_are : map value_of (own m0.top.function).constants ≡ data_of h f.constants.items) (room : length f.code.items < 2 ^ 32) where
  counted : (own m0.top.function).registers ≡ length values
  counted = sym base.size ∙ ap length registers_are ∙ length-map values (datum h)

  constants_counted : length (own m0.top.function).constants ≡ length f.constants.items
  constants_counted = sym (length-map (own m0.top.function).constants value_of) ∙ ap length constants_are ∙ length-map f.constants.items (datum h)

  -- there are at most so many registers
  few : length values ≤ 250
  few =
      let most = or_first_false _ _ (or_first_false _ _ (or_first_false _ _ (or_first_false _ _ (or_first_false _ _ (or_first_false _ _ (shape_of m0.top.function base.known)))))) in
      subst (λ n. n ≤ 250) counted (ltb-false 250 (own m0.top.function).registers most)

  pc_room : suc m0.top.pc < 2 ^ 33
  pc_room = let same : length (own m0.top.function).code ≡ length f.code.items = ap length code_is in omega arith

  names_fit : (i : Instr) → DoingOf m0 base i → AreBelow (length values) (names i.op i)
  names_fit i d =
      are_below (length values) (names i.op i) (subst (λ n. reaches n (names i.op i) ≡ false) counted (or_second_false _ _ (or_first_false _ _ (or_first_false _ _ (registers_kept m0 base i d)))))

  constants_fit : (i : Instr) → DoingOf m0 base i → AreBelow (length f.constants.items) (constants_of i.op i)
  constants_fit i d =
      are_below (length f.constants.items) (constants_of i.op i) (subst (λ n. reaches n (constants_of i.op i) ≡ false) constants_counted (keeps m0 base i d Rule.Constant refl))

  operands_fit : (i : Instr) → DoingOf m0 base i → constants_of i.op i ≡ constants_in (operands i.op i) → AreOperands f values (operands i.op i)
  operands_fit i d is =
      are_operands f values (operands i.op i) (subst (λ n. reaches n (registers_in (operands i.op i)) ≡ false) counted (or_second_false _ _ (or_first_false _ _ (registers_kept m0 base i d)))) (subst (λ ks. reaches (length f.constants.items) ks ≡ false) is (subst (λ n. reaches n (constants_of i.op i) ≡ false) constants_counted (keeps m0 base i d Rule.Constant refl)))

  name_fits : (k : ℕ) → k < length f.constants.items → is_no_text (slice_get (own m0.top.function).constants k) ≡ false → IsName f k
  name_fits k there named =
      let c = get_some (own m0.top.function).constants k (subst (λ n. k < n) (sym constants_counted) there) in
      let is : option_map value_of (slice_get (own m0.top.function).constants k) ≡ option_map (datum h) (slice_get f.constants.items k) = sym (slice_get-map value_of (own m0.top.function).constants k) ∙ ap (λ ds. slice_get ds k) constants_are ∙ slice_get-map (datum h) f.constants.items k in
      is_name h (slice_get f.constants.items k) (slice_get (own m0.top.function).constants k) is (ap is_none c.1) named

  number_fits : (i : Instr) (d : DoingOf m0 base i) (r : ℕ) → d.note.loops i.a ≡ true → i.a ≤ r → r ≤ i.a + 2 → IsNumber values r
  number_fits i d r prepared above below =
      let n = d.holds.numbers i.a r prepared above below in
      is_number h (slice_get values r) n.0 (sym (slice_get-map (datum h) values r) ∙ ap (λ ds. slice_get ds r) (sym registers_are) ∙ n.1)

  jump_fits : (i : Instr) → DoingOf m0 base i → jumps m0.top.pc i ≡ target m0.top.pc i.sbx ∷ [] → Jumps (suc m0.top.pc) i
  jump_fits i d is =
      let to : Target m0.top.function (target m0.top.pc i.sbx) = first_target m0.top.function base.known m0.top.pc i d.solid d.at (target m0.top.pc i.sbx) [] is in
      record { goes = λ none. none_some to.0 (sym none ∙ to.1); room = pc_room }

  test_fits : (written : Registers) → Branches m0.top.function base.known.notes m0.cells (length m0.below) m0.top.registers (suc m0.top.pc) written → IsTest f (suc m0.top.pc)
  test_fits written ways_are = test_of m0.top.function base.known.notes m0.cells (length m0.below) m0.top.registers (suc m0.top.pc) written f code_is room ways_are

  -- ---- words of one shape

  two_fit : (i : Instr) (a b : ℕ) → DoingOf m0 base i → names i.op i ≡ a ∷ b ∷ [] → (a < length values) × (b < length values)
  two_fit i a b d is =
      let n = subst (λ xs. AreBelow (length values) xs) is (names_fit i d) in
      (n.0, n.1.0)

  operands_two : (i : Instr) (b c : ℕ) → DoingOf m0 base i → operands i.op i ≡ b ∷ c ∷ [] → constants_of i.op i ≡ constants_in (b ∷ c ∷ []) → IsOperand f values b × IsOperand f values c
  operands_two i b c d is ks =
      let xs = subst (λ xs. AreOperands f values xs) is (operands_fit i d (ks ∙ ap constants_in (sym is))) in
      (xs.0, xs.1.0)

  three_fit : (i : Instr) → DoingOf m0 base i → names i.op i ≡ i.a ∷ [] → operands i.op i ≡ i.b ∷ i.c ∷ [] → constants_of i.op i ≡ constants_in (i.b ∷ i.c ∷ []) → (i.a < length values) × IsOperand f values i.b × IsOperand f values i.c
  three_fit i d named is ks =
      let n = subst (λ xs. AreBelow (length values) xs) named (names_fit i d) in
      let xs = operands_two i i.b i.c d is ks in
      (n.0, xs.0, xs.1)

  compare_fits : (i : Instr) (written : Registers) → DoingOf m0 base i → operands i.op i ≡ i.b ∷ i.c ∷ [] → constants_of i.op i ≡ constants_in (i.b ∷ i.c ∷ []) → Branches m0.top.function base.known.notes m0.cells (length m0.below) m0.top.registers (suc m0.top.pc) written → IsOperand f values i.b × IsOperand f values i.c × IsTest f (suc m0.top.pc)
  compare_fits i written d is ks ways_are =
      let xs = operands_two i i.b i.c d is ks in
      (xs.0, xs.1, test_fits written ways_are)

  -- ---- each word

  word_fits : (op : Op) (a b c bx : ℕ) (sbx : ℤ) → DoingOf m0 base (word op a b c bx sbx) → Fits op f values (suc m0.top.pc) (word op a b c bx sbx)
  word_fits Op.Move a b c bx sbx d = two_fit (word Op.Move a b c bx sbx) a b d refl
  word_fits Op.LoadK a b c bx sbx d = ((names_fit (word Op.LoadK a b c bx sbx) d).0, (constants_fit (word Op.LoadK a b c bx sbx) d).0)
  word_fits Op.LoadBool a b c bx sbx d = ((names_fit (word Op.LoadBool a b c bx sbx) d).0, pc_room)
  word_fits Op.LoadNil a b c bx sbx d =
      let n = two_fit (word Op.LoadNil a b c bx sbx) a b d refl in
      (omega (arith, n.1, few), λ some. omega (arith, n.1))
  word_fits Op.GetGlobal a b c bx sbx d =
      ((names_fit (word Op.GetGlobal a b c bx sbx) d).0, name_fits bx (constants_fit (word Op.GetGlobal a b c bx sbx) d).0 (keeps m0 base (word Op.GetGlobal a b c bx sbx) d Rule.NameConstant refl))
  word_fits Op.GetTable a b c bx sbx d =
      let n = two_fit (word Op.GetTable a b c bx sbx) a b d refl in
      (n.0, n.1, (operands_fit (word Op.GetTable a b c bx sbx) d refl).0)
  word_fits Op.SetGlobal a b c bx sbx d =
      ((names_fit (word Op.SetGlobal a b c bx sbx) d).0, name_fits bx (constants_fit (word Op.SetGlobal a b c bx sbx) d).0 (keeps m0 base (word Op.SetGlobal a b c bx sbx) d Rule.NameConstant refl))
  word_fits Op.SetTable a b c bx sbx d = three_fit (word Op.SetTable a b c bx sbx) d refl refl refl
  word_fits Op.NewTable a b c bx sbx d = (names_fit (word Op.NewTable a b c bx sbx) d).0
  word_fits Op.Self_ a b c bx sbx d =
      let n = two_fit (word Op.Self_ a b c bx sbx) (suc a) b d refl in
      (n.0, n.1, (operands_fit (word Op.Self_ a b c bx sbx) d refl).0)
  word_fits Op.Add a b c bx sbx d = three_fit (word Op.Add a b c bx sbx) d refl refl refl
  word_fits Op.Sub a b c bx sbx d = three_fit (word Op.Sub a b c bx sbx) d refl refl refl
  word_fits Op.Mul a b c bx sbx d = three_fit (word Op.Mul a b c bx sbx) d refl refl refl
  word_fits Op.Div a b c bx sbx d = three_fit (word Op.Div a b c bx sbx) d refl refl refl
  word_fits Op.Mod a b c bx sbx d = three_fit (word Op.Mod a b c bx sbx) d refl refl refl
  word_fits Op.Pow a b c bx sbx d = three_fit (word Op.Pow a b c bx sbx) d refl refl refl
  word_fits Op.Unm a b c bx sbx d = two_fit (word Op.Unm a b c bx sbx) a b d refl
  word_fits Op.Not a b c bx sbx d = two_fit (word Op.Not a b c bx sbx) a b d refl
  word_fits Op.Len a b c bx sbx d = two_fit (word Op.Len a b c bx sbx) a b d refl
  word_fits Op.Concat a b c bx sbx d =
      let n = names_fit (word Op.Concat a b c bx sbx) d in
      let last : c < length values = n.1.1.0 in
      let order = not_false (nat_lt b c) (or_first_false _ _ (or_first_false _ _ (or_first_false _ _ (registers_kept m0 base (word Op.Concat a b c bx sbx) d)))) in
      (n.0, ltb-true b c order, last, omega (arith, few))
  word_fits Op.Jmp a b c bx sbx d = jump_fits (word Op.Jmp a b c bx sbx) d refl
  word_fits Op.Eq a b c bx sbx d = compare_fits (word Op.Eq a b c bx sbx) _ d refl refl (test_ways_of m0 base (word Op.Eq a b c bx sbx) d (λ r. refl) (λ x. refl) refl refl refl refl)
  word_fits Op.Lt a b c bx sbx d = compare_fits (word Op.Lt a b c bx sbx) _ d refl refl (test_ways_of m0 base (word Op.Lt a b c bx sbx) d (λ r. refl) (λ x. refl) refl refl refl refl)
  word_fits Op.Le a b c bx sbx d = compare_fits (word Op.Le a b c bx sbx) _ d refl refl (test_ways_of m0 base (word Op.Le a b c bx sbx) d (λ r. refl) (λ x. refl) refl refl refl refl)
  word_fits Op.Test a b c bx sbx d =
      ((names_fit (word Op.Test a b c bx sbx) d).0, test_fits _ (test_ways_of m0 base (word Op.Test a b c bx sbx) d (λ r. refl) (λ x. refl) refl refl refl refl))
  word_fits Op.TestSet a b c bx sbx d =
      let n = two_fit (word Op.TestSet a b c bx sbx) a b d refl in
      (n.0, n.1, test_fits _ (test_ways_of m0 base (word Op.TestSet a b c bx sbx) d (λ r. refl) (λ x. refl) refl refl refl refl))
  word_fits Op.ForLoop a b c bx sbx d =
      let far : a + 3 < length values = (names_fit (word Op.ForLoop a b c bx sbx) d).0 in
      let l : d.note.loops a ≡ true = not_false (d.note.loops a) (subst (λ o. breaks_numbers o Op.ForLoop (word Op.ForLoop a b c bx sbx) ≡ false) d.noted (keeps m0 base (word Op.ForLoop a b c bx sbx) d Rule.LoopNumbers refl)) in
      (omega (arith, few), number_fits (word Op.ForLoop a b c bx sbx) d a l (omega arith) (omega arith), number_fits (word Op.ForLoop a b c bx sbx) d (a + 1) l (omega arith) (omega arith), number_fits (word Op.ForLoop a b c bx sbx) d (a + 2) l (omega arith) (omega arith), far, jump_fits (word Op.ForLoop a b c bx sbx) d refl)
  word_fits Op.ForPrep a b c bx sbx d =
      let far : a + 2 < length values = (names_fit (word Op.ForPrep a b c bx sbx) d).0 in
      (omega (arith, few), far, jump_fits (word Op.ForPrep a b c bx sbx) d refl)
  word_fits Op.TForLoop a b c bx sbx d =
      let far : a + 5 < length values = (names_fit (word Op.TForLoop a b c bx sbx) d).0 in
      let last : a + 2 + c < length values = (names_fit (word Op.TForLoop a b c bx sbx) d).1.0 in
      (omega arith, omega arith, omega (arith, few), test_fits _ (test_ways_of m0 base (word Op.TForLoop a b c bx sbx) d (λ r. refl) (λ x. refl) refl refl refl refl))
  word_fits _ a b c bx sbx d = tt

  -- ---- each word that works on more than the registers

  upvalues_fit : (i : Instr) → DoingOf m0 base i → AreBelow (length m0.top.cells) (upvalues_of i.op i)
  upvalues_fit i d =
      are_below (length m0.top.cells) (upvalues_of i.op i) (subst (λ n. reaches n (upvalues_of i.op i) ≡ false) (sym base.counted) (or_first_false _ _ (keeps m0 base i d Rule.Upvalue refl)))

  -- what a CALL and a TAILCALL take
  called_fits : (results : Option OpenResults) (a b : ℕ) → a + pred b < length values → Met (length values) (cond (b == 0) (Some (suc a)) None) (left_in h results) → (a < length values) × (a < 256) × IsListed values results (a + 1) (count_of b)
  called_fits results a b far met =
      (omega arith, omega (arith, few), counted_listed h values results (suc a) (a + 1) b (omega arith) (λ n e some. let same : pred b ≡ n = ap pred e in omega arith) (λ e. subst (λ k. Met (length values) (cond (k == 0) (Some (suc a)) None) (left_in h results)) e met))

  -- where the results of a CALL go
  results_fit : (a c : ℕ) → a + (c - 2) < length values → AreResultsThere values a (count_of c)
  results_fit a zero far = tt
  results_fit a (suc n) far = λ some. omega (arith, far, some)

  -- the block number behind a SETLIST whose C is 0
  block_fits : (a b c bx : ℕ) (sbx : ℤ) → DoingOf m0 base (word Op.SetList a b c bx sbx) → c ≡ 0 → (suc m0.top.pc < length f.code.items) × (0 < get_or f.code.items (suc m0.top.pc) 0)
  block_fits a b c bx sbx d e =
      let Kept : ℕ → List ℕ → Type 0 = λ n ws. (nat_lt (length (take n (drop (suc m0.top.pc) ws))) n || list_any (λ w. w == 0) (take n (drop (suc m0.top.pc) ws))) ≡ false in
      block_there f.code.items (suc m0.top.pc) (subst (Kept 1) code_is (subst (λ k. Kept (cond (k == 0) 1 0) (own m0.top.function).code) e (keeps m0 base (word Op.SetList a b c bx sbx) d Rule.FurtherWord refl)))

  -- the registers of a VARARG
  vararg_fits : (results : Option OpenResults) (a b c bx : ℕ) (sbx : ℤ) → DoingOf m0 base (word Op.Vararg a b c bx sbx) → FitsFrame Op.Vararg f values results (length m0.top.cells) (suc m0.top.pc) (word Op.Vararg a b c bx sbx)
  vararg_fits results a zero c bx sbx d =
      let there : a + (0 - 2) < length values = (names_fit (word Op.Vararg a 0 c bx sbx) d).0 in
      omega arith
  vararg_fits results a (suc n) c bx sbx d = λ some.
      let is : names Op.Vararg (word Op.Vararg a (suc n) c bx sbx) ≡ (a + (suc n - 2)) ∷ [] = ap (λ t. cond t [] ((a + (suc n - 2)) ∷ [])) (ne_eqb (suc n) 1 (λ e. omega arith)) in
      let there : a + (suc n - 2) < length values = (subst (λ xs. AreBelow (length values) xs) is (names_fit (word Op.Vararg a (suc n) c bx sbx) d)).0 in
      omega arith

  frame_fits : (results : Option OpenResults) (all : List Chunk) → ((n : ℕ) → option_and_then (slice_get all) (slice_get f.inner.items n) ≡ function_at (functions m0.top.function) n) → (op : Op) (a b c bx : ℕ) (sbx : ℤ) → DoingOf m0 base (word op a b c bx sbx) → Met (length values) (wants op (word op a b c bx sbx)) (left_in h results) → FitsFrame op f values results (length m0.top.cells) (suc m0.top.pc) (word op a b c bx sbx)
  frame_fits results all inner Op.GetUpval a b c bx sbx d met = ((names_fit (word Op.GetUpval a b c bx sbx) d).0, (upvalues_fit (word Op.GetUpval a b c bx sbx) d).0)
  frame_fits results all inner Op.SetUpval a b c bx sbx d met = ((names_fit (word Op.SetUpval a b c bx sbx) d).0, (upvalues_fit (word Op.SetUpval a b c bx sbx) d).0)
  frame_fits results all inner Op.Call a b c bx sbx d met =
      let far = names_fit (word Op.Call a b c bx sbx) d in
      let args = called_fits results a b far.0 met in
      (args.0, args.1, args.2, results_fit a c far.1.0)
  frame_fits results all inner Op.TailCall a b c bx sbx d met = called_fits results a b (names_fit (word Op.TailCall a b c bx sbx) d).0 met
  frame_fits results all inner Op.Return a b c bx sbx d met =
      let far : a + (b - 2) < length values = (names_fit (word Op.Return a b c bx sbx) d).0 in
      (omega (arith, few), counted_listed h values results a a b refl (λ n e some. omega arith) (λ e. subst (λ k. Met (length values) (cond (k == 0) (Some a) None) (left_in h results)) e met))
  frame_fits results all inner Op.SetList a b c bx sbx d met =
      let far : a + b < length values = (names_fit (word Op.SetList a b c bx sbx) d).0 in
      (omega arith, omega (arith, few), set_listed h values results a b (b == 0) far met, block_fits a b c bx sbx d)
  frame_fits results all inner Op.Close a b c bx sbx d met = (names_fit (word Op.Close a b c bx sbx) d).0
  frame_fits results all inner Op.Closure a b c bx sbx d met =
      ((names_fit (word Op.Closure a b c bx sbx) d).0, inner_there all f.inner.items bx (function_at (functions m0.top.function) bx) (inner bx) (keeps m0 base (word Op.Closure a b c bx sbx) d Rule.Function refl))
  frame_fits results all inner Op.Vararg a b c bx sbx d met = vararg_fits results a b c bx sbx d
  frame_fits results all inner _ a b c bx sbx d met = tt

-- ---- the word that is to be done

low_pc : (m0 : State) → Inv m0 → m0.top.pc < length (own m0.top.function).code
low_pc m0 inv = ltb-true _ _ (and_first _ _ inv.ready.place)

pub doing : (m0 : State) (inv : Inv m0) (i : Instr) → current m0 ≡ Some i → DoingOf m0 inv.base i
doing m0 inv i at =
    let solid : is_further m0.top.function m0.top.pc ≡ false = not_true _ (and_second _ _ inv.ready.place) in
    record {
      solid = solid;
      at = sym (ap (λ b. cond b None (instr_at m0.top.function m0.top.pc)) solid) ∙ at;
      note = inv.ready.note;
      noted = inv.ready.noted;
      holds = inv.ready.holds;
    }

-- The word that is to be done. The bounds on its fields come from its registers, of which there are at most 250, so that nothing is taken from the range of the words.
pub fits : (m0 : State) (inv : Inv m0) (h : HeapState) (f : Function) (values : List Value) (i : Instr) → current m0 ≡ Some i → m0.top.registers ≡ data_of h values → (own m0.top.function).code ≡ f.code.items → map value_of (own m0.top.function).constants ≡ data_of h f.constants.items → length f.code.items < 2 ^ 32 → Fits i.op f values (suc m0.top.pc) i
fits m0 inv h f values i at registers code constants room =
    word_fits m0 inv.base h f values (low_pc m0 inv) registers code constants room i.op i.a i.b i.c i.bx i.sbx (doing m0 inv i at)

-- The same of a word that works on more than the registers.
pub fits_frame : (m0 : State) (inv : Inv m0) (h : HeapState) (f : Function) (values : List Value) (i : Instr) → current m0 ≡ Some i → m0.top.registers ≡ data_of h values → (own m0.top.function).code ≡ f.code.items → map value_of (own m0.top.function).constants ≡ data_of h f.constants.items → length f.code.items < 2 ^ 32 → (results : Option OpenResults) → m0.top.results ≡ option_map (results_of h) results → (all : List Chunk) → ((n : ℕ) → option_and_then (slice_get all) (slice_get f.inner.items n) ≡ function_at (functions m0.top.function) n) → FitsFrame i.op f values results (length m0.top.cells) (suc m0.top.pc) i
fits_frame m0 inv h f values i at registers code constants room results results_are all inner =
    let d = doing m0 inv i at in
    let wanted : Met (length m0.top.registers) (wants i.op i) (left_of m0.top.results) = subst (λ o. Met (length m0.top.registers) (option_and_then (λ j. wants j.op j) o) (left_of m0.top.results)) d.at inv.ready.met in
    let met : Met (length values) (wants i.op i) (left_in h results) = subst (λ n. Met n (wants i.op i) (left_in h results)) (ap length registers ∙ length-map values (datum h)) (subst (λ o. Met (length m0.top.registers) (wants i.op i) (left_of o)) results_are wanted) in
    frame_fits m0 inv.base h f values (low_pc m0 inv) registers code constants room results all inner i.op i.a i.b i.c i.bx i.sbx d met
