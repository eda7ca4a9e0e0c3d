-- How words begin: what the first one reads, the register for which it makes a value, and what the word behind it reads.
use Rattle.std.proofs.Common.{◌≡◌, ◌<◌, ◌≤◌, ◌⊎◌, inl, inr, ℕ, suc, ◌+◌, Bool, true, false, nat_le, nat_lt, refl, sym, ap, ◌∙◌, arith, subst}
use Rattle.std.proofs.lemmas.Bool.Decides.{nat_tests}
use Rattle.std.specs.Prelude.{◌==◌, ◌&&◌, ◌||◌, None, Option, Some, not}
use Rattle.opcode.specs.declared.op.Op.{Op}
use Rattle.opcode.specs.declared.word.Instr.{Instr}
use Rattle.recover_expr.specs.Effects.{is_from, makes_value, reads_as, reads_from}
use Rattle.recover_expr.specs.Items.{further_words, is_so}
use Rattle.recover_expr.specs.Situation.{Function, has_operands, instr_at}
use Rattle.scheme.specs.declared.making.Piece.{Piece}
use Rattle.scheme_stands.specs.Words.{Fn, IsRead, Spot, WordAt, instr_by}
use Rattle.reads_back.proofs.Tests.{and_not, neither, nor, not_below}
use Rattle.reads_back.proofs.WordsBegin.{instr_is}
use Rattle.reads_back.proofs.WordsRead.{IsFunction}

-- ---- what a word reads

-- an operand is in no register from one on: in one below it, or it is a constant
abbrev pub IsLow : (low operand : ℕ) → Type 0
IsLow low x = (x < low) ⊎ (256 ≤ x)

pub low_later : (a b x : ℕ) → a ≤ b → IsLow a x → IsLow b x
low_later a b x before (inl below) = inl (omega (arith, below, before))
low_later a b x before (inr constant) = inr constant

pub low_from : (low x : ℕ) → IsLow low x → is_from x low ≡ false
low_from low x (inl below) = ap (λ from. from && nat_lt x 256) (not_below x low below)
low_from low x (inr constant) = let far : nat_lt x 256 ≡ false = grind (arith, nat_tests) in ap (λ near. nat_le low x && near) far ∙ and_not (nat_le low x)

pub operands_low : (n x y : ℕ) → IsLow n x → IsLow n y → (is_from x n || is_from y n) ≡ false
operands_low n x y first second = nor (is_from x n) (is_from y n) (low_from n x first) (low_from n y second)

pub part_low : (n x y : ℕ) → x < n → IsLow n y → (nat_le n x || is_from y n) ≡ false
part_low n x y below low = nor (nat_le n x) (is_from y n) (not_below x n below) (low_from n y low)

register_later : (a b x : ℕ) → a ≤ b → nat_le a x ≡ false → nat_le b x ≡ false
register_later a b x before below = grind (arith, nat_tests)

from_later : (a b x : ℕ) → a ≤ b → is_from x a ≡ false → is_from x b ≡ false
from_later a b x before none = by (nat_lt x 256) none
  where
    by : (near : Bool) → (nat_le a x && near) ≡ false → (nat_le b x && near) ≡ false
    by true none = by_register (nat_le a x) (nat_le b x) (register_later a b x before) none
      where
        by_register : (first second : Bool) → (first ≡ false → second ≡ false) → (first && true) ≡ false → (second && true) ≡ false
        by_register true second later none = absurd cc
        by_register false second later none = ap (λ second. second && true) (later refl)
    by false none = and_not (nat_le b x)

-- two operands, and a register with one
operands_later : (has : Bool) (a b : ℕ) (i : Instr) → a ≤ b → (has && (is_from i.b a || is_from i.c a)) ≡ false → (has && (is_from i.b b || is_from i.c b)) ≡ false
operands_later true a b i before none = let both = neither (is_from i.b a) (is_from i.c a) none in nor (is_from i.b b) (is_from i.c b) (from_later a b i.b before both.0) (from_later a b i.c before both.1)
operands_later false a b i before none = refl

part_later : (a b x : ℕ) (first second : Bool) → a ≤ b → (first ≡ false → second ≡ false) → (nat_le a x || first) ≡ false → (nat_le b x || second) ≡ false
part_later a b x first second before later none = let both = neither (nat_le a x) first none in nor (nat_le b x) second (register_later a b x before both.0) (later both.1)

returned_later : (some : Bool) (a b x : ℕ) → a ≤ b → (some && nat_le a x) ≡ false → (some && nat_le b x) ≡ false
returned_later true a b x before none = register_later a b x before none
returned_later false a b x before none = refl

reads_later : (op : Op) (a b : ℕ) (i : Instr) → a ≤ b → reads_as op i a ≡ false → reads_as op i b ≡ false
reads_later Op.Move a b i before none = register_later a b i.b before none
reads_later Op.Unm a b i before none = register_later a b i.b before none
reads_later Op.Not a b i before none = register_later a b i.b before none
reads_later Op.Len a b i before none = register_later a b i.b before none
reads_later Op.TestSet a b i before none = register_later a b i.b before none
reads_later Op.GetTable a b i before none = part_later a b i.b (is_from i.c a) (is_from i.c b) before (from_later a b i.c before) none
reads_later Op.Self_ a b i before none = part_later a b i.b (is_from i.c a) (is_from i.c b) before (from_later a b i.c before) none
reads_later Op.SetGlobal a b i before none = register_later a b i.a before none
reads_later Op.SetUpval a b i before none = register_later a b i.a before none
reads_later Op.SetList a b i before none = register_later a b i.a before none
reads_later Op.Test a b i before none = register_later a b i.a before none
reads_later Op.Call a b i before none = register_later a b i.a before none
reads_later Op.TailCall a b i before none = register_later a b i.a before none
reads_later Op.ForLoop a b i before none = register_later a b i.a before none
reads_later Op.ForPrep a b i before none = register_later a b i.a before none
reads_later Op.TForLoop a b i before none = register_later a b i.a before none
reads_later Op.Concat a b i before none = register_later a b i.c before none
reads_later Op.Return a b i before none = returned_later (not (i.b == 1)) a b i.a before none
reads_later Op.SetTable a b i before none = part_later a b i.a (is_from i.b a || is_from i.c a) (is_from i.b b || is_from i.c b) before (operands_later true a b i before) none
reads_later op a b i before none = operands_later (has_operands op) a b i before none

-- the word at a pc reads no register from one on
pub record ReadsBelow (f : Function) (low pc : ℕ) : Type 0 where
  pub none : is_so (λ i. reads_from i low) (instr_at f pc) ≡ false

pub below_later : {f : Function} {pc : ℕ} (a b : ℕ) → a ≤ b → ReadsBelow f a pc → ReadsBelow f b pc
below_later {f} {pc} a b before reads = record { none = by (instr_at f pc) reads.none }
  where
    by : (there : Option Instr) → is_so (λ i. reads_from i a) there ≡ false → is_so (λ i. reads_from i b) there ≡ false
    by None none = refl
    by (Some i) none = reads_later i.op a b i before none

pub there_below : (f : Function) (low pc : ℕ) (i : Instr) → instr_at f pc ≡ Some i → reads_from i low ≡ false → ReadsBelow f low pc
there_below f low pc i there none = record { none = ap (is_so (λ i. reads_from i low)) there ∙ none }

pub word_below : {f : Function} {g : Fn} {w : Piece} {p q : Spot} (low : ℕ) → IsFunction f g → WordAt g w p q → IsRead p.pc w → reads_from (instr_by p.pc w) low ≡ false → ReadsBelow f low p.pc
word_below {f} {w = w} {p} low is_function at read none = there_below f low p.pc (instr_by p.pc w) (instr_is is_function at read) none

-- ---- how words begin

-- the only word between, but for its further words: it makes a value for this register, and reads no register from one on
pub record Alone (f : Function) (low r first last : ℕ) : Type 0 where
  pub instr : Instr
  pub there : instr_at f first ≡ Some instr
  pub reads : reads_from instr low ≡ false
  pub makes : makes_value instr.op ≡ true
  pub register : instr.a ≡ r
  pub next : last ≡ first + 1 + further_words f instr.op instr

-- a word that makes a value for the free register, and one behind it that reads no register behind that
pub record More (f : Function) (low free first : ℕ) : Type 0 where
  pub instr : Instr
  pub there : instr_at f first ≡ Some instr
  pub reads : reads_from instr low ≡ false
  pub makes : makes_value instr.op ≡ true
  pub register : instr.a ≡ free
  pub second : ReadsBelow f (suc free) (first + 1 + further_words f instr.op instr)

-- the name of a method of a local, where it is a constant whose number is no operand: it is loaded behind the registers that the SELF makes
pub record FarName (f : Function) (low free first : ℕ) : Type 0 where
  pub number : ℕ
  pub on : ℕ
  pub loads : instr_at f first ≡ Some (instr_by first (Piece.Abx Op.LoadK (free + 2) number))
  pub calls : instr_at f (suc first) ≡ Some (instr_by (suc first) (Piece.Abc Op.Self_ free on (free + 2)))
  pub below : on < low

abbrev pub Begun : Function → (low free first : ℕ) → Type 0
Begun f low free first = More f low free first ⊎ FarName f low free first

-- the words of a value for a register r
abbrev pub First : Function → (low free r first last : ℕ) → Type 0
First f low free r first last = Alone f low r first last ⊎ Begun f low free first

-- words that take registers up to one: of what they name, this much is known by the registers that are in use
pub data Row (f : Function) (Names : ℕ → Type 0) (low free free1 first last : ℕ) : Type 0 where
  no_words : first ≡ last → free1 ≡ free → Names low → Row f Names low free free1 first last
  one_word : Alone f low free first last → free1 ≡ suc free → Names (suc free) → Row f Names low free free1 first last
  words : free ≤ free1 → Begun f low free first → Row f Names low free free1 first last

pub row_up : {f : Function} {Names : ℕ → Type 0} {low free free1 first last : ℕ} → Row f Names low free free1 first last → free ≤ free1
row_up (no_words same free_same named) = omega (arith, free_same)
row_up (one_word one free_is named) = omega (arith, free_is)
row_up (words more begun) = more

-- less may be known of what they name
pub row_names : {f : Function} {Names Less : ℕ → Type 0} {low free free1 first last : ℕ} → ((n : ℕ) → Names n → Less n) → Row f Names low free free1 first last → Row f Less low free free1 first last
row_names {low = low} less (no_words same free_same named) = no_words same free_same (less low named)
row_names {free = free} less (one_word one free_is named) = one_word one free_is (less (suc free) named)
row_names less (words more begun) = words more begun

-- what holds where so many registers are in use, holds where more are
abbrev pub Lasting : (ℕ → Type 0) → Type 0
Lasting Names = (a b : ℕ) → a ≤ b → Names a → Names b

pub low_lasts : (x : ℕ) → Lasting (λ n. IsLow n x)
low_lasts x a b less low = low_later a b x less low

pub below_lasts : (x : ℕ) → Lasting (λ n. x < n)
below_lasts x a b less below = omega (arith, less, below)

-- ---- what they read

pub alone_reads : {f : Function} {low r first last : ℕ} → Alone f low r first last → ReadsBelow f low first
alone_reads {f} {low} {first = first} one = there_below f low first one.instr one.there one.reads

pub begun_reads : {f : Function} {low free first : ℕ} → Begun f low free first → ReadsBelow f low first
begun_reads {f} {low} {first = first} (inl more) = there_below f low first more.instr more.there more.reads
begun_reads {f} {low} {free} {first} (inr far) = there_below f low first (instr_by first (Piece.Abx Op.LoadK (free + 2) far.number)) far.loads refl

pub first_reads : {f : Function} {low free r first last : ℕ} → First f low free r first last → ReadsBelow f low first
first_reads (inl one) = alone_reads one
first_reads (inr begun) = begun_reads begun

-- more registers may be in use
pub alone_later : {f : Function} {r first last : ℕ} (a b : ℕ) → a ≤ b → Alone f a r first last → Alone f b r first last
alone_later a b before one = record { instr = one.instr; there = one.there; reads = reads_later one.instr.op a b one.instr before one.reads; makes = one.makes; register = one.register; next = one.next }

pub begun_later : {f : Function} {free first : ℕ} (a b : ℕ) → a ≤ b → Begun f a free first → Begun f b free first
begun_later a b before (inl one) = inl (record { instr = one.instr; there = one.there; reads = reads_later one.instr.op a b one.instr before one.reads; makes = one.makes; register = one.register; second = one.second })
begun_later a b before (inr far) = inr (record { number = far.number; on = far.on; loads = far.loads; calls = far.calls; below = omega (arith, far.below, before) })

pub first_later : {f : Function} {free r first last : ℕ} (a b : ℕ) → a ≤ b → First f a free r first last → First f b free r first last
first_later a b before (inl one) = inl (alone_later a b before one)
first_later a b before (inr begun) = inr (begun_later a b before begun)

-- ---- words one behind the other

pub alone_then : {f : Function} {low free first mid : ℕ} → Alone f low free first mid → ReadsBelow f (suc free) mid → Begun f low free first
alone_then {f} {free = free} one second =
    inl (record { instr = one.instr; there = one.there; reads = one.reads; makes = one.makes; register = one.register; second = subst (ReadsBelow f (suc free)) one.next second })

pub first_then : {f : Function} {low free first mid : ℕ} → First f low free free first mid → ReadsBelow f (suc free) mid → Begun f low free first
first_then (inl one) second = alone_then one second
first_then (inr begun) second = begun

-- what stands behind no words stands there
from_first : (P : (free first : ℕ) → Type 0) {free free1 first mid : ℕ} → first ≡ mid → free1 ≡ free → P free1 mid → P free first
from_first P {free} {mid = mid} same free_same holds = subst (λ pc. P free pc) (sym same) (subst (λ n. P n mid) free_same holds)

pub row_then : {f : Function} {Names Others : ℕ → Type 0} {low free free1 free2 first mid last : ℕ} → Lasting Names → Lasting Others → low ≤ free → Row f Names low free free1 first mid → Row f Others low free1 free2 mid last →
    Row f (λ n. Names n × Others n) low free free2 first last
row_then names others less (no_words same free_same named) (no_words also free_also other) = no_words (same ∙ also) (free_also ∙ free_same) (named, other)
row_then {f} {Names} {Others} {low} {free} {last = last} names others less (no_words same free_same named) (one_word one free_is other) =
    one_word (from_first (λ free pc. Alone f low free pc last) same free_same one) (free_is ∙ ap suc free_same) (names low (suc free) (omega (arith, less)) named, subst (λ n. Others (suc n)) free_same other)
row_then {f} {low = low} names others less (no_words same free_same named) (words more begun) = words (omega (arith, more, free_same)) (from_first (Begun f low) same free_same begun)
row_then {f} {low = low} {free} {first = first} names others less (one_word one free_is named) (no_words also free_also other) =
    one_word (subst (λ pc. Alone f low free first pc) also one) (free_also ∙ free_is) (named, others low (suc free) (omega (arith, less)) other)
row_then {low = low} {free} names others less (one_word one free_is named) (one_word two free_also other) =
    words (omega (arith, free_is, free_also)) (alone_then one (below_later low (suc free) (omega (arith, less)) (alone_reads two)))
row_then {low = low} {free} names others less (one_word one free_is named) (words more begun) = words (omega (arith, free_is, more)) (alone_then one (below_later low (suc free) (omega (arith, less)) (begun_reads begun)))
row_then names others less (words more begun) other = let further = row_up other in words (omega (arith, more, further)) begun

-- no words, of which this is known, or the words begin
abbrev pub NoneOrBegun : Function → (Known : Type 0) → (low free first last : ℕ) → Type 0
NoneOrBegun f Known low free first last = ((first ≡ last) × Known) ⊎ Begun f low free first

-- a word that reads what they name
pub row_word : {f : Function} {Names : ℕ → Type 0} {low free free1 first last : ℕ} → Row f Names low free free1 first last → low ≤ free → ((n : ℕ) → low ≤ n → Names n → ReadsBelow f n last) → NoneOrBegun f ((free1 ≡ free) × Names low) low free first last
row_word (no_words same free_same named) less word = inl (same, (free_same, named))
row_word {free = free} (one_word one free_is named) less word = inr (alone_then one (word (suc free) (omega (arith, less)) named))
row_word (words more begun) less word = inr begun

-- a word that makes a value of what they name
pub value_of_word : {f : Function} {Known : Type 0} {low free r first mid last : ℕ} → NoneOrBegun f Known low free first mid → (Known → Alone f low r mid last) → First f low free r first last
value_of_word {f} {low = low} {r = r} {last = last} (inl none) word = inl (subst (λ pc. Alone f low r pc last) (sym none.0) (word none.1))
value_of_word (inr begun) word = inr begun

pub word_alone : {f : Function} {g : Fn} {w : Piece} {p q : Spot} (low r : ℕ) → IsFunction f g → WordAt g w p q → IsRead p.pc w → reads_from (instr_by p.pc w) low ≡ false → makes_value (instr_by p.pc w).op ≡ true → (instr_by p.pc w).a ≡ r →
    further_words f (instr_by p.pc w).op (instr_by p.pc w) ≡ 0 → Alone f low r p.pc q.pc
word_alone {w = w} {p} low r is_function at read reads makes register none =
    record { instr = instr_by p.pc w; there = instr_is is_function at read; reads = reads; makes = makes; register = register; next = omega (arith, none, at.next) }
