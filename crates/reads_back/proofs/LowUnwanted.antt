-- Where a first word that reads registers in use makes a value for the free register, or for one below it, it wants nothing that is in the free register.
use Rattle.std.proofs.Common.{◌≡◌, ◌≤◌, inl, inr, ℕ, suc, ◌+◌, Bool, true, false, not, ◌&&◌, ◌||◌, nat_lt, Option, None, Some, refl, sym, ap, ◌∙◌, arith, eq-eqb, true≢false}
use Rattle.std.proofs.lemmas.Bool.{le-ltb, ne_eqb}
use Rattle.std.specs.Prelude.{◌==◌}
use Rattle.opcode.specs.declared.op.Op.{Op}
use Rattle.opcode.specs.declared.word.Instr.{Instr}
use Rattle.recover_expr.specs.Effects.{makes_value, reads_from}
use Rattle.recover_expr.specs.Items.{all_stay, calls_method, calls_method_at, is_read_behind, is_so, makes_above, stores_alone, stores_alone_as}
use Rattle.recover_expr.specs.Locals.{Scope}
use Rattle.recover_expr.specs.Situation.{Function, instr_at}
use Rattle.scheme.specs.declared.making.Piece.{Piece}
use Rattle.scheme_stands.specs.Words.{instr_by}
use Rattle.reads_back.proofs.Comes.{wants_lowest}
use Rattle.reads_back.proofs.LowStores.{Opens, begun, plain, spreads, whole}
use Rattle.reads_back.proofs.LowWords.{Alone, Begun, First}
use Rattle.reads_back.proofs.Tests.{and_not, nor}

-- the word at a pc wants nothing that is in registers from a base on
pub record Unwanted (f : Function) (base pc : ℕ) : Type 0 where
  pub none : is_so (λ i. reads_from i base || (makes_above f base pc i || (stores_alone i base && is_read_behind f base pc i))) (instr_at f pc) ≡ false

-- no word stands behind, or it reads none of these registers
abbrev pub IsBehind : Function → (base pc : ℕ) → Type 0
IsBehind f base pc = (nat_lt pc f.last && is_so (λ i. reads_from i base) (instr_at f pc)) ≡ false

pub word_unwanted : (f : Function) (base pc : ℕ) (i : Instr) → instr_at f pc ≡ Some i → reads_from i base ≡ false → makes_above f base pc i ≡ false → (stores_alone i base && is_read_behind f base pc i) ≡ false → Unwanted f base pc
word_unwanted f base pc i there reads above stores =
    let none = nor (reads_from i base) (makes_above f base pc i || (stores_alone i base && is_read_behind f base pc i)) reads (nor (makes_above f base pc i) (stores_alone i base && is_read_behind f base pc i) above stores) in
    record { none = ap (is_so (λ i. reads_from i base || (makes_above f base pc i || (stores_alone i base && is_read_behind f base pc i)))) there ∙ none }

-- so it does not want the lowest register of a statement
pub lowest_unwanted : {f : Function} {base pc : ℕ} (scope : Scope) → Unwanted f base pc → is_so (wants_lowest f scope base pc) (instr_at f pc) ≡ false
lowest_unwanted {f} {base} {pc} scope unwanted = by (instr_at f pc) unwanted.none
  where
    by : (there : Option Instr) → is_so (λ i. reads_from i base || (makes_above f base pc i || (stores_alone i base && is_read_behind f base pc i))) there ≡ false → is_so (wants_lowest f scope base pc) there ≡ false
    by None none = refl
    by (Some i) none = ap (λ wants. all_stay f scope pc && wants) none ∙ and_not (all_stay f scope pc)

-- nor does any where a local is over
pub ended_unwanted : (f : Function) (base pc : ℕ) (scope : Scope) → all_stay f scope pc ≡ false → is_so (wants_lowest f scope base pc) (instr_at f pc) ≡ false
ended_unwanted f base pc scope ends = by (instr_at f pc)
  where
    by : (there : Option Instr) → is_so (wants_lowest f scope base pc) there ≡ false
    by None = refl
    by (Some i) = ap (λ stay. stay && (reads_from i base || (makes_above f base pc i || (stores_alone i base && is_read_behind f base pc i)))) ends

-- ---- what a word makes

not_above : (f : Function) (base pc : ℕ) (i : Instr) → (makes_value i.op ≡ true → i.a ≤ base) → makes_above f base pc i ≡ false
not_above f base pc i few = by (makes_value i.op) few
  where
    by : (makes : Bool) → (makes ≡ true → i.a ≤ base) → (makes && (nat_lt base i.a && (not (i.a == base + 2) || calls_method_at f base (pc + 1)))) ≡ false
    by true few = ap (λ above. above && (not (i.a == base + 2) || calls_method_at f base (pc + 1))) (le-ltb base i.a (few refl))
    by false few = refl

not_stored : (f : Function) (base pc : ℕ) (i : Instr) → stores_alone i base ≡ false → (stores_alone i base && is_read_behind f base pc i) ≡ false
not_stored f base pc i none = ap (λ stores. stores && is_read_behind f base pc i) none

-- a value for a register from the base on is no store
not_alone : (i : Instr) (base : ℕ) → makes_value i.op ≡ true → base ≤ i.a → stores_alone i base ≡ false
not_alone i base makes from = by i.op makes
  where
    by : (op : Op) → makes_value op ≡ true → stores_alone_as op i base ≡ false
    by Op.SetGlobal makes = absurd cc
    by Op.SetUpval makes = absurd cc
    by Op.SetTable makes = absurd cc
    by op makes = ap (λ below. makes_value op && below) (le-ltb i.a base from) ∙ and_not (makes_value op)

-- ---- how words begin

-- a value for the register itself
value_unwanted : (f : Function) (base pc : ℕ) (i : Instr) → instr_at f pc ≡ Some i → reads_from i base ≡ false → makes_value i.op ≡ true → i.a ≡ base → Unwanted f base pc
value_unwanted f base pc i there reads makes register =
    word_unwanted f base pc i there reads (not_above f base pc i (λ makes. omega (arith, register))) (not_stored f base pc i (not_alone i base makes (omega (arith, register))))

pub begun_unwanted : {f : Function} {base pc : ℕ} → Begun f base base pc → Unwanted f base pc
begun_unwanted {f} {base} {pc} (inl more) = value_unwanted f base pc more.instr more.there more.reads more.makes more.register
begun_unwanted {f} {base} {pc} (inr far) =
    let i = instr_by pc (Piece.Abx Op.LoadK (base + 2) far.number) in
    let next : pc + 1 ≡ suc pc = omega arith in
    let on_other : (far.on == base) ≡ false = ne_eqb far.on base (λ same. let below = far.below in omega (arith, below, same)) in
    let calls : is_so (λ i. calls_method i base) (instr_at f (pc + 1)) ≡ false = ap (λ pc. is_so (λ i. calls_method i base) (instr_at f pc)) next ∙ ap (is_so (λ i. calls_method i base)) far.calls ∙ on_other in
    let none : calls_method_at f base (pc + 1) ≡ false = ap (λ calls. nat_lt (pc + 1) f.last && calls) calls ∙ and_not (nat_lt (pc + 1) f.last) in
    let two : not (base + 2 == base + 2) ≡ false = ap not (eq-eqb (base + 2) (base + 2) refl) in
    let above : makes_above f base pc i ≡ false = ap (λ other. nat_lt base (base + 2) && other) (nor (not (base + 2 == base + 2)) (calls_method_at f base (pc + 1)) two none) ∙ and_not (nat_lt base (base + 2)) in
    word_unwanted f base pc i far.loads refl above (not_stored f base pc i (not_alone i base refl (omega arith)))

pub alone_unwanted : {f : Function} {base pc last : ℕ} → Alone f base base pc last → Unwanted f base pc
alone_unwanted {f} {base} {pc} one = value_unwanted f base pc one.instr one.there one.reads one.makes one.register

pub first_unwanted : {f : Function} {base pc last : ℕ} → First f base base base pc last → Unwanted f base pc
first_unwanted (inl one) = alone_unwanted one
first_unwanted (inr first) = begun_unwanted first

-- a store, where the word behind it reads none of these registers
pub opens_unwanted : {f : Function} {base pc last : ℕ} → Opens f base base pc last → IsBehind f base last → Unwanted f base pc
opens_unwanted {f} {base} {pc} (whole one) behind =
    let i = one.instr in
    let read : is_read_behind f base pc i ≡ false = ap (λ behind. nat_lt behind f.last && is_so (λ i. reads_from i base) (instr_at f behind)) (sym one.next) ∙ behind in
    word_unwanted f base pc i one.there one.reads (not_above f base pc i one.makes) (ap (λ read. stores_alone i base && read) read ∙ and_not (stores_alone i base))
opens_unwanted (begun first) behind = begun_unwanted first
opens_unwanted {f} {base} {pc} (spreads rest) behind = value_unwanted f base pc (instr_by pc (Piece.Abc Op.Vararg base rest.field 0)) rest.there refl refl refl
opens_unwanted {f} {base} {pc} (plain one) behind =
    let i = one.instr in word_unwanted f base pc i one.there one.reads (not_above f base pc i (λ makes. absurd (true≢false (sym makes ∙ one.makes)))) (not_stored f base pc i (one.stores base))
