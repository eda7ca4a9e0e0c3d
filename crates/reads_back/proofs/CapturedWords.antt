-- The registers that the words between two pcs capture are those that the further words of their CLOSUREs name.
use Rattle.std.proofs.Common.{◌≡◌, ℕ, zero, suc, ◌+◌, ◌-◌, ◌^◌, Bool, true, false, nat_lt, List, [], ◌++◌, append-nil, append_assoc, Option, Some, None, option_and_then, refl, sym, ap, ap₂, ◌∙◌, subst, arith}
use Rattle.std.specs.Prelude.{◌==◌}
use Rattle.opcode.specs.declared.op.Op.{Op}
use Rattle.opcode.specs.declared.word.Instr.{Instr}
use Rattle.recover_expr.specs.Entries.{more}
use Rattle.recover_expr.specs.Locals.{or_zero}
use Rattle.recover_expr.specs.Situation.{Function, instr_at, next_pc, upvalues_in, word_at}
use Rattle.recover_expr.specs.declared.function.Word.{Word}
use Rattle.reads_back.proofs.EachSome.{Each, each_none, each_some, each_where}
use Rattle.reads_back.proofs.ScopesCaptured.{registers_as}

-- ---- words, without those that belong to others

-- how many further words belong to a word
abbrev pub list_skips : (block_is_far : Bool) → ℕ
list_skips true = 1
list_skips false = 0

abbrev pub skips_as : Op → Function → Instr → ℕ
skips_as Op.Closure f i = or_zero (upvalues_in f i.bx)
skips_as Op.SetList f i = list_skips (i.c == 0)
skips_as op f i = 0

abbrev skips_of : Function → Option Instr → ℕ
skips_of f None = 0
skips_of f (Some i) = skips_as i.op f i

-- the word at a pc
abbrev word_with : (pc : ℕ) → Instr → Word
word_with pc i = record { pc = pc; next = suc pc; instr = i }

abbrev captured_at : Function → (pc : ℕ) → Option Instr → List ℕ
captured_at f pc None = []
captured_at f pc (Some i) = registers_as i.op f (word_with pc i)

-- the registers that so many words from a pc on capture, where so many of them are left out first
abbrev captured_behind : Function → (skip count pc : ℕ) → List ℕ
captured_behind f skip zero pc = []
captured_behind f (suc skip) (suc count) pc = captured_behind f skip count (suc pc)
captured_behind f zero (suc count) pc = captured_at f pc (instr_at f pc) ++ captured_behind f (skips_of f (instr_at f pc)) count (suc pc)

abbrev pub captured_between : Function → (count pc : ℕ) → List ℕ
captured_between f count pc = captured_behind f 0 count pc

-- ---- words between two pcs

-- the words from a pc up to another capture these registers, and the last one has no further words there
pub record Spans (f : Function) (pc next : ℕ) (registers : List ℕ) : Type 0 where
  pub count : ℕ
  pub is : next ≡ count + pc
  pub walks : (more : ℕ) → captured_between f (count + more) pc ≡ registers ++ captured_between f more next

pub spans_none : {f : Function} {pc : ℕ} → Spans f pc pc []
spans_none {f} {pc} = record { count = 0; is = omega arith; walks = λ more. ap (λ count. captured_between f count pc) (let same : 0 + more ≡ more = omega arith in same) }

pub spans_then : {f : Function} {pc mid next : ℕ} {first second : List ℕ} → Spans f pc mid first → Spans f mid next second → Spans f pc next (first ++ second)
spans_then {f} {pc} {mid} {next} {first} {second} one more = record {
  count = one.count + more.count;
  is = omega (arith, one.is, more.is);
  walks = λ rest.
      let same : one.count + more.count + rest ≡ one.count + (more.count + rest) = omega arith in
      ap (λ count. captured_between f count pc) same
      ∙ one.walks (more.count + rest)
      ∙ ap (λ (registers : List ℕ). first ++ registers) (more.walks rest)
      ∙ sym (append_assoc first second (captured_between f rest next));
}

pub spans_on : {f : Function} {pc mid next : ℕ} {registers : List ℕ} → Spans f pc mid registers → Spans f mid next [] → Spans f pc next registers
spans_on {f} {pc} {next = next} {registers} one more = subst (λ (registers : List ℕ). Spans f pc next registers) (append-nil registers) (spans_then one more)

pub spans_between : {f : Function} {pc next : ℕ} {registers : List ℕ} → Spans f pc next registers → captured_between f (next - pc) pc ≡ registers
spans_between {f} {pc} {next} {registers} spans =
    let same : next - pc ≡ spans.count + 0 = omega (arith, spans.is) in
    ap (λ count. captured_between f count pc) same ∙ spans.walks 0 ∙ append-nil registers

skipped : (f : Function) (skip more pc : ℕ) → captured_behind f skip (skip + more) pc ≡ captured_between f more (skip + pc)
skipped f zero more pc = ap₂ (captured_between f) (let same : 0 + more ≡ more = omega arith in same) (let same : pc ≡ 0 + pc = omega arith in same)
skipped f (suc skip) more pc = ap (λ count. captured_behind f (suc skip) count pc) (let same : suc skip + more ≡ suc (skip + more) = omega arith in same) ∙ skipped f skip more (suc pc) ∙ ap (captured_between f more) (let same : skip + suc pc ≡ suc skip + pc = omega arith in same)

-- one word with those that belong to it
pub word_spans : (f : Function) (pc next : ℕ) (i : Instr) → instr_at f pc ≡ Some i → next ≡ skips_as i.op f i + suc pc → Spans f pc next (registers_as i.op f (word_with pc i))
word_spans f pc next i there is = record {
  count = suc (skips_as i.op f i);
  is = omega (arith, is);
  walks = λ more.
      let same : suc (skips_as i.op f i) + more ≡ suc (skips_as i.op f i + more) = omega arith in
      ap (λ count. captured_between f count pc) same
      ∙ ap (λ (there : Option Instr). captured_at f pc there ++ captured_behind f (skips_of f there) (skips_as i.op f i + more) (suc pc)) there
      ∙ ap (λ (registers : List ℕ). registers_as i.op f (word_with pc i) ++ registers) (skipped f (skips_as i.op f i) more (suc pc) ∙ ap (captured_between f more) (sym is));
}

-- ---- words as the reader has them

-- the word stands at its pc
pub record Stands (f : Function) (w : Word) : Type 0 where
  pub there : instr_at f w.pc ≡ Some w.instr
  pub next : w.next ≡ suc w.pc

pub word_stands : (f : Function) (pc : ℕ) → Each (λ w. Stands f w × (w.pc ≡ pc)) (word_at f pc)
word_stands f pc = by (instr_at f pc) refl
  where
    by : (there : Option Instr) → instr_at f pc ≡ there → Each (λ w. Stands f w × (w.pc ≡ pc)) (option_and_then (next_pc pc) there)
    by None is = each_none
    by (Some i) is = each_where (nat_lt (suc pc) (2 ^ 32)) (each_some (record { there = is; next = refl }, refl))

-- the words of a word that is read go up to a pc
abbrev pub WordSpans : Function → Word → (next : ℕ) → Type 0
WordSpans f w next = Spans f w.pc next (registers_as w.instr.op f w)

pub stands_span : {f : Function} {w : Word} (next : ℕ) → Stands f w → next ≡ skips_as w.instr.op f w.instr + w.next → WordSpans f w next
stands_span {f} {w} next stands is =
    subst (λ behind. Spans f w.pc next (registers_as w.instr.op f (record { pc = w.pc; next = behind; instr = w.instr }))) (sym stands.next)
    (word_spans f w.pc next w.instr stands.there (is ∙ ap (λ behind. skips_as w.instr.op f w.instr + behind) stands.next))

-- it has none that belong to it
pub single_spans : {f : Function} {w : Word} (op : Op) → w.instr.op ≡ op → skips_as op f w.instr ≡ 0 → Stands f w → WordSpans f w w.next
single_spans {f} {w} op is none stands = let no_more : skips_as w.instr.op f w.instr ≡ 0 = ap (λ op. skips_as op f w.instr) is ∙ none in stands_span w.next stands (omega (arith, no_more))

-- and it is no CLOSURE
pub plain_spans : {f : Function} {w : Word} (op : Op) → w.instr.op ≡ op → skips_as op f w.instr ≡ 0 → registers_as op f w ≡ [] → Stands f w → Spans f w.pc w.next []
plain_spans {f} {w} op is none no_registers stands = subst (λ (registers : List ℕ). Spans f w.pc w.next registers) (ap (λ op. registers_as op f w) is ∙ no_registers) (single_spans op is none stands)

-- the one behind another
pub plain_behind : {f : Function} {w : Word} {pc : ℕ} (op : Op) → w.instr.op ≡ op → skips_as op f w.instr ≡ 0 → registers_as op f w ≡ [] → Stands f w × (w.pc ≡ pc) → Spans f pc w.next []
plain_behind {f} {w} op is none no_registers stands = subst (λ pc. Spans f pc w.next []) stands.1 (plain_spans op is none no_registers stands.0)
