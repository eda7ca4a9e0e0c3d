-- What is wrong with a word or a local.
use Rattle.std.proofs.Common.{◌∙◌, ◌≡◌, ℕ, zero, suc, ◌<◌, true, List, [], ◌∷◌, length, Some, None, IfSome, refl, sym, ap, not-suc-le-zero, le_of_suc-le-suc, nat_lt, get_or}
use Rattle.std.specs.Prelude.{slice_get, Option}
use Rattle.std.proofs.lemmas.Bool.{ltb-true}
use Rattle.opcode.specs.declared.word.Instr.{Instr}
use Rattle.opcode.specs.Reading.{instr_of}
use Rattle.proto.specs.Chunk.{Own}
use Rattle.recover_expr.specs.declared.fault.Fault.{Fault}
use Rattle.recover_expr.specs.Reasons.{HasFault, WordIs}
use Rattle.recover_expr.specs.Faults.{IsFree}

-- what tells nothing of the words fits each function
pub free_fits : {fault : Fault} → (f : Own) → IsFree fault → HasFault f fault
free_fits f free = free.fits f

-- what stands at a place of a list
there : {X : Type 0} → (xs : List X) (n : ℕ) (x : X) → n < length xs → x ≡ get_or xs n x → slice_get xs n ≡ Some x
there [] n x low is = absurd (not-suc-le-zero low)
there (y ∷ ys) zero x low is = ap Some (sym is)
there (y ∷ ys) (suc n) x low is = there ys n x (le_of_suc-le-suc low) is

pub get_is : {X : Type 0} → (xs : List X) (n : ℕ) (x : X) → true ≡ nat_lt n (length xs) → x ≡ get_or xs n x → slice_get xs n ≡ Some x
get_is xs n x low is = there xs n x (ltb-true n (length xs) (sym low)) is

-- what the word at a pc is read as
pub read_is : (f : Own) (words : List ℕ) (pc word : ℕ) (read : Option Instr) → words ≡ f.code → true ≡ nat_lt pc (length words) → word ≡ get_or words pc word → read ≡ instr_of word → IfSome read (λ instr. WordIs f pc (λ i. i ≡ instr))
read_is f words pc word None code low at is = tt
read_is f words pc word (Some instr) code low at is = record {
  word = word;
  at = ap (λ xs. slice_get xs pc) (sym code) ∙ get_is words pc word low at;
  instr = instr;
  read = sym is;
  holds = refl;
}
