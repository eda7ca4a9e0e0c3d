-- A word that is done counts in what its function uses, and what a function uses counts in what the function around it does.
use Rattle.std.proofs.Common.{◌≡◌, ℕ, zero, suc, ◌+◌, ◌≤◌, Bool, true, false, cond, ◌&&◌, List, [], ◌∷◌, None, Some, sym, ap, ◌∙◌, subst, true≢false, arith, get_or}
use Rattle.std.specs.Prelude.{Option, slice_get, option_map, option_and_then}
use Rattle.std.proofs.lemmas.Slice.Eq.{bytes_eq-Decides}
use Rattle.lua_num.specs.Bytes.{Text}
use Rattle.opcode.specs.declared.op.Op.{Op}
use Rattle.opcode.specs.declared.word.Instr.{Instr}
use Rattle.opcode.specs.Reading.{instr_of}
use Rattle.proto.specs.declared.parts.Constant.{Constant}
use Rattle.proto.specs.Chunk.{Chunk, function, own, Functions, no_functions, and_function, functions, function_at}
use Rattle.rules.specs.Words.{instr_at}
use Rattle.rules.specs.Places.{further_from, belonging, is_further}
use Rattle.rules.specs.State.{value_of, name_of}
use Rattle.rules.proofs.Lists.{none_some, some_one}
use Rattle.global_use.specs.Uses.{is_name, is_use, uses_in, uses, uses_of}

-- the constant of a name is the name
pub named : (name : Text) (o : Option Constant) → option_and_then name_of (option_map value_of o) ≡ Some name → is_name name o ≡ true
named name None e = none_some name e
named name (Some Constant.Nil) e = none_some name e
named name (Some (Constant.Bool b)) e = none_some name e
named name (Some (Constant.Number n)) e = none_some name e
named name (Some (Constant.Text t)) e = (bytes_eq-Decides name t).1 (sym (some_one t name e))

counted : (does : Op → Bool) (constants : List Constant) (name : Text) (o : Option Instr) (i : Instr) → o ≡ Some i → does i.op ≡ true → is_name name (slice_get constants i.bx) ≡ true → is_use does constants name o ≡ true
counted does constants name o i is done called = subst (λ p. is_use does constants name p ≡ true) (sym is) (ap (λ b. b && is_name name (slice_get constants i.bx)) done ∙ called)

-- behind so many further words
uses_in_some : (does : Op → Bool) (constants : List Constant) (name : Text) (inner : Functions) (words : List ℕ) (n pc : ℕ) (i : Instr) →
    get_or (further_from inner n words) pc false ≡ false → option_and_then instr_of (slice_get words pc) ≡ Some i → does i.op ≡ true → is_name name (slice_get constants i.bx) ≡ true →
    1 ≤ uses_in does constants name (further_from inner n words) words
uses_in_some does constants name inner [] n pc i solid at done called = none_some i at
uses_in_some does constants name inner (w ∷ words) zero zero i solid at done called =
    let one : is_use does constants name (instr_of w) ≡ true = counted does constants name (instr_of w) i at done called in
    subst (λ b. 1 ≤ cond b 1 0 + uses_in does constants name (further_from inner (belonging inner (instr_of w)) words) words) (sym one) (omega arith)
uses_in_some does constants name inner (w ∷ words) zero (suc pc) i solid at done called =
    let rest = uses_in_some does constants name inner words (belonging inner (instr_of w)) pc i solid at done called in omega arith
uses_in_some does constants name inner (w ∷ words) (suc n) zero i solid at done called = absurd (true≢false solid)
uses_in_some does constants name inner (w ∷ words) (suc n) (suc pc) i solid at done called = uses_in_some does constants name inner words n pc i solid at done called

-- a word that is done, of its function
pub uses_some : (does : Op → Bool) (name : Text) (f : Chunk) (pc : ℕ) (i : Instr) → is_further f pc ≡ false → instr_at f pc ≡ Some i → does i.op ≡ true → is_name name (slice_get (own f).constants i.bx) ≡ true → 1 ≤ uses does name f
uses_some does name (function f inner) pc i solid at done called =
    let some = uses_in_some does f.constants name inner f.code 0 pc i solid at done called in omega arith

uses_at : (does : Op → Bool) (name : Text) (fs : Functions) (n : ℕ) (c : Chunk) → function_at fs n ≡ Some c → uses does name c ≤ uses_of does name fs
uses_at does name no_functions n c is = none_some c is
uses_at does name (and_function d rest) zero c is = subst (λ e. uses does name e ≤ uses does name d + uses_of does name rest) (some_one d c is) (omega arith)
uses_at does name (and_function d rest) (suc n) c is = let more = uses_at does name rest n c is in omega arith

-- a function that stands in one uses no more
pub uses_inner : (does : Op → Bool) (name : Text) (f : Chunk) (n : ℕ) (c : Chunk) → function_at (functions f) n ≡ Some c → uses does name c ≤ uses does name f
uses_inner does name (function f inner) n c is = let some = uses_at does name inner n c is in omega arith
