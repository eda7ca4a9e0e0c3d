-- Decoded words are the instructions of the words that were decoded.
use Rattle.std.proofs.Common.{◌≡◌, ◌∙◌, ◌/◌, ◌%◌, ◌<◌, ℕ, ℤ, pos, List, length, map, Option, Some, None, refl, sym, ap, subst}
use Rattle.std.specs.Prelude.{◌-ℤ◌, slice_get, option_map, option_and_then}
use Rattle.std.proofs.lemmas.Option.{slice_get-map, slice_get_within, option_and_then_some, same_Some}
use Rattle.opcode.specs.Reading.{instr_of, fields, opcodes}
use Rattle.opcode.specs.Word.{format_of}
use Rattle.opcode.specs.declared.op.Op.{Op}
use Rattle.opcode.specs.declared.op.Format.{Format}
use Rattle.opcode.specs.declared.word.Instr.{Instr}
use Rattle.rules.specs.Places.{jmp_of}
use Rattle.machine.specs.declared.word.Word.{Word}
use Rattle.machine.specs.Decoded.{op_or, decoded_of, b_in, c_in, bx_in, sbx_in, instr_in}

-- the fields of an opcode, by its format
same_op : (op : Op) (f : Format) (bits : ℕ) → (fields op f bits).op ≡ op
same_op op Format.Abc bits = refl
same_op op Format.Abx bits = refl
same_op op Format.Asbx bits = refl

same_fields : (op : Op) (f : Format) (bits : ℕ) → (let i : Instr = record { op = op; a = bits / 64 % 256; b = b_in f bits; c = c_in f bits; bx = bx_in f bits; sbx = sbx_in f bits } in i) ≡ fields op f bits
same_fields op Format.Abc bits = refl
same_fields op Format.Abx bits = refl
same_fields op Format.Asbx bits = refl

-- a word whose opcode is that of what was read
read_is : (o : Option Op) (bits : ℕ) (i : Instr) → option_map (λ op. fields op (format_of op) bits) o ≡ Some i → instr_in (record { op = op_or (option_map (λ op. fields op (format_of op) bits) o); a = bits / 64 % 256; bits = bits }) ≡ i
read_is None bits i is = cc
read_is (Some op) bits i is =
    let P : Op → Type 0 = λ o. instr_in (record { op = o; a = bits / 64 % 256; bits = bits }) ≡ fields op (format_of op) bits in
    subst P (sym (same_op op (format_of op) bits)) (same_fields op (format_of op) bits) ∙ same_Some _ i is

pub decoded_is : (bits : ℕ) (i : Instr) → instr_of bits ≡ Some i → instr_in (decoded_of bits) ≡ i
decoded_is bits i is = read_is (slice_get opcodes (bits % 64)) bits i is

-- a word that is read as a JMP is there
jump_there : {P : Type 0} (o : Option ℕ) (s : ℤ) → jmp_of (option_and_then instr_of o) ≡ Some s → ((bits : ℕ) → o ≡ Some bits → P) → P
jump_there None s jmp then = cc
jump_there (Some bits) s jmp then = then bits refl

-- a word that is read as a JMP has its distance in its bits
jump_is : (o : Option Op) (bits : ℕ) (s : ℤ) → jmp_of (option_map (λ op. fields op (format_of op) bits) o) ≡ Some s → Some s ≡ Some (pos (bits / 16384) -ℤ pos 131071)
jump_is None bits s is = cc
jump_is (Some Op.Jmp) bits s is = sym is
jump_is (Some _) bits s is = cc

pub jump_within : (code : List ℕ) (pc : ℕ) (s : ℤ) → jmp_of (option_and_then instr_of (slice_get code pc)) ≡ Some s → pc < length code
jump_within code pc s jmp = jump_there (slice_get code pc) s jmp (λ bits at. slice_get_within code pc bits at)

pub distance_is : (code : List ℕ) (pc bits : ℕ) (s : ℤ) → jmp_of (option_and_then instr_of (slice_get code pc)) ≡ Some s → slice_get code pc ≡ Some bits → jmp_of (option_and_then instr_of (slice_get code pc)) ≡ Some (pos (bits / 16384) -ℤ pos 131071)
distance_is code pc bits s jmp at = jmp ∙ jump_is (slice_get opcodes (bits % 64)) bits s (sym (ap (λ o. jmp_of (option_and_then instr_of o)) at) ∙ jmp)

-- a word that is there among words that were decoded
pub record DecodedAt (words : List Word) (pc : ℕ) (i : Instr) : Type 0 where
  pub word : Word
  pub has : slice_get words pc ≡ Some word
  pub means : instr_in word ≡ i

pub decoded_at : (code : List ℕ) (words : List Word) (pc : ℕ) (i : Instr) → words ≡ map decoded_of code → option_and_then instr_of (slice_get code pc) ≡ Some i → DecodedAt words pc i
decoded_at code words pc i are at = option_and_then_some instr_of (slice_get code pc) i at (λ bits found is. record {
  word = decoded_of bits;
  has = ap (λ ws. slice_get ws pc) are ∙ slice_get-map decoded_of code pc ∙ ap (option_map decoded_of) found;
  means = decoded_is bits i is;
})
