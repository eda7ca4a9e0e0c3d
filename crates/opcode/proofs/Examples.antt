-- The words of some instructions, computed.
use Rattle.std.proofs.Common.{◌≡◌, pos, negsuc, refl}
use Rattle.opcode.specs.declared.op.Op.{Op}
use Rattle.opcode.specs.Word.{word_of}

-- MOVE 0 0 0
word_of-move : word_of (record { op = Op.Move; a = 0; b = 0; c = 0; bx = 0; sbx = pos 0 }) ≡ 0
word_of-move = refl

-- LOADK 1 1
word_of-loadk : word_of (record { op = Op.LoadK; a = 1; b = 0; c = 0; bx = 1; sbx = pos 0 }) ≡ 0x00004041
word_of-loadk = refl

-- CALL 0 2 1
word_of-call : word_of (record { op = Op.Call; a = 0; b = 2; c = 1; bx = 0; sbx = pos 0 }) ≡ 0x0100401c
word_of-call = refl

-- RETURN 0 1 0
word_of-return : word_of (record { op = Op.Return; a = 0; b = 1; c = 0; bx = 0; sbx = pos 0 }) ≡ 0x0080001e
word_of-return = refl

-- JMP 0 2
word_of-jmp : word_of (record { op = Op.Jmp; a = 0; b = 0; c = 0; bx = 0; sbx = pos 2 }) ≡ 0x80004016
word_of-jmp = refl

-- JMP 0 -4
word_of-jmp_back : word_of (record { op = Op.Jmp; a = 0; b = 0; c = 0; bx = 0; sbx = negsuc 3 }) ≡ 0x7ffec016
word_of-jmp_back = refl
