-- Serves a body: faults of a function of the program, and those that tell nothing of its words.
use Rattle.std.specs.Prelude.{◌≡◌}
use Rattle.proto.specs.Chunk.{Own, own}
use Rattle.proto.specs.View.{view_proto}
use Rattle.proto.specs.declared.proto.Proto.{Proto}
use Rattle.recover_expr.specs.declared.fault.Fault.{Fault}
use Rattle.recover_expr.specs.declared.fault.Reason.{Reason}
use Rattle.recover_expr.specs.declared.lost.Lost.{Lost}
use Rattle.recover_expr.specs.Reasons.{HasFault}

-- what a fault tells of the words of a function is so
abbrev pub IsFaultOf : Proto → Fault → Type 0
IsFaultOf proto fault = HasFault (own (view_proto proto)) fault

-- a fault that any function may have
pub record IsFree (fault : Fault) : Type 0 where
  pub fits : (f : Own) → HasFault f fault

-- what tells of no more than a pc, as a fault
abbrev pub IsSameFault : Lost → Fault → Type 0
IsSameFault (Lost.NotScheme pc) fault = fault ≡ Fault.At pc Reason.NotScheme
IsSameFault Lost.OutOfMemory fault = fault ≡ Fault.OutOfMemory
