-- The fault that a call hands on.
use Rattle.std.proofs.Common.{◌≡◌, Result, Ok, Err}
use Rattle.std.specs.Result.{IsErrAnd, OnOk}
use Rattle.core_expr.specs.declared.fault.CoreFault.{CoreFault}
use Rattle.core_expr.specs.declared.fault.CoreFault.TheVariants.{NotScheme}

-- what it says where the call says it
pub handed_on : {A B P : Type 0} (result : Result A CoreFault) (fault : CoreFault) → IsErrAnd result (λ other. other ≡ fault) → (let call : Result B CoreFault = Err fault in call ≡ Err NotScheme → P) → result ≡ Err NotScheme → P
handed_on (Ok a) fault is says refusal = absurd is
handed_on (Err other) fault is says refusal = says cc

-- what holds whatever the result
pub either_way : {A P : Type 0} (result : Result A CoreFault) → P → OnOk result P
either_way (Ok a) holds = holds
either_way (Err fault) holds = tt

-- what follows from what holds where it went well
pub where_ok : {A P Q : Type 0} (result : Result A CoreFault) → (P → Q) → OnOk result P → OnOk result Q
where_ok (Ok a) follows holds = follows holds
where_ok (Err fault) follows holds = tt
