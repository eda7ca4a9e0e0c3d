-- A tree keeps the rules or has one first break of them, so one answer is left.
use Rattle.std.proofs.Common.{◌≡◌, ◌⊎◌, inl, inr, Option, Some, None, Result, Ok, Err, IfOk, IfErr, refl, ap}
use Rattle.lua_tree.specs.Syntax.{Source}
use Rattle.lua_tree.specs.Scoping.{Breach, no_loop, no_vararg, too_many_locals, too_many_upvalues, breach_of, Scoped}
use Rattle.scopes.specs.Faults.{StopsBy, IsFaultOf}
use Rattle.scopes.specs.declared.fault.ScopeFault.{ScopeFault}

-- the fault that says a breach
abbrev fault_by : Option Breach → Option ScopeFault
fault_by None = None
fault_by (Some (no_loop line)) = Some (ScopeFault.NoLoop line)
fault_by (Some (no_vararg line)) = Some (ScopeFault.NoVararg line)
fault_by (Some (too_many_locals line reached)) = Some (ScopeFault.TooManyLocals line reached)
fault_by (Some (too_many_upvalues line reached)) = Some (ScopeFault.TooManyUpvalues line reached)

fault_is : (source : Source) (fault : ScopeFault) → IsFaultOf source fault → fault_by (breach_of source) ≡ Some fault
fault_is source (ScopeFault.NoLoop line) is = ap fault_by is
fault_is source (ScopeFault.NoVararg line) is = ap fault_by is
fault_is source (ScopeFault.TooManyLocals line reached) is = ap fault_by is
fault_is source (ScopeFault.TooManyUpvalues line reached) is = ap fault_by is
fault_is source ScopeFault.OutOfMemory is = absurd is

one_fault : (source : Source) (one other : ScopeFault) → IsFaultOf source one → IsFaultOf source other → one ≡ other
one_fault source one other x y = let a = fault_is source one x in let b = fault_is source other y in cc

never_both : (source : Source) (fault : ScopeFault) → Scoped source → IsFaultOf source fault → ⊥
never_both source fault keeps is = let a = fault_is source fault is in let b : fault_by (breach_of source) ≡ None = ap fault_by keeps in cc

-- one answer is left
pub scopes_left : {A : Type 0} (source : Source) (answer : A) (result : Result A ScopeFault) → IfOk result (λ scopes. scopes ≡ answer) → IfErr result (StopsBy source) →
    Scoped source → (result ≡ Ok answer) ⊎ (result ≡ Err ScopeFault.OutOfMemory)
scopes_left source answer (Ok scopes) found stopped keeps = inl (ap Ok found)
scopes_left source answer (Err (ScopeFault.NoLoop line)) found stopped keeps = absurd (never_both source (ScopeFault.NoLoop line) keeps stopped)
scopes_left source answer (Err (ScopeFault.NoVararg line)) found stopped keeps = absurd (never_both source (ScopeFault.NoVararg line) keeps stopped)
scopes_left source answer (Err (ScopeFault.TooManyLocals line reached)) found stopped keeps = absurd (never_both source (ScopeFault.TooManyLocals line reached) keeps stopped)
scopes_left source answer (Err (ScopeFault.TooManyUpvalues line reached)) found stopped keeps = absurd (never_both source (ScopeFault.TooManyUpvalues line reached) keeps stopped)
scopes_left source answer (Err ScopeFault.OutOfMemory) found stopped keeps = inr refl

pub fault_left : {A : Type 0} (source : Source) (result : Result A ScopeFault) → IfOk result (λ scopes. Scoped source) → IfErr result (StopsBy source) →
    (fault : ScopeFault) → IsFaultOf source fault → (result ≡ Err fault) ⊎ (result ≡ Err ScopeFault.OutOfMemory)
fault_left source (Ok scopes) keeps stopped fault is = absurd (never_both source fault keeps is)
fault_left source (Err (ScopeFault.NoLoop line)) keeps stopped fault is = inl (ap Err (one_fault source (ScopeFault.NoLoop line) fault stopped is))
fault_left source (Err (ScopeFault.NoVararg line)) keeps stopped fault is = inl (ap Err (one_fault source (ScopeFault.NoVararg line) fault stopped is))
fault_left source (Err (ScopeFault.TooManyLocals line reached)) keeps stopped fault is = inl (ap Err (one_fault source (ScopeFault.TooManyLocals line reached) fault stopped is))
fault_left source (Err (ScopeFault.TooManyUpvalues line reached)) keeps stopped fault is = inl (ap Err (one_fault source (ScopeFault.TooManyUpvalues line reached) fault stopped is))
fault_left source (Err ScopeFault.OutOfMemory) keeps stopped fault is = inr refl
