-- To be believed. The list of the calls of files, and the count of their faults.
use Rattle.std.specs.Prelude.{ℕ, Bool, true, false, List, [], ◌∷◌, ◌++◌, Result, Ok, Err, count_by}
use Rattle.suite_io.specs.declared.calls.FileCall.{FileCall}
use Rattle.suite_io.specs.declared.files.FileFault.{FileFault}
use Rattle.suite_io.specs.declared.files.FileFault.TheVariants.{Failed, OutOfMemory}

-- the entry of a call
abbrev pub call_of : Bool → List ℕ → Bool → FileCall
call_of store name failed = record { store = store; name = name; failed = failed }

-- the list after a call with this answer: success and `Failed` are listed, want of memory is not
abbrev pub calls_after : {T : Type 0} → List FileCall → Bool → List ℕ → Result T FileFault → List FileCall
calls_after calls store name (Ok x) = calls ++ call_of store name false ∷ []
calls_after calls store name (Err Failed) = calls ++ call_of store name true ∷ []
calls_after calls store name (Err OutOfMemory) = calls

-- the count of faults is the number of failed entries, so it never falls
abbrev pub fault_count : List FileCall → ℕ
fault_count calls = count_by (λ call. call.failed) calls
