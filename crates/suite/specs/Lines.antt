-- To be believed. Statuses, what a call comes to, and the line that each puts to the sink of errors.
use Rattle.std.specs.Prelude.{◌≡◌, ℕ, List, [], ◌∷◌, ◌++◌, ◌⊎◌, Option, codes}
use Rattle.std.specs.Fmt.{decimal}
use Rattle.chunk_io.specs.Texts as chunk_faults
use Rattle.asm_text.specs.Texts as list_faults
use Rattle.front.specs.Texts.{fault_text}
use Rattle.decompile.specs.Texts.{refusal_text}
use Rattle.suite_io.specs.Parts.{TakesPart}
use Rattle.suite_io.specs.Taken.{Takes, Rises}
use Rattle.suite.specs.declared.status.Status.{Status}
use Rattle.suite.specs.declared.outcome.Outcome.{Outcome}
use Rattle.suite.specs.Rejections.{rejection_text}

abbrev pub number_of : Status → ℕ
number_of Status.Done = 0
number_of Status.ScriptFailed = 1
number_of Status.BadWords = 2
number_of Status.Unfinished = 3
number_of Status.BadSource = 4
number_of Status.BadChunk = 5
number_of Status.Rejected = 6
number_of Status.NotDecompiled = 7
number_of Status.ReadFault = 8
number_of Status.WriteFault = 9
number_of Status.OutOfMemory = 10
number_of Status.BadListing = 12

-- the status of what the work came to
abbrev pub status_of : Outcome → Status
status_of Outcome.Done = Status.Done
status_of (Outcome.ScriptFailed why) = Status.ScriptFailed
status_of Outcome.BadWords = Status.BadWords
status_of (Outcome.Unfinished steps) = Status.Unfinished
status_of (Outcome.BadSource fault) = Status.BadSource
status_of (Outcome.BadChunk fault) = Status.BadChunk
status_of (Outcome.Rejected rejection) = Status.Rejected
status_of (Outcome.NotDecompiled refused) = Status.NotDecompiled
status_of (Outcome.BadListing fault) = Status.BadListing
status_of Outcome.ReadFault = Status.ReadFault
status_of Outcome.WriteFault = Status.WriteFault
status_of Outcome.OutOfMemory = Status.OutOfMemory

-- how many steps a run was going for
abbrev pub steps_text : ℕ → List ℕ
steps_text steps = codes "unfinished after " ++ (decimal steps ++ codes " steps")

-- a line that speaks of a file of this name: `luasuite: `, the name, the text, and a line end
abbrev pub line_with : List ℕ → List ℕ → List ℕ
line_with name text = codes "luasuite: " ++ (name ++ (text ++ 10 ∷ []))

-- what a line says of the file that it names
abbrev pub behind_name : List ℕ → List ℕ
behind_name text = codes ": " ++ text

abbrev pub line_of : Outcome → List ℕ → List ℕ
line_of Outcome.Done name = []
line_of (Outcome.ScriptFailed why) name = line_with [] why
line_of Outcome.BadWords name = line_with [] (codes "bad words")
line_of (Outcome.Unfinished steps) name = line_with [] (steps_text steps)
line_of (Outcome.BadSource fault) name = line_with name (behind_name (fault_text fault))
line_of (Outcome.BadChunk fault) name = line_with name (behind_name (chunk_faults.fault_text fault))
line_of (Outcome.Rejected rejection) name = line_with name (behind_name (rejection_text rejection))
line_of (Outcome.NotDecompiled refused) name = line_with name (behind_name (refusal_text refused))
line_of (Outcome.BadListing fault) name = line_with name (behind_name (list_faults.fault_text fault))
line_of Outcome.ReadFault name = line_with name (behind_name (codes "read failed"))
line_of Outcome.WriteFault name = line_with [] (codes "write failed")
line_of Outcome.OutOfMemory name = line_with [] (codes "out of memory")

-- what becomes of a status whose line was refused. One that is a fault of writing or want of memory stays. Every other
-- becomes a fault of writing, where the count of the sink rose, or want of memory
abbrev pub Refused : Status → Status → ℕ → ℕ → Type 0
Refused Status.WriteFault result old new = result ≡ Status.WriteFault
Refused Status.OutOfMemory result old new = result ≡ Status.OutOfMemory
Refused _ result old new = ((result ≡ Status.WriteFault) × Rises old new) ⊎ (result ≡ Status.OutOfMemory)

-- a line is put: the status stays and the sink takes the line, or a put was refused and the sink took a first part of it
abbrev pub IsPut : Status → List ℕ → Status → Option (List ℕ) → Option (List ℕ) → ℕ → ℕ → Type 0
IsPut status line result before after old new =
    ((result ≡ status) × Takes before after line) ⊎ (Refused status result old new × TakesPart before after line)

-- the same, but that where there is no memory for the text of a line, the line is that of want of memory
abbrev pub IsPutOrWanting : Outcome → List ℕ → Status → Option (List ℕ) → Option (List ℕ) → ℕ → ℕ → Type 0
IsPutOrWanting outcome name result before after old new =
    IsPut (status_of outcome) (line_of outcome name) result before after old new ⊎ IsPut Status.OutOfMemory (line_of Outcome.OutOfMemory name) result before after old new

-- what becomes of the status while the line is put; at success nothing is put
abbrev pub Reported : Outcome → List ℕ → Status → Option (List ℕ) → Option (List ℕ) → ℕ → ℕ → Type 0
Reported Outcome.Done name result before after old new = (result ≡ Status.Done) × Takes before after []
Reported (Outcome.Unfinished steps) name result before after old new = IsPutOrWanting (Outcome.Unfinished steps) name result before after old new
Reported (Outcome.BadSource fault) name result before after old new = IsPutOrWanting (Outcome.BadSource fault) name result before after old new
Reported (Outcome.BadChunk fault) name result before after old new = IsPutOrWanting (Outcome.BadChunk fault) name result before after old new
Reported (Outcome.Rejected rejection) name result before after old new = IsPutOrWanting (Outcome.Rejected rejection) name result before after old new
Reported (Outcome.NotDecompiled refused) name result before after old new = IsPutOrWanting (Outcome.NotDecompiled refused) name result before after old new
Reported (Outcome.BadListing fault) name result before after old new = IsPutOrWanting (Outcome.BadListing fault) name result before after old new
Reported outcome name result before after old new = IsPut (status_of outcome) (line_of outcome name) result before after old new
