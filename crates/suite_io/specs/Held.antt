-- Serves the bodies. What the forms in memory hold.
use Rattle.std.specs.Prelude.{ℕ, ◌+◌, ◌-◌, ◌^◌, ◌≤◌, List, [], ◌∷◌, refl, Bool, length, Contains, MatchOption, min, String}
use Rattle.std.specs.FinMap.{get, insert, empty, code}
use Rattle.std.specs.String.{string_bytes}
use Rattle.std.specs.Coded.{Coded, code_by, coded×, coded_list, coded_ℕ, coded_bool}
use Rattle.suite_io.specs.declared.calls.FileCall.{FileCall}
use Rattle.suite_io.specs.Contents.{Contents}

-- files in memory: what they hold, the calls so far, and the numbers of the calls that fail
pub record HeldFiles : Type 0 where
  pub contents : Contents
  pub calls : List FileCall
  pub fails : List ℕ

-- a call is stored as the tuple of its fields
abbrev pub call_code : Coded FileCall
call_code =
    code_by (Bool × (List ℕ × Bool)) (coded× coded_bool (coded× (coded_list coded_ℕ) coded_bool))
    (λ c. (c.store, (c.name, c.failed))) (λ p. record { store = p.0; name = p.1.0; failed = p.1.1 }) (λ _. refl)

-- and so are files in memory
abbrev pub held_files_code : Coded HeldFiles
held_files_code =
    code_by (Contents × (List FileCall × List ℕ))
    (coded× (code (coded_list coded_ℕ) (coded_list coded_ℕ)) (coded× (coded_list call_code) (coded_list coded_ℕ)))
    (λ h. (h.contents, (h.calls, h.fails))) (λ p. record { contents = p.0; calls = p.1.0; fails = p.1.1 }) (λ _. refl)

-- the contents that entries make, by the bytes of their names. At a name that stands twice the first one counts
abbrev pub contents_of : {Y : Type 0} → List (String Y × List ℕ) → Contents
contents_of [] = empty
contents_of (entry ∷ entries) = insert (contents_of entries) (string_bytes entry.0) entry.1

-- the next call, counted from 1, is one that fails
abbrev pub NextFails : HeldFiles → Type 0
NextFails held = Contains held.fails (length held.calls + 1)

-- there is nothing to fetch: the name is missing, or its content is not below 2^28 bytes
abbrev pub NothingToFetch : HeldFiles → List ℕ → Type 0
NothingToFetch held name = MatchOption (get held.contents name) (Unit {0}) (λ bytes. 2 ^ 28 ≤ length bytes)

-- a sink in memory: the bytes taken, the count of faults, the calls answered so far by success or
-- `Failed`, the numbers of the calls that fail, and how many bytes a call takes at most
pub record HeldBytes : Type 0 where
  pub taken : List ℕ
  pub faults : ℕ
  pub puts : ℕ
  pub fails : List ℕ
  pub limit : ℕ

-- one more, as far as a number of 64 bits goes
abbrev pub one_more : ℕ → ℕ
one_more n = min (n + 1) (2 ^ 64 - 1)

-- the next call, counted from 1, is one that fails
abbrev pub NextPutFails : HeldBytes → Type 0
NextPutFails held = Contains held.fails (one_more held.puts)
