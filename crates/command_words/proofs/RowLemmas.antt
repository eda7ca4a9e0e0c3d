-- The rows that clap holds, by what the words behind it said.
use Rattle.std.proofs.Common.{◌≡◌, ◌∙◌, ◌++◌, Bool, true, false, true≢false, is_some, List, [], ◌∷◌, Option, Some, None, option_map, refl, ap}
use Rattle.std.proofs.Common.{append-nil}
use Rattle.std.specs.Prelude.{codes, find}
use Rattle.std.specs.Str.{bytes_eq}
use Rattle.clap.specs.Kinds.{or_else}
use Rattle.clap.specs.Walk.{Row, Rule, Text, at_row, has_row, more_values, used, with_values, without}
use Rattle.clap.specs.Faults.{repeat_fault, use_fault}
use Rattle.clap.specs.declared.builder.value_parser.Reading.TheVariants.{AsWritten}
use Rattle.clap.specs.declared.parser.matches.ValueSource.TheVariants.{CommandLine}
use Rattle.command_words.proofs.RuleLemmas.{built_file, built_layout, built_out, built_steps, built_strip}
use Rattle.command_words.proofs.TurnLemmas.{Valued, layout, past, rule_at, steps, using}

-- the row of an id, where there is one
abbrev pub row_in : Text → List Row → Option Row
row_in id = find (λ r. bytes_eq r.id id)

abbrev pub row_for : Text → List Text → Row
row_for id values = record {
  id = id;
  values = values;
  count = None;
  source = Some CommandLine;
  reading = AsWritten;
}

pub has_row_is : (id : Text) (rows : List Row) → has_row id rows ≡ is_some (row_in id rows)
has_row_is id [] = refl
has_row_is id (r ∷ rows) = go (bytes_eq r.id id) refl (has_row_is id rows)
  where
    go : (b : Bool) → bytes_eq r.id id ≡ b → has_row id rows ≡ is_some (row_in id rows) → has_row id (r ∷ rows) ≡ is_some (row_in id (r ∷ rows))
    go true e later = rw e refl
    go false e later = rw e later

pub row_in_other : (id : Text) (r : Row) (rows : List Row) → bytes_eq r.id id ≡ false → row_in id (rows ++ r ∷ []) ≡ row_in id rows
row_in_other id r [] other = rw other refl
row_in_other id r (x ∷ rows) other = go (bytes_eq x.id id) refl (row_in_other id r rows other)
  where
    go : (b : Bool) → bytes_eq x.id id ≡ b → row_in id (rows ++ r ∷ []) ≡ row_in id rows → row_in id ((x ∷ rows) ++ r ∷ []) ≡ row_in id (x ∷ rows)
    go true e later = rw e refl
    go false e later = rw e later

pub row_in_new : (id : Text) (r : Row) (rows : List Row) → bytes_eq r.id id ≡ true → row_in id rows ≡ None → row_in id (rows ++ r ∷ []) ≡ Some r
row_in_new id r [] new none = rw new refl
row_in_new id r (x ∷ rows) new none = go (bytes_eq x.id id) refl none (row_in_new id r rows new)
  where
    go : (b : Bool) → bytes_eq x.id id ≡ b → row_in id (x ∷ rows) ≡ None → (row_in id rows ≡ None → row_in id (rows ++ r ∷ []) ≡ Some r) → row_in id ((x ∷ rows) ++ r ∷ []) ≡ Some r
    go true e h later =
        let bad : Some x ≡ None = rw e at h in
        cc
    go false e h later = rw e (later (rw e at h))

pub at_missing : (id : Text) (change : Row → List Row) (missing rows : List Row) → has_row id rows ≡ false → at_row id change missing rows ≡ rows ++ missing
at_missing id change missing [] none = refl
at_missing id change missing (x ∷ rows) none = go (bytes_eq x.id id) refl none (at_missing id change missing rows)
  where
    go : (b : Bool) → bytes_eq x.id id ≡ b → has_row id (x ∷ rows) ≡ false → (has_row id rows ≡ false → at_row id change missing rows ≡ rows ++ missing) → at_row id change missing (x ∷ rows) ≡ (x ∷ rows) ++ missing
    go true e h later = absurd (true≢false (rw e at h))
    go false e h later = rw e (ap (λ (xs : List Row). x ∷ xs) (later (rw e at h)))

-- ---- one use of an argument

-- a use with what is given holds these values, and is refused only where there is one already
record IsOnce (a : Rule) (given values : List Text) : Type 0 where
  faults : (rows : List Row) → use_fault false a given rows ≡ or_else (repeat_fault false a.id rows) []
  rows : (rows : List Row) → used a given rows ≡ with_values a.id AsWritten CommandLine values (without a.id rows)

module _ (a : Rule) (given values : List Text) (once : IsOnce a given values) where
  using_again : (rows : List Row) (next : List Row → Option (List Row)) → has_row a.id rows ≡ true → using a given rows next ≡ None
  using_again rows next seen = ap (λ ks. past ks (next (used a given rows))) (once.faults rows) ∙ rw seen refl

  using_new : (rows : List Row) (next : List Row → Option (List Row)) → has_row a.id rows ≡ false → using a given rows next ≡ next (rows ++ row_for a.id values ∷ [])
  using_new rows next new =
      ap (λ ks. past ks (next (used a given rows))) (once.faults rows) ∙ rw new (ap next (once.rows rows
      ∙ ap (with_values a.id AsWritten CommandLine values) (at_missing a.id (λ _. []) [] rows new ∙ append-nil rows) ∙ at_missing a.id (more_values CommandLine values) (row_for a.id values ∷ []) rows new))

once_file : (v : Text) → IsOnce built_file (v ∷ []) (v ∷ [])
once_file v = record { faults = λ rows. refl; rows = λ rows. refl }

once_out : (v : Text) → IsOnce built_out (v ∷ []) (v ∷ [])
once_out v = record { faults = λ rows. refl; rows = λ rows. refl }

once_strip : IsOnce built_strip [] (codes "true" ∷ [])
once_strip = record { faults = λ rows. refl; rows = λ rows. refl }

once_steps : (v : Text) → IsOnce built_steps (v ∷ []) (v ∷ [])
once_steps v = record { faults = λ rows. refl; rows = λ rows. refl }

once_layout : (v : Text) → IsOnce built_layout (v ∷ []) (v ∷ [])
once_layout v = record { faults = λ rows. refl; rows = λ rows. refl }

-- ---- what the words said so far

pub record Seen : Type 0 where
  pub file : Option Text
  pub out : Option Text
  pub strip : Bool
  pub steps : Option Text
  pub layout : Option Text

abbrev pub strip_row : Bool → Option Row
strip_row true = Some (row_for (codes "strip") (codes "true" ∷ []))
strip_row false = None

abbrev pub value_row : Text → Option Text → Option Row
value_row id = option_map (λ v. row_for id (v ∷ []))

pub record Holds (rows : List Row) (seen : Seen) : Type 0 where
  pub file : row_in (codes "file") rows ≡ value_row (codes "file") seen.file
  pub out : row_in (codes "out") rows ≡ value_row (codes "out") seen.out
  pub strip : row_in (codes "strip") rows ≡ strip_row seen.strip
  pub steps : row_in (codes "steps") rows ≡ value_row (codes "steps") seen.steps
  pub layout : row_in (codes "layout") rows ≡ value_row (codes "layout") seen.layout

pub nothing_holds : Holds [] (record { file = None; out = None; strip = false; steps = None; layout = None })
nothing_holds = record { file = refl; out = refl; strip = refl; steps = refl; layout = refl }

abbrev pub value_at : Valued → Seen → Option Text
value_at steps seen = seen.steps
value_at layout seen = seen.layout

abbrev pub with_value : Valued → Text → Seen → Seen
with_value steps v seen = record seen { steps = Some v }
with_value layout v seen = record seen { layout = Some v }

module _ (rows : List Row) (seen : Seen) (h : Holds rows seen) where
  no_row : (id : Text) (o : Option Row) → row_in id rows ≡ o → is_some o ≡ false → has_row id rows ≡ false
  no_row id o is none = has_row_is id rows ∙ ap is_some is ∙ none

  a_row : (id : Text) (o : Option Row) → row_in id rows ≡ o → is_some o ≡ true → has_row id rows ≡ true
  a_row id o is some = has_row_is id rows ∙ ap is_some is ∙ some

  -- each is used once at most
  pub file_used : (v : Text) (next : List Row → Option (List Row)) → seen.file ≡ None
      → (now : List Row) × (using built_file (v ∷ []) rows next ≡ next now) × Holds now (record seen { file = Some v })
  file_used v next none =
      let free : row_in (codes "file") rows ≡ None = h.file ∙ ap (value_row (codes "file")) none in
      let r = row_for (codes "file") (v ∷ []) in (
        rows ++ r ∷ [],
        using_new built_file (v ∷ []) (v ∷ []) (once_file v) rows next (no_row (codes "file") None free refl),
        record {
          file = row_in_new (codes "file") r rows refl free;
          out = row_in_other (codes "out") r rows refl ∙ h.out;
          strip = row_in_other (codes "strip") r rows refl ∙ h.strip;
          steps = row_in_other (codes "steps") r rows refl ∙ h.steps;
          layout = row_in_other (codes "layout") r rows refl ∙ h.layout;
        },
      )

  pub out_used : (v : Text) (next : List Row → Option (List Row)) → seen.out ≡ None
      → (now : List Row) × (using built_out (v ∷ []) rows next ≡ next now) × Holds now (record seen { out = Some v })
  out_used v next none =
      let free : row_in (codes "out") rows ≡ None = h.out ∙ ap (value_row (codes "out")) none in
      let r = row_for (codes "out") (v ∷ []) in (
        rows ++ r ∷ [],
        using_new built_out (v ∷ []) (v ∷ []) (once_out v) rows next (no_row (codes "out") None free refl),
        record {
          file = row_in_other (codes "file") r rows refl ∙ h.file;
          out = row_in_new (codes "out") r rows refl free;
          strip = row_in_other (codes "strip") r rows refl ∙ h.strip;
          steps = row_in_other (codes "steps") r rows refl ∙ h.steps;
          layout = row_in_other (codes "layout") r rows refl ∙ h.layout;
        },
      )

  pub strip_used : (next : List Row → Option (List Row)) → seen.strip ≡ false
      → (now : List Row) × (using built_strip [] rows next ≡ next now) × Holds now (record seen { strip = true })
  strip_used next none =
      let free : row_in (codes "strip") rows ≡ None = h.strip ∙ ap strip_row none in
      let r = row_for (codes "strip") (codes "true" ∷ []) in (
        rows ++ r ∷ [],
        using_new built_strip [] (codes "true" ∷ []) once_strip rows next (no_row (codes "strip") None free refl),
        record {
          file = row_in_other (codes "file") r rows refl ∙ h.file;
          out = row_in_other (codes "out") r rows refl ∙ h.out;
          strip = row_in_new (codes "strip") r rows refl free;
          steps = row_in_other (codes "steps") r rows refl ∙ h.steps;
          layout = row_in_other (codes "layout") r rows refl ∙ h.layout;
        },
      )

  pub strip_again : (next : List Row → Option (List Row)) → seen.strip ≡ true → using built_strip [] rows next ≡ None
  strip_again next some = using_again built_strip [] (codes "true" ∷ []) once_strip rows next (a_row (codes "strip") _ (h.strip ∙ ap strip_row some) refl)

  pub value_used : (k : Valued) (v : Text) (next : List Row → Option (List Row)) → value_at k seen ≡ None
      → (now : List Row) × (using (rule_at k) (v ∷ []) rows next ≡ next now) × Holds now (with_value k v seen)
  value_used steps v next none =
      let free : row_in (codes "steps") rows ≡ None = h.steps ∙ ap (value_row (codes "steps")) none in
      let r = row_for (codes "steps") (v ∷ []) in (
        rows ++ r ∷ [],
        using_new built_steps (v ∷ []) (v ∷ []) (once_steps v) rows next (no_row (codes "steps") None free refl),
        record {
          file = row_in_other (codes "file") r rows refl ∙ h.file;
          out = row_in_other (codes "out") r rows refl ∙ h.out;
          strip = row_in_other (codes "strip") r rows refl ∙ h.strip;
          steps = row_in_new (codes "steps") r rows refl free;
          layout = row_in_other (codes "layout") r rows refl ∙ h.layout;
        },
      )
  value_used layout v next none =
      let free : row_in (codes "layout") rows ≡ None = h.layout ∙ ap (value_row (codes "layout")) none in
      let r = row_for (codes "layout") (v ∷ []) in (
        rows ++ r ∷ [],
        using_new built_layout (v ∷ []) (v ∷ []) (once_layout v) rows next (no_row (codes "layout") None free refl),
        record {
          file = row_in_other (codes "file") r rows refl ∙ h.file;
          out = row_in_other (codes "out") r rows refl ∙ h.out;
          strip = row_in_other (codes "strip") r rows refl ∙ h.strip;
          steps = row_in_other (codes "steps") r rows refl ∙ h.steps;
          layout = row_in_new (codes "layout") r rows refl free;
        },
      )

  pub value_again : (k : Valued) (v : Text) (w : Text) (next : List Row → Option (List Row)) → value_at k seen ≡ Some w → using (rule_at k) (v ∷ []) rows next ≡ None
  value_again steps v w next some = using_again built_steps (v ∷ []) (v ∷ []) (once_steps v) rows next (a_row (codes "steps") _ (h.steps ∙ ap (value_row (codes "steps")) some) refl)
  value_again layout v w next some = using_again built_layout (v ∷ []) (v ∷ []) (once_layout v) rows next (a_row (codes "layout") _ (h.layout ∙ ap (value_row (codes "layout")) some) refl)
