-- What is known of locals, entries and constants behind words.
use Rattle.std.proofs.Common.{◌≡◌, ℕ, List, ◌++◌, length, refl, ap, ◌∙◌, drop}
use Rattle.std.specs.List.{prefix_len}
use Rattle.std.specs.Prelude.{◌==◌, ◌-◌, not, option_and_then, slice_get}
use Rattle.proto.specs.declared.parts.LocVar.{LocVar}
use Rattle.recover_expr.specs.Entries.{Entries}
use Rattle.recover_expr.specs.Items.{all_stay}
use Rattle.recover_expr.specs.Locals.{Scope, end_of, is_over, starting}
use Rattle.recover_expr.specs.Situation.{Function, Situation}
use Rattle.scheme.specs.declared.making.Active.{Active}
use Rattle.reads_back.proofs.WordsRead.{IsQuiet}

-- the same locals are declared and active, some more of them captured maybe
pub record SameLocals (before behind : Scope) : Type 0 where
  pub declared : length behind.declared ≡ length before.declared
  pub active : behind.active ≡ before.active

pub same_locals : (scope : Scope) → SameLocals scope scope
same_locals scope = record { declared = refl; active = refl }

pub same_then : {scope mid behind : Scope} → SameLocals scope mid → SameLocals mid behind → SameLocals scope behind
same_then one more = record { declared = more.declared ∙ one.declared; active = more.active ∙ one.active }

-- as many start at a pc
pub starting_same : (locals : List LocVar) (pc : ℕ) {scope behind : Scope} → SameLocals scope behind → starting locals pc behind ≡ starting locals pc scope
starting_same locals pc same = ap (λ n. prefix_len (λ (local : LocVar). local.start == pc) (drop n locals)) same.declared

-- as many stay
pub stay_same : (f : Function) (pc : ℕ) {scope behind : Scope} → SameLocals scope behind → all_stay f behind pc ≡ all_stay f scope pc
stay_same f pc same = ap (λ (active : List ℕ). not (is_over pc (option_and_then (end_of f.of.locals) (slice_get active (length active - 1))))) same.active

pub quiet_same : {f : Function} {scope behind : Scope} {first last : ℕ} → SameLocals scope behind → IsQuiet f scope first last → IsQuiet f behind first last
quiet_same {f} same quiet = record {
  none = λ pc from below. starting_same f.of.locals pc same ∙ quiet.none pc from below;
  stays = λ pc from below. stay_same f pc same ∙ quiet.stays pc from below;
  within = quiet.within;
}

-- so many locals are below the entries, at these places in the list
pub record HasLocals (active : List Active) (listed : List ℕ) (s : Situation) : Type 0 where
  pub base : s.base ≡ length active
  pub places : s.scope.active ≡ listed

-- behind words that took constants and captured locals, with these entries more
abbrev pub behind_words : (scope : Scope) → (seen : ℕ) → (more : Entries) → Situation → Situation
behind_words scope seen more s = record s { scope = scope; entries = s.entries ++ more; seen = seen }

-- the locals are known there too
pub locals_then : {active : List Active} {listed : List ℕ} {s : Situation} {scope : Scope} {entries : Entries} {seen : ℕ} → SameLocals s.scope scope → HasLocals active listed s → HasLocals active listed (record s { scope = scope; entries = entries; seen = seen })
locals_then same locals = record { base = locals.base; places = same.active ∙ locals.places }
