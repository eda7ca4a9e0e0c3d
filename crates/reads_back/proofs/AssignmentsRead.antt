-- Words that end an assignment are read as its step.
use Rattle.std.proofs.Common.{◌≡◌, ℕ, ◌+◌, ◌<◌, List, Option, Some, refl, sym, ap, ◌∙◌, subst, arith}
use Rattle.lua_tree.specs.Syntax.{Statement}
use Rattle.core_expr.specs.Places.{place}
use Rattle.recover_expr.specs.Drafts.{Drafted}
use Rattle.recover_expr.specs.Entries.{Entries}
use Rattle.recover_expr.specs.Locals.{Scope}
use Rattle.recover_expr.specs.Reading.{Turn, over, turn_at, words_from}
use Rattle.recover_expr.specs.Situation.{Function, Situation}
use Rattle.scheme.specs.declared.making.Active.{Active}
use Rattle.scheme_stands.specs.Words.{Fn}
use Rattle.reads_back.specs.Acted.{Acted, IsActed, act_levels, act_statement, taken_behind_act}
use Rattle.reads_back.specs.ReadAs.{part_of}
use Rattle.reads_back.proofs.ActsRead.{ActRead, Declares, act_draft, after_act, kind_of_act, locals_of, same_declares}
use Rattle.reads_back.proofs.BehindWords.{SameLocals}
use Rattle.reads_back.proofs.Reaches.{Reaches, reaches_on, step_ends}

-- ---- the step

-- the step, and what is known behind it, where so many constants are taken
abbrev step_of : Function → (next : ℕ) → Acted → Scope → Situation → (seen : ℕ) → Drafted
step_of f next acted scope s seen = act_draft f next acted (record s { scope = scope; seen = seen })

abbrev known_behind : Acted → Scope → Entries → Situation → (seen : ℕ) → Situation
known_behind acted scope entries s seen = record (after_act acted (record s { scope = scope; seen = seen })) { entries = entries }

-- words that are read as the step are this act
act_is_read : {f : Function} {g : Fn} {active : List Active} {statement : Statement} {before behind first last : ℕ} {s : Situation} (acted : Acted) (next : ℕ) (scope : Scope) (entries : Entries) → locals_of acted ≡ 0 → IsActed g active statement before behind acted →
    SameLocals s.scope scope → next ≡ last → first < last →
    ((count : ℕ) → last < count + first → words_from f count first s ≡ Some (step_of f next acted scope s (taken_behind_act acted s.seen), known_behind acted scope entries s (taken_behind_act acted s.seen))) →
    ActRead f g active statement before behind s first last
act_is_read {f} {s = s} acted next scope entries none is same is_next later reads = record {
  acted = acted;
  is = is;
  draft = step_of f next acted scope s (taken_behind_act acted s.seen);
  behind = known_behind acted scope entries s (taken_behind_act acted s.seen);
  reads = reads;
  kind = ap (λ (first : ℕ). kind_of_act first acted) same.declared;
  pc = refl;
  next = is_next;
  part = ap (λ (listed : List ℕ). part_of (act_statement (place f.of listed f.short) s.taken s.left acted)) same.active;
  levels = ap (λ (listed : List ℕ). act_levels (place f.of listed f.short) s.taken s.left acted) same.active;
  declares = subst (λ (count : ℕ). Declares count s.scope scope) (sym none) (same_declares same);
  left = refl;
  seen = refl;
  later = later;
}

-- a turn ends it
pub turn_acts : {f : Function} {g : Fn} {active : List Active} {statement : Statement} {before behind first last pc : ℕ} {s t : Situation} (acted : Acted) (scope : Scope) (seen : ℕ) (entries : Entries) → locals_of acted ≡ 0 → IsActed g active statement before behind acted →
    SameLocals s.scope scope → taken_behind_act acted s.seen ≡ seen → Reaches f first s pc t → pc < last →
    turn_at f pc t ≡ Some (over (step_of f last acted scope s seen), known_behind acted scope entries s seen) → ActRead f g active statement before behind s first last
turn_acts {f} {last = last} {s = s} acted scope seen entries none is same taken reaches later turn =
    let ended : ℕ → Option (Turn × Situation) = λ seen. Some (over (step_of f last acted scope s seen), known_behind acted scope entries s seen) in
    act_is_read acted last scope entries none is same refl (omega (arith, reaches_on reaches, later))
    (λ count few. step_ends (step_of f last acted scope s (taken_behind_act acted s.seen)) count reaches (turn ∙ ap ended (sym taken)) (omega (arith, later, few)))
