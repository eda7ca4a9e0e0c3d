-- What a parse of words that were passed tells of them.
use Rattle.std.proofs.Common.{◌≡◌, ◌∙◌, inl, inr, true, List, [], ◌∷◌, Option, Some, None, drop, option_map, ap, ap₂, sym, subst}
use Rattle.clap.specs.Kinds.{HasKind, Kinds}
use Rattle.clap.specs.Values.{kind_of}
use Rattle.clap.specs.Matches.{found_of}
use Rattle.clap.specs.Walk.{Row, rows_of}
use Rattle.clap.specs.Simple.{App, HasMatchesOf, is_simple, matches_of}
use Rattle.clap.specs.Faults.{fault_of, is_simple_and_free}
use Rattle.clap.specs.declared.error.Error.{Error}
use Rattle.clap.specs.declared.error.kind.ErrorKind.TheVariants.{OutOfMemory}
use Rattle.clap.specs.declared.parser.matches.ArgMatches.{ArgMatches}
use Rattle.clap.proofs.WalkLemmas.{both}
use Rattle.command_words.specs.declared.reading.Form.{Form}
use Rattle.command_words.specs.declared.reading.Found.{Found}
use Rattle.command_words.specs.Arguments.{Arguments, Words, arguments_in, asked_of, texts}
use Rattle.command_words.specs.Parser.{AreRowsOf, app_for, with_plain_values}
use Rattle.command_words.proofs.RuleLemmas.{is_built}
use Rattle.command_words.proofs.TurnLemmas.{past}
use Rattle.command_words.proofs.AskedLemmas.{Shows}
use Rattle.command_words.proofs.ReadLemmas.{all_texts, parse_reads, texts_behind}

module _ (form : Form) (words : Words) (app : App) (is : app ≡ app_for form) where
  abbrev asks : Option Arguments
  asks = arguments_in form (drop 1 (texts words))

  free : is_simple_and_free app ≡ true
  free = ap is_simple_and_free is ∙ (is_built form).simple

  simple : is_simple app ≡ true
  simple = ap is_simple is ∙ (both _ _ (is_built form).simple).0

  reads : Shows (past (fault_of app (texts words)) (Some (matches_of app (texts words)))) asks
  reads = subst (λ (a : App). Shows (past (fault_of a (texts words)) (Some (matches_of a (texts words)))) asks) (sym is) (parse_reads form (texts words) (texts_behind (texts words) (all_texts words)))

  pub passed_parse : (m : ArgMatches) (r : Option Found) → (is_simple_and_free app ≡ true → fault_of app (texts words) ≡ []) → HasMatchesOf app (texts words) m
      → ((asked : Arguments) → AreRowsOf (rows_of (found_of m)) asked → option_map asked_of r ≡ with_plain_values asked) → option_map asked_of r ≡ asks
  passed_parse m r no_fault matches found =
      let shown : Shows (Some (rows_of (found_of m))) asks = subst (λ (o : Option (List Row)). Shows o asks) (ap₂ (λ (ks : Kinds) (rows : List Row). past ks (Some rows)) (no_fault free) (sym (matches simple).0)) reads in
      found shown.0 shown.1 ∙ shown.2

  pub failed_parse : (e : Error) → (is_simple_and_free app ≡ true → HasKind (fault_of app (texts words)) e) → (kind_of e ≡ OutOfMemory → ⊥) → asks ≡ None
  failed_parse e kinds other = go (fault_of app (texts words)) (kinds free) reads
    where
      go : (ks : Kinds) → HasKind ks e → Shows (past ks (Some (matches_of app (texts words)))) asks → asks ≡ None
      go [] (inl memory) shown = absurd (other memory)
      go [] (inr none) shown = absurd none
      go (k ∷ ks) kind shown = shown
