-- The command line, in clap's words: what `adr` has, and what a line of words asks of it.
use Rattle.std.specs.Prelude.{ℕ, Bool, true, false, pos, List, [], ◌∷◌, Option, Some, codes, option_and_then, option_map, if◌then◌else◌}
use Rattle.std.specs.Str.{bytes_eq}
use Rattle.std.specs.Option.{option_map_or}
use Rattle.std.specs.Borrow.{Bor}
use Rattle.adr_model.specs.declared.entry.Tie.{Tie}
use Rattle.adr_model.specs.declared.entry.Tie.TheVariants.{Newest, LatestStart}
use Rattle.clap.specs.Words.{App, Row, Rule, Text, new_app, new_rule, first_of, one_of, subcommand_of, with_rule, with_subcommand}
use Rattle.clap.specs.declared.builder.value_parser.ValueParser.TheVariants.{Signed, Names}

-- `--NAME N`, of 1 to 64, and 1 where it isn't given
abbrev pub count_rule : Text → Rule
count_rule name = record (new_rule name) {
  long = Some name;
  value_names = 1;
  defaults = codes "1" ∷ [];
  parser = Some (Signed (pos 1) (pos 64));
}

-- where the names of the two rules for ties stand in memory, which no word of a line tells
pub record Places : Type 0 where
  pub names : ℕ × ℕ
  pub newest : ℕ × ℕ
  pub latest_start : ℕ × ℕ

abbrev pub text_at : ℕ × ℕ → Text → Bor Text
text_at place text = record { ref_ptr = place; now = text }

-- the names
abbrev pub tie_names : Places → Bor (List (Bor Text))
tie_names places = record {
  ref_ptr = places.names;
  now = text_at places.newest (codes "newest") ∷ text_at places.latest_start (codes "latest-start") ∷ [];
}

-- `--tie newest|latest-start`, and newest where it isn't given
abbrev pub tie_rule : Bor (List (Bor Text)) → Rule
tie_rule names = record (new_rule (codes "tie")) {
  long = Some (codes "tie");
  value_names = 1;
  defaults = codes "newest" ∷ [];
  parser = Some (Names names);
}

-- `NAME [--COUNT N] [--tie newest|latest-start]`
abbrev pub command_grammar : Text → Text → Bor (List (Bor Text)) → App
command_grammar name count ties = with_rule (with_rule (new_app name) (count_rule count)) (tie_rule ties)

-- `run [--workers N] [--tie newest|latest-start]`
abbrev pub run_grammar : Places → App
run_grammar places = command_grammar (codes "run") (codes "workers") (tie_names places)

-- `fan [--readers N] [--tie newest|latest-start]`
abbrev pub fan_grammar : Places → App
fan_grammar places = command_grammar (codes "fan") (codes "readers") (tie_names places)

-- `adr` without its commands, which tells its version too
abbrev pub bare_grammar : App
bare_grammar = record (new_app (codes "adr")) {
  top = record (new_app (codes "adr")).top { no_binary_name = true; subcommand_required = true; has_version = true };
}

-- `adr` has to be told what to do: `run` or `fan`
abbrev pub adr_grammar : Places → App
adr_grammar places = with_subcommand (with_subcommand bare_grammar (run_grammar places).top) (fan_grammar places).top

-- it holds of the grammar whose names stand at one of these places
abbrev pub ByTheGrammar : (App → Type 0) → Type 0
ByTheGrammar P = (places : Places) × P (adr_grammar places)

-- whether a subcommand's name is `fan`
abbrev pub is_fan_name : Text → Bool
is_fan_name name = bytes_eq name (codes "fan")

-- whether it is `fan` that a subcommand's matches are of
abbrev pub is_fan_in : Option (Text × List Row) → Bool
is_fan_in own = option_map_or is_fan_name (option_map (λ own. own.0) own) false

-- and what a line of words names
abbrev pub asks_for_fan : App → List Text → Bool
asks_for_fan adr words = is_fan_in (subcommand_of adr words)

-- the text of `--workers` or, of `fan`, of `--readers` among a subcommand's matches
abbrev pub count_in : Option (Text × List Row) → Option Text
count_in = option_and_then (λ own. if is_fan_name own.0 then one_of (codes "readers") own.1 else one_of (codes "workers") own.1)

-- and in a line of words
abbrev pub count_text : App → List Text → Option Text
count_text adr words = count_in (subcommand_of adr words)

-- the word that names a rule for ties among a subcommand's matches
abbrev pub tie_in : Option (Text × List Row) → Option Text
tie_in = option_and_then (λ own. first_of (codes "tie") own.1)

-- and in a line of words
abbrev pub tie_text : App → List Text → Option Text
tie_text adr words = tie_in (subcommand_of adr words)

-- the rule that a word names: the latest start where it says so, else the newest
abbrev pub tie_named : Option Text → Tie
tie_named word = if option_map_or (λ text. bytes_eq text (codes "latest-start")) word false then LatestStart else Newest
