-- Options as `clap` knows them.
use Rattle.std.specs.Prelude.{Bool, true, false, not, ℕ, List, [], ◌∷◌, Some, map, codes}
use Rattle.std.specs.List.{list_all}
use Rattle.clap.specs.Lexer.{has_byte}
use Rattle.clap.specs.Walk.{Rule}
use Rattle.clap.specs.Simple.{App, new_rule, new_app, new_shape}
use Rattle.clap.specs.Matches.{found_of, first_value}
use Rattle.clap.specs.declared.builder.action.ArgAction.TheVariants.{Set}
use Rattle.clap.specs.declared.parser.matches.ArgMatches.{ArgMatches}
use Rattle.iam_plan.specs.Values.{Values}

-- an option with one value
abbrev pub rule_with : List ℕ → Rule
rule_with name = record (new_rule name) { long = Some name; action = Some Set }

-- the command with these options, before whose words there is no program's name
abbrev pub app_with : List (List ℕ) → App
app_with names = record (new_app (codes "iamd")) {
  top = record (new_shape (codes "iamd")) { no_binary_name = true; disable_help_flag = true; rules = map rule_with names };
}

-- a name that is read whole: it isn't empty, and has no `=`
abbrev pub is_whole : List ℕ → Bool
is_whole [] = false
is_whole (byte ∷ bytes) = not (has_byte 61 (byte ∷ bytes))

abbrev pub are_whole : List (List ℕ) → Bool
are_whole names = list_all is_whole names

-- the values as matches give them
unfoldable pub given_in : ArgMatches → Values
given_in matches name = first_value (found_of matches) name
