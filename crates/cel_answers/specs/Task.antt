-- What the words of the command line ask.
use Rattle.std.specs.Prelude.{ℕ, Option, Some, None, List, [], ◌∷◌, codes, if◌then◌else◌}
use Rattle.std.specs.Str.{bytes_eq}
use Rattle.cel_types.specs.declared.kind.Place.{Place}
use Rattle.cel_types.specs.declared.kind.Place.TheVariants.{Allow, Deny, Binding}
use Rattle.cel_answers.specs.declared.task.Task.{Task}
use Rattle.cel_answers.specs.declared.task.Task.TheVariants.{Read, Check, Value}

abbrev pub word_task : List ℕ → Option Task
word_task word =
    if bytes_eq word (codes "allow") then Some (Check Allow)
    else (if bytes_eq word (codes "deny") then Some (Check Deny)
    else (if bytes_eq word (codes "binding") then Some (Check Binding)
    else (if bytes_eq word (codes "value") then Some Value else None)))

-- no word, or one; any others ask nothing
abbrev pub task_of : List (List ℕ) → Option Task
task_of [] = Some Read
task_of (word ∷ []) = word_task word
task_of (word ∷ another ∷ more) = None

-- where a text is to be a condition
abbrev pub place_of : Task → Option Place
place_of Read = None
place_of (Check place) = Some place
place_of Value = Some Allow
