-- Paths of members: names joined by `.`, and `[i]` for item i of a list, counted from 0.
use Rattle.std.specs.Prelude.{ℕ, List, [], ◌∷◌, ◌++◌, codes, if◌then◌else◌, ◌==◌}
use Rattle.std.specs.Fmt.{decimal}

-- what stands between a name and the path inside it
abbrev pub separator_before : List ℕ → List ℕ
separator_before [] = []
separator_before (first ∷ more) = if first == 91 then [] else codes "."

-- a path inside a member, seen from outside
abbrev pub under : List ℕ → List ℕ → List ℕ
under name path = name ++ separator_before path ++ path

-- an item of a list
abbrev pub item_name : ℕ → List ℕ
item_name place = codes "[" ++ decimal place ++ codes "]"
