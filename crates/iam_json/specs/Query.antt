-- The parameters of a query.
use Rattle.std.specs.Prelude.{◌≡◌, ◌≢◌, ℕ, List, Result, Ok, Err}
use Rattle.std.specs.declared.option.Option.{Option}
use Rattle.std.specs.declared.option.Option.TheVariants.{None, Some}
use Rattle.std.specs.List.{find}
use Rattle.std.specs.Str.{bytes_eq}
use Rattle.iam_names.specs.Node.{IsNodeName, node_text}
use Rattle.iam_names.specs.declared.node.NodeName.{NodeName}

-- the first parameter with this name, and its value
abbrev pub parameter_at : List ℕ → List (List ℕ × List ℕ) → Option (List ℕ × List ℕ)
parameter_at name pairs = find (λ pair. bytes_eq pair.0 name) pairs

-- its value names a node; where it is missing or names none, its path is its name
abbrev pub NamesNodeIn : List ℕ → Option (List ℕ × List ℕ) → Result NodeName (List ℕ) → Type 0
NamesNodeIn name None said = said ≡ Err name
NamesNodeIn name (Some pair) (Ok node) = IsNodeName node × (pair.1 ≡ node_text node)
NamesNodeIn name (Some pair) (Err path) = (path ≡ name) × ((node : NodeName) → IsNodeName node → pair.1 ≢ node_text node)

-- the node that a parameter names, which has to be there
abbrev pub ReadsNodeAt : List ℕ → List (List ℕ × List ℕ) → Result NodeName (List ℕ) → Type 0
ReadsNodeAt name pairs = NamesNodeIn name (parameter_at name pairs)
