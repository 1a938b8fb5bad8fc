-- What the segments of a place give for the pieces of a path.
use Rattle.std.specs.Prelude.{◌≡◌, ◌≢◌, ◌⊎◌, ℕ, Bool, true, false, List, [], ◌∷◌, ◌++◌}
use Rattle.std.specs.declared.option.Option.{Option}
use Rattle.std.specs.declared.option.Option.TheVariants.{None, Some}
use Rattle.percent_encoding.specs.Percent.{percent_decode}
use Rattle.iam_names.specs.Node.{collection_of}
use Rattle.iam_names.specs.declared.node.NodeKind.{NodeKind}
use Rattle.iam_routes.specs.Routes.{Piece, fixed, node_in, slash, Lacks, Names, Gives, IsPath}
use Rattle.iam_routes.specs.declared.segment.Segment.{Segment}
use Rattle.iam_routes.specs.declared.table.Piece.{Piece as TablePiece}
use Rattle.iam_routes.specs.declared.table.Piece.TheVariants.{Fixed, NodeIn}

-- a piece of the code's table
abbrev pub seen_piece : TablePiece → Piece
seen_piece (Fixed text) = fixed text.now
seen_piece (NodeIn kind) = node_in kind

-- nothing, or what begins with a `/`
abbrev pub Begins : List ℕ → Type 0
Begins place = (place ≡ []) ⊎ ((tail : List ℕ) × (place ≡ slash ∷ tail))

-- the text up to its first `/`, and what stands behind it
abbrev pub IsHead : List ℕ → Segment → Type 0
IsHead text segment = (text ≡ segment.text.now ++ segment.rest.now) × Lacks slash segment.text.now × Begins segment.rest.now

-- the first segment of a place
abbrev pub IsFirst : List ℕ → Option Segment → Type 0
IsFirst place None = (tail : List ℕ) → place ≢ slash ∷ tail
IsFirst place (Some segment) = (tail : List ℕ) × (place ≡ slash ∷ tail) × IsHead tail segment

-- a collection, and a segment percent-decoded behind it
abbrev pub decoded_name : NodeKind → List ℕ → List ℕ
decoded_name kind segment = collection_of kind ++ percent_decode segment

-- the name of a node that a segment gives behind a collection
abbrev pub IsPartOf : NodeKind → List ℕ → Option (List ℕ) → Type 0
IsPartOf kind segment None = (part : List ℕ) → ¬ (Names kind segment part)
IsPartOf kind segment (Some part) = Names kind segment part

-- whether the segment is one for the piece, and the parts with what it gives
abbrev pub IsGiven : Piece → List ℕ → List (List ℕ) → List (List ℕ) → Bool → Type 0
IsGiven piece segment old new true = (given : List (List ℕ)) × Gives piece segment given × (new ≡ old ++ given)
IsGiven piece segment old new false = (given : List (List ℕ)) → ¬ (Gives piece segment given)

-- the parts that the place gives
abbrev pub ArePartsOf : List Piece → List ℕ → Option (List (List ℕ)) → Type 0
ArePartsOf pieces place None = (parts : List (List ℕ)) → ¬ (IsPath pieces place parts)
ArePartsOf pieces place (Some parts) = IsPath pieces place parts
