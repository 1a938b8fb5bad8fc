-- Blanks and comments, as they are passed over.
use Rattle.std.specs.Prelude.{ℕ, Bool, true, false, not, ◌&&◌, ◌==◌, if◌then◌else◌, List, [], ◌∷◌, slice_index}
use Rattle.cel_lexer.specs.Cut.{is_blank, is_line_end, slash}

-- the text from the first byte on that is in no blank and in no comment, where the first argument says whether a comment has begun
abbrev pub past : Bool → List ℕ → List ℕ
past in_comment [] = []
past true (b ∷ z) = past (not (is_line_end b)) z
past false (b ∷ z) = if is_blank b then past false z else (if b == slash && slice_index z 0 == slash then past true z else b ∷ z)
