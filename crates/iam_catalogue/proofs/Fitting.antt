-- Tests over the code's tables are those over the definitions' tables.
use Rattle.std.proofs.Common.{◌≡◌, ℕ, ◌≤◌, Bool, true, false, ◌||◌, List, [], ◌∷◌, ◌++◌, length, map, take, refl, sym, ap, ◌∙◌, arith, Bor}
use Rattle.std.specs.Prelude.{filter}
use Rattle.std.proofs.lemmas.Bool.{eqb-true}
use Rattle.std.proofs.lemmas.List.{take_all}
use Rattle.std.specs.Bool.{◌==◌}
use Rattle.std.specs.List.{All, flat_map, list_any}
use Rattle.std.specs.Str.{bytes_eq}
use Rattle.std.proofs.lemmas.List.Elements.{All-cons, All-head, All-tail, All-nil}
use Rattle.iam_names.specs.declared.role.RoleName.{RoleName}
use Rattle.iam_types.specs.declared.catalogue.Preset.{Preset}
use Rattle.iam_model.specs.Catalogue.{Line, lines, permission_of}
use Rattle.iam_model.specs.Presets.{Pattern, fits, is_empty_or_has, is_preset, preset_at, preset_lines, presets}
use Rattle.iam_model.specs.Same.{same_role}
use Rattle.iam_catalogue.specs.Lines.{listed_at}

pub list_any_mapped : {X Y : Type 0} (p : Y → Bool) (f : X → Y) (xs : List X) → list_any (λ x. p (f x)) xs ≡ list_any p (map f xs)
list_any_mapped p f [] = refl
list_any_mapped p f (x ∷ xs) = ap (λ b. p (f x) || b) (list_any_mapped p f xs)

-- no verbs stand for all
pub no_verbs : (verbs : List (Bor (List ℕ))) (verb : List ℕ) → (length verbs == 0) ≡ true → is_empty_or_has (map (λ only. only.now) verbs) verb ≡ true
no_verbs [] verb h = refl
no_verbs (only ∷ verbs) verb h = let none : length (only ∷ verbs) ≡ 0 = eqb-true (length (only ∷ verbs)) 0 h in absurd (omega arith)

pub has_verb : (verbs : List (Bor (List ℕ))) (verb : List ℕ) → (length verbs == 0) ≡ false → is_empty_or_has (map (λ only. only.now) verbs) verb ≡ list_any (λ only. bytes_eq only.now verb) verbs
has_verb [] verb h = absurd (cc)
has_verb (only ∷ verbs) verb h = ap (λ b. bytes_eq only.now verb || b) (go verbs)
  where
    go : (more : List (Bor (List ℕ))) → list_any (λ only. bytes_eq only verb) (map (λ only. only.now) more) ≡ list_any (λ only. bytes_eq only.now verb) more
    go [] = refl
    go (x ∷ xs) = ap (λ b. bytes_eq x.now verb || b) (go xs)

-- what holds of each mapped element holds of each element as it is mapped
pub All-mapped : {X Y : Type 0} (P : Y → Type 0) (f : X → Y) (xs : List X) → All P (map f xs) → All (λ x. P (f x)) xs
All-mapped {X} P f [] h = All-nil (λ (x : X). P (f x))
All-mapped {X} P f (x ∷ xs) h = All-cons (λ (y : X). P (f y)) x xs (All-head P (f x) (map f xs) h) (All-mapped P f xs (All-tail P (f x) (map f xs) h))

map_mapped : {X Y A : Type 0} (h : Y → A) (v : X → Y) (xs : List X) → map (λ x. h (v x)) xs ≡ map h (map v xs)
map_mapped h v [] = refl
map_mapped h v (x ∷ xs) = ap (λ ys. h (v x) ∷ ys) (map_mapped h v xs)

flat_mapped : {X Y A : Type 0} (h : Y → List A) (v : X → Y) (xs : List X) → flat_map (λ x. h (v x)) xs ≡ flat_map h (map v xs)
flat_mapped h v [] = refl
flat_mapped h v (x ∷ xs) = ap (λ ys. h (v x) ++ ys) (flat_mapped h v xs)

-- a loop that went over all
pub map_done : {X Y A : Type 0} (h : Y → A) (v : X → Y) (xs : List X) (i : ℕ) → length xs ≤ i → map (λ x. h (v x)) (take i xs) ≡ map h (map v xs)
map_done {X} h v xs i le = ap (λ (ys : List X). map (λ x. h (v x)) ys) (take_all i xs le) ∙ map_mapped h v xs

pub flat_done : {X Y A : Type 0} (h : Y → List A) (v : X → Y) (xs : List X) (i : ℕ) → length xs ≤ i → flat_map (λ x. h (v x)) (take i xs) ≡ flat_map h (map v xs)
flat_done {X} h v xs i le = ap (λ (ys : List X). flat_map (λ x. h (v x)) ys) (take_all i xs le) ∙ flat_mapped h v xs

-- verb by verb the same permissions
pub listed_together : (patterns : List Pattern) (line : Line) (verbs : List (List ℕ)) → flat_map (listed_at patterns line) verbs ≡ map (permission_of line) (filter (λ verb. list_any (fits line verb) patterns) verbs)
listed_together patterns line [] = refl
listed_together patterns line (verb ∷ verbs) =
    elim (list_any (fits line verb) patterns) as (λ b. list_any (fits line verb) patterns ≡ b → flat_map (listed_at patterns line) (verb ∷ verbs) ≡ map (permission_of line) (filter (λ verb. list_any (fits line verb) patterns) (verb ∷ verbs))) [
      | true ↦ λ is. rw is (ap (λ ys. permission_of line verb ∷ ys) (listed_together patterns line verbs))
      | false ↦ λ is. rw is (listed_together patterns line verbs)
    ] refl

-- a predefined role is one of the lines of predefined roles
pub preset_known : (role : RoleName) → list_any (λ preset. same_role preset.role role) presets ≡ is_preset role
unfolding presets
preset_known role = sym (list_any_mapped (λ (preset : Preset). same_role preset.role role) (preset_at lines) preset_lines)
