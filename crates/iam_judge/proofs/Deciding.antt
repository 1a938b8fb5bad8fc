-- The decision goes by the first node whose policy grants.
use Rattle.std.proofs.Common.{◌≡◌, ℕ, ◌<◌, ◌^◌, length, Bool, true, false, cond, List, [], ◌∷◌, map, Option, Some, None, refl, sym, ap, subst, ◌∙◌, lit<}
use Rattle.std.specs.Prelude.{unwrap_or}
use Rattle.std.specs.List.{All, find}
use Rattle.std.specs.Option.{option_map, option_map_or, option_or}
use Rattle.std.proofs.lemmas.List.Folds.{find-append}
use Rattle.std.proofs.lemmas.List.Elements.{All-head, All-tail}
use Rattle.iam_names.specs.declared.node.NodeId.{NodeId}
use Rattle.iam_types.specs.declared.allow.AllowPolicy.{AllowPolicy}
use Rattle.iam_types.specs.declared.allow.Binding.{Binding}
use Rattle.iam_types.specs.declared.query.Decision.{Decision}
use Rattle.iam_types.specs.declared.query.Decision.TheVariants.{Allowed, NotGranted}
use Rattle.iam_types.specs.declared.query.Query.{Query}
use Rattle.iam_types.specs.declared.tables.Tables.{Tables}
use Rattle.iam_model.specs.Policies.{bindings_at, policy_of}
use Rattle.iam_model.specs.Same.{same_node}
use Rattle.iam_law.specs.Decide.{AllowPlace, allow_lines, binding_grants, in_turn, lines_at}
use Rattle.iam_judge.specs.Granting.{first_grant, grant_at}

-- what holds of each element holds of the one that is found
All-found : {X : Type 0} (P : X → Type 0) (p : X → Bool) (xs : List X) (x : X) → All P xs → find p xs ≡ Some x → P x
All-found P p [] x all found = absurd (cc)
All-found {X} P p (y ∷ ys) x all found =
    elim (p y) as (λ b. cond b (Some y) (find p ys) ≡ Some x → P x) [
      | true ↦ λ is. let same : y ≡ x = cc in subst P same (All-head P y ys all)
      | false ↦ λ is. All-found P p ys x (All-tail P y ys all) is
    ] found

-- a policy has no more bindings than a place can count
pub found_is_countable : (tables : Tables) (node : NodeId) → All (λ policy. length policy.bindings < 2 ^ 32) tables.allows → length (bindings_at tables node) < 2 ^ 32
found_is_countable tables node few = go (policy_of tables.allows node) refl
  where
    go : (found : Option AllowPolicy) → policy_of tables.allows node ≡ found → length (option_map_or (λ (policy : AllowPolicy). policy.bindings) found []) < 2 ^ 32
    go None is = lit< tt
    go (Some policy) is = All-found (λ (p : AllowPolicy). length p.bindings < 2 ^ 32) (λ (p : AllowPolicy). same_node p.node node) tables.allows policy few is

find_mapped : {X Y : Type 0} (p : Y → Bool) (f : X → Y) (xs : List X) → find p (map f xs) ≡ option_map f (find (λ x. p (f x)) xs)
find_mapped p f [] = refl
find_mapped p f (x ∷ xs) =
    elim (p (f x)) as (λ b. cond b (Some (f x)) (find p (map f xs)) ≡ option_map f (cond b (Some x) (find (λ y. p (f y)) xs))) [ true ↦ refl | false ↦ find_mapped p f xs ]

either_mapped : {X Y : Type 0} (f : X → Y) (a b : Option X) → option_map f (option_or a b) ≡ option_or (option_map f a) (option_map f b)
either_mapped f None b = refl
either_mapped f (Some x) b = refl

twice_mapped : {X Y A : Type 0} (f : Y → A) (g : X → Y) (found : Option X) → option_map f (option_map g found) ≡ option_map (λ x. f (g x)) found
twice_mapped f g None = refl
twice_mapped f g (Some x) = refl

or_else : {X Y : Type 0} (f : X → Y) (found : Option X) (other : Y) → unwrap_or (option_map f found) other ≡ option_map_or f found other
or_else f None other = refl
or_else f (Some x) other = refl

abbrev allowed : AllowPlace → Decision
allowed line = Allowed line.node line.place

abbrev passes : Tables → Query → AllowPlace → Bool
passes tables query line = binding_grants tables query line.binding

-- the first line of one node's policy that grants
at_node : (tables : Tables) (query : Query) (node : NodeId) → grant_at tables query node ≡ option_map allowed (find (passes tables query) (lines_at tables node))
at_node tables query node =
    twice_mapped (λ (place : ℕ). Allowed node place) (λ (turn : ℕ × Binding). turn.0) found
    ∙ sym (twice_mapped allowed line found)
    ∙ ap (option_map allowed) (sym (find_mapped (passes tables query) line (in_turn (bindings_at tables node))))
  where
    line : ℕ × Binding → AllowPlace
    line turn = record { node = node; place = turn.0; binding = turn.1 }

    found : Option (ℕ × Binding)
    found = find (λ (turn : ℕ × Binding). binding_grants tables query turn.1) (in_turn (bindings_at tables node))

on_nodes : (tables : Tables) (query : Query) (nodes : List NodeId) → first_grant tables query nodes ≡ option_map allowed (find (passes tables query) (allow_lines tables nodes))
on_nodes tables query [] = refl
on_nodes tables query (node ∷ nodes) =
    ap (λ (first : Option Decision). option_or first (first_grant tables query nodes)) (at_node tables query node)
    ∙ ap (option_or (option_map allowed (find (passes tables query) (lines_at tables node)))) (on_nodes tables query nodes)
    ∙ sym (either_mapped allowed (find (passes tables query) (lines_at tables node)) (find (passes tables query) (allow_lines tables nodes)))
    ∙ ap (option_map allowed) (sym (find-append (passes tables query) (lines_at tables node) (allow_lines tables nodes)))

-- the first grant of nodes is the first line of their policies that grants
pub decided : (tables : Tables) (query : Query) (nodes : List NodeId)
    → unwrap_or (first_grant tables query nodes) NotGranted ≡ option_map_or (λ line. Allowed line.node line.place) (find (λ line. binding_grants tables query line.binding) (allow_lines tables nodes)) NotGranted
decided tables query nodes =
    ap (λ (first : Option Decision). unwrap_or first NotGranted) (on_nodes tables query nodes) ∙ or_else allowed (find (passes tables query) (allow_lines tables nodes)) NotGranted
