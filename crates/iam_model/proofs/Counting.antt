-- Bindings and their members are counted.
use Rattle.std.proofs.Common.{◌≡◌, ◌+◌, ◌<◌, ◌≤◌, ◌^◌, true, not, List, [], ◌∷◌, length, arith}
use Rattle.std.specs.List.{All}
use Rattle.std.proofs.lemmas.List.Elements.{All-head, All-tail}
use Rattle.std.proofs.lemmas.List.Sums.{sum_by-cons}
use Rattle.iam_names.specs.declared.member.Member.{Member}
use Rattle.iam_types.specs.declared.allow.Binding.{Binding}
use Rattle.iam_types.specs.declared.tables.Tables.{Tables}
use Rattle.iam_model.specs.Consistent.{Consistent}
use Rattle.iam_model.specs.Formed.{IsStored}
use Rattle.iam_model.specs.Policies.{count_members, is_empty_list}
use Rattle.iam_model.proofs.Lists.{policies_formed}

-- a list with members has one at least
some_member : (members : List Member) → not (is_empty_list members) ≡ true → 1 ≤ length members
some_member [] h = absurd (cc)
some_member (member ∷ members) h = omega arith

-- there are no more bindings than members
pub bindings_below_members : (bindings : List Binding) → All IsStored bindings → length bindings ≤ count_members bindings
bindings_below_members [] stored = omega arith
bindings_below_members (binding ∷ bindings) stored =
    let first : IsStored binding = All-head IsStored binding bindings stored in
    let one : 1 ≤ length binding.members = some_member binding.members first.some in
    let more : length bindings ≤ count_members bindings = bindings_below_members bindings (All-tail IsStored binding bindings stored) in
    let sums : count_members (binding ∷ bindings) ≡ length binding.members + count_members bindings = sum_by-cons (λ (b : Binding). length b.members) binding bindings in
    rw sums (omega (arith, one, more))

-- no policy has more bindings than a place can count
pub policies_countable : (tables : Tables) → Consistent tables → All (λ policy. length policy.bindings < 2 ^ 32) tables.allows
policies_countable tables consistent = λ k d within.
    let stored = (policies_formed tables consistent k d within).bindings in
    let limit = consistent.keeps.limits.policies k d within in
    omega (arith, bindings_below_members _ stored, limit)

-- one more change can be counted
pub changes_countable : (tables : Tables) → Consistent tables → tables.org.changes + 1 < 2 ^ 64
changes_countable tables consistent = let limit = consistent.keeps.limits.changes in omega (arith, limit)
