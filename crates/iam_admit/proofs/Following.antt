-- What is tried behind a permission.
use Rattle.std.proofs.Common.{◌≡◌, ℕ, List, [], ◌∷◌, map, Some, None, refl, sym, ap, subst, ◌∙◌}
use Rattle.std.specs.Prelude.{Err}
use Rattle.std.specs.declared.option.Option.{Option}
use Rattle.iam_text.specs.declared.moment.Moment.{Moment}
use Rattle.iam_names.specs.declared.caller.Caller.{Caller}
use Rattle.iam_names.specs.declared.node.NodeId.{NodeId}
use Rattle.iam_names.specs.declared.node.NodeName.{NodeName}
use Rattle.iam_types.specs.declared.allow.Binding.{Binding}
use Rattle.iam_types.specs.declared.refusal.Refusal.{Refusal}
use Rattle.iam_types.specs.declared.tables.Tables.{Tables}
use Rattle.iam_model.specs.Allow.{early_rules, late_rules, middle_rules, set_allow}
use Rattle.iam_model.specs.Nodes.{resolve}
use Rattle.iam_model.specs.Refusals.{first_of, first_refusal}
use Rattle.iam_model.specs.Shared.{inactive}
use Rattle.iam_law.specs.Admit.{asked_of_set_allow, may_not_set}
use Rattle.iam_admit.specs.Follows.{Follows}
use Rattle.iam_admit.specs.declared.stop.AdmitStop.{AdmitStop}
use Rattle.iam_admit.specs.declared.stop.AdmitStop.TheVariants.{Refused, OutOfMemory}

-- what is tried behind the permission, in its groups
abbrev pub later_rules : Tables → NodeId → ℕ → Option ℕ → List Binding → Option Refusal
later_rules tables node version etag bindings =
    first_of (map first_of (early_rules tables node version etag bindings ∷ [] ∷ middle_rules tables bindings ∷ [] ∷ late_rules tables node bindings ∷ []))

-- where the node is there and ACTIVE and the caller has the permission, this decides
pub behind_permission : (tables seen : Tables) (caller : Caller) (moment : Moment) (name : NodeName) (version : ℕ) (etag : Option ℕ) (bindings given : List Binding) (node : NodeId)
    → seen ≡ tables → given ≡ bindings → resolve seen name ≡ Some node → inactive seen name node ≡ None → may_not_set tables caller moment node given ≡ None
    → first_refusal ((set_allow name version etag bindings).rules moment tables) (asked_of_set_allow tables caller moment name bindings) ≡ later_rules seen node version etag bindings
behind_permission tables seen caller moment name version etag bindings given node same alike found is_active is_allowed =
    decides ∙ ap (λ (t : Tables). later_rules t node version etag bindings) (sym same)
  where
    decides : first_refusal ((set_allow name version etag bindings).rules moment tables) (asked_of_set_allow tables caller moment name bindings) ≡ later_rules tables node version etag bindings
    decides =
        let there : resolve tables name ≡ Some node = subst (λ (t : Tables). resolve t name ≡ Some node) same found in
        let active : inactive tables name node ≡ None = subst (λ (t : Tables). inactive t name node ≡ None) same is_active in
        let may : may_not_set tables caller moment node bindings ≡ None = subst (λ (b : List Binding). may_not_set tables caller moment node b ≡ None) alike is_allowed in
        rw (there, active, may) refl

-- a stop is that of whatever would have been given
pub stops : (X Y : Type 0) (stop : AdmitStop) (refusal : Option Refusal) → Follows {X = X} (Err stop) refusal → Follows {X = Y} (Err stop) refusal
stops X Y (Refused given) refusal h = h
stops X Y OutOfMemory refusal h = tt
