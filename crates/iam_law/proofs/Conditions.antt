-- Until conditions can be stored, each that stands in consistent tables may stand there.
use Rattle.std.proofs.Common.{◌≡◌, true, List, ap, subst, sym}
use Rattle.std.specs.Prelude.{is_none}
use Rattle.std.specs.List.{All}
use Rattle.std.proofs.lemmas.List.Elements.{All-nil, All-weaker}
use Rattle.iam_types.specs.declared.allow.AllowPolicy.{AllowPolicy}
use Rattle.iam_types.specs.declared.allow.Binding.{Binding}
use Rattle.iam_types.specs.declared.boundary.BoundaryBinding.{BoundaryBinding}
use Rattle.iam_types.specs.declared.deny.DenyPolicy.{DenyPolicy}
use Rattle.iam_types.specs.declared.tables.Tables.{Tables}
use Rattle.iam_model.specs.Consistent.{NothingElse}
use Rattle.iam_model.specs.Formed.{IsPolicyFact, IsStored}
use Rattle.iam_law.specs.Good.{ConditionsStand, may_stand}

abbrev AllStand : List Binding → Type 0
AllStand bindings = All (λ binding. may_stand binding.condition ≡ true) bindings

abbrev RulesStand : DenyPolicy → Type 0
RulesStand policy = All (λ rule. may_stand rule.condition ≡ true) policy.rules

stored_stand : (bindings : List Binding) → All IsStored bindings → AllStand bindings
stored_stand bindings stored = All-weaker IsStored (λ (binding : Binding). may_stand binding.condition ≡ true) (λ binding is. ap is_none is.unconditional) bindings stored

pub conditions_stand : (tables : Tables) → All IsPolicyFact tables.allows → NothingElse tables → ConditionsStand tables
conditions_stand tables formed else = record {
  allows = All-weaker IsPolicyFact (λ (policy : AllowPolicy). AllStand policy.bindings) (λ policy is. stored_stand policy.bindings is.bindings) tables.allows formed;
  denies = subst (λ (policies : List DenyPolicy). All RulesStand policies) (sym else.denies) (All-nil RulesStand);
  bounds = subst (λ (bindings : List BoundaryBinding). All (λ binding. may_stand binding.condition ≡ true) bindings) (sym else.bounds) (All-nil (λ (binding : BoundaryBinding). may_stand binding.condition ≡ true));
}
