-- What an organisation starts from.
use Rattle.std.specs.Prelude.{[], ◌∷◌, None, codes}
use Rattle.iam_names.specs.Domain.{IsDomain, IsCustomer}
use Rattle.iam_names.specs.Member.{IsMember}
use Rattle.iam_names.specs.Number.{IsNodeNumber}
use Rattle.iam_names.specs.declared.node.NodeKind.TheVariants.{Organization}
use Rattle.iam_names.specs.declared.role.RoleName.{RoleName}
use Rattle.iam_names.specs.declared.role.RoleName.TheVariants.{Predefined}
use Rattle.iam_types.specs.declared.tables.Opening.{Opening}
use Rattle.iam_types.specs.declared.tables.Tables.{Tables}

-- the parts of an opening are well formed
pub record IsOpening (opening : Opening) : Type 0 where
  pub number : IsNodeNumber opening.number
  pub domain : IsDomain opening.domain
  pub customer : IsCustomer opening.customer
  pub admin : IsMember opening.admin

abbrev pub organization_admin : RoleName
organization_admin = Predefined (codes "resourcemanager.organizationAdmin")

-- The organisation, whose first change set the one policy, in which the administrator has the role of organisations' administrators.
abbrev pub opening_tables : Opening → Tables
opening_tables opening = record {
  org = record { number = opening.number; domain = opening.domain; customer = opening.customer; next = 1; changes = 1 };
  nodes = [];
  keys = [];
  values = [];
  tags = [];
  groups = [];
  edges = [];
  roles = [];
  allows = record {
    node = record { kind = Organization; number = opening.number };
    bindings = record { role = organization_admin; members = opening.admin ∷ []; condition = None } ∷ [];
    set = 1;
  } ∷ [];
  denies = [];
  boundaries = [];
  bounds = [];
}
