-- What the options of an opening say.
use Rattle.std.specs.Prelude.{◌≡◌, ℕ, List, Some, None, codes}
use Rattle.std.specs.declared.option.Option.{Option}
use Rattle.std.specs.Str.Parse.{digits_value}
use Rattle.iam_names.specs.Digits.{IsDigits}
use Rattle.iam_names.specs.Number.{IsNodeNumber}
use Rattle.iam_names.specs.Domain.{IsDomain, IsCustomer}
use Rattle.iam_names.specs.Member.{IsMember, member_text}
use Rattle.iam_names.specs.declared.member.Member.{Member}
use Rattle.iam_types.specs.declared.tables.Opening.{Opening}
use Rattle.iam_plan.specs.Values.{Values, HasOption}

-- 1 to 19 digits, which give a number that a node may have
abbrev pub IsNumberWord : List ℕ → Type 0
IsNumberWord text = IsDigits text × IsNodeNumber (digits_value 10 text)

-- the text of this member
abbrev pub IsMemberWord : List ℕ → Member → Type 0
IsMemberWord text member = IsMember member × (text ≡ member_text member)

-- all four options are given, and say this opening
pub record SaysOpening (values : Values) (opening : Opening) : Type 0 where
  pub number : HasOption (codes "org") values (λ text. IsNumberWord text × (opening.number ≡ digits_value 10 text))
  pub domain : HasOption (codes "domain") values (λ text. IsDomain text × (opening.domain ≡ text))
  pub customer : HasOption (codes "customer") values (λ text. IsCustomer text × (opening.customer ≡ text))
  pub admin : HasOption (codes "admin") values (λ text. IsMemberWord text opening.admin)

-- none of the four is given
pub record SaysNone (values : Values) : Type 0 where
  pub number : values (codes "org") ≡ None
  pub domain : values (codes "domain") ≡ None
  pub customer : values (codes "customer") ≡ None
  pub admin : values (codes "admin") ≡ None

abbrev pub SaysOpeningOrNone : Values → Option Opening → Type 0
SaysOpeningOrNone values None = SaysNone values
SaysOpeningOrNone values (Some opening) = SaysOpening values opening
