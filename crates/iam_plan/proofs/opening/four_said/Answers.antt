use Rattle.std.proofs.Common.{◌≡◌, List, ℕ, codes}
use Rattle.iam_names.specs.Domain.{IsDomain, IsCustomer}
use Rattle.iam_plan.specs.Clap.{given_in}
use Rattle.iam_plan.proofs.Values.{first_of, copied}
use Rattle.iam_plan.proofs.opening.four_said.Goals as goal

pub returns-in_default-domain_said-clause-words : goal.returns-in_default-domain_said-clause-words
returns-in_default-domain_said-clause-words c = λ _ o opening.
    c.in_default-domain_said.ensures.none (first_of (given_in c.args.matches.now (codes "domain")) IsDomain (λ (t : List ℕ). o.domain ≡ t) opening.domain)

pub returns-in_default-customer_said-clause-words : goal.returns-in_default-customer_said-clause-words
returns-in_default-customer_said-clause-words c = λ _ o opening.
    c.in_default-customer_said.ensures.none (first_of (given_in c.args.matches.now (codes "customer")) IsCustomer (λ (t : List ℕ). o.customer ≡ t) opening.customer)

pub returns-clause-ok : goal.returns-clause-ok
returns-clause-ok c = record {
  number = c.in-Some.ensures.some;
  domain = copied (given_in c.args.matches.now (codes "domain")) IsDomain c.in_ok-domain.domain c.in-Some-domain_said.domain.now c.in_ok-domain.ensures c.in-Some-domain_said.ensures.some;
  customer = copied (given_in c.args.matches.now (codes "customer")) IsCustomer c.in_ok-customer.customer c.in-Some-customer_said.customer.now c.in_ok-customer.ensures c.in-Some-customer_said.ensures.some;
  admin = rw c.in-Some-2.is at c.in_ok-admin.ensures;
}

pub returns-in_default-2-clause-words : goal.returns-in_default-2-clause-words
returns-in_default-2-clause-words c = λ _ o opening.
    let none = rw c.in_default-2.is at c.in_ok-admin.ensures in
    none o.admin opening.admin
