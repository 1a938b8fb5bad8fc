-- Words say one plan, and an opening that is well formed.
use Rattle.std.proofs.Common.{◌≡◌, ◌∙◌, ℕ, List, ◌∷◌, ◌++◌, true, false, Some, None, Option, inl, inr, refl, sym, ap, ap₂, subst, codes, arith, one-add}
use Rattle.std.specs.Prelude.{IfSome, IsSomeAnd}
use Rattle.std.specs.Str.Parse.{digits_value}
use Rattle.std.proofs.lemmas.List.{append_cancel_left}
use Rattle.iam_names.specs.Caller.{IsCaller, caller_text}
use Rattle.iam_names.specs.Domain.{IsDomain, IsCustomer}
use Rattle.iam_names.specs.Email.{IsEmail, IsLocalPart, local_part_of}
use Rattle.iam_names.specs.Member.{IsMember}
use Rattle.iam_names.specs.Node.{node_text}
use Rattle.iam_names.specs.Number.{IsNodeNumber}
use Rattle.iam_names.specs.declared.caller.Caller.{Caller}
use Rattle.iam_names.specs.declared.caller.Caller.TheVariants.{Anonymous, User, Service, Pooled}
use Rattle.iam_names.specs.declared.node.NodeName.{NodeName}
use Rattle.iam_names.proofs.Told.{caller_told, member_told, node_told}
use Rattle.iam_types.specs.declared.tables.Opening.{Opening}
use Rattle.iam_model.specs.Opening.{IsOpening}
use Rattle.iam_plan.specs.Access.{IsPrincipal, IsResource}
use Rattle.iam_plan.specs.Commands.{word_of}
use Rattle.iam_plan.specs.Opening.{IsNumberWord, IsMemberWord, SaysOpening, SaysNone, SaysOpeningOrNone}
use Rattle.iam_plan.specs.Pairs.{Pairs, words_of, values_of}
use Rattle.iam_plan.specs.Plan.{command_of, Says, IsPlan}
use Rattle.iam_plan.specs.Values.{Values}
use Rattle.iam_plan.specs.declared.command.CommandName.TheVariants as command
use Rattle.iam_plan.specs.declared.plan.Plan.{Plan}
use Rattle.iam_plan.specs.declared.plan.Plan.TheVariants.{Apply, Ask}
use Rattle.iam_plan.proofs.Principals.{stands_once}
use Rattle.iam_plan.proofs.Plans.{same_command}
use Rattle.iam_plan.proofs.Values.{of_value, of_both}
use Rattle.iam_plan.proofs.Words.{same_pairs}

-- ---- the opening

of_values : (values : Values) (opening : Opening) → SaysOpening values opening → IsOpening opening
of_values values opening says = record {
  number = of_value _ _ (IsNodeNumber opening.number) says.number (λ text (form : IsNumberWord text × (opening.number ≡ digits_value 10 text)). subst IsNodeNumber (sym form.1) form.0.1);
  domain = of_value _ _ (IsDomain opening.domain) says.domain (λ text (form : IsDomain text × (opening.domain ≡ text)). subst IsDomain (sym form.1) form.0);
  customer = of_value _ _ (IsCustomer opening.customer) says.customer (λ text (form : IsCustomer text × (opening.customer ≡ text)). subst IsCustomer (sym form.1) form.0);
  admin = of_value _ _ (IsMember opening.admin) says.admin (λ text (form : IsMemberWord text opening.admin). form.0);
}

pub formed : (words : List (List ℕ)) (db : Option (List ℕ)) (opening : Option Opening) → IsPlan words (Apply db opening) → IfSome opening IsOpening
formed words db None is = tt
formed words db (Some opening) is = of_values (values_of is.0) opening is.3.1

same_opening : (values : Values) (a b : Opening) → SaysOpening values a → SaysOpening values b → a ≡ b
same_opening values a b p q =
    let number : a.number ≡ b.number = of_both _ _ _ (a.number ≡ b.number) p.number q.number
    (λ text (one : IsNumberWord text × (a.number ≡ digits_value 10 text)) (other : IsNumberWord text × (b.number ≡ digits_value 10 text)). one.1 ∙ sym other.1) in
    let domain : a.domain ≡ b.domain = of_both _ _ _ (a.domain ≡ b.domain) p.domain q.domain
    (λ text (one : IsDomain text × (a.domain ≡ text)) (other : IsDomain text × (b.domain ≡ text)). one.1 ∙ sym other.1) in
    let customer : a.customer ≡ b.customer = of_both _ _ _ (a.customer ≡ b.customer) p.customer q.customer
    (λ text (one : IsCustomer text × (a.customer ≡ text)) (other : IsCustomer text × (b.customer ≡ text)). one.1 ∙ sym other.1) in
    let admin : a.admin ≡ b.admin = of_both _ _ _ (a.admin ≡ b.admin) p.admin q.admin
    (λ text (one : IsMemberWord text a.admin) (other : IsMemberWord text b.admin). member_told a.admin b.admin one.0 other.0 (sym one.1 ∙ other.1)) in
    λ i. record { number = number i; domain = domain i; customer = customer i; admin = admin i }

nothing_said : (values : Values) (opening : Opening) (Goal : Type 0) → SaysNone values → SaysOpening values opening → Goal
nothing_said values opening Goal none says =
    let gone : IsSomeAnd None (λ text. IsNumberWord text × (opening.number ≡ digits_value 10 text)) =
    subst (λ (r : Option (List ℕ)). IsSomeAnd r (λ text. IsNumberWord text × (opening.number ≡ digits_value 10 text))) none.number says.number in
    absurd gone

same_openings : (values : Values) (a b : Option Opening) → SaysOpeningOrNone values a → SaysOpeningOrNone values b → a ≡ b
same_openings values None None p q = refl
same_openings values None (Some b) p q = nothing_said values b (None ≡ Some b) p q
same_openings values (Some a) None p q = nothing_said values a (Some a ≡ None) q p
same_openings values (Some a) (Some b) p q = ap (λ (o : Opening). Some o) (same_opening values a b p q)

-- ---- principals and resources

-- no text of a caller is an email: there is no `@` in `anonymous`, and a `:` before that of the others
no_email : (caller : Caller) → IsCaller caller → IsEmail (caller_text caller) → ⊥
no_email Anonymous formed email = omega (arith, email.2.1)
no_email (User name) formed email =
    let user : local_part_of (codes "user:" ++ name) ≡ 117 ∷ 115 ∷ 101 ∷ 114 ∷ 58 ∷ local_part_of name = simp one-add in
    let local : IsLocalPart (117 ∷ 115 ∷ 101 ∷ 114 ∷ 58 ∷ local_part_of name) = subst IsLocalPart user email.1 in
    let no : false ≡ true = local.2 in
    cc
no_email (Service name) formed email = formed.0
no_email (Pooled pool subject groups) formed email = formed.0

same_text : (text : List ℕ) (a b : Caller) → IsPrincipal text a → IsPrincipal text b → caller_text a ≡ caller_text b
same_text text a b (p, inl one) (q, inl other) = sym one ∙ other
same_text text a b (p, inl one) (q, inr other) = absurd (no_email a p (subst IsEmail one other.0))
same_text text a b (p, inr one) (q, inl other) = absurd (no_email b q (subst IsEmail other one.0))
same_text text a b (p, inr one) (q, inr other) = stands_once text (caller_text a) (caller_text b) one.1 other.1

same_principal : (text : List ℕ) (a b : Caller) → IsPrincipal text a → IsPrincipal text b → a ≡ b
same_principal text a b p q = caller_told a b p.0 q.0 (same_text text a b p q)

same_resource : (text : List ℕ) (a b : NodeName) → IsResource text a → IsResource text b → a ≡ b
same_resource text a b p q =
    node_told a b p.0 q.0 (append_cancel_left (codes "//cloudresourcemanager.googleapis.com/") (node_text a) (node_text b) (sym p.1 ∙ q.1))

-- ---- the plan

same_plan : (values : Values) (a b : Plan) → command_of a ≡ command_of b → Says values a → Says values b → a ≡ b
same_plan values (Apply db opening) (Apply file start) same p q =
    ap₂ (λ (d : Option (List ℕ)) (o : Option Opening). Apply d o) (p.0 ∙ sym q.0) (same_openings values opening start p.1 q.1)
same_plan values (Apply db opening) (Ask file caller node name) same p q = let other : command.Apply ≡ command.Ask = same in cc
same_plan values (Ask file caller node name) (Apply db opening) same p q = let other : command.Ask ≡ command.Apply = same in cc
same_plan values (Ask db principal resource permission) (Ask file caller node name) same p q =
    let given : Some permission ≡ Some name = sym p.1.asked ∙ q.1.asked in
    let names : permission ≡ name = cc in
    let files : db ≡ file = p.0 ∙ sym q.0 in
    let callers : principal ≡ caller = of_both _ _ _ (principal ≡ caller) p.1.caller q.1.caller (λ text (one : IsPrincipal text principal) (other : IsPrincipal text caller). same_principal text principal caller one other) in
    let nodes : resource ≡ node = of_both _ _ _ (resource ≡ node) p.1.node q.1.node (λ text (one : IsResource text resource) (other : IsResource text node). same_resource text resource node one other) in
    λ i. Ask (files i) (callers i) (nodes i) (names i)

pub told : (words : List (List ℕ)) (a b : Plan) → IsPlan words a → IsPlan words b → a ≡ b
told words a b p q =
    let words_are : word_of (command_of a) ∷ words_of p.0 ≡ word_of (command_of b) ∷ words_of q.0 = sym p.1 ∙ q.1 in
    let first : word_of (command_of a) ≡ word_of (command_of b) = cc in
    let rest : words_of p.0 ≡ words_of q.0 = cc in
    same_plan (values_of p.0) a b (same_command (command_of a) (command_of b) first) p.3
    (subst (λ (pairs : Pairs). Says (values_of pairs) b) (sym (same_pairs p.0 q.0 rest)) q.3)
