-- Principals and resources.
use Rattle.std.proofs.Common.{◌≡◌, ◌≢◌, ◌∙◌, ◌↔◌, ◌-◌, ℕ, List, ◌++◌, length, take, Some, None, Option, MatchOption, IsTrue, is_some, Bor, refl, inl, inr, sym, ap, subst, codes}
use Rattle.std.specs.Str.Pattern.{FindsTextSuffix, StripsSuffix}
use Rattle.std.proofs.lemmas.List.{append_cancel_left}
use Rattle.iam_names.specs.Caller.{IsCaller, caller_text}
use Rattle.iam_names.specs.Email.{IsEmail, email_text}
use Rattle.iam_names.specs.Node.{IsNodeName, node_text}
use Rattle.iam_names.specs.Reading.{IsRead}
use Rattle.iam_names.specs.declared.caller.Caller.{Caller}
use Rattle.iam_names.specs.declared.node.NodeName.{NodeName}
use Rattle.iam_plan.specs.Access.{StandsForText, IsEmailOf, IsPrincipal, IsResource}
use Rattle.iam_plan.specs.Values.{IsFound}

pub ends_so : (domain suffix : List ℕ) (r : Option (Bor (List ℕ))) → MatchOption r ((front : List ℕ) → domain ≢ front ++ suffix) (λ x. StripsSuffix (FindsTextSuffix suffix) domain x.now) → IsTrue (is_some r) ↔ ((front : List ℕ) × (domain ≡ front ++ suffix))
ends_so domain suffix None none = (λ t. cc, λ has. absurd (none has.0 has.1))
ends_so domain suffix (Some x) strips = (λ t. (take (length domain - strips.0) domain, strips.1.1), λ has. refl)

-- an email stands for one text
pub stands_once : (email a b : List ℕ) → StandsForText email a → StandsForText email b → a ≡ b
stands_once email a b (inl p) (inl q) = p.1 ∙ sym q.1
stands_once email a b (inl p) (inr q) = absurd (q.0 p.0)
stands_once email a b (inr p) (inl q) = absurd (p.0 q.0)
stands_once email a b (inr p) (inr q) = p.1 ∙ sym q.1

pub read_of_email : (email text : List ℕ) (r : Option Caller) → StandsForText email text → IsRead IsCaller caller_text text r → IsFound (λ caller. IsCaller caller × StandsForText email (caller_text caller)) r
read_of_email email text None stands none = λ caller is. none caller is.0 (stands_once email text (caller_text caller) stands is.1)
read_of_email email text (Some caller) stands read = (read.0, subst (StandsForText email) read.1 stands)

pub email_is : (text email : List ℕ) (r : Option Caller) → IsRead IsEmail email_text text (Some email) → IsFound (λ caller. IsCaller caller × StandsForText email (caller_text caller)) r → IsFound (λ caller. IsCaller caller × IsEmailOf text caller) r
email_is text email None read none = λ caller is. none caller (is.0, subst (λ (e : List ℕ). StandsForText e (caller_text caller)) read.1 is.1.1)
email_is text email (Some caller) read found = (found.0, (subst IsEmail (sym read.1) read.0, subst (λ (e : List ℕ). StandsForText e (caller_text caller)) (sym read.1) found.1))

-- a text of no caller is a principal as an email alone
pub principal_of_email : (text : List ℕ) (r : Option Caller) → ((caller : Caller) → IsCaller caller → text ≡ caller_text caller → ⊥) → IsFound (λ caller. IsCaller caller × IsEmailOf text caller) r → IsFound (λ caller. IsPrincipal text caller) r
principal_of_email text None unread none = λ caller is. elim is.1 [
  | inl same ↦ unread caller is.0 same
  | inr email ↦ none caller (is.0, email)
]
principal_of_email text (Some caller) unread found = (found.0, inr found.1)

pub resource_behind : (text name : List ℕ) (r : Option NodeName) → text ≡ codes "//cloudresourcemanager.googleapis.com/" ++ name → IsRead IsNodeName node_text name r → IsFound (λ node. IsResource text node) r
resource_behind text name None is none = λ node resource.
    none node resource.0 (append_cancel_left (codes "//cloudresourcemanager.googleapis.com/") name (node_text node) (sym is ∙ resource.1))
resource_behind text name (Some node) is read = (read.0, is ∙ ap (λ (t : List ℕ). codes "//cloudresourcemanager.googleapis.com/" ++ t) read.1)
