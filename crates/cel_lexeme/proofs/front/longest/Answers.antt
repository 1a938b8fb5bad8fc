use Rattle.cel_lexeme.proofs.Proper.{longest_is, is_read, none_is, is_none, rest_is, proper}
use Rattle.cel_lexeme.proofs.front.longest.Goals as goal

pub returns-clause-found : goal.returns-clause-found
returns-clause-found c = λ z t. (λ e. longest_is z t e, λ k. is_read z t k)

pub returns-clause-none : goal.returns-clause-none
returns-clause-none c = λ z. (λ e. none_is z e, λ h. is_none z h)

pub returns-clause-rest : goal.returns-clause-rest
returns-clause-rest c = λ z l n u k. rest_is z l n u k

pub returns-clause-proper : goal.returns-clause-proper
returns-clause-proper c = λ z k n u h. proper z k n u h
