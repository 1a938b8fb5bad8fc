use Rattle.cel_answers.proofs.Unique.{one_line_answer}
use Rattle.cel_answers.proofs.laws.one_answer_a_line.Goals as goal

pub returns : goal.returns
returns c = λ _ task line answer other h k.
    one_line_answer
    (record {
      one_tree = c.one_answer.ensures.tree;
      one_fault = c.one_answer.ensures.fault;
      not_both = c.one_answer.ensures.not_both;
      one_type_fault = c.at_most_one_fault.ensures;
      no_fault = c.conditions_have_no_fault.ensures;
      one_outcome = c.at_most_one_outcome.ensures;
    })
    h other k
