use Rattle.cel_syntax.proofs.Again.{reads_back}
use Rattle.cel_syntax.proofs.printing.printed_reads_back.Goals as goal

pub returns : goal.returns
returns c = reads_back
