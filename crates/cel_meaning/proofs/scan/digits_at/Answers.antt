use Rattle.cel_meaning.proofs.Scanning.{all_digits}
use Rattle.cel_meaning.proofs.scan.digits_at.Goals as goal

pub returns-clause-digits : goal.returns-clause-digits
returns-clause-digits c = rw (c.front.ensures, c.digits_len.ensures.value) (all_digits c.args.text.now)
