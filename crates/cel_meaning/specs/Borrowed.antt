-- Heads with borrowed texts, as the evaluator has them.
use Rattle.cel_meaning.specs.declared.head.Head.{Head as Borrowed}
use Rattle.cel_meaning.specs.declared.head.Head.TheVariants as borrowed
use Rattle.cel_types.specs.Heads as head
use Rattle.cel_types.specs.Heads.{Head}

-- the head that it stands for
abbrev pub meant : Borrowed → Head
meant (borrowed.Bool b) = head.bool b
meant (borrowed.Int n) = head.int n
meant (borrowed.Str text) = head.str text.now
meant (borrowed.Attribute a) = head.attribute a
meant (borrowed.Tag function key asked) = head.tag function key.now asked.now
meant borrowed.Modified = head.modified
meant borrowed.Timestamp = head.timestamp
meant borrowed.Duration = head.duration
meant borrowed.StartsWith = head.starts_with
meant borrowed.EndsWith = head.ends_with
meant (borrowed.Extract prefix suffix) = head.extract prefix.now suffix.now
meant borrowed.HasOnly = head.has_only
meant (borrowed.Part p minutes) = head.part p minutes
meant borrowed.List = head.list
meant borrowed.Not = head.not
meant borrowed.Neg = head.negative
meant (borrowed.Two o) = head.two o
meant borrowed.Pick = head.pick
