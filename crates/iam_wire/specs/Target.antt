-- Whether bytes stop inside the target of a head, a byte at a time.
use Rattle.std.specs.Prelude.{ℕ, List, ◌==◌, if◌then◌else◌, fold}
use Rattle.httparse.specs.Grammar.{is_token_byte, is_uri_byte}
use Rattle.iam_wire.specs.declared.target.Place.{Place}
use Rattle.iam_wire.specs.declared.target.Place.TheVariants.{Blank, AfterReturn, Method, Target, Astray}

abbrev pub step : Place → ℕ → Place
step Blank byte = if byte == 13 then AfterReturn else (if byte == 10 then Blank else (if is_token_byte byte then Method else Astray))
step AfterReturn byte = if byte == 10 then Blank else Astray
step Method byte = if byte == 32 then Target else (if is_token_byte byte then Method else Astray)
step Target byte = if is_uri_byte byte then Target else Astray
step Astray byte = Astray

-- the place behind the bytes
abbrev pub run : Place → List ℕ → Place
run = fold step
