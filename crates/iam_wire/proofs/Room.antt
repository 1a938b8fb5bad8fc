-- A head of so many fields is longer than a head may be.
use Rattle.std.proofs.Common.{ℕ, ◌+◌, ◌*◌, ◌≤◌, List, [], ◌∷◌, ◌++◌, length, ap, arith, length-append}
use Rattle.std.proofs.lemmas.List.Elements.{recursion_from_All}
use Rattle.std.specs.List.{AllByRecursion, All, flat_map}
use Rattle.httparse.specs.Grammar.{RequestHead, print_request, Field, IsField, print_field, print_section, print_end, print_blank, print_version, LineEnd, crlf, lf}
use Rattle.httparse.specs.Spans.{RequestExceeds}
use Rattle.httparse.proofs.GrammarLemmas.{print_request-append}

end_some : (e : LineEnd) → 1 ≤ length (print_end e)
end_some crlf = omega arith
end_some lf = omega arith

field_long : (f : Field) → IsField f → 3 ≤ length (print_field f)
field_long f ok =
    omega (arith, ok.name.0, end_some f.end, length-append (f.name ++ 58 ∷ f.raw) (print_end f.end), length-append f.name (58 ∷ f.raw))

fields_long : (fs : List Field) → AllByRecursion IsField fs → 3 * length fs ≤ length (flat_map print_field fs)
fields_long [] h = omega arith
fields_long (f ∷ fs) h = omega (arith, field_long f h.0, fields_long fs h.1, length-append (print_field f) (flat_map print_field fs))

-- what is behind other bytes is no longer than the whole
tail_short : (a b : List ℕ) → length b ≤ length (a ++ b)
tail_short a b = omega (arith, length-append a b)

head_long : (h : RequestHead) → All IsField h.fields → 3 * length h.fields ≤ length (print_request h)
head_long h all =
    let fields = flat_map print_field h.fields in
    let section = print_section h.fields h.last in
    let e = print_end h.line_end ++ (section ++ []) in
    let v = print_version h.minor ++ e in
    let t = h.target ++ 32 ∷ v in
    let m = h.method ++ 32 ∷ t in
    omega (
      arith,
      fields_long h.fields (recursion_from_All IsField h.fields all),
      length-append fields (print_end h.last),
      tail_short section [],
      length-append section [],
      tail_short (print_end h.line_end) (section ++ []),
      tail_short (print_version h.minor) e,
      tail_short h.target (32 ∷ v),
      tail_short h.method (32 ∷ t),
      tail_short (print_blank h.blank) m,
      ap length (print_request-append h []),
      length-append (print_request h) [],
    )

pub never_exceeds : (room : ℕ) (bytes : List ℕ) → RequestExceeds room bytes → 3 * room + 2 ≤ length bytes
never_exceeds room bytes x =
    omega (
      arith,
      head_long x.3 x.4.0.fields,
      x.5,
      ap length x.2,
      ap length x.4.1,
      length-append x.0 x.1,
      length-append x.0 (print_end lf),
      length-append (print_request x.3) [],
    )
