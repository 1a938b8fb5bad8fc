use Rattle.std.proofs.Common.{◌≡◌, [], ◌∷◌, ◌++◌, List, ℕ, ℤ, Bool, pos, true, w64, to_z, sym, ap, ◌∙◌, lit<}
use Rattle.std.proofs.lemmas.Fmt.{decimal_digit}
use Rattle.std.proofs.lemmas.Int.{to_z-of_z}
use Rattle.cel_shown.specs.Shown.{number}
use Rattle.cel_shown.specs.Spelled.{bytes_of}
use Rattle.cel_print.proofs.Bytes.{on_ok}
use Rattle.cel_print.proofs.trees.integer.Goals as goal

pub returns-then-n-eq0 : goal.returns-then-n-eq0
returns-then-n-eq0 c =
    let zero : c.args.n ≡ pos 0 = sym (to_z-of_z w64 c.args.n c.ranges.n) ∙ ap (to_z w64) c.if-n-eq0.true in
    on_ok c.put.result c.put.new.self _ (c.args.out.now ++ bytes_of (number c.args.n c.args.after_minus)) c.put.ensures
    (ap (λ (z : List ℕ). c.args.out.now ++ 45 ∷ (z ++ [])) (sym (decimal_digit 0 (lit< tt))) ∙ ap (λ (z : ℤ). c.args.out.now ++ bytes_of (number z true)) (sym zero) ∙ ap (λ (b : Bool). c.args.out.now ++ bytes_of (number c.args.n b)) (sym c.if-not-after_minus.false))
