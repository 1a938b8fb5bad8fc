-- The machine stops at the target exactly where the bytes stop inside one.
use Rattle.std.proofs.Common.{◌≡◌, ℕ, ◌<◌, inl, inr, List, [], ◌∷◌, ◌++◌, length, Bool, true, false, eqb, refl, sym, ap, ◌∙◌, subst, arith, append_assoc, IsTrue, ◌↔◌}
use Rattle.std.proofs.lemmas.Bool.{cases_Bool, false≢true}
use Rattle.std.proofs.lemmas.Bool.Decides.{eqb_tells}
use Rattle.std.proofs.lemmas.List.Elements.{All-from_recursion, recursion_from_All}
use Rattle.std.specs.List.{AllByRecursion}
use Rattle.httparse.specs.Grammar.{is_token_byte, is_uri_byte, LineEnd, crlf, lf, print_end, print_blank, EndsInTarget}
use Rattle.httparse.specs.Pieces.{is_newline}
use Rattle.httparse.proofs.PieceLemmas.{space_ends_token, token_is_no_newline}
use Rattle.iam_wire.specs.Target.{step, run}
use Rattle.iam_wire.specs.declared.target.Place.TheVariants.{Blank, AfterReturn, Method, Target, Astray}

abbrev Each : (ℕ → Bool) → List ℕ → Type 0
Each test bytes = AllByRecursion (λ b. IsTrue (test b)) bytes

astray : (t : List ℕ) → run Astray t ≡ Astray
astray [] = refl
astray (x ∷ xs) = astray xs

-- ---- from a target

uri_run : (t : List ℕ) → Each is_uri_byte t → run Target t ≡ Target
uri_run [] h = refl
uri_run (x ∷ xs) h = rw h.0 (uri_run xs h.1)

method_run : (m t : List ℕ) → Each is_token_byte m → Each is_uri_byte t → run Method (m ++ 32 ∷ t) ≡ Target
method_run [] t h k = uri_run t k
method_run (x ∷ xs) t h k =
    elim (eqb_tells x 32) [
      | inl p ↦ absurd (false≢true (sym space_ends_token ∙ subst (λ (v : ℕ). is_token_byte v ≡ true) p.1 h.0))
      | inr p ↦ let goes : step Method x ≡ Method = rw (p.0, h.0) refl in ap (λ s. run s (xs ++ 32 ∷ t)) goes ∙ method_run xs t h.1 k
    ]

no_byte : (x b : ℕ) → is_token_byte x ≡ true → is_newline b ≡ true → eqb x b ≡ false
no_byte x b token line =
    elim (eqb_tells x b) [
      | inl p ↦ absurd (false≢true (sym (token_is_no_newline x token) ∙ subst (λ (v : ℕ). is_newline v ≡ true) (sym p.1) line))
      | inr p ↦ p.0
    ]

first_run : (m t : List ℕ) → 0 < length m → Each is_token_byte m → Each is_uri_byte t → run Blank (m ++ 32 ∷ t) ≡ Target
first_run [] t some h k = absurd (omega arith)
first_run (x ∷ xs) t some h k =
    let goes : step Blank x ≡ Method = rw (no_byte x 13 h.0 refl, no_byte x 10 h.0 refl, h.0) refl in
    ap (λ s. run s (xs ++ 32 ∷ t)) goes ∙ method_run xs t h.1 k

blank_run : (es : List LineEnd) (m t : List ℕ) → 0 < length m → Each is_token_byte m → Each is_uri_byte t → run Blank (print_blank es ++ (m ++ 32 ∷ t)) ≡ Target
blank_run [] m t some h k = first_run m t some h k
blank_run (crlf ∷ es) m t some h k = blank_run es m t some h k
blank_run (lf ∷ es) m t some h k = blank_run es m t some h k

-- ---- to a target

not_target : (t : List ℕ) → run Astray t ≡ Target → ⊥
not_target t e = let other : Astray ≡ Target = sym (astray t) ∙ e in cc

uri_found : (t : List ℕ) → run Target t ≡ Target → Each is_uri_byte t
uri_found [] e = tt
uri_found (x ∷ xs) e =
    elim (cases_Bool (is_uri_byte x)) [
      | inl p ↦ (p, uri_found xs (rw p at e))
      | inr p ↦ absurd (not_target xs (rw p at e))
    ]

abbrev AfterMethod : List ℕ → Type 0
AfterMethod t = (m u : List ℕ) × Each is_token_byte m × Each is_uri_byte u × (t ≡ m ++ 32 ∷ u)

method_found : (t : List ℕ) → run Method t ≡ Target → AfterMethod t
method_found [] e = absurd (cc)
method_found (x ∷ xs) e =
    elim (eqb_tells x 32) [
      | inl p ↦ ([], xs, tt, uri_found xs (rw p.0 at e), ap (λ v. v ∷ xs) p.1)
      | inr p ↦ elim (cases_Bool (is_token_byte x)) [
        | inl q ↦ let r = method_found xs (rw (p.0, q) at e) in (x ∷ r.0, r.1, (q, r.2), r.3, ap (λ v. x ∷ v) r.4)
        | inr q ↦ absurd (not_target xs (rw (p.0, q) at e))
      ]
    ]

abbrev AfterBlank : List ℕ → Type 0
AfterBlank t = (es : List LineEnd) × (m u : List ℕ) × (0 < length m) × Each is_token_byte m × Each is_uri_byte u × (t ≡ print_blank es ++ (m ++ 32 ∷ u))

one_line : (e : LineEnd) (t : List ℕ) → AfterBlank t → AfterBlank (print_end e ++ t)
one_line e t r = (e ∷ r.0, r.1, r.2, r.3, r.4, r.5, ap (λ v. print_end e ++ v) r.6 ∙ sym (append_assoc (print_end e) (print_blank r.0) _))

mutual
  blank_found : (t : List ℕ) → run Blank t ≡ Target → AfterBlank t
  blank_found [] e = absurd (cc)
  blank_found (x ∷ xs) e =
      elim (eqb_tells x 13) [
        | inl p ↦ subst (λ (v : ℕ). AfterBlank (v ∷ xs)) (sym p.1) (return_found xs (rw p.0 at e))
        | inr p ↦ elim (eqb_tells x 10) [
          | inl q ↦ subst (λ (v : ℕ). AfterBlank (v ∷ xs)) (sym q.1) (one_line lf xs (blank_found xs (rw (p.0, q.0) at e)))
          | inr q ↦ elim (cases_Bool (is_token_byte x)) [
            | inl r ↦ let f = method_found xs (rw (p.0, q.0, r) at e) in ([], x ∷ f.0, f.1, omega arith, (r, f.2), f.3, ap (λ v. x ∷ v) f.4)
            | inr r ↦ absurd (not_target xs (rw (p.0, q.0, r) at e))
          ]
        ]
      ]

  return_found : (t : List ℕ) → run AfterReturn t ≡ Target → AfterBlank (13 ∷ t)
  return_found [] e = absurd (cc)
  return_found (x ∷ xs) e =
      elim (eqb_tells x 10) [
        | inl p ↦ subst (λ (v : ℕ). AfterBlank (13 ∷ v ∷ xs)) (sym p.1) (one_line crlf xs (blank_found xs (rw p.0 at e)))
        | inr p ↦ absurd (not_target xs (rw p.0 at e))
      ]

-- ---- both ways

pub run-from_target : (bytes : List ℕ) → EndsInTarget bytes → run Blank bytes ≡ Target
run-from_target bytes w =
    ap (run Blank) (w.5 ∙ append_assoc (print_blank w.0) w.1 (32 ∷ w.2))
    ∙ blank_run w.0 w.1 w.2 w.3.0 (recursion_from_All _ w.1 w.3.1) (recursion_from_All _ w.2 w.4)

pub target_from_run : (bytes : List ℕ) → run Blank bytes ≡ Target → EndsInTarget bytes
target_from_run bytes e =
    let r = blank_found bytes e in
    (r.0, r.1, r.2, (r.3, All-from_recursion _ r.1 r.4), All-from_recursion _ r.2 r.5, r.6 ∙ sym (append_assoc (print_blank r.0) r.1 (32 ∷ r.2)))

pub at_target : (bytes : List ℕ) (b : Bool) → (b ≡ true → run Blank bytes ≡ Target) × (run Blank bytes ≡ Target → b ≡ true) → IsTrue b ↔ EndsInTarget bytes
at_target bytes b h = (λ e. target_from_run bytes (h.0 e), λ w. h.1 (run-from_target bytes w))
