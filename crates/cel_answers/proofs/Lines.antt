-- A line's bytes, and the answers to texts and lines.
use Rattle.std.proofs.Common.{◌≡◌, ℕ, ◌-◌, ◌<◌, ◌≤◌, List, [], ◌∷◌, ◌++◌, length, get_or, take, drop, Result, IfOk, refl, sym, subst, ◌∙◌, append_assoc, append-nil, arith}
use Rattle.std.proofs.lemmas.List.{take_rest}
use Rattle.std.proofs.lemmas.Result.{IfOk-weaker}
use Rattle.std.specs.Str.{IsUtf8}
use Rattle.cel_answers.specs.declared.task.Task.{Task}
use Rattle.cel_answers.specs.Answers as answers
use Rattle.cel_answers.specs.Answers.{Answer, IsNamed, LineAnswer}
use Rattle.cel_answers.specs.declared.task.Task.TheVariants.{Value}
use Rattle.cel_meaning.specs.Results.{at}
use Rattle.cel_syntax.specs.CelText.{CelText}
use Rattle.cel_tree.specs.declared.tree.Expr.{Expr}
use Rattle.cel_types.specs.HasKind.{HasKind}
use Rattle.cel_types.specs.Laws.{IsTruthOrFault}
use Rattle.cel_types.specs.Means.{Means}
use Rattle.cel_types.specs.Kinds.{truth}
use Rattle.cel_types.specs.declared.kind.Place.TheVariants.{Allow}
use Rattle.cel_value.specs.declared.context.Context.{Context}
use Rattle.cel_value.specs.declared.value.Outcome.{Outcome}
use Rattle.cel_value.specs.declared.value.Outcome.TheVariants.{Given, Stopped}
use Rattle.cel_answers.specs.Escapes.{front, StandsFor}
use Rattle.cel_answers.specs.Escapes as spec
use Rattle.cel_types.specs.Sight.{sight_of}

-- with these bytes before it, what the rest of a line stands for is what the whole stands for
abbrev pub SoFar : List ℕ → List ℕ → List ℕ → Type 0
SoFar line found left = (bytes : List ℕ) → StandsFor left bytes → StandsFor line (found ++ bytes)

pub record IsSoFar (line found left : List ℕ) : Type 0 where
  pub whole : SoFar line found left

turn : (line found rest : List ℕ) (first byte more : ℕ) → (byte, more) ≡ front first rest → IsSoFar line found (first ∷ rest)
    → IsSoFar line (found ++ byte ∷ []) (drop more rest)
turn line found rest first byte more e s = record {
  whole = λ bytes h.
      let step : StandsFor (first ∷ rest) (byte ∷ bytes) = subst (λ p. StandsFor (drop p.1 rest) bytes → StandsFor (first ∷ rest) (p.0 ∷ bytes)) (sym e) spec.more h in
      subst (StandsFor line) (sym (append_assoc found (byte ∷ []) bytes)) (s.whole (byte ∷ bytes) step);
}

-- the same, of the slices that a turn of the loop makes
pub turn_of_slices : (line found pushed left : List ℕ) (made : ℕ × ℕ) → 1 ≤ length left → pushed ≡ found ++ made.0 ∷ []
    → made ≡ front (get_or left 0 0) (take (length left - 1) (drop 1 left)) → IsSoFar line found left
    → IsSoFar line pushed (take (length (take (length left - 1) (drop 1 left)) - made.1) (drop made.1 (take (length left - 1) (drop 1 left))))
turn_of_slices line found pushed [] made l p e s = absurd (omega (arith, l))
turn_of_slices line found pushed (first ∷ rest) made l p e s =
    let same : take (length (first ∷ rest) - 1) (drop 1 (first ∷ rest)) ≡ rest = take_rest (first ∷ rest) 1 in
    let is : made ≡ front first rest = subst (λ (z : List ℕ). made ≡ front first z) same e in
    rw (p, same, take_rest rest made.1) (turn line found rest first made.0 made.1 is s)

pub finish : (line found left : List ℕ) → length left < 1 → IsSoFar line found left → StandsFor line found
finish line found [] l s = subst (StandsFor line) (append-nil found) (s.whole [] spec.end)
finish line found (b ∷ left) l s = absurd (omega (arith, l))

-- what is said of the line that was wanted is said of the line that was made
pub said : {X E : Type 0} (r : Result X E) (bytes : X → List ℕ) (line wanted : List ℕ) (P : List ℕ → Type 0) → IfOk r (λ x. bytes x ≡ line)
    → line ≡ wanted → P wanted → IfOk r (λ x. P (bytes x))
said r bytes line wanted P h e p = IfOk-weaker r _ _ (λ x k. subst P (sym (k ∙ e)) p) h

-- the answer to the text that a line stands for
pub line_said : {X E : Type 0} (r : Result X E) (bytes : X → List ℕ) (c : Context) (task : Task) (given line held text : List ℕ) → StandsFor given held
    → given ≡ line → text ≡ held → IsUtf8 text → IfOk r (λ x. Answer c task text (bytes x)) → IfOk r (λ x. LineAnswer c task line (bytes x))
line_said r bytes c task given line held text s g e u h =
    let stands : StandsFor line text = subst (λ (z : List ℕ). StandsFor line z) (sym e) (subst (λ (z : List ℕ). StandsFor z held) g s) in
    IfOk-weaker r _ _ (λ x k. answers.text stands u k) h

-- a line that has one answer is given no other one
pub no_other : {X E : Type 0} (r : Result X E) (bytes : X → List ℕ) (c : Context) (task : Task) (line : List ℕ)
    → ((c : Context) (task : Task) (line answer other : List ℕ) → LineAnswer c task line answer → LineAnswer c task line other → answer ≡ other)
    → IfOk r (λ x. LineAnswer c task line (bytes x)) → IfOk r (λ x. (other : List ℕ) → LineAnswer c task line other → bytes x ≡ other)
no_other r bytes c task line one h = IfOk-weaker r _ _ (λ x k other d. one c task line (bytes x) other k d) h

-- the answer to a condition is the name of what it comes to
pub value_said : (c : Context) (text line : List ℕ) (e : Expr) (o : Outcome) (name : List ℕ) → line ≡ name
    → CelText text e → HasKind (sight_of Allow) e truth → Means (at c) e o → IsTruthOrFault o → IsNamed o name → Answer c Value text line
value_said c text line e o name same reads kind m is named = subst (λ z. Answer c Value text z) (sym same) (by o m is named)
  where
    by : (o : Outcome) → Means (at c) e o → IsTruthOrFault o → IsNamed o name → Answer c Value text name
    by (Given v) m is named =
        subst (λ z. Answer c Value text z) (sym (named is.0 is.1)) (answers.truth reads kind (subst (λ z. Means (at c) e (Given z)) is.1 m))
    by (Stopped fault) m is named = subst (λ z. Answer c Value text z) (sym named) (answers.stopped reads kind m)
