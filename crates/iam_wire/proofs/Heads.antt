-- Heads at the front of bytes, and bytes that may still become one.
use Rattle.std.proofs.Common.{◌≡◌, Bool, ℕ, ◌+◌, ◌≤◌, ◌⊎◌, inl, inr, List, [], ◌∷◌, ◌++◌, length, refl, sym, ap, ◌∙◌, subst, arith, append_assoc, append-nil, length-append, IsTrue}
use Rattle.std.proofs.lemmas.List.{nil_from_length}
use Rattle.std.proofs.lemmas.List.Elements.{All-from_recursion, recursion_from_All, All-nil, All-cons}
use Rattle.std.proofs.lemmas.Str.{IsUtf8-from_ascii}
use Rattle.std.proofs.lemmas.Str.Ascii.{IsAscii-cons, IsAscii-nil}
use Rattle.std.specs.List.{AllByRecursion}
use Rattle.httparse.specs.Grammar.{RequestHead, print_request, ReadsRequest, HasNoRequest, MayBecomeRequest, NeverHasRequest, EndsInTarget, is_token_byte, is_uri_byte, IsToken, AllPass, LineEnd, lf, print_blank}
use Rattle.httparse.proofs.GrammarLemmas.{request_unique, ReadsRequest-append, print_request-append}
use Rattle.httparse.proofs.OpenLemmas.{letter_is_token}
use Rattle.iam_wire.specs.Front.{HasHead, IsPrefix}
use Rattle.iam_wire.proofs.Bytes.{some_head}

-- ---- two ways to split a list

pub split : (p q a b : List ℕ) → p ++ q ≡ a ++ b → ((r : List ℕ) × (p ++ r ≡ a)) ⊎ ((t : List ℕ) × (p ≡ a ++ t) × (t ++ q ≡ b))
split [] q a b same = inl (a, refl)
split (x ∷ p) q [] b same = inr (x ∷ p, refl, same)
split (x ∷ p) q (y ∷ a) b same =
    let head : x ≡ y = cc in
    let tail : p ++ q ≡ a ++ b = cc in
    elim (split p q a b tail) [
      | inl r ↦ inl (r.0, cc (r.1))
      | inr r ↦ inr (r.0, cc (r.1), r.2)
    ]

front_each : (P : ℕ → Type 0) (p q : List ℕ) → AllByRecursion P (p ++ q) → AllByRecursion P p
front_each P [] q h = tt
front_each P (x ∷ p) q h = (h.0, front_each P p q h.1)

front_passes : (test : ℕ → Bool) (p q a : List ℕ) → p ++ q ≡ a → AllPass test a → AllPass test p
front_passes test p q a same all =
    let P : ℕ → Type 0 = λ b. IsTrue (test b) in
    All-from_recursion P p (front_each P p q (recursion_from_All P (p ++ q) (subst (AllPass test) (sym same) all)))

-- ---- bytes that may become a head

-- the shortest head behind a method
abbrev pub rest_of_head : List ℕ
rest_of_head = 47 ∷ 32 ∷ 72 ∷ 84 ∷ 84 ∷ 80 ∷ 47 ∷ 49 ∷ 46 ∷ 49 ∷ 10 ∷ 10 ∷ []

abbrev pub short_head : List LineEnd → List ℕ → RequestHead
short_head blank method = record { blank = blank; method = method; target = 47 ∷ []; minor = 1; line_end = lf; fields = []; last = lf }

reads_short : (blank : List LineEnd) (method : List ℕ) → IsToken method → ReadsRequest ((print_blank blank ++ method ++ 32 ∷ []) ++ rest_of_head) (short_head blank method) []
reads_short blank method token = (
  record {
    method = token;
    target = (omega arith, All-cons (λ b. IsTrue (is_uri_byte b)) 47 [] refl (All-nil _));
    target_text = IsUtf8-from_ascii _ (IsAscii-cons 47 [] (omega arith) IsAscii-nil);
    minor = omega arith;
    fields = All-nil _;
  },
  append_assoc (print_blank blank ++ method) (32 ∷ []) rest_of_head ∙ append_assoc (print_blank blank) method (32 ∷ rest_of_head)
      ∙ sym (print_request-append (short_head blank method) []),
)

-- bytes that go on to a target may go on to a head, unless they stop inside the target themselves
pub may_from_later : (bytes more : List ℕ) → EndsInTarget (bytes ++ more) → MayBecomeRequest bytes
may_from_later bytes more w =
    let front = print_blank w.0 ++ w.1 ++ 32 ∷ [] in
    let whole : bytes ++ more ≡ front ++ w.2 = w.5 ∙ sym (append_assoc (print_blank w.0 ++ w.1) (32 ∷ []) w.2) in
    elim (split bytes more front w.2 whole) [
      | inl r ↦ inl (
        r.0 ++ rest_of_head,
        short_head w.0 w.1,
        ((reads_short w.0 w.1 w.3).0, sym (append_assoc bytes r.0 rest_of_head) ∙ ap (λ s. s ++ rest_of_head) r.1 ∙ (reads_short w.0 w.1 w.3).1),
      )
      | inr r ↦ inr (w.0, w.1, r.0, w.3, front_passes is_uri_byte r.0 more w.2 r.2 w.4, r.1 ∙ append_assoc (print_blank w.0 ++ w.1) (32 ∷ []) r.0)
    ]

-- a head that comes later makes the bytes the front of a head
pub may_from_head : (bytes more : List ℕ) (head : RequestHead) (rest : List ℕ) → HasNoRequest bytes → ReadsRequest (bytes ++ more) head rest → MayBecomeRequest bytes
may_from_head bytes more head rest none reads =
    elim (split bytes more (print_request head) rest reads.1) [
      | inl r ↦ inl (r.0, head, (reads.0, r.1 ∙ sym (append-nil (print_request head))))
      | inr r ↦ absurd (none head r.0 (reads.0, r.1))
    ]

pub nothing_is_prefix : IsPrefix []
nothing_is_prefix = inl record {
  short = omega arith;
  none = λ head rest reads.
      let long : 0 ≡ length (print_request head) + length rest = ap length reads.1 ∙ length-append (print_request head) rest in
      omega (arith, long, some_head head);
  may = inl ((65 ∷ 32 ∷ []) ++ rest_of_head, short_head [] (65 ∷ []), reads_short [] (65 ∷ []) (omega arith, All-cons (λ b. IsTrue (is_token_byte b)) 65 [] letter_is_token (All-nil _)));
}

-- ---- a head

pub never_now : (bytes : List ℕ) → NeverHasRequest bytes → HasNoRequest bytes
never_now bytes never head rest reads = never [] head rest (subst (λ s. ReadsRequest s head rest) (sym (append-nil bytes)) reads)

pub one_head : (bytes : List ℕ) (head other : RequestHead) (rest left : List ℕ) → HasHead bytes head rest → HasHead bytes other left → (head ≡ other) × (rest ≡ left)
one_head bytes head other rest left x y = request_unique bytes head other rest left x.reads y.reads

pub has_more : (bytes more : List ℕ) (head : RequestHead) (rest : List ℕ) → HasHead bytes head rest → HasHead (bytes ++ more) head (rest ++ more)
has_more bytes more head rest x = record { reads = ReadsRequest-append bytes head rest more x.reads; small = x.small }

-- a head that is no longer than the bytes is in them
pub has_less : (bytes more : List ℕ) (head : RequestHead) (rest : List ℕ) → HasHead (bytes ++ more) head rest → length (print_request head) ≤ length bytes
    → (r : List ℕ) × HasHead bytes head r
has_less bytes more head rest x short =
    elim (split bytes more (print_request head) rest x.reads.1) [
      | inl r ↦ let none : length r.0 ≡ 0 = omega (arith, length-append bytes r.0, ap length r.1) in
          ([], record { reads = (x.reads.0, sym (append-nil bytes) ∙ ap (λ s. bytes ++ s) (sym (nil_from_length r.0 none)) ∙ r.1 ∙ sym (append-nil _)); small = x.small })
      | inr r ↦ (r.0, record { reads = (x.reads.0, r.1); small = x.small })
    ]
