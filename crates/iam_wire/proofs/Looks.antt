-- From what the head's reader tells of the first bytes to the front of them all.
use Rattle.std.proofs.Common.{◌≡◌, ℕ, ◌+◌, ◌-◌, ◌<◌, ◌≤◌, inl, inr, List, ◌++◌, length, take, drop, codes, refl, sym, ap, ◌∙◌, subst, arith, length-append}
use Rattle.std.proofs.lemmas.List.{take-append-drop, take_all, length-take}
use Rattle.httparse.specs.Grammar.{print_request, ReadsRequest, HasNoRequest, MayBecomeRequest, NeverHasRequest, EndsInTarget}
use Rattle.httparse.proofs.GrammarLemmas.{ReadsRequest-append}
use Rattle.httparse.specs.Spans.{IsRequestOf}
use Rattle.httparse.specs.declared.spans.HeaderSpan.{HeaderSpan}
use Rattle.httparse.specs.declared.spans.RequestSpans.{RequestSpans}
use Rattle.iam_wire.specs.Fields.{fields_of, values_named}
use Rattle.iam_wire.specs.Front.{max_head, judged, judged_fields, is_last, HasHead, IsPrefix, IsTooLong, HasFault}
use Rattle.iam_wire.specs.Look.{IsCovered, IsNamed, IsWhole, HasWhole}
use Rattle.iam_wire.specs.declared.fault.FrameFault.{FrameFault}
use Rattle.iam_wire.specs.declared.fault.FrameFault.TheVariants.{BadHead}
use Rattle.iam_wire.specs.declared.fault.Judgement.TheVariants.{Sized, Faulty}
use Rattle.iam_wire.specs.declared.head.Head.{Head}
use Rattle.iam_wire.proofs.Heads.{never_now, has_less}

-- what the spans of a head cover are its parts
pub whole_from : (bytes : List ℕ) (headers : List HeaderSpan) (spans : RequestSpans) (found : Head) → IsRequestOf bytes headers spans
    → IsCovered bytes spans (take spans.headers headers) found → IsWhole bytes found
unfolding judged
whole_from bytes headers spans found is covered = record {
  head = is.0;
  reads = subst (λ (n : ℕ). ReadsRequest bytes is.0 (drop n bytes)) (sym covered.len) is.1.reads;
  parts = record {
    len = covered.len ∙ is.1.len;
    method = covered.method ∙ is.1.method;
    target = covered.target ∙ is.1.path;
    caller = subst (λ (fields : List (List ℕ × List ℕ)). IsNamed (values_named (codes "x-iam-caller") fields) found.caller) is.1.fields covered.caller;
    floor = subst (λ (fields : List (List ℕ × List ℕ)). IsNamed (values_named (codes "x-iam-min-revision") fields) found.floor) is.1.fields covered.floor;
    last = covered.last ∙ ap (λ (fields : List (List ℕ × List ℕ)). is_last spans.version fields) is.1.fields ∙ ap (λ (minor : ℕ). is_last minor (fields_of is.0)) is.1.version;
    said = covered.said ∙ ap (λ (fields : List (List ℕ × List ℕ)). judged_fields spans.version fields) is.1.fields ∙ ap (λ (minor : ℕ). judged_fields minor (fields_of is.0)) is.1.version;
  };
}

-- the head of the first bytes is one of them all, with what is left
pub whole_head : (bytes : List ℕ) (found : Head) (w : IsWhole (take max_head bytes) found)
    → (rest : List ℕ) × HasHead bytes w.head rest × (length bytes ≡ found.len + length rest)
whole_head bytes found w =
    let first = take max_head bytes in
    let later = drop max_head bytes in
    let r = drop found.len first in
    let all : first ++ later ≡ bytes = take-append-drop max_head bytes in
    let reads : ReadsRequest bytes w.head (r ++ later) = subst (λ s. ReadsRequest s w.head (r ++ later)) all (ReadsRequest-append first w.head r later w.reads) in
    let small : length first ≤ max_head = window_length bytes in (
      r ++ later,
      record { reads = reads; small = omega (arith, small, ap length w.reads.1, length-append (print_request w.head) r) },
      ap length reads.1 ∙ length-append (print_request w.head) (r ++ later) ∙ ap (λ n. n + length (r ++ later)) (sym w.parts.len),
    )
  where
    window_length : (s : List ℕ) → length (take max_head s) ≤ max_head
    window_length s = omega (arith, length-take max_head s)

pub found_front : (bytes : List ℕ) (found : Head) (size : ℕ) → IsWhole (take max_head bytes) found → found.said ≡ Sized size → size ≤ length bytes - found.len → HasWhole bytes found size
found_front bytes found size w said fits =
    let x = whole_head bytes found w in
    record { head = w.head; rest = x.0; has = x.1; parts = w.parts; says = sym w.parts.said ∙ said; whole = omega (arith, x.2, fits) }

pub short_front : (bytes : List ℕ) (found : Head) (size : ℕ) → IsWhole (take max_head bytes) found → found.said ≡ Sized size → length bytes - found.len < size → IsPrefix bytes
short_front bytes found size w said lacks =
    let x = whole_head bytes found w in
    inr record { head = w.head; rest = x.0; has = x.1; size = size; says = sym w.parts.said ∙ said; short = omega (arith, x.2, lacks) }

pub len_within : (bytes : List ℕ) (found : Head) → IsWhole (take max_head bytes) found → found.len ≤ length bytes
len_within bytes found w = let x = whole_head bytes found w in omega (arith, x.2)

pub faulty_front : (bytes : List ℕ) (found : Head) (fault : FrameFault) → IsWhole (take max_head bytes) found → found.said ≡ Faulty fault → HasFault bytes fault
faulty_front bytes found fault w said =
    let x = whole_head bytes found w in
    inl record { head = w.head; rest = x.0; has = x.1; says = sym w.parts.said ∙ said }

all_there : (bytes : List ℕ) → length bytes < max_head → take max_head bytes ≡ bytes
all_there bytes short = take_all max_head bytes (omega arith)

pub open_front : (bytes : List ℕ) → HasNoRequest (take max_head bytes) × MayBecomeRequest (take max_head bytes) → length bytes < max_head → IsPrefix bytes
open_front bytes o short =
    let same = all_there bytes short in
    inl record { short = short; none = subst HasNoRequest same o.0; may = subst MayBecomeRequest same o.1 }

no_head_in : (bytes : List ℕ) → HasNoRequest (take max_head bytes) → max_head ≤ length bytes → IsTooLong bytes
no_head_in bytes none long = record {
  long = long;
  none = λ head rest has.
      let all = take-append-drop max_head bytes in
      let enough : length (print_request head) ≤ length (take max_head bytes) = omega (arith, length-take max_head bytes, has.small) in
      let less = has_less (take max_head bytes) (drop max_head bytes) head rest (subst (λ s. HasHead s head rest) (sym all) has) enough in
      none head less.0 less.1.reads;
}

pub long_front : (bytes : List ℕ) → HasNoRequest (take max_head bytes) → max_head ≤ length bytes → HasFault bytes BadHead
long_front bytes none long = inr (refl, inr (no_head_in bytes none long))

pub target_front : (bytes : List ℕ) → NeverHasRequest (take max_head bytes) → length bytes < max_head → EndsInTarget bytes → IsPrefix bytes
target_front bytes never short w = inl record { short = short; none = subst HasNoRequest (all_there bytes short) (never_now _ never); may = inr w }

pub closed_long : (bytes : List ℕ) → NeverHasRequest (take max_head bytes) → max_head ≤ length bytes → HasFault bytes BadHead
closed_long bytes never long = long_front bytes (never_now _ never) long

pub closed_front : (bytes : List ℕ) → NeverHasRequest (take max_head bytes) → length bytes < max_head → ¬ (EndsInTarget bytes) → HasFault bytes BadHead
closed_front bytes never short apart = inr (refl, inl record { never = subst NeverHasRequest (all_there bytes short) never; apart = apart })
