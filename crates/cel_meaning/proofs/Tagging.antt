-- Ids of keys and values, and what is answered of a key.
use Rattle.std.proofs.Common.{◌≡◌, ◌≢◌, ℕ, ◌<◌, ◌^◌, Bool, true, false, cond, ◌&&◌, List, ◌++◌, length, drop, Option, Some, None, Result, Ok, Err, refl, sym, ap, ◌∙◌, subst, arith, rules}
use Rattle.std.specs.Fmt.{decimal}
use Rattle.std.specs.Prelude.{codes, nat_lt}
use Rattle.std.specs.Str.{all_ascii_digits, bytes_eq}
use Rattle.std.specs.Str.Parse.{IsNumeral, ParsesUnsigned, digits_value, without_leading_plus}
use Rattle.std.proofs.lemmas.Bool.{and_from, and_parts, both_ways, false_from_ne_true, lt-ltb, ltb-true}
use Rattle.std.proofs.lemmas.Fmt.{decimal_nonempty, digits_decimal, digits_value-decimal}
use Rattle.std.proofs.lemmas.Result.{OkIff-at_ok}
use Rattle.std.proofs.lemmas.Slice.Eq.{bytes_eq-Decides}
use Rattle.std.proofs.lemmas.Str.Parse.{IsNumeralModel, numerals_by_value, parse_gives}
use denote.Ref.{Bor}
use Rattle.cel_value.specs.Keys.{IsAnswer, IsValue}
use Rattle.cel_value.specs.declared.context.KeyFact.{KeyFact}
use Rattle.cel_value.specs.declared.context.ValueFact.{ValueFact}
use Rattle.cel_value.specs.declared.facts.KeyAnswer.TheVariants.{Unknown, Unbound, Bound}
use Rattle.cel_value.specs.declared.value.EvalFault.TheVariants.{UnknownTag}
use Rattle.cel_value.specs.declared.value.Outcome.TheVariants.{Given, Stopped}
use Rattle.cel_value.specs.declared.value.Value.TheVariants as value
use Rattle.cel_types.specs.Tags.{decimal_number, key_number, of_key}
use Rattle.cel_meaning.proofs.Extracting.{starts_not}

-- ---- decimals

abbrev Digits : List ℕ → Type 0
Digits ds = all_ascii_digits ds ≡ true

own : IsNumeralModel Digits (digits_value 10)
own = numerals_by_value Digits (search rules)

-- the number that was read, where the text is what is written of it
abbrev pub kept : {E : Type 0} → List ℕ → Result ℕ E → Option ℕ
kept text (Ok n) = cond (bytes_eq (decimal n) text) (Some n) None
kept text (Err e) = None

abbrev Canonical : List ℕ → ℕ → Bool
Canonical text n = nat_lt n (2 ^ 64) && bytes_eq (decimal n) text

read_back : {E : Type 0} (text : List ℕ) (r : Result ℕ E) (n : ℕ) → ParsesUnsigned 64 10 text r → Canonical text n ≡ true → r ≡ Ok n
read_back text r n parsed is =
    let parts = and_parts _ _ is in
    let small : n < 2 ^ 64 = ltb-true n (2 ^ 64) parts.0 in
    let same : decimal n ≡ text = (bytes_eq-Decides (decimal n) text).0 parts.1 in
    let digits : Digits text = subst Digits same (digits_decimal own n small) in
    let some : 0 < length text = subst (λ (z : List ℕ). 0 < length z) same (decimal_nonempty n small) in
    let value : digits_value 10 text ≡ n = ap (digits_value 10) (sym same) ∙ digits_value-decimal own n small in
    parse_gives own 64 text r parsed digits some (omega (arith, value, small)) ∙ ap Ok value

written_back : {E : Type 0} (text : List ℕ) (r : Result ℕ E) (n : ℕ) → ParsesUnsigned 64 10 text r → r ≡ Ok n → bytes_eq (decimal n) text ≡ true → Canonical text (digits_value 10 text) ≡ true
written_back text r n parsed was is =
    let plain : List ℕ = without_leading_plus text in
    let read : (IsNumeral 10 plain × (digits_value 10 plain < 2 ^ 64)) × (n ≡ digits_value 10 plain) =
    OkIff-at_ok r (IsNumeral 10 plain × (digits_value 10 plain < 2 ^ 64)) (digits_value 10 plain) n parsed was in
    let small : n < 2 ^ 64 = omega (arith, read.0.1, read.1) in
    let same : decimal n ≡ text = (bytes_eq-Decides (decimal n) text).0 is in
    let value : digits_value 10 text ≡ n = ap (digits_value 10) (sym same) ∙ digits_value-decimal own n small in
    subst (λ (z : ℕ). Canonical text z ≡ true) (sym value) (and_from _ _ (lt-ltb n (2 ^ 64) small) is)

pub decimal_is : {E : Type 0} (text : List ℕ) (r : Result ℕ E) → ParsesUnsigned 64 10 text r → kept text r ≡ decimal_number text
decimal_is {E} text r parsed = by (Canonical text (digits_value 10 text)) refl
  where
    by : (b : Bool) → Canonical text (digits_value 10 text) ≡ b → kept text r ≡ cond b (Some (digits_value 10 text)) None
    by true is =
        ap (kept text) (read_back text r (digits_value 10 text) parsed is)
        ∙ ap (λ z. cond z (Some (digits_value 10 text)) None) (and_parts _ _ is).1
    by false is = none r refl
      where
        none : (q : Result ℕ E) → r ≡ q → kept text q ≡ None
        none (Err e) was = refl
        none (Ok n) was =
            ap (λ z. cond z (Some n) None)
            (false_from_ne_true (bytes_eq (decimal n) text) (λ yes. both_ways _ is (written_back text r n parsed was yes)))

-- ---- ids

pub key_id : (id rest : List ℕ) → id ≡ codes "tagKeys/" ++ rest → decimal_number rest ≡ key_number id
key_id id rest is = sym (ap key_number is)

pub no_key_id : (id : List ℕ) → ((rest : List ℕ) → id ≢ codes "tagKeys/" ++ rest) → None ≡ key_number id
no_key_id id lacks =
    sym (ap (λ z. cond z (decimal_number (drop (length (codes "tagKeys/")) id)) None) (starts_not id (codes "tagKeys/") lacks))

pub value_id : (number : ℕ) (id rest : List ℕ) → id ≡ codes "tagValues/" ++ rest → bytes_eq (decimal number) rest ≡ bytes_eq (codes "tagValues/" ++ decimal number) id
value_id number id rest is = sym (ap (bytes_eq (codes "tagValues/" ++ decimal number)) is)

pub no_value_id : (number : ℕ) (id : List ℕ) → ((rest : List ℕ) → id ≢ codes "tagValues/" ++ rest) → false ≡ bytes_eq (codes "tagValues/" ++ decimal number) id
no_value_id number id lacks =
    sym (false_from_ne_true _ (λ is. lacks (decimal number) (sym ((bytes_eq-Decides (codes "tagValues/" ++ decimal number) id).0 is))))

-- ---- keys

no_unknown : (v : Option ValueFact) → IsValue v Unknown → ⊥
no_unknown None h = h
no_unknown (Some fact) h = h

pub unknown_is : (key : Option KeyFact) (test : Option ValueFact → Bool) → IsAnswer key Unknown → Stopped UnknownTag ≡ of_key key test
unknown_is None test h = refl
unknown_is (Some key) test h = absurd (no_unknown key.value h)

unbound : (v : Option ValueFact) (test : Option ValueFact → Bool) → test None ≡ false → IsValue v Unbound → test v ≡ false
unbound None test lacks h = lacks
unbound (Some fact) test lacks h = absurd h

pub unbound_is : (key : Option KeyFact) (test : Option ValueFact → Bool) → test None ≡ false → IsAnswer key Unbound → Given (value.Bool false) ≡ of_key key test
unbound_is None test lacks h = absurd h
unbound_is (Some key) test lacks h = ap (λ z. Given (value.Bool z)) (sym (unbound key.value test lacks h))

bound : (v : Option ValueFact) (test : Option ValueFact → Bool) (number : ℕ) (short : Bor (List ℕ)) (b : Bool)
    → ((fact : ValueFact) → number ≡ fact.number → short.now ≡ fact.short → b ≡ test (Some fact)) → IsValue v (Bound number short) → b ≡ test v
bound None test number short b tells h = absurd h
bound (Some fact) test number short b tells h = tells fact h.0 h.1

pub bound_is : (key : Option KeyFact) (test : Option ValueFact → Bool) (number : ℕ) (short : Bor (List ℕ)) (b : Bool)
    → ((fact : ValueFact) → number ≡ fact.number → short.now ≡ fact.short → b ≡ test (Some fact)) → IsAnswer key (Bound number short) → Given (value.Bool b) ≡ of_key key test
bound_is None test number short b tells h = absurd h
bound_is (Some key) test number short b tells h = ap (λ z. Given (value.Bool z)) (bound key.value test number short b tells h)
