-- Words and their pairs.
use Rattle.std.proofs.Common.{◌≡◌, ◌∙◌, ◌<◌, ◌≤◌, ◌-◌, take, drop, ◌&&◌, ◌||◌, ◌==◌, ℕ, Bool, true, false, not, List, [], ◌∷◌, length, get_or, refl, sym, ap, ap₂, arith, subst, ⊎_elim, bytes_eq, Bor}
use Rattle.std.specs.List.{list_any}
use Rattle.std.proofs.Math.Seq.{take-length}
use Rattle.std.proofs.lemmas.Bool.{cases_Bool, and_parts}
use Rattle.std.proofs.lemmas.Slice.Eq.{bytes_eq-Decides}
use Rattle.iam_plan.specs.Pairs.{Pairs, words_of, is_among, is_given, is_value, are_options, ArePairs}
use Rattle.iam_plan.specs.Values.{texts}
use Rattle.iam_plan.specs.Words.{option_word, is_option, begins_pair, is_pair, are_paired}

pub same_bytes : (a b : List ℕ) → bytes_eq a b ≡ true → a ≡ b
same_bytes a b h = (bytes_eq-Decides a b).0 h

pub no_truth : {P : Type 0} → false ≡ true → P
no_truth h = cc h

-- ---- what the code compares

-- the word of an option is its name behind `--`
pub word_behind : (name word rest : List ℕ) → word ≡ 45 ∷ 45 ∷ rest → bytes_eq name rest ≡ bytes_eq (option_word name) word
word_behind name word rest is = ap (bytes_eq (option_word name)) (sym is)

pub no_word_behind : (name word : List ℕ) → ((rest : List ℕ) → word ≡ 45 ∷ 45 ∷ rest → ⊥) → false ≡ bytes_eq (option_word name) word
no_word_behind name word none = ⊎_elim
    (λ e. absurd (none name (sym (same_bytes (option_word name) word e))))
    (λ e. sym e)
    (cases_Bool (bytes_eq (option_word name) word))

pub among_texts : (names : List (Bor (List ℕ))) (word : List ℕ) → list_any (λ name. bytes_eq (option_word name.now) word) names ≡ is_option (texts names) word
among_texts [] word = refl
among_texts (name ∷ names) word = ap (λ b. bytes_eq (option_word name.now) word || b) (among_texts names word)

pub value_by_first : (word : List ℕ) → 0 < length word → not (get_or word 0 0 == 45) ≡ is_value word
value_by_first [] some = absurd (omega arith)
value_by_first (first ∷ rest) some = refl

pub value_not_empty : (word : List ℕ) → length word ≡ 0 → false ≡ is_value word
value_not_empty [] none = refl
value_not_empty (first ∷ rest) none = absurd (omega arith)

-- ---- one pair of words after the other

-- two words, and those behind them
after_two : (names rest : List (List ℕ)) (word value : List ℕ) → 2 ≤ length rest → word ≡ get_or rest 0 word → value ≡ get_or rest 1 value
    → are_paired names rest ≡ (is_pair names word value (take (length rest - 2) (drop 2 rest)) && are_paired names (take (length rest - 2) (drop 2 rest)))
after_two names [] word value two first second = absurd (omega arith)
after_two names (w ∷ []) word value two first second = absurd (omega arith)
after_two names (w ∷ v ∷ ws) word value two first second =
    let count : length ws ≡ length (w ∷ v ∷ ws) - 2 = omega arith in
    let left : ws ≡ take (length (w ∷ v ∷ ws) - 2) ws = sym (take-length ws) ∙ ap (λ n. take n ws) count in
    let one : w ≡ word = sym first in
    let other : v ≡ value = sym second in
    λ i. is_pair names (one i) (other i) (left i) && are_paired names (left i)

pub stops_here : (names words rest : List (List ℕ)) (word value : List ℕ) (is : Bool) → 2 ≤ length rest → word ≡ get_or rest 0 word → value ≡ get_or rest 1 value
    → is ≡ is_pair names word value (take (length rest - 2) (drop 2 rest)) → is ≡ false → are_paired names rest ≡ are_paired names words → false ≡ are_paired names words
stops_here names words rest word value is two first second told fails before =
    ap (λ (b : Bool). b && are_paired names (take (length rest - 2) (drop 2 rest))) (sym fails ∙ told) ∙ sym (after_two names rest word value two first second) ∙ before

pub goes_on : (names words rest : List (List ℕ)) (word value : List ℕ) (is : Bool) → 2 ≤ length rest → word ≡ get_or rest 0 word → value ≡ get_or rest 1 value
    → is ≡ is_pair names word value (take (length rest - 2) (drop 2 rest)) → is ≡ true → are_paired names rest ≡ are_paired names words
    → are_paired names (take (length rest - 2) (drop 2 rest)) ≡ are_paired names words
goes_on names words rest word value is two first second told holds before =
    ap (λ (b : Bool). b && are_paired names (take (length rest - 2) (drop 2 rest))) (sym holds ∙ told) ∙ sym (after_two names rest word value two first second) ∙ before

-- ---- words that are pairs have pairs

given_in_pairs : (name : List ℕ) (pairs : Pairs) → begins_pair (option_word name) (words_of pairs) ≡ is_given name pairs
given_in_pairs name [] = refl
given_in_pairs name ((other, value) ∷ pairs) = ap (λ b. bytes_eq name other || b) (given_in_pairs name pairs)

paired_as_options : (names : List (List ℕ)) (pairs : Pairs) → are_paired names (words_of pairs) ≡ are_options names pairs
paired_as_options names [] = refl
paired_as_options names ((name, value) ∷ pairs) =
    ap₂ (λ (a b : Bool). is_among names name && not a && is_value value && b) (given_in_pairs name pairs) (paired_as_options names pairs)

name_behind : (names : List (List ℕ)) (word : List ℕ) → is_option names word ≡ true → (name : List ℕ) × (word ≡ option_word name)
name_behind [] word h = no_truth h
name_behind (name ∷ names) word h = ⊎_elim
    (λ e. (name, sym (same_bytes (option_word name) word e)))
    (λ e. name_behind names word (rw e at h))
    (cases_Bool (bytes_eq (option_word name) word))

pairs_of_words : (names words : List (List ℕ)) → are_paired names words ≡ true → (pairs : Pairs) × (words ≡ words_of pairs)
pairs_of_words names [] h = ([], refl)
pairs_of_words names (word ∷ []) h = no_truth h
pairs_of_words names (word ∷ value ∷ words) h =
    let parts = and_parts (is_pair names word value words) (are_paired names words) h in
    let first = and_parts (is_option names word && not (begins_pair word words)) (is_value value) parts.0 in
    let found = name_behind names word (and_parts (is_option names word) (not (begins_pair word words)) first.0).0 in
    let rest = pairs_of_words names words parts.1 in
    ((found.0, value) ∷ rest.0, ap₂ (λ (w : List ℕ) (ws : List (List ℕ)). w ∷ value ∷ ws) found.1 rest.1)

pub paired : (names words : List (List ℕ)) → are_paired names words ≡ true → ArePairs names words
paired names words h =
    let found = pairs_of_words names words h in
    (found.0, found.1, sym (paired_as_options names found.0) ∙ ap (are_paired names) (sym found.1) ∙ h)

pub unpaired : (names words : List (List ℕ)) → are_paired names words ≡ false → ArePairs names words → ⊥
unpaired names words h is = no_truth (sym h ∙ ap (are_paired names) is.1 ∙ paired_as_options names is.0 ∙ is.2)

-- ---- the same of the options of a command, as the code tells it

pub read_as_pairs : (options names words lent : List (List ℕ)) (are : Bool) → names ≡ options → are ≡ are_paired names words → are ≡ true → lent ≡ words → ArePairs options lent
read_as_pairs options names words lent are named told holds lends =
    subst (λ (ws : List (List ℕ)). ArePairs options ws) (sym lends) (subst (λ (ns : List (List ℕ)). ArePairs ns words) named (paired names words (sym told ∙ holds)))

pub read_as_none : (options names words : List (List ℕ)) (are : Bool) → names ≡ options → are ≡ are_paired names words → are ≡ false → ArePairs options words → ⊥
read_as_none options names words are named told fails is =
    unpaired names words (sym told ∙ fails) (subst (λ (ns : List (List ℕ)). ArePairs ns words) (sym named) is)

-- ---- pairs are told by their words

pub same_pairs : (a b : Pairs) → words_of a ≡ words_of b → a ≡ b
same_pairs [] [] e = refl
same_pairs [] ((name, value) ∷ b) e = cc
same_pairs ((name, value) ∷ a) [] e = cc
same_pairs ((name, value) ∷ a) ((other, given) ∷ b) e =
    let n : name ≡ other = cc in
    let v : value ≡ given = cc in
    let later : words_of a ≡ words_of b = cc in
    let rest = same_pairs a b later in
    λ i. (n i, v i) ∷ rest i
