-- A command with options takes the words of their pairs, and gives their values.
use Rattle.std.proofs.Common.{◌≡◌, ◌∙◌, sym, ap, refl, subst, ℕ, Bool, true, false, not, ◌&&◌, ◌||◌, ◌==◌, List, [], ◌∷◌, ◌++◌, map, fold, take, length, get_or, ◌<◌, ◌+◌, Some, None, append_assoc, one-add, ⊎_elim, bytes_eq, Bor, count_by, is_some}
use Rattle.std.proofs.Math.Seq.{take-length}
use Rattle.std.proofs.lemmas.Bool.{cases_Bool, and_parts, and_from, cond_both}
use Rattle.std.proofs.lemmas.Slice.Eq.{bytes_eq-Decides}
use Rattle.std.proofs.lemmas.List.{append-nil, take_more, map-append}
use Rattle.std.specs.List.{list_any, list_all, before_first}
use Rattle.clap.specs.Lexer.{has_byte, short_of}
use Rattle.clap.specs.Walk.{Held, Row, Rule, Walk, arg_by_id, arg_by_long, is_early_multiple, settled, word_met, walked, walk, has_row, at_row, without, first_of, finished, with_default, nothing_held, reading_by, rows_after, used, next, option, idle, more_values}
use Rattle.clap.specs.Simple.{App, Shape, built, filled, filled_from, is_ready, is_ready_leaf, is_simple, matches_of, names_of, with_rule}
use Rattle.clap.proofs.TakesLemmas.{leaf_takes}
use Rattle.clap.specs.Takes.{built_takes, default_passes, is_given as is_row_given, turn_passes, walk_passes, settle_passes, takes}
use Rattle.clap.specs.declared.parser.matches.ValueSource.TheVariants.{CommandLine}
use Rattle.iam_plan.specs.Clap.{rule_with, app_with, is_whole, are_whole}
use Rattle.iam_plan.specs.Pairs.{Pairs, words_of, values_of, is_among, is_given, is_value, are_options}
use Rattle.iam_plan.specs.Values.{texts}
use Rattle.iam_plan.proofs.Words.{same_bytes, no_truth}

abbrev pub opt : List ℕ → Rule
opt n = filled (rule_with n)

abbrev pub opts : List (List ℕ) → List Rule
opts names = map opt names

self : (a : List ℕ) → bytes_eq a a ≡ true
self a = (bytes_eq-Decides a a).1 refl

neither : (a b : Bool) → (a || b) ≡ false → (a ≡ false) × (b ≡ false)
neither true b h = cc h
neither false b h = (refl, h)

is_false_of : (b : Bool) → not b ≡ true → b ≡ false
is_false_of true h = cc h
is_false_of false h = refl

-- ---- looking an option up

by_long : (names : List (List ℕ)) (n : List ℕ) → is_among names n ≡ true → arg_by_long (opts names) n ≡ Some (opt n)
by_long [] n h = no_truth h
by_long (m ∷ ms) n h = ⊎_elim
    (λ e. rw e (ap (λ x. Some (opt x)) (same_bytes m n e)))
    (λ e. rw e (by_long ms n (rw e at h)))
    (cases_Bool (bytes_eq m n))

by_id : (names : List (List ℕ)) (n : List ℕ) → is_among names n ≡ true → arg_by_id (opts names) n ≡ Some (opt n)
by_id [] n h = no_truth h
by_id (m ∷ ms) n h = ⊎_elim
    (λ e. rw e (ap (λ x. Some (opt x)) (same_bytes m n e)))
    (λ e. rw e (by_id ms n (rw e at h)))
    (cases_Bool (bytes_eq m n))

-- ---- two words

-- where the walk stands between two pairs
abbrev pub st : Held → Walk
st h = record { held = h; waiting = idle; position = 1; is_trailing = false; stopped = None }

-- what is held after a pair
abbrev pub after : List Rule → List ℕ → List ℕ → Held → Held
after c n v h = record (settled c h) { pending = Some (n, v ∷ []) }

flag_met : (c : List Rule) (x : ℕ) (xs : List ℕ) (h : Held) → before_first (λ b. b == 61) (x ∷ xs) ≡ x ∷ xs → has_byte 61 (x ∷ xs) ≡ false
    → arg_by_long c (x ∷ xs) ≡ Some (opt (x ∷ xs))
    → word_met c [] false idle 1 (45 ∷ 45 ∷ x ∷ xs) h ≡ (record (settled c h) { pending = Some (x ∷ xs, []) }, next (option (x ∷ xs)))
flag_met c x xs h whole none found = rw (none, whole, found) refl

value_is_no_flag : (y : ℕ) (ys : List ℕ) → (y == 45) ≡ false → short_of (y ∷ ys) ≡ None
value_is_no_flag y ys plain = rw plain refl

value_met : (c : List Rule) (n : List ℕ) (y : ℕ) (ys : List ℕ) (h : Held) → (y == 45) ≡ false → arg_by_id c n ≡ Some (opt n)
    → word_met c [] false (option n) 1 (y ∷ ys) (record (settled c h) { pending = Some (n, []) }) ≡ (after c n (y ∷ ys) h, next idle)
value_met c n y ys h plain found = rw (plain, value_is_no_flag y ys plain, found, self n) refl

-- where the walk stands after an option's name
abbrev pub named : List Rule → List ℕ → Held → Walk
named c n h = record (st (record (settled c h) { pending = Some (n, []) })) { waiting = option n }

abbrev pub on : Shape → List (List ℕ) → Shape
on s names = record s { rules = opts names }

walked_flag : (c : List Rule) (x : ℕ) (xs : List ℕ) (h : Held) → before_first (λ b. b == 61) (x ∷ xs) ≡ x ∷ xs → has_byte 61 (x ∷ xs) ≡ false
    → arg_by_long c (x ∷ xs) ≡ Some (opt (x ∷ xs)) → walked c [] (st h) (45 ∷ 45 ∷ x ∷ xs) ≡ named c (x ∷ xs) h
unfolding walked
walked_flag c x xs h whole none found = rw (flag_met c x xs h whole none found) refl

walked_value : (c : List Rule) (n : List ℕ) (y : ℕ) (ys : List ℕ) (h : Held) → (y == 45) ≡ false → arg_by_id c n ≡ Some (opt n)
    → walked c [] (named c n h) (y ∷ ys) ≡ st (after c n (y ∷ ys) h)
unfolding walked
walked_value c n y ys h plain found = rw (value_met c n y ys h plain found) refl

flag_passes : (s : Shape) (names : List (List ℕ)) (x : ℕ) (xs : List ℕ) (h : Held) → before_first (λ b. b == 61) (x ∷ xs) ≡ x ∷ xs → has_byte 61 (x ∷ xs) ≡ false
    → is_among names (x ∷ xs) ≡ true → settle_passes (opts names) s.args_override_self h ≡ true
    → turn_passes (on s names) [] (st h) (45 ∷ 45 ∷ x ∷ xs) ≡ true
flag_passes s names x xs h whole none is passes =
    let found = by_long names (x ∷ xs) is in
    rw (flag_met (opts names) x xs h whole none found, none, whole, found, passes) refl

value_passes : (s : Shape) (names : List (List ℕ)) (n : List ℕ) (y : ℕ) (ys : List ℕ) (h : Held) → (y == 45) ≡ false → is_among names n ≡ true
    → turn_passes (on s names) [] (named (opts names) n h) (y ∷ ys) ≡ true
value_passes s names n y ys h plain is =
    rw (value_met (opts names) n y ys h plain (by_id names n is), plain, value_is_no_flag y ys plain) refl

-- ---- rows

abbrev pub row : List ℕ → List ℕ → Row
row n v = record { id = n; values = v ∷ []; count = None; source = Some CommandLine; reading = reading_by (opt n) }

abbrev pub rows : Pairs → List Row
rows [] = []
rows ((n, v) ∷ ps) = row n v ∷ rows ps

at_missing : (id : List ℕ) (change : Row → List Row) (missing rs : List Row) → has_row id rs ≡ false → at_row id change missing rs ≡ rs ++ missing
at_missing id change missing [] h = refl
at_missing id change missing (r ∷ rs) h =
    let parts = neither (bytes_eq r.id id) (has_row id rs) h in
    rw parts.0 (ap (λ x. r ∷ x) (at_missing id change missing rs parts.1))

used_fresh : (n v : List ℕ) (rs : List Row) → has_row n rs ≡ false → used (opt n) (v ∷ []) rs ≡ rs ++ row n v ∷ []
used_fresh n v rs fresh =
    let gone : without n rs ≡ rs = at_missing n (λ _. []) [] rs fresh ∙ append-nil rs in
    rw gone (at_missing n (more_values CommandLine (v ∷ [])) (row n v ∷ []) rs fresh)

has_row_push : (m n v : List ℕ) (rs : List Row) → has_row m rs ≡ false → bytes_eq n m ≡ false → has_row m (rs ++ row n v ∷ []) ≡ false
has_row_push m n v [] h other = rw other refl
has_row_push m n v (r ∷ rs) h other =
    let parts = neither (bytes_eq r.id m) (has_row m rs) h in
    rw parts.0 (has_row_push m n v rs parts.1 other)

-- no name of the pairs has a row
abbrev pub IsApart : List Row → Pairs → Type 0
IsApart rs [] = Unit {0}
IsApart rs ((n, v) ∷ ps) = (has_row n rs ≡ false) × IsApart rs ps

apart_push : (n v : List ℕ) (rs : List Row) (ps : Pairs) → IsApart rs ps → is_given n ps ≡ false → IsApart (rs ++ row n v ∷ []) ps
apart_push n v rs [] h new = tt
apart_push n v rs ((m, w) ∷ ps) h new =
    let parts = neither (bytes_eq n m) (is_given n ps) new in
    (has_row_push m n v rs h.0 parts.0, apart_push n v rs ps h.1 parts.1)

nothing_apart : (ps : Pairs) → IsApart [] ps
nothing_apart [] = tt
nothing_apart ((n, v) ∷ ps) = (refl, nothing_apart ps)

-- ---- names that are read whole

no_cut : (p : ℕ → Bool) (xs : List ℕ) → list_any p xs ≡ false → before_first p xs ≡ xs
no_cut p [] h = refl
no_cut p (x ∷ xs) h =
    let parts = neither (p x) (list_any p xs) h in
    rw (parts.0, one-add) (ap (λ t. x ∷ t) (no_cut p xs parts.1))

abbrev pub IsLong : List ℕ → Type 0
IsLong [] = ⊥
IsLong (x ∷ xs) = (before_first (λ b. b == 61) (x ∷ xs) ≡ x ∷ xs) × (has_byte 61 (x ∷ xs) ≡ false)

long_of_whole : (n : List ℕ) → is_whole n ≡ true → IsLong n
long_of_whole [] h = no_truth h
long_of_whole (x ∷ xs) h =
    let none = is_false_of (has_byte 61 (x ∷ xs)) h in
    (no_cut (λ b. b == 61) (x ∷ xs) none, none)

long_at : (names : List (List ℕ)) (n : List ℕ) → are_whole names ≡ true → is_among names n ≡ true → IsLong n
long_at [] n long h = no_truth h
long_at (m ∷ ms) n long h =
    let parts = and_parts (is_whole m) (are_whole ms) long in
    ⊎_elim
    (λ e. subst IsLong (same_bytes m n e) (long_of_whole m parts.0))
    (λ e. long_at ms n parts.1 (rw e at h))
    (cases_Bool (bytes_eq m n))

-- ---- all the words

passes_on : (s : Shape) (w next_walk : Walk) (word : List ℕ) (rest : List (List ℕ)) → turn_passes s [] w word ≡ true → walked s.rules [] w word ≡ next_walk
    → walk_passes s [] next_walk rest ≡ true → walk_passes s [] w (word ∷ rest) ≡ true
unfolding walk_passes
passes_on s w next_walk word rest turn step later =
    and_from _ _ turn (ap (λ x. walk_passes s [] x rest) step ∙ later)

no_more : (s : Shape) (w : Walk) → walk_passes s [] w [] ≡ true
unfolding walk_passes
no_more s w = refl

-- what the walk over the pairs comes to
pub record Walked (s : Shape) (names : List (List ℕ)) (ps : Pairs) (h : Held) : Type 0 where
  pub passes : walk_passes (on s names) [] (st h) (words_of ps) ≡ true
  pub end : Held
  pub ends : fold (walked (opts names) []) (st h) (words_of ps) ≡ st end
  pub settles : settle_passes (opts names) s.args_override_self end ≡ true
  pub has : (settled (opts names) end).rows ≡ (settled (opts names) h).rows ++ rows ps

after_settles : (s : Shape) (names : List (List ℕ)) (n v : List ℕ) (h : Held) → is_among names n ≡ true → has_row n (settled (opts names) h).rows ≡ false
    → settle_passes (opts names) s.args_override_self (after (opts names) n v h) ≡ true
after_settles s names n v h is fresh = rw (by_id names n is, fresh) refl

after_rows : (names : List (List ℕ)) (n v : List ℕ) (h : Held) → is_among names n ≡ true → has_row n (settled (opts names) h).rows ≡ false
    → (settled (opts names) (after (opts names) n v h)).rows ≡ (settled (opts names) h).rows ++ row n v ∷ []
after_rows names n v h is fresh = rw (by_id names n is) (used_fresh n v (settled (opts names) h).rows fresh)

-- the parts of what good pairs are
pub record Good (names : List (List ℕ)) (n v : List ℕ) (ps : Pairs) : Type 0 where
  pub among : is_among names n ≡ true
  pub new : is_given n ps ≡ false
  pub value : is_value v ≡ true
  pub later : are_options names ps ≡ true

good_parts : (names : List (List ℕ)) (n v : List ℕ) (ps : Pairs) → are_options names ((n, v) ∷ ps) ≡ true → Good names n v ps
good_parts names n v ps good =
    let all = and_parts (is_among names n && not (is_given n ps) && is_value v) (are_options names ps) good in
    let three = and_parts (is_among names n && not (is_given n ps)) (is_value v) all.0 in
    let two = and_parts (is_among names n) (not (is_given n ps)) three.0 in
    record { among = two.0; new = is_false_of (is_given n ps) two.1; value = three.1; later = all.1 }

walk_pairs : (s : Shape) (names : List (List ℕ)) (ps : Pairs) (h : Held) → are_whole names ≡ true → are_options names ps ≡ true
    → settle_passes (opts names) s.args_override_self h ≡ true → IsApart (settled (opts names) h).rows ps → Walked s names ps h
walk_pairs s names [] h long good settles apart = record {
  passes = no_more (on s names) (st h);
  end = h;
  ends = refl;
  settles = settles;
  has = sym (append-nil _);
}
walk_pairs s names (([], v) ∷ ps) h long good settles apart =
    absurd (long_at names [] long (good_parts names [] v ps good).among)
walk_pairs s names ((x ∷ xs, []) ∷ ps) h long good settles apart =
    no_truth (good_parts names (x ∷ xs) [] ps good).value
walk_pairs s names ((x ∷ xs, y ∷ ys) ∷ ps) h long good settles apart =
    let parts = good_parts names (x ∷ xs) (y ∷ ys) ps good in
    let is = parts.among in
    let plain = is_false_of (y == 45) parts.value in
    let whole = long_at names (x ∷ xs) long is in
    let c = opts names in
    let h2 = after c (x ∷ xs) (y ∷ ys) h in
    let now_rows = after_rows names (x ∷ xs) (y ∷ ys) h is apart.0 in
    let later = walk_pairs s names ps h2 long parts.later
    (after_settles s names (x ∷ xs) (y ∷ ys) h is apart.0)
    (subst (λ r. IsApart r ps) (sym now_rows) (apart_push (x ∷ xs) (y ∷ ys) _ ps apart.1 parts.new)) in
    let flag = walked_flag c x xs h whole.0 whole.1 (by_long names (x ∷ xs) is) in
    let val = walked_value c (x ∷ xs) y ys h plain (by_id names (x ∷ xs) is) in
    record {
      passes = passes_on (on s names) (st h) (named c (x ∷ xs) h) _ _ (flag_passes s names x xs h whole.0 whole.1 is settles) flag
          (passes_on (on s names) (named c (x ∷ xs) h) (st h2) _ _ (value_passes s names (x ∷ xs) y ys h plain is) val later.passes);
      end = later.end;
      ends = ap (λ w. fold (walked c []) (walked c [] w (y ∷ ys)) (words_of ps)) flag ∙ ap (λ w. fold (walked c []) w (words_of ps)) val ∙ later.ends;
      settles = later.settles;
      has = later.has ∙ ap (λ r. r ++ rows ps) now_rows ∙ append_assoc _ (row (x ∷ xs) (y ∷ ys) ∷ []) (rows ps);
    }

-- ---- defaults, and what the getters read

default_same : (n : List ℕ) (rs : List Row) → with_default rs (opt n) ≡ rs
default_same n rs = cond_both (has_row n rs) rs rs (λ x. x ≡ rs) (λ _. refl) (λ _. refl)

defaults_same : (names : List (List ℕ)) (rs : List Row) → fold with_default rs (opts names) ≡ rs
defaults_same [] rs = refl
defaults_same (m ∷ ms) rs = ap (λ r. fold with_default r (opts ms)) (default_same m rs) ∙ defaults_same ms rs

first_of_rows : (id : List ℕ) (ps : Pairs) → first_of id (rows ps) ≡ values_of ps id
first_of_rows id [] = refl
first_of_rows id ((n, v) ∷ ps) = ⊎_elim
    (λ e. rw e refl)
    (λ e. rw e (first_of_rows id ps))
    (cases_Bool (bytes_eq n id))

-- ---- the command

filled_rules : (names : List (List ℕ)) → filled_from 1 (map rule_with names) ≡ opts names
filled_rules [] = refl
filled_rules (n ∷ ns) = ap (λ (rs : List Rule). opt n ∷ rs) (filled_rules ns)

-- what building makes of the command with no options
abbrev pub plain_shape : Shape
plain_shape = (built (app_with [])).top

abbrev pub built_with : List (List ℕ) → App
built_with names = record { top = on plain_shape names; subs = [] }

built_is : (names : List (List ℕ)) → built (app_with names) ≡ built_with names
built_is names = ap (λ (rs : List Rule). record { top = record plain_shape { rules = rs }; subs = [] }) (filled_rules names)

rules_simple : (names : List (List ℕ)) → list_all (λ (a : Rule). a.is_simple) (map rule_with names) ≡ true
rules_simple [] = refl
rules_simple (n ∷ ns) = rules_simple ns

opts_simple : (names : List (List ℕ)) → list_all (λ (a : Rule). a.is_simple) (opts names) ≡ true
opts_simple [] = refl
opts_simple (n ∷ ns) = opts_simple ns

no_early : (k : ℕ) (names : List (List ℕ)) → list_any (is_early_multiple k) (opts names) ≡ false
no_early k [] = refl
no_early k (n ∷ ns) = no_early k ns

opts_free : (names : List (List ℕ)) → list_all (λ (a : Rule). a.is_free) (opts names) ≡ true
opts_free [] = refl
opts_free (n ∷ ns) = opts_free ns

opts_optional : (names : List (List ℕ)) (rs : List Row) → list_all (λ (a : Rule). not a.required || is_row_given a.id rs) (opts names) ≡ true
opts_optional [] rs = refl
opts_optional (n ∷ ns) rs = opts_optional ns rs

no_defaults : (names : List (List ℕ)) → list_all default_passes (opts names) ≡ true
no_defaults [] = refl
no_defaults (n ∷ ns) = no_defaults ns

ready : (names : List (List ℕ)) → is_ready (on plain_shape names) ≡ true
ready names = and_from _ _ (opts_simple names) (ap not (no_early (count_by (λ (a : Rule). is_some a.index) (opts names)) names))

pub simple : (names : List (List ℕ)) → is_simple (app_with names) ≡ true
simple names = and_from _ _
    (and_from _ _ (rules_simple names) refl)
    (ap (λ (a : App). is_ready a.top && list_all is_ready_leaf a.subs) (built_is names) ∙ and_from _ _ (ready names) refl)

whole_walk : (names : List (List ℕ)) (ps : Pairs) → are_whole names ≡ true → are_options names ps ≡ true → Walked plain_shape names ps nothing_held
whole_walk names ps long good = walk_pairs plain_shape names ps nothing_held long good refl (nothing_apart ps)

-- the command takes the words of good pairs
pub takes_pairs : (names : List (List ℕ)) (ps : Pairs) → are_whole names ≡ true → are_options names ps ≡ true → takes (app_with names) (words_of ps) ≡ true
takes_pairs names ps long good =
    let w = whole_walk names ps long good in
    let settles = ap (λ (x : Walk). settle_passes (opts names) plain_shape.args_override_self x.held) w.ends ∙ w.settles in
    and_from _ _ (simple names)
    (ap (λ (a : App). built_takes a nothing_held (words_of ps)) (built_is names)
    ∙ leaf_takes (built_with names) nothing_held (words_of ps) refl
    (and_from _ _ w.passes (and_from _ _ settles (and_from _ _ (no_defaults names) (and_from _ _ (opts_free names) (opts_optional names (finished (opts names) (walk (opts names) [] nothing_held (words_of ps)).held)))))))

-- and gives their values
pub value_in_pairs : (names : List (List ℕ)) (ps : Pairs) (id : List ℕ) → are_whole names ≡ true → are_options names ps ≡ true
    → first_of id (matches_of (app_with names) (words_of ps)) ≡ values_of ps id
value_in_pairs names ps id long good =
    let w = whole_walk names ps long good in
    let held = ap (λ (x : Walk). finished (opts names) x.held) w.ends in
    ap (λ (a : App). first_of id (rows_after a.top.rules (names_of a) (words_of ps))) (built_is names)
    ∙ ap (first_of id) (held ∙ defaults_same names (settled (opts names) w.end).rows ∙ w.has)
    ∙ first_of_rows id ps

-- ---- the command is made, an option after the other

pub one_more : (names : List (Bor (List ℕ))) (i : ℕ) (d : Bor (List ℕ)) (before now : App) → i < length names → now ≡ with_rule before (rule_with (get_or names i d).now)
    → before ≡ app_with (texts (take i names)) → now ≡ app_with (texts (take (i + 1) names))
one_more names i d before now below more so_far =
    let name : List ℕ = (get_or names i d).now in
    let mapped : texts (take (i + 1) names) ≡ texts (take i names) ++ name ∷ [] =
    ap texts (take_more names i d below) ∙ map-append (λ (n : Bor (List ℕ)). n.now) (take i names) (get_or names i d ∷ []) in
    let rules : map rule_with (texts (take (i + 1) names)) ≡ map rule_with (texts (take i names)) ++ rule_with name ∷ [] =
    ap (map rule_with) mapped ∙ map-append rule_with (texts (take i names)) (name ∷ []) in
    more ∙ ap (λ (a : App). with_rule a (rule_with name)) so_far
    ∙ ap (λ (rs : List Rule). record { top = record (app_with []).top { rules = rs }; subs = [] }) (sym rules)

pub all_made : (names : List (Bor (List ℕ))) (i : ℕ) → length names ≡ i → app_with (texts (take i names)) ≡ app_with (texts names)
all_made names i all = ap (λ (ns : List (Bor (List ℕ))). app_with (texts ns)) (ap (λ n. take n names) (sym all) ∙ take-length names)
