-- The route that a path matches, where it fits a row and no other row stands in its way.
use Rattle.std.proofs.Common.{◌≡◌, ℕ, zero, suc, ◌+◌, ◌-◌, ◌<◌, ltb, true, false, not, cond, ◌&&◌, ◌||◌, ◌==◌, List, [], ◌∷◌, ◌++◌, length, drop, Option, Some, None, inl, inr, ◌⊎◌, refl, sym, ap, ◌∙◌, subst, ⊎_elim, arith}
use Rattle.std.specs.Bool.{MatchBool}
use Rattle.std.proofs.lemmas.Bool.{MatchBool-at_true, MatchBool-at_false, and_parts, and_from, cond-true, cond-false, cond_both, cases_Bool, eqb-true, eqb-false, eq-eqb, ne_eqb, lt-ltb, le-ltb, false_from_ne_true}
use Rattle.std.proofs.lemmas.List.{append-nil, length-append}
use Rattle.std.proofs.Math.Seq.{drop-append_seam}
use Rattle.iam_text.proofs.Exact.{text_exact}
use Rattle.iam_routes.specs.Matched.{apart, ends_here, whole}
use Rattle.matchit.specs.Level.{IsText}
use Rattle.matchit.specs.Rows.{RowsOf}
use Rattle.matchit.specs.Seek.{own, step, or_else, seek, param_step, with_suffix, longest_from, longest_suffix, better, cuts, segment, same_text, has_slash}

-- ---- patterns whose parameters are whole segments

-- a path begins with a segment, or with a byte, and F holds of what is left
abbrev pub TakesValue : (List ℕ → Type 0) → List ℕ → Type 0
TakesValue F path = (value : List ℕ) × (rest : List ℕ) × (path ≡ value ++ rest) × (0 < length value) × (has_slash value ≡ false) × F rest

abbrev pub TakesByte : ℕ → (List ℕ → Type 0) → List ℕ → Type 0
TakesByte b F path = (rest : List ℕ) × (path ≡ b ∷ rest) × F rest

-- a path fits tokens: a byte stands for itself, a parameter for a segment
abbrev pub Fits : List ℕ → List ℕ → Type 0
Fits [] path = path ≡ []
Fits (x ∷ t) path = MatchBool (x == 256) (TakesValue (Fits t) path) (TakesByte x (Fits t) path)

no_value : {B : Type 0} (value rest : List ℕ) → [] ≡ value ++ rest → 0 < length value → B
no_value [] rest is some = absurd (omega arith)
no_value (b ∷ value) rest is some = absurd (cc is)

fits_nil : (t : List ℕ) → Fits t [] → t ≡ []
fits_nil [] f = refl
fits_nil (x ∷ t) f =
    ⊎_elim
    (λ (yes : (x == 256) ≡ true). let g = MatchBool-at_true (TakesValue (Fits t) []) (TakesByte x (Fits t) []) yes f in no_value g.0 g.1 g.2 g.3)
    (λ (no : (x == 256) ≡ false). let g = MatchBool-at_false (TakesValue (Fits t) []) (TakesByte x (Fits t) []) no f in let e : [] ≡ x ∷ g.0 = g.1 in absurd (cc e))
    (cases_Bool (x == 256))

-- ---- segments

segment_plain : (text : List ℕ) → has_slash text ≡ false → segment text ≡ text
segment_plain [] plain = refl
segment_plain (b ∷ text) plain =
    ⊎_elim
    (λ (yes : (b == 47) ≡ true). let e = sym (cond-true (b == 47) true (has_slash text) yes) ∙ plain in absurd (cc e))
    (λ (no : (b == 47) ≡ false).
    cond-false (b == 47) (b ∷ []) (b ∷ segment text) no ∙ ap (λ t. b ∷ t) (segment_plain text (sym (cond-false (b == 47) true (has_slash text) no) ∙ plain)))
    (cases_Bool (b == 47))

segment_cut : (value rest : List ℕ) → has_slash value ≡ false → segment (value ++ 47 ∷ rest) ≡ value ++ 47 ∷ []
segment_cut [] rest plain = refl
segment_cut (b ∷ value) rest plain =
    ⊎_elim
    (λ (yes : (b == 47) ≡ true). let e = sym (cond-true (b == 47) true (has_slash value) yes) ∙ plain in absurd (cc e))
    (λ (no : (b == 47) ≡ false).
    cond-false (b == 47) (b ∷ []) (b ∷ segment (value ++ 47 ∷ rest)) no
    ∙ ap (λ t. b ∷ t) (segment_cut value rest (sym (cond-false (b == 47) true (has_slash value) no) ∙ plain)))
    (cases_Bool (b == 47))

slash_behind : (value rest : List ℕ) → has_slash (value ++ 47 ∷ rest) ≡ true
slash_behind [] rest = refl
slash_behind (b ∷ value) rest = cond_both (b == 47) true (has_slash (value ++ 47 ∷ rest)) (λ x. x ≡ true) (λ _. refl) (λ _. slash_behind value rest)

plain_drop : (n : ℕ) (text : List ℕ) → has_slash text ≡ false → has_slash (drop n text) ≡ false
plain_drop zero text plain = plain
plain_drop (suc n) [] plain = refl
plain_drop (suc n) (b ∷ text) plain =
    ⊎_elim
    (λ (yes : (b == 47) ≡ true). let e = sym (cond-true (b == 47) true (has_slash text) yes) ∙ plain in absurd (cc e))
    (λ (no : (b == 47) ≡ false). plain_drop n text (sym (cond-false (b == 47) true (has_slash text) no) ∙ plain))
    (cases_Bool (b == 47))

-- a text without a `/` doesn't end in one
plain_ends : (text : List ℕ) → has_slash text ≡ false → cuts text (47 ∷ []) ≡ false
plain_ends text plain =
    false_from_ne_true (cuts text (47 ∷ []))
    (λ holds.
    let same : 47 ∷ [] ≡ drop (length text - 1) text = (text_exact (47 ∷ []) (drop (length text - 1) text)).0 (and_parts _ _ holds).1 in
    let e : true ≡ false = ap has_slash same ∙ plain_drop (length text - 1) text plain in
    cc e)

slash_ends : (value : List ℕ) → 0 < length value → cuts (value ++ 47 ∷ []) (47 ∷ []) ≡ true
slash_ends value some =
    let long : length (value ++ 47 ∷ []) ≡ length value + 1 = length-append value (47 ∷ []) in
    let at : length (value ++ 47 ∷ []) - 1 ≡ length value = omega arith in
    and_from _ _ (lt-ltb 1 (length (value ++ 47 ∷ [])) (omega arith))
    ((text_exact (47 ∷ []) (drop (length (value ++ 47 ∷ []) - 1) (value ++ 47 ∷ []))).1
    (sym (drop-append_seam value (47 ∷ [])) ∙ ap (λ n. drop n (value ++ 47 ∷ [])) (sym at)))

tail_segment : (t : List ℕ) → ends_here t ≡ true → (segment t ≡ []) ⊎ (segment t ≡ 47 ∷ [])
tail_segment [] ends = inl refl
tail_segment (x ∷ t) ends = inr (cond-true (x == 47) (x ∷ []) (x ∷ segment t) ends ∙ ap (λ b. b ∷ []) (eqb-true x 47 ends))

-- ---- the longest suffix

better_at_none : (text best : List ℕ) → better text best [] ≡ best
better_at_none text best =
    cond-false (ltb (length best) 0 && cuts text []) [] best (ap (λ b. b && cuts text []) (le-ltb (length best) 0 (omega arith)))

better_at_slash : (text : List ℕ) → better text (47 ∷ []) (47 ∷ []) ≡ 47 ∷ []
better_at_slash text = refl

better_refused : (text : List ℕ) → cuts text (47 ∷ []) ≡ false → better text [] (47 ∷ []) ≡ []
better_refused text fails = cond-false (true && cuts text (47 ∷ [])) (47 ∷ []) [] fails

better_taken : (text : List ℕ) → cuts text (47 ∷ []) ≡ true → better text [] (47 ∷ []) ≡ 47 ∷ []
better_taken text holds = cond-true (true && cuts text (47 ∷ [])) (47 ∷ []) [] holds

-- of two answers
first_none : {K : Type 0} (a b c : Option K) → a ≡ None → b ≡ None → c ≡ None → or_else a (or_else b c) ≡ None
first_none None None c e f g = g
first_none None (Some k) c e f g = f
first_none (Some k) b c e f g = e

no_params : {K : Type 0} (path : List ℕ) → (param_step {K = K} [] path).1 ≡ []
unfolding param_step
no_params {K} path =
    let nothing : RowsOf K = [] in
    cond_both {A = ℕ × RowsOf K} (has_slash path) (0, nothing) (length path, nothing) (λ x. x.1 ≡ []) (λ _. refl) (λ _. refl)

-- no rows, no route
seek_none : {K : Type 0} (skip : ℕ) (path : List ℕ) → seek {K = K} skip [] path ≡ None
unfolding seek
seek_none zero [] = refl
seek_none (suc skip) [] = refl
seek_none (suc skip) (b ∷ path) = seek_none skip path
seek_none {K} zero (b ∷ path) =
    let skip : ℕ = (param_step {K = K} [] (b ∷ path)).0 - 1 in
    first_none (seek {K = K} 0 [] path) (seek skip (param_step {K = K} [] (b ∷ path)).1 path) None (seek_none 0 path)
    (subst (λ (rows : RowsOf K). seek skip rows path ≡ None) (sym (no_params {K = K} (b ∷ path))) (seek_none skip path))
    refl

goes_on : (b x : ℕ) (t u : List ℕ) (Q : Type 0) → x ≡ b → ((x ∷ u ≡ b ∷ t) × Q) ⊎ (apart (b ∷ t) (x ∷ u) ≡ true) → ((u ≡ t) × Q) ⊎ (apart t u ≡ true)
goes_on b x t u Q is =
    ⊎_elim
    (λ (same : (x ∷ u ≡ b ∷ t) × Q). let rows : x ∷ u ≡ b ∷ t = same.0 in let tail : u ≡ t = cc in inl (tail, same.1))
    (λ (other : apart (b ∷ t) (x ∷ u) ≡ true). inr (sym (cond-true (b == x) (apart t u) (ltb b 256 && ltb x 256) (eq-eqb b x (sym is))) ∙ other))

not_beside : (b x : ℕ) (t u : List ℕ) (Q : Type 0) → b < 256 → x ≡ b → ((x ∷ u ≡ 256 ∷ t) × Q) ⊎ (apart (256 ∷ t) (x ∷ u) ≡ true) → ⊥
not_beside b x t u Q small is =
    ⊎_elim
    (λ (same : (x ∷ u ≡ 256 ∷ t) × Q). let rows : x ∷ u ≡ 256 ∷ t = same.0 in let head : x ≡ 256 = cc in omega arith)
    (λ (other : apart (256 ∷ t) (x ∷ u) ≡ true).
    let ne : 256 ≡ x → ⊥ = λ (e : 256 ≡ x). omega arith in
    let never : false ≡ true = sym (cond-false (256 == x) (apart t u) (false && ltb x 256) (ne_eqb 256 x ne)) ∙ other in
    cc never)

-- ---- rows

module _ {K : Type 0} (P : K → Type 0) where
  -- a row has the tokens
  abbrev pub Has : List ℕ → RowsOf K → Type 0
  Has t [] = ⊥
  Has t ((u, key) ∷ rest) = (u ≡ t) ⊎ Has t rest

  -- each row with the tokens has such a key, and no path fits both them and those of another row
  abbrev pub Clear : List ℕ → RowsOf K → Type 0
  Clear t [] = Unit {0}
  Clear t ((u, key) ∷ rest) = (((u ≡ t) × P key) ⊎ (apart t u ≡ true)) × Clear t rest

  abbrev pub AllWhole : RowsOf K → Type 0
  AllWhole [] = Unit {0}
  AllWhole ((u, key) ∷ rest) = (whole u ≡ true) × AllWhole rest

  abbrev pub AllEnd : RowsOf K → Type 0
  AllEnd [] = Unit {0}
  AllEnd ((u, key) ∷ rest) = (ends_here u ≡ true) × AllEnd rest

  -- such a key is found
  abbrev pub Found : Option K → Type 0
  Found None = ⊥
  Found (Some key) = P key

  own_found : (rs : RowsOf K) → Has [] rs → Clear [] rs → Found (own rs)
  own_found [] has clear = has
  own_found (([], key) ∷ rest) has clear =
      ⊎_elim (λ (same : ([] ≡ []) × P key). same.1) (λ (other : false ≡ true). absurd (cc other)) clear.0
  own_found ((y ∷ u, key) ∷ rest) has clear =
      ⊎_elim (λ (same : y ∷ u ≡ []). absurd (cc same)) (λ (more : Has [] rest). own_found rest more clear.1) has

  step_has : (b : ℕ) (t : List ℕ) (rs : RowsOf K) → Has (b ∷ t) rs → Has t (step b rs)
  step_has b t [] has = has
  step_has b t (([], key) ∷ rest) has =
      ⊎_elim (λ (same : [] ≡ b ∷ t). absurd (cc same)) (λ (more : Has (b ∷ t) rest). step_has b t rest more) has
  step_has b t ((x ∷ u, key) ∷ rest) has =
      cond_both (x == b) ((u, key) ∷ step b rest) (step b rest) (Has t)
      (λ _. ⊎_elim (λ (same : x ∷ u ≡ b ∷ t). let tail : u ≡ t = cc in inl tail) (λ (more : Has (b ∷ t) rest). inr (step_has b t rest more)) has)
      (λ no. ⊎_elim (λ (same : x ∷ u ≡ b ∷ t). let head : x ≡ b = cc in absurd (eqb-false x b no head)) (λ (more : Has (b ∷ t) rest). step_has b t rest more) has)

  step_clear : (b : ℕ) (t : List ℕ) (rs : RowsOf K) → Clear (b ∷ t) rs → Clear t (step b rs)
  step_clear b t [] clear = tt
  step_clear b t (([], key) ∷ rest) clear = step_clear b t rest clear.1
  step_clear b t ((x ∷ u, key) ∷ rest) clear =
      cond_both (x == b) ((u, key) ∷ step b rest) (step b rest) (Clear t)
      (λ yes. (goes_on b x t u (P key) (eqb-true x b yes) clear.0, step_clear b t rest clear.1))
      (λ _. step_clear b t rest clear.1)

  step_whole : (b : ℕ) (rs : RowsOf K) → AllWhole rs → AllWhole (step b rs)
  step_whole b [] all = tt
  step_whole b (([], key) ∷ rest) all = step_whole b rest all.1
  step_whole b ((x ∷ u, key) ∷ rest) all =
      cond_both (x == b) ((u, key) ∷ step b rest) (step b rest) AllWhole
      (λ _. ((and_parts _ _ all.0).1, step_whole b rest all.1))
      (λ _. step_whole b rest all.1)

  step_end : (rs : RowsOf K) → AllWhole rs → AllEnd (step 256 rs)
  step_end [] all = tt
  step_end (([], key) ∷ rest) all = step_end rest all.1
  step_end ((x ∷ u, key) ∷ rest) all =
      cond_both (x == 256) ((u, key) ∷ step 256 rest) (step 256 rest) AllEnd
      (λ yes. (subst (λ b. (not b || ends_here u) ≡ true) yes (and_parts (not (x == 256) || ends_here u) (whole u) all.0).0, step_end rest all.1))
      (λ _. step_end rest all.1)

  -- where a parameter stands, no row goes on with a byte
  step_none : (b : ℕ) (t : List ℕ) (rs : RowsOf K) → b < 256 → Clear (256 ∷ t) rs → step b rs ≡ []
  step_none b t [] small clear = refl
  step_none b t (([], key) ∷ rest) small clear = step_none b t rest small clear.1
  step_none b t ((x ∷ u, key) ∷ rest) small clear =
      cond_both (x == b) ((u, key) ∷ step b rest) (step b rest) (λ rows. rows ≡ [])
      (λ yes. absurd (not_beside b x t u (P key) small (eqb-true x b yes) clear.0))
      (λ _. step_none b t rest small clear.1)

  suffix_has : (t : List ℕ) (rs : RowsOf K) → Has (47 ∷ t) rs → Has (47 ∷ t) (with_suffix (47 ∷ []) rs)
  suffix_has t [] has = has
  suffix_has t ((u, key) ∷ rest) has =
      cond_both (same_text (segment u) (47 ∷ [])) ((u, key) ∷ with_suffix (47 ∷ []) rest) (with_suffix (47 ∷ []) rest) (Has (47 ∷ t))
      (λ _. ⊎_elim (λ (same : u ≡ 47 ∷ t). inl same) (λ (more : Has (47 ∷ t) rest). inr (suffix_has t rest more)) has)
      (λ no. ⊎_elim
      (λ (same : u ≡ 47 ∷ t). let e : true ≡ false = subst (λ v. same_text (segment v) (47 ∷ []) ≡ false) same no in absurd (cc e))
      (λ (more : Has (47 ∷ t) rest). suffix_has t rest more) has)

  suffix_clear : (s t : List ℕ) (rs : RowsOf K) → Clear t rs → Clear t (with_suffix s rs)
  suffix_clear s t [] clear = tt
  suffix_clear s t ((u, key) ∷ rest) clear =
      cond_both (same_text (segment u) s) ((u, key) ∷ with_suffix s rest) (with_suffix s rest) (Clear t)
      (λ _. (clear.0, suffix_clear s t rest clear.1))
      (λ _. suffix_clear s t rest clear.1)

  suffix_whole : (s : List ℕ) (rs : RowsOf K) → AllWhole rs → AllWhole (with_suffix s rs)
  suffix_whole s [] all = tt
  suffix_whole s ((u, key) ∷ rest) all =
      cond_both (same_text (segment u) s) ((u, key) ∷ with_suffix s rest) (with_suffix s rest) AllWhole
      (λ _. (all.0, suffix_whole s rest all.1))
      (λ _. suffix_whole s rest all.1)

  longest_stays : (text : List ℕ) (rs : RowsOf K) → AllEnd rs → longest_from text (47 ∷ []) rs ≡ 47 ∷ []
  longest_stays text [] all = refl
  longest_stays text ((u, key) ∷ rest) all =
      ⊎_elim
      (λ (none : segment u ≡ []).
      ap (λ s. longest_from text (better text (47 ∷ []) s) rest) none ∙ ap (λ best. longest_from text best rest) (better_at_none text (47 ∷ [])) ∙ longest_stays text rest all.1)
      (λ (slash : segment u ≡ 47 ∷ []).
      ap (λ s. longest_from text (better text (47 ∷ []) s) rest) slash ∙ ap (λ best. longest_from text best rest) (better_at_slash text) ∙ longest_stays text rest all.1)
      (tail_segment u all.0)

  longest_none : (text : List ℕ) (rs : RowsOf K) → AllEnd rs → cuts text (47 ∷ []) ≡ false → longest_from text [] rs ≡ []
  longest_none text [] all fails = refl
  longest_none text ((u, key) ∷ rest) all fails =
      ⊎_elim
      (λ (none : segment u ≡ []).
      ap (λ s. longest_from text (better text [] s) rest) none ∙ ap (λ best. longest_from text best rest) (better_at_none text []) ∙ longest_none text rest all.1 fails)
      (λ (slash : segment u ≡ 47 ∷ []).
      ap (λ s. longest_from text (better text [] s) rest) slash ∙ ap (λ best. longest_from text best rest) (better_refused text fails) ∙ longest_none text rest all.1 fails)
      (tail_segment u all.0)

  longest_some : (text t : List ℕ) (rs : RowsOf K) → AllEnd rs → cuts text (47 ∷ []) ≡ true → Has (47 ∷ t) rs → longest_from text [] rs ≡ 47 ∷ []
  longest_some text t [] all holds has = absurd has
  longest_some text t ((u, key) ∷ rest) all holds has =
      ⊎_elim
      (λ (none : segment u ≡ []).
      ap (λ s. longest_from text (better text [] s) rest) none ∙ ap (λ best. longest_from text best rest) (better_at_none text [])
      ∙ ⊎_elim
      (λ (same : u ≡ 47 ∷ t). let e : [] ≡ 47 ∷ [] = sym none ∙ ap segment same in absurd (cc e))
      (λ (more : Has (47 ∷ t) rest). longest_some text t rest all.1 holds more) has)
      (λ (slash : segment u ≡ 47 ∷ []).
      ap (λ s. longest_from text (better text [] s) rest) slash ∙ ap (λ best. longest_from text best rest) (better_taken text holds) ∙ longest_stays text rest all.1)
      (tail_segment u all.0)

  -- a parameter takes the segment, and the row goes on behind it
  record Takes (rs : RowsOf K) (path value t : List ℕ) : Type 0 where
    after : RowsOf K
    taken : param_step rs path ≡ (length value, after)
    has : Has t after
    clear : Clear t after
    all : AllWhole after

  takes_last : (rs : RowsOf K) (value : List ℕ) → has_slash value ≡ false → Has [] rs → Clear [] rs → AllWhole rs → AllEnd rs → Takes rs value value []
  unfolding param_step
  takes_last rs value plain has clear all ends =
      let text : segment value ≡ value = segment_plain value plain in
      let none : longest_suffix (segment value) rs ≡ [] = ap (λ s. longest_suffix s rs) text ∙ longest_none value rs ends (plain_ends value plain) in
      record {
        after = rs;
        taken = subst (λ (s : List ℕ). cond {A = ℕ × RowsOf K} (ltb 0 (length s)) (length (segment value) - length s, with_suffix s rs) (cond (has_slash value) (0, []) (length value, rs)) ≡ (length value, rs)) (sym none)
            (cond-false {A = ℕ × RowsOf K} (has_slash value) (0, []) (length value, rs) plain);
        has = has;
        clear = clear;
        all = all;
      }

  takes_one : (rs : RowsOf K) (value rest t : List ℕ) → 0 < length value → has_slash value ≡ false → Has (47 ∷ t) rs → Clear (47 ∷ t) rs → AllWhole rs → AllEnd rs
      → Takes rs (value ++ 47 ∷ rest) value (47 ∷ t)
  unfolding param_step
  takes_one rs value rest t some plain has clear all ends =
      let path : List ℕ = value ++ 47 ∷ rest in
      let text : segment path ≡ value ++ 47 ∷ [] = segment_cut value rest plain in
      let slash : longest_suffix (segment path) rs ≡ 47 ∷ [] = ap (λ s. longest_suffix s rs) text ∙ longest_some (value ++ 47 ∷ []) t rs ends (slash_ends value some) has in
      let long : length (segment path) ≡ length value + 1 = ap length text ∙ length-append value (47 ∷ []) in
      let size : length (segment path) - 1 ≡ length value = omega arith in
      record {
        after = with_suffix (47 ∷ []) rs;
        taken = subst (λ (s : List ℕ). cond {A = ℕ × RowsOf K} (ltb 0 (length s)) (length (segment path) - length s, with_suffix s rs) (cond (has_slash path) (0, []) (length path, rs)) ≡ (length value, with_suffix (47 ∷ []) rs)) (sym slash)
            (ap (λ (n : ℕ). (n, with_suffix (47 ∷ []) rs)) size);
        has = suffix_has t rs has;
        clear = suffix_clear (47 ∷ []) (47 ∷ t) rs clear;
        all = suffix_whole (47 ∷ []) rs all;
      }

  takes : (rs : RowsOf K) (path value rest t : List ℕ) → path ≡ value ++ rest → 0 < length value → has_slash value ≡ false → ends_here t ≡ true → Fits t rest
      → Has t rs → Clear t rs → AllWhole rs → AllEnd rs → Takes rs path value t
  takes rs path value rest [] is some plain end f has clear all ends =
      subst (λ p. Takes rs p value []) (sym (is ∙ ap (λ r. value ++ r) f ∙ append-nil value)) (takes_last rs value plain has clear all ends)
  takes rs path value rest (x ∷ t) is some plain end f has clear all ends =
      let slash : x ≡ 47 = eqb-true x 47 end in
      let g : Fits (47 ∷ t) rest = subst (λ y. Fits (y ∷ t) rest) slash f in
      subst (λ y. Takes rs path value (y ∷ t)) (sym slash)
      (subst (λ p. Takes rs p value (47 ∷ t)) (sym (is ∙ ap (λ r. value ++ r) g.1))
      (takes_one rs value g.0 t some plain (subst (λ y. Has (y ∷ t) rs) slash has) (subst (λ y. Clear (y ∷ t) rs) slash clear) all ends))

  first_found : (a b : Option K) → Found a → Found (or_else a b)
  first_found None b found = absurd found
  first_found (Some key) b found = found

  second_found : (a b c : Option K) → a ≡ None → Found b → Found (or_else a (or_else b c))
  second_found None b c none found = first_found b c found
  second_found (Some key) b c none found = absurd (cc none)

  behind : (b : ℕ) (path value rest : List ℕ) → b ∷ path ≡ value ++ rest → 0 < length value → drop (length value - 1) path ≡ rest
  behind b path [] rest is some = absurd (omega arith)
  behind b path (c ∷ value) rest is some =
      let tail : path ≡ value ++ rest = cc in
      let size : length (c ∷ value) - 1 ≡ length value = omega arith in
      ap (λ n. drop n path) size ∙ ap (drop (length value)) tail ∙ drop-append_seam value rest

  -- the key of the row that the path fits is found
  pub seek_found : (skip : ℕ) (rs : RowsOf K) (path t : List ℕ) → IsText path → Has t rs → Clear t rs → AllWhole rs → whole t ≡ true → Fits t (drop skip path) → Found (seek skip rs path)
  unfolding seek
  seek_found zero rs [] t bytes has clear all one f =
      let none : t ≡ [] = fits_nil t f in own_found rs (subst (λ u. Has u rs) none has) (subst (λ u. Clear u rs) none clear)
  seek_found (suc skip) rs [] t bytes has clear all one f =
      let none : t ≡ [] = fits_nil t f in own_found rs (subst (λ u. Has u rs) none has) (subst (λ u. Clear u rs) none clear)
  seek_found (suc skip) rs (b ∷ path) t bytes has clear all one f = seek_found skip rs path t bytes.1 has clear all one f
  seek_found zero rs (b ∷ path) [] bytes has clear all one f = absurd (cc f)
  seek_found zero rs (b ∷ path) (x ∷ t) bytes has clear all one f =
      ⊎_elim
      (λ (yes : (x == 256) ≡ true).
      let is : x ≡ 256 = eqb-true x 256 yes in
      let g = MatchBool-at_true (TakesValue (Fits t) (b ∷ path)) (TakesByte x (Fits t) (b ∷ path)) yes f in
      let here : Has (256 ∷ t) rs = subst (λ y. Has (y ∷ t) rs) is has in
      let free : Clear (256 ∷ t) rs = subst (λ y. Clear (y ∷ t) rs) is clear in
      let parts = and_parts (not (x == 256) || ends_here t) (whole t) one in
      let end : ends_here t ≡ true = subst (λ c. (not c || ends_here t) ≡ true) yes parts.0 in
      let took : Takes (step 256 rs) (b ∷ path) g.0 t = takes (step 256 rs) (b ∷ path) g.0 g.1 t g.2 g.3 g.4 end g.5 (step_has 256 t rs here) (step_clear 256 t rs free) (step_whole 256 rs all) (step_end rs all) in
      let none : seek 0 (step b rs) path ≡ None = subst (λ (rows : RowsOf K). seek 0 rows path ≡ None) (sym (step_none b t rs bytes.0 free)) (seek_none 0 path) in
      second_found _ _ _ none
      (subst (λ (p : ℕ × RowsOf K). Found (seek (p.0 - 1) p.1 path)) (sym took.taken)
      (seek_found (length g.0 - 1) took.after path t bytes.1 took.has took.clear took.all parts.1 (subst (Fits t) (sym (behind b path g.0 g.1 g.2 g.3)) g.5))))
      (λ (no : (x == 256) ≡ false).
      let g = MatchBool-at_false (TakesValue (Fits t) (b ∷ path)) (TakesByte x (Fits t) (b ∷ path)) no f in
      let line : b ∷ path ≡ x ∷ g.0 = g.1 in
      let head : x ≡ b = cc in
      let tail : g.0 ≡ path = cc in
      first_found _ _
      (seek_found 0 (step b rs) path t bytes.1 (step_has b t rs (subst (λ y. Has (y ∷ t) rs) head has)) (step_clear b t rs (subst (λ y. Clear (y ∷ t) rs) head clear)) (step_whole b rs all)
      (and_parts (not (x == 256) || ends_here t) (whole t) one).1 (subst (Fits t) tail g.2)))
      (cases_Bool (x == 256))
