-- What is printed is read back, where it has no floats and each object has its members in order.
use Rattle.std.proofs.Common.{◌≡◌, ℕ, ◌+◌, ◌≤◌, ◌<◌, ◌^◌, pos, negsuc, List, [], ◌++◌, Option, option_and_then, Some, refl, sym, ap, ◌∙◌, arith, append-nil, suc}
use Rattle.std.specs.Prelude.{⊤}
use Rattle.json.specs.Token.{Token}
use Rattle.json.specs.Lex.{tokens}
use Rattle.json.specs.Json as json
use Rattle.json.specs.Tree as tree
use Rattle.json.specs.Print.{IsNumber}
use Rattle.json.proofs.Printed.Decimals.{IsNumber-decimal, IsNumber-signed_decimal}
use Rattle.json.proofs.Printed.Tokens.{tokens-print}
use Rattle.json.proofs.Printed.Trees.{value-json_tokens, ArePrintable-json_tokens}
use Rattle.serde_json.specs.Data.{Num, unsigned, negative, float, Data, null, boolean, number, string, array, object, Items, no_items, item, Members, no_members, member, put, depth, items_depth, members_depth}
use Rattle.serde_json.specs.Read.{read, of_json, of_items, of_members, number_of, max_depth}
use Rattle.serde_json.specs.Written.{compact_text, outline, items_outline, members_outline, number_text}
use Rattle.serde_json.proofs.Numbers.{number_of-decimal, number_of-negative}
use Rattle.serde_json.proofs.Texts.{print-outline}
use Rattle.std.specs.Ordering.{nat_cmp}
use Rattle.std.specs.declared.cmp.Ordering.TheVariants.{Greater}
use Rattle.std.specs.Cmp.Lexicographic.{slice_cmp}

-- the members, one after another
abbrev pub onto : Members → Members → Members
onto no_members ns = ns
onto (member k d ms) ns = member k d (onto ms ns)

-- the name is past each of these
abbrev pub IsPast : List ℕ → Members → Type 0
IsPast k no_members = ⊤
IsPast k (member l e ms) = (slice_cmp nat_cmp k l ≡ Greater) × IsPast k ms

-- the names go up, and past those before
abbrev pub GoesUp : Members → Members → Type 0
GoesUp before no_members = ⊤
GoesUp before (member k d ms) = IsPast k before × GoesUp (onto before (member k d no_members)) ms

abbrev pub IsInteger : Num → Type 0
IsInteger (unsigned n) = n < 2 ^ 64
IsInteger (negative (pos n)) = ⊥
IsInteger (negative (negsuc n)) = n + 1 < 2 ^ 63
IsInteger (float x) = ⊥

abbrev mutual
  pub IsPlain : Data → Type 0
  IsPlain null = ⊤
  IsPlain (boolean b) = ⊤
  IsPlain (number n) = IsInteger n
  IsPlain (string s) = ⊤
  IsPlain (array ds) = ArePlain ds
  IsPlain (object ms) = GoesUp no_members ms × HasPlain ms

  pub ArePlain : Items → Type 0
  ArePlain no_items = ⊤
  ArePlain (item d ds) = IsPlain d × ArePlain ds

  pub HasPlain : Members → Type 0
  HasPlain no_members = ⊤
  HasPlain (member k d ms) = IsPlain d × HasPlain ms

abbrev whole : Option (json.Json × List Token) → Option Data
whole o = option_and_then of_json (option_and_then (λ p. json.if_last p.0 p.1) o)

-- ---- a name past the others goes last

put_last : (k : List ℕ) (d : Data) (ms : Members) → IsPast k ms → put k d ms ≡ onto ms (member k d no_members)
put_last k d no_members h = refl
put_last k d (member l e ms) h = rw h.0 (ap (member l e) (put_last k d ms h.1))

onto_end : (ms : Members) → onto ms no_members ≡ ms
onto_end no_members = refl
onto_end (member k d ms) = ap (member k d) (onto_end ms)

onto_onto : (a b c : Members) → onto (onto a b) c ≡ onto a (onto b c)
onto_onto no_members b c = refl
onto_onto (member k d a) b c = ap (member k d) (onto_onto a b c)

-- ---- the outline is read as the value

number_back : (n : Num) → IsInteger n → number_of (number_text n) ≡ Some n
number_back (unsigned n) h = number_of-decimal n h
number_back (negative (pos n)) h = absurd h
number_back (negative (negsuc n)) h = number_of-negative n (omega arith)
number_back (float x) h = absurd h

mutual
  outline_back : (d : Data) → IsPlain d → of_json (outline d) ≡ Some d
  outline_back null h = refl
  outline_back (boolean b) h = refl
  outline_back (number n) h = rw (number_back n h) refl
  outline_back (string s) h = refl
  outline_back (array ds) h = rw (items_back ds h) refl
  outline_back (object ms) h = rw (members_back ms no_members h.0 h.1) refl

  items_back : (ds : Items) → ArePlain ds → of_items (items_outline ds) ≡ Some ds
  items_back no_items h = refl
  items_back (item d ds) h = rw (outline_back d h.0, items_back ds h.1) refl

  members_back : (ms before : Members) → GoesUp before ms → HasPlain ms → of_members (members_outline ms) before ≡ Some (onto before ms)
  members_back no_members before up h = ap Some (sym (onto_end before))
  members_back (member k d ms) before up h =
      rw (outline_back d h.0, put_last k d before up.0)
      (members_back ms (onto before (member k d no_members)) up.1 h.1 ∙ ap Some (onto_onto before (member k d no_members) ms))

-- ---- the outline can be printed, and is as deep

number_printed : (n : Num) → IsInteger n → IsNumber (number_text n)
number_printed (unsigned n) h = IsNumber-decimal n h
number_printed (negative (pos n)) h = absurd h
number_printed (negative (negsuc n)) h = IsNumber-signed_decimal (negsuc n) (omega arith)
number_printed (float x) h = absurd h

mutual
  outline_printed : (d : Data) → IsPlain d → tree.HasNumbers (outline d)
  outline_printed null h = tt
  outline_printed (boolean b) h = tt
  outline_printed (number n) h = number_printed n h
  outline_printed (string s) h = tt
  outline_printed (array ds) h = items_printed ds h
  outline_printed (object ms) h = members_printed ms h.1

  items_printed : (ds : Items) → ArePlain ds → tree.ItemsHaveNumbers (items_outline ds)
  items_printed no_items h = tt
  items_printed (item d ds) h = (outline_printed d h.0, items_printed ds h.1)

  members_printed : (ms : Members) → HasPlain ms → tree.MembersHaveNumbers (members_outline ms)
  members_printed no_members h = tt
  members_printed (member k d ms) h = (outline_printed d h.0, members_printed ms h.1)

mutual
  outline_depth : (d : Data) → tree.depth (outline d) ≡ depth d
  outline_depth null = refl
  outline_depth (boolean b) = refl
  outline_depth (number n) = refl
  outline_depth (string s) = refl
  outline_depth (array ds) = ap suc (items_outline_depth ds)
  outline_depth (object ms) = ap suc (members_outline_depth ms)

  items_outline_depth : (ds : Items) → tree.items_depth (items_outline ds) ≡ items_depth ds
  items_outline_depth no_items = refl
  items_outline_depth (item d ds) = rw (outline_depth d, items_outline_depth ds) refl

  members_outline_depth : (ms : Members) → tree.members_depth (members_outline ms) ≡ members_depth ms
  members_outline_depth no_members = refl
  members_outline_depth (member k d ms) = rw (outline_depth d, members_outline_depth ms) refl

-- ---- the whole text

pub read-compact_text : (d : Data) → IsPlain d → depth d ≤ max_depth → read (compact_text d) ≡ Some d
read-compact_text d plain shallow =
    let j = outline d in
    let ts = tree.json_tokens j in
    let lexed : tokens (compact_text d) ≡ ts ++ [] =
    ap tokens (sym (print-outline d)) ∙ tokens-print ts (ArePrintable-json_tokens j (outline_printed d plain)) ∙ sym (append-nil ts) in
    ap whole (ap (json.value max_depth) lexed ∙ value-json_tokens j max_depth [] (omega (arith, outline_depth d))) ∙ outline_back d plain
