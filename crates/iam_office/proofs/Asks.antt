-- What a message asks to be written is well formed, and which messages ask for no change.
use Rattle.std.proofs.Common.{◌≡◌, ℕ, Bool, true, false, not, ◌||◌, List, [], ◌∷◌, ◌++◌, refl, sym, ◌∙◌, ap, subst, arith, reverse}
use Rattle.std.specs.Bool.{◌==◌}
use Rattle.std.specs.Prelude.{◌≢◌, cond, codes, length, drop, Option, Some, None}
use Rattle.std.specs.List.{Contains, list_all, list_any, starts_with}
use Rattle.std.specs.Str.{bytes_eq}
use Rattle.std.specs.Char.{is_ascii_alphabetic}
use Rattle.std.proofs.lemmas.Bool.{and_parts}
use Rattle.std.proofs.lemmas.Bool.Decides.{Decides-eqb}
use Rattle.std.proofs.lemmas.List.{reverse-append, reverse-reverse}
use Rattle.std.proofs.lemmas.List.Elements.{All-contains}
use Rattle.std.proofs.lemmas.List.Sums.{AllPass-from_list_all}
use Rattle.std.proofs.lemmas.Slice.Eq.{starts_is}
use Rattle.iam_names.specs.Caller.{IsCaller}
use Rattle.iam_names.specs.declared.caller.Caller.{Caller}
use Rattle.iam_types.specs.declared.command.Command.{Command}
use Rattle.iam_types.specs.declared.command.Entry.{Entry}
use Rattle.iam_types.specs.declared.ask.Ask.{Ask}
use Rattle.iam_model.specs.Commands.{IsCommand}
use Rattle.iam_json.specs.declared.call.Call.TheVariants.{Write, Read}
use Rattle.iam_wire.specs.declared.message.Field.{Field}
use Rattle.iam_wire.specs.declared.message.Field.TheVariants.{Absent, One, Bad}
use Rattle.iam_wire.specs.declared.message.Message.{Message}
use Rattle.iam_routes.specs.Asked.{IsAsked, NamesCaller}
use Rattle.iam_routes.specs.Query.{pairs_of}
use Rattle.iam_routes.specs.Routes.{RouteLine, IsCut, IsVerb, Reaches, colon, lines, path_of}
use Rattle.iam_routes.specs.declared.given.Asked.TheVariants.{Given}
use Rattle.iam_answer.proofs.Given.{command_is}
use Rattle.iam_answer.proofs.Reading.{reads_at, read_line, write_line}
use Rattle.iam_office.specs.Accepted.{has_verb, only_reads, reading_verbs}

-- ---- what is asked is well formed

caller_is : (field : Field) (caller : Caller) → NamesCaller field caller → IsCaller caller
caller_is Absent caller is = subst IsCaller (sym is) (tt, omega arith)
caller_is (One text) caller is = is.0
caller_is Bad caller is = absurd is

-- the caller and the command of a message
pub write_is : (message : Message) (caller : Caller) (floor : Option ℕ) (command : Command) → IsAsked message (Given caller floor (Write command)) → IsCaller caller × IsCommand command
write_is message caller floor command asked =
    let call = asked.2 in
    (caller_is message.caller caller asked.0, command_is call.0.line call.1.0 (pairs_of message.target) call.1.2.0 command call.1.2.2)

-- ---- which lines ask for no change

-- whether a path that ends with this verb has a verb that reads, whatever stands before it, which is this from its end on
abbrev verb_reads : Option (List ℕ) → List ℕ → Bool
verb_reads None place = false
verb_reads (Some text) place = list_any (λ verb. starts_with ◌==◌ (reverse (colon ∷ text) ++ place) (reverse (colon ∷ verb))) reading_verbs

-- whether a line asks for no change, by its method and its verb
abbrev reads_by : List ℕ → RouteLine → Bool
reads_by place line = bytes_eq line.method (codes "GET") || verb_reads line.verb place

abbrev agree : Bool → Bool → Bool
agree a b = cond a b (not b)

agree_same : (a b : Bool) → agree a b ≡ true → a ≡ b
agree_same true true is = refl
agree_same true false is = cc
agree_same false true is = cc
agree_same false false is = refl

each_line : (test : RouteLine → Bool) → list_all test lines ≡ true → (line : RouteLine) → Contains lines line → test line ≡ true
each_line test all line there = All-contains (λ l. test l ≡ true) lines line (AllPass-from_list_all test lines all) there

lines_agree : (place : List ℕ) (line : RouteLine) → Contains lines line → reads_at line.line ≡ reads_by place line
unfolding lines
lines_agree place line there = agree_same (reads_at line.line) (reads_by place line) (each_line (λ l. agree (reads_at l.line) (reads_by place l)) refl line there)

-- ---- a path that isn't cut has none of the verbs, whichever its line is

-- a verb, as a test
abbrev is_verb : List ℕ → Bool
is_verb [] = false
is_verb (b ∷ text) = list_all is_ascii_alphabetic (b ∷ text)

some_letters : (b : ℕ) (text : List ℕ) → b ∷ text ≡ [] → ⊥
some_letters b text is = cc

verb_is : (text : List ℕ) → is_verb text ≡ true → IsVerb text
verb_is [] is = absurd (cc)
verb_is (b ∷ text) is = (some_letters b text, is)

-- what stands before the verb at the end of a path
abbrev before_verb : List ℕ → List ℕ → List ℕ
before_verb path verb = reverse (drop (length (reverse (colon ∷ verb))) (reverse path))

ends_so : (path verb : List ℕ) → has_verb path verb ≡ true → path ≡ before_verb path verb ++ colon ∷ verb
ends_so path verb is =
    let end : List ℕ = reverse (colon ∷ verb) in
    let left : List ℕ = drop (length end) (reverse path) in
    let parts : reverse path ≡ end ++ left = (starts_is Decides-eqb (reverse path) end (has_verb path verb) refl).0 is in
    sym (reverse-reverse path) ∙ ap reverse parts ∙ reverse-append end left ∙ ap (λ t. reverse left ++ t) (reverse-reverse (colon ∷ verb))

not_its_end : (path verb : List ℕ) → ((front text : List ℕ) → IsVerb text → path ≢ front ++ colon ∷ text) → IsVerb verb → has_verb path verb ≡ false
not_its_end path verb uncut is = elim (has_verb path verb) as (λ b. has_verb path verb ≡ b → has_verb path verb ≡ false) [
  | true ↦ λ ends. absurd (uncut (before_verb path verb) verb is (ends_so path verb ends))
  | false ↦ λ other. other
] refl

none_ends : (path : List ℕ) (verbs : List (List ℕ)) → ((front text : List ℕ) → IsVerb text → path ≢ front ++ colon ∷ text) → list_all is_verb verbs ≡ true → list_any (has_verb path) verbs ≡ false
none_ends path [] uncut all = refl
none_ends path (verb ∷ verbs) uncut all =
    let parts = and_parts (is_verb verb) (list_all is_verb verbs) all in
    ap (λ (b : Bool). b || list_any (has_verb path) verbs) (not_its_end path verb uncut (verb_is verb parts.0)) ∙ none_ends path verbs uncut parts.1

-- the path of the message ends as that of its line does
by_verb : (verb : Option (List ℕ)) (path place : List ℕ) → IsCut path place verb → list_any (has_verb path) reading_verbs ≡ verb_reads verb (reverse place)
by_verb None path place is = none_ends path reading_verbs is.1 refl
by_verb (Some text) path place is =
    ap (λ p. list_any (λ verb. starts_with ◌==◌ p (reverse (colon ∷ verb))) reading_verbs) (ap reverse is.1 ∙ reverse-append place (colon ∷ text))

by_line : (message : Message) (line : RouteLine) (parts : List (List ℕ)) (reaches : Reaches message.method message.target line parts) → only_reads message ≡ reads_by (reverse reaches.path.0) line
by_line message line parts reaches =
    ap (λ m. bytes_eq m (codes "GET") || list_any (has_verb (path_of message.target)) reading_verbs) (sym reaches.method_is)
    ∙ ap (λ reads. bytes_eq line.method (codes "GET") || reads) (by_verb line.verb (path_of message.target) reaches.path.0 reaches.path.1)

pub read_only : (message : Message) (caller : Caller) (floor : Option ℕ) (ask : Ask) → IsAsked message (Given caller floor (Read ask)) → only_reads message ≡ true
read_only message caller floor ask asked =
    let call = asked.2 in
    let reaches = call.1.1 in
    by_line message call.0 call.1.0 reaches
    ∙ sym (lines_agree (reverse reaches.path.0) call.0 reaches.on_table)
    ∙ read_line call.0.line call.1.0 (pairs_of message.target) call.1.2.0 ask call.1.2.2

pub write_not_only : (message : Message) (e : Entry) (floor : Option ℕ) → IsAsked message (Given e.caller floor (Write e.command)) → only_reads message ≡ false
write_not_only message e floor asked =
    let call = asked.2 in
    let reaches = call.1.1 in
    by_line message call.0 call.1.0 reaches
    ∙ sym (lines_agree (reverse reaches.path.0) call.0 reaches.on_table)
    ∙ write_line call.0.line call.1.0 (pairs_of message.target) call.1.2.0 e.command call.1.2.2
