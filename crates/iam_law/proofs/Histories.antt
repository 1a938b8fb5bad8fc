-- Histories of accepted entries.
use Rattle.std.proofs.Common.{◌≡◌, ◌+◌, List, [], ◌∷◌, ◌++◌, length, None, refl, arith}
use Rattle.iam_types.specs.declared.command.Entry.{Entry}
use Rattle.iam_types.specs.declared.tables.Tables.{Tables}
use Rattle.iam_model.specs.Commands.{IsEntry, after}
use Rattle.iam_law.specs.Admit.{admission}
use Rattle.iam_law.specs.Good.{Good}
use Rattle.iam_law.specs.History.{state, AllAccepted, Legal}

abbrev pub KeepsGood : Type 0
KeepsGood = (tables : Tables) (entry : Entry) → Good tables → IsEntry entry → admission tables entry ≡ None → Good (after tables entry)

abbrev pub CountsOne : Type 0
CountsOne = (tables : Tables) (entry : Entry) → Good tables → IsEntry entry → admission tables entry ≡ None → (after tables entry).org.changes ≡ tables.org.changes + 1

-- the tables after a legal history are good
pub legal_good : KeepsGood → (entries : List Entry) (tables : Tables) → Legal tables entries → Good (state tables entries)
legal_good keeps [] tables legal = legal.0
legal_good keeps (entry ∷ entries) tables legal = legal_good keeps entries (after tables entry) (keeps tables entry legal.0 legal.1.0 legal.1.1, legal.1.2)

-- an entry that is accepted at its end makes it longer
pub accepted_more : (entries : List Entry) (tables : Tables) (entry : Entry) → AllAccepted tables entries → IsEntry entry → admission (state tables entries) entry ≡ None → AllAccepted tables (entries ++ entry ∷ [])
accepted_more [] tables entry all formed accepted = (formed, accepted, tt)
accepted_more (first ∷ entries) tables entry all formed accepted = (all.0, all.1, accepted_more entries (after tables first) entry all.2 formed accepted)

pub state_more : (entries : List Entry) (tables : Tables) (entry : Entry) → state tables (entries ++ entry ∷ []) ≡ after (state tables entries) entry
state_more [] tables entry = refl
state_more (first ∷ entries) tables entry = state_more entries (after tables first) entry

pub history_counted : KeepsGood → CountsOne → (entries : List Entry) (tables : Tables) → Legal tables entries → (state tables entries).org.changes ≡ tables.org.changes + length entries
history_counted keeps counts [] tables legal = omega arith
history_counted keeps counts (entry ∷ entries) tables legal =
    let good : Good (after tables entry) = keeps tables entry legal.0 legal.1.0 legal.1.1 in
    let more = history_counted keeps counts entries (after tables entry) (good, legal.1.2) in
    let one = counts tables entry legal.0 legal.1.0 legal.1.1 in
    omega (arith, more, one)
