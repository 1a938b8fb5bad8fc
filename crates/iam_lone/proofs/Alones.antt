-- A conversation over an office of its own, from its tables on.
use Rattle.std.proofs.Common.{◌≡◌, ℕ, true, List, [], None, refl, sym, subst}
use Rattle.std.specs.declared.option.Option.{Option}
use Rattle.iam_outer.specs.declared.keeper.Row.{Row}
use Rattle.iam_outer.specs.declared.talk.Step.{Step}
use Rattle.iam_outer.specs.declared.talk.TalkEnd.{TalkEnd}
use Rattle.iam_law.specs.Good.{Good}
use Rattle.iam_office.specs.Talks.{OfInput, Talked, Tells}
use Rattle.iam_office.specs.Turns.{Turn}
use Rattle.iam_rows.specs.Kept.{KeepsTables}
use Rattle.iam_lone.specs.Lone.{Alone, StandsFor, current}
use Rattle.iam_lone.specs.Ran.{RanFrom}
use Rattle.iam_lone.proofs.Waiting.{none_current}

-- what the turns tell of an office in which no entry waits
tells_ran : {P : Type 0} (accepted : Alone P → ℕ) (old new : Alone P) (rows : Option (List Row)) (turns : List Turn) → old.waiting ≡ None → Good old.tables → KeepsTables rows (current new) → Tells StandsFor accepted true old new turns → RanFrom old.tables rows turns
tells_ran accepted old new rows turns none good kept tells =
    let d = tells.0 old.tables [] ((good, tt), sym (none_current old none)) in
    (d.0, d.1.0, d.2.1 refl, subst (KeepsTables rows) (sym d.1.1) kept)

-- the same of a whole conversation
talked_ran : {P : Type 0} (accepted : Alone P → ℕ) (old new : Alone P) (rows : Option (List Row)) (before now : Option (List ℕ)) (read unread : List ℕ) (end : TalkEnd) (trace : List Step) →
    old.waiting ≡ None → Good old.tables → KeepsTables rows (current new) → Talked (Tells StandsFor accepted true old new) before now read unread end trace → Talked (RanFrom old.tables rows) before now read unread end trace
talked_ran accepted old new rows before now read unread end trace none good kept talk = record {
  turns = talk.turns;
  stop = talk.stop;
  told = tells_ran accepted old new rows talk.turns none good kept talk.told;
  found = talk.found;
  clock = talk.clock;
  most = talk.most;
  ends = talk.ends;
  written = talk.written;
  traced = talk.traced;
}

pub ran_from : {P : Type 0} (accepted : Alone P → ℕ) (old new : Alone P) (rows : Option (List Row)) (before now : Option (List ℕ)) (end : TalkEnd) (trace : List Step) (left later : Option (List ℕ)) →
    old.waiting ≡ None → Good old.tables → KeepsTables rows (current new) →
    OfInput left later (λ read unread. Talked (Tells StandsFor accepted true old new) before now read unread end trace) → OfInput left later (λ read unread. Talked (RanFrom old.tables rows) before now read unread end trace)
ran_from accepted old new rows before now end trace left later none good kept talk =
    (talk.0, talk.1, talk.2, talk.3, talked_ran accepted old new rows before now talk.0 talk.1 end trace none good kept talk.4)
