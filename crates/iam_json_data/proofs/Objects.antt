-- Readers of objects, member by member.
use Rattle.std.proofs.Common.{◌≡◌, ℕ, List, [], Option, Some, None, Result, Ok, Err, true, false, is_some, inl, inr, refl}
use Rattle.serde_json.specs.Data.{Data}
use Rattle.serde_json.specs.Find.{as_object}
use Rattle.iam_json_data.specs.declared.stop.BodyStop.{BodyStop}
use Rattle.iam_json_data.specs.declared.stop.BodyStop.TheVariants.{BadJson, BadField, OutOfMemory}
use Rattle.iam_json_data.specs.Reading.{Gives, Then, ReadsSome}
use Rattle.iam_json_data.specs.Readers.{ReadsObject}

at_object : {A B : Type 0} (reads : Result A (List ℕ) → Type 0) (o : Option B) (result : Result A BodyStop) → is_some o ≡ true → Gives reads result → Gives (ReadsSome (λ _. reads) o) result
at_object reads None result some h = cc
at_object reads (Some there) (Ok value) some h = h
at_object reads (Some there) (Err BadJson) some h = h
at_object reads (Some there) (Err (BadField path)) some h = h
at_object reads (Some there) (Err OutOfMemory) some h = h

-- what is read of an object's members is read of it
pub of_object : {A : Type 0} (reads : Data → Result A (List ℕ) → Type 0) (d : Data) (result : Result A BodyStop) → is_some (as_object d) ≡ true → Gives (reads d) result → Gives (ReadsObject reads d) result
of_object reads d result some h = at_object (reads d) (as_object d) result some h

at_none : {A B : Type 0} (reads : Result A (List ℕ) → Type 0) (o : Option B) → is_some o ≡ false → ReadsSome (λ _. reads) o (Err [])
at_none reads None none = refl
at_none reads (Some there) none = cc

-- what is no object is bad
pub no_object : {A : Type 0} (reads : Data → Result A (List ℕ) → Type 0) (d : Data) → is_some (as_object d) ≡ false → ReadsObject reads d (Err [])
no_object reads d none = at_none (reads d) (as_object d) none

-- the first is bad
pub then_stop : {A B : Type 0} (first : Result A (List ℕ) → Type 0) (next : A → Result B (List ℕ) → Type 0) (stop : BodyStop) → Gives first (Err stop) → Gives (Then first next) (Err stop)
then_stop first next BadJson h = h
then_stop first next (BadField path) h = inl h
then_stop first next OutOfMemory h = tt

-- the first is read, and the next goes on
pub then_more : {A B : Type 0} (first : Result A (List ℕ) → Type 0) (next : A → Result B (List ℕ) → Type 0) (before : A) (result : Result B BodyStop) → first (Ok before) → Gives (next before) result → Gives (Then first next) result
then_more first next before (Ok value) h more = (before, h, more)
then_more first next before (Err BadJson) h more = more
then_more first next before (Err (BadField path)) h more = inr (before, h, more)
then_more first next before (Err OutOfMemory) h more = tt
