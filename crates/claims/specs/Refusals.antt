-- Demand 1 as a property of one call.
--
-- RefusedBy n before c a after == call c is answered as its first failing check requires: n is that check's number, or
--   0 where none fails
-- RefusedInOrder s c a s' == the same of a session, by value or in place
-- refusal_for b c == the number of call c's first failing check on record bytes b, or 0; 1 for bytes that are no record
-- RefusedOnBytes b c a b' == the same of any record bytes
-- Start18 r x vs bs a == the answer a of a Start on record r is 18 exactly where document 02, S-11, has it
-- StartSettled b x vs bs == the reference model's reply to a Start: the number of parts, or the number of the first
--   failing check
--
-- Which checks a call makes, and in which order: `refusal_on` (crate session, Promises), from `refusal` (crate model,
-- Refusals). An advance's 18 is not among them: it is left to the program.
use Rattle.std.specs.Prelude.{ℕ, suc, ◌≡◌, true, cond, List, ◌↔◌}
use Rattle.formats.specs.Checks.{first_no}
use Rattle.formats.specs.Inputs.{Inputs}
use Rattle.model.specs.Calls.{Call, start, advance, Answer, refused, parts, is_refused}
use Rattle.model.specs.Refusals.{checks_before18, refusal}
use Rattle.model.specs.Sound.{Sound}
use Rattle.model.specs.Model.{Record, stage_of}
use Rattle.reference.specs.Reference.{Reference, State, settled, in_state, part_count, asked, step}
use Rattle.reference.specs.Reference as reference
use Rattle.session.specs.declared.state.Session.{Session}
use Rattle.session.specs.Promises.{refusal_on}
use Rattle.records.specs.Layout.{decoded, laid_out}

pub record RefusedBy {R : Type 0} (n : ℕ) (before : R) (c : Call) (a : Answer) (after : R) : Type 0 where
  -- "refused first, by number, in a fixed order"
  pub by_number : (m : ℕ) → n ≡ suc m → a ≡ refused (suc m)
  -- "a refusal alters nothing"
  pub unaltered : (m : ℕ) → a ≡ refused m → after ≡ before
  -- "everything else is accepted": but for an advance's 18, "a value read leads outside the plan, the states or the
  -- labels, or a climb doesn't rise". Start's 18 is one of its checks
  pub else_accepted : n ≡ 0 → is_refused a ≡ true → (x : Inputs) × (c ≡ advance x) × (a ≡ refused 18)

abbrev pub RefusedInOrder : Session → Call → Answer → Session → Type 0
RefusedInOrder s c a s' = RefusedBy (refusal_on s c) s c a s'

-- "bytes that break it get 1"
abbrev pub refusal_for : List ℕ → Call → ℕ
refusal_for b c = cond (laid_out b) (refusal_on (decoded b) c) 1

abbrev pub RefusedOnBytes : List ℕ → Call → Answer → List ℕ → Type 0
RefusedOnBytes b c a b' = RefusedBy (refusal_for b c) b c a b'

-- "give 18 at its old place exactly when the tables aren't what the build writes from that plan and those rules, or
-- when these no longer pass 2 to 10 or name another N, S or K than the record"
abbrev pub Start18 : Record → Inputs → List ℕ → List ℕ → Answer → Type 0
Start18 r x vs bs a =
    (a ≡ refused 18) ↔ ((first_no (checks_before18 (stage_of r) x vs bs) ≡ 0) × (Sound r.sizes x → ⊥))

-- "Nothing about Start is left to the program then": its reply does not depend on the program's answer
pub record StartSettled (b : Reference) (x : Inputs) (vs bs : List ℕ) : Type 0 where
  -- "Start: running, count 0, clean if sound; clean, it tells the number of parts."
  pub accepted : refusal (reference.stage_of b) (start x vs bs) ≡ 0
      → step b (start x vs bs)
      ≡ settled (parts (part_count (asked x vs bs))) (in_state b (State.running (asked x vs bs)))
  -- "the first such number; the book stays"
  pub denied : (n : ℕ) → refusal (reference.stage_of b) (start x vs bs) ≡ suc n
      → step b (start x vs bs) ≡ settled (refused (suc n)) b
