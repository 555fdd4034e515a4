-- The further statements of demand 3, about what the calls answer of one question.
--
-- Few m p == p parts are at most 4m - 2, and 1 where m is 0
-- CleanOutcomes x vs bs n ys == of a question that Start accepted and that was undisturbed: its parts, after how many
--   accepted advances it is finished, what Reads answer after that, ceilings
-- QuestionAnswered z x vs bs n ds ys == an accepted Start had sound inputs, and the outcomes where it is undisturbed
-- QuestionsAnswered fresh Step == it holds in every history, for any form of the calls
-- Tells q b o == the outcome o has state q and yes or no b
use Rattle.std.specs.Prelude.{ℕ, ◌-◌, ◌*◌, ◌≤◌, ◌≡◌, ◌<◌, List, ◌∷◌, ◌++◌, length, Bool}
use Rattle.std.proofs.Math.Option.{none, some}
use Rattle.trees.specs.Tree.{height}
use Rattle.trees.specs.Climb.{digits}
use Rattle.formats.specs.Plan.{plan_tree, labels_within}
use Rattle.changes.specs.Differing.{differing}
use Rattle.questions.specs.ready.Members.{roots}
use Rattle.formats.specs.Inputs.{Inputs, Sizes}
use Rattle.model.specs.Calls.{Call, start, Answer, parts}
use Rattle.model.specs.Sound.{Sound}
use Rattle.reference.specs.Reference.{new_reference, part_count, fresh_answer, asked}
use Rattle.model.specs.History.{History}
use Rattle.reference.specs.Undisturbed.{advances, finished_after, reference_at, Undisturbed}
use Rattle.reference.specs.Undisturbed.{EveryOutcomeAfter, OnlyOutcomeAfter}
use Rattle.model.specs.Calls.{Outcome}

pub record Few (m p : ℕ) : Type 0 where
  pub one : m ≡ 0 → p ≡ 1
  pub few : 1 ≤ m → p ≤ 4 * m - 2

-- n is the number of parts that Start returned, ys are the answers of the calls after it
pub record CleanOutcomes (x : Inputs) (vs bs : List ℕ) (n : ℕ) (ys : List Answer) : Type 0 where
  -- Start returns the size of the ready set
  pub parts_are : n ≡ part_count (asked x vs bs)
  -- "the ceiling of 4m-2 uses the m that is left, with 1 part when none is": m counts the nodes whose label, after
  -- superseding, is not the plan's
  pub few : Few (length (differing (labels_within x.plan) vs bs)) n
  -- "parts and advances needed never rise": no more than with all listed nodes in W
  pub never_more : n ≤ length (roots (plan_tree x.plan) vs)
  -- finished after exactly one accepted advance for each part
  pub exact : (m : ℕ) → finished_after ys ≡ some m → m ≡ n
  pub unfinished : finished_after ys ≡ none → advances ys < n
  pub most : advances ys ≤ n
  -- once it is finished Read returns the fresh run's state and yes or no, the parts, the moves of their climbs and the
  -- nodes that these passed over
  pub only : OnlyOutcomeAfter (fresh_answer (asked x vs bs)) ys
  -- at most three links for each binary digit of the plan's height, for each part
  pub links : EveryOutcomeAfter (λ o. o.links ≤ o.parts * (3 * digits (height (plan_tree x.plan)))) ys
  -- document 02, S-7: no fewer nodes passed over than links, and at most the plan's height for each part
  pub passed_least : EveryOutcomeAfter (λ o. o.links ≤ o.passed) ys
  pub passed_most : EveryOutcomeAfter (λ o. o.passed ≤ o.parts * height (plan_tree x.plan)) ys

-- a question that Start accepted for the sizes z: ds and ys are the calls and answers after it
pub record QuestionAnswered (z : Sizes) (x : Inputs) (vs bs : List ℕ) (n : ℕ) (ds : List Call) (ys : List Answer) : Type 0 where
  -- Start made "the full check of what is lent"
  pub started_sound : Sound z x
  -- "A finished answer is then right for what was lent at Start, provided it stays so until the last advance."
  pub outcomes : Undisturbed z x ds ys → CleanOutcomes x vs bs n ys

-- the same for any form of the calls: cs and xs are the calls and answers before the Start, ds and ys those after it
abbrev pub QuestionsAnswered : {Record : Type 0} → Record → (Record → Call → Answer → Record → Type 0) → Type 0
QuestionsAnswered fresh Step = (cs : List Call) (xs : List Answer) (x : Inputs) (vs bs : List ℕ) (n : ℕ) (ds : List Call) (ys : List Answer)
    → length cs ≡ length xs → History Step fresh (cs ++ (start x vs bs ∷ ds)) (xs ++ (parts n ∷ ys))
    → QuestionAnswered (reference_at new_reference cs xs).sizes x vs bs n ds ys

-- an outcome has this state, and this yes or no
abbrev pub Tells : ℕ → Bool → Outcome → Type 0
Tells q b o = (o.state ≡ q) × (o.yes ≡ b)
