-- What is decoded of a call is its answer: number and values determine it.
--     decoded-load .. decoded-read   of the model's calls (crate model)
use Prim.Native.Nat.{ℕ, zero, suc}
use mathlib.Core.Path.{◌≡◌, refl}
use mathlib.Core.Bool.{Bool, true, false, cond}
use mathlib.Core.Option.{Option, none, some}
use mathlib.Core.List.{List}
use lib.Dec.{eqb}
use lib.ListN.{length, get_or}
use Rattle.tables.specs.declared.answers.Reached.{Reached}
use Rattle.formats.specs.Inputs.{Inputs}
use Rattle.model.specs.Calls.{load, start, advance, cancel, read, Answer, more, finished}
use Rattle.model.specs.Calls.{Outcome, outcome_answer}
use Rattle.model.specs.Calls.{Phase}
use Rattle.model.specs.Refusals.{refusal}
use Rattle.model.specs.Model.{stage_of}
use Rattle.model.specs.Model.{Record, Acted, acted, stepped, marks_by, proceeds, unless, act}
use Rattle.model.specs.Model.{advance_with, last_answer}
use Rattle.capi_session.specs.SessionExported.{answer_number, parts_of, finished_of, Places, answered_places}
use Rattle.capi_session.specs.DecodedAnswers.{decoded_done, decoded_start, decoded_advance, decoded_read}

abbrev DoneDecoded : Answer → Type 0
DoneDecoded a = decoded_done (answer_number a) ≡ a

abbrev StartDecoded : ℕ → Answer → Type 0
StartDecoded p a = decoded_start (answer_number a) (parts_of a p) ≡ a

abbrev AdvanceDecoded : ℕ → Answer → Type 0
AdvanceDecoded f a = decoded_advance (answer_number a) (finished_of a f) ≡ a

abbrev ReadDecoded : Places → Answer → Type 0
ReadDecoded q a = decoded_read (answer_number a) (answered_places a q) ≡ a

module _ (r : Record) where
  pub decoded-load : (x : Inputs) → DoneDecoded (act r (load x)).answer
  unfolding act unless proceeds decoded_done answer_number
  decoded-load x = go (refusal (stage_of r) (load x))
    where
      go : (n : ℕ) → DoneDecoded (unless n r (load x)).answer
      go zero = refl
      go (suc n) = refl

  pub decoded-cancel : DoneDecoded (act r cancel).answer
  unfolding act unless proceeds decoded_done answer_number
  decoded-cancel = go (refusal (stage_of r) cancel)
    where
      go : (n : ℕ) → DoneDecoded (unless n r cancel).answer
      go zero = refl
      go (suc n) = refl

  pub decoded-start : (p : ℕ) (x : Inputs) (vs bs : List ℕ) → StartDecoded p (act r (start x vs bs)).answer
  unfolding act unless proceeds decoded_start answer_number parts_of
  decoded-start p x vs bs = go (refusal (stage_of r) (start x vs bs))
    where
      go : (n : ℕ) → StartDecoded p (unless n r (start x vs bs)).answer
      go zero = refl
      go (suc n) = refl

  either : (f : ℕ) (b : Bool) (u v : Acted) → AdvanceDecoded f u.answer → AdvanceDecoded f v.answer
      → AdvanceDecoded f (cond b u v).answer
  either f true u v e g = e
  either f false u v e g = g

  advanced : (f : ℕ) (x : Inputs) (o : Option Reached) → AdvanceDecoded f (advance_with r x o).answer
  unfolding advance_with decoded_advance answer_number finished_of
  advanced f x none = refl
  advanced f x (some y) =
      either f (eqb (suc (length r.states)) (length r.roots))
      (acted finished (stepped r Phase.answered y (eqb (get_or (marks_by r.sizes x) y.state 0) 1)))
      (acted more (stepped r Phase.running y false)) refl refl

  pub decoded-advance : (f : ℕ) (x : Inputs) → AdvanceDecoded f (act r (advance x)).answer
  unfolding act unless proceeds decoded_advance answer_number finished_of
  decoded-advance f x = go (refusal (stage_of r) (advance x))
    where
      go : (n : ℕ) → AdvanceDecoded f (unless n r (advance x)).answer
      go zero = advanced f x _
      go (suc n) = refl

  reading : (q : Places) (s p l d : ℕ) (y : Bool) → ReadDecoded q (outcome_answer s y p l d)
  unfolding decoded_read answer_number answered_places
  reading q s p l d true = refl
  reading q s p l d false = refl

  reading-last : (q : Places) (o : Option Outcome) → ReadDecoded q (last_answer o)
  unfolding decoded_read answer_number answered_places
  reading-last q none = refl
  reading-last q (some o) = reading q o.state o.parts o.links o.passed o.yes

  pub decoded-read : (q : Places) → ReadDecoded q (act r read).answer
  unfolding act unless proceeds decoded_read answer_number answered_places
  decoded-read q = go (refusal (stage_of r) read)
    where
      go : (n : ℕ) → ReadDecoded q (unless n r read).answer
      go zero = reading-last q r.last
      go (suc n) = refl
