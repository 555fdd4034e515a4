-- The step of an advance, by the record's head, and the record that is made of it.
--     mark-at                          the mark of a state, where the code reads it
--     handled-last, handled-more       the step of the last part, and of any other
--     step-stores                      it stores a state
--     chosen, not_chosen               the states that a branch left
--     refused-found, step-done         the promise of a refusal, and of the record made
use Prim.Native.Nat.{ℕ, ◌+◌, ◌*◌, ◌<◌}
use mathlib.Core.Path.{◌≡◌, refl, sym, subst}
use mathlib.Core.Bool.{Bool, true, false, cond}
use mathlib.Core.List.{List}
use lib.Dec.{eqb}
use lib.ListN.{get_or, drop, set}
use lib.Seq.{get_or-take, get_or-drop}
use borrow.Author.Tests.{eq-eqb, ne_eqb}
use Rattle.list_laws.proofs.BoolLaws.{true-false}
use Rattle.model.specs.Calls.{Call}
use Rattle.std.specs.Prelude.{Result, Ok, Err}
use Rattle.formats.specs.declared.refusals.Refusal.{Refusal}
use Rattle.session.specs.declared.answers.Progress.{Progress}
use Rattle.session.specs.declared.answers.Progress.TheVariants.{More, Finished}
use Rattle.session.specs.declared.state.Phase.TheVariants.{Running, Answered}
use Rattle.session.specs.declared.state.Last.{Last}
use Rattle.session.specs.declared.state.Head.{Head}
use Rattle.session.specs.declared.state.Session.{Session}
use Rattle.session.specs.declared.answers.AdvanceStep.{AdvanceStep}
use Rattle.session.specs.Records.{whole}
use Rattle.session.specs.Answers.{advance_answer}
use Rattle.session.specs.Promises.{CallDone}
use Rattle.session.specs.inner.Steps.{marked_in, stepped_head, answer_of, step_by, refused_step, stores_by, StepFound}

-- the mark of a state, where the code reads it
pub mark-at : (rules : List ℕ) (s k p q : ℕ) → p ≡ s * k * s → q < s
    → eqb (get_or rules (20 + k + p + q) 0) 1 ≡ marked_in s k rules q
mark-at rules s k p q e h =
    rw (e, get_or-take s (drop (20 + k + s * k * s) rules) q 0 h, get_or-drop (20 + k + s * k * s) rules q 0)

-- the last part, and any other
module _ (h : Head) (rules : List ℕ) (q l d : ℕ) (t : Head) where
  pub handled-last : h.handled + 1 ≡ h.parts → (y : Bool) (o : Last) → t ≡ stepped_head h Answered l d y o
      → y ≡ marked_in h.sizes.s h.sizes.k rules q → o ≡ answer_of h q l d y
      → ◌≡◌ {A = AdvanceStep} (record { answer = Ok Finished; head = t; stored = true; state = q }) (step_by h rules q l d)
  unfolding step_by
  handled-last e y o f g i = rw (eq-eqb (h.handled + 1) h.parts e, f, i, g)

  pub handled-more : (h.handled + 1 ≡ h.parts → ⊥) → t ≡ stepped_head h Running l d false h.last
      → ◌≡◌ {A = AdvanceStep} (record { answer = Ok More; head = t; stored = true; state = q }) (step_by h rules q l d)
  unfolding step_by
  handled-more e f = rw (ne_eqb (h.handled + 1) h.parts e, f)

-- a part's step stores its state
stores-of : (b : Bool) (u v : AdvanceStep) → u.stored ≡ stores_by u.answer → v.stored ≡ stores_by v.answer
    → (cond b u v).stored ≡ stores_by (cond b u v).answer
stores-of true u v e f = e
stores-of false u v e f = f

pub step-stores : (h : Head) (rules : List ℕ) (q l d : ℕ) (t : AdvanceStep) → t ≡ step_by h rules q l d
    → t.stored ≡ stores_by t.answer
unfolding step_by
step-stores h rules q l d t e =
    subst (λ (u : AdvanceStep). u.stored ≡ stores_by u.answer) (sym e)
    (stores-of (eqb (h.handled + 1) h.parts) _ _ refl refl)

-- ---- a step and the record that is made of it

-- the list that one arm of a branch left
module _ (b : Bool) (xs ys zs : List ℕ) where
  pub chosen : b ≡ true → zs ≡ xs → zs ≡ cond b xs ys
  chosen e f = rw e f

  pub not_chosen : b ≡ false → zs ≡ ys → zs ≡ cond b xs ys
  not_chosen e f = rw e f

module _ (s : Session) (c : Call) where
  pub refused-found : (r : Refusal) (t : AdvanceStep) → t ≡ refused_step s.head r → CallDone s c (advance_answer (Err r)) s
      → StepFound s c t
  refused-found r t e d =
      subst (λ (u : AdvanceStep). StepFound s c u) (sym e) (record { done = d; stores = refl; room = λ f. absurd (true-false (sym f)) })

  pub step-done : (t : AdvanceStep) → StepFound s c t → (qs : List ℕ)
      → qs ≡ cond t.stored (set s.states s.head.handled t.state) s.states
      → CallDone s c (advance_answer t.answer) (whole t.head s.nodes s.labels s.roots qs)
  step-done t f qs e =
      subst (λ (l : List ℕ). CallDone s c (advance_answer t.answer) (whole t.head s.nodes s.labels s.roots l))
      (sym e) f.done
