-- A question that is started with an answer kept is answered call by call as in a new session.
--     act-but-last      one call on two records that differ in the last finished answer alone
--     kept-as-anew      so lists of calls, from two such records
--     as-anew           after an accepted Cancel, and after a first Load with the same N, S and K
--     anew-of           it passes on to every form of the calls
use Prim.Native.Nat.{ℕ, zero, suc}
use mathlib.Core.Path.{◌≡◌, refl, sym, ap, ap₂, ◌∙◌, subst}
use mathlib.Core.Bool.{Bool, true, false, cond}
use mathlib.Core.List.{List, [], ◌∷◌, ◌++◌}
use mathlib.Core.Option.{Option, none, some}
use native.Mathlib.Omega.{arith}
use lib.Dec.{eqb}
use lib.ListN.{length, get_or}
use Rattle.list_laws.proofs.BoolLaws.{true-false}
use Rattle.tables.specs.declared.answers.Reached.{Reached}
use Rattle.formats.specs.Inputs.{Inputs, Sizes, sizes_in}
use Rattle.model.specs.Calls.{Call, load, start, advance, cancel, read, Answer, more, finished, Outcome, Phase, is_refused}
use Rattle.model.specs.Refusals.{refusal}
use Rattle.model.specs.History.{History, done, call}
use Rattle.model.specs.Model.{Record, stage_of, Acted, acted, fresh_record, loaded_record, with_last, stepped, advance_with}
use Rattle.model.specs.Model.{marks_by, part_next, proceeds, unless, act, Does}
use Rattle.model.proofs.Facts.{Layers}
use Rattle.model.proofs.Refinement.{Refines, refines}
use Rattle.reference.specs.Reference.{Reference, new_reference, step}
use Rattle.reference.specs.Demand3.{after}
use Rattle.reference.specs.Undisturbed.{reference_at}
use Rattle.reference.specs.Lasting.{replaces, SameUnlessRead, SameButReads, AsAnew}
use Rattle.reference.proofs.Relation.{Rel}
use Rattle.reference.proofs.Demand3Theorem.{simulates, at_first}

-- ---- one call

-- a: the call on the record with the last finished answer o; b: on a record that differs in that answer alone
record ButLast (o : Option Outcome) (c : Call) (a b : Acted) : Type 0 where
  tells : SameUnlessRead c a.answer b.answer
  same : replaces c a.answer ≡ true → a.record' ≡ b.record'
  kept : replaces c a.answer ≡ false → a.record' ≡ with_last o b.record'

read_stays : (r : Record) → (act r read).record' ≡ r
unfolding act unless proceeds
read_stays r = go (refusal (stage_of r) read)
  where
    go : (n : ℕ) → (unless n r read).record' ≡ r
    go zero = refl
    go (suc n) = refl

module _ (o : Option Outcome) (r : Record) where
  advance-but : (x : Inputs) (w : Option Reached) → ButLast o (advance x) (advance_with (with_last o r) x w) (advance_with r x w)
  unfolding advance_with stepped
  advance-but x none = record { tells = refl; same = λ e. absurd (true-false (sym e)); kept = λ e. refl }
  advance-but x (some y) = go (eqb (suc (length r.states)) (length r.roots))
    where
      yes : Bool
      yes = eqb (get_or (marks_by r.sizes x) y.state 0) 1

      go : (t : Bool) → ButLast o (advance x)
          (cond t (acted finished (stepped (with_last o r) Phase.answered y yes)) (acted more (stepped (with_last o r) Phase.running y false)))
          (cond t (acted finished (stepped r Phase.answered y yes)) (acted more (stepped r Phase.running y false)))
      go true = record { tells = refl; same = λ e. refl; kept = λ e. absurd (true-false e) }
      go false = record { tells = refl; same = λ e. absurd (true-false (sym e)); kept = λ e. refl }

  act-but-last : (c : Call) → ButLast o c (act (with_last o r) c) (act r c)
  unfolding act unless proceeds refusal
  act-but-last (load x) = go (refusal (stage_of r) (load x))
    where
      go : (n : ℕ) → ButLast o (load x) (unless n (with_last o r) (load x)) (unless n r (load x))
      go zero = record { tells = refl; same = λ e. refl; kept = λ e. absurd (true-false e) }
      go (suc n) = record { tells = refl; same = λ e. absurd (true-false (sym e)); kept = λ e. refl }
  act-but-last (start x vs bs) = go (refusal (stage_of r) (start x vs bs))
    where
      go : (n : ℕ) → ButLast o (start x vs bs) (unless n (with_last o r) (start x vs bs)) (unless n r (start x vs bs))
      go zero = record { tells = refl; same = λ e. absurd (true-false (sym e)); kept = λ e. refl }
      go (suc n) = record { tells = refl; same = λ e. absurd (true-false (sym e)); kept = λ e. refl }
  act-but-last (advance x) = go (refusal (stage_of r) (advance x))
    where
      go : (n : ℕ) → ButLast o (advance x) (unless n (with_last o r) (advance x)) (unless n r (advance x))
      go zero = advance-but x (part_next r x)
      go (suc n) = record { tells = refl; same = λ e. absurd (true-false (sym e)); kept = λ e. refl }
  act-but-last cancel = go (refusal (stage_of r) cancel)
    where
      go : (n : ℕ) → ButLast o cancel (unless n (with_last o r) cancel) (unless n r cancel)
      go zero = record { tells = refl; same = λ e. absurd (true-false (sym e)); kept = λ e. refl }
      go (suc n) = record { tells = refl; same = λ e. absurd (true-false (sym e)); kept = λ e. refl }
  act-but-last read = record {
    tells = tt;
    same = λ e. absurd (true-false (sym e));
    kept = λ e. read_stays (with_last o r) ∙ sym (ap (with_last o) (read_stays r));
  }

-- ---- lists of calls

-- a record and the calls settle the answers
same-answers : (r : Record) (cs : List Call) (xs ys : List Answer) → History Does r cs xs → History Does r cs ys → xs ≡ ys
same-answers r [] [] [] done done = refl
same-answers r (c ∷ cs) (a ∷ xs) (b ∷ ys) (call {r'} d h) (call {r' = r''} e k) =
    ap₂ (λ (z : Answer) (zs : List Answer). z ∷ zs) (d.tells ∙ sym e.tells)
    (same-answers r'' cs xs ys (subst (λ (t : Record). History Does t cs xs) (d.leaves ∙ sym e.leaves) h) k)
same-answers r [] [] (b ∷ ys) _ h = elim h [ ]
same-answers r [] (a ∷ xs) ys h _ = elim h [ ]
same-answers r (c ∷ cs) [] ys h _ = elim h [ ]
same-answers r (c ∷ cs) (a ∷ xs) [] _ h = elim h [ ]

pub kept-as-anew : (o : Option Outcome) (r : Record) (cs : List Call) (xs ys : List Answer) → History Does (with_last o r) cs xs
    → History Does r cs ys → SameButReads cs xs ys
kept-as-anew o r [] xs ys h k = tt
kept-as-anew o r (c ∷ cs) (a ∷ xs) (b ∷ ys) (call {r'} d h) (call {r' = r''} e k) =
    let B = act-but-last o r c in (
      rw (d.tells, e.tells) B.tells,
      λ f. same-answers r'' cs xs ys
          (subst (λ (t : Record). History Does t cs xs)
          (d.leaves ∙ B.same (sym (ap (replaces c) d.tells) ∙ f) ∙ sym e.leaves) h) k,
      λ f. kept-as-anew o (act r c).record' cs xs ys
          (subst (λ (t : Record). History Does t cs xs) (d.leaves ∙ B.kept (sym (ap (replaces c) d.tells) ∙ f)) h)
          (subst (λ (t : Record). History Does t cs ys) e.leaves k),
    )
kept-as-anew o r (c ∷ cs) [] ys h k = elim h [ ]
kept-as-anew o r (c ∷ cs) (a ∷ xs) [] h k = elim k [ ]

-- ---- after a Cancel, and after a first Load

-- the record that a list of calls leaves, related to the reference model then
reached : Layers → (r : Record) (b : Reference) → Rel r b → (cs ds : List Call) (xs ys : List Answer) → length cs ≡ length xs
    → History Does r (cs ++ ds) (xs ++ ys) → (r' : Record) × Rel r' (reference_at b cs xs) × History Does r' ds ys
reached L r b i [] ds [] ys e h = (r, i, h)
reached L r b i [] ds (a ∷ xs) ys e h = absurd (omega arith)
reached L r b i (c ∷ cs) ds [] ys e h = absurd (omega arith)
reached L r b i (c ∷ cs) ds (a ∷ xs) ys e (call {r'} d h) =
    reached L r' (after (step b c) a) (simulates L c r r' b a i d).1 cs ds xs ys (omega arith) h

cancel-leaves : (r r' : Record) → Does r cancel Answer.accepted r' → r' ≡ with_last r.last (loaded_record r.sizes)
unfolding act unless proceeds
cancel-leaves r r' d = go (refusal (stage_of r) cancel) d.tells d.leaves
  where
    go : (n : ℕ) → Answer.accepted ≡ (unless n r cancel).answer → r' ≡ (unless n r cancel).record'
        → r' ≡ with_last r.last (loaded_record r.sizes)
    go zero e f = f
    go (suc n) e f = absurd (true-false (sym (ap is_refused e)))

load-leaves : (r r' : Record) (x : Inputs) → Does r (load x) Answer.accepted r' → r' ≡ loaded_record (sizes_in x)
unfolding act unless proceeds
load-leaves r r' x d = go (refusal (stage_of r) (load x)) d.tells d.leaves
  where
    go : (n : ℕ) → Answer.accepted ≡ (unless n r (load x)).answer → r' ≡ (unless n r (load x)).record' → r' ≡ loaded_record (sizes_in x)
    go zero e f = f
    go (suc n) e f = absurd (true-false (sym (ap is_refused e)))

from-cancel : (r : Record) (ds : List Call) (ys : List Answer) → History Does r (cancel ∷ ds) (Answer.accepted ∷ ys)
    → History Does (with_last r.last (loaded_record r.sizes)) ds ys
from-cancel r ds ys (call {r'} d h) = subst (λ (t : Record). History Does t ds ys) (cancel-leaves r r' d) h

from-load : (r : Record) (x : Inputs) (ds : List Call) (ys : List Answer) → History Does r (load x ∷ ds) (Answer.accepted ∷ ys)
    → History Does (loaded_record (sizes_in x)) ds ys
from-load r x ds ys (call {r'} d h) = subst (λ (t : Record). History Does t ds ys) (load-leaves r r' x d) h

pub as-anew : Layers → AsAnew fresh_record Does
as-anew L cs xs x ds ys zs same sizes h k =
    let R = reached L fresh_record new_reference at_first cs (cancel ∷ ds) xs (Answer.accepted ∷ ys) same h in
    let r : Record = R.0 in
    kept-as-anew r.last (loaded_record (sizes_in x)) ds ys zs
    (subst (λ (z : Sizes). History Does (with_last r.last (loaded_record z)) ds ys) (R.1.sizes ∙ sym sizes) (from-cancel r ds ys R.2))
    (from-load fresh_record x ds zs k)

module _ {A B : Type 0} (StepA : A → Call → Answer → A → Type 0) (StepB : B → Call → Answer → B → Type 0) (SampleRun : A → B → Type 0) where
  pub anew-of : Refines StepA StepB SampleRun → (a : A) (b : B) → SampleRun a b → AsAnew b StepB → AsAnew a StepA
  anew-of f a b i q cs xs x ds ys zs l s h k =
      q cs xs x ds ys zs l s (refines StepA StepB SampleRun f a b _ _ i h) (refines StepA StepB SampleRun f a b _ _ i k)
