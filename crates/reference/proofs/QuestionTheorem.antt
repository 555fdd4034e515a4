-- The further statements of demand 3, about what the calls answer of one question.
--     question-answered   QuestionAnswered holds in every history from a fresh record
--     questions-of        and passes on to every form of the calls
--     outcome-order       and does not depend on the order of the list
-- Refused calls may come between; a Cancel may not.
use Prim.Native.Nat.{ℕ, zero, suc, ◌*◌, ◌≤◌}
use mathlib.Core.Path.{◌≡◌, refl, sym, ap, ◌∙◌, subst}
use mathlib.Core.Bool.{true}
use mathlib.Core.List.{List, [], ◌∷◌, ◌++◌, zip, Permᴰ}
use native.Mathlib.Omega.{arith}
use lib.ListN.{length}
use Rattle.trees.specs.Tree.{height}
use Rattle.trees.specs.Climb.{digits}
use Rattle.list_laws.specs.Tests.{distinct}
use Rattle.formats.specs.Plan.{plan_tree, labels_within}
use Rattle.list_laws.proofs.BoolLaws.{true-false}
use Rattle.changes.specs.Differing.{differing}
use Rattle.formats.specs.Inputs.{Inputs, Sizes}
use Rattle.model.specs.Calls.{Call, start, Answer, parts, Outcome, outcome, on_outcome, is_refused}
use Rattle.model.specs.Refusals.{refusal}
use Rattle.reference.specs.Reference.{Question, Reference, stage_of, in_state, left_of}
use Rattle.reference.specs.Reference.{new_reference, step, decided, proceed, part_count, fresh_answer, asked, starting}
use Rattle.reference.specs.Demand3.{Conforms, after, Agrees}
use Rattle.model.specs.History.{History}
use Rattle.model.specs.Model.{fresh_record, Does}
use Rattle.reference.specs.Undisturbed.{reference_at}
use Rattle.reference.specs.Undisturbed.{EveryOutcomeAfter, OnlyOutcomeAfter}
use Rattle.model.proofs.Facts.{Layers}
use Rattle.reference.proofs.StartSimulation.{some-part}
use Rattle.model.proofs.ModelLaws.{start-list, start-sound, start-built, left_below}
use Rattle.model.proofs.SoundLaws.{sound-yes}
use Rattle.reference.proofs.Demand3Theorem.{demand_3}
use Rattle.model.proofs.Refinement.{Refines, refines}
use Rattle.reference.proofs.Ceilings.{ready-count, parts-never-rise, question-links, nodes-passed}
use Rattle.reference.specs.Outcomes.{Few}
use Rattle.reference.proofs.UndisturbedLaws.{going, UndisturbedFrom, agrees-split, undisturbed, after_map}
use Rattle.reference.proofs.OrderLaws.{left-order, roots-order, parts-order, fresh-order}
use Rattle.reference.specs.Outcomes.{CleanOutcomes, QuestionAnswered, QuestionsAnswered}

-- ---- the Start

module _ (b : Reference) (x : Inputs) (vs bs : List ℕ) (n : ℕ) where
  parts-in : (m : ℕ) → parts n ≡ parts m → n ≡ m
  parts-in m e = cc

  -- no check refused it
  pub passed : Conforms (step b (start x vs bs)) (parts n) → refusal (stage_of b) (start x vs bs) ≡ 0
  unfolding step decided
  passed e = go (refusal (stage_of b) (start x vs bs)) e
    where
      go : (m : ℕ) → Conforms (decided m b (start x vs bs)) (parts n) → m ≡ 0
      go zero e = refl
      go (suc m) e = absurd (true-false (sym (ap is_refused e)))

  -- n is the number of parts, and the question runs
  pub begun : Conforms (step b (start x vs bs)) (parts n)
      → (n ≡ part_count (asked x vs bs)) × (after (step b (start x vs bs)) (parts n) ≡ going b.sizes b.last (asked x vs bs) 0 [])
  unfolding step decided proceed starting in_state
  begun = go (refusal (stage_of b) (start x vs bs))
    where
      go : (m : ℕ) → Conforms (decided m b (start x vs bs)) (parts n)
          → (n ≡ part_count (asked x vs bs)) × (after (decided m b (start x vs bs)) (parts n) ≡ going b.sizes b.last (asked x vs bs) 0 [])
      go zero e = (parts-in (part_count (asked x vs bs)) e, refl)
      go (suc m) e = absurd (true-false (sym (ap is_refused e)))

-- ---- what Reads return

links_in : Answer → ℕ
links_in a = on_outcome (λ o. o.links) 0 a

parts_in : Answer → ℕ
parts_in a = on_outcome (λ o. o.parts) 0 a

few-links : (d : ℕ) (a : Answer) → links_in a ≤ parts_in a * d → (ys : List Answer) → OnlyOutcomeAfter a ys
    → EveryOutcomeAfter (λ o. o.links ≤ o.parts * d) ys
unfolding links_in parts_in
few-links d a h ys only =
    after_map (λ (o : Outcome). outcome o ≡ a) (λ (o : Outcome). o.links ≤ o.parts * d)
    (λ o e. subst (λ (c : Answer). links_in c ≤ parts_in c * d) (sym e) h) ys only

passed_in : Answer → ℕ
passed_in a = on_outcome (λ o. o.passed) 0 a

some-passed : (a : Answer) → links_in a ≤ passed_in a → (ys : List Answer) → OnlyOutcomeAfter a ys
    → EveryOutcomeAfter (λ o. o.links ≤ o.passed) ys
unfolding links_in passed_in
some-passed a h ys only =
    after_map (λ (o : Outcome). outcome o ≡ a) (λ (o : Outcome). o.links ≤ o.passed)
    (λ o e. subst (λ (c : Answer). links_in c ≤ passed_in c) (sym e) h) ys only

few-passed : (d : ℕ) (a : Answer) → passed_in a ≤ parts_in a * d → (ys : List Answer) → OnlyOutcomeAfter a ys
    → EveryOutcomeAfter (λ o. o.passed ≤ o.parts * d) ys
unfolding passed_in parts_in
few-passed d a h ys only =
    after_map (λ (o : Outcome). outcome o ≡ a) (λ (o : Outcome). o.passed ≤ o.parts * d)
    (λ o e. subst (λ (c : Answer). passed_in c ≤ parts_in c * d) (sym e) h) ys only

fresh-passed : (q : Question) → (links_in (fresh_answer q) ≤ passed_in (fresh_answer q))
    × (passed_in (fresh_answer q) ≤ parts_in (fresh_answer q) * height (plan_tree q.inputs.plan))
unfolding links_in parts_in passed_in fresh_answer
fresh-passed q = nodes-passed (plan_tree q.inputs.plan) (left_of q)

fresh-few : (q : Question) → links_in (fresh_answer q) ≤ parts_in
    (fresh_answer q) * (3 * digits (height (plan_tree q.inputs.plan)))
unfolding links_in parts_in fresh_answer
fresh-few q = question-links (plan_tree q.inputs.plan) (left_of q)

-- ---- the statements

module _ (L : Layers) (cs : List Call) (xs : List Answer) (x : Inputs) (vs bs : List ℕ) (n : ℕ) (ds : List Call)
    (ys : List Answer) where
  -- the N, S and K of the last accepted Load before this Start
  abbrev pub sizes_before : Sizes
  sizes_before = (reference_at new_reference cs xs).sizes

  pub question-answered : length cs ≡ length xs
      → History Does fresh_record (cs ++ (start x vs bs ∷ ds)) (xs ++ (parts n ∷ ys)) → QuestionAnswered sizes_before x vs bs n ds ys
  question-answered same h =
      let b : Reference = reference_at new_reference cs xs in
      let A = agrees-split new_reference cs (start x vs bs ∷ ds) xs (parts n ∷ ys) same (demand_3 L _ _ h) in
      let p = passed b x vs bs n A.0 in
      let B = begun b x vs bs n A.0 in
      record {
        started_sound = sound-yes sizes_before x (start-sound (stage_of b) x vs bs p);
        outcomes = λ alone.
            let K : UndisturbedFrom (asked x vs bs) 0 ys =
            undisturbed sizes_before b.last (asked x vs bs) 0 [] (some-part (asked x vs bs)) ds ys
            (subst (λ (b : Reference). Agrees b ds ys) B.1 A.1) alone in
            record {
              parts_are = B.0;
              few = subst (Few (length (differing (labels_within x.plan) vs bs))) (sym B.0)
                  (ready-count L sizes_before x (differing (labels_within x.plan) vs bs) (start-built (stage_of b) x vs bs p)
                  (left_below x sizes_before.n sizes_before.k vs bs (start-list (stage_of b) x vs bs p)));
              never_more = omega (arith, B.0, parts-never-rise (asked x vs bs));
              exact = λ m e. omega (arith, K.exact m e, B.0);
              unfinished = λ e. omega (arith, K.unfinished e, B.0);
              most = omega (arith, K.most, B.0);
              only = K.only;
              links = few-links (3 * digits (height (plan_tree x.plan))) (fresh_answer (asked x vs bs))
                  (fresh-few (asked x vs bs)) ys K.only;
              passed_least = some-passed (fresh_answer (asked x vs bs)) (fresh-passed (asked x vs bs)).0 ys K.only;
              passed_most = few-passed (height (plan_tree x.plan)) (fresh_answer (asked x vs bs)) (fresh-passed (asked x vs bs)).1 ys
                  K.only;
            };
      }

-- where no node is listed twice, the answers do not depend on the order of the list
pub outcome-order : (x : Inputs) (vs bs ws cs : List ℕ) → length vs ≡ length bs → length ws ≡ length cs
    → Permᴰ (zip vs bs) (zip ws cs)
    → distinct vs ≡ true → (n : ℕ) (ys : List Answer) → CleanOutcomes x vs bs n ys → CleanOutcomes x ws cs n ys
outcome-order x vs bs ws cs g h d u n ys T = record {
  parts_are = T.parts_are ∙ parts-order vs bs ws cs g h d (asked x vs bs) (asked x ws cs) refl refl refl refl
      refl u;
  few = subst (λ (l : List ℕ). Few (length l) n) (left-order vs bs ws cs g h d u (labels_within x.plan)) T.few;
  never_more = omega (arith, T.never_more, ap length (roots-order vs bs ws cs g h d (plan_tree x.plan)));
  exact = T.exact;
  unfinished = T.unfinished;
  most = T.most;
  only =
      subst (λ (a : Answer). OnlyOutcomeAfter a ys)
      (fresh-order vs bs ws cs g h d (asked x vs bs) (asked x ws cs) refl refl refl refl refl u) T.only;
  links = T.links;
  passed_least = T.passed_least;
  passed_most = T.passed_most;
}

-- it passes on to every form of the calls that refines this one
module _ {A B : Type 0} (StepA : A → Call → Answer → A → Type 0) (StepB : B → Call → Answer → B → Type 0) (SampleRun : A → B → Type 0) where
  pub questions-of : Refines StepA StepB SampleRun → (a : A) (b : B) → SampleRun a b → QuestionsAnswered b StepB → QuestionsAnswered a StepA
  questions-of f a b i q cs xs x vs bs n ds ys l h = q cs xs x vs bs n ds ys l (refines StepA StepB SampleRun f a b _ _ i h)
