-- The promises of roots and part, from the named result that the code gives.
--     all_small      numbers below n, one by one
--     roots-done     roots
--     part-done      part
use Rattle.std.proofs.Common.{◌≡◌, ℕ, suc, ◌<◌, ◌≤◌, Bool, true, false, ◌&&◌, ltb, List, [], ◌∷◌, ◌++◌, length, get_or, take, drop, sym, refl, ap, ◌∙◌, ap₂, inl, inr, arith, take-append-drop, drop-cons, ltb-true}
use mathlib.Core.List.Memᴰ
use mathlib.Core.List.{Memᴰ}
use mathlib.Core.Option.{Option, none, some}
use Rattle.trees.specs.Tree.{Tree, size}
use Rattle.list_laws.specs.Tests.{all_below, holds}
use Rattle.formats.specs.Rules.{rule_length}
use Rattle.formats.specs.Buffers.{limits_fit, buffers_fit}
use Rattle.list_laws.proofs.BoolLaws.{and_right}
use Rattle.tables.specs.node_tables.NodeCells.{NodeCells}
use Rattle.tables.specs.node_tables.OutOfRange.{NodeTableOutOfRange}
use Rattle.tables.specs.declared.answers.Climbed.{Climbed}
use Rattle.tables.specs.declared.answers.Reached.{Reached}
use Rattle.tables.specs.Climbs.{reached, climbed_of, climbed_number}
use Rattle.questions.specs.ready.Members as members
use Rattle.questions.specs.ready.Parts.{Given, Part, nodes_of, part_state, part_links, part_passed}
use Rattle.questions.proofs.ready.PartsRun.{Members}
use Rattle.questions.proofs.ready.ListLaws.{list-members}
use Rattle.questions.specs.declared.roots.Rooted.{Rooted}
use Rattle.questions.specs.Part.{part_on}
use Rattle.questions.specs.Roots.{roots_on}
use Rattle.questions.specs.RootsAnswers.{roots_fit, roots_given, rooted_of}
use Rattle.questions.specs.PartAnswers.{asked_fits, part_fits, part_given, view_in}
use Rattle.questions.specs.OutOfRange.{PartOutOfRange}
use Rattle.questions.specs.Promises.{number_for, rooted_number, RootsDone, Asked, PartDone}
use Rattle.questions.proofs.FitLaws.{fit-facts, given_yes, given-are}
use Rattle.questions.proofs.ListedLaws.{given-listed}
use Rattle.questions.proofs.PartBounds.{part_given-below, part-links, part-links-passed, part-passed}
use Rattle.questions.proofs.PartFits as fits
use Rattle.questions.proofs.PartFits.{asked-are}
use Rattle.questions.proofs.RootsBuilt.{roots-built}
use Rattle.questions.proofs.PartBuilt.{part-built}
use Rattle.questions.proofs.RootsRange.{roots-out-of-range}
use Rattle.questions.proofs.PartRange.{part-out-of-range}

pub all_small : (n : ℕ) (vs : List ℕ) → all_below n vs ≡ true → (v : ℕ) → Memᴰ v vs → v < n
unfolding all_below
all_small n [] e v m = absurd (Memᴰ.not-nil m)
all_small n (x ∷ vs) e v m = go (ltb x n) refl e (all_small n vs)
  where
    go : (b : Bool) → ltb x n ≡ b → (b && all_below n vs) ≡ true → (all_below n vs ≡ true → (v : ℕ) → Memᴰ v vs → v < n) → v < n
    go true q f ih = elim (Memᴰ.cases_cons m) [ inl z ↦ omega (arith, ltb-true x n q) | inr k ↦ ih f v k ]
    go false q f ih = absurd (let z : ◌≡◌ {A = ℕ} 0 1 = cc in omega arith)

-- ---- roots

module _ (n : ℕ) (node_table vs : List ℕ) where
  built : (t : Tree) → NodeCells t node_table → n ≡ size t → roots_fit n (length node_table) vs ≡ true
      → roots_given n node_table vs ≡ some (members.roots t vs)
  built t L e f =
      given_yes n node_table vs f
      ∙ ap (λ (m : ℕ). roots_on m node_table vs) e
      ∙ roots-built t node_table L vs (λ v m. omega (arith, e, all_small n vs (fit-facts n (length node_table) vs f).below v m))

  rooted-number : (o : Option (List ℕ)) → rooted_number (rooted_of o) ≡ number_for o
  unfolding rooted_number number_for
  rooted-number none = refl
  rooted-number (some l) = refl

  roots-18 : roots_fit n (length node_table) vs ≡ true → (o : Option (List ℕ)) → roots_given n node_table vs ≡ o
      → number_for o ≡ 18 → NodeTableOutOfRange n node_table
  unfolding number_for
  roots-18 f none g e =
      let F = fit-facts n (length node_table) vs f in
      roots-out-of-range n node_table vs (omega (arith, F.least)) F.below (sym (given_yes n node_table vs f) ∙ g)
  roots-18 f (some l) g e = absurd (omega (arith, e))

  pub roots-done : (r : Rooted) → r ≡ rooted_of (roots_given n node_table vs) → RootsDone n node_table vs r
  roots-done r e = record {
    result = e;
    number = ap rooted_number e ∙ rooted-number (roots_given n node_table vs);
    out_of_range = λ f i. roots-18 f (roots_given n node_table vs) refl (sym (rooted-number (roots_given n node_table vs)) ∙ sym (ap rooted_number e) ∙ i);
    few = given-are n node_table vs;
    listed = given-listed n node_table vs;
    built = λ t L m f. e ∙ ap rooted_of (built t L m f);
  }

-- ---- part

module _ (n s k : ℕ) (plan rules node_table state_table roots states vs bs : List ℕ) where
  -- the roots are those of the parts before, the next one, and the rest
  cut : (ps : List Part) → nodes_of ps ≡ take (length states) roots → length states < length roots
      → nodes_of ps ++ (get_or roots (length states) 0 ∷ drop (suc (length states)) roots) ≡ roots
  cut ps e l =
      ap₂ (λ (a b : List ℕ). a ++ b) e (sym (drop-cons roots (length states) 0 l))
      ∙ take-append-drop (length states) roots

  asked_of : part_fits n s k plan rules node_table state_table roots states vs bs ≡ true → fits.Asked n roots states vs bs
  unfolding part_fits
  asked_of e =
      let lengths = buffers_fit n s (rule_length s k) (length plan) (length rules) (length node_table) (length state_table) in
      let asked = asked_fits n roots states vs bs in
      asked-are n roots states vs bs (and_right lengths asked (and_right (limits_fit n s k) (lengths && asked) e))

  part-18 : part_fits n s k plan rules node_table state_table roots states vs bs ≡ true → (o : Option Reached)
      → part_given n s k plan rules node_table state_table roots states vs bs ≡ o → number_for o ≡ 18
      → PartOutOfRange (view_in n s k plan rules node_table state_table) states vs bs
  unfolding number_for part_given
  part-18 f none g e =
      part-out-of-range (view_in n s k plan rules node_table state_table) states vs bs (take (length states) roots) (get_or roots (length states) 0)
      (asked_of f).inside (rw f at g)
  part-18 f (some x) g e = absurd (omega (arith, e))

  by-rule : (G : Given) (ps : List Part) → Asked n s k plan rules node_table state_table roots states vs bs G ps
      → part_given n s k plan rules node_table state_table roots states vs bs
      ≡ some (reached (part_state G roots ps (get_or roots (length states) 0)) (part_links G.tree roots (get_or roots (length states) 0))
      (part_passed G.tree roots (get_or roots (length states) 0)))
  unfolding part_given members.roots
  by-rule G ps A =
      let w : ℕ → Bool = λ v. holds v A.listed in
      let M : Members w G.tree roots = rw A.ready (list-members w G.tree) in
      let v = get_or roots (length states) 0 in
      rw A.fits
      (ap₂ (λ (es qs : List ℕ). part_on (view_in n s k plan rules node_table state_table) es qs vs bs v) (sym A.before) (sym A.states_are)
      ∙ part-built (view_in n s k plan rules node_table state_table) G A.reads w roots M ps v (drop (suc (length states)) roots)
      (cut ps A.before (asked_of A.fits).root) A.below vs bs A.labels)

  reached-number : (o : Option Reached) → climbed_number (climbed_of o) ≡ number_for o
  unfolding climbed_number climbed_of number_for
  reached-number none = refl
  reached-number (some x) = refl

  -- where the node table's numbers have 16 bits
  pub part-done : ((j : ℕ) → get_or node_table j 0 ≤ 65535) → (r : Climbed)
      → r ≡ climbed_of (part_given n s k plan rules node_table state_table roots states vs bs)
      → PartDone n s k plan rules node_table state_table roots states vs bs r
  unfolding climbed_of
  part-done b r e = record {
    result = e;
    number = ap climbed_number e ∙ reached-number (part_given n s k plan rules node_table state_table roots states vs bs);
    out_of_range = λ f i. part-18 f (part_given n s k plan rules node_table state_table roots states vs bs) refl
        (sym (reached-number (part_given n s k plan rules node_table state_table roots states vs bs)) ∙ sym (ap climbed_number e) ∙ i);
    state_below = λ x f. part_given-below n s k plan rules node_table state_table roots states vs bs x f;
    links_most = λ x f. part-links n s k plan rules node_table state_table roots states vs bs x f;
    links_passed = λ x f. part-links-passed n s k plan rules node_table state_table roots states vs bs x f;
    passed_most = λ x f. part-passed n s k plan rules node_table state_table roots states vs bs x f b;
    rule = λ G ps A. e ∙ ap climbed_of (by-rule G ps A);
  }
