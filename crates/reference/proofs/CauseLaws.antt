-- A value that is out of range is a cause for 18, as the reference model requires one.
--     links-cause, view-cause      of the node table, and of all that an advance reads
--     advance-cause                so 18 is an answer to an advance that the reference model allows
use Prim.Native.Nat.{ℕ, ◌+◌, ◌-◌, ◌*◌, ◌<◌}
use mathlib.Core.Path.{◌≡◌, refl, sym, ap, ◌∙◌, subst}
use mathlib.Core.Bool.{Bool, true, not, ◌&&◌, ◌||◌}
use mathlib.Core.List.{List}
use mathlib.Core.Logic.{◌⊎◌, inl, inr}
use native.Mathlib.Omega.{arith}
use lib.Dec.{leb, ltb, eqb}
use lib.ListN.{get_or}
use borrow.Author.Tests.{le-leb, lt-ltb, eq-eqb, ne_eqb}
use Rattle.trees.specs.LinkOutOfRange.{jump_outside, jump_flat, parent_outside, parent_flat}
use Rattle.list_laws.specs.Tests.{all_below}
use Rattle.list_laws.proofs.BoolLaws.{true-false, and_both}
use Rattle.tables.specs.node_tables.Cells.{parent_cell, jump_cell, depth_cell, size_cell, is_in_subtree_on}
use Rattle.tables.specs.node_tables.OutOfRange.{Childless, NodeTableOutOfRange, link, childless, apart}
use Rattle.tables.specs.StateCells.{state_cell, map_cell}
use Rattle.tables.specs.Climbs.{View}
use Rattle.questions.specs.ready.Members.{some_within}
use Rattle.list_laws.proofs.BoolLaws.{or-first, or-second}
use Rattle.questions.proofs.ready.ListLaws.{in_some}
use Rattle.questions.specs.Part.{label_on}
use Rattle.questions.specs.OutOfRange.{PartOutOfRange, links, children, run, map, leaf, rule, handled, label, changed}
use Rattle.formats.specs.Inputs.{Inputs, Sizes}
use Rattle.model.specs.Calls.{refused}
use Rattle.reference.specs.Causes.{is_childless, is_flat, link_faulty, is_apart, node_table_cause, node_cause, rules_cause, cause}
use Rattle.reference.specs.Causes.{advance_cause}
use Rattle.reference.specs.Reference.{may_advance_with}
use Rattle.questions.specs.PartInputs.{view_by}

-- ---- the node table

pub bare : (b : List ℕ) (x : ℕ) → Childless b x → is_childless b x ≡ true
unfolding is_childless
bare b x (inl e) = or-first (eqb x 0) _ (eq-eqb x 0 e)
bare b x (inr h) = or-second (eqb x 0) _ (lt-ltb (x - 1) (size_cell b (x - 1)) h)

module _ (n : ℕ) (b : List ℕ) where
  at-node : (v : ℕ) → v < n → (link_faulty n b v || is_apart n b v) ≡ true → node_table_cause n b ≡ true
  unfolding node_table_cause
  at-node v h e = in_some (λ u. link_faulty n b u || is_apart n b u) n 0 v (omega arith) (omega arith) e

  out-of-range-at : (v : ℕ) → v < n → link_faulty n b v ≡ true → node_table_cause n b ≡ true
  out-of-range-at v h e = at-node v h (or-first (link_faulty n b v) (is_apart n b v) e)

  flat-at : (v : ℕ) → v < n → 0 < depth_cell b v → is_flat b v ≡ true → node_table_cause n b ≡ true
  unfolding link_faulty
  flat-at v h d e =
      out-of-range-at v h (or-second (leb n (jump_cell b v)) _ (or-second (leb n (parent_cell b v)) _
      (and_both (ltb 0 (depth_cell b v)) (is_flat b v) (lt-ltb 0 (depth_cell b v) d) e)))

  -- the tests of a flat link, in their order
  abbrev jump_test : ℕ → Bool
  jump_test v = leb (depth_cell b v) (depth_cell b (jump_cell b v))

  abbrev parent_test : ℕ → Bool
  parent_test v = leb (depth_cell b v) (depth_cell b (parent_cell b v))

  led : (v x : ℕ) → v < n → 0 < depth_cell b v → (x ≡ parent_cell b v) ⊎ (x ≡ jump_cell b v) → Childless b x
      → node_table_cause n b ≡ true
  unfolding is_flat
  led v x h d (inl e) c =
      flat-at v h d (or-second (jump_test v) _ (or-second (parent_test v) _ (or-first (is_childless b (parent_cell b v)) _
      (subst (λ (y : ℕ). is_childless b y ≡ true) e (bare b x c)))))
  led v x h d (inr e) c =
      flat-at v h d (or-second (jump_test v) _ (or-second (parent_test v) _ (or-second (is_childless b (parent_cell b v)) _
      (subst (λ (y : ℕ). is_childless b y ≡ true) e (bare b x c)))))

  pub links-cause : NodeTableOutOfRange n b → node_table_cause n b ≡ true
  unfolding link_faulty is_flat is_apart
  links-cause (link (jump_outside v h o)) = out-of-range-at v h (or-first (leb n (jump_cell b v)) _ (le-leb n (jump_cell b v) o))
  links-cause (link (jump_flat v h d e)) =
      flat-at v h d (or-first (jump_test v) _ (le-leb (depth_cell b v) (depth_cell b (jump_cell b v)) e))
  links-cause (link (parent_outside v h o)) =
      out-of-range-at v h (or-second (leb n (jump_cell b v)) _ (or-first (leb n (parent_cell b v)) _ (le-leb n (parent_cell b v) o)))
  links-cause (link (parent_flat v h d e)) =
      flat-at v h d (or-second (jump_test v) _ (or-first (parent_test v) _
      (le-leb (depth_cell b v) (depth_cell b (parent_cell b v)) e)))
  links-cause (childless v x h d l c) = led v x h d l c
  links-cause (apart v u h i d e) =
      at-node v h (or-second (link_faulty n b v) _ (and_both (eqb (depth_cell b v) 0) _ (eq-eqb (depth_cell b v) 0 d)
      (in_some (λ w. not (is_in_subtree_on b v w)) n 0 u (omega arith) (omega arith) (ap not e))))

-- ---- all that an advance reads

module _ (X : View) (vs bs : List ℕ) where
  by-node : (v : ℕ) → v < X.n → node_cause X vs bs v ≡ true → cause X vs bs ≡ true
  unfolding cause
  by-node v h e =
      or-second (node_table_cause X.n X.node_table) _
      (or-first _ (rules_cause X) (in_some (node_cause X vs bs) X.n 0 v (omega arith) (omega arith) e))

  by-rules : rules_cause X ≡ true → cause X vs bs ≡ true
  unfolding cause
  by-rules e = or-second (node_table_cause X.n X.node_table) _ (or-second (some_within (node_cause X vs bs) 0 X.n) (rules_cause X) e)

  -- the tests of a node, in their order
  abbrev no_run : ℕ → Bool
  no_run v = leb X.s (state_cell X.s X.state_table v)

  abbrev no_map : ℕ → ℕ → Bool
  no_map v q = leb X.s (map_cell X.s X.state_table v q)

  abbrev no_label : ℕ → Bool
  no_label v = leb X.k (get_or X.labels v 0)

  abbrev no_change : ℕ → Bool
  no_change v = leb X.k (label_on X vs bs v)

  abbrev no_child : ℕ → Bool
  no_child v = not (eqb (get_or X.kinds v 0) 0) && is_childless X.node_table v

  -- the tests of the rules
  abbrev no_leaf : ℕ → Bool
  no_leaf a = leb X.s (get_or X.leaves a 0)

  abbrev no_rule : ℕ → ℕ → ℕ → Bool
  no_rule p a q = leb X.s (get_or X.inner ((p * X.k + a) * X.s + q) 0)

  -- where the first tests are passed over
  after_map : (v : ℕ) → v < X.n → (c : Bool) → c ≡ true
      → ((no_run v || (some_within (no_map v) 0 X.s || c)) ≡ node_cause X vs bs v) → cause X vs bs ≡ true
  after_map v h c e q =
      by-node v h (sym q ∙ or-second (no_run v) (some_within (no_map v) 0 X.s || c) (or-second (some_within (no_map v) 0 X.s) c e))

  leaves-cause : (a : ℕ) → a < X.k → no_leaf a ≡ true → cause X vs bs ≡ true
  unfolding rules_cause
  leaves-cause a h e =
      by-rules (or-first (some_within no_leaf 0 X.k) (some_within (λ p. some_within (λ c. some_within (no_rule p c) 0 X.s) 0 X.k) 0 X.s)
      (in_some no_leaf X.k 0 a (omega arith) (omega arith) e))

  rules-cause : (p a q : ℕ) → p < X.s → a < X.k → q < X.s → no_rule p a q ≡ true → cause X vs bs ≡ true
  unfolding rules_cause
  rules-cause p a q h i j e =
      by-rules (or-second (some_within no_leaf 0 X.k) (some_within (λ u. some_within (λ c. some_within (no_rule u c) 0 X.s) 0 X.k) 0 X.s)
      (in_some (λ u. some_within (λ c. some_within (no_rule u c) 0 X.s) 0 X.k) X.s 0 p (omega arith) (omega arith)
      (in_some (λ c. some_within (no_rule p c) 0 X.s) X.k 0 a (omega arith) (omega arith)
      (in_some (no_rule p a) X.s 0 q (omega arith) (omega arith) e))))

  pub view-cause : (qs : List ℕ) → all_below X.s qs ≡ true → PartOutOfRange X qs vs bs → cause X vs bs ≡ true
  unfolding cause node_cause
  view-cause qs g (links a) = or-first (node_table_cause X.n X.node_table) _ (links-cause X.n X.node_table a)
  view-cause qs g (children v h k c) =
      after_map v h (no_label v || (no_change v || no_child v))
      (or-second (no_label v) (no_change v || no_child v) (or-second (no_change v) (no_child v)
      (and_both (not (eqb (get_or X.kinds v 0) 0)) (is_childless X.node_table v) (ap not (ne_eqb (get_or X.kinds v 0) 0 k))
      (bare X.node_table v c)))) refl
  view-cause qs g (run v h e) =
      by-node v h (or-first (no_run v) (some_within (no_map v) 0 X.s || (no_label v || (no_change v || no_child v)))
      (le-leb X.s (state_cell X.s X.state_table v) e))
  view-cause qs g (map v q h i e) =
      by-node v h (or-second (no_run v) (some_within (no_map v) 0 X.s || (no_label v || (no_change v || no_child v)))
      (or-first (some_within (no_map v) 0 X.s) (no_label v || (no_change v || no_child v))
      (in_some (no_map v) X.s 0 q (omega arith) (omega arith) (le-leb X.s (map_cell X.s X.state_table v q) e))))
  view-cause qs g (leaf a h e) = leaves-cause a h (le-leb X.s (get_or X.leaves a 0) e)
  view-cause qs g (rule p a q h i j e) =
      rules-cause p a q h i j (le-leb X.s (get_or X.inner ((p * X.k + a) * X.s + q) 0) e)
  view-cause qs g (handled e) = absurd (true-false (sym g ∙ e))
  view-cause qs g (label v h e) =
      after_map v h (no_label v || (no_change v || no_child v))
      (or-first (no_label v) (no_change v || no_child v) (le-leb X.k (get_or X.labels v 0) e)) refl
  view-cause qs g (changed v h e) =
      after_map v h (no_label v || (no_change v || no_child v))
      (or-second (no_label v) (no_change v || no_child v) (or-first (no_change v) (no_child v) (le-leb X.k (label_on X vs bs v) e))) refl

-- ---- what the reference model allows

pub advance-cause : (z : Sizes) (x : Inputs) (vs bs qs : List ℕ) (usable : Bool) → not usable ≡ true → all_below z.s qs ≡ true
    → PartOutOfRange (view_by z x) qs vs bs → may_advance_with usable (advance_cause z x vs bs) (refused 18) ≡ true
unfolding may_advance_with advance_cause
advance-cause z x vs bs qs usable n g a = and_both (not usable) _ n (view-cause (view_by z x) vs bs qs g a)
