-- What a part gives: a state, no more links than nodes, and at least as many nodes passed over as links, as the given
-- depths allow.
--     side-bounded, Joined, joined      at a child, and by the rule
--     inner-sides                       an inner node joins what its two children come to
--     part-bounded                      of every part
--     part_given-below                   "every state below S": of the part that a caller asks for
--     part-links, part-passed           its links fit, and the nodes passed over: it makes one climb at most
use Rattle.std.proofs.Common.{◌≡◌, ℕ, zero, suc, ◌+◌, ◌-◌, ◌*◌, ◌<◌, ◌≤◌, Bool, true, false, cond, ◌&&◌, eqb, ltb, leb, List, [], ◌∷◌, length, get_or, take, refl, subst, arith, leb-true}
use mathlib.Core.Option.{Option, none, some, some-injective}
use Rattle.trees.specs.Climb.{and_then}
use Rattle.trees.proofs.MoveLaws.{none-some, cond-some}
use Rattle.formats.specs.Limits.{node_limit, within}
use Rattle.formats.specs.Checks.{node_table_length}
use Rattle.formats.specs.Buffers.{limits_fit}
use Rattle.list_laws.proofs.BoolLaws.{and_left, and_right}
use Rattle.tables.specs.node_tables.Cells.{size_cell}
use Rattle.tables.specs.declared.answers.Reached.{Reached}
use Rattle.tables.specs.Climbs.{View, below, run_on, rule_on, reached, climb_on}
use Rattle.tables.proofs.LookupLaws.{below-state}
use Rattle.tables.proofs.ClimbBounds.{rule-state, Bounded, climb-bounded}
use Rattle.questions.specs.Part.{Found, climb_from, run_reached, own_reached, join_on}
use Rattle.questions.specs.Part.{inner_on, leaf_on, fork_on, part_on}
use Rattle.questions.specs.Part.{label_on}
use Rattle.questions.specs.inner.Scans.{side_on}
use Rattle.questions.specs.inner.PartArgs.{unmoved}
use Rattle.questions.specs.PartAnswers.{part_fits, view_in, part_given}

-- what holds of every entry holds of a front part's
cell-taken : (l : List ℕ) (i j m : ℕ) → ((k : ℕ) → get_or l k 0 ≤ m) → get_or (take i l) j 0 ≤ m
cell-taken [] zero j m b = omega arith
cell-taken [] (suc i) j m b = omega arith
cell-taken (x ∷ l) zero j m b = omega arith
cell-taken (x ∷ l) (suc i) zero m b = b 0
cell-taken (x ∷ l) (suc i) (suc j) m b = cell-taken l i j m (λ k. b (suc k))

module _ (X : View) where
  -- ---- at a child

  pub record Still (x : Reached) : Type 0 where
    pub state : x.state < X.s
    pub links : x.links ≡ 0
    pub passed : x.passed ≡ 0

  unmoved-still : (q : ℕ) (x : Reached) → unmoved (below X.s q) ≡ some x → Still x
  unmoved-still q x e = go (below X.s q) refl e
    where
      go : (o : Option ℕ) → below X.s q ≡ o → unmoved o ≡ some x → Still x
      go none b i = absurd (none-some i)
      go (some y) b i =
          let s = below-state X.s q y b in
          subst Still (some-injective (reached y 0 0) x i)
          (record { state = omega (arith, s.0, s.1); links = refl; passed = refl })

  run-still : (c : ℕ) (x : Reached) → run_reached X c ≡ some x → Still x
  unfolding run_reached run_on
  run-still c x e = unmoved-still _ x e

  own-still : (f : Found) (x : Reached) → own_reached X f ≡ some x → Still x
  unfolding own_reached
  own-still f x e = unmoved-still f.state x e

  from-bounded : (t : ℕ) (f : Found) (x : Reached) → climb_from X t f ≡ some x → Bounded X x
  unfolding climb_from
  from-bounded t f x e = go (below X.s f.state) refl e
    where
      go : (o : Option ℕ) → below X.s f.state ≡ o → and_then o (λ q. climb_on X f.node t q) ≡ some x
          → Bounded X x
      go none b i = absurd (none-some i)
      go (some q) b i =
          let s = below-state X.s f.state q b in
          climb-bounded X f.node t q x (omega (arith, s.0, s.1)) i

  still-bounded : (x : Reached) → Still x → Bounded X x
  still-bounded x S = record {
    state = S.state;
    links = omega (arith, S.links);
    links_passed = omega (arith, S.links);
    passed = λ m b. omega (arith, S.passed);
  }

  pub side-bounded : (t c : ℕ) (f g : Option Found) (x : Reached) → side_on X t c f g ≡ some x → Bounded X x
  unfolding side_on
  side-bounded t c none g x e = still-bounded x (run-still c x e)
  side-bounded t c (some f) none x e = from-bounded t f x e
  side-bounded t c (some f) (some g) x e = still-bounded x (own-still f x e)

  -- ---- by the rule

  -- z comes of x and y: its state is a state, its links and the nodes passed over are theirs
  pub record Joined (x y : Option Reached) (z : Reached) : Type 0 where
    pub left : Reached
    pub right : Reached
    pub is-left : x ≡ some left
    pub is_right : y ≡ some right
    pub state : z.state < X.s
    pub links : z.links ≡ left.links + right.links
    pub passed : z.passed ≡ left.passed + right.passed

  pub joined : (a : ℕ) (x y : Option Reached) (z : Reached) → join_on X a x y ≡ some z → Joined x y z
  unfolding join_on
  joined a none y z e = absurd (none-some e)
  joined a (some l) none z e = absurd (none-some e)
  joined a (some l) (some r) z e = go (rule_on X l.state a r.state) refl e
    where
      go : (o : Option ℕ) → rule_on X l.state a r.state ≡ o
          → and_then o (λ q. some (reached q (l.links + r.links) (l.passed + r.passed))) ≡ some z
          → Joined (some l) (some r) z
      go none b h = absurd (none-some h)
      go (some q) b h =
          subst (Joined (some l) (some r))
          (some-injective (reached q (l.links + r.links) (l.passed + r.passed)) z h)
          (record {
            left = l;
            right = r;
            is-left = refl;
            is_right = refl;
            state = rule-state X l.state a r.state q b;
            links = refl;
            passed = refl;
          })

  -- one climb at most
  climbed-left : (a : ℕ) (x y : Option Reached) (z : Reached) → join_on X a x y ≡ some z
      → ((l : Reached) → x ≡ some l → Bounded X l) → ((r : Reached) → y ≡ some r → Still r) → Bounded X z
  climbed-left a x y z e f g =
      let J = joined a x y z e in
      let L = f J.left J.is-left in
      let R = g J.right J.is_right in
      record {
        state = J.state;
        links = omega (arith, J.links, L.links, R.links);
        links_passed = omega (arith, J.links, J.passed, L.links_passed, R.links, R.passed);
        passed = λ m b. omega (arith, J.passed, L.passed m b, R.passed);
      }

  climbed-right : (a : ℕ) (x y : Option Reached) (z : Reached) → join_on X a x y ≡ some z
      → ((l : Reached) → x ≡ some l → Still l) → ((r : Reached) → y ≡ some r → Bounded X r) → Bounded X z
  climbed-right a x y z e f g =
      let J = joined a x y z e in
      let L = f J.left J.is-left in
      let R = g J.right J.is_right in
      record {
        state = J.state;
        links = omega (arith, J.links, L.links, R.links);
        links_passed = omega (arith, J.links, J.passed, R.links_passed, L.links, L.passed);
        passed = λ m b. omega (arith, J.passed, R.passed m b, L.passed);
      }

  pub inner-sides : (t l r a : ℕ) (f g : Option Found)
      → inner_on X t l r a f g ≡ join_on X a (side_on X t l f g) (side_on X t r g f)
  unfolding inner_on side_on
  inner-sides t l r a none none = refl
  inner-sides t l r a none (some g) = refl
  inner-sides t l r a (some f) none = refl
  inner-sides t l r a (some f) (some g) = refl

  inner-bounded : (t l r a : ℕ) (f g : Option Found) (x : Reached) → inner_on X t l r a f g ≡ some x → Bounded X x
  unfolding inner_on
  inner-bounded t l r a none none x e =
      climbed-left a _ _ x e (λ y i. still-bounded y (run-still l y i)) (λ y i. run-still r y i)
  inner-bounded t l r a none (some g) x e = climbed-right a _ _ x e (λ y i. run-still l y i) (λ y i. from-bounded t g y i)
  inner-bounded t l r a (some f) none x e = climbed-left a _ _ x e (λ y i. from-bounded t f y i) (λ y i. run-still r y i)
  inner-bounded t l r a (some f) (some g) x e =
      climbed-left a _ _ x e (λ y i. still-bounded y (own-still f y i)) (λ y i. own-still g y i)

  -- ---- of every part

  leaf-bounded : (a : ℕ) (x : Reached) → leaf_on X a ≡ some x → Bounded X x
  unfolding leaf_on
  leaf-bounded a x e =
      still-bounded x (unmoved-still (get_or X.leaves a 0) x
      (cond-some (ltb a X.k) (unmoved (below X.s (get_or X.leaves a 0))) e).1)

  pub part-bounded : (es qs vs bs : List ℕ) (v : ℕ) (x : Reached) → part_on X es qs vs bs v ≡ some x → Bounded X x
  unfolding part_on fork_on
  part-bounded es qs vs bs v x e = go (eqb (get_or X.kinds v 0) 0) e
    where
      fork : (b : Bool) → cond b (fork_on X es qs v (v - 1 - size_cell X.node_table (v - 1)) (label_on X vs bs v)) none
          ≡ some x
          → Bounded X x
      fork b i = inner-bounded _ _ _ _ _ _ x
          (cond-some b (fork_on X es qs v (v - 1 - size_cell X.node_table (v - 1)) (label_on X vs bs v)) i).1

      go : (b : Bool) → cond b (leaf_on X (label_on X vs bs v))
          (cond (ltb 0 v && leb (size_cell X.node_table (v - 1)) (v - 1))
          (fork_on X es qs v (v - 1 - size_cell X.node_table (v - 1)) (label_on X vs bs v)) none) ≡ some x → Bounded X x
      go true i = leaf-bounded (label_on X vs bs v) x i
      go false i = fork (ltb 0 v && leb (size_cell X.node_table (v - 1)) (v - 1)) i

-- ---- the part that a caller asks for

module _ (n s k : ℕ) (plan rules node_table state_table roots states vs bs : List ℕ) (x : Reached)
    (e : part_given n s k plan rules node_table state_table roots states vs bs ≡ some x) where
  given : (part_fits n s k plan rules node_table state_table roots states vs bs ≡ true)
      × Bounded (view_in n s k plan rules node_table state_table) x
  unfolding part_given
  given =
      let c =
      cond-some (part_fits n s k plan rules node_table state_table roots states vs bs)
      (part_on (view_in n s k plan rules node_table state_table) (take (length states) roots) states vs bs
      (get_or roots (length states) 0)) e in (
        c.0,
        part-bounded (view_in n s k plan rules node_table state_table) (take (length states) roots) states vs bs
            (get_or roots (length states) 0) x c.1,
      )

  pub part_given-below : x.state < s
  part_given-below = given.1.state

  nodes_most : n ≤ 65535
  unfolding part_fits limits_fit
  nodes_most = leb-true n node_limit
      (and_right (leb 1 n) (leb n node_limit) (and_left (within 1 node_limit n) _ (and_left _ _ given.0)))

  pub part-links : x.links ≤ 65535
  part-links = omega (arith, given.1.links, nodes_most)

  pub part-links-passed : x.links ≤ x.passed
  part-links-passed = given.1.links_passed

  -- of numbers of 16 bits
  pub part-passed : ((j : ℕ) → get_or node_table j 0 ≤ 65535) → x.passed ≤ 65535
  part-passed b = given.1.passed 65535 (λ v. cell-taken node_table (node_table_length n) (v * 4 + 2) 65535 b)
