-- The ready set node by node.
--     Forks w t v     there are listed nodes below both children of v
--     Member w t v    v is listed, the root, forks, or is a child of a node that does
--     member-ready    a member is in the ready set
--     ready-member    and nothing else is: the ready set is closed (ready-closed) and least (ready-least)
use Rattle.std.proofs.Common.{◌≡◌, ℕ, ◌+◌, ◌-◌, ◌<◌, ◌≤◌, Bool, true, ◌⊎◌, sym, ap, ◌∙◌, subst, inl, inr, arith}
use native.Mathlib.Decide.{ℕ_discrete, dec_lt}
use Rattle.trees.specs.Tree.{Tree, size, kind_at}
use Rattle.trees.specs.Numbering.{sub, depth, ancestor, AtOrBelow, InSubtree}
use Rattle.trees.proofs.NodeLaws.{Inner, inner, up, sub-leaf}
use Rattle.trees.proofs.JumpLaws.{ancestor-add, ancestor-depth}
use Rattle.trees.proofs.IntervalLaws.{ancestor-interval, interval-ancestor}
use Rattle.questions.specs.ready.Ready.{left_child, right_child, Meet, Fork, Ready, listed, root, meet, child_left, child_right, Closed}
use Rattle.questions.proofs.ready.UnderLaws.{under-self, under-trans, under-inner, left_in, right_in, left-under}
use Rattle.questions.proofs.ready.UnderLaws.{right-under, children-apart}

-- a listed node under c
abbrev pub Some : (ℕ → Bool) → Tree → ℕ → Type 0
Some w t c = (u : ℕ) × (u < size t) × InSubtree t c u × (w u ≡ true)

pub record Forks (w : ℕ → Bool) (t : Tree) (v : ℕ) : Type 0 where
  pub inside : v < size t
  pub inner : kind_at t v ≡ 1
  pub left : Some w t (left_child t v)
  pub right : Some w t (right_child v)

pub data Member (w : ℕ → Bool) (t : Tree) : ℕ → Type 0 where
  m-listed : {v : ℕ} → v < size t → w v ≡ true → Member w t v
  m-root : {v : ℕ} → v + 1 ≡ size t → Member w t v
  m-forks : {v : ℕ} → Forks w t v → Member w t v
  m-left : {v : ℕ} → Forks w t v → Member w t (left_child t v)
  m-right : {v : ℕ} → Forks w t v → Member w t (right_child v)

-- a node's kind is 0 or 1
pub kind-one : (t : Tree) (v : ℕ) → v < size t → (kind_at t v ≡ 0 → ⊥) → kind_at t v ≡ 1
kind-one t v h n =
    let i : Inner t v = inner t v h n in
    sym (ap (kind_at t) i.left_up) ∙ (up t i.left (omega (arith, i.at))).inside

module _ (t : Tree) where
  -- of two nodes above one, one is above the other
  pub comparable : (a b c : ℕ) → a < size t → b < size t → c < size t → InSubtree t a c → InSubtree t b c → InSubtree t a b ⊎ InSubtree t b a
  comparable a b c ha hb hc p q = go (interval-ancestor t a c ha hc p) (interval-ancestor t b c hb hc q)
    where
      higher : (x y : ℕ) (X : AtOrBelow t x c) (Y : AtOrBelow t y c) → Y.0 ≤ X.0 → y < size t → InSubtree t x y
      higher x y X Y l hy =
          let e : depth t y + Y.0 ≡ depth t c = subst (λ (z : ℕ). depth t z + Y.0 ≡ depth t c) Y.2 (ancestor-depth t c Y.0 hc Y.1) in
          let k : (X.0 - Y.0) + Y.0 ≡ X.0 = omega arith in
          ancestor-interval t x y (X.0 - Y.0) hy (omega (arith, X.1))
          (ap (λ (z : ℕ). ancestor t z (X.0 - Y.0)) (sym Y.2) ∙ ancestor-add t c Y.0 (X.0 - Y.0) ∙ ap (ancestor t c) k ∙ X.2)

      go : AtOrBelow t a c → AtOrBelow t b c → InSubtree t a b ⊎ InSubtree t b a
      go X Y = elim (dec_lt X.0 Y.0) [
        | yes l ↦ inr (higher b a Y X (omega arith) ha)
        | no l ↦ inl (higher a b X Y (omega arith) hb)
      ]

  -- a node with u below its left child and x below its right is their lowest common ancestor
  pub fork-meet : (v u x : ℕ) → v < size t → kind_at t v ≡ 1 → u < size t → x < size t
      → InSubtree t (left_child t v) u → InSubtree t (right_child v) x → Meet t u x v
  fork-meet v u x hv k hu hx p q = record {
    inside = hv;
    first = left-under t v hv k u p;
    second = right-under t v hv k x q;
    lowest = λ y hy a b. elim (comparable y v u hy hv hu a (left-under t v hv k u p)) [
      | inl c ↦ c
      | inr c ↦ elim (under-inner t v hv k y c) [
        | inl e ↦ subst (λ (z : ℕ). InSubtree t z v) (sym e) (under-self t v)
        | inr d ↦ absurd (elim d [
          | inl l ↦ children-apart t v hv k x (under-trans t (left_child t v) y x (omega (arith, left_in t v hv k)) hy hx l b) q
          | inr r ↦ children-apart t v hv k u p (under-trans t (right_child v) y u (omega (arith, right_in t v hv k)) hy hu r a)
        ])
      ]
    ];
  }

  -- a leaf has nothing below
  under-leaf : (v u : ℕ) → v < size t → kind_at t v ≡ 0 → InSubtree t v u → u ≡ v
  under-leaf v u hv e p = let z : size (sub t v) ≡ 1 = ap size (sub-leaf t v hv e) in omega arith

  -- two nodes whose lowest common ancestor is neither of them are below its two children
  abbrev Parted : ℕ → ℕ → ℕ → Type 0
  Parted u v x =
      (kind_at t x ≡ 1)
      × ((InSubtree t (left_child t x) u × InSubtree t (right_child x) v) ⊎ (InSubtree t (left_child t x) v × InSubtree t (right_child x) u))

  pub parted : (u v x : ℕ) → u < size t → v < size t → Meet t u v x → (x ≡ u → ⊥) → (x ≡ v → ⊥) → Parted u v x
  parted u v x hu hv m nu nv = elim (ℕ_discrete (kind_at t x) 0) [
    | yes e ↦ absurd (nu (sym (under-leaf x u m.inside e m.first)))
    | no e ↦ (let k : kind_at t x ≡ 1 = kind-one t x m.inside e in
        (k, go k (under-inner t x m.inside k u m.first) (under-inner t x m.inside k v m.second)))
  ]
    where
      -- a child cannot hold both
      low : (k : kind_at t x ≡ 1) (c : ℕ) → c < x → InSubtree t c u → InSubtree t c v → ⊥
      low k c l p q = omega (arith, m.lowest c (omega (arith, m.inside)) p q)

      go : kind_at t x ≡ 1 → (u ≡ x) ⊎ (InSubtree t (left_child t x) u ⊎ InSubtree t (right_child x) u)
          → (v ≡ x) ⊎ (InSubtree t (left_child t x) v ⊎ InSubtree t (right_child x) v)
          → (InSubtree t (left_child t x) u × InSubtree t (right_child x) v) ⊎ (InSubtree t (left_child t x) v × InSubtree t (right_child x) u)
      go k (inl e) b = absurd (nu (sym e))
      go k (inr a) (inl e) = absurd (nv (sym e))
      go k (inr (inl a)) (inr (inl b)) = absurd (low k (left_child t x) (left_in t x m.inside k) a b)
      go k (inr (inl a)) (inr (inr b)) = inl (a, b)
      go k (inr (inr a)) (inr (inl b)) = inr (b, a)
      go k (inr (inr a)) (inr (inr b)) = absurd (low k (right_child x) (right_in t x m.inside k) a b)

module _ (w : ℕ → Bool) (t : Tree) where
  pub member-in : {v : ℕ} → Member w t v → v < size t
  member-in (m-listed h e) = h
  member-in (m-root e) = omega arith
  member-in (m-forks f) = f.inside
  member-in (m-left {v} f) = omega (arith, left_in t v f.inside f.inner, f.inside)
  member-in (m-right {v} f) = omega (arith, right_in t v f.inside f.inner, f.inside)

  -- what a member that is not the root has below
  covered : {v : ℕ} → Member w t v → (v + 1 ≡ size t) ⊎ Some w t v
  covered (m-listed {v} h e) = inr (v, h, under-self t v, e)
  covered (m-root e) = inl e
  covered (m-forks {v} f) =
      inr (f.left.0, f.left.1, left-under t v f.inside f.inner f.left.0 f.left.2, f.left.3)
  covered (m-left f) = inr f.left
  covered (m-right f) = inr f.right

  -- a member below child c of x has a listed node there
  some-under : (x c v : ℕ) → x < size t → c < x → Member w t v → InSubtree t c v → Some w t c
  some-under x c v hx hc m p = elim (covered m) [
    | inl e ↦ absurd (omega arith)
    | inr s ↦ (s.0, s.1, under-trans t c v s.0 (omega arith) (member-in m) s.1 p s.2, s.3)
  ]

  forks-of : (x u v : ℕ) → x < size t → kind_at t x ≡ 1 → Member w t u → Member w t v
      → InSubtree t (left_child t x) u → InSubtree t (right_child x) v → Forks w t x
  forks-of x u v hx k mu mv p q = record {
    inside = hx;
    inner = k;
    left = some-under x (left_child t x) u hx (left_in t x hx k) mu p;
    right = some-under x (right_child x) v hx (right_in t x hx k) mv q;
  }

  pub member-closed : Closed w t (Member w t)
  member-closed = record {
    has_listed = λ v h e. m-listed h e;
    has_root = λ v e. m-root e;
    has_meets = λ u v x mu mv m. elim (ℕ_discrete x u) [
      | yes e ↦ subst (Member w t) (sym e) mu
      | no nu ↦ elim (ℕ_discrete x v) [
        | yes e ↦ subst (Member w t) (sym e) mv
        | no nv ↦ (let P : Parted t u v x = parted t u v x (member-in mu) (member-in mv) m nu nv in
            m-forks {v = x} (elim P.1 [
              | inl s ↦ forks-of x u v m.inside P.0 mu mv s.0 s.1
              | inr s ↦ forks-of x v u m.inside P.0 mv mu s.0 s.1
            ]))
      ]
    ];
    has_children = λ v u x mv mu mx f.
        let F : Forks w t v = forks-of v u x f.inside f.inner mu mx f.left f.right in (m-left F, m-right F);
  }

  fork-ready : (v : ℕ) (f : Forks w t v) → Ready w t v
  fork-ready v f =
      meet (listed f.left.1 f.left.3) (listed f.right.1 f.right.3)
      (fork-meet t v f.left.0 f.right.0 f.inside f.inner f.left.1 f.right.1 f.left.2 f.right.2)

  fork-of : (v : ℕ) (f : Forks w t v) → Fork t v f.left.0 f.right.0
  fork-of v f = record { inside = f.inside; inner = f.inner; left = f.left.2; right = f.right.2 }

  pub member-ready : {v : ℕ} → Member w t v → Ready w t v
  member-ready (m-listed h e) = listed h e
  member-ready (m-root e) = root e
  member-ready (m-forks {v} f) = fork-ready v f
  member-ready (m-left {v} f) = child_left (fork-ready v f) (listed f.left.1 f.left.3) (listed f.right.1 f.right.3) (fork-of v f)
  member-ready (m-right {v} f) = child_right (fork-ready v f) (listed f.left.1 f.left.3) (listed f.right.1 f.right.3) (fork-of v f)

  pub ready-closed : Closed w t (Ready w t)
  ready-closed = record {
    has_listed = λ v h e. listed h e;
    has_root = λ v e. root e;
    has_meets = λ u v x a b m. meet a b m;
    has_children = λ v u x a b c f. (child_left a b c f, child_right a b c f);
  }

  -- the ready set is the least closed set
  pub ready-least : (C : ℕ → Type 0) → Closed w t C → {v : ℕ} → Ready w t v → C v
  ready-least C c (listed {v} h e) = c.has_listed v h e
  ready-least C c (root {v} e) = c.has_root v e
  ready-least C c (meet {u} {v} {x} a b m) = c.has_meets u v x (ready-least C c a) (ready-least C c b) m
  ready-least C c (child_left {v} {u} {x} a b d f) = (c.has_children v u x (ready-least C c a) (ready-least C c b) (ready-least C c d) f).0
  ready-least C c (child_right {v} {u} {x} a b d f) = (c.has_children v u x (ready-least C c a) (ready-least C c b) (ready-least C c d) f).1

  pub ready-member : {v : ℕ} → Ready w t v → Member w t v
  ready-member r = ready-least (Member w t) member-closed r

  pub ready-in : {v : ℕ} → Ready w t v → v < size t
  ready-in r = member-in (ready-member r)
