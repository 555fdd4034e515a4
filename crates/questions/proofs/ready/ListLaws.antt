-- The rising list of the ready set.
--     list-ready, ready-list    it holds exactly the ready set's members
--     list-rising               each once, rising
--     list-last                 and ends at the plan's root
--     list-members              so it is what the parts are worked out over (PartsRun.Members)
--     rising-unique             two rising lists with the same members are the same list
use Rattle.std.proofs.Common.{◌≡◌, ℕ, zero, suc, ◌+◌, ◌-◌, ◌<◌, ◌≤◌, Bool, true, false, cond, ◌&&◌, eqb, ◌⊎◌, List, [], ◌∷◌, ◌++◌, sym, refl, ap, ◌∙◌, subst, ap₂, inl, inr, append-nil, arith, eq-eqb, eqb-true}
use mathlib.Core.List.Memᴰ
use mathlib.Core.List.{Memᴰ}
use native.Mathlib.Decide.{ℕ_discrete}
use Rattle.trees.specs.Tree.{Tree, size, kind_at}
use Rattle.trees.specs.Numbering.{sub, parent}
use Rattle.trees.proofs.MoveLaws.{both}
use Rattle.trees.proofs.NodeLaws.{Up, up, sub-size, parent-root}
use Rattle.list_laws.proofs.BoolLaws.{and_both}
use Rattle.list_laws.proofs.BoolLaws.{or_cases, or-first, or-second}
use Rattle.questions.specs.ready.Ready.{left_child, right_child, Ready}
use Rattle.questions.specs.ready.Members.{some_within, some_below, forks_at, has_member, keep, ready_list, Rising}
use Rattle.questions.proofs.ready.UnderLaws.{left_in, right_in, left-parent, right-parent}
use Rattle.questions.proofs.ready.BelowLaws.{true-false, rising-above}
use Rattle.questions.proofs.ready.ClosedForm.{Some, Forks, Member, m-listed, m-root, m-forks, m-left, m-right, member-in, member-ready}
use Rattle.questions.proofs.ready.ClosedForm.{member-closed, ready-member}
use Rattle.questions.proofs.ready.PartsRun.{Members}

-- ---- the tests

module _ (w : ℕ → Bool) where
  some_in : (n lo : ℕ) → some_within w lo n ≡ true → (u : ℕ) × (lo ≤ u) × (u < lo + n) × (w u ≡ true)
  unfolding some_within
  some_in zero lo e = absurd (true-false true refl (sym e))
  some_in (suc n) lo e = elim (or_cases (w lo) (some_within w (suc lo) n) e) [
    | inl a ↦ (lo, omega arith, omega arith, a)
    | inr b ↦ (let r = some_in n (suc lo) b in (r.0, omega (arith, r.1), omega (arith, r.2), r.3))
  ]

  pub in_some : (n lo u : ℕ) → lo ≤ u → u < lo + n → w u ≡ true → some_within w lo n ≡ true
  unfolding some_within
  in_some zero lo u a b e = absurd (omega arith)
  in_some (suc n) lo u a b e = elim (ℕ_discrete lo u) [
    | yes q ↦ or-first (w lo) (some_within w (suc lo) n) (ap w q ∙ e)
    | no q ↦ or-second (w lo) (some_within w (suc lo) n) (in_some n (suc lo) u (omega arith) (omega arith) e)
  ]

  module _ (t : Tree) where
    some-yes : (c : ℕ) → c < size t → some_below w t c ≡ true → Some w t c
    unfolding some_below
    some-yes c h e =
        let r = some_in (size (sub t c)) (c + 1 - size (sub t c)) e in
        (r.0, omega (arith, sub-size t c h, r.2), (omega (arith, sub-size t c h, r.2), omega (arith, r.1)), r.3)

    yes-some : (c : ℕ) → c < size t → Some w t c → some_below w t c ≡ true
    unfolding some_below
    yes-some c h s = in_some (size (sub t c)) (c + 1 - size (sub t c)) s.0 (omega (arith, s.2)) (omega (arith, sub-size t c h, s.2)) s.3

    forks-yes : (v : ℕ) → v < size t → forks_at w t v ≡ true → Forks w t v
    unfolding forks_at
    forks-yes v h e =
        let a = both (eqb (kind_at t v) 1) (some_below w t (left_child t v) && some_below w t (right_child v)) e in
        let b = both (some_below w t (left_child t v)) (some_below w t (right_child v)) a.1 in
        let k : kind_at t v ≡ 1 = eqb-true (kind_at t v) 1 a.0 in
        record {
          inside = h;
          inner = k;
          left = some-yes (left_child t v) (omega (arith, left_in t v h k)) b.0;
          right = some-yes (right_child v) (omega (arith, right_in t v h k)) b.1;
        }

    yes-forks : (v : ℕ) → Forks w t v → forks_at w t v ≡ true
    unfolding forks_at
    yes-forks v f =
        and_both (eqb (kind_at t v) 1) (some_below w t (left_child t v) && some_below w t (right_child v)) (eq-eqb (kind_at t v) 1 f.inner)
        (and_both (some_below w t (left_child t v)) (some_below w t (right_child v))
        (yes-some (left_child t v) (omega (arith, left_in t v f.inside f.inner, f.inside)) f.left)
        (yes-some (right_child v) (omega (arith, right_in t v f.inside f.inner, f.inside)) f.right))

    -- a child of a forking node
    child-member : (v : ℕ) → v < size t → Forks w t (parent t v) → Member w t v
    child-member v h f = elim (ℕ_discrete (v + 1) (size t)) [
      | yes e ↦ m-root e
      | no e ↦ (let u : Up t v (parent t v) = up t v (omega arith) in
          elim u.child [
            | inl c ↦ subst (Member w t) (let q : right_child (parent t v) ≡ v = omega arith in q) (m-right f)
            | inr c ↦ subst (Member w t) (let q : left_child t (parent t v) ≡ v = omega arith in q) (m-left f)
          ])
    ]

    parent_in : (v : ℕ) → v < size t → parent t v < size t
    parent_in v h = elim (ℕ_discrete (v + 1) (size t)) [
      | yes e ↦ omega (arith, parent-root t v e)
      | no e ↦ (up t v (omega arith)).below
    ]

    is_member : (v : ℕ) → v < size t → has_member w t v ≡ true → Member w t v
    unfolding has_member
    is_member v h e = elim (or_cases (w v) _ e) [
      | inl a ↦ m-listed h a
      | inr b ↦ elim (or_cases (eqb (v + 1) (size t)) _ b) [
        | inl c ↦ m-root (eqb-true (v + 1) (size t) c)
        | inr d ↦ elim (or_cases (forks_at w t v) (forks_at w t (parent t v)) d) [
          | inl f ↦ m-forks (forks-yes v h f)
          | inr g ↦ child-member v h (forks-yes (parent t v) (parent_in v h) g)
        ]
      ]
    ]

    by-parent : (v p : ℕ) → parent t v ≡ p → Forks w t p → has_member w t v ≡ true
    unfolding has_member
    by-parent v p e f =
        or-second (w v) _ (or-second (eqb (v + 1) (size t)) _ (or-second (forks_at w t v) (forks_at w t (parent t v)) (ap (forks_at w t) e ∙ yes-forks p f)))

    member_is : {v : ℕ} → Member w t v → has_member w t v ≡ true
    unfolding has_member
    member_is (m-listed {v} h e) = or-first (w v) _ e
    member_is (m-root {v} e) = or-second (w v) _ (or-first (eqb (v + 1) (size t)) _ (eq-eqb (v + 1) (size t) e))
    member_is (m-forks {v} f) = or-second (w v) _ (or-second (eqb (v + 1) (size t)) _ (or-first (forks_at w t v) (forks_at w t (parent t v)) (yes-forks v f)))
    member_is (m-left {v} f) = by-parent (left_child t v) v (left-parent t v f.inside f.inner) f
    member_is (m-right {v} f) = by-parent (right_child v) v (right-parent t v f.inside f.inner) f

-- ---- the list

module _ (p : ℕ → Bool) where
  kept : (n v : ℕ) → Memᴰ v (keep p n) → (v < n) × (p v ≡ true)
  unfolding keep
  kept zero v m = absurd (Memᴰ.not-nil m)
  kept (suc n) v m = elim (Memᴰ.append_cases (keep p n) m) [
    | inl a ↦ (let k = kept n v a in (omega (arith, k.0), k.1))
    | inr b ↦ go (p n) refl b
  ]
    where
      go : (b : Bool) → p n ≡ b → Memᴰ v (cond b (n ∷ []) []) → (v < suc n) × (p v ≡ true)
      go true e m = let q : v ≡ n = Memᴰ.eq_of_singleton m in (omega arith, ap p q ∙ e)
      go false e m = absurd (Memᴰ.not-nil m)

  keeps : (n v : ℕ) → v < n → p v ≡ true → Memᴰ v (keep p n)
  unfolding keep
  keeps zero v h e = absurd (omega arith)
  keeps (suc n) v h e = elim (ℕ_discrete v n) [
    | yes q ↦ Memᴰ.append_right (keep p n) (rw (← q, e) (Memᴰ.head refl))
    | no q ↦ Memᴰ.append_left (cond (p n) (n ∷ []) []) (keeps n v (omega arith) e)
  ]

  -- a rising list of numbers below n goes on with n
  rising-more : (l : List ℕ) (lo n : ℕ) → Rising lo l → lo ≤ n → ((v : ℕ) → Memᴰ v l → v < n) → Rising lo (l ++ (n ∷ []))
  rising-more [] lo n r h a = (h, tt)
  rising-more (x ∷ l) lo n r h a = (r.0, rising-more l (suc x) n r.1 (omega (arith, a x (Memᴰ.head refl))) (λ v m. a v (Memᴰ.tail m)))

  rises : (n : ℕ) → Rising 0 (keep p n)
  unfolding keep
  rises zero = tt
  rises (suc n) = go (p n) (rises n)
    where
      go : (b : Bool) → Rising 0 (keep p n) → Rising 0 (keep p n ++ cond b (n ∷ []) [])
      go true r = rising-more (keep p n) 0 n r (omega arith) (λ v m. (kept n v m).0)
      go false r = rw (append-nil (keep p n)) r

module _ (w : ℕ → Bool) (t : Tree) where
  pub list-member : {v : ℕ} → Memᴰ v (ready_list w t) → Member w t v
  unfolding ready_list
  list-member {v} m = let k = kept (has_member w t) (size t) v m in is_member w t v k.0 k.1

  pub member-list : {v : ℕ} → Member w t v → Memᴰ v (ready_list w t)
  unfolding ready_list
  member-list {v} m = keeps (has_member w t) (size t) v (member-in w t m) (member_is w t m)

  pub list-ready : {v : ℕ} → Memᴰ v (ready_list w t) → Ready w t v
  list-ready m = member-ready w t (list-member m)

  pub ready-list : {v : ℕ} → Ready w t v → Memᴰ v (ready_list w t)
  ready-list r = member-list (ready-member w t r)

  pub ready-dec : (v : ℕ) → v < size t → Ready w t v ⊎ (Ready w t v → ⊥)
  ready-dec v h = go (has_member w t v) refl
    where
      go : (b : Bool) → has_member w t v ≡ b → Ready w t v ⊎ (Ready w t v → ⊥)
      go true e = inl (member-ready w t (is_member w t v h e))
      go false e = inr (λ r. true-false (has_member w t v) (member_is w t (ready-member w t r)) e)

  pub list-rising : Rising 0 (ready_list w t)
  unfolding ready_list
  list-rising = rises (has_member w t) (size t)

  pub list-last : (v : ℕ) → v + 1 ≡ size t → (l : List ℕ) × (ready_list w t ≡ l ++ (v ∷ []))
  unfolding ready_list keep
  list-last v e =
      let q : size t ≡ suc v = omega arith in
      let i : has_member w t v ≡ true = member_is w t (m-root e) in
      (keep (has_member w t) v, rw (q, i))

  pub list-members : Members w t (ready_list w t)
  list-members = record {
    rising = list-rising;
    inside = λ v m. member-in w t (list-member m);
    closed = record {
      has_listed = λ v h e. member-list (m-listed h e);
      has_root = λ v e. member-list (m-root e);
      has_meets = λ u v x a b m. member-list ((member-closed w t).has_meets u v x (list-member a) (list-member b) m);
      has_children = λ v u x a b c f.
          let r = (member-closed w t).has_children v u x (list-member a) (list-member b) (list-member c) f in (member-list r.0, member-list r.1);
    };
  }

-- ---- one rising list for one set

pub rising-unique : (l m : List ℕ) (lo : ℕ) → Rising lo l → Rising lo m
    → ((v : ℕ) → Memᴰ v l → Memᴰ v m) → ((v : ℕ) → Memᴰ v m → Memᴰ v l) → l ≡ m
rising-unique [] [] lo r s f g = refl
rising-unique [] (y ∷ m) lo r s f g = absurd (Memᴰ.not-nil (g y (Memᴰ.head refl)))
rising-unique (x ∷ l) [] lo r s f g = absurd (Memᴰ.not-nil (f x (Memᴰ.head refl)))
rising-unique (x ∷ l) (y ∷ m) lo r s f g =
    let a : y ≤ x = rising-above (y ∷ m) y x (omega arith, s.1) (f x (Memᴰ.head refl)) in
    let b : x ≤ y = rising-above (x ∷ l) x y (omega arith, r.1) (g y (Memᴰ.head refl)) in
    let e : x ≡ y = omega arith in
    ap₂ (λ (z : ℕ) (k : List ℕ). z ∷ k) e
    (rising-unique l m (suc x) r.1 (subst (λ (z : ℕ). Rising (suc z) m) (sym e) s.1)
    (λ v k. elim (Memᴰ.cases_cons (f v (Memᴰ.tail k))) [
      | inl q ↦ absurd (omega (arith, rising-above l (suc x) v r.1 k))
      | inr z ↦ z
    ])
    (λ v k. elim (Memᴰ.cases_cons (g v (Memᴰ.tail k))) [
      | inl q ↦ absurd (omega (arith, rising-above m (suc y) v s.1 k))
      | inr z ↦ z
    ]))
