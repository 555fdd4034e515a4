-- On numbers as built: what the pass over neighbours adds to a list.
--     Added t a bs l k     k is l with the nodes bs and, for neighbours whose lowest common ancestor is not the second, that ancestor
--                          and its two children; nothing else
--     forks-built          forks_on gives such a list
use Rattle.std.proofs.Common.{◌≡◌, ℕ, suc, ◌+◌, ◌-◌, ◌<◌, cond, eqb, ◌⊎◌, List, [], ◌∷◌, sym, refl, subst, inl, inr, arith, lt-ltb, eq-eqb, ne_eqb, le-leb}
use mathlib.Core.List.Memᴰ
use mathlib.Core.List.{Memᴰ}
use mathlib.Core.Option.{some}
use native.Mathlib.Decide.{ℕ_discrete}
use Rattle.trees.specs.Tree.{Tree, size, kind_at}
use Rattle.trees.specs.Numbering.{sub}
use Rattle.trees.specs.Climb.{and_then}
use Rattle.trees.proofs.NodeLaws.{Inner, inner}
use Rattle.tables.specs.node_tables.Cells.{size_cell}
use Rattle.tables.specs.node_tables.NodeCells.{NodeCells}
use Rattle.questions.specs.ready.Ready.{Meet, left_child, right_child}
use Rattle.questions.specs.ready.Members.{Rising}
use Rattle.questions.proofs.ready.BelowLaws.{rising-above}
use Rattle.questions.proofs.ready.ClosedForm.{parted}
use Rattle.questions.specs.Search.{meet_on}
use Rattle.questions.specs.Roots.{insert_rising, with_fork, with_meet, forks_on}
use Rattle.questions.proofs.InsertLaws.{member-insert, insert-old, insert-new, insert-rising, Next, here, later, next-second}
use Rattle.questions.proofs.MeetBuilt.{meet-built, meet-unique}

-- x is node m or one of its children
abbrev pub Of : Tree → ℕ → ℕ → Type 0
Of t m x = (x ≡ m) ⊎ ((x ≡ right_child m) ⊎ (x ≡ left_child t m))

pub record Added (t : Tree) (a : ℕ) (bs l k : List ℕ) : Type 0 where
  pub old : (x : ℕ) → Memᴰ x l → Memᴰ x k
  pub listed : (x : ℕ) → Memᴰ x bs → Memᴰ x k
  pub forked : (u v m x : ℕ) → Next a bs u v → (v + 1 ≡ size t → ⊥) → Meet t u v m → (m ≡ v → ⊥) → Of t m x → Memᴰ x k
  pub only : (x : ℕ) → Memᴰ x k
      → Memᴰ x l ⊎ (Memᴰ x bs ⊎ ((u : ℕ) × (v : ℕ) × (m : ℕ) × Next a bs u v × Meet t u v m × (m ≡ v → ⊥) × Of t m x))
  pub rising : Rising 0 l → Rising 0 k

module _ (t : Tree) (node_table : List ℕ) (L : NodeCells t node_table) where
  -- ---- one pair of neighbours

  pub record Paired (a b : ℕ) (l k : List ℕ) : Type 0 where
    pub old : (x : ℕ) → Memᴰ x l → Memᴰ x k
    pub forked : (m x : ℕ) → Meet t a b m → (m ≡ b → ⊥) → Of t m x → Memᴰ x k
    pub only : (x : ℕ) → Memᴰ x k → Memᴰ x l ⊎ ((m : ℕ) × Meet t a b m × (m ≡ b → ⊥) × Of t m x)
    pub rising : Rising 0 l → Rising 0 k

  three : (m : ℕ) (l : List ℕ) → List ℕ
  three m l = insert_rising m (insert_rising (right_child m) (insert_rising (left_child t m) l))

  fork-room : (m : ℕ) → m < size t → kind_at t m ≡ 1 → (l : List ℕ) → with_fork node_table m l ≡ some (three m l)
  unfolding with_fork three
  fork-room m h k l =
      let i : Inner t m = inner t m h (λ e. omega arith) in
      let s : size_cell node_table (m - 1) ≡ size (sub t (m - 1)) = L.sizes (m - 1) (omega arith) in
      rw (s, lt-ltb 0 m (omega (arith, i.at)), le-leb (size (sub t (m - 1))) (m - 1) (omega (arith, i.at)))

  same-pair : (a b : ℕ) (l : List ℕ) → Meet t a b b → Paired a b l l
  same-pair a b l m = record {
    old = λ x k. k;
    forked = λ y x my n o. absurd (n (meet-unique t a b y b my m));
    only = λ x k. inl k;
    rising = λ r. r;
  }

  three-pair : (a b m : ℕ) (l : List ℕ) → Meet t a b m → (m ≡ b → ⊥) → Paired a b l (three m l)
  unfolding three
  three-pair a b m l mm n = record {
    old = λ x k. insert-old m x _ (insert-old (right_child m) x _ (insert-old (left_child t m) x l k));
    forked = λ y x my ny o. add x (subst (λ (z : ℕ). Of t z x) (meet-unique t a b y m my mm) o);
    only = λ x k. elim (member-insert m x _ k) [
      | inl e ↦ inr (m, mm, n, inl e)
      | inr k ↦ elim (member-insert (right_child m) x _ k) [
        | inl e ↦ inr (m, mm, n, inr (inl e))
        | inr k ↦ elim (member-insert (left_child t m) x l k) [
          | inl e ↦ inr (m, mm, n, inr (inr e))
          | inr k ↦ inl k
        ]
      ]
    ];
    rising = λ r. insert-rising m _ 0 (omega arith) (insert-rising (right_child m) _ 0 (omega arith) (insert-rising (left_child t m) l 0 (omega arith) r));
  }
    where
      add : (x : ℕ) → Of t m x → Memᴰ x (insert_rising m (insert_rising (right_child m) (insert_rising (left_child t m) l)))
      add x (inl e) =
          subst (λ (z : ℕ). Memᴰ z (insert_rising m (insert_rising (right_child m) (insert_rising (left_child t m) l)))) (sym e)
          (insert-new m (insert_rising (right_child m) (insert_rising (left_child t m) l)))
      add x (inr (inl e)) =
          insert-old m x (insert_rising (right_child m) (insert_rising (left_child t m) l))
          (subst (λ (z : ℕ). Memᴰ z (insert_rising (right_child m) (insert_rising (left_child t m) l))) (sym e)
          (insert-new (right_child m) (insert_rising (left_child t m) l)))
      add x (inr (inr e)) =
          insert-old m x (insert_rising (right_child m) (insert_rising (left_child t m) l))
          (insert-old (right_child m) x (insert_rising (left_child t m) l)
          (subst (λ (z : ℕ). Memᴰ z (insert_rising (left_child t m) l)) (sym e) (insert-new (left_child t m) l)))

  pair-built : (a b : ℕ) (l : List ℕ) → a < b → b < size t → (k : List ℕ) × (with_meet (size t) node_table a b l ≡ some k) × Paired a b l k
  unfolding with_meet
  pair-built a b l lt hb = go (meet-built t node_table L a (omega arith) b hb)
    where
      go : ((x : ℕ) × (meet_on (size t) node_table a b ≡ some x) × Meet t a b x)
          → (k : List ℕ) × (and_then (meet_on (size t) node_table a b) (λ x. cond (eqb x b) (some l) (with_fork node_table x l)) ≡ some k) × Paired a b l k
      go (x, e, m) = elim (ℕ_discrete x b) [
        | yes q ↦ (l, rw (e, eq-eqb x b q), same-pair a b l (subst (Meet t a b) q m))
        | no n ↦ (let na : x ≡ a → ⊥ = λ z. omega (arith, m.second) in
            let P = parted t a b x (omega arith) hb m na n in
            (three x l, rw (e, ne_eqb x b n) (fork-room x m.inside P.0 l), three-pair a b x l m n))
      ]

  -- ---- all neighbours

  -- the last node ends the pass
  last-added : (a b : ℕ) (bs l : List ℕ) → b + 1 ≡ size t → Rising (suc b) bs → ((x : ℕ) → Memᴰ x bs → x < size t)
      → Added t a (b ∷ bs) l (insert_rising b l)
  last-added a b bs l e r h = record {
    old = λ x k. insert-old b x l k;
    listed = λ x k. elim (Memᴰ.cases_cons k) [
      | inl q ↦ subst (λ (z : ℕ). Memᴰ z (insert_rising b l)) (sym q) (insert-new b l)
      | inr z ↦ absurd (none x z)
    ];
    forked = λ u v m x n d mm nm o. absurd (ends n d);
    only = λ x k. elim (member-insert b x l k) [ inl q ↦ inr (inl (Memᴰ.head q)) | inr z ↦ inl z ];
    rising = λ s. insert-rising b l 0 (omega arith) s;
  }
    where
      none : (x : ℕ) → Memᴰ x bs → ⊥
      none x m = omega (arith, rising-above bs (suc b) x r m, h x m)

      ends : {u v : ℕ} → Next a (b ∷ bs) u v → (v + 1 ≡ size t → ⊥) → ⊥
      ends here d = d e
      ends {v = v} (later n) d = none v (next-second n)

  -- a pair and the rest
  more_added : (a b : ℕ) (bs l k j : List ℕ) → Paired a b l k → Added t b bs (insert_rising b k) j → Added t a (b ∷ bs) l j
  more_added a b bs l k j P A = record {
    old = λ x m. A.old x (insert-old b x k (P.old x m));
    listed = λ x m. elim (Memᴰ.cases_cons m) [
      | inl q ↦ A.old x (subst (λ (z : ℕ). Memᴰ z (insert_rising b k)) (sym q) (insert-new b k))
      | inr z ↦ A.listed x z
    ];
    forked = λ u v m x n d mm nm o. fork u v m x n d mm nm o;
    only = λ x m. elim (A.only x m) [
      | inl z ↦ elim (member-insert b x k z) [
        | inl q ↦ inr (inl (Memᴰ.head q))
        | inr y ↦ elim (P.only x y) [ inl o ↦ inl o | inr f ↦ inr (inr (a, b, f.0, here, f.1, f.2, f.3)) ]
      ]
      | inr z ↦ elim z [
        | inl y ↦ inr (inl (Memᴰ.tail y))
        | inr f ↦ inr (inr (f.0, f.1, f.2, later f.3, f.4, f.5, f.6))
      ]
    ];
    rising = λ r. A.rising (insert-rising b k 0 (omega arith) (P.rising r));
  }
    where
      fork : (u v m x : ℕ) → Next a (b ∷ bs) u v → (v + 1 ≡ size t → ⊥) → Meet t u v m → (m ≡ v → ⊥) → Of t m x → Memᴰ x j
      fork u v m x here d mm nm o = A.old x (insert-old b x k (P.forked m x mm nm o))
      fork u v m x (later n) d mm nm o = A.forked u v m x n d mm nm o

  pub forks-built : (bs : List ℕ) (a : ℕ) (l : List ℕ) → Rising (suc a) bs → ((x : ℕ) → Memᴰ x bs → x < size t)
      → (k : List ℕ) × (forks_on (size t) node_table a bs l ≡ some k) × Added t a bs l k
  unfolding forks_on
  forks-built [] a l r h = (
    l,
    refl,
    record {
      old = λ x m. m;
      listed = λ x m. absurd (Memᴰ.not-nil m);
      forked = λ u v m x n d mm nm o. absurd (Memᴰ.not-nil (next-second n));
      only = λ x m. inl m;
      rising = λ s. s;
    },
  )
  forks-built (b ∷ bs) a l r h =
      let hb : b < size t = h b (Memᴰ.head refl) in
      elim (ℕ_discrete b (size t - 1)) [
        | yes e ↦ (insert_rising b l, rw (eq-eqb b (size t - 1) e), last-added a b bs l (omega arith) r.1 (λ x m. h x (Memᴰ.tail m)))
        | no n ↦ (let P = pair-built a b l (omega (arith, r.0)) hb in
            let A = forks-built bs b (insert_rising b P.0) r.1 (λ x m. h x (Memᴰ.tail m)) in
            (A.0, rw (ne_eqb b (size t - 1) n, P.1) A.1, more_added a b bs l P.0 A.0 P.2 A.2))
      ]
