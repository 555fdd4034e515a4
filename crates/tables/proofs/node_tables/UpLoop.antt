-- The iterations of the pass up that writes sizes and parents.
--     iteration-other .. iteration-right        what an iteration leaves unchanged and what it writes
--     size-beside, right-first        the same where the right child's parent is written first
--     at_right .. inner-args          an inner node's children and size, from the table so far
--     cleared-written, leaf-turn, inner-iteration   one node more
--     none_yet, all_up                before the first and after the last
--     turns .. turn-room              the same of every tree with these kinds, as the loop has it
use Prim.Native.Nat.{ℕ, ◌+◌, ◌-◌, ◌*◌, ◌≤◌, ◌<◌}
use mathlib.Core.Path.{◌≡◌, sym, ap, ◌∙◌, subst}
use mathlib.Core.List.{List}
use mathlib.Core.Logic.{◌⊎◌, inl, inr}
use native.Mathlib.Decide.{ℕ_discrete}
use native.Mathlib.Omega.{arith}
use lib.ListN.{length, get_or, set, length-set}
use lib.Seq.{get_or-set_same, get_or-set_other, set_comm}
use Rattle.trees.specs.Tree.{Tree, kinds_of, size}
use Rattle.trees.specs.Numbering.{sub, parent}
use Rattle.trees.proofs.NodeLaws.{Inner, inner, Up, up, sub-leaf, sub-size, size-pos, parent-root}
use Rattle.trees.proofs.PostorderLaws.{size_of, kind-of, some-tree}
use Rattle.tables.specs.node_tables.Cells.{parent_cell, size_cell, NodeTableArgs}
use Rattle.tables.specs.node_tables.NodeCells.{UpTo, UpWritten, AllUpWritten}
use Rattle.tables.specs.node_tables.inner.UpPass.{left_of, inner_size, iteration, inner_iteration, cleared, before}
use Rattle.tables.specs.node_tables.inner.UpPass.{up_iteration}
use Rattle.tables.specs.node_tables.inner.UpPass.{InnerArgs, TurnArgs}

-- ---- what an iteration leaves unchanged and what it writes

module _ (b : List ℕ) (i s r l : ℕ) (room : i * 4 + 4 ≤ length b) (hr : r < i) (hl : l < i) where
  iteration-other : (j : ℕ) → (j ≡ i * 4 + 3 → ⊥) → (j ≡ r * 4 → ⊥) → (j ≡ l * 4 → ⊥)
      → get_or (iteration b i s r l) j 0 ≡ get_or b j 0
  iteration-other j a c d =
      get_or-set_other (set (set b (i * 4 + 3) s) (r * 4) i) (l * 4) j i 0 d
      ∙ get_or-set_other (set b (i * 4 + 3) s) (r * 4) j i 0 c ∙ get_or-set_other b (i * 4 + 3) j s 0 a

  iteration-size : size_cell (iteration b i s r l) i ≡ s
  iteration-size =
      get_or-set_other (set (set b (i * 4 + 3) s) (r * 4) i) (l * 4) (i * 4 + 3) i 0 (omega arith)
      ∙ get_or-set_other (set b (i * 4 + 3) s) (r * 4) (i * 4 + 3) i 0 (omega arith)
      ∙ get_or-set_same b (i * 4 + 3) s 0 (omega arith)

  iteration-left : parent_cell (iteration b i s r l) l ≡ i
  iteration-left = get_or-set_same (set (set b (i * 4 + 3) s) (r * 4) i) (l * 4) i 0 (simp length-set (omega arith))

  iteration-right : (r ≡ l → ⊥) → parent_cell (iteration b i s r l) r ≡ i
  iteration-right ne =
      get_or-set_other (set (set b (i * 4 + 3) s) (r * 4) i) (l * 4) (r * 4) i 0 (omega arith)
      ∙ get_or-set_same (set b (i * 4 + 3) s) (r * 4) i 0 (simp length-set (omega arith))

pub size-beside : (b : List ℕ) (r l v : ℕ) → size_cell (set b (r * 4) v) l ≡ size_cell b l
size-beside b r l v = get_or-set_other b (r * 4) (l * 4 + 3) v 0 (omega arith)

pub right-first : (b : List ℕ) (v c : ℕ) →
    let d = cleared b v in
    let l = before d (v - c) in
    set (set (set d ((v - c) * 4) v) (v * 4 + 3) (size_cell (set d ((v - c) * 4) v) l + size_cell d (v - c) + 1)) (l * 4) v
    ≡ up_iteration b v c
right-first b v c =
    let d = cleared b v in
    let r = v - c in
    let l = before d r in
    ap (λ (s : ℕ). set (set (set d (r * 4) v) (v * 4 + 3) (s + size_cell d r + 1)) (l * 4) v) (size-beside d r l v)
    ∙ ap (λ (x : List ℕ). set x (l * 4) v)
    (set_comm d (r * 4) (v * 4 + 3) v (size_cell d l + size_cell d r + 1) (omega arith))

-- ---- an inner node's children and size, from the table so far

-- a leaf is no parent
pub no-parent : (t : Tree) (i v : ℕ) → get_or (kinds_of t) i 0 ≡ 0 → v + 1 < size t → parent t v ≡ i → ⊥
no-parent t i v k l e = omega (arith, (up t v l).inside, ap (λ (n : ℕ). get_or (kinds_of t) n 0) e)

-- an inner node's kind is 1
pub inner-kind : (t : Tree) (i : ℕ) → i < size t → (get_or (kinds_of t) i 0 ≡ 0 → ⊥) → get_or (kinds_of t) i 0 ≡ 1
inner-kind t i h k =
    let I : Inner t i = inner t i h k in
    ap (λ (n : ℕ). get_or (kinds_of t) n 0) (sym I.right-up) ∙ (up t (i - 1) (omega (arith, I.at))).inside

-- an inner node's children are its right and its left one
pub child-is : (t : Tree) (i : ℕ) (I : Inner t i) (v : ℕ) → Up t v i → (v ≡ i - 1) ⊎ (v ≡ I.left)
child-is t i I v u = elim u.child [ inl c ↦ inl (omega arith) | inr c ↦ inr (omega (arith, I.at)) ]

module _ (t : Tree) (i : ℕ) (b : List ℕ) (p : UpTo t i b) (h : i < size t) (I : Inner t i) where
  pub at_right : size_cell b (i - 1) ≡ size (sub t (i - 1))
  at_right = p.sizes (i - 1) (omega (arith, I.at))

  pub at_left : left_of b i ≡ I.left
  at_left = omega (arith, at_right, I.at)

  left-size : size_cell b (left_of b i) ≡ size (sub t I.left)
  left-size = ap (size_cell b) at_left ∙ p.sizes I.left (omega (arith, I.at))

  pub new-size : inner_size b i ≡ size (sub t i)
  new-size = omega (arith, left-size, at_right, ap size I.is)

  pub inner-args : i * 4 + 4 ≤ length b → size t ≤ 65535 → InnerArgs b i
  inner-args room m = record {
    pos = omega (arith, I.at);
    small = omega arith;
    room = room;
    right = omega (arith, at_right, I.at);
    fits = omega (arith, new-size, sub-size t i h);
  }

-- what an iteration needs: of a leaf, and of an inner node once its size is cleared
leaf-args : (b : List ℕ) (i : ℕ) → i ≤ 65535 → i * 4 + 4 ≤ length b → TurnArgs b i 0
leaf-args b i m room =
    let r : i - 0 ≡ i = omega arith in
    let z : size_cell (cleared b i) (i - 0) ≡ 0 =
    ap (size_cell (cleared b i)) r ∙ get_or-set_same b (i * 4 + 3) 0 0 (omega arith) in
    let l : before (cleared b i) (i - 0) ≡ i - 0 = omega (arith, z) in
    record {
      kind = omega arith;
      small = m;
      room = room;
      right = omega (arith, z);
      fits = omega (arith, ap (size_cell (cleared b i)) l, z);
    }

one-args : (b : List ℕ) (i : ℕ) → InnerArgs (cleared b i) i → TurnArgs b i 1
one-args b i a = record {
  kind = a.pos;
  small = a.small;
  room = simp length-set at a.room;
  right = omega (arith, a.right);
  fits = a.fits;
}

-- ---- one node more

module _ (t : Tree) (i : ℕ) (b₀ b : List ℕ) (p : UpWritten t i b₀ b) (h : i < size t)
    (room : i * 4 + 4 ≤ length b) where
  leaf-iteration : get_or (kinds_of t) i 0 ≡ 0 → UpWritten t (i + 1) b₀ (set b (i * 4 + 3) 1)
  leaf-iteration k = record {
    cells = record {
      sizes = λ v l. elim (ℕ_discrete v i) [
        | yes e ↦ rw e (get_or-set_same b (i * 4 + 3) 1 0 (omega arith) ∙ sym (ap size (sub-leaf t i h k)))
        | no e ↦ get_or-set_other b (i * 4 + 3) (v * 4 + 3) 1 0 (omega arith) ∙ p.cells.sizes v (omega arith)
      ];
      parents = λ v l q. get_or-set_other b (i * 4 + 3) (v * 4) 1 0 (omega arith)
          ∙ p.cells.parents v l (omega (arith, no-parent t i v k l));
    };
    kept = λ j a. get_or-set_other b (i * 4 + 3) j 1 0 (a i h).1 ∙ p.kept j a;
  }

  -- the size of node i may be cleared before its iteration, and its parent may be anything after it
  cleared-written : UpWritten t i b₀ (cleared b i)
  cleared-written = record {
    cells = record {
      sizes = λ v l. get_or-set_other b (i * 4 + 3) (v * 4 + 3) 0 0 (omega arith) ∙ p.cells.sizes v l;
      parents = λ v l q. get_or-set_other b (i * 4 + 3) (v * 4) 0 0 (omega arith) ∙ p.cells.parents v l q;
    };
    kept = λ j a. get_or-set_other b (i * 4 + 3) j 0 0 (a i h).1 ∙ p.kept j a;
  }

  module _ (I : Inner t i) where
    iterated : (v : ℕ) → (v ≡ i - 1) ⊎ (v ≡ I.left) → parent_cell (iteration b i (size (sub t i)) (i - 1) I.left) v ≡ i
    iterated v (inl e) =
        rw e (iteration-right b i (size (sub t i)) (i - 1) I.left room (omega (arith, I.at)) (omega (arith, I.at))
        (omega (arith, I.at, size-pos (sub t (i - 1)))))
    iterated v (inr e) =
        rw e (iteration-left b i (size (sub t i)) (i - 1) I.left room (omega (arith, I.at)) (omega (arith, I.at)))

    iteration-written : UpWritten t (i + 1) b₀ (iteration b i (size (sub t i)) (i - 1) I.left)
    iteration-written =
        let rl : i - 1 < i = omega (arith, I.at) in
        let ll : I.left < i = omega (arith, I.at) in
        let other = iteration-other b i (size (sub t i)) (i - 1) I.left room rl ll in
        record {
          cells = record {
            sizes = λ v l. elim (ℕ_discrete v i) [
              | yes e ↦ rw e (iteration-size b i (size (sub t i)) (i - 1) I.left room rl ll)
              | no e ↦ other (v * 4 + 3) (omega arith) (omega arith) (omega arith) ∙ p.cells.sizes v (omega arith)
            ];
            parents = λ v l q. elim (ℕ_discrete (parent t v) i) [
              | yes e ↦ iterated v (child-is t i I v (subst (Up t v) e (up t v l))) ∙ sym e
              | no e ↦ other (v * 4) (omega arith) (λ z. e (ap (parent t) (omega arith) ∙ I.right-up))
                  (λ z. e (ap (parent t) (omega arith) ∙ I.left_up)) ∙ p.cells.parents v l (omega arith)
            ];
          };
          kept = λ j a. other j (a i h).1 (omega (arith, (a (i - 1) (omega arith)).0))
              (omega (arith, (a I.left (omega arith)).0))
              ∙ p.kept j a;
        }

    inner-iteration : UpWritten t (i + 1) b₀ (inner_iteration b i)
    inner-iteration = rw (new-size t i b p.cells h I, at_left t i b p.cells h I) iteration-written

parent-later : (t : Tree) (i : ℕ) (b₀ b : List ℕ) (x : ℕ) → i < size t → UpWritten t (i + 1) b₀ b
    → UpWritten t (i + 1) b₀ (set b (i * 4) x)
parent-later t i b₀ b x h p = record {
  cells = record {
    sizes = λ v l. get_or-set_other b (i * 4) (v * 4 + 3) x 0 (omega arith) ∙ p.cells.sizes v l;
    parents = λ v l q. get_or-set_other b (i * 4) (v * 4) x 0 (omega (arith, (up t v l).above)) ∙ p.cells.parents v l q;
  };
  kept = λ j a. get_or-set_other b (i * 4) j x 0 (omega (arith, (a i h).0)) ∙ p.kept j a;
}

module _ (t : Tree) (i : ℕ) (b₀ b : List ℕ) (p : UpWritten t i b₀ b) (h : i < size t)
    (room : i * 4 + 4 ≤ length b) where
  room-cleared : i * 4 + 4 ≤ length (cleared b i)
  room-cleared = simp length-set room

  leaf-alone : get_or (kinds_of t) i 0 ≡ 0 → UpWritten t (i + 1) b₀ (iteration (cleared b i) i 1 i i)
  leaf-alone k =
      parent-later t i b₀ (set (set (cleared b i) (i * 4 + 3) 1) (i * 4) i) i h
      (parent-later t i b₀ (set (cleared b i) (i * 4 + 3) 1) i h
      (leaf-iteration t i b₀ (cleared b i) (cleared-written t i b₀ b p h room) h room-cleared k))

  -- a leaf's children are itself, and nothing is below it
  leaf-turn : get_or (kinds_of t) i 0 ≡ 0 → UpWritten t (i + 1) b₀ (up_iteration b i 0)
  leaf-turn k =
      flat (i - 0) (size_cell (cleared b i) (i - 0)) (before (cleared b i) (i - 0)) r (ap (size_cell (cleared b i)) r ∙ z)
      (omega (arith, ap (size_cell (cleared b i)) r, z))
    where
      r : i - 0 ≡ i
      r = omega arith

      z : size_cell (cleared b i) i ≡ 0
      z = get_or-set_same b (i * 4 + 3) 0 0 (omega arith)

      flat : (r s l : ℕ) → r ≡ i → s ≡ 0 → l ≡ i
          → UpWritten t (i + 1) b₀ (iteration (cleared b i) i (size_cell (cleared b i) l + s + 1) r l)
      flat r s l er es el = rw (er, es, el, z) (leaf-alone k)

  inner-turn : Inner t i → UpWritten t (i + 1) b₀ (up_iteration b i 1)
  inner-turn I = inner-iteration t i b₀ (cleared b i) (cleared-written t i b₀ b p h room) h room-cleared I

-- ---- before the first node and after the last

pub none_yet : (t : Tree) (b : List ℕ) → UpTo t 0 b
none_yet t b = record { sizes = λ v l. absurd (omega arith); parents = λ v l q. absurd (omega arith) }

-- the root's own parent is stored after all
all_up : (t : Tree) (b₀ b : List ℕ) → UpWritten t (size t) b₀ b → size t * 4 ≤ length b → (m : ℕ) → m + 1 ≡ size t
    → AllUpWritten t b₀ (set b (m * 4) m)
all_up t b₀ b p room m e = record {
  cells = record {
    sizes = λ v l. get_or-set_other b (m * 4) (v * 4 + 3) m 0 (omega arith) ∙ p.cells.sizes v l;
    parents = λ v l. elim (ℕ_discrete v m) [
      | yes q ↦ rw q (get_or-set_same b (m * 4) m 0 (omega arith) ∙ sym (parent-root t m e))
      | no q ↦ get_or-set_other b (m * 4) (v * 4) m 0 (omega arith)
          ∙ p.cells.parents v (omega arith) (up t v (omega arith)).below
    ];
  };
  kept = λ j a. get_or-set_other b (m * 4) j m 0 (omega (arith, (a m (omega arith)).0)) ∙ p.kept j a;
}

-- ---- the same of every tree with these kinds

abbrev pub UpsWritten : List ℕ → ℕ → List ℕ → List ℕ → Type 0
UpsWritten ks i b₀ b = (t : Tree) → kinds_of t ≡ ks → UpWritten t i b₀ b

module _ (ks : List ℕ) (i : ℕ) (b₀ b : List ℕ) (all : UpsWritten ks i b₀ b) where
  pub turns : i < length ks → length ks * 4 ≤ length b → (c : ℕ) → c ≡ get_or ks i 0 → UpsWritten ks (i + 1) b₀
      (up_iteration b i c)
  turns h room c e t f =
      let hi : i < size t = omega (arith, size_of t ks f) in
      let k : get_or (kinds_of t) i 0 ≡ c = kind-of t ks i f ∙ sym e in
      elim (ℕ_discrete c 0) [
        | yes z ↦ subst (λ (x : ℕ). UpWritten t (i + 1) b₀ (up_iteration b i x)) (sym z)
            (leaf-turn t i b₀ b (all t f) hi (omega arith) (k ∙ z))
        | no z ↦ subst (λ (x : ℕ). UpWritten t (i + 1) b₀ (up_iteration b i x))
            (sym (inner-kind t i hi (λ y. z (sym k ∙ y))) ∙ k)
            (inner-turn t i b₀ b (all t f) hi (omega arith) (inner t i hi (λ y. z (sym k ∙ y))))
      ]

  pub all-written : length ks ≤ i → i ≤ length ks → length ks * 4 ≤ length b → (t : Tree) → kinds_of t ≡ ks
      → AllUpWritten t b₀ (set b ((length ks - 1) * 4) (length ks - 1))
  all-written g h room t e =
      let z : i ≡ size t = omega (arith, size_of t ks e) in
      all_up t b₀ b (subst (λ (n : ℕ). UpWritten t n b₀ b) z (all t e)) (omega (arith, size_of t ks e)) (length ks - 1)
      (omega (arith, size_of t ks e, size-pos t))

-- what a node's iteration needs, from the kinds
pub turn-room : (ks : List ℕ) (i m : ℕ) (b₀ b : List ℕ) → NodeTableArgs ks m → length b ≡ m → i < length ks
    → UpsWritten ks i b₀ b → TurnArgs b i (get_or ks i 0)
turn-room ks i m b₀ b args lb h all =
    let T : (t : Tree) × (kinds_of t ≡ ks) = some-tree ks args.postorder in
    let s : length ks ≡ size T.0 = size_of T.0 ks T.1 in
    let hi : i < size T.0 = omega arith in
    let room : i * 4 + 4 ≤ length b = omega (arith, args.room) in
    let k : get_or (kinds_of T.0) i 0 ≡ get_or ks i 0 = kind-of T.0 ks i T.1 in
    let C : UpWritten T.0 i b₀ (cleared b i) = cleared-written T.0 i b₀ b (all T.0 T.1) hi room in
    elim (ℕ_discrete (get_or ks i 0) 0) [
      | yes z ↦ subst (TurnArgs b i) (sym z) (leaf-args b i (omega (arith, args.most)) room)
      | no z ↦ subst (TurnArgs b i) (sym (inner-kind T.0 i hi (λ y. z (sym k ∙ y))) ∙ k)
          (one-args b i (inner-args T.0 i (cleared b i) C.cells hi (inner T.0 i hi (λ y. z (sym k ∙ y)))
          (simp length-set room) (omega (arith, args.most))))
    ]

-- and an inner node's
pub inner_room : (ks : List ℕ) (i m : ℕ) (b : List ℕ) → NodeTableArgs ks m → length b ≡ m → i < length ks
    → (get_or ks i 0 ≡ 0 → ⊥) → ((t : Tree) → kinds_of t ≡ ks → UpTo t i b) → InnerArgs b i
inner_room ks i m b args lb h k all =
    let T : (t : Tree) × (kinds_of t ≡ ks) = some-tree ks args.postorder in
    let s : length ks ≡ size T.0 = size_of T.0 ks T.1 in
    let hi : i < size T.0 = omega arith in
    inner-args T.0 i b (all T.0 T.1) hi (inner T.0 i hi (λ z. k (sym (kind-of T.0 ks i T.1) ∙ z)))
    (omega (arith, args.room)) (omega (arith, args.most))
