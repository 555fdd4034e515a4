-- The stack and what is written, in the file's buffer: one law for each of the three things that a node does.
--     stack_same, cells_same, cells-cons, cells-end     only their own cells count
--     push-done, count-done                             one entry more; the count of a list
use Prim.Native.Nat.{ℕ, zero, suc, ◌+◌, ◌-◌, ◌*◌, ◌%◌, ◌≤◌, ◌<◌, min}
use mathlib.Core.Path.{◌≡◌, refl, sym, ap, ap₂, ◌∙◌}
use mathlib.Core.Bool.{Bool, true, false}
use mathlib.Core.List.{List, [], ◌∷◌}
use mathlib.Core.Option.{Option, none, some}
use native.Mathlib.Omega.{arith}
use native.Mathlib.Numerals.{add-one}
use lib.Dec.{leb}
use lib.ListN.{length, get_or, set, take, drop, length-set, length-take, length-drop}
use lib.Seq.{get_or-set_same, get_or-set_other, ext_get_or, get_or-take, get_or-drop, drop-cons}
use borrow.Author.Tests.{le-leb, lt-leb}
use Rattle.planner.specs.inner.HomeMachine.{Waiting, waiting, with_count, homeward}
use Rattle.planner.specs.home.inner.Cells.{waiting_at, stack_of, cells_from, home_now, marked, Kept, PushArgs}
use Rattle.planner.specs.home.inner.Cells.{PushDone, CountArgs, CountDone}

pub stack_same : (p q : List ℕ) (n d : ℕ) → ((j : ℕ) → j < d → get_or q (12 + j) 0 ≡ get_or p (12 + j) 0)
    → ((j : ℕ) → j < d → get_or q (12 + n + j) 0 ≡ get_or p (12 + n + j) 0) → stack_of q n d ≡ stack_of p n d
unfolding stack_of
stack_same p q n zero h k = refl
stack_same p q n (suc d) h k =
    rw (h d (omega arith), k d (omega arith))
    (ap (λ (st : List Waiting). waiting_at p n d ∷ st)
    (stack_same p q n d (λ j l. h j (omega arith)) (λ j l. k j (omega arith))))

pub cells_same : (p q : List ℕ) (base n i : ℕ) → length q ≡ length p
    → ((j : ℕ) → i ≤ j → j < n → get_or q (base + j) 0 ≡ get_or p (base + j) 0)
    → cells_from q base n i ≡ cells_from p base n i
cells_same p q base n i e h =
    ext_get_or 0 (cells_from q base n i) (cells_from p base n i)
    (len q ∙ ap (λ (k : ℕ). min (n - i) (k - (base + i))) e ∙ sym (len p))
    (λ j l. each j (omega (arith, len q)))
  where
    len : (l : List ℕ) → length (cells_from l base n i) ≡ min (n - i) (length l - (base + i))
    len l = length-take (n - i) (drop (base + i) l) ∙ ap (min (n - i)) (length-drop (base + i) l)

    each : (j : ℕ) → j < n - i → get_or (cells_from q base n i) j 0 ≡ get_or (cells_from p base n i) j 0
    each j l =
        let z : base + i + j ≡ base + (i + j) = omega arith in
        get_or-take (n - i) (drop (base + i) q) j 0 l ∙ get_or-drop (base + i) q j 0
        ∙ ap (λ (k : ℕ). get_or q k 0) z ∙ h (i + j) (omega arith) (omega arith) ∙ ap (λ (k : ℕ). get_or p k 0) (sym z)
        ∙ sym (get_or-take (n - i) (drop (base + i) p) j 0 l ∙ get_or-drop (base + i) p j 0)

pub cells-cons : (q : List ℕ) (base n i : ℕ) → i < n → base + n ≤ length q
    → cells_from q base n i ≡ get_or q (base + i) 0 ∷ cells_from q base n (i + 1)
cells-cons q base n i h room =
    let e : n - i ≡ suc (n - (i + 1)) = omega arith in
    let d : drop (base + i) q ≡ get_or q (base + i) 0 ∷ drop (suc (base + i)) q =
    drop-cons q (base + i) 0 (omega arith) in
    let z : suc (base + i) ≡ base + (i + 1) = omega arith in
    ap₂ (λ (k : ℕ) (l : List ℕ). take k l) e d ∙ ap (λ (k : ℕ). get_or q (base + i) 0 ∷ take (n - (i + 1)) (drop k q)) z

pub cells-end : (q : List ℕ) (base n : ℕ) → cells_from q base n n ≡ []
cells-end q base n = let e : n - n ≡ 0 = omega arith in ap (λ (k : ℕ). take k (drop (base + n) q)) e

-- ---- a label on the stack

pub marked-first : (a run : ℕ) → run ≡ 0 → a + 64 ≡ marked a run
marked-first a zero e = refl
marked-first a (suc run) e = absurd (omega arith)

pub marked-later : (a run : ℕ) → (run ≡ 0 → ⊥) → a ≡ marked a run
marked-later a zero e = absurd (e refl)
marked-later a (suc run) e = refl

mark-label : (a run : ℕ) → a < 64 → marked a run % 64 ≡ a
mark-label a zero h = omega arith
mark-label a (suc run) h = omega arith

mark-first : (a : ℕ) → leb 64 (marked a 0) ≡ true
mark-first a = le-leb 64 (a + 64) (omega arith)

mark-later : (a run : ℕ) → a < 64 → leb 64 (marked a (suc run)) ≡ false
mark-later a run h = lt-leb 64 a h

-- ---- one entry more

module _ (n a d left : ℕ) (p : List ℕ) (A : PushArgs p n a d left) where
  module _ (run : ℕ) where
    abbrev pub pushed : List ℕ
    pushed = set (set p (12 + d) (marked a run)) (12 + n + d) 0

    other : (j : ℕ) → (j ≡ 12 + d → ⊥) → (j ≡ 12 + n + d → ⊥) → get_or pushed j 0 ≡ get_or p j 0
    other j x y =
        get_or-set_other (set p (12 + d) (marked a run)) (12 + n + d) j 0 0 y
        ∙ get_or-set_other p (12 + d) j (marked a run) 0 x

    push_kept : Kept n p pushed
    push_kept = record {
      same = length-set (set p (12 + d) (marked a run)) (12 + n + d) 0 ∙ length-set p (12 + d) (marked a run);
      excess = λ j h. other j (λ e. omega (arith, A.inside, A.some_left))
          (λ e. omega (arith, A.inside, A.some_left));
    }

    label-cell : get_or pushed (12 + d) 0 ≡ marked a run
    label-cell =
        get_or-set_other (set p (12 + d) (marked a run)) (12 + n + d) (12 + d) 0 0
        (λ e. omega (arith, A.inside, A.some_left))
        ∙ get_or-set_same p (12 + d) (marked a run) 0 (omega (arith, A.inside, A.some_left, A.fits.room))

    count-cell : get_or pushed (12 + n + d) 0 ≡ 0
    count-cell =
        get_or-set_same (set p (12 + d) (marked a run)) (12 + n + d) 0 0
        (simp length-set (omega (arith, A.inside, A.some_left, A.fits.room)))

    stack_is : stack_of pushed n (d + 1) ≡ waiting a 0 (leb 64 (marked a run)) ∷ stack_of p n d
    unfolding stack_of
    stack_is =
        rw (add-one d) (rw (label-cell, count-cell, mark-label a run A.small)
        (ap (λ (st : List Waiting). waiting a 0 (leb 64 (marked a run)) ∷ st) (stack_same p pushed n d
        (λ j h. other (12 + j) (λ e. omega arith) (λ e. omega (arith, A.inside)))
        (λ j h. other (12 + n + j) (λ e. omega (arith, A.inside, A.some_left)) (λ e. omega arith)))))

    high : d + 1 + (left - 1) ≡ d + left
    high = omega (arith, A.some_left)

    labels_kept : cells_from pushed 12 n (d + 1 + (left - 1)) ≡ cells_from p 12 n (d + left)
    labels_kept =
        ap (cells_from pushed 12 n) high
        ∙ cells_same p pushed 12 n (d + left) push_kept.same
        (λ j h l. other (12 + j) (λ e. omega (arith, A.some_left)) (λ e. omega arith))

    counts_kept : cells_from pushed (12 + n) n (d + 1 + (left - 1)) ≡ cells_from p (12 + n) n (d + left)
    counts_kept =
        ap (cells_from pushed (12 + n) n) high
        ∙ cells_same p pushed (12 + n) n (d + left) push_kept.same
        (λ j h l. other (12 + n + j) (λ e. omega (arith, A.inside, A.some_left)) (λ e. omega (arith, A.some_left)))

    moved : (xs : List (Option ℕ)) → home_now xs (run + 1) pushed n (d + 1) (left - 1)
        ≡ homeward xs (run + 1) (waiting a 0 (leb 64 (marked a run)) ∷ stack_of p n d) (cells_from p 12 n (d + left))
        (cells_from p (12 + n) n (d + left))
    moved xs =
        ap₂ (λ (st : List Waiting) (l : List ℕ). homeward xs (run + 1) st l
        (cells_from pushed (12 + n) n (d + 1 + (left - 1)))) stack_is labels_kept
        ∙ ap (homeward xs (run + 1) (waiting a 0 (leb 64 (marked a run)) ∷ stack_of p n d)
        (cells_from p 12 n (d + left))) counts_kept

  pub push-done : (run : ℕ) → PushDone n a d left run p (pushed run)
  push-done run = record { rest = go run; kept = push_kept run }
    where
      go : (run : ℕ) (xs : List (Option ℕ))
          → home_now xs (run + 1) (pushed run) n (d + 1) (left - 1) ≡ home_now (some a ∷ xs) run p n d left
      go zero xs =
          moved 0 xs
          ∙ ap (λ (b : Bool). homeward xs 1 (waiting a 0 b ∷ stack_of p n d) (cells_from p 12 n (d + left))
          (cells_from p (12 + n) n (d + left))) (mark-first a)
      go (suc run) xs =
          moved (suc run) xs
          ∙ ap (λ (b : Bool). homeward xs (suc run + 1) (waiting a 0 b ∷ stack_of p n d) (cells_from p 12 n (d + left))
          (cells_from p (12 + n) n (d + left))) (mark-later a run A.small)
          ∙ ap (λ (r : ℕ). homeward xs r (waiting a 0 false ∷ stack_of p n d) (cells_from p 12 n (d + left))
          (cells_from p (12 + n) n (d + left))) (add-one (suc run))

-- ---- the count of a list

stack-count : (p : List ℕ) (n d i k c : ℕ) → k + 1 + i ≡ d → d ≤ n → 12 + 2 * n ≤ length p
    → stack_of (set p (12 + n + k) c) n d ≡ with_count i c (stack_of p n d)
unfolding stack_of
stack-count p n zero i k c e h room = absurd (omega arith)
stack-count p n (suc d) zero k c e h room =
    let z : k ≡ d = omega arith in
    let l : get_or (set p (12 + n + k) c) (12 + d) 0 ≡ get_or p (12 + d) 0 =
    get_or-set_other p (12 + n + k) (12 + d) c 0 (λ q. omega arith) in
    let m : get_or (set p (12 + n + k) c) (12 + n + d) 0 ≡ c =
    ap (λ (j : ℕ). get_or (set p (12 + n + k) c) (12 + n + j) 0) (sym z)
    ∙ get_or-set_same p (12 + n + k) c 0 (omega arith) in
    rw (l, m) (ap (λ (st : List Waiting). waiting (get_or p (12 + d) 0 % 64) c (leb 64 (get_or p (12 + d) 0)) ∷ st)
    (stack_same p (set p (12 + n + k) c) n d (λ j q. get_or-set_other p (12 + n + k) (12 + j) c 0 (λ r. omega arith))
    (λ j q. get_or-set_other p (12 + n + k) (12 + n + j) c 0 (λ r. omega arith))))
stack-count p n (suc d) (suc i) k c e h room =
    let l : get_or (set p (12 + n + k) c) (12 + d) 0 ≡ get_or p (12 + d) 0 =
    get_or-set_other p (12 + n + k) (12 + d) c 0 (λ q. omega arith) in
    let m : get_or (set p (12 + n + k) c) (12 + n + d) 0 ≡ get_or p (12 + n + d) 0 =
    get_or-set_other p (12 + n + k) (12 + n + d) c 0 (λ q. omega arith) in
    rw (l, m) (ap (λ (st : List Waiting). waiting_at p n d ∷ st) (stack-count p n d i k c (omega arith) (omega arith) room))

stack-short : (p : List ℕ) (n d i c : ℕ) → d ≤ i → with_count i c (stack_of p n d) ≡ stack_of p n d
unfolding stack_of
stack-short p n zero i c h = refl
stack-short p n (suc d) zero c h = absurd (omega arith)
stack-short p n (suc d) (suc i) c h = ap (λ (st : List Waiting). waiting_at p n d ∷ st) (stack-short p n d i c (omega arith))

-- a leaf after `run` inner nodes
leaf-after : (xs : List (Option ℕ)) (run : ℕ) (st : List Waiting) (ls cs : List ℕ) → 0 < run
    → homeward (none ∷ xs) run st ls cs ≡ homeward xs 0 (with_count run run st) ls cs
leaf-after xs zero st ls cs h = absurd (omega arith)
leaf-after xs (suc run) st ls cs h = refl

module _ (n d left run : ℕ) (p : List ℕ) (A : CountArgs p n d left run) where
  pub count_none : d ≤ run → CountDone n d left run p p
  count_none h = record {
    rest = λ xs. sym (leaf-after xs run (stack_of p n d) (cells_from p 12 n (d + left))
        (cells_from p (12 + n) n (d + left)) A.some_read
        ∙ ap (λ (st : List Waiting). homeward xs 0 st (cells_from p 12 n (d + left)) (cells_from p (12 + n) n (d + left)))
        (stack-short p n d run run h));
    kept = record { same = refl; excess = λ j l. refl };
  }

  module _ (h : run < d) where
    abbrev counted : List ℕ
    counted = set p (12 + n + (d - 1 - run)) run

    counted-other : (j : ℕ) → (j ≡ 12 + n + (d - 1 - run) → ⊥) → get_or counted j 0 ≡ get_or p j 0
    counted-other j e = get_or-set_other p (12 + n + (d - 1 - run)) j run 0 e

    pub count-some : CountDone n d left run p counted
    count-some = record {
      rest = λ xs.
          ap₂ (λ (st : List Waiting) (l : List ℕ). homeward xs 0 st l (cells_from counted (12 + n) n (d + left)))
          (stack-count p n d run (d - 1 - run) run (omega arith) (omega (arith, A.inside)) A.fits.room)
          (cells_same p counted 12 n (d + left) (length-set p (12 + n + (d - 1 - run)) run)
          (λ j l m. counted-other (12 + j) (λ e. omega arith)))
          ∙ ap (homeward xs 0 (with_count run run (stack_of p n d)) (cells_from p 12 n (d + left)))
          (cells_same p counted (12 + n) n (d + left) (length-set p (12 + n + (d - 1 - run)) run)
          (λ j l m. counted-other (12 + n + j) (λ e. omega arith)))
          ∙ sym (leaf-after xs run (stack_of p n d) (cells_from p 12 n (d + left)) (cells_from p (12 + n) n (d + left))
          A.some_read);
      kept = record {
        same = length-set p (12 + n + (d - 1 - run)) run;
        excess =
            λ j l. counted-other j (λ e. omega (arith, A.inside));
      };
    }
