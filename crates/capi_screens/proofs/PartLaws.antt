-- Parts of a list, w elements each, one after the other; and what a list holds after one of them was written.
--     part w i b           part i of b
--     stored a k b p       b after p was written to the k elements from index a on
--     stored-length, run-stored, run-before, run-behind, stored-own
--                          of a run of k elements; part-stored, part-other: of parts
--     parts-ext            two lists with the same parts are the same
--     part-rows, rows-parts  parts of lists in a row, and back
use Prim.Native.Nat.{ℕ, ◌+◌, ◌-◌, ◌*◌, ◌≤◌, ◌<◌}
use mathlib.Core.Path.{◌≡◌, sym, ap, ◌∙◌}
use mathlib.Core.Logic.{◌⊎◌, inl, inr}
use mathlib.Core.List.{List, ◌++◌}
use native.Mathlib.Decide.{dec_lt}
use native.Mathlib.Omega.{arith}
use lib.ListN.{length, get_or, take, drop, length-append, length-drop, get_or-append}
use lib.Seq.{length-take-le, take_at, drop_at, ext_get_or, get_or-take, get_or-drop, get_or-append-add}
use Rattle.list_laws.specs.Rows.{rows}
use Rattle.list_laws.proofs.RowLaws.{stride, Cell, cell-split, length-rows, get_d_rows}
use Rattle.list_laws.proofs.SliceLaws.{length_part}

abbrev pub part : ℕ → ℕ → List ℕ → List ℕ
part w i b = take w (drop (w * i) b)

abbrev pub stored : ℕ → ℕ → List ℕ → List ℕ → List ℕ
stored a k b p = take a b ++ (p ++ drop k (drop a b))

-- ---- a run

module _ (a k : ℕ) (b p : List ℕ) (room : a + k ≤ length b) where
  first_length : length (take a b) ≡ a
  first_length = length-take-le a b (omega arith)

  module _ (e : length p ≡ k) where
    pub stored-length : length (stored a k b p) ≡ length b
    stored-length =
        length-append (take a b) (p ++ drop k (drop a b))
        ∙ omega (arith, first_length, length-append p (drop k (drop a b)), length-drop k (drop a b), length-drop a b)

    pub run-stored : take k (drop a (stored a k b p)) ≡ p
    run-stored =
        ap (take k) (drop_at (take a b) (p ++ drop k (drop a b)) a first_length) ∙ take_at p (drop k (drop a b)) k e

    -- what is before it and behind it
    at_before : (j : ℕ) → j < a → get_or (stored a k b p) j 0 ≡ get_or b j 0
    at_before j h =
        get_or-append (take a b) (p ++ drop k (drop a b)) 0 j (omega (arith, first_length)) ∙ get_or-take a b j 0 h

    at-behind : (j : ℕ) → a + k ≤ j → get_or (stored a k b p) j 0 ≡ get_or b j 0
    at-behind j h =
        let q : j ≡ length (take a b) + (k + (j - a - k)) = omega (arith, first_length) in
        let z : j ≡ a + (k + (j - a - k)) = omega arith in
        ap (λ (i : ℕ). get_or (stored a k b p) i 0) q
        ∙ get_or-append-add (take a b) (p ++ drop k (drop a b)) (k + (j - a - k)) 0
        ∙ ap (λ (i : ℕ). get_or (p ++ drop k (drop a b)) (i + (j - a - k)) 0) (sym e)
        ∙ get_or-append-add p (drop k (drop a b)) (j - a - k) 0
        ∙ get_or-drop k (drop a b) (j - a - k) 0 ∙ get_or-drop a b (k + (j - a - k)) 0
        ∙ ap (λ (i : ℕ). get_or b i 0) (sym z)

    pub run-other : (c n : ℕ) → c + n ≤ length b → (c + n ≤ a) ⊎ (a + k ≤ c)
        → take n (drop c (stored a k b p)) ≡ take n (drop c b)
    run-other c n h o =
        ext_get_or 0 (take n (drop c (stored a k b p))) (take n (drop c b))
        (length_part (stored a k b p) c n (omega (arith, stored-length)) ∙ sym (length_part b c n h))
        (λ j l. each j (omega (arith, length_part (stored a k b p) c n (omega (arith, stored-length)))))
      where
        at : (j : ℕ) → j < n → (c + n ≤ a) ⊎ (a + k ≤ c) → get_or (stored a k b p) (c + j) 0 ≡ get_or b (c + j) 0
        at j l (inl q) = at_before (c + j) (omega arith)
        at j l (inr q) = at-behind (c + j) (omega arith)

        each : (j : ℕ) → j < n → get_or (take n (drop c (stored a k b p))) j 0 ≡ get_or (take n (drop c b)) j 0
        each j l =
            get_or-take n (drop c (stored a k b p)) j 0 l ∙ get_or-drop c (stored a k b p) j 0 ∙ at j l o
            ∙ sym (get_or-take n (drop c b) j 0 l ∙ get_or-drop c b j 0)

-- ---- parts

module _ (w : ℕ) where
  -- part j ends before part i begins, where j is below i
  pub part-stride : (i j : ℕ) → j < i → w * j + w ≤ w * i
  part-stride i j h = omega (arith, stride w j i h)

  apart : (i j : ℕ) → (i ≡ j → ⊥) → (w * j + w ≤ w * i) ⊎ (w * i + w ≤ w * j)
  apart i j z = elim (dec_lt j i) [
    | yes h ↦ inl (part-stride i j h)
    | no h ↦ inr (part-stride j i (omega arith))
  ]

  module _ (n : ℕ) (b : List ℕ) (long : length b ≡ w * n) where
    pub part_room : (i : ℕ) → i < n → w * i + w ≤ length b
    part_room i h = omega (arith, part-stride n i h)

    pub part_length : (i : ℕ) → i < n → length (part w i b) ≡ w
    part_length i h = length_part b (w * i) w (part_room i h)

    module _ (i : ℕ) (h : i < n) (p : List ℕ) (e : length p ≡ w) where
      pub part-stored : part w i (stored (w * i) w b p) ≡ p
      part-stored = run-stored (w * i) w b p (part_room i h) e

      pub part-kept : (j : ℕ) → j < n → (i ≡ j → ⊥) → part w j (stored (w * i) w b p) ≡ part w j b
      part-kept j l z = run-other (w * i) w b p (part_room i h) e (w * j) w (part_room j l) (apart i j z)

      pub all-kept : length (stored (w * i) w b p) ≡ length b
      all-kept = stored-length (w * i) w b p (part_room i h) e

    pub part_at : (i k : ℕ) → k < w → get_or (part w i b) k 0 ≡ get_or b (w * i + k) 0
    part_at i k h = get_or-take w (drop (w * i) b) k 0 h ∙ get_or-drop (w * i) b k 0

  -- a list is determined by its parts
  pub parts-ext : (n : ℕ) (b c : List ℕ) → length b ≡ w * n → length c ≡ w * n
      → ((i : ℕ) → i < n → part w i b ≡ part w i c) → b ≡ c
  parts-ext n b c e f same = ext_get_or 0 b c (e ∙ sym f) (λ j h. each j (omega arith))
    where
      each : (j : ℕ) → j < n * w → get_or b j 0 ≡ get_or c j 0
      each j h =
          let q : Cell w n j = cell-split w n j h in
          let z : j ≡ w * q.row + q.column = omega (arith, q.is) in
          ap (λ (i : ℕ). get_or b i 0) z ∙ sym (part_at n b e q.row q.column q.column-in)
          ∙ ap (λ (l : List ℕ). get_or l q.column 0) (same q.row q.row_in)
          ∙ part_at n c f q.row q.column q.column-in ∙ sym (ap (λ (i : ℕ). get_or c i 0) z)

  -- ---- lists in a row

  module _ (n : ℕ) (f : ℕ → List ℕ) (wide : (i : ℕ) → i < n → length (f i) ≡ w) where
    pub row-length : length (rows n f) ≡ w * n
    row-length = length-rows n w f wide ∙ omega arith

    pub part-row : (i : ℕ) → i < n → part w i (rows n f) ≡ f i
    part-row i h =
        ext_get_or 0 (part w i (rows n f)) (f i) (part_length n (rows n f) row-length i h ∙ sym (wide i h))
        (λ k l. each k (omega (arith, part_length n (rows n f) row-length i h)))
      where
        each : (k : ℕ) → k < w → get_or (part w i (rows n f)) k 0 ≡ get_or (f i) k 0
        each k l =
            let z : w * i + k ≡ i * w + k = omega arith in
            part_at n (rows n f) row-length i k l ∙ ap (λ (j : ℕ). get_or (rows n f) j 0) z ∙ get_d_rows n w f wide i k h l

    pub rows_of : (b : List ℕ) → length b ≡ w * n → ((i : ℕ) → i < n → part w i b ≡ f i) → b ≡ rows n f
    rows_of b e same = parts-ext n b (rows n f) e row-length (λ i h. same i h ∙ sym (part-row i h))
