-- Lists of three bytes each: what one iteration, and the end, of the loops that split a list of changes keep.
--     ByThree f g    f splits a list into threes, and makes g of each three
--     nodes-by-three, labels-by-three
--     nodes-count    how many nodes a list has
--     taken-iteration     one more three taken: what is done and what is left to do make the whole
--     taken-end      less than three are left
use Prim.Native.Nat.{ℕ, suc, ◌+◌, ◌*◌, ◌/◌, ◌≤◌, ◌<◌}
use mathlib.Core.Path.{◌≡◌, refl, ap, sym, ◌∙◌}
use mathlib.Core.List.{List, [], ◌∷◌, ◌++◌, append_assoc, append-nil}
use native.Mathlib.Numerals.{add-one}
use native.Mathlib.Omega.{arith}
use lib.ListN.{length, get_or, take, drop, set, length-drop}
use lib.Seq.{drop-cons, take-suc-set}
use Rattle.whatif.specs.Question.{nodes_in, labels_within}

pub record ByThree (f : List ℕ → List ℕ) (g : ℕ → ℕ → ℕ → ℕ) : Type 0 where
  pub next : (a b c : ℕ) (l : List ℕ) → f (a ∷ b ∷ c ∷ l) ≡ g a b c ∷ f l
  pub rest : (l : List ℕ) → length l ≤ 2 → f l ≡ []

abbrev pub node_of : ℕ → ℕ → ℕ → ℕ
node_of low high label = low + 256 * high

abbrev pub label_of : ℕ → ℕ → ℕ → ℕ
label_of low high label = label

nodes-rest : (l : List ℕ) → length l ≤ 2 → nodes_in l ≡ []
unfolding nodes_in
nodes-rest [] h = refl
nodes-rest (a ∷ []) h = refl
nodes-rest (a ∷ b ∷ []) h = refl
nodes-rest (a ∷ b ∷ c ∷ l) h = absurd (let z : suc (suc (suc (length l))) ≤ 2 = h in omega arith)

nodes-next : (a b c : ℕ) (l : List ℕ) → nodes_in (a ∷ b ∷ c ∷ l) ≡ node_of a b c ∷ nodes_in l
unfolding nodes_in
nodes-next a b c l = refl

pub nodes-by-three : ByThree nodes_in node_of
nodes-by-three = record { next = nodes-next; rest = nodes-rest }

pub nodes-count : (l : List ℕ) → length (nodes_in l) ≡ length l / 3
unfolding nodes_in
nodes-count [] = omega arith
nodes-count (a ∷ []) = omega arith
nodes-count (a ∷ b ∷ []) = omega arith
nodes-count (a ∷ b ∷ c ∷ l) = omega (arith, nodes-count l)

labels-rest : (l : List ℕ) → length l ≤ 2 → labels_within l ≡ []
unfolding labels_within
labels-rest [] h = refl
labels-rest (a ∷ []) h = refl
labels-rest (a ∷ b ∷ []) h = refl
labels-rest (a ∷ b ∷ c ∷ l) h = absurd (let z : suc (suc (suc (length l))) ≤ 2 = h in omega arith)

labels_next : (a b c : ℕ) (l : List ℕ) → labels_within (a ∷ b ∷ c ∷ l) ≡ label_of a b c ∷ labels_within l
unfolding labels_within
labels_next a b c l = refl

pub labels-by-three : ByThree labels_within label_of
labels-by-three = record { next = labels_next; rest = labels-rest }

three-more : (l : List ℕ) (p : ℕ) → p + 2 < length l
    → drop p l ≡ get_or l p 0 ∷ get_or l (p + 1) 0 ∷ get_or l (p + 2) 0 ∷ drop (p + 3) l
three-more l p h =
    let a : suc p ≡ p + 1 = omega arith in
    let b : suc (p + 1) ≡ p + 2 = omega arith in
    let c : suc (p + 2) ≡ p + 3 = omega arith in
    rw (drop-cons l p 0 (omega arith), a, drop-cons l (p + 1) 0 (omega arith), b, drop-cons l (p + 2) 0 h, c)

pub taken-iteration : (f : List ℕ → List ℕ) (g : ℕ → ℕ → ℕ → ℕ) → ByThree f g → (l xs : List ℕ) (i x : ℕ)
    → 3 * i + 2 < length l → i < length xs → x ≡ g (get_or l (3 * i) 0) (get_or l (3 * i + 1) 0) (get_or l (3 * i + 2) 0)
    → take i xs ++ f (drop (3 * i) l) ≡ f l → take (i + 1) (set xs i x) ++ f (drop (3 * (i + 1)) l) ≡ f l
taken-iteration f g F l xs i x h k e o =
    let m : 3 * (i + 1) ≡ 3 * i + 3 = omega arith in
    let w = f (drop (3 * i + 3) l) in
    let d : f (drop (3 * i) l) ≡ x ∷ w =
    ap f (three-more l (3 * i) h) ∙ (F.next _ _ _ _ ∙ ap (λ (y : ℕ). y ∷ w) (sym e)) in
    rw (m, add-one i, take-suc-set xs i x k, append_assoc) (ap (λ (t : List ℕ). take i xs ++ t) (sym d) ∙ o)

pub taken-end : (f : List ℕ → List ℕ) (g : ℕ → ℕ → ℕ → ℕ) → ByThree f g → (l xs : List ℕ) (i : ℕ)
    → length l ≤ 3 * i + 2 → 3 * i ≤ length l → take i xs ++ f (drop (3 * i) l) ≡ f l → take (length l / 3) xs ≡ f l
taken-end f g F l xs i h k o =
    let q : length l / 3 ≡ i = omega arith in
    let s : length (drop (3 * i) l) ≤ 2 = simp length-drop (omega arith) in
    rw q (sym (append-nil (take i xs)) ∙ (ap (λ (t : List ℕ). take i xs ++ t) (sym (F.rest _ s)) ∙ o))
