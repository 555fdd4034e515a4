-- The laws of differences and of permitted labels: over lists end to end, and for lists of changes.
--     differences-append, permitted-append   of two lists end to end
--     differences-most                       at most as many as there are places
--     differences-self, permitted-self       a list and itself
--     permitted-set, permitted-all           one permitted change; any labels, where every node may take every label
--     changed_below                          labels below k, changed to labels below k
--     changes-number .. changes-make         the list of changes that makes one list of another
--     differences-changed                    a list of m changes makes at most m differences
use Prim.Native.Nat.{ℕ, zero, suc, ◌+◌, ◌≤◌, ◌<◌}
use mathlib.Core.Path.{◌≡◌, refl, sym, ap, ◌∙◌}
use mathlib.Core.Bool.{Bool, true, false, cond, ◌&&◌, ◌||◌}
use mathlib.Core.List.{List, [], ◌∷◌, ◌++◌, append_assoc}
use native.Mathlib.Omega.{arith}
use lib.Dec.{eqb, ltb}
use lib.ListN.{length, set, length-append}
use lib.Seq.{set-append_seam}
use borrow.Author.Tests.{eqb-true, eq-eqb, ne_eqb, lt-ltb, ltb-true}
use Rattle.list_laws.specs.Tests.{all_below, holds, distinct}
use Rattle.list_laws.proofs.BoolLaws.{and_assoc, and_left, and_right, and_both, or-first, or-second}
use Rattle.trees.specs.Changes.{changed}
use Rattle.fewest.specs.Relabelling.{differ, differences, may_take, permitted, changed_nodes, changed_labels}

pub differ-most : (a b : ℕ) → differ a b ≤ 1
differ-most a b = go (eqb a b)
  where
    go : (c : Bool) → cond c 0 1 ≤ 1
    go true = omega arith
    go false = omega arith

pub differences-append : (ls bs ms cs : List ℕ) → length ls ≡ length bs
    → differences (ls ++ ms) (bs ++ cs) ≡ differences ls bs + differences ms cs
unfolding differences
differences-append [] [] ms cs e = omega arith
differences-append [] (b ∷ bs) ms cs e = absurd (omega arith)
differences-append (a ∷ ls) [] ms cs e = absurd (omega arith)
differences-append (a ∷ ls) (b ∷ bs) ms cs e = omega (arith, differences-append ls bs ms cs (omega arith))

pub permitted-append : (k : ℕ) (may : ℕ → ℕ → Bool) (v : ℕ) (ls bs ms cs : List ℕ) → length ls ≡ length bs
    → permitted k may v (ls ++ ms) (bs ++ cs) ≡ (permitted k may v ls bs && permitted k may (v + length ls) ms cs)
unfolding permitted
permitted-append k may v [] [] ms cs e = let z : v ≡ v + 0 = omega arith in ap (λ (x : ℕ). permitted k may x ms cs) z
permitted-append k may v [] (b ∷ bs) ms cs e = absurd (omega arith)
permitted-append k may v (a ∷ ls) [] ms cs e = absurd (omega arith)
permitted-append k may v (a ∷ ls) (b ∷ bs) ms cs e =
    let z : v + 1 + length ls ≡ v + suc (length ls) = omega arith in
    ap (λ (x : Bool). may_take k may v a b && x) (permitted-append k may (v + 1) ls bs ms cs (omega arith)
    ∙ ap (λ (x : ℕ). permitted k may (v + 1) ls bs && permitted k may x ms cs) z)
    ∙ sym (and_assoc (may_take k may v a b) (permitted k may (v + 1) ls bs) (permitted k may (v + suc (length ls)) ms cs))

pub differences-most : (ls bs : List ℕ) → differences ls bs ≤ length ls
unfolding differences
differences-most [] bs = omega arith
differences-most (a ∷ ls) [] = omega arith
differences-most (a ∷ ls) (b ∷ bs) = omega (arith, differ-most a b, differences-most ls bs)

pub differences-self : (ls : List ℕ) → differences ls ls ≡ 0
unfolding differences
differences-self [] = refl
differences-self (a ∷ ls) = rw (eq-eqb a a refl) (omega (arith, differences-self ls))

-- ---- the list of changes that makes bs of ls

pub changes-number : (v : ℕ) (ls bs : List ℕ) → length (changed_nodes v ls bs) ≡ differences ls bs
unfolding changed_nodes differences
changes-number v [] bs = refl
changes-number v (a ∷ ls) [] = refl
changes-number v (a ∷ ls) (b ∷ bs) = go (eqb a b) (changes-number (v + 1) ls bs)
  where
    go : (c : Bool) → length (changed_nodes (v + 1) ls bs) ≡ differences ls bs
        → length (cond c (changed_nodes (v + 1) ls bs) (v ∷ changed_nodes (v + 1) ls bs)) ≡ cond c 0 1 + differences ls bs
    go true h = omega arith
    go false h = omega arith

pub changes-paired : (v : ℕ) (ls bs : List ℕ) → length (changed_labels ls bs) ≡ length (changed_nodes v ls bs)
unfolding changed_nodes changed_labels
changes-paired v [] bs = refl
changes-paired v (a ∷ ls) [] = refl
changes-paired v (a ∷ ls) (b ∷ bs) = go (eqb a b) (changes-paired (v + 1) ls bs)
  where
    go : (c : Bool) → length (changed_labels ls bs) ≡ length (changed_nodes (v + 1) ls bs)
        → length (cond c (changed_labels ls bs) (b ∷ changed_labels ls bs))
        ≡ length (cond c (changed_nodes (v + 1) ls bs) (v ∷ changed_nodes (v + 1) ls bs))
    go true h = h
    go false h = omega arith

-- laid over the labels ls that follow a run `pre`, the changes make it bs
make-after : (pre ls bs : List ℕ) → length ls ≡ length bs
    → changed (pre ++ ls) (changed_nodes (length pre) ls bs) (changed_labels ls bs) ≡ pre ++ bs
unfolding changed changed_nodes changed_labels
make-after pre [] [] e = refl
make-after pre [] (b ∷ bs) e = absurd (omega arith)
make-after pre (a ∷ ls) [] e = absurd (omega arith)
make-after pre (a ∷ ls) (b ∷ bs) e =
    go (eqb a b) (λ q. eqb-true a b q) (make-after (pre ++ (a ∷ [])) ls bs (omega arith))
    (make-after (pre ++ (b ∷ [])) ls bs (omega arith))
  where
    long : (x : ℕ) → length (pre ++ (x ∷ [])) ≡ length pre + 1
    long x = length-append pre (x ∷ []) ∙ omega arith

    go : (c : Bool) → (c ≡ true → a ≡ b)
        → changed ((pre ++ (a ∷ [])) ++ ls) (changed_nodes (length (pre ++ (a ∷ []))) ls bs) (changed_labels ls bs)
        ≡ (pre ++ (a ∷ [])) ++ bs
        → changed ((pre ++ (b ∷ [])) ++ ls) (changed_nodes (length (pre ++ (b ∷ []))) ls bs) (changed_labels ls bs)
        ≡ (pre ++ (b ∷ [])) ++ bs
        → changed (pre ++ (a ∷ ls)) (cond c (changed_nodes (length pre + 1) ls bs) (length pre ∷ changed_nodes (length pre + 1) ls bs))
        (cond c (changed_labels ls bs) (b ∷ changed_labels ls bs)) ≡ pre ++ (b ∷ bs)
    go true f A B =
        ap (λ (x : List ℕ). changed x (changed_nodes (length pre + 1) ls bs) (changed_labels ls bs)) (sym (append_assoc pre (a ∷ []) ls))
        ∙ ap (λ (n : ℕ). changed ((pre ++ (a ∷ [])) ++ ls) (changed_nodes n ls bs) (changed_labels ls bs)) (sym (long a))
        ∙ A ∙ append_assoc pre (a ∷ []) bs ∙ ap (λ (x : ℕ). pre ++ (x ∷ bs)) (f refl)
    go false f A B =
        ap (λ (x : List ℕ). changed x (changed_nodes (length pre + 1) ls bs) (changed_labels ls bs))
        (set-append_seam pre a ls b ∙ sym (append_assoc pre (b ∷ []) ls))
        ∙ ap (λ (n : ℕ). changed ((pre ++ (b ∷ [])) ++ ls) (changed_nodes n ls bs) (changed_labels ls bs)) (sym (long b))
        ∙ B ∙ append_assoc pre (b ∷ []) bs

pub changes-make : (ls bs : List ℕ) → length ls ≡ length bs → changed ls (changed_nodes 0 ls bs) (changed_labels ls bs) ≡ bs
changes-make ls bs e = make-after [] ls bs e

pub changes-in : (v n : ℕ) (ls bs : List ℕ) → v + length ls ≤ n → all_below n (changed_nodes v ls bs) ≡ true
unfolding changed_nodes all_below
changes-in v n [] bs h = refl
changes-in v n (a ∷ ls) [] h = refl
changes-in v n (a ∷ ls) (b ∷ bs) h = go (eqb a b) (changes-in (v + 1) n ls bs (omega arith))
  where
    go : (c : Bool) → all_below n (changed_nodes (v + 1) ls bs) ≡ true
        → all_below n (cond c (changed_nodes (v + 1) ls bs) (v ∷ changed_nodes (v + 1) ls bs)) ≡ true
    go true e = e
    go false e = and_both (ltb v n) (all_below n (changed_nodes (v + 1) ls bs)) (lt-ltb v n (omega arith)) e

-- nodes before v are not listed, so no node is listed twice
changes-past : (x v : ℕ) (ls bs : List ℕ) → x < v → holds x (changed_nodes v ls bs) ≡ false
unfolding changed_nodes holds
changes-past x v [] bs h = refl
changes-past x v (a ∷ ls) [] h = refl
changes-past x v (a ∷ ls) (b ∷ bs) h = go (eqb a b) (changes-past x (v + 1) ls bs (omega arith))
  where
    go : (c : Bool) → holds x (changed_nodes (v + 1) ls bs) ≡ false
        → holds x (cond c (changed_nodes (v + 1) ls bs) (v ∷ changed_nodes (v + 1) ls bs)) ≡ false
    go true e = e
    go false e = rw (ne_eqb x v (λ q. omega arith), e)

pub changes-distinct : (v : ℕ) (ls bs : List ℕ) → distinct (changed_nodes v ls bs) ≡ true
unfolding changed_nodes distinct
changes-distinct v [] bs = refl
changes-distinct v (a ∷ ls) [] = refl
changes-distinct v (a ∷ ls) (b ∷ bs) = go (eqb a b) (changes-distinct (v + 1) ls bs)
  where
    go : (c : Bool) → distinct (changed_nodes (v + 1) ls bs) ≡ true
        → distinct (cond c (changed_nodes (v + 1) ls bs) (v ∷ changed_nodes (v + 1) ls bs)) ≡ true
    go true e = e
    go false e = rw (changes-past v (v + 1) ls bs (omega arith), e)

pub changes-labels : (k : ℕ) (may : ℕ → ℕ → Bool) (v : ℕ) (ls bs : List ℕ) → permitted k may v ls bs ≡ true
    → all_below k (changed_labels ls bs) ≡ true
unfolding changed_labels permitted all_below
changes-labels k may v [] bs h = refl
changes-labels k may v (a ∷ ls) [] h = refl
changes-labels k may v (a ∷ ls) (b ∷ bs) h =
    go (eqb a b) (and_left (ltb b k) (eqb a b || may v b) (and_left (may_take k may v a b) (permitted k may (v + 1) ls bs) h))
    (changes-labels k may (v + 1) ls bs (and_right (may_take k may v a b) (permitted k may (v + 1) ls bs) h))
  where
    go : (c : Bool) → ltb b k ≡ true → all_below k (changed_labels ls bs) ≡ true
        → all_below k (cond c (changed_labels ls bs) (b ∷ changed_labels ls bs)) ≡ true
    go true l e = e
    go false l e = and_both (ltb b k) (all_below k (changed_labels ls bs)) l e

-- ---- any list of changes

differences-set : (ls cs : List ℕ) (v b : ℕ) → differences ls (set cs v b) ≤ differences ls cs + 1
unfolding differences
differences-set [] cs v b = omega arith
differences-set (a ∷ ls) [] v b = omega arith
differences-set (a ∷ ls) (c ∷ cs) zero b = omega (arith, differ-most a b)
differences-set (a ∷ ls) (c ∷ cs) (suc v) b = omega (arith, differences-set ls cs v b)

differences-more : (ls cs vs bs : List ℕ) → differences ls (changed cs vs bs) ≤ differences ls cs + length vs
unfolding changed
differences-more ls cs [] bs = omega arith
differences-more ls cs (v ∷ vs) [] = omega arith
differences-more ls cs (v ∷ vs) (b ∷ bs) = omega (arith, differences-more ls (set cs v b) vs bs, differences-set ls cs v b)

pub differences-changed : (ls vs bs : List ℕ) → differences ls (changed ls vs bs) ≤ length vs
differences-changed ls vs bs = omega (arith, differences-more ls ls vs bs, differences-self ls)

-- ---- labels that are permitted

pub permitted-all : (k : ℕ) (may : ℕ → ℕ → Bool) → ((v b : ℕ) → b < k → may v b ≡ true) → (v : ℕ) (ls bs : List ℕ) → all_below k bs ≡ true
    → permitted k may v ls bs ≡ true
unfolding permitted all_below
permitted-all k may f v [] bs h = refl
permitted-all k may f v (a ∷ ls) [] h = refl
permitted-all k may f v (a ∷ ls) (b ∷ bs) h =
    and_both (may_take k may v a b) (permitted k may (v + 1) ls bs)
    (and_both (ltb b k) (eqb a b || may v b) (and_left (ltb b k) (all_below k bs) h)
    (or-second (eqb a b) (may v b) (f v b (ltb-true b k (and_left (ltb b k) (all_below k bs) h)))))
    (permitted-all k may f (v + 1) ls bs (and_right (ltb b k) (all_below k bs) h))

set_below : (k : ℕ) (ls : List ℕ) (v b : ℕ) → all_below k ls ≡ true → ltb b k ≡ true → all_below k (set ls v b) ≡ true
unfolding all_below
set_below k [] v b h l = refl
set_below k (a ∷ ls) zero b h l = and_both (ltb b k) (all_below k ls) l (and_right (ltb a k) (all_below k ls) h)
set_below k (a ∷ ls) (suc v) b h l =
    and_both (ltb a k) (all_below k (set ls v b)) (and_left (ltb a k) (all_below k ls) h)
    (set_below k ls v b (and_right (ltb a k) (all_below k ls) h) l)

pub changed_below : (k : ℕ) (ls vs bs : List ℕ) → all_below k ls ≡ true → all_below k bs ≡ true → all_below k (changed ls vs bs) ≡ true
unfolding changed all_below
changed_below k ls [] bs h g = h
changed_below k ls (v ∷ vs) [] h g = h
changed_below k ls (v ∷ vs) (b ∷ bs) h g =
    changed_below k (set ls v b) vs bs (set_below k ls v b h (and_left (ltb b k) (all_below k bs) g))
    (and_right (ltb b k) (all_below k bs) g)

pub permitted-self : (k : ℕ) (may : ℕ → ℕ → Bool) (v : ℕ) (ls : List ℕ) → all_below k ls ≡ true → permitted k may v ls ls ≡ true
unfolding permitted all_below
permitted-self k may v [] h = refl
permitted-self k may v (a ∷ ls) h =
    and_both (may_take k may v a a) (permitted k may (v + 1) ls ls)
    (and_both (ltb a k) (eqb a a || may v a) (and_left (ltb a k) (all_below k ls) h) (or-first (eqb a a) (may v a) (eq-eqb a a refl)))
    (permitted-self k may (v + 1) ls (and_right (ltb a k) (all_below k ls) h))

-- one permitted change is a permitted relabelling
pub permitted-set : (k : ℕ) (may : ℕ → ℕ → Bool) (w : ℕ) (ls : List ℕ) (v b : ℕ) → all_below k ls ≡ true → b < k → may (w + v) b ≡ true
    → permitted k may w ls (set ls v b) ≡ true
unfolding permitted all_below
permitted-set k may w [] v b h l m = refl
permitted-set k may w (a ∷ ls) zero b h l m =
    let z : w + 0 ≡ w = omega arith in
    and_both (may_take k may w a b) (permitted k may (w + 1) ls ls)
    (and_both (ltb b k) (eqb a b || may w b) (lt-ltb b k l) (or-second (eqb a b) (may w b) (ap (λ (x : ℕ). may x b) (sym z) ∙ m)))
    (permitted-self k may (w + 1) ls (and_right (ltb a k) (all_below k ls) h))
permitted-set k may w (a ∷ ls) (suc v) b h l m =
    let z : w + 1 + v ≡ w + suc v = omega arith in
    and_both (may_take k may w a a) (permitted k may (w + 1) ls (set ls v b))
    (and_both (ltb a k) (eqb a a || may w a) (and_left (ltb a k) (all_below k ls) h) (or-first (eqb a a) (may w a) (eq-eqb a a refl)))
    (permitted-set k may (w + 1) ls v b (and_right (ltb a k) (all_below k ls) h) l (ap (λ (x : ℕ). may x b) z ∙ m))
