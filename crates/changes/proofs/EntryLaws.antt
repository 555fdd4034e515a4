-- Laws of lists of entries.
--     entries-listed             the two lists of a list of entries make it again
--     nodes-entries, labels-entries    the entries of two lists of one length have these lists
--     length-entries, length-nodes, length-labels
--     or_else-assoc, or_else-none, or_else-self    laws of a choice between two labels
--     last_label-append           the last entry of two lists, one behind the other: that of the second, else that of the first
--     last_label-hit, last_label-miss   the first entry of a list
--     listed-holds               a node is listed exactly where it has a last label
use Prim.Native.Nat.{ℕ, suc}
use mathlib.Core.Path.{◌≡◌, refl, sym, ap, ◌∙◌}
use mathlib.Core.Bool.{Bool, true, false, cond, ◌||◌}
use mathlib.Core.List.{List, [], ◌∷◌, ◌++◌}
use mathlib.Core.Option.{Option, none, some, or_else}
use native.Mathlib.Omega.{arith}
use lib.Dec.{eqb}
use lib.ListN.{length}
use borrow.Author.Tests.{eq-eqb, ne_eqb}
use Rattle.list_laws.specs.Tests.{holds}
use Rattle.changes.specs.Entries.{Entry, entries, nodes_listed, labels_listed, last_label}

-- ---- the two lists of a list of entries

pub entries-listed : (l : List Entry) → entries (nodes_listed l) (labels_listed l) ≡ l
unfolding entries nodes_listed labels_listed
entries-listed [] = refl
entries-listed (e ∷ l) = ap (λ (m : List Entry). e ∷ m) (entries-listed l)

pub nodes-entries : (vs bs : List ℕ) → length vs ≡ length bs → nodes_listed (entries vs bs) ≡ vs
unfolding entries nodes_listed
nodes-entries [] bs h = refl
nodes-entries (v ∷ vs) [] h = absurd (omega arith)
nodes-entries (v ∷ vs) (b ∷ bs) h = ap (λ (m : List ℕ). v ∷ m) (nodes-entries vs bs (omega arith))

pub labels-entries : (vs bs : List ℕ) → length vs ≡ length bs → labels_listed (entries vs bs) ≡ bs
unfolding entries labels_listed
labels-entries [] [] h = refl
labels-entries [] (b ∷ bs) h = absurd (omega arith)
labels-entries (v ∷ vs) [] h = absurd (omega arith)
labels-entries (v ∷ vs) (b ∷ bs) h = ap (λ (m : List ℕ). b ∷ m) (labels-entries vs bs (omega arith))

pub length-entries : (vs bs : List ℕ) → length vs ≡ length bs → length (entries vs bs) ≡ length vs
unfolding entries
length-entries [] bs h = refl
length-entries (v ∷ vs) [] h = absurd (omega arith)
length-entries (v ∷ vs) (b ∷ bs) h = ap suc (length-entries vs bs (omega arith))

pub length-nodes : (l : List Entry) → length (nodes_listed l) ≡ length l
unfolding nodes_listed
length-nodes [] = refl
length-nodes (e ∷ l) = ap suc (length-nodes l)

pub length-labels : (l : List Entry) → length (labels_listed l) ≡ length l
unfolding labels_listed
length-labels [] = refl
length-labels (e ∷ l) = ap suc (length-labels l)

-- ---- a choice between two labels

pub or_else-assoc : (a b c : Option ℕ) → or_else (or_else a b) c ≡ or_else a (or_else b c)
unfolding or_else
or_else-assoc none b c = refl
or_else-assoc (some x) b c = refl

pub or_else-none : (a : Option ℕ) → or_else a none ≡ a
unfolding or_else
or_else-none none = refl
or_else-none (some x) = refl

pub or_else-self : (a : Option ℕ) → or_else a a ≡ a
unfolding or_else
or_else-self none = refl
or_else-self (some x) = refl

-- ---- the last entry for a node

pub last_label-append : (v : ℕ) (a b : List Entry) → last_label v (a ++ b) ≡ or_else (last_label v b) (last_label v a)
unfolding last_label
last_label-append v [] b = sym (or_else-none (last_label v b))
last_label-append v (e ∷ a) b =
    ap (λ (o : Option ℕ). or_else o (cond (eqb v e.node) (some e.label) none)) (last_label-append v a b)
    ∙ or_else-assoc (last_label v b) (last_label v a) (cond (eqb v e.node) (some e.label) none)

pub last_label-hit : (v : ℕ) (e : Entry) (l : List Entry) → v ≡ e.node → last_label v (e ∷ l) ≡ or_else (last_label v l) (some e.label)
unfolding last_label
last_label-hit v e l h =
    ap (λ (b : Bool). or_else (last_label v l) (cond b (some e.label) none)) (eq-eqb v e.node h)

pub last_label-miss : (v : ℕ) (e : Entry) (l : List Entry) → (v ≡ e.node → ⊥) → last_label v (e ∷ l) ≡ last_label v l
unfolding last_label
last_label-miss v e l h =
    ap (λ (b : Bool). or_else (last_label v l) (cond b (some e.label) none)) (ne_eqb v e.node h)
    ∙ or_else-none (last_label v l)

-- ---- which nodes are listed

abbrev pub is_some : Option ℕ → Bool
is_some none = false
is_some (some x) = true

is-listed : (o : Option ℕ) (b : Bool) (x : ℕ) → is_some (or_else o (cond b (some x) none)) ≡ (b || is_some o)
unfolding or_else
is-listed none true x = refl
is-listed none false x = refl
is-listed (some y) true x = refl
is-listed (some y) false x = refl

pub listed-holds : (v : ℕ) (l : List Entry) → holds v (nodes_listed l) ≡ is_some (last_label v l)
unfolding holds nodes_listed last_label
listed-holds v [] = refl
listed-holds v (e ∷ l) =
    ap (λ (t : Bool). eqb v e.node || t) (listed-holds v l) ∙ sym (is-listed (last_label v l) (eqb v e.node) e.label)
