-- The loop from a planner's file to our plan, as a definition: it reads the child counts from the left, with one stack,
-- and gives the items of the image from the left (document 02, S-2).
--
-- Entry == a node whose place is not yet known, how many siblings come after it, and whether it is the first of its
--   list
-- to_come st == how many siblings come after the top; 0 where the stack is empty
-- closed k st closing == the items of every list that is at its end, from the top of the stack: a leaf, then its nodes
--   from the last to the first; then what k gives of the stack that is left. closing: the list of the top is being
--   closed; else the children of the top are written, and its list is closed where no sibling comes after it
-- outward cs v n b st == the items still to write. cs: the counts still to read; v: the next node's number; n: how many
--   of its list are still to come, v included; b: whether v is the first of its list
-- Written == a count of items and the places written
-- placed xs i ps == the places ps after the items xs, the first of which is node i of our plan
use Rattle.std.specs.Prelude.{ℕ, zero, suc, ◌+◌, ◌-◌, Bool, true, false, cond, not, List, [], ◌∷◌, eqb, set}
use Rattle.std.proofs.Math.Option.{Option, none, some}

pub record Entry : Type 0 where
  pub node : ℕ
  pub after : ℕ
  pub is_first : Bool

abbrev pub entry : ℕ → ℕ → Bool → Entry
entry v n b = record { node = v; after = n; is_first = b }

abbrev pub to_come : List Entry → ℕ
to_come [] = 0
to_come (e ∷ st) = e.after

abbrev pub closed : (List Entry → List (Option ℕ)) → List Entry → Bool → List (Option ℕ)
closed k [] closing = k []
closed k (e ∷ st) true = some e.node ∷ closed k st (not e.is_first)
closed k (e ∷ st) false = cond (eqb e.after 0) (none ∷ some e.node ∷ closed k st (not e.is_first)) (k (e ∷ st))

abbrev pub outward : List ℕ → ℕ → ℕ → Bool → List Entry → List (Option ℕ)
outward [] v n b st = []
outward (zero ∷ cs) v n b st =
    none ∷ closed (λ (s : List Entry). outward cs (v + 1) (to_come s) false s) (entry v (n - 1) b ∷ st) false
outward (suc c ∷ cs) v n b st = outward cs (v + 1) (suc c) true (entry v (n - 1) b ∷ st)

pub record Written : Type 0 where
  pub items : ℕ
  pub places : List ℕ

abbrev pub placed : List (Option ℕ) → ℕ → List ℕ → Written
placed [] i ps = record { items = i; places = ps }
placed (none ∷ xs) i ps = placed xs (i + 1) ps
placed (some u ∷ xs) i ps = placed xs (i + 1) (set ps u i)
