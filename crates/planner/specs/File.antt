-- The planner's file as bytes, its checks, and the way back from bytes.
--
-- file_count b == n of the header; label_run b, count_run b == the two runs
-- file_bytes f == the file of a list of siblings
-- pending cs w == how many nodes are still to come after the counts cs, where w were to come before; none where a node
--   comes that nobody waits for
-- is_preorder cs == whether cs are the child counts of one tree in pre-order
-- front c f, rest c f == the first c siblings, and those after them
-- siblings_of cs ls == the list of siblings of these counts and labels
-- file_tree b == that of the file
-- out_room n plan places == whether n is in its limit and both outputs, of these lengths, are long enough
-- out_checks b plan places == 19, 20, 21 going out; plan and places are the lengths of the two outputs
-- is_image t == whether t is the image of a tree that a file can hold; comes_from_file p == whether p is the plan of such
--   a tree
-- home_checks p file == 19, 21 going home; file is the length of the output
use Rattle.std.specs.Prelude.{ℕ, zero, suc, ◌+◌, ◌*◌, Bool, true, false, cond, ◌&&◌, List, [], ◌∷◌, ◌++◌, eqb, leb, ltb, length, take, drop}
use Rattle.std.proofs.Math.Option.{Option, none, some}
use Rattle.trees.specs.Tree.{Tree, leaf, node}
use Rattle.formats.specs.Bytes.{le32, le32_bytes}
use Rattle.list_laws.specs.Tests.{all_below}
use Rattle.formats.specs.Plan.{plan_length, plan_tree}
use Rattle.formats.specs.Checks.{Check, check, first_no, plan_checks}
use Rattle.planner.specs.Siblings.{Siblings, empty, sibling, count, width, pre_labels, pre_counts, unimage}
use Rattle.planner.specs.Siblings.{empty_label}

abbrev pub file_count : List ℕ → ℕ
file_count b = le32 b 0

abbrev pub file_length : ℕ → ℕ
file_length n = 12 + 2 * n

abbrev pub label_run : List ℕ → List ℕ
label_run b = take (file_count b) (drop 12 b)

abbrev pub count_run : List ℕ → List ℕ
count_run b = take (file_count b) (drop (12 + file_count b) b)

-- "a header of count n, offset of labels (12) and offset of child counts (12+n), each 32-bit, then n labels and n
-- counts in pre-order of one tree"
unfoldable pub file_bytes : Siblings → List ℕ
file_bytes f = le32_bytes (count f) ++ (le32_bytes 12 ++ (le32_bytes (12 + count f) ++ (pre_labels f ++ pre_counts f)))

abbrev pub pending : List ℕ → ℕ → Option ℕ
pending [] w = some w
pending (c ∷ cs) zero = none
pending (c ∷ cs) (suc w) = pending cs (c + w)

abbrev pub nothing_left : Option ℕ → Bool
nothing_left none = false
nothing_left (some w) = eqb w 0

unfoldable pub is_preorder : List ℕ → Bool
is_preorder cs = nothing_left (pending cs 1)

abbrev pub front : ℕ → Siblings → Siblings
front zero f = empty
front (suc c) empty = empty
front (suc c) (sibling a k r) = sibling a k (front c r)

abbrev pub rest : ℕ → Siblings → Siblings
rest zero f = f
rest (suc c) empty = empty
rest (suc c) (sibling a k r) = rest c r

-- what follows a node's count is its children and then its later siblings
abbrev pub siblings_of : List ℕ → List ℕ → Siblings
siblings_of [] ls = empty
siblings_of (c ∷ cs) [] = empty
siblings_of (c ∷ cs) (a ∷ ls) = sibling a (front c (siblings_of cs ls)) (rest c (siblings_of cs ls))

unfoldable pub file_tree : List ℕ → Siblings
file_tree b = siblings_of (count_run b) (label_run b)

-- "Refused are a malformed file, n of 0 included, .. with 19"
unfoldable pub well_formed : List ℕ → Bool
well_formed b =
    leb 12 (length b)
    && (leb 1 (file_count b)
    && (eqb (le32 b 4) 12
    && (eqb (le32 b 8) (12 + file_count b) && (eqb (length b) (file_length (file_count b)) && is_preorder (count_run b)))))

-- "n above 32,767 or a short output": n nodes, and the lengths of the plan's and the places' buffer
unfoldable pub out_room : ℕ → ℕ → ℕ → Bool
out_room n plan places = leb n 32767 && (leb (plan_length (2 * n + 1)) plan && leb n places)

-- "a label of 63 or more in a planner's file with 20, and n above 32,767 or a short output with 21, in that order"
unfoldable pub out_checks : List ℕ → ℕ → ℕ → List Check
out_checks b plan places =
    check 19 (well_formed b)
    ∷ check 20 (all_below empty_label (label_run b))
    ∷ check 21 (out_room (file_count b) plan places)
    ∷ []

-- every leaf has label 63, every inner node a label below
abbrev pub image_labels : Tree → Bool
image_labels (leaf a) = eqb a empty_label
image_labels (node l a r) = image_labels l && (ltb a empty_label && image_labels r)

-- one tree at the top, and no node with more than 255 children
unfoldable pub is_image : Tree → Bool
is_image t = image_labels t && (eqb (width (unimage t)) 1 && all_below 256 (pre_counts (unimage t)))

-- the bytes are a plan (2 to 5 pass), and its tree is such an image
unfoldable pub comes_from_file : List ℕ → Bool
comes_from_file p = eqb (first_no (plan_checks p)) 0 && is_image (plan_tree p)

-- "bytes that are no such image with 19 .. a short output with 21"
unfoldable pub home_checks : List ℕ → ℕ → List Check
home_checks p file =
    check 19 (comes_from_file p)
    ∷ check 21 (leb (file_length (count (unimage (plan_tree p)))) file)
    ∷ []
