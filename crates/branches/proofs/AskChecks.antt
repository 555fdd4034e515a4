-- The checks of a branch question, one by one.
--     ask-17, ask-13-upper, ask-13-lower, ask-16    the answer where a check fails and those before it pass
--     ask-on                                        the answer where 17, 13 and 16 pass
--     ask-not-below                                 where 17 and 13 pass, 16 exactly where the given size says so
--     ask-number                                    an answer's number is the first failing check's
use Prim.Native.Nat.{ℕ, ◌≤◌, ◌<◌}
use mathlib.Core.Path.{◌≡◌, refl, sym, ap, ◌∙◌}
use mathlib.Core.Bool.{Bool, true, false, ◌&&◌}
use mathlib.Core.List.{List}
use mathlib.Core.Logic.{◌↔◌}
use mathlib.Core.Option.{Option, none, some}
use native.Mathlib.Omega.{arith}
use lib.Dec.{ltb}
use lib.ListN.{length}
use borrow.Author.Tests.{lt-ltb, le-ltb}
use Rattle.formats.specs.Plan.{node_count}
use Rattle.formats.specs.Checks.{first_no}
use Rattle.formats.specs.Buffers.{headed_buffers_fit, branch_tables}
use Rattle.list_laws.proofs.BoolLaws.{and_both, and-no-left, and-no-right}
use Rattle.formats.proofs.FourChecks.{four, four-1, four-2, four-3}
use Rattle.std.specs.Prelude.{Err}
use Rattle.formats.specs.Refusals.{answer_number}
use Rattle.formats.specs.declared.refusals.Refusal.TheVariants.{Node, NotBelow, LentLength}
use Rattle.tables.specs.node_tables.Cells.{is_in_subtree_on}
use Rattle.branches.specs.declared.answers.Reading.{Reading}
use Rattle.branches.specs.declared.answers.Branched.{Branched}
use Rattle.branches.specs.Question.{branch_on, is_some, ask_checks}
use Rattle.branches.specs.Question.{ask_number, branch_answer, ask_answer}

-- four checks, the last of which asks whether there is an answer
module _ (a b c : Bool) (o : Option Branched) where
  abbrev number : ℕ
  number = first_no (four 16 12 15 17 a b c (is_some o))

  answer-passed : a ≡ true → b ≡ true → c ≡ true → branch_answer number o ≡ branch_answer 0 o
  unfolding first_no branch_answer
  answer-passed e f g = rw (e, f, g) (go o)
    where
      go : (o : Option Branched) → branch_answer (first_no (four 16 12 15 17 true true true (is_some o))) o ≡ branch_answer 0 o
      go none = refl
      go (some x) = refl

-- the number of an answer is that of its checks
answer-number : (a b c : Bool) (o : Option Branched)
    → answer_number (branch_answer (first_no (four 16 12 15 17 a b c (is_some o))) o)
    ≡ first_no (four 16 12 15 17 a b c (is_some o))
unfolding branch_answer first_no
answer-number true true true none = refl
answer-number true true true (some x) = refl
answer-number true true false o = refl
answer-number true false c o = refl
answer-number false b c o = refl

module _ (reading : Reading) (p r node_table state_table : List ℕ) (u l : ℕ) where
  abbrev fits : Bool
  fits = headed_buffers_fit branch_tables p r (length node_table) (length state_table)

  abbrev nodes : Bool
  nodes = ltb u (node_count p) && ltb l (node_count p)

  abbrev below : Bool
  below = is_in_subtree_on node_table u l

  abbrev on : Option Branched
  on = branch_on reading p r node_table state_table u l

  pub ask-number : answer_number (ask_answer reading p r node_table state_table u l) ≡ ask_number reading p r node_table state_table u l
  unfolding ask_answer ask_number ask_checks
  ask-number = answer-number fits nodes below on

  pub ask-17 : fits ≡ false → Err LentLength ≡ ask_answer reading p r node_table state_table u l
  unfolding ask_answer ask_number ask_checks branch_answer
  ask-17 e = ap (λ (i : ℕ). branch_answer i on) (sym (four-1 16 12 15 17 fits nodes below (is_some on) e))

  ask-13 : fits ≡ true → nodes ≡ false → Err Node ≡ ask_answer reading p r node_table state_table u l
  unfolding ask_answer ask_number ask_checks branch_answer
  ask-13 e f = ap (λ (i : ℕ). branch_answer i on) (sym (four-2 16 12 15 17 fits nodes below (is_some on) e f))

  pub ask-13-upper : fits ≡ true → node_count p ≤ u → Err Node ≡ ask_answer reading p r node_table state_table u l
  ask-13-upper e h = ask-13 e (and-no-left (ltb u (node_count p)) (ltb l (node_count p)) (le-ltb u (node_count p) h))

  pub ask-13-lower : fits ≡ true → node_count p ≤ l → Err Node ≡ ask_answer reading p r node_table state_table u l
  ask-13-lower e h = ask-13 e (and-no-right (ltb u (node_count p)) (ltb l (node_count p)) (le-ltb l (node_count p) h))

  both-nodes : u < node_count p → l < node_count p → nodes ≡ true
  both-nodes h i =
      and_both (ltb u (node_count p)) (ltb l (node_count p)) (lt-ltb u (node_count p) h) (lt-ltb l (node_count p) i)

  pub ask-16 : fits ≡ true → u < node_count p → l < node_count p → below ≡ false
      → Err NotBelow ≡ ask_answer reading p r node_table state_table u l
  unfolding ask_answer ask_number ask_checks branch_answer
  ask-16 e h i f =
      ap (λ (j : ℕ). branch_answer j on) (sym (four-3 16 12 15 17 fits nodes below (is_some on) e (both-nodes h i) f))

  pub ask-on : fits ≡ true → u < node_count p → l < node_count p → below ≡ true
      → ask_answer reading p r node_table state_table u l ≡ branch_answer 0 (branch_on reading p r node_table state_table u l)
  unfolding ask_answer ask_number ask_checks
  ask-on e h i f = answer-passed fits nodes below on e (both-nodes h i) f

  pub ask-not-below : fits ≡ true → u < node_count p → l < node_count p
      → (answer_number (ask_answer reading p r node_table state_table u l) ≡ 16) ↔ (is_in_subtree_on node_table u l ≡ false)
  unfolding branch_answer
  ask-not-below e h i = (λ n. go below refl n, λ f. sym (ap answer_number (ask-16 e h i f)))
    where
      other : (o : Option Branched) → answer_number (branch_answer 0 o) ≡ 16 → ⊥
      other none n = omega (arith, n)
      other (some x) n = omega (arith, n)

      go : (b : Bool) → below ≡ b → answer_number (ask_answer reading p r node_table state_table u l) ≡ 16 → b ≡ false
      go false f n = refl
      go true f n = absurd (other on (sym (ap answer_number (ask-on e h i f)) ∙ n))
