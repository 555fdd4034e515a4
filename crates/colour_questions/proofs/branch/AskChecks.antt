-- The checks of a branch question by colours, one by one.
--     ask-17, ask-13-upper, ask-13-lower, ask-16    the answer where a check fails and those before it pass
--     ask-on                                        the answer where 17, 13 and 16 pass
--     ask-not-below                                 where 17 and 13 pass, 16 exactly where the given size says so
--     ask-number                                    an answer's number is the first failing check's
use Prim.Native.Nat.{ℕ, ◌≤◌, ◌<◌}
use mathlib.Core.Path.{◌≡◌, refl, sym, ap, ◌∙◌}
use mathlib.Core.Bool.{Bool, true, false, ◌&&◌}
use mathlib.Core.List.{List}
use mathlib.Core.Logic.{◌↔◌}
use mathlib.Core.Option.{Option, none, some}
use native.Mathlib.Omega.{arith}
use lib.Dec.{ltb}
use lib.ListN.{length}
use borrow.Author.Tests.{lt-ltb, le-ltb}
use Rattle.formats.specs.Plan.{node_count}
use Rattle.formats.specs.Checks.{first_no}
use Rattle.colour_questions.specs.branch.Question.{colour_buffers_fit}
use Rattle.list_laws.proofs.BoolLaws.{and_both, and-no-left, and-no-right}
use Rattle.formats.proofs.FourChecks.{four, four-1, four-2, four-3}
use Rattle.tables.specs.node_tables.Cells.{is_in_subtree_on}
use Rattle.branches.specs.declared.answers.Reading.{Reading}
use Rattle.colour_questions.specs.declared.branch.answers.ColourAsked.{ColourAsked}
use Rattle.branches.specs.Question.{is_some}
use Rattle.colour_questions.specs.branch.Question.{coloured_on, colour_checks}
use Rattle.colour_questions.specs.branch.Question.{colour_number, colour_answer, colour_ask_answer}

-- four checks, the last of which is whether there is an answer
module _ (a b c : Bool) (o : Option ColourAsked) where
  abbrev number : ℕ
  number = first_no (four 16 12 15 17 a b c (is_some o))

  answer-passed : a ≡ true → b ≡ true → c ≡ true → colour_answer number o ≡ colour_answer 0 o
  unfolding first_no colour_answer
  answer-passed e f g = rw (e, f, g) (go o)
    where
      go : (o : Option ColourAsked) → colour_answer (first_no (four 16 12 15 17 true true true (is_some o))) o
          ≡ colour_answer 0 o
      go none = refl
      go (some x) = refl

-- the number of an answer is that of its checks
answer-number : (a b c : Bool) (o : Option ColourAsked)
    → (colour_answer (first_no (four 16 12 15 17 a b c (is_some o))) o).0
    ≡ first_no (four 16 12 15 17 a b c (is_some o))
unfolding colour_answer first_no
answer-number true true true none = refl
answer-number true true true (some x) = refl
answer-number true true false o = refl
answer-number true false c o = refl
answer-number false b c o = refl

module _ (reading : Reading) (p r node_table numbers bytes : List ℕ) (u l : ℕ) where
  abbrev fits : Bool
  fits = colour_buffers_fit p r (length node_table) (length numbers) (length bytes)

  abbrev nodes : Bool
  nodes = ltb u (node_count p) && ltb l (node_count p)

  abbrev below : Bool
  below = is_in_subtree_on node_table u l

  abbrev on : Option ColourAsked
  on = coloured_on reading p r node_table numbers bytes u l

  pub ask-number : (colour_ask_answer reading p r node_table numbers bytes u l).0
      ≡ colour_number reading p r node_table numbers bytes u l
  unfolding colour_ask_answer colour_number colour_checks
  ask-number = answer-number fits nodes below on

  pub ask-17 : fits ≡ false → (17, none) ≡ colour_ask_answer reading p r node_table numbers bytes u l
  unfolding colour_ask_answer colour_number colour_checks colour_answer
  ask-17 e = ap (λ (i : ℕ). colour_answer i on) (sym (four-1 16 12 15 17 fits nodes below (is_some on) e))

  ask-13 : fits ≡ true → nodes ≡ false → (13, none) ≡ colour_ask_answer reading p r node_table numbers bytes u l
  unfolding colour_ask_answer colour_number colour_checks colour_answer
  ask-13 e f = ap (λ (i : ℕ). colour_answer i on) (sym (four-2 16 12 15 17 fits nodes below (is_some on) e f))

  pub ask-13-upper : fits ≡ true → node_count p ≤ u
      → (13, none) ≡ colour_ask_answer reading p r node_table numbers bytes u l
  ask-13-upper e h = ask-13 e (and-no-left (ltb u (node_count p)) (ltb l (node_count p)) (le-ltb u (node_count p) h))

  pub ask-13-lower : fits ≡ true → node_count p ≤ l
      → (13, none) ≡ colour_ask_answer reading p r node_table numbers bytes u l
  ask-13-lower e h = ask-13 e (and-no-right (ltb u (node_count p)) (ltb l (node_count p)) (le-ltb l (node_count p) h))

  both-nodes : u < node_count p → l < node_count p → nodes ≡ true
  both-nodes h i =
      and_both (ltb u (node_count p)) (ltb l (node_count p)) (lt-ltb u (node_count p) h) (lt-ltb l (node_count p) i)

  pub ask-16 : fits ≡ true → u < node_count p → l < node_count p → below ≡ false
      → (16, none) ≡ colour_ask_answer reading p r node_table numbers bytes u l
  unfolding colour_ask_answer colour_number colour_checks colour_answer
  ask-16 e h i f =
      ap (λ (j : ℕ). colour_answer j on) (sym (four-3 16 12 15 17 fits nodes below (is_some on) e (both-nodes h i) f))

  pub ask-on : fits ≡ true → u < node_count p → l < node_count p → below ≡ true
      → colour_ask_answer reading p r node_table numbers bytes u l
      ≡ colour_answer 0 (coloured_on reading p r node_table numbers bytes u l)
  unfolding colour_ask_answer colour_number colour_checks
  ask-on e h i f = answer-passed fits nodes below on e (both-nodes h i) f

  pub ask-not-below : fits ≡ true → u < node_count p → l < node_count p
      → ((colour_ask_answer reading p r node_table numbers bytes u l).0 ≡ 16)
      ↔ (is_in_subtree_on node_table u l ≡ false)
  unfolding colour_answer
  ask-not-below e h i = (λ n. go below refl n, λ f. sym (ap (λ t. t.0) (ask-16 e h i f)))
    where
      other : (o : Option ColourAsked) → (colour_answer 0 o).0 ≡ 16 → ⊥
      other none n = omega (arith, n)
      other (some x) n = omega (arith, n)

      go : (b : Bool) → below ≡ b → (colour_ask_answer reading p r node_table numbers bytes u l).0 ≡ 16
          → b ≡ false
      go false f n = refl
      go true f n = absurd (other on (sym (ap (λ t. t.0) (ask-on e h i f)) ∙ n))
