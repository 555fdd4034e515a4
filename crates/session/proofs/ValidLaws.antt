-- The tests of a struct as the code makes them, against their definitions.
use Prim.Native.Nat.{ℕ, ◌-◌, ◌*◌, ◌≤◌, ◌<◌}
use mathlib.Core.Path.{◌≡◌, refl, sym, ap, ◌∙◌}
use mathlib.Core.Bool.{Bool, true, false, cond, not, beq, ◌&&◌}
use mathlib.Core.List.{List}
use native.Mathlib.Omega.{arith}
use lib.Dec.{leb, ltb, eqb}
use lib.ListN.{length, get_or, take, drop, length-drop}
use lib.Seq.{take_all}
use borrow.Author.Tests.{le-leb, lt-leb, not-true, not-false}
use Rattle.list_laws.specs.Tests.{all_below}
use Rattle.formats.specs.Limits.{within}
use Rattle.formats.proofs.PlanLaws.{within_low}
use Rattle.list_laws.proofs.BoolLaws.{and_yes, and_assoc}
use Rattle.session.specs.declared.state.Sizes.{Sizes}
use Rattle.session.specs.declared.state.Last.{Last}
use Rattle.session.specs.declared.state.Session.{Session}
use Rattle.list_laws.proofs.BoolLaws.{and_left, and-no-right}
use Rattle.session.specs.declared.state.Phase.{Phase}
use Rattle.session.specs.declared.state.Phase.TheVariants.{Empty, Loaded, Running, Answered}
use Rattle.session.specs.Records.{sizes_fit, no_question, list_fits, parts_fit, question_fits, zero_from, rises_to, valid_in, valid}
use Rattle.session.specs.Records.{is_none, last_question_fits, same_flag, last_is_own}
use Rattle.session.specs.inner.Shapes.{PartsShaped}

pub sizes-test : (z : Sizes)
    → (ltb 0 z.n && leb z.n 65535 && ltb 0 z.s && leb z.s 16 && ltb 0 z.k && leb z.k 64) ≡ sizes_fit z
unfolding sizes_fit
sizes-test z = simp and_assoc

pub question-test : (s : Session) (a b c : Bool) → a ≡ (all_below 1 s.nodes && all_below 1 s.labels)
    → b ≡ all_below 1 s.roots
    → c ≡ all_below 1 s.states
    → (not s.head.yes && eqb s.head.m 0 && eqb s.head.parts 0 && eqb s.head.handled 0 && eqb s.head.links 0
    && eqb s.head.passed 0 && a && b && c) ≡ no_question s
unfolding no_question zero_from
question-test s a b c e f g = rw (e, f, g) (simp and_assoc)

-- ---- the last finished answer

pub none-test : (l : Last)
    → (not l.present && not l.outcome.yes && eqb l.outcome.state 0 && eqb l.outcome.parts 0 && eqb l.outcome.links 0
    && eqb l.outcome.passed 0)
    ≡ is_none l
unfolding is_none
none-test l = simp and_assoc

pub last-absent : (s : ℕ) (l : Last) (b : Bool) → not l.present ≡ true → b ≡ is_none l → b ≡ last_question_fits s l
unfolding last_question_fits
last-absent s l b e f =
    f ∙ ap (λ (p : Bool). cond p (ltb l.outcome.state s && (within 1 254 l.outcome.parts
    && (leb l.outcome.links l.outcome.passed && leb l.outcome.passed (65535 * l.outcome.parts))))
    (is_none l)) (sym (not-true l.present e))

pub last-test : (s : ℕ) (l : Last) → not l.present ≡ false
    → (ltb l.outcome.state s && ltb 0 l.outcome.parts && leb l.outcome.parts 254
    && (leb l.outcome.links l.outcome.passed && leb l.outcome.passed (65535 * l.outcome.parts)))
    ≡ last_question_fits s l
unfolding last_question_fits
last-test s l e = rw (not-false l.present e) (simp and_assoc)

module _ (s : Session) where
  pub own-few : s.head.handled < 1 → false ≡ last_is_own s
  unfolding last_is_own
  own-few h = rw (lt-leb 1 s.head.handled h)

  pub own-many : 254 < s.head.handled → false ≡ last_is_own s
  unfolding last_is_own
  own-many h = rw (lt-leb s.head.handled 254 h, le-leb 1 s.head.handled (omega arith))

  pub own-test : 1 ≤ s.head.handled → s.head.handled ≤ 254 → (c : Bool) → c ≡ same_flag s.head.last.outcome.yes s.head.yes
      → (s.head.last.present && eqb s.head.last.outcome.state (get_or s.states (s.head.handled - 1) 0) && c
      && eqb s.head.last.outcome.parts s.head.parts && eqb s.head.last.outcome.links s.head.links
      && eqb s.head.last.outcome.passed s.head.passed) ≡ last_is_own s
  unfolding last_is_own
  own-test g h c e = rw (le-leb 1 s.head.handled g, le-leb s.head.handled 254 h, e) (simp and_assoc)

-- two yes or no are the same
pub same-flag : (a b : Bool) → beq a b ≡ same_flag a b
unfolding same_flag
same-flag true true = refl
same-flag true false = refl
same-flag false true = refl
same-flag false false = refl

-- what `&l[i..]` is
rest : (l : List ℕ) (i : ℕ) → take (length l - i) (drop i l) ≡ drop i l
rest l i = take_all (length l - i) (drop i l) (simp length-drop (omega arith))

pub rests-long : (l k : List ℕ) (i : ℕ) → length k ≡ length l
    → length (take (length k - i) (drop i k)) ≡ length (take (length l - i) (drop i l))
rests-long l k i e = rw (rest k i, rest l i) (simp length-drop (omega arith))

module _ (s : Session) where
  pub list-long : 64 < s.head.m → false ≡ list_fits s
  unfolding list_fits
  list-long h = rw (lt-leb s.head.m 64 h)

  pub list-test : s.head.m ≤ 64 → (a b c : Bool) → a ≡ all_below s.head.sizes.n (take s.head.m s.nodes)
      → b ≡ all_below s.head.sizes.k (take s.head.m s.labels)
      → c ≡ (all_below 1 (take (length s.nodes - s.head.m) (drop s.head.m s.nodes))
      && all_below 1 (take (length s.labels - s.head.m) (drop s.head.m s.labels)))
      → (a && b && c) ≡ list_fits s
  unfolding list_fits zero_from
  list-test h a b c e f g =
      rw (le-leb s.head.m 64 h, e, f, g, rest s.nodes s.head.m, rest s.labels s.head.m) (simp and_assoc)

  pub parts_none : s.head.parts < 1 → false ≡ parts_fit s
  unfolding parts_fit
  parts_none h = rw (lt-leb 1 s.head.parts h)

  pub parts-many : 254 < s.head.parts → false ≡ parts_fit s
  unfolding parts_fit
  parts-many h = rw (lt-leb s.head.parts 254 h, le-leb 1 s.head.parts (omega arith))

  pub parts-test : 1 ≤ s.head.parts → s.head.parts ≤ 254 → (a b c d : Bool)
      → a ≡ rises_to (s.head.sizes.n - 1) (take s.head.parts s.roots)
      → b ≡ all_below 1 (take (length s.roots - s.head.parts) (drop s.head.parts s.roots))
      → c ≡ all_below s.head.sizes.s (take s.head.handled s.states)
      → d ≡ all_below 1 (take (length s.states - s.head.handled) (drop s.head.handled s.states))
      → (a && b && (c && d) && leb s.head.links s.head.passed && leb s.head.passed (65535 * s.head.handled)) ≡ parts_fit s
  unfolding parts_fit zero_from
  parts-test g h a b c d e f i j =
      rw (
        le-leb 1 s.head.parts g,
        le-leb s.head.parts 254 h,
        e,
        f,
        i,
        j,
        rest s.roots s.head.parts,
        rest
            s.states s.head.handled,
      )
      (simp and_assoc)

  -- ---- a question

  sizes-some : sizes_fit s.head.sizes ≡ true → 1 ≤ s.head.sizes.n
  unfolding sizes_fit
  sizes-some e = let z = s.head.sizes in within_low 1 65535 z.n (and_left (within 1 65535 z.n) _ e)

  module _ (b : Bool) (sizes : b ≡ sizes_fit s.head.sizes) where
    pub parted : length s.roots ≡ 254 → length s.states ≡ 254 → not b ≡ false → s.head.handled ≤ s.head.parts
        → PartsShaped s.head s.roots s.states
    parted r q f h = record {
      roots = r;
      states = q;
      some_node = sizes-some (sym sizes ∙ not-false b f);
      counted = h;
    }

    pub question-sizes : not b ≡ true → false ≡ question_fits s
    unfolding question_fits
    question-sizes f = rw (← sizes, not-true b f)

    pub question-fits : not b ≡ false → (c d : Bool) → c ≡ list_fits s → d ≡ parts_fit s → s.head.handled ≤ s.head.parts
        → (c && d) ≡ question_fits s
    unfolding question_fits
    question-fits g c d list parts h =
        rw (← sizes, not-false b g, list, parts, le-leb s.head.handled s.head.parts h)
        (ap (λ (x : Bool). list_fits s && x) (sym (and_yes (parts_fit s))))

  pub question-counts : s.head.parts < s.head.handled → false ≡ question_fits s
  unfolding question_fits
  question-counts h =
      sym (and-no-right (sizes_fit s.head.sizes) _ (and-no-right (list_fits s) _ (and-no-right (parts_fit s) _
      (lt-leb s.head.handled s.head.parts h))))

  -- ---- by state

  pub empty-test : (c a : Bool) → c ≡ is_none s.head.last → a ≡ no_question s
      → (eqb s.head.sizes.n 0 && eqb s.head.sizes.s 0 && eqb s.head.sizes.k 0 && c && a) ≡ valid_in Empty s
  unfolding valid_in
  empty-test c a e f = rw (e, f) (simp and_assoc)

  pub loaded-test : (a c b : Bool) → a ≡ sizes_fit s.head.sizes → c ≡ last_question_fits s.head.sizes.s s.head.last
      → b ≡ no_question s → (a && c && b) ≡ valid_in Loaded s
  unfolding valid_in
  loaded-test a c b e f g = rw (e, f, g) (simp and_assoc)

  pub running-test : (b c : Bool) → b ≡ question_fits s → c ≡ last_question_fits s.head.sizes.s s.head.last
      → (b && c && ltb s.head.handled s.head.parts && not s.head.yes) ≡ valid_in Running s
  unfolding valid_in
  running-test b c e f = rw (e, f) (simp and_assoc)

  pub answered_test : (b c : Bool) → b ≡ question_fits s → c ≡ last_is_own s
      → (b && c && eqb s.head.handled s.head.parts) ≡ valid_in Answered s
  unfolding valid_in
  answered_test b c e f = rw (e, f) (simp and_assoc)

  pub phase-test : (p : Phase) (a : Bool) → a ≡ valid_in p s → s.head.phase ≡ p → a ≡ valid s
  unfolding valid
  phase-test p a e f = e ∙ ap (λ (q : Phase). valid_in q s) (sym f)
