-- The last finished answer, in a struct and in a record.
--     last-in-to, last-back      the one from the other, and back
--     some-last                  whether there is one
--     AnswerFits s o, LastFits s o   what is true of an answer on S states; last-of, last-yes: and the test of it
--     OwnAnswer s, own_of, own-yes     an answered struct's own
--     last-is, last-append, last_below   the last of a list of states
use Prim.Native.Nat.{ℕ, zero, suc, ◌+◌, ◌-◌, ◌*◌, ◌≤◌, ◌<◌}
use mathlib.Core.Path.{◌≡◌, refl, sym, ap, ◌∙◌}
use mathlib.Core.Bool.{Bool, true, false, cond, ◌&&◌}
use mathlib.Core.List.{List, [], ◌∷◌, ◌++◌}
use mathlib.Core.Option.{Option, none, some}
use native.Mathlib.Omega.{arith}
use lib.Dec.{leb, ltb}
use lib.ListN.{length, get_or, take}
use lib.Seq.{get_or-take}
use borrow.Author.Tests.{le-leb, lt-ltb, leb-true, ltb-true, eqb-true, not-true}
use Rattle.list_laws.specs.Tests.{all_below}
use Rattle.list_laws.proofs.BoolLaws.{and_both, and_left, and_right}
use Rattle.trees.proofs.MoveLaws.{both}
use Rattle.formats.proofs.PlanLaws.{within_low, within-high}
use Rattle.model.specs.Calls as calls
use Rattle.model.specs.Model.{last_of}
use Rattle.session.specs.declared.answers.Outcome.{Outcome}
use Rattle.session.specs.declared.state.Last.{Last}
use Rattle.session.specs.declared.state.Session.{Session}
use Rattle.session.specs.Records.{outcome_in, last_in, last_to, no_last, is_none, last_question_fits, same_flag, last_is_own}

-- ---- the last of a list of states

pub last-is : (l : List ℕ) (q n : ℕ) → length l ≡ n + 1 → last_of l q ≡ get_or l n 0
unfolding last_of
last-is [] q n e = absurd (omega arith)
last-is (x ∷ []) q zero e = refl
last-is (x ∷ []) q (suc n) e = absurd (omega arith)
last-is (x ∷ y ∷ l) q zero e = absurd (omega arith)
last-is (x ∷ y ∷ l) q (suc n) e = last-is (y ∷ l) x n (omega arith)

pub last-append : (l : List ℕ) (q x : ℕ) → last_of (l ++ (x ∷ [])) q ≡ x
unfolding last_of
last-append [] q x = refl
last-append (y ∷ l) q x = last-append l y x

pub last_below : (s : ℕ) (l : List ℕ) (q : ℕ) → all_below s l ≡ true → 1 ≤ length l → last_of l q < s
unfolding last_of all_below
last_below s [] q e h = absurd (omega arith)
last_below s (x ∷ []) q e h = ltb-true x s (and_left (ltb x s) (all_below s []) e)
last_below s (x ∷ y ∷ l) q e h = last_below s (y ∷ l) x (and_right (ltb x s) (all_below s (y ∷ l)) e) (omega arith)

-- ---- from one to the other, and back

pub last-in-to : (o : Option calls.Outcome) → last_in (last_to o) ≡ o
last-in-to none = refl
last-in-to (some o) = refl

pub some-last : (l : Last) → calls.is_some (last_in l) ≡ l.present
some-last l = go l.present
  where
    go : (b : Bool) → calls.is_some (cond b (some (outcome_in l.outcome)) none) ≡ b
    go true = refl
    go false = refl

abbrev last_with : Bool → Outcome → Last
last_with b o = record { present = b; outcome = o }

pub present-back : (l : Last) → l.present ≡ true → last_to (last_in l) ≡ l
present-back l e =
    ap (λ (b : Bool). last_to (cond b (some (outcome_in l.outcome)) none)) e ∙ ap (λ (b : Bool). last_with b l.outcome) (sym e)

none-fields : (p y : Bool) (q n l d : ℕ) → p ≡ false → y ≡ false → q ≡ 0 → n ≡ 0 → l ≡ 0 → d ≡ 0
    → last_with p (record { state = q; yes = y; parts = n; links = l; passed = d }) ≡ no_last
none-fields p y q n l d e f g h i j = rw (e, f, g, h, i, j)

pub none_is : (l : Last) → is_none l ≡ true → l ≡ no_last
unfolding is_none
none_is l e =
    let a = both _ _ e in
    let b = both _ _ a.1 in
    let c = both _ _ b.1 in
    let d = both _ _ c.1 in
    let f = both _ _ d.1 in
    none-fields l.present l.outcome.yes l.outcome.state l.outcome.parts l.outcome.links l.outcome.passed
    (not-true l.present a.0) (not-true l.outcome.yes b.0) (eqb-true l.outcome.state 0 c.0)
    (eqb-true l.outcome.parts 0 d.0) (eqb-true l.outcome.links 0 f.0) (eqb-true l.outcome.passed 0 f.1)

pub none-back : (l : Last) → is_none l ≡ true → last_to (last_in l) ≡ l
none-back l e = let f = none_is l e in ap (λ (m : Last). last_to (last_in m)) f ∙ sym f

-- ---- an answer on S states

pub record AnswerFits (s : ℕ) (o : calls.Outcome) : Type 0 where
  pub state : o.state < s
  pub some-part : 1 ≤ o.parts
  pub few_parts : o.parts ≤ 254
  pub links_passed : o.links ≤ o.passed
  pub few-passed : o.passed ≤ 65535 * o.parts

abbrev pub LastFits : ℕ → Option calls.Outcome → Type 0
LastFits s none = Unit {0}
LastFits s (some o) = AnswerFits s o

-- the test of one that is there
abbrev fits_test : ℕ → Outcome → Bool
fits_test s o =
    ltb o.state s
    && ((leb 1 o.parts && leb o.parts 254) && (leb o.links o.passed && leb o.passed (65535 * o.parts)))

module _ (s : ℕ) (l : Last) (e : last_question_fits s l ≡ true) where
  pub last-back : last_to (last_in l) ≡ l
  unfolding last_question_fits
  last-back = go l.present refl e
    where
      go : (b : Bool) → l.present ≡ b → cond b (fits_test s l.outcome) (is_none l) ≡ true → last_to (last_in l) ≡ l
      go true p f = present-back l p
      go false p f = none-back l f

  pub last-of : LastFits s (last_in l)
  unfolding last_question_fits
  last-of = go l.present e
    where
      go : (b : Bool) → cond b (fits_test s l.outcome) (is_none l) ≡ true
          → LastFits s (cond b (some (outcome_in l.outcome)) none)
      go true f =
          let a = both _ _ f in
          let b = both _ _ a.1 in
          let c = both _ _ b.1 in
          record {
            state = ltb-true l.outcome.state s a.0;
            some-part = within_low 1 254 l.outcome.parts b.0;
            few_parts = within-high 1 254 l.outcome.parts b.0;
            links_passed = leb-true l.outcome.links l.outcome.passed c.0;
            few-passed = leb-true l.outcome.passed (65535 * l.outcome.parts) c.1;
          }
      go false f = tt

pub none-yes : is_none no_last ≡ true
unfolding is_none
none-yes = refl

pub last-yes : (s : ℕ) (o : Option calls.Outcome) → LastFits s o → last_question_fits s (last_to o) ≡ true
unfolding last_question_fits
last-yes s none F = none-yes
last-yes s (some o) F =
    and_both _ _ (lt-ltb o.state s F.state)
    (and_both _ _ (and_both _ _ (le-leb 1 o.parts F.some-part) (le-leb o.parts 254 F.few_parts))
    (and_both _ _ (le-leb o.links o.passed F.links_passed) (le-leb o.passed (65535 * o.parts) F.few-passed)))

-- ---- an answered struct's own

pub record OwnAnswer (s : Session) : Type 0 where
  pub some-handled : 1 ≤ s.head.handled
  pub few_handled : s.head.handled ≤ 254
  pub present : s.head.last.present ≡ true
  pub state : s.head.last.outcome.state ≡ get_or s.states (s.head.handled - 1) 0
  pub yes : s.head.last.outcome.yes ≡ s.head.yes
  pub parts : s.head.last.outcome.parts ≡ s.head.parts
  pub links : s.head.last.outcome.links ≡ s.head.links
  pub passed : s.head.last.outcome.passed ≡ s.head.passed

flag_same : (a b : Bool) → same_flag a b ≡ true → a ≡ b
unfolding same_flag
flag_same true b e = sym e
flag_same false b e = sym (not-true b e)

pub flag-yes : (a : Bool) → same_flag a a ≡ true
unfolding same_flag
flag-yes true = refl
flag-yes false = refl

pub own_of : (s : Session) → last_is_own s ≡ true → OwnAnswer s
unfolding last_is_own
own_of s e =
    let l = s.head.last in
    let a = both _ _ e in
    let b = both _ _ a.1 in
    let c = both _ _ b.1 in
    let d = both _ _ c.1 in
    let f = both _ _ d.1 in
    let g = both _ _ f.1 in
    record {
      some-handled = within_low 1 254 s.head.handled a.0;
      few_handled = within-high 1 254 s.head.handled a.0;
      present = b.0;
      state = eqb-true l.outcome.state (get_or s.states (s.head.handled - 1) 0) c.0;
      yes = flag_same l.outcome.yes s.head.yes d.0;
      parts = eqb-true l.outcome.parts s.head.parts f.0;
      links = eqb-true l.outcome.links s.head.links g.0;
      passed = eqb-true l.outcome.passed s.head.passed g.1;
    }

outcome-fields : (q q' : ℕ) (y y' : Bool) (n n' l l' d d' : ℕ) → q ≡ q' → y ≡ y' → n ≡ n' → l ≡ l' → d ≡ d'
    → ◌≡◌ {A = Option calls.Outcome} (some (record { state = q; yes = y; parts = n; links = l; passed = d }))
    (some (record { state = q'; yes = y'; parts = n'; links = l'; passed = d' }))
outcome-fields q q' y y' n n' l l' d d' e f g h i = cc

-- as a record has it
pub own-last : (s : Session) → OwnAnswer s → length (take s.head.handled s.states) ≡ s.head.handled
    → length (take s.head.parts s.roots) ≡ s.head.parts
    → last_in s.head.last
    ≡ some (record {
      state = last_of (take s.head.handled s.states) 0;
      yes = s.head.yes;
      parts = length (take s.head.parts s.roots);
      links = s.head.links;
      passed = s.head.passed;
    })
own-last s O h p =
    let n = s.head.handled in
    ap (λ (b : Bool). cond b (some (outcome_in s.head.last.outcome)) none) O.present
    ∙ outcome-fields _ _ _ _ _ _ _ _ _ _
    (O.state ∙ sym (get_or-take n s.states (n - 1) 0 (omega (arith, O.some-handled)))
    ∙ sym (last-is (take n s.states) 0 (n - 1) (omega (arith, h, O.some-handled))))
    O.yes (O.parts ∙ sym p) O.links O.passed
