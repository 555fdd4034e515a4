-- What side_counts promises, at each way out.
use Prim.Native.Nat.{ℕ, suc, ◌-◌, ◌*◌, ◌≤◌, ◌<◌}
use mathlib.Core.Path.{◌≡◌, refl, sym, ap, ◌∙◌}
use mathlib.Core.Bool.{true, false}
use mathlib.Core.List.{List}
use mathlib.Core.Option.{Option, none, some}
use native.Mathlib.Decide.{ℕ_discrete}
use native.Mathlib.Omega.{arith}
use lib.ListN.{get_or, set, length-set}
use lib.Seq.{get_or-set_same, get_or-set_other}
use borrow.Author.Tests.{lt-ltb, le-ltb, eq-eqb, ne_eqb}
use Rattle.tables.specs.StateCells.{state_cell}
use Rattle.tables.specs.declared.answers.Reached.{Reached}
use Rattle.tables.specs.Climbs.{View, below, run_on, climb_on}
use Rattle.tables.specs.inner.PathViews.{path_view, states_view}
use Rattle.tables.proofs.LookupLaws.{below-yes, below-no, below-state, below_none}
use Rattle.tables.proofs.ClimbBounds.{climb-bounded}
use Rattle.choices.specs.assignments.Sums.{sum_to, one}
use Rattle.choices.proofs.assignments.SumLaws.{sum-ext}
use Rattle.choices.specs.declared.part_steps.carry.Carried.{Carried}
use Rattle.choices.specs.part_steps.Carry.{links_in, arrives_at, CarryArgs, CarriedUp}
use Rattle.choices.specs.part_steps.Side.{count_in, side_ok, side_links, side_count, RowCopied, SideArgs, SideDone}

no-yes : (A : Type 0) → false ≡ true → A
no-yes A e = absurd (let z : ◌≡◌ {A = ℕ} 0 1 = cc in omega arith)

module _ (n s k : ℕ) (ls inn node_table state_table es cs : List ℕ) (t c : ℕ) (l : List ℕ) where
  abbrev X : View
  X = path_view n s k ls inn node_table state_table

  module _ (own other : ℕ) (A : SideArgs n s k ls inn node_table state_table es cs c own l) where
    -- the run's state
    module _ (z : own ≡ 0) (x : ℕ) (e : below s x ≡ run_on (states_view s state_table) c) where
      pub run-lost : s ≤ x → SideDone X es cs t c own other (record { ok = false; links = 0 }) l
      unfolding side_ok run_on
      run-lost h =
          let g : s ≤ state_cell s state_table c = below_none s (state_cell s state_table c) (sym e ∙ below-no s x h) in
          rw z (record {
            ok = sym (le-ltb (state_cell s state_table c) s g);
            links = λ q. no-yes _ q;
            few = λ q. no-yes _ q;
            kept = record { sixteen = A.sixteen; most = λ j. omega (arith, A.empty j) };
            counts = λ q. no-yes _ q;
          })

      pub run-kept : x < s → SideDone X es cs t c own other (record { ok = true; links = 0 }) (set l x 1)
      unfolding side_ok side_links side_count run_on
      run-kept h =
          let q = below-state s (state_cell s state_table c) x (sym e ∙ below-yes s x h) in
          let d : x < 16 = omega (arith, A.path.few) in
          let at : (p : ℕ) → get_or (set l x 1) p 0 ≡ one p x = λ p. place p d in
          rw z (record {
            ok = sym (lt-ltb (state_cell s state_table c) s q.0);
            links = λ _. refl;
            few = λ _. omega arith;
            kept = record {
              sixteen = length-set l x 1 ∙ A.sixteen;
              most = λ j. omega (arith, at j, one-most j x);
            };
            counts = λ _ p _. at p ∙ ap (one p) (sym q.1) ∙ omega (arith, one-most p (state_cell s state_table c));
          })
        where
          one-most : (p c : ℕ) → one p c ≤ 1
          one-most p c = elim (ℕ_discrete c p) [
            | yes i ↦ (rw (eq-eqb c p i) (omega arith))
            | no i ↦ (rw (ne_eqb c p i) (omega arith))
          ]

          place : (p : ℕ) → x < 16 → get_or (set l x 1) p 0 ≡ one p x
          place p d = elim (ℕ_discrete p x) [
            | yes i ↦ (rw (eq-eqb x p (sym i))
                (ap (λ (j : ℕ). get_or (set l x 1) j 0) i ∙ get_or-set_same l x 1 0 (omega (arith, A.sixteen))))
            | no i ↦ (rw (ne_eqb x p (λ j. i (sym j))) (get_or-set_other l x p 1 0 i ∙ A.empty p))
          ]

  -- the root's own, and what the climb makes of it
  module _ (own i other : ℕ) (is : own ≡ suc i) (A : SideArgs n s k ls inn node_table state_table es cs c own l) where
    pub own-kept : (j : ℕ) → other ≡ suc j → (m : List ℕ) → RowCopied cs i m
        → SideDone X es cs t c own other (record { ok = true; links = 0 }) m
    unfolding side_ok side_links side_count
    own-kept j e m R =
        rw (is, e) (record {
          ok = refl;
          links = λ _. refl;
          few = λ _. omega arith;
          kept = R.kept;
          counts = λ _ p h. omega (arith, R.counts p h, R.kept.most p);
        })

    pub carry-args : (row : List ℕ) → RowCopied cs i row
        → CarryArgs n s k ls inn node_table state_table (get_or es i 0) row l
    carry-args row R = record {
      path = A.path;
      some_state = A.some_state;
      at = A.inside i (omega (arith, is));
      row_kept = R.kept;
      out_kept = record { sixteen = A.sixteen; most = λ j. omega (arith, A.empty j) };
    }

    links-few : (o : Option Reached) → climb_on X (get_or es i 0) t (s - 1) ≡ o → links_in o ≤ n
    links-few none e = omega arith
    links-few (some x) e =
        (climb-bounded X (get_or es i 0) t (s - 1) x (omega (arith, A.some_state)) e).links

    pub carried-side : other ≡ 0 → (row : List ℕ) → RowCopied cs i row → (r : Carried) (m : List ℕ)
        → CarriedUp X (get_or es i 0) t row l r m → SideDone X es cs t c own other r m
    unfolding side_ok side_links side_count
    carried-side z row R r m C =
        rw (is, z) (record {
          ok = C.ok;
          links = C.links;
          few = λ q. omega (arith, C.links q, links-few (climb_on X (get_or es i 0) t (s - 1)) refl);
          kept = C.kept;
          counts = λ q p h.
              let e : sum_to s (λ j. get_or row j 0 * one p (arrives_at X (get_or es i 0) t j))
              ≡ sum_to s (λ j. count_in cs i j * one p (arrives_at X (get_or es i 0) t j)) =
              sum-ext s _ _ (λ j g. ap (λ (y : ℕ). y * one p (arrives_at X (get_or es i 0) t j))
              (R.counts j (omega (arith, A.path.few)))) in
              C.counts q p h ∙ omega (arith, e, A.empty p);
        })
