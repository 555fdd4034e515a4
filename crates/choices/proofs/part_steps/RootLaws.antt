-- What root_counts promises, at each way out.
use Prim.Native.Nat.{ℕ, ◌+◌, ◌-◌}
use mathlib.Core.Path.{◌≡◌, refl, ◌∙◌, subst}
use mathlib.Core.Bool.{true}
use mathlib.Core.List.{List}
use native.Mathlib.Omega.{arith}
use lib.ListN.{get_or}
use borrow.Author.Tests.{eq-eqb, ne_eqb}
use Rattle.tables.specs.node_tables.Cells.{depth_cell}
use Rattle.tables.specs.Climbs.{View}
use Rattle.tables.specs.inner.PathViews.{path_view}
use Rattle.choices.specs.node_counts.Join.{AccumulateArgs, Accumulated}
use Rattle.choices.specs.declared.part_steps.carry.Carried.{Carried}
use Rattle.choices.specs.part_steps.Fork.{ForkDone}
use Rattle.choices.specs.part_steps.Root.{root_ok, root_links, root_count, RootArgs, RootDone}

module _ (n s k : ℕ) (ls ks lv inn node_table state_table es cs : List ℕ) (v l i j b e : ℕ) (m : List ℕ)
    (A : RootArgs n s k ls ks lv inn node_table state_table es cs v l i j b e m) where
  abbrev X : View
  X = path_view n s k ls inn node_table state_table

  pub leaf-args : AccumulateArgs lv 1 k b e 0 0 1 m
  leaf-args = record {
    table = A.leaves;
    left = omega arith;
    right = omega arith;
    many = omega arith;
    kept = record { sixteen = A.sixteen; most = λ a. omega (arith, A.empty a) };
  }

  pub leaf-done : get_or ks v 0 ≡ 0 → (o : List ℕ) → Accumulated lv 1 k b e 0 0 1 m o
      → RootDone X ks lv es cs v l i j b e (record { ok = true; links = 0 }) o
  unfolding root_ok root_links root_count
  leaf-done z o P =
      let q = eq-eqb (get_or ks v 0) 0 z in
      record {
        ok = rw q refl;
        links = λ _. rw q refl;
        few = λ _. omega arith;
        kept = P.kept;
        counts = λ _ c h. P.counts c h ∙ (rw q (omega (arith, A.empty c)));
      }

  pub inner-done : (get_or ks v 0 ≡ 0 → ⊥) → (t : ℕ) → t ≡ depth_cell node_table v + 1 → (a : Carried) (o : List ℕ)
      → ForkDone X es cs t l (v - 1) i j b e a o → RootDone X ks lv es cs v l i j b e a o
  unfolding root_ok root_links root_count
  inner-done z t f a o F =
      let q = ne_eqb (get_or ks v 0) 0 z in
      let D : ForkDone X es cs (depth_cell node_table v + 1) l (v - 1) i j b e a o =
      subst (λ (x : ℕ). ForkDone X es cs x l (v - 1) i j b e a o) f F in
      record {
        ok = rw q D.ok;
        links = λ g. rw q (D.links g);
        few = D.few;
        kept = D.kept;
        counts = λ g c h. rw q (D.counts g c h);
      }
