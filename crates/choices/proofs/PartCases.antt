-- What part_counts promises, at each way out.
--     no_label, no-places, placed-args, placed-done
use Prim.Native.Nat.{ℕ, ◌+◌, ◌-◌, ◌*◌, ◌≤◌, ◌<◌}
use mathlib.Core.Path.{◌≡◌, sym, ap, ◌∙◌}
use mathlib.Core.Bool.{Bool, true, false, cond}
use mathlib.Core.List.{List}
use native.Mathlib.Decide.{ℕ_discrete}
use native.Mathlib.Omega.{arith}
use lib.Dec.{leb, ltb}
use lib.ListN.{length, get_or}
use borrow.Author.Tests.{le-leb, lt-leb, eq-eqb, ne_eqb, ltb-true}
use Rattle.list_laws.proofs.BoolLaws.{and_left, and-no-left}
use Rattle.list_laws.proofs.RowLaws.{tabulate-of}
use Rattle.tables.specs.node_tables.Cells.{depth_cell, size_cell}
use Rattle.tables.specs.Climbs.{View}
use Rattle.questions.specs.inner.PartArgs.{part_view, path_of}
use Rattle.questions.proofs.ScanLaws.{last-bound, last-covers}
use Rattle.choices.specs.node_counts.Capped.{capped}
use Rattle.choices.specs.node_counts.Join.{TableArgs}
use Rattle.choices.specs.declared.part_steps.carry.Carried.{Carried}
use Rattle.choices.specs.part_steps.Fork.{fork_ok}
use Rattle.choices.specs.part_steps.Root.{root_ok, root_links, root_count, RootArgs, RootDone}
use Rattle.choices.specs.question_counts.PartOn.{first_label, end_label, left_on, place_on}
use Rattle.choices.specs.question_counts.PartOn.{part_ok_on, part_links_on, part_count_on}
use Rattle.choices.specs.question_counts.PartsOn.{row_on}
use Rattle.choices.specs.declared.part.Places.{Places}
use Rattle.choices.specs.inner.Part.{PlacesAre, PartNeeds, PartCounted}
use Rattle.choices.proofs.SameCounts.{root-ok-same, root-links-same, root-count-same}

no-yes : (A : Type 0) → false ≡ true → A
no-yes A e = absurd (let z : ◌≡◌ {A = ℕ} 0 1 = cc in omega arith)

in_order : (free : Bool) (k a : ℕ) → cond free 0 a ≤ cond free k (a + 1)
in_order true k a = omega arith
in_order false k a = omega arith

module _ (n s k : ℕ) (ls ks lv inn node_table state_table es cs : List ℕ) (v : ℕ) (m : List ℕ)
    (A : PartNeeds n s k ls ks lv inn node_table state_table es cs v m) (free : Bool) (b e : ℕ)
    (is_b : b ≡ cond free 0 (get_or ls v 0)) (is-e : e ≡ cond free k (get_or ls v 0 + 1)) where
  abbrev X : View
  X = part_view n s k ls ks lv inn node_table state_table

  abbrev w : ℕ → Bool
  w = λ u. free

  first-is : first_label X w v ≡ b
  unfolding first_label
  first-is = sym is_b

  end_is : end_label X w v ≡ e
  unfolding end_label
  end_is = sym is-e

  lost : part_ok_on X w es v ≡ false → PartCounted X w es cs v (record { ok = false; links = 0 }) m
  lost f = record { ok = sym f; links = λ q. no-yes _ q; few = λ q. no-yes _ q; row = λ q. no-yes _ q }

  pub no_label : k < e → PartCounted X w es cs v (record { ok = false; links = 0 }) m
  unfolding part_ok_on
  no_label h =
      lost (and-no-left (leb (end_label X w v) k) _
      (ap (λ (x : ℕ). leb x k) end_is ∙ lt-leb e k h))

  module _ (labelled : e ≤ k) where
    label-ok : leb (end_label X w v) k ≡ true
    label-ok = ap (λ (x : ℕ). leb x k) end_is ∙ le-leb e k labelled

    table : (f : List ℕ) (z : ℕ) → z ≤ 16 → z * k * z ≤ length f → ((j : ℕ) → get_or f j 0 < s) → TableArgs f z k b e
    table f z h r u = record {
      states_most = h;
      labels_most = A.runs.path.labels;
      order = omega (arith, is_b, is-e, in_order free k (get_or ls v 0));
      labels = labelled;
      room = r;
      below = λ j. omega (arith, u j, A.runs.path.few);
    }

    leaves : TableArgs lv 1 k b e
    leaves = table lv 1 (omega arith) (omega (arith, A.runs.leaves_room)) A.runs.leaf_below

    pub no-places : (q : Places) → PlacesAre ks node_table es v q → q.ok ≡ false
        → PartCounted X w es cs v (record { ok = false; links = 0 }) m
    unfolding part_ok_on
    no-places q P f = lost (rw (label-ok, ne_eqb (get_or ks v 0) 0 (P.no_leaf f), P.no_children f))

    module _ (q : Places) (P : PlacesAre ks node_table es v q) (f : q.ok ≡ true) where
      before-it : (get_or ks v 0 ≡ 0 → ⊥) → q.child < v
      before-it y =
          let c = and_left (ltb 0 v) (leb (size_cell node_table (v - 1)) (v - 1)) (P.children f y) in
          omega (arith, P.child f y, ltb-true 0 v c)

      pub placed-args : RootArgs n s k ls ks lv inn node_table state_table es cs v q.child q.left q.right b e m
      placed-args = record {
        path = A.runs.path;
        at = A.at;
        kind = omega (arith, A.at, A.runs.kinds_room);
        leaves = leaves;
        inside = before-it;
        fork = λ y. record {
          path = A.runs.path;
          some_state = A.runs.some_state;
          left_at = omega (arith, A.at, before-it y);
          right_at = omega (arith, A.at);
          most = A.most;
          few = A.few;
          room = A.room;
          left_place = omega (arith, P.left f y, last-bound q.child (size_cell node_table q.child) es);
          right_place = omega (arith, P.right f y, last-bound (v - 1) (size_cell node_table (v - 1)) es);
          left_inside = λ a h. omega (
            arith,
            last-covers q.child (size_cell node_table q.child) es a (sym (P.left f y) ∙ h),
            before-it y,
            A.at,
          );
          right_inside = λ a h. omega (
            arith,
            last-covers (v - 1) (size_cell node_table (v - 1)) es a (sym (P.right f y) ∙ h),
            A.at,
          );
          table = table inn s A.runs.path.few A.runs.path.inner_room A.runs.inner_below;
          sixteen = A.sixteen;
          empty = A.empty;
        };
        sixteen = A.sixteen;
        empty = A.empty;
      }

      -- ---- a leaf

      module _ (z : get_or ks v 0 ≡ 0) where
        leaf-ok : root_ok X ks es v q.child q.left q.right ≡ part_ok_on X w es v
        unfolding root_ok part_ok_on
        leaf-ok = rw (label-ok, eq-eqb (get_or ks v 0) 0 z)

        leaf-links : root_links X ks es v q.left q.right ≡ part_links_on X es v
        unfolding root_links part_links_on
        leaf-links = rw (eq-eqb (get_or ks v 0) 0 z)

        leaf_count : (c : ℕ)
            → root_count X ks lv es cs v q.child q.left q.right b e c ≡ part_count_on X w es cs v c
        unfolding root_count part_count_on
        leaf_count c = rw (eq-eqb (get_or ks v 0) 0 z, first-is, end_is)

      -- ---- an inner node

      module _ (y : get_or ks v 0 ≡ 0 → ⊥) where
        left_is : left_on X v ≡ q.child
        left_is = sym (P.child f y)

        place_is : place_on X es (left_on X v) ≡ q.left
        place_is = ap (place_on X es) left_is ∙ sym (P.left f y)

        abbrev t : ℕ
        t = depth_cell node_table v + 1

        inner-ok : root_ok X ks es v q.child q.left q.right ≡ part_ok_on X w es v
        unfolding root_ok part_ok_on
        inner-ok =
            rw (label-ok, ne_eqb (get_or ks v 0) 0 y, P.children f y)
            (ap (λ (x : ℕ). fork_ok X es t x (v - 1) q.left q.right) (sym left_is)
            ∙ ap (λ (x : ℕ). fork_ok X es t (left_on X v) (v - 1) x q.right) (sym place_is)
            ∙ ap (λ (x : ℕ). fork_ok X es t (left_on X v) (v - 1) (place_on X es (left_on X v)) x) (P.right f y))

        inner-links : root_links X ks es v q.left q.right ≡ part_links_on X es v
        unfolding part_links_on
        inner-links =
            ap (λ (x : ℕ). root_links X ks es v x q.right) (sym place_is)
            ∙ ap (λ (x : ℕ). root_links X ks es v (place_on X es (left_on X v)) x) (P.right f y)

        inner_count : (c : ℕ)
            → root_count X ks lv es cs v q.child q.left q.right b e c ≡ part_count_on X w es cs v c
        unfolding part_count_on
        inner_count c =
            let F : ℕ → ℕ → ℕ → ℕ → ℕ → ℕ = λ x i j g h. root_count X ks lv es cs v x i j g h c in
            let x = left_on X v in
            let i = place_on X es (left_on X v) in
            let j = place_on X es (v - 1) in
            ap (λ (u : ℕ). F u q.left q.right b e) (sym left_is)
            ∙ ap (λ (u : ℕ). F x u q.right b e) (sym place_is)
            ∙ ap (λ (u : ℕ). F x i u b e) (P.right f y)
            ∙ ap (λ (u : ℕ). F x i j u e) (sym first-is)
            ∙ ap (λ (u : ℕ). F x i j (first_label X w v) u) (sym end_is)

      -- ---- either

      counted-as : (a : Carried) (o : List ℕ)
          → RootDone (path_of X) ks lv es cs v q.child q.left q.right b e a o
          → root_ok X ks es v q.child q.left q.right ≡ part_ok_on X w es v
          → root_links X ks es v q.left q.right ≡ part_links_on X es v
          → ((c : ℕ) → root_count X ks lv es cs v q.child q.left q.right b e c ≡ part_count_on X w es cs v c)
          → PartCounted X w es cs v a o
      unfolding row_on
      counted-as a o D same_ok same-links same_count = record {
        ok = D.ok ∙ root-ok-same X ks es v q.child q.left q.right ∙ same_ok;
        links = λ h. D.links h ∙ root-links-same X ks es v q.child q.left q.right ∙ same-links;
        few = D.few;
        row = λ h. tabulate-of 16 (λ c. capped (part_count_on X w es cs v c)) o D.kept.sixteen
            (λ c g. D.counts h c g
            ∙ ap capped (root-count-same X ks es v q.child q.left q.right lv cs b e c ∙ same_count c));
      }

      pub placed-done : (a : Carried) (o : List ℕ)
          → RootDone (path_of X) ks lv es cs v q.child q.left q.right b e a o → PartCounted X w es cs v a o
      placed-done a o D = elim (ℕ_discrete (get_or ks v 0) 0) [
        | yes z ↦ counted-as a o D (leaf-ok z) (leaf-links z) (leaf_count z)
        | no y ↦ counted-as a o D (inner-ok y) (inner-links y) (inner_count y)
      ]
