-- What fork_counts promises, at each way out.
use Prim.Native.Nat.{ℕ, ◌+◌, ◌*◌, ◌≤◌, ◌<◌}
use mathlib.Core.Path.{◌≡◌, refl, sym, ap, ap₂, ◌∙◌}
use mathlib.Core.Bool.{true, false}
use mathlib.Core.List.{List}
use native.Mathlib.Omega.{arith}
use lib.ListN.{length, get_or}
use Rattle.list_laws.proofs.BoolLaws.{and_both, and-no-left, and-no-right}
use Rattle.tables.specs.Climbs.{View}
use Rattle.tables.specs.inner.PathViews.{path_view}
use Rattle.choices.specs.assignments.Sums.{sum_to}
use Rattle.choices.specs.node_counts.Capped.{capped}
use Rattle.choices.specs.node_counts.Join.{ways_to, Kept, JoinArgs, Joined}
use Rattle.choices.specs.declared.part_steps.carry.Carried.{Carried}
use Rattle.choices.specs.part_steps.Side.{side_ok, side_count, SideArgs, SideDone}
use Rattle.choices.specs.part_steps.Fork.{fork_ok, fork_links, fork_count, ForkArgs, ForkDone}
use Rattle.choices.proofs.part_steps.CappedSums.{capped-sum, capped-product}

no-yes : (A : Type 0) → false ≡ true → A
no-yes A e = absurd (let z : ◌≡◌ {A = ℕ} 0 1 = cc in omega arith)

module _ (n s k : ℕ) (ls inn node_table state_table es cs : List ℕ) (t l r i j b e : ℕ) (m : List ℕ)
    (A : ForkArgs n s k ls inn node_table state_table es cs l r i j b e m) where
  abbrev X : View
  X = path_view n s k ls inn node_table state_table

  pub left-args : (o : List ℕ) → length o ≡ 16 → ((a : ℕ) → get_or o a 0 ≡ 0)
      → SideArgs n s k ls inn node_table state_table es cs l i o
  left-args o f z = record {
    path = A.path;
    some_state = A.some_state;
    at = A.left_at;
    most = A.most;
    few = A.few;
    room = A.room;
    place = A.left_place;
    inside = A.left_inside;
    sixteen = f;
    empty = z;
  }

  pub right-args : (o : List ℕ) → length o ≡ 16 → ((a : ℕ) → get_or o a 0 ≡ 0)
      → SideArgs n s k ls inn node_table state_table es cs r j o
  right-args o f z = record {
    path = A.path;
    some_state = A.some_state;
    at = A.right_at;
    most = A.most;
    few = A.few;
    room = A.room;
    place = A.right_place;
    inside = A.right_inside;
    sixteen = f;
    empty = z;
  }

  out_kept : Kept m
  out_kept = record { sixteen = A.sixteen; most = λ a. omega (arith, A.empty a) }

  lost : fork_ok X es t l r i j ≡ false → ForkDone X es cs t l r i j b e (record { ok = false; links = 0 }) m
  lost f = record {
    ok = sym f;
    links = λ q. no-yes _ q;
    few = λ q. no-yes _ q;
    kept = out_kept;
    counts = λ q. no-yes _ q;
  }

  module _ (x : Carried) (cl : List ℕ) (L : SideDone X es cs t l i j x cl) where
    pub left-lost : x.ok ≡ false → ForkDone X es cs t l r i j b e (record { ok = false; links = 0 }) m
    unfolding fork_ok
    left-lost f = lost (and-no-left (side_ok X es t l i j) (side_ok X es t r j i) (sym L.ok ∙ f))

    module _ (y : Carried) (cr : List ℕ) (R : SideDone X es cs t r j i y cr) where
      pub right-lost : y.ok ≡ false → ForkDone X es cs t l r i j b e (record { ok = false; links = 0 }) m
      unfolding fork_ok
      right-lost f = lost (and-no-right (side_ok X es t l i j) (side_ok X es t r j i) (sym R.ok ∙ f))

      pub join-args : JoinArgs inn s k b e cl cr m
      join-args = record { table = A.table; left = L.kept; right = R.kept; kept = out_kept }

      module _ (f : x.ok ≡ true) (g : y.ok ≡ true) where
        pub links_fit : x.links + y.links ≤ 131070
        links_fit = omega (arith, L.few f, R.few g, A.path.most)

        state_in : (p : ℕ) → p < s → p < 16
        state_in p h = omega (arith, A.path.few)

        cut_left : (p : ℕ) → p < s → capped (get_or cl p 0) ≡ capped (side_count X es cs t l i j p)
        cut_left p h = let z = L.counts f p (state_in p h) in omega (arith, z)

        cut_right : (p : ℕ) → p < s → capped (get_or cr p 0) ≡ capped (side_count X es cs t r j i p)
        cut_right p h = let z = R.counts g p (state_in p h) in omega (arith, z)

        pub fork-done : (o : List ℕ) → Joined inn s k b e cl cr m o
            → ForkDone X es cs t l r i j b e (record { ok = true; links = x.links + y.links }) o
        unfolding fork_ok fork_links fork_count
        fork-done o J = record {
          ok = sym (and_both (side_ok X es t l i j) (side_ok X es t r j i) (sym L.ok ∙ f) (sym R.ok ∙ g));
          links = λ _. ap₂ (λ (u v : ℕ). u + v) (L.links f) (R.links g);
          few = λ _. omega (arith, L.few f, R.few g);
          kept = J.kept;
          counts = λ _ c h.
              J.counts c h
              ∙ ap (λ (z : ℕ). capped (z + sum_to s (λ p. get_or cl p 0
              * sum_to s (λ q. get_or cr q 0 * ways_to inn s k b e p q c)))) (A.empty c)
              ∙ (let w = capped-sum s
              (λ p. get_or cl p 0 * sum_to s (λ q. get_or cr q 0 * ways_to inn s k b e p q c))
              (λ p. side_count X es cs t l i j p * sum_to s
              (λ q. side_count X es cs t r j i q * ways_to inn s k b e p q c))
              (λ p hp. capped-product (get_or cl p 0) (side_count X es cs t l i j p)
              (sum_to s (λ q. get_or cr q 0 * ways_to inn s k b e p q c))
              (sum_to s (λ q. side_count X es cs t r j i q * ways_to inn s k b e p q c)) (cut_left p hp)
              (capped-sum s (λ q. get_or cr q 0 * ways_to inn s k b e p q c)
              (λ q. side_count X es cs t r j i q * ways_to inn s k b e p q c)
              (λ q hq. capped-product (get_or cr q 0) (side_count X es cs t r j i q) (ways_to inn s k b e p q c)
              (ways_to inn s k b e p q c) (cut_right q hq) refl))) in
              omega (arith, w));
        }
