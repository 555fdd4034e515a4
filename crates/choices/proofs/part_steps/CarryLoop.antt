-- One iteration of carry_counts, its start and its ends.
use Prim.Native.Nat.{ℕ, zero, suc, ◌+◌, ◌-◌, ◌*◌, ◌≤◌, ◌<◌}
use mathlib.Core.Path.{◌≡◌, refl, sym, ap, ◌∙◌}
use mathlib.Core.Bool.{true, false}
use mathlib.Core.List.{List}
use mathlib.Core.Option.{Option, none, some}
use native.Mathlib.Decide.{ℕ_discrete}
use native.Mathlib.Omega.{arith}
use native.Mathlib.Nat.{mul_comm}
use native.Mathlib.Numerals.{add-one}
use lib.ListN.{get_or, set}
use Rattle.tables.specs.declared.answers.Reached.{Reached}
use Rattle.tables.specs.declared.answers.Climbed.TheVariants.{Reached as To, OutOfRange}
use Rattle.tables.specs.Climbs.{View, climb_on, climbed_of}
use Rattle.tables.specs.inner.PathViews.{path_view}
use Rattle.tables.proofs.ClimbBounds.{climb-bounded}
use Rattle.choices.specs.assignments.Sums.{sum_to, one}
use Rattle.list_laws.proofs.BoolLaws.{and_both, and-no-left, and-no-right}
use Rattle.choices.specs.node_counts.Capped.{capped}
use Rattle.choices.specs.node_counts.Join.{Kept}
use Rattle.choices.proofs.node_counts.CappedLaws.{capped-add}
use Rattle.choices.proofs.node_counts.AccumulateLoop.{added-count, added-kept}
use Rattle.choices.specs.part_steps.Carry.{state_in, links_in, is_reached, arrives_at, all_arrive, CarryArgs, CarriedUp}

-- what a climb returned
told-some : (o : Option Reached) (x : Reached) → To x ≡ climbed_of o → o ≡ some x
unfolding climbed_of
told-some none x e = absurd (let z : ◌≡◌ {A = ℕ} 0 1 = cc in omega arith)
told-some (some y) x e = cc

told_none : (o : Option Reached) → OutOfRange ≡ climbed_of o → o ≡ none
unfolding climbed_of
told_none none e = refl
told_none (some y) e = absurd (let z : ◌≡◌ {A = ℕ} 0 1 = cc in omega arith)

module _ (n s k : ℕ) (ls inn node_table state_table : List ℕ) (h t : ℕ) (row l₀ : List ℕ) where
  abbrev X : View
  X = path_view n s k ls inn node_table state_table

  abbrev term : ℕ → ℕ → ℕ
  term c q = get_or row q 0 * one c (arrives_at X h t q)

  pub record Carrying (l : List ℕ) (links q : ℕ) : Type 0 where
    pub args : CarryArgs n s k ls inn node_table state_table h row l₀
    pub upto : q ≤ s
    pub all : all_arrive (path_view n s k ls inn node_table state_table) h t q ≡ true
    pub moves : 0 < q → links ≡ links_in (climb_on (path_view n s k ls inn node_table state_table) h t (q - 1))
    pub kept : Kept l
    pub counts : (c : ℕ) → c < 16 → get_or l c 0
        ≡ capped (get_or l₀ c 0 + sum_to q
        (λ j. get_or row j 0 * one c (arrives_at (path_view n s k ls inn node_table state_table) h t j)))

  pub carry-start : CarryArgs n s k ls inn node_table state_table h row l₀ → Carrying l₀ 0 0
  unfolding sum_to all_arrive
  carry-start A = record {
    args = A;
    upto = omega arith;
    all = refl;
    moves = λ z. absurd (omega arith);
    kept = A.out_kept;
    counts = λ c hc. omega (arith, A.out_kept.most c);
  }

  module _ (l : List ℕ) (links q : ℕ) (L : Carrying l links q) (hq : q < s) where
    -- a climb that ends in a state
    module _ (x : Reached) (e : To x ≡ climbed_of (climb_on X h t q)) where
      is : climb_on X h t q ≡ some x
      is = told-some (climb_on X h t q) x e

      pub carry-state : x.state < 16
      carry-state = omega (arith, (climb-bounded X h t q x hq is).state, L.args.path.few)

      arrives : arrives_at X h t q ≡ x.state
      unfolding arrives_at
      arrives = ap state_in is

      pub carry-next : (r : ℕ) → r ≡ capped (get_or l x.state 0 + get_or row q 0)
          → Carrying (set l x.state r) x.links (q + 1)
      unfolding sum_to all_arrive
      carry-next r w = record {
        args = L.args;
        upto = omega arith;
        all = rw (add-one q) (and_both _ _ L.all (ap is_reached is));
        moves = λ z. let m : q + 1 - 1 ≡ q = omega arith in
            sym (ap (λ (i : ℕ). links_in (climb_on X h t i)) m ∙ ap links_in is);
        kept = added-kept l L.kept x.state (get_or row q 0) r carry-state w;
        counts = λ c hc.
            let v : sum_to (q + 1) (term c)
            ≡ sum_to q (term c) + term c q = ap (λ (z : ℕ). sum_to z (term c)) (add-one q) in
            let u : one c x.state * get_or row q 0 ≡ term c q =
            mul_comm (one c x.state) (get_or row q 0) ∙ ap (λ (z : ℕ). get_or row q 0 * one c z) (sym arrives) in
            added-count l L.kept x.state (get_or row q 0) r carry-state w c
            ∙ ap (λ (z : ℕ). capped (z + one c x.state * get_or row q 0)) (L.counts c hc)
            ∙ capped-add (get_or l₀ c 0 + sum_to q (term c)) (one c x.state * get_or row q 0)
            ∙ omega (arith, u, v);
      }

    -- a climb that leads outside
    later-no : (m : ℕ) → q < m → is_reached (climb_on X h t q) ≡ false → all_arrive X h t m ≡ false
    unfolding all_arrive
    later-no zero g e = absurd (omega arith)
    later-no (suc m) g e = elim (ℕ_discrete q m) [
      | yes z ↦ and-no-right (all_arrive X h t m) (is_reached (climb_on X h t m))
          (ap (λ (i : ℕ). is_reached (climb_on X h t i)) (sym z) ∙ e)
      | no z ↦ and-no-left (all_arrive X h t m) (is_reached (climb_on X h t m)) (later-no m (omega arith) e)
    ]

    pub carry-lost : OutOfRange ≡ climbed_of (climb_on X h t q)
        → CarriedUp X h t row l₀ (record { ok = false; links = 0 }) l
    carry-lost e = record {
      ok = sym (later-no s hq (ap is_reached (told_none (climb_on X h t q) e)));
      links = λ z. absurd (let z : ◌≡◌ {A = ℕ} 0 1 = cc in omega arith);
      kept = L.kept;
      counts = λ z. absurd (let z : ◌≡◌ {A = ℕ} 0 1 = cc in omega arith);
    }

  pub carry-done : (l : List ℕ) (links q : ℕ) → Carrying l links q → s ≤ q
      → CarriedUp X h t row l₀ (record { ok = true; links = links }) l
  carry-done l links q L g =
      let m : q ≡ s = omega (arith, L.upto) in
      record {
        ok = sym (ap (all_arrive X h t) (sym m) ∙ L.all);
        links = λ z. L.moves (omega (arith, L.args.some_state))
            ∙ ap (λ (i : ℕ). links_in (climb_on X h t (i - 1))) m;
        kept = L.kept;
        counts = λ z c hc. L.counts c hc ∙ ap (λ (i : ℕ). capped (get_or l₀ c 0 + sum_to i (term c))) m;
      }
