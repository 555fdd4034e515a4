-- What count_parts and count_on promise, at each way out.
--     all-args, parts-lost, last-args, parts-done        for given roots
--     leaves-lost, inner-lost, roots-lost, root-args, on-done
use Prim.Native.Nat.{ℕ, ◌+◌, ◌-◌, ◌*◌, ◌≤◌}
use mathlib.Core.Path.{◌≡◌, sym, ap, ap₂, ◌∙◌, subst}
use mathlib.Core.Bool.{Bool, true, false, cond}
use mathlib.Core.List.{List, []}
use mathlib.Core.Option.{none, some}
use native.Mathlib.Omega.{arith}
use lib.ListN.{length, get_or, take}
use lib.Seq.{length-take-le}
use Rattle.list_laws.specs.Tests.{all_below}
use Rattle.list_laws.specs.Rows.{tabulate}
use Rattle.list_laws.proofs.BoolLaws.{and-no-left, and-no-right}
use Rattle.list_laws.proofs.TestLaws.{all_below-all}
use Rattle.list_laws.proofs.RowLaws.{tabulate-of}
use Rattle.formats.specs.declared.refusals.Refusal.{Refusal}
use Rattle.formats.specs.declared.refusals.Refusal.TheVariants.{LentValue}
use Rattle.std.specs.Prelude.{Result, Ok, Err}
use Rattle.tables.specs.Climbs.{View}
use Rattle.questions.specs.declared.roots.Rooted.{Rooted}
use Rattle.questions.specs.inner.PartArgs.{part_view}
use Rattle.questions.specs.RootsAnswers.{roots_given}
use Rattle.questions.specs.Promises.{RootsAre, RootsDone}
use Rattle.questions.proofs.RootedLaws.{RootedIs, rooted-some, roots-most}
use Rattle.questions.proofs.PlaceLaws.{to_below, to_some, below-entry}
use Rattle.choices.specs.node_counts.Capped.{count_limit}
use Rattle.choices.specs.declared.part_steps.carry.Carried.{Carried}
use Rattle.choices.specs.part_steps.Side.{RowArgs, RowCopied}
use Rattle.choices.specs.question_counts.CountOn.{open_in, roots_in, list_in, states_inside, all_ok, is_countable, count_of}
use Rattle.choices.specs.declared.count.Counted.{Counted}
use Rattle.choices.specs.Promise.{counted_at}
use Rattle.choices.specs.inner.Parts.{AllArgs, AllCounted}
use Rattle.choices.specs.inner.Count.{counted_for, counted_on, RootArgs, OnArgs}
use Rattle.choices.proofs.AllLoop.{rows-most}

-- ---- for given roots

module _ (n s k : ℕ) (ls ks lv inn node_table state_table vs ms : List ℕ)
    (A : RootArgs n s k ls ks lv inn node_table state_table vs ms) where
  abbrev X : View
  X = part_view n s k ls ks lv inn node_table state_table

  pub all-args : (b : List ℕ) → length b ≡ 4064 → AllArgs n s k ls ks lv inn node_table state_table vs ms b
  all-args b h = record {
    runs = A.runs;
    listed = A.listed;
    few = A.few;
    nodes = A.nodes;
    room = omega (arith, A.few);
  }

  module _ (x : Carried) (o : List ℕ) (P : AllCounted X vs ms x o) where
    pub parts-lost : x.ok ≡ false → Err LentValue ≡ counted_for X vs ms
    parts-lost f =
        sym (ap (λ (b : Bool). cond b (Ok (counted_at X vs ms)) (Err LentValue)) (sym P.ok ∙ f))

    module _ (f : x.ok ≡ true) where
      pub last-args : (l : List ℕ) → length l ≡ 16 → RowArgs (take (length ms * 16) o) (length ms - 1) l
      last-args l h = record {
        few = omega (arith, A.few);
        room = omega (arith, length-take-le (length ms * 16) o P.room, A.some_root);
        most = λ j. subst (λ (r : List ℕ). get_or r j 0 ≤ count_limit) (sym (P.rows f))
            (rows-most X (open_in vs) ms [] [] (λ i. omega arith) j);
        sixteen = h;
      }

      pub parts-done : (cs : List ℕ) → RowCopied (take (length ms * 16) o) (length ms - 1) cs
          → Ok (record { counts = cs; parts = length ms; links = x.links }) ≡ counted_for X vs ms
      unfolding count_of
      parts-done cs R =
          let e : cs ≡ tabulate 16 (count_of X vs ms) =
          tabulate-of 16 (count_of X vs ms) cs R.kept.sixteen
          (λ c h. R.counts c h ∙ ap (λ (l : List ℕ). get_or l ((length ms - 1) * 16 + c) 0) (P.rows f)) in
          ap₂ (λ (l : List ℕ) (y : ℕ). answered l (length ms) y) e (P.links f)
          ∙ sym (ap (λ (b : Bool). cond b (Ok (counted_at X vs ms)) (Err LentValue)) (sym P.ok ∙ f))
        where
          answered : List ℕ → ℕ → ℕ → Result Counted Refusal
          answered l p y = Ok (record { counts = l; parts = p; links = y })

-- ---- on given runs

module _ (n s k : ℕ) (ls ks lv inn node_table state_table vs : List ℕ)
    (A : OnArgs n s k ls ks lv inn node_table state_table vs) where
  abbrev Y : View
  Y = part_view n s k ls ks lv inn node_table state_table

  lost : is_countable Y vs ≡ false → Err LentValue ≡ counted_on Y vs
  lost f = sym (ap (λ (b : Bool). cond b (Ok (counted_at Y vs (list_in (roots_in Y vs)))) (Err LentValue)) f)

  pub leaves-lost : all_below s lv ≡ false → Err LentValue ≡ counted_on Y vs
  unfolding is_countable states_inside
  leaves-lost f =
      lost (and-no-left (states_inside Y) _ (and-no-left (all_below s lv) (all_below s inn) f))

  pub inner-lost : all_below s inn ≡ false → Err LentValue ≡ counted_on Y vs
  unfolding is_countable states_inside
  inner-lost f =
      lost (and-no-left (states_inside Y) _ (and-no-right (all_below s lv) (all_below s inn) f))

  pub roots-lost : roots_given n node_table vs ≡ none → Err LentValue ≡ counted_on Y vs
  unfolding is_countable
  roots-lost e = lost (and-no-right (states_inside Y) _ (ap (all_ok Y vs) e))

  module _ (lb : all_below s lv ≡ true) (ib : all_below s inn ≡ true) where
    pub root-args : (l : List ℕ) → RootsAre n (length vs) l → RootArgs n s k ls ks lv inn node_table state_table vs l
    root-args l R = record {
      runs = record {
        path = A.path;
        some_state = A.some_state;
        kinds_room = A.kinds_room;
        leaves_room = A.leaves_room;
        leaf_below = all_below-all s lv lb A.some_state;
        inner_below = all_below-all s inn ib A.some_state;
      };
      listed = omega (arith, A.listed);
      some_root = to_some (n - 1) l R.to;
      few = roots-most n (length vs) l A.listed R;
      nodes = λ i h. omega (arith, below-entry (n - 1 + 1) l (to_below (n - 1) l R.to) i h, A.some_node);
    }

    pub on-done : (l : List ℕ) → roots_given n node_table vs ≡ some l → counted_for Y vs l ≡ counted_on Y vs
    unfolding is_countable states_inside
    on-done l e = rw (e, lb, ib)

    module _ (q : Rooted) (R : RootsDone n node_table vs q) (f : q.ok ≡ true) where
      found : RootedIs q (roots_given n node_table vs)
      found = rooted-some q (roots_given n node_table vs) R.result f

      taken : roots_given n node_table vs ≡ some (list_in (roots_given n node_table vs))
      taken = found.is ∙ ap some (sym (ap list_in found.is))

      listed-is : take q.count q.nodes ≡ list_in (roots_given n node_table vs)
      listed-is = found.taken ∙ sym (ap list_in found.is)

      pub taken-args : RootArgs n s k ls ks lv inn node_table state_table vs (take q.count q.nodes)
      taken-args =
          subst (λ (l : List ℕ). RootArgs n s k ls ks lv inn node_table state_table vs l) (sym listed-is)
          (root-args (list_in (roots_given n node_table vs)) (R.few (list_in (roots_given n node_table vs)) taken))

      pub taken-done : (a : Result Counted Refusal) → a ≡ counted_for Y vs (take q.count q.nodes) → a ≡ counted_on Y vs
      taken-done a e =
          e ∙ ap (λ (l : List ℕ). counted_for Y vs l) listed-is ∙ on-done (list_in (roots_given n node_table vs)) taken
