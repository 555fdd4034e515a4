-- What all_parts promises, one part at a time: the rest still to do gives what all of them give.
--     going_start, next-args, going-lost, going_next, going_done
use Prim.Native.Nat.{ℕ, ◌+◌, ◌-◌, ◌*◌, ◌≤◌, ◌<◌}
use mathlib.Core.Path.{◌≡◌, refl, sym, ap, ap₂, ◌∙◌, subst}
use mathlib.Core.Bool.{Bool, true, false}
use mathlib.Core.List.{List, [], ◌∷◌, ◌++◌}
use native.Mathlib.Omega.{arith}
use native.Mathlib.Numerals.{add-one}
use lib.Dec.{ltb}
use lib.ListN.{length, get_or, take, drop, drop_of_length-le, get_or-append, get_or-eq_default}
use lib.Seq.{length-take-le, take-suc, drop-cons, get_or-append-add}
use borrow.Author.Tests.{ltb-true, ltb-false}
use Rattle.list_laws.proofs.BoolLaws.{and-next, and-no-left}
use Rattle.list_laws.proofs.RowLaws.{length-tabulate, get_d_tabulate}
use Rattle.tables.specs.Climbs.{View}
use Rattle.questions.specs.inner.PartArgs.{part_view}
use Rattle.choices.specs.node_counts.Capped.{count_limit, capped}
use Rattle.choices.specs.declared.part_steps.carry.Carried.{Carried}
use Rattle.choices.specs.question_counts.PartOn.{part_ok_on, part_count_on}
use Rattle.choices.specs.question_counts.PartsOn.{parts_ok, links_from, row_on, rows_from}
use Rattle.choices.specs.question_counts.CountOn.{open_in}
use Rattle.choices.specs.inner.Parts.{before, NextArgs, NextCounted, AllArgs, AllCounted}

no-yes : (A : Type 0) → false ≡ true → A
no-yes A e = absurd (let z : ◌≡◌ {A = ℕ} 0 1 = cc in omega arith)

-- ---- counts that are none above the limit

pub row_most : (X : View) (w : ℕ → Bool) (es cs : List ℕ) (v c : ℕ) → get_or (row_on X w es cs v) c 0 ≤ count_limit
unfolding row_on
row_most X w es cs v c = go (ltb c 16) refl
  where
    go : (b : Bool) → ltb c 16 ≡ b → get_or (row_on X w es cs v) c 0 ≤ count_limit
    go true e = omega (arith, get_d_tabulate 16 (λ x. capped (part_count_on X w es cs v x)) c (ltb-true c 16 e))
    go false e =
        omega (
          arith,
          get_or-eq_default (row_on X w es cs v) 0 {n = c}
              (omega (arith, ltb-false c 16 e, length-tabulate 16 (λ x. capped (part_count_on X w es cs v x)))),
        )

append-most : (l r : List ℕ) → ((j : ℕ) → get_or l j 0 ≤ count_limit) → ((j : ℕ) → get_or r j 0 ≤ count_limit)
    → (j : ℕ) → get_or (l ++ r) j 0 ≤ count_limit
append-most l r f g j = go (ltb j (length l)) refl
  where
    go : (b : Bool) → ltb j (length l) ≡ b → get_or (l ++ r) j 0 ≤ count_limit
    go true e = omega (arith, get_or-append l r 0 j (ltb-true j (length l) e), f j)
    go false e =
        let h : length l ≤ j = ltb-false j (length l) e in
        let z : j ≡ length l + (j - length l) = omega arith in
        omega (
          arith,
          ap (λ (x : ℕ). get_or (l ++ r) x 0) z ∙ get_or-append-add l r (j - length l) 0,
          g (j - length l),
        )

pub rows-most : (X : View) (w : ℕ → Bool) (ms es cs : List ℕ) → ((j : ℕ) → get_or cs j 0 ≤ count_limit)
    → (j : ℕ) → get_or (rows_from X w es cs ms) j 0 ≤ count_limit
unfolding rows_from
rows-most X w [] es cs f j = f j
rows-most X w (v ∷ ms) es cs f j =
    rows-most X w ms (es ++ (v ∷ [])) (cs ++ row_on X w es cs v)
    (append-most cs (row_on X w es cs v) f (row_most X w es cs v)) j

module _ (n s k : ℕ) (ls ks lv inn node_table state_table vs ms b₀ : List ℕ) where
  abbrev X : View
  X = part_view n s k ls ks lv inn node_table state_table

  abbrev w : ℕ → Bool
  w = open_in vs

  pub record Going (m : List ℕ) (links i : ℕ) : Type 0 where
    pub args : AllArgs n s k ls ks lv inn node_table state_table vs ms b₀
    pub upto : i ≤ length ms
    pub same : length m ≡ length b₀
    pub oks : parts_ok X w (take i ms) (drop i ms) ≡ parts_ok X w [] ms
    pub links_are : links + links_from X (take i ms) (drop i ms) ≡ links_from X [] ms
    pub few : links ≤ i * 131070
    pub rows : rows_from X w (take i ms) (take (i * 16) m) (drop i ms) ≡ rows_from X w [] [] ms
    pub most : (j : ℕ) → get_or (take (i * 16) m) j 0 ≤ count_limit

  pub going_start : AllArgs n s k ls ks lv inn node_table state_table vs ms b₀ → Going b₀ 0 0
  going_start A = record {
    args = A;
    upto = omega arith;
    same = refl;
    oks = refl;
    links_are = omega arith;
    few = omega arith;
    rows = refl;
    most = λ j. omega arith;
  }

  module _ (m : List ℕ) (links i : ℕ) (G : Going m links i) where
    pub going_done : length ms ≤ i → AllCounted X vs ms (record { ok = true; links = links }) m
    unfolding parts_ok links_from rows_from
    going_done h =
        let e : drop i ms ≡ [] = drop_of_length-le ms {i = i} h in
        let z : i ≡ length ms = omega (arith, G.upto) in
        record {
          ok = sym (ap (parts_ok X w (take i ms)) e) ∙ G.oks;
          links = λ _. omega (arith, G.links_are, ap (links_from X (take i ms)) e);
          room = omega (arith, G.args.room, G.same);
          rows = λ _. ap (λ (x : ℕ). take (x * 16) m) (sym z)
              ∙ sym (ap (rows_from X w (take i ms) (take (i * 16) m)) e) ∙ G.rows;
        }

    module _ (h : i < length ms) where
      abbrev v : ℕ
      v = get_or ms i 0

      abbrev es : List ℕ
      es = take i ms

      as_many : length es ≡ i
      as_many = length-take-le i ms (omega arith)

      table_before : before es m ≡ take (i * 16) m
      table_before = ap (λ (x : ℕ). take (x * 16) m) as_many

      pub next-args : NextArgs n s k ls ks lv inn node_table state_table vs (take i ms) m (get_or ms i 0)
      next-args = record {
        runs = G.args.runs;
        at = G.args.nodes i h;
        listed = G.args.listed;
        few = omega (arith, as_many, G.args.few);
        room = omega (arith, as_many, G.args.room, G.same);
        most = λ j. subst (λ (l : List ℕ). get_or l j 0 ≤ count_limit) (sym table_before) (G.most j);
      }

      rest : drop i ms ≡ v ∷ drop (i + 1) ms
      rest = drop-cons ms i 0 h ∙ ap (λ (x : ℕ). v ∷ drop x ms) (sym (add-one i))

      more : take (i + 1) ms ≡ es ++ (v ∷ [])
      more = ap (λ (x : ℕ). take x ms) (add-one i) ∙ take-suc ms i 0 h

      module _ (x : Carried) (o : List ℕ) (N : NextCounted X vs (take i ms) m (get_or ms i 0) x o) where
        pub going-lost : x.ok ≡ false → AllCounted X vs ms (record { ok = false; links = 0 }) o
        unfolding parts_ok
        going-lost f = record {
          ok = sym (sym G.oks ∙ ap (parts_ok X w es) rest
              ∙ and-no-left (part_ok_on X w es v) _ (sym N.ok ∙ f));
          links = λ q. no-yes _ q;
          room = omega (arith, G.args.room, G.same, N.same);
          rows = λ q. no-yes _ q;
        }

        pub links_fit : x.ok ≡ true → links + x.links ≤ (i + 1) * 131070
        links_fit f = omega (arith, G.few, N.few f, G.args.runs.path.most)

        pub going_next : x.ok ≡ true → Going o (links + x.links) (i + 1)
        unfolding parts_ok links_from rows_from
        going_next f =
            let t : take ((i + 1) * 16) o ≡ take (i * 16) m ++ row_on X w es (take (i * 16) m) v =
            ap (λ (y : ℕ). take y o) widened ∙ N.rows f
            ∙ ap (λ (l : List ℕ). l ++ row_on X w es l v) table_before in
            record {
              args = G.args;
              upto = omega arith;
              same = N.same ∙ G.same;
              oks = ap (λ (l : List ℕ). parts_ok X w l (drop (i + 1) ms)) more
                  ∙ sym (and-next (part_ok_on X w es v) _ (sym N.ok ∙ f))
                  ∙ sym (ap (parts_ok X w es) rest) ∙ G.oks;
              links_are = omega (
                arith,
                ap (λ (l : List ℕ). links_from X l (drop (i + 1) ms)) more,
                ap (links_from X es) rest,
                N.links f,
                G.links_are,
              );
              few = links_fit f;
              rows = ap₂ (λ (l p : List ℕ). rows_from X w l p (drop (i + 1) ms)) more t
                  ∙ sym (ap (rows_from X w es (take (i * 16) m)) rest) ∙ G.rows;
              most = λ j. subst (λ (l : List ℕ). get_or l j 0 ≤ count_limit) (sym t)
                  (append-most (take (i * 16) m) (row_on X w es (take (i * 16) m) v) G.most
                  (row_most X w es (take (i * 16) m) v) j);
            }
          where
            widened : (i + 1) * 16 ≡ length es * 16 + 16
            widened = omega (arith, as_many)
