-- The order of a list of changes: it does not matter.
--     keys, values       the nodes and the labels of a list of entries; keys_zip, values-zip: of two lists of a length
--     all_below-perm, holds-perm, distinct-perm, length-perm   tests that do not depend on the order of a list
--     changed-order      where no node is listed twice, the labels as changed do not depend on the order of the list
--     list-order         nor does the first no of checks 12 to 14, listed twice or not
--     fresh_run-order     nor, where no node is listed twice, does the answer of a fresh run, a run or a refusal
-- A permutation is mathlib's `List.Permᴰ`, here of the list of entries (node, label).
use Prim.Native.Nat.{ℕ, zero, suc}
use mathlib.Core.Path.{◌≡◌, refl, sym, ap, ap₂, ◌∙◌}
use mathlib.Core.Bool.{Bool, true, false, cond, not, ◌&&◌, ◌||◌}
use mathlib.Core.List.{List, [], ◌∷◌, ◌++◌, zip, zip_with, Permᴰ}
use native.Mathlib.Decide.{ℕ_discrete}
use native.Mathlib.Omega.{arith}
use borrow.Author.Tests.{eq-eqb, ne_eqb}
use lib.Dec.{ltb, eqb}
use lib.ListN.{length, set}
use lib.Seq.{set_comm}
use Rattle.trees.specs.Automaton.{state, accepts}
use Rattle.trees.specs.Postorder.{tree_of}
use Rattle.trees.specs.Changes.{changed}
use Rattle.list_laws.specs.Tests.{all_below, holds, distinct}
use Rattle.formats.specs.Plan.{node_count, labels_within, kinds_in}
use Rattle.formats.specs.Rules.{label_count, rule_automaton}
use Rattle.formats.specs.Checks.{Check, first_no, list_checks, rule_table_checks, fresh_run_checks}
use Rattle.list_laws.proofs.BoolLaws.{true-false}
use Rattle.list_laws.proofs.TestLaws.{distinct_head, distinct_tail}
use Rattle.formats.specs.Refusals.{told_as}
use Rattle.runs.specs.declared.answer.Verdict.{Verdict}
use Rattle.runs.specs.FreshRun.{root_state, root_accepted, verdict, fresh_run}

-- ---- tests that do not depend on the order

and-swap : (a b c : Bool) → (a && (b && c)) ≡ (b && (a && c))
and-swap true true c = refl
and-swap true false c = refl
and-swap false true c = refl
and-swap false false c = refl

or_swap : (a b c : Bool) → (a || (b || c)) ≡ (b || (a || c))
or_swap true true c = refl
or_swap true false c = refl
or_swap false true c = refl
or_swap false false c = refl

eqb_swap : (m n : ℕ) → eqb m n ≡ eqb n m
eqb_swap m n =
    elim (ℕ_discrete m n) [
      | yes e ↦ eq-eqb m n e ∙ sym (eq-eqb n m (sym e))
      | no e ↦ ne_eqb m n e ∙ sym (ne_eqb n m (λ q. e (sym q)))
    ]

pub length-perm : {X : Type 0} {l m : List X} → Permᴰ l m → length l ≡ length m
length-perm Permᴰ.nil = refl
length-perm (Permᴰ.cons e d) = ap suc (length-perm d)
length-perm (Permᴰ.swap e f) = refl
length-perm (Permᴰ.trans d f) = length-perm d ∙ length-perm f

pub all_below-perm : (n : ℕ) {l m : List ℕ} → Permᴰ l m → all_below n l ≡ all_below n m
unfolding all_below
all_below-perm n Permᴰ.nil = refl
all_below-perm n (Permᴰ.cons e d) = ap₂ (λ (x : ℕ) (t : Bool). ltb x n && t) e (all_below-perm n d)
all_below-perm n (Permᴰ.swap {a} {b} {l = l} e f) =
    and-swap (ltb a n) (ltb b n) (all_below n l) ∙ ap₂ (λ (x y : ℕ). ltb x n && (ltb y n && all_below n l)) f e
all_below-perm n (Permᴰ.trans d f) = all_below-perm n d ∙ all_below-perm n f

pub holds-perm : (x : ℕ) {l m : List ℕ} → Permᴰ l m → holds x l ≡ holds x m
unfolding holds
holds-perm x Permᴰ.nil = refl
holds-perm x (Permᴰ.cons e d) = ap₂ (λ (y : ℕ) (t : Bool). eqb x y || t) e (holds-perm x d)
holds-perm x (Permᴰ.swap {a} {b} {l = l} e f) =
    or_swap (eqb x a) (eqb x b) (holds x l) ∙ ap₂ (λ (y z : ℕ). eqb x y || (eqb x z || holds x l)) f e
holds-perm x (Permᴰ.trans d f) = holds-perm x d ∙ holds-perm x f

pub distinct-perm : {l m : List ℕ} → Permᴰ l m → distinct l ≡ distinct m
unfolding distinct holds
distinct-perm Permᴰ.nil = refl
distinct-perm (Permᴰ.cons {a} {b} {l₁} {l₂} e d) =
    ap₂ (λ (s t : Bool). not s && t) (ap (λ (x : ℕ). holds x l₁) e ∙ holds-perm b d) (distinct-perm d)
distinct-perm (Permᴰ.swap {a} {b} {l = l} e f) =
    two (eqb a b) (eqb b a) (holds a l) (holds b l) (distinct l) (eqb_swap a b)
    ∙ ap₂ (λ (x y : ℕ). not (eqb x y || holds x l) && (not (holds y l) && distinct l)) f e
  where
    two : (s s' p q t : Bool) → s ≡ s' → (not (s || p) && (not q && t)) ≡ (not (s' || q) && (not p && t))
    two true s' p q t g = rw (← g)
    two false s' p q t g = rw (← g) (and-swap (not p) (not q) t)
distinct-perm (Permᴰ.trans d f) = distinct-perm d ∙ distinct-perm f

-- ---- entries

abbrev pub keys : List (ℕ × ℕ) → List ℕ
keys [] = []
keys (e ∷ es) = e.0 ∷ keys es

abbrev pub values : List (ℕ × ℕ) → List ℕ
values [] = []
values (e ∷ es) = e.1 ∷ values es

pub keys_zip : (vs bs : List ℕ) → length vs ≡ length bs → keys (zip vs bs) ≡ vs
unfolding zip zip_with
keys_zip [] bs h = refl
keys_zip (v ∷ vs) [] h = absurd (omega arith)
keys_zip (v ∷ vs) (b ∷ bs) h = ap (λ (l : List ℕ). v ∷ l) (keys_zip vs bs (omega arith))

pub values-zip : (vs bs : List ℕ) → length vs ≡ length bs → values (zip vs bs) ≡ bs
unfolding zip zip_with
values-zip [] [] h = refl
values-zip [] (b ∷ bs) h = absurd (omega arith)
values-zip (v ∷ vs) [] h = absurd (omega arith)
values-zip (v ∷ vs) (b ∷ bs) h = ap (λ (l : List ℕ). b ∷ l) (values-zip vs bs (omega arith))

pub keys-perm : {es fs : List (ℕ × ℕ)} → Permᴰ es fs → Permᴰ (keys es) (keys fs)
keys-perm Permᴰ.nil = Permᴰ.nil
keys-perm (Permᴰ.cons e d) = Permᴰ.cons (ap (λ (x : ℕ × ℕ). x.0) e) (keys-perm d)
keys-perm (Permᴰ.swap e f) = Permᴰ.swap (ap (λ (x : ℕ × ℕ). x.0) e) (ap (λ (x : ℕ × ℕ). x.0) f)
keys-perm (Permᴰ.trans d f) = Permᴰ.trans (keys-perm d) (keys-perm f)

pub values-perm : {es fs : List (ℕ × ℕ)} → Permᴰ es fs → Permᴰ (values es) (values fs)
values-perm Permᴰ.nil = Permᴰ.nil
values-perm (Permᴰ.cons e d) = Permᴰ.cons (ap (λ (x : ℕ × ℕ). x.1) e) (values-perm d)
values-perm (Permᴰ.swap e f) = Permᴰ.swap (ap (λ (x : ℕ × ℕ). x.1) e) (ap (λ (x : ℕ × ℕ). x.1) f)
values-perm (Permᴰ.trans d f) = Permᴰ.trans (values-perm d) (values-perm f)

-- ---- the labels as changed

abbrev pub changed_by : List ℕ → List (ℕ × ℕ) → List ℕ
changed_by ls [] = ls
changed_by ls (e ∷ es) = changed_by (set ls e.0 e.1) es

pub changed-entries : (ls vs bs : List ℕ) → changed ls vs bs ≡ changed_by ls (zip vs bs)
unfolding changed zip zip_with
changed-entries ls [] bs = refl
changed-entries ls (v ∷ vs) [] = refl
changed-entries ls (v ∷ vs) (b ∷ bs) = changed-entries (set ls v b) vs bs

-- the first of a list is not its second
apart : (x y : ℕ) (l : List ℕ) → holds x (y ∷ l) ≡ false → x ≡ y → ⊥
unfolding holds
apart x y l h q = true-false (sym (ap (λ (t : Bool). t || holds x l) (eq-eqb x y q)) ∙ h)

pub changed_by-order : {es fs : List (ℕ × ℕ)} → Permᴰ es fs → distinct (keys es) ≡ true
    → (ls : List ℕ) → changed_by ls es ≡ changed_by ls fs
changed_by-order Permᴰ.nil u ls = refl
changed_by-order (Permᴰ.cons {a} {b} {l₁} {l₂} e d) u ls =
    changed_by-order d (distinct_tail a.0 (keys l₁) u) (set ls a.0 a.1)
    ∙ ap (λ (x : ℕ × ℕ). changed_by (set ls x.0 x.1) l₂) e
changed_by-order (Permᴰ.swap {a} {b} {l = l} e f) u ls =
    let ne : a.0 ≡ b.0 → ⊥ = apart a.0 b.0 (keys l) (distinct_head a.0 (b.0 ∷ keys l) u) in
    ap (λ (x : List ℕ). changed_by x l) (set_comm ls a.0 b.0 a.1 b.1 ne)
    ∙ ap₂ (λ (x y : ℕ × ℕ). changed_by (set (set ls x.0 x.1) y.0 y.1) l) f e
changed_by-order (Permᴰ.trans d f) u ls =
    changed_by-order d u ls ∙ changed_by-order f (sym (distinct-perm (keys-perm d)) ∙ u) ls

module _ (vs bs ws cs : List ℕ) (g : length vs ≡ length bs) (h : length ws ≡ length cs)
    (d : Permᴰ (zip vs bs) (zip ws cs)) where
  pub changed-order : distinct vs ≡ true → (ls : List ℕ) → changed ls vs bs ≡ changed ls ws cs
  changed-order u ls =
      changed-entries ls vs bs
      ∙ changed_by-order d (ap distinct (keys_zip vs bs g) ∙ u) ls
      ∙ sym (changed-entries ls ws cs)

  -- what does not depend on the order of nodes, or of labels, is the same of both lists
  by-nodes : {X : Type 0} (f : List ℕ → X) → f (keys (zip vs bs)) ≡ f (keys (zip ws cs)) → f vs ≡ f ws
  by-nodes f e = sym (ap f (keys_zip vs bs g)) ∙ e ∙ ap f (keys_zip ws cs h)

  by-labels : {X : Type 0} (f : List ℕ → X) → f (values (zip vs bs)) ≡ f (values (zip ws cs)) → f bs ≡ f cs
  by-labels f e = sym (ap f (values-zip vs bs g)) ∙ e ∙ ap f (values-zip ws cs h)

  pub list-order : (n k : ℕ) → first_no (list_checks n k vs bs) ≡ first_no (list_checks n k ws cs)
  unfolding list_checks
  list-order n k =
      let l : length vs ≡ length ws = by-nodes length (length-perm (keys-perm d)) in
      let m : length bs ≡ length cs = by-labels length (length-perm (values-perm d)) in
      let a : all_below n vs ≡ all_below n ws = by-nodes (all_below n) (all_below-perm n (keys-perm d)) in
      let b : all_below k bs ≡ all_below k cs = by-labels (all_below k) (all_below-perm k (values-perm d)) in
      cc

-- ---- the fresh run

append-same : (xs ys zs : List Check) → first_no ys ≡ first_no zs → first_no (xs ++ ys) ≡ first_no (xs ++ zs)
unfolding first_no
append-same [] ys zs e = e
append-same (x ∷ xs) ys zs e = ap (λ (n : ℕ). cond x.passes n x.number) (append-same xs ys zs e)

-- only an answer that is no refusal looks at the run
answer-same : (n : ℕ) (v v' : Verdict) → (n ≡ 0 → v ≡ v') → told_as n v ≡ told_as n v'
answer-same zero v v' f = ap (told_as 0) (f refl)
answer-same (suc n) v v' f = refl

module _ (p r vs bs ws cs : List ℕ) (g : length vs ≡ length bs) (h : length ws ≡ length cs)
    (d : Permᴰ (zip vs bs) (zip ws cs)) where
  pub checks-order : first_no (fresh_run_checks p r vs bs) ≡ first_no (fresh_run_checks p r ws cs)
  unfolding fresh_run_checks
  checks-order =
      append-same (rule_table_checks p r) (list_checks (node_count p) (label_count r) vs bs)
      (list_checks (node_count p) (label_count r) ws cs) (list-order vs bs ws cs g h d (node_count p) (label_count r))

  roots-order : distinct vs ≡ true
      → (root_state p r vs bs ≡ root_state p r ws cs) × (root_accepted p r vs bs ≡ root_accepted p r ws cs)
  roots-order u =
      let c : changed (labels_within p) vs bs ≡ changed (labels_within p) ws cs =
      changed-order vs bs ws cs g h d u (labels_within p) in (
        ap (λ (l : List ℕ). state (rule_automaton r) (tree_of (kinds_in p) l)) c,
        ap (λ (l : List ℕ). accepts (rule_automaton r) (tree_of (kinds_in p) l)) c,
      )

  pub fresh_run-order : distinct vs ≡ true → fresh_run p r vs bs ≡ fresh_run p r ws cs
  unfolding fresh_run
  fresh_run-order u =
      ap (λ (n : ℕ). told_as n (verdict p r vs bs)) checks-order
      ∙ answer-same (first_no (fresh_run_checks p r ws cs)) (verdict p r vs bs) (verdict p r ws cs)
      (λ e. ap₂ (λ (q : ℕ) (t : Bool). record { state = q; accepted = t }) (roots-order u).0 (roots-order u).1)
