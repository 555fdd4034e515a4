-- The roots that were found, as the code has them.
--     rooted_none, rooted-some   from the answer back
--     roots-most                 at most 254
--     left-most                  a list of at most 64 changes leaves at most 64 nodes
use Rattle.std.proofs.Common.{◌≡◌, ℕ, ◌-◌, ◌≤◌, Bool, true, false, cond, List, [], length, take, replicate, sym, refl, ap, ◌∙◌, ap₂, arith, length-append}
use mathlib.Core.Option.{Option, none, some}
use native.Mathlib.Decide.{ℕ_discrete}
use lib.Seq.{take-append_seam}
use Rattle.list_laws.proofs.BoolLaws.{true-false}
use Rattle.formats.specs.inner.InnerChecks.{lists_fit}
use Rattle.changes.specs.inner.LastDiffering.{last_differing, given_differing}
use Rattle.changes.proofs.LastDifferingLaws.{last-most}
use Rattle.questions.specs.declared.roots.Rooted.{Rooted}
use Rattle.questions.specs.RootsAnswers.{rooted_of}
use Rattle.questions.specs.Promises.{RootsAre}

module _ (q : Rooted) where
  pub rooted_none : (o : Option (List ℕ)) → q ≡ rooted_of o → q.ok ≡ false → o ≡ none
  rooted_none none e f = refl
  rooted_none (some l) e f = absurd (true-false (sym (ap (λ (x : Rooted). x.ok) e) ∙ f))

  pub record RootedIs (o : Option (List ℕ)) : Type 0 where
    pub list : List ℕ
    pub is : o ≡ some list
    pub taken : take q.count q.nodes ≡ list
    pub room : q.count ≤ length q.nodes

  pub rooted-some : (o : Option (List ℕ)) → q ≡ rooted_of o → q.ok ≡ true → RootedIs o
  rooted-some none e f = absurd (true-false (sym f ∙ ap (λ (x : Rooted). x.ok) e))
  rooted-some (some l) e f = record {
    list = l;
    is = refl;
    taken = ap₂ (λ (i : ℕ) (m : List ℕ). take i m) (ap (λ (x : Rooted). x.count) e) (ap (λ (x : Rooted). x.nodes) e)
        ∙ take-append_seam l (replicate (254 - length l) 0);
    room = omega (
      arith,
      ap (λ (x : Rooted). x.count) e,
      ap (λ (x : Rooted). length x.nodes) e,
      length-append l (replicate (254 - length l) 0),
    );
  }

pub roots-most : (n m : ℕ) (l : List ℕ) → m ≤ 64 → RootsAre n m l → length l ≤ 254
roots-most n m l h R = elim (ℕ_discrete m 0) [
  | yes e ↦ omega (arith, R.one e)
  | no e ↦ omega (arith, R.few (omega arith))
]

pub left-most : (ls vs bs : List ℕ) → length vs ≤ 64 → length (given_differing ls vs bs) ≤ 64
left-most ls vs bs h = go (lists_fit vs bs)
  where
    go : (b : Bool) → length (cond b (last_differing ls vs bs) []) ≤ 64
    go true = omega (arith, last-most ls vs bs)
    go false = omega arith
