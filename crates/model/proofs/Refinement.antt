-- Forms of the calls that refine another form: by value, in place, and as bytes.
--     Refines     each step of the first form, seen as one of the second
--     refines     so histories of the first are histories of the second
use mathlib.Core.List.{List, [], ◌∷◌}
use Rattle.model.specs.History.{History, done, call}

module _ {A B Call Answer : Type 0} (StepA : A → Call → Answer → A → Type 0) (StepB : B → Call → Answer → B → Type 0) (Seen : A
    → B → Type 0) where
  -- each step of the first form, seen as one of the second
  abbrev pub Refines : Type 0
  Refines = (a a' : A) (b : B) (c : Call) (x : Answer) → Seen a b → StepA a c x a'
      → (b' : B) × StepB b c x b' × Seen a' b'

  pub refines : Refines → (a : A) (b : B) (cs : List Call) (xs : List Answer) → Seen a b → History StepA a cs xs
      → History StepB b cs xs
  refines f a b [] [] i done = done
  refines f a b (c ∷ cs) (x ∷ xs) i (call {r' = a'} e h) =
      let j = f a a' b c x i e in call j.1 (refines f a' j.0 cs xs j.2 h)
  refines f a b [] (x ∷ xs) i h = elim h [ ]
  refines f a b (c ∷ cs) [] i h = elim h [ ]
