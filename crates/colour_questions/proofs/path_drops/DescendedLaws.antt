-- What the answer of a descent says of the descent.
--     descended-none   not reached: there is none
--     descended-some   reached: there is one, with this colour, these drops and links
use Prim.Native.Nat.{ℕ}
use mathlib.Core.Path.{◌≡◌, refl}
use mathlib.Core.Option.{Option, none, some}
use native.Mathlib.Omega.{arith}
use Rattle.std.specs.Prelude.{Some, None}
use Rattle.colours.specs.Descents.{Descent, drops, links}
use Rattle.colour_questions.specs.declared.path_drops.descend.Descended.{Descended}
use Rattle.colour_questions.specs.path_drops.Descended.{descended_of}

pub descended-none : (o : Option Descent) → None ≡ descended_of o → o ≡ none
unfolding descended_of
descended-none none e = refl
descended-none (some x) e = let z : ◌≡◌ {A = ℕ} 0 1 = cc in absurd (omega arith)

pub descended-some : (o : Option Descent) (a : Descended) → Some a ≡ descended_of o
    → (x : Descent) × (o ≡ some x) × (a.colour ≡ x.colour) × (a.drops ≡ drops x) × (a.links ≡ links x)
unfolding descended_of
descended-some none a e = let z : ◌≡◌ {A = ℕ} 0 1 = cc in absurd (omega arith)
descended-some (some x) a e =
    let b : a.colour ≡ x.colour = cc in
    let c : a.drops ≡ drops x = cc in
    let d : a.links ≡ links x = cc in
    (x, refl, b, c, d)
