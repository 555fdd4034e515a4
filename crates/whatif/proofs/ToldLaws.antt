-- What is taken from a reader and written to a writer, piece by piece.
--     write-more                  one more piece of a text written
--     read-more                   one more piece read into a buffer, behind what came before
--     front-within, front-behind  a front of a text is one of a longer text, and goes on where another text ends
--     nothing-written             what was not written to is at a front of any text
--     on-error, says-failed       what is said where a call fails
use Prim.Native.Nat.{ℕ, ◌+◌, ◌≤◌}
use mathlib.Core.Bool.{Bool, true, false}
use mathlib.Core.Path.{◌≡◌, refl, sym, ap, ◌∙◌, subst}
use mathlib.Core.List.{List, ◌++◌}
use native.Mathlib.Omega.{arith}
use lib.ListN.{length, take, drop, length-take}
use lib.Dec.{leb}
use lib.Seq.{take-add, take-take, take_all, take_at, drop_at, take-append-le, take-append-add, length-take-le}
use borrow.Author.Tests.{leb-true, leb-false}
use borrow.Rule.Slice.PartMut.{put_mid}
use Rattle.std.specs.declared.option.Option.{Option}
use Rattle.std.specs.declared.option.Option.TheVariants.{None, Some}
use Rattle.std.specs.declared.result.Result.{Result}
use Rattle.std.specs.declared.result.Result.TheVariants.{Ok, Err}
use Rattle.std.specs.Option.{IfSome}
use Rattle.std.specs.Result.{IsErr, OnErr}
use Rattle.std.specs.Io.KnownBytes.{Appends, Consumes}
use Rattle.std.proofs.KnownBytes.{Appends-nil, Appends-trans, Consumes-trans}
use Rattle.list_laws.proofs.BoolLaws.{true-false}
use Rattle.whatif.specs.Told.{AppendsFront, Says}

-- the piece is the front of what is left of t
pub write-more : (a b c : Option (List ℕ)) (t : List ℕ) (done m n : ℕ) → n ≤ length (take m (drop done t)) → Appends a b (take done t)
    → Appends b c (take n (take m (drop done t))) → Appends a c (take (done + n) t)
write-more a b c t done m n w h k =
    let l : n ≤ m = omega (arith, length-take m (drop done t)) in
    let e : take done t ++ take n (take m (drop done t)) ≡ take (done + n) t =
    ap (λ (x : List ℕ). take done t ++ x) (take-take n m (drop done t) l) ∙ sym (take-add done n t) in
    subst (Appends a c) e (Appends-trans a b c _ _ h k)

pub read-more : (a b c : Option (List ℕ)) (xs ys : List ℕ) (k done n : ℕ) → done ≤ length xs → n ≤ length ys
    → Consumes a b (take done xs) → Consumes b c (take n ys) → Consumes a c (take (done + n) (put_mid done k xs ys))
read-more a b c xs ys k done n h g p q =
    let rest = drop k (drop done xs) in
    let front : take done (take done xs ++ (ys ++ rest)) ≡ take done xs = take_at (take done xs) (ys ++ rest) done (length-take-le done xs h) in
    let back : drop done (take done xs ++ (ys ++ rest)) ≡ ys ++ rest = drop_at (take done xs) (ys ++ rest) done (length-take-le done xs h) in
    let pieces : take (done + n) (put_mid done k xs ys) ≡ take done xs ++ take n ys =
    take-add done n (put_mid done k xs ys)
    ∙ (ap (λ (l : List ℕ). l ++ take n (drop done (put_mid done k xs ys))) front
    ∙ ap (λ (l : List ℕ). take done xs ++ l) (ap (take n) back ∙ take-append-le n ys rest g)) in
    subst (Consumes a c) (sym pieces) (Consumes-trans a b c _ _ p q)

pub front-within : (a b : Option (List ℕ)) (k : ℕ) (t u : List ℕ) → Appends a b (take k t) → AppendsFront a b (t ++ u)
front-within a b k t u h = go (leb k (length t)) refl
  where
    go : (c : Bool) → leb k (length t) ≡ c → AppendsFront a b (t ++ u)
    go true e = (k, subst (Appends a b) (sym (take-append-le k t u (leb-true k (length t) e))) h)
    go false e =
        let l : length t ≤ k = omega (arith, leb-false k (length t) e) in
        (length t, subst (Appends a b) (take_all k t l ∙ sym (take_at t u (length t) refl)) h)

pub front-behind : (a b c : Option (List ℕ)) (k : ℕ) (s t : List ℕ) → Appends a b s → Appends b c (take k t) → AppendsFront a c (s ++ t)
front-behind a b c k s t h g = (length s + k, subst (Appends a c) (sym (take-append-add s t k)) (Appends-trans a b c s (take k t) h g))

pub nothing-written : (known a : Option (List ℕ)) (f : List ℕ → List ℕ) → IfSome known (λ w. AppendsFront a a (f w))
nothing-written None a f = tt
nothing-written (Some w) a f = (0, Appends-nil a)

pub on-error : {T E : Type 0} (r : Result T E) (P : Type 0) → P → OnErr r P
on-error (Ok x) P p = tt
on-error (Err e) P p = p

pub says-failed : {T E : Type 0} (known a b : Option (List ℕ)) (r : Result T E) (f : List ℕ → List ℕ) → IsErr r
    → IfSome known (λ w. AppendsFront a b (f w)) → Says known r a b f
says-failed known a b (Ok x) f e h = absurd (true-false (sym e))
says-failed None a b (Err x) f e h = tt
says-failed (Some w) a b (Err x) f e h = h
