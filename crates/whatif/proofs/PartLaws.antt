-- The parts of an input as they come: the twelve length bytes, the plan, the rules and the questions.
--     after-parts    what is said after the lengths, by what came of the plan and the rules
--     after-head     what is said to an input, by what came of its lengths
--     parts-known, head-known      the same of a reader that tells its bytes
--     text-known, text-always      one text in place of another
use Prim.Native.Nat.{ℕ, ◌+◌, ◌≤◌, ◌<◌}
use mathlib.Core.Bool.{Bool, true, false}
use mathlib.Core.Path.{◌≡◌, refl, sym, ap, ◌∙◌, subst}
use mathlib.Core.List.{List, [], ◌++◌, append-nil}
use native.Mathlib.Omega.{arith}
use lib.Dec.{leb}
use lib.ListN.{length, take, drop, drop_of_length-le}
use lib.Seq.{take_at, drop_at, take_all, drop-drop}
use borrow.Author.Tests.{leb-true, leb-false}
use Rattle.std.specs.declared.option.Option.{Option}
use Rattle.std.specs.declared.option.Option.TheVariants.{None, Some}
use Rattle.std.specs.Option.{IfSome}
use Rattle.std.specs.Io.KnownBytes.{Consumes, IsAtEnd}
use Rattle.formats.specs.Bytes.{le32}
use Rattle.whatif.specs.Input.{too_large}
use Rattle.whatif.specs.Said.{said_on, said_to, said_after, said}
use Rattle.whatif.proofs.SaidLaws.{le32-head, said-parts, in-limits-said}

-- x is all of the first n bytes that came, and w is what follows
piece : (n : ℕ) (x w : List ℕ) → length x ≤ n → (length x < n → w ≡ []) → (take n (x ++ w) ≡ x) × (drop n (x ++ w) ≡ w)
piece n x w h e = go (leb n (length x)) refl
  where
    go : (b : Bool) → leb n (length x) ≡ b → (take n (x ++ w) ≡ x) × (drop n (x ++ w) ≡ w)
    go true t =
        let l : length x ≡ n = omega (arith, leb-true n (length x) t) in
        (take_at x w n l, drop_at x w n l)
    go false t =
        let l : length x < n = leb-false n (length x) t in
        let z : x ++ w ≡ x = ap (λ (y : List ℕ). x ++ y) (e l) ∙ append-nil x in
        (ap (take n) z ∙ take_all n x h, ap (drop n) z ∙ (drop_of_length-le x h ∙ sym (e l)))

module _ (h p r w : List ℕ) (t : too_large (le32 h 0) (le32 h 4) ≡ false) (m : length p ≤ le32 h 0)
    (e : length p < le32 h 0 → r ++ w ≡ []) (n : length r ≤ le32 h 4) (f : length r < le32 h 4 → w ≡ []) where
  pub after-parts : said_after h (p ++ (r ++ w)) ≡ said_on p r (take (le32 h 8) w)
  after-parts =
      let x = p ++ (r ++ w) in
      let a = piece (le32 h 0) p (r ++ w) m e in
      let b = piece (le32 h 4) r w n f in
      let d : drop (le32 h 0 + le32 h 4) x ≡ w =
      sym (drop-drop (le32 h 4) (le32 h 0) x) ∙ (ap (drop (le32 h 4)) a.1 ∙ b.1) in
      ap (λ (l : List ℕ). said_to h l (take (le32 h 4) (drop (le32 h 0) x)) (take (le32 h 8) (drop (le32 h 0 + le32 h 4) x))) a.0
      ∙ (ap (λ (l : List ℕ). said_to h p l (take (le32 h 8) (drop (le32 h 0 + le32 h 4) x))) (ap (take (le32 h 4)) a.1 ∙ b.0)
      ∙ (ap (λ (l : List ℕ). said_to h p r (take (le32 h 8) l)) d ∙ in-limits-said h p r (take (le32 h 8) w) t))

module _ (h w : List ℕ) (m : length h ≤ 12) (e : length h < 12 → w ≡ []) where
  pub after-head : said (h ++ w) ≡ said_after h w
  after-head =
      let x = h ++ w in
      let a = piece 12 h w m e in
      let i = le32-head x h 0 a.0 (omega arith) in
      let j = le32-head x h 4 a.0 (omega arith) in
      let k = le32-head x h 8 a.0 (omega arith) in
      let c : drop (12 + le32 x 0) x ≡ drop (le32 h 0) w =
      sym (drop-drop (le32 x 0) 12 x) ∙ (ap (drop (le32 x 0)) a.1 ∙ ap (λ (n : ℕ). drop n w) i) in
      let d : drop (12 + le32 x 0 + le32 x 4) x ≡ drop (le32 h 0 + le32 h 4) w =
      sym (drop-drop (le32 x 4) (12 + le32 x 0) x)
      ∙ (ap (drop (le32 x 4)) c ∙ (ap (λ (n : ℕ). drop n (drop (le32 h 0) w)) j ∙ drop-drop (le32 h 4) (le32 h 0) w)) in
      said-parts x h _ _ _
      (record {
        head = a.0;
        plan = ap (take (le32 x 0)) a.1 ∙ ap (λ (n : ℕ). take n w) i;
        rules = ap (take (le32 x 4)) c ∙ ap (λ (n : ℕ). take n (drop (le32 h 0) w)) j;
      })
      (ap (take (le32 x 8)) d ∙ ap (λ (n : ℕ). take n (drop (le32 h 0 + le32 h 4) w)) k)

pub text-known : (P : List ℕ → Type 0) (known : Option (List ℕ)) (f g : List ℕ → List ℕ) → ((w : List ℕ) → g w ≡ f w)
    → IfSome known (λ w. P (g w)) → IfSome known (λ w. P (f w))
text-known P None f g e h = tt
text-known P (Some w) f g e h = subst P (e w) h

pub text-always : (P : List ℕ → Type 0) (known : Option (List ℕ)) (f : List ℕ → List ℕ) (t : List ℕ) → ((w : List ℕ) → f w ≡ t) → P t
    → IfSome known (λ w. P (f w))
text-always P None f t e h = tt
text-always P (Some w) f t e h = subst P (sym (e w)) h

-- a is what the reader had, b what it had after the plan, and c after the rules
pub parts-known : (P : List ℕ → Type 0) (a b c : Option (List ℕ)) (h p r : List ℕ) → too_large (le32 h 0) (le32 h 4) ≡ false
    → Consumes a b p → Consumes b c r → length p ≤ le32 h 0 → (length p < le32 h 0 → IsAtEnd b) → length r ≤ le32 h 4
    → (length r < le32 h 4 → IsAtEnd c) → IfSome c (λ w. P (said_on p r (take (le32 h 8) w))) → IfSome a (λ w. P (said_after h w))
parts-known P None b c h p r t k l m e n f g = tt
parts-known P (Some u) None c h p r t k l m e n f g = absurd k
parts-known P (Some u) (Some v) None h p r t k l m e n f g = absurd l
parts-known P (Some u) (Some v) (Some w) h p r t k l m e n f g =
    let s : u ≡ p ++ (r ++ w) = k ∙ ap (λ (x : List ℕ). p ++ x) l in
    subst P (sym (ap (said_after h) s ∙ after-parts h p r w t m (λ x. sym l ∙ e x) n f)) g

pub head-known : (P : List ℕ → Type 0) (a b : Option (List ℕ)) (h : List ℕ) → Consumes a b h → length h ≤ 12
    → (length h < 12 → IsAtEnd b) → IfSome b (λ w. P (said_after h w)) → IfSome a (λ w. P (said w))
head-known P None b h k m e g = tt
head-known P (Some u) None h k m e g = absurd k
head-known P (Some u) (Some w) h k m e g = subst P (sym (ap said k ∙ after-head h w m e)) g
