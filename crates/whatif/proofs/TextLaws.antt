-- Text in a buffer.
--     decimal-is    what std writes of a number is its decimal text
--     put-nothing, put_then      nothing appended; one text appended after another
use Prim.Native.Nat.{ℕ, zero, suc, ◌+◌, ◌/◌, ◌%◌, ◌^◌, ◌≤◌, ◌<◌}
use mathlib.Core.Path.{◌≡◌, refl, ap, sym, ◌∙◌}
use mathlib.Core.Bool.{cond}
use mathlib.Core.List.{List, [], ◌∷◌, ◌++◌, append_assoc, append-nil}
use native.Mathlib.Omega.{arith}
use lib.Dec.{ltb}
use lib.ListN.{length, take, length-append}
use borrow.Author.Tests.{lt-ltb, le-ltb}
use Rattle.std.specs.Fmt.{decimal as digits_text}
use Rattle.std.proofs.lemmas.Fmt.{decimal_by_steps}
use Rattle.whatif.specs.Text.{places_in, decimal, Put}

-- more fuel than a number needs makes no difference
enough-fuel : (f g n : ℕ) → n ≤ f → n ≤ g → places_in f n ≡ places_in g n
unfolding places_in
enough-fuel zero zero n h k = refl
enough-fuel zero (suc g) n h k = rw (lt-ltb n 10 (omega arith)) refl
enough-fuel (suc f) zero n h k = rw (lt-ltb n 10 (omega arith)) refl
enough-fuel (suc f) (suc g) n h k =
    ap (λ (x : ℕ). cond (ltb n 10) 1 (suc x)) (enough-fuel f g (n / 10) (omega arith) (omega arith))

one-place : (f n : ℕ) → n < 10 → places_in f n ≡ 1
unfolding places_in
one-place zero n h = refl
one-place (suc f) n h = rw (lt-ltb n 10 h) refl

more-places : (f n : ℕ) → 10 ≤ n → n ≤ f → places_in f n ≡ suc (places_in (n / 10) (n / 10))
unfolding places_in
more-places zero n h k = absurd (omega arith)
more-places (suc f) n h k = rw (le-ltb n 10 h) (ap suc (enough-fuel f (n / 10) (n / 10) (omega arith) (omega arith)))

one-digit : (n : ℕ) → n < 10 → (48 + n) ∷ [] ≡ decimal n
unfolding decimal
one-digit n h =
    let r : n % 10 ≡ n = omega arith in
    rw (one-place n n h) (ap (λ (d : ℕ). (48 + d) ∷ []) (sym r))

last-digit : (n : ℕ) (ds : List ℕ) → 10 ≤ n → ds ≡ decimal (n / 10) → ds ++ ((48 + n % 10) ∷ []) ≡ decimal n
unfolding decimal
last-digit n ds h e = rw (more-places n n h (omega arith)) (ap (λ (l : List ℕ). l ++ ((48 + n % 10) ∷ [])) e)

pub decimal-is : (n : ℕ) → n < 2 ^ 64 → digits_text n ≡ decimal n
decimal-is = decimal_by_steps (λ (n : ℕ) (ds : List ℕ). ds ≡ decimal n) one-digit last-digit

pub put-nothing : (b : List ℕ) (at : ℕ) → Put b at [] b at
put-nothing b at = record { text = sym (append-nil (take at b)); end = omega arith; as_long = refl }

pub put_then : {b b' b'' t u : List ℕ} {at e e' : ℕ} → Put b at t b' e → Put b' e u b'' e' → Put b at (t ++ u) b'' e'
put_then {b = b} {t = t} {u = u} {at = at} p q = record {
  text = q.text ∙ (ap (λ (s : List ℕ). s ++ u) p.text ∙ append_assoc (take at b) t u);
  end = q.end ∙ (ap (λ (n : ℕ). n + length u) p.end ∙ simp length-append (omega arith));
  as_long = q.as_long ∙ p.as_long;
}
