-- The tests of bytes as the code makes them, and the struct's bytes as the code writes them, against their definitions.
--     laid-short, laid-test       laid_out
--     valid-not, valid-test       valid_bytes
--     encode-other, encode-done   encode on a buffer of another length, and of 983 bytes
--     head-written, last_written  13 stores in a row, and 16
--     part-written                a part of a buffer that is written behind what is written
--     record-written              the first 13 bytes and the five parts behind them
--     step_other, step-done       the same of what an advance alters
--     head_read, last-read, record-read
--                                 the fields as the code reads them
use Prim.Native.Nat.{ℕ, ◌+◌, ◌*◌}
use mathlib.Core.Path.{◌≡◌, refl, sym, ap, ◌∙◌}
use mathlib.Core.Bool.{Bool, true, false, not, cond}
use mathlib.Core.List.{List, ◌∷◌, ◌++◌, append_assoc, append-nil}
use native.Mathlib.Omega.{arith}
use lib.Dec.{eqb}
use lib.ListN.{length, get_or, take, drop, set, length-set, length-append, drop_of_length-le}
use lib.Seq.{sets, sets-eq, take_at, drop_at, drop-drop}
use borrow.Author.Tests.{eq-eqb, ne_eqb, eqb-true, not-true, not-false}
use Rattle.list_laws.proofs.BoolLaws.{and_left}
use Rattle.formats.specs.Bytes.{le16, le32}
use Rattle.session.specs.declared.state.Phase.{Phase}
use Rattle.session.specs.declared.state.Head.{Head}
use Rattle.session.specs.declared.state.Last.{Last}
use Rattle.session.specs.declared.state.Session.{Session}
use Rattle.session.specs.Records.{valid}
use Rattle.list_laws.proofs.SliceLaws.{length_part}
use Rattle.records.proofs.NumberLaws.{bytes16-length}
use Rattle.records.proofs.RunLaws.{behind, run-then}
use Rattle.records.specs.Layout.{numbers16, bytes16, phase_byte, phase_at, yes_byte, head_bytes, last_bytes, step_bytes, encoded}
use Rattle.records.specs.Layout.{run, decoded_head, decoded_last, decoded, flags_fit, laid_out, valid_bytes, InTypes}

module _ (b : List ℕ) where
  pub laid-short : (length b ≡ 983 → ⊥) → false ≡ laid_out b
  unfolding laid_out
  laid-short h = rw (ne_eqb (length b) 983 h)

  pub laid-test : length b ≡ 983 → flags_fit b ≡ laid_out b
  unfolding laid_out
  laid-test h = rw (eq-eqb (length b) 983 h)

  pub laid-length : laid_out b ≡ true → length b ≡ 983
  unfolding laid_out
  laid-length e = eqb-true (length b) 983 (and_left (eqb (length b) 983) (flags_fit b) e)

  pub valid-not : (r : Bool) → r ≡ laid_out b → not r ≡ true → false ≡ valid_bytes b
  unfolding valid_bytes
  valid-not r e f = rw (← e, not-true r f)

  pub valid-laid : (r : Bool) → r ≡ laid_out b → not r ≡ false → length b ≡ 983
  valid-laid r e f = laid-length (sym e ∙ not-false r f)

  pub valid-test : (r q : Bool) (s : Session) → r ≡ laid_out b → not r ≡ false → s ≡ decoded b → q ≡ valid s
      → q ≡ valid_bytes b
  unfolding valid_bytes
  valid-test r q s e f g h = rw (← e, not-false r f, ← g) h

module _ (out : List ℕ) (s : Session) where
  pub encode-other : (length out ≡ 983 → ⊥) → out ≡ cond (eqb (length out) 983) (encoded s) out
  encode-other h = rw (ne_eqb (length out) 983 h)

  pub encode-done : (after : List ℕ) → length out ≡ 983 → after ≡ encoded s
      → after ≡ cond (eqb (length out) 983) (encoded s) out
  encode-done after h e = rw (eq-eqb (length out) 983 h) e

sets-all : (out vs : List ℕ) → length out ≡ length vs → sets out 0 vs ≡ vs
sets-all out vs e =
    sets-eq vs out 0 (omega arith)
    ∙ (ap (λ (t : List ℕ). vs ++ t) (drop_of_length-le out {i = 0 + length vs} (omega arith)) ∙ append-nil vs)

-- the state and the yes or no, as the functions that number them return them
pub head-written : (out : List ℕ) (h : Head) (p y : ℕ) → length out ≡ 13 → p ≡ phase_byte h.phase
    → y ≡ yes_byte h.yes → sets out 0 (p ∷ y ∷ drop 2 (head_bytes h)) ≡ head_bytes h
head-written out h p y e f g = rw (← f, ← g) (sets-all out (p ∷ y ∷ drop 2 (head_bytes h)) e)

pub last_written : (out : List ℕ) (h : Head) (f y : ℕ) → length out ≡ 16 → f ≡ yes_byte h.last.present
    → y ≡ yes_byte h.last.outcome.yes
    → sets out 0 (f ∷ h.last.outcome.state ∷ y ∷ drop 3 (last_bytes h)) ≡ last_bytes h
last_written out h f y e g i = rw (← g, ← i) (sets-all out (f ∷ h.last.outcome.state ∷ y ∷ drop 3 (last_bytes h)) e)

-- p is before index a; the k bytes ys go behind it
pub part-written : (x p o ys : List ℕ) (a k : ℕ) → x ≡ p ++ drop a o → length p ≡ a
    → take a x ++ (ys ++ drop k (drop a x)) ≡ (p ++ ys) ++ drop (a + k) o
part-written x p o ys a k e h =
    rw (e, take_at p (drop a o) a h, drop_at p (drop a o) a h, drop-drop, append_assoc)

-- what a buffer holds after its k bytes from index a on were borrowed and written
abbrev pub put : ℕ → ℕ → List ℕ → List ℕ → List ℕ
put a k x ys = take a x ++ (ys ++ drop k (drop a x))

joined : (p q : List ℕ) (a b : ℕ) → length p ≡ a → length q ≡ b → length (p ++ q) ≡ a + b
joined p q a b e f = rw (length-append, e, f)

regrouped : (h n l r t w : List ℕ) → ((((h ++ n) ++ l) ++ r) ++ t) ++ w ≡ h ++ (n ++ (l ++ (r ++ (t ++ w))))
regrouped h n l r t w = simp append_assoc

pub record-written : (o : List ℕ) (s : Session) (h n l r t w : List ℕ) → length o ≡ 983 → InTypes s → h ≡ head_bytes s.head
    → n ≡ bytes16 s.nodes → l ≡ s.labels → r ≡ bytes16 s.roots → t ≡ s.states → w ≡ last_bytes s.head
    → put 967 16 (put 713 254 (put 205 508 (put 141 64 (put 13 128 (h ++ drop 13 o) n) l) r) t) w ≡ encoded s
unfolding encoded
record-written o s h n l r t w e z eh en el er et ew =
    let lh : length h ≡ 13 = ap length eh in
    let ln : length n ≡ 128 = ap length en ∙ (bytes16-length s.nodes ∙ ap (λ (k : ℕ). 2 * k) z.nodes_length) in
    let ll : length l ≡ 64 = ap length el ∙ z.labels_length in
    let lr : length r ≡ 508 = ap length er ∙ (bytes16-length s.roots ∙ ap (λ (k : ℕ). 2 * k) z.roots_length) in
    let x₁ = part-written (h ++ drop 13 o) h o n 13 128 refl lh in
    let x₂ = part-written (put 13 128 (h ++ drop 13 o) n) (h ++ n) o l 141 64 x₁ (joined h n 13 128 lh ln) in
    let l₂ = joined (h ++ n) l 141 64 (joined h n 13 128 lh ln) ll in
    let x₃ = part-written (put 141 64 (put 13 128 (h ++ drop 13 o) n) l) ((h ++ n) ++ l) o r 205 508 x₂ l₂ in
    let l₃ = joined ((h ++ n) ++ l) r 205 508 l₂ lr in
    let y = put 205 508 (put 141 64 (put 13 128 (h ++ drop 13 o) n) l) r in
    let x₄ = part-written y (((h ++ n) ++ l) ++ r) o t 713 254 x₃ l₃ in
    let lt : length t ≡ 254 = ap length et ∙ z.states_length in
    let l₄ = joined (((h ++ n) ++ l) ++ r) t 713 254 l₃ lt in
    let x₅ = part-written (put 713 254 y t) ((((h ++ n) ++ l) ++ r) ++ t) o w 967 16 x₄ l₄ in
    x₅
    ∙ (ap (λ (u : List ℕ). (((((h ++ n) ++ l) ++ r) ++ t) ++ w) ++ u) (drop_of_length-le o {i = 983} (omega arith))
    ∙ (append-nil (((((h ++ n) ++ l) ++ r) ++ t) ++ w) ∙ (regrouped h n l r t w ∙ rw (eh, en, el, er, et, ew))))

module _ (out new : List ℕ) where
  pub step_other : (length out ≡ 983 → ⊥) → out ≡ cond (eqb (length out) 983) new out
  step_other h = rw (ne_eqb (length out) 983 h)

  step-cond : (after : List ℕ) → length out ≡ 983 → after ≡ new → after ≡ cond (eqb (length out) 983) new out
  step-cond after h e = rw (eq-eqb (length out) 983 h) e

step-written : (o h t w : List ℕ) → length o ≡ 983 → length h ≡ 13 → length t ≡ 254
    → put 967 16 (put 713 254 (h ++ drop 13 o) t) w ≡ h ++ (run 13 700 o ++ (t ++ w))
step-written o h t w e lh lt =
    let p = h ++ run 13 700 o in
    let x₀ : h ++ drop 13 o ≡ (h ++ run 13 700 o) ++ drop 713 o = rw (append_assoc, run-then o 13 700) in
    let lp = joined h (run 13 700 o) 13 700 lh (length_part o 13 700 (omega arith)) in
    let x₁ = part-written (h ++ drop 13 o) p o t 713 254 x₀ lp in
    let x₂ = part-written (put 713 254 (h ++ drop 13 o) t) (p ++ t) o w 967 16 x₁ (joined p t 713 254 lp lt) in
    x₂
    ∙ (ap (λ (u : List ℕ). ((p ++ t) ++ w) ++ u) (drop_of_length-le o {i = 983} (omega arith))
    ∙ (append-nil ((p ++ t) ++ w) ∙ simp append_assoc))

-- the states of the parts are behind the first 13 bytes
states-behind : (o h : List ℕ) → length h ≡ 13 → run 713 254 (h ++ drop 13 o) ≡ run 713 254 o
states-behind o h e = behind h (drop 13 o) 13 700 254 e ∙ ap (take 254) (drop-drop 700 13 o)

pub step-done : (o : List ℕ) (g : Head) (i q : ℕ) (h t w : List ℕ) → length o ≡ 983 → h ≡ head_bytes g
    → t ≡ set (run 713 254 (h ++ drop 13 o)) i q → w ≡ last_bytes g
    → put 967 16 (put 713 254 (h ++ drop 13 o) t) w ≡ cond (eqb (length o) 983) (step_bytes g i q o) o
step-done o g i q h t w e eh et ew =
    let f : t ≡ set (run 713 254 o) i q = et ∙ ap (λ (l : List ℕ). set l i q) (states-behind o h (ap length eh)) in
    let lt : length t ≡ 254 = ap length f ∙ (length-set (run 713 254 o) i q ∙ length_part o 713 254 (omega arith)) in
    step-cond o (step_bytes g i q o) _ e (step-written o h t w e (ap length eh) lt ∙ rw (eh, f, ew))

pub last-read : (t : List ℕ) (links passed : ℕ) → links ≡ le32 t 4 → passed ≡ le32 t 12
    → ◌≡◌ {A = Last} (record {
      present = eqb (get_or t 0 0) 1;
      outcome = record {
        state = get_or t 1 0;
        yes = eqb (get_or t 2 0) 1;
        parts = get_or t 3 0;
        links = links;
        passed = passed;
      };
    }) (decoded_last t)
last-read t links passed e f = cc

pub head_read : (b : List ℕ) (p : Phase) (n links passed : ℕ) (l : Last) → p ≡ phase_at (get_or b 0 0) → n ≡ le16 b 4
    → links ≡ le32 b 9 → passed ≡ le32 b 975 → l ≡ decoded_last (run 967 16 b)
    → ◌≡◌ {A = Head} (record {
      phase = p;
      yes = eqb (get_or b 1 0) 1;
      sizes = record { n = n; s = get_or b 2 0; k = get_or b 3 0 };
      m = get_or b 6 0;
      parts = get_or b 7 0;
      handled = get_or b 8 0;
      links = links;
      passed = passed;
      last = l;
    }) (decoded_head b)
head_read b p n links passed l e f g i h = cc

pub record-read : (b : List ℕ) (h : Head) (nodes labels roots states : List ℕ) → h ≡ decoded_head b
    → nodes ≡ numbers16 (run 13 128 b) → labels ≡ run 141 64 b → roots ≡ numbers16 (run 205 508 b) → states ≡ run 713 254 b
    → ◌≡◌ {A = Session} (record { head = h; nodes = nodes; labels = labels; roots = roots; states = states }) (decoded b)
unfolding decoded
record-read b h nodes labels roots states e f g i j = cc
