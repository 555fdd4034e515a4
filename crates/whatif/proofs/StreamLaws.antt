-- The buffer of a question that is not yet whole, and the lines of the questions that become so.
--     held-empty      nothing is held at the start
--     held_more       one more byte, kept if there is room
--     whole-answer      whether the question is whole can be read from the buffer
--     list-kept       and so is the list of a whole question
--     kept_line       the line of a whole question
--     open-chunks, lines-chunks       one chunk after another
--     byte-kept-open, byte-answered, advances-none, advances-then     what taking bytes comes to
use Prim.Native.Nat.{ℕ, ◌+◌, ◌-◌, ◌*◌, ◌/◌, ◌≤◌, ◌<◌, min}
use mathlib.Core.Path.{◌≡◌, refl, ap, sym, ◌∙◌}
use mathlib.Core.Bool.{Bool, true, false, ◌&&◌}
use mathlib.Core.List.{List, [], ◌∷◌, ◌++◌, append_assoc, append-nil}
use native.Mathlib.Numerals.{add-one}
use native.Mathlib.Omega.{arith}
use lib.Dec.{leb, eqb}
use lib.ListN.{length, get_or, take, drop, set, length-append, length-drop, length-set}
use lib.Seq.{take_all, take-take, take-add, drop_at, take-suc-set, set_out, take-append-le, get_or-take, length-take-le}
use borrow.Author.Tests.{leb-true, leb-false, lt-leb, ne_eqb, eqb-true}
use Rattle.formats.specs.Checks.{first_no, list_checks}
use Rattle.model.specs.Calls.{Answer, refused}
use Rattle.whatif.specs.Text.{Put}
use Rattle.whatif.specs.Line.{line_of}
use Rattle.whatif.specs.Cleared.{answer_by, answer_to}
use Rattle.whatif.specs.Question.{change_count, question_length, nodes_in, labels_within}
use Rattle.whatif.proofs.TripleLaws.{nodes-count}
use Rattle.whatif.proofs.TextLaws.{put-nothing, put_then}
use Rattle.whatif.specs.Stream.{kept_list, is_whole, open_after, open_by, line_after, lines_by, Buffered, Advances, line_as_kept, question_line}

pub held-empty : (kept : List ℕ) → length kept ≡ 197 → Buffered [] kept 0
held-empty kept e = record { counted = refl; room = e; first = refl }

module _ (q kept : List ℕ) (have b : ℕ) (h : Buffered q kept have) where
  longer : List ℕ
  longer = q ++ (b ∷ [])

  length-longer : length (q ++ (b ∷ [])) ≡ have + 1
  length-longer = length-append q (b ∷ []) ∙ ap (λ (n : ℕ). n + 1) (sym h.counted)

  room-left : have < 197 → take (have + 1) (set kept have b) ≡ take 197 (q ++ (b ∷ []))
  room-left l =
      let k : have < length kept = omega (arith, h.room) in
      rw (add-one have, take-suc-set kept have b k, h.first, take_all 197 q (omega (arith, h.counted)))
      (sym (take_all 197 (q ++ (b ∷ [])) (omega (arith, length-longer))))

  full : 197 ≤ have → take (have + 1) (set kept have b) ≡ take 197 (q ++ (b ∷ []))
  full l =
      rw (set_out kept have b (omega (arith, h.room)), take_all (have + 1) kept (omega (arith, h.room)))
      (sym (take_all have kept (omega (arith, h.room))) ∙ (h.first ∙ sym (take-append-le 197 q (b ∷ []) (omega (arith, h.counted)))))

  first_more : (t : Bool) → leb 197 have ≡ t → take (have + 1) (set kept have b) ≡ take 197 (q ++ (b ∷ []))
  first_more true e = full (leb-true 197 have e)
  first_more false e = room-left (leb-false 197 have e)

  pub held_more : Buffered (q ++ (b ∷ [])) (set kept have b) (have + 1)
  held_more = record {
    counted = sym length-longer;
    room = length-set kept have b ∙ h.room;
    first = first_more (leb 197 have) refl;
  }

module _ (q kept : List ℕ) (have : ℕ) (h : Buffered q kept have) where
  byte-kept : (i : ℕ) → i < have → i < 197 → get_or kept i 0 ≡ get_or q i 0
  byte-kept i k l =
      sym (get_or-take have kept i 0 k) ∙ (ap (λ (s : List ℕ). get_or s i 0) h.first ∙ get_or-take 197 q i 0 l)

  pub count_kept : 2 ≤ have → change_count kept ≡ change_count q
  count_kept k = rw (byte-kept 0 (omega arith) (omega arith), byte-kept 1 (omega arith) (omega arith)) refl

  pub whole-answer : eqb have (question_length kept) ≡ is_whole q
  whole-answer = go (leb 2 have) refl
    where
      go : (t : Bool) → leb 2 have ≡ t → eqb have (question_length kept) ≡ is_whole q
      go true e = rw (count_kept (leb-true 2 have e), h.counted) refl
      go false e =
          let l : have < 2 = leb-false 2 have e in
          ne_eqb have (question_length kept) (λ x. omega arith)
          ∙ sym (ne_eqb (length q) (question_length q) (λ x. omega (arith, h.counted)))

  pub list-kept : is_whole q ≡ true → kept_list kept ≡ kept_list q
  list-kept e =
      let w : length q ≡ question_length q = eqb-true (length q) (question_length q) e in
      let m : change_count kept ≡ change_count q = count_kept (omega (arith, h.counted)) in
      let k : ℕ = min (change_count q) 65 in
      let k-count : k ≤ change_count q = omega arith in
      let k-most : k ≤ 65 = omega arith in
      let f : take (2 + 3 * k) kept ≡ take (2 + 3 * k) q =
      sym (take-take (2 + 3 * k) have kept (omega (arith, h.counted)))
      ∙ (ap (take (2 + 3 * k)) h.first ∙ take-take (2 + 3 * k) 197 q (omega arith)) in
      ap (λ (n : ℕ). take (3 * min n 65) (drop 2 kept)) m
      ∙ (sym (inside kept (3 * k) (omega (arith, h.room)))
      ∙ (ap (drop 2) f ∙ inside q (3 * k) (omega (arith, h.counted))))
    where
      inside : (l : List ℕ) (n : ℕ) → 2 ≤ length l → drop 2 (take (2 + n) l) ≡ take n (drop 2 l)
      inside l n h = rw (take-add 2 n l) (drop_at (take 2 l) (take n (drop 2 l)) 2 (length-take-le 2 l h))

pub open-chunks : (q c d : List ℕ) → open_by q (c ++ d) ≡ open_by (open_by q c) d
unfolding open_by
open-chunks q [] d = refl
open-chunks q (a ∷ c) d = open-chunks (open_after q a) c d

-- so it does not matter how the bytes are cut into chunks
pub lines-chunks : (f : List ℕ → List ℕ) (q c d : List ℕ) → lines_by f q (c ++ d) ≡ lines_by f q c ++ lines_by f (open_by q c) d
unfolding lines_by open_by
lines-chunks f q [] d = refl
lines-chunks f q (a ∷ c) d =
    ap (λ (t : List ℕ). line_after f q a ++ t) (lines-chunks f (open_after q a) c d)
    ∙ sym (append_assoc (line_after f q a) (lines_by f (open_after q a) c) (lines_by f (open_by (open_after q a) c) d))

-- ---- the line of a whole question, from what the buffer holds

module _ (kept : List ℕ) (k : ℕ) (room : length kept ≡ 197) (count : k ≡ min (change_count kept) 65) where
  abbrev part : List ℕ
  part = take (2 + 3 * k - 2) (drop 2 kept)

  part-list : part ≡ kept_list kept
  part-list = let e : 2 + 3 * k - 2 ≡ 3 * k = omega arith in rw (e, count) refl

  part-third : length part / 3 ≡ k
  part-third =
      let e : 2 + 3 * k - 2 ≡ 3 * k = omega arith in
      let l : length part ≡ 3 * k =
      ap (λ (n : ℕ). length (take n (drop 2 kept))) e
      ∙ length-take-le (3 * k) (drop 2 kept) (omega (arith, length-drop 2 kept)) in
      omega arith

  -- xs and ys hold the nodes and the labels
  pub kept_line : (p r xs ys : List ℕ) (a : Answer) → take (length part / 3) xs ≡ nodes_in part
      → take (length part / 3) ys ≡ labels_within part → a ≡ answer_to p r (take k xs) (take k ys) → line_of a ≡ line_as_kept p r kept
  unfolding line_as_kept
  kept_line p r xs ys a n l e =
      let v : take k xs ≡ nodes_in (kept_list kept) =
      ap (λ (i : ℕ). take i xs) (sym part-third) ∙ (n ∙ ap nodes_in part-list) in
      let b : take k ys ≡ labels_within (kept_list kept) =
      ap (λ (i : ℕ). take i ys) (sym part-third) ∙ (l ∙ ap labels_within part-list) in
      rw (e, v, b) refl

-- a list that is too long is refused with 12
long-refused : (p r vs bs : List ℕ) → 64 < length vs → answer_to p r vs bs ≡ refused 12
unfolding list_checks first_no answer_by
long-refused p r vs bs h = rw (lt-leb (length vs) 64 h, and-false (eqb (length vs) (length bs))) refl
  where
    and-false : (t : Bool) → (t && false) ≡ false
    and-false true = refl
    and-false false = refl

-- so the first 65 changes are enough
same_answer : (p r q : List ℕ) → is_whole q ≡ true
    → answer_to p r (nodes_in (kept_list q)) (labels_within (kept_list q)) ≡ answer_to p r (nodes_in (drop 2 q)) (labels_within (drop 2 q))
same_answer p r q e = go (leb (change_count q) 65) refl
  where
    w : length (drop 2 q) ≡ 3 * change_count q
    w = omega (arith, eqb-true (length q) (question_length q) e, length-drop 2 q)

    go : (t : Bool) → leb (change_count q) 65 ≡ t
        → answer_to p r (nodes_in (kept_list q)) (labels_within (kept_list q)) ≡ answer_to p r (nodes_in (drop 2 q)) (labels_within (drop 2 q))
    go true h =
        let l : change_count q ≤ 65 = leb-true (change_count q) 65 h in
        let m : kept_list q ≡ drop 2 q = take_all (3 * min (change_count q) 65) (drop 2 q) (omega (arith, w)) in
        ap (λ (t : List ℕ). answer_to p r (nodes_in t) (labels_within t)) m
    go false h =
        let l : 65 < change_count q = leb-false (change_count q) 65 h in
        let k : length (kept_list q) ≡ 195 =
        length-take-le (3 * min (change_count q) 65) (drop 2 q) (omega (arith, w)) ∙ omega arith in
        long-refused p r _ _ (omega (arith, nodes-count (kept_list q), k))
        ∙ sym (long-refused p r _ _ (omega (arith, nodes-count (drop 2 q), w)))

-- ---- what taking bytes comes to

-- a byte that completes no question
pub byte-kept-open : (f : List ℕ → List ℕ) (kept : List ℕ) (have b : ℕ) (out : List ℕ) (end : ℕ)
    → eqb (have + 1) (question_length (set kept have b)) ≡ false
    → Advances f (b ∷ []) kept have (set kept have b) (have + 1) out end out end
unfolding open_by open_after lines_by line_after
byte-kept-open f kept have b out end e = record {
  held = λ q h.
      let m = held_more q kept have b h in
      let w = sym (whole-answer (q ++ (b ∷ [])) (set kept have b) (have + 1) m) ∙ e in
      rw w m;
  text = λ q h.
      let m = held_more q kept have b h in
      let w = sym (whole-answer (q ++ (b ∷ [])) (set kept have b) (have + 1) m) ∙ e in
      rw w (put-nothing out end);
}

-- the line of what the buffer holds of a whole question is the question's
line_kept : (p r q kept : List ℕ) (have : ℕ) → Buffered q kept have → is_whole q ≡ true → line_as_kept p r kept ≡ question_line p r q
unfolding line_as_kept question_line
line_kept p r q kept have h w =
    ap (λ (t : List ℕ). line_of (answer_to p r (nodes_in t) (labels_within t))) (list-kept q kept have h w) ∙ ap line_of (same_answer p r q w)

-- one that does: its line
pub byte-answered : (p r kept : List ℕ) (have b : ℕ) (out : List ℕ) (end : ℕ) (out' : List ℕ) (end' : ℕ)
    → eqb (have + 1) (question_length (set kept have b)) ≡ true → length kept ≡ 197
    → Put out end (line_as_kept p r (set kept have b)) out' end'
    → Advances (question_line p r) (b ∷ []) kept have (set kept have b) 0 out end out' end'
unfolding open_by open_after lines_by line_after
byte-answered p r kept have b out end out' end' e l t = record {
  held = λ q h.
      let m = held_more q kept have b h in
      let w = sym (whole-answer (q ++ (b ∷ [])) (set kept have b) (have + 1) m) ∙ e in
      rw w (held-empty (set kept have b) (length-set kept have b ∙ l));
  text = λ q h.
      let m = held_more q kept have b h in
      let w = sym (whole-answer (q ++ (b ∷ [])) (set kept have b) (have + 1) m) ∙ e in
      let k = line_kept p r (q ++ (b ∷ [])) (set kept have b) (have + 1) m w in
      rw (w, append-nil, ← k) t;
}

pub advances-none : (f : List ℕ → List ℕ) (kept : List ℕ) (have : ℕ) (out : List ℕ) (end : ℕ)
    → Advances f [] kept have kept have out end out end
unfolding open_by lines_by
advances-none f kept have out end = record { held = λ q h. h; text = λ q h. put-nothing out end }

-- c and then b are d
pub advances-then : (f : List ℕ → List ℕ) (c : List ℕ) (b : ℕ) (d kept : List ℕ) (have : ℕ) (kept' : List ℕ) (have' : ℕ) (kept'' : List ℕ)
    (have'' : ℕ) (out : List ℕ) (end : ℕ) (out' : List ℕ) (end' : ℕ) (out'' : List ℕ) (end'' : ℕ)
    → c ++ (b ∷ []) ≡ d → Advances f c kept have kept' have' out end out' end'
    → Advances f (b ∷ []) kept' have' kept'' have'' out' end' out'' end'' → Advances f d kept have kept'' have'' out end out'' end''
advances-then f c b d kept have kept' have' kept'' have'' out end out' end' out'' end'' e A B = record {
  held = λ q h. rw (← e, open-chunks q c (b ∷ [])) (B.held (open_by q c) (A.held q h));
  text = λ q h. rw (← e, lines-chunks f q c (b ∷ [])) (put_then (A.text q h) (B.text (open_by q c) (A.held q h)));
}
