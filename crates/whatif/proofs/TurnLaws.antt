-- The questions from iteration to iteration.
--     Going f stated kept have left sent      their progress: some bytes of them came, the buffer holds what is not yet
--                                             whole, and their lines were handed over
--     going_start, going_on, going-progress   at the start, after one more chunk, and what is promised of it
--     lines-sent                              what is handed over for a chunk
--     chunk-text                              the text of a chunk's lines
--     lines-failed                            what is written of a chunk's lines where a write fails
--     Heard, heard_start, heard_on            as Going, and what was taken from the reader and written
--     heard-said, heard-failed                what was written in all, at the end and where a read or a write fails
use Prim.Native.Nat.{ℕ, zero, suc, ◌+◌, ◌-◌, ◌*◌, ◌≤◌}
use mathlib.Core.Path.{◌≡◌, refl, sym, ap, ◌∙◌, subst}
use mathlib.Core.List.{List, [], ◌++◌, append-nil}
use native.Mathlib.Omega.{arith}
use lib.ListN.{length, take, length-append}
use lib.Seq.{take_all, take_at, take-append-add}
use Rattle.std.specs.declared.option.Option.{Option}
use Rattle.std.specs.declared.option.Option.TheVariants.{None, Some}
use Rattle.std.specs.Option.{IfSome}
use Rattle.std.specs.Io.KnownBytes.{Appends, Consumes, IsAtEnd}
use Rattle.std.proofs.KnownBytes.{Appends-nil, Appends-trans, Consumes-nil, Consumes-trans}
use Rattle.whatif.specs.Stream.{open_by, lines_by, Buffered, Advances}
use Rattle.whatif.specs.Told.{AppendsFront}
use Rattle.whatif.specs.Turns.{Progress, Lines}
use Rattle.whatif.proofs.ToldLaws.{front-within, front-behind}
use Rattle.whatif.proofs.StreamLaws.{held-empty, open-chunks, lines-chunks}

pub record Going (f : List ℕ → List ℕ) (stated : ℕ) (kept : List ℕ) (have left sent : ℕ) : Type 0 where
  pub questions : List ℕ
  pub count : length questions + left ≡ stated
  pub held : Buffered (open_by [] questions) kept have
  pub lines : sent ≡ length (lines_by f [] questions)
  pub have-most : have + left ≤ 4294967295
  pub sent-most : sent + 48 * left ≤ 206158430160

pub going_start : (f : List ℕ → List ℕ) (stated : ℕ) (kept : List ℕ) → length kept ≡ 197 → stated ≤ 4294967295
    → Going f stated kept 0 stated 0
unfolding open_by lines_by
going_start f stated kept e h = record {
  questions = [];
  count = omega arith;
  held = held-empty kept e;
  lines = refl;
  have-most = omega arith;
  sent-most = omega arith;
}

pub going_on : {f : List ℕ → List ℕ} {stated : ℕ} {c kept kept' out out' : List ℕ}
    {have left sent have' left' sent' end : ℕ} (came : ℕ) → Going f stated kept have left sent
    → Advances f c kept have kept' have' out 0 out' end → came ≡ length c → left' + came ≡ left → sent' ≡ sent + end
    → have' ≤ have + came → end ≤ 48 * came → Going f stated kept' have' left' sent'
going_on {f = f} {c = c} came G A n l s h e =
    let q = G.questions in
    let t = A.text (open_by [] q) G.held in
    record {
      questions = q ++ c;
      count = omega (arith, length-append q c, G.count);
      held = rw (open-chunks [] q c) (A.held (open_by [] q) G.held);
      lines =
          let m : length (lines_by f [] (q ++ c)) ≡ length (lines_by f [] q) + length (lines_by f (open_by [] q) c) =
          ap length (lines-chunks f [] q c) ∙ length-append (lines_by f [] q) (lines_by f (open_by [] q) c) in
          omega (arith, m, G.lines, t.end);
      have-most = omega (arith, G.have-most);
      sent-most = omega (arith, G.sent-most);
    }

pub going-progress : {f : List ℕ → List ℕ} {stated : ℕ} {kept : List ℕ} {have left sent : ℕ}
    → Going f stated kept have left sent → (left ≤ stated) × Progress f (stated - left) have sent
going-progress G = (
  omega (arith, G.count),
  record { questions = G.questions; count = omega (arith, G.count); part = G.held.counted; lines = G.lines },
)

-- `before` is a copy of the buffer
pub lines-sent : {f : List ℕ → List ℕ} {c before kept kept' out out' : List ℕ} {have have' end : ℕ} → before ≡ kept
    → Advances f c kept have kept' have' out 0 out' end → Lines f c before have kept' have' (take end out')
lines-sent {have} e A = record {
  held = λ q h. A.held q (subst (λ (b : List ℕ). Buffered q b have) e h);
  text = λ q h. (A.text q (subst (λ (b : List ℕ). Buffered q b have) e h)).text;
}

pub chunk-text : {f : List ℕ → List ℕ} {c kept kept' out out' : List ℕ} {have have' end : ℕ} (q : List ℕ)
    → Advances f c kept have kept' have' out 0 out' end → Buffered q kept have → take end out' ≡ lines_by f q c
chunk-text q A h = (A.text q h).text

-- the front of a text that starts with what was consumed
take-consumed : (c w : List ℕ) (n : ℕ) → length c ≤ n → take n (c ++ w) ≡ c ++ take (n - length c) w
take-consumed c w n h =
    let e : length c + (n - length c) ≡ n = omega arith in
    ap (λ (k : ℕ). take k (c ++ w)) (sym e) ∙ take-append-add c w (n - length c)

pub lines-failed : (f : List ℕ → List ℕ) (known rest a b : Option (List ℕ)) (q c : List ℕ) (left k : ℕ) → length c ≤ left
    → Consumes known rest c → Appends a b (take k (lines_by f q c)) → IfSome known (λ w. AppendsFront a b (lines_by f q (take left w)))
lines-failed f None rest a b q c left k l h g = tt
lines-failed f (Some w) None a b q c left k l h g = absurd h
lines-failed f (Some w) (Some r) a b q c left k l h g =
    let e : lines_by f q c ++ lines_by f (open_by q c) (take (left - length c) r) ≡ lines_by f q (take left w) =
    sym (ap (λ (x : List ℕ). lines_by f q (take left x)) h ∙ (ap (lines_by f q) (take-consumed c r left l)
    ∙ lines-chunks f q c (take (left - length c) r))) in
    subst (AppendsFront a b) e (front-within a b k (lines_by f q c) _ g)

-- r is what the reader had at first and r' what it has now, a and b what the writer held and holds
pub record Heard (f : List ℕ → List ℕ) (r r' a b : Option (List ℕ)) (stated : ℕ) (kept : List ℕ) (have left sent : ℕ) : Type 0 where
  pub going : Going f stated kept have left sent
  pub taken : Consumes r r' going.questions
  pub written : Appends a b (lines_by f [] going.questions)

pub heard_start : (f : List ℕ → List ℕ) (r a : Option (List ℕ)) (stated : ℕ) (kept : List ℕ) → length kept ≡ 197 → stated ≤ 4294967295
    → Heard f r r a a stated kept 0 stated 0
unfolding going_start lines_by
heard_start f r a stated kept e h = record { going = going_start f stated kept e h; taken = Consumes-nil r; written = Appends-nil a }

pub heard_on : {f : List ℕ → List ℕ} {r r' r'' a b b' : Option (List ℕ)} {stated : ℕ} {c kept kept' out out' : List ℕ}
    {have left sent have' left' sent' end : ℕ} (came : ℕ) → Heard f r r' a b stated kept have left sent
    → Advances f c kept have kept' have' out 0 out' end → came ≡ length c → left' + came ≡ left → sent' ≡ sent + end
    → have' ≤ have + came → end ≤ 48 * came → Consumes r' r'' c → Appends b b' (take end out')
    → Heard f r r'' a b' stated kept' have' left' sent'
unfolding going_on
heard_on {f = f} {r} {r'} {r''} {a} {b} {b'} {c = c} came H A n l s h e t w =
    let q = H.going.questions in
    let i : lines_by f [] q ++ lines_by f (open_by [] q) c ≡ lines_by f [] (q ++ c) = sym (lines-chunks f [] q c) in
    record {
      going = going_on came H.going A n l s h e;
      taken = Consumes-trans r r' r'' q c H.taken t;
      written =
          subst (Appends a b') i (Appends-trans a b b' _ _ H.written (subst (Appends b b') (chunk-text (open_by [] q) A H.going.held) w));
    }

-- all that was stated came, or all that there was
pub heard-said : {f : List ℕ → List ℕ} (r r' a b : Option (List ℕ)) {stated : ℕ} {kept : List ℕ} {have left sent : ℕ}
    → Heard f r r' a b stated kept have left sent → (1 ≤ left → IsAtEnd r') → IfSome r (λ w. Appends a b (lines_by f [] (take stated w)))
heard-said {f} None r' a b H e = tt
heard-said {f} (Some w) None a b H e = absurd H.taken
heard-said {f} (Some w) (Some w') a b {stated} {left = left} H e =
    let q = H.going.questions in
    let s : take stated w ≡ q = ap (take stated) H.taken ∙ go left H.going.count e in
    subst (λ (x : List ℕ). Appends a b (lines_by f [] x)) (sym s) H.written
  where
    go : (n : ℕ) → length H.going.questions + n ≡ stated → (1 ≤ n → w' ≡ []) → take stated (H.going.questions ++ w') ≡ H.going.questions
    go zero c g = take_at H.going.questions w' stated (omega arith)
    go (suc n) c g =
        ap (λ (x : List ℕ). take stated (H.going.questions ++ x)) (g (omega arith))
        ∙ (ap (take stated) (append-nil H.going.questions) ∙ take_all stated H.going.questions (omega arith))

-- what is written of the next lines, c, is a front of those of what is still to come
pub heard-failed : {f : List ℕ → List ℕ} (r r' a b c : Option (List ℕ)) {stated : ℕ} {kept : List ℕ} {have left sent : ℕ}
    → Heard f r r' a b stated kept have left sent
    → ((q : List ℕ) → Buffered q kept have → IfSome r' (λ w. AppendsFront b c (lines_by f q (take left w))))
    → IfSome r (λ w. AppendsFront a c (lines_by f [] (take stated w)))
heard-failed {f} None r' a b c H g = tt
heard-failed {f} (Some w) None a b c H g = absurd H.taken
heard-failed {f} (Some w) (Some w') a b c {stated} {left = left} H g =
    let q = H.going.questions in
    let m : stated - length q ≡ left = omega (arith, H.going.count) in
    let e : lines_by f [] q ++ lines_by f (open_by [] q) (take left w') ≡ lines_by f [] (take stated w) =
    sym (ap (λ (x : List ℕ). lines_by f [] (take stated x)) H.taken
    ∙ (ap (lines_by f []) (take-consumed q w' stated (omega (arith, H.going.count)) ∙ ap (λ (n : ℕ). q ++ take n w') m)
    ∙ lines-chunks f [] q (take left w'))) in
    let k = g (open_by [] q) H.going.held in
    subst (AppendsFront a c) e (front-behind a b c k.0 (lines_by f [] q) (lines_by f (open_by [] q) (take left w')) H.written k.1)
