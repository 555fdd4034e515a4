-- Deals one after the other, and a life of eight screens from its calls' promises.
use Prim.Native.Nat.{ℕ, suc, ◌≤◌}
use mathlib.Core.Path.{◌≡◌, sym, ap, ap₂, ◌∙◌}
use mathlib.Core.List.{List}
use native.Mathlib.Omega.{arith}
use lib.ListN.{replicate}
use Rattle.formats.specs.Inputs.{Inputs}
use Rattle.screens.specs.ScreenCalls.{ScreenAnswer, one, answer_in, start_on, cancel_on, read_on, deal}
use Rattle.screens.specs.in_place.OnStructs.{deal_answer, answer_all, structs_all, ScreenDone}
use Rattle.std.specs.Prelude.{Result, Ok, Err}
use Rattle.formats.specs.declared.refusals.Refusal.{Refusal}
use Rattle.screens.specs.declared.in_place.Dealt.{Dealt as Told}
use Rattle.session.specs.declared.state.Session.{Session}
use Rattle.session.specs.declared.answers.Outcome.{Outcome}
use Rattle.session.specs.Answers.{call_answer, start_answer, read_answer}
use Rattle.probes.specs.declared.eight.StartedOn.{StartedOn}
use Rattle.probes.specs.declared.eight.CalledOn.{CalledOn}
use Rattle.probes.specs.declared.eight.DealtOn.{DealtOn}
use Rattle.probes.specs.declared.eight.Dealt.{Dealt}
use Rattle.probes.specs.declared.eight.Eight.{Eight}
use Rattle.probes.specs.declared.whole.Question.{Question}
use Rattle.probes.specs.Probed.{parts_in, call_number, read_in}
use Rattle.probes.specs.EightProbed.{next_in, dealt_all, dealt_next, both_started, parts_on, eight_from, eight_in}

-- the screen to try first, by the answer
module _ (a : Result Told Refusal) (k : ℕ) where
  pub next-told : (d : Told) → a ≡ Ok d → d.next ≡ next_in (deal_answer a) k
  unfolding next_in deal_answer
  next-told d e = sym (ap (λ (x : Result Told Refusal). next_in (deal_answer x) k) e)

  pub next-refused : (r : Refusal) → a ≡ Err r → k ≡ next_in (deal_answer a) k
  unfolding next_in deal_answer
  next-refused r e = sym (ap (λ (x : Result Told Refusal). next_in (deal_answer x) k) e)

-- one deal more
module _ (x : Inputs) (u : List Session) (at left : ℕ) where
  module _ (o : DealtOn) (n next : ℕ) (one_less : suc next ≡ left) (D : ScreenDone u (deal at x) (deal_answer o.answer) o.all)
      (e : n ≡ next_in (deal_answer o.answer) at) where
    tried : n ≡ next_in (answer_all u (deal at x)) at
    tried = e ∙ ap (λ (a : ScreenAnswer). next_in a at) D.tells

    pub dealt-once : dealt_all next x n o.all ≡ dealt_all left x at u
    unfolding dealt_all
    dealt-once = ap₂ (dealt_all next x) tried D.leaves ∙ ap (λ (i : ℕ). dealt_all i x at u) one_less

    pub next-once : dealt_next next x n o.all ≡ dealt_next left x at u
    unfolding dealt_next
    next-once = ap₂ (dealt_next next x) tried D.leaves ∙ ap (λ (i : ℕ). dealt_next i x at u) one_less

  module _ (none : left ≤ 0) where
    zero_left : 0 ≡ left
    zero_left = omega arith

    pub all-dealt : u ≡ dealt_all left x at u
    unfolding dealt_all
    all-dealt = ap (λ (i : ℕ). dealt_all i x at u) zero_left

    pub next-dealt : at ≡ dealt_next left x at u
    unfolding dealt_next
    next-dealt = ap (λ (i : ℕ). dealt_next i x at u) zero_left

-- the whole
module _ (x : Inputs) (vs bs : List ℕ) (i j k c : ℕ) (s : Session)
    (p : StartedOn) (P : ScreenDone (replicate 8 s) (start_on i x vs bs) (one (start_answer p.answer)) p.all)
    (q : StartedOn) (Q : ScreenDone p.all (start_on j x vs bs) (one (start_answer q.answer)) q.all)
    (d : Dealt) (D : d.all ≡ dealt_all c x k q.all) (N : d.next ≡ dealt_next c x k q.all)
    (e : CalledOn) (E : ScreenDone d.all (cancel_on j) (one (call_answer e.answer)) e.all)
    (a : Result Outcome Refusal) (R : one (read_answer a) ≡ answer_all e.all (read_on i)) where
  abbrev ss : List Session
  ss = replicate 8 s

  running-is : q.all ≡ both_started x vs bs i j ss
  unfolding both_started
  running-is = Q.leaves ∙ ap (λ (ts : List Session). structs_all ts (start_on j x vs bs)) P.leaves

  dealt-is : d.all ≡ dealt_all c x k (both_started x vs bs i j ss)
  dealt-is = D ∙ ap (dealt_all c x k) running-is

  pub eight-answer : (m n o : ℕ) (r : Question) → m ≡ parts_in (start_answer p.answer) → n ≡ parts_in (start_answer q.answer)
      → o ≡ call_number (call_answer e.answer) → r ≡ read_in (read_answer a)
      → ◌≡◌ {A = Eight} (record { parts = m; others = n; next = d.next; cancel = o; read = r }) (eight_in x vs bs i j k c s)
  unfolding eight_in eight_from parts_on answer_in
  eight-answer m n o r f g h w =
      rw (
        f ∙ ap (λ (z : ScreenAnswer). parts_in (answer_in z)) P.tells,
        g ∙ ap (λ (z : ScreenAnswer). parts_in (answer_in z))
            (Q.tells ∙ ap (λ (ts : List Session). answer_all ts (start_on j x vs bs)) P.leaves),
        N ∙ ap (dealt_next c x k) running-is,
        h ∙ ap (λ (z : ScreenAnswer). call_number (answer_in z))
            (E.tells ∙ ap (λ (ts : List Session). answer_all ts (cancel_on j)) dealt-is),
        w ∙ ap (λ (z : ScreenAnswer). read_in (answer_in z))
            (R ∙ ap (λ (ts : List Session). answer_all ts (read_on i))
            (E.leaves ∙ ap (λ (ts : List Session). structs_all ts (cancel_on j)) dealt-is)),
      )
