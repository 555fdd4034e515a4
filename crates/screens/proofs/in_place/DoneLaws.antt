-- What the calls on a run of eight structs end in: their promises.
--     not-eight-done, nobody-done    a refusal before any screen: 25, or the target's number
--     screen-done, turn-done         the session's own call on one of the structs, which is stored where it was
--     beyond-screen, to-screen, beyond-deal, deal-none, deal-served    the same by the numbers that the code has
--     no-run-read, no-screen-read, read_done                           Read of one screen
use Prim.Native.Nat.{ℕ, zero, suc, ◌<◌, ◌≤◌}
use mathlib.Core.Path.{◌≡◌, refl, sym, ◌∙◌, ap, subst}
use mathlib.Core.Bool.{Bool, true, false, cond}
use mathlib.Core.List.{List, [], ◌∷◌}
use native.Mathlib.Omega.{arith}
use lib.Dec.{eqb}
use lib.ListN.{length, get_or, set}
use lib.Seq.{get_or-set_same, get_or-set_other}
use borrow.Author.Tests.{eq-eqb, ne_eqb}
use Rattle.formats.specs.Inputs.{Inputs}
use Rattle.model.specs.Calls.{Call, start, cancel, read, advance, Answer, refused, is_refused}
use Rattle.screens.specs.ScreenCalls.{ScreenCall, start_on, cancel_on, read_on, deal, ScreenAnswer, one, answer_in}
use Rattle.screens.specs.ScreenCalls.{Target, nobody}
use Rattle.screens.specs.ScreenCalls.{screen, turn, next_running, deal_target, numbered, target}
use Rattle.screens.specs.ScreenCalls.{found, Another, turn_answer}
use Rattle.screens.proofs.RecordLaws.{refused-is}
use Rattle.screens.proofs.TargetLaws.{number_in, number-out}
use Rattle.screens.proofs.FoundLaws.{found_none, found_turn}
use Rattle.screens.proofs.EightLaws.{answer-turn}
use Rattle.session.specs.declared.state.Session.{Session}
use Rattle.session.specs.Records.{fresh_session}
use Rattle.session.specs.Promises.{CallDone, answer_on}
use Rattle.screens.specs.in_place.OnStructs.{at, runs, runs_in, target_in, answer_of, structs_of, answer_all}
use Rattle.screens.specs.in_place.OnStructs.{structs_all, OwnDone}
use Rattle.screens.specs.in_place.OnStructs.{ScreenDone}
use Rattle.screens.proofs.in_place.BusyLaws.{at-any}
use Rattle.screens.proofs.in_place.FoundLaws.{phases, found-phases}

-- a struct that is stored where it was
set_at : (ss : List Session) (i : ℕ) → set ss i (at ss i) ≡ ss
set_at [] i = refl
set_at (s ∷ ss) zero = refl
set_at (s ∷ ss) (suc i) = ap (λ (l : List Session). s ∷ l) (set_at ss i)

-- ---- by target

pub not-eight-done : (ss : List Session) (c : ScreenCall) → (length ss ≡ 8 → ⊥) → ScreenDone ss c (one (refused 25)) ss
unfolding answer_all structs_all
not-eight-done ss c h =
    let e : eqb (length ss) 8 ≡ false = ne_eqb (length ss) 8 h in record {
      tells = sym (ap (λ (b : Bool). cond b (answer_of ss (target_in ss c)) (one (refused 25))) e);
      leaves = sym (ap (λ (b : Bool). cond b (structs_of ss (target_in ss c)) ss) e);
      unchanged = λ _. refl;
      own = λ l. absurd (h l);
      others = λ l. absurd (h l);
    }

module _ (ss : List Session) (c : ScreenCall) (l : length ss ≡ 8) where
  pub answer-by : (t : Target) → target_in ss c ≡ t → answer_all ss c ≡ answer_of ss t
  unfolding answer_all
  answer-by t e =
      ap (λ (b : Bool). cond b (answer_of ss (target_in ss c)) (one (refused 25))) (eq-eqb (length ss) 8 l)
      ∙ ap (answer_of ss) e

  pub structs-by : (t : Target) → target_in ss c ≡ t → structs_all ss c ≡ structs_of ss t
  unfolding structs_all
  structs-by t e = ap (λ (b : Bool). cond b (structs_of ss (target_in ss c)) ss) (eq-eqb (length ss) 8 l)
      ∙ ap (structs_of ss) e

  pub nobody-done : (n : ℕ) → target_in ss c ≡ nobody n → ScreenDone ss c (one (refused n)) ss
  unfolding answer_of structs_of
  nobody-done n e = record {
    tells = sym (answer-by (nobody n) e);
    leaves = sym (structs-by (nobody n) e);
    unchanged = λ _. refl;
    own = λ _. subst (λ (t : Target). OwnDone ss ss t (answer_in (one (refused n)))) (sym e) tt;
    others = λ _ j h. refl;
  }

  module _ (i : ℕ) (h : i < 8) (s' : Session) where
    stored : at (set ss i s') i ≡ s'
    stored = get_or-set_same ss i s' fresh_session (omega arith)

    other : (j : ℕ) → (i ≡ j → ⊥) → at (set ss i s') j ≡ at ss j
    other j z = get_or-set_other ss i j s' fresh_session (λ e. z (sym e))

    kept : (d : Call) (a : Answer) → CallDone (at ss i) d a s' → is_refused a ≡ true → set ss i s' ≡ ss
    kept d a D e =
        let n = refused-is a e in ap (λ (s : Session). set ss i s) (D.unchanged n.0 n.1) ∙ set_at ss i

    pub screen-done : (d : Call) (a : Answer) → target_in ss c ≡ screen i d → CallDone (at ss i) d a s'
        → ScreenDone ss c (one a) (set ss i s')
    unfolding answer_of structs_of answer_in
    screen-done d a e D = record {
      tells = ap one D.tells ∙ sym (answer-by (screen i d) e);
      leaves = ap (λ (s : Session). set ss i s) D.leaves ∙ sym (structs-by (screen i d) e);
      unchanged = kept d a D;
      own = λ _. subst (λ (t : Target). OwnDone ss (set ss i s') t a) (sym e)
          (subst (λ (s : Session). CallDone (at ss i) d a s) (sym stored) D);
      others = λ _ j z. other j (subst (λ (t : Target). Another t j) e z);
    }

    pub turn-done : (x : Inputs) (a : Answer) (b : ScreenAnswer) → target_in ss c ≡ turn i x
        → CallDone (at ss i) (advance x) a s'
        → b ≡ turn_answer i a → ScreenDone ss c b (set ss i s')
    unfolding answer_of structs_of
    turn-done x a b e D q =
        let w : answer_in b ≡ a = ap answer_in q ∙ answer-turn i a in record {
          tells = q ∙ ap (turn_answer i) D.tells ∙ sym (answer-by (turn i x) e);
          leaves = ap (λ (s : Session). set ss i s) D.leaves ∙ sym (structs-by (turn i x) e);
          unchanged = λ z. kept (advance x) a D (ap is_refused (sym w) ∙ z);
          own = λ _. subst (λ (t : Target). OwnDone ss (set ss i s') t (answer_in b)) (sym e)
              (subst (λ (y : Answer). CallDone (at ss i) (advance x) y (at (set ss i s') i)) (sym w)
              (subst (λ (s : Session). CallDone (at ss i) (advance x) a s) (sym stored) D));
          others = λ _ j z. other j (subst (λ (t : Target). Another t j) e z);
        }

-- ---- by the numbers that the code has: a call on one screen

-- the call of the screens that is d on screen i
abbrev pub Names : List Session → ScreenCall → ℕ → Call → Type 0
Names ss c i d = target_in ss c ≡ numbered i (screen i d)

pub names-start : (ss : List Session) (i : ℕ) (x : Inputs) (vs bs : List ℕ)
    → Names ss (start_on i x vs bs) i (start x vs bs)
unfolding target_in target
names-start ss i x vs bs = refl

pub names-cancel : (ss : List Session) (i : ℕ) → Names ss (cancel_on i) i cancel
unfolding target_in target
names-cancel ss i = refl

names-read : (ss : List Session) (i : ℕ) → Names ss (read_on i) i read
unfolding target_in target
names-read ss i = refl

pub beyond-screen : (ss : List Session) (c : ScreenCall) (i : ℕ) (d : Call) → Names ss c i d → length ss ≡ 8 → 7 < i
    → ScreenDone ss c (one (refused 25)) ss
beyond-screen ss c i d e l h = nobody-done ss c l 25 (e ∙ number-out i (screen i d) h)

-- what is promised of the struct that was read, whatever is read past the run's end
read-at : (P : Session → Type 0) (ss : List Session) (i : ℕ) (u : Session) → length ss ≡ 8 → i ≤ 7 → P (get_or ss i u)
    → P (at ss i)
read-at P ss i u l h p = subst P (at-any ss i u (omega arith)) p

pub to-screen : (ss : List Session) (c : ScreenCall) (i : ℕ) (d : Call) → Names ss c i d
    → (a : Answer) (s' u : Session)
    → length ss ≡ 8 → i ≤ 7
    → CallDone (get_or ss i u) d a s' → ScreenDone ss c (one a) (set ss i s')
to-screen ss c i d e a s' u l h D =
    screen-done ss c l i (omega arith) s' d a (e ∙ number_in i (screen i d) (omega arith))
    (read-at (λ s. CallDone s d a s') ss i u l h D)

-- ---- a deal

pub beyond-deal : (ss : List Session) (k : ℕ) (x : Inputs) → length ss ≡ 8 → 7 < k
    → ScreenDone ss (deal k x) (one (refused 25)) ss
unfolding target_in target
beyond-deal ss k x l h = nobody-done ss (deal k x) l 25 (number-out k (deal_target (next_running (runs ss) k) x) h)

found-is : (ss : List Session) (u : Session) (k f : ℕ) → length ss ≡ 8 → k ≤ 7
    → f ≡ found (runs_in (phases u ss)) k → f ≡ found (runs ss) k
found-is ss u k f l h e = e ∙ found-phases ss u k l (omega arith)

pub deal-none : (ss : List Session) (u : Session) (k f : ℕ) (x : Inputs) → length ss ≡ 8 → k ≤ 7
    → f ≡ found (runs_in (phases u ss)) k → 7 < f
    → ScreenDone ss (deal k x) (one (refused 1)) ss
unfolding target_in
deal-none ss u k f x l h e big =
    nobody-done ss (deal k x) l 1 (found_none (runs ss) k f x (omega arith) (found-is ss u k f l h e) big)

pub deal-served : (ss : List Session) (u : Session) (k f : ℕ) (x : Inputs) (b : ScreenAnswer) (a : Answer)
    (s' v : Session)
    → length ss ≡ 8 → k ≤ 7
    → f ≡ found (runs_in (phases u ss)) k → f ≤ 7 → b ≡ turn_answer f a → CallDone (get_or ss f v) (advance x) a s'
    → ScreenDone ss (deal k x) b (set ss f s')
unfolding target_in
deal-served ss u k f x b a s' v l h e small q D =
    turn-done ss (deal k x) l f (omega arith) s' x a b
    (found_turn (runs ss) k f x (omega arith) (found-is ss u k f l h e) small)
    (read-at (λ s. CallDone s (advance x) a s') ss f v l small D) q

-- ---- Read

pub no-run-read : (ss : List Session) (i : ℕ) → (length ss ≡ 8 → ⊥) → one (refused 25) ≡ answer_all ss (read_on i)
no-run-read ss i h = (not-eight-done ss (read_on i) h).tells

pub no-screen-read : (ss : List Session) (i : ℕ) → length ss ≡ 8 → 7 < i → one (refused 25) ≡ answer_all ss (read_on i)
no-screen-read ss i l h = (beyond-screen ss (read_on i) i read (names-read ss i) l h).tells

pub read_done : (ss : List Session) (i : ℕ) (a : Answer) (u : Session) → length ss ≡ 8 → i ≤ 7
    → a ≡ answer_on (get_or ss i u) read
    → one a ≡ answer_all ss (read_on i)
unfolding answer_of
read_done ss i a u l h e =
    ap one (read-at (λ s. a ≡ answer_on s read) ss i u l h e) ∙ sym (answer-by ss (read_on i) l (screen i read)
    (names-read ss i ∙ number_in i (screen i read) (omega arith)))
