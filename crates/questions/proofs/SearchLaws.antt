-- The search for a node, in any forest and for any test `stop`.
--     Taken, taken                      what an accepted move is: it stays inside the forest and rises
--     search-here, search-onward        the equations without a count
--     search-move, search-stuck         the same by the next move
--     search-stops, search-inside       what is found passes the test and is inside the forest
use Rattle.std.proofs.Common.{◌≡◌, ℕ, zero, suc, ◌<◌, ◌≤◌, Bool, true, false, cond, ◌&&◌, ltb, sym, refl, ap, ◌∙◌, subst, le_refl, arith, ltb-true}
use mathlib.Core.Option.{Option, none, some, some-injective}
use Rattle.trees.specs.Climb.{Forest, Move, via_jump, to_parent, target, rising, and_then}
use Rattle.trees.proofs.MoveLaws.{none-some, cond-some, both}
use Rattle.list_laws.proofs.Choice.{by-test}
use Rattle.questions.specs.Search.{next_unless, search_in, search}

onward : (o : Option Move) (c d : Move → Option ℕ) → ((m : Move) → o ≡ some m → c m ≡ d m) → and_then o c ≡ and_then o d
onward none c d h = refl
onward (some m) c d h = h m refl

nowhere : (o : Option Move) (c : Move → Option ℕ) → ((m : Move) → o ≡ some m → ⊥) → and_then o c ≡ none
nowhere none c h = refl
nowhere (some m) c h = absurd (h m refl)

module _ (F : Forest) (stop : ℕ → Bool) where
  -- ---- one move

  abbrev pub unless : ℕ → Move
  unless v = cond (stop (F.jump v)) (to_parent v) (via_jump v)

  pub record Taken (v : ℕ) (m : Move) : Type 0 where
    pub inside : target F m < F.nodes
    pub rises : F.depth (target F m) < F.depth v

  pub taken : (v : ℕ) (m : Move) → next_unless F stop v ≡ some m → Taken v m
  unfolding next_unless
  taken v m h =
      let c : Move = unless v in
      let one = cond-some (ltb (F.jump v) F.nodes) (rising F v (unless v)) h in
      let two = cond-some (ltb (target F c) F.nodes && ltb (F.depth (target F c)) (F.depth v)) (some c) one.1 in
      let e : c ≡ m = some-injective c m two.1 in
      let three = both (ltb (target F c) F.nodes) (ltb (F.depth (target F c)) (F.depth v)) two.0 in
      record {
        inside = subst (λ (x : Move). target F x < F.nodes) e (ltb-true (target F c) F.nodes three.0);
        rises = subst (λ (x : Move). F.depth (target F x) < F.depth v) e
            (ltb-true (F.depth (target F c)) (F.depth v) three.1);
      }

  -- ---- the equations without a count

  in-here : (f v : ℕ) → stop v ≡ true → search_in f F stop v ≡ some v
  unfolding search_in
  in-here zero v h = rw h
  in-here (suc f) v h = rw h

  in_end : (v : ℕ) → stop v ≡ false → search_in zero F stop v ≡ none
  unfolding search_in
  in_end v h = rw h

  in-more : (f v : ℕ) → stop v ≡ false
      → search_in (suc f) F stop v ≡ and_then (next_unless F stop v) (λ m. search_in f F stop (target F m))
  unfolding search_in
  in-more f v h = rw h

  -- from depth 0 there is no move
  in_top : (f v : ℕ) → F.depth v ≤ 0 → stop v ≡ false → search_in f F stop v ≡ none
  in_top zero v l h = in_end v h
  in_top (suc f) v l h =
      in-more f v h ∙ nowhere (next_unless F stop v) (λ m. search_in f F stop (target F m))
      (λ m e. omega (arith, (taken v m e).rises))

  decided : (v : ℕ) {X : Type 0} → (stop v ≡ true → X) → (stop v ≡ false → X) → X
  decided v {X} f g = by-test (λ (x : Unit {0}). X) {x = tt} {y = tt} (stop v) f g

  -- any count that is large enough gives the same
  same : (f g v : ℕ) → F.depth v ≤ f → F.depth v ≤ g → search_in f F stop v ≡ search_in g F stop v
  same zero g v h l =
      decided v (λ s. in-here zero v s ∙ sym (in-here g v s)) (λ s. in_end v s ∙ sym (in_top g v h s))
  same (suc f) zero v h l =
      decided v (λ s. in-here (suc f) v s ∙ sym (in-here zero v s)) (λ s. in_top (suc f) v l s ∙ sym (in_end v s))
  same (suc f) (suc g) v h l =
      decided v (λ s. in-here (suc f) v s ∙ sym (in-here (suc g) v s))
      (λ s. in-more f v s
      ∙ onward (next_unless F stop v) (λ m. search_in f F stop (target F m)) (λ m. search_in g F stop (target F m))
      (λ m e. same f g (target F m) (omega (arith, (taken v m e).rises)) (omega (arith, (taken v m e).rises)))
      ∙ sym (in-more g v s))

  pub search-here : (v : ℕ) → stop v ≡ true → search F stop v ≡ some v
  unfolding search
  search-here v h = in-here (F.depth v) v h

  pub search-onward : (v : ℕ) → stop v ≡ false
      → search F stop v ≡ and_then (next_unless F stop v) (λ m. search F stop (target F m))
  unfolding search
  search-onward v h =
      let s : search_in (F.depth v) F stop v ≡ search_in (suc (F.depth v)) F stop v =
      same (F.depth v) (suc (F.depth v)) v (le_refl _) (omega arith) in
      s ∙ in-more (F.depth v) v h
      ∙ onward (next_unless F stop v) (λ m. search_in (F.depth v) F stop (target F m))
      (λ m. search_in (F.depth (target F m)) F stop (target F m))
      (λ m e. same (F.depth v) (F.depth (target F m)) (target F m) (omega (arith, (taken v m e).rises)) (le_refl _))

  pub search-move : (v : ℕ) (m : Move) → stop v ≡ false → next_unless F stop v ≡ some m
      → search F stop v ≡ search F stop (target F m)
  search-move v m h e =
      search-onward v h ∙ ap (λ (o : Option Move). and_then o (λ m. search F stop (target F m))) e

  pub search-stuck : (v : ℕ) → stop v ≡ false → next_unless F stop v ≡ none → search F stop v ≡ none
  search-stuck v h e = search-onward v h ∙ ap (λ (o : Option Move). and_then o (λ m. search F stop (target F m))) e

  -- ---- what is found

  in-found : (f v x : ℕ) → v < F.nodes → search_in f F stop v ≡ some x → (x < F.nodes) × (stop x ≡ true)
  in-found zero v x h e =
      decided v
      (λ s. let q : v ≡ x = some-injective v x (sym (in-here zero v s) ∙ e) in
      (omega arith, ap stop (sym q) ∙ s))
      (λ s. absurd (none-some (sym (in_end v s) ∙ e)))
  in-found (suc f) v x h e =
      decided v
      (λ s. let q : v ≡ x = some-injective v x (sym (in-here (suc f) v s) ∙ e) in
      (omega arith, ap stop (sym q) ∙ s))
      (λ s. after (next_unless F stop v) (λ m. search_in f F stop (target F m))
      (λ m d q. in-found f (target F m) x (taken v m d).inside q) (sym (in-more f v s) ∙ e))
    where
      after : (o : Option Move) (c : Move → Option ℕ)
          → ((m : Move) → o ≡ some m → c m ≡ some x → (x < F.nodes) × (stop x ≡ true))
          → and_then o c ≡ some x → (x < F.nodes) × (stop x ≡ true)
      after none c k q = absurd (none-some q)
      after (some m) c k q = k m refl q

  pub search-inside : (v x : ℕ) → v < F.nodes → search F stop v ≡ some x → x < F.nodes
  unfolding search
  search-inside v x h e = (in-found (F.depth v) v x h e).0

  pub search-stops : (v x : ℕ) → v < F.nodes → search F stop v ≡ some x → stop x ≡ true
  unfolding search
  search-stops v x h e = (in-found (F.depth v) v x h e).1
