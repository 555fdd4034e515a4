-- What is found stays in front of what is found later.
--     front_self, front-on    of itself, and of what has it in front
--     front_same              of what is the same
--     front-found             of what a line at either side of others adds
--     front-searched          of what the whole search finds
use Prim.Native.Nat.{ℕ, zero, suc}
use mathlib.Core.Path.{◌≡◌, refl, sym, ap, ◌∙◌, subst}
use mathlib.Core.Bool.{Bool, true, false, cond}
use mathlib.Core.List.{List, [], ◌∷◌, ◌++◌, append_assoc, append-nil}
use lib.Dec.{eqb, ltb}
use lib.ListN.{length, get_or}
use Rattle.products.specs.agreement.Lines.{Line, inner_line}
use Rattle.products.specs.agreement.Search.{Found, with_line, added, state_at, over_labels, both_orders, over_found, searched}
use Rattle.products.specs.agreement.reachable.SearchRecord.{Front}

pub front_self : (F : Found) → Front F F
front_self F = record {
  later_lines = [];
  later_states = [];
  lines = sym (append-nil F.lines);
  states = sym (append-nil F.states);
}

pub front_same : {F G : Found} → F ≡ G → Front F G
front_same {F} e = subst (Front F) e (front_self F)

pub front-on : {F G H : Found} → Front F G → Front G H → Front F H
front-on {F} f g = record {
  later_lines = f.later_lines ++ g.later_lines;
  later_states = f.later_states ++ g.later_states;
  lines = g.lines ∙ ap (λ (l : List Line). l ++ g.later_lines) f.lines
      ∙ append_assoc F.lines f.later_lines g.later_lines;
  states = g.states ∙ ap (λ (l : List ℕ). l ++ g.later_states) f.states
      ∙ append_assoc F.states f.later_states g.later_states;
}

front-added : (x : Line) (c : ℕ) (F : Found) → Front F (added x c F)
unfolding added
front-added x c F = go (eqb (get_or F.seen c 0) 0)
  where
    go : (b : Bool) → Front F (cond b (with_line x c F) F)
    go true = record { later_lines = x ∷ []; later_states = c ∷ []; lines = refl; states = refl }
    go false = front_self F

module _ (δ : ℕ → ℕ → ℕ → ℕ) where
  front-labels : (i j p q a r : ℕ) (F : Found) → Front F (over_labels δ i j p q a r F)
  unfolding over_labels
  front-labels i j p q a zero F = front_self F
  front-labels i j p q a (suc r) F =
      front-on (front-added (inner_line a i j) (δ p a q) F)
      (front-labels i j p q (suc a) r (added (inner_line a i j) (δ p a q) F))

  front-both : (k n j : ℕ) (F : Found) → Front F (both_orders δ k n j F)
  unfolding both_orders
  front-both k n j F =
      let G : Found = over_labels δ n j (state_at F n) (state_at F j) 0 k F in
      front-on (front-labels n j (state_at F n) (state_at F j) 0 k F)
      (front-labels j n (state_at F j) (state_at F n) 0 k G)

  pub front-found : (k n j r : ℕ) (F : Found) → Front F (over_found δ k n j r F)
  unfolding over_found
  front-found k n j zero F = front_self F
  front-found k n j (suc r) F = front-on (front-both k n j F) (front-found k n (suc j) r (both_orders δ k n j F))

  pub front-searched : (k f n : ℕ) (F : Found) → Front F (searched δ k f n F)
  unfolding searched
  front-searched k zero n F = front_self F
  front-searched k (suc f) n F =
      go (ltb n (length F.lines))
      (front-on (front-found k n 0 (suc n) F) (front-searched k f (suc n) (over_found δ k n 0 (suc n) F)))
    where
      go : (b : Bool) → Front F (searched δ k f (suc n) (over_found δ k n 0 (suc n) F))
          → Front F (cond b (searched δ k f (suc n) (over_found δ k n 0 (suc n) F)) F)
      go true h = h
      go false h = front_self F
