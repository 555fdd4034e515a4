-- What a struct's types say, from what the prover knows of every struct that code holds.
use native.Mathlib.Omega.{arith}
use lib.ListN.{get_or}
use denote.Laws.{Is}
use denote.Struct.Laws as S
use mir.Syntax.{w8, w16}
use mir.Val.{Fits}
use borrow.Author.Rules.{rules}
use Rattle.session.specs.declared.state.Session.{Session}
use Rattle.session.specs.contracts.state.Session as T
use Rattle.session.proofs.state.Session.TheLaws as T'
use Rattle.records.specs.Layout.{InTypes}

pub in-types : (s : Session) → Is T.the_row s (S.vals T.the_type T'.the_laws s) → InTypes s
in-types s g = record {
  n_fits = search rules;
  s_fits = search rules;
  k_fits = search rules;
  m_fits = search rules;
  parts_fit = search rules;
  handled_fits = search rules;
  links_fit = search rules;
  passed_fits = search rules;
  last_state_fits = search rules;
  last_parts_fit = search rules;
  last_links_fit = search rules;
  last_passed_fits = search rules;
  nodes_length = search rules;
  labels_length = search rules;
  roots_length = search rules;
  states_length = search rules;
  nodes_fit = λ i. let e : Fits w16 (get_or s.nodes i 0) = search rules in omega arith;
  labels_fit = λ i. let e : Fits w8 (get_or s.labels i 0) = search rules in omega arith;
  roots_fit = λ i. let e : Fits w16 (get_or s.roots i 0) = search rules in omega arith;
  states_fit = λ i. let e : Fits w8 (get_or s.states i 0) = search rules in omega arith;
}
