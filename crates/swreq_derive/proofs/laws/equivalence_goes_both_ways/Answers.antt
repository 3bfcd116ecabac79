use Rattle.swreq_derive.proofs.laws.equivalence_goes_both_ways.Goals as goal

pub returns : goal.returns
returns c = record {
  reflexive = λ f gs rs st. ((λ d. d), λ d. d);
  symmetric = λ f gs rs qs h st. ((h st).1, (h st).0);
  transitive = λ f gs rs qs ps h k st. ((λ d. (k st).0 ((h st).0 d)), λ d. (h st).1 ((k st).1 d));
}
