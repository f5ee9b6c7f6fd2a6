-- What holds at each height.
use Rattle.std.proofs.Common.{zero, suc, [], inl}
use Rattle.pv_heights.specs.Systems.{System, Joined, given, same, flip, chain, kids, Relation, Subset}
use Rattle.pv_heights.specs.Closing.{IsClosedUnder}
use Rattle.pv_heights.specs.Terms.{terms}
use Rattle.pv_heights.specs.Heights.{NextMember, NextGiven, FirstMember, Nothing, height}
use Rattle.pv_heights.specs.Laws.{HeightsHold}
use Rattle.pv_heights.proofs.Zips.{zip_get, zip_length}
use Rattle.pv_heights.proofs.Nest.{close-induction}

closed_under : (S : System) (C : Subset S) (K : Relation S) → IsClosedUnder S C [] (Joined S C [] K []) (Joined S C [] K [])
closed_under S C K = record {
  given = λ a b j. j;
  same = λ a c. same [] a c;
  flip = λ a b j. flip [] a b j;
  chain = λ a b c j k. chain [] a b c j k;
  kids = λ a b o ks ls p q h k l z. kids [] a b o ks ls p q h k l (zip_length (Joined S C [] K []) ks ls z) (λ j u v e f. zip_get (Joined S C [] K []) ks ls z j u v e f);
}

pub heights_hold : HeightsHold
unfolding height
heights_hold view assumed table zero = record {
  closed = closed_under (terms view) (FirstMember view) Nothing;
  induction = λ d pairs i a b m. close-induction (terms view) (FirstMember view) [] Nothing d pairs i a b m;
  terms_ = λ t c. inl c;
  joins = λ a b j. given [] a b (inl j);
}
heights_hold view assumed table (suc k) = record {
  closed = closed_under (terms view) (NextMember view assumed table (height view assumed table k)) (NextGiven view assumed table (height view assumed table k));
  induction = λ d pairs i a b m. close-induction (terms view) (NextMember view assumed table (height view assumed table k)) [] (NextGiven view assumed table (height view assumed table k)) d pairs i a b m;
  terms_ = λ t c. inl c;
  joins = λ a b j. given [] a b (inl j);
}
