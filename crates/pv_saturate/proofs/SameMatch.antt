-- What is decoded is the match that is shown.
use Rattle.std.proofs.Common.{◌≡◌, ℕ, ◌-◌, ◌≤◌, List, [], length, take, drop, slice_get, flat_map, sym, ap, ◌∙◌, subst, arith, length-append}
use Rattle.std.proofs.lemmas.List.{take_at, drop_at}
use Rattle.std.proofs.lemmas.Option.{same_Some}
use Rattle.pv_graph.specs.Walks.{In}
use Rattle.pv_pattern.specs.declared.names.NameId.{NameId}
use Rattle.pv_pattern.specs.Patterns.{Axiom, variables}
use Rattle.pv_pattern.specs.Binding.{names}
use Rattle.pv_axioms.specs.Entries.{NumbersOnce}
use Rattle.pv_heights.specs.Filled.{Params, named}
use Rattle.pv_heights.specs.Matches.{AgreeOn}
use Rattle.pv_heights.specs.Sides.{Match}
use Rattle.pv_match.specs.declared.found.Match as found
use Rattle.pv_match.specs.Parameters.{name_params, once_more}
use Rattle.pv_match.specs.Reading.{AreReadable}
use Rattle.pv_saturate.specs.Told.{family_in, HasOwn, AreTold}
use Rattle.pv_saturate.specs.Decoding.{IsShown, ShowsMatch, IsSameMatch}
use Rattle.pv_saturate.proofs.Lists.{in_get}
use Rattle.pv_saturate.proofs.Naming.{all_names, names_own}

one_axiom : (table : List Axiom) → NumbersOnce table → (a b : Axiom) → In table a → In table b → a.number ≡ b.number → a ≡ b
one_axiom table once a b i k e =
    let x = in_get table a i in
    let y = in_get table b k in
    same_Some a b (sym x.1 ∙ ap (slice_get table) (once x.0 y.0 a b x.1 y.1 e) ∙ y.1)

module _ (table : List Axiom) (x : found.Match) (once : NumbersOnce table) (a : Axiom) (there : In table a) (number : a.number ≡ x.axiom) where
  shown_entry : (h : Match ℕ) → IsShown table x h → h.entry ≡ a
  shown_entry h s = one_axiom table once h.entry a s.is.of_table there (sym s.shows.number ∙ sym number)

  -- there are classes for all variables
  pub enough_classes : ShowsMatch table x → variables a.left ≤ length x.classes.items
  enough_classes s =
      let long = s.1.is.long ∙ ap (λ (e : Axiom). variables e.left) (shown_entry s.0 s.1) in
      let all = ap length s.1.shows.classes ∙ length-append s.0.kids s.0.vars in
      omega (arith, long, all)

  module _ (p : Params) (kids vars : List ℕ) (readable : AreReadable table) (told : AreTold (family_in 0 a.left) (once_more [] (names a.left)) x.params.items p)
      (first : kids ≡ take (length x.classes.items - variables a.left) x.classes.items) (last : vars ≡ drop (length x.classes.items - variables a.left) x.classes.items) (h : Match ℕ) (s : IsShown table x h) where
    same_params : (i : NameId) → In (names h.entry.left) i → AgreeOn h.params p i
    same_params i k =
        let e = shown_entry h s in
        let own : (j : NameId) → In (once_more [] (names a.left)) j → HasOwn h.params (family_in 0 a.left) j =
        λ j v. subst (λ (b : Axiom). HasOwn h.params (family_in 0 b.left) j) e (names_own s.view s.assumed table s.graph s.numbers h s.is (readable h.entry s.is.of_table) j ((all_names (names h.entry.left) j).0 (subst (λ (b : Axiom). In (once_more [] (names b.left)) j) (sym e) v))) in
        let list : flat_map (name_params (named h.params)) (once_more [] (names a.left)) ≡ x.params.items = ap (λ (b : Axiom). flat_map (name_params (named h.params)) (once_more [] (names b.left))) (sym e) ∙ sym s.shows.params in
        told.all h.params own list i ((all_names (names a.left) i).1 (subst (λ (b : Axiom). In (names b.left) i) e k))

    cut : length h.kids ≡ length x.classes.items - variables a.left
    cut =
        let long = s.is.long ∙ ap (λ (e : Axiom). variables e.left) (shown_entry h s) in
        let all = ap length s.shows.classes ∙ length-append h.kids h.vars in
        omega (arith, long, all)

    pub same_match : IsSameMatch h (record { entry = a; params = p; kids = kids; vars = vars })
    same_match =
        let n : ℕ = length x.classes.items - variables a.left in
        record {
          entry = shown_entry h s;
          params = same_params;
          kids = sym (first ∙ (ap (take n) s.shows.classes ∙ take_at h.kids h.vars n cut));
          vars = sym (last ∙ (ap (drop n) s.shows.classes ∙ drop_at h.kids h.vars n cut));
        }
