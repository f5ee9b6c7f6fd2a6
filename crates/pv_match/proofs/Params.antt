-- The parameters of a name that a node shows.
use Rattle.std.specs.Prelude.{◌≡◌, ℕ, pos, List, [], ◌∷◌, ◌++◌, map, Some, refl}
use Rattle.std.proofs.Common.{sym, ap, ◌∙◌, subst}
use Rattle.std.proofs.lemmas.Option.{same_Some}
use Rattle.pv_value.specs.declared.heap.Kind as kinds
use Rattle.pv_value.specs.declared.heap.Kind.TheVariants as kind
use Rattle.pv_value.specs.declared.name.Sym.{Sym}
use Rattle.pv_value.specs.declared.number.Num.{Num}
use Rattle.pv_value.specs.declared.number.Num.TheVariants as num
use Rattle.pv_graph.specs.declared.node.Op.{Op}
use Rattle.pv_graph.specs.declared.node.Op.TheVariants as op
use Rattle.pv_graph.specs.Forms.{form}
use Rattle.pv_graph.specs.Graphs.{Graph, form_at}
use Rattle.pv_pattern.specs.declared.names.NameId.{NameId}
use Rattle.pv_pattern.specs.declared.names.NameId.TheVariants.{Depth, Symbol, Kind, Constant, Operation}
use Rattle.pv_pattern.specs.Instances.{Names, constant_of}
use Rattle.pv_pattern.specs.Found.{empty_symbol}
use Rattle.pv_marks.specs.Classes.{class_of}
use Rattle.pv_match.specs.declared.found.Param.{Param}
use Rattle.pv_match.specs.declared.found.Param.TheVariants as param
use Rattle.pv_match.specs.Parameters.{name_params, number_param, params_in}
use Rattle.pv_match.specs.Bindings.{depth_in, symbol_in, kind_in, named, IsNamed, ShowsAt}
use Rattle.pv_match.specs.Finishing.{AddsParams}

some_is : {A : Type 0} {a b : A} → Some a ≡ Some b → a ≡ b
some_is {A} {a} {b} e = same_Some a b e

abbrev nothing : Names
nothing = record { depth = 0; symbols = λ s. empty_symbol; kinds = λ k. kind.Int; constants = λ j. num.Int (pos 0); op_ = op.Unit; kids = []; vars = [] }

module _ (g : Graph) (numbers : List ℕ) (old new : List Param) (n : ℕ) (o : Op) (ks : List ℕ) (at : form_at g.nodes n ≡ Some (form o ks)) where
  pub shown_of : (name : NameId) (m : Names) → ShowsAt g numbers m name n → IsNamed m name o (map (class_of numbers) ks)
  shown_of name m s =
      let same : Some (form s.0 s.1) ≡ Some (form o ks) = sym s.2 ∙ at in
      let ops : s.0 ≡ o = cc in
      let kids : s.1 ≡ ks = cc in
      subst (λ (p : Op). IsNamed m name p (map (class_of numbers) ks)) ops (subst (λ (xs : List ℕ). IsNamed m name s.0 (map (class_of numbers) xs)) kids s.3)

  adds_by : (name : NameId) (m : Names) → IsNamed m name o (map (class_of numbers) ks) → ((k : Names) → IsNamed k name o (map (class_of numbers) ks) → new ≡ old ++ name_params k name) → AddsParams g numbers (named name n) old new
  adds_by name m is f = record { shows = (m, (o, ks, at, is)); params = λ k s. f k (shown_of name k s) }

  pub adds_depth : (name : NameId) (d : ℕ) → name ≡ Depth → depth_in o ≡ Some d → new ≡ old ++ param.Depth d ∷ [] → AddsParams g numbers (named name n) old new
  adds_depth name d e is f = subst (λ (x : NameId). AddsParams g numbers (named x n) old new) (sym e)
      (adds_by Depth (record nothing { depth = d }) is (λ k h. f ∙ ap (λ (c : ℕ). old ++ param.Depth c ∷ []) (some_is (sym is ∙ h))))

  pub adds_symbol : (name : NameId) (s : ℕ) (sym_ : Sym) → name ≡ Symbol s → symbol_in o ≡ Some sym_ → new ≡ old ++ param.Symbol sym_ ∷ [] → AddsParams g numbers (named name n) old new
  adds_symbol name s sym_ e is f = subst (λ (x : NameId). AddsParams g numbers (named x n) old new) (sym e)
      (adds_by (Symbol s) (record nothing { symbols = λ t. sym_ }) is (λ k h. f ∙ ap (λ (c : Sym). old ++ param.Symbol c ∷ []) (some_is (sym is ∙ h))))

  pub adds_kind : (name : NameId) (s : ℕ) (kind_ : kinds.Kind) → name ≡ Kind s → kind_in o ≡ Some kind_ → new ≡ old ++ param.Kind kind_ ∷ [] → AddsParams g numbers (named name n) old new
  adds_kind name s kind_ e is f = subst (λ (x : NameId). AddsParams g numbers (named x n) old new) (sym e)
      (adds_by (Kind s) (record nothing { kinds = λ t. kind_ }) is (λ k h. f ∙ ap (λ (c : kinds.Kind). old ++ param.Kind c ∷ []) (some_is (sym is ∙ h))))

  pub adds_constant : (name : NameId) (j : ℕ) (c : Num) → name ≡ Constant j → constant_of o ≡ Some c → new ≡ old ++ number_param c → AddsParams g numbers (named name n) old new
  adds_constant name j c e is f = subst (λ (x : NameId). AddsParams g numbers (named x n) old new) (sym e)
      (adds_by (Constant j) (record nothing { constants = λ t. c }) is (λ k h. f ∙ ap (λ (d : Num). old ++ number_param d) (some_is (sym is ∙ h))))

  pub adds_operation : (name : NameId) → name ≡ Operation → new ≡ old ++ params_in o → AddsParams g numbers (named name n) old new
  adds_operation name e f = subst (λ (x : NameId). AddsParams g numbers (named x n) old new) (sym e)
      (adds_by Operation (record nothing { op_ = o; kids = map (class_of numbers) ks }) (refl, refl) (λ k h. f ∙ ap (λ (p : Op). old ++ params_in p) h.0))
