-- The effect of each action is what the action does, and has its sorts.
use Rattle.std.proofs.Common.{◌≡◌, List, [], ◌∷◌, Option, Some, None, refl, ap, subst, ◌∙◌}
use Rattle.pv_block.proofs.Words.{map, option_map, slice_set, ◌>>=◌, JType, Descriptor, Sym, bind, Sort, Action, sort_of_type, sort_of_kind, some_of, no_some, Op, OpSort, I, A, T, H, CallSorts, exactly, sort_over, Part, Parts, Of, More, call_token, parts_of, push, increased_cell, local_cell, with_result, acted_on, mapped, Given, Made, Kids, WithHeap, Operands, Zero, One, Two, Effect, op_sort, IsPlain, line, taken, all_made, sort_made, parts_in, pushes, writes, call, effect_for, cell_part, given_parts, read_parts, sorts_read, effect_parts, EffectFits}
use Rattle.pv_value.specs.declared.number.Num.TheVariants as num
use Rattle.pv_value.specs.declared.heap.Kind.TheVariants as kind
use Rattle.pv_frame.specs.declared.sort.Sort.TheVariants as sort
use Rattle.pv_frame.specs.declared.action.Action.TheVariants as act
use Rattle.pv_graph.specs.declared.node.Op.TheVariants as op
use Rattle.pv_runs.specs.Held as parts
use Rattle.pv_block.proofs.Sorts.{exactly_same, scalar_over, field_over, kind_sorts, given, taken_by_call, call_sorted}

-- ---- in parts

pub in_cells : (cells : List parts.Cell) → parts_in (map cell_part cells) ≡ parts_of cells
in_cells [] = refl
in_cells (c ∷ cells) = ap (More c.part) (in_cells cells)

-- what an action reads, and what its effect makes of that
pub record Computes (a : Action) (e : Effect) (h g : parts.Held) (ds : List parts.Cell) : Type 0 where
  pub cells : List parts.Cell
  pub read : read_parts a h ds ≡ Some cells
  pub is : effect_parts e (given_parts h cells) h ≡ Some g

module _ (h g : parts.Held) where
  by : (a : Action) (d e : Effect) (ds cells : List parts.Cell) → Some d ≡ Some e → read_parts a h ds ≡ Some cells → effect_parts d (given_parts h cells) h ≡ Some g → Computes a e h g ds
  by a d e ds cells i r z = subst (λ (e : Effect). Computes a e h g ds) (some_of _ _ i) (record { cells = cells; read = r; is = z })

  pushed : (o : Parts → Part) (s : Sort) (ds : List parts.Cell) → Some (push h s (o (parts_of ds))) ≡ Some g → Some (push h s (o (parts_in (map cell_part ds)))) ≡ Some g
  pushed o s ds z = ap (λ (ps : Parts). Some (push h s (o ps))) (in_cells ds) ∙ z

  wrote : (o : Parts → Part) (ds : List parts.Cell) → Some (record h { heap = o (parts_of ds) }) ≡ Some g → Some (record h { heap = o (parts_in (map cell_part ds)) }) ≡ Some g
  wrote o ds z = ap (λ (ps : Parts). Some (record h { heap = o ps })) (in_cells ds) ∙ z

  called : (f : Sym) (r : Option JType) (ds : List parts.Cell) → effect_parts (call f r) (given_parts h ds) h ≡ Some (with_result h f ds r)
  called f None ds = ap (λ (ps : Parts). Some (record h { heap = Of (op.CallHeap f) refl (More h.heap ps); token = call_token f (More h.heap ps) })) (in_cells ds)
  called f (Some t) ds = ap (λ (ps : Parts). Some (push (record h { heap = Of (op.CallHeap f) refl (More h.heap ps); token = call_token f (More h.heap ps) }) (sort_of_type t) (Of (op.CallRes f) refl (More h.heap ps)))) (in_cells ds)

  -- AN EFFECT IS WHAT ITS ACTION DOES
  pub by_effect : (a : Action) (e : Effect) (ds : List parts.Cell) → effect_for a ≡ Some e → acted_on a h ds ≡ Some g → Computes a e h g ds
  by_effect (act.Push (num.Int n)) e ds i z = by _ _ e ds ds i refl z
  by_effect (act.Push (num.Long n)) e ds i z = by _ _ e ds ds i refl z
  by_effect (act.Push (num.Ref r)) e ds i z = by _ _ e ds ds i refl z
  by_effect (act.Literal text) e ds i z = by _ _ e ds ds i refl z
  by_effect (act.Load s k) e ds i z =
      let m = mapped (λ (c : parts.Cell). push h s c.part) (local_cell h k s) g z in
      by _ _ e ds (m.0 ∷ []) i (ap (option_map (λ (c : parts.Cell). c ∷ [])) m.1) (ap Some m.2)
  by_effect (act.Increase k n) e ds i z =
      let m = mapped (λ (c : parts.Cell). record h { locals = slice_set h.locals k (increased_cell n c) }) (local_cell h k sort.Int) g z in
      by _ _ e ds (m.0 ∷ []) i (ap (option_map (λ (c : parts.Cell). c ∷ [])) m.1) (ap Some m.2)
  by_effect (act.Scalar o) e ds i z = by _ _ e ds ds i refl (pushed (λ ps. Of (op.Scalar o) refl ps) _ ds z)
  by_effect (act.Divide o) e ds i z = by _ _ e ds ds i refl (pushed (λ ps. Of (op.Scalar o) refl ps) _ ds z)
  by_effect (act.GetField t f) e ds i z = by _ _ e ds ds i refl (pushed (λ ps. Of (op.GetField f) refl (More h.heap ps)) _ ds z)
  by_effect (act.PutStatic t f) e ds i z = by _ _ e ds ds i refl (wrote (λ ps. Of (op.PutStatic f) refl (More h.heap ps)) ds z)
  by_effect (act.PutField t f) e ds i z = by _ _ e ds ds i refl (wrote (λ ps. Of (op.PutField f) refl (More h.heap ps)) ds z)
  by_effect (act.LoadElement k) e ds i z = by _ _ e ds ds i refl (pushed (λ ps. Of (op.Load k) refl (More h.heap ps)) _ ds z)
  by_effect (act.StoreElement k) e ds i z = by _ _ e ds ds i refl (wrote (λ ps. Of (op.Store k) refl (More h.heap ps)) ds z)
  by_effect act.StoreRef e ds i z = by _ _ e ds ds i refl (wrote (λ ps. Of (op.Store kind.Ref) refl (More h.heap ps)) ds z)
  by_effect act.Length e ds i z = by _ _ e ds ds i refl (pushed (λ ps. Of op.Length refl ps) _ ds z)
  by_effect (act.GetStatic t f) e ds i z = by _ _ e ds ds i refl z
  by_effect (act.Cast class) e (d ∷ []) i z = by _ _ e (d ∷ []) (d ∷ []) i refl z
  by_effect (act.Cast class) e ds i z = no_some g z
  by_effect (act.InstanceOf class) e (d ∷ []) i z = by _ _ e (d ∷ []) (d ∷ []) i refl z
  by_effect (act.InstanceOf class) e ds i z = no_some g z
  by_effect (act.Call d f) e ds i z = by _ _ e ds ds i refl (called f d.result ds ∙ z)
  by_effect (act.CallOn d f) e ds i z = by _ _ e ds ds i refl (called f d.result ds ∙ z)
  by_effect a e ds i z = no_some e i

-- ---- in sorts

abbrev pub given_sorts : Action → List OpSort
given_sorts a = T ∷ H ∷ map op_sort (sorts_read a)

fits : (ss : List OpSort) (d e : Effect) → Some d ≡ Some e → EffectFits ss d → EffectFits ss e
fits ss d e i f = subst (EffectFits ss) (some_of _ _ i) f

push_fits : (ss : List OpSort) (o : Op) (ks : Kids) (s : Sort) (kids : List OpSort) → taken ss [] ks ≡ Some kids → sort_made o kids ≡ Some (op_sort s) → EffectFits ss (pushes o ks s)
push_fits ss o ks s kids t z =
    record { made = op_sort s ∷ []; are = ap (λ (l : Option (List OpSort)). (l >>= sort_made o) >>= λ x. Some (x ∷ [])) t ∙ ap (λ (u : Option OpSort). u >>= λ x. Some (x ∷ [])) z; change = refl }

write_fits : (ss : List OpSort) (o : Op) (kids : List OpSort) → taken ss [] WithHeap ≡ Some kids → sort_made o kids ≡ Some H → EffectFits ss (writes o)
write_fits ss o kids t z =
    record { made = H ∷ []; are = ap (λ (l : Option (List OpSort)). (l >>= sort_made o) >>= λ x. Some (x ∷ [])) t ∙ ap (λ (u : Option OpSort). u >>= λ x. Some (x ∷ [])) z; change = refl }

module _ (d : Descriptor) (f : Sym) (p : IsPlain (act.Call d f)) where
  abbrev takes_ : List OpSort
  takes_ = taken_by_call d

  end_over : sort_over (op.CallEnd f) takes_ ≡ Some T
  end_over = ap (λ (o : Option CallSorts). bind o (λ c. exactly c.kids T takes_)) (call_sorted d f p) ∙ exactly_same takes_ T

  heap_over : sort_over (op.CallHeap f) takes_ ≡ Some H
  heap_over = ap (λ (o : Option CallSorts). bind o (λ c. exactly c.kids H takes_)) (call_sorted d f p) ∙ exactly_same takes_ H

  result_over : (t : JType) → d.result ≡ Some t → sort_over (op.CallRes f) takes_ ≡ Some (op_sort (sort_of_type t))
  result_over t is =
      ap (λ (o : Option CallSorts). bind o (λ c. bind c.result (λ s. exactly c.kids s takes_))) (call_sorted d f p)
      ∙ ap (λ (o : Option JType). bind (given o) (λ s. exactly takes_ s takes_)) is
      ∙ exactly_same takes_ (op_sort (sort_of_type t))

  -- a call, but for its result
  ended : (rest : List _) (r : Option (List OpSort)) → all_made sort_made (T ∷ takes_) rest (T ∷ T ∷ H ∷ []) ≡ r
      → all_made sort_made (T ∷ takes_) (line (op.CallEnd f) WithHeap ∷ line op.Both (Two (Given 0) (Made 0)) ∷ line (op.CallHeap f) WithHeap ∷ rest) [] ≡ r
  ended rest r e =
      ap (λ (o : Option OpSort). o >>= λ x. all_made sort_made (T ∷ takes_) (line op.Both (Two (Given 0) (Made 0)) ∷ line (op.CallHeap f) WithHeap ∷ rest) (x ∷ [])) end_over
      ∙ ap (λ (o : Option OpSort). o >>= λ x. all_made sort_made (T ∷ takes_) rest (T ∷ T ∷ x ∷ [])) heap_over
      ∙ e

  call_fits : (r : Option JType) → d.result ≡ r → EffectFits (T ∷ takes_) (call f r)
  call_fits None is = record { made = T ∷ T ∷ H ∷ []; are = ended [] _ refl; change = (refl, refl) }
  call_fits (Some t) is = record {
    made = T ∷ T ∷ H ∷ op_sort (sort_of_type t) ∷ [];
    are = ended (line (op.CallRes f) WithHeap ∷ []) _ (ap (λ (o : Option OpSort). o >>= λ x. Some (T ∷ T ∷ H ∷ x ∷ [])) (result_over t is));
    change = (refl, refl, refl);
  }

-- AN EFFECT FITS WHAT ITS ACTION READS
pub effect_fits : (a : Action) (e : Effect) → effect_for a ≡ Some e → IsPlain a → EffectFits (given_sorts a) e
effect_fits (act.Push (num.Int n)) e i p = fits _ _ e i (push_fits _ _ Zero _ [] refl refl)
effect_fits (act.Push (num.Long n)) e i p = fits _ _ e i (push_fits _ _ Zero _ [] refl refl)
effect_fits (act.Push (num.Ref r)) e i p = fits _ _ e i (push_fits _ _ Zero _ [] refl refl)
effect_fits (act.Literal text) e i p = fits _ _ e i (push_fits _ _ Zero _ [] refl refl)
effect_fits (act.Load s k) e i p = fits _ _ e i (record { made = []; are = refl; change = refl })
effect_fits (act.Increase k n) e i p = fits _ _ e i (record { made = I ∷ I ∷ []; are = refl; change = refl })
effect_fits (act.Scalar o) e i p = fits _ _ e i (push_fits _ (op.Scalar o) Operands _ _ refl (scalar_over o))
effect_fits (act.Divide o) e i p = fits _ _ e i (push_fits _ (op.Scalar o) Operands _ _ refl (scalar_over o))
effect_fits (act.GetStatic t f) e i p = fits _ _ e i (push_fits _ (op.GetStatic f) (One (Given 1)) _ (H ∷ []) refl (ap (λ (o : Option OpSort). bind o (λ u. exactly (H ∷ []) u (H ∷ []))) (field_over t f p.0)))
effect_fits (act.PutStatic t f) e i p =
    let s = op_sort (sort_of_type t) in
    fits _ _ e i (write_fits _ (op.PutStatic f) (H ∷ s ∷ []) refl (ap (λ (o : Option OpSort). bind o (λ u. exactly (H ∷ u ∷ []) H (H ∷ s ∷ []))) (field_over t f p.0) ∙ exactly_same (H ∷ s ∷ []) H))
effect_fits (act.GetField t f) e i p = fits _ _ e i (push_fits _ (op.GetField f) WithHeap _ (H ∷ A ∷ []) refl (ap (λ (o : Option OpSort). bind o (λ u. exactly (H ∷ A ∷ []) u (H ∷ A ∷ []))) (field_over t f p.0)))
effect_fits (act.PutField t f) e i p =
    let s = op_sort (sort_of_type t) in
    fits _ _ e i (write_fits _ (op.PutField f) (H ∷ A ∷ s ∷ []) refl (ap (λ (o : Option OpSort). bind o (λ u. exactly (H ∷ A ∷ u ∷ []) H (H ∷ A ∷ s ∷ []))) (field_over t f p.0) ∙ exactly_same (H ∷ A ∷ s ∷ []) H))
effect_fits (act.LoadElement k) e i p = fits _ _ e i (push_fits _ (op.Load k) WithHeap _ (H ∷ A ∷ I ∷ []) refl (ap Some (kind_sorts k)))
effect_fits (act.StoreElement k) e i p =
    let s = op_sort (sort_of_kind k) in
    fits _ _ e i (write_fits _ (op.Store k) (H ∷ A ∷ I ∷ s ∷ []) refl (ap (λ (u : OpSort). exactly (H ∷ A ∷ I ∷ u ∷ []) H (H ∷ A ∷ I ∷ s ∷ [])) (kind_sorts k) ∙ exactly_same (H ∷ A ∷ I ∷ s ∷ []) H))
effect_fits act.StoreRef e i p = fits _ _ e i (write_fits _ _ _ refl refl)
effect_fits act.Length e i p = fits _ _ e i (push_fits _ op.Length Operands _ (A ∷ []) refl refl)
effect_fits (act.Cast class) e i p = fits _ _ e i (record { made = []; are = refl; change = refl })
effect_fits (act.InstanceOf class) e i p = fits _ _ e i (push_fits _ _ Zero _ [] refl refl)
effect_fits (act.Call d f) e i p = fits _ _ e i (call_fits d f p d.result refl)
effect_fits (act.CallOn d f) e i p = fits _ _ e i (call_fits d f (p.0.0, p.1) d.result refl)
effect_fits a e i p = no_some e i
