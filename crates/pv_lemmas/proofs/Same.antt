-- Nodes that are the same at every index; and what a graph that grows keeps.
use Rattle.std.specs.Prelude.{◌≡◌, ℕ, zero, suc, ◌<◌, List, length, Some}
use Rattle.std.specs.List.{AllZip}
use Rattle.std.proofs.Common.{sym, subst}
use Rattle.std.proofs.lemmas.Option.{slice_get_within}
use Rattle.pv_value.specs.declared.world.World.{World}
use Rattle.pv_value.specs.declared.outcome.Input.{Input}
use Rattle.pv_value.specs.declared.outcome.Val.{Val}
use Rattle.pv_graph.specs.declared.node.Op.{Op}
use Rattle.pv_graph.specs.Ops.{shape}
use Rattle.pv_graph.specs.Forms.{form}
use Rattle.pv_graph.specs.Walks.{In, Reaches, itself, along, IsSettled}
use Rattle.pv_graph.specs.Graphs.{Graph, form_at, IsGraph, Extends}
use Rattle.pv_graph.proofs.Cited.{found, kid_within, node_at}
use Rattle.pv_denote.specs.Denote.{Index, den, Value, SameAt}
use Rattle.pv_denote.proofs.Cited.{den_makes, den_says, value_says, Stays, means_map, growth_law}
use Rattle.pv_denote.proofs.Mapped.{moves_all}
use Rattle.pv_steps.specs.Facts.{View, HaveValues}
use Rattle.pv_steps.proofs.Growing.{form_back}
use Rattle.pv_lemmas.proofs.Lists.{zip_flip}

-- the two nodes are the same at every index
abbrev pub AreSame : View → World → Input → ℕ → ℕ → Type 0
AreSame view w x a b = (i : Index) → SameAt view w x i a b

pub same_self : (view : View) (w : World) (x : Input) (a : ℕ) → AreSame view w x a a
same_self view w x a i v = (λ z. z, λ z. z)

pub same_flip : (view : View) (w : World) (x : Input) (a b : ℕ) → AreSame view w x a b → AreSame view w x b a
same_flip view w x a b h i v = ((h i v).1, (h i v).0)

pub same_chain : (view : View) (w : World) (x : Input) (a c b : ℕ) → AreSame view w x a c → AreSame view w x c b → AreSame view w x a b
same_chain view w x a c b h k i v = (λ z. (k i v).0 ((h i v).0 z), λ z. (h i v).1 ((k i v).1 z))

-- ---- equal operations

-- every index
abbrev pub Always : Index → Type 0
Always i = Unit {0}

module _ (view : View) (w : World) (x : Input) where
  -- a value of one is one of the other
  over_leads : (a b : ℕ) (o : Op) (ks ls : List ℕ) → view a ≡ Some (form o ks) → view b ≡ Some (form o ls) → AllZip (AreSame view w x) ks ls → (i : Index) (v : Val) → Value view w x a i v → Value view w x b i v
  over_leads a b o ks ls e f z i v h =
      den_makes view w x b i v o ls f
      (means_map w x Always (Value view w x) (Value view w x) (AreSame view w x) (λ m n j u s y r. (s j u).0 r) (shape o) o ks ls i v (moves_all (Stays Always) (λ d j k y. tt) (shape o)) z tt
      (value_says view w x a i v o ks e h))

  -- one operation over kids that are the same
  pub over_same : (a b : ℕ) (o : Op) (ks ls : List ℕ) → view a ≡ Some (form o ks) → view b ≡ Some (form o ls) → AllZip (AreSame view w x) ks ls → AreSame view w x a b
  over_same a b o ks ls e f z i v =
      (over_leads a b o ks ls e f z i v, over_leads b a o ls ks f e (zip_flip (AreSame view w x) (AreSame view w x) (λ m n s. same_flip view w x m n s) ks ls z) i v)

-- ---- growth

module _ (old new : Graph) (is : IsGraph old) (ext : Extends old new) where
  -- an old node is a node
  pub low_more : (n : ℕ) → n < length old.nodes → n < length new.nodes
  low_more n low = let x = found old.nodes n low in slice_get_within new.nodes n x.0 (ext.nodes n x.0 x.1)

  -- old nodes that were the same are so
  pub same_more : (w : World) (x : Input) (a b : ℕ) → a < length old.nodes → b < length old.nodes → AreSame (form_at old.nodes) w x a b → AreSame (form_at new.nodes) w x a b
  same_more w x a b low low' same i v =
      let k = growth_law old new is ext a low w x i v in
      let l = growth_law old new is ext b low' w x i v in
      (λ z. l.1 ((same i v).0 (k.0 z)), λ z. k.1 ((same i v).1 (l.0 z)))

  -- .. and were so if they are
  pub same_less : (w : World) (x : Input) (a b : ℕ) → a < length old.nodes → b < length old.nodes → AreSame (form_at new.nodes) w x a b → AreSame (form_at old.nodes) w x a b
  same_less w x a b low low' same i v =
      let k = growth_law old new is ext a low w x i v in
      let l = growth_law old new is ext b low' w x i v in
      (λ z. l.0 ((same i v).0 (k.1 z)), λ z. k.0 ((same i v).1 (l.1 z)))

  -- from an old node only old nodes are reached
  reached_back : (assumed : List ℕ) (n m : ℕ) → Reaches (form_at new.nodes) assumed n m → n < length old.nodes → Reaches (form_at old.nodes) assumed n m × (m < length old.nodes)
  reached_back assumed n m (itself _) low = (itself n, low)
  reached_back assumed n m (along _ k _ o ks out e i r) low =
      let f = form_back old new ext n o ks low e in
      let x = node_at old.nodes n o ks f in
      let later = reached_back assumed k m r (kid_within old is n k x.0 x.1 (subst (λ (zs : List ℕ). In zs k) (sym x.3) i)) in
      (along n k m o ks out f i later.0, later.1)

  -- a settled node stays settled
  pub settled_more : (assumed : List ℕ) (n : ℕ) → n < length old.nodes → IsSettled (form_at old.nodes) assumed n → IsSettled (form_at new.nodes) assumed n
  settled_more assumed n low calm m o ks r out e =
      let b = reached_back assumed n m r low in
      calm m o ks b.0 out (form_back old new ext m o ks b.1 e)

-- what has a value is a node
value_low : (g : Graph) (w : World) (x : Input) (n : ℕ) (i : Index) (v : Val) (fuel : ℕ) → den (form_at g.nodes) w x fuel n i ≡ Some v → n < length g.nodes
unfolding den
value_low g w x n i v zero e = absurd (cc)
value_low g w x n i v (suc fuel) e =
    let r = den_says (form_at g.nodes) w x fuel n i v e in
    let y = node_at g.nodes n r.0 r.1 r.2 in
    slice_get_within g.nodes n y.0 y.1

-- the assumed nodes have values still
pub have_more : (old new : Graph) → IsGraph old → Extends old new → (w : World) (x : Input) (assumed : List ℕ) → HaveValues (form_at old.nodes) w x assumed → HaveValues (form_at new.nodes) w x assumed
have_more old new is ext w x assumed have e i m =
    let r = have e i m in
    let low = value_low old w x e i r.0 r.1.0 r.1.1 in
    (r.0, (growth_law old new is ext e low w x i r.0).1 r.1)
