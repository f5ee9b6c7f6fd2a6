-- The copies of two nodes of one operation, over kids that lines link.
use Rattle.std.specs.Prelude.{◌≡◌, ℕ, zero, suc, ◌+◌, ◌<◌, ◌≤◌, List, [], ◌∷◌, ◌++◌, length, Some, slice_get, take, Option}
use Rattle.std.specs.List.{AllZip}
use Rattle.std.proofs.Math.ListN.{get_or}
use Rattle.std.proofs.Math.Seq.{take-suc}
use Rattle.std.proofs.Common.{refl, sym, ap, ◌∙◌, subst, arith, take_all}
use Rattle.std.proofs.lemmas.Option.{same_Some}
use Rattle.pv_graph.specs.declared.node.Op.{Op}
use Rattle.pv_graph.specs.declared.node.Node.{Node}
use Rattle.pv_graph.specs.Nodes.{node_of}
use Rattle.pv_graph.specs.Graphs.{Graph}
use Rattle.pv_steps.specs.declared.step.Reason.{Reason}
use Rattle.pv_steps.specs.Steps.{OpenBlock, blocks}
use Rattle.pv_steps.specs.Right.{GiveAll, IsFresh}
use Rattle.pv_writer.specs.Written.{Written, inside, GoesOn, IsAt, AreCongruent}
use Rattle.pv_writer.proofs.Pushing.{at_goes}
use Rattle.pv_explain.specs.declared.source.Source.{Source}
use Rattle.pv_explain.specs.declared.level.Level.{Level}
use Rattle.pv_explain.specs.Copies.{IsCopied, AreCopies}
use Rattle.pv_explain.specs.Lines.{IsSource, IsLevel, GivesCopies, GiveAllCopies, AreKidsLinked}
use Rattle.pv_explain.proofs.Following.{gives_goes, stated_goes}

-- ---- reasons of kids, one by one

all_copies_goes : (old new : Written) (map : List (Option ℕ)) (rs : List Reason) (ks ls : List ℕ) → GoesOn old new → GiveAllCopies old map rs ks ls → GiveAllCopies new map rs ks ls
all_copies_goes old new map [] [] [] goes h = tt
all_copies_goes old new map [] [] (l ∷ ls) goes h = absurd h
all_copies_goes old new map [] (k ∷ ks) ls goes h = absurd h
all_copies_goes old new map (r ∷ rs) [] ls goes h = absurd h
all_copies_goes old new map (r ∷ rs) (k ∷ ks) [] goes h = absurd h
all_copies_goes old new map (r ∷ rs) (k ∷ ks) (l ∷ ls) goes h = (λ m n c d. gives_goes old new r m n goes (h.0 m n c d), all_copies_goes old new map rs ks ls goes h.1)

all_copies_more : (w : Written) (map : List (Option ℕ)) (rs : List Reason) (ks ls : List ℕ) (r : Reason) (k l : ℕ) → GiveAllCopies w map rs ks ls → GivesCopies w map r k l → GiveAllCopies w map (rs ++ r ∷ []) (ks ++ k ∷ []) (ls ++ l ∷ [])
all_copies_more w map [] [] [] r k l h g = (g, tt)
all_copies_more w map [] [] (j ∷ ls) r k l h g = absurd h
all_copies_more w map [] (i ∷ ks) ls r k l h g = absurd h
all_copies_more w map (q ∷ rs) [] ls r k l h g = absurd h
all_copies_more w map (q ∷ rs) (i ∷ ks) [] r k l h g = absurd h
all_copies_more w map (q ∷ rs) (i ∷ ks) (j ∷ ls) r k l h g = (h.0, all_copies_more w map rs ks ls r k l h.1 g)

pub all_copies_next : (old new : Written) (map : List (Option ℕ)) (rs more : List Reason) (ks ls : List ℕ) (i : ℕ) (r : Reason) → i < length ks → i < length ls → GoesOn old new → more ≡ rs ++ r ∷ [] → GiveAllCopies old map rs (take i ks) (take i ls)
    → GivesCopies new map r (get_or ks i 0) (get_or ls i 0) → GiveAllCopies new map more (take (i + 1) ks) (take (i + 1) ls)
all_copies_next old new map rs more ks ls i r p q goes e h g =
    subst (λ (xs : List Reason). GiveAllCopies new map xs (take (i + 1) ks) (take (i + 1) ls)) (sym e)
    (subst (λ (n : ℕ). GiveAllCopies new map (rs ++ r ∷ []) (take n ks) (take n ls)) (one_more i)
    (subst (λ (xs : List ℕ). GiveAllCopies new map (rs ++ r ∷ []) xs (take (suc i) ls)) (sym (take-suc ks i 0 p))
    (subst (λ (xs : List ℕ). GiveAllCopies new map (rs ++ r ∷ []) (take i ks ++ get_or ks i 0 ∷ []) xs) (sym (take-suc ls i 0 q))
    (all_copies_more new map rs (take i ks) (take i ls) r (get_or ks i 0) (get_or ls i 0) (all_copies_goes old new map rs (take i ks) (take i ls) goes h) g))))
  where
    one_more : (n : ℕ) → suc n ≡ n + 1
    one_more n = omega arith

pub zip_get : (R : ℕ → ℕ → Type 0) (xs ys : List ℕ) (i : ℕ) → AllZip R xs ys → i < length xs → (i < length ys) × R (get_or xs i 0) (get_or ys i 0)
zip_get R [] [] i h low = absurd (omega (arith, low))
zip_get R [] (y ∷ ys) i h low = absurd h
zip_get R (x ∷ xs) [] i h low = absurd h
zip_get R (x ∷ xs) (y ∷ ys) zero h low = (omega arith, h.0)
zip_get R (x ∷ xs) (y ∷ ys) (suc i) h low = let z = zip_get R xs ys i h.1 (omega (arith, low)) in let l = z.0 in (omega (arith, l), z.1)

zip_same : (R : ℕ → ℕ → Type 0) (xs ys : List ℕ) → AllZip R xs ys → length xs ≡ length ys
zip_same R [] [] h = refl
zip_same R [] (y ∷ ys) h = absurd h
zip_same R (x ∷ xs) [] h = absurd h
zip_same R (x ∷ xs) (y ∷ ys) h = ap suc (zip_same R xs ys h.1)

pub all_copies_whole : (w : Written) (map : List (Option ℕ)) (rs : List Reason) (ks ls : List ℕ) (i : ℕ) (R : ℕ → ℕ → Type 0) → AllZip R ks ls → length ks ≤ i → GiveAllCopies w map rs (take i ks) (take i ls) → GiveAllCopies w map rs ks ls
all_copies_whole w map rs ks ls i R zip low h =
    let same = zip_same R ks ls zip in
    subst (λ (xs : List ℕ). GiveAllCopies w map rs xs ls) (take_all i ks low)
    (subst (λ (xs : List ℕ). GiveAllCopies w map rs (take i ks) xs) (take_all i ls (omega (arith, same, low))) h)

-- ---- the copies of two nodes are congruent

give_all : (w : Written) (map : List (Option ℕ)) (rs : List Reason) (ks ls ms ns : List ℕ) → AllZip (IsCopied map) ks ms → AllZip (IsCopied map) ls ns → GiveAllCopies w map rs ks ls → GiveAll w.before (inside w) [] rs ms ns
give_all w map [] [] [] [] [] h i g = tt
give_all w map [] [] [] [] (n ∷ ns) h i g = absurd i
give_all w map [] [] [] (m ∷ ms) ns h i g = absurd h
give_all w map [] [] (l ∷ ls) ms ns h i g = absurd g
give_all w map [] (k ∷ ks) ls ms ns h i g = absurd g
give_all w map (r ∷ rs) [] ls ms ns h i g = absurd g
give_all w map (r ∷ rs) (k ∷ ks) [] ms ns h i g = absurd g
give_all w map (r ∷ rs) (k ∷ ks) (l ∷ ls) [] ns h i g = absurd h
give_all w map (r ∷ rs) (k ∷ ks) (l ∷ ls) (m ∷ ms) [] h i g = absurd i
give_all w map (r ∷ rs) (k ∷ ks) (l ∷ ls) (m ∷ ms) (n ∷ ns) h i g = (g.0 m n h.0 i.0, give_all w map rs ks ls ms ns h.1 i.1 g.1)

-- the copy of an operation over kids
pub copy_at : (w : Written) (g : Graph) (map : List (Option ℕ)) → AreCopies g w.graph map → (a x : ℕ) (o : Op) (ks : List ℕ) → IsCopied map a x → slice_get g.nodes a ≡ Some (node_of o ks) → (ms : List ℕ) × AllZip (IsCopied map) ks ms × IsAt w x o ms
copy_at w g map copies a x o ks h e =
    let c = copies.each a x h in
    let same : c.node ≡ node_of o ks = same_Some _ _ (sym c.node_is ∙ e) in (
      c.kids,
      subst (λ (n : Node). AllZip (IsCopied map) n.kids c.kids) same c.kids_are,
      c.copy_is ∙ ap (λ (n : Node). Some (node_of n.op c.kids)) same,
    )

pub congruent_copies : (old new : Written) (s : Source) (level : Level) (a b x y : ℕ) (rs : List Reason) → IsSource old s → GoesOn old new → (k : AreKidsLinked old s level a b) → IsCopied s.map.now a x → IsCopied s.map.now b y → GiveAllCopies new s.map.now rs k.lefts k.rights
    → AreCongruent new x y rs
congruent_copies old new s level a b x y rs source goes k h i give =
    let p = copy_at old s.graph.now s.map.now source.copies a x k.o k.lefts h k.left_is in
    let q = copy_at old s.graph.now s.map.now source.copies b y k.o k.rights i k.right_is in
    record {
      o = k.o;
      lefts = p.0;
      rights = q.0;
      left_is = at_goes old new x k.o p.0 goes p.2;
      right_is = at_goes old new y k.o q.0 goes q.2;
      kids = give_all new s.map.now rs k.lefts k.rights p.0 q.0 p.1 q.1 give;
      fresh = λ d looks. subst (λ (ps : List OpenBlock). IsFresh d (blocks ps)) (sym goes.blocks) (k.fresh d looks);
    }

pub level_goes : (old new : Written) (s : Source) (level : Level) → GoesOn old new → IsLevel old s level → IsLevel new s level
level_goes old new s level goes h = record { nodes_ = h.nodes_; ends = h.ends; stated = stated_goes old new s.map.now level.lines.items goes h.stated }

pub kids_are : (nodes : List Node) (a : ℕ) (node : Node) (o : Op) (ks list : List ℕ) → slice_get nodes a ≡ Some node → slice_get nodes a ≡ Some (node_of o ks) → list ≡ node.kids → list ≡ ks
kids_are nodes a node o ks list e f g = g ∙ ap (λ (n : Node). n.kids) (same_Some _ _ (sym e ∙ f))
