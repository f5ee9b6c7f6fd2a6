-- Facts inside blocks: what a set step and the end of an induction show.
use Rattle.std.specs.Prelude.{◌≡◌, ◌⊎◌, ◌↔◌, ℕ, zero, suc, List, [], ◌∷◌, Some}
use Rattle.std.specs.List.{AllZip}
use Rattle.std.proofs.Common.{inl, inr, refl, sym, ◌∙◌, subst}
use Rattle.pv_value.specs.declared.world.World.{World}
use Rattle.pv_value.specs.declared.outcome.Input.{Input}
use Rattle.pv_value.specs.declared.outcome.Val.{Val}
use Rattle.pv_value.specs.declared.outcome.Val.TheVariants as val
use Rattle.pv_value.specs.Worlds.{IsWorld}
use Rattle.pv_value.specs.Inputs.{IsInput}
use Rattle.pv_graph.specs.declared.node.Op.TheVariants as op
use Rattle.pv_graph.specs.Ops.{Shape, theta, eval, pass, shift, shape}
use Rattle.pv_graph.specs.Forms.{form}
use Rattle.pv_denote.specs.Denote.{Index, at_depth, strict, Value, SameAt}
use Rattle.pv_graph.specs.Walks.{In}
use Rattle.pv_denote.proofs.Cited.{value_once, den_makes, value_says, at_same, at_other, at_id, at_at, Moves, Stays}
use Rattle.pv_steps.specs.Steps.{Block, Loop, Ending}
use Rattle.pv_steps.specs.Right.{IsFresh}
use Rattle.pv_steps.specs.Facts.{View, Keeps, Satisfies, Holds}
use Rattle.pv_steps.proofs.Pairs.{Alike, pairs_lead}

-- ---- fewer blocks

-- r is bs, or bs without some of its innermost blocks
abbrev pub Under : List Block → List Block → Type 0
Under r [] = r ≡ []
Under r (b ∷ bs) = (r ≡ b ∷ bs) ⊎ Under r bs

pub keeps_under : (r bs : List Block) (it i : Index) → Under r bs → Keeps bs it i → Keeps r it i
keeps_under r [] it i u h = subst (λ (q : List Block). Keeps q it i) (sym u) h
keeps_under r (b ∷ bs) it i (inl u) h = subst (λ (q : List Block). Keeps q it i) (sym u) h
keeps_under r (Loop d ps ∷ bs) it i (inr u) h = keeps_under r bs it i u h.1
keeps_under r (Ending p es ∷ bs) it i (inr u) h = keeps_under r bs it i u h

pub satisfies_under : (view : View) (w : World) (x : Input) (it : Index) (r bs : List Block) → Under r bs → Satisfies view w x it bs → Satisfies view w x it r
satisfies_under view w x it r [] u h = subst (λ (q : List Block). Satisfies view w x it q) (sym u) h
satisfies_under view w x it r (b ∷ bs) (inl u) h = subst (λ (q : List Block). Satisfies view w x it q) (sym u) h
satisfies_under view w x it r (Loop d ps ∷ bs) (inr u) h = satisfies_under view w x it r bs u h.1
satisfies_under view w x it r (Ending p es ∷ bs) (inr u) h = satisfies_under view w x it r bs u h.1

-- a visible fact holds inside more blocks
pub holds_under : (view : View) (r bs : List Block) (a b : ℕ) → Under r bs → Holds view r a b → Holds view bs a b
holds_under view r bs a b u h w x world input it s i k = h w x world input it (satisfies_under view w x it r bs u s) i (keeps_under r bs it i u k)

-- ---- other iterations at a depth that no block has

keeps_fresh : (bs : List Block) (it i : Index) (d k : ℕ) → IsFresh d bs → Keeps bs it i → Keeps bs it (at_depth i d k)
keeps_fresh [] it i d k f h = tt
keeps_fresh (Loop e ps ∷ bs) it i d k f h = (at_other i d k e (λ z. f.0 (sym z)) ∙ h.0, keeps_fresh bs it i d k f.1 h.1)
keeps_fresh (Ending p es ∷ bs) it i d k f h = keeps_fresh bs it i d k f h

keeps_context : (bs : List Block) (it i : Index) (d k : ℕ) → IsFresh d bs → Keeps bs (at_depth it d k) i → Keeps bs it i
keeps_context [] it i d k f h = tt
keeps_context (Loop e ps ∷ bs) it i d k f h = (h.0 ∙ at_other it d k e (λ z. f.0 (sym z)), keeps_context bs it i d k f.1 h.1)
keeps_context (Ending p es ∷ bs) it i d k f h = keeps_context bs it i d k f h

keeps_in_context : (bs : List Block) (it i : Index) (d k : ℕ) → IsFresh d bs → Keeps bs it i → Keeps bs (at_depth it d k) i
keeps_in_context [] it i d k f h = tt
keeps_in_context (Loop e ps ∷ bs) it i d k f h = (h.0 ∙ sym (at_other it d k e (λ z. f.0 (sym z))), keeps_in_context bs it i d k f.1 h.1)
keeps_in_context (Ending p es ∷ bs) it i d k f h = keeps_in_context bs it i d k f h

satisfies_context : (view : View) (w : World) (x : Input) (bs : List Block) (it : Index) (d k : ℕ) → IsFresh d bs → Satisfies view w x it bs → Satisfies view w x (at_depth it d k) bs
satisfies_context view w x [] it d k f h = tt
satisfies_context view w x (Loop e ps ∷ bs) it d k f h = (λ i y. h.0 i (keeps_context (Loop e ps ∷ bs) it i d k f y), satisfies_context view w x bs it d k f.1 h.1)
satisfies_context view w x (Ending p es ∷ bs) it d k f h = (h.0, satisfies_context view w x bs it d k f h.1)

-- ---- set

-- one node, or a fact that holds inside one of the lists of blocks
abbrev pub Known : View → (List Block → Type 0) → ℕ → ℕ → Type 0
Known view rs a b = (a ≡ b) ⊎ ((r : List Block) × rs r × Holds view r a b)

-- one of these, or a pair of the step
abbrev pub IsReason : View → (List Block → Type 0) → List (ℕ × ℕ) → ℕ → ℕ → Type 0
IsReason view rs ps a b = Known view rs a b ⊎ In ps (a, b)

-- a right set step inside bs, whose reasons are facts that hold inside rs
abbrev pub RightSet : View → List Block → (List Block → Type 0) → List (ℕ × ℕ) → Type 0
RightSet view bs rs ps =
    ((r : List Block) → rs r → Under r bs)
    × ((a b : ℕ) → In ps (a, b) → Alike view (IsReason view rs ps) (λ d. (r : List Block) → rs r → IsFresh d r) a b)

pub moves_map : (P Q : ℕ → Type 0) → ((d : ℕ) → P d → Q d) → (s : Shape) → Moves P s → Moves Q s
moves_map P Q p (theta d) h = p d h
moves_map P Q p (eval d) h = p d h
moves_map P Q p (pass d) h = p d h
moves_map P Q p (shift d) h = p d h
moves_map P Q p s h = tt

-- the index has the iterations `it` at the depths of all these lists of blocks
abbrev pub KeepsAll : (List Block → Type 0) → Index → Index → Type 0
KeepsAll rs it j = (r : List Block) → rs r → Keeps r it j

stays : (rs : List Block → Type 0) (it : Index) (d : ℕ) → ((r : List Block) → rs r → IsFresh d r) → Stays (KeepsAll rs it) d
stays rs it d f j k y r m = keeps_fresh r it j d k (f r m) (y r m)

known : (view : View) (bs : List Block) (rs : List Block → Type 0) → ((r : List Block) → rs r → Under r bs)
    → (w : World) (x : Input) → IsWorld w → IsInput x → (it : Index) → Satisfies view w x it bs → (a b : ℕ) → Known view rs a b → (j : Index) → KeepsAll rs it j → SameAt view w x j a b
known view bs rs u w x world input it s a b (inl z) j y v = (subst (λ (n : ℕ). Value view w x n j v) z, subst (λ (n : ℕ). Value view w x n j v) (sym z))
known view bs rs u w x world input it s a b (inr z) j y v = z.2 w x world input it (satisfies_under view w x it z.0 bs (u z.0 z.1) s) j (y z.0 z.1) v

zip_flip : (R : ℕ → ℕ → Type 0) (ks ls : List ℕ) → AllZip R ks ls → AllZip (λ a b. R b a) ls ks
zip_flip R [] [] h = tt
zip_flip R (k ∷ ks) (l ∷ ls) h = (h.0, zip_flip R ks ls h.1)
zip_flip R _ _ h = absurd h

-- the pairs of a right step hold
pub set_holds : (view : View) (bs : List Block) (rs : List Block → Type 0) (ps : List (ℕ × ℕ)) → RightSet view bs rs ps → (a b : ℕ) → In ps (a, b) → Holds view bs a b
set_holds view bs rs ps right a b p w x world input it s i y v = (
  pairs_lead view w x (KeepsAll rs it) (Known view rs) (λ a b. In ps (a, b))
      (λ a b j v z k. (known view bs rs right.0 w x world input it s a b z j k v).0) forward a b i v p here,
  pairs_lead view w x (KeepsAll rs it) (λ a b. Known view rs b a) (λ a b. In ps (b, a))
      (λ a b j v z k. (known view bs rs right.0 w x world input it s b a z j k v).1) backward b a i v p here,
)
  where
    here : KeepsAll rs it i
    here r m = keeps_under r bs it i (right.0 r m) y

    forward : (a b : ℕ) → In ps (a, b) → Alike view (λ a b. Known view rs a b ⊎ In ps (a, b)) (Stays (KeepsAll rs it)) a b
    forward a b p = let q = right.1 a b p in
        record { o = q.o; lefts = q.lefts; rights = q.rights; left = q.left; right = q.right; moves = moves_map _ _ (stays rs it) (shape q.o) q.moves; kids = q.kids }

    backward : (b a : ℕ) → In ps (a, b) → Alike view (λ b a. Known view rs a b ⊎ In ps (a, b)) (Stays (KeepsAll rs it)) b a
    backward b a p = let q = right.1 a b p in
        record { o = q.o; lefts = q.rights; rights = q.lefts; left = q.right; right = q.left; moves = moves_map _ _ (stays rs it) (shape q.o) q.moves; kids = zip_flip _ q.lefts q.rights q.kids }

-- ---- close

zero_value : (view : View) (w : World) (x : Input) (z : ℕ) (i : Index) → view z ≡ Some (form op.Zero []) → Value view w x z i (val.Count 0)
unfolding strict
zero_value view w x z i e = den_makes view w x z i (val.Count 0) op.Zero [] e ([], tt, refl)

count_same : (j k : ℕ) → val.Count j ≡ val.Count k → j ≡ k
count_same j k e = cc

pub eval_says : (view : View) (w : World) (x : Input) (d a z n : ℕ) (i : Index) (v : Val) → view z ≡ Some (form op.Zero []) → view n ≡ Some (form (op.Eval d) (a ∷ z ∷ []))
    → Value view w x n i v ↔ Value view w x a (at_depth i d 0) v
eval_says view w x d a z n i v e f = (
  λ h.
      let r = value_says view w x n i v (op.Eval d) (a ∷ z ∷ []) f h in
      let k : r.0 ≡ 0 = count_same r.0 0 (value_once view w x z i _ _ r.1 (zero_value view w x z i e)) in
      subst (λ (k : ℕ). Value view w x a (at_depth i d k) v) k r.2,
  λ h. den_makes view w x n i v (op.Eval d) (a ∷ z ∷ []) f (0, zero_value view w x z i e, h),
)

pub shift_says : (view : View) (w : World) (x : Input) (d a n : ℕ) (i : Index) (v : Val) → view n ≡ Some (form (op.Shift d) (a ∷ []))
    → Value view w x n i v ↔ Value view w x a (at_depth i d (suc (i d))) v
shift_says view w x d a n i v f = (λ h. value_says view w x n i v (op.Shift d) (a ∷ []) f h, λ h. den_makes view w x n i v (op.Shift d) (a ∷ []) f h)

-- the pair is the same at iteration 0, outside, and one iteration later, inside
pub record Closes (view : View) (bs : List Block) (d : ℕ) (ps : List (ℕ × ℕ)) (a b : ℕ) : Type 0 where
  pub zero_ : ℕ
  pub first_left : ℕ
  pub first_right : ℕ
  pub next_left : ℕ
  pub next_right : ℕ
  pub is_zero : view zero_ ≡ Some (form op.Zero [])
  pub is_first_left : view first_left ≡ Some (form (op.Eval d) (a ∷ zero_ ∷ []))
  pub is_first_right : view first_right ≡ Some (form (op.Eval d) (b ∷ zero_ ∷ []))
  pub is_next_left : view next_left ≡ Some (form (op.Shift d) (a ∷ []))
  pub is_next_right : view next_right ≡ Some (form (op.Shift d) (b ∷ []))
  pub starts : Holds view bs first_left first_right
  pub goes_on : Holds view (Loop d ps ∷ bs) next_left next_right

module _ (view : View) (bs : List Block) (d : ℕ) (ps : List (ℕ × ℕ)) (fresh : IsFresh d bs) (right : (a b : ℕ) → In ps (a, b) → Closes view bs d ps a b)
    (w : World) (x : Input) (world : IsWorld w) (input : IsInput x) where
  at_iteration : (k : ℕ) (it : Index) → Satisfies view w x it bs → (i : Index) → Keeps bs it i → i d ≡ k → (a b : ℕ) → In ps (a, b) → SameAt view w x i a b
  at_iteration zero it s i y e a b p v =
      let q = right a b p in
      let h = q.starts w x world input it s i y v in
      let l = eval_says view w x d a q.zero_ q.first_left i v q.is_zero q.is_first_left in
      let r = eval_says view w x d b q.zero_ q.first_right i v q.is_zero q.is_first_right in
      let here : at_depth i d 0 ≡ i = at_id i d 0 e in (
        λ z. subst (λ (j : Index). Value view w x b j v) here (r.0 (h.0 (l.1 (subst (λ (j : Index). Value view w x a j v) (sym here) z)))),
        λ z. subst (λ (j : Index). Value view w x a j v) here (l.0 (h.1 (r.1 (subst (λ (j : Index). Value view w x b j v) (sym here) z)))),
      )
  at_iteration (suc k) it s i y e a b p v =
      let q = right a b p in
      let j : Index = at_depth i d k in
      let c : Index = at_depth it d k in
      let inside : Satisfies view w x c (Loop d ps ∷ bs) = (λ n z a b m. at_iteration k it s n (keeps_context bs it n d k fresh z.1) (z.0 ∙ at_same it d k) a b m, satisfies_context view w x bs it d k fresh s) in
      let h = q.goes_on w x world input c inside j (at_same i d k ∙ sym (at_same it d k), keeps_in_context bs it j d k fresh (keeps_fresh bs it i d k fresh y)) v in
      let l = shift_says view w x d a q.next_left j v q.is_next_left in
      let r = shift_says view w x d b q.next_right j v q.is_next_right in
      let here : at_depth j d (suc (j d)) ≡ i = rw (at_same i d k) (at_at i d k (suc k) ∙ at_id i d (suc k) e) in (
        λ z. subst (λ (j : Index). Value view w x b j v) here (r.0 (h.0 (l.1 (subst (λ (j : Index). Value view w x a j v) (sym here) z)))),
        λ z. subst (λ (j : Index). Value view w x a j v) here (l.0 (h.1 (r.1 (subst (λ (j : Index). Value view w x b j v) (sym here) z)))),
      )

-- the pairs hold outside the block
pub close_holds : (view : View) (bs : List Block) (d : ℕ) (ps : List (ℕ × ℕ)) → IsFresh d bs → ((a b : ℕ) → In ps (a, b) → Closes view bs d ps a b) → (a b : ℕ) → In ps (a, b) → Holds view bs a b
close_holds view bs d ps fresh right a b p w x world input it s i y = at_iteration view bs d ps fresh right w x world input (i d) it s i y refl a b p
