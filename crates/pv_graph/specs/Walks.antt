-- Walks along kids: what is free in a node, where a variable is met, what is settled, the spine of a token, and the rule on cycles.
use Rattle.std.specs.Prelude.{◌≡◌, ◌⊎◌, ℕ, zero, suc, ◌<◌, ◌≤◌, true, false, List, [], ◌∷◌, Option, Some, slice_get, ◌==◌, if◌then◌else◌}
use Rattle.pv_graph.specs.declared.node.Op.{Op}
use Rattle.pv_graph.specs.declared.node.Op.TheVariants.{Both}
use Rattle.pv_graph.specs.Ops.{Shape, theta, eval, pass, shift, shape, is_variable, may_not_end}
use Rattle.pv_graph.specs.Forms.{Form, form}

-- x is in the list
abbrev pub In : {A : Type 0} → List A → A → Type 0
In [] x = ⊥
In (y ∷ ys) x = (y ≡ x) ⊎ In ys x

-- ---- free

-- the kids through which depth d is free: not the first kid of its eval, nor the kid of its pass
abbrev pub open_kids : {N : Type 0} → ℕ → Shape → List N → List N
open_kids d (eval e) (a ∷ ks) = if e == d then ks else a ∷ ks
open_kids d (pass e) ks = if e == d then [] else ks
open_kids d s ks = ks

-- depth d is free in a node where a theta of that depth is reached through such kids
pub data Free {N : Type 0} (view : N → Option (Form N)) (d : ℕ) : N → Type 0 where
  here : (n : N) (o : Op) (ks : List N) → view n ≡ Some (form o ks) → shape o ≡ theta d → Free view d n
  below : (n k : N) (o : Op) (ks : List N) → view n ≡ Some (form o ks) → In (open_kids d (shape o) ks) k → Free view d k → Free view d n

-- a variable is reached through kids through which depth d is free; so d may be free there, as any node may stand for it
pub data MeetsVariable {N : Type 0} (view : N → Option (Form N)) (d : ℕ) : N → Type 0 where
  variable : (n : N) (o : Op) (ks : List N) → view n ≡ Some (form o ks) → is_variable o ≡ true → MeetsVariable view d n
  through_kid : (n k : N) (o : Op) (ks : List N) → view n ≡ Some (form o ks) → In (open_kids d (shape o) ks) k → MeetsVariable view d k → MeetsVariable view d n

-- no depth is free in it
abbrev pub IsClosed : {N : Type 0} → (N → Option (Form N)) → N → Type 0
IsClosed view n = (d : ℕ) → Free view d n → ⊥

-- ---- settled

-- along kids, but not into those of an assumed node
pub data Reaches {N : Type 0} (view : N → Option (Form N)) (assumed : List N) : N → N → Type 0 where
  itself : (n : N) → Reaches view assumed n n
  along : (n k m : N) (o : Op) (ks : List N) → (In assumed n → ⊥) → view n ≡ Some (form o ks) → In ks k → Reaches view assumed k m → Reaches view assumed n m

-- with some nodes assumed to end, no other node that may not end is reached
abbrev pub IsSettled : {N : Type 0} → (N → Option (Form N)) → List N → N → Type 0
IsSettled {N} view assumed n =
    (m : N) (o : Op) (ks : List N) → Reaches view assumed n m → (In assumed m → ⊥) → view m ≡ Some (form o ks) → may_not_end o ≡ false

-- ---- the spine of a token

pub data Spine {N : Type 0} (view : N → Option (Form N)) : N → N → Type 0 where
  token : (t : N) → Spine view t t
  left : (t a b n : N) → view t ≡ Some (form Both (a ∷ b ∷ [])) → Spine view a n → Spine view t n
  right : (t a b n : N) → view t ≡ Some (form Both (a ∷ b ∷ [])) → Spine view b n → Spine view t n
  count : (t a p : N) (o : Op) (d : ℕ) → view t ≡ Some (form o (a ∷ p ∷ [])) → shape o ≡ eval d → Spine view t p

-- ---- cycles

-- what a step to a kid does to the iterations: nothing, one less at a depth, or anything at a depth
pub data Move : Type 0 where
  still : Move
  down : ℕ → Move
  jump : ℕ → Move

-- the step to the kid at a place: a theta's second kid is one iteration earlier, and each step from an
-- eval, a pass or a shift counts as a jump
abbrev pub move_to : Shape → ℕ → Move
move_to (theta d) zero = still
move_to (theta d) (suc j) = down d
move_to (eval d) j = jump d
move_to (pass d) j = jump d
move_to (shift d) j = jump d
move_to s j = still

-- the kid at a place of a node
pub record Edge {N : Type 0} (view : N → Option (Form N)) (n : N) (m : Move) (k : N) : Type 0 where
  pub o : Op
  pub ks : List N
  pub place : ℕ
  pub is : view n ≡ Some (form o ks)
  pub there : slice_get ks place ≡ Some k
  pub moves : m ≡ move_to (shape o) place

-- a walk, with the moves of its steps
pub data Walk {N : Type 0} (view : N → Option (Form N)) : N → List Move → N → Type 0 where
  stop : (n : N) → Walk view n [] n
  step : (n k o : N) (m : Move) (ms : List Move) → Edge view n m k → Walk view k ms o → Walk view n (m ∷ ms) o

-- the walk takes the second kid of some theta; the least depth of those is d, and no eval, pass or shift of depth d or less stands on it
pub record Falls (ms : List Move) : Type 0 where
  pub d : ℕ
  pub takes : In ms (down d)
  pub least : (e : ℕ) → In ms (down e) → d ≤ e
  pub above : (e : ℕ) → In ms (jump e) → d < e

-- the rule on cycles
abbrev pub KeepsRule : {N : Type 0} → (N → Option (Form N)) → Type 0
KeepsRule {N} view = (n : N) (m : Move) (ms : List Move) → Walk view n (m ∷ ms) n → Falls (m ∷ ms)
