-- What the instructions of a code do, one after the other.
use Rattle.std.proofs.Common.{◌≡◌, ℕ, ◌+◌, ◌<◌, List, [], ◌∷◌, ◌++◌, length, get_or, take, drop, refl, sym, ap, ◌∙◌, subst, take-append-drop, Err}
use Rattle.pv_frame.proofs.Words.{AllZip, AllByRecursion, take_more, drop_more, all_zipped_more, Entry, Placed, Use, Action, CauseKind, IsUse, Acts, Does, IsCauseOf, HasNoCause, cause, Stop, refused_at, IsActionOr, AreActing, IsFirstOf, OnCause}
use Rattle.pv_frame.specs.declared.stop.Stop.TheVariants as stop
use Rattle.pv_frame.proofs.ActionLaws.{clean}

abbrev pub Names : List Entry → Placed → Use → Type 0
Names pool p u = IsUse pool p.insn u

-- the instructions so far
pub record ActingSoFar (pool : List Entry) (code : List Placed) (i : ℕ) (uses : List Use) (actions : List Action) : Type 0 where
  pub so_far : AreActing pool (take i code) uses actions

take_one : (code : List Placed) (i : ℕ) (p : Placed) → i < length code → p ≡ get_or code i p → take (i + 1) code ≡ take i code ++ p ∷ []
take_one code i p lt is = take_more code i p lt ∙ ap (λ (x : Placed). take i code ++ x ∷ []) (sym is)

pub acting_on : (pool : List Entry) (code : List Placed) (i : ℕ) (uses : List Use) (actions : List Action) (p : Placed) (u : Use) (a : Action) → i < length code → p ≡ get_or code i p → IsUse pool p.insn u → Acts pool p.insn u a → ActingSoFar pool code i uses actions
    → ActingSoFar pool code (i + 1) (uses ++ u ∷ []) (actions ++ a ∷ [])
acting_on pool code i uses actions p u a lt is names acts s = record {
  so_far = record {
    names = subst (λ (l : List Placed). AllZip (Names pool) l (uses ++ u ∷ [])) (sym (take_one code i p lt is)) (all_zipped_more (Names pool) (take i code) uses p u s.so_far.names names);
    acts = subst (λ (l : List Placed). AllZip (Does pool) l (actions ++ a ∷ [])) (sym (take_one code i p lt is)) (all_zipped_more (Does pool) (take i code) actions p a s.so_far.acts (u, (names, acts)));
  };
}

all_clean : (pool : List Entry) (code : List Placed) (actions : List Action) → AllZip (Does pool) code actions → AllByRecursion (HasNoCause pool) code
all_clean pool [] [] all = tt
all_clean pool [] (a ∷ actions) all = elim all [ ]
all_clean pool (p ∷ code) [] all = elim all [ ]
all_clean pool (p ∷ code) (a ∷ actions) all = ((λ k h. clean pool p.insn a k all.0.0 all.0.1.0 all.0.1.1 h), all_clean pool code actions all.1)

acting_ends : (pool : List Entry) (code : List Placed) (i : ℕ) (uses : List Use) (actions : List Action) (p : Placed) (k : CauseKind) → i < length code → p ≡ get_or code i p → IsCauseOf pool p.insn k → ActingSoFar pool code i uses actions → IsFirstOf pool code (cause k p.at)
acting_ends pool code i uses actions p k lt is caused s =
    let rest : drop i code ≡ p ∷ drop (i + 1) code = drop_more code i p lt ∙ ap (λ (x : Placed). x ∷ drop (i + 1) code) (sym is) in
    record {
      before = take i code;
      here = p;
      after = drop (i + 1) code;
      kind = k;
      parts = sym (take-append-drop i code) ∙ ap (λ (l : List Placed). take i code ++ l) rest;
      clean = all_clean pool (take i code) actions s.so_far.acts;
      caused = caused;
      is = refl;
    }

-- the instruction without an action is the first with its cause
pub acting_stops : (pool : List Entry) (code : List Placed) (i : ℕ) (uses : List Use) (actions : List Action) (p : Placed) (u : Use) (s : Stop) → i < length code → p ≡ get_or code i p → IsActionOr pool p.insn u (Err s) → ActingSoFar pool code i uses actions → OnCause (refused_at p.at s) (IsFirstOf pool code)
acting_stops pool code i uses actions p u (stop.Cause k) lt is caused so_far = acting_ends pool code i uses actions p k lt is caused so_far
acting_stops pool code i uses actions p u stop.Memory lt is caused so_far = tt
