-- The blocks that are made are the flow of the program.
use Rattle.std.proofs.Common.{◌≡◌, ℕ, zero, suc, ◌+◌, ◌<◌, ◌≤◌, Bool, List, [], ◌∷◌, ◌++◌, length, get_or, map, take, Option, Some, refl, sym, subst, inl, inr, arith}
use Rattle.std.specs.Prelude.{slice_get, Contains}
use Rattle.std.specs.List.{AllZip}
use Rattle.std.proofs.lemmas.List.{take_more, take_all}
use Rattle.std.proofs.lemmas.Option.{slice_get_within, slice_get-get_or}
use Rattle.pv_list.proofs.Cited.{partner}
use Rattle.pv_frame.specs.declared.action.Action.{Action}
use Rattle.pv_frame.specs.declared.frame.Frame.{Frame}
use Rattle.pv_frame.specs.declared.program.Program.{Program}
use Rattle.pv_frame.specs.Programs.{IsAt}
use Rattle.pv_frame.specs.Frames.{IsFrameAt, Reached, AreFrames}
use Rattle.pv_frame.specs.Frames as frames
use Rattle.pv_frame.proofs.Cited.{no_some, reached_frame, contains_first, contains_more}
use Rattle.pv_flow.specs.declared.block.Exit.{Exit}
use Rattle.pv_flow.specs.declared.block.Block.{Block}
use Rattle.pv_flow.specs.Exits.{Departure, Goes, Returns, Throws, departures}
use Rattle.pv_flow.specs.Blocks.{Begins, IsBlockAt, IsExit, IsBlock, IsFlow}
use Rattle.pv_flow.specs.Blocks as begin
use Rattle.pv_flow.specs.Finding.{exit_by, AreBegins, IsHead, AreHeads, IsMade}
use Rattle.pv_flow.proofs.Departing.{goes_to_successors, target_or_next}
use Rattle.pv_flow.proofs.Spans.{inside_reached}

-- ---- two lists side by side

zip_push : {A B : Type 0} (R : A → B → Type 0) (xs : List A) (ys : List B) (x : A) (y : B) → AllZip R xs ys → R x y → AllZip R (xs ++ x ∷ []) (ys ++ y ∷ [])
zip_push R [] [] x y all r = (r, tt)
zip_push R [] (z ∷ ys) x y all r = elim all [ ]
zip_push R (w ∷ xs) [] x y all r = elim all [ ]
zip_push R (w ∷ xs) (z ∷ ys) x y all r = (all.0, zip_push R xs ys x y all.1 r)

pub zip_more : {A B : Type 0} (R : A → B → Type 0) (xs : List A) (ys now : List B) (i : ℕ) (d : A) (y : B) → i < length xs → AllZip R (take i xs) ys → R (get_or xs i d) y → now ≡ ys ++ y ∷ [] → AllZip R (take (i + 1) xs) now
zip_more {B = B} R xs ys now i d y lt all r e =
    subst (λ (l : List B). AllZip R (take (i + 1) xs) l) (sym e) (subst (λ (l : List _). AllZip R l (ys ++ y ∷ [])) (sym (take_more xs i d lt)) (zip_push R (take i xs) ys (get_or xs i d) y all r))

pub zip_all : {A B : Type 0} (R : A → B → Type 0) (xs : List A) (ys : List B) (i : ℕ) → length xs ≤ i → AllZip R (take i xs) ys → AllZip R xs ys
zip_all {A = A} R xs ys i le all = subst (λ (l : List A). AllZip R l ys) (take_all i xs le) all

zip_left : {A B : Type 0} (R : A → B → Type 0) (xs : List A) (ys : List B) (n : ℕ) (y : B) → AllZip R xs ys → slice_get ys n ≡ Some y → (x : A) × (slice_get xs n ≡ Some x) × R x y
zip_left R [] [] n y all is = no_some y is
zip_left R [] (z ∷ ys) n y all is = elim all [ ]
zip_left R (w ∷ xs) [] n y all is = elim all [ ]
zip_left R (w ∷ xs) (z ∷ ys) zero y all is = let same : z ≡ y = cc in (w, refl, subst (R w) same all.0)
zip_left R (w ∷ xs) (z ∷ ys) (suc n) y all is = zip_left R xs ys n y all.1 is

zip_map : {A B : Type 0} (R : A → B → Type 0) (f : A → B) (xs : List A) → ((x : A) → Contains xs x → R x (f x)) → AllZip R xs (map f xs)
zip_map R f [] each = tt
zip_map R f (x ∷ xs) each = (each x (contains_first x xs), zip_map R f xs (λ y among. each y (contains_more x y xs among)))

-- ---- the flow

module _ (p : Program) (fs : List (Option Frame)) (well_typed : AreFrames p fs) (begins : List Bool) (marks : AreBegins p begins)
    (places numbers : List ℕ) (heads : AreHeads begins fs (length fs) places numbers) (blocks : List Block) (made : AllZip (IsMade p numbers) places blocks) where
  -- a block that begins at a place that is reached has the number of that place
  numbered : (j : ℕ) → Begins p j → Reached p j → IsBlockAt blocks (get_or numbers j 0) j
  numbered j begin reached =
      let f = reached_frame p fs well_typed.agrees j reached in
      let within = slice_get_within fs j (Some f.0) f.1 in
      let head : IsHead begins fs j = record { begin = marks.all j begin (omega (arith, marks.one_each, well_typed.one_each)); frame = f.0; there = f.1 } in
      let b = partner (IsMade p numbers) places blocks (get_or numbers j 0) j made (heads.all j within head) in
      (b.0, b.1, b.2.place)

  first_reached : (n k : ℕ) → slice_get places n ≡ Some k → Reached p k
  first_reached n k is = let head = heads.each n k is in well_typed.reached k head.frame head.there

  exit_is : (b : Block) (k : ℕ) → IsMade p numbers k b → Reached p b.last → (a : Action) → IsAt p b.last a → (d : Departure) → Contains (departures b.last a) d → IsExit blocks d (exit_by numbers d)
  exit_is b k is reached a at (Goes j) among =
      let leads = (goes_to_successors b.last a j).0 among in
      let begin : Begins p j = elim (target_or_next b.last a j leads) [
        | inl named ↦ begin.target b.last j a at named
        | inr e ↦ subst (Begins p) (sym e) is.span.next
      ] in
      numbered j begin (frames.next b.last j a reached at leads)
  exit_is b k is reached a at Returns among = tt
  exit_is b k is reached a at Throws among = tt

  each_block : (n : ℕ) (b : Block) → slice_get blocks n ≡ Some b → IsBlock p blocks b
  each_block n b at =
      let found = zip_left (IsMade p numbers) places blocks n b made at in
      let is = found.2 in
      let reached : Reached p b.first = subst (Reached p) (sym is.place) (first_reached n found.0 found.1) in
      let last_reached = inside_reached p b.first b.last is.span is.action is.ends reached b.last is.span.some (omega arith) in
      record {
        span = is.span;
        reached = reached;
        action = is.action;
        ends = is.ends;
        exits = subst (λ (exits : List Exit). AllZip (IsExit blocks) (departures b.last is.action) exits) (sym is.exits)
            (zip_map (IsExit blocks) (exit_by numbers) (departures b.last is.action) (exit_is b found.0 is last_reached is.action is.ends));
      }

  pub makes_flow : IsFlow p blocks
  makes_flow = record {
    each = each_block;
    ascend = λ m n b c lt left right.
        let one = zip_left (IsMade p numbers) places blocks m b made left in
        let other = zip_left (IsMade p numbers) places blocks n c made right in
        let less = heads.ascend m n one.0 other.0 lt one.1 other.1 in
        omega (arith, one.2.place, other.2.place);
    all = λ k begin reached. (get_or numbers k 0, numbered k begin reached);
  }

-- ---- the same, as the loop over the places finds it

pub heads_are : (begins marks : List Bool) (fs seen : List (Option Frame)) (places numbers : List ℕ) → AreHeads marks seen (length seen) places numbers → marks ≡ begins → seen ≡ fs → AreHeads begins fs (length fs) places numbers
heads_are begins marks fs seen places numbers heads same_marks same_frames =
    subst (λ (frames : List (Option Frame)). AreHeads begins frames (length frames) places numbers) same_frames
    (subst (λ (bs : List Bool). AreHeads bs seen (length seen) places numbers) same_marks heads)

pub head_at : (begins : List Bool) (fs : List (Option Frame)) (n : ℕ) (places numbers : List ℕ) (i : ℕ) → AreHeads begins fs n places numbers → i < length places → IsHead begins fs (get_or places i 0)
head_at begins fs n places numbers i heads lt = heads.each i (get_or places i 0) (slice_get-get_or places i 0 lt)

pub flow_of : (p : Program) (fs : List (Option Frame)) (begins : List Bool) (places items numbers : List ℕ) (i : ℕ) (blocks : List Block)
    → AreFrames p fs → AreBegins p begins → AreHeads begins fs (length fs) places numbers → items ≡ places → length items ≤ i → AllZip (IsMade p numbers) (take i items) blocks → IsFlow p blocks
flow_of p fs begins places items numbers i blocks well_typed marks heads same le all =
    makes_flow p fs well_typed begins marks places numbers heads blocks
    (subst (λ (l : List ℕ). AllZip (IsMade p numbers) l blocks) same (zip_all (IsMade p numbers) items blocks i le all))
