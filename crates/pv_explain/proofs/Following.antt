-- The lines on a path, one after the other.
use Rattle.std.specs.Prelude.{◌≡◌, ℕ, zero, suc, ◌+◌, ◌<◌, List, [], ◌∷◌, ◌++◌, length, Some, slice_get, take, drop, Option}
use Rattle.std.proofs.Math.ListN.{get_or}
use Rattle.std.proofs.Math.Seq.{drop-cons, take-suc}
use Rattle.std.proofs.Common.{refl, sym, ap, ◌∙◌, subst, arith}
use Rattle.std.proofs.lemmas.Option.{same_Some}
use Rattle.pv_steps.specs.declared.step.Reason.{Reason}
use Rattle.pv_steps.specs.declared.step.Reason.TheVariants.{Same, By, Pair}
use Rattle.pv_steps.specs.Right.{Gives}
use Rattle.pv_paths.specs.declared.forest.Way.{Way}
use Rattle.pv_paths.specs.declared.forest.Way.TheVariants.{Forth, Back}
use Rattle.pv_paths.specs.Paths.{Crosses, Leads}
use Rattle.pv_writer.specs.Written.{Written, inside, GoesOn}
use Rattle.pv_writer.proofs.Pushing.{fact_goes}
use Rattle.pv_explain.specs.declared.follow.Line.{Line}
use Rattle.pv_explain.specs.declared.follow.Reached.{Reached}
use Rattle.pv_explain.specs.Copies.{IsCopied}
use Rattle.pv_explain.specs.Lines.{AreStated, AreFacts, sides, LineOf, ReachBy, IsReached, GivesCopies}

-- ---- lines stay

pub stated_goes : (old new : Written) (map : List (Option ℕ)) (lines : List Line) → GoesOn old new → AreStated old map lines → AreStated new map lines
stated_goes old new map lines goes h j l e = let s = h j l e in record { left = s.left; right = s.right; known = fact_goes old new l.fact l.left l.right goes s.known }

pub facts_goes : (old new : Written) (lines : List Line) → GoesOn old new → AreFacts old lines → AreFacts new lines
facts_goes old new lines goes h j l e = fact_goes old new l.fact l.left l.right goes (h j l e)

pub stated_facts : (w : Written) (map : List (Option ℕ)) (lines : List Line) → AreStated w map lines → AreFacts w lines
stated_facts w map lines h j l e = (h j l e).known

pub gives_goes : (old new : Written) (r : Reason) (a b : ℕ) → GoesOn old new → Gives old.before (inside old) [] r a b → Gives new.before (inside new) [] r a b
gives_goes old new Same a b goes h = h
gives_goes old new (By f) a b goes h = fact_goes old new f a b goes h
gives_goes old new (Pair j) a b goes h = h

-- ---- a path of lines

line_same : (lines : List Line) (j : ℕ) (k l : Line) → slice_get lines j ≡ Some k → slice_get lines j ≡ Some l → k ≡ l
line_same lines j k l e f = same_Some _ _ (sym e ∙ f)

pub line_once : (lines : List Line) (w : Way) (a b c d : ℕ) → LineOf lines w a b → LineOf lines w c d → (a ≡ c) × (b ≡ d)
line_once lines (Forth j) a b c d h k = let e = line_same lines j h.0 k.0 h.1 k.1 in (sym h.2 ∙ ap (λ (l : Line). l.left) e ∙ k.2, sym h.3 ∙ ap (λ (l : Line). l.right) e ∙ k.3)
line_once lines (Back j) a b c d h k = let e = line_same lines j h.0 k.0 h.1 k.1 in (sym h.2 ∙ ap (λ (l : Line). l.right) e ∙ k.2, sym h.3 ∙ ap (λ (l : Line). l.left) e ∙ k.3)

reach_once : (lines : List Line) (ws : List Way) (x y z : ℕ) → ReachBy lines ws x y → ReachBy lines ws x z → y ≡ z
reach_once lines [] x y z h k = sym h ∙ k
reach_once lines (w ∷ ws) x y z h k =
    let e = (line_once lines w x h.0 x k.0 h.1 k.1).1 in
    reach_once lines ws h.0 y z h.2 (subst (λ (n : ℕ). ReachBy lines ws n z) (sym e) k.2)

reach_more : (lines : List Line) (ws : List Way) (w : Way) (x y z : ℕ) → ReachBy lines ws x y → LineOf lines w y z → ReachBy lines (ws ++ w ∷ []) x z
reach_more lines [] w x y z h k = (z, subst (λ (n : ℕ). LineOf lines w n z) (sym h) k, refl)
reach_more lines (v ∷ ws) w x y z h k = (h.0, h.1, reach_more lines ws w h.0 y z h.2 k)

one_more : (n : ℕ) → suc n ≡ n + 1
one_more n = omega arith

-- the first way of what is left
pub next_line : (lines : List Line) (path : List Way) (i x : ℕ) → i < length path → ((y : ℕ) × ReachBy lines (drop i path) x y) → (z : ℕ) × LineOf lines (get_or path i (Forth 0)) x z × ((y : ℕ) × ReachBy lines (drop (i + 1) path) z y)
next_line lines path i x low h =
    let r = subst (λ (ws : List Way). ReachBy lines ws x h.0) (drop-cons path i (Forth 0) low) h.1 in
    (r.0, r.1, (h.0, subst (λ (n : ℕ). ReachBy lines (drop n path) r.0 h.0) (one_more i) r.2))

-- one way more
pub next_reached : (lines : List Line) (path : List Way) (i first x z : ℕ) → i < length path → ReachBy lines (take i path) first x → LineOf lines (get_or path i (Forth 0)) x z → ReachBy lines (take (i + 1) path) first z
next_reached lines path i first x z low h l =
    subst (λ (n : ℕ). ReachBy lines (take n path) first z) (one_more i)
    (subst (λ (ws : List Way). ReachBy lines ws first z) (sym (take-suc path i (Forth 0) low)) (reach_more lines (take i path) (get_or path i (Forth 0)) first x z h l))

-- ---- a path through the two nodes of each line

side_line : (lines : List Line) (j a b : ℕ) → slice_get (sides lines) j ≡ Some (a, b) → (l : Line) × (slice_get lines j ≡ Some l) × (l.first ≡ a) × (l.second ≡ b)
side_line [] j a b e = absurd (cc)
side_line (l ∷ lines) zero a b e = let z = same_Some (l.first, l.second) (a, b) e in (l, refl, ap (λ (p : ℕ × ℕ). p.0) z, ap (λ (p : ℕ × ℕ). p.1) z)
side_line (l ∷ lines) (suc j) a b e = side_line lines j a b e

pub copied_one : (map : List (Option ℕ)) (k m n : ℕ) → IsCopied map k m → IsCopied map k n → m ≡ n
copied_one map k m n h i = same_Some m n (same_Some (Some m) (Some n) (sym h ∙ i))

line_copies : (w : Written) (map : List (Option ℕ)) (lines : List Line) → AreStated w map lines → (j a b : ℕ) → slice_get (sides lines) j ≡ Some (a, b) → (l : Line) × (slice_get lines j ≡ Some l) × IsCopied map a l.left × IsCopied map b l.right
line_copies w map lines stated j a b e =
    let l = side_line lines j a b e in let s = stated j l.0 l.1 in
    (l.0, l.1, subst (λ (n : ℕ). IsCopied map n l.0.left) l.2 s.left, subst (λ (n : ℕ). IsCopied map n l.0.right) l.3 s.right)

way_line : (w : Written) (map : List (Option ℕ)) (lines : List Line) (before : ℕ) → AreStated w map lines → (v : Way) (a b : ℕ) → Crosses (sides lines) before v a b → (x y : ℕ) × IsCopied map a x × IsCopied map b y × LineOf lines v x y
way_line w map lines before stated (Forth j) a b h = let c = line_copies w map lines stated j a b h.1 in (c.0.left, c.0.right, c.2, c.3, (c.0, c.1, refl, refl))
way_line w map lines before stated (Back j) a b h = let c = line_copies w map lines stated j b a h.1 in (c.0.right, c.0.left, c.3, c.2, (c.0, c.1, refl, refl))

pub leads_reach : (w : Written) (map : List (Option ℕ)) (lines : List Line) (before : ℕ) → AreStated w map lines → (ws : List Way) (a b x : ℕ) → Leads (sides lines) before ws a b → IsCopied map a x → (y : ℕ) × ReachBy lines ws x y × IsCopied map b y
leads_reach w map lines before stated [] a b x h c = (x, refl, subst (λ (n : ℕ). IsCopied map n x) h c)
leads_reach w map lines before stated (v ∷ ws) a b x h c =
    let l = way_line w map lines before stated v a h.0 h.1 in
    let e = copied_one map a l.0 x l.2 c in
    let r = leads_reach w map lines before stated ws h.0 b l.1 h.2 l.3 in
    (r.0, (l.1, subst (λ (n : ℕ). LineOf lines v n l.1) e l.4, r.1), r.2)

-- what is reached from the copy of k is the copy of l
pub gives_copies : (old new : Written) (map : List (Option ℕ)) (lines : List Line) (before : ℕ) → AreStated old map lines → (ws : List Way) (k l x : ℕ) (r : Reached) → Leads (sides lines) before ws k l → IsCopied map k x → ReachBy lines ws x r.node → IsReached new x r
    → GivesCopies new map r.why k l
gives_copies old new map lines before stated ws k l x r leads c reach why m n h i =
    let z = leads_reach old map lines before stated ws k l x leads c in
    let e : r.node ≡ n = reach_once lines ws x r.node z.0 reach z.1 ∙ copied_one map l z.0 n z.2 i in
    subst (λ (q : ℕ). Gives new.before (inside new) [] r.why m q) e (subst (λ (q : ℕ). Gives new.before (inside new) [] r.why q r.node) (copied_one map k x m c h) why)
