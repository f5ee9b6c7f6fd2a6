-- What the code of an instance answers, as an instance.
use Rattle.std.proofs.Common.{◌≡◌, ℕ, ◌+◌, ◌-◌, ◌≤◌, false, List, [], ◌∷◌, ◌++◌, length, map, take, drop, refl, sym, ap, ◌∙◌, subst, arith, true, Bool, ◌&&◌, length-append}
use Rattle.std.specs.List.{AllByRecursion}
use Rattle.std.proofs.lemmas.List.{append-nil}
use Rattle.std.proofs.Math.Seq.{take-append_seam, drop-append_seam}
use Rattle.pv_graph.specs.Graphs.{Graph, form_at}
use Rattle.pv_graph.specs.Walks.{In, IsSettled}
use Rattle.pv_pattern.specs.declared.names.NameId.{NameId}
use Rattle.pv_pattern.specs.Patterns.{Pattern, Axiom, settled, variables, is_family}
use Rattle.pv_pattern.specs.Instances.{Names, Stands, Holds, IsInstance, HoldsForAll, IsOpenInstance}
use Rattle.pv_pattern.specs.declared.names.Reading.{Reading}
use Rattle.pv_pattern.specs.declared.pattern.Axiom as declared
use Rattle.pv_pattern.specs.Seen.{seen, side_seen, axiom_seen}
use Rattle.pv_pattern.specs.Found.{found, HasNoReading, IsReading, names_of, view_of}
use Rattle.pv_pattern.specs.Binding.{names, sides_names, binds, binds_all, BindsItsNames}
use Rattle.pv_pattern.proofs.Binding.{Agree, agree, agree_back, in_left, in_right, stays, all_hold, all_hold_for_all}
use Rattle.std.proofs.Common.{⊎_elim, ◌↔◌, IsTrue, Some, None, slice_get, true≢false, Result, Ok, Err, IfOk}

-- lists with equal last parts' lengths are parted alike
parted : (xs bs cs ds : List ℕ) → xs ++ bs ≡ cs ++ ds → length bs ≡ length ds → (xs ≡ cs) × (bs ≡ ds)
parted xs bs cs ds e long =
    let total : length xs + length bs ≡ length cs + length ds = sym (length-append xs bs) ∙ ap length e ∙ length-append cs ds in
    let front : length xs ≡ length cs = omega arith in (
      sym (take-append_seam xs bs) ∙ ap (λ (n : ℕ). take n (xs ++ bs)) front ∙ ap (take (length cs)) e ∙ take-append_seam cs ds,
      sym (drop-append_seam xs bs) ∙ ap (λ (n : ℕ). drop n (xs ++ bs)) front ∙ ap (drop (length cs)) e ∙ drop-append_seam cs ds,
    )

bound : (p : Pattern) (ms : List NameId) → binds_all p ms ≡ true → (n : NameId) → In ms n → binds p n ≡ true
bound p [] e n i = absurd i
bound p (m ∷ ms) e n i = ⊎_elim (λ same. subst (λ (k : NameId). binds p k ≡ true) same (and_first (binds p m) (binds_all p ms) e)) (bound p ms (and_second (binds p m) (binds_all p ms) e) n) i
  where
    and_first : (a b : Bool) → (a && b) ≡ true → a ≡ true
    and_first true b e = refl
    and_first false b e = absurd (cc)

    and_second : (a b : Bool) → (a && b) ≡ true → b ≡ true
    and_second true b e = e
    and_second false b e = absurd (cc)

module _ (g : Graph) (assumed : List ℕ) (a : Axiom) (subst_ : List ℕ) (l r : ℕ) (kids vars : List ℕ) where
  abbrev pub the_names : Names
  the_names = found (form_at g.nodes) a.left l kids vars

  pub answers : subst_ ≡ kids ++ vars → length vars ≡ variables a.left → (is_family a.left ≡ false → kids ≡ [])
      → Stands (form_at g.nodes) the_names a.left l → Stands (form_at g.nodes) the_names a.right r → AllByRecursion (Holds g assumed the_names) a.sides
      → IsInstance g assumed a subst_ l r
  answers are long alone left right sides = record { names = the_names; are = are; long = long; alone = alone; left = left; right = right; sides = sides }

  -- an instance stands with the names found
  pub found_stands : BindsItsNames a → subst_ ≡ kids ++ vars → length vars ≡ variables a.left → IsInstance g assumed a subst_ l r
      → Stands (form_at g.nodes) the_names a.left l × Stands (form_at g.nodes) the_names a.right r × AllByRecursion (Holds g assumed the_names) a.sides
  found_stands binding are long i =
      let m = i.names in
      let parts = parted m.kids m.vars kids vars (sym i.are ∙ are) (i.long ∙ sym long) in
      let all = names a.left ++ (names a.right ++ sides_names a.sides) in
      let agrees : (n : NameId) → In all n → Agree m the_names n =
      λ n there. agree_back the_names m n (agree (form_at g.nodes) m a.left l kids vars i.left n (bound a.left all binding n there)) in (
        stays m the_names parts.1 parts.0 (form_at g.nodes) a.left l (λ n there. agrees n (in_left (names a.left) (names a.right ++ sides_names a.sides) n there)) i.left,
        stays m the_names parts.1 parts.0 (form_at g.nodes) a.right r (λ n there. agrees n (in_right (names a.left) (names a.right ++ sides_names a.sides) n (in_left (names a.right) (sides_names a.sides) n there))) i.right,
        all_hold m the_names parts.1 parts.0 g assumed a.sides (λ n there. agrees n (in_right (names a.left) (names a.right ++ sides_names a.sides) n (in_right (names a.right) (sides_names a.sides) n there))) i.sides,
      )

  -- what holds for all of an instance's names does so of the names found
  pub found_for_all : BindsItsNames a → subst_ ≡ kids ++ vars → length vars ≡ variables a.left → (i : IsInstance g assumed a subst_ l r)
      → AllByRecursion (HoldsForAll g i.names) a.sides → AllByRecursion (HoldsForAll g the_names) a.sides
  found_for_all binding are long i all_ =
      let m = i.names in
      let parts = parted m.kids m.vars kids vars (sym i.are ∙ are) (i.long ∙ sym long) in
      let all = names a.left ++ (names a.right ++ sides_names a.sides) in
      let agrees : (n : NameId) → In all n → Agree m the_names n =
      λ n there. agree_back the_names m n (agree (form_at g.nodes) m a.left l kids vars i.left n (bound a.left all binding n there)) in
      all_hold_for_all m the_names parts.1 parts.0 g a.sides (λ n there. agrees n (in_right (names a.left) (names a.right ++ sides_names a.sides) n (in_right (names a.right) (sides_names a.sides) n there))) all_

pub not_instance : (g : Graph) (assumed : List ℕ) (a : Axiom) (subst_ : List ℕ) (l r : ℕ) → HasNoReading a.left subst_ → IsInstance g assumed a subst_ l r → ⊥
not_instance g assumed a subst_ l r never i = never i.names.kids i.names.vars i.are i.long i.alone

pub var_settled : (g : Graph) (assumed : List ℕ) (m : Names) (j n : ℕ) (b : Bool) → slice_get m.vars j ≡ Some n → (IsTrue b ↔ IsSettled (form_at g.nodes) assumed n) → IsTrue b ↔ Holds g assumed m (settled j)
var_settled g assumed m j n b at same = (
  λ yes. (n, at, same.0 yes),
  λ (k, there, s). same.1 (let is : k ≡ n = cc in subst (IsSettled (form_at g.nodes) assumed) is s),
)

pub no_var_settled : (g : Graph) (assumed : List ℕ) (m : Names) (j : ℕ) → slice_get m.vars j ≡ None → IsTrue false ↔ Holds g assumed m (settled j)
no_var_settled g assumed m j at = (λ e. absurd (true≢false (sym e)), λ (k, there, s). absurd (cc))

-- what stands and holds with the names found is just an instance
abbrev Answers : Graph → List ℕ → Axiom → List ℕ → List ℕ → ℕ → ℕ → Graph → Pattern → ℕ → Type 0
Answers g assumed a kids vars l r h left n =
    (Stands (form_at h.nodes) (found (form_at h.nodes) left n kids vars) a.left l × Stands (form_at h.nodes) (found (form_at h.nodes) left n kids vars) a.right r)
    × AllByRecursion (Holds h assumed (found (form_at h.nodes) left n kids vars)) a.sides

pub reads : (g : Graph) (rule : declared.Axiom) (assumed subst_ : List ℕ) (l r : ℕ) (reading : Reading) → BindsItsNames (axiom_seen rule) → IsReading g rule.left subst_ l reading
    → IsInstance g assumed (axiom_seen rule) subst_ l r
    ↔ ((Stands (view_of reading) (names_of reading) (seen rule.left) l × Stands (view_of reading) (names_of reading) (seen rule.right) r)
    × AllByRecursion (Holds reading.graph.now assumed (names_of reading)) (map side_seen rule.sides.items))
reads g rule assumed subst_ l r reading binding h =
    let a = axiom_seen rule in
    let kids = reading.kids.now in
    let vars = reading.vars.now in
    let Is : Graph → Pattern → ℕ → Type 0 = λ h left n. IsInstance g assumed a subst_ l r ↔ Answers g assumed a kids vars l r h left n in
    let base : Is g (seen rule.left) l = (
      λ i. let f = found_stands g assumed a subst_ l r kids vars binding h.are h.long i in ((f.0, f.1), f.2),
      λ ((left, right), sides). answers g assumed a subst_ l r kids vars h.are h.long h.alone left right sides,
    ) in
    subst (λ (k : Graph). Is k (seen reading.left.now) reading.at) (sym h.graph_)
    (subst (λ (p : Pattern). Is g p reading.at) (sym (ap seen h.left_)) (subst (λ (n : ℕ). Is g (seen rule.left) n) (sym h.at_) base))

-- .. whatever stands for the variables of the graph
abbrev OpenAnswers : Graph → List ℕ → Axiom → List ℕ → List ℕ → ℕ → ℕ → Graph → Pattern → ℕ → Type 0
OpenAnswers g assumed a kids vars l r h left n = Answers g assumed a kids vars l r h left n × AllByRecursion (HoldsForAll h (found (form_at h.nodes) left n kids vars)) a.sides

pub open_reads : (g : Graph) (rule : declared.Axiom) (assumed subst_ : List ℕ) (l r : ℕ) (reading : Reading) → BindsItsNames (axiom_seen rule) → IsReading g rule.left subst_ l reading
    → IsOpenInstance g assumed (axiom_seen rule) subst_ l r
    ↔ (((Stands (view_of reading) (names_of reading) (seen rule.left) l × Stands (view_of reading) (names_of reading) (seen rule.right) r)
    × AllByRecursion (Holds reading.graph.now assumed (names_of reading)) (map side_seen rule.sides.items))
    × AllByRecursion (HoldsForAll reading.graph.now (names_of reading)) (map side_seen rule.sides.items))
unfolding answers
open_reads g rule assumed subst_ l r reading binding h =
    let a = axiom_seen rule in
    let kids = reading.kids.now in
    let vars = reading.vars.now in
    let Is : Graph → Pattern → ℕ → Type 0 = λ h left n. IsOpenInstance g assumed a subst_ l r ↔ OpenAnswers g assumed a kids vars l r h left n in
    let base : Is g (seen rule.left) l = (
      λ i.
          let f = found_stands g assumed a subst_ l r kids vars binding h.are h.long i.instance_ in
          (((f.0, f.1), f.2), found_for_all g assumed a subst_ l r kids vars binding h.are h.long i.instance_ i.for_all),
      λ (((left, right), sides), all). record { instance_ = answers g assumed a subst_ l r kids vars h.are h.long h.alone left right sides; for_all = all },
    ) in
    subst (λ (k : Graph). Is k (seen reading.left.now) reading.at) (sym h.graph_)
    (subst (λ (p : Pattern). Is g p reading.at) (sym (ap seen h.left_)) (subst (λ (n : ℕ). Is g (seen rule.left) n) (sym h.at_) base))

pub if_ok_weaker : {A E : Type 0} {P Q : A → Type 0} (r : Result A E) → ((a : A) → P a → Q a) → IfOk r P → IfOk r Q
if_ok_weaker (Ok a) f p = f a p
if_ok_weaker (Err e) f p = p
