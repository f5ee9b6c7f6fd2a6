-- Flows with the same values are one flow, and so are those of a method by two forests of its loops.
use Rattle.std.proofs.Common.{◌≡◌, ◌==◌, ℕ, zero, suc, List, [], ◌∷◌, length, Option, Some, None, refl, ap, ◌∙◌, arith}
use Rattle.std.specs.Prelude.{slice_get, slice_index_or, ◌||◌, if◌then◌else◌}
use Rattle.std.specs.List.{AllZip, list_any}
use mathlib.Core.HLevel.{is_prop→PathP}
use mathlib.Core.Sum.{⊎_set}
use native.Mathlib.Nat.{ℕ_set}
use Rattle.pv_frame.specs.declared.program.Program.{Program}
use Rattle.pv_frame.specs.declared.frame.Frame.{Frame}
use Rattle.pv_flow.specs.declared.block.Block.{Block}
use Rattle.pv_loops.specs.declared.forest.Forest.{Forest}
use Rattle.pv_loops.specs.declared.forest.Loop.{Loop}
use Rattle.pv_loops.specs.declared.forest.TheConstants.{MAX_DEPTH}
use Rattle.pv_loops.specs.Forests.{IsSameForest, IsSameLoop}
use Rattle.pv_loops.specs.Ranks.{header_and, headers_from}
use Rattle.pv_graph.specs.Ops.{Shape, plain, shape}
use Rattle.pv_equations.specs.Flow.{Flow}
use Rattle.pv_runs.specs.Carrying.{always_carried, writes_in, members_of}
use Rattle.pv_runs.specs.Methods.{flow_of}

-- ---- flows

-- the same entry, and the same chain, loops, carried slots and operations for each block and slot
pub record AreAlike (f g : Flow) : Type 0 where
  pub entry : f.entry ≡ g.entry
  pub chain : (b : ℕ) → f.chain b ≡ g.chain b
  pub around : (b : ℕ) → f.around b ≡ g.around b
  pub carried : (h s : ℕ) → f.carried h s ≡ g.carried h s
  pub start : (s : ℕ) → f.start s ≡ g.start s

-- shapes are equal in one way at most, so that it doesn't matter why the operations at the entry are plain
shape_set : IsSet Shape
shape_set = hlevel (⊎_set, ℕ_set)

pub same_flow : (f g : Flow) → AreAlike f g → f ≡ g
same_flow f g a = λ i. record {
  entry = a.entry i;
  chain = λ b. a.chain b i;
  around = λ b. a.around b i;
  carried = λ h s. a.carried h s i;
  start = λ s. a.start s i;
  start_plain = λ s. is_prop→PathP (λ j. shape (a.start s j) ≡ plain) (λ j. shape_set (shape (a.start s j)) plain) (f.start_plain s) (g.start_plain s) i;
}

-- ---- the loops of one method, in two forests

-- no loop at a place of either list, or one loop at that of both
abbrev IsAlikeAt : Option Loop → Option Loop → Type 0
IsAlikeAt None None = Unit {0}
IsAlikeAt (Some k) (Some l) = IsSameLoop k l
IsAlikeAt a b = ⊥

zipped : (xs ys : List Loop) → length xs ≡ length ys → ((i : ℕ) (k l : Loop) → slice_get xs i ≡ Some k → slice_get ys i ≡ Some l → IsSameLoop k l) → AllZip IsSameLoop xs ys
zipped [] [] e same = tt
zipped [] (l ∷ ys) e same = absurd (omega (arith, e))
zipped (k ∷ xs) [] e same = absurd (omega (arith, e))
zipped (k ∷ xs) (l ∷ ys) e same = (same 0 k l refl refl, zipped xs ys (omega (arith, e)) (λ i x y at to. same (suc i) x y at to))

alike_at : (xs ys : List Loop) → AllZip IsSameLoop xs ys → (i : ℕ) → IsAlikeAt (slice_get xs i) (slice_get ys i)
alike_at [] [] same i = tt
alike_at (k ∷ xs) (l ∷ ys) same zero = same.0
alike_at (k ∷ xs) (l ∷ ys) same (suc i) = alike_at xs ys same.1 i
alike_at _ _ same i = absurd same

one_header_and : (f g : Option ℕ → List ℕ) → ((at : Option ℕ) → f at ≡ g at) → (a b : Option Loop) → IsAlikeAt a b → header_and f a ≡ header_and g b
one_header_and f g outer None None same = refl
one_header_and f g outer (Some k) (Some l) same = ap (λ h. h ∷ f k.parent) same.header ∙ ap (λ (at : Option ℕ). l.header ∷ f at) same.parent ∙ ap (λ hs. l.header ∷ hs) (outer l.parent)
one_header_and f g outer _ _ same = absurd same

one_around : (n : ℕ) (xs ys : List Loop) → AllZip IsSameLoop xs ys → (at : Option ℕ) → headers_from n xs at ≡ headers_from n ys at
unfolding headers_from
one_around zero xs ys same at = refl
one_around (suc n) xs ys same None = refl
one_around (suc n) xs ys same (Some i) = one_header_and (headers_from n xs) (headers_from n ys) (one_around n xs ys same) (slice_get xs i) (slice_get ys i) (alike_at xs ys same i)

one_members : (xs ys : List Loop) → AllZip IsSameLoop xs ys → (h : ℕ) → members_of xs h ≡ members_of ys h
one_members [] [] same h = refl
one_members [] (l ∷ ys) same h = absurd same
one_members (k ∷ xs) [] same h = absurd same
one_members (k ∷ xs) (l ∷ ys) same h =
    ap (λ header. if header == h then k.members.items else members_of xs h) same.0.header
    ∙ ap (λ (members : List ℕ). if l.header == h then members else members_of xs h) same.0.members
    ∙ ap (λ (rest : List ℕ). if l.header == h then l.members.items else rest) (one_members xs ys same.1 h)

pub alike_flows : (p : Program) (frames : List (Option Frame)) (blocks : List Block) (f g : Forest) → IsSameForest f g → AreAlike (flow_of p frames blocks f) (flow_of p frames blocks g)
alike_flows p frames blocks f g same =
    let loops = zipped f.loops.items g.loops.items same.size same.loops in record {
      entry = refl;
      chain = λ b. refl;
      around = λ b. ap (λ (home : List (Option ℕ)). headers_from MAX_DEPTH f.loops.items (slice_index_or home b None)) same.home ∙ one_around MAX_DEPTH f.loops.items g.loops.items loops (slice_index_or g.home.items b None);
      carried = λ h s. ap (λ (members : List ℕ). always_carried p s || list_any (writes_in p frames blocks s) members) (one_members f.loops.items g.loops.items loops h);
      start = λ s. refl;
    }
