-- What blocks write together.
use Rattle.std.proofs.Common.{◌≡◌, ℕ, ◌+◌, ◌<◌, Bool, false, List, length, take, get_or, Some, slice_get, sym, ap, ◌∙◌, subst}
use Rattle.pv_layout.proofs.Words.{◌||◌, list_any, list_any_more, slice_get-get_or, local_slot, Writes, Marks, IsUnion}

union : (count : ℕ) (f g : ℕ → Bool) (a b both : Writes) → Marks count f a → Marks count g b → IsUnion a b both → Marks count (λ s. f s || g s) both
union count f g a b both x y u = record {
  heap = u.heap ∙ ap (λ (t : Bool). t || b.heap) x.heap ∙ ap (λ (t : Bool). f 3 || t) y.heap;
  size = u.size ∙ x.size;
  locals = λ k low.
      u.locals k (subst (λ (n : ℕ). k < n) (sym x.size) low) ∙ ap (λ (t : Bool). t || get_or b.locals.items k false) (x.locals k low) ∙ ap (λ (t : Bool). f (local_slot k) || t) (y.locals k low);
}

pub marks_as : (count : ℕ) (f g : ℕ → Bool) (w : Writes) → ((s : ℕ) → f s ≡ g s) → Marks count f w → Marks count g w
marks_as count f g w same m = record { heap = m.heap ∙ same 3; size = m.size; locals = λ k low. m.locals k low ∙ same (local_slot k) }

-- the block at a place of a list
pub block_at : (blocks : List Writes) (m : ℕ) (d b : Writes) → m < length blocks → b ≡ get_or blocks m d → slice_get blocks m ≡ Some b
block_at blocks m d b low e = slice_get-get_or blocks m d low ∙ ap Some (sym e)

-- .. and those of one member more
pub union_more : (count : ℕ) (test : ℕ → ℕ → Bool) (members : List ℕ) (i : ℕ) (all b both : Writes) → i < length members → Marks count (λ s. list_any (λ n. test n s) (take i members)) all → Marks count (test (get_or members i 0)) b
    → IsUnion all b both → Marks count (λ s. list_any (λ n. test n s) (take (i + 1) members)) both
union_more count test members i all b both low x y u =
    marks_as count (λ s. list_any (λ n. test n s) (take i members) || test (get_or members i 0) s) (λ s. list_any (λ n. test n s) (take (i + 1) members)) both (λ s. sym (list_any_more (λ n. test n s) members i 0 low))
    (union count (λ s. list_any (λ n. test n s) (take i members)) (test (get_or members i 0)) all b both x y u)
