-- Moves, by the blocks that they take.
use Rattle.std.proofs.Common.{◌≡◌, ℕ, ◌+◌, ◌<◌, ◌≤◌, List, ◌++◌, length, drop, Some, Ok, Err, refl, ap, ◌∙◌, arith, length-append, length-drop, Result, OnErr}
use Rattle.pv_machine.proofs.Words.{sort_of, ◌>>=◌, Num, Taken, copied, Part, Block, values, size, taken_by, IsTaken}
use Rattle.pv_machine.specs.Moves.{IsOverfull}
use Rattle.pv_machine.specs.declared.moves.Block.TheVariants as block

size_is : (b : Block) → length (values b) ≡ size b
size_is block.Nothing = refl
size_is (block.One n) = refl
size_is (block.Two below top) = refl

pub on_err : {T E P : Type 0} (r : Result T E) → P → OnErr r P
on_err (Ok x) p = tt
on_err (Err e) p = p

-- what is copied is there, so the stack is copied to this one
pub copied_is : (above under : Part) (nums : List Num) (top next : Block) → taken_by sort_of above nums ≡ Some (values top, drop (size top) nums) → taken_by sort_of under (drop (size top) nums) ≡ Some (values next, drop (size next) (drop (size top) nums)) →
    copied (taken_by sort_of above) (taken_by sort_of under) nums ≡ Some (values top ++ values next ++ values top ++ drop (size next) (drop (size top) nums))
copied_is above under nums top next e d =
    ap (λ (t : Taken Num). t >>= λ p. taken_by sort_of under p.1 >>= λ q. Some (p.0 ++ q.0 ++ p.0 ++ q.1)) e
    ∙ ap (λ (t : Taken Num). t >>= λ q. Some (values top ++ q.0 ++ values top ++ q.1)) d

-- it has as many numbers more as are copied
longer : (nums : List Num) (top next : Block) → size top ≤ length nums → size next ≤ length (drop (size top) nums) →
    length (values top ++ values next ++ values top ++ drop (size next) (drop (size top) nums)) ≡ length nums + size top
longer nums top next h k =
    let t = size_is top in
    let n = size_is next in
    simp (length-append, length-drop) (omega (arith, t, n, h, simp length-drop at k))

pub overfull : {T E : Type 0} (r : Result T E) (above under : Part) (nums : List Num) (room : ℕ) (top next : Block) → IsTaken (taken_by sort_of above nums) nums (Some top) → IsTaken (taken_by sort_of under (drop (size top) nums)) (drop (size top) nums) (Some next) →
    room < length nums + size top → OnErr r (IsOverfull (copied (taken_by sort_of above) (taken_by sort_of under) nums) room)
overfull r above under nums room top next e d lack =
    let long = longer nums top next e.1 d.1 in
    on_err r (_, copied_is above under nums top next e.0 d.0, omega (arith, long, lack))
