-- A method ends in one way, and a worked example from the bytes of a code to its end.
use Rattle.std.proofs.Common.{◌≡◌, ℕ, zero, suc, ◌<◌, pos, refl, List, [], ◌∷◌, Option, Some, false, subst, inl, inr, arith, lit≤, codes}
use Rattle.pv_machine.proofs.Words.{AllByRecursion, Int, I, Heap, World, Returned, ClassFile, Method, Code, IsBytes, one_code, Sort, Program, IsProgramOf, Frame, IsFrameAt, IsTyped, HasFrames, IsAccepted, some_of, no_some, one_program, ended, start, after, Ends, MethodEndsOnce}
use Rattle.pv_frame.specs.declared.sort.Sort.TheVariants as sort
use Rattle.pv_frame.specs.declared.used.Use.TheVariants as used
use Rattle.pv_frame.specs.declared.action.Action.TheVariants as act
use Rattle.pv_machine.proofs.Typing.{ends_once}

bytes_of : (bytes : List ℕ) → AllByRecursion (λ b. b < 256) bytes → IsBytes bytes
bytes_of [] all i = omega arith
bytes_of (b ∷ bytes) all zero = all.0
bytes_of (b ∷ bytes) all (suc i) = bytes_of bytes all.1 i

pub method_ends_once : MethodEndsOnce
method_ends_once file m bytes w input o q a b =
    let same : b.program ≡ a.program = one_program file m b.program a.program (λ code has. bytes_of code.bytes (bytes code has)) b.is.of_method a.is.of_method in
    ends_once a.program w (start a.program input) a.run.0 b.run.0 o q a.run.1 (subst (λ (p : Program). after p w (start p input) b.run.0 ≡ ended q) same b.run.1)

-- ---- a class with one static method, whose code is iconst_1, ireturn

abbrev code : Code
code = record { max_stack = 1; max_locals = 0; bytes = 0x04 ∷ 0xAC ∷ []; handlers = 0 }

abbrev method : Method
method = record { flags = 9; name = codes "f"; desc = codes "()I"; code = Some code }

abbrev file : ClassFile
file = record { pool = []; methods = method ∷ [] }

abbrev program : Program
program = record { actions = act.Push (Int (pos 1)) ∷ act.Give (Some sort.Int) ∷ []; instance = false; desc = record { params = []; result = Some I }; max_stack = 1; max_locals = 0 }

program_of_method : IsProgramOf file method program
program_of_method = record {
  code = code;
  has = refl;
  handlers = refl;
  unsynchronized = refl;
  desc = record { fields = []; last = codes "I"; params = tt; result = inl (refl, refl); spelled = refl };
  floatless = (tt, tt);
  actions = record { placed = _; spelled = one_code; acts = ((used.None, (refl, refl)), ((used.None, (refl, refl)), tt)) };
  instance = refl;
  max_stack = refl;
  max_locals = refl;
}

abbrev frame : List Sort → Frame
frame stack = record { stack = stack; locals = [] }

abbrev frames : List (Option Frame)
frames = Some (frame []) ∷ Some (frame (sort.Int ∷ [])) ∷ []

typed : HasFrames program
typed = (
  frames,
  record {
    passed = lit≤ tt;
    entry = record { target = frame []; there = refl; flows = record { stack = refl; locals = tt } };
    each = each;
  },
)
  where
    each : (k : ℕ) (f : Frame) → IsFrameAt frames k f → IsTyped program frames k f
    each zero f e = subst (IsTyped program frames 0) (some_of _ _ (some_of _ _ e))
        (record { action = act.Push (Int (pos 1)); at = refl; room = lit≤ tt; goes = inr (record { after = frame (sort.Int ∷ []); is = refl; edges = (record { target = frame (sort.Int ∷ []); there = refl; flows = record { stack = refl; locals = tt } }, tt) }) })
    each (suc zero) f e = subst (IsTyped program frames 1) (some_of _ _ (some_of _ _ e)) (record { action = act.Give (Some sort.Int); at = refl; room = lit≤ tt; goes = inl (refl, (_, refl)) })
    each (suc (suc k)) f e = no_some _ e

accepted : IsAccepted file method program
accepted = record { of_method = program_of_method; code = code; has = refl; short = lit≤ tt; few = lit≤ tt; typed = typed }

-- in every world, and from every heap, it ends with 1
returns_one : (w : World) (h : Heap) → Ends file method w (record { this = 1; args = []; heap = h }) (Returned (Some (Int (pos 1))) h)
unfolding after
returns_one w h = record { program = program; is = record { of_method = program_of_method; typed = typed }; run = (2, refl) }
