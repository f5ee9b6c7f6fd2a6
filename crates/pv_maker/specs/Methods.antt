-- The methods that are made, as lines of a listing.
use Rattle.std.specs.Prelude.{ℕ, zero, suc, ◌+◌, pos, Bool, true, false, not, nat_lt, if◌then◌else◌, List, [], ◌∷◌, ◌++◌, codes, decimal}
use Rattle.pv_listing.specs.declared.line.Line.{Line}
use Rattle.pv_listing.specs.declared.line.Line.TheVariants as lines
use Rattle.pv_listing.specs.declared.line.Operands.TheVariants as operands
use Rattle.pv_maker.specs.declared.draws.Draw.{Draw}
use Rattle.pv_maker.specs.declared.draws.Shape.{Shape}
use Rattle.pv_maker.specs.declared.draws.Shape.TheVariants as shape
use Rattle.pv_maker.specs.declared.methods.Loop.{Loop}
use Rattle.pv_maker.specs.declared.methods.Loop.TheVariants as turns
use Rattle.pv_maker.specs.Draws.{draw_from, after}

-- ---- instructions

abbrev pub plain : ℕ → Line
plain op = lines.Instruction op operands.Nothing

abbrev pub iconst_0 : Line
iconst_0 = plain 3

abbrev pub iadd : Line
iadd = plain 96

abbrev pub imul : Line
imul = plain 104

abbrev pub ireturn : Line
ireturn = plain 172

-- iload_0 to iload_3, and iload
abbrev pub load : ℕ → Line
load n = if nat_lt n 4 then plain (26 + n) else lines.Instruction 21 (operands.Local n)

-- istore_0 to istore_3, and istore
abbrev pub store : ℕ → Line
store n = if nat_lt n 4 then plain (59 + n) else lines.Instruction 54 (operands.Local n)

abbrev pub bipush : ℕ → Line
bipush c = lines.Instruction 16 (operands.Number (pos c))

abbrev pub iinc : ℕ → Line
iinc n = lines.Instruction 132 (operands.Increment n (pos 1))

abbrev pub if_icmpge : List ℕ → Line
if_icmpge label = lines.Instruction 162 (operands.Label label)

abbrev pub goto : List ℕ → Line
goto label = lines.Instruction 167 (operands.Label label)

-- ---- methods of two parameters a and b, which are locals 0 and 1

-- the factor times c
abbrev pub product : Line → ℕ → List Line
product factor c = factor ∷ bipush c ∷ imul ∷ []

-- the sum of a term and a product, in one order or the other
abbrev pub sum : Bool → Line → Line → ℕ → List Line
sum term_first term factor c = if term_first then term ∷ (product factor c ++ (iadd ∷ [])) else product factor c ++ (term ∷ iadd ∷ [])

-- a loop: the local that counts its turns, from 0 on and as long as it is below b; the label where a turn begins, and the one where the loop ends
abbrev pub local_of : Loop → ℕ
local_of turns.Outer = 3
local_of turns.Inner = 4

abbrev pub head_of : Loop → List ℕ
head_of turns.Outer = codes "H"
head_of turns.Inner = codes "K"

abbrev pub end_of : Loop → List ℕ
end_of turns.Outer = codes "E"
end_of turns.Inner = codes "L"

-- what stands before the body of a loop, and after it
abbrev pub loop_start : Loop → List Line
loop_start k = iconst_0 ∷ store (local_of k) ∷ lines.Label (head_of k) ∷ load (local_of k) ∷ load 1 ∷ if_icmpge (end_of k) ∷ []

abbrev pub loop_end : Loop → List Line
loop_end k = iinc (local_of k) ∷ goto (head_of k) ∷ lines.Label (end_of k) ∷ []

abbrev pub loop : Loop → List Line → List Line
loop k body = loop_start k ++ (body ++ loop_end k)

-- local 2 is its sum with the constant times the local that counts the turns; the twin adds the other way round
abbrev pub add : Bool → Loop → ℕ → List Line
add twin k c = sum (not twin) (load 2) (load (local_of k)) c ++ (store 2 ∷ [])

-- local 2 is a; the loops add to it; it is returned
abbrev pub looping : List Line → List Line
looping body = load 0 ∷ store 2 ∷ (body ++ (load 2 ∷ ireturn ∷ []))

-- what the outer loop does in a turn: it adds, or it goes through an inner loop that adds
abbrev pub turn : Bool → Bool → ℕ → List Line
turn twin nested c = if nested then loop turns.Inner (add twin turns.Inner c) else add twin turns.Outer c

-- the lines between the head of a method and its end
abbrev pub body : Bool → Shape → ℕ → List Line
-- a * c + b; the twin: b + a * c
body twin shape.Sum c = sum twin (load 1) (load 0) c ++ (ireturn ∷ [])
-- s = a; for i from 0 to b: s = s + i * c
body twin shape.Loop c = looping (loop turns.Outer (turn twin false c))
-- s = a; for i from 0 to b: for j from 0 to b: s = s + j * c
body twin shape.Nested c = looping (loop turns.Outer (turn twin true c))

-- the method of number i
abbrev pub title : ℕ → Line
title i = lines.Method (record { is_static = true; name = codes "m" ++ decimal i; desc = codes "(II)I"; stack = 3; locals = 5 })

abbrev pub method : Bool → ℕ → Draw → List Line
method twin i d = title i ∷ (body twin d.shape d.constant ++ (lines.End ∷ []))

-- the methods of the numbers below n
abbrev pub methods : Bool → ℕ → ℕ → List Line
methods twin seed zero = []
methods twin seed (suc n) = methods twin seed n ++ method twin n (draw_from (after n seed))

-- the class of n methods
abbrev pub listing : ℕ → ℕ → Bool → List Line
listing seed n twin = lines.Class (codes "G") ∷ methods twin seed n
