-- Chains of a flow of equations, and the exits of the code.
use Rattle.std.proofs.Common.{◌≡◌, ℕ, zero, suc, ◌<◌, List, [], ◌∷◌, Bool, length, get_or, Some, slice_get, inl, inr, refl, sym, ap, ◌∙◌, subst, arith}
use Rattle.pv_decide.proofs.Words.{Contains, Decides, slice_get_within, slice_get-get_or, Part, Exit, Chain, Leave, Test, InChain, Site, dest_of, exit_at, test_at, GoTo, GoesTo, IsAround, AreInRange, IsInRange}
use Rattle.pv_flow.specs.declared.block.Exit as code
use Rattle.pv_flow.specs.declared.block.Exit.TheVariants as dest

pub found : (sites : List Site) (b : ℕ) → b < length sites → (k : Site) × (slice_get sites b ≡ Some k)
found [] b less = absurd (omega arith)
found (k ∷ sites) zero less = (k, refl)
found (k ∷ sites) (suc b) less = found sites b (omega arith)

-- whether a loop has a block is decided by the headers around it
pub around_loop : (sites : List Site) (b h : ℕ) (z : Bool) (k : Site) → slice_get sites b ≡ Some k → Decides z (Contains k.around.items h) → Decides z (IsAround sites b h)
around_loop sites b h z k here d =
    ((λ y. (k, here, d.0 y)), (λ y. d.1 (let q : Some y.0 ≡ Some k = sym y.1 ∙ here in let w : y.0 ≡ k = cc in subst (λ (k : Site). Contains k.around.items h) w y.2)))

-- the exit e of a chain goes where that of the code does
pub chain_exit : (c : Chain) (ds : List code.Exit) (e : ℕ) (d : code.Exit) → GoTo c ds → slice_get ds e ≡ Some d → InChain c (exit_at c e) × ((exit_at c e).dest ≡ dest_of d)
chain_exit (Leave x) [] e d g at = absurd g
chain_exit (Leave x) (k ∷ []) zero d g at = (refl, g ∙ ap dest_of (let z : k ≡ d = cc in z))
chain_exit (Leave x) (k ∷ []) (suc e) d g at = absurd (cc)
chain_exit (Leave x) (k ∷ l ∷ ds) e d g at = absurd g
chain_exit (Test t y rest) [] e d g at = absurd g
chain_exit (Test t y rest) (k ∷ ds) zero d g at = (inl refl, g.0 ∙ ap dest_of (let z : k ≡ d = cc in z))
chain_exit (Test t y rest) (k ∷ ds) (suc e) d g at = let z = chain_exit rest ds e d g.1 at in (inr z.0, z.1)

-- where the exit e of b goes
pub goes_as : (sites : List Site) (b e : ℕ) (k : Site) (d : code.Exit) → slice_get sites b ≡ Some k → slice_get k.exits.items e ≡ Some d → (m : ℕ) → d ≡ dest.To m → GoesTo sites b m
goes_as sites b e k d here at m is =
    let low : e < length k.exits.items = slice_get_within k.exits.items e d at in
    let z : Some (get_or k.exits.items e (dest.To m)) ≡ Some (dest.To m) = sym (slice_get-get_or k.exits.items e (dest.To m) low) ∙ at ∙ ap Some is in
    (k, here, (e, low, (let y : get_or k.exits.items e (dest.To m) ≡ dest.To m = cc in y)))

-- an exit of a chain goes where one of the code's does
pub chain_at : (c : Chain) (ds : List code.Exit) (x : Exit) → GoTo c ds → InChain c x → (e : ℕ) × (d : code.Exit) × (slice_get ds e ≡ Some d) × (x.dest ≡ dest_of d)
chain_at (Leave y) [] x g i = absurd g
chain_at (Leave y) (d ∷ []) x g i = (0, d, refl, ap (λ (e : Exit). e.dest) (sym i) ∙ g)
chain_at (Leave y) (d ∷ d' ∷ ds) x g i = absurd g
chain_at (Test t y rest) [] x g i = absurd g
chain_at (Test t y rest) (d ∷ ds) x g (inl i) = (0, d, refl, ap (λ (e : Exit). e.dest) (sym i) ∙ g.0)
chain_at (Test t y rest) (d ∷ ds) x g (inr i) = let z = chain_at rest ds x g.1 i in (suc z.0, z.1, z.2, z.3)

-- .. that is in range
pub exit_range : (sites : List Site) → AreInRange sites → (b e : ℕ) (k : Site) (d : code.Exit) → slice_get sites b ≡ Some k → slice_get k.exits.items e ≡ Some d → IsInRange sites d
exit_range sites ranges b e k d here at =
    let low : e < length k.exits.items = slice_get_within k.exits.items e d at in
    let z : Some (get_or k.exits.items e d) ≡ Some d = sym (slice_get-get_or k.exits.items e d low) ∙ at in
    subst (IsInRange sites) (let y : get_or k.exits.items e d ≡ d = cc in y) ((ranges.exits b k here).2 e d low)

-- a chain from its exit e on
abbrev pub from : ℕ → Chain → Chain
from zero c = c
from (suc e) (Leave x) = Leave x
from (suc e) (Test t y rest) = from e rest

pub record IsLast (c : Chain) (e : ℕ) (d : code.Exit) : Type 0 where
  pub exit : Exit
  pub is : from e c ≡ Leave exit
  pub inc : InChain c exit
  pub at : exit ≡ exit_at c e
  pub goes : exit.dest ≡ dest_of d

pub record IsTest (c : Chain) (e : ℕ) (d : code.Exit) : Type 0 where
  pub exit : Exit
  pub test : Part
  pub is : from e c ≡ Test test exit (from (suc e) c)
  pub inc : InChain c exit
  pub at : exit ≡ exit_at c e
  pub test_is : test ≡ test_at c e
  pub goes : exit.dest ≡ dest_of d

from_zero : (c : Chain) → from 0 c ≡ c
from_zero c = refl

pub chain_last : (c : Chain) (ds : List code.Exit) (e : ℕ) (d : code.Exit) → GoTo c ds → suc e ≡ length ds → IsLast c e (get_or ds e d)
chain_last (Leave x) [] e d g l = absurd g
chain_last (Leave x) (k ∷ []) zero d g l = record { exit = x; is = refl; inc = refl; at = refl; goes = g }
chain_last (Leave x) (k ∷ []) (suc e) d g l = absurd (omega arith)
chain_last (Leave x) (k ∷ k' ∷ ds) e d g l = absurd g
chain_last (Test t y rest) [] e d g l = absurd g
chain_last (Test t y (Leave x)) (k ∷ []) e d g l = absurd (g.1)
chain_last (Test t y (Test u z more)) (k ∷ []) e d g l = absurd (g.1)
chain_last (Test t y rest) (k ∷ k' ∷ ds) zero d g l = absurd (omega arith)
chain_last (Test t y rest) (k ∷ k' ∷ ds) (suc e) d g l =
    let z = chain_last rest (k' ∷ ds) e d g.1 (omega arith) in
    record { exit = z.exit; is = z.is; inc = inr z.inc; at = z.at; goes = z.goes }

pub chain_test : (c : Chain) (ds : List code.Exit) (e : ℕ) (d : code.Exit) → GoTo c ds → suc e < length ds → IsTest c e (get_or ds e d)
chain_test (Leave x) [] e d g l = absurd g
chain_test (Leave x) (k ∷ []) e d g l = absurd (omega arith)
chain_test (Leave x) (k ∷ k' ∷ ds) e d g l = absurd g
chain_test (Test t y rest) [] e d g l = absurd g
chain_test (Test t y rest) (k ∷ ds) zero d g l = record { exit = y; test = t; is = refl; inc = inl refl; at = refl; test_is = refl; goes = g.0 }
chain_test (Test t y rest) (k ∷ ds) (suc e) d g l =
    let z = chain_test rest ds e d g.1 (omega arith) in
    record { exit = z.exit; test = z.test; is = z.is; inc = inr z.inc; at = z.at; test_is = z.test_is; goes = z.goes }
