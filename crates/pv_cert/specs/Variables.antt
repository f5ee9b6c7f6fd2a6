-- The words of the variables of a lemma.
use Rattle.std.specs.Prelude.{◌≡◌, ◌≢◌, ℕ, Bool, true, false, List, [], ◌∷◌, ◌++◌, Some, if◌then◌else◌, codes, refl}
use Rattle.std.specs.List.{flat_map, AllByRecursion}
use Rattle.pv_graph.specs.declared.node.OpSort.{OpSort}
use Rattle.pv_graph.specs.declared.node.OpSort.TheVariants as sort
use Rattle.pv_steps.specs.declared.step.Var.{Var}
use Rattle.pv_format.specs.Reading.{find_named}
use Rattle.pv_token.specs.Words.{Token, IsWord}
use Rattle.pv_cert.specs.Names.{sort_name}
use Rattle.pv_cert.specs.VariableLaws

-- the letter of its sort, and ! where it is settled
abbrev pub var_name : Var → List ℕ
var_name v = sort_name v.sort ++ (if v.settled then codes "!" else [])

abbrev pub var_of : OpSort → Bool → Var
var_of s settled = record { sort = s; settled = settled }

abbrev pub vars : List Var
vars = flat_map (λ s. var_of s false ∷ var_of s true ∷ []) (sort.I ∷ sort.L ∷ sort.A ∷ sort.N ∷ sort.F ∷ sort.T ∷ sort.H ∷ [])

-- no variable stands for roots
abbrev pub VarFits : Var → Type 0
VarFits v = v.sort ≢ sort.R

pub var_again : (v : Var) → VarFits v → find_named var_name vars (var_name v) ≡ Some v
var_again v fits = by v.sort v.settled fits
  where
    by : (s : OpSort) (settled : Bool) → s ≢ sort.R → find_named var_name vars (var_name (var_of s settled)) ≡ Some (var_of s settled)
    by sort.I true f = refl
    by sort.I false f = refl
    by sort.R settled f = absurd (f refl)
    by s true f = refl
    by s false f = refl

pub var_word : (v : Var) → IsWord (var_name v)
var_word v = by v.sort v.settled
  where
    by : (s : OpSort) (settled : Bool) → IsWord (var_name (var_of s settled))
    by sort.I true = refl
    by sort.I false = refl
    by s true = refl
    by s false = refl

each_fits : (sorts : List OpSort) → AllByRecursion (λ s. s ≢ sort.R) sorts → AllByRecursion VarFits (flat_map (λ s. var_of s false ∷ var_of s true ∷ []) sorts)
each_fits [] apart = tt
each_fits (s ∷ sorts) apart = (apart.0, (apart.0, each_fits sorts apart.1))

pub all_fit : AllByRecursion VarFits vars
all_fit = each_fits (sort.I ∷ sort.L ∷ sort.A ∷ sort.N ∷ sort.F ∷ sort.T ∷ sort.H ∷ []) VariableLaws.no_roots

-- I, L!, ..
abbrev pub var_token : Token Var
var_token = record { fits = VarFits; spells = var_name; reads = find_named var_name vars; again = var_again; back = VariableLaws.found_holds VarFits var_name vars all_fit; proper = λ v fits. var_word v }
