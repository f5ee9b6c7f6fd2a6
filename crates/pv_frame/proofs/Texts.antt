-- The constants of a well-formed pool: each String has its text.
use Rattle.std.proofs.Common.{◌≡◌, ℕ, zero, suc, true, false, List, [], ◌∷◌, ◌++◌, Option, Some, None, refl, ap, subst, ◌||◌, if◌then◌else◌, slice_get}
use Rattle.pv_frame.proofs.Words.{AllByRecursion, flat_map, Entry, Long, Double, Text, Constant, Member, cells, cell_of, entry_under, HasText, Refers, ◌>>=◌, text_of, text_under, constant_of, constant_under, class_name_under, member_under, Insn, use_of, use_of_constant, use_of_class, use_of_member, loads_narrow, loads_wide, names_class, HasItsText}
use Rattle.pv_pool.specs.declared.constant.Constant.TheVariants as constant
use Rattle.pv_insn.specs.declared.insn.Insn.TheVariants as insn
use Rattle.pv_frame.proofs.Complete.{HasTexts}

-- ---- entries under their indices

same_entry : (x e : Entry) → Some (Some x) ≡ Some (Some e) → x ≡ e
same_entry x e is = cc

in_cells : (P : Entry → Type 0) (x : Entry) (others : List (Option Entry)) → P x → ((k : ℕ) (e : Entry) → slice_get others k ≡ Some (Some e) → P e) → (k : ℕ) (e : Entry) → slice_get (cells x ++ others) k ≡ Some (Some e) → P e
in_cells P (Long bits) others p rest zero e is = subst P (same_entry (Long bits) e is) p
in_cells P (Long bits) others p rest (suc zero) e is = absurd (cc)
in_cells P (Long bits) others p rest (suc (suc k)) e is = rest k e is
in_cells P (Double bits) others p rest zero e is = subst P (same_entry (Double bits) e is) p
in_cells P (Double bits) others p rest (suc zero) e is = absurd (cc)
in_cells P (Double bits) others p rest (suc (suc k)) e is = rest k e is
in_cells P x others p rest zero e is = subst P (same_entry x e is) p
in_cells P x others p rest (suc k) e is = rest k e is

in_entries : (P : Entry → Type 0) (pool : List Entry) → AllByRecursion P pool → (k : ℕ) (e : Entry) → slice_get (flat_map cells pool) k ≡ Some (Some e) → P e
in_entries P [] all k e is = absurd (cc)
in_entries P (x ∷ pool) all k e is = in_cells P x (flat_map cells pool) all.0 (in_entries P pool all.1) k e is

cell_is : (o : Option (Option Entry)) (e : Entry) → cell_of o ≡ Some e → o ≡ Some (Some e)
cell_is (Some c) e is = ap Some is
cell_is None e is = absurd (cc)

-- what holds of each entry holds of the one under an index
under_holds : (P : Entry → Type 0) (pool : List Entry) → AllByRecursion P pool → (i : ℕ) (e : Entry) → entry_under pool i ≡ Some e → P e
under_holds P pool all zero e is = absurd (cc)
under_holds P pool all (suc i) e is = in_entries P pool all i e (cell_is (slice_get (flat_map cells pool) i) e is)

-- ---- Strings

only_text : (e : Entry) (j : ℕ) → constant_of e ≡ Some (constant.Text j) → e ≡ Text j
only_text (Text t) j is = cc
only_text e j is = absurd (cc)

string_under : (o : Option Entry) (j : ℕ) → (o >>= constant_of) ≡ Some (constant.Text j) → o ≡ Some (Text j)
string_under (Some e) j is = ap Some (only_text e j is)
string_under None j is = absurd (cc)

pub has_texts : (pool : List Entry) → AllByRecursion (Refers pool) pool → HasTexts pool
has_texts pool refers i j is =
    let text : HasText pool j = under_holds (Refers pool) pool refers i (Text j) (string_under (entry_under pool i) j is) in
    (text.0, ap (λ (o : Option Entry). o >>= text_of) text.1)

-- ---- uses

constant_text : (pool : List Entry) (o : Option Constant) → ((j : ℕ) → o ≡ Some (constant.Text j) → (text : List ℕ) × (text_under pool j ≡ Some text)) → HasItsText pool (use_of_constant o)
constant_text pool None texts = tt
constant_text pool (Some (constant.Text j)) texts = texts j refl
constant_text pool (Some c) texts = tt

member_text : (pool : List Entry) (o : Option Member) → HasItsText pool (use_of_member o)
member_text pool None = tt
member_text pool (Some m) = tt

class_text : (pool : List Entry) (o : Option (List ℕ)) → HasItsText pool (use_of_class o)
class_text pool None = tt
class_text pool (Some name) = tt

index_text : (pool : List Entry) → HasTexts pool → (opcode i : ℕ) → HasItsText pool (use_of pool (insn.Pool opcode i))
index_text pool texts opcode i =
    elim (loads_narrow opcode || loads_wide opcode) as
    (λ b. HasItsText pool (if b then use_of_constant (constant_under pool i) else if names_class opcode then use_of_class (class_name_under pool i) else use_of_member (member_under pool i))) [
      | true ↦ constant_text pool (constant_under pool i) (λ j is. texts i j is)
      | false ↦ elim (names_class opcode) as (λ b. HasItsText pool (if b then use_of_class (class_name_under pool i) else use_of_member (member_under pool i))) [
        | true ↦ class_text pool (class_name_under pool i)
        | false ↦ member_text pool (member_under pool i)
      ]
    ]

-- what an instruction names has its text
pub use_text : (pool : List Entry) → HasTexts pool → (i : Insn) → HasItsText pool (use_of pool i)
use_text pool texts (insn.Pool opcode i) = index_text pool texts opcode i
use_text pool texts i = tt
