-- The attributes of a method by their spelling: at most one of them is the Code.
use Rattle.std.proofs.Common.{◌≡◌, ◌⊎◌, inl, inr, ℕ, Bool, true, false, is_none, List, [], ◌∷◌, ◌++◌, length, Option, Some, None, refl, sym, ap, subst, ◌∙◌, true≢false}
use Rattle.std.specs.Bool.{Decides}
use Rattle.std.specs.List.{flat_map, AllByRecursion}
use Rattle.std.proofs.lemmas.Slice.Eq.{bytes_eq-Decides}
use Rattle.pv_pool.specs.declared.entry.Entry.{Entry}
use Rattle.pv_pool.specs.Readers.{text_under}
use Rattle.pv_format.proofs.Cited.{Spells, seen, check_spells, here_spells, then_spells, made_spells, Along, along_spells}
use Rattle.pv_class.specs.declared.file.Code.{Code}
use Rattle.pv_class.specs.declared.fault.Cause.TheVariants as cause
use Rattle.pv_format.specs.Grammars.{holds}
use Rattle.pv_class.specs.Checks.{utf8}
use Rattle.pv_class.specs.Grammars.{failure}
use Rattle.pv_class.specs.ClassGrammar.{in_file, or_nothing, text_at, is_code, attribute_named, attribute, attributes}
use Rattle.pv_class.specs.Items.{Attribute, attribute_text, FitsAttribute, CodeItems, code_text}
use Rattle.pv_class.specs.ClassFiles.{code_word, IsCodeAttribute, HoldsCode, CodeAmong, code_of}
use Rattle.pv_class.proofs.Takings.{IsU4, both_of, of_both}
use Rattle.pv_class.proofs.ItemTexts.{contents_text, contents_spells, index_spells, Named, text_read}
use Rattle.pv_class.proofs.CodeTexts.{code_spells}

-- ---- an attribute

-- after an attribute with these contents, which is a Code or not, the method has this code
abbrev Keeps : Type 0 → List Entry → Option Code → List ℕ → Option Code → Type 0
Keeps IsIt pool so_far contents now = (IsIt × (so_far ≡ None) × (c : Code) × (items : CodeItems) × HoldsCode pool contents items c × (now ≡ Some c)) ⊎ ((¬ IsIt) × (now ≡ so_far))

none_said : (o : Option Code) → is_none o ≡ true → o ≡ None
none_said None e = refl
none_said (Some c) e = absurd cc

named_spells : {IsIt : Type 0} (pool : List Entry) (so_far : Option Code) (start : ℕ) (b : Bool) → Decides b IsIt
    → Spells (attribute_named pool so_far start b) 0 (λ (p : List ℕ × Option Code). contents_text p.0) (λ p _. IsU4 (length p.0) × Keeps IsIt pool so_far p.0 p.1) (λ p. p.1)
named_spells pool so_far start true is = seen (check_spells (holds (is_none so_far)) (failure cause.Code start) (made_spells (λ c. Some c) (code_spells pool start)))
    (λ items rest (none, ((fits, named), few)). ((code_text items, Some (code_of items)), refl, refl, (few, inl (is.0 refl, none_said so_far none, code_of items, items, record { spelled = refl; fits = fits; names = named; held = refl }, refl))))
    (λ (contents, now) rest (few, keeps). elim keeps [
      | inl (it, none, c, items, h, some) ↦ (items, ap contents_text h.spelled, some ∙ ap (λ (c : Code). Some c) h.held, (ap is_none none, ((h.fits, h.names), subst (λ (u : List ℕ). IsU4 (length u)) h.spelled few)))
      | inr (other, same) ↦ absurd (other (is.0 refl))
    ])
named_spells pool so_far start false is = seen (made_spells (λ _. so_far) (contents_spells in_file))
    (λ contents rest few. ((contents, so_far), refl, refl, (few, inr (λ it. true≢false (sym (is.1 it)), refl))))
    (λ (contents, now) rest (few, keeps). elim keeps [
      | inl (it, none, c, items, h, some) ↦ absurd (true≢false (sym (is.1 it)))
      | inr (other, same) ↦ (contents, refl, same, few)
    ])

named_code : (o : Option (List ℕ)) → or_nothing o ≡ code_word → o ≡ Some code_word
named_code None e = absurd cc
named_code (Some text) e = ap (λ (u : List ℕ). Some u) e

code_decides : (pool : List Entry) (name : ℕ) → Decides (is_code pool name) (text_under pool name ≡ Some code_word)
code_decides pool name =
    let is = bytes_eq-Decides (text_at pool name) code_word in
    (λ e. named_code (text_under pool name) (is.0 e), λ named. is.1 (text_read pool name code_word named))

abbrev IsAttribute : List Entry → Attribute → Type 0
IsAttribute pool a = FitsAttribute a × Named pool a

abbrev Reads : List Entry → Option Code → Attribute → Option Code → Type 0
Reads pool so_far a now = IsAttribute pool a × Keeps (IsCodeAttribute pool a) pool so_far a.contents now

attribute_spells : (pool : List Entry) (so_far : Option Code) → Spells (attribute pool so_far) 0 (λ (p : Attribute × Option Code). attribute_text p.0) (λ p _. Reads pool so_far p.0 p.1) (λ p. p.1)
unfolding attribute
attribute_spells pool so_far = seen (here_spells (λ start. then_spells (index_spells in_file (utf8 pool)) (λ name. named_spells pool so_far start (is_code pool name) (code_decides pool name))))
    (λ (name, (contents, now)) rest ((fits, named), (few, keeps)). ((record { name = name; contents = contents }, now), refl, refl, ((record { name = fits; contents = few }, named), keeps)))
    (λ (a, now) rest ((fits, named), keeps). ((a.name, (a.contents, now)), refl, refl, ((fits.name, named), (fits.contents, keeps))))

-- ---- attributes

abbrev AllRead : List Entry → Option Code → List Attribute → Option Code → Type 0
AllRead pool = Along (λ _ now. now) (Reads pool)

abbrev Are : List Entry → List Attribute → Type 0
Are pool attrs = AllByRecursion (IsAttribute pool) attrs

abbrev NoCode : List Entry → List Attribute → Type 0
NoCode pool attrs = AllByRecursion (λ a. ¬ IsCodeAttribute pool a) attrs

-- attributes that are no Code change nothing, and after a Code there are no others
others_read : (pool : List Entry) (so_far : Option Code) (attrs : List Attribute) → Are pool attrs → NoCode pool attrs → AllRead pool so_far attrs so_far
others_read pool so_far [] are none = refl
others_read pool so_far (a ∷ attrs) are none = (so_far, (are.0, inr (none.0, refl)), others_read pool so_far attrs are.1 none.1)

after_code : (pool : List Entry) (c : Code) (attrs : List Attribute) (last : Option Code) → AllRead pool (Some c) attrs last → Are pool attrs × NoCode pool attrs × (last ≡ Some c)
after_code pool c [] last h = (tt, tt, h)
after_code pool c (a ∷ attrs) last (now, (is, inl (named, none, d, items, holds, some)), more) = absurd cc
after_code pool c (a ∷ attrs) last (now, (is, inr (other, same)), more) = let o = after_code pool c attrs last (rw same at more) in ((is, o.0), (other, o.1), o.2)

later_code : (pool : List Entry) (a : Attribute) (attrs : List Attribute) (last : Option Code) → ¬ IsCodeAttribute pool a → CodeAmong pool attrs last → CodeAmong pool (a ∷ attrs) last
later_code pool a attrs None other h = (other, h)
later_code pool a attrs (Some c) other h =
    record { before = a ∷ h.before; attribute = h.attribute; after = h.after; items = h.items; among = ap (λ (bs : List Attribute). a ∷ bs) h.among; named = h.named; others = (other, h.others); holds = h.holds }

code_among : (pool : List Entry) (attrs : List Attribute) (last : Option Code) → AllRead pool None attrs last → Are pool attrs × CodeAmong pool attrs last
code_among pool [] last h = (tt, rw h tt)
code_among pool (a ∷ attrs) last (now, (is, inl (named, none, c, items, holds, some)), more) =
    let o = after_code pool c attrs last (rw some at more) in
    ((is, o.0), rw o.2 (record { before = []; attribute = a; after = attrs; items = items; among = refl; named = named; others = o.1; holds = holds }))
code_among pool (a ∷ attrs) last (now, (is, inr (other, same)), more) = let o = code_among pool attrs last (rw same at more) in ((is, o.0), later_code pool a attrs last other o.1)

one_read : (pool : List Entry) (c : Code) (before : List Attribute) (a : Attribute) (after : List Attribute) (items : CodeItems)
    → Are pool (before ++ a ∷ after) → IsCodeAttribute pool a → NoCode pool (before ++ after) → HoldsCode pool a.contents items c → AllRead pool None (before ++ a ∷ after) (Some c)
one_read pool c [] a after items are is others held = (Some c, (are.0, inl (is, refl, c, items, held, refl)), others_read pool (Some c) after are.1 others)
one_read pool c (b ∷ before) a after items are is others held = (None, (are.0, inr (others.0, refl)), one_read pool c before a after items are.1 is others.1 held)

among_read : (pool : List Entry) (attrs : List Attribute) (last : Option Code) → Are pool attrs → CodeAmong pool attrs last → AllRead pool None attrs last
among_read pool attrs None are h = others_read pool None attrs are h
among_read pool attrs (Some c) are h = rw h.among (one_read pool c h.before h.attribute h.after h.items (rw h.among at are) h.named h.others h.holds)

pub method_attributes_spells : (pool : List Entry) (n : ℕ) → Spells (attributes pool n None) 0 (λ (p : List Attribute × Option Code). flat_map attribute_text p.0)
    (λ p _. (length p.0 ≡ n) × (AllByRecursion FitsAttribute p.0 × AllByRecursion (Named pool) p.0 × CodeAmong pool p.0 p.1)) (λ p. p.1)
unfolding attributes
method_attributes_spells pool n = seen (along_spells (attributes pool) attribute_text (λ _ now. now) (Reads pool) (λ _. refl) (λ n s. refl) (attribute_spells pool) n None)
    (λ (attrs, c) rest (few, read).
    let o = code_among pool attrs c read in
    let both = both_of FitsAttribute (Named pool) attrs o.0 in
    ((attrs, c), refl, refl, (few, (both.0, both.1, o.1))))
    (λ (attrs, c) rest (few, (fit, named, among)). ((attrs, c), refl, refl, (few, among_read pool attrs c (of_both FitsAttribute (Named pool) attrs fit named) among)))
