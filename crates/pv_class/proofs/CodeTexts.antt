-- Code attributes after their names, by their spelling.
use Rattle.std.proofs.Common.{◌≡◌, ℕ, ◌+◌, ◌-◌, ◌<◌, ◌≤◌, Bool, ◌&&◌, eqb, leb, cond, List, ◌++◌, length, Some, refl, ap, append_assoc, arith}
use Rattle.std.specs.List.{AllByRecursion}
use Rattle.std.proofs.lemmas.Bool.{le-leb}
use Rattle.std.proofs.lemmas.Bool.Decides.{Decides-eqb, nat_tests}
use Rattle.std.specs.Bool.{Decides}
use Rattle.std.proofs.lemmas.List.{length-append}
use Rattle.std.specs.Int.{w16}
use Rattle.pv_pool.specs.declared.entry.Entry.{Entry}
use Rattle.pv_format.proofs.Cited.{wide16, Spells, seen, give_spells, check_spells, here_spells, then_spells, last_spells, made_spells, table_spells}
use Rattle.pv_class.specs.declared.room.Room.{Room}
use Rattle.pv_class.specs.declared.fault.Cause.TheVariants as cause
use Rattle.pv_format.specs.Grammars.{holds, here, Takes}
use Rattle.pv_class.specs.Grammars.{failure, short}
use Rattle.pv_class.specs.ClassGrammar.{in_file, in_code, code_front, code_contents, code}
use Rattle.pv_class.specs.Items.{u2, IsU2, CodeItems, code_text, FitsCode}
use Rattle.pv_class.specs.ClassFiles.{code_of}
use Rattle.pv_class.proofs.Takings.{u2_spells, bytes_spells, sized_spells, IsU4}
use Rattle.pv_class.proofs.ItemTexts.{Named, contents_text, handler_spells, attributes_spells}

-- ---- up to the exception table

size_decides : (n : ℕ) → Decides (leb 1 n && leb n 65535) ((0 < n) × (n < 65536))
size_decides n = (λ e. grind (arith, nat_tests), λ h. grind (arith, nat_tests))

abbrev Front : Type 0
Front = ℕ × (ℕ × List ℕ)

abbrev front_text : Front → List ℕ
front_text x = u2 x.0 ++ (u2 x.1.0 ++ contents_text x.1.1)

abbrev IsFront : Front → Type 0
IsFront x = IsU2 x.0 × IsU2 x.1.0 × (0 < length x.1.1) × (length x.1.1 < 65536)

front_spells : (room : Room) (start : ℕ) → Spells (code_front room start) room.after front_text (λ x _. IsFront x) (λ x. (x.0, x.1.0, x.1.1))
unfolding code_front
front_spells room start = seen (then_spells (u2_spells room) (λ stack. then_spells (u2_spells room) (λ locals. sized_spells room length (λ n bytes rest q. q.1)
    (λ n. check_spells (holds (leb 1 n && leb n 65535)) (failure cause.Code start) (made_spells (λ bytes. (stack, locals, bytes)) (bytes_spells room n))))))
    (λ x rest s. (x, refl, refl, assumption ((size_decides (length x.1.1)).0 s.1.1.1.0)))
    (λ x rest s. (x, refl, refl, (s.0, (s.1, (omega (arith, s.3), ((size_decides (length x.1.1)).1 (s.2, s.3), refl))))))

-- ---- the contents

abbrev pub IsCode : List Entry → CodeItems → Type 0
IsCode pool c = FitsCode c × AllByRecursion (Named pool) c.attributes

contents_spells : (pool : List Entry) (room : Room) (start size left : ℕ) → Spells (code_contents pool room start size left) room.after code_text (λ c rest. IsCode pool c × (length rest + size ≡ left)) code_of
unfolding code_contents
contents_spells pool room start size left =
    let handlers = table_spells room.after (short room) w16 wide16 (handler_spells room) in
    seen (then_spells (front_spells room start) (λ front. then_spells handlers (λ n. last_spells (attributes_spells room pool) (λ _.
    here_spells (λ end. check_spells (holds (eqb (end + size) left)) (failure cause.Code start) (give_spells (record { max_stack = front.0; max_locals = front.1; bytes = front.2; handlers = n })))))))
    (λ ((stack, (locals, bytes)), (handlers, attrs)) rest s.
    let c : CodeItems = record { max_stack = stack; max_locals = locals; code = bytes; handlers = handlers; attributes = attrs } in
    (c, simp append_assoc, refl, assumption ((Decides-eqb (length rest + size) left).0 s.1.1.1.0)))
    (λ c rest s. (((c.max_stack, (c.max_locals, c.code)), (c.handlers, c.attributes)), simp append_assoc, refl, assumption ((Decides-eqb (length rest + size) left).1 s.1)))

-- ---- a Code after its name

in_code_after : (start size left : ℕ) → size ≤ left → (in_code start size left).after ≡ left - size
in_code_after start size left le = ap (λ (b : Bool). (cond b (record { after = left - size; code = Some start }) in_file).after) (le-leb size left le)

-- contents that end where their size says
ending_spells : (pool : List Entry) (start size : ℕ) → Spells (here (λ left. code_contents pool (in_code start size left) start size left)) 0 code_text (λ c _. IsCode pool c × (length (code_text c) ≡ size)) code_of
unfolding Takes
ending_spells pool start size = record {
  takes = λ bytes x rest fits h.
      let p = (contents_spells pool (in_code start size (length bytes)) start size (length bytes)).takes bytes x rest fits h in
      (p.0, p.1, p.2, (p.3.0, omega (arith, p.3.1, ap length p.1, length-append (code_text p.0) rest)));
  again = λ c rest s le.
      let left = length (code_text c ++ rest) in
      let long = length-append (code_text c) rest in
      (contents_spells pool (in_code start size left) start size left).again c rest (s.0, omega (arith, s.1)) (omega (arith, s.1, in_code_after start size left (omega (arith, s.1))));
}

pub code_spells : (pool : List Entry) (start : ℕ) → Spells (code pool start) 0 (λ c. contents_text (code_text c)) (λ c _. IsCode pool c × IsU4 (length (code_text c))) code_of
unfolding code
code_spells pool start = seen (sized_spells in_file (λ c. length (code_text c)) (λ n c rest q. q.1) (ending_spells pool start))
    (λ c rest s. (c, refl, refl, (s.1.0, s.0)))
    (λ c rest s. (c, refl, refl, (s.1, (s.0, refl))))
