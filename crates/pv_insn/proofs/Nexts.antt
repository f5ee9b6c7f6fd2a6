-- What begins at an address is what is read there.
use Rattle.std.proofs.Common.{◌≡◌, ◌≢◌, inl, inr, ℕ, Bool, true, false, cond, List, [], ◌∷◌, ◌++◌, Some, Result, Ok, Err, refl, sym, ap, subst, ◌∙◌, arith}
use Rattle.std.specs.Prelude.{int_lt}
use Rattle.std.specs.Bool.{Decides}
use Rattle.std.proofs.lemmas.Bool.Decides.{Decides-and}
use Rattle.std.proofs.lemmas.Bool.{cases_Bool}
use Rattle.std.proofs.lemmas.List.{append-nil}
use Rattle.pv_format.specs.Grammars.{Takes}
use Rattle.pv_format.specs.GrammarReading.{read}
use Rattle.pv_format.proofs.Cited.{IsBytes, IsBytes-append, read_takes, takes_read, read_stops, complete, cut_stops}
use Rattle.pv_insn.specs.declared.fault.Failure.{Failure}
use Rattle.pv_insn.specs.declared.fault.Failure.TheVariants as failure
use Rattle.pv_insn.specs.declared.raw.Raw.{Raw}
use Rattle.pv_insn.specs.declared.raw.Raw.TheVariants as raw
use Rattle.pv_insn.specs.declared.raw.RawCase.{RawCase}
use Rattle.pv_insn.specs.Pieces.{Piece, instruction, unknown, ill, Stands}
use Rattle.pv_insn.specs.Codes.{Ascends, IsOrdered}
use Rattle.pv_insn.specs.Faults.{Begins, IsCut}
use Rattle.pv_insn.specs.Reading.{answer, piece}
use Rattle.pv_insn.specs.Stops.{ascends_after, is_ordered, in_order, next, BeginsWhole, StopsAt}
use Rattle.pv_insn.proofs.Switches.{less}
use Rattle.pv_insn.proofs.Operands.{piece_texts, piece_free}

-- ---- ascending keys

ascending : (c : RawCase) (cases : List RawCase) → Decides (ascends_after (Some c.key) cases) (Ascends (c ∷ cases))
ascending c [] = (λ e. tt, λ h. refl)
ascending c (d ∷ cases) = Decides-and (int_lt c.key d.key) (ascends_after (Some d.key) cases) (less c.key d.key) (ascending d cases)

ordered : (r : Raw) → Decides (is_ordered r) (IsOrdered r)
ordered (raw.Lookup default []) = (λ e. tt, λ h. refl)
ordered (raw.Lookup default (c ∷ cases)) = ascending c cases
ordered r = (λ e. tt, λ h. refl)

-- ---- what is read begins there

begins : (at : ℕ) (bytes : List ℕ) (p : Piece) (rest : List ℕ) → IsBytes bytes → read (piece at) bytes ≡ Ok (p, rest) → Begins at p bytes
begins at bytes p rest fits e =
    let t = (piece_texts at).takes bytes p rest fits (read_takes (piece at) bytes p rest e) in
    record { text = t.0; rest = rest; parts = t.1; stands = t.2 }

is_cut : (at : ℕ) (bytes : List ℕ) → IsBytes bytes → bytes ≢ [] → read (piece at) bytes ≡ Err tt → IsCut at bytes
is_cut at bytes fits some e =
    let o = complete (piece at) bytes tt (piece_free at) (read_stops (piece at) bytes tt e) in
    let c = o.0 in
    let t = (piece_texts at).takes (bytes ++ c.more) c.item [] (IsBytes-append bytes c.more fits c.small) c.whole in
    record { piece = c.item; text = t.0; more = c.more; parts = sym (append-nil t.0) ∙ sym t.1; stands = t.2; some = some; others = o.1 }

-- an instruction begins there, or this is why there is none
abbrev pub IsNext : ℕ → List ℕ → Result (Raw × List ℕ) Failure → Type 0
IsNext at bytes (Ok (r, rest)) = BeginsWhole at bytes r rest
IsNext at bytes (Err e) = StopsAt at bytes e

is_next : (at : ℕ) (bytes : List ℕ) → IsBytes bytes → bytes ≢ [] → (result : Result (Piece × List ℕ) (Unit {0})) → read (piece at) bytes ≡ result → IsNext at bytes (in_order (answer result))
is_next at bytes fits some (Ok (instruction r, rest)) e = by_test (is_ordered r) refl where
  by_test : (b : Bool) → is_ordered r ≡ b → IsNext at bytes (cond b (Ok (r, rest)) (Err failure.Switch))
  by_test true o = let b = (piece_texts at).takes bytes (instruction r) rest fits (read_takes (piece at) bytes (instruction r) rest e) in record { text = b.0; parts = b.1; spells = b.2; ordered = (ordered r).0 o }
  by_test false o = inr (record { switch = r; begins = begins at bytes (instruction r) rest fits e; unordered = λ h. let yes = (ordered r).1 h in absurd (cc (yes, o)) })
is_next at bytes fits some (Ok (unknown, rest)) e = begins at bytes unknown rest fits e
is_next at bytes fits some (Ok (ill, rest)) e = inl (begins at bytes ill rest fits e)
is_next at bytes fits some (Err cut) e = is_cut at bytes fits some e

pub next_is : (at : ℕ) (bytes : List ℕ) → IsBytes bytes → bytes ≢ [] → IsNext at bytes (next at bytes)
next_is at bytes fits some = is_next at bytes fits some (read (piece at) bytes) refl

-- ---- what begins there is read

piece_read : (at : ℕ) (p : Piece) (text rest bytes : List ℕ) → Stands at p text → bytes ≡ text ++ rest → next at bytes ≡ in_order (answer (Ok (p, rest)))
piece_read at p text rest bytes stands e = ap (λ (u : List ℕ). next at u) e ∙ ap (λ o. in_order (answer o)) (takes_read (piece at) (text ++ rest) p rest ((piece_texts at).again text p rest stands (omega arith)))

pub whole_read : (at : ℕ) (r : Raw) (text rest bytes : List ℕ) → Stands at (instruction r) text → IsOrdered r → bytes ≡ text ++ rest → next at bytes ≡ Ok (r, rest)
whole_read at r text rest bytes stands o e = piece_read at (instruction r) text rest bytes stands e ∙ rw ((ordered r).1 o) refl

cut_read : (at : ℕ) (bytes : List ℕ) → IsCut at bytes → read (piece at) bytes ≡ Err tt
cut_read at bytes c = go (read (piece at) bytes) refl where
  whole : Takes (piece at) (bytes ++ c.more) c.piece []
  whole = subst (λ (u : List ℕ). Takes (piece at) u c.piece []) (append-nil c.text ∙ c.parts) ((piece_texts at).again c.text c.piece [] c.stands (omega arith))

  go : (r : Result (Piece × List ℕ) (Unit {0})) → read (piece at) bytes ≡ r → r ≡ Err tt
  go (Err cut) e = refl
  go (Ok (p, rest)) e = absurd (c.others (cut_stops (piece at) bytes c.more p c.piece rest (piece_free at) (read_takes (piece at) bytes p rest e) whole))

unordered_false : (r : Raw) → (IsOrdered r → ⊥) → is_ordered r ≡ false
unordered_false r none = let d = ordered r in elim (cases_Bool (is_ordered r)) [ inl e ↦ absurd (none (d.0 e)) | inr e ↦ e ]

pub stop_read : (at : ℕ) (bytes : List ℕ) (e : Failure) → StopsAt at bytes e → next at bytes ≡ Err e
stop_read at bytes failure.Opcode b = piece_read at unknown b.text b.rest bytes b.stands b.parts
stop_read at bytes failure.Truncated c = ap (λ o. in_order (answer o)) (cut_read at bytes c)
stop_read at bytes failure.Switch (inl b) = piece_read at ill b.text b.rest bytes b.stands b.parts
stop_read at bytes failure.Switch (inr u) = let b = u.begins in piece_read at (instruction u.switch) b.text b.rest bytes b.stands b.parts ∙ rw (unordered_false u.switch u.unordered) refl
