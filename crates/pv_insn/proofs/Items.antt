-- Taking n items is reading them by a grammar, and so a switch after its numbers is read.
use Rattle.std.proofs.Common.{◌≡◌, ℕ, zero, suc, Bool, true, false, List, [], ◌∷◌, Option, Some, None, Result, Ok, Err, refl, sym, ap, ◌∙◌}
use Rattle.std.specs.Option.{option_map}
use Rattle.std.specs.Result.{result_ok}
use Rattle.pv_format.specs.Grammars.{give, bind}
use Rattle.pv_format.specs.GrammarReading.{read}
use Rattle.pv_format.specs.FreeGrammars.{either, many, then_all, take_all}
use Rattle.pv_format.proofs.Cited.{read_then, read_fails, read_give, ok_some, ok_none}
use Rattle.pv_format.specs.declared.stopped.Stopped.{Stopped}
use Rattle.pv_format.specs.declared.stopped.Stopped.TheVariants.{Failed, Memory}
use Rattle.pv_format.specs.Stopping.{Fails}
use Rattle.pv_insn.specs.declared.fault.Failure.{Failure}
use Rattle.pv_insn.specs.declared.fault.Failure.TheVariants as failure
use Rattle.pv_insn.specs.declared.raw.Raw.{Raw}
use Rattle.pv_insn.specs.Pieces.{Piece, instruction, ill}
use Rattle.pv_insn.specs.Reading.{Reads, answer, listed}

made : {A B : Type 0} (g : Reads A) (make : A → B) (bytes : List ℕ) (o : Option (A × List ℕ)) → result_ok (read g bytes) ≡ o → result_ok (read (bind g (λ x. give (make x))) bytes) ≡ option_map (λ x. (make x.0, x.1)) o
made g make bytes (Some (x, rest)) e = ap result_ok (read_then g (λ y. give (make y)) bytes x rest (ok_some (read g bytes) (x, rest) e) ∙ read_give (make x) rest)
made g make bytes None e = let none = ok_none (read g bytes) e in ap result_ok (read_fails g (λ y. give (make y)) bytes none.0 none.1)

pub take_many : {A : Type 0} (g : Reads A) (n : ℕ) (bytes : List ℕ) → take_all (λ u. result_ok (read g u)) n bytes ≡ result_ok (read (many n g) bytes)
unfolding take_all many
take_many g zero bytes = sym (ap result_ok (read_give [] bytes))
take_many {A = A} g (suc n) bytes = go (read g bytes) refl (take_many g n) where
  go : (r : Result (A × List ℕ) (Unit {0})) → read g bytes ≡ r → ((rest : List ℕ) → take_all (λ u. result_ok (read g u)) n rest ≡ result_ok (read (many n g) rest)) → then_all (result_ok (read g bytes)) (take_all (λ u. result_ok (read g u)) n) ≡ result_ok (read (bind g (λ x. bind (many n g) (λ xs. give (x ∷ xs)))) bytes)
  go (Ok (x, rest)) e more = ap (λ o. then_all (result_ok o) (take_all (λ u. result_ok (read g u)) n)) e ∙ sym (ap result_ok (read_then g (λ y. bind (many n g) (λ xs. give (y ∷ xs))) bytes x rest e) ∙ made (many n g) (λ xs. x ∷ xs) rest _ (sym (more rest)))
  go (Err f) e more = ap (λ o. then_all (result_ok o) (take_all (λ u. result_ok (read g u)) n)) e ∙ sym (ap result_ok (read_fails g (λ y. bind (many n g) (λ xs. give (y ∷ xs))) bytes f e))

-- ---- a switch after its numbers

abbrev pub switched : {A : Type 0} → (A → Raw) → Result (A × List ℕ) Failure → Result (Raw × List ℕ) Failure
switched make (Ok (x, rest)) = Ok (make x, rest)
switched make (Err e) = Err e

pub switch_fails : {A : Type 0} (make : A → Raw) (e : Stopped Failure) (x : Result (A × List ℕ) Failure) (y : Result (Raw × List ℕ) Failure) → y ≡ switched make x → Fails e x → Fails e y
switch_fails make Memory x y is h = tt
switch_fails make (Failed e) x y is h = is ∙ ap (switched make) h

module _ {A : Type 0} (g : Reads A) (n : ℕ) (make : List A → Raw) (b : Bool) (bytes : List ℕ) where
  abbrev switch : Reads Piece
  switch = either b (give ill) (bind (many n g) (λ xs. give (instruction (make xs))))

  -- a test that fails a switch, or a list and what is made of it
  pub switch_ill : b ≡ true → answer (read switch bytes) ≡ Err failure.Switch
  switch_ill e = ap (λ c. answer (read (either c (give ill) (bind (many n g) (λ xs. give (instruction (make xs))))) bytes)) e ∙ ap answer (read_give ill bytes)

  pub switch_is : b ≡ false → answer (read switch bytes) ≡ switched make (listed (take_all (λ u. result_ok (read g u)) n bytes))
  switch_is e = ap (λ c. answer (read (either c (give ill) (bind (many n g) (λ xs. give (instruction (make xs))))) bytes)) e ∙ go (take_all (λ u. result_ok (read g u)) n bytes) (sym (take_many g n bytes)) where
    go : (o : Option (List A × List ℕ)) → result_ok (read (many n g) bytes) ≡ o → answer (read (bind (many n g) (λ xs. give (instruction (make xs)))) bytes) ≡ switched make (listed o)
    go (Some (xs, rest)) h = ap answer (read_then (many n g) (λ ys. give (instruction (make ys))) bytes xs rest (ok_some (read (many n g) bytes) (xs, rest) h) ∙ read_give (instruction (make xs)) rest)
    go None h = let none = ok_none (read (many n g) bytes) h in ap answer (read_fails (many n g) (λ ys. give (instruction (make ys))) bytes none.0 none.1)
