-- What the top call answers, from what was fetched and said.
use Rattle.std.proofs.Common.{◌≡◌, ℕ, suc, true, List, [], ◌∷◌, length, Option, Some, refl, ap}
use Rattle.std.specs.List.{AllByRecursion, AllZip}
use Rattle.pv_base.specs.Stored.{Stored, AreBytes}
use Rattle.pv_report.specs.declared.pair.Fetched.{Fetched}
use Rattle.pv_report.specs.declared.status.Status.{Status}
use Rattle.pv_top.specs.declared.words.Command.{Command}
use Rattle.pv_top.specs.declared.words.Command.TheVariants.{Validate, Check, Compose, CheckChain, Migrate, Refute, Make}
use Rattle.pv_top.specs.Words.{fetches, first_of, second_of}
use Rattle.pv_top.specs.Run.{Says, SaidOf, Answered, IsAnswer, graphs_in}
use Rattle.pv_top.specs.Promise.{EachEquivalent, Holds}
use Rattle.pv_top.specs.Fetching.{HoldAll, AreFetched, AnswersFetched}
use Rattle.pv_top.proofs.Saying.{answer_said, each_equivalent, result_said, said_lines, is_said, IsTrueOf}
use Rattle.pv_top.proofs.TrueLines.{chain_line, composed_line, judged_line, made_true, migrated_true, refuted_line, ruled_line}

-- the bytes that were fetched
pub record Contents (held : Option Stored) (all : List (List ℕ × ℕ)) (fetched : List Fetched) : Type 0 where
  pub contents : List (List ℕ)
  pub are_held : AllZip (λ (f : List ℕ × ℕ) (bytes : List ℕ). Holds held f.0 bytes) all contents
  pub are_bytes : AllByRecursion AreBytes contents
  pub are_fetched : AreFetched all fetched contents

pub contents_of : (held : Option Stored) (all : List (List ℕ × ℕ)) (fetched : List Fetched) → HoldAll held all fetched → Contents held all fetched
contents_of held [] [] h = record { contents = []; are_held = tt; are_bytes = tt; are_fetched = tt }
contents_of held (f ∷ all) (x ∷ fetched) h =
    let one = h.0 in
    let rest = contents_of held all fetched h.1 in
    record { contents = one.0 ∷ rest.contents; are_held = (one.1, rest.are_held); are_bytes = (one.2, rest.are_bytes); are_fetched = (one.3, rest.are_fetched) }
contents_of held _ _ h = absurd h

pub fetched_length : (held : Option Stored) (all : List (List ℕ × ℕ)) (fetched : List Fetched) → HoldAll held all fetched → length fetched ≡ length all
fetched_length held [] [] h = refl
fetched_length held (f ∷ all) (x ∷ fetched) h = ap suc (fetched_length held all fetched h.1)
fetched_length held _ _ h = absurd h

pub said_of : (held : Option Stored) (c : Command (List ℕ)) (fetched : List Fetched) (old new : Option (List ℕ)) (rose : Type 0) (text : List ℕ) (s result : Status) → HoldAll held (fetches c) fetched → AnswersFetched c fetched text s → Says old new text s result rose → SaidOf held c old new rose result
said_of held c fetched old new rose text s result h answers says =
    let got = contents_of held (fetches c) fetched h in
    record { contents = got.contents; are_held = got.are_held; are_bytes = got.are_bytes; text = text; meant = s; answer = answers got.contents got.are_fetched; says = says }

pub said_result : (held : Option Stored) (c : Command (List ℕ)) (old new : Option (List ℕ)) (rose : Type 0) (result : Status) → SaidOf held c old new rose result → is_said result ≡ true
said_result held c old new rose result s = result_said old new s.text s.meant result rose (answer_said c s.contents s.text s.meant s.answer) s.says

-- each whole line that says `equivalent` is true
answer_lines : (held : Option Stored) (c : Command (List ℕ)) (contents : List (List ℕ)) (text : List ℕ) (s : Status) → AllZip (λ (f : List ℕ × ℕ) (bytes : List ℕ). Holds held f.0 bytes) (fetches c) contents → AllByRecursion AreBytes contents → IsAnswer c contents text s → IsTrueOf held (first_of c) (second_of c) text
answer_lines held (Validate a b axioms rounds budget mode) (x ∷ y ∷ []) text s h bytes is = judged_line held (record { limits = record { axioms = axioms; rounds = rounds; budget = budget }; graphs = graphs_in mode }) a b x y text s (record { first_held = h.0; second_held = h.1.0; first_bytes = bytes.0; second_bytes = bytes.1.0 }) is
answer_lines held (Check a b c) (x ∷ y ∷ z ∷ []) text s h bytes is = ruled_line held a b x y z text s (record { first_held = h.0; second_held = h.1.0; first_bytes = bytes.0; second_bytes = bytes.1.0 }) is
answer_lines held (Compose a b c x y out) (j ∷ k ∷ l ∷ m ∷ n ∷ []) text s h bytes is = composed_line held a c j k l m n text s is
answer_lines held (CheckChain a c chain) (x ∷ y ∷ z ∷ []) text s h bytes is = chain_line held a c x y z text s (record { first_held = h.0; second_held = h.1.0; first_bytes = bytes.0; second_bytes = bytes.1.0 }) is
answer_lines held (Migrate cert out) (x ∷ []) text s h bytes is = migrated_true held cert cert x text s is
answer_lines held (Refute a b tries steps) (x ∷ y ∷ []) text s h bytes is = refuted_line held (record { tries = tries; steps = steps }) a b x y text s is
answer_lines held (Make seed count a b) [] text s h bytes is = made_true held a b count text is.0
answer_lines held _ _ text s h bytes is = absurd is

pub answered_equivalent : (held : Option Stored) (c : Command (List ℕ)) (old new : Option (List ℕ)) (files_rose write_rose : Type 0) (result : Status) → Answered held (Some c) old new files_rose write_rose result → EachEquivalent held (first_of c) (second_of c) old new
answered_equivalent held c old new files_rose write_rose result =
    each_equivalent held c (first_of c) (second_of c) old new files_rose write_rose result
    (λ s. said_lines held (first_of c) (second_of c) old new s.text s.meant result write_rose s.says (answer_lines held c s.contents s.text s.meant s.are_held s.are_bytes s.answer))
