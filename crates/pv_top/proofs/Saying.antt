-- What the sink took of a text, and the status that goes with it.
use Rattle.std.proofs.Common.{◌≡◌, ◌≢◌, ℕ, Bool, true, false, List, [], ◌∷◌, ◌++◌, take, drop, Option, Some, inl, inr, refl, sym, ap, subst, ◌∙◌}
use Rattle.std.specs.Prelude.{codes}
use Rattle.std.proofs.lemmas.List.{append_cancel_left, append-nil, take-append-drop}
use Rattle.pv_base.specs.Stored.{Stored}
use Rattle.pv_base.specs.Outside.{more}
use Rattle.pv_report.specs.declared.status.Status.{Status}
use Rattle.pv_report.specs.declared.status.Status.TheVariants as status
use Rattle.pv_top.specs.declared.words.Command.{Command}
use Rattle.pv_top.specs.declared.words.Command.TheVariants.{Validate, Check, Compose, CheckChain, Migrate, Refute, Make}
use Rattle.pv_top.specs.Run.{Puts, Says, Answered, IsAnswer, SaidOf}
use Rattle.pv_top.specs.Fetching.{ReadFailed}
use Rattle.pv_top.specs.Promise.{IsLineOf, EndsWith, HaveOneMeaning, EachEquivalent}
use Rattle.pv_top.proofs.Asking.{more_nothing}
use Rattle.pv_top.proofs.WholeLines.{no_line_of_nothing, line_of_front}

-- what is said was put, or had nothing in it
pub as_put : (old new : Option (List ℕ)) (text : List ℕ) (meant result : Status) (rose : Type 0) → Says old new text meant result rose → Puts old new text meant result rose
as_put old new [] meant result rose says = inl (says.0, says.1 ∙ more_nothing old)
as_put old new (b ∷ text) meant result rose says = says

-- ---- statuses

-- the status of a command that said something
abbrev pub is_said : Status → Bool
is_said status.ReadFault = false
is_said status.Memory = false
is_said s = true

-- the status of an answer
abbrev pub is_meant : Status → Bool
is_meant status.ReadFault = false
is_meant status.WriteFault = false
is_meant status.Memory = false
is_meant s = true

pub answer_meant : (c : Command (List ℕ)) (contents : List (List ℕ)) (text : List ℕ) (s : Status) → IsAnswer c contents text s → is_meant s ≡ true
answer_meant c contents text status.AllEquivalent h = refl
answer_meant c contents text status.Others h = refl
answer_meant c contents text status.BadClass h = refl
answer_meant c contents text status.BadCert h = refl
answer_meant c contents text status.BadWords h = refl
answer_meant (Validate a b axioms rounds budget mode) (x ∷ y ∷ []) text _ (vs, r, is) = absurd is
answer_meant (Check a b c) (x ∷ y ∷ z ∷ []) text _ (fs, r, is) = absurd is
answer_meant (Compose a b c x y out) (j ∷ k ∷ l ∷ m ∷ n ∷ []) text _ is = absurd is
answer_meant (CheckChain a c chain) (x ∷ y ∷ z ∷ []) text _ (fs, r, is) = absurd is
answer_meant (Migrate cert out) (x ∷ []) text _ is = absurd is
answer_meant (Refute a b tries steps) (x ∷ y ∷ []) text _ (fs, r, is) = absurd is
answer_meant (Make seed count a b) [] text _ (e, is) = absurd (cc is)
answer_meant _ _ text _ h = absurd h

-- .. is one of something that is said
meant_said : (s : Status) → is_meant s ≡ true → is_said s ≡ true
meant_said status.ReadFault is = absurd (cc is)
meant_said status.WriteFault is = refl
meant_said status.Memory is = absurd (cc is)
meant_said s is = refl

pub answer_said : (c : Command (List ℕ)) (contents : List (List ℕ)) (text : List ℕ) (s : Status) → IsAnswer c contents text s → is_said s ≡ true
answer_said c contents text s h = meant_said s (answer_meant c contents text s h)

pub result_said : (old new : Option (List ℕ)) (text : List ℕ) (meant result : Status) (rose : Type 0) → is_said meant ≡ true → Says old new text meant result rose → is_said result ≡ true
result_said old new text meant result rose is says =
    elim (as_put old new text meant result rose says) [
      | inl s ↦ ap is_said s.0 ∙ is
      | inr s ↦ ap is_said s.0
    ]

pub no_read_fault : (s : Status) → is_said s ≡ true → s ≢ status.ReadFault
no_read_fault s is e = let no : is_said s ≡ false = ap is_said e in cc (is, no)

pub answered_said : (held : Option Stored) (c : Command (List ℕ)) (old new : Option (List ℕ)) (files_rose write_rose : Type 0) (result : Status) → is_said result ≡ true → SaidOf held c old new write_rose result → Answered held (Some c) old new files_rose write_rose result
answered_said held c old new files_rose write_rose status.ReadFault is it = absurd (cc is)
answered_said held c old new files_rose write_rose status.Memory is it = absurd (cc is)
answered_said held c old new files_rose write_rose status.WriteFault is it = inr it
answered_said held c old new files_rose write_rose _ is it = it

-- a fetch failed, and nothing was said
pub answered_failed : (held : Option Stored) (c : Command (List ℕ)) (old new : Option (List ℕ)) (files_rose write_rose : Type 0) (s : Status) → ReadFailed s files_rose → new ≡ old → Answered held (Some c) old new files_rose write_rose s
answered_failed held c old new files_rose write_rose status.ReadFault failed same = (failed, same)
answered_failed held c old new files_rose write_rose status.Memory failed same = same
answered_failed held c old new files_rose write_rose _ failed same = absurd failed

-- ---- each whole line that says `equivalent`

-- what was taken is a front of what was said
taken_front : (before taken text : List ℕ) (old new : Option (List ℕ)) (meant result : Status) (rose : Type 0) → old ≡ Some before → new ≡ Some (before ++ taken) → Puts old new text meant result rose → (rest : List ℕ) × (text ≡ taken ++ rest)
taken_front before taken text old new meant result rose p q (inl s) =
    let grown : ◌≡◌ {A = Option (List ℕ)} (Some (before ++ taken)) (Some (before ++ text)) = sym q ∙ s.1 ∙ ap (λ (o : Option (List ℕ)). more o text) p in
    let same : taken ≡ text = append_cancel_left before taken text (cc grown) in
    ([], sym (append-nil taken ∙ same))
taken_front before taken text old new meant result rose p q (inr s) =
    let n = s.2.0 in
    let grown : ◌≡◌ {A = Option (List ℕ)} (Some (before ++ taken)) (Some (before ++ take n text)) = sym q ∙ s.2.1 ∙ ap (λ (o : Option (List ℕ)). more o (take n text)) p in
    let same : taken ≡ take n text = append_cancel_left before taken (take n text) (cc grown) in
    (drop n text, sym (take-append-drop n text) ∙ ap (λ (t : List ℕ). t ++ drop n text) (sym same))

-- each whole line of a text that says `equivalent` is true
abbrev pub IsTrueOf : Option Stored → List ℕ → List ℕ → List ℕ → Type 0
IsTrueOf held a b text = (line : List ℕ) → IsLineOf text line → EndsWith line (codes " equivalent") → HaveOneMeaning held a b line

-- what was taken of such a text is true
pub said_lines : (held : Option Stored) (a b : List ℕ) (old new : Option (List ℕ)) (text : List ℕ) (meant result : Status) (rose : Type 0) → Says old new text meant result rose → IsTrueOf held a b text → EachEquivalent held a b old new
said_lines held a b old new text meant result rose says is before taken line p q l ends =
    let front = taken_front before taken text old new meant result rose p q (as_put old new text meant result rose says) in
    is line (line_of_front text taken front.0 line front.1 l) ends

nothing_taken : (old new : Option (List ℕ)) (before taken : List ℕ) → new ≡ old → old ≡ Some before → new ≡ Some (before ++ taken) → taken ≡ []
nothing_taken old new before taken e p q =
    let same : ◌≡◌ {A = Option (List ℕ)} (Some (before ++ taken)) (Some (before ++ [])) = sym q ∙ e ∙ p ∙ ap Some (sym (append-nil before)) in
    append_cancel_left before taken [] (cc same)

-- nothing was said
pub silent : (held : Option Stored) (a b : List ℕ) (old new : Option (List ℕ)) → new ≡ old → EachEquivalent held a b old new
silent held a b old new e before taken line p q l ends = absurd (no_line_of_nothing line (subst (λ (t : List ℕ). IsLineOf t line) (nothing_taken old new before taken e p q) l))

-- so it is under every answer, if it is where something was said
pub each_equivalent : (held : Option Stored) (c : Command (List ℕ)) (a b : List ℕ) (old new : Option (List ℕ)) (files_rose write_rose : Type 0) (result : Status) → (SaidOf held c old new write_rose result → EachEquivalent held a b old new)
    → Answered held (Some c) old new files_rose write_rose result → EachEquivalent held a b old new
each_equivalent held c a b old new files_rose write_rose status.ReadFault by h = silent held a b old new h.1
each_equivalent held c a b old new files_rose write_rose status.Memory by h = silent held a b old new h
each_equivalent held c a b old new files_rose write_rose status.WriteFault by (inl failed) = silent held a b old new failed.2
each_equivalent held c a b old new files_rose write_rose status.WriteFault by (inr said) = by said
each_equivalent held c a b old new files_rose write_rose _ by h = by h
