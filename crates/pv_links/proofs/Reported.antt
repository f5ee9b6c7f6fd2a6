-- What is said of two files and a chain that were fetched.
use Rattle.std.proofs.Common.{◌≡◌, ◌≤◌, ℕ, ◌+◌, List, [], ◌∷◌, ◌++◌, length, take, Option, Some, None, Result, Ok, Err, refl, sym, ap, subst, ◌∙◌, arith}
use Rattle.std.specs.Prelude.{find, option_map, option_to_list, slice_get, IfOk}
use Rattle.std.specs.List.{AllZip, flat_map}
use Rattle.std.proofs.lemmas.List.{append-nil}
use Rattle.std.proofs.lemmas.Grind.{flat_map-append}
use Rattle.pv_cert.specs.declared.cert.Section.{Section}
use Rattle.pv_chain.specs.declared.chain.Chain.{Chain}
use Rattle.pv_class.specs.declared.class.TheConstants.{LONGEST_FILE}
use Rattle.pv_class.specs.declared.file.ClassFile.{ClassFile}
use Rattle.pv_report.specs.declared.pair.BadClass.{BadClass}
use Rattle.pv_report.specs.declared.pair.Fetched.{Fetched}
use Rattle.pv_report.specs.declared.pair.Fetched.TheVariants as fetched
use Rattle.pv_report.specs.declared.pair.Pair.{Pair}
use Rattle.pv_report.specs.declared.status.Status.{Status}
use Rattle.pv_report.specs.declared.status.Status.TheVariants as status
use Rattle.pv_report.specs.Judging.{IsFetched, ReadsPair}
use Rattle.pv_report.specs.Lines.{bad_class, line_text}
use Rattle.pv_report.specs.Listed.{AreLines, lines_by}
use Rattle.pv_report.proofs.Cited.{bad_pair, take_next}
use Rattle.pv_links.specs.declared.finding.LinkFinding.{LinkFinding}
use Rattle.pv_links.specs.declared.flaw.ChainFlaw.{ChainFlaw}
use Rattle.pv_links.specs.declared.flaw.ChainFlaw.TheVariants as flaw
use Rattle.pv_links.specs.Findings.{IsFinding, Link, LinkLemmas, is_like, links, links_of}
use Rattle.pv_links.specs.Flaws.{IsBetween}
use Rattle.pv_links.specs.Lines.{bad_chain, link_line}
use Rattle.pv_links.specs.Made.{ChainFetched, HoldsBytes, IsSaidOf}
use Rattle.pv_report.specs.declared.report.Answer.{Answer}
use Rattle.pv_value.specs.declared.memory.Memory.{Memory}
use Rattle.pv_links.specs.Reading.{ChainRulesFetched}
use Rattle.pv_links.specs.Ruled.{ChainRuled, IsChainReport, IsStatusOf}

-- ---- one line more

zip_push : {X Y : Type 0} (Is : X → Y → Type 0) (xs : List X) (ys : List Y) (x : X) (y : Y) → AllZip Is xs ys → Is x y → AllZip Is (xs ++ x ∷ []) (ys ++ y ∷ [])
zip_push Is [] [] x y h is = (is, tt)
zip_push Is (v ∷ xs) (w ∷ ys) x y h is = (h.0, zip_push Is xs ys x y h.1 is)
zip_push Is _ _ x y h is = absurd h

lines_push : {X Y : Type 0} (Is : X → Y → Type 0) (line : X → Y → List ℕ) (xs : List X) (ys : List Y) (x : X) (y : Y) → AllZip Is xs ys → lines_by line (xs ++ x ∷ []) (ys ++ y ∷ []) ≡ lines_by line xs ys ++ line x y ∷ []
lines_push Is line [] [] x y h = refl
lines_push Is line (v ∷ xs) (w ∷ ys) x y h = ap (λ (l : List (List ℕ)). line v w ∷ l) (lines_push Is line xs ys x y h.1)
lines_push Is line _ _ x y h = absurd h

are_more : {X Y : Type 0} (Is : X → Y → Type 0) (line : X → Y → List ℕ) (xs : List X) (ys : List Y) (text : List ℕ) (x : X) (y : Y) → AreLines Is line xs ys text → Is x y → AreLines Is line (xs ++ x ∷ []) (ys ++ y ∷ []) (text ++ line_text (line x y))
are_more Is line xs ys text x y h is = record {
  each = zip_push Is xs ys x y h.each is;
  text_is =
      ap (λ (t : List ℕ). t ++ line_text (line x y)) h.text_is
      ∙ ap (λ (t : List ℕ). flat_map line_text (lines_by line xs ys) ++ t) (sym (append-nil (line_text (line x y))))
      ∙ sym (flat_map-append line_text (lines_by line xs ys) (line x y ∷ []))
      ∙ ap (flat_map line_text) (sym (lines_push Is line xs ys x y h.each));
}

links_next : (sections others : List Section) (i : ℕ) (s : Section) → slice_get sections i ≡ Some s → links (take (i + 1) sections) others ≡ links (take i sections) others ++ links_of others s
links_next sections others i s at =
    ap (flat_map (links_of others)) (take_next sections i s at)
    ∙ flat_map-append (links_of others) (take i sections) (s ∷ [])
    ∙ ap (λ (t : List Link). links (take i sections) others ++ t) (append-nil (links_of others s))

-- a section with one like it
pub said_next : (lemmas : LinkLemmas) (f g h : ClassFile) (sections others : List Section) (i : ℕ) (s t : Section) (findings more : List LinkFinding) (x : LinkFinding) (text longer : List ℕ) → slice_get sections i ≡ Some s → find (is_like s) others ≡ Some t
    → AreLines (IsFinding lemmas f g h) link_line (links (take i sections) others) findings text → IsFinding lemmas f g h (s, t) x → more ≡ findings ++ x ∷ [] → longer ≡ text ++ line_text (link_line (s, t) x) → AreLines (IsFinding lemmas f g h) link_line (links (take (i + 1) sections) others) more longer
said_next lemmas f g h sections others i s t findings more x text longer at like are is e said =
    let one : links_of others s ≡ (s, t) ∷ [] = ap (λ (o : Option Section). option_to_list (option_map (λ (y : Section). (s, y)) o)) like in
    let front : links (take i sections) others ++ (s, t) ∷ [] ≡ links (take (i + 1) sections) others = sym (links_next sections others i s at ∙ ap (λ (l : List Link). links (take i sections) others ++ l) one) in
    let next = are_more (IsFinding lemmas f g h) link_line (links (take i sections) others) findings text (s, t) x are is in
    subst (λ (t : List ℕ). AreLines (IsFinding lemmas f g h) link_line (links (take (i + 1) sections) others) more t) (sym said)
    (subst (λ (ys : List LinkFinding). AreLines (IsFinding lemmas f g h) link_line (links (take (i + 1) sections) others) ys (text ++ line_text (link_line (s, t) x))) (sym e)
    (subst (λ (l : List Link). AreLines (IsFinding lemmas f g h) link_line l (findings ++ x ∷ []) (text ++ line_text (link_line (s, t) x))) front next))

-- .. and without
pub said_none : (lemmas : LinkLemmas) (f g h : ClassFile) (sections others : List Section) (i : ℕ) (s : Section) (findings : List LinkFinding) (text : List ℕ) → slice_get sections i ≡ Some s → find (is_like s) others ≡ None
    → AreLines (IsFinding lemmas f g h) link_line (links (take i sections) others) findings text → AreLines (IsFinding lemmas f g h) link_line (links (take (i + 1) sections) others) findings text
said_none lemmas f g h sections others i s findings text at none are =
    let nil : links_of others s ≡ [] = ap (λ (o : Option Section). option_to_list (option_map (λ (y : Section). (s, y)) o)) none in
    let same : links (take i sections) others ≡ links (take (i + 1) sections) others = sym (links_next sections others i s at ∙ ap (λ (l : List Link). links (take i sections) others ++ l) nil ∙ append-nil (links (take i sections) others)) in
    subst (λ (l : List Link). AreLines (IsFinding lemmas f g h) link_line l findings text) same are

-- ---- what was fetched

-- the bytes of a file that has a reading
pub bytes_are : (x : Fetched) (got bytes : List ℕ) → HoldsBytes x got → IsFetched x bytes → length bytes ≤ LONGEST_FILE → got ≡ bytes
bytes_are (fetched.Bytes v) got bytes is has small = is ∙ has
bytes_are fetched.TooLong got bytes is has small = absurd (omega (arith, has, small))

-- one of the files has no reading
pub bad_file : (first last chain : Fetched) (bad : BadClass) (text : List ℕ) (s : Status) → ReadsPair first last (Err bad) → text ≡ bad_class bad.side bad.fault → s ≡ status.BadClass → ChainRulesFetched first last chain text s
bad_file first last chain bad text s read e is a c t p q u = subst (λ (x : Status). ChainRuled a c t text x) (sym is) (bad_pair a c bad.side bad.fault text (read a c p q) e)

-- the chain has no reading
pub bad_text : (first last chain : Fetched) (pair : Pair) (f : ChainFlaw) (text : List ℕ) (s : Status) → ReadsPair first last (Ok pair) → ChainFetched chain (Err f) → text ≡ bad_chain f → s ≡ status.BadCert → ChainRulesFetched first last chain text s
bad_text first last chain pair f text s read bad e is a c t p q u =
    let both = read a c p q in
    subst (λ (x : Status). ChainRuled a c t text x) (sym is) ((pair.first, both.0), (pair.second, both.1), (f, bad t u a c, e))

-- .. or names other files
pub bad_names : (first last chain : Fetched) (pair : Pair) (h : Chain) (one two text : List ℕ) (s : Status) → ReadsPair first last (Ok pair) → ChainFetched chain (Ok h) → HoldsBytes first one → HoldsBytes last two → (IsBetween h one two → ⊥) → text ≡ bad_chain flaw.Digest → s ≡ status.BadCert
    → ChainRulesFetched first last chain text s
bad_names first last chain pair h one two text s read has d e none said is a c t p q u =
    let both = read a c p q in
    let left = bytes_are first one a d p both.0.small in
    let right = bytes_are last two c e q both.1.small in
    let no : IsBetween h a c → ⊥ = λ (between : IsBetween h a c). none (subst (λ (z : List ℕ). IsBetween h one z) (sym right) (subst (λ (z : List ℕ). IsBetween h z c) (sym left) between)) in
    subst (λ (x : Status). ChainRuled a c t text x) (sym is) ((pair.first, both.0), (pair.second, both.1), (flaw.Digest, (h, has t u, no), said))

ruled_by : (a c t text : List ℕ) (findings : List LinkFinding) (s : Status) → IsChainReport a c t findings text → IsStatusOf findings s → ChainRuled a c t text s
ruled_by a c t text findings status.AllEquivalent r is = (findings, r, is)
ruled_by a c t text findings status.Others r is = (findings, r, is)
ruled_by a c t text findings _ r is = absurd is

rules_all : (first last chain : Fetched) (pair : Pair) (h : Chain) (one two text : List ℕ) (s : Status) → ReadsPair first last (Ok pair) → ChainFetched chain (Ok h) → HoldsBytes first one → HoldsBytes last two → IsBetween h one two → IsSaidOf pair h text s → ChainRulesFetched first last chain text s
rules_all first last chain pair h one two text s read has d e between said a c t p q u =
    let both = read a c p q in
    let left = bytes_are first one a d p both.0.small in
    let right = bytes_are last two c e q both.1.small in
    ruled_by a c t text said.findings s (record {
      first = pair.first;
      last = pair.second;
      first_is = both.0;
      last_is = both.1;
      chain = h;
      chain_is = has t u;
      between = subst (λ (z : List ℕ). IsBetween h a z) right (subst (λ (z : List ℕ). IsBetween h z two) left between);
      middle = said.middle;
      middle_is = said.middle_is;
      lines = said.lines;
    }) said.status_is

-- this is what is said of all links
pub all_ruled : (first last chain : Fetched) (pair : Pair) (h : Chain) (one two : List ℕ) (r : Result Answer Memory) → ReadsPair first last (Ok pair) → ChainFetched chain (Ok h) → HoldsBytes first one → HoldsBytes last two → IsBetween h one two → IfOk r (λ answer. IsSaidOf pair h answer.text.items answer.status)
    → IfOk r (λ answer. ChainRulesFetched first last chain answer.text.items answer.status)
all_ruled first last chain pair h one two (Ok answer) read has d e between said = rules_all first last chain pair h one two answer.text.items answer.status read has d e between said
all_ruled first last chain pair h one two (Err m) read has d e between said = tt
