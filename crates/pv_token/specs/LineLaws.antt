-- Words have neither a blank nor a line feed, so a line of them is cut into them.
use Rattle.std.proofs.Common.{◌≡◌, ℕ, ◌<◌, false, ltb, List, [], ◌∷◌, ◌++◌, refl, sym, ap, arith}
use Rattle.std.specs.List.{AllByRecursion}
use Rattle.std.proofs.lemmas.Bool.{ltb-true, ne_eqb, and_parts}
use Rattle.std.proofs.lemmas.List.{append-nil}
use Rattle.pv_format.specs.Splits.{join, AreParts, is_blank, is_feed}
use Rattle.pv_format.specs.Combinators.{blank}
use Rattle.pv_format.proofs.Cited.{all-append}
use Rattle.pv_token.specs.Words.{is_word, IsWord, AreWords, AreSomeWords, NoFeed, spaced}

apart : (word : List ℕ) → IsWord word → AllByRecursion (λ b. is_blank b ≡ false) word × NoFeed word
apart [] e = (tt, tt)
apart (b ∷ word) e =
    let p = and_parts (ltb 32 b) (is_word word) e in
    let low : 32 < b = ltb-true 32 b p.0 in
    let rest = apart word p.1 in
    ((ne_eqb b 32 (omega arith), rest.0), (ne_eqb b 10 (omega arith), rest.1))

no_blanks : (words : List (List ℕ)) → AreWords words → AllByRecursion (λ word. AllByRecursion (λ b. is_blank b ≡ false) word) words
no_blanks [] are = tt
no_blanks (word ∷ words) are = ((apart word are.0).0, no_blanks words are.1)

pub are_parts : (words : List (List ℕ)) → AreSomeWords words → AreParts blank words
are_parts words are = record { some = are.0; apart = no_blanks words are.1 }

line_no_feed : (words : List (List ℕ)) → AreWords words → NoFeed (join 32 words)
line_no_feed [] are = tt
line_no_feed (word ∷ []) are = (apart word are.0).1
line_no_feed (word ∷ next ∷ words) are = all-append (λ b. is_feed b ≡ false) word (32 ∷ join 32 (next ∷ words)) (apart word are.0).1 (refl, line_no_feed (next ∷ words) are.1)

pub no_feed : (words : List (List ℕ)) → AreSomeWords words → NoFeed (join 32 words)
no_feed words are = line_no_feed words are.1

-- the words of a line after the first come after a blank each
pub line_spaced : (word : List ℕ) (words : List (List ℕ)) → join 32 (word ∷ words) ≡ word ++ spaced words
line_spaced word [] = sym (append-nil word)
line_spaced word (next ∷ words) = ap (λ (r : List ℕ). word ++ 32 ∷ r) (line_spaced next words)
