-- The first lines, as they are read and written.
use Rattle.std.proofs.Common.{◌≡◌, ℕ, suc, true, List, [], ◌∷◌, ◌++◌, Option, Some, None, Result, Ok, Err, refl, sym, ap, ◌∙◌, append_assoc}
use Rattle.std.specs.Prelude.{codes, decimal, ◌&&◌, if◌then◌else◌}
use Rattle.std.specs.Str.{bytes_eq}
use Rattle.std.proofs.lemmas.Bool.{and_from, cond-true}
use Rattle.hex.specs.Hex.{encode_lower, encode_with, decode_of, decode_pairs, IsBytes}
use Rattle.hex.proofs.HexLemmas.{decode_of-ok}
use Rattle.hex.specs.declared.error.FromHexError.{FromHexError}
use Rattle.pv_token.specs.Spellings.{AreBytes, are_bytes, decoded}
use Rattle.pv_token.specs.TokenLaws.{bytes_pass}
use Rattle.pv_chain.specs.Heads.{bytes_token, head}

-- ---- digits

-- what a word spells, by what its digits mean
abbrev spelled_by : List ℕ → Result (List ℕ) FromHexError → Option (List ℕ)
spelled_by word r = if are_bytes (decoded r) && bytes_eq (encode_lower (decoded r)) word then Some (decoded r) else None

-- a word without digits spells nothing
pub no_bytes : (word : List ℕ) (e : FromHexError) → decode_of word ≡ Err e → None ≡ bytes_token.reads word
unfolding decode_pairs encode_with
no_bytes [] e is = absurd (let ok : decode_of [] ≡ Ok [] = refl in cc (ok, is))
no_bytes (b ∷ word) e is = sym (ap (spelled_by (b ∷ word)) is)

small_bytes : (bytes : List ℕ) → IsBytes bytes → AreBytes bytes
small_bytes [] small = tt
small_bytes (b ∷ bytes) small = (small 0, small_bytes bytes (λ i. small (suc i)))

pub bytes_read : (bytes digits word : List ℕ) → decode_of word ≡ Ok bytes → digits ≡ encode_lower bytes → bytes_eq digits word ≡ true → Some bytes ≡ bytes_token.reads word
bytes_read bytes digits word is e same =
    let fits = small_bytes bytes (decode_of-ok word bytes is).3 in
    sym (ap (spelled_by word) is ∙ cond-true (are_bytes bytes && bytes_eq (encode_lower bytes) word) (Some bytes) None (and_from (are_bytes bytes) (bytes_eq (encode_lower bytes) word) (bytes_pass bytes fits) (ap (λ (t : List ℕ). bytes_eq t word) (sym e) ∙ same)))

-- ---- what is written

pub head_after : (start a b c d end middle : List ℕ) (n : ℕ) → a ≡ start ++ codes "peggy-chain 1\nmiddle " → b ≡ a ++ encode_lower middle → c ≡ b ++ codes "\nlines " → d ≡ c ++ decimal n → end ≡ d ++ 10 ∷ [] → end ≡ start ++ head.spells (middle, n)
head_after start a b c d end middle n e1 e2 e3 e4 e5 =
    simp (e5, e4, e3, e2, e1, append_assoc) (ap (λ (t : List ℕ). start ++ (codes "peggy-chain 1\nmiddle " ++ t)) (sym (append_assoc (encode_lower middle) (10 ∷ []) (codes "lines " ++ (decimal n ++ 10 ∷ [])))))
