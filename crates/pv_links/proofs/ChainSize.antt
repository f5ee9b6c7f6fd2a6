-- The chain of two certificates that can be read is short enough to be read.
use Rattle.std.proofs.Common.{◌≡◌, ◌≤◌, ◌<◌, ◌^◌, ◌*◌, ◌+◌, ℕ, List, [], ◌∷◌, ◌++◌, length, refl, ap, ◌∙◌, arith, length-append}
use Rattle.std.specs.Prelude.{codes, decimal}
use Rattle.std.proofs.lemmas.Fmt.{length-decimal-le}
use Rattle.hex.specs.Hex.{encode_lower, lower_digits}
use Rattle.hex.proofs.HexLemmas.{length-encode_with}
use Rattle.pv_cert.specs.declared.cert.Version.TheVariants.{Two}
use Rattle.pv_cert.specs.Certificates as cert
use Rattle.pv_class.specs.declared.class.TheConstants.{LONGEST_FILE}
use Rattle.pv_chain.specs.Heads.{head, version_line}
use Rattle.pv_sections.specs.declared.certificate.TheConstants.{LONGEST_CERT}
use Rattle.pv_links.specs.declared.chain.TheConstants.{LONGEST_CHAIN}
use Rattle.pv_links.specs.Composed.{IsChainFor}

abbrev middle_line : List ℕ → List ℕ
middle_line middle = codes "middle" ++ 32 ∷ encode_lower middle

abbrev count_line : ℕ → List ℕ
count_line n = codes "lines" ++ 32 ∷ decimal n

middle_size : (digits : List ℕ) → length (codes "middle" ++ 32 ∷ digits) ≡ 7 + length digits
middle_size digits = length-append (codes "middle ") digits

count_size : (digits : List ℕ) → length (codes "lines" ++ 32 ∷ digits) ≡ 6 + length digits
count_size digits = length-append (codes "lines ") digits

-- two digits a byte, and few bytes more
head_size : (middle : List ℕ) (n : ℕ) → n < 2 ^ 32 → length (head.spells (middle, n)) ≤ 2 * length middle + 50
head_size middle n few =
    let digits = length-encode_with lower_digits middle in
    let number : length (decimal n) ≤ 10 = length-decimal-le 10 n (omega arith) (omega (arith, few)) (omega (arith, few)) in
    let rest : List ℕ = count_line n ++ 10 ∷ [] in
    let text : head.spells (middle, n) ≡ (version_line ++ 10 ∷ []) ++ ((middle_line middle ++ 10 ∷ []) ++ rest) = refl in
    let one : length (version_line ++ 10 ∷ []) ≡ 14 = refl in
    let two : length (middle_line middle ++ 10 ∷ []) ≡ 7 + length (encode_lower middle) + 1 = length-append (middle_line middle) (10 ∷ []) ∙ ap (λ (k : ℕ). k + 1) (middle_size (encode_lower middle)) in
    let three : length rest ≡ 6 + length (decimal n) + 1 = length-append (count_line n) (10 ∷ []) ∙ ap (λ (k : ℕ). k + 1) (count_size (decimal n)) in
    omega (arith, digits, number, ap length text, one, two, three, length-append (version_line ++ 10 ∷ []) ((middle_line middle ++ 10 ∷ []) ++ rest), length-append (middle_line middle ++ 10 ∷ []) rest)

pub chain_short : (a b c x y text : List ℕ) → IsChainFor a b c x y text → length text ≤ LONGEST_CHAIN
chain_short a b c x y text is =
    let h = is.chain in
    let n = length (cert.cert_lines Two h.first) in
    let class : length h.middle ≤ LONGEST_FILE = is.fits.file_is.small in
    let first : length (cert.spelled Two h.first) ≤ LONGEST_CERT = omega (arith, is.first_is.short, ap length is.first_is.spelled_) in
    let second : length (cert.spelled Two h.second) ≤ LONGEST_CERT = omega (arith, is.second_is.short, ap length is.second_is.spelled_) in
    let size = head_size h.middle n is.fits.headed.1.1.1 in
    omega (arith, class, first, second, size, ap length is.spelled_, length-append (head.spells (h.middle, n)) (cert.spelled Two h.first ++ cert.spelled Two h.second), length-append (cert.spelled Two h.first) (cert.spelled Two h.second))
