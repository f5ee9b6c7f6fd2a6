-- What is written piece by piece is the text.
use Rattle.std.proofs.Common.{◌≡◌, ℕ, zero, suc, ◌+◌, codes, decimal, map, take, List, [], ◌∷◌, ◌++◌, Some, refl, sym, ap, ◌∙◌, append_assoc, arith}
use Rattle.std.specs.Prelude.{slice_get}
use Rattle.std.specs.List.{enumerate_from, flat_map}
use Rattle.std.proofs.lemmas.List.{append-nil}
use Rattle.std.proofs.lemmas.Grind.{flat_map-append}
use Rattle.pv_graph.specs.declared.node.Node.{Node}
use Rattle.pv_format.specs.Splits.{text_of}
use Rattle.pv_token.specs.Words.{spaced}
use Rattle.pv_token.proofs.Cited.{line_spaced}
use Rattle.pv_cert.specs.Operations.{op_words}
use Rattle.pv_drawings.specs.Listings.{node_line}
use Rattle.pv_drawings.specs.Dots.{dot_of, node_lines, root_lines}

-- one more element comes with its number
pub one_more : {A : Type 0} (k : ℕ) (xs : List A) (n : ℕ) (x : A) → slice_get xs n ≡ Some x → enumerate_from k (take (suc n) xs) ≡ enumerate_from k (take n xs) ++ (k + n, x) ∷ []
one_more k [] n x at = absurd (cc at)
one_more {A = A} k (y ∷ xs) zero x at =
    let same : y ≡ x = cc at in
    let here : k ≡ k + 0 = omega arith in
    ap (λ (z : A). (k, z) ∷ []) same ∙ ap (λ (i : ℕ). (i, x) ∷ []) here
one_more {A = A} k (y ∷ xs) (suc n) x at =
    let next : k + 1 + n ≡ k + suc n = omega arith in
    ap (λ (rest : List (ℕ × A)). (k, y) ∷ rest) (one_more (k + 1) xs n x at ∙ ap (λ (i : ℕ). enumerate_from (k + 1) (take n xs) ++ (i, x) ∷ []) next)

-- the text of lines, of which each element has one or more
pub lines_more : {A : Type 0} (lines : ℕ × A → List (List ℕ)) (xs : List A) (n : ℕ) (x : A) (start mid end : List ℕ) → slice_get xs n ≡ Some x → mid ≡ start ++ text_of (flat_map lines (enumerate_from 0 (take n xs))) → end ≡ mid ++ text_of (lines (n, x))
    → end ≡ start ++ text_of (flat_map lines (enumerate_from 0 (take (n + 1) xs)))
lines_more {A = A} lines xs n x start mid end at before after =
    let front : List (ℕ × A) = enumerate_from 0 (take n xs) in
    let next : n + 1 ≡ suc n = omega arith in
    let none : 0 + n ≡ n = omega arith in
    let both : text_of (flat_map lines (front ++ (n, x) ∷ [])) ≡ text_of (flat_map lines front) ++ text_of (lines (n, x)) =
    ap text_of (flat_map-append lines front ((n, x) ∷ []) ∙ ap (λ (r : List (List ℕ)). flat_map lines front ++ r) (append-nil (lines (n, x))))
    ∙ flat_map-append (λ line. line ++ 10 ∷ []) (flat_map lines front) (lines (n, x)) in
    after
    ∙ ap (λ (r : List ℕ). r ++ text_of (lines (n, x))) before
    ∙ append_assoc start (text_of (flat_map lines front)) (text_of (lines (n, x)))
    ∙ ap (λ (r : List ℕ). start ++ r) (sym both)
    ∙ ap (λ (l : List (ℕ × A)). start ++ text_of (flat_map lines l)) (sym (one_more 0 xs n x at ∙ ap (λ (k : ℕ). front ++ (k, x) ∷ []) none))
    ∙ ap (λ (k : ℕ). start ++ text_of (flat_map lines (enumerate_from 0 (take k xs)))) (sym next)

-- a line for each element
pub line_each : {A : Type 0} (line : A → List ℕ) (xs : List A) → map line xs ≡ flat_map (λ x. line x ∷ []) xs
line_each line [] = refl
line_each line (x ∷ xs) = ap (λ (rest : List (List ℕ)). line x ∷ rest) (line_each line xs)

pub line_more : {A : Type 0} (line : ℕ × A → List ℕ) (xs : List A) (n : ℕ) (x : A) (start mid end : List ℕ) → slice_get xs n ≡ Some x → mid ≡ start ++ text_of (map line (enumerate_from 0 (take n xs))) → end ≡ mid ++ text_of (line (n, x) ∷ [])
    → end ≡ start ++ text_of (map line (enumerate_from 0 (take (n + 1) xs)))
line_more {A = A} line xs n x start mid end at before after =
    lines_more (λ p. line p ∷ []) xs n x start mid end at (before ∙ ap (λ (l : List (List ℕ)). start ++ text_of l) (line_each line (enumerate_from 0 (take n xs)))) after
    ∙ ap (λ (l : List (List ℕ)). start ++ text_of l) (sym (line_each line (enumerate_from 0 (take (n + 1) xs))))

-- the line of a node is its number, the words of its operation and its kids
pub node_spaced : (n : ℕ) (node : Node) → node_line (n, node) ≡ decimal n ++ (spaced (op_words node.op) ++ spaced (map decimal node.kids))
node_spaced n node = line_spaced (decimal n) (op_words node.op ++ map decimal node.kids) ∙ ap (λ (r : List ℕ). decimal n ++ r) (flat_map-append (λ word. 32 ∷ word) (op_words node.op) (map decimal node.kids))

pub node_after : (start one two three end : List ℕ) (n : ℕ) (node : Node) → one ≡ start ++ decimal n → two ≡ one ++ spaced (op_words node.op) → three ≡ two ++ spaced (map decimal node.kids) → end ≡ three ++ 10 ∷ [] → end ≡ start ++ text_of (node_line (n, node) ∷ [])
node_after start one two three end n node first second third last =
    let ops : List ℕ = spaced (op_words node.op) in
    let kids : List ℕ = spaced (map decimal node.kids) in
    let feed : List ℕ = 10 ∷ [] in
    last
    ∙ ap (λ (r : List ℕ). r ++ feed) (third ∙ ap (λ (r : List ℕ). r ++ kids) (second ∙ ap (λ (r : List ℕ). r ++ ops) first ∙ append_assoc start (decimal n) ops) ∙ append_assoc start (decimal n ++ ops) kids)
    ∙ append_assoc start ((decimal n ++ ops) ++ kids) feed
    ∙ ap (λ (r : List ℕ). start ++ (r ++ feed)) (append_assoc (decimal n) ops kids ∙ sym (node_spaced n node))
    ∙ ap (λ (r : List ℕ). start ++ r) (sym (append-nil (node_line (n, node) ++ feed)))

-- the lines of a drawing for Graphviz
pub dot_text : (nodes : List Node) (first second : ℕ) → dot_of nodes first second
    ≡ codes "digraph {\nordering=out\n" ++ (text_of (root_lines (codes "first") first) ++ (text_of (root_lines (codes "second") second) ++ (text_of (flat_map node_lines (enumerate_from 0 nodes)) ++ codes "}\n")))
dot_text nodes first second =
    let line : List ℕ → List ℕ = λ line. line ++ 10 ∷ [] in
    let all : List (List ℕ) = flat_map node_lines (enumerate_from 0 nodes) in
    let one = root_lines (codes "first") first in
    let two = root_lines (codes "second") second in
    ap (λ (r : List ℕ). codes "digraph {\nordering=out\n" ++ r)
    (flat_map-append line one (two ++ (all ++ codes "}" ∷ []))
    ∙ ap (λ (r : List ℕ). text_of one ++ r)
    (flat_map-append line two (all ++ codes "}" ∷ [])
    ∙ ap (λ (r : List ℕ). text_of two ++ r) (flat_map-append line all (codes "}" ∷ []))))

pub dot_after : (start one two three four end : List ℕ) (nodes : List Node) (first second : ℕ) → start ≡ [] → one ≡ start ++ codes "digraph {\nordering=out\n" → two ≡ one ++ text_of (root_lines (codes "first") first) → three ≡ two ++ text_of (root_lines (codes "second") second)
    → four ≡ three ++ text_of (flat_map node_lines (enumerate_from 0 nodes)) → end ≡ four ++ codes "}\n" → end ≡ dot_of nodes first second
dot_after start one two three four end nodes first second none head a b all last =
    let begin : List ℕ = codes "digraph {\nordering=out\n" in
    let x : List ℕ = text_of (root_lines (codes "first") first) in
    let y : List ℕ = text_of (root_lines (codes "second") second) in
    let z : List ℕ = text_of (flat_map node_lines (enumerate_from 0 nodes)) in
    let done : List ℕ = codes "}\n" in
    let opened : one ≡ begin = head ∙ ap (λ (r : List ℕ). r ++ begin) none in
    last
    ∙ ap (λ (r : List ℕ). r ++ done) (all ∙ ap (λ (r : List ℕ). r ++ z) (b ∙ ap (λ (r : List ℕ). r ++ y) (a ∙ ap (λ (r : List ℕ). r ++ x) opened)))
    ∙ append_assoc ((begin ++ x) ++ y) z done
    ∙ append_assoc (begin ++ x) y (z ++ done)
    ∙ append_assoc begin x (y ++ (z ++ done))
    ∙ sym (dot_text nodes first second)
