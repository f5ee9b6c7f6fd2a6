-- The parameters of operations, as words.
use Rattle.std.specs.Prelude.{◌≡◌, ℕ, ℤ, List, [], Option, Some, None, refl}
use Rattle.pv_value.specs.declared.heap.Kind.{Kind}
use Rattle.pv_value.specs.declared.name.Sym.{Sym}
use Rattle.pv_graph.specs.declared.node.OpSort.{OpSort}
use Rattle.pv_format.specs.Combinators.{one, pair, seen_as}
use Rattle.pv_token.specs.Words.{Phrase}
use Rattle.pv_token.specs.Tokens.{u32_token, int_token, long_token, shown_token}
use Rattle.pv_cert.specs.Names.{sort_token, kind_token}

abbrev pub number : Phrase ℕ
number = one u32_token

abbrev pub int : Phrase ℤ
int = one int_token

abbrev pub long : Phrase ℤ
long = one long_token

abbrev pub text : Phrase (List ℕ)
text = one shown_token

abbrev pub kind : Phrase Kind
kind = one kind_token

abbrev pub sym_of : List ℕ × (List ℕ × List ℕ) → Sym
sym_of p = record { class = p.0; name = p.1.0; desc = p.1.1 }

abbrev pub of_sym : Sym → List ℕ × (List ℕ × List ℕ)
of_sym s = (s.class, (s.name, s.desc))

-- CLASS NAME DESC
abbrev pub sym : Phrase Sym
sym = seen_as sym_of of_sym (λ s. refl) (λ p. refl) (pair text (pair text text))

-- the number and the sort of an argument
abbrev pub argument : Phrase (ℕ × OpSort)
argument = pair number (one sort_token)

abbrev pub takes_nothing : List (List ℕ) → Option ((ℕ × OpSort) × List (List ℕ))
takes_nothing words = None

pub nothing_taken : (words : List (List ℕ)) (v : ℕ × OpSort) (rest : List (List ℕ)) → takes_nothing words ≡ Some (v, rest) → ⊥ × (words ≡ rest)
nothing_taken words v rest e = absurd (cc)

-- the number and the sort of a variable, which no words spell: it stands in no certificate
abbrev pub variable : Phrase (ℕ × OpSort)
variable = record {
  fits = λ v. ⊥;
  spells = λ v. [];
  takes = takes_nothing;
  again = λ v rest fits. absurd fits;
  back = nothing_taken;
  proper = λ v fits. absurd fits;
}
