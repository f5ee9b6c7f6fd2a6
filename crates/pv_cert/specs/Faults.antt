-- Why lines are not those of lemmas and sections.
use Rattle.std.specs.Prelude.{◌≡◌, ℕ, ◌+◌, List, [], ◌∷◌, ◌++◌, length}
use Rattle.pv_cert.specs.declared.cert.Version.{Version}
use Rattle.pv_cert.specs.declared.cert.Body.{Body}
use Rattle.pv_cert.specs.declared.cert.CertFault.{CertFault}
use Rattle.pv_cert.specs.declared.cert.CertFault.TheVariants as fault
use Rattle.pv_cert.specs.Reading.{BodyFits, body_lines}

-- those of some lemmas and sections begin with these lines
abbrev pub Begins : Version → List (List ℕ) → Type 0
Begins v lines = (b : Body) × BodyFits v b × (rest : List (List ℕ)) × (body_lines b ≡ lines ++ rest)

-- they are all lines of some lemmas and sections
abbrev pub AreWhole : Version → List (List ℕ) → Type 0
AreWhole v lines = (b : Body) × BodyFits v b × (body_lines b ≡ lines)

-- the lines up to this one begin some lemmas and sections, and with this one they don't
pub record FirstBad (v : Version) (lines front : List (List ℕ)) (line : List ℕ) : Type 0 where
  pub back : List (List ℕ)
  pub parts : lines ≡ front ++ line ∷ back
  pub begins : Begins v front
  pub bad : Begins v (front ++ line ∷ []) → ⊥

-- why lines after the header are not those of lemmas and sections, where the first of them is line n
abbrev pub BadLines : Version → ℕ → List (List ℕ) → CertFault → Type 0
BadLines v n lines fault.Truncated = Begins v lines × (AreWhole v lines → ⊥)
BadLines v n lines (fault.Step k) = (front : List (List ℕ)) × (line : List ℕ) × FirstBad v lines front line × (k ≡ n + length front)
BadLines v n lines fault.Header = ⊥
BadLines v n lines fault.Memory = ⊥
