-- What is read, without where it lies in memory.
use Rattle.std.specs.Prelude.{◌≡◌, ℕ, List, Option, Some, None}
use Rattle.std.specs.Option.{option_map, option_and_then}
use Rattle.pv_class.specs.declared.file.ClassFile.{ClassFile}
use Rattle.pv_class.specs.ClassFiles.{IsClass}
use Rattle.pv_format.specs.Splits.{text_of}
use Rattle.pv_cert.specs.declared.cert.Cert.{Cert}
use Rattle.pv_chain.specs.declared.parts.Parts.{Parts as Held}
use Rattle.pv_chain.specs.BadChains.{Parts, IsHeaded, IsCertText, IsNoCert}
use Rattle.pv_chain.specs.FedReading.{take_lines}
use Rattle.pv_chain.specs.Heads.{head}

-- the bytes of the middle class, and the texts of the two certificates
abbrev pub Texts : Type 0
Texts = List ℕ × (List ℕ × List ℕ)

abbrev pub seen : Held → Texts
seen h = (h.middle.items, (h.first.now, h.second.now))

abbrev pub texts_of : Parts → Texts
texts_of p = (p.middle, (text_of p.lines, p.second))

-- the parts of a text
abbrev pub parts_with : List ℕ → List (List ℕ) × List ℕ → Parts
parts_with middle q = record { middle = middle; lines = q.0; second = q.1 }

abbrev pub parts_of : List ℕ → Option Parts
parts_of text = option_and_then (λ h. option_map (parts_with h.0.0) (take_lines h.0.1 h.1)) (head.takes text)

abbrev pub IsAClass : List ℕ → Type 0
IsAClass bytes = (file : ClassFile) × IsClass bytes file

-- the class that bytes are, if they are one
abbrev pub IsClassOr : List ℕ → Option ClassFile → Type 0
IsClassOr bytes (Some file) = IsClass bytes file
IsClassOr bytes None = IsAClass bytes → ⊥

-- the parts of a text whose middle is a class, if it has such
abbrev pub AreParts : List ℕ → Option Held → Type 0
AreParts text None = (p : Parts) → IsHeaded text p → ⊥
AreParts text (Some h) = (p : Parts) × IsHeaded text p × (seen h ≡ texts_of p)

-- the certificate that a text is, if it is one
abbrev pub IsCertOr : List ℕ → Option Cert → Type 0
IsCertOr text (Some c) = IsCertText text c
IsCertOr text None = IsNoCert text
