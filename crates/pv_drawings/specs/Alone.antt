-- The certificate from which the words of an operation are cut.
use Rattle.std.specs.Prelude.{ℕ, List, [], ◌∷◌, replicate}
use Rattle.pv_graph.specs.declared.node.Op.{Op}
use Rattle.pv_steps.specs.declared.step.Step.TheVariants as steps
use Rattle.pv_cert.specs.declared.cert.Section.{Section}
use Rattle.pv_cert.specs.declared.cert.Cert.{Cert}

abbrev pub no_digest : List ℕ
no_digest = replicate 32 0

-- a section without a name, of which the one step adds a node with this operation
abbrev pub section_alone : Op → Section
section_alone o = record { name = []; desc = []; steps = steps.Node 0 o [] ∷ [] }

abbrev pub alone : Op → Cert
alone o = record { first = no_digest; second = no_digest; lemmas = []; sections = section_alone o ∷ [] }
