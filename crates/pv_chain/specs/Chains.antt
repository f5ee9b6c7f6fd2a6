-- The text of a chain: the first lines, those of the first certificate, and those of the second, both in version 2.
use Rattle.std.specs.Prelude.{ℕ, List, ◌++◌, length}
use Rattle.pv_class.specs.declared.file.ClassFile.{ClassFile}
use Rattle.pv_class.specs.ClassFiles.{IsClass}
use Rattle.pv_cert.specs.declared.cert.Version.TheVariants.{Two}
use Rattle.pv_cert.specs.Certificates as cert
use Rattle.pv_chain.specs.declared.chain.Chain.{Chain}
use Rattle.pv_chain.specs.Heads.{head}

-- the one spelling of a chain
abbrev pub spelled : Chain → List ℕ
spelled c = head.spells (c.middle, length (cert.cert_lines Two c.first)) ++ (cert.spelled Two c.first ++ cert.spelled Two c.second)

-- what has a spelling
pub record Fits (c : Chain) : Type 0 where
  pub headed : head.fits (c.middle, length (cert.cert_lines Two c.first))
  pub file : ClassFile
  pub file_is : IsClass c.middle file
  pub first : cert.Fits Two c.first
  pub second : cert.Fits Two c.second
