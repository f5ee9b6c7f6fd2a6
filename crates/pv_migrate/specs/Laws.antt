-- Laws of what is migrated.
use Rattle.std.specs.Prelude.{◌≡◌, ℕ, List}
use Rattle.pv_cert.specs.declared.cert.Version.TheVariants.{Two}
use Rattle.pv_cert.specs.declared.cert.Cert.{Cert}
use Rattle.pv_cert.specs.Certificates.{Fits, spelled}
use Rattle.pv_report.specs.declared.status.Status.{Status}
use Rattle.pv_migrate.specs.Migrated.{IsCert1, IsMigrated, Migrated}

-- the certificate of which the text is the spelling in version 2 is the one that the old text is in version 1
abbrev pub IsKept : Type 0
IsKept = (old text : List ℕ) (c d : Cert) → IsMigrated old text → IsCert1 old c → Fits Two d → text ≡ spelled Two d → c ≡ d

-- one thing is said of a text, with one status
abbrev pub SaidOnce : Type 0
SaidOnce = (old said other : List ℕ) (s r : Status) → Migrated old said s → Migrated old other r → (said ≡ other) × (s ≡ r)
