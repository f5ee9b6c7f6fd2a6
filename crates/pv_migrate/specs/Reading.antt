-- What was fetched and read, and what is said of it.
use Rattle.std.specs.Prelude.{ℕ, List, Option, Some, None, Result, Ok, Err}
use Rattle.std.specs.Global.{Vec}
use Rattle.pv_cert.specs.declared.cert.Cert.{Cert}
use Rattle.pv_report.specs.declared.pair.Fetched.{Fetched}
use Rattle.pv_report.specs.declared.status.Status.{Status}
use Rattle.pv_report.specs.Judging.{IsFetchedWithin}
use Rattle.pv_sections.specs.declared.certificate.TheConstants.{LONGEST_CERT}
use Rattle.pv_sections.specs.declared.flaw.Flaw.{Flaw}
use Rattle.pv_migrate.specs.Migrated.{IsCert1, IsFlaw1, IsMigrated, Migrated}

-- what is said of the bytes that were fetched
abbrev pub SaysFetched : Fetched → List ℕ → Status → Type 0
SaysFetched cert said s = (old : List ℕ) → IsFetchedWithin LONGEST_CERT cert old → Migrated old said s

-- the text, if any, is what is placed for the bytes that were fetched
abbrev pub RewritesFetched : Fetched → Option (Vec ℕ) → Type 0
RewritesFetched cert (Some text) = (old : List ℕ) → IsFetchedWithin LONGEST_CERT cert old → IsMigrated old text.items
RewritesFetched cert None = Unit {0}

-- the certificate of version 1 that some bytes are, or why they are none
abbrev pub IsCertOr : List ℕ → Result Cert Flaw → Type 0
IsCertOr old (Ok c) = IsCert1 old c
IsCertOr old (Err f) = IsFlaw1 old f

-- .. that were fetched
abbrev pub CertFetched : Fetched → Result Cert Flaw → Type 0
CertFetched fetched read = (old : List ℕ) → IsFetchedWithin LONGEST_CERT fetched old → IsCertOr old read
