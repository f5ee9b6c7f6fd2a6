-- What fits version 1 fits version 2, and what is placed for what was fetched.
use Rattle.std.proofs.Common.{List, ℕ, [], ◌∷◌, ◌≡◌, Some, Ok, true, refl}
use Rattle.std.specs.List.{AllByRecursion}
use Rattle.std.specs.Global.{Vec}
use Rattle.pv_cert.specs.declared.cert.Version.TheVariants.{One, Two}
use Rattle.pv_cert.specs.declared.cert.Section.{Section}
use Rattle.pv_cert.specs.declared.cert.Cert.{Cert}
use Rattle.pv_cert.specs.Certificates.{Fits, spelled}
use Rattle.pv_cert.specs.Reading.{MayBeIn, in_section}
use Rattle.pv_report.specs.declared.pair.Fetched.{Fetched}
use Rattle.pv_migrate.specs.Reading.{CertFetched, RewritesFetched}

all_so : {A : Type 0} (P : A → Type 0) → ((x : A) → P x) → (xs : List A) → AllByRecursion P xs
all_so P so [] = tt
all_so P so (x ∷ xs) = (so x, all_so P so xs)

-- each step may stand in a section of version 2
sections_may : (sections : List Section) → AllByRecursion (MayBeIn Two) sections
sections_may sections = all_so (MayBeIn Two) (λ s. all_so (λ step. in_section Two step ≡ true) (λ step. refl) s.steps) sections

pub fits_later : (c : Cert) → Fits One c → Fits Two c
fits_later c f = record {
  digests = f.digests;
  body_ = record { lemmas_ = f.body_.lemmas_; sections_ = f.body_.sections_; may_have = tt; may = sections_may c.sections };
}

pub rewrites : (fetched : Fetched) (c : Cert) (text : Vec ℕ) → CertFetched fetched (Ok c) → text.items ≡ spelled Two c → RewritesFetched fetched (Some text)
rewrites fetched c text has e old got = let is = has old got in record { certificate = c; certificate_is = is; fits = fits_later c is.fits; spelled_ = e }
