-- Laws of the report.
use Rattle.std.specs.Prelude.{◌≡◌, ℕ, List}
use Rattle.pv_base.specs.Stored.{AreBytes}
use Rattle.pv_class.specs.declared.file.Method.{Method}
use Rattle.pv_report.specs.Options.{Options}
use Rattle.pv_report.specs.declared.status.Status.{Status}
use Rattle.pv_report.specs.declared.verdict.Verdict.{Verdict}
use Rattle.pv_report.specs.Lines.{line_of}
use Rattle.pv_report.specs.Report.{Judged}

-- a line says of which method it speaks: no other name and descriptor give it
abbrev pub LinesName : Type 0
LinesName =
    (m p : Method) (v w : Verdict) → AreBytes m.name → AreBytes m.desc → AreBytes p.name → AreBytes p.desc → line_of m v ≡ line_of p w → (m.name ≡ p.name) × (m.desc ≡ p.desc)

-- of the bytes of two files one text is said, with one status
abbrev pub JudgedOnce : Type 0
JudgedOnce = (options : Options) (a b t u : List ℕ) (r s : Status) → AreBytes a → AreBytes b → Judged options a b t r → Judged options a b u s → (t ≡ u) × (r ≡ s)
