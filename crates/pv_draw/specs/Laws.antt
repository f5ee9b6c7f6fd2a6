-- The law of drawings.
use Rattle.std.specs.Prelude.{◌≡◌, ℕ, List}
use Rattle.pv_base.specs.Stored.{AreBytes}
use Rattle.pv_report.specs.declared.status.Status.{Status}
use Rattle.pv_draw.specs.declared.answer.Signature.{Signature}
use Rattle.pv_draw.specs.declared.request.Form.{Form}
use Rattle.pv_draw.specs.Drawn.{Drawn}

-- of the bytes of two files one text is said, with one status
abbrev pub DrawnOnce : Type 0
DrawnOnce = (form : Form) (s : Signature) (a b t u : List ℕ) (x y : Status) → AreBytes a → AreBytes b → Drawn form s a b t x → Drawn form s a b u y → (t ≡ u) × (x ≡ y)
