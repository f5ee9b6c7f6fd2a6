-- The symbols of calls on a receiver: those of the methods, changed so that a call's form is seen and its receiver is a parameter.
use Rattle.std.specs.Prelude.{ℕ, List, [], ◌∷◌, ◌++◌, codes, drop}
use Rattle.pv_value.specs.declared.name.Sym.{Sym}
use Rattle.pv_value.specs.declared.descriptor.JType.TheVariants.{A}
use Rattle.pv_value.specs.declared.descriptor.Descriptor.{Descriptor}
use Rattle.pv_value.specs.declared.receiver.Form.{Form}
use Rattle.pv_value.specs.declared.receiver.Form.TheVariants.{Virtual, Special, Interface}
use Rattle.pv_value.specs.declared.receiver.TheConstants.{MARK}

-- v, s, i
abbrev pub letter_of : Form → ℕ
letter_of Virtual = 118
letter_of Special = 115
letter_of Interface = 105

-- the name of a method, which can't have the mark in a class file (JVMS 4.4.7), then the mark and the letter
abbrev pub receiver_name : Form → List ℕ → List ℕ
receiver_name form name = name ++ MARK ∷ letter_of form ∷ []

-- a method descriptor with a reference as its first parameter
abbrev pub receiver_desc : List ℕ → List ℕ
receiver_desc desc = codes "(Ljava/lang/Object;" ++ drop 1 desc

abbrev pub receiver_sym : Form → Sym → Sym
receiver_sym form s = record { class = s.class; name = receiver_name form s.name; desc = receiver_desc s.desc }

-- the type of a method with its receiver as its first parameter
abbrev pub with_receiver : Descriptor → Descriptor
with_receiver d = record { params = A ∷ d.params; result = d.result }
