-- The numbers of the statuses.
use Rattle.std.specs.Prelude.{ℕ}
use Rattle.pv_report.specs.declared.status.Status.{Status}
use Rattle.pv_report.specs.declared.status.Status.TheVariants.{AllEquivalent, Others, BadClass, BadCert, BadWords, ReadFault, WriteFault, Memory}

abbrev pub number_of : Status → ℕ
number_of AllEquivalent = 0
number_of Others = 1
number_of BadClass = 2
number_of BadCert = 3
number_of BadWords = 4
number_of ReadFault = 5
number_of WriteFault = 6
number_of Memory = 7
