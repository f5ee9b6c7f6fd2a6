use Rattle.std.proofs.Common.{◌≡◌, [], ◌+◌, drop}
use Rattle.pv_cert.specs.Places.{seen_place}
use Rattle.pv_cert.specs.Reading.{between, read_lines}
use Rattle.pv_format.specs.Seen.{texts}
use Rattle.pv_cert.proofs.certificate.read_lines.Given as goal

abbrev pub invariant-loop-k : goal.invariant-loop-k
invariant-loop-k l = read_lines l.version (4 + l.k) (seen_place l.place) (texts (drop l.k l.lines)) ≡ read_lines l.version 4 (between [] []) (texts l.lines)
