use Rattle.pv_cert.proofs.read.advance.Goals as goal

pub returns-in-Proving : goal.returns-in-Proving
returns-in-Proving c = rw c.in-Proving.is (c.go_on_proving.ensures c.args.version)
