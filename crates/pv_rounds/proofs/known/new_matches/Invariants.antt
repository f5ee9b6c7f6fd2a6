use Rattle.std.proofs.Common.{map, take}
use Rattle.pv_pattern.specs.Seen.{axiom_seen}
use Rattle.pv_saturate.specs.Decoding.{decoded_seen}
use Rattle.pv_rounds.specs.Decoded.{AreReady}
use Rattle.pv_rounds.specs.Known.{LeavesKnown}
use Rattle.pv_rounds.proofs.known.new_matches.Given as goal

abbrev pub invariant-loop-found : goal.invariant-loop-found
invariant-loop-found l = record {
  ready_ : AreReady l.new.items;
  leaves : LeavesKnown (map axiom_seen l.table) l.known (take l.found-index l.list) (map decoded_seen l.new.items);
}
