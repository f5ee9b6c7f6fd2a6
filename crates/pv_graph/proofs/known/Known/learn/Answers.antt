use Rattle.std.proofs.Common.{◌≡◌, ◌<◌, ◌-◌, ◌+◌, ℕ, length, slice_set, refl, subst, arith}
use Rattle.std.proofs.lemmas.Option.{slice_get_read}
use Rattle.pv_graph.specs.Reach.{AreFree}
use Rattle.pv_graph.specs.Known.{AreAllFree}
use Rattle.pv_graph.proofs.Tying.{set_same}
use Rattle.pv_graph.proofs.Knowing.{learned, all_free_set}
use Rattle.pv_graph.proofs.known.Known.learn.Goals as goal

module _ (c : goal.After-drop-found-2) where
  place : c.args.d - 1 < length c.open.new.marks.items
  place = omega (arith, c.in_ok-open.ensures.places, c.requires.depth, c.open.new.marks.ok.0)

  before : AreAllFree c.args.nodes.now c.open.new.marks.items
  before = c.open.ensures.free c.args.nodes.now c.requires.known.marks

  all : (length c.extend_from_slice.new.self.items ≡ length c.args.nodes.now) × AreFree c.args.nodes.now c.args.d c.extend_from_slice.new.self.items
  all =
      learned c.args.nodes.now c.args.d c.open.new.marks.items c.index.result.now c.index_mut.result.now c.extend_from_slice.new.self c.deref.result.now c.in_ok-found.found.items c.deref-2.result.now c.requires.depth before
      (slice_get_read c.open.new.marks.items (length c.open.new.marks.items) (c.args.d - 1) c.index.result.now refl place c.index.ensures)
      (slice_get_read c.open.new.marks.items (length c.open.new.marks.items) (c.args.d - 1) c.index_mut.result.now refl place c.index_mut.ensures.value) c.deref.ensures.value c.in_ok-found.ensures c.in_ok-extend_from_slice.ensures.items c.deref-2.ensures.value

pub returns-clause-known : goal.returns-clause-known
returns-clause-known c =
    let one : c.args.d ≡ c.args.d - 1 + 1 = omega (arith, c.requires.depth) in
    record {
      marks = all_free_set c.args.nodes.now c.open.new.marks.items (slice_set c.open.new.marks.items (c.args.d - 1) c.extend_from_slice.new.self) (c.args.d - 1) c.extend_from_slice.new.self (before c) (place c) refl
          (subst (λ (d : ℕ). AreFree c.args.nodes.now d c.extend_from_slice.new.self.items) one (all c).1);
      shut = c.requires.known.shut;
      ascending = c.requires.known.ascending;
    }

pub returns-clause-all : goal.returns-clause-all
returns-clause-all c = (c.extend_from_slice.new.self, set_same c.open.new.marks.items (c.args.d - 1) c.extend_from_slice.new.self (place c), (all c).0)
