use Rattle.std.proofs.Common.{rules, ◌==◌, slice_get, false, ◌≡◌, ◌≤◌, ◌+◌, ◌-◌, ◌++◌, [], ◌∷◌, ℕ, List, Vec, Option, Some, MatchOption, OnOk, length, map, take, drop, take_all, get_or, refl, sym, ap, ◌∙◌, subst, arith}
use Rattle.std.specs.declared.alloc.Global.{Global}
use Rattle.std.proofs.lemmas.Option.{slice_get_read}
use Rattle.std.proofs.lemmas.Bool.Decides.{Decides-eqb}
use Rattle.pv_graph.specs.Walks.{In}
use Rattle.pv_pattern.specs.declared.pattern.Pattern.{the_lemmas}
use Rattle.pv_pattern.specs.declared.pattern.Pattern as declared
use Rattle.pv_pattern.specs.declared.pattern.Pattern.TheVariants.{OverEach}
use Rattle.pv_pattern.specs.declared.pattern.Each.{Each}
use Rattle.pv_match.proofs.Sizes.{size, sizes, element_size}
use Rattle.pv_pattern.specs.Patterns.{Pattern, var, constant, over, over_each}
use Rattle.pv_pattern.specs.Binding.{names, names_in}
use Rattle.pv_pattern.specs.Seen.{each_seen, head_seen, listed, seen}
use Rattle.pv_marks.specs.Classes.{class_of}
use Rattle.pv_match.specs.declared.binding.Binding.{Binding}
use Rattle.pv_match.specs.declared.reader.Start.{Start}
use Rattle.pv_match.specs.Standing.{StandsIn, AllStandIn}
use Rattle.pv_match.specs.Bindings.{AddsWhere, AreRead, BindsVar, IsRead, NeverBindsVar}
use Rattle.pv_match.specs.Reading.{reads, reads_all}
use Rattle.pv_match.proofs.Adding.{var_extends}
use Rattle.pv_match.proofs.Extending.{Extends, Goes, TakenOf, extends_more, goes_begin, goes_on, goes_read, goes_next, goes_done, goes_too_long, start_added, start_none, start_ends, start_reads, take_next, get_in}
use Rattle.pv_match.proofs.reader.Reader.+extend.Goals as goal
use Rattle.pv_match.proofs.reader.Reader.+extend.Goals.{extend_all-then-is_empty+in_ok-append, extend_all-else-is_empty}

each_is : (p : declared.Pattern) (which : ℕ) (x : Each) → p ≡ OverEach which x → over_each which (each_seen x) ≡ seen p
each_is p which x e = rw e (search (rules, the_lemmas))

pub extend-extend_all-requires : goal.extend-extend_all-requires
extend-extend_all-requires t c =
    let e : over (head_seen c.in-Over.head) (listed (map seen c.in-Over.patterns.items)) ≡ seen c.args.pattern.now = rw c.in-Over.is (search (rules, the_lemmas)) in
    let f : over (head_seen c.in-Over.head) (listed (map seen c.deref.result.now)) ≡ seen c.args.pattern.now = ap (λ (ps : List declared.Pattern). over (head_seen c.in-Over.head) (listed (map seen ps))) c.deref.ensures.value ∙ e in
    let at : slice_get c.deref-start-items.result.now c.loop-start.start-index ≡ Some c.start-item.result = slice_get_read c.deref-start-items.result.now (length c.deref-start-items.result.now) c.loop-start.start-index c.start-item.result refl c.loop-start-test.true c.start-item.is in
    let i : In c.in_ok-starts-in-Over.starts.items c.start-item.result = subst (λ (ss : List Start). In ss c.start-item.result) c.deref-start-items.ensures.value (get_in c.deref-start-items.result.now c.loop-start.start-index c.start-item.result at) in
    let read : AreRead (length c.start-item.result.binding.vars.items) (listed (map seen c.deref.result.now)) = start_reads c.args.self.now.graph.now c.args.self.now.numbers.now c.args.from.now c.start-item.result.binding (head_seen c.in-Over.head) c.start-item.result.node (listed (map seen c.deref.result.now)) (seen c.args.pattern.now) f (c.in_ok-starts-in-Over.ensures.sound c.start-item.result i).1 c.requires.read in
    let s : sizes (listed (map seen c.deref.result.now)) + 1 ≡ size (seen c.args.pattern.now) = ap size f in
    (omega (arith, s, c.decreases), (c.requires.members, read))

pub extend-loop-start-init : goal.extend-loop-start-init
extend-loop-start-init t c = start_none c.args.self.now.graph.now c.args.self.now.numbers.now c.args.found.now.items c.args.from.now (seen c.args.pattern.now)

pub extend-loop-start-preserved : goal.extend-loop-start-preserved
extend-loop-start-preserved t c =
    let e : over (head_seen c.in-Over.head) (listed (map seen c.in-Over.patterns.items)) ≡ seen c.args.pattern.now = rw c.in-Over.is (search (rules, the_lemmas)) in
    let f : over (head_seen c.in-Over.head) (listed (map seen c.deref.result.now)) ≡ seen c.args.pattern.now = ap (λ (ps : List declared.Pattern). over (head_seen c.in-Over.head) (listed (map seen ps))) c.deref.ensures.value ∙ e in
    let at : slice_get c.deref-start-items.result.now c.loop-start.start-index ≡ Some c.start-item.result = slice_get_read c.deref-start-items.result.now (length c.deref-start-items.result.now) c.loop-start.start-index c.start-item.result refl c.loop-start-test.true c.start-item.is in
    let i : In c.in_ok-starts-in-Over.starts.items c.start-item.result = subst (λ (ss : List Start). In ss c.start-item.result) c.deref-start-items.ensures.value (get_in c.deref-start-items.result.now c.loop-start.start-index c.start-item.result at) in
    subst (λ (ss : List Start). AddsWhere c.args.self.now.graph.now c.args.self.now.numbers.now c.args.found.now.items c.extend_all.new.found.items c.args.from.now (TakenOf c.args.self.now.graph.now c.args.self.now.numbers.now (seen c.args.pattern.now) ss) (names (seen c.args.pattern.now)) (reads (length c.args.from.now.vars.items) (seen c.args.pattern.now)))
    (sym (take_next c.deref-start-items.result.now c.loop-start.start-index c.start-item.result at))
    (start_added c.args.self.now.graph.now c.args.self.now.numbers.now c.args.found.now.items c.loop-start.found.items c.extend_all.new.found.items c.args.from.now (head_seen c.in-Over.head) (listed (map seen c.deref.result.now)) (seen c.args.pattern.now) c.start-item.result (take c.loop-start.start-index c.deref-start-items.result.now) f
    (c.in_ok-starts-in-Over.ensures.sound c.start-item.result i).1 c.loop-start.invariant
    (subst (λ (ks : List ℕ). AddsWhere c.args.self.now.graph.now c.args.self.now.numbers.now c.loop-start.found.items c.extend_all.new.found.items c.start-item.result.binding (λ m. AllStandIn c.args.self.now.graph.now c.args.self.now.numbers.now m (listed (map seen c.deref.result.now)) (map (class_of c.args.self.now.numbers.now) ks)) (names_in (listed (map seen c.deref.result.now))) (reads_all (length c.start-item.result.binding.vars.items) (listed (map seen c.deref.result.now))))
    c.kids_at.ensures c.in_ok-extend_all-in-Over.ensures))

pub extend-returns-after-loop-start : goal.extend-returns-after-loop-start
extend-returns-after-loop-start t c =
    let e : over (head_seen c.in-Over.head) (listed (map seen c.in-Over.patterns.items)) ≡ seen c.args.pattern.now = rw c.in-Over.is (search (rules, the_lemmas)) in
    start_ends c.args.self.now.graph.now c.args.self.now.numbers.now c.args.found.now.items c.loop-start.found.items c.args.from.now (head_seen c.in-Over.head) (listed (map seen c.in-Over.patterns.items)) (seen c.args.pattern.now) c.args.class c.in_ok-starts-in-Over.starts.items e c.in_ok-starts-in-Over.ensures
    (subst (λ (ss : List Start). AddsWhere c.args.self.now.graph.now c.args.self.now.numbers.now c.args.found.now.items c.loop-start.found.items c.args.from.now (TakenOf c.args.self.now.graph.now c.args.self.now.numbers.now (seen c.args.pattern.now) ss) (names (seen c.args.pattern.now)) (reads (length c.args.from.now.vars.items) (seen c.args.pattern.now)))
    (take_all c.loop-start.start-index c.deref-start-items.result.now c.loop-start-test.false ∙ c.deref-start-items.ensures.value) c.loop-start.invariant)

pub extend-returns-in_ok-push-in-Var : goal.extend-returns-in_ok-push-in-Var
extend-returns-in_ok-push-in-Var t c =
    let e : var c.in-Var.j ≡ seen c.args.pattern.now = rw c.in-Var.is (search (rules, the_lemmas)) in
    subst (λ (p : Pattern). AddsWhere c.args.self.now.graph.now c.args.self.now.numbers.now c.args.found.now.items c.push.new.self.items c.args.from.now (λ m. StandsIn c.args.self.now.graph.now c.args.self.now.numbers.now m p c.args.class) (names p) (reads (length c.args.from.now.vars.items) p)) e
    (subst (λ (found : List Binding). AddsWhere c.args.self.now.graph.now c.args.self.now.numbers.now c.args.found.now.items found c.args.from.now (λ m. StandsIn c.args.self.now.graph.now c.args.self.now.numbers.now m (var c.in-Var.j) c.args.class) (names (var c.in-Var.j)) (reads (length c.args.from.now.vars.items) (var c.in-Var.j))) (sym c.in_ok-push-in-Var.ensures.items)
    (var_extends c.args.self.now.graph.now c.args.self.now.numbers.now c.args.found.now.items c.args.from.now c.in-Some.b c.in-Var.j c.args.class
    (subst (λ (o : Option Binding). MatchOption o (NeverBindsVar c.args.self.now.graph.now c.args.self.now.numbers.now c.args.from.now c.in-Var.j c.args.class) (λ new. BindsVar c.args.self.now.graph.now c.args.self.now.numbers.now c.args.from.now c.in-Var.j c.args.class new)) c.in-Some.is c.in_ok-b-in-Var.ensures)))

pub extend-returns-in-Constant : goal.extend-returns-in-Constant
extend-returns-in-Constant t c =
    let e : constant c.in-Constant.j ≡ seen c.args.pattern.now = rw c.in-Constant.is (search (rules, the_lemmas)) in
    subst (λ (p : Pattern). OnOk c.extend_constant.result (AddsWhere c.args.self.now.graph.now c.args.self.now.numbers.now c.args.found.now.items c.extend_constant.new.found.items c.args.from.now (λ m. StandsIn c.args.self.now.graph.now c.args.self.now.numbers.now m p c.args.class) (names p) (reads (length c.args.from.now.vars.items) p))) e c.extend_constant.ensures

pub extend-returns-in-OverEach : goal.extend-returns-in-OverEach
extend-returns-in-OverEach t c =
    let e : over_each c.in-OverEach.which (each_seen c.in-OverEach.each) ≡ seen c.args.pattern.now = each_is c.args.pattern.now c.in-OverEach.which c.in-OverEach.each c.in-OverEach.is in
    subst (λ (p : Pattern). OnOk c.extend_each.result (AddsWhere c.args.self.now.graph.now c.args.self.now.numbers.now c.args.found.now.items c.extend_each.new.found.items c.args.from.now (λ m. StandsIn c.args.self.now.graph.now c.args.self.now.numbers.now m p c.args.class) (names p) (reads (length c.args.from.now.vars.items) p))) e c.extend_each.ensures

pub extend_all-loop-pattern-init : goal.extend_all-loop-pattern-init
extend_all-loop-pattern-init t c =
    let e : c.push.new.self.items ≡ c.in_ok-copy.field-0 ∷ [] = c.in_ok-push.ensures.items ∙ ap (λ (xs : List Binding). xs ++ c.in_ok-copy.field-0 ∷ []) c.new-bindings.ensures.items in
    subst (λ (bs : List Binding). Goes c.args.self.now.graph.now c.args.self.now.numbers.now c.args.from.now (listed (map seen c.args.patterns.now)) (map (class_of c.args.self.now.numbers.now) c.args.kids.now) bs (listed (map seen c.args.patterns.now)) (map (class_of c.args.self.now.numbers.now) c.args.kids.now)) (sym e)
    (goes_begin c.args.self.now.graph.now c.args.self.now.numbers.now c.args.from.now (listed (map seen c.args.patterns.now)) (map (class_of c.args.self.now.numbers.now) c.args.kids.now) c.in_ok-copy.field-0 c.in_ok-copy.ensures.names c.in_ok-copy.ensures.vars)

pub extend_all-extend-requires : goal.extend_all-extend-requires
extend_all-extend-requires t c =
    let at : slice_get c.args.patterns.now c.loop-pattern.pattern-index ≡ Some c.pattern-item.result = slice_get_read c.args.patterns.now (length c.args.patterns.now) c.loop-pattern.pattern-index c.pattern-item.result refl c.loop-pattern-test.true c.pattern-item.is in
    let there : slice_get c.deref-b-items.result.now c.loop-b.b-index ≡ Some c.b-item.result = slice_get_read c.deref-b-items.result.now (length c.deref-b-items.result.now) c.loop-b.b-index c.b-item.result refl c.loop-b-test.true c.b-item.is in
    let i : In c.loop-pattern.bindings.items c.b-item.result = subst (λ (bs : List Binding). In bs c.b-item.result) c.deref-b-items.ensures.value (get_in c.deref-b-items.result.now c.loop-b.b-index c.b-item.result there) in
    let read : IsRead (length c.b-item.result.vars.items) (seen c.pattern-item.result) =
    goes_read c.args.self.now.graph.now c.args.self.now.numbers.now c.args.from.now (listed (map seen c.args.patterns.now)) (map (class_of c.args.self.now.numbers.now) c.args.kids.now) c.loop-pattern.bindings.items (seen c.pattern-item.result) (listed (map seen (drop (c.loop-pattern.pattern-index + 1) c.args.patterns.now)))
    (class_of c.args.self.now.numbers.now (get_or c.loop-pattern.rest.now 0 0)) (map (class_of c.args.self.now.numbers.now) (take (length c.loop-pattern.rest.now - 1) (drop 1 c.loop-pattern.rest.now))) c.requires.read
    (goes_next c.args.self.now.graph.now c.args.self.now.numbers.now c.args.from.now (listed (map seen c.args.patterns.now)) (map (class_of c.args.self.now.numbers.now) c.args.kids.now) c.loop-pattern.bindings.items c.args.patterns.now c.loop-pattern.pattern-index c.pattern-item.result c.loop-pattern.rest.now at c.in-len1-up.len_at_least c.loop-pattern.invariant)
    c.b-item.result i in
    let s : size (seen c.pattern-item.result) ≤ sizes (listed (map seen c.args.patterns.now)) = element_size c.args.patterns.now c.loop-pattern.pattern-index c.pattern-item.result at in
    (omega (arith, s, c.decreases), (c.requires.members, read))

pub extend_all-loop-b-preserved : goal.extend_all-loop-b-preserved
extend_all-loop-b-preserved t c =
    let there : slice_get c.deref-b-items.result.now c.loop-b.b-index ≡ Some c.b-item.result = slice_get_read c.deref-b-items.result.now (length c.deref-b-items.result.now) c.loop-b.b-index c.b-item.result refl c.loop-b-test.true c.b-item.is in
    subst (λ (bs : List Binding). Extends c.args.self.now.graph.now c.args.self.now.numbers.now bs c.extend.new.found.items (λ m. StandsIn c.args.self.now.graph.now c.args.self.now.numbers.now m (seen c.pattern-item.result) (class_of c.args.self.now.numbers.now (get_or c.loop-pattern.rest.now 0 0))) (names (seen c.pattern-item.result)) (λ n. reads n (seen c.pattern-item.result)))
    (sym (take_next c.deref-b-items.result.now c.loop-b.b-index c.b-item.result there))
    (extends_more c.args.self.now.graph.now c.args.self.now.numbers.now (take c.loop-b.b-index c.deref-b-items.result.now) c.loop-b.next.items c.extend.new.found.items c.b-item.result (λ m. StandsIn c.args.self.now.graph.now c.args.self.now.numbers.now m (seen c.pattern-item.result) (class_of c.args.self.now.numbers.now (get_or c.loop-pattern.rest.now 0 0))) (names (seen c.pattern-item.result)) (λ n. reads n (seen c.pattern-item.result)) c.loop-b.invariant
    (subst (λ (k : ℕ). AddsWhere c.args.self.now.graph.now c.args.self.now.numbers.now c.loop-b.next.items c.extend.new.found.items c.b-item.result (λ m. StandsIn c.args.self.now.graph.now c.args.self.now.numbers.now m (seen c.pattern-item.result) k) (names (seen c.pattern-item.result)) (reads (length c.b-item.result.vars.items) (seen c.pattern-item.result))) c.class.ensures c.in_ok-extend.ensures))

pub extend_all-loop-pattern-preserved : goal.extend_all-loop-pattern-preserved
extend_all-loop-pattern-preserved t c =
    let at : slice_get c.args.patterns.now c.loop-pattern.pattern-index ≡ Some c.pattern-item.result = slice_get_read c.args.patterns.now (length c.args.patterns.now) c.loop-pattern.pattern-index c.pattern-item.result refl c.loop-pattern-test.true c.pattern-item.is in
    goes_on c.args.self.now.graph.now c.args.self.now.numbers.now c.args.from.now (listed (map seen c.args.patterns.now)) (map (class_of c.args.self.now.numbers.now) c.args.kids.now) c.loop-pattern.bindings.items c.loop-b.next.items (seen c.pattern-item.result) (listed (map seen (drop (c.loop-pattern.pattern-index + 1) c.args.patterns.now)))
    (class_of c.args.self.now.numbers.now (get_or c.loop-pattern.rest.now 0 0)) (map (class_of c.args.self.now.numbers.now) (take (length c.loop-pattern.rest.now - 1) (drop 1 c.loop-pattern.rest.now)))
    (goes_next c.args.self.now.graph.now c.args.self.now.numbers.now c.args.from.now (listed (map seen c.args.patterns.now)) (map (class_of c.args.self.now.numbers.now) c.args.kids.now) c.loop-pattern.bindings.items c.args.patterns.now c.loop-pattern.pattern-index c.pattern-item.result c.loop-pattern.rest.now at c.in-len1-up.len_at_least c.loop-pattern.invariant)
    (subst (λ (bs : List Binding). Extends c.args.self.now.graph.now c.args.self.now.numbers.now bs c.loop-b.next.items (λ m. StandsIn c.args.self.now.graph.now c.args.self.now.numbers.now m (seen c.pattern-item.result) (class_of c.args.self.now.numbers.now (get_or c.loop-pattern.rest.now 0 0))) (names (seen c.pattern-item.result)) (λ n. reads n (seen c.pattern-item.result)))
    (take_all c.loop-b.b-index c.deref-b-items.result.now c.loop-b-test.false ∙ c.deref-b-items.ensures.value) c.loop-b.invariant)

some_length : (xs : List ℕ) → length xs == 0 ≡ false → 1 ≤ length xs
some_length [] e = absurd (cc)
some_length (x ∷ xs) e = omega arith

module _ (t : ℕ) (c : goal.extend_all-After-drop-bindings-2 t) where
  abbrev At : List Binding → Type 0
  At found = AddsWhere c.args.self.now.graph.now c.args.self.now.numbers.now c.args.found.now.items found c.args.from.now (λ m. AllStandIn c.args.self.now.graph.now c.args.self.now.numbers.now m (listed (map seen c.args.patterns.now)) (map (class_of c.args.self.now.numbers.now) c.args.kids.now)) (names_in (listed (map seen c.args.patterns.now))) (reads_all (length c.args.from.now.vars.items) (listed (map seen c.args.patterns.now)))

pub extend_all-returns : goal.extend_all-returns
extend_all-returns t c = elim c.if-is_empty.branch [
  | extend_all-then-is_empty+in_ok-append w ↦
      subst (At t c) (sym (ap (λ (v : Vec Binding Global). v.items) w.found-is ∙ w.in_ok-append.ensures.items))
      (goes_done c.args.self.now.graph.now c.args.self.now.numbers.now c.args.from.now (listed (map seen c.args.patterns.now)) (map (class_of c.args.self.now.numbers.now) c.args.kids.now) c.args.found.now.items c.loop-pattern.bindings.items c.args.patterns.now c.loop-pattern.pattern-index c.loop-pattern.rest.now c.loop-pattern-test.false
      ((Decides-eqb (length c.loop-pattern.rest.now) 0).0 (sym c.is_empty.ensures ∙ w.if-is_empty.true)) c.loop-pattern.invariant)
  | extend_all-else-is_empty w ↦
      subst (At t c) (sym (ap (λ (v : Vec Binding Global). v.items) w.found-is))
      (goes_too_long c.args.self.now.graph.now c.args.self.now.numbers.now c.args.from.now (listed (map seen c.args.patterns.now)) (map (class_of c.args.self.now.numbers.now) c.args.kids.now) c.args.found.now.items c.loop-pattern.bindings.items c.args.patterns.now c.loop-pattern.pattern-index c.loop-pattern.rest.now c.loop-pattern-test.false
      (some_length c.loop-pattern.rest.now (sym c.is_empty.ensures ∙ w.if-is_empty.false)) c.loop-pattern.invariant)
]
