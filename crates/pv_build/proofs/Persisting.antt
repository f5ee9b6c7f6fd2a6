-- What nodes stand for, and their sorts, as a graph is made.
use Rattle.std.proofs.Common.{◌≡◌, ℕ, List, [], ◌∷◌, Option, Some, slice_get}
use Rattle.pv_build.proofs.Words.{Sort, Frame, Program, Op, OpSort, T, Node, In, Graph, Exp, Flow, put, Exit, Chain, Leave, Values, first_kid, depths, IsTiedName, Named, named, Reads, Stand, Within, GrowsBy, Opens, IsOfSort, IsMaybeOf, standing_reads, extends_stand, Cell, State, Ending, Leaving, Goes, Returns, Throws, Ran, Entry, StandsFor, ExitStands, RunsAlong, IsCellOf, FitsSort, IsStateOf, IsSortedEnding, IsSortedExit, IsTest, IsSortedRan, Method, Theta, Opened, Closed, number, flow_in, StandsAs, IsDone, HasBase, IsThetaOf, IsOpened, IsClosed}
use Rattle.pv_equations.specs.Flow as flow
use Rattle.pv_equations.specs.Flow.{Part}
use Rattle.pv_layout.proofs.Cited.{zip_map, all_map}

-- nodes keep what they stand for, and their sorts
pub record Persists (old new : Graph) : Type 0 where
  pub stand : Stand old.nodes new.nodes
  pub sorts : (n : ℕ) (t : OpSort) → slice_get old.sorts n ≡ Some t → slice_get new.sorts n ≡ Some t

pub grown : (P : Op → Type 0) (old new : Graph) → GrowsBy P old new → Persists old new
grown P old new g = record { stand = extends_stand old new g.extends; sorts = g.extends.sorts }

pub opened : (old new : Graph) (n : ℕ) → Opens old new n → Persists old new
opened old new n g = record { stand = extends_stand old new g.extends; sorts = g.extends.sorts }

module _ (old new : Graph) (p : Persists old new) where
  pub sort_on : (n : ℕ) (t : OpSort) → IsOfSort old n t → IsOfSort new n t
  sort_on n t is = p.sorts n t is

  pub maybe_on : (n : Option ℕ) (t : OpSort) → IsMaybeOf old t n → IsMaybeOf new t n
  maybe_on (Some n) t is = sort_on n t is
  maybe_on n t is = tt

  -- ---- with more names

  module _ (names more : List Named) (within : Within names more) where
    pub reads_on : (n : ℕ) (e : Exp) → Reads old.nodes names n e → Reads new.nodes more n e
    reads_on n e r = standing_reads.reads old.nodes new.nodes names more n e p.stand within r

    pub stands_on : (m : Method) (n : ℕ) (e : Values → Exp) → StandsAs m old names n e → StandsAs m new more n e
    stands_on m n e s v eqs = reads_on n (e v) (s v eqs)

    pub closed_on : (m : Method) (h : ℕ) (c : Closed) → IsClosed m old names h c → IsClosed m new more h c
    closed_on m h c is = record {
      depth = is.depth;
      token = sort_on c.token _ is.token;
      enters = stands_on m c.token (λ v. v.entering h 0) is.enters;
      ending_sort = sort_on c.ending _ is.ending_sort;
      ends = stands_on m c.ending (λ v. v.ending h) is.ends;
    }

    -- a tied theta that stays
    pub tied_on : (f : Flow) (v : Values) (h s n : ℕ) → ((x : Node) → slice_get old.nodes n ≡ Some x → slice_get new.nodes n ≡ Some x) → IsTiedName f v old.nodes names h s n → IsTiedName f v new.nodes more h s n
    tied_on f v h s n same is = record { first = is.first; second = is.second; theta_ = same _ is.theta_; enters = reads_on is.first _ is.enters; begins = reads_on is.second _ is.begins }

    -- an open loop whose thetas stay, and that has no more of them
    pub opened_on : (m : Method) (h : ℕ) → ((s n : ℕ) (x : Node) → In names (named h s n) → slice_get old.nodes n ≡ Some x → slice_get new.nodes n ≡ Some x) → ((s n : ℕ) → In more (named h s n) → In names (named h s n)) → (o : Opened)
        → (HasBase old o.base (depths (flow_in m) h) → HasBase new o.base (depths (flow_in m) h)) → IsOpened m old names h o → IsOpened m new more h o
    opened_on m h same only o base is = record {
      token = sort_on o.token T is.token;
      enters = stands_on m o.token (λ v. v.entering h 0) is.enters;
      has_base = base is.has_base;
      thetas = λ j x at. theta_on x (is.thetas j x at);
      all = λ s n among. is.all s n (only s n among);
      once = is.once;
      some = is.some;
    }
      where
        theta_on : (x : Theta) → IsThetaOf m old names h o.base x → IsThetaOf m new more h o.base x
        theta_on x t = record {
          is = within h (number x.slot) x.node t.is;
          first = stands_on m x.first (λ v. first_kid v h (number x.slot)) t.first;
          sort = (t.sort.0, sort_on x.node t.sort.0 t.sort.1, sort_on x.first t.sort.0 t.sort.2, t.sort.3);
          untied = same (number x.slot) x.node _ t.is t.untied;
          before = t.before;
          after = t.after;
        }

  -- ---- blocks

  stands_for_on : (at : Entry) (n : ℕ) (q : Part) → StandsFor at old.nodes n q → StandsFor at new.nodes n q
  stands_for_on at n q stands depth names base entered = reads_on names names (λ h s n i. i) n (put base q) (stands depth names base entered)

  exit_stands_on : (at : Entry) (x : Leaving) (e : Exit) → ExitStands at old.nodes x e → ExitStands at new.nodes x e
  exit_stands_on at x e s = record { dest = s.dest; slots_ = λ k n h. stands_for_on at n (e.slots k) (s.slots_ k n h) }

  runs_on : (at : Entry) (ts : List ℕ) (es : List Leaving) (c : Chain) → RunsAlong at old.nodes ts es c → RunsAlong at new.nodes ts es c
  runs_on at [] [] c r = absurd r
  runs_on at [] (e ∷ []) (Leave x) r = exit_stands_on at e x r
  runs_on at [] (e ∷ []) (flow.Test q x c) r = absurd r
  runs_on at [] (e ∷ k ∷ es) c r = absurd r
  runs_on at (t ∷ ts) [] c r = absurd r
  runs_on at (t ∷ ts) (e ∷ es) (Leave x) r = absurd r
  runs_on at (t ∷ ts) (e ∷ es) (flow.Test q x c) r = (stands_for_on at t q r.0, exit_stands_on at e x r.1, runs_on at ts es c r.2)

  pub cell_on : (c : Cell) (t : Sort) → IsCellOf old c t → IsCellOf new c t
  cell_on c t is = (is.0, sort_on c.node _ is.1)

  fits_on : (c : Cell) (t : Sort) → FitsSort old c t → FitsSort new c t
  fits_on c t f = (f.0, sort_on c.node _ f.1)

  pub state_on : (c : State) (f : Frame) → IsStateOf old c f → IsStateOf new c f
  state_on c f is = record {
    stack = zip_map (IsCellOf old) (IsCellOf new) cell_on c.stack f.stack is.stack;
    locals = zip_map (IsCellOf old) (IsCellOf new) cell_on c.locals f.locals is.locals;
    heap = sort_on _ _ is.heap;
    token = sort_on _ _ is.token;
  }

  ending_on : (t : Sort) (e : Ending) → IsSortedEnding old t e → IsSortedEnding new t e
  ending_on t e s = record { token = sort_on _ _ s.token; fault = sort_on _ _ s.fault; result_is = sort_on _ _ s.result_is; heap = sort_on _ _ s.heap }

  module _ (program : Program) (frames : List (Option Frame)) where
    pub exit_on : (x : Leaving) → IsSortedExit old program frames x → IsSortedExit new program frames x
    exit_on (Goes place c) (f, at, fits) = (
      f,
      at,
      record {
        stack = zip_map (IsCellOf old) (IsCellOf new) cell_on c.stack f.stack fits.stack;
        locals = zip_map (FitsSort old) (FitsSort new) fits_on c.locals f.locals fits.locals;
        heap = sort_on _ _ fits.heap;
        token = sort_on _ _ fits.token;
      },
    )
    exit_on (Returns e) s = ending_on _ e s
    exit_on (Throws e) s = ending_on _ e s

    ran_on : (ran : Ran) → IsSortedRan old program frames ran → IsSortedRan new program frames ran
    ran_on ran s = record {
      tests = all_map (IsTest old) (IsTest new) (λ n h. sort_on n _ h) ran.tests.items s.tests;
      exits = all_map (IsSortedExit old program frames) (IsSortedExit new program frames) exit_on ran.exits.items s.exits;
    }

  pub done_on : (m : Method) (names more : List Named) → Within names more → (b : ℕ) (ran : Ran) → IsDone m old names b ran → IsDone m new more b ran
  done_on m names more within b ran d = record {
    block = d.block;
    there = d.there;
    chain = d.chain;
    is = d.is;
    at = d.at;
    stands = runs_on d.at ran.tests.items ran.exits.items d.chain d.stands;
    sorted = ran_on m.typed.now.program m.typed.now.frames ran d.sorted;
    earlier = d.earlier;
    within = λ h s n i. within h s n (d.within h s n i);
    entered = d.entered;
  }
